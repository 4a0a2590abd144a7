use Rattle.vt_model.proofs.Numbers.{collides-zero, collides-other, collides-same, collides-none, collides-by, collides-free}
use Rattle.vt_model.proofs.laws.collides_by_number.Goals as goal

pub returns : goal.returns
returns c = record {
  zero = collides-zero;
  other = λ score h i bytes. collides-other score h bytes i;
  same = λ score h i bytes. collides-same score h bytes i;
  none = collides-none;
  found = collides-by;
  free = collides-free;
}
