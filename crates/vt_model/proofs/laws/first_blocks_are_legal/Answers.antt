use Rattle.vt_model.proofs.First.{IsLegal-take, place_of-take, key_in_take, key_of_take, current_arena-take}
use Rattle.vt_model.proofs.laws.first_blocks_are_legal.Goals as goal

pub returns : goal.returns
returns c = record {
  legal = IsLegal-take;
  places = place_of-take;
  keys = λ score h n i s kind. (key_in_take score h n i s kind, key_of_take score h n i s kind);
  arena = current_arena-take;
}
