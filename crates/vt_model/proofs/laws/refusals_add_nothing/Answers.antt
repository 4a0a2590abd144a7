use Rattle.vt_model.proofs.Added.{adds_when, added-refused}
use Rattle.vt_model.proofs.laws.refusals_add_nothing.Goals as goal

pub returns : goal.returns
returns c = record {
  operation = λ score c h m e is. (adds_when score c h m e is).operation;
  reply = λ score c h m e is. (adds_when score c h m e is).reply;
  refused = added-refused;
}
