use Rattle.vt_model.proofs.Added.{adds_when}
use Rattle.vt_model.proofs.Spots.{place_of-append, place_of-push}
use Rattle.vt_model.proofs.laws.places_stay.Goals as goal

pub returns : goal.returns
returns c = record {
  earlier = place_of-append;
  added = place_of-push;
  arena = λ score c h m e is. (adds_when score c h m e is).may.room;
}
