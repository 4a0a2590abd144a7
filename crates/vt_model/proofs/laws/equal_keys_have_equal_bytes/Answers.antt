use Rattle.vt_model.proofs.Keys.{equal_bytes, equal_places}
use Rattle.vt_model.proofs.laws.equal_keys_have_equal_bytes.Goals as goal

pub returns : goal.returns
returns c = record { bytes = equal_bytes; place = equal_places }
