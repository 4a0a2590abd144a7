use Rattle.vt_conf.proofs.Meanings.{same_size, one_address}
use Rattle.vt_conf.proofs.laws.texts_have_one_meaning.Goals as goal

pub returns-clause-size : goal.returns-clause-size
returns-clause-size c = same_size

pub returns-clause-address : goal.returns-clause-address
returns-clause-address c = one_address
