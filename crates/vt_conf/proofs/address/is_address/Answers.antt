use Rattle.vt_conf.proofs.AddressTexts.{yes_address, no_address}
use Rattle.vt_conf.proofs.address.is_address.Goals as goal

pub returns-clause-yes : goal.returns-clause-yes
returns-clause-yes c = yes_address c.args.text.now c.split_address.result c.is_some.result c.is_some.ensures c.split_address.ensures.parts

pub returns-clause-no : goal.returns-clause-no
returns-clause-no c = no_address c.args.text.now c.split_address.result c.is_some.result c.is_some.ensures c.split_address.ensures.only
