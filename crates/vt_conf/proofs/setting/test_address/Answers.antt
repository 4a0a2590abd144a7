use Rattle.std.proofs.Common.{refl}
use Rattle.vt_conf.proofs.setting.test_address.Goals as goal

pub returns-else-is_address-clause-bad : goal.returns-else-is_address-clause-bad
returns-else-is_address-clause-bad c = (refl, λ address. c.if-is_address.ensures.no address.0 address.1)
