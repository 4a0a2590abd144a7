use Rattle.std.proofs.Common.{◌≡◌, Some, None, refl, sym, ◌∙◌}
use Rattle.vt_conf.proofs.setting.test_size.Goals as goal

pub returns-in-None-clause-bad : goal.returns-in-None-clause-bad
returns-in-None-clause-bad c =
    (refl, λ size. let no : None ≡ Some size.0 = sym c.in-None.is ∙ c.parse_size.ensures.only size.0 size.1 in cc)
