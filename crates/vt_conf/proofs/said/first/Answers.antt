use Rattle.std.proofs.Common.{◌≡◌, Option, Some, None, Bor, refl, ◌∙◌, rules}
use Rattle.std.specs.Prelude.{option_map}
use Rattle.std.specs.Option.{option_copied}
use Rattle.std.proofs.lemmas.Iterator.{YieldsList-from_slice}
use Rattle.std.proofs.lemmas.Iterator.Search.{find_from_yields_List}
use Rattle.vt_conf.specs.Configuration.{is_of}
use Rattle.vt_conf.specs.declared.setting.Setting.{Setting}
use Rattle.vt_conf.proofs.said.first.Goals as goal

copied : (o : Option (Bor Setting)) → option_copied o ≡ option_map (λ s. s.now) o
copied None = refl
copied (Some s) = refl

pub returns : goal.returns
returns c =
    copied c.find.result
    ∙ find_from_yields_List (is_of c.args.keyword) _ _ c.find.result c.find.ensures.ran (YieldsList-from_slice c.args.settings.now cc)
    (λ x b q called. search rules)
