use Rattle.std.proofs.Common.{◌≡◌, List, ℕ, subst, ap, sym, ◌∙◌}
use Rattle.std.specs.Prelude.{IfOk}
use Rattle.std.specs.Option.{option_copied}
use Rattle.vt_conf.specs.declared.keyword.Keyword.TheVariants.{Index}
use Rattle.vt_conf.specs.Configuration.{name_in}
use Rattle.vt_conf.proofs.LineSettings.{first_said, none_said}
use Rattle.vt_conf.proofs.said.name_in.Goals as goal

pub returns-in-Some : goal.returns-in-Some
returns-in-Some c =
    let first = first_said Index c.args.settings.now c.in-Some.setting.now (sym (ap option_copied c.in-Some.is) ∙ c.first.ensures) in
    subst (λ (t : List ℕ). IfOk c.copy_of.result (λ name. name ≡ t)) (c.as_slice.ensures ∙ sym (ap name_in first.1)) c.copy_of.ensures

pub returns-in-None : goal.returns-in-None
returns-in-None c =
    let none = none_said Index c.args.settings.now (sym (ap option_copied c.in-None.is) ∙ c.first.ensures) in
    subst (λ (t : List ℕ). IfOk c.copy_of-in-None.result (λ name. name ≡ t)) (sym (ap name_in none)) c.copy_of-in-None.ensures
