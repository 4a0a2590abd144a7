use Rattle.std.proofs.Common.{refl, subst, ap, sym, ◌∙◌}
use Rattle.std.specs.Option.{option_copied}
use Rattle.vt_conf.specs.Configuration.{IsSizeIn}
use Rattle.vt_conf.specs.Sizes.{SpellsSize}
use Rattle.vt_conf.proofs.LineSettings.{size_of_first, none_said}
use Rattle.vt_conf.proofs.said.size_in.Goals as goal

pub returns-in-Some : goal.returns-in-Some
returns-in-Some c =
    size_of_first c.args.keyword c.args.settings.now c.in-Some.setting.now c.parse_size.result c.unwrap_or.result c.args.default
    c.requires.values c.requires.size (sym (ap option_copied c.in-Some.is) ∙ c.first.ensures)
    (λ n spells. c.parse_size.ensures.only n (subst (SpellsSize n) (sym c.as_slice.ensures) spells)) c.unwrap_or.ensures

pub returns-in-None : goal.returns-in-None
returns-in-None c =
    subst (IsSizeIn c.args.default c.args.default) (sym (none_said c.args.keyword c.args.settings.now (sym (ap option_copied c.in-None.is) ∙ c.first.ensures))) refl
