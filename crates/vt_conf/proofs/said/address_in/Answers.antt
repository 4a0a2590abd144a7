use Rattle.std.proofs.Common.{None, refl, subst, ap, sym, ◌∙◌}
use Rattle.std.specs.Option.{option_copied}
use Rattle.vt_conf.specs.declared.keyword.Keyword.TheVariants.{Addr}
use Rattle.vt_conf.specs.Configuration.{IsAddressIn}
use Rattle.vt_conf.specs.Addresses.{SpellsAddress}
use Rattle.vt_conf.proofs.LineSettings.{address_of_first, none_said}
use Rattle.vt_conf.proofs.said.address_in.Goals as goal

pub returns-in_ok-address-in-Some : goal.returns-in_ok-address-in-Some
returns-in_ok-address-in-Some c =
    address_of_first c.args.settings.now c.in-Some.setting.now c.in_ok-address-in-Some.address c.unwrap_or.result _
    c.requires (sym (ap option_copied c.in-Some.is) ∙ c.first.ensures)
    (λ a spells. c.in_ok-address-in-Some.ensures.only a (subst (SpellsAddress a) (sym c.as_slice.ensures) spells)) c.unwrap_or.ensures

pub returns-in-None : goal.returns-in-None
returns-in-None c =
    subst (IsAddressIn (record { host = None; port = 17034 })) (sym (none_said Addr c.args.settings.now (sym (ap option_copied c.in-None.is) ∙ c.first.ensures))) refl
