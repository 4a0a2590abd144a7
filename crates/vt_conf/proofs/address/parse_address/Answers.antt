use Rattle.vt_conf.proofs.AddressTexts.{same_address}
use Rattle.vt_conf.proofs.address.parse_address.Goals as goal

pub returns-in_default-clause-only : goal.returns-in_default-clause-only
returns-in_default-clause-only c a s =
    absurd (c.in_default.ensures.only s.host_text a.port s.parts)

pub returns-clause-only : goal.returns-clause-only
returns-clause-only c a s =
    let both = c.in-Some.ensures.only s.host_text a.port s.parts in
    same_address c.in_ok-host.host c.in-Some.port c.in-Some.host.now a c.args.text.now s c.in_ok-host.ensures both.0 both.1
