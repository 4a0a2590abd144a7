use Rattle.std.proofs.Common.{◌≡◌, Some, ⊎_elim, ap, sym, ◌∙◌, codes}
use Rattle.std.proofs.lemmas.Slice.Eq.{bytes_eq-Decides}
use Rattle.vt_conf.proofs.AddressTexts.{venti_is_no_number}
use Rattle.vt_conf.proofs.address.port_of.Goals as goal

pub returns-then-eq-clause-only : goal.returns-then-eq-clause-only
returns-then-eq-clause-only c port is =
    let text = c.args.text.now in
    let named : text ≡ codes "venti" = (bytes_eq-Decides text c.as_slice.result.now).0 (sym c.eq.ensures ∙ c.if-eq.true) ∙ c.as_slice.ensures in
    ⊎_elim (λ (venti : (text ≡ codes "venti") × (port ≡ 17034)). ap Some (sym venti.1))
    (λ number. absurd (venti_is_no_number port number.2 (sym named ∙ number.0)))
    is
