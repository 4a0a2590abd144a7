use Rattle.std.proofs.Common.{◌≡◌, true, false, take, sym, ◌∙◌}
use Rattle.std.specs.Prelude.{MatchBool}
use Rattle.vt_client.specs.Greetings.{OffersVersion, LacksVersion}
use Rattle.vt_client.proofs.Lines.{judged}
use Rattle.vt_client.proofs.greeting.take_line.Goals as goal

pub returns-then-offers_version-clause-taken : goal.returns-then-offers_version-clause-taken
returns-then-offers_version-clause-taken g c = λ told.
    let line = take c.in_ok-n.n c.take_to_newline.new.buf in (
      line,
      judged line c.in_ok-n.ensures.line c.decode_line.result (sym c.decode_line.ensures) true
          (sym c.if-offers_version.true ∙ c.offers_version.ensures),
      c.in_ok-n.ensures.taken told,
    )

pub returns-else-offers_version-clause-taken : goal.returns-else-offers_version-clause-taken
returns-else-offers_version-clause-taken g c = λ told.
    let line = take c.in_ok-n.n c.take_to_newline.new.buf in (
      line,
      judged line c.in_ok-n.ensures.line c.decode_line.result (sym c.decode_line.ensures) false
          (sym c.if-offers_version.false ∙ c.offers_version.ensures),
      c.in_ok-n.ensures.taken told,
    )
