-- The next arena is the model's.
use Rattle.std.proofs.Common.{◌≡◌, ◌∙◌, ap, Option}
use Rattle.std.specs.Prelude.{is_some}
use Rattle.vt_log.specs.declared.filling.Filling.{Filling}
use Rattle.vt_log.specs.Log.{has_next}
use Rattle.vt_log.proofs.Appends.{has_next_is}
use Rattle.vt_log.proofs.log.Log.room.Goals as goal

pub returns : goal.returns
returns g c =
    let room : c.is_some.result ≡ has_next c.args.self.now c.args.n = c.is_some.ensures ∙ ap (λ (o : Option Filling). is_some o) c.next_filling.ensures.next in
    record { room = room; next = λ h sound. room ∙ has_next_is _ _ c.args.self.now h sound c.args.n }
