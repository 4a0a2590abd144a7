use Rattle.std.proofs.Common.{sym, ap, ◌∙◌, List}
use Rattle.std.specs.Prelude.{slice_get}
use Rattle.vt_arena.specs.declared.head.Found.{Found}
use Rattle.vt_log.proofs.mounting.make_room.Goals as goal

pub room_for-requires-clause-heads : goal.room_for-requires-clause-heads
room_for-requires-clause-heads c r found at_r at_found =
    c.requires.heads c.first_unsealed-base.result r found at_r (ap (λ (hs : List Found). slice_get hs c.first_unsealed-base.result) (sym c.deref-2.ensures.value) ∙ at_found)
