use Rattle.vt_disk.specs.DeviceCalls.{CallMade}
use Rattle.vt_disk.proofs.DeviceCalls.{makes_told}
use Rattle.vt_arena.specs.Whole.{state_of}
use Rattle.vt_arena.specs.Written.{next_piece}
use Rattle.vt_arena.proofs.Memory.{at_rest, entries_length, entries_room, piece_room}
use Rattle.vt_arena.proofs.Writes.{piece_fits, piece_sound, piece_within}
use Rattle.vt_arena.proofs.arena.Arena.write_piece.Goals as goal

pub make-outcome-requires-clause-fits : goal.make-outcome-requires-clause-fits
make-outcome-requires-clause-fits g c =
    let a = c.self.inside in
    let same = rw (← c.self.view_is) at c.requires.same in
    rw (c.next_piece.ensures, ← c.self.view_is)
    (piece_fits (state_of a) c.args.region _ c.requires.region (piece_room a c.self.invariant _ same) (entries_room a c.self.invariant _ same)
    (entries_length a c.self.invariant))

-- the call that was made, told by the answer
makes : (g : _) (c : goal.After-go_on g) → CallMade g.D.Disk (next_piece (state_of c.self.inside) c.args.region) c.go_on.result
    c.args.calls.now c.make-outcome.new.self c.args.disk.now c.make-outcome.new.disk
makes g c =
    makes_told g.D.Disk _ _ _ _ _ _ _ c.go_on.ensures.outcome
    (rw (c.next_piece.ensures, ← c.self.view_is) at c.make-outcome.ensures)

pub returns-clause-writes : goal.returns-clause-writes
returns-clause-writes g c =
    let a = c.self.inside in
    let same = rw (← c.self.view_is) at c.requires.same in
    piece_within g.D.Disk (state_of a) c.args.region _ _ c.requires.region (rw (← c.self.view_is) at c.requires.next) _ _ _ (makes g c)
    (piece_room a c.self.invariant _ same) (entries_room a c.self.invariant _ same) (entries_length a c.self.invariant)

pub returns-clause-sound : goal.returns-clause-sound
returns-clause-sound g c score_of old told sound =
    let a = c.self.inside in
    let same = rw (← c.self.view_is) at c.requires.same in
    piece_sound g.D.Disk (state_of a) c.args.region _ _ c.requires.region (rw (← c.self.view_is) at c.requires.next) _ _ _ (makes g c)
    (piece_room a c.self.invariant _ same) (entries_room a c.self.invariant _ same) (entries_length a c.self.invariant)
    _ (rw (← c.self.view_is) at c.go_on.ensures.steps) score_of old
    (at_rest a c.self.invariant (rw (← c.self.view_is) at c.requires.next)) told
    (g.met.D.Disk.images_fit _ _ (g.met.D.Disk.read_is_image _ told)).0 (rw (← c.self.view_is) at sound)
