use Rattle.std.proofs.Common.{◌≡◌, ⊎_elim, None, rules}
use Rattle.vt_bloom.proofs.Powers.{has_room}
use Rattle.vt_bloom.proofs.Saves.{advances, crash_stays, step_sound, has_either, either_covers, has_new, largest_stays}
use Rattle.vt_bloom.proofs.bloom.Bloom.advance.Goals as goal

-- where it is stopped

pub returns-in-Some-clause-crash : goal.returns-in-Some-clause-crash
returns-in-Some-clause-crash g c saved coming told held = crash_stays _ saved coming _ _ held

pub returns-in-Some-clause-covered : goal.returns-in-Some-clause-covered
returns-in-Some-clause-covered g c saved coming scores told held old new file left =
    either_covers _ saved coming _ _ held _ scores old (λ _. new) file
    (crash_stays _ saved coming _ _ held file left)

-- where it makes a call

runs : (g : _) (c : goal.After-end_save g) → c.self.inside.calls.stopped ≡ None
runs g c = search rules

pub advance-outcome-requires-clause-room : goal.advance-outcome-requires-clause-room
advance-outcome-requires-clause-room g c =
    rw (c.region-region.ensures, c.self.invariant.twin)
    (has_room c.self.inside.m _ c.self.invariant.counts.least c.self.invariant.counts.most
    c.self.invariant.room)

pub returns-clause-sound : goal.returns-clause-sound
returns-clause-sound g c =
    let some = rw (← c.self.view_is) at c.requires in
    let stepped = rw c.region-region.ensures at c.advance-outcome.ensures.sound in
    rw (← c.self.view_is, c.end_save.ensures.told, c.end_save.ensures.twin, c.end_save.ensures.mark)
    (λ saved coming told held.
    step_sound _ saved coming _ _ held some c.advance-outcome.new.disk c.advance-outcome.new.self
    c.advance-outcome.new.calls _ _ c.advance-outcome.ensures.len
    (largest_stays c.self.inside.m _ _ _ c.advance-outcome.ensures.within.images held.largest)
    c.advance-outcome.result (c.advance-outcome.ensures.steps (runs g c)) (stepped held.old told held.twin))

pub returns-clause-crash : goal.returns-clause-crash
returns-clause-crash g c =
    let some = rw (← c.self.view_is) at c.requires in
    let crashed = rw c.region-region.ensures at c.advance-outcome.ensures.crash in
    rw (← c.self.view_is)
    (λ saved coming told held file left.
    has_either _ saved coming _ _ held _ (λ _. some) file
    (⊎_elim (held.largest file)
    (largest_stays c.self.inside.m _ _ _ c.advance-outcome.ensures.within.images held.largest file)
    left)
    (crashed held.old told held.twin file left))

pub returns-clause-covered : goal.returns-clause-covered
returns-clause-covered g c saved coming scores told held old new file left =
    either_covers _ saved coming _ _ held _ scores old (λ _. new) file
    (returns-clause-crash g c saved coming told held file left)

pub returns-clause-last : goal.returns-clause-last
returns-clause-last g c =
    let some = rw (← c.self.view_is) at c.requires in
    let ended = rw c.region-region.ensures at c.advance-outcome.ensures.last in
    rw (← c.self.view_is, c.end_save.ensures.told)
    (λ saved coming told held done file left.
    has_new _ saved coming _ _ held some file
    (largest_stays c.self.inside.m _ _ _ c.advance-outcome.ensures.within.images held.largest file left)
    (ended held.old told held.twin done file left))

pub returns-clause-steps : goal.returns-clause-steps
returns-clause-steps g c =
    rw (← c.self.view_is, c.end_save.ensures.told, c.end_save.ensures.twin, c.end_save.ensures.mark)
    (advances _ c.advance-outcome.new.disk c.advance-outcome.new.self c.advance-outcome.new.calls
    c.advance-outcome.result (runs g c) c.advance-outcome.ensures.stopped (c.advance-outcome.ensures.steps (runs g c)) (c.advance-outcome.ensures.makes (runs g c)).counts)

pub returns-clause-stopped : goal.returns-clause-stopped
returns-clause-stopped g c = rw (← c.self.view_is, c.end_save.ensures.told) c.advance-outcome.ensures.stopped
