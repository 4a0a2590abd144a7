use Rattle.std.proofs.Common.{◌+◌, ◌*◌, ◌≤◌, subst, arith}
use Rattle.vt_twin.specs.Frames.{current_frame}
use Rattle.vt_twin.specs.Twin.{TwinState}
use Rattle.vt_twin.specs.Sound.{IsSoundTwin}
use Rattle.vt_isect.specs.Layout.{head_place}
use Rattle.vt_isect.proofs.OneSection.{one_head}
use Rattle.vt_isect.proofs.RefusesMount.{only_calls_fail}
use Rattle.vt_isect.proofs.Mounts.{mounted_sound, mounted_agrees}
use Rattle.vt_isect.proofs.mounting.mount.Goals as goal

pub returns-in-Ok-clause-head : goal.returns-in-Ok-clause-head
returns-in-Ok-clause-head g c told = rw c.new.ensures (c.in-Ok.ensures.head told)

pub returns-in-Ok-clause-sound : goal.returns-in-Ok-clause-sound
returns-in-Ok-clause-sound g c known told =
    let room : 24576 + 16896 * c.buckets_in-buckets.result ≤ g.D.Disk.size c.open.new.disk = omega (arith, c.in-Ok.ensures.room) in
    rw (c.new.ensures, ← c.open.ensures.reads.bytes)
    (mounted_sound c.open.new.disk c.buckets_in-buckets.result c.in-Ok.opened.name c.in-Ok.opened.head c.in-Ok.opened.twin.current _ (g.D.Disk.bytes c.open.new.disk) (g.D.Disk.images c.open.new.disk) room (g.met.D.Disk.size_fits _)
    (c.in-Ok.ensures.settled tt told) (rw (← c.open.ensures.reads.bytes) at (c.in-Ok.ensures.head told))
    (subst (λ (t : TwinState). IsSoundTwin t head_place (current_frame head_place 8192 (g.D.Disk.bytes c.open.new.disk)) (g.D.Disk.bytes c.open.new.disk) (g.D.Disk.images c.open.new.disk)) c.in-Ok.ensures.twin (rw (← c.open.ensures.reads.bytes) at (c.in-Ok.ensures.sound told))) known)

pub returns-in-Ok-clause-agrees : goal.returns-in-Ok-clause-agrees
returns-in-Ok-clause-agrees g c score setup h entries told =
    let room : 24576 + 16896 * c.buckets_in-buckets.result ≤ g.D.Disk.size c.open.new.disk = omega (arith, c.in-Ok.ensures.room) in
    rw (c.new.ensures, ← c.open.ensures.reads.bytes)
    (mounted_agrees c.open.new.disk c.buckets_in-buckets.result c.in-Ok.opened.name c.in-Ok.opened.head c.in-Ok.opened.twin.current _ (g.D.Disk.bytes c.open.new.disk) (g.D.Disk.images c.open.new.disk) room (g.met.D.Disk.size_fits _)
    (c.in-Ok.ensures.settled tt told) (rw (← c.open.ensures.reads.bytes) at (c.in-Ok.ensures.head told))
    (subst (λ (t : TwinState). IsSoundTwin t head_place (current_frame head_place 8192 (g.D.Disk.bytes c.open.new.disk)) (g.D.Disk.bytes c.open.new.disk) (g.D.Disk.images c.open.new.disk)) c.in-Ok.ensures.twin (rw (← c.open.ensures.reads.bytes) at (c.in-Ok.ensures.sound told))) score setup h entries)

pub returns-in-Ok-clause-all_are_found : goal.returns-in-Ok-clause-all_are_found
returns-in-Ok-clause-all_are_found g c name head told room is =
    rw c.new.ensures (one_head _ _ _ _ _ (c.in-Ok.ensures.head told) is)

pub returns-in-Err-clause-all_are_found : goal.returns-in-Err-clause-all_are_found
returns-in-Err-clause-all_are_found g c name head told room is =
    only_calls_fail name head _ _ c.in-Err.bad room is (c.in-Err.ensures.refused told)
