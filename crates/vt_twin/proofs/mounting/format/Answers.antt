use Rattle.std.proofs.Common.{◌≡◌, IsTrue, List, ℕ, length, ◌∙◌, ap, arith}
use Rattle.std.proofs.lemmas.Result.{on_ok_weaker}
use Rattle.vt_disk.specs.Calls.{OnlyReads}
use Rattle.vt_disk.specs.Disk.{with_bytes}
use Rattle.vt_disk.proofs.Calls.{on_err, made_then}
use Rattle.vt_twin.specs.Formatting.{EndsFormat}
use Rattle.vt_twin.specs.Frames.{selector_start, selector_len, selector_bytes, frame_of, selector_of}
use Rattle.vt_twin.proofs.EndsFormat.{frame_writes, both_write, all_write, first_writes_within, formatted, formatted_frame, formatted_selector, formatted_idle, formatted_current, frame_is_whole}
use Rattle.vt_twin.proofs.mounting.format.Goals as goal

-- the frame's write failed

pub returns-in_err-write_at-clause-writes : goal.returns-in_err-write_at-clause-writes
returns-in_err-write_at-clause-writes g c =
    first_writes_within c.args.region (length c.args.frame.now) _ c.requires g.D.Disk 1 1 (omega arith) _ _
    (frame_writes c.args.region (length c.args.frame.now) _ c.requires g.D.Disk _ _ c.write_at.ensures.writes 1 (omega arith))

pub returns-in_err-write_at-clause-failed : goal.returns-in_err-write_at-clause-failed
returns-in_err-write_at-clause-failed g c = on_err {P = (made : ℕ) × EndsFormat g.D.Disk c.args.region c.args.frame.now made c.args.disk.now c.write_at.new.disk} _ (
  0,
  record {
    few = omega arith;
    calls = c.write_at.ensures.calls;
    writes = frame_writes c.args.region (length c.args.frame.now) _ c.requires g.D.Disk _ _ c.write_at.ensures.writes 1 (omega arith);
    frame_is = λ some. absurd (omega (arith, some));
    selector_is = λ some. absurd (omega (arith, some));
  },
)

-- the selector's write failed

pub returns-in_err-write_selector-clause-writes : goal.returns-in_err-write_selector-clause-writes
returns-in_err-write_selector-clause-writes g c =
    first_writes_within c.args.region (length c.args.frame.now) _ c.requires g.D.Disk 2 2 (omega arith) _ _
    (both_write c.args.region (length c.args.frame.now) _ c.requires g.D.Disk _ _ c.write_at.ensures.writes _ c.write_selector.ensures.writes 2 (omega arith))

pub returns-in_err-write_selector-clause-failed : goal.returns-in_err-write_selector-clause-failed
returns-in_err-write_selector-clause-failed g c = on_err {P = (made : ℕ) × EndsFormat g.D.Disk c.args.region c.args.frame.now made c.args.disk.now c.write_selector.new.disk} _ (
  1,
  record {
    few = omega arith;
    calls = made_then g.D.Disk 1 1 _ _ _ c.write_at.ensures.calls c.write_selector.ensures.calls;
    writes = both_write c.args.region (length c.args.frame.now) _ c.requires g.D.Disk _ _ c.write_at.ensures.writes _ c.write_selector.ensures.writes 2 (omega arith);
    frame_is = λ some told. frame_is_whole c.args.region c.args.frame.now (g.D.Disk.bytes c.args.disk.now) _ c.requires
        ((g.met.D.Disk.images_fit _ _ (g.met.D.Disk.read_is_image _ told)).0) _
        (rw (c.in_ok-write_at.ensures.written told) at (c.write_selector.ensures.writes.bytes told));
    selector_is = λ some. absurd (omega (arith, some));
  },
)

-- the sync failed, or it didn't

-- a sync only reads
syncs : (g : _) (c : goal.After-sync g) → OnlyReads g.D.Disk 1 c.write_selector.new.disk c.sync.new.self
syncs g c = record {
  bytes = c.sync.ensures.bytes;
  images = c.sync.ensures.images;
  size = c.sync.ensures.size;
  calls = λ told. omega (arith, c.sync.ensures.calls told);
}

pub returns-clause-writes : goal.returns-clause-writes
returns-clause-writes g c =
    first_writes_within c.args.region (length c.args.frame.now) _ c.requires g.D.Disk 3 3 (omega arith) _ _
    (all_write c.args.region (length c.args.frame.now) _ c.requires g.D.Disk _ _ c.write_at.ensures.writes _ _ c.write_selector.ensures.writes (syncs g c))

-- what a read gives at last
left : (g : _) (c : goal.After-sync g) → IsTrue g.D.Disk.tells → g.D.Disk.bytes c.sync.new.self ≡ formatted c.args.region c.args.frame.now (g.D.Disk.bytes c.args.disk.now)
left g c told =
    c.sync.ensures.bytes ∙ c.in_ok-write_selector.ensures.written told
    ∙ ap (λ (file : List ℕ). with_bytes (selector_start c.args.region (length c.args.frame.now)) (selector_bytes 0 (selector_len c.args.region (length c.args.frame.now))) file)
    (c.in_ok-write_at.ensures.written told)

-- as many bytes as the disk has
whole : (g : _) (c : goal.After-sync g) → IsTrue g.D.Disk.tells → length (g.D.Disk.bytes c.args.disk.now) ≡ g.D.Disk.size c.args.disk.now
whole g c told = (g.met.D.Disk.images_fit _ _ (g.met.D.Disk.read_is_image _ told)).0

frame_left : (g : _) (c : goal.After-sync g) → IsTrue g.D.Disk.tells → frame_of c.args.region (length c.args.frame.now) 0 (g.D.Disk.bytes c.sync.new.self) ≡ c.args.frame.now
frame_left g c told = rw (left g c told) (formatted_frame c.args.region c.args.frame.now (g.D.Disk.bytes c.args.disk.now) _ c.requires (whole g c told))

selector_left : (g : _) (c : goal.After-sync g) → IsTrue g.D.Disk.tells
    → selector_of c.args.region (length c.args.frame.now) (g.D.Disk.bytes c.sync.new.self) ≡ selector_bytes 0 (selector_len c.args.region (length c.args.frame.now))
selector_left g c told = rw (left g c told) (formatted_selector c.args.region c.args.frame.now (g.D.Disk.bytes c.args.disk.now) _ c.requires (whole g c told))

pub returns-clause-frame : goal.returns-clause-frame
returns-clause-frame g c = on_ok_weaker c.sync.result (λ settled told. frame_left g c told) c.sync.ensures.settled

pub returns-clause-selector : goal.returns-clause-selector
returns-clause-selector g c = on_ok_weaker c.sync.result (λ settled told. selector_left g c told) c.sync.ensures.settled

pub returns-clause-idle : goal.returns-clause-idle
returns-clause-idle g c =
    on_ok_weaker c.sync.result
    (λ settled told. rw (left g c told) (formatted_idle c.args.region c.args.frame.now (g.D.Disk.bytes c.args.disk.now) _ c.requires (whole g c told)))
    c.sync.ensures.settled

pub returns-clause-current : goal.returns-clause-current
returns-clause-current g c =
    on_ok_weaker c.sync.result
    (λ settled told. rw (left g c told) (formatted_current c.args.region c.args.frame.now (g.D.Disk.bytes c.args.disk.now) _ c.requires (whole g c told)))
    c.sync.ensures.settled

pub returns-clause-failed : goal.returns-clause-failed
returns-clause-failed g c = on_err {P = (made : ℕ) × EndsFormat g.D.Disk c.args.region c.args.frame.now made c.args.disk.now c.sync.new.self} c.sync.result (
  2,
  record {
    few = omega arith;
    calls = made_then g.D.Disk 2 1 _ _ _ (made_then g.D.Disk 1 1 _ _ _ c.write_at.ensures.calls c.write_selector.ensures.calls) c.sync.ensures.calls;
    writes = all_write c.args.region (length c.args.frame.now) _ c.requires g.D.Disk _ _ c.write_at.ensures.writes _ _ c.write_selector.ensures.writes (syncs g c);
    frame_is = λ some told. frame_left g c told;
    selector_is = λ some told. selector_left g c told;
  },
)
