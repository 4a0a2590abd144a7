use Rattle.std.proofs.Common.{◌≡◌, ◌+◌, ◌<◌, IsTrue, List, ℕ, length, replicate, ◌∙◌, ap, subst, arith}
use Rattle.std.proofs.lemmas.Result.{on_ok_weaker}
use Rattle.vt_disk.specs.Disk.{with_bytes, SameBut, Touches}
use Rattle.vt_disk.proofs.Calls.{on_err, made_then}
use Rattle.vt_twin.specs.Frames.{selector_start, selector_len}
use Rattle.vt_twin.specs.Formatting.{EndsFormat}
use Rattle.vt_isect.proofs.WriteBucket.{frame_written, first_within, selector_written, both_written, both_within, frame_left, new_frame, new_idle, new_current, new_selector}
use Rattle.vt_isect.proofs.filling.write_bucket.Goals as goal

pub returns-in_err-write_at-clause-writes : goal.returns-in_err-write_at-clause-writes
returns-in_err-write_at-clause-writes g c =
    first_within c.args.place c.args.frame.now _ c.requires.whole c.requires.len c.requires.room g.D.Disk _ _ c.write_at.ensures.writes

pub returns-in_err-write_at-clause-stops : goal.returns-in_err-write_at-clause-stops
returns-in_err-write_at-clause-stops g c = on_err {P = (made : ℕ) × (made < 2) × EndsFormat g.D.Disk c.args.place c.args.frame.now made c.args.disk.now c.write_at.new.disk} _ (
  0,
  omega arith,
  record {
    few = omega arith;
    calls = c.write_at.ensures.calls;
    writes = frame_written c.args.place c.args.frame.now _ c.requires.whole c.requires.len c.requires.room g.D.Disk _ _ c.write_at.ensures.writes;
    frame_is = λ some. absurd (omega (arith, some));
    selector_is = λ some. absurd (omega (arith, some));
  },
)

pub returns-clause-writes : goal.returns-clause-writes
returns-clause-writes g c =
    both_within c.args.place c.args.frame.now _ c.requires.whole c.requires.len c.requires.room g.D.Disk _ _ c.write_at.ensures.writes _ c.write_at-2.ensures.writes

-- as many bytes as the disk has
whole : (g : _) (c : goal.After-write_at-2 g) → IsTrue g.D.Disk.tells → length (g.D.Disk.bytes c.args.disk.now) ≡ g.D.Disk.size c.args.disk.now
whole g c told = (g.met.D.Disk.images_fit _ _ (g.met.D.Disk.read_is_image _ told)).0

pub returns-clause-frame : goal.returns-clause-frame
returns-clause-frame g c =
    on_ok_weaker c.write_at-2.result
    (λ written told. new_frame c.args.place c.args.frame.now _ c.requires.whole c.requires.len c.requires.room _ (whole g c told) _
    (written told ∙ ap (with_bytes (c.args.place.start + 16384) (replicate 512 0)) (c.in_ok-write_at.ensures.written told)))
    c.write_at-2.ensures.written

pub returns-clause-idle : goal.returns-clause-idle
returns-clause-idle g c =
    on_ok_weaker c.write_at-2.result
    (λ written told. new_idle c.args.place c.args.frame.now _ c.requires.whole c.requires.len c.requires.room _ (whole g c told) _
    (written told ∙ ap (with_bytes (c.args.place.start + 16384) (replicate 512 0)) (c.in_ok-write_at.ensures.written told)))
    c.write_at-2.ensures.written

pub returns-clause-current : goal.returns-clause-current
returns-clause-current g c =
    on_ok_weaker c.write_at-2.result
    (λ written told. new_current c.args.place c.args.frame.now _ c.requires.whole c.requires.len c.requires.room _ (whole g c told) _
    (written told ∙ ap (with_bytes (c.args.place.start + 16384) (replicate 512 0)) (c.in_ok-write_at.ensures.written told)))
    c.write_at-2.ensures.written

pub returns-clause-selector : goal.returns-clause-selector
returns-clause-selector g c =
    on_ok_weaker c.write_at-2.result
    (λ written told. new_selector c.args.place c.args.frame.now _ c.requires.whole c.requires.len c.requires.room _ (whole g c told) _
    (written told ∙ ap (with_bytes (c.args.place.start + 16384) (replicate 512 0)) (c.in_ok-write_at.ensures.written told)))
    c.write_at-2.ensures.written

pub returns-clause-stops : goal.returns-clause-stops
returns-clause-stops g c = on_err {P = (made : ℕ) × (made < 2) × EndsFormat g.D.Disk c.args.place c.args.frame.now made c.args.disk.now c.write_at-2.new.disk} c.write_at-2.result (
  1,
  omega arith,
  record {
    few = omega arith;
    calls = made_then g.D.Disk 1 1 _ _ _ c.write_at.ensures.calls c.write_at-2.ensures.calls;
    writes = both_written c.args.place c.args.frame.now _ c.requires.whole c.requires.len c.requires.room g.D.Disk _ _ c.write_at.ensures.writes _ c.write_at-2.ensures.writes;
    frame_is = λ some told. frame_left c.args.place c.args.frame.now _ c.requires.whole c.requires.len c.requires.room _ (whole g c told) _
        (subst (λ (file : List ℕ). SameBut (Touches (selector_start c.args.place (length c.args.frame.now)) (selector_len c.args.place (length c.args.frame.now))) file (g.D.Disk.bytes c.write_at-2.new.disk))
        (c.in_ok-write_at.ensures.written told)
        ((selector_written c.args.place c.args.frame.now _ c.requires.whole c.requires.len c.requires.room g.D.Disk _ _ c.write_at.ensures.writes _ c.write_at-2.ensures.writes).bytes told));
    selector_is = λ some. absurd (omega (arith, some));
  },
)
