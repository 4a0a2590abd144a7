use Rattle.std.proofs.Common.{◌≡◌, ◌+◌, ◌*◌, ◌%◌, IsTrue, ◌∙◌}
use Rattle.std.proofs.lemmas.Result.{on_ok_weaker, IfErr-weaker}
use Rattle.vt_disk.specs.Disk.{part}
use Rattle.vt_twin.specs.Frames.{frame_of}
use Rattle.vt_isect.proofs.merging.read_merged.Goals as goal

-- what was read
frame_read : (g : _) (c : goal.After-slice_known-3-1 g) → IsTrue g.D.Disk.tells
    → c.read_at.new.buf ≡ frame_of c.args.place 8192 (c.args.selector % 2) (g.D.Disk.bytes c.args.disk.now)
frame_read g c told =
    c.in_ok-read_at.ensures.read told
    ∙ (λ i. part (c.args.place.start + 8192 * c.from.ensures i) (c.requires.whole i) (g.D.Disk.bytes c.args.disk.now))

pub returns-clause-merged : goal.returns-clause-merged
returns-clause-merged g c =
    on_ok_weaker c.merge_frame.result (λ it. (c.read_at.new.buf, it, λ told. frame_read g c told)) c.merge_frame.ensures.merged

pub returns-clause-damaged : goal.returns-clause-damaged
returns-clause-damaged g c =
    IfErr-weaker c.merge_frame.result _ _ (λ bad it other. (c.read_at.new.buf, it, λ told. frame_read g c told)) c.merge_frame.ensures.damaged
