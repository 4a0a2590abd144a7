use Rattle.std.proofs.Common.{◌≡◌, ◌+◌, ◌*◌, ℕ, List, ap, ◌∙◌, subst}
use Rattle.vt_disk.specs.declared.region.Region.{Region}
use Rattle.vt_disk.specs.Disk.{part}
use Rattle.vt_twin.specs.Frames.{frame_of, current_frame, named_number}
use Rattle.vt_isect.proofs.mounting.read_head.Goals as goal

pub returns-clause-read : goal.returns-clause-read
returns-clause-read g c told =
    let file : List ℕ = g.D.Disk.bytes c.args.disk.now in
    let at : Region = c.head_place-place.result in
    let named : c.current.result ≡ named_number at 8192 file = c.current.ensures.number ∙ c.in_ok-twin.ensures.named told in
    subst (λ (r : Region). c.read_at.new.buf ≡ current_frame r 8192 file) c.head_place-place.ensures
    (c.in_ok-read_at.ensures.read told
    ∙ (λ i. part (at.start + 8192 * c.from.ensures i) (c.requires.whole i) (c.mount.ensures.reads.bytes i))
    ∙ ap (λ (k : ℕ). frame_of at 8192 k file) named)
