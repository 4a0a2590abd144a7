use Rattle.std.proofs.Common.{◌≡◌, ℕ, List, length, sym, ap, ◌∙◌, subst}
use Rattle.vt_disk.specs.declared.region.Region.{Region}
use Rattle.vt_twin.specs.Formatting.{EndsFormat}
use Rattle.vt_twin.specs.Frames.{current_frame, selector_of, selector_bytes, selector_len}
use Rattle.vt_isect.specs.declared.head.Head.{Head}
use Rattle.vt_base.specs.Filled.{filled}
use Rattle.vt_isect.specs.Head.{encoded, IsHeadFrame}
use Rattle.vt_isect.specs.Layout.{head_place, buckets_in, formatted}
use Rattle.vt_isect.proofs.Heads.{frame_has}
use Rattle.vt_isect.proofs.formatting.format.Goals as goal

pub returns-clause-head : goal.returns-clause-head
returns-clause-head g c told file left =
    let read : List ℕ = g.D.Disk.bytes c.format.new.disk in
    let len : length c.encode_head.new.frame ≡ 8192 = c.encode_head.auto.frame in
    ap (λ (l : List ℕ). current_frame head_place 8192 l) (c.in_ok-format.ensures.settled told file left)
    ∙ ap (λ (r : Region). current_frame r 8192 read) (sym c.head_place.ensures)
    ∙ ap (λ (k : ℕ). current_frame c.head_place.result k read) (sym len)
    ∙ c.in_ok-format.ensures.current told
    ∙ c.encode_head.ensures.written
    ∙ ap (λ (name : List ℕ). encoded name (formatted c.buckets_in-count.result))
    (c.filled.ensures.bytes ∙ ap (λ (l : List ℕ). filled 64 l) c.as_slice.ensures)

pub returns-clause-selector : goal.returns-clause-selector
returns-clause-selector g c told =
    let read : List ℕ = g.D.Disk.bytes c.format.new.disk in
    let len : length c.encode_head.new.frame ≡ 8192 = c.encode_head.auto.frame in
    subst (λ (r : Region). selector_of r 8192 read ≡ selector_bytes 0 (selector_len r 8192)) c.head_place.ensures
    (subst (λ (k : ℕ). selector_of c.head_place.result k read ≡ selector_bytes 0 (selector_len c.head_place.result k)) len
    (c.in_ok-format.ensures.selector told))

pub returns-clause-head_frame : goal.returns-clause-head_frame
returns-clause-head_frame g c told file left =
    let name = c.args.name.now in
    let head : Head = formatted c.buckets_in-count.result in
    let field : c.filled.result ≡ filled 64 name =
    c.filled.ensures.bytes ∙ ap (λ (l : List ℕ). filled 64 l) c.as_slice.ensures in
    subst (λ (f : List ℕ). IsHeadFrame (filled 64 name) head f) (sym (returns-clause-head g c told file left))
    (frame_has (filled 64 name) head c.encode_head.ensures.fits
    (ap (λ (l : List ℕ). length l) (sym field) ∙ c.filled.ensures.len))

-- the frame that is written
frame_is : (g : _) (c : goal.After-from_residual g) → c.encode_head.new.frame ≡ encoded (filled 64 c.args.name.now) (formatted (buckets_in (g.D.Disk.size c.args.disk.now)))
frame_is g c =
    c.encode_head.ensures.written
    ∙ ap (λ (name : List ℕ). encoded name (formatted c.buckets_in-count.result)) (c.filled.ensures.bytes ∙ ap (λ (l : List ℕ). filled 64 l) c.as_slice.ensures)
    ∙ ap (λ (n : ℕ). encoded (filled 64 c.args.name.now) (formatted n)) (c.buckets_in-count.ensures.count ∙ ap buckets_in c.len-len.ensures)

pub returns-in_err-format-clause-failed : goal.returns-in_err-format-clause-failed
returns-in_err-format-clause-failed g c fault =
    let ends = c.in_err-format.ensures.failed in (
      ends.0,
      subst (λ (r : Region). EndsFormat g.D.Disk r (encoded (filled 64 c.args.name.now) (formatted (buckets_in (g.D.Disk.size c.args.disk.now)))) ends.0 c.args.disk.now c.format.new.disk)
          c.head_place.ensures
          (subst (λ (f : List ℕ). EndsFormat g.D.Disk c.head_place.result f ends.0 c.args.disk.now c.format.new.disk) (frame_is g c) ends.1),
    )
