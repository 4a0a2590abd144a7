use Rattle.std.proofs.Common.{◌≡◌, ◌+◌, ◌*◌, ◌-◌, Result, Ok, Err, IsTrue, ap, ◌∙◌, subst}
use Rattle.std.specs.Prelude.{IfErr, IsOkAnd}
use Rattle.std.proofs.lemmas.Result.{IfOk-weaker, IfErr-weaker}
use Rattle.vt_bucket.specs.Buckets.{bucket_entries}
use Rattle.vt_bucket.proofs.Frames.{one_frame}
use Rattle.vt_disk.specs.declared.region.Region.{Region}
use Rattle.vt_disk.specs.Disk.{part}
use Rattle.vt_isect.specs.Layout.{IsBucketPlace}
use Rattle.vt_isect.specs.Section.{SectionState}
use Rattle.vt_isect.specs.Sound.{IsReadFrom}
use Rattle.vt_isect.proofs.NamesDamage.{faulty_differs}
use Rattle.vt_isect.specs.View.{state_of}
use Rattle.vt_isect.proofs.IsReadFrom.{reads_from, reads_known}
use Rattle.vt_isect.proofs.Members.{well_read}
use Rattle.vt_isect.proofs.Remembers.{remembers_same}
use Rattle.vt_isect.proofs.section.Section.bucket.Goals as goal

-- the frame that was read
frame_from : (g : _) (c : goal.After-decode_bucket g) → IsTrue g.D.Disk.tells → (region : Region) → IsBucketPlace (c.args.number - c.args.self.now.head.first) region
    → IsReadFrom c.args.self.now c.args.number region (g.D.Disk.bytes c.args.self.now.disk) c.read_at.new.buf
frame_from g c told region place =
    let now = c.args.self.now in
    let bytes : g.D.Disk.bytes c.self-2.inside.disk ≡ g.D.Disk.bytes now.disk =
    ap (λ (t : SectionState g.row.D.Denot). g.D.Disk.bytes t.disk) c.self-2.view_is ∙ c.current_number.ensures.reads.bytes in
    let here : IsBucketPlace (c.args.number - now.head.first) c.bucket_place-place.result =
    subst (λ (t : SectionState g.row.D.Denot). IsBucketPlace (c.args.number - t.head.first) c.bucket_place-place.result) c.self.view_is c.bucket_place-place.ensures.place in
    reads_from now c.args.number c.in_ok-current.current c.bucket_place-place.result region _ c.read_at.new.buf here place
    (c.in_ok-read_at.ensures.read told ∙ (λ i. part (c.bucket_place-place.result.start + 8192 * c.from.ensures i) 8192 (bytes i)))
    c.in_ok-current.ensures.changing (λ still. c.in_ok-current.ensures.named told still region place)

not_refused : {T E : Type 0} (r : Result T E) (P : T → Type 0) (Q : E → Type 0) → IsOkAnd r P → IfErr r Q
not_refused (Ok x) P Q is = tt
not_refused (Err e) P Q is = absurd is

pub returns-clause-found : goal.returns-clause-found
returns-clause-found g c known entries =
    IfOk-weaker c.decode_bucket.result _ _
    (λ b is told sound known_is. (one_frame c.args.number c.args.number (bucket_entries b) entries c.read_at.new.buf is
    (reads_known c.args.self.now known c.args.number entries _ c.read_at.new.buf _ sound (g.met.D.Disk.read_is_image _ told) c.requires known_is (frame_from g c told))).1)
    c.decode_bucket.ensures.found

pub returns-clause-undamaged : goal.returns-clause-undamaged
returns-clause-undamaged g c known entries told sound known_is =
    not_refused c.decode_bucket.result _ _ (c.decode_bucket.ensures.all_are_read entries
    (reads_known c.args.self.now known c.args.number entries _ c.read_at.new.buf _ sound (g.met.D.Disk.read_is_image _ told) c.requires known_is (frame_from g c told)))

pub returns-clause-spelled : goal.returns-clause-spelled
returns-clause-spelled g c =
    IfOk-weaker c.decode_bucket.result _ _
    (λ b is. (c.read_at.new.buf, is, λ region told place. frame_from g c told region place))
    c.decode_bucket.ensures.found

pub returns-clause-damaged : goal.returns-clause-damaged
returns-clause-damaged g c =
    IfErr-weaker c.decode_bucket.result _ _
    (λ bad is other. (c.read_at.new.buf, is, λ region told place. frame_from g c told region place))
    c.decode_bucket.ensures.refused

pub returns-clause-differs : goal.returns-clause-differs
returns-clause-differs g c =
    IfErr-weaker c.decode_bucket.result _ _ (λ bad is. faulty_differs c.args.number c.read_at.new.buf bad is) c.decode_bucket.ensures.refused

pub invariant_of-self : goal.invariant_of-self
invariant_of-self g c = rw c.read_at.ensures.reads.size (well_read g.D.Disk (state_of c.self-2.inside) (remembers_same g.D.Disk _ _ _ _ c.read_at.ensures.reads.bytes c.self-2.invariant.remembers) c.self-2.invariant)

pub invariant_of-self-2 : goal.invariant_of-self-2
invariant_of-self-2 g c = rw c.read_at.ensures.reads.size (well_read g.D.Disk (state_of c.self-2.inside) (remembers_same g.D.Disk _ _ _ _ c.read_at.ensures.reads.bytes c.self-2.invariant.remembers) c.self-2.invariant)
