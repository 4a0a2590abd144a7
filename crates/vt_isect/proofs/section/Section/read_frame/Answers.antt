use Rattle.std.proofs.Common.{◌≡◌, ◌-◌, ◌%◌, ℕ, List, length, take, drop, ◌++◌, Err, refl, sym, ap, ◌∙◌, subst, arith}
use Rattle.std.proofs.lemmas.List.{take_at}
use Rattle.std.proofs.lemmas.Slice.{between_is}
use Rattle.vt_base.specs.declared.place.Entry.{Entry}
use Rattle.vt_disk.specs.declared.region.Region.{Region}
use Rattle.vt_twin.specs.Frames.{frame_of}
use Rattle.vt_isect.specs.declared.phase.Phase.TheVariants.{ReadFrame, WriteFrame}
use Rattle.vt_isect.specs.Merging.{IsMerged, IsDamage}
use Rattle.vt_isect.specs.Section.{HasBucket, PutsEntries, entering}
use Rattle.vt_isect.specs.View.{state_of}
use Rattle.vt_isect.specs.Writeback.{GetsFrame, NextCallReads}
use Rattle.vt_isect.proofs.Keeps.{read_made}
use Rattle.vt_isect.proofs.Members.{well_called, well_moves}
use Rattle.vt_isect.proofs.Places.{one_place}
use Rattle.vt_isect.proofs.ReadCalls.{read_ends, read_goes}
use Rattle.vt_isect.proofs.Remembers.{remembers_same}
use Rattle.vt_isect.proofs.section.Section.read_frame.Goals as goal

same_number : (a b : ℕ) → WriteFrame a ≡ WriteFrame b → a ≡ b
same_number a b is = cc

-- the frame that is made, in its buffer
abbrev made : (frame was : List ℕ) (len : ℕ) → List ℕ
made frame was len = take len (frame ++ drop (length frame) was)

made_is : (frame read was : List ℕ) (len : ℕ) → length frame ≡ length read → length read ≡ len → made frame was len ≡ frame
made_is frame read was len same is = take_at frame (drop (length frame) was) len (same ∙ is)

made_len : (frame read was : List ℕ) (len : ℕ) → length frame ≡ length read → length read ≡ len → read ≡ was → length was ≡ 8192 → length (made frame was len) ≡ 8192
made_len frame read was len same is value whole = ap (λ (l : List ℕ). length l) (made_is frame read was len same is) ∙ same ∙ ap (λ (l : List ℕ). length l) value ∙ whole

pub invariant_of-self : goal.invariant_of-self
invariant_of-self g c =
    let s = c.self.inside in
    let phase = rw (← c.self.view_is) at c.requires.phase in
    let goes = rw (← c.self.view_is) at c.requires.goes in
    rw c.read_merged-merged.ensures.reads.size
    (well_moves g.D.Disk (state_of s) (subst PutsEntries (sym phase) tt) tt (λ has. subst HasBucket (sym phase) tt) (λ has. absurd has)
    (λ k e. let is = same_number (c.args.selector % 2) k e in omega (arith, is)) (λ k e. cc) goes (made_len c.read_merged-merged.new.frame c.deref_mut.result.now c.self.inside.frame.items c.self.inside.frame.len c.read_merged-merged.auto.frame c.deref_mut.ensures.len c.deref_mut.ensures.value c.self.invariant.frame_len) (remembers_same g.D.Disk _ _ _ _ c.read_merged-merged.ensures.reads.bytes c.self.invariant.remembers) c.self.invariant)

pub invariant_of-self-in-Err : goal.invariant_of-self-in-Err
invariant_of-self-in-Err g c =
    let phase = rw (← c.self.view_is) at c.requires.phase in
    let goes = rw (← c.self.view_is) at c.requires.goes in
    rw c.read_merged-merged.ensures.reads.size
    (well_called g.D.Disk (state_of c.self.inside) (subst PutsEntries (sym phase) tt) goes (made_len c.read_merged-merged.new.frame c.deref_mut.result.now c.self.inside.frame.items c.self.inside.frame.len c.read_merged-merged.auto.frame c.deref_mut.ensures.len c.deref_mut.ensures.value c.self.invariant.frame_len) (remembers_same g.D.Disk _ _ _ _ c.read_merged-merged.ensures.reads.bytes c.self.invariant.remembers) c.self.invariant)

pub returns-in-Ok-clause-merged : goal.returns-in-Ok-clause-merged
returns-in-Ok-clause-merged g c =
    let s = c.self.inside in
    let it = c.in-Ok.ensures.merged in
    let group_is = between_is c.items.result.now s.framed s.begun ∙ ap (λ (l : List Entry). drop s.framed (take s.begun l)) c.items.ensures in
    rw (← c.self.view_is) (
      it.0,
      subst (λ (f : List ℕ). IsMerged s.bucket (entering (state_of s)) it.0 f) (sym (made_is c.read_merged-merged.new.frame c.deref_mut.result.now s.frame.items s.frame.len c.read_merged-merged.auto.frame c.deref_mut.ensures.len)) (subst (λ (l : List Entry). IsMerged s.bucket l it.0 c.read_merged-merged.new.frame) group_is it.1),
      λ region told place. subst (λ (r : Region). it.0 ≡ frame_of r 8192 (c.args.selector % 2) (g.D.Disk.bytes s.disk))
          (one_place (s.bucket - s.head.first) c.bucket_place.result region c.bucket_place.ensures.place place) (it.2 told),
    )

pub returns-in-Err-clause-damaged : goal.returns-in-Err-clause-damaged
returns-in-Err-clause-damaged g c other =
    let s = c.self.inside in
    let it = c.in-Err.ensures.damaged other in
    let group_is = between_is c.items.result.now s.framed s.begun ∙ ap (λ (l : List Entry). drop s.framed (take s.begun l)) c.items.ensures in
    rw (← c.self.view_is) (
      it.0,
      subst (λ (l : List Entry). IsDamage s.bucket l it.0 c.in-Err.bad) group_is it.1,
      λ region told place. subst (λ (r : Region). it.0 ≡ frame_of r 8192 (c.args.selector % 2) (g.D.Disk.bytes s.disk))
          (one_place (s.bucket - s.head.first) c.bucket_place.result region c.bucket_place.ensures.place place) (it.2 told),
    )

pub returns-in-Ok-clause-step : goal.returns-in-Ok-clause-step
returns-in-Ok-clause-step g c =
    let s = c.self.inside in
    let t = state_of s in
    let phase = rw (← c.self.view_is) at c.requires.phase in
    let goes = rw (← c.self.view_is) at c.requires.goes in
    let got : GetsFrame g.D.Disk c.args.selector t (record t { frame = made c.read_merged-merged.new.frame s.frame.items s.frame.len }) = rw (← c.self.view_is) at (returns-in-Ok-clause-merged g c) in
    rw (c.count.ensures, ← c.self.view_is)
    (read_goes g.D.Disk t (subst NextCallReads (sym phase) tt) goes c.read_merged-merged.new.disk c.in-Ok.ensures.reads c.in-Ok.ensures.calls (ReadFrame c.args.selector) (WriteFrame (c.args.selector % 2)) (made c.read_merged-merged.new.frame c.self.inside.frame.items c.self.inside.frame.len) phase tt (λ j. refl)
    (refl, record { written = refl; framed = refl; begun = refl; bucket = refl; group = refl }) c.in-Ok.ensures.faults
    (λ told k e. absurd (cc))
    (λ told known sound k e. (
      (λ region place. sound.selector c.args.selector phase region place ∙ same_number (c.args.selector % 2) k e),
      (λ entries is. read_made t c.args.selector c.bucket_place.result known _ _ _ phase (c.self.invariant.group (subst PutsEntries (sym phase) tt)) (g.met.D.Disk.read_is_image s.disk told) c.bucket_place.ensures.place
          (subst (λ (r : List ℕ). IsMerged s.bucket (entering t) r (made c.read_merged-merged.new.frame c.self.inside.frame.items c.self.inside.frame.len)) (got.2 c.bucket_place.result told c.bucket_place.ensures.place) got.1) sound entries is),
    )))

pub returns-in-Err-clause-step : goal.returns-in-Err-clause-step
returns-in-Err-clause-step g c =
    let s = c.self.inside in
    let phase = rw (← c.self.view_is) at c.requires.phase in
    let goes = rw (← c.self.view_is) at c.requires.goes in
    rw (c.end.ensures, c.count.ensures, ← c.self.view_is)
    (read_ends g.D.Disk (state_of s) (subst NextCallReads (sym phase) tt) goes c.read_merged-merged.new.disk c.in-Err.ensures.reads c.in-Err.ensures.calls c.in-Err.bad (made c.read_merged-merged.new.frame c.self.inside.frame.items c.self.inside.frame.len) c.in-Err.ensures.faults
    (λ no. (c.args.selector, phase)) (λ n e. c.in-Err.ensures.stopped n (ap (λ b. Err b) e)))
