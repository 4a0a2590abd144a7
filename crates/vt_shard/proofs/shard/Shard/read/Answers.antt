use Rattle.std.proofs.Common.{◌≡◌, ◌≢◌, ◌⊎◌, inl, inr, ◌∙◌, Some, sym, ap, subst, refl, List, ◌==◌, true, true≢false}
use Rattle.std.proofs.lemmas.Bool.Decides.{Decides-eqb}
use Rattle.std.proofs.lemmas.Result.{err_from_is_err_and}
use Rattle.vt_bucket.specs.Buckets.{number_of_bucket, bucket_entries}
use Rattle.vt_isect.specs.Layout.{InRange}
use Rattle.vt_isect.specs.Section.{SectionState}
use Rattle.vt_isect.specs.declared.error.ShardErr.{ShardErr}
use Rattle.vt_isect.specs.declared.error.ShardErr.TheVariants.{Fault, Damaged, Stopped}
use Rattle.vt_isect.proofs.Fills.{synced_sound}
use Rattle.vt_shard.specs.Shard.{ReadBucket, HasRead, read_bucket}
use Rattle.vt_shard.specs.Sound.{IsSoundFrom}
use Rattle.vt_shard.specs.View.{state_of}
use Rattle.vt_shard.proofs.Finds.{number_of_read}
use Rattle.vt_shard.proofs.IsSoundFrom.{known_at, with_read}
use Rattle.vt_shard.proofs.IsWell.{well_read}
use Rattle.vt_shard.proofs.shard.Shard.read.Goals as goal

pub invariant_of-self : goal.invariant_of-self
invariant_of-self g c = rw c.bucket.ensures.same (well_read _ _ _ c.self.invariant c.bucket.new.self.disk (read_bucket c.self.inside.bucket))

cause_of : (bad : ShardErr) (P : Type 0) → (bad ≢ Fault → P) → (bad ≡ Fault) ⊎ P
cause_of Fault P p = inl refl
cause_of (Damaged b w f) P p = inr (p (λ e. cc))
cause_of (Stopped n) P p = inr (p (λ e. cc))

pub returns-in_err-bucket-clause-looks : goal.returns-in_err-bucket-clause-looks
returns-in_err-bucket-clause-looks g c =
    let p = err_from_is_err_and c.from_residual.result c.from_residual.ensures.1 in
    rw (p.1, p.2, ← c.self.view_is)
    (record {
      same = ap (λ (s : SectionState g.row.D.Denot). record (state_of c.self.inside) { section = s }) c.bucket.ensures.same;
      reads = c.bucket.ensures.reads;
      known = λ has.
          let same : c.number_of.result ≡ Some c.args.number = c.number_of.ensures ∙ number_of_read c.self.inside.bucket c.args.number has in
          let one : (c.args.number == c.args.number) ≡ true = (Decides-eqb c.args.number c.args.number).1 refl in
          let other = rw one at (rw same at c.ne.ensures) in
          absurd (true≢false (sym c.if-ne.true ∙ other));
      bucket = tt;
      kept = refl;
      cause = cause_of c.in_err-bucket.field-0.0 _ c.in_err-bucket.ensures.damaged;
      names = c.in_err-bucket.ensures.differs;
      faults = c.in_err-bucket.ensures.faults;
    })

pub returns-in_err-bucket-clause-sound : goal.returns-in_err-bucket-clause-sound
returns-in_err-bucket-clause-sound g c =
    let p = err_from_is_err_and c.from_residual.result c.from_residual.ensures.1 in
    rw (p.1, p.2)
    (record {
      keeps = λ told score setup h durable from sound.
          let was = subst (λ t. IsSoundFrom score setup g.D.Disk t h durable from) (sym c.self.view_is) sound in
          rw c.bucket.ensures.same
          (with_read score setup g.D.Disk _ h durable from was c.bucket.new.self.disk (read_bucket c.self.inside.bucket)
          (synced_sound c.self.inside.section c.bucket.new.self.disk was.known _ _ _ _ c.bucket.ensures.reads.bytes c.bucket.ensures.reads.images was.section)
          was.bucket);
      undamaged = λ score setup h durable from told sound.
          let was = subst (λ t. IsSoundFrom score setup g.D.Disk t h durable from) (sym c.self.view_is) sound in
          let within = subst (λ t. InRange t.section.head t.section.buckets c.args.number) (sym c.self.view_is) c.requires.in_range in
          let own = known_at score setup g.D.Disk _ h durable from was c.args.number within in
          c.in_err-bucket.ensures.undamaged was.known own.0 told was.section own.1;
    })

pub invariant_of-self-then-ne : goal.invariant_of-self-then-ne
invariant_of-self-then-ne g c =
    rw c.bucket.ensures.same (well_read _ _ _ c.self.invariant c.bucket.new.self.disk (read_bucket (Some c.in_ok-bucket.field-0)))

pub returns-in_ok-bucket-clause-looks : goal.returns-in_ok-bucket-clause-looks
returns-in_ok-bucket-clause-looks g c =
    let other : ¬ HasRead (state_of c.self.inside) c.args.number = λ has.
    let same : c.number_of.result ≡ Some c.args.number = c.number_of.ensures ∙ number_of_read c.self.inside.bucket c.args.number has in
    let one : (c.args.number == c.args.number) ≡ true = (Decides-eqb c.args.number c.args.number).1 refl in
    let not = rw one at (rw same at c.ne.ensures) in
    true≢false (sym c.if-ne.true ∙ not) in
    let read : ReadBucket = record { number = number_of_bucket c.in_ok-bucket.field-0; entries = bucket_entries c.in_ok-bucket.field-0 } in
    rw (← c.self.view_is)
    (record {
      same = ap (λ (s : SectionState g.row.D.Denot). record (state_of c.self.inside) { section = s; bucket = Some read }) c.bucket.ensures.same;
      reads = c.bucket.ensures.reads;
      known = λ has. absurd (other has);
      bucket =
          let spelled = c.in_ok-bucket.ensures.spelled in
          inr (other, (read, refl, c.in_ok-bucket.ensures.number, spelled.0, spelled.1, spelled.2));
      kept = tt;
      cause = tt;
      names = tt;
      faults = c.in_ok-bucket.ensures.faults;
    })

pub returns-in_ok-bucket-clause-sound : goal.returns-in_ok-bucket-clause-sound
returns-in_ok-bucket-clause-sound g c = record {
  keeps = λ told score setup h durable from sound.
      let was = subst (λ t. IsSoundFrom score setup g.D.Disk t h durable from) (sym c.self.view_is) sound in
      let within = subst (λ t. InRange t.section.head t.section.buckets c.args.number) (sym c.self.view_is) c.requires.in_range in
      let own = known_at score setup g.D.Disk _ h durable from was c.args.number within in
      let entries = c.in_ok-bucket.ensures.found was.known own.0 told was.section own.1 in
      rw c.bucket.ensures.same
      (with_read score setup g.D.Disk _ h durable from was c.bucket.new.self.disk (read_bucket (Some c.in_ok-bucket.field-0))
      (synced_sound c.self.inside.section c.bucket.new.self.disk was.known _ _ _ _ c.bucket.ensures.reads.bytes c.bucket.ensures.reads.images was.section)
      (λ bucket is.
      let same = one_bucket (record { number = number_of_bucket c.in_ok-bucket.field-0; entries = bucket_entries c.in_ok-bucket.field-0 }) bucket is in
      subst (λ (b : ReadBucket). was.known b.number ≡ Some b.entries) same
      (ap was.known c.in_ok-bucket.ensures.number ∙ own.1 ∙ ap (λ (l : List _). Some l) (sym entries))));
  undamaged = λ score setup h durable from told sound. tt;
}
  where
    one_bucket : (a b : ReadBucket) → Some a ≡ Some b → a ≡ b
    one_bucket a b e = cc
