use Rattle.std.proofs.Common.{◌-◌, ◌<◌, ℕ, List, Some, None, replicate, sym, subst, arith}
use Rattle.vt_disk.specs.declared.region.Region.{Region}
use Rattle.vt_disk.proofs.Calls.{on_err, writes_wider}
use Rattle.vt_bucket.specs.Buckets.{number_of_bucket, bucket_entries}
use Rattle.vt_bucket.specs.Frame.{IsBucketFrame, bucket_frame}
use Rattle.vt_twin.specs.Formatting.{EndsFormat}
use Rattle.vt_isect.specs.Layout.{IsBucketPlace}
use Rattle.vt_isect.specs.View.{state_of}
use Rattle.vt_isect.proofs.WithBucket.{others_sound}
use Rattle.vt_isect.proofs.Fills.{reads_filled, agrees_filled, in_buckets}
use Rattle.vt_isect.proofs.Members.{well_read}
use Rattle.vt_isect.proofs.Places.{one_place}
use Rattle.vt_isect.proofs.Remembers.{forgets, learns, set_twice}
use Rattle.vt_isect.proofs.section.Section.fill.Goals as goal

pub returns-in_err-write_bucket-clause-others : goal.returns-in_err-write_bucket-clause-others
returns-in_err-write_bucket-clause-others g c known told =
    let rest = rw (← c.self.view_is) at c.requires.rest in
    let range = rw (← c.self.view_is) at c.requires.in_range in
    let place = rw c.number.ensures at c.bucket_place-place.ensures.place in
    rw (← c.self.view_is)
    (others_sound _ _ (number_of_bucket c.args.bucket.now) c.bucket_place-place.result _ _ _ _ _ rest c.self.invariant.room range place
    (c.write_bucket.ensures.writes.bytes told) c.write_bucket.ensures.writes.images known)

pub returns-in_err-write_bucket-clause-agrees : goal.returns-in_err-write_bucket-clause-agrees
returns-in_err-write_bucket-clause-agrees g c score setup h known =
    rw (← c.self.view_is) (agrees_filled score setup h _ _ (number_of_bucket c.args.bucket.now) (bucket_entries c.args.bucket.now) known)

pub returns-clause-others : goal.returns-clause-others
returns-clause-others g c known told =
    let rest = rw (← c.self.view_is) at c.requires.rest in
    let range = rw (← c.self.view_is) at c.requires.in_range in
    let place = rw c.number.ensures at c.bucket_place-place.ensures.place in
    rw (← c.self.view_is)
    (others_sound _ _ (number_of_bucket c.args.bucket.now) c.bucket_place-place.result _ _ _ _ _ rest c.self.invariant.room range place
    (c.write_bucket.ensures.writes.bytes told) c.write_bucket.ensures.writes.images known)

pub returns-clause-agrees : goal.returns-clause-agrees
returns-clause-agrees g c score setup h known =
    rw (← c.self.view_is) (agrees_filled score setup h _ _ (number_of_bucket c.args.bucket.now) (bucket_entries c.args.bucket.now) known)

pub returns-clause-read : goal.returns-clause-read
returns-clause-read g c known told =
    let range = rw (← c.self.view_is) at c.requires.in_range in
    let place = rw c.number.ensures at c.bucket_place-place.ensures.place in
    let s = c.self.inside in
    let t = state_of s in
    rw (← c.self.view_is)
    (reads_filled t c.write_bucket.new.disk (number_of_bucket c.args.bucket.now) c.bucket_place-place.result (bucket_entries c.args.bucket.now) known _ _ range place
    (c.write_bucket.ensures.writes.bytes told)
    (subst (IsBucketFrame (number_of_bucket c.args.bucket.now) (bucket_entries c.args.bucket.now)) (sym (c.in_ok-write_bucket.ensures.current told)) c.encode.ensures.spelled))

pub returns-in_err-write_bucket-clause-writes : goal.returns-in_err-write_bucket-clause-writes
returns-in_err-write_bucket-clause-writes g c =
    let range = rw (← c.self.view_is) at c.requires.in_range in
    let place = rw c.number.ensures at c.bucket_place-place.ensures.place in
    rw (← c.self.view_is)
    (writes_wider g.D.Disk _ _ (in_buckets _ (number_of_bucket c.args.bucket.now) 1 (number_of_bucket c.args.bucket.now) c.bucket_place-place.result place range.0 (omega arith, omega arith))
    2 2 (omega arith) _ _ c.write_bucket.ensures.writes)

pub returns-clause-writes : goal.returns-clause-writes
returns-clause-writes g c =
    let range = rw (← c.self.view_is) at c.requires.in_range in
    let place = rw c.number.ensures at c.bucket_place-place.ensures.place in
    rw (← c.self.view_is)
    (writes_wider g.D.Disk _ _ (in_buckets _ (number_of_bucket c.args.bucket.now) 1 (number_of_bucket c.args.bucket.now) c.bucket_place-place.result place range.0 (omega arith, omega arith))
    2 2 (omega arith) _ _ c.write_bucket.ensures.writes)

pub returns-in_err-write_bucket-clause-stops : goal.returns-in_err-write_bucket-clause-stops
returns-in_err-write_bucket-clause-stops g c =
    let t = state_of c.self.inside in
    let n : ℕ = number_of_bucket c.args.bucket.now in
    let place = rw c.number.ensures at c.bucket_place-place.ensures.place in
    let ends = c.in_err-write_bucket.ensures.stops in
    rw (← c.self.view_is) (on_err {P = (region : Region) → IsBucketPlace (n - t.head.first) region → (made : ℕ) × (made < 2)
    × EndsFormat g.D.Disk region (bucket_frame n (bucket_entries c.args.bucket.now)) made t.disk c.write_bucket.new.disk} _ (λ region here. (
      ends.0,
      ends.1,
      subst (λ (r : Region). EndsFormat g.D.Disk r (bucket_frame n (bucket_entries c.args.bucket.now)) ends.0 t.disk c.write_bucket.new.disk)
          (one_place (n - t.head.first) c.bucket_place-place.result region place here)
          (subst (λ (f : List ℕ). EndsFormat g.D.Disk c.bucket_place-place.result f ends.0 t.disk c.write_bucket.new.disk) c.encode.ensures.bytes ends.2),
    )))

pub invariant_of-self : goal.invariant_of-self
invariant_of-self g c =
    let s = c.self.inside in
    rw (c.write_bucket.ensures.writes.size, c.forget.ensures) (well_read g.D.Disk (state_of s)
    (forgets g.D.Disk s.disk c.write_bucket.new.disk s.buckets s.frames (c.number.result - s.head.first) c.bucket_place-place.result 2 c.bucket_place-place.ensures.place
    c.write_bucket.ensures.writes c.self.invariant.remembers)
    c.self.invariant)

pub invariant_of-self-2 : goal.invariant_of-self-2
invariant_of-self-2 g c =
    let s = c.self.inside in
    rw (c.write_bucket.ensures.writes.size, c.put.ensures, c.forget.ensures, set_twice s.frames (c.number.result - s.head.first) None (Some 0))
    (well_read g.D.Disk (state_of s)
    (learns g.D.Disk s.disk c.write_bucket.new.disk s.buckets s.frames (c.number.result - s.head.first) c.bucket_place-place.result 2 0 (replicate 511 0) (omega arith) c.bucket_place-place.ensures.place
    c.write_bucket.ensures.writes (λ told. c.in_ok-write_bucket.ensures.selector told) c.self.invariant.remembers)
    c.self.invariant)
