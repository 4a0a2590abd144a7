use Rattle.std.proofs.Common.{◌≡◌, ◌+◌, ◌-◌, ◌*◌, ◌≤◌, ℕ, [], Some, sym, ap, subst, arith}
use Rattle.vt_bucket.specs.Buckets.{number_of_bucket}
use Rattle.vt_bucket.specs.Frame.{bucket_frame}
use Rattle.vt_disk.specs.Calls.{WritesAt}
use Rattle.vt_disk.proofs.Calls.{on_err, writes_wider}
use Rattle.vt_isect.specs.Filling.{InBuckets, IsAmong, ReadsKnown, StopsClearing, with_buckets}
use Rattle.vt_isect.specs.Layout.{IsBucketPlace}
use Rattle.vt_isect.proofs.Fills.{blank_len, cleared_none, cleared_more, more_buckets, next_writes, next_written, stopped_others, stops_whole}
use Rattle.vt_isect.proofs.section.Section.write_cleared.Goals as goal

pub loop-i-init : goal.loop-i-init
loop-i-init g c = cleared_none g.D.Disk _ _

pub loop-i-preserved : goal.loop-i-preserved
loop-i-preserved g c =
    let t = c.args.self.now in
    let u = c.loop-i.self in
    let v = c.fill.new.self in
    let it = c.loop-i.invariant in
    let head : u.head ≡ t.head = ap (λ x. x.head) it.same in
    let n : ℕ = c.args.first + c.loop-i.i in
    let number : number_of_bucket c.new.result ≡ n = c.new.ensures.number in
    let at : n - t.head.first ≡ number_of_bucket c.new.result - u.head.first = λ j. sym number j - (sym head j).first in
    cleared_more g.D.Disk t c.args.first u v c.loop-i.i c.requires.in_range.0 it
    (subst (λ (k : ℕ). WritesAt g.D.Disk (InBuckets k 1) 2 u.disk v.disk) (sym at) c.fill.ensures.writes)
    c.fill.ensures.same
    (λ told region place. rw (number, c.new.ensures.entries) at (c.in_ok-fill.ensures.written told region (subst (λ (k : ℕ). IsBucketPlace k region) at place)))
    (λ known told reads. rw (number, c.new.ensures.entries) at (c.in_ok-fill.ensures.read known told reads))
    (λ known told sound. rw number at (c.fill.ensures.others known told sound))
    c.in_ok-fill.ensures.calls c.in_ok-fill.ensures.faults

-- what the bucket that failed changed
stopped : (g : _) (c : goal.After-from_residual g) → WritesAt g.D.Disk (InBuckets (c.args.first + c.loop-i.i - c.args.self.now.head.first) 1) 2 c.loop-i.self.disk c.fill.new.self.disk
stopped g c =
    let t = c.args.self.now in
    let u = c.loop-i.self in
    let head : u.head ≡ t.head = ap (λ x. x.head) c.loop-i.invariant.same in
    let at : c.args.first + c.loop-i.i - t.head.first ≡ number_of_bucket c.new.result - u.head.first = λ j. sym c.new.ensures.number j - (sym head j).first in
    subst (λ (k : ℕ). WritesAt g.D.Disk (InBuckets k 1) 2 u.disk c.fill.new.self.disk) (sym at) c.fill.ensures.writes

pub returns-in_err-fill-clause-stops : goal.returns-in_err-fill-clause-stops
returns-in_err-fill-clause-stops g c =
    let t = c.args.self.now in
    let u = c.loop-i.self in
    let n : ℕ = c.args.first + c.loop-i.i in
    let head : u.head ≡ t.head = ap (λ x. x.head) c.loop-i.invariant.same in
    let at : n - t.head.first ≡ number_of_bucket c.new.result - u.head.first = λ j. sym c.new.ensures.number j - (sym head j).first in
    on_err {P = StopsClearing g.D.Disk c.args.first c.args.count t c.fill.new.self} c.from_residual.result (record {
      done = c.loop-i.i;
      few = omega (arith, c.loop-i-test.true);
      cleared = next_written g.D.Disk t c.args.first c.loop-i.self c.fill.new.self c.loop-i.i c.requires.in_range.0 c.loop-i.invariant (stopped g c);
      writes = next_writes g.D.Disk t c.args.first c.loop-i.self c.fill.new.self c.loop-i.i c.requires.in_range.0 c.loop-i.invariant (stopped g c);
      whole = λ told low region place.
          let ends = rw (c.new.ensures.number, c.new.ensures.entries) at (c.in_err-fill.ensures.stops region (subst (λ (k : ℕ). IsBucketPlace k region) at place)) in
          stops_whole g.D.Disk t u c.fill.new.self c.args.first c.loop-i.i region (bucket_frame n []) ends.0 c.requires.in_range.0 place (blank_len n) ends.1 c.loop-i.invariant ends.2 told;
    })

pub returns-in_err-fill-clause-writes : goal.returns-in_err-fill-clause-writes
returns-in_err-fill-clause-writes g c =
    let t = c.args.self.now in
    let i : ℕ = c.loop-i.i in
    writes_wider g.D.Disk _ _ (more_buckets g.D.Disk t c.args.first (i + 1) c.args.count (omega (arith, c.loop-i-test.true)))
    (2 * i + 2) (2 * c.args.count) (omega (arith, c.loop-i-test.true)) _ _
    (next_writes g.D.Disk t c.args.first c.loop-i.self c.fill.new.self i c.requires.in_range.0 c.loop-i.invariant (stopped g c))

pub returns-in_err-fill-clause-others : goal.returns-in_err-fill-clause-others
returns-in_err-fill-clause-others g c =
    stopped_others g.D.Disk c.args.self.now c.args.first c.loop-i.self c.fill.new.self c.loop-i.i c.args.count c.loop-i-test.true c.loop-i.invariant
    (λ known told sound. rw c.new.ensures.number at (c.fill.ensures.others known told sound))

-- each of them was passed
passed : (i count : ℕ) → i ≤ count → count ≤ i → i ≡ count
passed i count low high = omega arith

pub returns-clause-read : goal.returns-clause-read
returns-clause-read g c known told reads =
    subst (λ (k : ℕ). ReadsKnown g.D.Disk c.loop-i.self (with_buckets c.args.first k (Some []) known))
    (passed c.loop-i.i c.args.count c.loop-i.auto.i-end c.loop-i-test.false) (c.loop-i.invariant.read known told reads)

pub returns-clause-written : goal.returns-clause-written
returns-clause-written g c told n region among place =
    c.loop-i.invariant.written told n region
    (subst (λ (k : ℕ). IsAmong c.args.first k n) (sym (passed c.loop-i.i c.args.count c.loop-i.auto.i-end c.loop-i-test.false)) among) place

pub returns-clause-writes : goal.returns-clause-writes
returns-clause-writes g c =
    subst (λ (k : ℕ). WritesAt g.D.Disk (InBuckets (c.args.first - c.args.self.now.head.first) k) (2 * k) c.args.self.now.disk c.loop-i.self.disk)
    (passed c.loop-i.i c.args.count c.loop-i.auto.i-end c.loop-i-test.false) c.loop-i.invariant.writes
