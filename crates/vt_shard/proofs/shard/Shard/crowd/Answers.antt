use Rattle.std.proofs.Common.{◌≡◌, ◌≢◌, ◌+◌, ◌-◌, ◌∙◌, ℕ, Option, Some, sym, ap, subst, refl, arith, length}
use Rattle.std.specs.Prelude.{MatchOption, slice_get}
use Rattle.std.specs.List.{AllPairs}
use Rattle.std.proofs.lemmas.Option.{slice_get_within, get_or_from_slice_get}
use Rattle.std.proofs.lemmas.Result.{err_from_is_err_and}
use Rattle.vt_base.specs.declared.place.Info.{Info}
use Rattle.vt_isect.specs.Layout.{InRange}
use Rattle.vt_isect.specs.declared.head.Head.{Head}
use Rattle.vt_shard.specs.Shard.{ShardState, ReadBucket, dirty_in}
use Rattle.vt_shard.specs.View.{state_of}
use Rattle.vt_shard.proofs.Finds.{counted, len_of_read, looks_ok, read_of}
use Rattle.vt_shard.proofs.shard.Shard.crowd.Goals as goal

pub returns-in_err-read_uncounted-clause-sound : goal.returns-in_err-read_uncounted-clause-sound
returns-in_err-read_uncounted-clause-sound g c =
    let p = err_from_is_err_and c.from_residual.result c.from_residual.ensures.1 in
    rw (p.1, p.2)
    (record {
      keeps = λ told score setup h durable from sound. c.read_uncounted.ensures.sound.keeps told score setup h durable from sound;
      undamaged = λ score setup h durable from told sound. c.in_err-read_uncounted.ensures.sound.undamaged score setup h durable from told sound;
    })

pub index-requires : goal.index-requires
index-requires g c =
    let new = subst (λ (t : ShardState g.row.D.Denot). InRange t.section.head t.section.buckets c.args.number)
    (sym c.read_uncounted.ensures.looks.same) c.requires.in_range in
    let here = subst (λ (t : ShardState g.row.D.Denot). InRange t.section.head t.section.buckets c.args.number) (sym c.self.view_is) new in
    let at : slice_get c.self.inside.waiting.items (c.args.number - c.head.result.first) ≡ Some (dirty_in (state_of c.self.inside) c.args.number) =
    ap (λ (x : Head). slice_get c.self.inside.waiting.items (c.args.number - x.first)) c.head.ensures ∙ c.self.invariant.counts c.args.number here in
    let within = slice_get_within c.self.inside.waiting.items (c.args.number - c.head.result.first) _ at in
    let len = c.self.inside.waiting.ok.0 in
    omega (arith, within, len)

within : (g : _) (c : goal.After-from g) → InRange c.read_uncounted.new.self.section.head c.read_uncounted.new.self.section.buckets c.args.number
within g c =
    subst (λ (t : ShardState g.row.D.Denot). InRange t.section.head t.section.buckets c.args.number) (sym c.read_uncounted.ensures.looks.same) c.requires.in_range

-- the dirty entries of the bucket
waits : (g : _) (c : goal.After-from g) → c.from.result ≡ dirty_in c.read_uncounted.new.self c.args.number
waits g c =
    let here = subst (λ (t : ShardState g.row.D.Denot). InRange t.section.head t.section.buckets c.args.number) (sym c.self.view_is) (within g c) in
    let at : slice_get c.self.inside.waiting.items (c.args.number - c.head.result.first) ≡ Some (dirty_in (state_of c.self.inside) c.args.number) =
    ap (λ (x : Head). slice_get c.self.inside.waiting.items (c.args.number - x.first)) c.head.ensures ∙ c.self.invariant.counts c.args.number here in
    c.from.ensures ∙ c.index.ensures
    ∙ get_or_from_slice_get c.self.inside.waiting.items (c.args.number - c.head.result.first) _ c.index.result.now at
    ∙ ap (λ (t : ShardState g.row.D.Denot). dirty_in t c.args.number) c.self.view_is

-- the bucket that was read, and how many there are
bucket_read : (g : _) (c : goal.After-from g)
    → (bucket : ReadBucket) × (c.read_uncounted.new.self.bucket ≡ Some bucket) × (bucket.number ≡ c.args.number)
    × (c.len_of.result + c.from.result ≡ length bucket.entries + dirty_in c.read_uncounted.new.self c.args.number)
bucket_read g c =
    let at = read_of c.read_uncounted.new.self c.args.number c.in_ok-read_uncounted.ensures.has in
    let len : c.len_of.result ≡ length at.0.entries =
    c.len_of.ensures.count
    ∙ len_of_read c.self.inside.bucket at.0 (ap (λ (t : ShardState g.row.D.Denot). t.bucket) c.self.view_is ∙ at.1) in
    let count = waits g c in
    (at.0, at.1, at.2, omega (arith, len, count))

apart : (g : _) (c : goal.After-from g) → AllPairs (λ (a b : Info). a.key ≢ b.key) c.read_uncounted.new.self.index.dirty
apart g c = subst (λ (t : ShardState g.row.D.Denot). AllPairs (λ (a b : Info). a.key ≢ b.key) t.index.dirty) c.self.view_is c.self.invariant.keys

pub returns-clause-count : goal.returns-clause-count
returns-clause-count g c = λ score setup h durable told sound.
    let now = c.read_uncounted.ensures.sound.keeps told score setup h durable 0 sound in
    let at = bucket_read g c in
    at.3 ∙ (counted score setup g.D.Disk c.read_uncounted.new.self h durable 0 now c.args.number at.0 (within g c) (apart g c) at.1 at.2).1 refl

pub returns-clause-most : goal.returns-clause-most
returns-clause-most g c = λ score setup h durable from told sound.
    let now = c.read_uncounted.ensures.sound.keeps told score setup h durable from sound in
    let at = bucket_read g c in
    let most = (counted score setup g.D.Disk c.read_uncounted.new.self h durable from now c.args.number at.0 (within g c) (apart g c) at.1 at.2).0 in
    let sum = at.3 in
    omega (arith, sum, most)

pub returns-clause-counts : goal.returns-clause-counts
returns-clause-counts g c =
    let at = bucket_read g c in
    let same : dirty_in c.read_uncounted.new.self c.args.number ≡ dirty_in c.args.self.now c.args.number =
    ap (λ (t : ShardState g.row.D.Denot). dirty_in t c.args.number) c.read_uncounted.ensures.looks.same in
    record {
      in_bucket =
          subst (λ (o : Option ReadBucket). MatchOption o ⊥ (λ bucket. (bucket.number ≡ c.args.number)
          × (c.len_of.result + c.from.result ≡ length bucket.entries + dirty_in c.args.self.now c.args.number)))
          (sym at.1) (at.2, at.3 ∙ ap (λ (n : ℕ). length at.0.entries + n) same);
      looks = looks_ok g.D.Disk _ _ _ _ _ c.in_ok-read_uncounted.ensures.looks;
    }
