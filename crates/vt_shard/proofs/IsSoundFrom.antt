-- A disk stays sound for a shard when only what is kept in memory changes, and by a read.
use Rattle.std.proofs.Common.{◌≡◌, ◌⊎◌, inl, inr, ⊎_elim, ℕ, ◌+◌, ◌<◌, ◌≤◌, List, [], ◌∷◌, ◌++◌, length, take, Option, Some, None, refl, sym, subst, arith, length-append}
use Rattle.std.specs.Prelude.{IsSome}
use Rattle.std.specs.List.{AllPairs, Contains}
use Rattle.std.proofs.lemmas.Bool.{cases_lt, false≢true}
use Rattle.std.proofs.lemmas.List.{take-append-le}
use Rattle.std.proofs.lemmas.List.Elements.{Contains-push, Contains-push_cases, Contains-append_left}
use Rattle.std.proofs.lemmas.Option.{slice_get_within}
use Rattle.vt_base.specs.declared.key.Key.{Key}
use Rattle.vt_base.specs.declared.place.Entry.{Entry}
use Rattle.vt_base.specs.declared.place.Info.{Info}
use Rattle.vt_disk.specs.Members.{DiskOf}
use Rattle.vt_icache.specs.Index.{entry_of}
use Rattle.vt_lumps.specs.Lumps.{LumpsState}
use Rattle.vt_isect.specs.Agreement.{IsEntryOf, HasBlock, IsInBucket, KnownAgrees}
use Rattle.vt_isect.specs.Layout.{InRange}
use Rattle.vt_isect.specs.Merging.{HasKey}
use Rattle.vt_isect.specs.Sound.{DiskHolds}
use Rattle.vt_isect.proofs.Crowd.{one_entry}
use Rattle.vt_isect.proofs.KnownAgrees.{agrees_disk}
use Rattle.vt_model.specs.History.{History, Accepted}
use Rattle.vt_model.specs.Legal.{HasOtherKey}
use Rattle.vt_model.specs.Places.{Setup}
use Rattle.vt_shard.specs.Search.{IsLumpOf}
use Rattle.vt_shard.specs.Shard.{ShardState, ReadBucket, HasScore, IsDirty, bucket_at}
use Rattle.vt_shard.specs.Sound.{IsBucketOf, IsSoundFrom}
use Rattle.vt_shard.proofs.Blocks.{entry_longer, has_longer, lump_longer, bucket_before, of_block_of_front}

module _ {D : Type 0} (score : List ℕ → List ℕ) (c : Setup) (disk : DiskOf D) (t : ShardState D) (h : History) (durable from : ℕ)
    (s : IsSoundFrom score c disk t h durable from) where
  -- what is known of a bucket
  pub known_at : (n : ℕ) → InRange t.section.head t.section.buckets n → (entries : List Entry) × (s.known n ≡ Some entries)
  known_at n within = of (s.known n) refl (s.agrees.whole n within)
    where
      of : (k : Option (List Entry)) → s.known n ≡ k → IsSome k → (entries : List Entry) × (s.known n ≡ Some entries)
      of None is some = absurd (false≢true some)
      of (Some entries) is some = (entries, is)

  pub with_clean : (clean : List Entry) → ((entry : Entry) → Contains clean entry → Contains t.index.clean entry)
      → IsSoundFrom score c disk (record t { index = record t.index { clean = clean } }) h durable from
  with_clean clean fewer = record {
    keys = s.keys;
    durable_fits = s.durable_fits;
    known = s.known;
    section = s.section;
    agrees = s.agrees;
    live = s.live;
    next = s.next;
    filed = s.filed;
    has = s.has;
    dirty = s.dirty;
    unfiled = s.unfiled;
    clean = λ entry it.
        let was = s.clean entry (fewer entry it) in
        record { in_range = was.in_range; entries = was.entries; known_is = was.known_is; has = was.has };
    bucket = s.bucket;
    lumps = s.lumps;
  }

  pub with_lumps : (lumps : LumpsState) → ((key : Key) (bytes : List ℕ) → Contains lumps.entries (key, bytes) → IsLumpOf score h key bytes)
      → IsSoundFrom score c disk (record t { lumps = lumps }) h durable from
  with_lumps lumps right = record {
    keys = s.keys;
    durable_fits = s.durable_fits;
    known = s.known;
    section = s.section;
    agrees = s.agrees;
    live = s.live;
    next = s.next;
    filed = s.filed;
    has = s.has;
    dirty = s.dirty;
    unfiled = s.unfiled;
    clean = λ entry it.
        let was = s.clean entry it in
        record { in_range = was.in_range; entries = was.entries; known_is = was.known_is; has = was.has };
    bucket = s.bucket;
    lumps = right;
  }

  -- a read was made, and a bucket as it is known is kept
  pub with_read : (d : D) (read : Option ReadBucket) → DiskHolds disk (record t.section { disk = d }) s.known
      → ((bucket : ReadBucket) → read ≡ Some bucket → s.known bucket.number ≡ Some bucket.entries)
      → IsSoundFrom score c disk (record t { section = record t.section { disk = d }; bucket = read }) h durable from
  with_read d read holds known_is = record {
    keys = s.keys;
    durable_fits = s.durable_fits;
    known = s.known;
    section = holds;
    agrees = agrees_disk score c (take durable h) t.section d s.known s.agrees;
    live = s.live;
    next = s.next;
    filed = s.filed;
    has = s.has;
    dirty = s.dirty;
    unfiled = s.unfiled;
    clean = λ entry it.
        let was = s.clean entry it in
        record { in_range = was.in_range; entries = was.entries; known_is = was.known_is; has = was.has };
    bucket = known_is;
    lumps = s.lumps;
  }

  -- a block that is found lacks nothing
  pub no_more : (i : ℕ) → i + 1 ≡ from
      → ((n : ℕ) (entries : List Entry) → InRange t.section.head t.section.buckets n → s.known n ≡ Some entries → IsInBucket score c h n i
      → HasBlock score c h (λ entry. Contains entries entry ⊎ IsDirty t entry) i)
      → IsSoundFrom score c disk t h durable i
  no_more i next has = record {
    keys = s.keys;
    durable_fits = s.durable_fits;
    known = s.known;
    section = s.section;
    agrees = s.agrees;
    live = s.live;
    next = s.next;
    filed = s.filed;
    has = λ n j entries within is le at. ⊎_elim
        (λ (lt : i < j). s.has n j entries within is (omega (arith, lt, next)) at)
        (λ (ge : j ≤ i).
        let same : i ≡ j = omega (arith, ge, le) in
        subst (λ (k : ℕ). HasBlock score c h (λ entry. Contains entries entry ⊎ IsDirty t entry) k) same
        (has n entries within is (subst (λ (k : ℕ). IsInBucket score c h n k) (sym same) at)))
        (cases_lt i j);
    dirty = s.dirty;
    unfiled = s.unfiled;
    clean = s.clean;
    bucket = s.bucket;
    lumps = s.lumps;
  }

  -- blocks up to another number may lack their entries
  pub from_other : (other : ℕ)
      → ((n i : ℕ) (entries : List Entry) → InRange t.section.head t.section.buckets n → s.known n ≡ Some entries → other ≤ i
      → i < from → IsInBucket score c h n i → HasBlock score c h (λ entry. Contains entries entry ⊎ IsDirty t entry) i)
      → IsSoundFrom score c disk t h durable other
  from_other other has = record {
    keys = s.keys;
    durable_fits = s.durable_fits;
    known = s.known;
    section = s.section;
    agrees = s.agrees;
    live = s.live;
    next = s.next;
    filed = s.filed;
    has = λ n i entries within is le at. ⊎_elim
        (λ (lt : i < from). has n i entries within is le lt at)
        (λ (ge : from ≤ i). s.has n i entries within is ge at)
        (cases_lt i from);
    dirty = s.dirty;
    unfiled = s.unfiled;
    clean = s.clean;
    bucket = s.bucket;
    lumps = s.lumps;
  }

  abbrev pub with_dirty : Info → ShardState D
  with_dirty info = record t { index = record t.index { dirty = t.index.dirty ++ info ∷ [] } }

  more_dirty : (info : Info) (g : History) (entries : List Entry) (i : ℕ)
      → HasBlock score c g (λ entry. Contains entries entry ⊎ IsDirty t entry) i
      → HasBlock score c g (λ entry. Contains entries entry ⊎ IsDirty (with_dirty info) entry) i
  more_dirty info g entries i has = (
    has.0,
    ⊎_elim
        (λ (it : Contains entries has.0). inl it)
        (λ (it : IsDirty t has.0). inr (it.0, Contains-append_left t.index.dirty (info ∷ []) it.0 it.1, it.2))
        has.1,
    has.2,
  )

  -- an info that is put in beside the others, whose bucket lacks it
  unfiled_more : (info : Info) → ((entries : List Entry) → IsBucketOf t s.known info.key entries → ¬ HasKey (Contains entries) info.key)
      → (other : Info) (entries : List Entry) → Contains (t.index.dirty ++ info ∷ []) other
      → IsBucketOf t s.known other.key entries → ¬ HasKey (Contains entries) other.key
  unfiled_more info lacks other entries it is = ⊎_elim
      (λ (was : Contains t.index.dirty other). s.unfiled other entries was is)
      (λ (same : info ≡ other).
      subst (λ (x : Info). IsBucketOf t s.known x.key entries → ¬ HasKey (Contains entries) x.key) same (lacks entries) is)
      (Contains-push_cases t.index.dirty info other it)

  -- the entry of a block of the history is put in
  pub recalled : (info : Info) → info.number + 1 ≡ from → IsEntryOf score c h info.number (entry_of info)
      → ((entries : List Entry) → IsBucketOf t s.known info.key entries → ¬ HasKey (Contains entries) info.key)
      → IsSoundFrom score c disk (with_dirty info) h durable info.number
  recalled info next of lacks = record {
    keys = s.keys;
    durable_fits = s.durable_fits;
    known = s.known;
    section = s.section;
    agrees = s.agrees;
    live = s.live;
    next = s.next;
    filed = s.filed;
    has = λ n j entries within is le at. ⊎_elim
        (λ (lt : info.number < j). more_dirty info h entries j (s.has n j entries within is (omega (arith, lt, next)) at))
        (λ (ge : j ≤ info.number).
        let same : info.number ≡ j = omega (arith, ge, le) in
        (entry_of info, inr (info, Contains-push t.index.dirty info, refl), subst (λ (k : ℕ). IsEntryOf score c h k (entry_of info)) same of))
        (cases_lt info.number j);
    dirty = λ other it. ⊎_elim
        (λ (was : Contains t.index.dirty other). s.dirty other was)
        (λ (is : info ≡ other). subst (λ (x : Info). IsEntryOf score c h x.number (entry_of x)) is of)
        (Contains-push_cases t.index.dirty info other it);
    unfiled = λ other entries it is. unfiled_more info lacks other entries it is;
    clean = λ entry it.
        let was = s.clean entry it in
        record { in_range = was.in_range; entries = was.entries; known_is = was.known_is; has = was.has };
    bucket = s.bucket;
    lumps = s.lumps;
  }

  -- no bucket has the entry of a block that isn't in the history
  new_lacks : (info : Info) (block : Accepted) → AllPairs (HasOtherKey score) (h ++ block ∷ [])
      → IsEntryOf score c (h ++ block ∷ []) (length h) (entry_of info) → HasScore t info.key.score.0
      → (entries : List Entry) → IsBucketOf t s.known info.key entries → ¬ HasKey (Contains entries) info.key
  new_lacks info block keys of within entries is has =
      let old = of_block_of_front score c h durable has.0 (s.agrees.blocks (bucket_at t info.key.score.0) entries has.0 within is has.1).0 in
      let longer = entry_longer score c h (block ∷ []) old.0 has.0 old.1 in
      let same = one_entry score c (h ++ block ∷ []) old.0 (length h) has.0 (entry_of info) keys longer of has.2 in
      let lt = slice_get_within h old.0 old.1.block old.1.stands.block in
      let number = same.0 in
      omega (arith, lt, number)

  -- the entry of a new block is put in
  pub added : (info : Info) (block : Accepted) → AllPairs (HasOtherKey score) (h ++ block ∷ []) → info.number ≡ length h
      → IsEntryOf score c (h ++ block ∷ []) (length h) (entry_of info) → HasScore t info.key.score.0
      → IsSoundFrom score c disk (with_dirty info) (h ++ block ∷ []) durable from
  added info block keys number of within =
      let g : History = h ++ block ∷ [] in
      let front : take durable g ≡ take durable h = take-append-le durable h (block ∷ []) s.durable_fits in
      let len : length g ≡ length h + 1 = length-append h (block ∷ []) in
      let fits : durable ≤ length h = s.durable_fits in
      record {
        keys = keys;
        durable_fits = omega (arith, fits, len);
        known = s.known;
        section = s.section;
        agrees = subst (λ (f : History). KnownAgrees score c f t.section s.known) (sym front) s.agrees;
        live = s.live;
        next = s.next;
        filed = s.filed;
        has = λ n j entries within is le at. ⊎_elim
            (λ (lt : j < length h). more_dirty info g entries j
            (has_longer score c h (block ∷ []) _ j (s.has n j entries within is le (bucket_before score c h (block ∷ []) n j lt at))))
            (λ (ge : length h ≤ j).
            let in_it = slice_get_within g j at.block at.stands.block in
            let same : length h ≡ j = omega (arith, ge, in_it, len) in
            (entry_of info, inr (info, Contains-push t.index.dirty info, refl), subst (λ (k : ℕ). IsEntryOf score c g k (entry_of info)) same of))
            (cases_lt j (length h));
        dirty = λ other it. ⊎_elim
            (λ (was : Contains t.index.dirty other). entry_longer score c h (block ∷ []) other.number (entry_of other) (s.dirty other was))
            (λ (is : info ≡ other). subst (λ (x : Info). IsEntryOf score c g x.number (entry_of x)) is
            (subst (λ (k : ℕ). IsEntryOf score c g k (entry_of info)) (sym number) of))
            (Contains-push_cases t.index.dirty info other it);
        unfiled = λ other entries it is. unfiled_more info (new_lacks info block keys of within) other entries it is;
        clean = λ entry it.
            let was = s.clean entry it in
            record { in_range = was.in_range; entries = was.entries; known_is = was.known_is; has = was.has };
        bucket = s.bucket;
        lumps = λ key bytes it. lump_longer score c h (block ∷ []) key bytes (s.lumps key bytes it);
      }
