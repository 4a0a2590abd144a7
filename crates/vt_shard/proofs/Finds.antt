-- What a search finds where the disk is sound.
use Rattle.std.proofs.Common.{◌≡◌, ◌≢◌, ◌⊎◌, inl, inr, ⊎_elim, ℕ, ◌+◌, ◌≤◌, ◌==◌, Bool, true, false, cond, List, [], ◌∷◌, ◌++◌, length, map, filter, Option, Some, None, Ok, Err, refl, sym, ◌∙◌, ap, subst, arith, true≢false, length-append}
use Rattle.std.specs.Prelude.{MatchOption}
use Rattle.std.specs.List.{Contains, find}
use Rattle.std.specs.Option.{option_map, option_map_or, option_or}
use Rattle.std.proofs.lemmas.Bool.Decides.{Decides-eqb}
use Rattle.std.proofs.lemmas.List.Elements.{All-contains, Contains-append_cases, Contains-append_left, Contains-append_right}
use Rattle.std.proofs.lemmas.List.Sums.{length-filter}
use Rattle.lru.proofs.Splits.{Contains-head, Contains-tail, Contains-cons}
use Rattle.vt_base.specs.Key.{same_key}
use Rattle.vt_base.specs.declared.key.Key.{Key}
use Rattle.vt_base.specs.declared.place.Entry.{Entry}
use Rattle.vt_base.specs.declared.place.Info.{Info}
use Rattle.vt_bucket.specs.Buckets.{number_of_bucket, bucket_entries}
use Rattle.vt_bucket.specs.declared.Bucket.{Bucket}
use Rattle.vt_bucket.specs.Order.{IsAscending}
use Rattle.vt_bucket.proofs.Entries.{other_keys}
use Rattle.vt_disk.specs.Calls.{OnlyReads}
use Rattle.vt_disk.specs.Members.{DiskOf}
use Rattle.vt_icache.specs.Index.{IndexState, IsCached, entry_of, is_info_of, is_entry_of, dirty_info, clean_entry, cached_entry, after_look_up, recent, without_first}
use Rattle.vt_icache.proofs.Found.{find_some, find_none}
use Rattle.vt_icache.proofs.Pairs.{equal_keys, same_as_itself}
use Rattle.vt_isect.specs.Agreement.{IsEntryOfBlock, HasBlock, IsInBucket}
use Rattle.vt_isect.specs.Layout.{InRange}
use Rattle.vt_isect.specs.declared.error.ShardErr.{ShardErr}
use Rattle.vt_isect.specs.declared.head.Head.{Head}
use Rattle.vt_isect.proofs.Crowd.{blocks_all, blocks_most}
use Rattle.vt_model.specs.History.{History}
use Rattle.vt_model.specs.Places.{Setup, bucket_of, bucket_count, crowd}
use Rattle.vt_shard.specs.Looking.{Looks}
use Rattle.vt_shard.specs.Search.{FindsEntry, FindsScore, HasKeyOf, IsOneOf, KeepsScore}
use Rattle.vt_shard.specs.Shard.{ShardState, ReadBucket, IsDirty, HasRead, HasScore, bucket_at, dirty_in, read_bucket}
use Rattle.vt_shard.specs.Sound.{IsEntryFiled, IsSoundFrom, IsSoundWithout}
use Rattle.vt_shard.proofs.Blocks.{of_block_of_front, in_bucket_of, key_of, score_of, its_entry, its_bucket}
use Rattle.vt_shard.proofs.IsSoundFrom.{known_at, no_more}
use Rattle.vt_shard.proofs.Lists.{AreApart, apart_append, entries_apart, filter_apart, from_filter, to_filter, from_map, to_map, map_length}

-- the bucket that was read
pub read_of : {D : Type 0} (t : ShardState D) (n : ℕ) → HasRead t n → (bucket : ReadBucket) × (t.bucket ≡ Some bucket) × (bucket.number ≡ n)
read_of t n has = by t.bucket refl has
  where
    by : (o : Option ReadBucket) → t.bucket ≡ o → MatchOption o ⊥ (λ bucket. bucket.number ≡ n)
        → (bucket : ReadBucket) × (t.bucket ≡ Some bucket) × (bucket.number ≡ n)
    by None is it = absurd it
    by (Some bucket) is it = (bucket, is, it)

pub number_of_read : (o : Option Bucket) (n : ℕ) → MatchOption (read_bucket o) ⊥ (λ bucket. bucket.number ≡ n)
    → option_map (λ b. number_of_bucket b) o ≡ Some n
number_of_read None n is = absurd is
number_of_read (Some b) n is = ap (λ (k : ℕ). Some k) is

pub entries_of_read : (o : Option Bucket) (bucket : ReadBucket) → read_bucket o ≡ Some bucket → option_map_or bucket_entries o [] ≡ bucket.entries
entries_of_read None bucket is = absurd (cc)
entries_of_read (Some b) bucket is = ap (λ (x : ReadBucket). x.entries) (one_bucket (record { number = number_of_bucket b; entries = bucket_entries b }) bucket is)
  where
    one_bucket : (x y : ReadBucket) → Some x ≡ Some y → x ≡ y
    one_bucket x y e = cc

pub len_of_read : (o : Option Bucket) (bucket : ReadBucket) → read_bucket o ≡ Some bucket
    → option_map_or (λ b. length (bucket_entries b)) o 0 ≡ length bucket.entries
len_of_read None bucket is = absurd (cc)
len_of_read (Some b) bucket is =
    ap (λ (x : ReadBucket). length x.entries) (one_bucket (record { number = number_of_bucket b; entries = bucket_entries b }) bucket is)
  where
    one_bucket : (x y : ReadBucket) → Some x ≡ Some y → x ≡ y
    one_bucket x y e = cc

-- ---- what a read makes of a shard

pub no_reads : {D : Type 0} (disk : DiskOf D) (d : D) → OnlyReads disk 2 d d
no_reads disk d = record { bytes = refl; images = λ file left. left; size = refl; calls = λ told. omega arith }

module _ {D S T : Type 0} (disk : DiskOf D) (n : ℕ) (old new : ShardState D) where
  pub looks_ok : (a : S) (b : T) → Looks {D = D} {T = S} disk n (Ok a) old new → Looks {D = D} {T = T} disk n (Ok b) old new
  looks_ok a b it = record {
    same = it.same;
    reads = it.reads;
    known = λ has. (refl, (it.known has).1);
    bucket = it.bucket;
    kept = tt;
    cause = tt;
    names = tt;
    faults = it.faults;
  }

  pub looks_err : (bad : ShardErr) → Looks {D = D} {T = S} disk n (Err bad) old new → Looks {D = D} {T = T} disk n (Err bad) old new
  looks_err bad it = record {
    same = it.same;
    reads = it.reads;
    known = it.known;
    bucket = tt;
    kept = it.kept;
    cause = it.cause;
    names = it.names;
    faults = it.faults;
  }

-- the shard has a score's bucket behind it too
pub within_still : {D : Type 0} (old new : ShardState D) (st : List ℕ)
    → new ≡ record old { section = record old.section { disk = new.section.disk }; bucket = new.bucket }
    → HasScore old st → (HasScore new st) × (bucket_at new st ≡ bucket_at old st)
within_still old new st same within =
    let head : new.section.head ≡ old.section.head = ap (λ t. t.section.head) same in
    let buckets : new.section.buckets ≡ old.section.buckets = ap (λ t. t.section.buckets) same in (
      subst (λ (x : Head). InRange x new.section.buckets (bucket_of x.total st)) (sym head)
          (subst (λ (b : ℕ). InRange old.section.head b (bucket_at old st)) (sym buckets) within),
      ap (λ (x : Head). bucket_of x.total st) head,
    )

passes : {X : Type 0} (test : X → Bool) (xs : List X) (y : X) → find test xs ≡ Some y → test y ≡ true
passes test [] y is = cc
passes test (x ∷ xs) y is = (elim (test x) as (λ (b : Bool). test x ≡ b → cond b (Some x) (find test xs) ≡ Some y → test y ≡ true) [
  | true ↦ λ t e. let same : x ≡ y = cc in ap test (sym same) ∙ t
  | false ↦ λ t e. passes test xs y e
]) refl is

one_list : (a b : List Entry) → Some a ≡ Some b → a ≡ b
one_list a b e = cc

module _ {D : Type 0} (score : List ℕ → List ℕ) (c : Setup) (disk : DiskOf D) (t : ShardState D) (h : History) (durable from : ℕ)
    (s : IsSoundFrom score c disk t h durable from) where
  -- ---- entries in memory

  dirty_found : (info : Info) → Contains t.index.dirty info → IsEntryOfBlock score c h (entry_of info)
  dirty_found info it = (info.number, s.dirty info it)

  bucket_found : (n : ℕ) (entries : List Entry) (entry : Entry) → InRange t.section.head t.section.buckets n → s.known n ≡ Some entries
      → Contains entries entry → IsEntryOfBlock score c h entry
  bucket_found n entries entry within is it = of_block_of_front score c h durable entry (s.agrees.blocks n entries entry within is it).0

  clean_found : (entry : Entry) → Contains t.index.clean entry → IsEntryOfBlock score c h entry
  clean_found entry it =
      let filed = s.clean entry it in
      bucket_found _ filed.entries entry filed.in_range filed.known_is filed.has

  pub kept_found : (entry : Entry) → IsCached t.index entry → IsEntryOfBlock score c h entry
  kept_found entry kept = ⊎_elim
      (λ (dirty : (info : Info) × Contains t.index.dirty info × (entry_of info ≡ entry)).
      subst (λ (e : Entry). IsEntryOfBlock score c h e) dirty.2 (dirty_found dirty.0 dirty.1))
      (λ (clean : Contains t.index.clean entry). clean_found entry clean)
      kept

  -- what is kept for a key, and where
  pub record Kept (key : Key) (entry : Entry) : Type 0 where
    pub key_is : entry.key ≡ key
    pub of : IsEntryOfBlock score c h entry
    pub here : IsDirty t entry ⊎ IsEntryFiled t s.known entry

  pub in_memory : (key : Key) (entry : Entry) → cached_entry key t.index ≡ Some entry → Kept key entry
  in_memory key entry is = by (find (is_info_of key) t.index.dirty) refl is
    where
      by : (o : Option Info) → find (is_info_of key) t.index.dirty ≡ o → option_or (option_map entry_of o) (clean_entry key t.index) ≡ Some entry
          → Kept key entry
      by None none e =
          let it = find_some (is_entry_of key) t.index.clean entry e in
          record {
            key_is = sym (equal_keys key entry.key (passes (is_entry_of key) t.index.clean entry e));
            of = clean_found entry it;
            here = inr (s.clean entry it);
          }
      by (Some info) some e =
          let it = find_some (is_info_of key) t.index.dirty info some in
          let same : entry_of info ≡ entry = cc in
          record {
            key_is = ap (λ (x : Entry). x.key) (sym same) ∙ sym (equal_keys key info.key (passes (is_info_of key) t.index.dirty info some));
            of = subst (λ (x : Entry). IsEntryOfBlock score c h x) same (dirty_found info it);
            here = inl (info, it, same);
          }

  -- the block of a key that is found lacks nothing
  pub found_has : (i : ℕ) (key : Key) (entry : Entry) → HasKeyOf score h i key → Kept key entry
      → (n : ℕ) (entries : List Entry) → InRange t.section.head t.section.buckets n → s.known n ≡ Some entries → IsInBucket score c h n i
      → HasBlock score c h (λ e. Contains entries e ⊎ IsDirty t e) i
  found_has i key entry has kept n entries within is at =
      let its = its_entry score c h s.keys i key entry has kept.of kept.key_is in (
        entry,
        ⊎_elim
            (λ (dirty : IsDirty t entry). inr dirty)
            (λ (filed : IsEntryFiled t s.known entry).
            let same : bucket_at t entry.key.score.0 ≡ n =
            ap (λ (k : ℕ). bucket_of k entry.key.score.0) s.agrees.total ∙ its_bucket score c h n i entry its at in
            let same_entries : filed.entries ≡ entries = one_list filed.entries entries (sym filed.known_is ∙ ap s.known same ∙ is) in
            inl (subst (λ (l : List Entry). Contains l entry) same_entries filed.has))
            kept.here,
        its,
      )

  -- ---- a search in the bucket that was read

  pub entries_known : (bucket : ReadBucket) (n : ℕ) (own : List Entry) → t.bucket ≡ Some bucket → bucket.number ≡ n → s.known n ≡ Some own
      → bucket.entries ≡ own
  entries_known bucket n own has number is = one_list bucket.entries own (sym (s.bucket bucket has) ∙ ap s.known number ∙ is)

  no_dirty_key : (key : Key) → dirty_info key t.index ≡ None → (info : Info) → Contains t.index.dirty info → info.key ≢ key
  no_dirty_key key none info it is =
      true≢false (sym (same_as_itself key) ∙ ap (same_key key) (sym is) ∙ find_none (is_info_of key) t.index.dirty info none it)

  pub finds : (key : Key) (bucket : ReadBucket) (o : Option Entry) → HasScore t key.score.0 → dirty_info key t.index ≡ None
      → t.bucket ≡ Some bucket → bucket.number ≡ bucket_at t key.score.0 → IsOneOf bucket.entries (λ entry. entry.key ≡ key) o
      → FindsEntry score c h from key o
  finds key bucket None within none has number lacks = λ i le at_key.
      let n = bucket_at t key.score.0 in
      let own = known_at score c disk t h durable from s n within in
      let same = entries_known bucket n own.0 has number own.1 in
      let at : IsInBucket score c h n i =
      subst (λ (k : ℕ). IsInBucket score c h (bucket_of k key.score.0) i) (sym s.agrees.total)
      (in_bucket_of score c h i key.score.0 (record { block = at_key.block; stands = at_key.stands; score_is = at_key.score_is })) in
      let it = s.has n i own.0 within own.1 le at in
      let key_is : it.0.key ≡ key = key_of score c h i key it.0 at_key it.2 in
      ⊎_elim
      (λ (filed : Contains own.0 it.0).
      All-contains (λ entry. entry.key ≢ key) bucket.entries it.0 lacks (subst (λ (l : List Entry). Contains l it.0) (sym same) filed) key_is)
      (λ (dirty : IsDirty t it.0). no_dirty_key key none dirty.0 dirty.1 (ap (λ (e : Entry). e.key) dirty.2 ∙ key_is))
      it.1
  finds key bucket (Some entry) within none has number found =
      let n = bucket_at t key.score.0 in
      let own = known_at score c disk t h durable from s n within in
      let same = entries_known bucket n own.0 has number own.1 in
      (found.1, bucket_found n own.0 entry within own.1 (subst (λ (l : List Entry). Contains l entry) same found.0))

  pub finds_score : (st : List ℕ) (bucket : ReadBucket) (o : Option Entry) → HasScore t st → ¬ KeepsScore t.index st
      → t.bucket ≡ Some bucket → bucket.number ≡ bucket_at t st → IsOneOf bucket.entries (λ entry. entry.key.score.0 ≡ st) o
      → FindsScore score c h from st o
  finds_score st bucket None within none has number lacks = λ i le at_score.
      let n = bucket_at t st in
      let own = known_at score c disk t h durable from s n within in
      let same = entries_known bucket n own.0 has number own.1 in
      let at : IsInBucket score c h n i =
      subst (λ (k : ℕ). IsInBucket score c h (bucket_of k st) i) (sym s.agrees.total) (in_bucket_of score c h i st at_score) in
      let it = s.has n i own.0 within own.1 le at in
      let score_is : it.0.key.score.0 ≡ st = score_of score c h i st it.0 at_score it.2 in
      ⊎_elim
      (λ (filed : Contains own.0 it.0).
      All-contains (λ entry. entry.key.score.0 ≢ st) bucket.entries it.0 lacks (subst (λ (l : List Entry). Contains l it.0) (sym same) filed) score_is)
      (λ (dirty : IsDirty t it.0). none (it.0, inl dirty, score_is))
      it.1
  finds_score st bucket (Some entry) within none has number found =
      let n = bucket_at t st in
      let own = known_at score c disk t h durable from s n within in
      let same = entries_known bucket n own.0 has number own.1 in
      (found.1, bucket_found n own.0 entry within own.1 (subst (λ (l : List Entry). Contains l entry) same found.0))

  pub search_kept : (key : Key) (bucket : ReadBucket) (entry : Entry) → HasScore t key.score.0 → t.bucket ≡ Some bucket
      → bucket.number ≡ bucket_at t key.score.0 → Contains bucket.entries entry → entry.key ≡ key → Kept key entry
  search_kept key bucket entry within has number it is =
      let n = bucket_at t key.score.0 in
      let own = known_at score c disk t h durable from s n within in
      let same = entries_known bucket n own.0 has number own.1 in
      let here : Contains own.0 entry = subst (λ (l : List Entry). Contains l entry) same it in
      let number_is : n ≡ bucket_at t entry.key.score.0 = ap (λ (k : Key). bucket_at t k.score.0) (sym is) in
      record {
        key_is = is;
        of = bucket_found n own.0 entry within own.1 here;
        here = inr (record {
          in_range = subst (λ (k : ℕ). InRange t.section.head t.section.buckets k) number_is within;
          entries = own.0;
          known_is = ap s.known (sym number_is) ∙ own.1;
          has = here;
        });
      }

  -- while a log is read back: the block of a key that is asked for
  pub recalls : (i : ℕ) (key : Key) (bucket : ReadBucket) (o : Option Entry) → i + 1 ≡ from → HasKeyOf score h i key
      → HasScore t key.score.0 → t.bucket ≡ Some bucket → bucket.number ≡ bucket_at t key.score.0
      → IsOneOf bucket.entries (λ entry. entry.key ≡ key) o
      → MatchOption o (IsSoundWithout score c disk t h durable from key) (λ _. IsSoundFrom score c disk t h durable i)
  recalls i key bucket None next at_key within has number lacks = (
    s,
    λ entries is held.
        let same = entries_known bucket (bucket_at t key.score.0) entries has number is in
        All-contains (λ entry. entry.key ≢ key) bucket.entries held.0 lacks
        (subst (λ (l : List Entry). Contains l held.0) (sym same) held.1) held.2,
  )
  recalls i key bucket (Some entry) next at_key within has number found =
      no_more score c disk t h durable from s i next
      (found_has i key entry at_key (search_kept key bucket entry within has number found.0 found.1))

  -- ---- a crowd

  ascending_apart : (entries : List Entry) → IsAscending entries → AreApart (λ (x : Entry). x.key) entries
  ascending_apart entries ascending i j d lt within is =
      let same = other_keys entries ascending i j d (omega (arith, lt, within)) within is in
      omega (arith, same, lt)

  pub counted : (n : ℕ) (bucket : ReadBucket) → InRange t.section.head t.section.buckets n
      → AreApart (λ (x : Info). x.key) t.index.dirty → t.bucket ≡ Some bucket → bucket.number ≡ n
      → (length bucket.entries + dirty_in t n ≤ crowd score (bucket_count c) h n)
      × (from ≡ 0 → length bucket.entries + dirty_in t n ≡ crowd score (bucket_count c) h n)
  counted n bucket within keys has number =
      let own = known_at score c disk t h durable from s n within in
      let same = entries_known bucket n own.0 has number own.1 in
      let p : Info → Bool = λ (info : Info). bucket_at t info.key.score.0 == n in
      let dirty : List Info = filter p t.index.dirty in
      let both : List Entry = own.0 ++ map entry_of dirty in
      let apart : AreApart (λ (x : Entry). x.key) both =
      apart_append (λ (x : Entry). x.key) own.0 (map entry_of dirty)
      (ascending_apart own.0 (s.section.bucket n own.0 within own.1).spelled.body.allowed.ascending)
      (entries_apart dirty (filter_apart (λ (x : Info). x.key) p t.index.dirty keys))
      (λ a b at_a at_b is.
      let it = from_map entry_of dirty b at_b in
      let was = from_filter p t.index.dirty it.0 it.1 in
      let bucket_is : bucket_at t it.0.key.score.0 ≡ n = (Decides-eqb (bucket_at t it.0.key.score.0) n).0 was.1 in
      s.unfiled it.0 own.0 was.0 (ap s.known bucket_is ∙ own.1) (a, at_a, is ∙ ap (λ (e : Entry). e.key) (sym it.2))) in
      let of : (entry : Entry) → Contains both entry → IsEntryOfBlock score c h entry × (bucket_of (bucket_count c) entry.key.score.0 ≡ n) =
      λ entry it. ⊎_elim
      (λ (filed : Contains own.0 entry). (bucket_found n own.0 entry within own.1 filed, (s.agrees.blocks n own.0 entry within own.1 filed).1))
      (λ (waits : Contains (map entry_of dirty) entry).
      let one = from_map entry_of dirty entry waits in
      let was = from_filter p t.index.dirty one.0 one.1 in (
        subst (λ (e : Entry). IsEntryOfBlock score c h e) one.2 (dirty_found one.0 was.0),
        ap (λ (e : Entry). bucket_of (bucket_count c) e.key.score.0) (sym one.2)
            ∙ ap (λ (k : ℕ). bucket_of k one.0.key.score.0) (sym s.agrees.total)
            ∙ (Decides-eqb (bucket_at t one.0.key.score.0) n).0 was.1,
      ))
      (Contains-append_cases own.0 (map entry_of dirty) entry it) in
      let most : length both ≤ crowd score (bucket_count c) h n = blocks_most score c h n both apart of in
      let count : from ≡ 0 → length both ≡ crowd score (bucket_count c) h n = λ all.
      blocks_all score c h n both apart of s.keys
      (λ i at.
      let it = s.has n i own.0 within own.1 (omega (arith, all)) at in (
        it.0,
        ⊎_elim
            (λ (filed : Contains own.0 it.0). Contains-append_left own.0 (map entry_of dirty) it.0 filed)
            (λ (waits : IsDirty t it.0).
            let number_is : bucket_at t waits.0.key.score.0 ≡ n =
            ap (λ (e : Entry). bucket_at t e.key.score.0) waits.2
            ∙ ap (λ (k : ℕ). bucket_of k it.0.key.score.0) s.agrees.total ∙ its_bucket score c h n i it.0 it.2 at in
            Contains-append_right own.0 (map entry_of dirty) it.0
            (subst (Contains (map entry_of dirty)) waits.2
            (to_map entry_of dirty waits.0 (to_filter p t.index.dirty waits.0 waits.1 ((Decides-eqb (bucket_at t waits.0.key.score.0) n).1 number_is)))))
            it.1,
        it.2,
      )) in
      let len : length both ≡ length own.0 + length (map entry_of dirty) = length-append own.0 (map entry_of dirty) in
      let len2 : length (map entry_of dirty) ≡ length dirty = map_length entry_of dirty in
      let len3 : length dirty ≡ dirty_in t n = length-filter p t.index.dirty in
      let sum : length bucket.entries + dirty_in t n ≡ length both =
      ap (λ (l : List Entry). length l + dirty_in t n) same ∙ omega (arith, len, len2, len3) in
      (omega (arith, sum, most), λ all. sum ∙ count all)

-- ---- the index after a look-up

without_from : {X : Type 0} (test : X → Bool) (xs : List X) (x : X) → Contains (without_first test xs) x → Contains xs x
without_from test [] x it = it
without_from test (y ∷ xs) x it = (elim (test y) as (λ (b : Bool). Contains (cond b xs (y ∷ without_first test xs)) x → Contains (y ∷ xs) x) [
  | true ↦ λ at. Contains-tail y xs x at
  | false ↦ λ at. ⊎_elim
      (λ (same : y ≡ x). subst (Contains (y ∷ xs)) same (Contains-head y xs))
      (λ (rest : Contains (without_first test xs) x). Contains-tail y xs x (without_from test xs x rest))
      (Contains-cons y (without_first test xs) x at)
]) it

recent_from : {X : Type 0} (test : X → Bool) (xs : List X) (x : X) → Contains (recent test xs) x → Contains xs x
recent_from {X} test xs x = by (find test xs) refl
  where
    by : (o : Option X) → find test xs ≡ o → Contains (option_map_or (λ y. y ∷ without_first test xs) o xs) x → Contains xs x
    by None is it = it
    by (Some y) is it = ⊎_elim
        (λ (same : y ≡ x). subst (Contains xs) same (find_some test xs y is))
        (λ (rest : Contains (without_first test xs) x). without_from test xs x rest)
        (Contains-cons y (without_first test xs) x it)

pub looked_from : (key : Key) (s : IndexState) (entry : Entry) → Contains (after_look_up key s).clean entry → Contains s.clean entry
looked_from key s entry = by (find (is_info_of key) s.dirty)
  where
    by : (o : Option Info) → Contains (option_map_or (λ _. s.clean) o (recent (is_entry_of key) s.clean)) entry → Contains s.clean entry
    by None it = recent_from (is_entry_of key) s.clean entry it
    by (Some info) it = it
