-- A store that takes in a block.
use Rattle.std.proofs.Common.{◌≡◌, ◌≢◌, ◌⊎◌, ⊎_elim, inl, inr, ℕ, zero, suc, ◌+◌, ◌<◌, ◌≤◌, List, [], ◌∷◌, ◌++◌, length, map, take, Option, Some, refl, sym, ◌∙◌, ap, subst, arith, length-append}
use Rattle.std.specs.Prelude.{slice_get, slice_set, slice_index, sum}
use Rattle.vt_base.specs.Bytes.{AreBytes}
use Rattle.std.specs.List.{AllPairs, Contains}
use Rattle.std.specs.Option.{option_to_list}
use Rattle.std.proofs.lemmas.List.{take-append-le, length-map}
use Rattle.std.proofs.lemmas.List.Elements.{Contains-push_cases}
use Rattle.std.proofs.lemmas.List.Sums.{sum_by-cons}
use Rattle.std.proofs.lemmas.Option.{same_Some}
use Rattle.vt_base.specs.declared.place.Info.{Info}
use Rattle.vt_bloom.specs.Bits.{Filter, HasBitsOf, MarksScore}
use Rattle.vt_clump.specs.declared.packed.Packed.{Packed}
use Rattle.vt_disk.specs.Members.{DiskOf}
use Rattle.vt_log.specs.Log.{LogState, front, queued}
use Rattle.vt_log.specs.Queue.{QueueState}
use Rattle.vt_log.specs.declared.filling.Filling.{Filling}
use Rattle.vt_log.proofs.Lists.{slice_get_there}
use Rattle.vt_model.specs.History.{History, Accepted}
use Rattle.vt_model.specs.Legal.{HasOtherKey, IsLegal}
use Rattle.vt_model.specs.Places.{Setup, LiesIn, bucket_count, bucket_of, section_of_bucket, section_of_score}
use Rattle.vt_shard.specs.Shard.{ShardState, HasScore}
use Rattle.vt_shard.specs.Sound.{IsSoundShard, IsSoundFrom}
use Rattle.vt_core.specs.Core.{CoreState, setup_of, machine_of, devices_of, stops_of}
use Rattle.vt_core.specs.Files.{PerDevice, all_of}
use Rattle.vt_lookup.specs.Adding.{AddsPacked}
use Rattle.vt_lookup.specs.Finding.{AreSound, StoreParts, parts_of}
use Rattle.vt_core.specs.Sound.{IsSound, IsSoundFilter}
use Rattle.vt_recover.specs.Sections.{IsLive}
use Rattle.vt_core.specs.Steps.{StoreGoesOn}
use Rattle.vt_core.specs.Whole.{IsWhole, IsShardOf}
use Rattle.vt_recover.proofs.Places.{get_set, get_other, length-set, map_set, within_get, one_or_other}
use Rattle.vt_core.proofs.Calls.{with_ends}
use Rattle.vt_recover.proofs.Lists.{index_map}
use Rattle.vt_recover.proofs.Below.{HaveRanges, MarkedStay, AreMarked}

-- laws of the layers below
abbrev pub BucketsInRange : Type 0
BucketsInRange = ((n : ℕ) (s : List ℕ) → AreBytes s → 0 < n → bucket_of n s < n) × ((sections : List ℕ) (b : ℕ) → b < sum sections → section_of_bucket sections b < length sections)

abbrev pub OthersAdded : {D : Type 0} → DiskOf D → Type 0
OthersAdded {D} disk = (score : List ℕ → List ℕ) (c : Setup) (t : ShardState D) (h : History) (durable from : ℕ) (block : Accepted) → IsSoundFrom score c disk t h durable from
    → AllPairs (HasOtherKey score) (h ++ block ∷ []) → ¬ HasScore t (score block.block.bytes) → IsSoundFrom score c disk t (h ++ block ∷ []) durable from

-- this shard hasn't the bucket of the score
abbrev pub LacksScore : {D : Type 0} → List (ShardState D) → (j : ℕ) → List ℕ → Type 0
LacksScore {D} shards j score = (t : ShardState D) → slice_get shards j ≡ Some t → ¬ HasScore t score

-- ---- places of lists

-- what holds of the new thing and of each other one
pub each_set : {X : Type 0} (P : ℕ → X → Type 0) (xs : List X) (i : ℕ) (x y : X) → slice_get xs i ≡ Some y → P i x → ((j : ℕ) (z : X) → j ≢ i → slice_get xs j ≡ Some z → P j z)
    → (j : ℕ) (z : X) → slice_get (slice_set xs i x) j ≡ Some z → P j z
each_set {X} P xs i x y at new old j z there = ⊎_elim
    (λ (e : j ≡ i).
    let same : z ≡ x = same_Some z x (sym there ∙ ap (λ (n : ℕ). slice_get (slice_set xs i x) n) e ∙ get_set xs i x y at) in
    subst (λ (n : ℕ). P n z) (sym e) (subst (λ (t : X). P i t) (sym same) new))
    (λ (other : j ≢ i). old j z other (sym (get_other xs i j x other) ∙ there))
    (one_or_other j i)

end_or_before : {X : Type 0} (xs : List X) (x y : X) (n : ℕ) → slice_get (xs ++ x ∷ []) n ≡ Some y → (y ≡ x) ⊎ (slice_get xs n ≡ Some y)
end_or_before [] x y zero at = inl (sym (same_Some x y at))
end_or_before [] x y (suc n) at = absurd (cc)
end_or_before (z ∷ xs) x y zero at = inr at
end_or_before (z ∷ xs) x y (suc n) at = end_or_before xs x y n at

last_or_before : {X : Type 0} (xs : List X) (x y : X) → Contains (xs ++ x ∷ []) y → Contains xs y ⊎ (y ≡ x)
last_or_before xs x y has = ⊎_elim (λ before. inl before) (λ e. inr (sym e)) (Contains-push_cases xs x y has)

-- ---- the shard of a score

module _ {D : Type 0} (disk : DiskOf D) (k : CoreState D) (w : IsWhole disk k) (ranges : HaveRanges) where
  pub has_is : (j : ℕ) (t : ShardState D) (s : List ℕ) → slice_get k.shards j ≡ Some t → HasScore t s → section_of_score (setup_of k) s ≡ j
  has_is j t s at has =
      let c : Setup = setup_of k in
      let it = w.shards j t at in
      let many : j < length c.sections = omega (arith, within_get k.shards j t at, length-map k.shards (λ u. u.section.buckets)) in
      let count : slice_count j ≡ t.section.buckets = index_map (λ u. u.section.buckets) k.shards j t at in
      let total : bucket_of t.section.head.total s ≡ bucket_of (bucket_count c) s = ap (λ (n : ℕ). bucket_of n s) it.live.total in
      (ranges c.sections j (bucket_of (bucket_count c) s) many).1 (omega (arith, has.0, it.live.first, total), omega (arith, has.1, it.live.first, total, count))
    where
      slice_count : ℕ → ℕ
      slice_count n = slice_index (setup_of k).sections n

  -- and the shard of a score has it
  pub is_has : (t : ShardState D) (s : List ℕ) → slice_get k.shards (section_of_score (setup_of k) s) ≡ Some t → HasScore t s
  is_has t s at =
      let c : Setup = setup_of k in
      let j : ℕ = section_of_score c s in
      let it = w.shards j t at in
      let many : j < length c.sections = omega (arith, within_get k.shards j t at, length-map k.shards (λ u. u.section.buckets)) in
      let count : slice_index c.sections j ≡ t.section.buckets = index_map (λ u. u.section.buckets) k.shards j t at in
      let total : bucket_of t.section.head.total s ≡ bucket_of (bucket_count c) s = ap (λ (n : ℕ). bucket_of n s) it.live.total in
      let lies : LiesIn c.sections j (bucket_of (bucket_count c) s) = (ranges c.sections j (bucket_of (bucket_count c) s) many).0 refl in
      (omega (arith, lies.0, it.live.first, total), omega (arith, lies.1, it.live.first, total, count))

  pub some_buckets : 0 < bucket_count (setup_of k)
  some_buckets = first_some k.shards w.some_shard (λ t at. (w.shards 0 t at).some)
    where
      first_some : (xs : List (ShardState D)) → 0 < length xs → ((t : ShardState D) → slice_get xs 0 ≡ Some t → 0 < t.section.buckets) → 0 < sum (map (λ u. u.section.buckets) xs)
      first_some [] some each = absurd (omega (arith, some))
      first_some (x ∷ xs) some each =
          omega (arith, sum_by-cons (λ n. n) x.section.buckets (map (λ u. u.section.buckets) xs), each x refl)

  -- no shard lacks it that is the score's
  pub one_has : BucketsInRange → (s : List ℕ) → AreBytes s → ((j : ℕ) → j < length k.shards → LacksScore k.shards j s) → ⊥
  one_has law s bytes none =
      let c : Setup = setup_of k in
      let j : ℕ = section_of_score c s in
      let below : j < length k.shards = omega (arith, law.1 c.sections (bucket_of (bucket_count c) s) (law.0 (bucket_count c) s bytes some_buckets), length-map k.shards (λ u. u.section.buckets)) in
      let it = slice_get_there k.shards j below in
      none j below it.0 it.1 (is_has it.0 s it.1)

-- ---- the store

module _ {D : Type 0} (score : List ℕ → List ℕ) (disk : DiskOf D) (k : CoreState D) (i : ℕ) (s : ShardState D) (at : slice_get k.shards i ≡ Some s) (q : QueueState) (f : Filling)
    (info : Info) (bits : Filter) (marks : MarksScore k.bits info.key.score.0 bits) (stay : MarkedStay) (marked : AreMarked) (one : length q.places ≡ queued k.log + 1)
    (number : info.number ≡ front k.log) where
  abbrev pub new_shard : ShardState D
  new_shard = record s { index = record s.index { dirty = s.index.dirty ++ info ∷ [] } }

  abbrev pub after_adding : CoreState D
  after_adding = record k { log = record k.log { queue = q; filling = f }; shards = slice_set k.shards i new_shard; bits = bits }

  add_setup : setup_of after_adding ≡ setup_of k
  add_setup = ap (λ (ns : List ℕ). record { arenas = (setup_of k).arenas; versions = (setup_of k).versions; base = k.log.base; sections = ns }) (map_set (λ t. t.section.buckets) k.shards i new_shard s at refl)

  pub add_whole : IsWhole disk k → IsWhole disk after_adding
  add_whole w =
      let was = w.shards i s at in
      record {
        some_arena = w.some_arena;
        some_shard = omega (arith, w.some_shard, length-set k.shards i new_shard);
        few_shards = omega (arith, w.few_shards, length-set k.shards i new_shard);
        few_sessions = w.few_sessions;
        shards = each_set (λ j t. IsShardOf disk after_adding j k.log.durable t) k.shards i new_shard s at
            (record {
              live = subst (λ (c : Setup). IsLive c i s.section.head) (sym add_setup) was.live;
              buckets = was.buckets;
              some = was.some;
              rest = was.rest;
              filed = was.filed;
              writeback = was.writeback;
              mark = was.mark;
              next = was.next;
              numbers = λ own has. ⊎_elim
                  (λ before. let low = was.numbers own before in omega (arith, low, one))
                  (λ e. omega (arith, ap (λ (x : Info). x.number) e, number, one))
                  (last_or_before s.index.dirty info own has);
              bits = λ own has. ⊎_elim
                  (λ before. stay k.bits bits info.key.score.0 own.key.score.0 marks (was.bits own before))
                  (λ e. subst (λ (x : Info). HasBitsOf bits x.key.score.0) (sym e) (marked k.bits bits info.key.score.0 marks))
                  (last_or_before s.index.dirty info own has);
            })
            (λ j t other there. let it = w.shards j t there in record {
              live = subst (λ (c : Setup). IsLive c j t.section.head) (sym add_setup) it.live;
              buckets = it.buckets;
              some = it.some;
              rest = it.rest;
              filed = it.filed;
              writeback = it.writeback;
              mark = it.mark;
              next = it.next;
              numbers = λ own has. let low = it.numbers own has in omega (arith, low, one);
              bits = λ own has. stay k.bits bits info.key.score.0 own.key.score.0 marks (it.bits own has);
            });
        filter = λ b there. let it = w.filter b there in record { counts = (marks.m ∙ it.counts.0, marks.k ∙ it.counts.1); mark = it.mark; next = it.next; made = it.made };
        synced = w.synced;
        waiting = λ session number there. let low = w.waiting session number there in omega (arith, low, one);
      }

  pub add_machine : (h : History) → machine_of after_adding h ≡ record (machine_of k h) { history = h }
  add_machine h = ap (λ (c : Setup). record { setup = c; history = h; synced = k.synced; waiting = k.waiting }) add_setup

  pub add_sound : (w : IsWhole disk k) (ranges : HaveRanges) (others : OthersAdded disk) (h : History) (block : Accepted) → IsSound score disk k h → HasScore s (score block.block.bytes)
      → info.key.score.0 ≡ score block.block.bytes
      → AreSound score disk (setup_of k) (parts_of (record k.log { queue = q; filling = f }) new_shard) (h ++ block ∷ []) k.log.durable → IsSound score disk after_adding (h ++ block ∷ [])
  add_sound w ranges others h block sound has scored parts =
      let same : setup_of k ≡ setup_of after_adding = sym add_setup in
      let g : History = h ++ block ∷ [] in
      let fits : k.log.durable ≤ length h = omega (arith, sound.log.front) in
      let cut : take k.log.durable g ≡ take k.log.durable h = take-append-le k.log.durable h (block ∷ []) fits in
      record {
        whole = add_whole w;
        legal = subst (λ (c : Setup). IsLegal score c g) same parts.legal;
        partitions = sound.partitions;
        log = parts.log;
        shards = λ j t there. subst (λ (c : Setup). IsSoundShard score c disk t g k.log.durable) same
            (each_set (λ n u. IsSoundShard score (setup_of k) disk u g k.log.durable) k.shards i new_shard s at parts.shard
            (λ n u other here. others score (setup_of k) u h k.log.durable 0 block (sound.shards n u here) parts.legal.keys
            (λ its. other (sym (has_is disk k w ranges n u (score block.block.bytes) here its) ∙ has_is disk k w ranges i s (score block.block.bytes) at has))) j t there);
        bits = λ n e there. ⊎_elim
            (λ new. subst (λ (x : Accepted). HasBitsOf bits (score x.block.bytes)) (sym new) (subst (λ (x : List ℕ). HasBitsOf bits x) scored (marked k.bits bits info.key.score.0 marks)))
            (λ old. stay k.bits bits info.key.score.0 (score e.block.bytes) marks (sound.bits n e old))
            (end_or_before h block e n there);
        filter = λ b there. subst (λ (l : History). IsSoundFilter score disk b l) (sym cut) (sound.filter b there);
      }

  pub add_devices : devices_of after_adding ≡ devices_of k
  add_devices = ap (λ (ds : List D). record { partitions = k.log.disks; sections = ds; filter = map (λ b. b.disk) (option_to_list k.bloom) }) (map_set (λ t. t.section.disk) k.shards i new_shard s at refl)

  pub add_stops : stops_of after_adding ≡ stops_of k
  add_stops = ap (λ (ss : List (Option ℕ)). with_ends k.log.stopped ss (map (λ b. b.calls.stopped) (option_to_list k.bloom))) (map_set (λ t. t.section.stopped) k.shards i new_shard s at refl)

  pub add_goes_on : IsWhole disk k → StoreGoesOn disk k after_adding
  add_goes_on w = record {
    store = record {
      tables = refl;
      layout = refl;
      setup = add_setup;
      shards = length-set k.shards i new_shard;
      filter = refl;
      counts = (marks.m, marks.k);
      sizes = ap (λ (ds : PerDevice D). map disk.size (all_of ds)) add_devices;
      sessions = refl;
      len = omega (arith, one);
      durable = omega arith;
      synced = omega arith;
    };
    one_more = omega (arith, one);
    synced_before = w.synced;
  }

-- ---- by the clump that is added

module _ {D : Type 0} (score : List ℕ → List ℕ) (disk : DiskOf D) (k : CoreState D) (i : ℕ) (s : ShardState D) (at : slice_get k.shards i ≡ Some s) (packed : Packed) (p : StoreParts D)
    (adds : AddsPacked packed (parts_of k.log s) p) (bits : Filter) (marks : MarksScore k.bits packed.score.0 bits) (stay : MarkedStay) (marked : AreMarked) where
  own_marks : MarksScore k.bits adds.info.key.score.0 bits
  own_marks = subst (λ (x : Info). MarksScore k.bits x.key.score.0 bits) (sym adds.info_is) marks

  taken : p.log ≡ record k.log { queue = p.log.queue; filling = p.log.filling }
  taken = subst (λ (l : LogState D). l ≡ record k.log { queue = l.queue; filling = l.filling }) (sym adds.log.new_is) refl

  one_more : length p.log.queue.places ≡ queued k.log + 1
  one_more = ap (λ (l : LogState D). length l.queue.places) adds.log.new_is ∙ length-append k.log.queue.places (adds.place ∷ [])

  number_is : adds.info.number ≡ front k.log
  number_is = ap (λ (x : Info). x.number) adds.info_is

  abbrev pub with_added : CoreState D
  with_added = record k { log = p.log; shards = slice_set k.shards i p.shard; bits = bits }

  abbrev added : CoreState D
  added = after_adding score disk k i s at p.log.queue p.log.filling adds.info bits own_marks stay marked one_more number_is

  parts_are : p ≡ parts_of added.log (new_shard score disk k i s at p.log.queue p.log.filling adds.info bits own_marks stay marked one_more number_is)
  parts_are = ap (λ (l : LogState D). parts_of l p.shard) taken ∙ ap (λ (t : ShardState D). parts_of added.log t) adds.shard

  added_is : with_added ≡ added
  added_is = ap (λ (x : StoreParts D). record k { log = x.log; shards = slice_set k.shards i x.shard; bits = bits }) parts_are

  pub adding_whole : IsWhole disk k → IsWhole disk with_added
  adding_whole w = subst (λ (m : CoreState D). IsWhole disk m) (sym added_is) (add_whole score disk k i s at p.log.queue p.log.filling adds.info bits own_marks stay marked one_more number_is w)

  pub adding_machine : (h : History) → machine_of with_added h ≡ record (machine_of k h) { history = h }
  adding_machine h = ap (λ (m : CoreState D). machine_of m h) added_is ∙ add_machine score disk k i s at p.log.queue p.log.filling adds.info bits own_marks stay marked one_more number_is h

  pub adding_devices : devices_of with_added ≡ devices_of k
  adding_devices = ap (λ (m : CoreState D). devices_of m) added_is ∙ add_devices score disk k i s at p.log.queue p.log.filling adds.info bits own_marks stay marked one_more number_is

  pub adding_stops : stops_of with_added ≡ stops_of k
  adding_stops = ap (λ (m : CoreState D). stops_of m) added_is ∙ add_stops score disk k i s at p.log.queue p.log.filling adds.info bits own_marks stay marked one_more number_is

  pub adding_goes_on : IsWhole disk k → StoreGoesOn disk k with_added
  adding_goes_on w = subst (λ (m : CoreState D). StoreGoesOn disk k m) (sym added_is) (add_goes_on score disk k i s at p.log.queue p.log.filling adds.info bits own_marks stay marked one_more number_is w)

  pub adding_sound : IsWhole disk k → HaveRanges → OthersAdded disk → (h : History) (block : Accepted) → IsSound score disk k h → HasScore s (score block.block.bytes) → packed.score.0 ≡ score block.block.bytes
      → AreSound score disk (setup_of k) p (h ++ block ∷ []) k.log.durable → IsSound score disk with_added (h ++ block ∷ [])
  adding_sound w ranges others h block sound has scored parts = subst (λ (m : CoreState D). IsSound score disk m (h ++ block ∷ [])) (sym added_is)
      (add_sound score disk k i s at p.log.queue p.log.filling adds.info bits own_marks stay marked one_more number_is w ranges others h block sound has
      (ap (λ (x : Info). x.key.score.0) adds.info_is ∙ scored)
      (subst (λ (x : StoreParts D). AreSound score disk (setup_of k) x (h ++ block ∷ []) k.log.durable) parts_are parts))
