-- The store that is found.
use Rattle.std.proofs.Common.{◌≡◌, ◌⊎◌, ⊎_elim, ◌<◌, ◌≤◌, ◌+◌, ◌-◌, ◌^◌, ℕ, true, false, List, [], ◌∷◌, ◌++◌, length, map, take, Option, Some, None, Ok, refl, sym, ◌∙◌, ap, subst, arith}
use Rattle.std.specs.Prelude.{slice_get, IsTrue, IsSome, is_some, sum, sum_by, ⊤, replicate}
use Rattle.std.specs.List.{All, AllByRecursion, AllZip}
use Rattle.std.specs.Option.{MatchOption, option_to_list}
use Rattle.std.proofs.lemmas.List.{length-map, map-append, take_all}
use Rattle.std.proofs.lemmas.List.Elements.{All-from_recursion}
use Rattle.std.proofs.lemmas.Option.{same_Some}
use Rattle.vt_bloom.specs.Bits.{Filter, HasBitsOf}
use Rattle.vt_bloom.specs.Bloom.{BloomState}
use Rattle.vt_bloom.specs.Frame.{Covers}
use Rattle.vt_bloom.specs.Laws.{HasOneSaved}
use Rattle.vt_disk.specs.Calls.{IsSynced}
use Rattle.vt_disk.specs.Members.{DiskOf}
use Rattle.vt_isect.specs.Layout.{buckets_in}
use Rattle.vt_isect.specs.Section.{SectionState}
use Rattle.vt_log.specs.Log.{LogState, IsMountedLog}
use Rattle.vt_log.specs.Mounting.{reads_to_find_all}
use Rattle.vt_log.specs.Sound.{IsSoundLog}
use Rattle.vt_model.specs.History.{History, Accepted}
use Rattle.vt_model.specs.Legal.{IsLegal}
use Rattle.vt_model.specs.Places.{Setup}
use Rattle.vt_part.specs.Layout.{layout_of}
use Rattle.vt_part.specs.Table.{Table, IsPartition}
use Rattle.vt_part.specs.declared.layout.ArenaRegion.{ArenaRegion}
use Rattle.vt_shard.specs.Shard.{ShardState}
use Rattle.vt_shard.specs.Sound.{IsSoundFrom}
use Rattle.vt_shard.specs.declared.mounting.Sizes.{Sizes}
use Rattle.vt_core.specs.declared.TheConstants.{MOST_BUCKETS}
use Rattle.vt_core.specs.Core.{CoreState, setup_of, devices_of, stops_of}
use Rattle.vt_core.specs.Files.{PerDevice, all_of}
use Rattle.vt_core.specs.Mounting.{HasRoomOf, IsFreshlyMounted, IsHeadRead, IsLogOf, IsLogRead, IsMarkRead, IsReadAs, IsSetupOf, KeepsLimits, MountsStore, Recalls, ReadsEntriesOnce}
use Rattle.vt_recover.specs.Marks.{AreCovered}
use Rattle.vt_recover.specs.Opening.{IsFilterOpened, IsFoundSection, IsShardMade, OpensFilter}
use Rattle.vt_core.specs.Opening.{IsLogFound, TestsParts, with_log}
use Rattle.vt_recover.specs.Recalling.{HasVersionsOf, ReadsBack, ReadsLogBack, opened, RecallsFrom}
use Rattle.vt_core.specs.Sound.{IsSound, IsSoundFilter}
use Rattle.vt_core.specs.Stands.{FilterStandsFor, scores_of}
use Rattle.vt_core.specs.Whole.{IsWhole}
use Rattle.vt_core.proofs.Beside.{all_from, by_recursion, of_store, sound_shard}
use Rattle.vt_core.proofs.Chains.{chain, chain_head, chain_buckets, filter_opened, made_faults, many_shards, room_buckets, same_buckets, shard_sizes, whole, IsChain}
use Rattle.vt_recover.proofs.Lists.{at_map, only_one}
use Rattle.vt_core.proofs.LogVersions.{setup_versions}
use Rattle.vt_core.proofs.Standing.{held_bytes}
use Rattle.vt_recover.proofs.Held.{held_many}
use Rattle.vt_log.specs.Faults.{IsMountedBy}
use Rattle.vt_log.proofs.Lists.{at_slice, slice_get_other}

-- ---- something of each device

pub all_map : {D : Type 0} (f : D → ℕ) (a x b y c z : List D) → map f a ≡ map f x → map f b ≡ map f y → map f c ≡ map f z → map f (a ++ b ++ c) ≡ map f (x ++ y ++ z)
all_map f a x b y c z ax by_ cz =
    let left : map f (a ++ b ++ c) ≡ map f a ++ map f b ++ map f c = map-append f (a ++ b) c ∙ ap (λ l. l ++ map f c) (map-append f a b) in
    let right : map f (x ++ y ++ z) ≡ map f x ++ map f y ++ map f z = map-append f (x ++ y) z ∙ ap (λ l. l ++ map f z) (map-append f x y) in
    cc

-- of the filter's device
pub filter_same : {D : Type 0} (disk : DiskOf D) (f : D → ℕ) (filter : Option D) (bloom : Option (BloomState D)) (bits : Filter)
    → ((d : D) (b : BloomState D) → IsFilterOpened disk d b bits → f b.disk ≡ f d) → OpensFilter disk filter bloom bits
    → map f (map (λ b. b.disk) (option_to_list bloom)) ≡ map f (option_to_list filter)
filter_same {D} disk f None bloom bits same it = ap (λ (o : Option (BloomState D)). map f (map (λ b. b.disk) (option_to_list o))) it.0
filter_same {D} disk f (Some d) bloom bits same it =
    ap (λ (o : Option (BloomState D)). map f (map (λ b. b.disk) (option_to_list o))) it.1 ∙ ap (λ n. n ∷ []) (same d it.0 it.2)

filter_many : {D : Type 0} (disk : DiskOf D) (filter : Option D) (bloom : Option (BloomState D)) (bits : Filter) → OpensFilter disk filter bloom bits
    → length (option_to_list bloom) ≡ length (option_to_list filter)
filter_many {D} disk None bloom bits it = ap (λ (o : Option (BloomState D)). length (option_to_list o)) it.0
filter_many {D} disk (Some d) bloom bits it = ap (λ (o : Option (BloomState D)). length (option_to_list o)) it.1

own_bits : {D : Type 0} (disk : DiskOf D) (filter : Option D) (bloom : Option (BloomState D)) (bits : Filter) → OpensFilter disk filter bloom bits
    → option_to_list filter ≡ [] → (bits.m ≡ 16) × (bits.k ≡ 8)
own_bits disk None bloom bits it e = (it.1, it.2)
own_bits disk (Some d) bloom bits it e = absurd (cc)

all_bloom : {D : Type 0} (P : BloomState D → Type 0) (bloom : Option (BloomState D)) → ((b : BloomState D) → bloom ≡ Some b → P b) → All P (option_to_list bloom)
all_bloom P bloom each = all_from P (option_to_list bloom) (λ i b at. each b (only_one bloom i b at))

pub recursion_append : {X : Type 0} (P : X → Type 0) (xs ys : List X) → AllByRecursion P xs → AllByRecursion P ys → AllByRecursion P (xs ++ ys)
recursion_append P [] ys one more = more
recursion_append P (x ∷ xs) ys one more = (one.0, recursion_append P xs ys one.1 more)

none_some : {X : Type 0} {o : Option X} {P : Type 0} → o ≡ None → IsSome o → P
none_some none some = let e : false ≡ true = sym (ap is_some none) ∙ some in absurd (cc)

-- what the laws say that are called
abbrev pub ReadsPrefix : {D : Type 0} → DiskOf D → Type 0
ReadsPrefix {D} disk = (score : List ℕ → List ℕ) (c : Setup) (tables : List Table) (devices : PerDevice D) (h g : History) (base : ℕ) → IsTrue disk.tells
    → All (λ r. r.region.len ≤ 2 ^ 30) (layout_of tables) → IsLogOf score disk tables devices c h g base → IsReadAs score disk c tables devices h g base

abbrev pub NoneLacks : {D : Type 0} → DiskOf D → Type 0
NoneLacks {D} disk = (score : List ℕ → List ℕ) (c : Setup) (t : ShardState D) (h : History) (durable from : ℕ)
    → IsSoundFrom score c disk t h durable from → from ≤ t.section.head.mark → IsSoundFrom score c disk t h durable 0

abbrev pub BaseIsFree : {D : Type 0} → DiskOf D → Type 0
BaseIsFree {D} disk = (score : List ℕ → List ℕ) (c : Setup) (base : ℕ) (t : ShardState D) (h : History) (durable from : ℕ)
    → IsSoundFrom score c disk t h durable from → IsSoundFrom score (record c { base = base }) disk t h durable from

abbrev pub LegalPrefix : Type 0
LegalPrefix = (score : List ℕ → List ℕ) (c : Setup) (h : History) (n : ℕ) → IsLegal score c h → IsLegal score c (take n h)

abbrev pub LegalBase : Type 0
LegalBase = (score : List ℕ → List ℕ) (c : Setup) (base : ℕ) (h : History) → IsLegal score c h → IsLegal score (record c { base = base }) h

module _ {D : Type 0} (score : List ℕ → List ℕ) (disk : DiskOf D) (devices : List D) (sections : List (SectionState D)) (made : List (ShardState D)) (sizes : Sizes)
    (opens : AllZip (IsFoundSection disk) devices sections) (makes : AllZip (IsShardMade disk sizes.lumps sizes.clean) sections made)
    (log log1 : LogState D) (bits bits1 : Filter) (shards : List (ShardState D)) (least : ℕ)
    (filter : Option D) (bloom : Option (BloomState D)) (filter_opens : OpensFilter disk filter bloom bits) (part : ℕ) (tests : TestsParts {U = ⊤} part sections bloom log.durable (Ok tt))
    (before : List D) (given : IsLogFound score disk before devices filter log) (short : All (λ r. r.region.len ≤ 2 ^ 30) (layout_of log.tables))
    (marks : (i : ℕ) (s : ShardState D) → slice_get made i ≡ Some s → least ≤ s.section.head.mark) (filter_mark : MatchOption bloom (least ≡ 0) (λ b. least ≤ b.mark))
    (greatest : (n : ℕ) → AreCovered made bloom n → n ≤ least)
    (all : ReadsLogBack {U = Unit {0}} score disk least part (Ok tt) (opened log made bits) (opened log1 shards bits1))
    (sessions : ℕ) (many_sessions : sessions < 2 ^ 32) (some_arena : 0 < length log.layout) (some_section : 0 < length devices) (few_sections : length devices < 2 ^ 32) where
  abbrev back : ReadsBack score disk (opened log made bits) (opened log1 shards bits1)
  back = all.reads

  abbrev k : CoreState D
  k = record { log = log1; shards = shards; bloom = bloom; bits = bits1; waiting = replicate sessions None; synced = log1.durable }

  abbrev pd : PerDevice D
  pd = with_log before devices filter

  pub is_whole : IsWhole disk k
  is_whole = whole score disk devices sections made sizes.lumps sizes.clean opens makes log log1 bits bits1 shards back filter bloom filter_opens part tests all.rest sessions many_sessions some_arena some_section few_sections

  abbrev link : (i : ℕ) (after : ShardState D) → slice_get shards i ≡ Some after → IsChain disk devices sections made sizes.lumps sizes.clean i after
  link i after at = chain score disk devices sections made sizes.lumps sizes.clean opens makes log log1 bits bits1 shards back i after at

  -- ---- its layout

  arenas_are : map (λ r. r.region.len) log1.layout ≡ map (λ r. r.region.len) (layout_of log.tables)
  arenas_are = ap (λ (l : LogState D). map (λ r. r.region.len) l.layout) back.log ∙ ap (λ (rs : List ArenaRegion). map (λ r. r.region.len) rs) given.layout

  sections_are : map (λ s. s.section.buckets) shards ≡ map (λ device. buckets_in (disk.size device)) devices
  sections_are = room_buckets score disk devices sections made sizes.lumps sizes.clean opens makes log log1 bits bits1 shards back

  setup_is : IsSetupOf disk log.tables pd (setup_of k)
  setup_is = record { arenas = arenas_are; sections = sections_are }

  limits_are : KeepsLimits log.tables (setup_of k)
  limits_are = record {
    arenas = given.arenas;
    buckets = subst (λ (l : List ℕ). sum l ≤ MOST_BUCKETS) (sym (same_buckets score disk devices sections made sizes.lumps sizes.clean opens makes log log1 bits bits1 shards back)) tests.0;
    sections = all_from (λ n. 0 < n) (map (λ s. s.section.buckets) shards) (λ i n at.
        let s = slice_get_other shards (map (λ s. s.section.buckets) shards) i n (length-map shards (λ s. s.section.buckets)) at in
        let it = link i s.0 s.1 in
        let e : s.0.section.buckets ≡ n = same_Some s.0.section.buckets n (sym (at_map (λ s. s.section.buckets) shards i s.0 s.1) ∙ at) in
        let some : 0 < s.0.section.buckets = subst (λ (m : ℕ). 0 < m) (sym (chain_buckets score disk devices sections made sizes.lumps sizes.clean opens makes log log1 bits bits1 shards back i s.0 it)) it.opens.some in
        omega (arith, some, e));
    names = given.read.mounted.distinct;
  }

  sizes_are : map disk.size (all_of (devices_of k)) ≡ map disk.size (all_of pd)
  sizes_are = all_map disk.size log1.disks before (map (λ s. s.section.disk) shards) devices (map (λ b. b.disk) (option_to_list bloom)) (option_to_list filter)
      (back.disks.sizes_are ∙ given.held.sizes_are) (shard_sizes score disk devices sections made sizes.lumps sizes.clean opens makes log log1 bits bits1 shards back) (filter_same disk disk.size filter bloom bits (λ d b it. it.reads.size) filter_opens)

  -- ---- no fault was told

  faults_are : map disk.faults (all_of (devices_of k)) ≡ map disk.faults (all_of pd)
  faults_are =
      let f = disk.faults in
      let s1 = map (λ s. s.section.disk) shards in
      let s0 = map (λ s. s.section.disk) made in
      let b1 = map (λ b. b.disk) (option_to_list bloom) in
      let b0 = option_to_list filter in
      let told : map f (log1.disks ++ s1) ≡ map f (log.disks ++ s0) = all.counts in
      let left : map f (log1.disks ++ s1 ++ b1) ≡ map f (log1.disks ++ s1) ++ map f b1 = map-append f (log1.disks ++ s1) b1 in
      let right : map f (log.disks ++ s0 ++ b0) ≡ map f (log.disks ++ s0) ++ map f b0 = map-append f (log.disks ++ s0) b0 in
      let same : map f b1 ≡ map f b0 = filter_same disk f filter bloom bits (λ d b it. it.faults) filter_opens in
      let last : map f (log.disks ++ s0 ++ b0) ≡ map f (before ++ devices ++ b0) = all_map f log.disks before s0 devices b0 b0 given.faults (made_faults score disk devices sections made sizes.lumps sizes.clean opens makes) refl in
      let mid : map f (log1.disks ++ s1) ++ map f b1 ≡ map f (log.disks ++ s0) ++ map f b0 = cc in
      left ∙ mid ∙ sym right ∙ last

  -- ---- which entries were read

  reads_once : ReadsEntriesOnce disk log.tables pd k
  reads_once n tells covered =
      let low : n ≤ least = greatest n (record {
        shards_are = λ i s at.
            let after = slice_get_other shards made i s (sym back.many) at in
            omega (arith, covered.shards_are i after.0 after.1, ap (λ h. h.mark) (back.shards i s after.0 at after.1).head);
        filter_is = covered.filter_is;
      }) in
      let same : log1.durable ≡ log.durable = ap (λ (l : LogState D). l.durable) back.log in
      let most : sum_by disk.calls log1.disks ≤ sum_by disk.calls before + length before + reads_to_find_all (layout_of log.tables) given.read.fields + (log1.durable - n) =
      omega (arith, all.calls tells, given.calls tells, low, same) in
      (given.read.fields, given.read.read tells, most)

  -- ---- what it has of the heads

  log_read : IsLogRead disk log.tables pd log1
  log_read = record {
    fields = given.read.fields;
    read = given.read.read;
    mounted = subst (λ (l : LogState D). IsMountedBy (map (λ t. t.name) log.tables) (layout_of log.tables) given.read.fields l) (sym back.log) (record {
      distinct = given.read.mounted.distinct;
      passed = given.read.mounted.passed;
      heads = given.read.mounted.heads;
      before = given.read.mounted.before;
      base = given.read.mounted.base;
      most = given.read.mounted.most;
    });
  }

  still_mounted : IsMountedLog log1
  still_mounted = subst IsMountedLog (sym back.log) (record {
    committing = given.mounted.committing;
    staged = given.mounted.staged;
    rest = given.mounted.rest;
    queue = given.mounted.queue;
    filling = given.mounted.filling;
    durable = given.mounted.durable;
    calls = given.mounted.calls;
    stopped = given.mounted.stopped;
  })

  head_read : (i : ℕ) (s : ShardState D) → slice_get shards i ≡ Some s → IsHeadRead disk pd i s.section.head
  head_read i s at =
      let it = link i s at in
      let same = chain_head score disk devices sections made sizes.lumps sizes.clean opens makes log log1 bits bits1 shards back i s it in
      subst (λ h. IsHeadRead disk pd i h) (sym same) (record {
        device = it.device;
        at = it.device_at;
        read = λ tells. (it.section.name, it.opens.head tells);
      })

  opened_filter : (b : BloomState D) → bloom ≡ Some b → (device : D) × (filter ≡ Some device) × IsFilterOpened disk device b bits
  opened_filter = filter_opened score disk devices sections made sizes.lumps sizes.clean opens makes log log1 bits bits1 shards back filter bloom filter_opens part tests all.rest sessions many_sessions some_arena some_section few_sections

  mark_read : (b : BloomState D) → bloom ≡ Some b → IsMarkRead disk pd b.mark
  mark_read b is =
      let it = opened_filter b is in
      record {
        device = it.0;
        at = ap (λ (o : Option D). slice_get (option_to_list o) 0) it.1;
        read = λ tells. (record { filter = bits; mark = b.mark }, it.2.found tells, refl);
      }

  none_stopped : All (λ stop. stop ≡ None) (stops_of k)
  none_stopped = All-from_recursion (λ stop. stop ≡ None) (stops_of k) (
    still_mounted.stopped,
    recursion_append (λ stop. stop ≡ None) (map (λ s. s.section.stopped) shards) (map (λ b. b.calls.stopped) (option_to_list bloom))
        (by_recursion (λ stop. stop ≡ None) (map (λ s. s.section.stopped) shards) (λ i o at.
        let s = slice_get_other shards (map (λ s. s.section.stopped) shards) i o (length-map shards (λ s. s.section.stopped)) at in
        same_Some o s.0.section.stopped (sym at ∙ at_map (λ s. s.section.stopped) shards i s.0 s.1) ∙ (all.rest i s.0 s.1).quiet.stopped))
        (by_recursion (λ stop. stop ≡ None) (map (λ b. b.calls.stopped) (option_to_list bloom)) (λ i o at.
        let b = slice_get_other (option_to_list bloom) (map (λ b. b.calls.stopped) (option_to_list bloom)) i o (length-map (option_to_list bloom) (λ b. b.calls.stopped)) at in
        same_Some o b.0.calls.stopped (sym at ∙ at_map (λ b. b.calls.stopped) (option_to_list bloom) i b.0 b.1) ∙ (opened_filter b.0 (only_one bloom i b.0 b.1)).2.goes)),
  )

  room_at : (i : ℕ) (s : ShardState D) → slice_get shards i ≡ Some s → HasRoomOf sizes s
  room_at i s at =
      let it = link i s at in
      (it.keeps.lumps ∙ ap (λ (t : ShardState D). t.lumps) it.makes.is, it.keeps.clean_room ∙ ap (λ (t : ShardState D). t.index.clean_room) it.makes.is)

  is_fresh : IsFreshlyMounted disk log.tables pd sizes sessions k
  is_fresh = record {
    tables_are = ap (λ (l : LogState D). l.tables) back.log;
    layout = ap (λ (l : LogState D). l.layout) back.log ∙ given.layout;
    setup = setup_is;
    limits = limits_are;
    sizes = sizes_are;
    shards = many_shards score disk devices sections made sizes.lumps sizes.clean opens makes log log1 bits bits1 shards back;
    filter = filter_many disk filter bloom bits filter_opens;
    own_filter = λ none. let it = own_bits disk filter bloom bits filter_opens none in (back.counts.0 ∙ it.0, back.counts.1 ∙ it.1);
    log_read = log_read;
    heads_read = head_read;
    mark_read = mark_read;
    log = still_mounted;
    stops = none_stopped;
    writebacks = all_from (λ s. s.writeback ≡ None) shards (λ i s at. (all.rest i s at).quiet.writeback);
    saves = all_bloom (λ b. b.twin.change ≡ None) bloom (λ b is. (opened_filter b is).2.rest);
    synced = refl;
    waiting = refl;
    rooms = all_from (HasRoomOf sizes) shards room_at;
  }

  -- ---- on devices that stand for a history

  module _ (tells : IsTrue disk.tells) (read : (d : D) → disk.images d (disk.bytes d)) (prefix : ReadsPrefix disk) (none_lacks : NoneLacks disk) (base_is_free : BaseIsFree disk) (legal_prefix : LegalPrefix) (legal_base : LegalBase) (one : HasOneSaved)
      (c : Setup) (h g : History) (base : ℕ) (of : IsLogOf score disk log.tables pd c h g base) where
    was_read : IsReadAs score disk c log.tables pd h g base
    was_read = prefix score c log.tables pd h g base tells short of

    log_found : IsSoundLog score disk log g × (log.base ≡ base) × (log.durable ≡ length g)
    log_found = given.found g base tells of.read

    recalled : RecallsFrom score disk g least (opened log made bits) (opened log1 shards bits1)
    recalled = all.recalls g tells log_found.0

    log_versions : HasVersionsOf log c
    log_versions = setup_versions score disk before log devices filter given tells read c h g base of

    durable_is : log1.durable ≡ length g
    durable_is = ap (λ (l : LogState D). l.durable) back.log ∙ log_found.2

    base_is : log1.base ≡ base
    base_is = ap (λ (l : LogState D). l.base) back.log ∙ log_found.1

    setup_same : setup_of k ≡ record c { base = base }
    setup_same =
        let a : map (λ r. r.region.len) log1.layout ≡ c.arenas = arenas_are ∙ sym of.setup.arenas in
        let v : log1.versions ≡ c.versions = ap (λ (l : LogState D). l.versions) back.log ∙ sym log_versions in
        let s : map (λ s. s.section.buckets) shards ≡ c.sections = sections_are ∙ sym of.setup.sections in
        ap (λ (x : List ℕ). record { arenas = x; versions = log1.versions; base = log1.base; sections = map (λ s. s.section.buckets) shards }) a
        ∙ ap (λ (x : List ℕ). record { arenas = c.arenas; versions = x; base = log1.base; sections = map (λ s. s.section.buckets) shards }) v
        ∙ ap (λ (x : ℕ). record { arenas = c.arenas; versions = c.versions; base = x; sections = map (λ s. s.section.buckets) shards }) base_is
        ∙ ap (λ (x : List ℕ). record { arenas = c.arenas; versions = c.versions; base = base; sections = x }) s

    shard_sound : (i : ℕ) (s : ShardState D) → slice_get shards i ≡ Some s → IsSoundFrom score (setup_of k) disk s g k.log.durable 0
    shard_sound i s at =
        let it = link i s at in
        let store = of_store score disk c g tells devices of.setup.sections i it.device it.section it.device_at (was_read.sections i it.device it.device_at) it.opens in
        let before = sound_shard score disk c g sizes.lumps sizes.clean i it.section it.before tells store it.makes in
        let after = recalled.shards i it.before s it.before_at at c log_versions before in
        let low : least ≤ s.section.head.mark = omega (arith, marks i it.before it.before_at, ap (λ h. h.mark) it.keeps.head) in
        subst (λ (n : ℕ). IsSoundFrom score (setup_of k) disk s g n 0) (sym durable_is)
        (subst (λ (v : Setup). IsSoundFrom score v disk s g (length g) 0) (sym setup_same)
        (base_is_free score c base s g (length g) 0 (none_lacks score c s g (length g) least after low)))

    saved_covers : (b : BloomState D) → bloom ≡ Some b → Covers (scores_of score g) (record { filter = bits; mark = b.mark })
    saved_covers b is =
        let it = opened_filter b is in
        let stands : FilterStandsFor score g (disk.bytes it.0) = was_read.filter 0 it.0 (ap (λ (o : Option D). slice_get (option_to_list o) 0) it.1) in
        subst (Covers (scores_of score g)) (one stands.saved (record { filter = bits; mark = b.mark }) (disk.bytes it.0) stands.has (it.2.found tells)) stands.covers

    bits_set : (i : ℕ) (e : Accepted) → slice_get g i ≡ Some e → HasBitsOf bits1 (score e.block.bytes)
    bits_set i e at = ⊎_elim (λ (read : least ≤ i). recalled.bits i e read at) (λ (low : i < least). by_filter low bloom refl filter_mark) (cases least i)
      where
        cases : (m n : ℕ) → (m ≤ n) ⊎ (n < m)
        cases m n = grind arith

        by_filter : i < least → (o : Option (BloomState D)) → bloom ≡ o → MatchOption o (least ≡ 0) (λ b. least ≤ b.mark) → HasBitsOf bits1 (score e.block.bytes)
        by_filter low None is nought = absurd (omega (arith, low, nought))
        by_filter low (Some b) is most =
            let covers = saved_covers b is in
            back.stay (score e.block.bytes) (covers.set i (score e.block.bytes) (omega (arith, low, most)) (at_map (λ e. score e.block.bytes) g i e at))

    filter_sound : (b : BloomState D) → bloom ≡ Some b → IsSoundFilter score disk b (take log1.durable g)
    filter_sound b is =
        let it = opened_filter b is in
        let whole : take log1.durable g ≡ g = take_all log1.durable g (omega (arith, durable_is)) in
        subst (λ (l : History). IsSoundFilter score disk b l) (sym whole) (record {
          saved = record { filter = bits; mark = b.mark };
          coming = record { filter = bits; mark = b.mark };
          sound = it.2.sound tells (record { filter = bits; mark = b.mark });
          covers = saved_covers b is;
          coming_covers = λ some. none_some it.2.rest some;
        })

    partition_stays : (i : ℕ) (t : Table) (device : D) (file : List ℕ) → slice_get log1.tables i ≡ Some t → slice_get log1.disks i ≡ Some device
        → disk.images device file → IsPartition t file
    partition_stays i t device file here there image =
        let d = slice_get_other log.disks log1.disks i device (held_many disk log.disks log1.disks back.disks) there in
        let b = slice_get_other before log.disks i d.0 (held_many disk before log.disks given.held) d.1 in
        let was : disk.images d.0 file = back.disks.images_are i d.0 device d.1 there file image in
        let same : file ≡ disk.bytes b.0 = at_slice (IsSynced disk) log.disks i d.0 given.settled d.1 tells file was ∙ held_bytes disk before log.disks i b.0 d.0 given.held b.1 d.1 in
        let table : slice_get log.tables i ≡ Some t = ap (λ (l : LogState D). slice_get l.tables i) (sym back.log) ∙ here in
        subst (IsPartition t) (sym same) (was_read.partitions.each i t (disk.bytes b.0) table (at_map disk.bytes before i b.0 b.1))

    is_sound : IsSound score disk k g
    is_sound = record {
      whole = is_whole;
      legal = subst (λ (v : Setup). IsLegal score v g) (sym setup_same)
          (legal_base score c base g (subst (λ (l : History). IsLegal score c l) (sym was_read.prefix) (legal_prefix score c h was_read.n of.legal)));
      partitions = partition_stays;
      log = back.sound g log_found.0;
      shards = shard_sound;
      bits = bits_set;
      filter = filter_sound;
    }

    recalls : Recalls score disk c g base k
    recalls = record { sound = is_sound; setup = setup_same; durable = durable_is }

  pub mounts : (read : (d : D) → IsTrue disk.tells → disk.images d (disk.bytes d)) (prefix : ReadsPrefix disk) (none_lacks : NoneLacks disk) (base_is_free : BaseIsFree disk) (legal_prefix : LegalPrefix) (legal_base : LegalBase) (one : HasOneSaved)
      → MountsStore score disk log.tables pd sizes sessions k
  mounts read prefix none_lacks base_is_free legal_prefix legal_base one = record {
    recalls = λ c h g base tells of. recalls tells (λ d. read d tells) prefix none_lacks base_is_free legal_prefix legal_base one c h g base of;
    fresh = is_fresh;
    calls = reads_once;
    faults_are = faults_are;
  }
