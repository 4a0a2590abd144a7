-- A log that is read back, block by block.
use Rattle.std.proofs.Common.{◌≡◌, ◌≢◌, ◌⊎◌, ⊎_elim, inl, inr, ℕ, ◌+◌, ◌-◌, ◌^◌, ◌<◌, ◌≤◌, List, [], ◌++◌, length, map, Some, None, refl, sym, ◌∙◌, ap, subst, arith}
use Rattle.std.specs.Prelude.{slice_get, sum_by, IsTrue, OnOk, ⊤, Result, Ok, Err}
use Rattle.std.specs.List.{AllPairs, Contains}
use Rattle.std.proofs.lemmas.List.{length-map, map-append}
use Rattle.std.proofs.lemmas.Option.{same_Some}
use Rattle.vt_base.specs.declared.mount.MountBad.{MountBad}
use Rattle.vt_base.specs.declared.mount.MountBad.TheVariants.{Fault, NotFormatted, TooSmall, DuplicateName, Disagree, Damaged, NoMemory}
use Rattle.vt_base.specs.declared.place.Entry.{Entry}
use Rattle.vt_base.specs.declared.place.Info.{Info}
use Rattle.vt_arena.specs.Directory.{IsReached, what_is_walked}
use Rattle.vt_base.specs.declared.why.FieldValue.{FieldValue}
use Rattle.vt_base.specs.declared.why.Site.TheVariants.{Bucket, Clump}
use Rattle.vt_bloom.specs.Bits.{Filter, HasBitsOf, MarksScore}
use Rattle.vt_bucket.specs.Laws.{IsUnambiguous}
use Rattle.vt_disk.specs.Members.{DiskOf}
use Rattle.vt_icache.specs.Index.{entry_of}
use Rattle.vt_isect.specs.Agreement.{IsEntryOf}
use Rattle.vt_bucket.specs.Frame.{IsBucketFrame}
use Rattle.vt_disk.specs.declared.region.Region.{Region}
use Rattle.vt_isect.specs.Layout.{IsBucketPlace}
use Rattle.vt_isect.specs.declared.TheConstants.{FRAME_LEN}
use Rattle.vt_twin.specs.Frames.{current_frame}
use Rattle.vt_isect.specs.declared.head.Head.{Head}
use Rattle.vt_log.specs.Answers.{HoldTheSame, OnlyReadsLog}
use Rattle.vt_log.specs.Back.{IsTailBehind, IsInfoInLog, IsTailOf, TailState}
use Rattle.vt_log.specs.Log.{IsMountedLog, LogState, front, queued, setup_of_log}
use Rattle.vt_log.specs.Queue.{QueueState, spot_of}
use Rattle.vt_log.specs.Sound.{IsSoundLog}
use Rattle.vt_log.specs.Whole.{IsOnDisk, IsWholeLog}
use Rattle.vt_log.proofs.Lists.{at_slice, slice_get_other}
use Rattle.vt_model.specs.History.{Accepted, History}
use Rattle.vt_model.specs.Places.{Setup, place_of}
use Rattle.vt_shard.specs.Shard.{ShardState}
use Rattle.vt_shard.specs.Sound.{IsSoundFrom}
use Rattle.vt_recover.specs.Marks.{LacksMany}
use Rattle.vt_recover.specs.Recalling.{AreReadBack, HasVersionsOf, IsDamagedIn, IsUnused, KeepsSectionBytes, KeepsSection, Opened, ReadsBack, ReadsLogBack, RecallsFrom, devices_called, opened}
use Rattle.vt_recover.specs.Refusals.{CountsRefusal}
use Rattle.vt_recover.specs.Sections.{IsLive, SectionStandsFor, section_buckets}
use Rattle.vt_recover.specs.TakingBack.{GivesNext, HasCome, HasEntries, IsSoundAt, IsUnwrittenShard, StandsOnDisks, TakesAllBack, TellsOfLog}
use Rattle.vt_recover.proofs.Below.{AreMarked, HaveRanges, MarkedStay}
use Rattle.vt_recover.proofs.Places.{map_then, within_get, one_or_other}
use Rattle.vt_recover.proofs.Counts.{risen_front}
use Rattle.vt_recover.proofs.Lacking.{OneHead, lacks_many}
use Rattle.vt_recover.proofs.Lists.{at_map}
use Rattle.vt_recover.proofs.PuttingBack.{LacksMore}
use Rattle.vt_recover.proofs.TakingBack.{entries_stay, keeps_none, keeps_then}
use Rattle.vt_recover.proofs.Held.{counts_less, held_twice}

-- ---- the log

-- what a disk holds it held
held_there : {D : Type 0} (disk : DiskOf D) (before after : List D) → HoldTheSame disk before after → (i : ℕ) (device : D) → slice_get after i ≡ Some device
    → (d : D) × (slice_get before i ≡ Some d) × (disk.bytes device ≡ disk.bytes d)
held_there disk before after hold i device there =
    let many : length after ≡ length before = sym (length-map after disk.bytes) ∙ ap length hold.bytes_are ∙ length-map before disk.bytes in
    let d = slice_get_other before after i device many there in (
      d.0,
      d.1,
      same_Some (disk.bytes device) (disk.bytes d.0)
          (sym (at_map disk.bytes after i device there) ∙ ap (λ (fs : List (List ℕ)). slice_get fs i) hold.bytes_are ∙ at_map disk.bytes before i d.0 d.1),
    )

behind_stays : {D : Type 0} (l new : LogState D) (h : History) (n : ℕ) (t : TailState) → new ≡ record l { disks = new.disks } → IsTailBehind l h n t → IsTailBehind new h n t
behind_stays {D} l new h n t same it = subst (λ (m : LogState D). IsTailBehind m h n t) (sym same) (record {
  left = it.left;
  most = it.most;
  queue = it.queue;
  index = it.index;
  end = it.end;
  sectors = it.sectors;
  arenas = it.arenas;
})

-- where a walk stands in its arena it has come to, whatever disks hold the same
come_stays : {D : Type 0} (disk : DiskOf D) (l new : LogState D) (t : TailState) → new ≡ record l { disks = new.disks } → HoldTheSame disk l.disks new.disks → HasCome disk l t → HasCome disk new t
come_stays {D} disk l new t same hold come found r device has there =
    let d = held_there disk l.disks new.disks hold r.part device there.disk_is in
    subst (λ (file : List ℕ). IsReached disk.tells found.head r.region file t.at) (sym d.2)
    (come found r d.0 (sym (ap (λ (m : LogState D). slice_get m.heads t.arena) same) ∙ has)
    (record { arena = sym (ap (λ (m : LogState D). slice_get m.layout t.arena) same) ∙ there.arena; disk_is = d.1 }))

-- the disks and the heads of a whole log
pub stands_whole : {D : Type 0} (disk : DiskOf D) (l : LogState D) → IsWholeLog disk l → StandsOnDisks l
stands_whole disk l w = record {
  heads = w.many;
  disks = λ i r at. let it = at_slice (λ x. IsOnDisk disk l.disks x) l.layout i r w.regions at in within_get l.disks r.part it.device it.has;
}

stands_stays : {D : Type 0} (disk : DiskOf D) (l new : LogState D) → new ≡ record l { disks = new.disks } → HoldTheSame disk l.disks new.disks → StandsOnDisks l → StandsOnDisks new
stands_stays {D} disk l new same hold it = record {
  heads = ap (λ (m : LogState D). length m.heads) same ∙ it.heads ∙ sym (ap (λ (m : LogState D). length m.layout) same);
  disks = λ i r at.
      let many : length new.disks ≡ length l.disks = sym (length-map new.disks disk.bytes) ∙ ap length hold.bytes_are ∙ length-map l.disks disk.bytes in
      let below : r.part < length l.disks = it.disks i r (sym (ap (λ (m : LogState D). slice_get m.layout i) same) ∙ at) in
      omega (arith, below, many);
}

-- a block's place depends on the versions alone
place_by_log : {D : Type 0} (c : Setup) (l : LogState D) (h : History) (i : ℕ) → HasVersionsOf l c → place_of c h i ≡ place_of (setup_of_log l) h i
place_by_log c l h i versions = ap (λ (vs : List ℕ). place_of (record c { versions = vs }) h i) versions

-- what is given of a block is its entry
pub entry_is : {D : Type 0} (score : List ℕ → List ℕ) (c : Setup) (l : LogState D) (h : History) (info : Info) → HasVersionsOf l c → IsInfoInLog score l h info.number info
    → IsEntryOf score c h info.number (entry_of info)
entry_is score c l h info versions it = record {
  block = it.block;
  spot = spot_of info.place;
  stands = record { block = it.at; place = place_by_log c l h info.number versions ∙ it.place };
  score_is = it.score;
  kind_is = it.kind;
  size_is = it.size;
  arena_is = refl;
  offset_is = refl;
}

-- ---- how far it came

-- The blocks from this number on were read back, and nothing of the section was written, or many entries were lacking.
abbrev pub IsUnwrittenTo : {D : Type 0} → (List ℕ → List ℕ) → DiskOf D → LogState D → History → (i n : ℕ) → (before after : ShardState D) → Type 0
IsUnwrittenTo score disk l h i n before after = (c : Setup) (entries : ℕ → List Entry) → HasVersionsOf l c → IsLive c i before.section.head → before.section.buckets ≡ section_buckets c i
    → SectionStandsFor score c h i (disk.bytes before.section.disk) → IsSoundFrom score c disk before h (length h) (length h)
    → HasEntries entries (disk.bytes before.section.disk) before
    → IsUnwrittenShard disk entries (disk.bytes before.section.disk) n after ⊎ LacksMany score c h i (disk.bytes before.section.disk)

-- The blocks from the walk's place on were read back.
pub record IsReading {D : Type 0} (score : List ℕ → List ℕ) (disk : DiskOf D) (old now : Opened D) (t : TailState) : Type 0 where
  pub reads : ReadsBack score disk old now
  pub stands : StandsOnDisks now.log
  pub queue : queued now.log ≡ 0
  pub tail : IsTailOf now.log t
  pub come : HasCome disk now.log t
  pub left : t.left ≤ old.log.durable
  pub rest : AreReadBack now.bits old.log.durable now.shards
  pub log_faults : map disk.faults now.log.disks ≡ map disk.faults old.log.disks
  pub shard_faults : map (λ s. disk.faults s.section.disk) now.shards ≡ map (λ s. disk.faults s.section.disk) old.shards
  pub behind : (h : History) → IsTrue disk.tells → IsSoundLog score disk old.log h → IsTailBehind now.log h t.left t
  pub recalls : (h : History) → IsTrue disk.tells → IsSoundLog score disk old.log h → RecallsFrom score disk h t.left old now
  pub unwritten : (h : History) (i : ℕ) (before after : ShardState D) → IsTrue disk.tells → IsSoundLog score disk old.log h → slice_get old.shards i ≡ Some before
      → slice_get now.shards i ≡ Some after → IsUnwrittenTo score disk old.log h i t.left before after

-- a log that was just found has no queue
pub no_queued : {D : Type 0} (l : LogState D) → IsMountedLog l → queued l ≡ 0
no_queued l it = ap (λ (q : QueueState). length q.places) it.queue

-- a block that comes next has a number below the greatest
pub below_most : (number left before : ℕ) → number + 1 ≡ before → left ≡ before → left < 2 ^ 64 → number < 2 ^ 64 - 1
below_most number left before next is fits = omega (arith, next, is, fits)

-- One call of the log's disks was made for each block that was read back, and none of a block below this number.
pub record ReadsEachOnce {D : Type 0} (disk : DiskOf D) (least : ℕ) (old now : Opened D) (t : TailState) : Type 0 where
  pub calls : IsTrue disk.tells → sum_by disk.calls now.log.disks + t.left ≤ sum_by disk.calls old.log.disks + old.log.durable
  pub far : (least ≤ t.left) ⊎ (t.left ≡ old.log.durable)

pub begin_once : {D : Type 0} (disk : DiskOf D) (least : ℕ) (old : Opened D) (t : TailState) → IsMountedLog old.log → t.left ≡ front old.log → ReadsEachOnce disk least old old t
begin_once disk least old t mounted all =
    let same : t.left ≡ old.log.durable = omega (arith, all, no_queued old.log mounted) in
    record { calls = λ tells. omega (arith, same); far = inr same }

pub once_more : {D : Type 0} (score : List ℕ → List ℕ) (disk : DiskOf D) (least : ℕ) (old now : Opened D) (t after : TailState) → ReadsEachOnce disk least old now t → (l : LogState D) (info : Info)
    → GivesNext score disk (Ok info) now.log l t after → least < t.left → (shards : List (ShardState D)) (bits : Filter) → ReadsEachOnce disk least old (opened l shards bits) after
once_more score disk least old now t after was l info next above shards bits = record {
  calls = λ tells. omega (arith, was.calls tells, next.reads.calls tells, next.number.0, next.number.1);
  far = inl (omega (arith, above, next.number.0, next.number.1));
}

once_ends : {D : Type 0} (disk : DiskOf D) (least : ℕ) (old now : Opened D) (t : TailState) → ReadsEachOnce disk least old now t → t.left ≤ least
    → IsTrue disk.tells → sum_by disk.calls now.log.disks ≤ sum_by disk.calls old.log.disks + (old.log.durable - least)
once_ends disk least old now t it far tells = ⊎_elim
    (λ above. omega (arith, it.calls tells, above, far)) (λ none. omega (arith, it.calls tells, none)) it.far

none_in : {X : Type 0} (x : X) → Contains [] x → ⊥
none_in x has = omega (arith, has.1)

pub begin_reading : {D : Type 0} (score : List ℕ → List ℕ) (disk : DiskOf D) (old : Opened D) (t : TailState) → IsMountedLog old.log → StandsOnDisks old.log
    → ((i : ℕ) (s : ShardState D) → slice_get old.shards i ≡ Some s → IsUnused s) → IsTailOf old.log t → t.left ≡ front old.log → t.arena ≡ length old.log.heads
    → ((h : History) → IsSoundLog score disk old.log h → IsTailBehind old.log h (length h) t) → IsReading score disk old old t
begin_reading {D} score disk old t mounted stands unused tail all past behind = record {
  reads = record {
    log = refl;
    disks = record { bytes_are = refl; sizes_are = refl; images_are = λ i x y at there file image. subst (λ (d : D). disk.images d file) (same_Some y x (sym there ∙ at)) image };
    sound = λ h sound. sound;
    counts = (refl, refl);
    stay = λ s has. has;
    many = refl;
    shards = λ i x y at there. subst (λ (s : ShardState D). KeepsSection disk x s) (same_Some x y (sym at ∙ there)) (keeps_none disk x);
  };
  stands = stands;
  queue = no_queued old.log mounted;
  tail = tail;
  come = λ found r device has there. absurd (omega (arith, within_get old.log.heads t.arena found has, past));
  left = omega (arith, all, no_queued old.log mounted);
  rest = λ i s at. let it = unused i s at in record {
    quiet = it.quiet;
    filed = omega (arith, it.filed);
    numbers = λ info has. absurd (none_in info (subst (λ (l : List Info). Contains l info) it.dirty has));
    bits_of = λ info has. absurd (none_in info (subst (λ (l : List Info). Contains l info) it.dirty has));
  };
  log_faults = refl;
  shard_faults = refl;
  behind = λ h tells sound. subst (λ (n : ℕ). IsTailBehind old.log h n t) (sym (all_of h sound)) (behind h sound);
  recalls = λ h tells sound. record {
    bits = λ i e above at. absurd (omega (arith, above, all_of h sound, within_get h i e at));
    shards = λ i x y at there c versions was. subst (λ (n : ℕ). IsSoundFrom score c disk y h (length h) n) (sym (all_of h sound))
        (subst (λ (s : ShardState D). IsSoundFrom score c disk s h (length h) (length h)) (same_Some x y (sym at ∙ there)) was);
  };
  unwritten = λ h i x y tells sound at there c entries versions live buckets section was has. inl (subst (λ (s : ShardState D). IsUnwrittenShard disk entries (disk.bytes x.section.disk) t.left s) (same_Some x y (sym at ∙ there))
      (let it = unused i x at in record {
        phase = it.quiet.phase;
        bytes = refl;
        bucket = λ b is. let no : None ≡ Some b = sym it.bucket ∙ is in absurd (cc);
        own = λ info here. absurd (none_in info (subst (λ (l : List Info). Contains l info) it.dirty here));
        lacks = λ info here. absurd (none_in info (subst (λ (l : List Info). Contains l info) it.dirty here));
        least = λ info here. absurd (none_in info (subst (λ (l : List Info). Contains l info) it.dirty here));
        apart = subst (λ (l : List Info). AllPairs (λ a b. a.number ≢ b.number) l) (sym it.dirty) (λ a b d before within. absurd (omega (arith, within)));
      }));
}
  where
    all_of : (h : History) → IsSoundLog score disk old.log h → t.left ≡ length h
    all_of h sound = all ∙ sound.front

-- ---- what the section's file has

-- the entries of the section that the file is
stands_entries : {D : Type 0} (score : List ℕ → List ℕ) (c : Setup) (h : History) (i : ℕ) (file : List ℕ) (before : ShardState D) → IsLive c i before.section.head → before.section.buckets ≡ section_buckets c i
    → (stands : SectionStandsFor score c h i file) → HasEntries stands.section.entries file before
stands_entries score c h i file before live buckets stands = λ n region range place.
    let first : stands.section.head.first ≡ before.section.head.first = ap (λ (x : Head). x.first) stands.section.at_place ∙ stands.live.first ∙ sym live.first in
    let it = stands.section.is.bucket n (omega (arith, range.0, first), omega (arith, range.1, first, buckets)) in
    let same : it.0 ≡ region = same_place it.0 region (n - before.section.head.first) (subst (λ (m : ℕ). IsBucketPlace (n - m) it.0) first it.1) place in
    subst (λ (r : Region). IsBucketFrame n (stands.section.entries n) (current_frame r FRAME_LEN file)) same it.2
  where
    same_place : (a b : Region) (j : ℕ) → IsBucketPlace j a → IsBucketPlace j b → a ≡ b
    same_place a b j here there =
        let one : a ≡ record { start = b.start; len = a.len } = ap (λ (s : ℕ). record { start = s; len = a.len }) (here.start ∙ sym there.start) in
        one ∙ ap (λ (m : ℕ). record { start = b.start; len = m }) (here.len ∙ sym there.len)

-- ---- counts

-- those of the log's disks and of the sections' disks
counts_all : {D : Type 0} (disk : DiskOf D) (o : Opened D) → map disk.faults (devices_called o) ≡ map disk.faults o.log.disks ++ map (λ s. disk.faults s.section.disk) o.shards
counts_all {D} disk o = map-append disk.faults o.log.disks (map (λ (s : ShardState D). s.section.disk) o.shards)
    ∙ ap (λ (ns : List ℕ). map disk.faults o.log.disks ++ ns) (sym (map_then (λ (s : ShardState D). s.section.disk) disk.faults o.shards))

counts_front : (bad : MountBad) (xs ys zs : List ℕ) → CountsRefusal bad xs ys → CountsRefusal bad (xs ++ zs) (ys ++ zs)
counts_front Fault xs ys zs rose = risen_front xs ys zs rose
counts_front (NotFormatted part) xs ys zs same = ap (λ ns. ns ++ zs) same
counts_front (TooSmall part len need) xs ys zs same = ap (λ ns. ns ++ zs) same
counts_front (DuplicateName first second) xs ys zs same = ap (λ ns. ns ++ zs) same
counts_front (Disagree part field found want) xs ys zs same = ap (λ ns. ns ++ zs) same
counts_front (Damaged site want found) xs ys zs same = ap (λ ns. ns ++ zs) same
counts_front NoMemory xs ys zs same = ap (λ ns. ns ++ zs) same

-- ---- a block further back

module _ {D : Type 0} (score : List ℕ → List ℕ) (disk : DiskOf D) (old now : Opened D) (t after : TailState) (was : IsReading score disk old now t) (l : LogState D) (info : Info)
    (next : GivesNext score disk (Ok info) now.log l t after) where
  -- the log
  log_is : l ≡ record old.log { disks = l.disks }
  log_is = next.reads.same ∙ ap (λ (m : LogState D). record m { disks = l.disks }) was.reads.log

  hold : HoldTheSame disk old.log.disks l.disks
  hold = held_twice disk old.log.disks now.log.disks l.disks was.reads.disks next.reads.disks

  log_sound : (h : History) → IsSoundLog score disk old.log h → IsSoundLog score disk l h
  log_sound h sound = next.reads.sound h (was.reads.sound h sound)

  -- the block that was given
  given : (h : History) → IsTrue disk.tells → IsSoundLog score disk old.log h
      → IsInfoInLog score now.log h info.number info × (info.number + 1 ≡ t.left) × IsTailBehind now.log h info.number after
  given h tells sound = next.blocks h t.left tells (was.reads.sound h sound) (was.behind h tells sound)

  versions_now : (c : Setup) → HasVersionsOf old.log c → HasVersionsOf now.log c
  versions_now c versions = subst (λ (m : LogState D). HasVersionsOf m c) (sym was.reads.log) versions

  -- a shard as it was before the block was taken back into it
  sound_at : (h : History) → IsTrue disk.tells → IsSoundLog score disk old.log h → (c : Setup) → HasVersionsOf old.log c → (i : ℕ) (x y : ShardState D) → slice_get old.shards i ≡ Some x → slice_get now.shards i ≡ Some y
      → IsSoundFrom score c disk x h (length h) (length h) → IsSoundAt score c disk h info y
  sound_at h tells sound c versions i x y at there first = (
    subst (λ (n : ℕ). IsSoundFrom score c disk y h (length h) n) (sym next.number.1) ((was.recalls h tells sound).shards i x y at there c versions first),
    entry_is score c now.log h info (versions_now c versions) (given h tells sound).0,
  )

  below : info.number < old.log.durable
  below = omega (arith, next.number.1, was.left)

  module _ {U : Type 0} (r : Result U MountBad) (part : ℕ) (shards : List (ShardState D)) (bits : Filter) (takes : TakesAllBack disk part info r now.shards shards)
      (marks : MarksScore now.bits info.key.score.0 bits) (stay : MarkedStay) (set : AreMarked) where
    -- a shard between
    mid_at : (i : ℕ) (z : ShardState D) → slice_get shards i ≡ Some z → (y : ShardState D) × (slice_get now.shards i ≡ Some y)
    mid_at i z there = slice_get_other now.shards shards i z takes.many there

    pub step_reads : ReadsBack score disk old (opened l shards bits)
    step_reads = record {
      log = log_is;
      disks = hold;
      sound = log_sound;
      counts = (marks.m ∙ was.reads.counts.0, marks.k ∙ was.reads.counts.1);
      stay = λ s has. stay now.bits bits info.key.score.0 s marks (was.reads.stay s has);
      many = takes.many ∙ was.reads.many;
      shards = λ i x z at there. let y = mid_at i z there in keeps_then disk x y.0 z (was.reads.shards i x y.0 at y.1) (takes.keeps i y.0 z y.1 there);
    }

    -- the bits of what was read back before, and of this block
    step_rest : OnOk r (AreReadBack bits old.log.durable shards)
    step_rest = takes.rests bits old.log.durable
        (λ i s at. let it = was.rest i s at in record {
          quiet = it.quiet;
          filed = it.filed;
          numbers = it.numbers;
          bits_of = λ other has. stay now.bits bits info.key.score.0 other.key.score.0 marks (it.bits_of other has);
        })
        below (set now.bits bits info.key.score.0 marks)

    step_bits : (h : History) → IsTrue disk.tells → IsSoundLog score disk old.log h → (i : ℕ) (e : Accepted) → info.number ≤ i → slice_get h i ≡ Some e → HasBitsOf bits (score e.block.bytes)
    step_bits h tells sound i e above at = ⊎_elim
        (λ (same : i ≡ info.number).
        let it = (given h tells sound).0 in
        let block : it.block ≡ e = same_Some it.block e (sym it.at ∙ ap (λ (n : ℕ). slice_get h n) (sym same) ∙ at) in
        subst (λ (s : List ℕ). HasBitsOf bits s) (it.score ∙ ap (λ (b : Accepted). score b.block.bytes) block) (set now.bits bits info.key.score.0 marks))
        (λ (other : i ≢ info.number).
        stay now.bits bits info.key.score.0 (score e.block.bytes) marks ((was.recalls h tells sound).bits i e (omega (arith, above, other, next.number.1)) at))
        (one_or_other i info.number)

    module _ (ranges : HaveRanges) (one_head : OneHead) (one_frame : IsUnambiguous) (more : LacksMore disk) where
      step_unwritten : (h : History) (i : ℕ) (x z : ShardState D) → IsTrue disk.tells → IsSoundLog score disk old.log h → slice_get old.shards i ≡ Some x
          → slice_get shards i ≡ Some z → IsUnwrittenTo score disk old.log h i info.number x z
      step_unwritten h i x z tells sound at there c entries versions live buckets section first has =
          let y = mid_at i z there in
          let file : List ℕ = disk.bytes x.section.disk in
          let keeps = was.reads.shards i x y.0 at y.1 in
          ⊎_elim
          (λ un.
          let mid : IsUnwrittenShard disk entries file (info.number + 1) y.0 = subst (λ (n : ℕ). IsUnwrittenShard disk entries file n y.0) (sym next.number.1) un in
          ⊎_elim (λ good. inl good)
          (λ full. inr (let it = sound_at h tells sound c versions i x y.0 at y.1 first in
          lacks_many ranges one_head one_frame score c h i file x live buckets section entries has disk y.0 info keeps it.0 it.1 mid full))
          (takes.unwritten tells i y.0 z y.1 there entries file (entries_stay disk x y.0 entries file keeps has) mid))
          (λ many. inr many)
          (was.unwritten h i x y.0 tells sound at y.1 c entries versions live buckets section first has)

      step_bytes : (h : History) (i : ℕ) (x z : ShardState D) → IsTrue disk.tells → IsSoundLog score disk old.log h → slice_get old.shards i ≡ Some x → slice_get shards i ≡ Some z
          → KeepsSectionBytes score disk old.log h i x z
      step_bytes h i x z tells sound at there c versions live buckets section first = ⊎_elim
          (λ un. inl un.bytes) (λ many. inr many)
          (step_unwritten h i x z tells sound at there c section.section.entries versions live buckets section first (stands_entries score c h i (disk.bytes x.section.disk) x live buckets section))

-- all shards took it back
pub reads_on : {D : Type 0} (score : List ℕ → List ℕ) (disk : DiskOf D) (old now : Opened D) (t after : TailState) (was : IsReading score disk old now t) (l : LogState D) (info : Info)
    (next : GivesNext score disk (Ok info) now.log l t after) (done : ⊤) (part : ℕ) (shards : List (ShardState D)) (bits : Filter) → TakesAllBack disk part info (Ok done) now.shards shards
    → MarksScore now.bits info.key.score.0 bits → MarkedStay → AreMarked → HaveRanges → OneHead → IsUnambiguous → LacksMore disk → IsReading score disk old (opened l shards bits) after
reads_on {D} score disk old now t after was l info next done part shards bits takes marks stay set ranges one_head one_frame more = record {
  reads = step_reads score disk old now t after was l info next (Ok done) part shards bits takes marks stay set;
  stands = stands_stays disk now.log l next.reads.same next.reads.disks was.stands;
  queue = ap (λ (m : LogState D). queued m) next.reads.same ∙ was.queue;
  tail = next.tail;
  come = come_stays disk now.log l after next.reads.same next.reads.disks next.comes;
  left = omega (arith, next.number.0, next.number.1, was.left);
  rest = step_rest score disk old now t after was l info next (Ok done) part shards bits takes marks stay set;
  log_faults = next.counts ∙ was.log_faults;
  shard_faults = takes.counts ∙ was.shard_faults;
  behind = λ h tells sound. behind_stays now.log l h after.left after next.reads.same
      (subst (λ (n : ℕ). IsTailBehind now.log h n after) next.number.0 (given score disk old now t after was l info next h tells sound).2);
  recalls = λ h tells sound. subst (λ (n : ℕ). RecallsFrom score disk h n old (opened l shards bits)) next.number.0 (record {
    bits = step_bits score disk old now t after was l info next (Ok done) part shards bits takes marks stay set h tells sound;
    shards = λ i x z at there c versions first.
        let y = slice_get_other now.shards shards i z takes.many there in
        takes.sound tells score c h i y.0 z y.1 there (sound_at score disk old now t after was l info next h tells sound c versions i x y.0 at y.1 first);
  });
  unwritten = λ h i x z tells sound at there. subst (λ (n : ℕ). IsUnwrittenTo score disk old.log h i n x z) next.number.0
      (step_unwritten score disk old now t after was l info next (Ok done) part shards bits takes marks stay set ranges one_head one_frame more h i x z tells sound at there);
}

-- reading ends at one of them
pub ends_in_shard : {D : Type 0} (score : List ℕ → List ℕ) (disk : DiskOf D) (old now : Opened D) (t after : TailState) (was : IsReading score disk old now t) (l : LogState D) (info : Info)
    (next : GivesNext score disk (Ok info) now.log l t after) (bad : MountBad) (least part : ℕ) (shards : List (ShardState D)) (bits : Filter) → TakesAllBack {U = ⊤} disk part info (Err bad) now.shards shards
    → MarksScore now.bits info.key.score.0 bits → MarkedStay → AreMarked → HaveRanges → OneHead → IsUnambiguous → LacksMore disk
    → ReadsLogBack {U = ⊤} score disk least part (Err bad) old (opened l shards bits)
ends_in_shard {D} score disk old now t after was l info next bad least part shards bits takes marks stay set ranges one_head one_frame more = record {
  recalls = λ h tells sound. record {
    bits = λ i e above at. absurd (omega (arith, above, within_get h i e at));
    shards = λ i x z at there c versions first.
        let y = slice_get_other now.shards shards i z takes.many there in
        let it = (given score disk old now t after was l info next h tells sound).0 in
        more score c z h (length h) (info.number + 1) (length h)
        (takes.sound tells score c h i y.0 z y.1 there (sound_at score disk old now t after was l info next h tells sound c versions i x y.0 at y.1 first))
        (omega (arith, within_get h info.number it.block it.at));
  };
  found = λ c h tells sound versions fits all. takes.found tells score c h
      (λ i y there. let x = slice_get_other old.shards now.shards i y was.reads.many there in
      sound_at score disk old now t after was l info next h tells sound c versions i x.0 y x.1 there (all i x.0 x.1)) fits;
  bytes = λ h i x z tells sound at there.
      step_bytes score disk old now t after was l info next (Err bad) part shards bits takes marks stay set ranges one_head one_frame more h i x z tells sound at there;
  reads = step_reads score disk old now t after was l info next (Err bad) part shards bits takes marks stay set;
  rest = tt;
  counts = counts;
  calls = tt;
  ends_early = ⊎_elim
      (λ told. ⊎_elim (λ fault. inl fault) (λ it. inr (inl (Bucket it.0, it.1, it.2, it.3, it.4, it.5))) told)
      (λ crowd. let x = slice_get_other old.shards now.shards crowd.0 crowd.1 was.reads.many crowd.2 in
      inr (inr (
        crowd.0,
        crowd.3.found,
        crowd.3.bad_is,
        record {
          shard = x.0;
          at = x.1;
          above = crowd.3.above;
          crowded = λ c h tells sound versions first. crowd.3.crowded score c h tells
              (sound_at score disk old now t after was l info next h tells sound c versions crowd.0 x.0 crowd.1 x.1 crowd.2 first);
        },
      )))
      takes.ends_early;
}
  where
    counts : CountsRefusal bad (map disk.faults (devices_called old)) (map disk.faults (devices_called (opened l shards bits)))
    counts =
        let f : ShardState D → ℕ = λ s. disk.faults s.section.disk in
        let first : map disk.faults (devices_called old) ≡ map disk.faults l.disks ++ map f now.shards =
        counts_all disk old ∙ ap (λ (ns : List ℕ). ns ++ map f old.shards) (sym (next.counts ∙ was.log_faults)) ∙ ap (λ (ns : List ℕ). map disk.faults l.disks ++ ns) (sym was.shard_faults) in
        subst (λ (xs : List ℕ). CountsRefusal bad xs (map disk.faults (devices_called (opened l shards bits)))) (sym first)
        (subst (λ (ys : List ℕ). CountsRefusal bad (map disk.faults l.disks ++ map f now.shards) ys) (sym (counts_all disk (opened l shards bits)))
        (counts_less bad (map disk.faults l.disks) (map f now.shards) (map f shards) takes.counts))

-- ---- it ends in the log, or at its end

module _ {D : Type 0} (score : List ℕ → List ℕ) (disk : DiskOf D) (old now : Opened D) (t : TailState) (was : IsReading score disk old now t) where
  bytes_now : (h : History) (i : ℕ) (x y : ShardState D) → IsTrue disk.tells → IsSoundLog score disk old.log h → slice_get old.shards i ≡ Some x → slice_get now.shards i ≡ Some y
      → KeepsSectionBytes score disk old.log h i x y
  bytes_now h i x y tells sound at there c versions live buckets section first = ⊎_elim (λ un. inl un.bytes) (λ many. inr many)
      (was.unwritten h i x y tells sound at there c section.section.entries versions live buckets section first (stands_entries score c h i (disk.bytes x.section.disk) x live buckets section))

  -- damage in the log that is read is damage in the log that there was
  damaged_before : (arena : ℕ) (want found : FieldValue) → IsDamagedIn disk now.log arena want found → IsDamagedIn disk old.log arena want found
  damaged_before arena want found it =
      let d = held_there disk old.log.disks now.log.disks was.reads.disks it.r.part it.device it.stands.disk_is in
      record {
        r = it.r;
        device = d.0;
        stands = record { arena = sym (ap (λ (m : LogState D). slice_get m.layout arena) was.reads.log) ∙ it.stands.arena; disk_is = d.1 };
        head = it.head;
        head_is = sym (ap (λ (m : LogState D). slice_get m.heads arena) was.reads.log) ∙ it.head_is;
        at = it.at;
        some = it.some;
        reached = subst (λ (file : List ℕ). IsReached disk.tells it.head.head it.r.region file it.at) d.2 it.reached;
        bytes = it.bytes;
        bytes_are = λ tells. it.bytes_are tells ∙ ap (λ (file : List ℕ). what_is_walked it.head.head it.r.region it.at file) d.2;
        bad = it.bad;
      }

  pub ends_in_log : (l : LogState D) (bad : MountBad) (least part : ℕ) → OnlyReadsLog score disk 1 now.log l → CountsRefusal bad (map disk.faults now.log.disks) (map disk.faults l.disks)
      → TellsOfLog disk now.log bad
      → ((h : History) (n : ℕ) → IsTrue disk.tells → IsSoundLog score disk now.log h → IsTailBehind now.log h n t → bad ≡ Fault)
      → LacksMore disk → ReadsLogBack {U = ⊤} score disk least part (Err bad) old (opened l now.shards now.bits)
  ends_in_log l bad least part reads counts tells_of fault more = record {
    recalls = λ h tells sound. let it = was.recalls h tells sound in record {
      bits = λ i e above at. absurd (omega (arith, above, within_get h i e at));
      shards = λ i x y at there c versions first. more score c y h (length h) t.left (length h) (it.shards i x y at there c versions first)
          (let b = was.behind h tells sound in b.most);
    };
    found = λ c h tells sound versions fits all. fault h t.left tells (was.reads.sound h sound) (was.behind h tells sound);
    bytes = bytes_now;
    reads = record {
      log = reads.same ∙ ap (λ (m : LogState D). record m { disks = l.disks }) was.reads.log;
      disks = held_twice disk old.log.disks now.log.disks l.disks was.reads.disks reads.disks;
      sound = λ h sound. reads.sound h (was.reads.sound h sound);
      counts = was.reads.counts;
      stay = was.reads.stay;
      many = was.reads.many;
      shards = was.reads.shards;
    };
    rest = tt;
    counts = all_counts;
    calls = tt;
    ends_early = ⊎_elim (λ e. inl e) (λ it. inr (inl (Clump it.0, it.1, it.2, it.3, it.4, damaged_before it.0.arena it.1 it.2 it.5))) tells_of;
  }
    where
      all_counts : CountsRefusal bad (map disk.faults (devices_called old)) (map disk.faults (devices_called (opened l now.shards now.bits)))
      all_counts =
          let f : ShardState D → ℕ = λ s. disk.faults s.section.disk in
          let first : map disk.faults (devices_called old) ≡ map disk.faults now.log.disks ++ map f now.shards =
          counts_all disk old ∙ ap (λ (ns : List ℕ). ns ++ map f old.shards) (sym was.log_faults) ∙ ap (λ (ns : List ℕ). map disk.faults now.log.disks ++ ns) (sym was.shard_faults) in
          subst (λ (xs : List ℕ). CountsRefusal bad xs (map disk.faults (devices_called (opened l now.shards now.bits)))) (sym first)
          (subst (λ (ys : List ℕ). CountsRefusal bad (map disk.faults now.log.disks ++ map f now.shards) ys) (sym (counts_all disk (opened l now.shards now.bits)))
          (counts_front bad (map disk.faults now.log.disks) (map disk.faults l.disks) (map f now.shards) counts))

  pub ends_at_least : (done : ⊤) (least part : ℕ) → t.left ≤ least → ReadsEachOnce disk least old now t → LacksMore disk → ReadsLogBack score disk least part (Ok done) old now
  ends_at_least done least part far once more = record {
    calls = once_ends disk least old now t once far;
    recalls = λ h tells sound. let it = was.recalls h tells sound in record {
      bits = λ i e above at. it.bits i e (omega (arith, far, above)) at;
      shards = λ i x y at there c versions first. more score c y h (length h) t.left least (it.shards i x y at there c versions first) far;
    };
    found = λ c h tells sound versions fits all. tt;
    bytes = bytes_now;
    reads = was.reads;
    rest = was.rest;
    counts = counts_all disk now ∙ ap (λ (ns : List ℕ). ns ++ map (λ s. disk.faults s.section.disk) now.shards) was.log_faults
        ∙ ap (λ (ns : List ℕ). map disk.faults old.log.disks ++ ns) was.shard_faults ∙ sym (counts_all disk old);
    ends_early = tt;
  }
