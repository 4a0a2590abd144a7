-- What is handed back where sections, filter and shards stand already.
use Rattle.std.proofs.Common.{◌≡◌, ◌⊎◌, ⊎_elim, inl, inr, ◌≤◌, ◌+◌, ℕ, List, [], ◌∷◌, ◌++◌, length, map, take, Option, Some, None, Ok, Err, refl, sym, ◌∙◌, ap, subst, arith, append_assoc}
use Rattle.std.specs.Prelude.{slice_get, IsTrue, ⊤}
use Rattle.std.specs.List.{AllZip}
use Rattle.std.specs.Option.{option_to_list, option_map}
use Rattle.std.proofs.lemmas.List.{length-map, map-append, take_all}
use Rattle.std.proofs.lemmas.Option.{same_Some, slice_get-map}
use Rattle.vt_arena.specs.Heads.{fields_of, own_fields}
use Rattle.vt_arena.specs.Directory.{IsReached, what_is_walked}
use Rattle.vt_arena.specs.declared.head.Found.{Found}
use Rattle.vt_base.specs.declared.mount.MountBad.{MountBad}
use Rattle.vt_base.specs.declared.mount.MountBad.TheVariants.{Fault, Disagree, NoMemory}
use Rattle.vt_base.specs.declared.mount.MountField.TheVariants.{Crowd}
use Rattle.vt_base.specs.declared.why.FieldValue.{FieldValue}
use Rattle.vt_base.specs.declared.why.Site.{Site}
use Rattle.vt_base.specs.declared.why.Site.TheVariants.{Clump, Bucket}
use Rattle.vt_bloom.specs.Bits.{Filter}
use Rattle.vt_bloom.specs.Bloom.{BloomState}
use Rattle.vt_disk.specs.Calls.{IsSynced}
use Rattle.vt_disk.specs.Members.{DiskOf}
use Rattle.vt_isect.specs.Section.{SectionState}
use Rattle.vt_log.specs.Answers.{HoldTheSame}
use Rattle.vt_log.specs.Log.{LogState}
use Rattle.vt_log.specs.Sound.{IsSoundLog}
use Rattle.vt_log.proofs.Lists.{at_slice, slice_get_other}
use Rattle.vt_model.specs.History.{History}
use Rattle.vt_model.specs.Places.{Setup, bucket_count, crowd}
use Rattle.vt_model.specs.declared.TheConstants.{BUCKET_ROOM}
use Rattle.vt_part.specs.Table.{Table}
use Rattle.vt_part.specs.declared.layout.ArenaRegion.{ArenaRegion}
use Rattle.vt_shard.specs.Shard.{ShardState}
use Rattle.vt_shard.specs.Sound.{IsSoundFrom, LeavesLive}
use Rattle.vt_recover.specs.declared.devices.Devices.{Devices}
use Rattle.vt_core.specs.Core.{CoreState, devices_of}
use Rattle.vt_core.specs.Files.{PerDevice, all_of}
use Rattle.vt_core.specs.Mounting.{IsLogOf, IsReadAs, IsSetupOf, KeepsLimits, LeavesStanding, MountsStore, devices_in, tables_in}
use Rattle.vt_recover.specs.Marks.{LacksMany}
use Rattle.vt_shard.specs.declared.mounting.Sizes.{Sizes}
use Rattle.vt_core.specs.Opening.{AgreeWith, AreHeld, IsLogFound, IsMountOf, RefusesBeside, TestsParts, with_log}
use Rattle.vt_recover.specs.Opening.{IsFoundSection, IsShardMade, OpensFilter}
use Rattle.vt_recover.specs.Recalling.{EndsEarly, HasVersionsOf, IsCrowdedIn, IsDamagedAt, IsDamagedIn, ReadsBack, ReadsLogBack, KeepsSectionBytes, RecallsFrom, opened}
use Rattle.vt_recover.specs.Refusals.{CountsRefusal}
use Rattle.vt_core.specs.Refusals.{IsDamageAt, IsDamagedEntry, IsBeforeReading, IsRefusedMount, BucketIsCrowded, PassesTests}
use Rattle.vt_recover.specs.Sections.{IsLive, SectionStandsFor}
use Rattle.vt_core.proofs.Beside.{IsOfStore, of_store, sound_shard}
use Rattle.vt_core.proofs.Chains.{IsChain, chain, chain_head, chain_buckets, made_faults, many_shards, shard_sizes}
use Rattle.vt_core.proofs.Combined.{FilesAgree, section_stands}
use Rattle.vt_core.proofs.Fields.{short_regions}
use Rattle.vt_core.proofs.LogVersions.{setup_versions, versions_read}
use Rattle.vt_recover.proofs.Held.{IsHeld, held_reads, hold_still, hold_zip, counts_less, counts_more, held_many}
use Rattle.vt_recover.proofs.Lists.{at_map}
use Rattle.vt_core.proofs.Mounted.{LegalPrefix, ReadsPrefix, all_map, filter_same}
use Rattle.vt_core.proofs.Refused.{beside_cause, passes, refuses_back}
use Rattle.vt_core.proofs.Standing.{held_bytes, leaves_held, leaves_read}
use Rattle.vt_recover.proofs.Zips.{zip_beside, zip_implies, zip_map, zip_same}

pub list_map : {X Y : Type 0} (f : X → Y) (o : Option X) → option_to_list (option_map f o) ≡ map f (option_to_list o)
list_map f None = refl
list_map f (Some x) = refl

filter_held : {D : Type 0} (disk : DiskOf D) (filter : Option D) (bloom : Option (BloomState D)) (bits : Filter) → OpensFilter disk filter bloom bits
    → HoldTheSame disk (option_to_list filter) (option_to_list (option_map (λ b. b.disk) bloom))
filter_held {D} disk None bloom bits it = subst (λ (o : Option (BloomState D)). HoldTheSame disk [] (option_to_list (option_map (λ b. b.disk) o))) (sym it.0) (hold_still disk [])
filter_held {D} disk (Some d) bloom bits it =
    subst (λ (o : Option (BloomState D)). HoldTheSame disk (d ∷ []) (option_to_list (option_map (λ b. b.disk) o))) (sym it.1)
    (hold_zip disk (d ∷ []) (it.0.disk ∷ []) (held_reads disk 3 d it.0.disk it.2.reads, tt))

-- devices that hold what they held are handed back, for some cause
pub held_mount : {D : Type 0} (score : List ℕ → List ℕ) (disk : DiskOf D) (tables : List Table) (pd new : PerDevice D) (bad : MountBad) (back : Devices D) (sizes : Sizes) (sessions : ℕ)
    → devices_in back ≡ new → tables_in back ≡ tables → AreHeld disk pd new
    → ((c : Setup) → IsSetupOf disk tables pd c → IsRefusedMount score disk tables pd c bad)
    → CountsRefusal bad (map disk.faults (all_of pd)) (map disk.faults (all_of new))
    → ((c : Setup) (h g : History) (base : ℕ) → IsTrue disk.tells → IsLogOf score disk tables pd c h g base → KeepsLimits tables c → (bad ≡ Fault) ⊎ (bad ≡ NoMemory))
    → IsMountOf score disk tables pd sizes sessions (Err (bad, back))
held_mount {D} score disk tables pd new bad back sizes sessions is are held cause counts found = record {
  mounts = tt;
  found = found;
  standing = λ tells. subst (λ (p : PerDevice D). LeavesStanding score disk tables pd p) (sym is) (leaves_held score disk tables pd new held);
  refused = refuses_back score disk tables pd new bad back is are cause counts (λ soon. held.sections)
      (held_many disk pd.sections new.sections held.sections) (held_many disk pd.filter new.filter held.filter)
      (all_map disk.size new.partitions pd.partitions new.sections pd.sections new.filter pd.filter held.partitions.sizes_are held.sections.sizes_are held.filter.sizes_are);
}

module _ {D : Type 0} (score : List ℕ → List ℕ) (disk : DiskOf D) (before : List D) (log : LogState D) (devices : List D) (filter : Option D) (given : IsLogFound score disk before devices filter log) where
  abbrev pd : PerDevice D
  pd = with_log before devices filter

  read_as : ReadsPrefix disk → IsTrue disk.tells → (c : Setup) (h g : History) (base : ℕ) → IsLogOf score disk log.tables pd c h g base → IsReadAs score disk c log.tables pd h g base
  read_as prefix tells c h g base of = prefix score c log.tables pd h g base tells (short_regions disk log given.whole) of

  -- ---- a refusal of the sections or the filter

  -- devices that agree with what is read
  pub agree_with : ReadsPrefix disk → IsTrue disk.tells → (c : Setup) (h g : History) (base : ℕ) → IsLogOf score disk log.tables pd c h g base → KeepsLimits log.tables c
      → AgreeWith score disk c g devices filter
  agree_with prefix tells c h g base of limits =
      let it = read_as prefix tells c h g base of in
      record {
        setup = of.setup.sections;
        buckets = limits.buckets;
        some = limits.sections;
        sections = it.sections;
        filter_is = λ device is. it.filter 0 device (ap (λ (o : Option D). slice_get (option_to_list o) 0) is);
      }

  pub beside_mount : (prefix : ReadsPrefix disk) (part : ℕ) → part ≡ length before → (sections : List D) (rest : Option D) (bad : MountBad) (back : Devices D) (sizes : Sizes) (sessions : ℕ)
      → devices_in back ≡ with_log log.disks sections rest → tables_in back ≡ log.tables → AreHeld disk (with_log [] devices filter) (with_log [] sections rest)
      → RefusesBeside disk part log.durable devices filter bad
      → CountsRefusal bad (map disk.faults (all_of (with_log [] devices filter))) (map disk.faults (all_of (with_log [] sections rest)))
      → ((c : Setup) (g : History) → IsTrue disk.tells → AgreeWith score disk c g devices filter → length g ≡ log.durable → (bad ≡ Fault) ⊎ (bad ≡ NoMemory))
      → IsMountOf score disk log.tables pd sizes sessions (Err (bad, back))
  beside_mount prefix part at sections rest bad back sizes sessions is tables held refuses counts found =
      let f = disk.faults in
      let old = map f (devices ++ option_to_list filter) in
      let new = map f (sections ++ option_to_list rest) in
      let less : CountsRefusal bad (map f before ++ old) (map f before ++ new) = counts_less bad (map f before) old new counts in
      let here : map f before ++ old ≡ map f (all_of pd) = sym (map-append f before (devices ++ option_to_list filter)) ∙ ap (map f) (sym (append_assoc before devices (option_to_list filter))) in
      let there : map f before ++ new ≡ map f (log.disks ++ sections ++ option_to_list rest) =
      ap (λ (l : List ℕ). l ++ new) (sym given.faults) ∙ sym (map-append f log.disks (sections ++ option_to_list rest)) ∙ ap (map f) (sym (append_assoc log.disks sections (option_to_list rest))) in
      let all : CountsRefusal bad (map f (all_of pd)) (map f (log.disks ++ sections ++ option_to_list rest)) =
      subst (λ (l : List ℕ). CountsRefusal bad l (map f (log.disks ++ sections ++ option_to_list rest))) here (subst (λ (l : List ℕ). CountsRefusal bad (map f before ++ old) l) there less) in
      held_mount score disk log.tables pd (with_log log.disks sections rest) bad back sizes sessions is tables (record { partitions = given.held; sections = held.sections; filter = held.filter })
      (beside_cause score disk before log devices filter given part at bad refuses) all
      (λ c h g base tells of limits. found c g tells (agree_with prefix tells c h g base of limits) (sym (given.found g base tells of.read).2))

  -- ---- want of memory

  module _ (sections : List (SectionState D)) (bloom : Option (BloomState D)) (bits : Filter) (opens : AllZip (IsFoundSection disk) devices sections) (filter_opens : OpensFilter disk filter bloom bits) where
    sections_held : HoldTheSame disk devices (map (λ s. s.disk) sections)
    sections_held = hold_zip disk devices (map (λ s. s.disk) sections)
        (zip_map (IsHeld disk) (λ s. s.disk) devices sections (zip_implies (IsFoundSection disk) (λ d s. IsHeld disk d s.disk) devices sections (λ d s it. held_reads disk 3 d s.disk it.reads) opens))

    pub memory_mount : (back : Devices D) (sizes : Sizes) (sessions : ℕ) → devices_in back ≡ with_log log.disks (map (λ s. s.disk) sections) (option_map (λ b. b.disk) bloom) → tables_in back ≡ log.tables
        → IsMountOf score disk log.tables pd sizes sessions (Err (NoMemory, back))
    memory_mount back sizes sessions is tables =
        let f = disk.faults in
        let faults : map f (map (λ s. s.disk) sections) ≡ map f devices =
        zip_same f f devices (map (λ s. s.disk) sections)
        (zip_map (λ d e. f e ≡ f d) (λ s. s.disk) devices sections (zip_implies (IsFoundSection disk) (λ d s. f s.disk ≡ f d) devices sections (λ d s it. it.faults) opens)) in
        let saved : map f (option_to_list (option_map (λ b. b.disk) bloom)) ≡ map f (option_to_list filter) =
        ap (map f) (list_map (λ b. b.disk) bloom) ∙ filter_same disk f filter bloom bits (λ d b it. it.faults) filter_opens in
        held_mount score disk log.tables pd (with_log log.disks (map (λ s. s.disk) sections) (option_map (λ b. b.disk) bloom)) NoMemory back sizes sessions is tables
        (record { partitions = given.held; sections = sections_held; filter = filter_held disk filter bloom bits filter_opens })
        (λ c setup. inr (inl refl))
        (all_map f log.disks before (map (λ s. s.disk) sections) devices (option_to_list (option_map (λ b. b.disk) bloom)) (option_to_list filter) given.faults faults saved)
        (λ c h g base tells of limits. inr refl)

    -- ---- the log was read back

    module _ (made : List (ShardState D)) (lumps clean : ℕ) (makes : AllZip (IsShardMade disk lumps clean) sections made)
        (log1 : LogState D) (bits1 : Filter) (shards : List (ShardState D)) (back : ReadsBack score disk (opened log made bits) (opened log1 shards bits1)) where
      abbrev new : PerDevice D
      new = with_log log1.disks (map (λ s. s.section.disk) shards) (option_map (λ b. b.disk) bloom)

      abbrev link : (i : ℕ) (after : ShardState D) → slice_get shards i ≡ Some after → IsChain disk devices sections made lumps clean i after
      link i after at = chain score disk devices sections made lumps clean opens makes log log1 bits bits1 shards back i after at

      module _ (prefix : ReadsPrefix disk) (tells : IsTrue disk.tells) (read : (d : D) → disk.images d (disk.bytes d)) (c : Setup) (h g : History) (base : ℕ) (of : IsLogOf score disk log.tables pd c h g base) where
        log_versions : HasVersionsOf log c
        log_versions = setup_versions score disk before log devices filter given tells read c h g base of

        store_of : (i : ℕ) (s : ShardState D) (it : IsChain disk devices sections made lumps clean i s) → IsOfStore score disk c g i it.section
        store_of i s it = of_store score disk c g tells devices of.setup.sections i it.device it.section it.device_at ((read_as prefix tells c h g base of).sections i it.device it.device_at) it.opens

        before_sound : (i : ℕ) (s : ShardState D) (it : IsChain disk devices sections made lumps clean i s) → IsSoundFrom score c disk it.before g (length g) (length g)
        before_sound i s it = sound_shard score disk c g lumps clean i it.section it.before tells (store_of i s it) it.makes

        file_stands : FilesAgree disk → (from : ℕ) → RecallsFrom score disk g from (opened log made bits) (opened log1 shards bits1)
            → (i : ℕ) (d : D) (file : List ℕ) → slice_get (map (λ s. s.section.disk) shards) i ≡ Some d → disk.images d file → SectionStandsFor score c g i file
        file_stands agree from recalled i d file at image =
            let s = slice_get_other shards (map (λ s. s.section.disk) shards) i d (length-map shards (λ s. s.section.disk)) at in
            let it = link i s.0 s.1 in
            let store = store_of i s.0 it in
            let same : d ≡ s.0.section.disk = same_Some d s.0.section.disk (sym at ∙ at_map (λ s. s.section.disk) shards i s.0 s.1) in
            let after : IsSoundFrom score c disk s.0 g (length g) from = recalled.shards i it.before s.0 it.before_at s.1 c log_versions (before_sound i s.0 it) in
            let left : LeavesLive score c (take (length g) g) s.0 file =
            agree score c s.0 g (length g) from (length g) after (omega arith) (omega arith) file (subst (λ (x : D). disk.images x file) same image) in
            let head = chain_head score disk devices sections made lumps clean opens makes log log1 bits bits1 shards back i s.0 it in
            section_stands score c g i s.0 file
            (chain_buckets score disk devices sections made lumps clean opens makes log log1 bits bits1 shards back i s.0 it ∙ store.buckets)
            (subst (IsLive c i) (sym head) store.live)
            (subst (λ (l : History). LeavesLive score c l s.0 file) (take_all (length g) g (omega arith)) left)

        bytes_kept : ((h : History) (i : ℕ) (b a : ShardState D) → IsTrue disk.tells → IsSoundLog score disk log h → slice_get made i ≡ Some b → slice_get shards i ≡ Some a → KeepsSectionBytes score disk log h i b a)
            → (i : ℕ) (b a : D) → slice_get devices i ≡ Some b → slice_get (map (λ s. s.section.disk) shards) i ≡ Some a
            → (disk.bytes a ≡ disk.bytes b) ⊎ LacksMany score c g i (disk.bytes b)
        bytes_kept keeps i b a here there =
            let s = slice_get_other shards (map (λ s. s.section.disk) shards) i a (length-map shards (λ s. s.section.disk)) there in
            let it = link i s.0 s.1 in
            let store = store_of i s.0 it in
            let sound = (given.found g base tells of.read).0 in
            let device : it.device ≡ b = same_Some it.device b (sym it.device_at ∙ here) in
            let made_head : it.before.section.head ≡ it.section.head = ap (λ (t : ShardState D). t.section.head) it.makes.is in
            let made_buckets : it.before.section.buckets ≡ it.section.buckets = ap (λ (t : ShardState D). t.section.buckets) it.makes.is in
            let bytes : disk.bytes it.before.section.disk ≡ disk.bytes b =
            ap (λ (t : ShardState D). disk.bytes t.section.disk) it.makes.is ∙ it.opens.reads.bytes ∙ ap disk.bytes device in
            let stands : SectionStandsFor score c g i (disk.bytes it.before.section.disk) =
            subst (SectionStandsFor score c g i) (ap disk.bytes (sym device) ∙ ap disk.bytes device ∙ sym bytes)
            ((read_as prefix tells c h g base of).sections i b here) in
            let same : a ≡ s.0.section.disk = same_Some a s.0.section.disk (sym there ∙ at_map (λ s. s.section.disk) shards i s.0 s.1) in
            let kept = keeps g i it.before s.0 tells sound it.before_at s.1 c log_versions (subst (IsLive c i) (sym made_head) store.live) (made_buckets ∙ store.buckets) stands (before_sound i s.0 it) in
            ⊎_elim (λ (e : disk.bytes s.0.section.disk ≡ disk.bytes it.before.section.disk). inl (ap disk.bytes same ∙ e ∙ bytes)) (λ lacks. inr (subst (LacksMany score c g i) bytes lacks)) kept

      sizes_same : map disk.size (map (λ s. s.section.disk) shards) ≡ map disk.size devices
      sizes_same = shard_sizes score disk devices sections made lumps clean opens makes log log1 bits bits1 shards back

      -- whatever was read back, what is left stands
      pub read_standing : (prefix : ReadsPrefix disk) (agree : FilesAgree disk) (read : (d : D) → disk.images d (disk.bytes d)) (tells : IsTrue disk.tells)
          → ((g : History) → IsSoundLog score disk log g → (from : ℕ) × RecallsFrom score disk g from (opened log made bits) (opened log1 shards bits1))
          → ((h : History) (i : ℕ) (b a : ShardState D) → IsTrue disk.tells → IsSoundLog score disk log h → slice_get made i ≡ Some b → slice_get shards i ≡ Some a → KeepsSectionBytes score disk log h i b a)
          → LeavesStanding score disk log.tables pd new
      read_standing prefix agree read tells recalled keeps = leaves_read score disk log.tables pd new tells read log.disks given.held back.disks
          (λ i d at. at_slice (IsSynced disk) log.disks i d given.settled at) (filter_held disk filter bloom bits filter_opens) sizes_same
          (λ c h g base of i d file at image.
          let r = recalled g (given.found g base tells of.read).0 in
          file_stands prefix tells read c h g base of agree r.0 r.1 i d file at image)
          (λ c h g base i b a of here there. bytes_kept prefix tells read c h g base of keeps i b a here there)

      sizes_all : map disk.size (all_of new) ≡ map disk.size (all_of pd)
      sizes_all = all_map disk.size log1.disks before (map (λ s. s.section.disk) shards) devices (option_to_list (option_map (λ b. b.disk) bloom)) (option_to_list filter)
          (back.disks.sizes_are ∙ given.held.sizes_are) sizes_same (filter_held disk filter bloom bits filter_opens).sizes_are

      counts_all : (bad : MountBad) → CountsRefusal bad (map disk.faults (log.disks ++ map (λ s. s.section.disk) made)) (map disk.faults (log1.disks ++ map (λ s. s.section.disk) shards))
          → CountsRefusal bad (map disk.faults (all_of pd)) (map disk.faults (all_of new))
      counts_all bad it =
          let f = disk.faults in
          let s0 = map (λ s. s.section.disk) made in
          let s1 = map (λ s. s.section.disk) shards in
          let b1 = option_to_list (option_map (λ b. b.disk) bloom) in
          let b0 = option_to_list filter in
          let saved : map f b1 ≡ map f b0 = ap (map f) (list_map (λ b. b.disk) bloom) ∙ filter_same disk f filter bloom bits (λ d b it. it.faults) filter_opens in
          let more : CountsRefusal bad (map f (log.disks ++ s0) ++ map f b1) (map f (log1.disks ++ s1) ++ map f b1) = counts_more bad (map f b1) (map f (log.disks ++ s0)) (map f (log1.disks ++ s1)) it in
          let there : map f (log1.disks ++ s1) ++ map f b1 ≡ map f (log1.disks ++ s1 ++ b1) = sym (map-append f (log1.disks ++ s1) b1) in
          let here : map f (log.disks ++ s0) ++ map f b1 ≡ map f (before ++ devices ++ b0) =
          sym (map-append f (log.disks ++ s0) b1)
          ∙ all_map f log.disks before s0 devices b1 b0 given.faults (made_faults score disk devices sections made lumps clean opens makes) saved in
          subst (λ (l : List ℕ). CountsRefusal bad l (map f (log1.disks ++ s1 ++ b1))) here (subst (λ (l : List ℕ). CountsRefusal bad (map f (log.disks ++ s0) ++ map f b1) l) there more)

      -- ---- why it ended early

      entry_damaged : (arena : ℕ) (want found : FieldValue) → IsDamagedIn disk log arena want found → IsDamagedEntry disk log.tables pd arena want found
      entry_damaged arena want found it =
          let d = slice_get_other before log.disks it.r.part it.device (held_many disk before log.disks given.held) it.stands.disk_is in
          let same = held_bytes disk before log.disks it.r.part d.0 it.device given.held d.1 it.stands.disk_is in
          record {
            r = it.r;
            arena_is = ap (λ (rs : List ArenaRegion). slice_get rs arena) (sym given.layout) ∙ it.stands.arena;
            device = d.0;
            disk_is = d.1;
            fields = given.read.fields;
            read = given.read.read;
            head = it.head.head;
            spelled = sym (slice_get-map own_fields given.read.fields arena) ∙ ap (λ (l : List (List ℕ)). slice_get l arena) (sym given.read.mounted.heads)
                ∙ at_map (λ (x : Found). fields_of x.head) log.heads arena it.head it.head_is;
            fits = given.whole.heads arena it.r it.head it.stands.arena it.head_is;
            at = it.at;
            some = it.some;
            reached = subst (λ (file : List ℕ). IsReached disk.tells it.head.head it.r.region file it.at) same it.reached;
            bytes = it.bytes;
            bytes_are = λ tells. it.bytes_are tells ∙ ap (what_is_walked it.head.head it.r.region it.at) same;
            bad = it.bad;
          }

      damage_at : (site : Site) (want found : FieldValue) → IsDamagedAt disk log site want found → IsDamageAt disk log.tables pd site want found
      damage_at (Clump place) want found it = entry_damaged place.arena want found it
      damage_at (Bucket n) want found it = it

      ends_cause : (read : (d : D) → IsTrue disk.tells → disk.images d (disk.bytes d)) (part : ℕ) → part ≡ length before → TestsParts {U = ⊤} part sections bloom log.durable (Ok tt) → (bad : MountBad) → EndsEarly score disk part (opened log made bits) bad
          → (c : Setup) → IsSetupOf disk log.tables pd c → IsRefusedMount score disk log.tables pd c bad
      ends_cause read part at tests bad it c setup = ⊎_elim
          (λ fault. inl fault)
          (λ rest. ⊎_elim
          (λ damage. inr (inr (inr (inr (inr (inr (inr (inr (
            passed,
            inr (record {
              site = damage.0;
              want = damage.1;
              found = damage.2;
              bad_is = damage.3;
              differ = damage.4;
              read = damage_at damage.0 damage.1 damage.2 damage.5;
            }),
          )))))))))
          (λ crowds. inr (inr (inr (inr (inr (inr (inr (inr (passed, inl (crowded_at crowds.0 crowds.1 crowds.2 crowds.3))))))))))
          rest)
          it
        where
          passed : PassesTests disk log.tables pd c
          passed = passes score disk before log devices filter given c setup part at sections bloom bits opens filter_opens tests

          crowded_at : (i found : ℕ) → bad ≡ Disagree (part + i) Crowd found BUCKET_ROOM → IsCrowdedIn score disk (opened log made bits) i found
              → BucketIsCrowded score disk log.tables pd c bad
          crowded_at i found is crowd =
              let t = zip_beside (IsShardMade disk lumps clean) sections made i crowd.shard makes crowd.at in
              let d = zip_beside (IsFoundSection disk) devices sections i t.0 opens t.1 in
              record {
                i = i;
                device = d.0;
                at = d.1;
                found = found;
                above = crowd.above;
                bad_is = is ∙ ap (λ (p : ℕ). Disagree (p + i) Crowd found BUCKET_ROOM) at;
                crowded = λ g base tells log_is versions stands.
                    crowd.crowded c g tells (given.found g base tells log_is).0
                    (versions ∙ sym (versions_read score disk before log devices filter given tells (λ d. read d tells) g base log_is))
                    (sound_shard score disk c g lumps clean i t.0 crowd.shard tells (of_store score disk c g tells devices setup.sections i d.0 t.0 d.1 stands d.2) t.2);
              }

      never_early : (part : ℕ) (bad : MountBad) → EndsEarly score disk part (opened log made bits) bad → IsBeforeReading bad → ⊥
      never_early part bad it soon = ⊎_elim
          (λ fault. subst IsBeforeReading fault soon)
          (λ rest. ⊎_elim (λ damage. subst IsBeforeReading damage.3 soon) (λ crowds. subst IsBeforeReading crowds.2 soon) rest)
          it

      pub read_mount : {U : Type 0} (prefix : ReadsPrefix disk) (legal_prefix : LegalPrefix) (agree : FilesAgree disk) (read : (d : D) → IsTrue disk.tells → disk.images d (disk.bytes d)) (least part : ℕ) → part ≡ length before
          → TestsParts {U = ⊤} part sections bloom log.durable (Ok tt) → (bad : MountBad) → ReadsLogBack {U = U} score disk least part (Err bad) (opened log made bits) (opened log1 shards bits1)
          → (handed : Devices D) (sizes : Sizes) (sessions : ℕ) → devices_in handed ≡ new → tables_in handed ≡ log1.tables
          → IsMountOf score disk log.tables pd sizes sessions (Err (bad, handed))
      read_mount prefix legal_prefix agree read least part at tests bad all handed sizes sessions is tables = record {
        mounts = tt;
        found = λ c h g base tells of limits.
            inl (all.found c g tells (given.found g base tells of.read).0 (setup_versions score disk before log devices filter given tells (λ d. read d tells) c h g base of)
            (λ n. subst (λ (l : History). crowd score (bucket_count c) l n ≤ BUCKET_ROOM) (sym (read_as prefix tells c h g base of).prefix) ((legal_prefix score c h (read_as prefix tells c h g base of).n of.legal).buckets n))
            (λ i s there.
            let t = zip_beside (IsShardMade disk lumps clean) sections made i s makes there in
            let d = zip_beside (IsFoundSection disk) devices sections i t.0 opens t.1 in
            sound_shard score disk c g lumps clean i t.0 s tells
            (of_store score disk c g tells devices of.setup.sections i d.0 t.0 d.1 ((read_as prefix tells c h g base of).sections i d.0 d.1) d.2) t.2));
        standing = λ tells. subst (λ (p : PerDevice D). LeavesStanding score disk log.tables pd p) (sym is)
            (read_standing prefix agree (λ d. read d tells) tells (λ g sound. (length g, all.recalls g tells sound)) all.bytes);
        refused = refuses_back score disk log.tables pd new bad handed is (tables ∙ ap (λ (l : LogState D). l.tables) back.log)
            (ends_cause read part at tests bad all.ends_early) (counts_all bad all.counts) (λ soon. absurd (never_early part bad all.ends_early soon))
            (length-map shards (λ s. s.section.disk) ∙ many_shards score disk devices sections made lumps clean opens makes log log1 bits bits1 shards back)
            (held_many disk (option_to_list filter) (option_to_list (option_map (λ b. b.disk) bloom)) (filter_held disk filter bloom bits filter_opens))
            sizes_all;
      }

      pub devices_same : (waiting : List (Option ℕ)) (synced : ℕ) → devices_of (record { log = log1; shards = shards; bloom = bloom; bits = bits1; waiting = waiting; synced = synced }) ≡ new
      devices_same waiting synced =
          ap (λ (l : List D). record { partitions = log1.disks; sections = map (λ s. s.section.disk) shards; filter = l }) (sym (list_map (λ b. b.disk) bloom))

      pub found_mount : (prefix : ReadsPrefix disk) (agree : FilesAgree disk) (read : (d : D) → IsTrue disk.tells → disk.images d (disk.bytes d)) (least part : ℕ)
          → ReadsLogBack {U = Unit {0}} score disk least part (Ok tt) (opened log made bits) (opened log1 shards bits1)
          → (k : CoreState D) (sizes : Sizes) (sessions : ℕ) → devices_of k ≡ new → MountsStore score disk log.tables pd sizes sessions k
          → IsMountOf score disk log.tables pd sizes sessions (Ok k)
      found_mount prefix agree read least part all k sizes sessions is mounts = record {
        mounts = mounts;
        found = λ c h g base tells of limits. tt;
        standing = λ tells. subst (λ (p : PerDevice D). LeavesStanding score disk log.tables pd p) (sym is)
            (read_standing prefix agree (λ d. read d tells) tells (λ g sound. (least, all.recalls g tells sound)) all.bytes);
        refused = tt;
      }
