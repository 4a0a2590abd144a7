-- The shards of a store that was found, and the devices that they stand on.
use Rattle.std.proofs.Common.{◌≡◌, ◌<◌, ◌≤◌, ◌+◌, ◌^◌, ℕ, zero, suc, List, length, map, Option, Some, None, Ok, refl, sym, ◌∙◌, ap, subst, arith}
use Rattle.std.specs.Prelude.{slice_get, sum, ⊤, replicate}
use Rattle.std.specs.List.{AllZip}
use Rattle.std.proofs.lemmas.List.{length-map}
use Rattle.std.proofs.lemmas.Option.{same_Some}
use Rattle.vt_twin.specs.Twin.{FrameChange}
use Rattle.std.specs.Option.{option_map_or}
use Rattle.vt_bloom.specs.Bits.{Filter}
use Rattle.vt_bloom.specs.Bloom.{BloomState}
use Rattle.vt_disk.specs.Members.{DiskOf}
use Rattle.vt_isect.specs.declared.head.Head.{Head}
use Rattle.vt_isect.specs.Layout.{buckets_in}
use Rattle.vt_isect.specs.Section.{SectionState}
use Rattle.vt_log.specs.Log.{LogState}
use Rattle.vt_log.proofs.Lists.{at_slice, slice_get_other}
use Rattle.vt_model.specs.Places.{first_bucket}
use Rattle.vt_shard.specs.Shard.{ShardState}
use Rattle.vt_core.specs.Core.{CoreState, setup_of}
use Rattle.vt_recover.specs.Opening.{IsFoundSection, IsFilterOpened, IsShardMade, OpensFilter}
use Rattle.vt_core.specs.Opening.{TestsParts, buckets_in_each}
use Rattle.vt_recover.specs.Recalling.{AreReadBack, IsUnused, KeepsSection, ReadsBack, opened}
use Rattle.vt_recover.specs.Sections.{IsLive}
use Rattle.vt_core.specs.Whole.{IsFilterOf, IsShardOf, IsWhole}
use Rattle.vt_core.proofs.Beside.{head_right}
use Rattle.vt_recover.proofs.Lists.{at_map, index_map, same_lists, All-replicate}
use Rattle.vt_recover.proofs.Zips.{zip_beside, zip_length}

-- no call was made of a shard that was just made
pub unused_made : {D : Type 0} (disk : DiskOf D) (lumps clean : ℕ) (device : D) (section : SectionState D) (s : ShardState D)
    → IsFoundSection disk device section → IsShardMade disk lumps clean section s → IsUnused s
unused_made {D} disk lumps clean device section s opens made = record {
  quiet = record {
    phase = ap (λ (t : ShardState D). t.section.phase) made.is ∙ ap (λ (t : SectionState D). t.phase) opens.fresh;
    next = ap (λ (t : ShardState D). t.section.next) made.is ∙ ap (λ (t : SectionState D). t.next) opens.fresh ∙ sym (ap (λ (t : ShardState D). t.section.head) made.is);
    stopped = ap (λ (t : ShardState D). t.section.stopped) made.is ∙ ap (λ (t : SectionState D). t.stopped) opens.fresh;
    writeback = ap (λ (t : ShardState D). t.writeback) made.is;
  };
  dirty = ap (λ (t : ShardState D). t.index.dirty) made.is;
  bucket = ap (λ (t : ShardState D). t.bucket) made.is;
  filed = ap (λ (t : ShardState D). t.filed) made.is;
}

-- a shard as it was left, its section as it was opened, and its device as it came in
pub record IsChain {D : Type 0} (disk : DiskOf D) (devices : List D) (sections : List (SectionState D)) (made : List (ShardState D)) (lumps clean i : ℕ) (after : ShardState D) : Type 0 where
  pub device : D
  pub device_at : slice_get devices i ≡ Some device
  pub section : SectionState D
  pub section_at : slice_get sections i ≡ Some section
  pub before : ShardState D
  pub before_at : slice_get made i ≡ Some before
  pub opens : IsFoundSection disk device section
  pub makes : IsShardMade disk lumps clean section before
  pub keeps : KeepsSection disk before after

module _ {D : Type 0} (score : List ℕ → List ℕ) (disk : DiskOf D) (devices : List D) (sections : List (SectionState D)) (made : List (ShardState D)) (lumps clean : ℕ)
    (opens : AllZip (IsFoundSection disk) devices sections) (makes : AllZip (IsShardMade disk lumps clean) sections made) where
  pub many_made : length made ≡ length devices
  many_made = zip_length (IsShardMade disk lumps clean) sections made makes ∙ zip_length (IsFoundSection disk) devices sections opens

  pub unused_at : (i : ℕ) (s : ShardState D) → slice_get made i ≡ Some s → IsUnused s
  unused_at i s at =
      let t = zip_beside (IsShardMade disk lumps clean) sections made i s makes at in
      let d = zip_beside (IsFoundSection disk) devices sections i t.0 opens t.1 in
      unused_made disk lumps clean d.0 t.0 s d.2 t.2

  pub made_faults : map disk.faults (map (λ s. s.section.disk) made) ≡ map disk.faults devices
  made_faults = same_lists (map disk.faults (map (λ s. s.section.disk) made)) (map disk.faults devices)
      (length-map (map (λ s. s.section.disk) made) disk.faults ∙ length-map made (λ s. s.section.disk) ∙ many_made ∙ sym (length-map devices disk.faults))
      (λ i x y here there.
      let d = slice_get_other (map (λ s. s.section.disk) made) (map disk.faults (map (λ s. s.section.disk) made)) i x (length-map (map (λ s. s.section.disk) made) disk.faults) here in
      let s = slice_get_other made (map (λ s. s.section.disk) made) i d.0 (length-map made (λ s. s.section.disk)) d.1 in
      let t = zip_beside (IsShardMade disk lumps clean) sections made i s.0 makes s.1 in
      let v = zip_beside (IsFoundSection disk) devices sections i t.0 opens t.1 in
      let e : x ≡ disk.faults s.0.section.disk = same_Some x (disk.faults s.0.section.disk) (sym here ∙ at_map disk.faults (map (λ s. s.section.disk) made) i s.0.section.disk (at_map (λ s. s.section.disk) made i s.0 s.1)) in
      let f : y ≡ disk.faults v.0 = same_Some y (disk.faults v.0) (sym there ∙ at_map disk.faults devices i v.0 v.1) in
      let m : disk.faults s.0.section.disk ≡ disk.faults t.0.disk = ap (λ (z : ShardState D). disk.faults z.section.disk) t.2.is in
      e ∙ m ∙ v.2.faults ∙ sym f)

  -- their disks are those of the sections
  module _ (log log1 : LogState D) (bits bits1 : Filter) (shards : List (ShardState D)) (back : ReadsBack score disk (opened log made bits) (opened log1 shards bits1)) where
    pub chain : (i : ℕ) (after : ShardState D) → slice_get shards i ≡ Some after → IsChain disk devices sections made lumps clean i after
    chain i after at =
        let b = slice_get_other made shards i after back.many at in
        let t = zip_beside (IsShardMade disk lumps clean) sections made i b.0 makes b.1 in
        let d = zip_beside (IsFoundSection disk) devices sections i t.0 opens t.1 in
        record {
          device = d.0;
          device_at = d.1;
          section = t.0;
          section_at = t.1;
          before = b.0;
          before_at = b.1;
          opens = d.2;
          makes = t.2;
          keeps = back.shards i b.0 after b.1 at;
        }

    pub chain_head : (i : ℕ) (after : ShardState D) (it : IsChain disk devices sections made lumps clean i after) → after.section.head ≡ it.section.head
    chain_head i after it = it.keeps.head ∙ ap (λ (t : ShardState D). t.section.head) it.makes.is

    pub chain_buckets : (i : ℕ) (after : ShardState D) (it : IsChain disk devices sections made lumps clean i after) → after.section.buckets ≡ it.section.buckets
    chain_buckets i after it = it.keeps.buckets ∙ ap (λ (t : ShardState D). t.section.buckets) it.makes.is

    pub chain_name : (i : ℕ) (after : ShardState D) (it : IsChain disk devices sections made lumps clean i after) → after.section.name ≡ it.section.name
    chain_name i after it = it.keeps.name ∙ ap (λ (t : ShardState D). t.section.name) it.makes.is

    pub chain_size : (i : ℕ) (after : ShardState D) (it : IsChain disk devices sections made lumps clean i after) → disk.size after.section.disk ≡ disk.size it.device
    chain_size i after it =
        let there : disk.size it.before.section.disk ≡ disk.size it.section.disk = ap (λ (t : ShardState D). disk.size t.section.disk) it.makes.is in
        it.keeps.size ∙ there ∙ it.opens.reads.size

    pub chain_room : (i : ℕ) (after : ShardState D) (it : IsChain disk devices sections made lumps clean i after) → after.section.buckets ≡ buckets_in (disk.size it.device)
    chain_room i after it = chain_buckets i after it ∙ ap (λ (t : SectionState D). t.buckets) it.opens.fresh

    pub many_shards : length shards ≡ length devices
    many_shards = back.many ∙ many_made

    -- the shards have the buckets that the sections had
    pub same_buckets : map (λ s. s.section.buckets) shards ≡ buckets_in_each sections
    same_buckets = same_lists (map (λ s. s.section.buckets) shards) (buckets_in_each sections)
        (length-map shards (λ s. s.section.buckets) ∙ many_shards ∙ sym (zip_length (IsFoundSection disk) devices sections opens) ∙ sym (length-map sections (λ s. s.buckets)))
        (λ i x y here there.
        let a = slice_get_other shards (map (λ s. s.section.buckets) shards) i x (length-map shards (λ s. s.section.buckets)) here in
        let it = chain i a.0 a.1 in
        let e : x ≡ a.0.section.buckets = same_Some x a.0.section.buckets (sym here ∙ at_map (λ s. s.section.buckets) shards i a.0 a.1) in
        let f : y ≡ it.section.buckets = same_Some y it.section.buckets (sym there ∙ at_map (λ s. s.buckets) sections i it.section it.section_at) in
        e ∙ chain_buckets i a.0 it ∙ sym f)

    -- and those for which the devices have room
    pub room_buckets : map (λ s. s.section.buckets) shards ≡ map (λ device. buckets_in (disk.size device)) devices
    room_buckets = same_lists (map (λ s. s.section.buckets) shards) (map (λ device. buckets_in (disk.size device)) devices)
        (length-map shards (λ s. s.section.buckets) ∙ many_shards ∙ sym (length-map devices (λ device. buckets_in (disk.size device))))
        (λ i x y here there.
        let a = slice_get_other shards (map (λ s. s.section.buckets) shards) i x (length-map shards (λ s. s.section.buckets)) here in
        let it = chain i a.0 a.1 in
        let e : x ≡ a.0.section.buckets = same_Some x a.0.section.buckets (sym here ∙ at_map (λ s. s.section.buckets) shards i a.0 a.1) in
        let f : y ≡ buckets_in (disk.size it.device) = same_Some y (buckets_in (disk.size it.device)) (sym there ∙ at_map (λ device. buckets_in (disk.size device)) devices i it.device it.device_at) in
        e ∙ chain_room i a.0 it ∙ sym f)

    pub shard_sizes : map disk.size (map (λ s. s.section.disk) shards) ≡ map disk.size devices
    shard_sizes = same_lists (map disk.size (map (λ s. s.section.disk) shards)) (map disk.size devices)
        (length-map (map (λ s. s.section.disk) shards) disk.size ∙ length-map shards (λ s. s.section.disk) ∙ many_shards ∙ sym (length-map devices disk.size))
        (λ i x y here there.
        let d = slice_get_other (map (λ s. s.section.disk) shards) (map disk.size (map (λ s. s.section.disk) shards)) i x (length-map (map (λ s. s.section.disk) shards) disk.size) here in
        let s = slice_get_other shards (map (λ s. s.section.disk) shards) i d.0 (length-map shards (λ s. s.section.disk)) d.1 in
        let it = chain i s.0 s.1 in
        let e : x ≡ disk.size s.0.section.disk = same_Some x (disk.size s.0.section.disk) (sym here ∙ at_map disk.size (map (λ s. s.section.disk) shards) i s.0.section.disk (at_map (λ s. s.section.disk) shards i s.0 s.1)) in
        let f : y ≡ disk.size it.device = same_Some y (disk.size it.device) (sym there ∙ at_map disk.size devices i it.device it.device_at) in
        e ∙ chain_size i s.0 it ∙ sym f)

    module _ (filter : Option D) (bloom : Option (BloomState D)) (filter_opens : OpensFilter disk filter bloom bits) (part : ℕ) (tests : TestsParts {U = ⊤} part sections bloom log.durable (Ok tt))
        (rest : AreReadBack bits1 log.durable shards) (sessions : ℕ) (many_sessions : sessions < 2 ^ 32) (some_arena : 0 < length log.layout) (some_section : 0 < length devices) (few_sections : length devices < 2 ^ 32) where
      -- the store that is found
      abbrev pub k : CoreState D
      k = record { log = log1; shards = shards; bloom = bloom; bits = bits1; waiting = replicate sessions None; synced = log1.durable }

      durable_same : log1.durable ≡ log.durable
      durable_same = ap (λ (l : LogState D). l.durable) back.log

      pub live_at : (i : ℕ) (after : ShardState D) → slice_get shards i ≡ Some after → IsLive (setup_of k) i after.section.head
      live_at i after at =
          let it = chain i after at in
          let right = head_right (part + i) (first_bucket (buckets_in_each sections) i) it.section.buckets (sum (buckets_in_each sections)) it.section.head (tests.1 i it.section it.section_at) in
          let same = same_buckets in
          let head = chain_head i after it in
          record {
            state = ap (λ (h : Head). h.state) head ∙ right.0;
            first = ap (λ (h : Head). h.first) head ∙ right.1 ∙ ap (λ (l : List ℕ). first_bucket l i) (sym same);
            count = ap (λ (h : Head). h.count) head ∙ right.2 ∙ sym (chain_buckets i after it) ∙ sym (index_map (λ s. s.section.buckets) shards i after at);
            total = ap (λ (h : Head). h.total) head ∙ right.3 ∙ ap sum (sym same);
          }

      shard_at : (i : ℕ) (after : ShardState D) → slice_get shards i ≡ Some after → IsShardOf disk k i k.log.durable after
      shard_at i after at =
          let it = chain i after at in
          let done = rest i after at in
          let mark : after.section.head.mark ≤ log1.durable = omega (arith, tests.2.0 i it.section it.section_at, ap (λ (h : Head). h.mark) (chain_head i after it), durable_same) in
          record {
            live = live_at i after at;
            buckets = chain_room i after it ∙ ap buckets_in (sym (chain_size i after it));
            some = subst (λ (n : ℕ). 0 < n) (sym (chain_buckets i after it)) it.opens.some;
            rest = λ none. done.quiet.phase;
            filed = omega (arith, done.filed, durable_same);
            writeback = λ below is. absurd (cc (sym done.quiet.writeback ∙ is));
            mark = mark;
            next = subst (λ (h : Head). h.mark ≤ log1.durable) (sym done.quiet.next) mark;
            numbers = λ info has. let low = done.numbers info has in omega (arith, low, durable_same);
            bits = done.bits_of;
          }

      pub filter_opened : (b : BloomState D) → bloom ≡ Some b → (device : D) × (filter ≡ Some device) × IsFilterOpened disk device b bits
      filter_opened b is = by_device filter filter_opens
        where
          by_device : (f : Option D) → OpensFilter disk f bloom bits → (device : D) × (f ≡ Some device) × IsFilterOpened disk device b bits
          by_device None it = absurd (cc)
          by_device (Some d) it = (d, refl, subst (λ (x : BloomState D). IsFilterOpened disk d x bits) (same_Some it.0 b (sym it.1 ∙ is)) it.2)

      filter_at : (b : BloomState D) → bloom ≡ Some b → IsFilterOf k k.log.durable b
      filter_at b is =
          let it = filter_opened b is in
          let mark : b.mark ≤ log1.durable = omega (arith, tests.2.1 b is, durable_same) in
          record {
            counts = (back.counts.0 ∙ it.2.counts.0, back.counts.1 ∙ it.2.counts.1);
            mark = mark;
            next = omega (arith, it.2.next, mark);
            made = subst (λ (o : Option FrameChange). option_map_or (λ it. it.made) o 0 ≤ 3) (sym it.2.rest) (omega arith);
          }

      none_waits : (session number : ℕ) → slice_get (replicate sessions None) session ≡ Some (Some number) → ⊥
      none_waits session number at = cc (sym (at_slice (λ (o : Option ℕ). o ≡ None) (replicate sessions None) session (Some number) (All-replicate sessions) at))

      pub whole : IsWhole disk k
      whole = record {
        some_arena = subst (λ (l : LogState D). 0 < length l.layout) (sym back.log) some_arena;
        some_shard = omega (arith, some_section, many_shards);
        few_shards = omega (arith, few_sections, many_shards);
        few_sessions = omega (arith, many_sessions, length_replicate sessions None);
        shards = shard_at;
        filter = filter_at;
        synced = omega arith;
        waiting = λ session number at. absurd (none_waits session number at);
      }
        where
          length_replicate : (n : ℕ) (o : Option ℕ) → length (replicate n o) ≡ n
          length_replicate zero o = refl
          length_replicate (suc n) o = omega (arith, length_replicate n o)
