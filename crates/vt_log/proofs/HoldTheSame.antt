-- A disk that is read, and not written.
use Rattle.std.proofs.Common.{◌≡◌, ℕ, ◌<◌, List, length, get_or, map, set, sym, ◌∙◌, ap, subst, arith, Some, option_map}
use Rattle.std.specs.Prelude.{slice_get}
use Rattle.std.proofs.lemmas.List.{length-map}
use Rattle.std.proofs.lemmas.List.Elements.{All-weaker}
use Rattle.std.proofs.lemmas.Option.{slice_get_within, slice_get-map, slice_get-get_or}
use Rattle.vt_disk.specs.Members.{DiskOf}
use Rattle.vt_disk.specs.declared.region.Region.{Region}
use Rattle.vt_disk.specs.Calls.{OnlyReads}
use Rattle.vt_disk.specs.Disk.{AreAmong}
use Rattle.vt_disk.specs.Region.{region_bytes}
use Rattle.vt_twin.specs.Frames.{named_number}
use Rattle.vt_model.specs.History.{History}
use Rattle.vt_part.specs.declared.layout.ArenaRegion.{ArenaRegion}
use Rattle.vt_arena.specs.declared.TheConstants.{FRAME_LEN}
use Rattle.vt_arena.specs.Arena.{ArenaState}
use Rattle.vt_arena.specs.Layout.{Content, IsArena}
use Rattle.vt_arena.specs.Sound.{IsRegion, IsSoundArena}
use Rattle.vt_log.specs.Answers.{HoldTheSame}
use Rattle.vt_log.specs.Log.{LogState}
use Rattle.vt_log.specs.Sound.{IsArenaAt, IsSoundLog}
use Rattle.vt_log.specs.Whole.{IsOnDisk, IsWholeLog}
use Rattle.vt_part.specs.declared.part.Part.{Part}
use Rattle.vt_part.specs.Parts.{disk_of, tables_of}
use Rattle.vt_log.proofs.Disks.{parts_disks, parts_tables, hold_set}
use Rattle.vt_log.proofs.Lists.{map_long, map_there, slice_get_other, at_slice}

-- an arena stays sound where the images are among those that there were
pub among_arena : (score_of : List ℕ → List ℕ) (a : ArenaState) (region : Region) (old : Content) (read : List ℕ) (before after : List ℕ → Type 0) → AreAmong after before
    → IsSoundArena score_of a region old read before → IsSoundArena score_of a region old read after
among_arena score_of a region old read before after among sound = record {
  len = sound.len;
  frame_len = sound.frame_len;
  head = sound.head;
  next = sound.next;
  chain = sound.chain;
  packed = sound.packed;
  content = sound.content;
  next_content_is = sound.next_content_is;
  version = sound.version;
  grows = sound.grows;
  begun = sound.begun;
  frame = sound.frame;
  twin = record {
    number = sound.twin.number;
    kept = λ c left. sound.twin.kept c (among c left);
    named = λ waits c left. sound.twin.named waits c (among c left);
    written = sound.twin.written;
    synced = λ made c left. sound.twin.synced made c (among c left);
    selected = sound.twin.selected;
  };
  fields = sound.fields;
  kept = λ c left. sound.kept c (among c left);
  written = sound.written;
  synced = λ made c left. sound.synced made c (among c left);
}

-- a log stays whole and sound where its disks hold the same
pub hold_whole : {D : Type 0} (disk : DiskOf D) (l : LogState D) (ds : List D) → IsWholeLog disk l → HoldTheSame disk l.disks ds
    → IsWholeLog disk (record l { disks = ds })
hold_whole disk l ds whole hold = record {
  many_disks = map_long disk.size l.disks ds hold.sizes_are ∙ whole.many_disks;
  layout = whole.layout;
  regions = All-weaker (IsOnDisk disk l.disks) (IsOnDisk disk ds) (λ r on.
      let now = slice_get_other ds l.disks r.part on.device (sym (map_long disk.size l.disks ds hold.sizes_are)) on.has in
      record {
        device = now.0;
        has = now.1;
        region = subst (IsRegion r.region) (sym (map_there disk.size l.disks ds r.part on.device now.0 hold.sizes_are on.has now.1)) on.region;
      }) l.layout whole.regions;
  apart = whole.apart;
  few = whole.few;
  many = whole.many;
  heads = whole.heads;
  versions = whole.versions;
  unsealed = whole.unsealed;
  base = whole.base;
  committing = whole.committing;
  arena = whole.arena;
  none = whole.none;
  number = whole.number;
  clumps = whole.clumps;
  runs = whole.runs;
  some = whole.some;
  way = whole.way;
  queue = whole.queue;
  places = whole.places;
  most = whole.most;
  durable = whole.durable;
}

was_at : {D : Type 0} (l : LogState D) (ds : List D) (i : ℕ) (r : ArenaRegion) (disk : D) → length ds ≡ length l.disks → IsArenaAt (record l { disks = ds }) i r disk
    → (before : D) × IsArenaAt l i r before
was_at l ds i r disk many at =
    let was = slice_get_other l.disks ds r.part disk many at.disk_is in
    (was.0, record { arena = at.arena; disk_is = was.1 })

pub hold_sound : {D : Type 0} (score_of : List ℕ → List ℕ) (disk : DiskOf D) (l : LogState D) (ds : List D) (h : History)
    → HoldTheSame disk l.disks ds → IsSoundLog score_of disk l h → IsSoundLog score_of disk (record l { disks = ds }) h
hold_sound {D = D} score_of disk l ds h hold sound = record {
  whole = hold_whole disk l ds sound.whole hold;
  contents = sound.contents;
  many = sound.many;
  split = sound.split;
  current = λ r device a at has.
      let was = was_at l ds l.committing r device many at in
      let same : disk.bytes device ≡ disk.bytes was.0 = map_there disk.bytes l.disks ds r.part was.0 device hold.bytes_are was.1.disk_is at.disk_is in
      subst (λ (b : List ℕ). IsSoundArena score_of l.arena r.region a b (disk.images device)) (sym same)
      (among_arena score_of l.arena r.region a (disk.bytes was.0) (disk.images was.0) (disk.images device) (hold.images_are r.part was.0 device was.1.disk_is at.disk_is) (sound.current r was.0 a was.1 has));
  others = λ i r device a other at has.
      let was = was_at l ds i r device many at in
      let same : disk.bytes device ≡ disk.bytes was.0 = map_there disk.bytes l.disks ds r.part was.0 device hold.bytes_are was.1.disk_is at.disk_is in
      let rests = sound.others i r was.0 a other was.1 has in (
        λ c left. rests.0 c (hold.images_are r.part was.0 device was.1.disk_is at.disk_is c left) ∙ sym (ap (region_bytes r.region) same),
        subst (λ (b : List ℕ). IsArena score_of r.region r.number a b) (sym same) rests.1,
      );
  heads = sound.heads;
  selectors = λ i r device found behind at has.
      let was = was_at l ds i r device many at in
      let same : disk.bytes device ≡ disk.bytes was.0 = map_there disk.bytes l.disks ds r.part was.0 device hold.bytes_are was.1.disk_is at.disk_is in
      sound.selectors i r was.0 found behind was.1 has ∙ sym (ap (named_number r.region FRAME_LEN) same);
  committed = sound.committed;
  queued = sound.queued;
  front = sound.front;
  packed = sound.packed;
  places = sound.places;
  filling = sound.filling;
  last = sound.last;
  arenas = sound.arenas;
}
  where
    many : length ds ≡ length l.disks
    many = map_long disk.size l.disks ds hold.sizes_are

-- the log with this disk in a partition
abbrev pub with_disk : {D : Type 0} → List (Part D) → ℕ → Part D → D → LogState D → LogState D
with_disk ps i p d l = record l {
  disks = map (λ part. disk_of part) (set ps i (record p { disk = d }));
  tables = tables_of (set ps i (record p { disk = d }));
}

-- what a read leaves of a log that has these partitions
pub record IsReadOnly {D : Type 0} (score_of : List ℕ → List ℕ) (disk : DiskOf D) (i : ℕ) (old d : D) (m k : LogState D) : Type 0 where
  pub same : k ≡ record m { disks = k.disks }
  pub disks_are : k.disks ≡ set m.disks i d
  pub was : slice_get m.disks i ≡ Some old
  pub hold : HoldTheSame disk m.disks k.disks
  pub whole : IsWholeLog disk m → IsWholeLog disk k
  pub sound : (h : History) → IsSoundLog score_of disk m h → IsSoundLog score_of disk k h

pub read_only : {D : Type 0} (score_of : List ℕ → List ℕ) (disk : DiskOf D) (most : ℕ) (ps : List (Part D)) (i : ℕ) (p : Part D) (d : D) (l m : LogState D)
    → l ≡ m → l.disks ≡ map (λ part. disk_of part) ps → l.tables ≡ tables_of ps → slice_get ps i ≡ Some p
    → OnlyReads disk most (disk_of p) d
    → IsReadOnly score_of disk i (disk_of p) d m (with_disk ps i p d l)
read_only {D = D} score_of disk most ps i p d l m view disks tables at reads =
    record { same = same; disks_are = disks_are; was = was; hold = hold; whole = whole; sound = sound }
  where
    k : LogState D
    k = with_disk ps i p d l

    same_tables : tables_of (set ps i (record p { disk = d })) ≡ l.tables
    same_tables = parts_tables ps i p d at ∙ sym tables

    mine : with_disk ps i p d l ≡ record l { disks = map (λ (part : Part D). disk_of part) (set ps i (record p { disk = d })) }
    mine = λ j. record l { disks = map (λ (part : Part D). disk_of part) (set ps i (record p { disk = d })); tables = same_tables j }

    same : with_disk ps i p d l ≡ record m { disks = map (λ (part : Part D). disk_of part) (set ps i (record p { disk = d })) }
    same = mine ∙ ap (λ (x : LogState D). record x { disks = map (λ (part : Part D). disk_of part) (set ps i (record p { disk = d })) }) view

    disks_are : map (λ (part : Part D). disk_of part) (set ps i (record p { disk = d })) ≡ set m.disks i d
    disks_are = parts_disks ps i p d ∙ ap (λ (ds : List D). set ds i d) (sym disks ∙ ap (λ (x : LogState D). x.disks) view)

    was : slice_get m.disks i ≡ Some (disk_of p)
    was = ap (λ (x : LogState D). slice_get x.disks i) (sym view) ∙ ap (λ (ds : List D). slice_get ds i) disks ∙ slice_get-map (λ (part : Part D). disk_of part) ps i ∙ ap (option_map (λ (part : Part D). disk_of part)) at

    hold : HoldTheSame disk m.disks (map (λ (part : Part D). disk_of part) (set ps i (record p { disk = d })))
    hold = subst (λ (ds : List D). HoldTheSame disk m.disks ds) (sym disks_are) (hold_set disk most m.disks i (disk_of p) d was reads)

    whole : IsWholeLog disk m → IsWholeLog disk (with_disk ps i p d l)
    whole is = subst (IsWholeLog disk) (sym same) (hold_whole disk m _ is hold)

    sound : (h : History) → IsSoundLog score_of disk m h → IsSoundLog score_of disk (with_disk ps i p d l) h
    sound h is = subst (λ (x : LogState D). IsSoundLog score_of disk x h) (sym same) (hold_sound score_of disk m _ h hold is)

-- a partition is there for each arena
pub part_there : {D : Type 0} (disk : DiskOf D) (ps : List (Part D)) (l : LogState D) (arena : ℕ) (r dr : ArenaRegion) → IsWholeLog disk l → l.disks ≡ map (λ part. disk_of part) ps → arena < length l.layout
    → r ≡ get_or l.layout arena dr → r.part < length ps
part_there {D = D} disk ps l arena r dr whole disks within r_is =
    let on = at_slice (IsOnDisk disk l.disks) l.layout arena (get_or l.layout arena dr) whole.regions (slice_get-get_or l.layout arena dr within) in
    let below = slice_get_within l.disks _ on.device on.has in
    omega (arith, below, ap (λ (ds : List D). length ds) disks, length-map ps (λ (part : Part D). disk_of part), ap (λ (x : ArenaRegion). x.part) r_is)
