-- Staging a block that waits, and asking for a seal.
use Rattle.std.proofs.Common.{◌≡◌, ◌≢◌, ⊎_elim, ℕ, suc, ◌+◌, ◌<◌, ◌≤◌, ◌==◌, ◌&&◌, inl, Bool, true, false, cond, List, [], ◌∷◌, ◌++◌, length, map, refl, sym, ◌∙◌, ap, subst, arith, append_assoc}
use Rattle.std.specs.Prelude.{All, slice_index, not, IsTrue, IsFalse}
use Rattle.std.proofs.lemmas.Bool.Decides.{eqb_tells, Decides-eqb}
use Rattle.std.proofs.lemmas.List.{map-append, length_push, get_or-map}
use Rattle.std.proofs.lemmas.List.Elements.{All-head, All-tail}
use Rattle.std.proofs.lemmas.Option.{slice_get_within, get_or_from_slice_get}
use Rattle.vt_base.specs.declared.place.Place.{Place}
use Rattle.vt_disk.specs.Members.{DiskOf}
use Rattle.vt_clump.specs.declared.packed.Packed.{Packed}
use Rattle.vt_clump.specs.Clumps.{IsPacked, stored_of}
use Rattle.vt_clump.specs.Spelling.{Stored}
use Rattle.vt_model.specs.History.{History}
use Rattle.vt_part.specs.declared.layout.ArenaRegion.{ArenaRegion}
use Rattle.vt_arena.specs.declared.head.Found.{Found}
use Rattle.vt_model.specs.declared.TheConstants.{WRITTEN_VERSION}
use Rattle.vt_arena.specs.Arena.{added_by_commit, fits, is_committing, version_counted, with_staged, with_seal}
use Rattle.vt_arena.specs.Places.{has_room}
use Rattle.vt_arena.proofs.Stage.{both, stage_sound, seal_sound as seal_arena}
use Rattle.vt_log.specs.declared.filling.Filling.{Filling}
use Rattle.vt_log.specs.declared.queue.Waiting.{Waiting}
use Rattle.vt_log.specs.Log.{LogState, filled_as, found_filling, fits_in, with_room_taken}
use Rattle.vt_log.specs.Logs.{accepted_in}
use Rattle.vt_log.specs.Queue.{QueueState, WaitsFor, waiting_block}
use Rattle.vt_log.specs.Sound.{IsSoundLog}
use Rattle.vt_log.specs.Whole.{IsWholeLog, Fill, turned_to}
use Rattle.vt_log.proofs.Fill.{fits_within, turned_arena}
use Rattle.vt_log.proofs.Lists.{slice_get_other, slice_get_there}
use Rattle.vt_log.proofs.Versions.{counted_first, version_there}

-- the log with the block staged that waits longest, and these left to wait
abbrev pub with_next_staged : {D : Type 0} → (score_of : List ℕ → List ℕ) → Packed → List Waiting → LogState D → LogState D
with_next_staged score_of p ws l = record l {
  arena = with_staged score_of p l.arena;
  queue = record { waiting = ws; places = l.queue.places };
}

-- what is turned to is what is filled
pub turned_same : (heads : List Found) (arena : ℕ) (f : Filling) → arena ≡ f.arena → turned_to heads arena f ≡ f
turned_same heads arena f same = ⊎_elim
    (λ (t : ((arena == f.arena) ≡ true) × (arena ≡ f.arena)). ap (λ (b : Bool). cond b f (found_filling heads arena)) t.0)
    (λ (t : ((arena == f.arena) ≡ false) × (arena ≢ f.arena)). absurd (t.1 same)) (eqb_tells arena f.arena)

-- the block fits the arena in memory
pub waiting_fits : {D : Type 0} (disk : DiskOf D) (l : LogState D) (w : Waiting) (ws : List Waiting) → IsWholeLog disk l
    → l.queue.waiting ≡ w ∷ ws → w.arena ≡ l.committing → IsTrue (fits l.arena w.packed.len)
waiting_fits disk l w ws whole is arena =
    let fill = subst (λ (q : List Waiting). Fill l.layout l.versions l.heads (filled_as l.committing l.arena.next) q l.filling) is whole.queue in
    let same = turned_same l.heads w.arena (filled_as l.committing l.arena.next) arena in
    let fit : IsTrue (fits_in l.layout l.versions (filled_as l.committing l.arena.next) w.packed.len) = subst (λ (f : Filling). IsTrue (fits_in l.layout l.versions f w.packed.len)) same fill.3 in
    let there = fits_within l.layout l.versions (filled_as l.committing l.arena.next) w.packed.len fit in
    let found = slice_get_other l.heads l.layout l.committing there.0 (sym whole.many) there.1 in
    let len : slice_index (map (λ (r : ArenaRegion). r.region.len) l.layout) l.committing ≡ l.arena.len =
    get_or-map (λ (r : ArenaRegion). r.region.len) l.layout l.committing there.0 0 (slice_get_within l.layout l.committing there.0 there.1)
    ∙ ap (λ (r : ArenaRegion). r.region.len) (get_or_from_slice_get l.layout l.committing there.0 there.0 there.1)
    ∙ sym (whole.arena there.0 found.0 there.1 found.1).len in
    let version : slice_index l.versions l.committing ≡ version_counted l.arena.next =
    version_there disk l whole l.committing found.0 found.1 ∙ sym (whole.arena there.0 found.0 there.1 found.1).counted in
    subst (λ (v : ℕ). IsTrue (v == WRITTEN_VERSION && has_room WRITTEN_VERSION l.arena.len l.arena.next.used l.arena.next.clumps w.packed.len)) version
    (subst (λ (n : ℕ). IsTrue (slice_index l.versions l.committing == WRITTEN_VERSION && has_room WRITTEN_VERSION n l.arena.next.used l.arena.next.clumps w.packed.len)) len fit)

-- the next head counts as one of the version that is written
waiting_counted : {D : Type 0} (disk : DiskOf D) (l : LogState D) (w : Waiting) (ws : List Waiting) → IsWholeLog disk l
    → l.queue.waiting ≡ w ∷ ws → w.arena ≡ l.committing → version_counted l.arena.next ≡ WRITTEN_VERSION
waiting_counted disk l w ws whole is arena =
    (Decides-eqb (version_counted l.arena.next) WRITTEN_VERSION).0
    (both (version_counted l.arena.next == WRITTEN_VERSION) (has_room WRITTEN_VERSION l.arena.len l.arena.next.used l.arena.next.clumps w.packed.len) (waiting_fits disk l w ws whole is arena)).0

-- a log in memory stays whole
pub stage_whole : {D : Type 0} (score_of : List ℕ → List ℕ) (disk : DiskOf D) (l : LogState D) (w : Waiting) (ws : List Waiting) → IsWholeLog disk l
    → IsFalse (is_committing l.arena) → l.queue.waiting ≡ w ∷ ws → w.arena ≡ l.committing → IsWholeLog disk (with_next_staged score_of w.packed ws l)
stage_whole score_of disk l w ws whole rest is arena =
    let from : Filling = filled_as l.committing l.arena.next in
    let fill = subst (λ (q : List Waiting). Fill l.layout l.versions l.heads from q l.filling) is whole.queue in
    let same : turned_to l.heads w.arena from ≡ from = turned_same l.heads w.arena from arena in
    let there = fits_within l.layout l.versions (turned_to l.heads w.arena from) w.packed.len fill.3 in
    let below = slice_get_within l.layout _ there.0 there.1 in
    let there_arena = turned_arena l.heads w.arena from in
    let long : length l.queue.waiting ≡ suc (length ws) = ap (λ (q : List Waiting). length q) is in
    record {
      many_disks = whole.many_disks;
      layout = whole.layout;
      regions = whole.regions;
      apart = whole.apart;
      few = whole.few;
      many = whole.many;
      heads = whole.heads;
      versions = whole.versions;
      unsealed = whole.unsealed;
      base = whole.base;
      committing = whole.committing;
      arena = λ r found at has. let it = whole.arena r found at has in record {
        len = it.len;
        number = it.number;
        head = it.head;
        counted = written (l.arena.next.clumps + 1 == 0) ∙ sym (waiting_counted disk l w ws whole is arena) ∙ it.counted;
        version = inl refl;
        last = λ second. absurd (omega (arith, second));
      };
      none = λ past. absurd (omega (arith, past, below, there_arena, arena));
      number = whole.number;
      clumps = omega (arith, whole.clumps, length_push l.arena.staged w.packed);
      runs = whole.runs;
      some = λ committing. absurd (cc);
      way = λ sealed. absurd (other (subst (WaitsFor (l.committing + 1)) is (whole.way sealed)));
      queue = subst (λ (f : Filling). Fill l.layout l.versions l.heads (with_room_taken w.packed.len f) ws l.filling) same fill.4;
      places = omega (arith, whole.places, long, length_push l.arena.staged w.packed);
      most = whole.most;
      durable = whole.durable;
    }
  where
    written : (b : Bool) → cond b WRITTEN_VERSION WRITTEN_VERSION ≡ WRITTEN_VERSION
    written true = refl
    written false = refl

    other : WaitsFor (l.committing + 1) (w ∷ ws) → ⊥
    other waits = omega (arith, waits, arena)

-- and the disks sound
pub stage_log_sound : {D : Type 0} (score_of : List ℕ → List ℕ) (disk : DiskOf D) (l : LogState D) (h : History) (w : Waiting) (ws : List Waiting)
    → ((block : List ℕ) → length (score_of block) ≡ 20) → IsSoundLog score_of disk l h
    → IsFalse (is_committing l.arena) → l.queue.waiting ≡ w ∷ ws → w.arena ≡ l.committing → IsSoundLog score_of disk (with_next_staged score_of w.packed ws l) h
stage_log_sound score_of disk l h w ws scores sound rest is arena = record {
  whole = stage_whole score_of disk l w ws sound.whole rest is arena;
  contents = sound.contents;
  many = sound.many;
  split = sound.split;
  current = λ r device a at has. stage_sound score_of l.arena w.packed r.region a (disk.bytes device) (disk.images device) scores (waiting_fits disk l w ws sound.whole is arena) rest well
      (sound.current r device a (record { arena = at.arena; disk_is = at.disk_is }) has);
  others = λ i r device a other at has. sound.others i r device a other (record { arena = at.arena; disk_is = at.disk_is }) has;
  heads = sound.heads;
  selectors = λ i r device found behind at has. sound.selectors i r device found behind (record { arena = at.arena; disk_is = at.disk_is }) has;
  committed = sound.committed;
  queued = sound.queued ∙ ap (λ (q : List Waiting). map (accepted_in l.committing) (added_by_commit l.arena) ++ map waiting_block q) is ∙ sym moved;
  front = sound.front;
  packed = All-tail (λ (w : Waiting). IsPacked score_of w.packed) w ws packed;
  places = sound.places;
  filling = sound.filling;
  last = sound.last;
  arenas = sound.arenas;
}
  where
    packed : All (λ (w : Waiting). IsPacked score_of w.packed) (w ∷ ws)
    packed = subst (All (λ (w : Waiting). IsPacked score_of w.packed)) is sound.packed

    well : IsPacked score_of w.packed
    well = All-head (λ (w : Waiting). IsPacked score_of w.packed) w ws packed

    moved : map (accepted_in l.committing) (map stored_of (l.arena.staged ++ w.packed ∷ [])) ++ map waiting_block ws ≡ map (accepted_in l.committing) (added_by_commit l.arena) ++ (waiting_block w ∷ map waiting_block ws)
    moved = ap (λ (q : List Stored). map (accepted_in l.committing) q ++ map waiting_block ws) (map-append stored_of l.arena.staged (w.packed ∷ []))
        ∙ ap (λ (q : History). q ++ map waiting_block ws) (map-append (accepted_in l.committing) (added_by_commit l.arena) (stored_of w.packed ∷ []))
        ∙ append_assoc (map (accepted_in l.committing) (added_by_commit l.arena)) (accepted_in l.committing (stored_of w.packed) ∷ []) (map waiting_block ws)
        ∙ ap (λ (k : ℕ). map (accepted_in l.committing) (added_by_commit l.arena) ++ (accepted_in k (stored_of w.packed) ∷ map waiting_block ws)) (sym arena)

-- the same of a queue that was changed, and of a log that is known by its fields
same_queue : (q : QueueState) (places : List Place) → q.places ≡ places → record { waiting = q.waiting; places = places } ≡ q
same_queue q places same = λ i. record { waiting = q.waiting; places = sym same i }

pub staged_whole : {D : Type 0} (score_of : List ℕ → List ℕ) (disk : DiskOf D) (l m : LogState D) (p : Packed) (q : QueueState) → l ≡ m → IsWholeLog disk l → IsFalse (is_committing m.arena)
    → l.queue.waiting ≡ record { arena = l.committing; packed = p } ∷ q.waiting → q.places ≡ l.queue.places
    → IsWholeLog disk (record l { arena = with_staged score_of p l.arena; queue = q })
staged_whole {D = D} score_of disk l m p q view whole rest is places =
    subst (λ (r : QueueState). IsWholeLog disk (record l { arena = with_staged score_of p l.arena; queue = r })) (same_queue q l.queue.places places)
    (stage_whole score_of disk l (record { arena = l.committing; packed = p }) q.waiting whole (subst (λ (k : LogState D). IsFalse (is_committing k.arena)) (sym view) rest) is refl)

pub staged_fits : {D : Type 0} (disk : DiskOf D) (l : LogState D) (p : Packed) (q : QueueState) → IsWholeLog disk l
    → l.queue.waiting ≡ record { arena = l.committing; packed = p } ∷ q.waiting → IsTrue (fits l.arena p.len)
staged_fits disk l p q whole is = waiting_fits disk l (record { arena = l.committing; packed = p }) q.waiting whole is refl

pub staged_sound : {D : Type 0} (score_of : List ℕ → List ℕ) (disk : DiskOf D) (l m : LogState D) (h : History) (p : Packed) (q : QueueState) → l ≡ m
    → ((block : List ℕ) → length (score_of block) ≡ 20) → IsSoundLog score_of disk m h → IsFalse (is_committing m.arena)
    → l.queue.waiting ≡ record { arena = l.committing; packed = p } ∷ q.waiting → q.places ≡ l.queue.places
    → IsSoundLog score_of disk (record l { arena = with_staged score_of p l.arena; queue = q }) h
staged_sound {D = D} score_of disk l m h p q view scores sound rest is places =
    subst (λ (r : QueueState). IsSoundLog score_of disk (record l { arena = with_staged score_of p l.arena; queue = r }) h) (same_queue q l.queue.places places)
    (stage_log_sound score_of disk l h (record { arena = l.committing; packed = p }) q.waiting scores (subst (λ (k : LogState D). IsSoundLog score_of disk k h) (sym view) sound)
    (subst (λ (k : LogState D). IsFalse (is_committing k.arena)) (sym view) rest) is refl)

-- asking for a seal
pub waits_for_next : {D : Type 0} (disk : DiskOf D) (l : LogState D) (w : Waiting) (ws : List Waiting) → IsWholeLog disk l → l.queue.waiting ≡ w ∷ ws
    → ¬ WaitsFor l.committing l.queue.waiting → (w.arena ≡ l.committing + 1) × (l.committing + 1 < length l.layout)
waits_for_next disk l w ws whole is other =
    let from : Filling = filled_as l.committing l.arena.next in
    let fill = subst (λ (q : List Waiting). Fill l.layout l.versions l.heads from q l.filling) is whole.queue in
    let not_this : w.arena ≢ l.committing = λ same. other (subst (WaitsFor l.committing) (sym is) same) in
    let there = fits_within l.layout l.versions (turned_to l.heads w.arena from) w.packed.len fill.3 in
    let below = slice_get_within l.layout _ there.0 there.1 in
    let there_arena = turned_arena l.heads w.arena from in
    let least : l.committing ≤ w.arena = fill.0 in
    let most : w.arena ≤ l.committing + 1 = fill.1 in
    (omega (arith, least, most, not_this), omega (arith, least, most, not_this, below, there_arena))

pub seal_whole : {D : Type 0} (disk : DiskOf D) (l m : LogState D) → l ≡ m → IsWholeLog disk l → IsFalse (is_committing m.arena) → 0 < length l.queue.waiting
    → ¬ WaitsFor l.committing l.queue.waiting → IsWholeLog disk (record l { arena = with_seal l.arena })
seal_whole {D = D} disk l m view whole rest some other = at l.queue.waiting refl
  where
    rests : IsFalse (is_committing l.arena)
    rests = subst (λ (k : LogState D). IsFalse (is_committing k.arena)) (sym view) rest

    at : (ws : List Waiting) → l.queue.waiting ≡ ws → IsWholeLog disk (record l { arena = with_seal l.arena })
    at [] is = absurd (omega (arith, some, ap (λ (q : List Waiting). length q) is))
    at (w ∷ ws) is =
        let next = waits_for_next disk l w ws whole is other in
        record {
          many_disks = whole.many_disks;
          layout = whole.layout;
          regions = whole.regions;
          apart = whole.apart;
          few = whole.few;
          many = whole.many;
          heads = whole.heads;
          versions = whole.versions;
          unsealed = whole.unsealed;
          base = whole.base;
          committing = whole.committing;
          arena = λ r found at has. let it = whole.arena r found at has in
              record { len = it.len; number = it.number; head = it.head; counted = it.counted; version = it.version; last = it.last };
          none = λ past. absurd (omega (arith, past, next.1));
          number = whole.number;
          clumps = whole.clumps;
          runs = whole.runs;
          some = λ committing none. refl;
          way = λ sealed. subst (WaitsFor (l.committing + 1)) (sym is) next.0;
          queue = whole.queue;
          places = whole.places;
          most = whole.most;
          durable = whole.durable;
        }

-- the version that the seal asks for
pub seal_version : {D : Type 0} (disk : DiskOf D) (l : LogState D) → IsWholeLog disk l → 0 < length l.queue.waiting
    → ¬ WaitsFor l.committing l.queue.waiting → version_counted l.arena.next ≡ WRITTEN_VERSION
seal_version disk l whole some other = at l.queue.waiting refl
  where
    at : (ws : List Waiting) → l.queue.waiting ≡ ws → version_counted l.arena.next ≡ WRITTEN_VERSION
    at [] is = absurd (omega (arith, some, ap (λ (q : List Waiting). length q) is))
    at (w ∷ ws) is =
        let next = waits_for_next disk l w ws whole is other in
        let fill = subst (λ (q : List Waiting). Fill l.layout l.versions l.heads (filled_as l.committing l.arena.next) q l.filling) is whole.queue in
        let shut : not (slice_index l.versions l.committing == 2) ≡ true = fill.2 (omega (arith, next.0)) in
        let r = slice_get_there l.layout l.committing (omega (arith, next.1)) in
        let found = slice_get_other l.heads l.layout l.committing r.0 (sym whole.many) r.1 in
        let it = whole.arena r.0 found.0 r.1 found.1 in
        let version = version_there disk l whole l.committing found.0 found.1 in
        counted_first l.arena.next it.version (λ second.
        let wrong : false ≡ true = ap (λ (v : ℕ). not (v == 2)) (sym (version ∙ sym it.counted ∙ second)) ∙ shut in absurd (cc))

pub seal_sound : {D : Type 0} (score_of : List ℕ → List ℕ) (disk : DiskOf D) (l m : LogState D) (h : History) → l ≡ m
    → IsSoundLog score_of disk m h → IsFalse (is_committing m.arena) → 0 < length l.queue.waiting
    → ¬ WaitsFor l.committing l.queue.waiting → IsSoundLog score_of disk (record l { arena = with_seal l.arena }) h
seal_sound {D = D} score_of disk l m h view of_view rest some other = record {
  whole = seal_whole disk l m view sound.whole rest some other;
  contents = sound.contents;
  many = sound.many;
  split = sound.split;
  current = λ r device a at has. seal_arena score_of l.arena r.region a (disk.bytes device) (disk.images device)
      (sound.current r device a (record { arena = at.arena; disk_is = at.disk_is }) has)
      (subst (λ (k : LogState D). IsFalse (is_committing k.arena)) (sym view) rest) (seal_version disk l sound.whole some other);
  others = λ i r device a other at has. sound.others i r device a other (record { arena = at.arena; disk_is = at.disk_is }) has;
  heads = sound.heads;
  selectors = λ i r device found behind at has. sound.selectors i r device found behind (record { arena = at.arena; disk_is = at.disk_is }) has;
  committed = sound.committed;
  queued = sound.queued;
  front = sound.front;
  packed = sound.packed;
  places = sound.places;
  filling = sound.filling;
  last = sound.last;
  arenas = sound.arenas;
}
  where
    sound : IsSoundLog score_of disk l h
    sound = subst (λ (k : LogState D). IsSoundLog score_of disk k h) (sym view) of_view
