-- What the last call of a commit leaves of a log.
use Rattle.std.proofs.Common.{◌≡◌, ◌≢◌, ⊎_elim, ℕ, ◌+◌, ◌%◌, ◌<◌, ◌≤◌, ◌==◌, Bool, true, false, cond, List, [], ◌∷◌, ◌++◌, length, take, drop, map, set, refl, sym, ◌∙◌, ap, subst, arith, Some, None, Option}
use Rattle.std.specs.Prelude.{slice_get, IsTrue, IsFalse}
use Rattle.std.specs.Option.{option_map_or}
use Rattle.std.proofs.lemmas.Bool.{cases_eq}
use Rattle.std.proofs.lemmas.Bool.Decides.{eqb_tells}
use Rattle.std.proofs.lemmas.List.{length-set, length-map, length-drop, drop-drop, drop_at}
use Rattle.std.proofs.lemmas.List.Elements.{All-weaker}
use Rattle.std.proofs.lemmas.List.Sums.{sum_by-set}
use Rattle.std.proofs.lemmas.Option.{slice_get_within, get_or_from_slice_get, same_Some}
use Rattle.vt_base.specs.declared.place.Place.{Place}
use Rattle.vt_disk.specs.Members.{DiskOf}
use Rattle.vt_disk.specs.declared.region.Region.{Region}
use Rattle.vt_clump.specs.declared.packed.Packed.{Packed}
use Rattle.vt_clump.specs.Clumps.{stored_of}
use Rattle.vt_clump.specs.Spelling.{Stored}
use Rattle.vt_twin.specs.Frames.{named_number}
use Rattle.vt_model.specs.History.{History}
use Rattle.vt_model.specs.Places.{place_of}
use Rattle.vt_part.specs.declared.layout.ArenaRegion.{ArenaRegion}
use Rattle.vt_arena.specs.declared.TheConstants.{FRAME_LEN}
use Rattle.vt_arena.specs.declared.head.ArenaHead.{ArenaHead}
use Rattle.vt_arena.specs.declared.head.Found.{Found}
use Rattle.vt_arena.specs.Arena.{ArenaState, version_counted, added_by_commit, next_content, is_committing, after_last, fresh_arena}
use Rattle.vt_arena.specs.Layout.{Content, IsArena, arena_head}
use Rattle.vt_arena.specs.Places.{IsVersion, bad_last, directory_room, arena_room}
use Rattle.vt_arena.specs.Sound.{IsRegion, IsSettled, IsSoundArena}
use Rattle.vt_arena.specs.Faults.{CanStand}
use Rattle.vt_arena.proofs.Fresh.{fresh_sound}
use Rattle.vt_log.specs.declared.filling.Filling.{Filling}
use Rattle.vt_log.specs.declared.queue.Waiting.{Waiting}
use Rattle.vt_log.specs.Log.{LogState, setup_of_log, filled_as, found_filling, fits_in, with_room_taken}
use Rattle.vt_log.specs.Logs.{accepted_in, blocks_from, IsUntouched}
use Rattle.vt_log.specs.Queue.{WaitsFor, waiting_block, spot_of}
use Rattle.vt_log.specs.Sound.{IsArenaAt, IsSoundLog}
use Rattle.vt_log.specs.Whole.{IsOnDisk, IsWholeLog, Fill, turned_to}
use Rattle.vt_log.proofs.CallsArena.{ChangesRegion, on_disk_set, others_stay, at_before}
use Rattle.vt_log.proofs.Disks.{map_same}
use Rattle.vt_log.proofs.IsSplit.{blocks_set, split_set, split_sealed, longer_prefix}
use Rattle.vt_log.proofs.Fill.{fits_within, turned_arena}
use Rattle.vt_log.proofs.StandForPrefix.{number_is}
use Rattle.vt_log.proofs.Lists.{at_slice, at_drop, slice_get_set_same, slice_get_set_other, slice_get_drop}
use Rattle.vt_log.proofs.Stages.{turned_same}

-- what the last call leaves of an arena
pub record EndsArena (a b : ArenaState) : Type 0 where
  pub len : b.len ≡ a.len
  pub number : b.number ≡ a.number
  pub head : b.head ≡ a.next
  pub next : b.next ≡ a.next
  pub staged : b.staged ≡ []
  pub failed : b.failed ≡ false
  pub rest : IsFalse (is_committing b)

pub last_ends : (a : ArenaState) → a.failed ≡ false → EndsArena a (after_last a)
last_ends a runs = record {
  len = refl;
  number = refl;
  head = refl;
  next = refl;
  staged = refl;
  failed = runs;
  rest = runs;
}

-- a filling that leads on doesn't ask for the heads of arenas up to it
pub fill_heads : (layout : List ArenaRegion) (versions : List ℕ) (heads later : List Found) (from to : Filling) (ws : List Waiting)
    → ((i : ℕ) → from.arena < i → slice_get later i ≡ slice_get heads i) → Fill layout versions heads from ws to → Fill layout versions later from ws to
fill_heads layout versions heads later from to [] same fill = fill
fill_heads layout versions heads later from to (w ∷ ws) same fill = (
  fill.0,
  fill.1,
  fill.2,
  subst (λ (f : Filling). IsTrue (fits_in layout versions f w.packed.len)) turned fill.3,
  subst (λ (f : Filling). Fill layout versions later (with_room_taken w.packed.len f) ws to) turned
      (fill_heads layout versions heads later (with_room_taken w.packed.len (turned_to heads w.arena from)) to ws
      (λ i above. same i (omega (arith, above, turned_arena heads w.arena from, fill.0))) fill.4),
)
  where
    turned : turned_to heads w.arena from ≡ turned_to later w.arena from
    turned = ⊎_elim
        (λ (t : ((w.arena == from.arena) ≡ true) × (w.arena ≡ from.arena)).
        ap (λ (b : Bool). cond b from (found_filling heads w.arena)) t.0 ∙ sym (ap (λ (b : Bool). cond b from (found_filling later w.arena)) t.0))
        (λ (t : ((w.arena == from.arena) ≡ false) × (w.arena ≢ from.arena)).
        ap (λ (b : Bool). cond b from (found_filling heads w.arena)) t.0
        ∙ ap (λ (o : Option Found). option_map_or (λ (found : Found). filled_as w.arena found.head) o (record { arena = w.arena; used = 0; clumps = 0 })) (sym (same w.arena (omega (arith, fill.0, t.1))))
        ∙ sym (ap (λ (b : Bool). cond b from (found_filling later w.arena)) t.0))
        (eqb_tells w.arena from.arena)

-- and begins as well in the next arena, where the first block goes there
pub fill_turn : (layout : List ArenaRegion) (versions : List ℕ) (heads : List Found) (from to next : Filling) (ws : List Waiting) → WaitsFor next.arena ws → from.arena + 1 ≡ next.arena
    → next ≡ found_filling heads next.arena → Fill layout versions heads from ws to → Fill layout versions heads next ws to
fill_turn layout versions heads from to next [] waits behind is fill = absurd waits
fill_turn layout versions heads from to next (w ∷ ws) waits behind is fill = (
  omega (arith, waits),
  omega (arith, waits),
  λ less. absurd (omega (arith, waits, less)),
  subst (λ (f : Filling). IsTrue (fits_in layout versions f w.packed.len)) turned fill.3,
  subst (λ (f : Filling). Fill layout versions heads (with_room_taken w.packed.len f) ws to) turned fill.4,
)
  where
    turned : turned_to heads w.arena from ≡ turned_to heads w.arena next
    turned = ⊎_elim
        (λ (t : ((w.arena == from.arena) ≡ true) × (w.arena ≡ from.arena)). absurd (omega (arith, t.1, waits, behind)))
        (λ (t : ((w.arena == from.arena) ≡ false) × (w.arena ≢ from.arena)).
        ap (λ (b : Bool). cond b from (found_filling heads w.arena)) t.0
        ∙ ap (found_filling heads) waits ∙ sym is ∙ sym (turned_same heads w.arena next waits))
        (eqb_tells w.arena from.arena)

-- the log after the last call, where the arena isn't sealed
abbrev pub ended : {D : Type 0} → LogState D → (part : ℕ) → (e : D) → (found : Found) → (b : ArenaState) → (calls : ℕ) → LogState D
ended l part e found b calls = record l {
  disks = set l.disks part e;
  heads = set l.heads l.committing (record found { head = b.head });
  arena = b;
  queue = record { waiting = l.queue.waiting; places = drop (length l.arena.staged) l.queue.places };
  durable = l.durable + length l.arena.staged;
  calls = calls;
}

pub ended_whole : {D : Type 0} (disk : DiskOf D) (l : LogState D) (r : ArenaRegion) (found : Found) (d e : D) (b : ArenaState) (calls : ℕ) → IsWholeLog disk l → EndsArena l.arena b
    → l.arena.next.sealed ≡ false → slice_get l.layout l.committing ≡ Some r → slice_get l.heads l.committing ≡ Some found
    → b.head.used + directory_room b.head.version b.head.clumps ≤ arena_room r.region.len → slice_get l.disks r.part ≡ Some d → disk.size e ≡ disk.size d
    → IsWholeLog disk (ended l r.part e found b calls)
ended_whole disk l r found d e b calls whole ends unsealed here has fit at same = record {
  many_disks = length-set l.disks r.part e ∙ whole.many_disks;
  layout = whole.layout;
  regions = All-weaker (IsOnDisk disk l.disks) (IsOnDisk disk (set l.disks r.part e)) (λ q on. on_disk_set disk l.disks r.part d e q at same on) l.layout whole.regions;
  apart = whole.apart;
  few = whole.few;
  many = length-set l.heads l.committing _ ∙ whole.many;
  heads = λ i q other q_at other_at. ⊎_elim
      (λ (is : i ≡ l.committing).
      let q_is : r ≡ q = same_Some r q (sym here ∙ sym (ap (slice_get l.layout) is) ∙ q_at) in
      let other_is : record found { head = b.head } ≡ other = same_Some _ other (sym new_head ∙ sym (ap (slice_get (set l.heads l.committing (record found { head = b.head }))) is) ∙ other_at) in
      let head : other.head ≡ b.head = ap (λ (f : Found). f.head) (sym other_is) in
      record {
        number = ap (λ (h : ArenaHead). h.number) (head ∙ ends.head) ∙ whole.number ∙ (whole.arena r found here has).number ∙ ap (λ (x : ArenaRegion). x.number) q_is;
        version = subst (λ (h : ArenaHead). IsVersion h.version) (sym (head ∙ ends.head)) (whole.arena r found here has).version;
        last = subst (λ (h : ArenaHead). h.version ≡ 2 → bad_last h.clumps h.used h.last ≡ None) (sym (head ∙ ends.head)) (whole.arena r found here has).last;
        fit = subst (λ (h : ArenaHead). h.used + directory_room h.version h.clumps ≤ arena_room q.region.len) (sym head) (subst (λ (x : ArenaRegion). b.head.used + directory_room b.head.version b.head.clumps ≤ arena_room x.region.len) q_is fit);
      })
      (λ (not_this : i ≢ l.committing). whole.heads i q other q_at (sym (slice_get_set_other l.heads l.committing i (record found { head = b.head }) not_this) ∙ other_at))
      (cases_eq i l.committing);
  versions = versions_kept;
  unsealed = λ i other least other_at. ⊎_elim
      (λ (is : i ≡ l.committing).
      let other_is : record found { head = b.head } ≡ other = same_Some _ other (sym new_head ∙ sym (ap (slice_get (set l.heads l.committing (record found { head = b.head }))) is) ∙ other_at) in
      ap (λ (f : Found). f.head.sealed) (sym other_is) ∙ ap (λ (h : ArenaHead). h.sealed) ends.head ∙ unsealed)
      (λ (not_this : i ≢ l.committing). whole.unsealed i other least (sym (slice_get_set_other l.heads l.committing i (record found { head = b.head }) not_this) ∙ other_at))
      (cases_eq i l.committing);
  base = whole.base;
  committing = whole.committing;
  arena = λ q other q_at other_at.
      let q_is : r ≡ q = same_Some r q (sym here ∙ q_at) in
      let other_is : record found { head = b.head } ≡ other = same_Some _ other (sym new_head ∙ other_at) in
      let old = whole.arena r found here has in
      record {
        len = ends.len ∙ old.len ∙ ap (λ (x : ArenaRegion). x.region.len) q_is;
        number = ends.number ∙ old.number ∙ ap (λ (x : ArenaRegion). x.number) q_is;
        head = ap (λ (f : Found). f.head) other_is;
        counted = ap version_counted (ends.next ∙ sym ends.head ∙ ap (λ (f : Found). f.head) other_is);
        version = subst (λ (h : ArenaHead). IsVersion h.version) (sym ends.next) old.version;
        last = subst (λ (h : ArenaHead). h.version ≡ 2 → bad_last h.clumps h.used h.last ≡ None) (sym ends.next) old.last;
      };
  none = λ past. absurd (omega (arith, past, slice_get_within l.layout l.committing r here));
  number = ap (λ (h : ArenaHead). h.number) ends.next ∙ whole.number ∙ sym ends.number;
  clumps = omega (arith, ap (λ (h : ArenaHead). h.clumps) ends.head, ap (λ (h : ArenaHead). h.clumps) ends.next, ap (λ (ps : List Packed). length ps) ends.staged);
  runs = λ runs. ends.failed;
  some = λ committing none. let off = ends.rest in absurd (cc);
  way = λ sealed. let off : b.next.sealed ≡ false = ap (λ (h : ArenaHead). h.sealed) ends.next ∙ unsealed in absurd (cc);
  queue = subst (λ (h : ArenaHead). Fill l.layout l.versions (set l.heads l.committing (record found { head = b.head })) (filled_as l.committing h) l.queue.waiting l.filling) (sym ends.next)
      (fill_heads l.layout l.versions l.heads (set l.heads l.committing (record found { head = b.head })) (filled_as l.committing l.arena.next) l.filling l.queue.waiting
      (λ i above. slice_get_set_other l.heads l.committing i (record found { head = b.head }) (λ same. omega (arith, above, same))) whole.queue);
  places = omega (arith, whole.places, ap (λ (ps : List Packed). length ps) ends.staged, length-drop (length l.arena.staged) l.queue.places);
  most = omega (arith, whole.most, length-drop (length l.arena.staged) l.queue.places);
  durable = omega (
    arith,
    whole.durable,
    whole.clumps,
    ap (λ (h : ArenaHead). h.clumps) ends.head,
    ap (λ (h : ArenaHead). h.clumps) (whole.arena r found here has).head,
    sum_by-set (λ (f : Found). f.head.clumps) l.heads l.committing (record found { head = b.head }) found (slice_get_within l.heads l.committing found has),
    ap (λ (f : Found). f.head.clumps) (get_or_from_slice_get l.heads l.committing found found has),
  );
}
  where
    new_head : slice_get (set l.heads l.committing (record found { head = b.head })) l.committing ≡ Some (record found { head = b.head })
    new_head = slice_get_set_same l.heads l.committing (record found { head = b.head }) (slice_get_within l.heads l.committing found has)

    versions_kept : l.versions ≡ map (λ (f : Found). version_counted f.head) (set l.heads l.committing (record found { head = b.head }))
    versions_kept = whole.versions
        ∙ sym (map_same (λ (f : Found). version_counted f.head) l.heads l.committing found (record found { head = b.head }) has
        (ap version_counted ends.head ∙ (whole.arena r found here has).counted))

-- what the last call leaves of what an arena holds: what its commit made of it, synced
pub record CommitsIn {D : Type 0} (score_of : List ℕ → List ℕ) (disk : DiskOf D) (b : ArenaState) (region : Region) (next : Content) (e : D) : Type 0 where
  pub sound : IsSoundArena score_of b region next (disk.bytes e) (disk.images e)
  pub settled : IsSettled region (disk.bytes e) (disk.images e)
  pub arena : IsArena score_of region b.number next (disk.bytes e)

-- what is known where the last call was made
pub record IsEnding {D : Type 0} (score_of : List ℕ → List ℕ) (disk : DiskOf D) (l : LogState D)
    (r : ArenaRegion) (found : Found) (d e : D) (b : ArenaState) : Type 0 where
  pub ends : EndsArena l.arena b
  pub has : slice_get l.heads l.committing ≡ Some found
  pub at : IsArenaAt l l.committing r d
  pub changes : ChangesRegion disk r.region d e
  pub fit : b.head.used + directory_room b.head.version b.head.clumps ≤ arena_room r.region.len

-- the blocks with those that were staged
pub committed_next : {D : Type 0} (score_of : List ℕ → List ℕ) (disk : DiskOf D) (l : LogState D) (h : History) (a : Content)
    → (sound : IsSoundLog score_of disk l h) → slice_get sound.contents l.committing ≡ Some a
    → (take (l.durable + length l.arena.staged) h ≡ blocks_from 0 (set sound.contents l.committing (next_content l.arena a)))
    × (drop (l.durable + length l.arena.staged) h ≡ map waiting_block l.queue.waiting) × (l.durable + length l.arena.staged ≤ length h)
committed_next score_of disk l h a sound is = (
  subst (λ (k : ℕ). take (l.durable + k) h ≡ blocks_from 0 (set sound.contents l.committing (next_content l.arena a))) count
      (longer_prefix h l.durable added (map waiting_block l.queue.waiting) inside sound.queued
      ∙ ap (λ (q : History). q ++ added) sound.committed
      ∙ ap (λ (k : ℕ). blocks_from 0 sound.contents ++ map (accepted_in k) (added_by_commit l.arena)) (let z : l.committing ≡ 0 + l.committing = omega arith in z)
      ∙ sym (blocks_set 0 l.committing sound.contents a (next_content l.arena a) (added_by_commit l.arena) is sound.split.behind refl)),
  sym (drop-drop (length l.arena.staged) l.durable h) ∙ ap (drop (length l.arena.staged)) sound.queued ∙ drop_at added (map waiting_block l.queue.waiting) (length l.arena.staged) count,
  omega (arith, sound.front, sound.whole.places),
)
  where
    added : History
    added = map (accepted_in l.committing) (added_by_commit l.arena)

    count : length added ≡ length l.arena.staged
    count = length-map (added_by_commit l.arena) (accepted_in l.committing) ∙ length-map l.arena.staged stored_of

    inside : l.durable ≤ length h
    inside = omega (arith, sound.front)

kept_places : {D : Type 0} (score_of : List ℕ → List ℕ) (disk : DiskOf D) (l : LogState D) (h : History) → IsSoundLog score_of disk l h
    → (i : ℕ) (place : Place) → slice_get (drop (length l.arena.staged) l.queue.places) i ≡ Some place → place_of (setup_of_log l) h (l.durable + length l.arena.staged + i) ≡ Some (spot_of place)
kept_places score_of disk l h sound i place is =
    ap (place_of (setup_of_log l) h) (let z : l.durable + length l.arena.staged + i ≡ l.durable + (length l.arena.staged + i) = omega arith in z)
    ∙ sound.places (length l.arena.staged + i) place (sym (slice_get_drop (length l.arena.staged) i l.queue.places) ∙ is)

-- the log after the last call, where the arena is sealed: the next one is committed in
abbrev pub turned : {D : Type 0} → LogState D → (part : ℕ) → (e : D) → (found : Found) → (b : ArenaState) → (calls len : ℕ) → (next : Found) → LogState D
turned l part e found b calls len next = record (ended l part e found b calls) {
  committing = l.committing + 1;
  arena = fresh_arena len (next.selector % 2) next.head;
}

-- the arena is there for which a block waits
pub next_there : {D : Type 0} (disk : DiskOf D) (l : LogState D) → IsWholeLog disk l → l.arena.next.sealed ≡ true → l.committing + 1 < length l.layout
next_there disk l whole sealed = at l.queue.waiting (whole.way sealed) whole.queue
  where
    at : (ws : List Waiting) → WaitsFor (l.committing + 1) ws → Fill l.layout l.versions l.heads (filled_as l.committing l.arena.next) ws l.filling → l.committing + 1 < length l.layout
    at [] waits fill = absurd waits
    at (w ∷ ws) waits fill =
        let there = fits_within l.layout l.versions (turned_to l.heads w.arena (filled_as l.committing l.arena.next)) w.packed.len fill.3 in
        omega (arith, waits, slice_get_within l.layout _ there.0 there.1, turned_arena l.heads w.arena (filled_as l.committing l.arena.next))

pub turned_whole : {D : Type 0} (disk : DiskOf D) (l : LogState D) (r q : ArenaRegion) (found next : Found) (d e : D) (b : ArenaState) (calls len : ℕ) → IsWholeLog disk l → EndsArena l.arena b
    → l.arena.next.sealed ≡ true → slice_get l.layout l.committing ≡ Some r → slice_get l.heads l.committing ≡ Some found
    → b.head.used + directory_room b.head.version b.head.clumps ≤ arena_room r.region.len → slice_get l.disks r.part ≡ Some d → disk.size e ≡ disk.size d
    → slice_get l.layout (l.committing + 1) ≡ Some q → slice_get l.heads (l.committing + 1) ≡ Some next → len ≡ q.region.len
    → IsWholeLog disk (turned l r.part e found b calls len next)
turned_whole disk l r q found next d e b calls len whole ends sealed here has fit at same next_here next_has len_is = record {
  many_disks = length-set l.disks r.part e ∙ whole.many_disks;
  layout = whole.layout;
  regions = All-weaker (IsOnDisk disk l.disks) (IsOnDisk disk (set l.disks r.part e)) (λ q on. on_disk_set disk l.disks r.part d e q at same on) l.layout whole.regions;
  apart = whole.apart;
  few = whole.few;
  many = length-set l.heads l.committing _ ∙ whole.many;
  heads = λ i q other q_at other_at. ⊎_elim
      (λ (is : i ≡ l.committing).
      let q_is : r ≡ q = same_Some r q (sym here ∙ sym (ap (slice_get l.layout) is) ∙ q_at) in
      let other_is : record found { head = b.head } ≡ other = same_Some _ other (sym new_head ∙ sym (ap (slice_get (set l.heads l.committing (record found { head = b.head }))) is) ∙ other_at) in
      let head : other.head ≡ b.head = ap (λ (f : Found). f.head) (sym other_is) in
      record {
        number = ap (λ (h : ArenaHead). h.number) (head ∙ ends.head) ∙ whole.number ∙ (whole.arena r found here has).number ∙ ap (λ (x : ArenaRegion). x.number) q_is;
        version = subst (λ (h : ArenaHead). IsVersion h.version) (sym (head ∙ ends.head)) (whole.arena r found here has).version;
        last = subst (λ (h : ArenaHead). h.version ≡ 2 → bad_last h.clumps h.used h.last ≡ None) (sym (head ∙ ends.head)) (whole.arena r found here has).last;
        fit = subst (λ (h : ArenaHead). h.used + directory_room h.version h.clumps ≤ arena_room q.region.len) (sym head) (subst (λ (x : ArenaRegion). b.head.used + directory_room b.head.version b.head.clumps ≤ arena_room x.region.len) q_is fit);
      })
      (λ (not_this : i ≢ l.committing). whole.heads i q other q_at (sym (slice_get_set_other l.heads l.committing i (record found { head = b.head }) not_this) ∙ other_at))
      (cases_eq i l.committing);
  versions = versions_kept;
  unsealed = λ i other least other_at.
      whole.unsealed i other (omega (arith, least)) (sym (slice_get_set_other l.heads l.committing i (record found { head = b.head }) (λ same. omega (arith, least, same))) ∙ other_at);
  base = omega (arith, whole.base);
  committing = omega (arith, next_there disk l whole sealed);
  arena = λ s other s_at other_at.
      let s_is : q ≡ s = same_Some q s (sym next_here ∙ s_at) in
      let other_is : next ≡ other = same_Some next other (sym next_has ∙ sym (slice_get_set_other l.heads l.committing (l.committing + 1) (record found { head = b.head }) (λ same. omega (arith, same))) ∙ other_at) in
      record {
        len = len_is ∙ ap (λ (x : ArenaRegion). x.region.len) s_is;
        number = (whole.heads (l.committing + 1) q next next_here next_has).number ∙ ap (λ (x : ArenaRegion). x.number) s_is;
        head = ap (λ (f : Found). f.head) other_is;
        counted = ap (λ (f : Found). version_counted f.head) other_is;
        version = (whole.heads (l.committing + 1) q next next_here next_has).version;
        last = (whole.heads (l.committing + 1) q next next_here next_has).last;
      };
  none = λ past. absurd (omega (arith, past, next_there disk l whole sealed));
  number = refl;
  clumps = omega arith;
  runs = λ runs. refl;
  some = λ committing none. absurd (cc);
  way = λ is_sealed. let off = whole.unsealed (l.committing + 1) next (omega arith) next_has in absurd (cc);
  queue = fill_turn l.layout l.versions (set l.heads l.committing (record found { head = b.head })) (filled_as l.committing l.arena.next) l.filling (filled_as (l.committing + 1) next.head) l.queue.waiting (whole.way sealed) refl
      (sym (ap (λ (o : Option Found). option_map_or (λ (f : Found). filled_as (l.committing + 1) f.head) o (record { arena = l.committing + 1; used = 0; clumps = 0 }))
      (slice_get_set_other l.heads l.committing (l.committing + 1) (record found { head = b.head }) (λ same. omega (arith, same)) ∙ next_has)))
      (fill_heads l.layout l.versions l.heads (set l.heads l.committing (record found { head = b.head })) (filled_as l.committing l.arena.next) l.filling l.queue.waiting
      (λ i above. slice_get_set_other l.heads l.committing i (record found { head = b.head }) (λ same. omega (arith, above, same))) whole.queue);
  places = omega (arith, whole.places, length-drop (length l.arena.staged) l.queue.places);
  most = omega (arith, whole.most, length-drop (length l.arena.staged) l.queue.places);
  durable = omega (
    arith,
    whole.durable,
    whole.clumps,
    ap (λ (h : ArenaHead). h.clumps) ends.head,
    ap (λ (h : ArenaHead). h.clumps) (whole.arena r found here has).head,
    sum_by-set (λ (f : Found). f.head.clumps) l.heads l.committing (record found { head = b.head }) found (slice_get_within l.heads l.committing found has),
    ap (λ (f : Found). f.head.clumps) (get_or_from_slice_get l.heads l.committing found found has),
  );
}
  where
    new_head : slice_get (set l.heads l.committing (record found { head = b.head })) l.committing ≡ Some (record found { head = b.head })
    new_head = slice_get_set_same l.heads l.committing (record found { head = b.head }) (slice_get_within l.heads l.committing found has)

    versions_kept : l.versions ≡ map (λ (f : Found). version_counted f.head) (set l.heads l.committing (record found { head = b.head }))
    versions_kept = whole.versions
        ∙ sym (map_same (λ (f : Found). version_counted f.head) l.heads l.committing found (record found { head = b.head }) has
        (ap version_counted ends.head ∙ (whole.arena r found here has).counted))

-- ---- the disks after the last call

module _ {D : Type 0} (score_of : List ℕ → List ℕ) (disk : DiskOf D) (l : LogState D) (h : History) (r : ArenaRegion) (found : Found) (d e : D) (b : ArenaState)
    (sound : IsSoundLog score_of disk l h) (ending : IsEnding score_of disk l r found d e b) where
  -- an arena that isn't committed in stays what it is
  pub kept_others : (k : LogState D) (next : Content) → k.layout ≡ l.layout → k.disks ≡ set l.disks r.part e
      → (i : ℕ) (q : ArenaRegion) (device : D) (c : Content) → i ≢ l.committing → IsArenaAt k i q device → slice_get (set sound.contents l.committing next) i ≡ Some c
      → IsSettled q.region (disk.bytes device) (disk.images device) × IsArena score_of q.region q.number c (disk.bytes device)
  kept_others k next layout disks i q device c not_this there_at content =
      let was = at_before l k i q device r.part e layout disks there_at in
      let rest = sound.others i q was.0 c not_this was.1 (sym (slice_get_set_other sound.contents l.committing i next not_this) ∙ content) in
      let stay = others_stay score_of disk l r d e ending.at ending.changes sound.whole i q was.0 device not_this was.1 was.2 in
      (stay.settled rest.0, stay.arena q.number c rest.1)

  -- the heads are those of what is committed
  pub kept_heads : (next : Content) → l.committing < length sound.contents → b.head ≡ arena_head score_of b.number next
      → (i : ℕ) (q : ArenaRegion) (f : Found) (c : Content) → slice_get l.layout i ≡ Some q → slice_get (set l.heads l.committing (record found { head = b.head })) i ≡ Some f
      → slice_get (set sound.contents l.committing next) i ≡ Some c → f.head ≡ arena_head score_of q.number c
  kept_heads next within head i q f c q_at f_at c_at = ⊎_elim
      (λ (is : i ≡ l.committing).
      let q_is : r ≡ q = same_Some r q (sym ending.at.arena ∙ sym (ap (slice_get l.layout) is) ∙ q_at) in
      let f_is : record found { head = b.head } ≡ f = same_Some _ f (sym (slice_get_set_same l.heads l.committing (record found { head = b.head }) (slice_get_within l.heads l.committing found ending.has))
      ∙ sym (ap (slice_get (set l.heads l.committing (record found { head = b.head }))) is) ∙ f_at) in
      let c_is : next ≡ c = same_Some next c (sym (slice_get_set_same sound.contents l.committing next within) ∙ sym (ap (slice_get (set sound.contents l.committing next)) is) ∙ c_at) in
      let number : b.number ≡ q.number = ending.ends.number ∙ number_is disk l r sound.whole ending.at.arena ∙ ap (λ (x : ArenaRegion). x.number) q_is in
      ap (λ (x : Found). x.head) (sym f_is) ∙ head ∙ ap (λ (n : ℕ). arena_head score_of n next) number ∙ ap (arena_head score_of q.number) c_is)
      (λ (not_this : i ≢ l.committing). sound.heads i q f c q_at (sym (slice_get_set_other l.heads l.committing i (record found { head = b.head }) not_this) ∙ f_at)
      (sym (slice_get_set_other sound.contents l.committing i next not_this) ∙ c_at))
      (cases_eq i l.committing)

  pub kept_selectors : (k : LogState D) → k.layout ≡ l.layout → k.disks ≡ set l.disks r.part e
      → (i : ℕ) (q : ArenaRegion) (device : D) (f : Found) → l.committing < i → IsArenaAt k i q device → slice_get (set l.heads l.committing (record found { head = b.head })) i ≡ Some f
      → f.selector % 2 ≡ named_number q.region FRAME_LEN (disk.bytes device)
  kept_selectors k layout disks i q device f behind there_at f_at =
      let not_this : i ≢ l.committing = λ same. omega (arith, behind, same) in
      let was = at_before l k i q device r.part e layout disks there_at in
      let stay = others_stay score_of disk l r d e ending.at ending.changes sound.whole i q was.0 device not_this was.1 was.2 in
      sound.selectors i q was.0 f behind was.1 (sym (slice_get_set_other l.heads l.committing i (record found { head = b.head }) not_this) ∙ f_at) ∙ sym stay.selector

  -- the disks stay sound by the last call, where it doesn't seal
  pub ended_sound : (calls : ℕ) (a : Content) → l.arena.next.sealed ≡ false → slice_get sound.contents l.committing ≡ Some a
      → IsSoundArena score_of b r.region (next_content l.arena a) (disk.bytes e) (disk.images e) → IsSoundLog score_of disk (ended l r.part e found b calls) h
  ended_sound calls a unsealed content stays = record {
    whole = ended_whole disk l r found d e b calls sound.whole ending.ends unsealed ending.at.arena ending.has ending.fit ending.at.disk_is ending.changes.size_is;
    contents = set sound.contents l.committing next;
    many = length-set sound.contents l.committing next ∙ sound.many;
    split = split_set l.committing sound.contents next within sound.split unsealed;
    current = λ q device c there_at c_at.
        let r_is : r ≡ q = same_Some r q (sym ending.at.arena ∙ there_at.arena) in
        let part : q.part ≡ r.part = ap (λ (x : ArenaRegion). x.part) (sym r_is) in
        let disk_is : e ≡ device = same_Some e device (sym (slice_get_set_same l.disks r.part e (slice_get_within l.disks r.part d ending.at.disk_is)) ∙ sym (ap (slice_get (set l.disks r.part e)) part) ∙ there_at.disk_is) in
        let c_is : next ≡ c = same_Some next c (sym (slice_get_set_same sound.contents l.committing next within) ∙ c_at) in
        subst (λ (x : Content). IsSoundArena score_of b q.region x (disk.bytes device) (disk.images device)) c_is
        (subst (λ (x : ArenaRegion). IsSoundArena score_of b x.region next (disk.bytes device) (disk.images device)) r_is (subst (λ (x : D). IsSoundArena score_of b r.region next (disk.bytes x) (disk.images x)) disk_is stays));
    others = λ i q device c not_this there_at c_at. kept_others _ next refl refl i q device c not_this there_at c_at;
    heads = kept_heads next within stays.head;
    selectors = λ i q device f behind there_at f_at. kept_selectors _ refl refl i q device f behind there_at f_at;
    committed = blocks.0;
    queued = blocks.1 ∙ sym (ap (λ (ps : List Packed). map (accepted_in l.committing) (map stored_of ps) ++ map waiting_block l.queue.waiting) ending.ends.staged);
    front = omega (arith, sound.front, sound.whole.places, length-drop (length l.arena.staged) l.queue.places);
    packed = sound.packed;
    places = kept_places score_of disk l h sound;
    filling = sound.filling;
    last = sound.last;
    arenas = sound.arenas;
  }
    where
      next : Content
      next = next_content l.arena a

      within : l.committing < length sound.contents
      within = slice_get_within sound.contents l.committing a content

      blocks : (take (l.durable + length l.arena.staged) h ≡ blocks_from 0 (set sound.contents l.committing next)) × (drop (l.durable + length l.arena.staged) h ≡ map waiting_block l.queue.waiting) × (l.durable + length l.arena.staged ≤ length h)
      blocks = committed_next score_of disk l h a sound content

  -- and the disks sound
  pub turned_sound : (q : ArenaRegion) (next_found : Found) (calls len : ℕ) (a : Content) → l.arena.next.sealed ≡ true → slice_get sound.contents l.committing ≡ Some a
      → slice_get l.layout (l.committing + 1) ≡ Some q → slice_get l.heads (l.committing + 1) ≡ Some next_found → len ≡ q.region.len
      → CommitsIn score_of disk b r.region (next_content l.arena a) e → IsSoundLog score_of disk (turned l r.part e found b calls len next_found) h
  turned_sound q next_found calls len a sealed content next_here next_has len_is commits = record {
    whole = whole;
    contents = cs;
    many = length-set sound.contents l.committing next ∙ sound.many;
    split = split_sealed l.committing sound.contents next within sound.split sealed;
    current = λ s device c there_at c_at.
        let s_is : q ≡ s = same_Some q s (sym next_here ∙ there_at.arena) in
        let not_this : l.committing + 1 ≢ l.committing = λ same. omega (arith, same) in
        let rests = kept_others k next refl refl (l.committing + 1) s device c not_this (record { arena = there_at.arena; disk_is = there_at.disk_is }) c_at in
        let selector = kept_selectors k refl refl (l.committing + 1) s device next_found (omega arith) (record { arena = there_at.arena; disk_is = there_at.disk_is }) later_next in
        let head : next_found.head ≡ arena_head score_of s.number c = kept_heads next within commits.sound.head (l.committing + 1) s next_found c there_at.arena later_next c_at in
        let untouched = at_drop IsUntouched (l.committing + 1) sound.contents (l.committing + 1) c sound.split.behind (omega arith) (sym (slice_get_set_other sound.contents l.committing (l.committing + 1) next not_this) ∙ c_at) in
        let empty_head : next_found.head ≡ arena_head score_of s.number (record { version = c.version; sealed = c.sealed; stored = [] }) =
        head ∙ ap (λ (stored : List Stored). arena_head score_of s.number (record { version = c.version; sealed = c.sealed; stored = stored })) untouched.1 in
        let on = at_slice (IsOnDisk disk (set l.disks r.part e)) l.layout (l.committing + 1) s whole.regions there_at.arena in
        let disk_is : on.device ≡ device = same_Some on.device device (sym on.has ∙ there_at.disk_is) in
        let stand : CanStand s.number s.region.len next_found.head = record {
          version = (sound.whole.heads (l.committing + 1) q next_found next_here next_has).version;
          number_is = ap (λ (h : ArenaHead). h.number) empty_head;
          chain = ap (λ (h : ArenaHead). length h.chain.0) empty_head;
          fit = omega (arith, (sound.whole.heads (l.committing + 1) q next_found next_here next_has).fit, ap (λ (x : ArenaRegion). x.region.len) s_is);
          last = (sound.whole.heads (l.committing + 1) q next_found next_here next_has).last;
          no_last = λ one. ap (λ (h : ArenaHead). h.last) empty_head ∙ no_sectors (c.version == 2);
        } in
        subst (λ (n : ℕ). IsSoundArena score_of (fresh_arena n (next_found.selector % 2) next_found.head) s.region c (disk.bytes device) (disk.images device))
        (sym (ap (λ (x : ArenaRegion). x.region.len) s_is) ∙ sym len_is)
        (fresh_sound score_of s.region (disk.size device) s.number (next_found.selector % 2) c next_found.head (disk.bytes device) (disk.images device)
        (subst (λ (x : D). IsRegion s.region (disk.size x)) disk_is on.region) rests.0 rests.1 selector head stand);
    others = λ i s device c not_next there_at c_at. ⊎_elim
        (λ (is : i ≡ l.committing).
        let r_is : r ≡ s = same_Some r s (sym ending.at.arena ∙ sym (ap (slice_get l.layout) is) ∙ there_at.arena) in
        let part : s.part ≡ r.part = ap (λ (x : ArenaRegion). x.part) (sym r_is) in
        let disk_is : e ≡ device = same_Some e device (sym (slice_get_set_same l.disks r.part e (slice_get_within l.disks r.part d ending.at.disk_is)) ∙ sym (ap (slice_get (set l.disks r.part e)) part) ∙ there_at.disk_is) in
        let c_is : next ≡ c = same_Some next c (sym (slice_get_set_same sound.contents l.committing next within) ∙ sym (ap (slice_get cs) is) ∙ c_at) in
        let number : b.number ≡ s.number = ending.ends.number ∙ number_is disk l r sound.whole ending.at.arena ∙ ap (λ (x : ArenaRegion). x.number) r_is in
        subst (λ (x : ArenaRegion). IsSettled x.region (disk.bytes device) (disk.images device) × IsArena score_of x.region s.number c (disk.bytes device)) r_is
        (subst (λ (x : D). IsSettled r.region (disk.bytes x) (disk.images x) × IsArena score_of r.region s.number c (disk.bytes x)) disk_is
        (commits.settled, subst (λ (n : ℕ). IsArena score_of r.region n c (disk.bytes e)) number (subst (λ (x : Content). IsArena score_of r.region b.number x (disk.bytes e)) c_is commits.arena))))
        (λ (not_this : i ≢ l.committing). kept_others k next refl refl i s device c not_this there_at c_at)
        (cases_eq i l.committing);
    heads = kept_heads next within commits.sound.head;
    selectors = λ i s device f behind there_at f_at. kept_selectors k refl refl i s device f (omega (arith, behind)) there_at f_at;
    committed = blocks.0;
    queued = blocks.1;
    front = omega (arith, sound.front, sound.whole.places, length-drop (length l.arena.staged) l.queue.places);
    packed = sound.packed;
    places = kept_places score_of disk l h sound;
    filling = sound.filling;
    last = sound.last;
    arenas = sound.arenas;
  }
    where
      no_sectors : (b : Bool) → ◌≡◌ {A = ℕ} (cond b 0 0) 0
      no_sectors true = refl
      no_sectors false = refl

      k : LogState D
      k = turned l r.part e found b calls len next_found

      next : Content
      next = next_content l.arena a

      cs : List Content
      cs = set sound.contents l.committing next

      whole : IsWholeLog disk k
      whole = turned_whole disk l r q found next_found d e b calls len sound.whole ending.ends sealed ending.at.arena ending.has ending.fit ending.at.disk_is ending.changes.size_is next_here next_has len_is

      within : l.committing < length sound.contents
      within = slice_get_within sound.contents l.committing a content

      later_next : slice_get (set l.heads l.committing (record found { head = b.head })) (l.committing + 1) ≡ Some next_found
      later_next = slice_get_set_other l.heads l.committing (l.committing + 1) (record found { head = b.head }) (λ same. omega (arith, same)) ∙ next_has

      blocks : (take (l.durable + length l.arena.staged) h ≡ blocks_from 0 cs) × (drop (l.durable + length l.arena.staged) h ≡ map waiting_block l.queue.waiting) × (l.durable + length l.arena.staged ≤ length h)
      blocks = committed_next score_of disk l h a sound content
