-- A block that is appended.
use Rattle.std.proofs.Common.{◌≡◌, ◌≢◌, ◌⊎◌, ⊎_elim, ℕ, ◌+◌, ◌-◌, ◌<◌, ◌≤◌, ◌==◌, ◌&&◌, Bool, true, false, cond, List, [], ◌∷◌, ◌++◌, length, get_or, map, refl, sym, ◌∙◌, ap, subst, arith, Some, None, Option, option_map, inl, inr, append_assoc, length-append}
use Rattle.std.specs.Prelude.{All, slice_get, slice_index, IsTrue, sum_by, nat_le, is_some, filter, if◌then◌else◌}
use Rattle.std.proofs.Math.Dec.{leb}
use Rattle.std.proofs.lemmas.Bool.Decides.{eqb_tells, leb_tells, Decides-eqb}
use Rattle.std.proofs.lemmas.List.{map-append, length-map, take-append-le, drop-append-le, length_push}
use Rattle.std.proofs.lemmas.List.Elements.{All-push, All-head, All-tail, All-weaker}
use Rattle.std.proofs.lemmas.List.Sums.{sum_by_push}
use Rattle.std.proofs.lemmas.Option.{slice_get_within, slice_get_cases, same_Some}
use Rattle.vt_base.specs.declared.place.Place.{Place}
use Rattle.vt_disk.specs.Members.{DiskOf}
use Rattle.vt_clump.specs.declared.packed.Packed.{Packed}
use Rattle.vt_clump.specs.Clumps.{IsPacked, stored_of}
use Rattle.vt_model.specs.declared.TheConstants.{ARENA_HEAD_LEN, WRITTEN_VERSION}
use Rattle.vt_model.specs.History.{Accepted, History}
use Rattle.vt_model.specs.Places.{clump_len_in, closes, directory_len_in, fits, takes, lengths_in, Spot, last_arena, next_arena, place_of, offset_behind}
use Rattle.vt_model.proofs.Adding.{lengths_in-this}
use Rattle.vt_model.proofs.Prefixes.{lengths_in-append}
use Rattle.vt_model.proofs.Room.{takes_is}
use Rattle.vt_model.proofs.Spots.{place_of-append, place_of-push}
use Rattle.vt_clump.specs.Spelling.{Stored}
use Rattle.vt_arena.specs.declared.head.ArenaHead.{ArenaHead}
use Rattle.vt_arena.specs.declared.head.Found.{Found}
use Rattle.vt_part.specs.declared.layout.ArenaRegion.{ArenaRegion}
use Rattle.vt_arena.specs.Arena.{added_by_commit, version_counted}
use Rattle.vt_arena.specs.Places.{block_room, has_room}
use Rattle.vt_arena.specs.Layout.{arena_head}
use Rattle.vt_log.specs.declared.filling.Filling.{Filling}
use Rattle.vt_log.specs.declared.queue.Waiting.{Waiting}
use Rattle.vt_log.specs.Log.{LogState, queued, setup_of_log, can_close, found_filling, fits_in, next_filling, has_next, with_room_taken}
use Rattle.vt_log.specs.Logs.{accepted_in, IsUntouched}
use Rattle.vt_log.specs.Queue.{WaitsFor, with_waiting_block, waiting_block, spot_of}
use Rattle.vt_log.specs.Sound.{IsFilledBy, IsSoundLog}
use Rattle.vt_log.specs.Whole.{IsWholeLog, turned_to}
use Rattle.vt_log.proofs.Lists.{slice_get_other, at_drop, slice_get_left, slice_get_right}
use Rattle.vt_arena.proofs.Stage.{both}
use Rattle.vt_log.proofs.Fill.{found_arena, fill_push, fill_arena, fits_version}
use Rattle.vt_log.proofs.Versions.{version_there}

-- the log with one more block
abbrev pub with_appended : {D : Type 0} → Packed → Place → Filling → LogState D → LogState D
with_appended packed place f l = record l {
  queue = with_waiting_block (record { arena = place.arena; packed = packed }) place l.queue;
  filling = with_room_taken packed.len f;
}

-- the arena that is found is turned to, and has room
pub record IsNextFilling {D : Type 0} (l : LogState D) (n : ℕ) (f : Filling) : Type 0 where
  pub turned : f ≡ turned_to l.heads f.arena l.filling
  pub least : l.filling.arena ≤ f.arena
  pub most : f.arena ≤ l.filling.arena + 1
  pub shut : l.filling.arena < f.arena → IsTrue (can_close l.versions l.filling.arena)
  pub fit : IsTrue (fits_in l.layout l.versions f n)
  pub which : (f ≡ l.filling) ⊎ (f ≡ found_filling l.heads (l.filling.arena + 1))

pub next_is : {D : Type 0} (l : LogState D) (n : ℕ) (f : Filling) → next_filling l n ≡ Some f → IsNextFilling l n f
next_is l n f is = at (fits_in l.layout l.versions l.filling n) refl (can_close l.versions l.filling.arena && fits_in l.layout l.versions next n) refl is
  where
    next : Filling
    next = found_filling l.heads (l.filling.arena + 1)

    at : (b : Bool) → fits_in l.layout l.versions l.filling n ≡ b → (d : Bool) → (can_close l.versions l.filling.arena && fits_in l.layout l.versions next n) ≡ d
        → cond b (Some l.filling) (cond d (Some next) None) ≡ Some f → IsNextFilling l n f
    at true here d there e =
        let same : l.filling ≡ f = cc in
        let arena : f.arena ≡ l.filling.arena = ap (λ (g : Filling). g.arena) (sym same) in
        record {
          turned = sym same ∙ sym (ap (λ (b : Bool). cond b l.filling (found_filling l.heads f.arena)) (tells f.arena arena));
          least = omega (arith, arena);
          most = omega (arith, arena);
          shut = λ less. absurd (omega (arith, less, arena));
          fit = subst (λ (g : Filling). fits_in l.layout l.versions g n ≡ true) same here;
          which = inl (sym same);
        }
      where
        tells : (a : ℕ) → a ≡ l.filling.arena → (a == l.filling.arena) ≡ true
        tells a e = ⊎_elim (λ (t : ((a == l.filling.arena) ≡ true) × (a ≡ l.filling.arena)). t.0)
            (λ (t : ((a == l.filling.arena) ≡ false) × (a ≢ l.filling.arena)). absurd (t.1 e)) (eqb_tells a l.filling.arena)
    at false here true there e =
        let same : next ≡ f = cc in
        let tests = both (can_close l.versions l.filling.arena) (fits_in l.layout l.versions next n) there in
        let arena : f.arena ≡ l.filling.arena + 1 = ap (λ (g : Filling). g.arena) (sym same) ∙ found_arena l.heads (l.filling.arena + 1) in
        record {
          turned = sym same ∙ ap (found_filling l.heads) (sym arena) ∙ sym (ap (λ (b : Bool). cond b l.filling (found_filling l.heads f.arena)) (tells f.arena arena));
          least = omega (arith, arena);
          most = omega (arith, arena);
          shut = λ less. tests.0;
          fit = subst (λ (g : Filling). fits_in l.layout l.versions g n ≡ true) same tests.1;
          which = inr (sym same);
        }
      where
        tells : (a : ℕ) → a ≡ l.filling.arena + 1 → (a == l.filling.arena) ≡ false
        tells a e = ⊎_elim (λ (t : ((a == l.filling.arena) ≡ true) × (a ≡ l.filling.arena)). absurd (omega (arith, t.1, e)))
            (λ (t : ((a == l.filling.arena) ≡ false) × (a ≢ l.filling.arena)). t.0) (eqb_tells a l.filling.arena)
    at false here false there e = absurd (cc)

-- a log in memory stays whole
pub append_whole : {D : Type 0} (disk : DiskOf D) (l : LogState D) (packed : Packed) (place : Place) (f : Filling) → IsWholeLog disk l
    → queued l < 64 → next_filling l packed.len ≡ Some f → place.arena ≡ f.arena → IsWholeLog disk (with_appended packed place f l)
append_whole disk l packed place f whole room is arena = record {
  many_disks = whole.many_disks;
  layout = whole.layout;
  regions = whole.regions;
  apart = whole.apart;
  few = whole.few;
  many = whole.many;
  heads = whole.heads;
  versions = whole.versions;
  unsealed = whole.unsealed;
  base = whole.base;
  committing = whole.committing;
  arena = whole.arena;
  none = whole.none;
  number = whole.number;
  clumps = whole.clumps;
  runs = whole.runs;
  some = whole.some;
  way = λ sealed. waits l.queue.waiting (whole.way sealed);
  queue = fill_push l.layout l.versions l.heads _ l.filling f l.queue.waiting w whole.queue
      (next.turned ∙ ap (λ (a : ℕ). turned_to l.heads a l.filling) (sym arena)) (omega (arith, next.least, arena)) (omega (arith, next.most, arena)) (λ less. next.shut (omega (arith, less, arena))) next.fit;
  places = length_push l.queue.places place ∙ omega (arith, whole.places, length_push l.queue.waiting w);
  most = omega (arith, room, length_push l.queue.places place);
  durable = whole.durable;
}
  where
    w : Waiting
    w = record { arena = place.arena; packed = packed }

    next : IsNextFilling l packed.len f
    next = next_is l packed.len f is

    waits : (ws : List Waiting) → WaitsFor (l.committing + 1) ws → WaitsFor (l.committing + 1) (ws ++ w ∷ [])
    waits [] h = absurd h
    waits (v ∷ ws) h = h

last_push : (a : ℕ) (h : History) (e : Accepted) → last_arena a (h ++ e ∷ []) ≡ e.arena
last_push a [] e = refl
last_push a (x ∷ h) e = last_push x.arena h e

-- no block is in an arena that all blocks' arenas come before
pub lengths_none : (a : ℕ) (h : History) → All (λ e. e.arena < a) h → lengths_in a h ≡ []
lengths_none a [] all = refl
lengths_none a (e ∷ h) all =
    let less : e.arena < a = All-head (λ (e : Accepted). e.arena < a) e h all in
    let rest : List Accepted = filter (λ (e : Accepted). e.arena == a) h in
    let other : (e.arena == a) ≡ false = ⊎_elim (λ (t : ((e.arena == a) ≡ true) × (e.arena ≡ a)). absurd (omega (arith, t.1, less)))
    (λ (t : ((e.arena == a) ≡ false) × (e.arena ≢ a)). t.0) (eqb_tells e.arena a) in
    ap (λ (b : Bool). map (λ (e : Accepted). length e.block.bytes) (cond b (e ∷ rest) rest)) other
    ∙ lengths_none a h (All-tail (λ (e : Accepted). e.arena < a) e h all)

-- the model's test is the log's
pub fits_same : {D : Type 0} (l : LogState D) (f : Filling) (lengths : List ℕ) (n : ℕ) → IsFilledBy (slice_index l.versions f.arena) lengths f
    → fits_in l.layout l.versions f n ≡ takes (setup_of_log l) f.arena (lengths ++ n ∷ [])
fits_same l f lengths n filled = by (version == WRITTEN_VERSION) refl
  where
    version : ℕ
    version = slice_index l.versions f.arena

    all : List ℕ
    all = lengths ++ n ∷ []

    room : ℕ
    room = slice_index (setup_of_log l).arenas f.arena - ARENA_HEAD_LEN

    by : (b : Bool) → (version == WRITTEN_VERSION) ≡ b
        → (b && has_room WRITTEN_VERSION (slice_index (setup_of_log l).arenas f.arena) f.used f.clumps n) ≡ (b && fits (setup_of_log l) f.arena all)
    by false is = refl
    by true is =
        let written : version ≡ WRITTEN_VERSION = (Decides-eqb version WRITTEN_VERSION).0 is in
        let used : f.used ≡ sum_by (clump_len_in WRITTEN_VERSION) lengths = filled.used ∙ ap (λ (v : ℕ). sum_by (clump_len_in v) lengths) written in
        let count : f.clumps + 1 ≡ length all = omega (arith, filled.clumps, length-append lengths (n ∷ [])) in
        (λ i. nat_le (used i + clump_len_in WRITTEN_VERSION n + directory_len_in WRITTEN_VERSION (count i)) room)
        ∙ ap (λ (k : ℕ). nat_le (k + directory_len_in WRITTEN_VERSION (length all)) room) (sym (sum_by_push (clump_len_in WRITTEN_VERSION) lengths n))
        ∙ ap (λ (v : ℕ). nat_le (sum_by (clump_len_in v) all + directory_len_in v (length all)) room) (sym written)

-- ---- where disks are sound for a history

module _ {D : Type 0} (score_of : List ℕ → List ℕ) (disk : DiskOf D) (l : LogState D) (h : History) (sound : IsSoundLog score_of disk l h) where
  -- the next arena is untouched
  pub found_empty : (version i : ℕ) → l.committing < i → IsFilledBy version [] (found_filling l.heads i)
  found_empty version i behind = ⊎_elim
      (λ (it : (x : Found) × (i < length l.heads) × (slice_get l.heads i ≡ Some x) × (get_or l.heads i x ≡ x)).
      let r = slice_get_other l.layout l.heads i it.0 sound.whole.many it.2 in
      let a = slice_get_other sound.contents l.layout i r.0 (sym sound.many) r.1 in
      let untouched = at_drop IsUntouched (l.committing + 1) sound.contents i a.0 sound.split.behind (omega (arith, behind)) a.1 in
      let head = sound.heads i r.0 it.0 a.0 r.1 it.2 a.1 in
      let none : arena_head score_of r.0.number a.0 ≡ arena_head score_of r.0.number (record { version = a.0.version; sealed = a.0.sealed; stored = [] }) =
      ap (λ (stored : List Stored). arena_head score_of r.0.number (record { version = a.0.version; sealed = a.0.sealed; stored = stored })) untouched.1 in
      record {
        used = rw it.2 (ap (λ (it : ArenaHead). it.used) (head ∙ none));
        clumps = rw it.2 (ap (λ (it : ArenaHead). it.clumps) (head ∙ none));
      })
      (λ (past : (length l.heads ≤ i) × (slice_get l.heads i ≡ None)). record { used = rw past.1; clumps = rw past.1 })
      (slice_get_cases l.heads i).1

  -- it counts as one of the version that is written
  behind_version : (i : ℕ) → l.committing < i → i < length l.layout → slice_index l.versions i ≡ WRITTEN_VERSION
  behind_version i behind within = ⊎_elim
      (λ (it : (x : Found) × (i < length l.heads) × (slice_get l.heads i ≡ Some x) × (get_or l.heads i x ≡ x)).
      let r = slice_get_other l.layout l.heads i it.0 sound.whole.many it.2 in
      let a = slice_get_other sound.contents l.layout i r.0 (sym sound.many) r.1 in
      let untouched = at_drop IsUntouched (l.committing + 1) sound.contents i a.0 sound.split.behind (omega (arith, behind)) a.1 in
      version_there disk l sound.whole i it.0 it.2
      ∙ ap version_counted (sound.heads i r.0 it.0 a.0 r.1 it.2 a.1)
      ∙ ap (λ (stored : List Stored). if length stored == 0 then WRITTEN_VERSION else a.0.version) untouched.1)
      (λ (past : (length l.heads ≤ i) × (slice_get l.heads i ≡ None)). absurd (omega (arith, past.0, within, sound.whole.many)))
      (slice_get_cases l.heads i).1

  -- what fills the next arena is what the history has there
  pub next_filled : (n : ℕ) (f : Filling) → IsNextFilling l n f → IsFilledBy (slice_index l.versions f.arena) (lengths_in f.arena h) f
  next_filled n f next = ⊎_elim
      (λ (here : f ≡ l.filling).
      subst (λ (g : Filling). IsFilledBy (slice_index l.versions g.arena) (lengths_in g.arena h) g) (sym here) sound.filling)
      (λ (there : f ≡ found_filling l.heads (l.filling.arena + 1)).
      let arena : f.arena ≡ l.filling.arena + 1 = ap (λ (g : Filling). g.arena) there ∙ found_arena l.heads (l.filling.arena + 1) in
      let below = fill_arena l.layout l.versions l.heads _ l.filling l.queue.waiting sound.whole.queue in
      let none : lengths_in f.arena h ≡ [] = lengths_none f.arena h (All-weaker (λ (e : Accepted). e.arena ≤ l.filling.arena) (λ (e : Accepted). e.arena < f.arena)
      (λ e least. omega (arith, least, arena)) h sound.arenas) in
      subst (λ (ls : List ℕ). IsFilledBy (slice_index l.versions f.arena) ls f) (sym none)
      (subst (λ (g : Filling). IsFilledBy (slice_index l.versions f.arena) [] g) (sym there) (found_empty (slice_index l.versions f.arena) (l.filling.arena + 1) (omega (arith, below.0)))))
      next.which

  -- the next arena of the model is the one that is found
  pub next_arena_is : (n : ℕ) → next_arena (setup_of_log l) h n ≡ option_map (λ f. f.arena) (next_filling l n)
  next_arena_is n =
      let a = l.filling.arena in
      let c = setup_of_log l in
      let next : Filling = found_filling l.heads (a + 1) in
      let below = fill_arena l.layout l.versions l.heads _ l.filling l.queue.waiting sound.whole.queue in
      let here = fits_same l l.filling (lengths_in a h) n sound.filling in
      let there : fits_in l.layout l.versions next n ≡ fits c (a + 1) (n ∷ []) =
      fits_same l next [] n (found_empty (slice_index l.versions next.arena) (a + 1) (omega (arith, below.0)))
      ∙ ap (λ (k : ℕ). takes c k (n ∷ [])) (found_arena l.heads (a + 1))
      ∙ takes_is c (a + 1) [] n (λ within. behind_version (a + 1) (omega (arith, below.0)) (omega (arith, within, length-map l.layout (λ (r : ArenaRegion). r.region.len)))) in
      let start : next_arena c h n ≡ cond (takes c a (lengths_in a h ++ n ∷ [])) (Some a) (cond (closes c a && fits c (a + 1) (n ∷ [])) (Some (a + 1)) None) =
      ap (λ (k : ℕ). cond (takes c k (lengths_in k h ++ n ∷ [])) (Some k) (cond (closes c k && fits c (k + 1) (n ∷ [])) (Some (k + 1)) None)) (sym sound.last) in
      start
      ∙ ap (λ (b : Bool). cond b (Some a) (cond (closes c a && fits c (a + 1) (n ∷ [])) (Some (a + 1)) None)) (sym here)
      ∙ ap (λ (b : Bool). cond (fits_in l.layout l.versions l.filling n) (Some a) (cond (can_close l.versions a && b) (Some (a + 1)) None)) (sym there)
      ∙ ap (λ (k : ℕ). cond (fits_in l.layout l.versions l.filling n) (Some a) (cond (can_close l.versions a && fits_in l.layout l.versions next n) (Some k) None)) (sym (found_arena l.heads (a + 1)))
      ∙ at (fits_in l.layout l.versions l.filling n) (can_close l.versions a && fits_in l.layout l.versions next n) next
    where
      at : (b d : Bool) (next : Filling) → cond b (Some l.filling.arena) (cond d (Some next.arena) None) ≡ option_map (λ (f : Filling). f.arena) (cond b (Some l.filling) (cond d (Some next) None))
      at true d next = refl
      at false true next = refl
      at false false next = refl

  pub has_next_is : (n : ℕ) → has_next l n ≡ is_some (next_arena (setup_of_log l) h n)
  has_next_is n =
      at (next_filling l n) ∙ sym (ap (λ (o : Option ℕ). is_some o) (next_arena_is n))
    where
      at : (o : Option Filling) → is_some o ≡ is_some (option_map (λ (f : Filling). f.arena) o)
      at None = refl
      at (Some f) = refl

-- the disks stay sound, for the history with the block
pub append_sound : {D : Type 0} (score_of : List ℕ → List ℕ) (disk : DiskOf D) (l : LogState D) (h : History)
    (packed : Packed) (place : Place) (f : Filling) → IsPacked score_of packed → IsSoundLog score_of disk l h
    → queued l < 64 → next_filling l packed.len ≡ Some f → place ≡ record { arena = f.arena; offset = 24576 + f.used }
    → (next_arena (setup_of_log l) h packed.len ≡ Some f.arena)
    × (place_of (setup_of_log l) (h ++ accepted_in place.arena (stored_of packed) ∷ []) (length h) ≡ Some (spot_of place))
    × IsSoundLog score_of disk (with_appended packed place f l) (h ++ accepted_in place.arena (stored_of packed) ∷ [])
append_sound score_of disk l h packed place f well sound room is place_is = (
  next_arena_is score_of disk l h sound packed.len ∙ ap (λ (o : Option Filling). option_map (λ (f : Filling). f.arena) o) is,
  stands,
  record {
    whole = append_whole disk l packed place f sound.whole room is arena;
    contents = sound.contents;
    many = sound.many;
    split = sound.split;
    current = λ r device a at has. sound.current r device a (record { arena = at.arena; disk_is = at.disk_is }) has;
    others = λ i r device a other at has. sound.others i r device a other (record { arena = at.arena; disk_is = at.disk_is }) has;
    heads = sound.heads;
    selectors = λ i r device found behind at has. sound.selectors i r device found behind (record { arena = at.arena; disk_is = at.disk_is }) has;
    committed = take-append-le l.durable h (e ∷ []) inside ∙ sound.committed;
    queued = drop-append-le l.durable h (e ∷ []) inside ∙ ap (λ (q : History). q ++ e ∷ []) sound.queued
        ∙ append_assoc (map (accepted_in l.committing) (added_by_commit l.arena)) (map waiting_block l.queue.waiting) (e ∷ [])
        ∙ ap (λ (q : History). map (accepted_in l.committing) (added_by_commit l.arena) ++ q) (sym (map-append waiting_block l.queue.waiting (w ∷ [])));
    front = omega (arith, sound.front, length_push l.queue.places place, length_push h e);
    packed = All-push (λ (w : Waiting). IsPacked score_of w.packed) l.queue.waiting w sound.packed well;
    places = λ i p at. places i p at;
    filling = filled;
    last = omega (arith, last_push 0 h e, sound.whole.base, below.0, next.least, arena);
    arenas = All-push (λ (e : Accepted). e.arena ≤ f.arena) h e (All-weaker (λ (e : Accepted). e.arena ≤ l.filling.arena) (λ (e : Accepted). e.arena ≤ f.arena)
        (λ e least. omega (arith, least, next.least)) h sound.arenas) (omega (arith, arena));
  },
)
  where
    e : Accepted
    e = accepted_in place.arena (stored_of packed)

    w : Waiting
    w = record { arena = place.arena; packed = packed }

    next : IsNextFilling l packed.len f
    next = next_is l packed.len f is

    arena : place.arena ≡ f.arena
    arena = ap (λ (p : Place). p.arena) place_is

    below : (l.committing ≤ l.filling.arena) × (l.committing ≤ length l.layout → l.filling.arena ≤ length l.layout)
    below = fill_arena l.layout l.versions l.heads _ l.filling l.queue.waiting sound.whole.queue

    inside : l.durable ≤ length h
    inside = omega (arith, sound.front)

    fills : IsFilledBy (slice_index l.versions f.arena) (lengths_in f.arena h) f
    fills = next_filled score_of disk l h sound packed.len f next

    stands : place_of (setup_of_log l) (h ++ e ∷ []) (length h) ≡ Some (spot_of place)
    stands = place_of-push (setup_of_log l) h e
        ∙ ap (λ (s : Spot). Some s) (λ i. record { arena = place.arena; offset = offset i })
      where
        offset : offset_behind (setup_of_log l) place.arena (lengths_in place.arena h) ≡ place.offset
        offset = omega (arith, ap (λ (a : ℕ). sum_by (clump_len_in (slice_index l.versions a)) (lengths_in a h)) arena, fills.used, ap (λ (p : Place). p.offset) place_is)

    filled : IsFilledBy (slice_index l.versions f.arena) (lengths_in f.arena (h ++ e ∷ [])) (with_room_taken packed.len f)
    filled = subst (λ (ls : List ℕ). IsFilledBy (slice_index l.versions f.arena) ls (with_room_taken packed.len f)) (sym longer) (record {
      used = (λ i. fills.used i + block_room (sym (fits_version l.layout l.versions f packed.len next.fit) i) packed.len)
          ∙ sym (sum_by_push (block_room (slice_index l.versions f.arena)) (lengths_in f.arena h) packed.len);
      clumps = omega (arith, fills.clumps, length_push (lengths_in f.arena h) packed.len);
    })
      where
        longer : lengths_in f.arena (h ++ e ∷ []) ≡ lengths_in f.arena h ++ packed.len ∷ []
        longer = lengths_in-append f.arena h (e ∷ [])
            ∙ ap (λ (ls : List ℕ). lengths_in f.arena h ++ ls)
            (ap (λ (a : ℕ). lengths_in a (e ∷ [])) (sym arena) ∙ lengths_in-this e ∙ ap (λ (n : ℕ). n ∷ []) (sym well.len))

    places : (i : ℕ) (p : Place) → slice_get (l.queue.places ++ place ∷ []) i ≡ Some p → place_of (setup_of_log l) (h ++ e ∷ []) (l.durable + i) ≡ Some (spot_of p)
    places i p at = ⊎_elim
        (λ (before : i < length l.queue.places).
        place_of-append (setup_of_log l) h (e ∷ []) (l.durable + i) (omega (arith, before, sound.front))
        ∙ sound.places i p (sym (slice_get_left l.queue.places (place ∷ []) i before) ∙ at))
        (λ (last : i ≡ length l.queue.places).
        let same : place ≡ p = same_Some place p (sym (ap (slice_get (l.queue.places ++ place ∷ [])) (omega (arith, last)) ∙ slice_get_right l.queue.places (place ∷ []) 0) ∙ at) in
        ap (place_of (setup_of_log l) (h ++ e ∷ [])) (omega (arith, last, sound.front)) ∙ stands ∙ ap (λ (q : Place). Some (spot_of q)) same)
        (cases i (slice_get_within (l.queue.places ++ place ∷ []) i p at))
      where
        cases : (i : ℕ) → i < length (l.queue.places ++ place ∷ []) → (i < length l.queue.places) ⊎ (i ≡ length l.queue.places)
        cases i lt = ⊎_elim
            (λ (t : (leb (length l.queue.places) i ≡ true) × (length l.queue.places ≤ i)). inr (omega (arith, t.1, lt, length_push l.queue.places place)))
            (λ (t : (leb (length l.queue.places) i ≡ false) × (i < length l.queue.places)). inl t.1)
            (leb_tells (length l.queue.places) i)

-- the same of a log that is known by its fields
pub append_at : {D : Type 0} (score_of : List ℕ → List ℕ) (disk : DiskOf D) (l m : LogState D) (h : History)
    (packed : Packed) (place : Place) (f : Filling) → l ≡ m → IsPacked score_of packed → IsSoundLog score_of disk m h
    → queued m < 64 → next_filling m packed.len ≡ Some f → place ≡ record { arena = f.arena; offset = 24576 + f.used }
    → (next_arena (setup_of_log m) h packed.len ≡ Some f.arena)
    × (place_of (setup_of_log m) (h ++ accepted_in place.arena (stored_of packed) ∷ []) (length h) ≡ Some (spot_of place))
    × IsSoundLog score_of disk (with_appended packed place f l) (h ++ accepted_in place.arena (stored_of packed) ∷ [])
append_at {D = D} score_of disk l m h packed place f same well sound room is place_is =
    let it = append_sound score_of disk m h packed place f well sound room is place_is in
    (it.0, it.1, subst (λ (k : LogState D). IsSoundLog score_of disk (with_appended packed place f k) (h ++ accepted_in place.arena (stored_of packed) ∷ [])) (sym same) it.2)
