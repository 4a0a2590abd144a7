-- What stands at the place of a block: in the queue, or in an arena.
use Rattle.std.proofs.Common.{◌≡◌, ◌≢◌, ⊎_elim, ℕ, zero, suc, ◌+◌, ◌-◌, ◌<◌, ◌≤◌, List, [], ◌∷◌, ◌++◌, length, take, drop, map, refl, sym, ◌∙◌, ap, subst, arith, Some, None}
use Rattle.std.specs.Prelude.{All, slice_get, sum_by}
use Rattle.std.specs.Option.{option_map}
use Rattle.std.proofs.lemmas.Bool.{cases_eq, cases_lt}
use Rattle.std.proofs.lemmas.List.{length-take-le, length-drop, take_all, take-append-le, take-append-drop, length-take}
use Rattle.std.proofs.lemmas.List.Elements.{All-nil, All-head, All-tail}
use Rattle.std.proofs.lemmas.Option.{slice_get_within, slice_get_cases, same_Some}
use Rattle.vt_base.specs.declared.place.Place.{Place}
use Rattle.vt_disk.specs.Members.{DiskOf}
use Rattle.vt_clump.specs.declared.packed.Packed.{Packed}
use Rattle.vt_clump.specs.Clumps.{IsPacked, stored_of}
use Rattle.vt_clump.specs.Spelling.{Stored, IsStoredBlock, size_in}
use Rattle.vt_model.specs.History.{Accepted, History}
use Rattle.vt_model.specs.declared.TheConstants.{ARENA_HEAD_LEN}
use Rattle.vt_model.specs.Places.{Setup, Spot, StandsAt, clump_len_in, lengths_in, offset_behind, place_of, version_of}
use Rattle.vt_model.proofs.Spots.{behind_earlier, some_taken}
use Rattle.vt_part.specs.declared.layout.ArenaRegion.{ArenaRegion}
use Rattle.vt_arena.specs.declared.head.Found.{Found}
use Rattle.vt_arena.specs.Layout.{Content, IsArenaContent, HasBlocks, arena_head}
use Rattle.vt_arena.specs.Places.{lengths_of, offset_of}
use Rattle.vt_log.specs.declared.queue.Waiting.{Waiting}
use Rattle.vt_log.specs.Log.{LogState, setup_of_log, packed_of}
use Rattle.vt_log.specs.Logs.{accepted_in, blocks_from}
use Rattle.vt_log.specs.Queue.{IsNowhere, spot_of, waiting_block}
use Rattle.vt_log.specs.Sound.{IsArenaAt, IsSoundLog}
use Rattle.vt_log.proofs.StandForPrefix.{there}
use Rattle.vt_log.proofs.Versions.{version_own}
use Rattle.vt_log.proofs.Lists.{slice_get_other, at_slice, slice_get_left, slice_get_drop, slice_get_there}
use Rattle.vt_log.proofs.Places.{blocks_before, block_of, block_at, lengths_take, split_at}

-- a block that has a place is there
placed_block : (c : Setup) (h : History) (i : ℕ) (s : Spot) → place_of c h i ≡ Some s → (e : Accepted) × (slice_get h i ≡ Some e)
placed_block c h i s at = ⊎_elim
    (λ (it : (x : Accepted) × (i < length h) × (slice_get h i ≡ Some x) × _). (it.0, it.2))
    (λ (past : (length h ≤ i) × (slice_get h i ≡ None)).
    let none : place_of c h i ≡ None = ap (option_map _) past.1 in
    let no : None ≡ Some s = sym none ∙ at in
    absurd (cc))
    (slice_get_cases h i).1

-- no two blocks have one place
pub place_once : (c : Setup) (h : History) (i j : ℕ) (s : Spot) → place_of c h i ≡ Some s → place_of c h j ≡ Some s → i ≡ j
place_once c h i j s at_i at_j =
    let e = placed_block c h i s at_i in
    let f = placed_block c h j s at_j in
    let stands_i : StandsAt c h i e.0 s = record { block = e.1; place = at_i } in
    let stands_j : StandsAt c h j f.0 s = record { block = f.1; place = at_j } in
    let some_i = some_taken (version_of c s.arena) (length e.0.block.bytes) in
    let some_j = some_taken (version_of c s.arena) (length f.0.block.bytes) in
    ⊎_elim
    (λ (less : i < j). absurd (omega (arith, some_i, behind_earlier c h i j e.0 f.0 s s stands_i stands_j refl less)))
    (λ (rest : j ≤ i). ⊎_elim
    (λ (less : j < i). absurd (omega (arith, some_j, behind_earlier c h j i f.0 e.0 s s stands_j stands_i refl less)))
    (λ (same : i ≤ j). omega (arith, rest, same))
    (cases_lt j i))
    (cases_lt i j)

-- a queued clump is a block of the queue
queue_at : (score_of : List ℕ → List ℕ) (c : ℕ) (staged : List Packed) (waiting : List Waiting) (i : ℕ) (p : Packed) → All (IsPacked score_of) staged
    → All (λ w. IsPacked score_of w.packed) waiting → slice_get (staged ++ map (λ w. w.packed) waiting) i ≡ Some p
    → (a : ℕ) × (slice_get (map (accepted_in c) (map stored_of staged) ++ map waiting_block waiting) i ≡ Some (accepted_in a (stored_of p))) × IsPacked score_of p
queue_at score_of c [] [] i p ready waits at = absurd (cc)
queue_at score_of c [] (w ∷ waiting) zero p ready waits at =
    let same : w.packed ≡ p = same_Some w.packed p at in
    let packed : IsPacked score_of w.packed = All-head (λ (w : Waiting). IsPacked score_of w.packed) w waiting waits in
    (w.arena, ap (λ (q : Packed). Some (accepted_in w.arena (stored_of q))) same, subst (IsPacked score_of) same packed)
queue_at score_of c [] (w ∷ waiting) (suc i) p ready waits at =
    queue_at score_of c [] waiting i p ready (All-tail (λ (w : Waiting). IsPacked score_of w.packed) w waiting waits) at
queue_at score_of c (q ∷ staged) waiting zero p ready waits at =
    let same : q ≡ p = same_Some q p at in
    (c, ap (λ (q : Packed). Some (accepted_in c (stored_of q))) same, subst (IsPacked score_of) same (All-head (IsPacked score_of) q staged ready))
queue_at score_of c (q ∷ staged) waiting (suc i) p ready waits at =
    queue_at score_of c staged waiting i p (All-tail (IsPacked score_of) q staged ready) waits at

-- block `i` of the history is this queued clump
pub record IsQueuedAs {D : Type 0} (score_of : List ℕ → List ℕ) (l : LogState D) (h : History) (index : ℕ) (p : Packed) : Type 0 where
  pub arena : ℕ
  pub block : slice_get h (l.durable + index) ≡ Some (accepted_in arena (stored_of p))
  pub packed : IsPacked score_of p
  pub bytes : drop 38 p.bytes ≡ (stored_of p).block

whole_block : (score_of : List ℕ → List ℕ) (p : Packed) → IsPacked score_of p → drop 38 p.bytes ≡ (stored_of p).block
whole_block score_of p packed =
    let long : length p.bytes ≡ 38 + p.len = p.whole in
    let rest : length (drop 38 p.bytes) ≡ p.len = omega (arith, long, length-drop 38 p.bytes) in
    let n = size_in p.bytes in
    sym (take_all n (drop 38 p.bytes) (omega (arith, rest, packed.len, length-take n (drop 38 p.bytes))))

-- a committed block is one of its arena's
pub record IsCommitted (contents : List Content) (h : History) (i : ℕ) (e : Accepted) : Type 0 where
  pub content : Content
  pub index : ℕ
  pub stored : Stored
  pub at : slice_get contents e.arena ≡ Some content
  pub has : slice_get content.stored index ≡ Some stored
  pub block : e ≡ accepted_in e.arena stored
  pub count : i ≡ blocks_before e.arena contents + index
  pub lengths : lengths_in e.arena (take i h) ≡ lengths_of (take index content.stored)

pub front_same : {X : Type 0} (xs : List X) (n i : ℕ) → i < n → n ≤ length xs → slice_get (take n xs) i ≡ slice_get xs i
front_same xs n i below within =
    sym (slice_get_left (take n xs) (drop n xs) i (omega (arith, below, length-take-le n xs within)))
    ∙ ap (λ (ys : List _). slice_get ys i) (take-append-drop n xs)

pub front_take : {X : Type 0} (xs : List X) (n i : ℕ) → i ≤ n → n ≤ length xs → take i (take n xs) ≡ take i xs
front_take xs n i below within =
    sym (take-append-le i (take n xs) (drop n xs) (omega (arith, below, length-take-le n xs within)))
    ∙ ap (take i) (take-append-drop n xs)

-- an arena's blocks stand in its region, as it is read
pub record HasContent {D : Type 0} (score_of : List ℕ → List ℕ) (disk : DiskOf D) (l : LogState D) (arena : ℕ) (a : Content) : Type 0 where
  pub r : ArenaRegion
  pub device : D
  pub at : IsArenaAt l arena r device
  pub content : IsArenaContent score_of r.region.len a
  pub stand : HasBlocks r.region a (disk.bytes device)
  pub head : (found : Found) → slice_get l.heads arena ≡ Some found → found.head ≡ arena_head score_of r.number a

-- the block whose place is none of the queue's stands there in its arena
pub record IsStoredAt {D : Type 0} (score_of : List ℕ → List ℕ) (disk : DiskOf D) (l : LogState D) (place : Place) (e : Accepted) : Type 0 where
  pub content : Content
  pub before : List Stored
  pub behind : List Stored
  pub stored : Stored
  pub is : HasContent score_of disk l place.arena content
  pub split : content.stored ≡ before ++ stored ∷ behind
  pub offset : place.offset ≡ offset_of content.version before
  pub block : e ≡ accepted_in place.arena stored
  pub scored : stored.score ≡ score_of stored.block

-- ---- where disks are sound for a history

module _ {D : Type 0} (score_of : List ℕ → List ℕ) (disk : DiskOf D) (l : LogState D) (h : History) (sound : IsSoundLog score_of disk l h) where
  -- what is staged is packed
  pub staged_packed : All (IsPacked score_of) l.arena.staged
  staged_packed = ⊎_elim
      (λ (some : l.committing < length l.layout).
      let r = slice_get_there l.layout l.committing some in
      let it = there disk l l.committing r.0 sound.whole r.1 in
      let a = slice_get_other sound.contents l.layout l.committing r.0 (sym sound.many) r.1 in
      (sound.current r.0 it.disk a.0 it.at a.1).packed)
      (λ (past : length l.layout ≤ l.committing).
      let none = sound.whole.none (omega (arith, past, sound.whole.committing)) in
      subst (All (IsPacked score_of)) (sym none.0) (All-nil (IsPacked score_of)))
      (cases_lt l.committing (length l.layout))

  pub queued_as : (index : ℕ) (p : Packed) → slice_get (packed_of l) index ≡ Some p → IsQueuedAs score_of l h index p
  queued_as index p at =
      let it = queue_at score_of l.committing l.arena.staged l.queue.waiting index p (staged_packed) sound.packed at in
      record {
        arena = it.0;
        block = sym (slice_get_drop l.durable index h) ∙ ap (λ (g : History). slice_get g index) sound.queued ∙ it.1;
        packed = it.2;
        bytes = whole_block score_of p it.2;
      }

  -- a block whose place is none of the queue's is committed
  pub is_durable : (i : ℕ) (place : Place) → i < length h → place_of (setup_of_log l) h i ≡ Some (spot_of place) → IsNowhere l.queue.places place → i < l.durable
  is_durable i place below at nowhere = ⊎_elim
      (λ (less : i < l.durable). less)
      (λ (behind : l.durable ≤ i).
      let q = slice_get_there l.queue.places (i - l.durable) (omega (arith, behind, below, sound.front)) in
      let k : l.durable + (i - l.durable) ≡ i = omega (arith, behind) in
      let other : place_of (setup_of_log l) h i ≡ Some (spot_of q.0) = subst (λ (n : ℕ). place_of (setup_of_log l) h n ≡ Some (spot_of q.0)) k (sound.places (i - l.durable) q.0 q.1) in
      let spots : spot_of q.0 ≡ spot_of place = same_Some (spot_of q.0) (spot_of place) (sym other ∙ at) in
      let back : Spot → Place = λ (s : Spot). record { arena = s.arena; offset = s.offset } in
      let same : q.0 ≡ place = ap back spots in
      absurd (nowhere (i - l.durable) (q.1 ∙ ap (λ (x : Place). Some x) same)))
      (cases_lt i l.durable)

  pub committed : (i : ℕ) (e : Accepted) → slice_get h i ≡ Some e → i < l.durable → IsCommitted sound.contents h i e
  committed i e at below =
      let within : l.durable ≤ length h = omega (arith, sound.front) in
      let many : i < length (blocks_from 0 sound.contents) = omega (arith, below, within, length-take-le l.durable h within, ap (λ (g : History). length g) sound.committed) in
      let it = block_of 0 sound.contents i many in
      let is : Some e ≡ Some (accepted_in (0 + it.arena) it.stored) =
      sym at ∙ sym (front_same h l.durable i below within) ∙ ap (λ (g : History). slice_get g i) sound.committed
      ∙ ap (slice_get (blocks_from 0 sound.contents)) it.is ∙ block_at 0 sound.contents it.arena it.content it.index it.stored it.at it.has in
      let own : 0 + it.arena ≡ it.arena = omega arith in
      let block : e ≡ accepted_in it.arena it.stored = same_Some e (accepted_in it.arena it.stored) (is ∙ ap (λ (n : ℕ). Some (accepted_in n it.stored)) own) in
      let arena : it.arena ≡ e.arena = sym (ap (λ (x : Accepted). x.arena) block) in
      let lengths : lengths_in it.arena (take i h) ≡ lengths_of (take it.index it.content.stored) =
      ap (lengths_in it.arena) (sym (front_take h l.durable i (omega (arith, below)) within) ∙ ap (take i) sound.committed)
      ∙ ap (λ (n : ℕ). lengths_in it.arena (take n (blocks_from 0 sound.contents))) it.is
      ∙ lengths_take sound.contents it.arena it.content it.index it.at (omega (arith, slice_get_within it.content.stored it.index it.stored it.has)) in
      record {
        content = it.content;
        index = it.index;
        stored = it.stored;
        at = subst (λ (n : ℕ). slice_get sound.contents n ≡ Some it.content) arena it.at;
        has = it.has;
        block = subst (λ (n : ℕ). e ≡ accepted_in n it.stored) arena block;
        count = subst (λ (n : ℕ). i ≡ blocks_before n sound.contents + it.index) arena it.is;
        lengths = subst (λ (n : ℕ). lengths_in n (take i h) ≡ lengths_of (take it.index it.content.stored)) arena lengths;
      }

  pub has_content : (arena : ℕ) (a : Content) → slice_get sound.contents arena ≡ Some a → ((device : D) → disk.images device (disk.bytes device)) → HasContent score_of disk l arena a
  has_content arena a at reads =
      let r = slice_get_other l.layout sound.contents arena a sound.many at in
      let it = there disk l arena r.0 sound.whole r.1 in
      let both : IsArenaContent score_of r.0.region.len a × HasBlocks r.0.region a (disk.bytes it.disk) = ⊎_elim
      (λ (same : arena ≡ l.committing).
      let arena_at : IsArenaAt l l.committing r.0 it.disk = subst (λ (n : ℕ). IsArenaAt l n r.0 it.disk) same it.at in
      let current = sound.current r.0 it.disk a arena_at (subst (λ (n : ℕ). slice_get sound.contents n ≡ Some a) same at) in
      (current.content, current.kept (disk.bytes it.disk) (reads it.disk)))
      (λ (other : arena ≢ l.committing).
      let rest = sound.others arena r.0 it.disk a other it.at at in
      (rest.1.content, rest.1.blocks))
      (cases_eq arena l.committing) in
      record {
        r = r.0;
        device = it.disk;
        at = it.at;
        content = both.0;
        stand = both.1;
        head = λ found has. sound.heads arena r.0 found a r.1 has at;
      }

  pub stored_at : (i : ℕ) (e : Accepted) (place : Place) → slice_get h i ≡ Some e → place_of (setup_of_log l) h i ≡ Some (spot_of place) → IsNowhere l.queue.places place
      → ((device : D) → disk.images device (disk.bytes device)) → IsStoredAt score_of disk l place e
  stored_at i e place at placed nowhere reads =
      let below = is_durable i place (slice_get_within h i e at) placed nowhere in
      let it = committed i e at below in
      let spot : Accepted → Spot = λ (x : Accepted). record { arena = x.arena; offset = offset_behind (setup_of_log l) x.arena (lengths_in x.arena (take i h)) } in
      let spots : spot e ≡ spot_of place = same_Some (spot e) (spot_of place) (sym (ap (option_map spot) at) ∙ placed) in
      let arena : e.arena ≡ place.arena = ap (λ (s : Spot). s.arena) spots in
      let some : 0 < length it.content.stored = omega (arith, slice_get_within it.content.stored it.index it.stored it.has) in
      let offset : place.offset ≡ offset_of it.content.version (take it.index it.content.stored) =
      sym (ap (λ (s : Spot). s.offset) spots) ∙ ap (offset_behind (setup_of_log l) e.arena) it.lengths
      ∙ ap (λ (v : ℕ). ARENA_HEAD_LEN + sum_by (clump_len_in v) (lengths_of (take it.index it.content.stored)))
      (version_own score_of disk l h sound e.arena it.content it.at some) in
      let is = has_content e.arena it.content it.at reads in
      record {
        content = it.content;
        before = take it.index it.content.stored;
        behind = drop (it.index + 1) it.content.stored;
        stored = it.stored;
        is = subst (λ (n : ℕ). HasContent score_of disk l n it.content) arena is;
        split = split_at it.content.stored it.index it.stored it.has;
        offset = offset;
        block = subst (λ (n : ℕ). e ≡ accepted_in n it.stored) arena it.block;
        scored = (at_slice (IsStoredBlock score_of) it.content.stored it.index it.stored is.content.stored it.has).scored;
      }
