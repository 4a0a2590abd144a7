-- A commit writes clumps behind the committed ones, and their directory below the committed one.
use Rattle.std.proofs.Common.{◌≡◌, ℕ, ◌+◌, ◌-◌, ◌<◌, ◌≤◌, List, [], ◌∷◌, ◌++◌, length, take, map, Option, Some, None, refl, sym, ◌∙◌, ap, subst, arith, get_or}
use Rattle.std.specs.Prelude.{All, IsSome}
use Rattle.std.proofs.lemmas.List.{take-map, map-append, take_more, take_all, length-map}
use Rattle.vt_disk.specs.declared.region.Region.{Region}
use Rattle.vt_disk.specs.Disk.{Touches, SameBut, ChangesAt, part}
use Rattle.vt_disk.specs.Calls.{WritesAt, WritesWithin}
use Rattle.vt_disk.specs.Members.{DiskOf}
use Rattle.vt_disk.specs.Region.{Inside}
use Rattle.vt_disk.proofs.Calls.{writes_wider}
use Rattle.vt_twin.specs.Frames.{FitsTwin}
use Rattle.vt_twin.specs.Twin.{TwinState, FrameChange}
use Rattle.vt_twin.specs.Sound.{IsSoundTwin}
use Rattle.vt_twin.proofs.Changes.{none_made}
use Rattle.vt_twin.proofs.Sound.{sound_elsewhere}
use Rattle.vt_clump.specs.declared.packed.Packed.{Packed}
use Rattle.vt_clump.specs.Spelling.{Stored, IsStoredBlock, clump_bytes}
use Rattle.vt_clump.specs.Clumps.{IsPacked, stored_of}
use Rattle.vt_model.specs.declared.TheConstants.{ARENA_HEAD_LEN, WRITTEN_VERSION}
use Rattle.vt_arena.specs.declared.TheConstants.{FRAME_LEN}
use Rattle.vt_arena.specs.Arena.{ArenaState, added_by_commit, after_piece, with_failure}
use Rattle.vt_arena.specs.Layout.{Content, HasBlocks, BytesStandAt, ClumpsStandAt, directory_of, clumps_place, directory_place, head_place, used_of}
use Rattle.vt_arena.specs.Places.{entries_len}
use Rattle.vt_arena.specs.Sound.{IsRegion, IsSoundArena, HasPieces, clumps_made}
use Rattle.vt_arena.specs.Whole.{staged_room, staged_directory}
use Rattle.vt_arena.proofs.Layouts.{touched_within, stands_same, length-directory, directory-packed, used-packed, All-stored, all_take}
use Rattle.vt_arena.proofs.Standing.{stand-append, stand_same}

-- the head's twin has its place
pub head_room : (region : Region) (size n : ℕ) → IsRegion region size → n ≡ FRAME_LEN → FitsTwin (head_place region) n size
head_room region size n is n_is = subst (λ (k : ℕ). FitsTwin (head_place region) k size) (sym n_is) record {
  within = omega (arith, is.within, is.len.0);
  least = omega arith;
  most = omega arith;
  aligned_start = is.aligned;
  aligned_len = refl;
  aligned_frames = refl;
}

-- what is done behind the head leaves its twin sound
pub twin_elsewhere : (t : TwinState) (region : Region) (size : ℕ) → IsRegion region size → t.frame_len ≡ FRAME_LEN
    → (P : ℕ → Type 0) → ((i : ℕ) → P i → region.start ≤ i → i < region.start + ARENA_HEAD_LEN → ⊥)
    → (old read reads : List ℕ) (before after : List ℕ → Type 0) → SameBut P read reads → ChangesAt P before after
    → IsSoundTwin t region old read before → IsSoundTwin t region old reads after
twin_elsewhere t region size is frame_len P apart old read reads before after same changes sound =
    let kept : IsSoundTwin t (head_place region) old reads after =
    sound_elsewhere t (head_place region) size (head_room region size t.frame_len is frame_len) P
    (λ i here inside. apart i here inside.0 inside.1) old read reads before after same changes
    (record { number = sound.number; kept = sound.kept; named = sound.named; written = sound.written; synced = sound.synced; selected = sound.selected }) in
    record { number = kept.number; kept = kept.kept; named = kept.named; written = kept.written; synced = kept.synced; selected = kept.selected }

-- what is done at places that hold nothing of the arena
module _ (score_of : List ℕ → List ℕ) (s : ArenaState) (region : Region) (size : ℕ) (old : Content) (read reads : List ℕ) (before after : List ℕ → Type 0)
    (is_region : IsRegion region size) (rest : s.twin.change ≡ None) (place n : ℕ)
    (changes : ChangesAt (Touches place n) before after) (same : SameBut (Touches place n) read reads) (few : s.written ≤ length s.staged)
    (low : clumps_place region old.version old.stored + used_of WRITTEN_VERSION (clumps_made s) ≤ place)
    (high : place + n ≤ directory_place region (length old.stored))
    (sound : IsSoundArena score_of s region old read before) where
  twin_stays : IsSoundTwin s.twin region sound.frame reads after
  twin_stays = twin_elsewhere s.twin region size is_region sound.frame_len (Touches place n)
      (λ i touched above below. omega (arith, (touched_within place n i touched).0, low, below))
      sound.frame read reads before after same changes sound.twin

  blocks_stay : (c : List ℕ) → after c → HasBlocks region old c
  blocks_stay c left =
      let from = changes c left in
      let blocks = sound.kept from.0 from.1 in record {
        clumps = stand_same score_of (Touches place n) old.version (region.start + ARENA_HEAD_LEN) old.stored from.0 c sound.content.stored from.2
            (λ i over under touched. omega (arith, under, (touched_within place n i touched).0, low)) blocks.clumps;
        directory = λ there. stands_same (Touches place n) (directory_place region (length old.stored)) (directory_of old.stored) from.0 c from.2
            (λ i over under touched. omega (arith, over, (touched_within place n i touched).1, high)) (blocks.directory there);
      }

  pub clumps_stay : ClumpsStandAt WRITTEN_VERSION (clumps_place region old.version old.stored) (clumps_made s) reads
  clumps_stay =
      stand_same score_of (Touches place n) WRITTEN_VERSION (clumps_place region old.version old.stored) (clumps_made s) read reads
      (all_take (IsStoredBlock score_of) s.written (added_by_commit s) (All-stored score_of s.staged sound.packed)) same
      (λ i over under touched. omega (arith, under, (touched_within place n i touched).0, low)) sound.written.clumps

  -- a write that failed
  pub write_failed : IsSoundArena score_of (with_failure s) region old reads after
  write_failed = record {
    len = sound.len;
    frame_len = sound.frame_len;
    head = sound.head;
    next = sound.next;
    chain = sound.chain;
    packed = sound.packed;
    content = sound.content;
    next_content_is = record { version = sound.next_content_is.version; stored = sound.next_content_is.stored; linked = sound.next_content_is.linked; fit = sound.next_content_is.fit };
    version = sound.version;
    grows = sound.grows;
    begun = sound.begun;
    frame = sound.frame;
    twin = twin_stays;
    fields = sound.fields;
    kept = blocks_stay;
    written = record { clumps = clumps_stay; directory = λ more. absurd (omega (arith, few, more)) };
    synced = λ made. absurd (omega (arith, made, none_made s.twin rest));
  }

  -- one that wrote the next piece
  pub write_made : (w : ℕ) → HasPieces (record s { written = w }) region old reads → IsSoundArena score_of (record s { written = w }) region old reads after
  write_made w made = record {
    len = sound.len;
    frame_len = sound.frame_len;
    head = sound.head;
    next = sound.next;
    chain = sound.chain;
    packed = sound.packed;
    content = sound.content;
    next_content_is = record { version = sound.next_content_is.version; stored = sound.next_content_is.stored; linked = sound.next_content_is.linked; fit = sound.next_content_is.fit };
    version = sound.version;
    grows = sound.grows;
    begun = λ some. absurd (none_some s.twin.change rest some);
    frame = sound.frame;
    twin = twin_stays;
    fields = sound.fields;
    kept = blocks_stay;
    written = made;
    synced = λ calls. absurd (omega (arith, calls, none_made s.twin rest));
  }
    where
      none_some : (change : Option FrameChange) → change ≡ None → IsSome change → ⊥
      none_some None is some = cc
      none_some (Some it) is some = cc

-- the staged blocks, one by one
pub added_more : (staged : List Packed) (w : ℕ) (p : Packed) → w < length staged → p ≡ get_or staged w p → take (w + 1) (map stored_of staged) ≡ take w (map stored_of staged) ++ stored_of p ∷ []
added_more staged w p below is =
    take-map stored_of (w + 1) staged
    ∙ ap (λ (l : List Packed). map stored_of l) (take_more staged w p below ∙ ap (λ (q : Packed). take w staged ++ q ∷ []) (sym is))
    ∙ map-append stored_of (take w staged) (p ∷ [])
    ∙ ap (λ (l : List Stored). l ++ stored_of p ∷ []) (sym (take-map stored_of w staged))

-- how many bytes the clumps are that were written
pub made_len : (score_of : List ℕ → List ℕ) (staged : List Packed) (w : ℕ) → All (IsPacked score_of) staged → used_of WRITTEN_VERSION (take w (map stored_of staged)) ≡ staged_room (take w staged)
made_len score_of staged w packed =
    ap (used_of WRITTEN_VERSION) (take-map stored_of w staged)
    ∙ used-packed score_of (take w staged) (all_take (IsPacked score_of) w staged packed)

-- the numbers of a sound arena's head
pub head_used : (score_of : List ℕ → List ℕ) (s : ArenaState) (region : Region) (old : Content) (read : List ℕ) (images : List ℕ → Type 0) → IsSoundArena score_of s region old read images
    → (s.head.used ≡ used_of old.version old.stored) × (s.head.clumps ≡ length old.stored)
head_used score_of s region old read images sound = ((λ i. (sound.head i).used), (λ i. (sound.head i).clumps))

-- the next clump
module _ (score_of : List ℕ → List ℕ) (s : ArenaState) (region : Region) (size : ℕ) (old : Content) (read reads : List ℕ) (before after : List ℕ → Type 0)
    (is_region : IsRegion region size) (rest : s.twin.change ≡ None) (place n : ℕ)
    (changes : ChangesAt (Touches place n) before after) (same : SameBut (Touches place n) read reads)
    (sound : IsSoundArena score_of s region old read before)
    (below : s.written < length s.staged) (p : Packed) (is : p ≡ get_or s.staged s.written p) (n_is : n ≡ length p.bytes)
    (end room : ℕ) (end_is : end ≡ s.head.used + staged_room (take s.written s.staged))
    (place_is : place ≡ region.start + (ARENA_HEAD_LEN + end))
    (fits : end + length p.bytes + entries_len s.head.clumps + ARENA_HEAD_LEN ≤ region.len) where
  clump_low : clumps_place region old.version old.stored + used_of WRITTEN_VERSION (clumps_made s) ≤ place
  clump_low = omega (arith, made_len score_of s.staged s.written sound.packed, (head_used score_of s region old read before sound).0, end_is, place_is)

  clump_high : place + n ≤ directory_place region (length old.stored)
  clump_high = omega (arith, (head_used score_of s region old read before sound).1, place_is, n_is, fits)

  pub clump_failed : IsSoundArena score_of (with_failure s) region old reads after
  clump_failed = write_failed score_of s region size old read reads before after is_region rest place n changes same (omega (arith, below)) clump_low clump_high sound

  pub clump_made : part place n reads ≡ p.bytes → IsSoundArena score_of (after_piece s) region old reads after
  clump_made new =
      let is_packed : IsPacked score_of p = subst (λ (q : Packed). IsPacked score_of q) (sym is) (sound.packed s.written p below) in
      let low : used_of WRITTEN_VERSION (clumps_made s) ≡ staged_room (take s.written s.staged) = made_len score_of s.staged s.written sound.packed in
      let used = (head_used score_of s region old read before sound).0 in
      let piece : BytesStandAt place p.bytes reads = ap (λ (m : ℕ). part place m reads) (sym n_is) ∙ new in
      let further : BytesStandAt (clumps_place region old.version old.stored + used_of WRITTEN_VERSION (clumps_made s)) (clump_bytes (stored_of p)) reads =
      subst (λ (at : ℕ). BytesStandAt at (clump_bytes (stored_of p)) reads) (omega (arith, place_is, end_is, used, low))
      (subst (λ (l : List ℕ). BytesStandAt place l reads) is_packed.bytes piece) in
      let both : take (s.written + 1) (added_by_commit s) ≡ clumps_made s ++ stored_of p ∷ [] = added_more s.staged s.written p below is in
      let stays = clumps_stay score_of s region size old read reads before after is_region rest place n changes same (omega (arith, below)) clump_low clump_high sound in
      write_made score_of s region size old read reads before after is_region rest place n changes same (omega (arith, below)) clump_low clump_high sound (s.written + 1) (record {
        clumps = subst (λ (l : List Stored). ClumpsStandAt WRITTEN_VERSION (clumps_place region old.version old.stored) l reads) (sym both)
            (stand-append WRITTEN_VERSION (clumps_place region old.version old.stored) (clumps_made s) (stored_of p ∷ []) reads stays (further, tt));
        directory = λ more. absurd (omega (arith, below, more));
      })

-- the directory of all
module _ (score_of : List ℕ → List ℕ) (s : ArenaState) (region : Region) (size : ℕ) (old : Content) (read reads : List ℕ) (before after : List ℕ → Type 0)
    (is_region : IsRegion region size) (rest : s.twin.change ≡ None) (place n : ℕ)
    (changes : ChangesAt (Touches place n) before after) (same : SameBut (Touches place n) read reads)
    (sound : IsSoundArena score_of s region old read before) (written : s.written ≡ length s.staged)
    (n_is : n ≡ entries_len (length s.staged)) (place_is : place ≡ region.start + (region.len - entries_len (s.head.clumps + length s.staged)))
    (fits : entries_len (s.head.clumps + length s.staged) + s.head.used + staged_room s.staged + ARENA_HEAD_LEN ≤ region.len) where
  directory_low : clumps_place region old.version old.stored + used_of WRITTEN_VERSION (clumps_made s) ≤ place
  directory_low =
      let all : staged_room (take s.written s.staged) ≡ staged_room s.staged = ap staged_room (take_all s.written s.staged (omega (arith, written))) in
      omega (arith, made_len score_of s.staged s.written sound.packed, all, (head_used score_of s region old read before sound).0, place_is, fits)

  directory_high : place + n ≤ directory_place region (length old.stored)
  directory_high = omega (arith, (head_used score_of s region old read before sound).1, place_is, n_is, fits)

  pub directory_failed : IsSoundArena score_of (with_failure s) region old reads after
  directory_failed = write_failed score_of s region size old read reads before after is_region rest place n changes same (omega (arith, written)) directory_low directory_high sound

  pub directory_made : part place n reads ≡ staged_directory s.staged → IsSoundArena score_of (after_piece s) region old reads after
  directory_made new =
      let count : length (added_by_commit s) ≡ length s.staged = length-map s.staged stored_of in
      let numbers = head_used score_of s region old read before sound in
      let is : staged_directory s.staged ≡ directory_of (added_by_commit s) = directory-packed score_of s.staged sound.packed in
      let len : length (directory_of (added_by_commit s)) ≡ n = omega (arith, length-directory score_of (added_by_commit s) (All-stored score_of s.staged sound.packed), count, n_is) in
      let same_clumps : clumps_made s ≡ take (s.written + 1) (added_by_commit s) =
      take_all s.written (added_by_commit s) (omega (arith, count, written)) ∙ sym (take_all (s.written + 1) (added_by_commit s) (omega (arith, count, written))) in
      write_made score_of s region size old read reads before after is_region rest place n changes same (omega (arith, written)) directory_low directory_high sound (s.written + 1) (record {
        clumps = subst (λ (l : List Stored). ClumpsStandAt WRITTEN_VERSION (clumps_place region old.version old.stored) l reads) same_clumps
            (clumps_stay score_of s region size old read reads before after is_region rest place n changes same (omega (arith, written)) directory_low directory_high sound);
        directory = λ made. subst (λ (at : ℕ). BytesStandAt at (directory_of (added_by_commit s)) reads) (omega (arith, place_is, numbers.1, fits))
            (ap (λ (m : ℕ). part place m reads) len ∙ new ∙ is);
      })

module _ {D : Type 0} (disk : DiskOf D) (region : Region) where
  -- a write within the region
  pub writes_in_region : (place n : ℕ) → region.start ≤ place → place + n ≤ region.start + region.len → (old new : D) → WritesAt disk (Touches place n) 1 old new → WritesWithin disk region 1 old new
  writes_in_region place n above below =
      writes_wider disk (Touches place n) (Inside region) (λ i touched. let here = touched_within place n i touched in (omega (arith, here.0, above), omega (arith, here.1, below))) 1 1 (omega arith)

  -- a call of the head's change
  pub writes_in_head : ARENA_HEAD_LEN ≤ region.len → (old new : D) → WritesWithin disk (head_place region) 1 old new → WritesWithin disk region 1 old new
  writes_in_head least = writes_wider disk (Inside (head_place region)) (Inside region) (λ i here. (here.0, omega (arith, here.1, least))) 1 1 (omega arith)
