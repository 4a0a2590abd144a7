-- The device calls of a commit, and what they leave.
use Rattle.std.proofs.Common.{◌≡◌, ⊎_elim, ℕ, zero, suc, ◌+◌, ◌-◌, ◌<◌, ◌≤◌, Bool, true, false, if◌then◌else◌, List, [], ◌∷◌, length, take, get_or, Option, None, Result, Ok, Err, IsTrue, refl, sym, ◌∙◌, ap, subst, arith}
use Rattle.std.specs.Prelude.{IsSome, OnOk, is_some, nat_lt}
use Rattle.std.proofs.lemmas.Bool.{cases_lt}
use Rattle.std.proofs.lemmas.Bool.Decides.{nat_tests}
use Rattle.vt_disk.specs.declared.region.Region.{Region}
use Rattle.vt_disk.specs.declared.call.CallCount.{CallCount}
use Rattle.vt_disk.specs.Calls.{WritesWithin}
use Rattle.vt_disk.specs.DeviceCalls.{DeviceCall, CallFits, CallMade}
use Rattle.vt_disk.specs.DeviceCalls.DeviceCall.{write, sync}
use Rattle.vt_disk.specs.Disk.{part, with_bytes}
use Rattle.vt_disk.specs.Members.{DiskOf}
use Rattle.vt_disk.proofs.Bytes.{part-with_bytes}
use Rattle.vt_twin.specs.declared.step.Step.{Step}
use Rattle.vt_twin.specs.Calls.{call_at}
use Rattle.vt_twin.specs.Twin.{FrameChange, twin_calls_made, next_call as next_head_call, next_frame, with_change}
use Rattle.vt_clump.specs.declared.packed.Packed.{Packed}
use Rattle.vt_model.specs.declared.TheConstants.{ARENA_HEAD_LEN}
use Rattle.vt_arena.specs.Arena.{ArenaState, PieceAdvances, changing, pieces}
use Rattle.vt_arena.specs.Heads.{head_frame}
use Rattle.vt_arena.specs.Layout.{Content, directory_place, head_place}
use Rattle.vt_arena.specs.Places.{entries_len}
use Rattle.vt_arena.specs.Sound.{IsRegion, IsSoundArena}
use Rattle.vt_arena.specs.Whole.{staged_room, staged_directory}
use Rattle.vt_arena.specs.Written.{clump_at, next_piece, next_commit_call}
use Rattle.vt_arena.proofs.Pieces.{clump_failed, clump_made, directory_failed, directory_made, writes_in_region}

pub test_true : (x y : ℕ) → x < y → nat_lt x y ≡ true
test_true x y below = grind (arith, nat_tests)

pub test_false : (x y : ℕ) → y ≤ x → nat_lt x y ≡ false
test_false x y above = grind (arith, nat_tests)

-- what is staged at a place
pub clump_is : (staged : List Packed) (n : ℕ) (p : Packed) → n < length staged
    → p ≡ get_or staged n p → clump_at staged n ≡ p.bytes
clump_is [] n p below is = absurd (omega (arith, below))
clump_is (q ∷ staged) zero p below is = ap (λ (r : Packed). r.bytes) (sym is)
clump_is (q ∷ staged) (suc n) p below is = clump_is staged n p (omega (arith, below)) is

pub staged_at : (staged : List Packed) (n : ℕ) → n < length staged
    → (p : Packed) × (p ≡ get_or staged n p)
staged_at [] n below = absurd (omega (arith, below))
staged_at (q ∷ staged) zero below = (q, refl)
staged_at (q ∷ staged) (suc n) below = staged_at staged n (omega (arith, below))

-- the write of a clump, and that of the directory
module _ (a : ArenaState) (region : Region) where
  abbrev Clump : DeviceCall
  Clump = write (region.start + ARENA_HEAD_LEN + a.head.used + staged_room (take a.written a.staged)) (clump_at a.staged a.written)

  abbrev Directory : DeviceCall
  Directory = write (directory_place region (a.head.clumps + length a.staged)) (staged_directory a.staged)

  pub is_clump : a.written < length a.staged → next_piece a region ≡ Clump
  is_clump below = ap (λ (b : Bool). if b then Clump else Directory) (test_true a.written (length a.staged) below)

  pub is_directory : length a.staged ≤ a.written → next_piece a region ≡ Directory
  is_directory all = ap (λ (b : Bool). if b then Clump else Directory) (test_false a.written (length a.staged) all)

  pub is_piece : a.written < pieces a → next_piece a region ≡ next_commit_call a region
  is_piece below = sym (ap (λ (b : Bool). if b then next_piece a region else next_head_call (changing a) (head_place region)) (test_true a.written (pieces a) below))

  -- behind the pieces comes the head
  pub is_head : pieces a ≤ a.written → next_head_call (changing a) (head_place region) ≡ next_commit_call a region
  is_head all = sym (ap (λ (b : Bool). if b then next_piece a region else next_head_call (changing a) (head_place region)) (test_false a.written (pieces a) all))

  -- whose last call is a sync
  pub is_sync : a.written ≤ pieces a → twin_calls_made (changing a) ≤ 3 → a.written + twin_calls_made (changing a) ≡ pieces a + 3 → next_commit_call a region ≡ sync
  is_sync most few last =
      let third : twin_calls_made (changing a) ≡ 3 = omega (arith, most, few, last) in
      sym (is_head (omega (arith, third, last)))
      ∙ ap (λ (n : ℕ). call_at n (head_place region) (changing a).frame_len (changing a).current (next_frame (changing a))) third

-- the head's twin, where its change has begun and where it begins
pub changing_begun : (a : ArenaState) → IsSome a.twin.change → changing a ≡ a.twin
changing_begun a some = ap (λ (b : Bool). if b then a.twin else with_change (head_frame a.next) a.twin) some

pub changing_first : (a : ArenaState) → a.twin.change ≡ None → changing a ≡ with_change (head_frame a.next) a.twin
changing_first a none = ap (λ (o : Option FrameChange). if is_some o then a.twin else with_change (head_frame a.next) a.twin) none

-- A write of a piece lies on the disk.
module _ (a : ArenaState) (region : Region) (size : ℕ) (is_region : IsRegion region size)
    (room : (p : Packed) → a.written < length a.staged → p ≡ get_or a.staged a.written p
    → a.head.used + staged_room (take a.written a.staged) + length p.bytes + entries_len a.head.clumps + ARENA_HEAD_LEN ≤ region.len)
    (entries : entries_len (a.head.clumps + length a.staged) + a.head.used + staged_room a.staged + ARENA_HEAD_LEN ≤ region.len)
    (entries_is : length (staged_directory a.staged) ≡ entries_len (length a.staged)) where
  pub piece_fits : CallFits (next_piece a region) size
  piece_fits = ⊎_elim
      (λ (below : a.written < length a.staged).
      let it = staged_at a.staged a.written below in
      subst (λ (call : DeviceCall). CallFits call size)
      (sym (is_clump a region below ∙ ap (write (region.start + ARENA_HEAD_LEN + a.head.used + staged_room (take a.written a.staged))) (clump_is a.staged a.written it.0 below it.1)))
      (omega (arith, room it.0 below it.1, is_region.within)))
      (λ (all : length a.staged ≤ a.written).
      subst (λ (call : DeviceCall). CallFits call size) (sym (is_directory a region all))
      (omega (arith, entries, entries_is, is_region.within)))
      (cases_lt a.written (length a.staged))

-- What a write of a piece leaves.
module _ {D E : Type 0} (disk : DiskOf D) (a : ArenaState) (region : Region) (before after : D) (is_region : IsRegion region (disk.size before))
    (next : a.written < pieces a) (calls counted : CallCount) (result : Result Step E)
    (makes : CallMade disk (next_piece a region) result calls counted before after)
    (room : (p : Packed) → a.written < length a.staged → p ≡ get_or a.staged a.written p
    → a.head.used + staged_room (take a.written a.staged) + length p.bytes + entries_len a.head.clumps + ARENA_HEAD_LEN ≤ region.len)
    (entries : entries_len (a.head.clumps + length a.staged) + a.head.used + staged_room a.staged + ARENA_HEAD_LEN ≤ region.len)
    (entries_is : length (staged_directory a.staged) ≡ entries_len (length a.staged)) where
  -- a clump
  module _ (below : a.written < length a.staged) where
    p : Packed
    p = (staged_at a.staged a.written below).0

    is : p ≡ get_or a.staged a.written p
    unfolding p
    is = (staged_at a.staged a.written below).1

    place : ℕ
    place = region.start + ARENA_HEAD_LEN + a.head.used + staged_room (take a.written a.staged)

    place_is : place ≡ region.start + (ARENA_HEAD_LEN + (a.head.used + staged_room (take a.written a.staged)))
    unfolding place
    place_is = omega arith

    clump : CallMade disk (write place p.bytes) result calls counted before after
    unfolding p place
    clump = subst (λ (call : DeviceCall). CallMade disk call result calls counted before after)
        (is_clump a region below ∙ ap (write place) (clump_is a.staged a.written p below is)) makes

    pub clump_within : WritesWithin disk region 1 before after
    clump_within = writes_in_region disk region place (length p.bytes) (omega (arith, place_is)) (omega (arith, place_is, room p below is)) before after clump.writes

    pub clump_sound : (new : ArenaState) → PieceAdvances result a new → (score_of : List ℕ → List ℕ) (old : Content)
        → a.twin.change ≡ None → IsTrue disk.tells → length (disk.bytes before) ≡ disk.size before
        → IsSoundArena score_of a region old (disk.bytes before) (disk.images before)
        → IsSoundArena score_of new region old (disk.bytes after) (disk.images after)
    clump_sound new steps score_of old rest told fits sound = by result steps clump.written
      where
        by : (r : Result Step E) → PieceAdvances r a new
            → OnOk r (IsTrue disk.tells → disk.bytes after ≡ with_bytes place p.bytes (disk.bytes before))
            → IsSoundArena score_of new region old (disk.bytes after) (disk.images after)
        by (Err e) steps written =
            subst (λ (s : ArenaState). IsSoundArena score_of s region old (disk.bytes after) (disk.images after)) (sym steps)
            (clump_failed score_of a region (disk.size before) old (disk.bytes before) (disk.bytes after) (disk.images before) (disk.images after)
            is_region rest place (length p.bytes) clump.writes.images (clump.writes.bytes told) sound below p is refl
            (a.head.used + staged_room (take a.written a.staged)) 0 refl place_is (room p below is))
        by (Ok step) steps written =
            subst (λ (s : ArenaState). IsSoundArena score_of s region old (disk.bytes after) (disk.images after)) (sym steps.1)
            (clump_made score_of a region (disk.size before) old (disk.bytes before) (disk.bytes after) (disk.images before) (disk.images after)
            is_region rest place (length p.bytes) clump.writes.images (clump.writes.bytes told) sound below p is refl
            (a.head.used + staged_room (take a.written a.staged)) 0 refl place_is (room p below is)
            (ap (λ (l : List ℕ). part place (length p.bytes) l) (written told)
            ∙ part-with_bytes place p.bytes (disk.bytes before) (omega (arith, fits, place_is, room p below is, is_region.within))))

  -- the directory
  module _ (all : length a.staged ≤ a.written) where
    there : ℕ
    there = directory_place region (a.head.clumps + length a.staged)

    there_is : there ≡ region.start + (region.len - entries_len (a.head.clumps + length a.staged))
    unfolding there
    there_is = omega (arith, entries)

    directory : CallMade disk (write there (staged_directory a.staged)) result calls counted before after
    unfolding there
    directory = subst (λ (call : DeviceCall). CallMade disk call result calls counted before after) (is_directory a region all) makes

    pub directory_within : WritesWithin disk region 1 before after
    directory_within = writes_in_region disk region there (length (staged_directory a.staged))
        (omega (arith, there_is)) (omega (arith, there_is, entries, entries_is)) before after directory.writes

    pub directory_sound : (new : ArenaState) → PieceAdvances result a new → (score_of : List ℕ → List ℕ) (old : Content)
        → a.twin.change ≡ None → IsTrue disk.tells → length (disk.bytes before) ≡ disk.size before
        → IsSoundArena score_of a region old (disk.bytes before) (disk.images before)
        → IsSoundArena score_of new region old (disk.bytes after) (disk.images after)
    directory_sound new steps score_of old rest told fits sound = by result steps directory.written
      where
        by : (r : Result Step E) → PieceAdvances r a new
            → OnOk r (IsTrue disk.tells → disk.bytes after ≡ with_bytes there (staged_directory a.staged) (disk.bytes before))
            → IsSoundArena score_of new region old (disk.bytes after) (disk.images after)
        by (Err e) steps written =
            subst (λ (s : ArenaState). IsSoundArena score_of s region old (disk.bytes after) (disk.images after)) (sym steps)
            (directory_failed score_of a region (disk.size before) old (disk.bytes before) (disk.bytes after) (disk.images before) (disk.images after)
            is_region rest there (length (staged_directory a.staged)) directory.writes.images (directory.writes.bytes told) sound
            (omega (arith, all, next)) entries_is there_is (omega (arith, entries)))
        by (Ok step) steps written =
            subst (λ (s : ArenaState). IsSoundArena score_of s region old (disk.bytes after) (disk.images after)) (sym steps.1)
            (directory_made score_of a region (disk.size before) old (disk.bytes before) (disk.bytes after) (disk.images before) (disk.images after)
            is_region rest there (length (staged_directory a.staged)) directory.writes.images (directory.writes.bytes told) sound
            (omega (arith, all, next)) entries_is there_is (omega (arith, entries))
            (ap (λ (l : List ℕ). part there (length (staged_directory a.staged)) l) (written told)
            ∙ part-with_bytes there (staged_directory a.staged) (disk.bytes before) (omega (arith, fits, there_is, entries, entries_is, is_region.within))))

  pub piece_within : WritesWithin disk region 1 before after
  piece_within = ⊎_elim clump_within directory_within (cases_lt a.written (length a.staged))

  pub piece_sound : (new : ArenaState) → PieceAdvances result a new → (score_of : List ℕ → List ℕ) (old : Content)
      → a.twin.change ≡ None → IsTrue disk.tells → length (disk.bytes before) ≡ disk.size before
      → IsSoundArena score_of a region old (disk.bytes before) (disk.images before)
      → IsSoundArena score_of new region old (disk.bytes after) (disk.images after)
  piece_sound new steps score_of old rest told fits sound = ⊎_elim
      (λ (below : a.written < length a.staged). clump_sound below new steps score_of old rest told fits sound)
      (λ (all : length a.staged ≤ a.written). directory_sound all new steps score_of old rest told fits sound)
      (cases_lt a.written (length a.staged))
