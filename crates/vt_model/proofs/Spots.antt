-- Where blocks stand.
use Rattle.std.proofs.Common.{◌≡◌, ◌≢◌, ℕ, zero, suc, ◌+◌, ◌-◌, ◌%◌, ◌<◌, ◌≤◌, ◌==◌, true, false, cond, List, [], ◌∷◌, ◌++◌, length, get_or, take, drop, Some, refl, sym, ◌∙◌, ap, subst, arith}
use Rattle.std.specs.Prelude.{map, filter, slice_get, slice_index, sum_by}
use Rattle.std.specs.Option.{option_map}
use Rattle.std.proofs.Math.Seq.{take-append_seam}
use Rattle.std.proofs.lemmas.Bool.{leb-true}
use Rattle.std.proofs.lemmas.Bool.Decides.{Decides-eqb}
use Rattle.std.proofs.lemmas.List.{take-append-le, take-append-drop, length-take}
use Rattle.std.proofs.lemmas.List.Sums.{sum_by-cons, sum_by_more, sum_by-take-le}
use Rattle.std.proofs.lemmas.Option.{slice_get_within, get_or_from_slice_get}
use Rattle.vt_model.specs.declared.TheConstants.{ARENA_HEAD_LEN, CLUMP_HEADER_LEN, CLUMP_UNIT}
use Rattle.vt_model.specs.History.{History, Accepted}
use Rattle.vt_model.specs.Places.{Setup, Spot, StandsAt, room_of, version_of, clump_len, clump_len_in, directory_len, needed, lengths_in, offset_behind, place_of, whole_units}
use Rattle.vt_model.specs.Legal.{IsLegal}
use Rattle.vt_model.proofs.Lists.{test_false}

-- ---- a sum over an arena's blocks

abbrev pub if_in : ℕ → (ℕ → ℕ) → Accepted → ℕ
if_in a f e = cond (e.arena == a) (f (length e.block.bytes)) 0

pub sum_by-lengths_in : (f : ℕ → ℕ) (a : ℕ) (h : History)
    → sum_by f (lengths_in a h) ≡ sum_by (if_in a f) h
sum_by-lengths_in f a [] = refl
sum_by-lengths_in f a (e ∷ es) =
    let rest = filter (λ (e : Accepted). e.arena == a) es in
    let lengths : History → List ℕ = map (λ e. length e.block.bytes) in
    elim (e.arena == a) as
    (λ t. sum_by f (lengths (cond t (e ∷ rest) rest))
    ≡ cond t (f (length e.block.bytes)) 0 + sum_by (if_in a f) es) [
      | true ↦ omega
          (arith, sum_by-cons f (length e.block.bytes) (lengths_in a es), sum_by-lengths_in f a es)
      | false ↦ omega (arith, sum_by-lengths_in f a es)
    ] ∙ sym (sum_by-cons (if_in a f) e es)

module _ (f : ℕ → ℕ) (a : ℕ) (h : History) where
  pub sum_by-lengths_in-take-le : (i : ℕ)
      → sum_by f (lengths_in a (take i h)) ≤ sum_by f (lengths_in a h)
  sum_by-lengths_in-take-le i =
      omega (
        arith,
        sum_by-lengths_in f a (take i h),
        sum_by-lengths_in f a h,
        sum_by-take-le (if_in a f) h i,
      )

  pub sum_by-lengths_in_more : (i : ℕ) (d : Accepted) → i < length h
      → sum_by f (lengths_in a (take (i + 1) h))
      ≡ sum_by f (lengths_in a (take i h)) + if_in a f (get_or h i d)
  sum_by-lengths_in_more i d lt =
      omega (
        arith,
        sum_by-lengths_in f a (take (i + 1) h),
        sum_by-lengths_in f a (take i h),
        sum_by_more (if_in a f) h i d lt,
      )

pub if_in-this : (f : ℕ → ℕ) (a : ℕ) (e : Accepted) → e.arena ≡ a
    → if_in a f e ≡ f (length e.block.bytes)
if_in-this f a e here =
    ap (λ t. cond t (f (length e.block.bytes)) 0) ((Decides-eqb e.arena a).1 here)

pub if_in-other : (f : ℕ → ℕ) (a : ℕ) (e : Accepted) → e.arena ≢ a → if_in a f e ≡ 0
if_in-other f a e other =
    ap (λ t. cond t (f (length e.block.bytes)) 0) (test_false _ (Decides-eqb e.arena a).0 other)

-- a clump takes its header at least
pub some_taken : (version n : ℕ) → CLUMP_HEADER_LEN ≤ clump_len_in version n
some_taken version n = elim (version == 2) as
    (λ t. CLUMP_HEADER_LEN ≤ cond t (whole_units (CLUMP_HEADER_LEN + n)) (CLUMP_HEADER_LEN + n)) [
      | true ↦ omega arith
      | false ↦ omega arith
    ]

-- clumps of version 2 have whole sectors together
sum_whole : (lengths : List ℕ) → sum_by (clump_len_in 2) lengths % CLUMP_UNIT ≡ 0
sum_whole [] = refl
sum_whole (n ∷ more) = omega (arith, sum_by-cons (clump_len_in 2) n more, sum_whole more)

-- ---- places

pub slice_get-append : (xs ys : History) (i : ℕ) → i < length xs
    → slice_get (xs ++ ys) i ≡ slice_get xs i
slice_get-append [] ys i lt = absurd (omega arith)
slice_get-append (x ∷ xs) ys zero lt = refl
slice_get-append (x ∷ xs) ys (suc i) lt = slice_get-append xs ys i (omega arith)

slice_get-push : (xs : History) (x : Accepted) → slice_get (xs ++ x ∷ []) (length xs) ≡ Some x
slice_get-push [] x = refl
slice_get-push (y ∷ xs) x = slice_get-push xs x

in_arena : (offset clump first all directory len : ℕ) → offset + clump ≡ ARENA_HEAD_LEN + first
    → ARENA_HEAD_LEN ≤ offset → first ≤ all → CLUMP_HEADER_LEN ≤ clump
    → all + directory ≤ len - ARENA_HEAD_LEN → offset + clump + directory ≤ len
in_arena offset clump first all directory len end head less some room =
    omega (arith, end, head, less, some, room)

abbrev pub spot_behind : Setup → History → Accepted → Spot
spot_behind c before e =
    record { arena = e.arena; offset = offset_behind c e.arena (lengths_in e.arena before) }

module _ (c : Setup) (h : History) where
  spot_is : (i : ℕ) (e : Accepted) (s : Spot) → StandsAt c h i e s → s ≡ spot_behind c (take i h) e
  spot_is i e s at =
      let both : Some s ≡ Some (spot_behind c (take i h) e) = sym at.place
      ∙ ap (option_map (spot_behind c (take i h))) at.block in
      cc

  end_of : (i : ℕ) (e : Accepted) (s : Spot) → StandsAt c h i e s
      → s.offset + clump_len c s.arena (length e.block.bytes)
      ≡ offset_behind c s.arena (lengths_in s.arena (take (i + 1) h))
  end_of i e s at =
      let lt : i < length h = slice_get_within h i e at.block in
      let more = sum_by-lengths_in_more (clump_len c e.arena) e.arena h i e lt in
      let own = ap (if_in e.arena (clump_len c e.arena)) (get_or_from_slice_get h i e e at.block)
      ∙ if_in-this (clump_len c e.arena) e.arena e refl in
      subst (λ (s : Spot). s.offset + clump_len c s.arena (length e.block.bytes)
      ≡ offset_behind c s.arena (lengths_in s.arena (take (i + 1) h)))
      (sym (spot_is i e s at)) (omega (arith, more, own))

  pub behind_head : (i : ℕ) (e : Accepted) (s : Spot) → StandsAt c h i e s → ARENA_HEAD_LEN ≤ s.offset
  behind_head i e s at = omega (arith, ap (λ (s : Spot). s.offset) (spot_is i e s at))

  pub on_sector : (i : ℕ) (e : Accepted) (s : Spot) → version_of c s.arena ≡ 2 → StandsAt c h i e s
      → s.offset % CLUMP_UNIT ≡ 0
  on_sector i e s version at =
      let there = spot_is i e s at in
      let arena : s.arena ≡ e.arena = ap (λ (s : Spot). s.arena) there in
      let lengths = lengths_in e.arena (take i h) in
      let offset : s.offset ≡ ARENA_HEAD_LEN + sum_by (clump_len_in 2) lengths =
      ap (λ (s : Spot). s.offset) there
      ∙ ap (λ (v : ℕ). ARENA_HEAD_LEN + sum_by (clump_len_in v) lengths)
      (ap (version_of c) (sym arena) ∙ version) in
      omega (arith, offset, sum_whole lengths)

  pub behind_earlier : (i j : ℕ) (e f : Accepted) (s t : Spot) → StandsAt c h i e s
      → StandsAt c h j f t → s.arena ≡ t.arena → i < j
      → s.offset + clump_len c s.arena (length e.block.bytes) ≤ t.offset
  behind_earlier i j e f s t at_s at_t same before =
      let there = spot_is j f t at_t in
      let arena : s.arena ≡ f.arena = cc in
      let lt : j < length h = slice_get_within h j f at_t.block in
      let front : take (i + 1) (take j h) ≡ take (i + 1) h =
      sym (take-append-le (i + 1) (take j h) (drop j h) (omega (arith, length-take j h)))
      ∙ ap (take (i + 1)) (take-append-drop j h) in
      let used : History → ℕ = λ h. sum_by (clump_len c s.arena) (lengths_in s.arena h) in
      let here : t.offset ≡ offset_behind c s.arena (lengths_in s.arena (take j h)) =
      ap (λ (s : Spot). s.offset) there
      ∙ ap (λ a. offset_behind c a (lengths_in a (take j h))) (sym arena) in
      omega (
        arith,
        end_of i e s at_s,
        here,
        sum_by-lengths_in-take-le (clump_len c s.arena) s.arena (take j h) (i + 1),
        ap used front,
      )

  pub right_behind : (i : ℕ) (e f : Accepted) (s t : Spot) → StandsAt c h i e s
      → StandsAt c h (i + 1) f t → s.arena ≡ t.arena
      → s.offset + clump_len c s.arena (length e.block.bytes) ≡ t.offset
  right_behind i e f s t at_s at_t same =
      let there = spot_is (i + 1) f t at_t in
      let arena : s.arena ≡ f.arena = cc in
      end_of i e s at_s ∙ ap (λ a. offset_behind c a (lengths_in a (take (i + 1) h))) arena
      ∙ sym (ap (λ (s : Spot). s.offset) there)

  pub before_directory : (score : List ℕ → List ℕ) (i : ℕ) (e : Accepted) (s : Spot)
      → IsLegal score c h → StandsAt c h i e s
      → s.offset + clump_len c s.arena (length e.block.bytes) + directory_len c s.arena
      (length (lengths_in s.arena h)) ≤ slice_index c.arenas s.arena
  before_directory score i e s legal at =
      let a = s.arena in
      let room : needed c a (lengths_in a h) ≤ room_of c a = leb-true _ _ (legal.room a) in
      in_arena _ _ _ _ _ _ (end_of i e s at) (behind_head i e s at)
      (sum_by-lengths_in-take-le (clump_len c a) a h (i + 1))
      (some_taken (version_of c a) (length e.block.bytes)) room

  pub place_of-append : (more : History) (i : ℕ) → i < length h
      → place_of c (h ++ more) i ≡ place_of c h i
  place_of-append more i lt =
      ap (λ front. option_map (spot_behind c front) (slice_get (h ++ more) i))
      (take-append-le i h more (omega arith))
      ∙ ap (option_map (spot_behind c (take i h))) (slice_get-append h more i lt)

  pub place_of-push : (e : Accepted)
      → place_of c (h ++ e ∷ []) (length h) ≡ Some (spot_behind c h e)
  place_of-push e =
      ap (λ front. option_map (spot_behind c front) (slice_get (h ++ e ∷ []) (length h)))
      (take-append_seam h (e ∷ []))
      ∙ ap (option_map (spot_behind c h)) (slice_get-push h e)
