-- What the plain store's blocks take of an arena.
use Rattle.std.proofs.Common.{◌≡◌, ◌≢◌, ℕ, ◌+◌, ◌-◌, ◌<◌, ◌≤◌, ◌==◌, ◌&&◌, List, [], ◌∷◌, length, get_or, take, Option, Some, None, Bool, true, false, nat_le, cond, ◌++◌, refl, sym, ◌∙◌, ap, arith, length-append, inl, inr}
use Rattle.std.specs.Prelude.{IsTrue, not, sum_by, slice_get, slice_index}
use Rattle.std.specs.Option.{option_map}
use Rattle.std.proofs.lemmas.Option.{slice_get-map}
use Rattle.std.proofs.lemmas.Bool.Decides.{nat_tests, Decides-eqb}
use Rattle.std.proofs.lemmas.Bool.{cases_lt, le-leb}
use Rattle.std.proofs.lemmas.List.Sums.{sum_by-cons, sum_by_push}
use Rattle.std.proofs.lemmas.List.{take-map, get_or-map, length-map, take_all, get_or_past}
use Rattle.vt_model.specs.declared.TheConstants.{WRITTEN_VERSION}
use Rattle.vt_model.specs.declared.stored.Stored.{Stored}
use Rattle.vt_model.specs.declared.layout.Left.{Left}
use Rattle.vt_model.specs.History.{History}
use Rattle.vt_model.specs.Places.{Setup, room_of, clump_len, directory_len_in, closes, fits, takes, lengths_in, last_arena, current_arena, next_arena, version_of}
use Rattle.vt_model.specs.Stored.{accepted, history_of}
use Rattle.vt_model.proofs.Adding.{last_arena_is}
use Rattle.vt_model.proofs.Lists.{test_false}
use Rattle.vt_model.proofs.Spots.{some_taken, if_in, sum_by-lengths_in-take-le, sum_by-lengths_in_more, if_in-this, if_in-other}

-- how many there are, as a sum
pub many_is : (lengths : List ℕ) → sum_by (λ n. 1) lengths ≡ length lengths
many_is [] = refl
many_is (n ∷ more) = omega (arith, many_is more, sum_by-cons (λ n. 1) n more)

module _ (f : ℕ → ℕ) (a : ℕ) (blocks : List Stored) where
  -- a sum over the first blocks that an arena has
  abbrev pub taken : ℕ → ℕ
  taken i = sum_by f (lengths_in a (history_of (take i blocks)))

  taken_is : (i : ℕ) → taken i ≡ sum_by f (lengths_in a (take i (history_of blocks)))
  taken_is i = ap (λ h. sum_by f (lengths_in a h)) (sym (take-map accepted i blocks))

  taken_more : (i : ℕ) (x : Stored) → i < length blocks → x ≡ get_or blocks i x
      → taken (i + 1) ≡ taken i + if_in a f (accepted x)
  taken_more i x lt is =
      let at : get_or (history_of blocks) i (accepted x) ≡ accepted x =
      get_or-map accepted blocks i x (accepted x) lt ∙ ap accepted (sym is) in
      let within : i < length (history_of blocks) = omega (arith, length-map blocks accepted) in
      omega (
        arith,
        taken_is i,
        taken_is (i + 1),
        sum_by-lengths_in_more f a (history_of blocks) i (accepted x) within,
        ap (if_in a f) at,
      )

  pub taken_this : (i : ℕ) (x : Stored) → i < length blocks → x ≡ get_or blocks i x → x.arena ≡ a
      → taken (i + 1) ≡ taken i + f (length x.bytes)
  taken_this i x lt is here =
      omega (arith, taken_more i x lt is, if_in-this f a (accepted x) here)

  pub taken_other : (i : ℕ) (x : Stored) → i < length blocks → x ≡ get_or blocks i x → x.arena ≢ a
      → taken (i + 1) ≡ taken i
  taken_other i x lt is other =
      omega (arith, taken_more i x lt is, if_in-other f a (accepted x) other)

  pub taken-le : (i : ℕ) → taken i ≤ sum_by f (lengths_in a (history_of blocks))
  taken-le i =
      omega (arith, taken_is i, sum_by-lengths_in-take-le f a (history_of blocks) i)

  pub taken_all : (i : ℕ) → length blocks ≤ i
      → taken i ≡ sum_by f (lengths_in a (history_of blocks))
  taken_all i all =
      ap (λ blocks. sum_by f (lengths_in a (history_of blocks))) (take_all i blocks all)

pub last_arena-history_of : (blocks : List Stored) (b : Stored)
    → slice_get blocks (length blocks - 1) ≡ Some b → last_arena 0 (history_of blocks) ≡ b.arena
last_arena-history_of blocks b at =
    let h = history_of blocks in
    last_arena_is 0 h (accepted b)
    (ap (λ n. slice_get h (n - 1)) (length-map blocks accepted)
    ∙ slice_get-map accepted blocks (length blocks - 1) ∙ ap (option_map accepted) at)

-- ---- one more block

le_true : (m n : ℕ) → m ≤ n → true ≡ nat_le m n
le_true m n h = grind (arith, nat_tests)

le_false : (m n : ℕ) → n < m → false ≡ nat_le m n
le_false m n h = grind (arith, nat_tests)

same_tests : (m n k l : ℕ) → (m ≤ n → k ≤ l) → (k ≤ l → m ≤ n) → nat_le m n ≡ nat_le k l
same_tests m n k l there back = elim (cases_lt n m) [
  | inl over ↦ elim (cases_lt l k) [
    | inl past ↦ sym (le_false m n over) ∙ le_false k l past
    | inr fit ↦ absurd (omega (arith, over, back fit))
  ]
  | inr fit ↦ sym (le_true m n fit) ∙ le_true k l (there fit)
]

past_room : (own all used one room : ℕ) → all ≡ used + one → room < used → room < all + own
past_room own all used one room is past = omega (arith, is, past)

behind : (own all used one left room : ℕ) → all ≡ used + one → used ≤ room → left ≡ room - used
    → (one + own ≤ left → all + own ≤ room) × (all + own ≤ room → one + own ≤ left)
behind own all used one left room is within left_is =
    (λ fit. omega (arith, is, within, left_is, fit), λ fit. omega (arith, is, within, left_is, fit))

module _ (c : Setup) (a : ℕ) (lengths : List ℕ) (n : ℕ) where
  all_used : sum_by (clump_len c a) (lengths ++ n ∷ [])
      ≡ sum_by (clump_len c a) lengths + clump_len c a n
  all_used = sum_by_push (clump_len c a) lengths n

  one_more : length (lengths ++ n ∷ []) ≡ length lengths + 1
  one_more = omega (arith, length-append lengths (n ∷ []))

  pub fits_none : ¬ (sum_by (clump_len c a) lengths ≤ room_of c a)
      → false ≡ fits c a (lengths ++ n ∷ [])
  fits_none over =
      let past : room_of c a < sum_by (clump_len c a) lengths = omega (arith, over) in
      le_false _ _ (past_room (directory_len_in (version_of c a) (length (lengths ++ n ∷ []))) _ _ _ _
      all_used past)

  pub fits_is : (left : Left) → (sum_by (clump_len c a) lengths ≤ room_of c a)
      × (left ≡ record {
        room = room_of c a - sum_by (clump_len c a) lengths;
        clumps = length lengths;
      })
      → nat_le (clump_len c a n + directory_len_in (version_of c a) (left.clumps + 1)) left.room
      ≡ fits c a (lengths ++ n ∷ [])
  fits_is left is =
      let left_is : left.room ≡ room_of c a - sum_by (clump_len c a) lengths =
      ap (λ (l : Left). l.room) is.1 in
      let own = directory_len_in (version_of c a) (length lengths + 1) in
      let room = behind own (sum_by (clump_len c a) (lengths ++ n ∷ []))
      (sum_by (clump_len c a) lengths) (clump_len c a n) left.room (room_of c a) all_used is.0
      left_is in
      ap (λ (k : ℕ). nat_le (clump_len c a n + directory_len_in (version_of c a) (k + 1)) left.room)
      (ap (λ (l : Left). l.clumps) is.1)
      ∙ same_tests _ _ _ _ room.0 room.1
      ∙ ap (λ (k : ℕ). nat_le (sum_by (clump_len c a) (lengths ++ n ∷ [])
      + directory_len_in (version_of c a) k) (room_of c a)) (sym one_more)

-- behind no block
pub fits_alone : (c : Setup) (a n : ℕ)
    → nat_le (clump_len c a n + directory_len_in (version_of c a) 1) (room_of c a)
    ≡ fits c a (n ∷ [])
fits_alone c a n =
    let same : room_of c a ≡ room_of c a - 0 = omega arith in
    fits_is c a [] n (record { room = room_of c a; clumps = 0 })
    (omega arith, ap (λ (k : ℕ). record { room = k; clumps = 0 }) same)

past_none : (len all used one own : ℕ) → len ≡ 0 → 38 ≤ one → all ≡ used + one
    → len - 24576 < all + own
past_none len all used one own none some is = omega (arith, none, some, is)

-- nothing fits an arena that isn't there
pub fits_past : (c : Setup) (a : ℕ) (lengths : List ℕ) (n : ℕ) → length c.arenas ≤ a
    → false ≡ fits c a (lengths ++ n ∷ [])
fits_past c a lengths n past =
    let room : slice_index c.arenas a ≡ 0 = get_or_past c.arenas a 0 past in
    let one : 38 ≤ clump_len c a n = some_taken (version_of c a) n in
    let all = all_used c a lengths n in
    le_false _ _ (past_none _ _ _ _ _ room one all)

-- an arena of the version that is written takes what fits there
pub takes_is : (c : Setup) (a : ℕ) (lengths : List ℕ) (n : ℕ)
    → (a < length c.arenas → version_of c a ≡ WRITTEN_VERSION)
    → takes c a (lengths ++ n ∷ []) ≡ fits c a (lengths ++ n ∷ [])
takes_is c a lengths n written = elim (cases_lt a (length c.arenas)) [
  | inl there ↦ ap (λ (v : ℕ). (v == WRITTEN_VERSION) && fits c a (lengths ++ n ∷ [])) (written there)
  | inr past ↦
      let none = fits_past c a lengths n past in
      ap (λ (t : Bool). (version_of c a == WRITTEN_VERSION) && t) (sym none)
      ∙ and_false (version_of c a == WRITTEN_VERSION) ∙ none
]
  where
    and_false : (b : Bool) → (b && false) ≡ false
    and_false true = refl
    and_false false = refl

-- an arena takes nothing that doesn't fit, and nothing where it is of another version
pub full_takes_none : (c : Setup) (a : ℕ) (lengths : List ℕ) → false ≡ fits c a lengths
    → false ≡ takes c a lengths
full_takes_none c a lengths full =
    by (version_of c a == WRITTEN_VERSION) (fits c a lengths) full
  where
    by : (b d : Bool) → false ≡ d → false ≡ (b && d)
    by true d full = full
    by false d full = refl

pub other_takes_none : (c : Setup) (a : ℕ) (lengths : List ℕ) → version_of c a ≢ WRITTEN_VERSION
    → false ≡ takes c a lengths
other_takes_none c a lengths other =
    ap (λ t. t && fits c a lengths)
    (sym (test_false _ (Decides-eqb (version_of c a) WRITTEN_VERSION).0 other))

-- nothing takes no room
pub nothing_fits : (c : Setup) (a : ℕ) → IsTrue (fits c a [])
nothing_fits c a = le-leb _ _ (none_taken (version_of c a) (room_of c a))
  where
    none_taken : (version room : ℕ) → 0 + directory_len_in version 0 ≤ room
    none_taken version room = elim (version == 2) as (λ t. 0 + cond t 0 0 ≤ room) [
      | true ↦ omega arith
      | false ↦ omega arith
    ]

-- where the current arena doesn't take the block, it goes to the next one, or nowhere
chosen_after : (c : Setup) (h : History) (n : ℕ) (there : Bool) → let a = current_arena c h in
    false ≡ takes c a (lengths_in a h ++ n ∷ [])
    → there ≡ (closes c a && fits c (a + 1) (n ∷ []))
    → cond there (Some (a + 1)) None ≡ next_arena c h n
chosen_after c h n there full next_is =
    let a = current_arena c h in
    let next : Bool → Bool
    → Option ℕ = λ here there. cond here (Some a) (cond there (Some (a + 1)) None) in
    ap (λ t. next t there) full ∙ ap (next (takes c a (lengths_in a h ++ n ∷ []))) next_is

pub next_arena_none : (c : Setup) (h : History) (n : ℕ) → let a = current_arena c h in
    false ≡ takes c a (lengths_in a h ++ n ∷ []) → ¬ (a + 1 < length c.arenas)
    → None ≡ next_arena c h n
next_arena_none c h n full last =
    let a = current_arena c h in
    let no : false ≡ fits c (a + 1) (n ∷ []) = fits_past c (a + 1) [] n (omega (arith, last)) in
    chosen_after c h n false full (by (closes c a) (fits c (a + 1) (n ∷ [])) no)
  where
    by : (b d : Bool) → false ≡ d → false ≡ (b && d)
    by true d full = full
    by false d full = refl

-- behind an arena of version 2 nothing goes
pub next_arena_two : (c : Setup) (h : History) (n : ℕ) → let a = current_arena c h in
    version_of c a ≡ 2 → None ≡ next_arena c h n
next_arena_two c h n two =
    let a = current_arena c h in
    chosen_after c h n false
    (ap (λ (v : ℕ). (v == WRITTEN_VERSION) && fits c a (lengths_in a h ++ n ∷ [])) (sym two))
    (ap (λ (v : ℕ). not (v == 2) && fits c (a + 1) (n ∷ [])) (sym two))
