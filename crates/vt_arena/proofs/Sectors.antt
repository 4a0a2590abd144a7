-- What clumps of version 2 say of the sectors of those before them.
use Rattle.std.proofs.Common.{◌≡◌, ℕ, zero, suc, ◌*◌, ◌/◌, ◌^◌, ◌<◌, ◌≤◌, ◌==◌, Bool, true, false, cond, Option, Some, None, List, [], ◌∷◌, ◌++◌, length, drop, refl, sym, ◌∙◌, ap, arith}
use Rattle.std.specs.Prelude.{nat_lt}
use Rattle.std.proofs.lemmas.Bool.{ltb-false}
use Rattle.std.proofs.lemmas.Bool.Decides.{nat_tests}
use Rattle.std.proofs.lemmas.List.{take_at, drop_at, drop-drop}
use Rattle.byteorder.specs.Endian.{big_bytes, big_number}
use Rattle.byteorder.specs.Numbers.{big_number-reads_back}
use Rattle.vt_clump.specs.Spelling.{Stored, IsStoredBlock, clump_header, sizes}
use Rattle.vt_arena.specs.Directory.{entry_in_header, sectors_before}
use Rattle.vt_arena.specs.Layout.{AreLinked, arena_entry, used_of}
use Rattle.vt_arena.specs.Places.{bad_last, block_room, last_sectors, lengths_of, sectors_of}
use Rattle.vt_arena.proofs.Layouts.{used-cons}
use Rattle.vt_arena.proofs.Stage.{some_test}

-- a clump takes its sectors, and has some
pub sectors_are : (n : ℕ) → (block_room 2 n ≡ 512 * sectors_of n) × (0 < sectors_of n)
sectors_are n = (omega arith, omega arith)

pub none_then : {T : Type 0} (b : Bool) (it : T) (later : Option T) → cond b (Some it) later ≡ None → (b ≡ false) × (later ≡ None)
none_then true it later none = absurd (cc)
none_then false it later none = (refl, none)

-- the tests of the last clump's sectors: without clumps, with some, and of those that aren't none
abbrev bad_of_none : (last : ℕ) → Option ℕ
bad_of_none last = cond (last == 0) None (Some 0)

abbrev bad_of_many : (used last : ℕ) → Option ℕ
bad_of_many used last = cond (nat_lt (used / 512) last) (Some (used / 512)) None

abbrev bad_of_some : (used last : ℕ) → Option ℕ
bad_of_some used last = cond (last == 0) (Some 1) (bad_of_many used last)

-- the last of some clumps lies among them
pub last_within : (clumps used last : ℕ) → bad_last clumps used last ≡ None → 0 < clumps → (0 < last) × (512 * last ≤ used)
last_within clumps used last none some =
    let is_some : clumps == 0 ≡ false = grind (arith, nat_tests) in
    let inner : bad_of_some used last ≡ None =
    ap (λ (b : Bool). cond b (bad_of_none last) (bad_of_some used last)) (sym is_some) ∙ none in
    let first = none_then {T = ℕ} (last == 0) 1 (bad_of_many used last) inner in
    let second = none_then {T = ℕ} (nat_lt (used / 512) last) (used / 512) None first.1 in
    let above : 0 < last = let h = first.0 in grind (arith, nat_tests) in
    let below : last ≤ used / 512 = ltb-false _ _ second.0 in
    (above, omega (arith, below))

some_none : (n : ℕ) → Some n ≡ None → ⊥
some_none n is = cc

pub last_none : (clumps used last : ℕ) → bad_last clumps used last ≡ None → clumps ≡ 0 → last ≡ 0
last_none clumps used last none is_zero =
    let no_clumps : clumps == 0 ≡ true = grind (arith, nat_tests) in
    let inner : bad_of_none last ≡ None =
    ap (λ (b : Bool). cond b (bad_of_none last) (bad_of_some used last)) (sym no_clumps) ∙ none in
    by last inner
  where
    by : (n : ℕ) → bad_of_none n ≡ None → n ≡ 0
    by zero is = refl
    by (suc n) is = absurd (some_none 0 (ap (λ (b : Bool). cond {A = Option ℕ} b None (Some 0)) (sym (some_test n)) ∙ is))

pub last_passes : (clumps used last : ℕ) → 0 < clumps → 0 < last → 512 * last ≤ used → bad_last clumps used last ≡ None
last_passes clumps used last some above below =
    let is_some : clumps == 0 ≡ false = grind (arith, nat_tests) in
    let has_some : last == 0 ≡ false = grind (arith, nat_tests) in
    let few : last ≤ used / 512 = omega (arith, below) in
    let most : nat_lt (used / 512) last ≡ false = grind (arith, nat_tests) in
    ap (λ (b : Bool). cond b (bad_of_none last) (bad_of_some used last)) is_some
    ∙ ap (λ (b : Bool). cond {A = Option ℕ} b (Some 1) (bad_of_many used last)) has_some
    ∙ ap (λ (b : Bool). cond {A = Option ℕ} b (Some (used / 512)) None) most

last_some : (before : ℕ) (x : Stored) (xs : List Stored) → (0 < last_sectors before (lengths_of (x ∷ xs))) × (512 * last_sectors before (lengths_of (x ∷ xs)) ≤ used_of 2 (x ∷ xs))
last_some before x [] = let own = sectors_are (length x.block) in (own.1, omega (arith, own.0, used-cons 2 x []))
last_some before x (y ∷ ys) =
    let rest = last_some (sectors_of (length x.block)) y ys in
    (rest.0, omega (arith, rest.1, used-cons 2 x (y ∷ ys)))

pub last_most : (xs : List Stored) → 512 * last_sectors 0 (lengths_of xs) ≤ used_of 2 xs
last_most [] = omega arith
last_most (x ∷ xs) = (last_some 0 x xs).1

-- the clumps that an arena holds
pub last_known : (xs : List Stored) → bad_last (length xs) (used_of 2 xs) (last_sectors 0 (lengths_of xs)) ≡ None
last_known [] = refl
last_known (x ∷ xs) =
    let some = last_some 0 x xs in
    last_passes (length (x ∷ xs)) (used_of 2 (x ∷ xs)) (last_sectors 0 (lengths_of (x ∷ xs))) (omega arith) some.0 some.1

pub last_push : (before : ℕ) (xs : List Stored) (t : Stored) → last_sectors before (lengths_of (xs ++ t ∷ [])) ≡ sectors_of (length t.block)
last_push before [] t = refl
last_push before (x ∷ xs) t = last_push (sectors_of (length x.block)) xs t

-- each names the one before it
pub linked_at : (before : ℕ) (xs : List Stored) (s : Stored) (ys : List Stored) → AreLinked before (xs ++ s ∷ ys) → s.creator ≡ big_bytes 4 (last_sectors before (lengths_of xs))
linked_at before [] s ys linked = linked.0
linked_at before (x ∷ xs) s ys linked = linked_at (sectors_of (length x.block)) xs s ys linked.1

-- a header has the fields of its block's entry
pub entry_of_header : (score_of : List ℕ → List ℕ) (s : Stored) → IsStoredBlock score_of s → entry_in_header (clump_header s) ≡ arena_entry s
entry_of_header score_of s is =
    ap (λ (l : List ℕ). s.kind ∷ (sizes (length s.block) ++ l)) (take_at s.score (1 ∷ (s.creator ++ big_bytes 4 s.time)) 20 is.score_len)

-- and says what it names
pub before_of_header : (score_of : List ℕ → List ℕ) (s : Stored) (n : ℕ) → IsStoredBlock score_of s → s.creator ≡ big_bytes 4 n → n < 2 ^ 32
    → sectors_before (clump_header s) ≡ n
before_of_header score_of s n is creator fits =
    let behind : List ℕ = 1 ∷ (s.creator ++ big_bytes 4 s.time) in
    let at_29 : drop 29 (clump_header s) ≡ behind =
    sym (drop-drop 20 9 (clump_header s)) ∙ drop_at s.score behind 20 is.score_len in
    let at_30 : drop 30 (clump_header s) ≡ s.creator ++ big_bytes 4 s.time =
    sym (drop-drop 1 29 (clump_header s)) ∙ ap (λ (l : List ℕ). drop 1 l) at_29 in
    ap (λ (l : List ℕ). big_number 4 l) (at_30 ∙ ap (λ (l : List ℕ). l ++ big_bytes 4 s.time) creator)
    ∙ big_number-reads_back 4 n (big_bytes 4 s.time) fits
