-- What clumps take of an arena, and what is tested in version 2 alone.
use Rattle.std.proofs.Common.{◌≡◌, ◌∙◌, ⊎_elim, inl, inr, ℕ, zero, suc, ◌+◌, ◌-◌, ◌<◌, ◌≤◌, ◌==◌, ◌&&◌, Bool, true, false, not, cond, Option, None, List, [], ◌∷◌, length, take, drop, refl, sym, ap, arith, length-take}
use Rattle.std.specs.Prelude.{IsTrue, ◌||◌}
use Rattle.std.proofs.lemmas.Bool.{cases_lt}
use Rattle.std.proofs.lemmas.Bool.Decides.{Decides-eqb}
use Rattle.std.proofs.lemmas.List.{drop-drop, drop_all, take_all}
use Rattle.vt_arena.specs.Places.{IsVersion}
use Rattle.vt_clump.specs.Spelling.{clump_len, size_in}
use Rattle.vt_disk.specs.Disk.{part}
use Rattle.vt_model.specs.Places.{whole_units}
use Rattle.vt_check.specs.declared.checking.Damage.{Damage}
use Rattle.vt_check.specs.Checking.{clump_in, in_second, taken}

-- ---- what clumps take

-- a clump takes no less than its bytes, and less than a sector more
pub taken_least : (version n : ℕ) → n ≤ taken version n
taken_least version n = elim (version == 2) as (λ t. n ≤ cond t (whole_units n) n) [
  | true ↦ omega arith
  | false ↦ omega arith
]

pub taken_most : (version n : ℕ) → taken version n ≤ n + 511
taken_most version n = elim (version == 2) as (λ t. cond t (whole_units n) n ≤ n + 511) [
  | true ↦ omega arith
  | false ↦ omega arith
]

-- behind a clump stands what stands behind what its bytes take
pub behind_clump : (version : ℕ) (bytes : List ℕ) → drop (taken version (clump_len (size_in bytes))) bytes ≡ drop (taken version (length (clump_in bytes))) bytes
behind_clump version bytes =
    let n : ℕ = clump_len (size_in bytes) in
    let k : ℕ = length (clump_in bytes) in
    ⊎_elim
    (λ (past : length bytes < n).
    let whole : k ≡ length bytes = omega (arith, past, length-take n bytes) in
    drop_all (taken version n) bytes (omega (arith, past, taken_least version n))
    ∙ sym (drop_all (taken version k) bytes (omega (arith, whole, taken_least version k))))
    (λ (inside : n ≤ length bytes).
    let same : n ≡ k = omega (arith, inside, length-take n bytes) in
    ap (λ (m : ℕ). drop (taken version m) bytes) same)
    (cases_lt (length bytes) n)

-- what lies behind so many bytes of a part
pub part_behind : (place m t : ℕ) (file : List ℕ) → drop t (part place m file) ≡ part (place + t) (m - t) file
part_behind place m t file = shorter t m (drop place file) ∙ ap (λ (l : List ℕ). take (m - t) l) (drop-drop t place file)
  where
    shorter : (t m : ℕ) (xs : List ℕ) → drop t (take m xs) ≡ take (m - t) (drop t xs)
    shorter zero m xs = let same : m ≡ m - zero = omega arith in ap (λ (k : ℕ). take k xs) same
    shorter (suc t) zero xs = let none : zero ≡ zero - suc t = omega arith in ap (λ (k : ℕ). take k (drop (suc t) xs)) none
    shorter (suc t) (suc m) [] = sym (take_all (suc m - suc t) [] (omega arith))
    shorter (suc t) (suc m) (x ∷ xs) =
        let same : m - t ≡ suc m - suc t = omega arith in
        shorter t m xs ∙ ap (λ (k : ℕ). take k (drop t xs)) same

-- ---- what is tested in version 2 alone

pub second_none : (version : ℕ) (damage : Option Damage) → (version ≡ 2 → damage ≡ None) → in_second version damage ≡ None
second_none version damage none =
    (elim (version == 2) as (λ t. (version == 2) ≡ t → cond t damage None ≡ None) [
      | true ↦ λ is. none ((Decides-eqb version 2).0 is)
      | false ↦ λ is. refl
    ]) refl

pub second_passes : (version : ℕ) (damage : Option Damage) → in_second version damage ≡ None → version ≡ 2 → damage ≡ None
second_passes version damage none two =
    ap (λ (b : Bool). cond b damage None) (sym ((Decides-eqb version 2).1 two)) ∙ none

-- ---- which way an arena is walked

and_false : (b : Bool) → (b && false) ≡ false
and_false true = refl
and_false false = refl

-- where there is a directory a walk goes by that
pub walks_off : (version : ℕ) (sealed : Bool) → IsVersion version → IsTrue (sealed || version == 1) → (version == 2 && not sealed) ≡ false
walks_off version true is has = and_false (version == 2)
walks_off version false is has =
    let one : version ≡ 1 = (Decides-eqb version 1).0 has in
    ap (λ (v : ℕ). v == 2 && true) one

-- and there is one where it does
pub has_by : (version : ℕ) (sealed : Bool) → IsVersion version → (version == 2 && not sealed) ≡ false → IsTrue (sealed || version == 1)
has_by version true is none = refl
has_by version false (inl one) none = ap (λ (v : ℕ). v == 1) one
has_by version false (inr two) none = let wrong : true ≡ false = ap (λ (v : ℕ). v == 2 && true) (sym two) ∙ none in absurd (cc)
