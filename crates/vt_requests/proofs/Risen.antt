-- Counts of failed calls, of which one has risen.
use Rattle.std.proofs.Common.{⊎_elim, inl, inr, ◌-◌, ◌^◌, ◌<◌, ◌≤◌, ℕ, zero, suc, List, [], ◌∷◌, map, sym, subst, arith}
use Rattle.std.proofs.lemmas.Bool.{cases_lt}
use Rattle.std.specs.Prelude.{slice_index}
use Rattle.vt_base.specs.Faults.{HasRisen}
use Rattle.vt_log.specs.Faults.{OneHasRisen}
use Rattle.vt_model.specs.Causes.{NoneFell, OneRose}
use Rattle.vt_recover.proofs.Places.{one_or_other}

-- ---- no count falls, since each fits its type

-- the counts of these fit
abbrev pub AllFit : List ℕ → Type 0
AllFit ns = (i : ℕ) → slice_index ns i < 2 ^ 64

pub fits_in : {X : Type 0} (f : X → ℕ) → ((x : X) → f x < 2 ^ 64) → (xs : List X) → AllFit (map f xs)
fits_in f each [] i = omega arith
fits_in f each (x ∷ xs) zero = each x
fits_in f each (x ∷ xs) (suc i) = fits_in f each xs i

pub same_fell : (ns : List ℕ) → NoneFell ns ns
same_fell ns i = omega arith

pub fell_then : (a b c : List ℕ) → NoneFell a b → NoneFell b c → NoneFell a c
fell_then a b c first second i = omega (arith, first i, second i)

rose_up : (old new : ℕ) → old < 2 ^ 64 → HasRisen old new → old ≤ new
rose_up old new fits is = ⊎_elim (λ below. omega (arith, below, is)) (λ above. omega (arith, above, is, fits)) (cases_lt old (2 ^ 64 - 1))

pub rose_fell : (old new : List ℕ) → AllFit old → OneHasRisen old new → NoneFell old new
rose_fell old new fit it i = ⊎_elim
    (λ same. subst (λ (j : ℕ). slice_index old j ≤ slice_index new j) (sym same) (rose_up (slice_index old it.which) (slice_index new it.which) (fit it.which) it.rose))
    (λ other. omega (arith, it.others i other)) (one_or_other i it.which)

-- one that rose has risen, whatever rose_between later
pub rose_then : (old mid new : List ℕ) → AllFit new → OneRose old mid → NoneFell mid new → OneRose old new
rose_then old mid new fit it fell = (
  it.0,
  ⊎_elim
      (λ less. inl (omega (arith, less, fell it.0)))
      (λ last. inr (omega (arith, last, fell it.0, fit it.0))) it.1,
)
