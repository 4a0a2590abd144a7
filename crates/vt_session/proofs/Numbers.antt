-- The numbers of added blocks.
use Rattle.std.proofs.Common.{◌≡◌, ℕ, zero, suc, ◌+◌, ◌<◌, ◌≤◌, List, [], ◌∷◌, ◌++◌, length, Option, Some, None, refl, arith, add-one}
use Rattle.std.specs.Prelude.{map, slice_get}
use Rattle.std.specs.List.{All, AllByRecursion}
use Rattle.std.specs.Option.{option_to_list}
use Rattle.std.specs.List.Sorted.{IsStrictlyIncreasing}
use Rattle.std.proofs.lemmas.List.Elements.{All-from_recursion}
use Rattle.vt_model.specs.History.{Accepted, History}
use Rattle.vt_model.specs.Places.{Setup}
use Rattle.vt_session.specs.Turns.{Turn, told, served, failed, added_of, added_numbers}
use Rattle.vt_session.specs.Answered.{IsAddedAt, number_after, AnsweredBy}
use Rattle.vt_session.proofs.Turns.{get_within}

abbrev IsWithin : ℕ → ℕ → ℕ → Type 0
IsWithin low high n = (low ≤ n) × (n < high)

within_lower : (low low' high : ℕ) (numbers : List ℕ) → low ≤ low'
    → AllByRecursion (IsWithin low' high) numbers → AllByRecursion (IsWithin low high) numbers
within_lower low low' high [] le x = tt
within_lower low low' high (n ∷ numbers) le x =
    ((omega (arith, le, x.0.0), x.0.1), within_lower low low' high numbers le x.1)

rising_more : (n high : ℕ) (numbers : List ℕ) → AllByRecursion (IsWithin (n + 1) high) numbers
    → IsStrictlyIncreasing numbers → IsStrictlyIncreasing (n ∷ numbers)
rising_more n high [] within rising zero lt = absurd (omega arith)
rising_more n high [] within rising (suc k) lt = absurd (omega arith)
rising_more n high (m ∷ numbers) within rising zero lt = omega (arith, within.0.0)
rising_more n high (m ∷ numbers) within rising (suc k) lt =
    let next = rising k (omega (arith, lt)) in
    simp add-one (simp add-one at next)

-- the numbers of these blocks, from the least on
record AreNumbers (h : History) (low : ℕ) (numbers : List ℕ) (blocks : List Accepted) : Type 0 where
  within : AllByRecursion (IsWithin low (length h)) numbers
  rising : IsStrictlyIncreasing numbers
  stand : map (slice_get h) numbers ≡ map Some blocks

-- what an operation added, and what came behind it
numbers_joined : (h : History) (low n : ℕ) (added : Option Accepted) (numbers : List ℕ)
    (blocks : List Accepted) → low ≤ n → IsAddedAt h n added
    → AreNumbers h (number_after n added) numbers blocks
    → AreNumbers h low (map (λ _. n) (option_to_list added) ++ numbers)
    (option_to_list added ++ blocks)
numbers_joined h low n None numbers blocks le stands x = record {
  within = within_lower low n (length h) numbers le x.within;
  rising = x.rising;
  stand = x.stand;
}
numbers_joined h low n (Some e) numbers blocks le stands x =
    let here : slice_get h n ≡ Some e = stands in
    let rest : map (slice_get h) numbers ≡ map Some blocks = x.stand in
    record {
      within = (
        (le, get_within h n e here),
        within_lower low (n + 1) (length h) numbers (omega (arith, le)) x.within,
      );
      rising = rising_more n (length h) numbers x.within x.rising;
      stand = cc;
    }

module _ (score : List ℕ → List ℕ) (c : Setup) (h : History) where
  numbers_of : (low high : ℕ) (turns : List Turn) → AnsweredBy score c h low high turns
      → AreNumbers h low (added_numbers turns) (added_of turns)
  numbers_of low high [] x =
      record { within = tt; rising = λ k lt. absurd (omega arith); stand = refl }
  numbers_of low high (told tag reply ∷ turns) x = numbers_of low high turns x
  numbers_of low high (served tag operation n outcome ∷ turns) x =
      numbers_joined h low n outcome.added (added_numbers turns) (added_of turns) x.0 x.3
      (numbers_of (number_after n outcome.added) high turns x.4)
  numbers_of low high (failed tag operation n cause ∷ turns) x =
      numbers_joined h low n None (added_numbers turns) (added_of turns) x.0 tt
      (numbers_of n high turns x.3)

  pub numbers_within : (low high : ℕ) (turns : List Turn) → AnsweredBy score c h low high turns
      → All (λ n. (low ≤ n) × (n < length h)) (added_numbers turns)
  numbers_within low high turns x =
      All-from_recursion (IsWithin low (length h)) (added_numbers turns)
      (numbers_of low high turns x).within

  pub numbers_rise : (low high : ℕ) (turns : List Turn) → AnsweredBy score c h low high turns
      → IsStrictlyIncreasing (added_numbers turns)
  numbers_rise low high turns x = (numbers_of low high turns x).rising

  pub numbers_stand : (low high : ℕ) (turns : List Turn) → AnsweredBy score c h low high turns
      → map (slice_get h) (added_numbers turns) ≡ map Some (added_of turns)
  numbers_stand low high turns x = (numbers_of low high turns x).stand
