-- The greatest number of some entries, one after another.
use Rattle.std.proofs.Common.{◌≡◌, ⊎_elim, ℕ, ◌+◌, ◌<◌, ◌≤◌, max, List, [], ◌∷◌, ◌++◌, take, Option, Some, None, sym, ap, subst, arith}
use Rattle.std.specs.Prelude.{MatchOption}
use Rattle.std.specs.List.{Contains}
use Rattle.std.specs.Option.{unwrap_or}
use Rattle.std.proofs.lemmas.Bool.{cases_lt}
use Rattle.std.proofs.lemmas.List.Elements.{Contains-push, Contains-push_cases, Contains-append_left}
use Rattle.lru.proofs.Splits.{Contains-nil}
use Rattle.vt_base.specs.declared.place.Info.{Info}
use Rattle.vt_shard.specs.Shard.{IsAboveAll}

abbrev pub IsGreatest : List Info → ℕ → Type 0
IsGreatest infos greatest = ((info : Info) → Contains infos info → info.number ≤ greatest)
    × ((info : Info) × Contains infos info × (greatest ≡ info.number))

pub greatest_more : (front infos : List Info) (y : Info) (o : Option ℕ) (m : ℕ) → infos ≡ front ++ y ∷ []
    → MatchOption o (front ≡ []) (IsGreatest front) → m ≡ max y.number (unwrap_or o 0) → IsGreatest infos m
greatest_more front infos y None m is empty m_is = subst (λ (l : List Info). IsGreatest l m) (sym is) (
  (λ info it. ⊎_elim
      (λ (was : Contains front info). absurd (Contains-nil info (subst (λ (l : List Info). Contains l info) empty was)))
      (λ (same : y ≡ info). let e = ap (λ (x : Info). x.number) same in omega (arith, m_is, e))
      (Contains-push_cases front y info it)),
  (y, Contains-push front y, omega (arith, m_is)),
)
greatest_more front infos y (Some g) m is all m_is = subst (λ (l : List Info). IsGreatest l m) (sym is) (
  (λ info it. ⊎_elim
      (λ (was : Contains front info). let le = all.0 info was in omega (arith, m_is, le))
      (λ (same : y ≡ info). let e = ap (λ (x : Info). x.number) same in omega (arith, m_is, e))
      (Contains-push_cases front y info it)),
  ⊎_elim
      (λ (low : y.number < g). (all.1.0, Contains-append_left front (y ∷ []) all.1.0 all.1.1, let e = all.1.2 in omega (arith, m_is, low, e)))
      (λ (high : g ≤ y.number). (y, Contains-push front y, omega (arith, m_is, high)))
      (cases_lt y.number g),
)

pub front_empty : (xs : List Info) (i : ℕ) (o : Option ℕ) (Q : ℕ → Type 0) → MatchOption o (i ≡ 0) Q → MatchOption o (take i xs ≡ []) Q
front_empty xs i None Q none = ap (λ (n : ℕ). take n xs) none
front_empty xs i (Some g) Q some = some

pub above_greatest : (infos : List Info) (g : ℕ) → IsGreatest infos g → IsAboveAll infos (g + 1)
above_greatest infos g it = record {
  above = λ info has. let le = it.0 info has in omega (arith, le);
  least = (it.1.0, it.1.1, ap (λ (n : ℕ). n + 1) it.1.2);
}
