-- Counts of arenas.
use Rattle.std.proofs.Common.{◌≡◌, ℕ, zero, suc, ◌+◌, ◌<◌, ◌≤◌, List, [], ◌∷◌, length, take, get_or, refl, arith}
use Rattle.std.proofs.lemmas.List.Sums.{sum_by-cons}
use Rattle.vt_log.specs.Logs.{arena_count}
use Rattle.vt_part.specs.declared.part.Part.{Part}
use Rattle.vt_part.specs.Parts.{table_of, tables_of}
use Rattle.vt_part.specs.Table.{Table}

-- the arenas so far and those of the next partition are among all
pub count_within : {D : Type 0} (ps : List (Part D)) (i : ℕ) (d : Part D) → i < length ps
    → arena_count (tables_of (take i ps)) + (table_of (get_or ps i d)).count ≤ arena_count (tables_of ps)
count_within [] i d within = absurd (omega (arith, within))
count_within (p ∷ ps) zero d within =
    let all : arena_count (tables_of (p ∷ ps)) ≡ (table_of p).count + arena_count (tables_of ps) =
    sum_by-cons (λ (t : Table). t.count) (table_of p) (tables_of ps) in
    let none : arena_count (tables_of (take 0 (p ∷ ps))) ≡ 0 = refl in
    omega (arith, all, none)
count_within (p ∷ ps) (suc i) d within =
    let all : arena_count (tables_of (p ∷ ps)) ≡ (table_of p).count + arena_count (tables_of ps) =
    sum_by-cons (λ (t : Table). t.count) (table_of p) (tables_of ps) in
    let some : arena_count (tables_of (take (suc i) (p ∷ ps))) ≡ (table_of p).count + arena_count (tables_of (take i ps)) =
    sum_by-cons (λ (t : Table). t.count) (table_of p) (tables_of (take i ps)) in
    let rest = count_within ps i d (omega (arith, within)) in
    omega (arith, all, some, rest)
