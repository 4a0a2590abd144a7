-- In which partition an arena stands.
use Rattle.std.proofs.Common.{◌≡◌, ◌<◌, ◌≤◌, ◌+◌, ◌-◌, ℕ, zero, suc, List, [], ◌∷◌, get_or, length, take, Option, Some, refl, ◌∙◌, ap, arith, length-append}
use Rattle.std.specs.Prelude.{slice_get, sum_by}
use Rattle.std.specs.List.{flat_map, enumerate_from, range_with_len}
use Rattle.std.specs.Option.{option_map, option_map_or}
use Rattle.std.proofs.lemmas.List.{length-map}
use Rattle.std.proofs.lemmas.List.Sums.{sum_by-cons, sum_by_more}
use Rattle.std.proofs.lemmas.Option.{get_or_from_slice_get, slice_get-map, slice_get_past, slice_get_read, slice_get_within}
use Rattle.vt_part.specs.Layout.{arena_of, arenas_of_table, layout_of}
use Rattle.vt_part.specs.Parts.{table_of, tables_of}
use Rattle.vt_part.specs.Table.{Table}
use Rattle.vt_part.specs.declared.part.Part.{Part}
use Rattle.vt_part.specs.declared.layout.ArenaRegion.{ArenaRegion}
use Rattle.vt_mount_errors.specs.MountErrors.{partition_of}
use Rattle.vt_log.proofs.Lists.{slice_get_left, slice_get_right}

abbrev laid : ℕ → List Table → List ArenaRegion
laid first tables = flat_map (λ numbered. arenas_of_table numbered.0 numbered.1) (enumerate_from first tables)

length_range : (a n : ℕ) → length (range_with_len a n) ≡ n
length_range a zero = refl
length_range a (suc n) = omega (arith, length_range (a + 1) n)

get_range : (a n i : ℕ) → i < n → slice_get (range_with_len a n) i ≡ Some (a + i)
get_range a zero i lt = absurd (omega (arith, lt))
get_range a (suc n) zero lt = ap (λ (k : ℕ). Some k) (omega arith)
get_range a (suc n) (suc i) lt = get_range (a + 1) n i (omega (arith, lt)) ∙ ap (λ (k : ℕ). Some k) (omega arith)

length_arenas : (part : ℕ) (t : Table) → length (arenas_of_table part t) ≡ t.count
length_arenas part t = length-map (range_with_len 0 t.count) (arena_of part t) ∙ length_range 0 t.count

-- an arena of the first partition, and one of the others
here : (first : ℕ) (t : Table) (tables : List Table) (i : ℕ) → i < t.count → option_map_or (λ r. r.part) (slice_get (laid first (t ∷ tables)) i) 0 ≡ first
here first t tables i lt =
    let inside : i < length (arenas_of_table first t) = omega (arith, lt, length_arenas first t) in
    let it : slice_get (laid first (t ∷ tables)) i ≡ Some (arena_of first t (0 + i)) =
    slice_get_left (arenas_of_table first t) (laid (first + 1) tables) i inside ∙ slice_get-map (arena_of first t) (range_with_len 0 t.count) i
    ∙ ap (option_map (arena_of first t)) (get_range 0 t.count i lt) in
    ap (λ (o : Option ArenaRegion). option_map_or (λ r. r.part) o 0) it

behind : (first : ℕ) (t : Table) (tables : List Table) (i : ℕ) → slice_get (laid first (t ∷ tables)) (t.count + i) ≡ slice_get (laid (first + 1) tables) i
behind first t tables i =
    let many : t.count + i ≡ length (arenas_of_table first t) + i = omega (arith, length_arenas first t) in
    ap (λ (k : ℕ). slice_get (laid first (t ∷ tables)) k) many ∙ slice_get_right (arenas_of_table first t) (laid (first + 1) tables) i

part_from : (first : ℕ) (tables : List Table) (n : ℕ) (t : Table) (k : ℕ) → slice_get tables n ≡ Some t → k < t.count
    → option_map_or (λ r. r.part) (slice_get (laid first tables) (sum_by (λ t. t.count) (take n tables) + k)) 0 ≡ first + n
part_from first [] n t k at lt = absurd (cc)
part_from first (a ∷ tables) zero t k at lt =
    let same : a ≡ t = cc in
    let low : k < a.count = omega (arith, lt, ap (λ (x : Table). x.count) same) in
    let sums : sum_by (λ t. t.count) (take zero (a ∷ tables)) + k ≡ k = omega arith in
    let last : first ≡ first + zero = omega arith in
    ap (λ (i : ℕ). option_map_or (λ r. r.part) (slice_get (laid first (a ∷ tables)) i) 0) sums ∙ here first a tables k low ∙ last
part_from first (a ∷ tables) (suc n) t k at lt =
    let last : (first + 1) + n ≡ first + suc n = omega arith in
    let cons : sum_by (λ t. t.count) (a ∷ take n tables) ≡ a.count + sum_by (λ t. t.count) (take n tables) = sum_by-cons (λ t. t.count) a (take n tables) in
    let sums : sum_by (λ t. t.count) (take (suc n) (a ∷ tables)) + k ≡ a.count + (sum_by (λ t. t.count) (take n tables) + k) = omega (arith, cons) in
    ap (λ (i : ℕ). option_map_or (λ r. r.part) (slice_get (laid first (a ∷ tables)) i) 0) sums
    ∙ ap (λ (o : Option ArenaRegion). option_map_or (λ r. r.part) o 0) (behind first a tables (sum_by (λ t. t.count) (take n tables) + k))
    ∙ part_from (first + 1) tables n t k at lt ∙ last

-- the arena stands in partition n, behind those of the partitions before it
pub part_found : (tables : List Table) (n : ℕ) (t : Table) (arena : ℕ) → slice_get tables n ≡ Some t → sum_by (λ t. t.count) (take n tables) ≤ arena
    → arena < sum_by (λ t. t.count) (take n tables) + t.count → partition_of (layout_of tables) arena ≡ n
part_found tables n t arena at low high =
    let k : arena ≡ sum_by (λ t. t.count) (take n tables) + (arena - sum_by (λ t. t.count) (take n tables)) = omega (arith, low) in
    let lt : arena - sum_by (λ t. t.count) (take n tables) < t.count = omega (arith, low, high) in
    let none : 0 + n ≡ n = omega arith in
    ap (λ (i : ℕ). partition_of (layout_of tables) i) k ∙ part_from 0 tables n t (arena - sum_by (λ t. t.count) (take n tables)) at lt ∙ none

pub length_laid : (first : ℕ) (tables : List Table) → length (laid first tables) ≡ sum_by (λ t. t.count) tables
length_laid first [] = refl
length_laid first (t ∷ tables) =
    let both : length (laid first (t ∷ tables)) ≡ length (arenas_of_table first t) + length (laid (first + 1) tables) = length-append (arenas_of_table first t) (laid (first + 1) tables) in
    let sums : sum_by (λ t. t.count) (t ∷ tables) ≡ t.count + sum_by (λ t. t.count) tables = sum_by-cons (λ t. t.count) t tables in
    omega (arith, both, sums, length_arenas first t, length_laid (first + 1) tables)

-- there is no such arena
pub part_past : (tables : List Table) (arena : ℕ) → sum_by (λ t. t.count) tables ≤ arena → partition_of (layout_of tables) arena ≡ 0
part_past tables arena past =
    ap (λ (o : Option ArenaRegion). option_map_or (λ r. r.part) o 0) (slice_get_past (layout_of tables) arena (omega (arith, past, length_laid 0 tables)))

-- so many more are before the next partition, and there are no more than these
pub next_sum : (tables : List Table) (n : ℕ) (t : Table) → slice_get tables n ≡ Some t → sum_by (λ t. t.count) (take (n + 1) tables) ≡ sum_by (λ t. t.count) (take n tables) + t.count
next_sum tables n t at =
    sum_by_more (λ t. t.count) tables n t (slice_get_within tables n t at) ∙ ap (λ (x : Table). sum_by (λ t. t.count) (take n tables) + x.count) (get_or_from_slice_get tables n t t at)

-- the table of the partition that stands at this place
pub table_at : {D : Type 0} (parts : List (Part D)) (i : ℕ) (part : Part D) → i < length parts → part ≡ get_or parts i part
    → slice_get (tables_of parts) i ≡ Some (table_of part)
table_at parts i part lt is =
    slice_get-map (λ part. table_of part) parts i ∙ ap (option_map (λ part. table_of part)) (slice_get_read parts (length parts) i part refl lt is)
