-- What the partitions in memory hold.
use Rattle.std.specs.Prelude.{ℕ, Bool, List, [], ◌∷◌, bytes_eq, if◌then◌else◌, Option, Some, None}
use Rattle.vt_partitions.specs.Parts.{Standing, nothing, lent, there}
use Rattle.vt_partitions.specs.declared.lending.MemPart.{MemPart}
use Rattle.vt_partitions.specs.declared.making_disks.Failing.{Failing}
use Rattle.vt_partitions.specs.declared.mem_parts.MemParts.{MemParts}

-- what stands under the name of a partition
abbrev pub standing_of : {D : Type 0} → Option D → Standing D
standing_of None = lent
standing_of (Some disk) = there disk

-- whether a partition in memory has this name
abbrev pub has_name : {D : Type 0} → (name : List ℕ) → MemPart D → Bool
has_name name part = bytes_eq part.name name

-- What stands under a name in memory: the first partition that has it.
abbrev pub standing_in : {D : Type 0} → List (MemPart D) → (name : List ℕ) → Standing D
standing_in [] name = nothing
standing_in (part ∷ parts) name =
    if has_name name part then standing_of part.disk else standing_in parts name

-- the partitions, in the order in which they were added
abbrev pub parts_held : {D M : Type 0} → MemParts D M → List (MemPart D)
parts_held parts = parts.parts.items

-- what makes the disks of those that weren't there
abbrev pub parts_maker : {D M : Type 0} → MemParts D M → M
parts_maker parts = parts.maker

-- how many calls have failed
abbrev pub parts_faults : {D M : Type 0} → MemParts D M → ℕ
parts_faults parts = parts.faults.count

-- the numbers of the calls that fail of each disk that is made
abbrev pub failing_calls : {A : Type 0} → Failing A → List ℕ
failing_calls maker = maker.calls.items
