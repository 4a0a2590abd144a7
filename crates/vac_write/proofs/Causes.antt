-- When a fault of the folder is told.
use Rattle.std.proofs.Common.{◌≡◌, ℕ, ◌<◌, ◌^◌, Bool, false, IfErr, Result, Ok, Err, refl, sym, ap, subst, arith}
use Rattle.std.specs.Prelude.{⊤, MatchBool, Option}
use Rattle.vt_base.specs.Faults.{HasRisen}
use Rattle.vt_tree.specs.declared.error.TreeErr.TheVariants as trees
use Rattle.vac_model.specs.Limits.{Unfit}
use Rattle.vac_write.specs.declared.error.VacErr.{VacErr}
use Rattle.vac_write.specs.declared.error.VacErr.TheVariants.{FolderFault, Tree, BadName, TooDeep, NoMemory}
use Rattle.vac_write.specs.Archiving.{CountsFailures, HasRisenAtLeast, HasRisenBy, IsGivenUpAs, is_folder_fault}
use Rattle.vac_write.specs.Puts.{IsOfStore}
use Rattle.vac_write.specs.Walking.{IsHandedOn}

-- what the store answers, and want of memory, is no failed call of the folder
pub of_store_goes_on : (err : VacErr) → IsOfStore err → is_folder_fault err ≡ false
of_store_goes_on FolderFault own = absurd own
of_store_goes_on (Tree err) own = refl
of_store_goes_on (BadName path) own = absurd own
of_store_goes_on (TooDeep path) own = absurd own
of_store_goes_on NoMemory own = refl

-- where it isn't for a failed call, nothing has to hold of such a call
pub given_up_as : (failed : Type 0) (err : VacErr) (unfit : Option Unfit)
    → is_folder_fault err ≡ false → IsGivenUpAs ⊤ err unfit → IsGivenUpAs failed err unfit
given_up_as failed FolderFault unfit goes_on cause = let never : ⊥ = cc in absurd never
given_up_as failed (Tree (trees.Block err)) unfit goes_on cause = tt
given_up_as failed (Tree trees.SourceFault) unfit goes_on cause = cause
given_up_as failed (Tree (trees.BadEntry bad)) unfit goes_on cause = cause
given_up_as failed (Tree (trees.BadBlock depth len)) unfit goes_on cause = cause
given_up_as failed (Tree trees.TooLong) unfit goes_on cause = cause
given_up_as failed (Tree trees.NoMemory) unfit goes_on cause = tt
given_up_as failed (BadName path) unfit goes_on cause = cause
given_up_as failed (TooDeep path) unfit goes_on cause = cause
given_up_as failed NoMemory unfit goes_on cause = tt

pub memory_goes_on : {X : Type 0} (r : Result X VacErr) → IfErr r (λ err. err ≡ NoMemory)
    → IfErr r (λ err. is_folder_fault err ≡ false)
memory_goes_on (Ok x) is = tt
memory_goes_on (Err err) is = ap is_folder_fault is

pub of_store_all : {X : Type 0} (r : Result X VacErr) → IfErr r IsOfStore
    → IfErr r (λ err. is_folder_fault err ≡ false)
of_store_all (Ok x) own = tt
of_store_all (Err err) own = of_store_goes_on err own

-- what an item isn't archived for was noted, but for want of memory, or handed on
pub handed_on : (err answer : VacErr) (P : VacErr → Type 0) → IsHandedOn err answer
    → (err ≡ FolderFault → P NoMemory) → (is_folder_fault err ≡ false → P err) → P answer
handed_on FolderFault answer P is lost goes_on = subst P (sym is) (lost refl)
handed_on (Tree err) answer P is lost goes_on = subst P (sym is) (goes_on refl)
handed_on (BadName path) answer P is lost goes_on = subst P (sym is) (goes_on refl)
handed_on (TooDeep path) answer P is lost goes_on = subst P (sym is) (goes_on refl)
handed_on NoMemory answer P is lost goes_on = subst P (sym is) (goes_on refl)

pub handed_on_all : {X : Type 0} (r : Result X VacErr) (err : VacErr) → IfErr r (IsHandedOn err)
    → IfErr r (λ answer. is_folder_fault answer ≡ false)
handed_on_all (Ok x) err is = tt
handed_on_all (Err answer) err is =
    handed_on err answer (λ (e : VacErr). is_folder_fault e ≡ false) is (λ fault. refl)
    (λ goes_on. goes_on)

-- ---- counts

-- a count that stayed has risen by none
pub stayed : (a b : ℕ) → a < 2 ^ 64 → b ≡ a → HasRisenBy 0 a b
stayed a b fits same = omega (arith, fits, same)

pub rose_once : (a b : ℕ) → HasRisen a b → HasRisenBy 1 a b
rose_once a b rose = omega (arith, rose)

-- a count that stayed where no fault is told
pub kept_count : (err : VacErr) (a b : ℕ) → is_folder_fault err ≡ false
    → MatchBool (is_folder_fault err) (HasRisen a b) (b ≡ a) → b ≡ a
kept_count err a b goes_on counts =
    subst (λ (t : Bool). MatchBool t (HasRisen a b) (b ≡ a)) goes_on counts

-- by as many as it has risen it has risen at least
pub at_least : (n a b : ℕ) → HasRisenBy n a b → HasRisenAtLeast n a b
at_least n a b rose = omega (arith, rose)

-- the count behind the listing of one folder
pub none_at_least : (err : VacErr) (a b : ℕ)
    → MatchBool (is_folder_fault err) (HasRisen a b) (b ≡ a) → HasRisenAtLeast 0 a b
none_at_least FolderFault a b rose = omega (arith, rose)
none_at_least (Tree err) a b same = omega (arith, same)
none_at_least (BadName path) a b same = omega (arith, same)
none_at_least (TooDeep path) a b same = omega (arith, same)
none_at_least NoMemory a b same = omega (arith, same)

-- what an archiving that is given up tells of the count
pub counts_some : (err : VacErr) (n a b : ℕ) → is_folder_fault err ≡ false → HasRisenBy n a b
    → CountsFailures (Err err) a b
counts_some FolderFault n a b goes_on counted = let never : ⊥ = cc in absurd never
counts_some (Tree err) n a b goes_on counted = (n, counted)
counts_some (BadName path) n a b goes_on counted = (n, counted)
counts_some (TooDeep path) n a b goes_on counted = (n, counted)
counts_some NoMemory n a b goes_on counted = (n, counted)

-- and one of a folder that isn't listed
pub counts_unlisted : (err : VacErr) (a b : ℕ) → a < 2 ^ 64
    → MatchBool (is_folder_fault err) (HasRisen a b) (b ≡ a) → CountsFailures (Err err) a b
counts_unlisted FolderFault a b fits rose = rose
counts_unlisted (Tree err) a b fits same = (0, stayed a b fits same)
counts_unlisted (BadName path) a b fits same = (0, stayed a b fits same)
counts_unlisted (TooDeep path) a b fits same = (0, stayed a b fits same)
counts_unlisted NoMemory a b fits same = (0, stayed a b fits same)

-- two facts of one error
pub err_both : {X : Type 0} (r : Result X VacErr) (P Q R : VacErr → Type 0)
    → ((err : VacErr) → P err → Q err → R err) → IfErr r P → IfErr r Q → IfErr r R
err_both (Ok x) P Q R join first then = tt
err_both (Err err) P Q R join first then = join err first then
