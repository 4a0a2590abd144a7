-- Folders by name, of which one was handed out and is back.
use Rattle.std.proofs.Common.{◌≡◌, ◌≢◌, ⊎_elim, ℕ, ◌+◌, ◌-◌, ◌<◌, ◌^◌, true, false, List, Result, Ok, Err, sym, ◌∙◌, ap, arith}
use Rattle.std.specs.Prelude.{bytes_eq, min}
use Rattle.std.proofs.lemmas.Bool.{cases_Bool}
use Rattle.std.proofs.lemmas.Slice.Eq.{bytes_eq-Decides}
use Rattle.vt_out.specs.declared.folder_item.Facts.{Facts}
use Rattle.vt_out.specs.FolderItems.{FailingPaths, Items}
use Rattle.vt_out.specs.FolderStanding.{Standing, lent, there}
use Rattle.vac_write.specs.declared.error.VacErr.TheVariants as vac
use Rattle.vac_store.specs.declared.outcome.ArchiveError.{ArchiveError}
use Rattle.vac_store.specs.declared.outcome.ArchiveError.TheVariants as bads
use Rattle.vac_store.specs.declared.outcome.ArchivedAt.{ArchivedAt}
use Rattle.vac_store.specs.Storing.{CountsFailuresAt}

-- under this name and under others
pub same_everywhere : (old new : List ℕ → Standing) (name : List ℕ) → new name ≡ old name
    → ((other : List ℕ) → other ≢ name → new other ≡ old other) → (other : List ℕ)
    → new other ≡ old other
same_everywhere old new name here apart other = ⊎_elim
    (λ (yes : bytes_eq other name ≡ true).
    let same = (bytes_eq-Decides other name).0 yes in
    ap new same ∙ here ∙ sym (ap old same))
    (λ (no : bytes_eq other name ≡ false). apart other
    (λ is. let both = sym no ∙ (bytes_eq-Decides other name).1 is in cc))
    (cases_Bool (bytes_eq other name))

-- one that is back with what it held
pub back_again : (old mid new : List ℕ → Standing) (name : List ℕ) (held left : Items Facts)
    (failing behind : FailingPaths) → old name ≡ there held failing → mid name ≡ lent
    → (mid name ≡ lent → new name ≡ there left behind) → left ≡ held → behind ≡ failing
    → ((other : List ℕ) → other ≢ name → mid other ≡ old other)
    → ((other : List ℕ) → other ≢ name → new other ≡ mid other) → (other : List ℕ)
    → new other ≡ old other
back_again old mid new name held left failing behind was out back same paths apart apart' =
    same_everywhere old new name (back out ∙ (λ i. there (same i) (paths i)) ∙ sym was)
    (λ other differs. apart' other differs ∙ apart other differs)

-- its failed calls count among those of the folders
pub counts_back : (result : Result ArchivedAt ArchiveError) (f f' old new : ℕ) → f ≡ 0
    → CountsFailuresAt result f f' → new ≡ min (old + f') (2 ^ 64 - 1) → old < 2 ^ 64
    → CountsFailuresAt result old new
counts_back (Ok s) f f' old new zero counts sum fits = omega (arith, zero, counts, sum, fits)
counts_back (Err (bads.Folder vac.FolderFault)) f f' old new zero counts sum fits =
    omega (arith, zero, counts, sum, fits)
counts_back (Err (bads.Folder (vac.Tree err))) f f' old new zero counts sum fits =
    (counts.0, omega (arith, zero, counts.1, sum, fits))
counts_back (Err (bads.Folder (vac.BadName path))) f f' old new zero counts sum fits =
    (counts.0, omega (arith, zero, counts.1, sum, fits))
counts_back (Err (bads.Folder (vac.TooDeep path))) f f' old new zero counts sum fits =
    (counts.0, omega (arith, zero, counts.1, sum, fits))
counts_back (Err (bads.Folder vac.NoMemory)) f f' old new zero counts sum fits =
    (counts.0, omega (arith, zero, counts.1, sum, fits))
counts_back (Err (bads.Store bad)) f f' old new zero counts sum fits =
    (counts.0, omega (arith, zero, counts.1, sum, fits))
