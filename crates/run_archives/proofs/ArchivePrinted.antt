-- The line of an archive that was printed, or wasn't, and what comes of it.
use Rattle.std.proofs.Common.{◌≡◌, inr, List, [], ◌∷◌, ℕ, true, false, length, refl, Ok, Err, arith}
use Rattle.std.specs.Prelude.{◌==◌}
use Rattle.std.proofs.lemmas.Bool.{eqb-true}
use Rattle.vac_write.specs.declared.archived.Archived.{Archived}
use Rattle.run_base.specs.declared.error.CommandError.{CommandError}
use Rattle.run_base.specs.declared.error.CommandError.TheVariants.{FolderFault, WriteFault}
use Rattle.run_base.specs.Change.{StreamChange}
use Rattle.run_base.specs.Formatting.{Prints}
use Rattle.run_archives.specs.Vac.{PrintsArchive, archive_line, outcome_behind}

-- it wasn't
pub unprinted : {K : Type 0} (archived : Archived) (failure : CommandError) (sink : StreamChange K)
    → Prints (archive_line archived.score.0) (Err failure) sink
    → PrintsArchive archived (Err failure) sink
unprinted archived WriteFault sink prints = inr (prints, refl)
unprinted archived failure sink prints = absurd prints

-- all could be read
pub all_read : (failed : List (List ℕ)) → (length failed == 0) ≡ true → Ok tt ≡ outcome_behind failed
all_read [] empty = refl
all_read (path ∷ failed) empty =
    let none : length (path ∷ failed) ≡ 0 = eqb-true (length (path ∷ failed)) 0 empty in
    absurd (omega (arith, none))

-- something couldn't
pub some_unread : (failed : List (List ℕ)) → (length failed == 0) ≡ false
    → Err FolderFault ≡ outcome_behind failed
some_unread [] some = let never : ⊥ = cc in absurd never
some_unread (path ∷ failed) some = refl
