-- Why a folder is told as unfit, where a server was asked to take it in.
use Rattle.std.proofs.Common.{◌≡◌, ℕ, Option, Some, None, List, [], ◌∷◌, ◌++◌, refl, sym, ◌∙◌, ap, subst}
use Rattle.std.specs.List.{cons_option}
use Rattle.vt_client.specs.declared.error.ClientErr.{ClientErr}
use Rattle.vt_tree.specs.declared.error.BlockErr.{BlockErr}
use Rattle.vt_tree.specs.declared.error.TreeErr.TheVariants as trees
use Rattle.vt_tree.specs.Calls.{Call, refusals_of}
use Rattle.vt_tree.specs.Making.{IsRefusedLast}
use Rattle.vt_tree.specs.Maps.{Maps}
use Rattle.vt_tree.proofs.Making.{refusals_join}
use Rattle.vt_use.specs.Places.{as_server}
use Rattle.vac_write.specs.declared.error.VacErr.{VacErr}
use Rattle.vac_write.specs.declared.error.VacErr.TheVariants.{FolderFault, Tree, BadName, TooDeep, NoMemory}
use Rattle.vac_write.specs.Archiving.{FolderRead, GivesUpArchive}
use Rattle.vac_store.specs.declared.outcome.ArchiveError.TheVariants.{Folder}
use Rattle.vac_store.specs.Sent.{IsOfFolder, IsUnfitFor}
use Rattle.vac_store.specs.Storing.{told}

-- calls of which the last was refused aren't all answered
not_answered : (err : BlockErr) (calls : List Call) → IsRefusedLast err calls
    → refusals_of calls ≡ [] → ⊥
not_answered err calls it none =
    let one : err ∷ [] ≡ [] = sym (ap refusals_of it.are ∙ refusals_join it.before (it.last ∷ [])
    ∙ ap (λ (errs : List BlockErr). errs ++ refusals_of (it.last ∷ [])) it.accepted
    ∙ ap (λ (o : Option BlockErr). cons_option o []) it.refused) ∙ none in cc

module _ {S : Type 0} (act : S → Call → S → Type 0) (holds : S → Maps → Type 0)
    (score_of : List ℕ → List ℕ) (s s' : S) (bsize : ℕ) (folder : FolderRead) where
  abbrev GaveUp : VacErr → Type 0
  GaveUp err = GivesUpArchive act holds score_of s s' bsize folder err

  of_folder : (err : VacErr) → GaveUp err → IsOfFolder err → IsUnfitFor folder err
  of_folder err gave of = record {
    tried = gave.tried;
    is = gave.is;
    cause = gave.cause;
    of_folder = of;
  }

  -- what is told of the folder isn't what the server said, where that is kept
  pub unfit_so : (given err : VacErr) (refused : Option ClientErr)
      → (gave : GaveUp given) → (refused ≡ None → refusals_of gave.calls ≡ [])
      → told given (as_server refused) ≡ Folder err → IsUnfitFor folder err
  unfit_so (Tree (trees.Block e)) err (Some why) gave answered is =
      let never : ⊥ = cc in absurd never
  unfit_so (Tree (trees.Block e)) err None gave answered is =
      absurd (not_answered e gave.calls gave.refused (answered refl))
  unfit_so FolderFault err refused gave answered is =
      let same : FolderFault ≡ err = cc in
      subst (IsUnfitFor folder) same (of_folder FolderFault gave tt)
  unfit_so (Tree trees.SourceFault) err refused gave answered is = absurd gave.cause
  unfit_so (Tree (trees.BadEntry bad)) err refused gave answered is = absurd gave.cause
  unfit_so (Tree (trees.BadBlock depth len)) err refused gave answered is = absurd gave.cause
  unfit_so (Tree trees.TooLong) err refused gave answered is =
      let same : Tree trees.TooLong ≡ err = cc in
      subst (IsUnfitFor folder) same (of_folder (Tree trees.TooLong) gave tt)
  unfit_so (Tree trees.NoMemory) err refused gave answered is =
      let same : Tree trees.NoMemory ≡ err = cc in
      subst (IsUnfitFor folder) same (of_folder (Tree trees.NoMemory) gave tt)
  unfit_so (BadName path) err refused gave answered is =
      let same : BadName path ≡ err = cc in
      subst (IsUnfitFor folder) same (of_folder (BadName path) gave tt)
  unfit_so (TooDeep path) err refused gave answered is =
      let same : TooDeep path ≡ err = cc in
      subst (IsUnfitFor folder) same (of_folder (TooDeep path) gave tt)
  unfit_so NoMemory err refused gave answered is =
      let same : NoMemory ≡ err = cc in
      subst (IsUnfitFor folder) same (of_folder NoMemory gave tt)
