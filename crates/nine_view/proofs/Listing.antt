-- The files of an open folder, kept or listed.
use Rattle.std.proofs.Common.{◌≡◌, ℕ, true, false, Option, Some, None, Ok, Err, List, refl}
use Rattle.std.specs.Prelude.{is_some}
use Rattle.vt_tree.specs.Calls.{Call}
use Rattle.vt_tree.specs.Maps.{Maps}
use Rattle.vac_read.specs.declared.error.VacBad.{VacBad}
use Rattle.vac_read.specs.declared.node.Node.{Node}
use Rattle.vac_read.specs.Reading.{ListsFolder, ReadsArchive}
use Rattle.vac_read.proofs.Readings.{reads_as}
use Rattle.nine_view.specs.declared.fid.Fid.{Fid}
use Rattle.nine_view.specs.Handling.{KeepsFiles}
use Rattle.nine_view.specs.Known.{ViewState}
use Rattle.nine_view.proofs.FolderHandled.{listed}

module _ {S : Type 0} (does : S → Call → S → Type 0) (holds : S → Maps → Type 0)
    (score_of : List ℕ → List ℕ) (s s' : S) (old : ViewState) (fid : ℕ) (f : Fid)
  where
    pub files_kept : (files : Option (List Node)) → is_some files ≡ true
        → KeepsFiles does holds score_of s s old old fid f (Ok tt) files
    files_kept None kept = absurd (cc)
    files_kept (Some files) kept = (refl, refl, refl)

    pub files_lacking : (files : Option (List Node)) (bad : VacBad) → is_some files ≡ false
        → ReadsArchive {X = List Node} does holds score_of s s' (Err bad)
        (ListsFolder f.node.stored (Err bad))
        → KeepsFiles does holds score_of s s' old old fid f (Err bad) files
    files_lacking (Some files) bad none reads = absurd (cc)
    files_lacking None bad none reads = (
      refl,
      reads_as does holds score_of s s' (Err bad) (Err bad) _ _ refl reads (λ map broken. broken),
    )

    pub files_listed : (files : Option (List Node)) (nodes : List Node) (new : ViewState)
        → is_some files ≡ false
        → ReadsArchive does holds score_of s s' (Ok nodes) (ListsFolder f.node.stored (Ok nodes))
        → new ≡ listed old fid f nodes
        → KeepsFiles does holds score_of s s' old new fid f (Ok tt) files
    files_listed (Some files) nodes new none reads is = absurd (cc)
    files_listed None nodes new none reads is = (
      nodes,
      is,
      reads_as does holds score_of s s' (Ok nodes) (Ok tt) _ _ refl reads (λ map lists. lists),
    )
