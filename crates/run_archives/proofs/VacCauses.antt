-- Why a folder isn't archived.
use Rattle.std.proofs.Common.{◌≡◌, ⊎_elim, inl, inr, ℕ, ◌+◌, ◌-◌, ◌<◌, ◌≤◌, ◌^◌, true, List, [], ◌∷◌, length, None, Option, Some, Result, Ok, Err, refl, sym, subst, arith}
use Rattle.std.proofs.lemmas.Bool.{cases_lt}
use Rattle.vt_disk.specs.Members.{DiskOf}
use Rattle.vt_use.specs.Places.{Doing, UsesAt}
use Rattle.vt_use.specs.declared.used_at.StoreAt.{StoreAt}
use Rattle.vt_use.specs.declared.used_at.StoreError.{StoreError}
use Rattle.vt_use.specs.declared.used_at.UsedAt.{UsedAt}
use Rattle.vt_tree.specs.declared.error.TreeErr.TheVariants as trees
use Rattle.vac_write.specs.declared.archived.Archived.{Archived}
use Rattle.vac_write.specs.declared.error.VacErr.{VacErr}
use Rattle.vac_write.specs.declared.error.VacErr.TheVariants as vac
use Rattle.vac_write.specs.Archiving.{HasRisenBy}
use Rattle.vac_store.specs.declared.outcome.ArchiveError.{ArchiveError}
use Rattle.vac_store.specs.declared.outcome.ArchiveError.TheVariants as bads
use Rattle.vac_store.specs.Storing.{ArchivesOrGivesUp, archived_at, came_to}
use Rattle.run_base.specs.declared.error.CommandError.{CommandError}
use Rattle.run_base.specs.declared.error.CommandError.TheVariants.{FolderFault, NoMemory, WriteFault}
use Rattle.run_base.specs.Blocks.{IsStoreRefusal}
use Rattle.run_base.specs.Change.{StreamChange, DialerChange, FilesChange, FoldersChange, PartsChange}
use Rattle.run_base.specs.Errors.{Causes, HasCauseIn, HaveFailed, CommandOutcome, no_cause, with_dialer, with_files, with_folders, with_parts, with_sink}
use Rattle.run_base.specs.Members.{LinkOf}
use Rattle.run_base.proofs.Causes.{as_told, have_failed, printed_has_cause}
use Rattle.run_base.proofs.StoreCauses.{AreCaused, closed_cause, refusal_cause, unfound_cause, unused_cause}
use Rattle.run_archives.specs.Vac.{ArchivesNone, AsksForNoSize, DoesVac, HandsOutNone, IsArchiveRefusal, StoresFolder, StoresNone, archive_line, outcome_behind, unfit_for}

-- what is told where calls of folders have failed
has_failed : (n old new : ℕ) → HasRisenBy (1 + n) old new → HaveFailed old new
has_failed n old new rose = ⊎_elim
    (λ (low : old < 2 ^ 64 - 1). inl (omega (arith, rose, low)))
    (λ (high : 2 ^ 64 - 1 ≤ old). inr (omega (arith, rose, high)))
    (cases_lt old (2 ^ 64 - 1))

behind_cause : (causes : Causes) (folders : FoldersChange) (failed : List (List ℕ))
    → (HaveFailed folders.faults folders.faults' → causes.folders)
    → HasRisenBy (length failed) folders.faults folders.faults'
    → HasCauseIn causes (outcome_behind failed)
behind_cause causes folders [] rises counted = tt
behind_cause causes folders (path ∷ failed) rises counted =
    rises (has_failed (length failed) folders.faults folders.faults' (omega (arith, counted)))

-- why no folder was handed out, and why a word asks for no size
pub out_cause : (causes : Causes) (folders : FoldersChange) (failure : CommandError)
    → (HaveFailed folders.faults folders.faults' → causes.folders) → HandsOutNone folders failure
    → HasCauseIn causes (Err failure)
out_cause causes folders FolderFault rises none =
    rises (have_failed folders.faults folders.faults' none)
out_cause causes folders NoMemory rises none = tt
out_cause causes folders failure rises none = absurd none

pub size_cause : (causes : Causes) (word : Option (List ℕ)) (failure : CommandError)
    → AsksForNoSize word failure → HasCauseIn causes (Err failure)
size_cause causes None failure none = absurd none
size_cause causes (Some word) failure none = as_told causes failure _ none.1 tt

module _ {I P D N L K : Type 0} (score : List ℕ → List ℕ) (disk : DiskOf D) (link : LinkOf L)
    (laws : AreCaused score disk link) (now : ℕ) (store name : List ℕ) (size : Option (List ℕ))
    (preface : List ℕ) (outcome : CommandOutcome) (files : FilesChange I) (folders : FoldersChange)
    (parts : PartsChange P D) (dialer : DialerChange N L) (sink : StreamChange K)
    (reads : dialer.read_faults ≡ link.read_faults)
    (writes : dialer.write_faults ≡ link.write_faults) where
  abbrev causes : Causes
  causes = with_files files (with_folders folders (with_parts disk parts (with_dialer dialer
      (with_sink sink no_cause))))

  module _ (at : StoreAt) (bsize : ℕ) where
    unfit_cause : (err : VacErr)
        → StoresFolder score disk link now name at bsize (Err (bads.Folder err)) folders parts dialer
        → HasCauseIn causes (Err (unfit_for err))
    unfit_cause vac.FolderFault x = have_failed folders.faults folders.faults' x.counted
    unfit_cause (vac.Tree trees.TooLong) x = tt
    unfit_cause err x = tt

    -- the store is told as why only where it wasn't used, said no, or failed at its end
    module _ (Does : Result Archived VacErr → Doing) (bad : StoreError)
        (failure : CommandError) (told : IsStoreRefusal store bad at failure) where
      refused_cause : (u : UsedAt (Result Archived VacErr))
          → UsesAt score disk link at now true Does (Ok u) parts dialer → (b : StoreError)
          → u.refusal ≡ Some b → b ≡ bad → HasCauseIn causes (Err failure)
      refused_cause u x b said same = refusal_cause score disk link laws store now true parts dialer
          reads writes causes (λ why. why) (λ b why. why) Does at u b failure x said
          (subst (λ (e : StoreError). IsStoreRefusal store e at failure) (sym same) told)

      of_used : (u : UsedAt (Result Archived VacErr))
          → UsesAt score disk link at now true Does (Ok u) parts dialer
          → (output : Result Archived VacErr) (refusal : Option StoreError) (blocks : ℕ)
          (closed : Result (Unit {0}) StoreError) → u.refusal ≡ refusal → u.closed ≡ closed
          → Err (bads.Store bad) ≡ came_to output refusal blocks closed
          → HasCauseIn causes (Err failure)
      of_used u x (Ok a) refusal blocks (Ok done) said ended is = let never : ⊥ = cc in absurd never
      of_used u x (Ok a) refusal blocks (Err b) said ended is =
          let same : b ≡ bad = cc in
          closed_cause score disk link laws store now true parts dialer reads writes causes
          (λ why. why) (λ b why. why) Does at u b failure x ended
          (subst (λ (e : StoreError). IsStoreRefusal store e at failure) (sym same) told)
      of_used u x (Err (vac.Tree (trees.Block e))) (Some b) blocks closed said ended is =
          refused_cause u x b said (cc)
      of_used u x (Err (vac.Tree (trees.Block e))) None blocks closed said ended is =
          let never : ⊥ = cc in absurd never
      of_used u x (Err vac.FolderFault) refusal blocks closed said ended is =
          let never : ⊥ = cc in absurd never
      of_used u x (Err (vac.Tree trees.SourceFault)) refusal blocks closed said ended is =
          let never : ⊥ = cc in absurd never
      of_used u x (Err (vac.Tree (trees.BadEntry b))) refusal blocks closed said ended is =
          let never : ⊥ = cc in absurd never
      of_used u x (Err (vac.Tree (trees.BadBlock depth len))) refusal blocks closed said ended is =
          let never : ⊥ = cc in absurd never
      of_used u x (Err (vac.Tree trees.TooLong)) refusal blocks closed said ended is =
          let never : ⊥ = cc in absurd never
      of_used u x (Err (vac.Tree trees.NoMemory)) refusal blocks closed said ended is =
          let never : ⊥ = cc in absurd never
      of_used u x (Err (vac.BadName path)) refusal blocks closed said ended is =
          let never : ⊥ = cc in absurd never
      of_used u x (Err (vac.TooDeep path)) refusal blocks closed said ended is =
          let never : ⊥ = cc in absurd never
      of_used u x (Err vac.NoMemory) refusal blocks closed said ended is =
          let never : ⊥ = cc in absurd never

      pub used_cause : (used : Result (UsedAt (Result Archived VacErr)) StoreError)
          → UsesAt score disk link at now true Does used parts dialer
          → Err (bads.Store bad) ≡ archived_at used → HasCauseIn causes (Err failure)
      used_cause (Ok u) x is = of_used u x u.output u.refusal u.blocks u.closed refl refl is
      used_cause (Err b) x is =
          let same : bad ≡ b = cc in
          unused_cause score disk link laws store now true parts dialer reads writes causes
          (λ why. why) (λ b why. why) Does at b failure x
          (subst (λ (e : StoreError). IsStoreRefusal store e at failure) same told)

    refusal : (bad : ArchiveError) (failure : CommandError)
        → StoresFolder score disk link now name at bsize (Err bad) folders parts dialer
        → IsArchiveRefusal store at bad failure → HasCauseIn causes (Err failure)
    refusal (bads.Folder err) failure x told =
        as_told causes failure (unfit_for err) told (unfit_cause err x)
    refusal (bads.Store bad) failure x told = used_cause
        (λ answer S act holds calls from to.
        ArchivesOrGivesUp act holds score bsize x.folder answer calls from to) bad failure told
        x.archives.used x.archives.uses x.archives.result_is

    stored_cause : (failure : CommandError)
        → StoresNone score disk link now store name at bsize failure folders parts dialer
        → HasCauseIn causes (Err failure)
    stored_cause failure none = ⊎_elim
        (λ absent. out_cause causes folders failure (λ rose. rose) absent.none)
        (λ refused. refusal refused.0 failure refused.1 refused.2)
        none

  none_cause : (failure : CommandError)
      → ArchivesNone score disk link now store name size failure files folders parts dialer
      → HasCauseIn causes (Err failure)
  none_cause failure none = ⊎_elim
      (λ word. size_cause causes size failure word.0)
      (λ sized. ⊎_elim
      (λ unfound. unfound_cause causes store files failure (λ rose. rose) unfound.0)
      (λ found. stored_cause found.0 sized.0 failure found.2)
      sized.2)
      none

  pub vac_cause
      : DoesVac score disk link now store name size preface outcome files folders parts dialer sink
      → HasCauseIn causes outcome
  vac_cause does = ⊎_elim
      (λ none. subst (HasCauseIn causes) (sym none.outcome_is) (none_cause none.failure none.none))
      (λ it. ⊎_elim
      (λ printed. subst (HasCauseIn causes) (sym printed.1)
      (behind_cause causes folders it.stored.archived.failed (λ rose. rose)
      it.archives.stores.counted))
      (λ unwritten. subst (HasCauseIn causes) (sym unwritten.1)
      (printed_has_cause causes (archive_line it.stored.archived.score.0) (Err WriteFault) sink
      (λ rose. rose) unwritten.0))
      it.printed)
      does
