-- An archiving, as what a use of the store came to.
use Rattle.std.proofs.Common.{◌≡◌, ℕ, ◌-◌, true, Option, Some, None, Result, Ok, Err, List, length, refl, ◌∙◌, ap, subst}
use Rattle.std.specs.Prelude.{IfErr, IfOk}
use Rattle.vt_base.specs.declared.why.Why.{Why}
use Rattle.vt_disk.specs.Members.{DiskOf}
use Rattle.vt_core.specs.Core.{CoreState, history_len}
use Rattle.vt_requests.specs.Driven.{DrivenState}
use Rattle.vt_blocks.specs.Local.{DoesLocal, HoldsLocal, LocalState}
use Rattle.vt_tree.specs.declared.error.TreeErr.TheVariants as trees
use Rattle.vt_tree.specs.Calls.{Call}
use Rattle.vt_tree.specs.Making.{Makes}
use Rattle.vt_tree.specs.Maps.{Maps}
use Rattle.vt_use.specs.LocalJobs.{new_local}
use Rattle.vt_use.specs.Stores.{Exchange, at_time, store_on}
use Rattle.vt_use.specs.Uses.{AsksAndEnds}
use Rattle.vt_use.specs.Places.{as_ended, as_refused}
use Rattle.vt_use.specs.declared.used_at.StoreError.{StoreError}
use Rattle.vac_write.specs.declared.archived.Archived.{Archived}
use Rattle.vac_write.specs.declared.error.VacErr.{VacErr}
use Rattle.vac_write.specs.declared.error.VacErr.TheVariants.{FolderFault, Tree, BadName, TooDeep, NoMemory}
use Rattle.vac_write.specs.Archiving.{FolderRead, CountsFailures, WritesArchive, GivesUpArchive}
use Rattle.vac_store.specs.declared.outcome.ArchivedAt.{ArchivedAt}
use Rattle.vac_store.specs.declared.outcome.ArchiveError.{ArchiveError}
use Rattle.vac_store.specs.Storing.{ArchivesByJob, ArchivesOrGivesUp, CountsFailuresAt, came_to, told}

-- A folder was archived into a store, or that was given up, and the store's use was then ended.
pub record ArchivesInto {D : Type 0} (score : List ℕ → List ℕ) (disk : DiskOf D) (now bsize : ℕ)
    (folder : FolderRead) (result : Result ArchivedAt ArchiveError)
    (old new : CoreState D) : Type 0 where
  pub answer : Result Archived VacErr
  pub kept : LocalState (DrivenState D)
  pub archives : IfOk answer (WritesArchive (DoesLocal (store_on score disk))
      (HoldsLocal (store_on score disk) score) score (new_local (at_time now old)) kept bsize folder)
  pub gives_up : IfErr answer (GivesUpArchive (DoesLocal (store_on score disk))
      (HoldsLocal (store_on score disk) score) score (new_local (at_time now old)) kept bsize folder)
  pub exchanges : List Exchange
  pub closed : Result (Unit {0}) Why
  pub asks : AsksAndEnds score disk now true exchanges closed old kept.store.core new
  pub result_is : result ≡ came_to answer (as_refused kept.refused)
      (history_len new - history_len old) (as_ended closed)

module _ {D : Type 0} (score : List ℕ → List ℕ) (disk : DiskOf D) (now bsize : ℕ)
    (folder : FolderRead) (old new : CoreState D) where
  abbrev State : Type 0
  State = LocalState (DrivenState D)

  abbrev By : Result Archived VacErr → List Call → State → State → Type 0
  By answer = ArchivesOrGivesUp (DoesLocal (store_on score disk)) (HoldsLocal (store_on score disk) score)
      score bsize folder answer

  wrote_by : (answer : Result Archived VacErr) (calls : List Call) (l l' : State)
      → By answer calls l l' → IfOk answer (WritesArchive (DoesLocal (store_on score disk))
      (HoldsLocal (store_on score disk) score) score l l' bsize folder)
  wrote_by (Ok a) calls l l' it = it.archives.0
  wrote_by (Err err) calls l l' it = tt

  gave_by : (answer : Result Archived VacErr) (calls : List Call) (l l' : State)
      → By answer calls l l' → IfErr answer (GivesUpArchive (DoesLocal (store_on score disk))
      (HoldsLocal (store_on score disk) score) score l l' bsize folder)
  gave_by (Ok a) calls l l' it = tt
  gave_by (Err err) calls l l' it = it.gives_up.0

  -- a use of the store, by a job that archives
  pub into : (answer : Result Archived VacErr) (said : Option Why) (added : ℕ)
      (closed : Result (Unit {0}) Why)
      → ArchivesByJob score disk now bsize folder answer said added closed old new
      → ArchivesInto score disk now bsize folder
      (came_to answer (as_refused said) added (as_ended closed)) old new
  into answer said added closed x =
      let d = x.does in
      let first = new_local (at_time now old) in
      record {
        answer = answer;
        kept = d.kept;
        archives = wrote_by answer d.calls first d.kept d.does;
        gives_up = gave_by answer d.calls first d.kept d.does;
        exchanges = x.exchanges;
        closed = closed;
        asks = subst (λ (e : DrivenState D). AsksAndEnds score disk now true x.exchanges closed old
            e.core new) d.new_is x.asks;
        result_is = ap (λ (o : Option Why). came_to answer (as_refused o) added (as_ended closed))
            d.refused_is
            ∙ ap (λ (n : ℕ). came_to answer (as_refused d.kept.refused) n (as_ended closed))
            x.added_is;
      }

-- ---- failed calls of the folder

module _ (before after : ℕ) where
  told_failures : (err : VacErr) (refusal : Option StoreError)
      → CountsFailures (Err err) before after
      → CountsFailuresAt (Err (told err refusal)) before after
  told_failures FolderFault refusal counts = counts
  told_failures (Tree (trees.Block err)) None counts = counts
  told_failures (Tree (trees.Block err)) (Some bad) counts = counts
  told_failures (Tree trees.SourceFault) refusal counts = counts
  told_failures (Tree (trees.BadEntry bad)) refusal counts = counts
  told_failures (Tree (trees.BadBlock depth len)) refusal counts = counts
  told_failures (Tree trees.TooLong) refusal counts = counts
  told_failures (Tree trees.NoMemory) refusal counts = counts
  told_failures (BadName path) refusal counts = counts
  told_failures (TooDeep path) refusal counts = counts
  told_failures NoMemory refusal counts = counts

  pub came_failures : (answer : Result Archived VacErr) (refusal : Option StoreError) (blocks : ℕ)
      (closed : Result (Unit {0}) StoreError) → CountsFailures answer before after
      → CountsFailuresAt (came_to answer refusal blocks closed) before after
  came_failures (Ok a) refusal blocks (Ok done) counts = counts
  came_failures (Ok a) refusal blocks (Err bad) counts = (length a.failed, counts)
  came_failures (Err err) refusal blocks closed counts = told_failures err refusal counts

-- ---- of any store of blocks

module _ {S : Type 0} (act : S → Call → S → Type 0) (holds : S → Maps → Type 0)
    (score_of : List ℕ → List ℕ) (bsize : ℕ) (folder : FolderRead) (s s' : S) where
  -- its calls are those that are told
  pub archived_by : (answer : Result Archived VacErr)
      → IfOk answer (WritesArchive act holds score_of s s' bsize folder)
      → IfErr answer (GivesUpArchive act holds score_of s s' bsize folder)
      → (calls : List Call) × Makes act s calls s'
      × ArchivesOrGivesUp act holds score_of bsize folder answer calls s s'
  archived_by (Ok a) wrote gave =
      (wrote.calls, wrote.made, record { archives = (wrote, refl); gives_up = tt })
  archived_by (Err err) wrote gave =
      (gave.calls, gave.made, record { archives = tt; gives_up = (gave, refl) })
