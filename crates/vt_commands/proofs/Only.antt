-- What follows for a whole run from what a command is lent.
use Rattle.std.proofs.Common.{⊎_elim, inl, inr, List, ℕ, sym, subst}
use Rattle.vt_disk.specs.Members.{DiskOf}
use Rattle.vt_cli.specs.declared.asked.Asked.{Asked}
use Rattle.vt_cli.specs.declared.asked.Asked.TheVariants.{Do, Help, Version, Faulty}
use Rattle.vt_cli.specs.declared.command.Command.{Command}
use Rattle.vt_cli.specs.declared.command.Command.TheVariants.{Session, FormatArenas, FormatSection, FormatFilter, FormatIndex, RebuildIndex, CheckArenas, Read, Write, Rehearse, Vac, View}
use Rattle.vt_cli.specs.Words.{Asks}
use Rattle.run_base.specs.Change.{IsUntouched, UsesNothing}
use Rattle.run_base.specs.Errors.{Causes, HasCauseIn, CommandOutcome, no_cause, with_dialer, with_files, with_folders, with_parts, with_sink, with_source}
use Rattle.run_base.specs.Formatting.{RefusesWord}
use Rattle.run_base.specs.Members.{LinkOf}
use Rattle.run_base.specs.declared.error.CommandError.{CommandError}
use Rattle.run_base.proofs.Causes.{widened}
use Rattle.vt_commands.specs.Run.{DoesCommand, DoesAsked, DoesWords, OnlyForArchives}
use Rattle.vt_commands.specs.Work.{IsIdle, NoFolder, NoSource, OnlyParts, OnlyReading, OnlyServing, OnlySink, OnlyStore, Work, causes_of, lent_causes}

same : {X : Type 0} → X → X
same x = x

none : {X : Type 0} → ⊥ → X
none never = absurd never

module _ {R K I P D N L : Type 0} (disk : DiskOf D) (outcome : CommandOutcome)
    (work : Work R K I P D N L) where
  abbrev causes : Causes
  causes = lent_causes disk work

  sink_caused : OnlySink outcome work → HasCauseIn causes outcome
  sink_caused it = widened (with_sink work.sink no_cause) causes outcome none none none none none same
      (λ bad. none) it.cause

  parts_caused : OnlyParts disk outcome work → HasCauseIn causes outcome
  parts_caused it = widened (with_parts disk work.parts (with_sink work.sink no_cause)) causes
      outcome none same none none none same (λ bad. none) it.cause

  store_caused : OnlyStore disk outcome work → HasCauseIn causes outcome
  store_caused it = widened (with_files work.files (with_parts disk work.parts
      (with_sink work.sink no_cause))) causes outcome none same none same none same (λ bad. none)
      it.cause

  serving_caused : OnlyServing disk outcome work → HasCauseIn causes outcome
  serving_caused it = widened (with_source work.source (with_sink work.sink
      (with_files work.files (with_parts disk work.parts no_cause)))) causes outcome none same same
      same none same (λ bad. none) it.cause

  reading_caused : OnlyReading disk outcome work → HasCauseIn causes outcome
  reading_caused it = widened (with_files work.files (with_parts disk work.parts
      (with_dialer work.dialer (with_sink work.sink no_cause)))) causes outcome none same none same
      none same (λ bad. same) it.cause

  no_folder_caused : NoFolder disk outcome work → HasCauseIn causes outcome
  no_folder_caused it = widened (with_source work.source (with_sink work.sink
      (with_files work.files (with_parts disk work.parts (with_dialer work.dialer no_cause)))))
      causes outcome none same same same none same (λ bad. same) it.cause

  no_source_caused : NoSource disk outcome work → HasCauseIn causes outcome
  no_source_caused it = widened (with_files work.files (with_folders work.folders
      (with_parts disk work.parts (with_dialer work.dialer (with_sink work.sink no_cause)))))
      causes outcome none same none same same same (λ bad. same) it.cause

  or_words : HasCauseIn causes outcome → HasCauseIn (causes_of disk work) outcome
  or_words = widened causes (causes_of disk work) outcome none same same same same same
      (λ bad. same)

  module _ (link : LinkOf L) (score : List ℕ → List ℕ) where
    pub does_caused : (command : Command) → DoesCommand disk link score command outcome work
        → HasCauseIn causes outcome
    does_caused (Session store) does = serving_caused does.1
    does_caused (FormatArenas file name length arena_size) does = parts_caused does.1
    does_caused (FormatSection file name length) does = parts_caused does.1
    does_caused (FormatFilter file size positions) does = parts_caused does.1
    does_caused (FormatIndex file) does = store_caused does.1
    does_caused (RebuildIndex file) does = store_caused does.1
    does_caused (CheckArenas file) does = store_caused does.1
    does_caused (Read store score_word kind) does = reading_caused does.1
    does_caused (Write store kind) does = no_folder_caused does.1
    does_caused (Rehearse seed count) does = sink_caused does.1
    does_caused (Vac store folder size) does = no_source_caused does.2
    does_caused (View store score_word) does = no_folder_caused does.1

    -- or a word is why
    asked_caused : (asked : Asked) → DoesAsked disk link score asked outcome work
        → HasCauseIn (causes_of disk work) outcome
    asked_caused (Do command) does = or_words (does_caused command does)
    asked_caused (Help text) does = or_words (sink_caused does.1)
    asked_caused (Version text) does = or_words (sink_caused does.1)
    asked_caused Faulty does = subst (HasCauseIn (causes_of disk work)) (sym does.is) tt

    module _ (words : List (List ℕ)) (preface : List ℕ)
        (does : DoesWords disk link score words preface outcome work) where
      -- a fault comes of what was touched
      pub words_caused : HasCauseIn (causes_of disk work) outcome
      words_caused = ⊎_elim
          (λ it. asked_caused it.0 it.2)
          (λ short. subst (HasCauseIn (causes_of disk work)) (sym short.1.is) tt)
          does

      -- a folder is handed out to an archive alone
      pub for_archives : OnlyForArchives words work.folders
      for_archives = ⊎_elim (λ it. of it.0 it.1 it.2) (λ short. inr short.1.idle.folders) does
        where
          of : (asked : Asked) → Asks words asked → DoesAsked disk link score asked outcome work
              → OnlyForArchives words work.folders
          of (Do (Vac store folder size)) asks does = inl (Vac store folder size, asks, tt)
          of (Do command) asks does = inr does.1.folders
          of (Help text) asks does = inr does.1.folders
          of (Version text) asks does = inr does.1.folders
          of Faulty asks does = inr does.idle.folders

  -- a word that was refused
  pub reading_idle : (IsWhy : CommandError → Type 0) → OnlyReading disk outcome work
      → RefusesWord IsWhy outcome (UsesNothing work.files work.parts work.dialer work.sink)
      → RefusesWord IsWhy outcome (IsIdle work)
  reading_idle IsWhy only word = record {
    failure = word.failure;
    why = word.why;
    outcome_is = word.outcome_is;
    idle = record {
      unread = only.unread;
      unwritten = word.idle.unwritten;
      unopened = word.idle.unopened;
      unused = word.idle.unused;
      undialled = word.idle.undialled;
      folders = only.folders;
    };
  }

  pub writing_idle : (IsWhy : CommandError → Type 0) → NoFolder disk outcome work
      → RefusesWord IsWhy outcome
      (IsUntouched work.source × UsesNothing work.files work.parts work.dialer work.sink)
      → RefusesWord IsWhy outcome (IsIdle work)
  writing_idle IsWhy only word = record {
    failure = word.failure;
    why = word.why;
    outcome_is = word.outcome_is;
    idle = record {
      unread = word.idle.0;
      unwritten = word.idle.1.unwritten;
      unopened = word.idle.1.unopened;
      unused = word.idle.1.unused;
      undialled = word.idle.1.undialled;
      folders = only.folders;
    };
  }
