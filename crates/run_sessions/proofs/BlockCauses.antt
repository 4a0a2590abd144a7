-- Why a block of a store isn't read or written.
use Rattle.std.proofs.Common.{◌≡◌, ⊎_elim, ℕ, true, false, List, Result, Ok, Err, sym, subst}
use Rattle.std.specs.Prelude.{IfErr}
use Rattle.vt_base.specs.Faults.{HasRisen}
use Rattle.vt_base.specs.declared.why.Why.{Why}
use Rattle.vt_base.specs.declared.why.Why.TheVariants as whys
use Rattle.vt_disk.specs.Members.{DiskOf}
use Rattle.vt_use.specs.OneBlock.{ReadsOne, WritesOne}
use Rattle.run_base.specs.declared.error.CommandError.{CommandError}
use Rattle.run_base.specs.declared.error.CommandError.TheVariants.{NoMemory, ReadFault, Refused as RefusedBy}
use Rattle.run_base.specs.declared.place.Place.{Place}
use Rattle.run_base.specs.declared.place.Place.TheVariants.{Memory, At}
use Rattle.run_base.specs.Blocks.{FailsInMemory, SaysNoType, TellsMade, refusal_for}
use Rattle.run_base.specs.Change.{StreamChange, DialerChange, FilesChange, PartsChange}
use Rattle.run_sessions.specs.Read.{DoesRead, PrintsBlock, SaysNoBlock}
use Rattle.run_sessions.specs.Write.{DoesWrite, TakesNoBlock, TakesNone, WritesBlockTo, WritesInput, score_line}
use Rattle.run_base.specs.Errors.{Causes, HasCauseIn, CommandOutcome, no_cause, with_dialer, with_files, with_parts, with_sink, with_source}
use Rattle.run_base.specs.Members.{LinkOf}
use Rattle.run_base.proofs.Causes.{as_told, printed_has_cause}
use Rattle.run_base.proofs.StoreCauses.{AreCaused, block_cause as store_cause, place_cause, word_cause}

-- ---- where a word is refused, or no block is taken

type_cause : (causes : Causes) (word : List ℕ) (failure : CommandError) → SaysNoType word failure
    → HasCauseIn causes (Err failure)
type_cause causes word failure why = ⊎_elim
    (λ number. as_told causes failure _ number.1 tt) (λ kind. as_told causes failure _ kind.3 tt) why

block_cause : (causes : Causes) (score_word type_word : List ℕ) (failure : CommandError)
    → SaysNoBlock score_word type_word failure → HasCauseIn causes (Err failure)
block_cause causes score_word type_word failure why = ⊎_elim
    (λ score. as_told causes failure _ score.1 tt)
    (λ kind. type_cause causes type_word failure kind.1) why

takes_cause : {R K : Type 0} (causes : Causes) (outcome : CommandOutcome) (source : StreamChange R)
    (sink : StreamChange K) → (HasRisen source.faults source.faults' → causes.source)
    → TakesNoBlock outcome source sink → HasCauseIn causes outcome
takes_cause causes outcome source sink rises it =
    subst (HasCauseIn causes) (sym it.outcome_is) (of it.failure it.takes)
  where
    of : (failure : CommandError) → TakesNone failure source → HasCauseIn causes (Err failure)
    of (RefusedBy why) takes = tt
    of ReadFault takes = rises takes.1
    of NoMemory takes = tt
    of failure takes = absurd takes

-- ---- in memory

made_told_cause : {K T : Type 0} (causes : Causes) (text : T → List ℕ) (result : Result T Why)
    (outcome : CommandOutcome) (sink : StreamChange K) → (HasRisen sink.faults sink.faults' → causes.sink)
    → TellsMade text result outcome sink → IfErr result FailsInMemory → HasCauseIn causes outcome
made_told_cause causes text (Ok value) outcome sink rises told fails =
    printed_has_cause causes (text value) outcome sink rises told
made_told_cause causes text (Err why) outcome sink rises told fails =
    subst (HasCauseIn causes) (sym told.0) (of why fails)
  where
    of : (why : Why) → FailsInMemory why → HasCauseIn causes (Err (refusal_for why))
    of whys.DiskFault fails = absurd fails
    of (whys.Stopped call) fails = absurd fails
    of (whys.Damaged site want found) fails = fails
    of why fails = tt

-- ---- the commands

module _ {D L : Type 0} (score : List ℕ → List ℕ) (disk : DiskOf D) (link : LinkOf L)
    (laws : AreCaused score disk link) where
  module _ {I P N K : Type 0} (store score_word type_word : List ℕ) (outcome : CommandOutcome)
      (files : FilesChange I) (parts : PartsChange P D) (dialer : DialerChange N L)
      (sink : StreamChange K) (reads : dialer.read_faults ≡ link.read_faults)
      (writes : dialer.write_faults ≡ link.write_faults) where
    abbrev read_causes : Causes
    read_causes =
        with_files files (with_parts disk parts (with_dialer dialer (with_sink sink no_cause)))

    printed_cause : (s : List ℕ) (kind : ℕ) (place : Place)
        → PrintsBlock score disk link store s kind outcome parts dialer sink place
        → HasCauseIn read_causes outcome
    printed_cause s kind Memory it = made_told_cause read_causes (λ (bytes : List ℕ). bytes)
        it.0.result outcome sink (λ rose. rose) it.0.told it.0.fails
    printed_cause s kind (At at) it = store_cause score disk link laws store 0 false parts dialer reads
        writes read_causes (λ why. why) (λ bad why. why)
        (λ output S act holds calls from to. ReadsOne kind s output calls) at
        (λ (bytes : List ℕ). bytes) outcome sink (λ rose. rose) it.used it.uses it.told

    pub read_cause
        : DoesRead score disk link store score_word type_word outcome files parts dialer sink
        → HasCauseIn read_causes outcome
    read_cause does = ⊎_elim
        (word_cause read_causes (SaysNoBlock score_word type_word) outcome
        (block_cause read_causes score_word type_word))
        (λ it. place_cause read_causes store files
        (PrintsBlock score disk link store it.0 it.1 outcome parts dialer sink) outcome
        (λ rose. rose) (printed_cause it.0 it.1) it.3)
        does

  module _ {R K I P N : Type 0} (store type_word : List ℕ) (outcome : CommandOutcome)
      (source : StreamChange R) (sink : StreamChange K) (files : FilesChange I)
      (parts : PartsChange P D) (dialer : DialerChange N L)
      (reads : dialer.read_faults ≡ link.read_faults)
      (writes : dialer.write_faults ≡ link.write_faults) where
    abbrev write_causes : Causes
    write_causes = with_source source (with_sink sink (with_files files (with_parts disk parts
        (with_dialer dialer no_cause))))

    given_cause : (now kind : ℕ) (bytes : List ℕ) (place : Place)
        → WritesBlockTo score disk link store now kind bytes outcome sink parts dialer place
        → HasCauseIn write_causes outcome
    given_cause now kind bytes Memory it = made_told_cause write_causes score_line it.0.does.result
        outcome sink (λ rose. rose) it.0.does.told it.0.does.fails
    given_cause now kind bytes (At at) it = store_cause score disk link laws store now true parts
        dialer reads writes write_causes (λ why. why) (λ bad why. why)
        (λ output S act holds calls from to.
        WritesOne score (record { kind = kind; bytes = bytes }) output calls) at score_line outcome
        sink (λ rose. rose) it.used it.uses it.told

    written_cause : (kind : ℕ) (place : Place)
        → WritesInput score disk link store kind outcome source sink parts dialer place
        → HasCauseIn write_causes outcome
    written_cause kind place it = ⊎_elim
        (λ none. takes_cause write_causes outcome source sink (λ rose. rose) none.0)
        (λ done. given_cause done.now kind done.bytes place done.writes) it

    pub write_cause
        : DoesWrite score disk link store type_word outcome source sink files parts dialer
        → HasCauseIn write_causes outcome
    write_cause does = ⊎_elim
        (word_cause write_causes (SaysNoType type_word) outcome (type_cause write_causes type_word))
        (λ it. place_cause write_causes store files
        (WritesInput score disk link store it.0 outcome source sink parts dialer) outcome
        (λ rose. rose) (written_cause it.0) it.2)
        does
