-- What is told of a session over a store, whether that is in memory or a configuration's.
use Rattle.std.specs.Prelude.{ℕ, ◌≡◌, ◌⊎◌, ◌<◌, ◌++◌, Option, Some, None, List, length, Result, Ok, Err}
use Rattle.vt_base.specs.Bytes.{AreBytes}
use Rattle.vt_base.specs.declared.why.Why.{Why}
use Rattle.vt_base.specs.declared.why.Why.TheVariants as whys
use Rattle.vt_session.specs.declared.Ended.{Ended}
use Rattle.vt_session.specs.declared.Ended.TheVariants as ends
use Rattle.vt_session.specs.Heard.{Item, Heard}
use Rattle.vt_session.specs.Talk.{Took, spent_len}
use Rattle.vt_use.specs.declared.session.StoreServed.{StoreServed}
use Rattle.run_base.specs.declared.error.CommandError.{CommandError}
use Rattle.run_base.specs.declared.error.CommandError.TheVariants.{Cut, Damaged, DiskFault, Malformed, NoMemory, ReadFault, Spent, WriteFault}
use Rattle.run_base.specs.Change.{StreamChange}
use Rattle.run_base.specs.Errors.{CommandOutcome}

-- ---- how it ended

-- the outcome by the session's end alone, of an input of which so many bytes were taken
abbrev pub outcome_of_end : Ended → (taken : ℕ) → CommandOutcome
outcome_of_end ends.Goodbye taken = Ok tt
outcome_of_end ends.Closed taken = Ok tt
outcome_of_end ends.Cut taken = Err (Cut taken)
outcome_of_end (ends.Malformed place) taken = Err (Malformed place)
outcome_of_end ends.Spent taken = Err (Spent taken)
outcome_of_end ends.ReadFault taken = Err ReadFault
outcome_of_end ends.WriteFault taken = Err WriteFault
outcome_of_end ends.NoMemory taken = Err NoMemory

-- why the store failed in a request, or at its end: a call of a device, or a part that had stopped
-- since one failed; or damage; or want of memory
abbrev pub failure_for : Why → CommandError
failure_for (whys.Damaged site want found) = Damaged want found
failure_for whys.NoMemory = NoMemory
failure_for why = DiskFault

-- the outcome by the failure in the session, if there was one
abbrev pub failed_in : Option Why → CommandOutcome
failed_in None = Ok tt
failed_in (Some why) = Err (failure_for why)

-- the outcome of ending the store's use
abbrev pub closed_with : Result (Unit {0}) Why → CommandOutcome
closed_with (Ok done) = Ok tt
closed_with (Err why) = Err (failure_for why)

-- the first of two outcomes that isn't done
abbrev pub first_outcome : (first second : CommandOutcome) → CommandOutcome
first_outcome (Ok done) second = second
first_outcome (Err failure) second = Err failure

-- the first cause in time: a failure in a request, the session's end, the end of the store's use
abbrev pub outcome_of : StoreServed → CommandOutcome
outcome_of end = first_outcome (failed_in end.failure)
    (first_outcome (outcome_of_end end.ended end.taken) (closed_with end.closed))

-- ---- what came in and went out

-- these bytes came from the source and went to the sink
pub record PassesOver {R K : Type 0} (end : StoreServed) (input output : List ℕ)
    (source : StreamChange R) (sink : StreamChange K) : Type 0 where
  pub bytes : AreBytes source.old
  pub took : Took source.old input source.new end.ended
  pub taken : end.taken ≡ length input
  pub written : sink.new ≡ sink.old ++ output

-- the input is spelled up to its end, which is a goodbye or stands behind a whole message
pub record InputEndsWell (input : List ℕ) : Type 0 where
  pub items : List Item
  pub ended : Ended
  pub heard : Heard input items ended
  pub well : (ended ≡ ends.Goodbye) ⊎ (ended ≡ ends.Closed)
  pub short : length input < spent_len
