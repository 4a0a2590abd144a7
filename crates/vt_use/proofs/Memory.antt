-- A use of a sound store in which no device counted a failed call: want of memory is its only failure.
use Rattle.std.proofs.Common.{◌≡◌, ⊎_elim, ℕ, ◌<◌, Bool, true, false, cond, IsTrue, Option, Some, None, Result, Ok, Err, List, [], ◌∷◌, refl, sym, subst}
use Rattle.std.specs.List.{All, AllByRecursion}
use Rattle.std.specs.Option.{option_or}
use Rattle.std.specs.Prelude.{◌^◌, IfErr, IfSome}
use Rattle.std.proofs.lemmas.Bool.{cases_Bool}
use Rattle.vt_base.specs.declared.why.Why.{Why}
use Rattle.vt_base.specs.declared.why.Why.TheVariants.{BadType, TooBig, TooSmall, Absent, Collision, IndexFull, ArenasFull, DiskFault, Stopped, Damaged, NoMemory}
use Rattle.vt_base.specs.Protocol.{Operation, ping, read, write, sync, RMessage}
use Rattle.vt_disk.specs.Members.{DiskOf}
use Rattle.vt_model.specs.Causes.{OneRose}
use Rattle.vt_model.specs.History.{History}
use Rattle.vt_handler.specs.Serving.{tells_failure}
use Rattle.vt_handler.specs.Taking.{DoesCalls, DoesOne, first_told}
use Rattle.vt_core.specs.Causes.{IsUndamagedSaid, IsUndamagedWhy}
use Rattle.vt_core.specs.Core.{CoreState, each_of, stops_of}
use Rattle.vt_core.specs.Sound.{IsSound}
use Rattle.vt_requests.specs.Driven.{DoesRequest, DrivenState}
use Rattle.vt_requests.proofs.Risen.{same_fell}
use Rattle.vt_use.specs.Answers.{FailsForMemoryOnly}
use Rattle.vt_use.specs.Causes.{FailsFor, HasItsCause, NoCallFails, TellsStops}
use Rattle.vt_use.specs.Stores.{Exchange, at_time, store_on}
use Rattle.vt_use.specs.Uses.{AsksAndEnds, ClosesIf}
use Rattle.vt_use.proofs.Answered.{one_goes}
use Rattle.vt_use.proofs.Causes.{said_why}
use Rattle.vt_use.proofs.Tells.{all_fit, rose_within}
use Rattle.vt_use.proofs.Uses.{asks_tell, each_cause, end_tells}

-- no damage is told
abbrev IsUndamaged : Exchange → Type 0
IsUndamaged asked = IfErr asked.1 IsUndamagedWhy

module _ {D : Type 0} (score : List ℕ → List ℕ) (disk : DiskOf D) (tells : IsTrue disk.tells)
  where
    request_undamaged : (m : Operation) (given : Result RMessage Why) (d d' : DrivenState D)
        (h : History) → IsSound score disk d.core h → DoesRequest score disk m given d d'
        → IsUndamaged (m, given)
    request_undamaged m (Ok reply) d d' h sound it = tt
    request_undamaged m (Err why) d d' h sound it = subst IsUndamagedSaid
        (said_why it.answer.said why it.says) (it.answers.undamaged h tells sound)

    one_undamaged : (m : Operation) (given : Result RMessage Why) (d d' : DrivenState D)
        (h : History) → IsSound score disk d.core h → DoesOne (store_on score disk) d m given d'
        → IsUndamaged (m, given)
    one_undamaged ping given d d' h sound it =
        subst (λ (r : Result RMessage Why). IsUndamaged (ping, r)) (sym it.0) tt
    one_undamaged (read s kind count) given d d' h sound it =
        request_undamaged (read s kind count) given d d' h sound it
    one_undamaged (write kind bytes) given d d' h sound it =
        request_undamaged (write kind bytes) given d d' h sound it
    one_undamaged sync given d d' h sound it = request_undamaged sync given d d' h sound it

    all_undamaged : (calls : List Exchange) (d last : DrivenState D) (h : History)
        → IsSound score disk d.core h → DoesCalls (store_on score disk) d calls last
        → AllByRecursion IsUndamaged calls
    all_undamaged [] d last h sound it = tt
    all_undamaged (call ∷ calls) d last h sound it =
        let next = one_goes score disk tells call.0 call.1 d it.0 h sound it.1 in (
          one_undamaged call.0 call.1 d it.0 h sound it.1,
          all_undamaged calls it.0 last next.next next.sound it.2,
        )

module _ {D : Type 0} (disk : DiskOf D) (old new : CoreState D) (quiet : NoCallFails disk old new)
  where
    by_memory : (why : Why) → FailsFor disk why old new → IsUndamagedWhy why → why ≡ NoMemory
    by_memory DiskFault it sound = absurd (quiet.none_rose it)
    by_memory (Stopped call) it sound = absurd (quiet.none_rose it)
    by_memory (Damaged site want found) it sound = absurd sound
    by_memory NoMemory it sound = refl
    by_memory BadType it sound = absurd it
    by_memory TooBig it sound = absurd it
    by_memory TooSmall it sound = absurd it
    by_memory Absent it sound = absurd it
    by_memory Collision it sound = absurd it
    by_memory IndexFull it sound = absurd it
    by_memory ArenasFull it sound = absurd it

    all_need : (calls : List Exchange) → AllByRecursion (HasItsCause disk old new) calls
        → AllByRecursion IsUndamaged calls → AllByRecursion FailsForMemoryOnly calls
    all_need [] causes sound = tt
    all_need ((m, Ok reply) ∷ calls) causes sound =
        (tt, all_need calls causes.1 sound.1)
    all_need ((m, Err why) ∷ calls) causes sound = (
      λ fails. by_memory why (causes.0 fails) sound.0,
      all_need calls causes.1 sound.1,
    )

-- of several, the first failure is
pub first_needs : (calls : List Exchange) → AllByRecursion FailsForMemoryOnly calls
    → IfSome (first_told calls) (λ why. why ≡ NoMemory)
first_needs [] all = tt
first_needs ((m, Ok reply) ∷ calls) all = first_needs calls all.1
first_needs ((m, Err why) ∷ calls) all = ⊎_elim
    (λ fails. subst (λ (b : Bool). IfSome (option_or (cond b (Some why) None) (first_told calls))
    (λ w. w ≡ NoMemory)) (sym fails) (all.0 fails))
    (λ no. subst (λ (b : Bool). IfSome (option_or (cond b (Some why) None) (first_told calls))
    (λ w. w ≡ NoMemory)) (sym no) (first_needs calls all.1))
    (cases_Bool (tells_failure why))

module _ {D : Type 0} (score : List ℕ → List ℕ) (disk : DiskOf D) (now : ℕ) (writes : Bool)
    (calls : List Exchange) (closed : Result (Unit {0}) Why) (old kept new : CoreState D)
    (it : AsksAndEnds score disk now writes calls closed old kept new)
    (fits : (device : D) → disk.faults device < 2 ^ 64) (quiet : NoCallFails disk old new)
    (tells : IsTrue disk.tells) where
  pub calls_need : (h : History) → IsSound score disk old h → AllByRecursion FailsForMemoryOnly calls
  calls_need h sound = all_need disk old new quiet calls
      (each_cause score disk now writes calls closed old kept new it fits quiet.goes_on)
      (all_undamaged score disk tells calls (at_time now old) (at_time now kept) h sound it.asked)

  before : TellsStops disk old kept
  before = asks_tell score disk now writes calls closed old kept new it fits quiet.goes_on

  behind : TellsStops disk kept new
  behind = end_tells score disk now writes calls closed old kept new it fits quiet.goes_on

  abbrev counts : CoreState D → List ℕ
  counts k = each_of disk.faults k

  none_before : ¬ OneRose (counts old) (counts kept)
  none_before rose = quiet.none_rose (rose_within (counts old) (counts old) (counts kept)
      (counts new) (all_fit disk fits new) (same_fell (counts old)) rose behind.fell)

  -- nor does one fail before the end
  pub quiet_before : NoCallFails disk old kept
  quiet_before = record { goes_on = quiet.goes_on; none_rose = none_before }

  none_behind : ¬ OneRose (counts kept) (counts new)
  none_behind rose = quiet.none_rose (rose_within (counts old) (counts kept) (counts new)
      (counts new) (all_fit disk fits new) before.fell rose (same_fell (counts new)))

  none_stopped : All (λ stop. stop ≡ None) (stops_of kept)
  none_stopped = subst (λ (stops : List (Option ℕ)). All (λ stop. stop ≡ None) stops)
      (sym (⊎_elim (λ same. same) (λ rose. absurd (none_before rose)) before.stops)) quiet.goes_on

  pub end_needs : (last : History) → IsSound score disk kept last
      → (w : Bool) → ClosesIf score disk w closed kept new → closed ≡ Ok tt
  end_needs last sound true ends = ends.ends_well last tells sound none_stopped none_behind
  end_needs last sound false ends = ends.0
