-- All that is told of a request, by which events it was answered.
use Rattle.std.proofs.Common.{◌≡◌, ◌≢◌, ◌⊎◌, ⊎_elim, ℕ, List, Option, None, sym, ◌∙◌, subst}
use Rattle.std.specs.Prelude.{IsSome, IsTrue}
use Rattle.vt_base.specs.declared.answer.Answer.{Answer}
use Rattle.vt_base.specs.declared.why.Why.{Why}
use Rattle.vt_base.specs.Protocol.{Operation, sync}
use Rattle.vt_disk.specs.Members.{DiskOf}
use Rattle.vt_model.specs.Answer.{answer}
use Rattle.vt_model.specs.History.{Accepted, History}
use Rattle.vt_base.specs.declared.operation.Operation.{Operation as Asked}
use Rattle.vt_core.specs.declared.event.Out.{Out}
use Rattle.vt_core.specs.declared.event.Out.TheVariants.{NotYet, Waits, Moved, Nothing, Failed}
use Rattle.vt_core.specs.Causes.{OnlyReadFrom, READS_MOST}
use Rattle.vt_core.specs.Core.{CoreState, devices_of, setup_of}
use Rattle.vt_base.specs.Operations.{operation_of}
use Rattle.vt_core.specs.Files.{all_of}
use Rattle.vt_core.specs.Machine.{WaitsForNone}
use Rattle.vt_core.specs.Sound.{IsSound}
use Rattle.vt_requests.specs.Answers.{DrivesRequest}
use Rattle.vt_requests.specs.Requests.{IsRequested}
use Rattle.vt_requests.proofs.AskGives.{FindsNoRoom, Given, IsWaiting, gives, never_ping}
use Rattle.vt_requests.proofs.SyncTold.{told_wait}
use Rattle.vt_requests.proofs.Told.{Told, behind_test, told_again, told_at_once, told_behind}
use Rattle.vt_requests.proofs.Whys.{stop_for_same}

-- a request that is told to come again found no room, and one that is told to wait is a sync
pub room_given : {D : Type 0} (score : List ℕ → List ℕ) (session : ℕ) (m : Operation) (old new : CoreState D) → Given score session m NotYet old new → FindsNoRoom score m NotYet old new
room_given score session m old new given = ⊎_elim (λ said. absurd (let no = said.out_is in cc)) (λ rest. ⊎_elim (λ room. room) (λ waits. absurd (let no = waits.out_is in cc)) rest) given

pub wait_given : {D : Type 0} (score : List ℕ → List ℕ) (session : ℕ) (m : Operation) (old new : CoreState D) → Given score session m Waits old new → IsWaiting score session m Waits old new
wait_given score session m old new given = ⊎_elim (λ said. absurd (let no = said.out_is in cc)) (λ rest. ⊎_elim (λ room. absurd (let no = room.out_is in cc)) (λ waits. waits) rest) given

-- and nothing else is given
pub not_given : {D : Type 0} (score : List ℕ → List ℕ) (session : ℕ) (m : Operation) (out : Out) (old new : CoreState D) → Given score session m out old new
    → (out ≡ Moved) ⊎ (out ≡ Nothing) ⊎ ((why : Why) × (out ≡ Failed why)) → ⊥
not_given score session m out old new given = ⊎_elim
    (λ said other. none said.out_is other (λ e. cc) (λ e. cc) (λ w e. cc))
    (λ rest. ⊎_elim
    (λ room other. none room.out_is other (λ e. cc) (λ e. cc) (λ w e. cc))
    (λ waits other. none waits.out_is other (λ e. cc) (λ e. cc) (λ w e. cc)) rest)
    given
  where
    none : {o : Out} → out ≡ o → (out ≡ Moved) ⊎ (out ≡ Nothing) ⊎ ((why : Why) × (out ≡ Failed why)) → (o ≡ Moved → ⊥) → (o ≡ Nothing → ⊥) → ((w : Why) → o ≡ Failed w → ⊥) → ⊥
    none is other no1 no2 no3 = ⊎_elim (λ e. no1 (sym is ∙ e)) (λ more. ⊎_elim (λ e. no2 (sym is ∙ e)) (λ e. no3 e.0 (sym is ∙ e.1)) more) other

module _ {D : Type 0} (score : List ℕ → List ℕ) (disk : DiskOf D) (session now : ℕ) (r : Asked) (a : Answer) (old new : CoreState D) (free : WaitsForNone old.waiting session) where
  told : IsRequested score disk session r now a old new → Told score disk (operation_of r) a old new
  told it = ⊎_elim
      (λ step. told_at_once score disk session now r a old new free step)
      (λ later. ⊎_elim
      (λ again.
      let room = room_given score session (operation_of r) old later.mid (gives score disk session now NotYet old later.mid (operation_of r) (never_ping r) (again.0.does.serves free)) in
      let before = behind_test score disk session now r old later.mid again.0 room in
      told_behind score disk (operation_of r) a old later.mid new before
      (told_again score disk session now r a later.mid new (subst (λ (ws : List (Option ℕ)). WaitsForNone ws session) (sym room.waiting) free) room.reaches
      (stop_for_same score (operation_of r) old later.mid before.stops before.keeps.store.shards before.keeps.store.setup ∙ room.goes) again.1))
      (λ waits.
      told_wait score disk session now r a old later.mid new free waits.0
      (wait_given score session (operation_of r) old later.mid (gives score disk session now Waits old later.mid (operation_of r) (never_ping r) (waits.0.does.serves free))) waits.1)
      later.later)
      it

  only_reads : IsRequested score disk session r now a old new → (h : History) → IsTrue disk.tells → IsSound score disk old h → operation_of r ≢ sync
      → (answer score (setup_of old) h (operation_of r)).added ≡ None → OnlyReadFrom disk READS_MOST (all_of (devices_of old)) (all_of (devices_of new))
  only_reads it h tells sound no_sync none = ⊎_elim
      (λ step. step.calls)
      (λ later. ⊎_elim
      (λ again.
      let some = (again.0.machine tells h sound).1.1 in
      absurd (let no = subst (λ (o : Option Accepted). IsSome o) none some in cc))
      (λ waits. absurd (no_sync (waits.0.machine tells h sound).1.0))
      later.later)
      it

  pub all_told : IsRequested score disk session r now a old new → DrivesRequest score disk session r now a old new
  all_told it =
      let t = told it in
      record {
        requested = it;
        at = t.at;
        one_more = t.one_more;
        suits = t.suits;
        keeps = t.keeps;
        stops = t.stops;
        counts = t.counts;
        cause = t.cause;
        covered = t.covered;
        serves = t.serves;
        undamaged = t.undamaged;
        reads = only_reads it;
      }
