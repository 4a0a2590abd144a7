-- What holds of the store of a configuration that was used at its place, by whether it was opened.
use Rattle.std.proofs.Common.{◌≡◌, ℕ, List, Bool, Option, Some, None, Result, Ok, Err, sym, ◌∙◌, refl, subst}
use Rattle.std.specs.Prelude.{IsTrue}
use Rattle.vt_base.specs.declared.score.Score.{Score}
use Rattle.vt_base.specs.declared.why.Why.{Why}
use Rattle.vt_conf.specs.declared.conf.Conf.{Conf as Configuration}
use Rattle.vt_core.specs.Core.{CoreState}
use Rattle.vt_disk.specs.Members.{DiskOf}
use Rattle.vt_blocks.specs.Local.{DoesLocal, HoldsLocal, LocalState}
use Rattle.vt_open.specs.declared.error.OpenError.{OpenError}
use Rattle.vt_open.specs.Opening.{RefusesStore}
use Rattle.vt_requests.specs.Driven.{DrivenState}
use Rattle.vt_tree.specs.declared.error.BlockErr.{BlockErr}
use Rattle.vt_tree.specs.declared.error.TreeErr.TheVariants as trees
use Rattle.vt_use.specs.LocalJobs.{DoesOnStore}
use Rattle.vt_use.specs.OneBlock.{own_answer}
use Rattle.vt_use.specs.Stores.{store_on}
use Rattle.vt_use.specs.Uses.{Uses, UsesCore}
use Rattle.vt_use.specs.Blocks.{closed_behind}
use Rattle.vt_use.specs.PlaceAnswers.{answer_at, answer_in}
use Rattle.vt_use.specs.Change.{DialerChange, PartsChange}
use Rattle.vt_use.specs.Members.{LinkOf}
use Rattle.vt_use.specs.Places.{Doing, UsesAt, as_ended, as_refused}
use Rattle.vt_use.specs.declared.used_at.StoreAt.TheVariants as at
use Rattle.vt_use.specs.declared.used_at.StoreError.{StoreError}
use Rattle.vt_use.specs.declared.used_at.StoreError.TheVariants as stores
use Rattle.vt_use.specs.declared.used_at.UsedAt.{UsedAt}
use Rattle.vac_write.specs.declared.archived.Archived.{Archived}
use Rattle.vac_write.specs.declared.error.VacErr.{VacErr}
use Rattle.vac_write.specs.declared.error.VacErr.TheVariants as vac
use Rattle.vac_store.specs.Storing.{archived_at, came_to}
use Rattle.vac_store.specs.declared.outcome.ArchivedAt.{ArchivedAt}
use Rattle.vac_store.specs.declared.outcome.ArchiveError.{ArchiveError}
use Rattle.vt_commands.specs.Answers.{WhereOpened, WhereStored}

-- ---- what it answered

-- a store's own answer, as it is told
abbrev pub as_at : {T : Type 0} → Result T Why → Result T StoreError
as_at (Ok value) = Ok value
as_at (Err why) = Err (stores.Refused why)

pub answer_is : {T : Type 0} (output : Result T BlockErr) (said : Option Why)
    (ended : Result (Unit {0}) Why) → answer_in output (as_refused said) (as_ended ended)
    ≡ as_at (closed_behind (own_answer output said) ended)
answer_is (Ok value) said (Ok done) = refl
answer_is (Ok value) said (Err why) = refl
answer_is (Err err) (Some why) ended = refl
answer_is (Err err) None ended = refl

-- nothing failed at the end of a use that only reads
pub unended : {T : Type 0} (result : Result T Why) (ended : Result (Unit {0}) Why) → ended ≡ Ok tt
    → closed_behind result ended ≡ result
unended (Ok value) (Ok done) is = refl
unended (Ok value) (Err why) is = let never : ⊥ = cc in absurd never
unended (Err why) ended is = refl

pub where_at : {T : Type 0} (Holds : Result T Why → Type 0) (unopened : Type 0)
    (result : Result T Why) → Holds result → WhereOpened Holds unopened (as_at result)
where_at Holds unopened (Ok value) it = it
where_at Holds unopened (Err why) it = it

-- ---- by whether it was opened

module _ {P D N L O : Type 0} (score : List ℕ → List ℕ) (disk : DiskOf D) (link : LinkOf L)
    (conf : Configuration) (now : ℕ) (writes : Bool) (parts : PartsChange P D)
    (dialer : DialerChange N L) where
  -- this was done with what was opened
  abbrev pub UsedFor : (Does : O → Doing) → O → (said : Option Why) → (added : ℕ)
      → (ended : Result (Unit {0}) Why) → Type 0
  UsedFor Does output said added ended = Uses score disk (IsTrue parts.tells) conf
      (UsesCore score disk now writes (DoesOnStore (store_on score disk)
      (Does output (LocalState (DrivenState D)) (DoesLocal (store_on score disk))
      (HoldsLocal (store_on score disk) score)) said) added ended) parts.old parts.new

  pub where_used : (Does : O → Doing) (Told : Result (UsedAt O) StoreError → Type 0)
      → ((output : O) (said : Option Why) (added : ℕ) (ended : Result (Unit {0}) Why)
      → UsedFor Does output said added ended → Told (Ok (record {
        output = output;
        refusal = as_refused said;
        blocks = added;
        closed = as_ended ended;
      })))
      → ((bad : OpenError) → RefusesStore score disk (IsTrue parts.tells) conf parts.old parts.new
      parts.faults parts.faults' bad → Told (Err (stores.Unopened bad)))
      → (used : Result (UsedAt O) StoreError)
      → UsesAt score disk link (at.Conf conf) now writes Does used parts dialer → Told used
  where_used Does Told of not (Ok u) x = subst (λ (refusal : Option StoreError). Told (Ok (record {
    output = u.output;
    refusal = refusal;
    blocks = u.blocks;
    closed = u.closed;
  }))) (sym x.0.refusal_is) (subst (λ (closed : Result (Unit {0}) StoreError). Told (Ok (record {
    output = u.output;
    refusal = as_refused x.0.said;
    blocks = u.blocks;
    closed = closed;
  }))) (sym x.0.closed_is) (of u.output x.0.said u.blocks x.0.ended x.0.uses))
  where_used Does Told of not (Err (stores.Unopened bad)) x = not bad x.0.0
  where_used Does Told of not (Err (stores.Refused why)) x = absurd x.0
  where_used Does Told of not (Err (stores.Server bad)) x = absurd x.0

-- ---- a folder's archive

where_came : (stored unopened : Type 0) (output : Result Archived VacErr) (said : Option Why)
    (added : ℕ) (ended : Result (Unit {0}) Why) → stored
    → WhereStored stored unopened (came_to output (as_refused said) added (as_ended ended))
where_came stored unopened (Ok a) said added (Ok done) it = it
where_came stored unopened (Ok a) said added (Err why) it = it
where_came stored unopened (Err (vac.Tree (trees.Block err))) (Some why) added ended it = it
where_came stored unopened (Err (vac.Tree (trees.Block err))) None added ended it = it
where_came stored unopened (Err err) said added ended it = it

pub where_stored : {P D N L : Type 0} (score : List ℕ → List ℕ) (disk : DiskOf D) (link : LinkOf L)
    (conf : Configuration) (now : ℕ) (parts : PartsChange P D) (dialer : DialerChange N L)
    (Does : Result Archived VacErr → Doing) (stored : Result ArchivedAt ArchiveError → Type 0)
    (unopened : Type 0)
    → ((answer : Result Archived VacErr) (said : Option Why) (added : ℕ)
    (ended : Result (Unit {0}) Why)
    → UsedFor score disk link conf now Bool.true parts dialer Does answer said added ended
    → stored (came_to answer (as_refused said) added (as_ended ended)))
    → ((bad : OpenError) → RefusesStore score disk (IsTrue parts.tells) conf parts.old parts.new
    parts.faults parts.faults' bad → unopened)
    → (used : Result (UsedAt (Result Archived VacErr)) StoreError)
    → UsesAt score disk link (at.Conf conf) now Bool.true Does used parts dialer
    → WhereStored (stored (archived_at used)) unopened (archived_at used)
where_stored score disk link conf now parts dialer Does stored unopened of not used x =
    where_used score disk link conf now Bool.true parts dialer Does
    (λ u. WhereStored (stored (archived_at u)) unopened (archived_at u))
    (λ answer said added ended uses. where_came
    (stored (came_to answer (as_refused said) added (as_ended ended))) unopened answer said added ended
    (of answer said added ended uses))
    (λ bad refuses. not bad refuses) used x

-- ---- one block

pub where_block : {P D N L T : Type 0} (score : List ℕ → List ℕ) (disk : DiskOf D) (link : LinkOf L)
    (conf : Configuration) (now : ℕ) (writes : Bool) (parts : PartsChange P D)
    (dialer : DialerChange N L) (Does : Result T BlockErr → Doing) (Holds : Result T Why → Type 0)
    (unopened : Type 0)
    → ((output : Result T BlockErr) (said : Option Why) (added : ℕ) (ended : Result (Unit {0}) Why)
    → UsedFor score disk link conf now writes parts dialer Does output said added ended
    → Holds (closed_behind (own_answer output said) ended))
    → ((bad : OpenError) → RefusesStore score disk (IsTrue parts.tells) conf parts.old parts.new
    parts.faults parts.faults' bad → unopened)
    → (used : Result (UsedAt (Result T BlockErr)) StoreError)
    → UsesAt score disk link (at.Conf conf) now writes Does used parts dialer
    → WhereOpened Holds unopened (answer_at used)
where_block score disk link conf now writes parts dialer Does Holds unopened of not used x =
    where_used score disk link conf now writes parts dialer Does
    (λ u. WhereOpened Holds unopened (answer_at u))
    (λ output said added ended uses. subst (WhereOpened Holds unopened)
    (sym (answer_is output said ended))
    (where_at Holds unopened (closed_behind (own_answer output said) ended)
    (of output said added ended uses)))
    (λ bad refuses. not bad refuses) used x
