-- Why a store of this process said no to calls of a store of blocks.
use Rattle.std.proofs.Common.{◌≡◌, ◌⊎◌, ⊎_elim, inl, inr, ℕ, ◌<◌, List, [], ◌∷◌, Bool, Option, Some, None, Result, Ok, Err, refl, sym, ◌∙◌, ap, subst}
use Rattle.std.specs.List.{All, AllByRecursion, cons_option}
use Rattle.std.specs.Option.{option_or}
use Rattle.std.specs.Prelude.{◌^◌, IfErr, IfSome}
use Rattle.vt_base.specs.Protocol.{Operation, RMessage, r_read, r_sync, r_write}
use Rattle.vt_base.specs.declared.why.Why.{Why}
use Rattle.vt_base.specs.declared.why.Why.TheVariants as whys
use Rattle.vt_core.specs.Core.{CoreState, stops_of}
use Rattle.vt_disk.specs.Members.{DiskOf}
use Rattle.vt_handler.specs.Serving.{tells_failure}
use Rattle.vt_blocks.specs.Local.{DoesLocal, IsToldAs, LocalState, RefusedFor, StandsFor, err_of, refused_after}
use Rattle.vt_tree.specs.declared.error.BlockErr.{BlockErr}
use Rattle.vt_tree.specs.Calls.{Call, get, put, sync, asked_of, refusal_of, refusals_of}
use Rattle.vt_tree.specs.Making.{Makes}
use Rattle.vt_use.specs.Causes.{FailsFor, HasItsCause}
use Rattle.vt_use.specs.LocalJobs.{DoesOnStore, exchanges_of, new_local}
use Rattle.vt_use.specs.Stores.{Exchange, StoreOf, at_time, store_on}
use Rattle.vt_use.specs.Uses.{UsesCore}
use Rattle.vt_use.proofs.Uses.{each_cause, end_cause}
use Rattle.vt_use.specs.PlaceCalls.{CallsStore, FailsAs, SaysFirst}

-- a job that was done with a store called it so
pub calls_store : {D : Type 0} (score : List ℕ → List ℕ) (disk : DiskOf D) (now : ℕ) (writes : Bool)
    (Does : List Call → (l l' : LocalState _) → Type 0) (said : Option Why) (added : ℕ)
    (closed : Result (Unit {0}) Why) (old new : CoreState D)
    → (x : UsesCore score disk now writes (DoesOnStore (store_on score disk) Does said) added closed
    old new)
    → CallsStore score disk now writes x.does.calls said closed old new
calls_store score disk now writes Does said added closed old new x = record {
  added = added;
  uses = record {
    exchanges = x.exchanges;
    kept = x.kept;
    asks = x.asks;
    does = record {
      calls = x.does.calls;
      kept = x.does.kept;
      made = x.does.made;
      exchanges_are = x.does.exchanges_are;
      does = refl;
      refused_is = x.does.refused_is;
      new_is = x.does.new_is;
    };
    added_is = x.added_is;
  };
}

-- ---- what was said first

module _ {S : Type 0} (T : StoreOf S) (P : Exchange → Type 0) (Q : Why → Type 0)
    (so : (m : Operation) (why : Why) → P (m, Err why) → Q why) where
  said_after : (m : Operation) (reply : Result RMessage Why) (before : Option Why) → P (m, reply)
      → IfSome before Q → IfSome (refused_after reply before) Q
  said_after m (Ok reply) before it was = was
  said_after m (Err why) (Some first) it was = was
  said_after m (Err why) None it was = so m why it

  said_so : (calls : List Call) (l l' : LocalState S) (made : Makes (DoesLocal T) l calls l')
      → AllByRecursion P (exchanges_of T calls l l' made) → IfSome l.refused Q
      → IfSome l'.refused Q
  said_so [] l l' made all was =
      subst (λ (x : LocalState S). IfSome x.refused Q) (sym made) was
  said_so (call ∷ calls) l l' made all was = said_so calls made.0 l' made.2 all.1
      (subst (λ (o : Option Why). IfSome o Q) (sym made.1.refused)
      (said_after (asked_of call) made.1.reply l.refused all.0 was))

-- ---- the first refusal

-- a call was done, or it was refused for this reason, which its error is told of
record AnswersFor {S : Type 0} (call : Call) (l next : LocalState S) (err : BlockErr) (why : Why)
    : Type 0 where
  refusal : refusal_of call ≡ Some err
  told : IsToldAs why err
  refused : next.refused ≡ option_or l.refused (Some why)

module _ {S : Type 0} (T : StoreOf S) where
  abbrev IsDone : Call → (l next : LocalState S) → Type 0
  IsDone call l next = (refusal_of call ≡ None) × (next.refused ≡ l.refused)

  abbrev IsSettled : Call → (l next : LocalState S) → Type 0
  IsSettled call l next =
      IsDone call l next ⊎ ((err : BlockErr) × (why : Why) × AnswersFor call l next err why)

  done : (call : Call) (l next : LocalState S) (it : DoesLocal T l call next) (reply : RMessage)
      → refusal_of call ≡ None → it.reply ≡ Ok reply → IsSettled call l next
  done call l next it reply none is = inl (
    none,
    it.refused ∙ ap (λ (r : Result RMessage Why). refused_after r l.refused) is,
  )

  not_done : (call : Call) (l next : LocalState S) (it : DoesLocal T l call next) (err : BlockErr)
      → refusal_of call ≡ Some err → RefusedFor err it.reply → IsSettled call l next
  not_done call l next it err some for = inr (
    err,
    for.0,
    record {
      refusal = some;
      told = for.2;
      refused = it.refused
          ∙ ap (λ (r : Result RMessage Why). refused_after r l.refused) for.1;
    },
  )

  settled : (call : Call) (l next : LocalState S) → DoesLocal T l call next
      → IsSettled call l next
  settled (get kind s (Ok bytes)) l next it =
      done (get kind s (Ok bytes)) l next it (r_read bytes) refl it.stands
  settled (get kind s (Err err)) l next it =
      not_done (get kind s (Err err)) l next it err refl it.stands
  settled (put b (Ok score)) l next it =
      done (put b (Ok score)) l next it (r_write score.0) refl it.stands
  settled (put b (Err err)) l next it = not_done (put b (Err err)) l next it err refl it.stands
  settled (sync (Ok done_all)) l next it =
      done (sync (Ok done_all)) l next it r_sync refl it.stands
  settled (sync (Err err)) l next it = not_done (sync (Err err)) l next it err refl it.stands

  -- what was said first stays
  stays_first : (calls : List Call) (l l' : LocalState S) (why : Why)
      → Makes (DoesLocal T) l calls l' → l.refused ≡ Some why → l'.refused ≡ Some why
  stays_first [] l l' why same was = ap (λ (s : LocalState S). s.refused) same ∙ was
  stays_first (call ∷ calls) l l' why made was = stays_first calls made.0 l' why made.2
      (made.1.refused ∙ ap (λ (o : Option Why). refused_after made.1.reply o) was
      ∙ stays made.1.reply)
    where
      stays : (reply : Result RMessage Why) → refused_after reply (Some why) ≡ Some why
      stays (Ok reply) = refl
      stays (Err other) = refl

  -- the refusals behind a call that was done are those of the others
  behind : (call : Call) (calls : List Call) (said : Option Why) → refusal_of call ≡ None
      → SaysFirst said calls → SaysFirst said (call ∷ calls)
  behind call calls None none it =
      ap (λ (r : Option BlockErr). cons_option r (refusals_of calls)) none ∙ it
  behind call calls (Some why) none it = record {
    err = it.err;
    rest = it.rest;
    refusals = ap (λ (r : Option BlockErr). cons_option r (refusals_of calls)) none ∙ it.refusals;
    told = it.told;
  }

  says_first : (calls : List Call) (l l' : LocalState S) → Makes (DoesLocal T) l calls l'
      → l.refused ≡ None → SaysFirst l'.refused calls
  says_first [] l l' same none = subst (λ (o : Option Why). SaysFirst o [])
      (sym (ap (λ (s : LocalState S). s.refused) same ∙ none)) refl
  says_first (call ∷ calls) l l' made none = ⊎_elim
      (λ well. behind call calls l'.refused well.0
      (says_first calls made.0 l' made.2 (well.1 ∙ none)))
      (λ refused. subst (λ (o : Option Why). SaysFirst o (call ∷ calls))
      (sym (stays_first calls made.0 l' refused.1 made.2
      (refused.2.refused ∙ ap (λ (o : Option Why). option_or o (Some refused.1)) none))) (record {
        err = refused.0;
        rest = refusals_of calls;
        refusals = ap (λ (r : Option BlockErr). cons_option r (refusals_of calls))
            refused.2.refusal;
        told = refused.2.told;
      }))
      (settled call l made.0 made.1)

-- ---- what was told of each call

module _ {D : Type 0} (disk : DiskOf D) (old new : CoreState D) where
  abbrev Fails : Why → Type 0
  Fails why = tells_failure why ≡ Bool.true → FailsFor disk why old new

  own_fails : (why : Why) → Fails why → FailsAs disk old new (err_of why)
  own_fails whys.DiskFault fails = fails refl
  own_fails (whys.Damaged site want found) fails = fails refl
  own_fails whys.NoMemory fails = tt
  own_fails whys.BadType fails = (whys.BadType, refl, fails)
  own_fails whys.TooBig fails = (whys.TooBig, refl, fails)
  own_fails whys.TooSmall fails = (whys.TooSmall, refl, fails)
  own_fails whys.Absent fails = (whys.Absent, refl, fails)
  own_fails whys.Collision fails = (whys.Collision, refl, fails)
  own_fails whys.IndexFull fails = (whys.IndexFull, refl, fails)
  own_fails whys.ArenasFull fails = (whys.ArenasFull, refl, fails)
  own_fails (whys.Stopped call) fails = (whys.Stopped call, refl, fails)

  told_fails : (err : BlockErr) (reply : Result RMessage Why) → RefusedFor err reply
      → IfErr reply Fails → FailsAs disk old new err
  told_fails err reply for fails =
      let why = for.0 in
      let own : Fails why = subst (λ (r : Result RMessage Why). IfErr r Fails) for.1 fails in
      ⊎_elim
      (λ is. subst (FailsAs disk old new) (sym is) (own_fails why own))
      (λ none. subst (FailsAs disk old new) (sym none.1) tt)
      for.2

  call_fails : (call : Call) (reply : Result RMessage Why) → StandsFor call reply
      → IfErr reply Fails → IfSome (refusal_of call) (FailsAs disk old new)
  call_fails (get kind s (Ok bytes)) reply stands fails = tt
  call_fails (get kind s (Err err)) reply stands fails = told_fails err reply stands fails
  call_fails (put b (Ok score)) reply stands fails = tt
  call_fails (put b (Err err)) reply stands fails = told_fails err reply stands fails
  call_fails (sync (Ok done)) reply stands fails = tt
  call_fails (sync (Err err)) reply stands fails = told_fails err reply stands fails

  with_others : (o : Option BlockErr) (errs : List BlockErr) → IfSome o (FailsAs disk old new)
      → AllByRecursion (FailsAs disk old new) errs
      → AllByRecursion (FailsAs disk old new) (cons_option o errs)
  with_others None errs first others = others
  with_others (Some err) errs first others = (first, others)

  calls_fail : {S : Type 0} (T : StoreOf S) (calls : List Call) (l l' : LocalState S)
      (made : Makes (DoesLocal T) l calls l')
      → AllByRecursion (HasItsCause disk old new) (exchanges_of T calls l l' made)
      → AllByRecursion (FailsAs disk old new) (refusals_of calls)
  calls_fail T [] l l' made all = tt
  calls_fail T (call ∷ calls) l l' made all = with_others (refusal_of call) (refusals_of calls)
      (call_fails call made.1.reply made.1.stands all.0) (calls_fail T calls made.0 l' made.2 all.1)

-- ---- of a store on devices

module _ {D : Type 0} (score : List ℕ → List ℕ) (disk : DiskOf D) (now : ℕ) (writes : Bool)
    (calls : List Call) (said : Option Why) (closed : Result (Unit {0}) Why) (old new : CoreState D)
    (it : CallsStore score disk now writes calls said closed old new) where
  -- of the calls that were made what holds of these calls
  of_calls : (P : List Call → Type 0) → P it.uses.does.calls → P calls
  of_calls P so = subst P it.uses.does.does so

  pub first_said : SaysFirst said calls
  first_said = of_calls (SaysFirst said) (subst (λ (o : Option Why). SaysFirst o it.uses.does.calls)
      (sym it.uses.does.refused_is) (says_first (store_on score disk) it.uses.does.calls
      (new_local (at_time now old)) it.uses.does.kept it.uses.does.made refl))

  module _ (fits : (device : D) → disk.faults device < 2 ^ 64)
      (none : All (λ stop. stop ≡ None) (stops_of old)) where
    each : AllByRecursion (HasItsCause disk old new) (exchanges_of (store_on score disk)
        it.uses.does.calls (new_local (at_time now old)) it.uses.does.kept it.uses.does.made)
    each = subst (AllByRecursion (HasItsCause disk old new)) it.uses.does.exchanges_are
        (each_cause score disk now writes it.uses.exchanges closed old it.uses.kept new it.uses.asks
        fits none)

    pub said_fails : IfSome said (λ why. tells_failure why ≡ Bool.true → FailsFor disk why old new)
    said_fails = subst (λ (o : Option Why). IfSome o (Fails disk old new))
        (sym it.uses.does.refused_is) (said_so (store_on score disk) (HasItsCause disk old new)
        (Fails disk old new) (λ m why fails. fails) it.uses.does.calls (new_local (at_time now old))
        it.uses.does.kept it.uses.does.made each tt)

    pub each_fails : AllByRecursion (FailsAs disk old new) (refusals_of calls)
    each_fails = of_calls (λ (all : List Call). AllByRecursion (FailsAs disk old new)
        (refusals_of all)) (calls_fail disk old new (store_on score disk) it.uses.does.calls
        (new_local (at_time now old)) it.uses.does.kept it.uses.does.made each)

    pub closed_fails : IfErr closed (λ why. FailsFor disk why old new)
    closed_fails = end_cause score disk now writes it.uses.exchanges closed old it.uses.kept new
        it.uses.asks fits none
