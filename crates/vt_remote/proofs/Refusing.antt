-- Why a server didn't answer.
use Rattle.std.proofs.Common.{◌≡◌, ⊎_elim, ℕ, ◌<◌, true, false, Option, Some, None, Result, Ok, Err, List, [], ◌∷◌, refl, sym, ◌∙◌, ap, subst, arith}
use Rattle.std.specs.List.{cons_option}
use Rattle.vt_base.specs.Faults.{HasRisen}
use Rattle.vt_client.specs.declared.error.ClientErr.{ClientErr}
use Rattle.vt_client.specs.declared.error.ClientErr.TheVariants as errs
use Rattle.vt_client.specs.declared.error.LinkError.{LinkError}
use Rattle.vt_client.specs.Clients.{AsksRequest, ClientState, SaysGoodbye, wanted_block, committing, spends, taking_in}
use Rattle.vt_client.specs.Stores.{DoesAsClient, DoesOnce, IsToldAs, refused_after}
use Rattle.vt_client.specs.Exchanges.{Wanted}
use Rattle.vt_remote.specs.Members.{LinkOf}
use Rattle.vt_remote.specs.Refused.{HasCauseOver, IsFirstRefusal}
use Rattle.vt_remote.specs.Remote.{MeetsInVain, TalksFor, link_in}
use Rattle.vt_tree.specs.declared.error.BlockErr.{BlockErr}
use Rattle.vt_tree.specs.Calls.{Call, get, put, sync, refusal_of, refusals_of}
use Rattle.vt_tree.specs.Making.{Makes}
use Rattle.vt_remote.proofs.Calling.{goes_on}

some : (old new : ℕ) → HasRisen old new → 0 < new
some old new rose = omega (arith, rose)

module _ {L : Type 0} (link : LinkOf L) (score_of : List ℕ → List ℕ) where
  -- of one request
  of_request : {T : Type 0} (w : Wanted T) (c c' : ClientState L) (why : ClientErr)
      → c.spent ≡ false → AsksRequest link score_of w c c' (Err why) → HasCauseOver link why c'.link
  of_request w c c' errs.ReadFault unspent asks = some _ _ asks.sides.reads
  of_request w c c' errs.WriteFault unspent asks = some _ _ asks.sides.writes
  of_request w c c' (errs.WrongScore want found) unspent asks = asks.refuses.1
  of_request w c c' errs.Spent unspent asks =
      let no : true ≡ false = sym (asks.spent.0 refl) ∙ unspent in absurd (cc)
  of_request w c c' (errs.Remote text) unspent asks = tt
  of_request w c c' errs.Cut unspent asks = tt
  of_request w c c' (errs.BadReply place) unspent asks = tt
  of_request w c c' errs.NoVersion unspent asks = tt
  of_request w c c' errs.NoMemory unspent asks = tt

  spent_behind : {T : Type 0} (w : Wanted T) (c c' : ClientState L) (why : ClientErr)
      → c.spent ≡ false → AsksRequest link score_of w c c' (Err why) → c'.spent ≡ spends why
  spent_behind w c c' why unspent asks = ap (λ (s : ClientState L). s.spent) (asks.goes_on unspent)

  -- a client that is spent gives its link back as it is
  gives_back : (c : ClientState L) (parted : Result L (LinkError L)) → c.spent ≡ true
      → SaysGoodbye link c parted → link_in parted ≡ c.link
  gives_back c (Ok l) spent says = let no : true ≡ false = sym spent ∙ says.0 in absurd (cc)
  gives_back c (Err parted) spent says = ⊎_elim
      (λ untouched. ap (λ (p : LinkError L). p.link) untouched.1)
      (λ failed. let no : true ≡ false = sym spent ∙ failed.0 in absurd (cc)) says

  pub met_in_vain : (why : ClientErr) (back : L) → MeetsInVain link score_of why back
      → HasCauseOver link why back
  met_in_vain errs.ReadFault back it = some _ _ it.sides.reads
  met_in_vain errs.WriteFault back it = some _ _ it.sides.writes
  met_in_vain (errs.WrongScore want found) back it = absurd it.refuses
  met_in_vain errs.Spent back it = it.refuses
  met_in_vain (errs.Remote text) back it = tt
  met_in_vain errs.Cut back it = tt
  met_in_vain (errs.BadReply place) back it = tt
  met_in_vain errs.NoVersion back it = tt
  met_in_vain errs.NoMemory back it = tt

  -- ---- calls behind the first refusal

  -- why it was refused first stays, and so does its cause
  record IsKept (why : ClientErr) (c : ClientState L) : Type 0 where
    refused : c.refused ≡ Some why
    spent : spends why ≡ true → c.spent ≡ true
    cause : HasCauseOver link why c.link

  -- of another link, where that tells nothing of it
  elsewhere : (why : ClientErr) (l l' : L) → (spends why ≡ true → l' ≡ l) → HasCauseOver link why l
      → HasCauseOver link why l'
  elsewhere errs.ReadFault l l' same cause =
      subst (λ (x : L). 0 < link.read_faults x) (sym (same refl)) cause
  elsewhere errs.WriteFault l l' same cause =
      subst (λ (x : L). 0 < link.write_faults x) (sym (same refl)) cause
  elsewhere (errs.WrongScore want found) l l' same cause = cause
  elsewhere errs.Spent l l' same cause = cause
  elsewhere (errs.Remote text) l l' same cause = tt
  elsewhere errs.Cut l l' same cause = tt
  elsewhere (errs.BadReply place) l l' same cause = tt
  elsewhere errs.NoVersion l l' same cause = tt
  elsewhere errs.NoMemory l l' same cause = tt

  -- what was refused first stays
  stays_first : {T : Type 0} (result : Result T ClientErr) (why : ClientErr)
      → refused_after result (Some why) ≡ Some why
  stays_first (Ok value) why = refl
  stays_first (Err other) why = refl

  kept_once : {T : Type 0} (why : ClientErr) (w : Wanted T) (c next : ClientState L)
      (answer : Result T BlockErr) → IsKept why c → DoesOnce link score_of w c next answer
      → IsKept why next
  kept_once why w c next answer kept it = record {
    refused = ap (λ (s : ClientState L). s.refused) it.is
        ∙ ap (λ (o : Option ClientErr). refused_after it.result o) kept.refused
        ∙ stays_first it.result why;
    spent = λ is. ap (λ (s : ClientState L). s.spent) it.is
        ∙ ap (λ (s : ClientState L). s.spent) (it.asked.untouched (kept.spent is)) ∙ kept.spent is;
    cause = elsewhere why c.link next.link (λ is. ap (λ (s : ClientState L). s.link) it.is
        ∙ ap (λ (s : ClientState L). s.link) (it.asked.untouched (kept.spent is))) kept.cause;
  }

  kept_call : (why : ClientErr) (call : Call) (c next : ClientState L) → IsKept why c
      → DoesAsClient link score_of c call next → IsKept why next
  kept_call why (get kind s answer) c next kept it =
      kept_once why (wanted_block s kind) c next answer kept it.asks
  kept_call why (put b answer) c next kept it =
      kept_once why (taking_in score_of b.kind b.bytes) c next answer kept it.asks
  kept_call why (sync answer) c next kept it = kept_once why committing c next answer kept it.asks

  kept_calls : (why : ClientErr) (calls : List Call) (c c' : ClientState L) → IsKept why c
      → Makes (DoesAsClient link score_of) c calls c' → IsKept why c'
  kept_calls why [] c c' kept same = subst (IsKept why) (sym same) kept
  kept_calls why (call ∷ calls) c c' kept made =
      kept_calls why calls made.0 c' (kept_call why call c made.0 kept made.1) made.2

  -- ---- the first refusal

  -- a call that is refused, of a client that wasn't
  record Refuses (err : BlockErr) (next : ClientState L) : Type 0 where
    why : ClientErr
    told : IsToldAs why err
    kept : IsKept why next

  refuses_once : {T : Type 0} (w : Wanted T) (c next : ClientState L) (err : BlockErr)
      → c.spent ≡ false → c.refused ≡ None → DoesOnce link score_of w c next (Err err)
      → Refuses err next
  refuses_once {T} w c next err unspent none it =
      let why = it.stands.0 in
      let asks = subst (λ (r : Result T ClientErr). AsksRequest link score_of w c it.after r)
      it.stands.1 it.asked in
      record {
        why = why;
        told = it.stands.2;
        kept = record {
          refused = ap (λ (s : ClientState L). s.refused) it.is
              ∙ ap (λ (r : Result T ClientErr). refused_after r c.refused) it.stands.1
              ∙ ap (λ (o : Option ClientErr). refused_after {T = T} (Err why) o) none;
          spent = λ is. ap (λ (s : ClientState L). s.spent) it.is
              ∙ spent_behind w c it.after why unspent asks ∙ is;
          cause = subst (λ (l : L). HasCauseOver link why l)
              (sym (ap (λ (s : ClientState L). s.link) it.is))
              (of_request w c it.after why unspent asks);
        };
      }

  refuses_call : (call : Call) (err : BlockErr) (c next : ClientState L)
      → refusal_of call ≡ Some err → c.spent ≡ false → c.refused ≡ None
      → DoesAsClient link score_of c call next → Refuses err next
  refuses_call (get kind s (Err e)) err c next is unspent none it =
      let same : e ≡ err = cc in
      subst (λ (x : BlockErr). Refuses x next) same
      (refuses_once (wanted_block s kind) c next e unspent none it.asks)
  refuses_call (put b (Err e)) err c next is unspent none it =
      let same : e ≡ err = cc in
      subst (λ (x : BlockErr). Refuses x next) same
      (refuses_once (taking_in score_of b.kind b.bytes) c next e unspent none it.asks)
  refuses_call (sync (Err e)) err c next is unspent none it =
      let same : e ≡ err = cc in
      subst (λ (x : BlockErr). Refuses x next) same
      (refuses_once committing c next e unspent none it.asks)
  refuses_call (get kind s (Ok bytes)) err c next is unspent none it =
      let never : ⊥ = cc in absurd never
  refuses_call (put b (Ok given)) err c next is unspent none it = let never : ⊥ = cc in absurd never
  refuses_call (sync (Ok done)) err c next is unspent none it = let never : ⊥ = cc in absurd never

  -- parted from behind that
  abbrev IsFirstIn : ClientState L → List Call → Type 0
  IsFirstIn c' calls = (parted : Result L (LinkError L)) → SaysGoodbye link c' parted
      → IsFirstRefusal link c'.refused calls (link_in parted)

  end_behind : (why : ClientErr) (c : ClientState L) (parted : Result L (LinkError L))
      → IsKept why c → SaysGoodbye link c parted → HasCauseOver link why (link_in parted)
  end_behind why c parted kept says = elsewhere why c.link (link_in parted)
      (λ is. gives_back c parted (kept.spent is) says) kept.cause

  first_so : (calls : List Call) (c c' : ClientState L) → c.spent ≡ false → c.refused ≡ None
      → Makes (DoesAsClient link score_of) c calls c' → IsFirstIn c' calls
  first_so [] c c' unspent none same parted says =
      subst (λ (o : Option ClientErr). IsFirstRefusal link o [] (link_in parted))
      (sym (ap (λ (s : ClientState L). s.refused) same ∙ none)) refl
  first_so (call ∷ calls) c c' unspent none made parted says = of (refusal_of call) refl
      (λ goes_unspent goes_none. first_so calls made.0 c' goes_unspent goes_none made.2 parted says)
    where
      -- the refusals behind a call that was answered are those of the others
      more : (o : Option ClientErr) → refusal_of call ≡ None
          → IsFirstRefusal link o calls (link_in parted)
          → IsFirstRefusal link o (call ∷ calls) (link_in parted)
      more None is it = ap (λ (r : Option BlockErr). cons_option r (refusals_of calls)) is ∙ it
      more (Some why) is it = (
        record {
          err = it.0.err;
          rest = it.0.rest;
          refusals = ap (λ (r : Option BlockErr). cons_option r (refusals_of calls)) is
              ∙ it.0.refusals;
          told = it.0.told;
        },
        it.1,
      )

      of : (r : Option BlockErr) → refusal_of call ≡ r
          → (made.0.spent ≡ false → made.0.refused ≡ None
          → IsFirstRefusal link c'.refused calls (link_in parted))
          → IsFirstRefusal link c'.refused (call ∷ calls) (link_in parted)
      of None is then =
          let next = goes_on link score_of call c made.0 is unspent made.1 in
          more c'.refused is (then next.unspent (next.refused ∙ none))
      of (Some err) is then =
          let it = refuses_call call err c made.0 is unspent none made.1 in
          let end = kept_calls it.why calls made.0 c' it.kept made.2 in
          subst (λ (o : Option ClientErr).
          IsFirstRefusal link o (call ∷ calls) (link_in parted)) (sym end.refused) (
            record {
              err = err;
              rest = refusals_of calls;
              refusals = ap (λ (r : Option BlockErr). cons_option r (refusals_of calls)) is;
              told = it.told;
            },
            end_behind it.why c' parted end says,
          )

  pub first_refused : (calls : List Call) (met last : ClientState L) (back : L)
      → TalksFor link score_of calls met last back → IsFirstRefusal link last.refused calls back
  first_refused calls met last back x =
      subst (λ (l : L). IsFirstRefusal link last.refused calls l) (sym x.back_is)
      (first_so calls met last (ap (λ (s : ClientState L). s.spent) x.meets.client)
      (ap (λ (s : ClientState L). s.refused) x.meets.client) x.made x.parted x.says)
