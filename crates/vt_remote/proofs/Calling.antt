-- What a client's calls as a store of blocks leave of it, and put over its link, one by one.
use Rattle.std.proofs.Common.{◌≡◌, inl, inr, ℕ, ◌+◌, ◌%◌, false, Option, Some, None, Result, Ok, Err, List, [], ◌∷◌, length, map, refl, sym, ◌∙◌, ap, subst, arith}
use Rattle.std.specs.Prelude.{IsTrue}
use Rattle.std.proofs.Math.Nat.{mod-add-mod}
use Rattle.std.proofs.lemmas.List.{length-map}
use Rattle.std.specs.List.{cons_option}
use Rattle.vt_base.specs.Protocol.{RMessage, t_ask, r_write}
use Rattle.vt_base.specs.declared.score.Score.{Score}
use Rattle.vt_client.specs.declared.error.ClientErr.{ClientErr}
use Rattle.vt_client.specs.Clients.{AsksRequest, ClientState, wanted_block, committing, next_tag, taking_in}
use Rattle.vt_client.specs.Exchanges.{AnswersCall, Exchanges, Traffic, Wanted, told_score, traffic_of}
use Rattle.vt_client.specs.Stores.{DoesAsClient, DoesOnce, refused_after, sent_after}
use Rattle.vt_model.specs.History.{Block}
use Rattle.vt_tree.specs.declared.error.BlockErr.{BlockErr}
use Rattle.vt_tree.specs.Calls.{Call, get, put, sync, refusal_of, refusals_of, write_of_block}
use Rattle.vt_tree.specs.Making.{Makes}
use Rattle.vt_remote.specs.Exchanged.{Exchanged, ExchangesEach, exchange_of, sent_behind}
use Rattle.vt_remote.specs.Members.{LinkOf}
use Rattle.vt_remote.specs.Remote.{TalksFor}
use Rattle.vt_remote.proofs.Exchanging.{all_of, step}

-- of calls that were all answered, the first was, and so were the others
pub accepted_first : (call : Call) (calls : List Call) → refusals_of (call ∷ calls) ≡ []
    → (refusal_of call ≡ None) × (refusals_of calls ≡ [])
accepted_first call calls accepted = of (refusal_of call) refl accepted
  where
    of : (o : Option BlockErr) → refusal_of call ≡ o → cons_option o (refusals_of calls) ≡ []
        → (refusal_of call ≡ None) × (refusals_of calls ≡ [])
    of None is none = (is, none)
    of (Some e) is none = let never : ⊥ = cc in absurd never

-- the tag behind so many requests
abbrev tag_behind : List Call → ℕ → ℕ
tag_behind [] tag = tag
tag_behind (call ∷ calls) tag = tag_behind calls (next_tag tag)

-- tags run round
tags : (calls : List Call) (k : ℕ) → tag_behind calls (k % 256) ≡ (k + length calls) % 256
tags [] k = ap (λ (n : ℕ). n % 256) (omega arith)
tags (call ∷ calls) k =
    ap (tag_behind calls) (mod-add-mod k 256 1)
    ∙ tags calls (k + 1)
    ∙ ap (λ (n : ℕ). n % 256) (omega arith)

module _ {L : Type 0} (link : LinkOf L) (score_of : List ℕ → List ℕ) where
  abbrev Does : ClientState L → Call → ClientState L → Type 0
  Does = DoesAsClient link score_of

  -- ---- one call

  -- a call that was answered leaves the client unspent, under the next tag
  pub record GoesOn (call : Call) (c next : ClientState L) : Type 0 where
    pub unspent : next.spent ≡ false
    pub tag : next.tag ≡ next_tag c.tag
    pub refused : next.refused ≡ c.refused
    pub sent : next.sent ≡ sent_after call c.sent

  asked_well : {T : Type 0} (w : Wanted T) (c next : ClientState L) (value : T)
      (it : DoesOnce link score_of w c next (Ok value)) → AsksRequest link score_of w c it.after (Ok value)
  asked_well {T} w c next value it =
      subst (λ (r : Result T ClientErr). AsksRequest link score_of w c it.after r) it.stands it.asked

  goes_once : {T : Type 0} (w : Wanted T) (call : Call) (c next : ClientState L) (value : T)
      → c.spent ≡ false → DoesOnce link score_of w c next (Ok value)
      → next.sent ≡ sent_after call c.sent → GoesOn call c next
  goes_once {T} w call c next value unspent it sent =
      let same = (asked_well w c next value it).goes_on unspent in
      record {
        unspent = ap (λ (s : ClientState L). s.spent) it.is
            ∙ ap (λ (s : ClientState L). s.spent) same;
        tag = ap (λ (s : ClientState L). s.tag) it.is ∙ ap (λ (s : ClientState L). s.tag) same;
        refused = ap (λ (s : ClientState L). s.refused) it.is
            ∙ ap (λ (r : Result T ClientErr). refused_after r c.refused) it.stands;
        sent = sent;
      }

  pub goes_on : (call : Call) (c next : ClientState L) → refusal_of call ≡ None
      → c.spent ≡ false → Does c call next → GoesOn call c next
  goes_on (get kind s (Ok bytes)) c next none unspent does =
      goes_once (wanted_block s kind) (get kind s (Ok bytes)) c next bytes unspent does.asks does.sent
  goes_on (put b (Ok given)) c next none unspent does =
      goes_once (taking_in score_of b.kind b.bytes) (put b (Ok given)) c next given unspent
      does.asks does.sent
  goes_on (sync (Ok done)) c next none unspent does =
      goes_once committing (sync (Ok done)) c next done unspent does.asks does.sent
  goes_on (get kind s (Err err)) c next none unspent does = let never : ⊥ = cc in absurd never
  goes_on (put b (Err err)) c next none unspent does = let never : ⊥ = cc in absurd never
  goes_on (sync (Err err)) c next none unspent does = let never : ⊥ = cc in absurd never

  -- ---- calls one behind another

  pub record AllGoOn (calls : List Call) (c c' : ClientState L) : Type 0 where
    pub unspent : c'.spent ≡ false
    pub tag : c'.tag ≡ tag_behind calls c.tag
    pub refused : c'.refused ≡ c.refused
    pub sent : c'.sent ≡ sent_behind calls c.sent

  pub all_go_on : (calls : List Call) (c c' : ClientState L) → refusals_of calls ≡ []
      → c.spent ≡ false → Makes Does c calls c' → AllGoOn calls c c'
  all_go_on [] c c' accepted unspent same = record {
    unspent = ap (λ (s : ClientState L). s.spent) same ∙ unspent;
    tag = ap (λ (s : ClientState L). s.tag) same;
    refused = ap (λ (s : ClientState L). s.refused) same;
    sent = ap (λ (s : ClientState L). s.sent) same;
  }
  all_go_on (call ∷ calls) c c' accepted unspent made =
      let two = accepted_first call calls accepted in
      let first = goes_on call c made.0 two.0 unspent made.1 in
      let rest = all_go_on calls made.0 c' two.1 first.unspent made.2 in
      record {
        unspent = rest.unspent;
        tag = rest.tag ∙ ap (tag_behind calls) first.tag;
        refused = rest.refused ∙ first.refused;
        sent = rest.sent ∙ ap (sent_behind calls) first.sent;
      }

  -- how many were sent, whatever was answered
  sent_all : (calls : List Call) (c c' : ClientState L) → Makes Does c calls c'
      → c'.sent ≡ sent_behind calls c.sent
  sent_all [] c c' same = ap (λ (s : ClientState L). s.sent) same
  sent_all (call ∷ calls) c c' made =
      sent_all calls made.0 c' made.2 ∙ ap (sent_behind calls) made.1.sent

  pub all_sent : (calls : List Call) (met last : ClientState L) (back : L)
      → TalksFor link score_of calls met last back → last.sent ≡ sent_behind calls 0
  all_sent calls met last back x = sent_all calls met last x.made
      ∙ ap (λ (c : ClientState L). sent_behind calls c.sent) x.meets.client

  -- ---- what went over the link

  module _ (told : IsTrue link.tells) where
    -- the same of the link that the client has then
    once : {T : Type 0} (w : Wanted T) (c next : ClientState L) (value : T) → c.spent ≡ false
        → DoesOnce link score_of w c next (Ok value)
        → Exchanges (traffic_of link c.link) (traffic_of link next.link) c.tag w.request
        (w.reply value)
    once w c next value unspent it =
        subst (λ (l : L). Exchanges (traffic_of link c.link) (traffic_of link l) c.tag w.request
        (w.reply value)) (sym (ap (λ (s : ClientState L). s.link) it.is))
        (step link score_of told w c it.after value unspent
        (asked_well w c next value it)).exchanged

    -- the score that a server told is that of the bytes
    own_score : (b : Block) (given : Score) (tag : ℕ) (before after : Traffic)
        → AnswersCall score_of tag (taking_in score_of b.kind b.bytes) before after (Ok given)
        → given.0 ≡ score_of b.bytes
    own_score b given tag before after (inl (reply, exchanges, judged)) =
        let told_so : Some given.0 ≡ Some (score_of b.bytes) =
        ap (λ (r : RMessage). told_score score_of r) (sym judged.0) ∙ judged.1 in
        cc
    own_score b given tag before after (inr never) = absurd never

    exchanges_once : (call : Call) (c next : ClientState L) → refusal_of call ≡ None
        → c.spent ≡ false → Does c call next
        → Exchanges (traffic_of link c.link) (traffic_of link next.link) c.tag
        (exchange_of score_of call).0 (exchange_of score_of call).1
    exchanges_once (get kind s (Ok bytes)) c next none unspent does =
        once (wanted_block s kind) c next bytes unspent does.asks
    exchanges_once (put b (Ok given)) c next none unspent does =
        let w = taking_in score_of b.kind b.bytes in
        let own = own_score b given c.tag (traffic_of link c.link)
        (traffic_of link does.asks.after.link)
        ((asked_well w c next given does.asks).answers told unspent) in
        subst (λ (s : List ℕ). Exchanges (traffic_of link c.link) (traffic_of link next.link) c.tag
        (t_ask (write_of_block b)) (r_write s)) own
        (once w c next given unspent does.asks)
    exchanges_once (sync (Ok done)) c next none unspent does =
        once committing c next done unspent does.asks
    exchanges_once (get kind s (Err err)) c next none unspent does =
        let never : ⊥ = cc in absurd never
    exchanges_once (put b (Err err)) c next none unspent does = let never : ⊥ = cc in absurd never
    exchanges_once (sync (Err err)) c next none unspent does = let never : ⊥ = cc in absurd never

    exchanges : (calls : List Call) (c c' : ClientState L) → refusals_of calls ≡ []
        → c.spent ≡ false → Makes Does c calls c'
        → ExchangesEach c.tag (map (exchange_of score_of) calls) (traffic_of link c.link)
        (traffic_of link c'.link)
    exchanges [] c c' accepted unspent same =
        ap (λ (s : ClientState L). traffic_of link s.link) same
    exchanges (call ∷ calls) c c' accepted unspent made =
        let two = accepted_first call calls accepted in
        let first = goes_on call c made.0 two.0 unspent made.1 in (
          traffic_of link made.0.link,
          exchanges_once call c made.0 two.0 unspent made.1,
          subst (λ (t : ℕ). ExchangesEach t (map (exchange_of score_of) calls)
              (traffic_of link made.0.link) (traffic_of link c'.link)) first.tag
              (exchanges calls made.0 c' two.1 first.unspent made.2),
        )

    pub all_exchanged : (calls : List Call) (met last : ClientState L) (back : L)
        → TalksFor link score_of calls met last back → refusals_of calls ≡ []
        → Exchanged (map (exchange_of score_of) calls) (traffic_of link back)
    all_exchanged calls met last back x accepted =
        let unspent : met.spent ≡ false = ap (λ (c : ClientState L). c.spent) x.meets.client in
        let first : met.tag ≡ 1 = ap (λ (c : ClientState L). c.tag) x.meets.client in
        let whole = all_go_on calls met last accepted unspent x.made in
        all_of link score_of told calls met last back x (map (exchange_of score_of) calls)
        (subst (λ (t : ℕ). ExchangesEach t (map (exchange_of score_of) calls)
        (traffic_of link met.link) (traffic_of link last.link)) first
        (exchanges calls met last accepted unspent x.made)) whole.unspent
        (whole.tag ∙ ap (tag_behind calls) first ∙ tags calls 1
        ∙ ap (λ (n : ℕ). (1 + n) % 256) (sym (length-map calls (exchange_of score_of))))
