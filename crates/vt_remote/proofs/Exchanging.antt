-- What a client's calls put over its link, one behind another.
use Rattle.std.proofs.Common.{◌≡◌, ⊎_elim, inl, inr, ℕ, ◌+◌, ◌%◌, Bool, false, true, Result, Ok, Err, List, [], ◌∷◌, length, take, refl, sym, ◌∙◌, ap, subst, arith}
use Rattle.std.specs.Prelude.{IsTrue, codes}
use Rattle.std.proofs.lemmas.List.{take_all}
use Rattle.vt_base.specs.Protocol.{TMessage, RMessage, t_goodbye, t_hello, r_hello}
use Rattle.vt_client.specs.declared.error.ClientErr.{ClientErr}
use Rattle.vt_client.specs.declared.error.LinkError.{LinkError}
use Rattle.vt_client.specs.Clients.{AsksRequest, ClientState, SaysGoodbye, next_tag}
use Rattle.vt_client.specs.Exchanges.{AnswersCall, Exchanges, MovesBytes, Traffic, Wanted, traffic_of}
use Rattle.vt_client.specs.Greetings.{ExchangesLines, Greets, welcome}
use Rattle.vt_wire.specs.Messages.{asked}
use Rattle.vt_remote.specs.Exchanged.{Exchanged, ExchangesEach}
use Rattle.vt_remote.specs.Members.{LinkOf}
use Rattle.vt_remote.specs.Remote.{TalksFor, link_in}
use Rattle.vt_tree.specs.Calls.{Call}

module _ {L : Type 0} (link : LinkOf L) (score_of : List ℕ → List ℕ) (told : IsTrue link.tells) where
  exchanged_by : {T : Type 0} (w : Wanted T) (tag : ℕ) (before after : Traffic) (value : T)
      → AnswersCall score_of tag w before after (Ok value)
      → Exchanges before after tag w.request (w.reply value)
  exchanged_by w tag before after value (inl (reply, exchanges, judged)) =
      subst (λ (r : RMessage). Exchanges before after tag w.request r) judged.0 exchanges
  exchanged_by w tag before after value (inr never) = absurd never

  -- a call that was answered well
  pub record Step {T : Type 0} (w : Wanted T) (c next : ClientState L) (value : T) : Type 0 where
    pub exchanged : Exchanges (traffic_of link c.link) (traffic_of link next.link) c.tag w.request
        (w.reply value)
    pub unspent : next.spent ≡ false
    pub tag : next.tag ≡ next_tag c.tag

  pub step : {T : Type 0} (w : Wanted T) (c next : ClientState L) (value : T) → c.spent ≡ false
      → AsksRequest link score_of w c next (Ok value) → Step w c next value
  step w c next value unspent asks =
      let same = asks.goes_on unspent in
      record {
        exchanged = exchanged_by w c.tag (traffic_of link c.link) (traffic_of link next.link) value
            (asks.answers told unspent);
        unspent = ap (λ (s : ClientState L). s.spent) same;
        tag = ap (λ (s : ClientState L). s.tag) same;
      }

  -- a goodbye goes out whole, or a front of it
  parts : (c : ClientState L) (parted : Result L (LinkError L)) → c.spent ≡ false
      → SaysGoodbye link c parted
      → (n : ℕ) × MovesBytes (traffic_of link c.link) (traffic_of link (link_in parted))
      (take n (asked c.tag t_goodbye)) []
  parts c (Ok l) unspent says = (
    length (asked c.tag t_goodbye),
    subst (λ (out : List ℕ). MovesBytes (traffic_of link c.link) (traffic_of link l) out [])
        (sym (take_all (length (asked c.tag t_goodbye)) (asked c.tag t_goodbye)
        (omega arith))) (says.2 told),
  )
  parts c (Err parted) unspent says = ⊎_elim
      (λ spent. let no : true ≡ false = sym spent.0 ∙ unspent in absurd (cc))
      (λ failed. failed.3 told) says

  greeted : (before after : Traffic) → Greets score_of before after (Ok tt)
      → (between : Traffic) × ExchangesLines before between
      × Exchanges between after 0 (t_hello (codes "02")) r_hello
  greeted before after (inl never) = absurd never
  greeted before after (inr (between, begins, answers)) =
      (between, begins, exchanged_by welcome 0 between after tt answers)

  module _ (all : List Call) (met last : ClientState L) (back : L)
      (x : TalksFor link score_of all met last back) (calls : List (TMessage × RMessage)) where
    pub all_of : ExchangesEach 1 calls (traffic_of link met.link) (traffic_of link last.link)
        → last.spent ≡ false → last.tag ≡ (1 + length calls) % 256
        → Exchanged calls (traffic_of link back)
    all_of each unspent tag =
        let hello = greeted (traffic_of link x.meets.made) (traffic_of link met.link)
        (x.meets.greets told) in
        let goodbye = parts last x.parted unspent x.says in
        record {
          before = traffic_of link x.meets.made;
          unsent = x.meets.fresh.written told;
          untaken = x.meets.fresh.given told;
          between = hello.0;
          begins = hello.1;
          greeted = traffic_of link met.link;
          hello = hello.2;
          last = traffic_of link last.link;
          each = each;
          goodbye = (
            goodbye.0,
            subst (λ (t : ℕ). MovesBytes (traffic_of link last.link) (traffic_of link back)
                (take goodbye.0 (asked t t_goodbye)) []) tag
                (subst (λ (l : L). MovesBytes (traffic_of link last.link) (traffic_of link l)
                (take goodbye.0 (asked last.tag t_goodbye)) []) (sym x.back_is) goodbye.1),
          );
        }
