-- Items that are answered, one after another.
use Rattle.std.proofs.Common.{◌≡◌, ℕ, List, [], ◌∷◌, ◌++◌, length, Bool, true, cond, refl, sym, ◌∙◌, ap, subst, inl, inr, arith, Result, Ok, Err, Option, Some, None, append-nil}
use Rattle.std.specs.List.{flat_map}
use Rattle.std.specs.Option.{option_or}
use Rattle.std.proofs.lemmas.Grind.{flat_map-append}
use Rattle.std.proofs.lemmas.List.{map-append}
use Rattle.vt_base.specs.declared.answer.Said.{Said}
use Rattle.vt_base.specs.declared.answer.Said.TheVariants.{Score, Block, Synced, Refused}
use Rattle.vt_base.specs.declared.why.Failed.{Failed}
use Rattle.vt_base.specs.declared.why.Why.{Why}
use Rattle.vt_base.specs.Operations.{reply_saying, result_of}
use Rattle.vt_base.specs.Protocol.{Operation, ping, RMessage, r_ping, r_refused}
use Rattle.vt_model.specs.History.{History}
use Rattle.vt_wire.specs.Messages.{spelled_reply}
use Rattle.vt_session.specs.Heard.{Item, settled, asked}
use Rattle.vt_model.specs.Causes.{Cause, disk_fault, stopped, damaged, no_memory, why_of}
use Rattle.vt_session.specs.Turns.{Turn, told, item_of_turn, items_of_turns, spelled_turn, cause_of, causes_of, first_why}
use Rattle.vt_handler.specs.Condition.{ConditionGoesOn, Condition}
use Rattle.vt_handler.specs.Members.{StoreOf}
use Rattle.vt_handler.specs.Serving.{AnswersAsModel, ServesOperation, failure_of, reply_in, tells_failure}
use Rattle.vt_handler.specs.Sessions.{AnswersItems}
use Rattle.vt_handler.specs.Taking.{DoesOne, TakesTurns}
use Rattle.vt_handler.specs.Writing.{WritesOut}
use Rattle.vt_handler.proofs.Taking.{stays, takes_none, takes_told, takes_served, takes_failed, takes_more}
use Rattle.vt_handler.proofs.Written.{writes_more}

-- a ping is answered over any history that is held
pub ping_answered : (score_of : List ℕ → List ℕ) (c : Condition) (holds : History → Type 0)
    (h : History) → holds h → AnswersAsModel score_of c c holds h ping r_ping
ping_answered score_of c holds h hold = record {
  new = h;
  number = length h;
  holds_it = hold;
  reply_is = refl;
  lengthens = record {
    later = [];
    new_is = sym (append-nil h);
    low = omega arith;
    high = omega arith;
    stands = tt;
    alone_is = λ a. (refl, refl);
  };
  covered = tt;
  stops = λ a. refl;
}

-- what an operation gave is said by the reply of the answer
pub same_reply : (said : Said) → reply_in (result_of said) ≡ reply_saying said
same_reply (Score score) = refl
same_reply (Block block) = refl
same_reply Synced = refl
same_reply (Refused why) = refl

-- ---- the first failure

earlier_none : (failure : Option Why) → failure ≡ option_or failure None
earlier_none None = refl
earlier_none (Some why) = refl

earlier_on : (failure : Option Why) (causes more : List Cause)
    → option_or (option_or failure (first_why causes)) (first_why more)
    ≡ option_or failure (first_why (causes ++ more))
earlier_on None [] more = refl
earlier_on None (cause ∷ causes) more = refl
earlier_on (Some why) causes more = refl

is_failure : (cause : Cause) → tells_failure (why_of cause) ≡ true
is_failure (disk_fault before after) = refl
is_failure (stopped part first) = refl
is_failure (damaged site want found) = refl
is_failure no_memory = refl

failed_by : (why : Why) (cause : Cause) → why ≡ why_of cause
    → failure_of {X = RMessage} (Err why) ≡ first_why (cause ∷ [])
failed_by why cause is =
    ap (λ (w : Why). cond (tells_failure w) (Some w) None) is
    ∙ ap (λ (b : Bool). cond b (Some (why_of cause)) None) (is_failure cause)

-- ---- one item

module _ {S : Type 0} (T : StoreOf S) where
  pub no_item : (s : S) (h : History) (failure : Option Why) (writes : List ℕ → Type 0)
      → T.holds s h → writes [] → AnswersItems T s s h failure failure writes []
  no_item s h failure writes hold written = record {
    turns = [];
    items_are = refl;
    takes = takes_none T s h hold;
    written = written;
    failure_is = earlier_none failure;
  }

  pub settled_item : (s : S) (h : History) (failure : Option Why) (writes : List ℕ → Type 0)
      (tag : ℕ) (reply : RMessage) → T.holds s h → writes (spelled_reply tag reply)
      → AnswersItems T s s h failure failure writes (settled tag reply ∷ [])
  settled_item s h failure writes tag reply hold written = record {
    turns = told tag reply ∷ [];
    items_are = refl;
    takes = takes_told T s h tag reply hold;
    written = subst writes (sym (append-nil (spelled_reply tag reply))) written;
    failure_is = earlier_none failure;
  }

  -- by its turn
  by_turn : (s s' : S) (h : History) (failure failure' : Option Why) (writes : List ℕ → Type 0)
      (turn : Turn) (said : List ℕ) → TakesTurns T s s' h (turn ∷ []) → writes said
      → said ≡ spelled_turn turn → failure' ≡ option_or failure (first_why (cause_of turn))
      → AnswersItems T s s' h failure failure' writes (item_of_turn turn ∷ [])
  by_turn s s' h failure failure' writes turn said takes written is failed = record {
    turns = turn ∷ [];
    items_are = refl;
    takes = takes;
    written = subst writes (is ∙ sym (append-nil (spelled_turn turn))) written;
    failure_is = failed
        ∙ ap (λ (cs : List Cause). option_or failure (first_why cs)) (sym (append-nil (cause_of turn)));
  }

  module _ (s s' : S) (h : History) (failure failure' : Option Why) (writes : List ℕ → Type 0)
      (tag : ℕ) (on : ConditionGoesOn (T.condition s) (T.condition s')) where
    pub asked_item : (m : Operation) (given : Result RMessage Why)
        → ServesOperation T.score_of (T.condition s) (T.condition s') (T.holds s') h m (λ reply. reply) given
        → DoesOne T s m given s' → failure' ≡ option_or failure (failure_of given)
        → writes (spelled_reply tag (reply_in given))
        → AnswersItems T s s' h failure failure' writes (asked tag m ∷ [])
    asked_item m (Ok reply) serves does failed written =
        by_turn s s' h failure failure' writes _ _
        (takes_served T s s' h tag m (Ok reply) on does serves) written
        (ap (spelled_reply tag) (sym serves.reply_is)) failed
    asked_item m (Err why) (inl refused) does failed written =
        by_turn s s' h failure failure' writes _ _
        (takes_served T s s' h tag m (Err why) on does refused.1) written
        (ap (spelled_reply tag) (sym refused.1.reply_is))
        (failed ∙ ap (λ (b : Bool). option_or failure (cond b (Some why) None)) refused.0)
    asked_item m (Err why) (inr fails) does failed written =
        by_turn s s' h failure failure' writes _ _
        (takes_failed T s s' h tag m why on does fails) written
        (ap (λ (w : Why). spelled_reply tag (r_refused w)) fails.why_is)
        (failed ∙ ap (option_or failure) (failed_by why fails.cause fails.why_is))

  pub ping_item : (s : S) (h : History) (failure : Option Why) (writes : List ℕ → Type 0) (tag : ℕ)
      → T.holds s h → writes (spelled_reply tag r_ping)
      → AnswersItems T s s h failure failure writes (asked tag ping ∷ [])
  ping_item s h failure writes tag hold written =
      asked_item s s h failure failure writes tag (stays (T.condition s)) ping (Ok r_ping)
      (ping_answered T.score_of (T.condition s) (T.holds s) h hold) (refl, refl)
      (earlier_none failure) written

  -- ---- more items

  pub more_items : {U V P : Type 0} (r : Result V Failed) (done : U) (s s' s'' : S) (h : History)
      (failure failure' failure'' : Option Why)
      (written waiting written' waiting' written'' waiting'' : List ℕ) (items more : List Item)
      → (x : AnswersItems T s s' h failure failure'
      (λ (said : List ℕ). P → WritesOut (Ok done) written waiting written' waiting' said) items)
      → AnswersItems T s' s'' x.takes.new failure' failure''
      (λ (said : List ℕ). P → WritesOut r written' waiting' written'' waiting'' said) more
      → AnswersItems T s s'' h failure failure''
      (λ (said : List ℕ). P → WritesOut r written waiting written'' waiting'' said) (items ++ more)
  more_items r done s s' s'' h failure failure' failure''
      written waiting written' waiting' written'' waiting'' items more x y = record {
        turns = x.turns ++ y.turns;
        items_are = map-append item_of_turn x.turns y.turns
            ∙ ap (λ (l : List Item). l ++ items_of_turns y.turns) x.items_are
            ∙ ap (λ (l : List Item). items ++ l) y.items_are;
        takes = takes_more T s s' s'' h x.turns y.turns x.takes y.takes;
        written = λ p. subst (WritesOut r written waiting written'' waiting'')
            (sym (flat_map-append spelled_turn x.turns y.turns))
            (writes_more r done written waiting written' waiting' (flat_map spelled_turn x.turns)
            written'' waiting'' (flat_map spelled_turn y.turns) (x.written p) (y.written p));
        failure_is = y.failure_is
            ∙ ap (λ (f : Option Why). option_or f (first_why (causes_of y.turns))) x.failure_is
            ∙ earlier_on failure (causes_of x.turns) (causes_of y.turns)
            ∙ ap (λ (cs : List Cause). option_or failure (first_why cs))
            (sym (flat_map-append cause_of x.turns y.turns));
      }
