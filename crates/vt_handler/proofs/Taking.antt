-- A store that is asked in turns, one after another.
use Rattle.std.proofs.Common.{◌≡◌, ℕ, ◌≤◌, List, [], ◌∷◌, ◌++◌, length, take, refl, sym, ◌∙◌, ap, subst, arith, append-nil, append_assoc, length-append, Result, Err}
use Rattle.std.specs.List.{AllByRecursion, Contains}
use Rattle.std.proofs.Math.Seq.{take-append_seam}
use Rattle.std.proofs.lemmas.Grind.{flat_map-append}
use Rattle.vt_base.specs.Protocol.{Operation, ping, read, write, sync, RMessage}
use Rattle.vt_base.specs.declared.why.Why.{Why}
use Rattle.vt_model.specs.History.{History}
use Rattle.vt_model.specs.Answer.{answer, Outcome}
use Rattle.vt_model.specs.Places.{Setup}
use Rattle.vt_model.specs.Causes.{Part, Cause, disk_fault, stopped, damaged, no_memory}
use Rattle.vt_session.specs.Turns.{Turn, told, served, failed, cause_of, causes_of, synced_number, synced_numbers}
use Rattle.vt_session.specs.Answered.{AnsweredBy, AnsweredAlone, AreToldBy, IsKnownStop}
use Rattle.vt_session.proofs.Turns.{turns_join, turns_join_later}
use Rattle.vt_session.proofs.Causes.{counts_join}
use Rattle.vt_handler.specs.Condition.{Condition, faults_over, ConditionGoesOn, IsNoDamage, IsNoFault}
use Rattle.vt_handler.specs.Members.{StoreOf}
use Rattle.vt_handler.specs.Serving.{AnswersAsModel, FailsForCause, IsOfDurable, reply_in}
use Rattle.vt_handler.specs.Taking.{DoesOne, DoesEach, TakesTurns}

-- ---- each of several

all_join : {X : Type 0} (P : X → Type 0) (xs ys : List X) → AllByRecursion P xs
    → AllByRecursion P ys → AllByRecursion P (xs ++ ys)
all_join P [] ys a b = b
all_join P (x ∷ xs) ys a b = (a.0, all_join P xs ys a.1 b)

all_front : {X : Type 0} (P : X → Type 0) (xs ys : List X) → AllByRecursion P (xs ++ ys)
    → AllByRecursion P xs
all_front P [] ys a = tt
all_front P (x ∷ xs) ys a = (a.0, all_front P xs ys a.1)

all_behind : {X : Type 0} (P : X → Type 0) (xs ys : List X) → AllByRecursion P (xs ++ ys)
    → AllByRecursion P ys
all_behind P [] ys a = a
all_behind P (x ∷ xs) ys a = all_behind P xs ys a.1

all_more : {X : Type 0} (P Q : X → Type 0) → ((x : X) → P x → Q x) → (xs : List X)
    → AllByRecursion P xs → AllByRecursion Q xs
all_more P Q more [] a = tt
all_more P Q more (x ∷ xs) a = (more x a.0, all_more P Q more xs a.1)

-- ---- what a store tells of itself

pub stays : (c : Condition) → ConditionGoesOn c c
stays c = record {
  setup = refl;
  alone = λ it. it;
  faults = λ k. omega arith;
  stops = λ stop it. it;
  durable = omega arith;
}

pub goes_on_on : (a b c : Condition) → ConditionGoesOn a b → ConditionGoesOn b c → ConditionGoesOn a c
goes_on_on a b c x y = record {
  setup = y.setup ∙ x.setup;
  alone = λ it. y.alone (x.alone it);
  faults = λ k. omega (arith, x.faults k, y.faults k);
  stops = λ stop it. y.stops stop (x.stops stop it);
  durable = omega (arith, x.durable, y.durable);
}

known_longer : (stops stops' : List (Part × ℕ))
    → ((stop : Part × ℕ) → Contains stops stop → Contains stops' stop)
    → (cause : Cause) → IsKnownStop stops cause → IsKnownStop stops' cause
known_longer stops stops' more (disk_fault before after) it = tt
known_longer stops stops' more (stopped part first) it = more (part, first) it
known_longer stops stops' more (damaged site want found) it = tt
known_longer stops stops' more no_memory it = tt

told_on : (a b c : Condition) (causes more : List Cause) → ConditionGoesOn b c
    → AreToldBy (faults_over a b) causes → AreToldBy (faults_over b c) more
    → AreToldBy (faults_over a c) (causes ++ more)
told_on a b c causes more on x y = record {
  counts = counts_join a.faults b.faults c.faults causes more x.counts y.counts;
  stops = all_join (IsKnownStop c.stops) causes more
      (all_more (IsKnownStop b.stops) (IsKnownStop c.stops) (known_longer b.stops c.stops on.stops)
      causes x.stops) y.stops;
}

-- ---- one turn

covered_one : (tag : ℕ) (m : Operation) (number : ℕ) (outcome : Outcome) (durable : ℕ)
    → IsOfDurable m number durable
    → AllByRecursion (λ n. n ≤ durable) (synced_numbers (served tag m number outcome ∷ []))
covered_one tag ping number outcome durable it = tt
covered_one tag (read score kind count) number outcome durable it = tt
covered_one tag (write kind bytes) number outcome durable it = tt
covered_one tag sync number outcome durable it = (it, tt)

-- the blocks that there were before are the first
old_is_first : (old new later : History) (number : ℕ) → new ≡ old ++ later → number ≡ length old
    → take number new ≡ old
old_is_first old new later number new_is number_is =
    ap (λ (l : History). take number l) new_is ∙ ap (λ (k : ℕ). take k (old ++ later)) number_is
    ∙ take-append_seam old later

module _ {S : Type 0} (T : StoreOf S) where
  pub takes_none : (s : S) (h : History) → T.holds s h → TakesTurns T s s h []
  takes_none s h hold = record {
    new = h;
    later = [];
    holds_it = hold;
    new_is = sym (append-nil h);
    answered = tt;
    alone = λ a. refl;
    causes = record { counts = λ k. omega arith; stops = tt };
    undamaged = tt;
    stops = λ a none. refl;
    synced = tt;
    goes_on = stays (T.condition s);
    does = refl;
  }

  pub takes_told : (s : S) (h : History) (tag : ℕ) (reply : RMessage) → T.holds s h
      → TakesTurns T s s h (told tag reply ∷ [])
  takes_told s h tag reply hold = record {
    new = h;
    later = [];
    holds_it = hold;
    new_is = sym (append-nil h);
    answered = tt;
    alone = λ a. refl;
    causes = record { counts = λ k. omega arith; stops = tt };
    undamaged = tt;
    stops = λ a none. refl;
    synced = tt;
    goes_on = stays (T.condition s);
    does = refl;
  }

  pub takes_served : (s s' : S) (h : History) (tag : ℕ) (m : Operation)
      (given : Result RMessage Why)
      → ConditionGoesOn (T.condition s) (T.condition s') → DoesOne T s m given s'
      → (x : AnswersAsModel T.score_of (T.condition s) (T.condition s') (T.holds s') h m
      (reply_in given))
      → TakesTurns T s s' h (served tag m x.number
      (answer T.score_of (T.condition s).setup (take x.number x.new) m) ∷ [])
  takes_served s s' h tag m given on once x =
      let c = (T.condition s).setup in
      let outcome = answer T.score_of c (take x.number x.new) m in record {
        new = x.new;
        later = x.lengthens.later;
        holds_it = x.holds_it;
        new_is = x.lengthens.new_is;
        answered = (x.lengthens.low, x.lengthens.high, refl, x.lengthens.stands, tt);
        alone = λ a.
            let is = x.lengthens.alone_is a in
            let front = old_is_first h x.new x.lengthens.later x.number x.lengthens.new_is is.0 in
            (is.0, ap (λ (l : History). answer T.score_of c l m) front, is.1);
        causes = record { counts = on.faults; stops = tt };
        undamaged = tt;
        stops = λ a none. x.stops a;
        synced = covered_one tag m x.number outcome (T.condition s').durable x.covered;
        goes_on = on;
        does = (s', record { answer = given; says = sym x.reply_is; does = once }, refl);
      }

  pub takes_failed : (s s' : S) (h : History) (tag : ℕ) (m : Operation) (why : Why)
      → ConditionGoesOn (T.condition s) (T.condition s') → DoesOne T s m (Err why) s'
      → (x : FailsForCause T.score_of (T.condition s) (T.condition s') (T.holds s') h m why)
      → TakesTurns T s s' h (failed tag m x.number x.cause ∷ [])
  takes_failed s s' h tag m why on once x = record {
    new = x.new;
    later = x.lengthens.later;
    holds_it = x.holds_it;
    new_is = x.lengthens.new_is;
    answered = (x.lengthens.low, x.lengthens.high, x.may, tt);
    alone = λ a. let is = x.lengthens.alone_is a in (is.0, x.may, is.1);
    causes = x.told;
    undamaged = (x.undamaged, tt);
    stops = λ a none. x.stops a none.0;
    synced = tt;
    goes_on = on;
    does = (s', subst (λ (w : Why). DoesOne T s m (Err w) s') x.why_is once, refl);
  }

  -- ---- more turns

  does_join : (s s' s'' : S) (turns more : List Turn) → DoesEach T s turns s'
      → DoesEach T s' more s'' → DoesEach T s (turns ++ more) s''
  does_join s s' s'' [] more x y = subst (λ (z : S). DoesEach T z more s'') x y
  does_join s s' s'' (told tag reply ∷ turns) more x y = does_join s s' s'' turns more x y
  does_join s s' s'' (served tag m n outcome ∷ turns) more x y =
      (x.0, x.1, does_join x.0 s' s'' turns more x.2 y)
  does_join s s' s'' (failed tag m n cause ∷ turns) more x y =
      (x.0, x.1, does_join x.0 s' s'' turns more x.2 y)

  pub takes_more : (s s' s'' : S) (h : History) (turns more : List Turn)
      → (x : TakesTurns T s s' h turns) → TakesTurns T s' s'' x.new more → TakesTurns T s s'' h (turns ++ more)
  takes_more s s' s'' h turns more x y =
      let score = T.score_of in
      let c = (T.condition s).setup in
      let causes : causes_of (turns ++ more) ≡ causes_of turns ++ causes_of more =
      flat_map-append cause_of turns more in
      let numbers : synced_numbers (turns ++ more) ≡ synced_numbers turns ++ synced_numbers more =
      flat_map-append synced_number turns more in
      let by : AnsweredBy score c (x.new ++ y.later) (length x.new) (length y.new) more =
      subst (λ (l : History). AnsweredBy score c l (length x.new) (length y.new) more) y.new_is
      (subst (λ (c : Setup). AnsweredBy score c y.new (length x.new) (length y.new) more)
      x.goes_on.setup y.answered) in
      let longer : length x.new ≤ length y.new =
      omega (arith, ap length y.new_is, length-append x.new y.later) in
      let low : length h ≤ length x.new =
      omega (arith, ap length x.new_is, length-append h x.later) in
      record {
        new = y.new;
        later = x.later ++ y.later;
        holds_it = y.holds_it;
        new_is = y.new_is ∙ ap (λ (l : History). l ++ y.later) x.new_is
            ∙ append_assoc h x.later y.later;
        answered = subst
            (λ (l : History). AnsweredBy score c l (length h) (length y.new) (turns ++ more))
            (sym y.new_is)
            (turns_join_later score c x.new y.later (length h) (length x.new) (length x.new)
            (length y.new) turns more x.answered low (omega arith) (omega arith) longer by);
        alone = λ a. turns_join score c h x.new y.new turns more (x.alone a)
            (subst (λ (c : Setup). AnsweredAlone score c x.new more y.new) x.goes_on.setup
            (y.alone (x.goes_on.alone a)));
        causes = subst (AreToldBy (faults_over (T.condition s) (T.condition s''))) (sym causes)
            (told_on (T.condition s) (T.condition s') (T.condition s'') (causes_of turns)
            (causes_of more) y.goes_on x.causes y.causes);
        undamaged = subst (AllByRecursion IsNoDamage) (sym causes)
            (all_join IsNoDamage (causes_of turns) (causes_of more) x.undamaged y.undamaged);
        stops = λ a none.
            let each = subst (AllByRecursion IsNoFault) causes none in
            y.stops (x.goes_on.alone a)
            (all_behind IsNoFault (causes_of turns) (causes_of more) each)
            ∙ x.stops a (all_front IsNoFault (causes_of turns) (causes_of more) each);
        synced = subst (AllByRecursion (λ n. n ≤ (T.condition s'').durable)) (sym numbers)
            (all_join (λ n. n ≤ (T.condition s'').durable) (synced_numbers turns)
            (synced_numbers more)
            (all_more (λ n. n ≤ (T.condition s').durable) (λ n. n ≤ (T.condition s'').durable)
            (λ n le. omega (arith, le, y.goes_on.durable)) (synced_numbers turns) x.synced)
            y.synced);
        goes_on = goes_on_on (T.condition s) (T.condition s') (T.condition s'') x.goes_on y.goes_on;
        does = does_join s s' s'' turns more x.does y.does;
      }
