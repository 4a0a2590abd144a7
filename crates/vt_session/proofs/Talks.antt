-- Whole sessions: each input has one, and where the store doesn't fail only one.
use Rattle.std.proofs.Common.{◌≡◌, ℕ, ◌<◌, ◌≤◌, List, [], ◌∷◌, ◌++◌, length, refl, sym, ◌∙◌, ap, subst, arith, length-append, inl, inr}
use Rattle.std.proofs.lemmas.List.Concat.{flat_map-append}
use Rattle.vt_base.specs.Bytes.{AreBytes}
use Rattle.vt_model.specs.History.{History}
use Rattle.vt_model.specs.Places.{Setup}
use Rattle.vt_model.specs.Answer.{answer, with_added}
use Rattle.vt_session.specs.declared.Ended.{Ended}
use Rattle.vt_session.specs.declared.Ended.TheVariants.{Goodbye, Closed, Cut, Malformed, Spent, ReadFault, WriteFault, NoMemory}
use Rattle.vt_session.specs.Heard.{Item, settled, asked, Heard}
use Rattle.vt_session.specs.Turns.{Turn, told, served, failed, items_of_turns, output_of, added_of, cause_of, causes_of}
use Rattle.vt_model.specs.Causes.{NoneFell}
use Rattle.vt_session.specs.Answered.{AnsweredAlone, Faults, no_faults, AreToldBy}
use Rattle.vt_session.specs.Talk.{spent_len, HearsAll, Carries, Talk, TalkSoFar, ComesBehind, over_both, Alone, AnswersAll, EndsByInput}
use Rattle.vt_session.proofs.Hearings.{heard_one, heard_some}
use Rattle.vt_session.proofs.Turns.{turns_add, turns_alone, turns_longer, turns_join_later}
use Rattle.vt_session.proofs.Causes.{told_behind}

-- ---- determined

-- everything that was taken was answered
pub record IsAnswered (input output : List ℕ) (turns : List Turn) : Type 0 where
  pub end : Ended
  pub heard : Heard input (items_of_turns turns) end
  pub written : output ≡ output_of turns

answered : (input output : List ℕ) (turns : List Turn) (end : Ended)
    → HearsAll input output turns end → IsAnswered input output turns
answered input output turns end x = record { end = end; heard = x.0; written = x.1 }

pub is_answered : (input output : List ℕ) (turns : List Turn) (ended : Ended) → AnswersAll ended
    → Carries input output turns ended → IsAnswered input output turns
is_answered input output turns Goodbye a x = answered input output turns Goodbye x
is_answered input output turns Closed a x = answered input output turns Closed x.0
is_answered input output turns Cut a x = answered input output turns Cut x.0
is_answered input output turns (Malformed place) a x =
    answered input output turns (Malformed place) x
is_answered input output turns Spent a x =
    elim (x.0) [
      | inl y ↦ answered input output turns Closed y
      | inr y ↦ answered input output turns
          Cut y
    ]
is_answered input output turns ReadFault a x =
    elim (x.0) [
      | inl y ↦ answered input output turns Closed y
      | inr y ↦ answered input output turns
          Cut y
    ]
is_answered input output turns WriteFault a x = absurd a
is_answered input output turns NoMemory a x = absurd a

ends_by : (input output : List ℕ) (turns : List Turn) (ended : Ended) → EndsByInput ended
    → Carries input output turns ended → Heard input (items_of_turns turns) ended
ends_by input output turns Goodbye a x = x.0
ends_by input output turns Closed a x = x.0.0
ends_by input output turns Cut a x = x.0.0
ends_by input output turns (Malformed place) a x = x.0
ends_by input output turns Spent a x = absurd a
ends_by input output turns ReadFault a x = absurd a
ends_by input output turns WriteFault a x = absurd a
ends_by input output turns NoMemory a x = absurd a

module _ (score : List ℕ → List ℕ) (c : Setup) where
  turns_one : (before : History) (turns turns' : List Turn) (after after' : History)
      → items_of_turns turns ≡ items_of_turns turns' → causes_of turns ≡ [] → causes_of turns' ≡ []
      → AnsweredAlone score c before turns after → AnsweredAlone score c before turns' after'
      → (turns ≡ turns') × (after ≡ after')
  turns_one before [] [] after after' same none none' x y = (refl, x ∙ sym y)
  turns_one before [] (t ∷ turns') after after' same none none' x y = absurd (cc)
  turns_one before (t ∷ turns) [] after after' same none none' x y = absurd (cc)
  turns_one before (told tag reply ∷ turns)
      (told tag' reply' ∷ turns') after after' same none none' x y =
      let tags : tag ≡ tag' = cc in
      let replies : reply ≡ reply' = cc in
      let r = turns_one before turns turns' after after' (cc) none none' x y in
      let rest : turns ≡ turns' = r.0 in
      (cc, r.1)
  turns_one before (served tag operation n outcome ∷ turns)
      (served tag' operation' n' outcome' ∷ turns') after after' same none none' x y =
      let tags : tag ≡ tag' = cc in
      let operations : operation ≡ operation' = cc in
      let numbers : n ≡ n' = x.0 ∙ sym y.0 in
      let outcomes : outcome ≡ outcome' = x.1 ∙ ap (answer score c before) operations ∙ sym y.1 in
      let r = turns_one (with_added before outcome.added) turns turns' after after'
      (cc) none none' x.2
      (subst (λ o. AnsweredAlone score c (with_added before o.added) turns' after')
      (sym outcomes) y.2) in
      let rest : turns ≡ turns' = r.0 in
      (cc, r.1)
  turns_one before (failed tag operation n cause ∷ turns) turns' after after' same none none' x y =
      absurd (cc)
  turns_one before turns (failed tag operation n cause ∷ turns') after after' same none none' x y =
      absurd (cc)
  turns_one before (told tag reply ∷ turns)
      (served tag' operation' n' outcome' ∷ turns') after after' same none none' x y = absurd (cc)
  turns_one before (served tag operation n outcome ∷ turns)
      (told tag' reply' ∷ turns') after after' same none none' x y = absurd (cc)

  -- two sessions over one input hear the same
  pub same_items : (input output output' : List ℕ) (turns turns' : List Turn)
      → IsAnswered input output turns → IsAnswered input output' turns'
      → items_of_turns turns ≡ items_of_turns turns'
  same_items input output output' turns turns' p q =
      (heard_one input (items_of_turns turns) (items_of_turns turns') p.end q.end p.heard q.heard).0

  pub alone_one : (faults faults' : Faults) (before : History) (input out : List ℕ)
      (turns : List Turn) (ended : Ended) (after : History)
      (out' : List ℕ) (turns' : List Turn) (ended' : Ended) (after' : History)
      → Alone score c faults before input out turns ended after
      → Alone score c faults' before input out' turns' ended' after'
      → causes_of turns ≡ [] → causes_of turns' ≡ [] → AnswersAll ended → AnswersAll ended'
      → (out ≡ out') × (turns ≡ turns') × (after ≡ after')
  alone_one faults faults' before input out turns ended after out' turns' ended' after' x y none
      none' a b =
      let p = is_answered input out turns ended a x.carried in
      let q = is_answered input out' turns' ended' b y.carried in
      let r = turns_one before turns turns' after after'
      (same_items input out out' turns turns' p q) none none' x.answered y.answered in
      (p.written ∙ ap output_of r.0 ∙ sym q.written, r.0, r.1)

  pub end_one : (faults faults' : Faults) (before : History) (input out : List ℕ)
      (turns : List Turn) (ended : Ended) (after : History)
      (out' : List ℕ) (turns' : List Turn) (ended' : Ended) (after' : History)
      → Alone score c faults before input out turns ended after
      → Alone score c faults' before input out' turns' ended' after'
      → EndsByInput ended → EndsByInput ended' → ended ≡ ended'
  end_one faults faults' before input out turns ended after out' turns' ended' after' x y a b =
      (heard_one input (items_of_turns turns) (items_of_turns turns') ended ended'
      (ends_by input out turns ended a x.carried)
      (ends_by input out' turns' ended' b y.carried)).1

  -- ---- as talks

  pub alone_talk : (faults : Faults) (before : History) (input output : List ℕ) (turns : List Turn)
      (ended : Ended) (after : History)
      → Alone score c faults before input output turns ended after
      → Talk score c faults after (length before) input output turns ended (length after)
  alone_talk faults before input output turns ended after x =
      let adds = turns_add score c before turns after x.answered in
      record {
        carried = x.carried;
        answered = turns_alone score c before turns after x.answered;
        taken = x.taken;
        failures = x.failures;
        rising = omega (arith, ap length adds, length-append before (added_of turns));
        within = omega arith;
      }

  pub talk_longer : (faults : Faults) (h more : History) (n0 : ℕ) (input output : List ℕ)
      (turns : List Turn) (ended : Ended) (n1 : ℕ)
      → Talk score c faults h n0 input output turns ended n1
      → Talk score c faults (h ++ more) n0 input output turns ended n1
  talk_longer faults h more n0 input output turns ended n1 t = record {
    carried = t.carried;
    answered = turns_longer score c h more n0 n1 turns t.within t.answered;
    taken = t.taken;
    failures = t.failures;
    rising = t.rising;
    within = omega (arith, t.within, length-append h more);
  }

  -- ---- talks that go on

  pub talk_begins : (faults : Faults) (h : History) (n : ℕ) → NoneFell faults.before faults.after
      → n ≤ length h → TalkSoFar score c faults h n [] n
  talk_begins faults h n counts within = record {
    answered = tt;
    failures = record { counts = counts; stops = tt };
    rising = omega arith;
    within = within;
  }

  pub so_far_longer : (faults : Faults) (h more : History) (n0 : ℕ) (turns : List Turn) (n1 : ℕ)
      → TalkSoFar score c faults h n0 turns n1 → TalkSoFar score c faults (h ++ more) n0 turns n1
  so_far_longer faults h more n0 turns n1 t = record {
    answered = turns_longer score c h more n0 n1 turns t.within t.answered;
    failures = t.failures;
    rising = t.rising;
    within = omega (arith, t.within, length-append h more);
  }

  pub talk_behind : (first next : Faults) (h added : History) (n0 n1 m0 m1 : ℕ)
      (turns more : List Turn) → TalkSoFar score c first h n0 turns n1
      → TalkSoFar score c next (h ++ added) m0 more m1 → ComesBehind first next → length h ≤ m0
      → TalkSoFar score c (over_both first next) (h ++ added) n0 (turns ++ more) m1
  talk_behind first next h added n0 n1 m0 m1 turns more t u on later = record {
    answered = turns_join_later score c h added n0 n1 m0 m1 turns more t.answered
        (omega (arith, t.rising, t.within, later)) t.within later
        (omega (arith, t.within, later, u.rising)) u.answered;
    failures = subst (AreToldBy (over_both first next)) (sym (flat_map-append cause_of turns more))
        (told_behind first next (causes_of turns) (causes_of more) on t.failures u.failures);
    rising = omega (arith, t.rising, t.within, later, u.rising);
    within = u.within;
  }

  -- ---- one for each input

  turns_some : (before : History) (items : List Item)
      → (turns : List Turn) × (after : History) × (items_of_turns turns ≡ items) × (causes_of turns ≡ [])
      × AnsweredAlone score c before turns after
  turns_some before [] = ([], before, refl, refl, refl)
  turns_some before (settled tag reply ∷ items) =
      let r = turns_some before items in
      (told tag reply ∷ r.0, r.1, ap (λ l. settled tag reply ∷ l) r.2, r.3, r.4)
  turns_some before (asked tag operation ∷ items) =
      let outcome = answer score c before operation in
      let r = turns_some (with_added before outcome.added) items in (
        served tag operation (length before) outcome ∷ r.0,
        r.1,
        ap (λ l. asked tag operation ∷ l) r.2,
        r.3,
        (refl, refl, r.4),
      )

carries : (input : List ℕ) (turns : List Turn) (ended : Ended) → length input < spent_len
    → EndsByInput ended → Heard input (items_of_turns turns) ended
    → Carries input (output_of turns) turns ended
carries input turns Goodbye few e h = (h, refl)
carries input turns Closed few e h = ((h, refl), few)
carries input turns Cut few e h = ((h, refl), few)
carries input turns (Malformed place) few e h = (h, refl)
carries input turns Spent few e h = absurd e
carries input turns ReadFault few e h = absurd e
carries input turns WriteFault few e h = absurd e
carries input turns NoMemory few e h = absurd e

pub alone_some : (score : List ℕ → List ℕ) (c : Setup) (before : History) (input : List ℕ)
    → AreBytes input → length input < spent_len
    → (output : List ℕ) × (turns : List Turn) × (ended : Ended) × (after : History)
    × Alone score c no_faults before input output turns ended after × (causes_of turns ≡ [])
    × EndsByInput ended
alone_some score c before input are few =
    let heard = heard_some input are in
    let r = turns_some score c before heard.0 in
    let all : Heard input (items_of_turns r.0) heard.1 =
    subst (λ i. Heard input i heard.1) (sym r.2) heard.2 in (
      output_of r.0,
      r.0,
      heard.1,
      r.1,
      record {
        carried = carries input r.0 heard.1 few heard.3 all;
        answered = r.4;
        taken = omega (arith, few);
        failures = subst (AreToldBy no_faults) (sym r.3)
            (record { counts = λ k. omega arith; stops = tt });
      },
      r.3,
      heard.3,
    )
