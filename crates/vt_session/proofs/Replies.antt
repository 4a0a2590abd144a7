-- What came in and what went out tell which blocks were added.
use Rattle.std.proofs.Common.{◌≡◌, ◌≢◌, ℕ, ◌≤◌, ◌⊎◌, not, nat_lt, cond, Bool, true, false, List, [], ◌∷◌, ◌++◌, length, Option, Some, None, refl, sym, ◌∙◌, ap, subst, arith, inl, inr}
use Rattle.std.specs.Prelude.{find, codes}
use Rattle.std.specs.List.{All, AllByRecursion, flat_map, list_any}
use Rattle.std.specs.Option.{option_map}
use Rattle.std.specs.Str.{bytes_eq}
use Rattle.std.proofs.lemmas.List.Elements.{recursion_from_All}
use Rattle.vt_base.specs.Kind.{is_kind}
use Rattle.vt_base.specs.declared.TheConstants.{MAX_BLOCK}
use Rattle.vt_base.specs.declared.why.Why.{Why}
use Rattle.vt_base.specs.declared.why.Why.TheVariants.{BadType, TooBig, TooSmall, Absent, Collision, IndexFull, ArenasFull}
use Rattle.vt_base.specs.Protocol.{Operation, ping, read, write, sync, RMessage, r_read, r_write, r_error, r_refused}
use Rattle.vt_wire.specs.Messages.{FitsReply, spelled_reply}
use Rattle.vt_wire.proofs.Frames.{same_front}
use Rattle.vt_wire.proofs.Messages.{spelled_one}
use Rattle.vt_wire.proofs.Texts.{why_fits}
use Rattle.vt_model.specs.History.{Accepted, History, IsBlock, held, has_key}
use Rattle.vt_model.specs.Places.{Setup, next_arena}
use Rattle.vt_model.specs.Answer.{Outcome, answer, with_added, replies, refuses, adds, lends}
use Rattle.vt_model.specs.Legal.{IsLegal}
use Rattle.vt_session.specs.declared.Ended.{Ended}
use Rattle.vt_session.specs.declared.Ended.TheVariants.{Goodbye, Closed, Cut, Malformed, Spent, ReadFault, WriteFault, NoMemory}
use Rattle.vt_model.specs.Causes.{Cause, disk_fault, stopped, damaged, no_memory, why_of}
use Rattle.vt_session.specs.Turns.{Turn, told, served, failed, spelled_turn, items_of_turns, server_line}
use Rattle.vt_session.specs.Answered.{AnsweredAlone, Faults}
use Rattle.vt_session.specs.Talk.{Carries, Alone, HasScores}
use Rattle.vt_session.proofs.Talks.{IsAnswered, is_answered, same_items}

-- ---- the replies that an answer has

-- the reply says that the store failed
abbrev is_failure : RMessage → Bool
is_failure (r_error t) =
    list_any (λ f. bytes_eq t f)
    (codes "disk fault" ∷ codes "store stopped" ∷ codes "block damaged" ∷ codes "no memory" ∷ [])
is_failure reply = false

failure : (cause : Cause) → is_failure (r_refused (why_of cause)) ≡ true
failure (disk_fault before after) = refl
failure (stopped part first) = refl
failure (damaged site want found) = refl
failure no_memory = refl

-- the reply can be sent, and says no failure
record IsServed (reply : RMessage) : Type 0 where
  fits : FitsReply reply
  no_failure : is_failure reply ≡ false

either : (b : Bool) (x y : Outcome) → IsServed x.reply → IsServed y.reply
    → IsServed (cond b x y).reply
either true x y p q = p
either false x y p q = q

refused : (why : Why) → is_failure (r_refused why) ≡ false → IsServed (r_refused why)
refused why is = record { fits = why_fits why; no_failure = is }

written : (s : List ℕ) → length s ≡ 20 → IsServed (r_write s)
written s len = record { fits = len; no_failure = refl }

add_served : (s : List ℕ) (kind : ℕ) (bytes : List ℕ) (o : Option ℕ) → length s ≡ 20
    → IsServed (adds s kind bytes o).reply
add_served s kind bytes None len = refused ArenasFull refl
add_served s kind bytes (Some arena) len = written s len

lend_served : (count : ℕ) (o : Option (List ℕ))
    → ((b : List ℕ) → o ≡ Some b → length b ≤ MAX_BLOCK) → IsServed (lends count o).reply
lend_served count None short = refused Absent refl
lend_served count (Some b) short =
    either (nat_lt count (length b)) (refuses TooSmall) (replies (r_read b))
    (refused TooSmall refl) (record { fits = short b refl; no_failure = refl })

found_in : {X : Type 0} (P : X → Type 0) (p : X → Bool) (xs : List X) (x : X) → AllByRecursion P xs
    → find p xs ≡ Some x → P x
found_in P p [] x all h = absurd (cc)
found_in P p (y ∷ ys) x all h = elim (p y) as (λ b. cond b (Some y) (find p ys) ≡ Some x → P x) [
  | true ↦ λ e. let same : y ≡ x = cc in
      subst P same all.0
  | false ↦ λ e. found_in P p ys x all.1 e
] h

mapped : (o : Option Accepted) (b : List ℕ)
    → option_map (λ (e : Accepted). e.block.bytes) o ≡ Some b
    → (e : Accepted) × (o ≡ Some e) × (e.block.bytes ≡ b)
mapped None b h = absurd (cc)
mapped (Some e) b h = (e, refl, cc)

held_short : (score : List ℕ → List ℕ) (h : History) (s : List ℕ) (k : ℕ) (b : List ℕ)
    → All (λ e. IsBlock e.block) h
    → held score h s k ≡ Some b → length b ≤ MAX_BLOCK
held_short score h s k b all is =
    elim (bytes_eq s (score [])) as
    (λ t. cond t (Some [])
    (option_map (λ (e : Accepted). e.block.bytes) (find (has_key score s k) h)) ≡ Some b
    → length b ≤ MAX_BLOCK) [
      | true ↦ λ e. let none : [] ≡ b = cc in omega (arith, ap length none)
      | false ↦ λ e.
          let m = mapped (find (has_key score s k) h) b e in
          let most : length m.0.block.bytes ≤ MAX_BLOCK =
          (found_in (λ e. IsBlock e.block) (has_key score s k) h m.0
          (recursion_from_All (λ e. IsBlock e.block) h all) m.1).most in
          omega (arith, most, ap length m.2)
    ] is

answer_served : (score : List ℕ → List ℕ) (c : Setup) (h : History) (operation : Operation)
    → HasScores score → IsLegal score c h
    → IsServed (answer score c h operation).reply
answer_served score c h ping scores legal = record { fits = tt; no_failure = refl }
answer_served score c h sync scores legal = record { fits = tt; no_failure = refl }
answer_served score c h (read s kind count) scores legal =
    either (not (is_kind kind)) (refuses BadType) (lends count (held score h s kind))
    (refused BadType refl)
    (lend_served count (held score h s kind) (λ b is. held_short score h s kind b legal.blocks is))
answer_served score c h (write kind bytes) scores legal =
    either _ (refuses BadType) _ (refused BadType refl)
    (either _ (refuses TooBig) _ (refused TooBig refl)
    (either _ (replies (r_write (score []))) _ (written (score []) (scores []))
    (either _ (refuses Collision) _ (refused Collision refl)
    (either _ (replies (r_write (score bytes))) _ (written (score bytes) (scores bytes))
    (either _ (refuses IndexFull) _ (refused IndexFull refl)
    (add_served (score bytes) kind bytes (next_arena c h (length bytes)) (scores bytes)))))))

-- ---- the history

abbrev spoken : List Turn → List ℕ
spoken turns = flat_map spelled_turn turns

module _ (score : List ℕ → List ℕ) (c : Setup) (scores : HasScores score)
    (keeps : (h : History) (m : Operation) → IsLegal score c h
    → IsLegal score c (with_added h (answer score c h m).added)) where
  -- an answer is no failure
  not_both : (h : History) (operation : Operation) (outcome : Outcome) (cause : Cause)
      (tag tag' : ℕ) (x y : List ℕ) → IsLegal score c h
      → outcome ≡ answer score c h operation
      → spelled_reply tag outcome.reply ++ x ≡ spelled_reply tag' (r_refused (why_of cause)) ++ y → ⊥
  not_both h operation outcome cause tag tag' x y legal is same =
      let s : IsServed outcome.reply =
      subst (λ (o : Outcome). IsServed o.reply) (sym is)
      (answer_served score c h operation scores legal) in
      let reply = (spelled_one tag tag' outcome.reply (r_refused (why_of cause)) x y s.fits
      (why_fits (why_of cause)) same).1 in
      let e : is_failure outcome.reply ≡ is_failure (r_refused (why_of cause)) =
      ap is_failure reply in
      let f : is_failure outcome.reply ≡ false = s.no_failure in
      let t : is_failure (r_refused (why_of cause)) ≡ true = failure cause in
      cc

  turns_history : (before : History) (turns turns' : List Turn) (after after' : History)
      → IsLegal score c before → items_of_turns turns ≡ items_of_turns turns'
      → spoken turns ≡ spoken turns' → AnsweredAlone score c before turns after
      → AnsweredAlone score c before turns' after' → after ≡ after'
  turns_history before [] [] after after' legal same out x y = x ∙ sym y
  turns_history before [] (t ∷ turns') after after' legal same out x y = absurd (cc)
  turns_history before (t ∷ turns) [] after after' legal same out x y = absurd (cc)
  turns_history before (told tag reply ∷ turns)
      (told tag' reply' ∷ turns') after after' legal same out x y =
      let tags : tag ≡ tag' = cc in
      let says : reply ≡ reply' = cc in
      let frames : spelled_reply tag reply ≡ spelled_reply tag' reply' = cc in
      let rest = same_front (spelled_reply tag reply) (spelled_reply tag' reply') (spoken turns)
      (spoken turns') (ap length frames) out in
      turns_history before turns turns' after after' legal (cc) rest.1 x y
  turns_history before (served tag operation n outcome ∷ turns)
      (served tag' operation' n' outcome' ∷ turns') after after' legal same out x y =
      let tags : tag ≡ tag' = cc in
      let operations : operation ≡ operation' = cc in
      let outcomes : outcome ≡ outcome' = x.1 ∙ ap (answer score c before) operations ∙ sym y.1 in
      let frames : spelled_reply tag outcome.reply ≡ spelled_reply tag' outcome'.reply =
      ap (λ (o : Outcome). spelled_reply tag o.reply) outcomes
      ∙ ap (λ t. spelled_reply t outcome'.reply) tags in
      let rest = same_front (spelled_reply tag outcome.reply) (spelled_reply tag' outcome'.reply)
      (spoken turns) (spoken turns') (ap length frames) out in
      let next : IsLegal score c (with_added before outcome.added) =
      subst (λ (o : Outcome). IsLegal score c (with_added before o.added)) (sym x.1)
      (keeps before operation legal) in
      turns_history (with_added before outcome.added) turns turns' after after' next (cc) rest.1 x.2
      (subst (λ (o : Outcome). AnsweredAlone score c (with_added before o.added) turns' after')
      (sym outcomes) y.2)
  turns_history before (failed tag operation n cause ∷ turns)
      (failed tag' operation' n' cause' ∷ turns') after after' legal same out x y =
      let rest = (spelled_one tag tag' (r_refused (why_of cause)) (r_refused (why_of cause'))
      (spoken turns) (spoken turns') (why_fits (why_of cause))
      (why_fits (why_of cause')) out).2 in
      turns_history before turns turns' after after' legal (cc) rest x.2 y.2
  turns_history before (served tag operation n outcome ∷ turns)
      (failed tag' operation' n' cause ∷ turns') after after' legal same out x y =
      absurd (not_both before operation outcome cause tag tag' (spoken turns)
      (spoken turns') legal x.1 out)
  turns_history before (failed tag operation n cause ∷ turns)
      (served tag' operation' n' outcome ∷ turns') after after' legal same out x y =
      absurd (not_both before operation' outcome cause tag' tag (spoken turns')
      (spoken turns) legal y.1 (sym out))
  turns_history before (told tag reply ∷ turns)
      (served tag' operation' n' outcome' ∷ turns') after after' legal same out x y = absurd (cc)
  turns_history before (told tag reply ∷ turns)
      (failed tag' operation' n' cause ∷ turns') after after' legal same out x y = absurd (cc)
  turns_history before (served tag operation n outcome ∷ turns)
      (told tag' reply' ∷ turns') after after' legal same out x y = absurd (cc)
  turns_history before (failed tag operation n cause ∷ turns)
      (told tag' reply' ∷ turns') after after' legal same out x y = absurd (cc)

  -- nothing was said, or everything that was heard was answered
  said : (input output : List ℕ) (turns : List Turn) (ended : Ended) → ended ≢ WriteFault
      → Carries input output turns ended
      → ((turns ≡ []) × (output ≡ [])) ⊎ IsAnswered input output turns
  said input output turns Goodbye not x = inr (is_answered input output turns Goodbye tt x)
  said input output turns Closed not x = inr (is_answered input output turns Closed tt x)
  said input output turns Cut not x = inr (is_answered input output turns Cut tt x)
  said input output turns (Malformed place) not x =
      inr (is_answered input output turns (Malformed place) tt x)
  said input output turns Spent not x = inr (is_answered input output turns Spent tt x)
  said input output turns ReadFault not x = inr (is_answered input output turns ReadFault tt x)
  said input output turns WriteFault not x = absurd (not refl)
  said input output turns NoMemory not x = inl x

  silent : (before : History) (turns : List Turn) (after : History) → turns ≡ []
      → AnsweredAlone score c before turns after → after ≡ before
  silent before turns after none x = subst (λ t. AnsweredAlone score c before t after) none x

  spoke : (input output : List ℕ) (turns : List Turn) → IsAnswered input output turns → output ≡ []
      → ⊥
  spoke input output turns is none = let line : server_line ++ spoken turns ≡ [] = sym is.written
      ∙ none in cc

  pub history_told : (faults faults' : Faults) (before : History) (input output : List ℕ)
      (turns : List Turn) (ended : Ended) (after : History) (turns' : List Turn) (ended' : Ended)
      (after' : History)
      → IsLegal score c before → Alone score c faults before input output turns ended after
      → Alone score c faults' before input output turns' ended' after'
      → ended ≢ WriteFault → ended' ≢ WriteFault → after ≡ after'
  history_told faults faults' before input output turns ended after turns' ended' after' legal x y
      fault fault' =
      elim (said input output turns ended fault x.carried) [
        | inl p ↦ elim (said input output turns' ended' fault' y.carried) [
          | inl q ↦ silent before turns after p.0 x.answered
              ∙ sym (silent before turns' after' q.0 y.answered)
          | inr q ↦ absurd (spoke input output turns' q p.1)
        ]
        | inr p ↦ elim (said input output turns' ended' fault' y.carried) [
          | inl q ↦ absurd (spoke input output turns p q.1)
          | inr q ↦
              let out = (same_front server_line server_line (spoken turns) (spoken turns') refl
              (sym p.written ∙ q.written)).1 in
              turns_history before turns turns' after after' legal
              (same_items score c input output output turns turns' p q)
              out x.answered y.answered
        ]
      ]
