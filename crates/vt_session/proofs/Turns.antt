-- Turns one behind another, and the histories that they answer from.
use Rattle.std.proofs.Common.{◌≡◌, ℕ, zero, suc, ◌<◌, ◌≤◌, List, [], ◌∷◌, ◌++◌, length, take, Option, Some, None, refl, sym, ◌∙◌, ap, subst, arith, length-append, append_assoc, append-nil}
use Rattle.std.specs.Prelude.{slice_get}
use Rattle.std.specs.Option.{option_to_list}
use Rattle.std.proofs.Math.Seq.{take-append_seam}
use Rattle.std.proofs.lemmas.List.{take-append-le}
use Rattle.vt_base.specs.Protocol.{Operation}
use Rattle.vt_model.specs.History.{Accepted, History}
use Rattle.vt_model.specs.Places.{Setup}
use Rattle.vt_model.specs.Answer.{Outcome, answer, with_added}
use Rattle.vt_model.specs.Legal.{IsLegal}
use Rattle.vt_session.specs.Turns.{Turn, told, served, failed, added_of}
use Rattle.vt_session.specs.Answered.{IsAddedAt, number_after, AnsweredBy, AnsweredAlone}

get_front : {X : Type 0} (xs ys : List X) (n : ℕ) (x : X) → slice_get xs n ≡ Some x
    → slice_get (xs ++ ys) n ≡ Some x
get_front [] ys n x h = absurd (cc)
get_front (a ∷ xs) ys zero x h = h
get_front (a ∷ xs) ys (suc n) x h = get_front xs ys n x h

get_seam : {X : Type 0} (xs : List X) (x : X) (ys : List X)
    → slice_get (xs ++ (x ∷ ys)) (length xs) ≡ Some x
get_seam [] x ys = refl
get_seam (a ∷ xs) x ys = get_seam xs x ys

pub get_within : {X : Type 0} (xs : List X) (n : ℕ) (x : X) → slice_get xs n ≡ Some x
    → n < length xs
get_within [] n x h = absurd (cc)
get_within (a ∷ xs) zero x h = omega arith
get_within (a ∷ xs) (suc n) x h = omega (arith, get_within xs n x h)

with_added_is : (h : History) (o : Option Accepted) → with_added h o ≡ h ++ option_to_list o
with_added_is h None = sym (append-nil h)
with_added_is h (Some e) = refl

stands_longer : (h more : History) (n : ℕ) (o : Option Accepted) → IsAddedAt h n o
    → IsAddedAt (h ++ more) n o
stands_longer h more n None s = tt
stands_longer h more n (Some e) s = get_front h more n e s

number_within : (h : History) (n : ℕ) (o : Option Accepted) → n ≤ length h → IsAddedAt h n o
    → number_after n o ≤ length h
number_within h n None le s = le
number_within h n (Some e) le s = omega (arith, get_within h n e s)

module _ (score : List ℕ → List ℕ) (c : Setup) where
  -- ---- where nobody else adds

  pub turns_add : (before : History) (turns : List Turn) (after : History)
      → AnsweredAlone score c before turns after → after ≡ before ++ added_of turns
  turns_add before [] after x = x ∙ sym (append-nil before)
  turns_add before (told tag reply ∷ turns) after x = turns_add before turns after x
  turns_add before (served tag operation n outcome ∷ turns) after x =
      turns_add (with_added before outcome.added) turns after x.2
      ∙ ap (λ l. l ++ added_of turns) (with_added_is before outcome.added)
      ∙ append_assoc before (option_to_list outcome.added) (added_of turns)
  turns_add before (failed tag operation n cause ∷ turns) after x = turns_add before turns after x.2

  pub turns_join : (before between after : History) (turns more : List Turn)
      → AnsweredAlone score c before turns between
      → AnsweredAlone score c between more after
      → AnsweredAlone score c before (turns ++ more) after
  turns_join before between after [] more x y = subst (λ h. AnsweredAlone score c h more after) x y
  turns_join before between after (told tag reply ∷ turns) more x y =
      turns_join before between after turns more x y
  turns_join before between after (served tag operation n outcome ∷ turns) more x y =
      (x.0, x.1, turns_join (with_added before outcome.added) between after turns more x.2 y)
  turns_join before between after (failed tag operation n cause ∷ turns) more x y =
      (x.0, x.1, turns_join before between after turns more x.2 y)

  pub turns_part : (before after : History) (front behind : List Turn)
      → AnsweredAlone score c before (front ++ behind) after
      → (between : History) × AnsweredAlone score c before front between
      × AnsweredAlone score c between behind after
  turns_part before after [] behind x = (before, refl, x)
  turns_part before after (told tag reply ∷ front) behind x = turns_part before after front behind x
  turns_part before after (served tag operation n outcome ∷ front) behind x =
      let r = turns_part (with_added before outcome.added) after front behind x.2 in
      (r.0, (x.0, x.1, r.1), r.2)
  turns_part before after (failed tag operation n cause ∷ front) behind x =
      let r = turns_part before after front behind x.2 in
      (r.0, (x.0, x.1, r.1), r.2)

  pub turns_legal : ((h : History) (m : Operation) → IsLegal score c h
      → IsLegal score c (with_added h (answer score c h m).added))
      → (before : History) (turns : List Turn) (after : History) → IsLegal score c before
      → AnsweredAlone score c before turns after → IsLegal score c after
  turns_legal keeps before [] after legal x = subst (IsLegal score c) (sym x) legal
  turns_legal keeps before (told tag reply ∷ turns) after legal x =
      turns_legal keeps before turns after legal x
  turns_legal keeps before (served tag operation n outcome ∷ turns) after legal x =
      let next : IsLegal score c (with_added before outcome.added) =
      subst (λ (o : Outcome). IsLegal score c (with_added before o.added)) (sym x.1)
      (keeps before operation legal) in
      turns_legal keeps (with_added before outcome.added) turns after next x.2
  turns_legal keeps before (failed tag operation n cause ∷ turns) after legal x =
      turns_legal keeps before turns after legal x.2

  -- ---- where others may add

  lower : (h : History) (low low' high : ℕ) (turns : List Turn) → low ≤ low'
      → AnsweredBy score c h low' high turns → AnsweredBy score c h low high turns
  lower h low low' high [] le x = tt
  lower h low low' high (told tag reply ∷ turns) le x = lower h low low' high turns le x
  lower h low low' high (served tag operation n outcome ∷ turns) le x =
      (omega (arith, le, x.0), x.1, x.2, x.3, x.4)
  lower h low low' high (failed tag operation n cause ∷ turns) le x =
      (omega (arith, le, x.0), x.1, x.2, x.3)

  -- the answer stays where the history goes on
  same_answer : (h more : History) (n : ℕ) (operation : Operation) (outcome : Outcome)
      → n ≤ length h
      → outcome ≡ answer score c (take n h) operation
      → outcome ≡ answer score c (take n (h ++ more)) operation
  same_answer h more n operation outcome le is = is
      ∙ ap (λ l. answer score c l operation) (sym (take-append-le n h more le))

  pub turns_join_later : (h added : History) (low high low' high' : ℕ) (turns more : List Turn)
      → AnsweredBy score c h low high turns
      → low ≤ low' → high ≤ length h → length h ≤ low' → high ≤ high'
      → AnsweredBy score c (h ++ added) low' high' more
      → AnsweredBy score c (h ++ added) low high' (turns ++ more)
  turns_join_later h added low high low' high' [] more x low_le within later le y =
      lower (h ++ added) low low' high' more low_le y
  turns_join_later h added low high low' high'
      (told tag reply ∷ turns) more x low_le within later le y =
      turns_join_later h added low high low' high' turns more x low_le within later le y
  turns_join_later h added low high low' high'
      (served tag operation n outcome ∷ turns) more x low_le within later le y =
      let in_h : n ≤ length h = omega (arith, x.1, within) in
      let next : number_after n outcome.added ≤ low' =
      omega (arith, number_within h n outcome.added in_h x.3, later) in (
        x.0,
        omega (arith, x.1, le),
        same_answer h added n operation outcome in_h x.2,
        stands_longer h added n outcome.added x.3,
        turns_join_later h added
            (number_after n outcome.added) high low' high' turns more x.4 next within later le y,
      )
  turns_join_later h added low high low' high'
      (failed tag operation n cause ∷ turns) more x low_le within later le y = (
        x.0,
        omega (arith, x.1, le),
        x.2,
        turns_join_later h added n high low' high' turns more x.3
            (omega (arith, x.1, within, later)) within later le y,
      )

  pub turns_longer : (h more : History) (low high : ℕ) (turns : List Turn) → high ≤ length h
      → AnsweredBy score c h low high turns
      → AnsweredBy score c (h ++ more) low high turns
  turns_longer h more low high [] within x = tt
  turns_longer h more low high (told tag reply ∷ turns) within x =
      turns_longer h more low high turns within x
  turns_longer h more low high (served tag operation n outcome ∷ turns) within x = (
    x.0,
    x.1,
    same_answer h more n operation outcome (omega (arith, x.1, within)) x.2,
    stands_longer h more n outcome.added x.3,
    turns_longer h more (number_after n outcome.added) high turns within x.4,
  )
  turns_longer h more low high (failed tag operation n cause ∷ turns) within x =
      (x.0, x.1, x.2, turns_longer h more n high turns within x.3)

  number_is : (h : History) (o : Option Accepted)
      → number_after (length h) o ≡ length (with_added h o)
  number_is h None = refl
  number_is h (Some e) = sym (length-append h (e ∷ []))

  stands_next : (h : History) (o : Option Accepted) (more : History)
      → IsAddedAt (with_added h o ++ more) (length h) o
  stands_next h None more = tt
  stands_next h (Some e) more =
      subst (λ l. slice_get l (length h) ≡ Some e) (sym (append_assoc h (e ∷ []) more))
      (get_seam h e more)

  pub turns_alone : (before : History) (turns : List Turn) (after : History)
      → AnsweredAlone score c before turns after
      → AnsweredBy score c after (length before) (length after) turns
  turns_alone before [] after x = tt
  turns_alone before (told tag reply ∷ turns) after x = turns_alone before turns after x
  turns_alone before (served tag operation n outcome ∷ turns) after x =
      let adds = turns_add before (served tag operation n outcome ∷ turns) after x in
      let next = with_added before outcome.added in
      let rest = turns_add next turns after x.2 in
      let front : take n after ≡ before =
      ap (λ l. take n l) adds
      ∙ ap (λ k. take k (before ++ (option_to_list outcome.added ++ added_of turns))) x.0
      ∙ take-append_seam before (option_to_list outcome.added ++ added_of turns) in
      let low : number_after n outcome.added ≡ length next =
      ap (λ k. number_after k outcome.added) x.0 ∙ number_is before outcome.added in (
        omega (arith, x.0),
        omega (
          arith,
          x.0,
          ap length adds,
          length-append before (option_to_list outcome.added ++ added_of turns),
        ),
        x.1 ∙ ap (λ l. answer score c l operation) (sym front),
        subst (λ k. IsAddedAt after k outcome.added) (sym x.0)
            (subst (λ l. IsAddedAt l (length before) outcome.added) (sym rest)
            (stands_next before outcome.added (added_of turns))),
        subst (λ k. AnsweredBy score c after k (length after) turns) (sym low)
            (turns_alone next turns after x.2),
      )
  turns_alone before (failed tag operation n cause ∷ turns) after x =
      let adds = turns_add before turns after x.2 in (
        omega (arith, x.0),
        omega (arith, x.0, ap length adds, length-append before (added_of turns)),
        x.1,
        subst (λ k. AnsweredBy score c after k (length after) turns) (sym x.0)
            (turns_alone before turns after x.2),
      )
