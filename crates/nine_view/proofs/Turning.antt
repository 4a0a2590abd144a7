-- One message, from its first byte to its reply.
use Rattle.std.proofs.Common.{◌≡◌, ◌+◌, ◌≤◌, ◌++◌, ℕ, Bool, true, Option, Some, None, Result, Ok, Err, List, [], ◌∷◌, length, take, drop, refl, sym, ◌∙◌, ap, subst, append-nil, take-append-drop, add-zero, inl, inr}
use Rattle.std.specs.Prelude.{IsTrue}
use Rattle.std.specs.Option.{option_or}
use Rattle.std.proofs.lemmas.Bool.{cases_Bool}
use Rattle.vt_tree.specs.Calls.{Call}
use Rattle.vt_tree.specs.Maps.{Maps}
use Rattle.vac_read.specs.declared.error.VacBad.{VacBad}
use Rattle.vt_out.specs.Streams.{AppendsPrefix}
use Rattle.nine_view.specs.declared.serving.Ended.{Ended}
use Rattle.nine_view.specs.declared.serving.Ended.TheVariants.{Closed, Cut, Malformed, Spent, ReadFault, WriteFault, NoMemory}
use Rattle.nine_view.specs.Hearing.{HearsMessage}
use Rattle.nine_view.specs.Known.{ViewState, limit}
use Rattle.nine_view.specs.Replies.{AnswersMessage}
use Rattle.nine_view.specs.Serving.{EndsSo, GoesOut, GoesOnOr, SaysAllOr, came_in, IsAtEndOr, MessageTurn, Turns, WriteCause}

same_or : (a : Option VacBad) → a ≡ option_or a None
same_or None = refl
same_or (Some bad) = refl

-- where nothing was said, no write failed
pub not_written : (ended : Ended) (old new : ℕ) → GoesOut ended [] [] → new ≡ old
    → WriteCause ended old new
not_written Closed old new unsaid same = same
not_written Cut old new unsaid same = same
not_written (Malformed at) old new unsaid same = same
not_written Spent old new unsaid same = same
not_written ReadFault old new unsaid same = same
not_written WriteFault old new unsaid same = absurd unsaid
not_written NoMemory old new unsaid same = same

module _ {S : Type 0} (does : S → Call → S → Type 0) (holds : S → Maps → Type 0)
    (score_of : List ℕ → List ℕ) (s : S) (old : ViewState) where
  -- no message came
  pub unheard : (tells : Type 0) (given given' written written' left' : List ℕ)
      (taken taken' : ℕ) (failure : Option VacBad) (buffer : List ℕ) (ended : Ended)
      → HearsMessage tells given given' left' (limit old) taken taken' buffer (Err ended)
      → (tells → written' ≡ written)
      → Turns does holds score_of s s old old tells given given' written written' left' taken
      taken' failure failure (Err ended)
  unheard tells given given' written written' left' taken taken' failure buffer ended so same =
      record {
        turns = [];
        talks = (refl, refl);
        failure_is = same_or failure;
        rest = so.came;
        ends = subst (λ (n : ℕ). EndsSo ended (limit old) n so.came) (sym (add-zero taken))
            so.hears.0;
        taken_is = so.taken_is;
        input = so.given_is;
        output = [];
        written_is = λ told. same told ∙ sym (append-nil written);
        goes_out = so.hears.1;
        at_end = so.at_end;
      }

  module _ (s' : S) (new : ViewState) (message said : List ℕ) (failed : Option VacBad)
      (short : length message ≤ limit old)
      (replies : AnswersMessage does holds score_of s s' old new message said failed)
      (taken taken' : ℕ) (failure failure' : Option VacBad)
      (counted : taken' ≡ taken + length message) (first : failure' ≡ option_or failure failed)
    where
      abbrev this_turn : List MessageTurn
      this_turn = record { message = message; said = said; known = new; failure = failed } ∷ []

      turned : (tells : Type 0) (given given' written written' left' output : List ℕ)
          (result : Result (Unit {0}) Ended) → (tells → given' ≡ given ++ message)
          → GoesOnOr result (limit new) (taken + length (came_in this_turn)) []
          → (tells → written' ≡ written ++ output) → SaysAllOr result this_turn output
          → (tells → IsAtEndOr result left')
          → Turns does holds score_of s s' old new tells given given' written written' left' taken
          taken' failure failure' result
      turned tells given given' written written' left' output result came goes_on wrote says ends =
          let all : (message ++ []) ++ [] ≡ message =
          append-nil (message ++ []) ∙ append-nil message in
          record {
            turns = this_turn;
            talks = (short, (s', replies, (refl, refl)));
            failure_is = first ∙ ap (λ (o : Option VacBad). option_or failure o) (same_or failed);
            rest = [];
            ends = goes_on;
            taken_is = counted ∙ ap (λ (l : List ℕ). taken + length l) (sym all);
            input = λ told. came told ∙ ap (λ (l : List ℕ). given ++ l) (sym all);
            output = output;
            written_is = wrote;
            goes_out = says;
            at_end = ends;
          }

      -- its reply went out
      pub replied_to : (tells : Type 0) (given given' written written' left' : List ℕ)
          → (tells → given' ≡ given ++ message) → (tells → written' ≡ written ++ said)
          → Turns does holds score_of s s' old new tells given given' written written' left' taken
          taken' failure failure' (Ok tt)
      replied_to tells given given' written written' left' came wrote =
          turned tells given given' written written' left' said (Ok tt) came refl wrote
          (sym (append-nil said)) (λ told. tt)

      -- a part of it did
      pub replied_in_part : (tells : Bool) (given given' written written' left' : List ℕ)
          → (IsTrue tells → given' ≡ given ++ message)
          → (IsTrue tells → AppendsPrefix written written' said)
          → Turns does holds score_of s s' old new (IsTrue tells) given given' written written' left'
          taken taken' failure failure' (Err WriteFault)
      replied_in_part tells given given' written written' left' came wrote =
          elim (cases_Bool tells) [
            | inl a ↦ let part = wrote a in
                turned (IsTrue tells) given given' written written' left' (take part.0 said)
                (Err WriteFault) came refl (λ told. part.1)
                (drop part.0 said, sym (take-append-drop part.0 said)) (λ told. tt)
            | inr a ↦ turned (IsTrue tells) given given' written written' left' [] (Err WriteFault)
                came refl (λ told. absurd (let no : tells ≡ true = told in cc)) (said, refl)
                (λ told. tt)
          ]
