-- Messages that were answered, and one more.
use Rattle.std.proofs.Common.{◌≡◌, ◌+◌, ◌++◌, ℕ, Option, None, Ok, Err, List, [], ◌∷◌, length, refl, sym, ◌∙◌, ap, subst, append-nil, append_assoc, length-append}
use Rattle.std.specs.Prelude.{map}
use Rattle.std.specs.Option.{option_or}
use Rattle.std.proofs.lemmas.Grind.{flat_map-append}
use Rattle.vt_session.specs.Talk.{EndsInLast}
use Rattle.vt_tree.specs.Calls.{Call}
use Rattle.vt_tree.specs.Maps.{Maps}
use Rattle.vac_read.specs.declared.error.VacBad.{VacBad}
use Rattle.nine_view.specs.declared.serving.Ended.{Ended}
use Rattle.nine_view.specs.declared.serving.Ended.TheVariants.{Closed, Cut, Malformed, Spent, ReadFault, WriteFault, NoMemory}
use Rattle.nine_view.specs.Known.{ViewState, limit}
use Rattle.nine_view.specs.Serving.{EndsSo, GoesOut, ServesConnection, AnswersInTurn, MessageTurn, Turns, came_in, first_failure, said_in}
use Rattle.nine_view.proofs.Talking.{failure_more, talks_more}

-- a part of the last piece went out, behind one more
ends_behind : (piece : List ℕ) (pieces : List (List ℕ)) (output : List ℕ)
    → EndsInLast pieces output → EndsInLast (piece ∷ pieces) (piece ++ output)
ends_behind piece [] output ends = absurd ends
ends_behind piece (next ∷ pieces) output ends = (output, refl, ends)

ends_more : (turns more : List MessageTurn) (output : List ℕ)
    → EndsInLast (map (λ turn. turn.said) more) output
    → EndsInLast (map (λ turn. turn.said) (turns ++ more)) (said_in turns ++ output)
ends_more [] more output ends = ends
ends_more (turn ∷ turns) more output ends =
    subst (λ (l : List ℕ). EndsInLast (map (λ t. t.said) (turn ∷ (turns ++ more))) l)
    (sym (append_assoc turn.said (said_in turns) output))
    (ends_behind turn.said (map (λ t. t.said) (turns ++ more)) (said_in turns ++ output)
    (ends_more turns more output ends))

said_more : (turns more : List MessageTurn) → said_in (turns ++ more) ≡ said_in turns ++ said_in more
said_more turns more = flat_map-append (λ turn. turn.said) turns more

pub came_more : (turns more : List MessageTurn) → came_in (turns ++ more) ≡ came_in turns ++ came_in more
came_more turns more = flat_map-append (λ turn. turn.message) turns more

goes_out_more : (ended : Ended) (turns more : List MessageTurn) (output : List ℕ)
    → GoesOut ended more output → GoesOut ended (turns ++ more) (said_in turns ++ output)
goes_out_more Closed turns more output out =
    ap (λ (l : List ℕ). said_in turns ++ l) out ∙ sym (said_more turns more)
goes_out_more Cut turns more output out =
    ap (λ (l : List ℕ). said_in turns ++ l) out ∙ sym (said_more turns more)
goes_out_more (Malformed at) turns more output out =
    ap (λ (l : List ℕ). said_in turns ++ l) out ∙ sym (said_more turns more)
goes_out_more Spent turns more output out =
    ap (λ (l : List ℕ). said_in turns ++ l) out ∙ sym (said_more turns more)
goes_out_more ReadFault turns more output out =
    ap (λ (l : List ℕ). said_in turns ++ l) out ∙ sym (said_more turns more)
goes_out_more WriteFault turns more output out = ends_more turns more output out
goes_out_more NoMemory turns more output out =
    ap (λ (l : List ℕ). said_in turns ++ l) out ∙ sym (said_more turns more)

-- what was served so far
pub record ServesSoFar {S : Type 0} (does : S → Call → S → Type 0) (holds : S → Maps → Type 0)
    (score_of : List ℕ → List ℕ) (s s' : S) (old new : ViewState) (tells : Type 0)
    (given given' written written' : List ℕ) (taken : ℕ) (failure : Option VacBad) : Type 0 where
  pub turns : List MessageTurn
  pub talks : AnswersInTurn does holds score_of s old turns s' new
  pub failure_is : failure ≡ first_failure turns
  pub taken_is : taken ≡ length (came_in turns)
  pub input : tells → given' ≡ given ++ came_in turns
  pub output : tells → written' ≡ written ++ said_in turns

-- memory was short for it
pub serves_nothing : {S : Type 0} (does : S → Call → S → Type 0) (holds : S → Maps → Type 0)
    (score_of : List ℕ → List ℕ) (s : S) (known : ViewState) (tells : Type 0)
    (given written left : List ℕ)
    → ServesConnection does holds score_of s s known known tells given given written written left NoMemory 0
    None
serves_nothing does holds score_of s known tells given written left = record {
  turns = [];
  talks = (refl, refl);
  failure_is = refl;
  rest = [];
  ends = (refl, refl);
  taken_is = refl;
  input = λ told. sym (append-nil given);
  output = [];
  written_is = λ told. sym (append-nil written);
  goes_out = refl;
  at_end = λ told. tt;
}

module _ {S : Type 0} (does : S → Call → S → Type 0) (holds : S → Maps → Type 0)
    (score_of : List ℕ → List ℕ) (a b c : S) (u v w : ViewState) (tells : Type 0)
    (given given' given'' written written' written'' left' : List ℕ) (taken taken' : ℕ)
    (failure failure' : Option VacBad)
    (so : ServesSoFar does holds score_of a b u v tells given given' written written' taken failure)
  where
    came_on : (turns : List MessageTurn) (rest : List ℕ)
        → came_in so.turns ++ (came_in turns ++ rest) ≡ came_in (so.turns ++ turns) ++ rest
    came_on turns rest =
        sym (append_assoc (came_in so.turns) (came_in turns) rest)
        ∙ ap (λ (l : List ℕ). l ++ rest) (sym (came_more so.turns turns))

    taken_on : (turns : List MessageTurn) (rest : List ℕ)
        → taken' ≡ taken + length (came_in turns ++ rest)
        → taken' ≡ length (came_in (so.turns ++ turns) ++ rest)
    taken_on turns rest is =
        is ∙ ap (λ (n : ℕ). n + length (came_in turns ++ rest)) so.taken_is
        ∙ sym (length-append (came_in so.turns) (came_in turns ++ rest))
        ∙ ap (λ (l : List ℕ). length l) (came_on turns rest)

    input_on : (turns : List MessageTurn) (rest : List ℕ)
        → (tells → given'' ≡ given' ++ (came_in turns ++ rest)) → tells
        → given'' ≡ given ++ (came_in (so.turns ++ turns) ++ rest)
    input_on turns rest is told =
        is told ∙ ap (λ (l : List ℕ). l ++ (came_in turns ++ rest)) (so.input told)
        ∙ append_assoc given (came_in so.turns) (came_in turns ++ rest)
        ∙ ap (λ (l : List ℕ). given ++ l) (came_on turns rest)

    output_on : (output : List ℕ) → (tells → written'' ≡ written' ++ output) → tells
        → written'' ≡ written ++ (said_in so.turns ++ output)
    output_on output is told =
        is told ∙ ap (λ (l : List ℕ). l ++ output) (so.output told)
        ∙ append_assoc written (said_in so.turns) output

    failure_on : (turns : List MessageTurn) → failure' ≡ option_or failure (first_failure turns)
        → failure' ≡ first_failure (so.turns ++ turns)
    failure_on turns is =
        is ∙ ap (λ (o : Option VacBad). option_or o (first_failure turns)) so.failure_is
        ∙ sym (failure_more so.turns turns)

    -- one more message was answered
    pub serves_more : (t : Turns does holds score_of b c v w tells given' given'' written' written''
        left' taken taken' failure failure' (Ok tt))
        → ServesSoFar does holds score_of a c u w tells given given'' written written'' taken'
        failure'
    serves_more t =
        let all : came_in (so.turns ++ t.turns) ++ t.rest ≡ came_in (so.turns ++ t.turns) =
        ap (λ (l : List ℕ). came_in (so.turns ++ t.turns) ++ l) t.ends
        ∙ append-nil (came_in (so.turns ++ t.turns)) in
        record {
          turns = so.turns ++ t.turns;
          talks = talks_more does holds score_of so.turns t.turns a b c u v w so.talks t.talks;
          failure_is = failure_on t.turns t.failure_is;
          taken_is = taken_on t.turns t.rest t.taken_is ∙ ap (λ (l : List ℕ). length l) all;
          input = λ told. input_on t.turns t.rest t.input told
              ∙ ap (λ (l : List ℕ). given ++ l) all;
          output = λ told. output_on t.output t.written_is told
              ∙ ap (λ (l : List ℕ). written ++ (said_in so.turns ++ l)) t.goes_out
              ∙ ap (λ (l : List ℕ). written ++ l) (sym (said_more so.turns t.turns));
        }

    -- and then it ended
    pub serves_all : (ended : Ended)
        → (t : Turns does holds score_of b c v w tells given' given'' written' written'' left' taken
        taken' failure failure' (Err ended))
        → ServesConnection does holds score_of a c u w tells given given'' written written'' left' ended taken'
        failure'
    serves_all ended t =
        let place : taken + length (came_in t.turns) ≡ length (came_in (so.turns ++ t.turns)) =
        ap (λ (n : ℕ). n + length (came_in t.turns)) so.taken_is
        ∙ sym (length-append (came_in so.turns) (came_in t.turns))
        ∙ ap (λ (l : List ℕ). length l) (sym (came_more so.turns t.turns)) in
        record {
          turns = so.turns ++ t.turns;
          talks = talks_more does holds score_of so.turns t.turns a b c u v w so.talks t.talks;
          failure_is = failure_on t.turns t.failure_is;
          rest = t.rest;
          ends = subst (λ (n : ℕ). EndsSo ended (limit w) n t.rest) place t.ends;
          taken_is = taken_on t.turns t.rest t.taken_is;
          input = input_on t.turns t.rest t.input;
          output = said_in so.turns ++ t.output;
          written_is = output_on t.output t.written_is;
          goes_out = goes_out_more ended so.turns t.turns t.output t.goes_out;
          at_end = t.at_end;
        }
