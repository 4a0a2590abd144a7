-- What a store of blocks was called for while an archive of it was served.
use Rattle.std.proofs.Common.{◌≡◌, ℕ, List, [], ◌∷◌, ◌++◌, Option, Some, None, Result, Ok, Err, sym, ◌∙◌, ap, subst}
use Rattle.std.specs.List.{AllByRecursion, cons_option}
use Rattle.std.specs.Option.{option_or}
use Rattle.vt_tree.specs.declared.error.BlockErr.{BlockErr}
use Rattle.vt_tree.specs.declared.error.TreeErr.TheVariants as trees
use Rattle.vt_tree.specs.Calls.{Call, IsGet, refusals_of}
use Rattle.vt_tree.specs.Making.{EndsBy, IsRefusedLast, Makes}
use Rattle.vt_tree.specs.Maps.{Maps}
use Rattle.vt_tree.proofs.Making.{makes_more, refusals_join}
use Rattle.vac_read.specs.declared.error.VacBad.{VacBad}
use Rattle.vac_read.specs.declared.error.VacBad.TheVariants.{Tree}
use Rattle.vac_read.specs.Reading.{refused_by}
use Rattle.nine_view.specs.declared.serving.Served.{Served}
use Rattle.nine_view.specs.Known.{ViewState}
use Rattle.nine_view.specs.Replies.{failed}
use Rattle.nine_view.specs.Serving.{AnswersInTurn, MessageTurn, first_failure}
use Rattle.vac_view.specs.Viewing.{Passed, ViewsArchive, calls_in_turn, calls_of_view, first_bad, unasked}

-- it was called so, and for blocks alone
pub record Gets {S : Type 0} (does : S → Call → S → Type 0) (s : S) (calls : List Call) (s' : S)
    : Type 0 where
  pub made : Makes does s calls s'
  pub gets : AllByRecursion IsGet calls

all_join : (xs ys : List Call) → AllByRecursion IsGet xs → AllByRecursion IsGet ys
    → AllByRecursion IsGet (xs ++ ys)
all_join [] ys first then = then
all_join (x ∷ xs) ys first then = (first.0, all_join xs ys first.1 then)

-- ---- the first refusal

-- the first of these calls that was refused was refused so
abbrev pub IsFirstOf : BlockErr → List Call → Type 0
IsFirstOf err calls = (rest : List BlockErr) × (refusals_of calls ≡ err ∷ rest)

first_behind : (err : BlockErr) (xs ys : List Call) → refusals_of xs ≡ [] → IsFirstOf err ys
    → IsFirstOf err (xs ++ ys)
first_behind err xs ys none it = (
  it.0,
  refusals_join xs ys
      ∙ ap (λ (errs : List BlockErr). errs ++ refusals_of ys) none ∙ it.1,
)

first_before : (err : BlockErr) (xs ys : List Call) → IsFirstOf err xs → IsFirstOf err (xs ++ ys)
first_before err xs ys it = (
  it.0 ++ refusals_of ys,
  refusals_join xs ys
      ∙ ap (λ (errs : List BlockErr). errs ++ refusals_of ys) it.1,
)

first_last : (err : BlockErr) (calls : List Call) → IsRefusedLast err calls → IsFirstOf err calls
first_last err calls it = (
  [],
  ap refusals_of it.are ∙ refusals_join it.before (it.last ∷ [])
      ∙ ap (λ (errs : List BlockErr). errs ++ refusals_of (it.last ∷ [])) it.accepted
      ∙ ap (λ (o : Option BlockErr). cons_option o []) it.refused,
)

-- ---- an archive

module _ {S : Type 0} (does : S → Call → S → Type 0) where
  gets_more : (a b c : S) (xs ys : List Call) → Gets does a xs b → Gets does b ys c
      → Gets does a (xs ++ ys) c
  gets_more a b c xs ys first then = record {
    made = makes_more does a b c xs ys first.made then.made;
    gets = all_join xs ys first.gets then.gets;
  }

  module _ (holds : S → Maps → Type 0) (score_of : List ℕ → List ℕ) where
    talk_gets : (turns : List MessageTurn) (s s' : S) (known known' : ViewState)
        → (it : AnswersInTurn does holds score_of s known turns s' known')
        → Gets does s (calls_in_turn does holds score_of turns s s' known known' it) s'
    talk_gets [] s s' known known' it = record { made = it.0; gets = tt }
    talk_gets (turn ∷ turns) s s' known known' it =
        gets_more s it.1.0 s' it.1.1.reads.calls
        (calls_in_turn does holds score_of turns it.1.0 s' turn.known known' it.1.2)
        (record { made = it.1.1.reads.made; gets = it.1.1.reads.gets })
        (talk_gets turns it.1.0 s' turn.known known' it.1.2)

    pub view_gets : (score : List ℕ) (p : Passed) (result : Result Served VacBad) (s s' : S)
        → (it : ViewsArchive does holds score_of score p result s s')
        → Gets does s (calls_of_view does holds score_of score p result s s' it) s'
    view_gets score p (Ok served) s s' it = gets_more s it.opened s' it.opens.calls
        (calls_in_turn does holds score_of it.serves.turns it.opened s' (unasked it.archive.top)
        it.known it.serves.talks)
        (record { made = it.opens.made; gets = it.opens.gets })
        (talk_gets it.serves.turns it.opened s' (unasked it.archive.top) it.known it.serves.talks)
    view_gets score p (Err bad) s s' it = record { made = it.made; gets = it.gets }

    -- the first message is answered so, or one behind it
    turn_first : (err : BlockErr) (failure later : Option VacBad) (xs ys : List Call)
        → EndsBy (refused_by (failed failure)) xs
        → (later ≡ Some (Tree (trees.Block err)) → IsFirstOf err ys)
        → option_or failure later ≡ Some (Tree (trees.Block err)) → IsFirstOf err (xs ++ ys)
    turn_first err None later xs ys ends more is = first_behind err xs ys ends (more is)
    turn_first err (Some bad) later xs ys ends more is =
        let same : bad ≡ Tree (trees.Block err) = cc in
        first_before err xs ys (first_last err xs
        (subst (λ (b : VacBad). EndsBy (refused_by (failed (Some b))) xs) same ends))

    talk_first : (err : BlockErr) (turns : List MessageTurn) (s s' : S) (known known' : ViewState)
        → (it : AnswersInTurn does holds score_of s known turns s' known')
        → first_failure turns ≡ Some (Tree (trees.Block err))
        → IsFirstOf err (calls_in_turn does holds score_of turns s s' known known' it)
    talk_first err [] s s' known known' it is = let never : ⊥ = cc in absurd never
    talk_first err (turn ∷ turns) s s' known known' it is =
        turn_first err turn.failure (first_failure turns) it.1.1.reads.calls
        (calls_in_turn does holds score_of turns it.1.0 s' turn.known known' it.1.2)
        it.1.1.reads.refused
        (λ told. talk_first err turns it.1.0 s' turn.known known' it.1.2 told) is

    pub view_first : (err : BlockErr) (score : List ℕ) (p : Passed)
        (result : Result Served VacBad) (s s' : S)
        → (it : ViewsArchive does holds score_of score p result s s')
        → first_bad result ≡ Some (Tree (trees.Block err))
        → IsFirstOf err (calls_of_view does holds score_of score p result s s' it)
    view_first err score p (Ok served) s s' it is =
        first_behind err it.opens.calls
        (calls_in_turn does holds score_of it.serves.turns it.opened s' (unasked it.archive.top)
        it.known it.serves.talks) it.opens.refused
        (talk_first err it.serves.turns it.opened s' (unasked it.archive.top) it.known
        it.serves.talks (sym it.serves.failure_is ∙ is))
    view_first err score p (Err bad) s s' it is =
        let same : bad ≡ Tree (trees.Block err) = cc in
        first_last err it.calls
        (subst (λ (b : VacBad). EndsBy (refused_by {X = Served} (Err b)) it.calls) same it.refused)
