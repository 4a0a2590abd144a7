-- What the steps of a walk tell (where names lead: Walks.antt).
use Rattle.std.specs.Prelude.{ℕ, ◌≡◌, ◌≢◌, ◌<◌, ◌^◌, map, false, Option, Some, None, Result, Ok, Err, List, [], length}
use Rattle.std.specs.List.{AllByRecursion}
use Rattle.std.specs.Str.{bytes_eq}
use Rattle.vt_tree.specs.Maps.{BlockMap}
use Rattle.vac_read.specs.declared.error.VacBad.{VacBad}
use Rattle.vac_read.specs.declared.error.VacBad.TheVariants.{NoMemory}
use Rattle.vac_read.specs.Broken.{IsUnfound}
use Rattle.vac_read.specs.Reading.{AnswersOrTells}
use Rattle.nine_wire.specs.declared.stat.Qid as wire
use Rattle.nine_wire.specs.Messages.{Qid, r_walk}
use Rattle.nine_wire.specs.Views.{wire_qid}
use Rattle.nine_view.specs.declared.error.AnswerError.{AnswerError}
use Rattle.nine_view.specs.declared.error.AnswerError.TheVariants.{Refused, Failed}
use Rattle.nine_view.specs.declared.place.Place.{Place}
use Rattle.nine_view.specs.declared.request_error.RequestError.{RequestError}
use Rattle.nine_view.specs.declared.walking.Walked.{Walked}
use Rattle.nine_view.specs.Answers.{of_fid, to_walk, to_names, refused_answer}
use Rattle.nine_view.specs.Files.{FitsMessage}
use Rattle.nine_view.specs.Handling.{Says}
use Rattle.nine_view.specs.Known.{ViewState}
use Rattle.nine_view.specs.Walks.{Walk, Walks, IsLost, StepsTo, dots}

-- the item and those above it fit a message
pub record IsToldPlace (at : Place) : Type 0 where
  pub node : FitsMessage at.node
  pub above : AllByRecursion FitsMessage at.above

-- the numbers of files have room in a message
abbrev pub AreQids : List wire.Qid → Type 0
AreQids qids = AllByRecursion (λ q. q.path < 2 ^ 64) (map wire_qid qids)

-- the qids on the way were told, or, where there are none, why the first name leads nowhere
abbrev pub EndsShort : (tag limit : ℕ) → (out : List ℕ) → Result ℕ AnswerError → (qids : List Qid)
    → RequestError → Type 0
EndsShort tag limit out (Ok len) qids why = (qids ≢ []) × Says tag limit out len (r_walk qids)
EndsShort tag limit out (Err denied) qids why = (qids ≡ []) × (denied ≡ Refused why)

-- a walk of these names begins there, or is refused
abbrev pub MayWalk : ViewState → (fid newfid names : ℕ) → Result Place AnswerError → Type 0
MayWalk known fid newfid names (Ok at) =
    (words : List (List ℕ)) → length words ≡ names
    → of_fid known fid (to_walk known fid newfid words) ≡ to_names newfid at words
MayWalk known fid newfid names (Err (Refused why)) =
    (words : List (List ℕ)) → length words ≡ names
    → of_fid known fid (to_walk known fid newfid words) ≡ refused_answer known why
MayWalk known fid newfid names (Err (Failed bad)) =
    (bad ≡ NoMemory) × ((words : List (List ℕ)) → length words ≡ names
    → (at : Place) × (of_fid known fid (to_walk known fid newfid words) ≡ to_names newfid at words))

-- Why it can't be told where one name leads.
abbrev pub StepIsLost : BlockMap → Place → (name : List ℕ) → VacBad → Type 0
StepIsLost map at name bad =
    (bytes_eq name dots ≡ false) × IsUnfound map at.node.stored name bad

-- where one name leads from here, or why that can't be told
abbrev pub TellsStep : Place → (name : List ℕ) → Result (Result Place RequestError) VacBad
    → BlockMap
    → Type 0
TellsStep at name result map = AnswersOrTells result (StepsTo map at name) (StepIsLost map at name)

-- why it can't be told, if it can't
abbrev pub failure_of : {X : Type 0} → Result X VacBad → Option VacBad
failure_of (Ok x) = None
failure_of (Err bad) = Some bad

-- a walk in memory, as contracts see it
abbrev pub walk_of : Walked → Walk
walk_of walked = record { qids = map wire_qid walked.qids.items; end = walked.end }

-- where the names lead from here, or why that can't be told
abbrev pub TellsWalk : Place → (names : List (List ℕ)) → Result Walked VacBad → BlockMap → Type 0
TellsWalk from names result map =
    AnswersOrTells result (λ walked. Walks map (Ok from) names (walk_of walked))
    (IsLost map (Ok from) names)
