-- A walk, one name further.
use Rattle.std.proofs.Common.{◌≡◌, ◌++◌, ℕ, true, false, Option, Some, None, Result, Ok, Err, List, [], ◌∷◌, refl, sym, ◌∙◌, ap, subst, inl, inr}
use Rattle.std.specs.Str.{bytes_eq}
use Rattle.std.proofs.lemmas.Bool.{cases_Bool}
use Rattle.vt_tree.specs.Maps.{BlockMap}
use Rattle.vac_read.specs.declared.error.VacBad.{VacBad}
use Rattle.vac_read.specs.declared.node.Node.{Node}
use Rattle.vac_read.specs.Nodes.{FindsNode}
use Rattle.nine_wire.specs.Messages.{Qid}
use Rattle.nine_view.specs.declared.place.Place.{Place}
use Rattle.nine_view.specs.declared.request_error.RequestError.{RequestError}
use Rattle.nine_view.specs.declared.request_error.RequestError.TheVariants.{NoDirectory}
use Rattle.nine_view.specs.Files.{is_folder, qid_of}
use Rattle.nine_view.specs.Known.{IsWay}
use Rattle.nine_view.specs.Walking.{StepIsLost}
use Rattle.nine_view.specs.Walks.{Walk, Walks, IsLost, StepsTo, dots, into, parent}

-- the qids of a place that was reached
abbrev pub qids_at : Result Place RequestError → List Qid
qids_at (Ok at) = qid_of at.node ∷ []
qids_at (Err why) = []

abbrev pub a_walk : List Qid → Result Place RequestError → Walk
a_walk qids end = record { qids = qids; end = end }

-- ---- one name

module _ (map : BlockMap) (at : Place) (name : List ℕ) where
  pub steps_from_file : is_folder at.node.stored ≡ false
      → StepsTo map at name (Err NoDirectory)
  steps_from_file file = rw file refl

  pub steps_up : is_folder at.node.stored ≡ true → bytes_eq name dots ≡ true
      → StepsTo map at name (Ok (parent at.node at.above))
  steps_up folder up = rw (folder, up) refl

  pub steps_into : is_folder at.node.stored ≡ true → bytes_eq name dots ≡ false
      → (found : Option Node) (next : Result Place RequestError)
      → FindsNode map at.node.stored name found → next ≡ into at found → StepsTo map at name next
  steps_into folder other found next finds is = rw (folder, other) (found, finds, is)

-- ---- one name behind others

module _ (map : BlockMap) (name : List ℕ) where
  walks_one : (from : Place) (next : Result Place RequestError) → StepsTo map from name next
      → Walks map (Ok from) (name ∷ []) (a_walk (qids_at next) next)
  walks_one from (Ok at) steps = (Ok at, a_walk [] (Ok at), steps, refl, refl)
  walks_one from (Err why) steps = (Err why, a_walk [] (Err why), steps, refl, refl)

  pub walks_more : (front : List (List ℕ)) (from : Place) (qids : List Qid) (at : Place)
      (next : Result Place RequestError) → Walks map (Ok from) front (a_walk qids (Ok at))
      → StepsTo map at name next
      → Walks map (Ok from) (front ++ name ∷ []) (a_walk (qids ++ qids_at next) next)
  walks_more [] from qids at next walks steps =
      let none : qids ≡ [] = ap (λ (w : Walk). w.qids) walks in
      let here : Ok at ≡ Ok from = ap (λ (w : Walk). w.end) walks in
      let same : at ≡ from = cc in
      subst (λ (l : List Qid). Walks map (Ok from) (name ∷ []) (a_walk (l ++ qids_at next) next))
      (sym none)
      (walks_one from next (subst (λ (p : Place). StepsTo map p name next) same steps))
  walks_more (word ∷ front) from qids at next (Err why, rest, first, others, is) steps =
      let end = ap (λ (w : Walk). w.end) (is ∙ others) in absurd (cc)
  walks_more (word ∷ front) from qids at next (Ok p, rest, first, others, is) steps =
      let end : Ok at ≡ rest.end = ap (λ (w : Walk). w.end) is in
      let told : qids ≡ qid_of p.node ∷ rest.qids = ap (λ (w : Walk). w.qids) is in
      let so : Walks map (Ok p) front (a_walk rest.qids (Ok at)) =
      subst (λ (e : Result Place RequestError). Walks map (Ok p) front (a_walk rest.qids e)) (sym end)
      others in (
        Ok p,
        a_walk (rest.qids ++ qids_at next) next,
        first,
        walks_more front p rest.qids at next so steps,
        ap (λ (l : List Qid). a_walk (l ++ qids_at next) next) told,
      )

  pub lost_on : (more front : List (List ℕ)) (from : Place) (qids : List Qid) (at : Place)
      (bad : VacBad) → Walks map (Ok from) front (a_walk qids (Ok at))
      → StepIsLost map at name bad → IsLost map (Ok from) (front ++ name ∷ more) bad
  lost_on more [] from qids at bad walks lost =
      let here : Ok at ≡ Ok from = ap (λ (w : Walk). w.end) walks in
      let same : at ≡ from = cc in
      inl (subst (λ (p : Place). StepIsLost map p name bad) same lost)
  lost_on more (word ∷ front) from qids at bad (Err why, rest, first, others, is) lost =
      let end = ap (λ (w : Walk). w.end) (is ∙ others) in absurd (cc)
  lost_on more (word ∷ front) from qids at bad (Ok p, rest, first, others, is) lost =
      let end : Ok at ≡ rest.end = ap (λ (w : Walk). w.end) is in
      let so : Walks map (Ok p) front (a_walk rest.qids (Ok at)) =
      subst (λ (e : Result Place RequestError). Walks map (Ok p) front (a_walk rest.qids e)) (sym end)
      others in
      inr (Ok p, first, lost_on more front p rest.qids at bad so lost)

-- where a name leads nowhere, those behind it aren't looked at
pub walks_no_further : (map : BlockMap) (more front : List (List ℕ)) (from : Result Place RequestError)
    (qids : List Qid) (why : RequestError) → Walks map from front (a_walk qids (Err why))
    → Walks map from (front ++ more) (a_walk qids (Err why))
walks_no_further map more front (Err other) qids why walks = walks
walks_no_further map more [] (Ok from) qids why walks =
    let end = ap (λ (w : Walk). w.end) walks in absurd (cc)
walks_no_further map more (word ∷ front) (Ok from) qids why (Err other, rest, first, others, is) =
    (Err other, rest, first, others, is)
walks_no_further map more (word ∷ front) (Ok from) qids why (Ok p, rest, first, others, is) =
    let end : Err why ≡ rest.end = ap (λ (w : Walk). w.end) is in
    let so : Walks map (Ok p) front (a_walk rest.qids (Err why)) =
    subst (λ (e : Result Place RequestError). Walks map (Ok p) front (a_walk rest.qids e)) (sym end)
    others in (
      Ok p,
      a_walk rest.qids (Err why),
      first,
      walks_no_further map more front (Ok p) rest.qids why so,
      is ∙ ap (λ (e : Result Place RequestError). a_walk (qid_of p.node ∷ rest.qids) e) (sym end),
    )

-- ---- ways

way_up : (map : BlockMap) (top node : Node) (above : List Node) → IsWay map top node above
    → IsWay map top (parent node above).node (parent node above).above
way_up map top node [] way = way
way_up map top node (up ∷ above) way = way.1

way_down : (map : BlockMap) (top : Node) (at : Place) (name : List ℕ) (found : Option Node)
    (to : Place) → IsWay map top at.node at.above → FindsNode map at.node.stored name found
    → Ok to ≡ into at found → IsWay map top to.node to.above
way_down map top at name None to way finds is = absurd (cc)
way_down map top at name (Some node) to way finds is =
    let same : to ≡ record { node = node; above = at.node ∷ at.above } = cc in
    subst (λ (p : Place). IsWay map top p.node p.above) (sym same) ((name, finds), way)

pub way_step : (map : BlockMap) (top : Node) (at to : Place) (name : List ℕ)
    → IsWay map top at.node at.above → StepsTo map at name (Ok to)
    → IsWay map top to.node to.above
way_step map top at to name way steps =
    elim (cases_Bool (is_folder at.node.stored)) [
      | inr a ↦ absurd (let e = rw a at steps in cc)
      | inl a ↦ elim (cases_Bool (bytes_eq name dots)) [
        | inl b ↦ let e = rw (a, b) at steps in
            let same : to ≡ parent at.node at.above = cc in
            subst (λ (p : Place). IsWay map top p.node p.above) (sym same)
            (way_up map top at.node at.above way)
        | inr b ↦ let e = rw (a, b) at steps in
            way_down map top at name e.0 to way e.1 e.2
      ]
    ]

-- where names lead from a place that has its way
pub way_on : (map : BlockMap) (top : Node) (names : List (List ℕ)) (from : Place)
    (qids : List Qid) (to : Place) → IsWay map top from.node from.above
    → Walks map (Ok from) names (a_walk qids (Ok to)) → IsWay map top to.node to.above
way_on map top [] from qids to way walks =
    let here : Ok to ≡ Ok from = ap (λ (w : Walk). w.end) walks in
    let same : to ≡ from = cc in
    subst (λ (p : Place). IsWay map top p.node p.above) (sym same) way
way_on map top (name ∷ names) from qids to way (Err why, rest, first, others, is) =
    let end = ap (λ (w : Walk). w.end) (is ∙ others) in absurd (cc)
way_on map top (name ∷ names) from qids to way (Ok p, rest, first, others, is) =
    let end : Ok to ≡ rest.end = ap (λ (w : Walk). w.end) is in
    let so : Walks map (Ok p) names (a_walk rest.qids (Ok to)) =
    subst (λ (e : Result Place RequestError). Walks map (Ok p) names (a_walk rest.qids e)) (sym end)
    others in
    way_on map top names p rest.qids to (way_step map top from p name way first) so
