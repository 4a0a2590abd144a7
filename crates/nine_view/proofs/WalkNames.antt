-- The names of a walk, one after another.
use Rattle.std.proofs.Common.{◌≡◌, ◌≢◌, ◌==◌, ◌≤◌, ◌<◌, ◌^◌, ◌++◌, ℕ, true, false, Option, Some, None, Result, Ok, Err, List, [], ◌∷◌, length, map, eqb-true, refl, sym, ◌∙◌, ap, subst, arith, append_assoc, append-nil, length-append}
use Rattle.std.specs.Prelude.{IfNone, IfSome, MatchOption}
use Rattle.std.specs.List.{AllByRecursion}
use Rattle.std.proofs.lemmas.List.{length-map, map-append}
use Rattle.vt_tree.proofs.Appending.{all_join}
use Rattle.nine_wire.specs.declared.stat.Qid as wire
use Rattle.nine_wire.specs.Messages.{Qid}
use Rattle.nine_wire.specs.Views.{wire_qid}
use Rattle.nine_view.specs.declared.place.Place.{Place}
use Rattle.nine_view.specs.declared.request_error.RequestError.{RequestError}
use Rattle.nine_view.specs.Files.{qid_of}
use Rattle.nine_view.specs.Walking.{AreQids}
use Rattle.nine_view.proofs.Steps.{qids_at}

-- ---- the names that are left

module _ {X : Type 0} (left : Option X) (here : X → List ℕ) (others : X → List (List ℕ)) where
  pub names_begin : (names : List (List ℕ)) → IfSome left (λ r. names ≡ here r ∷ others r)
      → IfNone left (names ≡ [])
      → MatchOption left (names ≡ []) (λ r. names ≡ [] ++ here r ∷ others r)
  names_begin names some none = begins left some none
    where
      begins : (o : Option X) → IfSome o (λ r. names ≡ here r ∷ others r)
          → IfNone o (names ≡ [])
          → MatchOption o (names ≡ []) (λ r. names ≡ [] ++ here r ∷ others r)
      begins None some none = none
      begins (Some r) some none = some

  pub names_on : (names front : List (List ℕ)) (name : List ℕ) (rest : List (List ℕ))
      → names ≡ front ++ name ∷ rest → IfSome left (λ r. rest ≡ here r ∷ others r)
      → IfNone left (rest ≡ [])
      → MatchOption left (names ≡ front ++ name ∷ [])
      (λ r. names ≡ (front ++ name ∷ []) ++ here r ∷ others r)
  names_on names front name rest at some none = goes_on left some none
    where
      goes_on : (o : Option X) → IfSome o (λ r. rest ≡ here r ∷ others r)
          → IfNone o (rest ≡ [])
          → MatchOption o (names ≡ front ++ name ∷ [])
          (λ r. names ≡ (front ++ name ∷ []) ++ here r ∷ others r)
      goes_on None some none = at ∙ ap (λ (l : List (List ℕ)). front ++ name ∷ l) none
      goes_on (Some r) some none =
          at ∙ ap (λ (l : List (List ℕ)). front ++ name ∷ l) some
          ∙ sym (append_assoc front (name ∷ []) (here r ∷ others r))

-- no name is left
pub names_end : {X : Type 0} (left : Option X) (P : Type 0) (Q : X → Type 0)
    → ((r : X) → left ≡ Some r → ⊥) → MatchOption left P Q → P
names_end None P Q none is = is
names_end (Some r) P Q none is = absurd (none r refl)

-- ---- the qids so far

not_reached : (end : Result Place RequestError) → ((at : Place) → end ≡ Ok at → ⊥) → qids_at end ≡ []
not_reached (Ok at) none = absurd (none at refl)
not_reached (Err why) none = refl

pub one_more : (old new : List wire.Qid) (q : wire.Qid) (end : Result Place RequestError) (at : Place)
    → new ≡ old ++ q ∷ [] → wire_qid q ≡ qid_of at.node → end ≡ Ok at
    → map wire_qid new ≡ map wire_qid old ++ qids_at end
one_more old new q end at more is reached =
    ap (λ (l : List wire.Qid). map wire_qid l) more
    ∙ map-append wire_qid old (q ∷ [])
    ∙ ap (λ (x : Qid). map wire_qid old ++ x ∷ []) is
    ∙ ap (λ (e : Result Place RequestError). map wire_qid old ++ qids_at e) (sym reached)

pub no_more : (old new : List wire.Qid) (end : Result Place RequestError) → new ≡ old
    → ((at : Place) → end ≡ Ok at → ⊥) → map wire_qid new ≡ map wire_qid old ++ qids_at end
no_more old new end same none =
    ap (λ (l : List wire.Qid). map wire_qid l) same
    ∙ sym (append-nil (map wire_qid old))
    ∙ ap (λ (l : List Qid). map wire_qid old ++ l) (sym (not_reached end none))

at_few : (end : Result Place RequestError) → length (qids_at end) ≤ 1
at_few (Ok at) = omega arith
at_few (Err why) = omega arith

pub few_more : (old new : List wire.Qid) (end : Result Place RequestError) (front : List (List ℕ))
    (name : List ℕ) → map wire_qid new ≡ map wire_qid old ++ qids_at end
    → length old ≤ length front → length new ≤ length (front ++ name ∷ [])
few_more old new end front name same few =
    let a = length-map new wire_qid in
    let b = length-map old wire_qid in
    let c = ap (λ (l : List Qid). length l) same in
    let d = length-append (map wire_qid old) (qids_at end) in
    let e = at_few end in
    let f = length-append front (name ∷ []) in
    omega arith

-- the numbers of the files that are reached have room
pub path_at : (end : Result Place RequestError) (at : Place) → end ≡ Ok at → at.node.qid < 2 ^ 64
    → AllByRecursion (λ q. q.path < 2 ^ 64) (qids_at end)
path_at end at reached small =
    subst (λ (e : Result Place RequestError). AllByRecursion (λ q. q.path < 2 ^ 64) (qids_at e))
    (sym reached) (small, tt)

pub no_path : (end : Result Place RequestError) → ((at : Place) → end ≡ Ok at → ⊥)
    → AllByRecursion (λ q. q.path < 2 ^ 64) (qids_at end)
no_path end none =
    subst (λ (l : List Qid). AllByRecursion (λ q. q.path < 2 ^ 64) l) (sym (not_reached end none)) tt

pub paths_more : (old new : List wire.Qid) (end : Result Place RequestError)
    → map wire_qid new ≡ map wire_qid old ++ qids_at end → AreQids old
    → AllByRecursion (λ q. q.path < 2 ^ 64) (qids_at end) → AreQids new
paths_more old new end same all last =
    subst (λ (l : List Qid). AllByRecursion (λ q. q.path < 2 ^ 64) l) (sym same)
    (all_join (λ (q : Qid). q.path < 2 ^ 64) (map wire_qid old) (qids_at end) all last)

pub no_qids : (qids : List wire.Qid) → (length qids == 0) ≡ true → map wire_qid qids ≡ []
no_qids [] none = refl
no_qids (q ∷ qids) none =
    absurd (let e = eqb-true (length (q ∷ qids)) 0 none in omega arith)

pub some_qids : (qids : List wire.Qid) → (length qids == 0) ≡ false → map wire_qid qids ≢ []
some_qids [] some = absurd (cc)
some_qids (q ∷ qids) some = λ is. cc
