-- What is held, and what collides, by the blocks' numbers.
use Rattle.std.proofs.Common.{◌≡◌, ◌≢◌, ◌⊎◌, inl, inr, ℕ, Bool, true, false, cond, not, ◌&&◌, ◌||◌, List, [], ◌++◌, take, drop, Option, Some, None, refl, sym, ◌∙◌, ap, subst}
use Rattle.std.specs.Prelude.{find, slice_get}
use Rattle.std.specs.List.{list_any, AllPairs}
use Rattle.std.specs.Option.{option_map, option_or}
use Rattle.std.specs.Str.{bytes_eq}
use Rattle.std.proofs.lemmas.Bool.{cases_Bool, true≢false, false_from_ne_true, not-false, not-true, not_from_false, or_left, or_right, or_cases}
use Rattle.std.proofs.lemmas.Bool.Decides.{Decides-eqb}
use Rattle.std.proofs.lemmas.Slice.Eq.{bytes_eq-Decides}
use Rattle.std.proofs.lemmas.List.{take-append-drop}
use Rattle.std.proofs.lemmas.List.Folds.{find-append}
use Rattle.vt_model.specs.History.{History, Accepted, held, has_key, HasScoreAt, HasKeyAt}
use Rattle.vt_model.specs.Answer.{collides}
use Rattle.vt_model.specs.Legal.{HasOtherKey, NoCollision}
use Rattle.vt_model.proofs.Lists.{test_false, and_true, right_false, both_false, both_true, find_passes, list_any_passes, none_passes, list_any-none, list_any-from_find, find-none}
use Rattle.vt_model.proofs.Keys.{same_block, one_place, one_bytes}
use Rattle.vt_model.proofs.Held.{bytes_of}

-- ---- what is held

module _ (score : List ℕ → List ℕ) (h : History) where
  key_passes : (s : List ℕ) (kind : ℕ) (e : Accepted) → score e.block.bytes ≡ s
      → e.block.kind ≡ kind → has_key score s kind e ≡ true
  key_passes s kind e score_is kind_is =
      and_true _ _ ((bytes_eq-Decides (score e.block.bytes) s).1 score_is)
      ((Decides-eqb e.block.kind kind).1 kind_is)

  -- a block that passes has the key
  abbrev key_at : (i : ℕ) (s : List ℕ) (kind : ℕ) (e : Accepted) → slice_get h i ≡ Some e
      → has_key score s kind e ≡ true → HasKeyAt score h i s kind
  key_at i s kind e at passes =
      let both = both_true _ _ passes in
      record {
        block = e;
        stands = at;
        score_is = (bytes_eq-Decides (score e.block.bytes) s).0 both.0;
        kind_is = (Decides-eqb e.block.kind kind).0 both.1;
      }

  -- where nothing is found, no block has the key
  none_has : (i : ℕ) (s : List ℕ) (kind : ℕ) → find (has_key score s kind) h ≡ None
      → ¬ HasKeyAt score h i s kind
  none_has i s kind none it =
      let p = has_key score s kind in
      true≢false
      (sym (key_passes s kind it.block it.score_is it.kind_is)
      ∙ none_passes p h i it.block (list_any-from_find p h none) it.stands)

  -- but for the zero score it is what is found
  held-found : (s : List ℕ) (kind : ℕ) → s ≢ score []
      → held score h s kind ≡ option_map bytes_of (find (has_key score s kind) h)
  held-found s kind nonzero =
      ap (λ b. cond b (Some []) (option_map bytes_of (find (has_key score s kind) h)))
      (test_false _ (bytes_eq-Decides s (score [])).0 nonzero)

  pub held-zero : (kind : ℕ) → held score h (score []) kind ≡ Some []
  held-zero kind =
      ap (λ b. cond b (Some []) (option_map bytes_of (find (has_key score (score []) kind) h)))
      ((bytes_eq-Decides (score []) (score [])).1 refl)

  pub held-at : (i : ℕ) (s : List ℕ) (kind : ℕ) → AllPairs (HasOtherKey score) h → s ≢ score []
      → (it : HasKeyAt score h i s kind) → held score h s kind ≡ Some it.block.block.bytes
  held-at i s kind keys nonzero it =
      held-found s kind nonzero ∙ by (find (has_key score s kind) h) refl
    where
      by : (o : Option Accepted) → find (has_key score s kind) h ≡ o
          → option_map bytes_of o ≡ Some it.block.block.bytes
      by None none = absurd (none_has i s kind none it)
      by (Some e) found =
          let at = find_passes (has_key score s kind) h e found in
          let its = key_at at.0 s kind e at.1 at.2 in
          let place = one_place score h keys at.0 i e it.block at.1 it.stands
          (its.score_is ∙ sym it.score_is) (its.kind_is ∙ sym it.kind_is) in
          ap (λ (e : Accepted). Some e.block.bytes)
          (same_block h at.0 i e it.block place at.1 it.stands)

  pub held-none : (s : List ℕ) (kind : ℕ) → s ≢ score []
      → ((i : ℕ) → ¬ HasKeyAt score h i s kind) → held score h s kind ≡ None
  held-none s kind nonzero none =
      held-found s kind nonzero
      ∙ ap (option_map bytes_of) (find-none (has_key score s kind) h (λ i e at.
      test_false _ (λ passes. key_at i s kind e at passes) (none i)))

  pub held-by : (s : List ℕ) (kind : ℕ) (bytes : List ℕ) → s ≢ score []
      → held score h s kind ≡ Some bytes
      → (i : ℕ) × (it : HasKeyAt score h i s kind) × (it.block.block.bytes ≡ bytes)
  held-by s kind bytes nonzero is =
      by (find (has_key score s kind) h) refl (sym (held-found s kind nonzero) ∙ is)
    where
      by : (o : Option Accepted) → find (has_key score s kind) h ≡ o
          → option_map bytes_of o ≡ Some bytes
          → (i : ℕ) × (it : HasKeyAt score h i s kind) × (it.block.block.bytes ≡ bytes)
      by None none is = absurd (cc)
      by (Some e) found is =
          let at = find_passes (has_key score s kind) h e found in
          let same : Some e.block.bytes ≡ Some bytes = is in
          (at.0, key_at at.0 s kind e at.1 at.2, cc)

  pub held-absent : (i : ℕ) (s : List ℕ) (kind : ℕ) → held score h s kind ≡ None
      → ¬ HasKeyAt score h i s kind
  held-absent i s kind none it = elim (cases_Bool (bytes_eq s (score []))) [
    | inl zero ↦
        let some : Some [] ≡ None = sym (with zero) ∙ none in
        cc
    | inr nonzero ↦ none_found (find (has_key score s kind) h) refl (sym (with nonzero) ∙ none)
  ]
    where
      with : {b : Bool} → bytes_eq s (score []) ≡ b → held score h s kind
          ≡ cond b (Some []) (option_map bytes_of (find (has_key score s kind) h))
      with is = ap (λ b. cond b (Some []) (option_map bytes_of (find (has_key score s kind) h))) is

      none_found : (o : Option Accepted) → find (has_key score s kind) h ≡ o
          → option_map bytes_of o ≡ None → ⊥
      none_found None is none = none_has i s kind is it
      none_found (Some e) is none = cc

held_kept : (zero : Bool) (o more : Option Accepted) (bytes : List ℕ)
    → cond zero (Some []) (option_map bytes_of o) ≡ Some bytes
    → cond zero (Some []) (option_map bytes_of (option_or o more)) ≡ Some bytes
held_kept true o more bytes is = is
held_kept false None more bytes is = absurd (cc)
held_kept false (Some e) more bytes is = is

pub held-longer : (score : List ℕ → List ℕ) (h more : History) (s : List ℕ) (kind : ℕ)
    (bytes : List ℕ) → held score h s kind ≡ Some bytes
    → held score (h ++ more) s kind ≡ Some bytes
held-longer score h more s kind bytes is =
    let p : Accepted → Bool = has_key score s kind in
    ap (λ o. cond (bytes_eq s (score [])) (Some []) (option_map bytes_of o)) (find-append p h more)
    ∙ held_kept (bytes_eq s (score [])) (find p h) (find p more) bytes is

pub held-first : (score : List ℕ → List ℕ) (h : History) (n : ℕ) (s : List ℕ) (kind : ℕ)
    (bytes : List ℕ) → held score (take n h) s kind ≡ Some bytes → held score h s kind ≡ Some bytes
held-first score h n s kind bytes is =
    subst (λ g. held score g s kind ≡ Some bytes) (take-append-drop n h)
    (held-longer score (take n h) (drop n h) s kind bytes is)

-- ---- what collides

module _ (score : List ℕ → List ℕ) (h : History) (bytes : List ℕ) where
  -- a block of the score that has other bytes
  abbrev clashes : Accepted → Bool
  clashes e = bytes_eq (score e.block.bytes) (score bytes) && not (bytes_eq e.block.bytes bytes)

  clash_passes : (e : Accepted) → score e.block.bytes ≡ score bytes → e.block.bytes ≢ bytes
      → clashes e ≡ true
  clash_passes e same other =
      and_true _ _ ((bytes_eq-Decides (score e.block.bytes) (score bytes)).1 same)
      (not_from_false _ (test_false _ (bytes_eq-Decides e.block.bytes bytes).0 other))

  no_clash : (e : Accepted) → clashes e ≡ false → score e.block.bytes ≡ score bytes
      → e.block.bytes ≡ bytes
  no_clash e none same =
      (bytes_eq-Decides e.block.bytes bytes).0
      (not-false _ (right_false _ _
      ((bytes_eq-Decides (score e.block.bytes) (score bytes)).1 same) none))

  pub collides-zero : score bytes ≡ score [] → collides score h bytes ≡ true
  collides-zero zero = or_left _ _ ((bytes_eq-Decides (score bytes) (score [])).1 zero)

  pub collides-other : (i : ℕ) (it : HasScoreAt score h i (score bytes))
      → it.block.block.bytes ≢ bytes → collides score h bytes ≡ true
  collides-other i it other = or_right _ _ (elim (cases_Bool (list_any clashes h)) [
    | inl some ↦ some
    | inr none ↦ absurd (true≢false
        (sym (clash_passes it.block it.score_is other)
        ∙ none_passes clashes h i it.block none it.stands))
  ])

  -- where each block of the score has the bytes
  free_of : score bytes ≢ score []
      → ((i : ℕ) (it : HasScoreAt score h i (score bytes)) → it.block.block.bytes ≡ bytes)
      → collides score h bytes ≡ false
  free_of nonzero same =
      let zero = test_false _ (bytes_eq-Decides (score bytes) (score [])).0 nonzero in
      let none = list_any-none clashes h (λ i e at. false_from_ne_true (clashes e) (λ clash.
      let both = both_true _ _ clash in
      let has : HasScoreAt score h i (score bytes) = record {
        block = e;
        stands = at;
        score_is = (bytes_eq-Decides (score e.block.bytes) (score bytes)).0 both.0;
      } in
      true≢false
      (sym ((bytes_eq-Decides e.block.bytes bytes).1 (same i has)) ∙ not-true _ both.1))) in
      ap (λ b. b || list_any clashes h) zero ∙ none

  pub collides-same : (i : ℕ) (it : HasScoreAt score h i (score bytes))
      → AllPairs (NoCollision score) h → score bytes ≢ score [] → it.block.block.bytes ≡ bytes
      → collides score h bytes ≡ false
  collides-same i it scores nonzero is =
      free_of nonzero (λ j its. one_bytes score h scores j i its.block it.block its.stands it.stands
      (its.score_is ∙ sym it.score_is) ∙ is)

  pub collides-none : score bytes ≢ score [] → ((i : ℕ) → ¬ HasScoreAt score h i (score bytes))
      → collides score h bytes ≡ false
  collides-none nonzero none = free_of nonzero (λ i it. absurd (none i it))

  pub collides-by : collides score h bytes ≡ true → (score bytes ≡ score [])
      ⊎ ((i : ℕ) × (it : HasScoreAt score h i (score bytes)) × (it.block.block.bytes ≢ bytes))
  collides-by is = elim (or_cases _ _ is) [
    | inl zero ↦ inl ((bytes_eq-Decides (score bytes) (score [])).0 zero)
    | inr any ↦
        let at = list_any_passes clashes h any in
        let both = both_true _ _ at.3 in
        inr (
          at.0,
          record {
            block = at.1;
            stands = at.2;
            score_is = (bytes_eq-Decides (score at.1.block.bytes) (score bytes)).0 both.0;
          },
          λ same. true≢false
              (sym ((bytes_eq-Decides at.1.block.bytes bytes).1 same) ∙ not-true _ both.1),
        )
  ]

  pub collides-free : collides score h bytes ≡ false → (score bytes ≢ score [])
      × ((i : ℕ) (it : HasScoreAt score h i (score bytes)) → it.block.block.bytes ≡ bytes)
  collides-free is =
      let both = both_false _ _ is in (
        λ zero. true≢false (sym ((bytes_eq-Decides (score bytes) (score [])).1 zero) ∙ both.0),
        λ i it. no_clash it.block (none_passes clashes h i it.block both.1 it.stands) it.score_is,
      )
