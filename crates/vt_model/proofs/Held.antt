-- What is held once a block was added.
use Rattle.std.proofs.Common.{◌≡◌, ◌≢◌, ℕ, Bool, true, false, cond, List, [], ◌∷◌, ◌++◌, Some, None, refl, sym, ◌∙◌, ap, subst}
use Rattle.std.specs.Prelude.{find, is_some}
use Rattle.std.specs.Str.{bytes_eq}
use Rattle.std.specs.Option.{option_map, option_or}
use Rattle.std.proofs.lemmas.Bool.Decides.{Decides-eqb}
use Rattle.std.proofs.lemmas.Slice.Eq.{bytes_eq-Decides}
use Rattle.std.proofs.lemmas.List.Folds.{find-append}
use Rattle.vt_model.specs.History.{History, Accepted, held, has_key}
use Rattle.vt_model.proofs.Lists.{test_false, and_false_left, and_false_right, and_true, option_or-none, none_from_is_some-option_map, find_push}

abbrev pub bytes_of : Accepted → List ℕ
bytes_of e = e.block.bytes

module _ (score : List ℕ → List ℕ) (h : History) where
  held_after : (e : Accepted) (s : List ℕ) (kind : ℕ) → has_key score s kind e ≡ false
      → held score (h ++ e ∷ []) s kind ≡ held score h s kind
  held_after e s kind other =
      let p : Accepted → Bool = has_key score s kind in
      let same : find p (h ++ e ∷ []) ≡ find p h =
      find-append p h (e ∷ []) ∙ ap (λ b. option_or (find p h) (cond b (Some e) None)) other
      ∙ option_or-none (find p h) in
      ap (λ o. cond (bytes_eq s (score [])) (Some []) (option_map bytes_of o)) same

  pub held-other_score : (e : Accepted) (s : List ℕ) (kind : ℕ) → s ≢ score e.block.bytes
      → held score (h ++ e ∷ []) s kind ≡ held score h s kind
  held-other_score e s kind other =
      let not_this =
      test_false _ (bytes_eq-Decides (score e.block.bytes) s).0 (λ q. other (sym q)) in
      held_after e s kind (and_false_left _ _ not_this)

  pub held-other_kind : (e : Accepted) (s : List ℕ) (kind : ℕ) → kind ≢ e.block.kind
      → held score (h ++ e ∷ []) s kind ≡ held score h s kind
  held-other_kind e s kind other =
      let not_this = test_false _ (Decides-eqb e.block.kind kind).0 (λ q. other (sym q)) in
      held_after e s kind (and_false_right _ _ not_this)

  -- a score that isn't the zero score is held where a block has it
  pub find_none : (s : List ℕ) (kind : ℕ) → bytes_eq s (score []) ≡ false
      → is_some (held score h s kind) ≡ false → find (has_key score s kind) h ≡ None
  find_none s kind nonzero none =
      let found = find (has_key score s kind) h in
      let P : Bool → Type 0 = λ b. is_some (cond b (Some []) (option_map bytes_of found)) ≡ false in
      none_from_is_some-option_map bytes_of found (subst P nonzero none)

  pub held_push : (e : Accepted) → let s = score e.block.bytes in
      bytes_eq s (score []) ≡ false → find (has_key score s e.block.kind) h ≡ None
      → held score (h ++ e ∷ []) s e.block.kind ≡ Some e.block.bytes
  held_push e nonzero none =
      let s = score e.block.bytes in
      let p : Accepted → Bool = has_key score s e.block.kind in
      let here : p e ≡ true =
      and_true _ _ ((bytes_eq-Decides s s).1 refl)
      ((Decides-eqb e.block.kind e.block.kind).1 refl) in
      ap (λ b. cond b (Some []) (option_map bytes_of (find p (h ++ e ∷ [])))) nonzero
      ∙ ap (option_map bytes_of) (find_push p h e none here)
