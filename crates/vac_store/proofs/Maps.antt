-- What a history holds behind a write that the model takes in.
use Rattle.std.proofs.Common.{◌≡◌, ℕ, Bool, true, false, cond, Option, Some, None, List, [], ◌∷◌, ◌++◌, length, refl, sym, ◌∙◌, ap, subst}
use Rattle.std.specs.Prelude.{◌==◌, find, is_some, nat_lt, nat_le, not}
use Rattle.std.specs.Option.{option_map, option_or}
use Rattle.std.specs.Str.{bytes_eq}
use Rattle.std.proofs.lemmas.Bool.{and_parts, eqb-true}
use Rattle.std.proofs.lemmas.List.{nil_from_length}
use Rattle.std.proofs.lemmas.List.Folds.{find-append}
use Rattle.std.proofs.lemmas.Slice.Eq.{bytes_eq-Decides}
use Rattle.vt_base.specs.Kind.{is_kind}
use Rattle.vt_base.specs.Protocol.{write, r_write}
use Rattle.vt_base.specs.declared.TheConstants.{MAX_BLOCK}
use Rattle.vt_model.specs.Answer.{Outcome, adds, answer, collides, with_added}
use Rattle.vt_model.specs.History.{Accepted, Block, History, has_key, held}
use Rattle.vt_model.specs.Places.{Setup, next_arena, crowd, bucket_of, bucket_count}
use Rattle.vt_model.specs.declared.TheConstants.{BUCKET_ROOM}
use Rattle.vt_tree.specs.MapLaws.{Same, is_key}
use Rattle.vt_tree.specs.Maps.{with_block}
use Rattle.vt_use.specs.Blocks.{written_to}

-- with a block more
added_map : (score : List ℕ → List ℕ) (h : History) (e : Accepted)
    → Same (held score (h ++ e ∷ [])) (with_block score e.block (held score h))
added_map score h e s kind =
    ap (λ (o : Option Accepted). cond (bytes_eq s (score [])) (Some [])
    (option_map (λ (x : Accepted). x.block.bytes) o)) (find-append (has_key score s kind) h (e ∷ []))
    ∙ either (bytes_eq s (score [])) (find (has_key score s kind) h) (has_key score s kind e)
  where
    either : (z : Bool) (a : Option Accepted) (t : Bool)
        → cond z (Some [])
        (option_map (λ (x : Accepted). x.block.bytes) (option_or a (cond t (Some e) None)))
        ≡ option_or (cond z (Some []) (option_map (λ (x : Accepted). x.block.bytes) a))
        (cond t (Some e.block.bytes) None)
    either true a t = refl
    either false (Some x) t = refl
    either false None true = refl
    either false None false = refl

-- with a block whose score and type it has
kept_map : (score : List ℕ → List ℕ) (h : History) (b : Block)
    → is_some (held score h (score b.bytes) b.kind) ≡ true
    → Same (held score h) (with_block score b (held score h))
kept_map score h b there s kind = of (is_key score b s kind) refl
  where
    first : (o : Option (List ℕ)) → is_some o ≡ true → o ≡ option_or o (Some b.bytes)
    first (Some x) some = refl
    first None some = let never : ⊥ = cc in absurd never

    alone : (o : Option (List ℕ)) → o ≡ option_or o None
    alone (Some x) = refl
    alone None = refl

    of : (t : Bool) → is_key score b s kind ≡ t
        → held score h s kind
        ≡ option_or (held score h s kind) (cond (is_key score b s kind) (Some b.bytes) None)
    of true is =
        let two = and_parts _ _ is in
        let same_score = (bytes_eq-Decides (score b.bytes) s).0 two.0 in
        let same_kind = eqb-true b.kind kind two.1 in
        first (held score h s kind) (subst (λ (k : ℕ). is_some (held score h s k) ≡ true) same_kind
        (subst (λ (x : List ℕ). is_some (held score h x b.kind) ≡ true) same_score there))
        ∙ ap (λ (t : Bool). option_or (held score h s kind) (cond t (Some b.bytes) None)) (sym is)
    of false is =
        alone (held score h s kind)
        ∙ ap (λ (t : Bool). option_or (held score h s kind) (cond t (Some b.bytes) None)) (sym is)

module _ (score : List ℕ → List ℕ) (c : Setup) (h : History) (b : Block) (given : List ℕ) where
  -- what it leaves, if its reply is a score
  abbrev Takes : Outcome → Type 0
  Takes o = o.reply ≡ r_write given
      → Same (held score (with_added h o.added)) (with_block score b (held score h))

  cases : (t : Bool) (x y : Outcome) → (t ≡ true → Takes x) → (t ≡ false → Takes y)
      → Takes (cond t x y)
  cases true x y first then = first refl
  cases false x y first then = then refl

  added : (o : Option ℕ) → Takes (adds (score b.bytes) b.kind b.bytes o)
  added None is = let never : ⊥ = cc in absurd never
  added (Some arena) is = added_map score h (record { block = b; arena = arena })

  zero_held : (length b.bytes == 0) ≡ true → is_some (held score h (score b.bytes) b.kind) ≡ true
  zero_held zero =
      let empty = nil_from_length b.bytes (eqb-true (length b.bytes) 0 zero) in
      ap (λ (t : Bool). is_some (cond t (Some []) (option_map (λ (x : Accepted). x.block.bytes)
      (find (has_key score (score b.bytes) b.kind) h))))
      ((bytes_eq-Decides (score b.bytes) (score [])).1 (ap score empty))

  -- a block that was taken in is held, and all else is as it was
  pub taken_map : (answer score c h (write b.kind b.bytes)).reply ≡ r_write given
      → Same (held score (written_to score c h b.kind b.bytes)) (with_block score b (held score h))
  taken_map =
      cases (not (is_kind b.kind)) _ _ (λ t is. let never : ⊥ = cc in absurd never) (λ t.
      cases (nat_lt MAX_BLOCK (length b.bytes)) _ _ (λ t is. let never : ⊥ = cc in absurd never)
      (λ t.
      cases (length b.bytes == 0) _ _ (λ zero is. kept_map score h b (zero_held zero)) (λ t.
      cases (collides score h b.bytes) _ _ (λ t is. let never : ⊥ = cc in absurd never) (λ t.
      cases (is_some (held score h (score b.bytes) b.kind)) _ _
      (λ there is. kept_map score h b there) (λ t.
      cases (nat_le BUCKET_ROOM
      (crowd score (bucket_count c) h (bucket_of (bucket_count c) (score b.bytes)))) _ _
      (λ t is. let never : ⊥ = cc in absurd never) (λ t.
      added (next_arena c h (length b.bytes))))))))
