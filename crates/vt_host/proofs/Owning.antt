-- Who owns what, line by line.
use Rattle.std.proofs.Common.{◌≡◌, inl, inr, ℕ, ◌<◌, List, [], ◌∷◌, ◌++◌, length, refl, sym, ◌∙◌, ap, subst, arith, append_assoc, append-nil}
use Rattle.std.specs.List.{after_first, before_first}
use Rattle.vt_host.specs.Cutting.{is_byte, pieces}
use Rattle.vt_host.specs.Owning.{AreOwners, NamesOwner}
use Rattle.vt_host.specs.declared.owners.Owner.{Owner}
use Rattle.vt_host.proofs.Cutting.{pieces_first}

-- the first line that is left
abbrev pub line_of : List ℕ → List ℕ
line_of rest = before_first (is_byte 10) rest

-- the lines behind it
abbrev pub lines_behind : List ℕ → List (List ℕ)
lines_behind rest = pieces (is_byte 10) (after_first (is_byte 10) rest)

-- a line that names an owner
pub line_names : (rest : List ℕ) → 0 < length rest → (owner : Owner)
    → NamesOwner (line_of rest) owner → (others : List Owner)
    → AreOwners (lines_behind rest) others
    → AreOwners (pieces (is_byte 10) rest) (owner ∷ others)
line_names [] some owner named others are = absurd (omega (arith, some))
line_names (b ∷ rest) some owner named others are =
    subst (λ (lines : List (List ℕ)). AreOwners lines (owner ∷ others))
    (sym (pieces_first (is_byte 10) b rest)) (inl (owner, others, refl, named, are))

-- a line that names nobody
pub line_skipped : (rest : List ℕ) → 0 < length rest
    → ((owner : Owner) → ¬ NamesOwner (line_of rest) owner) → (others : List Owner)
    → AreOwners (lines_behind rest) others → AreOwners (pieces (is_byte 10) rest) others
line_skipped [] some none others are = absurd (omega (arith, some))
line_skipped (b ∷ rest) some none others are =
    subst (λ (lines : List (List ℕ)). AreOwners lines others)
    (sym (pieces_first (is_byte 10) b rest)) (inr (none, are))

module _ (lines : List (List ℕ)) (items : List Owner) (rest line behind : List ℕ)
    (some : 0 < length rest) (first : line ≡ line_of rest)
    (others_behind : behind ≡ after_first (is_byte 10) rest)
    (so_far : (others : List Owner) → AreOwners (pieces (is_byte 10) rest) others
    → AreOwners lines (items ++ others)) where
  -- the owners so far, and the one that the next line names
  pub next_named : (owner : Owner) (pushed : List Owner) → NamesOwner line owner
      → pushed ≡ items ++ owner ∷ [] → (others : List Owner)
      → AreOwners (pieces (is_byte 10) behind) others → AreOwners lines (pushed ++ others)
  next_named owner pushed named pushes others are =
      let here : NamesOwner (line_of rest) owner
      = subst (λ (l : List ℕ). NamesOwner l owner) first named in
      let others_are : AreOwners (lines_behind rest) others
      = subst (λ (l : List ℕ). AreOwners (pieces (is_byte 10) l) others) others_behind are in
      subst (λ (l : List Owner). AreOwners lines l)
      (sym (ap (λ (l : List Owner). l ++ others) pushes ∙ append_assoc items (owner ∷ []) others))
      (so_far (owner ∷ others) (line_names rest some owner here others others_are))

  -- the next line names nobody
  pub next_skipped : ((owner : Owner) → ¬ NamesOwner line owner) → (others : List Owner)
      → AreOwners (pieces (is_byte 10) behind) others → AreOwners lines (items ++ others)
  next_skipped none others are =
      let here : (owner : Owner) → ¬ NamesOwner (line_of rest) owner
      = subst (λ (l : List ℕ). (owner : Owner) → ¬ NamesOwner l owner) first none in
      let others_are : AreOwners (lines_behind rest) others
      = subst (λ (l : List ℕ). AreOwners (pieces (is_byte 10) l) others) others_behind are in
      so_far others (line_skipped rest some here others others_are)

-- behind the last line
pub none_left : (lines : List (List ℕ)) (items : List Owner) (rest : List ℕ) → rest ≡ []
    → ((others : List Owner) → AreOwners (pieces (is_byte 10) rest) others
    → AreOwners lines (items ++ others)) → AreOwners lines items
none_left lines items rest empty so_far = subst (λ (l : List Owner). AreOwners lines l)
    (append-nil items)
    (so_far [] (subst (λ (l : List ℕ). AreOwners (pieces (is_byte 10) l) []) (sym empty) refl))
