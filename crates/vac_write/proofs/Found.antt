-- What stands at a path of a folder, by the items of the folder in order.
use Rattle.std.proofs.Common.{◌≡◌, ℕ, Bool, true, false, cond, Option, Some, None, List, [], ◌∷◌, ◌++◌, refl, sym, ◌∙◌, ap, subst, inl, inr, nat_cmp, is_lt}
use Rattle.std.specs.Option.{option_and_then, option_map}
use Rattle.std.specs.Cmp.Lexicographic.{slice_cmp}
use Rattle.std.specs.Str.{bytes_eq}
use Rattle.std.proofs.lemmas.Bool.{cases_Bool, false≢true}
use Rattle.std.proofs.lemmas.Slice.Eq.{bytes_eq-Decides}
use Rattle.vt_out.specs.declared.folder_item.Facts.{Facts}
use Rattle.vt_out.specs.FolderItems.{Items, none, file, folder, other, bytes_of, inside_of, folder_at, file_at}
use Rattle.vac_model.specs.Kept.{placed, in_order}
use Rattle.vac_model.proofs.Names.{Below, not_both}

-- ---- by a path

and_then_some : {A : Type 0} (o : Option A) → option_and_then (λ x. Some x) o ≡ o
and_then_some None = refl
and_then_some (Some x) = refl

-- what stands below a folder that was found
pass_on : {A : Type 0} (at : Items Facts → Option (Items Facts)) (then : Items Facts → Option A)
    (out : Option A) (seen : Items Facts)
    → ((inside : Items Facts) → at inside ≡ Some seen → then inside ≡ out)
    → (found : Option (Items Facts)) → option_and_then at found ≡ Some seen
    → option_and_then then found ≡ out
pass_on at then out seen each None there = let never : ⊥ = cc in absurd never
pass_on at then out seen each (Some inside) there = each inside there

-- what is below the folder that stands at a path is found by its name
pub folder_found : (path : List (List ℕ)) (name : List ℕ) (held : Items Facts)
    (seen : Items Facts) → folder_at path held ≡ Some seen
    → folder_at (path ++ name ∷ []) held ≡ inside_of name seen
folder_found [] name held seen there =
    let same : held ≡ seen = cc in
    and_then_some (inside_of name held) ∙ ap (inside_of name) same
folder_found (first ∷ path) name held seen there =
    pass_on (folder_at path) (folder_at (path ++ name ∷ [])) (inside_of name seen) seen
    (λ inside at. folder_found path name inside seen at) (inside_of first held) there

pub file_found : (path : List (List ℕ)) (name : List ℕ) (held : Items Facts) (seen : Items Facts)
    → folder_at path held ≡ Some seen → file_at (path ++ name ∷ []) held ≡ bytes_of name seen
file_found [] name held seen there =
    let same : held ≡ seen = cc in ap (bytes_of name) same
file_found (first ∷ []) name held seen there =
    pass_on (folder_at []) (file_at (name ∷ [])) (bytes_of name seen) seen
    (λ inside at. file_found [] name inside seen at) (inside_of first held) there
file_found (first ∷ (next ∷ path)) name held seen there =
    pass_on (folder_at (next ∷ path)) (file_at (next ∷ (path ++ name ∷ []))) (bytes_of name seen)
    seen (λ inside at. file_found (next ∷ path) name inside seen at) (inside_of first held) there

-- ---- in the order of names

-- a name isn't below itself
pub other_name : (a b n : List ℕ) → Below a b → bytes_eq b n ≡ true → bytes_eq a n ≡ false
other_name a b n below same = elim (cases_Bool (bytes_eq a n)) [
  | inr differ ↦ differ
  | inl equal ↦
      let left : a ≡ n = (bytes_eq-Decides a n).0 equal in
      let right : b ≡ n = (bytes_eq-Decides b n).0 same in
      let one : a ≡ b = left ∙ sym right in
      let itself : Below b b = subst (λ (x : List ℕ). Below x b) one below in
      absurd (false≢true (sym (not_both b b itself) ∙ itself))
]

-- which of two of other names is asked for first makes no difference
swapped : {A : Type 0} (s t : Bool) (x y : A) (o : Option A) → (t ≡ true → s ≡ false)
    → cond s (Some x) (cond t (Some y) o) ≡ cond t (Some y) (cond s (Some x) o)
swapped true true x y o apart = absurd (false≢true (sym (apart refl)))
swapped true false x y o apart = refl
swapped false true x y o apart = refl
swapped false false x y o apart = refl

module _ (n : List ℕ) where
  placed_bytes : (name : List ℕ) (put : Items Facts → Items Facts)
      (head : Option (List ℕ) → Option (List ℕ)) (items : Items Facts)
      → ((rest : Items Facts) → bytes_of n (put rest) ≡ head (bytes_of n rest))
      → ((before b : List ℕ) (o : Option (List ℕ)) → Below before name
      → cond (bytes_eq before n) (Some b) (head o) ≡ head (cond (bytes_eq before n) (Some b) o))
      → bytes_of n (placed name put items) ≡ head (bytes_of n items)
  placed_bytes name put head none puts moves = puts none
  placed_bytes name put head (file about b others) puts moves =
      elim (cases_Bool (is_lt (slice_cmp nat_cmp about.name name))) [
        | inl less ↦
            rw less (ap (λ (o : Option (List ℕ)). cond (bytes_eq about.name n) (Some b) o)
            (placed_bytes name put head others puts moves)
            ∙ moves about.name b (bytes_of n others) less)
        | inr not ↦ rw not (puts (file about b others))
      ]
  placed_bytes name put head (folder about inside others) puts moves =
      elim (cases_Bool (is_lt (slice_cmp nat_cmp about.name name))) [
        | inl less ↦ rw less (placed_bytes name put head others puts moves)
        | inr not ↦ rw not (puts (folder about inside others))
      ]
  placed_bytes name put head (other about others) puts moves =
      elim (cases_Bool (is_lt (slice_cmp nat_cmp about.name name))) [
        | inl less ↦ rw less (placed_bytes name put head others puts moves)
        | inr not ↦ rw not (puts (other about others))
      ]

  pub bytes_in_order : (seen : Items Facts) → bytes_of n (in_order seen) ≡ bytes_of n seen
  bytes_in_order none = refl
  bytes_in_order (file about bytes others) =
      placed_bytes about.name (file about bytes)
      (λ (o : Option (List ℕ)). cond (bytes_eq about.name n) (Some bytes) o) (in_order others)
      (λ rest. refl)
      (λ before b o below. swapped (bytes_eq before n) (bytes_eq about.name n) b bytes o
      (λ same. other_name before about.name n below same))
      ∙ ap (λ (o : Option (List ℕ)). cond (bytes_eq about.name n) (Some bytes) o)
      (bytes_in_order others)
  bytes_in_order (folder about inside others) =
      placed_bytes about.name (folder about (in_order inside)) (λ (o : Option (List ℕ)). o)
      (in_order others) (λ rest. refl) (λ before b o below. refl)
      ∙ bytes_in_order others
  bytes_in_order (other about others) =
      placed_bytes about.name (other about) (λ (o : Option (List ℕ)). o) (in_order others)
      (λ rest. refl) (λ before b o below. refl)
      ∙ bytes_in_order others

  placed_inside : (name : List ℕ) (put : Items Facts → Items Facts)
      (head : Option (Items Facts) → Option (Items Facts)) (items : Items Facts)
      → ((rest : Items Facts) → inside_of n (put rest) ≡ head (inside_of n rest))
      → ((before : List ℕ) (i : Items Facts) (o : Option (Items Facts)) → Below before name
      → cond (bytes_eq before n) (Some i) (head o) ≡ head (cond (bytes_eq before n) (Some i) o))
      → inside_of n (placed name put items) ≡ head (inside_of n items)
  placed_inside name put head none puts moves = puts none
  placed_inside name put head (file about b others) puts moves =
      elim (cases_Bool (is_lt (slice_cmp nat_cmp about.name name))) [
        | inl less ↦ rw less (placed_inside name put head others puts moves)
        | inr not ↦ rw not (puts (file about b others))
      ]
  placed_inside name put head (folder about inside others) puts moves =
      elim (cases_Bool (is_lt (slice_cmp nat_cmp about.name name))) [
        | inl less ↦
            rw less (ap (λ (o : Option (Items Facts)).
            cond (bytes_eq about.name n) (Some inside) o)
            (placed_inside name put head others puts moves)
            ∙ moves about.name inside (inside_of n others) less)
        | inr not ↦ rw not (puts (folder about inside others))
      ]
  placed_inside name put head (other about others) puts moves =
      elim (cases_Bool (is_lt (slice_cmp nat_cmp about.name name))) [
        | inl less ↦ rw less (placed_inside name put head others puts moves)
        | inr not ↦ rw not (puts (other about others))
      ]

  map_cond : (t : Bool) (i : Items Facts) (o : Option (Items Facts))
      → cond t (Some (in_order i)) (option_map in_order o)
      ≡ option_map in_order (cond t (Some i) o)
  map_cond true i o = refl
  map_cond false i o = refl

  pub inside_in_order : (seen : Items Facts)
      → inside_of n (in_order seen) ≡ option_map in_order (inside_of n seen)
  inside_in_order none = refl
  inside_in_order (file about bytes others) =
      placed_inside about.name (file about bytes) (λ (o : Option (Items Facts)). o)
      (in_order others) (λ rest. refl) (λ before i o below. refl)
      ∙ inside_in_order others
  inside_in_order (folder about inside others) =
      placed_inside about.name (folder about (in_order inside))
      (λ (o : Option (Items Facts)). cond (bytes_eq about.name n) (Some (in_order inside)) o)
      (in_order others) (λ rest. refl)
      (λ before i o below. swapped (bytes_eq before n) (bytes_eq about.name n) i
      (in_order inside) o (λ same. other_name before about.name n below same))
      ∙ ap (λ (o : Option (Items Facts)).
      cond (bytes_eq about.name n) (Some (in_order inside)) o) (inside_in_order others)
      ∙ map_cond (bytes_eq about.name n) inside (inside_of n others)
  inside_in_order (other about others) =
      placed_inside about.name (other about) (λ (o : Option (Items Facts)). o) (in_order others)
      (λ rest. refl) (λ before i o below. refl)
      ∙ inside_in_order others
