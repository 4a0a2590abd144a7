-- Lists that are worked off from their front.
use Rattle.std.proofs.Common.{◌≡◌, ◌+◌, List, [], ◌∷◌, ◌++◌, length, reverse, sym, ◌∙◌, ap, subst, arith, length-append, append_assoc}
use Rattle.std.specs.List.{AllZip}
use Rattle.std.proofs.lemmas.List.{append-nil, length-reverse, reverse-append, reverse-reverse}
use Rattle.vt_recover.proofs.Zips.{zip_length, zip_push}

-- The first of all of them have theirs, and the others are left, the last one first.
pub record IsSplitAt {X Y : Type 0} (R : X → Y → Type 0) (all : List X) (made : List Y) (left : List X) : Type 0 where
  pub done : List X
  pub split : all ≡ done ++ reverse left
  pub zip : AllZip R done made

pub split_none : {X Y : Type 0} (R : X → Y → Type 0) (all left : List X) → left ≡ reverse all → IsSplitAt R all [] left
split_none R all left is = record { done = []; split = sym (reverse-reverse all) ∙ ap reverse (sym is); zip = tt }

-- one more
pub split_more : {X Y : Type 0} (R : X → Y → Type 0) (all : List X) (made : List Y) (left rest : List X) (x : X) (y : Y) → left ≡ rest ++ x ∷ [] → R x y
    → IsSplitAt R all made left → IsSplitAt R all (made ++ y ∷ []) rest
split_more R all made left rest x y is here it = record {
  done = it.done ++ x ∷ [];
  split = it.split ∙ ap (λ l. it.done ++ reverse l) is ∙ ap (λ l. it.done ++ l) (reverse-append rest (x ∷ [])) ∙ sym (append_assoc it.done (x ∷ []) (reverse rest));
  zip = zip_push R it.done made x y it.zip here;
}

-- all of them
pub split_all : {X Y : Type 0} (R : X → Y → Type 0) (all : List X) (made : List Y) (left : List X) → left ≡ [] → IsSplitAt R all made left → AllZip R all made
split_all R all made left none it =
    let whole : all ≡ it.done = it.split ∙ ap (λ l. it.done ++ reverse l) none ∙ append-nil it.done in
    subst (λ l. AllZip R l made) (sym whole) it.zip

-- how many
pub split_many : {X Y : Type 0} (R : X → Y → Type 0) (all : List X) (made : List Y) (left : List X) → IsSplitAt R all made left → length made + length left ≡ length all
split_many R all made left it =
    omega (arith, ap length it.split, length-append it.done (reverse left), length-reverse left, zip_length R it.done made it.zip)

-- which one comes next
pub split_at : {X Y : Type 0} (R : X → Y → Type 0) (all : List X) (made : List Y) (left rest : List X) (x : X) → left ≡ rest ++ x ∷ [] → (it : IsSplitAt R all made left)
    → all ≡ it.done ++ x ∷ reverse rest
split_at R all made left rest x is it = it.split ∙ ap (λ l. it.done ++ reverse l) is ∙ ap (λ l. it.done ++ l) (reverse-append rest (x ∷ []))
