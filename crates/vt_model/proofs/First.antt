-- The first blocks of a history.
use Rattle.std.proofs.Common.{◌≡◌, ℕ, ◌-◌, ◌<◌, ◌≤◌, List, [], ◌∷◌, length, take, drop, get_or, refl, sym, ◌∙◌, ap, subst, arith, length-take}
use Rattle.std.specs.Prelude.{slice_get}
use Rattle.std.specs.Option.{option_map}
use Rattle.std.proofs.lemmas.List.{take-append-drop, take-take, get_or-take}
use Rattle.std.proofs.lemmas.Option.{slice_get-get_or, slice_get_within}
use Rattle.vt_model.specs.History.{History, Accepted, HasKeyAt}
use Rattle.vt_model.specs.Places.{Setup, last_arena, current_arena, place_of}
use Rattle.vt_model.specs.Legal.{IsLegal}
use Rattle.vt_model.proofs.Lists.{slice_get-take}
use Rattle.vt_model.proofs.Prefixes.{IsLegal-front}
use Rattle.vt_model.proofs.Adding.{last_arena_is, below_current}
use Rattle.vt_model.proofs.Spots.{spot_behind}

pub IsLegal-take : (score : List ℕ → List ℕ) (c : Setup) (h : History) (n : ℕ)
    → IsLegal score c h → IsLegal score c (take n h)
IsLegal-take score c h n legal =
    IsLegal-front score c (take n h) (drop n h)
    (subst (IsLegal score c) (sym (take-append-drop n h)) legal)

pub place_of-take : (c : Setup) (h : History) (n i : ℕ) → i < n
    → place_of c (take n h) i ≡ place_of c h i
place_of-take c h n i lt =
    ap (λ front. option_map (spot_behind c front) (slice_get (take n h) i))
    (take-take i n h (omega arith))
    ∙ ap (option_map (spot_behind c (take i h))) (slice_get-take n h i lt)

pub key_in_take : (score : List ℕ → List ℕ) (h : History) (n i : ℕ) (s : List ℕ) (kind : ℕ)
    → HasKeyAt score (take n h) i s kind → (i < n) × HasKeyAt score h i s kind
key_in_take score h n i s kind it =
    let within = slice_get_within (take n h) i it.block it.stands in
    let lt : i < n = omega (arith, within, length-take n h) in (
      lt,
      record {
        block = it.block;
        stands = sym (slice_get-take n h i lt) ∙ it.stands;
        score_is = it.score_is;
        kind_is = it.kind_is;
      },
    )

pub key_of_take : (score : List ℕ → List ℕ) (h : History) (n i : ℕ) (s : List ℕ) (kind : ℕ)
    → (i < n) × HasKeyAt score h i s kind → HasKeyAt score (take n h) i s kind
key_of_take score h n i s kind (lt, it) = record {
  block = it.block;
  stands = slice_get-take n h i lt ∙ it.stands;
  score_is = it.score_is;
  kind_is = it.kind_is;
}

pub current_arena-take : (score : List ℕ → List ℕ) (c : Setup) (h : History) (n : ℕ)
    → IsLegal score c h → current_arena c (take n h) ≤ current_arena c h
current_arena-take score c h n legal = omega (arith, last (take n h) refl)
  where
    last : (g : History) → take n h ≡ g → last_arena 0 g ≤ current_arena c h
    last [] is = omega arith
    last (x ∷ xs) is =
        let k = length (x ∷ xs) - 1 in
        let long : length (x ∷ xs) ≡ length (take n h) = ap (λ (g : History). length g) (sym is) in
        let lt : k < n = omega (arith, long, length-take n h) in
        let within : k < length h = omega (arith, long, length-take n h) in
        let at = last_arena_is 0 (x ∷ xs) (get_or (x ∷ xs) k x)
        (slice_get-get_or (x ∷ xs) k x (omega arith)) in
        let same = ap (λ (g : History). (get_or g k x).arena) (sym is)
        ∙ ap (λ (e : Accepted). e.arena) (get_or-take n h k x lt) in
        omega (arith, at, same, below_current c h legal.arenas k x within)
