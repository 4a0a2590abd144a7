-- Pieces of a list that were moved to the front of a buffer.
use Rattle.std.proofs.Common.{◌≡◌, ◌≤◌, ℕ, ◌+◌, List, ◌++◌, length, take, drop, sym, ap, ◌∙◌}
use Rattle.std.proofs.lemmas.List.{take-append-drop, take-append-le, drop-append-le, drop-drop}
use Rattle.std.proofs.Math.Seq.{take-add}

-- what was moved comes before what is left
pub moved : (xs part behind : List ℕ) (at n : ℕ) → n ≤ length part
    → take n part ≡ take n (drop at xs)
    → drop at xs ≡ take n (part ++ behind) ++ drop (at + n) xs
moved xs part behind at n within same =
    sym (take-append-drop n (drop at xs))
    ∙ (λ i. (sym (take-append-le n part behind within ∙ same)) i ++ drop-drop n at xs i)

-- and goes behind what was taken before
pub came : (xs part behind : List ℕ) (at n : ℕ) → n ≤ length part
    → take n part ≡ take n (drop at xs)
    → take (at + n) xs ≡ take at xs ++ take n (part ++ behind)
came xs part behind at n within same =
    take-add at n xs
    ∙ ap (λ (l : List ℕ). take at xs ++ l) (sym (take-append-le n part behind within ∙ same))

-- the rest of the buffer is as it was
pub rest_of : (part buf : List ℕ) (n room : ℕ) → n ≤ length part → n ≤ length (take room buf)
    → drop n part ≡ drop n (take room buf) → drop n (part ++ drop room buf) ≡ drop n buf
rest_of part buf n room within front same =
    drop-append-le n part (drop room buf) within
    ∙ ap (λ (l : List ℕ). l ++ drop room buf) same
    ∙ sym (drop-append-le n (take room buf) (drop room buf) front)
    ∙ ap (drop n) (take-append-drop room buf)
