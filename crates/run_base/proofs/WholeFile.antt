-- The front of a file that is the whole of it, or isn't.
use Rattle.std.proofs.Common.{◌≡◌, ℕ, ◌+◌, ◌<◌, ◌≤◌, min, List, length, take, ◌∙◌, ap, arith}
use Rattle.std.proofs.lemmas.List.{length-take, take_all}

-- what is longer than the limit is a front of a longer file
pub too_long : (limit : ℕ) (file text : List ℕ) → text ≡ take (limit + 1) file → limit < length text → limit < length file
too_long limit file text is long =
    let same : length text ≡ min (limit + 1) (length file) = ap length is ∙ length-take (limit + 1) file in
    omega (arith, same, long)

pub whole : (limit : ℕ) (file text : List ℕ) → text ≡ take (limit + 1) file → length text ≤ limit → text ≡ file
whole limit file text is short =
    let same : length text ≡ min (limit + 1) (length file) = ap length is ∙ length-take (limit + 1) file in
    is ∙ take_all (limit + 1) file (omega (arith, same, short))
