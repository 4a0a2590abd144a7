-- Bytes that are taken into the front of a buffer.
use Rattle.std.proofs.Common.{◌≡◌, ◌+◌, ◌≤◌, ◌++◌, ℕ, Bool, Result, Ok, List, length, take, sym, ◌∙◌, ap, subst, arith}
use Rattle.std.proofs.Math.Seq.{take-append-add}
use Rattle.std.proofs.lemmas.List.{length-take-le, take-append-le, take_all}
use Rattle.nine_view.specs.declared.serving.Ended.{Ended}
use Rattle.nine_view.specs.Hearing.{FillsBuffer, LeavesNone, StopsSo}

-- the front of a buffer, and what was moved behind it
pub taken_behind : (n more : ℕ) (buf part behind : List ℕ) → n ≤ length buf → more ≤ length part
    → take (n + more) (take n buf ++ (part ++ behind)) ≡ take n buf ++ take more part
taken_behind n more buf part behind within few =
    ap (λ (k : ℕ). take (k + more) (take n buf ++ (part ++ behind)))
    (sym (length-take-le n buf within))
    ∙ take-append-add (take n buf) (part ++ behind) more
    ∙ ap (λ (l : List ℕ). take n buf ++ l) (take-append-le more part behind few)

-- the front itself is kept
pub front_kept : (n : ℕ) (buf behind : List ℕ) → n ≤ length buf
    → take n (take n buf ++ behind) ≡ take n buf
front_kept n buf behind within =
    let len = length-take-le n buf within in
    take-append-le n (take n buf) behind (omega arith)
    ∙ take_all n (take n buf) (omega arith)

pub fills_so : (tells : Type 0) (given given' left' : List ℕ) (taken taken' have : ℕ)
    (inside : Bool) (buffer : List ℕ) (result : Result (Unit {0}) Ended) → have ≤ length buffer
    → (tells → given' ≡ given ++ take have buffer) → taken' ≡ taken + have
    → StopsSo result inside have (length buffer) taken' → (tells → LeavesNone result left')
    → FillsBuffer tells given given' left' taken taken' inside buffer result
fills_so tells given given' left' taken taken' have inside buffer result within came is stops end =
    let len : length (take have buffer) ≡ have = length-take-le have buffer within in
    record {
      came = take have buffer;
      given_is = came;
      taken_is = is ∙ ap (λ (n : ℕ). taken + n) (sym len);
      stands = ap (λ (n : ℕ). take n buffer) len;
      stops = subst (λ (n : ℕ). StopsSo result inside n (length buffer) taken') (sym len) stops;
      at_end = end;
    }

-- where all that was wanted came, it is the buffer
pub whole_of : (tells : Type 0) (given given' left' : List ℕ) (taken taken' : ℕ) (inside : Bool)
    (buffer : List ℕ) → (so : FillsBuffer tells given given' left' taken taken' inside buffer (Ok tt))
    → so.came ≡ buffer
whole_of tells given given' left' taken taken' inside buffer so =
    sym so.stands ∙ ap (λ (n : ℕ). take n buffer) so.stops
    ∙ take_all (length buffer) buffer (omega arith)
