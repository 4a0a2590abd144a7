-- What holds of a twin with a change under way, and of one without.
use Rattle.std.proofs.Common.{◌≡◌, ◌⊎◌, inl, inr, ⊎_elim, ℕ, ◌+◌, ◌≤◌, Bool, true, false, if◌then◌else◌, [], length, Option, Some, None, refl, sym, ◌∙◌, ap, subst, arith}
use Rattle.std.specs.Prelude.{IsSome}
use Rattle.std.specs.Option.{ForSome, option_map_or}
use Rattle.vt_twin.specs.Twin.{FrameChange, TwinState, twin_calls_made, calls_begun, after_call}

-- at most one call that was begun has failed
pub begun_bound : (t : TwinState) → calls_begun t ≤ twin_calls_made t + 1
begun_bound t = bound t.failed
  where
    bound : (b : Bool) → twin_calls_made t + (if b then 1 else 0) ≤ twin_calls_made t + 1
    bound true = omega arith
    bound false = omega arith

-- a selector's write that was begun is behind two calls
pub begun_made : (t : TwinState) → 3 ≤ calls_begun t → 2 ≤ twin_calls_made t
begun_made t begun = omega (arith, begun, begun_bound t)

-- with no change under way no call of one was made
pub none_made : (t : TwinState) → t.change ≡ None → twin_calls_made t ≡ 0
none_made t none = ap (λ (change : Option FrameChange). option_map_or (λ it. it.made) change 0) none

pub some_change : (change : Option FrameChange) → change ≡ None ⊎ IsSome change
some_change None = inl refl
some_change (Some it) = inr refl

pub some_none : (change : Option FrameChange) → IsSome change → change ≡ None → ⊥
some_none change some none = cc

-- a call that was made is one of a change
pub is_changing : (t : TwinState) → 1 ≤ twin_calls_made t → IsSome t.change
is_changing t made = ⊎_elim (λ none. absurd (omega (arith, made, none_made t none))) (λ some. some) (some_change t.change)

-- so is a selector's write that was begun
pub begun_some : (change : Option FrameChange) (failed : Bool)
    → 3 ≤ option_map_or (λ it. it.made) change 0 + (if failed then 1 else 0) → IsSome change
begun_some None true begun = absurd (omega arith)
begun_some None false begun = absurd (omega arith)
begun_some (Some it) failed begun = refl
