-- How many bytes a message may have.
use Rattle.std.proofs.Common.{◌≡◌, ◌≤◌, ℕ, Option, Some, None, subst, arith}
use Rattle.std.specs.Prelude.{IfSome, unwrap_or}
use Rattle.nine_view.specs.Kept.{IsKeptView, IsMessageSize}
use Rattle.nine_view.specs.Known.{ViewState, limit}

least : (msize : Option ℕ) → IfSome msize IsMessageSize → 256 ≤ unwrap_or msize 65536
least None is = omega arith
least (Some n) is = is.least

most : (msize : Option ℕ) → IfSome msize IsMessageSize → unwrap_or msize 65536 ≤ 65536
most None is = omega arith
most (Some n) is = is.most

pub least_limit : (known : ViewState) → IsKeptView known → 256 ≤ limit known
least_limit known kept = least known.msize kept.msize

pub most_limit : (known : ViewState) → IsKeptView known → limit known ≤ 65536
most_limit known kept = most known.msize kept.msize

pub least_agreed : (known : ViewState) (msize : ℕ) → IsKeptView known → known.msize ≡ Some msize
    → 256 ≤ msize
least_agreed known msize kept agreed =
    (subst (λ (o : Option ℕ). IfSome o IsMessageSize) agreed kept.msize).least

pub most_agreed : (known : ViewState) (msize : ℕ) → IsKeptView known → known.msize ≡ Some msize
    → msize ≤ 65536
most_agreed known msize kept agreed =
    (subst (λ (o : Option ℕ). IfSome o IsMessageSize) agreed kept.msize).most
