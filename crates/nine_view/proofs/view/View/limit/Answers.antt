use Rattle.std.proofs.Common.{ℕ, Option, subst}
use Rattle.std.specs.Prelude.{IfSome}
use Rattle.nine_view.specs.Kept.{IsMessageSize}
use Rattle.nine_view.proofs.view.View.limit.Goals as goal

pub returns-in-Some-clause-least : goal.returns-in-Some-clause-least
returns-in-Some-clause-least c =
    (subst (λ (o : Option ℕ). IfSome o IsMessageSize) c.in-Some.is c.self.invariant.1.msize).least

pub returns-in-Some-clause-most : goal.returns-in-Some-clause-most
returns-in-Some-clause-most c =
    (subst (λ (o : Option ℕ). IfSome o IsMessageSize) c.in-Some.is c.self.invariant.1.msize).most
