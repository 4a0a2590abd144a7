use Rattle.std.proofs.Common.{◌≡◌, ◌≢◌, ℕ, List, get_or, take, ⊎_elim, sym, subst, arith}
use Rattle.std.specs.List.{Contains}
use Rattle.std.proofs.lemmas.List.{get_or_default, take_more, take_all}
use Rattle.std.proofs.lemmas.List.Elements.{Contains-push_cases}
use Rattle.vt_isect.specs.declared.groups.Member.{Member}
use Rattle.vt_isect.proofs.groups.member_of.Goals as goal

pub loop-member-init : goal.loop-member-init
loop-member-init c = λ m has. absurd (omega (arith, has.1))

pub loop-member-preserved : goal.loop-member-preserved
loop-member-preserved c =
    let xs : List Member = c.args.group.now in
    let i : ℕ = c.loop-member.member-index in
    let other : (d : Member) → (get_or xs i d).bucket ≢ c.args.bucket =
    λ d. subst (λ (x : Member). x.bucket ≢ c.args.bucket) (get_or_default xs i (record { bucket = 0; current = 0 }) d c.loop-member-test.true) c.if-member-bucket.false in
    λ m has. ⊎_elim
    (λ (was : Contains (take i xs) m). c.loop-member.invariant m was)
    (λ (is : get_or xs i m ≡ m). subst (λ (x : Member). x.bucket ≢ c.args.bucket) is (other m))
    (Contains-push_cases (take i xs) (get_or xs i m) m (subst (λ (l : List Member). Contains l m) (take_more xs i m c.loop-member-test.true) has))

pub returns-clause-none : goal.returns-clause-none
returns-clause-none c = λ m is has. c.loop-member.invariant m
    (subst (λ (l : List Member). Contains l m) (sym (take_all c.loop-member.member-index c.args.group.now c.loop-member-test.false)) has)
