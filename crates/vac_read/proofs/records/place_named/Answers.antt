use Rattle.std.proofs.Common.{◌≡◌, ℕ, None, Result, rules, subst}
use Rattle.std.specs.Prelude.{MatchResult}
use Rattle.std.specs.Cmp.Lexicographic.{slice_cmp}
use Rattle.std.specs.Ordering.{nat_cmp}
use Rattle.std.proofs.lemmas.Fn.{always_returns_same}
use Rattle.vac_meta.specs.declared.record.Record.{Record}
use Rattle.vac_read.specs.Folders.{IsNamedAt}
use Rattle.vac_read.specs.Nodes.{named}
use Rattle.vac_read.proofs.Named.{halved}
use Rattle.vac_read.proofs.records.place_named.Goals as goal

pub returns-in-Ok : goal.returns-in-Ok
returns-in-Ok c =
    let facts = c.binary_search_by.ensures in
    let compared = facts.position (λ (r : Record). slice_cmp nat_cmp r.name c.args.name.now)
    (always_returns_same _ _ _ (λ a r f called. search rules)) in
    subst (λ (r : Result ℕ ℕ). MatchResult r (IsNamedAt c.args.records.now c.args.name.now)
    (λ i. named c.args.name.now c.args.records.now ≡ None)) c.in-Ok.is
    (halved c.args.records.now c.args.name.now c.binary_search_by.result c.requires facts.bound
    compared)

pub returns-in-Err : goal.returns-in-Err
returns-in-Err c =
    let facts = c.binary_search_by.ensures in
    let compared = facts.position (λ (r : Record). slice_cmp nat_cmp r.name c.args.name.now)
    (always_returns_same _ _ _ (λ a r f called. search rules)) in
    subst (λ (r : Result ℕ ℕ). MatchResult r (IsNamedAt c.args.records.now c.args.name.now)
    (λ i. named c.args.name.now c.args.records.now ≡ None)) c.in-Err.is
    (halved c.args.records.now c.args.name.now c.binary_search_by.result c.requires facts.bound
    compared)
