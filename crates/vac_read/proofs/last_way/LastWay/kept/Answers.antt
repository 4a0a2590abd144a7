use Rattle.std.proofs.Common.{◌≡◌, ◌==◌, ◌≤◌, ℕ, List, Some, sym, ◌∙◌, ap, subst, length}
use Rattle.std.specs.Option.{option_copied}
use Rattle.std.specs.Prelude.{find}
use Rattle.vac_read.specs.declared.last_way.WayBlock.{WayBlock}
use Rattle.vac_read.specs.LastWay.{kept_of}
use Rattle.vac_read.proofs.WayBlocks.{found_none, found_other, found_same, found_short}
use Rattle.vac_read.proofs.last_way.LastWay.kept.Goals as goal

pub returns-in_err-block-clause-found : goal.returns-in_err-block-clause-found
returns-in_err-block-clause-found c =
    let kept : List WayBlock = c.self.inside.blocks.items in
    let none = sym (c.in_err-block.ensures
    ∙ ap (find (λ (b : WayBlock). b.kind == c.args.kind)) c.deref.ensures.value) in
    ap (λ o. option_copied o) c.from_residual.ensures
    ∙ sym (found_none c.args.kind c.args.score.now.0 kept none)
    ∙ ap (kept_of c.args.kind c.args.score.now.0) c.self.view_is

pub returns-then-eq-clause-found : goal.returns-then-eq-clause-found
returns-then-eq-clause-found c =
    let kept : List WayBlock = c.self.inside.blocks.items in
    let x : WayBlock = c.in_ok-block.block.now in
    let found : find (λ (b : WayBlock). b.kind == c.args.kind) kept ≡ Some x =
    sym (c.in_ok-block.ensures
    ∙ ap (find (λ (b : WayBlock). b.kind == c.args.kind)) c.deref.ensures.value) in
    ap (λ (l : List ℕ). Some l) c.as_slice.ensures
    ∙ sym (found_same c.args.kind c.args.score.now.0 kept x found
    (sym c.eq.ensures ∙ c.if-eq.true))
    ∙ ap (kept_of c.args.kind c.args.score.now.0) c.self.view_is

pub returns-then-eq-clause-most : goal.returns-then-eq-clause-most
returns-then-eq-clause-most c =
    let kept : List WayBlock = c.self.inside.blocks.items in
    let x : WayBlock = c.in_ok-block.block.now in
    let found : find (λ (b : WayBlock). b.kind == c.args.kind) kept ≡ Some x =
    sym (c.in_ok-block.ensures
    ∙ ap (find (λ (b : WayBlock). b.kind == c.args.kind)) c.deref.ensures.value) in
    subst (λ (l : List ℕ). length l ≤ 57344) (sym c.as_slice.ensures)
    (found_short c.args.kind kept x found c.self.invariant.each)

pub returns-else-eq-clause-found : goal.returns-else-eq-clause-found
returns-else-eq-clause-found c =
    let kept : List WayBlock = c.self.inside.blocks.items in
    let x : WayBlock = c.in_ok-block.block.now in
    let found : find (λ (b : WayBlock). b.kind == c.args.kind) kept ≡ Some x =
    sym (c.in_ok-block.ensures
    ∙ ap (find (λ (b : WayBlock). b.kind == c.args.kind)) c.deref.ensures.value) in
    sym (found_other c.args.kind c.args.score.now.0 kept x found
    (sym c.eq.ensures ∙ c.if-eq.false))
    ∙ ap (kept_of c.args.kind c.args.score.now.0) c.self.view_is
