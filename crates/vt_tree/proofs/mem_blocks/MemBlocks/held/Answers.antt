use Rattle.std.proofs.Common.{◌≡◌, ◌≤◌, ℕ, List, Option, Some, sym, ◌∙◌, ap, subst, length}
use Rattle.std.specs.Option.{option_copied, option_map}
use Rattle.std.specs.Prelude.{find}
use Rattle.std.specs.Str.{bytes_eq}
use Rattle.vt_tree.specs.declared.mem_blocks.Stored.{Stored}
use Rattle.vt_tree.specs.Memory.{BlocksMemory, held_in, IsKeptBlock}
use Rattle.vt_tree.proofs.Searches.{has_key, none_is_held, search_finds, found_is}
use Rattle.vt_tree.proofs.mem_blocks.MemBlocks.held.Goals as goal

pub returns-then-eq-clause-found : goal.returns-then-eq-clause-found
returns-then-eq-clause-found g c =
    let s = c.args.score.now.0 in
    none_is_held g.S.Scorer.score_of c.args.self.now s c.args.kind
    (ap (λ (l : List ℕ). bytes_eq s l) (sym c.score.ensures) ∙ sym c.eq.ensures ∙ c.if-eq.true)

pub returns-in_err-block-clause-found : goal.returns-in_err-block-clause-found
returns-in_err-block-clause-found g c =
    let s = c.args.score.now.0 in
    let at = λ (m : BlocksMemory). held_in g.S.Scorer.score_of m s c.args.kind in
    let bytes_of = λ (o : Option Stored). option_map (λ (b : Stored). b.bytes) o in
    let kept = c.self.inside.kept.items in
    ap (λ o. option_copied o) c.from_residual.ensures
    ∙ ap bytes_of (c.in_err-block.ensures ∙ ap (find (has_key s c.args.kind)) c.deref.ensures.value)
    ∙ search_finds g.S.Scorer.score_of kept s c.args.kind c.self.invariant
    (ap (λ (l : List ℕ). bytes_eq s l) (sym c.score.ensures) ∙ sym c.eq.ensures ∙ c.if-eq.false)
    ∙ ap at c.self.view_is

pub returns-clause-found : goal.returns-clause-found
returns-clause-found g c =
    let s = c.args.score.now.0 in
    let at = λ (m : BlocksMemory). held_in g.S.Scorer.score_of m s c.args.kind in
    let bytes_of = λ (o : Option Stored). option_map (λ (b : Stored). b.bytes) o in
    let kept = c.self.inside.kept.items in
    ap (λ (l : List ℕ). Some l) c.as_slice.ensures
    ∙ ap bytes_of (c.in_ok-block.ensures ∙ ap (find (has_key s c.args.kind)) c.deref.ensures.value)
    ∙ search_finds g.S.Scorer.score_of kept s c.args.kind c.self.invariant
    (ap (λ (l : List ℕ). bytes_eq s l) (sym c.score.ensures) ∙ sym c.eq.ensures ∙ c.if-eq.false)
    ∙ ap at c.self.view_is

pub returns-clause-most : goal.returns-clause-most
returns-clause-most g c =
    let kept = c.self.inside.kept.items in
    let found : find (has_key c.args.score.now.0 c.args.kind) kept ≡ Some c.in_ok-block.block.now =
    sym (c.in_ok-block.ensures
    ∙ ap (find (has_key c.args.score.now.0 c.args.kind)) c.deref.ensures.value) in
    subst (λ (l : List ℕ). length l ≤ 57344) (sym c.as_slice.ensures)
    (found_is (IsKeptBlock g.S.Scorer.score_of) (has_key c.args.score.now.0 c.args.kind) kept
    c.in_ok-block.block.now c.self.invariant found).0.most
