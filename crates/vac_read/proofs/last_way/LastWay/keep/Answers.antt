use Rattle.std.proofs.Common.{◌≡◌, ◌==◌, ℕ, Some, List, sym, ◌∙◌, ap}
use Rattle.std.specs.Prelude.{position}
use Rattle.std.proofs.Math.ListN.{set}
use Rattle.vac_read.specs.declared.last_way.WayBlock.{WayBlock}
use Rattle.vac_read.specs.LastWay.{keeping}
use Rattle.vac_read.proofs.WayBlocks.{kept_in_place}
use Rattle.vac_read.proofs.last_way.LastWay.keep.Goals as goal

pub returns-in-Some-clause-ok : goal.returns-in-Some-clause-ok
returns-in-Some-clause-ok c =
    let way : List WayBlock = c.self.inside.blocks.items in
    let b : WayBlock =
    record { kind = c.args.kind; score = c.args.score.now; bytes = c.args.bytes.now } in
    let at : position (λ (x : WayBlock). x.kind == c.args.kind) way ≡ Some c.in-Some.at =
    ap (λ (l : List WayBlock). position (λ x. x.kind == c.args.kind) l) (sym c.deref.ensures.value)
    ∙ sym c.place_of.ensures ∙ c.in-Some.is in
    ap (λ (l : List ℕ). set way c.in-Some.at
    (record { kind = c.args.kind; score = c.args.score.now; bytes = l })) c.in_ok-bytes.ensures
    ∙ sym (kept_in_place b 8 way c.in-Some.at c.self.invariant.few at)
    ∙ ap (λ (l : List WayBlock). keeping 8 b l) c.self.view_is
