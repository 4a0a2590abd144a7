use Rattle.std.proofs.Common.{◌≡◌, ◌+◌, ℕ, sym, ◌∙◌, ap, get_or, arith}
use Rattle.vt_tree.specs.Content.{byte_of}
use Rattle.vt_tree.specs.Memory.{held_in}
use Rattle.vt_tree.proofs.plain.content.Goals as goal

from_zero : (n : ℕ) → 0 + n ≡ n
from_zero n = omega arith

pub returns-in-Err-clause-bad : goal.returns-in-Err-clause-bad
returns-in-Err-clause-bad g c =
    let map = held_in g.S.Scorer.score_of c.args.blocks.now in
    let e = c.args.entry.now in
    record {
      place = c.loop-place.place;
      within = omega arith;
      has = ap (byte_of map e) (from_zero c.loop-place.place) ∙ sym c.byte_at.ensures
          ∙ c.in-Err.is;
      before = λ k below. (
        get_or c.loop-place.bytes.items k 0,
        ap (byte_of map e) (from_zero k) ∙ c.loop-place.invariant.each k below,
      );
    }
