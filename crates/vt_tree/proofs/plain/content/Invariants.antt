use Rattle.std.proofs.Common.{◌≡◌, ◌<◌, ℕ, Ok, length, get_or}
use Rattle.vt_tree.specs.Content.{byte_of}
use Rattle.vt_tree.specs.Memory.{held_in}
use Rattle.vt_tree.proofs.plain.content.Given as goal

-- the bytes so far are the file's
abbrev pub invariant-loop-place : goal.invariant-loop-place
invariant-loop-place g l =
    let map = held_in g.S.Scorer.score_of l.blocks in
    record {
      len : length l.bytes.items ≡ l.place;
      each : (i : ℕ) → i < l.place → byte_of map l.entry i ≡ Ok (get_or l.bytes.items i 0);
    }
