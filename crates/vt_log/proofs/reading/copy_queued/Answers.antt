-- The block is what lies behind the header.
use Rattle.std.proofs.Common.{◌∙◌, ap, arith, drop, length, List, ℕ}
use Rattle.std.proofs.lemmas.List.{take_rest, length-drop}
use Rattle.vt_log.proofs.reading.copy_queued.Goals as goal

pub returns-in-Ok-clause-block : goal.returns-in-Ok-clause-block
returns-in-Ok-clause-block c = c.in-Ok.ensures ∙ take_rest c.as_slice.result.now 38 ∙ ap (λ (bytes : List ℕ). drop 38 bytes) c.as_slice.ensures

pub returns-in-Ok-clause-whole : goal.returns-in-Ok-clause-whole
returns-in-Ok-clause-whole c =
    let block = c.in-Ok.ensures ∙ take_rest c.as_slice.result.now 38 ∙ ap (λ (bytes : List ℕ). drop 38 bytes) c.as_slice.ensures in
    omega (arith, ap (λ (bytes : List ℕ). length bytes) block, length-drop 38 c.args.packed.now.bytes, c.args.packed.now.whole, c.args.packed.now.most)
