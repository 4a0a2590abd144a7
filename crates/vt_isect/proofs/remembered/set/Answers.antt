use Rattle.std.proofs.Common.{◌/◌, ◌%◌, List, ℕ, ◌∙◌, ap, arith}
use Rattle.std.specs.Prelude.{slice_set}
use Rattle.vt_isect.proofs.Told.{told_many, told_set}
use Rattle.vt_isect.proofs.remembered.set.Goals as goal

pub bounds-bytes-bucket : goal.bounds-bytes-bucket
bounds-bytes-bucket c = omega (arith, c.requires.bucket, told_many c.args.bytes.now)

pub returns : goal.returns
returns c = told_set c.args.bytes.now (c.args.bucket / 4) (c.args.bucket % 4) c.args.bucket c.byte_of.result c.args.pair (omega arith) (omega arith)
    (omega (arith, c.requires.bucket, told_many c.args.bytes.now))
    (c.byte_of.ensures ∙ ap (λ (l : List ℕ). slice_set l (c.args.bucket % 4) c.args.pair) c.pairs-all.ensures)
