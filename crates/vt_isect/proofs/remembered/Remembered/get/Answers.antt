use Rattle.std.proofs.Common.{◌≡◌, ◌/◌, ◌%◌, ◌<◌, ℕ, List, length, get_or, Option, Some, sym, ◌∙◌, ap, arith}
use Rattle.std.proofs.lemmas.Grind.{get_or_default_zero}
use Rattle.vt_isect.specs.Remembered.{pairs_of, told_by}
use Rattle.vt_isect.proofs.Told.{told_get, told_many, told_none, told_some}
use Rattle.vt_isect.proofs.remembered.Remembered.get.Goals as goal

-- the pair that was read
pair_is : (bytes all : List ℕ) (q r byte : ℕ) → q < length bytes → byte ≡ get_or bytes q byte → all ≡ pairs_of byte
    → get_or (pairs_of (get_or bytes q 0)) r 0 ≡ get_or all r 0
pair_is bytes all q r byte within read pairs =
    ap (λ (b : ℕ). get_or (pairs_of b) r 0) (sym (read ∙ get_or_default_zero bytes q byte within)) ∙ ap (λ (l : List ℕ). get_or l r 0) (sym pairs)

pub index-requires : goal.index-requires
index-requires c =
    let within = rw (← c.self.view_is) at c.requires in
    omega (arith, within, told_many c.self.inside.bytes.items, c.self.inside.bytes.ok.0)

pub returns-then-pair-lt2-clause-number : goal.returns-then-pair-lt2-clause-number
returns-then-pair-lt2-clause-number c =
    let bytes = c.self.inside.bytes.items in
    let at = rw (← c.self.view_is) at c.requires in
    let within : c.args.bucket / 4 < length bytes = omega (arith, at, told_many bytes) in
    rw (← c.self.view_is) (told_get bytes (c.args.bucket / 4) (c.args.bucket % 4) c.args.bucket (omega arith) (omega arith) within
    ∙ ap (λ (o : Option ℕ). Some o) (ap told_by (pair_is bytes c.pairs.result (c.args.bucket / 4) (c.args.bucket % 4) c.index.result.now within c.index.ensures c.pairs.ensures)
    ∙ told_none (get_or c.pairs.result (c.args.bucket % 4) 0) c.if-pair-lt2.true))

pub returns-else-pair-lt2-clause-number : goal.returns-else-pair-lt2-clause-number
returns-else-pair-lt2-clause-number c =
    let bytes = c.self.inside.bytes.items in
    let at = rw (← c.self.view_is) at c.requires in
    let within : c.args.bucket / 4 < length bytes = omega (arith, at, told_many bytes) in
    rw (← c.self.view_is) (told_get bytes (c.args.bucket / 4) (c.args.bucket % 4) c.args.bucket (omega arith) (omega arith) within
    ∙ ap (λ (o : Option ℕ). Some o) (ap told_by (pair_is bytes c.pairs.result (c.args.bucket / 4) (c.args.bucket % 4) c.index.result.now within c.index.ensures c.pairs.ensures)
    ∙ told_some (get_or c.pairs.result (c.args.bucket % 4) 0) c.if-pair-lt2.false))
