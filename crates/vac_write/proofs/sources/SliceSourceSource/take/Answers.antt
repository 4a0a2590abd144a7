use Rattle.std.proofs.Common.{◌≡◌, ◌≤◌, ℕ, ◌+◌, List, ◌++◌, length, take, drop, arith, sym, ap, ◌∙◌}
use Rattle.std.proofs.lemmas.Grind.{common_steps}
use Rattle.std.proofs.lemmas.List.{take_at, take-append-drop, take_rest, drop-drop, length-take-le}
use Rattle.std.proofs.Math.Seq.{take-add}
use Rattle.vac_write.proofs.sources.SliceSourceSource.take.Goals as goal

-- the first n bytes of a list stand before the others also once they were copied
moved : (xs ys zs : List ℕ) (from n : ℕ) → n ≤ length (drop from xs) → ys ≡ take n (drop from xs)
    → drop from xs ≡ take n (ys ++ zs) ++ drop (from + n) xs
moved xs ys zs from n fits same =
    let len = ap length same ∙ length-take-le n (drop from xs) fits in
    rw (take_at ys zs n len, same, ← drop-drop n from xs)
    (sym (take-append-drop n (drop from xs)))

-- and behind those that were taken before
came : (xs ys zs : List ℕ) (from n : ℕ) → n ≤ length (drop from xs) → ys ≡ take n (drop from xs)
    → take (from + n) xs ≡ take from xs ++ take n (ys ++ zs)
came xs ys zs from n fits same =
    let len = ap length same ∙ length-take-le n (drop from xs) fits in
    rw (take_at ys zs n len, same) (take-add from n xs)

pub returns-clause-moved : goal.returns-clause-moved
returns-clause-moved c told =
    let self = c.args.self.now in
    let all = take_rest self.bytes.now self.at in
    moved self.bytes.now c.copy_from_slice.new.self (drop c.min-n.result c.args.buf.now) self.at
    c.min-n.result
    (grind (arith, common_steps, all)) (grind (arith, common_steps, all))

pub returns-clause-came : goal.returns-clause-came
returns-clause-came c told =
    let self = c.args.self.now in
    let all = take_rest self.bytes.now self.at in
    came self.bytes.now c.copy_from_slice.new.self (drop c.min-n.result c.args.buf.now) self.at
    c.min-n.result
    (grind (arith, common_steps, all)) (grind (arith, common_steps, all))
