use Rattle.std.proofs.Common.{◌≡◌, ◌*◌, ℕ, List, length, Some, None, sym, ◌∙◌, ap, subst, arith}
use Rattle.std.specs.Prelude.{slice_get}
use Rattle.std.proofs.lemmas.Grind.{div_ceil_times}
use Rattle.std.proofs.lemmas.List.{length-replicate}
use Rattle.vt_isect.specs.Remembered.{told_in}
use Rattle.vt_isect.proofs.Told.{told_many, told_nothing}
use Rattle.vt_isect.proofs.remembered.Remembered.new.Goals as goal
use Rattle.vt_isect.proofs.remembered.Remembered.new.Goals.{In_ok-bytes}

-- four buckets a byte
many_told : (c : In_ok-bytes) → length (told_in c.in_ok-bytes.bytes.items) ≡ 4 * c.div_ceil.result
many_told c = told_many c.in_ok-bytes.bytes.items
    ∙ ap (λ (l : List ℕ). 4 * length l) (c.in_ok-bytes.ensures.items_if_clones_equal (λ y is. is))
    ∙ ap (λ (n : ℕ). 4 * n) (length-replicate {A = ℕ} c.div_ceil.result 0)

pub returns-clause-room : goal.returns-clause-room
returns-clause-room c =
    let many = many_told c in
    let times = div_ceil_times c.args.buckets 4 (omega arith) in
    let n = c.div_ceil.ensures in
    (omega (arith, many, n, times.0), omega (arith, many, n, times.1))

pub returns-clause-nothing : goal.returns-clause-nothing
returns-clause-nothing c j within =
    subst (λ (l : List ℕ). slice_get (told_in l) j ≡ Some None) (sym (c.in_ok-bytes.ensures.items_if_clones_equal (λ y is. is)))
    (told_nothing c.div_ceil.result j (omega (arith, within, many_told c)))
