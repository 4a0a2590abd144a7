use Rattle.std.proofs.Common.{◌≡◌, ◌≤◌, ℕ, Ok, sym, ◌∙◌, subst, arith}
use Rattle.vt_bloom.specs.Size.{IsFilterSize}
use Rattle.vt_format.proofs.Numbers.{whole, size_least, size_most}
use Rattle.vt_format.proofs.words.parse_filter_size.Goals as goal

pub returns-in_err-size-clause-only : goal.returns-in_err-size-clause-only
returns-in_err-size-clause-only c n m is size =
    let found : c.parse_number.result ≡ Ok n = c.parse_number.ensures.only n is (size_least m n size) (size_most m n size) in
    let no = sym c.in_err-size.was ∙ found in absurd (cc)

pub returns-in-Some-clause-only : goal.returns-in-Some-clause-only
returns-in-Some-clause-only c n m is size =
    sym c.in_ok-size.was ∙ c.parse_number.ensures.only n is (size_least m n size) (size_most m n size)

pub returns-in-None-clause-only : goal.returns-in-None-clause-only
returns-in-None-clause-only c n m is size =
    let found : Ok c.in_ok-size.size ≡ Ok n = sym c.in_ok-size.was ∙ c.parse_number.ensures.only n is (size_least m n size) (size_most m n size) in
    let same : c.in_ok-size.size ≡ n = cc in
    absurd (c.in-None.ensures.none m (subst (λ (k : ℕ). IsFilterSize m k) (sym same) size))

pub returns-in-None-clause-bad : goal.returns-in-None-clause-bad
returns-in-None-clause-bad c =
    let most : c.in_ok-size.size ≤ 1048576 = c.in_ok-size.ensures.most in
    sym (whole c.args.text.now c.in_ok-size.size (omega (arith, most)) c.in_ok-size.ensures.ok)
