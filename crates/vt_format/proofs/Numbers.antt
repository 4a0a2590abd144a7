-- Numbers on the command line.
use Rattle.std.proofs.Common.{◌≡◌, ℕ, ◌-◌, ◌^◌, ◌<◌, ◌≤◌, Bool, cond, List, length, decimal, sym, ◌∙◌, ap, arith}
use Rattle.std.proofs.lemmas.Bool.{le-ltb}
use Rattle.vt_conf.specs.Numbers.{number_len, wrong_digit}
use Rattle.vt_conf.proofs.NumberTexts.{len_of_digits}
use Rattle.vt_bloom.specs.Size.{IsFilterSize, filter_len}
use Rattle.vt_bloom.proofs.Powers.{filter_len-mono}

-- in the digits of a number nothing is wrong
pub whole : (text : List ℕ) (n : ℕ) → n < 2 ^ 64 → text ≡ decimal n → wrong_digit text ≡ 0
whole text n fits is =
    let len : number_len text ≡ length text = ap number_len is ∙ len_of_digits n fits ∙ sym (ap length is) in
    ap (λ (b : Bool). cond b (number_len text) 0) (le-ltb (number_len text) (length text) (omega (arith, len)))

-- the sizes of filters are from 8,192 to 1,048,576
pub size_least : (m n : ℕ) → IsFilterSize m n → 8192 ≤ n
size_least m n is =
    let x : ℕ = 2 ^ (m - 3) in
    let least : filter_len 16 ≤ filter_len m = filter_len-mono 16 m is.least in
    omega (arith, is.bytes)

pub size_most : (m n : ℕ) → IsFilterSize m n → n ≤ 1048576
size_most m n is =
    let x : ℕ = 2 ^ (m - 3) in
    let most : filter_len m ≤ filter_len 23 = filter_len-mono m 23 is.most in
    omega (arith, is.bytes)
