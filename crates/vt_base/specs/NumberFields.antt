-- Number fields and the bytes that spell them: each gives the other back.
-- `Rattle.byteorder.specs.Numbers` has that the bytes of a number read back as it
-- (`big_number-reads_back`), and how many they are (`length-bytes_high_first`).
use Rattle.std.specs.Prelude.{◌≡◌, ℕ, zero, suc, ◌+◌, ◌*◌, ◌/◌, ◌^◌, ◌<◌, ◌≤◌, List, [], ◌∷◌, length, take, slice_index, refl}
use Rattle.std.specs.Int.{byte_at}
use Rattle.std.proofs.Common.{sym, ap, ◌∙◌, arith, append-nil}
use Rattle.std.proofs.Math.Nat.{mod-lt}
use Rattle.std.proofs.lemmas.Nat.{div-mul-add}
use Rattle.byteorder.specs.Endian.{big_number, big_bytes, big_from}
use Rattle.byteorder.specs.Numbers.{big_from-cons, big_from-lt, big_number-reads_back, length-bytes_high_first}

-- each byte of a number is below 256
byte_at-lt : (k x : ℕ) → byte_at k x < 256
byte_at-lt zero x = mod-lt x (omega arith)
byte_at-lt (suc k) x = mod-lt (x / 256 ^ suc k) (omega arith)

-- the bytes of a number are below 256
pub bytes-big_bytes : (n x i : ℕ) → slice_index (big_bytes n x) i < 256
bytes-big_bytes zero x i = omega arith
bytes-big_bytes (suc n) x zero = byte_at-lt n x
bytes-big_bytes (suc n) x (suc i) = bytes-big_bytes n x i

-- n bytes are the first n of these where the two spell one number
pub big_number-unique : (n : ℕ) (field bytes : List ℕ) → length field ≡ n → n ≤ length bytes
    → ((i : ℕ) → slice_index field i < 256) → ((i : ℕ) → slice_index bytes i < 256)
    → big_number n field ≡ big_number n bytes → field ≡ take n bytes
big_number-unique zero [] bytes wide long field_is bytes_are same = refl
big_number-unique zero (a ∷ field) bytes wide long field_is bytes_are same = absurd (omega arith)
big_number-unique (suc n) [] bytes wide long field_is bytes_are same = absurd (omega arith)
big_number-unique (suc n) (a ∷ field) [] wide long field_is bytes_are same = absurd (omega arith)
big_number-unique (suc n) (a ∷ field) (b ∷ bytes) wide long field_is bytes_are same =
    let low : big_from 0 n field < 256 ^ n = big_from-lt 0 n field (λ i. field_is (suc i)) in
    let lower : big_from 0 n bytes < 256 ^ n = big_from-lt 0 n bytes (λ i. bytes_are (suc i)) in
    let split : a * 256 ^ n + big_from 0 n field ≡ b * 256 ^ n + big_from 0 n bytes =
    ap (λ (r : ℕ). a * 256 ^ n + r) (sym (big_from-cons 0 n a field)) ∙ same
    ∙ ap (λ (r : ℕ). b * 256 ^ n + r) (big_from-cons 0 n b bytes) in
    let first : a ≡ b =
    sym (div-mul-add a (256 ^ n) (big_from 0 n field) low)
    ∙ ap (λ (x : ℕ). x / 256 ^ n) split ∙ div-mul-add b (256 ^ n) (big_from 0 n bytes) lower in
    let scaled : a * 256 ^ n ≡ b * 256 ^ n = ap (λ (x : ℕ). x * 256 ^ n) first in
    let others : field ≡ take n bytes =
    big_number-unique n field bytes (omega arith) (omega arith)
    (λ i. field_is (suc i)) (λ i. bytes_are (suc i)) (omega arith) in
    λ i. first i ∷ others i

-- the number that the first n bytes spell is spelled by these bytes
pub big_bytes-number : (n : ℕ) (bytes : List ℕ) → n ≤ length bytes
    → ((i : ℕ) → slice_index bytes i < 256)
    → big_bytes n (big_number n bytes) ≡ take n bytes
big_bytes-number n bytes long bytes_are =
    let x : ℕ = big_number n bytes in
    let back : big_number n (big_bytes n x) ≡ x =
    ap (λ (l : List ℕ). big_number n l) (sym (append-nil (big_bytes n x)))
    ∙ big_number-reads_back n x [] (big_from-lt 0 n bytes bytes_are) in
    big_number-unique n (big_bytes n x) bytes (length-bytes_high_first n x) long
    (bytes-big_bytes n x) bytes_are back
