-- Number fields with the low byte first, and the bytes that spell them: each gives the other back.
use Rattle.std.specs.Prelude.{◌≡◌, ℕ, zero, suc, ◌+◌, ◌*◌, ◌/◌, ◌^◌, ◌<◌, List, [], ◌∷◌, ◌++◌, length, take, drop, slice_index, refl}
use Rattle.std.specs.Int.{byte_at, bytes_low_first}
use Rattle.std.proofs.Common.{sym, ap, subst, ◌∙◌, arith, append-nil, length-append, take-append-drop}
use Rattle.std.proofs.Math.Nat.{mod-lt}
use Rattle.byteorder.specs.Endian.{little_number, little_bytes, little_from}
use Rattle.byteorder.specs.Numbers.{little_from-cons, little_from-lt, little_number-reads_back, length-bytes_low_first}

abbrev pub AreSmall : List ℕ → Type 0
AreSmall xs = (i : ℕ) → slice_index xs i < 256

byte_at-lt : (k x : ℕ) → byte_at k x < 256
byte_at-lt zero x = mod-lt x (omega arith)
byte_at-lt (suc k) x = mod-lt (x / 256 ^ suc k) (omega arith)

small_bytes : (i n x : ℕ) → AreSmall (bytes_low_first i n x)
small_bytes i zero x k = omega arith
small_bytes i (suc n) x zero = byte_at-lt i x
small_bytes i (suc n) x (suc k) = small_bytes (suc i) n x k

digits : (x y m n : ℕ) → x < 256 → y < 256 → x + 256 * m ≡ y + 256 * n → (x ≡ y) × (m ≡ n)
digits x y m n p q h = (omega (arith, p, q, h), omega (arith, p, q, h))

-- so many bytes with one number are alike
little_number-unique : (n : ℕ) (a b : List ℕ) → length a ≡ n → length b ≡ n → AreSmall a → AreSmall
    b
    → little_number n a ≡ little_number n b → a ≡ b
little_number-unique zero [] [] la lb sa sb h = refl
little_number-unique zero [] (y ∷ b) la lb sa sb h = absurd (omega arith)
little_number-unique zero (x ∷ a) b la lb sa sb h = absurd (omega arith)
little_number-unique (suc n) [] b la lb sa sb h = absurd (omega arith)
little_number-unique (suc n) (x ∷ a) [] la lb sa sb h = absurd (omega arith)
little_number-unique (suc n) (x ∷ a) (y ∷ b) la lb sa sb h =
    let split : x + 256 * little_from 0 n a ≡ y + 256 * little_from 0 n b =
    ap (λ (r : ℕ). x + 256 * r) (sym (little_from-cons 0 n x a)) ∙ h
    ∙ ap (λ (r : ℕ). y + 256 * r) (little_from-cons 0 n y b) in
    let two = digits x y (little_from 0 n a) (little_from 0 n b) (sa 0) (sb 0) split in
    let others : a ≡ b =
    little_number-unique n a b (omega (arith, la)) (omega (arith, lb)) (λ i. sa (suc i)) (λ i. sb
    (suc i)) two.1 in
    λ i. two.0 i ∷ others i

pub little_bytes-number : (n : ℕ) (field : List ℕ) → length field ≡ n → AreSmall field
    → little_bytes n (little_number n field) ≡ field
little_bytes-number n field len small =
    let x : ℕ = little_number n field in
    let back : little_number n (little_bytes n x) ≡ x =
    ap (little_number n) (sym (append-nil (little_bytes n x)))
    ∙ little_number-reads_back n x [] (little_from-lt 0 n field small) in
    little_number-unique n (little_bytes n x) field (length-bytes_low_first 0 n x) len (small_bytes
    0 n x) small back

small_front : (a x : List ℕ) → AreSmall (a ++ x) → AreSmall a
small_front [] x are i = omega arith
small_front (b ∷ a) x are zero = are 0
small_front (b ∷ a) x are (suc i) = small_front a x (λ j. are (suc j)) i

-- a number field in front, as it is read
pub field_is : (n x : ℕ) (bytes field rest : List ℕ) → field ≡ take n bytes → rest ≡ drop n bytes
    → length rest + n ≡ length bytes → AreSmall bytes → x ≡ little_number n field
    → bytes ≡ little_bytes n x ++ rest
field_is n x bytes field rest f r len are is =
    let whole : bytes ≡ field ++ rest =
    sym (take-append-drop n bytes) ∙ ap (λ (l : List ℕ). l ++ drop n bytes) (sym f)
    ∙ ap (λ (l : List ℕ). field ++ l) (sym r) in
    let long : length field ≡ n = omega (arith, len, ap length whole, length-append field rest) in
    let spelled : little_bytes n x ≡ field =
    ap (little_bytes n) is ∙ little_bytes-number n field long (small_front field rest (subst
    AreSmall whole are)) in
    whole ∙ ap (λ (l : List ℕ). l ++ rest) (sym spelled)
