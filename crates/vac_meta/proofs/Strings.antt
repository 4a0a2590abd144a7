-- Strings in front of bytes, and what spells one thing.
use Rattle.std.proofs.Common.{◌≡◌, ℕ, ◌+◌, ◌<◌, ◌^◌, List, [], ◌∷◌, ◌++◌, length, take, drop, refl, sym, ◌∙◌, ap, arith, length-append, take_at, drop_at}
use Rattle.byteorder.specs.Endian.{big_bytes, big_number}
use Rattle.byteorder.specs.Numbers.{big_number-reads_back, length-bytes_high_first}
use Rattle.vac_meta.specs.Flaws.{string_len, string_in, behind_string}
use Rattle.vac_meta.specs.Records.{string}

pub same_front : (a b x y : List ℕ) → length a ≡ length b → a ++ x ≡ b ++ y → (a ≡ b) × (x ≡ y)
same_front [] [] x y len h = (refl, h)
same_front [] (b ∷ most) x y len h = absurd (omega arith)
same_front (a ∷ more) [] x y len h = absurd (omega arith)
same_front (a ∷ more) (b ∷ most) x y len h =
    let first : a ≡ b = cc in
    let rest : more ++ x ≡ most ++ y = cc in
    let both = same_front more most x y (omega arith) rest in
    (λ i. first i ∷ both.0 i, both.1)

pub same_number : (n x y : ℕ) (a b : List ℕ) → x < 256 ^ n → y < 256 ^ n
    → big_bytes n x ++ a ≡ big_bytes n y ++ b → (x ≡ y) × (a ≡ b)
same_number n x y a b p q h = (
  sym (big_number-reads_back n x a p) ∙ ap (big_number n) h ∙ big_number-reads_back n y b q,
  (same_front (big_bytes n x) (big_bytes n y) a b
      (length-bytes_high_first n x ∙ sym (length-bytes_high_first n y)) h).1,
)

pub same_string : (a b x y : List ℕ) → length a < 2 ^ 16 → length b < 2 ^ 16
    → string a ++ x ≡ string b ++ y → (a ≡ b) × (x ≡ y)
same_string a b x y p q h =
    let parts = same_number 2 (length a) (length b) (a ++ x) (b ++ y) p q h in
    same_front a b x y parts.0 parts.1

-- ---- the string in front

module _ (bytes text rest : List ℕ) (short : length text < 2 ^ 16)
    (is : bytes ≡ string text ++ rest) where
  pub len_is : string_len bytes ≡ length text
  len_is =
      ap (big_number 2) is ∙ big_number-reads_back 2 (length text) (text ++ rest) short

  pub text_is : string_in bytes ≡ text
  text_is =
      ap (λ (n : ℕ). take n (drop 2 bytes)) len_is
      ∙ ap (λ (l : List ℕ). take (length text) (drop 2 l)) is
      ∙ take_at text rest (length text) refl

  pub behind_is : behind_string bytes ≡ rest
  behind_is =
      ap (λ (n : ℕ). drop (2 + n) bytes) len_is
      ∙ ap (λ (l : List ℕ). drop (2 + length text) l) is
      ∙ drop_at (string text) rest (2 + length text) (omega arith)

  pub long : length bytes ≡ 2 + length text + length rest
  long = omega (arith, ap length is, length-append text rest)
