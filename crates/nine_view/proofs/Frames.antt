-- A message by its bytes.
use Rattle.std.proofs.Common.{◌≡◌, ◌+◌, ◌<◌, ◌≤◌, ◌^◌, ℕ, zero, suc, List, [], ◌∷◌, ◌++◌, length, refl, sym, ◌∙◌, ap, arith}
use Rattle.byteorder.specs.Endian.{little_number, little_bytes}
use Rattle.byteorder.specs.Numbers.{little_from-lt}
use Rattle.nine_wire.proofs.Numbers.{little_bytes-number, AreSmall}
use Rattle.nine_view.specs.Replies.{IsMessage}

small_two : (x y : ℕ) → x < 256 → y < 256 → AreSmall (x ∷ y ∷ [])
small_two x y p q zero = p
small_two x y p q (suc zero) = q
small_two x y p q (suc (suc i)) = omega arith

small_four : (a b c d : ℕ) → a < 256 → b < 256 → c < 256 → d < 256
    → AreSmall (a ∷ b ∷ c ∷ d ∷ [])
small_four a b c d p q r s zero = p
small_four a b c d p q r s (suc i) = small_three i
  where
    small_three : AreSmall (b ∷ c ∷ d ∷ [])
    small_three zero = q
    small_three (suc j) = small_two c d r s j

-- bytes whose size field says how many they are, and that have a type and a tag
pub is_message : (bytes : List ℕ) → AreSmall bytes → 7 ≤ length bytes → length bytes < 2 ^ 32
    → little_number 4 bytes ≡ length bytes → IsMessage bytes
is_message [] small least most size = absurd (omega arith)
is_message (a ∷ []) small least most size = absurd (omega arith)
is_message (a ∷ b ∷ []) small least most size = absurd (omega arith)
is_message (a ∷ b ∷ c ∷ []) small least most size = absurd (omega arith)
is_message (a ∷ b ∷ c ∷ d ∷ []) small least most size = absurd (omega arith)
is_message (a ∷ b ∷ c ∷ d ∷ t ∷ []) small least most size = absurd (omega arith)
is_message (a ∷ b ∷ c ∷ d ∷ t ∷ x ∷ []) small least most size = absurd (omega arith)
is_message (a ∷ b ∷ c ∷ d ∷ t ∷ x ∷ y ∷ parameters) small least most size =
    let front : List ℕ = a ∷ b ∷ c ∷ d ∷ [] in
    let pair : AreSmall (x ∷ y ∷ []) = small_two x y (small 5) (small 6) in
    let number : ℕ = little_number 4 front in
    let tag : ℕ = little_number 2 (x ∷ y ∷ []) in
    let four : little_bytes 4 number ≡ front =
    little_bytes-number 4 front refl (small_four a b c d (small 0) (small 1) (small 2) (small 3)) in
    let two : little_bytes 2 tag ≡ x ∷ y ∷ [] = little_bytes-number 2 (x ∷ y ∷ []) refl pair in
    let counted : 7 + length parameters ≡ number = omega (arith, size) in
    let head : little_bytes 4 (7 + length parameters) ≡ front = ap (little_bytes 4) counted ∙ four in (
      t,
      tag,
      parameters,
      record {
        type_fits = small 4;
        tag_fits = little_from-lt 0 2 (x ∷ y ∷ []) pair;
        counted = omega arith;
        is =
            ap (λ (l : List ℕ). l ++ (t ∷ x ∷ y ∷ parameters)) (sym head)
            ∙ ap (λ (l : List ℕ). little_bytes 4 (7 + length parameters)
            ++ (t ∷ (l ++ parameters))) (sym two);
      },
    )
