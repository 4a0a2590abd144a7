-- A frame that was taken into a buffer: its size field, and then so many bytes.
use Rattle.std.proofs.Common.{◌≡◌, ℕ, ◌+◌, ◌-◌, ◌<◌, List, [], ◌∷◌, ◌++◌, length, take, drop, sym, subst, arith, length-append, length-take, length-drop}
use Rattle.std.proofs.lemmas.List.{take_at}
use Rattle.vt_base.specs.Bytes.{AreBytes}
use Rattle.vt_wire.specs.Frames.{IsFrame, frame_len}
use Rattle.vt_wire.proofs.Frames.{whole_frame}

-- the buffer, in which the field stands before the bytes and what was there
abbrev pub buffer : (size rest bytes behind : List ℕ) → List ℕ
buffer size rest bytes behind = take 2 (size ++ rest) ++ (bytes ++ behind)

-- the field has two bytes, and as many come behind it as it says
pub lengths : (old size bytes : List ℕ) (n : ℕ) → length old ≡ 65537
    → length size ≡ length (take 2 old)
    → length bytes ≡ length (take (2 + n - 2) (drop 2 (size ++ drop 2 old))) → n < 65536
    → (length size ≡ 2) × (n ≡ length bytes)
lengths old size bytes n room field more fits =
    let len : length size ≡ 2 = omega (arith, field, length-take 2 old, room) in (
      len,
      omega (
        arith,
        more,
        length-take (2 + n - 2) (drop 2 (size ++ drop 2 old)),
        length-drop 2 (size ++ drop 2 old),
        length-append size (drop 2 old),
        length-drop 2 old,
        len,
        room,
        fits,
      ),
    )

pub taken_bytes : (size rest bytes behind : List ℕ) (n : ℕ) → length size ≡ 2
    → n ≡ length bytes → take (2 + n) (buffer size rest bytes behind) ≡ size ++ bytes
taken_bytes [] rest bytes behind n len is = absurd (omega (arith, len))
taken_bytes (a ∷ []) rest bytes behind n len is = absurd (omega (arith, len))
taken_bytes (a ∷ b ∷ []) rest bytes behind n len is =
    take_at (a ∷ b ∷ bytes) behind (2 + n) (omega (arith, is))
taken_bytes (a ∷ b ∷ c ∷ size) rest bytes behind n len is = absurd (omega (arith, len))

pub taken_frame : (size rest bytes behind : List ℕ) (n : ℕ) → length size ≡ 2
    → 2 + n ≡ frame_len (size ++ rest) → n ≡ length bytes
    → AreBytes (buffer size rest bytes behind)
    → (body : List ℕ) × IsFrame (take (2 + n) (buffer size rest bytes behind)) body
taken_frame [] rest bytes behind n len number is are = absurd (omega (arith, len))
taken_frame (a ∷ []) rest bytes behind n len number is are = absurd (omega (arith, len))
taken_frame (a ∷ b ∷ []) rest bytes behind n len number is are =
    let all = a ∷ b ∷ (bytes ++ behind) in
    let size_is : frame_len all ≡ 2 + n = sym number in
    let frame = whole_frame all are (omega (arith, size_is, is, length-append bytes behind)) in (
      drop 2 (take (2 + n) all),
      subst (λ (k : ℕ). IsFrame (take k all) (drop 2 (take k all))) size_is frame,
    )
taken_frame (a ∷ b ∷ c ∷ size) rest bytes behind n len number is are =
    absurd (omega (arith, len))
