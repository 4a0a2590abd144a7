-- Heads written and read back.
use Rattle.std.proofs.Common.{◌≡◌, ℕ, ◌+◌, ◌-◌, List, ◌∷◌, ◌++◌, length, take, drop, replicate, sym, ◌∙◌, ap, arith, append_assoc, length-append, take-append-drop}
use Rattle.std.specs.Prelude.{codes, slice_index}
use Rattle.std.proofs.lemmas.List.{take_at}
use Rattle.byteorder.specs.Endian.{big_number, big_bytes}
use Rattle.vt_base.specs.Bytes.{AreBytes}
use Rattle.vt_base.specs.Fields.{drop-field, drop-byte, drop-number}
use Rattle.vt_isect.specs.declared.head.Head.{Head}
use Rattle.vt_isect.specs.Head.{section_head_bytes, encoded, IsHead, IsHeadFrame}

pub length-spelled : (name : List ℕ) (head : Head) → length name ≡ 64 → length (section_head_bytes name head) ≡ 91
length-spelled name head len =
    omega (
      arith,
      len,
      length-append name (big_bytes 4 head.first ++ (big_bytes 4 head.count ++ (big_bytes 4 head.total ++ big_bytes 8 head.mark))),
    )

-- what a field stands behind, and then the field
pub and_then : (at n end : ℕ) (old new front field : List ℕ) → end ≡ at + n
    → take (at + n) new ≡ take at old ++ field → take at old ≡ front → take end new ≡ front ++ field
and_then at n end old new front field ends written before =
    ap (λ (k : ℕ). take k new) ends ∙ written ∙ ap (λ (l : List ℕ). l ++ field) before

-- a frame whose fields say what the head says spells it
pub head_spells : (frame name : List ℕ) (head : Head) → length frame ≡ 8192 → AreBytes frame
    → take 4 frame ≡ codes "VSEC" → big_number 2 (drop 4 frame) ≡ 1 → slice_index frame 6 ≡ head.state
    → take 64 (drop 7 frame) ≡ name → length name ≡ 64
    → big_number 4 (drop 71 frame) ≡ head.first → big_number 4 (drop 75 frame) ≡ head.count
    → big_number 4 (drop 79 frame) ≡ head.total → big_number 8 (drop 83 frame) ≡ head.mark
    → take 91 frame ≡ section_head_bytes name head
head_spells frame name head whole are magic version state named len first count total mark =
    let from_83 : drop 83 frame ≡ big_bytes 8 head.mark ++ drop 91 frame =
    drop-number 83 8 frame (omega arith) are ∙ ap (λ (k : ℕ). big_bytes 8 k ++ drop 91 frame) mark in
    let from_79 : drop 79 frame ≡ big_bytes 4 head.total ++ (big_bytes 8 head.mark ++ drop 91 frame) =
    drop-number 79 4 frame (omega arith) are ∙ (λ i. big_bytes 4 (total i) ++ from_83 i) in
    let from_75 : drop 75 frame ≡ big_bytes 4 head.count ++ (big_bytes 4 head.total ++ (big_bytes 8 head.mark ++ drop 91 frame)) =
    drop-number 75 4 frame (omega arith) are ∙ (λ i. big_bytes 4 (count i) ++ from_79 i) in
    let from_71 : drop 71 frame ≡ big_bytes 4 head.first ++ (big_bytes 4 head.count ++ (big_bytes 4 head.total ++ (big_bytes 8 head.mark ++ drop 91 frame))) =
    drop-number 71 4 frame (omega arith) are ∙ (λ i. big_bytes 4 (first i) ++ from_75 i) in
    let from_7 : drop 7 frame ≡ name ++ (big_bytes 4 head.first ++ (big_bytes 4 head.count ++ (big_bytes 4 head.total ++ (big_bytes 8 head.mark ++ drop 91 frame)))) =
    drop-field 7 64 frame ∙ (λ i. named i ++ from_71 i) in
    let from_6 : drop 6 frame ≡ head.state ∷ (name ++ (big_bytes 4 head.first ++ (big_bytes 4 head.count ++ (big_bytes 4 head.total ++ (big_bytes 8 head.mark ++ drop 91 frame))))) =
    drop-byte 6 frame (omega arith) ∙ (λ i. state i ∷ from_7 i) in
    let from_4 : drop 4 frame ≡ big_bytes 2 1 ++ drop 6 frame =
    drop-number 4 2 frame (omega arith) are ∙ ap (λ (k : ℕ). big_bytes 2 k ++ drop 6 frame) version in
    let numbers : List ℕ = big_bytes 4 head.first ++ (big_bytes 4 head.count ++ (big_bytes 4 head.total ++ big_bytes 8 head.mark)) in
    let joined : name ++ (big_bytes 4 head.first ++ (big_bytes 4 head.count ++ (big_bytes 4 head.total ++ (big_bytes 8 head.mark ++ drop 91 frame)))) ≡ (name ++ numbers) ++ drop 91 frame =
    sym (append_assoc name numbers (drop 91 frame)) in
    let all : frame ≡ section_head_bytes name head ++ drop 91 frame =
    sym (take-append-drop 4 frame)
    ∙ (λ i. magic i ++ from_4 i)
    ∙ ap (λ (l : List ℕ). codes "VSEC" ++ (big_bytes 2 1 ++ l)) from_6
    ∙ ap (λ (l : List ℕ). codes "VSEC" ++ (big_bytes 2 1 ++ (head.state ∷ l))) joined in
    ap (λ (l : List ℕ). take 91 l) all ∙ take_at (section_head_bytes name head) (drop 91 frame) 91 (length-spelled name head len)

-- the frame that is written has its head
pub frame_has : (name : List ℕ) (head : Head) → IsHead head → length name ≡ 64
    → IsHeadFrame name head (encoded name head)
frame_has name head fits len = record {
  fits = fits;
  name_len = len;
  spelling = take_at (section_head_bytes name head) (replicate (8192 - length (section_head_bytes name head)) 0) 91 (length-spelled name head len);
}
