-- Roots and the bytes that spell them.
use Rattle.std.proofs.Common.{◌≡◌, ℕ, ◌+◌, ◌<◌, List, ◌++◌, length, take, drop, sym, ◌∙◌, ap, subst, arith, length-drop, length-append}
use Rattle.std.proofs.lemmas.List.{drop_at, take_at, drop-drop, length-take-le}
use Rattle.byteorder.specs.Endian.{big_number, big_bytes}
use Rattle.byteorder.specs.Numbers.{big_number-reads_back, big_from-lt}
use Rattle.std.proofs.lemmas.List.{get_or-drop}
use Rattle.vt_base.specs.Bytes.{AreBytes}
use Rattle.vt_base.specs.Fields.{drop-field, drop-number}
use Rattle.vt_tree.specs.declared.root.Root.{Root}
use Rattle.vt_tree.specs.Roots.{IsRoot, root_bytes}

-- what the fields of 300 bytes say
abbrev pub root_in : List ℕ → Root
root_in bytes = record {
  name = take 128 (drop 2 bytes);
  kind = take 128 (drop 130 bytes);
  score = record { 0 = take 20 (drop 258 bytes) };
  block_size = big_number 2 (drop 278 bytes);
  prev = record { 0 = drop 280 bytes };
}

pub root_spelled : (bytes : List ℕ) → length bytes ≡ 300 → AreBytes bytes → big_number 2 bytes ≡ 2
    → bytes ≡ root_bytes (root_in bytes)
root_spelled bytes len are version =
    let front = drop-number 0 2 bytes (omega (arith, len)) are in
    let name = drop-field 2 128 bytes in
    let kind = drop-field 130 128 bytes in
    let score = drop-field 258 20 bytes in
    let block_size = drop-number 278 2 bytes (omega (arith, len)) are in
    let from_258 = score ∙ ap (λ (l : List ℕ). take 20 (drop 258 bytes) ++ l) block_size in
    let from_130 = kind ∙ ap (λ (l : List ℕ). take 128 (drop 130 bytes) ++ l) from_258 in
    let from_2 = name ∙ ap (λ (l : List ℕ). take 128 (drop 2 bytes) ++ l) from_130 in
    front ∙ ap (λ (n : ℕ). big_bytes 2 n ++ drop 2 bytes) version
    ∙ ap (λ (l : List ℕ). big_bytes 2 2 ++ l) from_2

pub root_is : (bytes : List ℕ) → length bytes ≡ 300 → AreBytes bytes → IsRoot (root_in bytes)
root_is bytes len are = record {
  name = length-take-le 128 (drop 2 bytes) (omega (arith, length-drop 2 bytes, len));
  kind = length-take-le 128 (drop 130 bytes) (omega (arith, length-drop 130 bytes, len));
  score = length-take-le 20 (drop 258 bytes) (omega (arith, length-drop 258 bytes, len));
  block_size = big_from-lt 0 2 (drop 278 bytes)
      (λ i. subst (λ (b : ℕ). b < 256) (sym (get_or-drop 278 bytes i 0)) (are (278 + i)));
  prev = omega (arith, length-drop 280 bytes, len);
}

module _ (r : Root) (is : IsRoot r) where
  abbrev sized : List ℕ
  sized = big_bytes 2 r.block_size ++ r.prev.0

  abbrev scored : List ℕ
  scored = r.score.0 ++ sized

  abbrev kinded : List ℕ
  kinded = r.kind ++ scored

  from_130 : drop 130 (root_bytes r) ≡ kinded
  from_130 = sym (drop-drop 128 2 (root_bytes r)) ∙ drop_at r.name kinded 128 is.name

  from_258 : drop 258 (root_bytes r) ≡ scored
  from_258 =
      sym (drop-drop 128 130 (root_bytes r)) ∙ ap (λ (l : List ℕ). drop 128 l) from_130
      ∙ drop_at r.kind scored 128 is.kind

  from_278 : drop 278 (root_bytes r) ≡ sized
  from_278 =
      sym (drop-drop 20 258 (root_bytes r)) ∙ ap (λ (l : List ℕ). drop 20 l) from_258
      ∙ drop_at r.score.0 sized 20 is.score

  from_280 : drop 280 (root_bytes r) ≡ r.prev.0
  from_280 = sym (drop-drop 2 278 (root_bytes r)) ∙ ap (λ (l : List ℕ). drop 2 l) from_278

  pub root_read : root_in (root_bytes r) ≡ r
  root_read =
      let name : take 128 (drop 2 (root_bytes r)) ≡ r.name = take_at r.name kinded 128 is.name in
      let kind : take 128 (drop 130 (root_bytes r)) ≡ r.kind =
      ap (λ (l : List ℕ). take 128 l) from_130 ∙ take_at r.kind scored 128 is.kind in
      let score : take 20 (drop 258 (root_bytes r)) ≡ r.score.0 =
      ap (λ (l : List ℕ). take 20 l) from_258 ∙ take_at r.score.0 sized 20 is.score in
      let block_size : big_number 2 (drop 278 (root_bytes r)) ≡ r.block_size =
      ap (λ (l : List ℕ). big_number 2 l) from_278
      ∙ big_number-reads_back 2 r.block_size r.prev.0 is.block_size in
      λ i. record {
        name = name i;
        kind = kind i;
        score = record { 0 = score i };
        block_size = block_size i;
        prev = record { 0 = from_280 i };
      }

  pub root_len : length (root_bytes r) ≡ 300
  root_len =
      omega (
        arith,
        length-append r.name kinded,
        length-append r.kind scored,
        length-append r.score.0 sized,
        length-append (big_bytes 2 r.block_size) r.prev.0,
        is.name,
        is.kind,
        is.score,
        is.prev,
      )

pub spelled_root_is_read : (r : Root) (bytes : List ℕ) → IsRoot r → bytes ≡ root_bytes r
    → (root_in bytes ≡ r) × (length bytes ≡ 300) × (big_number 2 bytes ≡ 2)
spelled_root_is_read r bytes is s = (
  ap root_in s ∙ root_read r is,
  ap length s ∙ root_len r is,
  ap (λ (l : List ℕ). big_number 2 l) s,
)
