-- The bytes of entries, and the entries in bytes.
use Rattle.std.proofs.Common.{◌≡◌, ℕ, ◌+◌, ◌*◌, ◌^◌, ◌<◌, List, [], ◌∷◌, ◌++◌, length, take, drop, refl, sym, ◌∙◌, ap, subst, arith, append_assoc, append-nil, length-append, length-take}
use Rattle.std.specs.Prelude.{slice_index}
use Rattle.std.specs.List.{AllByRecursion}
use Rattle.std.proofs.lemmas.List.{take_at, drop_at, drop_all, drop-drop, get_or-drop}
use Rattle.byteorder.specs.Endian.{big_number, big_bytes}
use Rattle.byteorder.specs.Numbers.{big_number-reads_back, big_from-lt}
use Rattle.vt_base.specs.Bytes.{AreBytes}
use Rattle.vt_base.specs.Kind.{IsKind}
use Rattle.vt_base.specs.declared.place.Entry.{Entry}
use Rattle.vt_base.specs.Fields.{drop-field, drop-byte, drop-number}
use Rattle.vt_bucket.specs.Frame.{cell, cells, IsIndexEntry}

-- what the fields of an entry say, by their places
abbrev entry_in : List ℕ → Entry
entry_in bytes = record {
  key = record { score = record { 0 = take 20 bytes }; kind = slice_index bytes 20 };
  size = big_number 2 (drop 21 bytes);
  place = record { arena = big_number 4 (drop 23 bytes); offset = big_number 4 (drop 27 bytes) };
}

-- bytes with these fields are those of the entry
pub cell_read : (bytes : List ℕ) (e : Entry) → length bytes ≡ 31 → AreBytes bytes → e.key.score.0 ≡ take 20 bytes → IsKind (slice_index bytes 20) → e.key.kind ≡ slice_index bytes 20
    → e.size ≡ big_number 2 (drop 21 bytes) → e.place.arena ≡ big_number 4 (drop 23 bytes) → e.place.offset ≡ big_number 4 (drop 27 bytes) → IsIndexEntry e × (bytes ≡ cell e)
cell_read bytes e long are score kind kind_is size arena offset =
    let below : (a n : ℕ) → big_number n (drop a bytes) < 256 ^ n =
    λ a n. big_from-lt 0 n (drop a bytes) (λ i. subst (λ (b : ℕ). b < 256) (sym (get_or-drop a bytes i 0)) (are (a + i))) in
    let none : drop 31 bytes ≡ [] = drop_all 31 bytes (omega (arith, long)) in
    let e20 : drop 20 bytes ≡ e.key.kind ∷ drop 21 bytes = drop-byte 20 bytes (omega (arith, long)) ∙ ap (λ (b : ℕ). b ∷ drop 21 bytes) (sym kind_is) in
    let e21 : drop 21 bytes ≡ big_bytes 2 e.size ++ drop 23 bytes =
    drop-number 21 2 bytes (omega (arith, long)) are ∙ ap (λ (n : ℕ). big_bytes 2 n ++ drop 23 bytes) (sym size) in
    let e23 : drop 23 bytes ≡ big_bytes 4 e.place.arena ++ drop 27 bytes =
    drop-number 23 4 bytes (omega (arith, long)) are ∙ ap (λ (n : ℕ). big_bytes 4 n ++ drop 27 bytes) (sym arena) in
    let e27 : drop 27 bytes ≡ big_bytes 4 e.place.offset =
    drop-number 27 4 bytes (omega (arith, long)) are ∙ (λ i. big_bytes 4 (sym offset i) ++ none i) in (
      record {
        kind = subst IsKind (sym kind_is) kind;
        score_len = ap length score ∙ length_20;
        size = subst (λ (n : ℕ). n < 2 ^ 16) (sym size) (below 21 2);
        arena = subst (λ (n : ℕ). n < 2 ^ 32) (sym arena) (below 23 4);
        offset = subst (λ (n : ℕ). n < 2 ^ 32) (sym offset) (below 27 4);
      },
      drop-field 0 20 bytes ∙ (λ i. sym score i ++ e20 i) ∙ ap (λ (l : List ℕ). e.key.score.0 ++ (e.key.kind ∷ l)) (e21
          ∙ ap (λ (l : List ℕ). big_bytes 2 e.size ++ l) (e23 ∙ ap (λ (l : List ℕ). big_bytes 4 e.place.arena ++ l) e27)),
    )
  where
    length_20 : length (take 20 bytes) ≡ 20
    length_20 = omega (arith, length-take 20 bytes, long)

-- an entry reads back, whatever follows it
module _ (e : Entry) (rest : List ℕ) (is : IsIndexEntry e) where
  abbrev bytes : List ℕ
  bytes = cell e ++ rest

  abbrev behind : List ℕ
  behind = e.key.kind ∷ (big_bytes 2 e.size ++ (big_bytes 4 e.place.arena ++ (big_bytes 4 e.place.offset ++ rest)))

  fields : bytes ≡ e.key.score.0 ++ behind
  fields = append_assoc e.key.score.0 _ rest

  at_20 : drop 20 bytes ≡ behind
  at_20 = ap (λ (l : List ℕ). drop 20 l) fields ∙ drop_at e.key.score.0 behind 20 is.score_len

  at_21 : drop 21 bytes ≡ big_bytes 2 e.size ++ (big_bytes 4 e.place.arena ++ (big_bytes 4 e.place.offset ++ rest))
  at_21 = sym (drop-drop 1 20 bytes) ∙ ap (λ (l : List ℕ). drop 1 l) at_20

  at_23 : drop 23 bytes ≡ big_bytes 4 e.place.arena ++ (big_bytes 4 e.place.offset ++ rest)
  at_23 = sym (drop-drop 3 20 bytes) ∙ ap (λ (l : List ℕ). drop 3 l) at_20

  at_27 : drop 27 bytes ≡ big_bytes 4 e.place.offset ++ rest
  at_27 = sym (drop-drop 7 20 bytes) ∙ ap (λ (l : List ℕ). drop 7 l) at_20

  pub drop-cell : drop 31 bytes ≡ rest
  drop-cell = sym (drop-drop 11 20 bytes) ∙ ap (λ (l : List ℕ). drop 11 l) at_20

  pub kind-cell : slice_index bytes 20 ≡ e.key.kind
  kind-cell = sym (get_or-drop 20 bytes 0 0) ∙ ap (λ (l : List ℕ). slice_index l 0) at_20

  pub entry_in-cell : entry_in bytes ≡ e
  entry_in-cell = λ i. record {
    key = record { score = record { 0 = (ap (λ (l : List ℕ). take 20 l) fields ∙ take_at e.key.score.0 behind 20 is.score_len) i }; kind = kind-cell i };
    size = (ap (λ (l : List ℕ). big_number 2 l) at_21 ∙ big_number-reads_back 2 e.size (big_bytes 4 e.place.arena ++ (big_bytes 4 e.place.offset ++ rest)) is.size) i;
    place = record {
      arena = (ap (λ (l : List ℕ). big_number 4 l) at_23 ∙ big_number-reads_back 4 e.place.arena (big_bytes 4 e.place.offset ++ rest) is.arena) i;
      offset = (ap (λ (l : List ℕ). big_number 4 l) at_27 ∙ big_number-reads_back 4 e.place.offset rest is.offset) i;
    };
  }

pub one_entry : (a b : Entry) (x y : List ℕ) → IsIndexEntry a → IsIndexEntry b → cell a ++ x ≡ cell b ++ y → (a ≡ b) × (x ≡ y)
one_entry a b x y is also same =
    (sym (entry_in-cell a x is) ∙ ap entry_in same ∙ entry_in-cell b y also, sym (drop-cell a x is) ∙ ap (λ (l : List ℕ). drop 31 l) same ∙ drop-cell b y also)

-- as many entries, which begin the same bytes
pub one_list : (xs ys : List Entry) (r s : List ℕ) → length xs ≡ length ys → AllByRecursion IsIndexEntry xs → AllByRecursion IsIndexEntry ys → cells xs ++ r ≡ cells ys ++ s
    → (xs ≡ ys) × (r ≡ s)
one_list [] [] r s long each also same = (refl, same)
one_list [] (y ∷ ys) r s long each also same = absurd (omega arith)
one_list (x ∷ xs) [] r s long each also same = absurd (omega arith)
one_list (x ∷ xs) (y ∷ ys) r s long each also same =
    let regrouped : cell x ++ (cells xs ++ r) ≡ cell y ++ (cells ys ++ s) = sym (append_assoc (cell x) (cells xs) r) ∙ same ∙ append_assoc (cell y) (cells ys) s in
    let front = one_entry x y (cells xs ++ r) (cells ys ++ s) each.0 also.0 regrouped in
    let behind = one_list xs ys r s (omega arith) each.1 also.1 front.1 in
    ((λ i. front.0 i ∷ behind.0 i), behind.1)

-- one more entry
pub each_push : (xs : List Entry) (y : Entry) → AllByRecursion IsIndexEntry xs → IsIndexEntry y → AllByRecursion IsIndexEntry (xs ++ y ∷ [])
each_push [] y each is = (is, tt)
each_push (x ∷ xs) y each is = (each.0, each_push xs y each.1 is)

pub cells_push : (xs : List Entry) (y : Entry) (rest : List ℕ) → cells (xs ++ y ∷ []) ++ rest ≡ cells xs ++ (cell y ++ rest)
cells_push [] y rest = ap (λ (l : List ℕ). l ++ rest) (append-nil (cell y))
cells_push (x ∷ xs) y rest =
    append_assoc (cell x) (cells (xs ++ y ∷ [])) rest ∙ ap (λ (l : List ℕ). cell x ++ l) (cells_push xs y rest) ∙ sym (append_assoc (cell x) (cells xs) (cell y ++ rest))

-- the fields of an entry, written one behind another from a place on
pub fields_written : (e : Entry) (at a1 a2 a3 a4 : ℕ) (b0 b1 b2 b3 b4 b5 : List ℕ) → length e.key.score.0 ≡ 20
    → a1 ≡ at + length e.key.score.0 → a2 ≡ a1 + 1 → a3 ≡ a2 + 2 → a4 ≡ a3 + 4
    → take (at + length e.key.score.0) b1 ≡ take at b0 ++ e.key.score.0
    → take (a1 + 1) b2 ≡ take a1 b1 ++ e.key.kind ∷ []
    → take (a2 + 2) b3 ≡ take a2 b2 ++ big_bytes 2 e.size
    → take (a3 + 4) b4 ≡ take a3 b3 ++ big_bytes 4 e.place.arena
    → take (a4 + 4) b5 ≡ take a4 b4 ++ big_bytes 4 e.place.offset
    → take (at + 31) b5 ≡ take at b0 ++ cell e
fields_written e at a1 a2 a3 a4 b0 b1 b2 b3 b4 b5 long p1 p2 p3 p4 w1 w2 w3 w4 w5 =
    let end : at + 31 ≡ a4 + 4 = omega arith in
    let score = ap (λ (n : ℕ). take n b1) p1 ∙ w1 in
    let kind = ap (λ (n : ℕ). take n b2) p2 ∙ w2 ∙ ap (λ (l : List ℕ). l ++ e.key.kind ∷ []) score in
    let size = ap (λ (n : ℕ). take n b3) p3 ∙ w3 ∙ ap (λ (l : List ℕ). l ++ big_bytes 2 e.size) kind in
    let arena = ap (λ (n : ℕ). take n b4) p4 ∙ w4 ∙ ap (λ (l : List ℕ). l ++ big_bytes 4 e.place.arena) size in
    let offset = ap (λ (n : ℕ). take n b5) end ∙ w5 ∙ ap (λ (l : List ℕ). l ++ big_bytes 4 e.place.offset) arena in
    offset ∙ simp append_assoc
