-- The streams of an archive stand for their folder, in each map that has its blocks.
use Rattle.std.proofs.Common.{◌≡◌, ℕ, zero, suc, ◌+◌, ◌*◌, ◌/◌, ◌%◌, ◌^◌, ◌<◌, ◌≤◌, Bool, true, false, Ok, List, [], ◌∷◌, ◌++◌, length, refl, sym, ◌∙◌, ap, arith, append_assoc, length-append}
use Rattle.std.specs.Prelude.{nat_lt, slice_index, Result, if◌then◌else◌}
use Rattle.std.specs.List.{All, AllByRecursion, flat_map}
use Rattle.std.proofs.Math.Nat.{div-add-mod', mod-lt, mul_assoc}
use Rattle.std.proofs.lemmas.Bool.{le-ltb}
use Rattle.std.proofs.lemmas.List.{get_or-append-add, get_or_append_left}
use Rattle.std.proofs.lemmas.List.Elements.{All-head, All-tail, All-nil, All-cons}
use Rattle.vt_tree.specs.declared.entry.Entry.{Entry}
use Rattle.vt_tree.specs.declared.plain.ContentError.{ContentError}
use Rattle.vt_tree.specs.Content.{AreGiven}
use Rattle.vt_tree.specs.Entries.{IsTreeEntry, SpellsEntry, flags_of, tree_entry_bytes, spelled_with}
use Rattle.vt_tree.specs.Streams.{Shape, FitsShape, depth_of, reach, tree_of, entry_of_stream}
use Rattle.vac_model.specs.Archives.{file_shape, directory_shape}

-- ---- shapes

pub fits_file : (bsize : ℕ) → 512 ≤ bsize → bsize ≤ 53248 → FitsShape (file_shape bsize)
fits_file bsize least most =
    let d = div-add-mod' bsize 20 in
    let m : bsize % 20 < 20 = mod-lt bsize (omega arith) in
    record {
      psize_least = omega (arith, d, m, least);
      psize_most = omega (arith, d, m, most);
      dsize_least = omega (arith, least);
      dsize_most = omega (arith, most);
    }

pub fits_directory : (bsize : ℕ) → 512 ≤ bsize → bsize ≤ 53248 → FitsShape (directory_shape bsize)
fits_directory bsize least most =
    let d = div-add-mod' bsize 20 in
    let m : bsize % 20 < 20 = mod-lt bsize (omega arith) in
    let e = div-add-mod' bsize 40 in
    let n : bsize % 40 < 40 = mod-lt bsize (omega arith) in
    record {
      psize_least = omega (arith, d, m, least);
      psize_most = omega (arith, d, m, most);
      dsize_least = omega (arith, e, n, least);
      dsize_most = omega (arith, e, n, most);
    }

-- ---- lists

pub all_left : {A : Type 0} (P : A → Type 0) (xs ys : List A) → All P (xs ++ ys) → All P xs
all_left P [] ys all = All-nil P
all_left P (x ∷ xs) ys all =
    All-cons P x xs (All-head P x (xs ++ ys) all)
    (all_left P xs ys (All-tail P x (xs ++ ys) all))

pub all_right : {A : Type 0} (P : A → Type 0) (xs ys : List A) → All P (xs ++ ys) → All P ys
all_right P [] ys all = all
all_right P (x ∷ xs) ys all = all_right P xs ys (All-tail P x (xs ++ ys) all)

-- a part of bytes that are given is given at its place
pub part_given : (byte : ℕ → Result ℕ ContentError) (xs ys zs : List ℕ)
    → AreGiven byte 0 (xs ++ (ys ++ zs)) → AreGiven byte (length xs) ys
part_given byte xs ys zs all i within =
    let len : length xs + i < length (xs ++ (ys ++ zs)) =
    omega (arith, within, length-append xs (ys ++ zs), length-append ys zs) in
    let here : slice_index (xs ++ (ys ++ zs)) (length xs + i) ≡ slice_index ys i =
    get_or-append-add xs (ys ++ zs) i 0 ∙ get_or_append_left ys zs 0 i within in
    let zero' : 0 + (length xs + i) ≡ length xs + i = omega arith in
    ap byte (sym zero') ∙ all (length xs + i) len ∙ ap (λ (n : ℕ). Ok n) here

module _ (score_of : List ℕ → List ℕ) (len : (block : List ℕ) → length (score_of block) ≡ 20)
  where
    tree_score : (shape : Shape) (d : ℕ) (leaves : List (List ℕ))
        → length (tree_of score_of shape d leaves).score ≡ 20
    tree_score shape zero leaves = len _
    tree_score shape (suc d) leaves = len _

    module _ (depth_is_least : (shape : Shape) (size : ℕ) → FitsShape shape → size ≤ 2 ^ 40
        → (depth_of shape size < 8) × (size ≤ reach shape (depth_of shape size))) where
      -- the entry of a stream may stand in a directory
      pub stream_entry : (shape : Shape) (bytes : List ℕ) → FitsShape shape
          → length bytes ≤ 2 ^ 40 → IsTreeEntry (entry_of_stream score_of shape bytes)
      stream_entry shape bytes fits short =
          let most : shape.psize ≤ 57344 = fits.psize_most in
          let most_d : shape.dsize ≤ 57344 = fits.dsize_most in
          let p : nat_lt shape.psize 20 ≡ false =
          le-ltb shape.psize 20 (omega (arith, fits.psize_least)) in
          let d : nat_lt shape.dsize (if shape.is_dir then 40 else 1) ≡ false =
          le-ltb shape.dsize (if shape.is_dir then 40 else 1)
          (omega (arith, small shape.is_dir, fits.dsize_least)) in
          record {
            fits = record {
              depth = (depth_is_least shape (length bytes) fits short).0;
              size = omega (arith, short);
            };
            ranges = record {
              generation = omega arith;
              psize = omega (arith, most);
              dsize = omega (arith, most_d);
              score = tree_score shape (depth_of shape (length bytes)) _;
            };
            allowed = rw (p, d) refl;
          }
        where
          small : (is_dir : Bool) → (if is_dir then 40 else 1) ≤ 480
          small true = omega arith
          small false = omega arith

-- the bytes of an entry spell it
pub spells : (e : Entry) → SpellsEntry e (tree_entry_bytes e)
spells e = record {
  flag_20 = false;
  flag_80 = false;
  between = 0 ∷ 0 ∷ 0 ∷ 0 ∷ 0 ∷ [];
  five = refl;
  is = ap (λ (f : ℕ). spelled_with e f (0 ∷ 0 ∷ 0 ∷ 0 ∷ 0 ∷ [])) (no_flags (flags_of e));
}
  where
    no_flags : (n : ℕ) → n ≡ n + 32 * 0 + 128 * 0
    no_flags n = omega arith

pub entry_len : (e : Entry) → IsTreeEntry e → length (tree_entry_bytes e) ≡ 40
entry_len e is = omega (arith, is.ranges.score)

pub entries_len : (entries : List Entry) → AllByRecursion IsTreeEntry entries
    → length (flat_map tree_entry_bytes entries) ≡ 40 * length entries
entries_len [] all = refl
entries_len (e ∷ entries) all =
    omega (
      arith,
      length-append (tree_entry_bytes e) (flat_map tree_entry_bytes entries),
      entry_len e all.0,
      entries_len entries all.1,
    )

-- ---- places of entries

pub place_is : (q i : ℕ) → 0 < q → i / q * (q * 40) + 40 * (i % q) ≡ 40 * i
place_is q i some =
    let d = div-add-mod' i q in
    let moved : i / q * (q * 40) ≡ i / q * q * 40 = sym (mul_assoc (i / q) q 40) in
    omega (arith, d, moved)

pub flat_split : (front : List Entry) (e : Entry) (back : List Entry)
    → flat_map tree_entry_bytes (front ++ e ∷ back)
    ≡ flat_map tree_entry_bytes front ++ (tree_entry_bytes e ++ flat_map tree_entry_bytes back)
flat_split [] e back = refl
flat_split (f ∷ front) e back =
    ap (λ (l : List ℕ). tree_entry_bytes f ++ l) (flat_split front e back)
    ∙ sym (append_assoc (tree_entry_bytes f) (flat_map tree_entry_bytes front)
    (tree_entry_bytes e ++ flat_map tree_entry_bytes back))
