-- Files that have room, one after another.
use Rattle.std.proofs.Common.{◌≡◌, ◌+◌, ◌-◌, ◌<◌, ◌≤◌, ◌++◌, ℕ, suc, true, false, List, [], ◌∷◌, length, take, drop, get_or, refl, sym, ◌∙◌, ap, subst, arith, add-one, append_assoc, drop-cons, inl, inr, length-append, ◌^◌}
use Rattle.std.specs.Prelude.{nat_le}
use Rattle.std.specs.List.{flat_map}
use Rattle.std.proofs.lemmas.Bool.{cases_Bool, le-leb, leb-true, lt-leb}
use Rattle.std.proofs.lemmas.Grind.{flat_map-append}
use Rattle.std.proofs.lemmas.List.{append-nil, drop_all, length-take-le}
use Rattle.vac_read.specs.declared.node.Node.{Node}
use Rattle.vac_read.specs.declared.node.Stored.{Stored}
use Rattle.vac_read.specs.declared.node.Stored.TheVariants as stored
use Rattle.vac_read.proofs.Lists.{take_more}
use Rattle.nine_wire.specs.Messages.{FitsStat, string}
use Rattle.nine_wire.specs.Writing.{WritesField}
use Rattle.nine_view.specs.Answers.{fitting}
use Rattle.nine_view.specs.Files.{FitsMessage, folder_bit, stat_in, stat_of}

abbrev pub FitsSoFar : (room end i : ℕ) → List Node → Type 0
FitsSoFar room end i files =
    fitting room files ≡ take i files ++ fitting (room - end) (drop i files)

next_file : (files : List Node) (i : ℕ) (node : Node) → i < length files
    → node ≡ get_or files i node → drop i files ≡ node ∷ drop (i + 1) files
next_file files i node within is =
    drop-cons files i node within
    ∙ ap (λ n. n ∷ drop (suc i) files) (sym is)
    ∙ ap (λ k. node ∷ drop k files) (sym (add-one i))

pub one_more_fits : (room end i : ℕ) (files : List Node) (node : Node) → i < length files
    → node ≡ get_or files i node → FitsSoFar room end i files
    → nat_le (length (stat_in node)) (room - end) ≡ true
    → FitsSoFar room (end + length (stat_in node)) (i + 1) files
one_more_fits room end i files node within is so fits =
    let n : ℕ = length (stat_in node) in
    let rest : List Node = drop (i + 1) files in
    let less : room - end - n ≡ room - (end + n) = omega arith in
    let first : fitting (room - end) (node ∷ rest) ≡ node ∷ fitting (room - end - n) rest =
    rw fits refl in
    so
    ∙ ap (λ l. take i files ++ fitting (room - end) l) (next_file files i node within is)
    ∙ ap (λ l. take i files ++ l) (first ∙ ap (λ r. node ∷ fitting r rest) less)
    ∙ sym (append_assoc (take i files) (node ∷ []) (fitting (room - (end + n)) rest))
    ∙ ap (λ l. l ++ fitting (room - (end + n)) rest) (sym (take_more files i node within is))

pub no_more_fits : (room end i : ℕ) (files : List Node) (node : Node) → i < length files
    → node ≡ get_or files i node → FitsSoFar room end i files
    → nat_le (length (stat_in node)) (room - end) ≡ false
    → fitting room files ≡ take i files
no_more_fits room end i files node within is so full =
    let rest : List Node = drop (i + 1) files in
    let first : fitting (room - end) (node ∷ rest) ≡ [] = rw full refl in
    so
    ∙ ap (λ l. take i files ++ fitting (room - end) l) (next_file files i node within is)
    ∙ ap (λ l. take i files ++ l) first
    ∙ append-nil (take i files)

pub all_fit : (room end i : ℕ) (files : List Node) → length files ≤ i
    → FitsSoFar room end i files → fitting room files ≡ take i files
all_fit room end i files over so =
    so
    ∙ ap (λ l. take i files ++ fitting (room - end) l) (drop_all i files over)
    ∙ append-nil (take i files)

-- and what is told of them is no longer than the room
pub fitting_within : (room : ℕ) (files : List Node)
    → length (flat_map stat_in (fitting room files)) ≤ room
fitting_within room [] = omega arith
fitting_within room (node ∷ files) =
    let told : List ℕ = stat_in node in
    elim (cases_Bool (nat_le (length told) room)) [
      | inl a ↦ rw a (
          let rest = fitting_within (room - length told) files in
          let few = leb-true (length told) room a in
          omega (arith, length-append told (flat_map stat_in (fitting (room - length told) files))))
      | inr a ↦ rw a (omega arith)
    ]

-- and they are no more than there are
pub fitting_few : (room : ℕ) (files : List Node) → length (fitting room files) ≤ length files
fitting_few room [] = omega arith
fitting_few room (node ∷ files) =
    elim (cases_Bool (nat_le (length (stat_in node)) room)) [
      | inl a ↦ rw a (
          let rest = fitting_few (room - length (stat_in node)) files in omega arith)
      | inr a ↦ rw a (omega arith)
    ]

-- ---- written one after another

pub record PutsSoFar (room : ℕ) (files : List Node) (i count end : ℕ) (buf : List ℕ) : Type 0 where
  pub within : end ≤ room
  pub so_far : FitsSoFar room end i files
  pub count_is : count ≡ i
  pub end_is : end ≡ length (flat_map stat_in (take i files))
  pub written : take end buf ≡ flat_map stat_in (take i files)

-- as many as have room were written
pub record PutsAll (room : ℕ) (files : List Node) (count end : ℕ) (buf : List ℕ) : Type 0 where
  pub count_is : count ≡ length (fitting room files)
  pub end_is : end ≡ length (flat_map stat_in (fitting room files))
  pub written : take end buf ≡ flat_map stat_in (fitting room files)

pub puts_none : (room : ℕ) (files : List Node) (buf : List ℕ) → PutsSoFar room files 0 0 0 buf
puts_none room files buf =
    let all : room ≡ room - 0 = omega arith in
    record {
      within = omega arith;
      so_far = ap (λ (n : ℕ). fitting n files) all;
      count_is = refl;
      end_is = refl;
      written = refl;
    }

pub puts_more : (room : ℕ) (files : List Node) (i count end end' : ℕ) (buf buf' : List ℕ)
    (node : Node) → i < length files → node ≡ get_or files i node
    → PutsSoFar room files i count end buf → length (stat_in node) ≤ room - end
    → WritesField end end' buf buf' (stat_in node)
    → PutsSoFar room files (i + 1) (count + 1) end' buf'
puts_more room files i count end end' buf buf' node within is so fits writes =
    let told : List ℕ = flat_map stat_in (take i files) in
    let more : flat_map stat_in (take (i + 1) files) ≡ told ++ stat_in node =
    ap (λ (l : List Node). flat_map stat_in l) (take_more files i node within is)
    ∙ flat_map-append stat_in (take i files) (node ∷ [])
    ∙ ap (λ (l : List ℕ). told ++ l) (append-nil (stat_in node)) in
    let ends = writes.ends in
    let room_left = so.within in
    record {
      within = omega arith;
      so_far = subst (λ (n : ℕ). FitsSoFar room n (i + 1) files) (sym ends)
          (one_more_fits room end i files node within is so.so_far
          (le-leb (length (stat_in node)) (room - end) fits));
      count_is = ap (λ (n : ℕ). n + 1) so.count_is;
      end_is = ends ∙ ap (λ (n : ℕ). n + length (stat_in node)) so.end_is
          ∙ sym (length-append told (stat_in node)) ∙ ap (λ (l : List ℕ). length l) (sym more);
      written = writes.written ∙ ap (λ (l : List ℕ). l ++ stat_in node) so.written ∙ sym more;
    }

puts_all : (room : ℕ) (files : List Node) (i count end : ℕ) (buf : List ℕ)
    → i ≤ length files → PutsSoFar room files i count end buf
    → fitting room files ≡ take i files → PutsAll room files count end buf
puts_all room files i count end buf within so is = record {
  count_is = so.count_is ∙ sym (length-take-le i files within)
      ∙ ap (λ (l : List Node). length l) (sym is);
  end_is = so.end_is ∙ ap (λ (l : List Node). length (flat_map stat_in l)) (sym is);
  written = so.written ∙ ap (λ (l : List Node). flat_map stat_in l) (sym is);
}

-- the next has no room
pub puts_full : (room : ℕ) (files : List Node) (i count end : ℕ) (buf : List ℕ) (node : Node)
    → i < length files → node ≡ get_or files i node → PutsSoFar room files i count end buf
    → room - end < length (stat_in node) → PutsAll room files count end buf
puts_full room files i count end buf node within is so full =
    puts_all room files i count end buf (omega arith) so
    (no_more_fits room end i files node within is so.so_far
    (lt-leb (length (stat_in node)) (room - end) full))

-- there is no next
pub puts_each : (room : ℕ) (files : List Node) (i count end : ℕ) (buf : List ℕ)
    → i ≤ length files → length files ≤ i → PutsSoFar room files i count end buf
    → PutsAll room files count end buf
puts_each room files i count end buf within over so =
    puts_all room files i count end buf within so (all_fit room end i files over so.so_far)

-- ---- what is told of a file has room

bit_most : (s : Stored) → folder_bit s ≤ 2147483648
bit_most (stored.File e) = omega arith
bit_most (stored.Folder entries metadata) = omega arith

pub fits_stat : (node : Node) → FitsMessage node → node.qid < 2 ^ 64 → node.item.mtime < 2 ^ 32
    → node.size < 2 ^ 64 → FitsStat (stat_of node)
fits_stat node told qid mtime size =
    let item = told.item in
    let bit = bit_most node.stored in
    let name : List ℕ = node.item.name in
    let uid : List ℕ = node.item.uid in
    let gid : List ℕ = node.item.gid in
    record {
      path = qid;
      mode = let m = item.mode in omega arith;
      mtime = mtime;
      len = size;
      whole = omega (
        arith,
        item.name,
        item.uid,
        item.gid,
        length-append name (string uid ++ (string gid ++ string uid)),
        length-append uid (string gid ++ string uid),
        length-append gid (string uid),
      );
    }
