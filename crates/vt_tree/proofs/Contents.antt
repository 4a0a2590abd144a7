-- The bytes of a file, in the cases that can be said in a line.
use Rattle.std.proofs.Common.{◌≡◌, ℕ, zero, suc, ◌+◌, ◌*◌, ◌/◌, ◌%◌, ◌<◌, ◌≤◌, ◌^◌, Bool, true, false, cond, Option, Some, None, Result, Ok, Err, List, [], length, take, drop, get_or, refl, sym, ◌∙◌, ap, arith}
use Rattle.std.specs.Prelude.{nat_lt, slice_index}
use Rattle.std.proofs.Math.Nat.{pow-zero, pow-suc}
use Rattle.std.proofs.lemmas.Bool.{lt-ltb, le-ltb, le-leb, eq-eqb, and_from}
use Rattle.std.proofs.lemmas.List.{ext_get_or}
use Rattle.std.proofs.lemmas.Nat.{div-mul-add, mod-mul-add, le-div}
use Rattle.vt_tree.specs.declared.entry.Entry.{Entry}
use Rattle.vt_tree.specs.declared.plain.ContentError.{ContentError}
use Rattle.vt_tree.specs.declared.plain.ContentError.TheVariants.{Absent, BadBlock}
use Rattle.vt_tree.specs.Content.{byte_of, byte_below, byte_of_leaf, fits_at, score_in, score_of_pointers, through, leaf_kind, pointer_kind, scores_in, AreGiven, IsFileContent}
use Rattle.vt_tree.specs.Maps.{BlockMap, IsWithin}

-- a byte of a leaf that fits
pub leaf_byte : (e : Entry) (block : List ℕ) (byte : ℕ) → length block ≤ e.dsize
    → byte_of_leaf e byte (Some block) ≡ Ok (slice_index block byte)
leaf_byte e block byte fits =
    ap (λ (b : Bool). cond b (Ok (slice_index block byte)) (Err (BadBlock 0 (length block))))
    (le-leb (length block) e.dsize fits)

-- what a pointer block that fits leads to
pub pointers_lead : (e : Entry) (d place : ℕ) (block : List ℕ) → fits_at e (suc d) block ≡ true
    → score_of_pointers e (suc d) place (Some block) ≡ Ok (score_in block place)
pointers_lead e d place block fits =
    ap (λ (b : Bool). cond b (Ok (score_in block place)) (Err (BadBlock (suc d) (length block))))
    fits

pub score_there : (block : List ℕ) (place : ℕ) → 20 * place < length block
    → score_in block place ≡ Some (take 20 (drop (20 * place) block))
score_there block place within =
    ap (λ (b : Bool). cond b (Some (take 20 (drop (20 * place) block))) None)
    (lt-ltb (20 * place) (length block) within)

pub no_score_there : (block : List ℕ) (place : ℕ) → length block ≤ 20 * place
    → score_in block place ≡ None
no_score_there block place past =
    ap (λ (b : Bool). cond b (Some (take 20 (drop (20 * place) block))) None)
    (le-ltb (20 * place) (length block) past)

no_bytes_fit : (e : Entry) (d : ℕ) → fits_at e (suc d) [] ≡ true
no_bytes_fit e d = rw (le-leb 0 e.psize (omega arith)) refl

-- below a score that has no bytes under any type, all are zeros
pub nothing_below : (map : BlockMap) (e : Entry) (d : ℕ) (score : List ℕ) (leaf byte : ℕ)
    → ((kind : ℕ) → map score kind ≡ Some []) → byte_below map e d score leaf byte ≡ Ok 0
nothing_below map e zero score leaf byte none =
    ap (byte_of_leaf e byte) (none (leaf_kind e.is_dir)) ∙ leaf_byte e [] byte (omega arith)
nothing_below map e (suc d) score leaf byte none =
    let place : ℕ = leaf / scores_in e.psize ^ d in
    let below = λ (s : List ℕ). byte_below map e d s (leaf % scores_in e.psize ^ d) byte in
    ap (λ (o : Option (List ℕ)). through (score_of_pointers e (suc d) place o) below)
    (none (pointer_kind (suc d)))
    ∙ ap (λ (r : Result (Option (List ℕ)) ContentError). through r below)
    (pointers_lead e d place [] (no_bytes_fit e d)
    ∙ ap (λ (o : Option (List ℕ)). Ok o) (no_score_there [] place (omega arith)))

-- below a pointer block that fits, by its score at the leaf's place
pub below_pointers : (map : BlockMap) (e : Entry) (d : ℕ) (score block s : List ℕ) (leaf byte : ℕ)
    → map score (pointer_kind (suc d)) ≡ Some block → fits_at e (suc d) block ≡ true
    → 20 * (leaf / scores_in e.psize ^ d) < length block
    → take 20 (drop (20 * (leaf / scores_in e.psize ^ d)) block) ≡ s
    → byte_below map e (suc d) score leaf byte
    ≡ byte_below map e d s (leaf % scores_in e.psize ^ d) byte
below_pointers map e d score block s leaf byte held fits within is =
    let place : ℕ = leaf / scores_in e.psize ^ d in
    let below = λ (t : List ℕ). byte_below map e d t (leaf % scores_in e.psize ^ d) byte in
    ap (λ (o : Option (List ℕ)). through (score_of_pointers e (suc d) place o) below) held
    ∙ ap (λ (r : Result (Option (List ℕ)) ContentError). through r below)
    (pointers_lead e d place block fits
    ∙ ap (λ (o : Option (List ℕ)). Ok o) (score_there block place within))
    ∙ ap below is

pub past_pointers : (map : BlockMap) (e : Entry) (d : ℕ) (score block : List ℕ) (leaf byte : ℕ)
    → map score (pointer_kind (suc d)) ≡ Some block → fits_at e (suc d) block ≡ true
    → length block ≤ 20 * (leaf / scores_in e.psize ^ d)
    → byte_below map e (suc d) score leaf byte ≡ Ok 0
past_pointers map e d score block leaf byte held fits past =
    let place : ℕ = leaf / scores_in e.psize ^ d in
    let below = λ (t : List ℕ). byte_below map e d t (leaf % scores_in e.psize ^ d) byte in
    ap (λ (o : Option (List ℕ)). through (score_of_pointers e (suc d) place o) below) held
    ∙ ap (λ (r : Result (Option (List ℕ)) ContentError). through r below)
    (pointers_lead e d place block fits
    ∙ ap (λ (o : Option (List ℕ)). Ok o) (no_score_there block place past))

-- one pointer block further down, as a program goes that knows its numbers
pub deeper : (map : BlockMap) (e : Entry) (d depth : ℕ) (score : List ℕ) (leaf byte leaves : ℕ)
    (found o : Option (List ℕ)) → suc d ≡ depth → leaves ≡ scores_in e.psize ^ d
    → found ≡ map score (pointer_kind depth)
    → score_of_pointers e depth (leaf / leaves) found ≡ Ok o
    → byte_below map e depth score leaf byte
    ≡ through (Ok o) (λ s. byte_below map e d s (leaf % leaves) byte)
deeper map e d depth score leaf byte leaves found o is leaves_is found_is told =
    let block : map score (pointer_kind (suc d)) ≡ found =
    ap (λ (k : ℕ). map score (pointer_kind k)) is ∙ sym found_is in
    let power : scores_in e.psize ^ d ≡ leaves = sym leaves_is in
    ap (λ (k : ℕ). byte_below map e k score leaf byte) (sym is)
    ∙ (λ i. through (score_of_pointers e (is i) (leaf / power i) (block i))
    (λ s. byte_below map e d s (leaf % power i) byte))
    ∙ ap (λ (r : Result (Option (List ℕ)) ContentError).
    through r (λ s. byte_below map e d s (leaf % leaves) byte)) told

-- ---- one leaf, none, and what isn't reached

div_small : (p d : ℕ) → p < d → p / d ≡ 0
div_small p d small =
    let sum : p ≡ 0 * d + p = omega arith in
    ap (λ (n : ℕ). n / d) sum ∙ div-mul-add 0 d p small

pub mod_small : (p d : ℕ) → p < d → p % d ≡ p
mod_small p d small =
    let sum : p ≡ 0 * d + p = omega arith in
    ap (λ (n : ℕ). n % d) sum ∙ mod-mul-add 0 d p small

-- byte p of the file, from its leaf and its place there
at_leaf : (map : BlockMap) (e : Entry) (d p leaf byte : ℕ) → e.depth ≡ d → p / e.dsize ≡ leaf
    → p % e.dsize ≡ byte → leaf < scores_in e.psize ^ d
    → byte_of map e p ≡ byte_below map e d e.score.0 leaf byte
at_leaf map e d p leaf byte depth leaf_is byte_is reached =
    (λ i. cond (nat_lt (leaf_is i) (scores_in e.psize ^ depth i))
    (byte_below map e (depth i) e.score.0 (leaf_is i) (byte_is i)) (Ok 0))
    ∙ ap (λ (b : Bool). cond b (byte_below map e d e.score.0 leaf byte) (Ok 0))
    (lt-ltb leaf (scores_in e.psize ^ d) reached)

pub one_leaf : (map : BlockMap) (e : Entry) (block : List ℕ) (p : ℕ)
    → map e.score.0 (leaf_kind e.is_dir) ≡ Some block → length block ≤ e.dsize → e.depth ≡ 0
    → p < e.dsize → byte_of map e p ≡ Ok (slice_index block p)
one_leaf map e block p held fits depth within =
    at_leaf map e 0 p 0 p depth (div_small p e.dsize within) (mod_small p e.dsize within)
    (let one = pow-zero (scores_in e.psize) in omega arith)
    ∙ ap (byte_of_leaf e p) held ∙ leaf_byte e block p fits

or_zero : (b : Bool) (x : Result ℕ ContentError) → x ≡ Ok 0 → cond b x (Ok 0) ≡ Ok 0
or_zero true x is = is
or_zero false x is = refl

pub no_block : (map : BlockMap) (e : Entry) (p : ℕ) → ((kind : ℕ) → map e.score.0 kind ≡ Some [])
    → byte_of map e p ≡ Ok 0
no_block map e p none = or_zero (nat_lt (p / e.dsize) (scores_in e.psize ^ e.depth))
    (byte_below map e e.depth e.score.0 (p / e.dsize) (p % e.dsize))
    (nothing_below map e e.depth e.score.0 (p / e.dsize) (p % e.dsize) none)

pub past_the_reach : (map : BlockMap) (e : Entry) (p : ℕ) → 0 < e.dsize
    → scores_in e.psize ^ e.depth * e.dsize ≤ p → byte_of map e p ≡ Ok 0
past_the_reach map e p some past =
    ap (λ (b : Bool).
    cond b (byte_below map e e.depth e.score.0 (p / e.dsize) (p % e.dsize)) (Ok 0))
    (le-ltb (p / e.dsize) (scores_in e.psize ^ e.depth)
    (le-div (scores_in e.psize ^ e.depth) p e.dsize some past))

-- ---- one pointer block

whole_fits : (e : Entry) (d : ℕ) (block : List ℕ) → length block ≤ e.psize
    → length block % 20 ≡ 0 → fits_at e (suc d) block ≡ true
whole_fits e d block fits whole =
    and_from _ _ (le-leb (length block) e.psize fits) (eq-eqb (length block % 20) 0 whole)

power_one : (n : ℕ) → n ^ 1 ≡ n
power_one n = pow-suc n 0 ∙ ap (λ (k : ℕ). k * n) (pow-zero n) ∙ one_times n
  where
    one_times : (n : ℕ) → 1 * n ≡ n
    one_times n = omega arith

-- at depth 1 the place of a leaf's score is the leaf's number
place_is : (e : Entry) (leaf : ℕ) → leaf / scores_in e.psize ^ 0 ≡ leaf
place_is e leaf = ap (λ (n : ℕ). leaf / n) (pow-zero (scores_in e.psize)) ∙ by_one leaf
  where
    by_one : (n : ℕ) → n / 1 ≡ n
    by_one n = omega arith

pub one_pointer_block : (map : BlockMap) (e : Entry) (pointers block : List ℕ) (leaf byte : ℕ)
    → map e.score.0 3 ≡ Some pointers → length pointers ≤ e.psize → length pointers % 20 ≡ 0
    → map (take 20 (drop (20 * leaf) pointers)) (leaf_kind e.is_dir) ≡ Some block
    → length block ≤ e.dsize → e.depth ≡ 1 → leaf < scores_in e.psize
    → 20 * leaf < length pointers → byte < e.dsize
    → byte_of map e (leaf * e.dsize + byte) ≡ Ok (slice_index block byte)
one_pointer_block map e pointers block leaf byte held fits whole below small depth reached stands
    within =
    let place = place_is e leaf in
    let there : 20 * (leaf / scores_in e.psize ^ 0) < length pointers = omega arith in
    at_leaf map e 1 (leaf * e.dsize + byte) leaf byte depth
    (div-mul-add leaf e.dsize byte within) (mod-mul-add leaf e.dsize byte within)
    (let one = power_one (scores_in e.psize) in omega arith)
    ∙ below_pointers map e 0 e.score.0 pointers (take 20 (drop (20 * leaf) pointers)) leaf byte held
    (whole_fits e 0 pointers fits whole) there
    (ap (λ (k : ℕ). take 20 (drop (20 * k) pointers)) place)
    ∙ ap (byte_of_leaf e byte) below ∙ leaf_byte e block byte small

pub past_one_pointer_block : (map : BlockMap) (e : Entry) (pointers : List ℕ) (p : ℕ)
    → map e.score.0 3 ≡ Some pointers → length pointers ≤ e.psize → length pointers % 20 ≡ 0
    → e.depth ≡ 1 → 0 < e.dsize → length pointers ≤ 20 * (p / e.dsize)
    → byte_of map e p ≡ Ok 0
past_one_pointer_block map e pointers p held fits whole depth some past =
    let place = place_is e (p / e.dsize) in
    let behind : length pointers ≤ 20 * (p / e.dsize / scores_in e.psize ^ 0) = omega arith in
    (λ i. cond (nat_lt (p / e.dsize) (scores_in e.psize ^ depth i))
    (byte_below map e (depth i) e.score.0 (p / e.dsize) (p % e.dsize)) (Ok 0))
    ∙ or_zero (nat_lt (p / e.dsize) (scores_in e.psize ^ 1))
    (byte_below map e 1 e.score.0 (p / e.dsize) (p % e.dsize))
    (past_pointers map e 0 e.score.0 pointers (p / e.dsize) (p % e.dsize) held
    (whole_fits e 0 pointers fits whole) behind)

-- ---- one content, which stays

pub one_content : (map : BlockMap) (e : Entry) (a b : List ℕ) → IsFileContent map e a
    → IsFileContent map e b → a ≡ b
one_content map e a b x y = ext_get_or 0 a b (x.all ∙ sym y.all)
    (λ i within. same (byte_of map e (0 + i)) (get_or a i 0) (get_or b i 0) (x.each i within)
    (y.each i (let all : length a ≡ length b = x.all ∙ sym y.all in omega arith)))
  where
    same : (r : Result ℕ ContentError) (m n : ℕ) → r ≡ Ok m → r ≡ Ok n → m ≡ n
    same r m n p q = let both : Ok m ≡ Ok n = sym p ∙ q in cc

module _ (old new : BlockMap) (within : IsWithin old new) (e : Entry) where
  -- what a block gave, it gives
  found_stays : {X : Type 0} (from : Option (List ℕ) → Result X ContentError) (trouble : ContentError)
      → from None ≡ Err trouble → (s : List ℕ) (kind : ℕ) (x : X)
      → from (old s kind) ≡ Ok x → from (new s kind) ≡ from (old s kind)
  found_stays {X} from trouble none s kind x given = of (old s kind) refl
    where
      of : (found : Option (List ℕ)) → old s kind ≡ found
          → from (new s kind) ≡ from (old s kind)
      of None is =
          let never : Err trouble ≡ Ok x = sym none ∙ ap from (sym is) ∙ given in cc
      of (Some block) is = ap from (within s kind block is ∙ sym is)

  leads_on : (r : Result (Option (List ℕ)) ContentError) (f g : List ℕ → Result ℕ ContentError) (b : ℕ)
      → ((s : List ℕ) → f s ≡ Ok b → g s ≡ Ok b) → through r f ≡ Ok b → through r g ≡ Ok b
  leads_on (Err trouble) f g b more given = given
  leads_on (Ok None) f g b more given = given
  leads_on (Ok (Some s)) f g b more given = more s given

  below_stays : (d : ℕ) (score : List ℕ) (leaf byte b : ℕ)
      → byte_below old e d score leaf byte ≡ Ok b → byte_below new e d score leaf byte ≡ Ok b
  below_stays zero score leaf byte b given =
      found_stays (byte_of_leaf e byte) Absent refl score (leaf_kind e.is_dir) b given ∙ given
  below_stays (suc d) score leaf byte b given =
      let place : ℕ = leaf / scores_in e.psize ^ d in
      let inside : ℕ = leaf % scores_in e.psize ^ d in
      let more = leads_on (score_of_pointers e (suc d) place (old score (pointer_kind (suc d))))
      (λ s. byte_below old e d s inside byte) (λ s. byte_below new e d s inside byte) b
      (λ s. below_stays d s inside byte b) given in
      found_stays (λ (o : Option (List ℕ)). through (score_of_pointers e (suc d) place o)
      (λ s. byte_below new e d s inside byte)) Absent refl score (pointer_kind (suc d)) b more
      ∙ more

  byte_stays : (p b : ℕ) → byte_of old e p ≡ Ok b → byte_of new e p ≡ Ok b
  byte_stays p b given =
      either (nat_lt (p / e.dsize) (scores_in e.psize ^ e.depth))
      (byte_below old e e.depth e.score.0 (p / e.dsize) (p % e.dsize))
      (byte_below new e e.depth e.score.0 (p / e.dsize) (p % e.dsize))
      (below_stays e.depth e.score.0 (p / e.dsize) (p % e.dsize) b) given
    where
      either : (t : Bool) (x y : Result ℕ ContentError) → (x ≡ Ok b → y ≡ Ok b)
          → cond t x (Ok 0) ≡ Ok b → cond t y (Ok 0) ≡ Ok b
      either true x y more given = more given
      either false x y more given = given

pub part_stays : (old new : BlockMap) (e : Entry) (at : ℕ) (bytes : List ℕ) → IsWithin old new
    → AreGiven (byte_of old e) at bytes → AreGiven (byte_of new e) at bytes
part_stays old new e at bytes within given i inside =
    byte_stays old new within e (at + i) (get_or bytes i 0) (given i inside)
