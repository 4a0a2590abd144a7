-- Entries and the bytes that spell them.
use Rattle.std.proofs.Common.{◌≡◌, ℕ, ◌+◌, ◌*◌, ◌/◌, ◌%◌, ◌<◌, ◌^◌, inl, inr, Bool, true, false, Option, Some, None, List, ◌∷◌, ◌++◌, length, take, drop, refl, sym, ◌∙◌, ap, subst, arith, length-drop}
use Rattle.std.specs.Prelude.{◌==◌}
use Rattle.std.proofs.lemmas.List.{drop_at, drop-drop, length-take-le, get_or-drop}
use Rattle.std.proofs.lemmas.Bool.{cases_Bool, eqb-true}
use Rattle.byteorder.specs.Endian.{big_number, big_bytes}
use Rattle.byteorder.specs.Numbers.{big_number-reads_back, big_from-lt}
use Rattle.vt_base.specs.Bytes.{AreBytes}
use Rattle.vt_base.specs.Fields.{drop-field, drop-number, drop-byte}
use Rattle.vt_tree.specs.declared.entry.Entry.{Entry}
use Rattle.vt_tree.specs.declared.entry.EntryError.{EntryError}
use Rattle.vt_tree.specs.Entries.{IsTreeEntry, FitsEntry, HasRanges, SpellsEntry, spelled_with, flags_of, bit, entry_in, flags_in, entry_fault, entry_fault_in, fault_behind}

-- ---- bits

bit_is : (x : ℕ) → x < 2 → bit (x == 1) ≡ x
bit_is x small = elim (cases_Bool (x == 1)) [
  | inl hit ↦ let one : x ≡ 1 = eqb-true x 1 hit in ap bit hit ∙ sym one
  | inr miss ↦ let none : x ≡ 0 = grind (arith, miss) in ap bit miss ∙ sym none
]

bit_back : (b : Bool) → (bit b == 1) ≡ b
bit_back true = refl
bit_back false = refl

bit_small : (b : Bool) → bit b < 2
bit_small true = omega arith
bit_small false = omega arith

-- the flags are their bits, where 0x40 isn't among them
flags_are : (flags : ℕ) → flags < 256 → flags / 64 % 2 ≡ 0
    → flags ≡ (bit (flags % 2 == 1) + 2 * bit (flags / 2 % 2 == 1) + 4 * (flags / 4 % 8))
    + 32 * bit (flags / 32 % 2 == 1) + 128 * bit (flags / 128 % 2 == 1)
flags_are flags small none =
    let a = bit_is (flags % 2) (omega arith) in
    let b = bit_is (flags / 2 % 2) (omega arith) in
    let c = bit_is (flags / 32 % 2) (omega arith) in
    let d = bit_is (flags / 128 % 2) (omega arith) in
    rw (a, b, c, d) (omega arith)

-- ---- what 40 bytes say is spelled so

module _ (bytes : List ℕ) (len : length bytes ≡ 40) (are : AreBytes bytes) where
  pub bytes_are : bytes ≡ spelled_with (entry_in bytes) (flags_in bytes) (take 5 (drop 9 bytes))
  bytes_are =
      let generation = drop-number 0 4 bytes (omega (arith, len)) are in
      let psize = drop-number 4 2 bytes (omega (arith, len)) are in
      let dsize = drop-number 6 2 bytes (omega (arith, len)) are in
      let flags = drop-byte 8 bytes (omega (arith, len)) in
      let between = drop-field 9 5 bytes in
      let size = drop-number 14 6 bytes (omega (arith, len)) are in
      let from_14 = ap (λ (l : List ℕ). take 5 (drop 9 bytes) ++ l) size in
      let from_9 = ap (λ (l : List ℕ). flags_in bytes ∷ l) (between ∙ from_14) in
      let from_8 =
      ap (λ (l : List ℕ). big_bytes 2 (big_number 2 (drop 6 bytes)) ++ l) (flags ∙ from_9) in
      let from_6 =
      ap (λ (l : List ℕ). big_bytes 2 (big_number 2 (drop 4 bytes)) ++ l) (dsize ∙ from_8) in
      generation ∙ ap (λ (l : List ℕ). big_bytes 4 (big_number 4 bytes) ++ l) (psize ∙ from_6)

  in_range : (n a : ℕ) → big_number n (drop a bytes) < 256 ^ n
  in_range n a = big_from-lt 0 n (drop a bytes)
      (λ i. subst (λ (b : ℕ). b < 256) (sym (get_or-drop a bytes i 0)) (are (a + i)))

  pub entry_spelled : flags_in bytes / 64 % 2 ≡ 0 → SpellsEntry (entry_in bytes) bytes
  entry_spelled none = record {
    flag_20 = flags_in bytes / 32 % 2 == 1;
    flag_80 = flags_in bytes / 128 % 2 == 1;
    between = take 5 (drop 9 bytes);
    five = length-take-le 5 (drop 9 bytes) (omega (arith, length-drop 9 bytes, len));
    is = bytes_are
        ∙ ap (λ (f : ℕ). spelled_with (entry_in bytes) f (take 5 (drop 9 bytes)))
        (flags_are (flags_in bytes) (are 8) none);
  }

  pub entry_fits : FitsEntry (entry_in bytes)
  entry_fits = record { depth = omega arith; size = in_range 6 14 }

  pub entry_ranges : HasRanges (entry_in bytes)
  entry_ranges = record {
    generation = in_range 4 0;
    psize = in_range 2 4;
    dsize = in_range 2 6;
    score = omega (arith, length-drop 20 bytes, len);
  }

-- ---- what spells an entry says it

module _ (e : Entry) (fits : FitsEntry e) (ranges : HasRanges e) (between : List ℕ)
    (five : length between ≡ 5) (x y : Bool) where
  abbrev flags : ℕ
  flags = flags_of e + 32 * bit x + 128 * bit y

  abbrev text : List ℕ
  text = spelled_with e flags between

  abbrev sized : List ℕ
  sized = big_bytes 6 e.size ++ e.score.0

  from_14 : drop 14 text ≡ sized
  from_14 = sym (drop-drop 5 9 text) ∙ drop_at between sized 5 five

  from_20 : drop 20 text ≡ e.score.0
  from_20 = sym (drop-drop 6 14 text) ∙ ap (λ (l : List ℕ). drop 6 l) from_14

  pub no_large : flags / 64 % 2 ≡ 0
  no_large =
      let a = bit_small e.active in
      let b = bit_small e.is_dir in
      let c = bit_small x in
      let d = bit_small y in
      let depth = fits.depth in
      omega arith

  depth_read : flags / 4 % 8 ≡ e.depth
  depth_read =
      let a = bit_small e.active in
      let b = bit_small e.is_dir in
      let c = bit_small x in
      let d = bit_small y in
      let depth = fits.depth in
      omega arith

  active_read : flags % 2 ≡ bit e.active
  active_read =
      let a = bit_small e.active in
      omega arith

  dir_read : flags / 2 % 2 ≡ bit e.is_dir
  dir_read =
      let a = bit_small e.active in
      let b = bit_small e.is_dir in
      omega arith

  pub entry_read : entry_in text ≡ e
  entry_read =
      let generation : big_number 4 text ≡ e.generation =
      big_number-reads_back 4 e.generation (drop 4 text) ranges.generation in
      let psize : big_number 2 (drop 4 text) ≡ e.psize =
      big_number-reads_back 2 e.psize (drop 6 text) ranges.psize in
      let dsize : big_number 2 (drop 6 text) ≡ e.dsize =
      big_number-reads_back 2 e.dsize (drop 8 text) ranges.dsize in
      let active : (flags % 2 == 1) ≡ e.active =
      ap (λ (n : ℕ). n == 1) active_read ∙ bit_back e.active in
      let is_dir : (flags / 2 % 2 == 1) ≡ e.is_dir =
      ap (λ (n : ℕ). n == 1) dir_read ∙ bit_back e.is_dir in
      let size : big_number 6 (drop 14 text) ≡ e.size =
      ap (λ (l : List ℕ). big_number 6 l) from_14
      ∙ big_number-reads_back 6 e.size e.score.0 fits.size in
      λ i. record {
        generation = generation i;
        psize = psize i;
        dsize = dsize i;
        active = active i;
        is_dir = is_dir i;
        depth = depth_read i;
        size = size i;
        score = record { 0 = from_20 i };
      }

no_fault : (flags : ℕ) → flags / 64 % 2 ≡ 0 → fault_behind None flags ≡ None
no_fault flags none = rw none refl

pub spelled_is_read : (e : Entry) (bytes : List ℕ) → IsTreeEntry e → SpellsEntry e bytes
    → (entry_in bytes ≡ e) × (entry_fault_in bytes ≡ None)
spelled_is_read e bytes is s =
    let read : entry_in bytes ≡ e =
    ap entry_in s.is ∙ entry_read e is.fits is.ranges s.between s.five s.flag_20 s.flag_80 in
    let large : flags_in bytes / 64 % 2 ≡ 0 =
    ap (λ (l : List ℕ). flags_in l / 64 % 2) s.is
    ∙ no_large e is.fits is.ranges s.between s.five s.flag_20 s.flag_80 in (
      read,
      ap (λ (o : Option EntryError). fault_behind o (flags_in bytes))
          (ap entry_fault read ∙ is.allowed)
          ∙ no_fault (flags_in bytes) large,
    )

pub not_large : (flags : ℕ) → (flags / 64 % 2 ≡ 1 → ⊥) → flags / 64 % 2 ≡ 0
not_large flags other = omega arith

pub no_fault_said : (o : Option EntryError) → ((b : EntryError) → o ≡ Some b → ⊥) → o ≡ None
no_fault_said None other = refl
no_fault_said (Some b) other = absurd (other b refl)
