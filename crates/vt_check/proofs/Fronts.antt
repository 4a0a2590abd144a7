-- What comes next of an arena, from what was read of it.
use Rattle.std.proofs.Common.{◌≡◌, ◌∙◌, ⊎_elim, ℕ, suc, min, ◌+◌, ◌-◌, ◌*◌, ◌<◌, ◌≤◌, Bool, true, false, List, ◌++◌, length, take, drop, map, refl, sym, ap, subst, arith, length-take, length-drop, length-append}
use Rattle.std.specs.Prelude.{nat_lt}
use Rattle.std.proofs.lemmas.Bool.{cases_lt, ltb-false}
use Rattle.std.proofs.lemmas.List.{drop-drop, length-map, take_at}
use Rattle.vt_arena.specs.declared.head.ArenaHead.{ArenaHead}
use Rattle.vt_arena.specs.Directory.{walks_headers}
use Rattle.vt_arena.specs.Layout.{directory_place}
use Rattle.vt_arena.proofs.Layouts.{part-part}
use Rattle.vt_disk.specs.Disk.{part}
use Rattle.vt_disk.specs.declared.region.Region.{Region}
use Rattle.vt_model.specs.declared.TheConstants.{ARENA_HEAD_LEN}
use Rattle.vt_check.specs.declared.clumps.Cut.{Cut}
use Rattle.vt_check.specs.Checking.{area_of, clumps_in, entries_at}
use Rattle.vt_check.specs.Following.{CutsFirst, IsFrontOf, cut_bytes, entries_in, taken_by_cuts}
use Rattle.vt_check.specs.Reading.{AreNextCuts}
use Rattle.vt_check.proofs.Following.{entries_read, entries_split}
use Rattle.vt_check.proofs.Judging.{length-entries_at}

module _ (region : Region) (head : ArenaHead) (file : List ℕ) (k used at : ℕ) (window entries : List ℕ) (more : Bool) (len count : ℕ) (cuts : List Cut)
    (least : ARENA_HEAD_LEN ≤ region.len) (at_is : at ≡ min (ARENA_HEAD_LEN + used) region.len)
    (read : window ≡ part (region.start + at) len file) (window_len : length window ≡ len)
    (within : at + len ≤ region.len) (more_is : more ≡ nat_lt len (region.len - at))
    (entries_are : walks_headers head ≡ false → entries ≡ part (region.start + (region.len - 25 * (k + count))) (25 * count) file)
    (fits : 25 * (k + count) ≤ region.len) (few : k + count ≤ head.clumps) (cuts_few : length cuts ≤ count)
    (first : (bytes : List ℕ) → IsFrontOf more window bytes → CutsFirst head.version window bytes cuts)
    (entered : walks_headers head ≡ false → map (λ cut. cut.entry) cuts ++ entries_in (count - length cuts) entries ≡ entries_in count entries) where
  -- what was read begins what is left; past the arena's end there is nothing
  window_is : take len (drop used (area_of region file)) ≡ window
  window_is = ⊎_elim
      (λ (past : region.len < ARENA_HEAD_LEN + used).
      let none : len ≡ 0 = omega (arith, past, at_is, within) in
      let nothing : window ≡ part (region.start + at) 0 file = read ∙ ap (λ (n : ℕ). part (region.start + at) n file) none in
      ap (λ (n : ℕ). take n (drop used (area_of region file))) none ∙ sym nothing)
      (λ (inside : ARENA_HEAD_LEN + used ≤ region.len).
      let place : region.start + ARENA_HEAD_LEN + used ≡ region.start + at = omega (arith, inside, at_is) in
      part-part (region.start + ARENA_HEAD_LEN) (region.len - ARENA_HEAD_LEN) used len file (omega (arith, inside, at_is, within))
      ∙ ap (λ (p : ℕ). part p len file) place ∙ sym read)
      (cases_lt region.len (ARENA_HEAD_LEN + used))

  front : IsFrontOf more window (drop used (area_of region file))
  front = record {
    front = ap (λ (n : ℕ). take n (drop used (area_of region file))) window_len ∙ window_is;
    whole = λ no.
        let left : region.len - at ≤ len = ltb-false len (region.len - at) (sym more_is ∙ no) in
        let most : length (drop used (area_of region file)) ≤ region.len - ARENA_HEAD_LEN - used =
        omega (arith, length-drop used (area_of region file), length-take (region.len - ARENA_HEAD_LEN) (drop (region.start + ARENA_HEAD_LEN) file)) in
        let some : len ≤ length (drop used (area_of region file)) =
        omega (arith, window_len, ap (λ (l : List ℕ). length l) window_is, length-take len (drop used (area_of region file))) in
        omega (arith, window_len, left, most, some, at_is);
  }

  entries_next : walks_headers head ≡ false → map (λ cut. cut.entry) cuts ≡ entries_at region k (length cuts) file
  entries_next off =
      let m : ℕ = length cuts in
      let es : List (List ℕ) = map (λ (c : Cut). c.entry) cuts in
      let long : length es ≡ m = length-map cuts (λ (c : Cut). c.entry) in
      let place : region.start + (region.len - 25 * (k + count)) ≡ directory_place region (k + count) = omega (arith, fits) in
      let buffer : entries ≡ part (directory_place region (k + count)) (25 * count) file =
      entries_are off ∙ ap (λ (p : ℕ). part p (25 * count) file) place in
      let read_all : entries_in count entries ≡ entries_at region k count file =
      ap (λ (l : List ℕ). entries_in count l) buffer ∙ entries_read region k count file (omega (arith, fits)) in
      let count_is : count ≡ m + (count - m) = omega (arith, cuts_few) in
      let split : entries_at region k count file ≡ entries_at region k m file ++ entries_at region (k + m) (count - m) file =
      ap (λ (n : ℕ). entries_at region k n file) count_is ∙ entries_split region k m (count - m) file in
      sym (take_at es (entries_in (count - m) entries) m long)
      ∙ ap (λ (l : List (List ℕ)). take m l) (entered off ∙ read_all ∙ split)
      ∙ take_at (entries_at region k m file) (entries_at region (k + m) (count - m) file) m (length-entries_at region k m file)

  pub is_next : AreNextCuts region head file k used window cuts
  is_next = record {
    next = first (drop used (area_of region file)) front (head.clumps - k) (omega (arith, few, cuts_few))
        ∙ ap (λ (l : List ℕ). map (cut_bytes window) cuts ++ clumps_in head.version (head.clumps - k - length cuts) l)
        (drop-drop (taken_by_cuts head.version cuts) used (area_of region file));
    entries = λ off.
        let split : head.clumps - k ≡ length cuts + (head.clumps - k - length cuts) = omega (arith, few, cuts_few) in
        ap (λ (n : ℕ). entries_at region k n file) split
        ∙ entries_split region k (length cuts) (head.clumps - k - length cuts) file
        ∙ ap (λ (l : List (List ℕ)). l ++ entries_at region (k + length cuts) (head.clumps - k - length cuts) file) (sym (entries_next off));
  }
