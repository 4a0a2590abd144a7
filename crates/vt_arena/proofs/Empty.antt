-- What formatting leaves of a region.
use Rattle.std.proofs.Common.{◌≡◌, ℕ, ◌+◌, ◌-◌, ◌*◌, ◌%◌, ◌≤◌, inl, List, ◌++◌, Result, Ok, Err, length, take, drop, refl, sym, ◌∙◌, ap, arith, take-append-drop}
use Rattle.std.specs.Prelude.{OnOk, replicate, slice_index}
use Rattle.std.proofs.lemmas.List.{length-replicate, drop-replicate}
use Rattle.vt_disk.specs.declared.region.Region.{Region}
use Rattle.vt_disk.specs.Disk.{part}
use Rattle.vt_twin.specs.Frames.{frame_of as frame_at, current_frame, selector_start, selector_bytes}
use Rattle.vt_model.specs.declared.TheConstants.{ARENA_HEAD_LEN}
use Rattle.vt_arena.specs.declared.TheConstants.{FRAME_LEN, FIELDS_LEN, LAST_LEN}
use Rattle.vt_arena.specs.declared.head.ArenaHead.{ArenaHead}
use Rattle.vt_arena.specs.Heads.{fields_with, head_frame, own_fields}
use Rattle.vt_arena.specs.Layout.{IsArena, BytesStandAt, arena_head, empty}
use Rattle.byteorder.specs.Endian.{big_bytes}
use Rattle.vt_arena.proofs.Unique.{frame_fields}

pub on_ok : {T E : Type 0} (r : Result T E) {P Q : Type 0} → (P → Q) → OnOk r P → OnOk r Q
on_ok (Ok it) gives p = gives p
on_ok (Err e) gives p = p

pub on_both : {T E : Type 0} (r : Result T E) {P Q R : Type 0} → (P → Q → R) → OnOk r P → OnOk r Q → OnOk r R
on_both (Ok it) gives p q = gives p q
on_both (Err e) gives p q = p

-- the frame that is written
pub written_frame : (h : ArenaHead) (frame : List ℕ) → take FIELDS_LEN frame ≡ fields_with h (big_bytes LAST_LEN h.last) → drop FIELDS_LEN frame ≡ drop FIELDS_LEN (replicate FRAME_LEN 0) → frame ≡ head_frame h
written_frame h frame fields rest =
    sym (take-append-drop FIELDS_LEN frame) ∙ (λ i. fields i ++ (rest ∙ drop-replicate {X = ℕ} FIELDS_LEN FRAME_LEN 0) i)

-- frames of so many bytes
module _ (region : Region) (n : ℕ) (n_is : n ≡ FRAME_LEN) (file : List ℕ) where
  pub frame_there : (k : ℕ) → frame_at region FRAME_LEN k file ≡ frame_at region n k file
  frame_there k i = part (region.start + sym n_is i * k) (sym n_is i) file

  pub current_there : current_frame region FRAME_LEN file ≡ current_frame region n file
  current_there i = part (region.start + sym n_is i * (slice_index file (region.start + 2 * sym n_is i) % 2)) (sym n_is i) file

  pub selector_there : part (region.start + 2 * n) (ARENA_HEAD_LEN - 2 * n) file ≡ selector_bytes 0 (ARENA_HEAD_LEN - 2 * n)
      → BytesStandAt (selector_start region FRAME_LEN) (selector_bytes 0 (ARENA_HEAD_LEN - 2 * FRAME_LEN)) file
  selector_there is =
      let whole : length (selector_bytes 0 (ARENA_HEAD_LEN - 2 * FRAME_LEN)) ≡ ARENA_HEAD_LEN - 2 * n = omega (arith, length-replicate {A = ℕ} 8191 0, n_is) in
      let short : ARENA_HEAD_LEN - 2 * n ≡ ARENA_HEAD_LEN - 2 * FRAME_LEN = omega (arith, n_is) in
      (λ i. part (region.start + 2 * sym n_is i) (whole i) file) ∙ is ∙ ap (selector_bytes 0) short

-- the empty arena
pub empty_arena : (score_of : List ℕ → List ℕ) (region : Region) (number : ℕ) (file frame : List ℕ) → 32768 ≤ region.len
    → current_frame region FRAME_LEN file ≡ frame → frame ≡ head_frame (arena_head score_of number empty) → IsArena score_of region number empty file
empty_arena score_of region number file frame least current is = record {
  content = record { version = inl refl; stored = λ k d below. absurd (omega (arith, below)); linked = λ second. tt; fit = omega arith };
  head = ap own_fields (current ∙ is) ∙ frame_fields (arena_head score_of number empty) (omega arith) (length-replicate {A = ℕ} 20 0);
  blocks = record { clumps = tt; directory = λ there. refl };
}
