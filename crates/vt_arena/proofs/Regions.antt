-- An arena lies in its region.
use Rattle.std.proofs.Common.{◌≡◌, ℕ, ◌+◌, ◌*◌, ◌%◌, ◌<◌, ◌≤◌, List, length, ◌∙◌, ap, arith}
use Rattle.std.specs.Prelude.{slice_index}
use Rattle.std.proofs.Math.Nat.{mod-lt}
use Rattle.vt_disk.specs.declared.region.Region.{Region}
use Rattle.vt_disk.specs.Region.{region_bytes}
use Rattle.vt_twin.specs.Frames.{current_frame, frame_of, named_number}
use Rattle.vt_model.specs.declared.TheConstants.{ARENA_HEAD_LEN}
use Rattle.vt_arena.specs.declared.TheConstants.{FRAME_LEN}
use Rattle.vt_arena.specs.Layout.{Content, IsArenaContent, IsArena, HasBlocks, directory_of, directory_place}
use Rattle.vt_arena.specs.Heads.{own_fields}
use Rattle.vt_arena.proofs.Layouts.{part_inside, byte_inside, stands_inside, length-directory, content_fits}
use Rattle.vt_arena.proofs.Standing.{stand_there}

module _ (region : Region) (old new : List ℕ) (least : ARENA_HEAD_LEN ≤ region.len) (same : region_bytes region new ≡ region_bytes region old) where
  -- a frame, and the number of the current one
  pub frame_in_region : (number : ℕ) → number < 2 → frame_of region FRAME_LEN number new ≡ frame_of region FRAME_LEN number old
  frame_in_region number two =
      part_inside region old new same (region.start + FRAME_LEN * number) FRAME_LEN (omega arith) (omega (arith, least, two))

  pub named_in_region : named_number region FRAME_LEN new ≡ named_number region FRAME_LEN old
  named_in_region = ap (λ (b : ℕ). b % 2) (byte_inside region old new same (2 * FRAME_LEN) (omega (arith, least)))

  pub current_in_region : current_frame region FRAME_LEN new ≡ current_frame region FRAME_LEN old
  current_in_region =
      ap (λ (k : ℕ). frame_of region FRAME_LEN k new) named_in_region
      ∙ frame_in_region (named_number region FRAME_LEN old) (mod-lt (slice_index old (region.start + 2 * FRAME_LEN)) (omega arith))

pub blocks_in_region : (score_of : List ℕ → List ℕ) (region : Region) (a : Content) (old new : List ℕ) → ARENA_HEAD_LEN ≤ region.len
    → region_bytes region new ≡ region_bytes region old → IsArenaContent score_of region.len a → HasBlocks region a old → HasBlocks region a new
blocks_in_region score_of region a old new least same content blocks =
    let fits = content_fits score_of region.len a content in record {
      clumps = stand_there score_of a.version (region.start + ARENA_HEAD_LEN) a.stored old new content.stored
          (λ p bytes above below. stands_inside region old new same p bytes (omega (arith, above)) (omega (arith, below, fits, least))) blocks.clumps;
      directory = λ there. stands_inside region old new same (directory_place region (length a.stored)) (directory_of a.stored) (omega (arith, fits, least))
          (omega (arith, fits, least, length-directory score_of a.stored content.stored)) (blocks.directory there);
    }

pub arena_in_region : (score_of : List ℕ → List ℕ) (region : Region) (number : ℕ) (a : Content) (old new : List ℕ) → ARENA_HEAD_LEN ≤ region.len
    → region_bytes region new ≡ region_bytes region old → IsArena score_of region number a old → IsArena score_of region number a new
arena_in_region score_of region number a old new least same arena = record {
  content = arena.content;
  head = ap own_fields (current_in_region region old new least same) ∙ arena.head;
  blocks = blocks_in_region score_of region a old new least same arena.content arena.blocks;
}
