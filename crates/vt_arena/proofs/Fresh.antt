-- A settled arena is sound for a fresh one.
use Rattle.std.proofs.Common.{◌≡◌, inr, ℕ, ◌+◌, ◌*◌, ◌<◌, ◌≤◌, List, [], ◌++◌, refl, sym, ◌∙◌, ap, subst, arith, append-nil}
use Rattle.std.specs.Prelude.{IsTrue, slice_index}
use Rattle.std.proofs.Math.Nat.{mod-lt}
use Rattle.vt_disk.specs.declared.region.Region.{Region}
use Rattle.vt_disk.specs.Disk.{SameBut}
use Rattle.vt_disk.specs.Region.{Inside, ChangesWithin, region_bytes}
use Rattle.vt_disk.proofs.Bytes.{part_same}
use Rattle.vt_twin.specs.Frames.{current_frame, frame_of, named_number}
use Rattle.vt_model.specs.declared.TheConstants.{ARENA_HEAD_LEN}
use Rattle.vt_arena.specs.declared.TheConstants.{FRAME_LEN}
use Rattle.vt_arena.specs.declared.head.ArenaHead.{ArenaHead}
use Rattle.vt_arena.specs.Arena.{fresh_arena}
use Rattle.vt_arena.specs.Faults.{CanStand}
use Rattle.vt_arena.specs.Heads.{fields_of}
use Rattle.vt_arena.specs.Layout.{Content, IsArenaContent, IsArena, arena_head, has_directory}
use Rattle.vt_arena.specs.Sound.{IsRegion, IsSettled, IsSoundArena}
use Rattle.vt_arena.proofs.Regions.{frame_in_region, named_in_region, blocks_in_region}

pub settled_elsewhere : (region other : Region) (read reads : List ℕ) (before after : List ℕ → Type 0) → ((i : ℕ) → Inside other i → ¬ Inside region i)
    → SameBut (Inside other) read reads → ChangesWithin other before after → IsSettled region read before → IsSettled region reads after
settled_elsewhere region other read reads before after apart same changes settled c left =
    let from = changes c left in
    stays from.0 c from.2 ∙ settled from.0 from.1 ∙ sym (stays read reads same)
  where
    stays : (file files : List ℕ) → SameBut (Inside other) file files → region_bytes region files ≡ region_bytes region file
    stays file files but = part_same (Inside other) region.start region.len file files but (λ i above below there. apart i there (above, below))

pub fresh_sound : (score_of : List ℕ → List ℕ) (region : Region) (size number current : ℕ) (old : Content) (head : ArenaHead) (read : List ℕ) (images : List ℕ → Type 0)
    → IsRegion region size → IsSettled region read images → IsArena score_of region number old read → current ≡ named_number region FRAME_LEN read
    → head ≡ arena_head score_of number old → CanStand number region.len head
    → IsSoundArena score_of (fresh_arena region.len current head) region old read images
fresh_sound score_of region size number current old head read images is settled arena current_is head_is stand = record {
  len = refl;
  frame_len = refl;
  head = own;
  next = own ∙ (λ i. arena_head score_of head.number (same i));
  chain = stand.chain;
  packed = λ k d below. absurd (omega (arith, below));
  content = arena.content;
  next_content_is = subst (λ (c : Content). IsArenaContent score_of region.len c) same arena.content;
  version = inr refl;
  grows = λ there. inr (subst (λ (c : Content). IsTrue (has_directory c)) (sym same) there);
  begun = λ some. cc;
  frame = current_frame region FRAME_LEN read;
  twin = record {
    number = two;
    kept = λ c left.
        frame_in_region region read c least (settled c left) current two ∙ ap (λ (k : ℕ). frame_of region FRAME_LEN k read) current_is;
    named = λ waits c left. named_in_region region read c least (settled c left) ∙ sym current_is;
    written = λ made. absurd (omega (arith, made));
    synced = λ made. absurd (omega (arith, made));
    selected = λ made. absurd (omega (arith, made));
  };
  fields = arena.head ∙ ap fields_of (sym head_is);
  kept = λ c left. blocks_in_region score_of region old read c least (settled c left) arena.content arena.blocks;
  written = record { clumps = tt; directory = λ written. absurd (omega (arith, written)) };
  synced = λ made. absurd (omega (arith, made));
}
  where
    least : ARENA_HEAD_LEN ≤ region.len
    least = omega (arith, is.len.0)

    two : current < 2
    two = omega (arith, current_is, mod-lt (slice_index read (region.start + 2 * FRAME_LEN)) {m = 2} (omega arith))

    own : head ≡ arena_head score_of head.number old
    own = head_is ∙ ap (λ (n : ℕ). arena_head score_of n old) (sym stand.number_is)

    same : old ≡ record { version = old.version; sealed = head.sealed; stored = old.stored ++ [] }
    same i = record { version = old.version; sealed = sym (ap (λ (h : ArenaHead). h.sealed) head_is) i; stored = sym (append-nil old.stored) i }
