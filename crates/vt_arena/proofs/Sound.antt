-- What is done to the rest of the disk leaves an arena sound.
use Rattle.std.proofs.Common.{◌≡◌, ℕ, ◌+◌, ◌≤◌, List, length, sym, subst, arith}
use Rattle.vt_disk.specs.declared.region.Region.{Region}
use Rattle.vt_disk.specs.Disk.{AreAmong, SameBut}
use Rattle.vt_disk.specs.Region.{Inside, ChangesWithin, region_bytes}
use Rattle.vt_disk.proofs.Bytes.{part_same}
use Rattle.std.proofs.Common.{length-append}
use Rattle.std.proofs.lemmas.List.{length-map}
use Rattle.vt_twin.proofs.Sound.{reads_sound}
use Rattle.vt_clump.specs.Spelling.{IsStoredBlock}
use Rattle.vt_clump.specs.Clumps.{stored_of}
use Rattle.vt_arena.specs.Arena.{ArenaState, added_by_commit, next_content}
use Rattle.vt_model.specs.declared.TheConstants.{WRITTEN_VERSION}
use Rattle.vt_arena.specs.Layout.{Content, directory_of, clumps_place, directory_place, used_of}
use Rattle.vt_arena.specs.Sound.{IsRegion, IsSoundArena, HasPieces, clumps_made}
use Rattle.vt_arena.proofs.Layouts.{stands_inside, length-directory, used-append, content_fits, All-stored, all_take, used_take}
use Rattle.vt_arena.proofs.Commits.{added_used, old_used}
use Rattle.vt_arena.proofs.Standing.{stand_there}
use Rattle.vt_arena.proofs.Regions.{blocks_in_region}
use Rattle.vt_arena.proofs.Pieces.{twin_elsewhere}

-- a read or a sync leaves it sound
pub arena_read : (score_of : List ℕ → List ℕ) (a : ArenaState) (region : Region) (old : Content) (read reads : List ℕ) (images after : List ℕ → Type 0) → reads ≡ read → AreAmong after images
    → IsSoundArena score_of a region old read images → IsSoundArena score_of a region old reads after
arena_read score_of a region old read reads images after same among sound = record {
  len = sound.len;
  frame_len = sound.frame_len;
  head = sound.head;
  next = sound.next;
  chain = sound.chain;
  packed = sound.packed;
  content = sound.content;
  next_content_is = sound.next_content_is;
  version = sound.version;
  grows = sound.grows;
  begun = sound.begun;
  frame = sound.frame;
  twin = reads_sound a.twin region sound.frame read reads images after same among sound.twin;
  fields = sound.fields;
  kept = λ c left. sound.kept c (among c left);
  written = subst (λ (file : List ℕ). HasPieces a region old file) (sym same) sound.written;
  synced = λ made c left. sound.synced made c (among c left);
}

module _ (score_of : List ℕ → List ℕ) (a : ArenaState) (region : Region) (size : ℕ) (old : Content) (is_region : IsRegion region size)
    (other : Region) (apart : (i : ℕ) → Inside other i → ¬ Inside region i)
    (read reads : List ℕ) (before after : List ℕ → Type 0) (same : SameBut (Inside other) read reads) (changes : ChangesWithin other before after)
    (sound : IsSoundArena score_of a region old read before) where
  bytes_stay : (file files : List ℕ) → SameBut (Inside other) file files → region_bytes region files ≡ region_bytes region file
  bytes_stay file files but = part_same (Inside other) region.start region.len file files but (λ i above below there. apart i there (above, below))

  pieces_stay : (file files : List ℕ) → SameBut (Inside other) file files → HasPieces a region old file → HasPieces a region old files
  pieces_stay file files but made =
      let news = All-stored score_of a.staged sound.packed in
      let fits = content_fits score_of region.len (next_content a old) sound.next_content_is in
      let count = length-append old.stored (added_by_commit a) in
      let staged = length-map a.staged stored_of in
      let entries_is = length-directory score_of (added_by_commit a) news in record {
        clumps = stand_there score_of WRITTEN_VERSION (clumps_place region old.version old.stored) (clumps_made a) file files
            (all_take (IsStoredBlock score_of) a.written (added_by_commit a) news)
            (λ p bytes above below.
            stands_inside region file files (bytes_stay file files but) p bytes (omega (arith, above))
            (omega (arith, below, pieces_within, is_region.len.0, fits))) made.clumps;
        directory = λ written.
            stands_inside region file files (bytes_stay file files but) (directory_place region (length old.stored + length a.staged)) (directory_of (added_by_commit a))
            (omega (arith, fits, count, staged, is_region.len.0))
            (omega (arith, fits, count, staged, is_region.len.0, entries_is)) (made.directory written);
      }
    where
      -- what the pieces take is part of what the next content does
      pieces_within : used_of old.version old.stored + used_of WRITTEN_VERSION (clumps_made a) ≤ used_of (next_content a old).version (next_content a old).stored
      pieces_within =
          let less = used_take WRITTEN_VERSION a.written (added_by_commit a) in
          let all = used-append (next_content a old).version old.stored (added_by_commit a) in
          omega (arith, less, all, added_used score_of a region old read before sound, old_used score_of a region old read before sound)

  pub arena_elsewhere : IsSoundArena score_of a region old reads after
  arena_elsewhere = record {
    len = sound.len;
    frame_len = sound.frame_len;
    head = sound.head;
    next = sound.next;
    chain = sound.chain;
    packed = sound.packed;
    content = sound.content;
    next_content_is = sound.next_content_is;
    version = sound.version;
    grows = sound.grows;
    begun = sound.begun;
    frame = sound.frame;
    twin = twin_elsewhere a.twin region size is_region sound.frame_len (Inside other)
        (λ i there above below. apart i there (above, omega (arith, below, is_region.len.0)))
        sound.frame read reads before after same changes sound.twin;
    fields = sound.fields;
    kept = λ c left. let from = changes c left in
        blocks_in_region score_of region old from.0 c (omega (arith, is_region.len.0)) (bytes_stay from.0 c from.2) sound.content (sound.kept from.0 from.1);
    written = pieces_stay read reads same sound.written;
    synced = λ made c left. let from = changes c left in pieces_stay from.0 c from.2 (sound.synced made from.0 from.1);
  }
