-- The head's change of a commit, call by call, and what a crash leaves.
use Rattle.std.proofs.Common.{◌≡◌, ◌⊎◌, inl, inr, ⊎_elim, ℕ, ◌+◌, ◌≤◌, ◌==◌, Bool, true, false, is_some, List, [], ◌∷◌, ◌++◌, length, map, Option, Some, None, Ok, Err, Result, refl, sym, ◌∙◌, ap, subst, arith, length-append, append-nil}
use Rattle.std.specs.Prelude.{All, IsSome, IsTrue, IfOk, OnOk, ◌↔◌, if◌then◌else◌}
use Rattle.std.proofs.lemmas.Bool.{cases_eq}
use Rattle.std.proofs.lemmas.List.{take_all, length-map}
use Rattle.vt_disk.specs.declared.region.Region.{Region}
use Rattle.vt_disk.specs.Disk.{SameBut, ChangesAt, Only, part}
use Rattle.vt_twin.specs.declared.step.Step.{Step}
use Rattle.vt_twin.specs.declared.step.Step.TheVariants.{More, Done}
use Rattle.vt_twin.specs.Frames.{current_frame}
use Rattle.vt_disk.specs.DeviceCalls.DeviceCall.{sync}
use Rattle.vt_twin.specs.Calls.{call_at}
use Rattle.vt_twin.specs.Twin.{TwinState, TwinAdvances, twin_calls_made, next_call, next_frame, with_change, without_spare, twin_after_last}
use Rattle.vt_twin.specs.Sound.{IsSoundTwin, frame_after}
use Rattle.vt_twin.proofs.Sound.{sound_moved}
use Rattle.vt_twin.proofs.Changes.{none_made, begun_made, is_changing}
use Rattle.vt_twin.proofs.Steps.{sound_gives}
use Rattle.vt_clump.specs.declared.packed.Packed.{Packed}
use Rattle.vt_clump.specs.Spelling.{Stored, IsStoredBlock}
use Rattle.vt_clump.specs.Clumps.{stored_of}
use Rattle.vt_model.specs.declared.TheConstants.{ARENA_HEAD_LEN, WRITTEN_VERSION}
use Rattle.vt_arena.specs.declared.TheConstants.{FRAME_LEN}
use Rattle.vt_arena.specs.Arena.{ArenaState, added_by_commit, next_content, pieces, after_last, content_after, HeadAdvances, PieceAdvances}
use Rattle.vt_arena.specs.Heads.{fields_of, head_frame, own_fields}
use Rattle.vt_arena.specs.Layout.{Content, IsArenaContent, IsArena, HasBlocks, BytesStandAt, ClumpsStandAt, InHead, directory_of, clumps_place, directory_place, has_directory, head_place, used_of, arena_head}
use Rattle.vt_arena.specs.Places.{IsVersion, arena_room, entries_len}
use Rattle.vt_arena.specs.Sound.{IsSoundArena, HasPieces, GivesOldOrNext, HasBegunSelector, clumps_made}
use Rattle.vt_arena.proofs.Layouts.{stands-sum, stands_same, directory-append, length-directory, content_fits, All-stored, all_take}
use Rattle.vt_arena.proofs.Stage.{some_test}
use Rattle.vt_arena.proofs.Standing.{stand-append, stand_same}
use Rattle.vt_arena.proofs.Unique.{frame_fields, version_small}

module _ (score_of : List ℕ → List ℕ) (a : ArenaState) (region : Region) (old : Content) (read : List ℕ) (images : List ℕ → Type 0)
    (sound : IsSoundArena score_of a region old read images) where
  -- blocks that are added are of the version that is written
  added_version : (added_by_commit a ≡ []) ⊎ ((next_content a old).version ≡ WRITTEN_VERSION)
  added_version = by a.staged
    where
      by : (ps : List Packed) → (map stored_of ps ≡ []) ⊎ ((if length ps == 0 then old.version else WRITTEN_VERSION) ≡ WRITTEN_VERSION)
      by [] = inl refl
      by (q ∷ ps) = inr (ap (λ (b : Bool). if b then old.version else WRITTEN_VERSION) (some_test (length ps)))

  -- what the blocks take in the next content
  pub added_used : used_of WRITTEN_VERSION (added_by_commit a) ≡ used_of (next_content a old).version (added_by_commit a)
  added_used = ⊎_elim
      (λ (none : added_by_commit a ≡ []). ap (used_of WRITTEN_VERSION) none ∙ ap (used_of (next_content a old).version) (sym none))
      (λ (one : (next_content a old).version ≡ WRITTEN_VERSION). ap (λ (v : ℕ). used_of v (added_by_commit a)) (sym one))
      added_version

  pub old_used : used_of old.version old.stored ≡ used_of (next_content a old).version old.stored
  old_used = ⊎_elim
      (λ (none : old.stored ≡ []). ap (used_of old.version) none ∙ ap (used_of (next_content a old).version) (sym none))
      (λ (same : (next_content a old).version ≡ old.version). ap (λ (v : ℕ). used_of v old.stored) (sym same))
      sound.version

  -- clumps stand there as they stood
  added_stand : (p : ℕ) (file : List ℕ) → ClumpsStandAt WRITTEN_VERSION p (added_by_commit a) file → ClumpsStandAt (next_content a old).version p (added_by_commit a) file
  added_stand p file stand = ⊎_elim
      (λ (none : added_by_commit a ≡ []). subst (λ (l : List Stored). ClumpsStandAt (next_content a old).version p l file) (sym none) tt)
      (λ (one : (next_content a old).version ≡ WRITTEN_VERSION). subst (λ (v : ℕ). ClumpsStandAt v p (added_by_commit a) file) (sym one) stand)
      added_version

  old_stand : (p : ℕ) (file : List ℕ) → ClumpsStandAt old.version p old.stored file → ClumpsStandAt (next_content a old).version p old.stored file
  old_stand p file stand = ⊎_elim
      (λ (none : old.stored ≡ []). subst (λ (l : List Stored). ClumpsStandAt (next_content a old).version p l file) (sym none) tt)
      (λ (same : (next_content a old).version ≡ old.version). subst (λ (v : ℕ). ClumpsStandAt v p old.stored file) (sym same) stand)
      sound.version

-- old and new clumps, old and new entries
module _ (score_of : List ℕ → List ℕ) (a : ArenaState) (region : Region) (old : Content) (read : List ℕ) (images : List ℕ → Type 0)
    (sound : IsSoundArena score_of a region old read images) (written : a.written ≡ pieces a) where
  count : length (added_by_commit a) ≡ length a.staged
  count = length-map a.staged stored_of

  all_clumps : clumps_made a ≡ added_by_commit a
  all_clumps = take_all a.written (added_by_commit a) (omega (arith, written, count))

  entries : (file : List ℕ) → HasPieces a region old file → BytesStandAt (directory_place region (length old.stored + length (added_by_commit a))) (directory_of (added_by_commit a)) file
  entries file made = subst (λ (n : ℕ). BytesStandAt (directory_place region (length old.stored + n)) (directory_of (added_by_commit a)) file) (sym count) (at a.staged refl)
    where
      at : (ps : List Packed) → a.staged ≡ ps → BytesStandAt (directory_place region (length old.stored + length a.staged)) (directory_of (added_by_commit a)) file
      at [] is = subst (λ (ps : List Packed). BytesStandAt (directory_place region (length old.stored + length a.staged)) (directory_of (map stored_of ps)) file) (sym is) refl
      at (p ∷ ps) is = made.directory (omega (arith, written, ap (λ (l : List Packed). length l) is))

  -- old and new clumps
  clumps_joined : (file : List ℕ) → HasBlocks region old file → HasPieces a region old file
      → ClumpsStandAt (next_content a old).version (region.start + ARENA_HEAD_LEN) (next_content a old).stored file
  clumps_joined file blocks made =
      let more : ClumpsStandAt WRITTEN_VERSION (clumps_place region old.version old.stored) (added_by_commit a) file =
      subst (λ (l : List Stored). ClumpsStandAt WRITTEN_VERSION (clumps_place region old.version old.stored) l file) all_clumps made.clumps in
      stand-append (next_content a old).version (region.start + ARENA_HEAD_LEN) old.stored (added_by_commit a) file
      (old_stand score_of a region old read images sound (region.start + ARENA_HEAD_LEN) file blocks.clumps)
      (added_stand score_of a region old read images sound (clumps_place region (next_content a old).version old.stored) file
      (subst (λ (n : ℕ). ClumpsStandAt WRITTEN_VERSION (region.start + ARENA_HEAD_LEN + n) (added_by_commit a) file) (old_used score_of a region old read images sound) more))

  -- old and new entries, where there are any
  entries_joined : (file : List ℕ) → HasBlocks region old file → HasPieces a region old file → IsTrue (has_directory (next_content a old))
      → BytesStandAt (directory_place region (length (next_content a old).stored)) (directory_of (next_content a old).stored) file
  entries_joined file blocks made there =
      subst (λ (l : List ℕ). BytesStandAt (directory_place region (length (old.stored ++ added_by_commit a))) l file) (sym (directory-append old.stored (added_by_commit a)))
      (subst (λ (k : ℕ). BytesStandAt (directory_place region k) (directory_of (added_by_commit a) ++ directory_of old.stored) file) (sym counted)
      (stands-sum (directory_place region (length old.stored + length (added_by_commit a))) (directory_of (added_by_commit a)) (directory_of old.stored) file (entries file made)
      (subst (λ (at : ℕ). BytesStandAt at (directory_of old.stored) file) (omega (arith, more_len, fits, counted))
      (⊎_elim
      (λ (none : old.stored ≡ []). subst (λ (l : List Stored). BytesStandAt (directory_place region (length l)) (directory_of l) file) (sym none) refl)
      (λ (on : IsTrue (has_directory old)). blocks.directory on)
      (sound.grows there)))))
    where
      counted : length (old.stored ++ added_by_commit a) ≡ length old.stored + length (added_by_commit a)
      counted = length-append old.stored (added_by_commit a)

      fits : used_of (next_content a old).version (old.stored ++ added_by_commit a) + entries_len (length (old.stored ++ added_by_commit a)) ≤ arena_room region.len
      fits = content_fits score_of region.len (next_content a old) sound.next_content_is

      more_len : length (directory_of (added_by_commit a)) ≡ entries_len (length (added_by_commit a))
      more_len = length-directory score_of (added_by_commit a) (All-stored score_of a.staged sound.packed)

  pub joined : (file : List ℕ) → HasBlocks region old file → HasPieces a region old file → HasBlocks region (next_content a old) file
  joined file blocks made = record { clumps = clumps_joined file blocks made; directory = entries_joined file blocks made }

-- the fields of the frame that the head changes to
next_fields : (score_of : List ℕ → List ℕ) (a : ArenaState) (region : Region) (old : Content) (read : List ℕ) (images : List ℕ → Type 0)
    → IsSoundArena score_of a region old read images → own_fields (head_frame a.next) ≡ fields_of a.next
next_fields score_of a region old read images sound =
    let same : (next_content a old).version ≡ a.next.version = λ i. (sym sound.next i).version in
    frame_fields a.next (version_small a.next.version (subst IsVersion same sound.next_content_is.version)) sound.chain

-- What a crash between two calls leaves.
module _ (score_of : List ℕ → List ℕ) (a : ArenaState) (region : Region) (old : Content) (read : List ℕ) (images : List ℕ → Type 0)
    (sound : IsSoundArena score_of a region old read images) (c : List ℕ) (left : images c) where
  at_frame : {frame : List ℕ} → current_frame region a.twin.frame_len c ≡ frame → current_frame region FRAME_LEN c ≡ frame
  at_frame {frame} is = subst (λ (n : ℕ). current_frame region n c ≡ frame) sound.frame_len is

  pub gives_old : current_frame region a.twin.frame_len c ≡ sound.frame → IsArena score_of region a.number old c
  gives_old is = record {
    content = sound.content;
    head = ap own_fields (at_frame is) ∙ sound.fields ∙ ap fields_of sound.head;
    blocks = sound.kept c left;
  }

  gives_next : 2 ≤ twin_calls_made a.twin → current_frame region a.twin.frame_len c ≡ next_frame a.twin → IsArena score_of region a.number (next_content a old) c
  gives_next made is =
      let begun = sound.begun (is_changing a.twin (omega (arith, made))) in record {
        content = sound.next_content_is;
        head = ap own_fields (at_frame is ∙ begun.1) ∙ next_fields score_of a region old read images sound ∙ ap fields_of sound.next;
        blocks = joined score_of a region old read images sound begun.0 c (sound.kept c left) (sound.synced made c left);
      }

  pub arena_gives : GivesOldOrNext (HasBegunSelector a) score_of region a.number old (next_content a old) c
  arena_gives = ⊎_elim (λ is. inl (gives_old is)) (λ is. inr (is.0, gives_next (begun_made a.twin is.0) is.1))
      (sound_gives a.twin region sound.frame read images sound.twin c left)

  pub rest_gives : a.twin.change ≡ None → IsArena score_of region a.number old c
  rest_gives rest = ⊎_elim (λ is. gives_old is) (λ is. absurd (omega (arith, begun_made a.twin is.0, none_made a.twin rest)))
      (sound_gives a.twin region sound.frame read images sound.twin c left)

-- the head's change is begun
pub begin_sound : (score_of : List ℕ → List ℕ) (a : ArenaState) (region : Region) (old : Content) (read : List ℕ) (images : List ℕ → Type 0)
    → a.twin.change ≡ None → a.written ≡ pieces a → IsSoundArena score_of a region old read images
    → IsSoundArena score_of (record a { twin = with_change (head_frame a.next) a.twin }) region old read images
begin_sound score_of a region old read images rest written sound = record {
  len = sound.len;
  frame_len = sound.frame_len;
  head = sound.head;
  next = sound.next;
  chain = sound.chain;
  packed = sound.packed;
  content = sound.content;
  next_content_is = record { version = sound.next_content_is.version; stored = sound.next_content_is.stored; linked = sound.next_content_is.linked; fit = sound.next_content_is.fit };
  version = sound.version;
  grows = sound.grows;
  begun = λ some. (written, refl);
  frame = sound.frame;
  twin = record {
    number = sound.twin.number;
    kept = sound.twin.kept;
    named = λ waits. sound.twin.named (λ begun. omega (arith, begun_made a.twin begun, none_made a.twin rest));
    written = λ made. absurd (omega (arith, made));
    synced = λ made. absurd (omega (arith, made));
    selected = λ made. absurd (omega (arith, made));
  };
  fields = sound.fields;
  kept = sound.kept;
  written = record { clumps = sound.written.clumps; directory = sound.written.directory };
  synced = λ made. absurd (omega (arith, made));
}

-- a call of it, which changes the head alone
module _ (score_of : List ℕ → List ℕ) (a : ArenaState) (region : Region) (old : Content) (read reads : List ℕ) (before after : List ℕ → Type 0)
    (least : 32768 ≤ region.len) (changes : ChangesAt (InHead region) before after) (same : SameBut (InHead region) read reads)
    (sound : IsSoundArena score_of a region old read before) where
  fits : used_of (next_content a old).version (next_content a old).stored + entries_len (length (next_content a old).stored) ≤ arena_room region.len
  fits = content_fits score_of region.len (next_content a old) sound.next_content_is

  counted : length (old.stored ++ added_by_commit a) ≡ length old.stored + length (added_by_commit a)
  counted = length-append old.stored (added_by_commit a)

  stays : (place : ℕ) (bytes file files : List ℕ) → region.start + ARENA_HEAD_LEN ≤ place → SameBut (InHead region) file files → BytesStandAt place bytes file → BytesStandAt place bytes files
  stays place bytes file files behind but = stands_same (InHead region) place bytes file files but (λ i above below here. omega (arith, above, behind, here.1))

  clumps_stay : (v place : ℕ) (stored : List Stored) (file files : List ℕ) → All (IsStoredBlock score_of) stored → region.start + ARENA_HEAD_LEN ≤ place → SameBut (InHead region) file files
      → ClumpsStandAt v place stored file → ClumpsStandAt v place stored files
  clumps_stay v place stored file files all behind but = stand_same score_of (InHead region) v place stored file files all but (λ i above below here. omega (arith, above, behind, here.1))

  blocks_after : (c : List ℕ) → after c → HasBlocks region old c
  blocks_after c left =
      let from = changes c left in
      let blocks = sound.kept from.0 from.1 in record {
        clumps = clumps_stay old.version (region.start + ARENA_HEAD_LEN) old.stored from.0 c sound.content.stored (omega arith) from.2 blocks.clumps;
        directory = λ there. stays (directory_place region (length old.stored)) (directory_of old.stored) from.0 c (omega (arith, fits, counted, least)) from.2 (blocks.directory there);
      }

  pieces_after : (file files : List ℕ) → SameBut (InHead region) file files → HasPieces a region old file → HasPieces a region old files
  pieces_after file files but made = record {
    clumps = clumps_stay WRITTEN_VERSION (clumps_place region old.version old.stored) (clumps_made a) file files
        (all_take (IsStoredBlock score_of) a.written (added_by_commit a) (All-stored score_of a.staged sound.packed)) (omega arith) but made.clumps;
    directory = λ written.
        stays (directory_place region (length old.stored + length a.staged)) (directory_of (added_by_commit a)) file files
        (omega (arith, fits, counted, least, length-map a.staged stored_of)) but (made.directory written);
  }

  read_after : HasPieces a region old reads
  read_after = pieces_after read reads same sound.written

  synced_after : 2 ≤ twin_calls_made a.twin → (c : List ℕ) → after c → HasPieces a region old c
  synced_after made c left = let from = changes c left in pieces_after from.0 c from.2 (sound.synced made from.0 from.1)

  -- one that isn't the last, or fails
  pub head_sound : (later : TwinState) (b : Bool) → IsSoundTwin later region sound.frame reads after → later.frame_len ≡ a.twin.frame_len
      → IsSome a.twin.change → next_frame later ≡ next_frame a.twin
      → (2 ≤ twin_calls_made later → (2 ≤ twin_calls_made a.twin) ⊎ Only reads after)
      → IsSoundArena score_of (record a { twin = later; failed = b }) region old reads after
  head_sound later b twin frame_len some next_is settles = record {
    len = sound.len;
    frame_len = frame_len ∙ sound.frame_len;
    head = sound.head;
    next = sound.next;
    chain = sound.chain;
    packed = sound.packed;
    content = sound.content;
    next_content_is = record { version = sound.next_content_is.version; stored = sound.next_content_is.stored; linked = sound.next_content_is.linked; fit = sound.next_content_is.fit };
    version = sound.version;
    grows = sound.grows;
    begun = λ still. let begun = sound.begun some in (begun.0, next_is ∙ begun.1);
    frame = sound.frame;
    twin = twin;
    fields = sound.fields;
    kept = blocks_after;
    written = record { clumps = read_after.clumps; directory = read_after.directory };
    synced = λ made c left. ⊎_elim
        (λ was. let it = synced_after was c left in record { clumps = it.clumps; directory = it.directory })
        (λ settled. let is = settled c left in record {
          clumps = subst (λ (l : List ℕ). ClumpsStandAt WRITTEN_VERSION (clumps_place region old.version old.stored) (clumps_made a) l) (sym is) read_after.clumps;
          directory = λ written.
              ap (λ (l : List ℕ). part (directory_place region (length old.stored + length a.staged)) (length (directory_of (added_by_commit a))) l) is ∙ read_after.directory written;
        })
        (settles made);
  }

  -- the last one: what was staged is committed
  pub done_sound : IsSoundTwin (without_spare (twin_after_last a.twin)) region (next_frame a.twin) reads after → 2 ≤ twin_calls_made a.twin
      → IsSoundArena score_of (after_last a) region (next_content a old) reads after
  done_sound twin made =
      let begun = sound.begun (is_changing a.twin (omega (arith, made))) in
      let all : (next_content a old).stored ++ [] ≡ (next_content a old).stored = append-nil (next_content a old).stored in record {
        len = sound.len;
        frame_len = sound.frame_len;
        head = sound.next;
        next = sound.next ∙ (λ i. arena_head score_of a.number (record { version = (next_content a old).version; sealed = a.next.sealed; stored = sym all i }));
        chain = sound.chain;
        packed = λ j d below. absurd (omega (arith, below));
        content = sound.next_content_is;
        next_content_is = subst (λ (l : List Stored). IsArenaContent score_of region.len (record { version = (next_content a old).version; sealed = a.next.sealed; stored = l })) (sym all)
            (record { version = sound.next_content_is.version; stored = sound.next_content_is.stored; linked = sound.next_content_is.linked; fit = sound.next_content_is.fit });
        version = inr refl;
        grows = λ there. inr there;
        begun = λ some. cc;
        frame = next_frame a.twin;
        twin = twin;
        fields = ap own_fields begun.1 ∙ next_fields score_of a region old read before sound;
        kept = λ c left. joined score_of a region old read before sound begun.0 c (blocks_after c left) (synced_after made c left);
        written = record { clumps = tt; directory = λ written. absurd (omega (arith, written)) };
        synced = λ calls. absurd (omega (arith, calls));
      }

  -- what the last one leaves is the next arena
  pub done_gives : IsSoundArena score_of (after_last a) region (next_content a old) reads after
      → (c : List ℕ) → after c → IsArena score_of region a.number (next_content a old) c
  done_gives later c left = rest_gives score_of (after_last a) region (next_content a old) reads after later c left refl

-- a call of the head's change, whatever came of it
module _ {E : Type 0} (score_of : List ℕ → List ℕ) (a : ArenaState) (region : Region) (old : Content) (read reads : List ℕ) (before after : List ℕ → Type 0)
    (least : 32768 ≤ region.len) (changes : ChangesAt (InHead region) before after) (same : SameBut (InHead region) read reads)
    (sound : IsSoundArena score_of a region old read before) (some : IsSome a.twin.change) (t : TwinState) (len : t.frame_len ≡ a.twin.frame_len) where
  moved : (result : Result Step E)
      → ((frame : List ℕ) → IsSoundTwin a.twin (head_place region) frame read before
      → IsSoundTwin t (head_place region) (frame_after result a.twin frame) reads after)
      → IsSoundTwin t region (frame_after result a.twin sound.frame) reads after
  moved result twin =
      sound_moved t (head_place region) region _ _ _ refl
      (twin sound.frame (sound_moved a.twin region (head_place region) sound.frame _ _ refl sound.twin))

  pub head_step : (result : Result Step E) (new : ArenaState) → HeadAdvances result a new → TwinAdvances result a.twin t
      → IfOk result (λ step. (step ≡ Done) ↔ (twin_calls_made a.twin ≡ 3))
      → OnOk result (next_call a.twin (head_place region) ≡ sync → Only reads after)
      → ((frame : List ℕ) → IsSoundTwin a.twin (head_place region) frame read before
      → IsSoundTwin t (head_place region) (frame_after result a.twin frame) reads after)
      → IsSoundArena score_of new region (content_after result a old) reads after
  head_step (Err e) new steps twin_steps done settled twin =
      subst (λ (s : ArenaState). IsSoundArena score_of s region old reads after) (sym steps)
      (subst (λ (u : TwinState). IsSoundArena score_of (record a { twin = u; failed = true }) region old reads after) twin_steps
      (head_sound score_of a region old read reads before after least changes same sound t true (moved (Err e) twin) len some
      (ap (λ (u : TwinState). next_frame u) twin_steps)
      (λ made. inl (subst (λ (u : TwinState). 2 ≤ twin_calls_made u) twin_steps made))))
  head_step (Ok More) new steps twin_steps done settled twin =
      subst (λ (s : ArenaState). IsSoundArena score_of s region old reads after) (sym steps)
      (subst (λ (u : TwinState). IsSoundArena score_of (record a { twin = u }) region old reads after) twin_steps
      (head_sound score_of a region old read reads before after least changes same sound t a.failed (moved (Ok More) twin) len some
      (ap (λ (u : TwinState). next_frame u) twin_steps)
      (λ made. second (subst (λ (u : TwinState). 2 ≤ twin_calls_made u) twin_steps made))))
    where
      second : 2 ≤ twin_calls_made a.twin + 1 → (2 ≤ twin_calls_made a.twin) ⊎ Only reads after
      second made = ⊎_elim
          (λ (first : twin_calls_made a.twin ≡ 1). inr (settled (ap (λ (n : ℕ). call_at n (head_place region) a.twin.frame_len a.twin.current (next_frame a.twin)) first)))
          (λ (other : twin_calls_made a.twin ≡ 1 → ⊥). inl (omega (arith, made, other)))
          (cases_eq (twin_calls_made a.twin) 1)
  head_step (Ok Done) new steps twin_steps done settled twin =
      subst (λ (s : ArenaState). IsSoundArena score_of s region (next_content a old) reads after) (sym steps)
      (done_sound score_of a region old read reads before after least changes same sound
      (record { number = ends.number; kept = ends.kept; named = ends.named; written = ends.written; synced = ends.synced; selected = ends.selected })
      (omega (arith, done.0 refl)))
    where
      ends : IsSoundTwin (twin_after_last a.twin) region (next_frame a.twin) reads after
      ends = subst (λ (u : TwinState). IsSoundTwin u region (next_frame a.twin) reads after) twin_steps (moved (Ok Done) twin)

-- what a step makes of the content doesn't depend on the twin, and a piece makes nothing of it
pub content_twin : {E : Type 0} (r : Result Step E) (a : ArenaState) (t : TwinState) (old : Content) → content_after r (record a { twin = t }) old ≡ content_after r a old
content_twin (Ok Done) a t old = refl
content_twin (Ok More) a t old = refl
content_twin (Err e) a t old = refl

pub content_piece : {E : Type 0} (r : Result Step E) (a new : ArenaState) (old : Content) → PieceAdvances r a new → content_after r a old ≡ old
content_piece (Ok Done) a new old is = let wrong : Done ≡ More = is.0 in absurd (cc)
content_piece (Ok More) a new old is = refl
content_piece (Err e) a new old is = refl

pub none_is : {T : Type 0} (o : Option T) → is_some o ≡ false → o ≡ None
none_is None off = refl
none_is (Some it) off = cc
