-- What an arena in memory keeps, as the calls of a commit use it.
use Rattle.std.proofs.Common.{◌≡◌, ℕ, ◌+◌, ◌-◌, ◌*◌, ◌<◌, ◌≤◌, ◌==◌, List, [], ◌∷◌, ◌++◌, length, take, drop, get_or, Option, Some, None, true, false, refl, sym, ◌∙◌, ap, subst, arith, append_assoc, length-append, length-drop, length-take, take-append-drop}
use Rattle.std.specs.Prelude.{IsSome, IsTrue, IsFalse, Vec, replicate, vec_len, vec_capacity}
use Rattle.std.specs.declared.alloc.Global.{Global}
use Rattle.std.proofs.lemmas.List.{drop_at, take_all, length-replicate, drop-replicate}
use Rattle.std.proofs.lemmas.Bool.{leb-true}
use Rattle.std.proofs.lemmas.List.Sums.{sum_by_more_le, sum_by_push}
use Rattle.std.specs.Option.{ForSome, option_map_or}
use Rattle.vt_base.specs.declared.score.Score.{Score}
use Rattle.vt_twin.specs.Twin.{TwinState, FrameChange, fresh, after_call, twin_after_fault, twin_calls_made}
use Rattle.vt_clump.specs.declared.packed.Packed.{Packed}
use Rattle.vt_model.specs.declared.TheConstants.{ARENA_HEAD_LEN, WRITTEN_VERSION}
use Rattle.vt_arena.specs.declared.TheConstants.{FRAME_LEN, FIELDS_LEN, STAGED_MAX}
use Rattle.vt_arena.specs.declared.head.ArenaHead.{ArenaHead}
use Rattle.vt_arena.specs.declared.arena.Arena.TheInside.{Inside}
use Rattle.vt_arena.specs.Places.{IsArenaLen, block_room, directory_room, entries_len, has_room, arena_room}
use Rattle.vt_arena.specs.Arena.{commit_pieces, fits, is_committing, version_counted}
use Rattle.vt_arena.specs.Whole.{IsWholeArena, IsBuffer, HasDirectory, state_of, staged_room, staged_directory}
use Rattle.vt_arena.proofs.Layouts.{entries_least, packed_entry, staged-push}
use Rattle.vt_arena.proofs.Stage.{both, resting}

-- no change is under way while pieces are to be written
pub at_rest : (a : Inside) → IsWholeArena a → a.written < commit_pieces (length a.staged.items) → a.twin.change ≡ None
at_rest a is below = rest a.twin.change is.begun
  where
    rest : (change : Option FrameChange) → (IsSome change → a.written ≡ commit_pieces (length a.staged.items)) → change ≡ None
    rest None begun = refl
    rest (Some it) begun = absurd (omega (arith, below, begun refl))

-- the next clump fits behind what was written
pub clump_room : (a : Inside) → IsWholeArena a → (p : Packed) → a.written < length a.staged.items → p ≡ get_or a.staged.items a.written p
    → a.end + length p.bytes + entries_len a.head.clumps + ARENA_HEAD_LEN ≤ a.len
clump_room a whole p below is =
    let more : staged_room (take a.written a.staged.items) + block_room WRITTEN_VERSION (get_or a.staged.items a.written p).len ≤ staged_room a.staged.items =
    sum_by_more_le (λ (q : Packed). block_room WRITTEN_VERSION q.len) a.staged.items a.written p below in
    let same : (get_or a.staged.items a.written p).len ≡ p.len = ap (λ (q : Packed). q.len) (sym is) in
    omega (arith, more, same, whole.room, entries_least a.next.version a.next.clumps, whole.used, whole.clumps, whole.end_is, whole.len_is.0, p.whole)

-- the entries of what is staged fit below those that stand
pub entry_room : (a : Inside) → IsWholeArena a → entries_len (a.head.clumps + length a.staged.items) + a.head.used + staged_room a.staged.items + ARENA_HEAD_LEN ≤ a.len
entry_room a whole = omega (arith, whole.room, entries_least a.next.version a.next.clumps, whole.used, whole.clumps, whole.len_is.0)

-- as the next write of a piece needs it, in a region of that length
pub piece_room : (a : Inside) → IsWholeArena a → (len : ℕ) → len ≡ a.len → (p : Packed) → a.written < length a.staged.items → p ≡ get_or a.staged.items a.written p
    → a.head.used + staged_room (take a.written a.staged.items) + length p.bytes + entries_len a.head.clumps + ARENA_HEAD_LEN ≤ len
piece_room a whole len same p below is = omega (arith, clump_room a whole p below is, whole.end_is, same)

pub entries_room : (a : Inside) → IsWholeArena a → (len : ℕ) → len ≡ a.len
    → entries_len (a.head.clumps + length a.staged.items) + a.head.used + staged_room a.staged.items + ARENA_HEAD_LEN ≤ len
entries_room a whole len same = omega (arith, entry_room a whole, same)

-- the entry of one more stands before those of what was staged
pub directory_more : (staged : List Packed) (p : Packed) (entry old new : List ℕ) (place : ℕ) → HasDirectory staged old → length staged < STAGED_MAX
    → place ≡ (STAGED_MAX - 1 - length staged) * 25 → entry ≡ packed_entry p → length entry ≡ 25 → length new ≡ length old
    → take (place + length entry) new ≡ take place old ++ entry → drop (place + length entry) new ≡ drop (place + length entry) old → HasDirectory (staged ++ p ∷ []) new
directory_more staged p entry old new place was few place_is entry_is len same front behind = (
  same ∙ was.0,
  (
      ap (λ (n : ℕ). drop n new) from
      ∙ ap (λ (l : List ℕ). drop place l) (sym (take-append-drop (place + length entry) new) ∙ (λ i. front i ++ behind i) ∙ append_assoc (take place old) entry (drop (place + length entry) old))
      ∙ drop_at (take place old) (entry ++ drop (place + length entry) old) place (omega (arith, length-take place old, was.0, place_is, few))
      ∙ (λ i. entry_is i ++ (ap (λ (n : ℕ). drop n old) rest ∙ was.1) i)
      ∙ sym (staged-push staged p)
      ),
)
  where
    from : (STAGED_MAX - length (staged ++ p ∷ [])) * 25 ≡ place
    from = omega (arith, place_is, few, length-append staged (p ∷ []))

    rest : place + length entry ≡ (STAGED_MAX - length staged) * 25
    rest = omega (arith, place_is, few, len)

-- after one more was staged
pub staged_whole : (a : Inside) (p : Packed) (staged : Vec Packed Global) (directory : Vec ℕ Global) (room : ℕ) (chain : Score) → IsWholeArena a → IsFalse (is_committing (state_of a)) → IsTrue (fits (state_of a) p.len)
    → length a.staged.items < STAGED_MAX → staged.items ≡ a.staged.items ++ p ∷ [] → STAGED_MAX ≤ vec_capacity staged → room ≡ block_room WRITTEN_VERSION p.len → HasDirectory (a.staged.items ++ p ∷ []) directory.items
    → IsWholeArena (record a { next = record a.next { version = WRITTEN_VERSION; clumps = a.next.clumps + 1; used = a.next.used + room; chain = chain }; staged = staged; directory = directory })
staged_whole a p staged directory room chain whole rest fits few items capacity room_is has =
    let rests = resting (state_of a) rest in
    let count : length staged.items ≡ length a.staged.items + 1 = ap (λ (l : List Packed). length l) items ∙ length-append a.staged.items (p ∷ []) in
    let more : staged_room staged.items ≡ staged_room a.staged.items + block_room WRITTEN_VERSION p.len = ap staged_room items ∙ sum_by_push (λ (q : Packed). block_room WRITTEN_VERSION q.len) a.staged.items p in record {
      frame_len = whole.frame_len;
      runs = whole.runs;
      len_is = whole.len_is;
      fit = whole.fit;
      room = subst (λ (n : ℕ). a.next.used + n + directory_room WRITTEN_VERSION (a.next.clumps + 1) ≤ arena_room a.len) (sym room_is)
          (leb-true _ _ (both (version_counted a.next == WRITTEN_VERSION) (has_room WRITTEN_VERSION a.len a.next.used a.next.clumps p.len) fits).1);
      used = omega (arith, whole.used, more, room_is);
      clumps = omega (arith, whole.clumps, count);
      few = omega (arith, count, few);
      capacity = capacity;
      written_most = omega (arith, rests.written);
      end_is = omega (arith, whole.end_is, ap (λ (n : ℕ). staged_room (take n a.staged.items)) rests.written, ap (λ (n : ℕ). staged_room (take n staged.items)) rests.written);
      buffer = whole.buffer;
      frame = whole.frame;
      head_calls_is = whole.head_calls_is;
      head_calls_most = whole.head_calls_most;
      begun = λ some. absurd (none_some a.twin.change rests.change some);
      directory = subst (λ (ps : List Packed). HasDirectory ps directory.items) (sym items) has;
    }
  where
    none_some : (change : Option FrameChange) → change ≡ None → IsSome change → ⊥
    none_some None off some = cc
    none_some (Some it) off some = cc

-- the end of the buffer for a directory of n blocks, which is written as the directory
abbrev pub end_for : (n : ℕ) (buffer : List ℕ) → List ℕ
end_for n buffer = take (length buffer - (1600 - n * 25)) (drop (1600 - n * 25) buffer)

end_is : (n : ℕ) (buffer : List ℕ) → end_for n buffer ≡ drop (1600 - n * 25) buffer
end_is n buffer = take_all (length buffer - (1600 - n * 25)) (drop (1600 - n * 25) buffer) (omega (arith, length-drop (1600 - n * 25) buffer))

module _ (a : Inside) (whole : IsWholeArena a) (n : ℕ) (buffer : List ℕ) (n_is : n ≡ vec_len a.staged) (is : buffer ≡ a.directory.items) where
  from : 1600 - n * 25 ≡ (STAGED_MAX - length a.staged.items) * 25
  from = omega (arith, n_is, whole.few)

  pub directory_is : end_for n buffer ≡ staged_directory a.staged.items
  directory_is = end_is n buffer ∙ (λ i. drop (from i) (is i)) ∙ whole.directory.1

  pub directory_len : length (end_for n buffer) ≡ entries_len (length a.staged.items)
  directory_len =
      ap (λ (l : List ℕ). length l) (end_is n buffer)
      ∙ omega (arith, length-drop (1600 - n * 25) buffer, ap (λ (l : List ℕ). length l) is, whole.directory.0, n_is, whole.few)

pub entries_length : (a : Inside) → IsWholeArena a → length (staged_directory a.staged.items) ≡ entries_len (length a.staged.items)
entries_length a whole =
    ap (λ (l : List ℕ). length l) (sym (directory_is a whole (vec_len a.staged) a.directory.items refl refl))
    ∙ directory_len a whole (vec_len a.staged) a.directory.items refl refl

-- the buffer is the frame of the change under way
next_buffer : (change : Option FrameChange) → IsSome change → ForSome change (λ it. IsBuffer it.frame) → IsBuffer (option_map_or (λ it. it.frame) change [])
next_buffer None some is = cc
next_buffer (Some it) some is = is it refl

-- after a call of the head's change that isn't the last
pub more_whole : (a : Inside) (t : TwinState) → t ≡ after_call a.twin → IsSome a.twin.change → ¬ (twin_calls_made a.twin ≡ 3) → IsWholeArena a
    → IsWholeArena (record a { twin = t; head_calls = a.head_calls + 1 })
more_whole a t is some going whole =
    subst (λ (t : TwinState). IsWholeArena (record a { twin = t; head_calls = a.head_calls + 1 })) (sym is) record {
      frame_len = whole.frame_len;
      runs = whole.runs;
      len_is = whole.len_is;
      fit = whole.fit;
      room = whole.room;
      used = whole.used;
      clumps = whole.clumps;
      few = whole.few;
      capacity = whole.capacity;
      written_most = whole.written_most;
      end_is = whole.end_is;
      buffer = λ none. cc;
      frame = λ it later. subst (λ (change : Option FrameChange). IsBuffer (option_map_or (λ change. change.frame) change [])) later
          (next_buffer a.twin.change some whole.frame);
      head_calls_is = ap (λ (n : ℕ). n + 1) whole.head_calls_is;
      head_calls_most = omega (arith, whole.head_calls_is, whole.head_calls_most, going);
      begun = λ still. whole.begun some;
      directory = whole.directory;
    }

-- and after one that failed
pub failed_whole : (a : Inside) (t : TwinState) → t ≡ twin_after_fault a.twin → IsWholeArena a → IsWholeArena (record a { twin = t; failed = true })
failed_whole a t is whole =
    subst (λ (t : TwinState). IsWholeArena (record a { twin = t; failed = true })) (sym is) record {
      frame_len = whole.frame_len;
      runs = λ runs. cc;
      len_is = whole.len_is;
      fit = whole.fit;
      room = whole.room;
      used = whole.used;
      clumps = whole.clumps;
      few = whole.few;
      capacity = whole.capacity;
      written_most = whole.written_most;
      end_is = whole.end_is;
      buffer = whole.buffer;
      frame = whole.frame;
      head_calls_is = whole.head_calls_is;
      head_calls_most = whole.head_calls_most;
      begun = whole.begun;
      directory = whole.directory;
    }

-- before the first commit
pub fresh_whole : (number len current : ℕ) (twin : TwinState) (head : ArenaHead) (staged : Vec Packed Global) (directory : Vec ℕ Global) (buffer : List ℕ) → twin ≡ fresh FRAME_LEN current → IsArenaLen len
    → head.used + directory_room head.version head.clumps ≤ arena_room len → staged.items ≡ [] → STAGED_MAX ≤ vec_capacity staged → directory.items ≡ replicate 1600 0 → buffer ≡ replicate FRAME_LEN 0
    → IsWholeArena (record { number = number; len = len; twin = twin; head = head; next = head; staged = staged; directory = directory; written = 0; end = head.used; buffer = Some buffer; head_calls = 0; failed = false })
fresh_whole number len current twin head staged directory buffer is len_is fit none capacity blank zeros =
    subst (λ (t : TwinState). IsWholeArena (record { number = number; len = len; twin = t; head = head; next = head; staged = staged; directory = directory; written = 0; end = head.used; buffer = Some buffer; head_calls = 0; failed = false })) (sym is) record {
      frame_len = refl;
      runs = λ runs. refl;
      len_is = len_is;
      fit = fit;
      room = fit;
      used = omega (arith, ap staged_room none);
      clumps = omega (arith, ap (λ (l : List Packed). length l) none);
      few = omega (arith, ap (λ (l : List Packed). length l) none);
      capacity = capacity;
      written_most = omega arith;
      end_is = omega arith;
      buffer = λ rest. subst IsBuffer (sym zeros) (length-replicate {A = ℕ} FRAME_LEN 0, drop-replicate {X = ℕ} FIELDS_LEN FRAME_LEN 0);
      frame = λ it some. cc;
      head_calls_is = refl;
      head_calls_most = omega arith;
      begun = λ some. cc;
      directory = empty_directory;
    }
  where
    empty_directory : HasDirectory staged.items directory.items
    empty_directory = subst (λ (ps : List Packed). HasDirectory ps directory.items) (sym none)
        (subst (HasDirectory []) (sym blank) (length-replicate {A = ℕ} 1600 0, drop-replicate {X = ℕ} 1600 1600 0))
