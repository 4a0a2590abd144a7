-- An arena as its calls see it.
use Rattle.std.specs.Prelude.{◌≡◌, ℕ, ◌+◌, ◌==◌, min, nat_lt, Bool, ◌&&◌, ◌||◌, true, false, is_some, if◌then◌else◌, List, [], ◌∷◌, ◌++◌, length, map, Result, Ok, Err}
use Rattle.vt_twin.specs.declared.step.Step.{Step}
use Rattle.vt_twin.specs.declared.step.Step.TheVariants.{More, Done}
use Rattle.vt_twin.specs.Twin.{TwinState, fresh, with_change, without_spare, after_call, twin_after_last, twin_after_fault, twin_calls_made}
use Rattle.vt_clump.specs.declared.packed.Packed.{Packed}
use Rattle.vt_clump.specs.Spelling.{Stored}
use Rattle.vt_clump.specs.Clumps.{stored_of}
use Rattle.vt_model.specs.declared.TheConstants.{WRITTEN_VERSION}
use Rattle.vt_arena.specs.declared.head.ArenaHead.{ArenaHead}
use Rattle.vt_arena.specs.declared.TheConstants.{FRAME_LEN}
use Rattle.vt_arena.specs.Heads.{head_frame}
use Rattle.vt_arena.specs.Layout.{Content, entry_bytes}
use Rattle.vt_arena.specs.Places.{block_room, has_room}

-- An arena: its number in its partition, its region's length, the twin of its head, the head that
-- is committed, the head that the next commit brings, the clumps that are staged for it, how many
-- pieces of the commit under way were written, and whether one of its device calls failed.
pub record ArenaState : Type 0 where
  pub number : ℕ
  pub len : ℕ
  pub twin : TwinState
  pub head : ArenaHead
  pub next : ArenaHead
  pub staged : List Packed
  pub written : ℕ
  pub failed : Bool

-- an arena of this length with nothing staged, none of whose calls failed, and whose head is this
-- one, in the frame of this number
abbrev pub fresh_arena : (len current : ℕ) → ArenaHead → ArenaState
fresh_arena len current head = record {
  number = head.number;
  len = len;
  twin = fresh FRAME_LEN current;
  head = head;
  next = head;
  staged = [];
  written = 0;
  failed = false;
}

-- The version of an arena with this head: one without clumps counts as one of the version that is
-- written, since its first commit writes it so.
abbrev pub version_counted : ArenaHead → ℕ
version_counted head = if head.clumps == 0 then WRITTEN_VERSION else head.version

-- a block of n bytes fits behind what is committed and what is staged; only an arena of the version
-- that is written takes more
abbrev pub fits : ArenaState → (n : ℕ) → Bool
fits a n = version_counted a.next == WRITTEN_VERSION
    && has_room WRITTEN_VERSION a.len a.next.used a.next.clumps n

-- a call of a commit was made, and the commit isn't done
abbrev pub is_committing : ArenaState → Bool
is_committing a = nat_lt 0 a.written || is_some a.twin.change || a.failed

-- the arena with one more clump staged: the next head counts it, and its entry is chained
abbrev pub with_staged : (score_of : List ℕ → List ℕ) → Packed → ArenaState → ArenaState
with_staged score_of p a = record a {
  staged = a.staged ++ p ∷ [];
  next = record a.next {
    version = WRITTEN_VERSION;
    clumps = a.next.clumps + 1;
    used = a.next.used + block_room WRITTEN_VERSION p.len;
    chain = record { 0 = score_of (a.next.chain.0 ++ entry_bytes p.kind p.len p.score.0) };
  };
}

-- the arena that the next commit seals
abbrev pub with_seal : ArenaState → ArenaState
with_seal a = record a { next = record a.next { sealed = Bool.true } }

-- the blocks that the next commit adds, and what the arena holds after it
abbrev pub added_by_commit : ArenaState → List Stored
added_by_commit a = map stored_of a.staged

-- what the arena stands for behind the commit under way
abbrev pub next_content : ArenaState → Content → Content
next_content a old = record {
  version = if length a.staged == 0 then old.version else WRITTEN_VERSION;
  sealed = a.next.sealed;
  stored = old.stored ++ added_by_commit a;
}

-- The pieces of a commit are a clump for each of so many blocks and, where there are any, their
-- directory.
abbrev pub commit_pieces : (blocks : ℕ) → ℕ
commit_pieces blocks = blocks + min 1 blocks

-- how many device calls write what is staged, before the head changes
abbrev pub pieces : ArenaState → ℕ
pieces a = commit_pieces (length a.staged)

-- How many device calls a commit takes: one for each staged clump and, where there are any, one for
-- their directory, and behind them the four of the head's change.
abbrev pub commit_calls : ArenaState → ℕ
commit_calls a = pieces a + 4

-- how many calls of the commit under way succeeded
abbrev pub calls_made : ArenaState → ℕ
calls_made a = a.written + twin_calls_made a.twin

-- the head's twin, which changes once the pieces are written
abbrev pub changing : ArenaState → TwinState
changing a = if is_some a.twin.change then a.twin else with_change (head_frame a.next) a.twin

-- the arena after a call that succeeded and wasn't the last of its commit: after a piece, or after
-- a call of the head's change
abbrev pub after_piece : ArenaState → ArenaState
after_piece a = record a { written = a.written + 1 }

-- behind a call that succeeded and was one of the head's change
abbrev pub after_head : ArenaState → ArenaState
after_head a = record a { twin = after_call (changing a) }

-- behind a call of a commit that succeeded: of its pieces first, then of the head's change
abbrev pub after_step : ArenaState → ArenaState
after_step a = if nat_lt a.written (pieces a) then after_piece a else after_head a

-- after the last one: what was staged is committed
abbrev pub after_last : ArenaState → ArenaState
after_last a = record a {
  twin = without_spare (twin_after_last a.twin);
  head = a.next;
  staged = [];
  written = 0;
}

-- after one that failed
abbrev pub with_failure : ArenaState → ArenaState
with_failure a = record a { failed = true }

-- behind a call of a commit that failed
abbrev pub after_fault : ArenaState → ArenaState
after_fault a =
    if nat_lt a.written (pieces a) then with_failure a
    else record (with_failure a) { twin = twin_after_fault (changing a) }

-- what `advance` makes of an arena
abbrev pub ArenaAdvances : {E : Type 0} → Result Step E → (old new : ArenaState) → Type 0
ArenaAdvances (Ok More) old new = new ≡ after_step old
ArenaAdvances (Ok Done) old new = new ≡ after_last old
ArenaAdvances (Err e) old new = new ≡ after_fault old

-- what a call that writes a piece makes of one
abbrev pub PieceAdvances : {E : Type 0} → Result Step E → (old new : ArenaState) → Type 0
PieceAdvances (Ok step) old new = (step ≡ More) × (new ≡ after_piece old)
PieceAdvances (Err e) old new = new ≡ with_failure old

-- what a call of the head's change makes of one
abbrev pub HeadAdvances : {E : Type 0} → Result Step E → (old new : ArenaState) → Type 0
HeadAdvances (Ok More) old new = new ≡ record old { twin = after_call old.twin }
HeadAdvances (Ok Done) old new = new ≡ after_last old
HeadAdvances (Err e) old new = new ≡ record (with_failure old) { twin = twin_after_fault old.twin }

-- what the arena holds after a step of a commit: what is staged, too, after the last
abbrev pub content_after : {E : Type 0} → Result Step E → ArenaState → (old : Content) → Content
content_after (Ok Done) a old = next_content a old
content_after (Ok More) a old = old
content_after (Err e) a old = old
