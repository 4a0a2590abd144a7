-- What a store of blocks is called for, and what it answers.
use Rattle.std.specs.Prelude.{ℕ, ◌≡◌, ⊤, Option, Some, None, Result, Ok, Err, List}
use Rattle.std.specs.List.{filter_map}
use Rattle.vt_base.specs.Faults.{one_more}
use Rattle.vt_base.specs.Protocol.{Operation, read, write, sync as sync_all}
use Rattle.vt_base.specs.declared.TheConstants.{MAX_BLOCK}
use Rattle.vt_base.specs.declared.score.Score.{Score}
use Rattle.vt_model.specs.History.{Block}
use Rattle.vt_tree.specs.declared.error.BlockErr.{BlockErr}
use Rattle.vt_tree.specs.declared.error.BlockErr.TheVariants.{Fault, Refused, WrongScore, Damaged, NoMemory}
use Rattle.vt_tree.specs.Maps.{BlockMap, Maps, with_block, HasNoOther}

-- a call, and its answer: the block of a type and score, the score of a block that is put, or that
-- all is committed
pub data Call : Type 0 where
  get : (kind : ℕ) (score : List ℕ) → Result (List ℕ) BlockErr → Call
  put : Block → Result Score BlockErr → Call
  sync : Result (Unit {0}) BlockErr → Call

-- The request of a write that puts this block (venti(6)).
abbrev pub write_of_block : Block → Operation
write_of_block b = write b.kind b.bytes

-- the operation of a store that a call stands for
abbrev pub asked_of : Call → Operation
asked_of (get kind s answer) = read s kind MAX_BLOCK
asked_of (put b answer) = write_of_block b
asked_of (sync answer) = sync_all

-- The call asks for a block.
abbrev pub IsGet : Call → Type 0
IsGet (get kind s answer) = ⊤
IsGet (put b answer) = ⊥
IsGet (sync answer) = ⊥

-- ---- refusals

-- why it was refused, if it was
abbrev pub refusal_of : Call → Option BlockErr
refusal_of (get kind s (Ok bytes)) = None
refusal_of (get kind s (Err err)) = Some err
refusal_of (put b (Ok score)) = None
refusal_of (put b (Err err)) = Some err
refusal_of (sync (Ok done)) = None
refusal_of (sync (Err err)) = Some err

-- the refusals among calls, in order
abbrev pub refusals_of : List Call → List BlockErr
refusals_of calls = filter_map refusal_of calls

-- The error is neither a fault nor want of memory.
abbrev pub IsBlockRefusal : BlockErr → Type 0
IsBlockRefusal Fault = ⊥
IsBlockRefusal (Refused text) = ⊤
IsBlockRefusal (WrongScore want found) = ⊤
IsBlockRefusal (Damaged want found) = ⊤
IsBlockRefusal NoMemory = ⊥

-- how many calls have failed, and how many were refused for a reason other than want of memory
pub record Counts : Type 0 where
  pub faults : ℕ
  pub refusals : ℕ

-- the counts with this refusal, if there is one
abbrev pub with_refusal : Option BlockErr → Counts → Counts
with_refusal None c = c
with_refusal (Some Fault) c = record c { faults = one_more c.faults }
with_refusal (Some (Refused text)) c = record c { refusals = one_more c.refusals }
with_refusal (Some (WrongScore want found)) c = record c { refusals = one_more c.refusals }
with_refusal (Some (Damaged want found)) c = record c { refusals = one_more c.refusals }
with_refusal (Some NoMemory) c = c

-- ---- the map

-- What an answer says of a store that held this map: it has the block; it doesn't have it; it had
-- no other bytes under the score of a block that it took in.
abbrev pub TellsOfMap : (score_of : List ℕ → List ℕ) → BlockMap → Call → Type 0
TellsOfMap score_of map (get kind s (Ok bytes)) = map s kind ≡ Some bytes
TellsOfMap score_of map (get kind s (Err err)) = IsBlockRefusal err → map s kind ≡ None
TellsOfMap score_of map (put b (Ok score)) = HasNoOther score_of map b
TellsOfMap score_of map (put b (Err err)) = ⊤
TellsOfMap score_of map (sync answer) = ⊤

-- what is held, and what is synced, after a call
abbrev pub after : (score_of : List ℕ → List ℕ) → Call → Maps → Maps
after score_of (get kind s answer) m = m
after score_of (put b (Ok score)) m = record m { held = with_block score_of b m.held }
after score_of (put b (Err err)) m = m
after score_of (sync (Ok done)) m = record m { synced = m.held }
after score_of (sync (Err err)) m = m
