-- The store of blocks in memory: what it holds, which of its calls fail or are refused, and what it
-- was asked for.
use Rattle.std.specs.Prelude.{ℕ, ◌≡◌, ◌≢◌, ◌↔◌, ◌≤◌, ⊤, Some, None, Result, Ok, Err, List, [], ◌∷◌, ◌++◌, length, map, take, Any, Contains, codes, is_some, if◌then◌else◌}
use Rattle.vt_base.specs.Faults.{IsOneMore}
use Rattle.vt_base.specs.Protocol.{why_words}
use Rattle.vt_base.specs.declared.TheConstants.{MAX_BLOCK}
use Rattle.vt_base.specs.declared.key.Key.{Key}
use Rattle.vt_base.specs.declared.score.Score.{Score}
use Rattle.vt_base.specs.declared.why.Why.TheVariants.{Absent, Collision}
use Rattle.vt_model.specs.History.{Block}
use Rattle.vt_tree.specs.declared.error.BlockErr.{BlockErr}
use Rattle.vt_tree.specs.declared.error.BlockErr.TheVariants.{Fault, Refused, WrongScore, Damaged, NoMemory}
use Rattle.vt_tree.specs.declared.mem_blocks.Stored.{Stored}
use Rattle.vt_tree.specs.declared.mem_blocks.Fate.{Fate}
use Rattle.vt_tree.specs.declared.mem_blocks.Fate.TheVariants.{Fails, IsRefused, GoesOn}
use Rattle.vt_tree.specs.Calls.{Call, get, put, sync, Counts, refusal_of, with_refusal, IsBlockRefusal, TellsOfMap}
use Rattle.vt_tree.specs.Maps.{BlockMap, Maps, no_blocks, with_blocks, HasNoOther, IsWriteOnce}

-- the blocks, in the order in which they were put, and how many of them the last sync has covered;
-- the numbers of the calls that fail, and of those that are refused; the number of the next call;
-- the counts; and the keys of the blocks that were given, and of those that were taken, in order
pub record BlocksMemory : Type 0 where
  pub blocks : List Block
  pub synced : ℕ
  pub failing : List ℕ
  pub refusing : List ℕ
  pub calls : ℕ
  pub counts : Counts
  pub gets : List Key
  pub puts : List Key

-- a block as the store keeps it
abbrev pub block_of : Stored → Block
block_of b = record { kind = b.key.kind; bytes = b.bytes }

-- The block is kept under its own score, and isn't too long.
pub record IsKeptBlock (score_of : List ℕ → List ℕ) (b : Stored) : Type 0 where
  pub own : b.key.score.0 ≡ score_of b.bytes
  pub most : length b.bytes ≤ MAX_BLOCK

-- the map of these blocks
abbrev pub map_of : (score_of : List ℕ → List ℕ) → List Block → BlockMap
map_of score_of blocks = with_blocks score_of blocks (no_blocks score_of)

-- what a store of blocks in memory holds
abbrev pub held_in : (score_of : List ℕ → List ℕ) → BlocksMemory → BlockMap
held_in score_of m = map_of score_of m.blocks

-- The store of blocks in memory holds these maps; one that refuses on demand, be the block there or
-- not, tells none.
pub record HoldsInMemory (score_of : List ℕ → List ℕ) (m : BlocksMemory) (maps : Maps)
    : Type 0 where
  pub held : (s : List ℕ) (kind : ℕ) → maps.held s kind ≡ held_in score_of m s kind
  pub synced : (s : List ℕ) (kind : ℕ)
      → maps.synced s kind ≡ map_of score_of (take m.synced m.blocks) s kind
  pub write_once : IsWriteOnce score_of (held_in score_of m)
  pub within : m.synced ≤ length m.blocks
  pub honest : m.refusing ≡ []

-- a block, or no bytes, has the score of these bytes, and is other than they
abbrev pub Collides : (score_of : List ℕ → List ℕ) → BlocksMemory → (bytes : List ℕ) → Type 0
Collides score_of m bytes =
    Any (λ x. (score_of x ≡ score_of bytes) × (x ≢ bytes)) ([] ∷ map (λ b. b.bytes) m.blocks)

-- why a call is refused that isn't to be, and with which text
abbrev pub IsJust : (score_of : List ℕ → List ℕ) → BlocksMemory → Call → (text : List ℕ) → Type 0
IsJust score_of m (get kind s answer) text =
    (held_in score_of m s kind ≡ None) × (text ≡ why_words Absent)
IsJust score_of m (put b answer) text = Collides score_of m b.bytes × (text ≡ why_words Collision)
IsJust score_of m (sync answer) text = ⊥

-- the text of a refusal on demand
abbrev pub on_demand : List ℕ
on_demand = codes "refused on demand"

-- the key of what was given or taken, if it was
abbrev pub key : (s : List ℕ) → (kind : ℕ) → Key
key s kind = record { score = record { 0 = s }; kind = kind }

-- the key of the block that a call gave, if it gave one
abbrev pub given : Call → List Key
given (get kind s (Ok bytes)) = key s kind ∷ []
given (get kind s (Err err)) = []
given (put b answer) = []
given (sync answer) = []

-- the key of the block that a call took in, if it took one
abbrev pub taken : Call → List Key
taken (get kind s answer) = []
taken (put b (Ok score)) = record { score = score; kind = b.kind } ∷ []
taken (put b (Err err)) = []
taken (sync answer) = []

-- the store in memory answers no other
abbrev pub IsMemoryRefusal : BlockErr → Type 0
IsMemoryRefusal Fault = ⊤
IsMemoryRefusal (Refused text) = ⊤
IsMemoryRefusal (WrongScore want found) = ⊥
IsMemoryRefusal (Damaged want found) = ⊥
IsMemoryRefusal NoMemory = ⊤

-- A call is answered so: it fails just where the list says so; where it is to be refused, it is;
-- else it is refused only where it must be, or memory is short, and what it says is true.
pub record AnswersInMemory (score_of : List ℕ → List ℕ) (m : BlocksMemory) (call : Call)
    : Type 0 where
  pub fails : (refusal_of call ≡ Some Fault) ↔ Contains m.failing m.calls
  pub refuses : Contains m.refusing m.calls → refusal_of call ≢ None
  pub just : (text : List ℕ) → refusal_of call ≡ Some (Refused text)
      → ¬ Contains m.refusing m.calls → IsJust score_of m call text
  pub demanded : (text : List ℕ) → refusal_of call ≡ Some (Refused text)
      → Contains m.refusing m.calls → text ≡ on_demand
  pub other : (err : BlockErr) → refusal_of call ≡ Some err → IsMemoryRefusal err
  pub tells : ¬ Contains m.refusing m.calls → TellsOfMap score_of (held_in score_of m) call

-- the blocks after a call: a block that was taken stands at the end, unless it was there
abbrev pub blocks_after : (score_of : List ℕ → List ℕ) → BlocksMemory → Call → List Block
blocks_after score_of m (get kind s answer) = m.blocks
blocks_after score_of m (put b (Ok score)) =
    if is_some (held_in score_of m (score_of b.bytes) b.kind) then m.blocks
    else m.blocks ++ b ∷ []
blocks_after score_of m (put b (Err err)) = m.blocks
blocks_after score_of m (sync answer) = m.blocks

-- How many of the blocks are synced after a call.
abbrev pub synced_after : BlocksMemory → Call → ℕ
synced_after m (get kind s answer) = m.synced
synced_after m (put b answer) = m.synced
synced_after m (sync (Ok done)) = length m.blocks
synced_after m (sync (Err err)) = m.synced

-- what a call leaves
pub record LeavesInMemory (score_of : List ℕ → List ℕ) (m m' : BlocksMemory) (call : Call)
    : Type 0 where
  pub blocks : m'.blocks ≡ blocks_after score_of m call
  pub synced : m'.synced ≡ synced_after m call
  pub failing : m'.failing ≡ m.failing
  pub refusing : m'.refusing ≡ m.refusing
  pub calls : IsOneMore m.calls m'.calls
  pub counts : m'.counts ≡ with_refusal (refusal_of call) m.counts
  pub gets : m'.gets ≡ m.gets ++ given call
  pub puts : m'.puts ≡ m.puts ++ taken call

-- what the store in memory says of a call
pub record DoesInMemory (score_of : List ℕ
    → List ℕ) (m : BlocksMemory) (call : Call) (m' : BlocksMemory)
    : Type 0 where
  pub answers : AnswersInMemory score_of m call
  pub leaves : LeavesInMemory score_of m m' call

-- ---- the parts of a call

-- what is to become of the next call
abbrev pub MeetsFate : Fate → BlocksMemory → Type 0
MeetsFate Fails m = Contains m.failing m.calls
MeetsFate IsRefused m = (¬ Contains m.failing m.calls) × Contains m.refusing m.calls
MeetsFate GoesOn m = (¬ Contains m.failing m.calls) × (¬ Contains m.refusing m.calls)

-- a refusal with this text, or want of memory for it
abbrev pub IsByText : (text : List ℕ) → BlockErr → Type 0
IsByText text Fault = ⊥
IsByText text (Refused found) = found ≡ text
IsByText text (WrongScore want found) = ⊥
IsByText text (Damaged want found) = ⊥
IsByText text NoMemory = ⊤

-- a refusal, which is counted, and nothing else changes; one by a text has its cause
pub record RefusesInMemory (m m' : BlocksMemory) (text : List ℕ) (cause : Type 0) (err : BlockErr)
    : Type 0 where
  pub by_text : IsByText text err
  pub just : IsBlockRefusal err → cause
  pub left : m' ≡ record m { counts = with_refusal (Some err) m.counts }

-- The block of a key was given, and noted. Or no block is held by the key, which is told, or memory is
-- short for telling it; either is counted, and nothing else changes.
abbrev pub GivesInMemory : (score_of : List ℕ → List ℕ) → (m m' : BlocksMemory) → Key
    → Result (List ℕ) BlockErr → Type 0
GivesInMemory score_of m m' k (Ok bytes) =
    (held_in score_of m k.score.0 k.kind ≡ Some bytes)
    × (m' ≡ record m { gets = m.gets ++ k ∷ [] })
GivesInMemory score_of m m' k (Err err) =
    RefusesInMemory m m' (why_words Absent) (held_in score_of m k.score.0 k.kind ≡ None) err

-- A block was taken in, and noted. Or its score is that of other bytes that are held, or of no bytes, which
-- is told, or memory is short for telling it; either is counted, and nothing else changes.
abbrev pub TakesInMemory : (score_of : List ℕ → List ℕ) → (m m' : BlocksMemory) → Block
    → Result Score BlockErr → Type 0
TakesInMemory score_of m m' b (Ok score) =
    (score.0 ≡ score_of b.bytes) × HasNoOther score_of (held_in score_of m) b
    × (m' ≡ record m {
      blocks = blocks_after score_of m (put b (Ok score));
      puts = m.puts ++ taken (put b (Ok score));
    })
TakesInMemory score_of m m' b (Err err) =
    RefusesInMemory m m' (why_words Collision) (Collides score_of m b.bytes) err
