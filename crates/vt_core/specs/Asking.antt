-- What a session's events answer and leave, whatever the devices hold.
use Rattle.std.specs.Prelude.{◌≡◌, ◌⊎◌, ◌↔◌, ⊤, ℕ, ◌<◌, ◌≤◌, [], max, IsTrue, Bool, if◌then◌else◌, nat_lt, MatchBool, Option, Some, None, Result, Ok, Err, List, length, slice_get, slice_set}
use Rattle.std.specs.Option.{option_and_then, option_or}
use Rattle.std.specs.Str.{bytes_eq}
use Rattle.vt_base.specs.Damage.{Differ}
use Rattle.vt_base.specs.declared.answer.Said.{Said}
use Rattle.vt_base.specs.declared.answer.Said.TheVariants.{Score, Block, Synced, Refused}
use Rattle.vt_base.specs.declared.key.Key.{Key}
use Rattle.vt_base.specs.declared.why.Why.{Why}
use Rattle.vt_base.specs.declared.why.Why.TheVariants.{TooSmall, Absent, DiskFault, Stopped, Damaged, NoMemory, Collision}
use Rattle.vt_base.specs.Protocol.{Operation, ping, read, write, sync}
use Rattle.vt_clump.specs.declared.packed.Packed.{Packed}
use Rattle.vt_clump.specs.Clumps.{IsPacked, stored_of}
use Rattle.vt_disk.specs.Members.{DiskOf}
use Rattle.vt_model.specs.Answer.{answer}
use Rattle.vt_model.specs.Places.{section_of_score}
use Rattle.vt_log.specs.declared.TheConstants.{QUEUE_MAX}
use Rattle.vt_log.specs.Log.{queued}
use Rattle.vt_bloom.specs.Bits.{HasBitsOf, MarksScore}
use Rattle.vt_shard.specs.declared.TheConstants.{ROOM}
use Rattle.vt_model.specs.Causes.{ReachesParts, MayFindDamage, TakesMemory}
use Rattle.vt_lookup.specs.declared.writing.Verdict.{Verdict}
use Rattle.vt_lookup.specs.declared.writing.Verdict.TheVariants.{Held, New}
use Rattle.vt_core.specs.declared.event.Out.{Out}
use Rattle.vt_core.specs.declared.event.Out.TheVariants.{Said as SaidOut, Waits, NotYet, Nothing, Moved, Failed}
use Rattle.vt_core.specs.Core.{CoreState, history_len, setup_of}
use Rattle.vt_base.specs.Operations.{reply_saying}
use Rattle.vt_core.specs.Machine.{WaitsForNone, WaitsAt}
use Rattle.vt_lookup.specs.Finding.{StoreParts, Sought, SeeksBlock, TestsWrite}
use Rattle.vt_lookup.specs.Adding.{AddsPacked}

-- ---- sessions

-- the store where this session waits for so many blocks, or for nothing
abbrev pub with_waiting : {D : Type 0} → (session : ℕ) → Option ℕ → CoreState D → CoreState D
with_waiting session number k = record k { waiting = slice_set k.waiting session number }

-- this is said, about all blocks that were accepted
abbrev pub says : {D : Type 0} → Said → CoreState D → Out
says said k = SaidOut (record { said = said; at = history_len k })

-- ---- the answer to a sync that waits

-- A session's sync is answered as done exactly where its blocks are durable and the log goes on.
abbrev pub EndsSync : {D : Type 0} → (session at : ℕ) → Said → (old new : CoreState D) → Type 0
EndsSync session at Synced old new =
    WaitsAt old.waiting session at × (old.log.stopped ≡ None) × (at ≤ old.log.durable)
    × (new ≡ with_waiting session None (record old { synced = max old.synced at }))
EndsSync session at (Refused (Stopped call)) old new =
    WaitsAt old.waiting session at × (old.log.stopped ≡ Some call)
    × (new ≡ with_waiting session None old)
EndsSync session at said old new = ⊥

-- the sync of a session is answered once its blocks are durable, or the store has stopped; else it
-- waits
abbrev pub AnswersSync : {D : Type 0} → (session : ℕ) → Out → (old new : CoreState D) → Type 0
AnswersSync session (SaidOut a) old new = EndsSync session a.at a.said old new
AnswersSync session NotYet old new =
    ((number : ℕ) × WaitsAt old.waiting session number × (old.log.durable < number))
    × (old.log.stopped ≡ None) × (new ≡ old)
AnswersSync session Nothing old new = WaitsForNone old.waiting session × (new ≡ old)
AnswersSync session Waits old new = ⊥
AnswersSync session Moved old new = ⊥
AnswersSync session (Failed why) old new = ⊥

-- ---- the parts of a score

-- A store looks for a score in the log and in the score's shard, as they are, and its filter's bits
-- say whether a block may have it.
pub record LooksIn {D : Type 0} (k : CoreState D) (s : List ℕ) (p : StoreParts D) (may_have : Bool)
    : Type 0 where
  pub log : p.log ≡ k.log
  pub shard : slice_get k.shards (section_of_score (setup_of k) s) ≡ Some p.shard
  pub bits : IsTrue may_have ↔ HasBitsOf k.bits s

-- the store with these parts in place of its log and of the shard with this number
abbrev pub with_parts : {D : Type 0} → (shard : ℕ) → StoreParts D → CoreState D → CoreState D
with_parts shard p k = record k { log = p.log; shards = slice_set k.shards shard p.shard }

-- the number of the shard that a score belongs to
abbrev pub shard_of : {D : Type 0} → CoreState D → (s : List ℕ) → ℕ
shard_of k s = section_of_score (setup_of k) s

-- the call at which a part stopped to which an operation writes: the log or, of a write, the shard
-- of its score
abbrev pub stop_for : {D : Type 0} → (List ℕ → List ℕ) → CoreState D → Operation → Option ℕ
stop_for score k (write kind bytes) = option_or k.log.stopped
    (option_and_then (λ s. s.section.stopped) (slice_get k.shards (shard_of k (score bytes))))
stop_for score k sync = k.log.stopped
stop_for score k (read s kind count) = None
stop_for score k ping = None

-- ---- a read

-- what is said of a block that was looked for, to a reader of so many bytes
abbrev pub lent : (count : ℕ) → Sought → Said
lent count (Err why) = Refused why
lent count (Ok None) = Refused Absent
lent count (Ok (Some bytes)) =
    if nat_lt count (length bytes) then Refused TooSmall else Block bytes

-- a block is read: from memory, or as the index and the log give it
pub record AnswersReadOperation {D : Type 0} (score : List ℕ
    → List ℕ) (disk : DiskOf D) (key : Key) (count : ℕ)
    (said : Said) (old new : CoreState D) : Type 0 where
  pub before : StoreParts D
  pub after : StoreParts D
  pub may_have : Bool
  pub block : Sought
  pub looks : LooksIn old key.score.0 before may_have
  pub seeks : SeeksBlock score disk may_have key block before after
  pub said_is : said ≡ lent count block
  pub new_is : new ≡ with_parts (shard_of old key.score.0) after old

-- ---- a write

-- there is no room to add a block: the queue is full, or the shard has no spare
abbrev pub HasNoRoom : {D : Type 0} → StoreParts D → Type 0
HasNoRoom p = (queued p.log ≡ QUEUE_MAX) ⊎ (length p.shard.index.dirty ≡ ROOM)

-- the block of this key is added, with this time
pub record AddsBlock {D : Type 0} (score : List ℕ → List ℕ) (key : Key) (bytes : List ℕ) (now : ℕ)
    (old new : StoreParts D) : Type 0 where
  pub packed : Packed
  pub is_packed : IsPacked score packed
  pub kind : packed.kind ≡ key.kind
  pub block : (stored_of packed).block ≡ bytes
  pub time : (stored_of packed).time ≡ now
  pub adds : AddsPacked packed old new

-- The block of this key is added, with this time, and the bits of its score are set.
pub record AddsBlockAndBits {D : Type 0} (score : List ℕ
    → List ℕ) (key : Key) (bytes : List ℕ) (now : ℕ)
    (tested : StoreParts D) (out : Out) (old new : CoreState D) : Type 0 where
  pub room : ¬ HasNoRoom tested
  pub after : StoreParts D
  pub adds : AddsBlock score key bytes now tested after
  pub bits : MarksScore old.bits key.score.0 new.bits
  pub out_is : out ≡ says (Score key.score) old
  pub new_is : new ≡ record (with_parts (shard_of old key.score.0) after old) { bits = new.bits }

-- what is said of a block that was tested, and it is added if it is new: NotYet exactly where there
-- is no room; memory may be short for its clump
abbrev pub EndsWrite : {D : Type 0} → (List ℕ → List ℕ) → Key → (bytes : List ℕ) → (now : ℕ)
    → Result Verdict Why → (tested : StoreParts D) → Out → (old new : CoreState D) → Type 0
EndsWrite score key bytes now (Err why) tested out old new =
    (out ≡ says (Refused why) old) × (new ≡ with_parts (shard_of old key.score.0) tested old)
EndsWrite score key bytes now (Ok Held) tested out old new =
    (out ≡ says (Score key.score) old)
    × (new ≡ with_parts (shard_of old key.score.0) tested old)
EndsWrite score key bytes now (Ok New) tested out old new =
    (HasNoRoom tested × (out ≡ NotYet)
    × (new ≡ with_parts (shard_of old key.score.0) tested old))
    ⊎ (¬ HasNoRoom tested × (out ≡ says (Refused NoMemory) old)
    × (new ≡ with_parts (shard_of old key.score.0) tested old))
    ⊎ AddsBlockAndBits score key bytes now tested out old new

-- a block is written
pub record AnswersWriteOperation {D : Type 0} (score : List ℕ
    → List ℕ) (disk : DiskOf D) (key : Key)
    (bytes : List ℕ) (now : ℕ) (out : Out) (old new : CoreState D) : Type 0 where
  pub before : StoreParts D
  pub tested : StoreParts D
  pub may_have : Bool
  pub verdict : Result Verdict Why
  pub looks : LooksIn old key.score.0 before may_have
  pub tests : TestsWrite score disk may_have key bytes verdict before tested
  pub ends : EndsWrite score key bytes now verdict tested out old new

-- ---- a request

-- What becomes of an operation that reaches the store's parts where none has stopped to which it
-- writes. A block that has the zero score is refused before anything is looked up.
abbrev pub Performs : {D : Type 0} → (List ℕ → List ℕ) → DiskOf D → (session : ℕ) → Operation
    → (now : ℕ) → Out → (old new : CoreState D) → Type 0
Performs score disk session ping now out old new = ⊥
Performs score disk session (read s kind count) now out old new =
    (said : Said) × (out ≡ says said old)
    × AnswersReadOperation score disk (record { score = record { 0 = s }; kind = kind }) count said
    old new
Performs score disk session (write kind bytes) now out old new =
    MatchBool (bytes_eq (score bytes) (score []))
    ((out ≡ says (Refused Collision) old) × (new ≡ old))
    (AnswersWriteOperation score disk (record { score = record { 0 = score bytes }; kind = kind })
    bytes now out
    old new)
Performs score disk session sync now out old new =
    (out ≡ Waits) × (new ≡ with_waiting session (Some (history_len old)) old)

-- What an operation of a session that waits for none gives. One that needs no part of the store is
-- answered as by a store without blocks; one that writes to a part that has stopped is refused.
pub record AnswersOperation {D : Type 0} (score : List ℕ → List ℕ) (disk : DiskOf D) (session : ℕ)
    (m : Operation) (now : ℕ) (out : Out) (old new : CoreState D) : Type 0 where
  pub early : ¬ ReachesParts score m → (said : Said) × (out ≡ says said old)
      × (reply_saying said ≡ (answer score (setup_of old) [] m).reply) × (new ≡ old)
  pub stopped : ReachesParts score m → (call : ℕ) → stop_for score old m ≡ Some call
      → (out ≡ says (Refused (Stopped call)) old) × (new ≡ old)
  pub performs : ReachesParts score m → stop_for score old m ≡ None
      → Performs score disk session m now out old new

-- why the store may fail in an operation
abbrev pub MayBeTold : {D : Type 0} → (List ℕ → List ℕ) → CoreState D → Operation → Why → Type 0
MayBeTold score k m DiskFault = ReachesParts score m
MayBeTold score k m (Stopped call) = ReachesParts score m × (stop_for score k m ≡ Some call)
MayBeTold score k m (Damaged site want found) =
    ReachesParts score m × MayFindDamage m × Differ want found
MayBeTold score k m NoMemory = ReachesParts score m × TakesMemory m
MayBeTold score k m why = ⊤

-- A session that waits for a sync is told nothing, and one that doesn't is served. Where it is
-- refused since the store failed, that has its cause.
pub record AnswersRequest {D : Type 0} (score : List ℕ → List ℕ) (disk : DiskOf D) (session : ℕ)
    (m : Operation) (now : ℕ) (out : Out) (old new : CoreState D) : Type 0 where
  pub waits : (number : ℕ) → WaitsAt old.waiting session number → (out ≡ Nothing) × (new ≡ old)
  pub serves : WaitsForNone old.waiting session
      → AnswersOperation score disk session m now out old new
  pub cause : (why : Why) → out ≡ says (Refused why) old → MayBeTold score old m why
