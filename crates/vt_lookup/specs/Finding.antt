-- Looking for a block, whatever the devices hold: what is answered is what was read.
use Rattle.std.specs.Prelude.{◌≡◌, ◌⊎◌, ⊤, ℕ, ◌<◌, nat_le, IfErr, IsSome, Bool, true, false, if◌then◌else◌, MatchBool, MatchResult, Option, Some, None, Result, Ok, Err, List, length, map}
use Rattle.std.specs.Str.{bytes_eq}
use Rattle.vt_base.specs.Damage.{Differ}
use Rattle.vt_base.specs.Faults.{HasRisen}
use Rattle.vt_base.specs.declared.key.Key.{Key}
use Rattle.vt_base.specs.declared.place.Entry.{Entry}
use Rattle.vt_base.specs.declared.place.Place.{Place}
use Rattle.vt_base.specs.declared.why.Site.TheVariants.{Clump, Bucket}
use Rattle.vt_base.specs.declared.why.Why.{Why}
use Rattle.vt_base.specs.declared.why.Why.TheVariants.{DiskFault, Damaged, NoMemory, Collision, IndexFull, ArenasFull, Stopped}
use Rattle.vt_disk.specs.Calls.{OnlyReads as DiskReads}
use Rattle.vt_disk.specs.Members.{DiskOf}
use Rattle.vt_base.specs.Protocol.{write, r_write}
use Rattle.vt_model.specs.declared.TheConstants.{BUCKET_ROOM}
use Rattle.vt_model.specs.Answer.{Outcome, answer, refuses, replies}
use Rattle.vt_model.specs.History.{History, HasScoreAt}
use Rattle.vt_model.specs.Legal.{IsLegal}
use Rattle.vt_model.specs.Places.{Setup}
use Rattle.vt_arena.specs.declared.error.ReadBad.{ReadBad}
use Rattle.vt_arena.specs.declared.error.ReadBad.TheVariants as read_bad
use Rattle.vt_log.specs.Answers.{OnlyReadsLog}
use Rattle.vt_log.specs.Faults.{OneHasRisen}
use Rattle.vt_log.specs.Log.{LogState, setup_of_log, has_next}
use Rattle.vt_log.specs.Sound.{IsSoundLog}
use Rattle.vt_log.specs.Queue.{IsFirstAt}
use Rattle.vt_log.specs.Reading.{AnswersRead}
use Rattle.vt_isect.specs.declared.error.ShardErr.{ShardErr}
use Rattle.vt_lumps.specs.Lumps.{cached_bytes, used, with_lump}
use Rattle.vt_shard.specs.Looking.{LooksUp, FindsOther, CountsCrowd}
use Rattle.vt_shard.specs.Shard.{ShardState, bucket_at}
use Rattle.vt_shard.specs.Sound.{IsSoundShard}
use Rattle.vt_lookup.specs.declared.writing.Verdict.{Verdict}
use Rattle.vt_lookup.specs.declared.writing.Verdict.TheVariants.{Held, New}
use Rattle.vt_isect.specs.declared.error.ShardErr.TheVariants as shard_err

-- the parts that have to do with a score: the log, and the shard of the score's bucket
pub record StoreParts (D : Type 0) : Type 0 where
  pub log : LogState D
  pub shard : ShardState D

-- the parts that a search reaches: the log, and one shard
abbrev pub parts_of : {D : Type 0} → LogState D → ShardState D → StoreParts D
parts_of log shard = record { log = log; shard = shard }

-- The parts of a search, the log and one shard, are sound for a history of which so many blocks are
-- durable.
pub record AreSound {D : Type 0} (score : List ℕ → List ℕ) (disk : DiskOf D) (c : Setup)
    (p : StoreParts D) (h : History) (durable : ℕ) : Type 0 where
  pub log : IsSoundLog score disk p.log h
  pub shard : IsSoundShard score c disk p.shard h durable
  pub opened : c ≡ record (setup_of_log p.log) { sections = c.sections }
  pub legal : IsLegal score c h

-- where the filter says that a score is absent, no block has it
abbrev pub IsRightFilter : (List ℕ → List ℕ) → History → (s : List ℕ) → (may_have : Bool) → Type 0
IsRightFilter score h s may_have = may_have ≡ false → (i : ℕ) → ¬ HasScoreAt score h i s

-- a fault or want of memory, which may keep any look-up from its answer
abbrev pub MayKeepFrom : Why → Type 0
MayKeepFrom why = (why ≡ DiskFault) ⊎ (why ≡ NoMemory)

-- what the model's answer to a write is where a test finds this
abbrev pub IsVerdict : Outcome → (s : List ℕ) → Verdict → Type 0
IsVerdict outcome s Held = outcome ≡ replies (r_write s)
IsVerdict outcome s New = IsSome outcome.added

-- a new block is refused for one of these
abbrev pub IsWriteRefusal : Why → Type 0
IsWriteRefusal Collision = ⊤
IsWriteRefusal IndexFull = ⊤
IsWriteRefusal ArenasFull = ⊤
IsWriteRefusal why = ⊥

-- the verdict is that of the model's answer, unless the store fails
abbrev pub JudgesWrite : (List ℕ → List ℕ) → Setup → History → Key → (bytes : List ℕ)
    → Result Verdict Why → Type 0
JudgesWrite score c h key bytes verdict =
    let outcome = answer score c h (write key.kind bytes) in
    MatchResult verdict (IsVerdict outcome key.score.0)
    (λ why. MayKeepFrom why ⊎ (IsWriteRefusal why × (outcome ≡ refuses why)))

-- the parts with this shard in place of theirs
abbrev pub with_shard : {D : Type 0} → ShardState D → StoreParts D → StoreParts D
with_shard shard p = record p { shard = shard }

-- a block that was looked for: there is one, or there is none, or it can't be told
abbrev pub Sought : Type 0
Sought = Result (Option (List ℕ)) Why

-- ---- what a look-up reads, and why it may fail

-- The shard reads from its device, at most so many times. It keeps its place, its dirty entries and
-- its writeback.
pub record ReadsShard {D : Type 0} (disk : DiskOf D) (most : ℕ) (old new : ShardState D) : Type 0
  where
    pub section : new.section ≡ record old.section { disk = new.section.disk }
    pub reads : DiskReads disk most old.section.disk new.section.disk
    pub dirty : new.index.dirty ≡ old.index.dirty
    pub writeback : new.writeback ≡ old.writeback
    pub filed : new.filed ≡ old.filed

-- no count of failed calls rose, of the log's devices and of the shard's
abbrev pub NoneRose : {D : Type 0} → DiskOf D → (old new : StoreParts D) → Type 0
NoneRose disk old new = (map disk.faults new.log.disks ≡ map disk.faults old.log.disks)
    × (disk.faults new.shard.section.disk ≡ disk.faults old.shard.section.disk)

-- One of the counts of failed calls rose, of the log's devices and of the shard's.
abbrev pub OnePartRose : {D : Type 0} → DiskOf D → (old new : StoreParts D) → Type 0
OnePartRose disk old new =
    (OneHasRisen (map disk.faults old.log.disks) (map disk.faults new.log.disks)
    × (disk.faults new.shard.section.disk ≡ disk.faults old.shard.section.disk))
    ⊎ ((map disk.faults new.log.disks ≡ map disk.faults old.log.disks)
    × HasRisen (disk.faults old.shard.section.disk) (disk.faults new.shard.section.disk))

-- a fault is told only where one device counted a failed call, and else none did
abbrev pub CountsFailure : {D : Type 0} → DiskOf D → Why → (old new : StoreParts D) → Type 0
CountsFailure disk DiskFault old new = OnePartRose disk old new
CountsFailure disk why old new = NoneRose disk old new

-- a write is refused, or the store fails: a device does, two values differ, or memory runs out
abbrev pub MayEndLook : Why → Type 0
MayEndLook DiskFault = ⊤
MayEndLook NoMemory = ⊤
MayEndLook (Damaged site want found) = Differ want found
MayEndLook Collision = ⊤
MayEndLook IndexFull = ⊤
MayEndLook ArenasFull = ⊤
MayEndLook why = ⊥

-- The parts read from their devices, the log and the shard at most so many times, and nothing else
-- changes but what is in memory of blocks and clean entries. A disk fault is told exactly where one
-- of their counts rose.
pub record LooksFor {D T : Type 0} (score : List ℕ → List ℕ) (disk : DiskOf D)
    (clumps frames : ℕ) (result : Result T Why) (old new : StoreParts D) : Type 0 where
  pub log : OnlyReadsLog score disk clumps old.log new.log
  pub shard : ReadsShard disk frames old.shard new.shard
  pub counts : MatchResult result (λ _. NoneRose disk old new)
      (λ why. CountsFailure disk why old new)
  pub cause : 0 < length old.log.layout → IfErr result MayEndLook

-- ---- reading a block of which there is an entry

-- The block is in memory, where it becomes the one that was used last; memory may be short for a
-- copy.
pub record TakesLump {D : Type 0} (key : Key) (block : Sought) (old new : StoreParts D)
    : Type 0 where
  pub bytes : List ℕ
  pub has : cached_bytes key old.shard.lumps ≡ Some bytes
  pub block_is : (block ≡ Ok (Some bytes)) ⊎ (block ≡ Err NoMemory)
  pub new_is : new ≡ with_shard (record old.shard { lumps = used key old.shard.lumps }) old

-- what the log's answer to a read at this place is told as
abbrev pub why_of_read : Place → ReadBad → Why
why_of_read place read_bad.Fault = DiskFault
why_of_read place (read_bad.Damaged want found) = Damaged (Clump place) want found
why_of_read place read_bad.NoMemory = NoMemory

-- what reading the block at this place gives a search
abbrev pub sought_in : Place → Result (List ℕ) ReadBad → Sought
sought_in place (Ok bytes) = Ok (Some bytes)
sought_in place (Err bad) = Err (why_of_read place bad)

-- a block that the log gave is kept in memory from then on, unless memory is short
abbrev pub MayKeep : {D : Type 0} → Key → Result (List ℕ) ReadBad → (old new : ShardState D) → Type 0
MayKeep key (Ok bytes) old new =
    (new ≡ record old { lumps = with_lump key bytes old.lumps }) ⊎ (new ≡ old)
MayKeep key (Err bad) old new = new ≡ old

-- The block isn't in memory, and the log is asked for what stands at the entry's place; memory may
-- be short for it.
pub record ReadsClump {D : Type 0} (score : List ℕ → List ℕ) (disk : DiskOf D) (entry : Entry)
    (block : Sought) (old new : StoreParts D) : Type 0 where
  pub absent : cached_bytes entry.key old.shard.lumps ≡ None
  pub answer : Result (List ℕ) ReadBad
  pub answers : AnswersRead score disk old.log entry.place entry.key answer
  pub reads : OnlyReadsLog score disk 2 old.log new.log
  pub queued : (i : ℕ) → IsFirstAt old.log.queue.places entry.place i → new.log ≡ old.log
  pub keeps : MayKeep entry.key answer old.shard new.shard
  pub block_is : (block ≡ sought_in entry.place answer) ⊎ (block ≡ Err NoMemory)

-- a shard's failure, as the reason of a refusal
abbrev pub why_of_shard : ShardErr → Why
why_of_shard shard_err.Fault = DiskFault
why_of_shard (shard_err.Damaged bucket want found) = Damaged (Bucket bucket) want found
why_of_shard (shard_err.Stopped call) = Stopped call

-- the block of the entry that an index look-up gave, if it gave one
abbrev pub ReadsFound : {D : Type 0} → (List ℕ → List ℕ) → DiskOf D
    → Result (Option Entry) ShardErr → Sought → (old new : StoreParts D) → Type 0
ReadsFound score disk (Err bad) block old new = (block ≡ Err (why_of_shard bad)) × (new ≡ old)
ReadsFound score disk (Ok None) block old new = (block ≡ Ok None) × (new ≡ old)
ReadsFound score disk (Ok (Some entry)) block old new =
    TakesLump entry.key block old new ⊎ ReadsClump score disk entry block old new

-- ---- looking for a block

-- by its key: the index is asked where the block isn't in memory
pub record AsksIndex {D : Type 0} (score : List ℕ → List ℕ) (disk : DiskOf D) (key : Key)
    (block : Sought) (old new : StoreParts D) : Type 0 where
  pub absent : cached_bytes key old.shard.lumps ≡ None
  pub found : Result (Option Entry) ShardErr
  pub shard : ShardState D
  pub looks : LooksUp disk key found old.shard shard
  pub reads : ReadsFound score disk found block (with_shard shard old) new

-- where the filter says that no block has the score, nothing is looked up
abbrev pub SeeksBlock : {D : Type 0} → (List ℕ → List ℕ) → DiskOf D → (may_have : Bool) → Key
    → Sought → (old new : StoreParts D) → Type 0
SeeksBlock score disk false key block old new = (block ≡ Ok None) × (new ≡ old)
SeeksBlock score disk true key block old new =
    TakesLump key block old new ⊎ AsksIndex score disk key block old new

-- What a search by the score alone answers: an entry under any type stands for all.
abbrev pub SeeksOther : {D : Type 0} → (List ℕ → List ℕ) → DiskOf D → (may_have : Bool)
    → (s : List ℕ) → Sought → (old new : StoreParts D) → Type 0
SeeksOther score disk false s block old new = (block ≡ Ok None) × (new ≡ old)
SeeksOther {D} score disk true s block old new =
    (found : Result (Option Entry) ShardErr) × (shard : ShardState D)
    × FindsOther disk s found old.shard shard
    × ReadsFound score disk found block (with_shard shard old) new

-- ---- what becomes of a write, before it is added

-- by how many blocks the score's bucket has, and whether an arena has room
abbrev pub room_verdict : Result ℕ ShardErr → (room : Bool) → Result Verdict Why
room_verdict (Err bad) room = Err (why_of_shard bad)
room_verdict (Ok crowd) room =
    if nat_le BUCKET_ROOM crowd then Err IndexFull
    else if room then Ok New
    else Err ArenasFull

-- whether a block's bucket and the arenas have room for it; only the bucket's crowd is read
pub record TestsRoom {D : Type 0} (disk : DiskOf D) (s bytes : List ℕ)
    (verdict : Result Verdict Why) (old new : StoreParts D) : Type 0 where
  pub crowd : Result ℕ ShardErr
  pub counts : CountsCrowd disk (bucket_at old.shard s) crowd old.shard new.shard
  pub log : new.log ≡ old.log
  pub verdict_is : verdict ≡ room_verdict crowd (has_next old.log (length bytes))

-- A block that was found is compared with the one to be written: where it has other bytes, that is
-- refused. Else, or where none was found, the tests go on so.
abbrev pub Compares : {D : Type 0} → Sought → (bytes : List ℕ)
    → (same none : Result Verdict Why → (old new : StoreParts D) → Type 0) → Result Verdict Why
    → (old new : StoreParts D) → Type 0
Compares (Err why) bytes same none verdict old new = (verdict ≡ Err why) × (new ≡ old)
Compares (Ok None) bytes same none verdict old new = none verdict old new
Compares (Ok (Some block)) bytes same none verdict old new =
    MatchBool (bytes_eq block bytes) (same verdict old new)
    ((verdict ≡ Err Collision) × (new ≡ old))

-- the block is held
abbrev pub HoldsBlock : {D : Type 0} → Result Verdict Why → (old new : StoreParts D) → Type 0
HoldsBlock verdict old new = (verdict ≡ Ok Held) × (new ≡ old)

-- no block has the key, and another one of the score is looked for
pub record TestsOther {D : Type 0} (score : List ℕ → List ℕ) (disk : DiskOf D) (may_have : Bool)
    (s bytes : List ℕ) (verdict : Result Verdict Why) (old new : StoreParts D) : Type 0 where
  pub other : Sought
  pub mid : StoreParts D
  pub seeks : SeeksOther score disk may_have s other old mid
  pub compares : Compares other bytes (TestsRoom disk s bytes) (TestsRoom disk s bytes)
      verdict mid new

-- the tests of a write, in the order of the model's answer
pub record TestsWrite {D : Type 0} (score : List ℕ → List ℕ) (disk : DiskOf D) (may_have : Bool)
    (key : Key) (bytes : List ℕ) (verdict : Result Verdict Why) (old new : StoreParts D)
    : Type 0 where
  pub own : Sought
  pub mid : StoreParts D
  pub seeks : SeeksBlock score disk may_have key own old mid
  pub compares : Compares own bytes HoldsBlock
      (TestsOther score disk may_have key.score.0 bytes) verdict mid new
