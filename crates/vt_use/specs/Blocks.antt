-- One block, read from a store on devices or written to it.
use Rattle.std.specs.Prelude.{ℕ, ◌≡◌, ◌⊎◌, true, false, Option, Result, Ok, Err, OnOk, List, length}
use Rattle.vt_base.specs.declared.TheConstants.{MAX_BLOCK}
use Rattle.vt_base.specs.declared.score.Score.{Score}
use Rattle.vt_base.specs.declared.why.Why.{Why}
use Rattle.vt_base.specs.Protocol.{read, write, r_read, r_write}
use Rattle.vt_disk.specs.Members.{DiskOf}
use Rattle.vt_model.specs.Answer.{answer, with_added}
use Rattle.vt_model.specs.History.{Block, History}
use Rattle.vt_model.specs.Places.{Setup}
use Rattle.vt_handler.specs.Serving.{answered}
use Rattle.vt_handler.specs.Taking.{DoesCalls}
use Rattle.vt_core.specs.Causes.{READS_MOST, OnlyReadFrom}
use Rattle.vt_core.specs.Core.{CoreState, devices_of, setup_of}
use Rattle.vt_core.specs.Files.{all_of}
use Rattle.vt_core.specs.Mounting.{AllStandFor, EachStands}
use Rattle.vt_core.specs.Sound.{IsSound}
use Rattle.vt_requests.specs.Answers.{KeepsAll}
use Rattle.vt_requests.specs.Ending.{Ends}
pub use Rattle.vt_use.specs.Answers.{HasFailed, IsAnswer}
use Rattle.vt_tree.specs.declared.error.BlockErr.{BlockErr}
use Rattle.vt_use.specs.LocalJobs.{DoesOnStore}
pub use Rattle.vt_use.specs.OneBlock.{ArePut, own_answer, asks_block}
use Rattle.vt_use.specs.OneBlock.{ReadsOne, WritesOne}
pub use Rattle.vt_use.specs.Stores.{Exchange, at_time, store_on}
use Rattle.vt_use.specs.Uses.{UsesCore}
use Rattle.vt_use.specs.Members.{StoreOf}

-- ---- what is asked

-- a store was asked for a block and a sync, and for nothing else
abbrev pub Puts : {S : Type 0} → StoreOf S → (kind : ℕ) (bytes : List ℕ) → Result Score Why
    → (old new : S) → Type 0
Puts T kind bytes result old new =
    (calls : List Exchange) × ArePut kind bytes result calls × DoesCalls T old calls new

-- ---- on devices

-- a store was asked for a block, and for nothing else
abbrev pub ReadsBlock : {D : Type 0} → (List ℕ → List ℕ) → DiskOf D → (kind : ℕ) (s : List ℕ)
    → Result (List ℕ) Why → (old new : CoreState D) → Type 0
ReadsBlock score disk kind s result old new =
    DoesCalls (store_on score disk) (at_time 0 old) (asks_block kind s result) (at_time 0 new)

-- the first refusal of the two, or the score
abbrev pub closed_behind : {T : Type 0} → Result T Why → Result (Unit {0}) Why → Result T Why
closed_behind (Err why) closed = Err why
closed_behind (Ok given) (Ok done) = Ok given
closed_behind (Ok given) (Err why) = Err why

-- A block was put into a store, whose use was then ended, whatever was answered.
pub record WritesBlock {D : Type 0} (score : List ℕ → List ℕ) (disk : DiskOf D) (now : ℕ)
    (kind : ℕ) (bytes : List ℕ) (result : Result Score Why) (old new : CoreState D) : Type 0 where
  pub put : Result Score Why
  pub closed : Result (Unit {0}) Why
  pub kept : CoreState D
  pub puts : Puts (store_on score disk) kind bytes put (at_time now old) (at_time now kept)
  pub ends : Ends score disk closed kept new
  pub result_is : result ≡ closed_behind put closed

-- ---- by a job

-- A store was used by the job that reads a block: this came of the job, the store said no first for
-- this, if it did, so many blocks are new in it, and this came of the end of its use.
abbrev pub ReadsByJob : {D : Type 0} → (List ℕ → List ℕ) → DiskOf D → (kind : ℕ) (s : List ℕ)
    → (output : Result (List ℕ) BlockErr) → (said : Option Why) → (added : ℕ)
    → (closed : Result (Unit {0}) Why) → (old new : CoreState D) → Type 0
ReadsByJob score disk kind s output said added closed old new = UsesCore score disk 0 false
    (DoesOnStore (store_on score disk) (λ calls l l'. ReadsOne kind s output calls) said) added closed
    old new

-- A store was used by the job that writes a block, with the same told of it.
abbrev pub WritesByJob : {D : Type 0} → (List ℕ → List ℕ) → DiskOf D → (now : ℕ) → Block
    → (output : Result Score BlockErr) → (said : Option Why) → (added : ℕ)
    → (closed : Result (Unit {0}) Why) → (old new : CoreState D) → Type 0
WritesByJob score disk now b output said added closed old new = UsesCore score disk now true
    (DoesOnStore (store_on score disk) (λ calls l l'. WritesOne score b output calls) said) added
    closed old new

-- ---- what follows

-- What is told of a block that was read is true of the history, which stays, and nothing but reads
-- was made of the devices.
pub record ReadsTrue {D : Type 0} (score : List ℕ → List ℕ) (disk : DiskOf D) (kind : ℕ)
    (s : List ℕ) (result : Result (List ℕ) Why) (h : History) (old new : CoreState D) : Type 0 where
  pub answers : IsAnswer score (setup_of old) h (read s kind MAX_BLOCK)
      (answered (λ (bytes : List ℕ). r_read bytes) result)
  pub sound : IsSound score disk new h
  pub reads : OnlyReadFrom disk READS_MOST (all_of (devices_of old)) (all_of (devices_of new))
  pub keeps : KeepsAll disk old new
  pub stands : EachStands score disk (setup_of old) old.log.tables new.log.durable
      (devices_of new) h

-- the history behind a write of a block: with the block, if the model adds it
abbrev pub written_to : (List ℕ → List ℕ) → Setup → History → (kind : ℕ) (bytes : List ℕ)
    → History
written_to score c h kind bytes = with_added h (answer score c h (write kind bytes)).added

-- What the devices hold behind a write: the history, and perhaps the block that the model adds. A
-- crash leaves a prefix of that with all that is durable. Where a score is told, it is the model's
-- answer, the block is there, and no crash takes it away.
pub record KeepsBlock {D : Type 0} (score : List ℕ → List ℕ) (disk : DiskOf D) (kind : ℕ)
    (bytes : List ℕ) (result : Result Score Why) (h : History) (old new : CoreState D) : Type 0
  where
    pub answers : IsAnswer score (setup_of old) h (write kind bytes)
        (answered (λ (given : Score). r_write given.0) result)
    pub last : History
    pub last_is : (last ≡ h) ⊎ (last ≡ written_to score (setup_of old) h kind bytes)
    pub sound : IsSound score disk new last
    pub keeps : KeepsAll disk old new
    pub stands : EachStands score disk (setup_of old) old.log.tables new.log.durable
        (devices_of new) last
    pub done : OnOk result ((last ≡ written_to score (setup_of old) h kind bytes)
        × AllStandFor score disk (setup_of old) old.log.tables (devices_of new) last (length last))
