-- Why a store may fail in an operation.
use Rattle.std.specs.Prelude.{ℕ, ◌≡◌, ◌≢◌, ◌-◌, ◌^◌, ◌<◌, ◌≤◌, ◌⊎◌, ⊤, List, [], slice_index}
use Rattle.vt_base.specs.Damage.{SameForm}
use Rattle.vt_base.specs.Kind.{IsKind}
use Rattle.vt_base.specs.Protocol.{Operation, ping, read, write, sync}
use Rattle.vt_base.specs.declared.why.FieldValue.{FieldValue}
use Rattle.vt_base.specs.declared.why.Site.{Site}
use Rattle.vt_base.specs.declared.why.Why.{Why}
use Rattle.vt_base.specs.declared.why.Why.TheVariants.{DiskFault, Stopped, Damaged, NoMemory}
use Rattle.vt_model.specs.History.{IsBlock}
use Rattle.vt_model.specs.Places.{Setup, section_of_score}

-- ---- causes

-- a part of the store that makes writes of its own: the log, or an index section by its number
pub data Part : Type 0 where
  log : Part
  section : (number : ℕ) → Part

-- Why the store failed in an operation: a count of faults rose, from these counts before it to
-- those behind it; a part makes no more writes since its device call of this number failed; what
-- was read differs from what was wanted; or memory ran out.
pub data Cause : Type 0 where
  disk_fault : (before after : List ℕ) → Cause
  stopped : (part : Part) (first : ℕ) → Cause
  damaged : (site : Site) (want found : FieldValue) → Cause
  no_memory : Cause

-- the refusal that a cause of failure is told as
abbrev pub why_of : Cause → Why
why_of (disk_fault before after) = DiskFault
why_of (stopped part first) = Stopped first
why_of (damaged site want found) = Damaged site want found
why_of no_memory = NoMemory

-- ---- where they may come

-- the operation comes as far as the store's parts: a write of a block, a read that isn't of the
-- zero score, a sync
abbrev pub ReachesParts : (List ℕ → List ℕ) → Operation → Type 0
ReachesParts score ping = ⊥
ReachesParts score (read s kind count) = IsKind kind × (s ≢ score [])
ReachesParts score (write kind bytes) = IsBlock (record { kind = kind; bytes = bytes })
ReachesParts score sync = ⊤

-- the parts that it has to write to: the log at a sync; at a write the log and the section of its
-- score's bucket
abbrev pub WritesTo : (List ℕ → List ℕ) → Setup → Operation → Part → Type 0
WritesTo score c ping part = ⊥
WritesTo score c (read s kind count) part = ⊥
WritesTo score c (write kind bytes) part =
    (part ≡ log) ⊎ (part ≡ section (section_of_score c (score bytes)))
WritesTo score c sync part = part ≡ log

-- The operation reads what was stored, and it takes memory.
abbrev pub MayFindDamage : Operation → Type 0
MayFindDamage ping = ⊥
MayFindDamage (read s kind count) = ⊤
MayFindDamage (write kind bytes) = ⊤
MayFindDamage sync = ⊥

-- the operation takes memory, so that it may be refused for want of it
abbrev pub TakesMemory : Operation → Type 0
TakesMemory ping = ⊥
TakesMemory (read s kind count) = ⊤
TakesMemory (write kind bytes) = ⊤
TakesMemory sync = ⊥

-- no count fell
abbrev pub NoneFell : List ℕ → List ℕ → Type 0
NoneFell before after = (k : ℕ) → slice_index before k ≤ slice_index after k

-- a count rose, or stands at the end of its type, where it can't
abbrev pub OneRose : List ℕ → List ℕ → Type 0
OneRose before after = (k : ℕ)
    × ((slice_index before k < slice_index after k) ⊎ (slice_index after k ≡ 2 ^ 64 - 1))

-- the operation may fail for this cause
abbrev pub IsCauseFor : (List ℕ → List ℕ) → Setup → Operation → Cause → Type 0
IsCauseFor score c operation (disk_fault before after) = OneRose before after
IsCauseFor score c operation (stopped part first) = WritesTo score c operation part
IsCauseFor score c operation (damaged site want found) =
    MayFindDamage operation × SameForm want found × (want ≢ found)
IsCauseFor score c operation no_memory = TakesMemory operation

-- a request may fail for this cause: it reaches parts, and the cause fits it
abbrev pub MayFail : (List ℕ → List ℕ) → Setup → Operation → Cause → Type 0
MayFail score c operation cause = ReachesParts score operation × IsCauseFor score c operation cause
