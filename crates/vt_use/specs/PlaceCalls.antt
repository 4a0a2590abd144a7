-- The calls that were made of a store of this process as a store of blocks, and why it said no.
use Rattle.std.specs.Prelude.{ℕ, ◌≡◌, ⊤, Bool, true, Option, Some, None, Result, List, [], ◌∷◌}
use Rattle.vt_base.specs.Damage.{Differ}
use Rattle.vt_base.specs.Protocol.{why_words}
use Rattle.vt_base.specs.declared.why.Why.{Why}
use Rattle.vt_base.specs.declared.why.Why.TheVariants as whys
use Rattle.vt_core.specs.Core.{CoreState}
use Rattle.vt_disk.specs.Members.{DiskOf}
use Rattle.vt_handler.specs.Serving.{tells_failure}
use Rattle.vt_blocks.specs.Local.{IsToldAs}
use Rattle.vt_tree.specs.declared.error.BlockErr.{BlockErr}
use Rattle.vt_tree.specs.declared.error.BlockErr.TheVariants.{Fault, Refused, WrongScore, Damaged, NoMemory}
use Rattle.vt_tree.specs.Calls.{Call, refusals_of}
use Rattle.vt_use.specs.Causes.{FailsFor}
use Rattle.vt_use.specs.LocalJobs.{DoesOnStore}
use Rattle.vt_use.specs.Stores.{store_on}
use Rattle.vt_use.specs.Uses.{UsesCore}

-- A store on devices was called so, as a store of blocks, and for nothing else; it said no first for
-- this, if it did; and its use was ended, where it may have been written to. So many blocks are new
-- in it.
pub record CallsStore {D : Type 0} (score : List ℕ → List ℕ) (disk : DiskOf D) (now : ℕ)
    (writes : Bool) (calls : List Call) (said : Option Why) (closed : Result (Unit {0}) Why)
    (old new : CoreState D) : Type 0 where
  pub added : ℕ
  pub uses : UsesCore score disk now writes
      (DoesOnStore (store_on score disk) (λ all l l'. all ≡ calls) said) added closed old new

-- Why a call of it is refused over a while before which no part of it had stopped, whatever its devices
-- hold: where a device is why, one of them counted a failed call, and of damage two values differ. A
-- text is that of a reason of the store, of which the same holds where the store failed. No store says
-- of a block that its score is another.
abbrev pub FailsAs : {D : Type 0} → DiskOf D → (old new : CoreState D) → BlockErr → Type 0
FailsAs disk old new Fault = FailsFor disk whys.DiskFault old new
FailsAs disk old new (Damaged want found) = Differ want found
FailsAs disk old new (WrongScore want found) = ⊥
FailsAs disk old new (Refused text) = (why : Why) × (text ≡ why_words why)
    × (tells_failure why ≡ true → FailsFor disk why old new)
FailsAs disk old new NoMemory = ⊤

-- the first refusal among these calls is told of this one
pub record IsSaidFirst (why : Why) (calls : List Call) : Type 0 where
  pub err : BlockErr
  pub rest : List BlockErr
  pub refusals : refusals_of calls ≡ err ∷ rest
  pub told : IsToldAs why err

-- What a store said no for first is why the first of these calls was refused that was; and none was
-- where it never said no.
abbrev pub SaysFirst : Option Why → List Call → Type 0
SaysFirst None calls = refusals_of calls ≡ []
SaysFirst (Some why) calls = IsSaidFirst why calls
