-- Why a server didn't answer.
use Rattle.std.specs.Prelude.{ℕ, ◌≡◌, ◌≢◌, ◌<◌, ⊤, Option, Some, None, List, [], ◌∷◌}
use Rattle.vt_client.specs.declared.error.ClientErr.{ClientErr}
use Rattle.vt_client.specs.declared.error.ClientErr.TheVariants as errs
use Rattle.vt_client.specs.Stores.{IsToldAs}
use Rattle.vt_tree.specs.declared.error.BlockErr.{BlockErr}
use Rattle.vt_tree.specs.Calls.{Call, refusals_of}
use Rattle.vt_remote.specs.Members.{LinkOf}

-- The link that is back counts a failed read, or a failed write, where one is told; and two scores
-- differ. No client is spent before it is refused.
abbrev pub HasCauseOver : {L : Type 0} → LinkOf L → ClientErr → (back : L) → Type 0
HasCauseOver link errs.ReadFault back = 0 < link.read_faults back
HasCauseOver link errs.WriteFault back = 0 < link.write_faults back
HasCauseOver link (errs.WrongScore want found) back = want.0 ≢ found.0
HasCauseOver link errs.Spent back = ⊥
HasCauseOver link (errs.Remote text) back = ⊤
HasCauseOver link errs.Cut back = ⊤
HasCauseOver link (errs.BadReply place) back = ⊤
HasCauseOver link errs.NoVersion back = ⊤
HasCauseOver link errs.NoMemory back = ⊤

-- the first refusal among these calls is told of this one
pub record IsToldFirst (why : ClientErr) (calls : List Call) : Type 0 where
  pub err : BlockErr
  pub rest : List BlockErr
  pub refusals : refusals_of calls ≡ err ∷ rest
  pub told : IsToldAs why err

-- It is why the first of these calls was refused that was, which has its cause; and none was where
-- there is none.
abbrev pub IsFirstRefusal : {L : Type 0} → LinkOf L → Option ClientErr → List Call → (back : L)
    → Type 0
IsFirstRefusal link None calls back = refusals_of calls ≡ []
IsFirstRefusal link (Some why) calls back = IsToldFirst why calls × HasCauseOver link why back
