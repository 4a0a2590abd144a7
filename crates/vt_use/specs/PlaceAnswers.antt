-- What a job of one block comes to, with a store at a place.
use Rattle.std.specs.Prelude.{Option, Some, None, Result, Ok, Err}
use Rattle.vt_base.specs.declared.why.Why.TheVariants.{NoMemory}
use Rattle.vt_tree.specs.declared.error.BlockErr.{BlockErr}
use Rattle.vt_use.specs.declared.used_at.StoreError.{StoreError}
use Rattle.vt_use.specs.declared.used_at.StoreError.TheVariants.{Refused}
use Rattle.vt_use.specs.declared.used_at.UsedAt.{UsedAt}

-- What was asked for, where all was done; and else what failed first: why the store said no, or what
-- failed at the end of its use. Where the job gave up and the store never said no, memory was wanting
-- for the job itself.
abbrev pub answer_in : {T : Type 0} → Result T BlockErr → Option StoreError
    → (closed : Result (Unit {0}) StoreError) → Result T StoreError
answer_in (Ok value) refusal (Ok done) = Ok value
answer_in (Ok value) refusal (Err bad) = Err bad
answer_in (Err err) (Some bad) closed = Err bad
answer_in (Err err) None closed = Err (Refused NoMemory)

-- the same of a store at a place, which may not have been used: then that is why
abbrev pub answer_at : {T : Type 0} → Result (UsedAt (Result T BlockErr)) StoreError
    → Result T StoreError
answer_at (Ok used) = answer_in used.output used.refusal used.closed
answer_at (Err bad) = Err bad
