-- What a session asks of a store, and what it is answered, as contracts see them.
use Rattle.std.specs.Prelude.{Result, Ok, Err}
use Rattle.vt_base.specs.declared.answer.Said.{Said}
use Rattle.vt_base.specs.declared.answer.Said.TheVariants.{Score, Block, Synced, Refused}
use Rattle.vt_base.specs.declared.operation.Operation.{Operation as Asked}
use Rattle.vt_base.specs.declared.operation.Operation.TheVariants.{Read, Write, Sync}
use Rattle.vt_base.specs.declared.why.Why.{Why}
use Rattle.vt_base.specs.Protocol.{Operation, read, write, sync, RMessage, r_read, r_write, r_sync, r_refused}

-- the operation of the model that a request in memory is
abbrev pub operation_of : Asked → Operation
operation_of (Read score kind count) = read score.0 kind count
operation_of (Write kind bytes) = write kind bytes.now
operation_of Sync = sync

-- the reply that says what a store answers
abbrev pub reply_saying : Said → RMessage
reply_saying (Score score) = r_write score.0
reply_saying (Block block) = r_read block
reply_saying Synced = r_sync
reply_saying (Refused why) = r_refused why

-- what an operation gave, as a message, or why it is refused
abbrev pub result_of : Said → Result RMessage Why
result_of (Score score) = Ok (r_write score.0)
result_of (Block block) = Ok (r_read block)
result_of Synced = Ok r_sync
result_of (Refused why) = Err why
