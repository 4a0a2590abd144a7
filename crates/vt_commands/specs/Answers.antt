-- What `read`, `write` and `vac` promise over the store of a configuration.
use Rattle.std.specs.Prelude.{◌≡◌, ◌++◌, ◌⊎◌, IsTrue, [], ◌∷◌, Result, Ok, Err}
use Rattle.hex.specs.Hex.{encode_lower}
use Rattle.vt_base.specs.Protocol.{RMessage, r_read, r_write, r_error, why_words}
use Rattle.vt_base.specs.declared.why.Why.{Why}
use Rattle.vt_use.specs.declared.used_at.StoreError.{StoreError}
use Rattle.vt_use.specs.declared.used_at.StoreError.TheVariants as stores
use Rattle.vac_store.specs.declared.outcome.ArchivedAt.{ArchivedAt}
use Rattle.vac_store.specs.declared.outcome.ArchiveError.{ArchiveError}
use Rattle.vac_store.specs.declared.outcome.ArchiveError.TheVariants as bads
use Rattle.run_base.specs.declared.error.CommandError.TheVariants.{NoMemory}
use Rattle.run_base.specs.Blocks.{refusal_for}
use Rattle.run_base.specs.Change.{StreamChange}
use Rattle.run_base.specs.Errors.{CommandOutcome}

-- where the store of a configuration was opened, this holds of what it answered, and else that
abbrev pub WhereOpened : {T : Type 0} → (Holds : Result T Why → Type 0) → (unopened : Type 0)
    → Result T StoreError → Type 0
WhereOpened Holds unopened (Ok value) = Holds (Ok value)
WhereOpened Holds unopened (Err (stores.Refused why)) = Holds (Err why)
WhereOpened Holds unopened (Err (stores.Unopened bad)) = unopened
WhereOpened Holds unopened (Err (stores.Server bad)) = ⊥

-- where the store of a configuration was opened for a folder's archive, this holds, whatever came of
-- that, and else that; no server is told of there
abbrev pub WhereStored : (stored unopened : Type 0) → Result ArchivedAt ArchiveError → Type 0
WhereStored stored unopened (Ok made) = stored
WhereStored stored unopened (Err (bads.Folder err)) = stored
WhereStored stored unopened (Err (bads.Store (stores.Refused why))) = stored
WhereStored stored unopened (Err (bads.Store (stores.Unopened bad))) = unopened
WhereStored stored unopened (Err (bads.Store (stores.Server bad))) = ⊥

-- a reply is told: a block by its bytes, a score by its digits in a line, and a refusal by its
-- failure
abbrev pub TellsReply : {K : Type 0} → RMessage → CommandOutcome → StreamChange K → Type 0
TellsReply (r_read bytes) outcome sink =
    (outcome ≡ Ok tt) × (IsTrue sink.tells → sink.new ≡ sink.old ++ bytes)
TellsReply (r_write s) outcome sink =
    (outcome ≡ Ok tt) × (IsTrue sink.tells → sink.new ≡ sink.old ++ (encode_lower s ++ 10 ∷ []))
TellsReply (r_error text) outcome sink =
    ((why : Why) × (text ≡ why_words why) × (outcome ≡ Err (refusal_for why)))
    × (sink.after ≡ sink.before)
TellsReply reply outcome sink = ⊥

-- The reply is told, or want of memory.
abbrev pub TellsReplyOrMemory : {K : Type 0} → RMessage → CommandOutcome → StreamChange K → Type 0
TellsReplyOrMemory reply outcome sink = (outcome ≡ Err NoMemory) ⊎ TellsReply reply outcome sink
