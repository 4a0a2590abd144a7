-- What a write-once store answers to an operation (venti(6)), and what it adds.
use Rattle.std.specs.Prelude.{ℕ, ◌==◌, ◌||◌, ◌&&◌, not, nat_lt, nat_le, Bool, if◌then◌else◌, is_some, Option, Some, None, List, [], ◌∷◌, ◌++◌, length}
use Rattle.std.specs.List.{list_any}
use Rattle.std.specs.Str.{bytes_eq}
use Rattle.vt_base.specs.Kind.{is_kind}
use Rattle.vt_base.specs.declared.TheConstants.{MAX_BLOCK}
use Rattle.vt_base.specs.declared.why.Why.{Why}
use Rattle.vt_base.specs.declared.why.Why.TheVariants.{BadType, TooBig, TooSmall, Absent, Collision, IndexFull, ArenasFull}
use Rattle.vt_base.specs.Protocol.{Operation, ping, read, write, sync, RMessage, r_ping, r_read, r_write, r_sync, r_refused}
use Rattle.vt_model.specs.declared.TheConstants.{BUCKET_ROOM}
use Rattle.vt_model.specs.History.{History, Accepted, held}
use Rattle.vt_model.specs.Places.{Setup, next_arena, crowd, bucket_of, bucket_count}

-- What the model answers: the reply, and the block that is added, if one is.
pub record Outcome : Type 0 where
  pub reply : RMessage
  pub added : Option Accepted

-- a reply, and nothing is added
abbrev pub replies : RMessage → Outcome
replies reply = record { reply = reply; added = None }

-- the request is refused for this reason, and nothing is added
abbrev pub refuses : Why → Outcome
refuses why = replies (r_refused why)

-- the block is added in this arena, if there is one with room
abbrev pub adds : List ℕ → ℕ → List ℕ → Option ℕ → Outcome
adds s kind bytes None = refuses ArenasFull
adds s kind bytes (Some arena) = record {
  reply = r_write s;
  added = Some (record { block = record { kind = kind; bytes = bytes }; arena = arena });
}

-- the score is the zero score, or that of a block with other bytes
abbrev pub collides : (List ℕ → List ℕ) → History → List ℕ → Bool
collides score h bytes =
    bytes_eq (score bytes) (score [])
    || list_any (λ e.
    bytes_eq (score e.block.bytes) (score bytes) && not (bytes_eq e.block.bytes bytes)) h

-- the first of these that applies
abbrev pub answer_to_write : (List ℕ → List ℕ) → Setup → History → ℕ → List ℕ → Outcome
answer_to_write score c h kind bytes =
    if not (is_kind kind) then refuses BadType
    else if nat_lt MAX_BLOCK (length bytes) then refuses TooBig
    else if length bytes == 0 then replies (r_write (score []))
    else if collides score h bytes then refuses Collision
    else if is_some (held score h (score bytes) kind) then replies (r_write (score bytes))
    else if nat_le BUCKET_ROOM
    (crowd score (bucket_count c) h (bucket_of (bucket_count c) (score bytes)))
    then refuses IndexFull
    else adds (score bytes) kind bytes (next_arena c h (length bytes))

-- the block, where the reader takes so many bytes
abbrev pub lends : ℕ → Option (List ℕ) → Outcome
lends count None = refuses Absent
lends count (Some bytes) =
    if nat_lt count (length bytes) then refuses TooSmall else replies (r_read bytes)

-- what a read of this score, type and length is answered: the block, or why not
abbrev pub answer_to_read : (List ℕ → List ℕ) → History → List ℕ → ℕ → ℕ → Outcome
answer_to_read score h s kind count =
    if not (is_kind kind) then refuses BadType else lends count (held score h s kind)

-- the reply to an operation on a history, and the block that it adds
abbrev pub answer : (List ℕ → List ℕ) → Setup → History → Operation → Outcome
answer score c h ping = replies r_ping
answer score c h (read s kind count) = answer_to_read score h s kind count
answer score c h (write kind bytes) = answer_to_write score c h kind bytes
answer score c h sync = replies r_sync

-- The history with the block that an outcome adds, if it adds one.
abbrev pub with_added : History → Option Accepted → History
with_added h None = h
with_added h (Some e) = h ++ e ∷ []
