-- What a server said to each item that it heard, and which state of the store that was about
-- (venti(6): each request but a goodbye has one reply, under its tag).
use Rattle.std.specs.Prelude.{ℕ, Option, Some, None, List, [], ◌∷◌, ◌++◌, map, codes}
use Rattle.std.specs.List.{flat_map}
use Rattle.std.specs.Option.{option_to_list}
use Rattle.vt_base.specs.declared.why.Why.{Why}
use Rattle.vt_base.specs.Protocol.{Operation, sync, RMessage, r_refused}
use Rattle.vt_model.specs.History.{Accepted}
use Rattle.vt_model.specs.Answer.{Outcome}
use Rattle.vt_model.specs.Causes.{Cause, why_of}
use Rattle.vt_wire.specs.Messages.{spelled_reply}
use Rattle.vt_session.specs.Heard.{Item, settled, asked}

-- An item and what was said to it: a settled reply; or what the store answered, of which the first
-- so many blocks of the history tell; or that the store failed.
pub data Turn : Type 0 where
  told : (tag : ℕ) (reply : RMessage) → Turn
  served : (tag : ℕ) (operation : Operation) (number : ℕ) (outcome : Outcome) → Turn
  failed : (tag : ℕ) (operation : Operation) (number : ℕ) (cause : Cause) → Turn

-- the item that a turn answers
abbrev pub item_of_turn : Turn → Item
item_of_turn (told tag reply) = settled tag reply
item_of_turn (served tag operation number outcome) = asked tag operation
item_of_turn (failed tag operation number cause) = asked tag operation

-- The bytes of the reply of a turn.
abbrev pub spelled_turn : Turn → List ℕ
spelled_turn (told tag reply) = spelled_reply tag reply
spelled_turn (served tag operation number outcome) = spelled_reply tag outcome.reply
spelled_turn (failed tag operation number cause) = spelled_reply tag (r_refused (why_of cause))

-- ---- what a list of turns tells

-- the items that turns answer
abbrev pub items_of_turns : List Turn → List Item
items_of_turns turns = map item_of_turn turns

-- the server's line, and what it writes in order: the line, and each reply
abbrev pub server_line : List ℕ
server_line = codes "venti-02-rattle" ++ 10 ∷ []

-- what goes out, piece by piece: the server's line, and each reply
abbrev pub said_pieces : List Turn → List (List ℕ)
said_pieces turns = server_line ∷ map spelled_turn turns

-- All bytes that go out for these turns, the server's line in front.
abbrev pub output_of : List Turn → List ℕ
output_of turns = server_line ++ flat_map spelled_turn turns

-- the blocks that were added, and their numbers
abbrev pub added_by_turn : Turn → List Accepted
added_by_turn (told tag reply) = []
added_by_turn (served tag operation number outcome) = option_to_list outcome.added
added_by_turn (failed tag operation number cause) = []

-- the blocks that these turns added, in order
abbrev pub added_of : List Turn → List Accepted
added_of turns = flat_map added_by_turn turns

-- of how many blocks the answer tells, where the turn added one
abbrev pub added_number : Turn → List ℕ
added_number (told tag reply) = []
added_number (served tag operation number outcome) =
    map (λ _. number) (option_to_list outcome.added)
added_number (failed tag operation number cause) = []

-- Of each turn that added a block, of how many blocks its answer tells.
abbrev pub added_numbers : List Turn → List ℕ
added_numbers turns = flat_map added_number turns

-- the numbers of the syncs that were answered
abbrev pub synced_number : Turn → List ℕ
synced_number (served tag sync number outcome) = number ∷ []
synced_number turn = []

-- how many blocks each answered sync covers
abbrev pub synced_numbers : List Turn → List ℕ
synced_numbers turns = flat_map synced_number turns

-- the failures
abbrev pub cause_of : Turn → List Cause
cause_of (told tag reply) = []
cause_of (served tag operation number outcome) = []
cause_of (failed tag operation number cause) = cause ∷ []

-- the causes of those turns that failed
abbrev pub causes_of : List Turn → List Cause
causes_of turns = flat_map cause_of turns

-- why the store failed first, if it did
abbrev pub first_why : List Cause → Option Why
first_why [] = None
first_why (cause ∷ causes) = Some (why_of cause)
