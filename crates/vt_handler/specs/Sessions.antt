-- A session over a store: what was heard is answered in turns, and their replies go out.
use Rattle.std.specs.Prelude.{ℕ, ◌≡◌, ⊤, Option, List, [], ◌∷◌}
use Rattle.std.specs.List.{flat_map}
use Rattle.std.specs.Option.{option_or}
use Rattle.vt_base.specs.Faults.{HasRisen}
use Rattle.vt_base.specs.declared.answer.Said.{Said}
use Rattle.vt_base.specs.declared.why.Why.{Why}
use Rattle.vt_base.specs.Operations.{operation_of, result_of}
use Rattle.vt_model.specs.History.{History}
use Rattle.vt_session.specs.declared.Ended.{Ended}
use Rattle.vt_session.specs.declared.Ended.TheVariants.{WriteFault}
use Rattle.vt_session.specs.Heard.{Item}
use Rattle.vt_session.specs.declared.parsed.Next.{Next}
use Rattle.vt_session.specs.declared.parsed.Next.TheVariants.{Ask}
use Rattle.vt_session.specs.Hearing.{MatchNext}
use Rattle.vt_session.specs.Turns.{Turn, items_of_turns, spelled_turn, causes_of, first_why}
use Rattle.vt_handler.specs.Members.{StoreOf}
use Rattle.vt_handler.specs.Taking.{TakesTurns}

-- what was said so far: the bytes that wait to be written, and why the store failed first, if it
-- did
pub record Spoken : Type 0 where
  pub waiting : List ℕ
  pub failure : Option Why

-- These items were answered in turns over a store that held this history, and what was said to them
-- was written so.
pub record AnswersItems {S : Type 0} (T : StoreOf S) (s s' : S) (h : History)
    (failure failure' : Option Why) (writes : (said : List ℕ) → Type 0) (items : List Item)
    : Type 0 where
  pub turns : List Turn
  pub items_are : items_of_turns turns ≡ items
  pub takes : TakesTurns T s s' h turns
  pub written : writes (flat_map spelled_turn turns)
  pub failure_is : failure' ≡ option_or failure (first_why (causes_of turns))

-- an item comes next, or the end: a goodbye is no item
abbrev pub IsItemOrEnd : Next → Type 0
IsItemOrEnd next = MatchNext next (λ item. ⊤) (λ ended. ⊤)

-- The item that came next was answered; at the end nothing is asked or said.
abbrev pub AnswersNext : {S : Type 0} → StoreOf S → (s s' : S) → (old new : Spoken)
    → (writes : (said : List ℕ) → Type 0) → Next → Type 0
AnswersNext T s s' old new writes next =
    (h : History) → T.holds s h → MatchNext next
    (λ item. AnswersItems T s s' h old.failure new.failure writes (item ∷ []))
    (λ ended. AnswersItems T s s' h old.failure new.failure writes [])

-- An operation that came next was asked of the store, once, and nothing else; whatever else came,
-- nothing was.
abbrev pub AsksOnce : {S : Type 0} → StoreOf S → (s s' : S) → Next → Type 0
AsksOnce T s s' (Ask tag operation) =
    (said : Said) × T.does s (operation_of operation) (result_of said) s'
AsksOnce T s s' next = s' ≡ s

-- a sink's count of faults rose where a session ended in a write fault, and only there
abbrev pub SinkCause : Ended → (old new : ℕ) → Type 0
SinkCause WriteFault old new = HasRisen old new
SinkCause ended old new = new ≡ old
