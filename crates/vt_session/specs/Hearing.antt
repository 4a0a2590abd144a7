-- An input that is heard item by item, to the same effect as all at once.
use Rattle.std.specs.Prelude.{ℕ, ◌≡◌, ◌+◌, ◌||◌, ◌<◌, ⊤, List, [], ◌∷◌, length}
use Rattle.vt_base.specs.Operations.{operation_of}
use Rattle.vt_base.specs.Protocol.{ping, r_hello, r_error}
use Rattle.vt_wire.specs.Frames.{framed}
use Rattle.vt_wire.specs.Rules.{rule_words}
use Rattle.vt_session.specs.declared.Ended.{Ended}
use Rattle.vt_session.specs.declared.parsed.Next.{Next}
use Rattle.vt_session.specs.declared.parsed.Next.TheVariants.{Hello, Ping, Ask, Refused, End}
use Rattle.vt_session.specs.Heard.{Item, settled, asked, greets, Unheard, HearsRest}

-- an input of which a part was heard: some of it is left, or it came to its end
pub data Hearing : Type 0 where
  going_on : (left : Unheard) → Hearing
  over : (ended : Ended) → Hearing

-- what is left is heard as these items, and ends so
abbrev pub HearsOn : Hearing → List Item → Ended → Type 0
HearsOn (going_on left) items ended = HearsRest left items ended
HearsOn (over end) items ended = (items ≡ []) × (ended ≡ end)

-- what is left is heard in some way
abbrev pub IsHeard : Hearing → Type 0
IsHeard hearing = (items : List Item) × (ended : Ended) × HearsOn hearing items ended

-- P holds of the item that comes next, or Q of the end
abbrev pub MatchNext : Next → (Item → Type 0) → (Ended → Type 0) → Type 0
MatchNext (Hello tag) P Q = P (settled tag r_hello)
MatchNext (Ping tag) P Q = P (asked tag ping)
MatchNext (Ask tag operation) P Q = P (asked tag (operation_of operation))
MatchNext (Refused rule tag) P Q = P (settled tag (r_error (rule_words rule)))
MatchNext (End ended) P Q = Q ended

-- This comes next of an old hearing: an item, and then what the new one hears; or the end, which
-- stays.
abbrev pub HearsNext : Next → Hearing → Hearing → Type 0
HearsNext next old new =
    MatchNext next
    (λ item. (items : List Item) (ended : Ended) → HearsOn new items ended
    → HearsOn old (item ∷ items) ended)
    (λ ended. HearsOn old [] ended × (new ≡ over ended))

-- what is left behind a first frame with this body that was heard as this item
abbrev pub behind_frame : Unheard → List ℕ → Item → List ℕ → Unheard
behind_frame left body item behind = record {
  offered = left.offered;
  greeted = left.greeted || greets item;
  place = left.place + length (framed body);
  bytes = behind;
}

-- how many bytes are left
abbrev pub left_len : Hearing → ℕ
left_len (going_on left) = length left.bytes
left_len (over ended) = 0

-- an item takes bytes
abbrev pub TakesBytes : Next → Hearing → Hearing → Type 0
TakesBytes next old new = MatchNext next (λ item. left_len new < left_len old) (λ ended. ⊤)
