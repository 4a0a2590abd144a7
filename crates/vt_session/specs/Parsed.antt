-- What is left of an input, and what is read of a frame.
use Rattle.std.specs.Prelude.{ℕ, ◌≡◌, ◌+◌, ◌||◌, Bool, true, false, Some, None, Result, Ok, Err, List, [], ◌∷◌, ◌++◌, length}
use Rattle.vt_base.specs.Protocol.{TMessage}
use Rattle.vt_wire.specs.Frames.{framed, IsBody}
use Rattle.vt_session.specs.declared.Ended.{Ended}
use Rattle.vt_session.specs.declared.Ended.TheVariants.{Goodbye}
use Rattle.vt_session.specs.declared.parsed.Next.{Next}
use Rattle.vt_session.specs.declared.parsed.Next.TheVariants.{Hello, Ping, Ask, Refused, End}
use Rattle.vt_session.specs.declared.parsed.Left.{Left}
use Rattle.vt_session.specs.Heard.{Item, heard_item, greets, Unheard, Hears}
use Rattle.vt_session.specs.Hearing.{Hearing, going_on, over, MatchNext}

-- what isn't heard yet of a connection, as contracts see what the talker has left
abbrev pub unheard : Left → Unheard
unheard left = record {
  offered = left.offered;
  greeted = left.greeted;
  place = left.place;
  bytes = left.bytes.now;
}

-- what is left, or how it ended
abbrev pub hearing_of : Result Left Ended → Hearing
hearing_of (Ok left) = going_on (unheard left)
hearing_of (Err ended) = over ended

-- a hello that is accepted
abbrev pub is_hello : Next → Bool
is_hello (Hello tag) = true
is_hello next = false

-- what a message comes to by the rules of a session
abbrev pub RulesGive : Unheard → ℕ → TMessage → Next → Type 0
RulesGive left tag message next =
    MatchNext next (λ item. heard_item left.offered left.greeted tag message ≡ Some item)
    (λ ended. (heard_item left.offered left.greeted tag message ≡ None) × (ended ≡ Goodbye))

-- the first frame left has this body and is heard as this item
abbrev pub HearsFrame : Unheard → List ℕ → Item → Type 0
HearsFrame left body item =
    (bodies : List (List ℕ)) (rest : List ℕ) (items : List Item) (ended : Ended)
    → Hears left.offered (left.greeted || greets item) (left.place + length (framed body))
    bodies rest items ended
    → Hears left.offered left.greeted left.place (body ∷ bodies) rest (item ∷ items) ended

-- The frame ends what is heard.
abbrev pub EndsAtFrame : Unheard → List ℕ → Ended → Type 0
EndsAtFrame left body ended =
    (bodies : List (List ℕ)) (rest : List ℕ)
    → Hears left.offered left.greeted left.place (body ∷ bodies) rest [] ended

-- what the first frame left comes to, which has this body
abbrev pub FrameGives : Unheard → List ℕ → Next → Type 0
FrameGives left body next = MatchNext next (HearsFrame left body) (EndsAtFrame left body)

-- the first frame left is whole, has so many bytes, and comes to this
pub record IsFrontFrame (left : Unheard) (next : Next) (len : ℕ) : Type 0 where
  pub body : List ℕ
  pub behind : List ℕ
  pub counted : IsBody body
  pub bytes_are : left.bytes ≡ framed body ++ behind
  pub len_is : len ≡ length (framed body)
  pub gives : FrameGives left body next
