-- What a link was told, and the history that it was told of.
use Rattle.std.specs.Prelude.{◌≡◌, ◌≢◌, ℕ, ◌≤◌, List, [], ◌∷◌, length, take, Some, None}
use mathlib.Core.Option.{some}
use lib.ListN.{get_elem?}
use Rattle.vt_turns_example.specs.declared.part.Block.{Block}
use Rattle.vt_turns_example.specs.declared.link.Ask.{Ask}
use Rattle.vt_turns_example.specs.declared.link.Ask.TheVariants.{Write, Look}
use Rattle.vt_turns_example.specs.declared.link.Said.{Said}
use Rattle.vt_turns_example.specs.declared.link.Said.TheVariants.{Added, Held, Collision, NoMemory, Absent, Unknown}
use Rattle.vt_turns_example.specs.declared.link.Line.{Line}
use Rattle.vt_turns_example.specs.Blocks.{held_value}

-- the answer is right for this history
abbrev pub AnswersAsk : Ask → Said → List Block → Type 0
AnswersAsk (Write b) Added h = held_value h b.key ≡ None
AnswersAsk (Write b) Held h = held_value h b.key ≡ Some b.value
AnswersAsk (Write b) Collision h = (x : ℕ) × (held_value h b.key ≡ Some x) × (x ≢ b.value)
AnswersAsk (Write b) NoMemory h = Unit {0}
AnswersAsk (Write b) Absent h = ⊥
AnswersAsk (Write b) Unknown h = ⊥
AnswersAsk (Look key) Added h = ⊥
AnswersAsk (Look key) Held h = ⊥
AnswersAsk (Look key) Collision h = ⊥
AnswersAsk (Look key) NoMemory h = ⊥
AnswersAsk (Look key) Absent h = held_value h key ≡ None
AnswersAsk (Look key) Unknown h = Unit {0}

-- Of the numbers of added blocks, those behind this answer's are `rest`: where it added a block,
-- that block is block `at` of the history.
abbrev pub Adds : Ask → Said → (at : ℕ) → List Block → (added rest : List ℕ) → Type 0
Adds (Write b) Added at h added rest = (added ≡ at ∷ rest) × (get_elem? h at ≡ some b)
Adds (Look key) Added at h added rest = ⊥
Adds ask Held at h added rest = added ≡ rest
Adds ask Collision at h added rest = added ≡ rest
Adds ask NoMemory at h added rest = added ≡ rest
Adds ask Absent at h added rest = added ≡ rest
Adds ask Unknown at h added rest = added ≡ rest

-- the line is the answer of the first `at` blocks of the history, at least `from`
pub record TellsLine (h : List Block) (from : ℕ) (line : Line) (added rest : List ℕ) : Type 0 where
  pub since : from ≤ line.at
  pub within : line.at ≤ length h
  pub answers : AnswersAsk line.ask line.said (take line.at h)
  pub adds : Adds line.ask line.said line.at h added rest

-- Each line is an answer of the history, by numbers that begin at `from` or later and never fall,
-- and these are the numbers of the blocks that were added.
abbrev pub IsTalk : List Block → (from : ℕ) → List Line → (added : List ℕ) → Type 0
IsTalk h from [] added = added ≡ []
IsTalk h from (line ∷ lines) added =
    (rest : List ℕ) × TellsLine h from line added rest × IsTalk h line.at lines rest
