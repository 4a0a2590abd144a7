-- What a store's look-ups for a request leave of it.
use Rattle.std.specs.Prelude.{◌≡◌, ◌≢◌, ◌⊎◌, ℕ, Bool, IsTrue, MatchResult, Result, List, []}
use Rattle.vt_base.specs.declared.answer.Said.TheVariants.{Score, Refused}
use Rattle.vt_base.specs.declared.key.Key.{Key}
use Rattle.vt_base.specs.declared.why.Why.{Why}
use Rattle.vt_base.specs.declared.why.Why.TheVariants.{NoMemory}
use Rattle.vt_bloom.specs.Bits.{MarksScore}
use Rattle.vt_disk.specs.Members.{DiskOf}
use Rattle.vt_model.specs.History.{History, IsBlock, held}
use Rattle.vt_core.specs.declared.event.Out.{Out}
use Rattle.vt_core.specs.declared.event.Out.TheVariants.{NotYet}
use Rattle.vt_lookup.specs.declared.writing.Verdict.{Verdict}
use Rattle.vt_core.specs.Asking.{AddsBlock, HasNoRoom, LooksIn, says, shard_of, with_parts}
use Rattle.vt_core.specs.Core.{CoreState, setup_of}
use Rattle.vt_lookup.specs.Finding.{StoreParts, JudgesWrite, LooksFor, MayKeepFrom, SeeksBlock, Sought, TestsWrite}
use Rattle.vt_lookup.specs.Seeking.{StaySound}
use Rattle.vt_core.specs.Sound.{IsSound}

-- the block of a key, which isn't the zero score's, was looked for
pub record FindsBlock {D : Type 0} (score : List ℕ → List ℕ) (disk : DiskOf D) (key : Key)
    (block : Sought) (old new : CoreState D) : Type 0 where
  pub before : StoreParts D
  pub after : StoreParts D
  pub may_have : Bool
  pub looks_in : LooksIn old key.score.0 before may_have
  pub seeks : SeeksBlock score disk may_have key block before after
  pub looks : LooksFor score disk 2 2 block before after
  pub stay : StaySound score disk before after
  pub found : (h : History) → IsTrue disk.tells → IsSound score disk old h
      → key.score.0 ≢ score []
      → MatchResult block (λ bytes. bytes ≡ held score h key.score.0 key.kind) MayKeepFrom
  pub new_is : new ≡ with_parts (shard_of old key.score.0) after old

-- a block was tested
pub record TestsBlock {D : Type 0} (score : List ℕ → List ℕ) (disk : DiskOf D) (key : Key)
    (bytes : List ℕ) (verdict : Result Verdict Why) (old new : CoreState D) : Type 0 where
  pub before : StoreParts D
  pub after : StoreParts D
  pub may_have : Bool
  pub looks_in : LooksIn old key.score.0 before may_have
  pub tests : TestsWrite score disk may_have key bytes verdict before after
  pub looks : LooksFor score disk 2 2 verdict before after
  pub stay : StaySound score disk before after
  pub judged : (h : History) → IsTrue disk.tells → IsSound score disk old h
      → IsBlock (record { kind = key.kind; bytes = bytes }) → key.score.0 ≡ score bytes
      → score bytes ≢ score [] → JudgesWrite score (setup_of old) h key bytes verdict
  pub new_is : new ≡ with_parts (shard_of old key.score.0) after old

-- The block is added to these parts of a store, of which this is the shard.
pub record AddsStored {D : Type 0} (score : List ℕ → List ℕ) (key : Key) (bytes : List ℕ)
    (now shard : ℕ) (parts : StoreParts D) (out : Out) (old new : CoreState D) : Type 0 where
  pub room : ¬ HasNoRoom parts
  pub after : StoreParts D
  pub adds : AddsBlock score key bytes now parts after
  pub bits : MarksScore old.bits key.score.0 new.bits
  pub out_is : out ≡ says (Score key.score) old
  pub new_is : new ≡ record (with_parts shard after old) { bits = new.bits }

-- A block that is new is added, where there is room, or memory is short.
abbrev pub AddsIfRoom : {D : Type 0} → (List ℕ → List ℕ) → Key → (bytes : List ℕ) → (now : ℕ)
    → (shard : ℕ) → (parts : StoreParts D) → Out → (old new : CoreState D) → Type 0
AddsIfRoom score key bytes now shard parts out old new =
    (HasNoRoom parts × (out ≡ NotYet) × (new ≡ old))
    ⊎ (¬ HasNoRoom parts × (out ≡ says (Refused NoMemory) old) × (new ≡ old))
    ⊎ AddsStored score key bytes now shard parts out old new
