-- What a client takes for the reply to its request (venti(6)): it has the request's tag, the type
-- that the request's reply has, or that of an Rerror, and no more bytes than a block.
use Rattle.std.specs.Prelude.{ℕ, ◌≡◌, ◌≢◌, ◌⊎◌, ◌≤◌, ◌<◌, ◌+◌, List, ◌∷◌, length}
use Rattle.vt_base.specs.Protocol.{RMessage}
use Rattle.vt_base.specs.declared.TheConstants.{MAX_BLOCK}
use Rattle.vt_wire.specs.Messages.{reply_type, SpellsReplyParameters}

-- the type that was waited for, or that of an Rerror
abbrev pub IsWanted : (wanted type : ℕ) → Type 0
IsWanted wanted type = (type ≡ wanted) ⊎ (type ≡ 1)

-- the body of a frame is a reply under this tag, where one of this type is waited for
pub record IsReplyTo (tag wanted : ℕ) (body : List ℕ) : Type 0 where
  pub reply : RMessage
  pub parameters : List ℕ
  pub body_is : body ≡ reply_type reply ∷ tag ∷ parameters
  pub type_wanted : IsWanted wanted (reply_type reply)
  pub spelled : SpellsReplyParameters reply parameters
  pub short : length parameters ≤ MAX_BLOCK

-- The first thing that is wrong in a body that is none, by its place in the frame: it lacks type
-- and tag, it has another type, another tag, parameters that aren't spelled, or a block that is too
-- long.
abbrev pub IsWrongAt : (tag wanted : ℕ) → (body : List ℕ) → (place : ℕ) → Type 0
IsWrongAt tag wanted (type ∷ its_tag ∷ parameters) place =
    ((place ≡ 2) × ¬ IsWanted wanted type)
    ⊎ (((place ≡ 3) × IsWanted wanted type × (its_tag ≢ tag))
    ⊎ (((place ≡ 4) × IsWanted wanted type × (its_tag ≡ tag)
    × ((reply : RMessage) → type ≡ reply_type reply → ¬ SpellsReplyParameters reply parameters))
    ⊎ ((place ≡ 4 + MAX_BLOCK) × (wanted ≡ 13) × (type ≡ 13) × (its_tag ≡ tag)
    × (MAX_BLOCK < length parameters))))
IsWrongAt tag wanted body place = place ≡ 0
