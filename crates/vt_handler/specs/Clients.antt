-- The other end of a session's link, and what it was answered (venti(6)).
use Rattle.std.specs.Prelude.{ℕ, ◌≡◌, ◌⊎◌, List, [], ◌∷◌, ◌++◌}
use Rattle.vt_base.specs.Protocol.{RMessage}
use Rattle.vt_wire.specs.Messages.{spelled_reply}
use Rattle.vt_session.specs.declared.Ended.{Ended}
use Rattle.vt_session.specs.declared.Ended.TheVariants.{Closed, Cut}
use Rattle.vt_session.specs.Heard.{Item, settled, asked, Heard}
use Rattle.vt_session.specs.Turns.{server_line}

-- the tag that the reply to an item gets
abbrev pub tag_of : Item → ℕ
tag_of (settled tag reply) = tag
tag_of (asked tag operation) = tag

-- one reply to each item, under its tag, in order
abbrev pub AreReplies : List Item → List ℕ → Type 0
AreReplies [] said = said ≡ []
AreReplies (item ∷ items) said =
    (reply : RMessage) × (later : List ℕ) × (said ≡ spelled_reply (tag_of item) reply ++ later)
    × AreReplies items later

-- Nothing waits that could be said: what came was heard, and it goes on; what went out is the
-- server's line and the replies to all that was heard.
pub record IsAnswered (sent written : List ℕ) : Type 0 where
  pub items : List Item
  pub ended : Ended
  pub said : List ℕ
  pub heard : Heard sent items ended
  pub goes_on : (ended ≡ Closed) ⊎ (ended ≡ Cut)
  pub replies : AreReplies items said
  pub written_is : written ≡ server_line ++ said
