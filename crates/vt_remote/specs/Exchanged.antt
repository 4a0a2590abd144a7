-- All that went over the link to a server, whose client was called as a store of blocks (venti(6)).
use Rattle.std.specs.Prelude.{ℕ, ◌≡◌, ◌+◌, ◌%◌, Ok, Err, List, [], ◌∷◌, length, take, codes}
use Rattle.vt_base.specs.Protocol.{TMessage, RMessage, read, sync as sync_all, r_error, r_hello, r_read, r_sync, r_write, t_ask, t_goodbye, t_hello}
use Rattle.vt_base.specs.declared.TheConstants.{MAX_BLOCK}
use Rattle.vt_client.specs.Clients.{next_tag}
use Rattle.vt_client.specs.Exchanges.{Traffic, Exchanges, MovesBytes}
use Rattle.vt_client.specs.Greetings.{ExchangesLines}
use Rattle.vt_client.specs.Stores.{sent_after}
use Rattle.vt_tree.specs.Calls.{Call, get, put, sync, write_of_block}
use Rattle.vt_wire.specs.Messages.{asked}

-- each request went out, under one tag behind another, and its reply came in before the next one
abbrev pub ExchangesEach : (tag : ℕ) → List (TMessage × RMessage) → (before after : Traffic)
    → Type 0
ExchangesEach tag [] before after = after ≡ before
ExchangesEach tag (call ∷ calls) before after = (between : Traffic)
    × Exchanges before between tag call.0 call.1 × ExchangesEach (next_tag tag) calls between after

-- On a link over which nothing had gone, both sides said their line; a hello was answered; these
-- requests had these replies; and a goodbye went out, or a front of it.
-- Nothing else went over it.
pub record Exchanged (calls : List (TMessage × RMessage)) (back : Traffic) : Type 0 where
  pub before : Traffic
  pub unsent : before.sent ≡ []
  pub untaken : before.came ≡ []
  pub between : Traffic
  pub begins : ExchangesLines before between
  pub greeted : Traffic
  pub hello : Exchanges between greeted 0 (t_hello (codes "02")) r_hello
  pub last : Traffic
  pub each : ExchangesEach 1 calls greeted last
  pub goodbye : (n : ℕ)
      × MovesBytes last back (take n (asked ((1 + length calls) % 256) t_goodbye)) []

-- Of calls of which none was refused: the request of each, and its reply, where a block that is taken
-- in has its own score. What stands for a refused call is never said.
abbrev pub exchange_of : (score_of : List ℕ → List ℕ) → Call → TMessage × RMessage
exchange_of score_of (get kind s (Ok bytes)) = (t_ask (read s kind MAX_BLOCK), r_read bytes)
exchange_of score_of (get kind s (Err err)) = (t_ask (read s kind MAX_BLOCK), r_error [])
exchange_of score_of (put b answer) = (t_ask (write_of_block b), r_write (score_of b.bytes))
exchange_of score_of (sync answer) = (t_ask sync_all, r_sync)

-- how many blocks a server took in, which had taken in so many before these calls
abbrev pub sent_behind : List Call → ℕ → ℕ
sent_behind [] n = n
sent_behind (call ∷ calls) n = sent_behind calls (sent_after call n)
