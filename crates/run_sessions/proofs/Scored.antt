-- What is read of a server, or given as the score of what was written, has the score that it is to have.
use Rattle.std.proofs.Common.{◌≡◌, ℕ, false, true, Option, Some, None, Result, Ok, Err, List, [], ◌∷◌, subst}
use Rattle.std.specs.Prelude.{IfOk}
use Rattle.vt_base.specs.declared.score.Score.{Score}
use Rattle.vt_client.specs.Clients.{ClientState}
use Rattle.vt_client.specs.Stores.{DoesAsClient}
use Rattle.vt_client.specs.declared.error.ClientErr.{ClientErr}
use Rattle.vt_disk.specs.Members.{DiskOf}
use Rattle.vt_use.specs.PlaceAnswers.{answer_at, answer_in}
use Rattle.vt_use.specs.Change.{DialerChange, PartsChange}
use Rattle.vt_use.specs.Members.{LinkOf}
use Rattle.vt_use.specs.Places.{UsesAt}
use Rattle.vt_use.specs.declared.used_at.StoreAt.{StoreAt}
use Rattle.vt_use.specs.declared.used_at.StoreAt.TheVariants.{Conf, Server}
use Rattle.vt_use.specs.declared.used_at.StoreError.{StoreError}
use Rattle.vt_use.specs.declared.used_at.UsedAt.{UsedAt}
use Rattle.vt_tree.specs.declared.error.BlockErr.{BlockErr}
use Rattle.vt_tree.specs.Calls.{Call, get}
use Rattle.vt_tree.specs.Making.{Makes}
use Rattle.vt_use.specs.OneBlock.{ReadsOne, WritesOne}
use Rattle.run_sessions.specs.Read.{IsScoredAt}

-- what is told where all was done was told of the store
answer_holds : {T : Type 0} (P : T → Type 0) (output : Result T BlockErr)
    (refusal : Option StoreError) (closed : Result (Unit {0}) StoreError) → IfOk output P
    → IfOk (answer_in output refusal closed) P
answer_holds P (Ok value) refusal (Ok done) it = it
answer_holds P (Ok value) refusal (Err bad) it = tt
answer_holds P (Err err) (Some bad) closed it = tt
answer_holds P (Err err) None closed it = tt

module _ {P D N L : Type 0} (score : List ℕ → List ℕ) (disk : DiskOf D) (link : LinkOf L)
    (parts : PartsChange P D) (dialer : DialerChange N L) where
  -- a client told this block for one call
  client_scored : (kind : ℕ) (s : List ℕ) (output : Result (List ℕ) BlockErr) (calls : List Call)
      (met last : ClientState L) → calls ≡ get kind s output ∷ []
      → Makes (DoesAsClient link score) met calls last
      → IfOk output (λ (bytes : List ℕ). score bytes ≡ s)
  client_scored kind s (Ok bytes) calls met last are made =
      let one = (subst (λ (l : List Call). Makes (DoesAsClient link score) met l last) are made).1 in
      let told : Some (score bytes) ≡ Some s = subst (λ (r : Result (List ℕ) ClientErr).
      IfOk r (λ (b : List ℕ). Some (score b) ≡ Some s)) one.asks.stands one.asks.asked.scored in cc
  client_scored kind s (Err err) calls met last are made = tt

  pub read_scored : (kind : ℕ) (s : List ℕ) (at : StoreAt)
      (used : Result (UsedAt (Result (List ℕ) BlockErr)) StoreError)
      → UsesAt score disk link at 0 false
      (λ output S act holds calls from to. ReadsOne kind s output calls) used parts dialer
      → IsScoredAt at score s (answer_at used)
  read_scored kind s (Conf conf) used x = tt
  read_scored kind s (Server address) (Ok u) x =
      answer_holds (λ (bytes : List ℕ). score bytes ≡ s) u.output u.refusal u.closed
      (client_scored kind s u.output x.0.calls x.0.met x.0.last x.0.does.0 x.0.talks.made)
  read_scored kind s (Server address) (Err bad) x = tt

  pub written_scored : (now kind : ℕ) (bytes : List ℕ) (at : StoreAt)
      (used : Result (UsedAt (Result Score BlockErr)) StoreError)
      → UsesAt score disk link at now true (λ output S act holds calls from to.
      WritesOne score (record { kind = kind; bytes = bytes }) output calls) used parts dialer
      → IfOk (answer_at used) (λ (given : Score). given.0 ≡ score bytes)
  written_scored now kind bytes (Conf conf) (Ok u) x =
      answer_holds (λ (given : Score). given.0 ≡ score bytes) u.output u.refusal u.closed
      x.0.uses.does.does.does.1
  written_scored now kind bytes (Conf conf) (Err bad) x = tt
  written_scored now kind bytes (Server address) (Ok u) x =
      answer_holds (λ (given : Score). given.0 ≡ score bytes) u.output u.refusal u.closed x.0.does.1
  written_scored now kind bytes (Server address) (Err bad) x = tt
