-- A call of a client as a store of blocks.
use Rattle.std.proofs.Common.{◌≡◌, inl, inr, Option, Some, Result, Ok, Err, List, ℕ, refl, sym, ◌∙◌, ap}
use Rattle.std.specs.Option.{option_or}
use Rattle.std.proofs.lemmas.Bool.{cases_Bool}
use Rattle.vt_tree.specs.Calls.{Counts, with_refusal}
use Rattle.vt_tree.specs.declared.error.BlockErr.{BlockErr}
use Rattle.vt_client.specs.declared.error.ClientErr.{ClientErr}
use Rattle.vt_client.specs.Clients.{ClientState, AsksRequest}
use Rattle.vt_client.specs.Exchanges.{Wanted}
use Rattle.vt_client.specs.Members.{LinkOf}
use Rattle.vt_client.specs.Stores.{DoesOnce, IsToldAs}

module _ {L T : Type 0} (link : LinkOf L) (score_of : List ℕ → List ℕ) (w : Wanted T)
    (c after : ClientState L) where
  -- a request counts nothing of its own
  pub record Keeps : Type 0 where
    pub counts : after.counts ≡ c.counts
    pub refused : after.refused ≡ c.refused
    pub sent : after.sent ≡ c.sent

  pub kept : (result : Result T ClientErr) → AsksRequest link score_of w c after result → Keeps
  kept result asks = elim (cases_Bool c.spent) [
    | inl spent ↦
        let same = asks.untouched spent in
        record {
          counts = ap (λ (s : ClientState L). s.counts) same;
          refused = ap (λ (s : ClientState L). s.refused) same;
          sent = ap (λ (s : ClientState L). s.sent) same;
        }
    | inr unspent ↦
        let same = asks.goes_on unspent in
        record {
          counts = ap (λ (s : ClientState L). s.counts) same;
          refused = ap (λ (s : ClientState L). s.refused) same;
          sent = ap (λ (s : ClientState L). s.sent) same;
        }
  ]

  -- it was answered, behind which so many blocks were sent
  pub gave : (value : T) (sent : ℕ) → AsksRequest link score_of w c after (Ok value)
      → DoesOnce link score_of w c (record after { sent = sent }) (Ok value)
  gave value sent asks = record {
    result = Ok value;
    stands = refl;
    after = after;
    asked = asks;
    is = ap (λ (s : Option ClientErr). record after {
      counts = after.counts;
      refused = s;
      sent = sent;
    }) (kept (Ok value) asks).refused;
  }

  module _ (why : ClientErr) (err : BlockErr) (told : IsToldAs why err) (c' : ClientState L)
      (left : c' ≡ record after {
        counts = with_refusal (Some err) after.counts;
        refused = option_or after.refused (Some why);
      }) (asks : AsksRequest link score_of w c after (Err why)) where
    pub refused_counts : c'.counts ≡ with_refusal (Some err) c.counts
    refused_counts = ap (λ (s : ClientState L). s.counts) left
        ∙ ap (with_refusal (Some err)) (kept (Err why) asks).counts

    pub refused_sent : c'.sent ≡ c.sent
    refused_sent = ap (λ (s : ClientState L). s.sent) left ∙ (kept (Err why) asks).sent

    pub refused : DoesOnce link score_of w c c' (Err err)
    refused = record {
      result = Err why;
      stands = (why, refl, told);
      after = after;
      asked = asks;
      is = left
          ∙ ap (λ (n : Counts). record after {
            counts = n;
            refused = option_or after.refused (Some why);
          }) (sym (ap (λ (s : ClientState L). s.counts) left))
          ∙ ap (λ (n : ℕ). record after {
            counts = c'.counts;
            refused = option_or after.refused (Some why);
            sent = n;
          }) (sym (ap (λ (s : ClientState L). s.sent) left))
          ∙ ap (λ (o : Option ClientErr). record after {
            counts = c'.counts;
            refused = option_or o (Some why);
            sent = c'.sent;
          }) (kept (Err why) asks).refused;
    }
