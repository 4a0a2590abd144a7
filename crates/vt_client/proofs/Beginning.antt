-- How a greeting goes: to the lines, and behind them.
use Rattle.std.proofs.Common.{◌≡◌, inl, inr, ℕ, true, Result, Ok, Err, List, [], ◌++◌, refl, sym, subst, append-nil}
use Rattle.std.specs.Prelude.{IfErr, IsErrOf}
use Rattle.vt_client.specs.declared.error.ClientErr.{ClientErr}
use Rattle.vt_client.specs.declared.error.ClientErr.TheVariants as errs
use Rattle.vt_client.specs.Exchanges.{Traffic, MovesBytes, AnswersCall}
use Rattle.vt_client.specs.Clients.{MayRefuse}
use Rattle.vt_client.specs.Greetings.{ExchangesLines, EndsAtLine, Greets, MayEndGreeting, client_line, welcome}
use Rattle.vt_client.specs.Taking.{IsOfExchange, IsOfLine, TakesLine}
use Rattle.vt_client.proofs.Moving.{Moves-append}

module _ (before between after : Traffic) (put : MovesBytes before between client_line []) where
  -- the line went out, and then this came in
  both : (taken : List ℕ) → MovesBytes between after [] taken → MovesBytes before after client_line taken
  both taken moves =
      subst (λ (l : List ℕ). MovesBytes before after l taken) (append-nil client_line)
      (Moves-append before between after client_line [] [] taken put moves)

  ends_at_line : (why : ClientErr) → IsOfLine why → TakesLine between after (Err why)
      → EndsAtLine before after (Err why)
  ends_at_line errs.ReadFault about stops =
      record { part = stops.part; partial = stops.partial; moves = both stops.part stops.moves }
  ends_at_line errs.Cut about stops = (
    record { part = stops.part; partial = stops.partial; moves = both stops.part stops.moves },
    stops.ends refl,
  )
  ends_at_line errs.NoVersion about (line, lacks, moves) = (line, lacks, both line moves)
  ends_at_line errs.WriteFault about stops = absurd about
  ends_at_line (errs.BadReply place) about stops = absurd about
  ends_at_line (errs.Remote text) about stops = absurd about
  ends_at_line (errs.WrongScore want found) about stops = absurd about
  ends_at_line errs.Spent about stops = absurd about
  ends_at_line errs.NoMemory about stops = absurd about

  pub greets_to_line : (score_of : List ℕ → List ℕ) (why : ClientErr)
      (result : Result (Unit {0}) ClientErr) → result ≡ Err why → IsOfLine why
      → TakesLine between after (Err why) → Greets score_of before after result
  greets_to_line score_of why result is about stops =
      subst (Greets score_of before after) (sym is) (inl (ends_at_line why about stops))

  pub begins : TakesLine between after (Ok tt) → ExchangesLines before after
  begins (line, offers, moves) =
      record { line = line; offers = offers; moves = both line moves }

-- ---- what a greeting is refused for

pub of_line : (why : ClientErr) → IsOfLine why → MayEndGreeting why
of_line errs.ReadFault about = tt
of_line errs.Cut about = tt
of_line errs.NoVersion about = tt
of_line errs.WriteFault about = tt
of_line (errs.BadReply place) about = tt
of_line (errs.Remote text) about = tt
of_line (errs.WrongScore want found) about = about
of_line errs.Spent about = about
of_line errs.NoMemory about = tt

pub of_exchange : (why : ClientErr) → IsOfExchange why → MayEndGreeting why
of_exchange errs.ReadFault about = tt
of_exchange errs.Cut about = tt
of_exchange errs.NoVersion about = tt
of_exchange errs.WriteFault about = tt
of_exchange (errs.BadReply place) about = tt
of_exchange (errs.Remote text) about = tt
of_exchange (errs.WrongScore want found) about = about
of_exchange errs.Spent about = about
of_exchange errs.NoMemory about = tt

pub of_welcome : (result : Result (Unit {0}) ClientErr) → IfErr result (MayRefuse welcome)
    → (IsErrOf result errs.Spent → ⊥) → IfErr result MayEndGreeting
of_welcome (Ok done) refuses unspent = tt
of_welcome (Err (errs.WrongScore want found)) refuses unspent = let never = refuses.0 in cc
of_welcome (Err errs.Spent) refuses unspent = unspent refl
of_welcome (Err errs.ReadFault) refuses unspent = tt
of_welcome (Err errs.Cut) refuses unspent = tt
of_welcome (Err errs.NoVersion) refuses unspent = tt
of_welcome (Err errs.WriteFault) refuses unspent = tt
of_welcome (Err (errs.BadReply place)) refuses unspent = tt
of_welcome (Err (errs.Remote text)) refuses unspent = tt
of_welcome (Err errs.NoMemory) refuses unspent = tt
