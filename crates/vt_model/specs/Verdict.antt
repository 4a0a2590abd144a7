-- What becomes of a write to the plain store.
use Rattle.std.specs.Prelude.{ℕ, List, Result, Ok, Err}
use Rattle.std.specs.Option.{option_map}
use Rattle.vt_base.specs.declared.why.Why.{Why}
use Rattle.vt_base.specs.Protocol.{r_write}
use Rattle.vt_model.specs.declared.plain.Verdict.{Verdict}
use Rattle.vt_model.specs.Answer.{Outcome, refuses}

-- what a write of this block is answered by a verdict, and what it adds
abbrev pub verdict_outcome : ℕ → List ℕ → Result Verdict Why → Outcome
verdict_outcome kind bytes (Err why) = refuses why
verdict_outcome kind bytes (Ok v) = record {
  reply = r_write v.score.0;
  added = option_map
      (λ arena. record { block = record { kind = kind; bytes = bytes }; arena = arena }) v.arena;
}
