use Rattle.std.proofs.Common.{◌≡◌, ◌∷◌, replicate}
use Rattle.vt_turns.proofs.making.first_words.Given as goal

abbrev pub invariant-loop : goal.invariant-loop
invariant-loop l = l.words.items ≡ l.front ∷ replicate l.counter 0
