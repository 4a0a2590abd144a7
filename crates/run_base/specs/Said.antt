-- What went to the fault sink before the line.
use Rattle.std.specs.Prelude.{ℕ, ◌≡◌, ◌++◌, IsTrue, List, Result, Ok, Err}
use Rattle.vt_base.specs.Faults.{HasRisen}
use Rattle.vt_base.specs.declared.why.Failed.{Failed}
use Rattle.vt_out.specs.Streams.{AppendsPrefix}
use Rattle.run_base.specs.Change.{StreamChange}

-- a text went to the fault sink, or a front of it, where that failed
abbrev pub Said : {F : Type 0} → Result (Unit {0}) Failed → StreamChange F → (text : List ℕ)
    → Type 0
Said (Ok done) sink text =
    (IsTrue sink.tells → sink.new ≡ sink.old ++ text) × (sink.faults' ≡ sink.faults)
Said (Err failed) sink text =
    (IsTrue sink.tells → AppendsPrefix sink.old sink.new text) × HasRisen sink.faults sink.faults'
