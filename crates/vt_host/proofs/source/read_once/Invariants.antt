use Rattle.std.proofs.Common.{◌≡◌, List, ◌++◌, length, All, IsTrue}
use Rattle.std.specs.Io.KnownBytes.{Keeps}
use Rattle.vt_host.specs.Calls.{ReadCall, IsInterrupted}
use Rattle.vt_host.specs.Passing.{MovesNone}
use Rattle.vt_host.proofs.source.read_once.Given as goal

-- each read so far was interrupted, and took nothing
abbrev pub invariant-loop : goal.invariant-loop
invariant-loop g l = let reads = g.R.ReadCalls in
    Keeps (reads.remaining l.initial.input) (reads.remaining l.input)
    × (IsTrue reads.tells → (before : List ReadCall) × All IsInterrupted before
    × (length before ≡ l.counter) × (reads.made l.input ≡ reads.made l.initial.input ++ before))
    × (IsTrue reads.tells → MovesNone l.initial.buf l.buf
    (reads.given l.initial.input) (reads.given l.input)
    (reads.left l.initial.input) (reads.left l.input))
