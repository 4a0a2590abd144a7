use Rattle.std.proofs.Common.{◌≡◌, List, ℕ, ◌++◌}
use Rattle.std.specs.Prelude.{Result, Ok, Err, OnOk, OnErr}
use Rattle.vt_out.specs.Streams.{AppendsPrefix}
use Rattle.vt_host.proofs.Moving.{whole_prefix}
use Rattle.vt_host_tests.proofs.fakes.put_if.Goals as goal

-- a piece that was put, or a front of it
cut : {T E : Type 0} (r : Result T E) (told : Type 0) (old new piece : List ℕ)
    → OnOk r (told → new ≡ old ++ piece) → OnErr r (told → AppendsPrefix old new piece) → told
    → AppendsPrefix old new piece
cut (Ok x) told old new piece whole front tells = whole_prefix old new piece (whole tells)
cut (Err e) told old new piece whole front tells = front tells

pub returns-then-succeeds-clause-cut : goal.returns-then-succeeds-clause-cut
returns-then-succeeds-clause-cut g c tells =
    cut c.put.result _ (g.K.Sink.written c.args.sink.now) (g.K.Sink.written c.put.new.self)
    c.args.piece.now c.put.ensures.appended c.put.ensures.failed tells
