use Rattle.std.specs.Prelude.{IsTrue}
use Rattle.vt_open.proofs.Handing.{one_missing, one_taken}
use Rattle.vt_open.proofs.taking.take_disk.Goals as goal

pub returns-in-Ok-clause-taken : goal.returns-in-Ok-clause-taken
returns-in-Ok-clause-taken g c =
    let e = c.in-Ok.ensures in
    one_taken g.P.Disk.Disk (IsTrue g.P.Parts.tells) c.args.file.now c.args.number (g.P.Parts.standing c.args.parts.now) (g.P.Parts.standing c.part.new.self) c.in-Ok.disk
    (λ t. e.found t) (λ t. e.lent t) (λ t n no. e.others t n no)

pub returns-in-Err-clause-refused : goal.returns-in-Err-clause-refused
returns-in-Err-clause-refused g c =
    let e = c.in-Err.ensures in
    one_missing g.P.Disk.Disk (IsTrue g.P.Parts.tells) c.args.file.now c.args.number 0 (g.P.Parts.standing c.args.parts.now) (g.P.Parts.standing c.part.new.self)
    (g.P.Parts.faults c.args.parts.now) (g.P.Parts.faults c.part.new.self) (λ t. e.stays t) (λ t n no. e.others t n no) e.cause
