use Rattle.std.proofs.Common.{◌≤◌, ◌∷◌, [], ℕ, sym, subst}
use Rattle.std.specs.Prelude.{IsTrue}
use Rattle.vt_part.specs.Table.{arenas_end}
use Rattle.vt_part.specs.Parts.{table_of}
use Rattle.vt_open.specs.declared.error.OpenError.TheVariants.{Refused}
use Rattle.vt_open.specs.Taking.{RefusesTaking}
use Rattle.vt_open.proofs.Handing.{one_missing, one_refused, one_taken}
use Rattle.vt_open.proofs.taking.take_part.Goals as goal

pub returns-in_default-clause-refused : goal.returns-in_default-clause-refused
returns-in_default-clause-refused g c =
    let e = c.in_default.ensures in
    one_missing g.P.Disk.Disk (IsTrue g.P.Parts.tells) c.args.file.now c.args.number 1 (g.P.Parts.standing c.args.parts.now) (g.P.Parts.standing c.part.new.self)
    (g.P.Parts.faults c.args.parts.now) (g.P.Parts.faults c.part.new.self) (λ t. e.stays t) (λ t n no. e.others t n no) e.cause

pub returns-in-Ok-mount-clause-taken : goal.returns-in-Ok-mount-clause-taken
returns-in-Ok-mount-clause-taken g c =
    let e = c.in-Ok.ensures in
    let m = c.in-Ok-mount.ensures in
    let disk = g.P.Disk.Disk in
    record {
      handed = c.in-Ok.disk ∷ [];
      taken = one_taken disk (IsTrue g.P.Parts.tells) c.args.file.now c.args.number (g.P.Parts.standing c.args.parts.now) (g.P.Parts.standing c.part.new.self) c.in-Ok.disk
          (λ t. e.found t) (λ t. e.lent t) (λ t n no. e.others t n no);
      mounted = (
        record {
          reads = m.reads;
          faults_are = m.cause;
          partition = λ tells. m.found tells;
          table = m.table;
          room = subst (λ (n : ℕ). arenas_end (table_of c.in-Ok-mount.part) ≤ n) (sym m.reads.size) m.room;
        },
        tt,
      );
    }

pub returns-in-Err-clause-refused : goal.returns-in-Err-clause-refused
returns-in-Err-clause-refused g c =
    let e = c.in-Ok.ensures in
    let m = c.in-Err.ensures in
    let disk = g.P.Disk.Disk in
    let told = IsTrue g.P.Parts.tells in
    let f = c.args.file.now in
    let s0 = g.P.Parts.standing c.args.parts.now in
    let s1 = g.P.Parts.standing c.part.new.self in
    let s2 = g.P.Parts.standing c.done.new.self in
    let f0 = g.P.Parts.faults c.args.parts.now in
    let f2 = g.P.Parts.faults c.done.new.self in
    let taken = one_taken disk told f c.args.number s0 s1 c.in-Ok.disk (λ t. e.found t) (λ t. e.lent t) (λ t n no. e.others t n no) in
    subst (λ b. RefusesTaking disk told c.args.number 1 (f ∷ []) s0 s2 f0 f2 (Refused b)) (sym c.of_part.ensures)
    (one_refused disk told f c.args.number s0 s1 s2 f0 (g.P.Parts.faults c.part.new.self) f2 c.in-Ok.disk c.in-Err.disk c.in-Err.bad taken (λ t was. c.done.ensures.back t was)
    (λ t n no. c.done.ensures.others t n no) e.cause c.done.ensures.faults m.reads m.cause m.differs (λ tells. m.refused tells))
