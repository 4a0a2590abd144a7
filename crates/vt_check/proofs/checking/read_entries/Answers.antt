use Rattle.std.proofs.Common.{◌≡◌, ◌+◌, ◌-◌, ◌*◌, ℕ, List, subst, arith}
use Rattle.std.specs.Prelude.{OnOk}
use Rattle.vt_disk.specs.Disk.{part}
use Rattle.vt_check.proofs.Checks.{reads_none, reads_then}
use Rattle.vt_check.proofs.checking.read_entries.Goals as goal

pub returns-then-own-clause-reads : goal.returns-then-own-clause-reads
returns-then-own-clause-reads g c =
    let score = g.S.Scorer.score_of in
    let log = c.args.log.now in
    reads_then score g.D.Disk 0 0 1 log log log (omega arith) (reads_none score g.D.Disk log) (reads_none score g.D.Disk log)

pub returns-clause-read : goal.returns-clause-read
returns-clause-read g c = λ off r disk tells at.
    let its : c.args.len ≡ r.region.len = c.requires.len r at.arena in
    let behind : 25 * (c.from.result + c.from-2.result) ≡ 25 * (c.args.first + c.args.count) = (λ i. 25 * (c.from.ensures i + c.from-2.ensures i)) in
    subst (λ (n : ℕ). OnOk c.read.result (c.read.new.bytes.items ≡ part (r.region.start + n) (25 * c.args.count) (g.D.Disk.bytes disk)))
    (λ i. its i - behind i) (c.read.ensures.read r disk tells at)
