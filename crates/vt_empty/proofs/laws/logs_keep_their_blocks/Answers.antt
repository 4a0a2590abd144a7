use Rattle.vt_empty.proofs.NewIndex.{each_stands, log_stands}
use Rattle.vt_empty.proofs.laws.logs_keep_their_blocks.Goals as goal

pub returns-clause-each : goal.returns-clause-each
returns-clause-each g c = λ score setup sections tables least old new h tells index is legal.
    each_stands g.D.Disk (λ d. g.met.D.Disk.read_is_image d tells) c.first_blocks_are_legal.ensures.legal score setup sections tables old new h index is legal least

pub returns-clause-log : goal.returns-clause-log
returns-clause-log g c = λ score setup sections tables old new h more base tells index is legal.
    log_stands g.D.Disk (λ d. g.met.D.Disk.read_is_image d tells) c.first_blocks_are_legal.ensures.legal score setup sections tables old new h index is legal more base
