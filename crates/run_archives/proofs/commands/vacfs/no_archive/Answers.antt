-- the store that was made has no block but that of no bytes
use Rattle.std.proofs.Common.{Err, sym, subst}
use Rattle.run_archives.specs.Vacfs.{IsUnmade}
use Rattle.run_archives.proofs.ViewMade.{empty_unmade, refused_unmade}
use Rattle.run_archives.proofs.commands.vacfs.no_archive.Goals as goal

pub returns-in-Ok : goal.returns-in-Ok
returns-in-Ok g c =
    empty_unmade g.S.Scorer.score_of c.args.score.now.0 _ c.in-Ok.ensures.answers

pub returns-in-Err : goal.returns-in-Err
returns-in-Err g c =
    subst (λ failure. IsUnmade g.S.Scorer.score_of c.args.score.now.0 (Err failure))
    (sym c.refusal_for.ensures)
    (refused_unmade g.S.Scorer.score_of c.args.score.now.0 c.in-Err.why c.in-Err.ensures.answers)
