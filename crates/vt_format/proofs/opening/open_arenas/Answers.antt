use Rattle.std.proofs.Common.{Some, ◌∙◌, ap, subst, sym}
use Rattle.vt_base.specs.declared.mount.MountBad.{MountBad}
use Rattle.vt_format.specs.declared.index.IndexError.{IndexError}
use Rattle.vt_format.specs.Opening.{RefusesDisk, RefusesArenaPart, index_error}
use Rattle.vt_format.proofs.Refused.{part_refused}
use Rattle.vt_format.proofs.opening.open_arenas.Goals as goal

pub returns-in-Err : goal.returns-in-Err
returns-in-Err g c = (
  c.in-Err.ensures.reads,
  subst (λ (b : IndexError). RefusesDisk g.D.Disk c.args.number (RefusesArenaPart g.D.Disk c.args.number c.args.before c.args.disk) b c.args.disk c.in-Err.disk)
      (sym (c.index_error.ensures ∙ ap (λ (b : MountBad). index_error (Some c.args.number) b) c.of_part.ensures))
      (part_refused g.D.Disk c.args.number c.args.disk c.in-Err.disk c.args.before c.in-Err.bad c.in-Err.ensures.refused c.in-Err.ensures.differs c.in-Err.ensures.cause),
)
