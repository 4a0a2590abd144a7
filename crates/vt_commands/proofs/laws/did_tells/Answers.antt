-- by what the words ask for, and by the status
use Rattle.std.proofs.Common.{◌++◌, ⊎_elim, inl, inr, ap, sym, ◌∙◌, subst}
use Rattle.vt_cli.proofs.Asking.{session_taken, session_spoken}
use Rattle.vt_cli.specs.declared.command.Command.TheVariants.{Session}
use Rattle.vt_cli.specs.declared.asked.Asked.TheVariants.{Do}
use Rattle.vt_cli.specs.Words.{Asks}
use Rattle.run_base.specs.Change.{Attempts}
use Rattle.run_base.specs.Errors.{status_of}
use Rattle.run_base.specs.Places.{in_memory}
use Rattle.vt_commands.proofs.Complete.{both_tell, memory_well}
use Rattle.vt_commands.proofs.DidTells.{refused, done, never_bad, line_of_one, disk_risen, read_risen, write_risen, well_status, session_well}
use Rattle.vt_commands.proofs.laws.did_tells.Goals as goal

pub returns-clause-bad_words : goal.returns-clause-bad_words
returns-clause-bad_words g c score words status work complaint did faulty = ⊎_elim
    (λ bad. inl (did.status_is ∙ ap status_of bad.is))
    (λ short. inr (did.status_is ∙ ap status_of short.is))
    (refused g.P.Disk.Disk g.N.Link.Link score did.outcome work words did.preface did.does faulty)

pub returns-clause-idle : goal.returns-clause-idle
returns-clause-idle g c score words status work complaint did faulty = ⊎_elim
    (λ bad. bad.idle) (λ short. short.idle)
    (refused g.P.Disk.Disk g.N.Link.Link score did.outcome work words did.preface did.does faulty)

pub returns-clause-complained : goal.returns-clause-complained
returns-clause-complained g c score words status work complaint did one = (
  did.preface,
  subst (λ line. Attempts complaint (did.preface ++ line))
      (line_of_one did.outcome (sym did.status_is ∙ one)) did.complained,
)

pub returns-clause-command : goal.returns-clause-command
returns-clause-command g c score words status work complaint did command asks =
    (did.outcome, did.status_is, done g.P.Disk.Disk g.N.Link.Link score did.outcome work words did.preface did.does command asks)

pub returns-clause-good_words : goal.returns-clause-good_words
returns-clause-good_words g c score words status work complaint did command asks one =
    never_bad g.P.Disk.Disk g.N.Link.Link score did.outcome work words did.preface did.does command
    asks (sym did.status_is ∙ one)

pub returns-clause-disk_fault : goal.returns-clause-disk_fault
returns-clause-disk_fault g c score words status work complaint did is =
    disk_risen g.P.Disk.Disk work did.outcome (sym did.status_is ∙ is) did.cause

pub returns-clause-read_fault : goal.returns-clause-read_fault
returns-clause-read_fault g c score words status work complaint did is =
    read_risen g.P.Disk.Disk work did.outcome (sym did.status_is ∙ is) did.cause

pub returns-clause-write_fault : goal.returns-clause-write_fault
returns-clause-write_fault g c score words status work complaint did is =
    write_risen g.P.Disk.Disk work did.outcome (sym did.status_is ∙ is) did.cause

pub returns-clause-complete : goal.returns-clause-complete
returns-clause-complete g c score words status work complaint did is tells tells' well no_read no_write =
    well_status did.outcome status did.status_is
    (session_well g.P.Disk.Disk g.N.Link.Link score did.outcome work
    (λ x. memory_well score did.outcome work.source work.sink x (both_tell _ _ tells tells') well no_read no_write)
    (done g.P.Disk.Disk g.N.Link.Link score did.outcome work words did.preface did.does (Session in_memory)
    (subst (λ said. Asks said (Do (Session in_memory))) (sym is) (session_taken, session_spoken))))
