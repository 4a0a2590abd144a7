use Rattle.std.proofs.Common.{◌∙◌, List, [], Err, None, map, sym, ap, subst}
use Rattle.std.specs.Prelude.{IsTrue}
use Rattle.vt_conf.specs.declared.conf.PartFile.{PartFile}
use Rattle.vt_isect.specs.Section.{SectionState}
use Rattle.vt_log.specs.Answers.{HoldTheSame}
use Rattle.vt_log.specs.Log.{disks_of}
use Rattle.vt_part.specs.declared.part.Part.{Part}
use Rattle.vt_part.specs.Layout.{layout_of}
use Rattle.vt_part.specs.Parts.{tables_of}
use Rattle.vt_part.specs.Table.{Table}
use Rattle.vt_base.specs.declared.mount.MountBad.{MountBad}
use Rattle.vt_format.specs.declared.index.IndexError.{IndexError}
use Rattle.vt_format.specs.Index.{IndexesArenas, IndexesSections}
use Rattle.vt_format.specs.Opening.{index_error}
use Rattle.vt_mount_errors.specs.MountErrors.{of_log}
use Rattle.vt_format.proofs.LogLevel.{log_found, log_refused}
use Rattle.vt_format.proofs.index.index_log.Goals as goal

pub returns-in-Ok : goal.returns-in-Ok
returns-in-Ok g c =
    log_found g.P.Disk.Disk (IsTrue g.P.Parts.tells) c.args.conf.now
    (g.P.Parts.standing c.args.parts.now) (g.P.Parts.faults c.args.parts.now)
    c.args.opened.items c.into_devices.result.items
    (subst (λ (ds : List g.row.P-Disk.Denot). HoldTheSame g.P.Disk.Disk
    (disks_of c.args.opened.items) ds) (sym c.into_devices.ensures.disks) c.in-Ok.ensures.disks)
    (g.P.Parts.standing c.index_sections-done.new.parts)
    (g.P.Parts.faults c.index_sections-done.new.parts) c.index_sections-done.new.opened.items
    c.index_sections-done.result c.requires.many
    (ap (λ (ds : List g.row.P-Disk.Denot). map g.P.Disk.Disk.faults ds)
    c.into_devices.ensures.disks ∙ c.in-Ok.ensures.cause)
    c.in-Ok.ensures.answer.0 c.in-Ok.ensures.answer.1 c.in-Ok.ensures.answer.2.distinct
    c.in-Ok.ensures.answer.2.passed
    (subst (λ (files : List PartFile). IndexesSections g.P.Disk.Disk (IsTrue g.P.Parts.tells)
    c.args.conf.now files (g.P.Parts.standing c.args.parts.now)
    (g.P.Parts.standing c.index_sections-done.new.parts)
    (g.P.Parts.faults c.args.parts.now) (g.P.Parts.faults c.index_sections-done.new.parts)
    [] c.index_sections-done.new.opened.items c.index_sections-done.result)
    c.deref.ensures.value
    (subst (λ (olds : List (SectionState g.row.P-Disk.Denot)). IndexesSections g.P.Disk.Disk
    (IsTrue g.P.Parts.tells) c.args.conf.now c.deref.result.now
    (g.P.Parts.standing c.args.parts.now)
    (g.P.Parts.standing c.index_sections-done.new.parts)
    (g.P.Parts.faults c.args.parts.now) (g.P.Parts.faults c.index_sections-done.new.parts)
    olds c.index_sections-done.new.opened.items c.index_sections-done.result)
    c.new-sections.ensures.items c.index_sections-done.ensures))

pub returns-in-Err : goal.returns-in-Err
returns-in-Err g c =
    subst (λ (bad : IndexError). IndexesArenas g.P.Disk.Disk (IsTrue g.P.Parts.tells)
    c.args.conf.now [] (g.P.Parts.standing c.args.parts.now)
    (g.P.Parts.standing c.args.parts.now) (g.P.Parts.faults c.args.parts.now)
    (g.P.Parts.faults c.args.parts.now) c.args.opened.items c.in-Err.opened.items (Err bad))
    (sym (c.index_error-bad.ensures ∙ ap (λ (bad : MountBad). index_error None bad) (c.of_log.ensures
    ∙ ap (λ (tables : List Table). of_log (layout_of tables) c.in-Err.bad)
    (ap (λ (parts : List (Part g.row.P-Disk.Denot)). tables_of parts) c.deref-in-Err.ensures.value
    ∙ c.in-Err.ensures.handed_back))))
    (log_refused g.P.Disk.Disk (IsTrue g.P.Parts.tells) c.args.conf.now
    (g.P.Parts.standing c.args.parts.now) (g.P.Parts.faults c.args.parts.now)
    c.args.opened.items c.in-Err.opened.items c.in-Err.ensures.disks
    c.in-Err.ensures.answer.0 c.in-Err.ensures.answer.1 c.in-Err.bad
    c.in-Err.ensures.answer.2 c.in-Err.ensures.cause)
