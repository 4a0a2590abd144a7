-- the configuration is accepted, its store is opened, and no call fails in the session or at its end
use Rattle.std.proofs.Common.{◌≡◌, ⊎_elim, inr, Err, sym, ◌∙◌, ap, subst}
use Rattle.std.specs.Prelude.{◌&&◌}
use Rattle.vt_conf.specs.Configuration.{Configures}
use Rattle.vt_cli.specs.declared.command.Command.TheVariants.{Session}
use Rattle.run_base.specs.Errors.{HasCauseIn, CommandOutcome}
use Rattle.run_sessions.specs.SessionConf.{DoesSessionConf}
use Rattle.run_base.specs.declared.error.CommandError.{CommandError}
use Rattle.vt_commands.specs.Work.{causes_of}
use Rattle.vt_commands.proofs.Complete.{IsWell, served_well}
use Rattle.vt_commands.proofs.CompleteConf.{none_opened_well, none_read, under_same}
use Rattle.vt_commands.proofs.DidTells.{conf_well, done, well_status}
use Rattle.run_sessions.proofs.SessionCauses.{served_rises}
use Rattle.vt_commands.proofs.laws.sessions_are_answered.Goals as goal

pub returns : goal.returns
returns g c score words status work complaint file did asks other it well_ended fails =
    let disk = g.P.Disk.Disk in
    let link = g.N.Link.Link in
    let outcome = did.outcome in
    let cause_of = λ (failure : CommandError) (is : outcome ≡ Err failure).
    subst (λ (o : CommandOutcome). HasCauseIn (causes_of disk work) o) is did.cause in
    let well = λ (does : DoesSessionConf score disk file outcome work.source work.sink work.files work.parts). ⊎_elim
    (λ none. inr (none.outcome_is ∙ ap Err (none_read file it.text it.conf none.failure work.files it.says
    (λ line why. c.configurations_have_one_meaning.ensures.accepted it.text it.conf line why it.says)
    it.files it.content none.none
    (λ fault. fails.files (subst (λ (f : CommandError). HasCauseIn (causes_of disk work) (Err f)) fault
    (cause_of none.failure none.outcome_is))))))
    (λ read.
    let conf = read.0 in
    let text_is : read.1.text ≡ it.text = (let is = sym (read.1.content it.files) ∙ it.content in cc) in
    let same = c.configurations_have_one_meaning.ensures.one read.1.text it.conf conf
    (subst (λ t. Configures t it.conf) (sym text_is) it.says) read.1.says in
    let under = under_same work.parts.old it.conf conf it.devices same it.under in
    ⊎_elim
    (λ none.
    let found = c.refused_stores_stand.ensures.found score work.parts.tells conf work.parts.old
    work.parts.new work.parts.faults work.parts.faults' none.bad it.tables it.devices it.c it.h it.g
    it.base it.parts it.disks none.refused under it.log it.limits in
    inr (none.outcome_is ∙ ap Err (none_opened_well disk work fails file conf none.bad none.failure
    found none.told (cause_of none.failure none.outcome_is))))
    (λ x.
    let s = x.serves in
    let recalls = c.opened_stores_recall.ensures.recalls score work.parts.tells conf 1 work.parts.old
    x.during x.opened it.tables it.devices it.c it.h it.g it.base it.parts it.disks x.opens under
    it.log in
    let needs = c.sound_stores_need_memory.ensures score s.end s.now x.opened s.ended
    (work.source.tells && work.sink.tells) s.input s.output it.g s.serves it.disks recalls.sound
    (record {
      goes_on = x.opens.mounts.fresh.stops;
      none_rose = λ rose. fails.disks (served_rises score disk conf outcome work.source
          work.sink work.parts x rose);
    }) in
    let session = s.serves.session it.g it.disks recalls.sound it.streams in
    subst IsWell (sym s.outcome_is) (served_well s.end s.input s.output session.turns work.source
    work.sink needs (s.passes it.streams) session.alone.carried s.read s.write well_ended fails.source
    fails.sink))
    read.2)
    does in
    well_status outcome status did.status_is
    (conf_well disk link score outcome work file other well
    (done disk link score outcome work words did.preface did.does (Session file) asks))
