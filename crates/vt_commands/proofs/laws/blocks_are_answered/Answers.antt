-- the configuration is accepted, its store is opened, and what it answers is the model's
use Rattle.std.proofs.Common.{◌≡◌, ⊎_elim, inl, inr, ℕ, Bool, List, Result, Ok, Err, sym, ◌∙◌, ap, subst}
use Rattle.vt_base.specs.Protocol.{RMessage, read, write, r_read, r_write}
use Rattle.vt_base.specs.declared.TheConstants.{MAX_BLOCK}
use Rattle.vt_base.specs.declared.score.Score.{Score}
use Rattle.vt_base.specs.declared.why.Why.{Why}
use Rattle.vt_conf.specs.Configuration.{Configures}
use Rattle.vt_model.specs.Answer.{answer}
use Rattle.vt_handler.specs.Serving.{answered}
use Rattle.vt_use.specs.Answers.{IsAnswer}
use Rattle.vt_use.specs.OneBlock.{ReadsOne, WritesOne, own_answer}
use Rattle.vt_cli.specs.declared.command.Command.TheVariants.{Read, Write}
use Rattle.vt_use.proofs.Refusals.{calls_store}
use Rattle.run_base.specs.declared.error.CommandError.{CommandError}
use Rattle.vt_commands.specs.Answers.{TellsReplyOrMemory}
use Rattle.vt_commands.specs.Work.{causes_of}
use Rattle.run_base.specs.Blocks.{SaysNoType}
use Rattle.run_sessions.specs.Read.{PrintsBlock, SaysNoBlock}
use Rattle.run_sessions.specs.Write.{WritesInput, score_line}
use Rattle.run_base.specs.Errors.{HasCauseIn, CommandOutcome}
use Rattle.vt_commands.proofs.Answered.{causes_so, first_tells, in_conf, none_taken, printed_well, stored_well}
use Rattle.vt_commands.proofs.CompleteConf.{none_read, under_same}
use Rattle.vt_commands.proofs.DidTells.{done}
use Rattle.vt_commands.proofs.Only.{reading_idle, writing_idle}
use Rattle.vt_commands.proofs.Stored.{unended}
use Rattle.vt_commands.proofs.laws.blocks_are_answered.Goals as goal

pub returns-clause-read : goal.returns-clause-read
returns-clause-read g c score words status work complaint file score_word type_word did asks names it fails =
    let disk = g.P.Disk.Disk in
    let link = g.N.Link.Link in
    let outcome = did.outcome in
    let setup = record it.c { base = it.base } in
    let cause_of = λ (failure : CommandError) (is : outcome ≡ Err failure).
    subst (λ (o : CommandOutcome). HasCauseIn (causes_of disk work) o) is did.cause in
    ⊎_elim
    (λ does. ⊎_elim
    (λ word. inl (reading_idle disk outcome work (SaysNoBlock score_word type_word) does.1 word))
    (λ said.
    let s : List ℕ = said.0 in
    let kind : ℕ = said.1 in
    inr (inr (
      s,
      kind,
      said.2,
      ⊎_elim
          (λ none. inl (none.outcome_is ∙ ap Err (⊎_elim
          (λ unread. none_read file it.text it.conf none.failure work.files it.says
          (λ line why. c.configurations_have_one_meaning.ensures.accepted it.text it.conf line why it.says)
          it.files it.content unread.1
          (λ fault. fails.files (subst (λ (f : CommandError). HasCauseIn (causes_of disk work) (Err f)) fault
          (cause_of none.failure none.outcome_is))))
          (λ memory. memory.0) none.why.1)))
          (λ at. in_conf file work.files
          (PrintsBlock score disk link file s kind outcome work.parts work.dialer work.sink) names
          (λ conf reads x.
          let text_is : reads.text ≡ it.text = (let is = sym (reads.content it.files) ∙ it.content in cc) in
          let same = c.configurations_have_one_meaning.ensures.one reads.text it.conf conf
          (subst (λ t. Configures t it.conf) (sym text_is) it.says) reads.says in
          let under = under_same work.parts.old it.conf conf it.devices same it.under in
          stored_well score disk link file conf work fails
          (λ (bytes : List ℕ). r_read bytes) (λ (bytes : List ℕ). bytes) (read s kind MAX_BLOCK) setup it.g
          (λ bytes ended prints. printed_well score disk link file conf work fails bytes ended prints)
          outcome 0 Bool.false (λ output S act holds calls from to. ReadsOne kind s output calls)
          (λ output first added ended uses. subst (λ (r : Result (List ℕ) Why). IsAnswer score setup it.g
          (read s kind MAX_BLOCK) (answered (λ (bytes : List ℕ). r_read bytes) r))
          (sym (unended (own_answer output first) ended uses.does.asks.ends.0))
          (c.stores_are_read.ensures score work.parts.tells conf kind s output first added ended work.parts.old
          work.parts.new it.tables it.devices it.c it.h it.g it.base it.parts it.disks uses under it.log).answers)
          (λ output first added ended uses.
          let so = calls_store score disk 0 Bool.false _ first added ended uses.opened uses.left uses.does in
          causes_so disk uses.opened uses.left output first ended
          (c.local_refusals_have_causes.ensures.said score 0 Bool.false uses.does.does.calls first ended uses.opened
          uses.left so uses.opens.mounts.fresh.stops)
          (c.local_refusals_have_causes.ensures.closed score 0 Bool.false uses.does.does.calls first ended uses.opened
          uses.left so uses.opens.mounts.fresh.stops))
          (λ bad refuses. c.refused_stores_stand.ensures.found score work.parts.tells conf work.parts.old
          work.parts.new work.parts.faults work.parts.faults' bad it.tables it.devices it.c it.h it.g it.base
          it.parts it.disks refuses under it.log it.limits)
          did.cause x.used x.uses x.told)
          at.0 at.1 at.2) said.3,
    ))) does.0)
    (λ idle. inr (inl idle.is))
    (done disk link score outcome work words did.preface did.does (Read file score_word type_word) asks)

pub returns-clause-written : goal.returns-clause-written
returns-clause-written g c score words status work complaint file type_word did asks names it fails =
    let disk = g.P.Disk.Disk in
    let link = g.N.Link.Link in
    let outcome = did.outcome in
    let setup = record it.c { base = it.base } in
    let tells = first_tells work.source.tells work.sink.tells it.streams in
    let cause_of = λ (failure : CommandError) (is : outcome ≡ Err failure).
    subst (λ (o : CommandOutcome). HasCauseIn (causes_of disk work) o) is did.cause in
    ⊎_elim
    (λ does. ⊎_elim
    (λ word. inl (writing_idle disk outcome work (SaysNoType type_word) does.1 word))
    (λ said.
    let kind : ℕ = said.0 in
    inr (inr (
      kind,
      said.1,
      ⊎_elim
          (λ none. inl (none.outcome_is ∙ ap Err (⊎_elim
          (λ unread. none_read file it.text it.conf none.failure work.files it.says
          (λ line why. c.configurations_have_one_meaning.ensures.accepted it.text it.conf line why it.says)
          it.files it.content unread.1
          (λ fault. fails.files (subst (λ (f : CommandError). HasCauseIn (causes_of disk work) (Err f)) fault
          (cause_of none.failure none.outcome_is))))
          (λ memory. memory.0) none.why.1)))
          (λ at. in_conf file work.files
          (WritesInput score disk link file kind outcome work.source work.sink work.parts work.dialer) names
          (λ conf reads had.
          let text_is : reads.text ≡ it.text = (let is = sym (reads.content it.files) ∙ it.content in cc) in
          let same = c.configurations_have_one_meaning.ensures.one reads.text it.conf conf
          (subst (λ t. Configures t it.conf) (sym text_is) it.says) reads.says in
          let under = under_same work.parts.old it.conf conf it.devices same it.under in
          ⊎_elim
          (λ none. none_taken score disk outcome work fails did.cause setup it.g kind said.1.1 tells none.0)
          (λ x. subst (λ (bytes : List ℕ). TellsReplyOrMemory (answer score setup it.g (write kind bytes)).reply
          outcome work.sink) (sym (x.takes.all tells).0)
          (stored_well score disk link file conf work fails
          (λ (given : Score). r_write given.0) score_line (write kind x.bytes) setup it.g
          (λ given ended prints. printed_well score disk link file conf work fails (score_line given) ended prints)
          outcome x.now Bool.true (λ output S act holds calls from to.
          WritesOne score (record { kind = kind; bytes = x.bytes }) output calls)
          (λ output first added ended uses. (c.stores_are_written.ensures score work.parts.tells conf x.now
          (record { kind = kind; bytes = x.bytes }) output first added ended work.parts.old work.parts.new it.tables
          it.devices it.c it.h it.g it.base it.parts it.disks uses under it.log).answers)
          (λ output first added ended uses.
          let so = calls_store score disk x.now Bool.true _ first added ended uses.opened uses.left uses.does in
          causes_so disk uses.opened uses.left output first ended
          (c.local_refusals_have_causes.ensures.said score x.now Bool.true uses.does.does.calls first ended uses.opened
          uses.left so uses.opens.mounts.fresh.stops)
          (c.local_refusals_have_causes.ensures.closed score x.now Bool.true uses.does.does.calls first ended uses.opened
          uses.left so uses.opens.mounts.fresh.stops))
          (λ bad refuses. c.refused_stores_stand.ensures.found score work.parts.tells conf work.parts.old
          work.parts.new work.parts.faults work.parts.faults' bad it.tables it.devices it.c it.h it.g it.base
          it.parts it.disks refuses under it.log it.limits)
          did.cause x.writes.used x.writes.uses x.writes.told))
          had)
          at.0 at.1 at.2) said.2,
    ))) does.0)
    (λ idle. inr (inl idle.is))
    (done disk link score outcome work words did.preface did.does (Write file type_word) asks)
