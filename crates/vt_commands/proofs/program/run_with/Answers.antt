-- what was done, and then what goes to the fault sink
use Rattle.std.specs.Prelude.{map}
use Rattle.run_base.specs.Errors.{outcome_line}
use Rattle.run_base.proofs.SaidBefore.{said_before}
use Rattle.vt_commands.specs.Work.{work_of}
use Rattle.vt_commands.proofs.Only.{for_archives, words_caused}
use Rattle.vt_commands.proofs.program.run_with.Goals as goal

pub returns : goal.returns
returns g c =
    let disk = g.P.Disk.Disk in
    let link = g.N.Link.Link in
    let score = g.S.Scorer.score_of in
    let words = map g.W.AsStr.text c.args.words.now in
    let said = c.do_words-said.result.0 in
    let outcome = c.do_words-said.result.1 in
    let before = c.args.host.now in
    let after = c.do_words-said.new.host in
    let work = work_of g.R.Source g.K.Sink g.I.Files g.P.Parts g.G.Folders g.N.Dialer link before
    after in
    let does = c.do_words-said.ensures in
    record {
      did = record {
        outcome = outcome;
        status_is = c.end.ensures.status;
        cause = words_caused disk outcome work link score words does.0 does.1;
        preface = does.0;
        does = does.1;
        folders = for_archives disk outcome work link score words does.0 does.1;
        complained = said_before g.F.Sink before.fault_sink after.fault_sink c.end.new.fault_sink
            does.0 (outcome_line outcome) said does.2 c.end.ensures.complained c.end.ensures.silent;
      };
    }
