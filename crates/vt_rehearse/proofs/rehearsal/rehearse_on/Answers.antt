-- the first stage is a store without blocks, and the last one is what was counted
use Rattle.std.proofs.Common.{◌≡◌, ℕ, [], ◌∙◌, ap}
use Rattle.vt_empty.specs.Shape.{setup_for}
use Rattle.vt_core.specs.Core.{history_len}
use Rattle.vt_rehearse.specs.declared.summary.Summary.{Summary}
use Rattle.vt_rehearse.specs.Rounds.{rounds_from}
use Rattle.vt_rehearse.specs.Shape.{the_shape}
use Rattle.vt_rehearse.specs.Stage.{StageState}
use Rattle.vt_rehearse.specs.Words.{all_words}
use Rattle.vt_rehearse.proofs.Starting.{alike_first}
use Rattle.vt_rehearse.proofs.Staged.{as_long}
use Rattle.vt_rehearse.proofs.Sums.{adds_up}
use Rattle.vt_rehearse.proofs.Turns.{many_words}
use Rattle.vt_rehearse.proofs.rehearsal.rehearse_on.Goals as goal

pub open-requires-clause-log : goal.open-requires-clause-log
open-requires-clause-log g c = record {
  c = setup_for the_shape;
  h = [];
  g = [];
  base = 0;
  log = c.requires.fresh.log g.S.Scorer.score_of;
  limits = c.requires.fresh.limits;
}

pub make_rounds-requires-clause-alike : goal.make_rounds-requires-clause-alike
make_rounds-requires-clause-alike g c =
    alike_first g.S.Scorer.score_of g.D.Disk c.requires.memory c.args.devices c.requires.fresh
    (record { core = c.in_ok-core.core; listed = c.in_ok-listed.listed.items; summary = c.new.result }) c.in_ok-core.ensures c.in_ok-listed.ensures.items

pub returns-clause-rehearsal : goal.returns-clause-rehearsal
returns-clause-rehearsal g c =
    let score = g.S.Scorer.score_of in
    let disk = g.D.Disk in
    let fresh = c.requires.fresh in
    let core = c.in_ok-core.core in
    let listed = c.in_ok-listed.listed.items in
    let first : StageState g.row.D.Denot = record { core = core; listed = listed; summary = c.new.result } in
    let end = c.look_up_all.new.stage in
    let told : record c.summary-summary.result { blocks = c.history_len.result } ≡ record end.summary { blocks = history_len end.core } =
    ap (λ (x : Summary). record x { blocks = c.history_len.result }) c.summary-summary.ensures ∙ ap (λ (n : ℕ). record end.summary { blocks = n }) c.history_len.ensures in
    record {
      devices = c.args.devices;
      fresh = fresh;
      first = first;
      mounts = c.in_ok-core.ensures;
      unlisted = c.in_ok-listed.ensures.items;
      uncounted = c.new.ensures;
      last = c.in_ok-stage.stage;
      rounds = c.in_ok-stage.ensures.makes;
      end = end;
      looks = c.in_ok-look_up_all.ensures.looks;
      summary = told;
    }

pub returns-clause-adds_up : goal.returns-clause-adds_up
returns-clause-adds_up g c =
    let score = g.S.Scorer.score_of in
    let disk = g.D.Disk in
    let fresh = c.requires.fresh in
    let core = c.in_ok-core.core in
    let listed = c.in_ok-listed.listed.items in
    let first : StageState g.row.D.Denot = record { core = core; listed = listed; summary = c.new.result } in
    let end = c.look_up_all.new.stage in
    let told : record c.summary-summary.result { blocks = c.history_len.result } ≡ record end.summary { blocks = history_len end.core } =
    ap (λ (x : Summary). record x { blocks = c.history_len.result }) c.summary-summary.ensures ∙ ap (λ (n : ℕ). record end.summary { blocks = n }) c.history_len.ensures in
    adds_up score disk g.D.Crashable.leaves (rounds_from c.args.seed c.args.count) all_words first c.in_ok-stage.stage end (record c.summary-summary.result { blocks = c.history_len.result })
    many_words c.in_ok-listed.ensures.items c.new.ensures c.in_ok-stage.ensures.makes c.in_ok-look_up_all.ensures.looks (as_long score disk end c.in_ok-look_up_all.ensures.alike) told
