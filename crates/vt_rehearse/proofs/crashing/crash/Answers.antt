-- the store behind the crash has a prefix, and the list is cut to it
use Rattle.std.proofs.Common.{sym, ap, subst}
use Rattle.vt_core.specs.Core.{CoreState}
use Rattle.vt_rehearse.specs.Limits.{GrowsByRound}
use Rattle.vt_rehearse.specs.Rehearsal.{CrashesIn}
use Rattle.vt_rehearse.specs.Stage.{AreAlike, IsSteady, StageState}
use Rattle.vt_rehearse.proofs.Cutting.{alike_cut, crashes_in, cut_so, few_left, grows_cut, left_fits}
use Rattle.vt_rehearse.proofs.crashing.crash.Goals as goal

pub restart-requires-clause-steady : goal.restart-requires-clause-steady
restart-requires-clause-steady g c =
    let h = c.requires.alike.history in
    (h, subst (λ (k : CoreState g.row.D.Denot). IsSteady g.S.Scorer.score_of g.D.Disk k h) (sym (ap (λ s. s.core) c.stage.view_is)) c.requires.alike.store)

pub note_crash-requires-clause-few : goal.note_crash-requires-clause-few
note_crash-requires-clause-few g c =
    let score = g.S.Scorer.score_of in
    let disk = g.D.Disk in
    let at = c.stage.inside in
    let old : StageState g.row.D.Denot = record { core = at.core; listed = at.listed.items; summary = at.summary } in
    let core = c.in_ok-core.core in
    let alike = subst (λ (s : StageState g.row.D.Denot). AreAlike score disk s) (sym c.stage.view_is) c.requires.alike in
    let cut = cut_so score disk old core alike (c.in_ok-core.ensures.crashes alike.history alike.store) in
    few_left score disk g.D.Crashable.leaves c.args.mode old core alike cut c.synced-synced.result c.history_len-left.result c.synced-synced.ensures.synced c.judge_crash.new.self c.judge_crash.ensures c.history_len-left.ensures

pub note_crash-requires-clause-left : goal.note_crash-requires-clause-left
note_crash-requires-clause-left g c =
    let score = g.S.Scorer.score_of in
    let disk = g.D.Disk in
    let at = c.stage.inside in
    let old : StageState g.row.D.Denot = record { core = at.core; listed = at.listed.items; summary = at.summary } in
    let core = c.in_ok-core.core in
    let alike = subst (λ (s : StageState g.row.D.Denot). AreAlike score disk s) (sym c.stage.view_is) c.requires.alike in
    let cut = cut_so score disk old core alike (c.in_ok-core.ensures.crashes alike.history alike.store) in
    left_fits score disk g.D.Crashable.leaves c.args.mode old core alike cut c.synced-synced.result c.history_len-left.result c.synced-synced.ensures.synced c.judge_crash.new.self c.judge_crash.ensures c.history_len-left.ensures

pub returns-clause-crashes : goal.returns-clause-crashes
returns-clause-crashes g c =
    let score = g.S.Scorer.score_of in
    let disk = g.D.Disk in
    let at = c.stage.inside in
    let old : StageState g.row.D.Denot = record { core = at.core; listed = at.listed.items; summary = at.summary } in
    let core = c.in_ok-core.core in
    let alike = subst (λ (s : StageState g.row.D.Denot). AreAlike score disk s) (sym c.stage.view_is) c.requires.alike in
    let cut = cut_so score disk old core alike (c.in_ok-core.ensures.crashes alike.history alike.store) in
    subst (λ (s : StageState g.row.D.Denot). CrashesIn score disk g.D.Crashable.leaves c.args.mode s c.note_crash.new.self) c.stage.view_is
    (crashes_in score disk g.D.Crashable.leaves c.args.mode old core alike cut c.synced-synced.result c.history_len-left.result c.synced-synced.ensures.synced c.judge_crash.new.self c.judge_crash.ensures c.history_len-left.ensures
    c.note_crash.new.self c.note_crash.ensures c.in_ok-core.ensures.restarts)

pub returns-clause-alike : goal.returns-clause-alike
returns-clause-alike g c =
    let score = g.S.Scorer.score_of in
    let disk = g.D.Disk in
    let at = c.stage.inside in
    let old : StageState g.row.D.Denot = record { core = at.core; listed = at.listed.items; summary = at.summary } in
    let core = c.in_ok-core.core in
    let alike = subst (λ (s : StageState g.row.D.Denot). AreAlike score disk s) (sym c.stage.view_is) c.requires.alike in
    let cut = cut_so score disk old core alike (c.in_ok-core.ensures.crashes alike.history alike.store) in
    alike_cut score disk g.D.Crashable.leaves c.args.mode old core alike cut c.synced-synced.result c.history_len-left.result c.synced-synced.ensures.synced c.judge_crash.new.self c.judge_crash.ensures c.history_len-left.ensures
    c.note_crash.new.self c.note_crash.ensures

pub returns-clause-grows : goal.returns-clause-grows
returns-clause-grows g c =
    let score = g.S.Scorer.score_of in
    let disk = g.D.Disk in
    let at = c.stage.inside in
    let old : StageState g.row.D.Denot = record { core = at.core; listed = at.listed.items; summary = at.summary } in
    let core = c.in_ok-core.core in
    let alike = subst (λ (s : StageState g.row.D.Denot). AreAlike score disk s) (sym c.stage.view_is) c.requires.alike in
    let cut = cut_so score disk old core alike (c.in_ok-core.ensures.crashes alike.history alike.store) in
    subst (λ (s : StageState g.row.D.Denot). GrowsByRound s.summary c.note_crash.new.self.summary) c.stage.view_is
    (grows_cut score disk g.D.Crashable.leaves c.args.mode old core alike cut c.synced-synced.result c.history_len-left.result c.synced-synced.ensures.synced c.judge_crash.new.self c.judge_crash.ensures c.history_len-left.ensures
    c.note_crash.new.self c.note_crash.ensures)
