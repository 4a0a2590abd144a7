use Rattle.std.proofs.Common.{◌≡◌, ◌≢◌, ℕ, List, [], true, false, None, sym, ◌∙◌, ap, subst, arith}
use Rattle.std.specs.Prelude.{Result, Ok, Err}
use Rattle.std.specs.Str.{bytes_eq}
use Rattle.std.proofs.lemmas.Slice.Eq.{bytes_eq-Decides}
use Rattle.vt_base.specs.Protocol.{write}
use Rattle.vt_base.specs.declared.answer.Said.TheVariants.{Score, Refused}
use Rattle.vt_base.specs.declared.key.Key.{Key}
use Rattle.vt_base.specs.declared.why.Why.{Why}
use Rattle.vt_base.specs.declared.why.Why.TheVariants.{Collision, Stopped}
use Rattle.vt_base.specs.declared.operation.Operation.TheVariants as asks
use Rattle.vt_core.specs.declared.event.Event.TheVariants.{Ask}
use Rattle.vt_core.specs.declared.event.Out.{Out}
use Rattle.vt_core.specs.declared.event.Out.TheVariants.{Said as SaidOut}
use Rattle.vt_lookup.specs.declared.writing.Verdict.{Verdict}
use Rattle.vt_lookup.specs.declared.writing.Verdict.TheVariants.{Held, New}
use Rattle.vt_core.specs.Asking.{says, shard_of, stop_for}
use Rattle.vt_core.specs.Core.{CoreState, history_len}
use Rattle.vt_core.specs.Serving.{TestsBlock}
use Rattle.vt_core.specs.Steps.{Steps}
use Rattle.vt_core.specs.Whole.{IsWhole}
use Rattle.vt_core.proofs.NewWork.{after_test, given_steps, has_after, within_after}
use Rattle.vt_core.proofs.WriteWork.{stop_is, stops_write, tested_steps, zero_write}
use Rattle.vt_core.proofs.store.Core.write.Goals as goal

pub returns-in-Some : goal.returns-in-Some
returns-in-Some g c = λ session none.
    let score = g.S.Scorer.score_of in
    let k : CoreState g.row.D.Denot = c.args.self.now in
    let w : IsWhole g.D.Disk k = subst (λ (m : CoreState g.row.D.Denot). IsWhole g.D.Disk m) c.self.view_is c.self.invariant.0 in
    let gives = c.crash_gives_a_prefix.ensures.prefix in
    let at : c.front-at.result ≡ history_len k = c.front-at.ensures.front ∙ ap (λ (m : CoreState g.row.D.Denot). history_len m) c.self.view_is in
    let key : Key = c.args.key.now in
    let stop : stop_for score k (write key.kind c.args.block.now) ≡ c.stop_for.result =
    stop_is score k key.kind c.args.block.now key.score.0 c.shard_of-shard.result c.stop_for.result c.shard_of-shard.ensures.shard c.requires.scored c.shard_of-shard.ensures.within c.stop_for.ensures in
    let call : ℕ = c.in-Some.call in
    let said : c.say.result ≡ says (Refused (Stopped call)) k = c.say.ensures ∙ ap (λ (n : ℕ). SaidOut (record { said = Refused (Stopped call); at = n })) at in
    subst (λ (o : Out). Steps score g.D.Disk (Ask session (asks.Write key.kind c.args.block) c.args.now) o k k) (sym said)
    (stops_write score g.D.Disk k gives w session c.args.now none key.kind c.args.block c.requires.block call (stop ∙ c.in-Some.is))

pub returns-then-eq : goal.returns-then-eq
returns-then-eq g c = λ session none.
    let score = g.S.Scorer.score_of in
    let k : CoreState g.row.D.Denot = c.args.self.now in
    let w : IsWhole g.D.Disk k = subst (λ (m : CoreState g.row.D.Denot). IsWhole g.D.Disk m) c.self.view_is c.self.invariant.0 in
    let gives = c.crash_gives_a_prefix.ensures.prefix in
    let at : c.front-at.result ≡ history_len k = c.front-at.ensures.front ∙ ap (λ (m : CoreState g.row.D.Denot). history_len m) c.self.view_is in
    let key : Key = c.args.key.now in
    let stop : stop_for score k (write key.kind c.args.block.now) ≡ c.stop_for.result =
    stop_is score k key.kind c.args.block.now key.score.0 c.shard_of-shard.result c.stop_for.result c.shard_of-shard.ensures.shard c.requires.scored c.shard_of-shard.ensures.within c.stop_for.ensures in
    let goes : stop_for score k (write key.kind c.args.block.now) ≡ None = stop ∙ c.in_default.is in
    let zero : score c.args.block.now ≡ score [] =
    sym c.requires.scored ∙ (bytes_eq-Decides key.score.0 (score [])).0 (sym (c.if-eq.ensures ∙ ap (bytes_eq key.score.0) c.zero_score.ensures)) in
    let said : c.say-then-eq.result ≡ says (Refused Collision) k = c.say-then-eq.ensures ∙ ap (λ (n : ℕ). SaidOut (record { said = Refused Collision; at = n })) at in
    subst (λ (o : Out). Steps score g.D.Disk (Ask session (asks.Write key.kind c.args.block) c.args.now) o k k) (sym said)
    (zero_write score g.D.Disk k gives w session c.args.now none key.kind c.args.block c.requires.block goes zero (λ h. c.collides_by_number.ensures.zero score h c.args.block.now zero))

pub returns-in-Ok-Held : goal.returns-in-Ok-Held
returns-in-Ok-Held g c = λ session none.
    let score = g.S.Scorer.score_of in
    let k : CoreState g.row.D.Denot = c.args.self.now in
    let w : IsWhole g.D.Disk k = subst (λ (m : CoreState g.row.D.Denot). IsWhole g.D.Disk m) c.self.view_is c.self.invariant.0 in
    let gives = c.crash_gives_a_prefix.ensures.prefix in
    let at : c.front-at.result ≡ history_len k = c.front-at.ensures.front ∙ ap (λ (m : CoreState g.row.D.Denot). history_len m) c.self.view_is in
    let key : Key = c.args.key.now in
    let stop : stop_for score k (write key.kind c.args.block.now) ≡ c.stop_for.result =
    stop_is score k key.kind c.args.block.now key.score.0 c.shard_of-shard.result c.stop_for.result c.shard_of-shard.ensures.shard c.requires.scored c.shard_of-shard.ensures.within c.stop_for.ensures in
    let goes : stop_for score k (write key.kind c.args.block.now) ≡ None = stop ∙ c.in_default.is in
    let nonzero : score c.args.block.now ≢ score [] = λ e.
    let both : false ≡ true = c.if-eq.ensures ∙ ap (bytes_eq key.score.0) c.zero_score.ensures ∙ (bytes_eq-Decides key.score.0 (score [])).1 (c.requires.scored ∙ e) in absurd (cc) in
    let own : key ≡ record { score = record { 0 = score c.args.block.now }; kind = key.kind } = ap (λ (x : List ℕ). record { score = record { 0 = x }; kind = key.kind }) c.requires.scored in
    let mid : CoreState g.row.D.Denot = c.test.new.self in
    let it : TestsBlock score g.D.Disk (record { score = record { 0 = score c.args.block.now }; kind = key.kind }) c.args.block.now (Ok Held) k mid =
    subst (λ (x : Key). TestsBlock score g.D.Disk x c.args.block.now (Ok Held) k mid) own
    (subst (λ (r : Result Verdict Why). TestsBlock score g.D.Disk key c.args.block.now r k mid) (c.in-Ok-Held.is ∙ ap (λ (v : Verdict). Ok v) c.in-Ok-Held.field-0-is) c.test.ensures.tests) in
    let said : c.say-in-Ok-Held.result ≡ says (Score (record { 0 = score c.args.block.now })) k = c.say-in-Ok-Held.ensures ∙ ap (λ (n : ℕ). SaidOut (record { said = Score key.score; at = n })) at
    ∙ ap (λ (x : Key). says (Score x.score) k) own in
    subst (λ (o : Out). Steps score g.D.Disk (Ask session (asks.Write key.kind c.args.block) c.args.now) o k mid) (sym said)
    (tested_steps score g.D.Disk k mid gives w session c.args.now none key.kind c.args.block c.requires.block goes nonzero (Ok Held) it (λ e. cc))

pub returns-in-Err : goal.returns-in-Err
returns-in-Err g c = λ session none.
    let score = g.S.Scorer.score_of in
    let k : CoreState g.row.D.Denot = c.args.self.now in
    let w : IsWhole g.D.Disk k = subst (λ (m : CoreState g.row.D.Denot). IsWhole g.D.Disk m) c.self.view_is c.self.invariant.0 in
    let gives = c.crash_gives_a_prefix.ensures.prefix in
    let at : c.front-at.result ≡ history_len k = c.front-at.ensures.front ∙ ap (λ (m : CoreState g.row.D.Denot). history_len m) c.self.view_is in
    let key : Key = c.args.key.now in
    let stop : stop_for score k (write key.kind c.args.block.now) ≡ c.stop_for.result =
    stop_is score k key.kind c.args.block.now key.score.0 c.shard_of-shard.result c.stop_for.result c.shard_of-shard.ensures.shard c.requires.scored c.shard_of-shard.ensures.within c.stop_for.ensures in
    let goes : stop_for score k (write key.kind c.args.block.now) ≡ None = stop ∙ c.in_default.is in
    let nonzero : score c.args.block.now ≢ score [] = λ e.
    let both : false ≡ true = c.if-eq.ensures ∙ ap (bytes_eq key.score.0) c.zero_score.ensures ∙ (bytes_eq-Decides key.score.0 (score [])).1 (c.requires.scored ∙ e) in absurd (cc) in
    let own : key ≡ record { score = record { 0 = score c.args.block.now }; kind = key.kind } = ap (λ (x : List ℕ). record { score = record { 0 = x }; kind = key.kind }) c.requires.scored in
    let mid : CoreState g.row.D.Denot = c.test.new.self in
    let it : TestsBlock score g.D.Disk (record { score = record { 0 = score c.args.block.now }; kind = key.kind }) c.args.block.now (Err c.in-Err.why) k mid =
    subst (λ (x : Key). TestsBlock score g.D.Disk x c.args.block.now (Err c.in-Err.why) k mid) own
    (subst (λ (r : Result Verdict Why). TestsBlock score g.D.Disk key c.args.block.now r k mid) c.in-Err.is c.test.ensures.tests) in
    let said : c.say-in-Err.result ≡ says (Refused c.in-Err.why) k = c.say-in-Err.ensures ∙ ap (λ (n : ℕ). SaidOut (record { said = Refused c.in-Err.why; at = n })) at in
    subst (λ (o : Out). Steps score g.D.Disk (Ask session (asks.Write key.kind c.args.block) c.args.now) o k mid) (sym said)
    (tested_steps score g.D.Disk k mid gives w session c.args.now none key.kind c.args.block c.requires.block goes nonzero (Err c.in-Err.why) it (λ e. cc))

pub test-requires-clause-most : goal.test-requires-clause-most
test-requires-clause-most g c = omega (arith, c.requires.block.most)

pub add-requires-clause-some : goal.add-requires-clause-some
add-requires-clause-some g c = c.requires.block.some

pub add-requires-clause-most : goal.add-requires-clause-most
add-requires-clause-most g c = c.requires.block.most

pub add-requires-clause-scored : goal.add-requires-clause-scored
add-requires-clause-scored g c = c.requires.scored

pub add-requires-clause-within : goal.add-requires-clause-within
add-requires-clause-within g c = within_after g.S.Scorer.score_of g.D.Disk c.args.self.now c.test.new.self c.args.key.now c.args.block.now c.test.result c.test.ensures.tests c.shard_of-shard.result c.shard_of-shard.ensures.within

pub add-requires-clause-has : goal.add-requires-clause-has
add-requires-clause-has g c = has_after g.S.Scorer.score_of g.D.Disk c.args.self.now c.test.new.self c.args.key.now c.args.block.now c.test.result c.test.ensures.tests c.shard_of-shard.result c.shard_of-shard.ensures.shard c.shard_of-shard.ensures.has

pub add-requires-clause-fits : goal.add-requires-clause-fits
add-requires-clause-fits g c = c.test.ensures.fits (c.in-Ok-New.is ∙ ap (λ (v : Verdict). Ok v) c.in-Ok-New.field-0-is)

pub add-requires-clause-absent : goal.add-requires-clause-absent
add-requires-clause-absent g c = λ s at. c.test.ensures.absent s (c.in-Ok-New.is ∙ ap (λ (v : Verdict). Ok v) c.in-Ok-New.field-0-is) at

pub returns-in-Ok-New : goal.returns-in-Ok-New
returns-in-Ok-New g c = λ session none.
    let score = g.S.Scorer.score_of in
    let k : CoreState g.row.D.Denot = c.args.self.now in
    let w : IsWhole g.D.Disk k = subst (λ (m : CoreState g.row.D.Denot). IsWhole g.D.Disk m) c.self.view_is c.self.invariant.0 in
    let gives = c.crash_gives_a_prefix.ensures.prefix in
    let at : c.front-at.result ≡ history_len k = c.front-at.ensures.front ∙ ap (λ (m : CoreState g.row.D.Denot). history_len m) c.self.view_is in
    let key : Key = c.args.key.now in
    let stop : stop_for score k (write key.kind c.args.block.now) ≡ c.stop_for.result =
    stop_is score k key.kind c.args.block.now key.score.0 c.shard_of-shard.result c.stop_for.result c.shard_of-shard.ensures.shard c.requires.scored c.shard_of-shard.ensures.within c.stop_for.ensures in
    let goes : stop_for score k (write key.kind c.args.block.now) ≡ None = stop ∙ c.in_default.is in
    let nonzero : score c.args.block.now ≢ score [] = λ e.
    let both : false ≡ true = c.if-eq.ensures ∙ ap (bytes_eq key.score.0) c.zero_score.ensures ∙ (bytes_eq-Decides key.score.0 (score [])).1 (c.requires.scored ∙ e) in absurd (cc) in
    let own : key ≡ record { score = record { 0 = score c.args.block.now }; kind = key.kind } = ap (λ (x : List ℕ). record { score = record { 0 = x }; kind = key.kind }) c.requires.scored in
    let mid : CoreState g.row.D.Denot = c.test.new.self in
    let it : TestsBlock score g.D.Disk (record { score = record { 0 = score c.args.block.now }; kind = key.kind }) c.args.block.now (Ok New) k mid =
    subst (λ (x : Key). TestsBlock score g.D.Disk x c.args.block.now (Ok New) k mid) own
    (subst (λ (r : Result Verdict Why). TestsBlock score g.D.Disk key c.args.block.now r k mid) (c.in-Ok-New.is ∙ ap (λ (v : Verdict). Ok v) c.in-Ok-New.field-0-is) c.test.ensures.tests) in
    let adds = c.add.ensures.adds it.after.shard
    (after_test score g.D.Disk k mid gives w session c.args.now none key.kind c.args.block c.requires.block goes nonzero it c.shard_of-shard.result (c.shard_of-shard.ensures.shard ∙ ap (λ (x : List ℕ). shard_of k x) c.requires.scored)) in
    given_steps score g.D.Disk k mid gives w session c.args.now none key.kind c.args.block c.requires.block goes nonzero it c.add.new.self c.add.result key own c.shard_of-shard.result
    (c.shard_of-shard.ensures.shard ∙ ap (λ (x : List ℕ). shard_of k x) c.requires.scored) adds
    c.marked_scores_stay.ensures.stay c.marked_scores_stay.ensures.marked c.refusals_add_nothing.ensures.operation c.refusals_add_nothing.ensures.reply c.add.ensures.sound
