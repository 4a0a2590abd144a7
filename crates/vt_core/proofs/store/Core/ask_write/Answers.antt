use Rattle.std.proofs.Common.{◌≡◌, ℕ, true, false, Option, length, sym, ◌∙◌, ap, subst, arith}
use Rattle.std.specs.Prelude.{is_some}
use Rattle.std.proofs.lemmas.Bool.{eqb-true}
use Rattle.vt_base.specs.Kind.{IsKind, is_kind}
use Rattle.vt_base.specs.declared.answer.Said.TheVariants.{Score, Refused}
use Rattle.vt_base.specs.declared.why.Why.TheVariants.{BadType, TooBig}
use Rattle.vt_base.specs.declared.operation.Operation.TheVariants as asks
use Rattle.vt_core.specs.declared.event.Event.TheVariants.{Ask}
use Rattle.vt_core.specs.declared.event.Out.{Out}
use Rattle.vt_core.specs.declared.event.Out.TheVariants.{Said as SaidOut}
use Rattle.vt_core.specs.Asking.{says}
use Rattle.vt_core.specs.Core.{CoreState, history_len}
use Rattle.vt_core.specs.Steps.{Steps}
use Rattle.vt_core.specs.Whole.{IsWhole}
use Rattle.vt_core.proofs.WriteWork.{bad_write, big_write, empty_write, some_bytes}
use Rattle.vt_core.proofs.store.Core.ask_write.Goals as goal

pub returns-in_default : goal.returns-in_default
returns-in_default g c = λ session none.
    let score = g.S.Scorer.score_of in
    let k : CoreState g.row.D.Denot = c.args.self.now in
    let w : IsWhole g.D.Disk k = subst (λ (m : CoreState g.row.D.Denot). IsWhole g.D.Disk m) c.self.view_is c.self.invariant.0 in
    let at : c.front-at.result ≡ history_len k = c.front-at.ensures.front ∙ ap (λ (m : CoreState g.row.D.Denot). history_len m) c.self.view_is in
    let bad : is_kind c.args.kind ≡ false = sym c.from_wire.ensures.variant ∙ ap (λ (o : Option ℕ). is_some o) c.in_default.is in
    let said : c.say.result ≡ says (Refused BadType) k = c.say.ensures ∙ ap (λ (n : ℕ). SaidOut (record { said = Refused BadType; at = n })) at in
    subst (λ (o : Out). Steps score g.D.Disk (Ask session (asks.Write c.args.kind c.args.block) c.args.now) o k k) (sym said)
    (bad_write score g.D.Disk k c.crash_gives_a_prefix.ensures.prefix w session c.args.now none c.args.kind c.args.block bad)

pub returns-then-block-gt-MAX_BLOCK : goal.returns-then-block-gt-MAX_BLOCK
returns-then-block-gt-MAX_BLOCK g c = λ session none.
    let score = g.S.Scorer.score_of in
    let k : CoreState g.row.D.Denot = c.args.self.now in
    let w : IsWhole g.D.Disk k = subst (λ (m : CoreState g.row.D.Denot). IsWhole g.D.Disk m) c.self.view_is c.self.invariant.0 in
    let gives = c.crash_gives_a_prefix.ensures.prefix in
    let at : c.front-at.result ≡ history_len k = c.front-at.ensures.front ∙ ap (λ (m : CoreState g.row.D.Denot). history_len m) c.self.view_is in
    let own : is_kind c.args.kind ≡ true = sym c.in-Some.ensures.variant in
    let said : c.say-then-block-gt-MAX_BLOCK.result ≡ says (Refused TooBig) k = c.say-then-block-gt-MAX_BLOCK.ensures ∙ ap (λ (n : ℕ). SaidOut (record { said = Refused TooBig; at = n })) at in
    subst (λ (o : Out). Steps score g.D.Disk (Ask session (asks.Write c.args.kind c.args.block) c.args.now) o k k) (sym said)
    (big_write score g.D.Disk k gives w session c.args.now none c.args.kind c.args.block own (omega (arith, c.if-block-gt-MAX_BLOCK.true)))

pub returns-then-is_empty : goal.returns-then-is_empty
returns-then-is_empty g c = λ session none.
    let score = g.S.Scorer.score_of in
    let k : CoreState g.row.D.Denot = c.args.self.now in
    let w : IsWhole g.D.Disk k = subst (λ (m : CoreState g.row.D.Denot). IsWhole g.D.Disk m) c.self.view_is c.self.invariant.0 in
    let gives = c.crash_gives_a_prefix.ensures.prefix in
    let at : c.front-at.result ≡ history_len k = c.front-at.ensures.front ∙ ap (λ (m : CoreState g.row.D.Denot). history_len m) c.self.view_is in
    let own : is_kind c.args.kind ≡ true = sym c.in-Some.ensures.variant in
    let empty : length c.args.block.now ≡ 0 = eqb-true (length c.args.block.now) 0 (sym c.is_empty.ensures ∙ c.if-is_empty.true) in
    let said : c.say-then-is_empty.result ≡ says (Score c.score-score.result) k = c.say-then-is_empty.ensures ∙ ap (λ (n : ℕ). SaidOut (record { said = Score c.score-score.result; at = n })) at in
    subst (λ (o : Out). Steps score g.D.Disk (Ask session (asks.Write c.args.kind c.args.block) c.args.now) o k k) (sym said)
    (empty_write score g.D.Disk k gives w session c.args.now none c.args.kind c.args.block c.score-score.result own empty c.score-score.ensures)

pub write-requires-clause-block : goal.write-requires-clause-block
write-requires-clause-block g c =
    let own : IsKind c.in-Some.kind = ap (λ (n : ℕ). is_kind n) c.in-Some.ensures.found ∙ sym c.in-Some.ensures.variant in
    record { kind = own; some = some_bytes c.args.block.now (sym c.is_empty.ensures ∙ c.if-is_empty.false); most = omega (arith, c.if-block-gt-MAX_BLOCK.false) }

pub returns : goal.returns
returns g c = λ session none.
    subst (λ (n : ℕ). Steps g.S.Scorer.score_of g.D.Disk (Ask session (asks.Write n c.args.block) c.args.now) c.write.result c.args.self.now c.write.new.self) c.in-Some.ensures.found (c.write.ensures session none)
