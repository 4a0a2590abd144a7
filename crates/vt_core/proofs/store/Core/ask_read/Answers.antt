use Rattle.std.proofs.Common.{◌≡◌, ◌≢◌, ℕ, List, [], true, false, Option, Some, sym, ◌∙◌, ap, subst, rules}
use Rattle.std.specs.Prelude.{Ok, is_some}
use Rattle.std.specs.Str.{bytes_eq}
use Rattle.std.proofs.lemmas.Slice.Eq.{bytes_eq-Decides}
use Rattle.vt_base.specs.Kind.{is_kind}
use Rattle.vt_base.specs.declared.answer.Said.{Said}
use Rattle.vt_base.specs.declared.answer.Said.TheVariants.{Refused}
use Rattle.vt_base.specs.declared.key.Key.{Key}
use Rattle.vt_base.specs.declared.why.Why.TheVariants.{BadType}
use Rattle.vt_base.specs.declared.operation.Operation.TheVariants as asks
use Rattle.vt_core.specs.declared.event.Event.TheVariants.{Ask}
use Rattle.vt_core.specs.declared.event.Out.{Out}
use Rattle.vt_core.specs.declared.event.Out.TheVariants.{Said as SaidOut}
use Rattle.vt_core.specs.Asking.{lent, says}
use Rattle.vt_core.specs.Core.{CoreState, history_len}
use Rattle.vt_core.specs.Steps.{Steps}
use Rattle.vt_core.specs.Whole.{IsWhole}
use Rattle.vt_core.proofs.AskWork.{bad_read, read_steps, zero_read}
use Rattle.vt_core.proofs.store.Core.ask_read.Goals as goal

pub returns-in_default : goal.returns-in_default
returns-in_default g c = λ session now none.
    let score = g.S.Scorer.score_of in
    let k : CoreState g.row.D.Denot = c.args.self.now in
    let w : IsWhole g.D.Disk k = subst (λ (m : CoreState g.row.D.Denot). IsWhole g.D.Disk m) c.self.view_is c.self.invariant.0 in
    let gives = c.crash_gives_a_prefix.ensures.prefix in
    let at : c.front-at.result ≡ history_len k = c.front-at.ensures.front ∙ ap (λ (m : CoreState g.row.D.Denot). history_len m) c.self.view_is in
    let bad : is_kind c.args.kind ≡ false = sym c.from_wire.ensures.variant ∙ ap (λ (o : Option ℕ). is_some o) c.in_default.is in
    let said : c.say.result ≡ says (Refused BadType) k = c.say.ensures ∙ ap (λ (n : ℕ). SaidOut (record { said = Refused BadType; at = n })) at in
    subst (λ (o : Out). Steps score g.D.Disk (Ask session (asks.Read c.args.score c.args.kind c.args.count) now) o k k) (sym said)
    (bad_read score g.D.Disk k gives w session now none c.args.score c.args.kind c.args.count bad)

pub returns-then-eq : goal.returns-then-eq
returns-then-eq g c = λ session now none.
    let score = g.S.Scorer.score_of in
    let k : CoreState g.row.D.Denot = c.args.self.now in
    let w : IsWhole g.D.Disk k = subst (λ (m : CoreState g.row.D.Denot). IsWhole g.D.Disk m) c.self.view_is c.self.invariant.0 in
    let gives = c.crash_gives_a_prefix.ensures.prefix in
    let at : c.front-at.result ≡ history_len k = c.front-at.ensures.front ∙ ap (λ (m : CoreState g.row.D.Denot). history_len m) c.self.view_is in
    let own : is_kind c.args.kind ≡ true = sym c.in-Some.ensures.variant in
    let zero : c.args.score.0 ≡ score [] = (bytes_eq-Decides c.args.score.0 (score [])).0 (sym (c.if-eq.ensures ∙ ap (bytes_eq c.args.score.0) c.zero_score.ensures)) in
    let empty : c.from_vec.result ≡ [] = search rules in
    let lends : c.lend.result ≡ lent c.args.count (Ok (Some [])) = c.lend.ensures ∙ ap (λ (b : List ℕ). lent c.args.count (Ok (Some b))) empty in
    let said : c.say-then-eq.result ≡ says (lent c.args.count (Ok (Some []))) k = c.say-then-eq.ensures ∙ ap (λ (n : ℕ). SaidOut (record { said = c.lend.result; at = n })) at
    ∙ ap (λ (x : Said). SaidOut (record { said = x; at = history_len k })) lends in
    subst (λ (o : Out). Steps score g.D.Disk (Ask session (asks.Read c.args.score c.args.kind c.args.count) now) o k k) (sym said)
    (zero_read score g.D.Disk k gives w session now none c.args.score c.args.kind c.args.count own zero)

pub returns : goal.returns
returns g c = λ session now none.
    let score = g.S.Scorer.score_of in
    let k : CoreState g.row.D.Denot = c.args.self.now in
    let w : IsWhole g.D.Disk k = subst (λ (m : CoreState g.row.D.Denot). IsWhole g.D.Disk m) c.self.view_is c.self.invariant.0 in
    let gives = c.crash_gives_a_prefix.ensures.prefix in
    let at : c.front-at.result ≡ history_len k = c.front-at.ensures.front ∙ ap (λ (m : CoreState g.row.D.Denot). history_len m) c.self.view_is in
    let new = c.find-found.new.self in
    let kind : c.in-Some.kind ≡ c.args.kind = c.in-Some.ensures.found in
    let own : is_kind c.in-Some.kind ≡ true = ap (λ (n : ℕ). is_kind n) kind ∙ sym c.in-Some.ensures.variant in
    let key : Key = record { score = c.args.score; kind = c.in-Some.kind } in
    let other : key.score.0 ≢ score [] = λ e.
    let both : false ≡ true = c.if-eq.ensures ∙ ap (bytes_eq c.args.score.0) c.zero_score.ensures ∙ (bytes_eq-Decides c.args.score.0 (score [])).1 e in absurd (cc) in
    let said : c.say-2.result ≡ says (lent c.args.count c.find-found.result) k = c.say-2.ensures ∙ ap (λ (n : ℕ). SaidOut (record { said = c.lend-2.result; at = n })) at
    ∙ ap (λ (x : Said). SaidOut (record { said = x; at = history_len k })) c.lend-2.ensures in
    subst (λ (o : Out). Steps score g.D.Disk (Ask session (asks.Read c.args.score c.args.kind c.args.count) now) o k new) (sym said)
    (subst (λ (n : ℕ). Steps score g.D.Disk (Ask session (asks.Read c.args.score n c.args.count) now) (says (lent c.args.count c.find-found.result) k) k new) kind
    (read_steps score g.D.Disk k new gives w session now none key c.args.count own own other c.find-found.result c.find-found.ensures.finds))
