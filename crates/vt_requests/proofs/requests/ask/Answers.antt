use Rattle.std.proofs.Common.{◌≡◌, inl, inr, ℕ, List, Option, Some, None, sym, ◌∙◌, ap, subst}
use Rattle.std.specs.Prelude.{slice_get}
use Rattle.vt_core.specs.Core.{CoreState, history_len}
use Rattle.vt_core.specs.Machine.{WaitsForNone, WaitsAt}
use Rattle.vt_base.specs.Operations.{operation_of}
use Rattle.vt_core.specs.declared.event.Out.TheVariants.{NotYet, Waits}
use Rattle.vt_recover.proofs.Places.{get_set}
use Rattle.vt_base.specs.declared.operation.Operation.{Operation as Asked}
use Rattle.vt_requests.specs.Requests.{WritesAgain}
use Rattle.vt_requests.proofs.AllTold.{all_told, not_given, room_given, wait_given}
use Rattle.vt_requests.proofs.AskGives.{gives, never_ping}
use Rattle.vt_requests.proofs.requests.ask.Goals as goal

pub returns-in-Said : goal.returns-in-Said
returns-in-Said g c = all_told g.S.Scorer.score_of g.D.Disk c.args.session c.args.now c.args.operation c.in-Said.answer c.args.core.now c.step.new.self c.requires (inl c.in-Said.ensures)

pub returns-in-Waits : goal.returns-in-Waits
returns-in-Waits g c = all_told g.S.Scorer.score_of g.D.Disk c.args.session c.args.now c.args.operation c.end_wait.result c.args.core.now c.end_wait.new.core c.requires
    (inr (record { mid = c.step.new.self; later = inr (c.in-Waits.ensures, c.end_wait.ensures) }))

pub returns-in-Write : goal.returns-in-Write
returns-in-Write g c = all_told g.S.Scorer.score_of g.D.Disk c.args.session c.args.now c.args.operation c.write_again.result c.args.core.now c.write_again.new.core c.requires
    (inr (record {
      mid = c.step.new.self;
      later = inl (
        c.in-NotYet.ensures,
        subst (λ (r : Asked). WritesAgain g.S.Scorer.score_of g.D.Disk c.args.session r c.args.now c.write_again.result c.step.new.self c.write_again.new.core) (sym c.in-Write.is) c.write_again.ensures,
      );
    }))

pub write_again-requires : goal.write_again-requires
write_again-requires g c =
    let room = room_given g.S.Scorer.score_of c.args.session (operation_of c.args.operation) c.args.core.now c.step.new.self
    (gives g.S.Scorer.score_of g.D.Disk c.args.session c.args.now NotYet c.args.core.now c.step.new.self (operation_of c.args.operation) (never_ping c.args.operation) (c.in-NotYet.ensures.does.serves c.requires)) in
    subst (λ (ws : List (Option ℕ)). WaitsForNone ws c.args.session) (sym room.waiting) c.requires

pub end_wait-requires : goal.end_wait-requires
end_wait-requires g c =
    let waits = wait_given g.S.Scorer.score_of c.args.session (operation_of c.args.operation) c.args.core.now c.step.new.self
    (gives g.S.Scorer.score_of g.D.Disk c.args.session c.args.now Waits c.args.core.now c.step.new.self (operation_of c.args.operation) (never_ping c.args.operation) (c.in-Waits.ensures.does.serves c.requires)) in
    let len : history_len c.step.new.self ≡ history_len c.args.core.now = ap (λ (k : CoreState g.row.D.Denot). history_len k) waits.new_is in
    subst (λ (n : ℕ). WaitsAt c.step.new.self.waiting c.args.session n) (sym len)
    (ap (λ (k : CoreState g.row.D.Denot). slice_get k.waiting c.args.session) waits.new_is ∙ get_set c.args.core.now.waiting c.args.session (Some (history_len c.args.core.now)) None c.requires)

pub unreachable-requires-in-Moved : goal.unreachable-requires-in-Moved
unreachable-requires-in-Moved g c =
    not_given g.S.Scorer.score_of c.args.session (operation_of c.args.operation) c.step.result c.args.core.now c.step.new.self
    (gives g.S.Scorer.score_of g.D.Disk c.args.session c.args.now c.step.result c.args.core.now c.step.new.self (operation_of c.args.operation) (never_ping c.args.operation) (c.step.ensures.does.serves c.requires))
    c.in-Moved.is
