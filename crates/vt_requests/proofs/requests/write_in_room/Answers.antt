use Rattle.std.proofs.Common.{⊎_elim, sym, ◌∙◌}
use Rattle.vt_base.specs.Protocol.{write}
use Rattle.vt_requests.proofs.AskGives.{gives}
use Rattle.vt_requests.proofs.Told.{said_in_room}
use Rattle.vt_requests.proofs.requests.write_in_room.Goals as goal

pub unreachable-requires : goal.unreachable-requires
unreachable-requires g c =
    let given = gives g.S.Scorer.score_of g.D.Disk c.args.session c.args.now c.step.result c.args.core.now c.step.new.self (write c.args.kind c.args.bytes.now) (λ e. cc)
    (c.step.ensures.does.serves c.requires.free) in
    let it = said_in_room g.S.Scorer.score_of c.args.session c.args.kind c.args.bytes.now c.step.result c.args.core.now c.step.new.self c.requires.queue c.requires.spare given in
    ⊎_elim (λ e. let no = sym it.1 ∙ e in cc)
    (λ a. ⊎_elim (λ e. let no = sym it.1 ∙ e in cc)
    (λ b. ⊎_elim (λ e. let no = sym it.1 ∙ e in cc)
    (λ d. ⊎_elim (λ e. let no = sym it.1 ∙ e in cc) (λ e. let no = sym it.1 ∙ e.1 in cc) d) b) a) c.in-NotYet.is
