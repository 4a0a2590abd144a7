use Rattle.std.proofs.Common.{Err, sym, subst}
use Rattle.nine_wire.specs.declared.message.Request.{Request}
use Rattle.nine_wire.specs.Views.{message_of}
use Rattle.nine_view.specs.declared.error.AnswerError.TheVariants.{Refused}
use Rattle.nine_view.specs.declared.request_error.RequestError.TheVariants.{NoAuthentication}
use Rattle.nine_view.specs.Answers.{answer_agreed}
use Rattle.nine_view.specs.Handling.{Handles}
use Rattle.nine_view.proofs.Handled.{refused_so, sets_so, settled_so, settles}
use Rattle.nine_view.proofs.view.View.answer_agreed.Goals as goal

pub returns-in-Version : goal.returns-in-Version
returns-in-Version g c =
    subst (λ (r : Request). Handles g.B.Blocks.does g.B.Blocks.holds g.B.Scorer.score_of
    c.args.blocks.now c.args.blocks.now c.args.tag c.args.self.now c.version.new.self c.version.new.out c.version.result
    (answer_agreed c.args.self.now c.args.msize (message_of r))) (sym c.in-Version.is)
    (settled_so g.B.Blocks.does g.B.Blocks.holds g.B.Scorer.score_of c.args.blocks.now c.args.tag c.args.self.now
    c.version.new.self c.version.new.out c.version.result _ c.version.ensures)

pub returns-in-Auth : goal.returns-in-Auth
returns-in-Auth g c =
    rw c.into.ensures (subst (λ (r : Request). Handles g.B.Blocks.does g.B.Blocks.holds g.B.Scorer.score_of
    c.args.blocks.now c.args.blocks.now c.args.tag c.args.self.now c.args.self.now c.args.out.now
    (Err (Refused NoAuthentication)) (answer_agreed c.args.self.now c.args.msize (message_of r)))
    (sym c.in-Auth.is)
    (refused_so g.B.Blocks.does g.B.Blocks.holds g.B.Scorer.score_of c.args.blocks.now c.args.tag c.args.self.now c.args.out.now NoAuthentication))

pub returns-in-Attach : goal.returns-in-Attach
returns-in-Attach g c =
    subst (λ (r : Request). Handles g.B.Blocks.does g.B.Blocks.holds g.B.Scorer.score_of
    c.args.blocks.now c.args.blocks.now c.args.tag c.args.self.now c.attach.new.self c.attach.new.out c.attach.result
    (answer_agreed c.args.self.now c.args.msize (message_of r))) (sym c.in-Attach.is)
    (sets_so g.B.Blocks.does g.B.Blocks.holds g.B.Scorer.score_of c.args.blocks.now c.args.tag c.args.self.now
    c.attach.new.self c.attach.new.out c.attach.result _ c.attach.ensures)

pub returns-in-Flush : goal.returns-in-Flush
returns-in-Flush g c =
    subst (λ (r : Request). Handles g.B.Blocks.does g.B.Blocks.holds g.B.Scorer.score_of
    c.args.blocks.now c.args.blocks.now c.args.tag c.args.self.now c.args.self.now c.flush.new.out c.flush.result
    (answer_agreed c.args.self.now c.args.msize (message_of r))) (sym c.in-Flush.is)
    (settled_so g.B.Blocks.does g.B.Blocks.holds g.B.Scorer.score_of c.args.blocks.now c.args.tag c.args.self.now
    c.args.self.now c.flush.new.out c.flush.result _ c.flush.ensures)

pub returns-in-Walk : goal.returns-in-Walk
returns-in-Walk g c =
    subst (λ (r : Request). Handles g.B.Blocks.does g.B.Blocks.holds g.B.Scorer.score_of
    c.args.blocks.now c.walk.new.blocks c.args.tag c.args.self.now c.walk.new.self c.walk.new.out c.walk.result
    (answer_agreed c.args.self.now c.args.msize (message_of r))) (sym c.in-Walk.is)
    (c.walk.ensures)

pub returns-in-Open : goal.returns-in-Open
returns-in-Open g c =
    subst (λ (r : Request). Handles g.B.Blocks.does g.B.Blocks.holds g.B.Scorer.score_of
    c.args.blocks.now c.args.blocks.now c.args.tag c.args.self.now c.open.new.self c.open.new.out c.open.result
    (answer_agreed c.args.self.now c.args.msize (message_of r))) (sym c.in-Open.is)
    (settles g.B.Blocks.does g.B.Blocks.holds g.B.Scorer.score_of c.args.blocks.now c.args.tag c.args.self.now
    c.open.new.self c.open.new.out c.open.result _ c.open.ensures)

pub returns-in-Create : goal.returns-in-Create
returns-in-Create g c =
    subst (λ (r : Request). Handles g.B.Blocks.does g.B.Blocks.holds g.B.Scorer.score_of
    c.args.blocks.now c.args.blocks.now c.args.tag c.args.self.now c.args.self.now c.args.out.now c.change.result
    (answer_agreed c.args.self.now c.args.msize (message_of r))) (sym c.in-Create.is)
    (settles g.B.Blocks.does g.B.Blocks.holds g.B.Scorer.score_of c.args.blocks.now c.args.tag c.args.self.now
    c.args.self.now c.args.out.now c.change.result _ (c.change.ensures c.args.tag c.args.out.now))

pub returns-in-Write : goal.returns-in-Write
returns-in-Write g c =
    subst (λ (r : Request). Handles g.B.Blocks.does g.B.Blocks.holds g.B.Scorer.score_of
    c.args.blocks.now c.args.blocks.now c.args.tag c.args.self.now c.args.self.now c.args.out.now c.change-in-Write.result
    (answer_agreed c.args.self.now c.args.msize (message_of r))) (sym c.in-Write.is)
    (settles g.B.Blocks.does g.B.Blocks.holds g.B.Scorer.score_of c.args.blocks.now c.args.tag c.args.self.now
    c.args.self.now c.args.out.now c.change-in-Write.result _ (c.change-in-Write.ensures c.args.tag c.args.out.now))

pub returns-in-Wstat : goal.returns-in-Wstat
returns-in-Wstat g c =
    subst (λ (r : Request). Handles g.B.Blocks.does g.B.Blocks.holds g.B.Scorer.score_of
    c.args.blocks.now c.args.blocks.now c.args.tag c.args.self.now c.args.self.now c.args.out.now c.change-in-Wstat.result
    (answer_agreed c.args.self.now c.args.msize (message_of r))) (sym c.in-Wstat.is)
    (settles g.B.Blocks.does g.B.Blocks.holds g.B.Scorer.score_of c.args.blocks.now c.args.tag c.args.self.now
    c.args.self.now c.args.out.now c.change-in-Wstat.result _ (c.change-in-Wstat.ensures c.args.tag c.args.out.now))

pub returns-in-Read : goal.returns-in-Read
returns-in-Read g c =
    subst (λ (r : Request). Handles g.B.Blocks.does g.B.Blocks.holds g.B.Scorer.score_of
    c.args.blocks.now c.read.new.blocks c.args.tag c.args.self.now c.read.new.self c.read.new.out
    c.read.result (answer_agreed c.args.self.now c.args.msize (message_of r))) (sym c.in-Read.is)
    c.read.ensures

pub returns-in-Clunk : goal.returns-in-Clunk
returns-in-Clunk g c =
    subst (λ (r : Request). Handles g.B.Blocks.does g.B.Blocks.holds g.B.Scorer.score_of
    c.args.blocks.now c.args.blocks.now c.args.tag c.args.self.now c.clunk.new.self c.clunk.new.out c.clunk.result
    (answer_agreed c.args.self.now c.args.msize (message_of r))) (sym c.in-Clunk.is)
    (settles g.B.Blocks.does g.B.Blocks.holds g.B.Scorer.score_of c.args.blocks.now c.args.tag c.args.self.now
    c.clunk.new.self c.clunk.new.out c.clunk.result _ c.clunk.ensures)

pub returns-in-Remove : goal.returns-in-Remove
returns-in-Remove g c =
    subst (λ (r : Request). Handles g.B.Blocks.does g.B.Blocks.holds g.B.Scorer.score_of
    c.args.blocks.now c.args.blocks.now c.args.tag c.args.self.now c.remove.new.self c.args.out.now c.remove.result
    (answer_agreed c.args.self.now c.args.msize (message_of r))) (sym c.in-Remove.is)
    (settles g.B.Blocks.does g.B.Blocks.holds g.B.Scorer.score_of c.args.blocks.now c.args.tag c.args.self.now
    c.remove.new.self c.args.out.now c.remove.result _ (c.remove.ensures c.args.tag c.args.out.now))

pub returns-in-Stat : goal.returns-in-Stat
returns-in-Stat g c =
    subst (λ (r : Request). Handles g.B.Blocks.does g.B.Blocks.holds g.B.Scorer.score_of
    c.args.blocks.now c.args.blocks.now c.args.tag c.args.self.now c.args.self.now c.stat.new.out c.stat.result
    (answer_agreed c.args.self.now c.args.msize (message_of r))) (sym c.in-Stat.is)
    (settles g.B.Blocks.does g.B.Blocks.holds g.B.Scorer.score_of c.args.blocks.now c.args.tag c.args.self.now
    c.args.self.now c.stat.new.out c.stat.result _ c.stat.ensures)
