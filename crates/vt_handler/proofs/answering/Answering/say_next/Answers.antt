-- what comes next is answered, and passed
use Rattle.std.proofs.Common.{Some, ap}
use Rattle.vt_handler.proofs.Links.{next_advances, next_ends}
use Rattle.vt_handler.proofs.answering.Answering.say_next.Goals as goal

pub returns-clause-advances : goal.returns-clause-advances
returns-clause-advances g c =
    next_advances g.T.Store c.args.store.now c.say-ended.new.store c.args.self.now
    c.say-ended.new.self c.args.talker.now.stage c.pass.new.self.stage c.in-Some.next
    (c.pass.ensures.passes c.in-Some.next c.in-Some.ensures.next) c.say-ended.ensures.answers
    c.say-ended.ensures.says

pub returns-clause-ends : goal.returns-clause-ends
returns-clause-ends g c =
    next_ends c.in-Some.next c.say-ended.result c.args.talker.now.stage c.pass.new.self
    (c.pass.ensures.passes c.in-Some.next c.in-Some.ensures.next) c.say-ended.ensures.end
    (λ ended is. c.in-Some.ensures.end ended (ap Some is))
