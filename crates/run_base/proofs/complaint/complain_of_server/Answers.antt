-- the line is that of the branch that was taken
use Rattle.run_base.proofs.complaint.complain_of_server.Goals as goal

pub returns-in_default : goal.returns-in_default
returns-in_default g c tells = rw c.in_default.is (c.complain.ensures tells)

pub returns-in-ReadFault : goal.returns-in-ReadFault
returns-in-ReadFault g c tells = rw (c.in-Refused.is, c.in-ReadFault.is) (c.complain-in-ReadFault.ensures tells)

pub returns-in-WriteFault : goal.returns-in-WriteFault
returns-in-WriteFault g c tells = rw (c.in-Refused.is, c.in-WriteFault.is) (c.complain-in-WriteFault.ensures tells)

pub returns-in-NoMemory : goal.returns-in-NoMemory
returns-in-NoMemory g c tells = rw (c.in-Refused.is, c.in-NoMemory.is) (c.complain-in-NoMemory.ensures tells)

pub returns-in-Cut : goal.returns-in-Cut
returns-in-Cut g c tells = rw (c.in-Refused.is, c.in-Cut.is) (c.complain-in-Cut.ensures tells)

pub returns-in-BadReply : goal.returns-in-BadReply
returns-in-BadReply g c tells = rw (c.in-Refused.is, c.in-BadReply.is) (c.complain-in-BadReply.ensures tells)

pub returns-in-NoVersion : goal.returns-in-NoVersion
returns-in-NoVersion g c tells = rw (c.in-Refused.is, c.in-NoVersion.is) (c.complain-in-NoVersion.ensures tells)

pub returns-in-Spent : goal.returns-in-Spent
returns-in-Spent g c tells = rw (c.in-Refused.is, c.in-Spent.is) (c.complain-in-Spent.ensures tells)

pub returns-in-WrongScore : goal.returns-in-WrongScore
returns-in-WrongScore g c tells =
    rw (c.in-Refused.is, c.in-WrongScore.is) (c.complain_of_scores.ensures tells)

pub returns-in-Remote : goal.returns-in-Remote
returns-in-Remote g c tells =
    rw (c.in-Refused.is, c.in-Remote.is) (rw c.as_slice.ensures at (c.complain-in-Remote.ensures tells))
