-- the line is that of the branch that was taken
use Rattle.std.proofs.Common.{◌∙◌}
use Rattle.run_base.proofs.complaint.complain_of.Goals as goal

pub returns-in-BadWords : goal.returns-in-BadWords
returns-in-BadWords g c tells = rw (c.in-Err.is, c.in-BadWords.is) (c.complain.ensures tells)

pub returns-in-NotFormatted : goal.returns-in-NotFormatted
returns-in-NotFormatted g c tells = rw (c.in-Err.is, c.in-NotFormatted.is) (rw c.as_slice.ensures at (c.complain-in-NotFormatted.ensures tells))

pub returns-in-BadConf : goal.returns-in-BadConf
returns-in-BadConf g c tells = rw (c.in-Err.is, c.in-BadConf.is) (c.complain_of_conf.ensures tells)

pub returns-in-SameName : goal.returns-in-SameName
returns-in-SameName g c tells = rw (c.in-Err.is, c.in-SameName.is)
    (rw (c.as_slice-in-SameName.ensures, c.as_slice-in-SameName-2.ensures) at (c.complain-in-SameName.ensures tells))

pub returns-in-TooSmall : goal.returns-in-TooSmall
returns-in-TooSmall g c tells = rw (c.in-Err.is, c.in-TooSmall.is) (rw c.as_slice-in-TooSmall.ensures at (c.complain_of_len.ensures tells))

pub returns-in-DiskFault : goal.returns-in-DiskFault
returns-in-DiskFault g c tells = rw (c.in-Err.is, c.in-DiskFault.is) (c.complain-in-DiskFault.ensures tells)

pub returns-in-BadNumber : goal.returns-in-BadNumber
returns-in-BadNumber g c tells = rw (c.in-Err.is, c.in-BadNumber.is) (c.complain_at.ensures tells)

pub returns-in-BadName : goal.returns-in-BadName
returns-in-BadName g c tells = rw (c.in-Err.is, c.in-BadName.is) (c.complain_at-in-BadName.ensures tells)

pub returns-in-Cut : goal.returns-in-Cut
returns-in-Cut g c tells = rw (c.in-Err.is, c.in-Cut.is) (c.complain_at-in-Cut.ensures tells)

pub returns-in-Malformed : goal.returns-in-Malformed
returns-in-Malformed g c tells = rw (c.in-Err.is, c.in-Malformed.is) (c.complain_at-in-Malformed.ensures tells)

pub returns-in-Spent : goal.returns-in-Spent
returns-in-Spent g c tells = rw (c.in-Err.is, c.in-Spent.is) (c.complain_at-in-Spent.ensures tells)

pub returns-in-ReadFault : goal.returns-in-ReadFault
returns-in-ReadFault g c tells = rw (c.in-Err.is, c.in-ReadFault.is) (c.complain-in-ReadFault.ensures tells)

pub returns-in-FileFault : goal.returns-in-FileFault
returns-in-FileFault g c tells = rw (c.in-Err.is, c.in-FileFault.is) (c.complain-in-FileFault.ensures tells)

pub returns-in-WriteFault : goal.returns-in-WriteFault
returns-in-WriteFault g c tells = rw (c.in-Err.is, c.in-WriteFault.is) (c.complain-in-WriteFault.ensures tells)

pub returns-in-NoMemory : goal.returns-in-NoMemory
returns-in-NoMemory g c tells = rw (c.in-Err.is, c.in-NoMemory.is) (c.complain-in-NoMemory.ensures tells)

pub returns-in-Damaged : goal.returns-in-Damaged
returns-in-Damaged g c tells = rw (c.in-Err.is, c.in-Damaged.is) (c.complain_of_damage.ensures tells)

pub returns-in-BadScore : goal.returns-in-BadScore
returns-in-BadScore g c tells = rw (c.in-Err.is, c.in-BadScore.is) (c.complain_at-in-BadScore.ensures tells)

pub returns-in-BadArchive : goal.returns-in-BadArchive
returns-in-BadArchive g c tells = rw (c.in-Err.is, c.in-BadArchive.is) (c.complain_at-in-BadArchive.ensures tells)

pub returns-in-IndexFull : goal.returns-in-IndexFull
returns-in-IndexFull g c tells = rw (c.in-Err.is, c.in-IndexFull.is) (c.complain-in-IndexFull.ensures tells)

pub returns-in-ArenasFull : goal.returns-in-ArenasFull
returns-in-ArenasFull g c tells = rw (c.in-Err.is, c.in-ArenasFull.is) (c.complain-in-ArenasFull.ensures tells)

pub returns-in-Refused : goal.returns-in-Refused
returns-in-Refused g c tells = rw (c.in-Err.is, c.in-Refused.is)
    (rw (c.as_bytes.ensures.value ∙ c.why_text.ensures) at (c.complain-in-Refused.ensures tells))

pub returns-in-NoBlock : goal.returns-in-NoBlock
returns-in-NoBlock g c tells = rw (c.in-Err.is, c.in-NoBlock.is)
    (rw c.as_slice-in-NoBlock.ensures at (c.complain-in-NoBlock.ensures tells))

pub returns-in-Server : goal.returns-in-Server
returns-in-Server g c tells = rw (c.in-Err.is, c.in-Server.is) (c.complain_of_server.ensures tells)

pub returns-in-TooDeep : goal.returns-in-TooDeep
returns-in-TooDeep g c tells = rw (c.in-Err.is, c.in-TooDeep.is) (c.complain_at-in-TooDeep.ensures tells)

pub returns-in-TooLong : goal.returns-in-TooLong
returns-in-TooLong g c tells = rw (c.in-Err.is, c.in-TooLong.is) (c.complain_at-in-TooLong.ensures tells)

pub returns-in-FolderFault : goal.returns-in-FolderFault
returns-in-FolderFault g c tells = rw (c.in-Err.is, c.in-FolderFault.is) (c.complain-in-FolderFault.ensures tells)
