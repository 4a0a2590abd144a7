use Rattle.std.proofs.Common.{◌≢◌, take}
use Rattle.std.specs.List.{Contains}
use Rattle.vt_isect.specs.declared.groups.Member.{Member}
use Rattle.vt_isect.proofs.groups.member_of.Given as goal

abbrev pub invariant-loop-member : goal.invariant-loop-member
invariant-loop-member l = (member : Member) → Contains (take l.member-index l.group) member → member.bucket ≢ l.bucket
