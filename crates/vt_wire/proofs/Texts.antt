-- The texts of Rerrors can stand in a string.
use Rattle.std.proofs.Common.{◌≡◌, ◌≤◌, nat_lt, true, List, ℕ, length, refl, arith}
use Rattle.std.specs.Prelude.{codes}
use Rattle.std.specs.List.{list_all}
use Rattle.std.proofs.lemmas.Bool.Decides.{nat_tests}
use Rattle.std.proofs.lemmas.List.Sums.{AllPass-from_list_all}
use Rattle.vt_base.specs.Protocol.{r_error, r_refused}
use Rattle.vt_base.specs.declared.why.Why.{Why}
use Rattle.vt_base.specs.declared.why.Why.TheVariants as why
use Rattle.vt_wire.specs.Fields.{IsText}
use Rattle.vt_wire.specs.Messages.{FitsReply}
use Rattle.vt_wire.specs.Rules.{rule_words}
use Rattle.vt_wire.specs.declared.protocol_cause.ProtocolCause.{ProtocolCause}
use Rattle.vt_wire.specs.declared.protocol_cause.ProtocolCause.TheVariants as rules

-- by computation, for a text that is known
pub text_tested : (bytes : List ℕ) → length bytes ≤ 1024 → list_all (nat_lt 0) bytes ≡ true
    → IsText bytes
text_tested bytes short all =
    let each = AllPass-from_list_all (nat_lt 0) bytes all in
    record { short = short; nonzero = λ k d lt is. let above = each k d lt in grind (arith, nat_tests) }

pub why_fits : (w : Why) → FitsReply (r_refused w)
why_fits why.BadType = text_tested (codes "bad type") (omega arith) refl
why_fits why.TooBig = text_tested (codes "block too big") (omega arith) refl
why_fits why.TooSmall = text_tested (codes "count too small") (omega arith) refl
why_fits why.Absent = text_tested (codes "no such block") (omega arith) refl
why_fits why.Collision = text_tested (codes "score collision") (omega arith) refl
why_fits why.IndexFull = text_tested (codes "index full") (omega arith) refl
why_fits why.ArenasFull = text_tested (codes "arenas full") (omega arith) refl
why_fits why.DiskFault = text_tested (codes "disk fault") (omega arith) refl
why_fits (why.Stopped first) = text_tested (codes "store stopped") (omega arith) refl
why_fits (why.Damaged site want found) = text_tested (codes "block damaged") (omega arith) refl
why_fits why.NoMemory = text_tested (codes "no memory") (omega arith) refl

pub rule_fits : (rule : ProtocolCause) → FitsReply (r_error (rule_words rule))
rule_fits rules.HelloExpected = text_tested (codes "hello expected") (omega arith) refl
rule_fits rules.HelloRepeated = text_tested (codes "hello repeated") (omega arith) refl
rule_fits rules.VersionNotAgreed = text_tested (codes "version not agreed") (omega arith) refl
rule_fits rules.BadMessage = text_tested (codes "bad message") (omega arith) refl
rule_fits rules.UnknownMessage = text_tested (codes "unknown message") (omega arith) refl
