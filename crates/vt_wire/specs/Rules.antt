-- The texts of the Rerrors (venti(6)) that the rules of a session give. The words are this project's.
use Rattle.std.specs.Prelude.{ℕ, List, codes}
use Rattle.vt_wire.specs.declared.protocol_cause.ProtocolCause.{ProtocolCause}
use Rattle.vt_wire.specs.declared.protocol_cause.ProtocolCause.TheVariants.{HelloExpected, HelloRepeated, VersionNotAgreed, BadMessage, UnknownMessage}

-- the text that tells which rule was broken
abbrev pub rule_words : ProtocolCause → List ℕ
rule_words HelloExpected = codes "hello expected"
rule_words HelloRepeated = codes "hello repeated"
rule_words VersionNotAgreed = codes "version not agreed"
rule_words BadMessage = codes "bad message"
rule_words UnknownMessage = codes "unknown message"
