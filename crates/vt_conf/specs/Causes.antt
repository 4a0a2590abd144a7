-- The texts of the causes for which a configuration is refused.
use Rattle.std.specs.Prelude.{ℕ, List, codes}
use Rattle.vt_conf.specs.declared.error.ConfCause.{ConfCause}
use Rattle.vt_conf.specs.declared.error.ConfCause.TheVariants.{NotUtf8, CarriageReturn, TooLong, UnknownName, MissingValue, ExtraValue, BadSize, BadAddress, Repeated, TooMany, NoArenas, NoSections}

-- the text that tells why a line is refused
abbrev pub cause_text : ConfCause → List ℕ
cause_text NotUtf8 = codes "not utf-8"
cause_text CarriageReturn = codes "ends with a carriage return"
cause_text TooLong = codes "too long"
cause_text UnknownName = codes "unknown name"
cause_text MissingValue = codes "missing value"
cause_text ExtraValue = codes "extra value"
cause_text BadSize = codes "bad size"
cause_text BadAddress = codes "bad address"
cause_text Repeated = codes "repeated"
cause_text TooMany = codes "too many"
cause_text NoArenas = codes "no arenas"
cause_text NoSections = codes "no sections"
