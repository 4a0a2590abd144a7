-- Why files aren't read.
use Rattle.std.specs.Prelude.{Bool, true, false}
use Rattle.vt_out.specs.declared.files.OutErr.{OutErr}
use Rattle.vt_out.specs.declared.files.OutErr.TheVariants.{Failed, NoMemory}

-- a failed call is a fault, and want of memory isn't
abbrev pub is_fault : OutErr → Bool
is_fault Failed = true
is_fault NoMemory = false
