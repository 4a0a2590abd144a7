-- What makes the calls that are told where they fail.
use Rattle.vt_dial.specs.Dialled.{Dialled, nobody, out, back, more}
use Rattle.vt_told.specs.declared.told.Label.{Label}
use Rattle.vt_told.specs.declared.told.ToldAs.{ToldAs}
use Rattle.vt_told.specs.declared.told.Told.{Told}
use Rattle.vt_told.specs.declared.told_net.ToldNet.{ToldNet}

-- What makes the calls of a told system.
abbrev pub told_calls : {S T : Type 0} → Told S T → S
told_calls told = told.calls

-- What makes the calls that are told under a name.
abbrev pub told_as_calls : {S T : Type 0} → ToldAs S T → S
told_as_calls told = told.calls

-- What makes the connections that are told.
abbrev pub told_connector : {N T : Type 0} → ToldNet N T → N
told_connector told = told.net

-- What became of a connection whose two directions have these labels, where this became of it without
-- them.
abbrev pub labelled : {I O T : Type 0} → (input output : Label T) → Dialled (I × O)
    → Dialled (ToldAs I T × ToldAs O T)
labelled input output nobody = nobody
labelled input output (out to) = out to
labelled input output (back to both) = back to
    (record { calls = both.0; label = input }, record { calls = both.1; label = output })
labelled input output more = more

-- and without them
abbrev pub unlabelled : {I O T : Type 0} → Dialled (ToldAs I T × ToldAs O T) → Dialled (I × O)
unlabelled nobody = nobody
unlabelled (out to) = out to
unlabelled (back to both) = back to (told_as_calls both.0, told_as_calls both.1)
unlabelled more = more
