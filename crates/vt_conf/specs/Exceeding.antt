-- Why a keyword may not stand on one line more.
use Rattle.std.specs.Prelude.{if◌then◌else◌}
use Rattle.vt_conf.specs.declared.keyword.Keyword.{Keyword}
use Rattle.vt_conf.specs.declared.error.ConfCause.{ConfCause}
use Rattle.vt_conf.specs.declared.error.ConfCause.TheVariants.{Repeated, TooMany}
use Rattle.vt_conf.specs.Keywords.{is_file}

-- of what names one file of several there are too many, and else the line is repeated
abbrev pub exceeded_by : Keyword → ConfCause
exceeded_by keyword = if is_file keyword then TooMany else Repeated
