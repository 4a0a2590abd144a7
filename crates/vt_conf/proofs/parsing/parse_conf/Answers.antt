use Rattle.std.proofs.Common.{List, sym, subst}
use Rattle.vt_conf.specs.declared.setting.Setting.{Setting}
use Rattle.vt_conf.specs.Configuration.{line_entries}
use Rattle.vt_conf.specs.Parsing.{HaveValues}
use Rattle.vt_conf.proofs.LineSettings.{values_of_set}
use Rattle.vt_conf.proofs.parsing.parse_conf.Goals as goal

pub conf_of-requires : goal.conf_of-requires
conf_of-requires c =
    let items : List Setting = c.in_ok-settings.settings.items in
    let values : HaveValues items = values_of_set (line_entries c.args.text.now) items c.in_ok-settings.ensures.ok.set in
    subst HaveValues (sym c.as_slice-settings.ensures.value) values
