use Rattle.std.proofs.Common.{Some, ap, sym, ◌∙◌}
use Rattle.std.specs.Prelude.{map}
use Rattle.std.specs.Option.{option_copied}
use Rattle.vt_conf.specs.Configuration.{file_of, first_part_file}
use Rattle.vt_conf.proofs.LineSettings.{first_said, none_said}
use Rattle.vt_conf.proofs.said.first_file.Goals as goal

pub returns-in_ok-file_of-in-Some : goal.returns-in_ok-file_of-in-Some
returns-in_ok-file_of-in-Some c =
    let first = first_said c.args.keyword c.args.settings.now c.in-Some.setting.now (sym (ap option_copied c.in-Some.is) ∙ c.first.ensures) in
    ap Some c.in_ok-file_of-in-Some.ensures ∙ sym (ap (λ l. first_part_file (map file_of l)) first.1)

pub returns-in-None : goal.returns-in-None
returns-in-None c =
    sym (ap (λ l. first_part_file (map file_of l)) (none_said c.args.keyword c.args.settings.now (sym (ap option_copied c.in-None.is) ∙ c.first.ensures)))
