-- as clap's rows have it
use Rattle.std.proofs.Common.{Some, ap, ◌∙◌}
use Rattle.clap.specs.Words.{found_of}
use Rattle.clap.proofs.WalkLemmas.{first_value-rows}
use Rattle.vt_cli.proofs.command.value_of.Goals as goal

pub returns-in_default : goal.returns-in_default
returns-in_default c = c.in_default.ensures ∙ first_value-rows (found_of c.args.found.now) c.args.id.now

pub returns : goal.returns
returns c =
    ap Some (c.in_ok-copy_of.ensures ∙ c.as_bytes.ensures.value) ∙ c.in-Some.ensures
    ∙ first_value-rows (found_of c.args.found.now) c.args.id.now
