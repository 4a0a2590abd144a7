-- each setting that a parse reads
use Rattle.std.proofs.Common.{true, ap, ◌∙◌}
use Rattle.clap.specs.Simple.{app_of_fields, on_top}
use Rattle.vt_cli.proofs.venti.program.Goals as goal

pub returns : goal.returns
returns c =
    let named = ap app_of_fields c.about.ensures ∙ c.new.ensures.app in
    let versioned = ap app_of_fields c.version.ensures
    ∙ ap (on_top (λ s. record s { has_version = true })) named in
    let helped = ap app_of_fields c.after_help.ensures ∙ versioned in
    let bare = ap app_of_fields c.no_binary_name.ensures
    ∙ ap (on_top (λ s. record s { no_binary_name = true })) helped in
    let without = ap app_of_fields c.disable_help_subcommand.ensures
    ∙ ap (on_top (λ s. record s { disable_help_subcommand = true })) bare in
    let wanting = ap app_of_fields c.subcommand_required.ensures
    ∙ ap (on_top (λ s. record s { subcommand_required = true })) without in
    ap app_of_fields c.arg_required_else_help.ensures
    ∙ ap (on_top (λ s. record s { arg_required_else_help = true })) wanting
