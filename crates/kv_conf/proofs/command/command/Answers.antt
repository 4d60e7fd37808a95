use Rattle.std.proofs.Common.{ap₂, ◌∙◌}
use Rattle.std.proofs.lemmas.Result.{IfOk-weaker}
use Rattle.clap.specs.Words.{AddsSubcommand}
use Rattle.clap.specs.declared.builder.command.Command.{Command}
use Rattle.kv_conf.specs.Parsed.{with_program}
use Rattle.kv_conf.proofs.command.command.Goals as goal

pub returns : goal.returns
returns c =
    let one = c.in_ok-subcommand.ensures.shape c.in_ok-script.ensures.local ∙ ap₂ with_program c.bare.ensures c.in_ok-script.ensures.shape in
    let two = c.in_ok-subcommand-2.ensures.shape c.in_ok-drill.ensures.local ∙ ap₂ with_program one c.in_ok-drill.ensures.shape in
    let three = c.in_ok-subcommand-3.ensures.shape c.in_ok-load.ensures.local ∙ ap₂ with_program two c.in_ok-load.ensures.shape in
    IfOk-weaker c.subcommand-4.result _ _
    (λ (r : Command) (h : AddsSubcommand c.in_ok-subcommand-3.field-0 c.in_ok-serve.serve r). h.shape c.in_ok-serve.ensures.local ∙ ap₂ with_program three c.in_ok-serve.ensures.shape)
    c.subcommand-4.ensures
