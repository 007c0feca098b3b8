use Rattle.std.proofs.Common.{◌∙◌, ap}
use Rattle.std.proofs.lemmas.Result.{IfOk-weaker}
use Rattle.lin_words.specs.CommandLine.{command_line, with_options, with_positionals}
use Rattle.lin_words.proofs.command_line.program.Goals as goal

pub returns : goal.returns
unfolding command_line
returns c =
    IfOk-weaker c.add_options.result _ _ (λ m same. same ∙ ap with_options (c.in_ok-command.ensures ∙ ap with_positionals c.bare.ensures)) c.add_options.ensures
