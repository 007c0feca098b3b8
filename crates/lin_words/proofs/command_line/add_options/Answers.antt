use Rattle.std.proofs.Common.{◌∙◌, ap, codes}
use Rattle.std.proofs.lemmas.Result.{IfOk-weaker}
use Rattle.clap.specs.Words.{App, Text, with_rule}
use Rattle.lin_words.specs.CommandLine.{option}
use Rattle.lin_words.proofs.command_line.add_options.Goals as goal

with_option : Text → App → App
with_option id a = with_rule a (option id)

pub returns : goal.returns
unfolding with_option
returns c =
    let ending = c.in_ok-command-2.ensures ∙ ap (with_option (codes "ending")) c.in_ok-command.ensures in
    let invariant = c.in_ok-command-3.ensures ∙ ap (with_option (codes "invariant")) ending in
    IfOk-weaker c.add_option-3.result _ _ (λ m same. same ∙ ap (with_option (codes "after")) invariant) c.add_option-3.ensures
