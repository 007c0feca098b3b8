use Rattle.std.proofs.Common.{rules}
use Rattle.process_terms.specs.PlainProcesses.{plain_label}
use Rattle.lin_tasks.proofs.ShownLines.{label_pushed}
use Rattle.lin_tasks.proofs.option_texts.push_label.Goals as goal

pub returns : goal.returns
returns c =
    label_pushed c.args.sig.now c.args.pool.now.trees (plain_label c.args.label.now) c.args.text.now.items c.push_line.new.text.items c.in_ok-shown.shown.items c.in_ok-shown.ensures.written (search rules)
