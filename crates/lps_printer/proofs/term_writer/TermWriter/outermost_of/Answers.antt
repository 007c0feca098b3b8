use Rattle.lps_printer.proofs.CodeForms.{plain_outermost}
use Rattle.lps_printer.proofs.term_writer.TermWriter.outermost_of.Goals as goal

pub returns : goal.returns
returns c = λ w k.
    plain_outermost c.args.self.now c.names.ensures.stands.table c.args.fun c.args.args.now c.args.word c.requires.word c.args_of.result.now c.args_of.ensures c.requires.no_empty_list c.requires.no_element w c.form_of-form.result c.outermost.result c.form_of-form.ensures c.outermost.ensures
