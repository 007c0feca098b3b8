use Rattle.std.proofs.Common.{[], ◌∙◌}
use Rattle.process_terms.specs.PlainProcesses.{plain_label}
use Rattle.lps_printer.proofs.PrintedTexts.{IsWriter, label_printed}
use Rattle.lps_printer.proofs.printing.print_label.Goals as goal

pub returns : goal.returns
returns c =
    let w : IsWriter c.new-writer.result c.args.sig.now c.args.pool.now [] [] [] = record {
      sig = c.new-writer.ensures.sig;
      pool = c.new-writer.ensures.pool;
      functions = c.new-writer.ensures.functions ∙ c.as_slice.ensures.value ∙ c.in_ok-functions.ensures;
      constants = c.new-writer.ensures.constants;
      actions = c.new-writer.ensures.actions ∙ c.as_slice-2.ensures.value ∙ c.in_ok-actions.ensures;
      process = c.new-writer.ensures.process;
      params = c.new-writer.ensures.params;
    } in
    record { written = label_printed c.names.ensures.stands w (plain_label c.args.label.now) c.new-text.result.items c.label.new.out.items c.requires c.new-text.ensures.items c.in_ok-label.ensures }
