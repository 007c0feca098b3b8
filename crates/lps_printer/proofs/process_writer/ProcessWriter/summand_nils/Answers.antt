use Rattle.std.proofs.Common.{sym, map, subst, ap}
use Rattle.std.specs.List.{All}
use Rattle.std.proofs.lemmas.Result.{on_ok_weaker}
use Rattle.process_terms.specs.Meanings.{label_of}
use Rattle.process_terms.specs.PlainProcesses.{plain_action}
use Rattle.lps_printer.specs.CodeProcesses.{entries_by, IsActionBy}
use Rattle.lps_printer.specs.TextWordings.{of_terms}
use Rattle.lps_printer.specs.NeededConstants.{label_nils}
use Rattle.lps_printer.proofs.NeededConstants.{both_found, found_same}
use Rattle.lps_printer.proofs.NeededTexts.{condition_nils}
use Rattle.lps_printer.proofs.process_writer.ProcessWriter.summand_nils.Goals as goal

pub label_nils-requires : goal.label_nils-requires
label_nils-requires c = subst (λ xs. All (IsActionBy c.args.self.now) (map plain_action xs)) (sym c.as_slice.ensures.value) c.requires.label

pub returns : goal.returns
returns c =
    let self = c.args.self.now in
    on_ok_weaker c.next_nils.result (λ p t k.
    both_found (found_same (condition_nils self t c.args.summand.now.cond c.requires.condition) (c.in_ok-nils.ensures (of_terms t) k.terms))
    (both_found (found_same (ap (λ xs. label_nils t.names (label_of (entries_by self) (map plain_action xs))) c.as_slice.ensures.value) (c.in_ok-label_nils.ensures t k)) (p t k))) c.next_nils.ensures
