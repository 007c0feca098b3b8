use Rattle.std.proofs.Common.{[], Err, refl, ap}
use Rattle.mcrl2_parser.specs.LabelLines.{of_reading}
use Rattle.mcrl2_parser.proofs.ReadableTexts.{syntax_given, memory_given}
use Rattle.mcrl2_parser.proofs.LabelLines.{label_readable, label_read, by_label, differs, nothing_follows, given_fault}
use Rattle.mcrl2_parser.proofs.label_line.parse_label.Goals as goal

pub returns-in_err-tokens-clause-not_a_label : goal.returns-in_err-tokens-clause-not_a_label
returns-in_err-tokens-clause-not_a_label c = λ n l is.
    let fault = syntax_given of_reading differs c.in_err-tokens.field-0.0 (given_fault c.from_residual.result c.from_residual.ensures.1 n) in
    c.in_err-tokens.ensures.syntax (ap Err fault) is.tokens (label_readable is)

pub returns-in_err-tree-clause-not_a_label : goal.returns-in_err-tree-clause-not_a_label
returns-in_err-tree-clause-not_a_label c = λ n l is.
    memory_given of_reading differs (c.in_err-tree.ensures.only l [] (label_read c.in_ok-tokens.ensures.found.has_tokens c.list.ensures.list is) nothing_follows)
    (given_fault c.from_residual-in_err-tree.result c.from_residual-in_err-tree.ensures.1 n)

pub returns-in_err-end-clause-not_a_label : goal.returns-in_err-end-clause-not_a_label
returns-in_err-end-clause-not_a_label c = λ n l is. c.in_err-end.ensures.none refl (c.in_ok-tree.ensures.only l [] (label_read c.in_ok-tokens.ensures.found.has_tokens c.list.ensures.list is) nothing_follows).1

pub returns-clause-found : goal.returns-clause-found
returns-clause-found c = by_label c.in_ok-tokens.ensures.found c.list.ensures.list c.in_ok-tree.ensures.found c.in_ok-end.ensures.found

pub returns-clause-single : goal.returns-clause-single
returns-clause-single c = λ l is. (c.in_ok-tree.ensures.only l [] (label_read c.in_ok-tokens.ensures.found.has_tokens c.list.ensures.list is) nothing_follows).0
