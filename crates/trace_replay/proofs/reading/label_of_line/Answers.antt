use Rattle.std.proofs.Common.{[], ◌≡◌}
use Rattle.mcrl2_syntax.specs.ProcessParts.{label_of}
use Rattle.mcrl2_syntax.proofs.WordsOfTokens.{labels_are_of_words}
use Rattle.mcrl2_parser.specs.declared.label_line.LabelFault.TheVariants.{NotALabel}
use Rattle.mcrl2_parser.proofs.LabelLines.{given_fault}
use Rattle.sort_checker.proofs.Adding.{goes_nowhere}
use Rattle.trace_replay.proofs.ReadLemmas.{unread_spells_none, untyped_spells_none}
use Rattle.trace_replay.proofs.reading.label_of_line.Goals as goal

pub returns-in_err-tree-clause-kept : goal.returns-in_err-tree-clause-kept
returns-in_err-tree-clause-kept c = goes_nowhere c.args.sig.now c.args.pool.now

pub returns-in_err-tree-clause-not_a_label : goal.returns-in_err-tree-clause-not_a_label
returns-in_err-tree-clause-not_a_label c = λ is.
    let same : c.in_err-tree.field-0.0 ≡ NotALabel = given_fault c.from_residual.result c.from_residual.ensures.1 is in unread_spells_none c.args.sig.now c.args.line.now (c.in_err-tree.ensures.not_a_label (cc same))

pub elaborate_label-requires-clause-words : goal.elaborate_label-requires-clause-words
elaborate_label-requires-clause-words c = let line = c.in_ok-tree.ensures.found in labels_are_of_words c.args.line.now (label_of c.in_ok-tree.tree) line.tokens [] line.has_tokens line.spelled

pub returns-clause-not_a_label : goal.returns-clause-not_a_label
returns-clause-not_a_label c = λ is. untyped_spells_none c.args.sig.now c.args.line.now (label_of c.in_ok-tree.tree) c.in_ok-tree.ensures.single (c.elaborate_label.ensures.not_a_label is)
