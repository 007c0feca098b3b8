use Rattle.std.proofs.Common.{length, sym, ap, ◌∙◌, arith}
use Rattle.bisim_laws.specs.LinearProcesses.{is_true}
use Rattle.lps_printer.specs.CodeWordings.{application_by}
use Rattle.lps_printer.proofs.CodeTerms.{node_by, term_is, application_fits}
use Rattle.lps_printer.proofs.CodeForms.{has_word}
use Rattle.lps_printer.proofs.CodeActions.{none_of, some_of}
use Rattle.lps_printer.proofs.Truths.{some_not_true, word_true, declared_not_true}
use Rattle.lps_printer.proofs.term_writer.TermWriter.is_true.Goals as goal

pub returns-then-not-is_empty : goal.returns-then-not-is_empty
returns-then-not-is_empty c =
    let self = c.args.self.now in
    let node = c.node-node.result.now in
    let here = node_by self c.args.id node _ c.node-node.ensures.tree c.node-node.ensures.below c.requires c.in-Fun.is in
    let some = some_of c.as_slice-args.result.now (sym c.is_empty.ensures ∙ c.if-not-is_empty.true) in
    some_not_true self c.in-Fun.fun c.as_slice-args.result.now (λ e. absurd (omega (arith, some, ap length e)))
    ∙ ap (λ ys. is_true (application_by self c.in-Fun.fun ys)) c.as_slice-args.ensures.value ∙ ap is_true (sym (term_is self c.args.id _ node.args.items here))

pub word_of-requires : goal.word_of-requires
word_of-requires c =
    let self = c.args.self.now in
    let node = c.node-node.result.now in
    (application_fits self c.args.id c.in-Fun.fun node.args.items (node_by self c.args.id node _ c.node-node.ensures.tree c.node-node.ensures.below c.requires c.in-Fun.is)).known

pub returns-in-Some : goal.returns-in-Some
returns-in-Some c =
    let self = c.args.self.now in
    let node = c.node-node.result.now in
    let here = node_by self c.args.id node _ c.node-node.ensures.tree c.node-node.ensures.below c.requires c.in-Fun.is in
    let none = sym c.as_slice-args.ensures.value ∙ none_of c.as_slice-args.result.now (sym c.is_empty.ensures ∙ c.if-not-is_empty.false) in
    let known = (application_fits self c.args.id c.in-Fun.fun node.args.items here).known in
    c.is_truth.ensures
    ∙ word_true self c.names.ensures.stands.table c.in-Fun.fun node.args.items c.in-Some.word (has_word self c.in-Fun.fun c.word_of.result c.in-Some.word known c.word_of.ensures c.in-Some.is) none
    ∙ ap is_true (sym (term_is self c.args.id _ node.args.items here))

pub returns-in-None : goal.returns-in-None
returns-in-None c =
    let self = c.args.self.now in
    let node = c.node-node.result.now in
    let here = node_by self c.args.id node _ c.node-node.ensures.tree c.node-node.ensures.below c.requires c.in-Fun.is in
    let none = sym c.as_slice-args.ensures.value ∙ none_of c.as_slice-args.result.now (sym c.is_empty.ensures ∙ c.if-not-is_empty.false) in
    let known = (application_fits self c.args.id c.in-Fun.fun node.args.items here).known in
    declared_not_true self c.names.ensures.stands.table c.in-Fun.fun node.args.items known c.word_of.result c.word_of.ensures c.in-None.is none
    ∙ ap is_true (sym (term_is self c.args.id _ node.args.items here))
