use Rattle.std.proofs.Common.{subst}
use Rattle.data_theory.specs.Terms.{Sort}
use Rattle.data_theory.specs.IdTerms.{sort_under}
use Rattle.mcrl2_syntax.specs.DataTrees.{plain_data}
use Rattle.sort_table.specs.BareData.{bare_data}
use Rattle.sort_table.specs.SignatureVocabularies.{vocabulary_of}
use Rattle.data_typing.specs.CodeWords as code
use Rattle.data_typing.specs.Meanings.{Scope, typing_in}
use Rattle.data_typing.specs.StandingSorts.{IsFoundIn}
use Rattle.data_typing.proofs.ReadableWords.{data_are_readable}
use Rattle.sort_checker.proofs.Adding.{goes_nowhere}
use Rattle.sort_checker.proofs.DataOver.{data_found}
use Rattle.sort_checker.proofs.LabelsOver.{goes_over}
use Rattle.sort_checker.proofs.typed_data.typed_data.Goals as goal

pub returns-in_err-tables-clause-kept : goal.returns-in_err-tables-clause-kept
returns-in_err-tables-clause-kept c = goes_nowhere c.args.sig.now c.args.pool.now

pub returns-in_err-variables-clause-kept : goal.returns-in_err-variables-clause-kept
returns-in_err-variables-clause-kept c = goes_nowhere c.args.sig.now c.args.pool.now

pub read_expression-requires-clause-tree : goal.read_expression-requires-clause-tree
read_expression-requires-clause-tree c = data_are_readable (plain_data c.args.tree.now) c.requires.words

pub returns-in_err-reading-clause-kept : goal.returns-in_err-reading-clause-kept
returns-in_err-reading-clause-kept c = goes_nowhere c.args.sig.now c.args.pool.now

pub term_over-requires-clause-reading : goal.term_over-requires-clause-reading
term_over-requires-clause-reading c = c.in_ok-reading.ensures.over

pub term_over-requires-clause-wanted : goal.term_over-requires-clause-wanted
term_over-requires-clause-wanted c = c.flat.ensures.within c.args.sig.now c.in_ok-tables.ensures c.requires.sort

pub returns-in_err-term-clause-kept : goal.returns-in_err-term-clause-kept
returns-in_err-term-clause-kept c = goes_over c.args.sig.now c.args.pool.now c.term_over.new.pool c.term_over.ensures.kept c.term_over.ensures.constants

pub returns-clause-kept : goal.returns-clause-kept
returns-clause-kept c = goes_over c.args.sig.now c.args.pool.now c.term_over.new.pool c.term_over.ensures.kept c.term_over.ensures.constants

pub returns-clause-means : goal.returns-clause-means
returns-clause-means c =
    let g = c.args.sig.now in
    let trees = c.term_over.new.pool.trees in
    let expression = bare_data (plain_data c.args.tree.now) in
    let scope : Scope = code.scope_of g.texts c.in_ok-variables.variables in
    let found = c.in_ok-term.ensures.means (typing_in (vocabulary_of g) scope expression) c.in_ok-reading.ensures in
    data_found g c.next_sort.ensures.stands c.args.scope.now c.requires.scope c.args.sort c.requires.sort (plain_data c.args.tree.now) c.requires.words c.term_over.new.pool c.in_ok-term.ensures.trees c.in_ok-term.term c.in_ok-term.ensures.within
    (subst (λ (s : Scope). IsFoundIn g trees ((typing_in (vocabulary_of g) s expression).checks (sort_under g c.args.sort)) c.in_ok-term.term) c.in_ok-variables.ensures.means
    (subst (λ (s : Sort). IsFoundIn g trees ((typing_in (vocabulary_of g) scope expression).checks s) c.in_ok-term.term) (c.flat.ensures.means g c.in_ok-tables.ensures c.requires.sort) found))
