use Rattle.std.proofs.Common.{sym, ◌∙◌, map}
use Rattle.std.specs.Prelude.{option_map}
use Rattle.std.proofs.lemmas.Option.{none-some}
use Rattle.process_terms.specs.PlainProcesses as code
use Rattle.sort_table.specs.NamedLists.{all_named}
use Rattle.sort_table.specs.SignatureVocabularies.{vocabulary_of}
use Rattle.data_typing.specs.CodeWords.{scope_of}
use Rattle.data_typing.specs.Meanings.{typing_in}
use Rattle.data_typing.specs.Readings.{bare_trees}
use Rattle.sort_checker.specs.PartTypings.{action_of}
use Rattle.sort_checker.specs.SortedActions.{sorts_of}
use Rattle.sort_checker.proofs.Adding.{goes_nowhere}
use Rattle.sort_checker.proofs.FirstActions.{the_chosen, none_was_chosen, action_seen}
use Rattle.sort_checker.proofs.LabelsOver.{taken_is_wished}
use Rattle.sort_checker.proofs.closed_labels.action_over.Goals as goal

pub returns-in_err-found-clause-kept : goal.returns-in_err-found-clause-kept
returns-in_err-found-clause-kept c = goes_nowhere c.args.sig.now c.args.pool.now

pub returns-in_default-clause-kept : goal.returns-in_default-clause-kept
returns-in_default-clause-kept c = goes_nowhere c.args.sig.now c.args.pool.now

pub returns-in_default-clause-means : goal.returns-in_default-clause-means
returns-in_default-clause-means c = λ v s sees. λ a e fits in_.
    let g = c.args.sig.now in
    let x = c.args.name.now.bytes.items in
    let ts = map (typing_in (vocabulary_of g) (scope_of g.texts c.args.scope.now)) (bare_trees c.args.arguments.now) in
    none-some a (sym (action_seen g c.args.scope.now v s sees x (bare_trees c.args.arguments.now) ∙ none_was_chosen g x ts c.in_ok-found.found c.in_default.is c.in_ok-found.ensures) ∙ e)

pub taken_over-requires-clause-ready : goal.taken_over-requires-clause-ready
taken_over-requires-clause-ready c = (c.args.scope.now, c.requires.ready)

pub taken_over-requires-clause-chosen : goal.taken_over-requires-clause-chosen
taken_over-requires-clause-chosen c =
    let g = c.args.sig.now in
    let x = c.args.name.now.bytes.items in
    let ts = map (typing_in (vocabulary_of g) (scope_of g.texts c.args.scope.now)) (bare_trees c.args.arguments.now) in
    let is = the_chosen g x ts c.in_ok-found.found c.in-Some.chosen c.in-Some.is c.in_ok-found.ensures in (x, ts, is.terms, is.chosen)

pub returns-clause-ready : goal.returns-clause-ready
returns-clause-ready c = c.in_ok-made.ensures.ready c.args.scope.now c.requires.ready

pub returns-clause-means : goal.returns-clause-means
returns-clause-means c = λ v s sees.
    let g = c.args.sig.now in
    let x = c.args.name.now.bytes.items in
    let ts = map (typing_in (vocabulary_of g) (scope_of g.texts c.args.scope.now)) (bare_trees c.args.arguments.now) in
    let is = the_chosen g x ts c.in_ok-found.found c.in-Some.chosen c.in-Some.is c.in_ok-found.ensures in
    taken_is_wished g c.taken_over.new.pool (action_of x (map (typing_in v s) (bare_trees c.args.arguments.now)) (all_named x v.actions)) (record { name = x; sorts = sorts_of c.in-Some.chosen.action.now; args = is.terms })
    (action_seen g c.args.scope.now v s sees x (bare_trees c.args.arguments.now) ∙ is.action) (option_map code.plain_action c.in_ok-made.made) (c.in_ok-made.ensures.means x ts is.terms is.chosen)
