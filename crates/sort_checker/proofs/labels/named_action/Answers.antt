use Rattle.std.proofs.Common.{◌∙◌, map}
use Rattle.sort_table.specs.SignatureVocabularies.{vocabulary_of}
use Rattle.data_typing.specs.CodeWords.{scope_of}
use Rattle.data_typing.specs.Meanings.{typing_in}
use Rattle.data_typing.specs.Readings.{bare_trees}
use Rattle.sort_checker.specs.ElaboratedLabels.{no_action, the_action}
use Rattle.sort_checker.specs.SortedActions.{sorts_of}
use Rattle.sort_checker.proofs.Adding.{goes_nowhere}
use Rattle.sort_checker.proofs.FirstActions.{the_chosen, none_was_chosen, action_seen}
use Rattle.sort_checker.proofs.labels.named_action.Goals as goal

pub returns-in_err-found-clause-kept : goal.returns-in_err-found-clause-kept
returns-in_err-found-clause-kept c = goes_nowhere c.args.sig.now c.args.pool.now

pub returns-in_default-clause-kept : goal.returns-in_default-clause-kept
returns-in_default-clause-kept c = goes_nowhere c.args.sig.now c.args.pool.now

pub returns-in_default-clause-means : goal.returns-in_default-clause-means
returns-in_default-clause-means c = λ v s sees.
    let g = c.args.sig.now in
    let x = c.args.name.now.bytes.items in
    let ts = map (typing_in (vocabulary_of g) (scope_of g.texts c.args.scope.now)) (bare_trees c.args.arguments.now) in
    no_action (action_seen g c.args.scope.now v s sees x (bare_trees c.args.arguments.now) ∙ none_was_chosen g x ts c.in_ok-found.found c.in_default.is c.in_ok-found.ensures)

pub taken_action-requires-clause-ready : goal.taken_action-requires-clause-ready
taken_action-requires-clause-ready c = (c.args.scope.now, c.requires.ready)

pub taken_action-requires-clause-chosen : goal.taken_action-requires-clause-chosen
taken_action-requires-clause-chosen c =
    let g = c.args.sig.now in
    let x = c.args.name.now.bytes.items in
    let ts = map (typing_in (vocabulary_of g) (scope_of g.texts c.args.scope.now)) (bare_trees c.args.arguments.now) in
    let is = the_chosen g x ts c.in_ok-found.found c.in-Some.chosen c.in-Some.is c.in_ok-found.ensures in (x, ts, is.terms, is.chosen)

pub returns-clause-ready : goal.returns-clause-ready
returns-clause-ready c = c.in_ok-made.ensures.ready c.args.scope.now c.requires.ready

pub returns-clause-means : goal.returns-clause-means
returns-clause-means c = λ v s sees.
    let g = c.args.sig.now in
    let x = c.args.name.now.bytes.items in
    let ts = map (typing_in (vocabulary_of g) (scope_of g.texts c.args.scope.now)) (bare_trees c.args.arguments.now) in
    let is = the_chosen g x ts c.in_ok-found.found c.in-Some.chosen c.in-Some.is c.in_ok-found.ensures in
    the_action (record { name = x; sorts = sorts_of c.in-Some.chosen.action.now; args = is.terms }) (action_seen g c.args.scope.now v s sees x (bare_trees c.args.arguments.now) ∙ is.action) (c.in_ok-made.ensures.means x ts is.terms is.chosen)
