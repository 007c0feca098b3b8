use Rattle.std.proofs.Common.{◌≡◌, ◌<◌, map, length, sym, subst, ◌∙◌, arith, rules}
use Rattle.std.proofs.lemmas.Grind.{common_steps}
use Rattle.std.proofs.lemmas.Result.{on_ok_weaker}
use Rattle.mcrl2_syntax.specs.Words.{word_of}
use Rattle.mcrl2_syntax.specs.SortTrees.{plain_sort}
use Rattle.mcrl2_syntax.specs.TreeWords.{AreNames}
use Rattle.sort_table.specs.BareProcesses.{bare_names}
use Rattle.sort_table.specs.BareSorts.{bare_sort}
use Rattle.sort_checker.specs.NumberedWords.{StandIn}
use Rattle.sort_checker.specs.CodeContexts.{words_at, EnterBehind}
use Rattle.sort_table.specs.SignatureVocabularies.{vocabulary_of}
use Rattle.sort_checker.proofs.Adding.{goes_nowhere, goes_then}
use Rattle.sort_checker.proofs.EnteringGroups.{lists_alone, ready_with_lists, stand_still, sorts_still, enter_before, words_stand, words_have, none_enter}
use Rattle.sort_checker.proofs.binders.enter_group.Goals as goal

pub returns-then-is_empty-clause-kept : goal.returns-then-is_empty-clause-kept
returns-then-is_empty-clause-kept c = goes_nowhere c.args.sig.now c.args.pool.now

pub returns-then-is_empty-clause-bound : goal.returns-then-is_empty-clause-bound
returns-then-is_empty-clause-bound c =
    let none : length c.args.group.now.names.items ≡ 0 = first_of (search rules, grind (arith, common_steps)) in
    none_enter c.args.sig.now c.args.scope.now c.args.variables.now.items (bare_sort (plain_sort c.args.group.now.sort)) c.args.group.now.names.items none

pub sort_number-requires-clause-sort : goal.sort_number-requires-clause-sort
sort_number-requires-clause-sort c =
    let some : 0 < length c.args.group.now.names.items = first_of (search rules, grind (arith, common_steps)) in
    words_have (vocabulary_of c.args.sig.now) (bare_sort (plain_sort c.args.group.now.sort)) c.args.group.now.names.items some c.requires.sorts

pub go_on-requires : goal.go_on-requires
go_on-requires c = (c.args.sig.now, c.requires.ready.tables, c.in_ok-sort.ensures.added)

pub enter_words-requires-clause-ready : goal.enter_words-requires-clause-ready
enter_words-requires-clause-ready c = ready_with_lists c.args.sig.now c.args.pool.now c.args.tables.now c.args.scope.now c.sort_number.new.sig c.go_on.new.tables c.requires.ready c.sort_number.ensures.added c.in_ok-go_on.ensures

pub enter_words-requires-clause-names : goal.enter_words-requires-clause-names
enter_words-requires-clause-names c = subst (λ ws. AreNames (map word_of ws)) (sym c.as_slice-2.ensures.value) c.requires.group.0

pub enter_words-requires-clause-there : goal.enter_words-requires-clause-there
enter_words-requires-clause-there c =
    subst (λ ws. StandIn c.sort_number.new.sig (bare_names (map word_of ws))) (sym c.as_slice-2.ensures.value)
    (stand_still c.args.sig.now c.requires.ready.signature c.args.pool.now c.sort_number.new.sig (lists_alone c.args.sig.now c.args.pool.now c.sort_number.new.sig c.sort_number.ensures.added) (bare_names (map word_of c.args.group.now.names.items))
    (words_stand c.args.sig.now (bare_sort (plain_sort c.args.group.now.sort)) c.args.group.now.names.items c.requires.there))

pub returns-in_err-sort-clause-kept : goal.returns-in_err-sort-clause-kept
returns-in_err-sort-clause-kept c = lists_alone c.args.sig.now c.args.pool.now c.sort_number.new.sig c.sort_number.ensures.added

pub returns-in_err-go_on-clause-kept : goal.returns-in_err-go_on-clause-kept
returns-in_err-go_on-clause-kept c = lists_alone c.args.sig.now c.args.pool.now c.sort_number.new.sig c.sort_number.ensures.added

pub returns-clause-kept : goal.returns-clause-kept
returns-clause-kept c = goes_then c.args.sig.now c.args.pool.now c.sort_number.new.sig c.args.pool.now c.enter_words.new.sig c.args.pool.now (lists_alone c.args.sig.now c.args.pool.now c.sort_number.new.sig c.sort_number.ensures.added) c.enter_words.ensures.kept

pub returns-clause-bound : goal.returns-clause-bound
returns-clause-bound c =
    let on = lists_alone c.args.sig.now c.args.pool.now c.sort_number.new.sig c.sort_number.ensures.added in
    let e = bare_sort (plain_sort c.args.group.now.sort) in
    on_ok_weaker c.enter_words.result
    (λ bound.
    enter_before c.args.sig.now c.requires.ready.signature c.args.pool.now c.sort_number.new.sig on c.enter_words.new.sig c.args.scope.now c.enter_words.new.scope c.args.variables.now.items c.enter_words.new.variables.items (words_at e c.args.group.now.names.items)
    (subst (λ ws. EnterBehind c.sort_number.new.sig c.args.scope.now c.args.variables.now.items (words_at e ws) c.enter_words.new.sig c.enter_words.new.scope c.enter_words.new.variables.items) c.as_slice-2.ensures.value
    (bound e (sorts_still c.args.sig.now c.requires.ready.signature c.args.pool.now c.sort_number.new.sig on e ∙ c.in_ok-sort.ensures.means))))
    c.enter_words.ensures.bound
