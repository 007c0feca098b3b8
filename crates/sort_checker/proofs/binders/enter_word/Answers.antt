use Rattle.std.proofs.Common.{sym, subst}
use Rattle.std.proofs.lemmas.Option.{slice_get_within}
use Rattle.data_typing.specs.declared.scope.Bound.{Bound}
use Rattle.sort_checker.specs.Additions.{GoesOn}
use Rattle.sort_checker.proofs.Adding.{goes_nowhere}
use Rattle.sort_checker.proofs.EnteringScopes.{one_goes_on, ready_with, entered_one}
use Rattle.sort_checker.proofs.binders.enter_word.Goals as goal

pub add_var-requires-clause-name : goal.add_var-requires-clause-name
add_var-requires-clause-name c = slice_get_within c.args.sig.now.texts c.word_number-name.result.0 _ c.word_number-name.ensures

pub returns-in_err-var-clause-kept : goal.returns-in_err-var-clause-kept
returns-in_err-var-clause-kept c = subst (λ h. GoesOn c.args.sig.now c.args.pool.now h c.args.pool.now) (sym c.in_err-var.ensures.unchanged) (goes_nowhere c.args.sig.now c.args.pool.now)

pub returns-in_err-enter-clause-kept : goal.returns-in_err-enter-clause-kept
returns-in_err-enter-clause-kept c =
    let b : Bound = record { name = c.word_number-name.result; var = c.in_ok-var.var; sort = c.flat-sort.result } in
    one_goes_on c.args.sig.now c.args.pool.now c.args.tables.now c.args.scope.now c.requires.ready c.args.word.now.bytes.items b c.args.sort c.word_number-name.ensures c.requires.name c.requires.sort c.add_var.new.self c.in_ok-var.ensures.added

pub returns-in_err-push-clause-kept : goal.returns-in_err-push-clause-kept
returns-in_err-push-clause-kept c =
    let b : Bound = record { name = c.word_number-name.result; var = c.in_ok-var.var; sort = c.flat-sort.result } in
    one_goes_on c.args.sig.now c.args.pool.now c.args.tables.now c.args.scope.now c.requires.ready c.args.word.now.bytes.items b c.args.sort c.word_number-name.ensures c.requires.name c.requires.sort c.add_var.new.self c.in_ok-var.ensures.added

pub returns-clause-kept : goal.returns-clause-kept
returns-clause-kept c =
    let b : Bound = record { name = c.word_number-name.result; var = c.in_ok-var.var; sort = c.flat-sort.result } in
    one_goes_on c.args.sig.now c.args.pool.now c.args.tables.now c.args.scope.now c.requires.ready c.args.word.now.bytes.items b c.args.sort c.word_number-name.ensures c.requires.name c.requires.sort c.add_var.new.self c.in_ok-var.ensures.added

pub returns-clause-ready : goal.returns-clause-ready
returns-clause-ready c =
    let b : Bound = record { name = c.word_number-name.result; var = c.in_ok-var.var; sort = c.flat-sort.result } in
    ready_with c.args.sig.now c.args.pool.now c.args.tables.now c.args.scope.now c.requires.ready c.args.word.now.bytes.items b c.args.sort c.word_number-name.ensures c.requires.name c.requires.sort c.add_var.new.self c.in_ok-var.ensures.added
    c.in_ok-var.ensures.number c.enter.new.self c.in_ok-enter.ensures.entered (c.flat-sort.ensures.within c.args.sig.now c.requires.ready.tables c.requires.sort)

pub returns-clause-bound : goal.returns-clause-bound
returns-clause-bound c = λ e has.
    let b : Bound = record { name = c.word_number-name.result; var = c.in_ok-var.var; sort = c.flat-sort.result } in
    entered_one c.args.sig.now c.args.pool.now c.args.tables.now c.args.scope.now c.requires.ready c.args.word.now.bytes.items b c.args.sort c.word_number-name.ensures c.requires.name c.requires.sort c.add_var.new.self c.in_ok-var.ensures.added
    c.in_ok-var.ensures.number c.enter.new.self c.in_ok-enter.ensures.entered (c.flat-sort.ensures.means c.args.sig.now c.requires.ready.tables c.requires.sort) e has c.args.variables.now.items c.push.new.self.items c.in_ok-push.ensures.items
