use Rattle.std.proofs.Common.{◌≡◌, ◌∙◌, ◌++◌, None, sym, ap}
use Rattle.data_theory.specs.NamedFunctions.{list_at, if_named}
use Rattle.data_theory.proofs.KeyLemmas.{on_err}
use Rattle.data_theory.proofs.NamedLemmas.{no_word, list_pushed, list_kept}
use Rattle.data_theory.proofs.named_functions.NamedFunctions.enter.Goals as goal

pub returns-in_err-push-clause-unchanged : goal.returns-in_err-push-clause-unchanged
returns-in_err-push-clause-unchanged c =
    let room = c.in_ok-make_room.ensures.room in
    on_err c.from_residual-in_err-push.result (λ n.
    list_kept c.make_room.new.lists.items c.args.name c.index_mut.result.now c.push.new.self room c.index_mut.ensures.value c.in_err-push.ensures.items n ∙ c.make_room.ensures.kept n ∙ ap (λ l. list_at l n) c.self.view_is)

pub returns-clause-entered : goal.returns-clause-entered
returns-clause-entered c n =
    let none : c.args.word ≡ None = no_word c.args.word (sym c.is_some.ensures ∙ c.if-is_some.false) in
    list_pushed c.make_room.new.lists.items c.args.name c.index_mut.result.now c.push.new.self c.args.fun c.in_ok-make_room.ensures.room c.index_mut.ensures.value c.in_ok-push.ensures.items n
    ∙ (λ i. (c.make_room.ensures.kept n ∙ ap (λ l. list_at l n) c.self.view_is) i ++ if_named n c.args.name c.args.fun.0 (sym none i))
