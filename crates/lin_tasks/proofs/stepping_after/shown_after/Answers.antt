use Rattle.std.proofs.Common.{◌≡◌, ◌<◌, ◌++◌, ◌∙◌, ap, length, map, rules, sym, subst, List}
use Rattle.std.specs.List.{All}
use Rattle.data_theory.specs.declared.ids.SortId.{SortId}
use Rattle.lps_core.specs.Fitting.{sort_of_variable}
use Rattle.lps_core.specs.PlainLinears.{plain_linear, plain_next}
use Rattle.lin_driver.specs.Eliminations.{equations_in}
use Rattle.chosen_moves.proofs.ChosenMoves.{passed_on}
use Rattle.lin_tasks.proofs.StepsAfter.{sorts_within, terms_of_state, with_state}
use Rattle.lin_tasks.proofs.stepping_after.shown_after.Goals as goal

pub returns-in_err-shown-clause-fault : goal.returns-in_err-shown-clause-fault
returns-in_err-shown-clause-fault c = passed_on _ c.from_residual-in_err-shown.result c.in_err-shown.field-0.0 c.in_err-shown.ensures.fault c.from_residual-in_err-shown.ensures.1

pub state_line-requires-clause-sorts : goal.state_line-requires-clause-sorts
state_line-requires-clause-sorts c =
    let sorts : c.in_ok-sorts.sorts.items ≡ map (sort_of_variable c.args.sig.now) (plain_linear c.args.lin).params = c.in_ok-sorts.ensures ∙ ap (map (sort_of_variable c.args.sig.now)) c.params.ensures in
    subst (All (λ (s : SortId). s.0 < length c.args.sig.now.sorts)) (sym sorts) (sorts_within c.args.sig.now c.signature_stands.ensures (plain_linear c.args.lin).params c.requires.fits.params)

pub state_line-requires-clause-state : goal.state_line-requires-clause-state
state_line-requires-clause-state c =
    let sorts : c.in_ok-sorts.sorts.items ≡ map (sort_of_variable c.args.sig.now) (plain_linear c.args.lin).params = c.in_ok-sorts.ensures ∙ ap (map (sort_of_variable c.args.sig.now)) c.params.ensures in
    terms_of_state c.args.sig.now c.options_after.new.pool.trees (plain_linear c.args.lin).params c.in_ok-sorts.sorts.items (plain_next c.in_ok-shown.last) sorts c.in_ok-shown.ensures.state

pub returns-clause-shown : goal.returns-clause-shown
returns-clause-shown c =
    with_state c.args.sig.now (equations_in c.args.sig.now c.args.pool.now.trees c.args.theory.now) c.args.fuel c.args.bound c.args.pool.now.trees c.options_after.new.pool.trees c.args.name (plain_linear c.args.lin) c.args.choices.now
    (plain_next c.in_ok-shown.last) c.in_ok-shown.shown.status c.in_ok-shown.shown.text.items c.in_ok-text.text.items c.push_text.new.text.items c.in_ok-shown.ensures.shown c.in_ok-text.ensures (c.in_ok-push_text.ensures ∙ ap (λ z. c.in_ok-text.text.items ++ z) c.deref.ensures.value)
