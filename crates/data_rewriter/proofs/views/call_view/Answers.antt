use Rattle.std.proofs.Common.{sym, subst, ◌∙◌, rules, arith}
use Rattle.data_theory.specs.IdTerms.{symbol_under}
use Rattle.data_rewriter.specs.Signs.{HasSign}
use Rattle.data_rewriter.proofs.ViewLemmas.{crowded_true, crowded_false, crowded_empty, not_one, not_two}
use Rattle.data_rewriter.proofs.views.call_view.Goals as goal

pub returns-else-is_empty-clause-shown : goal.returns-else-is_empty-clause-shown
returns-else-is_empty-clause-shown c = λ sig ts signs inside args.
    crowded_true sig ts (symbol_under sig c.args.fun) c.args.args.now (subst (HasSign sig (symbol_under sig c.args.fun)) (sym c.sign.ensures ∙ c.in-True.is) (signs c.args.fun inside)) (search (rules, arith, c.if-is_empty.ensures))

pub returns-else-is_empty-2-clause-shown : goal.returns-else-is_empty-2-clause-shown
returns-else-is_empty-2-clause-shown c = λ sig ts signs inside args.
    crowded_false sig ts (symbol_under sig c.args.fun) c.args.args.now (subst (HasSign sig (symbol_under sig c.args.fun)) (sym c.sign.ensures ∙ c.in-False.is) (signs c.args.fun inside)) (search (rules, arith, c.if-is_empty-2.ensures))

pub returns-else-is_empty-3-clause-shown : goal.returns-else-is_empty-3-clause-shown
returns-else-is_empty-3-clause-shown c = λ sig ts signs inside args.
    let is = subst (HasSign sig (symbol_under sig c.args.fun)) (sym c.sign.ensures ∙ c.in-Empty.is) (signs c.args.fun inside) in
    crowded_empty sig ts (symbol_under sig c.args.fun) is.0 c.args.args.now is.2 (search (rules, arith, c.if-is_empty-3.ensures))

pub returns-else-args-eq1-clause-shown : goal.returns-else-args-eq1-clause-shown
returns-else-args-eq1-clause-shown c = λ sig ts signs inside args.
    not_one sig ts (symbol_under sig c.args.fun) c.args.args.now (subst (HasSign sig (symbol_under sig c.args.fun)) (sym c.sign.ensures ∙ c.in-Not.is) (signs c.args.fun inside)) (let f = c.if-args-eq1.false in λ e. search (rules, arith, f, e))

pub returns-else-args-eq2-clause-shown : goal.returns-else-args-eq2-clause-shown
returns-else-args-eq2-clause-shown c = λ sig ts signs inside args.
    let is = subst (HasSign sig (symbol_under sig c.args.fun)) (sym c.sign.ensures ∙ c.in-Cons.is) (signs c.args.fun inside) in
    not_two sig ts (symbol_under sig c.args.fun) is.0 c.args.args.now is.2 (let f = c.if-args-eq2.false in λ e. search (rules, arith, f, e))
