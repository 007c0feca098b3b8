use Rattle.std.proofs.Common.{◌∙◌, sym, subst, rules}
use Rattle.data_theory.specs.IdTerms.{symbol_under}
use Rattle.data_rewriter.specs.Signs.{HasSign}
use Rattle.data_rewriter.proofs.Deciding.{falsum}
use Rattle.data_rewriter.proofs.Looking.{if_looks_first, and_looks_first, or_looks_first, implies_looks_first, not_looking}
use Rattle.data_rewriter.proofs.machine.looks_first.Goals as goal

pub returns-in-If : goal.returns-in-If
returns-in-If c = λ sig own ts all inside. ((λ b. if_looks_first sig (symbol_under sig c.args.fun) (subst (HasSign sig (symbol_under sig c.args.fun)) (sym c.sign.ensures ∙ c.in-If.is) (all.signs.signs c.args.fun inside))), (λ l. search rules))

pub returns-in-And : goal.returns-in-And
returns-in-And c = λ sig own ts all inside. ((λ b. and_looks_first sig (symbol_under sig c.args.fun) (subst (HasSign sig (symbol_under sig c.args.fun)) (sym c.sign.ensures ∙ c.in-And.is) (all.signs.signs c.args.fun inside))), (λ l. search rules))

pub returns-in-Or : goal.returns-in-Or
returns-in-Or c = λ sig own ts all inside. ((λ b. or_looks_first sig (symbol_under sig c.args.fun) (subst (HasSign sig (symbol_under sig c.args.fun)) (sym c.sign.ensures ∙ c.in-Or.is) (all.signs.signs c.args.fun inside))), (λ l. search rules))

pub returns-in-Implies : goal.returns-in-Implies
returns-in-Implies c = λ sig own ts all inside. ((λ b. implies_looks_first sig (symbol_under sig c.args.fun) (subst (HasSign sig (symbol_under sig c.args.fun)) (sym c.sign.ensures ∙ c.in-Implies.is) (all.signs.signs c.args.fun inside))), (λ l. search rules))

pub returns-in_default : goal.returns-in_default
returns-in_default c = λ sig own ts all inside. ((λ b. absurd (falsum b)), (λ l. absurd (not_looking sig (symbol_under sig c.args.fun) c.sign.result c.in_default.not-If c.in_default.not-And c.in_default.not-Or c.in_default.not-Implies (subst (HasSign sig (symbol_under sig c.args.fun)) (sym c.sign.ensures) (all.signs.signs c.args.fun inside)) l)))
