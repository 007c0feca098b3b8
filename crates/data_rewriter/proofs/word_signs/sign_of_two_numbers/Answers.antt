use Rattle.std.proofs.Common.{refl}
use Rattle.data_theory.specs.declared.words.NumberWord.TheVariants as numbers
use Rattle.data_theory.specs.Terms as terms
use Rattle.number_rules.specs.declared.num_op.NumOp.TheVariants as operations
use Rattle.data_rewriter.specs.Signs.{by_add, by_sub, by_mul, by_div, by_mod, by_exp, by_min, by_max}
use Rattle.data_rewriter.proofs.WordSigns.{computes_two, other_of_two}
use Rattle.data_rewriter.proofs.word_signs.sign_of_two_numbers.Goals as goal

pub returns-in-Plus : goal.returns-in-Plus
returns-in-Plus c = λ sig l r t row. computes_two sig c.args.word numbers.Plus c.in-Plus.is terms.add operations.Add by_add (λ p q d. refl) c.args.left c.args.right c.args.to l r t

pub returns-in-Minus : goal.returns-in-Minus
returns-in-Minus c = λ sig l r t row. computes_two sig c.args.word numbers.Minus c.in-Minus.is terms.subtract operations.Sub by_sub (λ p q d. refl) c.args.left c.args.right c.args.to l r t

pub returns-in-Times : goal.returns-in-Times
returns-in-Times c = λ sig l r t row. computes_two sig c.args.word numbers.Times c.in-Times.is terms.multiply operations.Mul by_mul (λ p q d. refl) c.args.left c.args.right c.args.to l r t

pub returns-in-Div : goal.returns-in-Div
returns-in-Div c = λ sig l r t row. computes_two sig c.args.word numbers.Div c.in-Div.is terms.divide operations.Div by_div (λ p q d. refl) c.args.left c.args.right c.args.to l r t

pub returns-in-Mod : goal.returns-in-Mod
returns-in-Mod c = λ sig l r t row. computes_two sig c.args.word numbers.Mod c.in-Mod.is terms.modulo operations.Mod by_mod (λ p q d. refl) c.args.left c.args.right c.args.to l r t

pub returns-in-Exp : goal.returns-in-Exp
returns-in-Exp c = λ sig l r t row. computes_two sig c.args.word numbers.Exp c.in-Exp.is terms.power operations.Exp by_exp (λ p q d. refl) c.args.left c.args.right c.args.to l r t

pub returns-in-Min : goal.returns-in-Min
returns-in-Min c = λ sig l r t row. computes_two sig c.args.word numbers.Min c.in-Min.is terms.minimum operations.Min by_min (λ p q d. refl) c.args.left c.args.right c.args.to l r t

pub returns-in-Max : goal.returns-in-Max
returns-in-Max c = λ sig l r t row. computes_two sig c.args.word numbers.Max c.in-Max.is terms.maximum operations.Max by_max (λ p q d. refl) c.args.left c.args.right c.args.to l r t

pub returns-in_default : goal.returns-in_default
returns-in_default c = λ sig l r t. other_of_two sig c.args.word c.args.left c.args.right c.args.to c.in_default.not-Plus c.in_default.not-Minus c.in_default.not-Times c.in_default.not-Div c.in_default.not-Mod c.in_default.not-Exp c.in_default.not-Min c.in_default.not-Max
