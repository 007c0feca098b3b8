use Rattle.std.proofs.Common.{refl}
use Rattle.data_theory.specs.declared.words.NumberWord.TheVariants as numbers
use Rattle.data_theory.specs.Terms as terms
use Rattle.number_rules.specs.declared.num_op.NumOp.TheVariants as operations
use Rattle.data_rewriter.specs.Signs.{by_abs, by_succ, by_pred, by_to_pos, by_to_nat}
use Rattle.data_rewriter.proofs.WordSigns.{is_minus_of, computes_one, other_of_one}
use Rattle.data_rewriter.proofs.word_signs.sign_of_one_number.Goals as goal

pub returns-in-Minus : goal.returns-in-Minus
returns-in-Minus c = λ sig l t row. is_minus_of sig c.args.word c.in-Minus.is c.args.from c.args.to l

pub returns-in-Abs : goal.returns-in-Abs
returns-in-Abs c = λ sig l t row. computes_one sig c.args.word numbers.Abs c.in-Abs.is terms.absolute operations.Abs by_abs (λ p d. refl) c.args.from c.args.to l t

pub returns-in-Succ : goal.returns-in-Succ
returns-in-Succ c = λ sig l t row. computes_one sig c.args.word numbers.Succ c.in-Succ.is terms.successor operations.Succ by_succ (λ p d. refl) c.args.from c.args.to l t

pub returns-in-Pred : goal.returns-in-Pred
returns-in-Pred c = λ sig l t row. computes_one sig c.args.word numbers.Pred c.in-Pred.is terms.predecessor operations.Pred by_pred (λ p d. refl) c.args.from c.args.to l t

pub returns-in-NatToPos : goal.returns-in-NatToPos
returns-in-NatToPos c = λ sig l t row. computes_one sig c.args.word numbers.NatToPos c.in-NatToPos.is terms.to_positive operations.ToPos by_to_pos (λ p d. refl) c.args.from c.args.to l t

pub returns-in-IntToPos : goal.returns-in-IntToPos
returns-in-IntToPos c = λ sig l t row. computes_one sig c.args.word numbers.IntToPos c.in-IntToPos.is terms.to_positive operations.ToPos by_to_pos (λ p d. refl) c.args.from c.args.to l t

pub returns-in-IntToNat : goal.returns-in-IntToNat
returns-in-IntToNat c = λ sig l t row. computes_one sig c.args.word numbers.IntToNat c.in-IntToNat.is terms.to_natural operations.ToNat by_to_nat (λ p d. refl) c.args.from c.args.to l t

pub returns-in_default : goal.returns-in_default
returns-in_default c = λ sig l t. other_of_one sig c.args.word c.args.from c.args.to c.in_default.not-Minus c.in_default.not-Abs c.in_default.not-Succ c.in_default.not-Pred c.in_default.not-NatToPos c.in_default.not-IntToPos c.in_default.not-IntToNat
