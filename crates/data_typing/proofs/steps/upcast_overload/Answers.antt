use Rattle.std.proofs.Common.{refl}
use Rattle.data_typing.specs.declared.nodes.Callee.TheVariants as callees
use Rattle.data_theory.specs.declared.words.Word.TheVariants as words
use Rattle.data_typing.proofs.StepsWithin.{upcast_within}
use Rattle.data_typing.proofs.steps.upcast_overload.Goals as goal

pub returns-in_ok-arguments-in-Some-clause-within : goal.returns-in_ok-arguments-in-Some-clause-within
returns-in_ok-arguments-in-Some-clause-within c = λ n k. upcast_within n k c.args.from c.args.to c.in-Some.word c.in-Some.ensures.row (record { callee = callees.BuiltIn (words.Number c.in-Some.word); arguments = c.in_ok-arguments-in-Some.arguments; result = c.args.to }) refl c.in_ok-arguments-in-Some.ensures.items refl
