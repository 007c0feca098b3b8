use Rattle.data_typing.specs.declared.nodes.Callee.TheVariants as callees
use Rattle.std.proofs.Common.{refl}
use Rattle.data_theory.specs.declared.words.ListWord.TheVariants as list_words
use Rattle.data_theory.specs.declared.words.Word.TheVariants as words
use Rattle.data_typing.proofs.StepsWithin.{empty_within}
use Rattle.data_typing.proofs.steps.empty_overload.Goals as goal

pub returns-clause-within : goal.returns-clause-within
returns-clause-within c = λ n k h. empty_within n k c.args.element c.in_ok-list.list c.in_ok-list.ensures.means h (c.in_ok-list.ensures.within n h) (record { callee = callees.BuiltIn (words.List list_words.Empty); arguments = c.in_ok-arguments.arguments; result = c.in_ok-list.list }) refl c.in_ok-arguments.ensures.items refl
