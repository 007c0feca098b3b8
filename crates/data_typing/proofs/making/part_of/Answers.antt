use Rattle.std.proofs.Common.{length, sym, subst, ap, ◌∙◌}
use Rattle.sort_table.specs.NamedSorts.{no_lists}
use Rattle.data_typing.specs.Making.{over}
use Rattle.data_typing.specs.CodeSteps.{item_of, IsStepWithin}
use Rattle.data_typing.proofs.SignatureSorts.{not_grown}
use Rattle.data_typing.proofs.making.part_of.Goals as goal

pub returns-in-Variable-clause-means : goal.returns-in-Variable-clause-means
returns-in-Variable-clause-means c = λ y k. ap (item_of y) (sym c.in-Variable.is)

pub returns-in-Variable-clause-grown : goal.returns-in-Variable-clause-grown
returns-in-Variable-clause-grown c = not_grown c.args.sig.now

pub returns-in-Numeral-clause-means : goal.returns-in-Numeral-clause-means
returns-in-Numeral-clause-means c = λ y k. ap (item_of y) (sym c.in-Numeral.is)

pub returns-in-Numeral-clause-grown : goal.returns-in-Numeral-clause-grown
returns-in-Numeral-clause-grown c = not_grown c.args.sig.now

pub returns-in_ok-fun-in-Apply-clause-means : goal.returns-in_ok-fun-in-Apply-clause-means
returns-in_ok-fun-in-Apply-clause-means c = λ y k. ap (λ s. over s c.in-Apply.arity) (c.in_ok-fun-in-Apply.ensures.means y k) ∙ ap (item_of y) (sym c.in-Apply.is)

pub returns-in-Variable-clause-added : goal.returns-in-Variable-clause-added
returns-in-Variable-clause-added c = no_lists

pub returns-in-Numeral-clause-added : goal.returns-in-Numeral-clause-added
returns-in-Numeral-clause-added c = no_lists

pub function_number-requires-clause-there : goal.function_number-requires-clause-there
function_number-requires-clause-there c = subst (IsStepWithin (length c.args.named.now) c.args.count) c.in-Apply.is c.requires.there
