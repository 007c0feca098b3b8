use Rattle.std.proofs.Common.{sym, subst, ap, ◌∙◌}
use Rattle.std.specs.Prelude.{Option, IfSome, option_map}
use Rattle.data_typing.specs.declared.nodes.Reading.{Reading}
use Rattle.data_typing.specs.Contexts.{IsRead}
use Rattle.data_typing.specs.FlatSorts.{flat_sort}
use Rattle.sort_table.specs.Expressions.{Name}
use Rattle.sort_checker.specs.TypedTrees.{value_checks}
use Rattle.sort_checker.proofs.Firsts.{ok_then}
use Rattle.sort_checker.proofs.TypedValues.{value_told}
use Rattle.sort_checker.proofs.typed_parts.value_checks.Goals as goal

pub checks-requires : goal.checks-requires
checks-requires c = subst (λ (o : Option Reading). IfSome o IsRead) (sym c.get.ensures.value ∙ ap (option_map (λ v. v.now)) c.in-Some.is) (c.requires.read c.parameter_name-name.result.now)

pub returns-in-Some : goal.returns-in-Some
returns-in-Some c =
    ok_then c.checks.result c.checks.ensures
    (λ b told ctx s ds sig has.
    value_told ctx s ds c.args.values.now has c.parameter_name-name.result.now (flat_sort c.args.parameter.sort) c.get.result c.get.ensures.value c.in-Some.value c.in-Some.is b told
    ∙ ap (λ (n : Name). value_checks ctx s ds (n, flat_sort c.args.parameter.sort)) c.parameter_name-name.ensures)
