use Rattle.std.proofs.Common.{◌++◌, List, map, ap, ap₂, ◌∙◌}
use Rattle.mcrl2_syntax.specs.ProcessParts.{var_group_of}
use Rattle.mcrl2_syntax.specs.ProcessTrees.{plain_process}
use Rattle.sort_table.specs.Expressions.{Name}
use Rattle.sort_table.specs.BareProcesses.{Variables, bare_process, bare_variables}
use Rattle.data_typing.specs.Typings.{first_of}
use Rattle.sort_checker.specs.declared.stops.StopTree.{StopTree}
use Rattle.sort_checker.specs.LeftTrees.{names_of_groups}
use Rattle.sort_checker.specs.Faults.{unknown_name}
use Rattle.sort_checker.specs.Stops.{scoped_along}
use Rattle.sort_checker.specs.UnknownTrees.{unknown_along}
use Rattle.sort_checker.proofs.Firsts.{ok_then}
use Rattle.sort_checker.proofs.StopParts.{parts_along}
use Rattle.sort_checker.proofs.UnknownParts.{along_unknown}
use Rattle.sort_checker.proofs.unknown_names.unknown_in_process.Goals as goal

pub returns : goal.returns
returns c =
    let xs : Variables = bare_variables (map var_group_of c.args.groups.now) in
    ok_then c.unknown_along.result c.unknown_along.ensures
    (λ found h v known.
    h ∙ (ap₂ (λ (sc : List Name) (ss : List StopTree). unknown_along c.args.known.now sc ss) (c.in_ok-enter_groups.ensures ∙ ap (λ (ns : List Name). ns ++ names_of_groups c.args.groups.now) c.new-scope.ensures) c.as_slice.ensures.value
    ∙ (along_unknown v c.args.known.now known xs c.in_ok-list.list.items ∙ ap (first_of (unknown_name v)) (ap (scoped_along xs) c.in_ok-list.ensures.stops ∙ parts_along xs (bare_process (plain_process c.args.process.now))))))
