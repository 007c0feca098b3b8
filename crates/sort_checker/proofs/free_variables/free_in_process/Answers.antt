use Rattle.std.proofs.Common.{List, map, sym, ap, ◌∙◌, subst}
use Rattle.mcrl2_syntax.specs.ProcessParts.{var_group_of}
use Rattle.mcrl2_syntax.specs.ProcessTrees.{plain_process}
use Rattle.sort_table.specs.BareProcesses.{Variables, bare_process, bare_variables}
use Rattle.data_typing.specs.Typings.{first_of}
use Rattle.sort_checker.specs.declared.stops.StopTree.{StopTree}
use Rattle.sort_checker.specs.Faults.{free_variable}
use Rattle.sort_checker.specs.ReadyTrees.{Leaf, AreReadyLeaves, leaves_along}
use Rattle.sort_checker.specs.StopTrees.{stops_of}
use Rattle.sort_checker.specs.Stops.{scoped_along}
use Rattle.sort_checker.proofs.Firsts.{ok_then}
use Rattle.sort_checker.proofs.StopParts.{parts_along}
use Rattle.sort_checker.proofs.free_variables.free_in_process.Goals as goal

pub free_along-requires-clause-ready : goal.free_along-requires-clause-ready
free_along-requires-clause-ready c =
    subst (λ (ss : List StopTree). AreReadyLeaves c.args.context.now.sig.now.texts (leaves_along ss)) (sym c.as_slice.ensures.value)
    (subst (λ (ls : List Leaf). AreReadyLeaves c.args.context.now.sig.now.texts ls) (sym c.in_ok-list.ensures.leaves) c.requires.process)

pub returns : goal.returns
returns c =
    let xs : Variables = bare_variables (map var_group_of c.args.groups.now) in
    ok_then c.free_along.result c.free_along.ensures
    (λ found h v over.
    h v xs over (c.in_ok-enter_groups.ensures _ (c.empty_scope-scope.ensures c.args.context.now.sig.now))
    ∙ ap (first_of (free_variable v)) (ap (λ (ss : List StopTree). scoped_along xs (stops_of ss)) c.as_slice.ensures.value ∙ (ap (scoped_along xs) c.in_ok-list.ensures.stops ∙ parts_along xs (bare_process (plain_process c.args.process.now)))))
