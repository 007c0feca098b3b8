use Rattle.std.proofs.Common.{List, [], map, sym, ap, ◌∙◌, subst}
use Rattle.std.specs.List.{list_all}
use Rattle.mcrl2_syntax.specs.ProcessParts.{var_group_of}
use Rattle.mcrl2_syntax.specs.ProcessTrees.{plain_process}
use Rattle.sort_table.specs.BareProcesses.{Variables, bare_process, bare_variables}
use Rattle.sort_checker.specs.declared.stops.StopTree.{StopTree}
use Rattle.sort_checker.specs.Faults.{is_typed}
use Rattle.sort_checker.specs.ReadyTrees.{Leaf, AreReadyLeaves, leaves_along}
use Rattle.sort_checker.specs.StopTrees.{stops_of}
use Rattle.sort_checker.specs.Stops.{scoped_along}
use Rattle.sort_checker.proofs.Firsts.{ok_then}
use Rattle.sort_checker.proofs.StopParts.{parts_along}
use Rattle.sort_checker.proofs.untyped_parts.is_process_typed.Goals as goal

pub are_typed_along-requires-clause-scope : goal.are_typed_along-requires-clause-scope
are_typed_along-requires-clause-scope c = (bare_variables (map var_group_of c.args.groups.now), c.in_ok-enter_groups.ensures [] (c.empty_scope-scope.ensures c.args.context.now.sig.now))

pub are_typed_along-requires-clause-ready : goal.are_typed_along-requires-clause-ready
are_typed_along-requires-clause-ready c =
    subst (λ (ss : List StopTree). AreReadyLeaves c.args.context.now.sig.now.texts (leaves_along ss)) (sym c.as_slice.ensures.value)
    (subst (λ (ls : List Leaf). AreReadyLeaves c.args.context.now.sig.now.texts ls) (sym c.in_ok-list.ensures.leaves) c.requires.process)

pub returns : goal.returns
returns c =
    let xs : Variables = bare_variables (map var_group_of c.args.groups.now) in
    ok_then c.are_typed_along.result c.are_typed_along.ensures
    (λ b h v over.
    h v xs over (c.in_ok-enter_groups.ensures [] (c.empty_scope-scope.ensures c.args.context.now.sig.now))
    ∙ ap (list_all (is_typed v)) (ap (λ (ss : List StopTree). scoped_along xs (stops_of ss)) c.as_slice.ensures.value ∙ (ap (scoped_along xs) c.in_ok-list.ensures.stops ∙ parts_along xs (bare_process (plain_process c.args.process.now)))))
