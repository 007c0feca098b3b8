use Rattle.std.proofs.Common.{List, map, refl, sym}
use denote.Ref.{Bor}
use Rattle.mcrl2_syntax.specs.declared.process_tree.ActionTree.{ActionTree}
use Rattle.mcrl2_syntax.specs.ProcessParts.{plain_action}
use Rattle.sort_table.specs.Expressions.{Name}
use Rattle.sort_checker.specs.declared.known_names.KnownNames.{KnownNames}
use Rattle.sort_checker.specs.UnknownTrees.{unknown_in_action, unknown_in_actions}
use Rattle.sort_checker.proofs.Firsts.{IsSearch, here, further, none_told, some_told}
use Rattle.sort_checker.proofs.unknown_names.unknown_in_actions.Goals as goal

abbrev now_of : Bor Name → Name
now_of n = n.now

searched : (k : KnownNames) (scope : List Name) → IsSearch (λ (as_ : List ActionTree). unknown_in_actions k scope (map plain_action as_)) (λ (a : ActionTree). unknown_in_action k scope (plain_action a))
searched k scope = record { of_none = refl; of_more = λ a as_. refl }

pub returns-in-Some : goal.returns-in-Some
returns-in-Some c =
    sym (here (λ (as_ : List ActionTree). unknown_in_actions c.args.known.now c.args.scope.now (map plain_action as_)) (λ (a : ActionTree). unknown_in_action c.args.known.now c.args.scope.now (plain_action a)) (searched c.args.known.now c.args.scope.now)
    c.args.actions.now c.loop-action.action-index c.action-item.result c.in-Some.name.now c.loop-action-test.true c.action-item.is c.loop-action.invariant
    (some_told now_of c.unknown_in_action.result (unknown_in_action c.args.known.now c.args.scope.now (plain_action c.action-item.result)) c.in-Some.name c.unknown_in_action.ensures c.in-Some.is))

pub loop-action-preserved : goal.loop-action-preserved
loop-action-preserved c =
    further (λ (as_ : List ActionTree). unknown_in_actions c.args.known.now c.args.scope.now (map plain_action as_)) (λ (a : ActionTree). unknown_in_action c.args.known.now c.args.scope.now (plain_action a)) (searched c.args.known.now c.args.scope.now)
    c.args.actions.now c.loop-action.action-index c.action-item.result c.loop-action-test.true c.action-item.is c.loop-action.invariant
    (none_told now_of c.unknown_in_action.result (unknown_in_action c.args.known.now c.args.scope.now (plain_action c.action-item.result)) c.unknown_in_action.ensures c.in_default.is)
