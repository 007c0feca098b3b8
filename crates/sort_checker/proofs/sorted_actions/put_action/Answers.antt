use Rattle.std.proofs.Common.{◌++◌, ◌∷◌, [], List, cond, ◌==◌, ◌∙◌, ap}
use Rattle.sort_checker.specs.declared.sorted_actions.SortedAction.{SortedAction}
use Rattle.sort_checker.proofs.SortedGroups.{put_behind}
use Rattle.sort_checker.proofs.sorted_actions.put_action.Goals as goal

pub returns : goal.returns
returns c = λ n.
    put_behind c.make_room.new.groups.items c.args.name.0 c.index_mut.result.now c.push.new.self c.args.action c.in_ok-make_room.ensures.room c.index_mut.ensures.value c.in_ok-push.ensures.items n
    ∙ ap (λ (xs : List SortedAction). cond (c.args.name.0 == n) (xs ++ c.args.action ∷ []) xs) (c.make_room.ensures.same n)
