use Rattle.std.proofs.Common.{◌++◌, ◌∷◌, [], ◌∙◌, map, Some, None, ap}
use Rattle.std.proofs.lemmas.List.{take_all, append_assoc}
use Rattle.value_enum.proofs.shapes.push_arguments.Goals as goal

pub returns : goal.returns
returns c =
    c.in_ok-push-2.ensures.items
    ∙ (ap (λ l. l ++ None ∷ []) (c.loop-sort.invariant ∙ ap (λ ss. c.args.arguments.now.items ++ map Some ss) (take_all c.loop-sort.sort-index c.args.sorts.now c.loop-sort-test.false)) ∙ append_assoc c.args.arguments.now.items (map Some c.args.sorts.now) (None ∷ []))
