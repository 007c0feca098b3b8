use Rattle.std.proofs.Common.{◌≡◌, ◌+◌, ◌++◌, ◌∷◌, [], ℕ, length, sym, subst, ap, ◌∙◌, length-append}
use Rattle.data_typing.specs.Nodes.{AreBelow, AreKnown}
use Rattle.data_typing.proofs.NodeLemmas.{parts_below, known_pushed}
use Rattle.data_typing.proofs.nodes.infer_all.Goals as goal

pub infer-requires-clause-there : goal.infer-requires-clause-there
infer-requires-clause-there c =
    let at : c.loop-node.node-index ≡ length c.as_slice.result.now = sym (ap length c.as_slice.ensures.value ∙ c.loop-node.invariant.1) in
    subst (λ k. AreBelow k c.node-item.result.arguments.items) at (parts_below c.args.nodes.now c.requires c.loop-node.node-index c.node-item.result c.loop-node-test.true c.node-item.is)

pub loop-node-preserved : goal.loop-node-preserved
loop-node-preserved c =
    let pushed : c.push.new.self.items ≡ c.loop-node.known.items ++ c.in_ok-sort.sort ∷ [] = c.in_ok-push.ensures.items in (
      subst (AreKnown c.args.nodes.now) (sym pushed)
          (known_pushed c.args.nodes.now c.loop-node.known.items c.loop-node.node-index c.node-item.result c.in_ok-sort.sort c.loop-node.invariant.0 c.loop-node.invariant.1 c.loop-node-test.true c.node-item.is c.in_ok-sort.ensures),
      ap length pushed ∙ length-append c.loop-node.known.items (c.in_ok-sort.sort ∷ []) ∙ ap (λ (n : ℕ). n + 1) c.loop-node.invariant.1,
    )
