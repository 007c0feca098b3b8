use Rattle.std.proofs.Common.{◌<◌, List, length, sym, subst, ap, ◌∙◌}
use Rattle.std.proofs.lemmas.List.Elements.{All-weaker}
use Rattle.sort_table.specs.NamedSorts.{sort_count}
use Rattle.data_typing.specs.declared.nodes.Node.{Node}
use Rattle.data_typing.specs.Nodes.{AreNodes, AreKnown}
use Rattle.data_typing.specs.CodeWords.{AreFlat}
use Rattle.data_typing.specs.Within.{IsFlatWithin, AreNodesWithin}
use Rattle.data_typing.specs.Contexts.{IsBoundOver}
use Rattle.data_typing.proofs.expressions.read_expression.Goals as goal

pub infer_all-requires : goal.infer_all-requires
infer_all-requires c = subst AreNodes (sym c.as_slice-2.ensures.value) c.in_ok-at.ensures.grown.nodes

pub returns : goal.returns
returns c = record {
  over = record {
    read = record {
      known_sorts = subst (λ (ns : List Node). AreKnown ns c.in_ok-known.known.items) c.as_slice-2.ensures.value c.in_ok-known.ensures.known;
      all = c.in_ok-known.ensures.all ∙ ap length c.as_slice-2.ensures.value;
      there = c.in_ok-at.ensures.stands.0;
    };
    within = c.in_ok-at.ensures.sound (subst (AreNodesWithin (sort_count c.args.sig.now) (length c.args.sig.now.functions)) (sym c.no_nodes-nodes.ensures.none) tt);
  };
  typing = c.in_ok-at.ensures.stands.1;
}
