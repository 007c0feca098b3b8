use Rattle.std.proofs.Common.{◌<◌, ◌∙◌, sym, subst, ℕ}
use Rattle.std.proofs.lemmas.Result.{on_ok_weaker}
use Rattle.sort_table.specs.SortIndexes.{kind_of}
use Rattle.sort_table.specs.IndexedKinds.{kinds_of_index}
use Rattle.sort_table.proofs.AliasEdges.{edge_within, adds_edge, adds_none}
use Rattle.sort_table.proofs.sort_cycles.add_definition.Goals as goal

pub add_edge-requires : goal.add_edge-requires
add_edge-requires c =
    subst (λ (n : ℕ). c.in-Some.from < n) (sym c.requires.size)
    (edge_within (kinds_of_index c.args.index.now) c.get.result.0.now (kind_of c.get.result.1) c.in-Some.from c.in-Some.to (sym c.definition_edge.ensures ∙ c.in-Some.is)).0

pub returns-in-Some : goal.returns-in-Some
returns-in-Some c =
    on_ok_weaker c.add_edge.result
    (adds_edge (kinds_of_index c.args.index.now) c.args.place c.args.edges.now.items c.add_edge.new.edges.items c.get.result.0.now (kind_of c.get.result.1) c.in-Some.from c.in-Some.to c.get.ensures (sym c.definition_edge.ensures ∙ c.in-Some.is))
    c.add_edge.ensures

pub returns-in-None : goal.returns-in-None
returns-in-None c = adds_none (kinds_of_index c.args.index.now) c.args.place c.args.edges.now.items c.get.result.0.now (kind_of c.get.result.1) c.get.ensures (sym c.definition_edge.ensures ∙ c.in-None.is)
