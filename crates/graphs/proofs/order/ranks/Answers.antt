use Rattle.std.proofs.Common.{[], List, ℕ, sym, subst, arith}
use Rattle.std.specs.Global.{Vec}
use Rattle.graphs.specs.Graphs.{IsGraph, HasEdge, HasCycle}
use Rattle.graphs.specs.Settling.{IsSettling}
use Rattle.graphs.proofs.Ranking.{kept_graph, kept_cycle, ranked_all, no_cycle, done_more, on_false, on_true}
use Rattle.graphs.proofs.order.ranks.Goals as goal

pub settle-requires-clause-graph : goal.settle-requires-clause-graph
settle-requires-clause-graph c = subst IsGraph (sym c.as_slice.ensures.value) (kept_graph _ _ _ c.requires.graph c.in_ok-kept.ensures)

pub returns-then-not-branch-clause-ranks : goal.returns-then-not-branch-clause-ranks
returns-then-not-branch-clause-ranks c =
    kept_cycle _ _ _ c.in_ok-kept.ensures (subst (λ (g : List (Vec ℕ)). HasCycle (HasEdge g)) c.as_slice.ensures.value (on_false _ _ _ c.if-not-branch.true c.in_ok-settle.ensures))

pub returns-then-not-branch-clause-acyclic : goal.returns-then-not-branch-clause-acyclic
returns-then-not-branch-clause-acyclic c = kept_cycle _ _ _ c.in_ok-kept.ensures (subst (λ (g : List (Vec ℕ)). HasCycle (HasEdge g)) c.as_slice.ensures.value (on_false _ _ _ c.if-not-branch.true c.in_ok-settle.ensures))

pub loop-node-preserved : goal.loop-node-preserved
loop-node-preserved c =
    let settled = on_true _ _ _ c.if-not-branch.false c.in_ok-settle.ensures in
    record {
      settling = subst (λ (g : List (Vec ℕ)). IsSettling g c.settle.new.self.seen.items c.settle.new.self.states.items [] c.settle.new.self.count) c.as_slice.ensures.value settled.settling;
      done = done_more _ _ _ c.loop-node.invariant.done settled.kept settled.done;
    }

pub returns-clause-ranks : goal.returns-clause-ranks
returns-clause-ranks c = ranked_all _ _ _ _ _ _ _ c.in_ok-kept.ensures c.loop-node.invariant.settling (λ a below. c.loop-node.invariant.done a (omega (arith, below, c.loop-node-test.false, c.len-node-end.ensures, c.in_ok-kept.kept.ok.0))) c.in_ok-ranks.ensures

pub returns-clause-acyclic : goal.returns-clause-acyclic
returns-clause-acyclic c = no_cycle _ _ _ (ranked_all _ _ _ _ _ _ _ c.in_ok-kept.ensures c.loop-node.invariant.settling (λ a below. c.loop-node.invariant.done a (omega (arith, below, c.loop-node-test.false, c.len-node-end.ensures, c.in_ok-kept.kept.ok.0))) c.in_ok-ranks.ensures)
