use Rattle.std.proofs.Common.{◌<◌, List, ℕ, length, subst}
use Rattle.std.specs.List.{Contains}
use Rattle.call_cases.proofs.graph_answers.answer.Goals as goal

pub graph_answer-requires-clause-graph : goal.graph_answer-requires-clause-graph
graph_answer-requires-clause-graph c = c.is_graph.ensures.0 c.if-not-is_graph.false

pub graph_answer-requires-clause-nodes : goal.graph_answer-requires-clause-nodes
graph_answer-requires-clause-nodes c = λ a stands. c.in_ok-nodes.ensures a (subst (λ (l : List ℕ). Contains l a) c.as_slice.ensures.value stands)
