use Rattle.aut_check.specs.Comparing.{AreSorted}
use Rattle.aut_check.specs.PlainSystems.{plain_system}
use Rattle.aut_check.proofs.edges.edges_by_source.Given as goal

abbrev pub invariant-loop-number : goal.invariant-loop-number
invariant-loop-number l = AreSorted (plain_system l.lts) l.number l.found.items
