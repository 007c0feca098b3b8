use Rattle.std.proofs.Common.{refl}
use Rattle.mcrl2_parser.proofs.ProcessGuards.{guarded, unguarded}
use Rattle.mcrl2_parser.proofs.guards.guard.Goals as goal

pub returns-in_err-rest-clause-only : goal.returns-in_err-rest-clause-only
returns-in_err-rest-clause-only c = λ d r g. absurd (unguarded c.in_ok-tree.ensures.only (c.in_err-rest.ensures.none refl) g)

pub returns-clause-found : goal.returns-clause-found
returns-clause-found c = rw c.in_ok-tree-2.ensures.tree (guarded c.in_ok-tree.ensures.found c.in_ok-rest.ensures.found.0 c.in_ok-rest.ensures.found.1)
