use Rattle.std.proofs.Common.{ap, ◌∙◌, sym, subst}
use Rattle.term_pool.specs.declared.terms.Head.{Head}
use Rattle.term_pool.specs.HeadTrees.{written_tree, trees_at}
use Rattle.eqn_check.specs.Fillings.{IsResolved}
use Rattle.eqn_check.proofs.FilledLemmas.{first_stands}
use Rattle.eqn_check.proofs.filled.resolved.Goals as goal

pub returns-in-First : goal.returns-in-First
returns-in-First c =
    subst (IsResolved c.args.sig.now c.args.pool.now.trees c.args.opposites.now c.args.filled) (sym c.first_resolved.ensures)
    (first_stands c.args.sig.now c.args.pool.now.trees c.args.opposites.now c.args.filled c.in-Var.var
    (c.node.ensures.tree ∙ ap (λ (h : Head). written_tree h (trees_at c.args.pool.now.trees c.node.result.now.args.items)) c.in-Var.is) c.in-First.is c.requires.opposites c.requires.term)
