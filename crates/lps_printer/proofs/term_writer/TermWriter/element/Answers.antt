use Rattle.std.proofs.Common.{◌≡◌, length, sym, subst}
use Rattle.lps_printer.proofs.CodeTerms.{node_by, no_parts, no_two}
use Rattle.lps_printer.proofs.term_writer.TermWriter.element.Goals as goal

pub returns-then-args-ne2-clause-parts : goal.returns-then-args-ne2-clause-parts
returns-then-args-ne2-clause-parts c =
    let self = c.args.self.now in
    let node = c.node-node.result.now in
    no_parts self c.args.id c.in-Fun.fun node.args.items (node_by self c.args.id node _ c.node-node.ensures.tree c.node-node.ensures.below c.requires c.in-Fun.is)
    (no_two self node.args.items (λ e. c.if-args-ne2.true (subst (λ xs. length xs ≡ 2) (sym c.as_slice-args.ensures.value) e)))
