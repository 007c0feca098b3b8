use Rattle.std.proofs.Common.{◌+◌, sym, ap, ◌∙◌, subst, arith}
use Rattle.std.proofs.lemmas.Result.{on_ok_weaker}
use Rattle.lps_printer.specs.CodeWordings.{application_by, terms_by, IsApplicationBy}
use Rattle.lps_printer.specs.NeededConstants.{nils}
use Rattle.lps_printer.specs.PendingParts.{size, sizes}
use Rattle.lps_printer.proofs.CodeTerms.{node_by, term_is, application_fits}
use Rattle.lps_printer.proofs.NeededConstants.{nothing_found, found_same}
use Rattle.lps_printer.proofs.PendingLemmas.{size_some}
use Rattle.lps_printer.proofs.UnseenLemmas.{none_left, within_limit, looks_equal}
use Rattle.lps_printer.proofs.term_writer.TermWriter.look_into.Goals as goal

pub node-node-requires : goal.node-node-requires
node-node-requires c = c.requires.within

pub look_into_application-requires : goal.look_into_application-requires
look_into_application-requires c =
    let self = c.args.self.now in
    let node = c.node-node.result.now in
    subst (λ xs. IsApplicationBy self c.in-Fun.fun xs) (sym c.as_slice.ensures.value) (application_fits self c.args.id c.in-Fun.fun node.args.items (node_by self c.args.id node _ c.node-node.ensures.tree c.node-node.ensures.below c.requires c.in-Fun.is))

pub returns-in-Fun : goal.returns-in-Fun
returns-in-Fun c =
    let self = c.args.self.now in
    let node = c.node-node.result.now in
    let here = node_by self c.args.id node _ c.node-node.ensures.tree c.node-node.ensures.below c.requires c.in-Fun.is in
    let same = ap size (term_is self c.args.id _ node.args.items here) in
    let slice = ap (λ xs. sizes (terms_by self xs)) c.as_slice.ensures.value in
    on_ok_weaker c.look_into_application.result (λ p. within_limit self (omega (arith, same, slice)) (looks_equal self _ _ (λ w k.
    ap (λ xs. nils w.names.once c.args.placed (application_by self c.in-Fun.fun xs)) c.as_slice.ensures.value ∙ ap (nils w.names.once c.args.placed) (sym (term_is self c.args.id _ node.args.items here))) p)) c.look_into_application.ensures

pub returns-in-Var : goal.returns-in-Var
returns-in-Var c =
    let self = c.args.self.now in
    let node = c.node-node.result.now in
    let here = node_by self c.args.id node _ c.node-node.ensures.tree c.node-node.ensures.below c.requires c.in-Var.is in
    none_left self _ _ _ _ _ (size_some _) (λ w k. found_same (ap (nils w.names.once c.args.placed) (sym (term_is self c.args.id _ node.args.items here))) (nothing_found self.sig.now c.args.found.now.keys))

pub returns-in-Num : goal.returns-in-Num
returns-in-Num c =
    let self = c.args.self.now in
    let node = c.node-node.result.now in
    let here = node_by self c.args.id node _ c.node-node.ensures.tree c.node-node.ensures.below c.requires c.in-Num.is in
    none_left self _ _ _ _ _ (size_some _) (λ w k. found_same (ap (nils w.names.once c.args.placed) (sym (term_is self c.args.id _ node.args.items here))) (nothing_found self.sig.now c.args.found.now.keys))
