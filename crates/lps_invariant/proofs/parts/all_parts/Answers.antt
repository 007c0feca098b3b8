use Rattle.std.proofs.Common.{◌++◌, ◌∙◌, ap, subst, sym}
use Rattle.std.proofs.lemmas.List.Elements.{All-nil}
use Rattle.term_pool.specs.HeadTrees.{tree_at, trees_at, AreIn, IsIn}
use Rattle.lps_core.specs.TreeConditions.{tree_parts}
use Rattle.lps_invariant.proofs.PartsInCode.{parts_stand, parts_meant}
use Rattle.lps_invariant.proofs.parts.all_parts.Goals as goal

pub returns-clause-stand : goal.returns-clause-stand
returns-clause-stand c =
    let ts = c.args.pool.now.trees in
    let e = c.in_ok-add_parts.ensures.parts ∙ ap (λ z. trees_at ts z ++ tree_parts (tree_at ts c.args.term)) c.new-found.ensures.items in
    parts_stand c.args.sig.now c.signature_stands.ensures ts c.args.term c.add_parts.new.found.items c.requires e (c.in_ok-add_parts.ensures.within (subst (AreIn ts) (sym c.new-found.ensures.items) (All-nil (IsIn ts))))

pub returns-clause-parts : goal.returns-clause-parts
returns-clause-parts c =
    let ts = c.args.pool.now.trees in
    let e = c.in_ok-add_parts.ensures.parts ∙ ap (λ z. trees_at ts z ++ tree_parts (tree_at ts c.args.term)) c.new-found.ensures.items in
    parts_meant c.args.sig.now c.signature_stands.ensures ts c.args.term c.add_parts.new.found.items c.requires e
