use Rattle.std.proofs.Common.{◌≡◌, ◌++◌, ◌∙◌, map, ap, sym, subst}
use Rattle.std.proofs.lemmas.List.Elements.{All-nil}
use Rattle.data_theory.specs.IdTerms.{term_under}
use Rattle.term_pool.specs.HeadTrees.{tree_at, trees_at, IsIn, AreIn}
use Rattle.lps_core.specs.Conditions.{parts, without_true}
use Rattle.lps_core.specs.TreeConditions.{conjunction_tree, tree_parts, trees_without_true}
use Rattle.communication.specs.Plans.{plain_plan, equalities_of_each}
use Rattle.communication.specs.PlanMeanings.{against, equality_of, planned_condition, IsPart}
use Rattle.communication.proofs.PartTerms.{PartsGrow, condition_made, condition_parts, if_both, parts_within}
use Rattle.communication.proofs.conditions.condition_of.Goals as goal

pub conjoined-requires : goal.conjoined-requires
conjoined-requires c =
    let g = c.args.sig.now in
    let ts = c.args.pool.now.trees in
    let us = c.add_equalities.new.pool.trees in
    let vs = c.add_against.new.pool.trees in
    let p = plain_plan c.args.plan.now in
    parts_within g vs c.add_against.new.parts.items ((without_true (parts (term_under g (tree_at ts c.args.cond))) ++ map (equality_of g ts) p.equal) ++ map (against g us) p.further)
    (condition_parts g c.signature_stands.ensures ts us vs c.args.cond p c.parts_of.new.found.items c.add_equalities.new.parts.items c.add_against.new.parts.items c.requires.cond
    (c.in_ok-parts_of.ensures.within (subst (λ l. AreIn ts l) (sym c.new-parts.ensures.items) (All-nil (IsIn ts))))
    (c.in_ok-parts_of.ensures.parts ∙ ap (λ l. trees_at ts l ++ trees_without_true (tree_parts (tree_at ts c.args.cond))) c.new-parts.ensures.items)
    (subst (λ l. PartsGrow g ts c.parts_of.new.found.items us c.add_equalities.new.parts.items (map (equality_of g ts) l)) c.as_slice.ensures.value c.in_ok-add_equalities.ensures.parts)
    (subst (λ l. PartsGrow g us c.add_equalities.new.parts.items vs c.add_against.new.parts.items (map (against g us) (equalities_of_each l))) c.as_slice-2.ensures.value c.in_ok-add_against.ensures.parts))

pub returns-clause-means : goal.returns-clause-means
returns-clause-means c =
    let g = c.args.sig.now in
    let ts = c.args.pool.now.trees in
    let us = c.add_equalities.new.pool.trees in
    let vs = c.add_against.new.pool.trees in
    let ws = c.conjoined.new.pool.trees in
    let p = plain_plan c.args.plan.now in
    if_both c.conjoined.result (λ id. IsIn ws id) (λ id. tree_at ws id ≡ conjunction_tree (trees_at vs c.add_against.new.parts.items)) (λ id. IsPart g ws id (planned_condition g ts (term_under g (tree_at ts c.args.cond)) p))
    (λ id within tree. condition_made g c.signature_stands.ensures ts us vs c.args.cond p c.parts_of.new.found.items c.add_equalities.new.parts.items c.add_against.new.parts.items c.requires.cond
    (c.in_ok-parts_of.ensures.within (subst (λ l. AreIn ts l) (sym c.new-parts.ensures.items) (All-nil (IsIn ts))))
    (c.in_ok-parts_of.ensures.parts ∙ ap (λ l. trees_at ts l ++ trees_without_true (tree_parts (tree_at ts c.args.cond))) c.new-parts.ensures.items)
    (subst (λ l. PartsGrow g ts c.parts_of.new.found.items us c.add_equalities.new.parts.items (map (equality_of g ts) l)) c.as_slice.ensures.value c.in_ok-add_equalities.ensures.parts)
    (subst (λ l. PartsGrow g us c.add_equalities.new.parts.items vs c.add_against.new.parts.items (map (against g us) (equalities_of_each l))) c.as_slice-2.ensures.value c.in_ok-add_against.ensures.parts)
    ws id c.add_equalities.ensures.kept c.requires.plan.further within tree)
    c.conjoined.ensures.within c.conjoined.ensures.tree
