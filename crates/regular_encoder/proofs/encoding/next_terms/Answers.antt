use Rattle.lps_core.specs.TreeSummands.{bound_tree}
use Rattle.std.proofs.Common.{◌≡◌, ◌++◌, map, ap, sym, ◌∙◌}
use Rattle.data_theory.specs.IdTrees.{put_tree}
use Rattle.term_pool.specs.HeadTrees.{trees_at}
use Rattle.term_pool.specs.Bindings.{listed}
use Rattle.regular_encoder.specs.TreeEncoding.{plain_layout, place_at}
use Rattle.regular_encoder.proofs.ColumnTrees.{next_made, place_read}
use Rattle.regular_encoder.proofs.encoding.next_terms.Goals as goal

pub returns-clause-terms : goal.returns-clause-terms
returns-clause-terms c =
    let place : c.as_slice-place.result.now ≡ place_at (plain_layout c.args.layout.now) c.args.call.now.0 = c.as_slice-place.ensures.value ∙ ap (λ v. v.items) c.index.ensures ∙ sym (place_read c.args.layout.now c.args.call.now.0 _ c.requires.call.from_one c.requires.call.within) in
    next_made (plain_layout c.args.layout.now) c.args.by.now c.args.call.now.0 c.args.call.now.1.items c.args.pool.now.trees c.put_all.new.pool.trees c.control_terms.new.pool.trees c.column_terms.new.pool.trees
    c.in_ok-args.args.items c.in_ok-terms.terms.items c.column_terms.new.terms.items c.as_slice-place.result.now
    c.control_terms.ensures.kept c.in_ok-args.ensures.within
    (c.in_ok-args.ensures.terms ∙ ap (λ z. map (put_tree (listed c.args.pool.now.trees c.args.by.now)) (trees_at c.args.pool.now.trees z)) c.as_slice.ensures.value)
    c.in_ok-terms.ensures.terms place
    (c.in_ok-column_terms.ensures.terms
    ∙ ap (λ z. trees_at c.control_terms.new.pool.trees c.in_ok-terms.terms.items ++ map (bound_tree c.as_slice-place.result.now (trees_at c.control_terms.new.pool.trees z)) c.as_slice-2.result.now) c.as_slice-3.ensures.value
    ∙ ap (λ z. trees_at c.control_terms.new.pool.trees c.in_ok-terms.terms.items ++ map (bound_tree c.as_slice-place.result.now (trees_at c.control_terms.new.pool.trees c.in_ok-args.args.items)) z) c.as_slice-2.ensures.value)
