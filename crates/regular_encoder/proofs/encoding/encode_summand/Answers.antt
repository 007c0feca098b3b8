use Rattle.std.proofs.Common.{◌≡◌, rules, map, ap, ◌∙◌}
use Rattle.greibach.specs.PlainForms.{plain_call}
use Rattle.term_pool.specs.Bindings.{listed}
use Rattle.regular_encoder.specs.TreeEncoding.{plain_layout, tree_encoded_next}
use Rattle.regular_encoder.proofs.ColumnTrees.{summand_made}
use Rattle.regular_encoder.proofs.encoding.encode_summand.Goals as goal

pub returns-clause-summand : goal.returns-clause-summand
returns-clause-summand c =
    let sums : c.in_ok-to_vec.field-0.items ≡ c.args.summand.now.sums.items = search rules in
    summand_made _ _ _ _ c.args.pool.now.trees c.encode_condition.new.pool.trees c.put_label.new.pool.trees c.encode_next.new.pool.trees _ c.requires.within c.requires.listed
    c.encode_condition.ensures.kept c.put_label.ensures.kept c.encode_next.ensures.kept sums c.in_ok-cond.ensures.within c.in_ok-cond.ensures.tree c.in_ok-label.ensures.within c.in_ok-label.ensures.label
    (c.in_ok-next.ensures.next ∙ ap (λ z. tree_encoded_next (plain_layout c.args.layout.now) (listed c.put_label.new.pool.trees c.args.by.now) c.put_label.new.pool.trees (map plain_call z)) c.as_slice.ensures.value)
