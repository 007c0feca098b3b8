use Rattle.std.proofs.Common.{◌≡◌, OnOk, ap, subst, ◌∙◌, ◌++◌}
use Rattle.greibach.specs.PlainForms.{plain_form_summand}
use Rattle.regular_encoder.specs.WholeEncoding.{trees_of_summands}
use Rattle.term_pool.specs.Bindings.{listed}
use Rattle.stack_encoder.specs.Frames.{frame_layout, plain_symbols}
use Rattle.stack_encoder.proofs.StackedTrees.{last_stacked, up_stacked, summands_in_pushed, summands_pushed, no_calls, some_calls}
use Rattle.stack_encoder.proofs.encoding.encode_summand.Goals as goal

pub returns-then-len-eq0-clause-summands : goal.returns-then-len-eq0-clause-summands
returns-then-len-eq0-clause-summands c =
    subst (λ z. OnOk c.encode_last.result (trees_of_summands c.encode_last.new.pool.trees c.encode_last.new.summands.items ≡ trees_of_summands c.args.pool.now.trees c.args.summands.now.items ++ z))
    (last_stacked (plain_symbols c.args.symbols.now) (frame_layout c.args.pool.now.trees c.args.layout.now) c.args.symbols.now.stack c.args.number (listed c.args.pool.now.trees c.args.by.now) c.args.pool.now.trees (plain_form_summand c.args.summand.now)
    (no_calls c.args.summand.now c.len.result c.len.ensures c.if-len-eq0.true))
    c.encode_last.ensures.summands

pub returns-clause-within : goal.returns-clause-within
returns-clause-within c = summands_in_pushed c.args.pool.now.trees c.encode_up.new.pool.trees c.args.summands.now.items c.push.new.self.items c.in_ok-encode_up.field-0 c.encode_up.ensures.kept c.requires.made c.in_ok-push.ensures.items c.in_ok-encode_up.ensures.within

pub returns-clause-summands : goal.returns-clause-summands
returns-clause-summands c =
    summands_pushed c.args.pool.now.trees c.encode_up.new.pool.trees c.args.summands.now.items c.push.new.self.items c.in_ok-encode_up.field-0 _ c.encode_up.ensures.kept c.requires.made c.in_ok-push.ensures.items c.in_ok-encode_up.ensures.summand
    ∙ ap (λ z. trees_of_summands c.args.pool.now.trees c.args.summands.now.items ++ z)
    (up_stacked (plain_symbols c.args.symbols.now) (frame_layout c.args.pool.now.trees c.args.layout.now) c.args.symbols.now.stack c.args.number (listed c.args.pool.now.trees c.args.by.now) c.args.pool.now.trees (plain_form_summand c.args.summand.now)
    (some_calls c.args.summand.now c.len.result c.len.ensures c.if-len-eq0.false))
