use Rattle.std.proofs.Common.{◌≡◌, rules}
use Rattle.greibach.specs.PlainForms.{plain_form_summand}
use Rattle.stack_encoder.specs.Frames.{plain_symbols}
use Rattle.stack_encoder.proofs.StackedTrees.{way_made}
use Rattle.stack_encoder.proofs.encoding.encode_way.Goals as goal

pub returns-clause-summand : goal.returns-clause-summand
returns-clause-summand c =
    let sums : c.in_ok-to_vec.field-0.items ≡ c.args.summand.now.sums.items = search rules in
    way_made (plain_symbols c.args.symbols.now) c.args.symbols.now.stack c.args.number c.args.by.now (plain_form_summand c.args.summand.now) c.args.pool.now.trees c.subst.new.self.trees c.encode_condition.new.pool.trees c.put_label.new.pool.trees
    c.in_ok-own.own c.args.further.now _ c.requires.within c.requires.listed c.subst.ensures.kept c.encode_condition.ensures.kept c.put_label.ensures.kept sums c.in_ok-cond.ensures.within c.in_ok-own.ensures.tree c.in_ok-cond.ensures.tree c.in_ok-label.ensures.label
