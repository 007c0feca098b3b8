use Rattle.std.proofs.Common.{refl, sym, ◌∙◌}
use Rattle.std.specs.Prelude.{Some}
use Rattle.std.proofs.lemmas.Map.Text.{btree_map_updates_str}
use Rattle.mcrl2_syntax.specs.ProcessParts.{PlainAssignment, assignment_of}
use Rattle.sort_checker.specs.ReadyTrees.{an_expression, IsReadyLeaf}
use Rattle.sort_checker.proofs.ReadLists.{at_twice}
use Rattle.sort_checker.proofs.TypedValues.{no_values, assigned_again, once_more, value_more}
use Rattle.sort_checker.proofs.typed_parts.values_of.Goals as goal

pub loop-assignment-init : goal.loop-assignment-init
loop-assignment-init c = record { once = refl; values = no_values c.args.context.now c.args.scope.now c.new-values.result c.new-values.ensures.empty }

pub returns-then-is_some-clause-once : goal.returns-then-is_some-clause-once
returns-then-is_some-clause-once c =
    assigned_again c.args.context.now c.args.scope.now c.args.assignments.now c.loop-assignment.assignment-index c.assignment-item.result c.loop-assignment.values c.as_slice-name.result.now c.get.result c.loop-assignment-test.true c.assignment-item.is c.loop-assignment.invariant.values c.as_slice-name.ensures.value c.get.ensures.value
    (sym c.is_some.ensures ∙ c.if-is_some.true)

pub read_in-requires-clause-words : goal.read_in-requires-clause-words
read_in-requires-clause-words c =
    at_twice (IsReadyLeaf c.args.context.now.sig.now.texts) assignment_of (λ (x : PlainAssignment). an_expression x.value) c.args.assignments.now c.loop-assignment.assignment-index c.assignment-item.result c.loop-assignment-test.true c.assignment-item.is c.requires.ready

pub loop-assignment-preserved : goal.loop-assignment-preserved
loop-assignment-preserved c = record {
  once = once_more c.args.context.now c.args.scope.now c.args.assignments.now c.loop-assignment.assignment-index c.assignment-item.result c.loop-assignment-test.true c.assignment-item.is c.loop-assignment.values c.insert.new.self c.loop-assignment.invariant.values c.as_slice-name.result.now c.as_slice-name.ensures.value c.get.result c.get.ensures.value
      (sym c.is_some.ensures ∙ c.if-is_some.false) c.loop-assignment.invariant.once;
  values = value_more c.args.context.now c.args.scope.now c.args.assignments.now c.loop-assignment.assignment-index c.assignment-item.result c.loop-assignment-test.true c.assignment-item.is c.loop-assignment.values c.insert.new.self c.loop-assignment.invariant.values c.as_slice-name.result.now c.as_slice-name.ensures.value c.get.result c.get.ensures.value
      (sym c.is_some.ensures ∙ c.if-is_some.false) c.in_ok-value.value c.in_ok-value.ensures.typing (btree_map_updates_str c.as_slice-name.result.now c.loop-assignment.values c.insert.new.self (Some c.in_ok-value.value) c.in_ok-insert.ensures.updates);
}
