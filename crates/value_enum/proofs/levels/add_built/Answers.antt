use Rattle.std.proofs.Common.{[], ◌∙◌, refl, sym, ap, subst, arith}
use Rattle.data_theory.specs.IdTrees.{trees_of, apply_tree}
use Rattle.term_pool.specs.HeadTrees.{trees_at, AreIn}
use Rattle.term_pool.proofs.NodeTrees.{extends_itself, extends_on, stay_in}
use Rattle.value_enum.specs.Levels.{plain_tuples}
use Rattle.value_enum.proofs.BuiltLoops.{none_added, one_added, adding_stops, adding_ends, tuple_inside}
use Rattle.value_enum.proofs.TupleLists.{plain_length, plain_read}
use Rattle.value_enum.proofs.levels.add_built.Goals as goal

pub loop-tuple-init : goal.loop-tuple-init
loop-tuple-init c = record {
  kept = extends_itself c.args.pool.now.trees;
  constants = refl;
  room = c.requires.room;
  added = none_added c.args.fun c.args.bound c.args.pool.now.trees c.args.values.now.items (plain_tuples c.args.tuples.now) c.requires.room;
}

pub returns-then-len-bound-clause-kept : goal.returns-then-len-bound-clause-kept
returns-then-len-bound-clause-kept c = c.loop-tuple.invariant.kept

pub returns-then-len-bound-clause-constants : goal.returns-then-len-bound-clause-constants
returns-then-len-bound-clause-constants c = c.loop-tuple.invariant.constants

pub returns-then-len-bound-clause-added : goal.returns-then-len-bound-clause-added
returns-then-len-bound-clause-added c =
    adding_stops c.args.fun c.args.bound c.args.pool.now.trees c.args.values.now.items (plain_tuples c.args.tuples.now) c.loop-tuple.pool.trees c.loop-tuple.values.items c.loop-tuple.tuple-index (omega (arith, c.len.ensures)) c.loop-tuple.invariant.added

pub returns-then-len-bound-clause-room : goal.returns-then-len-bound-clause-room
returns-then-len-bound-clause-room c = c.loop-tuple.invariant.room

pub intern-requires-clause-within : goal.intern-requires-clause-within
intern-requires-clause-within c =
    let e = plain_length c.args.tuples.now in
    let inside = tuple_inside c.args.pool.now.trees (plain_tuples c.args.tuples.now) c.requires.tuples.0 c.loop-tuple.tuple-index [] c.requires.tuples.1 (omega (arith, e)) in
    subst (AreIn c.loop-tuple.pool.trees) (plain_read c.args.tuples.now c.loop-tuple.tuple-index [] c.tuple-item.result c.loop-tuple-test.true c.tuple-item.is ∙ sym c.as_slice.ensures.value) (stay_in c.args.pool.now.trees c.loop-tuple.pool.trees _ c.loop-tuple.invariant.kept inside)

pub returns-in_err-value-clause-kept : goal.returns-in_err-value-clause-kept
returns-in_err-value-clause-kept c = extends_on c.args.pool.now.trees c.loop-tuple.pool.trees c.intern.new.self.trees c.loop-tuple.invariant.kept c.intern.ensures.kept

pub returns-in_err-value-clause-constants : goal.returns-in_err-value-clause-constants
returns-in_err-value-clause-constants c = c.intern.ensures.constants ∙ c.loop-tuple.invariant.constants

pub returns-in_err-push-clause-kept : goal.returns-in_err-push-clause-kept
returns-in_err-push-clause-kept c = extends_on c.args.pool.now.trees c.loop-tuple.pool.trees c.intern.new.self.trees c.loop-tuple.invariant.kept c.intern.ensures.kept

pub returns-in_err-push-clause-constants : goal.returns-in_err-push-clause-constants
returns-in_err-push-clause-constants c = c.intern.ensures.constants ∙ c.loop-tuple.invariant.constants

pub loop-tuple-preserved : goal.loop-tuple-preserved
loop-tuple-preserved c =
    let e = plain_length c.args.tuples.now in
    let read = plain_read c.args.tuples.now c.loop-tuple.tuple-index [] c.tuple-item.result c.loop-tuple-test.true c.tuple-item.is in
    record {
      kept = extends_on c.args.pool.now.trees c.loop-tuple.pool.trees c.intern.new.self.trees c.loop-tuple.invariant.kept c.intern.ensures.kept;
      constants = c.intern.ensures.constants ∙ c.loop-tuple.invariant.constants;
      room = omega (arith, c.in_ok-push.ensures.len, c.len.ensures, c.if-len-bound.false);
      added = one_added c.args.fun c.args.bound c.args.pool.now.trees c.args.values.now.items (plain_tuples c.args.tuples.now) c.loop-tuple.pool.trees c.intern.new.self.trees c.loop-tuple.values.items c.push.new.self.items c.loop-tuple.tuple-index [] c.in_ok-value.value c.loop-tuple.invariant.kept c.intern.ensures.kept
          (omega (arith, e)) (omega (arith, c.len.ensures, c.if-len-bound.false)) (c.in_ok-value.ensures.tree ∙ ap (λ ids. apply_tree c.args.fun (trees_of (trees_at c.loop-tuple.pool.trees ids))) (c.as_slice.ensures.value ∙ sym read)) c.in_ok-value.ensures.within c.in_ok-push.ensures.items c.loop-tuple.invariant.added;
    }

pub returns-clause-kept : goal.returns-clause-kept
returns-clause-kept c = c.loop-tuple.invariant.kept

pub returns-clause-constants : goal.returns-clause-constants
returns-clause-constants c = c.loop-tuple.invariant.constants

pub returns-clause-added : goal.returns-clause-added
returns-clause-added c =
    adding_ends c.args.fun c.args.bound c.args.pool.now.trees c.args.values.now.items (plain_tuples c.args.tuples.now) c.loop-tuple.pool.trees c.loop-tuple.values.items c.loop-tuple.tuple-index (let e = plain_length c.args.tuples.now in omega (arith, e)) c.loop-tuple.invariant.added

pub returns-clause-room : goal.returns-clause-room
returns-clause-room c = c.loop-tuple.invariant.room
