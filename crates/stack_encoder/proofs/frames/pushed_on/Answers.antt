use Rattle.std.proofs.Common.{◌≤◌, length, arith, ◌∙◌, refl}
use Rattle.greibach.specs.PlainForms.{plain_call}
use Rattle.lps_core.proofs.PoolTrees.{extends_on, all_in_kept}
use Rattle.term_pool.specs.Bindings.{listed_terms}
use Rattle.stack_encoder.specs.Frames.{frame_layout, plain_symbols}
use Rattle.stack_encoder.specs.TreeStack.{IsCallIn}
use Rattle.stack_encoder.proofs.FrameTrees.{pushing_none, pushing_more, pushing_all, call_at}
use Rattle.stack_encoder.proofs.StackedTrees.{call_in_kept}
use Rattle.stack_encoder.proofs.frames.pushed_on.Goals as goal

pub loop-number-init : goal.loop-number-init
loop-number-init c = (pushing_none _ _ _ _ _ _ c.requires.below, refl)

pub pushed_call-requires-clause-call : goal.pushed_call-requires-clause-call
pushed_call-requires-clause-call c =
    call_in_kept c.args.pool.now.trees c.loop-number.pool.trees (frame_layout c.args.pool.now.trees c.args.layout.now) (frame_layout c.loop-number.pool.trees c.args.layout.now) refl c.loop-number.invariant.0.kept (plain_call c.index-calls-calls.result)
    (call_at (IsCallIn c.args.pool.now.trees (frame_layout c.args.pool.now.trees c.args.layout.now)) c.args.calls.now c.loop-number.number c.index-calls-calls.result c.loop-number-test.true c.index-calls-calls.is c.requires.calls)

pub pushed_call-requires-clause-listed : goal.pushed_call-requires-clause-listed
pushed_call-requires-clause-listed c = all_in_kept c.args.pool.now.trees c.loop-number.pool.trees (listed_terms c.args.by.now) c.loop-number.invariant.0.kept c.requires.listed

pub pushed_call-requires-clause-below : goal.pushed_call-requires-clause-below
pushed_call-requires-clause-below c = c.loop-number.invariant.0.within

pub pushed_call-requires-clause-defaults : goal.pushed_call-requires-clause-defaults
pushed_call-requires-clause-defaults c = all_in_kept c.args.pool.now.trees c.loop-number.pool.trees c.args.layout.now.defaults.items c.loop-number.invariant.0.kept c.requires.defaults

pub returns-in_err-top-clause-kept : goal.returns-in_err-top-clause-kept
returns-in_err-top-clause-kept c = extends_on c.args.pool.now.trees c.loop-number.pool.trees c.pushed_call.new.pool.trees c.loop-number.invariant.0.kept c.pushed_call.ensures.kept

pub returns-in_err-top-clause-constants : goal.returns-in_err-top-clause-constants
returns-in_err-top-clause-constants c = c.pushed_call.ensures.constants ∙ c.loop-number.invariant.1

pub loop-number-preserved : goal.loop-number-preserved
loop-number-preserved c = (
  pushing_more (plain_symbols c.args.symbols.now) c.args.layout.now c.args.by.now c.args.pool.now.trees c.args.below c.args.calls.now c.loop-number.number c.loop-number.pool.trees c.loop-number.top c.index-calls-calls.result
      c.loop-number.invariant.0 c.loop-number-test.true c.index-calls-calls.is c.requires.defaults c.requires.listed
      (call_at (IsCallIn c.args.pool.now.trees (frame_layout c.args.pool.now.trees c.args.layout.now)) c.args.calls.now c.loop-number.number c.index-calls-calls.result c.loop-number-test.true c.index-calls-calls.is c.requires.calls).args
      c.pushed_call.new.pool.trees c.in_ok-top.top c.pushed_call.ensures.kept c.in_ok-top.ensures.within c.in_ok-top.ensures.tree,
  c.pushed_call.ensures.constants ∙ c.loop-number.invariant.1,
)

pub returns-clause-kept : goal.returns-clause-kept
returns-clause-kept c = c.loop-number.invariant.0.kept

pub returns-clause-constants : goal.returns-clause-constants
returns-clause-constants c = c.loop-number.invariant.1

pub returns-clause-within : goal.returns-clause-within
returns-clause-within c = c.loop-number.invariant.0.within

pub returns-clause-tree : goal.returns-clause-tree
returns-clause-tree c =
    let n = c.loop-number-test.false in
    let l : length c.args.calls.now ≤ c.loop-number.number = omega (arith, n) in
    pushing_all (plain_symbols c.args.symbols.now) c.args.layout.now c.args.by.now c.args.pool.now.trees c.args.below c.args.calls.now c.loop-number.number c.loop-number.pool.trees c.loop-number.top c.loop-number.invariant.0 l
