use Rattle.std.proofs.Common.{◌≤◌, ◌-◌, ◌+◌, length, arith}
use Rattle.data_theory.specs.IdTerms.{symbol_under}
use Rattle.data_typing.specs.CodeWords.{meaning_in}
use Rattle.data_typing.proofs.NodeLemmas.{below_at}
use Rattle.data_typing.proofs.ReadingLemmas.{not_on, goes_on, join_begins, join_goes_on, join_of_none, none_there, some_there}
use Rattle.data_typing.proofs.reading.join.Goals as goal

pub returns-then-is_empty-clause-stands : goal.returns-then-is_empty-clause-stands
returns-then-is_empty-clause-stands c =
    join_of_none (symbol_under c.args.context.now.sig.now) (meaning_in c.args.context.now.sig.now c.args.context.now.scope.now) c.args.text.now c.args.nodes.now.items c.add_name.new.nodes.items c.args.operands.now (none_there c.args.operands.now c.is_empty.result c.is_empty.ensures c.if-is_empty.true) c.add_name.result c.add_name.ensures.stands

pub loop-step-init : goal.loop-step-init
loop-step-init c =
    let some : 1 ≤ length c.args.operands.now = some_there c.args.operands.now c.is_empty.result c.is_empty.ensures c.if-is_empty.false in
    record {
      words = c.requires.words;
      grown = not_on c.args.nodes.now.items c.requires.nodes;
      sound = λ h. h;
      stands = λ es s. join_begins (symbol_under c.args.context.now.sig.now) (meaning_in c.args.context.now.sig.now c.args.context.now.scope.now) c.args.text.now c.args.nodes.now.items c.args.operands.now es s (length c.args.operands.now - 1) _ (omega arith) (omega (arith, some));
      within = below_at (length c.args.nodes.now.items) c.args.operands.now (length c.args.operands.now - 1) c.requires.below (omega (arith, some));
    }

pub loop-step-preserved : goal.loop-step-preserved
loop-step-preserved c =
    let some : 1 ≤ length c.args.operands.now = some_there c.args.operands.now c.is_empty.result c.is_empty.ensures c.if-is_empty.false in
    record {
      words = c.in_ok-at.ensures.words;
      grown = goes_on c.args.nodes.now.items c.loop-step.nodes.items c.add_word.new.nodes.items c.loop-step.invariant.grown c.in_ok-at.ensures.grown;
      sound = λ h. c.in_ok-at.ensures.sound (c.loop-step.invariant.sound h);
      stands = λ es s.
          join_goes_on (symbol_under c.args.context.now.sig.now) (meaning_in c.args.context.now.sig.now c.args.context.now.scope.now) c.args.text.now c.args.nodes.now.items c.loop-step.nodes.items c.add_word.new.nodes.items c.args.operands.now es s c.loop-step.invariant.grown
          (length c.args.operands.now - 1 - 1 - c.loop-step.step) (length c.args.operands.now - 1 - c.loop-step.step) (length c.args.operands.now - 1 - (c.loop-step.step + 1)) c.loop-step.at c.in_ok-at.at
          (omega arith) (omega (arith, some, c.loop-step-test.true)) (omega (arith, some, c.loop-step-test.true)) (c.loop-step.invariant.stands es s) c.in_ok-parts.parts.items c.in_ok-parts.ensures.items c.in_ok-at.ensures.stands;
      within = c.in_ok-at.ensures.within;
    }

pub returns-clause-sound : goal.returns-clause-sound
returns-clause-sound c = c.loop-step.invariant.sound
