use Rattle.data_typing.specs.declared.steps.Task as code
use Rattle.data_typing.specs.CodeSteps.{IsStepWithin, IsWantedWithin}
use Rattle.data_typing.proofs.StepsWithin.{some_expansion, all_popped, all_appended}
use Rattle.std.proofs.Common.{rules, ◌≡◌, [], length, subst}
use Rattle.std.specs.Prelude.{Option}
use Rattle.data_theory.specs.Terms.{truth}
use Rattle.data_typing.specs.declared.steps.Expansion.{Expansion}
use Rattle.data_typing.specs.NodeTypings.{node_typings, typing_at}
use Rattle.data_typing.specs.Making.{wished}
use Rattle.data_typing.specs.CodeSteps.{wish_of, weights, task_weight, Comes}
use Rattle.data_typing.proofs.StepLemmas.{no_term, made_first, made_more, made_last, never_none, tasks_fall, tasks_there, tasks_first, task_there}
use Rattle.data_typing.proofs.steps.steps_of.Goals as goal

pub loop-next-init : goal.loop-next-init
loop-next-init c = record {
  made = λ y.
      made_first y c.args.nodes.now (task_weight (weights c.args.nodes.now) c.args.task) (wished (wish_of c.args.task.wanted) (typing_at (node_typings y c.args.nodes.now) c.args.task.at)) c.in-Some.first
      (subst (λ (o : Option Expansion). Comes y c.args.nodes.now (task_weight (weights c.args.nodes.now) c.args.task) o (wished (wish_of c.args.task.wanted) (typing_at (node_typings y c.args.nodes.now) c.args.task.at))) c.in-Some.is (c.in_ok-first.ensures.comes y));
  there =
      tasks_first (λ f. truth) c.args.nodes.now (task_weight (weights c.args.nodes.now) c.args.task) (wished (wish_of c.args.task.wanted) (typing_at (node_typings (λ f. truth) c.args.nodes.now) c.args.task.at)) c.in-Some.first
      (subst (λ (o : Option Expansion). Comes (λ f. truth) c.args.nodes.now (task_weight (weights c.args.nodes.now) c.args.task) o (wished (wish_of c.args.task.wanted) (typing_at (node_typings (λ f. truth) c.args.nodes.now) c.args.task.at))) c.in-Some.is (c.in_ok-first.ensures.comes (λ f. truth)));
  within = λ n m nodes wish. let e = some_expansion n m c.in_ok-first.field-0 c.in-Some.first c.in-Some.is (c.in_ok-first.ensures.within n m nodes wish) in (e.steps, e.tasks);
}

pub expansion_of-requires-in-Some-pop-clause-there : goal.expansion_of-requires-in-Some-pop-clause-there
expansion_of-requires-in-Some-pop-clause-there c = task_there (length c.args.nodes.now) c.pop.new.self.items c.loop-next.tasks.items c.in-Some-pop.next c.in-Some-pop.ensures.items c.loop-next.invariant.there

pub returns-in_default-2-clause-steps : goal.returns-in_default-2-clause-steps
returns-in_default-2-clause-steps c = λ y.
    let n = c.args.nodes.now in
    no_term (wished (wish_of c.args.task.wanted) (typing_at (node_typings y n) c.args.task.at))
    (never_none y n (task_weight (weights n) c.in-Some-pop.next) (wished (wish_of c.args.task.wanted) (typing_at (node_typings y n) c.args.task.at)) c.loop-next.steps.items c.pop.new.self.items c.loop-next.tasks.items c.in-Some-pop.next c.in-Some-pop.ensures.items
    (subst (λ (o : Option Expansion). Comes y n (task_weight (weights n) c.in-Some-pop.next) o (wished (wish_of c.in-Some-pop.next.wanted) (typing_at (node_typings y n) c.in-Some-pop.next.at))) c.in_default-2.is (c.in_ok-expansion.ensures.comes y)) (c.loop-next.invariant.made y))

pub loop-next-smaller : goal.loop-next-smaller
loop-next-smaller c =
    let n = c.args.nodes.now in
    tasks_fall (λ f. truth) n c.pop.new.self.items c.append-in-Some-pop.new.self.items c.loop-next.tasks.items c.in-Some-pop.next c.in-Some-2.expansion (wished (wish_of c.in-Some-pop.next.wanted) (typing_at (node_typings (λ f. truth) n) c.in-Some-pop.next.at)) c.in-Some-pop.ensures.items
    (subst (λ (o : Option Expansion). Comes (λ f. truth) n (task_weight (weights n) c.in-Some-pop.next) o (wished (wish_of c.in-Some-pop.next.wanted) (typing_at (node_typings (λ f. truth) n) c.in-Some-pop.next.at))) c.in-Some-2.is (c.in_ok-expansion.ensures.comes (λ f. truth)))
    c.in_ok-append-2.ensures.items

pub loop-next-preserved : goal.loop-next-preserved
loop-next-preserved c =
    let n = c.args.nodes.now in
    record {
      made = λ y.
          made_more y n (task_weight (weights n) c.in-Some-pop.next) (wished (wish_of c.args.task.wanted) (typing_at (node_typings y n) c.args.task.at)) c.loop-next.steps.items c.append.new.self.items c.pop.new.self.items c.append-in-Some-pop.new.self.items c.loop-next.tasks.items c.in-Some-pop.next c.in-Some-2.expansion c.in-Some-pop.ensures.items
          (subst (λ (o : Option Expansion). Comes y n (task_weight (weights n) c.in-Some-pop.next) o (wished (wish_of c.in-Some-pop.next.wanted) (typing_at (node_typings y n) c.in-Some-pop.next.at))) c.in-Some-2.is (c.in_ok-expansion.ensures.comes y))
          c.in_ok-append.ensures.items c.in_ok-append-2.ensures.items (c.loop-next.invariant.made y);
      there =
          tasks_there (λ f. truth) n (task_weight (weights n) c.in-Some-pop.next) c.pop.new.self.items c.append-in-Some-pop.new.self.items c.loop-next.tasks.items c.in-Some-pop.next c.in-Some-2.expansion (wished (wish_of c.in-Some-pop.next.wanted) (typing_at (node_typings (λ f. truth) n) c.in-Some-pop.next.at)) c.in-Some-pop.ensures.items
          (subst (λ (o : Option Expansion). Comes (λ f. truth) n (task_weight (weights n) c.in-Some-pop.next) o (wished (wish_of c.in-Some-pop.next.wanted) (typing_at (node_typings (λ f. truth) n) c.in-Some-pop.next.at))) c.in-Some-2.is (c.in_ok-expansion.ensures.comes (λ f. truth)))
          c.in_ok-append-2.ensures.items c.loop-next.invariant.there;
      within = λ n m nodes wish.
          let before = c.loop-next.invariant.within n m nodes wish in
          let left = all_popped (λ (k : code.Task). IsWantedWithin n k.wanted) c.pop.new.self.items c.loop-next.tasks.items c.in-Some-pop.next c.in-Some-pop.ensures.items before.1 in
          let e = some_expansion n m c.in_ok-expansion.field-0 c.in-Some-2.expansion c.in-Some-2.is (c.in_ok-expansion.ensures.within n m nodes left.1) in (
            all_appended (IsStepWithin n m) c.loop-next.steps.items c.in-Some-2.expansion.steps.items c.append.new.self.items c.in_ok-append.ensures.items before.0 e.steps,
            all_appended (λ (k : code.Task). IsWantedWithin n k.wanted) c.pop.new.self.items c.in-Some-2.expansion.tasks.items c.append-in-Some-pop.new.self.items c.in_ok-append-2.ensures.items left.0 e.tasks,
          );
    }

pub returns-clause-steps : goal.returns-clause-steps
returns-clause-steps c = λ y.
    let none : c.loop-next.tasks.items ≡ [] = search rules in
    made_last y c.args.nodes.now (wished (wish_of c.args.task.wanted) (typing_at (node_typings y c.args.nodes.now) c.args.task.at)) c.loop-next.steps.items c.loop-next.tasks.items none (c.loop-next.invariant.made y)

pub returns-clause-within : goal.returns-clause-within
returns-clause-within c = λ n m nodes wish. (c.loop-next.invariant.within n m nodes wish).0
