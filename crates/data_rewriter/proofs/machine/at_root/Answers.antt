use Rattle.std.proofs.Common.{subst, Option, Some, None}
use Rattle.std.specs.Prelude.{IfSome}
use Rattle.data_rewriter.specs.declared.equations.Found.{Found}
use Rattle.data_rewriter.specs.declared.machine.Hand.TheVariants.{Root}
use Rattle.data_rewriter.specs.States.{IsFoundWithin, IsFoundIn, IsFirstOrNone, AreIdsIn}
use Rattle.data_rewriter.proofs.StateMoves.{within_kept, shows_kept, ids_kept}
use Rattle.data_rewriter.specs.Standing.{IsTerm}
use Rattle.data_rewriter.proofs.StepMoves.{root_stays}
use Rattle.data_rewriter.proofs.PaidSteps.{pays_where_none_applies}
use Rattle.data_rewriter.proofs.PaidVisits.{pays_kept}
use Rattle.data_rewriter.proofs.machine.at_root.Goals as goal

pub returns-in_ok-place-in-Some-clause-ids : goal.returns-in_ok-place-in-Some-clause-ids
returns-in_ok-place-in-Some-clause-ids g c =
    let ids : AreIdsIn c.first_equation.new.pool.trees c.args.stack.now c.args.start (Root c.args.root c.args.from) = ids_kept c.args.pool.now.trees c.first_equation.new.pool.trees c.args.stack.now c.args.start (Root c.args.root c.args.from) c.in_ok-found.ensures.kept c.requires.ids in
    let within : IfSome (Some c.in-Some.found) (IsFoundIn c.first_equation.new.pool.trees) = subst (λ (r : Option Found). IfSome r (IsFoundIn c.first_equation.new.pool.trees)) c.in-Some.is c.in_ok-found.ensures.within in
    c.in_ok-place-in-Some.ensures.ids c.first_equation.new.pool.trees ids within

pub returns-in_ok-place-in-Some-clause-follows : goal.returns-in_ok-place-in-Some-clause-follows
returns-in_ok-place-in-Some-clause-follows g c = λ sig own all w.
    let root : IsTerm sig c.args.pool.now.trees c.args.root = record { inside = c.requires.ids.held.0; within = w.held } in
    let first : IsFirstOrNone sig own c.first_equation.new.pool.trees c.args.root c.args.from (Some c.in-Some.found) × IfSome (Some c.in-Some.found) (IsFoundWithin sig c.first_equation.new.pool.trees) = subst (λ (r : Option Found). IsFirstOrNone sig own c.first_equation.new.pool.trees c.args.root c.args.from r × IfSome r (IsFoundWithin sig c.first_equation.new.pool.trees)) c.in-Some.is (c.in_ok-found.ensures.first sig own all root) in
    let kept = within_kept sig c.args.pool.now.trees c.first_equation.new.pool.trees c.in_ok-found.ensures.kept c.args.stack.now c.args.start c.args.root c.args.from c.requires.ids w in
    let next = c.in_ok-place-in-Some.ensures.follows c.first_equation.new.pool.trees sig own first kept in (
      next.0,
      λ origin before s. next.1 origin before
          (shows_kept sig own c.args.pool.now.trees c.first_equation.new.pool.trees c.in_ok-found.ensures.kept origin c.args.stack.now c.args.start (Root c.args.root c.args.from) before c.args.fuel.now c.requires.ids s),
    )

pub returns-in-None-clause-follows : goal.returns-in-None-clause-follows
returns-in-None-clause-follows g c = λ sig own all w.
    let root : IsTerm sig c.args.pool.now.trees c.args.root = record { inside = c.requires.ids.held.0; within = w.held } in
    let none : IsFirstOrNone sig own c.first_equation.new.pool.trees c.args.root c.args.from None = subst (λ (r : Option Found). IsFirstOrNone sig own c.first_equation.new.pool.trees c.args.root c.args.from r) c.in-None.is (c.in_ok-found.ensures.first sig own all root).0 in
    let kept = within_kept sig c.args.pool.now.trees c.first_equation.new.pool.trees c.in_ok-found.ensures.kept c.args.stack.now c.args.start c.args.root c.args.from c.requires.ids w in (
      record { frames = kept.frames; begin = kept.begin; held = kept.held },
      λ origin before s.
          root_stays sig own c.first_equation.new.pool.trees origin c.args.stack.now c.args.start before c.args.root c.args.from c.args.fuel.now none
          (shows_kept sig own c.args.pool.now.trees c.first_equation.new.pool.trees c.in_ok-found.ensures.kept origin c.args.stack.now c.args.start (Root c.args.root c.args.from) before c.args.fuel.now c.requires.ids s),
    )

pub returns-in_ok-place-in-Some-clause-pays : goal.returns-in_ok-place-in-Some-clause-pays
returns-in_ok-place-in-Some-clause-pays g c = λ sig own known all w origin before s.
    let root : IsTerm sig c.args.pool.now.trees c.args.root = record { inside = c.requires.ids.held.0; within = w.held } in
    let first : IsFirstOrNone sig own c.first_equation.new.pool.trees c.args.root c.args.from (Some c.in-Some.found) = subst (λ (r : Option Found). IsFirstOrNone sig own c.first_equation.new.pool.trees c.args.root c.args.from r) c.in-Some.is (c.in_ok-found.ensures.first sig own all root).0 in
    let kept = within_kept sig c.args.pool.now.trees c.first_equation.new.pool.trees c.in_ok-found.ensures.kept c.args.stack.now c.args.start c.args.root c.args.from c.requires.ids w in
    c.in_ok-place-in-Some.ensures.pays c.first_equation.new.pool.trees sig own known first kept origin before
    (pays_kept sig own known c.args.pool.now.trees c.first_equation.new.pool.trees c.in_ok-found.ensures.kept origin c.args.stack.now c.args.start (Root c.args.root c.args.from) before c.args.fuel.now c.requires.ids s)

pub returns-in-None-clause-pays : goal.returns-in-None-clause-pays
returns-in-None-clause-pays g c = λ sig own known all w origin before s.
    let root : IsTerm sig c.args.pool.now.trees c.args.root = record { inside = c.requires.ids.held.0; within = w.held } in
    let none : IsFirstOrNone sig own c.first_equation.new.pool.trees c.args.root c.args.from None = subst (λ (r : Option Found). IsFirstOrNone sig own c.first_equation.new.pool.trees c.args.root c.args.from r) c.in-None.is (c.in_ok-found.ensures.first sig own all root).0 in
    pays_where_none_applies sig own known c.first_equation.new.pool.trees origin c.args.stack.now c.args.start before c.args.root c.args.from c.args.fuel.now none
    (pays_kept sig own known c.args.pool.now.trees c.first_equation.new.pool.trees c.in_ok-found.ensures.kept origin c.args.stack.now c.args.start (Root c.args.root c.args.from) before c.args.fuel.now c.requires.ids s)
