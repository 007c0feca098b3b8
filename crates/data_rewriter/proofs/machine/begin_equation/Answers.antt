use Rattle.std.proofs.Common.{◌≡◌, ◌⊎◌, ◌≤◌, ◌<◌, suc, sym, subst, inl, inr, arith}
use Rattle.data_theory.specs.declared.ids.TermId.{TermId}
use Rattle.data_rewriter.specs.declared.machine.Hand.TheVariants.{Root}
use Rattle.data_rewriter.specs.States.{Shows}
use Rattle.data_rewriter.proofs.StepMoves.{used_within, condition_within, begins_without, begins_spent, begins_condition}
use Rattle.data_rewriter.proofs.PaidSteps.{pays_without, pays_nothing, pays_for_a_condition}
use Rattle.data_rewriter.specs.Paying.{Pays}
use Rattle.data_rewriter.proofs.machine.begin_equation.Goals as goal
use Rattle.data_rewriter.proofs.machine.begin_equation.Goals.{then-found-ge-LINES+else-fuel-eq0, else-found-ge-LINES}

pub returns-in_default-clause-follows : goal.returns-in_default-clause-follows
returns-in_default-clause-follows c = λ ts sig own f w. (
  used_within sig ts c.args.stack.now c.args.start c.args.found.right c.args.fuel.now c.use_right.new.fuel (Root c.args.root c.args.from) c.use_right.result.start c.use_right.result.hand c.use_right.ensures.start c.use_right.ensures.uses w f.1.0,
  λ origin before s.
      subst (λ (x : TermId). Shows sig own ts origin c.args.stack.now x c.use_right.result.hand before c.use_right.new.fuel) (sym c.use_right.ensures.start)
      (begins_without sig own ts origin c.args.stack.now c.args.start before c.args.root c.args.from c.args.fuel.now c.args.found f.0 s c.in_default.is c.use_right.result.hand c.use_right.new.fuel c.use_right.ensures.uses),
)

pub returns-then-fuel-eq0-clause-follows : goal.returns-then-fuel-eq0-clause-follows
returns-then-fuel-eq0-clause-follows c = λ ts sig own f w. (
  record { frames = w.frames; begin = w.begin; held = tt },
  λ origin before s.
      begins_spent sig own ts origin c.args.stack.now c.args.start before c.args.root c.args.from c.args.fuel.now c.args.found f.0 s c.in-Some.cond c.in-Some.is c.if-found-ge-LINES.true c.if-fuel-eq0.true,
)

pub returns-clause-follows : goal.returns-clause-follows
returns-clause-follows c =
    let charged : (c.args.fuel.now ≡ c.if-found-ge-LINES.fuel) ⊎ ((55 ≤ c.args.found.number) × (c.args.fuel.now ≡ suc c.if-found-ge-LINES.fuel)) = elim c.if-found-ge-LINES.branch [ then-found-ge-LINES+else-fuel-eq0 w ↦ inr (w.if-found-ge-LINES.true, (let a = w.fuel-is in let b = w.if-fuel-eq0.false in omega (arith, a, b))) | else-found-ge-LINES w ↦ inl (sym w.fuel-is) ] in
    λ ts sig own f w. (
      condition_within sig ts c.args.stack.now c.args.start c.args.root c.args.from c.args.found c.in-Some.cond c.in-Some.is c.push.new.self c.in_ok-push.ensures w f.1,
      λ origin before s.
          begins_condition sig own ts origin c.args.stack.now c.args.start before c.args.root c.args.from c.args.fuel.now c.args.found f.0 s c.in-Some.cond c.in-Some.is c.if-found-ge-LINES.fuel c.push.new.self c.in_ok-push.ensures charged,
    )

pub returns-in_default-clause-pays : goal.returns-in_default-clause-pays
returns-in_default-clause-pays c = λ ts sig own known f w origin before s.
    subst (λ (x : TermId). Pays sig own known ts origin c.args.stack.now x c.use_right.result.hand before c.use_right.new.fuel) (sym c.use_right.ensures.start)
    (pays_without sig own known ts origin c.args.stack.now c.args.start before c.args.root c.args.from c.args.fuel.now c.args.found f s c.in_default.is c.use_right.result.hand c.use_right.new.fuel c.use_right.ensures.uses)

pub returns-then-fuel-eq0-clause-pays : goal.returns-then-fuel-eq0-clause-pays
returns-then-fuel-eq0-clause-pays c = λ ts sig own known f w origin before s.
    pays_nothing sig own known ts origin c.args.stack.now c.args.start before c.args.root c.args.from c.args.fuel.now c.args.found f s

pub returns-clause-pays : goal.returns-clause-pays
returns-clause-pays c =
    let charged : ((c.args.found.number < 55) × (c.args.fuel.now ≡ c.if-found-ge-LINES.fuel)) ⊎ ((55 ≤ c.args.found.number) × (c.args.fuel.now ≡ suc c.if-found-ge-LINES.fuel)) = elim c.if-found-ge-LINES.branch [ then-found-ge-LINES+else-fuel-eq0 w ↦ inr (w.if-found-ge-LINES.true, (let a = w.fuel-is in let b = w.if-fuel-eq0.false in omega (arith, a, b))) | else-found-ge-LINES w ↦ inl (w.if-found-ge-LINES.false, sym w.fuel-is) ] in
    λ ts sig own known f w origin before s.
    pays_for_a_condition sig own known ts origin c.args.stack.now c.args.start before c.args.root c.args.from c.args.fuel.now c.args.found f s c.in-Some.cond c.in-Some.is c.if-found-ge-LINES.fuel c.push.new.self c.in_ok-push.ensures charged
