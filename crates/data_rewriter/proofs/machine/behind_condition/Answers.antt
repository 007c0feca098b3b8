use Rattle.std.proofs.Common.{◌≡◌, ◌≢◌, ◌+◌, sym, subst, suc, rules}
use Rattle.data_theory.specs.declared.ids.TermId.{TermId}
use Rattle.data_rewriter.specs.States.{Shows}
use Rattle.data_theory.specs.Equations.{trueᵗ}
use Rattle.data_rewriter.proofs.StepMoves.{used_within, behind_false, behind_line, behind_true}
use Rattle.std.proofs.lemmas.List.Elements.{All-head, All-tail}
use Rattle.data_rewriter.specs.Frames.{decides}
use Rattle.data_rewriter.specs.declared.machine.Hand.TheVariants.{Answer}
use Rattle.data_rewriter.specs.States.{IsFrameWithin}
use Rattle.data_rewriter.proofs.PaidSteps.{pays_behind_false, pays_behind_line, pays_behind_true}
use Rattle.data_rewriter.specs.Paying.{Pays}
use Rattle.data_rewriter.proofs.machine.behind_condition.Goals as goal
use Rattle.data_rewriter.specs.Standing.{IsTerm, term_at}

pub returns-then-is_truth-clause-follows : goal.returns-then-is_truth-clause-follows
returns-then-is_truth-clause-follows c = λ below hand sig own all w.
    let here = All-head (IsFrameWithin sig c.args.pool.now.trees) (decides c.args.start c.args.root c.args.number c.args.right) below w.frames in
    let below_within = All-tail (IsFrameWithin sig c.args.pool.now.trees) (decides c.args.start c.args.root c.args.number c.args.right) below w.frames in
    let normal : IsTerm sig c.args.pool.now.trees c.args.normal = record { inside = c.requires; within = w.held } in
    let is = (c.is_truth.ensures sig own all normal).0 c.if-is_truth.true in (
      used_within sig c.args.pool.now.trees below c.args.start c.args.right c.args.fuel.now c.use_right.new.fuel (Answer c.args.normal) c.use_right.result.start c.use_right.result.hand c.use_right.ensures.start c.use_right.ensures.uses (record { frames = below_within; begin = here.0; held = w.held }) here.2,
      λ origin before s.
          subst (λ (x : TermId). Shows sig own c.args.pool.now.trees origin below x c.use_right.result.hand before c.use_right.new.fuel) (sym c.use_right.ensures.start)
          (behind_true sig own c.args.pool.now.trees origin below c.args.start before c.args.root c.args.number c.args.fuel.now c.args.right hand c.args.normal s is c.use_right.result.hand c.use_right.new.fuel c.use_right.ensures.uses),
    )

pub returns-then-number-lt-LINES-clause-follows : goal.returns-then-number-lt-LINES-clause-follows
returns-then-number-lt-LINES-clause-follows c = λ below hand sig own all w.
    let here = All-head (IsFrameWithin sig c.args.pool.now.trees) (decides c.args.start c.args.root c.args.number c.args.right) below w.frames in
    let below_within = All-tail (IsFrameWithin sig c.args.pool.now.trees) (decides c.args.start c.args.root c.args.number c.args.right) below w.frames in
    let normal : IsTerm sig c.args.pool.now.trees c.args.normal = record { inside = c.requires; within = w.held } in
    let other : term_at sig c.args.pool.now.trees c.args.normal ≢ trueᵗ = λ e. let t = (c.is_truth.ensures sig own all normal).1 e in let f = c.if-is_truth.false in cc in (
      record { frames = below_within; begin = here.0; held = here.1 },
      λ origin before s.
          behind_line sig own c.args.pool.now.trees origin below c.args.start before c.args.root c.args.number c.args.fuel.now c.args.right hand c.args.normal s other c.if-number-lt-LINES.true,
    )

pub returns-clause-follows : goal.returns-clause-follows
returns-clause-follows c = λ below hand sig own all w.
    let here = All-head (IsFrameWithin sig c.args.pool.now.trees) (decides c.args.start c.args.root c.args.number c.args.right) below w.frames in
    let below_within = All-tail (IsFrameWithin sig c.args.pool.now.trees) (decides c.args.start c.args.root c.args.number c.args.right) below w.frames in
    let normal : IsTerm sig c.args.pool.now.trees c.args.normal = record { inside = c.requires; within = w.held } in
    let other : term_at sig c.args.pool.now.trees c.args.normal ≢ trueᵗ = λ e. let t = (c.is_truth.ensures sig own all normal).1 e in let f = c.if-is_truth.false in cc in
    let next : c.in-Some.next ≡ suc c.args.number = let a = c.in-Some.ensures in search (rules, a) in (
      record { frames = below_within; begin = here.0; held = here.1 },
      λ origin before s.
          behind_false sig own c.args.pool.now.trees origin below c.args.start before c.args.root c.args.number c.args.fuel.now c.args.right hand c.args.normal s other c.in-Some.next next,
    )

pub returns-then-is_truth-clause-pays : goal.returns-then-is_truth-clause-pays
returns-then-is_truth-clause-pays c = λ below hand sig own known all w is origin behind s.
    let normal : IsTerm sig c.args.pool.now.trees c.args.normal = record { inside = c.requires; within = w.held } in
    let true_there = (c.is_truth.ensures sig own all normal).0 c.if-is_truth.true in
    subst (λ (x : TermId). Pays sig own known c.args.pool.now.trees origin below x c.use_right.result.hand (behind + c.args.fuel.now) c.use_right.new.fuel) (sym c.use_right.ensures.start)
    (pays_behind_true sig own known c.args.pool.now.trees origin below c.args.start c.args.root c.args.number c.args.fuel.now c.args.right hand c.args.normal is behind s true_there c.use_right.result.hand c.use_right.new.fuel c.use_right.ensures.uses)

pub returns-then-number-lt-LINES-clause-pays : goal.returns-then-number-lt-LINES-clause-pays
returns-then-number-lt-LINES-clause-pays c = λ below hand sig own known all w is origin behind s.
    let normal : IsTerm sig c.args.pool.now.trees c.args.normal = record { inside = c.requires; within = w.held } in
    let other : term_at sig c.args.pool.now.trees c.args.normal ≢ trueᵗ = λ e. let t = (c.is_truth.ensures sig own all normal).1 e in let f = c.if-is_truth.false in cc in
    pays_behind_line sig own known c.args.pool.now.trees origin below c.args.start c.args.root c.args.number c.args.fuel.now c.args.right hand c.args.normal is behind s other c.if-number-lt-LINES.true

pub returns-clause-pays : goal.returns-clause-pays
returns-clause-pays c = λ below hand sig own known all w is origin behind s.
    let normal : IsTerm sig c.args.pool.now.trees c.args.normal = record { inside = c.requires; within = w.held } in
    let other : term_at sig c.args.pool.now.trees c.args.normal ≢ trueᵗ = λ e. let t = (c.is_truth.ensures sig own all normal).1 e in let f = c.if-is_truth.false in cc in
    let next : c.in-Some.next ≡ suc c.args.number = let a = c.in-Some.ensures in search (rules, a) in
    pays_behind_false sig own known c.args.pool.now.trees origin below c.args.start c.args.root c.args.number c.args.fuel.now c.args.right hand c.args.normal is behind s other c.in-Some.next next
