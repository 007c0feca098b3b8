use Rattle.std.proofs.Common.{◌∙◌, List, ap, subst, Option}
use Rattle.std.specs.Prelude.{IfSome, MatchOption}
use Rattle.data_theory.specs.declared.ids.VarId.{VarId}
use Rattle.data_theory.specs.Provable.{Equation}
use Rattle.data_rewriter.specs.Simplifying.{AreWellFormed}
use Rattle.bisim_laws.specs.LinearProcesses.{variables}
use Rattle.lps_core.specs.declared.linears.Summand.{Summand}
use Rattle.lps_core.specs.PlainLinears.{plain_summand}
use Rattle.lps_core.proofs.PoolTrees.{extends_on}
use Rattle.lps_sumelm.specs.Simplified.{IsAnswer}
use Rattle.lps_sumelm.specs.Solutions.{NoneGives}
use Rattle.lps_sumelm.specs.Solving.{conditions_of, without_unused}
use Rattle.lps_sumelm.specs.SummandsInCode.{summand_at, IsStep, SummandStands}
use Rattle.lps_sumelm.proofs.SimplifiedInCode.{same_on}
use Rattle.lps_sumelm.proofs.StandingSummands.{summand_in, answer_stands, unused_stands, summand_kept, stands_still}
use Rattle.lps_sumelm.proofs.WholeProcess.{way_begins, way_goes_on, way_ends}
use Rattle.lps_sumelm.proofs.eliminating.solved_summand.Goals as goal

pub loop-solved-init : goal.loop-solved-init
loop-solved-init g c =
    let sig = c.args.sig.now in
    let stands = c.signature_stands.ensures in
    let ts = c.args.pool.now.trees in
    let s = plain_summand c.args.summand.now in
    let us = c.simplify_summand.new.pool.trees in
    let made = plain_summand c.in_ok-solved.solved in
    let r = c.requires.simplifier in
    let over = c.requires.stands.1.over in
    record {
      kept = c.simplify_summand.ensures.kept;
      fitting = λ own f. c.simplify_summand.ensures.fitting sig own f over;
      same = λ own t. c.simplify_summand.ensures.same sig own t;
      stands = λ ps h. answer_stands sig stands ts us ps s made h r.0 (g.S.Simplifier.simple c.args.simp.now sig r.0) c.in_ok-solved.ensures.sums (c.in_ok-solved.ensures.answers sig r.0 r.1 over r.2);
      way = λ own f fine. way_begins (IsAnswer sig own (g.S.Simplifier.simple c.args.simp.now sig own)) (summand_at sig ts s) (summand_at sig us made) (c.in_ok-solved.ensures.answers sig own f over fine).becomes;
    }

pub step-requires-clause-stands : goal.step-requires-clause-stands
step-requires-clause-stands g c = (c.requires.stands.0, c.loop-solved.invariant.stands c.requires.stands.0 c.requires.stands.1)

pub loop-solved-preserved : goal.loop-solved-preserved
loop-solved-preserved g c =
    let sig = c.args.sig.now in
    let stands = c.signature_stands.ensures in
    let ts = c.args.pool.now.trees in
    let s = plain_summand c.args.summand.now in
    let us = c.loop-solved.pool.trees in
    let vs = c.step.new.pool.trees in
    let now = plain_summand c.loop-solved.solved in
    let next = plain_summand c.in-Some.next in
    let inv = c.loop-solved.invariant in
    let stand = subst (λ (o : Option Summand). IfSome o (λ next. (ps : List VarId) → SummandStands sig us ps now → SummandStands sig vs ps (plain_summand next))) c.in-Some.is c.in_ok-next.ensures.stands in
    let steps = subst (λ (o : Option Summand). MatchOption o (NoneGives (variables (summand_at sig us now).sums) (conditions_of (summand_at sig us now))) (λ next. (own : List Equation) → g.S.Simplifier.fits c.loop-solved.simp sig own us → AreWellFormed sig own → IsStep (IsAnswer sig own (g.S.Simplifier.simple c.loop-solved.simp sig own)) (summand_at sig us now) (summand_at sig vs (plain_summand next)))) c.in-Some.is c.in_ok-next.ensures.steps in
    record {
      kept = extends_on ts us vs inv.kept c.step.ensures.kept;
      fitting = λ own f. c.step.ensures.fitting own (inv.fitting own f);
      same = λ own t. same_on (c.step.ensures.same own t) (inv.same own t);
      stands = λ ps h. stand ps (inv.stands ps h);
      way = λ own f fine.
          way_goes_on sig own (g.S.Simplifier.simple c.args.simp.now sig own) (g.S.Simplifier.simple c.loop-solved.simp sig own) (λ t. (inv.same own t).0) (summand_at sig ts s) (summand_at sig us now) (summand_at sig vs next) (inv.way own f fine) (steps own (inv.fitting own f) fine);
    }

pub without_unused-requires : goal.without_unused-requires
without_unused-requires g c =
    let sig = c.args.sig.now in
    let us = c.loop-solved.pool.trees in
    let vs = c.step.new.pool.trees in
    let now = plain_summand c.loop-solved.solved in
    let k = c.requires.stands in
    summand_in sig c.signature_stands.ensures vs now (stands_still sig us vs c.step.ensures.kept k.0 now (c.loop-solved.invariant.stands k.0 k.1)).over

pub returns-clause-stands : goal.returns-clause-stands
returns-clause-stands g c =
    let sig = c.args.sig.now in
    let us = c.loop-solved.pool.trees in
    let vs = c.step.new.pool.trees in
    let now = plain_summand c.loop-solved.solved in
    let made = plain_summand c.in_ok-made.made in
    λ ps h. unused_stands sig vs ps now made (stands_still sig us vs c.step.ensures.kept ps now (c.loop-solved.invariant.stands ps h)) c.in_ok-made.ensures.terms c.in_ok-made.ensures.among (c.in_ok-made.ensures.used sig)

pub returns-clause-solved : goal.returns-clause-solved
returns-clause-solved g c =
    let sig = c.args.sig.now in
    let stands = c.signature_stands.ensures in
    let ts = c.args.pool.now.trees in
    let s = plain_summand c.args.summand.now in
    let us = c.loop-solved.pool.trees in
    let vs = c.step.new.pool.trees in
    let now = plain_summand c.loop-solved.solved in
    let made = plain_summand c.in_ok-made.made in
    let inv = c.loop-solved.invariant in
    let k = c.requires.stands in
    let none = subst (λ (o : Option Summand). MatchOption o (NoneGives (variables (summand_at sig us now).sums) (conditions_of (summand_at sig us now))) (λ next. (own : List Equation) → g.S.Simplifier.fits c.loop-solved.simp sig own us → AreWellFormed sig own → IsStep (IsAnswer sig own (g.S.Simplifier.simple c.loop-solved.simp sig own)) (summand_at sig us now) (summand_at sig vs (plain_summand next)))) c.in_default.is c.in_ok-next.ensures.steps in
    λ own f fine. way_ends (IsAnswer sig own (g.S.Simplifier.simple c.args.simp.now sig own)) (summand_at sig ts s) (summand_at sig us now) (summand_at sig vs made) (inv.way own f fine) none
    (c.in_ok-made.ensures.used sig ∙ ap without_unused (summand_kept sig us vs c.step.ensures.kept now (inv.stands k.0 k.1).over))
