use Rattle.std.proofs.Common.{◌+◌, take, get_or, sym, subst}
use Rattle.std.specs.List.{AllZip}
use Rattle.lps_core.proofs.PoolTrees.{extends_on}
use Rattle.lps_sumelm.specs.SummandsInCode.{IsTermAnswer}
use Rattle.lps_sumelm.proofs.SimplifiedInCode.{one_answer, answers_more, one_more_term, same_on}
use Rattle.lps_sumelm.proofs.simplifying.simplify_all.Goals as goal

pub loop-term-preserved : goal.loop-term-preserved
loop-term-preserved g c =
    let inv = c.loop-term.invariant in
    let ts = c.args.pool.now.trees in
    let us = c.loop-term.pool.trees in
    let i = c.loop-term.term-index in
    record {
      kept = extends_on ts us c.simplify.new.pool.trees inv.kept c.simplify.ensures.kept;
      fitting = λ sig own f all. c.simplify.ensures.fitting sig own (inv.fitting sig own f all) (one_more_term sig ts us inv.kept c.args.terms.now i (record { 0 = 0 }) c.loop-term-test.true all);
      same = λ sig own t. same_on (c.simplify.ensures.same sig own t) (inv.same sig own t);
      answers = λ sig own f all fine.
          let own_fits = inv.fitting sig own f all in
          let own_term = one_more_term sig ts us inv.kept c.args.terms.now i (record { 0 = 0 }) c.loop-term-test.true all in
          subst (λ z. AllZip (IsTermAnswer sig own (g.S.Simplifier.simple c.args.simp.now sig own) ts c.simplify.new.pool.trees) (take (i + 1) c.args.terms.now) z) (sym c.in_ok-push.ensures.items)
          (answers_more sig own fine (g.S.Simplifier.simple c.args.simp.now sig own) ts us c.simplify.new.pool.trees c.args.terms.now i (record { 0 = 0 }) c.loop-term.made.items _ c.loop-term-test.true all inv.kept c.simplify.ensures.kept (inv.answers sig own f all fine)
          (one_answer sig own fine (g.S.Simplifier.simple c.args.simp.now sig own) us c.simplify.new.pool.trees (get_or c.args.terms.now i (record { 0 = 0 })) _ (c.in_ok-simplify.ensures.simplified sig own own_fits own_term)
          ((inv.same sig own _).0 (c.in_ok-simplify.ensures.reached sig own own_fits own_term))));
    }
