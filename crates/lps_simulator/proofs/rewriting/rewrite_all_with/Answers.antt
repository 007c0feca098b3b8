use Rattle.std.proofs.Common.{◌∙◌, take, get_or, subst}
use Rattle.std.specs.List.{AllZip}
use Rattle.std.proofs.lemmas.List.{take_all}
use Rattle.std.proofs.lemmas.List.Elements.{All-get_or}
use Rattle.data_rewriter.specs.Standing.{IsTerm}
use Rattle.data_rewriter.proofs.Standings.{term_stays}
use Rattle.term_pool.specs.Bindings.{listed_terms}
use Rattle.lps_core.proofs.PoolTrees.{extends_on}
use Rattle.lps_simulator.specs.Rewritten.{environment_of, IsRewrittenTerm}
use Rattle.lps_simulator.proofs.Bindings.{terms_stay}
use Rattle.lps_simulator.proofs.RewrittenTerms.{terms_more}
use Rattle.lps_simulator.proofs.rewriting.rewrite_all_with.Goals as goal

pub rewrite_with-requires-clause-known : goal.rewrite_with-requires-clause-known
rewrite_with-requires-clause-known g c = let r = c.requires.known in (r.0, c.loop-term.invariant.fits r.0 r.1)

pub rewrite_with-requires-clause-rules : goal.rewrite_with-requires-clause-rules
rewrite_with-requires-clause-rules g c = rw c.loop-term.invariant.rules c.requires.rules

pub rewrite_with-requires-clause-term : goal.rewrite_with-requires-clause-term
rewrite_with-requires-clause-term g c =
    term_stays c.args.sig.now c.args.pool.now.trees c.loop-term.pool.trees c.loop-term.invariant.kept (get_or c.args.terms.now c.loop-term.term-index (record { 0 = 0 }))
    (All-get_or (IsTerm c.args.sig.now c.args.pool.now.trees) c.args.terms.now c.loop-term.term-index (record { 0 = 0 }) c.loop-term-test.true c.requires.terms)

pub rewrite_with-requires-clause-listed : goal.rewrite_with-requires-clause-listed
rewrite_with-requires-clause-listed g c = terms_stay c.args.sig.now c.args.pool.now.trees c.loop-term.pool.trees (listed_terms c.args.by.now) c.loop-term.invariant.kept c.requires.listed

pub returns-in_err-rewrite_with-clause-kept : goal.returns-in_err-rewrite_with-clause-kept
returns-in_err-rewrite_with-clause-kept g c = extends_on c.args.pool.now.trees c.loop-term.pool.trees c.rewrite_with.new.pool.trees c.loop-term.invariant.kept c.rewrite_with.ensures.kept

pub returns-in_err-rewrite_with-clause-rules : goal.returns-in_err-rewrite_with-clause-rules
returns-in_err-rewrite_with-clause-rules g c = c.rewrite_with.ensures.rules ∙ c.loop-term.invariant.rules

pub returns-in_err-rewrite_with-clause-fits : goal.returns-in_err-rewrite_with-clause-fits
returns-in_err-rewrite_with-clause-fits g c = λ own h. c.rewrite_with.ensures.fits own (c.loop-term.invariant.fits own h)

pub returns-in_err-push-clause-kept : goal.returns-in_err-push-clause-kept
returns-in_err-push-clause-kept g c = extends_on c.args.pool.now.trees c.loop-term.pool.trees c.rewrite_with.new.pool.trees c.loop-term.invariant.kept c.rewrite_with.ensures.kept

pub returns-in_err-push-clause-rules : goal.returns-in_err-push-clause-rules
returns-in_err-push-clause-rules g c = c.rewrite_with.ensures.rules ∙ c.loop-term.invariant.rules

pub returns-in_err-push-clause-fits : goal.returns-in_err-push-clause-fits
returns-in_err-push-clause-fits g c = λ own h. c.rewrite_with.ensures.fits own (c.loop-term.invariant.fits own h)

pub loop-term-preserved : goal.loop-term-preserved
loop-term-preserved g c = record {
  kept = extends_on c.args.pool.now.trees c.loop-term.pool.trees c.rewrite_with.new.pool.trees c.loop-term.invariant.kept c.rewrite_with.ensures.kept;
  rules = c.rewrite_with.ensures.rules ∙ c.loop-term.invariant.rules;
  fits = λ own h. c.rewrite_with.ensures.fits own (c.loop-term.invariant.fits own h);
  rewritten = λ own h.
      terms_more c.args.sig.now own c.args.fuel c.args.pool.now.trees c.loop-term.pool.trees c.args.by.now c.loop-term.invariant.kept c.requires.listed c.rewrite_with.new.pool.trees c.rewrite_with.ensures.kept c.args.terms.now c.loop-term.term-index (record { 0 = 0 }) c.loop-term.made.items
      c.push.new.self.items _ c.loop-term-test.true c.requires.terms (c.loop-term.invariant.rewritten own h) (c.in_ok-rewrite_with.ensures.rewritten own (c.loop-term.invariant.fits own h)) c.in_ok-push.ensures.items;
}

pub returns-clause-rewritten : goal.returns-clause-rewritten
returns-clause-rewritten g c = λ own h.
    subst (λ z. AllZip (IsRewrittenTerm c.args.sig.now own c.args.fuel (environment_of c.args.sig.now c.args.pool.now.trees c.args.by.now) c.args.pool.now.trees c.loop-term.pool.trees) z c.loop-term.made.items)
    (take_all c.loop-term.term-index c.args.terms.now c.loop-term-test.false) (c.loop-term.invariant.rewritten own h)
