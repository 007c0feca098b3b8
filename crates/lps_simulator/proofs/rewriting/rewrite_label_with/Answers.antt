use Rattle.std.proofs.Common.{◌∙◌, map, refl, sym, subst}
use Rattle.std.specs.List.{All, AllZip}
use Rattle.std.proofs.lemmas.List.{take_all}
use Rattle.data_rewriter.specs.Standing.{IsTerm}
use Rattle.term_pool.specs.Bindings.{listed_terms}
use Rattle.process_terms.specs.PlainProcesses.{plain_action}
use Rattle.lps_core.proofs.PoolTrees.{extends_on}
use Rattle.lps_simulator.specs.Rewritten.{environment_of, IsActionOver, IsRewrittenAction, IsRewrittenTerm}
use Rattle.lps_simulator.proofs.Bindings.{terms_stay}
use Rattle.lps_simulator.proofs.RewrittenTerms.{actions_more, item_args}
use Rattle.lps_simulator.proofs.rewriting.rewrite_label_with.Goals as goal

pub rewrite_all_with-requires-clause-known : goal.rewrite_all_with-requires-clause-known
rewrite_all_with-requires-clause-known g c = let r = c.requires.known in (r.0, c.loop-action.invariant.fits r.0 r.1)

pub rewrite_all_with-requires-clause-rules : goal.rewrite_all_with-requires-clause-rules
rewrite_all_with-requires-clause-rules g c = rw c.loop-action.invariant.rules c.requires.rules

pub rewrite_all_with-requires-clause-terms : goal.rewrite_all_with-requires-clause-terms
rewrite_all_with-requires-clause-terms g c =
    subst (λ z. All (IsTerm c.args.sig.now c.loop-action.pool.trees) z) (sym c.as_slice.ensures.value)
    (terms_stay c.args.sig.now c.args.pool.now.trees c.loop-action.pool.trees c.action-item.result.args.items c.loop-action.invariant.kept (item_args c.args.sig.now c.args.pool.now.trees c.deref-action-items.result.now c.loop-action.action-index c.action-item.result c.loop-action-test.true c.action-item.is (subst (λ z. All (IsActionOver c.args.sig.now c.args.pool.now.trees) (map plain_action z)) (sym c.deref-action-items.ensures.value) c.requires.label)))

pub rewrite_all_with-requires-clause-listed : goal.rewrite_all_with-requires-clause-listed
rewrite_all_with-requires-clause-listed g c = terms_stay c.args.sig.now c.args.pool.now.trees c.loop-action.pool.trees (listed_terms c.args.by.now) c.loop-action.invariant.kept c.requires.listed

pub returns-in_err-args-clause-kept : goal.returns-in_err-args-clause-kept
returns-in_err-args-clause-kept g c = extends_on c.args.pool.now.trees c.loop-action.pool.trees c.rewrite_all_with.new.pool.trees c.loop-action.invariant.kept c.rewrite_all_with.ensures.kept

pub returns-in_err-args-clause-rules : goal.returns-in_err-args-clause-rules
returns-in_err-args-clause-rules g c = c.rewrite_all_with.ensures.rules ∙ c.loop-action.invariant.rules

pub returns-in_err-args-clause-fits : goal.returns-in_err-args-clause-fits
returns-in_err-args-clause-fits g c = λ own h. c.rewrite_all_with.ensures.fits own (c.loop-action.invariant.fits own h)

pub returns-in_err-push-clause-kept : goal.returns-in_err-push-clause-kept
returns-in_err-push-clause-kept g c = extends_on c.args.pool.now.trees c.loop-action.pool.trees c.rewrite_all_with.new.pool.trees c.loop-action.invariant.kept c.rewrite_all_with.ensures.kept

pub returns-in_err-push-clause-rules : goal.returns-in_err-push-clause-rules
returns-in_err-push-clause-rules g c = c.rewrite_all_with.ensures.rules ∙ c.loop-action.invariant.rules

pub returns-in_err-push-clause-fits : goal.returns-in_err-push-clause-fits
returns-in_err-push-clause-fits g c = λ own h. c.rewrite_all_with.ensures.fits own (c.loop-action.invariant.fits own h)

pub loop-action-preserved : goal.loop-action-preserved
loop-action-preserved g c = record {
  kept = extends_on c.args.pool.now.trees c.loop-action.pool.trees c.rewrite_all_with.new.pool.trees c.loop-action.invariant.kept c.rewrite_all_with.ensures.kept;
  rules = c.rewrite_all_with.ensures.rules ∙ c.loop-action.invariant.rules;
  fits = λ own h. c.rewrite_all_with.ensures.fits own (c.loop-action.invariant.fits own h);
  rewritten = λ own h.
      actions_more c.args.sig.now own c.args.fuel c.args.pool.now.trees c.loop-action.pool.trees c.args.by.now c.loop-action.invariant.kept c.requires.listed c.rewrite_all_with.new.pool.trees c.rewrite_all_with.ensures.kept c.deref-action-items.result.now c.loop-action.action-index c.action-item.result c.loop-action.actions.items
      c.push.new.self.items (record { act = c.action-item.result.act; args = c.in_ok-args.args }) c.loop-action-test.true c.action-item.is (subst (λ z. All (IsActionOver c.args.sig.now c.args.pool.now.trees) (map plain_action z)) (sym c.deref-action-items.ensures.value) c.requires.label) (c.loop-action.invariant.rewritten own h) refl
      (subst (λ z. AllZip (IsRewrittenTerm c.args.sig.now own c.args.fuel (environment_of c.args.sig.now c.loop-action.pool.trees c.args.by.now) c.loop-action.pool.trees c.rewrite_all_with.new.pool.trees) z c.in_ok-args.args.items) c.as_slice.ensures.value (c.in_ok-args.ensures.rewritten own (c.loop-action.invariant.fits own h)))
      c.in_ok-push.ensures.items;
}

pub returns-clause-rewritten : goal.returns-clause-rewritten
returns-clause-rewritten g c = λ own h.
    subst (λ z. AllZip (IsRewrittenAction c.args.sig.now own c.args.fuel (environment_of c.args.sig.now c.args.pool.now.trees c.args.by.now) c.args.pool.now.trees c.loop-action.pool.trees) (map plain_action z) (map plain_action c.loop-action.actions.items))
    (take_all c.loop-action.action-index c.deref-action-items.result.now c.loop-action-test.false ∙ c.deref-action-items.ensures.value) (c.loop-action.invariant.rewritten own h)
