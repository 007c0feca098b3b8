use Rattle.std.proofs.Common.{◌+◌, ◌∙◌, map, take, sym, subst, refl}
use Rattle.std.specs.List.{All, AllZip}
use Rattle.std.proofs.lemmas.List.{take_all}
use Rattle.process_terms.specs.PlainProcesses.{plain_action}
use Rattle.lps_core.proofs.PoolTrees.{extends_on}
use Rattle.lps_sumelm.specs.SummandsInCode.{AreActionAnswers, IsActionOver, IsTermAnswer}
use Rattle.lps_sumelm.proofs.SimplifiedInCode.{item_args, actions_more_in, answers_along, same_on}
use Rattle.lps_sumelm.proofs.simplifying.simplify_label.Goals as goal

pub simplify_all-requires : goal.simplify_all-requires
simplify_all-requires g c =
    let r = c.requires in
    let inv = c.loop-action.invariant in
    let q = c.deref-action-items.ensures.value in (
      r.0,
      r.1,
      inv.fitting r.0 r.1 r.2 (subst (λ z. All (IsActionOver r.0 c.args.pool.now.trees) (map plain_action z)) (sym q) r.3),
      item_args r.0 c.args.pool.now.trees c.loop-action.pool.trees inv.kept c.deref-action-items.result.now c.args.label.now.actions.items c.loop-action.action-index c.action-item.result c.as_slice.result.now q c.loop-action-test.true c.action-item.is c.as_slice.ensures.value r.3,
    )

pub returns-in_err-args-clause-fitting : goal.returns-in_err-args-clause-fitting
returns-in_err-args-clause-fitting g c = λ sig own f all.
    let inv = c.loop-action.invariant in
    let q = c.deref-action-items.ensures.value in
    c.simplify_all.ensures.fitting sig own (inv.fitting sig own f (subst (λ z. All (IsActionOver sig c.args.pool.now.trees) (map plain_action z)) (sym q) all))
    (item_args sig c.args.pool.now.trees c.loop-action.pool.trees inv.kept c.deref-action-items.result.now c.args.label.now.actions.items c.loop-action.action-index c.action-item.result c.as_slice.result.now q c.loop-action-test.true c.action-item.is c.as_slice.ensures.value all)

pub returns-in_err-push-clause-fitting : goal.returns-in_err-push-clause-fitting
returns-in_err-push-clause-fitting g c = λ sig own f all.
    let inv = c.loop-action.invariant in
    let q = c.deref-action-items.ensures.value in
    c.simplify_all.ensures.fitting sig own (inv.fitting sig own f (subst (λ z. All (IsActionOver sig c.args.pool.now.trees) (map plain_action z)) (sym q) all))
    (item_args sig c.args.pool.now.trees c.loop-action.pool.trees inv.kept c.deref-action-items.result.now c.args.label.now.actions.items c.loop-action.action-index c.action-item.result c.as_slice.result.now q c.loop-action-test.true c.action-item.is c.as_slice.ensures.value all)

pub loop-action-preserved : goal.loop-action-preserved
loop-action-preserved g c =
    let inv = c.loop-action.invariant in
    let ts = c.args.pool.now.trees in
    let us = c.loop-action.pool.trees in
    let vs = c.simplify_all.new.pool.trees in
    let items = c.deref-action-items.result.now in
    record {
      kept = extends_on ts us vs inv.kept c.simplify_all.ensures.kept;
      fitting = λ sig own f all. c.simplify_all.ensures.fitting sig own (inv.fitting sig own f all)
          (item_args sig ts us inv.kept items items c.loop-action.action-index c.action-item.result c.as_slice.result.now refl c.loop-action-test.true c.action-item.is c.as_slice.ensures.value all);
      same = λ sig own t. same_on (c.simplify_all.ensures.same sig own t) (inv.same sig own t);
      answers = λ sig own f all fine.
          let over = item_args sig ts us inv.kept items items c.loop-action.action-index c.action-item.result c.as_slice.result.now refl c.loop-action-test.true c.action-item.is c.as_slice.ensures.value all in
          subst (λ z. AreActionAnswers sig own (g.S.Simplifier.simple c.args.simp.now sig own) ts vs (map plain_action (take (c.loop-action.action-index + 1) items)) (map plain_action z)) (sym c.in_ok-push.ensures.items)
          (actions_more_in sig own fine (g.S.Simplifier.simple c.args.simp.now sig own) ts us vs items c.loop-action.action-index c.action-item.result c.loop-action.actions.items (record { act = c.action-item.result.act; args = c.in_ok-args.args })
          c.loop-action-test.true c.action-item.is all inv.kept c.simplify_all.ensures.kept (inv.answers sig own f all fine) refl
          (answers_along sig own (g.S.Simplifier.simple c.loop-action.simp sig own) (g.S.Simplifier.simple c.args.simp.now sig own) (λ t. (inv.same sig own t).0) us vs c.action-item.result.args.items c.in_ok-args.args.items
          (subst (λ z. AllZip (IsTermAnswer sig own (g.S.Simplifier.simple c.loop-action.simp sig own) us vs) z c.in_ok-args.args.items) c.as_slice.ensures.value (c.in_ok-args.ensures.answers sig own (inv.fitting sig own f all) over fine))));
    }

pub returns-clause-fitting : goal.returns-clause-fitting
returns-clause-fitting g c = λ sig own f all. c.loop-action.invariant.fitting sig own f (subst (λ z. All (IsActionOver sig c.args.pool.now.trees) (map plain_action z)) (sym c.deref-action-items.ensures.value) all)

pub returns-clause-answers : goal.returns-clause-answers
returns-clause-answers g c = λ sig own f all fine.
    let q = c.deref-action-items.ensures.value in
    subst (λ z. AreActionAnswers sig own (g.S.Simplifier.simple c.args.simp.now sig own) c.args.pool.now.trees c.loop-action.pool.trees (map plain_action z) (map plain_action c.loop-action.actions.items))
    (take_all c.loop-action.action-index c.deref-action-items.result.now c.loop-action-test.false ∙ q)
    (c.loop-action.invariant.answers sig own f (subst (λ z. All (IsActionOver sig c.args.pool.now.trees) (map plain_action z)) (sym q) all) fine)
