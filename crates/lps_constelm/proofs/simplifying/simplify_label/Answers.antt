use Rattle.std.proofs.Common.{map, subst, sym}
use Rattle.std.specs.List.{All, AllZip}
use Rattle.process_terms.specs.PlainProcesses.{plain_action}
use Rattle.lps_constelm.specs.Runs.{IsActionWithin, ActionBecomes, Runs}
use Rattle.lps_constelm.proofs.simplifying.simplify_label.Goals as goal

pub simplify_actions-requires : goal.simplify_actions-requires
simplify_actions-requires g c =
    let r = c.requires in
    (r.0, r.1, r.2, subst (λ z. All (IsActionWithin r.0 c.args.pool.now.trees) (map plain_action z)) (sym c.as_slice.ensures.value) r.3)

pub returns-in_err-actions-clause-runs : goal.returns-in_err-actions-clause-runs
returns-in_err-actions-clause-runs g c =
    let ts = c.args.pool.now.trees in
    subst (λ z. Runs (g.S.Simplifier.fits c.args.simp.now) (g.S.Simplifier.fits c.simplify_actions.new.simp) (g.S.Simplifier.simple c.args.simp.now) (g.S.Simplifier.simple c.simplify_actions.new.simp) (λ sig. All (IsActionWithin sig ts) (map plain_action z)) ts c.simplify_actions.new.pool.trees)
    c.as_slice.ensures.value c.simplify_actions.ensures.runs

pub returns-clause-runs : goal.returns-clause-runs
returns-clause-runs g c =
    let ts = c.args.pool.now.trees in
    subst (λ z. Runs (g.S.Simplifier.fits c.args.simp.now) (g.S.Simplifier.fits c.simplify_actions.new.simp) (g.S.Simplifier.simple c.args.simp.now) (g.S.Simplifier.simple c.simplify_actions.new.simp) (λ sig. All (IsActionWithin sig ts) (map plain_action z)) ts c.simplify_actions.new.pool.trees)
    c.as_slice.ensures.value c.simplify_actions.ensures.runs

pub returns-clause-made : goal.returns-clause-made
returns-clause-made g c = λ sig own f w h.
    let ts = c.args.pool.now.trees in
    let us = c.simplify_actions.new.pool.trees in
    let value = c.as_slice.ensures.value in
    let simple = g.S.Simplifier.simple c.args.simp.now sig own in
    subst (λ z. AllZip (ActionBecomes sig own simple ts us) (map plain_action z) (map plain_action c.in_ok-actions.actions.items)) value (c.in_ok-actions.ensures.made sig own f w (subst (λ z. All (IsActionWithin sig ts) (map plain_action z)) (sym value) h))
