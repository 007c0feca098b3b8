use Rattle.std.proofs.Common.{◌≡◌, List, sym, subst, ap, ◌∙◌}
use Rattle.std.specs.List.{All}
use Rattle.data_theory.specs.declared.ids.TermId.{TermId}
use Rattle.data_theory.specs.declared.ids.FunId.{FunId}
use Rattle.data_theory.specs.Terms.{Terms, function}
use Rattle.data_theory.specs.Declarations.{function_at}
use Rattle.data_theory.specs.Equations.{all_equal}
use Rattle.data_theory.specs.IdData.{data_meant}
use Rattle.data_rewriter.specs.Standing.{IsTerm, StandsFor, listed_at, terms_of}
use Rattle.data_rewriter.specs.Signatures.{AreEqualities}
use Rattle.data_rewriter.proofs.making.places.Goals as goal

pub returns-clause-made : goal.returns-clause-made
returns-clause-made c = λ sig tables k us vs f x y.
    let first = c.in_ok-xs.ensures.are sig (function k) us x.term x.is in
    let second = c.in_ok-ys.ensures.are sig (function k) vs y.term y.is in
    let eq = subst (λ (l : List FunId). AreEqualities sig l (function_at (data_meant sig) k).arguments) (sym c.equalities.ensures) (tables.places c.args.fun k f) in
    let left = subst (All (IsTerm sig c.args.pool.now.trees)) (sym c.as_slice.ensures.value) first.0 in
    let right = subst (All (IsTerm sig c.args.pool.now.trees)) (sym c.as_slice-2.ensures.value) second.0 in
    let made = c.in_ok-made.ensures.made sig tables.signature (function_at (data_meant sig) k).arguments eq left right in
    let u : terms_of (listed_at sig c.args.pool.now.trees c.as_slice.result.now) ≡ us = ap (λ (l : List TermId). terms_of (listed_at sig c.args.pool.now.trees l)) c.as_slice.ensures.value ∙ sym first.1 in
    let v : terms_of (listed_at sig c.args.pool.now.trees c.as_slice-2.result.now) ≡ vs = ap (λ (l : List TermId). terms_of (listed_at sig c.args.pool.now.trees l)) c.as_slice-2.ensures.value ∙ sym second.1 in
    subst (λ (w : Terms). StandsFor sig c.all_equal.new.pool.trees c.in_ok-made.made (all_equal (function_at (data_meant sig) k).arguments us w)) v (subst (λ (w : Terms). StandsFor sig c.all_equal.new.pool.trees c.in_ok-made.made (all_equal (function_at (data_meant sig) k).arguments w (terms_of (listed_at sig c.args.pool.now.trees c.as_slice-2.result.now)))) u made)
