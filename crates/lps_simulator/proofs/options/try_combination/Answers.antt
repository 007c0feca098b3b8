use Rattle.std.proofs.Common.{◌≡◌, ◌+◌, ◌++◌, ◌∙◌, ℕ, List, map, take, drop, sym, ap, subst, Option}
use Rattle.std.specs.Prelude.{Contains, IfSome}
use Rattle.std.specs.List.{All, zip}
use Rattle.data_theory.specs.declared.ids.VarId.{VarId}
use Rattle.data_theory.specs.declared.ids.TermId.{TermId}
use Rattle.data_theory.specs.Provable.{Equation}
use Rattle.data_theory.specs.IdData.{data_meant}
use Rattle.term_pool.specs.Bindings.{listed_terms}
use Rattle.data_rewriter.specs.Rewriters.{Fits}
use Rattle.data_rewriter.specs.Standing.{IsTerm}
use Rattle.lps_core.specs.PlainLinears.{plain_summand}
use Rattle.lps_simulator.specs.LeadingParts.{instance_at, FailInFront}
use Rattle.lps_simulator.specs.OptionsInCode.{plain_move}
use Rattle.lps_simulator.proofs.Bindings.{terms_stay}
use Rattle.lps_simulator.proofs.TriedOne.{one_by_whole, one_by_parts}
use Rattle.lps_simulator.proofs.options.try_combination.Goals as goal

pub failing_part-requires-clause-parts : goal.failing_part-requires-clause-parts
failing_part-requires-clause-parts g c = c.requires.parts.terms

pub try_with-requires-clause-listed : goal.try_with-requires-clause-listed
try_with-requires-clause-listed g c =
    let e : c.as_slice-by.result.now ≡ zip c.args.summand.now.sums.items c.args.combination.now ++ zip c.args.params.now c.args.state.now = c.as_slice-by.ensures.value ∙ c.in_ok-by.ensures ∙ ap (λ (xs : List VarId). zip xs c.args.combination.now ++ zip c.args.params.now c.args.state.now) c.as_slice-sums.ensures.value in
    terms_stay c.args.sig.now c.args.pool.now.trees c.failing_part.new.pool.trees (listed_terms c.as_slice-by.result.now) c.failing_part.ensures.kept (subst (λ (z : List (VarId × TermId)). All (IsTerm c.args.sig.now c.args.pool.now.trees) (listed_terms z)) (sym e) c.requires.listed)

pub returns-in_default-clause-tried : goal.returns-in_default-clause-tried
returns-in_default-clause-tried g c = λ own h.
    let e : c.as_slice-by.result.now ≡ zip c.args.summand.now.sums.items c.args.combination.now ++ zip c.args.params.now c.args.state.now = c.as_slice-by.ensures.value ∙ c.in_ok-by.ensures ∙ ap (λ (xs : List VarId). zip xs c.args.combination.now ++ zip c.args.params.now c.args.state.now) c.as_slice-sums.ensures.value in
    one_by_whole c.args.sig.now own c.args.fuel c.args.pool.now.trees c.failing_part.new.pool.trees c.failing_part.ensures.kept c.args.summand.now.sums.items (zip c.args.params.now c.args.state.now) c.args.combination.now c.requires.listed c.args.number (plain_summand c.args.summand.now)
    c.try_with.new.pool.trees c.as_slice-by.result.now (map plain_move c.args.moves.now.items) (map plain_move c.try_with.new.moves.items) c.args.left.now c.in_ok-why.why c.requires.summand e (c.in_ok-why.ensures.tried own (c.failing_part.ensures.fits own h))

pub returns-clause-tried : goal.returns-clause-tried
returns-clause-tried g c = λ own h.
    let e : c.as_slice-by.result.now ≡ zip c.args.summand.now.sums.items c.args.combination.now ++ zip c.args.params.now c.args.state.now = c.as_slice-by.ensures.value ∙ c.in_ok-by.ensures ∙ ap (λ (xs : List VarId). zip xs c.args.combination.now ++ zip c.args.params.now c.args.state.now) c.as_slice-sums.ensures.value in
    let fails =
    subst (λ (z : Option ℕ). IfSome z (λ (place : ℕ). (own : List Equation) → Fits c.args.rewriter.now c.args.sig.now own c.args.pool.now.trees → FailInFront (data_meant c.args.sig.now) own (map (instance_at c.args.sig.now c.args.pool.now.trees c.as_slice-by.result.now) (take (place + 1) c.args.parts.now)))) c.in-Some.is c.in_ok-place.ensures.fails in
    one_by_parts c.args.sig.now own c.args.fuel c.args.pool.now.trees c.failing_part.new.pool.trees c.failing_part.ensures.kept c.args.summand.now.sums.items (zip c.args.params.now c.args.state.now) c.args.combination.now c.requires.listed c.args.number (plain_summand c.args.summand.now)
    c.signature_stands.ensures c.as_slice-by.result.now c.args.parts.now (map plain_move c.args.moves.now.items) c.args.left.now c.leave_out.new.self c.in_ok-level.level (c.in-Some.place + 1) c.requires.summand.condition.inside c.requires.parts e (fails own h)
    (λ v i o. c.in_ok-level.ensures v (subst (λ (xs : List VarId). Contains (drop c.in_ok-level.level xs) v) (sym c.as_slice-sums.ensures.value) i) o) c.in_ok-leave_out.ensures.left_out
