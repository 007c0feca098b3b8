use Rattle.std.proofs.Common.{◌≡◌, ◌∙◌, ◌++◌, suc, take, drop, sym, ap, subst}
use Rattle.std.specs.List.{All}
use Rattle.std.proofs.lemmas.List.Elements.{All-nil}
use Rattle.term_pool.specs.HeadTrees.{tree_at, trees_at, AreIn, IsIn}
use Rattle.data_rewriter.specs.Standing.{IsTerm}
use Rattle.lps_core.specs.PlainLinears.{plain_summand}
use Rattle.lps_core.specs.TreeConditions.{tree_parts, trees_without_true}
use Rattle.lps_core.specs.TreeSummands.{trees_of_summand}
use Rattle.lps_sumelm.specs.SummandsInCode.{solved_trees}
use Rattle.lps_sumelm.proofs.SolvedTrees.{parts_stand}
use Rattle.lps_sumelm.proofs.Steps.{first_found, none_found, none_in_summand, fewer_sums, solved_is_over, made_stands, is_step}
use Rattle.lps_sumelm.proofs.eliminating.step.Goals as goal

pub first_solution-requires : goal.first_solution-requires
first_solution-requires g c =
    let sig = c.args.sig.now in
    let ts = c.args.pool.now.trees in
    let s = plain_summand c.args.summand.now in
    let ids = c.parts_of.new.found.items in
    let stands = c.signature_stands.ensures in
    let over = c.requires.stands.1.over in
    let are : trees_at ts ids ≡ trees_without_true (tree_parts (tree_at ts s.condition)) = c.in_ok-parts_of.ensures.parts ∙ ap (λ z. trees_at ts z ++ trees_without_true (tree_parts (tree_at ts s.condition))) c.new-parts.ensures.items in
    let inside : AreIn ts ids = c.in_ok-parts_of.ensures.within (subst (AreIn ts) (sym c.new-parts.ensures.items) (All-nil (IsIn ts))) in
    let all = parts_stand sig stands ts s.condition ids over.condition are inside in
    subst (All (IsTerm sig ts)) (sym c.as_slice-2.ensures.value) all

pub returns-in_default-clause-steps : goal.returns-in_default-clause-steps
returns-in_default-clause-steps g c =
    let sig = c.args.sig.now in
    let ts = c.args.pool.now.trees in
    let s = plain_summand c.args.summand.now in
    let ids = c.parts_of.new.found.items in
    let stands = c.signature_stands.ensures in
    let over = c.requires.stands.1.over in
    let are : trees_at ts ids ≡ trees_without_true (tree_parts (tree_at ts s.condition)) = c.in_ok-parts_of.ensures.parts ∙ ap (λ z. trees_at ts z ++ trees_without_true (tree_parts (tree_at ts s.condition))) c.new-parts.ensures.items in
    let none = none_found sig ts c.as_slice.result.now s.sums c.as_slice-2.result.now ids c.in_ok-place.field-0 c.as_slice.ensures.value c.as_slice-2.ensures.value c.in_default.is c.in_ok-place.ensures in
    none_in_summand sig stands ts s over ids are none

pub returns-in_err-solved-clause-fitting : goal.returns-in_err-solved-clause-fitting
returns-in_err-solved-clause-fitting g c = λ own f. c.fits_grown_pools.ensures c.args.sig.now own c.args.pool.now.trees c.solve.new.pool.trees c.solve.ensures.kept f

pub simplify_summand-requires : goal.simplify_summand-requires
simplify_summand-requires g c =
    let sig = c.args.sig.now in
    let ts = c.args.pool.now.trees in
    let s = plain_summand c.args.summand.now in
    let ids = c.parts_of.new.found.items in
    let stands = c.signature_stands.ensures in
    let over = c.requires.stands.1.over in
    let are : trees_at ts ids ≡ trees_without_true (tree_parts (tree_at ts s.condition)) = c.in_ok-parts_of.ensures.parts ∙ ap (λ z. trees_at ts z ++ trees_without_true (tree_parts (tree_at ts s.condition))) c.new-parts.ensures.items in
    let inside : AreIn ts ids = c.in_ok-parts_of.ensures.within (subst (AreIn ts) (sym c.new-parts.ensures.items) (All-nil (IsIn ts))) in
    let all = parts_stand sig stands ts s.condition ids over.condition are inside in
    let place = c.in-Some.place in
    let found = c.in-Some.found in
    let at = first_found sig ts c.as_slice.result.now s.sums c.as_slice-2.result.now ids c.in_ok-place.field-0 place found c.as_slice.ensures.value c.as_slice-2.ensures.value c.in-Some.is c.in_ok-place.ensures in
    let us = c.solve.new.pool.trees in
    let solved = plain_summand c.in_ok-solved.solved in
    let q : trees_of_summand us solved ≡ solved_trees ts found (trees_at ts (take place ids ++ drop (suc place) ids)) (trees_of_summand ts s) =
    subst (λ z. trees_of_summand us solved ≡ solved_trees ts found (trees_at ts z) (trees_of_summand ts s)) (c.as_slice-3.ensures.value ∙ c.remove.ensures.items) c.in_ok-solved.ensures.trees in
    let within = c.in_ok-solved.ensures.within in
    let kept = c.solve.ensures.kept in
    let r = c.requires.simplifier in
    (sig, r.0, c.fits_grown_pools.ensures sig r.0 ts us kept r.1, solved_is_over sig stands ts s over ids are place found at us solved all q within)

pub returns-in_err-simplify_summand-clause-fitting : goal.returns-in_err-simplify_summand-clause-fitting
returns-in_err-simplify_summand-clause-fitting g c =
    let sig = c.args.sig.now in
    let ts = c.args.pool.now.trees in
    let s = plain_summand c.args.summand.now in
    let ids = c.parts_of.new.found.items in
    let stands = c.signature_stands.ensures in
    let over = c.requires.stands.1.over in
    let are : trees_at ts ids ≡ trees_without_true (tree_parts (tree_at ts s.condition)) = c.in_ok-parts_of.ensures.parts ∙ ap (λ z. trees_at ts z ++ trees_without_true (tree_parts (tree_at ts s.condition))) c.new-parts.ensures.items in
    let inside : AreIn ts ids = c.in_ok-parts_of.ensures.within (subst (AreIn ts) (sym c.new-parts.ensures.items) (All-nil (IsIn ts))) in
    let all = parts_stand sig stands ts s.condition ids over.condition are inside in
    let place = c.in-Some.place in
    let found = c.in-Some.found in
    let at = first_found sig ts c.as_slice.result.now s.sums c.as_slice-2.result.now ids c.in_ok-place.field-0 place found c.as_slice.ensures.value c.as_slice-2.ensures.value c.in-Some.is c.in_ok-place.ensures in
    let us = c.solve.new.pool.trees in
    let solved = plain_summand c.in_ok-solved.solved in
    let q : trees_of_summand us solved ≡ solved_trees ts found (trees_at ts (take place ids ++ drop (suc place) ids)) (trees_of_summand ts s) =
    subst (λ z. trees_of_summand us solved ≡ solved_trees ts found (trees_at ts z) (trees_of_summand ts s)) (c.as_slice-3.ensures.value ∙ c.remove.ensures.items) c.in_ok-solved.ensures.trees in
    let within = c.in_ok-solved.ensures.within in
    let kept = c.solve.ensures.kept in
    λ own f. c.simplify_summand.ensures.fitting sig own (c.fits_grown_pools.ensures sig own ts us kept f) (solved_is_over sig stands ts s over ids are place found at us solved all q within)

pub returns-clause-fitting : goal.returns-clause-fitting
returns-clause-fitting g c =
    let sig = c.args.sig.now in
    let ts = c.args.pool.now.trees in
    let s = plain_summand c.args.summand.now in
    let ids = c.parts_of.new.found.items in
    let stands = c.signature_stands.ensures in
    let over = c.requires.stands.1.over in
    let are : trees_at ts ids ≡ trees_without_true (tree_parts (tree_at ts s.condition)) = c.in_ok-parts_of.ensures.parts ∙ ap (λ z. trees_at ts z ++ trees_without_true (tree_parts (tree_at ts s.condition))) c.new-parts.ensures.items in
    let inside : AreIn ts ids = c.in_ok-parts_of.ensures.within (subst (AreIn ts) (sym c.new-parts.ensures.items) (All-nil (IsIn ts))) in
    let all = parts_stand sig stands ts s.condition ids over.condition are inside in
    let place = c.in-Some.place in
    let found = c.in-Some.found in
    let at = first_found sig ts c.as_slice.result.now s.sums c.as_slice-2.result.now ids c.in_ok-place.field-0 place found c.as_slice.ensures.value c.as_slice-2.ensures.value c.in-Some.is c.in_ok-place.ensures in
    let us = c.solve.new.pool.trees in
    let solved = plain_summand c.in_ok-solved.solved in
    let q : trees_of_summand us solved ≡ solved_trees ts found (trees_at ts (take place ids ++ drop (suc place) ids)) (trees_of_summand ts s) =
    subst (λ z. trees_of_summand us solved ≡ solved_trees ts found (trees_at ts z) (trees_of_summand ts s)) (c.as_slice-3.ensures.value ∙ c.remove.ensures.items) c.in_ok-solved.ensures.trees in
    let within = c.in_ok-solved.ensures.within in
    let kept = c.solve.ensures.kept in
    λ own f. c.simplify_summand.ensures.fitting sig own (c.fits_grown_pools.ensures sig own ts us kept f) (solved_is_over sig stands ts s over ids are place found at us solved all q within)

pub returns-clause-fewer : goal.returns-clause-fewer
returns-clause-fewer g c =
    let sig = c.args.sig.now in
    let ts = c.args.pool.now.trees in
    let s = plain_summand c.args.summand.now in
    let ids = c.parts_of.new.found.items in
    let stands = c.signature_stands.ensures in
    let over = c.requires.stands.1.over in
    let are : trees_at ts ids ≡ trees_without_true (tree_parts (tree_at ts s.condition)) = c.in_ok-parts_of.ensures.parts ∙ ap (λ z. trees_at ts z ++ trees_without_true (tree_parts (tree_at ts s.condition))) c.new-parts.ensures.items in
    let place = c.in-Some.place in
    let found = c.in-Some.found in
    let at = first_found sig ts c.as_slice.result.now s.sums c.as_slice-2.result.now ids c.in_ok-place.field-0 place found c.as_slice.ensures.value c.as_slice-2.ensures.value c.in-Some.is c.in_ok-place.ensures in
    fewer_sums sig stands ts s over ids are place found at c.in_ok-simplify_summand.field-0.sums.items (c.in_ok-simplify_summand.ensures.sums ∙ c.in_ok-solved.ensures.sums)

pub returns-clause-stands : goal.returns-clause-stands
returns-clause-stands g c =
    let sig = c.args.sig.now in
    let ts = c.args.pool.now.trees in
    let s = plain_summand c.args.summand.now in
    let ids = c.parts_of.new.found.items in
    let stands = c.signature_stands.ensures in
    let over = c.requires.stands.1.over in
    let are : trees_at ts ids ≡ trees_without_true (tree_parts (tree_at ts s.condition)) = c.in_ok-parts_of.ensures.parts ∙ ap (λ z. trees_at ts z ++ trees_without_true (tree_parts (tree_at ts s.condition))) c.new-parts.ensures.items in
    let inside : AreIn ts ids = c.in_ok-parts_of.ensures.within (subst (AreIn ts) (sym c.new-parts.ensures.items) (All-nil (IsIn ts))) in
    let all = parts_stand sig stands ts s.condition ids over.condition are inside in
    let place = c.in-Some.place in
    let found = c.in-Some.found in
    let at = first_found sig ts c.as_slice.result.now s.sums c.as_slice-2.result.now ids c.in_ok-place.field-0 place found c.as_slice.ensures.value c.as_slice-2.ensures.value c.in-Some.is c.in_ok-place.ensures in
    let us = c.solve.new.pool.trees in
    let solved = plain_summand c.in_ok-solved.solved in
    let q : trees_of_summand us solved ≡ solved_trees ts found (trees_at ts (take place ids ++ drop (suc place) ids)) (trees_of_summand ts s) =
    subst (λ z. trees_of_summand us solved ≡ solved_trees ts found (trees_at ts z) (trees_of_summand ts s)) (c.as_slice-3.ensures.value ∙ c.remove.ensures.items) c.in_ok-solved.ensures.trees in
    let within = c.in_ok-solved.ensures.within in
    let kept = c.solve.ensures.kept in
    let r = c.requires.simplifier in
    let answer = c.in_ok-simplify_summand.ensures.answers sig r.0 (c.fits_grown_pools.ensures sig r.0 ts us kept r.1) (solved_is_over sig stands ts s over ids are place found at us solved all q within) r.2 in
    λ ps h. made_stands sig stands ts s over ids are place found at us solved all q within r.0 (g.S.Simplifier.simple c.args.simp.now sig r.0) c.simplify_summand.new.pool.trees (plain_summand c.in_ok-simplify_summand.field-0) c.in_ok-simplify_summand.ensures.sums answer ps h

pub returns-clause-steps : goal.returns-clause-steps
returns-clause-steps g c =
    let sig = c.args.sig.now in
    let ts = c.args.pool.now.trees in
    let s = plain_summand c.args.summand.now in
    let ids = c.parts_of.new.found.items in
    let stands = c.signature_stands.ensures in
    let over = c.requires.stands.1.over in
    let are : trees_at ts ids ≡ trees_without_true (tree_parts (tree_at ts s.condition)) = c.in_ok-parts_of.ensures.parts ∙ ap (λ z. trees_at ts z ++ trees_without_true (tree_parts (tree_at ts s.condition))) c.new-parts.ensures.items in
    let inside : AreIn ts ids = c.in_ok-parts_of.ensures.within (subst (AreIn ts) (sym c.new-parts.ensures.items) (All-nil (IsIn ts))) in
    let all = parts_stand sig stands ts s.condition ids over.condition are inside in
    let place = c.in-Some.place in
    let found = c.in-Some.found in
    let at = first_found sig ts c.as_slice.result.now s.sums c.as_slice-2.result.now ids c.in_ok-place.field-0 place found c.as_slice.ensures.value c.as_slice-2.ensures.value c.in-Some.is c.in_ok-place.ensures in
    let us = c.solve.new.pool.trees in
    let solved = plain_summand c.in_ok-solved.solved in
    let q : trees_of_summand us solved ≡ solved_trees ts found (trees_at ts (take place ids ++ drop (suc place) ids)) (trees_of_summand ts s) =
    subst (λ z. trees_of_summand us solved ≡ solved_trees ts found (trees_at ts z) (trees_of_summand ts s)) (c.as_slice-3.ensures.value ∙ c.remove.ensures.items) c.in_ok-solved.ensures.trees in
    let within = c.in_ok-solved.ensures.within in
    let kept = c.solve.ensures.kept in
    λ own f fine.
    let answer = c.in_ok-simplify_summand.ensures.answers sig own (c.fits_grown_pools.ensures sig own ts us kept f) (solved_is_over sig stands ts s over ids are place found at us solved all q within) fine in
    is_step sig stands ts s over ids are place found at us solved all q within own (g.S.Simplifier.simple c.args.simp.now sig own) (g.S.Simplifier.simple c.args.simp.now sig own) (λ t p. p) c.simplify_summand.new.pool.trees (plain_summand c.in_ok-simplify_summand.field-0) answer c.requires.stands.0 c.requires.stands.1
