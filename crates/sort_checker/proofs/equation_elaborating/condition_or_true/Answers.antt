use Rattle.std.proofs.Common.{◌≡◌, ◌<◌, length, List, refl, sym, subst, ap, ◌∙◌}
use Rattle.std.specs.Prelude.{Option, None, Some, IfOk}
use Rattle.std.specs.Global.{Box}
use Rattle.std.proofs.lemmas.Option.{slice_get_within}
use Rattle.data_theory.specs.declared.ids.FunId.{FunId}
use Rattle.data_theory.specs.Equations.{trueᵗ}
use Rattle.data_theory.specs.Terms.{Term, Symbol, application, none}
use Rattle.data_theory.specs.IdTrees as trees
use Rattle.data_theory.specs.IdTrees.{Tree}
use Rattle.data_theory.specs.IdTerms.{term_under, IsTreeWithin}
use Rattle.data_theory.proofs.StandingLemmas.{signatures_have_truth_functions}
use Rattle.mcrl2_syntax.specs.declared.data_tree.DataTree.{DataTree}
use Rattle.mcrl2_syntax.specs.DataTrees.{plain_data}
use Rattle.mcrl2_syntax.specs.Declarations.{some_data}
use Rattle.sort_table.specs.BareData.{bare_data}
use Rattle.sort_table.specs.BareDeclarations.{bare_condition}
use Rattle.data_typing.proofs.TreesWithin.{added_within}
use Rattle.sort_checker.specs.Additions.{nothing}
use Rattle.sort_checker.specs.ElaboratedParts.{IsTerm}
use Rattle.sort_checker.specs.ElaboratedTexts.{IsTermHere}
use Rattle.sort_checker.specs.PartTypings.{condition_at}
use Rattle.sort_checker.proofs.WhatStays.{it_is_a_term}
use Rattle.sort_checker.proofs.equation_elaborating.condition_or_true.Goals as goal

abbrev true_tree : Tree
true_tree = trees.function (record { 0 = 6 }) trees.none

pub condition_term-requires-clause-typed : goal.condition_term-requires-clause-typed
condition_term-requires-clause-typed c =
    let t = c.requires.typed in
    record {
      vocabulary = t.vocabulary;
      scope = t.scope;
      sees = t.sees;
      term = t.term;
      checks = subst (λ (d : DataTree). condition_at t.vocabulary t.scope (Some (bare_data (plain_data d))) ≡ Some t.term) (sym c.deref.ensures)
          (subst (λ (o : Option (Box DataTree)). condition_at t.vocabulary t.scope (bare_condition (some_data o)) ≡ Some t.term) c.in-Some.is t.is);
    }

pub returns-in-Some-clause-means : goal.returns-in-Some-clause-means
returns-in-Some-clause-means c =
    subst (λ (o : Option (Box DataTree)). IfOk c.condition_term.result (IsTermHere c.args.sig.now c.args.scope.now (λ v scope. condition_at v scope (bare_condition (some_data o))) c.condition_term.new.sig c.condition_term.new.pool)) (sym c.in-Some.is)
    (subst (λ (d : DataTree). IfOk c.condition_term.result (IsTermHere c.args.sig.now c.args.scope.now (λ v scope. condition_at v scope (Some (bare_data (plain_data d)))) c.condition_term.new.sig c.condition_term.new.pool)) c.deref.ensures c.condition_term.ensures.means)

pub returns-in_err-term-in-None-clause-kept : goal.returns-in_err-term-in-None-clause-kept
returns-in_err-term-in-None-clause-kept c = record { added = nothing; kept = c.intern.ensures.kept; constants = c.intern.ensures.constants }

pub returns-in_ok-term-in-None-clause-kept : goal.returns-in_ok-term-in-None-clause-kept
returns-in_ok-term-in-None-clause-kept c = record { added = nothing; kept = c.intern.ensures.kept; constants = c.intern.ensures.constants }

pub returns-in_ok-term-in-None-clause-ready : goal.returns-in_ok-term-in-None-clause-ready
returns-in_ok-term-in-None-clause-ready c =
    let ready = c.requires.ready in
    let truths = signatures_have_truth_functions c.args.sig.now ready.signature in
    let within : IsTreeWithin c.args.sig.now true_tree = (slice_get_within c.args.sig.now.functions 6 _ truths.true_stands.stands, tt) in
    record {
      signature = ready.signature;
      tables = ready.tables;
      trees = added_within c.args.sig.now c.args.pool.now.trees c.intern.new.self.trees true_tree c.in_ok-term-in-None.ensures.added within ready.trees;
      scope = ready.scope;
      numbers = ready.numbers;
    }

pub returns-in_ok-term-in-None-clause-means : goal.returns-in_ok-term-in-None-clause-means
returns-in_ok-term-in-None-clause-means c =
    let ready = c.requires.ready in
    let g = c.args.sig.now in
    let truths = signatures_have_truth_functions g ready.signature in
    let within : IsTreeWithin g true_tree = (slice_get_within g.functions 6 _ truths.true_stands.stands, tt) in
    let all = added_within g c.args.pool.now.trees c.intern.new.self.trees true_tree c.in_ok-term-in-None.ensures.added within ready.trees in
    let same = ap (term_under g) c.in_ok-term-in-None.ensures.tree ∙ ap (λ (f : Symbol). application f none) truths.true_means in
    let made : IsTerm g c.intern.new.self c.in_ok-term-in-None.term trueᵗ = subst (IsTerm g c.intern.new.self c.in_ok-term-in-None.term) same (it_is_a_term g c.intern.new.self ready.signature all c.in_ok-term-in-None.term c.in_ok-term-in-None.ensures.within) in
    subst (λ (o : Option (Box DataTree)). IsTermHere g c.args.scope.now (λ v scope. condition_at v scope (bare_condition (some_data o))) g c.intern.new.self c.in_ok-term-in-None.term) (sym c.in-None.is) (λ v scope sees. (trueᵗ, refl, made))
