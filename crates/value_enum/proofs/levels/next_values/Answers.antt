use Rattle.std.proofs.Common.{◌≡◌, ◌+◌, ◌∙◌, ℕ, true, false, List, length, take, refl, sym, ap, arith}
use Rattle.std.specs.List.{Contains}
use Rattle.data_theory.specs.declared.ids.TermId.{TermId}
use Rattle.term_pool.proofs.NodeTrees.{extends_itself, extends_on}
use Rattle.term_pool.proofs.SortSearch.{is_among, among_contains, contains_among}
use Rattle.value_enum.specs.Values.{AreTermsOf}
use Rattle.value_enum.specs.Levels.{shape_of, values_weighing}
use Rattle.value_enum.proofs.RowReads.{each_list}
use Rattle.value_enum.proofs.RowLemmas.{rows_length}
use Rattle.value_enum.proofs.TermLists.{terms_kept}
use Rattle.value_enum.proofs.ListingLoops.{have_tuples_kept}
use Rattle.value_enum.proofs.levels.next_values.Goals as goal

pub loop-number-init : goal.loop-number-init
loop-number-init c = record { kept = extends_itself c.args.pool.now.trees; constants = refl; size = ap length c.new-by_sort.ensures.items; there = λ k l has. absurd (omega (arith, l)) }

pub loop-number-preserved-then-not-contains : goal.loop-number-preserved-then-not-contains
loop-number-preserved-then-not-contains c =
    let absent : is_among (record { 0 = c.loop-number.number }) c.args.shapes.now.sorts.keys ≡ false = cc in
    let P : ℕ → List TermId → Type 0 = λ k ids. Contains c.args.shapes.now.sorts.keys (record { 0 = k }) → AreTermsOf c.loop-number.pool.trees ids (take (c.args.bound + 1) (values_weighing (shape_of c.args.sig.now c.args.shapes.now) (record { 0 = k }) (length c.args.tuples.now))) in
    record {
      kept = c.loop-number.invariant.kept;
      constants = c.loop-number.invariant.constants;
      size = ap length c.in_ok-push.ensures.items ∙ (rows_length c.loop-number.by_sort.items _ ∙ ap (λ n. n + 1) c.loop-number.invariant.size);
      there = each_list P c.loop-number.by_sort.items c.push.new.self.items _ c.loop-number.number c.loop-number.invariant.size c.in_ok-push.ensures.items c.loop-number.invariant.there
          (λ has. absurd (let there = contains_among (record { 0 = c.loop-number.number }) c.args.shapes.now.sorts.keys has in let wrong : true ≡ false = sym there ∙ absent in cc));
    }

pub values_weighing-requires-clause-sort : goal.values_weighing-requires-clause-sort
values_weighing-requires-clause-sort c = let there : is_among (record { 0 = c.loop-number.number }) c.args.shapes.now.sorts.keys ≡ true = cc in among_contains (record { 0 = c.loop-number.number }) c.args.shapes.now.sorts.keys there

pub values_weighing-requires-clause-tuples : goal.values_weighing-requires-clause-tuples
values_weighing-requires-clause-tuples c = have_tuples_kept c.args.sig.now c.args.shapes.now c.args.bound c.args.pool.now.trees c.loop-number.pool.trees c.args.tuples.now c.loop-number.invariant.kept c.requires.tuples

pub returns-in_err-values-clause-kept : goal.returns-in_err-values-clause-kept
returns-in_err-values-clause-kept c = extends_on c.args.pool.now.trees c.loop-number.pool.trees c.values_weighing.new.pool.trees c.loop-number.invariant.kept c.values_weighing.ensures.kept

pub returns-in_err-values-clause-constants : goal.returns-in_err-values-clause-constants
returns-in_err-values-clause-constants c = c.values_weighing.ensures.constants ∙ c.loop-number.invariant.constants

pub returns-in_err-push-2-clause-kept : goal.returns-in_err-push-2-clause-kept
returns-in_err-push-2-clause-kept c = extends_on c.args.pool.now.trees c.loop-number.pool.trees c.values_weighing.new.pool.trees c.loop-number.invariant.kept c.values_weighing.ensures.kept

pub returns-in_err-push-2-clause-constants : goal.returns-in_err-push-2-clause-constants
returns-in_err-push-2-clause-constants c = c.values_weighing.ensures.constants ∙ c.loop-number.invariant.constants

pub loop-number-preserved : goal.loop-number-preserved
loop-number-preserved c =
    let P : ℕ → List TermId → Type 0 = λ k ids. Contains c.args.shapes.now.sorts.keys (record { 0 = k }) → AreTermsOf c.values_weighing.new.pool.trees ids (take (c.args.bound + 1) (values_weighing (shape_of c.args.sig.now c.args.shapes.now) (record { 0 = k }) (length c.args.tuples.now))) in
    record {
      kept = extends_on c.args.pool.now.trees c.loop-number.pool.trees c.values_weighing.new.pool.trees c.loop-number.invariant.kept c.values_weighing.ensures.kept;
      constants = c.values_weighing.ensures.constants ∙ c.loop-number.invariant.constants;
      size = ap length c.in_ok-push-2.ensures.items ∙ (rows_length c.loop-number.by_sort.items _ ∙ ap (λ n. n + 1) c.loop-number.invariant.size);
      there = each_list P c.loop-number.by_sort.items c.push-in-loop-number.new.self.items c.in_ok-values.values c.loop-number.number c.loop-number.invariant.size c.in_ok-push-2.ensures.items
          (λ k l has. terms_kept c.loop-number.pool.trees c.values_weighing.new.pool.trees c.values_weighing.ensures.kept _ _ (c.loop-number.invariant.there k l has)) (λ has. c.in_ok-values.ensures.values);
    }

pub returns-clause-kept : goal.returns-clause-kept
returns-clause-kept c = c.loop-number.invariant.kept

pub returns-clause-constants : goal.returns-clause-constants
returns-clause-constants c = c.loop-number.invariant.constants

pub returns-clause-row : goal.returns-clause-row
returns-clause-row c =
    λ s has. c.loop-number.invariant.there s.0 (let inside = c.requires.shapes.within s has in let count = c.requires.shapes.count in omega (arith, inside, count, c.len-number-end.ensures, c.args.shapes.now.constructors.ok.0, c.loop-number-test.false)) has
