use Rattle.std.proofs.Common.{◌≡◌, List, length, Option, Some, sym, ◌∙◌, subst}
use Rattle.std.specs.List.{All}
use Rattle.std.proofs.lemmas.List.Elements.{All-contains}
use Rattle.data_theory.specs.IdTreeSorts.{HasTreeSort}
use Rattle.data_theory.specs.declared.ids.SortId.{SortId}
use Rattle.data_theory.specs.declared.ids.FunId.{FunId}
use Rattle.data_theory.specs.declared.ids.TermId.{TermId}
use Rattle.term_pool.specs.declared.first_values.First.{First}
use Rattle.term_pool.specs.HeadTrees.{tree_at, IsIn}
use Rattle.term_pool.specs.FirstValues.{AreFirstValues}
use Rattle.term_pool.specs.FirstTerms.{HasTerm, IsReady, AreSortsWithin}
use Rattle.term_pool.specs.Constants.{tree_with, constant_of, AreConstants, sorts_in_need, DeclaresConstants}
use Rattle.term_pool.proofs.DeclaredConstants.{grown_itself, constants_kept, function_stays}
use Rattle.term_pool.proofs.FirstTermLemmas.{has_entry, some_entry, entry_is, same_tree}
use Rattle.term_pool.proofs.SortedFirstTerms.{tree_sorted}
use Rattle.term_pool.proofs.NeededConstants.{needs_same, still_ordered, all_ready}
use Rattle.term_pool.proofs.pool.Pool.closed_term.Goals as goal
use Rattle.term_pool.proofs.pool.Pool.closed_term.Goals.{After-sorts-3-1, After-drop-firsts-2}

pub returns-in_err-firsts-clause-grown : goal.returns-in_err-firsts-clause-grown
returns-in_err-firsts-clause-grown c = grown_itself c.args.sig.now

pub returns-in_err-firsts-clause-constants_kept : goal.returns-in_err-firsts-clause-constants_kept
returns-in_err-firsts-clause-constants_kept c = constants_kept c.args.self.now.constants

pub returns-in_err-sorts-clause-constants_kept : goal.returns-in_err-sorts-clause-constants_kept
returns-in_err-sorts-clause-constants_kept c = constants_kept c.args.self.now.constants

pub returns-in_err-sorts-clause-grown : goal.returns-in_err-sorts-clause-grown
returns-in_err-sorts-clause-grown c = grown_itself c.args.sig.now

-- the table, and the sorts in the first value
table : (c : After-sorts-3-1) → AreFirstValues c.args.sig.now c.as_slice-2.result.now
table c = subst (AreFirstValues c.args.sig.now) (sym c.as_slice-2.ensures.value) c.in_ok-firsts.ensures.entries

within : (c : After-sorts-3-1) → AreSortsWithin c.args.sig.now.functions c.as_slice-2.result.now c.args.sort c.in_ok-sorts.sorts.keys
within c =
    let same : c.as_slice.result.now ≡ c.as_slice-2.result.now = c.as_slice.ensures.value ∙ sym c.as_slice-2.ensures.value in
    subst (λ (firsts : List (Option First)). AreSortsWithin c.args.sig.now.functions firsts c.args.sort c.in_ok-sorts.sorts.keys) same c.in_ok-sorts.ensures

pub first_terms-requires-clause-ready : goal.first_terms-requires-clause-ready
first_terms-requires-clause-ready c =
    all_ready c.args.sig.now c.in_ok-firsts.ensures.stands c.as_slice-2.result.now (table c) c.declare_constants.new.sig c.declare_constants.ensures.grown c.args.sort c.in_ok-sorts.sorts.keys c.args.self.now.constants c.declare_constants.new.self.constants (within c) c.in_ok-declare_constants.ensures.declared

pub first_terms-requires-clause-ordered : goal.first_terms-requires-clause-ordered
first_terms-requires-clause-ordered c = still_ordered c.args.sig.now c.in_ok-firsts.ensures.stands c.as_slice-2.result.now (table c) c.declare_constants.new.sig c.declare_constants.ensures.grown c.args.sort c.in_ok-sorts.sorts.keys (within c)

pub returns-clause-has : goal.returns-clause-has
returns-clause-has c =
    let before = (goal.at.returns-clause-has c).After-sorts-3-1 in
    let stands = c.in_ok-firsts.ensures.stands in
    let entry = some_entry c.args.sig.now stands c.as_slice-2.result.now (table before) c.args.sort (has_entry c.args.sig.now stands c.as_slice-2.result.now (table before) c.args.sort c.requires.inhabited) in
    let is = entry_is c.args.sig.now stands c.as_slice-2.result.now (table before) c.args.sort entry.0 entry.1 in
    (is.0, is.1)

-- the term that was made for the sort
made : (c : After-drop-firsts-2) → HasTerm c.declare_constants.new.sig.functions c.as_slice-2.result.now c.first_terms.new.self.trees c.first_terms.new.self.constants c.in_ok-made.made c.args.sort
made c =
    let before = (goal.at.returns-clause-first c).After-sorts-3-1 in
    All-contains (HasTerm c.declare_constants.new.sig.functions c.as_slice-2.result.now c.first_terms.new.self.trees c.first_terms.new.self.constants c.in_ok-made.made) c.in_ok-sorts.sorts.keys c.args.sort c.in_ok-made.ensures.made (within before).has_sort

same_term : (c : After-drop-firsts-2) → (made c).term ≡ c.index.result.now
same_term c = let both : Some (made c).term ≡ Some c.index.result.now = sym (made c).found ∙ c.index.ensures in cc

pub returns-clause-first : goal.returns-clause-first
returns-clause-first c =
    let before = (goal.at.returns-clause-first c).After-sorts-3-1 in
    let g = c.args.sig.now in
    λ v first. subst (λ (id : TermId). tree_at c.first_terms.new.self.trees id ≡ tree_with (constant_of c.first_terms.new.self.constants) v) (same_term c)
    (same_tree g c.in_ok-firsts.ensures.stands c.as_slice-2.result.now (table before) c.declare_constants.new.sig.functions (function_stays g c.declare_constants.new.sig c.declare_constants.ensures.grown) c.first_terms.new.self.constants c.args.sort _ (made c).is v first)

pub returns-clause-declared : goal.returns-clause-declared
returns-clause-declared c =
    let before = (goal.at.returns-clause-declared c).After-sorts-3-1 in
    let g = c.args.sig.now in
    λ v first.
    let needs = needs_same g c.in_ok-firsts.ensures.stands c.as_slice-2.result.now (table before) c.args.sort v first c.in_ok-sorts.sorts.keys (within before) c.args.self.now.constants in
    subst (λ (cs : List (SortId × FunId)). DeclaresConstants (sorts_in_need g c.args.self.now.constants v) g c.args.self.now.constants c.declare_constants.new.sig cs) (sym c.first_terms.ensures.constants)
    (subst (λ (ss : List SortId). DeclaresConstants ss g c.args.self.now.constants c.declare_constants.new.sig c.declare_constants.new.self.constants) needs c.in_ok-declare_constants.ensures.declared)

pub returns-clause-within : goal.returns-clause-within
returns-clause-within c = subst (IsIn c.first_terms.new.self.trees) (same_term c) (made c).within

pub returns-clause-sorted : goal.returns-clause-sorted
returns-clause-sorted c =
    let before = (goal.at.returns-clause-sorted c).After-sorts-3-1 in
    let g = c.args.sig.now in
    let h = c.declare_constants.new.sig in
    let firsts = c.as_slice-2.result.now in
    let stands = c.in_ok-firsts.ensures.stands in
    let constants = c.first_terms.new.self.constants in
    let grown = c.declare_constants.ensures.grown in
    let sorts = c.in_ok-sorts.sorts.keys in
    let are = subst (AreConstants h) (sym c.first_terms.ensures.constants) c.declare_constants.ensures.constants in
    let ready = subst (λ (cs : List (SortId × FunId)). All (IsReady (length h.functions) firsts cs) sorts) (sym c.first_terms.ensures.constants)
    (all_ready g stands firsts (table before) h grown c.args.sort sorts c.args.self.now.constants c.declare_constants.new.self.constants (within before) c.in_ok-declare_constants.ensures.declared) in
    let ordered = still_ordered g stands firsts (table before) h grown c.args.sort sorts (within before) in
    subst (λ (id : TermId). HasTreeSort h (tree_at c.first_terms.new.self.trees id) c.args.sort) (same_term c)
    (tree_sorted g h stands grown firsts (table before) constants are sorts ready ordered c.args.sort _ (within before).has_sort (made c).is)
