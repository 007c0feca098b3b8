-- What elaborates fits: process terms, definitions and equations.
use Rattle.std.proofs.Common.{◌≡◌, ℕ, List, [], ◌∷◌, map, refl, ap, subst}
use Rattle.std.specs.List.{Contains, AllByRecursion}
use Rattle.data_theory.specs.Terms.{boolean}
use Rattle.process_terms.specs.Processes as processes
use Rattle.process_terms.specs.Processes.{Body, written_delta, written_choice, written_seq, written_merge, written_starting, choice_of, seq_of, merge_of, merged_with, sync_of, synced_with, sums_around}
use Rattle.sort_table.specs.BareProcesses.{Variables, Process, Processes}
use Rattle.data_typing.specs.TypingLaws.{HasSmallNumerals}
use Rattle.data_typing.specs.Meanings.{Scope}
use Rattle.sort_checker.specs.FullVocabularies.{FullVocabulary}
use Rattle.sort_checker.specs.Scopes.{numbers_of, Binds, binds_none, binds_more}
use Rattle.sort_checker.specs.Elaborations.{Elaborates, nothing, label, call_in_order, one_by_one, call_by_name, only_these, none_of_these, unseen, renamed, joined, in_sequence, one_of, at_once, left_first, side_by_side, for_each, where_true, by_truth, AllElaborate, all_done, one_and_more}
use Rattle.sort_checker.specs.FittingBodies.{BodyFits, IsOverSorts, EachExpression, EachExpressionOf, bounds_of, HasSorts, WhatElaboratesFits, DefinitionsFit}
use Rattle.sort_checker.proofs.EachAlone.{expressions_alone}
use Rattle.sort_checker.proofs.SortedParts.{term_fits, label_fits, arguments_fit, assigned_fit, process_found, sort_is}

-- ---- several operands
module _ (v : FullVocabulary) (xs : List processes.Bound) where
  Fits : Body → Type 0
  Fits b = BodyFits v xs b

  choices_fit : (bs : List Body) → AllByRecursion (BodyFits v xs) bs → BodyFits v xs (choice_of bs)
  choices_fit [] h = tt
  choices_fit (b ∷ []) h = h.0
  choices_fit (b ∷ c ∷ bs) h = (h.0, choices_fit (c ∷ bs) h.1)

  seqs_fit : (bs : List Body) → AllByRecursion (BodyFits v xs) bs → BodyFits v xs (seq_of bs)
  seqs_fit [] h = tt
  seqs_fit (b ∷ []) h = h.0
  seqs_fit (b ∷ c ∷ bs) h = (h.0, seqs_fit (c ∷ bs) h.1)

  merged_fits : (b : Body) (bs : List Body) → BodyFits v xs b → AllByRecursion (BodyFits v xs) bs → BodyFits v xs (merged_with b bs)
  merged_fits b [] one h = one
  merged_fits b (c ∷ bs) one h = merged_fits (written_merge b c) bs (one, h.0) h.1

  merges_fit : (bs : List Body) → AllByRecursion (BodyFits v xs) bs → BodyFits v xs (merge_of bs)
  merges_fit [] h = tt
  merges_fit (b ∷ bs) h = merged_fits b bs h.0 h.1

  synced_fits : (b : Body) (bs : List Body) → BodyFits v xs b → AllByRecursion (BodyFits v xs) bs → BodyFits v xs (synced_with b bs)
  synced_fits b [] one h = one
  synced_fits b (c ∷ bs) one h = synced_fits (written_starting processes.sync b c) bs (one, h.0) h.1

  syncs_fit : (bs : List Body) → AllByRecursion (BodyFits v xs) bs → BodyFits v xs (sync_of bs)
  syncs_fit [] h = tt
  syncs_fit (b ∷ bs) h = synced_fits b bs h.0 h.1

-- ---- sums
same_numbers : (scope : Scope) → map (λ (y : processes.Bound). y.var) (bounds_of scope) ≡ numbers_of scope
same_numbers [] = refl
same_numbers (b ∷ scope) = ap (λ (ns : List ℕ). b.number ∷ ns) (same_numbers scope)

module _ (v : FullVocabulary) (over : IsOverSorts v) where
  pub inner_sorts : {scope inner : Scope} {xs : Variables} {bs : List processes.Bound} → HasSorts v scope → Binds v.declared scope xs inner bs → HasSorts v inner
  inner_sorts h binds_none = h
  inner_sorts h (binds_more {s = s} {e = e} is f bs) = inner_sorts (sort_is v over e s is, h) bs

  sums_fit : {scope inner : Scope} {xs : Variables} {bs : List processes.Bound} → Binds v.declared scope xs inner bs → (b : Body) → BodyFits v (bounds_of inner) b
      → BodyFits v (bounds_of scope) (sums_around bs b)
  sums_fit binds_none b h = h
  sums_fit {scope = scope} (binds_more {n = n} {s = s} {e = e} is f bs) b h =
      (sort_is v over e s is, (λ c. f (subst (λ (ns : List ℕ). Contains ns n) (same_numbers scope) c)), sums_fit bs b h)

  -- ---- process terms
  mutual
    fits : {scope : Scope} {p : Process} {b : Body} → HasSorts v scope → EachExpression HasSmallNumerals p → Elaborates v scope p b → BodyFits v (bounds_of scope) b
    fits h small nothing = tt
    fits {scope = scope} h small (label {as_ = as_} {m = m} e) = label_fits v over scope h as_ m small e
    fits {scope = scope} h small (call_in_order {x = x} {es = es} {k = k} {ps = ps} {ts = ts} e f) =
        let found = process_found v over x k ps e in (_, found.0, arguments_fit v over scope h ps es ts found.1 small.0 f)
    fits {scope = scope} h small (one_by_one {a = x} {b = y} {as_ = as_} {bs = bs} n ds) = syncs_fit v (bounds_of scope) bs (all_fit h (expressions_alone HasSmallNumerals (x ∷ y ∷ as_) small) ds)
    fits {scope = scope} h small (call_by_name {x = x} {ds = ds} {k = k} {ps = ps} {ts = ts} e a f) =
        let found = process_found v over x k ps e in (_, found.0, assigned_fit v over scope h ps ds ts found.1 small f)
    fits h small (only_these f d) = fits h small d
    fits h small (none_of_these f d) = fits h small d
    fits h small (unseen f d) = fits h small d
    fits h small (renamed f d) = fits h small d
    fits h small (joined f d) = fits h small d
    fits {scope = scope} h small (in_sequence {bs = bs} ds) = seqs_fit v (bounds_of scope) bs (all_fit h small ds)
    fits {scope = scope} h small (one_of {bs = bs} ds) = choices_fit v (bounds_of scope) bs (all_fit h small ds)
    fits {scope = scope} h small (at_once {bs = bs} ds) = syncs_fit v (bounds_of scope) bs (all_fit h small ds)
    fits h small (left_first d k) = (fits h small.0 d, fits h small.1 k)
    fits {scope = scope} h small (side_by_side {bs = bs} ds) = merges_fit v (bounds_of scope) bs (all_fit h small ds)
    fits h small (for_each {b = b} bs d) = sums_fit bs b (fits (inner_sorts h bs) small d)
    fits {scope = scope} h small (where_true {e = e} {c = c} f d) = (term_fits v over scope h boolean e c small.0 tt f, fits h small.1 d, tt)
    fits {scope = scope} h small (by_truth {e = e} {c = c} f d k) = (term_fits v over scope h boolean e c small.0 tt f, fits h small.1 d, fits h small.2 k)

    all_fit : {scope : Scope} {ps : Processes} {bs : List Body} → HasSorts v scope → EachExpressionOf HasSmallNumerals ps → AllElaborate v scope ps bs → AllByRecursion (BodyFits v (bounds_of scope)) bs
    all_fit h small all_done = tt
    all_fit h small (one_and_more d ds) = (fits h small.0 d, all_fit h small.1 ds)

pub what_elaborates_fits : WhatElaboratesFits
what_elaborates_fits v over scope h p b small d = fits v over h small d

pub definitions_fit : DefinitionsFit
definitions_fit v over w d small h = fits v over (inner_sorts v over tt h.binds) small h.body
