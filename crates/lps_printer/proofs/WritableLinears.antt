-- A linear process with constants in the place of empty lists is a linear process over the same variables, is well sorted, and can be written.
use Rattle.std.proofs.Common.{ℕ, Bool, true, false, cond, List, [], ◌∷◌, ◌++◌, refl, sym, ◌∙◌, subst}
use Rattle.std.specs.Prelude.{Option, Some, None, option_map}
use Rattle.std.specs.List.{AllByRecursion, Contains}
use Rattle.std.proofs.lemmas.List.{length-map}
use Rattle.data_theory.specs.Terms.{Sort, boolean, Symbol, Term, Terms, variable, unknown, application}
use Rattle.data_theory.specs.Terms as terms
use Rattle.data_theory.specs.Environments.{terms_of, IsOver, AreOver}
use Rattle.data_theory.specs.Declarations.{Data, HaveSorts}
use Rattle.process_terms.specs.Labels.{Action, Label}
use Rattle.process_terms.specs.Processes.{Bound}
use Rattle.bisim_laws.specs.LinearProcesses.{Summand, Linear, variables, sorts, LabelIsOver, no_action_left, action_over, NextIsOver, no_next, next_over, IsSummand, IsLinear, LabelIsSorted, no_action_to_sort, action_sorted, NextIsSorted, no_next_to_sort, next_sorted, SummandIsSorted, IsWellSorted}
use Rattle.lps_core.proofs.Members.{contains_map}
use Rattle.lps_printer.specs.WrittenTerms.{Manner, no_elements, an_element, a_cast, declared, built_in, manner}
use Rattle.lps_printer.specs.ReadableNames.{IsWritable, AreWritable}
use Rattle.lps_printer.specs.EmptyLists.{Filled, empty_or, all_opened, all_placed, as_elements, filled_in, filled, filled_all, HasNils, NilsAmong, AllNilsAmong, HasNoUnknown, HaveNoUnknown}
use Rattle.lps_printer.specs.WrittenProcesses.{TextNames}
use Rattle.lps_printer.specs.LinearBack.{NextReads}
use Rattle.lps_printer.specs.FilledLinears.{Constants, filled_terms, filled_label, filled_summand, filled_linear}
use Rattle.lps_printer.proofs.EmptyLists.{fill}

-- ---- the same variables
module _ (xs : List ℕ) (c : Constants) (o : ℕ → Bool) where
  empty_over : (k : Option ℕ) (s : Sort) → IsOver xs (empty_or k s)
  empty_over None s = tt
  empty_over (Some k) s = tt

  either_over : (b : Bool) (ts us : Terms) → AreOver xs ts → AreOver xs us → AreOver xs (cond b ts us)
  either_over true ts us h k = h
  either_over false ts us h k = k

  elements_over : (fs : List Filled) → AreOver xs (all_opened fs) → AreOver xs (all_placed fs) → AreOver xs (as_elements fs)
  elements_over [] h k = h
  elements_over (f ∷ []) h k = h
  elements_over (f ∷ e ∷ []) h k = (h.0, (k.1.0, tt))
  elements_over (f ∷ e ∷ r ∷ fs) h k = h

  opened_by : (m : Manner) (f : Symbol) (fs : List Filled) → AreOver xs (all_opened fs) → AreOver xs (all_placed fs) → IsOver xs (filled_in c o m f fs).opened
  opened_by (no_elements s) f fs h k = empty_over (c s) s
  opened_by an_element f fs h k = elements_over fs h k
  opened_by a_cast f fs h k = h
  opened_by (declared i) f fs h k = either_over (o i) (all_placed fs) (all_opened fs) k h
  opened_by built_in f fs h k = h

  placed_by : (m : Manner) (f : Symbol) (fs : List Filled) → AreOver xs (all_opened fs) → AreOver xs (all_placed fs) → IsOver xs (filled_in c o m f fs).placed
  placed_by (no_elements s) f fs h k = tt
  placed_by an_element f fs h k = elements_over fs h k
  placed_by a_cast f fs h k = h
  placed_by (declared i) f fs h k = either_over (o i) (all_placed fs) (all_opened fs) k h
  placed_by built_in f fs h k = h

  mutual
    opened_over : (t : Term) → IsOver xs t → IsOver xs (filled c o t).opened
    opened_over (variable v) h = h
    opened_over (terms.numeral s z) h = tt
    opened_over (unknown d k) h = tt
    opened_over (application f ts) h = opened_by (manner f) f (filled_all c o ts) (all_opened_over ts h) (all_placed_over ts h)

    placed_over : (t : Term) → IsOver xs t → IsOver xs (filled c o t).placed
    placed_over (variable v) h = h
    placed_over (terms.numeral s z) h = tt
    placed_over (unknown d k) h = tt
    placed_over (application f ts) h = placed_by (manner f) f (filled_all c o ts) (all_opened_over ts h) (all_placed_over ts h)

    all_opened_over : (ts : Terms) → AreOver xs ts → AreOver xs (all_opened (filled_all c o ts))
    all_opened_over terms.none h = tt
    all_opened_over (terms.more t ts) h = (opened_over t h.0, all_opened_over ts h.1)

    all_placed_over : (ts : Terms) → AreOver xs ts → AreOver xs (all_placed (filled_all c o ts))
    all_placed_over terms.none h = tt
    all_placed_over (terms.more t ts) h = (placed_over t h.0, all_placed_over ts h.1)

module _ (xs : List ℕ) (c : Constants) (n : TextNames) where
  terms_over : (b : Bool) (ts : List Term) → AreOver xs (terms_of ts) → AreOver xs (terms_of (filled_terms c n b ts))
  terms_over true [] h = tt
  terms_over false [] h = tt
  terms_over true (t ∷ ts) h = (placed_over xs c n.terms.once t h.0, terms_over true ts h.1)
  terms_over false (t ∷ ts) h = (opened_over xs c n.terms.once t h.0, terms_over false ts h.1)

  label_over : (m : Label) → LabelIsOver xs m → LabelIsOver xs (filled_label c n m)
  label_over [] no_action_left = no_action_left
  label_over (a ∷ m) (action_over h k) = action_over (terms_over (n.once a.name) a.args h) (label_over m k)

  next_over_still : (params : List Bound) (o : Option (List Term)) → NextIsOver xs params o → NextIsOver xs params (option_map (filled_terms c n true) o)
  next_over_still params None no_next = no_next
  next_over_still params (Some ts) (next_over h long) = next_over (terms_over true ts h) (length-map ts (λ t. (filled c n.terms.once t).placed) ∙ long)

pub summand_still : (c : Constants) (n : TextNames) (params : List Bound) (s : Summand) → IsSummand params s → IsSummand params (filled_summand c n s)
summand_still c n params s h =
    let xs : List ℕ = variables s.sums ++ variables params in
    record {
      condition = opened_over xs c n.terms.once s.condition h.condition;
      label = label_over xs c n s.label h.label;
      next = next_over_still xs c n params s.next h.next;
      apart = h.apart;
      distinct = h.distinct;
    }

pub linear_still : (c : Constants) (n : TextNames) (l : Linear) → IsLinear l → IsLinear (filled_linear c n l)
linear_still c n l h = record {
  distinct = h.distinct;
  summands = λ s i. let r = contains_map (filled_summand c n) l.summands s i in subst (IsSummand l.params) (sym r.1.1) (summand_still c n l.params r.0 (h.summands r.0 r.1.0));
}

-- ---- what can be filled: empty lists in open places have a constant
abbrev pub NextKnown : Option (List Term) → Type 0
NextKnown None = Unit {0}
NextKnown (Some ts) = HaveNoUnknown (terms_of ts)

abbrev pub NextNils : (Sort → Type 0) → TextNames → Option (List Term) → Type 0
NextNils P n None = Unit {0}
NextNils P n (Some ts) = AllNilsAmong P n.terms.once true (terms_of ts)

pub record CanFill (P : Sort → Type 0) (n : TextNames) (s : Summand) : Type 0 where
  pub condition_known : HasNoUnknown s.condition
  pub label_known : AllByRecursion (λ (a : Action). HaveNoUnknown (terms_of a.args)) s.label
  pub next_known : NextKnown s.next
  pub condition_nils : NilsAmong P n.terms.once false s.condition
  pub label_nils : AllByRecursion (λ (a : Action). AllNilsAmong P n.terms.once (n.once a.name) (terms_of a.args)) s.label
  pub next_nils : NextNils P n s.next

-- what is written of a summand
pub record IsWrittenSummand (n : TextNames) (s : Summand) : Type 0 where
  pub condition : IsWritable n.terms s.condition
  pub label : AllByRecursion (λ (a : Action). AreWritable n.terms (n.once a.name) (terms_of a.args)) s.label
  pub next : NextReads n s.next

module _ (d : Data) (c : Constants) (n : TextNames) (P : Sort → Type 0) (nils : HasNils d P c) where
  pub terms_filled : (vs : List Sort) (b : Bool) (ts : List Term) (ss : List Sort) → HaveSorts d vs (terms_of ts) ss → HaveNoUnknown (terms_of ts) → AllNilsAmong P n.terms.once b (terms_of ts)
      → HaveSorts d vs (terms_of (filled_terms c n b ts)) ss × AreWritable n.terms b (terms_of (filled_terms c n b ts))
  terms_filled vs true [] [] h w q = (tt, tt)
  terms_filled vs false [] [] h w q = (tt, tt)
  terms_filled vs b [] (s ∷ ss) h w q = absurd h
  terms_filled vs b (t ∷ ts) [] h w q = absurd h
  terms_filled vs true (t ∷ ts) (s ∷ ss) h w q =
      let f = fill {g = d} {vs = vs} {n = n.terms} {P = P} c nils true t s h.0 w.0 q.0 in
      let r = terms_filled vs true ts ss h.1 w.1 q.1 in
      ((f.placed.0, r.0), (f.placed.1, (λ e. absurd cc), r.1))
  terms_filled vs false (t ∷ ts) (s ∷ ss) h w q =
      let f = fill {g = d} {vs = vs} {n = n.terms} {P = P} c nils false t s h.0 w.0 q.0 in
      let r = terms_filled vs false ts ss h.1 w.1 q.1 in
      (((f.opened refl).0, r.0), ((f.opened refl).2, (λ e. (f.opened refl).1), r.1))

  module _ (vs : List Sort) where
    label_filled : (m : Label) → LabelIsSorted d vs m → AllByRecursion (λ (a : Action). HaveNoUnknown (terms_of a.args)) m → AllByRecursion (λ (a : Action). AllNilsAmong P n.terms.once (n.once a.name) (terms_of a.args)) m
        → LabelIsSorted d vs (filled_label c n m) × AllByRecursion (λ (a : Action). AreWritable n.terms (n.once a.name) (terms_of a.args)) (filled_label c n m)
    label_filled [] no_action_to_sort w q = (no_action_to_sort, tt)
    label_filled (a ∷ m) (action_sorted h hs) w q =
        let f = terms_filled vs (n.once a.name) a.args a.sorts h w.0 q.0 in
        let r = label_filled m hs w.1 q.1 in
        (action_sorted f.0 r.0, (f.1, r.1))

    next_filled : (ss : List Sort) (o : Option (List Term)) → NextIsSorted d vs ss o → NextKnown o → NextNils P n o → NextIsSorted d vs ss (option_map (filled_terms c n true) o) × NextReads n (option_map (filled_terms c n true) o)
    next_filled ss None no_next_to_sort w q = (no_next_to_sort, tt)
    next_filled ss (Some ts) (next_sorted h) w q = let f = terms_filled vs true ts ss h w q in (next_sorted f.0, f.1)

    pub summand_filled : (params : List Bound) (s : Summand) → SummandIsSorted d vs params s → CanFill P n s → SummandIsSorted d vs params (filled_summand c n s) × IsWrittenSummand n (filled_summand c n s)
    summand_filled params s h k =
        let f = fill {g = d} {vs = vs} {n = n.terms} {P = P} c nils false s.condition boolean h.condition k.condition_known k.condition_nils in
        let m = label_filled s.label h.label k.label_known k.label_nils in
        let o = next_filled (sorts params) s.next h.next k.next_known k.next_nils in (
          record { sums = h.sums; sum_sorts = h.sum_sorts; condition = (f.opened refl).0; label = m.0; next = o.0 },
          record { condition = (f.opened refl).2; label = m.1; next = o.1 },
        )

    pub linear_filled : (l : Linear) → IsWellSorted d vs l → ((s : Summand) → Contains l.summands s → CanFill P n s) → IsWellSorted d vs (filled_linear c n l)
    linear_filled l h k = record {
      params = h.params;
      param_sorts = h.param_sorts;
      summands = λ s i.
          let r = contains_map (filled_summand c n) l.summands s i in
          subst (SummandIsSorted d vs l.params) (sym r.1.1) (summand_filled l.params r.0 (h.summands r.0 r.1.0) (k r.0 r.1.0)).0;
    }
