-- Forms that fit are well sorted, and mean the same as signature and pool grow.
use Rattle.std.proofs.Common.{◌≡◌, ◌-◌, ℕ, List, map, sym, ap, ap₂, ◌∙◌, subst, Some}
use Rattle.std.specs.Prelude.{slice_get}
use Rattle.std.specs.List.{All}
use Rattle.std.proofs.lemmas.List.Elements.{All-contains}
use Rattle.data_theory.specs.declared.ids.TermId.{TermId}
use Rattle.data_theory.specs.Table.{bool_sort}
use Rattle.data_theory.specs.Declarations.{HaveSorts}
use Rattle.data_theory.specs.Environments.{terms_of}
use Rattle.data_theory.specs.Signature.{Sig}
use Rattle.data_theory.specs.Complete.{IsComplete}
use Rattle.data_theory.specs.IdTables.{IsTable}
use Rattle.data_theory.specs.IdData.{data_meant}
use Rattle.data_theory.specs.IdTrees.{Tree}
use Rattle.data_theory.specs.IdTerms.{variable_sorts}
use Rattle.data_theory.proofs.IdTermLemmas.{sorted_trees_are_within}
use Rattle.term_pool.specs.HeadTrees.{tree_at}
use Rattle.process_terms.specs.Meanings.{bound_at, term_at, action_of, label_of}
use Rattle.process_terms.specs.SignatureEntries.{entries_of, BothGrow}
use Rattle.process_terms.proofs.MeaningLemmas.{all_same}
use Rattle.bisim_laws.specs.LinearProcesses.{sorts}
use Rattle.bisim_laws.specs.BaseStates.{GreibachCall}
use Rattle.lps_core.specs.Fitting.{IsVariable, sort_of_variable, IsActionOf}
use Rattle.lps_core.proofs.Members.{contains_map, mapped_at, all_at}
use Rattle.lps_core.proofs.Staying.{variables_declared, variables_have_sorts, sorts_of_variables, terms_sorted, condition_sorted, label_is_sorted, variable_stays, term_stays, terms_stay, action_stays}
use Rattle.greibach.specs.Forms.{FormEquation, FormSummandIsSorted, FormEquationIsSorted}
use Rattle.greibach.specs.PlainForms.{PlainFormSummand, PlainEquation, PlainForm, call_of, form_summand_of, equation_of, form_of}
use Rattle.greibach.specs.FittingForms.{CallFits, FormSummandFits, EquationFits, FormsThatFitAreSorted, FormsThatFitStay}

some_same : {A : Type 0} {x y : A} → Some x ≡ Some y → x ≡ y
some_same e = cc

module _ (g : Sig) (ts : List Tree) (f : PlainForm) (table : IsTable g) (complete : IsComplete g) (equations : All (EquationFits g ts f) f.equations) where
  call_sorted : (c : ℕ × List TermId) → CallFits g ts f c → (q : FormEquation) → slice_get (form_of (entries_of g ts) f) (call_of (entries_of g ts) c).equation ≡ Some q
      → HaveSorts (data_meant g) (variable_sorts g) (terms_of (call_of (entries_of g ts) c).args) (sorts q.params)
  call_sorted c h q at =
      let r = mapped_at (equation_of (entries_of g ts)) f.equations (c.0 - 1) q at in
      let same : h.equation ≡ r.0 = some_same (sym h.stands ∙ r.1.0) in
      let own = all_at (EquationFits g ts f) f.equations (c.0 - 1) h.equation equations h.stands in
      subst (λ z. HaveSorts (data_meant g) (variable_sorts g) (terms_of (map (term_at (entries_of g ts)) c.1)) (sorts z.params)) (ap (equation_of (entries_of g ts)) same ∙ sym r.1.1)
      (subst (λ ss. HaveSorts (data_meant g) (variable_sorts g) (terms_of (map (term_at (entries_of g ts)) c.1)) ss) (sym (sorts_of_variables g ts h.equation.params own.params))
      (terms_sorted g ts (map (sort_of_variable g) h.equation.params) c.1 table h.args))

  summand_sorted : (s : PlainFormSummand) → FormSummandFits g ts f s → FormSummandIsSorted (data_meant g) (variable_sorts g) (form_of (entries_of g ts) f) (form_summand_of (entries_of g ts) s)
  summand_sorted s h = record {
    sums = variables_declared g ts s.sums h.sums;
    sum_sorts = variables_have_sorts g ts s.sums table complete h.sums;
    condition = condition_sorted g ts s.condition table h.condition;
    label = label_is_sorted g ts s.label table h.label;
    next = λ c q i at.
        let r = contains_map (call_of (entries_of g ts)) s.next c i in
        subst (λ (z : GreibachCall). HaveSorts (data_meant g) (variable_sorts g) (terms_of z.args) (sorts q.params)) (sym r.1.1)
        (call_sorted r.0 (All-contains (CallFits g ts f) s.next r.0 h.next r.1.0) q (subst (λ (z : GreibachCall). slice_get (form_of (entries_of g ts) f) z.equation ≡ Some q) r.1.1 at));
  }

  equation_sorted : (q : PlainEquation) → EquationFits g ts f q → FormEquationIsSorted (data_meant g) (variable_sorts g) (form_of (entries_of g ts) f) (equation_of (entries_of g ts) q)
  equation_sorted q h = record {
    params = variables_declared g ts q.params h.params;
    param_sorts = variables_have_sorts g ts q.params table complete h.params;
    summands = λ s i.
        let r = contains_map (form_summand_of (entries_of g ts)) q.summands s i in
        subst (λ z. FormSummandIsSorted (data_meant g) (variable_sorts g) (form_of (entries_of g ts) f) z) (sym r.1.1) (summand_sorted r.0 (All-contains (FormSummandFits g ts f) q.summands r.0 h.summands r.1.0));
  }

pub forms_are_sorted : FormsThatFitAreSorted
forms_are_sorted g ts f table complete fits i q at =
    let r = mapped_at (equation_of (entries_of g ts)) f.equations i q at in
    subst (λ z. FormEquationIsSorted (data_meant g) (variable_sorts g) (form_of (entries_of g ts) f) z) (sym r.1.1)
    (equation_sorted g ts f table complete fits.equations r.0 (all_at (EquationFits g ts f) f.equations i r.0 fits.equations r.1.0))

-- ---- growth
module _ (g h : Sig) (ts us : List Tree) (table : IsTable g) (complete : IsComplete g) (grow : BothGrow g h ts us) (f : PlainForm) where
  call_stays : (c : ℕ × List TermId) → CallFits g ts f c → call_of (entries_of h us) c ≡ call_of (entries_of g ts) c
  call_stays c k = ap (λ args. record { equation = c.0 - 1; args = args }) (terms_stay g h ts us table complete grow (map (sort_of_variable g) k.equation.params) c.1 k.args)

  summand_stays : (s : PlainFormSummand) → FormSummandFits g ts f s → form_summand_of (entries_of h us) s ≡ form_summand_of (entries_of g ts) s
  summand_stays s k =
      ap₂ (λ xs c. record { sums = xs; condition = c; label = label_of (entries_of h us) s.label; next = map (call_of (entries_of h us)) s.next })
      (all_same (IsVariable g) (bound_at (entries_of g ts)) (bound_at (entries_of h us)) (variable_stays g h ts us table complete grow) s.sums k.sums)
      (term_stays g h ts us table complete grow s.condition k.condition.within (sorted_trees_are_within g table (tree_at ts s.condition) bool_sort k.condition.sorted))
      ∙ ap₂ (λ m n. record { sums = map (bound_at (entries_of g ts)) s.sums; condition = term_at (entries_of g ts) s.condition; label = m; next = n })
      (all_same (IsActionOf g ts) (action_of (entries_of g ts)) (action_of (entries_of h us)) (action_stays g h ts us table complete grow) s.label k.label)
      (all_same (CallFits g ts f) (call_of (entries_of g ts)) (call_of (entries_of h us)) call_stays s.next k.next)

  equation_stays : (q : PlainEquation) → EquationFits g ts f q → equation_of (entries_of h us) q ≡ equation_of (entries_of g ts) q
  equation_stays q k =
      ap₂ (λ xs ss. record { params = xs; summands = ss })
      (all_same (IsVariable g) (bound_at (entries_of g ts)) (bound_at (entries_of h us)) (variable_stays g h ts us table complete grow) q.params k.params)
      (all_same (FormSummandFits g ts f) (form_summand_of (entries_of g ts)) (form_summand_of (entries_of h us)) summand_stays q.summands k.summands)

pub forms_stay : FormsThatFitStay
forms_stay g h ts us f table complete grow fits =
    all_same (EquationFits g ts f) (equation_of (entries_of g ts)) (equation_of (entries_of h us)) (equation_stays g h ts us table complete grow f) f.equations fits.equations
