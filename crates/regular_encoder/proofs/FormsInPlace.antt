-- Forms that fit, as signature and pool grow, and over a layout.
use Rattle.std.proofs.Common.{◌≡◌, ◌+◌, ◌-◌, ◌==◌, ℕ, suc, true, false, List, [], ◌∷◌, map, length, get_or, refl, sym, ap, ◌∙◌, subst, arith, cond, Some}
use Rattle.std.specs.Prelude.{slice_get}
use Rattle.std.specs.List.{All, AllByRecursion}
use Rattle.std.proofs.lemmas.List.{length-map}
use Rattle.std.proofs.lemmas.List.Elements.{All-head, All-tail, All-weaker, length_all_zip}
use Rattle.std.proofs.lemmas.Option.{slice_get_within}
use Rattle.data_theory.specs.declared.ids.SortId.{SortId}
use Rattle.data_theory.specs.declared.ids.VarId.{VarId}
use Rattle.data_theory.specs.declared.ids.TermId.{TermId}
use Rattle.data_theory.specs.Table.{bool_sort}
use Rattle.data_theory.specs.Terms.{AreClosed}
use Rattle.data_theory.specs.Environments.{terms_of, AreDistinct}
use Rattle.data_theory.specs.Signature.{Sig}
use Rattle.data_theory.specs.Complete.{IsComplete}
use Rattle.data_theory.specs.IdTables.{IsTable}
use Rattle.data_theory.specs.IdData.{data_meant}
use Rattle.data_theory.specs.IdTrees.{Tree, variable, trees_of, put_tree}
use Rattle.data_theory.specs.IdTreeSorts.{HaveTreeSorts}
use Rattle.data_theory.specs.IdTerms.{IsTreeWithin, IsGrown}
use Rattle.data_theory.proofs.IdTermLemmas.{sorted_trees_are_within}
use Rattle.term_pool.specs.HeadTrees.{tree_at, trees_at}
use Rattle.process_terms.specs.Meanings.{bound_at, term_at}
use Rattle.process_terms.specs.SignatureEntries.{entries_of, BothGrow}
use Rattle.bisim_laws.specs.LinearProcesses.{sorts}
use Rattle.lps_core.specs.Fitting.{AreTermsOf, IsActionOf, IsVariable, sort_of_variable, HasTakenName}
use Rattle.lps_core.specs.TreeSummands.{IsActionIn, bound_tree}
use Rattle.lps_core.proofs.Members.{all_at}
use Rattle.lps_core.proofs.NamedSums.{variable_kept, names_kept, sorts_kept}
use Rattle.lps_core.proofs.PutWithin.{put_within}
use Rattle.lps_core.proofs.Staying.{terms_stay}
use Rattle.lps_core.proofs.StayingFits.{both_weaker, term_fits, terms_fit, action_fits, taken_fits, lists_are_closed, closed_terms_fit}
use Rattle.greibach.specs.Forms.{IsForm}
use Rattle.greibach.specs.PlainForms.{PlainFormSummand, PlainEquation, PlainForm}
use Rattle.greibach.specs.FittingForms.{CallFits, FormSummandFits, EquationFits, FormFits}
use Rattle.greibach.proofs.StayingForms.{forms_stay}
use Rattle.regular_encoder.specs.TreeEncoding.{PlainLayout, place_at, IsCallIn, IsFormSummandIn}
use Rattle.regular_encoder.specs.WholeEncoding.{moves_of, AreEquationsIn}
use Rattle.regular_encoder.specs.Layouts.{LaidOut}
use Rattle.regular_encoder.specs.EncodedForms.{AreEquationsFor}

-- ---- what fits, fits still
variables_fit : (g h : Sig) (xs : List VarId) → IsGrown g h → All (IsVariable g) xs → All (IsVariable h) xs
variables_fit g h xs w k = All-weaker (IsVariable g) (IsVariable h) (λ x l. variable_kept g h x w l) xs k

module _ (g h : Sig) (ts us : List Tree) (f : PlainForm) (grow : BothGrow g h ts us) (equations : All (EquationFits g ts f) f.equations) where
  call_fits : (c : ℕ × List TermId) → CallFits g ts f c → CallFits h us f c
  call_fits c k =
      let own = all_at (EquationFits g ts f) f.equations (c.0 - 1) k.equation equations k.stands in
      record {
        equation = k.equation;
        from_one = k.from_one;
        stands = k.stands;
        args = subst (λ ss. AreTermsOf h us ss c.1) (sym (sorts_kept g h k.equation.params grow.signature own.params)) (terms_fit g h ts us grow (map (sort_of_variable g) k.equation.params) c.1 k.args);
      }

  summand_fits : (s : PlainFormSummand) → FormSummandFits g ts f s → FormSummandFits h us f s
  summand_fits s k = record {
    sums = variables_fit g h s.sums grow.signature k.sums;
    condition = term_fits g h ts us grow bool_sort s.condition k.condition;
    label = All-weaker (IsActionOf g ts) (IsActionOf h us) (action_fits g h ts us grow) s.label k.label;
    next = All-weaker (CallFits g ts f) (CallFits h us f) call_fits s.next k.next;
    taken = both_weaker (IsVariable g) (HasTakenName g) (HasTakenName h) (taken_fits g h ts us grow) s.sums k.sums k.taken;
  }

  equation_fits : (q : PlainEquation) → EquationFits g ts f q → EquationFits h us f q
  equation_fits q k = record {
    params = variables_fit g h q.params grow.signature k.params;
    taken = both_weaker (IsVariable g) (HasTakenName g) (HasTakenName h) (taken_fits g h ts us grow) q.params k.params k.taken;
    named = subst (λ ns. AreDistinct (map (λ n. n.0) ns)) (sym (names_kept g h q.params grow.signature k.params)) k.named;
    summands = All-weaker (FormSummandFits g ts f) (FormSummandFits h us f) summand_fits q.summands k.summands;
  }

pub form_fits_still : (g h : Sig) (ts us : List Tree) (f : PlainForm) → IsTable g → IsComplete g → IsTable h → BothGrow g h ts us → FormFits g ts f → FormFits h us f
form_fits_still g h ts us f table complete new_table grow fits =
    let own = all_at (EquationFits g ts f) f.equations 0 fits.first fits.equations fits.starts in
    let params = variables_fit g h fits.first.params grow.signature own.params in
    let init = subst (λ ss. AreTermsOf h us ss f.init) (sym (sorts_kept g h fits.first.params grow.signature own.params)) (terms_fit g h ts us grow (map (sort_of_variable g) fits.first.params) f.init fits.init) in
    let same = terms_stay g h ts us table complete grow (map (sort_of_variable g) fits.first.params) f.init fits.init in
    record {
      first = fits.first;
      starts = fits.starts;
      init = init;
      closed = closed_terms_fit h us fits.first.params f.init new_table params init
          (subst (λ z. AreClosed (terms_of z)) (sym same) (lists_are_closed (data_meant g) (map (term_at (entries_of g ts)) f.init) (sorts (map (bound_at (entries_of g ts)) fits.first.params)) fits.closed));
      equations = All-weaker (EquationFits g ts f) (EquationFits h us f) (equation_fits g h ts us f grow fits.equations) f.equations fits.equations;
      form = subst IsForm (sym (forms_stay g h ts us f table complete grow fits)) fits.form;
    }

-- ---- over a layout
pub sorts_long : (g : Sig) (us : List Tree) (ss : List SortId) → HaveTreeSorts g (trees_of us) ss → length us ≡ length ss
sorts_long g [] [] h = refl
sorts_long g [] (s ∷ ss) h = absurd h
sorts_long g (u ∷ us) [] h = absurd h
sorts_long g (u ∷ us) (s ∷ ss) h = ap suc (sorts_long g us ss h.1)

pub terms_long : (g : Sig) (ts : List Tree) (xs : List VarId) (ids : List TermId) → AreTermsOf g ts (map (sort_of_variable g) xs) ids → length ids ≡ length xs
terms_long g ts xs ids h = sym (length-map ids (tree_at ts)) ∙ sorts_long g (trees_at ts ids) (map (sort_of_variable g) xs) h.sorted ∙ length-map xs (sort_of_variable g)

bound_within : (g : Sig) (xs ys : List VarId) (v : VarId) → IsTreeWithin g (bound_tree xs (map variable ys) v)
bound_within g [] ys v = tt
bound_within g (x ∷ xs) [] v = tt
bound_within g (x ∷ xs) (y ∷ ys) v = elim (x.0 == v.0) as (λ b. IsTreeWithin g (cond b (variable y) (bound_tree xs (map variable ys) v))) [ true ↦ tt | false ↦ bound_within g xs ys v ]

module _ (old : ℕ) (h : Sig) (us : List Tree) (f : PlainForm) (l : PlainLayout) (laid : LaidOut old h f l) where
  pub place_long : (k : ℕ) (q : PlainEquation) → slice_get f.equations k ≡ Some q → length (get_or l.places k []) ≡ length q.params
  place_long k q at = sym (length_all_zip _ q.params (get_or l.places k []) (laid.places k q at).same)

  call_in : (c : ℕ × List TermId) → CallFits h us f c → IsCallIn us l c
  call_in c k =
      let w = slice_get_within f.equations (c.0 - 1) k.equation k.stands in
      let e = laid.long in
      let one = k.from_one in
      record { from_one = one; within = omega (arith, w, e, one); args = k.args.within; long = place_long (c.0 - 1) k.equation k.stands ∙ sym (terms_long h us k.equation.params c.1 k.args) }

  pub form_summand_in : (s : PlainFormSummand) → FormSummandFits h us f s → IsFormSummandIn us l s
  form_summand_in s k = record {
    condition = k.condition.within;
    label = All-weaker (IsActionOf h us) (IsActionIn us) (λ a i. i.args.within) s.label k.label;
    next = All-weaker (CallFits h us f) (IsCallIn us l) call_in s.next k.next;
  }

  pub equations_for : All (EquationFits h us f) f.equations → AreEquationsFor us l f.equations
  equations_for fits k q at =
      let w = slice_get_within f.equations k q at in
      let e = laid.long in
      record {
        place = omega (arith, w, e);
        long = ap (λ n. length (get_or l.places n [])) (let n : k + 1 - 1 ≡ k = omega arith in n) ∙ place_long k q at;
        summands = All-weaker (FormSummandFits h us f) (IsFormSummandIn us l) form_summand_in q.summands (all_at (EquationFits h us f) f.equations k q fits at).summands;
      }

  module _ (table : IsTable h) (complete : IsComplete h) where
    summands_in : (i : ℕ) (q : PlainEquation) (ss : List PlainFormSummand) → All (FormSummandFits h us f) ss → AllByRecursion (λ (s : PlainFormSummand). IsFormSummandIn us l s × IsTreeWithin h (put_tree (moves_of l i q) (tree_at us s.condition))) ss
    summands_in i q [] k = tt
    summands_in i q (s ∷ ss) k =
        let own = All-head (FormSummandFits h us f) s ss k in (
          (form_summand_in s own, put_within h complete (moves_of l i q) (bound_within h q.params (place_at l i)) (tree_at us s.condition) (sorted_trees_are_within h table (tree_at us s.condition) bool_sort own.condition.sorted)),
          summands_in i q ss (All-tail (FormSummandFits h us f) s ss k),
        )

    pub equations_in : (i : ℕ) (qs : List PlainEquation) → All (EquationFits h us f) qs → AreEquationsIn h us l i qs
    equations_in i [] k = tt
    equations_in i (q ∷ qs) k = (summands_in i q q.summands (All-head (EquationFits h us f) q qs k).summands, equations_in (suc i) qs (All-tail (EquationFits h us f) q qs k))
