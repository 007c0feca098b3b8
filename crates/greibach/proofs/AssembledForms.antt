-- Equations that stand make a form that fits.
use Rattle.std.proofs.Common.{◌≡◌, ◌≤◌, ◌-◌, ℕ, suc, List, [], ◌∷◌, ◌++◌, map, length, get_or, Some, refl, sym, ap, ap₂, ◌∙◌, subst, arith}
use Rattle.std.specs.Prelude.{slice_get, option_map}
use Rattle.std.specs.List.{All}
use Rattle.std.proofs.lemmas.List.{length-map, map-append}
use Rattle.std.proofs.lemmas.List.Elements.{All-head, All-tail, All-weaker, All-contains}
use Rattle.std.proofs.lemmas.Option.{slice_get_within, slice_get-map, slice_get-get_or}
use Rattle.data_theory.specs.declared.ids.VarId.{VarId}
use Rattle.data_theory.specs.declared.ids.TermId.{TermId}
use Rattle.data_theory.specs.Terms.{Term, Terms, variable, numeral, unknown, application, none, more, IsClosed, AreClosed}
use Rattle.data_theory.specs.Environments.{terms_of, IsOver, AreOver, Apart, AreDistinct}
use Rattle.data_theory.specs.Signature.{Sig}
use Rattle.data_theory.specs.WholeSignatures.{IsSignature}
use Rattle.data_theory.specs.IdTrees.{Tree}
use Rattle.data_theory.proofs.EnvironmentLemmas.{contains_nothing}
use Rattle.data_theory.proofs.PlaceLemmas.{read_contained}
use Rattle.term_pool.specs.HeadTrees.{IsIn}
use Rattle.process_terms.specs.PlainProcesses.{PlainAction}
use Rattle.process_terms.specs.Meanings.{ReadsOnly, bound_at, term_at, label_of}
use Rattle.process_terms.specs.SignatureEntries.{entries_of}
use Rattle.bisim_laws.specs.LinearProcesses.{variables, LabelIsOver, no_action_left, action_over}
use Rattle.lps_core.specs.Fitting.{AreTermsOf, IsActionOf, IsVariable, sort_of_variable, HasTakenName}
use Rattle.lps_core.specs.TreeSummands.{numbers_of}
use Rattle.lps_core.proofs.Members.{contains_map, mapped_at, all_from}
use Rattle.lps_core.proofs.MeantTrees.{numbers_meant}
use Rattle.lps_core.proofs.StayingFits.{closed_terms_fit}
use Rattle.proc_unfold.specs.FittingModels.{TermsFit, ActionFits}
use Rattle.greibach.specs.Forms.{CallIsOver, IsFormSummand, IsFormEquation}
use Rattle.greibach.specs.PlainForms.{PlainFormSummand, PlainEquation, call_of, form_summand_of, equation_of, form_of}
use Rattle.greibach.specs.FittingForms.{CallFits, FormSummandFits, EquationFits, FormFits}
use Rattle.greibach.specs.PlacesInCode.{PlainPlace}
use Rattle.greibach.specs.Surroundings.{HasUsableNames, NumberedCall, SummandStands, EquationStands, AreEquations}

-- ---- closed terms
mutual
  closed_over_none : (t : Term) → IsOver [] t → IsClosed t
  closed_over_none (variable v) h = absurd (contains_nothing v h)
  closed_over_none (numeral a z) h = tt
  closed_over_none (unknown d k) h = tt
  closed_over_none (application f ts) h = all_closed_over_none ts h

  pub all_closed_over_none : (ts : Terms) → AreOver [] ts → AreClosed ts
  all_closed_over_none none h = tt
  all_closed_over_none (more t ts) h = (closed_over_none t h.0, all_closed_over_none ts h.1)

pub all_over : (g : Sig) (ts : List Tree) (xs : List VarId) (ids : List TermId) → All (ReadsOnly (entries_of g ts) xs) ids → AreOver (numbers_of xs) (terms_of (map (term_at (entries_of g ts)) ids))
all_over g ts xs [] h = tt
all_over g ts xs (id ∷ ids) h = (All-head (ReadsOnly (entries_of g ts) xs) id ids h, all_over g ts xs ids (All-tail (ReadsOnly (entries_of g ts) xs) id ids h))

label_over : (g : Sig) (ts : List Tree) (xs : List VarId) (m : List PlainAction) → All (ActionFits g ts xs) m → LabelIsOver (numbers_of xs) (label_of (entries_of g ts) m)
label_over g ts xs [] h = no_action_left
label_over g ts xs (a ∷ m) h = action_over (all_over g ts xs a.args (All-head (ActionFits g ts xs) a m h).over) (label_over g ts xs m (All-tail (ActionFits g ts xs) a m h))

as_long : (g : Sig) (ts : List Tree) (xs : List VarId) (ids : List TermId) → AreTermsOf g ts (map (sort_of_variable g) xs) ids → length ids ≡ length xs
as_long g ts [] [] h = refl
as_long g ts [] (id ∷ ids) h = absurd h.sorted
as_long g ts (x ∷ xs) [] h = absurd h.sorted
as_long g ts (x ∷ xs) (id ∷ ids) h = ap suc (as_long g ts xs ids (record { within = All-tail (IsIn ts) id ids h.within; sorted = h.sorted.1 }))

-- what is called is an equation
record Called (g : Sig) (ts : List Tree) (qs : List PlainEquation) (xs : List VarId) (c : ℕ × List TermId) : Type 0 where
  equation : PlainEquation
  from_one : 1 ≤ c.0
  stands : slice_get qs (c.0 - 1) ≡ Some equation
  args : TermsFit g ts xs (map (sort_of_variable g) equation.params) c.1

one_value : {A : Type 0} {x y : A} → Some x ≡ Some y → x ≡ y
one_value e = cc

module _ (g : Sig) (sg : IsSignature g) (names : HasUsableNames g) (ts : List Tree) (ps : List PlainPlace) (met : List ℕ) (qs : List PlainEquation) (are : AreEquations g ts ps met qs) (all : length met ≤ length qs) where
  called : (xs : List VarId) (c : ℕ × List TermId) → NumberedCall g ts ps met xs c → Called g ts qs xs c
  called xs c k =
      let i = slice_get_within met (c.0 - 1) k.place k.number.1 in
      let q : PlainEquation = get_or qs (c.0 - 1) (record { params = []; summands = [] }) in
      let at : slice_get qs (c.0 - 1) ≡ Some q = slice_get-get_or qs (c.0 - 1) (record { params = []; summands = [] }) (omega (arith, i, all)) in
      let r = are (c.0 - 1) q at in
      let same : r.0 ≡ k.place = one_value (sym r.1 ∙ k.number.1) in
      let place : r.2.place ≡ k.call.place = one_value (sym r.2.stands ∙ ap (slice_get ps) same ∙ k.call.stands) in
      record {
        equation = q;
        from_one = k.number.0;
        stands = at;
        args = subst (λ ss. TermsFit g ts xs ss c.1) (sym (r.2.sorts ∙ ap (λ (p : PlainPlace). map (sort_of_variable g) p.params) place)) k.call.args;
      }

  taken : (xs : List VarId) → All (IsVariable g) xs → All (HasTakenName g) xs
  taken xs h = All-weaker (IsVariable g) (HasTakenName g) (λ x l. (names x l).taken) xs h

  summand_fits : (init : List TermId) (params : List VarId) (s : PlainFormSummand) → SummandStands g ts ps met params s → FormSummandFits g ts (record { equations = qs; init = init }) s
  summand_fits init params s k = record {
    sums = k.sums;
    condition = k.condition.term;
    label = All-weaker (ActionFits g ts (s.sums ++ params)) (IsActionOf g ts) (λ a f. f.action) s.label k.label;
    next = All-weaker (NumberedCall g ts ps met (s.sums ++ params)) (CallFits g ts (record { equations = qs; init = init })) (λ c f. let r = called (s.sums ++ params) c f in record { equation = r.equation; from_one = r.from_one; stands = r.stands; args = r.args.terms }) s.next k.next;
    taken = taken s.sums k.sums;
  }

  equation_fits : (init : List TermId) (n : ℕ) (q : PlainEquation) → EquationStands g ts ps met n q → EquationFits g ts (record { equations = qs; init = init }) q
  equation_fits init n q k = record {
    params = k.params;
    taken = taken q.params k.params;
    named = k.named;
    summands = All-weaker (SummandStands g ts ps met q.params) (FormSummandFits g ts (record { equations = qs; init = init })) (λ s f. summand_fits init q.params s f) q.summands k.summands;
  }

  both_numbers : (xs ys : List VarId) → numbers_of (xs ++ ys) ≡ variables (map (bound_at (entries_of g ts)) xs) ++ variables (map (bound_at (entries_of g ts)) ys)
  both_numbers xs ys = map-append (λ (x : VarId). x.0) xs ys ∙ ap₂ (λ a b. a ++ b) (sym (numbers_meant g ts xs)) (sym (numbers_meant g ts ys))

  form_summand : (init : List TermId) (params : List VarId) (s : PlainFormSummand) → SummandStands g ts ps met params s → IsFormSummand (form_of (entries_of g ts) (record { equations = qs; init = init })) (map (bound_at (entries_of g ts)) params) (form_summand_of (entries_of g ts) s)
  form_summand init params s k =
      let xs : List VarId = s.sums ++ params in
      let over = both_numbers s.sums params in
      record {
        condition = subst (λ l. IsOver l (term_at (entries_of g ts) s.condition)) over k.condition.over;
        label = subst (λ l. LabelIsOver l (label_of (entries_of g ts) s.label)) over (label_over g ts xs s.label k.label);
        next = λ d i.
            let r = contains_map (call_of (entries_of g ts)) s.next d i in
            let c = called xs r.0 (All-contains (NumberedCall g ts ps met xs) s.next r.0 k.next r.1.0) in
            subst (CallIsOver (form_of (entries_of g ts) (record { equations = qs; init = init })) (variables (map (bound_at (entries_of g ts)) s.sums) ++ variables (map (bound_at (entries_of g ts)) params))) (sym r.1.1) (record {
              equation = equation_of (entries_of g ts) c.equation;
              stands = slice_get-map (equation_of (entries_of g ts)) qs (r.0.0 - 1) ∙ ap (option_map (equation_of (entries_of g ts))) c.stands;
              args = subst (λ l. AreOver l (terms_of (map (term_at (entries_of g ts)) r.0.1))) over (all_over g ts xs r.0.1 c.args.over);
              long = length-map r.0.1 (term_at (entries_of g ts)) ∙ as_long g ts c.equation.params r.0.1 c.args.terms ∙ sym (length-map c.equation.params (bound_at (entries_of g ts)));
            });
        apart = subst (λ l. Apart l (variables (map (bound_at (entries_of g ts)) params))) (sym (numbers_meant g ts s.sums)) (subst (Apart (numbers_of s.sums)) (sym (numbers_meant g ts params)) k.apart);
        distinct = subst AreDistinct (sym (numbers_meant g ts s.sums)) k.distinct;
      }

  form_equation : (init : List TermId) (n : ℕ) (q : PlainEquation) → EquationStands g ts ps met n q → IsFormEquation (form_of (entries_of g ts) (record { equations = qs; init = init })) (equation_of (entries_of g ts) q)
  form_equation init n q k = record {
    distinct = subst AreDistinct (sym (numbers_meant g ts q.params)) k.distinct;
    summands = λ s i.
        let r = contains_map (form_summand_of (entries_of g ts)) q.summands s i in
        subst (IsFormSummand (form_of (entries_of g ts) (record { equations = qs; init = init })) (map (bound_at (entries_of g ts)) q.params)) (sym r.1.1) (form_summand init q.params r.0 (All-contains (SummandStands g ts ps met q.params) q.summands r.0 k.summands r.1.0));
  }

  pub form_fits : (init : List TermId) (first : PlainEquation) → slice_get qs 0 ≡ Some first → TermsFit g ts [] (map (sort_of_variable g) first.params) init → FormFits g ts (record { equations = qs; init = init })
  form_fits init first at h =
      let r = are 0 first at in
      record {
        first = first;
        starts = at;
        init = h.terms;
        closed = closed_terms_fit g ts first.params init sg.table r.2.params h.terms (all_closed_over_none (terms_of (map (term_at (entries_of g ts)) init)) (all_over g ts [] init h.over));
        equations = all_from (EquationFits g ts (record { equations = qs; init = init })) qs (λ q i. let j = read_contained qs q i in let k = are j.0 q j.1 in equation_fits init k.0 q k.2);
        form = λ i q e.
            let m = mapped_at (equation_of (entries_of g ts)) qs i q e in
            let k = are i m.0 m.1.0 in
            subst (IsFormEquation (form_of (entries_of g ts) (record { equations = qs; init = init }))) (sym m.1.1) (form_equation init k.0 m.0 k.2);
      }
