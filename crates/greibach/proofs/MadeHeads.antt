-- Equations with what was added for them.
use Rattle.std.proofs.Common.{◌≡◌, ℕ, List, [], ◌∷◌, ◌++◌, map, length, Some, sym, ap, ◌∙◌, subst}
use Rattle.std.specs.Prelude.{slice_get}
use Rattle.std.specs.List.{All, Contains}
use Rattle.std.proofs.lemmas.List.Elements.{All-weaker}
use Rattle.data_theory.specs.declared.ids.VarId.{VarId}
use Rattle.data_theory.specs.declared.ids.TermId.{TermId}
use Rattle.data_theory.specs.Terms.{variable as var}
use Rattle.data_theory.specs.Environments.{AreDistinct}
use Rattle.data_theory.specs.Signature.{Sig}
use Rattle.data_theory.specs.IdTrees.{Tree, variable}
use Rattle.data_theory.specs.IdTerms.{sort_under, term_under, IsGrown}
use Rattle.term_pool.specs.HeadTrees.{trees_at, AreIn}
use Rattle.term_pool.specs.Pools.{Extends}
use Rattle.data_theory.proofs.EnvironmentLemmas.{contains_nothing}
use Rattle.process_terms.specs.Meanings.{bound_at}
use Rattle.process_terms.specs.SignatureEntries.{entries_of}
use Rattle.bisim_laws.specs.LinearProcesses.{sorts}
use Rattle.lps_core.specs.Fitting.{IsVariable, sort_of_variable}
use Rattle.lps_core.specs.Naming.{GrowsByNames}
use Rattle.lps_core.specs.TreeSummands.{numbers_of}
use Rattle.lps_core.proofs.NamedSums.{sorts_kept, variable_kept}
use Rattle.lps_core.proofs.PoolTrees.{extends_on}
use Rattle.lps_core.proofs.Staying.{sorts_of_variables}
use Rattle.lps_core.proofs.MeantTrees.{variables_mean}
use Rattle.greibach.specs.PlainForms.{PlainEquation}
use Rattle.greibach.specs.PlacesInCode.{PlainPlaces}
use Rattle.greibach.specs.ListedVariables.{paired}
use Rattle.greibach.specs.MeetingOrder.{Meets, none_met, met_before, met_now}
use Rattle.greibach.specs.OnwardCalls.{params_of_place}
use Rattle.greibach.specs.Surroundings.{PlainUnfolding}
use Rattle.greibach.specs.AddedHeads.{Later, Adds, Grew}
use Rattle.greibach.specs.MadeEquations.{IsEquationAt, Makes, makes_none, makes_more}
use Rattle.greibach.proofs.GrownFits.{both_by_names}
use Rattle.greibach.proofs.AddedArms.{both_then}
use Rattle.greibach.proofs.AddedTerms.{terms_lifted}

variables_later : (g k : Sig) (xs : List VarId) → IsGrown g k → All (IsVariable g) xs → All (IsVariable k) xs
variables_later g k xs grown h = All-weaker (IsVariable g) (IsVariable k) (λ x l. variable_kept g k x grown l) xs h

same_sorts_later : (g k : Sig) (ws : List Tree) (xs ys : List VarId) → IsGrown g k → All (IsVariable g) xs → All (IsVariable g) ys → map (sort_of_variable g) xs ≡ map (sort_of_variable g) ys → sorts (map (bound_at (entries_of k ws)) xs) ≡ sorts (map (bound_at (entries_of k ws)) ys)
same_sorts_later g k ws xs ys grown h l e =
    sorts_of_variables k ws xs (variables_later g k xs grown h)
    ∙ ap (map (sort_under k)) (sorts_kept g k xs grown h ∙ e ∙ sym (sorts_kept g k ys grown l))
    ∙ sym (sorts_of_variables k ws ys (variables_later g k ys grown l))

pub equation_heads : (j : Sig) (us vs : List Tree) (t : PlainPlaces) (n : ℕ) (params vars : List VarId) (ids : List TermId) (by : List (VarId × TermId)) (u v : PlainUnfolding) (q : PlainEquation) → Extends us vs → AreIn us ids → trees_at us ids ≡ map variable params → by ≡ paired vars ids → params_of_place t n ≡ vars
    → All (IsVariable j) params → All (IsVariable j) vars → map (sort_of_variable j) params ≡ map (sort_of_variable j) vars → AreDistinct (numbers_of params) → u.waiting ≡ [] → u.summands ≡ [] → q.params ≡ params → q.summands ≡ v.summands
    → Grew j vs u v (λ e. Adds e t (record { params = params; sums = []; by = by; parts = [] }) u.waiting n) → Later j vs (λ e. IsEquationAt e t n q u.met v.met)
equation_heads j us vs t n params vars ids by u v q x w trees paired_is place own theirs same distinct none empty params_are summands_are f k ws sk grow =
    let e = entries_of k ws in
    let r = f k ws sk grow in
    let all : q.summands ≡ r.0 = summands_are ∙ r.1 ∙ ap (λ l. l ++ r.0) empty in
    record {
      terms = ids;
      themselves = terms_lifted k sk.table sk.complete ws us ids (extends_on us vs ws x grow.pool) w ∙ ap (map (term_under k)) trees ∙ variables_mean k params ∙ ap (λ l. map var (numbers_of l)) (sym params_are);
      same_sorts = ap (λ l. sorts (map (bound_at e) l)) params_are ∙ same_sorts_later j k ws params vars grow.signature own theirs same ∙ ap (λ l. sorts (map (bound_at e) l)) (sym place);
      distinct = subst (λ l. AreDistinct (numbers_of l)) (sym params_are) distinct;
      adds = subst (λ l. Adds e t (record { params = q.params; sums = []; by = paired (params_of_place t n) ids; parts = [] }) [] n u.met v.met l) (sym all)
          (subst (λ z. Adds e t (record { params = z; sums = []; by = paired (params_of_place t n) ids; parts = [] }) [] n u.met v.met r.0) (sym params_are)
          (subst (λ z. Adds e t (record { params = params; sums = []; by = paired z ids; parts = [] }) [] n u.met v.met r.0) (sym place)
          (subst (λ z. Adds e t (record { params = params; sums = []; by = z; parts = [] }) [] n u.met v.met r.0) paired_is (subst (λ z. Adds e t (record { params = params; sums = []; by = by; parts = [] }) z n u.met v.met r.0) none r.2))));
    }

-- ---- one equation after another
first_only : {ks new : List ℕ} {p : ℕ} → Meets ks (p ∷ []) new → ks ≡ [] → new ≡ p ∷ []
first_only (met_before {p = p} c none_met) e = absurd (contains_nothing p (subst (λ l. Contains l p) e c))
first_only (met_now {p = p} n none_met) e = ap (λ l. l ++ p ∷ []) e

pub makes_first : (j : Sig) (us : List Tree) (t : PlainPlaces) (start : ℕ) (old met : List ℕ) (qs : List PlainEquation) → Meets old (start ∷ []) met → old ≡ [] → qs ≡ [] → Later j us (λ e. Makes e t start qs met)
makes_first j us t start old met qs m empty none k ws sk grow = subst (Makes (entries_of k ws) t start qs) (sym (first_only m empty)) (subst (λ l. Makes (entries_of k ws) t start l (start ∷ [])) (sym none) makes_none)

pub makes_next : (h j : Sig) (us vs : List Tree) (t : PlainPlaces) (start n : ℕ) (met new : List ℕ) (qs all : List PlainEquation) (q : PlainEquation) → GrowsByNames h j → Extends us vs → slice_get met (length qs) ≡ Some n → all ≡ qs ++ q ∷ [] → Later h us (λ e. Makes e t start qs met) → Later j vs (λ e. IsEquationAt e t n q met new)
    → Later j vs (λ e. Makes e t start all new)
makes_next h j us vs t start n met new qs all q names x at is f s k ws sk grow =
    subst (λ l. Makes (entries_of k ws) t start l new) (sym is) (makes_more q n new (f k ws sk (both_then h j k us vs ws (both_by_names h j us vs names x) grow)) at (s k ws sk grow))
