-- The columns of a form as the theorem has them.
use Rattle.std.proofs.Common.{◌≡◌, ◌<◌, ◌≤◌, ◌+◌, ℕ, zero, suc, false, List, [], ◌∷◌, map, length, get_or, refl, sym, ap, ap₂, ◌∙◌, subst, arith, ⊎_elim, Some}
use Rattle.std.specs.Prelude.{slice_get, Contains}
use Rattle.std.specs.List.{All}
use Rattle.std.proofs.lemmas.List.{length-map}
use Rattle.std.proofs.lemmas.List.Elements.{All-head, All-tail, All-contains}
use Rattle.data_theory.specs.declared.ids.NameId.{NameId}
use Rattle.data_theory.specs.declared.ids.SortId.{SortId}
use Rattle.data_theory.specs.declared.ids.TermId.{TermId}
use Rattle.data_theory.specs.declared.ids.VarId.{VarId}
use Rattle.data_theory.specs.Environments.{AreDistinct}
use Rattle.data_theory.specs.Signature.{Sig}
use Rattle.data_theory.specs.IdTerms.{IsGrown, sort_under}
use Rattle.data_theory.specs.IdTrees.{Tree}
use Rattle.data_theory.specs.WholeSignatures.{IsSignature}
use Rattle.data_theory.proofs.EnvironmentLemmas.{contains_nothing, contains_cases as number_cases}
use Rattle.process_terms.specs.Meanings.{bound_at, term_at}
use Rattle.process_terms.specs.Processes.{Bound}
use Rattle.process_terms.specs.SignatureEntries.{entries_of}
use Rattle.bisim_laws.specs.LinearProcesses.{variables, sorts}
use Rattle.bisim_laws.specs.BaseStates.{Columns}
use Rattle.bisim_laws.proofs.Firing.{contains_first, contains_later}
use Rattle.lps_core.specs.Fitting.{IsVariable}
use Rattle.lps_core.specs.Moving.{SameSorts, no_more, one_more}
use Rattle.lps_core.specs.Naming.{name_of, names_of}
use Rattle.lps_core.specs.TreeSummands.{numbers_of}
use Rattle.lps_core.proofs.Members.{all_at, contains_map, map_contains, mapped_at}
use Rattle.lps_core.proofs.MeantTrees.{numbers_meant}
use Rattle.lps_core.proofs.NamedSums.{variable_kept, sort_kept, name_numbers}
use Rattle.greibach.specs.FittingForms.{FormSummandFits, EquationFits, FormFits}
use Rattle.greibach.specs.Forms.{FormEquation, FormSummand}
use Rattle.greibach.specs.PlainForms.{PlainEquation, PlainForm, equation_of, form_summand_of, form_of}
use Rattle.regular_encoder.specs.Encoding.{IsPlace, place_of}
use Rattle.regular_encoder.specs.FormColumns.{kind_of, AreKindsAt}
use Rattle.regular_encoder.proofs.FirstTerms.{some_is}
use Rattle.regular_encoder.proofs.ServingLayouts.{zip_at}
use Rattle.regular_encoder.proofs.SortedTrees.{sort_meant}
use Rattle.stack_encoder.specs.StackColumns.{AreNumberedPlaces, sort_of_column}
use Rattle.stack_encoder.specs.StackEncoding.{IsStackLayout}
use Rattle.stack_encoder.specs.TreeStack.{column_numbers}
use Rattle.stack_encoder.proofs.ClosedColumns.{column_sort}
use Rattle.stack_encoder.proofs.ServingStacks.{column_sorts}

abbrev pub columns_from : Sig → ℕ → List (NameId × SortId) → List Bound
columns_from h x [] = []
columns_from h x (k ∷ kinds) = record { var = x; sort = sort_under h k.1 } ∷ columns_from h (suc x) kinds

abbrev pub stack_columns : Sig → List Tree → List (NameId × SortId) → List (List ℕ) → List TermId → Columns
stack_columns h us kinds places defaults = record { columns = columns_from h 0 kinds; places = places; control = false; defaults = map (term_at (entries_of h us)) defaults }

pub numbers_are : (h : Sig) (x : ℕ) (kinds : List (NameId × SortId)) (ds : List Tree) → length ds ≡ length kinds → variables (columns_from h x kinds) ≡ column_numbers x ds
numbers_are h x [] [] l = refl
numbers_are h x [] (d ∷ ds) l = absurd (omega (arith, l))
numbers_are h x (k ∷ kinds) [] l = absurd (omega (arith, l))
numbers_are h x (k ∷ kinds) (d ∷ ds) l = ap (λ z. x ∷ z) (numbers_are h (suc x) kinds ds (omega (arith, l)))

pub sorts_are_meant : (h : Sig) (x : ℕ) (kinds : List (NameId × SortId)) → sorts (columns_from h x kinds) ≡ map (sort_under h) (column_sorts kinds)
sorts_are_meant h x [] = refl
sorts_are_meant h x (k ∷ kinds) = ap (λ z. sort_under h k.1 ∷ z) (sorts_are_meant h (suc x) kinds)

numbers_from_on : (h : Sig) (x : ℕ) (kinds : List (NameId × SortId)) (n : ℕ) → Contains (variables (columns_from h x kinds)) n → x ≤ n
numbers_from_on h x [] n i = absurd (contains_nothing n i)
numbers_from_on h x (k ∷ kinds) n i = ⊎_elim
    (λ q. omega (arith, q))
    (λ j. let l = numbers_from_on h (suc x) kinds n j in omega (arith, l))
    (number_cases x n (variables (columns_from h (suc x) kinds)) i)

pub columns_differ : (h : Sig) (x : ℕ) (kinds : List (NameId × SortId)) → AreDistinct (variables (columns_from h x kinds))
columns_differ h x [] = tt
columns_differ h x (k ∷ kinds) = ((λ i. let l = numbers_from_on h (suc x) kinds x i in omega (arith, l)), columns_differ h (suc x) kinds)

abbrev column_at : Sig → List (NameId × SortId) → ℕ → Bound
column_at h kinds n = record { var = n; sort = sort_under h (sort_of_column kinds n) }

column_there : (h : Sig) (x : ℕ) (kinds : List (NameId × SortId)) (n : ℕ) (k : NameId × SortId) → slice_get kinds n ≡ Some k → Contains (columns_from h x kinds) (record { var = x + n; sort = sort_under h k.1 })
column_there h x [] n k e = cc
column_there h x (j ∷ kinds) zero k e =
    subst (λ (b : Bound). Contains (columns_from h x (j ∷ kinds)) b)
    (ap₂ (λ m (z : NameId × SortId). record { var = m; sort = sort_under h z.1 }) (let m : x ≡ x + 0 = omega arith in m) (some_is e))
    (contains_first (record { var = x; sort = sort_under h j.1 }) (columns_from h (suc x) kinds))
column_there h x (j ∷ kinds) (suc n) k e =
    contains_later (record { var = x; sort = sort_under h j.1 }) (record { var = x + suc n; sort = sort_under h k.1 }) (columns_from h (suc x) kinds)
    (subst (λ m. Contains (columns_from h (suc x) kinds) (record { var = m; sort = sort_under h k.1 })) (let m : suc x + n ≡ x + suc n = omega arith in m) (column_there h (suc x) kinds n k e))

-- ---- places
-- a column at a place is that of a parameter
pub behind_place : (g : Sig) (kinds : List (NameId × SortId)) (params : List VarId) (place : List ℕ) → AreKindsAt g kinds params place → (n : ℕ) → Contains place n → (p : VarId) × (Contains params p) × (slice_get kinds n ≡ Some (kind_of g p))
behind_place g kinds [] [] z n i = absurd (contains_nothing n i)
behind_place g kinds [] (m ∷ place) z n i = absurd z
behind_place g kinds (p ∷ params) [] z n i = absurd z
behind_place g kinds (p ∷ params) (m ∷ place) z n i = ⊎_elim
    (λ q. (p, contains_first p params, subst (λ k. slice_get kinds k ≡ Some (kind_of g p)) q z.0))
    (λ j. let r = behind_place g kinds params place z.1 n j in (r.0, contains_later p r.0 params r.1, r.2))
    (number_cases m n place i)

place_differs : (g : Sig) (kinds : List (NameId × SortId)) (params : List VarId) (place : List ℕ) → AreKindsAt g kinds params place → AreDistinct (name_numbers g params) → AreDistinct place
place_differs g kinds [] [] z d = tt
place_differs g kinds [] (m ∷ place) z d = absurd z
place_differs g kinds (p ∷ params) [] z d = absurd z
place_differs g kinds (p ∷ params) (m ∷ place) z d = (
  λ i.
      let r = behind_place g kinds params place z.1 m i in
      let same : kind_of g p ≡ kind_of g r.0 = some_is (sym z.0 ∙ r.2) in
      d.0 (subst (λ n. Contains (name_numbers g params) n) (sym (ap (λ (k : NameId × SortId). k.0.0) same)) (map_contains (λ (n : NameId). n.0) (names_of g params) (name_of g r.0) (map_contains (name_of g) params r.0 r.1))),
  place_differs g kinds params place z.1 d.1,
)

same_place_sorts : (g h : Sig) (us : List Tree) → IsSignature h → IsGrown g h → (kinds : List (NameId × SortId)) (params : List VarId) (place : List ℕ) → All (IsVariable g) params → AreKindsAt g kinds params place
    → SameSorts (map (bound_at (entries_of h us)) params) (map (column_at h kinds) place)
same_place_sorts g h us s w kinds [] [] v z = no_more
same_place_sorts g h us s w kinds [] (m ∷ place) v z = absurd z
same_place_sorts g h us s w kinds (p ∷ params) [] v z = absurd z
same_place_sorts g h us s w kinds (p ∷ params) (m ∷ place) v z =
    let own = All-head (IsVariable g) p params v in
    one_more
    (sort_meant h s.table s.complete p (variable_kept g h p w own) ∙ ap (sort_under h) (sort_kept g h p w own ∙ sym (column_sort kinds m (kind_of g p) z.0)))
    (same_place_sorts g h us s w kinds params place (All-tail (IsVariable g) p params v) z.1)

its_variables : (h : Sig) (kinds : List (NameId × SortId)) (place : List ℕ) → place ≡ variables (map (column_at h kinds) place)
its_variables h kinds [] = refl
its_variables h kinds (m ∷ place) = ap (λ z. m ∷ z) (its_variables h kinds place)

module _ (g h : Sig) (us ts : List Tree) (stands : IsSignature h) (w : IsGrown g h) (f : PlainForm) (kinds : List (NameId × SortId)) (places : List (List ℕ)) (defaults : List TermId) (fits : FormFits g ts f) (numbered : AreNumberedPlaces g kinds f.equations places) where
  abbrev c : Columns
  c = stack_columns h us kinds places defaults

  pub plain_at : (i : ℕ) (q : FormEquation) → slice_get (form_of (entries_of h us) f) i ≡ Some q → (e : PlainEquation) × ((slice_get f.equations i ≡ Some e) × (q ≡ equation_of (entries_of h us) e))
  plain_at i q at = mapped_at (equation_of (entries_of h us)) f.equations i q at

  own_fits : (i : ℕ) (e : PlainEquation) → slice_get f.equations i ≡ Some e → EquationFits g ts f e
  own_fits i e at = all_at (EquationFits g ts f) f.equations i e fits.equations at

  pub kinds_at : (i : ℕ) (e : PlainEquation) → slice_get f.equations i ≡ Some e → AreKindsAt g kinds e.params (get_or places i [])
  kinds_at i e at = zip_at (λ (e : PlainEquation) place. AreKindsAt g kinds e.params place) f.equations places i e [] numbered at

  its_place : (i : ℕ) (q : FormEquation) → slice_get (form_of (entries_of h us) f) i ≡ Some q → IsPlace c q (place_of c i)
  its_place i q at =
      let e = plain_at i q at in
      let fit = own_fits i e.0 e.1.0 in
      let z = kinds_at i e.0 e.1.0 in
      record {
        bounds = map (column_at h kinds) (get_or places i []);
        same = subst (λ (q : FormEquation). SameSorts q.params (map (column_at h kinds) (get_or places i []))) (sym e.1.1) (same_place_sorts g h us stands w kinds e.0.params (get_or places i []) fit.params z);
        is = its_variables h kinds (get_or places i []);
        among = λ y j.
            let n = contains_map (column_at h kinds) (get_or places i []) y j in
            let r = behind_place g kinds e.0.params (get_or places i []) z n.0 n.1.0 in
            subst (λ (b : Bound). Contains (columns_from h 0 kinds) b)
            (ap₂ (λ m s. record { var = m; sort = sort_under h s }) (let m : 0 + n.0 ≡ n.0 = omega arith in m) (sym (column_sort kinds n.0 (kind_of g r.0) r.2)) ∙ sym n.1.1)
            (column_there h 0 kinds n.0 (kind_of g r.0) r.2);
        distinct = place_differs g kinds e.0.params (get_or places i []) z fit.named;
      }

  sums_apart : (v : VarId) → ((z : VarId) → IsVariable g z → z.0 ≡ v.0 → ⊥) → (i : ℕ) (q : FormEquation) (s : FormSummand) → slice_get (form_of (entries_of h us) f) i ≡ Some q → Contains q.summands s → Contains (variables s.sums) v.0 → ⊥
  sums_apart v new i q s at among has =
      let e = plain_at i q at in
      let m = contains_map (form_summand_of (entries_of h us)) e.0.summands s (subst (λ (q : FormEquation). Contains q.summands s) e.1.1 among) in
      let fit = All-contains (FormSummandFits g ts f) e.0.summands m.0 (own_fits i e.0 e.1.0).summands m.1.0 in
      let inside : Contains (numbers_of m.0.sums) v.0 = subst (λ l. Contains l v.0) (numbers_meant h us m.0.sums) (subst (λ (s : FormSummand). Contains (variables s.sums) v.0) m.1.1 has) in
      let z = contains_map (λ (x : VarId). x.0) m.0.sums v.0 inside in
      new z.0 (All-contains (IsVariable g) m.0.sums z.0 fit.sums z.1.0) (sym z.1.1)

  pub stack_layout : (v : VarId) → ((z : VarId) → IsVariable g z → z.0 ≡ v.0 → ⊥) → length f.equations < 340282366920938463463374607431768211456 → IsStackLayout c v.0 (form_of (entries_of h us) f)
  stack_layout v new few = record {
    distinct = columns_differ h 0 kinds;
    long = zip_long f.equations places numbered ∙ sym (length-map f.equations (equation_of (entries_of h us)));
    few = subst (λ n. n < 340282366920938463463374607431768211456) (sym (length-map f.equations (equation_of (entries_of h us)))) few;
    places = its_place;
    apart = sums_apart v new;
  }
    where
      zip_long : (qs : List PlainEquation) (ps : List (List ℕ)) → AreNumberedPlaces g kinds qs ps → length ps ≡ length qs
      zip_long [] [] z = refl
      zip_long [] (p ∷ ps) z = absurd z
      zip_long (q ∷ qs) [] z = absurd z
      zip_long (q ∷ qs) (p ∷ ps) z = ap suc (zip_long qs ps z.1)
