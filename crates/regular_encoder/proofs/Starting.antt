-- Where the encoding starts.
use Rattle.std.proofs.Common.{◌≡◌, ◌<◌, ℕ, List, [], ◌∷◌, ◌++◌, length, sym, ap, ◌∙◌, subst, ⊎_elim, cond}
use Rattle.std.specs.Prelude.{Contains}
use Rattle.std.proofs.lemmas.Bool.Decides.{eqb_tells}
use Rattle.std.proofs.lemmas.Option.{slice_get-get_or, slice_get_within}
use Rattle.std.proofs.lemmas.List.Elements.{Contains-append_right}
use Rattle.data_theory.specs.Terms.{Sort, Term}
use Rattle.data_theory.specs.Declarations.{Data, Declares, HasSort, HaveSorts}
use Rattle.data_theory.specs.Environments.{Environment, term_in, bound, terms_of}
use Rattle.data_theory.proofs.EnvironmentLemmas.{front_is_read, bound_are_the_parameters}
use Rattle.process_terms.specs.Theories.{AreOfSorts}
use Rattle.process_terms.specs.Processes.{Bound, call}
use Rattle.bisim_laws.specs.Bisimulations.{up_to}
use Rattle.bisim_laws.specs.LinearProcesses.{variables, sorts, state_of, AreDeclared, reading}
use Rattle.bisim_laws.specs.BaseStates.{control_of, RegularState, regular_state}
use Rattle.bisim_laws.proofs.Firing.{contains_first, contains_later, contains_cases, contains_none, bound_reads, reading_same}
use Rattle.bisim_laws.proofs.AlikeProcesses.{alike_refl}
use Rattle.greibach.specs.Forms.{form_table}
use Rattle.lps_core.proofs.Environments.{readings_to}
use Rattle.lps_core.proofs.SortedTerms.{one_sort}
use Rattle.regular_encoder.specs.Encoding.{control_params, place_of, encoded, EncodedIsGood}
use Rattle.regular_encoder.proofs.Encoded.{place_long, place_among}
use Rattle.regular_encoder.proofs.Fitting.{same_sorts, numbered}
use Rattle.regular_encoder.proofs.RegularStates.{sorts_long, number_in_front, encoded_bisimilar}

-- bound terms of sorts in front of others
front_has_sort : (g : Data) (vs : List Sort) (xs : List Bound) (us : List Term) (d : Environment) → AreDeclared vs xs → HaveSorts g [] (terms_of us) (sorts xs) → (v : ℕ) (s : Sort) → Declares vs v s → HasSort g [] (term_in d v) s → HasSort g [] (term_in (bound (variables xs) us ++ d) v) s
front_has_sort g vs [] us d w h v s k b = b
front_has_sort g vs (x ∷ xs) [] d w h v s k b = b
front_has_sort g vs (x ∷ xs) (u ∷ us) d w h v s k b = ⊎_elim
    (λ q. subst (λ z. HasSort g [] (cond z u (term_in (bound (variables xs) us ++ d) v)) s) (sym q.0)
    (subst (λ z. HasSort g [] u z) (one_sort vs v x.sort s (subst (λ z. Declares vs z x.sort) q.1 (w x (contains_first x xs))) k) h.0))
    (λ q. subst (λ z. HasSort g [] (cond z u (term_in (bound (variables xs) us ++ d) v)) s) (sym q.0) (front_has_sort g vs xs us d (λ y i. w y (contains_later x y xs i)) h.1 v s k b))
    (eqb_tells x.var v)

-- columns with terms of their sorts
column_has_sort : (g : Data) (vs : List Sort) (xs : List Bound) (us : List Term) → AreDeclared vs xs → HaveSorts g [] (terms_of us) (sorts xs) → (x : Bound) → Contains xs x → HasSort g [] (term_in (bound (variables xs) us) x.var) x.sort
column_has_sort g vs [] us w h x i = absurd (contains_none x i)
column_has_sort g vs (y ∷ xs) [] w h x i = absurd h
column_has_sort g vs (y ∷ xs) (u ∷ us) w h x i = ⊎_elim
    (λ q. subst (λ z. HasSort g [] (cond z u (term_in (bound (variables xs) us) x.var)) x.sort) (sym q.0)
    (subst (λ z. HasSort g [] u z) (one_sort vs x.var y.sort x.sort (subst (λ z. Declares vs z y.sort) q.1 (w y (contains_first y xs))) (w x i)) h.0))
    (λ q. subst (λ z. HasSort g [] (cond z u (term_in (bound (variables xs) us) x.var)) x.sort) (sym q.0)
    (column_has_sort g vs xs us (λ z j. w z (contains_later y z xs j)) h.1 x (⊎_elim (λ e. absurd (q.1 (ap (λ b. b.var) e))) (λ j. j) (contains_cases y x xs i))))
    (eqb_tells y.var x.var)

read_of_sorts : (g : Data) (e : Environment) (xs : List Bound) → ((x : Bound) → Contains xs x → HasSort g [] (term_in e x.var) x.sort) → HaveSorts g [] (terms_of (reading e (variables xs))) (sorts xs)
read_of_sorts g e [] h = tt
read_of_sorts g e (x ∷ xs) h = (h x (contains_first x xs), read_of_sorts g e xs (λ y i. h y (contains_later x y xs i)))

pub encoded_good : EncodedIsGood
encoded_good th vs c v form q init con is tail sorted layout declared sorts_of_data at init_sorted default_sorted =
    let p = layout.places 0 q at in
    let place = place_of c 0 in
    let xs = variables c.columns in
    let e = bound place init ++ bound xs c.defaults in
    let first = reading e xs in
    let columns_declared : AreDeclared vs c.columns = λ x i. declared x (Contains-append_right (control_params c.control v) c.columns x i) in
    let long : length init ≡ length place = sorts_long th q.params init init_sorted ∙ sym (place_long c q place p) in
    let of_sorts : AreOfSorts th (sorts c.columns) first = read_of_sorts th.declared e c.columns (λ x i.
    subst (λ z. HasSort th.declared [] (term_in (bound z init ++ bound xs c.defaults) x.var) x.sort) (sym p.is)
    (front_has_sort th.declared vs p.bounds init (bound xs c.defaults) (λ y j. columns_declared y (p.among y j))
    (subst (λ z. AreOfSorts th z init) (same_sorts p.same) init_sorted) x.var x.sort (columns_declared x i)
    (column_has_sort th.declared vs c.columns c.defaults columns_declared default_sorted x i))) in
    let args : reading (bound xs first) place ≡ init =
    readings_to (term_in e) xs place (place_among c q place p)
    ∙ reading_same place e (bound place init) (λ u i. front_is_read (bound place init) (bound xs c.defaults) u (subst (λ z. Contains z u) (sym (bound_are_the_parameters place init long)) i))
    ∙ bound_reads place init long p.distinct in
    let within : 0 < length c.places = subst (λ n. 0 < n) (sym layout.long) (slice_get_within form 0 q at) in (
      record {
        starts = up_to (alike_refl th _)
            (subst (λ ts. RegularState th (form_table form) c (encoded c v form) (call (form_table form) 0 ts) (state_of (encoded c v form) (control_of c.control 0 ++ first))) args
            (regular_state first (slice_get-get_or c.places 0 [] within) of_sorts)) (alike_refl th _);
        follows = encoded_bisimilar th vs c v form con is tail sorted layout declared sorts_of_data;
      },
      number_in_front th c.control v 0 (numbered c v form layout 0 q at) c.columns first of_sorts,
    )
