-- Communication is a filter.
use Rattle.std.proofs.Common.{◌≡◌, ℕ, Bool, true, false, List, [], ◌∷◌, ◌++◌, map, length, refl, sym, ap, subst, arith, if◌then◌else◌, Option, ⊎_elim}
use Rattle.std.specs.Prelude.{Contains}
use Rattle.std.specs.List.{list_any}
use Rattle.std.proofs.lemmas.List.Elements.{Contains-append_cases}
use Rattle.data_theory.specs.Terms.{Sort, Term, put}
use Rattle.data_theory.specs.Declarations.{Data, IsSort, Declares, IsData}
use Rattle.data_theory.specs.Environments.{Environment, term_in}
use Rattle.process_terms.specs.Theories.{Theory, IsFalse, IsConsistent, AllTrue, none_left, true_and_more}
use Rattle.process_terms.specs.Labels.{Label, put_label}
use Rattle.process_terms.specs.Communication.{Rule, conjunction_of, NoneFurther, Communicates}
use Rattle.process_terms.specs.Processes.{Bound, comm}
use Rattle.process_terms.specs.Steps.{Passes, communicated as by_communication}
use Rattle.bisim_laws.specs.LinearProcesses.{Summand, variables, Does, AreDeclared, HaveDataSorts}
use Rattle.lps_core.specs.Conditions.{parts, AreConditions}
use Rattle.lps_core.proofs.Members.{In, here, there, in_each, each_in, contains_in, contains_map}
use Rattle.lps_core.proofs.SortedTerms.{HaveTerms, one_sort}
use Rattle.lps_core.proofs.Chains.{all_true_append, all_true_split, conditions_append, parts_conditions, conjoined_condition, chain_condition, not_holds, holds_not, conjoined_holds, holds_conjoined, parts_hold, hold_parts}
use Rattle.lps_core.proofs.Shapes.{IsSortedSummand}
use Rattle.action_filters.specs.NameTests.{is_nothing}
use Rattle.action_filters.proofs.NamesTold.{Told, yes, no, some_told}
use Rattle.action_filters.proofs.Filtered.{IsFilter}
use Rattle.communication.specs.Ways.{rest}
use Rattle.communication.specs.Communicated.{ActionGroup, Way, way_label, equalities_of, further_groups, is_no_group, way_parts, has_no_arguments, with_way, of_way, label_ways, communicated}
use Rattle.communication.proofs.Listed.{equal_parts, sound, complete, none_holds_of, none_further_of}
use Rattle.communication.proofs.Parted.{LabelFits, label_fits, fits_over, fits_sorted, Known, way_fits, further_are, parts_are}

-- ---- ways that drop out
nothing_told : (ts : List Term) → Told (ts ≡ []) (is_nothing ts)
nothing_told [] = yes refl
nothing_told (t ∷ ts) = no (λ q. cons_nil q)
  where
    cons_nil : {t : Term} {ts : List Term} → t ∷ ts ≡ [] → ⊥
    cons_nil q = cc

abbrev pub IsShut : List Rule → Way → Type 0
IsShut rules w = (z : ActionGroup) × (Contains (further_groups rules (rest w)) z × (equalities_of z ≡ []))

shut_told : (rules : List Rule) (w : Way) → Told (IsShut rules w) (list_any has_no_arguments (further_groups rules (rest w)))
shut_told rules w = some_told (λ z. equalities_of z ≡ []) has_no_arguments (λ z. nothing_told (equalities_of z)) (further_groups rules (rest w))

-- the summand of a way, where it doesn't drop out
way_in : (rules : List Rule) (s : Summand) {w : Way} → (IsShut rules w → ⊥) → In w (label_ways rules s.label) → In (with_way rules s w) (communicated rules s)
way_in rules s {w} n i = each_in (of_way rules s) i (by (list_any has_no_arguments (further_groups rules (rest w))) (shut_told rules w))
  where
    by : (b : Bool) → Told (IsShut rules w) b → In (with_way rules s w) (if b then [] else with_way rules s w ∷ [])
    by true (yes k) = absurd (n k)
    by false k = here

pub in_ways : (rules : List Rule) (s t : Summand) → In t (communicated rules s) → (w : Way) × In w (label_ways rules s.label) × (t ≡ with_way rules s w)
in_ways rules s t i =
    let r = in_each (of_way rules s) (label_ways rules s.label) i in
    (r.0, r.1, by r.0 (list_any has_no_arguments (further_groups rules (rest r.0))) r.2)
  where
    only : {x y : Summand} → In x (y ∷ []) → x ≡ y
    only here = refl
    only (there j) = elim j [ ]

    by : (w : Way) (b : Bool) → In t (if b then [] else with_way rules s w ∷ []) → t ≡ with_way rules s w
    by w true j = elim j [ ]
    by w false j = only j

-- ---- the variables of a summand
pub scope_known : (g : Data) (vs : List Sort) (xs ys : List Bound) → AreDeclared vs xs → AreDeclared vs ys → HaveDataSorts g xs → HaveDataSorts g ys → Known g vs (variables xs ++ variables ys)
scope_known g vs xs ys d e h k v s i j = ⊎_elim
    (λ l. let r = contains_map (λ x. x.var) xs v l in at r.0.sort (h r.0 r.1.0) (one_sort vs r.0.var r.0.sort s (d r.0 r.1.0) (subst (λ z. Declares vs z s) r.1.1 j)))
    (λ l. let r = contains_map (λ x. x.var) ys v l in at r.0.sort (k r.0 r.1.0) (one_sort vs r.0.var r.0.sort s (e r.0 r.1.0) (subst (λ z. Declares vs z s) r.1.1 j)))
    (Contains-append_cases (variables xs) (variables ys) v i)
  where
    at : (r : Sort) → IsSort g r → r ≡ s → IsSort g s
    at r h q = subst (λ z. IsSort g z) q h

-- ---- what is made fits
module _ (g : Data) (ok : IsData g) (vs : List Sort) (rules : List Rule) (params : List Bound) (declared : AreDeclared vs params) (of_data : HaveDataSorts g params) where
  abbrev pub scope : Summand → List ℕ
  scope s = variables s.sums ++ variables params

  pub known : (s : Summand) → IsSortedSummand g vs params s → Known g vs (scope s)
  known s fit = scope_known g vs s.sums params fit.declared declared fit.sorts_of_data of_data

  pub fit_label : (s : Summand) → IsSortedSummand g vs params s → LabelFits g vs (scope s) s.label
  fit_label s fit = label_fits fit.label fit.label_sorted

  pub all_parts : (s : Summand) (w : Way) → IsSortedSummand g vs params s → In w (label_ways rules s.label) → AreConditions g vs (scope s) (parts s.condition ++ way_parts rules w)
  all_parts s w fit i =
      conditions_append g vs (scope s) (parts s.condition) (way_parts rules w) (parts_conditions g vs (scope s) s.condition fit.condition)
      (parts_are g ok vs (scope s) (known s fit) rules (length s.label) s.label w (fit_label s fit) i)

  pub made_fit : (s t : Summand) → IsSortedSummand g vs params s → In t (communicated rules s) → IsSortedSummand g vs params t
  made_fit s t fit i =
      let w = in_ways rules s t i in
      let f = way_fits g ok vs (scope s) (known s fit) rules (length s.label) s.label w.0 (fit_label s fit) w.1 in
      subst (λ z. IsSortedSummand g vs params z) (sym w.2) (record {
        declared = fit.declared;
        sorts_of_data = fit.sorts_of_data;
        condition = conjoined_condition g vs (scope s) (parts s.condition ++ way_parts rules w.0) (all_parts s w.0 fit w.1);
        label = fits_over f.label;
        label_sorted = fits_sorted f.label;
        next = fit.next;
        apart = fit.apart;
        distinct = fit.distinct;
      })

-- ---- the filter
module _ (th : Theory) (sane : IsConsistent th) (ok : IsData th.declared) (vs : List Sort) (rules : List Rule) where
  module _ (xs : List ℕ) (e : Environment) (has : HaveTerms th.declared vs xs (term_in e)) where
    nots_hold : (zs : List ActionGroup) → ((z : ActionGroup) → In z zs → AreConditions th.declared vs xs (equalities_of z)) → ((z : ActionGroup) → In z zs → IsFalse th (put (term_in e) (conjunction_of (equalities_of z)))) → AllTrue th (map (put (term_in e)) (map is_no_group zs))
    nots_hold [] f h = none_left
    nots_hold (z ∷ zs) f h = true_and_more (not_holds th vs xs e has (conjunction_of (equalities_of z)) (chain_condition th.declared vs xs (equalities_of z) (f z here)) (h z here)) (nots_hold zs (λ y i. f y (there i)) (λ y i. h y (there i)))

    hold_nots : (zs : List ActionGroup) → ((z : ActionGroup) → In z zs → AreConditions th.declared vs xs (equalities_of z)) → AllTrue th (map (put (term_in e)) (map is_no_group zs)) → (z : ActionGroup) → In z zs → IsFalse th (put (term_in e) (conjunction_of (equalities_of z)))
    hold_nots [] f h z i = elim i [ ]
    hold_nots (y ∷ zs) f (true_and_more h k) _ here = holds_not th vs xs e has (conjunction_of (equalities_of y)) (chain_condition th.declared vs xs (equalities_of y) (f y here)) h
    hold_nots (y ∷ zs) f (true_and_more h k) z (there i) = hold_nots zs (λ x i. f x (there i)) k z i

    module _ (known : Known th.declared vs xs) where
      -- the label of a way whose parts hold is one that the label communicates to, and there is no other
      pub way_communicates : (m : Label) → LabelFits th.declared vs xs m → (w : Way) → In w (label_ways rules m) → AllTrue th (map (put (term_in e)) (way_parts rules w)) → Communicates th rules (put_label e m) (put_label e (way_label w))
      way_communicates m fit w i h =
          let f = way_fits th.declared ok vs xs known rules (length m) m w fit i in
          let r = all_true_split th (put (term_in e)) (equal_parts w) (map is_no_group (further_groups rules (rest w))) h in
          record {
            rest = put_label e (rest w);
            grouped = sound th rules e (length m) m w (omega arith) i r.0;
            none_further = none_further_of th rules e (rest w) (hold_nots (further_groups rules (rest w)) (further_are th.declared ok vs xs known rules (rest w) f.rest_fits) r.1);
          }

      pub communicates_way : (m n : Label) → LabelFits th.declared vs xs m → Communicates th rules (put_label e m) n
          → (w : Way) × (In w (label_ways rules m) × (IsShut rules w → ⊥) × AllTrue th (map (put (term_in e)) (way_parts rules w)) × (n ≡ put_label e (way_label w)))
      communicates_way m n fit c =
          let l = complete th rules e (length m) m (omega arith) c.grouped in
          let f = way_fits th.declared ok vs xs known rules (length m) m l.way fit l.among in
          let none = none_holds_of th rules e (rest l.way) (subst (λ z. NoneFurther th rules z) l.rest_is c.none_further) in (
            l.way,
            (
              l.among,
              (λ k. sane (subst (λ z. IsFalse th (put (term_in e) (conjunction_of z))) k.1.1 (none k.0 (contains_in (further_groups rules (rest l.way)) k.1.0)))),
              all_true_append th (put (term_in e)) (equal_parts l.way) (map is_no_group (further_groups rules (rest l.way))) l.equal
                  (nots_hold (further_groups rules (rest l.way)) (further_are th.declared ok vs xs known rules (rest l.way) f.rest_fits) none),
              l.label_is,
            ),
          )

  module _ (params : List Bound) (declared : AreDeclared vs params) (of_data : HaveDataSorts th.declared params) where
    abbrev reach : Summand → List ℕ
    reach s = variables s.sums ++ variables params

    abbrev fitting : (s : Summand) → IsSortedSummand th.declared vs params s → LabelFits th.declared vs (reach s) s.label
    fitting s fit = fit_label th.declared ok vs rules params declared of_data s fit

    abbrev conditions : (s : Summand) (w : Way) → IsSortedSummand th.declared vs params s → In w (label_ways rules s.label) → AreConditions th.declared vs (reach s) (parts s.condition ++ way_parts rules w)
    conditions s w fit i = all_parts th.declared ok vs rules params declared of_data s w fit i

    comm_forth : (s : Summand) (e : Environment) (m n : Label) (q : Option (List Term)) → IsSortedSummand th.declared vs params s → HaveTerms th.declared vs (reach s) (term_in e) → Does th s e m q → Passes th (comm rules) m n → (t : Summand) × (In t (communicated rules s) × Does th t e n q)
    comm_forth s e m n q fit has d (by_communication c) =
        let w = communicates_way (reach s) e has (known th.declared ok vs rules params declared of_data s fit) s.label n (fitting s fit) (subst (λ z. Communicates th rules z n) d.label c) in (
          with_way rules s w.0,
          (
            way_in rules s w.1.1 w.1.0,
            record {
              holds = conjoined_holds th vs (reach s) e has (parts s.condition ++ way_parts rules w.0) (conditions s w.0 fit w.1.0)
                  (all_true_append th (put (term_in e)) (parts s.condition) (way_parts rules w.0) (parts_hold th vs (reach s) e has s.condition fit.condition d.holds) w.1.2);
              label = w.1.3;
              onward = d.onward;
            },
          ),
        )

    comm_back : (s t : Summand) (e : Environment) (n : Label) (q : Option (List Term)) → IsSortedSummand th.declared vs params s → HaveTerms th.declared vs (reach s) (term_in e) → In t (communicated rules s) → Does th t e n q → (m : Label) × (Does th s e m q × Passes th (comm rules) m n)
    comm_back s t e n q fit has i d =
        let w = in_ways rules s t i in
        let k = subst (λ z. Does th z e n q) w.2 d in
        let r = all_true_split th (put (term_in e)) (parts s.condition) (way_parts rules w.0) (holds_conjoined th vs (reach s) e has (parts s.condition ++ way_parts rules w.0) (conditions s w.0 fit w.1) k.holds) in (
          put_label e s.label,
          (
            record { holds = hold_parts th vs (reach s) e has s.condition fit.condition r.0; label = refl; onward = k.onward },
            subst (λ z. Passes th (comm rules) (put_label e s.label) z) (sym k.label)
                (by_communication (way_communicates (reach s) e has (known th.declared ok vs rules params declared of_data s fit) s.label (fitting s fit) w.0 w.1 r.1)),
          ),
        )

    pub communication : IsFilter th vs params (comm rules) (communicated rules)
    communication = record {
      forth = comm_forth;
      back = comm_back;
      sums = λ s t i. let w = in_ways rules s t i in ap (λ z. z.sums) w.2;
      fits = λ s t fit i. made_fit th.declared ok vs rules params declared of_data s t fit i;
    }
