-- What the encoder answers fits, and is linked to the form.
use Rattle.std.proofs.Common.{◌≡◌, ◌<◌, ◌+◌, ◌-◌, ℕ, suc, List, [], ◌∷◌, ◌++◌, map, length, get_or, refl, sym, ap, ap₂, ◌∙◌, subst, arith, ⊎_elim, Option, Some, None}
use Rattle.std.specs.Prelude.{option_map, option_to_list, is_some, slice_get, Contains, IfSome, pos}
use Rattle.std.specs.List.{All}
use Rattle.std.proofs.lemmas.List.{length-map, length-append}
use Rattle.std.proofs.lemmas.List.Elements.{All-tail, All-head, All-contains, Contains-append_cases}
use Rattle.std.proofs.lemmas.Option.{same_Some, slice_get_within, slice_get-map}
use Rattle.data_theory.specs.declared.ids.SortId.{SortId}
use Rattle.data_theory.specs.declared.ids.VarId.{VarId}
use Rattle.data_theory.specs.declared.ids.TermId.{TermId}
use Rattle.data_theory.specs.Table.{pos_sort}
use Rattle.data_theory.specs.Terms.{positive, numeral as number, Term, AreClosed}
use Rattle.data_theory.specs.Environments.{terms_of}
use Rattle.data_theory.specs.Signature.{Sig}
use Rattle.data_theory.specs.WholeSignatures.{IsSignature}
use Rattle.data_theory.specs.IdData.{data_meant}
use Rattle.data_theory.specs.IdTrees.{Tree, variable, trees_of, put_tree}
use Rattle.data_theory.specs.IdTreeSorts.{IsVariableOf, HasTreeSort, HaveTreeSorts}
use Rattle.data_theory.specs.IdTerms.{term_under, variable_sorts, IsGrown}
use Rattle.term_pool.specs.HeadTrees.{tree_at, trees_at, AreIn}
use Rattle.term_pool.specs.Pools.{Extends}
use Rattle.term_pool.proofs.KeptSorts.{keeps_put}
use Rattle.term_pool.proofs.DeclaredConstants.{grown_itself}
use Rattle.process_terms.specs.Meanings.{Entries, bound_at, term_at}
use Rattle.process_terms.specs.Processes.{Bound, call}
use Rattle.process_terms.specs.SignatureEntries.{entries_of, BothGrow}
use Rattle.bisim_laws.specs.BaseStates.{Columns, control_of}
use Rattle.bisim_laws.specs.LinearProcesses.{sorts, state_of, IsLinear, AreDeclared}
use Rattle.bisim_laws.specs.Links.{Regular}
use Rattle.bisim_laws.proofs.Firing.{contains_none}
use Rattle.lps_core.specs.Fitting.{AreTermsOf, IsVariable, sort_of_variable, SummandFits, HasTakenName, Fits}
use Rattle.lps_core.specs.GoingOn.{IsGoodOver}
use Rattle.lps_core.specs.PlainLinears.{PlainSummand, PlainLinear, linear_of, initial_of}
use Rattle.lps_core.specs.TreeSummands.{TreeSummand, trees_of_summand, IsSummandIn}
use Rattle.lps_core.proofs.Members.{contains_map, map_contains, all_at, all_from}
use Rattle.lps_core.proofs.MeantParts.{positive_meant}
use Rattle.lps_core.proofs.NamedLinears.{trees_keep, label_fits, first_functions}
use Rattle.lps_core.proofs.PoolTrees.{extends_itself, all_in_kept}
use Rattle.lps_core.proofs.SortedTrees.{is_of, variables_sorted}
use Rattle.lps_core.proofs.Staying.{terms_are, terms_stay}
use Rattle.lps_core.proofs.StayingFits.{terms_fit, lists_are_closed, closed_terms_fit}
use Rattle.greibach.specs.Forms.{form_table, IsForm, FormIsSorted}
use Rattle.greibach.specs.PlainForms.{PlainFormSummand, PlainEquation, PlainForm, equation_of, form_of}
use Rattle.greibach.specs.Tails.{HasTails}
use Rattle.greibach.specs.FittingForms.{CallFits, FormSummandFits, EquationFits, FormFits}
use Rattle.greibach.proofs.StayingForms.{forms_are_sorted, forms_stay}
use Rattle.greibach.proofs.TailLemmas.{tails_mean}
use Rattle.regular_encoder.specs.Encoding.{control_params, encoded, encoded_params, first_terms, IsLayout}
use Rattle.regular_encoder.specs.TreeEncoding.{PlainLayout, place_at, tree_control_of, tree_next, tree_encoded, tree_encoded_next, IsFormSummandIn}
use Rattle.regular_encoder.specs.WholeEncoding.{moves_of, equation_encoded, trees_encoded_from}
use Rattle.regular_encoder.specs.Layouts.{control_variable, LaidOut}
use Rattle.regular_encoder.specs.FormColumns.{layout_params, layout_meant, meant_firsts, ServesTheEncoding}
use Rattle.regular_encoder.specs.Refusals.{all_summands}
use Rattle.regular_encoder.specs.EncodedForms.{AreEquationsFor, EncodingIsGood}
use Rattle.regular_encoder.proofs.EncodedEquations.{equation_along}
use Rattle.regular_encoder.proofs.Fitting.{encoded_linear}
use Rattle.regular_encoder.proofs.FormsInPlace.{form_fits_still, equations_for, equations_in}
use Rattle.regular_encoder.proofs.GoodOver.{good_over}
use Rattle.regular_encoder.proofs.Made.{made_means}
use Rattle.regular_encoder.proofs.SortedTrees.{condition_sorted, control_sorted, bound_sorted, columns_sorted, positive_sort, place_sorts}

-- ---- where a summand comes from
pub record ComesFrom (l : PlainLayout) (us : List Tree) (i : ℕ) (qs : List PlainEquation) (t : TreeSummand) : Type 0 where
  pub place : ℕ
  pub equation : PlainEquation
  pub summand : PlainFormSummand
  pub at : slice_get qs place ≡ Some equation
  pub among : Contains equation.summands summand
  pub is : t ≡ tree_encoded l (place + i) (moves_of l (place + i) equation) us summand

comes_from : (l : PlainLayout) (us : List Tree) (i : ℕ) (qs : List PlainEquation) (t : TreeSummand) → Contains (trees_encoded_from l i us qs) t → ComesFrom l us i qs t
comes_from l us i [] t k = absurd (contains_none t k)
comes_from l us i (q ∷ qs) t k = ⊎_elim
    (λ j.
    let r = contains_map (tree_encoded l i (moves_of l i q) us) q.summands t j in
    record { place = 0; equation = q; summand = r.0; at = refl; among = r.1.0; is = r.1.1 ∙ ap (λ n. tree_encoded l n (moves_of l n q) us r.0) (let n : i ≡ 0 + i = omega arith in n) })
    (λ j.
    let r = comes_from l us (suc i) qs t j in
    record { place = suc r.place; equation = r.equation; summand = r.summand; at = r.at; among = r.among; is = r.is ∙ ap (λ n. tree_encoded l n (moves_of l n r.equation) us r.summand) (let n : r.place + suc i ≡ suc r.place + i = omega arith in n) })
    (Contains-append_cases (equation_encoded l i us q) (trees_encoded_from l (suc i) us qs) t k)

-- ---- the parameters
columns_among : (P : VarId → Type 0) (o : Option VarId) (cs : List VarId) → All P (option_to_list o ++ cs) → All P cs
columns_among P None cs h = h
columns_among P (Some x) cs h = All-tail P x cs h

control_among : (P : VarId → Type 0) (o : Option VarId) (cs : List VarId) → All P (option_to_list o ++ cs) → (x : VarId) → o ≡ Some x → P x
control_among P None cs h x e = cc
control_among P (Some y) cs h x e = subst P (same_Some y x e) (All-head P y cs h)

control_positive : (e : Entries) (o : Option VarId) (cs : List VarId) (bs : List Bound) → map (bound_at e) (option_to_list o ++ cs) ≡ control_params (is_some o) (control_variable o) ++ bs → (x : VarId) → o ≡ Some x → (bound_at e x).sort ≡ positive
control_positive e None cs bs q x k = cc
control_positive e (Some y) cs bs q x k =
    let heads : bound_at e y ≡ record { var = y.0; sort = positive } = cc in
    subst (λ z. (bound_at e z).sort ≡ positive) (same_Some y x k) (ap (λ (b : Bound). b.sort) heads)

-- ---- the sorts of the summands
module _ (old : ℕ) (h : Sig) (us : List Tree) (f : PlainForm) (l : PlainLayout) (stands : IsSignature h) (fits : FormFits h us f) (laid : LaidOut old h f l) (variables : All (IsVariable h) (layout_params l))
    (control : (x : VarId) → l.control ≡ Some x → sort_of_variable h x ≡ pos_sort) where
  columns_are : All (IsVariable h) l.columns
  columns_are = columns_among (IsVariable h) l.control l.columns variables

  place_variables : (k : ℕ) (q : PlainEquation) → slice_get f.equations k ≡ Some q → All (IsVariable h) (get_or l.places k [])
  place_variables k q at = all_from (IsVariable h) (get_or l.places k []) (λ x i. All-contains (IsVariable h) l.columns x columns_are ((laid.places k q at).among x i))

  place_has_sorts : (k : ℕ) (q : PlainEquation) → slice_get f.equations k ≡ Some q → map (sort_of_variable h) (get_or l.places k []) ≡ map (sort_of_variable h) q.params
  place_has_sorts k q at = place_sorts h stands.table stands.complete q.params (get_or l.places k []) (all_at (EquationFits h us f) f.equations k q fits.equations at).params (place_variables k q at) (laid.places k q at).same

  few : (k : ℕ) (q : PlainEquation) → slice_get f.equations k ≡ Some q → k + 1 < 340282366920938463463374607431768211456
  few k q at = let w = slice_get_within f.equations k q at in let n = laid.few in omega (arith, w, n)

  module _ (k : ℕ) (q : PlainEquation) (at : slice_get f.equations k ≡ Some q) where
    abbrev moves : VarId → Tree
    moves = moves_of l (k + 1) q

    same_place : place_at l (k + 1) ≡ get_or l.places k []
    same_place = ap (λ n. get_or l.places n []) (let n : k + 1 - 1 ≡ k = omega arith in n)

    keeps : (t : Tree) (s : SortId) → HasTreeSort h t s → HasTreeSort h (put_tree moves t) s
    keeps = keeps_put h (first_functions h stands.complete) moves
        (bound_sorted h q.params (map variable (place_at l (k + 1))) (all_at (EquationFits h us f) f.equations k q fits.equations at).params
        (subst (λ ps. HaveTreeSorts h (trees_of (map variable ps)) (map (sort_of_variable h) q.params)) (sym same_place)
        (subst (λ ss. HaveTreeSorts h (trees_of (map variable (get_or l.places k []))) ss) (place_has_sorts k q at) (variables_sorted h (get_or l.places k []) (place_variables k q at)))))

    next_sorted : (c : ℕ × List TermId) → CallFits h us f c → HaveTreeSorts h (trees_of (tree_next l moves c.0 (trees_at us c.1))) (map (sort_of_variable h) (layout_params l))
    next_sorted c w =
        let args = map (put_tree moves) (trees_at us c.1) in
        let one = w.from_one in
        let below = few (c.0 - 1) w.equation w.stands in
        control_sorted h stands.complete l.control c.0 _ l.columns one (omega (arith, one, below)) control
        (columns_sorted h (place_at l c.0) args (place_variables (c.0 - 1) w.equation w.stands)
        (subst (λ ss. HaveTreeSorts h (trees_of args) ss) (sym (place_has_sorts (c.0 - 1) w.equation w.stands)) (trees_keep h us moves keeps (trees_at us c.1) (map (sort_of_variable h) w.equation.params) w.args.sorted))
        l.columns columns_are)

    next_fits : (cs : List (ℕ × List TermId)) (next : Option (List TermId)) → option_map (trees_at us) next ≡ tree_encoded_next l moves us cs → IfSome next (AreIn us) → All (CallFits h us f) cs → IfSome next (AreTermsOf h us (map (sort_of_variable h) (layout_params l)))
    next_fits [] None e w k = w
    next_fits [] (Some ids) e w k = cc
    next_fits (c ∷ cs) None e w k = cc
    next_fits (c ∷ cs) (Some ids) e w k =
        let same : trees_at us ids ≡ tree_next l moves c.0 (trees_at us c.1) = cc in
        record { within = w; sorted = subst (λ z. HaveTreeSorts h (trees_of z) (map (sort_of_variable h) (layout_params l))) (sym same) (next_sorted c (All-head (CallFits h us f) c cs k)) }

    pub summand_fits : (s : PlainFormSummand) (t : PlainSummand) → trees_of_summand us t ≡ tree_encoded l (k + 1) moves us s → IsSummandIn us t → FormSummandFits h us f s → SummandFits h us (layout_params l) t
    summand_fits s t e w own = record {
      sums = subst (λ xs. All (IsVariable h) xs) (sym (ap (λ (z : TreeSummand). z.sums) e)) own.sums;
      condition = record {
        within = w.condition;
        sorted = subst (λ z. HasTreeSort h z (record { 0 = 0 })) (sym (ap (λ (z : TreeSummand). z.condition) e))
            (condition_sorted h stands.complete l.control (k + 1) (put_tree moves (tree_at us s.condition)) (omega arith) (few k q at)
            (λ x j. subst (λ s. IsVariableOf h x s) (control x j) (is_of h x (control_among (IsVariable h) l.control l.columns variables x j)))
            (keeps (tree_at us s.condition) (record { 0 = 0 }) own.condition.sorted));
      };
      label = label_fits h us moves keeps s.label t.label (ap (λ (z : TreeSummand). z.label) e) own.label w.label;
      next = next_fits s.next t.next (ap (λ (z : TreeSummand). z.next) e) w.next own.next;
    }

  module _ (ms : List PlainSummand) (trees : map (trees_of_summand us) ms ≡ trees_encoded_from l 1 us f.equations) (within : All (IsSummandIn us) ms) where
    from : (m : PlainSummand) → Contains ms m → ComesFrom l us 1 f.equations (trees_of_summand us m)
    from m i = comes_from l us 1 f.equations (trees_of_summand us m) (subst (λ z. Contains z (trees_of_summand us m)) trees (map_contains (trees_of_summand us) ms m i))

    own_fits : (m : PlainSummand) (i : Contains ms m) → FormSummandFits h us f (from m i).summand
    own_fits m i =
        let r = from m i in
        All-contains (FormSummandFits h us f) r.equation.summands r.summand (all_at (EquationFits h us f) f.equations r.place r.equation fits.equations r.at).summands r.among

    pub all_fit : All (SummandFits h us (layout_params l)) ms
    all_fit = all_from (SummandFits h us (layout_params l)) ms (λ m i. let r = from m i in summand_fits r.place r.equation r.at r.summand m r.is (All-contains (IsSummandIn us) ms m within i) (own_fits m i))

    pub all_taken : All (λ (m : PlainSummand). All (HasTakenName h) m.sums) ms
    all_taken = all_from (λ (m : PlainSummand). All (HasTakenName h) m.sums) ms (λ m i. subst (λ xs. All (HasTakenName h) xs) (sym (ap (λ (z : TreeSummand). z.sums) (from m i).is)) (own_fits m i).taken)

-- ---- as many summands
pub encoded_long : (l : PlainLayout) (i : ℕ) (us : List Tree) (qs : List PlainEquation) → length (trees_encoded_from l i us qs) ≡ length (all_summands qs)
encoded_long l i us [] = refl
encoded_long l i us (q ∷ qs) =
    length-append (equation_encoded l i us q) (trees_encoded_from l (suc i) us qs)
    ∙ ap₂ (λ m n. m + n) (length-map q.summands (tree_encoded l i (moves_of l i q) us)) (encoded_long l (suc i) us qs)
    ∙ sym (length-append q.summands (all_summands qs))

-- ---- over a later pool
pub equations_along : (ts us : List Tree) (l : PlainLayout) (i : ℕ) (qs : List PlainEquation) → Extends ts us → ((k : ℕ) (q : PlainEquation) → slice_get qs k ≡ Some q → All (IsFormSummandIn ts l) q.summands) → trees_encoded_from l i us qs ≡ trees_encoded_from l i ts qs
equations_along ts us l i [] x k = refl
equations_along ts us l i (q ∷ qs) x k = ap₂ (λ a b. a ++ b) (equation_along l i ts us q x (k 0 q refl)) (equations_along ts us l (suc i) qs x (λ n p at. k (suc n) p at))

-- ---- what laying out leaves
module _ (g h : Sig) (ts t1 : List Tree) (f : PlainForm) (l : PlainLayout) (stood : IsSignature g) (stands : IsSignature h) (grown : IsGrown g h) (x : Extends ts t1) (fits : FormFits g ts f) (laid : LaidOut (length g.variables) h f l) where
  pub laid_out_fits : FormFits h t1 f
  laid_out_fits = form_fits_still g h ts t1 f stood.table stood.complete stands.table (record { signature = grown; pool = x }) fits

  pub laid_out_equations : AreEquationsFor t1 l f.equations
  laid_out_equations = equations_for (length g.variables) h t1 f l laid laid_out_fits.equations

  old_equations : AreEquationsFor ts l f.equations
  old_equations = equations_for (length g.variables) h ts f l laid (form_fits_still g h ts ts f stood.table stood.complete stands.table (record { signature = grown; pool = extends_itself ts }) fits).equations

  pub encoded_along_pools : trees_encoded_from l 1 t1 f.equations ≡ trees_encoded_from l 1 ts f.equations
  encoded_along_pools = equations_along ts t1 l 1 f.equations x (λ k q at. (old_equations k q at).summands)

-- ---- the whole answer
control_meant : (h : Sig) → IsSignature h → (o : Option VarId) (ts : List Tree) → map (term_under h) (tree_control_of o 1 ++ ts) ≡ control_of (is_some o) 0 ++ map (term_under h) ts
control_meant h stands None ts = refl
control_meant h stands (Some x) ts = ap (λ s. number s (pos 1) ∷ map (term_under h) ts) (positive_meant h stands.table)

control_closed : (o : Option VarId) (ts : List Term) → AreClosed (terms_of ts) → AreClosed (terms_of (control_of (is_some o) 0 ++ ts))
control_closed None ts k = k
control_closed (Some x) ts k = (tt, k)

-- what it means
pub record EncodingMeans (h : Sig) (us : List Tree) (f : PlainForm) (l : PlainLayout) (firsts : List TermId) (made : PlainLinear) : Type 0 where
  pub columns : Columns
  pub control : columns.control ≡ is_some l.control
  pub form : IsForm (form_of (entries_of h us) f)
  pub sorted : FormIsSorted (data_meant h) (variable_sorts h) (form_of (entries_of h us) f)
  pub layout : IsLayout columns (control_variable l.control) (form_of (entries_of h us) f)
  pub declared : AreDeclared (variable_sorts h) (encoded_params columns (control_variable l.control))
  pub linear : linear_of (entries_of h us) made ≡ encoded columns (control_variable l.control) (form_of (entries_of h us) f)
  pub initial : initial_of (entries_of h us) made ≡ control_of (is_some l.control) 0 ++ map (term_at (entries_of h us)) firsts

pub record EncodingStands (h : Sig) (us : List Tree) (f : PlainForm) (l : PlainLayout) (firsts : List TermId) (made : PlainLinear) : Type 0 where
  pub fits : Fits h us made
  pub good : EncodingIsGood h us f made
  pub means : EncodingMeans h us f l firsts made

pub encoding_stands : (g h : Sig) (ts t1 us : List Tree) (f : PlainForm) (l : PlainLayout) (firsts : List TermId) (made : PlainLinear) → IsSignature g → IsSignature h → IsGrown g h → Extends ts t1 → Extends t1 us → FormFits g ts f → HasTails f
    → LaidOut (length g.variables) h f l → ServesTheEncoding h t1 f l firsts → made.params ≡ layout_params l → AreIn us made.init → trees_at us made.init ≡ tree_control_of l.control 1 ++ trees_at us firsts
    → All (IsSummandIn us) made.summands → map (trees_of_summand us) made.summands ≡ trees_encoded_from l 1 t1 f.equations → EncodingStands h us f l firsts made
encoding_stands g h ts t1 us f l firsts made stood stands grown x0 x1 fits tails laid serves params init_in init within trees1 =
    let e = entries_of h us in
    let F = form_of e f in
    let c = layout_meant h t1 l firsts in
    let v = control_variable l.control in
    let next_grow : BothGrow h h t1 us = record { signature = grown_itself h; pool = x1 } in
    let fits1 = laid_out_fits g h ts t1 f l stood stands grown x0 fits laid in
    let fits2 = form_fits_still h h t1 us f stands.table stands.complete stands.table next_grow fits1 in
    let trees : map (trees_of_summand us) made.summands ≡ trees_encoded_from l 1 us f.equations =
    trees1 ∙ sym (equations_along t1 us l 1 f.equations x1 (λ k q at. (laid_out_equations g h ts t1 f l stood stands grown x0 fits laid k q at).summands)) in
    let control : (x : VarId) → l.control ≡ Some x → sort_of_variable h x ≡ pos_sort =
    λ x k. positive_sort h stands.table stands.complete x (control_among (IsVariable h) l.control l.columns serves.variables x k) (control_positive (entries_of h t1) l.control l.columns c.columns serves.params x k) in
    let same_form : F ≡ form_of (entries_of h t1) f = forms_stay h h t1 us f stands.table stands.complete next_grow fits1 in
    let layout : IsLayout c v F = subst (λ z. IsLayout c v z) (sym same_form) serves.layout in
    let linear : linear_of e made ≡ encoded c v F =
    made_means h us l c v f made stands.table stands.complete serves.meant (equations_in (length g.variables) h us f l laid stands.table stands.complete 1 f.equations fits2.equations) (ap (map (bound_at e)) params ∙ serves.params) within trees in
    let firsts_in = all_in_kept t1 us firsts x1 serves.terms.within in
    let same_init = terms_stay h h t1 us stands.table stands.complete next_grow (map (sort_of_variable h) fits1.first.params) f.init fits1.init in
    let same_firsts = terms_stay h h t1 us stands.table stands.complete next_grow (map (sort_of_variable h) l.columns) firsts serves.terms in
    let meant : initial_of e made ≡ control_of (is_some l.control) 0 ++ map (term_at e) firsts =
    terms_are h us made.init init_in ∙ ap (map (term_under h)) init ∙ control_meant h stands l.control (trees_at us firsts)
    ∙ ap (λ z. control_of (is_some l.control) 0 ++ z) (sym (terms_are h us firsts firsts_in)) in
    let starts : initial_of e made ≡ control_of (is_some l.control) 0 ++ meant_firsts h t1 firsts = meant ∙ ap (λ z. control_of (is_some l.control) 0 ++ z) same_firsts in
    let sorted = forms_are_sorted h us f stands.table stands.complete fits2 in
    let initial : initial_of e made ≡ first_terms c (map (term_at e) f.init) = starts ∙ sym serves.starts ∙ ap (first_terms c) (sym same_init) in
    let is_variable : All (IsVariable h) made.params = subst (λ xs. All (IsVariable h) xs) (sym params) serves.variables in
    let firsts_fit = terms_fit h h t1 us next_grow (map (sort_of_variable h) l.columns) firsts serves.terms in
    let init_fits : AreTermsOf h us (map (sort_of_variable h) made.params) made.init = record {
      within = init_in;
      sorted = subst (λ xs. HaveTreeSorts h (trees_of (trees_at us made.init)) (map (sort_of_variable h) xs)) (sym params)
          (subst (λ z. HaveTreeSorts h (trees_of z) (map (sort_of_variable h) (layout_params l))) (sym init) (control_sorted h stands.complete l.control 1 (trees_at us firsts) l.columns (omega arith) (omega arith) control firsts_fit.sorted));
    } in
    record {
      fits = record {
        params = is_variable;
        init = init_fits;
        closed = closed_terms_fit h us made.params made.init stands.table is_variable init_fits
            (subst (λ z. AreClosed (terms_of z)) (sym starts) (control_closed l.control (meant_firsts h t1 firsts) (lists_are_closed (data_meant h) (meant_firsts h t1 firsts) (sorts c.columns) serves.closed)));
        summands = subst (λ xs. All (SummandFits h us xs) made.summands) (sym params) (all_fit (length g.variables) h us f l stands fits2 laid serves.variables control made.summands trees within);
        linear = subst IsLinear (sym linear) (encoded_linear c v F fits2.form layout);
        taken = subst (λ xs. All (HasTakenName h) xs) (sym params) serves.taken;
        sums_taken = all_taken (length g.variables) h us f l stands fits2 laid serves.variables control made.summands trees within;
      };
      good = (
        c,
        subst (λ L. IsGoodOver h (Regular (form_table F) c L) (call (form_table F) 0 (map (term_at e) f.init)) (state_of L (initial_of e made))) (sym linear)
            (subst (λ is. IsGoodOver h (Regular (form_table F) c (encoded c v F)) (call (form_table F) 0 (map (term_at e) f.init)) (state_of (encoded c v F) is)) (sym initial)
            (good_over h (variable_sorts h) c v F (equation_of e fits2.first) (map (term_at e) f.init) fits2.form (tails_mean e f tails) sorted layout serves.declared serves.sorted
            (slice_get-map (equation_of e) f.equations 0 ∙ ap (option_map (equation_of e)) fits2.starts) fits2.closed serves.closed)),
      );
      means = record { columns = c; control = refl; form = fits2.form; sorted = sorted; layout = layout; declared = serves.declared; linear = linear; initial = meant };
    }
