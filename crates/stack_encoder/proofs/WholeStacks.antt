-- The whole answer: what it means, and that it fits.
use Rattle.std.proofs.Common.{◌≡◌, ◌<◌, ◌≤◌, ◌+◌, ◌-◌, ℕ, suc, List, [], ◌∷◌, ◌++◌, map, length, get_or, refl, sym, ap, ap₂, ◌∙◌, subst, arith, ⊎_elim, Option, Some, None}
use Rattle.std.specs.Prelude.{slice_get, option_map, Contains, IfSome}
use Rattle.std.specs.List.{All, AllZip, AllByRecursion, flat_map}
use Rattle.std.proofs.lemmas.List.{length-map, length-append, map-append}
use Rattle.std.proofs.lemmas.List.Elements.{All-nil, All-cons, All-head, All-tail, All-weaker, All-contains, Contains-append_cases}
use Rattle.data_theory.proofs.IdGrowthLemmas.{growth_after_growth_is_growth}
use Rattle.data_theory.proofs.EnvironmentLemmas.{closed_lists_need_no_variables}
use Rattle.std.proofs.lemmas.Option.{slice_get_within, slice_get-map}
use Rattle.data_theory.specs.declared.ids.NameId.{NameId}
use Rattle.data_theory.specs.declared.ids.SortId.{SortId}
use Rattle.data_theory.specs.declared.ids.TermId.{TermId}
use Rattle.data_theory.specs.declared.ids.VarId.{VarId}
use Rattle.data_theory.specs.Declarations.{Declares, HaveSorts}
use Rattle.data_theory.specs.Environments.{terms_of}
use Rattle.data_theory.specs.Signature.{Sig}
use Rattle.data_theory.specs.Table.{bool_sort}
use Rattle.data_theory.specs.Terms.{application, function as named_function}
use Rattle.data_theory.specs.IdData.{data_meant}
use Rattle.data_theory.specs.IdTerms.{IsGrown, sort_under, term_under, variable_sorts}
use Rattle.data_theory.specs.IdTreeSorts.{HasTreeSort, HaveTreeSorts}
use Rattle.data_theory.specs.IdTrees.{Tree, variable, function, none, trees_of, put_tree}
use Rattle.data_theory.specs.WholeSignatures.{IsSignature}
use Rattle.data_theory.proofs.IdDataLemmas.{meant_data_are_data}
use Rattle.data_theory.proofs.IdTermLemmas.{sorted_trees_are_within}
use Rattle.term_pool.specs.HeadTrees.{tree_at, trees_at, AreIn}
use Rattle.term_pool.specs.Pools.{PoolContents, Extends}
use Rattle.term_pool.proofs.DeclaredConstants.{grown_itself}
use Rattle.term_pool.proofs.KeptSorts.{keeps_put}
use Rattle.process_terms.specs.Meanings.{Entries, bound_at, term_at}
use Rattle.process_terms.specs.Processes.{call}
use Rattle.process_terms.specs.SignatureEntries.{entries_of, BothGrow}
use Rattle.bisim_laws.specs.LinearProcesses.{Linear, sorts, state_of, IsLinear}
use Rattle.bisim_laws.specs.BaseStates.{Columns, number_of, columns_of}
use Rattle.bisim_laws.specs.Links.{Stack}
use Rattle.bisim_laws.proofs.Firing.{contains_first, contains_later, contains_cases, contains_none}
use Rattle.lps_core.specs.Fitting.{AreTermsOf, IsActionOf, IsVariable, sort_of_variable, HasTakenName, SummandFits, Fits}
use Rattle.lps_core.specs.GoingOn.{IsGoodOver}
use Rattle.lps_core.specs.PlainLinears.{PlainSummand, PlainLinear, linear_of, initial_of}
use Rattle.lps_core.specs.TreeSummands.{TreeSummand, trees_of_summand, meant_summand, IsActionIn, IsSummandIn}
use Rattle.lps_core.proofs.Members.{all_at, all_from, contains_map, map_contains}
use Rattle.lps_core.proofs.MeantTrees.{numbers_meant, summands_read}
use Rattle.lps_core.proofs.NamedLinears.{label_fits, trees_keep, first_functions}
use Rattle.lps_core.proofs.NamedSums.{sorts_kept}
use Rattle.lps_core.proofs.PoolTrees.{extends_itself, extends_on, trees_kept}
use Rattle.lps_core.proofs.SortedTrees.{is_of}
use Rattle.lps_core.proofs.Staying.{terms_are, terms_sorted, variables_declared}
use Rattle.greibach.specs.FittingForms.{CallFits, FormSummandFits, EquationFits, FormFits}
use Rattle.greibach.specs.Forms.{form_table}
use Rattle.greibach.specs.PlainForms.{PlainFormSummand, PlainEquation, PlainForm, equation_of, form_summand_of, form_of}
use Rattle.greibach.proofs.StayingForms.{forms_are_sorted}
use Rattle.regular_encoder.specs.FormColumns.{kind_of, column_kinds, AreKindsAt}
use Rattle.regular_encoder.proofs.FirstTerms.{args_closed}
use Rattle.regular_encoder.proofs.FormsInPlace.{form_fits_still, terms_long}
use Rattle.regular_encoder.proofs.SortedTrees.{bound_sorted, sort_meant}
use Rattle.stack_encoder.specs.StackEncoding.{StackSymbols, stack_sort, StackFits, stack_from, equation_summands, stack_summand, ways, to_fields, stacked, stack_params, first_stack}
use Rattle.stack_encoder.specs.StackEntries.{StackIds, symbols_meant}
use Rattle.stack_encoder.specs.StackedForms.{HasItsStack, StackingIsGood, first_tree, layout_over, one_or_two, due_for, summands_due}
use Rattle.stack_encoder.specs.StackColumns.{AreNumberedPlaces, LeadsToPlaces, SummandLeadsToPlaces, EquationLeadsToPlaces}
use Rattle.stack_encoder.specs.TreeStack.{FrameLayout, TreeWay, tree_way_up, tree_way_down, tree_way_out, place_at, column_trees, fields_for, field_tree, frame_tree, pushed_trees, rest_tree, tree_stacked, tree_ways, MeansSymbols, MeansFrames, IsCallIn, IsFormSummandIn}
use Rattle.stack_encoder.specs.WholeStack.{summand_stacked, equation_stacked, trees_stacked_from, AreEquationsFor}
use Rattle.stack_encoder.proofs.MeantStack.{stacked_trees_mean, frame_means}
use Rattle.stack_encoder.proofs.ServingStacks.{HasStack, ClosedOf, column_sorts, declared_grown, new_variable, has_stack, closed_on, zip_turn, defaults_stand, closed_lists}
use Rattle.stack_encoder.proofs.SortedStacks.{condition_sorted, rest_sorted, more_sorted, last_sorted, empty_sorted, frame_sorted, columns_sorted, sorts_of_kinds, beside_places, fields_sorted}
use Rattle.stack_encoder.proofs.StackLayouts.{stack_columns, numbers_are, columns_differ, sorts_are_meant, behind_place, kinds_at, stack_layout}
use Rattle.stack_encoder.proofs.StackShape.{stacked_linear}
use Rattle.stack_encoder.proofs.StackedTrees.{trees_along}
use Rattle.stack_encoder.proofs.StandingStack.{sort_is, standing_stack, standing_functions}
use Rattle.stack_encoder.proofs.Starting.{good_over, first_sorted}

-- ---- how many
ways_long : (y : StackIds) (l : FrameLayout) (q : VarId) (i : ℕ) (e : VarId → Tree) (ts : List Tree) (s : PlainFormSummand) → length (summand_stacked y l q i e ts s) ≡ one_or_two s.next
ways_long y l q i e ts s = length-map (tree_ways y l q e ts s.next) (tree_stacked y q i e ts s) ∙ as_many s.next
  where
    as_many : (cs : List (ℕ × List TermId)) → length (tree_ways y l q e ts cs) ≡ one_or_two cs
    as_many [] = refl
    as_many (c ∷ cs) = refl

summands_long : (y : StackIds) (l : FrameLayout) (q : VarId) (i : ℕ) (e : VarId → Tree) (ts : List Tree) (ss : List PlainFormSummand) → length (flat_map (summand_stacked y l q i e ts) ss) ≡ due_for ss
summands_long y l q i e ts [] = refl
summands_long y l q i e ts (s ∷ ss) =
    length-append (summand_stacked y l q i e ts s) (flat_map (summand_stacked y l q i e ts) ss) ∙ ap₂ (λ m n. m + n) (ways_long y l q i e ts s) (summands_long y l q i e ts ss)

pub stacked_long : (y : StackIds) (l : FrameLayout) (q : VarId) (i : ℕ) (ts : List Tree) (qs : List PlainEquation) → length (trees_stacked_from y l q i ts qs) ≡ summands_due qs
stacked_long y l q i ts [] = refl
stacked_long y l q i ts (e ∷ es) =
    length-append (equation_stacked y l q i ts e) (trees_stacked_from y l q (suc i) ts es)
    ∙ ap₂ (λ m n. m + n) (summands_long y l q i (fields_for y l q i e.params) ts e.summands) (stacked_long y l q (suc i) ts es)

-- ---- where a summand comes from
record ComesFrom (y : StackIds) (l : FrameLayout) (q : VarId) (us : List Tree) (i : ℕ) (es : List PlainEquation) (t : TreeSummand) : Type 0 where
  place : ℕ
  equation : PlainEquation
  summand : PlainFormSummand
  way : TreeWay
  at : slice_get es place ≡ Some equation
  among : Contains equation.summands summand
  one_of : Contains (tree_ways y l q (fields_for y l q (place + i) equation.params) us summand.next) way
  is : t ≡ tree_stacked y q (place + i) (fields_for y l q (place + i) equation.params) us summand way

within_flat : {A B : Type 0} (f : A → List B) (xs : List A) (b : B) → Contains (flat_map f xs) b → (x : A) × (Contains xs x × Contains (f x) b)
within_flat f [] b k = absurd (contains_none b k)
within_flat f (x ∷ xs) b k = ⊎_elim
    (λ j. (x, (contains_first x xs, j)))
    (λ j. let r = within_flat f xs b j in (r.0, (contains_later x r.0 xs r.1.0, r.1.1)))
    (Contains-append_cases (f x) (flat_map f xs) b k)

comes_from : (y : StackIds) (l : FrameLayout) (q : VarId) (us : List Tree) (i : ℕ) (es : List PlainEquation) (t : TreeSummand) → Contains (trees_stacked_from y l q i us es) t → ComesFrom y l q us i es t
comes_from y l q us i [] t k = absurd (contains_none t k)
comes_from y l q us i (e ∷ es) t k = ⊎_elim
    (λ j.
    let r = within_flat (summand_stacked y l q i (fields_for y l q i e.params) us) e.summands t j in
    let w = contains_map (tree_stacked y q i (fields_for y l q i e.params) us r.0) (tree_ways y l q (fields_for y l q i e.params) us r.0.next) t r.1.1 in
    let n : i ≡ 0 + i = omega arith in
    record {
      place = 0;
      equation = e;
      summand = r.0;
      way = w.0;
      at = refl;
      among = r.1.0;
      one_of = subst (λ m. Contains (tree_ways y l q (fields_for y l q m e.params) us r.0.next) w.0) n w.1.0;
      is = w.1.1 ∙ ap (λ m. tree_stacked y q m (fields_for y l q m e.params) us r.0 w.0) n;
    })
    (λ j.
    let r = comes_from y l q us (suc i) es t j in
    let n : r.place + suc i ≡ suc r.place + i = omega arith in
    record {
      place = suc r.place;
      equation = r.equation;
      summand = r.summand;
      way = r.way;
      at = r.at;
      among = r.among;
      one_of = subst (λ m. Contains (tree_ways y l q (fields_for y l q m r.equation.params) us r.summand.next) r.way) n r.one_of;
      is = r.is ∙ ap (λ m. tree_stacked y q m (fields_for y l q m r.equation.params) us r.summand r.way) n;
    })
    (Contains-append_cases (equation_stacked y l q i us e) (trees_stacked_from y l q (suc i) us es) t k)

-- ---- what the calls lead to
pub all_lead : (g : Sig) (ts : List Tree) (f : PlainForm) (places : List (List ℕ)) → length places ≡ length f.equations → (qs : List PlainEquation) → All (EquationFits g ts f) qs → All (EquationLeadsToPlaces places) qs
all_lead g ts f places long qs fits = All-weaker (EquationFits g ts f) (EquationLeadsToPlaces places) (λ q k. All-weaker (FormSummandFits g ts f) (SummandLeadsToPlaces places) (λ s m. All-weaker (CallFits g ts f) (LeadsToPlaces places) lead s.next m.next) q.summands k.summands) qs fits
  where
    lead : (c : ℕ × List TermId) → CallFits g ts f c → LeadsToPlaces places c
    lead c k =
        let l = slice_get_within f.equations (c.0 - 1) k.equation k.stands in
        let one = k.from_one in
        record { from_one = one; within = omega (arith, l, one, long) }

-- ---- lists side by side
zip_long : {A B : Type 0} (R : A → B → Type 0) (xs : List A) (zs : List B) → AllZip R xs zs → length zs ≡ length xs
zip_long R [] [] z = refl
zip_long R [] (z ∷ zs) k = absurd k
zip_long R (x ∷ xs) [] k = absurd k
zip_long R (x ∷ xs) (z ∷ zs) k = ap suc (zip_long R xs zs k.1)

pub as_many_places : (g : Sig) (kinds : List (NameId × SortId)) (qs : List PlainEquation) (places : List (List ℕ)) → AreNumberedPlaces g kinds qs places → length places ≡ length qs
as_many_places g kinds qs places z = zip_long (λ (q : PlainEquation) place. AreKindsAt g kinds q.params place) qs places z

-- ---- a form in a pool
module _ (g h : Sig) (ts us : List Tree) (stands : IsSignature h) (grown : IsGrown g h) (f : PlainForm) (kinds : List (NameId × SortId)) (places : List (List ℕ)) (old_fits : FormFits g ts f) (numbered : AreNumberedPlaces g kinds f.equations places) (fits : FormFits h us f) (ds : List Tree) where
  abbrev m : FrameLayout
  m = record { places = places; defaults = ds }

  its_kinds : (k : ℕ) (e : PlainEquation) → slice_get f.equations k ≡ Some e → AreKindsAt g kinds e.params (place_at m (k + 1))
  its_kinds k e at = subst (λ n. AreKindsAt g kinds e.params (get_or places n [])) (let n : k ≡ k + 1 - 1 = omega arith in n) (kinds_at g h us ts stands grown f kinds places [] old_fits numbered k e at)

  kinds_long : (params : List VarId) (place : List ℕ) → AreKindsAt g kinds params place → length place ≡ length params
  kinds_long params place z = zip_long (λ x i. slice_get kinds i ≡ Some (kind_of g x)) params place z

  call_in : (c : ℕ × List TermId) → CallFits h us f c → IsCallIn us m c
  call_in c k =
      let w = slice_get_within f.equations (c.0 - 1) k.equation k.stands in
      let one = k.from_one in
      let many = as_many_places g kinds f.equations places numbered in
      record {
        from_one = one;
        within = omega (arith, w, many, one);
        args = k.args.within;
        long =
            ap (λ n. length (get_or places n [])) (let n : c.0 - 1 ≡ c.0 - 1 + 1 - 1 = omega arith in n)
            ∙ kinds_long k.equation.params (place_at m (c.0 - 1 + 1)) (its_kinds (c.0 - 1) k.equation k.stands) ∙ sym (terms_long h us k.equation.params c.1 k.args);
      }

  summand_in : (s : PlainFormSummand) → FormSummandFits h us f s → IsFormSummandIn us m s
  summand_in s k = record {
    condition = k.condition.within;
    label = All-weaker (IsActionOf h us) (IsActionIn us) (λ a i. i.args.within) s.label k.label;
    next = All-weaker (CallFits h us f) (IsCallIn us m) call_in s.next k.next;
  }

  summands_in : (k : ℕ) (e : PlainEquation) → slice_get f.equations k ≡ Some e → All (IsFormSummandIn us m) e.summands
  summands_in k e at = All-weaker (FormSummandFits h us f) (IsFormSummandIn us m) summand_in e.summands (all_at (EquationFits h us f) f.equations k e fits.equations at).summands

  pub first_place_long : length (place_at m 1) ≡ length f.init
  first_place_long =
      ap (λ n. length (get_or places n [])) (let n : 1 - 1 ≡ 0 + 1 - 1 = omega arith in n) ∙ kinds_long fits.first.params (place_at m (0 + 1)) (its_kinds 0 fits.first fits.starts) ∙ sym (terms_long h us fits.first.params f.init fits.init)

-- ---- over a signature and a pool that have the sort and the columns
module _ (g h : Sig) (p q : PoolContents) (us : List Tree) (stood : IsSignature g) (stands : IsSignature h) (f : PlainForm) (y : StackIds) (v : VarId) (places : List (List ℕ)) (defaults : List TermId) (laid : HasItsStack g p f h q y v places defaults) (old_fits : FormFits g p.trees f)
    (few : length f.equations < 340282366920938463463374607431768211456) (later : Extends q.trees us) where
  abbrev kinds : List (NameId × SortId)
  kinds = column_kinds g f

  abbrev l : FrameLayout
  l = layout_over us places defaults

  abbrev E : Entries
  E = entries_of h us

  to_declared : IsGrown g laid.declared
  to_declared = declared_grown g kinds laid.declared y v stood laid.sort

  stood_defaults : BothGrow laid.declared h p.trees q.trees × AllZip (λ (k : NameId × SortId) t. ClosedOf h q.trees k.1 t) kinds defaults
  stood_defaults = defaults_stand g laid.declared h p q f kinds places defaults to_declared old_fits laid.numbered laid.values

  pub stack_grown : IsGrown g h
  stack_grown = growth_after_growth_is_growth g laid.declared h to_declared stood_defaults.0.signature

  has : HasStack h kinds y v
  has = has_stack g kinds laid.declared y v stood laid.sort h stands stood_defaults.0.signature

  pub kept : Extends p.trees us
  kept = extends_on p.trees q.trees us stood_defaults.0.pool later

  pub fits : FormFits h us f
  fits = form_fits_still g h p.trees us f stood.table stood.complete stands.table (record { signature = stack_grown; pool = kept }) old_fits

  first_fits : FormFits h p.trees f
  first_fits = form_fits_still g h p.trees p.trees f stood.table stood.complete stands.table (record { signature = stack_grown; pool = extends_itself p.trees }) old_fits

  own_defaults : AllZip (λ (k : NameId × SortId) t. ClosedOf h us k.1 t) kinds defaults
  own_defaults =
      zip_turn (λ (k : NameId × SortId) t. ClosedOf h q.trees k.1 t) (λ (k : NameId × SortId) t. ClosedOf h us k.1 t) (λ k t c. closed_on h h q.trees us k.1 t (record { signature = grown_itself h; pool = later }) c) kinds defaults stood_defaults.1

  listed_defaults : AreTermsOf h us (column_sorts kinds) defaults
  listed_defaults = (closed_lists h us kinds defaults own_defaults).0

  pub defaults_in : AreIn us defaults
  defaults_in = listed_defaults.within

  many_places : length places ≡ length f.equations
  many_places = as_many_places g kinds f.equations places laid.numbered

  as_many_defaults : length (trees_at us defaults) ≡ length kinds
  as_many_defaults = length-map defaults (tree_at us) ∙ zip_long (λ (k : NameId × SortId) t. ClosedOf h us k.1 t) kinds defaults own_defaults

  as_many_fields : length y.fields ≡ length kinds
  as_many_fields = has.stands.long ∙ length-map kinds (λ (k : NameId × SortId). k.1)

  equation_fits : (k : ℕ) (e : PlainEquation) → slice_get f.equations k ≡ Some e → EquationFits h us f e
  equation_fits k e at = all_at (EquationFits h us f) f.equations k e fits.equations at

  own_kinds : (k : ℕ) (e : PlainEquation) → slice_get f.equations k ≡ Some e → AreKindsAt g kinds e.params (place_at l (k + 1))
  own_kinds = its_kinds g h p.trees us stands stack_grown f kinds places old_fits laid.numbered fits l.defaults

  few_at : (k : ℕ) (e : PlainEquation) → slice_get f.equations k ≡ Some e → k + 1 < 340282366920938463463374607431768211456
  few_at k e at = let w = slice_get_within f.equations k e at in omega (arith, w, few)

  kept_sorts : (k : ℕ) (e : PlainEquation) → slice_get f.equations k ≡ Some e → map (sort_of_variable h) e.params ≡ map (sort_of_variable g) e.params
  kept_sorts k e at = sorts_kept g h e.params stack_grown (all_at (EquationFits g p.trees f) f.equations k e old_fits.equations at).params

  own_summands : (k : ℕ) (e : PlainEquation) → slice_get f.equations k ≡ Some e → All (IsFormSummandIn us l) e.summands
  own_summands = summands_in g h p.trees us stands stack_grown f kinds places old_fits laid.numbered fits l.defaults

  -- ---- what the code asks
  columns_there : (k : ℕ) (e : PlainEquation) → slice_get f.equations k ≡ Some e → (x : ℕ) → Contains (place_at l (k + 1)) x → x < length kinds
  columns_there k e at x i = let r = behind_place g kinds e.params (place_at l (k + 1)) (own_kinds k e at) x i in slice_get_within kinds x (kind_of g r.0) r.2

  pub equations_for : AreEquationsFor us (length y.fields) l f.equations
  equations_for k e at =
      let w = slice_get_within f.equations k e at in
      record {
        place = omega (arith, w, many_places);
        long = kinds_long g h p.trees us stands stack_grown f kinds places old_fits laid.numbered fits l.defaults e.params (place_at l (k + 1)) (own_kinds k e at);
        columns_there = all_from (λ x. x < length y.fields) (place_at l (k + 1)) (λ x i. subst (λ n. x < n) (sym as_many_fields) (columns_there k e at x i));
        summands = own_summands k e at;
      }

  pub first_long : length (place_at l 1) ≡ length f.init
  first_long = first_place_long g h p.trees us stands stack_grown f kinds places old_fits laid.numbered fits l.defaults

  pub some_place : 1 ≤ length places
  some_place = let w = slice_get_within f.equations 0 fits.first fits.starts in omega (arith, w, many_places)

  pub init_in : AreIn us f.init
  init_in = fits.init.within

  pub trees_from_first : (k : FrameLayout) → k ≡ l → trees_stacked_from y k v 1 us f.equations ≡ trees_stacked_from y l v 1 p.trees f.equations
  trees_from_first k e = trees_along y l k v p.trees us 1 f.equations e kept (summands_in g h p.trees p.trees stands stack_grown f kinds places old_fits laid.numbered first_fits l.defaults)

  pub init_along : trees_at us f.init ≡ trees_at p.trees f.init
  init_along = trees_kept p.trees us f.init kept old_fits.init.within

  -- ---- sorts of trees
  parameter_sorted : HasTreeSort h (variable v) y.sort
  parameter_sorted = subst (λ s. HasTreeSort h (variable v) s) has.sort (is_of h v has.variable)

  sorted_frame : (c : ℕ) (e : PlainEquation) → 1 ≤ c → slice_get f.equations (c - 1) ≡ Some e → (args : List Tree) → HaveTreeSorts h (trees_of args) (map (sort_of_variable h) e.params) → (below : Tree) → HasTreeSort h below y.sort → HasTreeSort h (frame_tree y l c args below) y.sort
  sorted_frame c e one at args sorted below b =
      let n : c - 1 + 1 ≡ c = omega (arith, one) in
      let beside = beside_places g h kinds e.params (place_at l (c - 1 + 1)) args (own_kinds (c - 1) e at) (kept_sorts (c - 1) e at) sorted in
      frame_sorted h stands y (column_sorts kinds) has.stands l c args below one (subst (λ m. m < 340282366920938463463374607431768211456) n (few_at (c - 1) e at))
      (subst (λ m. HaveTreeSorts h (trees_of (column_trees (place_at l m) args 0 l.defaults)) (column_sorts kinds)) n
      (columns_sorted h kinds (place_at l (c - 1 + 1)) args beside 0 l.defaults (column_sorts kinds) listed_defaults.sorted (sorts_of_kinds kinds))) b

  pub first_tree_sorted : HasTreeSort h (first_tree y l (trees_at us f.init)) y.sort
  first_tree_sorted = sorted_frame 1 fits.first (omega arith) fits.starts (trees_at us f.init) fits.init.sorted (function y.empty none) (empty_sorted h stands y (column_sorts kinds) has.stands)

  module _ (k : ℕ) (e : PlainEquation) (at : slice_get f.equations k ≡ Some e) where
    abbrev moves : VarId → Tree
    moves = fields_for y l v (k + 1) e.params

    keeps : (t : Tree) (s : SortId) → HasTreeSort h t s → HasTreeSort h (put_tree moves t) s
    keeps = keeps_put h (first_functions h stands.complete) moves
        (bound_sorted h e.params (map (field_tree y v) (place_at l (k + 1))) (equation_fits k e at).params
        (subst (λ ss. HaveTreeSorts h (trees_of (map (field_tree y v) (place_at l (k + 1)))) ss) (sym (kept_sorts k e at)) (fields_sorted g h stands kinds y has.stands v parameter_sorted e.params (place_at l (k + 1)) (own_kinds k e at))))

    frames_sorted : (cs : List (ℕ × List TermId)) (below : Tree) → All (CallFits h us f) cs → HasTreeSort h below y.sort → HasTreeSort h (pushed_trees y l moves us cs below) y.sort
    frames_sorted [] below w b = b
    frames_sorted (c ∷ cs) below w b =
        let own = All-head (CallFits h us f) c cs w in
        sorted_frame c.0 own.equation own.from_one own.stands (map (put_tree moves) (trees_at us c.1)) (trees_keep h us moves keeps (trees_at us c.1) (map (sort_of_variable h) own.equation.params) own.args.sorted)
        (pushed_trees y l moves us cs below) (frames_sorted cs below (All-tail (CallFits h us f) c cs w) b)

    -- the ways of a summand
    record WayFits (w : TreeWay) : Type 0 where
      further : AllByRecursion (λ t. HasTreeSort h t bool_sort) w.further
      next : IfSome w.next (λ us. HaveTreeSorts h (trees_of us) (y.sort ∷ []))

    rest_is : HasTreeSort h (rest_tree y v) y.sort
    rest_is = rest_sorted h stands y (column_sorts kinds) has.stands v parameter_sorted

    way_fits : (cs : List (ℕ × List TermId)) → All (CallFits h us f) cs → (w : TreeWay) → Contains (tree_ways y l v moves us cs) w → WayFits w
    way_fits [] k w i = ⊎_elim
        (λ e. subst WayFits e (record { further = (more_sorted h stands y (column_sorts kinds) has.stands v parameter_sorted, tt); next = (rest_is, tt) }))
        (λ j. ⊎_elim
        (λ e. subst WayFits e (record { further = (last_sorted h stands y (column_sorts kinds) has.stands v parameter_sorted, tt); next = tt }))
        (λ m. absurd (contains_none w m)) (contains_cases (tree_way_out y v) w [] j)) (contains_cases (tree_way_down y v) w (tree_way_out y v ∷ []) i)
    way_fits (c ∷ cs) k w i = ⊎_elim
        (λ e. subst WayFits e (record { further = tt; next = (frames_sorted (c ∷ cs) (rest_tree y v) k rest_is, tt) }))
        (λ m. absurd (contains_none w m)) (contains_cases (tree_way_up y l v moves us (c ∷ cs)) w [] i)

    next_fits : (w : TreeWay) (next : Option (List TermId)) → WayFits w → option_map (trees_at us) next ≡ w.next → IfSome next (AreIn us) → IfSome next (AreTermsOf h us (y.sort ∷ []))
    next_fits w None k e i = tt
    next_fits w (Some ids) k e i = record { within = i; sorted = subst (λ o. IfSome o (λ us. HaveTreeSorts h (trees_of us) (y.sort ∷ []))) (sym e) k.next }

    summand_fits : (s : PlainFormSummand) (w : TreeWay) (m : PlainSummand) → FormSummandFits h us f s → Contains (tree_ways y l v moves us s.next) w → trees_of_summand us m ≡ tree_stacked y v (k + 1) moves us s w → IsSummandIn us m → SummandFits h us (v ∷ []) m
    summand_fits s w m own i e' within = record {
      sums = subst (λ xs. All (IsVariable h) xs) (sym (ap (λ (z : TreeSummand). z.sums) e')) own.sums;
      condition = record {
        within = within.condition;
        sorted = subst (λ z. HasTreeSort h z bool_sort) (sym (ap (λ (z : TreeSummand). z.condition) e'))
            (condition_sorted h stands y (column_sorts kinds) has.stands v parameter_sorted (k + 1) (omega arith) (few_at k e at) (put_tree moves (tree_at us s.condition)) (keeps (tree_at us s.condition) bool_sort own.condition.sorted) w.further (way_fits s.next own.next w i).further);
      };
      label = label_fits h us moves keeps s.label m.label (ap (λ (z : TreeSummand). z.label) e') own.label within.label;
      next = subst (λ ss. IfSome m.next (AreTermsOf h us ss)) (ap (λ s. s ∷ []) (sym has.sort)) (next_fits w m.next (way_fits s.next own.next w i) (ap (λ (z : TreeSummand). z.next) e') within.next);
    }

  -- ---- what it means
  abbrev K : StackSymbols
  K = symbols_meant h y

  abbrev c : Columns
  c = stack_columns h us kinds places defaults

  symbols : MeansSymbols h y K
  symbols = standing_functions h y (column_sorts kinds) stands.table stands.roles has.stands

  frames : MeansFrames h l c
  frames = record { columns = numbers_are h 0 kinds l.defaults as_many_defaults; places = refl; defaults = terms_are h us defaults listed_defaults.within; distinct = columns_differ h 0 kinds }

  module _ (k : ℕ) (e : PlainEquation) (at : slice_get f.equations k ≡ Some e) where
    shown : All (λ x. suc x ≤ length l.defaults) (place_at l (k + 1))
    shown = all_from (λ x. suc x ≤ length l.defaults) (place_at l (k + 1)) (λ x i. let b = columns_there k e at x i in let d = as_many_defaults in omega (arith, b, d))

    one_means : (s : PlainFormSummand) → FormSummandFits h us f s → map (meant_summand h) (summand_stacked y l v (k + 1) (moves k e at) us s)
        ≡ map (stack_summand K c v.0 k (equation_of E e) (form_summand_of E s)) (ways K c v.0 (to_fields K c v.0 k (equation_of E e)) (form_summand_of E s).next)
    one_means s own =
        stacked_trees_mean h y K l c v (k + 1) e.params (equation_of E e) us s stands.table stands.complete symbols frames (omega arith) (as_many_fields ∙ sym as_many_defaults) (numbers_meant h us e.params)
        (summand_in g h p.trees us stands stack_grown f kinds places old_fits laid.numbered fits l.defaults s own) shown
        (sorted_trees_are_within h stands.table (put_tree (moves k e at) (tree_at us s.condition)) bool_sort (keeps k e at (tree_at us s.condition) bool_sort own.condition.sorted))
        ∙ ap (λ n. map (stack_summand K c v.0 n (equation_of E e) (form_summand_of E s)) (ways K c v.0 (to_fields K c v.0 n (equation_of E e)) (form_summand_of E s).next)) (let n : k + 1 - 1 ≡ k = omega arith in n)

    each_means : (ss : List PlainFormSummand) → All (FormSummandFits h us f) ss → map (meant_summand h) (flat_map (summand_stacked y l v (k + 1) (moves k e at) us) ss) ≡ equation_summands K c v.0 k (equation_of E e) (map (form_summand_of E) ss)
    each_means [] w = refl
    each_means (s ∷ ss) w =
        map-append (meant_summand h) (summand_stacked y l v (k + 1) (moves k e at) us s) (flat_map (summand_stacked y l v (k + 1) (moves k e at) us) ss)
        ∙ ap₂ (λ a b. a ++ b) (one_means s (All-head (FormSummandFits h us f) s ss w)) (each_means ss (All-tail (FormSummandFits h us f) s ss w))

  equations_mean : (i : ℕ) (es : List PlainEquation) → ((n : ℕ) (e : PlainEquation) → slice_get es n ≡ Some e → slice_get f.equations (n + i) ≡ Some e) → map (meant_summand h) (trees_stacked_from y l v (suc i) us es) ≡ stack_from K c v.0 i (map (equation_of E) es)
  equations_mean i [] at = refl
  equations_mean i (e ∷ es) at =
      let own : slice_get f.equations i ≡ Some e = subst (λ n. slice_get f.equations n ≡ Some e) (let n : 0 + i ≡ i = omega arith in n) (at 0 e refl) in
      map-append (meant_summand h) (equation_stacked y l v (suc i) us e) (trees_stacked_from y l v (suc (suc i)) us es)
      ∙ ap₂ (λ a b. a ++ b)
      (ap (λ n. map (meant_summand h) (equation_stacked y l v n us e)) (let n : suc i ≡ i + 1 = omega arith in n) ∙ each_means i e own e.summands (equation_fits i e own).summands)
      (equations_mean (suc i) es (λ n z q. subst (λ m. slice_get f.equations m ≡ Some z) (let m : suc n + i ≡ n + suc i = omega arith in m) (at (suc n) z q)))

  sort_meant_is : (bound_at E v).sort ≡ stack_sort K
  sort_meant_is = sort_meant h stands.table stands.complete v has.variable ∙ ap (sort_under h) has.sort ∙ sort_is h y (column_sorts kinds) stands.table stands.roles has.stands

  pub params_mean : map (bound_at E) (v ∷ []) ≡ stack_params K v.0
  params_mean = ap (λ s. record { var = v.0; sort = s } ∷ []) sort_meant_is

  first_means : term_under h (first_tree y l (trees_at us f.init)) ≡ first_stack K c (map (term_at E) f.init)
  first_means =
      frame_means h stands.table stands.complete y K l c symbols frames 1 (trees_at us f.init) (function y.empty none) (omega arith) some_place
      ∙ ap₂ (λ ts b. application (named_function K.names.push) (terms_of (number_of 0 ∷ (columns_of c (slice_get c.places 0) ts ++ b ∷ [])))) (sym (terms_are h us f.init fits.init.within)) (ap (λ s. application s (terms_of [])) symbols.empty)

  pub stack_fits : StackFits (data_meant h) K c v.0 (form_of E f)
  stack_fits = record {
    is_data = meant_data_are_data h stands.table stands.roles;
    stack = standing_stack h y (column_sorts kinds) c.columns stands.table stands.roles has.stands (sorts_are_meant h 0 kinds);
    layout = stack_layout g h us p.trees stands stack_grown f kinds places defaults old_fits laid.numbered v (new_variable g kinds laid.declared y v stood laid.sort) few;
    defaults = subst (λ ss. HaveSorts (data_meant h) [] (terms_of c.defaults) ss) (sym (sorts_are_meant h 0 kinds))
        (closed_lists_need_no_variables (data_meant h) (variable_sorts h) (terms_of c.defaults) (map (sort_under h) (column_sorts kinds)) (args_closed h us defaults listed_defaults.within (closed_lists h us kinds defaults own_defaults).1)
        (terms_sorted h us (column_sorts kinds) defaults stands.table listed_defaults));
  }

  pub declares : Declares (variable_sorts h) v.0 (stack_sort K)
  declares = subst (λ s. Declares (variable_sorts h) v.0 s) sort_meant_is (variables_declared h us (v ∷ []) (All-cons (IsVariable h) v [] has.variable (All-nil (IsVariable h))) (bound_at E v) (contains_first (bound_at E v) []))

  first_at : slice_get (form_of E f) 0 ≡ Some (equation_of E fits.first)
  first_at = slice_get-map (equation_of E) f.equations 0 ∙ ap (option_map (equation_of E)) fits.starts

  -- ---- the whole answer
  module _ (made : PlainLinear) (params : made.params ≡ v ∷ []) (made_in : AreIn us made.init) (init : trees_at us made.init ≡ first_tree y l (trees_at us f.init) ∷ []) (within : All (IsSummandIn us) made.summands)
      (trees : map (trees_of_summand us) made.summands ≡ trees_stacked_from y l v 1 us f.equations) where
    from : (m : PlainSummand) → Contains made.summands m → ComesFrom y l v us 1 f.equations (trees_of_summand us m)
    from m i = comes_from y l v us 1 f.equations (trees_of_summand us m) (subst (λ z. Contains z (trees_of_summand us m)) trees (map_contains (trees_of_summand us) made.summands m i))

    own_fits : (m : PlainSummand) (i : Contains made.summands m) → FormSummandFits h us f (from m i).summand
    own_fits m i = let r = from m i in All-contains (FormSummandFits h us f) r.equation.summands r.summand (equation_fits r.place r.equation r.at).summands r.among

    all_fit : All (SummandFits h us (v ∷ [])) made.summands
    all_fit = all_from (SummandFits h us (v ∷ [])) made.summands
        (λ m i. let r = from m i in summand_fits r.place r.equation r.at r.summand r.way m (own_fits m i) r.one_of r.is (All-contains (IsSummandIn us) made.summands m within i))

    all_taken : All (λ (m : PlainSummand). All (HasTakenName h) m.sums) made.summands
    all_taken = all_from (λ (m : PlainSummand). All (HasTakenName h) m.sums) made.summands (λ m i. subst (λ xs. All (HasTakenName h) xs) (sym (ap (λ (z : TreeSummand). z.sums) (from m i).is)) (own_fits m i).taken)

    pub linear : linear_of E made ≡ stacked K c v.0 (form_of E f)
    linear = ap₂ (λ xs ss. record { params = xs; summands = ss }) (ap (map (bound_at E)) params ∙ params_mean)
        (summands_read h us made.summands within ∙ ap (map (meant_summand h)) trees
        ∙ equations_mean 0 f.equations (λ n e at. subst (λ m. slice_get f.equations m ≡ Some e) (let m : n ≡ n + 0 = omega arith in m) at))

    pub initial : initial_of E made ≡ first_stack K c (map (term_at E) f.init) ∷ []
    initial = terms_are h us made.init made_in ∙ ap (map (term_under h)) init ∙ ap (λ t. t ∷ []) first_means

    closed : HaveSorts (data_meant h) [] (terms_of (first_stack K c (map (term_at E) f.init) ∷ [])) (stack_sort K ∷ [])
    closed = (first_sorted (data_meant h) K c v.0 (form_of E f) (equation_of E fits.first) (map (term_at E) f.init) stack_fits first_at fits.closed, tt)

    pub it_fits : Fits h us made
    it_fits = record {
      params = subst (λ xs. All (IsVariable h) xs) (sym params) (All-cons (IsVariable h) v [] has.variable (All-nil (IsVariable h)));
      init = record {
        within = made_in;
        sorted = subst (λ xs. HaveTreeSorts h (trees_of (trees_at us made.init)) (map (sort_of_variable h) xs)) (sym params)
            (subst (λ z. HaveTreeSorts h (trees_of z) (sort_of_variable h v ∷ [])) (sym init) (subst (λ s. HasTreeSort h (first_tree y l (trees_at us f.init)) s) (sym has.sort) first_tree_sorted, tt));
      };
      closed = subst (λ (z : Linear). HaveSorts (data_meant h) [] (terms_of (initial_of E made)) (sorts z.params)) (sym linear)
          (subst (λ z. HaveSorts (data_meant h) [] (terms_of z) (stack_sort K ∷ [])) (sym initial) closed);
      summands = subst (λ xs. All (SummandFits h us xs) made.summands) (sym params) all_fit;
      linear = subst IsLinear (sym linear) (stacked_linear (data_meant h) K c v.0 (form_of E f) fits.form stack_fits);
      taken = subst (λ xs. All (HasTakenName h) xs) (sym params) (All-cons (HasTakenName h) v [] has.taken (All-nil (HasTakenName h)));
      sums_taken = all_taken;
    }

    pub it_is_good : StackingIsGood h us f made
    it_is_good = (
      K.names,
      c,
      subst (λ L. IsGoodOver h (Stack (form_table (form_of E f)) K.names c L) (call (form_table (form_of E f)) 0 (map (term_at E) f.init)) (state_of L (initial_of E made))) (sym linear)
          (subst (λ is. IsGoodOver h (Stack (form_table (form_of E f)) K.names c (stacked K c v.0 (form_of E f))) (call (form_table (form_of E f)) 0 (map (term_at E) f.init)) (state_of (stacked K c v.0 (form_of E f)) is)) (sym initial)
          (good_over h (variable_sorts h) K c v.0 (form_of E f) (equation_of E fits.first) (map (term_at E) f.init) fits.form (forms_are_sorted h us f stands.table stands.complete fits) stack_fits declares first_at fits.closed)),
    )
