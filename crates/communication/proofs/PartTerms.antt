-- The terms of equalities and of conditions, as a pool grows.
use Rattle.std.proofs.Common.{◌≡◌, ◌<◌, ◌+◌, ℕ, true, false, List, [], ◌∷◌, ◌++◌, map, take, length, get_or, refl, sym, ap, ap₂, ◌∙◌, subst, cond, Some, if◌then◌else◌, ⊎_elim}
use Rattle.std.specs.Prelude.{Vec, Result, Ok, Err, IfOk}
use Rattle.std.specs.Global.{Global}
use Rattle.std.specs.List.{All, AllZip}
use Rattle.std.proofs.lemmas.List.{map-append, append_assoc, take_more}
use Rattle.std.proofs.lemmas.List.Elements.{All-nil, All-cons, All-head, All-tail, All-get_or, All-weaker}
use Rattle.std.proofs.lemmas.Slice.Zip.{all_zipped_more}
use Rattle.std.proofs.lemmas.Bool.Decides.{eqb_tells}
use Rattle.bisim_laws.proofs.Firing.{contains_first}
use Rattle.data_theory.specs.declared.ids.FunId.{FunId}
use Rattle.data_theory.specs.declared.ids.SortId.{SortId}
use Rattle.data_theory.specs.declared.ids.TermId.{TermId}
use Rattle.data_theory.specs.declared.words.Word.TheVariants as words
use Rattle.data_theory.specs.declared.rows.Row.TheVariants as rows
use Rattle.data_theory.specs.Table.{bool_sort, sort_rows}
use Rattle.data_theory.specs.Terms.{Term, equality, application, none as no_terms, more as and_more}
use Rattle.data_theory.specs.Equations.{ !ᵗ◌}
use Rattle.data_theory.specs.Functions.{Function, arguments_of}
use Rattle.data_theory.specs.Rows.{row_text, built_in}
use Rattle.data_theory.specs.Signature.{Sig, IsFun}
use Rattle.data_theory.specs.SignatureLaws.{RowStands}
use Rattle.data_theory.specs.WholeSignatures.{IsSignature}
use Rattle.data_theory.specs.IdTrees.{Tree, variable, numeral, function, none, more, apply_tree}
use Rattle.data_theory.specs.IdTreeSorts.{HasTreeSort, HaveTreeSorts}
use Rattle.data_theory.specs.IdTerms.{sort_under, term_under}
use Rattle.data_theory.proofs.IdTermLemmas.{sorted_trees_are_within}
use Rattle.data_theory.proofs.StandingLemmas.{functions_over_sorts_stand, signatures_have_truth_functions}
use Rattle.term_pool.specs.HeadTrees.{tree_at, trees_at, IsIn, AreIn}
use Rattle.term_pool.specs.Pools.{Extends}
use Rattle.process_terms.specs.Communication.{conjunction_of}
use Rattle.bisim_laws.specs.LinearProcesses.{is_true}
use Rattle.action_filters.proofs.Loops.{mapped_item}
use Rattle.lps_core.specs.Conditions.{parts, without_true}
use Rattle.lps_core.specs.Fitting.{IsTermOf}
use Rattle.lps_core.specs.TreeConditions.{true_function, and_function, tree_parts, is_true_tree, trees_without_true, conjunction_tree}
use Rattle.lps_core.proofs.PoolTrees.{tree_kept}
use Rattle.lps_core.proofs.TreeParts.{two_unmerged}
use Rattle.lps_core.proofs.MeantParts.{chains_mean_chains, parts_mean_parts}
use Rattle.communication.specs.declared.plans.Equality.{Equality}
use Rattle.communication.specs.PlanMeanings.{equality_of, against, planned_condition, EqualityFits, AreFitting, IsPart}
use Rattle.communication.specs.Plans.{PlainPlan, equalities_of_each}

-- ---- as a pool grows
module _ (g : Sig) (ts us : List Tree) (e : Extends ts us) where
  pub term_fits_on : (s : SortId) (id : TermId) → IsTermOf g ts s id → IsTermOf g us s id
  term_fits_on s id h = let k = tree_kept ts us id e h.within in record { within = k.1; sorted = subst (λ t. HasTreeSort g t s) (sym k.0) h.sorted }

  pub part_kept : (id : TermId) (c : Term) → IsPart g ts id c → IsPart g us id c
  part_kept id c h = record { fits = term_fits_on bool_sort id h.fits; means = ap (term_under g) (tree_kept ts us id e h.fits.within).0 ∙ h.means }

  pub parts_kept : (ids : List TermId) (cs : List Term) → AllZip (IsPart g ts) ids cs → AllZip (IsPart g us) ids cs
  parts_kept [] [] h = tt
  parts_kept [] (c ∷ cs) h = absurd h
  parts_kept (id ∷ ids) [] h = absurd h
  parts_kept (id ∷ ids) (c ∷ cs) h = (part_kept id c h.0, parts_kept ids cs h.1)

  pub equality_fits_on : (q : Equality) → EqualityFits g ts q → EqualityFits g us q
  equality_fits_on q h = record { sort = h.sort; left = term_fits_on q.sort q.left h.left; right = term_fits_on q.sort q.right h.right }

  pub equality_kept : (q : Equality) → EqualityFits g ts q → equality_of g us q ≡ equality_of g ts q
  equality_kept q h = ap₂ (λ t u. application (equality (sort_under g q.sort)) (and_more (term_under g t) (and_more (term_under g u) no_terms))) (tree_kept ts us q.left e h.left.within).0 (tree_kept ts us q.right e h.right.within).0

  pub all_fit_on : (qs : List Equality) → AreFitting g ts qs → AreFitting g us qs
  all_fit_on qs h = All-weaker (EqualityFits g ts) (EqualityFits g us) equality_fits_on qs h

  pub equalities_kept : (qs : List Equality) → AreFitting g ts qs → map (equality_of g us) qs ≡ map (equality_of g ts) qs
  equalities_kept [] h = refl
  equalities_kept (q ∷ qs) h = ap₂ (λ x xs. x ∷ xs) (equality_kept q (All-head (EqualityFits g ts) q qs h)) (equalities_kept qs (All-tail (EqualityFits g ts) q qs h))

  pub against_kept : (qs : List Equality) → AreFitting g ts qs → against g us qs ≡ against g ts qs
  against_kept qs h = ap (λ cs. !ᵗ (conjunction_of cs)) (equalities_kept qs h)

-- ---- single terms
module _ (g : Sig) (stands : IsSignature g) where
  -- `==` stands over each sort
  pub equal_stands : (s : SortId) → s.0 < length g.sorts → RowStands g (rows.Two words.Equal s s bool_sort)
  unfolding sort_rows
  equal_stands s h = functions_over_sorts_stand g stands s h (rows.Two words.Equal s s bool_sort) (contains_first (rows.Two words.Equal s s bool_sort) (rows.Two words.Different s s bool_sort ∷ rows.Three words.If bool_sort s s s ∷ []))

  same_number : (f : FunId) (k : ℕ) → f.0 ≡ k → f ≡ record { 0 = k }
  same_number f k e = ap (λ i. record { 0 = i }) e

  pub equality_is : (ts us : List Tree) (q : Equality) (f : FunId) (id : TermId) → EqualityFits g ts q → IsFun g (row_text (rows.Two words.Equal q.sort q.sort bool_sort)) (q.sort ∷ q.sort ∷ []) f.0
      → IsIn us id → tree_at us id ≡ apply_tree f (more (tree_at ts q.left) (more (tree_at ts q.right) none)) → IsPart g us id (equality_of g ts q)
  equality_is ts us q f id h is i e =
      let r = equal_stands q.sort h.sort in
      let n = same_number f r.0 (r.1.alone f.0 is) in
      let t = e ∙ two_unmerged f (tree_at ts q.left) (tree_at ts q.right) ∙ ap (λ z. function z (more (tree_at ts q.left) (more (tree_at ts q.right) none))) n in
      record {
        fits = record {
          within = i;
          sorted = subst (λ z. HasTreeSort g z bool_sort) (sym t)
              (built_in g.texts (rows.Two words.Equal q.sort q.sort bool_sort), r.1.stands, refl, (h.left.sorted, (h.right.sorted, tt)), two_unmerged (record { 0 = r.0 }) (tree_at ts q.left) (tree_at ts q.right));
        };
        means = ap (term_under g) t ∙ ap (λ y. application y (and_more (term_under g (tree_at ts q.left)) (and_more (term_under g (tree_at ts q.right)) no_terms))) r.1.means;
      }

  abbrev not_function : FunId
  not_function = record { 0 = 8 }

  not_unmerged : (t : Tree) → apply_tree not_function (more t none) ≡ function not_function (more t none)
  not_unmerged (variable v) = refl
  not_unmerged (numeral s z) = refl
  not_unmerged (function f ts) = refl

  pub negation_is : (ts us : List Tree) (all id : TermId) (c : Term) → IsPart g ts all c → IsIn us id → tree_at us id ≡ apply_tree not_function (more (tree_at ts all) none) → IsPart g us id (!ᵗ c)
  negation_is ts us all id c h i e =
      let k = signatures_have_truth_functions g stands in
      let t = e ∙ not_unmerged (tree_at ts all) in
      record {
        fits = record {
          within = i;
          sorted = subst (λ z. HasTreeSort g z bool_sort) (sym t) (built_in g.texts (rows.One words.Not bool_sort bool_sort), k.not_stands.stands, refl, (h.fits.sorted, tt), not_unmerged (tree_at ts all));
        };
        means = ap (term_under g) t ∙ ap₂ (λ y x. application y (and_more x no_terms)) k.not_means h.means;
      }

  -- ---- chains
  true_sorted : HasTreeSort g (function true_function none) bool_sort
  true_sorted = let k = signatures_have_truth_functions g stands in (built_in g.texts (rows.Constant words.True bool_sort), k.true_stands.stands, refl, tt, refl)

  both_sorted : (t u : Tree) → HasTreeSort g t bool_sort → HasTreeSort g u bool_sort → HasTreeSort g (function and_function (more t (more u none))) bool_sort
  both_sorted t u h i =
      let k = signatures_have_truth_functions g stands in
      (built_in g.texts (rows.Two words.And bool_sort bool_sort bool_sort), k.and_stands.stands, refl, (h, (i, tt)), two_unmerged and_function t u)

  abbrev AreSorted : List Tree → Type 0
  AreSorted ts = All (λ t. HasTreeSort g t bool_sort) ts

  chain_sorted : (ts : List Tree) → AreSorted ts → HasTreeSort g (conjunction_tree ts) bool_sort
  chain_sorted [] h = true_sorted
  chain_sorted (t ∷ []) h = All-head (λ z. HasTreeSort g z bool_sort) t [] h
  chain_sorted (t ∷ u ∷ ts) h = both_sorted t (conjunction_tree (u ∷ ts)) (All-head (λ z. HasTreeSort g z bool_sort) t (u ∷ ts) h) (chain_sorted (u ∷ ts) (All-tail (λ z. HasTreeSort g z bool_sort) t (u ∷ ts) h))

  parts_sorted_of : (ts : List Tree) (ids : List TermId) (cs : List Term) → AllZip (IsPart g ts) ids cs → AreSorted (trees_at ts ids) × (map (term_under g) (trees_at ts ids) ≡ cs)
  parts_sorted_of ts [] [] h = (All-nil (λ z. HasTreeSort g z bool_sort), refl)
  parts_sorted_of ts [] (c ∷ cs) h = absurd h
  parts_sorted_of ts (id ∷ ids) [] h = absurd h
  parts_sorted_of ts (id ∷ ids) (c ∷ cs) h = let r = parts_sorted_of ts ids cs h.1 in (All-cons (λ z. HasTreeSort g z bool_sort) (tree_at ts id) (trees_at ts ids) h.0.fits.sorted r.0, ap₂ (λ x xs. x ∷ xs) h.0.means r.1)

  pub chain_is : (ts us : List Tree) (ids : List TermId) (cs : List Term) (id : TermId) → AllZip (IsPart g ts) ids cs → IsIn us id → tree_at us id ≡ conjunction_tree (trees_at ts ids) → IsPart g us id (conjunction_of cs)
  chain_is ts us ids cs id h i e =
      let r = parts_sorted_of ts ids cs h in
      record {
        fits = record { within = i; sorted = subst (λ z. HasTreeSort g z bool_sort) (sym e) (chain_sorted (trees_at ts ids) r.0) };
        means = ap (term_under g) e ∙ chains_mean_chains g stands.table stands.complete (trees_at ts ids) ∙ ap conjunction_of r.1;
      }

  -- ---- the parts of a condition
  and_sides : (t u : Tree) → HasTreeSort g (function and_function (more t (more u none))) bool_sort → HasTreeSort g t bool_sort × HasTreeSort g u bool_sort
  and_sides t u h =
      let k = signatures_have_truth_functions g stands in
      let e : h.0 ≡ built_in g.texts (rows.Two words.And bool_sort bool_sort bool_sort) = some_same (sym h.1 ∙ k.and_stands.stands) in
      let s = subst (λ (z : Function). HaveTreeSorts g (more t (more u none)) (arguments_of z)) e h.3 in
      (s.0, s.1.0)
    where
      some_same : {x y : Function} → Some x ≡ Some y → x ≡ y
      some_same q = cc

  one_sorted : (t : Tree) → HasTreeSort g t bool_sort → AreSorted (t ∷ [])
  one_sorted t h = All-cons (λ z. HasTreeSort g z bool_sort) t [] h (All-nil (λ z. HasTreeSort g z bool_sort))

  tree_parts_sorted : (t : Tree) → HasTreeSort g t bool_sort → AreSorted (tree_parts t)
  tree_parts_sorted (variable v) h = one_sorted (variable v) h
  tree_parts_sorted (numeral s z) h = one_sorted (numeral s z) h
  tree_parts_sorted (function f none) h = one_sorted (function f none) h
  tree_parts_sorted (function f (more t none)) h = one_sorted (function f (more t none)) h
  tree_parts_sorted (function f (more t (more u none))) h = ⊎_elim
      (λ k. subst (λ b. AreSorted (cond b (t ∷ tree_parts u) (function f (more t (more u none)) ∷ []))) (sym k.0)
      (let s = and_sides t u (subst (λ z. HasTreeSort g (function z (more t (more u none))) bool_sort) (same_number f 9 k.1) h) in
      All-cons (λ z. HasTreeSort g z bool_sort) t (tree_parts u) s.0 (tree_parts_sorted u s.1)))
      (λ k. subst (λ b. AreSorted (cond b (t ∷ tree_parts u) (function f (more t (more u none)) ∷ []))) (sym k.0) (one_sorted (function f (more t (more u none))) h))
      (eqb_tells f.0 9)
  tree_parts_sorted (function f (more t (more u (more v ts)))) h = one_sorted (function f (more t (more u (more v ts)))) h

  without_sorted : (ts : List Tree) → AreSorted ts → AreSorted (trees_without_true ts)
  without_sorted [] h = h
  without_sorted (t ∷ ts) h =
      let k = without_sorted ts (All-tail (λ z. HasTreeSort g z bool_sort) t ts h) in
      elim (is_true_tree t) as (λ b. AreSorted (if b then trees_without_true ts else t ∷ trees_without_true ts)) [ true ↦ k | false ↦ All-cons (λ z. HasTreeSort g z bool_sort) t (trees_without_true ts) (All-head (λ z. HasTreeSort g z bool_sort) t ts h) k ]

  zipped_parts : (ts : List Tree) (ids : List TermId) → AreIn ts ids → AreSorted (trees_at ts ids) → AllZip (IsPart g ts) ids (map (term_under g) (trees_at ts ids))
  zipped_parts ts [] h k = tt
  zipped_parts ts (id ∷ ids) h k = (
    record { fits = record { within = All-head (IsIn ts) id ids h; sorted = All-head (λ z. HasTreeSort g z bool_sort) (tree_at ts id) (trees_at ts ids) k }; means = refl },
    zipped_parts ts ids (All-tail (IsIn ts) id ids h) (All-tail (λ z. HasTreeSort g z bool_sort) (tree_at ts id) (trees_at ts ids) k),
  )

  pub parts_are : (ts : List Tree) (cond : TermId) (ids : List TermId) → IsTermOf g ts bool_sort cond → AreIn ts ids → trees_at ts ids ≡ trees_without_true (tree_parts (tree_at ts cond)) → AllZip (IsPart g ts) ids (without_true (parts (term_under g (tree_at ts cond))))
  parts_are ts cond ids h i e =
      subst (λ cs. AllZip (IsPart g ts) ids cs) (ap (map (term_under g)) e ∙ parts_mean_parts g stands.table stands.complete (tree_at ts cond) (sorted_trees_are_within g stands.table (tree_at ts cond) bool_sort h.sorted))
      (zipped_parts ts ids i (subst (λ z. AreSorted z) (sym e) (without_sorted (tree_parts (tree_at ts cond)) (tree_parts_sorted (tree_at ts cond) h.sorted))))

-- ---- parts that aren't `true`
without_append : (xs ys : List Term) → without_true (xs ++ ys) ≡ without_true xs ++ without_true ys
without_append [] ys = refl
without_append (x ∷ xs) ys = elim (is_true x) as (λ b. (if b then without_true (xs ++ ys) else x ∷ without_true (xs ++ ys)) ≡ (if b then without_true xs else x ∷ without_true xs) ++ without_true ys) [ true ↦ without_append xs ys | false ↦ ap (λ zs. x ∷ zs) (without_append xs ys) ]

equalities_stay : (g : Sig) (ts : List Tree) (qs : List Equality) → without_true (map (equality_of g ts) qs) ≡ map (equality_of g ts) qs
equalities_stay g ts [] = refl
equalities_stay g ts (q ∷ qs) = ap (λ cs. equality_of g ts q ∷ cs) (equalities_stay g ts qs)

against_stay : (g : Sig) (ts : List Tree) (qss : List (List Equality)) → without_true (map (against g ts) qss) ≡ map (against g ts) qss
against_stay g ts [] = refl
against_stay g ts (qs ∷ qss) = ap (λ cs. against g ts qs ∷ cs) (against_stay g ts qss)

pub condition_is : (g : Sig) (ts : List Tree) (c : Term) (p : PlainPlan) → conjunction_of ((without_true (parts c) ++ map (equality_of g ts) p.equal) ++ map (against g ts) p.further) ≡ planned_condition g ts c p
condition_is g ts c p =
    ap conjunction_of
    (append_assoc (without_true (parts c)) (map (equality_of g ts) p.equal) (map (against g ts) p.further)
    ∙ ap (λ l. without_true (parts c) ++ l)
    (ap₂ (λ x y. x ++ y) (sym (equalities_stay g ts p.equal)) (sym (against_stay g ts p.further))
    ∙ sym (without_append (map (equality_of g ts) p.equal) (map (against g ts) p.further)))
    ∙ sym (without_append (parts c) (map (equality_of g ts) p.equal ++ map (against g ts) p.further)))

-- ---- loops over what is asked
pub one_more_of : {A : Type 0} (f : A → Term) (cs : List Term) (xs : List A) (i : ℕ) (x : A) → i < length xs → x ≡ get_or xs i x → (cs ++ map f (take i xs)) ++ f x ∷ [] ≡ cs ++ map f (take (i + 1) xs)
one_more_of f cs xs i x l e =
    append_assoc cs (map f (take i xs)) (f x ∷ [])
    ∙ ap (λ z. cs ++ z) (sym (map-append f (take i xs) (x ∷ [])) ∙ ap (map f) (sym (take_more xs i x l ∙ ap (λ y. take i xs ++ y ∷ []) (sym e))))

-- the parts so far, behind those at the start
abbrev pub PartsGrow : Sig → List Tree → List TermId → List Tree → List TermId → List Term → Type 0
PartsGrow g ts old us new added = (cs : List Term) → AllZip (IsPart g ts) old cs → AllZip (IsPart g us) new (cs ++ added)

module _ (g : Sig) (ts us vs : List Tree) (e : Extends ts us) (f : Extends us vs) (old parts : List TermId) (id : TermId) where
  grows_by : {A : Type 0} (h : A → Term) (xs : List A) (i : ℕ) (x : A) → i < length xs → x ≡ get_or xs i x → IsPart g vs id (h x)
      → PartsGrow g ts old us parts (map h (take i xs)) → PartsGrow g ts old vs (parts ++ id ∷ []) (map h (take (i + 1) xs))
  grows_by h xs i x l q is grow = λ cs k.
      subst (λ z. AllZip (IsPart g vs) (parts ++ id ∷ []) z) (one_more_of h cs xs i x l q)
      (all_zipped_more (IsPart g vs) parts (cs ++ map h (take i xs)) id (h x) (parts_kept g us vs f parts (cs ++ map h (take i xs)) (grow cs k)) is)

  pub equalities_more : (asked : List Equality) (i : ℕ) (q : Equality) → AreFitting g ts asked → i < length asked → q ≡ get_or asked i q → IsPart g vs id (equality_of g us q)
      → PartsGrow g ts old us parts (map (equality_of g ts) (take i asked)) → PartsGrow g ts old vs (parts ++ id ∷ []) (map (equality_of g ts) (take (i + 1) asked))
  equalities_more asked i q fit l at is grow =
      let own = subst (λ z. EqualityFits g ts z) (sym at) (All-get_or (EqualityFits g ts) asked i q l fit) in
      grows_by (equality_of g ts) asked i q l at (subst (λ z. IsPart g vs id z) (equality_kept g ts us e q own) is) grow

  pub against_more : (groups : List (Vec Equality Global)) (i : ℕ) (group : Vec Equality Global) → All (AreFitting g ts) (equalities_of_each groups) → i < length groups → group ≡ get_or groups i group → IsPart g vs id (against g us group.items)
      → PartsGrow g ts old us parts (map (λ (z : Vec Equality Global). against g ts z.items) (take i groups)) → PartsGrow g ts old vs (parts ++ id ∷ []) (map (λ (z : Vec Equality Global). against g ts z.items) (take (i + 1) groups))
  against_more groups i group fit l at is grow =
      let own = mapped_item (λ (z : Vec Equality Global). z.items) (AreFitting g ts) groups i group group l at fit in
      grows_by (λ (z : Vec Equality Global). against g ts z.items) groups i group l at (subst (λ z. IsPart g vs id z) (against_kept g ts us e group.items own) is) grow

pub fitting_item : (g : Sig) (ts us : List Tree) (asked : List Equality) (i : ℕ) (q : Equality) → Extends ts us → AreFitting g ts asked → i < length asked → q ≡ get_or asked i q → EqualityFits g us q
fitting_item g ts us asked i q e fit l at = equality_fits_on g ts us e q (subst (λ z. EqualityFits g ts z) (sym at) (All-get_or (EqualityFits g ts) asked i q l fit))

pub fitting_group : (g : Sig) (ts us : List Tree) (groups : List (Vec Equality Global)) (i : ℕ) (group : Vec Equality Global) → Extends ts us → All (AreFitting g ts) (equalities_of_each groups) → i < length groups → group ≡ get_or groups i group → AreFitting g us group.items
fitting_group g ts us groups i group e fit l at = all_fit_on g ts us e group.items (mapped_item (λ (z : Vec Equality Global). z.items) (AreFitting g ts) groups i group group l at fit)

-- each list of these fits still
pub groups_fit_on : (g : Sig) (ts us : List Tree) → Extends ts us → (qss : List (List Equality)) → All (AreFitting g ts) qss → All (AreFitting g us) qss
groups_fit_on g ts us e qss h = All-weaker (AreFitting g ts) (AreFitting g us) (λ qs k. all_fit_on g ts us e qs k) qss h

pub groups_kept : (g : Sig) (ts us : List Tree) → Extends ts us → (qss : List (List Equality)) → All (AreFitting g ts) qss → map (against g us) qss ≡ map (against g ts) qss
groups_kept g ts us e [] h = refl
groups_kept g ts us e (qs ∷ qss) h = ap₂ (λ x xs. x ∷ xs) (against_kept g ts us e qs (All-head (AreFitting g ts) qs qss h)) (groups_kept g ts us e qss (All-tail (AreFitting g ts) qs qss h))

-- the parts of a condition, from the three runs
module _ (g : Sig) (stands : IsSignature g) (ts us vs : List Tree) (cond : TermId) (p : PlainPlan) (first second third : List TermId) (h : IsTermOf g ts bool_sort cond)
    (i : AreIn ts first) (t : trees_at ts first ≡ trees_without_true (tree_parts (tree_at ts cond)))
    (one : PartsGrow g ts first us second (map (equality_of g ts) p.equal)) (two : PartsGrow g us second vs third (map (against g us) p.further)) where
  pub condition_parts : AllZip (IsPart g vs) third ((without_true (parts (term_under g (tree_at ts cond))) ++ map (equality_of g ts) p.equal) ++ map (against g us) p.further)
  condition_parts =
      two (without_true (parts (term_under g (tree_at ts cond))) ++ map (equality_of g ts) p.equal)
      (one (without_true (parts (term_under g (tree_at ts cond)))) (parts_are g stands ts cond first h i t))

  pub condition_made : (ws : List Tree) (id : TermId) → Extends ts us → All (AreFitting g ts) p.further → IsIn ws id → tree_at ws id ≡ conjunction_tree (trees_at vs third) → IsPart g ws id (planned_condition g ts (term_under g (tree_at ts cond)) p)
  condition_made ws id e fits within tree =
      let c = term_under g (tree_at ts cond) in
      subst (λ z. IsPart g ws id z) (ap (λ z. conjunction_of ((without_true (parts c) ++ map (equality_of g ts) p.equal) ++ z)) (groups_kept g ts us e p.further fits) ∙ condition_is g ts c p)
      (chain_is g stands vs ws third ((without_true (parts c) ++ map (equality_of g ts) p.equal) ++ map (against g us) p.further) id condition_parts within tree)

-- ---- in the terms of the code
pub parts_within : (g : Sig) (ts : List Tree) (ids : List TermId) (cs : List Term) → AllZip (IsPart g ts) ids cs → AreIn ts ids
parts_within g ts [] [] h = All-nil (IsIn ts)
parts_within g ts [] (c ∷ cs) h = absurd h
parts_within g ts (id ∷ ids) [] h = absurd h
parts_within g ts (id ∷ ids) (c ∷ cs) h = All-cons (IsIn ts) id ids h.0.fits.within (parts_within g ts ids cs h.1)

pub no_equality : (g : Sig) → IsSignature g → (ts : List Tree) (q : Equality) → EqualityFits g ts q → ((k : ℕ) → IsFun g (row_text (rows.Two words.Equal q.sort q.sort bool_sort)) (q.sort ∷ q.sort ∷ []) k → ⊥) → ⊥
no_equality g stands ts q h f = let r = equal_stands g stands q.sort h.sort in f r.0 r.1.found

pub if_both : {A E : Type 0} (r : Result A E) (P Q R : A → Type 0) → ((a : A) → P a → Q a → R a) → IfOk r P → IfOk r Q → IfOk r R
if_both (Ok a) P Q R f h k = f a h k
if_both (Err e) P Q R f h k = h

-- a run that begins with no part
pub from_none : (g : Sig) (ts us : List Tree) (old new : List TermId) (added : List Term) → old ≡ [] → PartsGrow g ts old us new added → AllZip (IsPart g us) new added
from_none g ts us old new added e grow = grow [] (subst (λ ids. AllZip (IsPart g ts) ids []) (sym e) tt)

mapped_each : (f : List Equality → Term) (groups : List (Vec Equality Global)) → map (λ (z : Vec Equality Global). f z.items) groups ≡ map f (equalities_of_each groups)
mapped_each f [] = refl
mapped_each f (z ∷ groups) = ap (λ l. f z.items ∷ l) (mapped_each f groups)

pub grown_each : (g : Sig) (ts us : List Tree) (old new : List TermId) (groups taken : List (Vec Equality Global)) → taken ≡ groups → PartsGrow g ts old us new (map (λ (z : Vec Equality Global). against g ts z.items) taken)
    → PartsGrow g ts old us new (map (against g ts) (equalities_of_each groups))
grown_each g ts us old new groups taken e grow = subst (λ l. PartsGrow g ts old us new l) (ap (map (λ (z : Vec Equality Global). against g ts z.items)) e ∙ mapped_each (against g ts) groups) grow
