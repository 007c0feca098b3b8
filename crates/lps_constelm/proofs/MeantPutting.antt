-- What a linear process in code means where initial terms are put in, and that it fits.
use Rattle.std.proofs.Common.{◌≡◌, ◌==◌, ℕ, Bool, true, false, cond, List, [], ◌∷◌, map, length, get_or, refl, sym, ap, ap₂, ◌∙◌, subst, arith, Option, Some, None}
use Rattle.std.specs.Prelude.{IfSome, option_map}
use Rattle.std.specs.List.{All}
use Rattle.std.proofs.lemmas.List.{length-map}
use Rattle.std.proofs.lemmas.Bool.Decides.{Decides-eqb}
use Rattle.std.proofs.lemmas.Option.{slice_get-get_or}
use Rattle.std.proofs.lemmas.List.Elements.{All-nil, All-cons, All-head, All-tail}
use Rattle.data_theory.specs.declared.ids.SortId.{SortId}
use Rattle.data_theory.specs.declared.ids.VarId.{VarId}
use Rattle.data_theory.specs.declared.ids.TermId.{TermId}
use Rattle.data_theory.specs.declared.signature.Variable.{Variable}
use Rattle.data_theory.specs.Table.{bool_sort}
use Rattle.data_theory.specs.Terms.{Term, put}
use Rattle.data_theory.specs.Declarations.{HaveSorts}
use Rattle.data_theory.specs.Environments.{Environment, term_in, bound, terms_of}
use Rattle.data_theory.specs.Signature.{Sig}
use Rattle.data_theory.specs.WholeSignatures.{IsSignature}
use Rattle.data_theory.specs.IdData.{data_meant}
use Rattle.data_theory.specs.IdTrees.{Tree, put_tree, trees_of}
use Rattle.data_theory.specs.IdTreeSorts.{IsVariableOf, HasTreeSort, HaveTreeSorts}
use Rattle.data_theory.specs.IdTerms.{term_under}
use Rattle.term_pool.specs.HeadTrees.{tree_at, trees_at, IsIn, AreIn}
use Rattle.term_pool.specs.Pools.{Extends}
use Rattle.term_pool.proofs.DeclaredConstants.{grown_itself}
use Rattle.term_pool.proofs.KeptSorts.{keeps_put}
use Rattle.process_terms.specs.Labels.{put_label}
use Rattle.process_terms.specs.Meanings.{bound_at, term_at, label_of}
use Rattle.process_terms.specs.SignatureEntries.{entries_of, BothGrow}
use Rattle.bisim_laws.specs.LinearProcesses.{Linear, variables, sorts, IsLinear}
use Rattle.bisim_laws.specs.BaseStates.{Fate}
use Rattle.lps_core.specs.PlainLinears.{PlainSummand, PlainLinear, summand_of, linear_of, initial_of}
use Rattle.lps_core.specs.Fitting.{AreTermsOf, IsVariable, sort_of_variable, SummandFits, HasTakenName, Fits}
use Rattle.lps_core.specs.TreeSummands.{TreeSummand, trees_of_summand, trees_of_label, IsSummandIn, bound_tree, put_actions, put_in_summand, meant_summand}
use Rattle.lps_core.proofs.KeptSummands.{summand_kept}
use Rattle.lps_core.proofs.MeantTrees.{Means, put_means, puts_mean, label_means, bound_means, numbers_meant, summands_read}
use Rattle.lps_core.proofs.NamedLinears.{put_summand_fits, first_functions, fitting_is_in}
use Rattle.lps_core.proofs.PoolTrees.{trees_kept, all_in_kept}
use Rattle.lps_core.proofs.Staying.{term_is, terms_are}
use Rattle.lps_core.proofs.StayingFits.{terms_fit, summand_fits}
use Rattle.lps_parelm.specs.Keeping.{keep, fates_of, kept_summand}
use Rattle.lps_parelm.proofs.KeptPlaces.{keep_map, keep_all, keep_sorts, keep_sorted}
use Rattle.lps_parelm.proofs.WhatIsLeft.{kept_terms}
use Rattle.lps_parelm.proofs.WholeElimination.{init_long, summands_inside}
use Rattle.lps_constelm.specs.Constants.{AreInitial, put_in, putting, put_summand, without_constants}
use Rattle.lps_constelm.specs.Putting.{set_of, unmarked, put_kept_summand, unmarked_trees, IsWithoutUnmarked}
use Rattle.lps_constelm.proofs.ConstantParameters.{constants_linear}
use Rattle.lps_constelm.proofs.ChangingLoops.{pairs_listed}
use Rattle.lps_constelm.proofs.GreatestSets.{set_initial}

-- ---- the set of the unmarked ones
-- it keeps what is marked
pub set_keeps : {A : Type 0} (marks : List Bool) (init : List Term) (xs : List A) → length marks ≡ length init → keep (set_of marks init) xs ≡ keep (fates_of marks) xs
set_keeps [] [] xs e = refl
set_keeps [] (t ∷ init) xs e = absurd (omega (arith, e))
set_keeps (m ∷ marks) [] xs e = absurd (omega (arith, e))
set_keeps (true ∷ marks) (t ∷ init) [] e = refl
set_keeps (false ∷ marks) (t ∷ init) [] e = refl
set_keeps (true ∷ marks) (t ∷ init) (x ∷ xs) e = ap (λ z. x ∷ z) (set_keeps marks init xs (omega (arith, e)))
set_keeps (false ∷ marks) (t ∷ init) (x ∷ xs) e = set_keeps marks init xs (omega (arith, e))

-- and what it puts in are the initial terms at the other places
set_puts : (marks : List Bool) (init : List Term) (xs : List ℕ) → length marks ≡ length init → put_in (set_of marks init) xs ≡ bound (keep (fates_of (unmarked marks)) xs) (keep (fates_of (unmarked marks)) init)
set_puts [] [] xs e = refl
set_puts [] (t ∷ init) xs e = absurd (omega (arith, e))
set_puts (m ∷ marks) [] xs e = absurd (omega (arith, e))
set_puts (true ∷ marks) (t ∷ init) [] e = refl
set_puts (false ∷ marks) (t ∷ init) [] e = refl
set_puts (true ∷ marks) (t ∷ init) (x ∷ xs) e = set_puts marks init xs (omega (arith, e))
set_puts (false ∷ marks) (t ∷ init) (x ∷ xs) e = ap (λ z. record { var = x; term = t } ∷ z) (set_puts marks init xs (omega (arith, e)))

-- the trees of initial terms have the sorts of their variables
there : (g : Sig) (z : VarId) → IsVariable g z → IsVariableOf g z (sort_of_variable g z)
there g z w = (get_or g.variables z.0 (record { name = record { 0 = 0 }; sort = bool_sort }), slice_get-get_or g.variables z.0 (record { name = record { 0 = 0 }; sort = bool_sort }) w, refl)

some_is : {u w : Variable} → Some u ≡ Some w → u ≡ w
some_is q = cc

one_sort_of : (g : Sig) (z : VarId) (a b : SortId) → IsVariableOf g z a → IsVariableOf g z b → a ≡ b
one_sort_of g z a b p q = let same : p.0 ≡ q.0 = some_is (sym p.1 ∙ q.1) in sym p.2 ∙ ap (λ (y : Variable). y.sort) same ∙ q.2

bound_sorted : (g : Sig) (xs : List VarId) (us : List Tree) → All (IsVariable g) xs → HaveTreeSorts g (trees_of us) (map (sort_of_variable g) xs) → (v : VarId) (s : SortId) → IsVariableOf g v s → HasTreeSort g (bound_tree xs us v) s
bound_sorted g [] us k h v s i = i
bound_sorted g (x ∷ xs) [] k h v s i = i
bound_sorted g (x ∷ xs) (u ∷ us) k h v s i = by_place (x.0 == v.0) refl (bound_sorted g xs us (All-tail (IsVariable g) x xs k) h.1 v s i)
  where
    by_place : (b : Bool) → (x.0 == v.0) ≡ b → HasTreeSort g (bound_tree xs us v) s → HasTreeSort g (cond b u (bound_tree xs us v)) s
    by_place true q r =
        let number : x.0 ≡ v.0 = (Decides-eqb x.0 v.0).0 q in
        subst (λ z. HasTreeSort g u z) (one_sort_of g x (sort_of_variable g x) s (there g x (All-head (IsVariable g) x xs k)) (subst (λ n. IsVariableOf g (record { 0 = n }) s) (sym number) i)) h.0
    by_place false q r = r

kept_next_fits : (g : Sig) (ts : List Tree) (fates : List Fate) (params : List VarId) (next : Option (List TermId)) → IfSome next (AreTermsOf g ts (map (sort_of_variable g) params)) → IfSome (option_map (keep fates) next) (AreTermsOf g ts (map (sort_of_variable g) (keep fates params)))
kept_next_fits g ts fates params None h = h
kept_next_fits g ts fates params (Some ids) h = kept_terms g ts fates params ids h

module _ (g : Sig) (ts us : List Tree) (marks : List Bool) (l k : PlainLinear) (stands : IsSignature g) (fits : Fits g ts l) (grown : Extends ts us) (long : length marks ≡ length l.params) (is : IsWithoutUnmarked ts us marks l k) where
  abbrev L : Linear
  L = linear_of (entries_of g ts) l

  abbrev init : List Term
  init = initial_of (entries_of g ts) l

  abbrev set : List Fate
  set = set_of marks init

  abbrev r : Environment
  r = putting set L

  abbrev gone : List Fate
  gone = fates_of (unmarked marks)

  abbrev put_trees_in : VarId → Tree
  put_trees_in = unmarked_trees ts marks l

  marks_init : length marks ≡ length init
  marks_init = long ∙ sym (init_long g ts l fits) ∙ sym (length-map l.init (term_at (entries_of g ts)))

  put_trees_are : (v : VarId) → put_trees_in v ≡ bound_tree (keep gone l.params) (trees_at ts (keep gone l.init)) v
  put_trees_are v = pairs_listed ts (keep gone l.params) (keep gone l.init) v

  put_trees_mean : Means g put_trees_in r
  put_trees_mean x =
      ap (term_under g) (put_trees_are x) ∙ bound_means g (keep gone l.params) (trees_at ts (keep gone l.init)) x
      ∙ ap₂ (λ xs ts. term_in (bound xs ts) x.0)
      (sym (keep_map (λ (y : VarId). y.0) gone l.params) ∙ ap (keep gone) (sym (numbers_meant g ts l.params)))
      (ap (map (term_under g)) (sym (keep_map (tree_at ts) gone l.init)) ∙ sym (keep_map (term_under g) gone (trees_at ts l.init)) ∙ ap (keep gone) (sym (terms_are g ts l.init fits.init.within)))
      ∙ ap (λ e. term_in e x.0) (sym (set_puts marks init (variables L.params) marks_init))

  -- ---- what it means
  next_put : (next : Option (List TermId)) → IfSome next (AreIn ts) → option_map (map (term_under g)) (option_map (λ us. map (put_tree put_trees_in) (keep (fates_of marks) us)) (option_map (trees_at ts) next)) ≡ option_map (λ us. map (put (term_in r)) (keep set us)) (option_map (map (term_at (entries_of g ts))) next)
  next_put None h = refl
  next_put (Some ids) h = ap (λ z. Some z)
      (puts_mean g stands.table put_trees_in r put_trees_mean (keep (fates_of marks) (trees_at ts ids))
      ∙ ap (map (put (term_in r))) (sym (keep_map (term_under g) (fates_of marks) (trees_at ts ids)) ∙ ap (keep (fates_of marks)) (sym (terms_are g ts ids h)) ∙ sym (set_keeps marks init (map (term_at (entries_of g ts)) ids) marks_init)))

  summand_put : (s : PlainSummand) → IsSummandIn ts s → meant_summand g (put_kept_summand put_trees_in (fates_of marks) (trees_of_summand ts s)) ≡ put_summand r set (summand_of (entries_of g ts) s)
  summand_put s h =
      ap₂ (λ c m. record { sums = map (bound_at (entries_of g ts)) s.sums; condition = c; label = m; next = option_map (map (term_under g)) (option_map (λ us. map (put_tree put_trees_in) (keep (fates_of marks) us)) (option_map (trees_at ts) s.next)) })
      (put_means g stands.table put_trees_in r put_trees_mean (tree_at ts s.condition) ∙ ap (put (term_in r)) (sym (term_is g ts s.condition h.condition)))
      (label_means g stands.table put_trees_in r put_trees_mean ts s.label h.label)
      ∙ ap (λ n. record { sums = map (bound_at (entries_of g ts)) s.sums; condition = put (term_in r) (term_at (entries_of g ts) s.condition); label = put_label r (label_of (entries_of g ts) s.label); next = n }) (next_put s.next h.next)

  summands_put : (ss : List PlainSummand) → All (IsSummandIn ts) ss → map (meant_summand g) (map (put_kept_summand put_trees_in (fates_of marks)) (map (trees_of_summand ts) ss)) ≡ map (put_summand r set) (map (summand_of (entries_of g ts)) ss)
  summands_put [] h = refl
  summands_put (s ∷ ss) h = ap₂ (λ x xs. x ∷ xs) (summand_put s (All-head (IsSummandIn ts) s ss h)) (summands_put ss (All-tail (IsSummandIn ts) s ss h))

  inside : All (IsSummandIn ts) l.summands
  inside = summands_inside g ts l fits

  pub without_meant : linear_of (entries_of g us) k ≡ without_constants set L
  without_meant = ap₂ (λ ps ss. record { params = ps; summands = ss })
      (ap (map (bound_at (entries_of g us))) is.params ∙ sym (keep_map (bound_at (entries_of g us)) (fates_of marks) l.params) ∙ sym (set_keeps marks init L.params marks_init))
      (summands_read g us k.summands is.within ∙ ap (map (meant_summand g)) is.summands ∙ summands_put l.summands inside)

  kept_inits : AreIn ts (keep (fates_of marks) l.init)
  kept_inits = keep_all (IsIn ts) (fates_of marks) l.init fits.init.within

  pub without_initial : initial_of (entries_of g us) k ≡ keep set init
  without_initial =
      ap (map (term_at (entries_of g us))) is.init
      ∙ terms_are g us (keep (fates_of marks) l.init) (all_in_kept ts us (keep (fates_of marks) l.init) grown kept_inits)
      ∙ ap (map (term_under g)) (trees_kept ts us (keep (fates_of marks) l.init) grown kept_inits)
      ∙ sym (terms_are g ts (keep (fates_of marks) l.init) kept_inits)
      ∙ sym (keep_map (term_at (entries_of g ts)) (fates_of marks) l.init) ∙ sym (set_keeps marks init init marks_init)

  -- ---- that it fits
  grow : BothGrow g g ts us
  grow = record { signature = grown_itself g; pool = grown }

  keeps : (t : Tree) (s : SortId) → HasTreeSort g t s → HasTreeSort g (put_tree put_trees_in t) s
  keeps = keeps_put g (first_functions g stands.complete) put_trees_in (λ v s i. subst (λ z. HasTreeSort g z s) (sym (put_trees_are v))
      (bound_sorted g (keep gone l.params) (trees_at ts (keep gone l.init)) (keep_all (IsVariable g) gone l.params fits.params) (kept_terms g ts gone l.params l.init fits.init).sorted v s i))

  one_fits : (s t : PlainSummand) → SummandFits g ts l.params s → trees_of_summand us t ≡ put_kept_summand put_trees_in (fates_of marks) (trees_of_summand ts s) → IsSummandIn us t → SummandFits g us (keep (fates_of marks) l.params) t
  one_fits s t h e w =
      let now = summand_fits g g ts us grow l.params s fits.params h in
      let s' = kept_summand (fates_of marks) s in
      let before : SummandFits g us (keep (fates_of marks) l.params) s' = record { sums = now.sums; condition = now.condition; label = now.label; next = kept_next_fits g us (fates_of marks) l.params s.next now.next } in
      put_summand_fits g us put_trees_in keeps (keep (fates_of marks) l.params) s' t (subst (λ (z : TreeSummand). All (IsVariable g) z.sums) (sym e) h.sums)
      (e ∙ ap (put_kept_summand put_trees_in (fates_of marks)) (sym (summand_kept ts us grown s (fitting_is_in g ts l.params s h)))
      ∙ same_sums t (trees_of_summand us s) (ap (λ (z : TreeSummand). z.sums) e) (option_kept s.next)) w before
    where
      option_kept : (next : Option (List TermId)) → option_map (λ us. map (put_tree put_trees_in) (keep (fates_of marks) us)) (option_map (trees_at us) next) ≡ option_map (map (put_tree put_trees_in)) (option_map (trees_at us) (option_map (keep (fates_of marks)) next))
      option_kept None = refl
      option_kept (Some ids) = ap (λ z. Some (map (put_tree put_trees_in) z)) (keep_map (tree_at us) (fates_of marks) ids)

      same_sums : (t : PlainSummand) (x : TreeSummand) → t.sums ≡ s.sums → option_map (λ us. map (put_tree put_trees_in) (keep (fates_of marks) us)) (option_map (trees_at us) s.next) ≡ option_map (map (put_tree put_trees_in)) (option_map (trees_at us) (option_map (keep (fates_of marks)) s.next))
          → put_kept_summand put_trees_in (fates_of marks) (trees_of_summand us s) ≡ put_in_summand put_trees_in t.sums (trees_of_summand us (kept_summand (fates_of marks) s))
      same_sums t x p q = ap₂ (λ xs n. record { sums = xs; condition = put_tree put_trees_in (tree_at us s.condition); label = put_actions put_trees_in (trees_of_label us s.label); next = n }) (sym p) q

  all_fit : (ss made : List PlainSummand) → All (SummandFits g ts l.params) ss → map (trees_of_summand us) made ≡ map (put_kept_summand put_trees_in (fates_of marks)) (map (trees_of_summand ts) ss) → All (IsSummandIn us) made → All (SummandFits g us (keep (fates_of marks) l.params)) made
  all_fit [] [] h e w = All-nil (SummandFits g us (keep (fates_of marks) l.params))
  all_fit [] (t ∷ made) h e w = cc
  all_fit (s ∷ ss) [] h e w = cc
  all_fit (s ∷ ss) (t ∷ made) h e w =
      let heads : trees_of_summand us t ≡ put_kept_summand put_trees_in (fates_of marks) (trees_of_summand ts s) = cc in
      let tails : map (trees_of_summand us) made ≡ map (put_kept_summand put_trees_in (fates_of marks)) (map (trees_of_summand ts) ss) = cc in
      All-cons (SummandFits g us (keep (fates_of marks) l.params)) t made (one_fits s t (All-head (SummandFits g ts l.params) s ss h) heads (All-head (IsSummandIn us) t made w)) (all_fit ss made (All-tail (SummandFits g ts l.params) s ss h) tails (All-tail (IsSummandIn us) t made w))

  sums_named : (ss made : List PlainSummand) → All (λ (s : PlainSummand). All (HasTakenName g) s.sums) ss → map (trees_of_summand us) made ≡ map (put_kept_summand put_trees_in (fates_of marks)) (map (trees_of_summand ts) ss) → All (λ (s : PlainSummand). All (HasTakenName g) s.sums) made
  sums_named [] [] h e = All-nil (λ (s : PlainSummand). All (HasTakenName g) s.sums)
  sums_named [] (t ∷ made) h e = cc
  sums_named (s ∷ ss) [] h e = cc
  sums_named (s ∷ ss) (t ∷ made) h e =
      let heads : trees_of_summand us t ≡ put_kept_summand put_trees_in (fates_of marks) (trees_of_summand ts s) = cc in
      let tails : map (trees_of_summand us) made ≡ map (put_kept_summand put_trees_in (fates_of marks)) (map (trees_of_summand ts) ss) = cc in
      All-cons (λ (x : PlainSummand). All (HasTakenName g) x.sums) t made (subst (λ (z : TreeSummand). All (HasTakenName g) z.sums) (sym heads) (All-head (λ (x : PlainSummand). All (HasTakenName g) x.sums) s ss h)) (sums_named ss made (All-tail (λ (x : PlainSummand). All (HasTakenName g) x.sums) s ss h) tails)

  set_is_initial : AreInitial set init
  set_is_initial = set_initial marks init marks_init

  pub without_fits : Fits g us k
  without_fits = record {
    params = subst (λ z. All (IsVariable g) z) (sym is.params) (keep_all (IsVariable g) (fates_of marks) l.params fits.params);
    init = subst (λ z. AreTermsOf g us (map (sort_of_variable g) z) k.init) (sym is.params) (subst (λ z. AreTermsOf g us (map (sort_of_variable g) (keep (fates_of marks) l.params)) z) (sym is.init) (terms_fit g g ts us grow (map (sort_of_variable g) (keep (fates_of marks) l.params)) (keep (fates_of marks) l.init) (kept_terms g ts (fates_of marks) l.params l.init fits.init)));
    closed = subst (λ z. HaveSorts (data_meant g) [] (terms_of z) (sorts (linear_of (entries_of g us) k).params)) (sym without_initial)
        (subst (λ (z : Linear). HaveSorts (data_meant g) [] (terms_of (keep set init)) (sorts z.params)) (sym without_meant)
        (subst (λ ss. HaveSorts (data_meant g) [] (terms_of (keep set init)) ss) (sym (keep_sorts set L.params)) (keep_sorted (data_meant g) [] set init (sorts L.params) fits.closed)));
    summands = subst (λ z. All (SummandFits g us z) k.summands) (sym is.params) (all_fit l.summands k.summands fits.summands is.summands is.within);
    linear = subst (λ z. IsLinear z) (sym without_meant) (constants_linear (data_meant g) set L init fits.linear fits.closed set_is_initial);
    taken = subst (λ z. All (HasTakenName g) z) (sym is.params) (keep_all (HasTakenName g) (fates_of marks) l.params fits.taken);
    sums_taken = sums_named l.summands k.summands fits.sums_taken is.summands;
  }
