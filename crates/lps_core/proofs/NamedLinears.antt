-- Naming the sums of a linear process is a link that drops nothing.
use Rattle.std.proofs.Common.{◌≡◌, ◌==◌, inl, inr, ⊎_elim, ℕ, Bool, true, false, cond, List, [], ◌∷◌, ◌++◌, map, take, get_or, refl, sym, ap, ap₂, ◌∙◌, subst, Option, Some, None}
use Rattle.std.specs.Prelude.{◌↔◌, option_map, slice_get, IfSome}
use Rattle.std.specs.List.{All, AllZip, Contains}
use Rattle.std.proofs.lemmas.Bool.Decides.{Decides-eqb}
use Rattle.std.proofs.lemmas.Option.{slice_get-get_or}
use Rattle.std.proofs.lemmas.List.Elements.{All-nil, All-cons, All-head, All-tail, All-contains, All-weaker}
use Rattle.data_theory.specs.declared.ids.NameId.{NameId}
use Rattle.data_theory.specs.declared.ids.SortId.{SortId}
use Rattle.data_theory.specs.declared.ids.VarId.{VarId}
use Rattle.data_theory.specs.declared.ids.TermId.{TermId}
use Rattle.data_theory.specs.declared.signature.Variable.{Variable}
use Rattle.data_theory.specs.Functions.{Function}
use Rattle.data_theory.specs.Table.{bool_sort}
use Rattle.data_theory.specs.Terms.{boolean, put}
use Rattle.process_terms.specs.Labels.{put_label}
use Rattle.data_theory.specs.Environments.{term_in, terms_of, Apart, AreDistinct}
use Rattle.data_theory.specs.Signature.{Sig}
use Rattle.data_theory.specs.Complete.{IsComplete}
use Rattle.data_theory.specs.IdTables.{IsTable}
use Rattle.data_theory.specs.IdTrees.{Tree, variable, trees_of, put_tree}
use Rattle.data_theory.specs.IdTreeSorts.{IsVariableOf, HasTreeSort, HaveTreeSorts}
use Rattle.data_theory.specs.IdTerms.{sort_under, term_under, variable_sorts}
use Rattle.data_theory.specs.WholeSignatures.{IsSignature}
use Rattle.term_pool.specs.HeadTrees.{tree_at, trees_at, AreIn}
use Rattle.term_pool.specs.TermSorts.{HasFirstFunctions}
use Rattle.term_pool.proofs.KeptSorts.{keeps_put}
use Rattle.process_terms.specs.PlainProcesses.{PlainAction}
use Rattle.process_terms.specs.Meanings.{bound_at, term_at, label_of}
use Rattle.process_terms.specs.SignatureEntries.{entries_of, BothGrow}
use Rattle.bisim_laws.specs.LinearProcesses.{variables}
use Rattle.lps_core.specs.PlainLinears.{PlainSummand, PlainLinear, summand_of, linear_of}
use Rattle.lps_core.specs.Moving.{SameSorts, no_more, one_more, renaming_to, with_sums, HaveOtherSums, no_summand, one_summand, RenewsSums, HasOwnSums}
use Rattle.lps_core.specs.Fitting.{AreTermsOf, IsActionOf, IsVariable, sort_of_variable, SummandFits, HasTakenName, Fits}
use Rattle.lps_core.specs.TreeSummands.{TreeAction, TreeSummand, trees_of_action, trees_of_label, trees_of_summand, IsActionIn, IsSummandIn, put_in_action, put_actions, put_in_summand, renaming_tree, numbers_of, meant_summand}
use Rattle.lps_core.specs.Naming.{name_of, names_of, IsUsed, GrowsByNames, HasOtherSums, NamesSummands, SumsAreNamed, HasOwnNames, HaveOwnNames, NamingIsGood}
use Rattle.lps_core.proofs.NamingLoops.{names_summands_along}
use Rattle.lps_core.proofs.Members.{contains_map, map_contains, all_from}
use Rattle.lps_core.proofs.KeptSummands.{summand_kept}
use Rattle.lps_core.proofs.MeantTrees.{Means, put_means, label_means, next_puts_mean, numbers_meant, renaming_means, summand_read}
use Rattle.lps_core.proofs.Staying.{read_mapped, term_is}
use Rattle.lps_core.proofs.FunctionNames.{functions_taken, function_names_stay}
use Rattle.lps_core.proofs.NamedSums.{SumsStand, AreTaken, all_sums_named, name_kept, taken_name, name_taken, sorts_kept, names_kept}
use Rattle.lps_core.proofs.StayingFits.{what_fits_fits_still, both_weaker}
use Rattle.lps_core.proofs.Renewing.{renewed_linear, renewed_good, equal_kept}
use Rattle.lps_core.proofs.GrowingData.{linear_grown, terms_grown}
use Rattle.lps_core.proofs.Staying.{what_fits_is_sorted}
use Rattle.lps_core.specs.GoingOn.{IsGoodOver}
use Rattle.lps_core.specs.Moving.{all_kept}
use Rattle.lps_core.specs.PlainLinears.{initial_of, linear_state}
use Rattle.bisim_laws.specs.Links.{Dropped}
use Rattle.bisim_laws.specs.BaseStates.{dropped_state}
use Rattle.bisim_laws.specs.Bisimulations.{up_to}
use Rattle.bisim_laws.specs.LinearProcesses.{state_of, sorts}
use Rattle.bisim_laws.proofs.AlikeProcesses.{alike_refl}
use Rattle.process_terms.specs.Theories.{Equals}
use Rattle.process_terms.proofs.AgreeingLabels.{equals_refl}
use Rattle.data_theory.specs.IdData.{data_meant}
use Rattle.data_theory.specs.Rows.{built_ins, row_sorts, row_result}
use Rattle.data_theory.specs.Table.{first_table, first_rows, truth_rows, sort_rows}
use Rattle.term_pool.specs.TermSorts.{sorts_of}
use Rattle.term_pool.specs.Pools.{Extends}

-- ---- one summand: what it means
next_in : (g : Sig) (ts : List Tree) (ss : List SortId) (next : Option (List TermId)) → IfSome next (AreTermsOf g ts ss) → IfSome next (AreIn ts)
next_in g ts ss None k = k
next_in g ts ss (Some ids) k = k.within

pub fitting_is_in : (g : Sig) (ts : List Tree) (params : List VarId) (s : PlainSummand) → SummandFits g ts params s → IsSummandIn ts s
fitting_is_in g ts params s k = record {
  condition = k.condition.within;
  label = All-weaker (IsActionOf g ts) (IsActionIn ts) (λ a i. i.args.within) s.label k.label;
  next = next_in g ts (map (sort_of_variable g) params) s.next k.next;
}

same_sorts_meant : (g : Sig) (ts : List Tree) (xs ys : List VarId) → All (IsVariable g) xs → All (IsVariable g) ys → map (sort_of_variable g) ys ≡ map (sort_of_variable g) xs
    → SameSorts (map (bound_at (entries_of g ts)) xs) (map (bound_at (entries_of g ts)) ys)
same_sorts_meant g ts [] [] l k e = no_more
same_sorts_meant g ts [] (y ∷ ys) l k e = cc
same_sorts_meant g ts (x ∷ xs) [] l k e = cc
same_sorts_meant g ts (x ∷ xs) (y ∷ ys) l k e =
    let heads : sort_of_variable g y ≡ sort_of_variable g x = cc in
    let tails : map (sort_of_variable g) ys ≡ map (sort_of_variable g) xs = cc in
    one_more (sort_meant x (All-head (IsVariable g) x xs l) ∙ ap (sort_under g) (sym heads) ∙ sym (sort_meant y (All-head (IsVariable g) y ys k)))
    (same_sorts_meant g ts xs ys (All-tail (IsVariable g) x xs l) (All-tail (IsVariable g) y ys k) tails)
  where
    sort_meant : (z : VarId) → IsVariable g z → get_or (variable_sorts g) z.0 boolean ≡ sort_under g (sort_of_variable g z)
    sort_meant z l = read_mapped (λ (v : Variable). sort_under g v.sort) g.variables z.0 boolean (record { name = record { 0 = 0 }; sort = bool_sort }) l

pub moved_means : (g : Sig) → IsTable g → (ts : List Tree) (s : PlainSummand) (ys : List VarId) → IsSummandIn ts s
    → meant_summand g (put_in_summand (renaming_tree s.sums ys) ys (trees_of_summand ts s)) ≡ with_sums (map (bound_at (entries_of g ts)) ys) (summand_of (entries_of g ts) s)
moved_means g table ts s ys w =
    let e = renaming_tree s.sums ys in
    let r = renaming_to (variables (map (bound_at (entries_of g ts)) s.sums)) (variables (map (bound_at (entries_of g ts)) ys)) in
    let m : Means g e r = subst (λ z. Means g e z) (sym (ap₂ (λ a b. renaming_to a b) (numbers_meant g ts s.sums) (numbers_meant g ts ys))) (renaming_means g s.sums ys) in
    ap₂ (λ c l. record { sums = map (bound_at (entries_of g ts)) ys; condition = c; label = l; next = option_map (map (term_under g)) (option_map (map (put_tree e)) (option_map (trees_at ts) s.next)) })
    (put_means g table e r m (tree_at ts s.condition) ∙ ap (put (term_in r)) (sym (term_is g ts s.condition w.condition)))
    (label_means g table e r m ts s.label w.label)
    ∙ ap (λ n. record { sums = map (bound_at (entries_of g ts)) ys; condition = put (term_in r) (term_at (entries_of g ts) s.condition); label = put_label r (label_of (entries_of g ts) s.label); next = n })
    (next_puts_mean g table e r m ts s.next w.next)

-- ---- one summand: that it fits
some_is : {u w : Variable} → Some u ≡ Some w → u ≡ w
some_is q = cc

tails_same : {a b : SortId} {cs ds : List SortId} → a ∷ cs ≡ b ∷ ds → cs ≡ ds
tails_same q = cc

is_there : (g : Sig) (z : VarId) → IsVariable g z → IsVariableOf g z (sort_of_variable g z)
is_there g z w = (get_or g.variables z.0 (record { name = record { 0 = 0 }; sort = bool_sort }), slice_get-get_or g.variables z.0 (record { name = record { 0 = 0 }; sort = bool_sort }) w, refl)

one_sort_of : (g : Sig) (z : VarId) (a b : SortId) → IsVariableOf g z a → IsVariableOf g z b → a ≡ b
one_sort_of g z a b p q = let same : p.0 ≡ q.0 = some_is (sym p.1 ∙ q.1) in sym p.2 ∙ ap (λ (y : Variable). y.sort) same ∙ q.2

renaming_sorted : (g : Sig) (xs ys : List VarId) → All (IsVariable g) xs → All (IsVariable g) ys → map (sort_of_variable g) ys ≡ map (sort_of_variable g) xs
    → (v : VarId) (s : SortId) → IsVariableOf g v s → HasTreeSort g (renaming_tree xs ys v) s
renaming_sorted g [] ys l k e v s i = i
renaming_sorted g (x ∷ xs) [] l k e v s i = i
renaming_sorted g (x ∷ xs) (y ∷ ys) l k e v s i = by_place (x.0 == v.0) refl (renaming_sorted g xs ys (All-tail (IsVariable g) x xs l) (All-tail (IsVariable g) y ys k) (tails_same e) v s i)
  where
    by_place : (b : Bool) → (x.0 == v.0) ≡ b → HasTreeSort g (renaming_tree xs ys v) s → HasTreeSort g (cond b (variable y) (renaming_tree xs ys v)) s
    by_place true q r =
        let heads : sort_of_variable g y ≡ sort_of_variable g x = cc in
        let number : x.0 ≡ v.0 = (Decides-eqb x.0 v.0).0 q in
        subst (λ z. IsVariableOf g y z) (heads ∙ one_sort_of g x (sort_of_variable g x) s (is_there g x (All-head (IsVariable g) x xs l)) (subst (λ n. IsVariableOf g (record { 0 = n }) s) (sym number) i)) (is_there g y (All-head (IsVariable g) y ys k))
    by_place false q r = r

module _ (g : Sig) (ts : List Tree) (e : VarId → Tree) (keeps : (t : Tree) (s : SortId) → HasTreeSort g t s → HasTreeSort g (put_tree e t) s) where
  pub trees_keep : (us : List Tree) (ss : List SortId) → HaveTreeSorts g (trees_of us) ss → HaveTreeSorts g (trees_of (map (put_tree e) us)) ss
  trees_keep [] [] k = k
  trees_keep [] (s ∷ ss) k = absurd k
  trees_keep (u ∷ us) [] k = absurd k
  trees_keep (u ∷ us) (s ∷ ss) k = (keeps u s k.0, trees_keep us ss k.1)

  pub args_fit : (ss : List SortId) (ids made : List TermId) → trees_at ts made ≡ map (put_tree e) (trees_at ts ids) → AreTermsOf g ts ss ids → AreIn ts made → AreTermsOf g ts ss made
  args_fit ss ids made q k w = record { within = w; sorted = subst (λ z. HaveTreeSorts g (trees_of z) ss) (sym q) (trees_keep (trees_at ts ids) ss k.sorted) }

  pub label_fits : (m n : List PlainAction) → trees_of_label ts n ≡ put_actions e (trees_of_label ts m) → All (IsActionOf g ts) m → All (IsActionIn ts) n → All (IsActionOf g ts) n
  label_fits [] [] q k w = All-nil (IsActionOf g ts)
  label_fits [] (b ∷ n) q k w = cc
  label_fits (a ∷ m) [] q k w = cc
  label_fits (a ∷ m) (b ∷ n) q k w =
      let heads : trees_of_action ts b ≡ put_in_action e (trees_of_action ts a) = cc in
      let tails : trees_of_label ts n ≡ put_actions e (trees_of_label ts m) = cc in
      let own = All-head (IsActionOf g ts) a m k in
      All-cons (IsActionOf g ts) b n
      (record {
        key = own.key;
        stands = subst (λ (z : TreeAction). slice_get g.actions z.act.0 ≡ Some own.key) (sym heads) own.stands;
        args = args_fit own.key.sorts a.args b.args (ap (λ (z : TreeAction). z.args) heads) own.args (All-head (IsActionIn ts) b n w);
      })
      (label_fits m n tails (All-tail (IsActionOf g ts) a m k) (All-tail (IsActionIn ts) b n w))

  next_fits : (ss : List SortId) (next made : Option (List TermId)) → option_map (trees_at ts) made ≡ option_map (map (put_tree e)) (option_map (trees_at ts) next) → IfSome next (AreTermsOf g ts ss) → IfSome made (AreIn ts) → IfSome made (AreTermsOf g ts ss)
  next_fits ss None None q k w = k
  next_fits ss None (Some made) q k w = cc
  next_fits ss (Some ids) None q k w = cc
  next_fits ss (Some ids) (Some made) q k w = args_fit ss ids made (let same : trees_at ts made ≡ map (put_tree e) (trees_at ts ids) = cc in same) k w

  pub put_summand_fits : (params : List VarId) (s t : PlainSummand) → All (IsVariable g) t.sums → trees_of_summand ts t ≡ put_in_summand e t.sums (trees_of_summand ts s) → IsSummandIn ts t → SummandFits g ts params s → SummandFits g ts params t
  put_summand_fits params s t vs q w k = record {
    sums = vs;
    condition = record { within = w.condition; sorted = subst (λ (z : TreeSummand). HasTreeSort g z.condition bool_sort) (sym q) (keeps (tree_at ts s.condition) bool_sort k.condition.sorted) };
    label = label_fits s.label t.label (ap (λ (z : TreeSummand). z.label) q) k.label w.label;
    next = next_fits (map (sort_of_variable g) params) s.next t.next (ap (λ (z : TreeSummand). z.next) q) k.next w.next;
  }

-- ---- the whole process
-- the names that no sum may have are taken
pub used_are_taken : (g : Sig) (params : List VarId) → IsSignature g → All (IsVariable g) params → All (HasTakenName g) params → AreTaken g (IsUsed g params)
used_are_taken g params s own taken n u = ⊎_elim
    (λ i. let r = contains_map (name_of g) params n i in subst (λ z. Contains g.taken z) (sym r.1.1) (taken_name g r.0 (All-contains (IsVariable g) params r.0 own r.1.0) (All-contains (HasTakenName g) params r.0 taken r.1.0)))
    (λ i. functions_taken g s n i) u

-- the same names are used before the signature is grown by names
used_before : (g h : Sig) (params : List VarId) → IsSignature g → GrowsByNames g h → All (IsVariable g) params → (n : NameId) → IsUsed h params n → IsUsed g params n
used_before g h params s w own n u = ⊎_elim
    (λ i. inl (subst (λ z. Contains z n) (names_kept g h params w.grown own) i))
    (λ i. inr (subst (λ ns. Contains ns n) (function_names_stay g h s w.grown w.functions) i)) u

-- the sums are apart from the parameters, whose names they haven't
sums_apart : (g h : Sig) (params xs ys : List VarId) → GrowsByNames g h → All (IsVariable g) params → SumsStand g h (IsUsed g params) xs ys → Apart (numbers_of ys) (numbers_of params)
sums_apart g h params xs ys w own s v i j =
    let y = contains_map (λ (x : VarId). x.0) ys v i in
    let p = contains_map (λ (x : VarId). x.0) params v j in
    let same : y.0 ≡ p.0 = ap (λ n. record { 0 = n }) (sym y.1.1 ∙ p.1.1) in
    let name : name_of h y.0 ≡ name_of g p.0 = ap (name_of h) same ∙ name_kept g h p.0 w.grown (All-contains (IsVariable g) params p.0 own p.1.0) in
    All-contains (λ y. ¬ (IsUsed g params (name_of h y))) ys y.0 s.unused y.1.0 (inl (subst (λ n. Contains (names_of g params) n) (sym name) (map_contains (name_of g) params p.0 p.1.0)))

-- a summand and the one with named sums
pub record StandsNamed (h : Sig) (us : List Tree) (params : List VarId) (s t : PlainSummand) : Type 0 where
  pub same : SameSorts (map (bound_at (entries_of h us)) s.sums) (map (bound_at (entries_of h us)) t.sums)
  pub means : summand_of (entries_of h us) t ≡ with_sums (map (bound_at (entries_of h us)) t.sums) (summand_of (entries_of h us) s)
  pub fits : SummandFits h us params t
  pub apart : Apart (numbers_of t.sums) (numbers_of params)
  pub distinct : AreDistinct (numbers_of t.sums)
  pub taken : All (HasTakenName h) t.sums
  pub names : HasOwnNames h params t

module _ (g h : Sig) (ts us : List Tree) (params : List VarId) (table : IsTable h) (first : HasFirstFunctions h) (grow : BothGrow g h ts us) (w : GrowsByNames g h) (own : All (IsVariable g) params) (stands : IsSignature g) where
  stands_named : (s t : PlainSummand) → IsSummandIn ts s → All (IsVariable g) s.sums → SummandFits h us params s → HasOtherSums ts us s t → IsSummandIn us t → SumsStand g h (IsUsed g params) s.sums t.sums → StandsNamed h us params s t
  stands_named s t old vs k q i z =
      let kept = summand_kept ts us grow.pool s old in
      let moved : trees_of_summand us t ≡ put_in_summand (renaming_tree s.sums t.sums) t.sums (trees_of_summand us s) = q ∙ ap (put_in_summand (renaming_tree s.sums t.sums) t.sums) (sym kept) in
      let sorts : map (sort_of_variable h) t.sums ≡ map (sort_of_variable h) s.sums = z.sorts ∙ sym (sorts_kept g h s.sums w.grown vs) in
      let keeps = keeps_put h first (renaming_tree s.sums t.sums) (λ v r j. renaming_sorted h s.sums t.sums k.sums z.variables sorts v r j) in
      record {
        same = same_sorts_meant h us s.sums t.sums k.sums z.variables sorts;
        means = summand_read h us t i ∙ ap (meant_summand h) moved ∙ moved_means h table us s t.sums (fitting_is_in h us params s k);
        fits = put_summand_fits h us (renaming_tree s.sums t.sums) keeps params s t z.variables moved i k;
        apart = sums_apart g h params s.sums t.sums w own z;
        distinct = z.distinct;
        names = (All-weaker (λ y. ¬ (IsUsed g params (name_of h y))) (λ y. ¬ (IsUsed h params (name_of h y))) (λ y n u. n (used_before g h params stands w own (name_of h y) u)) t.sums z.unused, z.names_differ);
        taken = all_from (HasTakenName h) t.sums (λ y j. name_taken h y (All-contains (IsVariable h) t.sums y z.variables j) (All-contains (λ y. Contains h.taken (name_of h y)) t.sums y z.taken j));
      }

  all_stand : (ss named : List PlainSummand) → All (IsSummandIn ts) ss → All (λ (s : PlainSummand). All (IsVariable g) s.sums) ss → All (SummandFits h us params) ss → AllZip (HasOtherSums ts us) ss named → All (IsSummandIn us) named
      → AllZip (SumsStand g h (IsUsed g params)) (map (λ (s : PlainSummand). s.sums) ss) (map (λ (s : PlainSummand). s.sums) named) → AllZip (StandsNamed h us params) ss named
  all_stand [] [] a b c q i z = tt
  all_stand [] (t ∷ more) a b c q i z = absurd q
  all_stand (s ∷ ss) [] a b c q i z = absurd q
  all_stand (s ∷ ss) (t ∷ more) a b c q i z = (
    stands_named s t (All-head (IsSummandIn ts) s ss a) (All-head (λ (s : PlainSummand). All (IsVariable g) s.sums) s ss b) (All-head (SummandFits h us params) s ss c) q.0 (All-head (IsSummandIn us) t more i) z.0,
    all_stand ss more (All-tail (IsSummandIn ts) s ss a) (All-tail (λ (s : PlainSummand). All (IsVariable g) s.sums) s ss b) (All-tail (SummandFits h us params) s ss c) q.1 (All-tail (IsSummandIn us) t more i) z.1,
  )

  others : (ss named : List PlainSummand) → AllZip (StandsNamed h us params) ss named → HaveOtherSums (map (summand_of (entries_of h us)) ss) (map (summand_of (entries_of h us)) named)
  others [] [] z = no_summand
  others [] (t ∷ more) z = absurd z
  others (s ∷ ss) [] z = absurd z
  others (s ∷ ss) (t ∷ more) z =
      subst (λ y. HaveOtherSums (map (summand_of (entries_of h us)) (s ∷ ss)) (y ∷ map (summand_of (entries_of h us)) more)) (sym z.0.means)
      (one_summand (map (bound_at (entries_of h us)) t.sums) z.0.same (others ss more z.1))

  each_second : (P : PlainSummand → Type 0) → ((s t : PlainSummand) → StandsNamed h us params s t → P t) → (ss named : List PlainSummand) → AllZip (StandsNamed h us params) ss named → All P named
  each_second P f [] [] z = All-nil P
  each_second P f [] (t ∷ more) z = absurd z
  each_second P f (s ∷ ss) [] z = absurd z
  each_second P f (s ∷ ss) (t ∷ more) z = All-cons P t more (f s t z.0) (each_second P f ss more z.1)

six_functions : (texts : List (List ℕ)) (new : List Function) → map sorts_of (take 6 (built_ins texts first_table ++ new)) ≡ map (λ row. (row_sorts row, row_result row)) first_rows
unfolding first_table first_rows truth_rows sort_rows
six_functions texts new = refl

pub first_functions : (g : Sig) → IsComplete g → HasFirstFunctions g
first_functions g c = ap (λ fs. map sorts_of (take 6 fs)) c.first_functions_stay.1 ∙ six_functions g.texts c.first_functions_stay.0

all_mapped : {A B : Type 0} (f : A → B) (P : B → Type 0) (xs : List A) → All (λ x. P (f x)) xs → All P (map f xs)
all_mapped f P [] h = All-nil P
all_mapped f P (x ∷ xs) h = All-cons P (f x) (map f xs) (All-head (λ z. P (f z)) x xs h) (all_mapped f P xs (All-tail (λ z. P (f z)) x xs h))

-- naming stands: the result fits, and has other sums alone
pub record NamingStands (h : Sig) (us : List Tree) (l k : PlainLinear) : Type 0 where
  pub before : Fits h us l
  pub fits : Fits h us k
  pub renews : RenewsSums (linear_of (entries_of h us) l) (linear_of (entries_of h us) k)
  pub names : HaveOwnNames h k

pub naming_stands : (g h : Sig) (ts us : List Tree) (l k : PlainLinear) → IsSignature g → Extends ts us → Fits g ts l → SumsAreNamed g h ts us l k → All (IsSummandIn us) k.summands → NamingStands h us l k
naming_stands g h ts us l k s extends fits named within =
    let used = used_are_taken g l.params s fits.params fits.taken in
    let sums_are : All (All (IsVariable g)) (map (λ (s : PlainSummand). s.sums) l.summands) = all_mapped (λ (s : PlainSummand). s.sums) (All (IsVariable g)) l.summands (All-weaker (SummandFits g ts l.params) (λ (s : PlainSummand). All (IsVariable g) s.sums) (λ s f. f.sums) l.summands fits.summands) in
    let names_are : All (All (λ x. Contains g.taken (name_of g x))) (map (λ (s : PlainSummand). s.sums) l.summands) =
    all_mapped (λ (s : PlainSummand). s.sums) (All (λ x. Contains g.taken (name_of g x))) l.summands
    (both_weaker (SummandFits g ts l.params) (λ (s : PlainSummand). All (HasTakenName g) s.sums) (λ (s : PlainSummand). All (λ x. Contains g.taken (name_of g x)) s.sums) (λ s f t. both_weaker (IsVariable g) (HasTakenName g) (λ x. Contains g.taken (name_of g x)) (taken_name g) s.sums f.sums t) l.summands fits.summands fits.sums_taken) in
    let n = all_sums_named (IsUsed g l.params) g s used (map (λ (s : PlainSummand). s.sums) l.summands) h (map (λ (s : PlainSummand). s.sums) k.summands) named.names sums_are names_are in
    let grow : BothGrow g h ts us = record { signature = n.0.grown; pool = extends } in
    let before = what_fits_fits_still g h ts us l s.table s.complete n.0.stands.table grow fits in
    let all = all_stand g h ts us l.params n.0.stands.table (first_functions h n.0.stands.complete) grow n.0 fits.params s l.summands k.summands
    (All-weaker (SummandFits g ts l.params) (IsSummandIn ts) (λ s f. fitting_is_in g ts l.params s f) l.summands fits.summands)
    (All-weaker (SummandFits g ts l.params) (λ (s : PlainSummand). All (IsVariable g) s.sums) (λ s f. f.sums) l.summands fits.summands)
    before.summands named.summands within n.1 in
    let e = entries_of h us in
    let first = first_functions h n.0.stands.complete in
    let renews : RenewsSums (linear_of e l) (linear_of e k) = record {
      params = ap (map (bound_at e)) named.params;
      summands = others g h ts us l.params n.0.stands.table first grow n.0 fits.params s l.summands k.summands all;
    } in
    let each = each_second g h ts us l.params n.0.stands.table first grow n.0 fits.params s in
    let own : All (λ (t : PlainSummand). HasOwnSums (linear_of e k).params (summand_of e t)) k.summands =
    each (λ (t : PlainSummand). HasOwnSums (linear_of e k).params (summand_of e t))
    (λ s t z. (
      subst (λ a. Apart a (variables (map (bound_at e) k.params))) (sym (numbers_meant h us t.sums)) (subst (λ b. Apart (numbers_of t.sums) b) (sym (numbers_meant h us k.params ∙ ap numbers_of named.params)) z.apart),
      subst AreDistinct (sym (numbers_meant h us t.sums)) z.distinct,
    )) l.summands k.summands all in
    let same = subst (λ z. Fits h us z) (ap₂ (λ ps is. record { params = ps; init = is; summands = l.summands }) (sym named.params) (sym named.init)) before in
    record {
      before = before;
      fits = record {
        params = same.params;
        init = same.init;
        closed = same.closed;
        summands = subst (λ ps. All (SummandFits h us ps) k.summands) (sym named.params) (each (SummandFits h us l.params) (λ s t z. z.fits) l.summands k.summands all);
        linear = renewed_linear (linear_of e l) (linear_of e k) before.linear renews
            (λ x i. let r = contains_map (summand_of e) k.summands x i in subst (λ z. HasOwnSums (linear_of e k).params z) (sym r.1.1) (All-contains (λ (t : PlainSummand). HasOwnSums (linear_of e k).params (summand_of e t)) k.summands r.0 own r.1.0));
        taken = same.taken;
        sums_taken = each (λ (t : PlainSummand). All (HasTakenName h) t.sums) (λ s t z. z.taken) l.summands k.summands all;
      };
      renews = renews;
      names = subst (λ ps. All (HasOwnNames h ps) k.summands) (sym named.params) (each (HasOwnNames h l.params) (λ s t z. z.names) l.summands k.summands all);
    }

-- ---- the link
pub naming_good : (h : Sig) (us : List Tree) (l k : PlainLinear) → IsSignature h → NamingStands h us l k → k.init ≡ l.init
    → IsGoodOver h (Dropped (all_kept (linear_of (entries_of h us) l).params) (linear_of (entries_of h us) l) (linear_of (entries_of h us) k)) (linear_state (entries_of h us) l) (linear_state (entries_of h us) k)
naming_good h us l k s n same th on con =
    let e = entries_of h us in
    let L = linear_of e l in
    let K = linear_of e k in
    let vs = variable_sorts h in
    let left = linear_grown (data_meant h) th.declared on.grows vs L (what_fits_is_sorted h us l s.table s.complete n.before) in
    let right = linear_grown (data_meant h) th.declared on.grows vs K (what_fits_is_sorted h us k s.table s.complete n.fits) in
    let from = terms_grown (data_meant h) th.declared on.grows [] (terms_of (initial_of e l)) (sorts L.params) n.before.closed in
    let to = terms_grown (data_meant h) th.declared on.grows [] (terms_of (initial_of e k)) (sorts K.params) n.fits.closed in
    record {
      starts = up_to (alike_refl th (state_of L (initial_of e l)))
          (dropped_state from to (equal_kept L.params from (subst (λ is. Equals th (initial_of e l) (map (term_at e) is)) (sym same) (equals_refl th (initial_of e l)))))
          (alike_refl th (state_of K (initial_of e k)));
      follows = renewed_good th vs L K n.before.linear n.fits.linear left right n.renews;
    }

-- ---- what the call says
pub record NamingDone (g h : Sig) (ts us : List Tree) (l k : PlainLinear) : Type 0 where
  pub named : SumsAreNamed g h ts us l k
  pub fits : Fits h us k
  pub names : HaveOwnNames h k
  pub bisimilar : NamingIsGood h us l k

pub naming_done : (g h : Sig) (ts us : List Tree) (l k : PlainLinear) → IsSignature g → IsSignature h → Extends ts us → Fits g ts l → k.params ≡ l.params → k.init ≡ l.init
    → (IsOne : NameId → Type 0) → ((n : NameId) → IsOne n ↔ IsUsed g l.params n) → NamesSummands IsOne g h ts us l.summands k.summands → NamingDone g h ts us l k
naming_done g h ts us l k s stands extends fits params init IsOne f n =
    let m = names_summands_along IsOne (IsUsed g l.params) f g h ts us l.summands k.summands n in
    let named : SumsAreNamed g h ts us l k = record { params = params; init = init; names = m.names; summands = m.summands } in
    let done = naming_stands g h ts us l k s extends fits named m.within in
    record { named = named; fits = done.fits; names = done.names; bisimilar = naming_good h us l k stands done init }
