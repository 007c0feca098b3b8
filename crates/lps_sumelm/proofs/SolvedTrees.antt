-- What a step over the trees of a pool means.
use Rattle.std.proofs.Common.{◌≡◌, ◌==◌, true, false, not, List, [], ◌∷◌, ◌++◌, map, refl, sym, ap, ap₂, ◌∙◌, subst, cond, if◌then◌else◌, Option, Some, None}
use Rattle.std.specs.Prelude.{option_map, IfSome, slice_get}
use Rattle.std.specs.List.{All, AllByRecursion}
use Rattle.std.proofs.lemmas.List.{map-append}
use Rattle.std.proofs.lemmas.List.Elements.{All-head, All-tail, All-nil, All-cons}
use Rattle.std.proofs.lemmas.Option.{slice_get_within}
use Rattle.data_theory.specs.declared.ids.ActId.{ActId}
use Rattle.data_theory.specs.declared.ids.VarId.{VarId}
use Rattle.data_theory.specs.declared.ids.TermId.{TermId}
use Rattle.data_theory.specs.Terms.{Term, variable as var, put}
use Rattle.data_theory.specs.Environments.{Binding, term_in}
use Rattle.data_theory.specs.Signature.{Sig}
use Rattle.data_theory.specs.WholeSignatures.{IsSignature}
use Rattle.data_theory.specs.IdTrees.{Tree, variable, numeral, function, none, more, trees_of, put_tree}
use Rattle.data_theory.specs.IdTerms.{term_under, IsTreeWithin, AreTreesWithin}
use Rattle.data_theory.proofs.StandingLemmas.{signatures_have_truth_functions}
use Rattle.term_pool.specs.HeadTrees.{tree_at, trees_at, IsIn, AreIn}
use Rattle.process_terms.specs.PlainProcesses.{PlainAction}
use Rattle.process_terms.specs.Labels.{put_label}
use Rattle.process_terms.specs.Communication.{conjunction_of}
use Rattle.process_terms.specs.Meanings.{bound_at}
use Rattle.process_terms.specs.SignatureEntries.{entries_of}
use Rattle.bisim_laws.specs.LinearProcesses.{is_true, put_next}
use Rattle.data_rewriter.specs.Standing.{IsTerm, term_at, listed_at}
use Rattle.lps_core.specs.Conditions.{parts, all_parts, without_true, joined}
use Rattle.lps_core.specs.PlainLinears.{PlainSummand}
use Rattle.lps_core.specs.TreeConditions.{tree_parts, is_true_tree, trees_without_true, conjunction_tree}
use Rattle.lps_core.specs.TreeSummands.{TreeAction, TreeSummand, trees_of_action, trees_of_label, trees_of_summand, IsActionIn, IsSummandIn, put_actions, meant_action, meant_summand}
use Rattle.lps_core.proofs.MeantParts.{parts_mean_parts, chains_mean_chains}
use Rattle.lps_core.proofs.MeantTrees.{Means, puts_mean}
use Rattle.lps_core.proofs.PutWithin.{put_within}
use Rattle.lps_sumelm.specs.declared.solutions.Solution.{Solution}
use Rattle.lps_sumelm.specs.Solving.{without, solve}
use Rattle.lps_sumelm.specs.SummandsInCode.{meant_solution, sums_but, parts_of_each, given_tree, solved_trees, IsActionOver, IsSummandOver}

-- ---- sums
sums_mean : (g : Sig) (v : VarId) (xs : List VarId) → map (bound_at (entries_of g [])) (sums_but v xs) ≡ without v.0 (map (bound_at (entries_of g [])) xs)
sums_mean g v [] = refl
sums_mean g v (x ∷ xs) = elim (x.0 == v.0) as (λ b. map (bound_at (entries_of g [])) (cond (not b) (x ∷ sums_but v xs) (sums_but v xs)) ≡ cond b (without v.0 (map (bound_at (entries_of g [])) xs)) (bound_at (entries_of g []) x ∷ without v.0 (map (bound_at (entries_of g [])) xs))) [ true ↦ sums_mean g v xs | false ↦ ap (λ l. bound_at (entries_of g []) x ∷ l) (sums_mean g v xs) ]

-- ---- conditions
without_append : (xs ys : List Term) → without_true (xs ++ ys) ≡ without_true xs ++ without_true ys
without_append [] ys = refl
without_append (x ∷ xs) ys = elim (is_true x) as (λ b. (if b then without_true (xs ++ ys) else x ∷ without_true (xs ++ ys)) ≡ (if b then without_true xs else x ∷ without_true xs) ++ without_true ys) [ true ↦ without_append xs ys | false ↦ ap (λ zs. x ∷ zs) (without_append xs ys) ]

abbrev AllWithin : Sig → List Tree → Type 0
AllWithin g us = AllByRecursion (IsTreeWithin g) us

within_append : (g : Sig) (us vs : List Tree) → AllWithin g us → AllWithin g vs → AllWithin g (us ++ vs)
within_append g [] vs h k = k
within_append g (u ∷ us) vs h k = (h.0, within_append g us vs h.1 k)

module _ (g : Sig) (stands : IsSignature g) where
  each_means : (us : List Tree) → AllWithin g us → map (term_under g) (parts_of_each us) ≡ without_true (all_parts (map (term_under g) us))
  each_means [] h = refl
  each_means (u ∷ us) h =
      map-append (term_under g) (trees_without_true (tree_parts u)) (parts_of_each us)
      ∙ ap₂ (λ x y. x ++ y) (parts_mean_parts g stands.table stands.complete u h.0) (each_means us h.1)
      ∙ sym (without_append (parts (term_under g u)) (all_parts (map (term_under g) us)))

  joined_means : (us : List Tree) → AllWithin g us → term_under g (conjunction_tree (parts_of_each us)) ≡ joined (map (term_under g) us)
  joined_means us h = chains_mean_chains g stands.table stands.complete (parts_of_each us) ∙ ap conjunction_of (each_means us h)

  -- the trees stay within the tables
  parts_within : (t : Tree) → IsTreeWithin g t → AllWithin g (tree_parts t)
  parts_within (variable v) h = (h, tt)
  parts_within (numeral s z) h = (h, tt)
  parts_within (function f none) h = (h, tt)
  parts_within (function f (more t none)) h = (h, tt)
  parts_within (function f (more t (more u none))) h =
      elim (f.0 == 9) as (λ b. AllWithin g (cond b (t ∷ tree_parts u) (function f (more t (more u none)) ∷ []))) [ true ↦ (h.1.0, parts_within u h.1.1.0) | false ↦ (h, tt) ]
  parts_within (function f (more t (more u (more v ts)))) h = (h, tt)

  fewer_within : (ts : List Tree) → AllWithin g ts → AllWithin g (trees_without_true ts)
  fewer_within [] h = tt
  fewer_within (t ∷ ts) h = elim (is_true_tree t) as (λ b. AllWithin g (if b then trees_without_true ts else t ∷ trees_without_true ts)) [ true ↦ fewer_within ts h.1 | false ↦ (h.0, fewer_within ts h.1) ]

  each_within : (us : List Tree) → AllWithin g us → AllWithin g (parts_of_each us)
  each_within [] h = tt
  each_within (u ∷ us) h = within_append g (trees_without_true (tree_parts u)) (parts_of_each us) (fewer_within (tree_parts u) (parts_within u h.0)) (each_within us h.1)

  chain_within : (us : List Tree) → AllWithin g us → IsTreeWithin g (conjunction_tree us)
  chain_within [] h = (let k = signatures_have_truth_functions g stands in slice_get_within g.functions 6 _ k.true_stands.stands, tt)
  chain_within (u ∷ []) h = h.0
  chain_within (u ∷ v ∷ us) h =
      (let k = signatures_have_truth_functions g stands in slice_get_within g.functions 9 _ k.and_stands.stands, (h.0, (chain_within (v ∷ us) h.1, tt)))

  -- terms of a later pool whose trees are these
  pub terms_over : (us : List Tree) (made : List TermId) (ws : List Tree) → trees_at us made ≡ ws → AreIn us made → AllWithin g ws → All (IsTerm g us) made
  terms_over us [] ws q i h = All-nil (IsTerm g us)
  terms_over us (id ∷ made) [] q i h = absurd (cons_nil q)
    where
      cons_nil : {x : Tree} {xs : List Tree} → x ∷ xs ≡ [] → ⊥
      cons_nil q = cc
  terms_over us (id ∷ made) (w ∷ ws) q i h =
      All-cons (IsTerm g us) id made
      (record { inside = All-head (IsIn us) id made i; within = subst (IsTreeWithin g) (sym (first q)) h.0 })
      (terms_over us made ws (others q) (All-tail (IsIn us) id made i) h.1)
    where
      first : {x y : Tree} {xs ys : List Tree} → x ∷ xs ≡ y ∷ ys → x ≡ y
      first q = cc

      others : {x y : Tree} {xs ys : List Tree} → x ∷ xs ≡ y ∷ ys → xs ≡ ys
      others q = cc

  pub terms_listed : (ts : List Tree) (ids : List TermId) → map (term_under g) (trees_at ts ids) ≡ listed_at g ts ids
  terms_listed ts [] = refl
  terms_listed ts (id ∷ ids) = ap (λ l. term_at g ts id ∷ l) (terms_listed ts ids)

  -- the parts of a condition, as ids of the pool
  pub parts_stand : (ts : List Tree) (c : TermId) (ids : List TermId) → IsTerm g ts c → trees_at ts ids ≡ trees_without_true (tree_parts (tree_at ts c)) → AreIn ts ids → All (IsTerm g ts) ids
  parts_stand ts c ids h e i = terms_over ts ids (trees_without_true (tree_parts (tree_at ts c))) e i (fewer_within (tree_parts (tree_at ts c)) (parts_within (tree_at ts c) h.within))

  pub parts_mean : (ts : List Tree) (c : TermId) (ids : List TermId) → IsTerm g ts c → trees_at ts ids ≡ trees_without_true (tree_parts (tree_at ts c)) → listed_at g ts ids ≡ without_true (parts (term_at g ts c))
  parts_mean ts c ids h e = sym (terms_listed ts ids) ∙ ap (map (term_under g)) e ∙ parts_mean_parts g stands.table stands.complete (tree_at ts c) h.within

  -- ---- what is put in
  module _ (ts : List Tree) (f : Solution) where
    abbrev b : Binding
    b = meant_solution g ts f

    abbrev e : VarId → Tree
    e = given_tree ts f

    given_means : Means g e (b ∷ [])
    given_means x = elim (f.var.0 == x.0) as (λ c. term_under g (cond c (tree_at ts f.term) (variable x)) ≡ cond c (term_under g (tree_at ts f.term)) (var x.0)) [ true ↦ refl | false ↦ refl ]

    given_within : IsTerm g ts f.term → (x : VarId) → IsTreeWithin g (e x)
    given_within h x = elim (f.var.0 == x.0) as (λ c. IsTreeWithin g (cond c (tree_at ts f.term) (variable x))) [ true ↦ h.within | false ↦ tt ]

    all_put_within : ((x : VarId) → IsTreeWithin g (e x)) → (us : List Tree) → AllWithin g us → AllWithin g (map (put_tree e) us)
    all_put_within w [] h = tt
    all_put_within w (u ∷ us) h = (put_within g stands.complete e w u h.0, all_put_within w us h.1)

    list_within : (us : List Tree) → AllWithin g us → AreTreesWithin g (trees_of us)
    list_within [] h = tt
    list_within (u ∷ us) h = (h.0, list_within us h.1)

    label_solved : (m : List TreeAction) → map (meant_action g) (put_actions e m) ≡ put_label (b ∷ []) (map (meant_action g) m)
    label_solved [] = refl
    label_solved (a ∷ m) = ap₂ (λ args n. record { name = (meant_action g a).name; sorts = (meant_action g a).sorts; args = args } ∷ n) (puts_mean g stands.table e (b ∷ []) given_means a.args) (label_solved m)

    next_solved : (o : Option (List Tree)) → option_map (map (term_under g)) (option_map (map (put_tree e)) o) ≡ put_next (b ∷ []) (option_map (map (term_under g)) o)
    next_solved None = refl
    next_solved (Some us) = ap Some (puts_mean g stands.table e (b ∷ []) given_means us)

    all_within : (ids : List TermId) → All (IsTerm g ts) ids → AllWithin g (trees_at ts ids)
    all_within [] h = tt
    all_within (id ∷ ids) h = ((All-head (IsTerm g ts) id ids h).within, all_within ids (All-tail (IsTerm g ts) id ids h))

    -- the step over trees means the step
    pub solved_means : IsTerm g ts f.term → (rest : List TermId) → All (IsTerm g ts) rest → (s : TreeSummand) → meant_summand g (solved_trees ts f (trees_at ts rest) s) ≡ solve b (listed_at g ts rest) (meant_summand g s)
    solved_means term rest all s =
        let puts = all_put_within (given_within term) (trees_at ts rest) (all_within rest all) in
        ap₂ (λ xs c. record { sums = xs; condition = c; label = map (meant_action g) (put_actions e s.label); next = option_map (map (term_under g)) (option_map (map (put_tree e)) s.next) })
        (sums_mean g f.var s.sums)
        (joined_means (map (put_tree e) (trees_at ts rest)) puts ∙ ap joined (puts_mean g stands.table e (b ∷ []) given_means (trees_at ts rest) ∙ ap (map (put (term_in (b ∷ [])))) (terms_listed ts rest)))
        ∙ ap₂ (λ m n. record { sums = without b.var (map (bound_at (entries_of g [])) s.sums); condition = joined (map (put (term_in (b ∷ []))) (listed_at g ts rest)); label = m; next = n })
        (label_solved s.label) (next_solved s.next)

    -- ---- the terms are over the signature
    pub condition_within : IsTerm g ts f.term → (rest : List TermId) → All (IsTerm g ts) rest → IsTreeWithin g (conjunction_tree (parts_of_each (map (put_tree e) (trees_at ts rest))))
    condition_within term rest all = chain_within (parts_of_each (map (put_tree e) (trees_at ts rest))) (each_within (map (put_tree e) (trees_at ts rest)) (all_put_within (given_within term) (trees_at ts rest) (all_within rest all)))

    actions_over : IsTerm g ts f.term → (us : List Tree) (m n : List PlainAction) → trees_of_label us n ≡ put_actions e (trees_of_label ts m) → All (IsActionIn us) n → All (IsActionOver g ts) m → All (IsActionOver g us) n
    actions_over term us [] [] q i h = All-nil (IsActionOver g us)
    actions_over term us [] (b ∷ n) q i h = let never : ⊥ = cc in absurd never
    actions_over term us (a ∷ m) [] q i h = let never : ⊥ = cc in absurd never
    actions_over term us (a ∷ m) (b ∷ n) q i h =
        let k = All-head (IsActionOver g ts) a m h in
        let first : trees_of_action us b ≡ record { act = a.act; args = map (put_tree e) (trees_at ts a.args) } = cc in
        let others : trees_of_label us n ≡ put_actions e (trees_of_label ts m) = cc in
        All-cons (IsActionOver g us) b n
        (record {
          key = k.key;
          stands = ap (λ (z : ActId). slice_get g.actions z.0) (ap (λ (z : TreeAction). z.act) first) ∙ k.stands;
          args = terms_over us b.args (map (put_tree e) (trees_at ts a.args)) (ap (λ (z : TreeAction). z.args) first) (All-head (IsActionIn us) b n i) (all_put_within (given_within term) (trees_at ts a.args) (all_within a.args k.args));
        })
        (actions_over term us m n others (All-tail (IsActionIn us) b n i) (All-tail (IsActionOver g ts) a m h))

    next_over : IsTerm g ts f.term → (us : List Tree) (o q : Option (List TermId)) → option_map (trees_at us) q ≡ option_map (map (put_tree e)) (option_map (trees_at ts) o) → IfSome q (AreIn us) → IfSome o (All (IsTerm g ts)) → IfSome q (All (IsTerm g us))
    next_over term us o None r i h = tt
    next_over term us None (Some made) r i h = let never : ⊥ = cc in absurd never
    next_over term us (Some ids) (Some made) r i h =
        let same : trees_at us made ≡ map (put_tree e) (trees_at ts ids) = cc in
        terms_over us made (map (put_tree e) (trees_at ts ids)) same i (all_put_within (given_within term) (trees_at ts ids) (all_within ids h))

    pub solved_over : IsTerm g ts f.term → (rest : List TermId) → All (IsTerm g ts) rest → (us : List Tree) (s made : PlainSummand) → trees_of_summand us made ≡ solved_trees ts f (trees_at ts rest) (trees_of_summand ts s) → IsSummandIn us made → IsSummandOver g ts s → IsSummandOver g us made
    solved_over term rest all us s made q i h = record {
      condition = record { inside = i.condition; within = subst (IsTreeWithin g) (sym (ap (λ (z : TreeSummand). z.condition) q)) (condition_within term rest all) };
      label = actions_over term us s.label made.label (ap (λ (z : TreeSummand). z.label) q) i.label h.label;
      next = next_over term us s.next made.next (ap (λ (z : TreeSummand). z.next) q) i.next h.next;
    }
