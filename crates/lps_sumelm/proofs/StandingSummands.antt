-- Summands that stand in a process: from what fits and back, and through each pass.
use Rattle.std.proofs.Common.{◌≡◌, ◌<◌, ℕ, not, List, [], ◌∷◌, map, length, refl, sym, ap, ap₂, ◌∙◌, subst, cond, ⊎_elim, Option, Some, None}
use Rattle.std.specs.Prelude.{Contains, option_map, IfSome, slice_get}
use Rattle.std.specs.List.{All}
use Rattle.std.proofs.lemmas.List.Elements.{All-head, All-tail, All-nil, All-cons, All-contains, All-weaker}
use Rattle.std.proofs.lemmas.Bool.Decides.{eqb_tells}
use Rattle.std.proofs.lemmas.Option.{slice_get_within, get_or_from_slice_get}
use Rattle.data_theory.specs.declared.ids.SortId.{SortId}
use Rattle.data_theory.specs.declared.ids.VarId.{VarId}
use Rattle.data_theory.specs.declared.ids.TermId.{TermId}
use Rattle.data_theory.specs.Complete.{IsActionWithin}
use Rattle.data_theory.specs.Terms.{Term}
use Rattle.data_theory.specs.Declarations.{HasSort, HaveSorts}
use Rattle.data_theory.specs.Environments.{terms_of}
use Rattle.data_theory.specs.Keys.{Key}
use Rattle.data_theory.specs.Provable.{Equation}
use Rattle.data_theory.specs.Table.{bool_sort}
use Rattle.data_theory.specs.Signature.{Sig}
use Rattle.data_theory.specs.WholeSignatures.{IsSignature}
use Rattle.data_theory.specs.IdData.{data_meant}
use Rattle.data_theory.specs.Terms.{more}
use Rattle.data_theory.specs.IdTrees.{Tree, trees_of}
use Rattle.data_theory.specs.IdTerms.{sort_under, term_under, terms_under, variable_sorts, AreTreesWithin}
use Rattle.data_theory.proofs.IdTermLemmas.{sorted_trees_are_within}
use Rattle.data_theory.proofs.StandingLemmas.{variables_have_sorts_of_the_data}
use Rattle.term_pool.specs.HeadTrees.{tree_at, trees_at, IsIn, AreIn}
use Rattle.term_pool.specs.Pools.{Extends}
use Rattle.process_terms.specs.PlainProcesses.{PlainAction}
use Rattle.process_terms.specs.Processes.{Bound}
use Rattle.process_terms.specs.Meanings.{bound_at, action_at}
use Rattle.process_terms.specs.SignatureEntries.{entries_of, action_entry}
use Rattle.bisim_laws.specs.LinearProcesses.{sorts, variables, LabelIsSorted, action_sorted, NextIsSorted, next_sorted, IsSummand, SummandIsSorted}
use Rattle.bisim_laws.proofs.Firing.{contains_none, contains_first, contains_later, contains_cases}
use Rattle.data_rewriter.specs.Standing.{IsTerm, listed_at}
use Rattle.data_rewriter.proofs.Standings.{term_kept}
use Rattle.lps_core.specs.Fitting.{IsTermOf, AreTermsOf, IsActionOf, IsVariable, sort_of_variable, SummandFits, HasTakenName, Fits}
use Rattle.lps_core.specs.PlainLinears.{PlainSummand, PlainLinear, summand_of}
use Rattle.lps_core.specs.TreeSummands.{TreeSummand, trees_of_label, trees_of_summand, IsActionIn, IsSummandIn, meant_action, meant_summand}
use Rattle.lps_core.proofs.Members.{map_contains, all_from, all_at}
use Rattle.lps_core.proofs.MeantTrees.{summand_read}
use Rattle.lps_core.proofs.Staying.{read_mapped, boolean_meant, sorts_of_variables, sort_is_within, what_fits_is_sorted}
use Rattle.lps_sumelm.specs.declared.solutions.Solution.{Solution}
use Rattle.lps_sumelm.specs.Solutions.{IsFirst}
use Rattle.lps_sumelm.specs.Solving.{solve, conditions_of, without_unused}
use Rattle.lps_sumelm.specs.SummandsInCode.{meant_solution, summand_at, sums_but, solved_trees, IsActionOver, IsSummandOver, SummandStands, IsSummandAnswer}
use Rattle.lps_sumelm.proofs.SortedTrees.{sorted_back, all_sorted_back}
use Rattle.lps_sumelm.proofs.SolvableParts.{first_is_found}
use Rattle.lps_sumelm.proofs.SolvingSteps.{solve_shape, solve_sorts}
use Rattle.lps_sumelm.proofs.SimplifiedSummands.{becomes_shape, becomes_sorts}
use Rattle.lps_sumelm.proofs.UnusedSums.{unused_shape, unused_sorts}
use Rattle.lps_sumelm.proofs.SolvedTrees.{solved_means, solved_over}
use Rattle.lps_sumelm.proofs.SimplifiedInCode.{summand_stays_over}

-- Bool is a sort of the signature
bool_within : (g : Sig) → IsSignature g → bool_sort.0 < length g.sorts
bool_within g stands = let k = (stands.table.sorts.boolean_first 0).1 refl in slice_get_within g.sorts 0 k.0 k.1

-- ---- terms of sorts, and terms of the signature
module _ (g : Sig) (stands : IsSignature g) (ts : List Tree) where
  sorted_within : (s : SortId) (id : TermId) → IsTermOf g ts s id → IsTerm g ts id
  sorted_within s id h = record { inside = h.within; within = sorted_trees_are_within g stands.table (tree_at ts id) s h.sorted }

  all_sorted_within : (ss : List SortId) (ids : List TermId) → AreTermsOf g ts ss ids → All (IsTerm g ts) ids
  all_sorted_within ss [] h = All-nil (IsTerm g ts)
  all_sorted_within [] (id ∷ ids) h = absurd h.sorted
  all_sorted_within (s ∷ ss) (id ∷ ids) h =
      All-cons (IsTerm g ts) id ids (sorted_within s id (record { within = All-head (IsIn ts) id ids h.within; sorted = h.sorted.0 }))
      (all_sorted_within ss ids (record { within = All-tail (IsIn ts) id ids h.within; sorted = h.sorted.1 }))

  action_over : (a : PlainAction) → IsActionOf g ts a → IsActionOver g ts a
  action_over a h = record { key = h.key; stands = h.stands; args = all_sorted_within h.key.sorts a.args h.args }

  next_over : (ss : List SortId) (o : Option (List TermId)) → IfSome o (AreTermsOf g ts ss) → IfSome o (All (IsTerm g ts))
  next_over ss None h = tt
  next_over ss (Some ids) h = all_sorted_within ss ids h

  summand_over : (ps : List VarId) (s : PlainSummand) → SummandFits g ts ps s → IsSummandOver g ts s
  summand_over ps s h = record {
    condition = sorted_within bool_sort s.condition h.condition;
    label = All-weaker (IsActionOf g ts) (IsActionOver g ts) action_over s.label h.label;
    next = next_over (map (sort_of_variable g) ps) s.next h.next;
  }

  all_in : (ids : List TermId) → All (IsTerm g ts) ids → AreIn ts ids
  all_in ids h = All-weaker (IsTerm g ts) (IsIn ts) (λ id k. k.inside) ids h

  next_in : (o : Option (List TermId)) → IfSome o (All (IsTerm g ts)) → IfSome o (AreIn ts)
  next_in None h = tt
  next_in (Some ids) h = all_in ids h

  pub summand_in : (s : PlainSummand) → IsSummandOver g ts s → IsSummandIn ts s
  summand_in s h = record { condition = h.condition.inside; label = All-weaker (IsActionOver g ts) (IsActionIn ts) (λ a k. all_in a.args k.args) s.label h.label; next = next_in s.next h.next }

  pub summand_is_at : (s : PlainSummand) → IsSummandOver g ts s → summand_of (entries_of g ts) s ≡ summand_at g ts s
  summand_is_at s h = summand_read g ts s (summand_in s h)

  -- ---- a summand of a process that fits
  pub fitting_stands : (l : PlainLinear) (s : PlainSummand) → Fits g ts l → Contains l.summands s → SummandStands g ts l.params s
  fitting_stands l s fits i =
      let own = All-contains (SummandFits g ts l.params) l.summands s fits.summands i in
      let over = summand_over l.params s own in
      let among = map_contains (summand_of (entries_of g ts)) l.summands s i in
      record {
        params = fits.params;
        sums = own.sums;
        taken = All-contains (λ (s : PlainSummand). All (HasTakenName g) s.sums) l.summands s fits.sums_taken i;
        over = over;
        shape = subst (IsSummand (map (bound_at (entries_of g ts)) l.params)) (summand_is_at s over) (fits.linear.summands (summand_of (entries_of g ts) s) among);
        sorted = subst (SummandIsSorted (data_meant g) (variable_sorts g) (map (bound_at (entries_of g ts)) l.params)) (summand_is_at s over)
            ((what_fits_is_sorted g ts l stands.table stands.complete fits).summands (summand_of (entries_of g ts) s) among);
      }

  -- ---- back
  trees_within : (ids : List TermId) → All (IsTerm g ts) ids → AreTreesWithin g (trees_of (trees_at ts ids))
  trees_within [] h = tt
  trees_within (id ∷ ids) h = ((All-head (IsTerm g ts) id ids h).within, trees_within ids (All-tail (IsTerm g ts) id ids h))

  trees_mean : (ids : List TermId) → terms_under g (trees_of (trees_at ts ids)) ≡ terms_of (map (term_under g) (trees_at ts ids))
  trees_mean [] = refl
  trees_mean (id ∷ ids) = ap (λ z. more (term_under g (tree_at ts id)) z) (trees_mean ids)

  terms_back : (ss : List SortId) (ids : List TermId) → All (IsTerm g ts) ids → All (λ (s : SortId). s.0 < length g.sorts) ss → HaveSorts (data_meant g) (variable_sorts g) (terms_of (map (term_under g) (trees_at ts ids))) (map (sort_under g) ss) → AreTermsOf g ts ss ids
  terms_back ss ids h l k = record {
    within = all_in ids h;
    sorted = all_sorted_back g stands (trees_of (trees_at ts ids)) ss (trees_within ids h) l (subst (λ z. HaveSorts (data_meant g) (variable_sorts g) z (map (sort_under g) ss)) (sym (trees_mean ids)) k);
  }

  key_within : (key : Key) (k : ℕ) → slice_get g.actions k ≡ Some key → All (λ (s : SortId). s.0 < length g.sorts) key.sorts
  key_within key k e = (all_at (IsActionWithin (length g.texts) (length g.sorts)) g.actions k key stands.complete.within.actions e).takes

  its_sorts : (a : PlainAction) (o : IsActionOver g ts a) → (action_at (entries_of g []) a.act).sorts ≡ map (sort_under g) o.key.sorts
  its_sorts a o =
      ap (λ z. z.sorts)
      (read_mapped (action_entry g) g.actions a.act.0 (record { name = []; sorts = [] }) o.key (slice_get_within g.actions a.act.0 o.key o.stands) ∙ ap (action_entry g) (get_or_from_slice_get g.actions a.act.0 o.key o.key o.stands))

  actions_back : (m : List PlainAction) → All (IsActionOver g ts) m → LabelIsSorted (data_meant g) (variable_sorts g) (map (meant_action g) (trees_of_label ts m)) → All (IsActionOf g ts) m
  actions_back [] h k = All-nil (IsActionOf g ts)
  actions_back (a ∷ m) h (action_sorted k n) =
      let o = All-head (IsActionOver g ts) a m h in
      All-cons (IsActionOf g ts) a m
      (record {
        key = o.key;
        stands = o.stands;
        args = terms_back o.key.sorts a.args o.args (key_within o.key a.act.0 o.stands) (subst (λ z. HaveSorts (data_meant g) (variable_sorts g) (terms_of (map (term_under g) (trees_at ts a.args))) z) (its_sorts a o) k);
      })
      (actions_back m (All-tail (IsActionOver g ts) a m h) n)

  sorts_within : (ps : List VarId) → All (IsVariable g) ps → All (λ (s : SortId). s.0 < length g.sorts) (map (sort_of_variable g) ps)
  sorts_within [] h = All-nil (λ (s : SortId). s.0 < length g.sorts)
  sorts_within (p ∷ ps) h =
      All-cons (λ (s : SortId). s.0 < length g.sorts) (sort_of_variable g p) (map (sort_of_variable g) ps) (sort_is_within g p stands.complete (All-head (IsVariable g) p ps h)) (sorts_within ps (All-tail (IsVariable g) p ps h))

  next_back : (ps : List VarId) → All (IsVariable g) ps → (o : Option (List TermId)) → IfSome o (All (IsTerm g ts)) → NextIsSorted (data_meant g) (variable_sorts g) (sorts (map (bound_at (entries_of g ts)) ps)) (option_map (map (term_under g)) (option_map (trees_at ts) o))
      → IfSome o (AreTermsOf g ts (map (sort_of_variable g) ps))
  next_back ps vs None h k = tt
  next_back ps vs (Some ids) h (next_sorted k) =
      terms_back (map (sort_of_variable g) ps) ids h (sorts_within ps vs) (subst (λ z. HaveSorts (data_meant g) (variable_sorts g) (terms_of (map (term_under g) (trees_at ts ids))) z) (sorts_of_variables g ts ps vs) k)

  pub standing_fits : (ps : List VarId) (s : PlainSummand) → SummandStands g ts ps s → SummandFits g ts ps s
  standing_fits ps s h = record {
    sums = h.sums;
    condition = record {
      within = h.over.condition.inside;
      sorted = sorted_back g stands (tree_at ts s.condition) bool_sort h.over.condition.within (bool_within g stands) (subst (λ z. HasSort (data_meant g) (variable_sorts g) (term_under g (tree_at ts s.condition)) z) (sym (boolean_meant g stands.table)) h.sorted.condition);
    };
    label = actions_back s.label h.over.label h.sorted.label;
    next = next_back ps h.params s.next h.over.next h.sorted.next;
  }

-- ---- through each pass
module _ (g : Sig) (stands : IsSignature g) (ts us : List Tree) (ps : List VarId) (s t : PlainSummand) (h : SummandStands g ts ps s) where
  abbrev meant_params : List Bound
  meant_params = map (bound_at (entries_of g ts)) ps

  pub answer_stands : (own : List Equation) (P : Term → Type 0) → t.sums ≡ s.sums → IsSummandAnswer g own P ts us s t → SummandStands g us ps t
  answer_stands own P q k = record {
    params = h.params;
    sums = subst (All (IsVariable g)) (sym q) h.sums;
    taken = subst (All (HasTakenName g)) (sym q) h.taken;
    over = k.over;
    shape = becomes_shape g own P meant_params (summand_at g ts s) (summand_at g us t) k.becomes h.shape;
    sorted = becomes_sorts g own P (variable_sorts g) (variables_have_sorts_of_the_data g stands) meant_params (summand_at g ts s) (summand_at g us t) k.becomes h.sorted;
  }

  -- sums that are among those that were there
  all_among : (P : VarId → Type 0) (xs ys : List VarId) → ((v : VarId) → Contains ys v → Contains xs v) → All P xs → All P ys
  all_among P xs ys w k = all_from P ys (λ v i. All-contains P xs v k (w v i))

  but_among : (v : VarId) (xs : List VarId) (x : VarId) → Contains (sums_but v xs) x → Contains xs x
  but_among v [] x i = absurd (contains_none x i)
  but_among v (y ∷ xs) x i = ⊎_elim
      (λ k. contains_later y x xs (but_among v xs x (subst (λ b. Contains (cond (not b) (y ∷ sums_but v xs) (sums_but v xs)) x) k.0 i)))
      (λ k. ⊎_elim (λ q. subst (λ z. Contains (y ∷ xs) z) q (contains_first y xs)) (λ j. contains_later y x xs (but_among v xs x j)) (contains_cases y x (sums_but v xs) (subst (λ b. Contains (cond (not b) (y ∷ sums_but v xs) (sums_but v xs)) x) k.0 i)))
      (eqb_tells y.0 v.0)

  module _ (f : Solution) (rest : List TermId) (term : IsTerm g ts f.term) (all : All (IsTerm g ts) rest) (q : trees_of_summand us t ≡ solved_trees ts f (trees_at ts rest) (trees_of_summand ts s)) (within : IsSummandIn us t) where
    pub step_means : summand_at g us t ≡ solve (meant_solution g ts f) (listed_at g ts rest) (summand_at g ts s)
    step_means = ap (meant_summand g) q ∙ solved_means g stands ts f term rest all (trees_of_summand ts s)

    pub step_stands : IsFirst (variables (summand_at g ts s).sums) (conditions_of (summand_at g ts s)) (meant_solution g ts f) (listed_at g ts rest) → SummandStands g us ps t
    step_stands first =
        let sums : t.sums ≡ sums_but f.var s.sums = ap (λ (z : TreeSummand). z.sums) q in
        let among : (v : VarId) → Contains t.sums v → Contains s.sums v = λ v i. but_among f.var s.sums v (subst (λ z. Contains z v) sums i) in
        record {
          params = h.params;
          sums = all_among (IsVariable g) s.sums t.sums among h.sums;
          taken = all_among (HasTakenName g) s.sums t.sums among h.taken;
          over = solved_over g stands ts f term rest all us s t q within h.over;
          shape = subst (IsSummand meant_params) (sym step_means) (solve_shape meant_params (summand_at g ts s) (meant_solution g ts f) (listed_at g ts rest) h.shape (first_is_found first));
          sorted = subst (SummandIsSorted (data_meant g) (variable_sorts g) meant_params) (sym step_means)
              (solve_sorts (data_meant g) (variable_sorts g) meant_params (summand_at g ts s) (meant_solution g ts f) (listed_at g ts rest) h.sorted (first_is_found first));
        }

-- the sums that don't occur are left out
pub unused_stands : (g : Sig) (ts : List Tree) (ps : List VarId) (s t : PlainSummand) → SummandStands g ts ps s → t ≡ record { sums = t.sums; condition = s.condition; label = s.label; next = s.next } → ((v : VarId) → Contains t.sums v → Contains s.sums v)
    → summand_at g ts t ≡ without_unused (summand_at g ts s) → SummandStands g ts ps t
unused_stands g ts ps s t h terms among means = record {
  params = h.params;
  sums = all_from (IsVariable g) t.sums (λ v i. All-contains (IsVariable g) s.sums v h.sums (among v i));
  taken = all_from (HasTakenName g) t.sums (λ v i. All-contains (HasTakenName g) s.sums v h.taken (among v i));
  over = subst (IsSummandOver g ts) (sym terms) (record { condition = h.over.condition; label = h.over.label; next = h.over.next });
  shape = subst (IsSummand (map (bound_at (entries_of g ts)) ps)) (sym means) (unused_shape (map (bound_at (entries_of g ts)) ps) (summand_at g ts s) h.shape);
  sorted = subst (SummandIsSorted (data_meant g) (variable_sorts g) (map (bound_at (entries_of g ts)) ps)) (sym means) (unused_sorts (data_meant g) (variable_sorts g) (map (bound_at (entries_of g ts)) ps) (summand_at g ts s) h.sorted);
}

-- ---- as the pool grows
module _ (g : Sig) (ts us : List Tree) (e : Extends ts us) where
  terms_kept : (ids : List TermId) → All (IsTerm g ts) ids → map (term_under g) (trees_at us ids) ≡ map (term_under g) (trees_at ts ids)
  terms_kept [] h = refl
  terms_kept (id ∷ ids) h = ap₂ (λ t z. t ∷ z) (term_kept g ts us id e (All-head (IsTerm g ts) id ids h).inside) (terms_kept ids (All-tail (IsTerm g ts) id ids h))

  label_kept : (m : List PlainAction) → All (IsActionOver g ts) m → map (meant_action g) (trees_of_label us m) ≡ map (meant_action g) (trees_of_label ts m)
  label_kept [] h = refl
  label_kept (a ∷ m) h =
      ap₂ (λ args n. record { name = (action_at (entries_of g []) a.act).name; sorts = (action_at (entries_of g []) a.act).sorts; args = args } ∷ n) (terms_kept a.args (All-head (IsActionOver g ts) a m h).args) (label_kept m (All-tail (IsActionOver g ts) a m h))

  next_kept : (o : Option (List TermId)) → IfSome o (All (IsTerm g ts)) → option_map (map (term_under g)) (option_map (trees_at us) o) ≡ option_map (map (term_under g)) (option_map (trees_at ts) o)
  next_kept None h = refl
  next_kept (Some ids) h = ap Some (terms_kept ids h)

  pub summand_kept : (s : PlainSummand) → IsSummandOver g ts s → summand_at g us s ≡ summand_at g ts s
  summand_kept s h =
      ap₂ (λ c m. record { sums = map (bound_at (entries_of g [])) s.sums; condition = c; label = m; next = option_map (map (term_under g)) (option_map (trees_at us) s.next) }) (term_kept g ts us s.condition e h.condition.inside) (label_kept s.label h.label)
      ∙ ap (λ n. record { sums = map (bound_at (entries_of g [])) s.sums; condition = term_under g (tree_at ts s.condition); label = map (meant_action g) (trees_of_label ts s.label); next = n }) (next_kept s.next h.next)

  pub stands_still : (ps : List VarId) (s : PlainSummand) → SummandStands g ts ps s → SummandStands g us ps s
  stands_still ps s h = record {
    params = h.params;
    sums = h.sums;
    taken = h.taken;
    over = summand_stays_over g ts us e s h.over;
    shape = subst (IsSummand (map (bound_at (entries_of g ts)) ps)) (sym (summand_kept s h.over)) h.shape;
    sorted = subst (SummandIsSorted (data_meant g) (variable_sorts g) (map (bound_at (entries_of g ts)) ps)) (sym (summand_kept s h.over)) h.sorted;
  }
