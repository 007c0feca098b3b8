-- What fits is well sorted, and means the same as signature and pool grow.
use Rattle.std.proofs.Common.{◌≡◌, ◌<◌, ℕ, zero, suc, List, [], ◌∷◌, map, length, take, get_or, refl, sym, ap, ap₂, ◌∙◌, subst, arith, ⊎_elim, Option, Some, None}
use Rattle.std.specs.Prelude.{option_map, IfSome}
use Rattle.std.specs.List.{All, Contains}
use Rattle.std.proofs.lemmas.List.{length-map}
use Rattle.std.proofs.lemmas.List.Elements.{All-head, All-tail}
use Rattle.std.proofs.lemmas.Option.{slice_get_within, get_or_from_slice_get}
use Rattle.data_theory.specs.declared.ids.SortId.{SortId}
use Rattle.data_theory.specs.declared.ids.VarId.{VarId}
use Rattle.data_theory.specs.declared.ids.TermId.{TermId}
use Rattle.data_theory.specs.declared.signature.Variable.{Variable}
use Rattle.data_theory.specs.Table.{bool_sort}
use Rattle.data_theory.specs.Terms.{Sort, boolean}
use Rattle.data_theory.specs.Equations.{trueᵗ}
use Rattle.data_theory.specs.Declarations.{IsSort, Declares, HasSort, HaveSorts}
use Rattle.data_theory.specs.Environments.{terms_of}
use Rattle.data_theory.specs.Signature.{Sig}
use Rattle.data_theory.specs.Complete.{IsComplete}
use Rattle.data_theory.specs.IdTables.{IsTable}
use Rattle.data_theory.specs.IdData.{data_meant}
use Rattle.data_theory.specs.IdTrees.{Tree, trees_of}
use Rattle.data_theory.specs.IdTreeSorts.{HaveTreeSorts}
use Rattle.data_theory.specs.IdTerms.{sort_under, term_under, variable_sorts, IsTreeWithin}
use Rattle.data_theory.proofs.IdTermLemmas.{growth_keeps_meant_terms, sorted_trees_mean_sorted_terms, sorted_trees_are_within}
use Rattle.data_theory.specs.IdSorts.{constructions, meaning_of}
use Rattle.data_theory.proofs.IdSortLemmas.{sorts_mean_their_kinds, meant_is_sort}
use Rattle.term_pool.specs.HeadTrees.{tree_at, trees_at, IsIn, AreIn, no_tree}
use Rattle.process_terms.specs.PlainProcesses.{PlainAction}
use Rattle.process_terms.specs.Meanings.{Grows, ActionEntry, action_at, bound_at, term_at, action_of, label_of}
use Rattle.process_terms.specs.SignatureEntries.{entries_of, action_entry, BothGrow}
use Rattle.process_terms.proofs.MeaningLemmas.{all_same, entry_stays}
use Rattle.process_terms.proofs.EntryLemmas.{signatures_add_entries}
use Rattle.bisim_laws.specs.LinearProcesses.{sorts, LabelIsSorted, no_action_to_sort, action_sorted, NextIsSorted, no_next_to_sort, next_sorted, AreDeclared, HaveDataSorts, SummandIsSorted}
use Rattle.bisim_laws.proofs.Firing.{contains_none, contains_cases}
use Rattle.lps_core.specs.PlainLinears.{PlainSummand, summand_of}
use Rattle.lps_core.specs.Fitting.{IsTermOf, AreTermsOf, IsActionOf, IsVariable, sort_of_variable, SummandFits, WhatFitsIsSorted, WhatFitsStays}

-- ---- what stands under numbers
pub read_mapped : {A B : Type 0} (f : A → B) (xs : List A) (k : ℕ) (d : B) (e : A) → k < length xs → get_or (map f xs) k d ≡ f (get_or xs k e)
read_mapped f [] k d e h = absurd (omega (arith, h))
read_mapped f (x ∷ xs) zero d e h = refl
read_mapped f (x ∷ xs) (suc k) d e h = read_mapped f xs k d e (omega (arith, h))

pub term_is : (g : Sig) (ts : List Tree) (id : TermId) → IsIn ts id → term_at (entries_of g ts) id ≡ term_under g (tree_at ts id)
term_is g ts id h = read_mapped (term_under g) ts id.0 trueᵗ no_tree h

pub terms_are : (g : Sig) (ts : List Tree) (ids : List TermId) → AreIn ts ids → map (term_at (entries_of g ts)) ids ≡ map (term_under g) (trees_at ts ids)
terms_are g ts [] h = refl
terms_are g ts (id ∷ ids) h = ap₂ (λ t us. t ∷ us) (term_is g ts id (All-head (IsIn ts) id ids h)) (terms_are g ts ids (All-tail (IsIn ts) id ids h))

pub declares_at : (vs : List Sort) (v : ℕ) → v < length vs → Declares vs v (get_or vs v boolean)
declares_at [] v h = absurd (omega (arith, h))
declares_at (s ∷ vs) zero h = refl
declares_at (s ∷ vs) (suc v) h = declares_at vs v (omega (arith, h))

pub variables_declared : (g : Sig) (ts : List Tree) (vs : List VarId) → All (IsVariable g) vs → AreDeclared (variable_sorts g) (map (bound_at (entries_of g ts)) vs)
variables_declared g ts [] h x i = absurd (contains_none x i)
variables_declared g ts (v ∷ vs) h x i = ⊎_elim
    (λ q. subst (λ z. Declares (variable_sorts g) z.var z.sort) q (declares_at (variable_sorts g) v.0 (subst (λ n. v.0 < n) (sym (length-map g.variables (λ (y : Variable). sort_under g y.sort))) (All-head (IsVariable g) v vs h))))
    (λ j. variables_declared g ts vs (All-tail (IsVariable g) v vs h) x j)
    (contains_cases (bound_at (entries_of g ts) v) x (map (bound_at (entries_of g ts)) vs) i)

-- the sorts of variables are sorts of the data
pub sort_is_within : (g : Sig) (x : VarId) → IsComplete g → IsVariable g x → (sort_of_variable g x).0 < length g.sorts
sort_is_within g x complete l = (complete.within.variables x.0 (record { name = record { 0 = 0 }; sort = bool_sort }) l).1

pub variables_have_sorts : (g : Sig) (ts : List Tree) (vs : List VarId) → IsTable g → IsComplete g → All (IsVariable g) vs → HaveDataSorts (data_meant g) (map (bound_at (entries_of g ts)) vs)
variables_have_sorts g ts [] table complete h x i = absurd (contains_none x i)
variables_have_sorts g ts (v ∷ vs) table complete h x i =
    let l = All-head (IsVariable g) v vs h in
    let meant : get_or (variable_sorts g) v.0 boolean ≡ sort_under g (sort_of_variable g v) = read_mapped (λ (y : Variable). sort_under g y.sort) g.variables v.0 boolean (record { name = record { 0 = 0 }; sort = bool_sort }) l in
    ⊎_elim
    (λ q. subst (λ z. IsSort (data_meant g) z.sort) q (meant_is_sort (data_meant g) g.sorts table.sorts refl (get_or (variable_sorts g) v.0 boolean) (sort_of_variable g v) (sort_is_within g v complete l) (sym meant)))
    (λ j. variables_have_sorts g ts vs table complete (All-tail (IsVariable g) v vs h) x j)
    (contains_cases (bound_at (entries_of g ts) v) x (map (bound_at (entries_of g ts)) vs) i)

pub sorts_of_variables : (g : Sig) (ts : List Tree) (vs : List VarId) → All (IsVariable g) vs → sorts (map (bound_at (entries_of g ts)) vs) ≡ map (sort_under g) (map (sort_of_variable g) vs)
sorts_of_variables g ts [] h = refl
sorts_of_variables g ts (v ∷ vs) h =
    ap₂ (λ s ss. s ∷ ss) (read_mapped (λ (y : Variable). sort_under g y.sort) g.variables v.0 boolean (record { name = record { 0 = 0 }; sort = bool_sort }) (All-head (IsVariable g) v vs h))
    (sorts_of_variables g ts vs (All-tail (IsVariable g) v vs h))

-- ---- sorts
pub trees_sorted : (g : Sig) → IsTable g → (us : List Tree) (ss : List SortId) → HaveTreeSorts g (trees_of us) ss → HaveSorts (data_meant g) (variable_sorts g) (terms_of (map (term_under g) us)) (map (sort_under g) ss)
trees_sorted g table [] [] h = tt
trees_sorted g table [] (s ∷ ss) h = absurd h
trees_sorted g table (u ∷ us) [] h = absurd h
trees_sorted g table (u ∷ us) (s ∷ ss) h = (sorted_trees_mean_sorted_terms g table u s h.0, trees_sorted g table us ss h.1)

pub terms_sorted : (g : Sig) (ts : List Tree) (ss : List SortId) (ids : List TermId) → IsTable g → AreTermsOf g ts ss ids → HaveSorts (data_meant g) (variable_sorts g) (terms_of (map (term_at (entries_of g ts)) ids)) (map (sort_under g) ss)
terms_sorted g ts ss ids table h = subst (λ us. HaveSorts (data_meant g) (variable_sorts g) (terms_of us) (map (sort_under g) ss)) (sym (terms_are g ts ids h.within)) (trees_sorted g table (trees_at ts ids) ss h.sorted)

pub boolean_meant : (g : Sig) → IsTable g → sort_under g bool_sort ≡ boolean
boolean_meant g table =
    let k = (table.sorts.boolean_first 0).1 refl in
    let e = sorts_mean_their_kinds g.sorts table.sorts bool_sort k.0 k.1 in
    e ∙ ap (λ z. meaning_of (sort_under g) (length (constructions (take bool_sort.0 g.sorts))) z) k.2

pub condition_sorted : (g : Sig) (ts : List Tree) (id : TermId) → IsTable g → IsTermOf g ts bool_sort id → HasSort (data_meant g) (variable_sorts g) (term_at (entries_of g ts) id) boolean
condition_sorted g ts id table h =
    subst (λ t. HasSort (data_meant g) (variable_sorts g) t boolean) (sym (term_is g ts id h.within))
    (subst (λ s. HasSort (data_meant g) (variable_sorts g) (term_under g (tree_at ts id)) s) (boolean_meant g table) (sorted_trees_mean_sorted_terms g table (tree_at ts id) bool_sort h.sorted))

pub action_is : (g : Sig) (ts : List Tree) (a : PlainAction) (h : IsActionOf g ts a) → action_at (entries_of g ts) a.act ≡ action_entry g h.key
action_is g ts a h = read_mapped (action_entry g) g.actions a.act.0 (record { name = []; sorts = [] }) h.key (slice_get_within g.actions a.act.0 h.key h.stands) ∙ ap (action_entry g) (get_or_from_slice_get g.actions a.act.0 h.key h.key h.stands)

pub label_is_sorted : (g : Sig) (ts : List Tree) (m : List PlainAction) → IsTable g → All (IsActionOf g ts) m → LabelIsSorted (data_meant g) (variable_sorts g) (label_of (entries_of g ts) m)
label_is_sorted g ts [] table h = no_action_to_sort
label_is_sorted g ts (a ∷ m) table h =
    let k = All-head (IsActionOf g ts) a m h in
    action_sorted
    (subst (λ z. HaveSorts (data_meant g) (variable_sorts g) (terms_of (map (term_at (entries_of g ts)) a.args)) z) (sym (ap (λ z. z.sorts) (action_is g ts a k))) (terms_sorted g ts k.key.sorts a.args table k.args))
    (label_is_sorted g ts m table (All-tail (IsActionOf g ts) a m h))

pub next_is_sorted : (g : Sig) (ts : List Tree) (params : List VarId) (next : Option (List TermId)) → IsTable g → All (IsVariable g) params → IfSome next (AreTermsOf g ts (map (sort_of_variable g) params))
    → NextIsSorted (data_meant g) (variable_sorts g) (sorts (map (bound_at (entries_of g ts)) params)) (option_map (map (term_at (entries_of g ts))) next)
next_is_sorted g ts params None table vs h = no_next_to_sort
next_is_sorted g ts params (Some ids) table vs h =
    next_sorted (subst (λ ss. HaveSorts (data_meant g) (variable_sorts g) (terms_of (map (term_at (entries_of g ts)) ids)) ss) (sym (sorts_of_variables g ts params vs)) (terms_sorted g ts (map (sort_of_variable g) params) ids table h))

pub mapped_all : {A B : Type 0} (f : A → B) (P : A → Type 0) (Q : B → Type 0) → ((x : A) → P x → Q (f x)) → (xs : List A) → All P xs → (y : B) → Contains (map f xs) y → Q y
mapped_all f P Q w [] h y i = absurd (contains_none y i)
mapped_all f P Q w (x ∷ xs) h y i = ⊎_elim (λ q. subst Q q (w x (All-head P x xs h))) (λ j. mapped_all f P Q w xs (All-tail P x xs h) y j) (contains_cases (f x) y (map f xs) i)

pub what_fits_is_sorted : WhatFitsIsSorted
what_fits_is_sorted g ts l table complete fits = record {
  params = variables_declared g ts l.params fits.params;
  param_sorts = variables_have_sorts g ts l.params table complete fits.params;
  summands = mapped_all (summand_of (entries_of g ts)) (SummandFits g ts l.params) (SummandIsSorted (data_meant g) (variable_sorts g) (map (bound_at (entries_of g ts)) l.params))
      (λ s h. record {
        sums = variables_declared g ts s.sums h.sums;
        sum_sorts = variables_have_sorts g ts s.sums table complete h.sums;
        condition = condition_sorted g ts s.condition table h.condition;
        label = label_is_sorted g ts s.label table h.label;
        next = next_is_sorted g ts l.params s.next table fits.params h.next;
      }) l.summands fits.summands;
}

-- ---- growth
module _ (g h : Sig) (ts us : List Tree) (table : IsTable g) (complete : IsComplete g) (grow : BothGrow g h ts us) where
  -- all but the terms
  abbrev others : Grows (entries_of g []) (entries_of h us)
  others = signatures_add_entries g h [] us table complete (λ k d i. absurd (omega (arith, i))) (record { signature = grow.signature; pool = (us, refl) })

  pub variable_stays : (v : VarId) → IsVariable g v → bound_at (entries_of h us) v ≡ bound_at (entries_of g ts) v
  variable_stays v k = ap (λ s. record { var = v.0; sort = s }) (entry_stays (variable_sorts g) (variable_sorts h) boolean v.0 others.variables (subst (λ n. v.0 < n) (sym (length-map g.variables (λ (y : Variable). sort_under g y.sort))) k)).0

  pub tree_stays : (id : TermId) → IsIn ts id → (tree_at us id ≡ tree_at ts id) × IsIn us id
  tree_stays id k = entry_stays ts us no_tree id.0 grow.pool k

  pub term_stays : (id : TermId) → IsIn ts id → IsTreeWithin g (tree_at ts id) → term_at (entries_of h us) id ≡ term_at (entries_of g ts) id
  term_stays id k w =
      let e = tree_stays id k in
      term_is h us id e.1 ∙ ap (term_under h) e.0 ∙ growth_keeps_meant_terms g h table grow.signature (tree_at ts id) w ∙ sym (term_is g ts id k)

  pub terms_stay : (ss : List SortId) (ids : List TermId) → AreTermsOf g ts ss ids → map (term_at (entries_of h us)) ids ≡ map (term_at (entries_of g ts)) ids
  terms_stay ss [] k = refl
  terms_stay [] (id ∷ ids) k = absurd k.sorted
  terms_stay (s ∷ ss) (id ∷ ids) k =
      ap₂ (λ t z. t ∷ z) (term_stays id (All-head (IsIn ts) id ids k.within) (sorted_trees_are_within g table (tree_at ts id) s k.sorted.0))
      (terms_stay ss ids (record { within = All-tail (IsIn ts) id ids k.within; sorted = k.sorted.1 }))

  pub action_stays : (a : PlainAction) → IsActionOf g ts a → action_of (entries_of h us) a ≡ action_of (entries_of g ts) a
  action_stays a k =
      let e = (entry_stays (map (action_entry g) g.actions) (map (action_entry h) h.actions) (record { name = []; sorts = [] }) a.act.0 others.actions (subst (λ n. a.act.0 < n) (sym (length-map g.actions (action_entry g))) (slice_get_within g.actions a.act.0 k.key k.stands))).0 in
      ap₂ (λ (z : ActionEntry) args. record { name = z.name; sorts = z.sorts; args = args }) e (terms_stay k.key.sorts a.args k.args)

  pub next_stays : (params : List VarId) (next : Option (List TermId)) → IfSome next (AreTermsOf g ts (map (sort_of_variable g) params)) → option_map (map (term_at (entries_of h us))) next ≡ option_map (map (term_at (entries_of g ts))) next
  next_stays params None k = refl
  next_stays params (Some ids) k = ap Some (terms_stay (map (sort_of_variable g) params) ids k)

  pub summand_stays : (params : List VarId) (s : PlainSummand) → SummandFits g ts params s → summand_of (entries_of h us) s ≡ summand_of (entries_of g ts) s
  summand_stays params s k =
      ap₂ (λ xs c. record { sums = xs; condition = c; label = label_of (entries_of h us) s.label; next = option_map (map (term_at (entries_of h us))) s.next })
      (all_same (IsVariable g) (bound_at (entries_of g ts)) (bound_at (entries_of h us)) variable_stays s.sums k.sums)
      (term_stays s.condition k.condition.within (sorted_trees_are_within g table (tree_at ts s.condition) bool_sort k.condition.sorted))
      ∙ ap₂ (λ m n. record { sums = map (bound_at (entries_of g ts)) s.sums; condition = term_at (entries_of g ts) s.condition; label = m; next = n })
      (all_same (IsActionOf g ts) (action_of (entries_of g ts)) (action_of (entries_of h us)) action_stays s.label k.label)
      (next_stays params s.next k.next)

pub what_fits_stays : WhatFitsStays
what_fits_stays g h ts us l table complete grow fits = (
  ap₂ (λ xs ss. record { params = xs; summands = ss })
      (all_same (IsVariable g) (bound_at (entries_of g ts)) (bound_at (entries_of h us)) (variable_stays g h ts us table complete grow) l.params fits.params)
      (all_same (SummandFits g ts l.params) (summand_of (entries_of g ts)) (summand_of (entries_of h us)) (summand_stays g h ts us table complete grow l.params) l.summands fits.summands),
  terms_stay g h ts us table complete grow (map (sort_of_variable g) l.params) l.init fits.init,
)
