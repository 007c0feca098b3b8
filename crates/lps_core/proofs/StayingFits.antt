-- What fits, fits as signature and pool grow.
use Rattle.std.proofs.Common.{◌≡◌, ℕ, List, [], ◌∷◌, map, get_or, sym, ap, ◌∙◌, subst, Option, Some, None}
use Rattle.std.specs.Prelude.{slice_get, IfSome}
use Rattle.std.specs.List.{All, Contains}
use Rattle.std.proofs.lemmas.List.Elements.{All-weaker, Contains-append_left}
use Rattle.std.proofs.lemmas.Option.{slice_get_within, slice_get-get_or, get_or_from_slice_get}
use Rattle.data_theory.specs.declared.ids.SortId.{SortId}
use Rattle.data_theory.specs.declared.ids.VarId.{VarId}
use Rattle.data_theory.specs.declared.ids.TermId.{TermId}
use Rattle.data_theory.specs.Functions.{arguments_of}
use Rattle.data_theory.specs.Table.{bool_sort}
use Rattle.data_theory.specs.Terms.{Sort, Term, AreClosed}
use Rattle.data_theory.specs.Declarations.{Data, HaveSorts}
use Rattle.data_theory.specs.Environments.{terms_of}
use Rattle.data_theory.specs.Signature.{Sig}
use Rattle.data_theory.specs.Complete.{BeginsWith}
use Rattle.data_theory.specs.IdTables.{IsTable}
use Rattle.data_theory.specs.IdData.{data_meant}
use Rattle.data_theory.specs.IdTrees.{Tree, Trees, variable, numeral, function, none, more, trees_of}
use Rattle.data_theory.specs.IdTreeSorts.{HasTreeSort, HaveTreeSorts}
use Rattle.data_theory.specs.IdTerms.{variable_sorts, IsGrown}
use Rattle.data_theory.proofs.EnvironmentLemmas.{closed_is_closed, closed_lists_need_no_variables}
use Rattle.term_pool.specs.HeadTrees.{tree_at, trees_at}
use Rattle.process_terms.specs.PlainProcesses.{PlainAction}
use Rattle.process_terms.specs.Meanings.{bound_at, term_at}
use Rattle.process_terms.specs.SignatureEntries.{entries_of, BothGrow}
use Rattle.process_terms.proofs.MeaningLemmas.{entry_stays}
use Rattle.bisim_laws.specs.LinearProcesses.{sorts, IsLinear}
use Rattle.lps_core.specs.PlainLinears.{PlainSummand, linear_of, initial_of}
use Rattle.lps_core.specs.Naming.{name_of}
use Rattle.lps_core.specs.Fitting.{IsTermOf, AreTermsOf, IsActionOf, IsVariable, sort_of_variable, SummandFits, HasTakenName, WhatFitsFitsStill}
use Rattle.lps_core.proofs.PoolTrees.{tree_kept, trees_kept, all_in_kept}
use Rattle.lps_core.proofs.NamedSums.{variable_kept, name_kept, sorts_kept, taken_name, name_taken}
use Rattle.lps_core.proofs.Staying.{sorts_of_variables, terms_sorted, what_fits_stays}

-- what holds of all, by two things that hold of all
pub both_weaker : {A : Type 0} (P Q R : A → Type 0) → ((x : A) → P x → Q x → R x) → (xs : List A) → All P xs → All Q xs → All R xs
both_weaker P Q R f xs h k i d l = f (get_or xs i d) (h i d l) (k i d l)

-- an entry of a table that a longer one begins with
entry_kept : {A : Type 0} (xs ys : List A) (k : ℕ) (x : A) → BeginsWith xs ys → slice_get xs k ≡ Some x → slice_get ys k ≡ Some x
entry_kept xs ys k x w e =
    let s = entry_stays xs ys x k w (slice_get_within xs k x e) in
    slice_get-get_or ys k x s.1 ∙ ap (λ z. Some z) (s.0 ∙ get_or_from_slice_get xs k x x e)

-- ---- sorts of trees
module _ (g h : Sig) (w : IsGrown g h) where
  mutual
    pub tree_sort_stays : (t : Tree) (s : SortId) → HasTreeSort g t s → HasTreeSort h t s
    tree_sort_stays (variable v) s k = (k.0, entry_kept g.variables h.variables v.0 k.0 (w.new_variables, w.variables) k.1, k.2)
    tree_sort_stays (numeral a z) s k = k
    tree_sort_stays (function f ts) s k = (k.0, entry_kept g.functions h.functions f.0 k.0 (w.new_functions, w.functions) k.1, k.2, tree_sorts_stay ts (arguments_of k.0) k.3, k.4)

    pub tree_sorts_stay : (ts : Trees) (ss : List SortId) → HaveTreeSorts g ts ss → HaveTreeSorts h ts ss
    tree_sorts_stay none [] k = k
    tree_sorts_stay none (s ∷ ss) k = absurd k
    tree_sorts_stay (more t ts) [] k = absurd k
    tree_sorts_stay (more t ts) (s ∷ ss) k = (tree_sort_stays t s k.0, tree_sorts_stay ts ss k.1)

-- ---- terms, actions and summands
module _ (g h : Sig) (ts us : List Tree) (grow : BothGrow g h ts us) where
  pub term_fits : (s : SortId) (id : TermId) → IsTermOf g ts s id → IsTermOf h us s id
  term_fits s id k =
      let e = tree_kept ts us id grow.pool k.within in
      record { within = e.1; sorted = subst (λ t. HasTreeSort h t s) (sym e.0) (tree_sort_stays g h grow.signature (tree_at ts id) s k.sorted) }

  pub terms_fit : (ss : List SortId) (ids : List TermId) → AreTermsOf g ts ss ids → AreTermsOf h us ss ids
  terms_fit ss ids k = record {
    within = all_in_kept ts us ids grow.pool k.within;
    sorted = subst (λ z. HaveTreeSorts h (trees_of z) ss) (sym (trees_kept ts us ids grow.pool k.within)) (tree_sorts_stay g h grow.signature (trees_of (trees_at ts ids)) ss k.sorted);
  }

  pub action_fits : (a : PlainAction) → IsActionOf g ts a → IsActionOf h us a
  action_fits a k = record { key = k.key; stands = entry_kept g.actions h.actions a.act.0 k.key (grow.signature.new_actions, grow.signature.actions) k.stands; args = terms_fit k.key.sorts a.args k.args }

  next_fits : (ss : List SortId) (next : Option (List TermId)) → IfSome next (AreTermsOf g ts ss) → IfSome next (AreTermsOf h us ss)
  next_fits ss None k = k
  next_fits ss (Some ids) k = terms_fit ss ids k

  variables_fit : (xs : List VarId) → All (IsVariable g) xs → All (IsVariable h) xs
  variables_fit xs k = All-weaker (IsVariable g) (IsVariable h) (λ x l. variable_kept g h x grow.signature l) xs k

  pub summand_fits : (params : List VarId) (s : PlainSummand) → All (IsVariable g) params → SummandFits g ts params s → SummandFits h us params s
  summand_fits params s vs k = record {
    sums = variables_fit s.sums k.sums;
    condition = term_fits bool_sort s.condition k.condition;
    label = All-weaker (IsActionOf g ts) (IsActionOf h us) action_fits s.label k.label;
    next = subst (λ ss. IfSome s.next (AreTermsOf h us ss)) (sym (sorts_kept g h params grow.signature vs)) (next_fits (map (sort_of_variable g) params) s.next k.next);
  }

  pub taken_fits : (x : VarId) → IsVariable g x → HasTakenName g x → HasTakenName h x
  taken_fits x l k =
      name_taken h x (variable_kept g h x grow.signature l) (subst (λ n. Contains h.taken n) (sym (name_kept g h x grow.signature l)) (subst (λ ns. Contains ns (name_of g x)) (sym grow.signature.taken) (Contains-append_left g.taken grow.signature.new_taken (name_of g x) (taken_name g x l k))))

-- closed terms of sorts have no variables
pub lists_are_closed : (d : Data) (ts : List Term) (ss : List Sort) → HaveSorts d [] (terms_of ts) ss → AreClosed (terms_of ts)
lists_are_closed d [] ss k = tt
lists_are_closed d (t ∷ ts) [] k = absurd k
lists_are_closed d (t ∷ ts) (s ∷ ss) k = (closed_is_closed d t s k.0, lists_are_closed d ts ss k.1)

-- terms of a pool with sorts of variables, which are closed, have these sorts over no variables
pub closed_terms_fit : (g : Sig) (ts : List Tree) (params : List VarId) (ids : List TermId) → IsTable g → All (IsVariable g) params → AreTermsOf g ts (map (sort_of_variable g) params) ids → AreClosed (terms_of (map (term_at (entries_of g ts)) ids))
    → HaveSorts (data_meant g) [] (terms_of (map (term_at (entries_of g ts)) ids)) (sorts (map (bound_at (entries_of g ts)) params))
closed_terms_fit g ts params ids table vs k c =
    subst (λ ss. HaveSorts (data_meant g) [] (terms_of (map (term_at (entries_of g ts)) ids)) ss) (sym (sorts_of_variables g ts params vs))
    (closed_lists_need_no_variables (data_meant g) (variable_sorts g) (terms_of (map (term_at (entries_of g ts)) ids)) _ c (terms_sorted g ts (map (sort_of_variable g) params) ids table k))

pub what_fits_fits_still : WhatFitsFitsStill
what_fits_fits_still g h ts us l table complete new_table grow fits =
    let stays = what_fits_stays g h ts us l table complete grow fits in
    let params = variables_fit g h ts us grow l.params fits.params in
    let init = subst (λ ss. AreTermsOf h us ss l.init) (sym (sorts_kept g h l.params grow.signature fits.params)) (terms_fit g h ts us grow (map (sort_of_variable g) l.params) l.init fits.init) in
    record {
      params = params;
      init = init;
      closed = closed_terms_fit h us l.params l.init new_table params init (subst (λ z. AreClosed (terms_of z)) (sym stays.1) (lists_are_closed (data_meant g) (initial_of (entries_of g ts) l) (sorts (linear_of (entries_of g ts) l).params) fits.closed));
      summands = All-weaker (SummandFits g ts l.params) (SummandFits h us l.params) (λ s k. summand_fits g h ts us grow l.params s fits.params k) l.summands fits.summands;
      linear = subst (λ z. IsLinear z) (sym stays.0) fits.linear;
      taken = both_weaker (IsVariable g) (HasTakenName g) (HasTakenName h) (taken_fits g h ts us grow) l.params fits.params fits.taken;
      sums_taken = both_weaker (SummandFits g ts l.params) (λ (s : PlainSummand). All (HasTakenName g) s.sums) (λ (s : PlainSummand). All (HasTakenName h) s.sums)
          (λ s k m. both_weaker (IsVariable g) (HasTakenName g) (HasTakenName h) (taken_fits g h ts us grow) s.sums k.sums m) l.summands fits.summands fits.sums_taken;
    }
