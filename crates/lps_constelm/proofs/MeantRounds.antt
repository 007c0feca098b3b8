-- What a simplified linear process in code means, and that it fits.
use Rattle.std.proofs.Common.{◌≡◌, ◌<◌, ℕ, List, [], ◌∷◌, map, length, refl, sym, ap, ◌∙◌, subst, arith, zero, suc, length-append, Option, Some, None}
use Rattle.std.specs.Prelude.{Contains, IfSome, option_map, slice_get}
use Rattle.std.specs.List.{All, AllZip}
use Rattle.std.proofs.lemmas.List.Elements.{All-nil, All-cons, All-head, All-tail, All-weaker}
use Rattle.data_theory.specs.declared.ids.SortId.{SortId}
use Rattle.data_theory.specs.declared.ids.VarId.{VarId}
use Rattle.data_theory.specs.declared.ids.TermId.{TermId}
use Rattle.data_theory.specs.Terms.{Term}
use Rattle.data_theory.specs.Declarations.{IsSort}
use Rattle.data_theory.specs.Keys.{Key}
use Rattle.data_theory.specs.Provable.{Equation}
use Rattle.data_theory.specs.Rewriting.{AreSorts}
use Rattle.data_theory.specs.Signature.{Sig}
use Rattle.data_theory.specs.Table.{bool_sort}
use Rattle.data_theory.specs.Complete.{IsActionWithin as IsKeyWithin}
use Rattle.data_theory.specs.Sorts.{first_sorts}
use Rattle.lps_core.proofs.Members.{all_at}
use Rattle.data_theory.specs.WholeSignatures.{IsSignature}
use Rattle.data_theory.specs.IdData.{data_meant}
use Rattle.data_theory.specs.IdTrees.{Tree}
use Rattle.data_theory.specs.IdTerms.{sort_under, variable_sorts}
use Rattle.data_theory.specs.declared.signature.Variable.{Variable}
use Rattle.data_theory.proofs.IdSortLemmas.{meant_is_sort}
use Rattle.data_theory.proofs.IdTermLemmas.{sorted_trees_mean_sorted_terms, sorted_trees_are_within}
use Rattle.term_pool.specs.HeadTrees.{tree_at, IsIn, AreIn}
use Rattle.process_terms.specs.PlainProcesses.{PlainAction}
use Rattle.process_terms.specs.Meanings.{bound_at, term_at, action_of, label_of}
use Rattle.process_terms.specs.SignatureEntries.{entries_of}
use Rattle.bisim_laws.proofs.Firing.{contains_first, contains_later}
use Rattle.lps_core.specs.PlainLinears.{PlainSummand, PlainLinear, summand_of, linear_of, initial_of}
use Rattle.lps_core.specs.Fitting.{IsTermOf, AreTermsOf, IsActionOf, IsVariable, sort_of_variable, SummandFits, HasTakenName, Fits}
use Rattle.lps_core.proofs.Staying.{term_is, sort_is_within}
use Rattle.data_rewriter.specs.Standing.{IsTerm, term_at as term_of}
use Rattle.lps_constelm.specs.Simplified as theory
use Rattle.lps_constelm.specs.Simplified.{IsSimplerTerm, Becomes}
use Rattle.lps_constelm.specs.Runs.{AreTerms, IsActionWithin, IsSummandWithin, IsLinearWithin, TermBecomes, ActionBecomes, NextBecomes, both_end, both_go_on, SummandBecomes, LinearBecomes}
use Rattle.lps_constelm.proofs.SimplifiedTerms.{becomes_linear, becomes_closed}
use Rattle.lps_constelm.proofs.SortedTrees.{sorted_back}

-- ---- what fits is over the data
ids_within : (g : Sig) → IsSignature g → (ts : List Tree) (ss : List SortId) (ids : List TermId) → AreTermsOf g ts ss ids → AreTerms g ts ids
ids_within g stands ts ss [] h = All-nil (IsTerm g ts)
ids_within g stands ts [] (id ∷ ids) h = absurd h.sorted
ids_within g stands ts (s ∷ ss) (id ∷ ids) h =
    All-cons (IsTerm g ts) id ids (record { inside = All-head (IsIn ts) id ids h.within; within = sorted_trees_are_within g stands.table (tree_at ts id) s h.sorted.0 })
    (ids_within g stands ts ss ids (record { within = All-tail (IsIn ts) id ids h.within; sorted = h.sorted.1 }))

next_within : (g : Sig) → IsSignature g → (ts : List Tree) (ss : List SortId) (next : Option (List TermId)) → IfSome next (AreTermsOf g ts ss) → IfSome next (AreTerms g ts)
next_within g stands ts ss None h = h
next_within g stands ts ss (Some ids) h = ids_within g stands ts ss ids h

pub linear_within : (g : Sig) → IsSignature g → (ts : List Tree) (l : PlainLinear) → Fits g ts l → IsLinearWithin g ts l
linear_within g stands ts l fits = record {
  init = ids_within g stands ts (map (sort_of_variable g) l.params) l.init fits.init;
  summands = All-weaker (SummandFits g ts l.params) (IsSummandWithin g ts) (λ s h. record {
    condition = record { inside = h.condition.within; within = sorted_trees_are_within g stands.table (tree_at ts s.condition) bool_sort h.condition.sorted };
    label = All-weaker (IsActionOf g ts) (IsActionWithin g ts) (λ a k. ids_within g stands ts k.key.sorts a.args k.args) s.label h.label;
    next = next_within g stands ts (map (sort_of_variable g) l.params) s.next h.next;
  }) l.summands fits.summands;
}

-- ---- the sorts of the variables are sorts
declares_sort : (g : Sig) (vs : List Variable) → ((v : Variable) → Contains vs v → IsSort (data_meant g) (sort_under g v.sort)) → AreSorts (data_meant g) (map (λ (v : Variable). sort_under g v.sort) vs)
declares_sort g [] w v s h = absurd h
declares_sort g (x ∷ vs) w zero s h = subst (λ z. IsSort (data_meant g) z) h (w x (contains_first x vs))
declares_sort g (x ∷ vs) w (suc v) s h = declares_sort g vs (λ y i. w y (contains_later x y vs i)) v s h

pub variables_are_sorts : (g : Sig) → IsSignature g → AreSorts (data_meant g) (variable_sorts g)
variables_are_sorts g stands = declares_sort g g.variables (λ v i.
    meant_is_sort (data_meant g) g.sorts stands.table.sorts refl (sort_under g v.sort) v.sort (subst (λ (y : Variable). y.sort.0 < length g.sorts) i.2 ((stands.complete.within.variables i.0 v i.1).1)) refl)

bool_within : (g : Sig) → IsSignature g → bool_sort.0 < length g.sorts
bool_within g stands =
    let e = ap length stands.complete.first_sorts_stay.1 ∙ length-append first_sorts stands.complete.first_sorts_stay.0 in
    let f : length first_sorts ≡ 4 = refl in
    omega (arith, e, f)

module _ (g : Sig) (own : List Equation) (IsSimple : Term → Type 0) (stands : IsSignature g) (ts us : List Tree) where
  abbrev R : Term → Term → Type 0
  R = IsSimplerTerm g own IsSimple

  -- ---- what they mean
  term_means : (t u : TermId) → IsIn ts t → TermBecomes g own IsSimple ts us t u → R (term_at (entries_of g ts) t) (term_at (entries_of g us) u)
  term_means t u i h = subst (λ z. R z (term_at (entries_of g us) u)) (sym (term_is g ts t i)) (subst (λ z. R (term_of g ts t) z) (sym (term_is g us u h.within.inside)) h.simpler)

  terms_mean : (xs ys : List TermId) → AreIn ts xs → AllZip (TermBecomes g own IsSimple ts us) xs ys → AllZip R (map (term_at (entries_of g ts)) xs) (map (term_at (entries_of g us)) ys)
  terms_mean [] [] i h = tt
  terms_mean [] (y ∷ ys) i h = absurd h
  terms_mean (x ∷ xs) [] i h = absurd h
  terms_mean (x ∷ xs) (y ∷ ys) i h = (term_means x y (All-head (IsIn ts) x xs i) h.0, terms_mean xs ys (All-tail (IsIn ts) x xs i) h.1)

  label_means : (m n : List PlainAction) → All (IsActionOf g ts) m → AllZip (ActionBecomes g own IsSimple ts us) m n → AllZip (theory.ActionBecomes R) (label_of (entries_of g ts) m) (label_of (entries_of g us) n)
  label_means [] [] k h = tt
  label_means [] (b ∷ n) k h = absurd h
  label_means (a ∷ m) [] k h = absurd h
  label_means (a ∷ m) (b ∷ n) k h = (
    record {
      name = ap (λ i. (action_of (entries_of g ts) (record { act = i; args = [] })).name) h.0.act;
      sorts = ap (λ i. (action_of (entries_of g ts) (record { act = i; args = [] })).sorts) h.0.act;
      args = terms_mean a.args b.args (All-head (IsActionOf g ts) a m k).args.within h.0.args;
    },
    label_means m n (All-tail (IsActionOf g ts) a m k) h.1,
  )

  next_means : (ss : List SortId) {o p : Option (List TermId)} → IfSome o (AreTermsOf g ts ss) → NextBecomes g own IsSimple ts us o p → theory.NextBecomes R (option_map (map (term_at (entries_of g ts))) o) (option_map (map (term_at (entries_of g us))) p)
  next_means ss k both_end = theory.both_end
  next_means ss k (both_go_on {xs = xs} {ys = ys} h) = theory.both_go_on (terms_mean xs ys k.within h)

  summands_mean : (params : List VarId) (xs ys : List PlainSummand) → All (SummandFits g ts params) xs → AllZip (SummandBecomes g own IsSimple ts us) xs ys → AllZip (theory.SummandBecomes R) (map (summand_of (entries_of g ts)) xs) (map (summand_of (entries_of g us)) ys)
  summands_mean params [] [] k h = tt
  summands_mean params [] (y ∷ ys) k h = absurd h
  summands_mean params (x ∷ xs) [] k h = absurd h
  summands_mean params (x ∷ xs) (y ∷ ys) k h =
      let f = All-head (SummandFits g ts params) x xs k in (
        record {
          sums = ap (map (bound_at (entries_of g ts))) h.0.sums;
          condition = term_means x.condition y.condition f.condition.within h.0.condition;
          label = label_means x.label y.label f.label h.0.label;
          next = next_means (map (sort_of_variable g) params) f.next h.0.next;
        },
        summands_mean params xs ys (All-tail (SummandFits g ts params) x xs k) h.1,
      )

  pub becomes_meant : (l k : PlainLinear) → Fits g ts l → LinearBecomes g own IsSimple ts us l k → Becomes R (linear_of (entries_of g ts) l) (initial_of (entries_of g ts) l) (linear_of (entries_of g us) k) (initial_of (entries_of g us) k)
  becomes_meant l k fits h = record {
    params = ap (map (bound_at (entries_of g ts))) h.params;
    initial = terms_mean l.init k.init fits.init.within h.init;
    summands = summands_mean l.params l.summands k.summands fits.summands h.summands;
  }

  -- ---- that it fits
  term_fits : (s : SortId) (t u : TermId) → s.0 < length g.sorts → IsTermOf g ts s t → TermBecomes g own IsSimple ts us t u → IsTermOf g us s u
  term_fits s t u w k h = record {
    within = h.within.inside;
    sorted = sorted_back g stands (tree_at us u) s h.within.within w (h.simpler.sort (variable_sorts g) (variables_are_sorts g stands) (sort_under g s) (sorted_trees_mean_sorted_terms g stands.table (tree_at ts t) s k.sorted));
  }

  terms_fit : (ss : List SortId) (xs ys : List TermId) → All (λ (s : SortId). s.0 < length g.sorts) ss → AreTermsOf g ts ss xs → AllZip (TermBecomes g own IsSimple ts us) xs ys → AreTermsOf g us ss ys
  terms_fit ss [] [] w k h = record { within = All-nil (IsIn us); sorted = k.sorted }
  terms_fit ss [] (y ∷ ys) w k h = absurd h
  terms_fit ss (x ∷ xs) [] w k h = absurd h
  terms_fit [] (x ∷ xs) (y ∷ ys) w k h = absurd k.sorted
  terms_fit (s ∷ ss) (x ∷ xs) (y ∷ ys) w k h =
      let one = term_fits s x y (All-head (λ (z : SortId). z.0 < length g.sorts) s ss w) (record { within = All-head (IsIn ts) x xs k.within; sorted = k.sorted.0 }) h.0 in
      let more = terms_fit ss xs ys (All-tail (λ (z : SortId). z.0 < length g.sorts) s ss w) (record { within = All-tail (IsIn ts) x xs k.within; sorted = k.sorted.1 }) h.1 in
      record { within = All-cons (IsIn us) y ys one.within more.within; sorted = (one.sorted, more.sorted) }

  label_fits : (m n : List PlainAction) → All (IsActionOf g ts) m → AllZip (ActionBecomes g own IsSimple ts us) m n → All (IsActionOf g us) n
  label_fits [] [] k h = All-nil (IsActionOf g us)
  label_fits [] (b ∷ n) k h = absurd h
  label_fits (a ∷ m) [] k h = absurd h
  label_fits (a ∷ m) (b ∷ n) k h =
      let f = All-head (IsActionOf g ts) a m k in
      All-cons (IsActionOf g us) b n
      (record { key = f.key; stands = subst (λ i. slice_get g.actions i.0 ≡ Some f.key) (sym h.0.act) f.stands; args = terms_fit f.key.sorts a.args b.args (key_sorts a.act.0 f.key f.stands) f.args h.0.args })
      (label_fits m n (All-tail (IsActionOf g ts) a m k) h.1)
    where
      key_sorts : (i : ℕ) (key : Key) → slice_get g.actions i ≡ Some key → All (λ (z : SortId). z.0 < length g.sorts) key.sorts
      key_sorts i key e = (all_at (IsKeyWithin (length g.texts) (length g.sorts)) g.actions i key stands.complete.within.actions e).takes

  param_sorts_within : (xs : List VarId) → All (IsVariable g) xs → All (λ (z : SortId). z.0 < length g.sorts) (map (sort_of_variable g) xs)
  param_sorts_within [] k = All-nil (λ (z : SortId). z.0 < length g.sorts)
  param_sorts_within (x ∷ xs) k =
      All-cons (λ (z : SortId). z.0 < length g.sorts) (sort_of_variable g x) (map (sort_of_variable g) xs) (sort_is_within g x stands.complete (All-head (IsVariable g) x xs k)) (param_sorts_within xs (All-tail (IsVariable g) x xs k))

  next_fits : (ss : List SortId) {o p : Option (List TermId)} → All (λ (z : SortId). z.0 < length g.sorts) ss → IfSome o (AreTermsOf g ts ss) → NextBecomes g own IsSimple ts us o p → IfSome p (AreTermsOf g us ss)
  next_fits ss w k both_end = k
  next_fits ss w k (both_go_on {xs = xs} {ys = ys} h) = terms_fit ss xs ys w k h

  summands_fit : (params : List VarId) (xs ys : List PlainSummand) → All (IsVariable g) params → All (SummandFits g ts params) xs → AllZip (SummandBecomes g own IsSimple ts us) xs ys → All (SummandFits g us params) ys
  summands_fit params [] [] vs k h = All-nil (SummandFits g us params)
  summands_fit params [] (y ∷ ys) vs k h = absurd h
  summands_fit params (x ∷ xs) [] vs k h = absurd h
  summands_fit params (x ∷ xs) (y ∷ ys) vs k h =
      let f = All-head (SummandFits g ts params) x xs k in
      All-cons (SummandFits g us params) y ys
      (record {
        sums = subst (λ z. All (IsVariable g) z) (sym h.0.sums) f.sums;
        condition = term_fits bool_sort x.condition y.condition (bool_within g stands) f.condition h.0.condition;
        label = label_fits x.label y.label f.label h.0.label;
        next = next_fits (map (sort_of_variable g) params) (param_sorts_within params vs) f.next h.0.next;
      })
      (summands_fit params xs ys vs (All-tail (SummandFits g ts params) x xs k) h.1)

  sums_same : (P : List VarId → Type 0) (xs ys : List PlainSummand) → AllZip (SummandBecomes g own IsSimple ts us) xs ys → All (λ (s : PlainSummand). P s.sums) xs → All (λ (s : PlainSummand). P s.sums) ys
  sums_same P [] [] h k = All-nil (λ (s : PlainSummand). P s.sums)
  sums_same P [] (y ∷ ys) h k = absurd h
  sums_same P (x ∷ xs) [] h k = absurd h
  sums_same P (x ∷ xs) (y ∷ ys) h k =
      All-cons (λ (s : PlainSummand). P s.sums) y ys (subst P (sym h.0.sums) (All-head (λ (s : PlainSummand). P s.sums) x xs k)) (sums_same P xs ys h.1 (All-tail (λ (s : PlainSummand). P s.sums) x xs k))

  pub becomes_fits : (l k : PlainLinear) → Fits g ts l → LinearBecomes g own IsSimple ts us l k → Fits g us k
  becomes_fits l k fits h =
      let meant = becomes_meant l k fits h in
      record {
        params = subst (λ z. All (IsVariable g) z) (sym h.params) fits.params;
        init = subst (λ z. AreTermsOf g us (map (sort_of_variable g) z) k.init) (sym h.params) (terms_fit (map (sort_of_variable g) l.params) l.init k.init (param_sorts_within l.params fits.params) fits.init h.init);
        closed = becomes_closed g own IsSimple (linear_of (entries_of g ts) l) (linear_of (entries_of g us) k) (initial_of (entries_of g ts) l) (initial_of (entries_of g us) k) meant fits.closed;
        summands = subst (λ z. All (SummandFits g us z) k.summands) (sym h.params) (summands_fit l.params l.summands k.summands fits.params fits.summands h.summands);
        linear = becomes_linear g own IsSimple (linear_of (entries_of g ts) l) (linear_of (entries_of g us) k) (initial_of (entries_of g ts) l) (initial_of (entries_of g us) k) meant fits.linear;
        taken = subst (λ z. All (HasTakenName g) z) (sym h.params) fits.taken;
        sums_taken = sums_same (λ xs. All (HasTakenName g) xs) l.summands k.summands h.summands fits.sums_taken;
      }
