-- What the side of a linear process means.
use Rattle.std.proofs.Common.{◌≡◌, ℕ, List, [], ◌∷◌, ◌++◌, map, refl, sym, ap, ap₂, ◌∙◌, subst, is_none, Option, Some, None}
use Rattle.std.proofs.lemmas.List.{map-append}
use Rattle.std.proofs.lemmas.List.Elements.{All-nil, All-cons, All-head, All-tail, All-append}
use Rattle.std.specs.Prelude.{option_map, IfSome}
use Rattle.std.specs.List.{All, AllZip}
use Rattle.data_theory.specs.declared.ids.TermId.{TermId}
use Rattle.data_theory.specs.declared.ids.VarId.{VarId}
use Rattle.data_theory.specs.Table.{bool_sort}
use Rattle.data_theory.specs.Terms as terms
use Rattle.data_theory.specs.Terms.{Term}
use Rattle.data_theory.specs.Signature.{Sig}
use Rattle.data_theory.specs.WholeSignatures.{IsSignature}
use Rattle.data_theory.specs.IdTrees.{Tree, variable}
use Rattle.data_theory.specs.IdTerms.{term_under}
use Rattle.data_theory.proofs.IdTermLemmas.{sorted_trees_are_within}
use Rattle.data_theory.proofs.StandingLemmas.{signatures_have_truth_functions}
use Rattle.term_pool.specs.HeadTrees.{tree_at, trees_at, IsIn, AreIn}
use Rattle.term_pool.specs.Pools.{Extends}
use Rattle.process_terms.specs.Processes.{Bound}
use Rattle.process_terms.specs.Meanings.{bound_at, term_at, label_of}
use Rattle.process_terms.specs.SignatureEntries.{entries_of}
use Rattle.bisim_laws.specs.BaseStates.{Side}
use Rattle.lps_core.specs.Columns.{as_terms}
use Rattle.lps_core.specs.Conditions.{parts, without_true}
use Rattle.lps_core.specs.Fitting.{Fits, SummandFits}
use Rattle.lps_core.specs.PlainLinears.{PlainSummand, PlainLinear, summand_of, linear_of}
use Rattle.lps_core.specs.TreeConditions.{true_tree}
use Rattle.lps_core.specs.TreeSummands.{IsActionIn, IsSummandIn}
use Rattle.lps_core.proofs.KeptSummands.{summand_in_kept}
use Rattle.lps_core.proofs.MeantParts.{parts_mean_parts}
use Rattle.lps_core.proofs.Staying.{term_is, terms_are}
use Rattle.summand_expander.specs.Product.{flag_of, running_part, set, onward}
use Rattle.summand_expander.specs.Drafts.{PlainMove}
use Rattle.summand_expander.specs.Frames.{PlainFrame, not_tree, of_flag, in_list, IsFrame, columns_after, IsMoveOf}
use Rattle.summand_expander.specs.SideMeanings.{IsMoveIn, IsSideIn, MoveMeans, SideMeans}

-- ---- its numbers are those of the pool
module _ (us : List Tree) (f : PlainFrame) (params_in : AreIn us f.params) (own_in : AreIn us f.own) (set_in : AreIn us f.set) where
  after_in : (next : Option (List TermId)) → IfSome next (AreIn us) → AreIn us (columns_after f next)
  after_in None h = All-append (IsIn us) f.params f.set params_in set_in
  after_in (Some ids) h = All-append (IsIn us) ids f.own h own_in

  moves_in : (ms : List PlainMove) (ss : List PlainSummand) → AllZip (IsMoveOf us f) ms ss → All (IsSummandIn us) ss → All (IsMoveIn us) ms
  moves_in [] ss z h = All-nil (IsMoveIn us)
  moves_in (m ∷ ms) [] z h = absurd z
  moves_in (m ∷ ms) (s ∷ ss) z h =
      let own = All-head (IsSummandIn us) s ss h in
      All-cons (IsMoveIn us) m ms (record {
        parts = z.0.parts_in;
        label = subst (λ l. All (IsActionIn us) l) (sym z.0.label) own.label;
        onward = subst (λ ids. AreIn us ids) (sym z.0.onward) (after_in s.next own.next);
      }) (moves_in ms ss z.1 (All-tail (IsSummandIn us) s ss h))

flag_in : (us : List Tree) (o : Option TermId) → AreIn us (in_list o) → IfSome o (IsIn us)
flag_in us None h = tt
flag_in us (Some t) h = All-head (IsIn us) t [] h

kept_in : (ts us : List Tree) → Extends ts us → (ss : List PlainSummand) → All (IsSummandIn ts) ss → All (IsSummandIn us) ss
kept_in ts us e [] h = All-nil (IsSummandIn us)
kept_in ts us e (s ∷ ss) h = All-cons (IsSummandIn us) s ss (summand_in_kept ts us e s (All-head (IsSummandIn ts) s ss h)) (kept_in ts us e ss (All-tail (IsSummandIn ts) s ss h))

pub side_in : (ts us params : List Tree) (flag : Option VarId) (f : PlainFrame) (ms : List PlainMove) (ss : List PlainSummand) (columns : List TermId) → Extends ts us → IsFrame us params flag f → AllZip (IsMoveOf us f) ms ss → All (IsSummandIn ts) ss → columns ≡ f.params ++ f.own
    → IsSideIn us (record { columns = columns; running = f.running; flag = f.flag; moves = ms })
side_in ts us params flag f ms ss columns e is z h q = record {
  columns = subst (λ ids. AreIn us ids) (sym q) (All-append (IsIn us) f.params f.own is.params_in is.own_in);
  running = is.running_in;
  flag = flag_in us f.flag (subst (λ ids. AreIn us ids) is.flag_is is.own_in);
  moves = moves_in us f is.params_in is.own_in is.set_in ms ss z (kept_in ts us e ss h);
}

-- ---- what it means
abbrev number : Option VarId → Option ℕ
number flag = option_map (λ (v : VarId). v.0) flag

module _ (g : Sig) (whole : IsSignature g) (ts : List Tree) where
  abbrev meant : List TermId → List Term
  meant ids = map (term_at (entries_of g ts)) ids

  variables_meant : (xs : List VarId) → map (term_under g) (map variable xs) ≡ as_terms (map (bound_at (entries_of g ts)) xs)
  variables_meant [] = refl
  variables_meant (x ∷ xs) = ap (λ us. terms.variable x.0 ∷ us) (variables_meant xs)

  own_meant : (flag : Option VarId) → map (term_under g) (of_flag variable flag) ≡ as_terms (flag_of (number flag))
  own_meant None = refl
  own_meant (Some x) = refl

  running_meant : (flag : Option VarId) → map (term_under g) (of_flag (λ x. not_tree (variable x)) flag) ≡ running_part (number flag)
  running_meant None = refl
  running_meant (Some x) = ap (λ s. terms.application s (terms.more (terms.variable x.0) terms.none) ∷ []) (signatures_have_truth_functions g whole).not_means

  set_meant : (flag : Option VarId) → map (term_under g) (of_flag (λ x. true_tree) flag) ≡ set (flag_of (number flag))
  set_meant None = refl
  set_meant (Some x) = ap (λ s. terms.application s terms.none ∷ []) (signatures_have_truth_functions g whole).true_means

  flag_meant : (o : Option TermId) (flag : Option VarId) → meant (in_list o) ≡ as_terms (flag_of (number flag)) → option_map (term_at (entries_of g ts)) o ≡ option_map terms.variable (number flag)
  flag_meant None None q = refl
  flag_meant (Some t) (Some x) q = ap Some (first_same q)
    where
      first_same : {t u : Term} → t ∷ [] ≡ u ∷ [] → t ≡ u
      first_same e = cc
  flag_meant None (Some x) q = absurd (none_one q)
    where
      none_one : {u : Term} → [] ≡ u ∷ [] → ⊥
      none_one e = cc
  flag_meant (Some t) None q = absurd (one_none q)
    where
      one_none : {u : Term} → u ∷ [] ≡ [] → ⊥
      one_none e = cc

  module _ (l : PlainLinear) (flag : Option VarId) (f : PlainFrame) (is : IsFrame ts (map variable l.params) flag f) where
    abbrev side : Side
    side = record { process = linear_of (entries_of g ts) l; flag = number flag }

    by_trees : (ids : List TermId) (us : List Tree) (zs : List Term) → AreIn ts ids → trees_at ts ids ≡ us → map (term_under g) us ≡ zs → meant ids ≡ zs
    by_trees ids us zs h q r = terms_are g ts ids h ∙ ap (map (term_under g)) q ∙ r

    params_mean : meant f.params ≡ as_terms side.process.params
    params_mean = by_trees f.params (map variable l.params) (as_terms side.process.params) is.params_in is.params_are (variables_meant l.params)

    own_means : meant f.own ≡ as_terms (flag_of (number flag))
    own_means = by_trees f.own (of_flag variable flag) (as_terms (flag_of (number flag))) is.own_in is.own_is (own_meant flag)

    set_means : meant f.set ≡ set (flag_of (number flag))
    set_means = by_trees f.set (of_flag (λ x. true_tree) flag) (set (flag_of (number flag))) is.set_in is.set_is (set_meant flag)

    after_means : (next : Option (List TermId)) → meant (columns_after f next) ≡ onward side (option_map meant next)
    after_means None = map-append (term_at (entries_of g ts)) f.params f.set ∙ ap₂ (λ u v. u ++ v) params_mean set_means
    after_means (Some ids) = map-append (term_at (entries_of g ts)) ids f.own ∙ ap (λ v. meant ids ++ v) own_means

    ends_same : (next : Option (List TermId)) → is_none next ≡ is_none (option_map meant next)
    ends_same None = refl
    ends_same (Some ids) = refl

    one_means : (m : PlainMove) (s : PlainSummand) → IsMoveOf ts f m s → SummandFits g ts l.params s → MoveMeans (entries_of g ts) side m (summand_of (entries_of g ts) s)
    one_means m s i fit = record {
      sums = ap (map (bound_at (entries_of g ts))) i.sums;
      parts =
          terms_are g ts m.parts i.parts_in ∙ ap (map (term_under g)) i.parts
          ∙ parts_mean_parts g whole.table whole.complete (tree_at ts s.condition) (sorted_trees_are_within g whole.table (tree_at ts s.condition) bool_sort fit.condition.sorted)
          ∙ ap (λ t. without_true (parts t)) (sym (term_is g ts s.condition fit.condition.within));
      label = ap (label_of (entries_of g ts)) i.label;
      onward = ap (λ ids. meant ids) i.onward ∙ after_means s.next;
      ends = i.ends ∙ ends_same s.next;
    }

    all_mean : (ms : List PlainMove) (ss : List PlainSummand) → AllZip (IsMoveOf ts f) ms ss → All (SummandFits g ts l.params) ss → AllZip (MoveMeans (entries_of g ts) side) ms (map (summand_of (entries_of g ts)) ss)
    all_mean [] [] z h = tt
    all_mean [] (s ∷ ss) z h = absurd z
    all_mean (m ∷ ms) [] z h = absurd z
    all_mean (m ∷ ms) (s ∷ ss) z h = (one_means m s z.0 (All-head (SummandFits g ts l.params) s ss h), all_mean ms ss z.1 (All-tail (SummandFits g ts l.params) s ss h))

    means : (ms : List PlainMove) (columns : List TermId) → AllZip (IsMoveOf ts f) ms l.summands → Fits g ts l → columns ≡ f.params ++ f.own → SideMeans (entries_of g ts) (record { columns = columns; running = f.running; flag = f.flag; moves = ms }) side
    means ms columns z fits q = record {
      columns = ap (λ ids. meant ids) q ∙ map-append (term_at (entries_of g ts)) f.params f.own ∙ ap₂ (λ u v. u ++ v) params_mean own_means ∙ sym (map-append (λ (x : Bound). terms.variable x.var) side.process.params (flag_of (number flag)));
      running = by_trees f.running (of_flag (λ x. not_tree (variable x)) flag) (running_part (number flag)) is.running_in is.running_is (running_meant flag);
      flag = flag_meant f.flag flag (ap (λ ids. meant ids) (sym is.flag_is) ∙ own_means);
      moves = all_mean ms l.summands z fits.summands;
    }

pub side_means : (g : Sig) → IsSignature g → (ts : List Tree) (l : PlainLinear) (flag : Option VarId) (f : PlainFrame) (ms : List PlainMove) (columns : List TermId) → IsFrame ts (map variable l.params) flag f → AllZip (IsMoveOf ts f) ms l.summands → Fits g ts l → columns ≡ f.params ++ f.own
    → SideMeans (entries_of g ts) (record { columns = columns; running = f.running; flag = f.flag; moves = ms }) (record { process = linear_of (entries_of g ts) l; flag = option_map (λ (v : VarId). v.0) flag })
side_means g whole ts l flag f ms columns is z fits q = means g whole ts l flag f is ms columns z fits q
