-- The side of a linear process that fits, fits.
use Rattle.std.proofs.Common.{◌≡◌, List, [], ◌∷◌, ◌++◌, map, sym, subst, Option, Some, None}
use Rattle.std.specs.Prelude.{option_to_list, IfSome}
use Rattle.std.specs.List.{All, AllZip}
use Rattle.std.proofs.lemmas.List.{map-append}
use Rattle.std.proofs.lemmas.List.Elements.{All-nil, All-cons, All-head, All-tail}
use Rattle.data_theory.specs.declared.ids.SortId.{SortId}
use Rattle.data_theory.specs.declared.ids.VarId.{VarId}
use Rattle.data_theory.specs.declared.ids.TermId.{TermId}
use Rattle.data_theory.specs.Table.{bool_sort}
use Rattle.data_theory.specs.Signature.{Sig}
use Rattle.data_theory.specs.IdTrees.{Tree, variable, trees_of}
use Rattle.data_theory.specs.IdTreeSorts.{IsVariableOf, HasTreeSort, HaveTreeSorts}
use Rattle.data_theory.specs.SignatureLaws.{HasTruthFunctions}
use Rattle.term_pool.specs.HeadTrees.{tree_at}
use Rattle.data_theory.specs.WholeSignatures.{IsSignature}
use Rattle.data_theory.proofs.StandingLemmas.{signatures_have_truth_functions}
use Rattle.lps_core.specs.Fitting.{Fits, SummandFits, IsTermOf, AreTermsOf, IsActionOf, IsVariable, sort_of_variable, HasTakenName}
use Rattle.lps_core.specs.PlainLinears.{PlainSummand, PlainLinear}
use Rattle.lps_core.proofs.StayingFits.{both_weaker}
use Rattle.lps_core.specs.TreeConditions.{true_tree, tree_parts}
use Rattle.summand_expander.specs.Drafts.{PlainMove}
use Rattle.summand_expander.specs.Frames.{PlainFrame, not_tree, of_flag, in_list, IsFrame, columns_after, IsMoveOf}
use Rattle.summand_expander.specs.SideFits.{MoveFits, SideFits, FitsWithNames, IsFlagOf}
use Rattle.summand_expander.proofs.NewVariables.{variable_sorted}
use Rattle.summand_expander.proofs.FittingDrafts.{AreConditionTrees, terms_append, true_sorted, not_sorted, parts_sorted, without_true_sorted, conditions_of}

variables_sorted : (g : Sig) (xs : List VarId) → All (IsVariable g) xs → HaveTreeSorts g (trees_of (map variable xs)) (map (sort_of_variable g) xs)
variables_sorted g [] l = tt
variables_sorted g (x ∷ xs) l = (variable_sorted g x (All-head (IsVariable g) x xs l), variables_sorted g xs (All-tail (IsVariable g) x xs l))

module _ (g : Sig) (f : HasTruthFunctions g) (ts : List Tree) (params : List VarId) (flag : Option VarId) (own : All (IsVariable g) params) (flagged : IfSome flag (IsFlagOf g)) where
  abbrev columns : List SortId
  columns = map (sort_of_variable g) (params ++ option_to_list flag)

  split : columns ≡ map (sort_of_variable g) params ++ map (sort_of_variable g) (option_to_list flag)
  split = map-append (sort_of_variable g) params (option_to_list flag)

  flag_sorted : (flag : Option VarId) → IfSome flag (IsFlagOf g) → HaveTreeSorts g (trees_of (of_flag variable flag)) (map (sort_of_variable g) (option_to_list flag))
  flag_sorted None h = tt
  flag_sorted (Some x) h = (variable_sorted g x h.variable, tt)

  set_sorted : (flag : Option VarId) → IfSome flag (IsFlagOf g) → HaveTreeSorts g (trees_of (of_flag (λ x. true_tree) flag)) (map (sort_of_variable g) (option_to_list flag))
  set_sorted None h = tt
  set_sorted (Some x) h = (subst (λ s. HasTreeSort g true_tree s) (sym h.sort) (true_sorted g f), tt)

  boolean_variable : (x : VarId) → IsFlagOf g x → HasTreeSort g (variable x) bool_sort
  boolean_variable x h = subst (λ s. IsVariableOf g x s) h.sort (variable_sorted g x h.variable)

  running_sorted : (flag : Option VarId) → IfSome flag (IsFlagOf g) → AreConditionTrees g (of_flag (λ x. not_tree (variable x)) flag)
  running_sorted None h = All-nil (λ t. HasTreeSort g t bool_sort)
  running_sorted (Some x) h = All-cons (λ t. HasTreeSort g t bool_sort) (not_tree (variable x)) [] (not_sorted g f x (boolean_variable x h)) (All-nil (λ t. HasTreeSort g t bool_sort))

  flag_conditions : (flag : Option VarId) → IfSome flag (IsFlagOf g) → AreConditionTrees g (of_flag variable flag)
  flag_conditions None h = All-nil (λ t. HasTreeSort g t bool_sort)
  flag_conditions (Some x) h = All-cons (λ t. HasTreeSort g t bool_sort) (variable x) [] (boolean_variable x h) (All-nil (λ t. HasTreeSort g t bool_sort))

  flag_condition : (o : Option TermId) → All (IsTermOf g ts bool_sort) (in_list o) → IfSome o (IsTermOf g ts bool_sort)
  flag_condition None h = tt
  flag_condition (Some t) h = All-head (IsTermOf g ts bool_sort) t [] h

  module _ (r : PlainFrame) (is : IsFrame ts (map variable params) flag r) where
    params_fit : AreTermsOf g ts (map (sort_of_variable g) params) r.params
    params_fit = record { within = is.params_in; sorted = subst (λ us. HaveTreeSorts g (trees_of us) (map (sort_of_variable g) params)) (sym is.params_are) (variables_sorted g params own) }

    own_fits : AreTermsOf g ts (map (sort_of_variable g) (option_to_list flag)) r.own
    own_fits = record { within = is.own_in; sorted = subst (λ us. HaveTreeSorts g (trees_of us) (map (sort_of_variable g) (option_to_list flag))) (sym is.own_is) (flag_sorted flag flagged) }

    set_fits : AreTermsOf g ts (map (sort_of_variable g) (option_to_list flag)) r.set
    set_fits = record { within = is.set_in; sorted = subst (λ us. HaveTreeSorts g (trees_of us) (map (sort_of_variable g) (option_to_list flag))) (sym is.set_is) (set_sorted flag flagged) }

    both_fit : (is js : List TermId) → AreTermsOf g ts (map (sort_of_variable g) params) is → AreTermsOf g ts (map (sort_of_variable g) (option_to_list flag)) js → AreTermsOf g ts columns (is ++ js)
    both_fit is js h k = subst (λ ss. AreTermsOf g ts ss (is ++ js)) (sym split) (terms_append g ts (map (sort_of_variable g) params) (map (sort_of_variable g) (option_to_list flag)) is js h k)

    after_fits : (next : Option (List TermId)) → IfSome next (AreTermsOf g ts (map (sort_of_variable g) params)) → AreTermsOf g ts columns (columns_after r next)
    after_fits None h = both_fit r.params r.set params_fit set_fits
    after_fits (Some ids) h = both_fit ids r.own h own_fits

    move_fits : (m : PlainMove) (s : PlainSummand) → IsMoveOf ts r m s → FitsWithNames g ts params s → MoveFits g ts columns m
    move_fits m s i k = record {
      sums = subst (λ xs. All (IsVariable g) xs) (sym i.sums) k.fits.sums;
      taken = subst (λ xs. All (HasTakenName g) xs) (sym i.sums) k.taken;
      parts = conditions_of g ts m.parts i.parts_in (subst (λ us. AreConditionTrees g us) (sym i.parts) (without_true_sorted g (tree_parts (tree_at ts s.condition)) (parts_sorted g f (tree_at ts s.condition) k.fits.condition.sorted)));
      label = subst (λ l. All (IsActionOf g ts) l) (sym i.label) k.fits.label;
      onward = subst (λ ids. AreTermsOf g ts columns ids) (sym i.onward) (after_fits s.next k.fits.next);
    }

    moves_fit : (ms : List PlainMove) (ss : List PlainSummand) → AllZip (IsMoveOf ts r) ms ss → All (FitsWithNames g ts params) ss → All (MoveFits g ts columns) ms
    moves_fit [] ss z h = All-nil (MoveFits g ts columns)
    moves_fit (m ∷ ms) [] z h = absurd z
    moves_fit (m ∷ ms) (s ∷ ss) z h = All-cons (MoveFits g ts columns) m ms (move_fits m s z.0 (All-head (FitsWithNames g ts params) s ss h)) (moves_fit ms ss z.1 (All-tail (FitsWithNames g ts params) s ss h))

    pub side_fits : (ms : List PlainMove) (ss : List PlainSummand) (ids : List TermId) → AllZip (IsMoveOf ts r) ms ss → All (FitsWithNames g ts params) ss → ids ≡ r.params ++ r.own
        → SideFits g ts columns (record { columns = ids; running = r.running; flag = r.flag; moves = ms })
    side_fits ms ss ids z h q = record {
      columns_fit = subst (λ is. AreTermsOf g ts columns is) (sym q) (both_fit r.params r.own params_fit own_fits);
      running = conditions_of g ts r.running is.running_in (subst (λ us. AreConditionTrees g us) (sym is.running_is) (running_sorted flag flagged));
      flag = flag_condition r.flag (subst (λ is. All (IsTermOf g ts bool_sort) is) is.flag_is (conditions_of g ts r.own is.own_in (subst (λ us. AreConditionTrees g us) (sym is.own_is) (flag_conditions flag flagged))));
      moves = moves_fit ms ss z h;
    }

-- of a whole linear process
pub linear_side_fits : (g : Sig) → IsSignature g → (ts : List Tree) (l : PlainLinear) (flag : Option VarId) (r : PlainFrame) (ms : List PlainMove) (ids : List TermId) → IsFrame ts (map variable l.params) flag r → AllZip (IsMoveOf ts r) ms l.summands → Fits g ts l → IfSome flag (IsFlagOf g) → ids ≡ r.params ++ r.own
    → SideFits g ts (map (sort_of_variable g) (l.params ++ option_to_list flag)) (record { columns = ids; running = r.running; flag = r.flag; moves = ms })
linear_side_fits g s ts l flag r ms ids is z fits flagged q =
    side_fits g (signatures_have_truth_functions g s) ts l.params flag fits.params flagged r is ms l.summands ids z
    (both_weaker (SummandFits g ts l.params) (λ (t : PlainSummand). All (HasTakenName g) t.sums) (FitsWithNames g ts l.params) (λ t f n. record { fits = f; taken = n }) l.summands fits.summands fits.sums_taken) q
