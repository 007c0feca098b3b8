-- The product whose first step is of one kind, of two linear processes that are plainly conditioned, is plainly conditioned: beside the product it adds the
-- parameter which says that the first step is still to come.
use Rattle.std.proofs.Common.{◌≡◌, ℕ, Bool, true, false, List, [], ◌∷◌, ◌++◌, map, refl, sym, ap, ap₂, ◌∙◌, subst, ⊎_elim, Option, Some, None}
use Rattle.std.specs.Prelude.{Contains, option_map}
use Rattle.std.proofs.lemmas.List.{map-append}
use Rattle.std.proofs.lemmas.List.Elements.{All-nil, All-cons, All-append, Contains-append_cases, Contains-append_left, Contains-append_right}
use Rattle.data_theory.specs.declared.ids.VarId.{VarId}
use Rattle.data_theory.specs.Terms.{boolean, Term, variable}
use Rattle.data_theory.specs.Equations.{trueᵗ, !ᵗ◌}
use Rattle.data_theory.specs.IdTerms.{IsGrown}
use Rattle.data_theory.specs.Signature.{Sig}
use Rattle.data_theory.specs.WholeSignatures.{IsSignature}
use Rattle.data_theory.proofs.IdGrowthLemmas.{growth_after_growth_is_growth}
use Rattle.term_pool.specs.Pools.{PoolContents, Extends}
use Rattle.term_pool.proofs.DeclaredConstants.{grown_itself}
use Rattle.process_terms.specs.Meanings.{Entries, bound_at}
use Rattle.process_terms.specs.Processes.{Start, Bound}
use Rattle.process_terms.specs.SignatureEntries.{entries_of, BothGrow}
use Rattle.bisim_laws.specs.BaseStates.{Side}
use Rattle.bisim_laws.specs.LinearProcesses.{Summand, Linear}
use Rattle.bisim_laws.proofs.Firing.{contains_first}
use Rattle.lps_core.specs.Conditions.{parts}
use Rattle.lps_core.specs.Fitting.{Fits}
use Rattle.lps_core.specs.MadeTerms.{Written, Origin, origin_of, IsMade, a_variable, the_true, the_false, AreMade, none_made, more_made, IsAdded, against_a_flag, the_whole, IsPlainPart, plain_part, HasPlainParts, SummandIsPlain, IsPlainlyConditioned}
use Rattle.lps_core.specs.Naming.{GrowsByNames}
use Rattle.lps_core.specs.PlainLinears.{PlainLinear, linear_of, initial_of}
use Rattle.lps_core.proofs.Members.{contains_map}
use Rattle.lps_core.proofs.PoolTrees.{extends_itself}
use Rattle.lps_core.proofs.Staying.{what_fits_stays}
use Rattle.lps_core.proofs.StayingFits.{what_fits_fits_still}
use Rattle.greibach.proofs.GrownFits.{both_by_names}
use Rattle.regular_encoder.proofs.FirstTerms.{some_is, no_some}
use Rattle.stack_encoder.proofs.WiderOrigins.{IsWider, all_made_in_more, label_in_more, parts_in_more, only_stacks}
use Rattle.summand_expander.specs.FirstSteps.{left_may, both_may, left_summands, right_summands, both_summands, first_condition, first_after, one_column_more, started, started_summands, product_from, first_of_all}
use Rattle.summand_expander.specs.Product.{columns, product, first_columns}
use Rattle.summand_expander.specs.Renewing.{renewed}
use Rattle.summand_expander.specs.StartedProducts.{IsProductFrom}
use Rattle.summand_expander.specs.WholeProducts.{renewed_number, side_of_linear, renewed_side}
use Rattle.summand_expander.proofs.Separating.{flags_bound}
use Rattle.lin_driver.specs.PlainlyMade.{IsAddedParameter, a_first_flag, IsPlainFor}
use Rattle.lin_driver.proofs.PlainBeside.{product_is_plain}
use Rattle.lin_driver.proofs.PlainGrowing.{plain_on}
use Rattle.lin_driver.proofs.PlainlyConjoined.{each_of, both_made, conjoined_plain}
use Rattle.lin_driver.proofs.ProductNames.{whole_product}
use Rattle.lin_driver.proofs.StartedNames.{to_product, to_first}

-- ---- a summand with one parameter more
module _ (o : Origin) (added all : List Bound) (f : ℕ) where
  abbrev flag : Bound
  flag = record { var = f; sort = boolean }

  abbrev added_now : List Bound
  added_now = added ++ flag ∷ []

  abbrev all_now : List Bound
  all_now = all ++ flag ∷ []

  flag_is_added : IsAdded added_now all_now flag
  flag_is_added = record { by_a_pass = Contains-append_right added (flag ∷ []) flag (contains_first flag []); parameter = Contains-append_right all (flag ∷ []) flag (contains_first flag []) }

  wider : IsWider o.declared o.variable_sorts o.WasAnswered o.written o.written o.stacks o.stacks
  wider = only_stacks o.declared o.variable_sorts o.WasAnswered o.written o.stacks o.stacks (λ k i. i)

  module _ (s : Summand) (plain : SummandIsPlain o added all s) where
    abbrev xs : List Bound
    xs = s.sums ++ all

    abbrev ys : List Bound
    ys = s.sums ++ all_now

    params_in : (x : Bound) → Contains all x → Contains all_now x
    params_in x i = Contains-append_left all (flag ∷ []) x i

    variables_in : (x : Bound) → Contains xs x → Contains ys x
    variables_in x i = ⊎_elim (λ j. Contains-append_left s.sums all_now x j) (λ j. Contains-append_right s.sums all_now x (params_in x j)) (Contains-append_cases s.sums all x i)

    own_condition : HasPlainParts o added_now all_now ys s.condition
    own_condition =
        parts_in_more o.declared o.variable_sorts o.WasAnswered o.written o.written o.stacks o.stacks wider all all_now xs ys params_in variables_in added added_now (λ x i. Contains-append_left added (flag ∷ []) x i) s.condition plain.condition

    condition : (may : Bool) → HasPlainParts o added_now all_now ys (first_condition f may s.condition)
    condition true = own_condition
    condition false =
        conjoined_plain o added_now all_now ys ((!ᵗ (variable f)) ∷ parts s.condition) (plain_part (against_a_flag flag_is_added refl) the_whole, each_of (IsPlainPart o added_now all_now ys) (parts s.condition) own_condition)

    after : (may : Bool) → IsMade o all_now ys (first_after f may)
    after true = the_false
    after false = a_variable {x = flag} (Contains-append_right s.sums all_now flag flag_is_added.parameter)

    next : (may : Bool) (n : Option (List Term)) → ((ts : List Term) → n ≡ Some ts → AreMade o all xs ts) → (us : List Term) → one_column_more (first_after f may) n ≡ Some us → AreMade o all_now ys us
    next may None h us e = absurd (no_some e)
    next may (Some ts) h us e = subst (λ z. AreMade o all_now ys z) (some_is e)
        (both_made o all_now ys ts (first_after f may ∷ []) (all_made_in_more o.declared o.variable_sorts o.WasAnswered o.written o.written o.stacks o.stacks wider all all_now xs ys params_in variables_in ts (h ts refl)) (more_made (after may) none_made))

    started_is_plain : (may : Bool) → SummandIsPlain o added_now all_now (started f may s)
    started_is_plain may = record {
      sums = plain.sums;
      condition = condition may;
      label = label_in_more o.declared o.variable_sorts o.WasAnswered o.written o.written o.stacks o.stacks wider all all_now xs ys params_in variables_in s.label plain.label;
      next = next may s.next plain.next;
    }

  -- ---- those of a group
  group_is_plain : (may : Bool) (ss : List Summand) → ((s : Summand) → Contains ss s → SummandIsPlain o added all s) → (y : Summand) → Contains (started_summands f may ss) y → SummandIsPlain o added_now all_now y
  group_is_plain may ss plain y i = let s = contains_map (started f may) ss y i in subst (SummandIsPlain o added_now all_now) (sym s.1.1) (started_is_plain s.0 (plain s.0 s.1.0) may)

-- ---- the product
pub from_is_plain : (o : Origin) (added : List Bound) (start : Start) (a b : Side) (f : ℕ) (init : List Term) → IsPlainlyConditioned o added (product a b) init
    → IsPlainlyConditioned o (added ++ record { var = f; sort = boolean } ∷ []) (product_from start a b f) (init ++ (trueᵗ ∷ []))
from_is_plain o added start a b f init plain =
    let ls = left_summands a b in
    let rs = right_summands a b in
    let bs = both_summands a b in
    let all = columns a ++ columns b in
    let lefts = started_summands f (left_may start) ls in
    let rights = started_summands f false rs in
    let boths = started_summands f (both_may start) bs in
    record {
      starts = both_made o [] [] init (trueᵗ ∷ []) plain.starts (more_made the_true none_made);
      summands = λ y i. ⊎_elim
          (λ j. group_is_plain o added all f (left_may start) ls (λ s n. plain.summands s (Contains-append_left ls (rs ++ bs) s n)) y j)
          (λ j. ⊎_elim
          (λ n. group_is_plain o added all f false rs (λ s m. plain.summands s (Contains-append_right ls (rs ++ bs) s (Contains-append_left rs bs s m))) y n)
          (λ n. group_is_plain o added all f (both_may start) bs (λ s m. plain.summands s (Contains-append_right ls (rs ++ bs) s (Contains-append_right rs bs s m))) y n)
          (Contains-append_cases rights boths y j))
          (Contains-append_cases lefts (rights ++ boths) y i);
    }

-- ---- in code
module _ (o : Start) (s g h : Sig) (p q : PoolContents) (w : Written) (l r k : PlainLinear) (old : IsSignature g) (since : IsGrown s g) (by : GrowsByNames g h) (kept : Extends p.trees q.trees) (made_fits : Fits h q.trees k) (made : IsProductFrom o g h q.trees l r k)
    (before : IsPlainFor s g p w l) (before' : IsPlainFor s g p w r) where
  abbrev m : Sig
  m = made.between

  to_m : GrowsByNames g m
  to_m = to_product o g h p.trees q.trees l r k old before.fits before'.fits made

  sm : IsSignature m
  sm = to_m.stands

  new : GrowsByNames m h
  new = (to_first o g h p.trees q.trees l r k old before.fits before'.fits made).0

  grow : BothGrow m h q.trees q.trees
  grow = both_by_names m h q.trees q.trees new (extends_itself q.trees)

  -- the product itself
  product_then : IsPlainFor s m q w made.plain
  product_then = product_is_plain product whole_product s g m p q w l r made.plain old since to_m kept made.fits made.product before before'

  product_now : IsPlainFor s h q w made.plain
  product_now = plain_on s m h q q w made.plain sm new.stands grow product_then

  -- means the product of the sides, as they are with one variable more
  abbrev e : Entries
  e = entries_of h q.trees

  abbrev a : Side
  a = side_of_linear e l made.product.left_flag

  abbrev b : Side
  b = renewed_side e made.product.olds made.product.news r made.product.right_flag

  stays : (x : PlainLinear) → Fits m q.trees x → (linear_of e x ≡ linear_of (entries_of m q.trees) x) × (initial_of e x ≡ initial_of (entries_of m q.trees) x)
  stays x fits = what_fits_stays m h q.trees q.trees x sm.table sm.complete grow fits

  at_product : (x : PlainLinear) → Fits g p.trees x → Fits m q.trees x
  at_product x fits = what_fits_fits_still g m p.trees q.trees x old.table old.complete sm.table (both_by_names g m p.trees q.trees to_m kept) fits

  product_means : linear_of e made.plain ≡ product a b
  product_means =
      (stays made.plain made.fits).0 ∙ made.product.linear
      ∙ ap₂ (λ x y. product (record { process = x; flag = option_map (λ (v : VarId). v.0) made.product.left_flag }) (record { process = renewed (renewed_number made.product.olds made.product.news) y; flag = option_map (λ (v : VarId). v.0) made.product.right_flag }))
      (sym (stays l (at_product l before.fits)).0) (sym (stays r (at_product r before'.fits)).0)

  product_starts : initial_of e made.plain ≡ first_columns a (initial_of e l) ++ first_columns b (initial_of e r)
  product_starts =
      (stays made.plain made.fits).1 ∙ made.product.initial
      ∙ ap₂ (λ xs ys. first_columns a xs ++ first_columns b ys) (sym (stays l (at_product l before.fits)).1) (sym (stays r (at_product r before'.fits)).1)

  -- with the parameter
  abbrev f : VarId
  f = made.flag

  abbrev bounds : List Bound
  bounds = map (bound_at e) product_now.added

  abbrev terms : List Term
  terms = first_columns a (initial_of e l) ++ first_columns b (initial_of e r)

  bounds_now : map (bound_at e) (product_now.added ++ f ∷ []) ≡ bounds ++ record { var = f.0; sort = boolean } ∷ []
  bounds_now = map-append (bound_at e) product_now.added (f ∷ []) ∙ ap (λ ys. bounds ++ ys) (flags_bound h new.stands q.trees (Some f) (to_first o g h p.trees q.trees l r k old before.fits before'.fits made).1.is)

  conditioned : IsPlainlyConditioned (origin_of h q w product_now.stacks) bounds (product a b) terms
  conditioned =
      subst (λ z. IsPlainlyConditioned (origin_of h q w product_now.stacks) bounds (product a b) z) product_starts
      (subst (λ z. IsPlainlyConditioned (origin_of h q w product_now.stacks) bounds z (initial_of e made.plain)) product_means product_now.plain)

  with_first : IsPlainlyConditioned (origin_of h q w product_now.stacks) (bounds ++ record { var = f.0; sort = boolean } ∷ []) (product_from o a b f.0) (first_of_all a b (initial_of e l) (initial_of e r))
  with_first = from_is_plain (origin_of h q w product_now.stacks) bounds o a b f.0 terms conditioned

  among_parameters : (x : VarId) → Contains (product_now.added ++ f ∷ []) x → Contains k.params x
  among_parameters x i =
      subst (λ xs. Contains xs x) (sym made.params) (⊎_elim
      (λ j. Contains-append_left made.plain.params (f ∷ []) x (product_now.are_parameters x j))
      (λ j. Contains-append_right made.plain.params (f ∷ []) x j)
      (Contains-append_cases product_now.added (f ∷ []) x i))

  pub start_is_plain : IsPlainFor s h q w k
  start_is_plain = record {
    fits = made_fits;
    stacks = product_now.stacks;
    stacks_added = product_now.stacks_added;
    added = product_now.added ++ f ∷ [];
    are_added = All-append (IsAddedParameter s h) product_now.added (f ∷ []) product_now.are_added
        (All-cons (IsAddedParameter s h) f [] (a_first_flag (growth_after_growth_is_growth s g m since to_m.grown) made.first (grown_itself h)) (All-nil (IsAddedParameter s h)));
    are_parameters = among_parameters;
    plain = subst (λ xs. IsPlainlyConditioned (origin_of h q w product_now.stacks) xs (linear_of e k) (initial_of e k)) (sym bounds_now)
        (subst (λ z. IsPlainlyConditioned (origin_of h q w product_now.stacks) (bounds ++ record { var = f.0; sort = boolean } ∷ []) z (initial_of e k)) (sym made.linear)
        (subst (λ z. IsPlainlyConditioned (origin_of h q w product_now.stacks) (bounds ++ record { var = f.0; sort = boolean } ∷ []) (product_from o a b f.0) z) (sym made.initial) with_first));
  }
