-- The product in code of two linear processes that are plainly conditioned is plainly conditioned.
use Rattle.std.proofs.Common.{◌≡◌, ℕ, Bool, true, List, [], ◌∷◌, ◌++◌, map, refl, sym, ◌∙◌, subst, ⊎_elim, Option, Some, None}
use Rattle.std.specs.Prelude.{Contains, IfSome, option_to_list}
use Rattle.std.specs.List.{All}
use Rattle.std.proofs.lemmas.List.Elements.{All-nil, All-cons, All-head, All-tail, All-weaker, All-append, All-contains, Contains-append_cases, Contains-append_left, Contains-append_right}
use Rattle.data_theory.specs.declared.ids.VarId.{VarId}
use Rattle.data_theory.specs.Terms.{boolean, variable}
use Rattle.data_theory.specs.Declarations.{HasSort}
use Rattle.data_theory.specs.Environments.{Environment, term_in}
use Rattle.data_theory.specs.Signature.{Sig}
use Rattle.data_theory.specs.WholeSignatures.{IsSignature}
use Rattle.data_theory.specs.IdData.{data_meant}
use Rattle.data_theory.specs.IdTerms.{IsGrown, variable_sorts}
use Rattle.data_theory.proofs.IdGrowthLemmas.{growth_after_growth_is_growth}
use Rattle.term_pool.specs.Pools.{PoolContents, Extends}
use Rattle.term_pool.proofs.DeclaredConstants.{grown_itself}
use Rattle.process_terms.specs.Meanings.{Entries, bound_at}
use Rattle.process_terms.specs.Processes.{Bound}
use Rattle.process_terms.specs.SignatureEntries.{entries_of, BothGrow}
use Rattle.bisim_laws.specs.BaseStates.{Side}
use Rattle.bisim_laws.specs.LinearProcesses.{Linear}
use Rattle.bisim_laws.proofs.Firing.{contains_first}
use Rattle.lps_core.specs.Fitting.{Fits, IsVariable, HasTakenName}
use Rattle.lps_core.specs.MadeTerms.{Written, StackSort, WasAnswered, Origin, origin_of, SummandIsPlain, IsPlainlyConditioned}
use Rattle.lps_core.specs.Moving.{renaming_to}
use Rattle.lps_core.specs.Naming.{GrowsByNames}
use Rattle.lps_core.specs.PlainLinears.{PlainLinear, can_end, linear_of, initial_of}
use Rattle.lps_core.specs.TreeSummands.{numbers_of}
use Rattle.lps_core.proofs.Members.{all_from, contains_map, map_contains}
use Rattle.lps_core.proofs.NamedSums.{names_then, variable_kept, sort_kept, sorts_kept}
use Rattle.lps_core.proofs.SortedTerms.{HaveTheirSorts}
use Rattle.stack_encoder.specs.AddedStacks.{IsAddedStack}
use Rattle.stack_encoder.proofs.AnsweredTerms.{answered_stays}
use Rattle.stack_encoder.proofs.WiderOrigins.{only_stacks, linear_in_more}
use Rattle.summand_expander.specs.Product.{flag_of, columns, product, first_columns}
use Rattle.summand_expander.specs.Renewals.{IsFlag, renewed_variable, renewed_variables}
use Rattle.summand_expander.specs.Renewing.{renewed_bounds, renewed}
use Rattle.summand_expander.specs.SideFits.{IsFlagOf}
use Rattle.summand_expander.specs.WholeProducts.{renewed_number, side_of_linear, renewed_side, IsMadeOfSides}
use Rattle.summand_expander.proofs.GivingWay.{NewOnes, taken_stays}
use Rattle.summand_expander.proofs.NewVariables.{renaming_is_term, declared_renewed}
use Rattle.summand_expander.proofs.RenewedFits.{bounds_renewed}
use Rattle.summand_expander.proofs.Separating.{IsNewFlag, FlagStands, flags_bound}
use Rattle.greibach.proofs.GrownFits.{both_by_names}
use Rattle.lin_driver.specs.PlainlyMade.{IsAddedParameter, an_ended_flag, in_its_place, IsPlainFor}
use Rattle.lin_driver.proofs.PlainGrowing.{added_variables, plain_on}
use Rattle.lin_driver.proofs.PlainProducts.{FlagIsAdded, renewed_plain, product_plain}
use Rattle.lin_driver.proofs.ProductNames.{IsPartOfProduct, params_are, one, given, two, to2}

-- ---- flags
flag_of_some : (flag : Option ℕ) (f : ℕ) → flag ≡ Some f → Contains (flag_of flag) (record { var = f; sort = boolean })
flag_of_some flag f e = subst (λ o. Contains (flag_of o) (record { var = f; sort = boolean })) (sym e) (contains_first (record { var = f; sort = boolean }) [])

flag_on : (d g h : Sig) → IsGrown g h → (flag : Option VarId) → IfSome flag (IsNewFlag d g) → IfSome flag (IsFlagOf h)
flag_on d g h w None k = tt
flag_on d g h w (Some x) k = record { variable = variable_kept g h x w k.is.variable; sort = sort_kept g h x w k.is.variable ∙ k.is.sort }

flag_added : (s g h i : Sig) (b : Bool) (flag : Option VarId) → IsGrown s g → IsFlag g b h flag → ((x : VarId) → flag ≡ Some x → b ≡ true) → IsGrown h i → All (IsAddedParameter s i) (option_to_list flag)
flag_added s g h i b None a k t w = All-nil (IsAddedParameter s i)
flag_added s g h i b (Some x) a k t w = All-cons (IsAddedParameter s i) x [] (an_ended_flag a (subst (λ z. IsFlag g z h (Some x)) (t x refl) k) w) (All-nil (IsAddedParameter s i))

-- ---- new variables at a later signature
new_ones_on : (g h i : Sig) (os ns : List VarId) → GrowsByNames h i → NewOnes g h os ns → NewOnes g i os ns
new_ones_on g h i os ns w n = record {
  on = names_then g h i n.on w;
  olds = n.olds;
  news = All-weaker (IsVariable h) (IsVariable i) (λ x k. variable_kept h i x w.grown k) ns n.news;
  newer = n.newer;
  distinct = n.distinct;
  sorts = sorts_kept h i ns w.grown n.news ∙ n.sorts;
  taken = all_from (HasTakenName i) ns (λ x j. taken_stays h i w x (All-contains (IsVariable h) ns x n.news j) (All-contains (HasTakenName h) ns x n.taken j));
}

-- ---- the product
module _ (f : Side → Side → Linear) (part : IsPartOfProduct f) (s g h : Sig) (p q : PoolContents) (w : Written) (l r k : PlainLinear) (old : IsSignature g) (since : IsGrown s g) (by : GrowsByNames g h) (kept : Extends p.trees q.trees) (made_fits : Fits h q.trees k)
    (made : IsMadeOfSides f g h q.trees l r k)
    (before : IsPlainFor s g p w l) (before' : IsPlainFor s g p w r) where
  abbrev e : Entries
  e = entries_of h q.trees

  grow : BothGrow g h p.trees q.trees
  grow = both_by_names g h p.trees q.trees by kept

  left : IsPlainFor s h q w l
  left = plain_on s g h p q w l old by.stands grow before

  right : IsPlainFor s h q w r
  right = plain_on s g h p q w r old by.stands grow before'

  abbrev stacks : List StackSort
  stacks = left.stacks ++ right.stacks

  abbrev o : Origin
  o = origin_of h q w stacks

  left_plain : IsPlainlyConditioned o (map (bound_at e) left.added) (linear_of e l) (initial_of e l)
  left_plain = linear_in_more (data_meant h) (variable_sorts h) (WasAnswered h q) w w left.stacks stacks (only_stacks (data_meant h) (variable_sorts h) (WasAnswered h q) w left.stacks stacks (λ x i. Contains-append_left left.stacks right.stacks x i))
      (map (bound_at e) left.added) (map (bound_at e) left.added) (λ x i. i) (linear_of e l) (initial_of e l) left.plain

  right_plain : IsPlainlyConditioned o (map (bound_at e) right.added) (linear_of e r) (initial_of e r)
  right_plain = linear_in_more (data_meant h) (variable_sorts h) (WasAnswered h q) w w right.stacks stacks (only_stacks (data_meant h) (variable_sorts h) (WasAnswered h q) w right.stacks stacks (λ x i. Contains-append_right left.stacks right.stacks x i))
      (map (bound_at e) right.added) (map (bound_at e) right.added) (λ x i. i) (linear_of e r) (initial_of e r) right.plain

  -- ---- the right side gives way
  abbrev g1 : Sig
  g1 = made.with_left_flag

  abbrev g2 : Sig
  g2 = made.with_new

  abbrev os : List VarId
  os = made.olds

  abbrev ns : List VarId
  ns = made.news

  flag_first : FlagStands g g1 (can_end l) made.left_flag
  flag_first = one f part g h p.trees q.trees l r k old before.fits before'.fits made

  flag_last : FlagStands g2 h (can_end r) made.right_flag
  flag_last = two f part g h p.trees q.trees l r k old before.fits before'.fits made

  news_first : NewOnes g1 g2 os ns
  news_first = (given f part g h p.trees q.trees l r k old before.fits before'.fits made).new

  news : NewOnes g1 h os ns
  news = new_ones_on g1 g2 h os ns flag_last.on news_first

  abbrev env : Environment
  env = renaming_to (numbers_of os) (numbers_of ns)

  abbrev ρ : ℕ → ℕ
  ρ = renewed_number os ns

  env_is : (v : ℕ) → term_in env v ≡ variable (ρ v)
  env_is v = renaming_is_term os ns (record { 0 = v })

  keeps : HaveTheirSorts (data_meant h) (variable_sorts h) (variable_sorts h) (term_in env)
  keeps v sort d = subst (λ t. HasSort (data_meant h) (variable_sorts h) t sort) (sym (env_is v)) (declared_renewed g1 h os ns news v sort d)

  new_right : IsPlainlyConditioned o (renewed_bounds ρ (map (bound_at e) right.added)) (renewed ρ (linear_of e r)) (initial_of e r)
  new_right = renewed_plain o (map (bound_at e) right.added) (linear_of e r) (initial_of e r) ρ env env_is (λ t a. answered_stays h q by.stands t a env) keeps right_plain

  -- ---- the added parameters
  abbrev left_added : List VarId
  left_added = left.added ++ option_to_list made.left_flag

  abbrev right_added : List VarId
  right_added = renewed_variables os ns right.added ++ option_to_list made.right_flag

  abbrev added : List VarId
  added = left_added ++ right_added

  abbrev bounds : List Bound
  bounds = map (bound_at e) added

  bounds_in : (xs : List VarId) → ((x : VarId) → Contains xs x → Contains added x) → (y : Bound) → Contains (map (bound_at e) xs) y → Contains bounds y
  bounds_in xs among y i = let x = contains_map (bound_at e) xs y i in subst (λ z. Contains bounds z) (sym x.1.1) (map_contains (bound_at e) added x.0 (among x.0 x.1.0))

  own_left : (y : Bound) → Contains (map (bound_at e) left.added) y → Contains bounds y
  own_left = bounds_in left.added (λ x i. Contains-append_left left_added right_added x (Contains-append_left left.added (option_to_list made.left_flag) x i))

  own_right : (y : Bound) → Contains (renewed_bounds ρ (map (bound_at e) right.added)) y → Contains bounds y
  own_right y i =
      bounds_in (renewed_variables os ns right.added) (λ x j. Contains-append_right left_added right_added x (Contains-append_left (renewed_variables os ns right.added) (option_to_list made.right_flag) x j)) y
      (subst (λ ys. Contains ys y) (sym (bounds_renewed g1 h os ns news by.stands.table q.trees right.added (added_variables s h q w r right))) i)

  abbrev a : Side
  a = side_of_linear e l made.left_flag

  abbrev b : Side
  b = renewed_side e os ns r made.right_flag

  left_flag_is : IfSome made.left_flag (IsFlagOf h)
  left_flag_is = flag_on g g1 h (growth_after_growth_is_growth g1 g2 h news_first.on.grown flag_last.on.grown) made.left_flag flag_first.new

  right_flag_is : IfSome made.right_flag (IsFlagOf h)
  right_flag_is = flag_on g2 h h (grown_itself h) made.right_flag flag_last.new

  left_flag_added : FlagIsAdded bounds (columns a ++ columns b) a.flag
  left_flag_added f is =
      let x : Bound = record { var = f; sort = boolean } in
      let own = flag_of_some a.flag f is in
      record {
        by_a_pass = bounds_in (option_to_list made.left_flag) (λ y i. Contains-append_left left_added right_added y (Contains-append_right left.added (option_to_list made.left_flag) y i)) x
            (subst (λ ys. Contains ys x) (sym (flags_bound h by.stands q.trees made.left_flag left_flag_is)) own);
        parameter = Contains-append_left (columns a) (columns b) x (Contains-append_right a.process.params (flag_of a.flag) x own);
      }

  right_flag_added : FlagIsAdded bounds (columns a ++ columns b) b.flag
  right_flag_added f is =
      let x : Bound = record { var = f; sort = boolean } in
      let own = flag_of_some b.flag f is in
      record {
        by_a_pass = bounds_in (option_to_list made.right_flag) (λ y i. Contains-append_right left_added right_added y (Contains-append_right (renewed_variables os ns right.added) (option_to_list made.right_flag) y i)) x
            (subst (λ ys. Contains ys x) (sym (flags_bound h by.stands q.trees made.right_flag right_flag_is)) own);
        parameter = Contains-append_right (columns a) (columns b) x (Contains-append_right b.process.params (flag_of b.flag) x own);
      }

  -- each was added since
  all_renewed : (xs : List VarId) → All (IsAddedParameter s h) xs → All (IsAddedParameter s h) (renewed_variables os ns xs)
  all_renewed [] k = All-nil (IsAddedParameter s h)
  all_renewed (x ∷ xs) k =
      All-cons (IsAddedParameter s h) (renewed_variable os ns x) (renewed_variables os ns xs) (in_its_place (All-head (IsAddedParameter s h) x xs k) made.gives_way flag_last.on.grown) (all_renewed xs (All-tail (IsAddedParameter s h) x xs k))

  all_added : All (IsAddedParameter s h) added
  all_added =
      All-append (IsAddedParameter s h) left_added right_added
      (All-append (IsAddedParameter s h) left.added (option_to_list made.left_flag) left.are_added
      (flag_added s g g1 h (can_end l) made.left_flag since made.left flag_first.with_flag (growth_after_growth_is_growth g1 g2 h news_first.on.grown flag_last.on.grown)))
      (All-append (IsAddedParameter s h) (renewed_variables os ns right.added) (option_to_list made.right_flag) (all_renewed right.added right.are_added)
      (flag_added s g2 h h (can_end r) made.right_flag (growth_after_growth_is_growth s g g2 since (to2 f part g h p.trees q.trees l r k old before.fits before'.fits made).grown) made.right flag_last.with_flag (grown_itself h)))

  -- each is a parameter of the product
  renewed_in : (xs ys : List VarId) → ((x : VarId) → Contains xs x → Contains ys x) → (z : VarId) → Contains (renewed_variables os ns xs) z → Contains (renewed_variables os ns ys) z
  renewed_in xs ys f z i = let x = contains_map (renewed_variable os ns) xs z i in subst (λ y. Contains (renewed_variables os ns ys) y) (sym x.1.1) (map_contains (renewed_variable os ns) ys x.0 (f x.0 x.1.0))

  among_parameters : (x : VarId) → Contains added x → Contains k.params x
  among_parameters x i =
      let ls = l.params ++ option_to_list made.left_flag in
      let rs = renewed_variables os ns r.params ++ option_to_list made.right_flag in
      subst (λ xs. Contains xs x) (sym (params_are f part g h q.trees l r k made)) (⊎_elim
      (λ j. Contains-append_left ls rs x (⊎_elim
      (λ m. Contains-append_left l.params (option_to_list made.left_flag) x (left.are_parameters x m))
      (λ m. Contains-append_right l.params (option_to_list made.left_flag) x m)
      (Contains-append_cases left.added (option_to_list made.left_flag) x j)))
      (λ j. Contains-append_right ls rs x (⊎_elim
      (λ m. Contains-append_left (renewed_variables os ns r.params) (option_to_list made.right_flag) x (renewed_in right.added r.params right.are_parameters x m))
      (λ m. Contains-append_right (renewed_variables os ns r.params) (option_to_list made.right_flag) x m)
      (Contains-append_cases (renewed_variables os ns right.added) (option_to_list made.right_flag) x j)))
      (Contains-append_cases left_added right_added x i))

  whole : IsPlainlyConditioned o bounds (product a b) (first_columns a (initial_of e l) ++ first_columns b (initial_of e r))
  whole = product_plain o bounds a b (map (bound_at e) left.added) (renewed_bounds ρ (map (bound_at e) right.added)) own_left own_right left_flag_added right_flag_added (initial_of e l) (initial_of e r) left_plain new_right

  -- and with some of its summands
  some : IsPlainlyConditioned o bounds (f a b) (first_columns a (initial_of e l) ++ first_columns b (initial_of e r))
  some = record { starts = whole.starts; summands = λ x i. subst (λ ps. SummandIsPlain o bounds ps x) (sym (part.params a b)) (whole.summands x (part.among a b x i)) }

  pub product_is_plain : IsPlainFor s h q w k
  product_is_plain = record {
    fits = made_fits;
    stacks = stacks;
    stacks_added = All-append (IsAddedStack (data_meant s) (data_meant h)) left.stacks right.stacks left.stacks_added right.stacks_added;
    added = added;
    are_added = all_added;
    are_parameters = among_parameters;
    plain = subst (λ ts. IsPlainlyConditioned o bounds (linear_of e k) ts) (sym made.initial) (subst (λ z. IsPlainlyConditioned o bounds z (first_columns a (initial_of e l) ++ first_columns b (initial_of e r))) (sym made.linear) some);
  }
