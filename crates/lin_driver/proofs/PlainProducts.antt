-- The product of two linear processes that are plainly conditioned is plainly conditioned: what it adds are the flags of its sides.
use Rattle.std.proofs.Common.{◌≡◌, ℕ, List, [], ◌∷◌, ◌++◌, map, refl, sym, subst, ⊎_elim, Option, Some, None}
use Rattle.std.specs.Prelude.{Contains, flat_map}
use Rattle.std.specs.List.{AllByRecursion}
use Rattle.std.proofs.lemmas.List.Elements.{Contains-append_cases, Contains-append_left, Contains-append_right}
use Rattle.data_theory.specs.Terms.{boolean, Term, variable, put}
use Rattle.data_theory.specs.Environments.{Environment, term_in}
use Rattle.data_theory.specs.Equations.{ !ᵗ◌}
use Rattle.process_terms.specs.Labels.{Action, Label, put_label}
use Rattle.process_terms.specs.Processes.{Bound}
use Rattle.bisim_laws.specs.BaseStates.{Side}
use Rattle.bisim_laws.specs.LinearProcesses.{Summand, Linear}
use Rattle.bisim_laws.proofs.Firing.{contains_first, contains_later, contains_cases, contains_none}
use Rattle.lps_core.specs.Columns.{as_terms}
use Rattle.lps_core.specs.Conditions.{parts}
use Rattle.lps_core.specs.MadeTerms.{StackSort, Origin, IsStack, IsMade, a_variable, the_true, the_false, AreMade, none_made, more_made, IsAdded, a_flag, against_a_flag, the_whole, IsPlainPart, plain_part, HasPlainParts, IsActionArgument, HasActionArguments, SummandIsPlain, IsPlainlyConditioned}
use Rattle.lps_core.proofs.MeantTrees.{put_pointwise}
use Rattle.lps_core.proofs.Members.{contains_map, map_contains, contains_in, in_contains, in_each}
use Rattle.lps_core.proofs.SortedTerms.{HaveTheirSorts}
use Rattle.regular_encoder.proofs.FirstTerms.{some_is, no_some}
use Rattle.regular_encoder.proofs.PlainTerms.{all_moved, label_moved, parts_moved}
use Rattle.stack_encoder.proofs.WiderOrigins.{IsWider, all_made_in_more, label_in_more, parts_in_more, only_stacks}
use Rattle.summand_expander.specs.Product.{flag_of, columns, running_part, set, onward, guarded, alone, own_first, own_last, lone, together, pair, product, first_flag, first_columns}
use Rattle.summand_expander.specs.Renewing.{renewed_bounds, renewed_terms, renewed_label, renewed_next, renewed_summand, renewed}
use Rattle.lin_driver.proofs.PlainlyConjoined.{each_of, both_of, both_made, conjoined_plain}

-- ---- other variables
module _ (o : Origin) (added : List Bound) (l : Linear) (init : List Term) (r : ℕ → ℕ) (env : Environment) (env_is : (v : ℕ) → term_in env v ≡ variable (r v)) (closed : (t : Term) → o.WasAnswered t → put (term_in env) t ≡ t)
    (keeps : HaveTheirSorts o.declared o.variable_sorts o.variable_sorts (term_in env)) where
  abbrev qs : List Bound
  qs = renewed_bounds r l.params

  abbrev new : Bound → Bound
  new x = record { var = r x.var; sort = x.sort }

  same : (t : Term) → put (term_in env) t ≡ put (λ v. variable (r v)) t
  same t = put_pointwise (term_in env) (λ v. variable (r v)) env_is t

  stack_renewed : (k : StackSort) (x : Bound) → IsStack o l.params k x → (u : Bound) × (IsStack o qs k u × (term_in env x.var ≡ variable u.var))
  stack_renewed k x s = (new x, (record { sort = s.sort; parameter = map_contains new l.params x s.parameter; is = s.is }, env_is x.var))

  added_renewed : (x : Bound) → IsAdded added l.params x → (y : Bound) × (IsAdded (renewed_bounds r added) qs y × (y.sort ≡ x.sort) × (term_in env x.var ≡ variable y.var))
  added_renewed x a = (new x, (record { by_a_pass = map_contains new added x a.by_a_pass; parameter = map_contains new l.params x a.parameter }, refl, env_is x.var))

  terms_renewed : (ps xs : List Bound) (ts : List Term) → AreMade o ps xs (map (put (term_in env)) ts) → AreMade o ps xs (renewed_terms r ts)
  terms_renewed ps xs [] m = none_made
  terms_renewed ps xs (t ∷ ts) (more_made m ms) = more_made (subst (λ z. IsMade o ps xs z) (same t) m) (terms_renewed ps xs ts ms)

  arguments_renewed : (ps xs : List Bound) (ts : List Term) → AllByRecursion (IsActionArgument o ps xs) (map (put (term_in env)) ts) → AllByRecursion (IsActionArgument o ps xs) (renewed_terms r ts)
  arguments_renewed ps xs [] h = tt
  arguments_renewed ps xs (t ∷ ts) h = (subst (λ z. IsActionArgument o ps xs z) (same t) h.0, arguments_renewed ps xs ts h.1)

  label_renewed : (ps xs : List Bound) (m : Label) → HasActionArguments o ps xs (put_label env m) → HasActionArguments o ps xs (renewed_label r m)
  label_renewed ps xs [] h = tt
  label_renewed ps xs (a ∷ m) h = (arguments_renewed ps xs a.args h.0, label_renewed ps xs m h.1)

  module _ (s : Summand) (plain : SummandIsPlain o added l.params s) where
    abbrev ys : List Bound
    ys = renewed_bounds r s.sums ++ qs

    moved : (x : Bound) → Contains (s.sums ++ l.params) x → IsMade o qs ys (term_in env x.var)
    moved x i = subst (λ z. IsMade o qs ys z) (sym (env_is x.var)) (a_variable {x = new x} (⊎_elim
        (λ j. Contains-append_left (renewed_bounds r s.sums) qs (new x) (map_contains new s.sums x j))
        (λ j. Contains-append_right (renewed_bounds r s.sums) qs (new x) (map_contains new l.params x j))
        (Contains-append_cases s.sums l.params x i)))

    next_renewed : (n : Option (List Term)) → ((ts : List Term) → n ≡ Some ts → AreMade o l.params (s.sums ++ l.params) ts) → (us : List Term) → renewed_next r n ≡ Some us → AreMade o qs ys us
    next_renewed None h us e = absurd (no_some e)
    next_renewed (Some ts) h us e = subst (λ z. AreMade o qs ys z) (some_is e) (terms_renewed qs ys ts (all_moved o l.params (s.sums ++ l.params) qs ys env closed moved keeps stack_renewed ts (h ts refl)))

    summand_renewed : SummandIsPlain o (renewed_bounds r added) qs (renewed_summand r s)
    summand_renewed = record {
      sums = λ y i. let x = contains_map new s.sums y i in subst (λ (z : Bound). Contains o.written.sums z.sort) (sym x.1.1) (plain.sums x.0 x.1.0);
      condition = subst (λ z. HasPlainParts o (renewed_bounds r added) qs ys z) (same s.condition)
          (parts_moved o l.params (s.sums ++ l.params) qs ys env closed moved keeps stack_renewed added (renewed_bounds r added) added_renewed s.condition plain.condition);
      label = label_renewed qs ys s.label (label_moved o l.params (s.sums ++ l.params) qs ys env closed moved keeps stack_renewed s.label plain.label);
      next = next_renewed s.next plain.next;
    }

  pub renewed_plain : IsPlainlyConditioned o added l init → IsPlainlyConditioned o (renewed_bounds r added) (renewed r l) init
  renewed_plain plain = record {
    starts = plain.starts;
    summands = λ y i.
        let s = contains_map (renewed_summand r) l.summands y i in
        subst (λ z. SummandIsPlain o (renewed_bounds r added) qs z) (sym s.1.1) (summand_renewed s.0 (plain.summands s.0 s.1.0));
  }

-- ---- one side, with more parameters
-- one of one, and of two
one : {A : Type 0} (P : A → Type 0) (x y : A) → P x → Contains (x ∷ []) y → P y
one P x y h i = ⊎_elim (λ e. subst P e h) (λ n. absurd (contains_none y n)) (contains_cases x y [] i)

two : {A : Type 0} (P : A → Type 0) (w x y : A) → P w → P x → Contains (w ∷ x ∷ []) y → P y
two P w x y h k i = ⊎_elim (λ e. subst P e h) (λ n. one P x y k n) (contains_cases w y (x ∷ []) i)

variables_made : (o : Origin) (ps xs ys : List Bound) → ((x : Bound) → Contains ys x → Contains xs x) → AreMade o ps xs (as_terms ys)
variables_made o ps xs [] h = none_made
variables_made o ps xs (y ∷ ys) h = more_made (a_variable (h y (contains_first y ys))) (variables_made o ps xs ys (λ x i. h x (contains_later y x ys i)))

truths_made : (o : Origin) (ps xs ys : List Bound) → AreMade o ps xs (set ys)
truths_made o ps xs [] = none_made
truths_made o ps xs (y ∷ ys) = more_made the_true (truths_made o ps xs ys)

-- the flag is a parameter that was added
abbrev pub FlagIsAdded : List Bound → List Bound → Option ℕ → Type 0
FlagIsAdded added all flag = (f : ℕ) → flag ≡ Some f → IsAdded added all (record { var = f; sort = boolean })

module _ (o : Origin) (added all : List Bound) where
  wider : IsWider o.declared o.variable_sorts o.WasAnswered o.written o.written o.stacks o.stacks
  wider = only_stacks o.declared o.variable_sorts o.WasAnswered o.written o.stacks o.stacks (λ k i. i)

  running_plain : (xs : List Bound) (flag : Option ℕ) → FlagIsAdded added all flag → AllByRecursion (IsPlainPart o added all xs) (running_part flag)
  running_plain xs None h = tt
  running_plain xs (Some f) h = (plain_part (against_a_flag (h f refl) refl) the_whole, tt)

  module _ (a : Side) (own : List Bound) (kept : (x : Bound) → Contains own x → Contains added x) (params : (x : Bound) → Contains (columns a) x → Contains all x) (flag : FlagIsAdded added all a.flag) where
    process_params : (x : Bound) → Contains a.process.params x → Contains all x
    process_params x i = params x (Contains-append_left a.process.params (flag_of a.flag) x i)

    flag_params : (x : Bound) → Contains (flag_of a.flag) x → Contains all x
    flag_params x i = params x (Contains-append_right a.process.params (flag_of a.flag) x i)

    -- over the variables of a summand, among others
    module _ (s : Summand) (plain : SummandIsPlain o own a.process.params s) (xs : List Bound) (sums : (x : Bound) → Contains s.sums x → Contains xs x) (parameters : (x : Bound) → Contains all x → Contains xs x) where
      among : (x : Bound) → Contains (s.sums ++ a.process.params) x → Contains xs x
      among x i = ⊎_elim (λ j. sums x j) (λ j. parameters x (process_params x j)) (Contains-append_cases s.sums a.process.params x i)

      own_parts : AllByRecursion (IsPlainPart o added all xs) (parts s.condition)
      own_parts = each_of (IsPlainPart o added all xs) (parts s.condition)
          (parts_in_more o.declared o.variable_sorts o.WasAnswered o.written o.written o.stacks o.stacks wider a.process.params all (s.sums ++ a.process.params) xs process_params among own added kept s.condition plain.condition)

      own_label : HasActionArguments o all xs s.label
      own_label = label_in_more o.declared o.variable_sorts o.WasAnswered o.written o.written o.stacks o.stacks wider a.process.params all (s.sums ++ a.process.params) xs process_params among s.label plain.label

      onward_of : (n : Option (List Term)) → ((ts : List Term) → n ≡ Some ts → AreMade o a.process.params (s.sums ++ a.process.params) ts) → AreMade o all xs (onward a n)
      onward_of None h = both_made o all xs (as_terms a.process.params) (set (flag_of a.flag)) (variables_made o all xs a.process.params (λ x i. parameters x (process_params x i))) (truths_made o all xs (flag_of a.flag))
      onward_of (Some ts) h = both_made o all xs ts (as_terms (flag_of a.flag))
          (all_made_in_more o.declared o.variable_sorts o.WasAnswered o.written o.written o.stacks o.stacks wider a.process.params all (s.sums ++ a.process.params) xs process_params among ts (h ts refl))
          (variables_made o all xs (flag_of a.flag) (λ x i. parameters x (flag_params x i)))

    -- ---- one side alone
    module _ (place : List Term → List Term → List Term) (places : (ps xs : List Bound) (ts us : List Term) → AreMade o ps xs ts → AreMade o ps xs us → AreMade o ps xs (place ts us)) (b : Side) (beside : (x : Bound) → Contains (columns b) x → Contains all x)
        (other : FlagIsAdded added all b.flag) (s : Summand) (plain : SummandIsPlain o own a.process.params s) where
      abbrev zs : List Bound
      zs = s.sums ++ all

      in_front : (x : Bound) → Contains s.sums x → Contains zs x
      in_front x i = Contains-append_left s.sums all x i

      behind : (x : Bound) → Contains all x → Contains zs x
      behind x i = Contains-append_right s.sums all x i

      guarded_plain : (ps : List Term) → AllByRecursion (IsPlainPart o added all zs) ps → (n : Option (List Term)) → ((ts : List Term) → n ≡ Some ts → AreMade o all zs ts) → SummandIsPlain o added all (guarded ps s n)
      guarded_plain ps h n m = record {
        sums = plain.sums;
        condition = conjoined_plain o added all zs (ps ++ parts s.condition) (both_of (IsPlainPart o added all zs) ps (parts s.condition) h (own_parts s plain zs in_front behind));
        label = own_label s plain zs in_front behind;
        next = m;
      }

      goes_on : (n : Option (List Term)) → ((ts : List Term) → n ≡ Some ts → AreMade o a.process.params (s.sums ++ a.process.params) ts) → (us : List Term) → Some (place (onward a n) (as_terms (columns b))) ≡ Some us → AreMade o all zs us
      goes_on n h us e = subst (λ z. AreMade o all zs z) (some_is e)
          (places all zs (onward a n) (as_terms (columns b)) (onward_of s plain zs in_front behind n h) (variables_made o all zs (columns b) (λ x i. behind x (beside x i))))

      running_own : AllByRecursion (IsPlainPart o added all zs) (running_part a.flag)
      running_own = running_plain zs a.flag flag

      then_one : (p : Term) → IsPlainPart o added all zs p → AllByRecursion (IsPlainPart o added all zs) (running_part a.flag ++ p ∷ [])
      then_one p h = both_of (IsPlainPart o added all zs) (running_part a.flag) (p ∷ []) running_own (h, tt)

      alone_plain : (n : Option (List Term)) (g : Option ℕ) → ((ts : List Term) → n ≡ Some ts → AreMade o a.process.params (s.sums ++ a.process.params) ts) → FlagIsAdded added all g → (y : Summand)
          → Contains (alone place a (as_terms (columns b)) s n g) y → SummandIsPlain o added all y
      alone_plain (Some ts) g h k y i = one (λ z. SummandIsPlain o added all z) (guarded (running_part a.flag) s (Some (place (onward a (Some ts)) (as_terms (columns b))))) y (guarded_plain (running_part a.flag) running_own _ (goes_on (Some ts) h)) i
      alone_plain None None h k y i = one (λ z. SummandIsPlain o added all z) (guarded (running_part a.flag) s (Some (place (onward a None) (as_terms (columns b))))) y (guarded_plain (running_part a.flag) running_own _ (goes_on None h)) i
      alone_plain None (Some g) h k y i = two (λ z. SummandIsPlain o added all z) (guarded (running_part a.flag ++ ((!ᵗ (variable g)) ∷ [])) s (Some (place (onward a None) (as_terms (columns b))))) (guarded (running_part a.flag ++ (variable g ∷ [])) s None) y
          (guarded_plain (running_part a.flag ++ ((!ᵗ (variable g)) ∷ [])) (then_one (!ᵗ (variable g)) (plain_part (against_a_flag (k g refl) refl) the_whole)) _ (goes_on None h))
          (guarded_plain (running_part a.flag ++ (variable g ∷ [])) (then_one (variable g) (plain_part (a_flag (k g refl) refl) the_whole)) None (λ us e. absurd (no_some e))) i

      lone_plain : (y : Summand) → Contains (lone place a b s) y → SummandIsPlain o added all y
      lone_plain y i = alone_plain s.next b.flag plain.next other y i

-- ---- both sides
module _ (o : Origin) (added : List Bound) (a b : Side) (left right : List Bound) (left_kept : (x : Bound) → Contains left x → Contains added x) (right_kept : (x : Bound) → Contains right x → Contains added x)
    (left_flag : FlagIsAdded added (columns a ++ columns b) a.flag) (right_flag : FlagIsAdded added (columns a ++ columns b) b.flag) (left_init right_init : List Term) (left_plain : IsPlainlyConditioned o left a.process left_init)
    (right_plain : IsPlainlyConditioned o right b.process right_init) where
  abbrev all : List Bound
  all = columns a ++ columns b

  left_params : (x : Bound) → Contains (columns a) x → Contains all x
  left_params x i = Contains-append_left (columns a) (columns b) x i

  right_params : (x : Bound) → Contains (columns b) x → Contains all x
  right_params x i = Contains-append_right (columns a) (columns b) x i

  -- ---- both at once
  module _ (s t : Summand) (first : SummandIsPlain o left a.process.params s) (second : SummandIsPlain o right b.process.params t) where
    abbrev xs : List Bound
    xs = (s.sums ++ t.sums) ++ all

    first_sums : (x : Bound) → Contains s.sums x → Contains xs x
    first_sums x i = Contains-append_left (s.sums ++ t.sums) all x (Contains-append_left s.sums t.sums x i)

    second_sums : (x : Bound) → Contains t.sums x → Contains xs x
    second_sums x i = Contains-append_left (s.sums ++ t.sums) all x (Contains-append_right s.sums t.sums x i)

    parameters : (x : Bound) → Contains all x → Contains xs x
    parameters x i = Contains-append_right (s.sums ++ t.sums) all x i

    left_onward : AreMade o all xs (onward a s.next)
    left_onward = onward_of o added all a left left_kept left_params left_flag s first xs first_sums parameters s.next first.next

    right_onward : AreMade o all xs (onward b t.next)
    right_onward = onward_of o added all b right right_kept right_params right_flag t second xs second_sums parameters t.next second.next

    together_made : (m n : Option (List Term)) → AreMade o all xs (onward a m) → AreMade o all xs (onward b n) → (us : List Term) → together a b m n ≡ Some us → AreMade o all xs us
    together_made None None h k us e = absurd (no_some e)
    together_made None (Some ts) h k us e = subst (λ z. AreMade o all xs z) (some_is e) (both_made o all xs (onward a None) (onward b (Some ts)) h k)
    together_made (Some ts) None h k us e = subst (λ z. AreMade o all xs z) (some_is e) (both_made o all xs (onward a (Some ts)) (onward b None) h k)
    together_made (Some ts) (Some vs) h k us e = subst (λ z. AreMade o all xs z) (some_is e) (both_made o all xs (onward a (Some ts)) (onward b (Some vs)) h k)

    pair_plain : SummandIsPlain o added all (pair a b s t)
    pair_plain = record {
      sums = λ x i. ⊎_elim (λ j. first.sums x j) (λ j. second.sums x j) (Contains-append_cases s.sums t.sums x i);
      condition = conjoined_plain o added all xs ((running_part a.flag ++ running_part b.flag) ++ (parts s.condition ++ parts t.condition))
          (both_of (IsPlainPart o added all xs) (running_part a.flag ++ running_part b.flag) (parts s.condition ++ parts t.condition)
          (both_of (IsPlainPart o added all xs) (running_part a.flag) (running_part b.flag) (running_plain o added all xs a.flag left_flag) (running_plain o added all xs b.flag right_flag))
          (both_of (IsPlainPart o added all xs) (parts s.condition) (parts t.condition) (own_parts o added all a left left_kept left_params left_flag s first xs first_sums parameters)
          (own_parts o added all b right right_kept right_params right_flag t second xs second_sums parameters)));
      label = both_of (λ (m : Action). AllByRecursion (IsActionArgument o all xs) m.args) s.label t.label (own_label o added all a left left_kept left_params left_flag s first xs first_sums parameters)
          (own_label o added all b right right_kept right_params right_flag t second xs second_sums parameters);
      next = together_made s.next t.next left_onward right_onward;
    }

  -- ---- all of it
  flags_made : (flag : Option ℕ) → AreMade o [] [] (first_flag flag)
  flags_made None = none_made
  flags_made (Some f) = more_made the_false none_made

  swapped_made : (ps xs : List Bound) (ts us : List Term) → AreMade o ps xs ts → AreMade o ps xs us → AreMade o ps xs (own_last ts us)
  swapped_made ps xs ts us h k = both_made o ps xs us ts k h

  left_alone : (y : Summand) → Contains (flat_map (lone own_first a b) a.process.summands) y → SummandIsPlain o added all y
  left_alone y i =
      let s = in_each (lone own_first a b) a.process.summands (contains_in (flat_map (lone own_first a b) a.process.summands) i) in
      lone_plain o added all a left left_kept left_params left_flag own_first (both_made o) b right_params right_flag s.0 (left_plain.summands s.0 (in_contains s.1)) y (in_contains s.2)

  right_alone : (y : Summand) → Contains (flat_map (lone own_last b a) b.process.summands) y → SummandIsPlain o added all y
  right_alone y i =
      let s = in_each (lone own_last b a) b.process.summands (contains_in (flat_map (lone own_last b a) b.process.summands) i) in
      lone_plain o added all b right right_kept right_params right_flag own_last swapped_made a left_params left_flag s.0 (right_plain.summands s.0 (in_contains s.1)) y (in_contains s.2)

  pairs_plain : (y : Summand) → Contains (flat_map (λ s. map (pair a b s) b.process.summands) a.process.summands) y → SummandIsPlain o added all y
  pairs_plain y i =
      let s = in_each (λ s. map (pair a b s) b.process.summands) a.process.summands (contains_in (flat_map (λ s. map (pair a b s) b.process.summands) a.process.summands) i) in
      let t = contains_map (pair a b s.0) b.process.summands y (in_contains s.2) in
      subst (λ z. SummandIsPlain o added all z) (sym t.1.1) (pair_plain s.0 t.0 (left_plain.summands s.0 (in_contains s.1)) (right_plain.summands t.0 t.1.0))

  pub product_plain : IsPlainlyConditioned o added (product a b) (first_columns a left_init ++ first_columns b right_init)
  product_plain = record {
    starts = both_made o [] [] (first_columns a left_init) (first_columns b right_init) (both_made o [] [] left_init (first_flag a.flag) left_plain.starts (flags_made a.flag)) (both_made o [] [] right_init (first_flag b.flag) right_plain.starts (flags_made b.flag));
    summands = λ y i. ⊎_elim
        (λ j. left_alone y j)
        (λ j. ⊎_elim
        (λ k. right_alone y k)
        (λ k. pairs_plain y k)
        (Contains-append_cases (flat_map (lone own_last b a) b.process.summands) (flat_map (λ s. map (pair a b s) b.process.summands) a.process.summands) y j))
        (Contains-append_cases (flat_map (lone own_first a b) a.process.summands) (flat_map (lone own_last b a) b.process.summands ++ flat_map (λ s. map (pair a b s) b.process.summands) a.process.summands) y i);
  }
