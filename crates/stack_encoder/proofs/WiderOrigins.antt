-- What is plainly conditioned stays so where more is written, each written term being an instance of one that is written then; where there are
-- more stacks and more added parameters; and over more parameters and variables.
use Rattle.std.proofs.Common.{◌≡◌, true, List, [], ◌∷◌, ◌++◌}
use Rattle.std.specs.Prelude.{Contains}
use Rattle.std.specs.List.{AllByRecursion}
use Rattle.data_theory.specs.Terms.{Sort, Term}
use Rattle.data_theory.specs.Declarations.{Data}
use Rattle.process_terms.specs.Labels.{Label}
use Rattle.process_terms.specs.Processes.{Bound}
use Rattle.bisim_laws.specs.LinearProcesses.{Linear}
use Rattle.lps_core.specs.MadeTerms.{Written, StackSort, Origin, IsStack, IsMade, a_variable, the_true, the_false, a_number, a_closed_term, of_an_action, of_a_call, no_frame, a_frame, frames_below, a_column, AreMade, none_made, more_made, IsInstance, an_instance, IsActionArgument, action_argument, IsArgumentEquality, equal_arguments, IsAdded, IsPlainCondition, as_written, against_a_written_one, an_equality, against_equalities, a_flag, against_a_flag, a_control_number, a_frame_on_top, a_frame_below, no_frame_below, a_number_on_top, IsPlainPart, true_part, plain_part, HasPlainParts, HasActionArguments, IsPlainlyConditioned}
use Rattle.greibach.specs.Forms.{Form}
use Rattle.greibach.specs.PlainTerms.{FormIsPlainlyConditioned}

-- an instance of one of these terms
pub record IsInstanceOfOne (o : Origin) (params xs : List Bound) (ts : List Term) (u : Term) : Type 0 where
  pub term : Term
  pub among : Contains ts term
  pub instance : IsInstance o params xs term u

-- each instance of one of these terms is one of those
abbrev pub AreInstancesOf : Origin → List Term → List Term → Type 0
AreInstancesOf o ts us = (params xs : List Bound) (t u : Term) → Contains ts t → IsInstance o params xs t u → IsInstanceOfOne o params xs us u

-- so it is where those are among these
pub some_are_instances : (o : Origin) (ts us : List Term) → ((t : Term) → Contains ts t → Contains us t) → AreInstancesOf o ts us
some_are_instances o ts us among params xs t u i k = record { term = t; among = among t i; instance = k }

module _ (d : Data) (vs : List Sort) (V : Term → Type 0) (w z : Written) (ks ms : List StackSort) where
  abbrev o : Origin
  o = record { declared = d; variable_sorts = vs; written = w; WasAnswered = V; stacks = ks }

  abbrev u : Origin
  u = record { declared = d; variable_sorts = vs; written = z; WasAnswered = V; stacks = ms }

  -- the sums stand among those that are written then, and the stacks are kept
  pub record IsWider : Type 0 where
    pub stacks : (k : StackSort) → Contains ks k → Contains ms k
    pub sums : (s : Sort) → Contains w.sums s → Contains z.sums s
    pub conditions : AreInstancesOf u w.conditions z.conditions
    pub action_arguments : AreInstancesOf u w.action_arguments z.action_arguments
    pub call_arguments : AreInstancesOf u w.call_arguments z.call_arguments
    pub communicates : w.communicates ≡ true → z.communicates ≡ true

  module _ (wider : IsWider) (ps qs xs ys : List Bound) (params : (x : Bound) → Contains ps x → Contains qs x) (variables : (x : Bound) → Contains xs x → Contains ys x) where
    stack_stays : (k : StackSort) (q : Bound) → IsStack o ps k q → IsStack u qs k q
    stack_stays k q s = record { sort = wider.stacks k s.sort; parameter = params q s.parameter; is = s.is }

    mutual
      pub made_in_more : (t : Term) → IsMade o ps xs t → IsMade u qs ys t
      made_in_more _ (a_variable {x = x} i) = a_variable (variables x i)
      made_in_more _ the_true = the_true
      made_in_more _ the_false = the_false
      made_in_more _ a_number = a_number
      made_in_more _ (a_closed_term k) = a_closed_term k
      made_in_more _ (of_an_action {t = t} {u = r} c i) = let one = wider.action_arguments qs ys t r c (instance_in_more t r i) in of_an_action one.among one.instance
      made_in_more _ (of_a_call {t = t} {u = r} c i) = let one = wider.call_arguments qs ys t r c (instance_in_more t r i) in of_a_call one.among one.instance
      made_in_more _ (no_frame {k = k} c) = no_frame (wider.stacks k c)
      made_in_more _ (a_frame {k = k} {ts = ts} c m) = a_frame (wider.stacks k c) (all_made_in_more ts m)
      made_in_more _ (frames_below {k = k} {q = q} s) = frames_below (stack_stays k q s)
      made_in_more _ (a_column {k = k} {q = q} s i) = a_column (stack_stays k q s) i

      pub all_made_in_more : (ts : List Term) → AreMade o ps xs ts → AreMade u qs ys ts
      all_made_in_more _ none_made = none_made
      all_made_in_more _ (more_made {t = t} {ts = ts} m ms) = more_made (made_in_more t m) (all_made_in_more ts ms)

      instance_in_more : (t r : Term) → IsInstance o ps xs t r → IsInstance u qs ys t r
      instance_in_more _ _ (an_instance zs us over declared fit m) = an_instance zs us over declared fit (all_made_in_more us m)

    argument_stays : (t : Term) → IsActionArgument o ps xs t → IsActionArgument u qs ys t
    argument_stays _ (action_argument {t = t} {u = r} c i) = let one = wider.action_arguments qs ys t r c (instance_in_more t r i) in action_argument one.among one.instance

    arguments_stay : (ts : List Term) → AllByRecursion (IsActionArgument o ps xs) ts → AllByRecursion (IsActionArgument u qs ys) ts
    arguments_stay [] h = tt
    arguments_stay (t ∷ ts) h = (argument_stays t h.0, arguments_stay ts h.1)

    pub label_in_more : (m : Label) → HasActionArguments o ps xs m → HasActionArguments u qs ys m
    label_in_more [] h = tt
    label_in_more (a ∷ m) h = (arguments_stay a.args h.0, label_in_more m h.1)

    equality_stays : (t : Term) → IsArgumentEquality o ps xs t → IsArgumentEquality u qs ys t
    equality_stays _ (equal_arguments {t = t} {u = r} a b) = equal_arguments (argument_stays t a) (argument_stays r b)

    equalities_stay : (ts : List Term) → AllByRecursion (IsArgumentEquality o ps xs) ts → AllByRecursion (IsArgumentEquality u qs ys) ts
    equalities_stay [] h = tt
    equalities_stay (t ∷ ts) h = (equality_stays t h.0, equalities_stay ts h.1)

    module _ (added more : List Bound) (kept : (x : Bound) → Contains added x → Contains more x) where
      added_stays : (x : Bound) → IsAdded added ps x → IsAdded more qs x
      added_stays x a = record { by_a_pass = kept x a.by_a_pass; parameter = params x a.parameter }

      condition_stays : (c : Term) → IsPlainCondition o added ps xs c → IsPlainCondition u more qs ys c
      condition_stays _ (as_written {c = c} {t = t} k i) = let one = wider.conditions qs ys c t k (instance_in_more c t i) in as_written one.among one.instance
      condition_stays _ (against_a_written_one {c = c} {t = t} k i) = let one = wider.conditions qs ys c t k (instance_in_more c t i) in against_a_written_one one.among one.instance
      condition_stays _ (an_equality {t = t} k i) = an_equality (wider.communicates k) (equality_stays t i)
      condition_stays _ (against_equalities t ts k i) = against_equalities t ts (wider.communicates k) (equalities_stay (t ∷ ts) i)
      condition_stays _ (a_flag {x = x} a s) = a_flag (added_stays x a) s
      condition_stays _ (against_a_flag {x = x} a s) = against_a_flag (added_stays x a) s
      condition_stays _ (a_control_number {x = x} a s) = a_control_number (added_stays x a) s
      condition_stays _ (a_frame_on_top {k = k} {q = q} s) = a_frame_on_top (stack_stays k q s)
      condition_stays _ (a_frame_below {k = k} {q = q} s) = a_frame_below (stack_stays k q s)
      condition_stays _ (no_frame_below {k = k} {q = q} s) = no_frame_below (stack_stays k q s)
      condition_stays _ (a_number_on_top {k = k} {q = q} s) = a_number_on_top (stack_stays k q s)

      part_stays : (t : Term) → IsPlainPart o added ps xs t → IsPlainPart u more qs ys t
      part_stays _ true_part = true_part
      part_stays _ (plain_part {c = c} k s) = plain_part (condition_stays c k) s

      pub parts_in_more : (c : Term) → HasPlainParts o added ps xs c → HasPlainParts u more qs ys c
      parts_in_more c h t j = part_stays t (h t j)

  -- ---- linear processes and forms
  module _ (wider : IsWider) where
    pub linear_in_more : (added more : List Bound) → ((x : Bound) → Contains added x → Contains more x) → (l : Linear) (init : List Term) → IsPlainlyConditioned o added l init → IsPlainlyConditioned u more l init
    linear_in_more added more kept l init plain = record {
      starts = all_made_in_more wider [] [] [] [] (λ x i. i) (λ x i. i) init plain.starts;
      summands = λ s i.
          let k = plain.summands s i in
          let all = s.sums ++ l.params in
          record {
            sums = λ x j. wider.sums x.sort (k.sums x j);
            condition = parts_in_more wider l.params l.params all all (λ x i. i) (λ x i. i) added more kept s.condition k.condition;
            label = label_in_more wider l.params l.params all all (λ x i. i) (λ x i. i) s.label k.label;
            next = λ ts e. all_made_in_more wider l.params l.params all all (λ x i. i) (λ x i. i) ts (k.next ts e);
          };
    }

    pub form_in_more : (form : Form) (init : List Term) → FormIsPlainlyConditioned o form init → FormIsPlainlyConditioned u form init
    form_in_more form init plain = record {
      starts = all_made_in_more wider [] [] [] [] (λ x i. i) (λ x i. i) init plain.starts;
      summands = λ i q s at among.
          let k = plain.summands i q s at among in
          let all = s.sums ++ q.params in
          record {
            sums = λ x j. wider.sums x.sort (k.sums x j);
            condition = parts_in_more wider q.params q.params all all (λ x i. i) (λ x i. i) [] [] (λ x i. i) s.condition k.condition;
            label = label_in_more wider q.params q.params all all (λ x i. i) (λ x i. i) s.label k.label;
            next = λ c j. all_made_in_more wider q.params q.params all all (λ x i. i) (λ x i. i) c.args (k.next c j);
          };
    }

-- what is written stays, and the stacks
pub only_stacks : (d : Data) (vs : List Sort) (V : Term → Type 0) (w : Written) (ks ms : List StackSort) → ((k : StackSort) → Contains ks k → Contains ms k) → IsWider d vs V w w ks ms
only_stacks d vs V w ks ms among =
    let z : Origin = record { declared = d; variable_sorts = vs; written = w; WasAnswered = V; stacks = ms } in
    record {
      stacks = among;
      sums = λ s i. i;
      conditions = some_are_instances z w.conditions w.conditions (λ t i. i);
      action_arguments = some_are_instances z w.action_arguments w.action_arguments (λ t i. i);
      call_arguments = some_are_instances z w.call_arguments w.call_arguments (λ t i. i);
      communicates = λ e. e;
    }
