-- Made terms and plain conditions, where terms are put in for variables.
use Rattle.std.proofs.Common.{◌≡◌, ⊎_elim, ℕ, List, [], ◌∷◌, map, refl, sym, ap, ◌∙◌, subst}
use Rattle.std.specs.Prelude.{Contains}
use Rattle.std.specs.List.{AllByRecursion}
use Rattle.std.proofs.lemmas.List.{length-map}
use Rattle.data_theory.specs.Terms.{Term, positive, variable, numeral, conjunction, application, function, none, more, put}
use Rattle.data_theory.specs.Environments.{Environment, term_in}
use Rattle.data_theory.specs.Equations.{one, equals, !ᵗ◌, ◌∧ᵗ◌}
use Rattle.data_theory.proofs.EnvironmentLemmas.{arguments_put_in_first, putting_in_goes_through_lists}
use Rattle.process_terms.specs.Labels.{Label, put_label}
use Rattle.process_terms.specs.Communication.{conjunction_of}
use Rattle.process_terms.specs.Processes.{Bound}
use Rattle.bisim_laws.specs.LinearProcesses.{variables, sorts}
use Rattle.bisim_laws.proofs.Firing.{contains_first, contains_later, contains_cases}
use Rattle.lps_core.specs.Conditions.{parts}
use Rattle.lps_core.specs.MadeTerms.{Origin, StackSort, IsStack, IsMade, a_variable, the_true, the_false, a_number, a_closed_term, of_an_action, of_a_call, no_frame, a_frame, frames_below, a_column, AreMade, none_made, more_made, IsInstance, an_instance, StandsIn, the_whole, on_the_left, on_the_right, IsActionArgument, action_argument, IsArgumentEquality, equal_arguments, IsAdded, IsPlainCondition, as_written, against_a_written_one, an_equality, against_equalities, a_flag, against_a_flag, a_control_number, a_frame_on_top, a_frame_below, no_frame_below, a_number_on_top, IsPlainPart, true_part, plain_part, HasPlainParts, HasActionArguments}
use Rattle.greibach.proofs.PlainParts.{parts_are_plain}
use Rattle.lps_core.proofs.SortedTerms.{HaveTheirSorts, puts_sorted, columns_long}

-- ---- what stands in a condition
abbrev pub Putting : Type 0
Putting = ℕ → Term

stands_put_in : (e : Putting) (c p : Term) → StandsIn c p → StandsIn (put e c) (put e p)
stands_put_in e c _ the_whole = the_whole
stands_put_in e c _ (on_the_left {x = x} {y = y} s) = on_the_left (stands_put_in e c (x ∧ᵗ y) s)
stands_put_in e c _ (on_the_right {x = x} {y = y} s) = on_the_right (stands_put_in e c (x ∧ᵗ y) s)

chain_put_in : (e : Putting) (ts : List Term) → put e (conjunction_of ts) ≡ conjunction_of (map (put e) ts)
chain_put_in e [] = refl
chain_put_in e (t ∷ []) = refl
chain_put_in e (t ∷ u ∷ us) = ap (λ z. put e t ∧ᵗ z) (chain_put_in e (u ∷ us))

-- ---- terms put in for the variables
module _ (o : Origin) (ps xs qs ys : List Bound) (r : Environment) (closed : (t : Term) → o.WasAnswered t → put (term_in r) t ≡ t) (moved : (x : Bound) → Contains xs x → IsMade o qs ys (term_in r x.var))
    (sorted : HaveTheirSorts o.declared o.variable_sorts o.variable_sorts (term_in r)) (stacked : (k : StackSort) (q : Bound) → IsStack o ps k q → (u : Bound) × (IsStack o qs k u × (term_in r q.var ≡ variable u.var))) where
  mutual
    pub made_moved : (t : Term) → IsMade o ps xs t → IsMade o qs ys (put (term_in r) t)
    made_moved _ (a_variable {x = x} i) = moved x i
    made_moved _ the_true = the_true
    made_moved _ the_false = the_false
    made_moved _ a_number = a_number
    made_moved _ (a_closed_term {t = t} w) = subst (λ z. IsMade o qs ys z) (sym (closed t w)) (a_closed_term w)
    made_moved _ (of_an_action {t = t} {u = u} c i) = of_an_action c (instance_moved t u i)
    made_moved _ (of_a_call {t = t} {u = u} c i) = of_a_call c (instance_moved t u i)
    made_moved _ (no_frame c) = no_frame c
    made_moved _ (a_frame {k = k} {ts = ts} c m) = subst (λ us. IsMade o qs ys (application (function k.push) us)) (sym (putting_in_goes_through_lists (term_in r) ts)) (a_frame c (all_moved ts m))
    made_moved _ (frames_below {k = k} {q = q} s) = let m = stacked k q s in subst (λ z. IsMade o qs ys (application (function k.rest) (more z none))) (sym m.1.1) (frames_below m.1.0)
    made_moved _ (a_column {k = k} {q = q} {c = c} s i) = let m = stacked k q s in subst (λ z. IsMade o qs ys (application (function c) (more z none))) (sym m.1.1) (a_column m.1.0 i)

    pub all_moved : (ts : List Term) → AreMade o ps xs ts → AreMade o qs ys (map (put (term_in r)) ts)
    all_moved _ none_made = none_made
    all_moved _ (more_made {t = t} {ts = ts} m ms) = more_made (made_moved t m) (all_moved ts ms)

    pub instance_moved : (t u : Term) → IsInstance o ps xs t u → IsInstance o qs ys t (put (term_in r) u)
    instance_moved _ _ (an_instance {t = t} zs us over declared fit m) =
        subst (λ z. IsInstance o qs ys t z)
        (sym (arguments_put_in_first (variables zs) us r (columns_long o.declared o.variable_sorts us zs fit ∙ sym (length-map zs (λ (z : Bound). z.var))) t over))
        (an_instance zs (map (put (term_in r)) us) over declared (puts_sorted o.declared o.variable_sorts o.variable_sorts (term_in r) sorted us (sorts zs) fit) (all_moved us m))

  argument_moved : (t : Term) → IsActionArgument o ps xs t → IsActionArgument o qs ys (put (term_in r) t)
  argument_moved _ (action_argument {t = t} {u = u} c i) = action_argument c (instance_moved t u i)

  equality_moved : (t : Term) → IsArgumentEquality o ps xs t → IsArgumentEquality o qs ys (put (term_in r) t)
  equality_moved _ (equal_arguments {t = t} {u = u} a b) = equal_arguments (argument_moved t a) (argument_moved u b)

  equalities_moved : (ts : List Term) → AllByRecursion (IsArgumentEquality o ps xs) ts → AllByRecursion (IsArgumentEquality o qs ys) (map (put (term_in r)) ts)
  equalities_moved [] h = tt
  equalities_moved (t ∷ ts) h = (equality_moved t h.0, equalities_moved ts h.1)

  arguments_moved : (ts : List Term) → AllByRecursion (IsActionArgument o ps xs) ts → AllByRecursion (IsActionArgument o qs ys) (map (put (term_in r)) ts)
  arguments_moved [] h = tt
  arguments_moved (t ∷ ts) h = (argument_moved t h.0, arguments_moved ts h.1)

  pub label_moved : (m : Label) → HasActionArguments o ps xs m → HasActionArguments o qs ys (put_label r m)
  label_moved [] h = tt
  label_moved (a ∷ m) h = (arguments_moved a.args h.0, label_moved m h.1)

  module _ (added bs : List Bound) (flags : (x : Bound) → IsAdded added ps x → (y : Bound) × (IsAdded bs qs y × (y.sort ≡ x.sort) × (term_in r x.var ≡ variable y.var))) where
    condition_moved : (c : Term) → IsPlainCondition o added ps xs c → IsPlainCondition o bs qs ys (put (term_in r) c)
    condition_moved _ (as_written {c = c} {t = t} w i) = as_written w (instance_moved c t i)
    condition_moved _ (against_a_written_one {c = c} {t = t} w i) = against_a_written_one w (instance_moved c t i)
    condition_moved _ (an_equality {t = t} w e) = an_equality w (equality_moved t e)
    condition_moved _ (against_equalities t ts w e) = subst (λ z. IsPlainCondition o bs qs ys (!ᵗ z)) (sym (chain_put_in (term_in r) (t ∷ ts))) (against_equalities (put (term_in r) t) (map (put (term_in r)) ts) w (equalities_moved (t ∷ ts) e))
    condition_moved _ (a_flag {x = x} a s) = let m = flags x a in subst (λ z. IsPlainCondition o bs qs ys z) (sym m.1.2) (a_flag m.1.0 (m.1.1 ∙ s))
    condition_moved _ (against_a_flag {x = x} a s) = let m = flags x a in subst (λ z. IsPlainCondition o bs qs ys (!ᵗ z)) (sym m.1.2) (against_a_flag m.1.0 (m.1.1 ∙ s))
    condition_moved _ (a_control_number {x = x} {z = n} a s) = let m = flags x a in subst (λ z. IsPlainCondition o bs qs ys (equals positive z (numeral positive n))) (sym m.1.2) (a_control_number m.1.0 (m.1.1 ∙ s))
    condition_moved _ (a_frame_on_top {k = k} {q = q} s) = let m = stacked k q s in subst (λ z. IsPlainCondition o bs qs ys (one (function k.is_push) z)) (sym m.1.1) (a_frame_on_top m.1.0)
    condition_moved _ (a_frame_below {k = k} {q = q} s) = let m = stacked k q s in subst (λ z. IsPlainCondition o bs qs ys (one (function k.is_push) (one (function k.rest) z))) (sym m.1.1) (a_frame_below m.1.0)
    condition_moved _ (no_frame_below {k = k} {q = q} s) = let m = stacked k q s in subst (λ z. IsPlainCondition o bs qs ys (!ᵗ (one (function k.is_push) (one (function k.rest) z)))) (sym m.1.1) (no_frame_below m.1.0)
    condition_moved _ (a_number_on_top {k = k} {q = q} {z = n} s) = let m = stacked k q s in subst (λ z. IsPlainCondition o bs qs ys (equals positive (one (function k.number) z) (numeral positive n))) (sym m.1.1) (a_number_on_top m.1.0)

    part_moved : (p : Term) → IsPlainPart o added ps xs p → IsPlainPart o bs qs ys (put (term_in r) p)
    part_moved _ true_part = true_part
    part_moved _ (plain_part {c = c} {p = p} w s) = plain_part (condition_moved c w) (stands_put_in (term_in r) c p s)

    pub parts_moved : (c : Term) → HasPlainParts o added ps xs c → HasPlainParts o bs qs ys (put (term_in r) c)
    parts_moved (application conjunction (more x (more y none))) h q j = ⊎_elim
        (λ same. subst (λ z. IsPlainPart o bs qs ys z) same (part_moved x (h x (contains_first x (parts y)))))
        (λ k. parts_moved y (λ p i. h p (contains_later x p (parts y) i)) q k)
        (contains_cases (put (term_in r) x) q (parts (put (term_in r) y)) j)
    parts_moved c h q j = parts_are_plain o bs qs ys (put (term_in r) c) (part_moved c (h c (contains_first c []))) q j
