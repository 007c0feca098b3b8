-- The firings of a product are the joint moves of its sides.
use Rattle.std.proofs.Common.{◌≡◌, ℕ, Bool, true, false, List, [], ◌++◌, map, length, refl, sym, ap, ap₂, ◌∙◌, subst, ⊎_elim, Option, Some, None}
use Rattle.std.proofs.lemmas.List.{map-append}
use Rattle.std.proofs.lemmas.List.Elements.{Contains-append_left, Contains-append_right, Contains-append_cases}
use Rattle.data_theory.specs.Terms.{Sort, Term, put}
use Rattle.data_theory.specs.Provable.{symmetric, transitive}
use Rattle.data_theory.specs.Environments.{Environment, term_in, bound, Apart}
use Rattle.process_terms.specs.Theories.{Theory, IsTrue, IsConsistent, AreOfSorts}
use Rattle.process_terms.specs.Labels.{Label, put_label, put_action}
use Rattle.process_terms.specs.Processes.{Bound}
use Rattle.process_terms.specs.Steps.{Outcome, ended, goes_on}
use Rattle.bisim_laws.specs.LinearProcesses.{Summand, Linear, variables, sorts, state_of, outcome_of, put_next, AreDeclared, AreBound, Does, Fires}
use Rattle.bisim_laws.specs.BaseStates.{Side, flag_sorts, FlagSays, no_flag, not_ended, has_ended, SideAt, running, over}
use Rattle.bisim_laws.proofs.Firing.{does_along}
use Rattle.lps_core.specs.Columns.{as_terms, read}
use Rattle.lps_core.specs.Conditions.{parts, IsCondition}
use Rattle.lps_core.proofs.Members.{In, in_append, append_front, append_back, in_map, map_in, in_each, each_in, in_contains, contains_in}
use Rattle.lps_core.proofs.SortedTerms.{HaveTerms, bound_have_terms, read_bound, both_have_terms, columns_sorted, columns_long}
use Rattle.lps_core.proofs.Chains.{conditions_append, parts_conditions, conjoined_holds, holds_conjoined, parts_hold, hold_parts, all_true_append, all_true_split}
use Rattle.lps_core.proofs.Environments.{Agrees, agrees_flip, agrees_chain, agrees_append, read_same, read_agrees, front, front_agrees, behind_agrees, split_read, put_variables, base_reads, bound_along}
use Rattle.lps_core.proofs.Shapes.{summand_is, condition_more}
use Rattle.lps_core.proofs.OverVariables.{within_both, within_front, within_back, variables_front, variables_back}
use Rattle.summand_expander.specs.Product.{flag_of, columns, running_part, lone, own_first, own_last, pair, product, Separate}
use Rattle.summand_expander.specs.FirstSteps.{left_summands, right_summands, both_summands}
use Rattle.summand_expander.proofs.OneSide.{FlagKnown, says_running, running_says, moved, ends, out, out_swap, alone_sums, alone_does, alone_can, put_together}
use Rattle.summand_expander.proofs.Whole.{left_fits, right_fits, pair_left, pair_right, pair_flags, all_declared}

abbrev pub ended_after : Outcome → Bool
ended_after ended = true
ended_after (goes_on p) = false

-- one side moves
pub data Moves (th : Theory) (a : Side) : Outcome → List Term → Label → Outcome → List Term → Type 0 where
  moves : (ts fs : List Term) {m : Label} (o : Option (List Term)) → AreOfSorts th (sorts a.process.params) ts → AreOfSorts th (flag_sorts a.flag) fs → FlagSays th false fs → Fires th a.process ts m o
      → Moves th a (goes_on (state_of a.process ts)) (ts ++ fs) m (outcome_of a.process o) (moved ts fs o)

-- one side moves, or both
pub data Joint (th : Theory) (a b : Side) : Outcome → List Term → Outcome → List Term → Label → Outcome → List Term → Outcome → List Term → Type 0 where
  on_left : {r r' s : Outcome} {cs cs' ds : List Term} {m : Label} → Moves th a r cs m r' cs' → Joint th a b r cs s ds m r' cs' s ds
  on_right : {r s s' : Outcome} {cs ds ds' : List Term} {m : Label} → Moves th b s ds m s' ds' → Joint th a b r cs s ds m r cs s' ds'
  on_both : {r r' s s' : Outcome} {cs cs' ds ds' : List Term} {m n : Label} → Moves th a r cs m r' cs' → Moves th b s ds n s' ds' → Joint th a b r cs s ds (m ++ n) r' cs' s' ds'

-- ---- the columns of a side
flags_are : (f : Option ℕ) → sorts (flag_of f) ≡ flag_sorts f
flags_are None = refl
flags_are (Some f) = refl

pub own_sorted : (th : Theory) (a : Side) (ts fs : List Term) → AreOfSorts th (sorts a.process.params) ts → AreOfSorts th (flag_sorts a.flag) fs → AreOfSorts th (sorts (columns a)) (ts ++ fs)
own_sorted th a ts fs h k = columns_sorted th.declared [] a.process.params (flag_of a.flag) ts fs h (subst (λ ss. AreOfSorts th ss fs) (sym (flags_are a.flag)) k)

pub side_sorted : {th : Theory} {a : Side} {r : Outcome} {cs : List Term} → SideAt th a r cs → AreOfSorts th (sorts (columns a)) cs
side_sorted {th} {a} (running ts fs h k p) = own_sorted th a ts fs h k
side_sorted {th} {a} (over ts fs h k p) = own_sorted th a ts fs h k

pub params_long : (th : Theory) (a : Side) (ts : List Term) → AreOfSorts th (sorts a.process.params) ts → length ts ≡ length a.process.params
params_long th a ts h = columns_long th.declared [] ts a.process.params h

pub side_long : {th : Theory} {a : Side} {r : Outcome} {cs : List Term} → SideAt th a r cs → length cs ≡ length (columns a)
side_long {th} {a} {cs = cs} h = columns_long th.declared [] cs (columns a) (side_sorted h)

side_says : {th : Theory} {a : Side} {r : Outcome} {cs : List Term} (e : Environment) → SideAt th a r cs → read e (columns a) ≡ cs → FlagSays th (ended_after r) (read e (flag_of a.flag))
side_says {th} {a} e (running ts fs h k p) q = subst (λ x. FlagSays th false x) (sym (split_read e a.process.params (flag_of a.flag) ts fs (params_long th a ts h) q).1) p
side_says {th} {a} e (over ts fs h k p) q = subst (λ x. FlagSays th true x) (sym (split_read e a.process.params (flag_of a.flag) ts fs (params_long th a ts h) q).1) p

not_both : {th : Theory} {fs : List Term} → IsConsistent th → FlagSays th false fs → FlagSays th true fs → ⊥
not_both sane no_flag k = elim k [ ]
not_both sane (not_ended h) (has_ended k) = sane (transitive (symmetric k) h)

-- an environment that reads a side's columns, and in which a summand of the side does m
side_moves : {th : Theory} {a : Side} {r : Outcome} {cs : List Term} (sane : IsConsistent th) (e : Environment) (s : Summand) (m : Label) → SideAt th a r cs → read e (columns a) ≡ cs → FlagSays th false (read e (flag_of a.flag))
    → In s a.process.summands → AreBound th s.sums e → Does th s e m (put_next e s.next) → Moves th a r cs m (outcome_of a.process (put_next e s.next)) (moved (read e a.process.params) (read e (flag_of a.flag)) (put_next e s.next))
side_moves {th} {a} sane e s m (over ts fs h k p) q g i w d = absurd (not_both sane g (subst (λ x. FlagSays th true x) (sym (split_read e a.process.params (flag_of a.flag) ts fs (params_long th a ts h) q).1) p))
side_moves {th} {a} sane e s m (running ts fs h k p) q g i w d =
    let c = split_read e a.process.params (flag_of a.flag) ts fs (params_long th a ts h) q in
    subst (λ x. Moves th a (goes_on (state_of a.process ts)) (ts ++ fs) m (outcome_of a.process (put_next e s.next)) (moved x (read e (flag_of a.flag)) (put_next e s.next))) (sym c.0)
    (subst (λ x. Moves th a (goes_on (state_of a.process ts)) (ts ++ fs) m (outcome_of a.process (put_next e s.next)) (moved ts x (put_next e s.next))) (sym c.1)
    (moves ts fs (put_next e s.next) h k p (record { summand = s; among = in_contains i; environment = e; reads = c.0; bound = w; does = d })))

ends_after : (l : Linear) (e : Environment) (n : Option (List Term)) → ended_after (outcome_of l (put_next e n)) ≡ ends n
ends_after l e None = refl
ends_after l e (Some ts) = refl

joint_label : {th : Theory} {a b : Side} {r r' s s' : Outcome} {cs cs' ds ds' : List Term} {m n : Label} → n ≡ m → Joint th a b r cs s ds n r' cs' s' ds' → Joint th a b r cs s ds m r' cs' s' ds'
joint_label {th} {a} {b} {r} {r'} {s} {s'} {cs} {cs'} {ds} {ds'} e j = subst (λ l. Joint th a b r cs s ds l r' cs' s' ds') e j

-- the summands of the product by kinds
abbrev pub lefts : Side → Side → Linear
lefts a b = record { params = columns a ++ columns b; summands = left_summands a b }

abbrev pub rights : Side → Side → Linear
rights a b = record { params = columns a ++ columns b; summands = right_summands a b }

abbrev pub boths : Side → Side → Linear
boths a b = record { params = columns a ++ columns b; summands = both_summands a b }

-- what a firing of each kind comes from
pub record LeftComes (th : Theory) (a b : Side) (r : Outcome) (cs : List Term) (s : Outcome) (ds : List Term) (m : Label) (o : Option (List Term)) : Type 0 where
  pub r' : Outcome
  pub cs' : List Term
  pub move : Moves th a r cs m r' cs'
  pub next : o ≡ out (ended_after r') (ended_after s) (cs' ++ ds)

pub record RightComes (th : Theory) (a b : Side) (r : Outcome) (cs : List Term) (s : Outcome) (ds : List Term) (m : Label) (o : Option (List Term)) : Type 0 where
  pub s' : Outcome
  pub ds' : List Term
  pub move : Moves th b s ds m s' ds'
  pub next : o ≡ out (ended_after r) (ended_after s') (cs ++ ds')

pub record BothCome (th : Theory) (a b : Side) (r : Outcome) (cs : List Term) (s : Outcome) (ds : List Term) (m : Label) (o : Option (List Term)) : Type 0 where
  pub m' : Label
  pub n' : Label
  pub r' : Outcome
  pub cs' : List Term
  pub s' : Outcome
  pub ds' : List Term
  pub left : Moves th a r cs m' r' cs'
  pub right : Moves th b s ds n' s' ds'
  pub label : m ≡ m' ++ n'
  pub next : o ≡ out (ended_after r') (ended_after s') (cs' ++ ds')

-- a firing of some summands is one of more summands
pub fires_more : {th : Theory} {params : List Bound} {ss : List Summand} (rs : List Summand) {ts : List Term} {m : Label} {o : Option (List Term)} → ((y : Summand) → In y ss → In y rs)
    → Fires th (record { params = params; summands = ss }) ts m o → Fires th (record { params = params; summands = rs }) ts m o
fires_more {ss = ss} rs w f = record { summand = f.summand; among = in_contains (w f.summand (contains_in ss f.among)); environment = f.environment; reads = f.reads; bound = f.bound; does = f.does }

-- what the product's firing comes from
pub record Comes (th : Theory) (a b : Side) (r : Outcome) (cs : List Term) (s : Outcome) (ds : List Term) (m : Label) (o : Option (List Term)) : Type 0 where
  pub r' : Outcome
  pub cs' : List Term
  pub s' : Outcome
  pub ds' : List Term
  pub joint : Joint th a b r cs s ds m r' cs' s' ds'
  pub next : o ≡ out (ended_after r') (ended_after s') (cs' ++ ds')

module _ (th : Theory) (sane : IsConsistent th) (vs : List Sort) (a b : Side) (ok : Separate th.declared vs a b) where
  abbrev all : List Bound
  all = columns a ++ columns b

  -- what is known of an environment that reads both sides
  scoped : (cs ds : List Term) → AreOfSorts th (sorts (columns a)) cs → AreOfSorts th (sorts (columns b)) ds → (e : Environment) → read e all ≡ cs ++ ds → (xs : List Bound) → AreDeclared vs xs → AreBound th xs e → HaveTerms th.declared vs (variables xs ++ variables all) (term_in e)
  scoped cs ds h k e q xs d w =
      both_have_terms th.declared vs (variables xs) (variables all) (term_in e) (bound_have_terms th vs xs e d w)
      (bound_have_terms th vs all e (all_declared th.declared vs a b ok) (read_bound th all e (subst (λ ts. AreOfSorts th (sorts all) ts) (sym q) (columns_sorted th.declared [] (columns a) (columns b) cs ds h k))))

  left_known : (xs : List Bound) → FlagKnown vs (variables xs ++ variables all) a.flag
  left_known xs = (ok.left.flag, λ v i. within_back (variables xs) (variables all) v (variables_front (columns a) (columns b) v (variables_back a.process.params (flag_of a.flag) v i)))

  right_known : (xs : List Bound) → FlagKnown vs (variables xs ++ variables all) b.flag
  right_known xs = (ok.right.flag, λ v i. within_back (variables xs) (variables all) v (variables_back (columns a) (columns b) v (variables_back b.process.params (flag_of b.flag) v i)))

  left_condition : (x : Summand) → In x a.process.summands → IsCondition th.declared vs (variables x.sums ++ variables all) x.condition
  left_condition x i =
      condition_more th.declared vs (variables x.sums ++ variables a.process.params) (variables x.sums ++ variables all)
      (λ v j. within_both (variables x.sums) (variables a.process.params) (variables x.sums ++ variables all) (within_front (variables x.sums) (variables all)) (λ w k. within_back (variables x.sums) (variables all) w (variables_front (columns a) (columns b) w (variables_front a.process.params (flag_of a.flag) w k))) v j)
      x.condition (left_fits th.declared vs a b ok x i).condition

  right_condition : (x : Summand) → In x b.process.summands → IsCondition th.declared vs (variables x.sums ++ variables all) x.condition
  right_condition x i =
      condition_more th.declared vs (variables x.sums ++ variables b.process.params) (variables x.sums ++ variables all)
      (λ v j. within_both (variables x.sums) (variables b.process.params) (variables x.sums ++ variables all) (within_front (variables x.sums) (variables all)) (λ w k. within_back (variables x.sums) (variables all) w (variables_back (columns a) (columns b) w (variables_front b.process.params (flag_of b.flag) w k))) v j)
      x.condition (right_fits th.declared vs a b ok x i).condition

  -- a pair's condition, by its parts
  module _ (x y : Summand) (i : In x a.process.summands) (j : In y b.process.summands) (e : Environment) (has : HaveTerms th.declared vs (variables (x.sums ++ y.sums) ++ variables all) (term_in e)) where
    abbrev xs : List ℕ
    xs = variables (x.sums ++ y.sums) ++ variables all

    one : IsCondition th.declared vs xs x.condition
    one = condition_more th.declared vs (variables x.sums ++ variables a.process.params) xs (pair_left th.declared vs a b ok x y) x.condition (left_fits th.declared vs a b ok x i).condition

    two : IsCondition th.declared vs xs y.condition
    two = condition_more th.declared vs (variables y.sums ++ variables b.process.params) xs (pair_right th.declared vs a b ok x y) y.condition (right_fits th.declared vs a b ok y j).condition

    abbrev ps : List Term
    ps = running_part a.flag ++ running_part b.flag

    abbrev qs : List Term
    qs = parts x.condition ++ parts y.condition

    pair_opened : IsTrue th (put (term_in e) (pair a b x y).condition) → FlagSays th false (read e (flag_of a.flag)) × FlagSays th false (read e (flag_of b.flag)) × IsTrue th (put (term_in e) x.condition) × IsTrue th (put (term_in e) y.condition)
    pair_opened h =
        let r = all_true_split th (put (term_in e)) ps qs (holds_conjoined th vs xs e has (ps ++ qs)
        (conditions_append th.declared vs xs ps qs (pair_flags th.declared vs a b ok xs (within_back (variables (x.sums ++ y.sums)) (variables all))) (conditions_append th.declared vs xs (parts x.condition) (parts y.condition) (parts_conditions th.declared vs xs x.condition one) (parts_conditions th.declared vs xs y.condition two))) h) in
        let f = all_true_split th (put (term_in e)) (running_part a.flag) (running_part b.flag) r.0 in
        let c = all_true_split th (put (term_in e)) (parts x.condition) (parts y.condition) r.1 in
        (running_says th vs xs e has a.flag (left_known (x.sums ++ y.sums)) f.0, running_says th vs xs e has b.flag (right_known (x.sums ++ y.sums)) f.1, hold_parts th vs xs e has x.condition one c.0, hold_parts th vs xs e has y.condition two c.1)

    pair_shut : FlagSays th false (read e (flag_of a.flag)) → FlagSays th false (read e (flag_of b.flag)) → IsTrue th (put (term_in e) x.condition) → IsTrue th (put (term_in e) y.condition) → IsTrue th (put (term_in e) (pair a b x y).condition)
    pair_shut f g h k =
        conjoined_holds th vs xs e has (ps ++ qs)
        (conditions_append th.declared vs xs ps qs (pair_flags th.declared vs a b ok xs (within_back (variables (x.sums ++ y.sums)) (variables all))) (conditions_append th.declared vs xs (parts x.condition) (parts y.condition) (parts_conditions th.declared vs xs x.condition one) (parts_conditions th.declared vs xs y.condition two)))
        (all_true_append th (put (term_in e)) ps qs
        (all_true_append th (put (term_in e)) (running_part a.flag) (running_part b.flag) (says_running th vs xs e has a.flag (left_known (x.sums ++ y.sums)) f) (says_running th vs xs e has b.flag (right_known (x.sums ++ y.sums)) g))
        (all_true_append th (put (term_in e)) (parts x.condition) (parts y.condition) (parts_hold th vs xs e has x.condition one h) (parts_hold th vs xs e has y.condition two k)))

  -- ---- what a firing of the product comes from
  module _ (r s : Outcome) (cs ds : List Term) (left : SideAt th a r cs) (right : SideAt th b s ds) where
    read_sides : (e : Environment) → read e all ≡ cs ++ ds → (read e (columns a) ≡ cs) × (read e (columns b) ≡ ds)
    read_sides e h = split_read e (columns a) (columns b) cs ds (side_long left) h

    comes_left : (m : Label) (o : Option (List Term)) (e : Environment) (x y : Summand) → read e all ≡ cs ++ ds → In x a.process.summands → In y (lone own_first a b x) → AreBound th y.sums e → Does th y e m o → LeftComes th a b r cs s ds m o
    comes_left m o e x y h i j w d =
        let c = read_sides e h in
        let w' : AreBound th x.sums e = subst (λ z. AreBound th z e) (alone_sums own_first a (as_terms (columns b)) x x.next b.flag y j) w in
        let has = scoped cs ds (side_sorted left) (side_sorted right) e h x.sums (left_fits th.declared vs a b ok x i).declared w' in
        let k = alone_does th sane vs (variables x.sums ++ variables all) e has own_first (λ e us ts. map-append (put (term_in e)) us ts) a (left_known x.sums) (as_terms (columns b)) x.sums x.condition (left_condition x i) x.label x.next b.flag (ended_after s) y (right_known x.sums) (side_says e right c.1) j d.holds in
        record {
          r' = outcome_of a.process (put_next e x.next);
          cs' = moved (read e a.process.params) (read e (flag_of a.flag)) (put_next e x.next);
          move = side_moves sane e x m left c.0 k.running i w' (record { holds = k.holds; label = d.label ∙ ap (λ l. put_label e l) k.label; onward = refl });
          next = d.onward ∙ k.next ∙ ap₂ (λ u v. out u (ended_after s) (moved (read e a.process.params) (read e (flag_of a.flag)) (put_next e x.next) ++ v)) (sym (ends_after a.process e x.next)) (put_variables e (columns b) ∙ c.1);
        }

    comes_right : (m : Label) (o : Option (List Term)) (e : Environment) (x y : Summand) → read e all ≡ cs ++ ds → In x b.process.summands → In y (lone own_last b a x) → AreBound th y.sums e → Does th y e m o → RightComes th a b r cs s ds m o
    comes_right m o e x y h i j w d =
        let c = read_sides e h in
        let w' : AreBound th x.sums e = subst (λ z. AreBound th z e) (alone_sums own_last b (as_terms (columns a)) x x.next a.flag y j) w in
        let has = scoped cs ds (side_sorted left) (side_sorted right) e h x.sums (right_fits th.declared vs a b ok x i).declared w' in
        let k = alone_does th sane vs (variables x.sums ++ variables all) e has own_last (λ e us ts. map-append (put (term_in e)) ts us) b (right_known x.sums) (as_terms (columns a)) x.sums x.condition (right_condition x i) x.label x.next a.flag (ended_after r) y (left_known x.sums) (side_says e left c.0) j d.holds in
        record {
          s' = outcome_of b.process (put_next e x.next);
          ds' = moved (read e b.process.params) (read e (flag_of b.flag)) (put_next e x.next);
          move = side_moves sane e x m right c.1 k.running i w' (record { holds = k.holds; label = d.label ∙ ap (λ l. put_label e l) k.label; onward = refl });
          next = d.onward ∙ k.next
              ∙ ap₂ (λ u v. out u (ended_after r) (v ++ moved (read e b.process.params) (read e (flag_of b.flag)) (put_next e x.next))) (sym (ends_after b.process e x.next)) (put_variables e (columns a) ∙ c.0)
              ∙ out_swap (ended_after (outcome_of b.process (put_next e x.next))) (ended_after r) (cs ++ moved (read e b.process.params) (read e (flag_of b.flag)) (put_next e x.next));
        }

    comes_both : (m : Label) (o : Option (List Term)) (e : Environment) (x y : Summand) → read e all ≡ cs ++ ds → In x a.process.summands → In y b.process.summands → AreBound th (x.sums ++ y.sums) e → Does th (pair a b x y) e m o → BothCome th a b r cs s ds m o
    comes_both m o e x y h i j w d =
        let c = read_sides e h in
        let one_bound : AreBound th x.sums e = λ z q. w z (Contains-append_left x.sums y.sums z q) in
        let two_bound : AreBound th y.sums e = λ z q. w z (Contains-append_right x.sums y.sums z q) in
        let has = scoped cs ds (side_sorted left) (side_sorted right) e h (x.sums ++ y.sums) (λ z q. ⊎_elim (λ k. (left_fits th.declared vs a b ok x i).declared z k) (λ k. (right_fits th.declared vs a b ok y j).declared z k) (Contains-append_cases x.sums y.sums z q)) w in
        let u = pair_opened x y i j e has d.holds in
        let first = side_moves sane e x (put_label e x.label) left c.0 u.0 i one_bound (record { holds = u.2; label = refl; onward = refl }) in
        let second = side_moves sane e y (put_label e y.label) right c.1 u.1 j two_bound (record { holds = u.3; label = refl; onward = refl }) in
        record {
          m' = put_label e x.label;
          n' = put_label e y.label;
          r' = _;
          cs' = _;
          s' = _;
          ds' = _;
          left = first;
          right = second;
          label = d.label ∙ map-append (put_action e) x.label y.label;
          next = d.onward ∙ put_together e a b x.next y.next
              ∙ ap₂ (λ u v. out u v (moved (read e a.process.params) (read e (flag_of a.flag)) (put_next e x.next) ++ moved (read e b.process.params) (read e (flag_of b.flag)) (put_next e y.next))) (sym (ends_after a.process e x.next)) (sym (ends_after b.process e y.next));
        }

    pub lefts_come : (m : Label) (o : Option (List Term)) → Fires th (lefts a b) (cs ++ ds) m o → LeftComes th a b r cs s ds m o
    lefts_come m o f = let k = in_each (lone own_first a b) a.process.summands (contains_in (lefts a b).summands f.among) in comes_left m o f.environment k.0 f.summand f.reads k.1 k.2 f.bound f.does

    pub rights_come : (m : Label) (o : Option (List Term)) → Fires th (rights a b) (cs ++ ds) m o → RightComes th a b r cs s ds m o
    rights_come m o f = let k = in_each (lone own_last b a) b.process.summands (contains_in (rights a b).summands f.among) in comes_right m o f.environment k.0 f.summand f.reads k.1 k.2 f.bound f.does

    pub boths_come : (m : Label) (o : Option (List Term)) → Fires th (boths a b) (cs ++ ds) m o → BothCome th a b r cs s ds m o
    boths_come m o f =
        let k = in_each (λ x. map (pair a b x) b.process.summands) a.process.summands (contains_in (boths a b).summands f.among) in
        let l = in_map (pair a b k.0) b.process.summands k.2 in
        comes_both m o f.environment k.0 l.0 f.reads k.1 l.1 (subst (λ z. AreBound th z.sums f.environment) l.2 f.bound) (subst (λ z. Does th z f.environment m o) l.2 f.does)

    pub of_left : {m : Label} {o : Option (List Term)} → LeftComes th a b r cs s ds m o → Comes th a b r cs s ds m o
    of_left c = record { r' = c.r'; cs' = c.cs'; s' = s; ds' = ds; joint = on_left c.move; next = c.next }

    pub of_right : {m : Label} {o : Option (List Term)} → RightComes th a b r cs s ds m o → Comes th a b r cs s ds m o
    of_right c = record { r' = r; cs' = cs; s' = c.s'; ds' = c.ds'; joint = on_right c.move; next = c.next }

    pub of_both : {m : Label} {o : Option (List Term)} → BothCome th a b r cs s ds m o → Comes th a b r cs s ds m o
    of_both c = record { r' = c.r'; cs' = c.cs'; s' = c.s'; ds' = c.ds'; joint = joint_label (sym c.label) (on_both c.left c.right); next = c.next }

    pub comes : (m : Label) (o : Option (List Term)) → Fires th (product a b) (cs ++ ds) m o → Comes th a b r cs s ds m o
    comes m o f = ⊎_elim
        (λ i. of_left (lefts_come m o (alone (lefts a b) i)))
        (λ i. ⊎_elim
        (λ j. of_right (rights_come m o (alone (rights a b) j)))
        (λ j. of_both (boths_come m o (alone (boths a b) j)))
        (in_append (rights a b).summands (boths a b).summands i))
        (in_append (lefts a b).summands ((rights a b).summands ++ (boths a b).summands) (contains_in (product a b).summands f.among))
      where
        alone : (l : Linear) → In f.summand l.summands → Fires th (record { params = columns a ++ columns b; summands = l.summands }) (cs ++ ds) m o
        alone l i = record { summand = f.summand; among = in_contains i; environment = f.environment; reads = f.reads; bound = f.bound; does = f.does }

  -- ---- and what it can do
  -- the parameters of a side, read in two environments
  same_params : (c : Side) (d e : Environment) (ts fs : List Term) → length ts ≡ length c.process.params → read d c.process.params ≡ ts → read e (columns c) ≡ ts ++ fs → Agrees (variables c.process.params) d e
  same_params c d e ts fs l h k = read_agrees d e c.process.params (h ∙ sym (split_read e c.process.params (flag_of c.flag) ts fs l k).0)

  first_reads : (cs ds : List Term) → AreOfSorts th (sorts (columns a)) cs → AreOfSorts th (sorts (columns b)) ds → read (bound (variables all) (cs ++ ds)) all ≡ cs ++ ds
  first_reads cs ds h k = base_reads all (cs ++ ds) (columns_long th.declared [] (cs ++ ds) all (columns_sorted th.declared [] (columns a) (columns b) cs ds h k)) ok.distinct

  front_reads : (xs : List Bound) (e d : Environment) → Apart (variables xs) (variables all) → read (front xs e d) all ≡ read d all
  front_reads xs e d n = read_same (front xs e d) d all (agrees_flip (behind_agrees xs e d (variables all) n))

  pub left_fires : {r s r' : Outcome} {cs ds cs' : List Term} {m : Label} → SideAt th b s ds → Moves th a r cs m r' cs' → Fires th (lefts a b) (cs ++ ds) m (out (ended_after r') (ended_after s) (cs' ++ ds))
  left_fires {s = s} {ds = ds} {m = m} right (moves ts fs o l k p f) =
      let x = f.summand in
      let i = contains_in a.process.summands f.among in
      let fit = left_fits th.declared vs a b ok x i in
      let d : Environment = bound (variables all) ((ts ++ fs) ++ ds) in
      let e = front x.sums f.environment d in
      let own = own_sorted th a ts fs l k in
      let h : read e all ≡ (ts ++ fs) ++ ds = front_reads x.sums f.environment d (ok.left_apart x f.among) ∙ first_reads (ts ++ fs) ds own (side_sorted right) in
      let c = split_read e (columns a) (columns b) (ts ++ fs) ds (columns_long th.declared [] (ts ++ fs) (columns a) own) h in
      let w = split_read e a.process.params (flag_of a.flag) ts fs (params_long th a ts l) c.0 in
      let sums : Agrees (variables x.sums) f.environment e = front_agrees x.sums f.environment d fit.distinct in
      let bounds = bound_along th x.sums f.environment e sums f.bound in
      let g = does_along th a.process.params x f.environment e m o (summand_is fit) (agrees_append sums (same_params a f.environment e ts fs (params_long th a ts l) f.reads c.0)).same f.does in
      let has = scoped (ts ++ fs) ds own (side_sorted right) e h x.sums fit.declared bounds in
      let y = alone_can th sane vs (variables x.sums ++ variables all) e has own_first (λ e us ts. map-append (put (term_in e)) us ts) a (left_known x.sums) (as_terms (columns b)) x.sums x.condition (left_condition x i) x.label x.next b.flag (ended_after s) (right_known x.sums) (subst (λ z. FlagSays th false z) (sym w.1) p) (side_says e right c.1) g.holds in
      record {
        summand = y.summand;
        among = in_contains (each_in (lone own_first a b) i y.among);
        environment = e;
        reads = h;
        bound = subst (λ z. AreBound th z e) (sym y.sums) bounds;
        does = record {
          holds = y.holds;
          label = g.label ∙ ap (λ z. put_label e z) (sym y.label);
          onward =
              ap₂ (λ u v. out u (ended_after s) (moved ts fs o ++ v)) (ap (λ z. ended_after (outcome_of a.process z)) g.onward ∙ ends_after a.process e x.next) (sym (put_variables e (columns b) ∙ c.1))
              ∙ ap (λ z. out (ends x.next) (ended_after s) (z ++ map (put (term_in e)) (as_terms (columns b)))) (ap₂ (λ u v. moved u v o) (sym w.0) (sym w.1) ∙ ap (λ z. moved (read e a.process.params) (read e (flag_of a.flag)) z) g.onward)
              ∙ sym y.next;
        };
      }

  pub right_fires : {r s s' : Outcome} {cs ds ds' : List Term} {m : Label} → SideAt th a r cs → Moves th b s ds m s' ds' → Fires th (rights a b) (cs ++ ds) m (out (ended_after r) (ended_after s') (cs ++ ds'))
  right_fires {r = r} {cs = cs} {m = m} left (moves us gs o l k p f) =
      let x = f.summand in
      let i = contains_in b.process.summands f.among in
      let fit = right_fits th.declared vs a b ok x i in
      let d : Environment = bound (variables all) (cs ++ (us ++ gs)) in
      let e = front x.sums f.environment d in
      let own = own_sorted th b us gs l k in
      let h : read e all ≡ cs ++ (us ++ gs) = front_reads x.sums f.environment d (ok.right_apart x f.among) ∙ first_reads cs (us ++ gs) (side_sorted left) own in
      let c = split_read e (columns a) (columns b) cs (us ++ gs) (side_long left) h in
      let w = split_read e b.process.params (flag_of b.flag) us gs (params_long th b us l) c.1 in
      let sums : Agrees (variables x.sums) f.environment e = front_agrees x.sums f.environment d fit.distinct in
      let bounds = bound_along th x.sums f.environment e sums f.bound in
      let g = does_along th b.process.params x f.environment e m o (summand_is fit) (agrees_append sums (same_params b f.environment e us gs (params_long th b us l) f.reads c.1)).same f.does in
      let has = scoped cs (us ++ gs) (side_sorted left) own e h x.sums fit.declared bounds in
      let y = alone_can th sane vs (variables x.sums ++ variables all) e has own_last (λ e us ts. map-append (put (term_in e)) ts us) b (right_known x.sums) (as_terms (columns a)) x.sums x.condition (right_condition x i) x.label x.next a.flag (ended_after r) (left_known x.sums) (subst (λ z. FlagSays th false z) (sym w.1) p) (side_says e left c.0) g.holds in
      record {
        summand = y.summand;
        among = in_contains (each_in (lone own_last b a) i y.among);
        environment = e;
        reads = h;
        bound = subst (λ z. AreBound th z e) (sym y.sums) bounds;
        does = record {
          holds = y.holds;
          label = g.label ∙ ap (λ z. put_label e z) (sym y.label);
          onward =
              out_swap (ended_after r) (ended_after (outcome_of b.process o)) (cs ++ moved us gs o)
              ∙ ap₂ (λ u v. out u (ended_after r) (v ++ moved us gs o)) (ap (λ z. ended_after (outcome_of b.process z)) g.onward ∙ ends_after b.process e x.next) (sym (put_variables e (columns a) ∙ c.0))
              ∙ ap (λ z. out (ends x.next) (ended_after r) (map (put (term_in e)) (as_terms (columns a)) ++ z)) (ap₂ (λ u v. moved u v o) (sym w.0) (sym w.1) ∙ ap (λ z. moved (read e b.process.params) (read e (flag_of b.flag)) z) g.onward)
              ∙ sym y.next;
        };
      }

  pub both_fire : {r s r' s' : Outcome} {cs ds cs' ds' : List Term} {m n : Label} → Moves th a r cs m r' cs' → Moves th b s ds n s' ds' → Fires th (boths a b) (cs ++ ds) (m ++ n) (out (ended_after r') (ended_after s') (cs' ++ ds'))
  both_fire {m = m} {n = n} (moves ts fs o l k p f) (moves us gs q l' k' p' f') =
      let x = f.summand in
      let y = f'.summand in
      let i = contains_in a.process.summands f.among in
      let j = contains_in b.process.summands f'.among in
      let fit = left_fits th.declared vs a b ok x i in
      let fit' = right_fits th.declared vs a b ok y j in
      let d : Environment = bound (variables all) ((ts ++ fs) ++ (us ++ gs)) in
      let d' = front y.sums f'.environment d in
      let e = front x.sums f.environment d' in
      let own = own_sorted th a ts fs l k in
      let own' = own_sorted th b us gs l' k' in
      let h : read e all ≡ (ts ++ fs) ++ (us ++ gs) = front_reads x.sums f.environment d' (ok.left_apart x f.among) ∙ front_reads y.sums f'.environment d (ok.right_apart y f'.among) ∙ first_reads (ts ++ fs) (us ++ gs) own own' in
      let c = split_read e (columns a) (columns b) (ts ++ fs) (us ++ gs) (columns_long th.declared [] (ts ++ fs) (columns a) own) h in
      let w = split_read e a.process.params (flag_of a.flag) ts fs (params_long th a ts l) c.0 in
      let w' = split_read e b.process.params (flag_of b.flag) us gs (params_long th b us l') c.1 in
      let first : Agrees (variables x.sums) f.environment e = front_agrees x.sums f.environment d' fit.distinct in
      let second : Agrees (variables y.sums) f'.environment e = agrees_chain (front_agrees y.sums f'.environment d fit'.distinct) (behind_agrees x.sums f.environment d' (variables y.sums) (λ v q r. ok.sums x y f.among f'.among v q r)) in
      let g = does_along th a.process.params x f.environment e m o (summand_is fit) (agrees_append first (same_params a f.environment e ts fs (params_long th a ts l) f.reads c.0)).same f.does in
      let g' = does_along th b.process.params y f'.environment e n q (summand_is fit') (agrees_append second (same_params b f'.environment e us gs (params_long th b us l') f'.reads c.1)).same f'.does in
      let bounds : AreBound th (x.sums ++ y.sums) e = λ z u. ⊎_elim (λ v. bound_along th x.sums f.environment e first f.bound z v) (λ v. bound_along th y.sums f'.environment e second f'.bound z v) (Contains-append_cases x.sums y.sums z u) in
      let has = scoped (ts ++ fs) (us ++ gs) own own' e h (x.sums ++ y.sums) (λ z u. ⊎_elim (λ v. fit.declared z v) (λ v. fit'.declared z v) (Contains-append_cases x.sums y.sums z u)) bounds in
      record {
        summand = pair a b x y;
        among = in_contains (each_in (λ z. map (pair a b z) b.process.summands) i (map_in (pair a b x) j));
        environment = e;
        reads = h;
        bound = bounds;
        does = record {
          holds = pair_shut x y i j e has (subst (λ z. FlagSays th false z) (sym w.1) p) (subst (λ z. FlagSays th false z) (sym w'.1) p') g.holds g'.holds;
          label = ap₂ (λ u v. u ++ v) g.label g'.label ∙ sym (map-append (put_action e) x.label y.label);
          onward =
              ap₂ (λ u v. out u v (moved ts fs o ++ moved us gs q)) (ap (λ z. ended_after (outcome_of a.process z)) g.onward ∙ ends_after a.process e x.next) (ap (λ z. ended_after (outcome_of b.process z)) g'.onward ∙ ends_after b.process e y.next)
              ∙ ap₂ (λ u v. out (ends x.next) (ends y.next) (u ++ v)) (ap₂ (λ u v. moved u v o) (sym w.0) (sym w.1) ∙ ap (λ z. moved (read e a.process.params) (read e (flag_of a.flag)) z) g.onward) (ap₂ (λ u v. moved u v q) (sym w'.0) (sym w'.1) ∙ ap (λ z. moved (read e b.process.params) (read e (flag_of b.flag)) z) g'.onward)
              ∙ sym (put_together e a b x.next y.next);
        };
      }

  pub can_left : {r s r' : Outcome} {cs ds cs' : List Term} {m : Label} → SideAt th b s ds → Moves th a r cs m r' cs' → Fires th (product a b) (cs ++ ds) m (out (ended_after r') (ended_after s) (cs' ++ ds))
  can_left right v = fires_more (product a b).summands (λ y i. append_front (lefts a b).summands ((rights a b).summands ++ (boths a b).summands) i) (left_fires right v)

  pub can_right : {r s s' : Outcome} {cs ds ds' : List Term} {m : Label} → SideAt th a r cs → Moves th b s ds m s' ds' → Fires th (product a b) (cs ++ ds) m (out (ended_after r) (ended_after s') (cs ++ ds'))
  can_right left v = fires_more (product a b).summands (λ y i. append_back (lefts a b).summands (append_front (rights a b).summands (boths a b).summands i)) (right_fires left v)

  pub can_both : {r s r' s' : Outcome} {cs ds cs' ds' : List Term} {m n : Label} → Moves th a r cs m r' cs' → Moves th b s ds n s' ds' → Fires th (product a b) (cs ++ ds) (m ++ n) (out (ended_after r') (ended_after s') (cs' ++ ds'))
  can_both v w = fires_more (product a b).summands (λ y i. append_back (lefts a b).summands (append_back (rights a b).summands i)) (both_fire v w)
