-- The parameter of a product with a first step of one kind may be the variable behind all others.
use Rattle.std.proofs.Common.{◌<◌, ℕ, zero, suc, List, [], ◌∷◌, ◌++◌, length, refl, subst, arith, ⊎_elim, Option, Some}
use Rattle.std.specs.Prelude.{Contains}
use Rattle.data_theory.specs.Terms.{Sort, boolean, Term, Terms, variable, numeral, unknown, application, none, more}
use Rattle.data_theory.specs.Declarations.{Data, Declares, argument_sorts, HasSort, HaveSorts}
use Rattle.data_theory.specs.Environments.{terms_of}
use Rattle.process_terms.specs.Labels.{Label}
use Rattle.process_terms.specs.Processes.{Bound}
use Rattle.bisim_laws.specs.LinearProcesses.{Linear, variables, sorts, LabelIsSorted, no_action_to_sort, action_sorted, NextIsSorted, no_next_to_sort, next_sorted, AreDeclared, IsWellSorted}
use Rattle.bisim_laws.specs.BaseStates.{Side}
use Rattle.bisim_laws.proofs.Firing.{contains_none, contains_cases}
use Rattle.lps_core.proofs.Members.{contains_map}
use Rattle.summand_expander.specs.Product.{flag_of, product, IsSide, Separate}
use Rattle.summand_expander.specs.FirstSteps.{NewestServes, ProductFromNewestIsGood}
use Rattle.summand_expander.proofs.Whole.{sorted_product}
use Rattle.summand_expander.proofs.FirstSteps.{from_good}

-- ---- more variables
declares_more : (vs ws : List Sort) (v : ℕ) (s : Sort) → Declares vs v s → Declares (vs ++ ws) v s
declares_more [] ws v s h = absurd h
declares_more (r ∷ vs) ws zero s h = h
declares_more (r ∷ vs) ws (suc v) s h = declares_more vs ws v s h

declares_last : (vs : List Sort) (s : Sort) → Declares (vs ++ (s ∷ [])) (length vs) s
declares_last [] s = refl
declares_last (r ∷ vs) s = declares_last vs s

declared_within : (vs : List Sort) (v : ℕ) (s : Sort) → Declares vs v s → v < length vs
declared_within [] v s h = absurd h
declared_within (r ∷ vs) zero s h = omega arith
declared_within (r ∷ vs) (suc v) s h = let k = declared_within vs v s h in omega (arith, k)

module _ (g : Data) (vs ws : List Sort) where
  mutual
    sort_more : (t : Term) (s : Sort) → HasSort g vs t s → HasSort g (vs ++ ws) t s
    sort_more (variable v) s h = declares_more vs ws v s h
    sort_more (numeral a z) s h = h
    sort_more (unknown d k) s h = h
    sort_more (application f ts) s h = (h.0, sorts_more ts (argument_sorts g f) h.1, h.2, h.3)

    sorts_more : (ts : Terms) (ss : List Sort) → HaveSorts g vs ts ss → HaveSorts g (vs ++ ws) ts ss
    sorts_more none [] h = h
    sorts_more none (s ∷ ss) h = absurd h
    sorts_more (more t ts) [] h = absurd h
    sorts_more (more t ts) (s ∷ ss) h = (sort_more t s h.0, sorts_more ts ss h.1)

  label_more : (m : Label) → LabelIsSorted g vs m → LabelIsSorted g (vs ++ ws) m
  label_more _ no_action_to_sort = no_action_to_sort
  label_more _ (action_sorted {a = a} {m = m} h k) = action_sorted (sorts_more (terms_of a.args) a.sorts h) (label_more m k)

  next_more : (ss : List Sort) {n : Option (List Term)} → NextIsSorted g vs ss n → NextIsSorted g (vs ++ ws) ss n
  next_more ss no_next_to_sort = no_next_to_sort
  next_more ss (next_sorted {ts = ts} h) = next_sorted (sorts_more (terms_of ts) ss h)

  declared_more : (xs : List Bound) → AreDeclared vs xs → AreDeclared (vs ++ ws) xs
  declared_more xs h x i = declares_more vs ws x.var x.sort (h x i)

  linear_more : (l : Linear) → IsWellSorted g vs l → IsWellSorted g (vs ++ ws) l
  linear_more l h = record {
    params = declared_more l.params h.params;
    param_sorts = h.param_sorts;
    summands = λ s i.
        let k = h.summands s i in
        record { sums = declared_more s.sums k.sums; sum_sorts = k.sum_sorts; condition = sort_more s.condition boolean k.condition; label = label_more s.label k.label; next = next_more (sorts l.params) k.next };
  }

  side_more : (a : Side) → IsSide g vs a → IsSide g (vs ++ ws) a
  side_more a h = record { linear = h.linear; sorted = linear_more a.process h.sorted; flag = declared_more (flag_of a.flag) h.flag; ends = h.ends }

  pub separate_more : (a b : Side) → Separate g vs a b → Separate g (vs ++ ws) a b
  separate_more a b h = record { left = side_more a h.left; right = side_more b h.right; distinct = h.distinct; left_apart = h.left_apart; right_apart = h.right_apart; sums = h.sums }

-- ---- the newest one
not_there : (vs : List Sort) (xs : List Bound) → AreDeclared vs xs → Contains (variables xs) (length vs) → ⊥
not_there vs xs h i =
    let r = contains_map (λ (x : Bound). x.var) xs (length vs) i in
    let k = declared_within vs r.0.var r.0.sort (h r.0 r.1.0) in
    let e = r.1.1 in
    omega (arith, k, e)

the_flag : (vs : List Sort) → AreDeclared (vs ++ (boolean ∷ [])) (flag_of (Some (length vs)))
the_flag vs x i = ⊎_elim
    (λ q. subst (λ (z : Bound). Declares (vs ++ (boolean ∷ [])) z.var z.sort) q (declares_last vs boolean))
    (λ j. absurd (contains_none x j))
    (contains_cases (record { var = length vs; sort = boolean }) x [] i)

pub newest_serves : NewestServes
newest_serves g vs a b ok =
    let p = sorted_product g vs a b ok in (
      separate_more g vs (boolean ∷ []) a b ok,
      record { declared = the_flag vs; params = not_there vs (product a b).params p.params; sums = λ s i. not_there vs s.sums (p.summands s i).sums },
    )

pub newest_good : ProductFromNewestIsGood
newest_good th sane vs o a b ok = let n = newest_serves th.declared vs a b ok in from_good th sane (vs ++ (boolean ∷ [])) o a b (length vs) n.0 n.1
