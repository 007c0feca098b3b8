-- Terms of values in a pool.
use Rattle.std.proofs.Common.{◌≡◌, ◌<◌, ◌≤◌, ◌-◌, ◌++◌, ℕ, zero, suc, List, [], ◌∷◌, map, take, length, refl, ap, ◌∙◌, arith}
use Rattle.std.proofs.lemmas.List.Elements.{All-nil, All-cons}
use Rattle.data_theory.specs.declared.ids.FunId.{FunId}
use Rattle.data_theory.specs.declared.ids.TermId.{TermId}
use Rattle.data_theory.specs.IdTrees.{Tree, function, more, trees_of, apply_tree}
use Rattle.term_pool.specs.HeadTrees.{trees_at, IsIn, AreIn}
use Rattle.term_pool.specs.Pools.{Extends}
use Rattle.term_pool.proofs.NodeTrees.{tree_kept, stays_in}
use Rattle.term_pool.specs.ConstructorValues.{ConstructorValue, ConstructorValues, built, no_value, value_then}
use Rattle.value_enum.specs.Values.{value_tree, IsTermOf, AreTermsOf, no_terms, term_then}
use Rattle.value_enum.specs.Levels.{IsTupleOf, empty, longer, AreTuplesOf, no_tuples, tuple_then, in_front_of_all, weighing_up_to, argument_trees}

-- ---- where the pool grows
pub term_kept : (old new : List Tree) → Extends old new → (id : TermId) (v : ConstructorValue) → IsTermOf old id v → IsTermOf new id v
term_kept old new on id v is = record { within = stays_in old new id on is.within; tree = tree_kept old new id on is.within ∙ is.tree }

pub terms_kept : (old new : List Tree) → Extends old new → (ids : List TermId) (vs : List ConstructorValue) → AreTermsOf old ids vs → AreTermsOf new ids vs
terms_kept old new on [] [] no_terms = no_terms
terms_kept old new on [] (v ∷ vs) p = elim p [ ]
terms_kept old new on (id ∷ ids) [] p = elim p [ ]
terms_kept old new on (id ∷ ids) (v ∷ vs) (term_then is rest) = term_then (term_kept old new on id v is) (terms_kept old new on ids vs rest)

pub tuple_in_kept : (old new : List Tree) → Extends old new → (ids : List TermId) (u : ConstructorValues) → IsTupleOf old ids u → IsTupleOf new ids u
tuple_in_kept old new on [] no_value empty = empty
tuple_in_kept old new on [] (value_then v vs) p = elim p [ ]
tuple_in_kept old new on (id ∷ ids) no_value p = elim p [ ]
tuple_in_kept old new on (id ∷ ids) (value_then v vs) (longer is rest) = longer (term_kept old new on id v is) (tuple_in_kept old new on ids vs rest)

pub tuples_kept : (old new : List Tree) → Extends old new → (idss : List (List TermId)) (us : List ConstructorValues) → AreTuplesOf old idss us → AreTuplesOf new idss us
tuples_kept old new on [] [] no_tuples = no_tuples
tuples_kept old new on [] (u ∷ us) p = elim p [ ]
tuples_kept old new on (ids ∷ idss) [] p = elim p [ ]
tuples_kept old new on (ids ∷ idss) (u ∷ us) (tuple_then is rest) = tuple_then (tuple_in_kept old new on ids u is) (tuples_kept old new on idss us rest)

module _ (ts : List Tree) where
  pub terms_length : (ids : List TermId) (vs : List ConstructorValue) → AreTermsOf ts ids vs → length ids ≡ length vs
  terms_length [] [] no_terms = refl
  terms_length [] (v ∷ vs) p = elim p [ ]
  terms_length (id ∷ ids) [] p = elim p [ ]
  terms_length (id ∷ ids) (v ∷ vs) (term_then is rest) = ap suc (terms_length ids vs rest)

  pub terms_append : (ids js : List TermId) (vs ws : List ConstructorValue) → AreTermsOf ts ids vs → AreTermsOf ts js ws → AreTermsOf ts (ids ++ js) (vs ++ ws)
  terms_append [] js [] ws no_terms q = q
  terms_append [] js (v ∷ vs) ws p q = elim p [ ]
  terms_append (id ∷ ids) js [] ws p q = elim p [ ]
  terms_append (id ∷ ids) js (v ∷ vs) ws (term_then is rest) q = term_then is (terms_append ids js vs ws rest q)

  pub terms_take : (n : ℕ) (ids : List TermId) (vs : List ConstructorValue) → AreTermsOf ts ids vs → AreTermsOf ts (take n ids) (take n vs)
  terms_take zero ids vs p = no_terms
  terms_take (suc n) [] [] no_terms = no_terms
  terms_take (suc n) [] (v ∷ vs) p = elim p [ ]
  terms_take (suc n) (id ∷ ids) [] p = elim p [ ]
  terms_take (suc n) (id ∷ ids) (v ∷ vs) (term_then is rest) = term_then is (terms_take n ids vs rest)

  pub one_term : (id : TermId) (v : ConstructorValue) → IsTermOf ts id v → AreTermsOf ts (id ∷ []) (v ∷ [])
  one_term id v is = term_then is no_terms

  -- ---- lists of arguments
  pub tuples_append : (ids js : List (List TermId)) (vs ws : List ConstructorValues) → AreTuplesOf ts ids vs → AreTuplesOf ts js ws → AreTuplesOf ts (ids ++ js) (vs ++ ws)
  tuples_append [] js [] ws no_tuples q = q
  tuples_append [] js (v ∷ vs) ws p q = elim p [ ]
  tuples_append (id ∷ ids) js [] ws p q = elim p [ ]
  tuples_append (id ∷ ids) js (v ∷ vs) ws (tuple_then is rest) q = tuple_then is (tuples_append ids js vs ws rest q)

  pub tuples_take : (n : ℕ) (ids : List (List TermId)) (vs : List ConstructorValues) → AreTuplesOf ts ids vs → AreTuplesOf ts (take n ids) (take n vs)
  tuples_take zero ids vs p = no_tuples
  tuples_take (suc n) [] [] no_tuples = no_tuples
  tuples_take (suc n) [] (v ∷ vs) p = elim p [ ]
  tuples_take (suc n) (id ∷ ids) [] p = elim p [ ]
  tuples_take (suc n) (id ∷ ids) (v ∷ vs) (tuple_then is rest) = tuple_then is (tuples_take n ids vs rest)

  tuples_map : (id : TermId) (v : ConstructorValue) → IsTermOf ts id v → (idss : List (List TermId)) (us : List ConstructorValues) → AreTuplesOf ts idss us → AreTuplesOf ts (map (λ ids. id ∷ ids) idss) (map (value_then v) us)
  tuples_map id v is [] [] no_tuples = no_tuples
  tuples_map id v is [] (u ∷ us) p = elim p [ ]
  tuples_map id v is (ids ∷ idss) [] p = elim p [ ]
  tuples_map id v is (ids ∷ idss) (u ∷ us) (tuple_then one rest) = tuple_then (longer is one) (tuples_map id v is idss us rest)

  pub tuples_in_front : (ids : List TermId) (vs : List ConstructorValue) (idss : List (List TermId)) (us : List ConstructorValues) → AreTermsOf ts ids vs → AreTuplesOf ts idss us
      → AreTuplesOf ts (in_front_of_all (λ id rest. id ∷ rest) ids idss) (in_front_of_all value_then vs us)
  tuples_in_front [] [] idss us no_terms q = no_tuples
  tuples_in_front [] (v ∷ vs) idss us p q = elim p [ ]
  tuples_in_front (id ∷ ids) [] idss us p q = elim p [ ]
  tuples_in_front (id ∷ ids) (v ∷ vs) idss us (term_then is rest) q =
      tuples_append (map (λ js. id ∷ js) idss) (in_front_of_all (λ id rest. id ∷ rest) ids idss) (map (value_then v) us) (in_front_of_all value_then vs us) (tuples_map id v is idss us q) (tuples_in_front ids vs idss us rest q)

  pub tuples_up_to : (firsts : ℕ → List TermId) (values : ℕ → List ConstructorValue) (rests : ℕ → List (List TermId)) (others : ℕ → List ConstructorValues) (total k : ℕ) → k ≤ total
      → ((j : ℕ) → 0 < j → j ≤ k → AreTermsOf ts (firsts j) (values j)) → ((j : ℕ) → j < total → AreTuplesOf ts (rests j) (others j))
      → AreTuplesOf ts (weighing_up_to (λ id ids. id ∷ ids) firsts rests total k) (weighing_up_to value_then values others total k)
  tuples_up_to firsts values rests others total zero l p q = no_tuples
  tuples_up_to firsts values rests others total (suc k) l p q =
      tuples_append (weighing_up_to (λ id ids. id ∷ ids) firsts rests total k) (in_front_of_all (λ id rest. id ∷ rest) (firsts (suc k)) (rests (total - suc k))) (weighing_up_to value_then values others total k) (in_front_of_all value_then (values (suc k)) (others (total - suc k)))
      (tuples_up_to firsts values rests others total k (omega (arith, l)) (λ j some m. p j some (omega (arith, m))) q)
      (tuples_in_front (firsts (suc k)) (values (suc k)) (rests (total - suc k)) (others (total - suc k)) (p (suc k) (omega arith) (omega arith)) (q (total - suc k) (omega (arith, l))))

  pub tuple_within : (ids : List TermId) (u : ConstructorValues) → IsTupleOf ts ids u → AreIn ts ids
  tuple_within [] no_value empty = All-nil (IsIn ts)
  tuple_within [] (value_then v vs) p = elim p [ ]
  tuple_within (id ∷ ids) no_value p = elim p [ ]
  tuple_within (id ∷ ids) (value_then v vs) (longer is rest) = All-cons (IsIn ts) id ids is.within (tuple_within ids vs rest)

  tuple_trees : (ids : List TermId) (u : ConstructorValues) → IsTupleOf ts ids u → trees_of (trees_at ts ids) ≡ argument_trees u
  tuple_trees [] no_value empty = refl
  tuple_trees [] (value_then v vs) p = elim p [ ]
  tuple_trees (id ∷ ids) no_value p = elim p [ ]
  tuple_trees (id ∷ ids) (value_then v vs) (longer is rest) = let e = is.tree in let d = tuple_trees ids vs rest in λ i. more (e i) (d i)

  -- a constructor over them
  pub built_tree : (f : FunId) (ids : List TermId) (u : ConstructorValues) → IsTupleOf ts ids u → apply_tree f (argument_trees u) ≡ function f (argument_trees u) → apply_tree f (trees_of (trees_at ts ids)) ≡ value_tree (built f u)
  built_tree f ids u is unmerged = ap (apply_tree f) (tuple_trees ids u is) ∙ unmerged
