-- What a label communicates to.
use Rattle.std.specs.Prelude.{◌≡◌, List, [], ◌∷◌, ◌++◌, Contains}
use Rattle.data_theory.specs.Terms.{Sort, Term}
use Rattle.data_theory.specs.Equations.{trueᵗ, equals, ◌∧ᵗ◌}
use Rattle.process_terms.specs.Names.{Name}
use Rattle.process_terms.specs.Theories.{Theory, IsFalse, AllTrue}
use Rattle.process_terms.specs.Labels.{Action, Label, names, Permuted}

-- actions with these names join to one with the result's name
pub record Rule : Type 0 where
  pub left : List Name
  pub result : Name

-- xs and ys, each in its order, make up zs
pub data Split {A : Type 0} : List A → List A → List A → Type 0 where
  all_split : Split [] [] []
  to_first : {x : A} {xs ys zs : List A} → Split xs ys zs → Split (x ∷ xs) ys (x ∷ zs)
  to_second : {y : A} {xs ys zs : List A} → Split xs ys zs → Split xs (y ∷ ys) (y ∷ zs)

-- each action has arguments of these sorts
pub data HaveArgumentSorts (ss : List Sort) : Label → Type 0 where
  no_more_actions : HaveArgumentSorts ss []
  one_more_action : {a : Action} {m : Label} → a.sorts ≡ ss → HaveArgumentSorts ss m → HaveArgumentSorts ss (a ∷ m)

-- an action and further ones have the names of the rule's left side, and arguments of the same sorts
pub record IsGroup (c : Rule) (a : Action) (others : Label) : Type 0 where
  pub named : Permuted (names (a ∷ others)) c.left
  pub sorted : HaveArgumentSorts a.sorts others

-- the equalities of two lists of arguments of these sorts
abbrev pub equalities : List Sort → List Term → List Term → List Term
equalities [] ts us = []
equalities (s ∷ ss) [] us = []
equalities (s ∷ ss) (t ∷ ts) [] = []
equalities (s ∷ ss) (t ∷ ts) (u ∷ us) = equals s t u ∷ equalities ss ts us

-- those between the arguments of a group's first action and the arguments of each other one
abbrev pub group_equalities : Action → Label → List Term
group_equalities a [] = []
group_equalities a (b ∷ others) = equalities a.sorts a.args b.args ++ group_equalities a others

-- one chain, without a `true` at its end
abbrev pub conjunction_of : List Term → Term
conjunction_of [] = trueᵗ
conjunction_of (t ∷ []) = t
conjunction_of (t ∷ ts) = t ∧ᵗ conjunction_of ts

-- The first label is cut into groups and a rest: the second one has each group's result at the place of the group's first
-- action, and the rest at its places. The third one is the rest.
pub data Grouped (th : Theory) (rules : List Rule) : Label → Label → Label → Type 0 where
  all_grouped : Grouped th rules [] [] []
  stays : {a : Action} {m n rest : Label} → Grouped th rules m n rest → Grouped th rules (a ∷ m) (a ∷ n) (a ∷ rest)
  joins : {c : Rule} {a : Action} {others behind m n rest : Label} → Contains rules c → Split others behind m → IsGroup c a others → AllTrue th (group_equalities a others)
      → Grouped th rules behind n rest → Grouped th rules (a ∷ m) (record { name = c.result; sorts = a.sorts; args = a.args } ∷ n) rest

-- each further group of the rest has equalities whose conjunction is provably false
abbrev pub NoneFurther : Theory → List Rule → Label → Type 0
NoneFurther th rules rest =
    (c : Rule) (a : Action) (others behind : Label) → Contains rules c → Split (a ∷ others) behind rest → IsGroup c a others
    → IsFalse th (conjunction_of (group_equalities a others))

pub record Communicates (th : Theory) (rules : List Rule) (m n : Label) : Type 0 where
  pub rest : Label
  pub grouped : Grouped th rules m n rest
  pub none_further : NoneFurther th rules rest
