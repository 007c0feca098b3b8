-- Terms that are put in for variables.
use Rattle.std.specs.Prelude.{◌≡◌, List, [], ◌∷◌, map, ◌==◌, cond, Option, Some}
use Rattle.std.specs.HashMap.{HashMap, get}
use Rattle.data_theory.specs.declared.ids.VarId.{VarId}
use Rattle.data_theory.specs.declared.ids.TermId.{TermId}
use Rattle.data_theory.specs.IdTrees.{Tree, variable, put_tree}
use Rattle.term_pool.specs.HeadTrees.{tree_at, IsIn}

-- the tree that is listed for a variable; one without stands for itself
abbrev pub listed : List Tree → List (VarId × TermId) → VarId → Tree
listed ts [] v = variable v
listed ts (p ∷ ps) v = cond (p.0.0 == v.0) (tree_at ts p.1) (listed ts ps v)

abbrev pub listed_terms : List (VarId × TermId) → List TermId
listed_terms by = map (λ p. p.1) by

-- the term that was made of a term
abbrev pub result_of : {S : Type 0} → HashMap TermId TermId S → TermId → Option TermId
result_of results id = get (λ x y. x.0 == y.0) results id

-- the term has its result: its tree with these put in
abbrev pub IsDone : {S : Type 0} → List Tree → (VarId → Tree) → HashMap TermId TermId S → TermId → Type 0
IsDone ts e results id = (made : TermId) × (result_of results id ≡ Some made) × IsIn ts made × (tree_at ts made ≡ put_tree e (tree_at ts id))
