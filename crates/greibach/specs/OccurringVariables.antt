-- Which variables occur in terms.
use Rattle.std.specs.Prelude.{◌≡◌, ◌==◌, ℕ, List, [], ◌∷◌, ◌++◌, ◌⊎◌, Option, None, Some, get_or}
use Rattle.std.specs.List.{Contains, filter, list_any}
use Rattle.data_theory.specs.declared.ids.VarId.{VarId}
use Rattle.data_theory.specs.declared.ids.TermId.{TermId}
use Rattle.data_theory.specs.IdTrees.{Tree, Trees, variable, numeral, function, none, more}
use Rattle.term_pool.specs.HeadTrees.{tree_at}
use Rattle.process_terms.specs.PlainProcesses.{PlainAction}
use Rattle.greibach.specs.PlacesInCode.{delta, PlainPlace}

abbrev mutual
  pub Occurs : VarId → Tree → Type 0
  Occurs v (variable x) = x ≡ v
  Occurs v (numeral a z) = ⊥
  Occurs v (function f ts) = OccursAmong v ts

  pub OccursAmong : VarId → Trees → Type 0
  OccursAmong v none = ⊥
  OccursAmong v (more t ts) = Occurs v t ⊎ OccursAmong v ts

-- in one of these terms of the pool
abbrev pub OccursIn : List Tree → List TermId → VarId → Type 0
OccursIn ts ids v = (id : TermId) × Contains ids id × Occurs v (tree_at ts id)

-- the arguments of a label's actions
abbrev pub label_terms : List PlainAction → List TermId
label_terms [] = []
label_terms (a ∷ m) = a.args ++ label_terms m

-- those of the first variables that are among the second ones
abbrev pub those_among : List VarId → List VarId → List VarId
those_among xs keys = filter (λ (x : VarId). list_any (λ (y : VarId). x.0 == y.0) keys) xs

-- the parameters of a place
abbrev pub params_at : List PlainPlace → ℕ → List VarId
params_at ps n = (get_or ps n (record { part = delta; rest = None; params = [] })).params

abbrev pub rest_params : List PlainPlace → Option ℕ → List VarId
rest_params ps None = []
rest_params ps (Some n) = params_at ps n
