-- Which variables occur in terms of a pool.
use Rattle.std.specs.Prelude.{◌≡◌, List, [], ◌∷◌, ◌++◌, ◌⊎◌, Option, None, Some}
use Rattle.std.specs.List.{Contains}
use Rattle.data_theory.specs.declared.ids.VarId.{VarId}
use Rattle.data_theory.specs.declared.ids.TermId.{TermId}
use Rattle.data_theory.specs.IdTrees.{Tree, Trees, variable, numeral, function, none, more}
use Rattle.term_pool.specs.HeadTrees.{tree_at}
use Rattle.process_terms.specs.PlainProcesses.{PlainAction}
use Rattle.lps_core.specs.PlainLinears.{PlainSummand}

abbrev mutual
  pub Occurs : VarId → Tree → Type 0
  Occurs v (variable x) = x ≡ v
  Occurs v (numeral a z) = ⊥
  Occurs v (function f ts) = OccursAmong v ts

  pub OccursAmong : VarId → Trees → Type 0
  OccursAmong v none = ⊥
  OccursAmong v (more t ts) = Occurs v t ⊎ OccursAmong v ts

-- in one of these terms of the pool
abbrev pub OccursIn : List Tree → List TermId → VarId → Type 0
OccursIn ts ids v = (id : TermId) × Contains ids id × Occurs v (tree_at ts id)

-- ---- the terms of a summand
abbrev pub terms_of_label : List PlainAction → List TermId
terms_of_label [] = []
terms_of_label (a ∷ m) = a.args ++ terms_of_label m

abbrev pub terms_of_next : Option (List TermId) → List TermId
terms_of_next None = []
terms_of_next (Some ids) = ids

abbrev pub summand_terms : PlainSummand → List TermId
summand_terms s = s.condition ∷ (terms_of_label s.label ++ terms_of_next s.next)
