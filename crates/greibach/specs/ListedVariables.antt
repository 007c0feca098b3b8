-- The variables for which terms are listed.
use Rattle.std.specs.Prelude.{List, [], ◌∷◌, map}
use Rattle.data_theory.specs.declared.ids.VarId.{VarId}
use Rattle.data_theory.specs.declared.ids.TermId.{TermId}

abbrev pub listed_variables : List (VarId × TermId) → List VarId
listed_variables by = map (λ p. p.0) by

-- variables with terms, place by place
abbrev pub paired : List VarId → List TermId → List (VarId × TermId)
paired [] ids = []
paired (x ∷ xs) [] = []
paired (x ∷ xs) (id ∷ ids) = (x, id) ∷ paired xs ids
