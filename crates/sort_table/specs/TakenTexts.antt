-- Texts whose names are taken.
use Rattle.std.specs.Prelude.{◌≡◌, ◌⊎◌, ◌↔◌, List}
use Rattle.std.specs.List.{Contains}
use Rattle.data_theory.specs.Signature.{Sig, IsTaken}
use Rattle.sort_table.specs.Expressions.{Name}

-- these texts are taken, and nothing else changes
pub record TakesTexts (ts : List Name) (g h : Sig) : Type 0 where
  pub same : h ≡ record g { taken = h.taken }
  pub taken : (t : Name) → IsTaken h t ↔ (IsTaken g t ⊎ Contains ts t)
