-- Lists in an order.
use Rattle.std.specs.Prelude.{List, [], ◌∷◌}
use Rattle.std.specs.List.{Contains}

-- each entry comes before those behind it
abbrev pub Ascending : {A : Type 0} → (A → A → Type 0) → List A → Type 0
Ascending B [] = Unit {0}
Ascending {A} B (x ∷ xs) = ((y : A) → Contains xs y → B x y) × Ascending B xs
