-- The product of two linear processes without the summands whose names can't be completed.
use Rattle.std.specs.Prelude.{Bool, false, not, ◌&&◌, List, [], ◌∷◌, is_none, if◌then◌else◌}
use Rattle.std.specs.List.{list_any}
use Rattle.process_terms.specs.Names.{Name}
use Rattle.process_terms.specs.Labels.{names}
use Rattle.bisim_laws.specs.LinearProcesses.{Summand, Linear}
use Rattle.bisim_laws.specs.BaseStates.{Side}
use Rattle.bisim_laws.specs.SomeSummands.{with_summands}
use Rattle.summand_expander.specs.Product.{product}

-- Those that pass, in their order. While one that ends is to be spared, the first one that ends stays as well.
abbrev pub kept : {A : Type 0} → (A → Bool) → (A → Bool) → Bool → List A → List A
kept passes ends spare [] = []
kept passes ends spare (x ∷ xs) = if passes x then x ∷ kept passes ends spare xs else (if spare && ends x then x ∷ kept passes ends false xs else kept passes ends spare xs)

-- no one that ends passes
abbrev pub all_ends_fail : {A : Type 0} → (A → Bool) → (A → Bool) → List A → Bool
all_ends_fail passes ends xs = not (list_any (λ x. ends x && passes x) xs)

-- Those that pass, in their order; with the first one that ends where no one that ends passes.
abbrev pub pruned : {A : Type 0} → (A → Bool) → (A → Bool) → List A → List A
pruned passes ends xs = kept passes ends (all_ends_fail passes ends xs) xs

-- ---- of linear processes
abbrev pub ends : Summand → Bool
ends s = is_none s.next

-- whether the names of a summand's label pass a test
abbrev pub can_stay : (List Name → Bool) → Summand → Bool
can_stay can s = can (names s.label)

abbrev pub pruned_linear : (List Name → Bool) → Linear → Linear
pruned_linear can l = with_summands l (pruned (can_stay can) ends l.summands)

abbrev pub product_within : (List Name → Bool) → Side → Side → Linear
product_within can a b = pruned_linear can (product a b)
