-- What a function of a signature is.
use Rattle.std.specs.Prelude.{◌≡◌, ◌⊎◌, ℕ, List, Some, slice_get}
use Rattle.std.specs.List.{All, Contains}
use Rattle.data_theory.specs.declared.ids.FunId.{FunId}
use Rattle.data_theory.specs.declared.ids.TermId.{TermId}
use Rattle.data_theory.specs.Terms.{Symbol, truth, falsity, empty, cons, function}
use Rattle.data_theory.specs.Declarations as theory
use Rattle.data_theory.specs.Declarations.{Data, function_at}
use Rattle.data_theory.specs.Functions.{Function}
use Rattle.data_theory.specs.IdData.{data_meant}
use Rattle.data_theory.specs.IdRoles.{HasRole}
use Rattle.data_theory.specs.IdTrees.{Tree}
use Rattle.data_theory.specs.Signature.{Sig}
use Rattle.eqn_check.specs.declared.roles.Role.{Role}
use Rattle.eqn_check.specs.declared.roles.Role.TheVariants.{Built, Constructor, Selector, Mapping}
use Rattle.eqn_check.specs.Judged.{term_at, IsTerm}
use Rattle.eqn_check.specs.Patterns.{IsPattern}

abbrev pub role_told : theory.Role → Role
role_told theory.constructor = Constructor
role_told (theory.projection c i) = Selector
role_told (theory.recogniser c) = Selector
role_told theory.mapping = Mapping

-- `true`, `false`, `[]` and `|>` are constructors too
abbrev pub role_of : Data → Symbol → Role
role_of g truth = Constructor
role_of g falsity = Constructor
role_of g (empty s) = Constructor
role_of g (cons s) = Constructor
role_of g (function k) = role_told (function_at g k).role
role_of g _ = Built

-- the function is a projection or a recogniser
abbrev pub IsSelector : Sig → FunId → Type 0
IsSelector g i = ((c k : ℕ) × HasRole g.sorts g.functions i (theory.projection c k)) ⊎ ((c : ℕ) × HasRole g.sorts g.functions i (theory.recogniser c))

-- ---- patterns that are walked
abbrev pub ArePatternsAt : Sig → List Tree → List TermId → Type 0
ArePatternsAt sig ts ids = All (λ (t : TermId). IsPattern (data_meant sig) (term_at sig ts t)) ids

-- these terms are patterns exactly where those that wait are
pub record PatternsLeft (sig : Sig) (ts : List Tree) (ids waiting : List TermId) : Type 0 where
  pub within : All (IsTerm sig ts) waiting
  pub patterns : ArePatternsAt sig ts waiting → ArePatternsAt sig ts ids
  pub all_patterns : ArePatternsAt sig ts ids → ArePatternsAt sig ts waiting

-- the function is a projection or the recogniser of this constructor
abbrev pub Selects : Function → FunId → Type 0
Selects h i = Contains h.projections (Some i) ⊎ (h.test ≡ Some i)

abbrev pub SelectsAmong : List Function → List FunId → FunId → Type 0
SelectsAmong fs cs i = (c : FunId) × Contains cs c × ((h : Function) × (slice_get fs c.0 ≡ Some h) × Selects h i)

-- the symbol is a mapping
abbrev pub IsMappingSymbol : Data → Symbol → Type 0
IsMappingSymbol g (function k) = (function_at g k).role ≡ theory.mapping
IsMappingSymbol g _ = ⊥
