-- Places in a text, and what an equation of the Greibach form stands for.
use Rattle.std.specs.Prelude.{◌≡◌, ℕ, zero, suc, List, [], ◌∷◌, ◌++◌, map, Bool, true, false, slice_get, Some, Contains}
use Rattle.data_theory.specs.Terms.{Sort, boolean, Term}
use Rattle.data_theory.specs.Declarations.{Data, Declares, HasSort, HaveSorts}
use Rattle.data_theory.specs.Environments.{terms_of, IsOver, AreOver}
use Rattle.process_terms.specs.Processes.{Body, written_delta, written_act, written_choice, written_seq, written_cond, written_sum, written_call, written_merge, written_starting, written_around, Definition, Table}
use Rattle.bisim_laws.specs.LinearProcesses.{variables, sorts, LabelIsOver}
use Rattle.bisim_laws.specs.BaseStates.{Piece}

-- the way down to a part: to the first operand, or to the second one
abbrev pub Path : Type 0
Path = List Bool

-- a part of a body: of the component's own term, which has the number 0, or of the definition with that number less one
pub record Place : Type 0 where
  pub owner : ℕ
  pub path : Path

-- where a definition begins
abbrev pub whole : ℕ → Place
whole x = record { owner = suc x; path = [] }

-- one of several bodies that run one after another, with its path
pub record Factor : Type 0 where
  pub path : Path
  pub body : Body

-- a composition as the list of its factors, its brackets aside
abbrev pub factors : Path → Body → List Factor
factors path (written_seq p q) = factors (path ++ false ∷ []) p ++ factors (path ++ true ∷ []) q
factors path written_delta = record { path = path; body = written_delta } ∷ []
factors path (written_act m) = record { path = path; body = written_act m } ∷ []
factors path (written_choice p q) = record { path = path; body = written_choice p q } ∷ []
factors path (written_cond c p q) = record { path = path; body = written_cond c p q } ∷ []
factors path (written_sum x p) = record { path = path; body = written_sum x p } ∷ []
factors path (written_call x ts) = record { path = path; body = written_call x ts } ∷ []
factors path (written_merge p q) = record { path = path; body = written_merge p q } ∷ []
factors path (written_starting start p q) = record { path = path; body = written_starting start p q } ∷ []
factors path (written_around o p) = record { path = path; body = written_around o p } ∷ []

abbrev pub bodies : List Factor → List Body
bodies fs = map (λ f. f.body) fs

-- The definitions with the sorts of their parameters, the component's own term, the sorts of the variables, the definitions that the
-- component reaches, and what the equation of a place stands for.
pub record Text : Type 0 where
  pub definitions : List Piece
  pub start : Body
  pub variables : List Sort
  pub reached : List ℕ
  pub piece : Place → Piece

abbrev pub definition_in : Piece → Definition
definition_in f = record { params = variables f.params; body = f.body }

abbrev pub table_in : Text → Table
table_in t = map definition_in t.definitions

-- a call of a reached definition, with arguments of the sorts of its parameters
abbrev pub CallIsSorted : Data → Text → ℕ → List Term → Type 0
CallIsSorted g t x ts = (f : Piece) × (slice_get t.definitions x ≡ Some f) × HaveSorts g t.variables (terms_of ts) (sorts f.params) × Contains t.reached x

-- a sequential body over these variables, whose data are well sorted
abbrev pub IsSortedBody : Data → Text → List ℕ → Body → Type 0
IsSortedBody g t xs written_delta = Unit {0}
IsSortedBody g t xs (written_act m) = LabelIsOver xs m
IsSortedBody g t xs (written_choice p q) = IsSortedBody g t xs p × IsSortedBody g t xs q
IsSortedBody g t xs (written_seq p q) = IsSortedBody g t xs p × IsSortedBody g t xs q
IsSortedBody g t xs (written_cond c p q) = IsOver xs c × HasSort g t.variables c boolean × IsSortedBody g t xs p × IsSortedBody g t xs q
IsSortedBody g t xs (written_sum x p) = Declares t.variables x.var x.sort × IsSortedBody g t (x.var ∷ xs) p
IsSortedBody g t xs (written_call x ts) = AreOver xs (terms_of ts) × CallIsSorted g t x ts
IsSortedBody g t xs (written_merge p q) = ⊥
IsSortedBody g t xs (written_starting start p q) = ⊥
IsSortedBody g t xs (written_around o p) = ⊥

-- ---- what stands at a place
abbrev pub body_among : List Piece → ℕ → Body
body_among [] x = written_delta
body_among (f ∷ fs) zero = f.body
body_among (f ∷ fs) (suc x) = body_among fs x

abbrev pub body_of_owner : Text → ℕ → Body
body_of_owner t zero = t.start
body_of_owner t (suc x) = body_among t.definitions x

-- the factors from a place on: of a body at a path, with a rest behind it, further down
abbrev pub follow : Path → Body → List Factor → Path → List Factor
follow path b rest [] = factors path b ++ rest
follow path (written_seq p q) rest (false ∷ down) = follow (path ++ false ∷ []) p (factors (path ++ true ∷ []) q ++ rest) down
follow path (written_seq p q) rest (true ∷ down) = follow (path ++ true ∷ []) q rest down
follow path (written_choice p q) rest (false ∷ down) = follow (path ++ false ∷ []) p rest down
follow path (written_choice p q) rest (true ∷ down) = follow (path ++ true ∷ []) q rest down
follow path (written_cond c p q) rest (false ∷ down) = follow (path ++ false ∷ []) p rest down
follow path (written_cond c p q) rest (true ∷ down) = follow (path ++ true ∷ []) q rest down
follow path (written_sum x p) rest (false ∷ down) = follow (path ++ false ∷ []) p rest down
follow path _ rest _ = []

abbrev pub factors_from : Text → ℕ → Path → List Factor
factors_from t o [] = record { path = []; body = body_of_owner t o } ∷ []
factors_from t o (step ∷ path) = follow [] (body_of_owner t o) [] (step ∷ path)

-- what stands at a place, up to the end of its own body
abbrev pub factors_at : Text → Place → List Factor
factors_at t place = factors_from t place.owner place.path
