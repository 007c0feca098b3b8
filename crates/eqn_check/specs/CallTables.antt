-- What the equations in code call, and which argument places fall in them.
use Rattle.std.specs.Prelude.{◌≡◌, ◌<◌, ◌↔◌, ◌⊎◌, ℕ, zero, suc, Bool, true, false, List, [], ◌∷◌, length, Option, None, Some, slice_get, slice_index_or}
use Rattle.std.specs.List.{All, AllZip, Contains}
use Rattle.std.specs.Global.{Vec}
use Rattle.data_theory.specs.declared.ids.FunId.{FunId}
use Rattle.data_theory.specs.declared.ids.TermId.{TermId}
use Rattle.data_theory.specs.declared.ids.VarId.{VarId}
use Rattle.data_theory.specs.Terms.{variables_of}
use Rattle.data_theory.specs.Functions.{Function, arguments_of}
use Rattle.data_theory.specs.Signature.{Sig}
use Rattle.data_theory.specs.IdData.{data_meant}
use Rattle.data_theory.specs.IdTerms.{symbol_under, term_under, terms_under}
use Rattle.data_theory.specs.IdTrees.{Tree, Trees, variable, function, none, more}
use Rattle.term_pool.specs.HeadTrees.{tree_at}
use Rattle.term_pool.specs.declared.terms.Equation.{Equation as Written}
use Rattle.graphs.specs.Graphs.{HasEdge, HasCycle, IsPath}
use Rattle.eqn_check.specs.declared.calls.EquationCalls.{EquationCalls}
use Rattle.eqn_check.specs.Calls.{ArgumentShrinks, ArgumentFalls}
use Rattle.eqn_check.specs.Counting.{lessened}
use Rattle.eqn_check.specs.CallTrees.{CallIn, ListsCalls}
use Rattle.eqn_check.specs.Judged.{term_at, IsTerm}
use Rattle.eqn_check.specs.Patterns.{IsConstructor, StandsUnder}
use Rattle.eqn_check.specs.Roles.{IsMappingSymbol}

-- ---- calls
-- the calls of mappings in an equation's condition, and in its right side
pub record ListsEquationCalls (sig : Sig) (ts : List Tree) (e : Written) (found : EquationCalls) : Type 0 where
  pub condition : ListsCalls sig ts (tree_at ts e.cond) found.condition.items
  pub right : ListsCalls sig ts (tree_at ts e.right) found.right.items

abbrev pub ListAllCalls : Sig → List Tree → List Written → List EquationCalls → Type 0
ListAllCalls sig ts es calls = AllZip (ListsEquationCalls sig ts) es calls

-- one of these calls is of the function b, which isn't f
abbrev pub CallsOther : List Tree → FunId → List TermId → ℕ → Type 0
CallsOther ts f calls b = (c : TermId) × Contains calls c × ((us : Trees) × (tree_at ts c ≡ function (record { 0 = b }) us)) × (b ≡ f.0 → ⊥)

-- one of these calls is of the function
abbrev pub CallsItself : List Tree → FunId → List TermId → Type 0
CallsItself ts f calls = (c : TermId) × Contains calls c × ((us : Trees) × (tree_at ts c ≡ function f us))

-- the function is called in the equation, with these arguments
abbrev pub StandsIn : List Tree → Written → FunId → Trees → Type 0
StandsIn ts e h us = CallIn h us (tree_at ts e.cond) ⊎ CallIn h us (tree_at ts e.right)

-- the left side is this mapping, applied to these arguments
pub record IsLeftOf (sig : Sig) (ts : List Tree) (e : Written) (f : FunId) (ps : Trees) : Type 0 where
  pub is : tree_at ts e.left ≡ function f ps
  pub is_mapping : IsMappingSymbol (data_meant sig) (symbol_under sig f)

-- among the first n equations is one of the mapping a that calls the mapping b, another one
pub record CallsAmong (sig : Sig) (ts : List Tree) (es : List Written) (n a b : ℕ) : Type 0 where
  pub place : ℕ
  pub below : place < n
  pub equation : Written
  pub stands : slice_get es place ≡ Some equation
  pub patterns : Trees
  pub left : IsLeftOf sig ts equation (record { 0 = a }) patterns
  pub arguments : Trees
  pub calls : StandsIn ts equation (record { 0 = b }) arguments
  pub is_mapping : IsMappingSymbol (data_meant sig) (symbol_under sig (record { 0 = b }))
  pub other : b ≡ a → ⊥

-- the edges are the calls of other mappings by the first n equations
pub record AreEdgesUpTo (sig : Sig) (ts : List Tree) (es : List Written) (n : ℕ) (edges : List (Vec ℕ)) : Type 0 where
  pub size : length edges ≡ length sig.functions
  pub exact : (a b : ℕ) → HasEdge edges a b ↔ CallsAmong sig ts es n a b

-- one of the calls that aren't of f itself is of a function that leads to f
abbrev pub CallsRoundTo : List Tree → List (Vec ℕ) → FunId → EquationCalls → Type 0
CallsRoundTo ts edges f found =
    (b : ℕ) × (CallsOther ts f found.condition.items b ⊎ CallsOther ts f found.right.items b) × ((xs : List ℕ) × IsPath (HasEdge edges) b xs f.0)

-- ---- variables under constructors
-- the tree is a constructor, applied
abbrev pub IsConstructorAt : Sig → Tree → Type 0
IsConstructorAt sig (function f us) = IsConstructor (data_meant sig) (symbol_under sig f)
IsConstructorAt sig _ = ⊥

abbrev pub Marked : Type 0
Marked = TermId × Bool

abbrev pub with_mark : Bool → TermId → Marked
with_mark b t = (t, b)

-- the variables that stand in an argument of a constructor in the term
abbrev pub AreBelow : Sig → List Tree → TermId → List VarId → Type 0
AreBelow sig ts term found = (v : VarId) → Contains found v ↔ StandsUnder (data_meant sig) v.0 (term_at sig ts term)

-- the variable does so in the term, or stands in it at all where a constructor stands above the term
abbrev pub Arises : Sig → List Tree → ℕ → Marked → Type 0
Arises sig ts x p = StandsUnder (data_meant sig) x (term_at sig ts p.0) ⊎ ((p.1 ≡ true) × Contains (variables_of (term_at sig ts p.0)) x)

-- a walk: what stands in an argument of a constructor was found, or arises from a term that waits
pub record WalksBelow (sig : Sig) (ts : List Tree) (term : TermId) (waiting : List Marked) (found : List VarId) : Type 0 where
  pub within : All (λ (p : Marked). IsTerm sig ts p.0) waiting
  pub sound : (v : VarId) → Contains found v → StandsUnder (data_meant sig) v.0 (term_at sig ts term)
  pub arising : (v : VarId) (p : Marked) → Contains waiting p → Arises sig ts v.0 p → StandsUnder (data_meant sig) v.0 (term_at sig ts term)
  pub all : (v : VarId) → StandsUnder (data_meant sig) v.0 (term_at sig ts term) → Contains found v ⊎ ((p : Marked) × Contains waiting p × Arises sig ts v.0 p)

-- those of each of these terms
abbrev pub AllBelow : Sig → List Tree → List TermId → List (List VarId) → Type 0
AllBelow sig ts terms sets = AllZip (AreBelow sig ts) terms sets

-- ---- places that fall
abbrev pub place_in : Trees → ℕ → Option Tree
place_in none k = None
place_in (more t us) zero = Some t
place_in (more t us) (suc k) = place_in us k

abbrev pub argument_at : Tree → ℕ → Option Tree
argument_at (function f us) k = place_in us k
argument_at _ k = None

-- the call's argument at the place is a variable of the set there
abbrev pub ShrinksInCall : List Tree → List (List VarId) → TermId → ℕ → Type 0
ShrinksInCall ts sets call k = (v : VarId) × (argument_at (tree_at ts call) k ≡ Some (variable v)) × ((set : List VarId) × (slice_get sets k ≡ Some set) × Contains set v)

-- the call's argument at the place is less than the variable there
abbrev pub CountsDownInCall : Sig → List Tree → List (Option VarId) → TermId → ℕ → Type 0
CountsDownInCall sig ts counted call k =
    (v : VarId) × (slice_get counted k ≡ Some (Some v)) × ((t : Tree) × (argument_at (tree_at ts call) k ≡ Some t) × (lessened (term_under sig t) ≡ Some v.0))

abbrev pub FallsInCall : Sig → List Tree → List (List VarId) → List (Option VarId) → TermId → ℕ → Type 0
FallsInCall sig ts sets counted call k = ShrinksInCall ts sets call k ⊎ CountsDownInCall sig ts counted call k

-- in all of these calls of the function it is so
abbrev pub FallsInCalls : Sig → List Tree → List (List VarId) → List (Option VarId) → FunId → List TermId → ℕ → Type 0
FallsInCalls sig ts sets counted f calls k = (c : TermId) → Contains calls c → ((us : Trees) × (tree_at ts c ≡ function f us)) → FallsInCall sig ts sets counted c k

-- the place falls in all calls of the function in the condition, and in all of them in the right side
pub record FallsFrom (sig : Sig) (ts : List Tree) (e : Written) (f : FunId) (ps : Trees) (k : ℕ) : Type 0 where
  pub condition : (us : Trees) → CallIn f us (tree_at ts e.cond) → ArgumentShrinks (data_meant sig) k (terms_under sig ps) (terms_under sig us)
  pub right : (us : Trees) → CallIn f us (tree_at ts e.right) → ArgumentFalls (data_meant sig) (term_at sig ts e.cond) k (terms_under sig ps) (terms_under sig us)

-- the place of f falls in all its own calls in the equation
abbrev pub FallsInEquation : Sig → List Tree → Written → FunId → ℕ → Type 0
FallsInEquation sig ts e f k = (ps : Trees) → IsLeftOf sig ts e f ps → FallsFrom sig ts e f ps k

abbrev pub FallsAmong : Sig → List Tree → List Written → ℕ → FunId → ℕ → Type 0
FallsAmong sig ts es n f k = (j : ℕ) (e : Written) → j < n → slice_get es j ≡ Some e → FallsInEquation sig ts e f k

-- ---- marks of places
abbrev pub IsMarked : List Bool → ℕ → Type 0
IsMarked marks k = slice_index_or marks k false ≡ true

-- just the marks at places of this kind stay
pub record KeepsMarks (old new : List Bool) (Is : ℕ → Type 0) : Type 0 where
  pub size : length new ≡ length old
  pub exact : (k : ℕ) → IsMarked new k ↔ (IsMarked old k × Is k)

-- the marks of a function
abbrev pub marks_of : List (Vec Bool) → ℕ → List Bool
marks_of [] a = []
marks_of (v ∷ vs) zero = v.items
marks_of (v ∷ vs) (suc a) = marks_of vs a

-- a mark for each argument place of the first n functions
pub record HaveAllMarks (sig : Sig) (n : ℕ) (places : List (Vec Bool)) : Type 0 where
  pub size : length places ≡ n
  pub exact : (f : ℕ) (h : Function) → f < n → slice_get sig.functions f ≡ Some h → (k : ℕ) → IsMarked (marks_of places f) k ↔ (k < length (arguments_of h))

-- the marks of each mapping are at the places that fall in the first n equations
pub record AreFallingUpTo (sig : Sig) (ts : List Tree) (es : List Written) (n : ℕ) (places : List (Vec Bool)) : Type 0 where
  pub size : length places ≡ length sig.functions
  pub exact : (f : FunId) (h : Function) → slice_get sig.functions f.0 ≡ Some h → IsMappingSymbol (data_meant sig) (symbol_under sig f)
      → (k : ℕ) → IsMarked (marks_of places f.0) k ↔ ((k < length (arguments_of h)) × FallsAmong sig ts es n f k)

-- ---- all of it
pub record AreCalls (sig : Sig) (ts : List Tree) (es : List Written) (lists : List EquationCalls) (edges : List (Vec ℕ)) (cyclic : Bool) (falling : List (Vec Bool)) : Type 0 where
  pub lists_are : ListAllCalls sig ts es lists
  pub edges_are : AreEdgesUpTo sig ts es (length es) edges
  pub acyclic : cyclic ≡ false → HasCycle (HasEdge edges) → ⊥
  pub falling_are : AreFallingUpTo sig ts es (length es) falling

abbrev pub HasMark : List Bool → Type 0
HasMark marks = (k : ℕ) × IsMarked marks k
