-- What is still to be rewritten at a place, and how far a place has come.
use Rattle.std.specs.Prelude.{◌≢◌, ℕ, ◌+◌, ◌<◌, List, [], ◌∷◌, ◌++◌, length}
use Rattle.data_theory.specs.Terms.{Symbol, Term, application}
use Rattle.data_theory.specs.Declarations.{Data}
use Rattle.data_theory.specs.Equations.{trueᵗ}
use Rattle.data_theory.specs.Provable.{Equation}
use Rattle.data_rewriter.specs.Standing.{terms_of}
use Rattle.data_theory.specs.Rewriting.{lines, Applies, FirstDecides, GoesTo, ArgumentsGoTo, FromEquation, Chain, EquationChain}

-- a term that is still to be rewritten, or a root at which the equations from this number on are still to be tried
pub data Place : Type 0 where
  whole : Term → Place
  from_equation : ℕ → Term → Place

-- the place goes to this term in so many uses
abbrev pub Yields : Data → List Equation → Place → Term → ℕ → Type 0
Yields g own (whole t) u n = GoesTo g own t u n
Yields g own (from_equation k t) u n = FromEquation g own k t u n

-- a chain of so many uses starts there
abbrev pub Begins : Data → List Equation → Place → ℕ → Type 0
Begins g own (whole t) n = Chain g own t n
Begins g own (from_equation k t) n = EquationChain g own k t n

-- the first place has come to the second one in n uses
pub record Leads (g : Data) (own : List Equation) (p q : Place) (n : ℕ) : Type 0 where
  pub goes : (u : Term) (m : ℕ) → Yields g own q u m → Yields g own p u (n + m)
  pub chain : (m : ℕ) → Begins g own q m → Begins g own p (n + m)

-- A pending place, with the term with which it began: an application of which some arguments are done, one is in hand and the others wait; or
-- a root and an equation that applies there, while its condition is in hand
pub data Pending : Type 0 where
  applying : Term → Symbol → List Term → List Term → Pending
  deciding : Term → ℕ → Term → Term → Pending

-- The pending places wait for the term in hand. Up to it, the rewriting of the origin has this many uses.
pub data Waits (g : Data) (own : List Equation) (origin : Term) : List Pending → Term → ℕ → Type 0 where
  at_the_origin : Waits g own origin [] origin 0
  in_a_place : {below : List Pending} {start hand : Term} {f : Symbol} {news later : List Term} {n m k : ℕ}
      → (olds : List Term)
      → Waits g own origin below start n
      → Leads g own (whole start) (whole (application f (terms_of (olds ++ hand ∷ later)))) m
      → ArgumentsGoTo g own (terms_of olds) (terms_of news) k
      → (FirstDecides f (terms_of news) → ⊥)
      → Waits g own origin (applying start f news later ∷ below) hand (n + (m + k))
  in_a_condition : {below : List Pending} {start t c r : Term} {e x n m : ℕ}
      → Waits g own origin below start n
      → Leads g own (whole start) (from_equation e t) m
      → e < lines + length own
      → Applies g own e t c r x
      → c ≢ trueᵗ
      → Waits g own origin (deciding start e t r ∷ below) c (n + (m + x))
