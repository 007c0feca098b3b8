-- How many uses the rewritings of a term have, and how much fuel is enough for it.
use Rattle.std.specs.Prelude.{ℕ, suc, ◌+◌, ◌*◌, ◌≤◌, List, [], Contains}
use Rattle.data_theory.specs.Terms.{Sort, Term, Terms, variable, numeral, unknown, application, none, more}
use Rattle.data_theory.specs.Declarations.{Data, HasSort, IsData}
use Rattle.data_theory.specs.Provable.{Equation}
use Rattle.data_theory.specs.Rewriting.{GoesTo, Chain, ChainOfMoreThan, IsCovered, AreSorts}

-- the number of nodes of a term's tree
abbrev mutual
  pub nodes_of : Term → ℕ
  nodes_of (variable v) = 1
  nodes_of (numeral a z) = 1
  nodes_of (unknown d k) = 1
  nodes_of (application f ts) = suc (nodes_of_all ts)

  pub nodes_of_all : Terms → ℕ
  nodes_of_all none = 0
  nodes_of_all (more t ts) = nodes_of t + nodes_of_all ts

-- fuel that is enough for a term where no equation is written
abbrev pub enough_for : Term → ℕ
enough_for t = 4 * nodes_of t * nodes_of t + 4

-- ---- what the laws say
-- no rewriting of a term is longer than the one that finishes
abbrev pub NoChainIsLonger : Type 0
NoChainIsLonger =
    (g : Data) (own : List Equation) → ((q : Equation) → Contains own q → IsCovered q)
    → (t u : Term) (n m : ℕ) → GoesTo g own t u n → Chain g own t m → m ≤ n

-- where no equation is written, no rewriting of a term has more uses than this
abbrev pub EnoughFuelIsEnough : Type 0
EnoughFuelIsEnough =
    (g : Data) → IsData g → (vs : List Sort) → AreSorts g vs
    → (t : Term) (s : Sort) → HasSort g vs t s → (fuel : ℕ) → enough_for t ≤ fuel → ChainOfMoreThan g [] fuel t → ⊥

-- and the one that finishes has no more
abbrev pub UsesAreFew : Type 0
UsesAreFew =
    (g : Data) → IsData g → (vs : List Sort) → AreSorts g vs
    → (t : Term) (s : Sort) → HasSort g vs t s → (u : Term) (n : ℕ) → GoesTo g [] t u n → n ≤ enough_for t
