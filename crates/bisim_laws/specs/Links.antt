-- Links: names of relations between the states of two processes.
use Rattle.std.specs.Prelude.{Bool, List}
use Rattle.data_theory.specs.Terms.{Term}
use Rattle.process_terms.specs.Theories.{Theory}
use Rattle.process_terms.specs.Processes.{Around, Start, Table, Process}
use Rattle.bisim_laws.specs.Sameness.{Alike}
use Rattle.bisim_laws.specs.Bisimulations.{Bisimulation, Joined, Sides, SidesBegun, AroundBoth, UpTo}
use Rattle.bisim_laws.specs.Terminations.{TerminatingBisimulation, EndJoined}
use Rattle.bisim_laws.specs.LinearProcesses.{Linear}
use Rattle.bisim_laws.specs.BaseStates.{Side, ProductState, ProductFromState, AroundState, AlongOneList, IsCall, Piece, StandsFor, Columns, RegularState, StackNames, StackState, Fate, DroppedState, SolvedState, SealedState, SealedEnd, HeldState}

-- `Product`, `ProductFrom`, `Wrapped` and `Phased` are the base relations of `Beside`, `Begun`, `Under` and `Sealed`. The linear processes,
-- tables and columns are what the relation reads.
pub data Link : Type 0 where
  Same : Link
  Then : Link → Link → Link
  Product : Side → Side → Linear → Link
  Beside : Side → Side → Linear → Link → Link → Link
  ProductFrom : Start → Side → Side → Linear → Link
  Begun : Start → Side → Side → Linear → Link → Link → Link
  Wrapped : Around → Linear → Linear → Link
  Under : Around → Linear → Linear → Link → Link
  Form : Table → List Piece → Table → Link  -- the definitions, what each equation stands for, and the form
  Regular : Table → Columns → Linear → Link
  Stack : Table → StackNames → Columns → Linear → Link
  Dropped : List Fate → Linear → Linear → Link
  Solved : Linear → Linear → Link
  Held : Term → Linear → Linear → Link
  Phased : Bool → Linear → Linear → Link  -- whether there is a phase
  Sealed : Bool → Linear → Linear → Link → Link

-- a link that doesn't stand on other links
abbrev pub IsBase : Link → Type 0
IsBase (Product a b l) = Unit {0}
IsBase (ProductFrom o a b l) = Unit {0}
IsBase (Wrapped o l k) = Unit {0}
IsBase (Form d pieces form) = Unit {0}
IsBase (Regular form c l) = Unit {0}
IsBase (Stack form names c l) = Unit {0}
IsBase (Dropped fates l k) = Unit {0}
IsBase (Solved l k) = Unit {0}
IsBase (Held inv l k) = Unit {0}
IsBase (Phased b l k) = Unit {0}
IsBase _ = ⊥

-- the states that a base link pairs, before what is the same counts as equal
abbrev pub States : Theory → Link → Process → Process → Type 0
States th (Product a b l) = ProductState th a b l
States th (ProductFrom o a b l) = ProductFromState th o a b l
States th (Wrapped o l k) = AroundState th o l k
States th (Form d pieces form) = AlongOneList (StandsFor th d pieces) (IsCall form)
States th (Regular form c l) = RegularState th form c l
States th (Stack form names c l) = StackState th form names c l
States th (Dropped fates l k) = DroppedState th fates l k
States th (Solved l k) = SolvedState th l k
States th (Held inv l k) = HeldState th inv l k
States th (Phased b l k) = SealedState th b l k
States th _ = λ p q. ⊥

-- the relation of a link
abbrev pub Pairs : Theory → Link → Process → Process → Type 0
Pairs th Same = Alike th
Pairs th (Then k l) = Joined (Pairs th k) (Pairs th l)
Pairs th (Product a b l) = UpTo th (States th (Product a b l))
Pairs th (Beside a b l j k) = Joined (Sides (Pairs th j) (Pairs th k)) (UpTo th (States th (Product a b l)))
Pairs th (ProductFrom o a b l) = UpTo th (States th (ProductFrom o a b l))
Pairs th (Begun o a b l j k) = Joined (SidesBegun o (Pairs th j) (Pairs th k)) (UpTo th (States th (ProductFrom o a b l)))
Pairs th (Wrapped o l k) = UpTo th (States th (Wrapped o l k))
Pairs th (Under o l k j) = Joined (AroundBoth o (Pairs th j)) (UpTo th (States th (Wrapped o l k)))
Pairs th (Form d pieces form) = UpTo th (States th (Form d pieces form))
Pairs th (Regular form c l) = UpTo th (States th (Regular form c l))
Pairs th (Stack form names c l) = UpTo th (States th (Stack form names c l))
Pairs th (Dropped fates l k) = UpTo th (States th (Dropped fates l k))
Pairs th (Solved l k) = UpTo th (States th (Solved l k))
Pairs th (Held inv l k) = UpTo th (States th (Held inv l k))
Pairs th (Phased b l k) = UpTo th (States th (Phased b l k))
Pairs th (Sealed b l k j) = Joined (Pairs th j) (UpTo th (States th (Phased b l k)))

-- a link is good for two processes where it pairs them, and its relation is a bisimulation
pub record IsGood (th : Theory) (l : Link) (p q : Process) : Type 0 where
  pub starts : Pairs th l p q
  pub follows : Bisimulation th (Pairs th l)

-- ---- with processes that never end
-- the states that a base link pairs with the end
abbrev pub EndStates : Theory → Link → Process → Type 0
EndStates th (Phased b l k) = SealedEnd th b l k
EndStates th _ = λ q. ⊥

-- the states that a link pairs with the end
abbrev pub PairsEnd : Theory → Link → Process → Type 0
PairsEnd th (Then k l) = EndJoined (PairsEnd th k) (Pairs th l)
PairsEnd th (Phased b l k) = EndJoined (EndStates th (Phased b l k)) (Alike th)
PairsEnd th (Sealed b l k j) = EndJoined (EndStates th (Phased b l k)) (Alike th)
PairsEnd th _ = λ q. ⊥

-- a link is good with `Terminate` where it pairs the two processes, and its relation is a bisimulation with `Terminate` for the end
pub record IsGoodWithTerminate (th : Theory) (l : Link) (p q : Process) : Type 0 where
  pub starts : Pairs th l p q
  pub follows : TerminatingBisimulation th (Pairs th l) (PairsEnd th l)
