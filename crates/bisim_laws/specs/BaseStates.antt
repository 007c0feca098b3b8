-- The base relations of links: which states of a process a linear process has, before what is the same counts as equal.
use Rattle.std.specs.Prelude.{◌≡◌, ℕ, ◌+◌, Bool, true, false, List, [], ◌∷◌, ◌++◌, length, Option, Some, None, slice_get, pos}
use Rattle.std.specs.List.{AllByRecursion}
use Rattle.data_theory.specs.Terms.{Sort, boolean, positive, named, Term, numeral, application, function, put}
use Rattle.data_theory.specs.Environments.{bound, term_in, terms_of}
use Rattle.process_terms.specs.Theories.{Theory, Equal, Equals, IsTrue, IsFalse, IsOfSort, AreOfSorts}
use Rattle.process_terms.specs.Processes.{Around, Start, Bound, Body, Table, Process, seq, call, starting, around, close}
use Rattle.process_terms.specs.Steps.{Outcome, ended, goes_on, beside}
use Rattle.bisim_laws.specs.LinearProcesses.{Linear, variables, sorts, state_of, reading}

-- ---- a product
-- a linear process with its flag, where it can end
pub record Side : Type 0 where
  pub process : Linear
  pub flag : Option ℕ

abbrev pub flag_sorts : Option ℕ → List Sort
flag_sorts None = []
flag_sorts (Some f) = boolean ∷ []

-- whether a side has ended, by the term of its flag
pub data FlagSays (th : Theory) : Bool → List Term → Type 0 where
  no_flag : FlagSays th false []
  not_ended : {f : Term} → IsFalse th f → FlagSays th false (f ∷ [])
  has_ended : {f : Term} → IsTrue th f → FlagSays th true (f ∷ [])

-- a side with its columns, its parameters and then its flag: once it has ended the parameters are free
pub data SideAt (th : Theory) (a : Side) : Outcome → List Term → Type 0 where
  running : (ts flags : List Term) → AreOfSorts th (sorts a.process.params) ts → AreOfSorts th (flag_sorts a.flag) flags → FlagSays th false flags → SideAt th a (goes_on (state_of a.process ts)) (ts ++ flags)
  over : (ts flags : List Term) → AreOfSorts th (sorts a.process.params) ts → AreOfSorts th (flag_sorts a.flag) flags → FlagSays th true flags → SideAt th a ended (ts ++ flags)

-- two sides of which at least one is running, with the state that has the columns of both
pub data ProductState (th : Theory) (a b : Side) (l : Linear) : Process → Process → Type 0 where
  product_state : {r s : Outcome} {ts us : List Term} {p : Process} → SideAt th a r ts → SideAt th b s us → beside r s ≡ goes_on p → ProductState th a b l p (state_of l (ts ++ us))

-- ---- a product whose first step is of one kind
-- The last column says whether the first step is still to come. Until then both sides are running, and the operator stands
-- between them. Afterwards they are two sides of a product.
pub data ProductFromState (th : Theory) (o : Start) (a b : Side) (l : Linear) : Process → Process → Type 0 where
  at_first : {p q : Process} {ts us : List Term} {f : Term} → SideAt th a (goes_on p) ts → SideAt th b (goes_on q) us → IsOfSort th boolean f → IsTrue th f
      → ProductFromState th o a b l (starting o p q) (state_of l ((ts ++ us) ++ (f ∷ [])))
  begun : {r s : Outcome} {ts us : List Term} {f : Term} {p : Process} → SideAt th a r ts → SideAt th b s us → IsOfSort th boolean f → IsFalse th f → beside r s ≡ goes_on p
      → ProductFromState th o a b l p (state_of l ((ts ++ us) ++ (f ∷ [])))

-- ---- an operator around a linear process
-- with the state of the process that was made for it
pub data AroundState (th : Theory) (o : Around) (l k : Linear) : Process → Process → Type 0 where
  around_state : {ts : List Term} → AreOfSorts th (sorts l.params) ts → AroundState th o l k (around o (state_of l ts)) (state_of k ts)

-- ---- compositions along one list
-- p is the composition of pieces that P ties to the elements of a list
pub data Chain {A : Type 0} (P : Process → A → Type 0) : Process → List A → Type 0 where
  one_piece : {p : Process} {a : A} → P p a → Chain P p (a ∷ [])
  more_pieces : {p q : Process} (xs ys : List A) → Chain P p xs → Chain P q ys → Chain P (seq p q) (xs ++ ys)

pub data AlongOneList {A : Type 0} (P Q : Process → A → Type 0) : Process → Process → Type 0 where
  along_one_list : {p q : Process} {xs : List A} → Chain P p xs → Chain Q q xs → AlongOneList P Q p q

-- an equation of a Greibach form, from 0, with arguments
pub record GreibachCall : Type 0 where
  pub equation : ℕ
  pub args : List Term

pub data IsCall (form : Table) : Process → GreibachCall → Type 0 where
  is_call : {i : ℕ} {ts : List Term} → IsCall form (call form i ts) (record { equation = i; args = ts })

-- what an equation stands for in the specification: a written term over parameters with sorts
pub record Piece : Type 0 where
  pub params : List Bound
  pub body : Body

-- that term with arguments of the parameters' sorts
pub data StandsFor (th : Theory) (d : Table) (pieces : List Piece) : Process → GreibachCall → Type 0 where
  stands_for : {i : ℕ} {ts : List Term} (f : Piece) → slice_get pieces i ≡ Some f → AreOfSorts th (sorts f.params) ts
      → StandsFor th d pieces (close d (bound (variables f.params) ts) f.body) (record { equation = i; args = ts })

-- ---- columns
-- The parameters of all equations share columns: each equation has its parameters at the columns with these variables, in
-- their order. A control number stands before the columns where there are several equations.
pub record Columns : Type 0 where
  pub columns : List Bound
  pub places : List (List ℕ)
  pub control : Bool
  pub defaults : List Term  -- the closed terms of columns that an equation doesn't use

-- the number of an equation counts from 1
abbrev pub number_of : ℕ → Term
number_of i = numeral positive (pos (i + 1))

abbrev pub control_of : Bool → ℕ → List Term
control_of false i = []
control_of true i = number_of i ∷ []

-- one call, with the state that has its number and, at its columns, its arguments; the other columns are free
pub data RegularState (th : Theory) (form : Table) (c : Columns) (l : Linear) : Process → Process → Type 0 where
  regular_state : {i : ℕ} {place : List ℕ} (ts : List Term) → slice_get c.places i ≡ Some place → AreOfSorts th (sorts c.columns) ts
      → RegularState th form c l (call form i (reading (bound (variables c.columns) ts) place)) (state_of l (control_of c.control i ++ ts))

-- ---- a stack
-- the number of its sort, and of its two constructors as functions
pub record StackNames : Type 0 where
  pub sort : ℕ
  pub push : ℕ
  pub empty : ℕ

-- the columns of a call: its arguments at its places, and the closed terms elsewhere
abbrev pub columns_of : Columns → Option (List ℕ) → List Term → List Term
columns_of c None ts = c.defaults
columns_of c (Some place) ts = reading (bound place ts ++ bound (variables c.columns) c.defaults) (variables c.columns)

-- calls as frames, the first one on top
abbrev pub pushed : StackNames → Columns → List GreibachCall → Term
pushed k c [] = application (function k.empty) (terms_of [])
pushed k c (a ∷ calls) = application (function k.push) (terms_of (number_of a.equation ∷ (columns_of c (slice_get c.places a.equation) a.args ++ (pushed k c calls ∷ []))))

-- the call has as many arguments as its equation has places
pub record HasItsArguments (c : Columns) (a : GreibachCall) : Type 0 where
  pub place : List ℕ
  pub at : slice_get c.places a.equation ≡ Some place
  pub long : length a.args ≡ length place

-- a composition of calls that have their arguments, with a stack that is provably equal to their frames
pub data StackState (th : Theory) (form : Table) (k : StackNames) (c : Columns) (l : Linear) : Process → Process → Type 0 where
  stack_state : {p : Process} {calls : List GreibachCall} {t : Term} → Chain (IsCall form) p calls → AllByRecursion (HasItsArguments c) calls
      → IsOfSort th (named k.sort) (pushed k c calls) → IsOfSort th (named k.sort) t → Equal th t (pushed k c calls)
      → StackState th form k c l p (state_of l (t ∷ []))

-- ---- parameters that are dropped
-- what becomes of a parameter: it stays, it is dropped and provably equal to its initial term, or it is dropped and not needed
pub data Fate : Type 0 where
  kept : Fate
  constant : Term → Fate
  not_needed : Fate

-- the arguments before and after
pub data AfterDropping (th : Theory) : List Fate → List Term → List Term → Type 0 where
  nothing_more : AfterDropping th [] [] []
  one_kept : {fates : List Fate} {t u : Term} {ts us : List Term} → Equal th t u → AfterDropping th fates ts us → AfterDropping th (kept ∷ fates) (t ∷ ts) (u ∷ us)
  one_constant : {fates : List Fate} {t initial : Term} {ts us : List Term} → Equal th t initial → AfterDropping th fates ts us → AfterDropping th (constant initial ∷ fates) (t ∷ ts) us
  one_not_needed : {fates : List Fate} {t : Term} {ts us : List Term} → AfterDropping th fates ts us → AfterDropping th (not_needed ∷ fates) (t ∷ ts) us

pub data DroppedState (th : Theory) (fates : List Fate) (l k : Linear) : Process → Process → Type 0 where
  dropped_state : {ts us : List Term} → AreOfSorts th (sorts l.params) ts → AreOfSorts th (sorts k.params) us → AfterDropping th fates ts us → DroppedState th fates l k (state_of l ts) (state_of k us)

-- ---- sums that are solved
pub data SolvedState (th : Theory) (l k : Linear) : Process → Process → Type 0 where
  solved_state : {ts us : List Term} → AreOfSorts th (sorts l.params) ts → AreOfSorts th (sorts k.params) us → Equals th ts us → SolvedState th l k (state_of l ts) (state_of k us)

-- ---- a phase
-- Where the linear process k is sealed it has one more parameter, the phase. That is 1 up to the end and 2 behind it, and 3 once
-- the last step is done. Without a phase k is l.
abbrev pub phase_running : Term
phase_running = number_of 0

abbrev pub phase_ended : Term
phase_ended = number_of 1

abbrev pub phase_done : Term
phase_done = number_of 2

pub data SealedState (th : Theory) : Bool → Linear → Linear → Process → Process → Type 0 where
  with_phase : {l k : Linear} {ts : List Term} {t : Term} → AreOfSorts th (sorts l.params) ts → IsOfSort th positive t → Equal th t phase_running → SealedState th true l k (state_of l ts) (state_of k (ts ++ t ∷ []))
  without_phase : {l k : Linear} {ts : List Term} → AreOfSorts th (sorts l.params) ts → SealedState th false l k (state_of l ts) (state_of k ts)

-- the states that are paired with the end
pub data SealedEnd (th : Theory) : Bool → Linear → Linear → Process → Type 0 where
  in_phase_two : {l k : Linear} {t : Term} (ts : List Term) → AreOfSorts th (sorts l.params) ts → IsOfSort th positive t → Equal th t phase_ended → SealedEnd th true l k (state_of k (ts ++ t ∷ []))

-- ---- an invariant
-- provably equal arguments of which the invariant, a term over the parameters, is provably true
pub data HeldState (th : Theory) (invariant : Term) (l k : Linear) : Process → Process → Type 0 where
  held_state : {ts us : List Term} → AreOfSorts th (sorts l.params) ts → AreOfSorts th (sorts k.params) us → Equals th ts us → IsTrue th (put (term_in (bound (variables l.params) ts)) invariant)
      → HeldState th invariant l k (state_of l ts) (state_of k us)
