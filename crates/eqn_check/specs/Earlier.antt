-- Earlier equations whose left sides may meet, in code.
use Rattle.std.specs.Prelude.{◌≡◌, ◌<◌, ◌≤◌, ◌==◌, ◌&&◌, ℕ, suc, Bool, true, false, List, length, Option, None, Some, slice_get, slice_index_or}
use Rattle.std.specs.List.{AllZip}
use Rattle.std.specs.HashMap.{HashMap, get}
use Rattle.data_theory.specs.Provable.{Equation}
use Rattle.data_theory.specs.Signature.{Sig}
use Rattle.data_theory.specs.IdData.{data_meant}
use Rattle.data_theory.specs.IdTrees.{Tree, function, more}
use Rattle.term_pool.specs.HeadTrees.{tree_at}
use Rattle.term_pool.specs.declared.terms.Equation.{Equation as Written}
use Rattle.eqn_check.specs.Exclusion.{Exclude}
use Rattle.eqn_check.specs.Judged.{AreEquationsOf, AreLinear}
use Rattle.eqn_check.specs.Rules.{LeftSidesMeet, BreaksOverlap}

-- ---- keys
abbrev pub Key : Type 0
Key = ℕ × ℕ

-- the function of a left side, and the one that its first argument begins with, or n where that is none
abbrev pub start_at : ℕ → Tree → Option Key
start_at n (function f (more (function g vs) us)) = Some (f.0, g.0)
start_at n (function f us) = Some (f.0, n)
start_at n _ = None

-- the key of the left sides of its function that begin with none
abbrev pub open_at : ℕ → Tree → Option Key
open_at n (function f us) = Some (f.0, n)
open_at n _ = None

abbrev pub IsStartOf : List Tree → ℕ → Written → Option Key → Type 0
IsStartOf ts n e o = o ≡ start_at n (tree_at ts e.left)

abbrev pub IsOpenOf : List Tree → ℕ → Written → Option Key → Type 0
IsOpenOf ts n e o = o ≡ open_at n (tree_at ts e.left)

abbrev pub AreStarts : List Tree → ℕ → List Written → List (Option Key) → Type 0
AreStarts ts n es keys = AllZip (IsStartOf ts n) es keys

abbrev pub AreOpens : List Tree → ℕ → List Written → List (Option Key) → Type 0
AreOpens ts n es keys = AllZip (IsOpenOf ts n) es keys

-- the equation at the place has the key
abbrev pub KeyAt : List (Option Key) → ℕ → Key → Type 0
KeyAt keys j key = slice_get keys j ≡ Some (Some key)

-- ---- from each equation to the last one before it
-- the last of the first n equations with the key
abbrev pub IsLast : List (Option Key) → Key → ℕ → Option ℕ → Type 0
IsLast keys key n None = (j : ℕ) → j < n → KeyAt keys j key → ⊥
IsLast keys key n (Some i) = (i < n) × KeyAt keys i key × ((j : ℕ) → i < j → j < n → KeyAt keys j key → ⊥)

abbrev pub read_at : List (Option ℕ) → ℕ → Option ℕ
read_at os k = slice_index_or os k None

-- for each of the first n equations the last one before it with the key that is asked for there
pub record ArePreviousUpTo (keys asked : List (Option Key)) (n : ℕ) (previous : List (Option ℕ)) : Type 0 where
  pub size : length previous ≡ n
  pub below : (k i : ℕ) → read_at previous k ≡ Some i → i < k
  pub exact : (k : ℕ) (key : Key) → k < n → KeyAt asked k key → IsLast keys key k (read_at previous k)

abbrev pub ArePrevious : List (Option Key) → List (Option Key) → List (Option ℕ) → Type 0
ArePrevious keys asked previous = ArePreviousUpTo keys asked (length keys) previous

abbrev pub same_key : Key → Key → Bool
same_key a b = (a.0 == b.0) && (a.1 == b.1)

-- what a map has for a key
abbrev pub last_of : {S : Type 0} → HashMap Key ℕ S → Key → Option ℕ
last_of last key = get same_key last key

abbrev pub last_if : {S : Type 0} → HashMap Key ℕ S → Option Key → Option ℕ
last_if last None = None
last_if last (Some key) = last_of last key

-- a pass over the equations: the map has the last one so far with each key
pub record PassesKeys {S : Type 0} (keys asked : List (Option Key)) (n : ℕ) (last : HashMap Key ℕ S) (previous : List (Option ℕ)) : Type 0 where
  pub previous_are : ArePreviousUpTo keys asked n previous
  pub lasts : (key : Key) → IsLast keys key n (last_of last key)

-- the map has the number for the key, if there is one, and else what it had
pub record Enters {S : Type 0} (old new : HashMap Key ℕ S) (key : Option Key) (number : ℕ) : Type 0 where
  pub here : (k : Key) → key ≡ Some k → last_of new k ≡ Some number
  pub elsewhere : (k : Key) → (key ≡ Some k → ⊥) → last_of new k ≡ last_of old k

-- what has an asked key asks for it itself
abbrev pub IsChain : List (Option Key) → List (Option Key) → Type 0
IsChain keys asked = (i k : ℕ) (key : Key) → KeyAt keys i key → KeyAt asked k key → KeyAt asked i key

-- ---- a walk back
-- behind which the equations were looked at
abbrev pub end_of : Option ℕ → ℕ
end_of None = 0
end_of (Some i) = suc i

-- of the equations with the asked key none from the place on overlaps with this one, where all up to this one are linear
abbrev pub NoneOverlapsFrom : Sig → List Tree → List Written → List (Option Key) → List (Option Key) → ℕ → ℕ → Type 0
NoneOverlapsFrom sig ts es keys asked number n =
    (own : List Equation) → AreEquationsOf sig ts es own → AreLinear (data_meant sig) own (suc number) → (q : Equation) → slice_get own number ≡ Some q
    → (key : Key) → KeyAt asked number key → (j : ℕ) (p : Equation) → n ≤ j → j < number → KeyAt keys j key → slice_get own j ≡ Some p
    → LeftSidesMeet p q → (Exclude (data_meant sig) p q → ⊥) → ⊥

pub record WalksBack (sig : Sig) (ts : List Tree) (es : List Written) (keys asked : List (Option Key)) (number : ℕ) (next : Option ℕ) : Type 0 where
  pub before : (i : ℕ) → next ≡ Some i → i < number
  pub same : (key : Key) (i : ℕ) → KeyAt asked number key → next ≡ Some i → KeyAt asked i key
  pub none : NoneOverlapsFrom sig ts es keys asked number (end_of next)

-- whether one of the equations with the asked key overlaps with this one
pub record TellsAlong (sig : Sig) (ts : List Tree) (es : List Written) (keys asked : List (Option Key)) (number : ℕ) (b : Bool) : Type 0 where
  pub some : b ≡ true → (own : List Equation) → AreEquationsOf sig ts es own → AreLinear (data_meant sig) own (suc number) → (q : Equation) → slice_get own number ≡ Some q → BreaksOverlap (data_meant sig) own number q
  pub none : b ≡ false → NoneOverlapsFrom sig ts es keys asked number 0

-- ---- all of it
pub record AreEarlier (ts : List Tree) (es : List Written) (n : ℕ) (starts opens : List (Option Key)) (of_mapping of_start of_open : List (Option ℕ)) : Type 0 where
  pub starts_are : AreStarts ts n es starts
  pub opens_are : AreOpens ts n es opens
  pub mapping_are : ArePrevious opens opens of_mapping
  pub start_are : ArePrevious starts starts of_start
  pub open_are : ArePrevious starts opens of_open
