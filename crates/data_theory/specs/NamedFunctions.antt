-- The declared functions of each name.
use Rattle.std.specs.Prelude.{◌≡◌, ◌==◌, ℕ, suc, cond, List, [], ◌∷◌, ◌++◌, Option, map, get_or, Vec}
use Rattle.std.specs.Global.{Global}
use Rattle.data_theory.specs.declared.ids.NameId.{NameId}
use Rattle.data_theory.specs.declared.ids.FunId.{FunId}
use Rattle.data_theory.specs.declared.words.Word.{Word}
use Rattle.data_theory.specs.Keys.{Key}
use Rattle.data_theory.specs.Functions.{Function, key_of}
use Rattle.data_theory.specs.IdSymbols.{if_declared}

-- the number of a function, where it was declared with this name
abbrev pub if_named : NameId → NameId → ℕ → Option Word → List FunId
if_named n m k w = cond (m.0 == n.0) (if_declared k w) []

-- the numbers of those declared with this name, among functions that stand at this number and behind it
abbrev pub named_from : ℕ → NameId → List Function → List FunId
named_from k n [] = []
named_from k n (f ∷ fs) = if_named n f.name k f.word ++ named_from (suc k) n fs

-- the declared functions of a name, in their order
abbrev pub functions_named : List Function → NameId → List FunId
functions_named fs n = named_from 0 n fs

-- ---- the index
-- the lists in vectors
abbrev pub lists_of : List (Vec FunId Global) → List (List FunId)
lists_of vs = map (λ v. v.items) vs

-- the list of a name, where a list that isn't there is empty
abbrev pub list_at : List (List FunId) → NameId → List FunId
list_at lists n = get_or lists n.0 []

-- the index has the declared functions of each name
abbrev pub AreNamedLists : List Function → List (List FunId) → Type 0
AreNamedLists fs lists = (n : NameId) → list_at lists n ≡ functions_named fs n

-- what a table of functions keeps: the keys are those of its functions, and the lists those of their names
pub record IsIndexed (fs : List Function) (keys : List Key) (lists : List (List FunId)) : Type 0 where
  pub keyed : keys ≡ map key_of fs
  pub named : AreNamedLists fs lists
