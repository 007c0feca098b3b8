-- Stored pairs.
use Rattle.std.specs.Prelude.{◌≡◌, List, Some, Contains}
use Rattle.std.specs.HashMap.{HashMap}
use Rattle.data_theory.specs.declared.ids.TermId.{TermId}
use Rattle.data_theory.specs.Provable.{Equation}
use Rattle.data_theory.specs.Rewriting.{IsCovered}
use Rattle.term_pool.specs.Bindings.{result_of}

-- each stored pair is stored still
abbrev pub KeepsPairs : {S : Type 0} → HashMap TermId TermId S → HashMap TermId TermId S → Type 0
KeepsPairs old new = (t u : TermId) → result_of old t ≡ Some u → result_of new t ≡ Some u

-- no written equation has a variable in its condition or right side that its left side hasn't
abbrev pub AreCovered : List Equation → Type 0
AreCovered own = (q : Equation) → Contains own q → IsCovered q

-- what is stored for a term is stored for itself
abbrev pub IsClosed : {S : Type 0} → HashMap TermId TermId S → Type 0
IsClosed store = (t u : TermId) → result_of store t ≡ Some u → result_of store u ≡ Some u

-- what becomes of stored pairs: each stays, and none loses the pair of its answer
abbrev pub KeepsStored : {S : Type 0} → HashMap TermId TermId S → HashMap TermId TermId S → Type 0
KeepsStored old new = KeepsPairs old new × (IsClosed old → IsClosed new)
