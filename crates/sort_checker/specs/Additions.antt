-- What elaborating adds to a signature and to a pool.
use Rattle.std.specs.Prelude.{◌≡◌, ◌<◌, ℕ, List, length, Some, slice_get}
use Rattle.data_theory.specs.declared.ids.SortId.{SortId}
use Rattle.data_theory.specs.declared.signature.Variable.{Variable}
use Rattle.data_theory.specs.Sorts.{IsAnyListOver}
use Rattle.data_theory.specs.Signature.{Sig, with_list, with_variable}
use Rattle.data_theory.specs.WholeSignatures.{IsSignature}
use Rattle.data_theory.specs.IdTerms.{IsGrown}
use Rattle.mcrl2_lexer.specs.declared.kind.Kind.TheVariants.{Identifier}
use Rattle.mcrl2_lexer.specs.Tokens.{IsToken}
use Rattle.term_pool.specs.Pools.{PoolContents, Extends}
use Rattle.sort_table.specs.SignatureVocabularies.{vocabulary_of}

-- the name of the variable is an identifier
abbrev pub HasIdentifier : Sig → Variable → Type 0
HasIdentifier g x = (t : List ℕ) × (slice_get g.texts x.name.0 ≡ Some t) × IsToken t Identifier

-- list sorts and variables are added one after the other
pub data AddsVariables (g : Sig) : Sig → Type 0 where
  nothing : AddsVariables g g
  one_list : (h : Sig) (e : SortId) → e.0 < length h.sorts → ¬ (IsAnyListOver h.sorts e) → AddsVariables g h → AddsVariables g (with_list h e)
  one_variable : (h : Sig) (x : Variable) → x.name.0 < length h.texts → HasIdentifier h x → x.sort.0 < length h.sorts → AddsVariables g h → AddsVariables g (with_variable h x)

-- Nothing else is added to the signature, and the pool keeps its terms and constants.
pub record GoesOn (g : Sig) (p : PoolContents) (h : Sig) (q : PoolContents) : Type 0 where
  pub added : AddsVariables g h
  pub kept : Extends p.trees q.trees
  pub constants : q.constants ≡ p.constants

-- what is added comes behind, and the vocabulary stays
abbrev pub AdditionsChangeNothing : Type 0
AdditionsChangeNothing = (g h : Sig) → IsSignature g → AddsVariables g h → IsSignature h × IsGrown g h × (vocabulary_of h ≡ vocabulary_of g) × (h.texts ≡ g.texts)
