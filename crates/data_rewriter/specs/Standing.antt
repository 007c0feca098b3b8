-- Numbers of a pool and of a signature, and what stands under them.
use Rattle.std.specs.Prelude.{◌≡◌, ◌<◌, length, map, [], ◌∷◌}
use Rattle.std.specs.Prelude.{List}
use Rattle.data_theory.specs.declared.ids.SortId.{SortId}
use Rattle.data_theory.specs.declared.ids.FunId.{FunId}
use Rattle.data_theory.specs.declared.ids.TermId.{TermId}
use Rattle.data_theory.specs.Terms.{Sort, Symbol, Term, Terms, none, more}
use Rattle.data_theory.specs.Signature.{Sig}
use Rattle.data_theory.specs.IdTrees.{Tree}
use Rattle.data_theory.specs.IdTerms.{term_under, symbol_under, sort_under, IsTreeWithin}
use Rattle.term_pool.specs.HeadTrees.{tree_at, IsIn}

abbrev pub term_at : Sig → List Tree → TermId → Term
term_at sig ts id = term_under sig (tree_at ts id)

-- a term of the pool over the sorts and functions of the signature
pub record IsTerm (sig : Sig) (ts : List Tree) (id : TermId) : Type 0 where
  pub inside : IsIn ts id
  pub within : IsTreeWithin sig (tree_at ts id)

-- it is this term
pub record StandsFor (sig : Sig) (ts : List Tree) (id : TermId) (t : Term) : Type 0 where
  pub term : IsTerm sig ts id
  pub is : term_at sig ts id ≡ t

-- a function of the signature, which is this symbol
pub record IsSymbolOf (sig : Sig) (f : FunId) (y : Symbol) : Type 0 where
  pub inside : f.0 < length sig.functions
  pub is : symbol_under sig f ≡ y

-- a sort of the signature, which is this one
pub record IsSortOf (sig : Sig) (s : SortId) (a : Sort) : Type 0 where
  pub inside : s.0 < length sig.sorts
  pub is : sort_under sig s ≡ a

abbrev pub listed_at : Sig → List Tree → List TermId → List Term
listed_at sig ts ids = map (term_at sig ts) ids

abbrev pub terms_of : List Term → Terms
terms_of [] = none
terms_of (t ∷ ts) = more t (terms_of ts)
