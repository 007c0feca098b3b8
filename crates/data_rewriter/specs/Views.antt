-- What a term shows to the equation of a root over it.
use Rattle.std.specs.Prelude.{◌≡◌, ◌<◌, ◌^◌, ℕ, List, length}
use Rattle.data_theory.specs.declared.ids.FunId.{FunId}
use Rattle.data_theory.specs.Arithmetic.{magnitude}
use Rattle.data_theory.specs.Whole.{whole_of}
use Rattle.data_theory.specs.Terms as terms
use Rattle.data_theory.specs.Terms.{Sort, Symbol, Term, Terms, application, none, more, numeral}
use Rattle.data_theory.specs.Declarations.{Data, function_at, constructor}
use Rattle.data_theory.specs.Equations.{trueᵗ, falseᵗ, !ᵗ◌, emptyᵗ, consᵗ}
use Rattle.data_theory.specs.Signature.{Sig}
use Rattle.data_theory.specs.IdData.{data_meant}
use Rattle.data_theory.specs.IdTrees.{Tree}
use Rattle.data_theory.specs.IdTerms.{symbol_under}
use Rattle.data_rewriter.specs.declared.signs.Sign.{Sign}
use Rattle.term_pool.specs.HeadTrees.{IsIn}
use Rattle.data_rewriter.specs.declared.views.Parts.{Parts}
use Rattle.data_rewriter.specs.declared.views.View.{View}
use Rattle.data_rewriter.specs.declared.views.View.TheVariants.{Other, True, False, Not, Number, Empty, Cons, Made}
use Rattle.data_rewriter.specs.Standing.{StandsFor, IsSymbolOf, IsSortOf}
use Rattle.data_rewriter.specs.Signs.{HasSign, sign_at}

-- each function of the signature has its sign
abbrev pub AreSigns : Sig → List Sign → Type 0
AreSigns sig signs = (f : FunId) → f.0 < length sig.functions → HasSign sig (symbol_under sig f) (sign_at signs f)

-- none of the other forms
abbrev pub IsOtherTerm : Data → Term → Type 0
IsOtherTerm g (numeral a z) = ⊥
IsOtherTerm g (application terms.truth none) = ⊥
IsOtherTerm g (application terms.falsity none) = ⊥
IsOtherTerm g (application terms.negation (more x none)) = ⊥
IsOtherTerm g (application (terms.empty s) none) = ⊥
IsOtherTerm g (application (terms.cons s) (more x (more l none))) = ⊥
IsOtherTerm g (application (terms.function k) ts) = (function_at g k).role ≡ constructor → ⊥
IsOtherTerm g _ = Unit {0}

abbrev pub IsView : Sig → List Tree → Term → View → Type 0
IsView sig ts t Other = IsOtherTerm (data_meant sig) t
IsView sig ts t True = t ≡ trueᵗ
IsView sig ts t False = t ≡ falseᵗ
IsView sig ts t (Not x) = (y : Term) × StandsFor sig ts x y × (t ≡ !ᵗ y)
IsView sig ts t (Number s n) = (a : Sort) × IsSortOf sig s a × (t ≡ numeral a (whole_of n)) × (magnitude (whole_of n) < 2 ^ 128)
IsView sig ts t (Empty s) = (a : Sort) × IsSortOf sig s a × (t ≡ emptyᵗ a)
IsView sig ts t (Cons f s x l) = (a : Sort) × IsSortOf sig s a × IsSymbolOf sig f (terms.cons a) × (y m : Term) × StandsFor sig ts x y × StandsFor sig ts l m × (t ≡ consᵗ a y m)
IsView sig ts t (Made f) = (k : ℕ) × IsSymbolOf sig f (terms.function k) × ((function_at (data_meant sig) k).role ≡ constructor) × (us : Terms) × (t ≡ application (terms.function k) us)

-- the ids of a view are in the pool
abbrev pub IsViewIn : List Tree → View → Type 0
IsViewIn ts (Not x) = IsIn ts x
IsViewIn ts (Cons f s x l) = IsIn ts x × IsIn ts l
IsViewIn ts _ = Unit {0}

-- an application of the constructor `|>` over this sort
abbrev pub IsCons : Sort → Term → Type 0
IsCons a t = (x l : Term) × (t ≡ consᵗ a x l)

-- the parts of such an application
pub record HasParts (sig : Sig) (ts : List Tree) (a : Sort) (t : Term) (p : Parts) : Type 0 where
  pub first : Term
  pub rest : Term
  pub cons : IsSymbolOf sig p.cons (terms.cons a)
  pub first_is : StandsFor sig ts p.first first
  pub rest_is : StandsFor sig ts p.rest rest
  pub is : t ≡ consᵗ a first rest

-- an application of a constructor to these arguments
pub record IsMadeBy (sig : Sig) (f : FunId) (t : Term) : Type 0 where
  pub number : ℕ
  pub arguments : Terms
  pub symbol : IsSymbolOf sig f (terms.function number)
  pub constructs : (function_at (data_meant sig) number).role ≡ constructor
  pub is : t ≡ application (terms.function number) arguments
