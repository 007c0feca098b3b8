-- What the tables of a rewriter say of a signature.
use Rattle.std.specs.Prelude.{ℕ, List, [], ◌∷◌, map, drop, get_or}
use Rattle.data_theory.specs.declared.ids.FunId.{FunId}
use Rattle.data_theory.specs.Terms.{Sort, equality, function, Term}
use Rattle.data_theory.specs.Declarations.{function_at}
use Rattle.data_theory.specs.Equations.{all_equal}
use Rattle.data_theory.specs.Signature.{Sig}
use Rattle.data_theory.specs.IdData.{data_meant}
use Rattle.data_theory.specs.WholeSignatures.{IsSignature}
use Rattle.data_rewriter.specs.declared.tables.Tables.{Tables}
use Rattle.data_rewriter.specs.Standing.{IsSymbolOf, terms_of}
use Rattle.data_rewriter.specs.Views.{AreSigns}

-- the equalities of these sorts, in their order
abbrev pub AreEqualities : Sig → List FunId → List Sort → Type 0
AreEqualities sig [] [] = Unit {0}
AreEqualities sig (f ∷ fs) (a ∷ as') = IsSymbolOf sig f (equality a) × AreEqualities sig fs as'
AreEqualities sig [] (a ∷ as') = ⊥
AreEqualities sig (f ∷ fs) [] = ⊥

-- the equalities that the tables have for a function's arguments
abbrev pub places_at : Tables → FunId → List FunId
places_at tables f = get_or (map (λ v. v.items) tables.places.items) f.0 []

-- the tables are those of the signature
pub record AreSignTables (tables : Tables) (sig : Sig) : Type 0 where
  pub signature : IsSignature sig
  pub signs : AreSigns sig tables.signs.items
  pub places : (f : FunId) (c : ℕ) → IsSymbolOf sig f (function c) → AreEqualities sig (places_at tables f) (function_at (data_meant sig) c).arguments

-- the equalities of two lists of arguments from the place k on, joined to the right
abbrev pub equal_from : ℕ → List Sort → List Term → List Term → Term
equal_from k ss us vs = all_equal (drop k ss) (terms_of (drop k us)) (terms_of (drop k vs))
