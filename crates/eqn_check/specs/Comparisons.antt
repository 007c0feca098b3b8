-- What parts of conditions say of two terms, in code.
use Rattle.std.specs.Prelude.{◌≡◌, ◌<◌, Bool, true, false, Option, None, Some, List}
use Rattle.data_theory.specs.declared.ids.TermId.{TermId}
use Rattle.data_theory.specs.declared.ids.FunId.{FunId}
use Rattle.data_theory.specs.Terms as terms
use Rattle.data_theory.specs.Terms.{Symbol, Term}
use Rattle.data_theory.specs.Signature.{Sig}
use Rattle.data_theory.specs.IdTrees.{Tree, function, none, more}
use Rattle.term_pool.specs.HeadTrees.{tree_at, IsIn}
use Rattle.eqn_check.specs.declared.signs.Sign.{Sign}
use Rattle.eqn_check.specs.declared.signs.Sign.TheVariants as signs
use Rattle.eqn_check.specs.declared.comparisons.Relation.{Relation}
use Rattle.eqn_check.specs.declared.comparisons.Relation.TheVariants as relations
use Rattle.eqn_check.specs.declared.comparisons.Comparison.{Comparison}
use Rattle.eqn_check.specs.declared.filled.FilledTerm.{FilledTerm}
use Rattle.eqn_check.specs.declared.filled.Opposites.{Opposites}
use Rattle.eqn_check.specs.Conditions as said
use Rattle.eqn_check.specs.Conditions.{Reading, reading}
use Rattle.eqn_check.specs.Fillings.{filled_at}
use Rattle.eqn_check.specs.Judged.{IsTerm}

-- ---- signs
abbrev pub sign_of : Symbol → Sign
sign_of (terms.comparison terms.less s) = signs.Less
sign_of (terms.comparison terms.at_most s) = signs.AtMost
sign_of (terms.comparison terms.greater s) = signs.Greater
sign_of (terms.comparison terms.at_least s) = signs.AtLeast
sign_of (terms.equality s) = signs.Equal
sign_of (terms.inequality s) = signs.Different
sign_of terms.conjunction = signs.And
sign_of terms.negation = signs.Not
sign_of terms.falsity = signs.False
sign_of (terms.empty s) = signs.Empty
sign_of (terms.cons s) = signs.Cons
sign_of (terms.arithmetic terms.subtract ss to) = signs.Minus
sign_of (terms.minus s) = signs.Minus
sign_of (terms.arithmetic terms.to_positive ss to) = signs.ToPositive
sign_of (terms.arithmetic terms.to_natural ss to) = signs.ToNatural
sign_of (terms.tail s) = signs.Tail
sign_of (terms.rtail s) = signs.Rtail
sign_of _ = signs.Other

-- both are `[]`, or both `|>`
abbrev pub are_of_lists : Sign → Sign → Bool
are_of_lists signs.Empty signs.Empty = true
are_of_lists signs.Cons signs.Cons = true
are_of_lists _ _ = false

-- ---- comparisons
abbrev pub relation_told : Relation → said.Relation
relation_told relations.Below = said.below
relation_told relations.UpTo = said.up_to
relation_told relations.Equal = said.equal
relation_told relations.Different = said.different

abbrev pub tells_equal : Relation → Bool
tells_equal relations.Equal = true
tells_equal _ = false

-- no term is so related to itself
abbrev pub tells_strict : Relation → Bool
tells_strict relations.Below = true
tells_strict relations.Different = true
tells_strict _ = false

-- they can't both be true of the same sides, in the other order
abbrev pub are_contrary_turned : Relation → Relation → Bool
are_contrary_turned relations.Equal relations.Different = true
are_contrary_turned relations.Below relations.Equal = true
are_contrary_turned relations.Below relations.Below = true
are_contrary_turned relations.Below relations.UpTo = true
are_contrary_turned _ _ = false

-- nor in the same order
abbrev pub are_contrary_in_order : Relation → Relation → Bool
are_contrary_in_order relations.Equal relations.Different = true
are_contrary_in_order relations.Below relations.Equal = true
are_contrary_in_order _ _ = false

-- what a sign says of two terms
abbrev pub comparison_by : Sign → FilledTerm → FilledTerm → Option Comparison
comparison_by signs.Less u v = Some (record { relation = relations.Below; one = u; other = v })
comparison_by signs.AtMost u v = Some (record { relation = relations.UpTo; one = u; other = v })
comparison_by signs.Greater u v = Some (record { relation = relations.Below; one = v; other = u })
comparison_by signs.AtLeast u v = Some (record { relation = relations.UpTo; one = v; other = u })
comparison_by signs.Equal u v = Some (record { relation = relations.Equal; one = u; other = v })
comparison_by signs.Different u v = Some (record { relation = relations.Different; one = u; other = v })
comparison_by _ u v = None

abbrev pub meant_reading : Sig → List Tree → Opposites → Comparison → Reading
meant_reading sig ts o c = record { relation = relation_told c.relation; one = filled_at sig ts o c.one; other = filled_at sig ts o c.other }

-- both are terms
pub record AreComparable (sig : Sig) (ts : List Tree) (c : Comparison) : Type 0 where
  pub one : IsTerm sig ts c.one.term
  pub other : IsTerm sig ts c.other.term

-- this is what the part says
pub record IsComparisonOf (sig : Sig) (ts : List Tree) (o : Opposites) (part : FilledTerm) (c : Comparison) : Type 0 where
  pub within : AreComparable sig ts c
  pub reads : reading (filled_at sig ts o part) ≡ Some (meant_reading sig ts o c)

-- ---- terms with two arguments
abbrev pub IsNotBinary : Tree → Type 0
IsNotBinary t = (f : FunId) (x y : Tree) → t ≡ function f (more x (more y none)) → ⊥

pub record IsSides (ts : List Tree) (term : TermId) (f : FunId) (one other : TermId) : Type 0 where
  pub is : tree_at ts term ≡ function f (more (tree_at ts one) (more (tree_at ts other) none))
  pub one_in : IsIn ts one
  pub other_in : IsIn ts other
  pub other_less : other.0 < term.0
