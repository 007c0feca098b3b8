-- Terms whose sorts stand in a signature.
use Rattle.std.specs.Prelude.{◌≡◌, ◌<◌, List, length, map, Option, Some, None}
use Rattle.std.specs.List.{AllByRecursion}
use Rattle.data_theory.specs.declared.ids.SortId.{SortId}
use Rattle.data_theory.specs.declared.ids.TermId.{TermId}
use Rattle.data_theory.specs.declared.words.Word.{Word}
use Rattle.data_theory.specs.Terms.{Sort, Term, Terms, variable, numeral, unknown, application, none, more}
use Rattle.data_theory.specs.Declarations.{HasSort}
use Rattle.data_theory.specs.Signature.{Sig}
use Rattle.data_theory.specs.WholeSignatures.{IsSignature}
use Rattle.data_theory.specs.IdData.{data_meant}
use Rattle.data_theory.specs.IdTrees.{Tree}
use Rattle.data_theory.specs.IdTerms.{sort_under, term_under, variable_sorts, IsTreeWithin}
use Rattle.data_typing.specs.declared.nodes.Callee.TheVariants as callees
use Rattle.data_typing.specs.declared.nodes.Overload.{Overload}
use Rattle.data_typing.specs.declared.steps.Step.{Step}
use Rattle.data_typing.specs.declared.steps.Step.TheVariants as steps
use Rattle.data_typing.specs.CodeParts.{term_at}
use Rattle.data_typing.specs.FlatSorts.{flat_sort}

-- the sort is that of a number of the signature
abbrev pub IsSortIn : Sig → Sort → Type 0
IsSortIn g s = (i : SortId) × (i.0 < length g.sorts) × (sort_under g i ≡ s)

abbrev mutual
  -- what holds of a term and of each of its subterms
  pub EachSubterm : (Term → Type 0) → Term → Type 0
  EachSubterm P (variable v) = P (variable v)
  EachSubterm P (numeral a z) = P (numeral a z)
  EachSubterm P (unknown d k) = P (unknown d k)
  EachSubterm P (application f ts) = P (application f ts) × EachSubtermOf P ts

  pub EachSubtermOf : (Term → Type 0) → Terms → Type 0
  EachSubtermOf P none = Unit {0}
  EachSubtermOf P (more t ts) = EachSubterm P t × EachSubtermOf P ts

-- the term's sort is in the signature
abbrev pub HasSortIn : Sig → Term → Type 0
HasSortIn g t = (s : Sort) → HasSort (data_meant g) (variable_sorts g) t s → IsSortIn g s

-- each subterm's sort is in the signature
abbrev pub HasItsSortsIn : Sig → Term → Type 0
HasItsSortsIn g = EachSubterm (HasSortIn g)

-- What was found of a term that is wished: it has this number, and each subterm's sort is in the signature. There is nothing where no term is
-- wished, or where a subterm of the wished one, which is well sorted, has a sort that isn't in the signature.
abbrev pub IsFoundIn : Sig → List Tree → Option Term → Option TermId → Type 0
IsFoundIn g ts want None = (t : Term) (s : Sort) → want ≡ Some t → HasSort (data_meant g) (variable_sorts g) t s → ¬ (HasItsSortsIn g t)
IsFoundIn g ts want (Some id) = (want ≡ Some (term_at g ts id)) × HasItsSortsIn g (term_at g ts id)

-- ---- law
-- of a tree over the numbers of a signature each subterm's sort is in it
abbrev pub TreesHaveTheirSortsIn : Type 0
TreesHaveTheirSortsIn = (g : Sig) → IsSignature g → (t : Tree) → IsTreeWithin g t → HasItsSortsIn g (term_under g t)

-- ---- steps in code
-- all sorts of a function are in the signature
abbrev pub HasFunctionSortsIn : Sig → Overload → Type 0
HasFunctionSortsIn g f = AllByRecursion (IsSortIn g) (map flat_sort f.arguments.items) × IsSortIn g (flat_sort f.result)

-- a built-in function has a sort that isn't in the signature
abbrev pub LacksASort : Sig → Overload → Type 0
LacksASort g f = (w : Word) × (f.callee ≡ callees.BuiltIn w) × ¬ (HasFunctionSortsIn g f)

abbrev pub StepLacksASort : Sig → Step → Type 0
StepLacksASort g (steps.Variable v) = ⊥
StepLacksASort g (steps.Numeral n) = ⊥
StepLacksASort g (steps.Apply f n) = LacksASort g f
