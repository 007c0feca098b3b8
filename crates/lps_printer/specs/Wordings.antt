-- How terms are worded: by the names of a signature, and the constants that stand in the place of empty lists.
use Rattle.std.specs.Prelude.{◌≡◌, ℕ, Bool, true, false, List, length, take, Option, Some, None, slice_get, get_or}
use Rattle.data_theory.specs.declared.ids.VarId.{VarId}
use Rattle.data_theory.specs.declared.ids.FunId.{FunId}
use Rattle.data_theory.specs.declared.ids.SortId.{SortId}
use Rattle.data_theory.specs.declared.ids.TermId.{TermId}
use Rattle.data_theory.specs.declared.signature.Variable.{Variable}
use Rattle.data_theory.specs.declared.words.ListWord.TheVariants as lists
use Rattle.data_theory.specs.declared.words.Word.TheVariants as words
use Rattle.data_theory.specs.Terms.{Sort, Term}
use Rattle.data_theory.specs.Functions.{Function}
use Rattle.data_theory.specs.Signature.{Sig}
use Rattle.data_theory.specs.IdSymbols.{element_of, declared_from}
use Rattle.data_theory.specs.IdTerms.{sort_under, term_under}
use Rattle.data_theory.specs.IdTrees.{Tree}
use Rattle.data_theory.specs.IdTreeSorts.{HasTreeSort}
use Rattle.term_pool.specs.HeadTrees.{tree_at, IsIn}
use Rattle.lps_printer.specs.PrintedExpressions.{Expression}
use Rattle.lps_printer.specs.WrittenTerms.{Names, written}
use Rattle.lps_printer.specs.EmptyLists.{filled}

pub record Wording : Type 0 where
  pub names : Names
  -- the number of the constant for the empty list over a sort, where there is one
  pub constant : Sort → Option ℕ

-- a term in an open place, and in a place of declared sort
abbrev pub opened : Wording → Term → Expression
opened w t = (written w.names (filled w.constant w.names.once t).opened).opened

abbrev pub placed : Wording → Term → Expression
placed w t = (written w.names (filled w.constant w.names.once t).placed).placed

abbrev pub in_place : Wording → Bool → Term → Expression
in_place w true t = placed w t
in_place w false t = opened w t

-- ---- by the tables of a signature
-- how many functions are declared in front of this one
abbrev pub place_of : Sig → FunId → ℕ
place_of g f = length (declared_from 0 (take f.0 g.functions))

-- the constant has the name of this function
pub data IsConstantOf (g : Sig) (w : Wording) : Option ℕ → Option FunId → Type 0 where
  no_constant : IsConstantOf g w None None
  a_constant : {k : ℕ} {i : FunId} {e : Function} → slice_get g.functions i.0 ≡ Some e → slice_get g.texts e.name.0 ≡ Some (w.names.function k) → IsConstantOf g w (Some k) (Some i)

-- The names are those of the signature. For each function a table says whether its name is declared once and isn't built in, and
-- another one has the constant for each `[]`.
pub record IsWordedBy (g : Sig) (once : List Bool) (constants : List (Option FunId)) (w : Wording) : Type 0 where
  pub variables : (v : VarId) (x : Variable) → slice_get g.variables v.0 ≡ Some x → slice_get g.texts x.name.0 ≡ Some (w.names.variable v.0)
  pub functions : (f : FunId) (e : Function) → slice_get g.functions f.0 ≡ Some e → e.word ≡ None → slice_get g.texts e.name.0 ≡ Some (w.names.function (place_of g f))
  pub once_declared : (f : FunId) (e : Function) → slice_get g.functions f.0 ≡ Some e → e.word ≡ None → w.names.once (place_of g f) ≡ get_or once f.0 false
  pub empty_lists : (f : FunId) (e : Function) → slice_get g.functions f.0 ≡ Some e → e.word ≡ Some (words.List lists.Empty)
      → IsConstantOf g w (w.constant (element_of (sort_under g e.result))) (get_or constants f.0 None)

-- ---- terms of a pool
-- the term of a number
abbrev pub term_of : Sig → List Tree → TermId → Term
term_of g ts id = term_under g (tree_at ts id)

-- the pool has the term, and it fits its functions' sorts
pub record IsSortedTerm (g : Sig) (ts : List Tree) (id : TermId) : Type 0 where
  pub within : IsIn ts id
  pub sort : SortId
  pub sorted : HasTreeSort g (tree_at ts id) sort
