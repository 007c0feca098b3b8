-- Canonical texts of linear processes.
use Rattle.std.specs.Prelude.{◌≡◌, ◌≢◌, ℕ, List, ◌++◌}
use Rattle.std.specs.List.{AllByRecursion}
use Rattle.data_theory.specs.declared.ids.FunId.{FunId}
use Rattle.data_theory.specs.declared.ids.NameId.{NameId}
use Rattle.data_theory.specs.Terms.{Symbol, Term}
use Rattle.data_theory.specs.Declarations.{Data, IsSymbol}
use Rattle.data_theory.specs.Signature.{Sig}
use Rattle.data_theory.specs.IdData.{data_meant}
use Rattle.data_theory.specs.IdTrees.{Tree}
use Rattle.data_theory.specs.WholeSignatures.{IsSignature}
use Rattle.mcrl2_syntax.specs.Declarations.{PlainSpec}
use Rattle.process_terms.specs.Processes.{Bound}
use Rattle.bisim_laws.specs.LinearProcesses.{Summand, Linear}
use Rattle.lps_core.specs.CanonicalConditions.{HasNoNeedlessTrue, HaveNoNeedlessTrue}
use Rattle.lps_core.specs.Fitting.{Fits}
use Rattle.lps_core.specs.Naming.{HaveOwnNames, ParamsHaveOwnNames}
use Rattle.lps_core.specs.PlainLinears.{PlainLinear}
use Rattle.sort_table.specs.Expressions.{Name}
use Rattle.sort_table.specs.SignatureVocabularies.{text_under}
use Rattle.lps_printer.specs.AddedDeclarations.{added_sections}
use Rattle.lps_printer.specs.CopiedSections.{copied_sections}
use Rattle.lps_printer.specs.DataLayout.{IsIdentifier}
use Rattle.lps_printer.specs.LinearBack.{EachTwo}
use Rattle.lps_printer.specs.PrintedLinears.{IsPrinted}
use Rattle.lps_printer.specs.ReadableNames.{symbol_text}
use Rattle.lps_printer.specs.SignatureNames.{text_names_under}
use Rattle.lps_printer.specs.TextSections.{sections_text}
use Rattle.lps_printer.specs.WholeTexts.{linear_sections}
use Rattle.lps_printer.specs.WrittenProcesses.{TextNames}

-- two variables have different names
abbrev pub DifferInName : TextNames → Bound → Bound → Type 0
DifferInName n x y = n.terms.variable x.var ≢ n.terms.variable y.var

-- no function, declared or built in, whose name is an identifier has the variable's name
abbrev pub IsNoFunction : Data → TextNames → Bound → Type 0
IsNoFunction d n x = (f : Symbol) → IsSymbol d f → IsIdentifier (symbol_text n.terms f) → n.terms.variable x.var ≢ symbol_text n.terms f

-- their names differ from each other, and none is a function's
pub record AreToldByName (d : Data) (n : TextNames) (xs : List Bound) : Type 0 where
  pub differ : EachTwo (DifferInName n) xs
  pub unused : AllByRecursion (IsNoFunction d n) xs

-- The parameters are told by their names, and so are the parameters with the sums of each summand. No condition of two or more parts has the
-- part `true`.
pub record IsCanonical (d : Data) (n : TextNames) (l : Linear) : Type 0 where
  pub parameters : AreToldByName d n l.params
  pub sums : AllByRecursion (λ (s : Summand). AreToldByName d n (l.params ++ s.sums)) l.summands
  pub conditions : AllByRecursion (λ (s : Summand). HasNoNeedlessTrue s.condition) l.summands

-- The text has the layout of a canonical linear process under this name: the sections that are copied of the specification, those that are added
-- for the signature with the equations of some constants, the definition and the start.
pub record IsCanonicalText (spec : PlainSpec) (g : Sig) (x : Name) (text : List ℕ) : Type 0 where
  pub linear : Linear
  pub initial : List Term
  pub constants : List FunId
  pub layout : text ≡ sections_text (linear_sections (copied_sections spec.sections ++ added_sections spec g (text_names_under g x) constants) (text_names_under g x) linear initial)
  pub canonical : IsCanonical (data_meant g) (text_names_under g x) linear

-- What is printed for a linear process whose variables have their own names, and whose conditions say nothing needless, is canonical over the
-- signature with the constants for empty lists.
abbrev pub PrintedTextsAreCanonical : Type 0
PrintedTextsAreCanonical =
    (spec : PlainSpec) (g h : Sig) (ts : List Tree) (x : NameId) (l : PlainLinear) (text : List ℕ) → IsSignature g → IsSignature h → Fits g ts l
    → ParamsHaveOwnNames g l.params → HaveOwnNames g l → HaveNoNeedlessTrue g ts l → IsPrinted spec g h ts x l text → IsCanonicalText spec h (text_under h x) text
