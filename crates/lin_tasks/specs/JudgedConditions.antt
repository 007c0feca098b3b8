-- What is answered of a condition on the parameters of a linear process, and how it is shown.
use Rattle.std.specs.Prelude.{◌≡◌, ◌++◌, ℕ, List, codes, decimal, map}
use Rattle.data_theory.specs.declared.ids.NameId.{NameId}
use Rattle.data_theory.specs.declared.ids.TermId.{TermId}
use Rattle.data_theory.specs.declared.ids.VarId.{VarId}
use Rattle.data_theory.specs.Environments.{IsOver}
use Rattle.data_theory.specs.IdTrees.{Tree}
use Rattle.data_theory.specs.Provable.{Equation}
use Rattle.data_theory.specs.Signature.{Sig}
use Rattle.data_theory.specs.Table.{bool_sort}
use Rattle.data_theory.specs.WholeSignatures.{IsSignature}
use Rattle.data_rewriter.specs.Standing.{term_at}
use Rattle.mcrl2_parser.specs.TermTexts.{IsDataText}
use Rattle.mcrl2_syntax.specs.DataTrees.{PlainData}
use Rattle.mcrl2_syntax.specs.Declarations.{PlainSpec}
use Rattle.term_pool.specs.Pools.{PoolContents, Extends}
use Rattle.sort_checker.specs.TypedData.{IsDataTermOf}
use Rattle.lps_core.specs.Fitting.{IsTermOf}
use Rattle.lps_core.specs.PlainLinears.{PlainLinear, plain_linear}
use Rattle.lps_invariant.specs.declared.judging.Judged.{Judged}
use Rattle.lps_invariant.specs.declared.judging.Judged.TheVariants.{Holds, Unproved}
use Rattle.lps_invariant.specs.Judging.{IsJudgement, LeavesWhatFits}
use Rattle.lps_printer.specs.PrintedLinears.{IsPrinted}
use Rattle.lin_answers.specs.declared.status.Status.{Status}
use Rattle.lin_answers.specs.declared.status.Status.TheVariants.{Done, Undecided}
use Rattle.lin_refusals.specs.BadTerms.{SpellsCondition}

-- ---- the condition
-- the bytes spell a data expression, and over this pool it is the term with this number, of sort Bool with these variables in scope
pub record IsReadApart (g : Sig) (params : List VarId) (condition : List ℕ) (p : PoolContents) (id : TermId) : Type 0 where
  pub expression : PlainData
  pub spelled : IsDataText condition expression
  pub is_term : IsDataTermOf g p params bool_sort expression id

-- The bytes spell the term that the trees have under this number, of sort Bool and with no variables but these.
pub record IsReadAs (g : Sig) (params : List VarId) (condition : List ℕ) (ts : List Tree) (id : TermId) : Type 0 where
  pub spells : SpellsCondition g params condition (term_at g ts id)
  pub term : IsTermOf g ts bool_sort id
  pub over : IsOver (map (λ (x : VarId). x.0) params) (term_at g ts id)

-- ---- what is answered of it
-- The condition spells a term over the parameters, and this is the answer of it, with its causes. The trees grow from the first ones to those with the term,
-- and then to the last ones.
pub record IsJudged (g : Sig) (own : List Equation) (fuel : ℕ) (ts us : List Tree) (l : PlainLinear) (condition : List ℕ) (judged : Judged) : Type 0 where
  pub trees : List Tree
  pub invariant : TermId
  pub read_on : Extends ts trees
  pub judged_on : Extends trees us
  pub read : IsReadAs g l.params condition trees invariant
  pub judgement : IsJudgement g own fuel trees us l invariant judged
  pub fits : LeavesWhatFits g us judged

-- ---- how it is shown
abbrev pub unproved_line : (place part : ℕ) → List ℕ
unproved_line place part = codes "unproved " ++ decimal place ++ codes " " ++ decimal part ++ codes "\n"

-- the bytes are the text of a linear process under a name, where the signature g grows to another one
pub record IsTextOf (spec : PlainSpec) (g : Sig) (ts : List Tree) (x : NameId) (l : PlainLinear) (shown : List ℕ) : Type 0 where
  pub signature : Sig
  pub stands : IsSignature signature
  pub is_printed : IsPrinted spec g signature ts x l shown

-- Where it holds, the bytes are the text of what is left, and the task is done. Else they name the first place at which it isn't proved, and the first part
-- that isn't proved there, and that leaves it undecided.
abbrev pub IsShownAs : PlainSpec → Sig → List Tree → NameId → Judged → Status → List ℕ → Type 0
IsShownAs spec g ts x (Holds lin truths) status shown = (status ≡ Done) × IsTextOf spec g ts x (plain_linear lin) shown
IsShownAs spec g ts x (Unproved place part truths) status shown = (status ≡ Undecided) × (shown ≡ unproved_line place part)

-- the bytes show what is answered of the condition
pub record ShowsJudgement (spec : PlainSpec) (g : Sig) (own : List Equation) (fuel : ℕ) (ts : List Tree) (x : NameId) (l : PlainLinear) (condition : List ℕ) (status : Status) (shown : List ℕ) : Type 0 where
  pub later : List Tree
  pub judged : Judged
  pub is_judged : IsJudged g own fuel ts later l condition judged
  pub shows : IsShownAs spec g later x judged status shown
