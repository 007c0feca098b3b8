-- What terms are worded with in code.
use Rattle.std.specs.Prelude.{◌≡◌, ◌<◌, ℕ, List, map, length, Some, slice_get}
use Rattle.std.specs.List.{All}
use Rattle.data_theory.specs.declared.ids.FunId.{FunId}
use Rattle.data_theory.specs.declared.ids.TermId.{TermId}
use Rattle.data_theory.specs.declared.words.Word.{Word}
use Rattle.data_theory.specs.Terms.{Term, Terms, application}
use Rattle.data_theory.specs.Environments.{terms_of}
use Rattle.data_theory.specs.Functions.{Function}
use Rattle.data_theory.specs.IdTerms.{symbol_under}
use Rattle.lps_printer.specs.declared.term_writer.TermWriter as code
use Rattle.lps_printer.specs.PrintedExpressions.{Expression}
use Rattle.lps_printer.specs.DataLayout.{print}
use Rattle.lps_printer.specs.Adding.{Adds}
use Rattle.lps_printer.specs.Wordings.{Wording, IsWordedBy, IsSortedTerm, term_of}

abbrev pub IsWording : code.TermWriter → Wording → Type 0
IsWording c w = IsWordedBy c.sig.now c.once.now c.constants.now w

-- the bytes go on by an expression behind a gap, as each wording of this kind says
abbrev pub AddsExpression : code.TermWriter → List ℕ → List ℕ → List ℕ → (Wording → Expression) → Type 0
AddsExpression c old new gap e = (w : Wording) → IsWording c w → Adds old new (λ rest. print (e w) gap rest)

abbrev pub term_by : code.TermWriter → TermId → Term
term_by c id = term_of c.sig.now c.pool.now.trees id

abbrev pub terms_by : code.TermWriter → List TermId → Terms
terms_by c ids = terms_of (map (term_by c) ids)

abbrev pub IsTermBy : code.TermWriter → TermId → Type 0
IsTermBy c id = IsSortedTerm c.sig.now c.pool.now.trees id

-- the function with this number has this word
abbrev pub HasWord : code.TermWriter → FunId → Word → Type 0
HasWord c f w = (e : Function) × (slice_get c.sig.now.functions f.0 ≡ Some e) × (e.word ≡ Some w)

-- a function of the signature, and arguments of the pool
pub record IsApplicationBy (c : code.TermWriter) (f : FunId) (ids : List TermId) : Type 0 where
  pub known : f.0 < length c.sig.now.functions
  pub arguments : All (IsTermBy c) ids

abbrev pub application_by : code.TermWriter → FunId → List TermId → Term
application_by c f ids = application (symbol_under c.sig.now f) (terms_by c ids)

-- an element and a rest that stand in front of a term in the pool
pub record AreBelow (c : code.TermWriter) (id first rest : TermId) : Type 0 where
  pub element : first.0 < id.0
  pub others : rest.0 < id.0
  pub element_fits : IsTermBy c first
  pub others_fit : IsTermBy c rest
