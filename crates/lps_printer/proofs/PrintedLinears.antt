-- Texts that are printed for linear processes.
use Rattle.std.proofs.Common.{◌≡◌, ℕ, true, List, [], ◌∷◌, ◌++◌, Option, sym, ap, ◌∙◌, subst, append_assoc}
use Rattle.data_theory.specs.declared.ids.FunId.{FunId}
use Rattle.data_theory.specs.declared.ids.VarId.{VarId}
use Rattle.data_theory.specs.Terms.{Term}
use Rattle.data_theory.specs.Signature.{Sig}
use Rattle.bisim_laws.specs.LinearProcesses.{Linear}
use Rattle.sort_table.specs.Expressions.{Name}
use Rattle.mcrl2_syntax.specs.Declarations.{PlainSpec}
use Rattle.term_pool.specs.Pools.{PoolContents}
use Rattle.process_terms.specs.SignatureEntries.{entries_of}
use Rattle.lps_core.specs.PlainLinears.{PlainLinear, linear_of, initial_of}
use Rattle.lps_printer.specs.declared.process_writer.ProcessWriter as code
use Rattle.lps_printer.specs.Pieces.{bytes_of}
use Rattle.lps_printer.specs.WrittenProcesses.{TextNames}
use Rattle.lps_printer.specs.FilledLinears.{filled_linear, filled_terms}
use Rattle.lps_printer.specs.SignatureNames.{text_names_under}
use Rattle.lps_printer.specs.AddingSections.{AddsSections}
use Rattle.lps_printer.specs.TextSections.{PrintedSection, print_sections, sections_text}
use Rattle.lps_printer.specs.WholeTexts.{linear_sections}
use Rattle.lps_printer.specs.TextWordings.{NamesSorts}
use Rattle.lps_printer.specs.CodeProcesses.{AddsLinear}
use Rattle.lps_printer.specs.CopiedSections.{copied_sections}
use Rattle.lps_printer.specs.AddedDeclarations.{added_sections}
use Rattle.lps_printer.specs.PrintedLinears.{HasText}
use Rattle.lps_printer.proofs.PrintedTexts.{IsWriter, tables_word, same_entries}

pub whole_text : {a b out : List ℕ} (gap next : List ℕ) (copied added : List PrintedSection) (n : TextNames) (l : Linear) (ts : List Term) → AddsSections [] a [] gap copied → AddsSections a b gap next added
    → b ++ bytes_of (print_sections next (linear_sections [] n l ts)) (10 ∷ []) ≡ out → out ≡ sections_text (linear_sections (copied ++ added) n l ts)
whole_text {a = a} gap next copied added n l ts p q r =
    sym (ap (λ ss. bytes_of (print_sections [] ss) (10 ∷ [])) (append_assoc copied added (linear_sections [] n l ts))
    ∙ p.bytes (added ++ linear_sections [] n l ts) (10 ∷ []) ∙ q.bytes (linear_sections [] n l ts) (10 ∷ []) ∙ r)

pub text_is_whole : {c : code.ProcessWriter} {g : Sig} {p : PoolContents} {constants : List (Option FunId)} {process : List ℕ} {params : List VarId} → IsWriter c g p constants process params → (spec : PlainSpec) (x : Name) (l : PlainLinear) (fs : List FunId)
    → (gap next a b out : List ℕ) → process ≡ x → AddsSections [] a [] gap (copied_sections spec.sections) → ((n : TextNames) → NamesSorts g n → AddsSections a b gap next (added_sections spec g n fs)) → AddsLinear c l next b out → HasText spec g p.trees constants x l fs out
text_is_whole {g = g} {p = p} w spec x l fs gap next a b out q first second third = λ k worded.
    let n = text_names_under g x in
    let here = third (record { names = n; constant = k }) (tables_word w (record { names = n; constant = k }) worded) (sym (w.process ∙ q)) in
    whole_text gap next (copied_sections spec.sections) (added_sections spec g n fs) n (filled_linear k n (linear_of (entries_of g p.trees) l)) (filled_terms k n true (initial_of (entries_of g p.trees) l)) first (second n worded.sorts)
    (subst (λ e. b ++ bytes_of (print_sections next (linear_sections [] n (filled_linear k n (linear_of e l)) (filled_terms k n true (initial_of e l)))) (10 ∷ []) ≡ out) (same_entries w) here)
