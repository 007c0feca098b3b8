-- Texts that are printed.
use Rattle.std.proofs.Common.{◌≡◌, ℕ, true, List, [], ◌∷◌, ◌++◌, map, codes, Option, refl, sym, ap, ◌∙◌, subst, append-nil}
use Rattle.std.specs.Prelude.{None}
use Rattle.std.specs.List.{All, flat_map}
use Rattle.std.proofs.lemmas.List.Elements.{All-nil}
use Rattle.mcrl2_lexer.specs.declared.kind.Kind.TheVariants as kind_
use Rattle.mcrl2_lexer.specs.declared.kind.Kind.{Kind}
use Rattle.data_theory.specs.declared.ids.FunId.{FunId}
use Rattle.data_theory.specs.declared.ids.TermId.{TermId}
use Rattle.data_theory.specs.declared.ids.VarId.{VarId}
use Rattle.data_theory.specs.Signature.{Sig}
use Rattle.data_theory.specs.WholeSignatures.{IsSignature}
use Rattle.process_terms.specs.PlainProcesses.{PlainAction}
use Rattle.term_pool.specs.Pools.{PoolContents}
use Rattle.process_terms.specs.Meanings.{bound_at, term_at, label_of}
use Rattle.process_terms.specs.SignatureEntries.{entries_of}
use Rattle.lps_core.specs.declared.linears.Summand.{Summand}
use Rattle.lps_core.specs.PlainLinears.{PlainSummand, PlainLinear, plain_summand, summand_of, linear_of, initial_of}
use Rattle.lps_core.specs.Fitting.{IsVariable, IsActionOf, SummandFits}
use Rattle.lps_printer.specs.declared.process_writer.ProcessWriter as code
use Rattle.lps_printer.specs.Pieces.{Piece, bytes_of}
use Rattle.lps_printer.specs.DataLayout.{piece}
use Rattle.lps_printer.specs.DefinitionTexts.{print_definition, print_start, start_action}
use Rattle.lps_printer.specs.WrittenProcesses.{variable_written, summand_written}
use Rattle.lps_printer.specs.FilledLinears.{filled_summand, filled_label, filled_linear, filled_terms}
use Rattle.lps_printer.specs.SignatureNames.{once_functions, once_actions, text_names_under}
use Rattle.lps_printer.specs.Adding.{Adds}
use Rattle.lps_printer.specs.TextSections.{print_sections}
use Rattle.lps_printer.specs.WholeTexts.{linear_sections}
use Rattle.lps_printer.specs.Wordings.{IsSortedTerm}
use Rattle.lps_printer.specs.CodeWordings.{IsTermBy}
use Rattle.lps_printer.specs.TextWordings.{TextWording, IsTextWordedBy}
use Rattle.lps_printer.specs.NeededConstants.{Finds, IsNil, nil_sort, nils_of, summand_nils, linear_nils, FindsNils, FindsText}
use Rattle.lps_printer.specs.CodeProcesses.{IsTextWording, IsActionBy, IsSummandBy, AddsText, entries_by, label_by, parameters_by, summand_by, summands_by, start_by, print_label}
use Rattle.lps_printer.specs.PrintedTexts.{label_text}
use Rattle.lps_printer.proofs.AddingPieces.{adds_both}
use Rattle.lps_printer.proofs.CodeSummands.{variables_meant}
use Rattle.lps_printer.proofs.SignatureNames.{bare_text_is_worded}
use Rattle.lps_printer.proofs.NoConstants.{no_constants, label_stays}
use Rattle.lps_printer.proofs.NeededConstants.{both_found, found_same}
use Rattle.lps_printer.proofs.FittingParts.{summands_fit}

-- ---- tables
-- a writer with these tables, a signature and a pool
pub record IsWriter (c : code.ProcessWriter) (g : Sig) (p : PoolContents) (cs : List (Option FunId)) (x : List ℕ) (vs : List VarId) : Type 0 where
  pub sig : c.terms.sig.now ≡ g
  pub pool : c.terms.pool.now ≡ p
  pub functions : c.terms.once.now ≡ once_functions g
  pub constants : c.terms.constants.now ≡ cs
  pub actions : c.once.now ≡ once_actions g
  pub process : c.process.now ≡ x
  pub params : c.params.now ≡ vs

module _ {c : code.ProcessWriter} {g : Sig} {p : PoolContents} {cs : List (Option FunId)} {x : List ℕ} {vs : List VarId} (w : IsWriter c g p cs x vs) where
  pub tables_word : (t : TextWording) → IsTextWordedBy g (once_functions g) cs (once_actions g) t → IsTextWording c t
  tables_word t h =
      subst (λ y. IsTextWordedBy y c.terms.once.now c.terms.constants.now c.once.now t) (sym w.sig) (subst (λ y. IsTextWordedBy g y c.terms.constants.now c.once.now t) (sym w.functions)
      (subst (λ y. IsTextWordedBy g (once_functions g) y c.once.now t) (sym w.constants) (subst (λ y. IsTextWordedBy g (once_functions g) cs y t) (sym w.actions) h)))

  pub same_entries : entries_by c ≡ entries_of g p.trees
  same_entries = (λ i. entries_of (w.sig i) ((w.pool i).trees))

  pub actions_by : (m : List PlainAction) → All (IsActionOf g p.trees) m → All (IsActionBy c) m
  actions_by m h = subst (λ y. All (IsActionOf y c.terms.pool.now.trees) m) (sym w.sig) (subst (λ (y : PoolContents). All (IsActionOf g y.trees) m) (sym w.pool) h)

  pub same_terms : (ids : List TermId) → All (IsSortedTerm g p.trees) ids → All (IsTermBy c.terms) ids
  same_terms ids h = subst (λ y. All (IsSortedTerm y c.terms.pool.now.trees) ids) (sym w.sig) (subst (λ (y : PoolContents). All (IsSortedTerm g y.trees) ids) (sym w.pool) h)

  pub same_variables : All (IsVariable g) vs → All (IsVariable c.terms.sig.now) c.params.now
  same_variables h = subst (λ y. All (IsVariable y) c.params.now) (sym w.sig) (subst (λ us. All (IsVariable g) us) (sym w.params) h)

  pub same_summands_fit : (ss : List Summand) → All (IsVariable g) vs → All (SummandFits g p.trees vs) (map plain_summand ss) → All (IsSummandBy c) ss
  same_summands_fit ss a h =
      summands_fit c ss (same_variables a)
      (subst (λ y. All (SummandFits y c.terms.pool.now.trees c.params.now) (map plain_summand ss)) (sym w.sig) (subst (λ (y : PoolContents). All (SummandFits g y.trees c.params.now) (map plain_summand ss)) (sym w.pool)
      (subst (λ us. All (SummandFits g p.trees us) (map plain_summand ss)) (sym w.params) h)))

-- ---- labels
abbrev pub bare : Sig → TextWording
bare g = record { names = text_names_under g []; constant = λ s. None }

pub label_printed : {c : code.ProcessWriter} {g : Sig} {p : PoolContents} {process : List ℕ} {params : List VarId} → IsSignature g → IsWriter c g p [] process params → (m : List PlainAction) (old new : List ℕ) → All (IsActionOf g p.trees) m → old ≡ []
    → AddsText c old new (λ t rest. print_label t.names (label_by c t m) [] rest) → new ≡ label_text g p.trees m
label_printed {c = c} {g = g} {p = p} is w m old new h empty added =
    let n = text_names_under g [] in
    sym (append-nil new) ∙ sym ((added (bare g) (tables_word w (bare g) (bare_text_is_worded g is []))).bytes [] []) ∙ ap (λ x. x ++ bytes_of (print_label n (label_by c (bare g) m) [] []) []) empty
    ∙ ap (λ e. bytes_of (print_label n (filled_label no_constants n (label_of e m)) [] []) []) (same_entries w)
    ∙ ap (λ x. bytes_of (print_label n x [] []) []) (label_stays g is.table p.trees n m h)

-- ---- what is found
pub all_found : {c : code.ProcessWriter} {g : Sig} {p : PoolContents} {process : List ℕ} {params : List VarId} → IsSignature g → IsWriter c g p [] process params → (l : PlainLinear) (ss : List Summand) (init : List TermId) (a b d : List FunId)
    → map plain_summand ss ≡ l.summands → init ≡ l.init → a ≡ []
    → FindsText c a b (λ t. flat_map (summand_nils t.names) (map (summand_of (entries_by c)) (map plain_summand ss))) → FindsText c b d (λ t. nils_of t.names true (map (term_at (entries_by c)) init))
    → All (IsNil g) d × Finds [] (linear_nils (text_names_under g []) (linear_of (entries_of g p.trees) l) (initial_of (entries_of g p.trees) l)) (map (nil_sort g) d)
all_found {c = c} {g = g} {p = p} is w l ss init a b d summands initial empty first second =
    let n = text_names_under g [] in
    let worded = tables_word w (bare g) (bare_text_is_worded g is []) in
    let met : flat_map (summand_nils n) (map (summand_of (entries_by c)) (map plain_summand ss)) ++ nils_of n true (map (term_at (entries_by c)) init) ≡ linear_nils n (linear_of (entries_of g p.trees) l) (initial_of (entries_of g p.trees) l) =
    (λ i. flat_map (summand_nils n) (map (summand_of (same_entries w i)) (summands i)) ++ nils_of n true (map (term_at (same_entries w i)) (initial i))) in
    let all = subst (λ h. FindsNils h a d (linear_nils n (linear_of (entries_of g p.trees) l) (initial_of (entries_of g p.trees) l))) w.sig (found_same met (both_found (first (bare g) worded) (second (bare g) worded))) in
    let none : All (IsNil g) a = subst (All (IsNil g)) (sym empty) (All-nil (IsNil g)) in
    (all.nils none, subst (λ xs. Finds (map (nil_sort g) xs) (linear_nils n (linear_of (entries_of g p.trees) l) (initial_of (entries_of g p.trees) l)) (map (nil_sort g) d)) empty (all.finds none))

-- ---- pieces in front of others
bytes_both : (ps qs : List Piece) (end : List ℕ) → bytes_of (ps ++ qs) end ≡ bytes_of ps (bytes_of qs end)
bytes_both [] qs end = refl
bytes_both (p ∷ ps) qs end = ap (λ x. p.gap ++ (p.bytes ++ x)) (bytes_both ps qs end)

-- what is added stands in front of what comes behind
in_front : {old new : List ℕ} (f : List Piece → List Piece) → Adds old new f → Adds old new (λ rest. f [] ++ rest)
in_front {old = old} f p = record { bytes = λ rest end. ap (λ x. old ++ x) (bytes_both (f []) rest end) ∙ p.bytes [] (bytes_of rest end) }

-- ---- what is printed of a linear process
module _ (c : code.ProcessWriter) (t : TextWording) (l : PlainLinear) (params : c.params.now ≡ l.params) where
  same_summands : (ss : List PlainSummand) → map (summand_by c t) ss ≡ map (summand_written t.names (map (bound_at (entries_by c)) l.params)) (map (filled_summand t.constant t.names) (map (summand_of (entries_by c)) ss))
  same_summands [] = refl
  same_summands (s ∷ ss) =
      let first = ap (λ vs. summand_written t.names (map (bound_at (entries_by c)) vs) (filled_summand t.constant t.names (summand_of (entries_by c) s))) params in
      let rest = same_summands ss in
      (λ i. first i ∷ rest i)

  same_parameters : All (IsVariable c.terms.sig.now) c.params.now → parameters_by c t ≡ map (variable_written t.names) (map (bound_at (entries_by c)) l.params)
  same_parameters a = variables_meant c t c.params.now a ∙ ap (λ vs. map (variable_written t.names) (map (bound_at (entries_by c)) vs)) params

  -- the bytes of both sections, behind a gap
  pub process_added : {a b d e f h o : List ℕ} (gap : List ℕ) (ss : List Summand) (ids : List TermId) → All (IsVariable c.terms.sig.now) c.params.now → map plain_summand ss ≡ l.summands → ids ≡ l.init
      → ((kind : Kind) → Adds a b (λ rest. piece gap kind (codes "proc") ∷ rest)) → Adds b d (λ rest. print_definition t.names.process (parameters_by c t) (summands_by c t ss) rest) → ((kind : Kind) → Adds d e (λ rest. piece [] kind (codes ";") ∷ rest))
      → ((kind : Kind) → Adds e f (λ rest. piece (10 ∷ []) kind (codes "init") ∷ rest)) → Adds f h (λ rest. print_start (start_by c t ids) rest) → ((kind : Kind) → Adds h o (λ rest. piece [] kind (codes ";") ∷ rest))
      → a ++ bytes_of (print_sections gap (linear_sections [] t.names (filled_linear t.constant t.names (linear_of (entries_by c) l)) (filled_terms t.constant t.names true (initial_of (entries_by c) l)))) (10 ∷ []) ≡ o ++ 10 ∷ []
  process_added {a = a} {b = b} {d = d} {f = f} {h = h} {o = o} gap ss ids vars summands init proc definition semi word start end =
      let D : List Piece → List Piece = λ rest. print_definition t.names.process (map (variable_written t.names) (map (bound_at (entries_by c)) l.params)) (map (summand_written t.names (map (bound_at (entries_by c)) l.params)) (map (filled_summand t.constant t.names) (map (summand_of (entries_by c)) l.summands))) rest in
      let S : List Piece → List Piece = λ rest. print_start (start_action t.names (filled_terms t.constant t.names true (map (term_at (entries_by c)) l.init))) rest in
      let summands_same = ap (map (summand_by c t)) summands ∙ same_summands l.summands in
      let definition_is : Adds b d D = subst (λ xs. Adds b d (λ rest. print_definition t.names.process xs (map (summand_written t.names (map (bound_at (entries_by c)) l.params)) (map (filled_summand t.constant t.names) (map (summand_of (entries_by c)) l.summands))) rest)) (same_parameters vars)
      (subst (λ xs. Adds b d (λ rest. print_definition t.names.process (parameters_by c t) xs rest)) summands_same definition) in
      let start_is : Adds f h S = subst (λ xs. Adds f h (λ rest. print_start (start_action t.names (filled_terms t.constant t.names true (map (term_at (entries_by c)) xs))) rest)) init start in
      let all : Adds a o (λ rest. piece gap kind_.Proc (codes "proc") ∷ (D [] ++ (piece [] kind_.Semicolon (codes ";") ∷ (piece (10 ∷ []) kind_.Init (codes "init") ∷ (S [] ++ (piece [] kind_.Semicolon (codes ";") ∷ rest)))))) =
      adds_both (proc kind_.Proc) (adds_both (in_front D definition_is) (adds_both (semi kind_.Semicolon) (adds_both (word kind_.Init) (adds_both (in_front S start_is) (end kind_.Semicolon))))) in
      all.bytes [] (10 ∷ [])
