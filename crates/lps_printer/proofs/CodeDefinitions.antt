-- Definitions and starts that are printed.
use Rattle.std.proofs.Common.{◌≡◌, ◌<◌, ℕ, true, List, [], ◌∷◌, length, map, get_or, codes, sym, ap, ◌∙◌, subst}
use Rattle.std.specs.List.{All}
use Rattle.std.proofs.lemmas.List.Elements.{All-weaker}
use Rattle.mcrl2_lexer.specs.declared.kind.Kind.{Kind}
use Rattle.mcrl2_lexer.specs.declared.kind.Kind.TheVariants.{Delta, LeftParen, Plus, RightParen}
use Rattle.data_theory.specs.declared.ids.TermId.{TermId}
use Rattle.data_theory.specs.declared.ids.VarId.{VarId}
use Rattle.term_pool.specs.HeadTrees.{IsIn}
use Rattle.process_terms.specs.Meanings.{term_at}
use Rattle.lps_core.specs.declared.linears.Summand.{Summand}
use Rattle.lps_core.specs.PlainLinears.{PlainSummand, plain_summand}
use Rattle.lps_printer.specs.declared.process_writer.ProcessWriter as code
use Rattle.lps_printer.specs.Pieces.{Piece}
use Rattle.lps_printer.specs.PrintedProcesses as printed_
use Rattle.lps_printer.specs.DataLayout.{piece, print, space}
use Rattle.lps_printer.specs.WrittenTerms.{call}
use Rattle.lps_printer.specs.SummandLayout.{print_action, print_variable, print_variables, print_summand, print_summands}
use Rattle.lps_printer.specs.FilledLinears.{filled_terms}
use Rattle.lps_printer.specs.DefinitionTexts.{start_action, print_choice, print_parameters, print_start}
use Rattle.lps_printer.specs.Adding.{Adds}
use Rattle.lps_printer.specs.Wordings.{term_of}
use Rattle.lps_printer.specs.TermParts.{worded}
use Rattle.lps_printer.specs.CodeWordings.{terms_by, IsTermBy}
use Rattle.lps_printer.specs.TextWordings.{TextWording, of_terms, variable_by}
use Rattle.lps_printer.specs.CodeProcesses.{entries_by, parameters_by, start_by, summand_by, summands_by}
use Rattle.lps_printer.proofs.AddingPieces.{adds_none, adds_both}
use Rattle.lps_printer.proofs.CodeActions.{call_printed, places_of, terms_meant}

-- ---- parameters
pub no_parameters : (c : code.ProcessWriter) (t : TextWording) → c.params.now ≡ [] → (rest : List Piece) → rest ≡ print_parameters (parameters_by c t) rest
no_parameters c t e rest = ap (λ vs. print_parameters (map (variable_by c.terms.sig.now t.names) vs) rest) (sym e)

pub with_parameters : (c : code.ProcessWriter) (t : TextWording) (v : VarId) (vs : List VarId) → v ∷ vs ≡ c.params.now → (rest : List Piece)
    → piece [] LeftParen (codes "(") ∷ print_variable (variable_by c.terms.sig.now t.names v) [] (print_variables (map (variable_by c.terms.sig.now t.names) vs) (piece [] RightParen (codes ")") ∷ rest)) ≡ print_parameters (parameters_by c t) rest
with_parameters c t v vs e rest = ap (λ us. print_parameters (map (variable_by c.terms.sig.now t.names) us) rest) e

-- ---- summands
summands_adds : {a b : List ℕ} {xs ys : List printed_.Summand} → xs ≡ ys → Adds a b (λ rest. print_summands xs rest) → Adds a b (λ rest. print_summands ys rest)
summands_adds {a = a} {b = b} q p = subst (λ x. Adds a b (λ rest. print_summands x rest)) q p

pub summands_step : {a b c final : List ℕ} (f : PlainSummand → printed_.Summand) (xs ys : List PlainSummand) (x : PlainSummand) → x ∷ ys ≡ xs → ((kind : Kind) → Adds a b (λ rest. piece (10 ∷ 32 ∷ 32 ∷ []) kind (codes "+") ∷ rest))
    → Adds b c (λ rest. print_summand (f x) space rest) → Adds c final (λ rest. print_summands (map f ys) rest) → Adds a final (λ rest. print_summands (map f xs) rest)
summands_step {a = a} {final = final} f xs ys x e p q r =
    let all : Adds a final (λ rest. print_summands (map f (x ∷ ys)) rest) = adds_both (p Plus) (adds_both q r) in
    summands_adds (ap (map f) e) all

pub summands_end : (f : PlainSummand → printed_.Summand) (xs : List PlainSummand) (a : List ℕ) → xs ≡ [] → Adds a a (λ rest. print_summands (map f xs) rest)
summands_end f xs a e = summands_adds (ap (map f) (sym e)) (adds_none a)

pub item_fits : {A : Type 0} (P : A → Type 0) (xs : List A) (i : ℕ) (x : A) → i < length xs → x ≡ get_or xs i x → All P xs → P x
item_fits P xs i x l e h = subst P (sym e) (h i x l)

pub no_choice : (c : code.ProcessWriter) (t : TextWording) (ss : List Summand) → ss ≡ [] → (rest : List Piece) → piece space Delta (codes "delta") ∷ rest ≡ print_choice (summands_by c t ss) rest
no_choice c t ss e rest = ap (λ rs. print_choice (summands_by c t rs) rest) (sym e)

pub all_choice : (c : code.ProcessWriter) (t : TextWording) (ss : List Summand) (s : PlainSummand) (rs : List PlainSummand) → s ∷ rs ≡ map plain_summand ss → (rest : List Piece)
    → print_summand (summand_by c t s) space (print_summands (map (summand_by c t) rs) rest) ≡ print_choice (summands_by c t ss) rest
all_choice c t ss s rs e rest = ap (λ qs. print_choice (map (summand_by c t) qs) rest) e

-- ---- the start
start_is : (c : code.ProcessWriter) (t : TextWording) (ids : List TermId) → map (term_at (entries_by c)) ids ≡ map (term_of c.terms.sig.now c.terms.pool.now.trees) ids → t.names.process ≡ c.process.now → start_by c t ids ≡ printed_.act c.process.now (worded (of_terms t) true (terms_by c.terms ids))
start_is c t ids e q =
    ap (λ us. start_action t.names (filled_terms t.constant t.names true us)) e
    ∙ (λ i. printed_.act (q i) (places_of t (map (term_of c.terms.sig.now c.terms.pool.now.trees) ids) i))

pub start_printed : (c : code.ProcessWriter) (t : TextWording) (ids : List TermId) → All (IsTermBy c.terms) ids → t.names.process ≡ c.process.now → (rest : List Piece)
    → print (call c.process.now (worded (of_terms t) true (terms_by c.terms ids))) space rest ≡ print_start (start_by c t ids) rest
start_printed c t ids a q rest =
    let g = c.terms.sig.now in
    let ts = c.terms.pool.now.trees in
    let within = All-weaker (IsTermBy c.terms) (IsIn ts) (λ x h. h.within) ids a in
    call_printed c.process.now (worded (of_terms t) true (terms_by c.terms ids)) space rest
    ∙ sym (ap (λ us. print_action us space rest) (start_is c t ids (terms_meant g ts ids within) q))
