-- Whether terms are `true`.
use Rattle.std.proofs.Common.{◌≡◌, ◌<◌, ℕ, Bool, false, List, [], ◌∷◌, length, Option, Some, None, refl, sym, ap, ◌∙◌}
use Rattle.std.specs.Prelude.{slice_get, IfSome}
use Rattle.data_theory.specs.declared.ids.FunId.{FunId}
use Rattle.data_theory.specs.declared.ids.TermId.{TermId}
use Rattle.data_theory.specs.declared.words.Word.{Word}
use Rattle.data_theory.specs.Terms.{Sort, Operation, Comparison, less, at_most, greater, at_least, Symbol, truth, falsity, negation, conjunction, disjunction, implication, equality, inequality, conditional, comparison, arithmetic, minus, upcast, empty, cons, snoc, concatenation, size, element_at, head, rhead, tail, rtail, membership, function, Term, Terms, variable, unknown, application, none, more}
use Rattle.data_theory.specs.Terms as terms
use Rattle.data_theory.specs.Functions.{Function}
use Rattle.data_theory.specs.IdTables.{IsTable}
use Rattle.data_theory.specs.IdTerms.{symbol_under}
use Rattle.data_theory.proofs.IdRowLemmas.{word_of, is_declared}
use Rattle.data_theory.proofs.IdSortLemmas.{read_within}
use Rattle.data_theory.proofs.IdSymbolLemmas.{built_in_tells, declared_is}
use Rattle.bisim_laws.specs.LinearProcesses.{is_true}
use Rattle.lps_printer.specs.declared.term_writer.TermWriter as code
use Rattle.lps_printer.specs.EmptyLists.{empty_or, filled}
use Rattle.lps_printer.specs.WordForms.{is_truth}
use Rattle.lps_printer.specs.CodeWordings.{HasWord, application_by}
use Rattle.lps_printer.proofs.CodeForms.{at_entry}

-- with arguments nothing is
pub not_true_over : (y : Symbol) (t : Term) (ts : Terms) → is_true (application y (more t ts)) ≡ false
not_true_over truth t ts = refl
not_true_over falsity t ts = refl
not_true_over negation t ts = refl
not_true_over conjunction t ts = refl
not_true_over disjunction t ts = refl
not_true_over implication t ts = refl
not_true_over (equality s) t ts = refl
not_true_over (inequality s) t ts = refl
not_true_over (conditional s) t ts = refl
not_true_over (comparison c s) t ts = refl
not_true_over (arithmetic op ss to) t ts = refl
not_true_over (minus s) t ts = refl
not_true_over (upcast s to) t ts = refl
not_true_over (empty s) t ts = refl
not_true_over (cons s) t ts = refl
not_true_over (snoc s) t ts = refl
not_true_over (concatenation s) t ts = refl
not_true_over (size s) t ts = refl
not_true_over (element_at s) t ts = refl
not_true_over (head s) t ts = refl
not_true_over (rhead s) t ts = refl
not_true_over (tail s) t ts = refl
not_true_over (rtail s) t ts = refl
not_true_over (membership s) t ts = refl
not_true_over (function k) t ts = refl

compared : (c : Comparison) (s : Sort) → is_true (application (comparison c s) none) ≡ is_truth (word_of (comparison c s))
compared less s = refl
compared at_most s = refl
compared greater s = refl
compared at_least s = refl

-- a built-in one is by its word
truth_by_word : (y : Symbol) → is_declared y ≡ false → is_true (application y none) ≡ is_truth (word_of y)
truth_by_word truth e = refl
truth_by_word falsity e = refl
truth_by_word negation e = refl
truth_by_word conjunction e = refl
truth_by_word disjunction e = refl
truth_by_word implication e = refl
truth_by_word (equality s) e = refl
truth_by_word (inequality s) e = refl
truth_by_word (conditional s) e = refl
truth_by_word (comparison c s) e = compared c s
truth_by_word (arithmetic op ss to) e = refl
truth_by_word (minus s) e = refl
truth_by_word (upcast s to) e = refl
truth_by_word (empty s) e = refl
truth_by_word (cons s) e = refl
truth_by_word (snoc s) e = refl
truth_by_word (concatenation s) e = refl
truth_by_word (size s) e = refl
truth_by_word (element_at s) e = refl
truth_by_word (head s) e = refl
truth_by_word (rhead s) e = refl
truth_by_word (tail s) e = refl
truth_by_word (rtail s) e = refl
truth_by_word (membership s) e = refl
truth_by_word (function k) e = cc

empty_not_true : (o : Option ℕ) (s : Sort) → is_true (empty_or o s) ≡ false
empty_not_true None s = refl
empty_not_true (Some k) s = refl

-- filling leaves `true` as it is, and makes nothing true
filled_application : (c : Sort → Option ℕ) (o : ℕ → Bool) (y : Symbol) (ts : Terms) → is_true (filled c o (application y ts)).opened ≡ is_true (application y ts)
filled_application c o truth none = refl
filled_application c o truth (more t ts) = refl
filled_application c o falsity ts = refl
filled_application c o negation ts = refl
filled_application c o conjunction ts = refl
filled_application c o disjunction ts = refl
filled_application c o implication ts = refl
filled_application c o (equality s) ts = refl
filled_application c o (inequality s) ts = refl
filled_application c o (conditional s) ts = refl
filled_application c o (comparison d s) ts = refl
filled_application c o (arithmetic op ss to) ts = refl
filled_application c o (minus s) ts = refl
filled_application c o (upcast s to) ts = refl
filled_application c o (empty s) ts = empty_not_true (c s) s
filled_application c o (cons s) ts = refl
filled_application c o (snoc s) ts = refl
filled_application c o (concatenation s) ts = refl
filled_application c o (size s) ts = refl
filled_application c o (element_at s) ts = refl
filled_application c o (head s) ts = refl
filled_application c o (rhead s) ts = refl
filled_application c o (tail s) ts = refl
filled_application c o (rtail s) ts = refl
filled_application c o (membership s) ts = refl
filled_application c o (function k) ts = refl

pub filled_true : (c : Sort → Option ℕ) (o : ℕ → Bool) (t : Term) → is_true (filled c o t).opened ≡ is_true t
filled_true c o (variable v) = refl
filled_true c o (terms.numeral s z) = refl
filled_true c o (unknown d k) = refl
filled_true c o (application y ts) = filled_application c o y ts

-- ---- in code
pub some_not_true : (c : code.TermWriter) (f : FunId) (xs : List TermId) → (xs ≡ [] → ⊥) → false ≡ is_true (application_by c f xs)
some_not_true c f [] n = absurd (n refl)
some_not_true c f (x ∷ xs) n = sym (not_true_over (symbol_under c.sig.now f) _ _)

pub word_true : (c : code.TermWriter) → IsTable c.sig.now → (f : FunId) (xs : List TermId) (w : Word) → HasWord c f w → xs ≡ [] → is_truth w ≡ is_true (application_by c f xs)
word_true c table f xs w h e =
    let told = built_in_tells c.sig.now table f h.0 w h.1 h.2 in
    sym (ap (λ ys. is_true (application_by c f ys)) e ∙ truth_by_word (symbol_under c.sig.now f) told.2 ∙ ap is_truth told.0)

pub declared_not_true : (c : code.TermWriter) → IsTable c.sig.now → (f : FunId) (xs : List TermId) → f.0 < length c.sig.now.functions → (o : Option Word) → IfSome (slice_get c.sig.now.functions f.0) (λ (e : Function). e.word ≡ o) → o ≡ None → xs ≡ [] → false ≡ is_true (application_by c f xs)
declared_not_true c table f xs l o h q e =
    let y = read_within c.sig.now.functions f.0 l in
    let plain = at_entry (λ (e : Function). e.word ≡ o) (slice_get c.sig.now.functions f.0) y.0 y.1 h ∙ q in
    sym (ap (λ ys. is_true (application_by c f ys)) e ∙ ap (λ z. is_true (application z none)) (declared_is c.sig.now table f y.0 y.1 plain))
