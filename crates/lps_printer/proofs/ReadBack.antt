-- What is printed for a term reads back as the term.
use Rattle.std.proofs.Common.{◌≡◌, ℕ, zero, suc, Bool, true, false, cond, ◌||◌, List, [], ◌∷◌, if◌then◌else◌, refl, ap, ap₂, sym, ◌∙◌, subst, arith}
use Rattle.std.specs.Prelude.{Option, Some, None, is_some, option_map, option_and_then, map, ℤ, pos, negsuc}
use Rattle.std.specs.Option.{option_or}
use Rattle.std.proofs.lemmas.Bool.Decides.{nat_tests}
use lib.Signed.{lt_z}
use Rattle.mcrl2_syntax.specs.declared.data_tree.PrefixSign.TheVariants.{Negate}
use Rattle.data_theory.specs.Terms.{Sort, boolean, positive, natural, integer, list, named as declared_sort, Comparison, less, at_most, greater, at_least, Operation, add, subtract, multiply, divide, modulo, power, minimum, maximum, absolute, successor, predecessor, to_positive, to_natural, Symbol, truth, falsity, negation, conjunction, disjunction, implication, equality, inequality, conditional, comparison, arithmetic, minus, upcast, empty, cons, snoc, concatenation, size, element_at, head, rhead, tail, rtail, membership, function, Term, Terms, variable, unknown, application, apply, negated}
use Rattle.data_theory.specs.Terms as terms
use Rattle.data_theory.specs.Declarations.{Data, argument_sorts, result_sort, IsSymbol, IsUpcast, pos2nat, nat2int, pos2int, positives, IsOperation, HasNumeral, StandsUnmerged, HasSort, HaveSorts, add_pos_pos, add_pos_nat, add_nat_pos, add_nat_nat, add_int_int, subtract_pos, subtract_nat, subtract_int, multiply_pos, multiply_nat, multiply_int, div_nat, div_int, mod_nat, mod_int, exp_pos, exp_nat, exp_int, min_pos, min_nat, min_int, max_pos, max_nat, max_int, abs_int, succ_pos, succ_nat, succ_int, pred_pos, pred_nat, pred_int, nat2pos, int2nat, int2pos}
use Rattle.data_theory.specs.Environments.{IsOver, AreOver}
use Rattle.sort_table.specs.Expressions as typed
use Rattle.sort_table.specs.Expressions.{Name}
use Rattle.data_typing.specs.Typings.{sort_eq, fits, wider, widest, upcast_to, Inferred, Typing, embedded, exactly, checked, all_at, Signature, first_exact, over, Meaning, bound, functions, call_infers, word_typing, list_of, list_infers, widest_from, typing, typings}
use Rattle.data_typing.proofs.SortTests.{sort_told_itself}
use Rattle.lps_printer.specs.PrintedExpressions.{Expression, Expressions, named, numeral, listed, applied as applied_to, prefix, none, more}
use Rattle.lps_printer.specs.PlainExpressions.{plain, plain_all}
use Rattle.lps_printer.specs.WrittenTerms.{Names, Shape, constant_true, constant_false, before, between, called, operation_shape, upcast_name, shape, call, build, open_numeral, placed_numeral, Written, in_both, opens, places, elements_written, cast_written, written_with, written, written_all}
use Rattle.lps_printer.specs.ReadableNames.{signature, find_exact, shape_text, symbol_text, Means, by_signature, by_scheme, ReadsNames, is_nil, IsWritable, AreWritable}
use Rattle.lps_printer.specs.DataLaws.{TermsReadBack}
use Rattle.lps_printer.proofs.Exact.{Infers, AllInfer, infer_none, infer_more, own_sort, call_by_signature, call_by_scheme}

-- ---- what is proved of a term

pub record ChainBack (m : Name → Meaning) (es : Expressions) (t : Term) (s : Sort) : Type 0 where
  pub element : Sort
  pub is_list : s ≡ list element
  pub reads : list_of (typings m (plain_all es)) element ≡ Some t
  pub wide : widest_from element (typings m (plain_all es)) ≡ Some element

pub record NameBack (m : Name → Meaning) (x : Name) (t : Term) (s : Sort) : Type 0 where
  pub number : ℕ
  pub means : m x ≡ bound number s
  pub is : t ≡ variable number

pub record Back (m : Name → Meaning) (w : Written) (t : Term) (s : Sort) : Type 0 where
  pub opened : is_nil t ≡ false → Infers m (plain w.opened) t s
  pub placed : (typing m (plain w.placed)).checks s ≡ Some t
  pub agrees : (u : Term) → exactly s (typing m (plain w.placed)) ≡ Some u → u ≡ t
  pub chain : (es : Expressions) → w.chain ≡ Some es → ChainBack m es t s
  pub name : (x : List ℕ) → w.name ≡ Some x → NameBack m x t s

pub data AllBack (m : Name → Meaning) (b : Bool) : List Written → Terms → List Sort → Type 0 where
  back_none : AllBack m b [] terms.none []
  back_more : {w : Written} {ws : List Written} {t : Term} {ts : Terms} {s : Sort} {ss : List Sort} → Back m w t s → (b ≡ false → is_nil t ≡ false) → AllBack m b ws ts ss → AllBack m b (w ∷ ws) (terms.more t ts) (s ∷ ss)

-- ---- calls

pub open_all : {m : Name → Meaning} {ws : List Written} {ts : Terms} {ss : List Sort} → AllBack m false ws ts ss → AllInfer m (plain_all (opens ws)) ts ss
open_all back_none = infer_none
open_all (back_more b o bs) = infer_more (b.opened (o refl)) (open_all bs)

called_by : {g : Data} {n : Names} {m : Name → Meaning} {f : Symbol} {es : typed.Expressions} {ts : Terms} → Means g n m f → AllInfer m es ts (argument_sorts g f) → Infers m (typed.word (symbol_text n f) es) (apply f ts) (result_sort g f)
called_by {g = g} {n = n} {m = m} {f = f} {es = es} {ts = ts} (by_signature {fs = fs} {c = c} means found) is = call_by_signature m (symbol_text n f) fs c es ts (signature g f) means is found
called_by {g = g} {n = n} {m = m} {f = f} {es = es} {ts = ts} (by_scheme {fs = fs} {c = c} {s = s} means none_ at same) is =
    let sorts : argument_sorts g f ≡ map (over s) c.arguments = ap (λ (h : Signature). h.arguments) (sym same) in
    let r : Infers m (typed.word (symbol_text n f) es) (apply (c.symbol s) ts) (over s c.result)
    = call_by_scheme m (symbol_text n f) fs c s es ts means (subst (λ (ss : List Sort). AllInfer m es ts ss) sorts is) (subst (λ (ss : List Sort). find_exact ss fs ≡ None) sorts none_) at in
    subst (λ (h : Signature). Infers m (typed.word (symbol_text n f) es) (apply h.symbol ts) h.result) same r

abbrev shape_fits : Shape → List Sort → Bool
shape_fits constant_true [] = true
shape_fits constant_false [] = true
shape_fits (before sign) (s ∷ []) = true
shape_fits (between sign) (s ∷ r ∷ []) = true
shape_fits (called x) ss = true
shape_fits _ _ = false

abbrev shape_takes : Shape → Expressions → Bool
shape_takes constant_true none = true
shape_takes constant_false none = true
shape_takes (before sign) (more e none) = true
shape_takes (between sign) (more e (more f none)) = true
shape_takes (called x) es = true
shape_takes _ _ = false

taken : {m : Name → Meaning} {b : Bool} {ws : List Written} {ts : Terms} {ss : List Sort} (sh : Shape) → AllBack m b ws ts ss → shape_fits sh ss ≡ true → shape_takes sh (opens ws) ≡ true
taken constant_true back_none h = refl
taken constant_true (back_more i o is) h = absurd cc
taken constant_false back_none h = refl
taken constant_false (back_more i o is) h = absurd cc
taken (before sign) back_none h = absurd cc
taken (before sign) (back_more i o back_none) h = refl
taken (before sign) (back_more i o (back_more j p is)) h = absurd cc
taken (between sign) back_none h = absurd cc
taken (between sign) (back_more i o back_none) h = absurd cc
taken (between sign) (back_more i o (back_more j p back_none)) h = refl
taken (between sign) (back_more i o (back_more j p (back_more k q is))) h = absurd cc
taken (called x) is h = refl

plain_build : (sh : Shape) (es : Expressions) → shape_takes sh es ≡ true → plain (build sh es) ≡ typed.word (shape_text sh) (plain_all es)
plain_build constant_true none h = refl
plain_build constant_true (more e es) h = absurd cc
plain_build constant_false none h = refl
plain_build constant_false (more e es) h = absurd cc
plain_build (before sign) none h = absurd cc
plain_build (before sign) (more e none) h = refl
plain_build (before sign) (more e (more f es)) h = absurd cc
plain_build (between sign) none h = absurd cc
plain_build (between sign) (more e none) h = absurd cc
plain_build (between sign) (more e (more f none)) h = refl
plain_build (between sign) (more e (more f (more g es))) h = absurd cc
plain_build (called x) none h = refl
plain_build (called x) (more e es) h = refl

-- ---- any symbol whose arguments stand in open places

exact_same : {m : Name → Meaning} {e : typed.Expression} {t : Term} {s : Sort} → Infers m e t s → (u : Term) → exactly s (typing m e) ≡ Some u → u ≡ t
exact_same {t = t} {s = s} i u h =
    let known : Some t ≡ Some u = sym (ap (λ (o : Option Inferred). option_and_then (λ (j : Inferred). if sort_eq j.sort s then Some j.term else None) o) i.inferred ∙ ap (λ (b : Bool). if b then Some t else None) (sort_told_itself s)) ∙ h in cc

-- what is printed in one way in both places
same_in_both : {m : Name → Meaning} {e : Expression} {t : Term} {s : Sort} → Infers m (plain e) t s → Back m (in_both e) t s
same_in_both {m = m} {e = e} {t = t} {s = s} i = record {
  opened = λ o. i;
  placed = i.checks;
  agrees = exact_same i;
  chain = λ es h. absurd cc;
  name = λ x h. absurd cc;
}

-- an application that stands unmerged, of a symbol with its result
of_application : {m : Name → Meaning} {e : typed.Expression} {f : Symbol} {ts : Terms} {q s : Sort} → Infers m e (apply f ts) q → q ≡ s → StandsUnmerged f ts → Infers m e (application f ts) s
of_application {m = m} {e = e} {f = f} {ts = ts} {q = q} i r u = subst (λ (p : Sort). Infers m e (application f ts) p) r (subst (λ (t : Term). Infers m e t q) u i)

infers_built : {g : Data} {n : Names} {m : Name → Meaning} {f : Symbol} {ws : List Written} {ts : Terms} → Means g n m f → shape_fits (shape n f) (argument_sorts g f) ≡ true → AllBack m false ws ts (argument_sorts g f)
    → Infers m (plain (build (shape n f) (opens ws))) (apply f ts) (result_sort g f)
infers_built {g = g} {n = n} {m = m} {f = f} {ws = ws} {ts = ts} means fit is =
    subst (λ (e : typed.Expression). Infers m e (apply f ts) (result_sort g f)) (sym (plain_build (shape n f) (opens ws) (taken (shape n f) is fit))) (called_by means (open_all is))

in_general : {g : Data} {n : Names} {m : Name → Meaning} {f : Symbol} {ws : List Written} {ts : Terms} {s : Sort} → Means g n m f → shape_fits (shape n f) (argument_sorts g f) ≡ true → AllBack m false ws ts (argument_sorts g f)
    → result_sort g f ≡ s → StandsUnmerged f ts → Back m (in_both (build (shape n f) (opens ws))) (application f ts) s
in_general {g = g} {n = n} {m = m} {f = f} {ws = ws} {ts = ts} means fit is r u = same_in_both (of_application {f = f} (infers_built {g = g} {n = n} {f = f} means fit is) r u)

operation_fits : {op : Operation} {ss : List Sort} {to : Sort} → IsOperation op ss to → shape_fits (operation_shape op ss to) ss ≡ true
operation_fits add_pos_pos = refl
operation_fits add_pos_nat = refl
operation_fits add_nat_pos = refl
operation_fits add_nat_nat = refl
operation_fits add_int_int = refl
operation_fits subtract_pos = refl
operation_fits subtract_nat = refl
operation_fits subtract_int = refl
operation_fits multiply_pos = refl
operation_fits multiply_nat = refl
operation_fits multiply_int = refl
operation_fits div_nat = refl
operation_fits div_int = refl
operation_fits mod_nat = refl
operation_fits mod_int = refl
operation_fits exp_pos = refl
operation_fits exp_nat = refl
operation_fits exp_int = refl
operation_fits min_pos = refl
operation_fits min_nat = refl
operation_fits min_int = refl
operation_fits max_pos = refl
operation_fits max_nat = refl
operation_fits max_int = refl
operation_fits abs_int = refl
operation_fits succ_pos = refl
operation_fits succ_nat = refl
operation_fits succ_int = refl
operation_fits pred_pos = refl
operation_fits pred_nat = refl
operation_fits pred_int = refl
operation_fits nat2pos = refl
operation_fits int2nat = refl
operation_fits int2pos = refl

-- ---- numerals

infers_numeral : (m : Name → Meaning) (k : ℕ) (s : Sort) (z : ℤ) → (typing m (typed.numeral k)).infers ≡ Some (record { term = terms.numeral s z; sort = s }) → (typing m (typed.numeral k)).checks s ≡ Some (terms.numeral s z) → Infers m (typed.numeral k) (terms.numeral s z) s
infers_numeral m k s z i c = record { inferred = i; checks = c }

positive_numeral : (m : Name → Meaning) (k : ℕ) → Infers m (typed.numeral (suc k)) (terms.numeral positive (pos (suc k))) positive
positive_numeral m k = record { inferred = refl; checks = refl }

zero_numeral : (m : Name → Meaning) → Infers m (typed.numeral 0) (terms.numeral natural (pos 0)) natural
zero_numeral m = record { inferred = refl; checks = refl }

one_argument : {m : Name → Meaning} {e : typed.Expression} {t : Term} {s : Sort} → Infers m e t s → AllInfer m (typed.more e typed.none) (terms.more t terms.none) (s ∷ [])
one_argument i = infer_more i infer_none

above_zero : (k : ℕ) → lt_z (pos 0) (pos (suc k)) ≡ true
above_zero k = grind (arith, nat_tests)

negated_is : (k : ℕ) → negated positive (pos (suc k)) ≡ terms.numeral integer (negsuc k)
negated_is k = ap (λ (b : Bool). cond b (terms.numeral integer (negsuc k)) (application (minus positive) (terms.more (terms.numeral positive (pos (suc k))) terms.none))) (above_zero k)

negative : {g : Data} {vs : List Sort} {xs : List ℕ} {n : Names} {m : Name → Meaning} (ok : ReadsNames g vs xs n m) (k : ℕ) → Infers m (plain (prefix Negate (numeral (suc k)))) (terms.numeral integer (negsuc k)) integer
negative {m = m} ok k =
    let i : Infers m (plain (prefix Negate (numeral (suc k)))) (negated positive (pos (suc k))) integer = called_by (ok.symbols (minus positive) positives refl) (one_argument (positive_numeral m k)) in
    subst (λ (t : Term). Infers m (plain (prefix Negate (numeral (suc k)))) t integer) (negated_is k) i

in_places : {m : Name → Meaning} {o p : Expression} {t : Term} {s : Sort} → Infers m (plain o) t s → (typing m (plain p)).checks s ≡ Some t → ((u : Term) → exactly s (typing m (plain p)) ≡ Some u → u ≡ t) → Back m (record { opened = o; placed = p; chain = None; name = None }) t s
in_places i c a = record { opened = λ o. i; placed = c; agrees = a; chain = λ es h. absurd cc; name = λ x h. absurd cc }

number_back : {g : Data} {vs : List Sort} {xs : List ℕ} {n : Names} {m : Name → Meaning} (ok : ReadsNames g vs xs n m) (s : Sort) (z : ℤ) → HasNumeral s z → Back m (record { opened = open_numeral s z; placed = placed_numeral z; chain = None; name = None }) (terms.numeral s z) s
number_back ok boolean z h = absurd h.0
number_back ok (list s) z h = absurd h.0
number_back ok (declared_sort d) z h = absurd h.0
number_back {m = m} ok positive (pos zero) h = absurd (omega (arith, h.0))
number_back {m = m} ok positive (pos (suc k)) h = in_places (positive_numeral m k) refl (λ u e. cc)
number_back {m = m} ok positive (negsuc k) h = absurd (omega (arith, h.0))
number_back {m = m} ok natural (pos zero) h = in_places (zero_numeral m) refl (λ u e. cc)
number_back {m = m} ok natural (pos (suc k)) h = in_places (called_by (ok.symbols (upcast positive natural) pos2nat refl) (one_argument (positive_numeral m k))) refl (λ u e. absurd cc)
number_back {m = m} ok natural (negsuc k) h = absurd (omega (arith, h.0))
number_back {m = m} ok integer (pos zero) h = in_places (called_by (ok.symbols (upcast natural integer) nat2int refl) (one_argument (zero_numeral m))) refl (λ u e. absurd cc)
number_back {m = m} ok integer (pos (suc k)) h = in_places (called_by (ok.symbols (upcast positive integer) pos2int refl) (one_argument (positive_numeral m k))) refl (λ u e. absurd cc)
number_back {m = m} ok integer (negsuc k) h = let i = negative ok k in in_places i i.checks (exact_same i)

-- ---- an upcast, which is left out in front of a variable

upcast_placed : {m : Name → Meaning} {a b : Sort} {x : Name} {t : Term} → IsUpcast a b → NameBack m x t a → (typing m (typed.word x typed.none)).checks b ≡ Some (application (upcast a b) (terms.more t terms.none))
upcast_placed {m = m} {x = x} {t = t} pos2nat v = ap (λ (k : Meaning). (word_typing k []).checks natural) v.means ∙ ap (λ (u : Term). Some (application (upcast positive natural) (terms.more u terms.none))) (sym v.is)
upcast_placed {m = m} {x = x} {t = t} nat2int v = ap (λ (k : Meaning). (word_typing k []).checks integer) v.means ∙ ap (λ (u : Term). Some (application (upcast natural integer) (terms.more u terms.none))) (sym v.is)
upcast_placed {m = m} {x = x} {t = t} pos2int v = ap (λ (k : Meaning). (word_typing k []).checks integer) v.means ∙ ap (λ (u : Term). Some (application (upcast positive integer) (terms.more u terms.none))) (sym v.is)

upcast_not_exact : {m : Name → Meaning} {a b : Sort} {x : Name} {t u : Term} → IsUpcast a b → NameBack m x t a → exactly b (typing m (typed.word x typed.none)) ≡ Some u → ⊥
upcast_not_exact {m = m} pos2nat v h = let none_ : None ≡ Some _ = sym (ap (λ (k : Meaning). exactly natural (word_typing k [])) v.means) ∙ h in cc
upcast_not_exact {m = m} nat2int v h = let none_ : None ≡ Some _ = sym (ap (λ (k : Meaning). exactly integer (word_typing k [])) v.means) ∙ h in cc
upcast_not_exact {m = m} pos2int v h = let none_ : None ≡ Some _ = sym (ap (λ (k : Meaning). exactly integer (word_typing k [])) v.means) ∙ h in cc

cast_back : {m : Name → Meaning} {a b : Sort} {t : Term} (o : Option (List ℕ)) (e : Expression) → IsUpcast a b → ((x : List ℕ) → o ≡ Some x → NameBack m x t a)
    → Infers m (plain e) (application (upcast a b) (terms.more t terms.none)) b → Back m (cast_written o e) (application (upcast a b) (terms.more t terms.none)) b
cast_back None e up name_ i = same_in_both i
cast_back (Some x) e up name_ i = in_places i (upcast_placed up (name_ x refl)) (λ u h. absurd (upcast_not_exact up (name_ x refl) h))

-- ---- lists in brackets

fits_itself : (s : Sort) → fits s s ≡ true
fits_itself s = ap (λ (b : Bool). b || is_some (upcast_to s s)) (sort_told_itself s)

wider_itself : (s : Sort) → wider s s ≡ Some s
wider_itself s = ap (λ (b : Bool). if b then Some s else if fits s s then Some s else None) (fits_itself s)

-- of an element in front of a chain
wide_of : {m : Name → Meaning} {es : Expressions} {t u : Term} {a : Sort} (e : Expression) → Infers m (plain e) t a → (c : ChainBack m es u (list a)) → widest (typings m (plain_all (more e es))) ≡ Some a
wide_of {m = m} {es = es} {a = a} e i c =
    let same : a ≡ c.element = cc (c.is_list) in
    ap (λ (o : Option Inferred). option_and_then (λ (j : Inferred). widest_from j.sort (typings m (plain_all es))) o) i.inferred
    ∙ subst (λ (r : Sort). widest_from r (typings m (plain_all es)) ≡ Some r) (sym same) c.wide

-- an element in front of a chain
chain_more : {m : Name → Meaning} {e : Expression} {es : Expressions} {t u : Term} {a : Sort} → Infers m (plain e) t a → ChainBack m es u (list a) → ChainBack m (more e es) (application (cons a) (terms.more t (terms.more u terms.none))) (list a)
chain_more {m = m} {e = e} {es = es} {t = t} {u = u} {a = a} i c =
    let same : a ≡ c.element = cc (c.is_list) in
    record {
      element = a;
      is_list = refl;
      reads = ap (λ (o : Option Term). option_and_then (λ (x : Term). option_map (λ (y : Term). application (cons a) (terms.more x (terms.more y terms.none))) (list_of (typings m (plain_all es)) a)) o) i.checks
          ∙ ap (λ (o : Option Term). option_map (λ (y : Term). application (cons a) (terms.more t (terms.more y terms.none))) o) (subst (λ (r : Sort). list_of (typings m (plain_all es)) r ≡ Some u) (sym same) c.reads);
      wide = ap (λ (o : Option Inferred). option_and_then (λ (j : Inferred). option_and_then (λ (r : Sort). widest_from r (typings m (plain_all es))) (wider a j.sort)) o) i.inferred
          ∙ ap (λ (o : Option Sort). option_and_then (λ (r : Sort). widest_from r (typings m (plain_all es))) o) (wider_itself a)
          ∙ subst (λ (r : Sort). widest_from r (typings m (plain_all es)) ≡ Some r) (sym same) c.wide;
    }

-- a chain with an element infers its list
listed_infers : {m : Name → Meaning} (e : Expression) (es : Expressions) {t : Term} {a : Sort} → list_of (typings m (plain_all (more e es))) a ≡ Some t → widest (typings m (plain_all (more e es))) ≡ Some a
    → Infers m (plain (listed (more e es))) t (list a)
listed_infers {m = m} e es {t = t} {a = a} reads_ wide_ =
    let tys : List Typing = typings m (plain_all (more e es)) in
    let is : list_infers tys ≡ Some (record { term = t; sort = list a }) =
    ap (λ (o : Option Sort). option_and_then (λ (s : Sort). option_map (λ (u : Term). record { term = u; sort = list s }) (list_of tys s)) o) wide_
    ∙ ap (λ (o : Option Term). option_map (λ (u : Term). record { term = u; sort = list a }) o) reads_ in
    record {
      inferred = is;
      checks = ap (λ (o : Option Term). option_or o (option_and_then (embedded (list a)) (list_infers tys))) reads_;
    }

-- `|>`: a longer chain, or the infix sign
elements_back : {g : Data} {n : Names} {m : Name → Meaning} {a : Sort} (o : Option Expressions) (w v : Written) {t u : Term} → Means g n m (cons a) → Infers m (plain w.opened) t a → Back m v u (list a) → v.chain ≡ o → (o ≡ None → is_nil u ≡ false)
    → Back m (elements_written o w v) (application (cons a) (terms.more t (terms.more u terms.none))) (list a)
unfolding chain_more
elements_back {a = a} None w v means i b h open_ = same_in_both (called_by means (infer_more i (one_argument (b.opened (open_ refl)))))
elements_back {m = m} {a = a} (Some es) w v {t = t} {u = u} means i b h open_ =
    let c : ChainBack m (more w.opened es) (application (cons a) (terms.more t (terms.more u terms.none))) (list a) = chain_more i (b.chain es h) in
    let widest_is : widest (typings m (plain_all (more w.opened es))) ≡ Some a = wide_of w.opened i (b.chain es h) in
    let j : Infers m (plain (listed (more w.opened es))) (application (cons a) (terms.more t (terms.more u terms.none))) (list a) = listed_infers w.opened es c.reads widest_is in
    record { opened = λ o. j; placed = j.checks; agrees = exact_same j; chain = λ fs e. let same : more w.opened es ≡ fs = cc in subst (λ (gs : Expressions). ChainBack m gs (application (cons a) (terms.more t (terms.more u terms.none))) (list a)) same c; name = λ x e. absurd cc }

-- a term whose chain isn't known isn't the empty list
nil_chain : (n : Names) (u : Term) → (written n u).chain ≡ None → is_nil u ≡ false
nil_chain n (variable v) h = refl
nil_chain n (terms.numeral s z) h = refl
nil_chain n (unknown d k) h = refl
nil_chain n (application (empty s) ts) h = absurd cc
nil_chain n (application _ ts) h = refl

-- ---- a declared function

pub place_all : {m : Name → Meaning} {b : Bool} {ws : List Written} {ts : Terms} {ss : List Sort} → AllBack m b ws ts ss → all_at checked ss (typings m (plain_all (places ws))) ≡ Some ts
place_all back_none = refl
place_all {m = m} (back_more {w = w} {ws = ws} {t = t} {ts = ts} {s = s} {ss = ss} i o is) =
    ap (λ (o : Option Term). option_and_then (λ (u : Term). option_map (terms.more u) (all_at checked ss (typings m (plain_all (places ws))))) o) i.placed
    ∙ ap (λ (o : Option Terms). option_map (terms.more t) o) (place_all is)

exact_step : (x : Option Term) (y : Option Terms) (us : Terms) (t : Term) (ts : Terms) → option_and_then (λ (u : Term). option_map (terms.more u) y) x ≡ Some us → ((u : Term) → x ≡ Some u → u ≡ t) → ((vs : Terms) → y ≡ Some vs → vs ≡ ts) → us ≡ terms.more t ts
exact_step None y us t ts h e f = absurd cc
exact_step (Some x) None us t ts h e f = absurd cc
exact_step (Some x) (Some y) us t ts h e f = let k : us ≡ terms.more x y = cc in k ∙ ap₂ (λ (v : Term) (vs : Terms). terms.more v vs) (e x refl) (f y refl)

-- where the printed arguments are exact, they are the arguments
pub place_exact : {m : Name → Meaning} {b : Bool} {ws : List Written} {ts : Terms} {ss : List Sort} → AllBack m b ws ts ss → (us : Terms) → all_at exactly ss (typings m (plain_all (places ws))) ≡ Some us → us ≡ ts
place_exact back_none us h = cc
place_exact {m = m} (back_more {w = w} {ws = ws} {t = t} {ts = ts} {s = s} {ss = ss} i o is) us h =
    exact_step (exactly s (typing m (plain w.placed))) (all_at exactly ss (typings m (plain_all (places ws)))) us t ts h i.agrees (place_exact is)

plain_call : (x : List ℕ) (es : Expressions) → plain (call x es) ≡ typed.word x (plain_all es)
plain_call x none = refl
plain_call x (more e es) = refl

abbrev of_terms : Signature → Terms → Inferred
of_terms f us = record { term = apply f.symbol us; sort = f.result }

either_found : (x y : Option Terms) (ts : Terms) (f : Signature) → ((us : Terms) → x ≡ Some us → us ≡ ts) → y ≡ Some ts
    → option_or (option_or (option_map (of_terms f) x) None) (option_or None (option_or (option_map (of_terms f) y) None)) ≡ Some (of_terms f ts)
either_found None y ts f e h = ap (λ (o : Option Terms). option_or (option_map (of_terms f) o) None) h
either_found (Some us) y ts f e h = ap (λ (vs : Terms). Some (of_terms f vs)) (e us refl)

neither : (o : Bool) (x : Option Term) → option_or (if o then None else None) x ≡ x
neither true x = refl
neither false x = refl

-- by the only function of a name, with its arguments in places of declared sort
placed_call : (g : Data) {m : Name → Meaning} {x : List ℕ} {k : ℕ} {ws : List Written} {ts : Terms} {b : Bool} → m x ≡ functions (signature g (function k) ∷ []) None → AllBack m b ws ts (argument_sorts g (function k))
    → Infers m (typed.word x (plain_all (places ws))) (application (function k) ts) (result_sort g (function k))
placed_call g {m = m} {x = x} {k = k} {ws = ws} {ts = ts} means is =
    let tys : List Typing = typings m (plain_all (places ws)) in
    let found : call_infers (signature g (function k) ∷ []) None tys ≡ Some (record { term = application (function k) ts; sort = result_sort g (function k) })
    = either_found (all_at exactly (argument_sorts g (function k)) tys) (all_at checked (argument_sorts g (function k)) tys) ts (signature g (function k)) (place_exact is) (place_all is) in
    record {
      inferred = ap (λ (r : Meaning). (word_typing r tys).infers) means ∙ found;
      checks = ap (λ (r : Meaning). (word_typing r tys).checks (result_sort g (function k))) means
          ∙ neither (is_some (first_exact tys (signature g (function k) ∷ []))) (option_and_then (embedded (result_sort g (function k))) (call_infers (signature g (function k) ∷ []) None tys))
          ∙ ap (option_and_then (embedded (result_sort g (function k)))) found ∙ own_sort (result_sort g (function k)) (application (function k) ts);
    }

function_back : {g : Data} {vs : List Sort} {xs : List ℕ} {n : Names} {m : Name → Meaning} (ok : ReadsNames g vs xs n m) (k : ℕ) (b : Bool) {ws : List Written} {ts : Terms} → n.once k ≡ b → IsSymbol g (function k) → AllBack m b ws ts (argument_sorts g (function k))
    → Back m (in_both (call (n.function k) (cond b (places ws) (opens ws)))) (application (function k) ts) (result_sort g (function k))
function_back {g = g} {n = n} {m = m} ok k true {ws = ws} {ts = ts} h sym_ is =
    same_in_both (subst (λ (e : typed.Expression). Infers m e (application (function k) ts) (result_sort g (function k))) (sym (plain_call (n.function k) (places ws))) (placed_call g {x = n.function k} {k = k} {ws = ws} {ts = ts} (ok.once k h) is))
function_back {g = g} {n = n} {m = m} ok k false {ws = ws} {ts = ts} h sym_ is =
    same_in_both (infers_built {g = g} {n = n} {f = function k} (ok.symbols (function k) sym_ refl) refl is)

-- ---- the whole

result_is : {m : Name → Meaning} {w : Written} {t : Term} {r s : Sort} → Back m w t r → r ≡ s → Back m w t s
result_is {m = m} {w = w} {t = t} b e = subst (λ (q : Sort). Back m w t q) e b

-- the parts of |> with two arguments
cons_back : {g : Data} {vs : List Sort} {xs : List ℕ} {n : Names} {m : Name → Meaning} (ok : ReadsNames g vs xs n m) (a : Sort) (t u : Term) → IsSymbol g (cons a) → Back m (written n t) t a → is_nil t ≡ false → Back m (written n u) u (list a)
    → Back m (written_with n (cons a) (written n t ∷ written n u ∷ [])) (application (cons a) (terms.more t (terms.more u terms.none))) (list a)
cons_back {n = n} ok a t u is b o c = elements_back (written n u).chain (written n t) (written n u) (ok.symbols (cons a) is refl) (b.opened o) c refl (nil_chain n u)

empty_back : {m : Name → Meaning} (a : Sort) → Back m (record { opened = listed none; placed = listed none; chain = Some none; name = None }) (application (empty a) terms.none) (list a)
empty_back {m = m} a = record {
  opened = λ o. absurd cc;
  placed = refl;
  agrees = λ u h. absurd cc;
  chain = λ es h. let same : none ≡ es = cc in subst (λ (fs : Expressions). ChainBack m fs (application (empty a) terms.none) (list a)) same (record { element = a; is_list = refl; reads = refl; wide = refl });
  name = λ x h. absurd cc;
}

mutual
  pub back : {g : Data} {vs : List Sort} {xs : List ℕ} {n : Names} {m : Name → Meaning} (ok : ReadsNames g vs xs n m) (t : Term) (s : Sort) → HasSort g vs t s → IsWritable n t → IsOver xs t → Back m (written n t) t s
  back {n = n} {m = m} ok (variable v) s h w q =
      let means = ok.variables v s q h in
      let i : Infers m (plain (named (n.variable v))) (variable v) s = record { inferred = ap (λ (k : Meaning). (word_typing k []).infers) means; checks = ap (λ (k : Meaning). (word_typing k []).checks s) means ∙ own_sort s (variable v) } in
      record { opened = λ o. i; placed = i.checks; agrees = exact_same i; chain = λ es e. absurd cc; name = λ x e. let same : n.variable v ≡ x = cc in record { number = v; means = subst (λ (y : List ℕ). m y ≡ bound v s) same means; is = refl } }
  back {m = m} ok (terms.numeral a z) s h w q = result_is (number_back ok a z (subst (λ (q : Sort). HasNumeral q z) (sym h.0) h.1)) h.0
  back ok (unknown d k) s h w q = absurd w
  back {g = g} {n = n} ok (application truth ts) s h w q = in_general {g = g} {n = n} {f = truth} (ok.symbols truth h.0 refl) refl (backs ok ts (argument_sorts g truth) false h.1 w q) h.2 h.3
  back {g = g} {n = n} ok (application falsity ts) s h w q = in_general {g = g} {n = n} {f = falsity} (ok.symbols falsity h.0 refl) refl (backs ok ts (argument_sorts g falsity) false h.1 w q) h.2 h.3
  back {g = g} {n = n} ok (application negation ts) s h w q = in_general {g = g} {n = n} {f = negation} (ok.symbols negation h.0 refl) refl (backs ok ts (argument_sorts g negation) false h.1 w q) h.2 h.3
  back {g = g} {n = n} ok (application conjunction ts) s h w q = in_general {g = g} {n = n} {f = conjunction} (ok.symbols conjunction h.0 refl) refl (backs ok ts (argument_sorts g conjunction) false h.1 w q) h.2 h.3
  back {g = g} {n = n} ok (application disjunction ts) s h w q = in_general {g = g} {n = n} {f = disjunction} (ok.symbols disjunction h.0 refl) refl (backs ok ts (argument_sorts g disjunction) false h.1 w q) h.2 h.3
  back {g = g} {n = n} ok (application implication ts) s h w q = in_general {g = g} {n = n} {f = implication} (ok.symbols implication h.0 refl) refl (backs ok ts (argument_sorts g implication) false h.1 w q) h.2 h.3
  back {g = g} {n = n} ok (application (equality a) ts) s h w q = in_general {g = g} {n = n} {f = equality a} (ok.symbols (equality a) h.0 refl) refl (backs ok ts (argument_sorts g (equality a)) false h.1 w q) h.2 h.3
  back {g = g} {n = n} ok (application (inequality a) ts) s h w q = in_general {g = g} {n = n} {f = inequality a} (ok.symbols (inequality a) h.0 refl) refl (backs ok ts (argument_sorts g (inequality a)) false h.1 w q) h.2 h.3
  back {g = g} {n = n} ok (application (conditional a) ts) s h w q = in_general {g = g} {n = n} {f = conditional a} (ok.symbols (conditional a) h.0 refl) refl (backs ok ts (argument_sorts g (conditional a)) false h.1 w q) h.2 h.3
  back {g = g} {n = n} ok (application (comparison c a) ts) s h w q = in_general {g = g} {n = n} {f = comparison c a} (ok.symbols (comparison c a) h.0 refl) refl (backs ok ts (argument_sorts g (comparison c a)) false h.1 w q) h.2 h.3
  back {g = g} {n = n} ok (application (minus a) ts) s h w q = in_general {g = g} {n = n} {f = minus a} (ok.symbols (minus a) h.0 refl) refl (backs ok ts (argument_sorts g (minus a)) false h.1 w q) h.2 h.3
  back {g = g} {n = n} ok (application (snoc a) ts) s h w q = in_general {g = g} {n = n} {f = snoc a} (ok.symbols (snoc a) h.0 refl) refl (backs ok ts (argument_sorts g (snoc a)) false h.1 w q) h.2 h.3
  back {g = g} {n = n} ok (application (concatenation a) ts) s h w q = in_general {g = g} {n = n} {f = concatenation a} (ok.symbols (concatenation a) h.0 refl) refl (backs ok ts (argument_sorts g (concatenation a)) false h.1 w q) h.2 h.3
  back {g = g} {n = n} ok (application (size a) ts) s h w q = in_general {g = g} {n = n} {f = size a} (ok.symbols (size a) h.0 refl) refl (backs ok ts (argument_sorts g (size a)) false h.1 w q) h.2 h.3
  back {g = g} {n = n} ok (application (element_at a) ts) s h w q = in_general {g = g} {n = n} {f = element_at a} (ok.symbols (element_at a) h.0 refl) refl (backs ok ts (argument_sorts g (element_at a)) false h.1 w q) h.2 h.3
  back {g = g} {n = n} ok (application (head a) ts) s h w q = in_general {g = g} {n = n} {f = head a} (ok.symbols (head a) h.0 refl) refl (backs ok ts (argument_sorts g (head a)) false h.1 w q) h.2 h.3
  back {g = g} {n = n} ok (application (rhead a) ts) s h w q = in_general {g = g} {n = n} {f = rhead a} (ok.symbols (rhead a) h.0 refl) refl (backs ok ts (argument_sorts g (rhead a)) false h.1 w q) h.2 h.3
  back {g = g} {n = n} ok (application (tail a) ts) s h w q = in_general {g = g} {n = n} {f = tail a} (ok.symbols (tail a) h.0 refl) refl (backs ok ts (argument_sorts g (tail a)) false h.1 w q) h.2 h.3
  back {g = g} {n = n} ok (application (rtail a) ts) s h w q = in_general {g = g} {n = n} {f = rtail a} (ok.symbols (rtail a) h.0 refl) refl (backs ok ts (argument_sorts g (rtail a)) false h.1 w q) h.2 h.3
  back {g = g} {n = n} ok (application (membership a) ts) s h w q = in_general {g = g} {n = n} {f = membership a} (ok.symbols (membership a) h.0 refl) refl (backs ok ts (argument_sorts g (membership a)) false h.1 w q) h.2 h.3
  back {g = g} {n = n} ok (application (arithmetic op ss to) ts) s h w q = in_general {g = g} {n = n} {f = arithmetic op ss to} (ok.symbols (arithmetic op ss to) h.0 refl) (operation_fits h.0) (backs ok ts ss false h.1 w q) h.2 h.3
  back ok (application (empty a) terms.none) s h w q = result_is (empty_back a) h.2
  back ok (application (empty a) (terms.more t ts)) s h w q = absurd h.1
  back ok (application (cons a) terms.none) s h w q = absurd h.1
  back ok (application (cons a) (terms.more t terms.none)) s h w q = absurd h.1.1
  back ok (application (cons a) (terms.more t (terms.more u terms.none))) s h w q = result_is (cons_back ok a t u h.0 (back ok t a h.1.0 w.0 q.0) w.1 (back ok u (list a) h.1.1.0 w.2.0 q.1.0)) h.2
  back ok (application (cons a) (terms.more t (terms.more u (terms.more v ts)))) s h w q = absurd h.1.1.1
  back ok (application (upcast a b) terms.none) s h w q = absurd h.1
  back {g = g} {n = n} {m = m} ok (application (upcast a b) (terms.more t terms.none)) s h w q =
      let i = back ok t a h.1.0 w.0 q.0 in
      result_is (cast_back (written n t).name (applied_to (upcast_name a b) (more (written n t).opened none)) h.0 i.name (of_application (called_by (ok.symbols (upcast a b) h.0 refl) (one_argument (i.opened (w.1 refl)))) refl h.3)) h.2
  back ok (application (upcast a b) (terms.more t (terms.more u ts))) s h w q = absurd h.1.1
  back {g = g} {n = n} ok (application (function k) ts) s h w q = result_is (function_back ok k (n.once k) refl h.0 (backs ok ts (argument_sorts g (function k)) (n.once k) h.1 w q)) h.2

  pub backs : {g : Data} {vs : List Sort} {xs : List ℕ} {n : Names} {m : Name → Meaning} (ok : ReadsNames g vs xs n m) (ts : Terms) (ss : List Sort) (b : Bool) → HaveSorts g vs ts ss → AreWritable n b ts → AreOver xs ts → AllBack m b (written_all n ts) ts ss
  backs ok terms.none [] b h w q = back_none
  backs ok terms.none (s ∷ ss) b h w q = absurd h
  backs ok (terms.more t ts) [] b h w q = absurd h
  backs ok (terms.more t ts) (s ∷ ss) b h w q = back_more (back ok t s h.0 w.0 q.0) w.1 (backs ok ts ss b h.1 w.2 q.1)

pub terms_read_back : TermsReadBack
terms_read_back g vs xs n m ok t s h w q = let b = back {g = g} {vs = vs} {xs = xs} {n = n} {m = m} ok t s h w q in (λ o. (b.opened o).inferred, b.placed)
