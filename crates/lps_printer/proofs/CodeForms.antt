-- How the functions of a pool's terms are worded in code.
use Rattle.std.proofs.Common.{◌≡◌, ℕ, suc, ◌<◌, ◌≤◌, ◌-◌, Bool, true, false, List, [], ◌∷◌, length, get_or, take, drop, Option, Some, None, refl, sym, ap, ◌∙◌, subst, arith}
use Rattle.std.specs.Prelude.{slice_get, option_map, IfSome}
use Rattle.std.proofs.Math.Seq.{take-length}
use Rattle.mcrl2_syntax.specs.declared.data_tree.PrefixSign.{PrefixSign}
use Rattle.mcrl2_syntax.specs.declared.data_tree.InfixSign.{InfixSign}
use Rattle.mcrl2_syntax.specs.declared.data_tree.InfixSign.TheVariants.{Prepend}
use Rattle.data_theory.specs.declared.ids.FunId.{FunId}
use Rattle.data_theory.specs.declared.ids.SortId.{SortId}
use Rattle.data_theory.specs.declared.ids.TermId.{TermId}
use Rattle.data_theory.specs.declared.words.NumberWord.TheVariants as numbers
use Rattle.data_theory.specs.declared.words.ListWord.TheVariants as lists
use Rattle.data_theory.specs.declared.words.Word.{Word}
use Rattle.data_theory.specs.declared.words.Word.TheVariants as words
use Rattle.data_theory.specs.Terms.{Sort, Symbol, Term, Terms, variable, application, none, more}
use Rattle.data_theory.specs.Functions.{Function, arguments_of}
use Rattle.data_theory.specs.IdTables.{IsTable}
use Rattle.data_theory.specs.IdSymbols.{element_of}
use Rattle.data_theory.specs.IdTerms.{sort_under, symbol_under}
use Rattle.data_theory.proofs.IdSortLemmas.{read_within}
use Rattle.data_theory.proofs.IdSymbolLemmas.{declared_is}
use Rattle.lps_printer.specs.declared.forms.Form.{Form}
use Rattle.lps_printer.specs.declared.forms.Outermost.{Outermost}
use Rattle.lps_printer.specs.declared.forms.Outermost.TheVariants.{Closed, Infix}
use Rattle.lps_printer.specs.declared.term_writer.TermWriter as code
use Rattle.lps_printer.specs.PrintedExpressions as form
use Rattle.lps_printer.specs.PrintedExpressions.{Expression, Expressions, listed, named, applied, prefix, binary}
use Rattle.lps_printer.specs.WrittenTerms.{Names, before, between, build, call, an_element, manner, shape}
use Rattle.lps_printer.specs.WordForms.{WordClass, of_empty, of_element, of_cast, of_others, is_of_empty, is_of_element, is_of_cast, word_class, word_shape, at_sort, shape_by, outermost_in, IsOutermost}
use Rattle.lps_printer.specs.Wordings.{Wording, opened, placed, in_place, place_of, IsConstantOf, no_constant, a_constant}
use Rattle.lps_printer.specs.TermParts.{ends_in_empty, variable_under, named_or, nil_or, are_two, worded, both_of}
use Rattle.lps_printer.specs.CodeWordings.{IsWording, HasWord, term_by, terms_by, application_by}
use Rattle.lps_printer.proofs.CodeWords.{shape_of_word, manner_of_word}
use Rattle.lps_printer.proofs.WordedTerms.{declared_worded, built_in_worded, cast_in_open, cast_in_place, empty_in_open, empty_in_place, pair_worded, no_pair_worded, chain_goes_on, chain_ends, elements_of}
use Rattle.lps_printer.proofs.Outermosts.{closed_name, closed_list, outermost_infix, outermost_built, outermost_equal}
use Rattle.lps_printer.proofs.CodeTerms.{length_worded}

-- what a clause says of an entry that is there
pub at_entry : {A : Type 0} (P : A → Type 0) (o : Option A) (x : A) → o ≡ Some x → IfSome o P → P x
at_entry P o x e h = subst (λ y. IfSome y P) e h

pub empty_word : (w : Word) → is_of_empty (word_class w) ≡ true → w ≡ words.List lists.Empty
empty_word words.True e = cc
empty_word words.False e = cc
empty_word words.Not e = cc
empty_word words.And e = cc
empty_word words.Or e = cc
empty_word words.Implies e = cc
empty_word words.Equal e = cc
empty_word words.Different e = cc
empty_word words.If e = cc
empty_word words.Less e = cc
empty_word words.AtMost e = cc
empty_word words.Greater e = cc
empty_word words.AtLeast e = cc
empty_word (words.Number numbers.Plus) e = cc
empty_word (words.Number numbers.Minus) e = cc
empty_word (words.Number numbers.Times) e = cc
empty_word (words.Number numbers.Div) e = cc
empty_word (words.Number numbers.Mod) e = cc
empty_word (words.Number numbers.Exp) e = cc
empty_word (words.Number numbers.Min) e = cc
empty_word (words.Number numbers.Max) e = cc
empty_word (words.Number numbers.Abs) e = cc
empty_word (words.Number numbers.Succ) e = cc
empty_word (words.Number numbers.Pred) e = cc
empty_word (words.Number numbers.PosToNat) e = cc
empty_word (words.Number numbers.NatToInt) e = cc
empty_word (words.Number numbers.PosToInt) e = cc
empty_word (words.Number numbers.NatToPos) e = cc
empty_word (words.Number numbers.IntToNat) e = cc
empty_word (words.Number numbers.IntToPos) e = cc
empty_word (words.List lists.Empty) e = refl
empty_word (words.List lists.Cons) e = cc
empty_word (words.List lists.Snoc) e = cc
empty_word (words.List lists.Concat) e = cc
empty_word (words.List lists.Size) e = cc
empty_word (words.List lists.At) e = cc
empty_word (words.List lists.Head) e = cc
empty_word (words.List lists.Rhead) e = cc
empty_word (words.List lists.Tail) e = cc
empty_word (words.List lists.Rtail) e = cc
empty_word (words.List lists.In) e = cc

pub has_word : (c : code.TermWriter) (f : FunId) (o : Option Word) (w : Word) → f.0 < length c.sig.now.functions → IfSome (slice_get c.sig.now.functions f.0) (λ (e : Function). e.word ≡ o) → o ≡ Some w → HasWord c f w
has_word c f o w l h e = let x = read_within c.sig.now.functions f.0 l in (x.0, x.1, at_entry (λ (e : Function). e.word ≡ o) (slice_get c.sig.now.functions f.0) x.0 x.1 h ∙ e)

-- ---- by the manner of a word
plain_by : (w : Wording) (y : Symbol) (s : Sort) (k : WordClass) (ts : Terms) → manner y ≡ at_sort s k → is_of_empty k ≡ false → is_of_element k ≡ false → (b : Bool)
    → in_place w b (application y ts) ≡ named_or (option_map w.names.variable (variable_under b (is_of_cast k) ts)) (build (shape w.names y) (worded w false ts))
plain_by w y s of_empty ts m e f b = cc
plain_by w y s of_element ts m e f b = cc
plain_by w y s of_cast ts m e f true = cast_in_place w y ts m
plain_by w y s of_cast ts m e f false = cast_in_open w y ts m
plain_by w y s of_others ts m e f true = built_in_worded w y ts m true
plain_by w y s of_others ts m e f false = built_in_worded w y ts m false

closed_nil : (o : Option (List ℕ)) → IsOutermost Closed (nil_or o)
closed_nil None = closed_list form.none
closed_nil (Some x) = closed_name x

element_by : (s : Sort) (k : WordClass) → is_of_element k ≡ true → at_sort s k ≡ an_element
element_by s of_empty e = cc
element_by s of_element e = refl
element_by s of_cast e = cc
element_by s of_others e = cc

shape_by_element : (w : Word) (n : ℕ) → is_of_element (word_class w) ≡ true → word_shape w n ≡ between Prepend
shape_by_element words.True n e = cc
shape_by_element words.False n e = cc
shape_by_element words.Not n e = cc
shape_by_element words.And n e = cc
shape_by_element words.Or n e = cc
shape_by_element words.Implies n e = cc
shape_by_element words.Equal n e = cc
shape_by_element words.Different n e = cc
shape_by_element words.If n e = cc
shape_by_element words.Less n e = cc
shape_by_element words.AtMost n e = cc
shape_by_element words.Greater n e = cc
shape_by_element words.AtLeast n e = cc
shape_by_element (words.Number numbers.Plus) n e = cc
shape_by_element (words.Number numbers.Minus) n e = cc
shape_by_element (words.Number numbers.Times) n e = cc
shape_by_element (words.Number numbers.Div) n e = cc
shape_by_element (words.Number numbers.Mod) n e = cc
shape_by_element (words.Number numbers.Exp) n e = cc
shape_by_element (words.Number numbers.Min) n e = cc
shape_by_element (words.Number numbers.Max) n e = cc
shape_by_element (words.Number numbers.Abs) n e = cc
shape_by_element (words.Number numbers.Succ) n e = cc
shape_by_element (words.Number numbers.Pred) n e = cc
shape_by_element (words.Number numbers.PosToNat) n e = cc
shape_by_element (words.Number numbers.NatToInt) n e = cc
shape_by_element (words.Number numbers.PosToInt) n e = cc
shape_by_element (words.Number numbers.NatToPos) n e = cc
shape_by_element (words.Number numbers.IntToNat) n e = cc
shape_by_element (words.Number numbers.IntToPos) n e = cc
shape_by_element (words.List lists.Empty) n e = cc
shape_by_element (words.List lists.Cons) n e = refl
shape_by_element (words.List lists.Snoc) n e = cc
shape_by_element (words.List lists.Concat) n e = cc
shape_by_element (words.List lists.Size) n e = cc
shape_by_element (words.List lists.At) n e = cc
shape_by_element (words.List lists.Head) n e = cc
shape_by_element (words.List lists.Rhead) n e = cc
shape_by_element (words.List lists.Tail) n e = cc
shape_by_element (words.List lists.Rtail) n e = cc
shape_by_element (words.List lists.In) n e = cc

module _ (c : code.TermWriter) (table : IsTable c.sig.now) (f : FunId) (xs : List TermId) where
  -- ---- functions with words
  module _ (word : Word) (h : HasWord c f word) where
    word_manner : manner (symbol_under c.sig.now f) ≡ at_sort (sort_under c.sig.now h.0.result) (word_class word)
    word_manner = manner_of_word c.sig.now table f h.0 word h.1 h.2

    pub word_built : (n : List SortId) → IfSome (slice_get c.sig.now.functions f.0) (λ e. arguments_of e ≡ n) → (ns : Names) → shape ns (symbol_under c.sig.now f) ≡ word_shape word (length n)
    word_built n a ns = shape_of_word c.sig.now table f h.0 word h.1 h.2 ns ∙ ap (λ l. word_shape word (length l)) (at_entry (λ e. arguments_of e ≡ n) (slice_get c.sig.now.functions f.0) h.0 h.1 a)

    module _ (n : List SortId) (a : IfSome (slice_get c.sig.now.functions f.0) (λ e. arguments_of e ≡ n)) (no_empty : is_of_empty (word_class word) ≡ false) (no_element : is_of_element (word_class word) ≡ false) where
      pub plain_worded : (w : Wording) (b : Bool) → in_place w b (application_by c f xs) ≡ named_or (option_map w.names.variable (variable_under b (is_of_cast (word_class word)) (terms_by c xs))) (build (word_shape word (length n)) (worded w false (terms_by c xs)))
      plain_worded w b =
          plain_by w (symbol_under c.sig.now f) (sort_under c.sig.now h.0.result) (word_class word) (terms_by c xs) word_manner no_empty no_element b
          ∙ ap (λ x. named_or (option_map w.names.variable (variable_under b (is_of_cast (word_class word)) (terms_by c xs))) (build x (worded w false (terms_by c xs)))) (word_built n a w.names)

      -- where no variable stands in its place
      pub plain_formed : (w : Wording) (b : Bool) → variable_under b (is_of_cast (word_class word)) (terms_by c xs) ≡ None → build (word_shape word (length n)) (worded w false (terms_by c xs)) ≡ in_place w b (application_by c f xs)
      plain_formed w b e = sym (plain_worded w b ∙ ap (λ o. named_or (option_map w.names.variable o) (build (word_shape word (length n)) (worded w false (terms_by c xs)))) e)

      pub plain_variable : (w : Wording) (b : Bool) (v : ℕ) → variable_under b (is_of_cast (word_class word)) (terms_by c xs) ≡ Some v → named (w.names.variable v) ≡ in_place w b (application_by c f xs)
      plain_variable w b v e = sym (plain_worded w b ∙ ap (λ o. named_or (option_map w.names.variable o) (build (word_shape word (length n)) (worded w false (terms_by c xs)))) e)

      pub plain_outermost : (w : Wording) (x : Form) (o : Outermost) → shape_by word x ≡ word_shape word (length n) → o ≡ outermost_in x (length xs) → IsOutermost o (opened w (application_by c f xs))
      plain_outermost w x o s q =
          let es : Expressions = worded w false (terms_by c xs) in
          let built : build (shape_by word x) es ≡ opened w (application_by c f xs) = ap (λ y. build y es) s ∙ plain_formed w false refl in
          subst (λ p. IsOutermost p (opened w (application_by c f xs))) (sym (q ∙ ap (outermost_in x) (sym (length_worded c w false xs)))) (outermost_equal built (outermost_built word x es))

    pub element_manner : is_of_element (word_class word) ≡ true → manner (symbol_under c.sig.now f) ≡ an_element
    element_manner e = word_manner ∙ element_by (sort_under c.sig.now h.0.result) (word_class word) e

    pub element_shape : is_of_element (word_class word) ≡ true → (ns : Names) → shape ns (symbol_under c.sig.now f) ≡ between Prepend
    element_shape e ns = shape_of_word c.sig.now table f h.0 word h.1 h.2 ns ∙ shape_by_element word (length (arguments_of h.0)) e

  -- ---- `[]`
  module _ (h : HasWord c f (words.List lists.Empty)) where
    pub empty_placed : (w : Wording) → listed form.none ≡ placed w (application_by c f xs)
    empty_placed w = sym (empty_in_place w (symbol_under c.sig.now f) (terms_by c xs) (element_of (sort_under c.sig.now h.0.result)) (manner_of_word c.sig.now table f h.0 (words.List lists.Empty) h.1 h.2))

    nil_is : (w : Wording) → opened w (application_by c f xs) ≡ nil_or (option_map w.names.function (w.constant (element_of (sort_under c.sig.now h.0.result))))
    nil_is w = empty_in_open w (symbol_under c.sig.now f) (terms_by c xs) (element_of (sort_under c.sig.now h.0.result)) (manner_of_word c.sig.now table f h.0 (words.List lists.Empty) h.1 h.2)

    pub empty_outermost : (w : Wording) → IsOutermost Closed (opened w (application_by c f xs))
    empty_outermost w = outermost_equal (sym (nil_is w)) (closed_nil (option_map w.names.function (w.constant (element_of (sort_under c.sig.now h.0.result)))))

    constant_by : (w : Wording) (o : Option ℕ) (i : Option FunId) → IsConstantOf c.sig.now w o i → i ≡ None → o ≡ None
    constant_by w o i no_constant e = refl
    constant_by w o i (a_constant at name) e = cc

    named_by : (w : Wording) (o : Option ℕ) (i : Option FunId) (k : FunId) (x : List ℕ) → IsConstantOf c.sig.now w o i → i ≡ Some k
        → IfSome (slice_get c.sig.now.functions k.0) (λ (e : Function). slice_get c.sig.now.texts e.name.0 ≡ Some x) → nil_or (option_map w.names.function o) ≡ named x
    named_by w o i k x no_constant e n = cc
    named_by w o i k x (a_constant {k = m} {i = j} {e = g} at name) e n =
        let same : j ≡ k = cc in
        let text : slice_get c.sig.now.texts g.name.0 ≡ Some x = at_entry (λ (e : Function). slice_get c.sig.now.texts e.name.0 ≡ Some x) (slice_get c.sig.now.functions k.0) g (ap (λ (y : FunId). slice_get c.sig.now.functions y.0) (sym same) ∙ at) n in
        let x_is : Some (w.names.function m) ≡ Some x = sym name ∙ text in
        ap nil_or x_is

    pub empty_opened : (w : Wording) → IsWording c w → get_or c.constants.now f.0 None ≡ None → listed form.none ≡ opened w (application_by c f xs)
    empty_opened w k e =
        let constant = k.empty_lists f h.0 h.1 h.2 in
        sym (nil_is w ∙ ap (λ o. nil_or (option_map w.names.function o)) (constant_by w (w.constant (element_of (sort_under c.sig.now h.0.result))) (get_or c.constants.now f.0 None) constant e))

    pub constant_opened : (w : Wording) → IsWording c w → (i : FunId) (x : List ℕ) → get_or c.constants.now f.0 None ≡ Some i
        → IfSome (slice_get c.sig.now.functions i.0) (λ (e : Function). slice_get c.sig.now.texts e.name.0 ≡ Some x) → named x ≡ opened w (application_by c f xs)
    constant_opened w k i x e n = sym (nil_is w ∙ named_by w (w.constant (element_of (sort_under c.sig.now h.0.result))) (get_or c.constants.now f.0 None) i x (k.empty_lists f h.0 h.1 h.2) e n)

  -- ---- declared functions
  module _ (e : Function) (at : slice_get c.sig.now.functions f.0 ≡ Some e) (plain : e.word ≡ None) where
    pub declared_call : (w : Wording) → IsWording c w → (b : Bool) (x : List ℕ) → slice_get c.sig.now.texts e.name.0 ≡ Some x → call x (worded w (get_or c.once.now f.0 false) (terms_by c xs)) ≡ in_place w b (application_by c f xs)
    declared_call w k b x n =
        let text : Some (w.names.function (place_of c.sig.now f)) ≡ Some x = sym (k.functions f e at plain) ∙ n in
        let name : w.names.function (place_of c.sig.now f) ≡ x = cc in
        sym (ap (λ y. in_place w b (application y (terms_by c xs))) (declared_is c.sig.now table f e at plain)
        ∙ declared_worded w (place_of c.sig.now f) (terms_by c xs) (get_or c.once.now f.0 false) (k.once_declared f e at plain) b
        ∙ ap (λ y. call y (worded w (get_or c.once.now f.0 false) (terms_by c xs))) name)

  pub declared_calls : f.0 < length c.sig.now.functions → (o : Option Word) → IfSome (slice_get c.sig.now.functions f.0) (λ (e : Function). e.word ≡ o) → o ≡ None → (x : List ℕ) → IfSome (slice_get c.sig.now.functions f.0) (λ (e : Function). slice_get c.sig.now.texts e.name.0 ≡ Some x)
      → (once : Bool) → once ≡ get_or c.once.now f.0 false → (w : Wording) → IsWording c w → (b : Bool) → call x (worded w once (terms_by c xs)) ≡ in_place w b (application_by c f xs)
  declared_calls l o h e x n once q w k b =
      let y = read_within c.sig.now.functions f.0 l in
      let plain = at_entry (λ (e : Function). e.word ≡ o) (slice_get c.sig.now.functions f.0) y.0 y.1 h ∙ e in
      let text = at_entry (λ (e : Function). slice_get c.sig.now.texts e.name.0 ≡ Some x) (slice_get c.sig.now.functions f.0) y.0 y.1 n in
      ap (λ d. call x (worded w d (terms_by c xs))) q ∙ declared_call y.0 y.1 plain w k b x text

  -- ---- `|>`
  module _ (word : Word) (h : HasWord c f word) (e : is_of_element (word_class word) ≡ true) where
    pub no_pair_true : are_two (terms_by c xs) ≡ false → (w : Wording) (b : Bool) → form.true_ ≡ in_place w b (application_by c f xs)
    no_pair_true n w b = sym (no_pair_worded w (symbol_under c.sig.now f) (terms_by c xs) (element_manner word h e) (element_shape word h e w.names) n b)

-- ---- `|>`
pub two_terms : (c : code.TermWriter) (xs : List TermId) (d : TermId) → length xs ≡ 2 → terms_by c xs ≡ more (term_by c (get_or xs 0 d)) (more (term_by c (get_or xs 1 d)) none)
two_terms c [] d l = cc
two_terms c (x ∷ []) d l = absurd (omega (arith, l))
two_terms c (x ∷ y ∷ []) d l = refl
two_terms c (x ∷ y ∷ z ∷ xs) d l = absurd (omega (arith, l))

pub pair_is : (c : code.TermWriter) (table : IsTable c.sig.now) (f : FunId) (xs : List TermId) (word : Word) (h : HasWord c f word) → is_of_element (word_class word) ≡ true → (d : TermId) → length xs ≡ 2 → (w : Wording) (b : Bool)
    → (both_of w (term_by c (get_or xs 0 d)) (term_by c (get_or xs 1 d))).opened ≡ in_place w b (application_by c f xs)
pair_is c table f xs word h e d l w b =
    sym (ap (λ ts. in_place w b (application (symbol_under c.sig.now f) ts)) (two_terms c xs d l)
    ∙ pair_worded w (symbol_under c.sig.now f) (term_by c (get_or xs 0 d)) (term_by c (get_or xs 1 d)) (element_manner c table f xs word h e) b)

module _ (w : Wording) (y : Symbol) (m : manner y ≡ an_element) (t u : Term) where
  pub chain_closed : ends_in_empty u ≡ true → IsOutermost Closed (opened w (application y (more t (more u none))))
  chain_closed e =
      let es = elements_of w u e in
      outermost_equal (sym (pair_worded w y t u m false ∙ chain_ends w t u es.0 es.1)) (closed_list _)

  pub chain_infix : ends_in_empty u ≡ false → IsOutermost (Infix Prepend) (opened w (application y (more t (more u none))))
  chain_infix e = outermost_equal (sym (pair_worded w y t u m false ∙ chain_goes_on w t u e)) (outermost_infix Prepend (opened w t) (opened w u))

-- ---- calls, and signs with their operands
pub variable_worded : (w : Wording) (b : Bool) (v : ℕ) → named (w.names.variable v) ≡ in_place w b (variable v)
variable_worded w true v = refl
variable_worded w false v = refl

pub call_alone : (c : code.TermWriter) (w : Wording) (b : Bool) (xs : List TermId) (x : List ℕ) → length xs < 1 → named x ≡ call x (worded w b (terms_by c xs))
call_alone c w b [] x l = refl
call_alone c w b (y ∷ ys) x l = absurd (omega (arith, l))

pub call_applied : (c : code.TermWriter) (w : Wording) (b : Bool) (xs : List TermId) (x : List ℕ) (d : TermId) → 1 ≤ length xs
    → applied x (form.more (in_place w b (term_by c (get_or xs 0 d))) (worded w b (terms_by c (take (length xs - 1) (drop 1 xs))))) ≡ call x (worded w b (terms_by c xs))
call_applied c w b [] x d l = absurd (omega (arith, l))
call_applied c w b (y ∷ ys) x d l =
    let count : suc (length ys) - 1 ≡ length ys = omega arith in
    ap (λ zs. applied x (form.more (in_place w b (term_by c y)) (worded w b (terms_by c zs)))) (ap (λ n. take n ys) count ∙ take-length ys)

pub not_one_sign : (c : code.TermWriter) (w : Wording) (sign : PrefixSign) (xs : List TermId) → (length xs ≡ 1 → ⊥) → form.true_ ≡ build (before sign) (worded w false (terms_by c xs))
not_one_sign c w sign [] n = refl
not_one_sign c w sign (x ∷ []) n = absurd (n refl)
not_one_sign c w sign (x ∷ y ∷ xs) n = refl

pub one_sign : (c : code.TermWriter) (w : Wording) (sign : PrefixSign) (xs : List TermId) (d : TermId) → length xs ≡ 1 → prefix sign (opened w (term_by c (get_or xs 0 d))) ≡ build (before sign) (worded w false (terms_by c xs))
one_sign c w sign [] d l = cc
one_sign c w sign (x ∷ []) d l = refl
one_sign c w sign (x ∷ y ∷ xs) d l = absurd (omega (arith, l))

pub not_two_sides : (c : code.TermWriter) (w : Wording) (sign : InfixSign) (xs : List TermId) → (length xs ≡ 2 → ⊥) → form.true_ ≡ build (between sign) (worded w false (terms_by c xs))
not_two_sides c w sign [] n = refl
not_two_sides c w sign (x ∷ []) n = refl
not_two_sides c w sign (x ∷ y ∷ []) n = absurd (n refl)
not_two_sides c w sign (x ∷ y ∷ z ∷ xs) n = refl

pub two_sides : (c : code.TermWriter) (w : Wording) (sign : InfixSign) (xs : List TermId) (d : TermId) → length xs ≡ 2
    → binary sign (opened w (term_by c (get_or xs 0 d))) (opened w (term_by c (get_or xs 1 d))) ≡ build (between sign) (worded w false (terms_by c xs))
two_sides c w sign [] d l = cc
two_sides c w sign (x ∷ []) d l = absurd (omega (arith, l))
two_sides c w sign (x ∷ y ∷ []) d l = refl
two_sides c w sign (x ∷ y ∷ z ∷ xs) d l = absurd (omega (arith, l))
