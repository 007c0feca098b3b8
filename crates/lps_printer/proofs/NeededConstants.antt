-- Which empty lists stand in open places.
use Rattle.std.proofs.Common.{◌≡◌, ℕ, zero, suc, ◌+◌, ◌-◌, ◌<◌, ◌==◌, ◌||◌, Bool, true, false, cond, List, [], ◌∷◌, ◌++◌, length, map, get_or, take, drop, Option, None, refl, sym, ap, ◌∙◌, subst, arith, append-nil, drop-cons, add-one}
use Rattle.std.specs.Prelude.{slice_get, IfSome}
use Rattle.std.specs.List.{Contains, list_any}
use Rattle.std.proofs.lemmas.Bool.Decides.{Decides-eqb}
use Rattle.std.proofs.lemmas.Option.{slice_get_within}
use Rattle.indexmap.proofs.CallerLemmas.{Contains-list_any}
use Rattle.std.proofs.Math.Seq.{take-length, drop-length}
use Rattle.std.proofs.lemmas.List.{map-append}
use Rattle.std.proofs.lemmas.List.Elements.{All-push, All-contains}
use Rattle.data_theory.specs.declared.ids.FunId.{FunId}
use Rattle.data_theory.specs.declared.ids.TermId.{TermId}
use Rattle.data_theory.specs.declared.words.ListWord.TheVariants as lists
use Rattle.data_theory.specs.declared.words.Word.{Word}
use Rattle.data_theory.specs.declared.words.Word.TheVariants as words
use Rattle.data_theory.specs.Terms.{Sort, empty, Term, Terms, application, none, more}
use Rattle.data_theory.specs.Functions.{Function}
use Rattle.data_theory.specs.IdSymbols.{element_of}
use Rattle.data_theory.specs.IdTables.{IsTable}
use Rattle.data_theory.specs.IdTerms.{sort_under, symbol_under}
use Rattle.data_theory.specs.Signature.{Sig}
use Rattle.data_theory.proofs.IdSortLemmas.{read_within}
use Rattle.data_theory.proofs.IdSymbolLemmas.{declared_is, different_functions_mean_different_symbols}
use Rattle.term_pool.proofs.Lists.{contains_map, contained_from_map}
use Rattle.lps_printer.specs.declared.term_writer.TermWriter as code
use Rattle.lps_printer.specs.WrittenTerms.{Manner, no_elements, manner}
use Rattle.lps_printer.specs.WordForms.{WordClass, of_empty, of_element, of_cast, of_others, is_of_empty, is_of_element, word_class, at_sort}
use Rattle.lps_printer.specs.Wordings.{Wording, place_of}
use Rattle.lps_printer.specs.CodeWordings.{IsWording, HasWord, term_by, terms_by, application_by}
use Rattle.lps_printer.specs.AddedConstants.{result_or}
use Rattle.lps_printer.specs.NeededConstants.{nils, all_nils, element_nils, nils_in, Finds, finds_none, finds_new, finds_known, IsNil, nil_sort, FindsNils}
use Rattle.lps_printer.proofs.CodeWords.{manner_of_word}
use Rattle.lps_printer.proofs.CodeForms.{at_entry}
use Rattle.lps_printer.proofs.FilledLinears.{empty_manner}
use Rattle.lps_printer.proofs.WordedTerms.{IsPair}

-- ---- one after the other
finds_on : {a b c ss ts : List Sort} → Finds a ss b → Finds b ts c → Finds a (ss ++ ts) c
finds_on finds_none q = q
finds_on (finds_new n p) q = finds_new n (finds_on p q)
finds_on (finds_known k p) q = finds_known k (finds_on p q)

pub nothing_found : (g : Sig) (a : List FunId) → FindsNils g a a []
nothing_found g a = record { nils = λ h. h; finds = λ h. finds_none }

pub both_found : {g : Sig} {a b c : List FunId} {ss ts : List Sort} → FindsNils g a b ss → FindsNils g b c ts → FindsNils g a c (ss ++ ts)
both_found p q = record { nils = λ h. q.nils (p.nils h); finds = λ h. finds_on (p.finds h) (q.finds (p.nils h)) }

pub found_same : {g : Sig} {a b : List FunId} {ss ts : List Sort} → ss ≡ ts → FindsNils g a b ss → FindsNils g a b ts
found_same {g = g} {a = a} {b = b} e p = subst (λ xs. FindsNils g a b xs) e p

-- ---- terms
pub pair_nils : (o : ℕ → Bool) (b : Bool) (t x y : Term) → IsPair t x y → nils o false x ++ nils o true y ≡ nils o b t
pair_nils o b t x y p =
    sym (ap (nils o b) p.is
    ∙ ap (λ m. nils_in o b m (all_nils o false (more x (more y none))) (all_nils o true (more x (more y none))) (element_nils o (more x (more y none)))) p.element
    ∙ ap (λ xs. nils o false x ++ xs) (append-nil (nils o true y)))

by_element : (o : ℕ → Bool) (b : Bool) (s : Sort) (k : WordClass) (x y z : List Sort) → is_of_element k ≡ true → z ≡ nils_in o b (at_sort s k) x y z
by_element o b s of_empty x y z e = cc
by_element o b s of_element x y z e = refl
by_element o b s of_cast x y z e = cc
by_element o b s of_others x y z e = cc

by_others : (o : ℕ → Bool) (b : Bool) (s : Sort) (k : WordClass) (x y z : List Sort) → is_of_empty k ≡ false → is_of_element k ≡ false → x ≡ nils_in o b (at_sort s k) x y z
by_others o b s of_empty x y z e f = cc
by_others o b s of_element x y z e f = cc
by_others o b s of_cast x y z e f = refl
by_others o b s of_others x y z e f = refl

by_once : (o : ℕ → Bool) (k : ℕ) (p : Bool) (ts : Terms) → p ≡ o k → all_nils o p ts ≡ cond (o k) (all_nils o true ts) (all_nils o false ts)
by_once o k p ts e = ap (λ q. all_nils o q ts) e ∙ either (o k)
  where
    either : (q : Bool) → all_nils o q ts ≡ cond q (all_nils o true ts) (all_nils o false ts)
    either true = refl
    either false = refl

module _ (c : code.TermWriter) (table : IsTable c.sig.now) (f : FunId) (xs : List TermId) where
  abbrev nils_by : (o : ℕ → Bool) (b : Bool) → Manner → List Sort
  nils_by o b m = nils_in o b m (all_nils o false (terms_by c xs)) (all_nils o true (terms_by c xs)) (element_nils o (terms_by c xs))

  -- of a declared function
  pub declared_nils : f.0 < length c.sig.now.functions → (v : Option Word) → IfSome (slice_get c.sig.now.functions f.0) (λ (e : Function). e.word ≡ v) → v ≡ None → (once : Bool) → once ≡ get_or c.once.now f.0 false
      → (w : Wording) → IsWording c w → (b : Bool) → all_nils w.names.once once (terms_by c xs) ≡ nils w.names.once b (application_by c f xs)
  declared_nils l v h e once q w k b =
      let y = read_within c.sig.now.functions f.0 l in
      let plain = at_entry (λ (x : Function). x.word ≡ v) (slice_get c.sig.now.functions f.0) y.0 y.1 h ∙ e in
      by_once w.names.once (place_of c.sig.now f) once (terms_by c xs) (q ∙ sym (k.once_declared f y.0 y.1 plain))
      ∙ ap (λ z. nils w.names.once b (application z (terms_by c xs))) (sym (declared_is c.sig.now table f y.0 y.1 plain))

  module _ (word : Word) (h : HasWord c f word) (w : Wording) (b : Bool) where
    word_manner : at_sort (sort_under c.sig.now h.0.result) (word_class word) ≡ manner (symbol_under c.sig.now f)
    word_manner = sym (manner_of_word c.sig.now table f h.0 word h.1 h.2)

    pub rest_nils : is_of_element (word_class word) ≡ true → element_nils w.names.once (terms_by c xs) ≡ nils w.names.once b (application_by c f xs)
    rest_nils e = by_element w.names.once b (sort_under c.sig.now h.0.result) (word_class word) (all_nils w.names.once false (terms_by c xs)) (all_nils w.names.once true (terms_by c xs)) (element_nils w.names.once (terms_by c xs)) e ∙ ap (nils_by w.names.once b) word_manner

    pub plain_nils : is_of_empty (word_class word) ≡ false → is_of_element (word_class word) ≡ false → all_nils w.names.once false (terms_by c xs) ≡ nils w.names.once b (application_by c f xs)
    plain_nils e d = by_others w.names.once b (sort_under c.sig.now h.0.result) (word_class word) (all_nils w.names.once false (terms_by c xs)) (all_nils w.names.once true (terms_by c xs)) (element_nils w.names.once (terms_by c xs)) e d ∙ ap (nils_by w.names.once b) word_manner

  pub empty_nils : (h : HasWord c f (words.List lists.Empty)) (w : Wording) (b : Bool) → cond b [] (nil_sort c.sig.now f ∷ []) ≡ nils w.names.once b (application_by c f xs)
  empty_nils h w b =
      let sort : nil_sort c.sig.now f ≡ element_of (sort_under c.sig.now h.0.result) = ap (λ o. element_of (sort_under c.sig.now (result_or o))) h.1 in
      ap (λ s. cond b [] (s ∷ [])) sort ∙ ap (nils_by w.names.once b) (sym (manner_of_word c.sig.now table f h.0 (words.List lists.Empty) h.1 h.2))

-- ---- lists of terms
pub next_nils_of : (c : code.TermWriter) (o : ℕ → Bool) (b : Bool) (ids : List TermId) (i : ℕ) (d : TermId) → i < length ids
    → nils o b (term_by c (get_or ids i d)) ++ all_nils o b (terms_by c (drop (i + 1) ids)) ≡ all_nils o b (terms_by c (drop i ids))
next_nils_of c o b ids i d l =
    let cut : get_or ids i d ∷ drop (i + 1) ids ≡ drop i ids = sym (drop-cons ids i d l ∙ ap (λ k. get_or ids i d ∷ drop k ids) (sym (add-one i))) in
    ap (λ xs. all_nils o b (terms_by c xs)) cut

pub no_first_nils : (c : code.TermWriter) (o : ℕ → Bool) (ids : List TermId) → length ids < 1 → [] ≡ element_nils o (terms_by c ids)
no_first_nils c o [] l = refl
no_first_nils c o (x ∷ xs) l = absurd (omega (arith, l))

pub last_of_nils : (c : code.TermWriter) (o : ℕ → Bool) (b : Bool) (ids : List TermId) (i : ℕ) → length ids ≡ i → [] ≡ all_nils o b (terms_by c (drop i ids))
last_of_nils c o b ids i e = sym (ap (λ k. all_nils o b (terms_by c (drop k ids))) (sym e) ∙ ap (λ xs. all_nils o b (terms_by c xs)) (drop-length ids))

pub first_nils : (c : code.TermWriter) (o : ℕ → Bool) (ids : List TermId) (d : TermId) → 0 < length ids
    → nils o false (term_by c (get_or ids 0 d)) ++ all_nils o true (terms_by c (take (length ids - 1) (drop 1 ids))) ≡ element_nils o (terms_by c ids)
first_nils c o [] d l = absurd (omega (arith, l))
first_nils c o (x ∷ xs) d l =
    let count : suc (length xs) - 1 ≡ length xs = omega arith in
    ap (λ zs. nils o false (term_by c x) ++ all_nils o true (terms_by c zs)) (ap (λ n. take n xs) count ∙ take-length xs)

-- ---- a function that is noted
either_way : (b : Bool) → (b || true) ≡ true
either_way true = refl
either_way false = refl

there : (ks : List FunId) (f : FunId) → Contains ks f → list_any (λ (m : FunId). f.0 == m.0) ks ≡ true
there [] f c = absurd (omega (arith, c.1))
there (x ∷ ks) f (zero, l, e) = ap (λ b. b || list_any (λ (m : FunId). f.0 == m.0) ks) ((Decides-eqb f.0 x.0).1 (ap (λ (m : FunId). m.0) (sym e)))
there (x ∷ ks) f (suc k, l, e) = ap (λ b. (f.0 == x.0) || b) (there ks f (k, omega (arith, l), e)) ∙ either_way (f.0 == x.0)

same_number : (f m : FunId) → (f.0 == m.0) ≡ true → f ≡ m
same_number f m e = ap (λ (n : ℕ). record { 0 = n }) ((Decides-eqb f.0 m.0).0 e)

module _ (g : Sig) (table : IsTable g) where
  -- `[]` over one sort is one function
  pub nil_symbol : (f : FunId) → IsNil g f → manner (symbol_under g f) ≡ no_elements (nil_sort g f)
  nil_symbol f h = manner_of_word g table f h.0 (words.List lists.Empty) h.1 h.2 ∙ ap (λ o. no_elements (element_of (sort_under g (result_or o)))) (sym h.1)

  pub same_nil : (f m : FunId) → IsNil g f → IsNil g m → nil_sort g f ≡ nil_sort g m → f ≡ m
  same_nil f m h k e =
      let a = empty_manner (symbol_under g f) (nil_sort g f) (nil_symbol f h) in
      let b = empty_manner (symbol_under g m) (nil_sort g m) (nil_symbol m k) in
      different_functions_mean_different_symbols g table f m (slice_get_within g.functions f.0 h.0 h.1) (slice_get_within g.functions m.0 k.0 k.1) (a ∙ ap empty e ∙ sym b)

  pub one_noted : (keys new : List FunId) (f : FunId) → IsNil g f → new ≡ cond (list_any (λ (m : FunId). f.0 == m.0) keys) keys (keys ++ f ∷ []) → FindsNils g keys new (nil_sort g f ∷ [])
  one_noted keys new f h is = by_test (list_any (λ (m : FunId). f.0 == m.0) keys) refl is
    where
      by_test : (b : Bool) → list_any (λ (m : FunId). f.0 == m.0) keys ≡ b → new ≡ cond b keys (keys ++ f ∷ []) → FindsNils g keys new (nil_sort g f ∷ [])
      by_test true e q = subst (λ x. FindsNils g keys x (nil_sort g f ∷ [])) (sym q) (record {
        nils = λ a. a;
        finds = λ a. finds_known (contains_map (nil_sort g) keys f (Contains-list_any (λ (x y : FunId). x.0 == y.0) same_number keys f e)) finds_none;
      })
      by_test false e q = subst (λ x. FindsNils g keys x (nil_sort g f ∷ [])) (sym q) (record {
        nils = λ a. All-push (IsNil g) keys f a h;
        finds = λ a.
            let isnt : ¬ (Contains (map (nil_sort g) keys) (nil_sort g f)) = λ c.
            let m = contained_from_map (nil_sort g) keys (nil_sort g f) c in
            let same : f ≡ m.0 = same_nil f m.0 h (All-contains (IsNil g) keys m.0 a m.1) (sym m.2) in
            let found : list_any (λ (x : FunId). f.0 == x.0) keys ≡ true = there keys f (subst (Contains keys) (sym same) m.1) in
            cc in
            finds_new isnt (subst (λ xs. Finds (map (nil_sort g) keys ++ nil_sort g f ∷ []) [] xs) (sym (map-append (nil_sort g) keys (f ∷ []))) finds_none);
      })
