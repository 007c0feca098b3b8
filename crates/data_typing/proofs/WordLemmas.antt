-- What words mean, in code and over the vocabulary of a signature.
use Rattle.std.proofs.Common.{◌≡◌, ◌<◌, ◌≤◌, ◌+◌, ◌==◌, ◌||◌, ℕ, suc, Bool, true, false, cond, List, [], ◌∷◌, ◌++◌, length, map, take, drop, get_or, refl, sym, subst, ap, ◌∙◌, arith, eqb-true, eq-eqb, length-append, append-nil}
use Rattle.std.specs.Prelude.{Option, Some, None, is_some, option_map, option_to_list, slice_get, bytes_eq}
use Rattle.std.specs.List.{All, Contains, filter, list_any}
use Rattle.std.proofs.lemmas.Option.{slice_get-get_or, get_or_from_slice_get}
use Rattle.std.proofs.lemmas.List.{drop_more, get_or_default}
use Rattle.std.proofs.lemmas.List.Elements.{All-head, All-tail, All-append, All-nil, All-cons, Contains-get_or, filter_more}
use Rattle.std.proofs.lemmas.Slice.Eq.{bytes_eq-Decides}
use Rattle.data_theory.specs.declared.ids.NameId.{NameId}
use Rattle.data_theory.specs.declared.ids.FunId.{FunId}
use Rattle.data_theory.specs.declared.rows.Row.{Row}
use Rattle.data_theory.specs.declared.words.Word.{Word}
use Rattle.data_theory.specs.Names.{AreDifferent}
use Rattle.data_theory.specs.Terms.{Sort, Symbol, boolean, function}
use Rattle.data_theory.specs.Declarations.{function_at, argument_sorts, result_sort}
use Rattle.data_theory.specs.Functions.{Function}
use Rattle.data_theory.specs.Signature.{Sig}
use Rattle.data_theory.specs.WholeSignatures.{IsSignature}
use Rattle.data_theory.specs.IdData.{data_meant}
use Rattle.data_theory.specs.Rows.{row_is_list_constant}
use Rattle.data_theory.specs.IdSymbols.{if_declared, declared_from, word_symbol}
use Rattle.data_theory.specs.IdTerms.{symbol_under}
use Rattle.data_theory.specs.NamedFunctions.{if_named, named_from, functions_named}
use Rattle.data_theory.proofs.IdSymbolLemmas.{declared_is, symbol_fits}
use Rattle.sort_table.specs.Expressions.{Name}
use Rattle.sort_table.specs.NamedLists.{all_named, first_named}
use Rattle.sort_table.specs.SignatureVocabularies.{function_name_of, function_names_from, vocabulary_of}
use Rattle.data_typing.specs.declared.flat_sorts.SortPlace.{SortPlace}
use Rattle.data_typing.specs.declared.nodes.Overload as code
use Rattle.data_typing.specs.declared.nodes.AnyOverload as code_any
use Rattle.data_typing.specs.declared.nodes.WordFunctions.{WordFunctions}
use Rattle.data_typing.specs.declared.nodes.Kind.TheVariants as kinds
use Rattle.data_typing.specs.declared.scope.Bound as code_bound
use Rattle.data_typing.specs.Typings.{Place, over, Signature, Scheme, scheme_at, Typing, functions, bound, word_typing}
use Rattle.data_typing.specs.BuiltIns.{hangs, row_places, is_over_any, is_settled, word_scheme, row_scheme, row_signature, built_ins, scheme_named}
use Rattle.data_typing.specs.Meanings.{Bound, Scope, bound_row, declared_signature, signatures_named, meaning_or}
use Rattle.data_typing.specs.FlatSorts.{flat_sort, place_of}
use Rattle.data_typing.specs.NodeTypings.{signature_of, scheme_of, meaning_of_functions, kind_typing}
use Rattle.data_typing.specs.CodeWords.{bound_of, scope_behind, scope_of, found_behind, meaning_in, sorts_of_function, result_of_function, fun_signature, is_empty_list, IsAlone}

-- ---- rows
pub any_mapped : {A B : Type 0} (p : B → Bool) (f : A → B) (xs : List A) → list_any (λ x. p (f x)) xs ≡ list_any p (map f xs)
any_mapped p f [] = refl
any_mapped p f (x ∷ xs) = ap (λ b. p (f x) || b) (any_mapped p f xs)

map_behind : {A B : Type 0} (f : A → B) (us vs : List A) → map f (us ++ vs) ≡ map f us ++ map f vs
map_behind f [] vs = refl
map_behind f (u ∷ us) vs = ap (λ zs. f u ∷ zs) (map_behind f us vs)

one_kept : {A B : Type 0} (f : A → B) (p : A → Bool) (xs : List A) (i : ℕ) (x : A) → i < length xs → x ≡ get_or xs i x → map f (filter p (take (i + 1) xs)) ≡ map f (filter p (take i xs)) ++ map f (filter p (x ∷ []))
one_kept f p xs i x l is =
    ap (map f) (filter_more p xs i x l) ∙ map_behind f (filter p (take i xs)) (cond (p (get_or xs i x)) (get_or xs i x ∷ []) [])
    ∙ ap (λ z. map f (filter p (take i xs)) ++ map f (filter p (z ∷ []))) (sym is)

list_mapped : {A B : Type 0} (f : A → B) (o : Option A) → map f (option_to_list o) ≡ option_to_list (option_map f o)
list_mapped f None = refl
list_mapped f (Some x) = refl

-- whether a row hangs on S, by its places in code
over_test : (row : Row) (places ps : List SortPlace) (b h : Bool) → b ≡ row_is_list_constant row → b ≡ false → h ≡ list_any (λ p. hangs (place_of p)) ps → ps ≡ places → map place_of places ≡ row_places row
    → cond (row_is_list_constant row) false (list_any hangs (row_places row)) ≡ h
over_test row places ps b h e q k same are =
    ap (λ c. cond c false (list_any hangs (row_places row))) (sym e ∙ q)
    ∙ sym (k ∙ ap (list_any (λ p. hangs (place_of p))) same ∙ any_mapped hangs place_of places ∙ ap (list_any hangs) are)

settled_test : (row : Row) (places ps : List SortPlace) (b h : Bool) → b ≡ row_is_list_constant row → b ≡ false → h ≡ list_any (λ p. hangs (place_of p)) ps → ps ≡ places → map place_of places ≡ row_places row
    → is_settled row ≡ cond h false true
settled_test row places ps b h e q k same are =
    ap (λ c. cond c false (cond (list_any hangs (row_places row)) false true)) (sym e ∙ q)
    ∙ ap (λ c. cond c false true) (sym (k ∙ ap (list_any (λ p. hangs (place_of p))) same ∙ any_mapped hangs place_of places ∙ ap (list_any hangs) are))

pub any_row_is : (row : Row) (places ps : List SortPlace) (b h : Bool) → b ≡ row_is_list_constant row → b ≡ false → h ≡ list_any (λ p. hangs (place_of p)) ps → ps ≡ places → map place_of places ≡ row_places row
    → h ≡ true → (c : Scheme) → c ≡ row_scheme row → c ∷ [] ≡ map row_scheme (filter is_over_any (row ∷ []))
any_row_is row places ps b h e q k same are on c r = ap (λ s. s ∷ []) r ∙ sym (ap (λ x. map row_scheme (cond x (row ∷ []) [])) (over_test row places ps b h e q k same are ∙ on))

pub no_any_row : (row : Row) (places ps : List SortPlace) (b h : Bool) → b ≡ row_is_list_constant row → b ≡ false → h ≡ list_any (λ p. hangs (place_of p)) ps → ps ≡ places → map place_of places ≡ row_places row
    → h ≡ false → [] ≡ map row_scheme (filter is_over_any (row ∷ []))
no_any_row row places ps b h e q k same are off = sym (ap (λ x. map row_scheme (cond x (row ∷ []) [])) (over_test row places ps b h e q k same are ∙ off))

pub no_settled_row : (row : Row) (places ps : List SortPlace) (b h : Bool) → b ≡ row_is_list_constant row → b ≡ false → h ≡ list_any (λ p. hangs (place_of p)) ps → ps ≡ places → map place_of places ≡ row_places row
    → h ≡ true → [] ≡ map row_signature (filter is_settled (row ∷ []))
no_settled_row row places ps b h e q k same are on = sym (ap (λ x. map row_signature (cond x (row ∷ []) [])) (settled_test row places ps b h e q k same are ∙ ap (λ x. cond x false true) on))

pub settled_row_is : (row : Row) (places ps : List SortPlace) (b h : Bool) → b ≡ row_is_list_constant row → b ≡ false → h ≡ list_any (λ p. hangs (place_of p)) ps → ps ≡ places → map place_of places ≡ row_places row
    → h ≡ false → (c : Scheme) → c ≡ row_scheme row → (s : Signature) → s ≡ scheme_at c boolean → s ∷ [] ≡ map row_signature (filter is_settled (row ∷ []))
settled_row_is row places ps b h e q k same are off c r s z =
    ap (λ x. x ∷ []) (z ∙ ap (λ x. scheme_at x boolean) r)
    ∙ sym (ap (λ x. map row_signature (cond x (row ∷ []) [])) (settled_test row places ps b h e q k same are ∙ ap (λ x. cond x false true) off))

twice_mapped : {A B C : Type 0} (f : B → C) (g : A → B) (xs : List A) → map (λ x. f (g x)) xs ≡ map f (map g xs)
twice_mapped f g [] = refl
twice_mapped f g (x ∷ xs) = ap (λ ys. f (g x) ∷ ys) (twice_mapped f g xs)

pub settled_is : (w : Word) (ss : List Sort) (ps places : List SortPlace) (to : Sort) (p : Place) (b : Bool) → ss ≡ map (λ q. over boolean (place_of q)) ps → ps ≡ places → to ≡ over boolean p
    → ◌≡◌ {A = Signature} (record { symbol = word_symbol w ss to; arguments = ss; result = to }) (scheme_at (word_scheme w (map place_of places) p b) boolean)
settled_is w ss ps places to p b e same r =
    let all : ss ≡ map (over boolean) (map place_of places) = e ∙ ap (map (λ q. over boolean (place_of q))) same ∙ twice_mapped (over boolean) place_of places in
    λ i. record { symbol = word_symbol w (all i) (r i); arguments = all i; result = r i }

-- the functions of fixed sorts among the first rows, with one more row
pub settled_more : (rows : List Row) (i : ℕ) (row : Row) (os new : List code.Overload) (o : Option code.Overload) → i < length rows → row ≡ get_or rows i row
    → ((y : FunId → Symbol) → map (signature_of y) os ≡ map row_signature (filter is_settled (take i rows)))
    → ((y : FunId → Symbol) → option_to_list (option_map (signature_of y) o) ≡ map row_signature (filter is_settled (row ∷ [])))
    → new ≡ os ++ option_to_list o → (y : FunId → Symbol) → map (signature_of y) new ≡ map row_signature (filter is_settled (take (i + 1) rows))
settled_more rows i row os new o l is h k e y =
    ap (map (signature_of y)) e ∙ map_behind (signature_of y) os (option_to_list o)
    ∙ ap (λ ss. ss ++ map (signature_of y) (option_to_list o)) (h y)
    ∙ ap (λ ss. map row_signature (filter is_settled (take i rows)) ++ ss) (list_mapped (signature_of y) o ∙ k y)
    ∙ sym (one_kept row_signature is_settled rows i row l is)

pub settled_more_at : (rows : List Row) (i : ℕ) (d : Row) (os new : List code.Overload) (o : Option code.Overload) → i < length rows
    → ((y : FunId → Symbol) → map (signature_of y) os ≡ map row_signature (filter is_settled (take i rows)))
    → ((y : FunId → Symbol) → option_to_list (option_map (signature_of y) o) ≡ map row_signature (filter is_settled (get_or rows i d ∷ [])))
    → new ≡ os ++ option_to_list o → (y : FunId → Symbol) → map (signature_of y) new ≡ map row_signature (filter is_settled (take (i + 1) rows))
settled_more_at rows i d os new o l h k e = settled_more rows i (get_or rows i d) os new o l (get_or_default rows i d (get_or rows i d) l) h k e

-- the first function over any sort among rows, from a place on
first_left : (o : Option Scheme) (ss : List Scheme) (rs : List Scheme) → option_to_list o ≡ ss → slice_get (ss ++ rs) 0 ≡ slice_get (option_to_list o ++ rs) 0
first_left o ss rs e = ap (λ xs. slice_get (xs ++ rs) 0) (sym e)

one_row : (rows : List Row) (i : ℕ) (row : Row) → i < length rows → row ≡ get_or rows i row
    → map row_scheme (filter is_over_any (drop i rows)) ≡ map row_scheme (filter is_over_any (row ∷ [])) ++ map row_scheme (filter is_over_any (drop (i + 1) rows))
one_row rows i row l is = ap (λ rs. map row_scheme (filter is_over_any rs)) (drop_more rows i row l ∙ ap (λ r. r ∷ drop (i + 1) rows) (sym is)) ∙ by_test (is_over_any row)
  where
    by_test : (b : Bool) → map row_scheme (cond b (row ∷ filter is_over_any (drop (i + 1) rows)) (filter is_over_any (drop (i + 1) rows))) ≡ map row_scheme (cond b (row ∷ []) []) ++ map row_scheme (filter is_over_any (drop (i + 1) rows))
    by_test true = refl
    by_test false = refl

pub any_goes_on : (rows : List Row) (i : ℕ) (row : Row) (o : Option code_any.AnyOverload) → i < length rows → row ≡ get_or rows i row
    → option_to_list (option_map scheme_of o) ≡ map row_scheme (filter is_over_any (row ∷ []))
    → slice_get (map row_scheme (filter is_over_any rows)) 0 ≡ slice_get (map row_scheme (filter is_over_any (drop i rows))) 0
    → slice_get (map row_scheme (filter is_over_any rows)) 0 ≡ slice_get (option_to_list (option_map scheme_of o) ++ map row_scheme (filter is_over_any (drop (i + 1) rows))) 0
any_goes_on rows i row o l is k e =
    e ∙ ap (λ ss. slice_get ss 0) (one_row rows i row l is)
    ∙ first_left (option_map scheme_of o) (map row_scheme (filter is_over_any (row ∷ []))) (map row_scheme (filter is_over_any (drop (i + 1) rows))) k

pub over_any_found : (rows : List Row) (i : ℕ) (d : Row) (o : Option code_any.AnyOverload) → i < length rows
    → option_to_list (option_map scheme_of o) ≡ map row_scheme (filter is_over_any (get_or rows i d ∷ []))
    → slice_get (map row_scheme (filter is_over_any rows)) 0 ≡ slice_get (map row_scheme (filter is_over_any (drop i rows))) 0
    → is_some o ≡ true → option_map scheme_of o ≡ slice_get (map row_scheme (filter is_over_any rows)) 0
over_any_found rows i d o l k e some =
    by o some (any_goes_on rows i (get_or rows i d) o l (get_or_default rows i d (get_or rows i d) l) k e)
  where
    by : (o : Option code_any.AnyOverload) → is_some o ≡ true → slice_get (map row_scheme (filter is_over_any rows)) 0 ≡ slice_get (option_to_list (option_map scheme_of o) ++ map row_scheme (filter is_over_any (drop (i + 1) rows))) 0
        → option_map scheme_of o ≡ slice_get (map row_scheme (filter is_over_any rows)) 0
    by None h q = cc
    by (Some a) h q = sym q

-- ---- names
both_tell : (b c : Bool) → (b ≡ true → c ≡ true) → (c ≡ true → b ≡ true) → b ≡ c
both_tell true true f k = refl
both_tell false false f k = refl
both_tell true false f k = sym (f refl)
both_tell false true f k = k refl

same_test : (texts : List Name) → AreDifferent texts → (i j : ℕ) (t : Name) → i < length texts → slice_get texts j ≡ Some t → bytes_eq (get_or texts i []) t ≡ (i == j)
same_test texts differ i j t l at =
    both_tell (bytes_eq (get_or texts i []) t) (i == j)
    (λ e. let same : get_or texts i [] ≡ t = (bytes_eq-Decides (get_or texts i []) t).0 e in eq-eqb i j (differ i j t (slice_get-get_or texts i [] l ∙ ap Some same) at))
    (λ e. let same : i ≡ j = eqb-true i j e in (bytes_eq-Decides (get_or texts i []) t).1 (get_or_from_slice_get texts i t [] (ap (slice_get texts) same ∙ at)))

no_test : (texts : List Name) (t : Name) → ¬ (Contains texts t) → (i : ℕ) → i < length texts → bytes_eq (get_or texts i []) t ≡ false
no_test texts t none i l = by_test (bytes_eq (get_or texts i []) t) refl
  where
    by_test : (b : Bool) → bytes_eq (get_or texts i []) t ≡ b → bytes_eq (get_or texts i []) t ≡ false
    by_test false e = e
    by_test true e = absurd (none (subst (Contains texts) ((bytes_eq-Decides (get_or texts i []) t).0 e) (Contains-get_or texts i [] l)))

abbrev pub AreNamed : List Name → List code_bound.Bound → Type 0
AreNamed texts bs = All (λ (b : code_bound.Bound). b.name.0 < length texts) bs

-- ---- variables
bound_if : (texts : List Name) (c : Bool) (b : code_bound.Bound) (o : Option code_bound.Bound) (p : Option Bound) → p ≡ option_map (bound_of texts) o → cond c (Some (bound_of texts b)) p ≡ option_map (bound_of texts) (cond c (Some b) o)
bound_if texts true b o p e = refl
bound_if texts false b o p e = e

found_is : (texts : List Name) → AreDifferent texts → (t : Name) (n : NameId) → slice_get texts n.0 ≡ Some t → (bs : List code_bound.Bound) → AreNamed texts bs
    → (sc : Scope) (o : Option code_bound.Bound) → first_named t (map bound_row sc) ≡ option_map (bound_of texts) o
    → first_named t (map bound_row (scope_behind texts sc bs)) ≡ option_map (bound_of texts) (found_behind n o bs)
found_is texts differ t n at [] named sc o e = e
found_is texts differ t n at (b ∷ bs) named sc o e =
    found_is texts differ t n at bs (All-tail (λ (x : code_bound.Bound). x.name.0 < length texts) b bs named) (bound_of texts b ∷ sc) (cond (b.name.0 == n.0) (Some b) o)
    (ap (λ c. cond c (Some (bound_of texts b)) (first_named t (map bound_row sc))) (same_test texts differ b.name.0 n.0 t (All-head (λ (x : code_bound.Bound). x.name.0 < length texts) b bs named) at)
    ∙ bound_if texts (b.name.0 == n.0) b o (first_named t (map bound_row sc)) e)

unbound : (texts : List Name) (t : Name) → ¬ (Contains texts t) → (bs : List code_bound.Bound) → AreNamed texts bs
    → (sc : Scope) → first_named t (map bound_row sc) ≡ None → first_named t (map bound_row (scope_behind texts sc bs)) ≡ None
unbound texts t none [] named sc e = e
unbound texts t none (b ∷ bs) named sc e =
    unbound texts t none bs (All-tail (λ (x : code_bound.Bound). x.name.0 < length texts) b bs named) (bound_of texts b ∷ sc)
    (ap (λ c. cond c (Some (bound_of texts b)) (first_named t (map bound_row sc))) (no_test texts t none b.name.0 (All-head (λ (x : code_bound.Bound). x.name.0 < length texts) b bs named)) ∙ e)

-- ---- declared functions
abbrev Named : Sig → Function → Type 0
Named g f = f.name.0 < length g.texts

signature_same : (g : Sig) → IsSignature g → (j : FunId) (k : ℕ) (f : Function) → slice_get g.functions j.0 ≡ Some f → symbol_under g j ≡ function k → declared_signature (data_meant g) k ≡ fun_signature g j
signature_same g is j k f at e =
    let fits = symbol_fits g is.table j f at in
    let arguments : (function_at (data_meant g) k).arguments ≡ sorts_of_function g (slice_get g.functions j.0) = ap (argument_sorts (data_meant g)) (sym e) ∙ fits.1 ∙ sym (ap (sorts_of_function g) at) in
    let result : (function_at (data_meant g) k).result ≡ result_of_function g (slice_get g.functions j.0) = ap (result_sort (data_meant g)) (sym e) ∙ fits.2 ∙ sym (ap (result_of_function g) at) in
    λ i. record { symbol = sym e i; arguments = arguments i; result = result i }

read_next : (front rest : List Function) (f : Function) → slice_get (front ++ f ∷ rest) (length front) ≡ Some f
read_next [] rest f = refl
read_next (x ∷ front) rest f = read_next front rest f

take_front : (front rest : List Function) → take (length front) (front ++ rest) ≡ front
take_front [] rest = refl
take_front (x ∷ front) rest = ap (λ fs. x ∷ fs) (take_front front rest)

pushed_front : (front rest : List Function) (f : Function) → front ++ f ∷ rest ≡ (front ++ f ∷ []) ++ rest
pushed_front [] rest f = refl
pushed_front (x ∷ front) rest f = ap (λ fs. x ∷ fs) (pushed_front front rest f)

declared_more : (k : ℕ) (front : List Function) (f : Function) → declared_from k (front ++ f ∷ []) ≡ declared_from k front ++ if_declared (k + length front) f.word
declared_more k [] f = append-nil (if_declared k f.word) ∙ ap (λ n. if_declared n f.word) (let z : k ≡ k + 0 = omega arith in z)
declared_more k (x ∷ front) f = ap (λ ds. if_declared k x.word ++ ds) (declared_more (suc k) front f) ∙ ap (λ n. if_declared k x.word ++ (declared_from (suc k) front ++ if_declared n f.word)) (let z : suc k + length front ≡ k + suc (length front) = omega arith in z) ∙ sym (append_assoc (if_declared k x.word) (declared_from (suc k) front) (if_declared (k + suc (length front)) f.word))
  where
    append_assoc : (us vs ws : List FunId) → (us ++ vs) ++ ws ≡ us ++ (vs ++ ws)
    append_assoc [] vs ws = refl
    append_assoc (u ∷ us) vs ws = ap (λ zs. u ∷ zs) (append_assoc us vs ws)

none_either_way : (b : Bool) (xs : List FunId) → cond b [] [] ++ xs ≡ xs
none_either_way true xs = refl
none_either_way false xs = refl

abbrev SameFrom : Sig → Name → NameId → List Function → ℕ → ℕ → Type 0
SameFrom g t n rest j k = map (declared_signature (data_meant g)) (all_named t (function_names_from g k (declared_from j rest))) ≡ map (fun_signature g) (named_from j n rest)

head_if : (g : Sig) (j k : ℕ) (b : Bool) → declared_signature (data_meant g) k ≡ fun_signature g (record { 0 = j }) → (xs : List ℕ) (ys : List FunId) → map (declared_signature (data_meant g)) xs ≡ map (fun_signature g) ys
    → map (declared_signature (data_meant g)) (cond b (k ∷ xs) xs) ≡ map (fun_signature g) (cond b (record { 0 = j } ∷ []) [] ++ ys)
head_if g j k true e xs ys h = λ i. e i ∷ h i
head_if g j k false e xs ys h = h

counted_on : (front : List Function) (f : Function) (k : ℕ) → k ≡ length (declared_from 0 front) → f.word ≡ None → suc k ≡ length (declared_from 0 (front ++ f ∷ []))
counted_on front f k q e =
    let long = length-append (declared_from 0 front) (record { 0 = 0 + length front } ∷ []) in
    let z : suc k ≡ length (declared_from 0 front ++ record { 0 = 0 + length front } ∷ []) = omega (arith, q, long) in
    z ∙ sym (ap length (declared_more 0 front f ∙ ap (λ o. declared_from 0 front ++ if_declared (0 + length front) o) e))

not_counted : (front : List Function) (f : Function) (k : ℕ) (w : Word) → k ≡ length (declared_from 0 front) → f.word ≡ Some w → k ≡ length (declared_from 0 (front ++ f ∷ []))
not_counted front f k w q e = q ∙ sym (ap length (declared_more 0 front f ∙ ap (λ o. declared_from 0 front ++ if_declared (0 + length front) o) e ∙ append-nil (declared_from 0 front)))

named_by_word : (g : Sig) → IsSignature g → (t : Name) (n : NameId) → slice_get g.texts n.0 ≡ Some t → (front rest : List Function) (f : Function) → g.functions ≡ front ++ f ∷ rest → Named g f
    → (j k : ℕ) → j ≡ length front → k ≡ length (declared_from 0 front)
    → ((i : ℕ) → i ≡ length (declared_from 0 (front ++ f ∷ [])) → SameFrom g t n rest (suc j) i) → (w : Option Word) → f.word ≡ w
    → map (declared_signature (data_meant g)) (all_named t (function_names_from g k (if_declared j w ++ declared_from (suc j) rest))) ≡ map (fun_signature g) (if_named n f.name j w ++ named_from (suc j) n rest)
named_by_word g is t n at front rest f whole named j k p q on (Some w) e = on k (not_counted front f k w q e) ∙ ap (map (fun_signature g)) (sym (none_either_way (f.name.0 == n.0) (named_from (suc j) n rest)))
named_by_word g is t n at front rest f whole named j k p q on None e =
    let there : slice_get g.functions j ≡ Some f = ap (λ fs. slice_get fs j) whole ∙ ap (slice_get (front ++ f ∷ rest)) p ∙ read_next front rest f in
    let test : bytes_eq (function_name_of g (slice_get g.functions j)) t ≡ (f.name.0 == n.0) = ap (λ o. bytes_eq (function_name_of g o) t) there ∙ same_test g.texts is.table.different f.name.0 n.0 t named at in
    let number : symbol_under g (record { 0 = j }) ≡ function k =
    declared_is g is.table (record { 0 = j }) f there e ∙ ap (λ fs. function (length (declared_from 0 fs))) (ap (take j) whole ∙ ap (λ i. take i (front ++ f ∷ rest)) p ∙ take_front front (f ∷ rest)) ∙ ap function (sym q) in
    let others : List ℕ = all_named t (function_names_from g (suc k) (declared_from (suc j) rest)) in
    ap (λ b. map (declared_signature (data_meant g)) (cond b (k ∷ others) others)) test
    ∙ head_if g j k (f.name.0 == n.0) (signature_same g is (record { 0 = j }) k f there number) others (named_from (suc j) n rest) (on (suc k) (counted_on front f k q e))

named_same_from : (g : Sig) → IsSignature g → (t : Name) (n : NameId) → slice_get g.texts n.0 ≡ Some t → (front rest : List Function) → g.functions ≡ front ++ rest → All (Named g) rest
    → (j k : ℕ) → j ≡ length front → k ≡ length (declared_from 0 front) → SameFrom g t n rest j k
named_same_from g is t n at front [] whole named j k p q = refl
named_same_from g is t n at front (f ∷ rest) whole named j k p q =
    let long = length-append front (f ∷ []) in
    let next : suc j ≡ length (front ++ f ∷ []) = omega (arith, p, long) in
    named_by_word g is t n at front rest f whole (All-head (Named g) f rest named) j k p q
    (λ i r. named_same_from g is t n at (front ++ f ∷ []) rest (whole ∙ pushed_front front rest f) (All-tail (Named g) f rest named) (suc j) i next r) f.word refl

all_are_named : (g : Sig) → IsSignature g → All (Named g) g.functions
all_are_named g is k d l = (is.complete.within.functions_within k d l).named

declared_named : (g : Sig) → IsSignature g → (t : Name) (n : NameId) → slice_get g.texts n.0 ≡ Some t
    → map (declared_signature (data_meant g)) (all_named t (vocabulary_of g).function_names) ≡ map (fun_signature g) (functions_named g.functions n)
declared_named g is t n at =
    ap (λ ds. map (declared_signature (data_meant g)) (all_named t (function_names_from g 0 ds))) is.table.listed
    ∙ named_same_from g is t n at [] g.functions refl (all_are_named g is) 0 0 refl refl

pub named_within : (k : ℕ) (n : NameId) (fs : List Function) (m : ℕ) → k + length fs ≤ m → All (λ (j : FunId). j.0 < m) (named_from k n fs)
named_within k n [] m h = All-nil (λ (j : FunId). j.0 < m)
named_within k n (f ∷ fs) m h = All-append (λ (j : FunId). j.0 < m) (if_named n f.name k f.word) (named_from (suc k) n fs) (by_test (f.name.0 == n.0) f.word) (named_within (suc k) n fs m (omega arith))
  where
    by_test : (b : Bool) (w : Option Word) → All (λ (j : FunId). j.0 < m) (cond b (if_declared k w) [])
    by_test false w = All-nil (λ (j : FunId). j.0 < m)
    by_test true (Some w) = All-nil (λ (j : FunId). j.0 < m)
    by_test true None = All-cons (λ (j : FunId). j.0 < m) (record { 0 = k }) [] (omega (arith, h)) (All-nil (λ (j : FunId). j.0 < m))

none_named_in : (g : Sig) → IsSignature g → (t : Name) → ¬ (Contains g.texts t) → (k : ℕ) (js : List FunId) → All (λ (j : FunId). j.0 < length g.functions) js → all_named t (function_names_from g k js) ≡ []
none_named_in g is t none k [] within = refl
none_named_in g is t none k (j ∷ js) within =
    let w : j.0 < length g.functions = All-head (λ (i : FunId). i.0 < length g.functions) j js within in
    let nothing : Function = record { name = record { 0 = 0 }; sorts = []; result = record { 0 = 0 }; word = None; is_list_constant = false; projections = []; test = None } in
    let rest : List ℕ = all_named t (function_names_from g (suc k) js) in
    ap (λ o. cond (bytes_eq (function_name_of g o) t) (k ∷ rest) rest) (slice_get-get_or g.functions j.0 nothing w)
    ∙ ap (λ b. cond b (k ∷ rest) rest) (no_test g.texts t none (get_or g.functions j.0 nothing).name.0 (all_are_named g is j.0 nothing w))
    ∙ none_named_in g is t none (suc k) js (All-tail (λ (i : FunId). i.0 < length g.functions) j js within)

-- ---- what a word means
pub functions_mean : (y : FunId → Symbol) (os : List code.Overload) (c : Option code_any.AnyOverload) (fs : List Signature) (k : Option Scheme) → map (signature_of y) os ≡ fs → option_map scheme_of c ≡ k
    → functions (map (signature_of y) os) (option_map scheme_of c) ≡ functions fs k
functions_mean y os c fs k e h = ap (λ ss. functions ss (option_map scheme_of c)) e ∙ ap (functions fs) h

module _ (g : Sig) (is : IsSignature g) (t : Name) where
  -- the table hasn't the text
  pub unnamed_signatures : ¬ (Contains g.texts t) → (os : List code.Overload) → ((y : FunId → Symbol) → map (signature_of y) os ≡ built_ins t)
      → map (signature_of (symbol_under g)) os ≡ signatures_named (vocabulary_of g) t
  unnamed_signatures none os e = e (symbol_under g) ∙ sym (ap (λ ks. built_ins t ++ map (declared_signature (data_meant g)) ks) (none_named_in g is t none 0 g.declared is.complete.within.declared) ∙ append-nil (built_ins t))

  pub named_signatures : (n : NameId) → slice_get g.texts n.0 ≡ Some t → (os old : List code.Overload) → ((y : FunId → Symbol) → map (signature_of y) old ≡ built_ins t)
      → map (signature_of (symbol_under g)) os ≡ map (signature_of (symbol_under g)) old ++ map (fun_signature g) (functions_named g.functions n)
      → map (signature_of (symbol_under g)) os ≡ signatures_named (vocabulary_of g) t
  named_signatures n at os old e all =
      all ∙ ap (λ ss. ss ++ map (fun_signature g) (functions_named g.functions n)) (e (symbol_under g)) ∙ ap (λ ss. built_ins t ++ ss) (sym (declared_named g is t n at))

  module _ (bs : List code_bound.Bound) (named : AreNamed g.texts bs) where
    pub unnamed_bound : ¬ (Contains g.texts t) → first_named t (map bound_row (scope_of g.texts bs)) ≡ None
    unnamed_bound none = unbound g.texts t none bs named [] refl

    pub named_bound : (n : NameId) → slice_get g.texts n.0 ≡ Some t → first_named t (map bound_row (scope_of g.texts bs)) ≡ option_map (bound_of g.texts) (found_behind n None bs)
    named_bound n at = found_is g.texts is.table.different t n at bs named [] None refl

-- what a word means, by whether it is a variable
pub bound_means : (g : Sig) (bs : List code_bound.Bound) (t : Name) (o : Option code_bound.Bound) → option_map (bound_of g.texts) o ≡ first_named t (map bound_row (scope_of g.texts bs)) → (b : code_bound.Bound) → o ≡ Some b
    → bound b.var.0 (flat_sort b.sort) ≡ meaning_in g bs t
bound_means g bs t o e b q = ap (meaning_or (functions (signatures_named (vocabulary_of g) t) (scheme_named t))) (ap (option_map (bound_of g.texts)) (sym q) ∙ e)

pub free_means : (g : Sig) (bs : List code_bound.Bound) (t : Name) (o : Option code_bound.Bound) → option_map (bound_of g.texts) o ≡ first_named t (map bound_row (scope_of g.texts bs)) → o ≡ None
    → functions (signatures_named (vocabulary_of g) t) (scheme_named t) ≡ meaning_in g bs t
free_means g bs t o e q = ap (meaning_or (functions (signatures_named (vocabulary_of g) t) (scheme_named t))) (ap (option_map (bound_of g.texts)) (sym q) ∙ e)

-- ---- variables with no arguments or with some
alone_means : (y : FunId → Symbol) (b : code_bound.Bound) (ts : List Typing) → true ≡ is_empty_list ts → kind_typing y (kinds.Variable b.var b.sort) ts ≡ word_typing (bound b.var.0 (flat_sort b.sort)) ts
alone_means y b [] e = refl
alone_means y b (x ∷ ts) e = cc

pub variable_means : (y : FunId → Symbol) (b : code_bound.Bound) (alone : Bool) → alone ≡ true → (ts : List Typing) → IsAlone alone ts → kind_typing y (kinds.Variable b.var b.sort) ts ≡ word_typing (bound b.var.0 (flat_sort b.sort)) ts
variable_means y b alone q ts h = alone_means y b ts (sym q ∙ h)

applied_means : (y : FunId → Symbol) (b : code_bound.Bound) (os : List code.Overload) (ts : List Typing) → os ≡ [] → false ≡ is_empty_list ts
    → word_typing (functions (map (signature_of y) os) None) ts ≡ word_typing (bound b.var.0 (flat_sort b.sort)) ts
applied_means y b os [] e q = cc
applied_means y b os (x ∷ ts) e q = ap (λ (them : List code.Overload). word_typing (functions (map (signature_of y) them) None) (x ∷ ts)) e

pub variable_with_arguments_means : (y : FunId → Symbol) (b : code_bound.Bound) (alone : Bool) → alone ≡ false → (none : WordFunctions) → none.signatures.items ≡ [] → none.any ≡ None → (fs : WordFunctions) → fs ≡ none
    → (ts : List Typing) → IsAlone alone ts → word_typing (meaning_of_functions y fs) ts ≡ word_typing (bound b.var.0 (flat_sort b.sort)) ts
variable_with_arguments_means y b alone q none e h fs same ts k =
    ap (λ (them : WordFunctions). word_typing (meaning_of_functions y them) ts) same
    ∙ ap (λ (c : Option code_any.AnyOverload). word_typing (functions (map (signature_of y) none.signatures.items) (option_map scheme_of c)) ts) h
    ∙ applied_means y b none.signatures.items ts e (sym q ∙ k)
