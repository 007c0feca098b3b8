-- Variables that are told apart by their names, and whose names aren't those of functions.
use Rattle.std.proofs.Common.{◌≡◌, ◌≢◌, ◌⊎◌, inl, inr, ⊎_elim, ℕ, Bool, true, false, cond, List, [], ◌∷◌, map, Some, None, refl, sym, ap, ◌∙◌, subst}
use Rattle.std.specs.Prelude.{bytes_eq}
use Rattle.std.specs.List.{Contains, AllByRecursion}
use Rattle.std.proofs.lemmas.Slice.Eq.{bytes_eq-Decides}
use Rattle.data_theory.specs.Terms.{Symbol, function}
use Rattle.data_theory.specs.Declarations.{Declares, IsSymbol}
use Rattle.data_theory.specs.Environments.{Apart, AreDistinct}
use Rattle.data_theory.specs.Signature.{Sig}
use Rattle.data_theory.specs.IdData.{data_meant}
use Rattle.data_theory.specs.IdTerms.{variable_sorts}
use Rattle.data_theory.specs.WholeSignatures.{IsSignature}
use Rattle.data_theory.proofs.EnvironmentLemmas.{contains_first, contains_later}
use Rattle.term_pool.proofs.Lists.{contains_none, contains_cons, contains_head, contains_tail, contains_map, contained_from_map}
use Rattle.process_terms.specs.Processes.{Bound}
use Rattle.bisim_laws.specs.LinearProcesses.{variables, AreDeclared, HaveDataSorts}
use Rattle.lps_core.proofs.SortedTerms.{one_sort}
use Rattle.sort_table.specs.Expressions.{Name}
use Rattle.sort_table.specs.NamedLists.{first_named}
use Rattle.sort_table.specs.SignatureVocabularies.{vocabulary_of}
use Rattle.sort_table.specs.Vocabularies.{sort_in}
use Rattle.data_typing.specs.Meanings as scopes
use Rattle.data_typing.specs.Meanings.{Scope, bound_row, meaning}
use Rattle.sort_checker.specs.FullVocabularies.{FullVocabulary}
use Rattle.sort_checker.specs.Scopes.{numbers_of}
use Rattle.lps_printer.specs.ReadableNames.{symbol_text, ReadsNames}
use Rattle.lps_printer.specs.FittingNames.{FitNames}
use Rattle.lps_printer.specs.WrittenProcesses.{TextNames, sort_written, bound_named, scope_behind}
use Rattle.lps_printer.specs.LinearBack.{EachTwo, CanBind}
use Rattle.lps_printer.specs.SignatureNames.{text_names_under}
use Rattle.lps_printer.proofs.FittingNames.{names_that_fit_read}
use Rattle.lps_printer.proofs.OwnFunctions.{own_sorts, free, once, once_within}
use Rattle.lps_printer.proofs.SortsBack.{sort_back}

-- declared, told apart by their names, and of no function's name
pub record AreOwn (g : Sig) (n : TextNames) (xs : List Bound) : Type 0 where
  pub declared : AreDeclared (variable_sorts g) xs
  pub apart : (a b : Bound) → Contains xs a → Contains xs b → n.terms.variable a.var ≡ n.terms.variable b.var → a ≡ b
  pub unbound : (a : Bound) → Contains xs a → (f : Symbol) → IsSymbol (data_meant g) f → n.terms.variable a.var ≡ symbol_text n.terms f → ⊥

-- ---- scopes as lists of variables, the innermost first
abbrev pub behind : List Bound → List Bound → List Bound
behind ys [] = ys
behind ys (x ∷ xs) = behind (x ∷ ys) xs

pub scope_is : (n : TextNames) (ys xs : List Bound) → scope_behind n (map (bound_named n) ys) xs ≡ map (bound_named n) (behind ys xs)
scope_is n ys [] = refl
scope_is n ys (x ∷ xs) = scope_is n (x ∷ ys) xs

pub behind_cases : (ys xs : List Bound) (a : Bound) → Contains (behind ys xs) a → Contains ys a ⊎ Contains xs a
behind_cases ys [] a c = inl c
behind_cases ys (x ∷ xs) a c =
    ⊎_elim (λ k. ⊎_elim (λ e. inr (subst (Contains (x ∷ xs)) e (contains_head x xs))) inl (contains_cons x a ys k)) (λ k. inr (contains_tail x a xs k)) (behind_cases (x ∷ ys) xs a c)

pub numbers_behind : (n : TextNames) (scope : Scope) (xs : List Bound) (v : ℕ) → Contains (numbers_of (scope_behind n scope xs)) v → Contains (variables xs) v ⊎ Contains (numbers_of scope) v
numbers_behind n scope [] v c = inr c
numbers_behind n scope (x ∷ xs) v c =
    ⊎_elim (λ k. inl (contains_later x.var v (variables xs) k))
    (λ k. ⊎_elim (λ e. inl (subst (Contains (x.var ∷ variables xs)) e (contains_first x.var (variables xs)))) inr (contains_cons x.var v (numbers_of scope) k))
    (numbers_behind n (bound_named n x ∷ scope) xs v c)

first_bound : (n : TextNames) (t : Name) (ys : List Bound) (y : Bound) → Contains ys y → n.terms.variable y.var ≡ t → ((a : Bound) → Contains ys a → n.terms.variable a.var ≡ t → a ≡ y) → first_named t (map bound_row (map (bound_named n) ys)) ≡ Some (bound_named n y)
first_bound n t [] y c e one = absurd (contains_none y c)
first_bound n t (x ∷ ys) y c e one = by_test (λ k. first_bound n t ys y k e (λ a h. one a (contains_tail x a ys h))) (bytes_eq (n.terms.variable x.var) t) refl
  where
    by_test : (Contains ys y → first_named t (map bound_row (map (bound_named n) ys)) ≡ Some (bound_named n y)) → (b : Bool) → bytes_eq (n.terms.variable x.var) t ≡ b
        → cond b (Some (bound_named n x)) (first_named t (map bound_row (map (bound_named n) ys))) ≡ Some (bound_named n y)
    by_test rest true q = ap (λ z. Some (bound_named n z)) (one x (contains_head x ys) ((bytes_eq-Decides (n.terms.variable x.var) t).0 q))
    by_test rest false q = ⊎_elim
        (λ p. let told : bytes_eq (n.terms.variable x.var) t ≡ true = (bytes_eq-Decides (n.terms.variable x.var) t).1 (ap (λ (z : Bound). n.terms.variable z.var) p ∙ e) in let never : true ≡ false = sym told ∙ q in absurd cc) rest
        (contains_cons x y ys c)

none_bound : (n : TextNames) (t : Name) (ys : List Bound) → ((a : Bound) → Contains ys a → n.terms.variable a.var ≡ t → ⊥) → first_named t (map bound_row (map (bound_named n) ys)) ≡ None
none_bound n t [] never = refl
none_bound n t (x ∷ ys) never = by_test (none_bound n t ys (λ a c. never a (contains_tail x a ys c))) (bytes_eq (n.terms.variable x.var) t) refl
  where
    by_test : first_named t (map bound_row (map (bound_named n) ys)) ≡ None → (b : Bool) → bytes_eq (n.terms.variable x.var) t ≡ b → cond b (Some (bound_named n x)) (first_named t (map bound_row (map (bound_named n) ys))) ≡ None
    by_test rest true q = absurd (never x (contains_head x ys) ((bytes_eq-Decides (n.terms.variable x.var) t).0 q))
    by_test rest false q = rest

-- ---- the names fit
module _ (g : Sig) (sg : IsSignature g) (x : Name) where
  abbrev n : TextNames
  n = text_names_under g x

  pub own_fit : (ys : List Bound) → AreOwn g n ys → FitNames (vocabulary_of g) (variable_sorts g) (map (bound_named n) ys) n.terms
  own_fit ys own = record {
    variables = λ v s c h.
        let b = contained_from_map (λ (z : scopes.Bound). z.number) (map (bound_named n) ys) v c in
        let y = contained_from_map (bound_named n) ys b.0 b.1 in
        let number : y.0.var ≡ v = ap (λ (z : scopes.Bound). z.number) y.2 ∙ b.2 in
        let sort : y.0.sort ≡ s = one_sort (variable_sorts g) v y.0.sort s (subst (λ w. Declares (variable_sorts g) w y.0.sort) number (own.declared y.0 y.1)) h in
        first_bound n (n.terms.variable v) ys y.0 y.1 (ap n.terms.variable number) (λ a k e. own.apart a y.0 k y.1 (e ∙ sym (ap n.terms.variable number)))
        ∙ (λ i. Some (record { name = n.terms.variable (number i); number = number i; sort = sort i }));
    unbound = λ f is. none_bound n (symbol_text n.terms f) ys (λ a c e. own.unbound a c f is e);
    own_sorts = λ k l. own_sorts g sg k l;
    free = λ f is h. free g sg f h;
    once = λ k e. let o = once g sg k e in (o.0, o.1, none_bound n (n.terms.function k) ys (λ a c q. own.unbound a c (function k) (once_within g sg k e) q));
  }

  pub own_read : (ys : List Bound) → AreOwn g n ys → ReadsNames (data_meant g) (variable_sorts g) (numbers_of (map (bound_named n) ys)) n.terms (meaning (vocabulary_of g) (map (bound_named n) ys))
  own_read ys own = names_that_fit_read (vocabulary_of g) (variable_sorts g) (map (bound_named n) ys) n.terms (own_fit ys own)

  -- without variables
  pub closed_read : ReadsNames (data_meant g) [] [] n.terms (meaning (vocabulary_of g) [])
  closed_read = names_that_fit_read (vocabulary_of g) [] [] n.terms (record {
    variables = λ v s c h. absurd (contains_none v c);
    unbound = λ f is. refl;
    own_sorts = λ k l. own_sorts g sg k l;
    free = λ f is h. free g sg f h;
    once = λ k e. let o = once g sg k e in (o.0, o.1, refl);
  })

  -- ---- they come into scope
  pub can_bind : (v : FullVocabulary) → v.declared ≡ vocabulary_of g → (scope : Scope) (xs : List Bound) → HaveDataSorts (data_meant g) xs → AreDistinct (variables xs) → Apart (variables xs) (numbers_of scope) → CanBind v n scope xs
  can_bind v e scope [] h d a = tt
  can_bind v e scope (y ∷ ys) h d a = (
    ap (λ w. sort_in w.sort_names (sort_written n y.sort)) e ∙ sort_back g sg x y.sort (h y (contains_head y ys)),
    (λ c. a y.var (contains_first y.var (variables ys)) c),
    can_bind v e (bound_named n y ∷ scope) ys (λ z c. h z (contains_tail y z ys c)) d.1
        (λ w c k. ⊎_elim (λ q. d.0 (subst (Contains (variables ys)) (sym q) c)) (λ j. a w (contains_later y.var w (variables ys) c) j) (contains_cons y.var w (numbers_of scope) k)),
  )

-- ---- the names of two differ
each_other : (n : TextNames) (x : Bound) (ys : List Bound) → ((y : Bound) → Contains ys y → n.terms.variable x.var ≢ n.terms.variable y.var) → AllByRecursion (λ (y : Bound). n.terms.variable x.var ≢ n.terms.variable y.var) ys
each_other n x [] h = tt
each_other n x (y ∷ ys) h = (h y (contains_head y ys), each_other n x ys (λ z c. h z (contains_tail y z ys c)))

pub names_apart : (n : TextNames) (xs : List Bound) → AreDistinct (variables xs) → ((a b : Bound) → Contains xs a → Contains xs b → n.terms.variable a.var ≡ n.terms.variable b.var → a ≡ b) → EachTwo (λ (x y : Bound). n.terms.variable x.var ≢ n.terms.variable y.var) xs
names_apart n [] d h = tt
names_apart n (x ∷ xs) d h = (
  each_other n x xs (λ y c e. d.0 (subst (Contains (variables xs)) (sym (ap (λ (z : Bound). z.var) (h x y (contains_head x xs) (contains_tail x y xs c) e))) (contains_map (λ (z : Bound). z.var) xs y c))),
  names_apart n xs d.1 (λ a b c k. h a b (contains_tail x a xs c) (contains_tail x b xs k)),
)
