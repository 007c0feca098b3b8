-- What is left out of calls, and searches along lists in code.
use Rattle.std.proofs.Common.{◌≡◌, ◌<◌, ◌+◌, ◌==◌, ℕ, zero, suc, Bool, true, false, cond, ◌||◌, List, [], ◌∷◌, ◌++◌, length, map, take, get_or, refl, sym, ap, ap₂, ◌∙◌, arith, eqb-true, eq-eqb}
use Rattle.std.specs.Prelude.{Option, Some, None, is_some, option_map, option_and_then, bytes_eq, if◌then◌else◌}
use Rattle.std.specs.List.{find}
use Rattle.std.proofs.lemmas.List.Elements.{All-head, All-tail}
use Rattle.std.proofs.lemmas.Option.{none-some, same_Some, slice_get-get_or}
use Rattle.std.proofs.lemmas.Slice.Eq.{bytes_eq-Decides}
use Rattle.mcrl2_syntax.specs.declared.process_tree.Assignment.{Assignment}
use Rattle.mcrl2_syntax.specs.DataTrees.{plain_data}
use Rattle.data_theory.specs.declared.ids.NameId.{NameId}
use Rattle.data_theory.specs.Names.{AreDifferent}
use Rattle.data_theory.specs.Signature.{Sig}
use Rattle.data_theory.specs.Terms.{Sort, variable}
use Rattle.data_theory.specs.WholeSignatures.{IsSignature}
use Rattle.sort_table.specs.BareData.{bare_data}
use Rattle.sort_table.specs.BareProcesses.{Variables}
use Rattle.sort_table.specs.Expressions.{Name, Expression}
use Rattle.sort_table.specs.NamedLists.{first_named}
use Rattle.sort_table.specs.SignatureVocabularies.{text_under, vocabulary_of}
use Rattle.sort_table.specs.Vocabularies.{Vocabulary}
use Rattle.sort_table.proofs.Searches.{IsListed, listed_more}
use Rattle.data_typing.specs.declared.scope.Bound as code
use Rattle.data_typing.specs.CodeWords as code_words
use Rattle.data_typing.specs.CodeWords.{bound_of, found_behind}
use Rattle.data_typing.specs.Contexts.{IsBoundOver, IsScopeOver}
use Rattle.data_typing.specs.FlatSorts.{flat_sort}
use Rattle.data_typing.specs.Meanings.{Bound, Scope, bound_row}
use Rattle.data_typing.specs.Typings.{sort_eq}
use Rattle.sort_checker.specs.declared.name_numbers.NameNumbers.{NameNumbers}
use Rattle.sort_checker.specs.declared.parameter_tables.Parameter.{Parameter}
use Rattle.sort_checker.specs.declared.text_contexts.TextContext.{TextContext}
use Rattle.sort_checker.specs.declared.variable_scopes.VariableScope.{VariableScope}
use Rattle.sort_checker.specs.Faults.{first_left_out}
use Rattle.sort_checker.specs.FreeTrees.{assigned, HasAssigned, left_out_among}
use Rattle.sort_checker.specs.FullVocabularies.{Parameters, FullVocabulary, process_named}
use Rattle.sort_checker.specs.NameNumbers.{number_under, has_name}
use Rattle.sort_checker.specs.ParameterTables.{parameter_of, parameters_of, parameters_under, IsParameterOver}
use Rattle.sort_checker.specs.PartTypings.{variable_at, left_out}
use Rattle.sort_checker.specs.Scopes.{scope_of}
use Rattle.sort_checker.specs.TextContexts.{IsContextOver}
use Rattle.sort_checker.specs.VariableScopes.{HasInScope}

-- ---- searches through a function
module _ {A B : Type 0} (p : B → Bool) (f : A → B) where
  pub found_here : (xs : List A) (i : ℕ) (d : A) → i < length xs → find p (map f (take i xs)) ≡ None → p (f (get_or xs i d)) ≡ true → find p (map f xs) ≡ Some (f (get_or xs i d))
  found_here [] i d l none it = let never : ⊥ = omega (arith, l) in absurd never
  found_here (x ∷ xs) zero d l none it = ap (λ (b : Bool). cond b (Some (f x)) (find p (map f xs))) it
  found_here (x ∷ xs) (suc i) d l none it = by_test (p (f x)) refl (found_here xs i d (omega (arith, l)))
    where
      by_test : (b : Bool) → p (f x) ≡ b → (find p (map f (take i xs)) ≡ None → p (f (get_or xs i d)) ≡ true → find p (map f xs) ≡ Some (f (get_or xs i d))) → find p (map f (x ∷ xs)) ≡ Some (f (get_or xs i d))
      by_test true e later = absurd (none-some (f x) (sym none ∙ ap (λ (b : Bool). cond b (Some (f x)) (find p (map f (take i xs)))) e))
      by_test false e later = ap (λ (b : Bool). cond b (Some (f x)) (find p (map f xs))) e ∙ later (sym (ap (λ (b : Bool). cond b (Some (f x)) (find p (map f (take i xs)))) e) ∙ none) it

  pub not_here : (xs : List A) (i : ℕ) (d : A) → i < length xs → find p (map f (take i xs)) ≡ None → p (f (get_or xs i d)) ≡ false → find p (map f (take (i + 1) xs)) ≡ None
  not_here [] i d l none it = let never : ⊥ = omega (arith, l) in absurd never
  not_here (x ∷ xs) zero d l none it = ap (λ (b : Bool). cond b (Some (f x)) None) it
  not_here (x ∷ xs) (suc i) d l none it =
      let next : suc i + 1 ≡ suc (i + 1) = omega arith in
      ap (λ (n : ℕ). find p (map f (take n (x ∷ xs)))) next ∙ by_test (p (f x)) refl (not_here xs i d (omega (arith, l)))
    where
      by_test : (b : Bool) → p (f x) ≡ b → (find p (map f (take i xs)) ≡ None → p (f (get_or xs i d)) ≡ false → find p (map f (take (i + 1) xs)) ≡ None) → find p (map f (x ∷ take (i + 1) xs)) ≡ None
      by_test true e later = absurd (none-some (f x) (sym none ∙ ap (λ (b : Bool). cond b (Some (f x)) (find p (map f (take i xs)))) e))
      by_test false e later = ap (λ (b : Bool). cond b (Some (f x)) (find p (map f (take (i + 1) xs)))) e ∙ later (sym (ap (λ (b : Bool). cond b (Some (f x)) (find p (map f (take i xs)))) e) ∙ none) it

mapped_none : {A B : Type 0} (f : A → B) (o : Option A) → option_map f o ≡ None → o ≡ None
mapped_none f None h = refl
mapped_none f (Some x) h = absurd (none-some (f x) (sym h))

module _ (q : Name × Sort → Bool) (g : Sig) where
  abbrev first_such : List Parameter → Option Name
  first_such ps = option_map (λ (p : Name × Sort). p.0) (find q (parameters_of g ps))

  pub parameter_here : (ps : List Parameter) (i : ℕ) (d : Parameter) → i < length ps → first_such (take i ps) ≡ None → q (parameter_of g (get_or ps i d)) ≡ true → first_such ps ≡ Some (text_under g (get_or ps i d).name)
  parameter_here ps i d l none it = ap (option_map (λ (p : Name × Sort). p.0)) (found_here q (parameter_of g) ps i d l (mapped_none (λ (p : Name × Sort). p.0) (find q (parameters_of g (take i ps))) none) it)

  pub parameter_not_here : (ps : List Parameter) (i : ℕ) (d : Parameter) → i < length ps → first_such (take i ps) ≡ None → q (parameter_of g (get_or ps i d)) ≡ false → first_such (take (i + 1) ps) ≡ None
  parameter_not_here ps i d l none it = ap (option_map (λ (p : Name × Sort). p.0)) (not_here q (parameter_of g) ps i d l (mapped_none (λ (p : Name × Sort). p.0) (find q (parameters_of g (take i ps))) none) it)

-- ---- what is assigned
assigned_listed : IsListed assigned (λ (a : Assignment). (a.name.bytes.items, bare_data (plain_data a.value)) ∷ [])
assigned_listed = record { of_none = refl; of_more = λ a as_. refl }

named_behind : (n m : Name) (e : Expression) (xs : List (Name × Expression)) → is_some (first_named n (xs ++ (m, e) ∷ [])) ≡ (bytes_eq m n || is_some (first_named n xs))
named_behind n m e [] = by_test (bytes_eq m n)
  where
    by_test : (b : Bool) → is_some (cond b (Some e) None) ≡ (b || false)
    by_test true = refl
    by_test false = refl
named_behind n m e (x ∷ xs) = by_tests (named_behind n m e xs) (bytes_eq x.0 n) (bytes_eq m n)
  where
    by_tests : is_some (first_named n (xs ++ (m, e) ∷ [])) ≡ (bytes_eq m n || is_some (first_named n xs)) → (a b : Bool) → is_some (cond a (Some x.1) (first_named n (xs ++ (m, e) ∷ []))) ≡ (bytes_eq m n || is_some (cond a (Some x.1) (first_named n xs)))
    by_tests later true b = or_true (bytes_eq m n)
      where
        or_true : (c : Bool) → true ≡ (c || true)
        or_true true = refl
        or_true false = refl
    by_tests later false b = later

pub assigned_more : (ds : List Assignment) (i : ℕ) (a : Assignment) (old new : NameNumbers) (k : ℕ) (name : Name) → i < length ds → a ≡ get_or ds i a → name ≡ a.name.bytes.items → HasAssigned (take i ds) old
    → ((n : Name) → number_under new n ≡ cond (bytes_eq name n) (Some k) (number_under old n)) → HasAssigned (take (i + 1) ds) new
assigned_more ds i a old new k name l e is before put n =
    ap is_some (put n) ∙ (by_test (bytes_eq name n) ∙ (ap₂ (λ (m : Name) (b : Bool). bytes_eq m n || b) is (before n)
    ∙ (sym (named_behind n a.name.bytes.items (bare_data (plain_data a.value)) (assigned (take i ds))) ∙ ap (λ xs. is_some (first_named n xs)) (sym (listed_more assigned (λ (b : Assignment). (b.name.bytes.items, bare_data (plain_data b.value)) ∷ []) assigned_listed ds i a l e)))))
  where
    by_test : (b : Bool) → is_some (cond b (Some k) (number_under old n)) ≡ (b || has_name old n)
    by_test true = refl
    by_test false = refl

-- ---- variables by name
pub same_name : (texts : List Name) → AreDifferent texts → (i j : ℕ) → i < length texts → j < length texts → bytes_eq (get_or texts i []) (get_or texts j []) ≡ (i == j)
same_name texts differ i j l m =
    both_tell (bytes_eq (get_or texts i []) (get_or texts j [])) (i == j)
    (λ e. let same : get_or texts i [] ≡ get_or texts j [] = (bytes_eq-Decides (get_or texts i []) (get_or texts j [])).0 e in eq-eqb i j (differ i j (get_or texts j []) (slice_get-get_or texts i [] l ∙ ap Some same) (slice_get-get_or texts j [] m)))
    (λ e. (bytes_eq-Decides (get_or texts i []) (get_or texts j [])).1 (ap (λ k. get_or texts k []) (eqb-true i j e)))
  where
    both_tell : (b c : Bool) → (b ≡ true → c ≡ true) → (c ≡ true → b ≡ true) → b ≡ c
    both_tell true true f k = refl
    both_tell false false f k = refl
    both_tell true false f k = sym (f refl)
    both_tell false true f k = k refl

bound_if : (texts : List Name) (c : Bool) (b : code.Bound) (o : Option code.Bound) (p : Option Bound) → p ≡ option_map (bound_of texts) o → cond c (Some (bound_of texts b)) p ≡ option_map (bound_of texts) (cond c (Some b) o)
bound_if texts true b o p e = refl
bound_if texts false b o p e = e

pub found_in_code : (g : Sig) → AreDifferent g.texts → (n : NameId) → n.0 < length g.texts → (bs : List code.Bound) → IsScopeOver g bs → (sc : Scope) (o : Option code.Bound) → first_named (text_under g n) (map bound_row sc) ≡ option_map (bound_of g.texts) o
    → first_named (text_under g n) (map bound_row (code_words.scope_behind g.texts sc bs)) ≡ option_map (bound_of g.texts) (found_behind n o bs)
found_in_code g differ n l [] over sc o e = e
found_in_code g differ n l (b ∷ bs) over sc o e =
    found_in_code g differ n l bs (All-tail (IsBoundOver g) b bs over) (bound_of g.texts b ∷ sc) (cond (b.name.0 == n.0) (Some b) o)
    (ap (λ c. cond c (Some (bound_of g.texts b)) (first_named (text_under g n) (map bound_row sc))) (same_name g.texts differ b.name.0 n.0 (All-head (IsBoundOver g) b bs over).0 l)
    ∙ bound_if g.texts (b.name.0 == n.0) b o (first_named (text_under g n) (map bound_row sc)) e)

module _ (g : Sig) (stands : IsSignature g) (xs : Variables) (s : VariableScope) (inside : HasInScope g xs s) (p : Parameter) (over : IsParameterOver g p) where
  innermost : first_named (text_under g p.name) (map bound_row (scope_of (vocabulary_of g) xs)) ≡ option_map (bound_of g.texts) (found_behind p.name None s.scope)
  innermost =
      ap (λ (sc : Scope). first_named (text_under g p.name) (map bound_row sc)) (sym inside.scope) ∙ found_in_code g stands.table.different p.name over.0 s.scope inside.over [] None refl

  told : is_some (left_out (scope_of (vocabulary_of g) xs) (parameter_of g p)) ≡ is_some (option_and_then (variable_at (flat_sort p.sort)) (option_map (bound_of g.texts) (found_behind p.name None s.scope)))
  told = ap (λ o. is_some (option_and_then (variable_at (flat_sort p.sort)) o)) innermost

  pub taken_found : (b : code.Bound) (o : Option code.Bound) → o ≡ found_behind p.name None s.scope → o ≡ Some b → sort_eq (flat_sort b.sort) (flat_sort p.sort) ≡ is_some (left_out (scope_of (vocabulary_of g) xs) (parameter_of g p))
  taken_found b o is e =
      sym (told ∙ (ap (λ c. is_some (option_and_then (variable_at (flat_sort p.sort)) (option_map (bound_of g.texts) c))) (sym is ∙ e) ∙ by_test (sort_eq (flat_sort b.sort) (flat_sort p.sort))))
    where
      by_test : (t : Bool) → is_some (if t then Some (variable b.var.0) else None) ≡ t
      by_test true = refl
      by_test false = refl

  pub taken_none : (o : Option code.Bound) → o ≡ found_behind p.name None s.scope → o ≡ None → false ≡ is_some (left_out (scope_of (vocabulary_of g) xs) (parameter_of g p))
  taken_none o is e = sym (told ∙ ap (λ c. is_some (option_and_then (variable_at (flat_sort p.sort)) (option_map (bound_of g.texts) c))) (sym is ∙ e))

-- ---- calls
module _ (v : FullVocabulary) (xs : Variables) (c : TextContext) (over : IsContextOver v c) (x : Name) (ds : List (Name × Expression)) where
  pub none_left_out : parameters_under c.processes x ≡ None → None ≡ first_left_out (scope_of v.declared xs) ds (process_named v x)
  none_left_out e = of_process (process_named v x) (sym (over.processes x) ∙ ap (option_map (parameters_of c.sig.now)) e)
    where
      of_process : (o : Option (ℕ × Parameters)) → option_map (λ (r : ℕ × Parameters). r.1) o ≡ None → None ≡ first_left_out (scope_of v.declared xs) ds o
      of_process None h = refl
      of_process (Some r) h = absurd (none-some r.1 (sym h))

  pub some_left_out : (ps : List Parameter) → parameters_under c.processes x ≡ Some ps → left_out_among (scope_of (vocabulary_of c.sig.now) xs) ds (parameters_of c.sig.now ps) ≡ first_left_out (scope_of v.declared xs) ds (process_named v x)
  some_left_out ps e =
      ap (λ (w : Vocabulary). left_out_among (scope_of w xs) ds (parameters_of c.sig.now ps)) (sym over.declared) ∙ of_process (process_named v x) (sym (over.processes x) ∙ ap (option_map (parameters_of c.sig.now)) e)
    where
      of_process : (o : Option (ℕ × Parameters)) → option_map (λ (r : ℕ × Parameters). r.1) o ≡ Some (parameters_of c.sig.now ps) → left_out_among (scope_of v.declared xs) ds (parameters_of c.sig.now ps) ≡ first_left_out (scope_of v.declared xs) ds o
      of_process None h = absurd (none-some (parameters_of c.sig.now ps) h)
      of_process (Some r) h = ap (left_out_among (scope_of v.declared xs) ds) (same_Some (parameters_of c.sig.now ps) r.1 (sym h))
