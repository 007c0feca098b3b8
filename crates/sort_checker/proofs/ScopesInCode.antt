-- Variables come into scope in code and leave it.
use Rattle.std.proofs.Common.{◌≡◌, ◌≤◌, ◌+◌, ◌-◌, ℕ, zero, suc, Bool, true, false, List, [], ◌∷◌, ◌++◌, length, map, take, refl, sym, ap, ap₂, ◌∙◌, subst, arith, length-append}
use Rattle.std.specs.Prelude.{Option, Some, None, is_some, option_map, option_to_list, slice_get}
use Rattle.std.proofs.lemmas.List.{map-append}
use Rattle.std.proofs.lemmas.List.Elements.{All-push}
use Rattle.std.proofs.lemmas.Option.{get_or_from_slice_get}
use Rattle.std.proofs.lemmas.List.Elements.{All-take}
use Rattle.std.proofs.lemmas.Option.{slice_get_within}
use Rattle.data_theory.specs.Signature.{Sig}
use Rattle.data_theory.specs.Terms.{Sort}
use Rattle.sort_table.specs.Expressions.{Name}
use Rattle.sort_table.specs.BareSorts.{SortExpression}
use Rattle.sort_table.specs.BareProcesses.{Variables}
use Rattle.sort_table.specs.SignatureVocabularies.{vocabulary_of}
use Rattle.sort_table.specs.Vocabularies.{Vocabulary, sort_in}
use Rattle.data_typing.specs.declared.scope.Bound as code
use Rattle.data_typing.specs.CodeWords as code_words
use Rattle.data_typing.specs.CodeWords.{bound_of}
use Rattle.data_typing.specs.declared.flat_sorts.FlatSort.{FlatSort}
use Rattle.data_typing.specs.Contexts.{IsBoundOver, IsFlatOver, IsScopeOver}
use Rattle.data_typing.specs.FlatSorts.{flat_sort}
use Rattle.data_typing.specs.Meanings.{Bound, Scope}
use Rattle.sort_checker.specs.Scopes.{numbered, scope_behind, scope_of}
use Rattle.sort_checker.specs.declared.variable_scopes.VariableScope.{VariableScope}
use Rattle.sort_checker.specs.VariableScopes.{has_sort, HasInScope}

-- ---- one more
code_more : (texts : List Name) (sc : Scope) (bs : List code.Bound) (b : code.Bound) → code_words.scope_behind texts sc (bs ++ b ∷ []) ≡ bound_of texts b ∷ code_words.scope_behind texts sc bs
code_more texts sc [] b = refl
code_more texts sc (x ∷ bs) b = code_more texts (bound_of texts x ∷ sc) bs b

code_length : (texts : List Name) (sc : Scope) (bs : List code.Bound) → length (code_words.scope_behind texts sc bs) ≡ length sc + length bs
code_length texts sc [] = omega arith
code_length texts sc (b ∷ bs) = let h = code_length texts (bound_of texts b ∷ sc) bs in omega (arith, h)

spec_more : (v : Vocabulary) (sc : Scope) (xs : Variables) (x : Name × SortExpression) → scope_behind v sc (xs ++ x ∷ []) ≡ option_to_list (numbered v (scope_behind v sc xs) x) ++ scope_behind v sc xs
spec_more v sc [] x = refl
spec_more v sc (y ∷ xs) x = spec_more v (option_to_list (numbered v sc y) ++ sc) xs x

-- a variable with its sort
pub scope_pushed : (g : Sig) (xs : Variables) (bs : List code.Bound) → code_words.scope_of g.texts bs ≡ scope_of (vocabulary_of g) xs → (name : Name) (e : SortExpression) (s : Sort) → Some s ≡ sort_in (vocabulary_of g).sort_names e
    → (b : code.Bound) → bound_of g.texts b ≡ record { name = name; number = length bs; sort = s } → code_words.scope_of g.texts (bs ++ b ∷ []) ≡ scope_of (vocabulary_of g) (xs ++ (name, e) ∷ [])
scope_pushed g xs bs same name e s sort b is =
    let v : Vocabulary = vocabulary_of g in
    let count : length (code_words.scope_of g.texts bs) ≡ length bs = (let h = code_length g.texts [] bs in omega (arith, h)) in
    let long : length (scope_of v xs) ≡ length bs = sym (ap length same) ∙ count in
    code_more g.texts [] bs b
    ∙ (ap₂ (λ (x : Bound) (sc : Scope). x ∷ sc) (is ∙ ap (λ (n : ℕ). record { name = name; number = n; sort = s }) (sym long)) same
    ∙ (ap (λ (o : Option Sort). option_to_list (option_map (λ r. record { name = name; number = length (scope_of v xs); sort = r }) o) ++ scope_of v xs) sort ∙ sym (spec_more v [] xs (name, e))))

-- one without
pub scope_unchanged : (g : Sig) (xs : Variables) (bs : List code.Bound) → code_words.scope_of g.texts bs ≡ scope_of (vocabulary_of g) xs → (name : Name) (e : SortExpression) → None ≡ sort_in (vocabulary_of g).sort_names e
    → code_words.scope_of g.texts bs ≡ scope_of (vocabulary_of g) (xs ++ (name, e) ∷ [])
scope_unchanged g xs bs same name e sort =
    let v : Vocabulary = vocabulary_of g in
    same ∙ (ap (λ (o : Option Sort). option_to_list (option_map (λ r. record { name = name; number = length (scope_of v xs); sort = r }) o) ++ scope_of v xs) sort ∙ sym (spec_more v [] xs (name, e)))

pub marks_pushed : (v : Vocabulary) (xs : Variables) (old new : List Bool) (name : Name) (e : SortExpression) (m : Bool) → old ≡ map (has_sort v) xs → new ≡ old ++ m ∷ [] → m ≡ is_some (sort_in v.sort_names e)
    → new ≡ map (has_sort v) (xs ++ (name, e) ∷ [])
marks_pushed v xs old new name e m same pushed is = pushed ∙ (ap₂ (λ (ms : List Bool) (b : Bool). ms ++ b ∷ []) same is ∙ sym (map-append (has_sort v) xs ((name, e) ∷ [])))

-- ---- the last one
pub record LastOf {A : Type 0} (xs : List A) : Type 0 where
  pub front : List A
  pub last : A
  pub are : xs ≡ front ++ last ∷ []

last_of : {A : Type 0} (x : A) (xs : List A) → LastOf (x ∷ xs)
last_of x [] = record { front = []; last = x; are = refl }
last_of x (y ∷ xs) = let r = last_of y xs in record { front = x ∷ r.front; last = r.last; are = ap (λ ys. x ∷ ys) r.are }

pub take_front : {A : Type 0} (xs : List A) (x : A) → take (length (xs ++ x ∷ []) - 1) (xs ++ x ∷ []) ≡ xs
take_front xs x =
    let long = length-append xs (x ∷ []) in
    let n : length (xs ++ x ∷ []) - 1 ≡ length xs = omega (arith, long) in
    ap (λ k. take k (xs ++ x ∷ [])) n ∙ taken xs (x ∷ [])
  where
    taken : {A : Type 0} (ys zs : List A) → take (length ys) (ys ++ zs) ≡ ys
    taken [] zs = refl
    taken (y ∷ ys) zs = ap (λ us. y ∷ us) (taken ys zs)

pub record MarkedLast (v : Vocabulary) (xs : Variables) (ms : List Bool) (m : Bool) : Type 0 where
  pub front : Variables
  pub last : Name × SortExpression
  pub are : xs ≡ front ++ last ∷ []
  pub marks : ms ≡ map (has_sort v) front
  pub mark : m ≡ has_sort v last

ends_alike : {A : Type 0} (xs ys : List A) (x y : A) → xs ++ x ∷ [] ≡ ys ++ y ∷ [] → (xs ≡ ys) × (x ≡ y)
ends_alike [] [] x y e = (refl, (let same : x ≡ y = cc in same))
ends_alike [] (z ∷ []) x y e = cc
ends_alike [] (z ∷ w ∷ ys) x y e = cc
ends_alike (z ∷ []) [] x y e = cc
ends_alike (z ∷ w ∷ xs) [] x y e = cc
ends_alike (z ∷ xs) (w ∷ ys) x y e =
    let head : z ≡ w = cc in
    let tail : xs ++ x ∷ [] ≡ ys ++ y ∷ [] = cc in
    let r = ends_alike xs ys x y tail in (ap₂ (λ u us. u ∷ us) head r.0, r.1)

none_marked : (ms : List Bool) (m : Bool) → ms ++ m ∷ [] ≡ [] → ⊥
none_marked [] m e = cc
none_marked (n ∷ ms) m e = cc

pub marked_last : (v : Vocabulary) (xs : Variables) (all ms : List Bool) (m : Bool) → all ≡ map (has_sort v) xs → all ≡ ms ++ m ∷ [] → MarkedLast v xs ms m
marked_last v [] all ms m same are = absurd (none_marked ms m (sym are ∙ same))
marked_last v (x ∷ xs) all ms m same are =
    let r = last_of x xs in
    let both = ends_alike ms (map (has_sort v) r.front) m (has_sort v r.last) (sym are ∙ (same ∙ (ap (map (has_sort v)) r.are ∙ map-append (has_sort v) r.front (r.last ∷ [])))) in
    record { front = r.front; last = r.last; are = r.are; marks = both.0; mark = both.1 }

-- ---- it leaves the scope
tails_alike : {A : Type 0} (x y : A) (xs ys : List A) → ◌≡◌ {A = List A} (x ∷ xs) (y ∷ ys) → xs ≡ ys
tails_alike x y xs ys e = cc

pub scope_popped : (g : Sig) (front : Variables) (last : Name × SortExpression) (bs : List code.Bound) → code_words.scope_of g.texts bs ≡ scope_of (vocabulary_of g) (front ++ last ∷ []) → has_sort (vocabulary_of g) last ≡ true
    → code_words.scope_of g.texts (take (length bs - 1) bs) ≡ scope_of (vocabulary_of g) front
scope_popped g front last bs same has = of_sort (sort_in (vocabulary_of g).sort_names last.1) refl has bs (same ∙ spec_more (vocabulary_of g) [] front last)
  where
    v : Vocabulary
    v = vocabulary_of g

    with_bound : (b : Bound) (cs : List code.Bound) → code_words.scope_of g.texts cs ≡ b ∷ scope_of v front → code_words.scope_of g.texts (take (length cs - 1) cs) ≡ scope_of v front
    with_bound b [] e = cc
    with_bound b (c ∷ cs) e =
        let r = last_of c cs in
        let front_of : take (length (c ∷ cs) - 1) (c ∷ cs) ≡ r.front = ap (λ ds. take (length ds - 1) ds) r.are ∙ take_front r.front r.last in
        ap (code_words.scope_of g.texts) front_of ∙ tails_alike (bound_of g.texts r.last) b (code_words.scope_of g.texts r.front) (scope_of v front) (sym (code_more g.texts [] r.front r.last) ∙ (ap (code_words.scope_of g.texts) (sym r.are) ∙ e))

    of_sort : (o : Option Sort) → sort_in v.sort_names last.1 ≡ o → is_some (sort_in v.sort_names last.1) ≡ true → (cs : List code.Bound) → code_words.scope_of g.texts cs ≡ option_to_list (numbered v (scope_of v front) last) ++ scope_of v front
        → code_words.scope_of g.texts (take (length cs - 1) cs) ≡ scope_of v front
    of_sort None sort h cs e = let never : false ≡ true = sym (ap is_some sort) ∙ h in absurd cc
    of_sort (Some s) sort h cs e =
        with_bound (record { name = last.0; number = length (scope_of v front); sort = s }) cs
        (e ∙ ap (λ (o : Option Sort). option_to_list (option_map (λ r. record { name = last.0; number = length (scope_of v front); sort = r }) o) ++ scope_of v front) sort)

pub scope_stayed : (g : Sig) (front : Variables) (last : Name × SortExpression) (bs : List code.Bound) → code_words.scope_of g.texts bs ≡ scope_of (vocabulary_of g) (front ++ last ∷ []) → has_sort (vocabulary_of g) last ≡ false
    → code_words.scope_of g.texts bs ≡ scope_of (vocabulary_of g) front
scope_stayed g front last bs same has = of_sort (sort_in (vocabulary_of g).sort_names last.1) refl has
  where
    v : Vocabulary
    v = vocabulary_of g

    of_sort : (o : Option Sort) → sort_in v.sort_names last.1 ≡ o → is_some (sort_in v.sort_names last.1) ≡ false → code_words.scope_of g.texts bs ≡ scope_of v front
    of_sort (Some s) sort h = let never : true ≡ false = sym (ap is_some sort) ∙ h in absurd cc
    of_sort None sort h = same ∙ (spec_more v [] front last ∙ ap (λ (o : Option Sort). option_to_list (option_map (λ r. record { name = last.0; number = length (scope_of v front); sort = r }) o) ++ scope_of v front) sort)

-- ---- fronts of fronts
taken_again : {A : Type 0} (n m : ℕ) (xs : List A) → n ≤ m → take n (take m xs) ≡ take n xs
taken_again zero m xs l = refl
taken_again (suc n) zero xs l = let never : ⊥ = omega (arith, l) in absurd never
taken_again (suc n) (suc m) [] l = refl
taken_again (suc n) (suc m) (x ∷ xs) l = ap (λ ys. x ∷ ys) (taken_again n m xs (omega (arith, l)))

length_taken : {A : Type 0} (n : ℕ) (xs : List A) → n ≤ length xs → length (take n xs) ≡ n
length_taken zero xs l = refl
length_taken (suc n) [] l = let never : ⊥ = omega (arith, l) in absurd never
length_taken (suc n) (x ∷ xs) l = ap suc (length_taken n xs (omega (arith, l)))

pub fewer_again : {A : Type 0} (xs : List A) (a k : ℕ) → take (length (take (length xs - a) xs) - k) (take (length xs - a) xs) ≡ take (length xs - (a + k)) xs
fewer_again xs a k =
    let long = length_taken (length xs - a) xs (omega arith) in
    let n : length (take (length xs - a) xs) - k ≡ length xs - (a + k) = omega (arith, long) in
    ap (λ j. take j (take (length xs - a) xs)) n ∙ taken_again (length xs - (a + k)) (length xs - a) xs (omega arith)

-- ---- in code
pub entered_with : (g : Sig) (xs : Variables) (s new : VariableScope) (name : Name) (e : SortExpression) (f : FlatSort) (b : code.Bound) → HasInScope g xs s → b.sort ≡ f → b.var.0 ≡ length s.scope → slice_get g.texts b.name.0 ≡ Some name → IsFlatOver g f
    → Some (flat_sort f) ≡ sort_in (vocabulary_of g).sort_names e → new.scope ≡ s.scope ++ b ∷ [] → new.entered.items ≡ s.entered.items ++ true ∷ [] → HasInScope g (xs ++ (name, e) ∷ []) new
entered_with g xs s new name e f b inside its number named over sort pushed marked = record {
  over = subst (IsScopeOver g) (sym pushed) (All-push (IsBoundOver g) s.scope b inside.over (slice_get_within g.texts b.name.0 name named, subst (IsFlatOver g) (sym its) over));
  marks = marks_pushed (vocabulary_of g) xs s.entered.items new.entered.items name e true inside.marks marked (ap is_some sort);
  scope = ap (code_words.scope_of g.texts) pushed
      ∙ scope_pushed g xs s.scope inside.scope name e (flat_sort f) sort b (λ i. record { name = get_or_from_slice_get g.texts b.name.0 name [] named i; number = number i; sort = flat_sort (its i) });
}

pub entered_without : (g : Sig) (xs : Variables) (s new : VariableScope) (name : Name) (e : SortExpression) → HasInScope g xs s → None ≡ sort_in (vocabulary_of g).sort_names e → new.scope ≡ s.scope → new.entered.items ≡ s.entered.items ++ false ∷ []
    → HasInScope g (xs ++ (name, e) ∷ []) new
entered_without g xs s new name e inside sort same marked = record {
  over = subst (IsScopeOver g) (sym same) inside.over;
  marks = marks_pushed (vocabulary_of g) xs s.entered.items new.entered.items name e false inside.marks marked (ap is_some sort);
  scope = ap (code_words.scope_of g.texts) same ∙ scope_unchanged g xs s.scope inside.scope name e sort;
}

pub left_with : (g : Sig) (xs : Variables) (s new : VariableScope) (m : Bool) → HasInScope g xs s → s.entered.items ≡ new.entered.items ++ m ∷ [] → m ≡ true → new.scope ≡ take (length s.scope - 1) s.scope → HasInScope g (take (length xs - 1) xs) new
left_with g xs s new m inside popped marked left =
    let r = marked_last (vocabulary_of g) xs s.entered.items new.entered.items m inside.marks popped in
    let front : take (length xs - 1) xs ≡ r.front = ap (λ (ys : Variables). take (length ys - 1) ys) r.are ∙ take_front r.front r.last in
    subst (λ (ys : Variables). HasInScope g ys new) (sym front)
    (record {
      over = subst (IsScopeOver g) (sym left) (All-take (IsBoundOver g) (length s.scope - 1) s.scope inside.over);
      marks = r.marks;
      scope = ap (code_words.scope_of g.texts) left ∙ scope_popped g r.front r.last s.scope (inside.scope ∙ ap (scope_of (vocabulary_of g)) r.are) (sym r.mark ∙ marked);
    })

pub left_without : (g : Sig) (xs : Variables) (s new : VariableScope) (m : Bool) → HasInScope g xs s → s.entered.items ≡ new.entered.items ++ m ∷ [] → m ≡ false → new.scope ≡ s.scope → HasInScope g (take (length xs - 1) xs) new
left_without g xs s new m inside popped marked same =
    let r = marked_last (vocabulary_of g) xs s.entered.items new.entered.items m inside.marks popped in
    let front : take (length xs - 1) xs ≡ r.front = ap (λ (ys : Variables). take (length ys - 1) ys) r.are ∙ take_front r.front r.last in
    subst (λ (ys : Variables). HasInScope g ys new) (sym front)
    (record {
      over = subst (IsScopeOver g) (sym same) inside.over;
      marks = r.marks;
      scope = ap (code_words.scope_of g.texts) same ∙ scope_stayed g r.front r.last s.scope (inside.scope ∙ ap (scope_of (vocabulary_of g)) r.are) (sym r.mark ∙ marked);
    })
