-- Variables that come into scope in code.
use Rattle.std.proofs.Common.{◌≡◌, ◌<◌, ⊎_elim, ℕ, zero, suc, List, [], ◌∷◌, ◌++◌, map, length, get_or, refl, sym, subst, ap, ap₂, ◌∙◌, arith, length-append}
use Rattle.std.specs.Prelude.{Some, slice_get, Contains}
use Rattle.std.specs.List.{All}
use Rattle.std.proofs.lemmas.List.{length-map, append_assoc, map-append, append-nil}
use Rattle.std.proofs.lemmas.Option.{none-some, same_Some}
use Rattle.std.proofs.lemmas.List.Elements.{All-append, All-nil, All-cons, All-head, All-tail}
use Rattle.data_theory.specs.declared.ids.SortId.{SortId}
use Rattle.data_theory.specs.declared.ids.VarId.{VarId}
use Rattle.data_theory.specs.declared.signature.Variable.{Variable}
use Rattle.data_theory.specs.Terms.{Sort, boolean}
use Rattle.data_theory.specs.Signature.{Sig, with_variable}
use Rattle.data_theory.specs.WholeSignatures.{IsSignature}
use Rattle.data_theory.specs.IdTerms.{sort_under, variable_sorts, IsGrown}
use Rattle.data_theory.proofs.IdSortLemmas.{growth_keeps_meant_sorts}
use Rattle.data_theory.proofs.WholeSignatureLemmas.{variable_stands}
use Rattle.term_pool.specs.Pools.{PoolContents}
use Rattle.process_terms.specs.Processes as processes
use Rattle.process_terms.specs.Meanings.{bound_at, HasVariable}
use Rattle.process_terms.specs.SignatureEntries.{entries_of}
use Rattle.sort_table.specs.Expressions.{Name}
use Rattle.sort_table.specs.BareSorts.{SortExpression}
use Rattle.sort_table.specs.BareProcesses.{Variables}
use Rattle.sort_table.specs.NamedSorts.{sort_names_of}
use Rattle.sort_table.specs.Vocabularies.{Vocabulary, sort_in}
use Rattle.data_typing.specs.declared.scope.Bound.{Bound}
use Rattle.data_typing.specs.CodeWords.{bound_of, scope_behind, scope_of}
use Rattle.data_typing.specs.FlatSorts.{flat_sort}
use Rattle.data_typing.specs.Meanings.{Scope}
use Rattle.sort_checker.specs.Scopes.{numbers_of, Binds, binds_none, binds_more}
use Rattle.sort_checker.specs.Additions.{nothing, one_variable, HasIdentifier, GoesOn}
use Rattle.sort_checker.specs.ElaboratedParts.{AreBinders}
use Rattle.sort_checker.specs.CodeContexts.{IsNumbered, AreBound, EnterBehind}
use Rattle.sort_checker.proofs.Members.{contains_cases, contains_none}
use Rattle.sort_checker.proofs.Adding.{adds_then, it_is_grown, vocabulary_stays}

-- ---- scopes in code
pub scope_with : (texts : List Name) (s : Scope) (bs : List Bound) (c : Bound) → scope_behind texts s (bs ++ c ∷ []) ≡ bound_of texts c ∷ scope_behind texts s bs
scope_with texts s [] c = refl
scope_with texts s (b ∷ bs) c = scope_with texts (bound_of texts b ∷ s) bs c

numbers_with : (texts : List Name) (s : Scope) (n : ℕ) → ((k : ℕ) → Contains (numbers_of s) k → k < n) → (bs : List Bound) → All (λ (b : Bound). b.var.0 < n) bs → (k : ℕ) → Contains (numbers_of (scope_behind texts s bs)) k → k < n
numbers_with texts s n below [] all k c = below k c
numbers_with texts s n below (b ∷ bs) all k c =
    numbers_with texts (bound_of texts b ∷ s) n
    (λ j d. ⊎_elim (λ (e : b.var.0 ≡ j). let l = All-head (λ (x : Bound). x.var.0 < n) b bs all in omega (arith, l, e)) (λ there. below j there) (contains_cases b.var.0 j (numbers_of s) d))
    bs (All-tail (λ (x : Bound). x.var.0 < n) b bs all) k c

-- no variable in scope has the next number
pub next_is_fresh : (g : Sig) (bs : List Bound) → All (IsNumbered g) bs → ¬ (Contains (numbers_of (scope_of g.texts bs)) (length g.variables))
next_is_fresh g bs all c =
    let l = numbers_with g.texts [] (length g.variables) (λ k d. absurd (contains_none k d)) bs all (length g.variables) c in
    omega (arith, l)

-- ---- the entry of a variable
last_of : {A : Type 0} (xs : List A) (x : A) (more : List A) (d : A) → get_or ((xs ++ x ∷ []) ++ more) (length xs) d ≡ x
last_of [] x more d = refl
last_of (y ∷ xs) x more d = last_of xs x more d

module _ (g : Sig) (signature : IsSignature g) (x : Variable) (name : x.name.0 < length g.texts) (sort : x.sort.0 < length g.sorts) where
  pub variable_goes_on : HasIdentifier g x → (p : PoolContents) → GoesOn g p (with_variable g x) p
  variable_goes_on named p = record { added = one_variable g x name named sort nothing; kept = ([], sym (append-nil p.trees)); constants = refl }

  variables_longer : (h : Sig) → IsGrown (with_variable g x) h → length g.variables < length h.variables
  variables_longer h grown =
      let one = length-append g.variables (x ∷ []) in
      let long = length-append (g.variables ++ x ∷ []) grown.new_variables in
      let same : length h.variables ≡ length ((g.variables ++ x ∷ []) ++ grown.new_variables) = ap length grown.variables in
      omega (arith, one, long, same)

  pub its_binder : (id : VarId) → id.0 ≡ length g.variables → AreBinders (with_variable g x) (id ∷ []) (record { var = length g.variables; sort = sort_under g x.sort } ∷ [])
  its_binder id number = record {
    there = λ h p q on.
        let grown = it_is_grown (with_variable g x) h (variable_stands g x signature name sort) on.added in
        let long = variables_longer h grown in
        let mapped : length (variable_sorts h) ≡ length h.variables = length-map h.variables (λ (v : Variable). sort_under h v.sort) in
        All-cons (HasVariable (entries_of h q.trees)) id [] (let less : id.0 < length (variable_sorts h) = omega (arith, long, mapped, number) in less) (All-nil (HasVariable (entries_of h q.trees)));
    means = λ h p q on.
        let grown = it_is_grown (with_variable g x) h (variable_stands g x signature name sort) on.added in
        let at : get_or (variable_sorts h) id.0 boolean ≡ sort_under h x.sort =
        ap₂ (λ (vs : List Variable) (n : ℕ). get_or (map (λ (v : Variable). sort_under h v.sort) vs) n boolean) grown.variables number ∙ its_sort h grown.new_variables in
        let kept : sort_under h x.sort ≡ sort_under g x.sort = growth_keeps_meant_sorts (with_variable g x) h grown x.sort sort in
        ap₂ (λ (n : ℕ) (s : Sort). record { var = n; sort = s } ∷ []) number (at ∙ kept);
  }
    where
      its_sort : (h : Sig) (more : List Variable) → get_or (map (λ (v : Variable). sort_under h v.sort) ((g.variables ++ x ∷ []) ++ more)) (length g.variables) boolean ≡ sort_under h x.sort
      its_sort h more = by_list g.variables
        where
          by_list : (vs : List Variable) → get_or (map (λ (v : Variable). sort_under h v.sort) ((vs ++ x ∷ []) ++ more)) (length vs) boolean ≡ sort_under h x.sort
          by_list [] = refl
          by_list (v ∷ vs) = by_list vs

-- ---- one variable
pub read_text : (ts : List Name) (i : ℕ) (x : Name) → slice_get ts i ≡ Some x → get_or ts i [] ≡ x
read_text [] i x h = absurd (none-some x h)
read_text (t ∷ ts) zero x h = same_Some t x h
read_text (t ∷ ts) (suc i) x h = read_text ts i x h

pub bound_one : (g : Sig) → IsSignature g → (bs : List Bound) → All (IsNumbered g) bs → (x : Name) (c : Bound) (s : SortId) → slice_get g.texts c.name.0 ≡ Some x → c.name.0 < length g.texts → s.0 < length g.sorts → c.var.0 ≡ length g.variables
    → flat_sort c.sort ≡ sort_under g s → (e : SortExpression) → sort_in (sort_names_of g) e ≡ Some (sort_under g s) → AreBound g bs ((x, e) ∷ []) (with_variable g (record { name = c.name; sort = s })) (bs ++ c ∷ []) (c.var ∷ [])
bound_one g signature bs numbers x c s text name sort number flat e has = record {
  entered = c ∷ [];
  behind = refl;
  bind = λ v scope sees.
      let here : bound_of g.texts c ≡ record { name = x; number = length g.variables; sort = sort_under g s } = let n = read_text g.texts c.name.0 x text in cc in
      let inner : scope_of g.texts (bs ++ c ∷ []) ≡ record { name = x; number = length g.variables; sort = sort_under g s } ∷ scope = scope_with g.texts [] bs c ∙ ap₂ (λ b r. b ∷ r) here (sym sees.variables) in
      let known : sort_in v.sort_names e ≡ Some (sort_under g s) = subst (λ (w : Vocabulary). sort_in w.sort_names e ≡ Some (sort_under g s)) (sym sees.vocabulary) has in
      let fresh : ¬ (Contains (numbers_of scope) (length g.variables)) = subst (λ (r : Scope). ¬ (Contains (numbers_of r) (length g.variables))) (sym sees.variables) (next_is_fresh g bs numbers) in
      let binds : Binds v scope ((x, e) ∷ []) (scope_of g.texts (bs ++ c ∷ [])) (record { var = length g.variables; sort = sort_under g s } ∷ []) =
      subst (λ (r : Scope). Binds v scope ((x, e) ∷ []) r (record { var = length g.variables; sort = sort_under g s } ∷ [])) (sym inner) (binds_more known fresh binds_none) in
      (record { var = length g.variables; sort = sort_under g s } ∷ [], binds, its_binder g signature (record { name = c.name; sort = s }) name sort c.var number);
}

-- ---- several variables
pub binds_on : {v : Vocabulary} {scope mid inner : Scope} {xs ys : Variables} {bs cs : List processes.Bound} → Binds v scope xs mid bs → Binds v mid ys inner cs → Binds v scope (xs ++ ys) inner (bs ++ cs)
binds_on binds_none d = d
binds_on (binds_more s f b) d = binds_more s f (binds_on b d)

pub none_bound : (g : Sig) (bs : List Bound) → AreBound g bs [] g bs []
none_bound g bs = record {
  entered = [];
  behind = sym (append-nil bs);
  bind = λ v scope sees. ([], subst (λ (r : Scope). Binds v scope [] r []) sees.variables binds_none, record { there = λ h p q on. All-nil (HasVariable (entries_of h q.trees)); means = λ h p q on. refl });
}

binders_on : (g : Sig) (o : PoolContents) (h : Sig) → GoesOn g o h o → (ids js : List VarId) (bs cs : List processes.Bound) → AreBinders g ids bs → AreBinders h js cs → AreBinders h (ids ++ js) (bs ++ cs)
binders_on g o h before ids js bs cs one other = record {
  there = λ k p q on. All-append (HasVariable (entries_of k q.trees)) ids js (one.there k p q (from k p q on)) (other.there k p q on);
  means = λ k p q on. map-append (bound_at (entries_of k q.trees)) ids js ∙ ap₂ (λ xs ys. xs ++ ys) (one.means k p q (from k p q on)) (other.means k p q on);
}
  where
    from : (k : Sig) (p q : PoolContents) → GoesOn h p k q → GoesOn g p k q
    from k p q on = record { added = adds_then g h k before.added on.added; kept = on.kept; constants = on.constants }

pub bound_then : (g : Sig) → IsSignature g → (o : PoolContents) (h k : Sig) → GoesOn g o h o → GoesOn h o k o → (bs cs ds : List Bound) (xs ys : Variables) (ids js : List VarId) → AreBound g bs xs h cs ids → AreBound h cs ys k ds js → AreBound g bs (xs ++ ys) k ds (ids ++ js)
bound_then g signature o h k before after bs cs ds xs ys ids js one other = record {
  entered = one.entered ++ other.entered;
  behind = other.behind ∙ ap (λ zs. zs ++ other.entered) one.behind ∙ append_assoc bs one.entered other.entered;
  bind = λ v scope sees.
      let first = one.bind v scope sees in
      let then = other.bind v (scope_of h.texts cs) (record { vocabulary = sees.vocabulary ∙ sym (vocabulary_stays g h signature before.added); variables = refl }) in
      (first.0 ++ then.0, binds_on first.1 then.1, binders_on h o k after ids js first.0 then.0 first.2 then.2);
}

pub enter_then : (g : Sig) → IsSignature g → (o : PoolContents) (h k : Sig) → GoesOn g o h o → GoesOn h o k o → (bs cs ds : List Bound) (ids js ks : List VarId) (xs ys : Variables)
    → EnterBehind g bs ids xs h cs js → EnterBehind h cs js ys k ds ks → EnterBehind g bs ids (xs ++ ys) k ds ks
enter_then g signature o h k before after bs cs ds ids js ks xs ys (more, e, one) (again, f, other) =
    (more ++ again, f ∙ ap (λ zs. zs ++ again) e ∙ append_assoc ids more again, bound_then g signature o h k before after bs cs ds xs ys more again one other)

pub enter_none : (g : Sig) (bs : List Bound) (ids : List VarId) → EnterBehind g bs ids [] g bs ids
enter_none g bs ids = ([], sym (append-nil ids), none_bound g bs)
