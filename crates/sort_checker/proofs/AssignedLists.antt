-- The terms of a call by assignment, one after the other.
use Rattle.std.proofs.Common.{◌≡◌, ◌<◌, ◌≤◌, ◌+◌, ℕ, zero, suc, Bool, true, false, cond, if◌then◌else◌, List, [], ◌∷◌, ◌++◌, length, map, take, get_or, refl, sym, subst, ap, ap₂, ◌∙◌, arith}
use Rattle.std.specs.Prelude.{Option, Some, None, is_some, is_none, option_map, option_and_then, bytes_eq, slice_get}
use Rattle.std.specs.Option.{option_or}
use Rattle.std.proofs.lemmas.Option.{none-some, same_Some, slice_get-map, slice_get_within, slice_get_read, get_or_from_slice_get}
use Rattle.std.proofs.lemmas.List.{map-append, take_more, length-map}
use Rattle.std.proofs.lemmas.Slice.Eq.{bytes_eq-Decides}
use Rattle.mcrl2_syntax.specs.declared.process_tree.Assignment.{Assignment}
use Rattle.data_theory.specs.declared.ids.TermId.{TermId}
use Rattle.data_theory.specs.Terms.{Sort, Term, variable}
use Rattle.data_theory.specs.Signature.{Sig}
use Rattle.data_theory.specs.WholeSignatures.{IsSignature}
use Rattle.sort_table.specs.Expressions.{Name, Expression}
use Rattle.sort_table.specs.NamedLists.{first_named}
use Rattle.sort_table.specs.SignatureVocabularies.{text_under}
use Rattle.sort_table.specs.Vocabularies.{Vocabulary}
use Rattle.data_typing.specs.declared.scope.Bound as code
use Rattle.data_typing.specs.CodeWords.{bound_of, found_behind, scope_of}
use Rattle.data_typing.specs.Contexts.{IsScopeOver}
use Rattle.data_typing.specs.FlatSorts.{flat_sort}
use Rattle.data_typing.specs.Meanings.{Scope, bound_row}
use Rattle.data_typing.specs.Typings.{sort_eq}
use Rattle.sort_checker.specs.declared.name_numbers.NameNumbers.{NameNumbers}
use Rattle.sort_checker.specs.declared.process_tables.Parameter.{Parameter}
use Rattle.sort_checker.specs.AssignedTrees.{assigned_value, value_at, HasPlaces}
use Rattle.sort_checker.specs.CodeContexts.{parameter_of, IsParameterOver}
use Rattle.sort_checker.specs.FullVocabularies.{Parameters}
use Rattle.sort_checker.specs.NameNumbers.{number_under}
use Rattle.sort_checker.specs.PartTypings.{variable_at, left_out, assigned_or, assigned_in}
use Rattle.sort_checker.proofs.FreeParts.{found_in_code}

-- ---- places of names
named_behind : {A : Type 0} (x : Name) (rs : List (Name × A)) (r : Name × A) → first_named x (rs ++ r ∷ []) ≡ option_or (first_named x rs) (cond (bytes_eq r.0 x) (Some r.1) None)
named_behind x [] r = refl
named_behind {A = A} x (q ∷ rs) r = by_test (bytes_eq q.0 x) (named_behind x rs r)
  where
    by_test : (b : Bool) → first_named x (rs ++ r ∷ []) ≡ option_or (first_named x rs) (cond (bytes_eq r.0 x) (Some r.1) None)
        → cond b (Some q.1) (first_named x (rs ++ r ∷ [])) ≡ option_or (cond b (Some q.1) (first_named x rs)) (cond (bytes_eq r.0 x) (Some r.1) None)
    by_test true e = refl
    by_test false e = e

-- the places up to one
pub record HasPlacesUpTo (ds : List (Name × Expression)) (i : ℕ) (places : NameNumbers) : Type 0 where
  pub values : (x : Name) → option_and_then (value_at ds) (number_under places x) ≡ first_named x (take i ds)
  pub there : (x : Name) (k : ℕ) → number_under places x ≡ Some k → k < i

pub no_places : (ds : List (Name × Expression)) (places : NameNumbers) → ((x : Name) → number_under places x ≡ None) → HasPlacesUpTo ds 0 places
no_places ds places none = record { values = λ x. ap (option_and_then (value_at ds)) (none x); there = λ x k e. absurd (none-some k (sym (none x) ∙ e)) }

module _ (ds : List (Name × Expression)) (i : ℕ) (d : Name × Expression) (inside : i < length ds) (at : d ≡ get_or ds i d) where
  read : slice_get ds i ≡ Some d
  read = slice_get_read ds (length ds) i d refl inside at

  more : (x : Name) → first_named x (take (i + 1) ds) ≡ option_or (first_named x (take i ds)) (cond (bytes_eq d.0 x) (Some d.1) None)
  more x = ap (first_named x) (take_more ds i d inside ∙ ap (λ (r : Name × Expression). take i ds ++ r ∷ []) (sym at)) ∙ named_behind x (take i ds) d

  -- the name has a place already
  pub place_known : (places : NameNumbers) → HasPlacesUpTo ds i places → is_some (number_under places d.0) ≡ true → HasPlacesUpTo ds (i + 1) places
  place_known places has known = record {
    values = λ x. has.values x ∙ (by_test x (bytes_eq d.0 x) refl ∙ sym (more x));
    there = λ x k e. let l = has.there x k e in omega (arith, l);
  }
    where
      value_there : (o : Option ℕ) → number_under places d.0 ≡ o → is_some o ≡ true → (e : Expression) × (first_named d.0 (take i ds) ≡ Some e)
      value_there None q k = let never : false ≡ true = k in absurd cc
      value_there (Some n) q k =
          let l = has.there d.0 n q in
          let m : n < length ds = omega (arith, l, inside) in
          ((get_or ds n d).1, sym (has.values d.0) ∙ (ap (option_and_then (value_at ds)) q ∙ ap (option_map (λ (r : Name × Expression). r.1)) (slice_get_read ds (length ds) n (get_or ds n d) refl m (same_read ds n m))))
        where
          same_read : (rs : List (Name × Expression)) (n : ℕ) → n < length rs → get_or rs n d ≡ get_or rs n (get_or rs n d)
          same_read [] n l = let never : ⊥ = omega (arith, l) in absurd never
          same_read (r ∷ rs) zero l = refl
          same_read (r ∷ rs) (suc n) l = same_read_of rs n (get_or rs n d) (omega (arith, l))
            where
              same_read_of : (qs : List (Name × Expression)) (m : ℕ) (y : Name × Expression) → m < length qs → get_or qs m d ≡ get_or qs m y
              same_read_of [] m y l = let never : ⊥ = omega (arith, l) in absurd never
              same_read_of (q ∷ qs) zero y l = refl
              same_read_of (q ∷ qs) (suc m) y l = same_read_of qs m y (omega (arith, l))

      or_there : (o : Option Expression) (p : Option Expression) (e : Expression) → o ≡ Some e → o ≡ option_or o p
      or_there None p e q = absurd (none-some e q)
      or_there (Some y) p e q = refl

      or_none : (o : Option Expression) → o ≡ option_or o None
      or_none None = refl
      or_none (Some y) = refl

      by_test : (x : Name) (b : Bool) → bytes_eq d.0 x ≡ b → first_named x (take i ds) ≡ option_or (first_named x (take i ds)) (cond b (Some d.1) None)
      by_test x true q =
          let v = value_there (number_under places d.0) refl known in
          or_there (first_named x (take i ds)) (Some d.1) v.0 (ap (λ (y : Name). first_named y (take i ds)) (sym ((bytes_eq-Decides d.0 x).0 q)) ∙ v.1)
      by_test x false q = or_none (first_named x (take i ds))

  -- it gets this one
  pub place_put : (old new : NameNumbers) → HasPlacesUpTo ds i old → is_some (number_under old d.0) ≡ false → ((x : Name) → number_under new x ≡ cond (bytes_eq d.0 x) (Some i) (number_under old x)) → HasPlacesUpTo ds (i + 1) new
  place_put old new has unknown put = record {
    values = λ x. ap (option_and_then (value_at ds)) (put x) ∙ (by_test x (bytes_eq d.0 x) refl ∙ sym (more x));
    there = λ x k e. by_place x k (bytes_eq d.0 x) (sym (put x) ∙ e);
  }
    where
      no_place : (o : Option ℕ) → is_some o ≡ false → o ≡ None
      no_place None q = refl
      no_place (Some n) q = let never : true ≡ false = q in absurd cc

      by_place : (x : Name) (k : ℕ) (b : Bool) → cond b (Some i) (number_under old x) ≡ Some k → k < i + 1
      by_place x k true e = let same : i ≡ k = same_Some i k e in omega (arith, same)
      by_place x k false e = let l = has.there x k e in omega (arith, l)

      by_test : (x : Name) (b : Bool) → bytes_eq d.0 x ≡ b → option_and_then (value_at ds) (cond b (Some i) (number_under old x)) ≡ option_or (first_named x (take i ds)) (cond b (Some d.1) None)
      by_test x true q =
          let none : first_named x (take i ds) ≡ None = sym (has.values x) ∙ (ap (λ (y : Name). option_and_then (value_at ds) (number_under old y)) (sym ((bytes_eq-Decides d.0 x).0 q)) ∙ ap (option_and_then (value_at ds)) (no_place (number_under old d.0) unknown)) in
          ap (option_map (λ (r : Name × Expression). r.1)) read ∙ ap (λ o. option_or o (Some d.1)) (sym none)
      by_test x false q = has.values x ∙ or_none (first_named x (take i ds))
        where
          or_none : (o : Option Expression) → o ≡ option_or o None
          or_none None = refl
          or_none (Some y) = refl

pub all_places : (ds : List (Name × Expression)) (i : ℕ) (places : NameNumbers) → length ds ≤ i → i ≤ length ds → HasPlacesUpTo ds i places → HasPlaces ds places
all_places ds i places far near has = record {
  values = λ x. has.values x ∙ ap (first_named x) (whole ds i far);
  there = λ x k e. let l = has.there x k e in omega (arith, l, near);
}
  where
    whole : (rs : List (Name × Expression)) (n : ℕ) → length rs ≤ n → take n rs ≡ rs
    whole [] zero l = refl
    whole [] (suc n) l = refl
    whole (r ∷ rs) zero l = let never : ⊥ = omega (arith, l) in absurd never
    whole (r ∷ rs) (suc n) l = ap (λ qs. r ∷ qs) (whole rs n (omega (arith, l)))

-- an assignment that is read
pub value_read : (as_ : List Assignment) (i : ℕ) (a : Assignment) → i < length as_ → a ≡ get_or as_ i a → (i < length (map assigned_value as_)) × (assigned_value a ≡ get_or (map assigned_value as_) i (assigned_value a))
value_read [] i a l e = let never : ⊥ = omega (arith, l) in absurd never
value_read (x ∷ as_) zero a l e = (omega arith, ap assigned_value e)
value_read (x ∷ as_) (suc i) a l e = let r = value_read as_ i a (omega (arith, l)) e in let m = r.0 in (omega (arith, m), r.1)

-- what is assigned at the place of a name
pub value_here : (as_ : List Assignment) (places : NameNumbers) → HasPlaces (map assigned_value as_) places → (x : Name) (k : ℕ) → number_under places x ≡ Some k → (a : Assignment) → a ≡ get_or as_ k a → k < length as_ → first_named x (map assigned_value as_) ≡ Some (assigned_value a).1
value_here as_ places has x k e a at l = sym (has.values x) ∙ (ap (option_and_then (value_at (map assigned_value as_))) e ∙ ap (option_map (λ (d : Name × Expression). d.1)) (slice_get-map assigned_value as_ k ∙ ap (option_map assigned_value) (slice_get_read as_ (length as_) k a refl l at)))

-- ---- variables
module _ (g : Sig) (stands : IsSignature g) (p : Parameter) (over : IsParameterOver g p) (bs : List code.Bound) (scope : IsScopeOver g bs) where
  innermost : first_named p.name.now (map bound_row (scope_of g.texts bs)) ≡ option_map (bound_of g.texts) (found_behind p.number None bs)
  innermost =
      ap (λ (x : Name). first_named x (map bound_row (scope_of g.texts bs))) (sym (get_or_from_slice_get g.texts p.number.0 p.name.now [] over.0)) ∙ found_in_code g stands.table.different p.number (slice_get_within g.texts p.number.0 p.name.now over.0) bs scope [] None refl

  pub left_out_is : (o : Option code.Bound) → o ≡ found_behind p.number None bs → left_out (scope_of g.texts bs) (parameter_of p) ≡ option_and_then (variable_at (flat_sort p.sort)) (option_map (bound_of g.texts) o)
  left_out_is o is = ap (option_and_then (variable_at (flat_sort p.sort))) (innermost ∙ ap (option_map (bound_of g.texts)) (sym is))

  pub left_out_none : (o : Option code.Bound) → o ≡ found_behind p.number None bs → o ≡ None → left_out (scope_of g.texts bs) (parameter_of p) ≡ None
  left_out_none o is e = left_out_is o is ∙ ap (λ q. option_and_then (variable_at (flat_sort p.sort)) (option_map (bound_of g.texts) q)) e

  pub left_out_other : (o : Option code.Bound) → o ≡ found_behind p.number None bs → (b : code.Bound) → o ≡ Some b → sort_eq (flat_sort b.sort) (flat_sort p.sort) ≡ false → left_out (scope_of g.texts bs) (parameter_of p) ≡ None
  left_out_other o is b e other =
      left_out_is o is ∙ (ap (λ q. option_and_then (variable_at (flat_sort p.sort)) (option_map (bound_of g.texts) q)) e ∙ ap (λ (c : Bool). if c then Some (variable b.var.0) else None) other)

  pub left_out_variable : (o : Option code.Bound) → o ≡ found_behind p.number None bs → (b : code.Bound) → o ≡ Some b → sort_eq (flat_sort b.sort) (flat_sort p.sort) ≡ true → left_out (scope_of g.texts bs) (parameter_of p) ≡ Some (variable b.var.0)
  left_out_variable o is b e same =
      left_out_is o is ∙ (ap (λ q. option_and_then (variable_at (flat_sort p.sort)) (option_map (bound_of g.texts) q)) e ∙ ap (λ (c : Bool). if c then Some (variable b.var.0) else None) same)

-- ---- one parameter more
module _ (v : Vocabulary) (s : Scope) (ds : List (Name × Expression)) where
  abbrev pub stands_for : Name × Sort → Option Term
  stands_for p = assigned_or v s p (first_named p.0 ds)

  record IsFirst (o : Option Term) (r : Option (List Term)) (us : List Term) : Type 0 where
    first : Term
    rest : List Term
    here : o ≡ Some first
    behind : r ≡ Some rest
    are : us ≡ first ∷ rest

  parts : (o : Option Term) (r : Option (List Term)) (us : List Term) → option_and_then (λ t. option_map (λ ts. t ∷ ts) r) o ≡ Some us → IsFirst o r us
  parts None r us e = absurd (none-some us e)
  parts (Some u) None us e = absurd (none-some us e)
  parts (Some u) (Some xs) us e = record { first = u; rest = xs; here = refl; behind = refl; are = sym (same_Some (u ∷ xs) us e) }

  join : (o : Option Term) (r : Option (List Term)) (u : Term) (xs : List Term) → o ≡ Some u → r ≡ Some xs → option_and_then (λ t. option_map (λ ts. t ∷ ts) r) o ≡ Some (u ∷ xs)
  join o r u xs e f = ap₂ (λ p q. option_and_then (λ t. option_map (λ ts. t ∷ ts) q) p) e f

  assigned_more : (ps : Parameters) (us : List Term) (p : Name × Sort) (u : Term) → assigned_in v s ps ds ≡ Some us → stands_for p ≡ Some u → assigned_in v s (ps ++ p ∷ []) ds ≡ Some (us ++ u ∷ [])
  assigned_more [] us p u e f = join (stands_for p) (Some []) u [] f refl ∙ ap (λ xs. Some (xs ++ u ∷ [])) (same_Some [] us e)
  assigned_more (q ∷ ps) us p u e f =
      let r = parts (stands_for q) (assigned_in v s ps ds) us e in
      join (stands_for q) (assigned_in v s (ps ++ p ∷ []) ds) r.first (r.rest ++ u ∷ []) r.here (assigned_more ps r.rest p u r.behind f) ∙ ap (λ xs. Some (xs ++ u ∷ [])) (sym r.are)

  none_then : (o : Option Term) → option_and_then (λ t. option_map (λ ts. t ∷ ts) None) o ≡ None
  none_then None = refl
  none_then (Some t) = refl

  pub one_stands_for_none : (ps : List Parameter) (i : ℕ) (p : Parameter) → i < length ps → p ≡ get_or ps i p → stands_for (parameter_of p) ≡ None → assigned_in v s (map parameter_of ps) ds ≡ None
  one_stands_for_none [] i p l at e = let never : ⊥ = omega (arith, l) in absurd never
  one_stands_for_none (q ∷ ps) zero p l at e = ap (option_and_then (λ t. option_map (λ ts. t ∷ ts) (assigned_in v s (map parameter_of ps) ds))) (ap (λ (r : Parameter). stands_for (parameter_of r)) (sym at) ∙ e)
  one_stands_for_none (q ∷ ps) (suc i) p l at e =
      ap (λ r. option_and_then (λ t. option_map (λ ts. t ∷ ts) r) (stands_for (parameter_of q))) (one_stands_for_none ps i p (omega (arith, l)) at e) ∙ none_then (stands_for (parameter_of q))

  pub next_assigned : (ps : List Parameter) (i : ℕ) (p : Parameter) → i < length ps → p ≡ get_or ps i p → (us : List Term) (u : Term) → assigned_in v s (map parameter_of (take i ps)) ds ≡ Some us → stands_for (parameter_of p) ≡ Some u
      → assigned_in v s (map parameter_of (take (i + 1) ps)) ds ≡ Some (us ++ u ∷ [])
  next_assigned ps i p l at us u e f =
      ap (λ (qs : Parameters). assigned_in v s qs ds) (ap (map parameter_of) (take_more ps i p l ∙ ap (λ (q : Parameter). take i ps ++ q ∷ []) (sym at)) ∙ map-append parameter_of (take i ps) (p ∷ []))
      ∙ assigned_more (map parameter_of (take i ps)) us (parameter_of p) u e f
