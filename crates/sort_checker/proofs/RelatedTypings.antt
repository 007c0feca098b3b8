-- Typing reads the terms of variables only to build others: typings under related variables are related.
use Rattle.std.proofs.Common.{◌≡◌, ℕ, Bool, true, false, cond, List, [], ◌∷◌, ◌++◌, if◌then◌else◌, refl, ap, ap₂, ◌∙◌, subst}
use Rattle.std.specs.Prelude.{Option, Some, None, is_some, option_map, option_and_then, option_to_list, map, bytes_eq, ℤ, pos}
use Rattle.std.specs.Option.{option_or}
use Rattle.data_theory.specs.Terms.{Sort, list, Symbol, empty, cons, Term, Terms, variable, apply}
use Rattle.data_theory.specs.Terms as terms
use Rattle.sort_table.specs.Expressions.{Name, Expression, Expressions, numeral, listed, word, none, more}
use Rattle.data_typing.specs.Typings.{sort_eq, upcast_to, wider, widest_from, widest, Inferred, Typing, embedded, flexible, rigid, first_of, exactly, checked, all_at, Signature, applied, first_exact, first_fitting, Place, elements, read_off, Scheme, scheme_at, candidates, first_candidate, by_result, Meaning, bound, functions, call_infers, call_by_sort, word_typing, list_of, list_by_sort, list_infers, least_sort, typing, typings}
use Rattle.sort_table.specs.NamedLists.{first_named}
use Rattle.sort_table.specs.Vocabularies.{Vocabulary}
use Rattle.data_typing.specs.Meanings.{Bound, Scope, bound_row, meaning_or, meaning, typing_in}
use Rattle.sort_checker.specs.ScopeLaws.{Both, neither, both, RelatedInferred, RelatedTypings}

pub data AllRelated (R : Term → Term → Type 0) : Terms → Terms → Type 0 where
  related_none : AllRelated R terms.none terms.none
  related_more : {t u : Term} {ts us : Terms} → R t u → AllRelated R ts us → AllRelated R (terms.more t ts) (terms.more u us)

-- what builds terms keeps the relation
pub record Keeps (R : Term → Term → Type 0) : Type 0 where
  pub numerals : (s : Sort) (z : ℤ) → R (terms.numeral s z) (terms.numeral s z)
  pub applications : (f : Symbol) (ts us : Terms) → AllRelated R ts us → R (apply f ts) (apply f us)

-- ---- options
pub map_both : {A B C D : Type 0} {R : A → B → Type 0} {S : C → D → Type 0} (f : A → C) (g : B → D) {o : Option A} {p : Option B} → Both R o p → ((x : A) (y : B) → R x y → S (f x) (g y)) → Both S (option_map f o) (option_map g p)
map_both f g neither h = neither
map_both f g (both {x = x} {y = y} r) h = both (h x y r)

pub then_both : {A B C D : Type 0} {R : A → B → Type 0} {S : C → D → Type 0} (f : A → Option C) (g : B → Option D) {o : Option A} {p : Option B} → Both R o p → ((x : A) (y : B) → R x y → Both S (f x) (g y)) → Both S (option_and_then f o) (option_and_then g p)
then_both f g neither h = neither
then_both f g (both {x = x} {y = y} r) h = h x y r

pub or_both : {A B : Type 0} {R : A → B → Type 0} {o o' : Option A} {p p' : Option B} → Both R o p → Both R o' p' → Both R (option_or o o') (option_or p p')
or_both neither k = k
or_both (both r) k = both r

pub cond_both : {A B : Type 0} {R : A → B → Type 0} (b : Bool) {o o' : Option A} {p p' : Option B} → Both R o p → Both R o' p' → Both R (cond b o o') (cond b p p')
cond_both true h k = h
cond_both false h k = k

pub same_some : {A B : Type 0} {R : A → B → Type 0} {o : Option A} {p : Option B} → Both R o p → is_some o ≡ is_some p
same_some neither = refl
same_some (both r) = refl

pub first_both : {A B C : Type 0} {S : B → C → Type 0} (f : A → Option B) (g : A → Option C) → ((x : A) → Both S (f x) (g x)) → (xs : List A) → Both S (first_of f xs) (first_of g xs)
first_both f g h [] = neither
first_both f g h (x ∷ xs) = or_both (h x) (first_both f g h xs)

-- ---- lists of typings
pub data AllTypings (R : Term → Term → Type 0) : List Typing → List Typing → Type 0 where
  no_typings : AllTypings R [] []
  more_typings : {t u : Typing} {ts us : List Typing} → RelatedTypings R t u → AllTypings R ts us → AllTypings R (t ∷ ts) (u ∷ us)

abbrev pub Kept : (Term → Term → Type 0) → (Sort → Typing → Option Term) → Type 0
Kept R how = (s : Sort) (t u : Typing) → RelatedTypings R t u → Both R (how s t) (how s u)

at_sort : (R : Term → Term → Type 0) (i j : Inferred) (s : Sort) → RelatedInferred R i j → Both R (if sort_eq i.sort s then Some i.term else None) (if sort_eq j.sort s then Some j.term else None)
at_sort R i j s h = subst (λ (r : Sort). Both R (if sort_eq i.sort s then Some i.term else None) (if sort_eq r s then Some j.term else None)) h.sort (cond_both (sort_eq i.sort s) (both h.term) neither)

pub exactly_kept : (R : Term → Term → Type 0) → Kept R exactly
exactly_kept R s t u h = then_both (λ (i : Inferred). if sort_eq i.sort s then Some i.term else None) (λ (i : Inferred). if sort_eq i.sort s then Some i.term else None) h.infers (λ i j k. at_sort R i j s k)

pub checked_kept : (R : Term → Term → Type 0) → Kept R checked
checked_kept R s t u h = h.checks s

pub all_both : (R : Term → Term → Type 0) (how : Sort → Typing → Option Term) → Kept R how → (ss : List Sort) {ts us : List Typing} → AllTypings R ts us → Both (AllRelated R) (all_at how ss ts) (all_at how ss us)
all_both R how k [] no_typings = both related_none
all_both R how k [] (more_typings r rs) = neither
all_both R how k (s ∷ ss) no_typings = neither
all_both R how k (s ∷ ss) (more_typings {t = t} {u = u} {ts = ts} {us = us} r rs) =
    then_both (λ (x : Term). option_map (terms.more x) (all_at how ss ts)) (λ (x : Term). option_map (terms.more x) (all_at how ss us)) (k s t u r)
    (λ x y h. map_both (terms.more x) (terms.more y) (all_both R how k ss rs) (λ xs ys hs. related_more h hs))

same_read_off : (R : Term → Term → Type 0) (p : Place) {o q : Option Inferred} → Both (RelatedInferred R) o q → option_and_then (λ (i : Inferred). read_off i.sort p) o ≡ option_and_then (λ (i : Inferred). read_off i.sort p) q
same_read_off R p neither = refl
same_read_off R p (both h) = ap (λ (s : Sort). read_off s p) h.sort

same_candidates : (R : Term → Term → Type 0) (ps : List Place) {ts us : List Typing} → AllTypings R ts us → candidates ps ts ≡ candidates ps us
same_candidates R [] no_typings = refl
same_candidates R [] (more_typings h hs) = refl
same_candidates R (p ∷ ps) no_typings = refl
same_candidates R (p ∷ ps) (more_typings h hs) = ap₂ (λ (o : Option Sort) (ss : List Sort). option_to_list o ++ ss) (same_read_off R p h.infers) (same_candidates R ps hs)

widest_then : (R : Term → Term → Type 0) (s : Sort) (ts us : List Typing) {o q : Option Inferred} → Both (RelatedInferred R) o q → ((r : Sort) → widest_from r ts ≡ widest_from r us)
    → option_and_then (λ (i : Inferred). option_and_then (λ (r : Sort). widest_from r ts) (wider s i.sort)) o ≡ option_and_then (λ (i : Inferred). option_and_then (λ (r : Sort). widest_from r us) (wider s i.sort)) q
widest_then R s ts us neither e = refl
widest_then R s ts us (both {x = i} {y = j} h) e =
    by_wider (wider s i.sort) ∙ ap (λ (r : Sort). option_and_then (λ (w : Sort). widest_from w us) (wider s r)) h.sort
  where
    by_wider : (w : Option Sort) → option_and_then (λ (r : Sort). widest_from r ts) w ≡ option_and_then (λ (r : Sort). widest_from r us) w
    by_wider None = refl
    by_wider (Some r) = e r

same_widest_from : (R : Term → Term → Type 0) {ts us : List Typing} → AllTypings R ts us → (s : Sort) → widest_from s ts ≡ widest_from s us
same_widest_from R no_typings s = refl
same_widest_from R (more_typings {ts = ts} {us = us} h hs) s = widest_then R s ts us h.infers (same_widest_from R hs)

widest_first : (R : Term → Term → Type 0) (ts us : List Typing) {o q : Option Inferred} → Both (RelatedInferred R) o q → ((r : Sort) → widest_from r ts ≡ widest_from r us)
    → option_and_then (λ (i : Inferred). widest_from i.sort ts) o ≡ option_and_then (λ (i : Inferred). widest_from i.sort us) q
widest_first R ts us neither e = refl
widest_first R ts us (both {x = i} {y = j} h) e = e i.sort ∙ ap (λ (r : Sort). widest_from r us) h.sort

same_widest : (R : Term → Term → Type 0) {ts us : List Typing} → AllTypings R ts us → widest ts ≡ widest us
same_widest R no_typings = refl
same_widest R (more_typings {ts = ts} {us = us} h hs) = widest_first R ts us h.infers (same_widest_from R hs)

-- ---- calls
applied_both : (R : Term → Term → Type 0) → Keeps R → (how : Sort → Typing → Option Term) → Kept R how → {ts us : List Typing} → AllTypings R ts us → (f : Signature) → Both (RelatedInferred R) (applied how ts f) (applied how us f)
applied_both R k how h is f =
    map_both (λ (xs : Terms). record { term = apply f.symbol xs; sort = f.result }) (λ (xs : Terms). record { term = apply f.symbol xs; sort = f.result }) (all_both R how h f.arguments is)
    (λ xs ys r. record { sort = refl; term = k.applications f.symbol xs ys r })

module _ (R : Term → Term → Type 0) (k : Keeps R) where
  exact_both : {ts us : List Typing} → AllTypings R ts us → (fs : List Signature) → Both (RelatedInferred R) (first_exact ts fs) (first_exact us fs)
  exact_both {ts = ts} {us = us} is fs = first_both (applied exactly ts) (applied exactly us) (λ f. applied_both R k exactly (exactly_kept R) is f) fs

  fitting_both : {ts us : List Typing} → AllTypings R ts us → (fs : List Signature) → Both (RelatedInferred R) (first_fitting ts fs) (first_fitting us fs)
  fitting_both {ts = ts} {us = us} is fs = first_both (applied checked ts) (applied checked us) (λ f. applied_both R k checked (checked_kept R) is f) fs

  at_scheme : {ts us : List Typing} → AllTypings R ts us → (c : Scheme) (s : Sort) → Both (RelatedInferred R) (applied checked ts (scheme_at c s)) (applied checked us (scheme_at c s))
  at_scheme is c s = applied_both R k checked (checked_kept R) is (scheme_at c s)

  candidate_both : {ts us : List Typing} → AllTypings R ts us → (c : Scheme) → Both (RelatedInferred R) (first_candidate ts c) (first_candidate us c)
  candidate_both {ts = ts} {us = us} is c =
      subst (λ (ss : List Sort). Both (RelatedInferred R) (first_candidate ts c) (first_of (λ (s : Sort). applied checked us (scheme_at c s)) ss)) (same_candidates R c.arguments is)
      (first_both (λ (s : Sort). applied checked ts (scheme_at c s)) (λ (s : Sort). applied checked us (scheme_at c s)) (at_scheme is c) (candidates c.arguments ts))

  of_scheme : {ts us : List Typing} → AllTypings R ts us → (c : Option Scheme) → Both (RelatedInferred R) (option_and_then (first_candidate ts) c) (option_and_then (first_candidate us) c)
  of_scheme is None = neither
  of_scheme is (Some c) = candidate_both is c

  infers_both : {ts us : List Typing} → AllTypings R ts us → (fs : List Signature) (c : Option Scheme) → Both (RelatedInferred R) (call_infers fs c ts) (call_infers fs c us)
  infers_both is fs c = or_both (exact_both is fs) (or_both (of_scheme is c) (fitting_both is fs))

  term_both : {o q : Option Inferred} → Both (RelatedInferred R) o q → Both R (option_map (λ (i : Inferred). i.term) o) (option_map (λ (i : Inferred). i.term) q)
  term_both h = map_both (λ (i : Inferred). i.term) (λ (i : Inferred). i.term) h (λ i j r. r.term)

  at_result : {ts us : List Typing} → AllTypings R ts us → (c : Scheme) (o : Option Sort)
      → Both R (option_and_then (λ (r : Sort). option_map (λ (i : Inferred). i.term) (applied checked ts (scheme_at c r))) o) (option_and_then (λ (r : Sort). option_map (λ (i : Inferred). i.term) (applied checked us (scheme_at c r))) o)
  at_result is c None = neither
  at_result is c (Some r) = term_both (at_scheme is c r)

  result_both : {ts us : List Typing} → AllTypings R ts us → (c : Scheme) (s : Sort) → Both R (by_result ts c s) (by_result us c s)
  result_both is c s = cond_both c.by_result (at_result is c (read_off s c.result)) neither

  of_result : {ts us : List Typing} → AllTypings R ts us → (c : Option Scheme) (s : Sort) → Both R (option_and_then (λ (h : Scheme). by_result ts h s) c) (option_and_then (λ (h : Scheme). by_result us h s) c)
  of_result is None s = neither
  of_result is (Some c) s = result_both is c s

  by_sort_both : {ts us : List Typing} → AllTypings R ts us → (fs : List Signature) (c : Option Scheme) (s : Sort) → Both R (call_by_sort fs c ts s) (call_by_sort fs c us s)
  by_sort_both {ts = ts} {us = us} is fs c s =
      subst (λ (b : Bool). Both R (call_by_sort fs c ts s) (if b then None else option_and_then (λ (h : Scheme). by_result us h s) c)) (same_some (exact_both is fs))
      (cond_both (is_some (first_exact ts fs)) neither (of_result is c s))

  -- ---- typings
  with_upcast : (o : Option Symbol) (t u : Term) → R t u → Both R (option_map (λ (f : Symbol). apply f (terms.more t terms.none)) o) (option_map (λ (f : Symbol). apply f (terms.more u terms.none)) o)
  with_upcast None t u h = neither
  with_upcast (Some f) t u h = both (k.applications f (terms.more t terms.none) (terms.more u terms.none) (related_more h related_none))

  embedded_both : (s : Sort) (i j : Inferred) → RelatedInferred R i j → Both R (embedded s i) (embedded s j)
  embedded_both s i j h =
      subst (λ (r : Sort). Both R (embedded s i) (if sort_eq r s then Some j.term else option_map (λ (f : Symbol). apply f (terms.more j.term terms.none)) (upcast_to r s))) h.sort
      (cond_both (sort_eq i.sort s) (both h.term) (with_upcast (upcast_to i.sort s) i.term j.term h.term))

  flexible_both : (f g : Sort → Option Term) → ((s : Sort) → Both R (f s) (g s)) → {o q : Option Inferred} → Both (RelatedInferred R) o q → RelatedTypings R (flexible f o) (flexible g q)
  flexible_both f g h i = record { infers = i; checks = λ s. or_both (h s) (then_both (embedded s) (embedded s) i (embedded_both s)) }

  rigid_both : (i j : Inferred) → RelatedInferred R i j → RelatedTypings R (rigid i) (rigid j)
  rigid_both i j h = flexible_both (λ s. None) (λ s. None) (λ s. neither) (both h)

  list_both : {ts us : List Typing} → AllTypings R ts us → (s : Sort) → Both R (list_of ts s) (list_of us s)
  list_both no_typings s = both (k.applications (empty s) terms.none terms.none related_none)
  list_both (more_typings {ts = ts} {us = us} h hs) s =
      then_both (λ (x : Term). option_map (λ (xs : Term). apply (cons s) (terms.more x (terms.more xs terms.none))) (list_of ts s)) (λ (x : Term). option_map (λ (xs : Term). apply (cons s) (terms.more x (terms.more xs terms.none))) (list_of us s)) (h.checks s)
      (λ x y r. map_both (λ (xs : Term). apply (cons s) (terms.more x (terms.more xs terms.none))) (λ (xs : Term). apply (cons s) (terms.more y (terms.more xs terms.none))) (list_both hs s)
      (λ xs ys q. k.applications (cons s) (terms.more x (terms.more xs terms.none)) (terms.more y (terms.more ys terms.none)) (related_more r (related_more q related_none))))

  over_sort : {ts us : List Typing} → AllTypings R ts us → (o : Option Sort) → Both R (option_and_then (list_of ts) o) (option_and_then (list_of us) o)
  over_sort is None = neither
  over_sort is (Some s) = list_both is s

  lists_infer : {ts us : List Typing} → AllTypings R ts us → (o : Option Sort)
      → Both (RelatedInferred R) (option_and_then (λ (s : Sort). option_map (λ (t : Term). record { term = t; sort = list s }) (list_of ts s)) o) (option_and_then (λ (s : Sort). option_map (λ (t : Term). record { term = t; sort = list s }) (list_of us s)) o)
  lists_infer is None = neither
  lists_infer is (Some s) = map_both (λ (t : Term). record { term = t; sort = list s }) (λ (t : Term). record { term = t; sort = list s }) (list_both is s) (λ x y r. record { sort = refl; term = r })

  list_infers_both : {ts us : List Typing} → AllTypings R ts us → Both (RelatedInferred R) (list_infers ts) (list_infers us)
  list_infers_both {ts = ts} {us = us} is =
      subst (λ (o : Option Sort). Both (RelatedInferred R) (list_infers ts) (option_and_then (λ (s : Sort). option_map (λ (t : Term). record { term = t; sort = list s }) (list_of us s)) o)) (same_widest R is) (lists_infer is (widest ts))

-- ---- words
pub data RelatedMeanings (R : Term → Term → Type 0) : Meaning → Meaning → Type 0 where
  both_functions : {fs : List Signature} {c : Option Scheme} → RelatedMeanings R (functions fs c) (functions fs c)
  both_bound : {n l : ℕ} {s : Sort} → R (variable n) (variable l) → RelatedMeanings R (bound n s) (bound l s)

nothing_typed : (R : Term → Term → Type 0) (s : Sort) → Both R None None
nothing_typed R s = neither

word_both : (R : Term → Term → Type 0) (k : Keeps R) {m l : Meaning} {ts us : List Typing} → RelatedMeanings R m l → AllTypings R ts us → RelatedTypings R (word_typing m ts) (word_typing l us)
word_both R k {ts = ts} {us = us} (both_functions {fs = fs} {c = c}) is = flexible_both R k (call_by_sort fs c ts) (call_by_sort fs c us) (by_sort_both R k is fs c) (infers_both R k is fs c)
word_both R k (both_bound {n = n} {l = l} {s = s} h) no_typings = rigid_both R k (record { term = variable n; sort = s }) (record { term = variable l; sort = s }) (record { sort = refl; term = h })
word_both R k (both_bound h) (more_typings i is) = record { infers = neither; checks = nothing_typed R }

mutual
  pub typing_both : (R : Term → Term → Type 0) → Keeps R → (m l : Name → Meaning) → ((x : Name) → RelatedMeanings R (m x) (l x)) → (e : Expression) → RelatedTypings R (typing m e) (typing l e)
  typing_both R k m l h (numeral n) = rigid_both R k (record { term = terms.numeral (least_sort n) (pos n); sort = least_sort n }) (record { term = terms.numeral (least_sort n) (pos n); sort = least_sort n }) (record { sort = refl; term = k.numerals (least_sort n) (pos n) })
  typing_both R k m l h (listed es) =
      let is = typings_both R k m l h es in flexible_both R k (list_by_sort (typings m es)) (list_by_sort (typings l es)) (λ s. over_sort R k is (read_off s elements)) (list_infers_both R k is)
  typing_both R k m l h (word x es) = word_both R k (h x) (typings_both R k m l h es)

  pub typings_both : (R : Term → Term → Type 0) → Keeps R → (m l : Name → Meaning) → ((x : Name) → RelatedMeanings R (m x) (l x)) → (es : Expressions) → AllTypings R (typings m es) (typings l es)
  typings_both R k m l h none = no_typings
  typings_both R k m l h (more e es) = more_typings (typing_both R k m l h e) (typings_both R k m l h es)

-- ---- scopes
pub data RelatedScopes (R : Term → Term → Type 0) : Scope → Scope → Type 0 where
  scopes_none : RelatedScopes R [] []
  scopes_more : {x : Name} {n l : ℕ} {s : Sort} {one other : Scope} → R (variable n) (variable l) → RelatedScopes R one other
      → RelatedScopes R (record { name = x; number = n; sort = s } ∷ one) (record { name = x; number = l; sort = s } ∷ other)

pub record RelatedBounds (R : Term → Term → Type 0) (b c : Bound) : Type 0 where
  pub sort : b.sort ≡ c.sort
  pub number : R (variable b.number) (variable c.number)

pub found_both : (R : Term → Term → Type 0) (f : Name) {one other : Scope} → RelatedScopes R one other → Both (RelatedBounds R) (first_named f (map bound_row one)) (first_named f (map bound_row other))
found_both R f scopes_none = neither
found_both R f (scopes_more {x = x} h hs) = cond_both (bytes_eq x f) (both (record { sort = refl; number = h })) (found_both R f hs)

means_both : (R : Term → Term → Type 0) (fs : List Signature) (c : Option Scheme) {o q : Option Bound} → Both (RelatedBounds R) o q → RelatedMeanings R (meaning_or (functions fs c) o) (meaning_or (functions fs c) q)
means_both R fs c neither = both_functions
means_both R fs c (both {x = x} {y = y} h) = subst (λ (s : Sort). RelatedMeanings R (bound x.number x.sort) (bound y.number s)) h.sort (both_bound h.number)

pub meaning_both : (R : Term → Term → Type 0) (v : Vocabulary) {one other : Scope} → RelatedScopes R one other → (x : Name) → RelatedMeanings R (meaning v one x) (meaning v other x)
meaning_both R v h x = means_both R _ _ (found_both R x h)

pub scoped_both : (R : Term → Term → Type 0) → Keeps R → (v : Vocabulary) (one other : Scope) → RelatedScopes R one other → (e : Expression) → RelatedTypings R (typing_in v one e) (typing_in v other e)
scoped_both R k v one other h e = typing_both R k (meaning v one) (meaning v other) (meaning_both R v h) e

pub all_scoped : (R : Term → Term → Type 0) → Keeps R → (v : Vocabulary) (one other : Scope) → RelatedScopes R one other → (es : List Expression) → AllTypings R (map (typing_in v one) es) (map (typing_in v other) es)
all_scoped R k v one other h [] = no_typings
all_scoped R k v one other h (e ∷ es) = more_typings (scoped_both R k v one other h e) (all_scoped R k v one other h es)
