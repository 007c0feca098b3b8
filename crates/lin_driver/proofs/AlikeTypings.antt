-- Typings under two numberings of sorts and functions: where the sorts are the same ones, so are those that an expression infers and at
-- which it checks.
use Rattle.std.proofs.Common.{◌≡◌, ℕ, zero, suc, Bool, true, false, cond, ◌||◌, List, [], ◌∷◌, ◌++◌, if◌then◌else◌, refl, ap₂, subst}
use Rattle.std.specs.Prelude.{Option, Some, None, is_some, option_map, option_and_then, option_to_list, map, bytes_eq, pos}
use Rattle.std.specs.List.{AllByRecursion}
use Rattle.data_theory.specs.Terms.{Sort, boolean, positive, natural, integer, list, Symbol, empty, cons, Term, Terms, variable, apply}
use Rattle.data_theory.specs.Terms as terms
use Rattle.sort_table.specs.Expressions.{Name, Expression, Expressions, numeral, listed, word, none, more}
use Rattle.sort_table.specs.NamedLists.{first_named}
use Rattle.sort_table.specs.Vocabularies.{EachPair}
use Rattle.data_typing.specs.Typings.{sort_eq, upcast_to, fits, wider, widest_from, widest, Inferred, Typing, untyped, embedded, flexible, rigid, first_of, exactly, checked, all_at, Signature, applied, first_exact, first_fitting, Place, itself, elements, settled, over, read_off, Scheme, scheme_at, candidates, first_candidate, by_result, Meaning, bound, functions, call_infers, call_by_sort, word_typing, list_of, list_by_sort, list_infers, least_sort, typing, typings}
use Rattle.data_typing.specs.Meanings.{Bound, Scope, bound_row, meaning_or}
use Rattle.sort_checker.specs.ScopeLaws.{Both, neither, both, AnyTerms}
use Rattle.sort_checker.proofs.RelatedTypings.{map_both, then_both, or_both, cond_both, same_some}

-- ---- lists, one by one
pub data EachWith {A B : Type 0} (Q : A → B → Type 0) : List A → List B → Type 0 where
  each_none : EachWith Q [] []
  each_more : {x : A} {y : B} {xs : List A} {ys : List B} → Q x y → EachWith Q xs ys → EachWith Q (x ∷ xs) (y ∷ ys)

pub each_pair : {A B : Type 0} (Q : A → B → Type 0) (xs : List A) (ys : List B) → EachPair Q xs ys → EachWith Q xs ys
each_pair Q [] [] h = each_none
each_pair Q [] (y ∷ ys) h = absurd h
each_pair Q (x ∷ xs) [] h = absurd h
each_pair Q (x ∷ xs) (y ∷ ys) h = each_more h.0 (each_pair Q xs ys h.1)

pub each_behind : {A B : Type 0} {Q : A → B → Type 0} {xs xs2 : List A} {ys ys2 : List B} → EachWith Q xs ys → EachWith Q xs2 ys2 → EachWith Q (xs ++ xs2) (ys ++ ys2)
each_behind each_none k = k
each_behind (each_more h hs) k = each_more h (each_behind hs k)

pub each_mapped : {A B C D : Type 0} {Q : A → B → Type 0} {R : C → D → Type 0} (f : A → C) (g : B → D) {xs : List A} {ys : List B} → ((x : A) (y : B) → Q x y → R (f x) (g y)) → EachWith Q xs ys → EachWith R (map f xs) (map g ys)
each_mapped f g w each_none = each_none
each_mapped f g w (each_more h hs) = each_more (w _ _ h) (each_mapped f g w hs)

pub each_itself : {A : Type 0} (Q : A → A → Type 0) (xs : List A) → AllByRecursion (λ x. Q x x) xs → EachWith Q xs xs
each_itself Q [] h = each_none
each_itself Q (x ∷ xs) h = each_more h.0 (each_itself Q xs h.1)

listed_both : {A B : Type 0} {Q : A → B → Type 0} {o : Option A} {p : Option B} → Both Q o p → EachWith Q (option_to_list o) (option_to_list p)
listed_both neither = each_none
listed_both (both h) = each_more h each_none

pub first_along : {A B C D : Type 0} {Q : A → B → Type 0} {R : C → D → Type 0} (f : A → Option C) (g : B → Option D) {xs : List A} {ys : List B} → ((x : A) (y : B) → Q x y → Both R (f x) (g y)) → EachWith Q xs ys → Both R (first_of f xs) (first_of g ys)
first_along f g w each_none = neither
first_along f g w (each_more h hs) = or_both (w _ _ h) (first_along f g w hs)

-- ---- tests
pub test_both : {A B : Type 0} {R : A → B → Type 0} {b c : Bool} {o o' : Option A} {p p' : Option B} → b ≡ c → Both R o p → Both R o' p' → Both R (cond b o o') (cond c p p')
test_both {R = R} {b = b} {o = o} {o' = o'} {p = p} {p' = p'} e h k = subst (λ (x : Bool). Both R (cond b o o') (cond x p p')) e (cond_both b h k)

there_both : {A B : Type 0} (f : A → Term) (g : B → Term) (o : Option A) (p : Option B) → is_some o ≡ is_some p → Both AnyTerms (option_map f o) (option_map g p)
there_both f g None None e = neither
there_both f g None (Some y) e = absurd cc
there_both f g (Some x) None e = absurd cc
there_both f g (Some x) (Some y) e = both tt

-- ---- the same sorts under two numberings
pub record AreSame (S : Sort → Sort → Type 0) : Type 0 where
  pub booleans : S boolean boolean
  pub positives : S positive positive
  pub naturals : S natural natural
  pub integers : S integer integer
  pub lists : (s r : Sort) → S s r → S (list s) (list r)
  pub equal : (s r p q : Sort) → S s r → S p q → sort_eq s p ≡ sort_eq r q
  pub upcasts : (s r p q : Sort) → S s r → S p q → is_some (upcast_to s p) ≡ is_some (upcast_to r q)
  pub read_off : (s r : Sort) (p : Place) → S s r → Both S (read_off s p) (read_off r p)

abbrev pub AnyAll : Terms → Terms → Type 0
AnyAll ts us = Unit {0}

-- the sort of a place is the same under both numberings
abbrev pub IsOwnPlace : (Sort → Sort → Type 0) → Place → Type 0
IsOwnPlace S itself = Unit {0}
IsOwnPlace S elements = Unit {0}
IsOwnPlace S (settled s) = S s s

pub record IsOwnScheme (S : Sort → Sort → Type 0) (c : Scheme) : Type 0 where
  pub arguments : AllByRecursion (IsOwnPlace S) c.arguments
  pub result : IsOwnPlace S c.result

abbrev pub IsOwnOption : (Sort → Sort → Type 0) → Option Scheme → Type 0
IsOwnOption S None = Unit {0}
IsOwnOption S (Some c) = IsOwnScheme S c

abbrev pub AlikeInferred : (Sort → Sort → Type 0) → Inferred → Inferred → Type 0
AlikeInferred S i j = S i.sort j.sort

pub record AlikeTypings (S : Sort → Sort → Type 0) (t u : Typing) : Type 0 where
  pub infers : Both (AlikeInferred S) t.infers u.infers
  pub checks : (s r : Sort) → S s r → Both AnyTerms (t.checks s) (u.checks r)

pub record AlikeSignatures (S : Sort → Sort → Type 0) (f g : Signature) : Type 0 where
  pub arguments : EachWith S f.arguments g.arguments
  pub result : S f.result g.result

pub data AlikeMeanings (S : Sort → Sort → Type 0) : Meaning → Meaning → Type 0 where
  alike_variables : {n l : ℕ} {s r : Sort} → S s r → AlikeMeanings S (bound n s) (bound l r)
  alike_functions : {fs gs : List Signature} {c : Option Scheme} → EachWith (AlikeSignatures S) fs gs → IsOwnOption S c → AlikeMeanings S (functions fs c) (functions gs c)

abbrev pub Kept : (Sort → Sort → Type 0) → (Sort → Typing → Option Term) → Type 0
Kept S how = (s r : Sort) (t u : Typing) → S s r → AlikeTypings S t u → Both AnyTerms (how s t) (how r u)

module _ (S : Sort → Sort → Type 0) (same : AreSame S) where
  -- ---- sorts
  fits_alike : (s r p q : Sort) → S s r → S p q → fits s p ≡ fits r q
  fits_alike s r p q h k = ap₂ (λ (b c : Bool). b || c) (same.equal s r p q h k) (same.upcasts s r p q h k)

  wider_alike : (s r p q : Sort) → S s r → S p q → Both S (wider s p) (wider r q)
  wider_alike s r p q h k = test_both (fits_alike s r p q h k) (both k) (test_both (fits_alike p q s r k h) (both h) neither)

  over_alike : (s r : Sort) (p : Place) → S s r → IsOwnPlace S p → S (over s p) (over r p)
  over_alike s r itself h own = h
  over_alike s r elements h own = same.lists s r h
  over_alike s r (settled q) h own = own

  all_over : (s r : Sort) (ps : List Place) → S s r → AllByRecursion (IsOwnPlace S) ps → EachWith S (map (over s) ps) (map (over r) ps)
  all_over s r [] h own = each_none
  all_over s r (p ∷ ps) h own = each_more (over_alike s r p h own.0) (all_over s r ps h own.1)

  pub scheme_alike : (s r : Sort) (c : Scheme) → S s r → IsOwnScheme S c → AlikeSignatures S (scheme_at c s) (scheme_at c r)
  scheme_alike s r c h own = record { arguments = all_over s r c.arguments h own.arguments; result = over_alike s r c.result h own.result }

  -- ---- arguments
  pub exactly_kept : Kept S exactly
  exactly_kept s r t u h is =
      then_both (λ (i : Inferred). if sort_eq i.sort s then Some i.term else None) (λ (i : Inferred). if sort_eq i.sort r then Some i.term else None) is.infers
      (λ i j k. test_both (same.equal i.sort j.sort s r k h) (both tt) neither)

  pub checked_kept : Kept S checked
  checked_kept s r t u h is = is.checks s r h

  pub all_alike : (how : Sort → Typing → Option Term) → Kept S how → {ss rs : List Sort} {ts us : List Typing} → EachWith S ss rs → EachWith (AlikeTypings S) ts us → Both AnyAll (all_at how ss ts) (all_at how rs us)
  all_alike how kept each_none each_none = both tt
  all_alike how kept each_none (each_more k ks) = neither
  all_alike how kept (each_more h hs) each_none = neither
  all_alike how kept (each_more {x = s} {y = r} {xs = ss} {ys = rs} h hs) (each_more {x = t} {y = u} {xs = ts} {ys = us} k ks) =
      then_both (λ (a : Term). option_map (terms.more a) (all_at how ss ts)) (λ (a : Term). option_map (terms.more a) (all_at how rs us)) (kept s r t u h k)
      (λ a b q. map_both (terms.more a) (terms.more b) (all_alike how kept hs ks) (λ as_ bs z. tt))

  candidates_alike : (ps : List Place) {ts us : List Typing} → EachWith (AlikeTypings S) ts us → EachWith S (candidates ps ts) (candidates ps us)
  candidates_alike [] each_none = each_none
  candidates_alike [] (each_more h hs) = each_none
  candidates_alike (p ∷ ps) each_none = each_none
  candidates_alike (p ∷ ps) (each_more h hs) =
      each_behind (listed_both (then_both (λ (i : Inferred). read_off i.sort p) (λ (i : Inferred). read_off i.sort p) h.infers (λ i j k. same.read_off i.sort j.sort p k))) (candidates_alike ps hs)

  widest_from_alike : {ts us : List Typing} → EachWith (AlikeTypings S) ts us → (s r : Sort) → S s r → Both S (widest_from s ts) (widest_from r us)
  widest_from_alike each_none s r h = both h
  widest_from_alike (each_more {xs = ts} {ys = us} k ks) s r h =
      then_both (λ (i : Inferred). option_and_then (λ (q : Sort). widest_from q ts) (wider s i.sort)) (λ (i : Inferred). option_and_then (λ (q : Sort). widest_from q us) (wider r i.sort)) k.infers
      (λ i j m. then_both (λ (q : Sort). widest_from q ts) (λ (q : Sort). widest_from q us) (wider_alike s r i.sort j.sort h m) (λ p q n. widest_from_alike ks p q n))

  widest_alike : {ts us : List Typing} → EachWith (AlikeTypings S) ts us → Both S (widest ts) (widest us)
  widest_alike each_none = neither
  widest_alike (each_more {xs = ts} {ys = us} k ks) =
      then_both (λ (i : Inferred). widest_from i.sort ts) (λ (i : Inferred). widest_from i.sort us) k.infers (λ i j m. widest_from_alike ks i.sort j.sort m)

  -- ---- calls
  applied_alike : (how : Sort → Typing → Option Term) → Kept S how → {ts us : List Typing} → EachWith (AlikeTypings S) ts us → (f g : Signature) → AlikeSignatures S f g → Both (AlikeInferred S) (applied how ts f) (applied how us g)
  applied_alike how kept is f g h =
      map_both (λ (xs : Terms). record { term = apply f.symbol xs; sort = f.result }) (λ (xs : Terms). record { term = apply g.symbol xs; sort = g.result }) (all_alike how kept h.arguments is) (λ xs ys z. h.result)

  exact_alike : {ts us : List Typing} {fs gs : List Signature} → EachWith (AlikeTypings S) ts us → EachWith (AlikeSignatures S) fs gs → Both (AlikeInferred S) (first_exact ts fs) (first_exact us gs)
  exact_alike {ts = ts} {us = us} is hs = first_along (applied exactly ts) (applied exactly us) (λ f g h. applied_alike exactly exactly_kept is f g h) hs

  fitting_alike : {ts us : List Typing} {fs gs : List Signature} → EachWith (AlikeTypings S) ts us → EachWith (AlikeSignatures S) fs gs → Both (AlikeInferred S) (first_fitting ts fs) (first_fitting us gs)
  fitting_alike {ts = ts} {us = us} is hs = first_along (applied checked ts) (applied checked us) (λ f g h. applied_alike checked checked_kept is f g h) hs

  at_scheme : {ts us : List Typing} → EachWith (AlikeTypings S) ts us → (c : Scheme) → IsOwnScheme S c → (s r : Sort) → S s r → Both (AlikeInferred S) (applied checked ts (scheme_at c s)) (applied checked us (scheme_at c r))
  at_scheme is c own s r h = applied_alike checked checked_kept is (scheme_at c s) (scheme_at c r) (scheme_alike s r c h own)

  of_scheme : {ts us : List Typing} → EachWith (AlikeTypings S) ts us → (c : Option Scheme) → IsOwnOption S c → Both (AlikeInferred S) (option_and_then (first_candidate ts) c) (option_and_then (first_candidate us) c)
  of_scheme is None own = neither
  of_scheme {ts = ts} {us = us} is (Some c) own = first_along (λ (s : Sort). applied checked ts (scheme_at c s)) (λ (s : Sort). applied checked us (scheme_at c s)) (λ s r h. at_scheme is c own s r h) (candidates_alike c.arguments is)

  infers_alike : {ts us : List Typing} {fs gs : List Signature} → EachWith (AlikeTypings S) ts us → EachWith (AlikeSignatures S) fs gs → (c : Option Scheme) → IsOwnOption S c → Both (AlikeInferred S) (call_infers fs c ts) (call_infers gs c us)
  infers_alike is hs c own = or_both (exact_alike is hs) (or_both (of_scheme is c own) (fitting_alike is hs))

  result_alike : {ts us : List Typing} → EachWith (AlikeTypings S) ts us → (c : Scheme) → IsOwnScheme S c → (s r : Sort) → S s r → Both AnyTerms (by_result ts c s) (by_result us c r)
  result_alike {ts = ts} {us = us} is c own s r h =
      cond_both c.by_result
      (then_both (λ (q : Sort). option_map (λ (i : Inferred). i.term) (applied checked ts (scheme_at c q))) (λ (q : Sort). option_map (λ (i : Inferred). i.term) (applied checked us (scheme_at c q))) (same.read_off s r c.result h)
      (λ p q k. map_both (λ (i : Inferred). i.term) (λ (i : Inferred). i.term) (at_scheme is c own p q k) (λ i j z. tt))) neither

  of_result : {ts us : List Typing} → EachWith (AlikeTypings S) ts us → (c : Option Scheme) → IsOwnOption S c → (s r : Sort) → S s r → Both AnyTerms (option_and_then (λ (k : Scheme). by_result ts k s) c) (option_and_then (λ (k : Scheme). by_result us k r) c)
  of_result is None own s r h = neither
  of_result is (Some c) own s r h = result_alike is c own s r h

  by_sort_alike : {ts us : List Typing} {fs gs : List Signature} → EachWith (AlikeTypings S) ts us → EachWith (AlikeSignatures S) fs gs → (c : Option Scheme) → IsOwnOption S c → (s r : Sort) → S s r → Both AnyTerms (call_by_sort fs c ts s) (call_by_sort gs c us r)
  by_sort_alike is hs c own s r h = test_both (same_some (exact_alike is hs)) neither (of_result is c own s r h)

  -- ---- typings
  embedded_alike : (s r : Sort) (i j : Inferred) → S s r → AlikeInferred S i j → Both AnyTerms (embedded s i) (embedded r j)
  embedded_alike s r i j h k =
      test_both (same.equal i.sort j.sort s r k h) (both tt)
      (there_both (λ (f : Symbol). apply f (terms.more i.term terms.none)) (λ (f : Symbol). apply f (terms.more j.term terms.none)) (upcast_to i.sort s) (upcast_to j.sort r) (same.upcasts i.sort j.sort s r k h))

  flexible_alike : (f g : Sort → Option Term) {o q : Option Inferred} → ((s r : Sort) → S s r → Both AnyTerms (f s) (g r)) → Both (AlikeInferred S) o q → AlikeTypings S (flexible f o) (flexible g q)
  flexible_alike f g w i = record { infers = i; checks = λ s r h. or_both (w s r h) (then_both (embedded s) (embedded r) i (λ x y k. embedded_alike s r x y h k)) }

  rigid_alike : (i j : Inferred) → AlikeInferred S i j → AlikeTypings S (rigid i) (rigid j)
  rigid_alike i j h = flexible_alike (λ s. None) (λ s. None) (λ s r k. neither) (both h)

  untyped_alike : AlikeTypings S untyped untyped
  untyped_alike = record { infers = neither; checks = λ s r h. neither }

  list_alike : {ts us : List Typing} → EachWith (AlikeTypings S) ts us → (s r : Sort) → S s r → Both AnyTerms (list_of ts s) (list_of us r)
  list_alike each_none s r h = both tt
  list_alike (each_more {xs = ts} {ys = us} k ks) s r h =
      then_both (λ (x : Term). option_map (λ (xs : Term). apply (cons s) (terms.more x (terms.more xs terms.none))) (list_of ts s)) (λ (x : Term). option_map (λ (xs : Term). apply (cons r) (terms.more x (terms.more xs terms.none))) (list_of us r)) (k.checks s r h)
      (λ x y z. map_both (λ (xs : Term). apply (cons s) (terms.more x (terms.more xs terms.none))) (λ (xs : Term). apply (cons r) (terms.more y (terms.more xs terms.none))) (list_alike ks s r h) (λ xs ys q. tt))

  listed_alike : {ts us : List Typing} → EachWith (AlikeTypings S) ts us → AlikeTypings S (flexible (list_by_sort ts) (list_infers ts)) (flexible (list_by_sort us) (list_infers us))
  listed_alike {ts = ts} {us = us} is =
      flexible_alike (list_by_sort ts) (list_by_sort us) (λ s r h. then_both (list_of ts) (list_of us) (same.read_off s r elements h) (λ p q k. list_alike is p q k))
      (then_both (λ (s : Sort). option_map (λ (t : Term). record { term = t; sort = list s }) (list_of ts s)) (λ (s : Sort). option_map (λ (t : Term). record { term = t; sort = list s }) (list_of us s)) (widest_alike is)
      (λ s r h. map_both (λ (t : Term). record { term = t; sort = list s }) (λ (t : Term). record { term = t; sort = list r }) (list_alike is s r h) (λ t u z. same.lists s r h)))

  word_alike : {m l : Meaning} {ts us : List Typing} → AlikeMeanings S m l → EachWith (AlikeTypings S) ts us → AlikeTypings S (word_typing m ts) (word_typing l us)
  word_alike (alike_variables {n = n} {l = l} {s = s} {r = r} h) each_none = rigid_alike (record { term = variable n; sort = s }) (record { term = variable l; sort = r }) h
  word_alike (alike_variables h) (each_more k ks) = untyped_alike
  word_alike {ts = ts} {us = us} (alike_functions {fs = fs} {gs = gs} {c = c} hs own) is =
      flexible_alike (call_by_sort fs c ts) (call_by_sort gs c us) (λ s r h. by_sort_alike is hs c own s r h) (infers_alike is hs c own)

  numeral_alike : (n : ℕ) → S (least_sort n) (least_sort n)
  numeral_alike zero = same.naturals
  numeral_alike (suc n) = same.positives

  mutual
    pub typing_alike : (m l : Name → Meaning) → ((x : Name) → AlikeMeanings S (m x) (l x)) → (e : Expression) → AlikeTypings S (typing m e) (typing l e)
    typing_alike m l h (numeral n) = rigid_alike (record { term = terms.numeral (least_sort n) (pos n); sort = least_sort n }) (record { term = terms.numeral (least_sort n) (pos n); sort = least_sort n }) (numeral_alike n)
    typing_alike m l h (listed es) = listed_alike (typings_alike m l h es)
    typing_alike m l h (word f es) = word_alike (h f) (typings_alike m l h es)

    pub typings_alike : (m l : Name → Meaning) → ((x : Name) → AlikeMeanings S (m x) (l x)) → (es : Expressions) → EachWith (AlikeTypings S) (typings m es) (typings l es)
    typings_alike m l h none = each_none
    typings_alike m l h (more e es) = each_more (typing_alike m l h e) (typings_alike m l h es)

-- ---- scopes
pub data AlikeScopes (S : Sort → Sort → Type 0) : Scope → Scope → Type 0 where
  scopes_none : AlikeScopes S [] []
  scopes_more : {x : Name} {n l : ℕ} {s r : Sort} {one other : Scope} → S s r → AlikeScopes S one other
      → AlikeScopes S (record { name = x; number = n; sort = s } ∷ one) (record { name = x; number = l; sort = r } ∷ other)

abbrev pub AlikeBounds : (Sort → Sort → Type 0) → Bound → Bound → Type 0
AlikeBounds S b c = S b.sort c.sort

pub found_alike : (S : Sort → Sort → Type 0) (f : Name) {one other : Scope} → AlikeScopes S one other → Both (AlikeBounds S) (first_named f (map bound_row one)) (first_named f (map bound_row other))
found_alike S f scopes_none = neither
found_alike S f (scopes_more {x = x} h hs) = cond_both (bytes_eq x f) (both h) (found_alike S f hs)

pub meant_alike : (S : Sort → Sort → Type 0) {fs gs : List Signature} (c : Option Scheme) {o q : Option Bound} → EachWith (AlikeSignatures S) fs gs → IsOwnOption S c → Both (AlikeBounds S) o q
    → AlikeMeanings S (meaning_or (functions fs c) o) (meaning_or (functions gs c) q)
meant_alike S c hs own neither = alike_functions hs own
meant_alike S c hs own (both h) = alike_variables h
