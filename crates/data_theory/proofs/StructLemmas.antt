-- What a structured sort declares: numbers, and how many.
use Rattle.std.proofs.Common.{◌≡◌, ℕ, zero, suc, ◌+◌, ◌<◌, ◌≤◌, List, [], ◌∷◌, ◌++◌, length, get_or, take, Option, Some, None, refl, sym, ap, ◌∙◌, subst, arith, length-append, add-zero}
use Rattle.std.specs.List.{flat_map}
use Rattle.std.proofs.lemmas.List.{map-append, take_more}
use Rattle.std.proofs.lemmas.List.Sums.{sum_by-append, sum_by-cons}
use Rattle.std.proofs.lemmas.Grind.{flat_map-append}
use Rattle.data_theory.specs.declared.ids.NameId.{NameId}
use Rattle.data_theory.specs.declared.ids.SortId.{SortId}
use Rattle.data_theory.specs.declared.ids.FunId.{FunId}
use Rattle.data_theory.specs.declared.structs.ConDecl.{ConDecl}
use Rattle.data_theory.specs.declared.functions.FunEntry.{FunEntry}
use Rattle.data_theory.specs.Functions.{function_of, functions_of}
use Rattle.data_theory.specs.Structs.{Con, con_of, cons_of, named_function, projections_of, recogniser_of, all_projections, all_recognisers, count_of, named_fields, number_of, numbers_of, constructor_of, constructors_of}
use Rattle.data_theory.proofs.PlaceLemmas.{map_taken}

-- ---- how many there are
pub length-named : (s : SortId) (n : Option NameId) (to : SortId) → length (named_function s n to) ≡ count_of n
length-named s None to = refl
length-named s (Some n) to = refl

pub length-projections : (s : SortId) (fields : List (Option NameId × SortId)) → length (projections_of s fields) ≡ named_fields fields
length-projections s [] = refl
length-projections s (f ∷ fields) =
    omega (arith, length-append (named_function s f.0 f.1) (projections_of s fields), length-named s f.0 f.1, length-projections s fields, sum_by-cons (λ (f : Option NameId × SortId). count_of f.0) f fields)

-- ---- numbers of fields
numbers-append : (k : ℕ) (fields : List (Option NameId × SortId)) (f : Option NameId × SortId) → numbers_of k (fields ++ f ∷ []) ≡ numbers_of k fields ++ number_of (k + named_fields fields) f.0 ∷ []
numbers-append k [] f = ap (λ n. number_of n f.0 ∷ []) (sym (add-zero k))
numbers-append k (x ∷ fields) f =
    let more : k + count_of x.0 + named_fields fields ≡ k + named_fields (x ∷ fields) = omega (arith, sum_by-cons (λ (f : Option NameId × SortId). count_of f.0) x fields) in
    ap (λ ns. number_of k x.0 ∷ ns) (numbers-append (k + count_of x.0) fields f ∙ ap (λ n. numbers_of (k + count_of x.0) fields ++ number_of n f.0 ∷ []) more)

pub numbers_step : (fields : List (Option NameId × SortId)) (i : ℕ) (d : Option NameId × SortId) → i < length fields → (from next after : ℕ) (ids new : List (Option FunId)) (n : Option FunId) → ids ≡ numbers_of from (take i fields) → next ≡ from + named_fields (take i fields)
    → n ≡ number_of next (get_or fields i d).0 → after ≡ next + count_of (get_or fields i d).0 → new ≡ ids ++ n ∷ [] → (new ≡ numbers_of from (take (i + 1) fields)) × (after ≡ from + named_fields (take (i + 1) fields))
numbers_step fields i d l from next after ids new n e f g h p =
    let more : take (i + 1) fields ≡ take i fields ++ get_or fields i d ∷ [] = take_more fields i d l in
    let counted : named_fields (take (i + 1) fields) ≡ named_fields (take i fields) + count_of (get_or fields i d).0 =
    omega (arith, ap named_fields more, sum_by-append (λ (f : Option NameId × SortId). count_of f.0) (take i fields) (get_or fields i d ∷ [])) in (
      p ∙ (λ j. e j ++ g j ∷ []) ∙ ap (λ m. numbers_of from (take i fields) ++ number_of m (get_or fields i d).0 ∷ []) f ∙ sym (ap (numbers_of from) more ∙ numbers-append from (take i fields) (get_or fields i d)),
      omega (arith, counted, f, h),
    )

-- ---- constructors
constructors-append : (s : SortId) (p t : ℕ) (cs : List Con) (c : Con) → constructors_of s p t (cs ++ c ∷ []) ≡ constructors_of s p t cs ++ constructor_of s (p + length (all_projections s cs)) (t + length (all_recognisers s cs)) c ∷ []
constructors-append s p t [] c = (λ i. constructor_of s (sym (add-zero p) i) (sym (add-zero t) i) c ∷ [])
constructors-append s p t (x ∷ cs) c =
    let ps : p + named_fields x.fields + length (all_projections s cs) ≡ p + length (all_projections s (x ∷ cs)) =
    omega (arith, length-append (projections_of s x.fields) (all_projections s cs), length-projections s x.fields) in
    let ts : t + count_of x.test + length (all_recognisers s cs) ≡ t + length (all_recognisers s (x ∷ cs)) =
    omega (arith, length-append (recogniser_of s x) (all_recognisers s cs), length-named s x.test (record { 0 = 0 })) in
    ap (λ fs. constructor_of s p t x ∷ fs) (constructors-append s (p + named_fields x.fields) (t + count_of x.test) cs c ∙ (λ i. constructors_of s (p + named_fields x.fields) (t + count_of x.test) cs ++ constructor_of s (ps i) (ts i) c ∷ []))

-- the constructor that a loop has come to
con_at : (cons : List ConDecl) (i : ℕ) (c : ConDecl) → i < length cons → c ≡ get_or cons i c → cons_of (take (i + 1) cons) ≡ cons_of (take i cons) ++ con_of c ∷ []
con_at cons i c l is = ap cons_of (take_more cons i c l) ∙ map-append con_of (take i cons) (get_or cons i c ∷ []) ∙ ap (λ d. cons_of (take i cons) ++ con_of d ∷ []) (sym is)

pub one_more_projections : (s : SortId) (cons : List ConDecl) (i : ℕ) (c : ConDecl) → i < length cons → c ≡ get_or cons i c → length (all_projections s (cons_of (take (i + 1) cons))) ≡ length (all_projections s (cons_of (take i cons))) + named_fields c.fields.items
one_more_projections s cons i c l is =
    let now : length (all_projections s (cons_of (take (i + 1) cons))) ≡ length (all_projections s (cons_of (take i cons)) ++ all_projections s (con_of c ∷ [])) =
    ap (λ cs. length (all_projections s cs)) (con_at cons i c l is) ∙ ap length (flat_map-append (λ (d : Con). projections_of s d.fields) (cons_of (take i cons)) (con_of c ∷ [])) in
    omega (arith, now, length-append (all_projections s (cons_of (take i cons))) (all_projections s (con_of c ∷ [])), length-append (projections_of s c.fields.items) [], length-projections s c.fields.items)

pub one_more_recogniser : (s : SortId) (cons : List ConDecl) (i : ℕ) (c : ConDecl) → i < length cons → c ≡ get_or cons i c → length (all_recognisers s (cons_of (take (i + 1) cons))) ≡ length (all_recognisers s (cons_of (take i cons))) + count_of c.test
one_more_recogniser s cons i c l is =
    let now : length (all_recognisers s (cons_of (take (i + 1) cons))) ≡ length (all_recognisers s (cons_of (take i cons)) ++ all_recognisers s (con_of c ∷ [])) =
    ap (λ cs. length (all_recognisers s cs)) (con_at cons i c l is) ∙ ap length (flat_map-append (recogniser_of s) (cons_of (take i cons)) (con_of c ∷ [])) in
    omega (arith, now, length-append (all_recognisers s (cons_of (take i cons))) (all_recognisers s (con_of c ∷ [])), length-append (recogniser_of s (con_of c)) [], length-named s c.test (record { 0 = 0 }))

-- no front has more than the whole
front_shorter : {A B : Type 0} (f : A → List B) (xs : List A) (n : ℕ) → length (flat_map f (take n xs)) ≤ length (flat_map f xs)
front_shorter f xs zero = omega arith
front_shorter f [] (suc n) = omega arith
front_shorter f (x ∷ xs) (suc n) = omega (arith, length-append (f x) (flat_map f (take n xs)), length-append (f x) (flat_map f xs), front_shorter f xs n)

pub projections_fit : (s : SortId) (cons : List ConDecl) (i : ℕ) (c : ConDecl) → i < length cons → c ≡ get_or cons i c → length (all_projections s (cons_of (take i cons))) + named_fields c.fields.items ≤ length (all_projections s (cons_of cons))
projections_fit s cons i c l is =
    let front : length (all_projections s (cons_of (take (i + 1) cons))) ≤ length (all_projections s (cons_of cons)) =
    subst (λ cs. length (all_projections s cs) ≤ length (all_projections s (cons_of cons))) (sym (map_taken con_of (i + 1) cons)) (front_shorter (λ (d : Con). projections_of s d.fields) (cons_of cons) (i + 1)) in
    omega (arith, front, one_more_projections s cons i c l is)

pub recognisers_fit : (s : SortId) (cons : List ConDecl) (i : ℕ) (c : ConDecl) → i < length cons → c ≡ get_or cons i c → length (all_recognisers s (cons_of (take i cons))) + count_of c.test ≤ length (all_recognisers s (cons_of cons))
recognisers_fit s cons i c l is =
    let front : length (all_recognisers s (cons_of (take (i + 1) cons))) ≤ length (all_recognisers s (cons_of cons)) =
    subst (λ cs. length (all_recognisers s cs) ≤ length (all_recognisers s (cons_of cons))) (sym (map_taken con_of (i + 1) cons)) (front_shorter (recogniser_of s) (cons_of cons) (i + 1)) in
    omega (arith, front, one_more_recogniser s cons i c l is)

pub constructor_step : (s : SortId) (p t next_p next_t : ℕ) (cons : List ConDecl) (i : ℕ) (c : ConDecl) (entries new : List FunEntry) (e : FunEntry) → i < length cons → c ≡ get_or cons i c → functions_of entries ≡ constructors_of s p t (cons_of (take i cons))
    → next_p ≡ p + length (all_projections s (cons_of (take i cons))) → next_t ≡ t + length (all_recognisers s (cons_of (take i cons))) → function_of e ≡ constructor_of s next_p next_t (con_of c) → new ≡ entries ++ e ∷ [] → functions_of new ≡ constructors_of s p t (cons_of (take (i + 1) cons))
constructor_step s p t next_p next_t cons i c entries new e l is made f g h pushed =
    ap functions_of pushed ∙ map-append function_of entries (e ∷ []) ∙ (λ j. made j ++ h j ∷ []) ∙ (λ j. constructors_of s p t (cons_of (take i cons)) ++ constructor_of s (f j) (g j) (con_of c) ∷ [])
    ∙ sym (ap (constructors_of s p t) (con_at cons i c l is) ∙ constructors-append s p t (cons_of (take i cons)) (con_of c))
