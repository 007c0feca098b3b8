-- The declared functions of each name.
use Rattle.std.proofs.Common.{◌≡◌, ◌==◌, ℕ, zero, suc, ◌+◌, ◌-◌, ◌<◌, ◌≤◌, inl, inr, List, [], ◌∷◌, ◌++◌, map, take, length, get_or, Bool, true, false, cond, Option, Some, None, refl, sym, ap, ◌∙◌, subst, arith, append_assoc, append-nil, length-append}
use Rattle.std.specs.Prelude.{Vec, is_some}
use Rattle.std.specs.Global.{Global}
use Rattle.std.proofs.Math.ListN.{set}
use Rattle.std.proofs.lemmas.Bool.{cases_eq}
use Rattle.std.proofs.lemmas.Bool.Decides.{Decides-eqb}
use Rattle.std.proofs.lemmas.List.{take-append-le, map-append, length-map}
use Rattle.data_theory.specs.declared.ids.NameId.{NameId}
use Rattle.data_theory.specs.declared.ids.FunId.{FunId}
use Rattle.data_theory.specs.declared.words.Word.{Word}
use Rattle.data_theory.specs.declared.functions.FunEntry.{FunEntry}
use Rattle.data_theory.specs.Keys.{Key, key}
use Rattle.data_theory.specs.Functions.{Function, function_of, functions_of, key_of}
use Rattle.data_theory.specs.NamedFunctions.{if_named, named_from, functions_named, lists_of, list_at, AreNamedLists, IsIndexed}
use Rattle.data_theory.proofs.PlaceLemmas.{map_taken}

-- one list behind another
named_both : (n : NameId) (xs ys : List Function) (k : ℕ) → named_from k n (xs ++ ys) ≡ named_from k n xs ++ named_from (k + length xs) n ys
named_both n [] ys k = ap (λ m. named_from m n ys) (let z : k ≡ k + 0 = omega arith in z)
named_both n (f ∷ xs) ys k =
    ap (λ l. if_named n f.name k f.word ++ l) (named_both n xs ys (suc k) ∙ ap (λ m. named_from (suc k) n xs ++ named_from m n ys) (let z : suc k + length xs ≡ k + suc (length xs) = omega arith in z))
    ∙ sym (append_assoc (if_named n f.name k f.word) (named_from (suc k) n xs) (named_from (k + suc (length xs)) n ys))

-- one function behind the others
named_pushed : (n : NameId) (fs : List Function) (f : Function) → functions_named (fs ++ f ∷ []) n ≡ functions_named fs n ++ if_named n f.name (length fs) f.word
named_pushed n fs f =
    named_both n fs (f ∷ []) 0 ∙ ap (λ k. functions_named fs n ++ named_from k n (f ∷ [])) (let z : 0 + length fs ≡ length fs = omega arith in z)
    ∙ ap (λ l. functions_named fs n ++ l) (append-nil (if_named n f.name (length fs) f.word))

pub lists_entered : (fs : List Function) (old new : List (List FunId)) (f : Function) (k : ℕ) → k ≡ length fs → AreNamedLists fs old → ((n : NameId) → list_at new n ≡ list_at old n ++ if_named n f.name k f.word) → AreNamedLists (fs ++ f ∷ []) new
lists_entered fs old new f k here are entered n =
    entered n ∙ (λ i. are n i ++ if_named n f.name (here i) f.word) ∙ sym (named_pushed n fs f)

pub lists_unchanged : (fs : List Function) (old new : List (List FunId)) → AreNamedLists fs old → ((n : NameId) → list_at new n ≡ list_at old n) → AreNamedLists fs new
lists_unchanged fs old new are same n = same n ∙ are n

pub lists_forgotten : (fs : List Function) (old new : List (List FunId)) (f : Function) → AreNamedLists (fs ++ f ∷ []) old
    → ((n : NameId) (front : List FunId) (k : ℕ) → list_at old n ≡ front ++ if_named n f.name k f.word → list_at new n ≡ front) → AreNamedLists fs new
lists_forgotten fs old new f are forgotten n = forgotten n (functions_named fs n) (length fs) (are n ∙ named_pushed n fs f)

-- ---- the lists
-- no entry where there is a word
abbrev no_functions : List FunId
no_functions = []

abbrev one_function : ℕ → List FunId
one_function k = record { 0 = k } ∷ []

same_both : (b : Bool) → cond b no_functions [] ≡ []
same_both true = refl
same_both false = refl

pub nothing_entered : (n m : NameId) (k : ℕ) (w : Word) → if_named n m k (Some w) ≡ []
nothing_entered n m k w = same_both (m.0 == n.0)

pub entered_here : (n m : NameId) (k : ℕ) → m.0 ≡ n.0 → if_named n m k None ≡ record { 0 = k } ∷ []
entered_here n m k e = rw ((Decides-eqb m.0 n.0).1 e) refl

pub entered_elsewhere : (n m : NameId) (k : ℕ) → (m.0 ≡ n.0 → ⊥) → if_named n m k None ≡ []
entered_elsewhere n m k other = by_test (m.0 == n.0) refl
  where
    by_test : (b : Bool) → (m.0 == n.0) ≡ b → cond b (one_function k) [] ≡ []
    by_test true e = absurd (other ((Decides-eqb m.0 n.0).0 e))
    by_test false e = refl

-- what an index reads after a write
set_here : (vs : List (Vec FunId Global)) (k : ℕ) (v : Vec FunId Global) → k < length vs → get_or (lists_of (set vs k v)) k [] ≡ v.items
set_here [] k v l = absurd (omega (arith, l))
set_here (x ∷ vs) zero v l = refl
set_here (x ∷ vs) (suc k) v l = set_here vs k v (omega (arith, l))

set_there : (vs : List (Vec FunId Global)) (k j : ℕ) (v : Vec FunId Global) → (k ≡ j → ⊥) → get_or (lists_of (set vs k v)) j [] ≡ get_or (lists_of vs) j []
set_there [] k j v n = refl
set_there (x ∷ vs) zero zero v n = absurd (n refl)
set_there (x ∷ vs) zero (suc j) v n = refl
set_there (x ∷ vs) (suc k) zero v n = refl
set_there (x ∷ vs) (suc k) (suc j) v n = set_there vs k j v (λ e. n (ap suc e))

pub read_list : (vs : List (Vec FunId Global)) (k : ℕ) (v : Vec FunId Global) → k < length vs → v ≡ get_or vs k v → get_or (lists_of vs) k [] ≡ v.items
read_list [] k v l e = absurd (omega (arith, l))
read_list (x ∷ vs) zero v l e = ap (λ (w : Vec FunId Global). w.items) (sym e)
read_list (x ∷ vs) (suc k) v l e = read_list vs k v (omega (arith, l)) e

-- the list of a name gets one more entry
pub list_pushed : (vs : List (Vec FunId Global)) (m : NameId) (old new : Vec FunId Global) (f : FunId) → m.0 < length vs → old ≡ get_or vs m.0 old → new.items ≡ old.items ++ f ∷ []
    → (n : NameId) → list_at (lists_of (set vs m.0 new)) n ≡ list_at (lists_of vs) n ++ if_named n m f.0 None
list_pushed vs m old new f l here pushed n = elim (cases_eq m.0 n.0) [
  | inl e ↦ subst (λ k. get_or (lists_of (set vs m.0 new)) k [] ≡ get_or (lists_of vs) k [] ++ if_named n m f.0 None) e
      (set_here vs m.0 new l ∙ pushed ∙ (λ i. sym (read_list vs m.0 old l here) i ++ sym (entered_here n m f.0 e) i))
  | inr d ↦ set_there vs m.0 n.0 new d ∙ sym (append-nil (get_or (lists_of vs) n.0 [])) ∙ ap (λ l. list_at (lists_of vs) n ++ l) (sym (entered_elsewhere n m f.0 d))
]

-- the list of a name that gets none stays
pub list_kept : (vs : List (Vec FunId Global)) (m : NameId) (old new : Vec FunId Global) → m.0 < length vs → old ≡ get_or vs m.0 old → new.items ≡ old.items → (n : NameId) → list_at (lists_of (set vs m.0 new)) n ≡ list_at (lists_of vs) n
list_kept vs m old new l here same n = elim (cases_eq m.0 n.0) [
  | inl e ↦ subst (λ k. get_or (lists_of (set vs m.0 new)) k [] ≡ get_or (lists_of vs) k []) e (set_here vs m.0 new l ∙ same ∙ sym (read_list vs m.0 old l here))
  | inr d ↦ set_there vs m.0 n.0 new d
]

-- the list of a name loses its last entry
without_last : (xs front : List FunId) (f : FunId) → xs ≡ front ++ f ∷ [] → take (length xs - 1) xs ≡ front
without_last xs front f e =
    let n : length xs - 1 ≡ length front = omega (arith, ap length e, length-append front (f ∷ [])) in
    (λ i. take (n i) (e i)) ∙ take-append-le (length front) front (f ∷ []) (omega arith) ∙ take_itself front
  where
    take_itself : (ys : List FunId) → take (length ys) ys ≡ ys
    take_itself [] = refl
    take_itself (y ∷ ys) = ap (λ l. y ∷ l) (take_itself ys)

pub list_popped : (vs : List (Vec FunId Global)) (m : NameId) (old new : Vec FunId Global) (count : ℕ) → m.0 < length vs → old ≡ get_or vs m.0 old → count ≡ length old.items → new.items ≡ take (count - 1) old.items
    → (n : NameId) (front : List FunId) (k : ℕ) → list_at (lists_of vs) n ≡ front ++ if_named n m k None → list_at (lists_of (set vs m.0 new)) n ≡ front
list_popped vs m old new count l here counted popped n front k was = elim (cases_eq m.0 n.0) [
  | inl e ↦
      let read : old.items ≡ front ++ record { 0 = k } ∷ [] = sym (read_list vs m.0 old l here) ∙ ap (λ j. get_or (lists_of vs) j []) e ∙ was ∙ ap (λ xs. front ++ xs) (entered_here n m k e) in
      ap (λ j. get_or (lists_of (set vs m.0 new)) j []) (sym e) ∙ set_here vs m.0 new l ∙ popped ∙ ap (λ c. take (c - 1) old.items) counted ∙ without_last old.items front (record { 0 = k }) read
  | inr d ↦ set_there vs m.0 n.0 new d ∙ was ∙ ap (λ xs. front ++ xs) (entered_elsewhere n m k d) ∙ append-nil front
]

-- nothing is lost where nothing was
pub nothing_lost : (lists : List (List FunId)) (n m : NameId) (front : List FunId) (k : ℕ) (w : Word) → list_at lists n ≡ front ++ if_named n m k (Some w) → list_at lists n ≡ front
nothing_lost lists n m front k w was = was ∙ ap (λ xs. front ++ xs) (nothing_entered n m k w) ∙ append-nil front

-- a name without a list has no function
pub none_there : (lists : List (List FunId)) (m : NameId) → length lists ≤ m.0 → (n : NameId) (front : List FunId) (k : ℕ) → list_at lists n ≡ front ++ if_named n m k None → list_at lists n ≡ front
none_there lists m beyond n front k was = elim (cases_eq m.0 n.0) [
  | inl e ↦
      let empty : list_at lists n ≡ [] = read_beyond lists n.0 (omega (arith, beyond, e)) in
      let some : [] ≡ front ++ record { 0 = k } ∷ [] = sym empty ∙ was ∙ ap (λ xs. front ++ xs) (entered_here n m k e) in
      let long = ap length some in
      absurd (omega (arith, long, length-append front (one_function k)))
  | inr d ↦ was ∙ ap (λ xs. front ++ xs) (entered_elsewhere n m k d) ∙ append-nil front
]
  where
    read_beyond : (xs : List (List FunId)) (i : ℕ) → length xs ≤ i → get_or xs i [] ≡ []
    read_beyond [] i l = refl
    read_beyond (x ∷ xs) zero l = absurd (omega (arith, l))
    read_beyond (x ∷ xs) (suc i) l = read_beyond xs i (omega (arith, l))

-- an empty list behind the lists changes nothing that is read
pub list_added : (vs : List (Vec FunId Global)) (v : Vec FunId Global) → v.items ≡ [] → (n : NameId) → list_at (lists_of (vs ++ v ∷ [])) n ≡ list_at (lists_of vs) n
list_added vs v empty n = by_place vs n.0
  where
    by_place : (xs : List (Vec FunId Global)) (i : ℕ) → get_or (lists_of (xs ++ v ∷ [])) i [] ≡ get_or (lists_of xs) i []
    by_place [] zero = empty
    by_place [] (suc i) = refl
    by_place (x ∷ xs) zero = refl
    by_place (x ∷ xs) (suc i) = by_place xs i

-- ---- a function with a word
pub word_entered : (lists : List (List FunId)) (m : NameId) (k : ℕ) (w : Option Word) → is_some w ≡ true → (n : NameId) → list_at lists n ≡ list_at lists n ++ if_named n m k w
word_entered lists m k None e n = absurd (let z : false ≡ true = e in cc)
word_entered lists m k (Some w) e n = sym (append-nil (list_at lists n)) ∙ ap (λ l. list_at lists n ++ l) (sym (nothing_entered n m k w))

pub word_lost : (lists : List (List FunId)) (m : NameId) (w : Option Word) → is_some w ≡ true → (n : NameId) (front : List FunId) (k : ℕ) → list_at lists n ≡ front ++ if_named n m k w → list_at lists n ≡ front
word_lost lists m None e n front k was = absurd (let z : false ≡ true = e in cc)
word_lost lists m (Some w) e n front k was = nothing_lost lists n m front k w was

pub no_word : (w : Option Word) → is_some w ≡ false → w ≡ None
no_word None e = refl
no_word (Some w) e = absurd (let z : true ≡ false = e in cc)

-- ---- a table of functions with its indices
pub indexed_pushed : (es new_es : List FunEntry) (e : FunEntry) (keys new_keys : List Key) (old new : List (List FunId)) (k : ℕ) → IsIndexed (functions_of es) keys old → new_es ≡ es ++ e ∷ [] → new_keys ≡ keys ++ key e.name e.sorts.items ∷ [] → k ≡ length es
    → ((n : NameId) → list_at new n ≡ list_at old n ++ if_named n e.name k e.word) → IsIndexed (functions_of new_es) new_keys new
indexed_pushed es new_es e keys new_keys old new k are pushed keyed here entered =
    let functions : functions_of new_es ≡ functions_of es ++ function_of e ∷ [] = ap functions_of pushed ∙ map-append function_of es (e ∷ []) in
    record {
      keyed =
          keyed ∙ ap (λ ks. ks ++ key e.name e.sorts.items ∷ []) are.keyed ∙ sym (map-append key_of (functions_of es) (function_of e ∷ []))
          ∙ ap (map key_of) (sym functions);
      named = subst (λ fs. AreNamedLists fs new) (sym functions) (lists_entered (functions_of es) old new (function_of e) k (here ∙ sym (length-map es function_of)) are.named entered);
    }

take_front : {A : Type 0} (xs : List A) (n : ℕ) → n ≡ length xs → (ys : List A) → take n (xs ++ ys) ≡ xs
take_front [] zero e ys = refl
take_front [] (suc n) e ys = absurd (omega (arith, e))
take_front (x ∷ xs) zero e ys = absurd (omega (arith, e))
take_front (x ∷ xs) (suc n) e ys = ap (λ l. x ∷ l) (take_front xs n (omega (arith, e)) ys)

-- the last key went again
pub indexed_back : (es : List FunEntry) (k : Key) (keys pushed cut : List Key) (old new : List (List FunId)) (n : ℕ) → IsIndexed (functions_of es) keys old → pushed ≡ keys ++ k ∷ [] → cut ≡ take n pushed → n ≡ length es
    → ((m : NameId) → list_at new m ≡ list_at old m) → IsIndexed (functions_of es) cut new
indexed_back es k keys pushed cut old new n are added cut_is here same =
    let count : n ≡ length keys = here ∙ sym (length-map es function_of) ∙ sym (length-map (functions_of es) key_of) ∙ ap length (sym are.keyed) in
    record {
      keyed = cut_is ∙ ap (take n) added ∙ take_front keys n count (k ∷ []) ∙ are.keyed;
      named = lists_unchanged (functions_of es) old new are.named same;
    }

-- ---- the first functions alone
take_taken : {A : Type 0} (n m : ℕ) (xs : List A) → n ≤ m → take n (take m xs) ≡ take n xs
take_taken zero m xs l = refl
take_taken (suc n) zero xs l = absurd (omega (arith, l))
take_taken (suc n) (suc m) [] l = refl
take_taken (suc n) (suc m) (x ∷ xs) l = ap (λ ys. x ∷ ys) (take_taken n m xs (omega (arith, l)))

pub cut_more : (initial old new : List FunEntry) (n m : ℕ) → n < m → new ≡ take (m - 1) old → take n (functions_of old) ≡ take n (functions_of initial) → take n (functions_of new) ≡ take n (functions_of initial)
cut_more initial old new n m l is front =
    sym (map_taken function_of n new) ∙ ap functions_of (ap (take n) is ∙ take_taken n (m - 1) old (omega (arith, l))) ∙ map_taken function_of n old ∙ front

take_all : {A : Type 0} (n : ℕ) (xs : List A) → length xs ≤ n → take n xs ≡ xs
take_all zero [] l = refl
take_all zero (x ∷ xs) l = absurd (omega (arith, l))
take_all (suc n) [] l = refl
take_all (suc n) (x ∷ xs) l = ap (λ ys. x ∷ ys) (take_all n xs (omega (arith, l)))

pub cut_end : (initial final : List FunEntry) (n : ℕ) → length final ≤ n → take n (functions_of final) ≡ take n (functions_of initial) → functions_of final ≡ take n (functions_of initial)
cut_end initial final n l front = sym (take_all n (functions_of final) (omega (arith, l, length-map final function_of))) ∙ front

pub cut_named : (old new : List FunEntry) (e : FunEntry) (before after : List (List FunId)) → old ≡ new ++ e ∷ [] → AreNamedLists (functions_of old) before
    → ((n : NameId) (front : List FunId) (k : ℕ) → list_at before n ≡ front ++ if_named n e.name k e.word → list_at after n ≡ front) → AreNamedLists (functions_of new) after
cut_named old new e before after is are forgotten =
    lists_forgotten (functions_of new) before after (function_of e) (subst (λ fs. AreNamedLists fs before) (ap functions_of is ∙ map-append function_of new (e ∷ [])) are) forgotten
