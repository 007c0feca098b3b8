-- The ids in what a structured sort declares are places of entries.
use Rattle.std.proofs.Common.{◌≡◌, ℕ, zero, suc, ◌+◌, ◌<◌, ◌≤◌, List, [], ◌∷◌, ◌++◌, length, map, take, Bool, true, false, cond, ◌==◌, Option, Some, None, Result, Ok, Err, refl, sym, ap, ◌∙◌, subst, arith, length-append}
use Rattle.std.specs.Prelude.{IfSome, OnOk, OnErr, is_err}
use Rattle.std.specs.List.{All, list_any}
use Rattle.std.proofs.lemmas.List.Sums.{sum_by-cons}
use Rattle.std.proofs.lemmas.List.Elements.{All-nil, All-cons, All-head, All-tail, All-append, All-map, All-weaker, All-from_recursion}
use Rattle.std.proofs.Math.Seq.{take-length}
use Rattle.std.proofs.lemmas.Option.{slice_get_within}
use Rattle.data_theory.specs.declared.ids.NameId.{NameId}
use Rattle.data_theory.specs.declared.ids.SortId.{SortId}
use Rattle.data_theory.specs.declared.ids.FunId.{FunId}
use Rattle.data_theory.specs.Table.{bool_sort}
use Rattle.data_theory.specs.Functions.{Function, AreNew}
use Rattle.data_theory.specs.Taken.{with_name, with_names}
use Rattle.data_theory.specs.Sorts.{SortInfo, structured, with_kind, IsBare}
use Rattle.data_theory.specs.Structs.{Con, IsConWithin, named_function, projections_of, recogniser_of, all_projections, all_recognisers, count_of, named_fields, number_of, numbers_of, constructor_of, constructors_of, struct_functions, numbers_from}
use Rattle.data_theory.specs.Signature.{Sig, with_sort, with_struct, with_struct_sort, IsNewStruct}
use Rattle.data_theory.specs.Complete.{IsFunctionWithin, IsComplete}
use Rattle.data_theory.proofs.StructLemmas.{length-named, length-projections}
use Rattle.data_theory.proofs.CompleteLemmas.{within_more, begins_longer, four_sorts, kind_complete, name_within}

module _ (t s f : ℕ) where
  named_within : (sort : SortId) (n : Option NameId) (to : SortId) → sort.0 < s → IfSome n (λ m. m.0 < t) → to.0 < s → All (IsFunctionWithin t s f) (named_function sort n to)
  named_within sort None to a b d = All-nil (IsFunctionWithin t s f)
  named_within sort (Some n) to a b d =
      All-from_recursion (IsFunctionWithin t s f) (named_function sort (Some n) to)
      (record { named = b; found = All-from_recursion (λ (i : SortId). i.0 < s) (sort ∷ []) (a, tt); gives = d; projected = All-nil (λ (p : Option FunId). IfSome p (λ q. q.0 < f)); recognised = tt }, tt)

  abbrev IsFieldWithin : Option NameId × SortId → Type 0
  IsFieldWithin g = (g.1.0 < s) × IfSome g.0 (λ n. n.0 < t)

  projections_within : (sort : SortId) (fields : List (Option NameId × SortId)) → sort.0 < s → All IsFieldWithin fields → All (IsFunctionWithin t s f) (projections_of sort fields)
  projections_within sort [] a all = All-nil (IsFunctionWithin t s f)
  projections_within sort (g ∷ fields) a all =
      let here = All-head IsFieldWithin g fields all in
      All-append (IsFunctionWithin t s f) (named_function sort g.0 g.1) (projections_of sort fields) (named_within sort g.0 g.1 a here.1 here.0) (projections_within sort fields a (All-tail IsFieldWithin g fields all))

  all_projections_within : (sort : SortId) (cs : List Con) → sort.0 < s → All (IsConWithin t s) cs → All (IsFunctionWithin t s f) (all_projections sort cs)
  all_projections_within sort [] a all = All-nil (IsFunctionWithin t s f)
  all_projections_within sort (c ∷ cs) a all =
      let here = All-head (IsConWithin t s) c cs all in
      All-append (IsFunctionWithin t s f) (projections_of sort c.fields) (all_projections sort cs) (projections_within sort c.fields a here.over) (all_projections_within sort cs a (All-tail (IsConWithin t s) c cs all))

  all_recognisers_within : (sort : SortId) (cs : List Con) → sort.0 < s → 0 < s → All (IsConWithin t s) cs → All (IsFunctionWithin t s f) (all_recognisers sort cs)
  all_recognisers_within sort [] a z all = All-nil (IsFunctionWithin t s f)
  all_recognisers_within sort (c ∷ cs) a z all =
      let here = All-head (IsConWithin t s) c cs all in
      All-append (IsFunctionWithin t s f) (recogniser_of sort c) (all_recognisers sort cs) (named_within sort c.test bool_sort a here.recognised z) (all_recognisers_within sort cs a z (All-tail (IsConWithin t s) c cs all))

  number_within : (k : ℕ) (n : Option NameId) → k + count_of n ≤ f → IfSome (number_of k n) (λ q. q.0 < f)
  number_within k None l = tt
  number_within k (Some n) l = omega (arith, l)

  numbers_within : (k : ℕ) (fields : List (Option NameId × SortId)) → k + named_fields fields ≤ f → All (λ (p : Option FunId). IfSome p (λ q. q.0 < f)) (numbers_of k fields)
  numbers_within k [] l = All-nil (λ (p : Option FunId). IfSome p (λ q. q.0 < f))
  numbers_within k (g ∷ fields) l =
      let split = sum_by-cons (λ (g : Option NameId × SortId). count_of g.0) g fields in
      All-cons (λ (p : Option FunId). IfSome p (λ q. q.0 < f)) (number_of k g.0) (numbers_of (k + count_of g.0) fields) (number_within k g.0 (omega (arith, l, split))) (numbers_within (k + count_of g.0) fields (omega (arith, l, split)))

  constructors_within : (sort : SortId) (p q : ℕ) (cs : List Con) → sort.0 < s → All (IsConWithin t s) cs → p + length (all_projections sort cs) ≤ f → q + length (all_recognisers sort cs) ≤ f → All (IsFunctionWithin t s f) (constructors_of sort p q cs)
  constructors_within sort p q [] a all l m = All-nil (IsFunctionWithin t s f)
  constructors_within sort p q (c ∷ cs) a all l m =
      let here = All-head (IsConWithin t s) c cs all in
      let ps = length-append (projections_of sort c.fields) (all_projections sort cs) in
      let ts = length-append (recogniser_of sort c) (all_recognisers sort cs) in
      let np = length-projections sort c.fields in
      let nt = length-named sort c.test bool_sort in
      All-cons (IsFunctionWithin t s f) (constructor_of sort p q c) (constructors_of sort (p + named_fields c.fields) (q + count_of c.test) cs)
      (record {
        named = here.named;
        found = All-map (λ (i : SortId). i.0 < s) (λ (g : Option NameId × SortId). g.1) c.fields (All-weaker IsFieldWithin (λ g. g.1.0 < s) (λ g h. h.0) c.fields here.over);
        gives = a;
        projected = numbers_within p c.fields (omega (arith, l, ps, np));
        recognised = number_within q c.test (omega (arith, m, ts, nt));
      })
      (constructors_within sort (p + named_fields c.fields) (q + count_of c.test) cs a (All-tail (IsConWithin t s) c cs all) (omega (arith, l, ps, np)) (omega (arith, m, ts, nt)))

pub length-constructors : (sort : SortId) (p q : ℕ) (cs : List Con) → length (constructors_of sort p q cs) ≡ length cs
length-constructors sort p q [] = refl
length-constructors sort p q (c ∷ cs) = ap suc (length-constructors sort (p + named_fields c.fields) (q + count_of c.test) cs)

length-struct : (sort : SortId) (n : ℕ) (cs : List Con) → length (struct_functions sort n cs) ≡ length cs + length (all_projections sort cs) + length (all_recognisers sort cs)
length-struct sort n cs =
    let ps : List Function = all_projections sort cs in
    let made : List Function = constructors_of sort (n + length cs) (n + length cs + length ps) cs in
    omega (arith, length-append (made ++ ps) (all_recognisers sort cs), length-append made ps, length-constructors sort (n + length cs) (n + length cs + length ps) cs)

pub struct_within : (t s : ℕ) (sort : SortId) (n : ℕ) (cs : List Con) → sort.0 < s → 0 < s → All (IsConWithin t s) cs → All (IsFunctionWithin t s (n + length (struct_functions sort n cs))) (struct_functions sort n cs)
struct_within t s sort n cs a z all =
    let f : ℕ = n + length (struct_functions sort n cs) in
    let ps : List Function = all_projections sort cs in
    let total = length-struct sort n cs in
    All-append (IsFunctionWithin t s f) (constructors_of sort (n + length cs) (n + length cs + length ps) cs ++ ps) (all_recognisers sort cs)
    (All-append (IsFunctionWithin t s f) (constructors_of sort (n + length cs) (n + length cs + length ps) cs) ps
    (constructors_within t s f sort (n + length cs) (n + length cs + length ps) cs a all (omega (arith, total)) (omega (arith, total)))
    (all_projections_within t s f sort cs a all))
    (all_recognisers_within t s f sort cs a z all)

-- numbers of functions
range_within : (f k m : ℕ) → k + m ≤ f → All (λ (g : FunId). g.0 < f) (numbers_from k m)
range_within f k zero l = All-nil (λ (g : FunId). g.0 < f)
range_within f k (suc m) l = All-cons (λ (g : FunId). g.0 < f) (record { 0 = k }) (numbers_from (k + 1) m) (omega (arith, l)) (range_within f (k + 1) m (omega (arith, l)))

all_names_within : (t : ℕ) (ms ns : List NameId) → All (λ n. n.0 < t) ns → All (λ n. n.0 < t) ms → All (λ n. n.0 < t) (with_names ns ms)
all_names_within t [] ns a b = a
all_names_within t (m ∷ ms) ns a b = all_names_within t ms (with_name ns m) (name_within t ns m a (All-head (λ (n : NameId). n.0 < t) m ms b)) (All-tail (λ (n : NameId). n.0 < t) m ms b)

-- ---- functions are declared
functions_declared : (s : Sig) (fs : List Function) → IsComplete s → All (IsFunctionWithin (length s.texts) (length s.sorts) (length s.functions + length fs)) fs
    → IsComplete (record s { functions = s.functions ++ fs; declared = s.declared ++ numbers_from (length s.functions) (length fs); taken = with_names s.taken (map (λ f. f.name) fs) })
functions_declared s fs c all =
    let total : length (s.functions ++ fs) ≡ length s.functions + length fs = length-append s.functions fs in
    let added : All (IsFunctionWithin (length s.texts) (length s.sorts) (length (s.functions ++ fs))) fs = subst (λ n. All (IsFunctionWithin (length s.texts) (length s.sorts) n) fs) (sym total) all in
    let w = within_more (length s.texts) (length s.texts) (length s.sorts) (length s.sorts) (length s.functions) (length (s.functions ++ fs)) (omega arith) (omega arith) (omega (arith, total)) s c.within in
    record {
      words = c.words;
      first_sorts_stay = c.first_sorts_stay;
      first_functions_stay = begins_longer _ s.functions fs c.first_functions_stay;
      within = record {
        taken = all_names_within (length s.texts) (map (λ (f : Function). f.name) fs) s.taken w.taken (All-map (λ (n : NameId). n.0 < length s.texts) (λ (f : Function). f.name) fs (All-weaker (IsFunctionWithin (length s.texts) (length s.sorts) (length (s.functions ++ fs))) (λ f. f.name.0 < length s.texts) (λ f h. h.named) fs added));
        sorts_within = w.sorts_within;
        sort_names = w.sort_names;
        functions_within = All-append (IsFunctionWithin (length s.texts) (length s.sorts) (length (s.functions ++ fs))) s.functions fs w.functions_within added;
        declared = All-append (λ (g : FunId). g.0 < length (s.functions ++ fs)) s.declared (numbers_from (length s.functions) (length fs)) w.declared (range_within (length (s.functions ++ fs)) (length s.functions) (length fs) (omega (arith, total)));
        actions = w.actions;
        variables = w.variables;
      };
    }

pub struct_complete : (s : Sig) (sort : SortId) (cs : List Con) → IsComplete s → IsBare s.sorts sort → All (IsConWithin (length s.texts) (length s.sorts)) cs → IsComplete (with_struct s sort cs)
struct_complete s sort cs c bare all =
    let l : sort.0 < length s.sorts = slice_get_within s.sorts sort.0 bare.0 bare.1 in
    let n : ℕ = length s.functions in
    let fs : List Function = struct_functions sort n cs in
    let declared : Sig = record s { functions = s.functions ++ fs; declared = s.declared ++ numbers_from n (length fs); taken = with_names s.taken (map (λ f. f.name) fs) } in
    let there : IsComplete declared = functions_declared s fs c (struct_within (length s.texts) (length s.sorts) sort n cs l (omega (arith, four_sorts s c)) all) in
    kind_complete declared sort (structured (numbers_from n (length cs))) there bare
    (range_within (length (s.functions ++ fs)) n (length cs) (omega (arith, length-append s.functions fs, length-struct sort n cs)))

-- what a struct declares is new behind the functions as they are when it is made
pub struct_is_new : (old now after : List Function) (sort : SortId) (cs these : List Con) (fs : List Function) → now ≡ old → after ≡ now → these ≡ cs → fs ≡ struct_functions sort (length now) these → AreNew old (struct_functions sort (length old) cs) → AreNew after fs
struct_is_new old now after sort cs these fs e f g made new =
    let is : fs ≡ struct_functions sort (length old) cs = made ∙ (λ i. struct_functions sort (length (e i)) (g i)) in
    subst (λ l. AreNew l fs) (sym (f ∙ e)) (subst (AreNew old) (sym is) new)

pub struct_added : (s : Sig) (sort : SortId) (cs these : List Con) (l k : ℕ) (numbers : List FunId) (now after functions fs : List Function) (sorts : List SortInfo) (declared : List FunId) (taken : List NameId)
    → now ≡ s.functions → after ≡ now → these ≡ cs → fs ≡ struct_functions sort (length now) these → functions ≡ after ++ fs → declared ≡ s.declared ++ numbers_from (length after) (length fs) → taken ≡ with_names s.taken (map (λ f. f.name) fs)
    → numbers ≡ numbers_from l k → l ≡ length now → k ≡ length cs → sorts ≡ with_kind s.sorts sort.0 (structured numbers) → record s { sorts = sorts; functions = functions; declared = declared; taken = taken } ≡ with_struct s sort cs
struct_added s sort cs these l k numbers now after functions fs sorts declared taken e f g made a d t ns first count kind =
    let is : fs ≡ struct_functions sort (length s.functions) cs = made ∙ (λ i. struct_functions sort (length (e i)) (g i)) in
    let front : after ≡ s.functions = f ∙ e in
    let functions' : functions ≡ s.functions ++ struct_functions sort (length s.functions) cs = a ∙ (λ i. front i ++ is i) in
    let declared' : declared ≡ s.declared ++ numbers_from (length s.functions) (length (struct_functions sort (length s.functions) cs)) = d ∙ (λ i. s.declared ++ numbers_from (length (front i)) (length (is i))) in
    let taken' : taken ≡ with_names s.taken (map (λ f. f.name) (struct_functions sort (length s.functions) cs)) = t ∙ ap (λ (hs : List Function). with_names s.taken (map (λ f. f.name) hs)) is in
    let numbers' : numbers ≡ numbers_from (length s.functions) (length cs) = ns ∙ (λ i. numbers_from (first i) (count i)) ∙ (λ i. numbers_from (length (e i)) (length cs)) in
    let sorts' : sorts ≡ with_kind s.sorts sort.0 (structured (numbers_from (length s.functions) (length cs))) = kind ∙ ap (λ n. with_kind s.sorts sort.0 (structured n)) numbers' in
    (λ i. record s { sorts = sorts' i; functions = functions' i; declared = declared' i; taken = taken' i })

-- ---- a struct with a sort of its own
same_sort : (s : Sig) (sort : SortId) → sort.0 ≡ length s.sorts → sort ≡ record { 0 = length s.sorts }
same_sort s sort e = ap (λ (n : ℕ). record { 0 = n }) e

pub new_there : (s t : Sig) (n : NameId) (sort : SortId) (cs : List Con) → t ≡ with_sort s n → sort.0 ≡ length s.sorts → IsNewStruct s n cs → AreNew t.functions (struct_functions sort (length t.functions) cs)
new_there s t n sort cs e f new =
    subst (λ (x : Sig). AreNew x.functions (struct_functions sort (length x.functions) cs)) (sym e)
    (subst (λ (k : SortId). AreNew (with_sort s n).functions (struct_functions k (length (with_sort s n).functions) cs)) (sym (same_sort s sort f)) new)

pub struct_sort_added : (s t new : Sig) (n : NameId) (sort : SortId) (cs : List Con) → t ≡ with_sort s n → sort.0 ≡ length s.sorts → new ≡ with_struct t sort cs → new ≡ with_struct_sort s n cs
struct_sort_added s t new n sort cs e f is = is ∙ (λ i. with_struct (e i) (same_sort s sort f i) cs)

-- what was added goes again
take_all_of : {A : Type 0} (xs ys : List A) → take (length xs) (xs ++ ys) ≡ xs
take_all_of [] ys = refl
take_all_of (x ∷ xs) ys = ap (λ zs. x ∷ zs) (take_all_of xs ys)

take_name : (ns : List NameId) (n : NameId) → take (length ns) (with_name ns n) ≡ ns
take_name ns n = by_test (list_any (λ m. n.0 == m.0) ns)
  where
    by_test : (b : Bool) → take (length ns) (cond b ns (ns ++ n ∷ [])) ≡ ns
    by_test true = take-length ns
    by_test false = take_all_of ns (n ∷ [])

pub sort_forgotten : (s now : Sig) (n : NameId) (f k m l : ℕ) (functions : List Function) (sorts : List SortInfo) (names : List (NameId × SortId)) (taken : List NameId) → now ≡ with_sort s n → f ≡ length s.functions → k ≡ length s.sorts → m ≡ length s.sort_names → l ≡ length s.taken
    → functions ≡ take f now.functions → sorts ≡ take k now.sorts → names ≡ take m now.sort_names → taken ≡ take l now.taken → record now { functions = functions; sorts = sorts; sort_names = names; taken = taken } ≡ s
sort_forgotten s now n f k m l functions sorts names taken e p q r t a b c d =
    let functions' : functions ≡ s.functions = a ∙ (λ i. take (p i) (e i).functions) ∙ take_all_of s.functions _ in
    let sorts' : sorts ≡ s.sorts = b ∙ (λ i. take (q i) (e i).sorts) ∙ take_all_of s.sorts _ in
    let names' : names ≡ s.sort_names = c ∙ (λ i. take (r i) (e i).sort_names) ∙ take_all_of s.sort_names _ in
    let taken' : taken ≡ s.taken = d ∙ (λ i. take (t i) (e i).taken) ∙ take_name s.taken n in
    (λ i. record (e i) { functions = functions' i; sorts = sorts' i; sort_names = names' i; taken = taken' i })

-- what a test of an answer tells
pub if_err : {A E : Type 0} (r : Result A E) {P : Type 0} → is_err r ≡ true → OnErr r P → P
if_err (Ok x) e h = cc
if_err (Err x) e h = h

pub if_not_err : {A E : Type 0} (r : Result A E) {P : Type 0} → is_err r ≡ false → OnOk r P → P
if_not_err (Ok x) e h = h
if_not_err (Err x) e h = cc
