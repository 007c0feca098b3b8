-- The names of a signature with constants for empty lists word a text.
use Rattle.std.proofs.Common.{◌≡◌, ℕ, zero, suc, ◌+◌, ◌<◌, ◌≤◌, ◌≢◌, ◌⊎◌, inl, inr, List, [], ◌∷◌, ◌++◌, length, map, take, get_or, codes, replicate, Option, Some, None, refl, sym, ap, ◌∙◌, subst, arith, length-append, append_assoc, append-nil, ⊎_elim}
use Rattle.std.specs.Prelude.{slice_get, option_map}
use Rattle.std.specs.List.{All, Contains}
use Rattle.std.proofs.Math.ListN.{set, length-set, length-replicate}
use Rattle.std.proofs.lemmas.Bool.{cases_lt, cases_eq}
use Rattle.std.proofs.lemmas.List.{get_or-set_same, get_or-set_other, length-map}
use Rattle.std.proofs.lemmas.List.Elements.{All-nil, All-cons, All-head, All-tail, All-contains}
use Rattle.std.proofs.lemmas.Option.{none-some, same_Some, slice_get_within, slice_get-map}
use Rattle.data_theory.specs.declared.ids.FunId.{FunId}
use Rattle.data_theory.specs.declared.ids.SortId.{SortId}
use Rattle.data_theory.specs.declared.words.ListWord.TheVariants as lists
use Rattle.data_theory.specs.declared.words.Word.{Word}
use Rattle.data_theory.specs.declared.words.Word.TheVariants as words
use Rattle.data_theory.specs.Terms.{Sort}
use Rattle.data_theory.specs.Complete.{IsFunctionWithin}
use Rattle.data_theory.specs.Functions.{Function, declared_function}
use Rattle.data_theory.specs.Places.{HaveOnePlace}
use Rattle.data_theory.specs.Signature.{Sig, with_taken}
use Rattle.data_theory.specs.IdSymbols.{element_of, if_declared, declared_from}
use Rattle.data_theory.specs.IdTerms.{sort_under, IsGrown}
use Rattle.data_theory.specs.WholeSignatures.{IsSignature}
use Rattle.data_theory.proofs.PlaceLemmas.{read_contained, read_front, read_behind, one_place_pushed}
use Rattle.data_theory.proofs.IdGrowthLemmas.{with_a_text_it_is_grown, growth_after_growth_is_growth}
use Rattle.data_theory.proofs.IdSortLemmas.{read_within, growth_keeps_meant_sorts}
use Rattle.data_theory.proofs.IdSymbolLemmas.{declared_both, holds_at}
use Rattle.term_pool.proofs.DeclaredConstants.{grown_as, grown_itself}
use Rattle.term_pool.proofs.Lists.{contains_none, contains_cons, contains_head, contains_tail, contained_from_map}
use Rattle.sort_table.specs.Expressions.{Name}
use Rattle.lps_printer.specs.Wordings.{Wording, place_of, IsConstantOf, no_constant, a_constant}
use Rattle.lps_printer.specs.TextWordings.{IsTextWordedBy}
use Rattle.lps_printer.specs.SignatureNames.{once_functions, once_actions, names_under, text_names_under}
use Rattle.lps_printer.specs.AddedConstants.{result_or, result_in, AddsEach, none_left, adds, AddsConstants, bare_table, with_constants, AreConstants}
use Rattle.lps_printer.specs.NeededConstants.{Finds, finds_none, finds_new, finds_known, IsNil, nil_sort}
use Rattle.lps_printer.proofs.AddedConstants.{constant_grows}
use Rattle.lps_printer.proofs.NeededConstants.{same_nil}
use Rattle.lps_printer.proofs.SignatureNames.{function_names_stand, text_is_worded}

-- ---- the functions that are added
abbrev pub IsPlain : Function → Type 0
IsPlain f = f.word ≡ None

pub record HasNew (g h : Sig) (n : ℕ) : Type 0 where
  pub news : List Function
  pub behind : h.functions ≡ g.functions ++ news
  pub many : length news ≡ n
  pub plain : All IsPlain news

each_new : (g h : Sig) (ss : List SortId) → AddsEach g ss h → HasNew g h (length ss)
each_new g h [] none_left = record { news = []; behind = sym (append-nil g.functions); many = refl; plain = All-nil IsPlain }
each_new g k (s ∷ ss) (adds {h = h} one rest) =
    let r = each_new h k ss rest in
    let f = declared_function one.name [] s in
    let first : h.functions ≡ g.functions ++ f ∷ [] = ap (λ (x : Sig). x.functions) one.declared ∙ ap (λ (x : Sig). x.functions ++ f ∷ []) one.fresh.taken in
    record {
      news = f ∷ r.news;
      behind = r.behind ∙ ap (λ fs. fs ++ r.news) first ∙ append_assoc g.functions (f ∷ []) r.news;
      many = ap suc r.many;
      plain = All-cons IsPlain f r.news refl r.plain;
    }

pub each_grows : (g h : Sig) (ss : List SortId) → AddsEach g ss h → IsGrown g h
each_grows g h [] none_left = grown_itself g
each_grows g k (s ∷ ss) (adds {h = h} one rest) = growth_after_growth_is_growth g h k (constant_grows g h s one) (each_grows h k ss rest)

pub constants_new : (g h : Sig) (ss : List SortId) → AddsConstants g ss h → HasNew g h (length ss)
constants_new g h [] e = record { news = []; behind = ap (λ (x : Sig). x.functions) e ∙ sym (append-nil g.functions); many = refl; plain = All-nil IsPlain }
constants_new g h (s ∷ ss) run = let r = each_new (with_taken g (codes "nil")) h (s ∷ ss) run in record { news = r.news; behind = r.behind; many = r.many; plain = r.plain }

pub constants_grow : (g h : Sig) (ss : List SortId) → AddsConstants g ss h → IsGrown g h
constants_grow g h [] e = grown_as g h g e (grown_itself g)
constants_grow g h (s ∷ ss) run = growth_after_growth_is_growth g (with_taken g (codes "nil")) h (with_a_text_it_is_grown g (codes "nil")) (each_grows (with_taken g (codes "nil")) h (s ∷ ss) run)

-- ---- their places among the declared ones
pub all_counted : (fs : List Function) (k i : ℕ) → All IsPlain fs → i ≤ length fs → length (declared_from k (take i fs)) ≡ i
all_counted fs k zero a l = refl
all_counted [] k (suc i) a l = absurd (omega (arith, l))
all_counted (f ∷ fs) k (suc i) a l =
    ap (λ o. length (if_declared k o ++ declared_from (suc k) (take i fs))) (All-head IsPlain f fs a)
    ∙ ap suc (all_counted fs (suc k) i (All-tail IsPlain f fs a) (omega (arith, l)))

taken_behind : (xs ys : List Function) (i : ℕ) → take (length xs + i) (xs ++ ys) ≡ xs ++ take i ys
taken_behind [] ys i = ap (λ n. take n ys) (let z : 0 + i ≡ i = omega arith in z)
taken_behind (x ∷ xs) ys i = ap (λ n. take n (x ∷ xs ++ ys)) (let z : suc (length xs) + i ≡ suc (length xs + i) = omega arith in z) ∙ ap (λ zs. x ∷ zs) (taken_behind xs ys i)

module _ (g h : Sig) (n : ℕ) (new : HasNew g h n) where
  pub new_place : (i : ℕ) → i < n → place_of h (record { 0 = length g.functions + i }) ≡ length (declared_from 0 g.functions) + i
  new_place i l =
      let low : i ≤ length new.news = omega (arith, l, new.many) in
      ap (λ fs. length (declared_from 0 (take (length g.functions + i) fs))) new.behind
      ∙ ap (λ fs. length (declared_from 0 fs)) (taken_behind g.functions new.news i)
      ∙ ap length (declared_both g.functions (take i new.news) 0)
      ∙ length-append (declared_from 0 g.functions) (declared_from (0 + length g.functions) (take i new.news))
      ∙ ap (λ m. length (declared_from 0 g.functions) + m) (all_counted new.news (0 + length g.functions) i new.plain low)

  pub new_entry : (i : ℕ) → i < n → (e : Function) × (slice_get h.functions (length g.functions + i) ≡ Some e) × (e.word ≡ None)
  new_entry i l =
      let low : i < length new.news = omega (arith, l, new.many) in
      let e = read_within new.news i low in
      (e.0, ap (λ fs. slice_get fs (length g.functions + i)) new.behind ∙ read_behind g.functions new.news i e.0 e.1, holds_at IsPlain new.news i e.0 new.plain e.1)

  -- a function with a word is an old one
  old_entry : (k : ℕ) (e : Function) (w : Word) → slice_get h.functions k ≡ Some e → e.word ≡ Some w → slice_get g.functions k ≡ Some e
  old_entry k e w at word = ⊎_elim (λ l. old l) (λ l. absurd (late l)) (cases_lt k (length g.functions))
    where
      there_in : slice_get (g.functions ++ new.news) k ≡ Some e
      there_in = ap (λ fs. slice_get fs k) (sym new.behind) ∙ at

      old : k < length g.functions → slice_get g.functions k ≡ Some e
      old l = let x = read_within g.functions k l in x.1 ∙ sym (read_front g.functions new.news k x.0 x.1) ∙ there_in

      late : length g.functions ≤ k → ⊥
      late l = by_rest g.functions k l there_in
        where
          by_rest : (fs : List Function) (j : ℕ) → length fs ≤ j → slice_get (fs ++ new.news) j ≡ Some e → ⊥
          by_rest [] j l at = let p = holds_at IsPlain new.news j e new.plain at in none-some w (sym p ∙ word)
          by_rest (f ∷ fs) zero l at = omega (arith, l)
          by_rest (f ∷ fs) (suc j) l at = by_rest fs j (omega (arith, l)) at

-- ---- the table
pub tail_once : {A : Type 0} (x : A) (xs : List A) → HaveOnePlace (x ∷ xs) → HaveOnePlace xs
tail_once x xs d i j u p q = let e = d (suc i) (suc j) u p q in omega (arith, e)

head_once : {A : Type 0} (x : A) (xs : List A) → HaveOnePlace (x ∷ xs) → Contains xs x → ⊥
head_once x xs d c = let r = read_contained xs x c in let e = d (suc r.0) zero x r.1 refl in omega (arith, e)

other_number : (f m : FunId) → (f ≡ m → ⊥) → f.0 ≢ m.0
other_number f m n e = n (ap (λ (k : ℕ). record { 0 = k }) e)

left_alone : (n : ℕ) (nils : List FunId) (table : List (Option FunId)) (f : FunId) → (Contains nils f → ⊥) → get_or (with_constants n nils table) f.0 None ≡ get_or table f.0 None
left_alone n [] table f absent = refl
left_alone n (m ∷ nils) table f absent =
    left_alone (suc n) nils (set table m.0 (Some (record { 0 = n }))) f (λ c. absent (contains_tail m f nils c))
    ∙ get_or-set_other table m.0 f.0 (Some (record { 0 = n })) None (other_number f m (λ e. absent (subst (λ (x : FunId). Contains (x ∷ nils) f) e (contains_head f nils))))

entry_set : (n : ℕ) (nils : List FunId) (table : List (Option FunId)) (f : FunId) (i : ℕ) → HaveOnePlace nils → slice_get nils i ≡ Some f → f.0 < length table → get_or (with_constants n nils table) f.0 None ≡ Some (record { 0 = n + i })
entry_set n [] table f i d at l = absurd (none-some f at)
entry_set n (m ∷ nils) table f zero d at l =
    let same : m ≡ f = same_Some m f at in
    let z : n ≡ n + 0 = omega arith in
    left_alone (suc n) nils (set table m.0 (Some (record { 0 = n }))) f (subst (λ (x : FunId). Contains nils x → ⊥) same (head_once m nils d))
    ∙ ap (λ (x : FunId). get_or (set table x.0 (Some (record { 0 = n }))) f.0 None) same
    ∙ get_or-set_same table f.0 (Some (record { 0 = n })) None l
    ∙ ap (λ (k : ℕ). Some (record { 0 = k })) z
entry_set n (m ∷ nils) table f (suc i) d at l =
    let z : suc n + i ≡ n + suc i = omega arith in
    entry_set (suc n) nils (set table m.0 (Some (record { 0 = n }))) f i (tail_once m nils d) at (subst (λ k. f.0 < k) (sym (length-set table m.0 (Some (record { 0 = n })))) l)
    ∙ ap (λ (k : ℕ). Some (record { 0 = k })) z

abbrev no_function : Option FunId
no_function = None

abbrev number : ℕ → FunId
number k = record { 0 = k }

bare_entry : (n k : ℕ) → get_or (replicate n no_function) k None ≡ None
bare_entry zero k = refl
bare_entry (suc n) zero = refl
bare_entry (suc n) (suc k) = bare_entry n k

among_or_not : (nils : List FunId) (f : FunId) → ((i : ℕ) × (slice_get nils i ≡ Some f)) ⊎ (Contains nils f → ⊥)
among_or_not [] f = inr (λ c. contains_none f c)
among_or_not (m ∷ nils) f = elim (cases_eq m.0 f.0) [
  | inl e ↦ inl (0, ap (λ (k : ℕ). Some (number k)) e)
  | inr d ↦ elim (among_or_not nils f) [
    | inl h ↦ inl (suc h.0, h.1)
    | inr h ↦ inr (λ c. ⊎_elim (λ e. d (ap (λ (x : FunId). x.0) e)) h (contains_cons m f nils c))
  ]
]

-- ---- what is found differs
finds_differ : {a ss b : List Sort} → Finds a ss b → HaveOnePlace a → HaveOnePlace b
finds_differ finds_none d = d
finds_differ (finds_new {old = a} {s = s} n p) d = finds_differ p (one_place_pushed a s d n)
finds_differ (finds_known k p) d = finds_differ p d

pub mapped_once : {A B : Type 0} (F : A → B) (xs : List A) → HaveOnePlace (map F xs) → HaveOnePlace xs
mapped_once F xs d i j x p q = d i j (F x) (slice_get-map F xs i ∙ ap (option_map F) p) (slice_get-map F xs j ∙ ap (option_map F) q)

pub found_differ : {ss b : List Sort} → Finds [] ss b → HaveOnePlace b
found_differ p = finds_differ p (λ i j x a b. absurd (none-some x a))

-- ---- the wording
module _ (g h : Sig) (before : IsSignature g) (after : IsSignature h) (nils : List FunId) (all : All (IsNil g) nils) (differ : HaveOnePlace nils) (added : AddsConstants g (map (result_in g) nils) h)
    (c : Sort → Option ℕ) (are : AreConstants (length (declared_from 0 g.functions)) (map (nil_sort g) nils) c) where
  many : length (map (result_in g) nils) ≡ length nils
  many = length-map nils (result_in g)

  new : HasNew g h (length nils)
  new = subst (HasNew g h) many (constants_new g h (map (result_in g) nils) added)

  abbrev wording : Wording
  wording = record { names = names_under h; constant = c }

  -- the sort that an old `[]` had
  sort_stays : (f : FunId) (e : Function) → slice_get g.functions f.0 ≡ Some e → element_of (sort_under h e.result) ≡ nil_sort g f
  sort_stays f e at =
      let within = (holds_at (IsFunctionWithin (length g.texts) (length g.sorts) (length g.functions)) g.functions f.0 e before.complete.within.functions_within at).gives in
      ap element_of (growth_keeps_meant_sorts g h (constants_grow g h (map (result_in g) nils) added) e.result within ∙ ap (λ o. sort_under g (result_or o)) (sym at))

  found : (f : FunId) (e : Function) (i : ℕ) → slice_get g.functions f.0 ≡ Some e → slice_get nils i ≡ Some f → IsConstantOf h wording (c (element_of (sort_under h e.result))) (get_or (with_constants (length g.functions) nils (bare_table g)) f.0 None)
  found f e i at place =
      let low : i < length nils = slice_get_within nils i f place in
      let sort = are.stands i (nil_sort g f) (slice_get-map (nil_sort g) nils i ∙ ap (option_map (nil_sort g)) place) in
      let constant : c (element_of (sort_under h e.result)) ≡ Some (length (declared_from 0 g.functions) + i) = ap c (sort_stays f e at) ∙ sort in
      let table = entry_set (length g.functions) nils (bare_table g) f i differ place (subst (λ k. f.0 < k) (sym (length-replicate (length g.functions) None)) (slice_get_within g.functions f.0 e at)) in
      let entry = new_entry g h (length nils) new i low in
      let text = function_names_stand h after (record { 0 = length g.functions + i }) entry.0 entry.1 entry.2 ∙ ap (λ k. Some ((names_under h).function k)) (new_place g h (length nils) new i low) in
      subst (λ o. IsConstantOf h wording o (get_or (with_constants (length g.functions) nils (bare_table g)) f.0 None)) (sym constant) (subst (λ o. IsConstantOf h wording (Some (length (declared_from 0 g.functions) + i)) o) (sym table) (a_constant entry.1 text))

  unfound : (f : FunId) (e : Function) → slice_get g.functions f.0 ≡ Some e → IsNil g f → (Contains nils f → ⊥) → IsConstantOf h wording (c (element_of (sort_under h e.result))) (get_or (with_constants (length g.functions) nils (bare_table g)) f.0 None)
  unfound f e at nil absent =
      let isnt : Contains (map (nil_sort g) nils) (nil_sort g f) → ⊥ = λ k.
      let m = contained_from_map (nil_sort g) nils (nil_sort g f) k in
      let same : f ≡ m.0 = same_nil g before.table f m.0 nil (All-contains (IsNil g) nils m.0 all m.1) (sym m.2) in
      absent (subst (Contains nils) (sym same) m.1) in
      let constant : c (element_of (sort_under h e.result)) ≡ None = ap c (sort_stays f e at) ∙ are.others (nil_sort g f) isnt in
      let table = left_alone (length g.functions) nils (bare_table g) f absent ∙ bare_entry (length g.functions) f.0 in
      subst (λ o. IsConstantOf h wording o (get_or (with_constants (length g.functions) nils (bare_table g)) f.0 None)) (sym constant) (subst (λ o. IsConstantOf h wording None o) (sym table) no_constant)

  constants_stand : (f : FunId) (e : Function) → slice_get h.functions f.0 ≡ Some e → e.word ≡ Some (words.List lists.Empty) → IsConstantOf h wording (c (element_of (sort_under h e.result))) (get_or (with_constants (length g.functions) nils (bare_table g)) f.0 None)
  constants_stand f e at word =
      let here = old_entry g h (length nils) new f.0 e (words.List lists.Empty) at word in
      elim (among_or_not nils f) [ inl k ↦ found f e k.0 here k.1 | inr k ↦ unfound f e here (e, here, word) k ]

  pub constants_are_worded : (x : Name) → IsTextWordedBy h (once_functions h) (with_constants (length g.functions) nils (bare_table g)) (once_actions h) (record { names = text_names_under h x; constant = c })
  constants_are_worded x = text_is_worded h after x (with_constants (length g.functions) nils (bare_table g)) c constants_stand
