-- The search for the sorts that have a value.
use Rattle.std.proofs.Common.{◌≡◌, ◌≢◌, ◌<◌, ◌≤◌, ◌+◌, ◌⊎◌, ◌↔◌, inl, inr, Bool, true, false, ℕ, zero, suc, List, [], ◌∷◌, ◌++◌, length, map, take, set, get_or, Some, None, refl, sym, ap, ◌∙◌, subst, arith, length-append, get_or-set_same, get_or-set_other, cond, not, append-nil, append_assoc, drop, add-one, drop-cons}
use Rattle.std.specs.Prelude.{slice_get, IfSome}
use Rattle.std.specs.List.{All, Contains, flat_map}
use Rattle.std.specs.Global.{Vec}
use Rattle.std.proofs.lemmas.List.Elements.{All-nil, All-weaker, Contains-append_left, Contains-append_right, Contains-append_cases, Contains-push, Contains-push_cases}
use Rattle.std.proofs.lemmas.List.Sums.{sum_by-set}
use Rattle.std.proofs.lemmas.Bool.Decides.{eqb_tells}
use Rattle.std.proofs.Math.ListN.{length-set}
use Rattle.std.proofs.lemmas.Option.{slice_get_within, get_or_from_slice_get, slice_get-get_or}
use Rattle.data_theory.specs.declared.ids.SortId.{SortId}
use Rattle.data_theory.specs.declared.ids.FunId.{FunId}
use Rattle.data_theory.specs.Functions.{Function, arguments_of}
use Rattle.data_theory.specs.Sorts.{Kind, SortInfo, booleans, positives, naturals, integers, lists_over, without_constructors, by_declarations, structured}
use Rattle.data_theory.specs.Signature.{Sig}
use Rattle.data_theory.specs.IdData.{constructors_of}
use Rattle.data_theory.specs.IdTables.{HasSortsIn}
use Rattle.data_theory.specs.WholeSignatures.{IsSignature}
use Rattle.data_theory.proofs.IdSymbolLemmas.{holds_at}
use Rattle.data_theory.proofs.PlaceLemmas.{contains_read, read_contained}
use Rattle.term_pool.specs.declared.inhabited.Candidate.{Candidate}
use Rattle.term_pool.specs.ConstructorValues.{ConstructorValue, ConstructorValues, a_number, built, a_constant, no_value, value_then, IsConstructorOf, IsConstructorAt, IsValueOf, AreValuesOf, HasValue}
use Rattle.term_pool.specs.Inhabited.{IsMarked, AreInhabited, is_made, marks_at_once, from_start, candidates_in, unmarked_count, waiting_at, AreMarkedUpTo, AreAllMarked, IsFirstUnmarked, IsMarkedToo, IsCandidate, IsAmong, Waits, IsSearch}
use Rattle.term_pool.proofs.Lists.{contains_none, contains_cons, contains_head, contains_tail, contains_map, contained_from_map}
use Rattle.term_pool.proofs.InhabitedSorts.{value_where_not_made, constructor_place}

-- ---- marks
same_or_not : (a b : ℕ) → (a ≡ b) ⊎ (a ≢ b)
same_or_not a b = elim (eqb_tells a b) [ inl w ↦ inl w.1 | inr w ↦ inr w.1 ]

same_sort : (s t : SortId) → s.0 ≡ t.0 → s ≡ t
same_sort s t e = ap numbered e
  where
    numbered : ℕ → SortId
    numbered n = record { 0 = n }

pub marked_below : (marks : List Bool) (k : ℕ) → IsMarked marks k → k < length marks
marked_below [] k marked = cc
marked_below (m ∷ ms) zero marked = omega arith
marked_below (m ∷ ms) (suc k) marked = let below : k < length ms = marked_below ms k marked in omega arith

pub marked_set : (marks : List Bool) (x : ℕ) → x < length marks → IsMarked (set marks x true) x
marked_set marks x below = get_or-set_same marks x true false below

pub still_marked : (marks : List Bool) (x k : ℕ) → x < length marks → IsMarked marks k → IsMarked (set marks x true) k
still_marked marks x k below marked = elim (same_or_not k x) [
  | inl same ↦ subst (IsMarked (set marks x true)) (sym same) (marked_set marks x below)
  | inr differs ↦ get_or-set_other marks x k true false differs ∙ marked
]

pub marked_before : (marks : List Bool) (x k : ℕ) → IsMarked (set marks x true) k → IsMarked marks k ⊎ (k ≡ x)
marked_before marks x k marked = elim (same_or_not k x) [
  | inl same ↦ inr same
  | inr differs ↦ inl (sym (get_or-set_other marks x k true false differs) ∙ marked)
]

abbrev unmarked_at : Bool → ℕ
unmarked_at mark = cond mark 0 1

pub one_mark_more : (marks : List Bool) (x : ℕ) → x < length marks → ¬ (IsMarked marks x) → unmarked_count (set marks x true) + 1 ≡ unmarked_count marks
one_mark_more marks x below unmarked =
    let counts = sum_by-set unmarked_at marks x true false below in
    let old : unmarked_at (get_or marks x false) ≡ 1 = by_mark (get_or marks x false) unmarked in
    omega (arith, counts, old)
  where
    by_mark : (b : Bool) → ¬ (b ≡ true) → unmarked_at b ≡ 1
    by_mark true unset = absurd (unset refl)
    by_mark false unset = refl

-- ---- lists of candidates
waiting_set : (ws : List (Vec Candidate)) (k : ℕ) (v : Vec Candidate) → k < length ws → waiting_at (set ws k v) k ≡ v.items
waiting_set [] k v below = absurd (omega (arith, below))
waiting_set (w ∷ ws) zero v below = refl
waiting_set (w ∷ ws) (suc k) v below = waiting_set ws k v (omega (arith, below))

waiting_elsewhere : (ws : List (Vec Candidate)) (k j : ℕ) (v : Vec Candidate) → j ≢ k → waiting_at (set ws k v) j ≡ waiting_at ws j
waiting_elsewhere [] k j v differs = refl
waiting_elsewhere (w ∷ ws) zero zero v differs = absurd (differs refl)
waiting_elsewhere (w ∷ ws) zero (suc j) v differs = refl
waiting_elsewhere (w ∷ ws) (suc k) zero v differs = refl
waiting_elsewhere (w ∷ ws) (suc k) (suc j) v differs = waiting_elsewhere ws k j v (λ e. differs (ap suc e))

pub waiting_read : (ws : List (Vec Candidate)) (k : ℕ) (v : Vec Candidate) → k < length ws → v ≡ get_or ws k v → waiting_at ws k ≡ v.items
waiting_read [] k v below is = absurd (omega (arith, below))
waiting_read (w ∷ ws) zero v below is = ap (λ (x : Vec Candidate). x.items) (sym is)
waiting_read (w ∷ ws) (suc k) v below is = waiting_read ws k v (omega (arith, below)) is

one_function : (g : Sig) (f : FunId) (x y : Function) → slice_get g.functions f.0 ≡ Some x → slice_get g.functions f.0 ≡ Some y → x ≡ y
one_function g f x y a b = let both : Some x ≡ Some y = sym a ∙ b in cc

candidate_kept : (g : Sig) (marks marks' : List Bool) (c : Candidate) → ((k : ℕ) → IsMarked marks k → IsMarked marks' k) → IsCandidate g marks c → IsCandidate g marks' c
candidate_kept g marks marks' c keeps is = record { entry = is.entry; at = is.at; place = is.place; constructs = is.constructs; known = λ k s l a. keeps s.0 (is.known k s l a) }

waiting_nothing : (ws : List (Vec Candidate)) (v : Vec Candidate) (k : ℕ) → v.items ≡ [] → ((j : ℕ) → waiting_at ws j ≡ []) → waiting_at (ws ++ v ∷ []) k ≡ []
waiting_nothing [] v zero none empty = none
waiting_nothing [] v (suc k) none empty = refl
waiting_nothing (w ∷ ws) v zero none empty = empty 0
waiting_nothing (w ∷ ws) v (suc k) none empty = waiting_nothing ws v k none (λ j. empty (suc j))

pub nothing_waits : (ws all : List (Vec Candidate)) (v : Vec Candidate) → all ≡ ws ++ v ∷ [] → v.items ≡ [] → ((j : ℕ) → waiting_at ws j ≡ []) → (k : ℕ) → waiting_at all k ≡ []
nothing_waits ws all v pushed none empty k = ap (λ l. waiting_at l k) pushed ∙ waiting_nothing ws v k none empty

-- ---- sort by sort
abbrev KindAt : List SortInfo → ℕ → Kind → Type 0
KindAt ss n k = IfSome (slice_get ss n) (λ (s : SortInfo). s.kind ≡ k)

pub marks_on : (ss : List SortInfo) (n : ℕ) (k : Kind) (marks marks' : List Bool) (mark : Bool) → n < length ss → KindAt ss n k → marks ≡ marks_at_once (take n ss) → marks' ≡ marks ++ mark ∷ [] → mark ≡ not (is_made k) → marks' ≡ marks_at_once (take (n + 1) ss)
marks_on ss n k marks marks' mark below kind so pushed is =
    pushed ∙ ap (λ l. l ++ mark ∷ []) so ∙ (λ i. marks_at_once (take n ss) ++ (is i) ∷ []) ∙ one_on ss n k below kind ∙ ap (λ m. marks_at_once (take m ss)) (let z : suc n ≡ n + 1 = omega arith in z)
  where
    one_on : (ss : List SortInfo) (n : ℕ) (k : Kind) → n < length ss → KindAt ss n k → marks_at_once (take n ss) ++ not (is_made k) ∷ [] ≡ marks_at_once (take (suc n) ss)
    one_on [] n k below kind = absurd (omega (arith, below))
    one_on (s ∷ ss) zero k below kind = ap (λ (d : Kind). not (is_made d) ∷ []) (sym kind)
    one_on (s ∷ ss) (suc n) k below kind = ap (λ l. not (is_made s.kind) ∷ l) (one_on ss n k (omega (arith, below)) kind)

pub candidates_on : (ss : List SortInfo) (n : ℕ) (k : Kind) (all all' : List Candidate) (funs : List FunId) → n < length ss → KindAt ss n k → all ≡ candidates_in (take n ss) → all' ≡ all ++ map from_start funs → funs ≡ constructors_of k → all' ≡ candidates_in (take (n + 1) ss)
candidates_on ss n k all all' funs below kind so pushed is =
    pushed ∙ ap (λ l. l ++ map from_start funs) so ∙ ap (λ l. candidates_in (take n ss) ++ map from_start l) is ∙ one_on ss n k below kind ∙ ap (λ m. candidates_in (take m ss)) (let z : suc n ≡ n + 1 = omega arith in z)
  where
    one_on : (ss : List SortInfo) (n : ℕ) (k : Kind) → n < length ss → KindAt ss n k → candidates_in (take n ss) ++ map from_start (constructors_of k) ≡ candidates_in (take (suc n) ss)
    one_on [] n k below kind = absurd (omega (arith, below))
    one_on (s ∷ ss) zero k below kind = ap (λ (d : Kind). map from_start (constructors_of d)) (sym kind) ∙ sym (append-nil (map from_start (constructors_of s.kind)))
    one_on (s ∷ ss) (suc n) k below kind = append_assoc (map from_start (constructors_of s.kind)) (candidates_in (take n ss)) (map from_start (constructors_of k)) ∙ ap (λ l. map from_start (constructors_of s.kind) ++ l) (one_on ss n k (omega (arith, below)) kind)

-- ---- a turn
module _ (g : Sig) (marks : List Bool) (ready : List SortId) (waiting : List (Vec Candidate)) (all rest : List Candidate) (c : Candidate) (front : all ≡ c ∷ rest) (was : IsSearch g marks ready waiting all) where
  at_head : IsCandidate g marks c
  at_head = was.candidates c (subst (λ (l : List Candidate). Contains l c) (sym front) (contains_head c rest))

  left_then : (f : FunId) → IsAmong all f → (c.fun ≡ f) ⊎ IsAmong rest f
  left_then f (x, has, is) = elim (contains_cons c x rest (subst (λ (l : List Candidate). Contains l x) front has)) [
    | inl same ↦ inl (ap (λ (y : Candidate). y.fun) same ∙ is)
    | inr later ↦ inr (x, later, is)
  ]

  left_later : (x : Candidate) → Contains rest x → IsCandidate g marks x
  left_later x has = was.candidates x (subst (λ (l : List Candidate). Contains l x) (sym front) (contains_tail c x rest has))

  -- the candidate waits for the sort at a place
  pub candidate_waits : (args : List SortId) (p : ℕ) (a : SortId) (ws : List (Vec Candidate)) (v : Vec Candidate) → ((e : Function) → slice_get g.functions c.fun.0 ≡ Some e → arguments_of e ≡ args) → AreMarkedUpTo marks args p → slice_get args p ≡ Some a → ¬ (IsMarked marks a.0) → a.0 < length waiting
      → ws ≡ set waiting a.0 v → v.items ≡ waiting_at waiting a.0 ++ record { fun = c.fun; known = p } ∷ [] → IsSearch g marks ready ws rest
  candidate_waits args p a ws v are known at unmarked below is items =
      let new : Candidate = record { fun = c.fun; known = p } in
      let here : waiting_at ws a.0 ≡ waiting_at waiting a.0 ++ new ∷ [] = ap (λ l. waiting_at l a.0) is ∙ waiting_set waiting a.0 v below ∙ items in
      let there : (k : ℕ) → k ≢ a.0 → waiting_at ws k ≡ waiting_at waiting k = λ k differs. ap (λ l. waiting_at l k) is ∙ waiting_elsewhere waiting a.0 k v differs in
      let kept : (k : ℕ) (x : Candidate) → Contains (waiting_at waiting k) x → Contains (waiting_at ws k) x = λ k x has. elim (same_or_not k a.0) [
        | inl same ↦ subst (λ (l : List Candidate). Contains l x) (ap (waiting_at ws) (sym same)) (subst (λ (l : List Candidate). Contains l x) (sym here) (Contains-append_left (waiting_at waiting a.0) (new ∷ []) x (subst (λ (n : ℕ). Contains (waiting_at waiting n) x) same has)))
        | inr differs ↦ subst (λ (l : List Candidate). Contains l x) (sym (there k differs)) has
      ] in
      let last : Contains (waiting_at ws a.0) new = subst (λ (l : List Candidate). Contains l new) (sym here) (Contains-push (waiting_at waiting a.0) new) in
      let arguments = are at_head.entry at_head.at in
      record {
        size = was.size;
        lists = ap length is ∙ length-set waiting a.0 v ∙ was.lists;
        sound = was.sound;
        at_once = was.at_once;
        ready_marked = was.ready_marked;
        waits = λ k x has. elim (same_or_not k a.0) [
          | inl same ↦ elim (Contains-push_cases (waiting_at waiting a.0) new x (subst (λ (l : List Candidate). Contains l x) (ap (waiting_at ws) same ∙ here) has)) [
            | inl old ↦ was.waits a.0 x old
            | inr is_new ↦ subst (IsCandidate g marks) is_new (record { entry = at_head.entry; at = at_head.at; place = at_head.place; constructs = at_head.constructs; known = subst (λ (l : List SortId). AreMarkedUpTo marks l p) (sym arguments) known })
          ]
          | inr differs ↦ was.waits k x (subst (λ (l : List Candidate). Contains l x) (there k differs) has)
        ];
        candidates = left_later;
        seen = λ s marked. elim (was.seen s marked) [
          | inl waits ↦ inl waits
          | inr none ↦ inr (there s.0 (λ e. unmarked (subst (IsMarked marks) e marked)) ∙ none)
        ];
        complete = λ f e k there_is con. elim (was.complete f e k there_is con) [
          | inl marked ↦ inl marked
          | inr (inl among) ↦ elim (left_then f among) [
            | inl same ↦ inr (inr (at_head.entry, a, subst (λ (x : FunId). slice_get g.functions x.0 ≡ Some at_head.entry) same at_head.at, contains_read (arguments_of at_head.entry) p a (ap (λ l. slice_get l p) arguments ∙ at), (new, last, same)))
            | inr later ↦ inr (inl later)
          ]
          | inr (inr (d, b, there_d, has, (x, in_it, fun))) ↦ inr (inr (d, b, there_d, has, (x, kept b.0 x in_it, fun)))
        ];
      }

  values_over : (ss : List SortId) → AreAllMarked marks ss → (vs : ConstructorValues) × AreValuesOf g vs ss
  values_over [] are = (no_value, tt)
  values_over (s ∷ ss) are =
      let first = was.sound s (are 0 s refl) in
      let later = values_over ss (λ k t at. are (suc k) t at) in
      (value_then first.0 later.0, (first.1, later.1))

  -- the candidate's sort is marked
  pub candidate_counts : (args : List SortId) (s : SortId) (marks' : List Bool) (ready' : List SortId) → ((e : Function) → slice_get g.functions c.fun.0 ≡ Some e → (arguments_of e ≡ args) × (e.result ≡ s)) → AreAllMarked marks args → s.0 < length marks → IsMarkedToo s marks ready marks' ready' → IsSearch g marks' ready' waiting rest
  candidate_counts args s marks' ready' are known below (inl (marked, same_marks, same_ready)) =
      let so : IsSearch g marks ready waiting rest = record {
        size = was.size;
        lists = was.lists;
        sound = was.sound;
        at_once = was.at_once;
        ready_marked = was.ready_marked;
        waits = was.waits;
        candidates = left_later;
        seen = was.seen;
        complete = λ f e k there_is con. elim (was.complete f e k there_is con) [
          | inl done ↦ inl done
          | inr (inl among) ↦ elim (left_then f among) [
            | inl same ↦ inl (subst (λ (t : SortId). IsMarked marks t.0) (sym (are e (subst (λ (x : FunId). slice_get g.functions x.0 ≡ Some e) (sym same) there_is)).1) marked)
            | inr later ↦ inr (inl later)
          ]
          | inr (inr waits) ↦ inr (inr waits)
        ];
      } in
      subst (λ (l : List Bool). IsSearch g l ready' waiting rest) (sym same_marks) (subst (λ (l : List SortId). IsSearch g marks l waiting rest) (sym same_ready) so)
  candidate_counts args s marks' ready' are known below (inr (unmarked, new_marks, new_ready)) =
      let keeps : (k : ℕ) → IsMarked marks k → IsMarked (set marks s.0 true) k = λ k. still_marked marks s.0 k below in
      let facts = are at_head.entry at_head.at in
      let vs = values_over (arguments_of at_head.entry) (subst (AreAllMarked marks) (sym facts.0) known) in
      let value : HasValue g s = (built c.fun vs.0, (at_head.place, subst (λ (t : SortId). IsConstructorAt g t at_head.place c.fun) facts.1 at_head.constructs, (at_head.entry, at_head.at, vs.1))) in
      let so : IsSearch g (set marks s.0 true) (ready ++ s ∷ []) waiting rest = record {
        size = length-set marks s.0 true ∙ was.size;
        lists = was.lists;
        sound = λ t marked. elim (marked_before marks s.0 t.0 marked) [ inl old ↦ was.sound t old | inr same ↦ subst (HasValue g) (sym (same_sort t s same)) value ];
        at_once = λ t i at plain. keeps t.0 (was.at_once t i at plain);
        ready_marked = λ t has. elim (Contains-push_cases ready s t has) [ inl old ↦ keeps t.0 (was.ready_marked t old) | inr same ↦ subst (λ (x : SortId). IsMarked (set marks s.0 true) x.0) same (marked_set marks s.0 below) ];
        waits = λ k x has. candidate_kept g marks (set marks s.0 true) x keeps (was.waits k x has);
        candidates = λ x has. candidate_kept g marks (set marks s.0 true) x keeps (left_later x has);
        seen = λ t marked. elim (marked_before marks s.0 t.0 marked) [
          | inl old ↦ elim (was.seen t old) [ inl has ↦ inl (Contains-append_left ready (s ∷ []) t has) | inr none ↦ inr none ]
          | inr same ↦ inl (subst (Contains (ready ++ s ∷ [])) (sym (same_sort t s same)) (Contains-push ready s))
        ];
        complete = λ f e k there_is con. elim (was.complete f e k there_is con) [
          | inl done ↦ inl (keeps e.result.0 done)
          | inr (inl among) ↦ elim (left_then f among) [
            | inl same ↦ inl (subst (λ (t : SortId). IsMarked (set marks s.0 true) t.0) (sym (are e (subst (λ (x : FunId). slice_get g.functions x.0 ≡ Some e) (sym same) there_is)).1) (marked_set marks s.0 below))
            | inr later ↦ inr (inl later)
          ]
          | inr (inr waits) ↦ inr (inr waits)
        ];
      } in
      subst (λ (l : List Bool). IsSearch g l ready' waiting rest) (sym new_marks) (subst (λ (l : List SortId). IsSearch g (set marks s.0 true) l waiting rest) (sym new_ready) so)

-- ---- what the turn has at hand
told_of : (g : Sig) (f : FunId) (P : Function → Type 0) → IfSome (slice_get g.functions f.0) P → (e : Function) → slice_get g.functions f.0 ≡ Some e → P e
told_of g f P told e at = subst (λ o. IfSome o P) at told

module _ (g : Sig) (stands : IsSignature g) (marks : List Bool) (c : Candidate) (is : IsCandidate g marks c) (size : length marks ≡ length g.sorts) where
  pub candidate_stands : c.fun.0 < length g.functions
  candidate_stands = slice_get_within g.functions c.fun.0 is.entry is.at

  sorts_within : HasSortsIn g.sorts is.entry
  sorts_within = holds_at (HasSortsIn g.sorts) g.functions c.fun.0 is.entry stands.table.within is.at

  pub arguments_are_marks : (args : List SortId) → IfSome (slice_get g.functions c.fun.0) (λ f. arguments_of f ≡ args) → All (λ (a : SortId). a.0 < length marks) args
  arguments_are_marks args told = subst (All (λ (a : SortId). a.0 < length marks)) (told_of g c.fun (λ f. arguments_of f ≡ args) told is.entry is.at) (by_flag is.entry.is_list_constant)
    where
      by_flag : (b : Bool) → All (λ (a : SortId). a.0 < length marks) (cond b [] is.entry.sorts)
      by_flag true = All-nil (λ (a : SortId). a.0 < length marks)
      by_flag false = All-weaker (λ (a : SortId). a.0 < length g.sorts) (λ (a : SortId). a.0 < length marks) (λ a l. omega (arith, l, size)) is.entry.sorts sorts_within.0

  pub known_arguments : (args : List SortId) → IfSome (slice_get g.functions c.fun.0) (λ f. arguments_of f ≡ args) → AreMarkedUpTo marks args c.known
  known_arguments args told = subst (λ (l : List SortId). AreMarkedUpTo marks l c.known) (told_of g c.fun (λ f. arguments_of f ≡ args) told is.entry is.at) is.known

  pub result_is_mark : (s : SortId) → IfSome (slice_get g.functions c.fun.0) (λ f. f.result ≡ s) → s.0 < length marks
  result_is_mark s told = omega (arith, size, sorts_within.1, ap (λ (x : SortId). x.0) (told_of g c.fun (λ f. f.result ≡ s) told is.entry is.at))

pub entry_told : (g : Sig) (f : FunId) (args : List SortId) → IfSome (slice_get g.functions f.0) (λ x. arguments_of x ≡ args) → (e : Function) → slice_get g.functions f.0 ≡ Some e → arguments_of e ≡ args
entry_told g f args told = told_of g f (λ x. arguments_of x ≡ args) told

pub both_told : (g : Sig) (f : FunId) (args : List SortId) (s : SortId) → IfSome (slice_get g.functions f.0) (λ x. arguments_of x ≡ args) → IfSome (slice_get g.functions f.0) (λ x. x.result ≡ s) → (e : Function) → slice_get g.functions f.0 ≡ Some e → (arguments_of e ≡ args) × (e.result ≡ s)
both_told g f args s told gives e at = (told_of g f (λ x. arguments_of x ≡ args) told e at, told_of g f (λ x. x.result ≡ s) gives e at)

-- the candidate of a place, in front of those behind
pub first_left : (cs : List Candidate) (i : ℕ) (d : Candidate) → i < length cs → drop i cs ≡ get_or cs i d ∷ drop (i + 1) cs
first_left cs i d l = rw (add-one, drop-cons cs i d) refl

pub first_is : (g : Sig) (marks : List Bool) (ready : List SortId) (waiting : List (Vec Candidate)) (cs : List Candidate) (i : ℕ) (d : Candidate) → i < length cs → IsSearch g marks ready waiting (drop i cs) → IsCandidate g marks (get_or cs i d)
first_is g marks ready waiting cs i d l was = was.candidates (get_or cs i d) (subst (λ (k : List Candidate). Contains k (get_or cs i d)) (sym (first_left cs i d l)) (contains_head (get_or cs i d) (drop (i + 1) cs)))

pub none_left : (cs : List Candidate) (i : ℕ) → length cs ≤ i → drop i cs ≡ []
none_left [] zero l = refl
none_left [] (suc i) l = refl
none_left (c ∷ cs) zero l = absurd (omega (arith, l))
none_left (c ∷ cs) (suc i) l = none_left cs i (omega (arith, l))

-- what is left to do falls by no turn of a candidate
pub same_left : (s : SortId) (marks : List Bool) (ready : List SortId) (marks' : List Bool) (ready' : List SortId) → s.0 < length marks → IsMarkedToo s marks ready marks' ready' → unmarked_count marks' + length ready' ≡ unmarked_count marks + length ready
same_left s marks ready marks' ready' below (inl (marked, same_marks, same_ready)) = omega (arith, ap unmarked_count same_marks, ap length same_ready)
same_left s marks ready marks' ready' below (inr (unmarked, new_marks, new_ready)) = omega (arith, ap unmarked_count new_marks, ap length new_ready, length-append ready (s ∷ []), one_mark_more marks s.0 below unmarked)

-- a ready sort is taken, with the candidates that wait for it
pub sort_taken : (g : Sig) (marks : List Bool) (front all : List SortId) (s : SortId) (waiting ws : List (Vec Candidate)) (v : Vec Candidate) → all ≡ front ++ s ∷ [] → IsSearch g marks all waiting [] → s.0 < length waiting → ws ≡ set waiting s.0 v → v.items ≡ [] → IsSearch g marks front ws (waiting_at waiting s.0)
sort_taken g marks front all s waiting ws v is was below new none =
    let here : waiting_at ws s.0 ≡ [] = ap (λ l. waiting_at l s.0) new ∙ waiting_set waiting s.0 v below ∙ none in
    let there : (k : ℕ) → k ≢ s.0 → waiting_at ws k ≡ waiting_at waiting k = λ k differs. ap (λ l. waiting_at l k) new ∙ waiting_elsewhere waiting s.0 k v differs in
    record {
      size = was.size;
      lists = ap length new ∙ length-set waiting s.0 v ∙ was.lists;
      sound = was.sound;
      at_once = was.at_once;
      ready_marked = λ t has. was.ready_marked t (subst (λ (l : List SortId). Contains l t) (sym is) (Contains-append_left front (s ∷ []) t has));
      waits = λ k x has. elim (same_or_not k s.0) [
        | inl same ↦ absurd (contains_none x (subst (λ (l : List Candidate). Contains l x) (ap (waiting_at ws) same ∙ here) has))
        | inr differs ↦ was.waits k x (subst (λ (l : List Candidate). Contains l x) (there k differs) has)
      ];
      candidates = λ x has. was.waits s.0 x has;
      seen = λ t marked. elim (same_or_not t.0 s.0) [
        | inl same ↦ inr (ap (waiting_at ws) same ∙ here)
        | inr differs ↦ elim (was.seen t marked) [
          | inl has ↦ elim (Contains-push_cases front s t (subst (λ (l : List SortId). Contains l t) is has)) [ inl old ↦ inl old | inr last ↦ absurd (differs (ap (λ (x : SortId). x.0) (sym last))) ]
          | inr none_waits ↦ inr (there t.0 differs ∙ none_waits)
        ]
      ];
      complete = λ f e k there_is con. elim (was.complete f e k there_is con) [
        | inl done ↦ inl done
        | inr (inl (x, has, fun)) ↦ absurd (contains_none x has)
        | inr (inr (d, b, there_d, has, (x, in_it, fun))) ↦ elim (same_or_not b.0 s.0) [
          | inl same ↦ inr (inl (x, subst (λ (n : ℕ). Contains (waiting_at waiting n) x) same in_it, fun))
          | inr differs ↦ inr (inr (d, b, there_d, has, (x, subst (λ (l : List Candidate). Contains l x) (sym (there b.0 differs)) in_it, fun)))
        ]
      ];
    }

-- ---- the begin
module _ (g : Sig) (stands : IsSignature g) where
  in_constructors : (s : SortId) (k : ℕ) (f : FunId) (i : SortInfo) → is_made i.kind ≡ true → IsConstructorOf g s i.kind k f → Contains (constructors_of i.kind) f
  in_constructors s k f i made con = by_kind i.kind made con
    where
      by_kind : (d : Kind) → is_made d ≡ true → IsConstructorOf g s d k f → Contains (constructors_of d) f
      by_kind (by_declarations fs) m h = contains_read fs k f h
      by_kind (structured fs) m h = contains_read fs k f h
      by_kind booleans m h = cc
      by_kind positives m h = cc
      by_kind naturals m h = cc
      by_kind integers m h = cc
      by_kind (lists_over x) m h = cc
      by_kind without_constructors m h = cc

  -- a constructor of a sort with declared constructors gives the sort
  gives_sort : (s : SortId) (k : ℕ) (f : FunId) (e : Function) (i : SortInfo) → slice_get g.sorts s.0 ≡ Some i → is_made i.kind ≡ true → IsConstructorOf g s i.kind k f → slice_get g.functions f.0 ≡ Some e → e.result ≡ s
  gives_sort s k f e i at made con there =
      let kept = stands.roles.constructors s i f at (in_constructors s k f i made con) in
      ap (λ (x : Function). x.result) (one_function g f e kept.0 there kept.1) ∙ kept.3

  made_or_not : (b : Bool) → (b ≡ true) ⊎ (b ≡ false)
  made_or_not true = inl refl
  made_or_not false = inr refl

  candidate_in : (ss : List SortInfo) (k : ℕ) (i : SortInfo) (f : FunId) → slice_get ss k ≡ Some i → Contains (constructors_of i.kind) f → Contains (candidates_in ss) (from_start f)
  candidate_in [] k i f at has = cc
  candidate_in (x ∷ ss) zero i f at has =
      let same : i ≡ x = cc in
      Contains-append_left (map from_start (constructors_of x.kind)) (candidates_in ss) (from_start f) (contains_map from_start (constructors_of x.kind) f (subst (λ (y : SortInfo). Contains (constructors_of y.kind) f) same has))
  candidate_in (x ∷ ss) (suc k) i f at has = Contains-append_right (map from_start (constructors_of x.kind)) (candidates_in ss) (from_start f) (candidate_in ss k i f at has)

  of_a_sort : (ss : List SortInfo) (c : Candidate) → Contains (candidates_in ss) c → (k : ℕ) × (i : SortInfo) × (f : FunId) × (slice_get ss k ≡ Some i) × Contains (constructors_of i.kind) f × (c ≡ from_start f)
  of_a_sort [] c has = absurd (contains_none c has)
  of_a_sort (x ∷ ss) c has = elim (Contains-append_cases (map from_start (constructors_of x.kind)) (candidates_in ss) c has) [
    | inl here ↦ let f = contained_from_map from_start (constructors_of x.kind) c here in (0, x, f.0, refl, f.1, sym f.2)
    | inr later ↦ let r = of_a_sort ss c later in (suc r.0, r.1, r.2, r.3, r.4, r.5)
  ]

  marked_at_once : (ss : List SortInfo) (k : ℕ) (i : SortInfo) → slice_get ss k ≡ Some i → is_made i.kind ≡ false → IsMarked (marks_at_once ss) k
  marked_at_once [] k i at plain = cc
  marked_at_once (x ∷ ss) zero i at plain = let same : x ≡ i = cc in ap (λ (y : SortInfo). not (is_made y.kind)) same ∙ ap not plain
  marked_at_once (x ∷ ss) (suc k) i at plain = marked_at_once ss k i at plain

  plain_where_marked : (ss : List SortInfo) (k : ℕ) → IsMarked (marks_at_once ss) k → (i : SortInfo) × (slice_get ss k ≡ Some i) × (is_made i.kind ≡ false)
  plain_where_marked [] k marked = cc
  plain_where_marked (x ∷ ss) zero marked = (x, refl, by_test (is_made x.kind) marked)
    where
      by_test : (b : Bool) → not b ≡ true → b ≡ false
      by_test true e = cc
      by_test false e = refl
  plain_where_marked (x ∷ ss) (suc k) marked = plain_where_marked ss k marked

  length_marks : (ss : List SortInfo) → length (marks_at_once ss) ≡ length ss
  length_marks [] = refl
  length_marks (x ∷ ss) = ap suc (length_marks ss)

  pub search_begun : (marks : List Bool) (ready : List SortId) (waiting : List (Vec Candidate)) (all : List Candidate) → marks ≡ marks_at_once g.sorts → ready ≡ [] → length waiting ≡ length marks → ((k : ℕ) → waiting_at waiting k ≡ []) → all ≡ candidates_in g.sorts → IsSearch g marks ready waiting all
  search_begun marks ready waiting all at_first none lists empty are =
      let told : (k : ℕ) → IsMarked marks k → IsMarked (marks_at_once g.sorts) k = λ k. subst (λ (l : List Bool). IsMarked l k) at_first in
      let plain : (s : SortId) (i : SortInfo) → slice_get g.sorts s.0 ≡ Some i → is_made i.kind ≡ false → IsMarked marks s.0 = λ s i at p. subst (λ (l : List Bool). IsMarked l s.0) (sym at_first) (marked_at_once g.sorts s.0 i at p) in
      record {
        size = ap length at_first ∙ length_marks g.sorts;
        lists = lists ∙ ap length at_first ∙ length_marks g.sorts;
        sound = λ s marked. (let p = plain_where_marked g.sorts s.0 (told s.0 marked) in value_where_not_made g stands s p.0 p.1 p.2);
        at_once = plain;
        ready_marked = λ s has. absurd (contains_none s (subst (λ (l : List SortId). Contains l s) none has));
        waits = λ k c has. absurd (contains_none c (subst (λ (l : List Candidate). Contains l c) (empty k) has));
        candidates = λ c has. (
            let r = of_a_sort g.sorts c (subst (λ (l : List Candidate). Contains l c) are has) in
            let s : SortId = record { 0 = r.0 } in
            let kept = stands.roles.constructors s r.1 r.2 r.3 r.4 in
            let place = constructor_place g stands s r.1 r.2 r.4 in
            let con : IsConstructorAt g kept.0.result place.0 r.2 = subst (λ (t : SortId). IsConstructorAt g t place.0 r.2) (sym kept.3) (r.1, r.3, place.1) in
            let first : IsCandidate g marks (from_start r.2) = record { entry = kept.0; at = kept.1; place = place.0; constructs = con; known = λ k t l a. absurd (omega (arith, l)) } in
            subst (IsCandidate g marks) (sym r.5) first
            );
        seen = λ s marked. inr (empty s.0);
        complete = λ f e k there con. elim (made_or_not (is_made con.0.kind)) [
          | inl made ↦ inr (inl (from_start f, subst (λ (l : List Candidate). Contains l (from_start f)) (sym are) (candidate_in g.sorts e.result.0 con.0 f con.1 (in_constructors e.result k f con.0 made con.2)), refl))
          | inr not_made ↦ inl (plain e.result con.0 con.1 not_made)
        ];
      }

  -- ---- the end
  module _ (marks : List Bool) (waiting : List (Vec Candidate)) (was : IsSearch g marks [] waiting []) where
    numbered_at : (n : ℕ) (d : Kind) → is_made d ≡ false → (i : SortInfo) × (slice_get g.sorts n ≡ Some i) × (i.kind ≡ d) → (s : SortId) → s.0 ≡ n → IsMarked marks s.0
    numbered_at n d plain h s is = was.at_once s h.0 (ap (slice_get g.sorts) is ∙ h.1) (ap is_made h.2 ∙ plain)

    mutual
      value_marked : (v : ConstructorValue) (s : SortId) → IsValueOf g v s → IsMarked marks s.0
      value_marked (a_number a z) s (same, has) = elim has.0 [
        | inl (is, z_is) ↦ numbered_at 1 positives refl ((stands.table.sorts.positive_second 1).1 refl) s (ap (λ (x : SortId). x.0) is)
        | inr (inl (is, z_is)) ↦ numbered_at 2 naturals refl ((stands.table.sorts.natural_third 2).1 refl) s (ap (λ (x : SortId). x.0) is)
        | inr (inr is) ↦ numbered_at 3 integers refl ((stands.table.sorts.integer_fourth 3).1 refl) s (ap (λ (x : SortId). x.0) is)
      ]
      value_marked (a_constant d) s (same, (i, at, is)) = was.at_once s i at (ap is_made is)
      value_marked (built f vs) s (k, (i, at, con), (e, there, are)) =
          let marked = values_marked vs (arguments_of e) are in
          elim (made_or_not (is_made i.kind)) [
            | inr plain ↦ was.at_once s i at plain
            | inl made ↦
                let same : e.result ≡ s = gives_sort s k f e i at made con there in
                let done : IsMarked marks e.result.0 = elim (was.complete f e k there (subst (λ (t : SortId). IsConstructorAt g t k f) (sym same) (i, at, con))) [
                  | inl done ↦ done
                  | inr (inl (x, has, fun)) ↦ absurd (contains_none x has)
                  | inr (inr (d, b, there_d, has, (x, in_it, fun))) ↦
                      let place = read_contained (arguments_of d) b has in
                      let its : slice_get (arguments_of e) place.0 ≡ Some b = ap (λ (y : Function). slice_get (arguments_of y) place.0) (one_function g f e d there there_d) ∙ place.1 in
                      elim (was.seen b (marked place.0 b its)) [
                        | inl wrong ↦ absurd (contains_none b wrong)
                        | inr none ↦ absurd (contains_none x (subst (λ (l : List Candidate). Contains l x) none in_it))
                      ]
                ] in
                subst (λ (t : SortId). IsMarked marks t.0) same done
          ]

      values_marked : (vs : ConstructorValues) (ss : List SortId) → AreValuesOf g vs ss → AreAllMarked marks ss
      values_marked no_value [] are k s at = cc
      values_marked no_value (t ∷ ss) are k s at = absurd are
      values_marked (value_then v vs) [] are k s at = absurd are
      values_marked (value_then v vs) (t ∷ ss) are zero s at = let same : t ≡ s = cc in subst (λ (x : SortId). IsMarked marks x.0) same (value_marked v t are.0)
      values_marked (value_then v vs) (t ∷ ss) are (suc k) s at = values_marked vs ss are.1 k s at

    search_over : AreInhabited g marks
    search_over = record { size = was.size; exact = λ s. (was.sound s, λ has. value_marked has.0 s has.1) }

  pub search_ended : (marks : List Bool) (ready : List SortId) (waiting : List (Vec Candidate)) → ready ≡ [] → IsSearch g marks ready waiting [] → AreInhabited g marks
  search_ended marks ready waiting none was = search_over marks waiting (subst (λ (l : List SortId). IsSearch g marks l waiting []) none was)

-- ---- the ready sorts
pub taken_below : (g : Sig) (marks : List Bool) (front all : List SortId) (s : SortId) (waiting : List (Vec Candidate)) → all ≡ front ++ s ∷ [] → IsSearch g marks all waiting [] → s.0 < length waiting
taken_below g marks front all s waiting is was =
    let below = marked_below marks s.0 (was.ready_marked s (subst (λ (l : List SortId). Contains l s) (sym is) (Contains-push front s))) in
    omega (arith, below, was.size, was.lists)

pub no_sort_left : (ready : List SortId) → (0 < length ready → ⊥) → ready ≡ []
no_sort_left [] none = refl
no_sort_left (s ∷ ss) none = absurd (none (omega arith))
