-- The terms that parts make in a pool.
use Rattle.std.proofs.Common.{◌≡◌, ◌<◌, ◌≤◌, ◌+◌, ◌-◌, ℕ, zero, suc, List, [], ◌∷◌, ◌++◌, length, map, take, drop, get_or, refl, sym, subst, ap, ◌∙◌, arith, length-append, append-nil}
use Rattle.std.specs.Prelude.{Option, Some, pos}
use Rattle.std.specs.List.{All}
use Rattle.std.proofs.lemmas.List.{append_assoc, take_more, get_or_append_left, length-map, map-append}
use Rattle.std.proofs.lemmas.List.Elements.{All-append, All-nil, All-cons, All-head, All-tail}
use Rattle.data_theory.specs.declared.ids.FunId.{FunId}
use Rattle.data_theory.specs.declared.ids.TermId.{TermId}
use Rattle.data_theory.specs.Terms.{Symbol, Term, Terms, apply}
use Rattle.data_theory.specs.Terms as terms
use Rattle.data_theory.specs.Signature.{Sig}
use Rattle.data_theory.specs.IdTrees.{Tree, trees_of, apply_tree}
use Rattle.data_theory.specs.IdTerms.{sort_under, symbol_under, term_under, terms_under, IsGrown}
use Rattle.data_theory.specs.IdTables.{IsTable}
use Rattle.data_theory.proofs.IdTermLemmas.{merging_trees_merges_terms}
use Rattle.data_theory.proofs.IdSymbolLemmas.{natural_is, positive_is, growth_keeps_meant_symbols}
use Rattle.data_theory.specs.Table.{nat_sort, pos_sort}
use Rattle.data_typing.specs.Typings.{least_sort}
use Rattle.term_pool.specs.HeadTrees.{no_tree, tree_at, trees_at, IsIn}
use Rattle.term_pool.specs.Pools.{Extends}
use Rattle.data_typing.specs.declared.steps.Step.{Step}
use Rattle.data_typing.specs.declared.making.Part.{Part}
use Rattle.data_typing.specs.declared.making.Part.TheVariants as parts
use Rattle.data_typing.specs.Making.{Item, leaf, over, terms_of, Joins, Turns, Make}
use Rattle.data_typing.specs.CodeSteps.{item_of, items_of, AreSteps}
use Rattle.data_typing.specs.CodeParts.{part_item, part_items, needed, term_at, IsPartWithin, MakeOne}

-- ---- lists
append_same : {A : Type 0} (xs us ys vs : List A) → xs ++ us ≡ ys ++ vs → length us ≡ length vs → (xs ≡ ys) × (us ≡ vs)
append_same [] us [] vs e l = (refl, e)
append_same [] us (y ∷ ys) vs e l =
    let long : length us ≡ length ((y ∷ ys) ++ vs) = ap length e in
    let both = length-append (y ∷ ys) vs in
    absurd (let never : ⊥ = omega (arith, long, both, l) in never)
append_same (x ∷ xs) us [] vs e l =
    let long : length ((x ∷ xs) ++ us) ≡ length vs = ap length e in
    let both = length-append (x ∷ xs) us in
    absurd (let never : ⊥ = omega (arith, long, both, l) in never)
append_same (x ∷ xs) us (y ∷ ys) vs e l =
    let first : x ≡ y = cc in
    let rest : xs ++ us ≡ ys ++ vs = cc in
    let (fronts, lasts) = append_same xs us ys vs rest l in
    (ap (λ z. z ∷ xs) first ∙ ap (λ zs. y ∷ zs) fronts, lasts)

split_map : {A B : Type 0} (f : A → B) (n : ℕ) (xs : List A) → map f xs ≡ map f (take n xs) ++ map f (drop n xs)
split_map f zero xs = refl
split_map f (suc n) [] = refl
split_map f (suc n) (x ∷ xs) = ap (λ ys. f x ∷ ys) (split_map f n xs)

dropped : {A B : Type 0} (f : A → B) (n : ℕ) (xs : List A) → n ≤ length xs → length (map f (drop n xs)) + n ≡ length xs
dropped f zero [] h = refl
dropped f zero (x ∷ xs) h = let rest = dropped f zero xs (omega arith) in let same : length (map f xs) + 0 ≡ length xs = rest in omega (arith, same)
dropped f (suc n) [] h = let never : ⊥ = omega (arith, h) in absurd never
dropped f (suc n) (x ∷ xs) h = let rest : length (map f (drop n xs)) + n ≡ length xs = dropped f n xs (omega (arith, h)) in omega (arith, rest)

-- ---- pools
kept_at : (g : Sig) (old new : List Tree) → Extends old new → (id : TermId) → IsIn old id → term_at g new id ≡ term_at g old id
kept_at g old new (more, e) id h = ap (λ (ts : List Tree). term_under g (tree_at ts id)) e ∙ ap (term_under g) (get_or_append_left old more no_tree id.0 h)

all_kept : (g : Sig) (old new : List Tree) → Extends old new → (ids : List TermId) → All (IsIn old) ids → map (term_at g new) ids ≡ map (term_at g old) ids
all_kept g old new x [] h = refl
all_kept g old new x (id ∷ ids) h = ap (λ t. t ∷ map (term_at g new) ids) (kept_at g old new x id (All-head (IsIn old) id ids h)) ∙ ap (λ ts. term_at g old id ∷ ts) (all_kept g old new x ids (All-tail (IsIn old) id ids h))

terms_are : (g : Sig) (ts : List Tree) (ids : List TermId) → terms_under g (trees_of (trees_at ts ids)) ≡ terms_of (map (term_at g ts) ids)
terms_are g ts [] = refl
terms_are g ts (id ∷ ids) = ap (terms.more (term_at g ts id)) (terms_are g ts ids)

-- one more term behind those that are made
pub pushed_term : (g : Sig) (old new : List Tree) → Extends old new → (ids made : List TermId) → All (IsIn old) ids → (id : TermId) → made ≡ ids ++ id ∷ [] → (t : Term) → term_at g new id ≡ t
    → map (term_at g new) made ≡ map (term_at g old) ids ++ t ∷ []
pushed_term g old new x ids made h id e t is =
    ap (map (term_at g new)) e ∙ map-append (term_at g new) ids (id ∷ []) ∙ ap (λ l. l ++ term_at g new id ∷ []) (all_kept g old new x ids h) ∙ ap (λ u. map (term_at g old) ids ++ u ∷ []) is

All-taken : {A : Type 0} (P : A → Type 0) (n : ℕ) (xs : List A) → All P xs → All P (take n xs)
All-taken P zero xs h = All-nil P
All-taken P (suc n) [] h = All-nil P
All-taken P (suc n) (x ∷ xs) h = All-cons P x (take n xs) (All-head P x xs h) (All-taken P n xs (All-tail P x xs h))

pub All-dropped : {A : Type 0} (P : A → Type 0) (n : ℕ) (xs : List A) → All P xs → All P (drop n xs)
All-dropped P zero xs h = h
All-dropped P (suc n) [] h = All-nil P
All-dropped P (suc n) (x ∷ xs) h = All-dropped P n xs (All-tail P x xs h)

-- the last terms under a function
pub joined_terms : (g : Sig) → IsTable g → (f : FunId) (n : ℕ) (old new : List Tree) → Extends old new → (ids made : List TermId) → All (IsIn old) ids → n ≤ length ids → (id : TermId)
    → made ≡ take (length ids - n) ids ++ id ∷ [] → tree_at new id ≡ apply_tree f (trees_of (trees_at old (drop (length ids - n) ids))) → Joins (symbol_under g f) n (map (term_at g old) ids) (map (term_at g new) made)
joined_terms g table f n old new x ids made h enough id e is =
    let args : List TermId = drop (length ids - n) ids in
    let rest : List TermId = take (length ids - n) ids in
    let long : length (map (term_at g old) args) + (length ids - n) ≡ length ids = dropped (term_at g old) (length ids - n) ids (omega arith) in
    record {
      front = map (term_at g old) rest;
      last = map (term_at g old) args;
      are = split_map (term_at g old) (length ids - n) ids;
      many = omega (arith, long, enough);
      become =
          pushed_term g old new x rest made (All-taken (IsIn old) (length ids - n) ids h) id e (apply (symbol_under g f) (terms_of (map (term_at g old) args)))
          (ap (term_under g) is ∙ merging_trees_merges_terms g table f (trees_of (trees_at old args)) ∙ ap (apply (symbol_under g f)) (terms_are g old args));
    }

-- ---- parts
one_turn : (i : Item) (xs ys zs : List Term) → Turns i xs ys → Turns i xs zs → ys ≡ zs
one_turn (leaf t) xs ys zs h k = h ∙ sym k
one_turn (over f n) xs ys zs h k =
    let (fronts, lasts) = append_same h.front h.last k.front k.last (sym h.are ∙ k.are) (h.many ∙ sym k.many) in
    h.become ∙ ap (λ us. us ++ apply f (terms_of h.last) ∷ []) fronts ∙ ap (λ us. k.front ++ apply f (terms_of us) ∷ []) lasts ∙ sym k.become

popped : (hs : List Item) (h : Item) (xs ys : List Term) → Make (hs ++ h ∷ []) xs ys → (ws : List Term) × Turns h xs ws × Make hs ws ys
popped [] h xs ys (us, m, k) = (ys, subst (λ l. Turns h l ys) (sym m) k, refl)
popped (i ∷ hs) h xs ys (us, m, k) = let (ws, t, n) = popped hs h xs us m in (ws, t, (us, n, k))

pub part_made : (g : Sig) (all ps : List Part) (p : Part) → all ≡ ps ++ p ∷ [] → (us vs : List Term) (t : Term) → Make (part_items g all) us (t ∷ []) → Turns (part_item g p) us vs → Make (part_items g ps) vs (t ∷ [])
part_made g all ps p e us vs t m turns =
    let (ws, k, rest) = popped (part_items g ps) (part_item g p) us (t ∷ []) (subst (λ l. Make l us (t ∷ [])) (ap (part_items g) e ∙ map-append (part_item g) ps (p ∷ [])) m) in
    subst (λ l. Make (part_items g ps) l (t ∷ [])) (one_turn (part_item g p) us ws vs k turns) rest

enough_for : (g : Sig) (p : Part) (us ws : List Term) → Turns (part_item g p) us ws → needed p ≤ length us
enough_for g (parts.Variable v) us ws h = omega arith
enough_for g (parts.Numeral n) us ws h = omega arith
enough_for g (parts.Apply f n) us ws h = let long : length us ≡ length (h.front ++ h.last) = ap length h.are in let both = length-append h.front h.last in let many = h.many in omega (arith, long, both, many)

pub part_enough : (g : Sig) (ts : List Tree) (all ps : List Part) (p : Part) → all ≡ ps ++ p ∷ [] → (ids : List TermId) (t : Term) → Make (part_items g all) (map (term_at g ts) ids) (t ∷ []) → needed p ≤ length ids
part_enough g ts all ps p e ids t m =
    let (ws, k, rest) = popped (part_items g ps) (part_item g p) (map (term_at g ts) ids) (t ∷ []) (subst (λ l. Make l (map (term_at g ts) ids) (t ∷ [])) (ap (part_items g) e ∙ map-append (part_item g) ps (p ∷ [])) m) in
    let enough = enough_for g p (map (term_at g ts) ids) ws k in
    let long : length (map (term_at g ts) ids) ≡ length ids = length-map ids (term_at g ts) in
    omega (arith, enough, long)

-- ---- parts of steps
part_kept : (g h : Sig) → IsTable g → IsGrown g h → (p : Part) → IsPartWithin g p → part_item h p ≡ part_item g p
part_kept g h table grown (parts.Variable v) l = refl
part_kept g h table grown (parts.Numeral n) l = refl
part_kept g h table grown (parts.Apply f n) l = ap (λ s. over s n) (growth_keeps_meant_symbols g h table grown f l)

pub parts_kept : (g h : Sig) → IsTable g → IsGrown g h → (ps : List Part) → All (IsPartWithin g) ps → part_items h ps ≡ part_items g ps
parts_kept g h table grown [] all = refl
parts_kept g h table grown (p ∷ ps) all = ap (λ i. i ∷ part_items h ps) (part_kept g h table grown p (All-head (IsPartWithin g) p ps all)) ∙ ap (λ l. part_item g p ∷ l) (parts_kept g h table grown ps (All-tail (IsPartWithin g) p ps all))

pub functions_more : (g h : Sig) → IsGrown g h → (n : ℕ) → n < length g.functions → n < length h.functions
functions_more g h grown n l = let long = length-append g.functions grown.new_functions in let same : length h.functions ≡ length (g.functions ++ grown.new_functions) = ap length grown.functions in omega (arith, l, long, same)

pub part_within_on : (g h : Sig) → IsGrown g h → (p : Part) → IsPartWithin g p → IsPartWithin h p
part_within_on g h grown (parts.Variable v) l = tt
part_within_on g h grown (parts.Numeral n) l = tt
part_within_on g h grown (parts.Apply f n) l = functions_more g h grown f.0 l

pub parts_within_on : (g h : Sig) → IsGrown g h → (ps : List Part) → All (IsPartWithin g) ps → All (IsPartWithin h) ps
parts_within_on g h grown [] all = All-nil (IsPartWithin h)
parts_within_on g h grown (p ∷ ps) all = All-cons (IsPartWithin h) p ps (part_within_on g h grown p (All-head (IsPartWithin g) p ps all)) (parts_within_on g h grown ps (All-tail (IsPartWithin g) p ps all))

-- ---- what is made is what was wanted
pub make_once : (hs : List Item) (xs ys zs : List Term) → Make hs xs ys → Make hs xs zs → ys ≡ zs
make_once [] xs ys zs m k = sym m ∙ k
make_once (h ∷ hs) xs ys zs (us, m, t) (vs, k, u) = one_turn h us ys zs t (subst (λ l. Turns h l zs) (sym (make_once hs xs us vs m k)) u)

pub nothing_left : (g : Sig) (ts : List Tree) (ps : List Part) → ps ≡ [] → (ids : List TermId) (t : Term) → Make (part_items g ps) (map (term_at g ts) ids) (t ∷ []) → (id : TermId) × (ids ≡ id ∷ []) × (term_at g ts id ≡ t)
nothing_left g ts ps e ids t m = by_ids ids (subst (λ l. Make (part_items g l) (map (term_at g ts) ids) (t ∷ [])) e m)
  where
    by_ids : (js : List TermId) → map (term_at g ts) js ≡ t ∷ [] → (id : TermId) × (js ≡ id ∷ []) × (term_at g ts id ≡ t)
    by_ids [] q = cc
    by_ids (j ∷ []) q = (j, refl, cc)
    by_ids (j ∷ k ∷ js) q = cc

pub functions_no_fewer : (g h : Sig) → IsGrown g h → length g.functions ≤ length h.functions
functions_no_fewer g h grown = let long = length-append g.functions grown.new_functions in let same : length h.functions ≡ length (g.functions ++ grown.new_functions) = ap length grown.functions in omega (arith, long, same)

-- one more step has its number
pub parts_more : (g h : Sig) → IsTable g → IsGrown g h → (y : FunId → Symbol) (ps new : List Part) → All (IsPartWithin g) ps → (hs : List Step) (i : ℕ) → part_items g ps ≡ items_of y (take i hs) → (x : Step) → i < length hs → x ≡ get_or hs i x
    → (p : Part) → part_item h p ≡ item_of y x → new ≡ ps ++ p ∷ [] → part_items h new ≡ items_of y (take (i + 1) hs)
parts_more g h table grown y ps new within hs i so_far x l e p means q =
    ap (part_items h) q ∙ map-append (part_item h) ps (p ∷ []) ∙ ap (λ is. is ++ part_item h p ∷ []) (parts_kept g h table grown ps within ∙ so_far) ∙ ap (λ j. items_of y (take i hs) ++ j ∷ []) (means ∙ ap (item_of y) e)
    ∙ sym (ap (items_of y) (take_more hs i x l) ∙ map-append (item_of y) (take i hs) (get_or hs i x ∷ []))

pub parts_within : (g h : Sig) → IsGrown g h → (ps new : List Part) → All (IsPartWithin g) ps → (p : Part) → IsPartWithin h p → new ≡ ps ++ p ∷ [] → All (IsPartWithin h) new
parts_within g h grown ps new within p l q = subst (All (IsPartWithin h)) (sym q) (All-append (IsPartWithin h) ps (p ∷ []) (parts_within_on g h grown ps within) (All-cons (IsPartWithin h) p [] l (All-nil (IsPartWithin h))))

-- the last part, and those in front of it
pub last_within : (g : Sig) (all ps : List Part) (p : Part) → all ≡ ps ++ p ∷ [] → All (IsPartWithin g) all → IsPartWithin g p
last_within g all ps p e h = by_front ps (subst (All (IsPartWithin g)) e h)
  where
    by_front : (qs : List Part) → All (IsPartWithin g) (qs ++ p ∷ []) → IsPartWithin g p
    by_front [] k = All-head (IsPartWithin g) p [] k
    by_front (q ∷ qs) k = by_front qs (All-tail (IsPartWithin g) q (qs ++ p ∷ []) k)

pub fronts_within : (g : Sig) (all ps : List Part) (p : Part) → all ≡ ps ++ p ∷ [] → All (IsPartWithin g) all → All (IsPartWithin g) ps
fronts_within g all ps p e h = by_front ps (subst (All (IsPartWithin g)) e h)
  where
    by_front : (qs : List Part) → All (IsPartWithin g) (qs ++ p ∷ []) → All (IsPartWithin g) qs
    by_front [] k = All-nil (IsPartWithin g)
    by_front (q ∷ qs) k = All-cons (IsPartWithin g) q qs (All-head (IsPartWithin g) q (qs ++ p ∷ []) k) (by_front qs (All-tail (IsPartWithin g) q (qs ++ p ∷ []) k))

in_more : (old new : List Tree) → Extends old new → (id : TermId) → IsIn old id → IsIn new id
in_more old new (more, e) id h = let long = length-append old more in let same : length new ≡ length (old ++ more) = ap length e in omega (arith, h, long, same)

all_in_more : (old new : List Tree) → Extends old new → (ids : List TermId) → All (IsIn old) ids → All (IsIn new) ids
all_in_more old new x [] all = All-nil (IsIn new)
all_in_more old new x (id ∷ ids) all = All-cons (IsIn new) id ids (in_more old new x id (All-head (IsIn old) id ids all)) (all_in_more old new x ids (All-tail (IsIn old) id ids all))

pub terms_within : (old new : List Tree) → Extends old new → (ids made : List TermId) → All (IsIn old) ids → (id : TermId) → IsIn new id → made ≡ ids ++ id ∷ [] → All (IsIn new) made
terms_within old new x ids made all id l q = subst (All (IsIn new)) (sym q) (All-append (IsIn new) ids (id ∷ []) (all_in_more old new x ids all) (All-cons (IsIn new) id [] l (All-nil (IsIn new))))

pub rest_within : (old new : List Tree) → Extends old new → (n : ℕ) (ids made : List TermId) → All (IsIn old) ids → (id : TermId) → IsIn new id → made ≡ take n ids ++ id ∷ [] → All (IsIn new) made
rest_within old new x n ids made all id l q = terms_within old new x (take n ids) made (All-taken (IsIn old) n ids all) id l q

pub zero_meant : (g : Sig) → IsTable g → (n : ℕ) → n ≡ 0 → terms.numeral (sort_under g nat_sort) (pos n) ≡ terms.numeral (least_sort n) (pos n)
zero_meant g table n e = ap (λ s. terms.numeral s (pos n)) (natural_is g table ∙ ap least_sort (sym e))

pub positive_meant : (g : Sig) → IsTable g → (n : ℕ) → 1 ≤ n → terms.numeral (sort_under g pos_sort) (pos n) ≡ terms.numeral (least_sort n) (pos n)
positive_meant g table zero h = let never : ⊥ = omega (arith, h) in absurd never
positive_meant g table (suc n) h = ap (λ s. terms.numeral s (pos (suc n))) (positive_is g table)

-- the slice from a place on, and what is left in front of it
pub joined_from : (g : Sig) → IsTable g → (f : FunId) (n : ℕ) (old new : List Tree) → Extends old new → (ids made : List TermId) → All (IsIn old) ids → n ≤ length ids → (id : TermId) (from : ℕ) → from ≡ length ids - n
    → (args rest : List TermId) → args ≡ drop from ids → rest ≡ take from ids → made ≡ rest ++ id ∷ [] → tree_at new id ≡ apply_tree f (trees_of (trees_at old args)) → Joins (symbol_under g f) n (map (term_at g old) ids) (map (term_at g new) made)
joined_from g table f n old new x ids made h enough id from e args rest a r m is =
    joined_terms g table f n old new x ids made h enough id (m ∙ ap (λ l. l ++ id ∷ []) (r ∙ ap (λ k. take k ids) e)) (is ∙ ap (λ l. apply_tree f (trees_of (trees_at old l))) (a ∙ ap (λ k. drop k ids) e))

pub none_within : (ts : List Tree) (ids : List TermId) → ids ≡ [] → All (IsIn ts) ids
none_within ts ids e = subst (All (IsIn ts)) (sym e) (All-nil (IsIn ts))

pub extends_itself : (ts : List Tree) → Extends ts ts
extends_itself ts = ([], sym (append-nil ts))

pub extends_on : (a b c : List Tree) → Extends a b → Extends b c → Extends a c
extends_on a b c (m, e) (n, f) = (m ++ n, f ∙ ap (λ ts. ts ++ n) e ∙ append_assoc a m n)

pub one_left : (g : Sig) (ts : List Tree) (ps : List Part) → ps ≡ [] → (ids : List TermId) (t : Term) → Make (part_items g ps) (map (term_at g ts) ids) (t ∷ []) → 0 < length ids
one_left g ts ps e ids t m = let (id, is, same) = nothing_left g ts ps e ids t m in let long : length ids ≡ 1 = ap length is in omega (arith, long)

pub first_left : (g : Sig) (ts : List Tree) (ps : List Part) → ps ≡ [] → (ids : List TermId) (t : Term) → Make (part_items g ps) (map (term_at g ts) ids) (t ∷ []) → (id : TermId) → id ≡ get_or ids 0 id → term_at g ts id ≡ t
first_left g ts ps e ids t m id first =
    let (j, is, same) = nothing_left g ts ps e ids t m in
    ap (term_at g ts) (first ∙ ap (λ js. get_or js 0 id) is) ∙ same

rest_all : {A : Type 0} (n : ℕ) (xs : List A) → length xs ≤ n → take n xs ≡ xs
rest_all zero [] h = refl
rest_all zero (x ∷ xs) h = let never : ⊥ = omega (arith, h) in absurd never
rest_all (suc n) [] h = refl
rest_all (suc n) (x ∷ xs) h = ap (λ l. x ∷ l) (rest_all n xs (omega (arith, h)))

drop_long : {A : Type 0} (k : ℕ) (xs : List A) → length (drop k xs) ≤ length xs - k
drop_long zero [] = omega arith
drop_long zero (x ∷ xs) = omega arith
drop_long (suc k) [] = omega arith
drop_long (suc k) (x ∷ xs) = let rest : length (drop k xs) ≤ length xs - k = drop_long k xs in omega (arith, rest)

pub slice_from : {A : Type 0} (k : ℕ) (xs ys : List A) → xs ≡ ys → take (length xs - k) (drop k xs) ≡ drop k ys
slice_from k xs ys e = rest_all (length xs - k) (drop k xs) (drop_long k xs) ∙ ap (drop k) e

pub first_within : (ts : List Tree) (ids : List TermId) → All (IsIn ts) ids → 0 < length ids → (id : TermId) → id ≡ get_or ids 0 id → IsIn ts id
first_within ts ids all some id e = subst (IsIn ts) (sym e) (all 0 id some)

-- ---- expressions
module _ (y : FunId → Symbol) (g : Sig) (want : Option Term) (hs ks : List Step) (same : ks ≡ hs) (ps : List Part) (mean : part_items g ps ≡ items_of y ks) (s : AreSteps y (Some hs) want) where
  pub ready : MakeOne g ps []
  ready = (s.0, subst (λ l. Make l [] (s.0 ∷ [])) (sym (mean ∙ ap (items_of y) same)) s.2)

  pub wanted_made : (t : Term) → Make (part_items g ps) [] (t ∷ []) → Some t ≡ want
  wanted_made t m =
      let both : t ∷ [] ≡ s.0 ∷ [] = make_once (part_items g ps) [] (t ∷ []) (s.0 ∷ []) m (subst (λ l. Make l [] (s.0 ∷ [])) (sym (mean ∙ ap (items_of y) same)) s.2) in
      let one : t ≡ s.0 = cc in
      ap Some one ∙ sym s.1
