-- Sorts and functions over so many declared sorts and so many functions.
use Rattle.std.proofs.Common.{◌≡◌, ◌<◌, ◌≤◌, ℕ, zero, suc, Bool, true, false, List, [], ◌∷◌, ◌++◌, map, length, get_or, refl, sym, subst, ap, ◌∙◌, arith}
use Rattle.std.specs.Prelude.{Option, Some, None, option_map, option_and_then, if◌then◌else◌}
use Rattle.std.specs.Option.{option_or}
use Rattle.std.specs.List.{AllByRecursion}
use Rattle.data_theory.specs.Terms.{Sort, boolean, positive, natural, integer, list, named}
use Rattle.data_theory.specs.Declarations.{Data, IsSort}
use Rattle.data_typing.specs.declared.flat_sorts.Base.{Base}
use Rattle.data_typing.specs.declared.flat_sorts.Base.TheVariants as bases
use Rattle.data_typing.specs.declared.flat_sorts.FlatSort.{FlatSort}
use Rattle.data_typing.specs.declared.flat_sorts.SortPlace.{SortPlace}
use Rattle.data_typing.specs.declared.flat_sorts.SortPlace.TheVariants as places
use Rattle.data_typing.specs.declared.nodes.Callee.{Callee}
use Rattle.data_typing.specs.declared.nodes.Callee.TheVariants as callees
use Rattle.data_typing.specs.declared.nodes.Overload.{Overload}
use Rattle.data_typing.specs.declared.nodes.AnyOverload.{AnyOverload}
use Rattle.data_typing.specs.declared.nodes.Kind.{Kind}
use Rattle.data_typing.specs.declared.nodes.Kind.TheVariants as kinds
use Rattle.data_typing.specs.declared.nodes.Node.{Node}
use Rattle.data_typing.specs.Typings.{Place, itself, elements, settled, over, read_off, wider, fits, first_of, least_sort}
use Rattle.data_typing.specs.Sortings.{Sorting, Profile, AnyProfile, no_sorting, result_where, result_over, result_by, first_told, first_exact_sort, first_fitting_sort, first_candidate_sort, all_same, all_check, all_check_over, call_sort, widest_sort_from, widest_sort, each_checks}
use Rattle.data_typing.specs.Plans.{Plan, exact, fitting, over_sort, place_where, sort_by, sort_where_all_check, first_sort, call_plan}
use Rattle.data_typing.specs.FlatSorts.{base_sort, lists, flat_sort, place_of}
use Rattle.data_typing.specs.Nodes.{profile_of, any_profile_of, kind_sorting, values_at, values_behind, sorting_at, sortings_at, sortings, AreKnown}
use Rattle.data_typing.specs.Within.{IsBaseWithin, IsFlatWithin, IsCallee, IsOverloadWithin, IsPlaceWithin, IsAnyWithin, IsSomeAnyWithin, IsKindWithin, AreNodesWithin}

-- ---- sorts
abbrev pub IsSortWithin : ℕ → Sort → Type 0
IsSortWithin n boolean = Unit {0}
IsSortWithin n positive = Unit {0}
IsSortWithin n natural = Unit {0}
IsSortWithin n integer = Unit {0}
IsSortWithin n (list s) = IsSortWithin n s
IsSortWithin n (named d) = d < n

base_there : (n : ℕ) (b : Base) → IsBaseWithin n b → IsSortWithin n (base_sort b)
base_there n bases.Bool h = tt
base_there n bases.Pos h = tt
base_there n bases.Nat h = tt
base_there n bases.Int h = tt
base_there n (bases.Named d) h = h

base_back : (n : ℕ) (b : Base) → IsSortWithin n (base_sort b) → IsBaseWithin n b
base_back n bases.Bool h = tt
base_back n bases.Pos h = tt
base_back n bases.Nat h = tt
base_back n bases.Int h = tt
base_back n (bases.Named d) h = h

lists_there : (n k : ℕ) (s : Sort) → IsSortWithin n s → IsSortWithin n (lists k s)
lists_there n zero s h = h
lists_there n (suc k) s h = lists_there n k s h

lists_back : (n k : ℕ) (s : Sort) → IsSortWithin n (lists k s) → IsSortWithin n s
lists_back n zero s h = h
lists_back n (suc k) s h = lists_back n k s h

pub flat_there : (n : ℕ) (f : FlatSort) → IsFlatWithin n f → IsSortWithin n (flat_sort f)
flat_there n f h = lists_there n f.depth (base_sort f.base) (base_there n f.base h)

pub flat_back : (n : ℕ) (f : FlatSort) → IsSortWithin n (flat_sort f) → IsFlatWithin n f
flat_back n f h = base_back n f.base (lists_back n f.depth (base_sort f.base) h)

pub sort_there : (d : Data) (s : Sort) → IsSort d s → IsSortWithin (length d.sorts) s
sort_there d boolean h = tt
sort_there d positive h = tt
sort_there d natural h = tt
sort_there d integer h = tt
sort_there d (list s) h = sort_there d s h
sort_there d (named k) h = h

pub sort_back : (d : Data) (s : Sort) → IsSortWithin (length d.sorts) s → IsSort d s
sort_back d boolean h = tt
sort_back d positive h = tt
sort_back d natural h = tt
sort_back d integer h = tt
sort_back d (list s) h = sort_back d s h
sort_back d (named k) h = h

pub sort_more : (n m : ℕ) → n ≤ m → (s : Sort) → IsSortWithin n s → IsSortWithin m s
sort_more n m le boolean h = tt
sort_more n m le positive h = tt
sort_more n m le natural h = tt
sort_more n m le integer h = tt
sort_more n m le (list s) h = sort_more n m le s h
sort_more n m le (named d) h = omega (arith, le, h)

pub flat_more : (n m : ℕ) → n ≤ m → (f : FlatSort) → IsFlatWithin n f → IsFlatWithin m f
flat_more n m le f h = flat_back m f (sort_more n m le (flat_sort f) (flat_there n f h))

-- ---- places
pub over_there : (n : ℕ) (s : FlatSort) (p : SortPlace) → IsFlatWithin n s → IsPlaceWithin n p → IsSortWithin n (over (flat_sort s) (place_of p))
over_there n s places.Itself h k = flat_there n s h
over_there n s places.Elements h k = flat_there n s h
over_there n s (places.Settled r) h k = flat_there n r k

sorts_over_there : (n : ℕ) (s : FlatSort) → IsFlatWithin n s → (ps : List SortPlace) → AllByRecursion (IsPlaceWithin n) ps → (fs : List FlatSort) → map flat_sort fs ≡ map (λ p. over (flat_sort s) (place_of p)) ps → AllByRecursion (IsFlatWithin n) fs
sorts_over_there n s h [] all [] e = tt
sorts_over_there n s h [] all (f ∷ fs) e = cc
sorts_over_there n s h (p ∷ ps) all [] e = cc
sorts_over_there n s h (p ∷ ps) all (f ∷ fs) e =
    let first : flat_sort f ≡ over (flat_sort s) (place_of p) = cc in
    let rest : map flat_sort fs ≡ map (λ q. over (flat_sort s) (place_of q)) ps = cc in
    (flat_back n f (subst (IsSortWithin n) (sym first) (over_there n s p h all.0)), sorts_over_there n s h ps all.1 fs rest)

map_map : {A B C : Type 0} (f : B → C) (h : A → B) (xs : List A) → map f (map h xs) ≡ map (λ x. f (h x)) xs
map_map f h [] = refl
map_map f h (x ∷ xs) = ap (λ ys. f (h x) ∷ ys) (map_map f h xs)

-- a function over any sort, at a sort
pub overload_within : (n c : ℕ) (any : AnyOverload) (s : FlatSort) (f : Overload) → f.callee ≡ callees.BuiltIn any.word → map flat_sort f.arguments.items ≡ map (λ p. over (flat_sort s) (place_of p)) any.arguments.items
    → flat_sort f.result ≡ over (flat_sort s) (place_of any.result) → IsAnyWithin n any → IsFlatWithin n s → IsOverloadWithin n c f
overload_within n c any s f is args to h k = record {
  callee = subst (λ w. IsCallee c w (map flat_sort f.arguments.items) (flat_sort f.result)) (sym is) (record {
    at = flat_sort s;
    arguments = map place_of any.arguments.items;
    result = place_of any.result;
    row = h.row;
    sorts = args ∙ sym (map_map (over (flat_sort s)) place_of any.arguments.items);
    result_sort = to;
  });
  arguments = sorts_over_there n s k any.arguments.items h.arguments f.arguments.items args;
  result = flat_back n f.result (subst (IsSortWithin n) (sym to) (over_there n s any.result k h.result));
}

pub overload_same : (n c : ℕ) (f h : Overload) → h.callee ≡ f.callee → h.arguments.items ≡ f.arguments.items → h.result ≡ f.result → IsOverloadWithin n c f → IsOverloadWithin n c h
overload_same n c f h a b r k = record {
  callee = subst (λ w. IsCallee c w (map flat_sort h.arguments.items) (flat_sort h.result)) (sym a) (subst (λ ss. IsCallee c f.callee (map flat_sort ss) (flat_sort h.result)) (sym b) (subst (λ s. IsCallee c f.callee (map flat_sort f.arguments.items) (flat_sort s)) (sym r) k.callee));
  arguments = subst (AllByRecursion (IsFlatWithin n)) (sym b) k.arguments;
  result = subst (IsFlatWithin n) (sym r) k.result;
}

callee_more : (c e : ℕ) → c ≤ e → (k : Callee) (ss : List Sort) (to : Sort) → IsCallee c k ss to → IsCallee e k ss to
callee_more c e le (callees.Declared i) ss to h = omega (arith, le, h)
callee_more c e le (callees.BuiltIn w) ss to h = h

pub all_more : {A : Type 0} (P Q : A → Type 0) → ((x : A) → P x → Q x) → (xs : List A) → AllByRecursion P xs → AllByRecursion Q xs
all_more P Q f [] all = tt
all_more P Q f (x ∷ xs) all = (f x all.0, all_more P Q f xs all.1)

pub overload_more : (n m c e : ℕ) → n ≤ m → c ≤ e → (f : Overload) → IsOverloadWithin n c f → IsOverloadWithin m e f
overload_more n m c e le ce f h = record {
  callee = callee_more c e ce f.callee (map flat_sort f.arguments.items) (flat_sort f.result) h.callee;
  arguments = all_more (IsFlatWithin n) (IsFlatWithin m) (flat_more n m le) f.arguments.items h.arguments;
  result = flat_more n m le f.result h.result;
}

place_more : (n m : ℕ) → n ≤ m → (p : SortPlace) → IsPlaceWithin n p → IsPlaceWithin m p
place_more n m le places.Itself h = tt
place_more n m le places.Elements h = tt
place_more n m le (places.Settled s) h = flat_more n m le s h

pub any_more : (n m : ℕ) → n ≤ m → (o : Option AnyOverload) → IsSomeAnyWithin n o → IsSomeAnyWithin m o
any_more n m le None h = tt
any_more n m le (Some a) h = record { row = h.row; arguments = all_more (IsPlaceWithin n) (IsPlaceWithin m) (place_more n m le) a.arguments.items h.arguments; result = place_more n m le a.result h.result }

kind_more : (n m c e : ℕ) → n ≤ m → c ≤ e → (k : Kind) → IsKindWithin n c k → IsKindWithin m e k
kind_more n m c e le ce (kinds.Variable v s) h = flat_more n m le s h
kind_more n m c e le ce (kinds.Numeral v) h = tt
kind_more n m c e le ce (kinds.Call fs) h = record { signatures = all_more (IsOverloadWithin n c) (IsOverloadWithin m e) (overload_more n m c e le ce) fs.value.signatures.items h.signatures; any = any_more n m le fs.value.any h.any }
kind_more n m c e le ce kinds.List h = tt

pub nodes_more : (n m c e : ℕ) → n ≤ m → c ≤ e → (ns : List Node) → AreNodesWithin n c ns → AreNodesWithin m e ns
nodes_more n m c e le ce ns all = all_more (λ (k : Node). IsKindWithin n c k.kind) (λ (k : Node). IsKindWithin m e k.kind) (λ k. kind_more n m c e le ce k.kind) ns all

-- ---- sortings
abbrev pub MayBeWithin : ℕ → Option Sort → Type 0
MayBeWithin n None = Unit {0}
MayBeWithin n (Some s) = IsSortWithin n s

or_within : (n : ℕ) (a b : Option Sort) → MayBeWithin n a → MayBeWithin n b → MayBeWithin n (option_or a b)
or_within n None b h k = k
or_within n (Some s) b h k = h

pub AreWithin : ℕ → List Sorting → Type 0
AreWithin n ts = AllByRecursion (λ (t : Sorting). MayBeWithin n t.infers) ts

first_within : (n c : ℕ) (test : Profile → Bool) (fs : List Overload) → AllByRecursion (IsOverloadWithin n c) fs → MayBeWithin n (first_of (result_where test) (map profile_of fs))
first_within n c test [] all = tt
first_within n c test (f ∷ fs) all = or_within n (result_where test (profile_of f)) (first_of (result_where test) (map profile_of fs)) (by (test (profile_of f))) (first_within n c test fs all.1)
  where
    by : (b : Bool) → MayBeWithin n (if b then Some (flat_sort f.result) else None)
    by true = flat_there n f.result all.0.result
    by false = tt

read_within : (n : ℕ) (s : Sort) (p : Place) → IsSortWithin n s → MayBeWithin n (read_off s p)
read_within n s itself h = h
read_within n boolean elements h = tt
read_within n positive elements h = tt
read_within n natural elements h = tt
read_within n integer elements h = tt
read_within n (list s) elements h = h
read_within n (named d) elements h = tt
read_within n boolean (settled r) h = tt
read_within n positive (settled r) h = tt
read_within n natural (settled r) h = tt
read_within n integer (settled r) h = tt
read_within n (list s) (settled r) h = tt
read_within n (named d) (settled r) h = tt

abbrev AnyPlaceWithin : ℕ → Place → Type 0
AnyPlaceWithin n (settled s) = IsSortWithin n s
AnyPlaceWithin n itself = Unit {0}
AnyPlaceWithin n elements = Unit {0}

place_there : (n : ℕ) (p : SortPlace) → IsPlaceWithin n p → AnyPlaceWithin n (place_of p)
place_there n places.Itself h = tt
place_there n places.Elements h = tt
place_there n (places.Settled s) h = flat_there n s h

over_within : (n : ℕ) (s : Sort) (p : Place) → IsSortWithin n s → AnyPlaceWithin n p → IsSortWithin n (over s p)
over_within n s itself h k = h
over_within n s elements h k = h
over_within n s (settled r) h k = k

result_within : (n : ℕ) (all : List Sorting) (c : AnyProfile) → AnyPlaceWithin n c.result → (p : Place) (t : Sorting) → MayBeWithin n t.infers → MayBeWithin n (result_by all c p t)
result_within n all c k p t h = by t.infers h
  where
    told : (b : Bool) (s : Sort) → IsSortWithin n s → MayBeWithin n (if b then Some (over s c.result) else None)
    told true s l = over_within n s c.result l k
    told false s l = tt

    at : (o : Option Sort) → MayBeWithin n o → MayBeWithin n (option_and_then (result_over all c) o)
    at None l = tt
    at (Some s) l = told (all_check_over c.arguments all s) s l

    by : (o : Option Sort) → MayBeWithin n o → MayBeWithin n (option_and_then (λ s. option_and_then (result_over all c) (read_off s p)) o)
    by None l = tt
    by (Some s) l = at (read_off s p) (read_within n s p l)

told_within : (n : ℕ) (all : List Sorting) (c : AnyProfile) → AnyPlaceWithin n c.result → (ps : List Place) (ts : List Sorting) → AreWithin n ts → MayBeWithin n (first_told all c ps ts)
unfolding AreWithin
told_within n all c k [] ts h = tt
told_within n all c k (p ∷ ps) [] h = tt
told_within n all c k (p ∷ ps) (t ∷ ts) h = or_within n (result_by all c p t) (first_told all c ps ts) (result_within n all c k p t h.0) (told_within n all c k ps ts h.1)

call_within : (n c : ℕ) (fs : List Overload) (a : Option AnyOverload) → AllByRecursion (IsOverloadWithin n c) fs → IsSomeAnyWithin n a → (ts : List Sorting) → AreWithin n ts → MayBeWithin n (call_sort (map profile_of fs) (option_map any_profile_of a) ts)
call_within n c fs a h k ts all =
    or_within n (first_exact_sort ts (map profile_of fs)) (option_or (option_and_then (first_candidate_sort ts) (option_map any_profile_of a)) (first_fitting_sort ts (map profile_of fs))) (first_within n c (λ (f : Profile). all_same f.arguments ts) fs h)
    (or_within n (option_and_then (first_candidate_sort ts) (option_map any_profile_of a)) (first_fitting_sort ts (map profile_of fs)) (by a k) (first_within n c (λ (f : Profile). all_check f.arguments ts) fs h))
  where
    by : (o : Option AnyOverload) → IsSomeAnyWithin n o → MayBeWithin n (option_and_then (first_candidate_sort ts) (option_map any_profile_of o))
    by None l = tt
    by (Some x) l = told_within n ts (any_profile_of x) (place_there n x.result l.result) (any_profile_of x).arguments ts all

wider_within : (n : ℕ) (s r : Sort) → IsSortWithin n s → IsSortWithin n r → MayBeWithin n (wider s r)
wider_within n s r h k = by (fits s r) (fits r s)
  where
    by : (a b : Bool) → MayBeWithin n (if a then Some r else if b then Some s else None)
    by true b = k
    by false true = h
    by false false = tt

widest_from_within : (n : ℕ) (s : Sort) → IsSortWithin n s → (ts : List Sorting) → AreWithin n ts → MayBeWithin n (widest_sort_from s ts)
unfolding AreWithin
widest_from_within n s h [] all = h
widest_from_within n s h (t ∷ ts) all = by (λ r l. widest_from_within n r l ts all.1) t.infers all.0
  where
    at : ((r : Sort) → IsSortWithin n r → MayBeWithin n (widest_sort_from r ts)) → (o : Option Sort) → MayBeWithin n o → MayBeWithin n (option_and_then (λ r. widest_sort_from r ts) o)
    at rest None l = tt
    at rest (Some r) l = rest r l

    by : ((r : Sort) → IsSortWithin n r → MayBeWithin n (widest_sort_from r ts)) → (o : Option Sort) → MayBeWithin n o → MayBeWithin n (option_and_then (λ i. option_and_then (λ r. widest_sort_from r ts) (wider s i)) o)
    by rest None l = tt
    by rest (Some i) l = at rest (wider s i) (wider_within n s i h l)

widest_within : (n : ℕ) (ts : List Sorting) → AreWithin n ts → MayBeWithin n (widest_sort ts)
unfolding AreWithin
widest_within n [] all = tt
widest_within n (t ∷ ts) all = by t.infers all.0
  where
    by : (o : Option Sort) → MayBeWithin n o → MayBeWithin n (option_and_then (λ i. widest_sort_from i ts) o)
    by None l = tt
    by (Some i) l = widest_from_within n i l ts all.1

list_within : (n : ℕ) (ts : List Sorting) → AreWithin n ts → MayBeWithin n (option_and_then (λ s. if each_checks ts s then Some (list s) else None) (widest_sort ts))
list_within n ts all = by (widest_sort ts) (widest_within n ts all)
  where
    at : (b : Bool) (s : Sort) → IsSortWithin n s → MayBeWithin n (if b then Some (list s) else None)
    at true s l = l
    at false s l = tt

    by : (o : Option Sort) → MayBeWithin n o → MayBeWithin n (option_and_then (λ s. if each_checks ts s then Some (list s) else None) o)
    by None l = tt
    by (Some s) l = at (each_checks ts s) s l

least_within : (n k : ℕ) → IsSortWithin n (least_sort k)
least_within n zero = tt
least_within n (suc k) = tt

kind_within : (n c : ℕ) (k : Kind) → IsKindWithin n c k → (ts : List Sorting) → AreWithin n ts → MayBeWithin n (kind_sorting k ts).infers
kind_within n c (kinds.Variable v s) h ts all = flat_there n s h
kind_within n c (kinds.Numeral k) h ts all = least_within n k
kind_within n c (kinds.Call fs) h ts all = call_within n c fs.value.signatures.items fs.value.any h.signatures h.any ts all
kind_within n c kinds.List h ts all = list_within n ts all

sorting_within : (n : ℕ) (ts : List Sorting) → AreWithin n ts → (k : ℕ) → MayBeWithin n (sorting_at ts k).infers
unfolding AreWithin
sorting_within n [] all k = tt
sorting_within n (t ∷ ts) all zero = all.0
sorting_within n (t ∷ ts) all (suc k) = sorting_within n ts all.1 k

parts_within : (n : ℕ) (ts : List Sorting) → AreWithin n ts → (ks : List ℕ) → AreWithin n (sortings_at ts ks)
unfolding AreWithin
parts_within n ts all [] = tt
parts_within n ts all (k ∷ ks) = (sorting_within n ts all k, parts_within n ts all ks)

pushed_within : (n : ℕ) (ts : List Sorting) → AreWithin n ts → (t : Sorting) → MayBeWithin n t.infers → AreWithin n (ts ++ t ∷ [])
unfolding AreWithin
pushed_within n [] all t h = (h, tt)
pushed_within n (x ∷ ts) all t h = (all.0, pushed_within n ts all.1 t h)

behind_within : (n c : ℕ) (ts : List Sorting) → AreWithin n ts → (ns : List Node) → AreNodesWithin n c ns → AreWithin n (values_behind no_sorting kind_sorting ts ns)
behind_within n c ts all [] h = all
behind_within n c ts all (k ∷ ns) h =
    let v : Sorting = kind_sorting k.kind (values_at no_sorting ts k.arguments.items) in
    behind_within n c (ts ++ v ∷ []) (pushed_within n ts all v (kind_within n c k.kind h.0 (values_at no_sorting ts k.arguments.items) (parts_within n ts all k.arguments.items))) ns h.1

none_within : (n : ℕ) → AreWithin n []
unfolding AreWithin
none_within n = tt

-- the sorts of sound nodes
pub sortings_within : (n c : ℕ) (ns : List Node) → AreNodesWithin n c ns → AreWithin n (sortings ns)
unfolding sortings
sortings_within n c ns h = behind_within n c [] (none_within n) ns h

pub known_within : (n c : ℕ) (ns : List Node) → AreNodesWithin n c ns → (known : List (Option FlatSort)) → AreKnown ns known → (k : ℕ) → k < length known → (f : FlatSort) → get_or known k None ≡ Some f → IsFlatWithin n f
known_within n c ns h known are k l f e =
    flat_back n f (subst (MayBeWithin n) (sym (are.told k l) ∙ ap (option_map flat_sort) e) (sorting_within n (sortings ns) (sortings_within n c ns h) k))

pub widest_is_within : (n c : ℕ) (ns : List Node) → AreNodesWithin n c ns → (ks : List ℕ) (f : FlatSort) (o : Option FlatSort) → option_map flat_sort o ≡ widest_sort (sortings_at (sortings ns) ks) → o ≡ Some f → IsFlatWithin n f
widest_is_within n c ns h ks f o e is =
    flat_back n f (subst (MayBeWithin n) (sym e ∙ ap (option_map flat_sort) is) (widest_within n (sortings_at (sortings ns) ks) (parts_within n (sortings ns) (sortings_within n c ns h) ks)))

-- ---- plans
abbrev pub IsPlanWithin : ℕ → Option Plan → Type 0
IsPlanWithin n (Some (over_sort s)) = IsSortWithin n s
IsPlanWithin n _ = Unit {0}

sort_by_within : (n : ℕ) (all : List Sorting) (c : AnyProfile) (p : Place) (t : Sorting) → MayBeWithin n t.infers → MayBeWithin n (sort_by all c p t)
sort_by_within n all c p t h = by t.infers h
  where
    told : (b : Bool) (s : Sort) → IsSortWithin n s → MayBeWithin n (if b then Some s else None)
    told true s l = l
    told false s l = tt

    at : (o : Option Sort) → MayBeWithin n o → MayBeWithin n (option_and_then (sort_where_all_check all c) o)
    at None l = tt
    at (Some s) l = told (all_check_over c.arguments all s) s l

    by : (o : Option Sort) → MayBeWithin n o → MayBeWithin n (option_and_then (λ s. option_and_then (sort_where_all_check all c) (read_off s p)) o)
    by None l = tt
    by (Some s) l = at (read_off s p) (read_within n s p l)

first_sort_within : (n : ℕ) (all : List Sorting) (c : AnyProfile) (ps : List Place) (ts : List Sorting) → AreWithin n ts → MayBeWithin n (first_sort all c ps ts)
unfolding AreWithin
first_sort_within n all c [] ts h = tt
first_sort_within n all c (p ∷ ps) [] h = tt
first_sort_within n all c (p ∷ ps) (t ∷ ts) h = or_within n (sort_by all c p t) (first_sort all c ps ts) (sort_by_within n all c p t h.0) (first_sort_within n all c ps ts h.1)

plan_or : (n : ℕ) (a b : Option Plan) → IsPlanWithin n a → IsPlanWithin n b → IsPlanWithin n (option_or a b)
plan_or n None b h k = k
plan_or n (Some p) b h k = h

place_plan : (n : ℕ) (o : Option ℕ) (f : ℕ → Plan) → ((k : ℕ) → IsPlanWithin n (Some (f k))) → IsPlanWithin n (option_map f o)
place_plan n None f h = tt
place_plan n (Some k) f h = h k

plan_within : (n : ℕ) (fs : List Profile) (a : Option AnyProfile) (ts : List Sorting) → AreWithin n ts → IsPlanWithin n (call_plan fs a ts)
plan_within n fs a ts all =
    plan_or n (option_map exact (place_where (λ (f : Profile). all_same f.arguments ts) fs)) (option_or (option_map over_sort (option_and_then (λ (k : AnyProfile). first_sort ts k k.arguments ts) a)) (option_map fitting (place_where (λ (f : Profile). all_check f.arguments ts) fs)))
    (place_plan n (place_where (λ (f : Profile). all_same f.arguments ts) fs) exact (λ k. tt))
    (plan_or n (option_map over_sort (option_and_then (λ (k : AnyProfile). first_sort ts k k.arguments ts) a)) (option_map fitting (place_where (λ (f : Profile). all_check f.arguments ts) fs)) (by a) (place_plan n (place_where (λ (f : Profile). all_check f.arguments ts) fs) fitting (λ k. tt)))
  where
    at : (o : Option Sort) → MayBeWithin n o → IsPlanWithin n (option_map over_sort o)
    at None l = tt
    at (Some s) l = l

    by : (o : Option AnyProfile) → IsPlanWithin n (option_map over_sort (option_and_then (λ (k : AnyProfile). first_sort ts k k.arguments ts) o))
    by None = tt
    by (Some k) = at (first_sort ts k k.arguments ts) (first_sort_within n ts k k.arguments ts all)

pub plan_is_within : (n c : ℕ) (ns : List Node) → AreNodesWithin n c ns → (ks : List ℕ) (fs : List Profile) (a : Option AnyProfile) (o : Option Plan) → o ≡ call_plan fs a (sortings_at (sortings ns) ks) → (s : Sort) → o ≡ Some (over_sort s) → IsSortWithin n s
plan_is_within n c ns h ks fs a o e s is = subst (IsPlanWithin n) (sym e ∙ is) (plan_within n fs a (sortings_at (sortings ns) ks) (parts_within n (sortings ns) (sortings_within n c ns h) ks))

pub read_off_within : (n : ℕ) (s : FlatSort) (p : Place) (o : Option FlatSort) → option_map flat_sort o ≡ read_off (flat_sort s) p → (f : FlatSort) → o ≡ Some f → IsFlatWithin n s → IsFlatWithin n f
read_off_within n s p o e f is h = flat_back n f (subst (MayBeWithin n) (sym e ∙ ap (option_map flat_sort) is) (read_within n (flat_sort s) p (flat_there n s h)))
