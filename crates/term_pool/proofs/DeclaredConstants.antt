-- What becomes of a signature and its constants where constants are declared.
use Rattle.std.proofs.Common.{◌≡◌, ◌==◌, ◌<◌, ◌+◌, ◌++◌, ◌&&◌, ◌≤◌, ℕ, zero, suc, Bool, true, false, cond, List, [], ◌∷◌, length, map, Some, None, refl, sym, ap, ◌∙◌, subst, arith, append-nil, append_assoc, ⊎_elim}
use Rattle.std.specs.Prelude.{slice_get, is_some, IfSome, IsSome, Option, not}
use Rattle.std.specs.Option.{option_map_or}
use Rattle.std.specs.List.{All, Contains, filter, range_with_len}
use Rattle.std.specs.Map.{lookup}
use Rattle.std.proofs.lemmas.Bool.Decides.{Decides-eqb}
use Rattle.std.proofs.lemmas.Option.{slice_get_cases}
use Rattle.std.proofs.lemmas.List.{map-append}
use Rattle.std.proofs.lemmas.List.Elements.{All-nil, All-cons, All-head, All-tail, All-push, All-weaker, All-contains, All-filter}
use Rattle.std.proofs.lemmas.List.FromFn.{filter_of_map_range_with_len_more}
use Rattle.data_theory.specs.declared.ids.NameId.{NameId}
use Rattle.data_theory.specs.declared.ids.SortId.{SortId}
use Rattle.data_theory.specs.declared.ids.FunId.{FunId}
use Rattle.data_theory.specs.Keys.{Key, key}
use Rattle.data_theory.specs.Names.{with_text}
use Rattle.data_theory.specs.Functions.{Function, HasKey, declared_function}
use Rattle.data_theory.specs.Places.{HaveOnePlace}
use Rattle.data_theory.specs.Sorts.{Kind, booleans, positives, naturals, integers, lists_over, without_constructors, by_declarations, structured, SortInfo, IsBare}
use Rattle.data_theory.specs.Signature.{Sig, with_taken}
use Rattle.data_theory.specs.Fresh.{IsFreshIn}
use Rattle.data_theory.specs.Complete.{IsSortWithin}
use Rattle.data_theory.specs.IdSorts.{construction_of}
use Rattle.data_theory.specs.IdTerms.{IsGrown}
use Rattle.data_theory.specs.WholeSignatures.{HasItsName, IsSignature}
use Rattle.data_theory.proofs.NameLemmas.{text_behind}
use Rattle.data_theory.proofs.PlaceLemmas.{contains_read, read_front, read_behind, one_place_pushed}
use Rattle.data_theory.proofs.IdGrowthLemmas.{with_a_text_it_is_grown, with_a_function_it_is_grown, growth_after_growth_is_growth}
use Rattle.term_pool.specs.Constants.{is_listed, all_sorts, IsConstantOf, AreConstants, KeepsConstants, DeclaresConstant, DeclaresConstants, none_left, declares}
use Rattle.term_pool.specs.Pools.{PoolContents}
use Rattle.term_pool.specs.FirstTerms.{is_bare_kind, lacks_constant, is_in_need}
use Rattle.term_pool.proofs.SortSearch.{is_among}
use Rattle.term_pool.proofs.Lists.{contains_none, contains_cons}

-- ---- a fresh name names no function
module _ (g : Sig) (s : IsSignature g) (base : List ℕ) (name : NameId) (between : Sig) (fresh : IsFreshIn g base name between) where
  named_behind : slice_get (with_text g.texts fresh.text) name.0 ≡ Some fresh.text
  named_behind = ap (λ (x : Sig). slice_get x.texts name.0) (sym fresh.taken) ∙ fresh.named

  not_taken : Contains g.taken name → ⊥
  not_taken c =
      let low : name.0 < length g.texts = All-contains (λ (n : NameId). n.0 < length g.texts) g.taken name s.complete.within.taken c in
      let behind = text_behind g.texts fresh.text in
      ⊎_elim
      (λ found.
      let longer : slice_get (with_text g.texts fresh.text) name.0 ≡ Some found.0 = subst (λ l. slice_get l name.0 ≡ Some found.0) (sym behind.is) (read_front g.texts behind.more name.0 found.0 found.2) in
      let same : Some found.0 ≡ Some fresh.text = sym longer ∙ named_behind in
      fresh.fresh.free (name, found.2 ∙ same, c))
      (λ beyond. omega (arith, low, beyond))
      (slice_get_cases g.texts name.0).1

  pub fresh_is_absent : (k : ℕ) → HasKey between.functions (key name []) k → ⊥
  fresh_is_absent k h =
      let at : slice_get g.functions k ≡ Some h.0 = ap (λ (x : Sig). slice_get x.functions k) (sym fresh.taken) ∙ h.1 in
      let named : h.0.name ≡ name = ap (λ (x : Key). x.name) h.2 in
      not_taken (subst (Contains g.taken) named (All-contains (λ (f : Function). Contains g.taken f.name) g.functions h.0 s.functions_taken (contains_read g.functions k h.0 at)))

-- ---- the name of a sort without constructors
pub bare_is_named : (g : Sig) → IsSignature g → (d : SortId) → IsBare g.sorts d → IfSome (slice_get g.sorts d.0) (λ s. IsSome s.name)
bare_is_named g s d bare =
    let named = All-contains HasItsName g.sorts bare.0 s.sorts_named (contains_read g.sorts d.0 bare.0 bare.1) in
    subst (λ o. IfSome o (λ (x : SortInfo). IsSome x.name)) (sym bare.1) (named (ap (λ k. length (construction_of k)) bare.2))

pub name_of_bare : (g : Sig) (d : SortId) (n : NameId) (bare : IsBare g.sorts d) → IfSome (slice_get g.sorts d.0) (λ s. s.name ≡ Some n) → bare.0.name ≡ Some n
name_of_bare g d n bare named = subst (λ o. IfSome o (λ (x : SortInfo). x.name ≡ Some n)) bare.1 named

pub name_within : (g : Sig) → IsSignature g → (d : SortId) (n : NameId) → IsBare g.sorts d → IfSome (slice_get g.sorts d.0) (λ s. s.name ≡ Some n) → n.0 < length g.texts
name_within g s d n bare named =
    let within = All-contains (IsSortWithin (length g.texts) (length g.sorts) (length g.functions)) g.sorts bare.0 s.complete.within.sorts_within (contains_read g.sorts d.0 bare.0 bare.1) in
    subst (λ o. IfSome o (λ (m : NameId). m.0 < length g.texts)) (name_of_bare g d n bare named) within.named

-- ---- growth
pub grown_as : (g h i : Sig) → h ≡ i → IsGrown g i → IsGrown g h
grown_as g h i same grown = subst (IsGrown g) (sym same) grown

pub grown_itself : (g : Sig) → IsGrown g g
grown_itself g = record {
  new_texts = [];
  new_taken = [];
  new_sorts = [];
  new_sort_names = [];
  new_functions = [];
  new_declared = [];
  new_actions = [];
  new_variables = [];
  texts = sym (append-nil g.texts);
  taken = sym (append-nil g.taken);
  sorts = sym (append-nil g.sorts);
  sort_names = sym (append-nil g.sort_names);
  functions = sym (append-nil g.functions);
  declared = sym (append-nil g.declared);
  actions = sym (append-nil g.actions);
  variables = sym (append-nil g.variables);
}

pub grown_after : (g h i : Sig) → IsGrown g h → IsGrown h i → IsGrown g i
grown_after = growth_after_growth_is_growth

pub fresh_grows : (g : Sig) (base : List ℕ) (name : NameId) (between : Sig) → IsFreshIn g base name between → IsGrown g between
fresh_grows g base name between fresh = grown_as g between (with_taken g fresh.text) fresh.taken (with_a_text_it_is_grown g fresh.text)

pub constant_grows : (d : SortId) (g : Sig) (cs : List (SortId × FunId)) (h : Sig) (ds : List (SortId × FunId)) → DeclaresConstant d g cs h ds → IsGrown g h
constant_grows d g cs h ds one =
    growth_after_growth_is_growth g one.between h (fresh_grows g _ one.name one.between one.fresh) (grown_as one.between h _ one.declared (with_a_function_it_is_grown one.between (declared_function one.name [] d)))

pub constant_keeps_sorts : (d : SortId) (g : Sig) (cs : List (SortId × FunId)) (h : Sig) (ds : List (SortId × FunId)) → DeclaresConstant d g cs h ds → h.sorts ≡ g.sorts
constant_keeps_sorts d g cs h ds one = ap (λ (x : Sig). x.sorts) one.declared ∙ ap (λ (x : Sig). x.sorts) one.fresh.taken

pub still_read : {A : Type 0} (xs ys more : List A) → ys ≡ xs ++ more → (i : ℕ) (x : A) → slice_get xs i ≡ Some x → slice_get ys i ≡ Some x
still_read xs ys more e i x at = subst (λ l. slice_get l i ≡ Some x) (sym e) (read_front xs more i x at)

pub function_stays : (g h : Sig) → IsGrown g h → (i : ℕ) (f : Function) → slice_get g.functions i ≡ Some f → slice_get h.functions i ≡ Some f
function_stays g h grown i f at = still_read g.functions h.functions grown.new_functions grown.functions i f at

pub bare_stays : (g h : Sig) (d : SortId) → IsGrown g h → IsBare g.sorts d → IsBare h.sorts d
bare_stays g h d grown bare = (bare.0, still_read g.sorts h.sorts grown.new_sorts grown.sorts d.0 bare.0 bare.1, bare.2)

pub constants_stay : (g h : Sig) (cs : List (SortId × FunId)) → IsGrown g h → AreConstants g cs → AreConstants h cs
constants_stay g h cs grown are = record {
  each = All-weaker (λ (c : SortId × FunId). IsConstantOf g c.0 c.1) (λ c. IsConstantOf h c.0 c.1)
      (λ c is. (bare_stays g h c.0 grown is.0, (is.1.0, function_stays g h grown c.1.0 is.1.0 is.1.1, is.1.2, is.1.3, is.1.4)))
      cs are.each;
  once = are.once;
}

-- ---- which constants are listed
is_listed_by : (b : Bool) (f : FunId) (cs : List (SortId × FunId)) (d : SortId) → b ≡ true → is_some (cond b (Some f) (lookup (λ (e : SortId). d.0 == e.0) cs)) ≡ true
is_listed_by b f cs d e = ap (λ b. is_some (cond b (Some f) (lookup (λ (e : SortId). d.0 == e.0) cs))) e

listed_tail : (b : Bool) (f : FunId) (cs : List (SortId × FunId)) (d : SortId) → is_listed cs d ≡ true → is_some (cond b (Some f) (lookup (λ (e : SortId). d.0 == e.0) cs)) ≡ true
listed_tail true f cs d e = refl
listed_tail false f cs d e = e

pub listed_from_contains : (cs : List (SortId × FunId)) (d : SortId) → Contains (map (λ (c : SortId × FunId). c.0) cs) d → is_listed cs d ≡ true
listed_from_contains [] d has = absurd (contains_none d has)
listed_from_contains (c ∷ cs) d has =
    ⊎_elim
    (λ same. is_listed_by (d.0 == c.0.0) c.1 cs d ((Decides-eqb d.0 c.0.0).1 (ap (λ (x : SortId). x.0) (sym same))))
    (λ rest. listed_tail (d.0 == c.0.0) c.1 cs d (listed_from_contains cs d rest))
    (contains_cons c.0 d (map (λ (c : SortId × FunId). c.0) cs) has)

pub unlisted : (cs : List (SortId × FunId)) (d : SortId) → is_listed cs d ≡ false → lookup (λ (e : SortId). d.0 == e.0) cs ≡ None
unlisted cs d e = by_found (lookup (λ (e : SortId). d.0 == e.0) cs) e
  where
    by_found : (o : Option FunId) → is_some o ≡ false → o ≡ None
    by_found None e = refl
    by_found (Some f) e = cc

-- a further one is found for its own sort alone
listed_other : (cs : List (SortId × FunId)) (c : SortId × FunId) (d : SortId) → (d.0 == c.0.0) ≡ false → is_listed (cs ++ c ∷ []) d ≡ is_listed cs d
listed_other [] c d other = ap (λ b. is_some (cond b (Some c.1) None)) other
listed_other (x ∷ cs) c d other = by_test (d.0 == x.0.0) (listed_other cs c d other)
  where
    by_test : (b : Bool) → is_listed (cs ++ c ∷ []) d ≡ is_listed cs d → is_some (cond b (Some x.1) (lookup (λ (e : SortId). d.0 == e.0) (cs ++ c ∷ []))) ≡ is_some (cond b (Some x.1) (lookup (λ (e : SortId). d.0 == e.0) cs))
    by_test true rest = refl
    by_test false rest = rest

listed_still : (cs : List (SortId × FunId)) (c : SortId × FunId) (d : SortId) → is_listed cs d ≡ true → is_listed (cs ++ c ∷ []) d ≡ true
listed_still [] c d e = cc
listed_still (x ∷ cs) c d e = by_test (d.0 == x.0.0) (listed_still cs c d) e
  where
    by_test : (b : Bool) → (is_listed cs d ≡ true → is_listed (cs ++ c ∷ []) d ≡ true) → is_some (cond b (Some x.1) (lookup (λ (e : SortId). d.0 == e.0) cs)) ≡ true → is_some (cond b (Some x.1) (lookup (λ (e : SortId). d.0 == e.0) (cs ++ c ∷ []))) ≡ true
    by_test true rest e = refl
    by_test false rest e = rest e

listed_last : (cs : List (SortId × FunId)) (d : SortId) (f : FunId) → is_listed (cs ++ (d, f) ∷ []) d ≡ true
listed_last [] d f = is_listed_by (d.0 == d.0) f [] d ((Decides-eqb d.0 d.0).1 refl)
listed_last (x ∷ cs) d f = listed_tail (d.0 == x.0.0) x.1 (cs ++ (d, f) ∷ []) d (listed_last cs d f)

-- ---- one constant more
module _ (d : SortId) (g : Sig) (cs : List (SortId × FunId)) (h : Sig) (ds : List (SortId × FunId)) (one : DeclaresConstant d g cs h ds) where
  number : FunId
  number = record { 0 = length one.between.functions }

  abbrev pub its_function : Function
  its_function = declared_function one.name [] d

  stands_last : slice_get h.functions (length one.between.functions) ≡ Some its_function
  stands_last =
      let last : length one.between.functions + 0 ≡ length one.between.functions = omega arith in
      let read : slice_get (one.between.functions ++ its_function ∷ []) (length one.between.functions) ≡ Some its_function =
      subst (λ n. slice_get (one.between.functions ++ its_function ∷ []) n ≡ Some its_function) last (read_behind one.between.functions (its_function ∷ []) 0 its_function refl) in
      ap (λ (x : Sig). slice_get x.functions (length one.between.functions)) one.declared ∙ read

  pub constants_more : IsBare g.sorts d → is_listed cs d ≡ false → AreConstants g cs → AreConstants h ds
  constants_more bare absent are =
      let grown = constant_grows d g cs h ds one in
      let old = constants_stay g h cs grown are in
      let new : IsConstantOf h d (record { 0 = length one.between.functions }) = (bare_stays g h d grown bare, (its_function, stands_last, refl, refl, refl)) in
      let unlisted : Contains (map (λ (c : SortId × FunId). c.0) cs) d → ⊥ = λ has. let listed = listed_from_contains cs d has in cc in
      subst (AreConstants h) (sym one.listed) (record {
        each = All-push (λ (c : SortId × FunId). IsConstantOf h c.0 c.1) cs (d, record { 0 = length one.between.functions }) old.each new;
        once = subst HaveOnePlace (sym (map-append (λ (c : SortId × FunId). c.0) cs ((d, record { 0 = length one.between.functions }) ∷ []))) (one_place_pushed (map (λ (c : SortId × FunId). c.0) cs) d are.once unlisted);
      })

  pub others_listed_same : (e : SortId) → (e.0 == d.0) ≡ false → is_listed ds e ≡ is_listed cs e
  others_listed_same e other = ap (λ l. is_listed l e) one.listed ∙ listed_other cs (d, record { 0 = length one.between.functions }) e other

  pub this_is_listed : is_listed ds d ≡ true
  this_is_listed = ap (λ l. is_listed l d) one.listed ∙ listed_last cs d (record { 0 = length one.between.functions })

  pub still_listed : (e : SortId) → is_listed cs e ≡ true → is_listed ds e ≡ true
  still_listed e listed = ap (λ l. is_listed l e) one.listed ∙ listed_still cs (d, record { 0 = length one.between.functions }) e listed

-- ---- constants one after the other
pub declares_one_more : (sorts : List SortId) (d : SortId) (g : Sig) (cs : List (SortId × FunId)) (h : Sig) (ds : List (SortId × FunId)) (i : Sig) (es : List (SortId × FunId))
    → DeclaresConstants sorts g cs h ds → DeclaresConstant d h ds i es → DeclaresConstants (sorts ++ d ∷ []) g cs i es
declares_one_more [] d g cs h ds i es none_left one = declares one none_left
declares_one_more (x ∷ sorts) d g cs h ds i es (declares first rest) one = declares first (declares_one_more sorts d _ _ h ds i es rest one)

-- the old ones stay
pub constants_kept : (cs : List (SortId × FunId)) → KeepsConstants cs cs
constants_kept cs = ([], sym (append-nil cs))

pub constants_behind : (sorts : List SortId) (g : Sig) (cs : List (SortId × FunId)) (h : Sig) (ds : List (SortId × FunId)) → DeclaresConstants sorts g cs h ds → KeepsConstants cs ds
constants_behind [] g cs h ds none_left = constants_kept cs
constants_behind (d ∷ sorts) g cs h ds (declares {h = mid} {ds = more} one rest) =
    let behind = constants_behind sorts mid more h ds rest in
    (_, behind.1 ∙ (ap (λ l. l ++ behind.0) one.listed ∙ append_assoc cs _ behind.0))

-- no constant of a later sort was declared
pub later_listed_same : (sorts : List SortId) (g : Sig) (cs : List (SortId × FunId)) (h : Sig) (ds : List (SortId × FunId)) (e : SortId) → DeclaresConstants sorts g cs h ds → All (λ (d : SortId). d.0 < e.0) sorts → is_listed ds e ≡ is_listed cs e
later_listed_same [] g cs h ds e none_left below = refl
later_listed_same (x ∷ sorts) g cs h ds e (declares one rest) below =
    let P = λ (d : SortId). d.0 < e.0 in
    later_listed_same sorts _ _ h ds e rest (All-tail P x sorts below) ∙ others_listed_same x g cs _ _ one e (differ (e.0 == x.0) refl)
  where
    differ : (b : Bool) → (e.0 == x.0) ≡ b → (e.0 == x.0) ≡ false
    differ false same = same
    differ true same = let equal = (Decides-eqb e.0 x.0).0 same in let low = All-head (λ (d : SortId). d.0 < e.0) x sorts below in absurd (omega (arith, equal, low))

pub listed_stay : (sorts : List SortId) (g : Sig) (cs : List (SortId × FunId)) (h : Sig) (ds : List (SortId × FunId)) (e : SortId) → DeclaresConstants sorts g cs h ds → is_listed cs e ≡ true → is_listed ds e ≡ true
listed_stay [] g cs h ds e none_left listed = listed
listed_stay (x ∷ sorts) g cs h ds e (declares one rest) listed = listed_stay sorts _ _ h ds e rest (still_listed x g cs _ _ one e listed)

pub all_listed : (sorts : List SortId) (g : Sig) (cs : List (SortId × FunId)) (h : Sig) (ds : List (SortId × FunId)) (e : SortId) → DeclaresConstants sorts g cs h ds → Contains sorts e → is_listed ds e ≡ true
all_listed [] g cs h ds e run has = absurd (contains_none e has)
all_listed (x ∷ sorts) g cs h ds e (declares {h = mid} {ds = more} one rest) has =
    ⊎_elim
    (λ same. listed_stay sorts mid more h ds e rest (subst (λ y. is_listed more y ≡ true) same (this_is_listed x g cs mid more one)))
    (λ later. all_listed sorts mid more h ds e rest later)
    (contains_cons x e sorts has)

-- ---- the sorts that lack a constant, one after the other
abbrev pub sorts_below : ℕ → List SortId
sorts_below n = map (λ k. record { 0 = k }) (range_with_len 0 n)

all_below : (n a : ℕ) (e : SortId) → a + n ≤ e.0 → All (λ (d : SortId). d.0 < e.0) (map (λ k. record { 0 = k }) (range_with_len a n))
all_below zero a e l = All-nil (λ (d : SortId). d.0 < e.0)
all_below (suc n) a e l = All-cons (λ (d : SortId). d.0 < e.0) (record { 0 = a }) (map (λ k. record { 0 = k }) (range_with_len (a + 1) n)) (omega (arith, l)) (all_below n (a + 1) e (omega (arith, l)))

-- the first sorts had their turn
pub record IsDeclaring (g : Sig) (old : PoolContents) (sorts : List SortId) (n : ℕ) (h : Sig) (now : PoolContents) : Type 0 where
  pub run : DeclaresConstants (filter (is_in_need g.sorts old.constants sorts) (sorts_below n)) g old.constants h now.constants
  pub same : h.sorts ≡ g.sorts
  pub constants : AreConstants h now.constants
  pub trees : now.trees ≡ old.trees
  pub grown : IsGrown g h

pub none_declared : (g : Sig) (old : PoolContents) (sorts : List SortId) → AreConstants g old.constants → IsDeclaring g old sorts 0 g old
none_declared g old sorts are = record { run = none_left; same = refl; constants = are; trees = refl; grown = grown_itself g }

-- a sort that lacks a constant
bare_by_kind : (k : Kind) → is_bare_kind k ≡ true → k ≡ without_constructors
bare_by_kind without_constructors e = refl
bare_by_kind booleans e = cc
bare_by_kind positives e = cc
bare_by_kind naturals e = cc
bare_by_kind integers e = cc
bare_by_kind (lists_over x) e = cc
bare_by_kind (by_declarations fs) e = cc
bare_by_kind (structured fs) e = cc

both : (a b : Bool) → (a && b) ≡ true → (a ≡ true) × (b ≡ true)
both true b e = (refl, e)
both false b e = cc

not_true : (b : Bool) → not b ≡ true → b ≡ false
not_true true e = cc
not_true false e = refl

pub bare_by_test : (ss : List SortInfo) (d : SortId) → option_map_or (λ (s : SortInfo). is_bare_kind s.kind) (slice_get ss d.0) false ≡ true → IsBare ss d
bare_by_test ss d e = by_place (slice_get ss d.0) refl e
  where
    by_place : (o : Option SortInfo) → slice_get ss d.0 ≡ o → option_map_or (λ (s : SortInfo). is_bare_kind s.kind) o false ≡ true → IsBare ss d
    by_place None at e = cc
    by_place (Some s) at e = (s, at, bare_by_kind s.kind e)

pub lacks_is : (ss : List SortInfo) (cs : List (SortId × FunId)) (d : SortId) → lacks_constant ss cs d ≡ true → IsBare ss d × (is_listed cs d ≡ false)
lacks_is ss cs d e = let parts = both (option_map_or (λ (s : SortInfo). is_bare_kind s.kind) (slice_get ss d.0) false) (not (is_listed cs d)) e in (bare_by_test ss d parts.0, not_true (is_listed cs d) parts.1)

module _ (g : Sig) (old : PoolContents) (sorts : List SortId) (n : ℕ) (h : Sig) (now : PoolContents) (before : IsDeclaring g old sorts n h now) where
  abbrev this : SortId
  this = record { 0 = n }

  -- the test is as it was at first
  test_same : lacks_constant h.sorts now.constants this ≡ lacks_constant g.sorts old.constants this
  test_same =
      let listed = later_listed_same (filter (is_in_need g.sorts old.constants sorts) (sorts_below n)) g old.constants h now.constants this before.run (All-filter (is_in_need g.sorts old.constants sorts) (λ (d : SortId). d.0 < n) (sorts_below n) (all_below n 0 this (omega arith))) in
      λ i. option_map_or (λ (s : SortInfo). is_bare_kind s.kind) (slice_get (before.same i) n) false && not (listed i)

  next_filter : (b : Bool) → (is_among this sorts && lacks_constant h.sorts now.constants this) ≡ b
      → filter (is_in_need g.sorts old.constants sorts) (sorts_below (n + 1)) ≡ filter (is_in_need g.sorts old.constants sorts) (sorts_below n) ++ cond b (this ∷ []) []
  next_filter b e =
      let test : is_in_need g.sorts old.constants sorts this ≡ b = ap (λ t. is_among this sorts && t) (sym test_same) ∙ e in
      filter_of_map_range_with_len_more (is_in_need g.sorts old.constants sorts) (λ k. record { 0 = k }) 0 n n (omega arith) ∙ ap (λ t. filter (is_in_need g.sorts old.constants sorts) (sorts_below n) ++ cond t (this ∷ []) []) test

  pub none_more : (is_among this sorts && lacks_constant h.sorts now.constants this) ≡ false → IsDeclaring g old sorts (n + 1) h now
  none_more e = record {
    run = subst (λ l. DeclaresConstants l g old.constants h now.constants) (sym (next_filter false e ∙ append-nil (filter (is_in_need g.sorts old.constants sorts) (sorts_below n)))) before.run;
    same = before.same;
    constants = before.constants;
    trees = before.trees;
    grown = before.grown;
  }

  pub one_more : is_among this sorts ≡ true → lacks_constant h.sorts now.constants this ≡ true → (i : Sig) (new : PoolContents) → DeclaresConstant this h now.constants i new.constants → new.trees ≡ now.trees → IsDeclaring g old sorts (n + 1) i new
  one_more among lacks i new one trees =
      let parts = lacks_is h.sorts now.constants this lacks in
      record {
        run = subst (λ l. DeclaresConstants l g old.constants i new.constants) (sym (next_filter true (λ k. among k && lacks k)))
            (declares_one_more (filter (is_in_need g.sorts old.constants sorts) (sorts_below n)) this g old.constants h now.constants i new.constants before.run one);
        same = constant_keeps_sorts this h now.constants i new.constants one ∙ before.same;
        constants = constants_more this h now.constants i new.constants one parts.0 parts.1 before.constants;
        trees = trees ∙ before.trees;
        grown = growth_after_growth_is_growth g h i before.grown (constant_grows this h now.constants i new.constants one);
      }

-- all sorts had their turn
pub declared_so_far : (g : Sig) (old : PoolContents) (sorts : List SortId) (n : ℕ) (h : Sig) (now : PoolContents) → IsDeclaring g old sorts n h now → n ≡ length g.sorts → DeclaresConstants (filter (is_in_need g.sorts old.constants sorts) (all_sorts g)) g old.constants h now.constants
declared_so_far g old sorts n h now is e = subst (λ k. DeclaresConstants (filter (is_in_need g.sorts old.constants sorts) (sorts_below k)) g old.constants h now.constants) e is.run
