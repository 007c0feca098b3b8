-- Fresh names, and a sort of stacks that has them.
use Rattle.std.proofs.Common.{◌≡◌, ◌<◌, ◌+◌, ◌-◌, ℕ, zero, suc, List, [], ◌∷◌, ◌++◌, map, length, refl, sym, ap, ap₂, ◌∙◌, subst, arith, ⊎_elim, Option, Some}
use Rattle.std.specs.Prelude.{slice_get, Contains, IfSome}
use Rattle.std.specs.List.{All}
use Rattle.std.proofs.lemmas.List.Elements.{All-nil, All-push, All-weaker, All-contains, All-head, All-tail, All-cons, All-append, Contains-append_left, Contains-append_right}
use Rattle.std.proofs.lemmas.List.{map-append, append_assoc, length-map, length-append}
use Rattle.std.proofs.lemmas.Option.{slice_get_within, get_or_from_slice_get}
use Rattle.data_theory.specs.declared.ids.NameId.{NameId}
use Rattle.data_theory.specs.declared.ids.SortId.{SortId}
use Rattle.data_theory.specs.Environments.{AreDistinct}
use Rattle.data_theory.specs.Functions.{Function, key_of, HasKey, declared_function}
use Rattle.data_theory.specs.Keys.{Key}
use Rattle.data_theory.specs.Places.{HaveOnePlace}
use Rattle.data_theory.specs.SortNames.{IsName}
use Rattle.data_theory.specs.Structs.{Con, IsConWithin, projections_of, struct_functions, numbers_from}
use Rattle.data_theory.specs.Rows.{built_in, built_ins}
use Rattle.data_theory.specs.Table.{bool_sort, pos_sort, sort_rows}
use Rattle.data_theory.specs.Names.{place_in, with_text}
use Rattle.data_theory.specs.Signature.{Sig, IsTaken, with_sort, IsNewStruct}
use Rattle.data_theory.specs.Fresh.{IsFreshIn}
use Rattle.data_theory.specs.IdTerms.{IsGrown}
use Rattle.data_theory.specs.WholeSignatures.{IsSignature}
use Rattle.data_theory.proofs.NameLemmas.{place_is}
use Rattle.data_theory.proofs.PlaceLemmas.{read_front, read_appended}
use Rattle.data_theory.proofs.EnvironmentLemmas.{contains_nothing, contains_first as number_first, contains_later as number_later, contains_cases as number_cases}
use Rattle.bisim_laws.proofs.Firing.{contains_first, contains_later, contains_cases}
use Rattle.lps_core.specs.Naming.{GrowsByNames}
use Rattle.lps_core.proofs.Members.{all_at, all_from, contains_map, map_contains, mapped_at}
use Rattle.lps_core.proofs.NamedSums.{names_none, names_then, with_name_has, not_taken}
use Rattle.lps_core.proofs.NamingLoops.{fresh_names}
use Rattle.lps_core.proofs.OverVariables.{distinct_append}
use Rattle.regular_encoder.specs.FormColumns.{IsKindIn}
use Rattle.regular_encoder.proofs.FirstTerms.{some_is}
use Rattle.regular_encoder.proofs.KeptEquation.{distinct_front, distinct_last}
use Rattle.regular_encoder.proofs.NewColumns.{pos_within}
use Rattle.regular_encoder.proofs.ServingLayouts.{taken_stays}
use Rattle.stack_encoder.specs.AddedSort.{AreFreshNames, no_name, one_more_name, StackWords, AreWords, AddsStackSort, AddsParameter, DeclaresStack, in_order, constructors_declared, with_stack_sort}
use Rattle.stack_encoder.specs.StackEntries.{StackIds, named_field, push_declared, empty_declared, ids_behind}
use Rattle.stack_encoder.proofs.StandingStack.{declared_stack}
use Rattle.data_theory.proofs.StructGrowthLemmas.{with_a_struct_sort_it_is_grown}
use Rattle.data_theory.specs.declared.ids.VarId.{VarId}

-- ---- a name that is new
pub record IsNewName (g h : Sig) (n : NameId) : Type 0 where
  pub text : List ℕ
  pub named : slice_get h.texts n.0 ≡ Some text
  pub free : ¬ (IsTaken g text)
  pub taken : Contains h.taken n

new_name_on : (g h i : Sig) (n : NameId) → GrowsByNames h i → IsNewName g h n → IsNewName g i n
new_name_on g h i n w k = record {
  text = k.text;
  named = subst (λ z. slice_get z n.0 ≡ Some k.text) (sym w.grown.texts) (read_front h.texts w.grown.new_texts n.0 k.text k.named);
  free = k.free;
  taken = w.taken n k.taken;
}

fresh_is_new : (g h i : Sig) (base : List ℕ) (name : NameId) → GrowsByNames g h → GrowsByNames h i → IsFreshIn h base name i → IsNewName g i name
fresh_is_new g h i base name w v f = record {
  text = f.text;
  named = f.named;
  free = λ t. f.fresh.free (taken_stays g h f.text w.grown t);
  taken =
      let place : name ≡ place_in i.texts f.text = place_is i.texts f.text name.0 v.stands.table.different f.named in
      subst (λ z. Contains i.taken z) (sym place) (subst (λ (z : Sig). Contains z.taken (place_in z.texts f.text)) (sym f.taken) (with_name_has h.taken (place_in (with_text h.texts f.text) f.text)));
}

-- ---- names in a row
pub record WordsStand (g h : Sig) (names : List NameId) : Type 0 where
  pub on : GrowsByNames g h
  pub sort_names : h.sort_names ≡ g.sort_names
  pub new : All (IsNewName g h) names
  pub distinct : AreDistinct (map (λ (n : NameId). n.0) names)

-- an earlier name isn't one whose text wasn't taken
other_than : (g h i : Sig) (names : List NameId) (base : List ℕ) (name : NameId) → WordsStand g h names → GrowsByNames h i → IsFreshIn h base name i → Contains (map (λ (n : NameId). n.0) names) name.0 → ⊥
other_than g h i names base name w v f c =
    let m = contains_map (λ (n : NameId). n.0) names name.0 c in
    let same : m.0 ≡ name = ap (λ k. record { 0 = k }) (sym m.1.1) in
    let own = All-contains (IsNewName g h) names m.0 w.new m.1.0 in
    not_taken h f.text i.texts name w.on.stands f.fresh.free (v.grown.new_texts, v.grown.texts) f.named (subst (λ z. Contains h.taken z) same own.taken)

distinct_with : (xs : List ℕ) (x : ℕ) → AreDistinct xs → (Contains xs x → ⊥) → AreDistinct (xs ++ x ∷ [])
distinct_with xs x d n = distinct_append xs (x ∷ []) d ((λ i. contains_nothing x i), tt) (λ v i j. ⊎_elim (λ e. n (subst (λ z. Contains xs z) (sym e) i)) (λ k. contains_nothing v k) (number_cases x v [] j))

pub words_stand : (g : Sig) → IsSignature g → (bases : List (List ℕ)) (h : Sig) (names : List NameId) → AreFreshNames g bases h names → WordsStand g h names
words_stand g s _ _ _ no_name = record { on = names_none g s; sort_names = refl; new = All-nil (IsNewName g g); distinct = tt }
words_stand g s _ i _ (one_more_name {bases = bases} {names = names} {h = h} {base = base} {name = name} a f) =
    let w = words_stand g s bases h names a in
    let v = fresh_names h i base name w.on.stands f in
    record {
      on = names_then g h i w.on v;
      sort_names = ap (λ (z : Sig). z.sort_names) f.taken ∙ w.sort_names;
      new = All-push (IsNewName g i) names name (All-weaker (IsNewName g h) (IsNewName g i) (λ n k. new_name_on g h i n v k) names w.new) (fresh_is_new g h i base name w.on v f);
      distinct = subst AreDistinct (sym (map-append (λ (n : NameId). n.0) names (name ∷ []))) (distinct_with (map (λ (n : NameId). n.0) names) name.0 w.distinct (other_than g h i names base name w v f));
    }

-- ---- functions that were there
-- the functions over any sort have the names of those over Bool
named_alike : (texts : List (List ℕ)) (s : SortId) (j : ℕ) (f : Function) → slice_get (built_ins texts (sort_rows s)) j ≡ Some f → (e : Function) × (slice_get (built_ins texts (sort_rows bool_sort)) j ≡ Some e) × (e.name ≡ f.name)
unfolding sort_rows
named_alike texts s zero f h = (_, refl, same h)
  where
    same : {x y : Function} → Some x ≡ Some y → x.name ≡ y.name
    same e = cc
named_alike texts s (suc zero) f h = (_, refl, same h)
  where
    same : {x y : Function} → Some x ≡ Some y → x.name ≡ y.name
    same e = cc
named_alike texts s (suc (suc zero)) f h = (_, refl, same h)
  where
    same : {x y : Function} → Some x ≡ Some y → x.name ≡ y.name
    same e = cc
named_alike texts s (suc (suc (suc j))) f h = absurd cc

-- their names are taken
pub over_sort_taken : (g : Sig) → IsSignature g → (s : SortId) (j : ℕ) (f : Function) → slice_get (built_ins g.texts (sort_rows s)) j ≡ Some f → Contains (map (λ (e : Function). e.name) g.functions) f.name
over_sort_taken g stands s j f at =
    let e = named_alike g.texts s j f at in
    let r = mapped_at (built_in g.texts) (sort_rows bool_sort) j e.0 e.1 in
    let pos = pos_within g stands in
    let some_sort : 0 < length g.sorts = omega (arith, pos) in
    let there = all_at (λ r. Contains g.functions (built_in g.texts r)) (sort_rows bool_sort) j r.0 (stands.rows.over_sorts bool_sort (some_sort)) r.1.0 in
    subst (λ z. Contains (map (λ (x : Function). x.name) g.functions) z) (ap (λ (x : Function). x.name) (sym r.1.1) ∙ e.2) (map_contains (λ (x : Function). x.name) g.functions (built_in g.texts r.0) there)

-- the functions behind a new sort
function_taken : (g named : Sig) → IsSignature g → GrowsByNames g named → (n : NameId) (k : ℕ) (e : Function) → slice_get (with_sort named n).functions k ≡ Some e → Contains g.taken e.name
function_taken g named s on n k e at = ⊎_elim
    (λ a. all_at (λ (f : Function). Contains g.taken f.name) g.functions k e s.functions_taken (subst (λ fs. slice_get fs k ≡ Some e) on.functions a))
    (λ b.
    let m = contains_map (λ (f : Function). f.name) named.functions e.name (over_sort_taken named on.stands (record { 0 = length named.sorts }) b.0 e b.1) in
    subst (λ z. Contains g.taken z) (sym m.1.1)
    (All-contains (λ (f : Function). Contains g.taken f.name) g.functions m.0 s.functions_taken (subst (λ fs. Contains fs m.0) on.functions m.1.0)))
    (read_appended named.functions (built_ins named.texts (sort_rows (record { 0 = length named.sorts }))) k e at)

-- ---- the functions of the sort
-- their names, without the sort's and with the one of `empty` in another place
pub function_names_are : (w : StackWords) (s : SortId) (n : ℕ) → map (λ (f : Function). f.name) (struct_functions s n (constructors_declared w s)) ≡ w.push ∷ w.empty ∷ w.pc ∷ (map (λ f. f.0) w.fields ++ w.rest ∷ w.is_push ∷ [])
function_names_are w s n = ap (λ l. w.push ∷ w.empty ∷ w.pc ∷ l) (front w.fields (declared_function w.is_push (s ∷ []) bool_sort ∷ []))
  where
    front : (fs : List (NameId × SortId)) (more : List Function) → map (λ (f : Function). f.name) ((projections_of s (map named_field fs ++ (Some w.rest, s) ∷ []) ++ []) ++ more) ≡ map (λ f. f.0) fs ++ w.rest ∷ map (λ (f : Function). f.name) more
    front [] more = refl
    front (f ∷ fs) more = ap (λ l. f.0 ∷ l) (front fs more)

moved_distinct : (p c e : ℕ) (qs : List ℕ) → AreDistinct (p ∷ c ∷ (qs ++ e ∷ [])) → AreDistinct (p ∷ e ∷ c ∷ qs)
moved_distinct p c e qs d = (
  λ i. ⊎_elim
      (λ q. d.0 (number_later c p (qs ++ e ∷ []) (Contains-append_right qs (e ∷ []) p (subst (λ z. Contains (e ∷ []) z) q (number_first e [])))))
      (λ j. ⊎_elim (λ q. d.0 (subst (λ z. Contains (c ∷ (qs ++ e ∷ [])) z) q (number_first c (qs ++ e ∷ [])))) (λ k. d.0 (number_later c p (qs ++ e ∷ []) (Contains-append_left qs (e ∷ []) p k))) (number_cases c p qs j))
      (number_cases e p (c ∷ qs) i),
  (
    λ i. ⊎_elim
        (λ q. d.1.0 (Contains-append_right qs (e ∷ []) c (subst (λ z. Contains (e ∷ []) z) (sym q) (number_first e []))))
        (λ j. distinct_last qs e d.1.1 j)
        (number_cases c e qs i),
    ((λ i. d.1.0 (Contains-append_left qs (e ∷ []) c i)), distinct_front qs (e ∷ []) d.1.1),
  ),
)

pub moved_behind : (p c e x : NameId) (qs : List NameId) → Contains (p ∷ e ∷ c ∷ qs) x → Contains (p ∷ c ∷ (qs ++ e ∷ [])) x
moved_behind p c e x qs i = ⊎_elim
    (λ q. subst (λ z. Contains (p ∷ c ∷ (qs ++ e ∷ [])) z) q (contains_first p (c ∷ (qs ++ e ∷ []))))
    (λ j. contains_later p x (c ∷ (qs ++ e ∷ [])) (⊎_elim
    (λ q. contains_later c x (qs ++ e ∷ []) (Contains-append_right qs (e ∷ []) x (subst (λ z. Contains (e ∷ []) z) q (contains_first e []))))
    (λ k. ⊎_elim
    (λ q. subst (λ z. Contains (c ∷ (qs ++ e ∷ [])) z) q (contains_first c (qs ++ e ∷ [])))
    (λ m. contains_later c x (qs ++ e ∷ []) (Contains-append_left qs (e ∷ []) x m))
    (contains_cases c x qs k))
    (contains_cases e x (c ∷ qs) j)))
    (contains_cases p x (e ∷ c ∷ qs) i)

moved_among : (s p c e x : NameId) (qs : List NameId) → Contains (p ∷ e ∷ c ∷ qs) x → Contains (s ∷ p ∷ c ∷ (qs ++ e ∷ [])) x
moved_among s p c e x qs i = contains_later s x (p ∷ c ∷ (qs ++ e ∷ [])) (moved_behind p c e x qs i)

-- an entry stands at one place
at_place : (ns : List ℕ) (i x : ℕ) → slice_get ns i ≡ Some x → Contains ns x
at_place ns i x e = (i, slice_get_within ns i x e, get_or_from_slice_get ns i x x e)

distinct_places : (ns : List ℕ) (i j x : ℕ) → AreDistinct ns → slice_get ns i ≡ Some x → slice_get ns j ≡ Some x → i ≡ j
distinct_places [] i j x d a b = cc
distinct_places (n ∷ ns) zero zero x d a b = refl
distinct_places (n ∷ ns) zero (suc j) x d a b = absurd (d.0 (subst (λ z. Contains ns z) (sym (some_is a)) (at_place ns j x b)))
distinct_places (n ∷ ns) (suc i) zero x d a b = absurd (d.0 (subst (λ z. Contains ns z) (sym (some_is b)) (at_place ns i x a)))
distinct_places (n ∷ ns) (suc i) (suc j) x d a b = ap suc (distinct_places ns i j x d.1 a b)

module _ (g named : Sig) (s : IsSignature g) (w : StackWords) (stand : WordsStand g named (in_order w)) where
  abbrev sort : SortId
  sort = record { 0 = length named.sorts }

  abbrev others : List NameId
  others = map (λ f. f.0) w.fields ++ w.rest ∷ w.is_push ∷ []

  same_order : in_order w ≡ w.sort ∷ w.push ∷ w.pc ∷ (others ++ w.empty ∷ [])
  same_order = ap (λ l. w.sort ∷ w.push ∷ w.pc ∷ l) (sym (append_assoc (map (λ f. f.0) w.fields) (w.rest ∷ w.is_push ∷ []) (w.empty ∷ [])))

  pub names_differ : AreDistinct (w.push.0 ∷ w.empty.0 ∷ w.pc.0 ∷ map (λ (n : NameId). n.0) others)
  names_differ =
      moved_distinct w.push.0 w.pc.0 w.empty.0 (map (λ (n : NameId). n.0) others)
      (subst (λ l. AreDistinct (w.push.0 ∷ w.pc.0 ∷ l)) (map-append (λ (n : NameId). n.0) others (w.empty ∷ []))
      (subst (λ l. AreDistinct (map (λ (n : NameId). n.0) l)) same_order stand.distinct).1)

  module _ (n : ℕ) where
    abbrev fs : List Function
    fs = struct_functions sort n (constructors_declared w sort)

    new_names : (f : Function) → Contains fs f → IsNewName g named f.name
    new_names f i =
        All-contains (IsNewName g named) (in_order w) f.name stand.new
        (subst (λ l. Contains l f.name) (sym same_order)
        (moved_among w.sort w.push w.pc w.empty f.name others (subst (λ l. Contains l f.name) (function_names_are w sort n) (map_contains (λ (e : Function). e.name) fs f i))))

    keys_differ : HaveOnePlace (map key_of fs)
    keys_differ i j x a b =
        let e = mapped_at key_of fs i x a in
        let f = mapped_at key_of fs j x b in
        distinct_places (map (λ (z : NameId). z.0) (map (λ (z : Function). z.name) fs)) i j x.name.0
        (subst (λ l. AreDistinct (map (λ (z : NameId). z.0) l)) (sym (function_names_are w sort n)) names_differ)
        (number_read i e.0 x e.1.0 (ap (λ (k : Key). k.name.0) e.1.1)) (number_read j f.0 x f.1.0 (ap (λ (k : Key). k.name.0) f.1.1))
      where
        read_mapped : {A B : Type 0} (h : A → B) (xs : List A) (k : ℕ) (y : A) → slice_get xs k ≡ Some y → slice_get (map h xs) k ≡ Some (h y)
        read_mapped h [] k y e = cc
        read_mapped h (z ∷ xs) zero y e = ap (λ t. Some (h t)) (some_is e)
        read_mapped h (z ∷ xs) (suc k) y e = read_mapped h xs k y e

        number_read : (k : ℕ) (e : Function) (x : Key) → slice_get fs k ≡ Some e → x.name.0 ≡ e.name.0 → slice_get (map (λ (z : NameId). z.0) (map (λ (z : Function). z.name) fs)) k ≡ Some x.name.0
        number_read k e x at q =
            read_mapped (λ (z : NameId). z.0) (map (λ (z : Function). z.name) fs) k e.name (read_mapped (λ (z : Function). z.name) fs k e at) ∙ ap (λ m. Some m) (sym q)

    absent_each : (f : Function) → Contains fs f → (k : ℕ) → HasKey (with_sort named w.sort).functions (key_of f) k → ⊥
    absent_each f i k h =
        let new = new_names f i in
        not_taken g new.text named.texts f.name s new.free (stand.on.grown.new_texts, stand.on.grown.texts) new.named
        (subst (λ z. Contains g.taken z) (ap (λ (x : Key). x.name) h.2) (function_taken g named s stand.on w.sort k h.0 h.1))

  pub stack_is_new : IsNewStruct named w.sort (constructors_declared w sort)
  stack_is_new = record {
    different = keys_differ (length (with_sort named w.sort).functions);
    absent = all_from (λ f. (k : ℕ) → HasKey (with_sort named w.sort).functions (key_of f) k → ⊥) (struct_functions sort (length (with_sort named w.sort).functions) (constructors_declared w sort)) (absent_each (length (with_sort named w.sort).functions));
  }

  -- no sort has its name
  pub sort_absent : ¬ (IsName named.sort_names w.sort)
  sort_absent h =
      let new = All-contains (IsNewName g named) (in_order w) w.sort stand.new (contains_first w.sort (w.push ∷ w.pc ∷ (map (λ f. f.0) w.fields ++ w.rest ∷ w.is_push ∷ w.empty ∷ []))) in
      not_taken g new.text named.texts w.sort s new.free (stand.on.grown.new_texts, stand.on.grown.texts) new.named
      (All-contains (λ (e : NameId × SortId). Contains g.taken e.0) g.sort_names (w.sort, h.0) s.sorts_taken (subst (λ z. Contains z (w.sort, h.0)) stand.sort_names h.1))

  -- ---- the ids are below the signature's
  word_within : (n : NameId) → Contains (in_order w) n → n.0 < length named.texts
  word_within n i = let new = All-contains (IsNewName g named) (in_order w) n stand.new i in slice_get_within named.texts n.0 new.text new.named

  abbrev FieldWithin : Option NameId × SortId → Type 0
  FieldWithin f = (f.1.0 < length named.sorts + 1) × IfSome f.0 (λ n. n.0 < length named.texts)

  columns_within : (fs : List (NameId × SortId)) → ((n : NameId) → Contains (map (λ f. f.0) fs) n → n.0 < length named.texts) → All (λ (s : SortId). s.0 < length named.sorts) (map (λ f. f.1) fs) → All FieldWithin (map named_field fs)
  columns_within [] h k = All-nil FieldWithin
  columns_within (f ∷ fs) h k =
      let l = All-head (λ (s : SortId). s.0 < length named.sorts) f.1 (map (λ f. f.1) fs) k in
      All-cons FieldWithin (named_field f) (map named_field fs) (omega (arith, l), h f.0 (contains_first f.0 (map (λ f. f.0) fs)))
      (columns_within fs (λ n i. h n (contains_later f.0 n (map (λ f. f.0) fs) i)) (All-tail (λ (s : SortId). s.0 < length named.sorts) f.1 (map (λ f. f.1) fs) k))

  abbrev IsWithin : Con → Type 0
  IsWithin = IsConWithin (length named.texts) (length named.sorts + 1)

  abbrev ends : List NameId
  ends = w.rest ∷ w.is_push ∷ w.empty ∷ []

  abbrev behind_pc : List NameId
  behind_pc = map (λ f. f.0) w.fields ++ ends

  abbrev behind_push : List NameId
  behind_push = w.pc ∷ behind_pc

  behind_sort : (n : NameId) → Contains (w.push ∷ behind_push) n → Contains (in_order w) n
  behind_sort n i = contains_later w.sort n (w.push ∷ behind_push) i

  later : (n : NameId) → Contains behind_pc n → Contains (in_order w) n
  later n i = behind_sort n (contains_later w.push n behind_push (contains_later w.pc n behind_pc i))

  last : (n : NameId) → Contains ends n → Contains (in_order w) n
  last n i = later n (Contains-append_right (map (λ f. f.0) w.fields) ends n i)

  pos : 1 < length named.sorts
  pos = pos_within named stand.on.stands

  pub constructors_within : All (λ (s : SortId). s.0 < length named.sorts) (map (λ f. f.1) w.fields) → All (IsConWithin (length named.texts) (length named.sorts + 1)) (constructors_declared w sort)
  constructors_within k =
      All-cons IsWithin (push_declared w.push w.pc w.fields w.rest w.is_push sort) (empty_declared w.empty ∷ [])
      (record {
        named = word_within w.push (behind_sort w.push (contains_first w.push behind_push));
        over = All-cons FieldWithin (Some w.pc, pos_sort) (map named_field w.fields ++ (Some w.rest, sort) ∷ []) (omega (arith, pos), word_within w.pc (behind_sort w.pc (contains_later w.push w.pc behind_push (contains_first w.pc behind_pc))))
            (All-append FieldWithin (map named_field w.fields) ((Some w.rest, sort) ∷ []) (columns_within w.fields (λ n i. word_within n (later n (Contains-append_left (map (λ f. f.0) w.fields) ends n i))) k)
            (All-cons FieldWithin (Some w.rest, sort) [] (omega arith, word_within w.rest (last w.rest (contains_first w.rest (w.is_push ∷ w.empty ∷ [])))) (All-nil FieldWithin)));
        recognised = word_within w.is_push (last w.is_push (contains_later w.rest w.is_push (w.is_push ∷ w.empty ∷ []) (contains_first w.is_push (w.empty ∷ []))));
      })
      (All-cons IsWithin (empty_declared w.empty) []
      (record {
        named = word_within w.empty (last w.empty (contains_later w.rest w.empty (w.is_push ∷ w.empty ∷ []) (contains_later w.is_push w.empty (w.empty ∷ []) (contains_first w.empty []))));
        over = All-nil FieldWithin;
        recognised = tt;
      })
      (All-nil IsWithin))

  pub sort_word_within : w.sort.0 < length named.texts
  sort_word_within = word_within w.sort (contains_first w.sort (w.push ∷ w.pc ∷ (map (λ f. f.0) w.fields ++ w.rest ∷ w.is_push ∷ w.empty ∷ [])))

-- the columns' sorts are the signature's
pub fields_within : (g named : Sig) (kinds : List (NameId × SortId)) (w : StackWords) → AreWords g kinds named w → GrowsByNames g named → All (IsKindIn g) kinds → All (λ (s : SortId). s.0 < length named.sorts) (map (λ f. f.1) w.fields)
fields_within g named kinds w a on k =
    subst (All (λ (s : SortId). s.0 < length named.sorts)) (sym a.sorts)
    (subst (λ n. All (λ (s : SortId). s.0 < n) (map (λ (k : NameId × SortId). k.1) kinds)) (sym (ap length on.sorts)) (each kinds k))
  where
    each : (kinds : List (NameId × SortId)) → All (IsKindIn g) kinds → All (λ (s : SortId). s.0 < length g.sorts) (map (λ (k : NameId × SortId). k.1) kinds)
    each [] k = All-nil (λ (s : SortId). s.0 < length g.sorts)
    each (x ∷ kinds) k = All-cons (λ (s : SortId). s.0 < length g.sorts) x.1 (map (λ (k : NameId × SortId). k.1) kinds) (All-head (IsKindIn g) x kinds k).1 (each kinds (All-tail (IsKindIn g) x kinds k))

-- ---- what is added
pub stack_sort_there : (g : Sig) (kinds : List (NameId × SortId)) (h : Sig) (sort : SortId) → AddsStackSort g kinds h sort → sort.0 < length h.sorts
stack_sort_there g kinds h sort a =
    let w = a.words in
    let st = declared_stack a.named w.sort w.push w.pc w.rest w.is_push w.empty w.fields in
    let l = slice_get_within _ (length a.named.sorts) st.info st.sort_at in
    subst (λ (z : Sig). sort.0 < length z.sorts) (sym a.is) (subst (λ n. n < length (with_stack_sort a.named w).sorts) (sym a.number) l)

struct_long : (w : StackWords) (s : SortId) (n : ℕ) → length (struct_functions s n (constructors_declared w s)) ≡ length w.fields + 5
struct_long w s n =
    let e = sym (length-map (struct_functions s n (constructors_declared w s)) (λ (f : Function). f.name)) ∙ ap length (function_names_are w s n) in
    let f = length-append (map (λ f. f.0) w.fields) (w.rest ∷ w.is_push ∷ []) in
    let l = length-map w.fields (λ f. f.0) in
    omega (arith, e, f, l)

pub counted : (g : Sig) (kinds : List (NameId × SortId)) (h : Sig) (sort : SortId) (a : AddsStackSort g kinds h sort) → length h.functions ≡ length (with_sort a.named a.words.sort).functions + (length kinds + 5)
counted g kinds h sort a =
    let w = a.words in
    let n = length (with_sort a.named w.sort).functions in
    let long = sym (length-map w.fields (λ f. f.1)) ∙ ap length a.are_words.sorts ∙ length-map kinds (λ k. k.1) in
    let e = ap (λ (z : Sig). length z.functions) a.is ∙ length-append (with_sort a.named w.sort).functions (struct_functions (record { 0 = length a.named.sorts }) n (constructors_declared w (record { 0 = length a.named.sorts }))) in
    let s = struct_long w (record { 0 = length a.named.sorts }) n in
    omega (arith, e, s, long)

pub adds_sort_grown : (g : Sig) (w : StackWords) → IsGrown g (with_stack_sort g w)
adds_sort_grown g w = with_a_struct_sort_it_is_grown g w.sort (constructors_declared w (record { 0 = length g.sorts }))

-- numbers one after another
pub numbers_more : (a k : ℕ) → numbers_from a (k + 1) ≡ numbers_from a k ++ record { 0 = a + k } ∷ []
numbers_more a k = ap (numbers_from a) (let e : k + 1 ≡ suc k = omega arith in e) ∙ more a k
  where
    more : (a k : ℕ) → numbers_from a (suc k) ≡ numbers_from a k ++ record { 0 = a + k } ∷ []
    more a zero = ap (λ (n : ℕ). record { 0 = n } ∷ []) (let e : a ≡ a + 0 = omega arith in e)
    more a (suc k) = ap (λ l. record { 0 = a } ∷ l) (more (a + 1) k ∙ ap (λ (n : ℕ). numbers_from (a + 1) k ++ record { 0 = n } ∷ []) (let e : a + 1 + k ≡ a + suc k = omega arith in e))

pub stack_declared : (g : Sig) (kinds : List (NameId × SortId)) (s1 h : Sig) (sort : SortId) (first columns count : ℕ) (stack v : VarId) (y : StackIds) (a : AddsStackSort g kinds s1 sort) → AddsParameter s1 sort h stack → columns ≡ length kinds → count ≡ length s1.functions → first ≡ count - 5 - columns
    → y ≡ ids_behind sort.0 first columns → v ≡ stack → DeclaresStack g kinds h y v
stack_declared g kinds s1 h sort first columns count stack v y a p c n f e q =
    subst (λ z. DeclaresStack g kinds h z v) (sym e) (subst (λ z. DeclaresStack g kinds h (ids_behind sort.0 first columns) z) (sym q)
    (record {
      with_sort_only = s1;
      sort = a;
      parameter = p;
      ids =
          let k = counted g kinds s1 sort a in
          let at : first ≡ length (with_sort a.named a.words.sort).functions = omega (arith, k, c, n, f) in
          ap₂ (λ d m. ids_behind d m columns) a.number at ∙ ap (ids_behind (length a.named.sorts) (length (with_sort a.named a.words.sort).functions)) c;
    }))
