-- The names of a signature's sorts, after sorts are added.
use Rattle.std.proofs.Common.{◌≡◌, ◌<◌, ◌+◌, ℕ, zero, suc, Bool, true, false, cond, List, [], ◌∷◌, ◌++◌, length, map, take, get_or, refl, ap, sym, ◌∙◌, subst, arith, append_assoc}
use Rattle.std.specs.Prelude.{Option, Some, None, slice_get, bytes_eq}
use Rattle.std.specs.List.{Contains, list_any}
use Rattle.std.proofs.lemmas.Option.{none-some, same_Some}
use Rattle.std.proofs.lemmas.List.{map-append, length-append, length-map, append-nil}
use Rattle.std.proofs.lemmas.Slice.Eq.{bytes_eq-Decides}
use Rattle.std.proofs.Math.Seq.{take-append_seam}
use Rattle.std.proofs.lemmas.List.Elements.{All-head, All-tail}
use Rattle.std.specs.List.{All}
use Rattle.std.specs.Str.{IsUtf8}
use Rattle.data_theory.specs.declared.ids.NameId.{NameId}
use Rattle.data_theory.specs.declared.ids.SortId.{SortId}
use Rattle.data_theory.specs.Terms.{Sort, list, named}
use Rattle.data_theory.specs.Declarations.{Construction}
use Rattle.data_theory.specs.FirstNames.{first_names}
use Rattle.data_theory.specs.Places.{HaveOnePlace}
use Rattle.data_theory.specs.Names.{with_text, with_texts}
use Rattle.data_theory.specs.Sorts as sorts
use Rattle.data_theory.specs.Sorts.{SortInfo, abstract_sort, list_sort, IsListOver, IsAnyListOver}
use Rattle.data_theory.specs.SortNames.{IsName}
use Rattle.data_theory.specs.IdSorts.{constructions, construction_of, meaning_of, sort_meant, HasKind}
use Rattle.data_theory.specs.IdTerms.{sort_under, IsGrown}
use Rattle.data_theory.specs.IdTables.{IsTable}
use Rattle.data_theory.specs.Complete.{IsComplete}
use Rattle.data_theory.specs.WholeSignatures.{IsSignature}
use Rattle.data_theory.specs.Signature.{Sig, first_signature, with_sort, with_alias, with_list}
use Rattle.data_theory.proofs.PlaceLemmas.{read_last}
use Rattle.data_theory.proofs.IdSortLemmas.{sorts_mean_their_kinds, growth_keeps_meant_sorts}
use Rattle.data_theory.proofs.IdGrowthLemmas.{with_a_sort_it_is_grown, with_a_list_sort_it_is_grown}
use Rattle.data_theory.proofs.IdTableLemmas.{declared_sorts_keep_the_tables}
use Rattle.sort_table.specs.Expressions.{Name}
use Rattle.sort_table.specs.NamedLists.{first_named}
use Rattle.sort_table.specs.SortMeanings.{Kind}
use Rattle.sort_table.specs.SignatureVocabularies.{text_under, sort_name_under}
use Rattle.sort_table.specs.DeclaringSorts.{first_four}
use Rattle.sort_table.specs.NamedSorts.{sort_names_of, sort_count, IsNamed, AreIdsOf}
use Rattle.sort_table.proofs.Choices.{chosen}
use Rattle.sort_table.proofs.AliasEdges.{take_read}
use Rattle.sort_table.proofs.GrowingSignatures.{map_as, same_sort_name}

-- ---- what was there stays
pub names_kept : (g h : Sig) → IsComplete g → IsGrown g h → map (sort_name_under h) g.sort_names ≡ sort_names_of g
names_kept g h complete grown =
    map_as (λ (e : NameId × SortId). (e.0.0 < length g.texts) × (e.1.0 < length g.sorts)) (sort_name_under h) (sort_name_under g) (same_sort_name g h complete grown) g.sort_names complete.within.sort_names

constructions_behind : (ss more : List SortInfo) → constructions (ss ++ more) ≡ constructions ss ++ constructions more
constructions_behind [] more = refl
constructions_behind (s ∷ ss) more = ap (λ l. construction_of s.kind ++ l) (constructions_behind ss more) ∙ sym (append_assoc (construction_of s.kind) (constructions ss) (constructions more))

-- ---- a list sort more
pub names_with_list : (g : Sig) (e : SortId) → IsComplete g → sort_names_of (with_list g e) ≡ sort_names_of g
names_with_list g e complete = names_kept g (with_list g e) complete (with_a_list_sort_it_is_grown g e)

pub count_with_list : (g : Sig) (e : SortId) → sort_count (with_list g e) ≡ sort_count g
count_with_list g e = ap length (constructions_behind g.sorts (list_sort e ∷ []) ∙ append-nil (constructions g.sorts))

pub sort_with_list : (g : Sig) (e s : SortId) → s.0 < length g.sorts → sort_under (with_list g e) s ≡ sort_under g s
sort_with_list g e s l = growth_keeps_meant_sorts g (with_list g e) (with_a_list_sort_it_is_grown g e) s l

-- a list sort means the lists over what its element means
pub list_meaning : (h : Sig) (e l : SortId) → IsTable h → IsListOver h.sorts e l → sort_under h l ≡ list (sort_under h e)
list_meaning h e l table over = sorts_mean_their_kinds h.sorts table.sorts l over.0 over.1 ∙ ap (meaning_of (sort_meant h.sorts) (length (constructions (take l.0 h.sorts)))) over.2

-- ---- the sorts that are always there
pub kind_meaning : (g : Sig) (i : ℕ) (k : sorts.Kind) → IsTable g → HasKind g.sorts i k → sort_under g (record { 0 = i }) ≡ meaning_of (sort_meant g.sorts) (length (constructions (take i g.sorts))) k
kind_meaning g i k table has = sorts_mean_their_kinds g.sorts table.sorts (record { 0 = i }) has.0 has.1 ∙ ap (meaning_of (sort_meant g.sorts) (length (constructions (take i g.sorts)))) has.2

pub built_in_sort : (g : Sig) → IsTable g → (i : ℕ) → i < 4 → Some (sort_under g (record { 0 = i })) ≡ slice_get first_four i
built_in_sort g table zero l = ap (λ (s : Sort). Some s) (kind_meaning g 0 sorts.booleans table ((table.sorts.boolean_first 0).1 refl))
built_in_sort g table (suc zero) l = ap (λ (s : Sort). Some s) (kind_meaning g 1 sorts.positives table ((table.sorts.positive_second 1).1 refl))
built_in_sort g table (suc (suc zero)) l = ap (λ (s : Sort). Some s) (kind_meaning g 2 sorts.naturals table ((table.sorts.natural_third 2).1 refl))
built_in_sort g table (suc (suc (suc zero))) l = ap (λ (s : Sort). Some s) (kind_meaning g 3 sorts.integers table ((table.sorts.integer_fourth 3).1 refl))
built_in_sort g table (suc (suc (suc (suc i)))) l = absurd (omega (arith, l))

-- ---- a declared sort more
pub count_with_sort : (g : Sig) (n : NameId) → sort_count (with_sort g n) ≡ suc (sort_count g)
count_with_sort g n =
    let l : length (constructions g.sorts ++ sorts_one) ≡ length (constructions g.sorts) + 1 = length-append (constructions g.sorts) sorts_one in
    ap length (constructions_behind g.sorts (abstract_sort n ∷ [])) ∙ omega (arith, l)
  where
    sorts_one : List Construction
    sorts_one = constructions (abstract_sort n ∷ [])

new_sort_meaning : (g : Sig) (n : NameId) → IsTable (with_sort g n) → sort_under (with_sort g n) (record { 0 = length g.sorts }) ≡ named (sort_count g)
new_sort_meaning g n table =
    sorts_mean_their_kinds (g.sorts ++ abstract_sort n ∷ []) table.sorts (record { 0 = length g.sorts }) (abstract_sort n) (read_last g.sorts (abstract_sort n))
    ∙ ap (λ (ss : List SortInfo). named (length (constructions ss))) (take-append_seam g.sorts (abstract_sort n ∷ []))

pub names_with_sort : (g : Sig) (n : NameId) → IsComplete g → IsTable g → sort_names_of (with_sort g n) ≡ sort_names_of g ++ (text_under g n, named (sort_count g)) ∷ []
names_with_sort g n complete table =
    let h : Sig = with_sort g n in
    let id : SortId = record { 0 = length g.sorts } in
    let new : sort_under h id ≡ named (sort_count g) = new_sort_meaning g n (declared_sorts_keep_the_tables g n complete table) in
    map-append (sort_name_under h) g.sort_names ((n, id) ∷ [])
    ∙ ((λ i. names_kept g h complete (with_a_sort_it_is_grown g n) i ++ (text_under g n, new i) ∷ []))

-- ---- an alias more
pub names_with_alias : (g : Sig) (n : NameId) (s : SortId) → sort_names_of (with_alias g n s) ≡ sort_names_of g ++ (text_under g n, sort_under g s) ∷ []
names_with_alias g n s = map-append (sort_name_under g) g.sort_names ((n, s) ∷ [])

-- ---- look-ups
-- the id of a text is that of the place where it stands
text_is : (texts : List (List ℕ)) (i : ℕ) (t : List ℕ) → slice_get texts i ≡ Some t → get_or texts i [] ≡ t
text_is [] i t h = absurd (none-some t h)
text_is (x ∷ xs) zero t h = same_Some x t h
text_is (x ∷ xs) (suc i) t h = text_is xs i t h

pub text_read : (texts : List (List ℕ)) (i : ℕ) → i < length texts → slice_get texts i ≡ Some (get_or texts i [])
text_read [] i l = absurd (omega (arith, l))
text_read (x ∷ xs) zero l = refl
text_read (x ∷ xs) (suc i) l = let m : i < length xs = omega (arith, l) in text_read xs i m

pub text_of_id : (g : Sig) (i : NameId) (n : Name) → slice_get g.texts i.0 ≡ Some n → text_under g i ≡ n
text_of_id g i n h = text_is g.texts i.0 n h

module _ (g : Sig) (stands : IsSignature g) (i : NameId) (n : Name) (at : slice_get g.texts i.0 ≡ Some n) where
  same_id : (j : NameId) → j.0 < length g.texts → text_under g j ≡ n → j ≡ i
  same_id j l e =
      let there : slice_get g.texts j.0 ≡ Some n = text_read g.texts j.0 l ∙ ap (λ (t : Name). Some t) e in
      let same : j.0 ≡ i.0 = stands.table.different j.0 i.0 n there at in
      λ k. record { 0 = same k }

  -- a name with a sort is one of the names
  named_among : (es : List (NameId × SortId)) → All (λ (e : NameId × SortId). (e.0.0 < length g.texts) × (e.1.0 < length g.sorts)) es → (s : Sort) → first_named n (map (sort_name_under g) es) ≡ Some s → IsName es i
  named_among [] all s h = absurd (none-some s h)
  named_among (e ∷ es) all s h =
      let P : NameId × SortId → Type 0 = λ d. (d.0.0 < length g.texts) × (d.1.0 < length g.sorts) in
      let rest : first_named n (map (sort_name_under g) es) ≡ Some s → IsName es i = named_among es (All-tail P e es all) s in
      let first : P e = All-head P e es all in
      chosen (bytes_eq (text_under g e.0) n) (Some (sort_under g e.1)) (first_named n (map (sort_name_under g) es)) s h
      (λ same here. (e.1, (0, omega arith, λ k. (same_id e.0 first.0 ((bytes_eq-Decides (text_under g e.0) n).0 same) k, e.1))))
      (λ other there. let r : IsName es i = rest there in let l : r.1.0 < length es = r.1.1 in (r.0, (suc r.1.0, omega (arith, l), r.1.2)))

  pub named_is_name : IsNamed g n → IsName g.sort_names i
  named_is_name has = named_among g.sort_names stands.complete.within.sort_names has.0 has.1

  tail_once : (e : NameId × SortId) (es : List (NameId × SortId)) → HaveOnePlace (map (λ (d : NameId × SortId). d.0) (e ∷ es)) → HaveOnePlace (map (λ (d : NameId × SortId). d.0) es)
  tail_once e es once j k x h l = let same : suc j ≡ suc k = once (suc j) (suc k) x h l in omega (arith, same)

  id_at : (es : List (NameId × SortId)) (j : ℕ) (s : SortId) → j < length es → get_or es j (i, s) ≡ (i, s) → slice_get (map (λ (d : NameId × SortId). d.0) es) j ≡ Some i
  id_at [] j s l e = absurd (omega (arith, l))
  id_at (d ∷ es) zero s l e = ap (λ (f : NameId × SortId). Some f.0) e
  id_at (d ∷ es) (suc j) s l e = let m : j < length es = omega (arith, l) in id_at es j s m e

  -- a name among the names has the sort that it leads to
  among_named : (es : List (NameId × SortId)) → All (λ (e : NameId × SortId). (e.0.0 < length g.texts) × (e.1.0 < length g.sorts)) es → HaveOnePlace (map (λ (d : NameId × SortId). d.0) es)
      → (s : SortId) → Contains es (i, s) → first_named n (map (sort_name_under g) es) ≡ Some (sort_under g s)
  among_named [] all once s (j, l, e) = absurd (omega (arith, l))
  among_named (d ∷ es) all once s (zero, l, e) =
      let id : d.0 ≡ i = ap (λ (f : NameId × SortId). f.0) e in
      let its : d.1 ≡ s = ap (λ (f : NameId × SortId). f.1) e in
      let text : text_under g d.0 ≡ n = ap (text_under g) id ∙ text_of_id g i n at in
      ap (λ (b : Bool). cond b (Some (sort_under g d.1)) (first_named n (map (sort_name_under g) es))) ((bytes_eq-Decides (text_under g d.0) n).1 text) ∙ ap (λ (t : SortId). Some (sort_under g t)) its
  among_named (d ∷ es) all once s (suc j, l, e) =
      let P : NameId × SortId → Type 0 = λ f. (f.0.0 < length g.texts) × (f.1.0 < length g.sorts) in
      let m : j < length es = omega (arith, l) in
      let rest : first_named n (map (sort_name_under g) es) ≡ Some (sort_under g s) = among_named es (All-tail P d es all) (tail_once d es once) s (j, m, e) in
      let first : P d = All-head P d es all in
      let not_here : bytes_eq (text_under g d.0) n ≡ true → ⊥ = λ same.
      let id : d.0 ≡ i = same_id d.0 first.0 ((bytes_eq-Decides (text_under g d.0) n).0 same) in
      let twice : 0 ≡ suc j = once 0 (suc j) i (ap (λ (x : NameId). Some x) id) (id_at es j s m e) in
      omega (arith, twice) in
      by_test (bytes_eq (text_under g d.0) n) (λ same. absurd (not_here same)) rest
    where
      by_test : (b : Bool) → (b ≡ true → sort_under g d.1 ≡ sort_under g s) → first_named n (map (sort_name_under g) es) ≡ Some (sort_under g s) → cond b (Some (sort_under g d.1)) (first_named n (map (sort_name_under g) es)) ≡ Some (sort_under g s)
      by_test true not_so h = ap (λ (t : Sort). Some t) (not_so refl)
      by_test false not_so h = h

  pub name_is_named : (s : SortId) → Contains g.sort_names (i, s) → first_named n (sort_names_of g) ≡ Some (sort_under g s)
  name_is_named s there = among_named g.sort_names stands.complete.within.sort_names stands.sort_names_differ s there

  pub new_name : ¬ (IsName g.sort_names i) → first_named n (sort_names_of g) ≡ None
  new_name absent = of_option (first_named n (sort_names_of g)) refl
    where
      of_option : (o : Option Sort) → first_named n (sort_names_of g) ≡ o → first_named n (sort_names_of g) ≡ None
      of_option None e = e
      of_option (Some s) e = absurd (absent (named_is_name (s, e)))

-- ---- ids
pub id_of_place : (texts : List (List ℕ)) (ks : List (Name × Kind)) (ids : List NameId) (place : ℕ) (n : Name) (k : Kind) (i : NameId) → AreIdsOf texts ks ids → slice_get ks place ≡ Some (n, k) → slice_get ids place ≡ Some i → slice_get texts i.0 ≡ Some n
id_of_place texts [] ids place n k i are h e = absurd (none-some (n, k) h)
id_of_place texts (r ∷ ks) [] place n k i are h e = absurd (none-some i e)
id_of_place texts (r ∷ ks) (j ∷ ids) zero n k i are h e =
    let head : slice_get texts j.0 ≡ Some r.0 = cc in
    let id : j ≡ i = same_Some j i e in
    let name : r ≡ (n, k) = same_Some r (n, k) h in
    ap (λ (l : NameId). slice_get texts l.0) (sym id) ∙ (head ∙ ap (λ (s : Name × Kind). Some s.0) name)
id_of_place texts (r ∷ ks) (j ∷ ids) (suc place) n k i are h e =
    let tail : AreIdsOf texts ks ids = cc in
    id_of_place texts ks ids place n k i tail h e

pub as_many_ids : (texts : List (List ℕ)) (ks : List (Name × Kind)) (ids : List NameId) → AreIdsOf texts ks ids → length ids ≡ length ks
as_many_ids texts ks ids are = sym (length-map ids (λ (i : NameId). slice_get texts i.0)) ∙ (ap length are ∙ length-map ks (λ (r : Name × Kind). Some r.0))

-- ---- texts are entered one after the other
read_behind : (texts more : List (List ℕ)) (i : ℕ) (t : List ℕ) → slice_get texts i ≡ Some t → slice_get (texts ++ more) i ≡ Some t
read_behind [] more i t h = absurd (none-some t h)
read_behind (x ∷ xs) more zero t h = h
read_behind (x ∷ xs) more (suc i) t h = read_behind xs more i t h

pub read_with : (texts : List (List ℕ)) (u : List ℕ) (i : ℕ) (t : List ℕ) → slice_get texts i ≡ Some t → slice_get (with_text texts u) i ≡ Some t
read_with texts u i t h = by_test (list_any (bytes_eq u) texts)
  where
    by_test : (b : Bool) → slice_get (cond b texts (texts ++ u ∷ [])) i ≡ Some t
    by_test true = h
    by_test false = read_behind texts (u ∷ []) i t h

ids_stay : (texts : List (List ℕ)) (u : List ℕ) (ks : List (Name × Kind)) (ids : List NameId) → AreIdsOf texts ks ids → AreIdsOf (with_text texts u) ks ids
ids_stay texts u [] [] are = refl
ids_stay texts u [] (j ∷ ids) are = let never : ⊥ = cc in absurd never
ids_stay texts u (r ∷ ks) [] are = let never : ⊥ = cc in absurd never
ids_stay texts u (r ∷ ks) (j ∷ ids) are =
    let head : slice_get texts j.0 ≡ Some r.0 = cc in
    let tail : AreIdsOf texts ks ids = cc in
    let here : slice_get (with_text texts u) j.0 ≡ Some r.0 = read_with texts u j.0 r.0 head in
    let rest : AreIdsOf (with_text texts u) ks ids = ids_stay texts u ks ids tail in
    λ i. here i ∷ rest i

ids_stay_all : (texts ts : List (List ℕ)) (ks : List (Name × Kind)) (ids : List NameId) → AreIdsOf texts ks ids → AreIdsOf (with_texts texts ts) ks ids
ids_stay_all texts [] ks ids are = are
ids_stay_all texts (t ∷ ts) ks ids are = ids_stay_all (with_text texts t) ts ks ids (ids_stay texts t ks ids are)

-- ---- the first signature
pub first_ids : (given : List (List ℕ)) (ks : List (Name × Kind)) (ids : List NameId) → AreIdsOf given ks ids → AreIdsOf (first_signature given).texts ks ids
unfolding first_signature
first_ids given ks ids are = ids_stay_all given first_names ks ids are

pub first_has_no_names : (given : List (List ℕ)) → (first_signature given).sort_names ≡ []
unfolding first_signature
first_has_no_names given = refl

pub first_has_no_sorts : (given : List (List ℕ)) → sort_count (first_signature given) ≡ 0
unfolding first_signature
first_has_no_sorts given = refl

pub ids_more : (texts new : List (List ℕ)) (ks : List (Name × Kind)) (i : ℕ) (n : Name) (k : Kind) (ids more : List NameId) (j : NameId) → slice_get ks i ≡ Some (n, k) → AreIdsOf texts (take i ks) ids → new ≡ with_text texts n → slice_get new j.0 ≡ Some n → more ≡ ids ++ j ∷ []
    → AreIdsOf new (take (i + 1) ks) more
ids_more texts new ks i n k ids more j at are is there pushed =
    let kept : AreIdsOf new (take i ks) ids = subst (λ (ts : List (List ℕ)). AreIdsOf ts (take i ks) ids) (sym is) (ids_stay texts n (take i ks) ids are) in
    let rows : take (i + 1) ks ≡ take i ks ++ (n, k) ∷ [] = let s : i + 1 ≡ suc i = omega arith in ap (λ (m : ℕ). take m ks) s ∙ take_read ks i (n, k) at in
    ap (map (λ (m : NameId). slice_get new m.0)) pushed ∙ (map-append (λ (m : NameId). slice_get new m.0) ids (j ∷ [])
    ∙ ((λ m. kept m ++ there m ∷ []) ∙ (sym (map-append (λ (r : Name × Kind). Some r.0) (take i ks) ((n, k) ∷ [])) ∙ ap (map (λ (r : Name × Kind). Some r.0)) (sym rows))))

texts_more : (texts ts : List (List ℕ)) (t : List ℕ) → with_texts texts (ts ++ t ∷ []) ≡ with_text (with_texts texts ts) t
texts_more texts [] t = refl
texts_more texts (u ∷ ts) t = texts_more (with_text texts u) ts t

pub entered_more : (old texts new : List (List ℕ)) (ks : List (Name × Kind)) (i : ℕ) (n : Name) (k : Kind) → slice_get ks i ≡ Some (n, k) → texts ≡ with_texts old (map (λ (r : Name × Kind). r.0) (take i ks)) → new ≡ with_text texts n
    → new ≡ with_texts old (map (λ (r : Name × Kind). r.0) (take (i + 1) ks))
entered_more old texts new ks i n k at so is =
    let rows : take (i + 1) ks ≡ take i ks ++ (n, k) ∷ [] = let s : i + 1 ≡ suc i = omega arith in ap (λ (m : ℕ). take m ks) s ∙ take_read ks i (n, k) at in
    is ∙ (ap (λ (ts : List (List ℕ)). with_text ts n) so ∙ (sym (texts_more old (map (λ (r : Name × Kind). r.0) (take i ks)) n)
    ∙ ap (with_texts old) (sym (map-append (λ (r : Name × Kind). r.0) (take i ks) ((n, k) ∷ [])) ∙ ap (map (λ (r : Name × Kind). r.0)) (sym rows))))

pub utf8_at : (ks : List (Name × Kind)) (i : ℕ) (n : Name) (k : Kind) → All (λ (r : Name × Kind). IsUtf8 r.0) ks → slice_get ks i ≡ Some (n, k) → IsUtf8 n
utf8_at [] i n k all h = absurd (none-some (n, k) h)
utf8_at (r ∷ ks) zero n k all h = subst (λ (s : Name × Kind). IsUtf8 s.0) (same_Some r (n, k) h) (All-head (λ (s : Name × Kind). IsUtf8 s.0) r ks all)
utf8_at (r ∷ ks) (suc i) n k all h = utf8_at ks i n k (All-tail (λ (s : Name × Kind). IsUtf8 s.0) r ks all) h
