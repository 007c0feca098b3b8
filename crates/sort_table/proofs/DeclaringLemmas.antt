-- One sort or alias more in a signature.
use Rattle.std.proofs.Common.{◌≡◌, ◌<◌, ◌+◌, inl, inr, ⊎_elim, ℕ, true, List, [], ◌∷◌, ◌++◌, length, map, get_or, refl, ap, sym, ◌∙◌, subst, arith}
use Rattle.std.proofs.Common.{Result, Ok, Err}
use Rattle.std.specs.Result.{OnOk}
use Rattle.std.specs.Prelude.{Some, None, is_some, slice_get}
use Rattle.std.specs.List.{Contains}
use Rattle.std.specs.Global.{Vec}
use Rattle.std.proofs.lemmas.Option.{slice_get-get_or, slice_get_within}
use Rattle.graphs.specs.Graphs.{HasEdge}
use Rattle.data_theory.specs.declared.ids.NameId.{NameId}
use Rattle.data_theory.specs.declared.ids.SortId.{SortId}
use Rattle.data_theory.specs.Terms.{Sort, named, list}
use Rattle.data_theory.specs.SortNames.{IsName}
use Rattle.data_theory.specs.Sorts.{IsListOver, IsAnyListOver}
use Rattle.data_theory.specs.IdTerms.{sort_under}
use Rattle.data_theory.specs.WholeSignatures.{IsSignature}
use Rattle.data_theory.specs.Signature.{Sig, with_sort, with_alias, with_list}
use Rattle.data_theory.proofs.IdTableLemmas.{list_sorts_keep_the_tables}
use Rattle.sort_table.specs.Expressions.{Name}
use Rattle.sort_table.specs.NamedLists.{first_named}
use Rattle.sort_table.specs.BareSorts.{SortExpression, a_name}
use Rattle.sort_table.specs.BareDeclarations.{Declaration, alias}
use Rattle.sort_table.specs.SortMeanings.{Kind, alone, a_struct, equal_to, kinds_in, under_names, StandsFor}
use Rattle.sort_table.specs.SortCycles.{place_of}
use Rattle.sort_table.specs.Growth.{AllStand}
use Rattle.sort_table.specs.Vocabularies.{sort_in}
use Rattle.sort_table.specs.SignatureVocabularies.{sort_name_under}
use Rattle.sort_table.specs.SortIndexes.{first_place}
use Rattle.sort_table.specs.AliasGraphs.{HasAliasEdge}
use Rattle.sort_table.specs.NamedSorts as adding
use Rattle.sort_table.specs.NamedSorts.{sort_names_of, sort_count, AreIdsOf, AreSoundKinds, HaveSortNames, ReadsSorts, IsNamed, IsOwnKind, NamesSorts, no_names, own_name, alias_name, AddsLists, AddsSorts}
use Rattle.sort_table.specs.DeclaringSorts.{IsFirst, IsDeclaring, GoesOn, OwnIsNamed, AliasIsNamed, IsReady, AreLevels}
use Rattle.sort_table.proofs.AliasPlaces.{entry_at, edge_is, declared_place}
use Rattle.sort_table.specs.WrittenLists.{NewListsOf}
use Rattle.sort_table.proofs.AliasCycles.{less_or_same}
use Rattle.sort_table.proofs.KeptFunctions.{lists_stand}
use Rattle.sort_table.proofs.WrittenListLemmas.{lists_with_sort}
use Rattle.sort_table.proofs.Growing.{first_behind, stands_after}
use Rattle.sort_table.proofs.ListForms.{entry_found}
use Rattle.sort_table.proofs.StandingNames.{in_list, alias_stands, used_is_declared, declared_names_stand}
use Rattle.sort_table.proofs.UsedNameLemmas.{its_leaf}
use Rattle.sort_table.proofs.NamingSorts.{now_named, named_by_name, have_sort_names}
use Rattle.sort_table.proofs.NamedSignatures.{id_of_place, text_of_id, new_name, names_with_sort, count_with_sort, names_with_alias, count_with_list, sort_with_list, list_meaning}

adds_then : (g h k : Sig) → AddsSorts g h → AddsSorts h k → AddsSorts g k
adds_then g h _ a adding.no_sorts = a
adds_then g h _ a (adding.one_sort k n l absent b) = adding.one_sort k n l absent (adds_then g h k a b)
adds_then g h _ a (adding.one_alias k n s l m absent b) = adding.one_alias k n s l m absent (adds_then g h k a b)
adds_then g h _ a (adding.one_list_sort k e l absent b) = adding.one_list_sort k e l absent (adds_then g h k a b)

pub goes_nowhere : (ks : List (Name × Kind)) (ids : List NameId) (g : Sig) → IsDeclaring ks ids g → GoesOn ks ids g g
goes_nowhere ks ids g is = record { state = is; adds = adding.no_sorts; keeps = λ n h. h; lists = λ x l over. inl over }

pub goes_further : (ks : List (Name × Kind)) (ids : List NameId) (g h k : Sig) → GoesOn ks ids g h → GoesOn ks ids h k → GoesOn ks ids g k
goes_further ks ids g h k a b = record {
  state = b.state;
  adds = adds_then g h k a.adds b.adds;
  keeps = λ n is. b.keeps n (a.keeps n is);
  lists = λ x l over. elim (b.lists x l over) [
    | inl before ↦ elim (a.lists x l before) [
      | inl old ↦ inl old
      | inr its ↦ inr (record { name = its.name; expression = its.expression; declared = its.declared; before = its.before; stands = its.stands; within = its.within; part = its.part; since = adds_then its.before h k its.since b.adds })
    ]
    | inr its ↦ inr its
  ];
}

keeps_names : (g h : Sig) (more : List (Name × Sort)) → sort_names_of h ≡ sort_names_of g ++ more → (n : Name) → IsNamed g n → IsNamed h n
keeps_names g h more e n is = (is.0, ap (first_named n) e ∙ first_behind n (sort_names_of g) more is.0 is.1)

-- the text of the id at the first place of a name
pub text_at_first : (ks : List (Name × Kind)) (ids : List NameId) (g : Sig) (place : ℕ) (n : Name) (k : Kind) (i : NameId) → IsDeclaring ks ids g → IsFirst ks place n k → slice_get ids place ≡ Some i → slice_get g.texts i.0 ≡ Some n
text_at_first ks ids g place n k i is first at =
    let e : (j : Kind) × (slice_get ks place ≡ Some (n, j)) = entry_at n ks place first.place_is in
    id_of_place g.texts ks ids place n e.0 i is.ids_are e.1 at

module _ (ks : List (Name × Kind)) (ids : List NameId) (g : Sig) (place : ℕ) (n : Name) (i : NameId) (stands : IsSignature g) (is : IsDeclaring ks ids g) (text : slice_get g.texts i.0 ≡ Some n) (within : i.0 < length g.texts) (absent : ¬ (IsName g.sort_names i)) where
  own_names : sort_names_of (with_sort g i) ≡ sort_names_of g ++ (n, named (sort_count g)) ∷ []
  own_names = names_with_sort g i stands.complete stands.table ∙ ap (λ (m : Name). sort_names_of g ++ (m, named (sort_count g)) ∷ []) (text_of_id g i n text)

  own_state : (k : Kind) → IsFirst ks place n k → IsOwnKind k → NamesSorts ks (sort_names_of (with_sort g i)) (sort_count (with_sort g i))
  own_state k first own =
      subst (λ (ns : List (Name × Sort)). NamesSorts ks ns (sort_count (with_sort g i))) (sym own_names)
      (subst (λ (c : ℕ). NamesSorts ks (sort_names_of g ++ (n, named (sort_count g)) ∷ []) c) (sym (count_with_sort g i))
      (own_name (sort_names_of g) (sort_count g) n k first.kind_is own (new_name g stands i n text absent) is.names))

  pub own_goes_on : (k : Kind) → IsFirst ks place n k → IsOwnKind k → GoesOn ks ids g (with_sort g i)
  own_goes_on k first own = record {
    state = record { ids_are = is.ids_are; names = own_state k first own };
    adds = adding.one_sort g i within absent adding.no_sorts;
    keeps = keeps_names g (with_sort g i) ((n, named (sort_count g)) ∷ []) own_names;
    lists = λ x l over. inl (lists_with_sort g i x l over);
  }

  pub own_now : IsNamed (with_sort g i) n
  own_now = (named (sort_count g), ap (first_named n) own_names ∙ now_named (sort_names_of g) n (named (sort_count g)) (new_name g stands i n text absent))

-- ---- list sorts
pub lists_are_sorts : (g h : Sig) → AddsLists g h → AddsSorts g h
lists_are_sorts g _ adding.no_lists = adding.no_sorts
lists_are_sorts g _ (adding.one_list h e l absent a) = adding.one_list_sort h e l absent (lists_are_sorts g h a)

pub lists_then : (g h k : Sig) → AddsLists g h → AddsLists h k → AddsLists g k
lists_then g h _ a adding.no_lists = a
lists_then g h _ a (adding.one_list k e l absent b) = adding.one_list k e l absent (lists_then g h k a b)

pub same_texts : (g h : Sig) → AddsLists g h → h.texts ≡ g.texts
same_texts g _ adding.no_lists = refl
same_texts g _ (adding.one_list h e l absent a) = same_texts g h a

pub same_ids : (g h : Sig) → AddsLists g h → h.sort_names ≡ g.sort_names
same_ids g _ adding.no_lists = refl
same_ids g _ (adding.one_list h e l absent a) = same_ids g h a

pub same_count : (g h : Sig) → AddsLists g h → sort_count h ≡ sort_count g
same_count g _ adding.no_lists = refl
same_count g _ (adding.one_list h e l absent a) = count_with_list h e ∙ same_count g h a

-- the list sort that was added
pub list_added : (g h : Sig) (e l : SortId) → IsSignature g → e.0 < length g.sorts → ¬ (IsAnyListOver g.sorts e) → h ≡ with_list g e → IsListOver h.sorts e l → sort_under h l ≡ list (sort_under g e)
list_added g h e l stands within absent is over =
    let over' : IsListOver (with_list g e).sorts e l = subst (λ (k : Sig). IsListOver k.sorts e l) is over in
    subst (λ (k : Sig). sort_under k l ≡ list (sort_under g e)) (sym is)
    (list_meaning (with_list g e) e l (list_sorts_keep_the_tables g e stands.complete stands.table within absent) over' ∙ ap list (sort_with_list g e e within))

-- ---- an alias
module _ (ks : List (Name × Kind)) (ids : List NameId) (g h : Sig) (n : Name) (e : SortExpression) (i : NameId) (s : SortId) (stands : IsSignature g) (is : IsDeclaring ks ids g) (text : slice_get g.texts i.0 ≡ Some n)
    (within : i.0 < length g.texts) (absent : ¬ (IsName g.sort_names i)) (lists : AddsLists g h) (names : sort_names_of h ≡ sort_names_of g) (has : sort_in (sort_names_of h) e ≡ Some (sort_under h s)) (below : s.0 < length h.sorts) (new : NewListsOf e g h) where
  text_later : slice_get h.texts i.0 ≡ Some n
  text_later = ap (λ (ts : List (List ℕ)). slice_get ts i.0) (same_texts g h lists) ∙ text

  new_later : first_named n (sort_names_of h) ≡ None
  new_later = ap (first_named n) names ∙ new_name g stands i n text absent

  alias_names : sort_names_of (with_alias h i s) ≡ sort_names_of h ++ (n, sort_under h s) ∷ []
  alias_names = names_with_alias h i s ∙ ap (λ (m : Name). sort_names_of h ++ (m, sort_under h s) ∷ []) (text_of_id h i n text_later)

  state_later : NamesSorts ks (sort_names_of h) (sort_count h)
  state_later = subst (λ (ns : List (Name × Sort)). NamesSorts ks ns (sort_count h)) (sym names) (subst (λ (c : ℕ). NamesSorts ks (sort_names_of g) c) (sym (same_count g h lists)) is.names)

  added_alias : AddsSorts h (with_alias h i s)
  added_alias = adding.one_alias h i s (subst (λ (ts : List (List ℕ)). i.0 < length ts) (sym (same_texts g h lists)) within) below (subst (λ es. ¬ (IsName es i)) (sym (same_ids g h lists)) absent) adding.no_sorts

  pub alias_goes_on : first_named n ks ≡ Some (equal_to e) → GoesOn ks ids g (with_alias h i s)
  alias_goes_on first = record {
    state = record {
      ids_are = subst (λ (ts : List (List ℕ)). adding.AreIdsOf ts ks ids) (sym (same_texts g h lists)) is.ids_are;
      names = subst (λ (ns : List (Name × Sort)). NamesSorts ks ns (sort_count h)) (sym alias_names) (alias_name (sort_names_of h) (sort_count h) n e (sort_under h s) first new_later has state_later);
    };
    adds = adding.one_alias h i s (subst (λ (ts : List (List ℕ)). i.0 < length ts) (sym (same_texts g h lists)) within) below
        (subst (λ es. ¬ (IsName es i)) (sym (same_ids g h lists)) absent) (lists_are_sorts g h lists);
    keeps = λ m old. keeps_names h (with_alias h i s) ((n, sort_under h s) ∷ []) alias_names m (old.0, ap (first_named m) names ∙ old.1);
    lists = λ x l over. elim (new x l over) [
      | inl old ↦ inl old
      | inr part ↦
          inr (record { name = n; expression = e; declared = first; before = h; stands = lists_stand g h stands lists; within = slice_get_within h.sorts l.0 over.0 over.1; part = part; since = added_alias })
    ];
  }

  pub alias_now : IsNamed (with_alias h i s) n
  alias_now = (sort_under h s, ap (first_named n) alias_names ∙ now_named (sort_names_of h) n (sort_under h s) new_later)

-- ---- both clauses of an outcome
pub on_ok_two : {T E P Q R : Type 0} (r : Result T E) → (P → Q → R) → OnOk r P → OnOk r Q → OnOk r R
on_ok_two (Ok x) f p q = f p q
on_ok_two (Err e) f p q = tt

-- ---- places and ids
pub id_there : (ids : List NameId) (place : ℕ) (i : NameId) → place < length ids → i ≡ get_or ids place i → slice_get ids place ≡ Some i
id_there ids place i l e = slice_get-get_or ids place i l ∙ ap (λ (j : NameId). Some j) (sym e)

pub first_within : (ks : List (Name × Kind)) (place : ℕ) (n : Name) (k : Kind) → IsFirst ks place n k → place < length ks
first_within ks place n k first =
    let e : (j : Kind) × (slice_get ks place ≡ Some (n, j)) = entry_at n ks place first.place_is in
    slice_get_within ks place (n, e.0) e.1

pub below_step : (P : ℕ → Type 0) (i : ℕ) → ((p : ℕ) → p < i → P p) → P i → (p : ℕ) → p < i + 1 → P p
below_step P i before here p l = ⊎_elim (λ less. before p less) (λ same. subst P (sym same) here) (less_or_same p i (omega (arith, l)))

-- ---- all
-- what an alias uses has a sort, where all names that are no aliases and all aliases in the levels below have one
pub ready_there : (ks : List (Name × Kind)) (levels : List (Vec ℕ)) (old g : Sig) (r p : ℕ) → AreSoundKinds ks → AreLevels ks levels
    → ((q : ℕ) → q < length ks → OwnIsNamed ks q old) → ((n : Name) → IsNamed old n → IsNamed g n) → ((q b : ℕ) → q < r → HasEdge levels q b → AliasIsNamed ks b g) → HasEdge levels r p → IsReady ks p g
ready_there ks levels old g r p (ds, same, known, round) are own keeps below edge n e first m leaf =
    let there : Contains ks (n, equal_to e) = in_list n ks (equal_to e) first.kind_is in
    let in_text : Contains ds (alias n e) = alias_stands ds n e (subst (λ (rs : List (Name × Kind)). Contains rs (n, equal_to e)) same there) in
    let declared : is_some (first_named m ks) ≡ true = ap (λ (rs : List (Name × Kind)). is_some (first_named m rs)) same ∙ used_is_declared ds n m e known in_text (its_leaf e m leaf) in
    let at : first_place m ks ≡ Some (place_of m ks) = declared_place m ks declared in
    let kind : (k : Kind) × (first_named m ks ≡ Some k) = entry_found (first_named m ks) declared in
    let step : HasAliasEdge ks ks p (place_of m ks) = ((n, equal_to e), there, edge_is ks n e m p (place_of m ks) leaf first.place_is at) in
    let down : (q : ℕ) × (q < r) × HasEdge levels q (place_of m ks) = are.down r p (place_of m ks) edge step in
    of_kind m kind.0 (record { place_is = at; kind_is = kind.1 }) down
  where
    of_kind : (m : Name) (k : Kind) → IsFirst ks (place_of m ks) m k → (q : ℕ) × (q < r) × HasEdge levels q (place_of m ks) → IsNamed g m
    of_kind m alone f down = keeps m (own (place_of m ks) (first_within ks (place_of m ks) m alone f) m alone f tt)
    of_kind m a_struct f down = keeps m (own (place_of m ks) (first_within ks (place_of m ks) m a_struct f) m a_struct f tt)
    of_kind m (equal_to e) f down = below down.0 (place_of m ks) down.1 down.2 m e f

pub starts : (ks : List (Name × Kind)) (ids : List NameId) (g : Sig) → AreIdsOf g.texts ks ids → g.sort_names ≡ [] → sort_count g ≡ 0 → IsDeclaring ks ids g
starts ks ids g are none zero = record {
  ids_are = are;
  names = subst (λ (ns : List (Name × Sort)). NamesSorts ks ns (sort_count g)) (sym (ap (λ es. map (sort_name_under g) es) none)) (subst (NamesSorts ks []) (sym zero) no_names);
}

pub all_named : (ks : List (Name × Kind)) (g : Sig) → ((p : ℕ) → p < length ks → OwnIsNamed ks p g) → ((p : ℕ) → p < length ks → AliasIsNamed ks p g) → (n : Name) (k : Kind) → first_named n ks ≡ Some k → IsNamed g n
all_named ks g own aliases n k h =
    let at : first_place n ks ≡ Some (place_of n ks) = declared_place n ks (ap is_some h) in
    of_kind k (record { place_is = at; kind_is = h })
  where
    of_kind : (l : Kind) → IsFirst ks (place_of n ks) n l → IsNamed g n
    of_kind alone f = own (place_of n ks) (first_within ks (place_of n ks) n alone f) n alone f tt
    of_kind a_struct f = own (place_of n ks) (first_within ks (place_of n ks) n a_struct f) n a_struct f tt
    of_kind (equal_to e) f = aliases (place_of n ks) (first_within ks (place_of n ks) n (equal_to e) f) n e f

pub have_names : (ks : List (Name × Kind)) (ids : List NameId) (g : Sig) → AreSoundKinds ks → IsDeclaring ks ids g → ((n : Name) (k : Kind) → first_named n ks ≡ Some k → IsNamed g n)
    → (ds : List Declaration) → ks ≡ kinds_in ds → HaveSortNames (under_names ds) (sort_names_of g) (sort_count g)
have_names ks ids g (cs, same, known, round) is all ds also =
    let kinds : kinds_in cs ≡ kinds_in ds = sym same ∙ also in
    let stands : AllStand (under_names ds) = λ n k h.
    let s : (e : SortExpression) × StandsFor (under_names cs) (a_name n) e = declared_names_stand cs known round n k (ap (first_named n) kinds ∙ h) in
    (s.0, stands_after (under_names cs) (under_names ds) (λ m l j. ap (first_named m) (sym kinds) ∙ j) (a_name n) s.0 s.1) in
    have_sort_names ds (sort_names_of g) (sort_count g) stands (subst (λ (rs : List (Name × Kind)). NamesSorts rs (sort_names_of g) (sort_count g)) also is.names) (λ n k h. all n k (ap (first_named n) also ∙ h))

pub reads : (ks : List (Name × Kind)) (ids : List NameId) (g : Sig) → IsDeclaring ks ids g → ReadsSorts ks ids g
reads ks ids g is = record { ids_are = is.ids_are; declared = λ n has. named_by_name ks (sort_names_of g) (sort_count g) is.names n has.0 has.1 }

pub reads_still : (ks : List (Name × Kind)) (ids : List NameId) (g h : Sig) → ReadsSorts ks ids g → AddsLists g h → sort_names_of h ≡ sort_names_of g → ReadsSorts ks ids h
reads_still ks ids g h is lists names = record {
  ids_are = subst (λ (ts : List (List ℕ)). AreIdsOf ts ks ids) (sym (same_texts g h lists)) is.ids_are;
  declared = λ n has. is.declared n (has.0, sym (ap (first_named n) names) ∙ has.1);
}
