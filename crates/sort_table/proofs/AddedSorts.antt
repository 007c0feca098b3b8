-- A signature that gets sorts, aliases and list sorts: what stays, what its sorts are, and which names it takes.
use Rattle.std.proofs.Common.{◌≡◌, ◌<◌, ◌⊎◌, inl, inr, ℕ, zero, suc, List, [], ◌∷◌, ◌++◌, length, refl, ap, sym, ◌∙◌, subst, arith, append_assoc}
use Rattle.std.specs.Prelude.{Some, None, slice_get}
use Rattle.std.specs.List.{Contains}
use Rattle.std.proofs.lemmas.List.{append-nil, length-append}
use Rattle.std.proofs.lemmas.Option.{none-some, same_Some}
use Rattle.data_theory.specs.declared.ids.NameId.{NameId}
use Rattle.data_theory.specs.declared.ids.SortId.{SortId}
use Rattle.data_theory.specs.Terms.{Sort}
use Rattle.data_theory.specs.Names.{with_texts, place_in, places_in}
use Rattle.data_theory.specs.Taken.{with_name, with_names}
use Rattle.data_theory.specs.FirstNames.{first_names}
use Rattle.data_theory.specs.Sorts.{Kind, booleans, positives, naturals, integers, lists_over, without_constructors, by_declarations, structured, SortInfo, first_sorts, abstract_sort, list_sort, IsListOver}
use Rattle.data_theory.specs.SortNames.{IsName}
use Rattle.data_theory.specs.IdSorts.{IsDeclaredKind}
use Rattle.data_theory.specs.IdTerms.{sort_under}
use Rattle.data_theory.specs.WholeSignatures.{IsSignature}
use Rattle.data_theory.specs.Signature.{Sig, IsTaken, first_signature, with_sort}
use Rattle.data_theory.proofs.NameLemmas.{has_texts, place_reads, still_contains, texts_behind}
use Rattle.data_theory.proofs.PlaceLemmas.{key_of_entry}
use Rattle.data_theory.proofs.IdSortLemmas.{growth_keeps_meant_sorts}
use Rattle.data_theory.proofs.IdGrowthLemmas.{with_a_sort_it_is_grown}
use Rattle.data_theory.proofs.WholeSignatureLemmas.{sort_stands, alias_stands, list_stands}
use Rattle.sort_table.specs.Expressions.{Name}
use Rattle.sort_table.specs.BareSorts.{SortExpression}
use Rattle.sort_table.specs.SignatureVocabularies.{text_under}
use Rattle.sort_table.specs.Vocabularies.{sort_in}
use Rattle.sort_table.specs.NamedSorts.{AddsLists, no_lists, one_list, AddsSorts, no_sorts, one_sort, one_alias, one_list_sort, sort_names_of}
use Rattle.sort_table.specs.TextSignatures.{AllBare}
use Rattle.sort_table.specs.WrittenLists.{IsPartSort}
use Rattle.sort_table.proofs.Growing.{contains_behind, contains_after, sort_behind}
use Rattle.sort_table.proofs.NamedSignatures.{names_with_sort, names_with_alias, names_with_list, sort_with_list}
use Rattle.sort_table.proofs.TakenTextLemmas.{only_name}
use Rattle.sort_table.proofs.WrittenListLemmas.{last_or_before}

-- ---- what has nothing to do with sorts
pub record SameBesides (g h : Sig) : Type 0 where
  pub texts : h.texts ≡ g.texts
  pub declared : h.declared ≡ g.declared
  pub actions : h.actions ≡ g.actions
  pub variables : h.variables ≡ g.variables

pub same_besides : (g h : Sig) → AddsSorts g h → SameBesides g h
same_besides g _ no_sorts = record { texts = refl; declared = refl; actions = refl; variables = refl }
same_besides g _ (one_sort h n l absent a) = let r = same_besides g h a in record { texts = r.texts; declared = r.declared; actions = r.actions; variables = r.variables }
same_besides g _ (one_alias h n s l m absent a) = let r = same_besides g h a in record { texts = r.texts; declared = r.declared; actions = r.actions; variables = r.variables }
same_besides g _ (one_list_sort h e l absent a) = let r = same_besides g h a in record { texts = r.texts; declared = r.declared; actions = r.actions; variables = r.variables }

pub sorts_stand : (g h : Sig) → IsSignature g → AddsSorts g h → IsSignature h
sorts_stand g _ stands no_sorts = stands
sorts_stand g _ stands (one_sort h n l absent a) = sort_stands h n (sorts_stand g h stands a) l absent
sorts_stand g _ stands (one_alias h n s l m absent a) = alias_stands h n s (sorts_stand g h stands a) l m absent
sorts_stand g _ stands (one_list_sort h e l absent a) = list_stands h e (sorts_stand g h stands a) l absent

-- ---- names and meanings come behind
pub record GrowsSorts (g h : Sig) : Type 0 where
  pub more : List (Name × Sort)
  pub names : sort_names_of h ≡ sort_names_of g ++ more
  pub sorts : (s : SortId) → s.0 < length g.sorts → (s.0 < length h.sorts) × (sort_under h s ≡ sort_under g s)

pub grows_sorts : (g h : Sig) → IsSignature g → AddsSorts g h → GrowsSorts g h
grows_sorts g _ stands no_sorts = record { more = []; names = sym (append-nil (sort_names_of g)); sorts = λ s l. (l, refl) }
grows_sorts g _ stands (one_sort h n l absent a) =
    let r = grows_sorts g h stands a in
    let before = sorts_stand g h stands a in
    let new : List (Name × Sort) = (text_under h n, _) ∷ [] in
    record {
      more = r.more ++ new;
      names = names_with_sort h n before.complete before.table ∙ (ap (λ ns. ns ++ new) r.names ∙ append_assoc (sort_names_of g) r.more new);
      sorts = λ s m.
          let first = r.sorts s m in
          let long = length-append h.sorts (abstract_sort n ∷ []) in
          let low = first.0 in
          (omega (arith, low, long), growth_keeps_meant_sorts h (with_sort h n) (with_a_sort_it_is_grown h n) s low ∙ first.1);
    }
grows_sorts g _ stands (one_alias h n s l m absent a) =
    let r = grows_sorts g h stands a in
    let new : List (Name × Sort) = (text_under h n, sort_under h s) ∷ [] in
    record {
      more = r.more ++ new;
      names = names_with_alias h n s ∙ (ap (λ ns. ns ++ new) r.names ∙ append_assoc (sort_names_of g) r.more new);
      sorts = r.sorts;
    }
grows_sorts g _ stands (one_list_sort h e l absent a) =
    let r = grows_sorts g h stands a in
    let before = sorts_stand g h stands a in
    record {
      more = r.more;
      names = names_with_list h e before.complete ∙ r.names;
      sorts = λ s m.
          let first = r.sorts s m in
          let long = length-append h.sorts (list_sort e ∷ []) in
          let low = first.0 in
          (omega (arith, low, long), sort_with_list h e s low ∙ first.1);
    }

-- the sort of a part of an expression
pub part_grown : (g h : Sig) → GrowsSorts g h → (e : SortExpression) (l : SortId) → l.0 < length g.sorts → IsPartSort e g l → IsPartSort e h l
part_grown g h grows e l low p = record {
  part = p.part;
  within = p.within;
  meant = ap (λ ns. sort_in ns p.part) grows.names ∙ (sort_behind (sort_names_of g) grows.more p.part (sort_under g l) p.meant ∙ ap Some (sym (grows.sorts l low).1));
}

-- ---- no sort has constructors
bare_behind : (ss : List SortInfo) (x : SortInfo) → AllBare ss → (IsDeclaredKind x.kind → x.kind ≡ without_constructors) → AllBare (ss ++ x ∷ [])
bare_behind ss x all is i t at declared = elim (last_or_before ss x i t at) [
  | inl old ↦ all i t old declared
  | inr (end, same) ↦ subst (λ (y : SortInfo). y.kind ≡ without_constructors) same (is (subst (λ (y : SortInfo). IsDeclaredKind y.kind) (sym same) declared))
]

pub all_bare : (g h : Sig) → AddsSorts g h → AllBare g.sorts → AllBare h.sorts
all_bare g _ no_sorts all = all
all_bare g _ (one_sort h n l absent a) all = bare_behind h.sorts (abstract_sort n) (all_bare g h a all) (λ d. refl)
all_bare g _ (one_alias h n s l m absent a) all = all_bare g h a all
all_bare g _ (one_list_sort h e l absent a) all = bare_behind h.sorts (list_sort e) (all_bare g h a all) (λ d. absurd (omega (arith, d)))

pub lists_are_bare : (g h : Sig) → AddsLists g h → AllBare g.sorts → AllBare h.sorts
lists_are_bare g _ no_lists all = all
lists_are_bare g _ (one_list h e l absent a) all = bare_behind h.sorts (list_sort e) (lists_are_bare g h a all) (λ d. absurd (omega (arith, d)))

pub lists_declare_nothing : (g h : Sig) → AddsLists g h → h.declared ≡ g.declared
lists_declare_nothing g _ no_lists = refl
lists_declare_nothing g _ (one_list h e l absent a) = lists_declare_nothing g h a

-- ---- the first sorts
abbrev IsFirstKind : Kind → Type 0
IsFirstKind booleans = Unit {0}
IsFirstKind positives = Unit {0}
IsFirstKind naturals = Unit {0}
IsFirstKind integers = Unit {0}
IsFirstKind (lists_over e) = ⊥
IsFirstKind without_constructors = ⊥
IsFirstKind (by_declarations fs) = ⊥
IsFirstKind (structured fs) = ⊥

first_kind : (i : ℕ) (t : SortInfo) → slice_get first_sorts i ≡ Some t → IsFirstKind t.kind
first_kind zero t at = let same : record { kind = booleans; name = None } ≡ t = cc in subst (λ (x : SortInfo). IsFirstKind x.kind) same tt
first_kind (suc zero) t at = let same : record { kind = positives; name = None } ≡ t = cc in subst (λ (x : SortInfo). IsFirstKind x.kind) same tt
first_kind (suc (suc zero)) t at = let same : record { kind = naturals; name = None } ≡ t = cc in subst (λ (x : SortInfo). IsFirstKind x.kind) same tt
first_kind (suc (suc (suc zero))) t at = let same : record { kind = integers; name = None } ≡ t = cc in subst (λ (x : SortInfo). IsFirstKind x.kind) same tt
first_kind (suc (suc (suc (suc i)))) t at = absurd (none-some t at)

not_declared : (k : Kind) → IsFirstKind k → IsDeclaredKind k → ⊥
not_declared booleans is d = omega (arith, d)
not_declared positives is d = omega (arith, d)
not_declared naturals is d = omega (arith, d)
not_declared integers is d = omega (arith, d)
not_declared (lists_over e) is d = is
not_declared without_constructors is d = is
not_declared (by_declarations fs) is d = is
not_declared (structured fs) is d = is

pub first_bare : (given : List (List ℕ)) → AllBare (first_signature given).sorts
unfolding first_signature
first_bare given i t at declared = absurd (not_declared t.kind (first_kind i t at) declared)

pub no_list_first : (given : List (List ℕ)) (e l : SortId) → ¬ (IsListOver (first_signature given).sorts e l)
unfolding first_signature
no_list_first given e l (t, at, kind) = subst IsFirstKind kind (first_kind l.0 t at)

pub nothing_else_first : (given : List (List ℕ)) → ((first_signature given).declared ≡ []) × ((first_signature given).actions ≡ []) × ((first_signature given).variables ≡ [])
unfolding first_signature
nothing_else_first given = (refl, refl, refl)

-- ---- names that are taken
-- a name more is one of a sort
pub taken_before : (g h : Sig) (n : NameId) → AddsSorts g h → Contains h.taken n → Contains g.taken n ⊎ IsName h.sort_names n
taken_before g _ n no_sorts c = inl c
taken_before g _ n (one_sort h m l absent a) c = elim (only_name h.taken m n c) [
  | inl old ↦ elim (taken_before g h n a old) [
    | inl first ↦ inl first
    | inr (s, among) ↦ inr (s, contains_behind h.sort_names ((m, record { 0 = length h.sorts }) ∷ []) (n, s) among)
  ]
  | inr same ↦ inr (record { 0 = length h.sorts }, contains_after h.sort_names ((m, record { 0 = length h.sorts }) ∷ []) (n, record { 0 = length h.sorts }) (zero, omega arith, (λ i. (same i, record { 0 = length h.sorts }))))
]
taken_before g _ n (one_alias h m s l k absent a) c = elim (only_name h.taken m n c) [
  | inl old ↦ elim (taken_before g h n a old) [ inl first ↦ inl first | inr (r, among) ↦ inr (r, contains_behind h.sort_names ((m, s) ∷ []) (n, r) among) ]
  | inr same ↦ inr (s, contains_after h.sort_names ((m, s) ∷ []) (n, s) (zero, omega arith, (λ i. (same i, s))))
]
taken_before g _ n (one_list_sort h e l absent a) c = taken_before g h n a c

-- of names that are taken one after the other each was there, or is one of them
with_names_only : (ns ms : List NameId) (n : NameId) → Contains (with_names ns ms) n → Contains ns n ⊎ Contains ms n
with_names_only ns [] n c = inl c
with_names_only ns (m ∷ ms) n c = elim (with_names_only (with_name ns m) ms n c) [
  | inl before ↦ elim (only_name ns m n before) [ inl old ↦ inl old | inr same ↦ inr (zero, omega arith, same) ]
  | inr among ↦ (let low = among.1 in inr (suc among.0, omega (arith, low), among.2))
]

pub first_only : (given : List (List ℕ)) (t : Name) → IsTaken (first_signature given) t → Contains first_names t
unfolding first_signature
first_only given t (n, at, among) = elim (with_names_only [] (places_in (with_texts given first_names) first_names) n among) [
  | inl none ↦ (let low = none.1 in absurd (omega (arith, low)))
  | inr c ↦
      let its = key_of_entry (place_in (with_texts given first_names)) first_names n c in
      let text = place_reads (with_texts given first_names) its.0 (has_texts given first_names its.0 its.1.0) in
      let same : its.0 ≡ t = same_Some its.0 t (sym text ∙ (ap (λ (m : NameId). slice_get (with_texts given first_names) m.0) its.1.1 ∙ at)) in
      subst (Contains first_names) same its.1.0
]

pub first_texts : (given : List (List ℕ)) (t : Name) → Contains given t → Contains (first_signature given).texts t
unfolding first_signature
first_texts given t c = still_contains given (with_texts given first_names) t (texts_behind given first_names) c
