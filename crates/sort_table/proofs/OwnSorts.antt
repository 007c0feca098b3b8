-- The sorts of names that are no aliases, before and after functions are entered.
use Rattle.std.proofs.Common.{◌≡◌, ◌<◌, ◌+◌, inl, inr, ℕ, zero, suc, List, [], ◌∷◌, length, map, take, refl, ap, sym, ◌∙◌, subst, arith}
use Rattle.std.specs.Prelude.{Some, slice_get, bytes_eq}
use Rattle.std.specs.List.{Contains}
use Rattle.std.proofs.lemmas.List.Elements.{All-contains}
use Rattle.std.proofs.lemmas.Option.{none-some, same_Some}
use Rattle.data_theory.specs.declared.ids.NameId.{NameId}
use Rattle.data_theory.specs.declared.ids.SortId.{SortId}
use Rattle.data_theory.specs.declared.ids.FunId.{FunId}
use Rattle.data_theory.specs.Terms.{Sort, boolean, positive, natural, integer, list, named}
use Rattle.data_theory.specs.Sorts as kinds
use Rattle.data_theory.specs.Sorts.{SortInfo, without_constructors, IsBare}
use Rattle.data_theory.specs.IdSorts.{constructions, IsDeclaredKind, meaning_of}
use Rattle.data_theory.specs.IdTerms.{sort_under}
use Rattle.data_theory.specs.WholeSignatures.{IsSignature}
use Rattle.data_theory.specs.Signature.{Sig}
use Rattle.data_theory.proofs.IdSortLemmas.{read_within}
use Rattle.data_theory.proofs.IdSymbolLemmas.{read_sort}
use Rattle.sort_table.specs.Expressions.{Name}
use Rattle.sort_table.specs.NamedLists.{first_named}
use Rattle.sort_table.specs.BareSorts.{a_name}
use Rattle.sort_table.specs.BareDeclarations.{Declaration, Section, declarations_in}
use Rattle.sort_table.specs.SortMeanings.{alone, a_struct, kinds_in, UnderNames, under_names}
use Rattle.sort_table.specs.Vocabularies.{IsOwn, declared_alone, declared_as_struct, EachPair}
use Rattle.sort_table.specs.SignatureVocabularies.{text_under, sort_name_under}
use Rattle.sort_table.specs.NamedSorts.{HaveSortNames, HasSortNumber, IsNamed, sort_names_of, sort_count}
use Rattle.sort_table.specs.TextFunctions.{functions_in}
use Rattle.sort_table.specs.Duplicates.{NothingAgain}
use Rattle.sort_table.specs.EnteredFunctions.{HasSortOf, IsEntered}
use Rattle.sort_table.specs.FunctionStates.{HasBareSort, IsStructured, structs_in, AreBare, StructsDiffer, CanEnter, AddsDeclarations}
use Rattle.sort_table.proofs.Choices.{chosen}
use Rattle.sort_table.specs.TextSignatures.{AllBare}
use Rattle.sort_table.proofs.KeptMeanings.{by_kept, sort_stays}
use Rattle.sort_table.proofs.NothingTwice.{functions_differ, structs_differ, kinds_differ}
use Rattle.sort_table.proofs.SortKinds.{struct_declared, declared_struct}

-- ---- the sort of a name
named_entry : (g : Sig) (es : List (NameId × SortId)) (n : Name) (x : Sort) → first_named n (map (sort_name_under g) es) ≡ Some x → (e : NameId × SortId) × Contains es e × (sort_under g e.1 ≡ x)
named_entry g [] n x h = absurd (none-some x h)
named_entry g (e ∷ es) n x h =
    chosen (bytes_eq (text_under g e.0) n) (Some (sort_under g e.1)) (first_named n (map (sort_name_under g) es)) x h
    (λ same here. (e, (zero, omega arith, refl), same_Some (sort_under g e.1) x here))
    (λ other there. (let r = named_entry g es n x there in let low = r.1.1 in (r.0, (suc r.1.0, omega (arith, low), r.1.2), r.2)))

pub sort_of_name : (g : Sig) → IsSignature g → (n : Name) → IsNamed g n → (s : SortId) × HasSortOf g (a_name n) s
sort_of_name g stands n (x, has) =
    let e = named_entry g g.sort_names n x has in
    let within = All-contains (λ (f : NameId × SortId). (f.0.0 < length g.texts) × (f.1.0 < length g.sorts)) g.sort_names e.0 stands.complete.within.sort_names e.1 in
    (e.0.1, record { within = within.1; meant = has ∙ ap Some (sym e.2) })

-- what means the sort with a number is a declared sort
pub declared_kind : (m : SortId → Sort) (d j : ℕ) (k : kinds.Kind) → meaning_of m d k ≡ named j → IsDeclaredKind k × (d ≡ j)
declared_kind m d j kinds.booleans e = let both : boolean ≡ named j = e in cc
declared_kind m d j kinds.positives e = let both : positive ≡ named j = e in cc
declared_kind m d j kinds.naturals e = let both : natural ≡ named j = e in cc
declared_kind m d j kinds.integers e = let both : integer ≡ named j = e in cc
declared_kind m d j (kinds.lists_over x) e = let both : list (m x) ≡ named j = e in cc
declared_kind m d j kinds.without_constructors e = (refl, number d j e)
  where
    number : (a b : ℕ) → named a ≡ named b → a ≡ b
    number a b same = cc
declared_kind m d j (kinds.by_declarations fs) e = (refl, number d j e)
  where
    number : (a b : ℕ) → named a ≡ named b → a ≡ b
    number a b same = cc
declared_kind m d j (kinds.structured fs) e = (refl, number d j e)
  where
    number : (a b : ℕ) → named a ≡ named b → a ≡ b
    number a b same = cc

module _ (u : UnderNames) (g : Sig) (have : HaveSortNames u (sort_names_of g) (sort_count g)) where
  -- a name that is no alias has a sort with a number of its own
  pub own_number : (n : Name) (s : SortId) → IsOwn u n → HasSortOf g (a_name n) s → (d : ℕ) × (sort_under g s ≡ named d) × HasSortNumber (sort_names_of g) n d × (d < sort_count g)
  own_number n s own has = (let d = have.others n own in (d.0, same_Some (sort_under g s) (named d.0) (sym has.meant ∙ d.1), d.1, d.2))

  pub own_named : (n : Name) → IsOwn u n → IsNamed g n
  own_named n own = (let d = have.others n own in (named d.0, d.1))

  -- one sort has one such name
  pub one_name : (n m : Name) (s : SortId) → IsOwn u n → IsOwn u m → HasSortOf g (a_name n) s → HasSortOf g (a_name m) s → n ≡ m
  one_name n m s own other has its =
      let d = own_number n s own has in
      have.different n m d.0 own other d.2 (its.meant ∙ ap Some d.1)

  pub own_is_bare : IsSignature g → AllBare g.sorts → (n : Name) → IsOwn u n → HasBareSort g n
  own_is_bare stands bare n own =
      let s = sort_of_name g stands n (own_named n own) in
      let d = own_number n s.0 own s.1 in
      let t = read_within g.sorts s.0.0 s.1.within in
      let means : meaning_of (sort_under g) (length (constructions (take s.0.0 g.sorts))) t.0.kind ≡ named d.0 = sym (read_sort g stands.table s.0 t.0 t.1) ∙ d.1 in
      (s.0, s.1, (t.0, t.1, bare s.0.0 t.0 t.1 (declared_kind (sort_under g) (length (constructions (take s.0.0 g.sorts))) d.0 t.0.kind means).0))

-- ---- what the entry of functions asks
module _ (ss : List Section) (none : NothingAgain ss) where
  abbrev ds : List Declaration
  ds = declarations_in ss

  abbrev u : UnderNames
  u = under_names ds

  own_struct : (n : Name) → Contains (structs_in ds) n → IsOwn u n
  own_struct n c = declared_as_struct (declared_struct ds n (kinds_differ ss none) c)

  module _ (g : Sig) (stands : IsSignature g) (have : HaveSortNames u (sort_names_of g) (sort_count g)) where
    pub structs_bare : AllBare g.sorts → AreBare g ds
    structs_bare bare n c = own_is_bare u g have stands bare n (own_struct n c)

    pub structs_are_different : StructsDiffer ds g
    structs_are_different = record {
      names = structs_differ ss none;
      sorts = λ n m s c d has its. one_name u g have n m s (own_struct n c) (own_struct m d) has its;
    }

    pub all_can_enter : g.declared ≡ [] → CanEnter g (functions_in ds)
    all_can_enter nothing = record {
      under = u;
      all = functions_in ds;
      done = [];
      next = record {
        names = have;
        differ = functions_differ ss none;
        entered = subst (λ (is : List FunId). EachPair (IsEntered g) [] is) (sym nothing) tt;
        front = λ i f at. absurd (none-some f at);
        places = λ i f at. (let same : 0 + i ≡ i = omega arith in ap (slice_get (functions_in ds)) same ∙ at);
      };
    }

    -- ---- afterwards
    module _ (h : Sig) (bare : AllBare g.sorts) (later : HaveSortNames u (sort_names_of h) (sort_count h)) (adds : AddsDeclarations ds g h) where
      -- a sort that is declared alone has no constructors yet
      pub alone_bare : (n : Name) → u.sort n ≡ Some alone → HasBareSort h n
      alone_bare n is =
          let was = own_is_bare u g have stands bare n (declared_alone is) in
          let has = sort_stays g h (by_kept g h adds.adds.keeps) (a_name n) was.0 was.1 in
          elim (adds.sorts was.0 was.2.0 was.2.1) [
            | inl same ↦ (was.0, has, (was.2.0, same, was.2.2))
            | inr (m, c, its) ↦
                let one : n ≡ m = one_name u h later n m was.0 (declared_alone is) (own_struct m c) has its in
                let both : Some alone ≡ Some a_struct = sym is ∙ (ap (λ x. first_named x (kinds_in ds)) one ∙ declared_struct ds m (kinds_differ ss none) c) in
                cc
          ]

      -- a struct has its constructors
      pub struct_made : (n : Name) → u.sort n ≡ Some a_struct → (s : SortId) × HasSortOf h (a_name n) s × IsStructured h s
      struct_made n is = adds.made n (struct_declared ds n is)
