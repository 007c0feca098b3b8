-- A struct whose names weren't taken comes into a signature.
use Rattle.std.proofs.Common.{◌≡◌, ◌<◌, ℕ, List, [], ◌∷◌, ◌++◌, length, map, get_or, refl, sym, ap, ◌∙◌, subst, arith, length-append, Option, Some, None}
use Rattle.std.specs.Prelude.{slice_get}
use Rattle.std.specs.List.{Contains}
use Rattle.std.proofs.lemmas.List.Elements.{All-head, All-contains, Contains-append_left}
use Rattle.std.proofs.lemmas.Option.{slice_get-get_or}
use Rattle.data_theory.specs.declared.ids.NameId.{NameId}
use Rattle.data_theory.specs.declared.ids.SortId.{SortId}
use Rattle.data_theory.specs.Functions.{Function}
use Rattle.data_theory.specs.Sorts.{Kind, structured, abstract_sort, IsBare}
use Rattle.data_theory.specs.SortNames.{IsName}
use Rattle.data_theory.specs.Structs.{Con, numbers_from}
use Rattle.data_theory.specs.Signature.{Sig, IsTaken, with_sort, with_struct}
use Rattle.data_theory.specs.IdSorts.{construction_of, constructions, meant_by}
use Rattle.data_theory.specs.IdSymbols.{declared_from}
use Rattle.data_theory.specs.IdTerms.{sort_under, IsGrown}
use Rattle.data_theory.specs.Terms.{Sort, named as declared_sort}
use Rattle.data_theory.specs.WholeSignatures.{IsSignature}
use Rattle.data_theory.proofs.IdGrowthLemmas.{name_behind, growth_after_growth_is_growth}
use Rattle.data_theory.proofs.IdSortLemmas.{meanings_set}
use Rattle.data_theory.proofs.IdTableLemmas.{as_many_after}
use Rattle.data_theory.proofs.ListSortLemmas.{abstract_is_bare}
use Rattle.data_theory.proofs.PlaceLemmas.{contains_read, read_contained}
use Rattle.data_theory.proofs.StructGrowthLemmas.{last_kind, with_a_struct_sort_it_is_grown}
use Rattle.data_theory.proofs.WholeSignatureLemmas.{sort_stands}
use Rattle.sort_table.specs.Expressions.{Name}
use Rattle.sort_table.specs.BareSorts.{SortExpression, a_name}
use Rattle.sort_table.specs.BareDeclarations.{Constructor, struct}
use Rattle.sort_table.specs.SignatureVocabularies.{text_under, sort_name_under}
use Rattle.sort_table.specs.NamedLists.{first_named}
use Rattle.sort_table.specs.NamedSorts.{sort_names_of, sort_count}
use Rattle.sort_table.specs.TextFunctions.{Named, functions_by}
use Rattle.sort_table.specs.Vocabularies.{sort_in, EachPair}
use Rattle.sort_table.specs.EnteredFunctions.{HasSortOf, IsOptionalId, IsFieldOf, IsConOf, IsEntryOf, IsEntered}
use Rattle.sort_table.proofs.EnteringStructs.{as_many, struct_entries, keeps_with_struct, struct_adds}
use Rattle.sort_table.proofs.GivenConstructors.{pair_along}
use Rattle.sort_table.proofs.Growing.{contains_after, front_entry, pairs_with}
use Rattle.sort_table.proofs.KeptFunctions.{entry_kept}
use Rattle.sort_table.proofs.NamedSignatures.{names_kept, name_is_named, new_name, names_with_sort}
use Rattle.lps_printer.specs.GrowingByAdditions.{functions_of_struct, GrowsByStruct}
use Rattle.lps_printer.proofs.EnteredSignatures.{signatures_are_entered}

pairs_later : {A B : Type 0} (Q : A → B → Type 0) (xs us : List A) (ys vs : List B) → length xs ≡ length ys → EachPair Q (xs ++ us) (ys ++ vs) → EachPair Q us vs
pairs_later Q [] us [] vs e all = all
pairs_later Q [] us (y ∷ ys) vs e all = absurd (omega (arith, e))
pairs_later Q (x ∷ xs) us [] vs e all = absurd (omega (arith, e))
pairs_later Q (x ∷ xs) us (y ∷ ys) vs e all = pairs_later Q xs us ys vs (omega (arith, e)) all.1

module _ (g h : Sig) (stands : IsSignature g) (w : GrowsByStruct g h) where
  abbrev named : Sig
  named = w.named

  abbrev name : NameId
  name = w.declared.0

  abbrev cons : List Con
  cons = w.declared.1

  abbrev sort : SortId
  sort = record { 0 = length named.sorts }

  -- with the sort, which has no constructors yet
  abbrev pub bare : Sig
  bare = with_sort named name

  abbrev pub first : ℕ
  first = length bare.functions

  abbrev pub fs : List Function
  fs = functions_of_struct named w.declared

  abbrev after : Sig
  after = with_struct bare sort cons

  abbrev t : Name
  t = text_under h name

  pub text_is : (n : NameId) → text_under h n ≡ text_under named n
  text_is n = ap (λ (x : Sig). text_under x n) w.is

  -- ---- names
  pub name_within : name.0 < length named.texts
  name_within = All-contains (λ (n : NameId). n.0 < length named.texts) named.taken name w.by_names.stands.complete.within.taken w.sort_taken_now

  not_taken : ¬ (IsTaken g t)
  not_taken = All-head (λ (n : NameId). ¬ (IsTaken g (text_under h n))) name (map (λ (f : Function). f.name) fs) w.new

  pub absent : IsName g.sort_names name → ⊥
  absent (s, c) =
      let taken : Contains g.taken name = All-contains (λ (e : NameId × SortId). Contains g.taken e.0) g.sort_names (name, s) stands.sorts_taken c in
      let low : name.0 < length g.texts = All-contains (λ (n : NameId). n.0 < length g.texts) g.taken name stands.complete.within.taken taken in
      let same : text_under g name ≡ t = sym (text_is name ∙ ap (λ ts. get_or ts name.0 []) w.by_names.grown.texts ∙ front_entry g.texts w.by_names.grown.new_texts name.0 [] low) in
      not_taken (name, slice_get-get_or g.texts name.0 [] low ∙ ap Some same, taken)

  pub bare_stands : IsSignature bare
  bare_stands = sort_stands named name w.by_names.stands name_within (λ c. absent (subst (λ ns. IsName ns name) w.by_names.sort_names c))

  is_bare : IsBare bare.sorts sort
  is_bare = abstract_is_bare named.sorts name sort refl

  text_at : (n : NameId) → n.0 < length named.texts → slice_get named.texts n.0 ≡ Some (text_under h n)
  text_at n l = slice_get-get_or named.texts n.0 [] l ∙ ap Some (sym (text_is n))

  is_sort : HasSortOf bare (a_name t) sort
  is_sort = record {
    within = let long = length-append named.sorts (abstract_sort name ∷ []) in omega (arith, long);
    meant = name_is_named bare bare_stands name t (text_at name name_within) sort (contains_after named.sort_names ((name, sort) ∷ []) (name, sort) (0, omega arith, refl));
  }

  named_names : sort_names_of named ≡ sort_names_of g
  named_names = ap (map (sort_name_under named)) w.by_names.sort_names ∙ names_kept g named stands.complete w.by_names.grown

  -- no sort had the name
  pub none_yet : first_named t (sort_names_of g) ≡ None
  none_yet = subst (λ ns. first_named t ns ≡ None) named_names (new_name named w.by_names.stands name t (text_at name name_within) (λ c. absent (subst (λ ns. IsName ns name) w.by_names.sort_names c)))

  -- ---- growth
  pub it_is_grown : IsGrown g h
  it_is_grown = growth_after_growth_is_growth g named h w.by_names.grown (subst (IsGrown named) (sym w.is) (with_a_struct_sort_it_is_grown named name cons))

  pub sorts_are : h.sorts ≡ g.sorts ++ record (abstract_sort name) { kind = structured (numbers_from first (length cons)) } ∷ []
  sorts_are =
      ap (λ (x : Sig). x.sorts) w.is ∙ last_kind named.sorts (abstract_sort name) (structured (numbers_from first (length cons)))
      ∙ ap (λ ss. ss ++ record (abstract_sort name) { kind = structured (numbers_from first (length cons)) } ∷ []) w.by_names.sorts

  pub declared_are : h.declared ≡ g.declared ++ numbers_from first (length fs)
  declared_are =
      ap (λ (x : Sig). x.declared) w.is ∙ ap (λ is. is ++ numbers_from first (length fs)) (w.by_names.stands.table.listed ∙ ap (declared_from 0) w.by_names.functions ∙ sym stands.table.listed)

  pub actions_are : h.actions ≡ g.actions
  actions_are = ap (λ (x : Sig). x.actions) w.is ∙ w.by_names.actions

  -- ---- what sorts mean before and after
  sorts_same : (s : SortId) → sort_under after s ≡ sort_under bare s
  sorts_same s = ap (λ (ms : List Sort). meant_by ms s)
      (meanings_set bare.sorts sort.0 is_bare.0 (structured (numbers_from first (length cons))) [] 0 is_bare.1 (ap (λ (k : Kind). length (construction_of k)) is_bare.2) refl)

  names_same : sort_names_of after ≡ sort_names_of bare
  names_same = λ i. map (λ (e : NameId × SortId). (text_under bare e.0, sorts_same e.1 i)) bare.sort_names

  pub sort_names_are : sort_names_of h ≡ sort_names_of g ++ (t, declared_sort (sort_count g)) ∷ []
  sort_names_are =
      let count : sort_count named ≡ sort_count g = ap (λ ss. length (constructions ss)) w.by_names.sorts in
      ap sort_names_of w.is ∙ names_same ∙ names_with_sort named name w.by_names.stands.complete w.by_names.stands.table
      ∙ (λ i. named_names i ++ (sym (text_is name) i, declared_sort (count i)) ∷ [])

  has_back : (e : SortExpression) (s : SortId) → HasSortOf after e s → HasSortOf bare e s
  has_back e s has = record {
    within = (let many = as_many_after bare.sorts sort.0 (structured (numbers_from first (length cons))) in let l = has.within in omega (arith, l, many));
    meant = ap (λ ns. sort_in ns e) (sym names_same) ∙ has.meant ∙ ap Some (sorts_same s);
  }

  option_back : (o : Option Name) (i : Option NameId) → IsOptionalId after o i → IsOptionalId bare o i
  option_back None None is = tt
  option_back (Some m) (Some i) is = is
  option_back None (Some i) is = absurd is
  option_back (Some m) None is = absurd is

  con_back : (c : Constructor) (d : Con) → IsConOf after c d → IsConOf bare c d
  con_back c d is = record {
    name = is.name;
    fields = pairs_with (IsFieldOf after) (IsFieldOf bare) (λ f x p. (option_back f.name x.0 p.0, has_back f.sort x.1 p.1)) c.fields d.fields is.fields;
    recogniser = option_back c.recogniser d.test is.recogniser;
  }

  still_taken : (n : NameId) → Contains named.taken n → Contains bare.taken n
  still_taken n c = let more = name_behind named.taken name in subst (λ ns. Contains ns n) (sym more.1) (Contains-append_left named.taken more.0 n c)

  -- ---- its functions
  module _ (cs : List Constructor) (are : EachPair (IsConOf h) cs cons) where
    are_after : EachPair (IsConOf after) cs cons
    are_after = subst (λ x. EachPair (IsConOf x) cs cons) w.is are

    are_bare : EachPair (IsConOf bare) cs cons
    are_bare = pairs_with (IsConOf after) (IsConOf bare) con_back cs cons are_after

    entries_bare : EachPair (IsEntryOf bare) (functions_by (struct t cs)) fs
    entries_bare = struct_entries bare bare_stands sort t is_sort cs cons first are_bare

    taken : (f : Named) → Contains (functions_by (struct t cs)) f → IsTaken bare f.0
    taken f c =
        let at = read_contained (functions_by (struct t cs)) f c in
        let y = pair_along (IsEntryOf bare) (functions_by (struct t cs)) fs at.0 f entries_bare at.1 in
        (y.0.name, y.2.name, still_taken y.0.name (All-contains (λ (x : Function). Contains named.taken x.name) fs y.0 w.taken_now (contains_read fs at.0 y.0 y.1)))

    -- they are entered under their numbers
    pub struct_entered : EachPair (IsEntered h) (functions_by (struct t cs)) (numbers_from first (length fs))
    struct_entered =
        let done = signatures_are_entered bare bare_stands in
        subst (λ x. EachPair (IsEntered x) (functions_by (struct t cs)) (numbers_from first (length fs))) (sym w.is)
        (pairs_later (IsEntered after) done.0 (functions_by (struct t cs)) bare.declared (numbers_from first (length fs)) (as_many (IsEntered bare) done.0 bare.declared done.1)
        ((struct_adds bare sort t cs cons bare_stands is_bare is_sort are_bare taken).entered done.0 done.1))

    pub struct_entries_are : EachPair (IsEntryOf h) (functions_by (struct t cs)) fs
    struct_entries_are =
        subst (λ x. EachPair (IsEntryOf x) (functions_by (struct t cs)) fs) (sym w.is)
        (pairs_with (IsEntryOf bare) (IsEntryOf after) (entry_kept bare after (keeps_with_struct bare sort t cs cons bare_stands is_bare is_sort are_bare taken)) (functions_by (struct t cs)) fs entries_bare)
