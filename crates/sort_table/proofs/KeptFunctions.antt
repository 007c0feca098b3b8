-- What stays while functions are entered into a signature.
use Rattle.std.proofs.Common.{◌≡◌, ◌<◌, ◌+◌, ℕ, zero, suc, List, [], ◌∷◌, ◌++◌, length, map, take, get_or, refl, ap, sym, ◌∙◌, subst, arith}
use Rattle.std.specs.Prelude.{Option, Some, None, slice_get}
use Rattle.std.specs.List.{Contains, AllByRecursion}
use Rattle.std.proofs.lemmas.Option.{slice_get_within}
use Rattle.std.proofs.lemmas.List.{map-append, length-append, take_more}
use Rattle.data_theory.specs.declared.ids.NameId.{NameId}
use Rattle.data_theory.specs.declared.ids.SortId.{SortId}
use Rattle.data_theory.specs.declared.ids.FunId.{FunId}
use Rattle.data_theory.specs.Sorts.{list_sort}
use Rattle.data_theory.specs.Functions.{Function}
use Rattle.data_theory.specs.Structs.{Con}
use Rattle.data_theory.specs.Rows.{built_ins}
use Rattle.data_theory.specs.Table.{list_table}
use Rattle.data_theory.specs.Signature.{Sig, with_list}
use Rattle.data_theory.specs.WholeSignatures.{IsSignature}
use Rattle.data_theory.proofs.PlaceLemmas.{read_front}
use Rattle.data_theory.proofs.IdSortLemmas.{read_within}
use Rattle.data_theory.proofs.IdRoleLemmas.{list_sorts_give_no_role}
use Rattle.data_theory.proofs.WholeSignatureLemmas.{list_stands}
use Rattle.sort_table.specs.Expressions.{Name}
use Rattle.sort_table.specs.NamedLists.{first_named}
use Rattle.sort_table.specs.BareSorts.{SortExpression}
use Rattle.sort_table.specs.BareDeclarations as bare
use Rattle.sort_table.specs.TextFunctions.{TextRole, Named}
use Rattle.sort_table.specs.Vocabularies.{sort_in, EachPair}
use Rattle.sort_table.specs.NamedSorts.{AddsLists, no_lists, one_list, IsNamed}
use Rattle.sort_table.specs.EnteredFunctions.{HasSortOf, HaveSortsOf, IsReadable, IsKnownName, IsKnownOption, IsReadyField, IsReadyConstructor, IsNameId, IsOptionalId, IsFieldOf, IsConOf, IsEntryOf, IsConstructorAt, HasTextRole, of_struct, of_cons, of_map, of_place, of_test, IsEntered, Keeps}
use Rattle.sort_table.proofs.Growing.{pairs_behind, pairs_with}
use Rattle.sort_table.proofs.NamedSignatures.{names_with_list, count_with_list, sort_with_list}

-- ---- one after the other
pub keeps_all : (g : Sig) → Keeps g g
keeps_all g = record {
  texts = refl;
  taken = refl;
  variables = refl;
  actions = refl;
  names = refl;
  count = refl;
  sorts = λ s l. (l, refl);
  functions = λ i f at. at;
  free = λ i l none. none;
  constructs = λ i c. c;
}

still_within : (g h : Sig) → Keeps g h → (i : ℕ) → i < length g.functions → i < length h.functions
still_within g h k i l = let f = read_within g.functions i l in slice_get_within h.functions i f.0 (k.functions i f.0 f.1)

pub keeps_then : (g h k : Sig) → Keeps g h → Keeps h k → Keeps g k
keeps_then g h k a b = record {
  texts = b.texts ∙ a.texts;
  taken = b.taken ∙ a.taken;
  variables = b.variables ∙ a.variables;
  actions = b.actions ∙ a.actions;
  names = b.names ∙ a.names;
  count = b.count ∙ a.count;
  sorts = λ s l. (let first = a.sorts s l in let then = b.sorts s first.0 in (then.0, then.1 ∙ first.1));
  functions = λ i f at. b.functions i f (a.functions i f at);
  free = λ i l none. b.free i (still_within g h a i.0 l) (a.free i l none);
  constructs = λ i c. b.constructs i (a.constructs i c);
}

-- ---- list sorts
keeps_with_list : (g : Sig) (e : SortId) → IsSignature g → Keeps g (with_list g e)
keeps_with_list g e stands = record {
  texts = refl;
  taken = refl;
  variables = refl;
  actions = refl;
  names = names_with_list g e stands.complete;
  count = count_with_list g e;
  sorts = λ s l. (let long = length-append g.sorts (list_sort e ∷ []) in omega (arith, l, long), sort_with_list g e s l);
  functions = λ i f at. read_front g.functions (built_ins g.texts (list_table e (record { 0 = length g.sorts }))) i f at;
  free = λ i l none. list_sorts_give_no_role g e stands.roles i none;
  constructs = λ i c. (c.0, c.1, read_front g.sorts (list_sort e ∷ []) c.0.0 c.1 c.2, c.3);
}

pub lists_stand : (g h : Sig) → IsSignature g → AddsLists g h → IsSignature h
lists_stand g _ stands no_lists = stands
lists_stand g _ stands (one_list h e l absent a) = list_stands h e (lists_stand g h stands a) l absent

pub lists_keep : (g h : Sig) → IsSignature g → AddsLists g h → Keeps g h
lists_keep g _ stands no_lists = keeps_all g
lists_keep g _ stands (one_list h e l absent a) = keeps_then g h (with_list h e) (lists_keep g h stands a) (keeps_with_list h e (lists_stand g h stands a))

-- ---- what is kept
pub all_with : {A : Type 0} (P Q : A → Type 0) → ((x : A) → P x → Q x) → (xs : List A) → AllByRecursion P xs → AllByRecursion Q xs
all_with P Q f [] all = tt
all_with P Q f (x ∷ xs) all = (f x all.0, all_with P Q f xs all.1)

module _ (g h : Sig) (keeps : Keeps g h) where
  pub has_sort_kept : (e : SortExpression) (s : SortId) → HasSortOf g e s → HasSortOf h e s
  has_sort_kept e s has =
      let there = keeps.sorts s has.within in
      record { within = there.0; meant = ap (λ ns. sort_in ns e) keeps.names ∙ (has.meant ∙ ap Some (sym there.1)) }

  pub have_sorts_kept : (es : List SortExpression) (ss : List SortId) → HaveSortsOf g es ss → HaveSortsOf h es ss
  have_sorts_kept es ss have = pairs_with (HasSortOf g) (HasSortOf h) has_sort_kept es ss have

  pub named_kept : (n : Name) → IsNamed g n → IsNamed h n
  named_kept n is = (is.0, ap (first_named n) keeps.names ∙ is.1)

  pub readable_kept : (e : SortExpression) → IsReadable g e → IsReadable h e
  readable_kept e is = (is.0, has_sort_kept e is.0 is.1)

  pub name_kept : (n : Name) (i : NameId) → IsNameId g n i → IsNameId h n i
  name_kept n i at = ap (λ ts. slice_get ts i.0) keeps.texts ∙ at

  pub known_kept : (n : Name) → IsKnownName g n → IsKnownName h n
  known_kept n is = record {
    is_text = is.is_text;
    is_taken = (let t = is.is_taken in (t.0, ap (λ ts. slice_get ts t.0.0) keeps.texts ∙ t.1, subst (λ ns. Contains ns t.0) (sym keeps.taken) t.2));
  }

  pub known_option_kept : (o : Option Name) → IsKnownOption g o → IsKnownOption h o
  known_option_kept None is = tt
  known_option_kept (Some n) is = known_kept n is

  pub ready_field_kept : (f : bare.Field) → IsReadyField g f → IsReadyField h f
  ready_field_kept f is = (known_option_kept f.name is.0, readable_kept f.sort is.1)

  pub ready_constructor_kept : (c : bare.Constructor) → IsReadyConstructor g c → IsReadyConstructor h c
  ready_constructor_kept c is = record {
    name = known_kept c.name is.name;
    fields = all_with (IsReadyField g) (IsReadyField h) ready_field_kept c.fields is.fields;
    recogniser = known_option_kept c.recogniser is.recogniser;
  }

  pub option_kept : (o : Option Name) (i : Option NameId) → IsOptionalId g o i → IsOptionalId h o i
  option_kept None None is = tt
  option_kept (Some n) (Some i) is = name_kept n i is
  option_kept None (Some i) is = absurd is
  option_kept (Some n) None is = absurd is

  pub field_kept : (f : bare.Field) (x : Option NameId × SortId) → IsFieldOf g f x → IsFieldOf h f x
  field_kept f x is = (option_kept f.name x.0 is.0, has_sort_kept f.sort x.1 is.1)

  pub con_kept : (c : bare.Constructor) (d : Con) → IsConOf g c d → IsConOf h c d
  con_kept c d is = record {
    name = name_kept c.name d.name is.name;
    fields = pairs_with (IsFieldOf g) (IsFieldOf h) field_kept c.fields d.fields is.fields;
    recogniser = option_kept c.recogniser d.test is.recogniser;
  }

  constructor_kept : (c : Name) (es : List SortExpression) (i : FunId) (x : Function) → IsConstructorAt g c es i x → IsConstructorAt h c es i x
  constructor_kept c es i x is = record {
    there = keeps.functions i.0 x is.there;
    declared = is.declared;
    name = name_kept c x.name is.name;
    arguments = have_sorts_kept es x.sorts is.arguments;
  }

  role_kept : (i : FunId) (r : TextRole) → i.0 < length g.functions → HasTextRole g i r → HasTextRole h i r
  role_kept i _ l (of_struct c) = of_struct (keeps.constructs i c)
  role_kept i _ l (of_cons none) = of_cons (keeps.free i l none)
  role_kept i _ l (of_map none) = of_map (keeps.free i l none)
  role_kept i _ l (of_place c es k j x is at) = of_place c es k j x (constructor_kept c es j x is) at
  role_kept i _ l (of_test c es j x is at) = of_test c es j x (constructor_kept c es j x is) at

  pub entry_kept : (f : Named) (x : Function) → IsEntryOf g f x → IsEntryOf h f x
  entry_kept f x is = record {
    declared = is.declared;
    name = name_kept f.0 x.name is.name;
    arguments = have_sorts_kept f.1.arguments x.sorts is.arguments;
    result = has_sort_kept f.1.result x.result is.result;
  }

  pub entered_kept : (f : Named) (i : FunId) → IsEntered g f i → IsEntered h f i
  entered_kept f i is = record {
    entry = is.entry;
    there = keeps.functions i.0 is.entry is.there;
    is = entry_kept f is.entry is.is;
    role = role_kept i f.1.role (slice_get_within g.functions i.0 is.entry is.there) is.role;
  }

-- ---- lists that are read along
pub pairs_pushed : {A B : Type 0} (Q : A → B → Type 0) (xs : List A) (ys : List B) (x : A) (y : B) → EachPair Q xs ys → Q x y → EachPair Q (xs ++ x ∷ []) (ys ++ y ∷ [])
pairs_pushed Q xs ys x y all one = pairs_behind Q xs (x ∷ []) ys (y ∷ []) all (one, tt)

pub one_more_read : {A B C : Type 0} (f : A → B) (h : B → C) (xs : List A) (i : ℕ) (x : A) → i < length xs → x ≡ get_or xs i x → map h (map f (take (i + 1) xs)) ≡ map h (map f (take i xs)) ++ h (f x) ∷ []
one_more_read f h xs i x l e =
    ap (λ ys. map h (map f ys)) (take_more xs i x l)
    ∙ (ap (map h) (map-append f (take i xs) (get_or xs i x ∷ [])) ∙ (map-append h (map f (take i xs)) (f (get_or xs i x) ∷ [])
    ∙ ap (λ y. map h (map f (take i xs)) ++ h (f y) ∷ []) (sym e)))

pub nothing_yet : {A B : Type 0} (Q : A → B → Type 0) (ys : List B) → ys ≡ [] → EachPair Q [] ys
nothing_yet Q ys e = subst (EachPair Q []) (sym e) tt

-- one pair more in a loop
pub next_pair : {A B C D : Type 0} (Q : C → D → Type 0) (f : A → B) (h : B → C) (xs : List A) (i : ℕ) (x : A) (ys more : List D) (y : D) → i < length xs → x ≡ get_or xs i x
    → EachPair Q (map h (map f (take i xs))) ys → Q (h (f x)) y → more ≡ ys ++ y ∷ [] → EachPair Q (map h (map f (take (i + 1) xs))) more
next_pair Q f h xs i x ys more y l e all one pushed =
    subst (λ zs. EachPair Q (map h (map f (take (i + 1) xs))) zs) (sym pushed)
    (subst (λ zs. EachPair Q zs (ys ++ y ∷ [])) (sym (one_more_read f h xs i x l e)) (pairs_pushed Q (map h (map f (take i xs))) ys (h (f x)) y all one))

pub pair_read : {A B C : Type 0} (P : C → Type 0) (f : A → B) (h : B → C) (xs : List A) (i : ℕ) (x : A) → i < length xs → x ≡ get_or xs i x → AllByRecursion P (map h (map f xs)) → P (h (f x))
pair_read P f h [] i x l e all = absurd (omega (arith, l))
pair_read P f h (y ∷ xs) zero x l e all = subst (λ z. P (h (f z))) (sym e) all.0
pair_read P f h (y ∷ xs) (suc i) x l e all = pair_read P f h xs i x (omega (arith, l)) e all.1
