-- A signature with what a text declares, one step after the other.
use Rattle.std.proofs.Common.{◌≡◌, ◌<◌, ◌⊎◌, inl, inr, ℕ, zero, true, List, [], ◌++◌, length, refl, ap, sym, ◌∙◌, subst, arith}
use Rattle.std.proofs.Common.{Result, Ok, Err}
use Rattle.std.specs.Result.{OnOk}
use Rattle.std.specs.Prelude.{Some, slice_get}
use Rattle.std.specs.List.{All, Contains, AllByRecursion, flat_map}
use Rattle.std.specs.Str.{IsUtf8}
use Rattle.std.proofs.lemmas.List.{length-map}
use Rattle.std.proofs.lemmas.List.Elements.{All-contains}
use Rattle.std.proofs.lemmas.Option.{same_Some, slice_get_within}
use Rattle.mcrl2_syntax.specs.Declarations.{PlainSpec}
use Rattle.data_theory.specs.declared.ids.NameId.{NameId}
use Rattle.data_theory.specs.declared.ids.SortId.{SortId}
use Rattle.data_theory.specs.declared.ids.FunId.{FunId}
use Rattle.data_theory.specs.Sorts.{IsListOver, IsBare}
use Rattle.data_theory.specs.IdTerms.{sort_under}
use Rattle.data_theory.specs.Functions.{Function}
use Rattle.data_theory.specs.FirstNames.{first_names}
use Rattle.data_theory.specs.IdRoles.{HasNoRole}
use Rattle.data_theory.specs.WholeSignatures.{IsSignature}
use Rattle.data_theory.specs.Signature.{Sig, IsTaken, IsTakenAmong, first_signature}
use Rattle.data_theory.specs.Names.{with_texts}
use Rattle.data_theory.proofs.NameLemmas.{has_texts, texts_behind, still_contains}
use Rattle.data_theory.proofs.PlaceLemmas.{contains_read}
use Rattle.sort_table.specs.Expressions.{Name}
use Rattle.sort_table.specs.NamedLists.{first_named}
use Rattle.sort_table.specs.BareSorts.{SortExpression, a_name}
use Rattle.sort_table.specs.BareDeclarations.{Declaration, alias, bare_sections}
use Rattle.sort_table.specs.SortMeanings.{Kind, alone, a_struct, equal_to, kinds_in, UnderNames, under_names, actions_in}
use Rattle.sort_table.specs.TextFunctions.{TextRole, Named, struct_constructor, declared_constructor, projection, recogniser, functions_in}
use Rattle.sort_table.specs.UsedNames.{leaf_of}
use Rattle.sort_table.specs.Identifiers.{identifiers_in, copied_identifiers}
use Rattle.sort_table.specs.NamedSorts.{AreIdsOf, HaveSortNames, IsNamed, AddsSorts, ReadsSorts, sort_names_of, sort_count}
use Rattle.sort_table.specs.DeclaringSorts.{NewListsOfAliases, IsOfAlias}
use Rattle.sort_table.specs.DeclaredNames.{own_among, AreNamesOf}
use Rattle.sort_table.specs.TakenTexts.{TakesTexts}
use Rattle.sort_table.specs.WrittenSorts.{AddsWritten}
use Rattle.sort_table.specs.WrittenLists.{IsPartSort}
use Rattle.sort_table.specs.EnteredFunctions.{HasSortOf, IsNameId, IsKnownName, IsConstructorAt, HasTextRole, of_struct, of_cons, of_map, of_place, of_test, IsEntered, AreEntered, Keeps}
use Rattle.sort_table.specs.EnteredActions.{no_actions, AddsActions, ComeNext, IsReadyAction}
use Rattle.sort_table.specs.FunctionStates.{HasBareSort, IsStructured, IsReadyDeclaration, structs_in, AreBare, StructsDiffer, CanEnter, AddsDeclarations}
use Rattle.sort_table.specs.ConstructorMarks.{is_declared_role, marks_of, IsConsAt, GivesConstructors}
use Rattle.sort_table.specs.TextSignatures.{declarations_of, IsSoundText, AllBare, HasTextSorts}
use Rattle.sort_table.specs.Vocabularies.{EachPair, IsVocabularyOf}
use Rattle.sort_table.specs.SignatureVocabularies.{vocabulary_of}
use Rattle.sort_table.specs.Built.{expressions_in, IsWritten, IsDeclared}
use Rattle.sort_table.proofs.Growing.{pairs_with}
use Rattle.sort_table.proofs.StandingNames.{in_list, alias_stands}
use Rattle.sort_table.proofs.NamedSignatures.{name_is_named}
use Rattle.sort_table.proofs.KeptFunctions.{lists_stand, lists_keep, known_kept}
use Rattle.sort_table.proofs.NewFunctions.{pair_at, each_place}
use Rattle.sort_table.proofs.EnteringStructs.{as_many}
use Rattle.sort_table.proofs.AddedStructs.{all_contained}
use Rattle.sort_table.proofs.AddedDeclarations.{reads_kept}
use Rattle.sort_table.proofs.AddedSorts.{lists_declare_nothing, same_besides, grows_sorts, part_grown, all_bare, lists_are_bare, first_bare, no_list_first, nothing_else_first, taken_before, first_only, first_texts}
use Rattle.sort_table.proofs.KeptMeanings.{KeepsMeanings, meanings_then, by_kept, by_actions, by_texts, sort_stays, sorts_stay, readable_stays, named_stays, part_stays}
use Rattle.sort_table.proofs.TextNames.{declared_hold}
use Rattle.sort_table.proofs.CopiedNames.{copied_among, copied_hold, kinds_copied}
use Rattle.sort_table.proofs.SortKinds.{flat_contains, contains_flat, leaf_declared, declared_named, declared_struct}
use Rattle.sort_table.proofs.NothingTwice.{mapped_at, kinds_differ}
use Rattle.sort_table.proofs.OwnSorts.{structs_bare, structs_are_different, all_can_enter, alone_bare, struct_made}
use Rattle.sort_table.proofs.ReadySections.{functions_ready, actions_ready}
use Rattle.sort_table.proofs.GivenMeanings.{same_texts, meanings_given, lists_given}
use Rattle.sort_table.proofs.GivenVocabulary.{sorts_have, functions_have, declared_by_mark}
use Rattle.sort_table.proofs.GivenActions.{actions_have}

-- functions that are entered stay so while actions come
entered_later : (g h : Sig) → Keeps (no_actions g) (no_actions h) → (f : Named) (i : FunId) → IsEntered g f i → IsEntered h f i
entered_later g h keeps f i is = record {
  entry = is.entry;
  there = keeps.functions i.0 is.entry is.there;
  is = record {
    declared = is.is.declared;
    name = name_later f.0 is.entry.name is.is.name;
    arguments = sorts_stay g h meanings f.1.arguments is.entry.sorts is.is.arguments;
    result = sort_stays g h meanings f.1.result is.entry.result is.is.result;
  };
  role = role_later f.1.role is.role;
}
  where
    meanings : KeepsMeanings g h
    meanings = by_actions g h keeps

    name_later : (n : Name) (j : NameId) → IsNameId g n j → IsNameId h n j
    name_later n j at = ap (λ ts. slice_get ts j.0) keeps.texts ∙ at

    constructor_later : (c : Name) (es : List SortExpression) (j : FunId) (x : Function) → IsConstructorAt g c es j x → IsConstructorAt h c es j x
    constructor_later c es j x con = record { there = keeps.functions j.0 x con.there; declared = con.declared; name = name_later c x.name con.name; arguments = sorts_stay g h meanings es x.sorts con.arguments }

    low : i.0 < length g.functions
    low = slice_get_within g.functions i.0 is.entry is.there

    role_later : (r : TextRole) → HasTextRole g i r → HasTextRole h i r
    role_later _ (of_struct c) = of_struct (keeps.constructs i c)
    role_later _ (of_cons none) = of_cons (keeps.free i low none)
    role_later _ (of_map none) = of_map (keeps.free i low none)
    role_later _ (of_place c es k j x con at) = of_place c es k j x (constructor_later c es j x con) at
    role_later _ (of_test c es j x con at) = of_test c es j x (constructor_later c es j x con) at

-- a function of a `cons` has no role yet
cons_free : (g : Sig) (i : FunId) (r : TextRole) → HasTextRole g i r → r ≡ declared_constructor → HasNoRole g i
cons_free g i _ (of_struct c) e = let never : struct_constructor ≡ declared_constructor = e in cc
cons_free g i _ (of_cons none) e = none
cons_free g i _ (of_map none) e = none
cons_free g i _ (of_place c es k j x con at) e = let never : projection c es k ≡ declared_constructor = e in cc
cons_free g i _ (of_test c es j x con at) e = let never : recogniser c es ≡ declared_constructor = e in cc

each_contained : {A : Type 0} (P : A → Type 0) (xs : List A) → ((x : A) → Contains xs x → P x) → All P xs
each_contained P xs each = each_place P xs (λ i x at. each x (contains_read xs i x at))

same_names : (u : UnderNames) (g h : Sig) → sort_names_of h ≡ sort_names_of g → sort_count h ≡ sort_count g → HaveSortNames u (sort_names_of g) (sort_count g) → HaveSortNames u (sort_names_of h) (sort_count h)
same_names u g h names count have = subst (λ ns. HaveSortNames u ns (sort_count h)) (sym names) (subst (HaveSortNames u (sort_names_of g)) (sym count) have)

-- ---- the sorts of a text
module _ (spec : PlainSpec) (sound : IsSoundText spec) (ks : List (Name × Kind)) (ids : List NameId) (same : ks ≡ kinds_in (declarations_of spec)) (given : List (List ℕ)) (entered : (t : Name) → Contains (identifiers_in spec) t → Contains given t) where
  abbrev ds : List Declaration
  ds = declarations_of spec

  abbrev u : UnderNames
  u = under_names ds

  module _ (g0 : Sig) (first : g0 ≡ first_signature given) (g1 : Sig) (sorts : AddsSorts g0 g1) (stands1 : IsSignature g1) (have : HaveSortNames u (sort_names_of g1) (sort_count g1)) (reads : ReadsSorts ks ids g1) (aliases : NewListsOfAliases ks g0 g1) where
    texts_there : (t : Name) → Contains (identifiers_in spec) t → Contains g1.texts t
    texts_there t c = subst (λ ts. Contains ts t) (sym ((same_besides g0 g1 sorts).texts ∙ ap (λ (x : Sig). x.texts) first)) (first_texts given t (entered t c))

    pub copied_there : (t : Name) → Contains (copied_identifiers spec) t → Contains g1.texts t
    copied_there t c = texts_there t (copied_among spec.sections t c)

    bare_one : AllBare g1.sorts
    bare_one = all_bare g0 g1 sorts (subst (λ (x : Sig). AllBare x.sorts) (sym first) (first_bare given))

    module _ (g2 : Sig) (stands2 : IsSignature g2) (takes : TakesTexts (copied_identifiers spec) g1 g2) where
      meanings12 : KeepsMeanings g1 g2
      meanings12 = by_texts g1 g2 (copied_identifiers spec) takes

      have2 : HaveSortNames u (sort_names_of g2) (sort_count g2)
      have2 = same_names u g1 g2 meanings12.names (ap sort_count takes.same) have

      pub reads2 : ReadsSorts ks ids g2
      reads2 = record {
        ids_are = subst (λ (ts : List (List ℕ)). AreIdsOf ts ks ids) (sym (ap (λ (x : Sig). x.texts) takes.same)) reads.ids_are;
        declared = λ n has. reads.declared n (has.0, sym (ap (first_named n) meanings12.names) ∙ has.1);
      }

      pub named2 : (e : SortExpression) → Contains (flat_map expressions_in ds) e → (n : Name) → leaf_of e ≡ Some n → IsNamed g2 n
      named2 e c n leaf = (let k = leaf_declared ds e n sound.known c leaf in declared_named ds (sort_names_of g2) (sort_count g2) have2 sound.known sound.round n k.0 k.1)

      module _ (g3 : Sig) (written : AddsWritten (flat_map expressions_in ds) g2 g3) (reads3 : ReadsSorts ks ids g3) where
        keeps23 : Keeps g2 g3
        keeps23 = lists_keep g2 g3 stands2 written.lists

        meanings13 : KeepsMeanings g1 g3
        meanings13 = meanings_then g1 g2 g3 meanings12 (by_kept g2 g3 keeps23)

        -- ---- names
        is_taken : (t : Name) → IsTaken g3 t → Contains first_names t ⊎ Contains (copied_identifiers spec) t
        is_taken t is = elim ((takes.taken t).0 (subst (λ ns. IsTakenAmong g2.texts ns t) keeps23.taken (subst (λ ts. IsTakenAmong ts g3.taken t) keeps23.texts is))) [
          | inl old ↦ elim (taken_before g0 g1 old.0 sorts old.2) [
            | inl started ↦ inl (first_only given t (subst (λ (x : Sig). IsTaken x t) first (old.0, ap (λ ts. slice_get ts old.0.0) (sym (same_besides g0 g1 sorts).texts) ∙ old.1, started)))
            | inr name ↦
                let kind = reads.declared t (sort_under g1 name.0, name_is_named g1 stands1 old.0 t old.1 name.0 name.1) in
                inr (kinds_copied spec.sections sound.placed (t, kind.0) (in_list t (kinds_in ds) kind.0 (ap (first_named t) (sym same) ∙ kind.1)))
          ]
          | inr copied ↦ inr copied
        ]

        was_taken : (t : Name) → Contains first_names t ⊎ Contains (copied_identifiers spec) t → IsTaken g3 t
        was_taken t is = elim is [
          | inl word ↦ All-contains (IsTaken g3) first_names t (lists_stand g2 g3 stands2 written.lists).words_taken word
          | inr copied ↦ subst (λ ns. IsTakenAmong g3.texts ns t) (sym keeps23.taken) (subst (λ ts. IsTakenAmong ts g2.taken t) (sym keeps23.texts) ((takes.taken t).1 (inr copied)))
        ]

        -- ---- list sorts
        of_expression : (l : SortId) (e : SortExpression) → Contains (flat_map expressions_in ds) e → IsPartSort e g3 l → IsWritten ds g3 l
        of_expression l e among part = (let d = flat_contains expressions_in ds e among in record { declaration = d.0; expression = e; declared = d.1; used = d.2; part = part })

        of_alias : (l : SortId) → IsOfAlias ks g1 l → IsWritten ds g3 l
        of_alias l its =
            let there : Contains ds (alias its.name its.expression) = alias_stands ds its.name its.expression (in_list its.name (kinds_in ds) (equal_to its.expression) (ap (first_named its.name) (sym same) ∙ its.declared)) in
            let grows = grows_sorts its.before g1 its.stands its.since in
            let part1 : IsPartSort its.expression g1 l = part_grown its.before g1 grows its.expression l its.within its.part in
            record {
              declaration = alias its.name its.expression;
              expression = its.expression;
              declared = there;
              used = (zero, omega arith, refl);
              part = part_stays g1 g3 meanings13 its.expression l (grows.sorts l its.within).0 part1;
            }

        lists_written : (e l : SortId) → IsListOver g3.sorts e l → IsWritten ds g3 l
        lists_written e l over = elim (written.only e l over) [
          | inl before ↦ elim (aliases e l (subst (λ (x : Sig). IsListOver x.sorts e l) takes.same before)) [
            | inl started ↦ absurd (no_list_first given e l (subst (λ (x : Sig). IsListOver x.sorts e l) first started))
            | inr its ↦ of_alias l its
          ]
          | inr (x, among, part) ↦ of_expression l x among part
        ]

        pub has_text_sorts : HasTextSorts spec ks ids g3
        has_text_sorts = record {
          names = same_names u g2 g3 keeps23.names keeps23.count have2;
          reads = reads3;
          bare = lists_are_bare g2 g3 written.lists (subst (λ (x : Sig). AllBare x.sorts) (sym takes.same) bare_one);
          written = written.have;
          lists = lists_written;
          entered = λ t c. subst (λ ts. Contains ts t) (sym (keeps23.texts ∙ ap (λ (x : Sig). x.texts) takes.same)) (texts_there t c);
          taken = λ t. (is_taken t, was_taken t);
          no_functions = lists_declare_nothing g2 g3 written.lists ∙ (ap (λ (x : Sig). x.declared) takes.same ∙ ((same_besides g0 g1 sorts).declared ∙ (ap (λ (x : Sig). x.declared) first ∙ (nothing_else_first given).0)));
          no_actions = keeps23.actions ∙ (ap (λ (x : Sig). x.actions) takes.same ∙ ((same_besides g0 g1 sorts).actions ∙ (ap (λ (x : Sig). x.actions) first ∙ (nothing_else_first given).1)));
          no_variables = keeps23.variables ∙ (ap (λ (x : Sig). x.variables) takes.same ∙ ((same_besides g0 g1 sorts).variables ∙ (ap (λ (x : Sig). x.variables) first ∙ (nothing_else_first given).2)));
        }

-- ---- its functions and actions
module _ (spec : PlainSpec) (sound : IsSoundText spec) (ks : List (Name × Kind)) (ids : List NameId) (g3 : Sig) (stands3 : IsSignature g3) (has : HasTextSorts spec ks ids g3) where
  abbrev these : List Declaration
  these = declarations_of spec

  abbrev w : UnderNames
  w = under_names these

  pub copied_text : AllByRecursion IsUtf8 (copied_identifiers spec)
  copied_text = copied_hold IsUtf8 spec.sections sound.text

  known3 : (n : Name) → Contains (copied_identifiers spec) n → IsKnownName g3 n
  known3 n c = record { is_text = all_contained IsUtf8 (copied_identifiers spec) n copied_text c; is_taken = (has.taken n).1 (inr c) }

  struct_named : (n : Name) → Contains (structs_in these) n → IsNamed g3 n
  struct_named n c = declared_named these (sort_names_of g3) (sort_count g3) has.names sound.known sound.round n a_struct (declared_struct these n (kinds_differ (bare_sections spec) sound.once) c)

  pub ready3 : AllByRecursion (IsReadyDeclaration g3) these
  ready3 = functions_ready g3 spec.sections known3 has.written struct_named sound.placed

  pub structs3 : AreBare g3 these
  structs3 = structs_bare (bare_sections spec) sound.once g3 stands3 has.names has.bare

  pub differ3 : StructsDiffer these g3
  differ3 = structs_are_different (bare_sections spec) sound.once g3 stands3 has.names

  pub next3 : CanEnter g3 (functions_in these)
  next3 = all_can_enter (bare_sections spec) sound.once g3 stands3 has.names has.no_functions

  module _ (g4 : Sig) (stands4 : IsSignature g4) (adds : AddsDeclarations these g3 g4) where
    pub reads4 : ReadsSorts ks ids g4
    reads4 = reads_kept ks ids g3 g4 adds.adds.keeps has.reads

    have4 : HaveSortNames w (sort_names_of g4) (sort_count g4)
    have4 = same_names w g3 g4 adds.adds.keeps.names adds.adds.keeps.count has.names

    meanings34 : KeepsMeanings g3 g4
    meanings34 = by_kept g3 g4 adds.adds.keeps

    pub ready4 : AllByRecursion (IsReadyAction g4) these
    ready4 = actions_ready g4 spec.sections (λ n c. known_kept g3 g4 adds.adds.keeps n (known3 n c)) (λ e c. readable_stays g3 g4 meanings34 e (has.written e c)) (λ n c. named_stays g3 g4 meanings34 n (struct_named n c)) sound.placed

    entered4 : AreEntered (functions_in these) g4
    entered4 = adds.adds.entered [] (subst (λ (is : List FunId). EachPair (IsEntered g3) [] is) (sym has.no_functions) tt)

    module _ (g5 : Sig) (stands5 : IsSignature g5) (acts : AddsActions (actions_in these) g4 g5) where
      meanings45 : KeepsMeanings g4 g5
      meanings45 = by_actions g4 g5 acts.keeps

      have5 : HaveSortNames w (sort_names_of g5) (sort_count g5)
      have5 = same_names w g4 g5 meanings45.names acts.keeps.count have4

      entered5 : AreEntered (functions_in these) g5
      entered5 = subst (EachPair (IsEntered g5) (functions_in these)) (sym acts.declared) (pairs_with (IsEntered g4) (IsEntered g5) (entered_later g4 g5 acts.keeps) (functions_in these) g4.declared entered4)

      pub marks_long : length (marks_of (functions_in these)) ≡ length g5.declared
      marks_long = length-map (functions_in these) _ ∙ as_many (IsEntered g5) (functions_in these) g5.declared entered5

      pub cons_are_free : (s : SortId) (p : ℕ) (i : FunId) → IsConsAt g5 (marks_of (functions_in these)) s p i → HasNoRole g5 i
      cons_are_free s p i is =
          let f = pair_at (IsEntered g5) (functions_in these) g5.declared p i entered5 is.there in
          let mark = same_Some (is_declared_role f.0.1.role) true (sym (mapped_at (λ (x : Named). is_declared_role x.1.role) (functions_in these) p f.0 f.1) ∙ is.marked) in
          cons_free g5 i f.0.1.role f.2.role (declared_by_mark f.0.1.role mark)

      module _ (g6 : Sig) (stands6 : IsSignature g6) (gives : GivesConstructors (marks_of (functions_in these)) g5 g6) where
        -- ---- what stayed all the way
        meanings56 : KeepsMeanings g5 g6
        meanings56 = meanings_given (marks_of (functions_in these)) g5 g6 gives

        meanings36 : KeepsMeanings g3 g6
        meanings36 = meanings_then g3 g5 g6 (meanings_then g3 g4 g5 meanings34 meanings45) meanings56

        pub texts_stay : g6.texts ≡ g3.texts
        texts_stay = same_texts (marks_of (functions_in these)) g5 g6 gives ∙ (acts.keeps.texts ∙ adds.adds.keeps.texts)

        taken36 : g6.taken ≡ g3.taken
        taken36 = ap (λ (x : Sig). x.taken) gives.same ∙ (acts.keeps.taken ∙ adds.adds.keeps.taken)

        taken_still : (t : Name) → IsTaken g3 t → IsTaken g6 t
        taken_still t is = subst (λ ns. IsTakenAmong g6.texts ns t) (sym taken36) (subst (λ ts. IsTakenAmong ts g3.taken t) (sym texts_stay) is)

        taken_once : (t : Name) → IsTaken g6 t → IsTaken g3 t
        taken_once t is = subst (λ ns. IsTakenAmong g3.texts ns t) taken36 (subst (λ ts. IsTakenAmong ts g6.taken t) texts_stay is)

        lists_stay : (e l : SortId) → IsListOver g6.sorts e l → IsWritten these g6 l
        lists_stay e l over =
            let at5 = lists_given (marks_of (functions_in these)) g5 g6 gives e l over in
            let at3 = adds.lists e l (subst (λ ss. IsListOver ss e l) acts.sorts at5) in
            let its = has.lists e l at3 in
            record {
              declaration = its.declaration;
              expression = its.expression;
              declared = its.declared;
              used = its.used;
              part = part_stays g3 g6 meanings36 its.expression l (slice_get_within g3.sorts l.0 at3.0 at3.1) its.part;
            }

        -- ---- the vocabulary
        alone5 : (n : Name) → w.sort n ≡ Some alone → HasBareSort g5 n
        alone5 n is =
            let b = alone_bare (bare_sections spec) sound.once g3 stands3 has.names g4 has.bare have4 adds n is in
            (b.0, sort_stays g4 g5 meanings45 (a_name n) b.0 b.1, subst (λ ss. IsBare ss b.0) (sym acts.sorts) b.2)

        made5 : (n : Name) → w.sort n ≡ Some a_struct → (s : SortId) × HasSortOf g5 (a_name n) s × IsStructured g5 s
        made5 n is =
            let m = struct_made (bare_sections spec) sound.once g3 stands3 has.names g4 has.bare have4 adds n is in
            (m.0, sort_stays g4 g5 meanings45 (a_name n) m.0 m.1, (m.2.0, m.2.1, ap (λ ss. slice_get ss m.0.0) acts.sorts ∙ m.2.2, m.2.3))

        no_acts4 : g4.actions ≡ []
        no_acts4 = adds.adds.keeps.actions ∙ has.no_actions

        acts5 : g5.actions ≡ acts.added
        acts5 = acts.behind ∙ ap (λ front. front ++ acts.added) no_acts4

        vocabulary_is : IsVocabularyOf w (vocabulary_of g6)
        vocabulary_is = record {
          sorts = sorts_have these g5 g6 stands5 stands6 have5 entered5 alone5 made5 gives;
          functions = functions_have these g5 g6 stands5 stands6 have5 entered5 alone5 made5 gives;
          actions = actions_have (bare_sections spec) sound.once g5 have5 g6 meanings56 (same_texts (marks_of (functions_in these)) g5 g6 gives) acts.added (ap (λ (x : Sig). x.actions) gives.same ∙ acts5)
              (subst (λ front. ComeNext g5 front (actions_in these) acts.added) no_acts4 acts.in_order);
        }

        pub is_declared : IsDeclared spec g6
        is_declared = record {
          vocabulary = vocabulary_is;
          no_variables = ap (λ (x : Sig). x.variables) gives.same ∙ (acts.keeps.variables ∙ (adds.adds.keeps.variables ∙ has.no_variables));
          entered = each_contained (Contains g6.texts) (identifiers_in spec) (λ t c. subst (λ ts. Contains ts t) (sym texts_stay) (has.entered t c));
          taken = λ t. (λ is. (has.taken t).0 (taken_once t is), λ is. taken_still t ((has.taken t).1 is));
          written = λ d e c among. readable_stays g3 g6 meanings36 e (has.written e (contains_flat expressions_in these d e c among));
          lists = lists_stay;
          roles = stands6.roles;
        }

-- ---- the ids of sort names
pub names_are : (spec : PlainSpec) (ks : List (Name × Kind)) (ids own : List NameId) (g h : Sig) → ks ≡ kinds_in (declarations_of spec) → HasTextSorts spec ks ids g → h.texts ≡ g.texts
    → ((texts : List (List ℕ)) → AreIdsOf texts ks ids → AreIdsOf texts (own_among (λ n. first_named n ks) ks) own) → AreNamesOf h own (declarations_of spec)
names_are spec ks ids own g h same has texts are =
    subst (λ (kinds : List (Name × Kind)). AreIdsOf h.texts (own_among (λ n. first_named n kinds) kinds) own) same (are h.texts (subst (λ ts. AreIdsOf ts ks ids) (sym texts) has.reads.ids_are))

-- ---- names in a table
pub still_entered : (texts ts : List (List ℕ)) (new : List (List ℕ)) (t : Name) → new ≡ with_texts texts ts → Contains texts t → Contains new t
still_entered texts ts new t is c = subst (λ xs. Contains xs t) (sym is) (still_contains texts (with_texts texts ts) t (texts_behind texts ts) c)

pub entered_now : (texts ts : List (List ℕ)) (new : List (List ℕ)) (t : Name) → new ≡ with_texts texts ts → Contains ts t → Contains new t
entered_now texts ts new t is c = subst (λ xs. Contains xs t) (sym is) (has_texts texts ts t c)

pub on_ok_map : {T E P Q : Type 0} (r : Result T E) → (P → Q) → OnOk r P → OnOk r Q
on_ok_map (Ok x) f p = f p
on_ok_map (Err e) f p = tt

-- declared sort names are text
pub kinds_are_text : (spec : PlainSpec) → AllByRecursion IsUtf8 (identifiers_in spec) → All (λ (r : Name × Kind). IsUtf8 r.0) (kinds_in (declarations_of spec))
kinds_are_text spec text =
    each_contained (λ (r : Name × Kind). IsUtf8 r.0) (kinds_in (declarations_of spec)) (λ r c. all_contained (λ (x : Name × Kind). IsUtf8 x.0) (kinds_in (declarations_of spec)) r (declared_hold IsUtf8 spec.sections text) c)
