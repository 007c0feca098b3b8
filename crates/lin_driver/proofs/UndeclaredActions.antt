-- An action that a text doesn't declare is none of its signature, nor of one that has grown without actions.
use Rattle.std.proofs.Common.{◌≡◌, ◌≢◌, ◌<◌, ◌==◌, ℕ, Bool, true, false, cond, List, [], ◌∷◌, map, length, Some, inl, inr, refl, sym, ap, ◌∙◌, subst}
use Rattle.std.specs.Prelude.{bytes_eq, slice_get}
use Rattle.std.specs.List.{AllByRecursion, Contains, flat_map}
use Rattle.std.proofs.lemmas.List.Elements.{All-contains}
use Rattle.std.proofs.lemmas.Option.{slice_get-get_or}
use Rattle.std.proofs.lemmas.Slice.Eq.{bytes_eq-Decides}
use Rattle.data_theory.specs.declared.ids.NameId.{NameId}
use Rattle.data_theory.specs.Complete.{IsActionWithin}
use Rattle.data_theory.specs.IdTerms.{IsGrown, sort_under}
use Rattle.data_theory.specs.Keys.{Key}
use Rattle.data_theory.specs.Signature.{Sig}
use Rattle.data_theory.specs.WholeSignatures.{IsSignature}
use Rattle.term_pool.proofs.DeclaredConstants.{still_read}
use Rattle.mcrl2_syntax.proofs.Lists.{all_both}
use Rattle.sort_table.specs.Expressions.{Name}
use Rattle.sort_table.specs.BareSorts.{SortExpression}
use Rattle.sort_table.specs.BareDeclarations.{Declaration, sorts, alias, struct, constructors, mappings, variables, equation, actions, process, initial}
use Rattle.sort_table.specs.NamedLists.{all_named}
use Rattle.sort_table.specs.SignatureVocabularies.{action_under, text_under, vocabulary_of}
use Rattle.sort_table.specs.SortMeanings.{actions_by, actions_in, under_names}
use Rattle.sort_table.specs.Vocabularies.{AreSortsOf, EachPair, IsVocabularyOf}
use Rattle.sort_table.proofs.AddedStructs.{all_contained}
use Rattle.bisim_laws.proofs.Firing.{contains_cases, contains_first, contains_later, contains_none}
use Rattle.lps_core.specs.SealedTrees.{IsNoAction}
use Rattle.lps_core.proofs.Members.{map_contains}
use Rattle.lin_driver.specs.Headline.{DeclaresAction, DeclareNoAction}

-- ---- what stands under a name in a list
module _ {A : Type 0} where
  pub named_there : (n : Name) (rs : List (Name × A)) (x : A) → Contains rs (n, x) → Contains (all_named n rs) x
  named_there n [] x c = absurd (contains_none (n, x) c)
  named_there n (r ∷ rs) x c = elim (contains_cases r (n, x) rs c) [
    | inl here ↦
        let same : bytes_eq r.0 n ≡ true = (bytes_eq-Decides r.0 n).1 (ap (λ (q : Name × A). q.0) here) in
        subst (λ (b : Bool). Contains (cond b (r.1 ∷ all_named n rs) (all_named n rs)) x) (sym same) (subst (λ y. Contains (r.1 ∷ all_named n rs) y) (ap (λ (q : Name × A). q.1) here) (contains_first r.1 (all_named n rs)))
    | inr there ↦ further (bytes_eq r.0 n) (named_there n rs x there)
  ]
    where
      further : (b : Bool) → Contains (all_named n rs) x → Contains (cond b (r.1 ∷ all_named n rs) (all_named n rs)) x
      further true c = contains_later r.1 x (all_named n rs) c
      further false c = c

  -- the list has one of these under the name
  pub named_back : (n : Name) (rs : List (Name × A)) (y : A) (ys : List A) → all_named n rs ≡ y ∷ ys → Contains rs (n, y)
  named_back n [] y ys is = let never : [] ≡ y ∷ ys = is in absurd cc
  named_back n (r ∷ rs) y ys is = by_test (λ there. named_back n rs y ys there) (bytes_eq r.0 n) refl is
    where
      by_test : (all_named n rs ≡ y ∷ ys → Contains rs (n, y)) → (b : Bool) → bytes_eq r.0 n ≡ b → cond b (r.1 ∷ all_named n rs) (all_named n rs) ≡ y ∷ ys → Contains (r ∷ rs) (n, y)
      by_test further true same is =
          let name : r.0 ≡ n = (bytes_eq-Decides r.0 n).0 same in
          let value : r.1 ≡ y = cc in
          subst (λ (q : Name × A). Contains (r ∷ rs) q) (λ i. (name i, value i)) (contains_first r rs)
      by_test further false same is = contains_later r (n, y) rs (further is)

-- two lists that go together have both an element, or none
pub first_of_both : {A B : Type 0} (Q : A → B → Type 0) (xs : List A) (ys : List B) (y : B) → EachPair Q xs ys → Contains ys y → (x : A) × (zs : List A) × (xs ≡ x ∷ zs)
first_of_both Q [] [] y both c = absurd (contains_none y c)
first_of_both Q [] (z ∷ ys) y both c = absurd both
first_of_both Q (x ∷ xs) ys y both c = (x, xs, refl)

-- an action of a signature is declared under its name by the text whose vocabulary it has
pub declared_under : (ds : List Declaration) (g : Sig) → IsVocabularyOf (under_names ds) (vocabulary_of g) → (a : Key) → Contains g.actions a → (es : List SortExpression) × Contains (actions_in ds) (text_under g a.name, es)
declared_under ds g is a among =
    let n = text_under g a.name in
    let there : Contains (all_named n (vocabulary_of g).actions) (map (sort_under g) a.sorts) = named_there n (vocabulary_of g).actions (map (sort_under g) a.sorts) (map_contains (action_under g) g.actions a among) in
    let first = first_of_both (AreSortsOf (vocabulary_of g)) (all_named n (actions_in ds)) (all_named n (vocabulary_of g).actions) (map (sort_under g) a.sorts) (is.actions n) there in
    (first.0, named_back n (actions_in ds) first.0 first.1 first.2)

-- ---- a name that none declares
abbrev IsOther : Name → Name × List SortExpression → Type 0
IsOther t a = a.0 ≢ t

others : (t : Name) (ns : List Name) (es : List SortExpression) → ¬ (Contains ns t) → AllByRecursion (IsOther t) (map (λ (n : Name). (n, es)) ns)
others t [] es absent = tt
others t (n ∷ ns) es absent = ((λ e. absent (subst (Contains (n ∷ ns)) e (contains_first n ns))), others t ns es (λ c. absent (contains_later n t ns c)))

by_declaration : (t : Name) (d : Declaration) → ¬ (DeclaresAction t d) → AllByRecursion (IsOther t) (actions_by d)
by_declaration t (actions as_ es) absent = others t as_ es absent
by_declaration t (sorts ns) absent = tt
by_declaration t (alias n e) absent = tt
by_declaration t (struct n cs) absent = tt
by_declaration t (constructors fs es to) absent = tt
by_declaration t (mappings fs es to) absent = tt
by_declaration t (variables vs) absent = tt
by_declaration t (equation c l r) absent = tt
by_declaration t (process p vs body) absent = tt
by_declaration t (initial body) absent = tt

by_declarations : (t : Name) (ds : List Declaration) → DeclareNoAction t ds → AllByRecursion (IsOther t) (actions_in ds)
by_declarations t [] absent = tt
by_declarations t (d ∷ ds) absent = all_both (IsOther t) (actions_by d) (flat_map actions_by ds) (by_declaration t d absent.0) (by_declarations t ds absent.1)

-- no action of the signature has it, where its actions are those of the text's signature
pub no_action_of_it : (ds : List Declaration) (g h : Sig) (t : Name) → IsVocabularyOf (under_names ds) (vocabulary_of g) → IsSignature g → IsGrown g h → h.actions ≡ g.actions → DeclareNoAction t ds → IsNoAction h t
no_action_of_it ds g h t is stands grown same absent n a named among one =
    let before : Contains g.actions a = subst (λ (as_ : List Key). Contains as_ a) same among in
    let inside : a.name.0 < length g.texts = (All-contains (IsActionWithin (length g.texts) (length g.sorts)) g.actions a stands.complete.within.actions before).named in
    let there : slice_get h.texts a.name.0 ≡ Some (text_under g a.name) = still_read g.texts h.texts grown.new_texts grown.texts a.name.0 (text_under g a.name) (slice_get-get_or g.texts a.name.0 [] inside) in
    let texts : Some (text_under g a.name) ≡ Some t = sym there ∙ ap (λ (m : NameId). slice_get h.texts m.0) one ∙ named in
    let text : text_under g a.name ≡ t = cc in
    let declared = declared_under ds g is a before in
    all_contained (IsOther t) (actions_in ds) (text_under g a.name, declared.0) (by_declarations t ds absent) declared.1 text
