-- The actions of a text, as a vocabulary has them.
use Rattle.std.proofs.Common.{◌≡◌, ◌+◌, append_assoc, ℕ, List, [], ◌∷◌, ◌++◌, length, map, refl, ap, sym, ◌∙◌, subst, arith}
use Rattle.std.specs.Prelude.{Some, slice_get}
use Rattle.std.proofs.lemmas.Option.{same_Some, slice_get_within}
use Rattle.data_theory.specs.Keys.{Key}
use Rattle.data_theory.specs.Signature.{Sig}
use Rattle.data_theory.specs.IdTerms.{sort_under}
use Rattle.data_theory.proofs.PlaceLemmas.{read_contained, read_front, read_behind}
use Rattle.sort_table.specs.Expressions.{Name}
use Rattle.sort_table.specs.NamedLists.{all_named}
use Rattle.sort_table.specs.BareSorts.{SortExpression}
use Rattle.sort_table.specs.BareDeclarations.{Section, declarations_in}
use Rattle.sort_table.specs.SortMeanings.{under_names, actions_in}
use Rattle.sort_table.specs.Duplicates.{SameSorts, NothingAgain}
use Rattle.sort_table.specs.Vocabularies.{EachPair, AreSortsOf}
use Rattle.sort_table.specs.SignatureVocabularies.{action_under, vocabulary_of}
use Rattle.sort_table.specs.NamedSorts.{HaveSortNames, sort_names_of, sort_count}
use Rattle.sort_table.specs.EnteredActions.{IsActionAs, ComeNext, no_actions_left, one_there, one_next}
use Rattle.sort_table.proofs.ListForms.{SameNames, each_named}
use Rattle.sort_table.proofs.NamedSignatures.{text_of_id}
use Rattle.sort_table.proofs.NewFunctions.{pair_at, sorts_meant}
use Rattle.sort_table.proofs.NothingTwice.{actions_differ}
use Rattle.sort_table.proofs.KeptFunctions.{pairs_pushed}
use Rattle.sort_table.proofs.KeptMeanings.{KeepsMeanings, sorts_stay}
use Rattle.sort_table.proofs.SortTablesOfNames.{have_same_sorts}

abbrev Act : Type 0
Act = Name × List SortExpression

abbrev IsAs : Sig → Act → Key → Type 0
IsAs g a k = IsActionAs g a.0 a.1 k

module _ (ss : List Section) (none : NothingAgain ss) (g : Sig) (have : HaveSortNames (under_names (declarations_in ss)) (sort_names_of g) (sort_count g)) where
  abbrev all : List Act
  all = actions_in (declarations_in ss)

  -- an action isn't one of those in front
  never_there : (done new : List Act) (front : List Key) (a : Act) (k : Key) → all ≡ done ++ a ∷ new → EachPair (IsAs g) done front → (i : ℕ) → slice_get front i ≡ Some k → IsAs g a k → ⊥
  never_there done new front a k split are i at is =
      let x = pair_at (IsAs g) done front i k are at in
      let named : x.0.0 ≡ a.0 = same_Some x.0.0 a.0 (sym x.2.name ∙ is.name) in
      let sorts : SameSorts (under_names (declarations_in ss)) x.0.1 a.1 =
      have_same_sorts (under_names (declarations_in ss)) (sort_names_of g) (sort_count g) have x.0.1 a.1 (map (sort_under g) k.sorts) (sorts_meant g x.0.1 k.sorts x.2.sorts) (sorts_meant g a.1 k.sorts is.sorts) in
      let first : slice_get all i ≡ Some x.0 = ap (λ as_. slice_get as_ i) split ∙ read_front done (a ∷ new) i x.0 x.1 in
      let second : slice_get all (length done + 0) ≡ Some a = ap (λ as_. slice_get as_ (length done + 0)) split ∙ read_behind done (a ∷ new) 0 a refl in
      let one = actions_differ ss none i (length done + 0) x.0 a first second named sorts in
      let low = slice_get_within done i x.0 x.1 in
      omega (arith, one, low)

  -- so each comes next
  all_next : (done new : List Act) (front ks : List Key) → all ≡ done ++ new → EachPair (IsAs g) done front → ComeNext g front new ks → EachPair (IsAs g) new ks
  all_next done _ _ _ split are (no_actions_left front) = tt
  all_next done _ _ _ split are (one_there front a es k new ks c is rest) = (let at = read_contained front k c in absurd (never_there done new front (a, es) k split are at.0 at.1 is))
  all_next done _ _ _ split are (one_next front a es k new ks is rest) =
      (is, all_next (done ++ (a, es) ∷ []) new (front ++ k ∷ []) ks (split ∙ sym (append_assoc done ((a, es) ∷ []) new)) (pairs_pushed (IsAs g) done front (a, es) k are is) rest)

  module _ (h : Sig) (keeps : KeepsMeanings g h) (texts : h.texts ≡ g.texts) where
    same_acts : (as_ : List Act) (ks : List Key) → EachPair (IsAs g) as_ ks → SameNames (AreSortsOf (vocabulary_of h)) as_ (map (action_under h) ks)
    same_acts [] [] are = tt
    same_acts [] (k ∷ ks) are = absurd are
    same_acts (a ∷ as_) [] are = absurd are
    same_acts (a ∷ as_) (k ∷ ks) are = (
      sym (text_of_id h k.name a.0 (ap (λ ts. slice_get ts k.name.0) texts ∙ are.0.name)),
      sorts_meant h a.1 k.sorts (sorts_stay g h keeps a.1 k.sorts are.0.sorts),
      same_acts as_ ks are.1,
    )

    pub actions_have : (ks : List Key) → h.actions ≡ ks → ComeNext g [] all ks → (a : Name) → EachPair (AreSortsOf (vocabulary_of h)) ((under_names (declarations_in ss)).actions a) (all_named a (vocabulary_of h).actions)
    actions_have ks is next a =
        each_named (AreSortsOf (vocabulary_of h)) all (vocabulary_of h).actions
        (subst (λ xs. SameNames (AreSortsOf (vocabulary_of h)) all (map (action_under h) xs)) (sym is) (same_acts all ks (all_next [] all [] ks refl tt next))) a
