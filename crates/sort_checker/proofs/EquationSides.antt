-- The sort of an equation's sides, by what they infer.
use Rattle.std.proofs.Common.{◌≡◌, ◌<◌, ℕ, List, length, get_or, refl, sym, ap, ap₂, ◌∙◌, subst}
use Rattle.std.specs.Prelude.{Option, Some, None, option_map, option_and_then}
use Rattle.std.specs.Option.{option_or}
use Rattle.std.proofs.lemmas.Option.{none-some, same_Some}
use Rattle.data_theory.specs.Signature.{Sig}
use Rattle.data_theory.specs.Terms.{Sort, Term}
use Rattle.data_theory.specs.IdTerms.{symbol_under}
use Rattle.sort_table.specs.NamedSorts.{sort_count}
use Rattle.data_typing.specs.declared.flat_sorts.FlatSort.{FlatSort}
use Rattle.data_typing.specs.declared.nodes.Reading.{Reading}
use Rattle.data_typing.specs.Contexts.{IsReadingOf, IsFlatOver}
use Rattle.data_typing.specs.FlatSorts.{flat_sort}
use Rattle.data_typing.specs.Typings.{Inferred, Typing}
use Rattle.data_typing.proofs.NodeTells.{node_tells}
use Rattle.data_typing.proofs.WithinLemmas.{IsSortWithin, flat_there, flat_back, known_within}
use Rattle.data_typing.specs.declared.scope.Bound.{Bound}
use Rattle.data_typing.specs.CodeWords.{scope_of}
use Rattle.data_typing.specs.Meanings.{Scope, typing_in}
use Rattle.sort_table.specs.Expressions.{Expression}
use Rattle.sort_table.specs.SignatureVocabularies.{vocabulary_of}
use Rattle.sort_table.specs.Vocabularies.{Vocabulary}
use Rattle.sort_checker.specs.PartTypings.{left_side}
use Rattle.sort_checker.specs.CodeContexts.{SeesData}
use Rattle.sort_checker.proofs.SoundElaborations.{no_name}

abbrev pub sort_of : Inferred → Sort
sort_of i = i.sort

abbrev pub term_of : Inferred → Term
term_of i = i.term

abbrev checked_at : Typing → Inferred → Option Inferred
checked_at l j = option_map (λ t. record { term = t; sort = j.sort }) (l.checks j.sort)

-- the left side infers its sort
pub side_inferred : (l r : Typing) (s : Sort) (i : Inferred) → Some s ≡ option_map sort_of l.infers → left_side l r ≡ Some i → (option_map term_of l.infers ≡ Some i.term) × (s ≡ i.sort)
side_inferred l r s i e h = by_option l.infers (option_and_then (checked_at l) r.infers) e h
  where
    by_option : (o rest : Option Inferred) → Some s ≡ option_map sort_of o → option_or o rest ≡ Some i → (option_map term_of o ≡ Some i.term) × (s ≡ i.sort)
    by_option None rest f k = absurd (none-some s (sym f))
    by_option (Some j) rest f k = let same : j ≡ i = same_Some j i k in (ap (λ (x : Inferred). Some x.term) same, same_Some s j.sort f ∙ ap sort_of same)

-- or else the right side does
pub side_checked : (l r : Typing) (s : Sort) (i : Inferred) → l.infers ≡ None → Some s ≡ option_map sort_of r.infers → left_side l r ≡ Some i → (l.checks s ≡ Some i.term) × (s ≡ i.sort)
side_checked l r s i none e h = by_option r.infers e (sym (ap (λ (o : Option Inferred). option_or o (option_and_then (checked_at l) r.infers)) none) ∙ h)
  where
    of_check : (j : Inferred) (c : Option Term) → option_map (λ t. record { term = t; sort = j.sort }) c ≡ Some i → (c ≡ Some i.term) × (j.sort ≡ i.sort)
    of_check j None k = absurd (none-some i k)
    of_check j (Some t) k = let same = same_Some (record { term = t; sort = j.sort }) i k in (ap (λ (x : Inferred). Some x.term) same, ap sort_of same)

    by_option : (o : Option Inferred) → Some s ≡ option_map sort_of o → option_and_then (checked_at l) o ≡ Some i → (l.checks s ≡ Some i.term) × (s ≡ i.sort)
    by_option None f k = absurd (none-some s (sym f))
    by_option (Some j) f k =
        let at : s ≡ j.sort = same_Some s j.sort f in
        let found = of_check j (l.checks j.sort) k in
        (ap l.checks at ∙ found.0, at ∙ found.1)

-- one of them does
pub some_side : (l r : Typing) (i : Inferred) → l.infers ≡ None → r.infers ≡ None → left_side l r ≡ Some i → ⊥
some_side l r i none other h = none-some i (sym (ap₂ (λ (o p : Option Inferred). option_or o (option_and_then (checked_at l) p)) none other) ∙ h)

-- the sort that is inferred is one of the signature's
pub reading_sort_within : (g : Sig) (r : Reading) (t : Typing) → IsReadingOf g r t → (f : FlatSort) → Some (flat_sort f) ≡ option_map sort_of t.infers → IsFlatOver g f
reading_sort_within g r t is f e =
    let within : r.at < length r.known.items = subst (λ n. r.at < n) (sym is.over.read.all) is.over.read.there in
    let told = is.over.read.known_sorts.told r.at within ∙ (node_tells (symbol_under g) r.nodes.items r.at).infers ∙ ap (λ (x : Typing). option_map sort_of x.infers) is.typing in
    by_option (get_or r.known.items r.at None) refl (told ∙ sym e) within
  where
    by_option : (o : Option FlatSort) → get_or r.known.items r.at None ≡ o → option_map flat_sort (get_or r.known.items r.at None) ≡ Some (flat_sort f) → r.at < length r.known.items → IsFlatOver g f
    by_option None at same l = absurd (none-some (flat_sort f) (sym (ap (option_map flat_sort) at) ∙ same))
    by_option (Some x) at same l =
        let its : flat_sort x ≡ flat_sort f = same_Some (flat_sort x) (flat_sort f) (sym (ap (option_map flat_sort) at) ∙ same) in
        let there = known_within (sort_count g) (length g.functions) r.nodes.items is.over.within r.known.items is.over.read.known_sorts r.at l x at in
        flat_back (sort_count g) f (subst (IsSortWithin (sort_count g)) its (flat_there (sort_count g) x there))

-- ---- with what the code has
pub reading_here : (g : Sig) (bs : List Bound) (v : Vocabulary) (scope : Scope) → SeesData g bs v scope → (r : Reading) (e : Expression) → IsReadingOf g r (typing_in (vocabulary_of g) (scope_of g.texts bs) e) → IsReadingOf g r (typing_in v scope e)
reading_here g bs v scope sees r e is =
    subst (λ (w : Vocabulary). IsReadingOf g r (typing_in w scope e)) (sym sees.vocabulary) (subst (λ (s : Scope). IsReadingOf g r (typing_in (vocabulary_of g) s e)) (sym sees.variables) is)

pub some_sort : (o : Option FlatSort) (t : Typing) (f : FlatSort) → o ≡ Some f → option_map flat_sort o ≡ option_map sort_of t.infers → Some (flat_sort f) ≡ option_map sort_of t.infers
some_sort o t f is told = sym (ap (option_map flat_sort) is) ∙ told

pub no_sort : (o : Option FlatSort) (t : Typing) → o ≡ None → option_map flat_sort o ≡ option_map sort_of t.infers → t.infers ≡ None
no_sort o t is told = no_name sort_of t.infers (sym told ∙ ap (option_map flat_sort) is)
