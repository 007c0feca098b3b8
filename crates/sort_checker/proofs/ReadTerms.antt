-- The terms of arguments that were read, one after the other.
use Rattle.std.proofs.Common.{◌≡◌, ◌<◌, ◌+◌, ℕ, zero, suc, List, [], ◌∷◌, ◌++◌, length, map, take, get_or, refl, sym, subst, ap, ap₂, ◌∙◌, arith}
use Rattle.std.specs.Prelude.{Option, Some, None, option_map}
use Rattle.std.proofs.lemmas.Option.{none-some, same_Some}
use Rattle.std.proofs.lemmas.List.{take_more}
use Rattle.data_theory.specs.Environments.{list_of}
use Rattle.data_theory.specs.Signature.{Sig}
use Rattle.data_theory.specs.Terms.{Sort, Term}
use Rattle.data_typing.specs.declared.flat_sorts.FlatSort.{FlatSort}
use Rattle.data_typing.specs.declared.nodes.Reading.{Reading}
use Rattle.data_typing.specs.Contexts.{IsReadingOf}
use Rattle.data_typing.specs.FlatSorts.{flat_sort}
use Rattle.data_typing.specs.Typings.{Typing, all_at}
use Rattle.sort_checker.specs.ReadArguments.{HaveTermsAt}
use Rattle.sort_checker.specs.TypedTrees.{AreReadings}
use Rattle.sort_checker.proofs.CallArguments.{parts}

module _ (how : Sort → Typing → Option Term) (g : Sig) where
  pub as_many : (rs : List Reading) (ts : List Typing) (fs : List FlatSort) (us : List Term) → AreReadings g rs ts → HaveTermsAt how (map flat_sort fs) ts us → length rs ≡ length fs
  as_many [] [] [] us read have = refl
  as_many [] [] (f ∷ fs) us read have = absurd (none-some us have)
  as_many [] (t ∷ ts) fs us read have = absurd read
  as_many (r ∷ rs) [] fs us read have = absurd read
  as_many (r ∷ rs) (t ∷ ts) [] us read have = absurd (none-some us have)
  as_many (r ∷ rs) (t ∷ ts) (f ∷ fs) us read have = let p = parts how (how (flat_sort f) t) (all_at how (map flat_sort fs) ts) us have in ap suc (as_many rs ts fs p.rest read.1 p.behind)

  pub none_more : (rs : List Reading) (ts : List Typing) (fs : List FlatSort) (us : List Term) → AreReadings g rs ts → HaveTermsAt how (map flat_sort fs) ts us → length us ≡ length rs
  none_more [] [] [] us read have = ap length (sym (same_Some [] us have))
  none_more [] [] (f ∷ fs) us read have = absurd (none-some us have)
  none_more [] (t ∷ ts) fs us read have = absurd read
  none_more (r ∷ rs) [] fs us read have = absurd read
  none_more (r ∷ rs) (t ∷ ts) [] us read have = absurd (none-some us have)
  none_more (r ∷ rs) (t ∷ ts) (f ∷ fs) us read have = let p = parts how (how (flat_sort f) t) (all_at how (map flat_sort fs) ts) us have in ap length p.are ∙ ap suc (none_more rs ts fs p.rest read.1 p.behind)

  -- the typing of the one that is read, and its term
  pub record TermHere (r : Reading) (f : FlatSort) (us : List Term) (i : ℕ) : Type 0 where
    pub typing : Typing
    pub read : IsReadingOf g r typing
    pub term : Term
    pub has : how (flat_sort f) typing ≡ Some term
    pub inside : i < length us
    pub at : term ≡ get_or us i term

  pub term_here : (rs : List Reading) (ts : List Typing) (fs : List FlatSort) (us : List Term) → AreReadings g rs ts → HaveTermsAt how (map flat_sort fs) ts us
      → (i : ℕ) (r : Reading) (f : FlatSort) → i < length rs → r ≡ get_or rs i r → f ≡ get_or fs i f → TermHere r f us i
  term_here [] ts fs us read have i r f l a b = let never : ⊥ = omega (arith, l) in absurd never
  term_here (x ∷ rs) [] fs us read have i r f l a b = absurd read
  term_here (x ∷ rs) (t ∷ ts) [] us read have i r f l a b = absurd (none-some us have)
  term_here (x ∷ rs) (t ∷ ts) (h ∷ fs) us read have zero r f l a b =
      let p = parts how (how (flat_sort h) t) (all_at how (map flat_sort fs) ts) us have in
      let long : length us ≡ suc (length p.rest) = ap length p.are in
      record {
        typing = t;
        read = subst (λ y. IsReadingOf g y t) (sym a) read.0;
        term = p.first;
        has = ap (λ y. how (flat_sort y) t) b ∙ p.here;
        inside = omega (arith, long);
        at = ap (λ vs. get_or vs 0 p.first) (sym p.are);
      }
  term_here (x ∷ rs) (t ∷ ts) (h ∷ fs) us read have (suc i) r f l a b =
      let p = parts how (how (flat_sort h) t) (all_at how (map flat_sort fs) ts) us have in
      let later = term_here rs ts fs p.rest read.1 p.behind i r f (omega (arith, l)) a b in
      let long : length us ≡ suc (length p.rest) = ap length p.are in
      let less = later.inside in
      record {
        typing = later.typing;
        read = later.read;
        term = later.term;
        has = later.has;
        inside = omega (arith, long, less);
        at = later.at ∙ ap (λ vs. get_or vs (suc i) later.term) (sym p.are);
      }

pub one_term_more : (us : List Term) (i : ℕ) (u : Term) → i < length us → u ≡ get_or us i u → take i us ++ u ∷ [] ≡ take (i + 1) us
one_term_more us i u l at = sym (take_more us i u l ∙ ap (λ (x : Term). take i us ++ x ∷ []) (sym at))
