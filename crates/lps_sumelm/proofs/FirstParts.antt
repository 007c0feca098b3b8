-- The first solvable part, as a loop finds it.
use Rattle.std.proofs.Common.{◌≡◌, ◌<◌, ◌≤◌, ◌+◌, ℕ, zero, suc, List, [], ◌∷◌, ◌++◌, map, take, drop, length, get_or, sym, subst, arith, Some, None}
use Rattle.std.proofs.lemmas.List.{take_more, take_all}
use Rattle.data_theory.specs.declared.ids.TermId.{TermId}
use Rattle.data_theory.specs.Terms.{Term}
use Rattle.data_theory.specs.Environments.{Binding}
use Rattle.data_theory.specs.Signature.{Sig}
use Rattle.data_theory.specs.IdTrees.{Tree}
use Rattle.data_rewriter.specs.Standing.{IsTerm, term_at, listed_at}
use Rattle.lps_sumelm.specs.declared.solutions.Solution.{Solution}
use Rattle.lps_sumelm.specs.Solutions.{solution, IsFirst, it_is_first, it_is_later, NoneGives}
use Rattle.lps_sumelm.specs.SummandsInCode.{meant_solution, IsFirstAt}

module _ {A : Type 0} (f : A → Term) (xs : List ℕ) where
  none_append : (ids : List A) (id : A) → NoneGives xs (map f ids) → solution xs (f id) ≡ None → NoneGives xs (map f (ids ++ id ∷ []))
  none_append [] id h e = (e, tt)
  none_append (x ∷ ids) id h e = (h.0, none_append ids id h.1 e)

  pub none_more : (ids : List A) (i : ℕ) (d : A) → i < length ids → NoneGives xs (map f (take i ids)) → solution xs (f (get_or ids i d)) ≡ None → NoneGives xs (map f (take (i + 1) ids))
  none_more ids i d l h e = subst (λ z. NoneGives xs (map f z)) (sym (take_more ids i d l)) (none_append (take i ids) (get_or ids i d) h e)

  pub none_of_all : (ids : List A) (i : ℕ) → length ids ≤ i → NoneGives xs (map f (take i ids)) → NoneGives xs (map f ids)
  none_of_all ids i l h = subst (λ z. NoneGives xs (map f z)) (take_all i ids l) h

  pub first_at : (ids : List A) (i : ℕ) (d : A) (b : Binding) → i < length ids → NoneGives xs (map f (take i ids)) → solution xs (f (get_or ids i d)) ≡ Some b → IsFirst xs (map f ids) b (map f (take i ids ++ drop (suc i) ids))
  first_at [] i d b l h e = absurd (omega (arith, l))
  first_at (x ∷ ids) zero d b l h e = it_is_first e
  first_at (x ∷ ids) (suc i) d b l h e = it_is_later h.0 (first_at ids i d b (omega (arith, l)) h.1 e)

pub found_first : (g : Sig) (ts : List Tree) (xs : List ℕ) (parts : List TermId) (i : ℕ) (d : TermId) (f : Solution) → i < length parts → NoneGives xs (listed_at g ts (take i parts)) → solution xs (term_at g ts (get_or parts i d)) ≡ Some (meant_solution g ts f) → IsTerm g ts f.term
    → IsFirstAt g ts xs parts i f
found_first g ts xs parts i d f l h e term = record { within = l; first = first_at (term_at g ts) xs parts i d (meant_solution g ts f) l h e; term = term }
