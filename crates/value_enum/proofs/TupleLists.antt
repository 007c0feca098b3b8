-- Lists of arguments as lists of terms.
use Rattle.std.proofs.Common.{◌≡◌, ◌<◌, ◌++◌, ◌∙◌, ℕ, zero, suc, List, [], ◌∷◌, length, get_or, sym, ap, arith}
use Rattle.std.proofs.lemmas.List.{length-map, map-append}
use Rattle.data_theory.specs.declared.ids.TermId.{TermId}
use Rattle.value_enum.specs.declared.levels.Tuple.{Tuple}
use Rattle.value_enum.specs.Levels.{plain_tuples}

pub plain_length : (ts : List Tuple) → length (plain_tuples ts) ≡ length ts
plain_length ts = length-map ts (λ (t : Tuple). t.terms.items)

pub plain_pushed : (ts new : List Tuple) (t : Tuple) → new ≡ ts ++ t ∷ [] → plain_tuples new ≡ plain_tuples ts ++ t.terms.items ∷ []
plain_pushed ts new t e = ap plain_tuples e ∙ map-append (λ (t : Tuple). t.terms.items) ts (t ∷ [])

pub plain_read : (ts : List Tuple) (i : ℕ) (d : List TermId) (t : Tuple) → i < length ts → t ≡ get_or ts i t → get_or (plain_tuples ts) i d ≡ t.terms.items
plain_read [] i d t l e = absurd (omega (arith, l))
plain_read (u ∷ ts) zero d t l e = ap (λ (x : Tuple). x.terms.items) (sym e)
plain_read (u ∷ ts) (suc i) d t l e = plain_read ts i d t (omega (arith, l)) e
