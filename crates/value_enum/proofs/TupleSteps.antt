-- Lists of arguments of one weight, by the weight of the first.
use Rattle.std.proofs.Common.{◌≡◌, ◌+◌, ◌-◌, ◌++◌, ◌∙◌, ℕ, suc, List, [], ◌∷◌, take, sym, ap, arith}
use Rattle.data_theory.specs.declared.ids.TermId.{TermId}
use Rattle.value_enum.specs.declared.levels.Tuple.{Tuple}
use Rattle.value_enum.specs.Levels.{plain_tuples, weighing_up_to, in_front_of_all}
use Rattle.value_enum.proofs.Capped.{cut_left}
use Rattle.value_enum.proofs.RowLemmas.{nothing_taken}

abbrev put : TermId → List TermId → List TermId
put id ids = id ∷ ids

pub weighing_begins : (bound : ℕ) (now : List (List TermId)) → now ≡ [] → now ≡ take (bound + 1) []
weighing_begins bound now e = e ∙ sym (nothing_taken (bound + 1))

pub weighing_goes_on : (bound : ℕ) (firsts : ℕ → List TermId) (rests : ℕ → List (List TermId)) (total k : ℕ) (now new : List (List TermId)) (ids : List TermId) (tuples : List Tuple) → now ≡ take (bound + 1) (weighing_up_to put firsts rests total k)
    → ids ≡ firsts (k + 1) → plain_tuples tuples ≡ rests (total - (k + 1)) → new ≡ take (bound + 1) (now ++ in_front_of_all put ids (plain_tuples tuples)) → new ≡ take (bound + 1) (weighing_up_to put firsts rests total (k + 1))
weighing_goes_on bound firsts rests total k now new ids tuples e head tail is =
    let one : k + 1 ≡ suc k = omega arith in
    is
    ∙ ((λ i. take (bound + 1) (e i ++ in_front_of_all put (head i) (tail i)))
    ∙ (cut_left (bound + 1) (weighing_up_to put firsts rests total k) (in_front_of_all put (firsts (k + 1)) (rests (total - (k + 1))))
    ∙ (ap (λ n. take (bound + 1) (weighing_up_to put firsts rests total k ++ in_front_of_all put (firsts n) (rests (total - n)))) one ∙ ap (λ n. take (bound + 1) (weighing_up_to put firsts rests total n)) (sym one))))

pub weighing_ends : (bound : ℕ) (firsts : ℕ → List TermId) (rests : ℕ → List (List TermId)) (total k : ℕ) (now : List (List TermId)) → k ≡ total → now ≡ take (bound + 1) (weighing_up_to put firsts rests total k) → now ≡ take (bound + 1) (weighing_up_to put firsts rests total total)
weighing_ends bound firsts rests total k now e is = is ∙ ap (λ n. take (bound + 1) (weighing_up_to put firsts rests total n)) e
