-- What the loop over the sorts of a signature keeps.
use Rattle.std.proofs.Common.{◌≡◌, ◌<◌, ◌+◌, ℕ, List, [], ◌∷◌, ◌++◌, length, map, drop, get_or, refl, sym, subst, ap, ◌∙◌}
use Rattle.std.specs.Prelude.{None, IfSome, slice_get}
use Rattle.std.proofs.lemmas.List.{drop_more}
use Rattle.std.proofs.lemmas.Option.{slice_get-get_or}
use Rattle.data_typing.specs.declared.flat_sorts.FlatSort.{FlatSort}
use Rattle.data_theory.specs.Terms.{Sort}
use Rattle.data_theory.specs.Sorts.{Kind, SortInfo, booleans}
use Rattle.data_theory.specs.IdSorts.{construction_of, meant_by, meaning_of, meanings_behind}
use Rattle.data_typing.specs.FlatSorts.{flat_sort}

meant_behind : (flats : List FlatSort) (f : FlatSort) → map flat_sort (flats ++ f ∷ []) ≡ map flat_sort flats ++ flat_sort f ∷ []
meant_behind [] f = refl
meant_behind (x ∷ flats) f = ap (λ ss. flat_sort x ∷ ss) (meant_behind flats f)

pub flats_pushed : (ss : List SortInfo) (flats new : List FlatSort) (d i n : ℕ) (k : Kind) (f : FlatSort) → i < length ss → IfSome (slice_get ss i) (λ s. s.kind ≡ k)
    → flat_sort f ≡ meaning_of (meant_by (map flat_sort flats)) d k → n ≡ length (construction_of k) → new ≡ flats ++ f ∷ []
    → meanings_behind [] 0 ss ≡ meanings_behind (map flat_sort flats) d (drop i ss)
    → meanings_behind [] 0 ss ≡ meanings_behind (map flat_sort new) (d + n) (drop (i + 1) ss)
flats_pushed ss flats new d i n k f h is meant count pushed e =
    let none : SortInfo = record { kind = booleans; name = None } in
    let s : SortInfo = get_or ss i none in
    let kind : s.kind ≡ k = subst (λ o. IfSome o (λ (x : SortInfo). x.kind ≡ k)) (slice_get-get_or ss i none h) is in
    let ms : List Sort = map flat_sort flats in
    let rest : List SortInfo = drop (i + 1) ss in
    e ∙ ap (meanings_behind ms d) (drop_more ss i none h)
    ∙ ap (λ x. meanings_behind (ms ++ meaning_of (meant_by ms) d x ∷ []) (d + length (construction_of x)) rest) kind
    ∙ ap (λ x. meanings_behind (ms ++ x ∷ []) (d + length (construction_of k)) rest) (sym meant)
    ∙ ap (λ m. meanings_behind (ms ++ flat_sort f ∷ []) (d + m) rest) (sym count)
    ∙ ap (λ xs. meanings_behind xs (d + n) rest) (sym (ap (map flat_sort) pushed ∙ meant_behind flats f))
