-- The sorts and functions of steps in a signature.
use Rattle.std.proofs.Common.{◌≡◌, ◌<◌, ◌+◌, ℕ, zero, suc, List, [], ◌∷◌, ◌++◌, length, map, take, get_or, refl, sym, subst, ap, ◌∙◌, arith, length-append}
use Rattle.std.specs.List.{All}
use Rattle.std.proofs.lemmas.List.{take_more, length-map, map-append}
use Rattle.std.proofs.lemmas.List.Elements.{All-nil, All-cons, All-head, All-tail}
use Rattle.data_theory.specs.declared.ids.SortId.{SortId}
use Rattle.data_theory.specs.declared.ids.FunId.{FunId}
use Rattle.data_theory.specs.declared.words.Word.{Word}
use Rattle.data_theory.specs.Terms.{Sort, boolean, named, Symbol}
use Rattle.data_theory.specs.Sorts.{SortInfo}
use Rattle.data_theory.specs.Signature.{Sig}
use Rattle.data_theory.specs.IdSorts.{construction_of, meaning_of, meant_by, meanings_behind}
use Rattle.data_theory.specs.IdSymbols.{word_symbol}
use Rattle.data_theory.specs.IdTerms.{sort_under, symbol_under, IsGrown}
use Rattle.data_theory.proofs.IdSortLemmas.{growth_keeps_meant_sorts}
use Rattle.data_typing.specs.declared.flat_sorts.FlatSort.{FlatSort}
use Rattle.data_typing.specs.declared.nodes.Callee.TheVariants as callees
use Rattle.data_typing.specs.declared.nodes.Overload as code
use Rattle.data_typing.specs.FlatSorts.{flat_sort}
use Rattle.data_typing.specs.NodeTypings.{callee_symbol, signature_of}
use Rattle.data_typing.specs.CodeWords.{AreFlat}
use Rattle.data_typing.specs.NamedSorts.{AreNamedFrom, AreNamedSorts}

-- ---- declared sorts
named_behind : (g : Sig) (d : ℕ) (ss : List SortId) → AreNamedFrom g d ss → (s : SortId) → s.0 < length g.sorts → (n : ℕ) → n ≡ d + length ss → sort_under g s ≡ named n → AreNamedFrom g d (ss ++ s ∷ [])
named_behind g d [] h s l n e is = ((l, is ∙ ap named (let same : n ≡ d = omega arith in same)), tt)
named_behind g d (x ∷ ss) h s l n e is = (h.0, named_behind g (d + 1) ss h.1 s l n (omega arith) is)

pub named_more : (g : Sig) (ss new : List SortId) (s : SortId) → new ≡ ss ++ s ∷ [] → AreNamedSorts g ss → s.0 < length g.sorts → sort_under g s ≡ named (length ss) → AreNamedSorts g new
unfolding AreNamedSorts
named_more g ss new s e h l is = subst (AreNamedFrom g 0) (sym e) (named_behind g 0 ss h s l (length ss) (omega arith) is)

pub none_named : (g : Sig) (ss : List SortId) → ss ≡ [] → AreNamedSorts g ss
unfolding AreNamedSorts
none_named g ss e = subst (AreNamedFrom g 0) (sym e) tt

named_from : (g : Sig) (d : ℕ) (ss : List SortId) → AreNamedFrom g d ss → (k : ℕ) (s : SortId) → k < length ss → s ≡ get_or ss k s → (s.0 < length g.sorts) × (sort_under g s ≡ named (d + k))
named_from g d [] h k s l e = let never : ⊥ = omega arith in absurd never
named_from g d (x ∷ ss) h zero s l e =
    let more : named d ≡ named (d + 0) = ap named (let n : d ≡ d + 0 = omega arith in n) in
    subst (λ (y : SortId). (y.0 < length g.sorts) × (sort_under g y ≡ named (d + 0))) (sym e) (h.0.0, h.0.1 ∙ more)
named_from g d (x ∷ ss) h (suc k) s l e =
    let (less, is) = named_from g (d + 1) ss h.1 k s (omega arith) e in (less, is ∙ ap named (let n : d + 1 + k ≡ d + suc k = omega arith in n))

pub named_at : (g : Sig) (ss : List SortId) → AreNamedSorts g ss → (k : ℕ) (s : SortId) → k < length ss → s ≡ get_or ss k s → (s.0 < length g.sorts) × (sort_under g s ≡ named k)
unfolding AreNamedSorts
named_at g ss h k s l e = let (less, is) = named_from g 0 ss h k s l e in (less, is ∙ ap named (let n : 0 + k ≡ k = omega arith in n))

pub sorts_more : (g h : Sig) → IsGrown g h → (s : SortId) → s.0 < length g.sorts → s.0 < length h.sorts
sorts_more g h grown s l = let long = length-append g.sorts grown.new_sorts in let same : length h.sorts ≡ length (g.sorts ++ grown.new_sorts) = ap length grown.sorts in omega (arith, l, long, same)

named_kept : (g h : Sig) → IsGrown g h → (d : ℕ) (ss : List SortId) → AreNamedFrom g d ss → AreNamedFrom h d ss
named_kept g h grown d [] all = tt
named_kept g h grown d (s ∷ ss) all = ((sorts_more g h grown s all.0.0, growth_keeps_meant_sorts g h grown s all.0.0 ∙ all.0.1), named_kept g h grown (d + 1) ss all.1)

pub named_on : (g h : Sig) → IsGrown g h → (ss : List SortId) → AreNamedSorts g ss → AreNamedSorts h ss
unfolding AreNamedSorts
named_on g h grown ss all = named_kept g h grown 0 ss all

-- ---- sorts of more than before
pub sorts_on : (g h : Sig) → IsGrown g h → (ss : List SortId) → All (λ (s : SortId). s.0 < length g.sorts) ss → map (sort_under h) ss ≡ map (sort_under g) ss
sorts_on g h grown [] all = refl
sorts_on g h grown (s ∷ ss) all = ap (λ x. x ∷ map (sort_under h) ss) (growth_keeps_meant_sorts g h grown s (All-head (λ (x : SortId). x.0 < length g.sorts) s ss all)) ∙ ap (λ l. sort_under g s ∷ l) (sorts_on g h grown ss (All-tail (λ (x : SortId). x.0 < length g.sorts) s ss all))

meanings_long : (ms : List Sort) (d : ℕ) (ss : List SortInfo) → length (meanings_behind ms d ss) ≡ length ms + length ss
meanings_long ms d [] = let same : length ms ≡ length ms + 0 = omega arith in same
meanings_long ms d (s ∷ ss) =
    let m : Sort = meaning_of (meant_by ms) d s.kind in
    let long = length-append ms (m ∷ []) in
    let rest : length (meanings_behind (ms ++ m ∷ []) (d + length (construction_of s.kind)) ss) ≡ length (ms ++ m ∷ []) + length ss = meanings_long (ms ++ m ∷ []) (d + length (construction_of s.kind)) ss in
    rest ∙ (let same : length (ms ++ m ∷ []) + length ss ≡ length ms + suc (length ss) = omega (arith, long) in same)

pub flats_long : (g : Sig) (flats : List FlatSort) → AreFlat g flats → length flats ≡ length g.sorts
flats_long g flats e = sym (length-map flats flat_sort) ∙ ap length e ∙ meanings_long [] 0 g.sorts ∙ (let same : 0 + length g.sorts ≡ length g.sorts = omega arith in same)

mapped_at : (fs : List FlatSort) (k : ℕ) (f : FlatSort) → k < length fs → f ≡ get_or fs k f → get_or (map flat_sort fs) k boolean ≡ flat_sort f
mapped_at [] k f h e = let never : ⊥ = omega arith in absurd never
mapped_at (x ∷ fs) zero f h e = ap flat_sort (sym e)
mapped_at (x ∷ fs) (suc k) f h e = mapped_at fs k f (omega arith) e

pub flat_there : (g : Sig) (flats : List FlatSort) → AreFlat g flats → (k : ℕ) → k < length flats → (f : FlatSort) → f ≡ get_or flats k f → sort_under g (record { 0 = k }) ≡ flat_sort f
flat_there g flats all k h f e = ap (λ ms. get_or ms k boolean) (sym all) ∙ mapped_at flats k f h e

pub numbers_more : (g h : Sig) → IsGrown g h → (ids new : List SortId) → All (λ (s : SortId). s.0 < length g.sorts) ids → (flats : List FlatSort) (i : ℕ) → map (sort_under g) ids ≡ map flat_sort (take i flats)
    → (f : FlatSort) → i < length flats → f ≡ get_or flats i f → (s : SortId) → sort_under h s ≡ flat_sort f → new ≡ ids ++ s ∷ [] → map (sort_under h) new ≡ map flat_sort (take (i + 1) flats)
numbers_more g h grown ids new within flats i so_far f l e s is q =
    ap (map (sort_under h)) q ∙ map-append (sort_under h) ids (s ∷ []) ∙ ap (λ ms. ms ++ sort_under h s ∷ []) (sorts_on g h grown ids within ∙ so_far) ∙ ap (λ m. map flat_sort (take i flats) ++ m ∷ []) (is ∙ ap flat_sort e)
    ∙ sym (ap (map flat_sort) (take_more flats i f l) ∙ map-append flat_sort (take i flats) (get_or flats i f ∷ []))

pub numbers_within : (g h : Sig) → IsGrown g h → (ids new : List SortId) → All (λ (s : SortId). s.0 < length g.sorts) ids → (s : SortId) → s.0 < length h.sorts → new ≡ ids ++ s ∷ [] → All (λ (x : SortId). x.0 < length h.sorts) new
numbers_within g h grown ids new within s l q = subst (All (λ (x : SortId). x.0 < length h.sorts)) (sym q) (all_last ids within)
  where
    all_last : (xs : List SortId) → All (λ (x : SortId). x.0 < length g.sorts) xs → All (λ (x : SortId). x.0 < length h.sorts) (xs ++ s ∷ [])
    all_last [] all = All-cons (λ (x : SortId). x.0 < length h.sorts) s [] l (All-nil (λ (x : SortId). x.0 < length h.sorts))
    all_last (y ∷ xs) all = All-cons (λ (x : SortId). x.0 < length h.sorts) y (xs ++ s ∷ []) (sorts_more g h grown y (All-head (λ (x : SortId). x.0 < length g.sorts) y xs all)) (all_last xs (All-tail (λ (x : SortId). x.0 < length g.sorts) y xs all))

pub overload_means : (g : Sig) (y : FunId → Symbol) (overload : code.Overload) (w : Word) → overload.callee ≡ callees.BuiltIn w → (sorts : List SortId) → map (sort_under g) sorts ≡ map flat_sort overload.arguments.items → (to : SortId) → sort_under g to ≡ flat_sort overload.result
    → (fun : FunId) → symbol_under g fun ≡ word_symbol w (map (sort_under g) sorts) (sort_under g to) → symbol_under g fun ≡ (signature_of y overload).symbol
overload_means g y overload w is sorts are to result fun means =
    means ∙ ap (λ ss. word_symbol w ss (sort_under g to)) are ∙ ap (word_symbol w (map flat_sort overload.arguments.items)) result
    ∙ ap (λ k. callee_symbol y k (map flat_sort overload.arguments.items) (flat_sort overload.result)) (sym is)
