-- No sort is empty where the sort of the stack, its parameter and closed terms have come.
use Rattle.std.proofs.Common.{◌≡◌, ◌<◌, ◌+◌, List, [], ◌∷◌, ◌++◌, length, refl, sym, ap, ◌∙◌, subst, arith, ⊎_elim}
use Rattle.std.proofs.lemmas.Bool.Decides.{eqb_tells}
use Rattle.std.proofs.lemmas.List.{length-append}
use Rattle.data_theory.specs.declared.ids.NameId.{NameId}
use Rattle.data_theory.specs.declared.ids.SortId.{SortId}
use Rattle.data_theory.specs.declared.ids.TermId.{TermId}
use Rattle.data_theory.specs.declared.ids.VarId.{VarId}
use Rattle.data_theory.specs.Declarations.{NoSortIsEmpty}
use Rattle.data_theory.specs.Functions.{arguments_of}
use Rattle.data_theory.specs.IdData.{data_meant}
use Rattle.data_theory.specs.IdTerms.{IsGrown}
use Rattle.data_theory.specs.IdTreeSorts.{HaveTreeSorts}
use Rattle.data_theory.specs.IdTrees.{none}
use Rattle.data_theory.specs.Signature.{Sig, with_sort}
use Rattle.data_theory.specs.Sorts.{abstract_sort, structured}
use Rattle.data_theory.specs.Structs.{numbers_from}
use Rattle.data_theory.specs.WholeSignatures.{IsSignature}
use Rattle.data_theory.proofs.IdTableLemmas.{as_many_after}
use Rattle.term_pool.specs.ConstructorValues.{IsConstructorOf, HasValue, AreValuesOf, built, no_value}
use Rattle.term_pool.specs.Pools.{PoolContents}
use Rattle.term_pool.proofs.GrownSignatures.{inhabited_sorts_stay_inhabited}
use Rattle.term_pool.proofs.InhabitedSorts.{sorts_have_values_where_none_is_empty}
use Rattle.regular_encoder.proofs.InhabitedColumns.{constants_sorts}
use Rattle.stack_encoder.specs.AddedSort.{StackWords, DeclaresStack, constructors_declared, with_stack_sort}
use Rattle.stack_encoder.specs.StackColumns.{AreClosedTerms, no_closed_term, one_more_closed_term}
use Rattle.stack_encoder.specs.StackEntries.{StackIds, StackStands}
use Rattle.stack_encoder.proofs.FreshWords.{words_stand}
use Rattle.stack_encoder.proofs.SortedStacks.{empty_sorted}

pub closed_sorts : (g : Sig) (p : PoolContents) (ss : List SortId) (h : Sig) (q : PoolContents) (ts : List TermId) → AreClosedTerms g p ss h q ts → h.sorts ≡ g.sorts
closed_sorts g p _ _ _ _ no_closed_term = refl
closed_sorts g p _ i r _ (one_more_closed_term {ss = ss} {ts = ts} {h = h} {q = q} a n) = constants_sorts _ h q.constants i r.constants n.declared ∙ closed_sorts g p ss h q ts a

-- the empty stack
no_arguments : (h : Sig) (ss : List SortId) → HaveTreeSorts h none ss → AreValuesOf h no_value ss
no_arguments h [] k = tt
no_arguments h (s ∷ ss) k = absurd k

stack_has_value : (h : Sig) → IsSignature h → (y : StackIds) (columns : List SortId) → StackStands h y columns → HasValue h y.sort
stack_has_value h stands y columns st =
    let e = empty_sorted h stands y columns st in
    (built y.empty no_value, (1, (st.info, st.sort_at, subst (λ z. IsConstructorOf h y.sort z 1 y.empty) (sym st.kind) refl), (e.0, e.1, no_arguments h (arguments_of e.0) e.3)))

-- one sort is added
sorts_after : (g : Sig) (w : StackWords) → length (with_stack_sort g w).sorts ≡ length g.sorts + 1
sorts_after g w =
    as_many_after (g.sorts ++ abstract_sort w.sort ∷ []) (length g.sorts) (structured (numbers_from (length (with_sort g w.sort).functions) (length (constructors_declared w (record { 0 = length g.sorts })))))
    ∙ length-append g.sorts (abstract_sort w.sort ∷ [])

one_more_sort : (g : Sig) (kinds : List (NameId × SortId)) (d : Sig) (y : StackIds) (v : VarId) → IsSignature g → DeclaresStack g kinds d y v → (length d.sorts ≡ length g.sorts + 1) × (y.sort.0 ≡ length g.sorts)
one_more_sort g kinds d y v s x =
    let named = x.sort.named in
    let on = (words_stand g s _ named _ x.sort.are_words.fresh).on in
    let old = ap length on.sorts in
    let parameter = ap (λ (z : Sig). length z.sorts) x.parameter.is in
    let before = ap (λ (z : Sig). length z.sorts) x.parameter.fresh.taken in
    let sort = ap (λ (z : Sig). length z.sorts) x.sort.is in
    let kind = sorts_after named x.sort.words in
    let n = x.sort.number in
    (omega (arith, old, parameter, before, sort, kind), omega (arith, n, old))

pub stack_inhabited : (g d h : Sig) (kinds : List (NameId × SortId)) (y : StackIds) (v : VarId) (columns : List SortId) → IsSignature g → IsSignature h → IsGrown g h → DeclaresStack g kinds d y v → StackStands h y columns → h.sorts ≡ d.sorts → NoSortIsEmpty (data_meant g) → NoSortIsEmpty (data_meant h)
stack_inhabited g d h kinds y v columns s r w x st same n =
    let values = (sorts_have_values_where_none_is_empty g s).0 n in
    let one = one_more_sort g kinds d y v s x in
    let long = one.0 in
    let number = one.1 in
    let all = ap length same in
    (sorts_have_values_where_none_is_empty h r).1
    (λ a l. ⊎_elim
    (λ q. let e = q.1 in subst (HasValue h) (let i : y.sort ≡ a = ap (λ m. record { 0 = m }) (let j : y.sort.0 ≡ a.0 = omega (arith, e, number) in j) in i) (stack_has_value h r y columns st))
    (λ q. let e = q.1 in let b : a.0 < length g.sorts = omega (arith, l, long, all, e) in inhabited_sorts_stay_inhabited g h w a (values a b))
    (eqb_tells a.0 (length g.sorts)))
