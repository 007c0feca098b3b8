-- The listed values of sum variables, one variable after another.
use Rattle.std.proofs.Common.{◌≡◌, ◌<◌, ◌+◌, ℕ, Bool, true, false, not, List, [], ◌∷◌, ◌++◌, map, take, length, get_or, refl, sym, ap, ap₂, ◌∙◌, subst, arith, zero, suc, ◌≤◌, Some, ◌||◌}
use Rattle.std.specs.Prelude.{◌↔◌, IfSome, IsTrue, Option, slice_get, Contains, Vec}
use Rattle.std.specs.Global.{Global}
use Rattle.std.specs.List.{All, AllZip, list_any}
use Rattle.std.proofs.lemmas.List.{take_more, take_all, map-append}
use Rattle.std.proofs.lemmas.List.Elements.{All-nil, All-cons, All-head, All-tail}
use Rattle.std.proofs.lemmas.List.Folds.{list_any-append}
use Rattle.std.proofs.lemmas.Option.{get_or_from_slice_get}
use Rattle.std.proofs.lemmas.Slice.Zip.{all_zipped_more}
use Rattle.data_theory.specs.declared.ids.SortId.{SortId}
use Rattle.data_theory.specs.declared.ids.VarId.{VarId}
use Rattle.data_theory.specs.declared.ids.TermId.{TermId}
use Rattle.data_theory.specs.declared.signature.Variable.{Variable}
use Rattle.data_theory.specs.Terms.{Term}
use Rattle.data_theory.specs.Declarations.{HasSort}
use Rattle.data_theory.specs.Table.{bool_sort}
use Rattle.data_theory.specs.Signature.{Sig}
use Rattle.data_theory.specs.WholeSignatures.{IsSignature}
use Rattle.data_theory.specs.IdData.{data_meant}
use Rattle.data_theory.specs.IdTrees.{Tree}
use Rattle.data_theory.specs.IdTerms.{sort_under, term_under}
use Rattle.data_theory.specs.IdTreeSorts.{HasTreeSort}
use Rattle.term_pool.specs.HeadTrees.{tree_at, IsIn}
use Rattle.term_pool.specs.Pools.{Extends}
use Rattle.term_pool.specs.ConstructorValues.{ConstructorValue}
use Rattle.term_pool.proofs.NodeTrees.{tree_kept, stays_in}
use Rattle.value_enum.specs.declared.listed.Values.{Values}
use Rattle.value_enum.specs.Values.{IsPlainValueOf, AreFirst, AreTermsOf, no_terms, term_then, AreListed, AreWhole}
use Rattle.value_enum.proofs.ClosedValues.{values_are_closed}
use Rattle.data_rewriter.specs.Standing.{term_at}
use Rattle.bisim_laws.proofs.Firing.{contains_first, contains_later}
use Rattle.lps_core.specs.Fitting.{IsVariable, sort_of_variable}
use Rattle.lps_core.proofs.Staying.{sort_is_within}
use Rattle.lps_simulator.specs.Combinations.{rows}
use Rattle.lps_simulator.specs.SumValues.{value_term, Listed, AreListedFor, terms_of_each, is_cut, IsClosedTerm, AreListsFor, AreSumValues}

-- ---- the sort of a variable
pub sort_read : (g : Sig) (x : VarId) (s : SortId) → x.0 < length g.variables → IfSome (slice_get g.variables x.0) (λ (v : Variable). v.sort ≡ s) → s ≡ sort_of_variable g x
sort_read g x s l h = by_entry (slice_get g.variables x.0) (there g.variables x.0 l) h
  where
    there : (vs : List Variable) (i : ℕ) → i < length vs → slice_get vs i ≡ Some (get_or vs i (record { name = record { 0 = 0 }; sort = bool_sort }))
    there [] i k = absurd (omega (arith, k))
    there (v ∷ vs) zero k = refl
    there (v ∷ vs) (suc i) k = there vs i (omega (arith, k))

    by_entry : (o : Option Variable) → o ≡ Some (get_or g.variables x.0 (record { name = record { 0 = 0 }; sort = bool_sort })) → IfSome o (λ (v : Variable). v.sort ≡ s) → s ≡ sort_of_variable g x
    by_entry o e k = sym (subst (λ z. IfSome z (λ (v : Variable). v.sort ≡ s)) e k)

pub sort_inside : (g : Sig) → IsSignature g → (x : VarId) (s : SortId) → IsVariable g x → IfSome (slice_get g.variables x.0) (λ (v : Variable). v.sort ≡ s) → s.0 < length g.sorts
sort_inside g stands x s h k = subst (λ (z : SortId). z.0 < length g.sorts) (sym (sort_read g x s h k)) (sort_is_within g x stands.complete h)

-- ---- the terms of values
values_closed : (g : Sig) → IsSignature g → (us : List Tree) (s : SortId) (ids : List TermId) (vs : List ConstructorValue) → AreTermsOf us ids vs → ((v : ConstructorValue) → Contains vs v → IsPlainValueOf g s v) → All (IsClosedTerm g us s) ids
values_closed g stands us s [] [] no_terms h = All-nil (IsClosedTerm g us s)
values_closed g stands us s [] (v ∷ vs) p h = elim p [ ]
values_closed g stands us s (id ∷ ids) [] p h = elim p [ ]
values_closed g stands us s (id ∷ ids) (v ∷ vs) (term_then is rest) h =
    let k = values_are_closed g stands s v (h v (contains_first v vs)) in
    All-cons (IsClosedTerm g us s) id ids
    (record {
      term = record { within = is.within; sorted = subst (λ (t : Tree). HasTreeSort g t s) (sym is.tree) k.sorted };
      closed = subst (λ (t : Tree). HasSort (data_meant g) [] (term_under g t) (sort_under g s)) (sym is.tree) k.closed;
    })
    (values_closed g stands us s ids vs rest (λ w i. h w (contains_later v w vs i)))

values_mean : (g : Sig) (us : List Tree) (ids : List TermId) (vs : List ConstructorValue) → AreTermsOf us ids vs → map (term_at g us) ids ≡ map (value_term g) vs
values_mean g us [] [] no_terms = refl
values_mean g us [] (v ∷ vs) p = elim p [ ]
values_mean g us (id ∷ ids) [] p = elim p [ ]
values_mean g us (id ∷ ids) (v ∷ vs) (term_then is rest) = ap₂ (λ (t : Term) ts. t ∷ ts) (ap (term_under g) is.tree) (values_mean g us ids vs rest)

-- ---- pools that grow
module _ (g : Sig) (ts us : List Tree) (e : Extends ts us) where
  pub closed_kept : (s : SortId) (id : TermId) → IsClosedTerm g ts s id → IsClosedTerm g us s id
  closed_kept s id h = record {
    term = record { within = stays_in ts us id e h.term.within; sorted = subst (λ (t : Tree). HasTreeSort g t s) (sym (tree_kept ts us id e h.term.within)) h.term.sorted };
    closed = subst (λ (t : Tree). HasSort (data_meant g) [] (term_under g t) (sort_under g s)) (sym (tree_kept ts us id e h.term.within)) h.closed;
  }

  all_closed_kept : (s : SortId) (ids : List TermId) → All (IsClosedTerm g ts s) ids → All (IsClosedTerm g us s) ids
  all_closed_kept s [] h = All-nil (IsClosedTerm g us s)
  all_closed_kept s (id ∷ ids) h = All-cons (IsClosedTerm g us s) id ids (closed_kept s id (All-head (IsClosedTerm g ts s) id ids h)) (all_closed_kept s ids (All-tail (IsClosedTerm g ts s) id ids h))

  pub lists_kept : (xs : List VarId) (lists : List (List TermId)) → AreListsFor g ts xs lists → AreListsFor g us xs lists
  lists_kept [] [] h = tt
  lists_kept [] (ids ∷ lists) h = absurd h
  lists_kept (x ∷ xs) [] h = absurd h
  lists_kept (x ∷ xs) (ids ∷ lists) h = (all_closed_kept (sort_of_variable g x) ids h.0, lists_kept xs lists h.1)

  ids_mean : (s : SortId) (ids : List TermId) → All (IsClosedTerm g ts s) ids → map (term_at g us) ids ≡ map (term_at g ts) ids
  ids_mean s [] h = refl
  ids_mean s (id ∷ ids) h = ap₂ (λ (t : Term) ts. t ∷ ts) (ap (term_under g) (tree_kept ts us id e (All-head (IsClosedTerm g ts s) id ids h).term.within)) (ids_mean s ids (All-tail (IsClosedTerm g ts s) id ids h))

  pub lists_mean : (xs : List VarId) (lists : List (List TermId)) → AreListsFor g ts xs lists → map (map (term_at g us)) lists ≡ map (map (term_at g ts)) lists
  lists_mean [] [] h = refl
  lists_mean [] (ids ∷ lists) h = absurd h
  lists_mean (x ∷ xs) [] h = absurd h
  lists_mean (x ∷ xs) (ids ∷ lists) h = ap₂ (λ (t : List Term) ts. t ∷ ts) (ids_mean (sort_of_variable g x) ids h.0) (lists_mean xs lists h.1)

-- ---- one variable more
pub sums_none : (g : Sig) (bound : ℕ) (ts : List Tree) (xs : List VarId) → AreSumValues g bound ts (take 0 xs) [] false
sums_none g bound ts xs = record { listed = []; each = tt; closed = tt; terms = refl; cut_is = refl }

or_false : (b : Bool) → (b || false) ≡ b
or_false true = refl
or_false false = refl

pub sums_more : (g : Sig) → IsSignature g → (bound : ℕ) (ts us : List Tree) → Extends ts us → (xs : List VarId) (i : ℕ) (d : VarId) (s : SortId) (lists new : List (Vec TermId Global)) (cut now : Bool) (found : Values) → i < length xs → s ≡ sort_of_variable g (get_or xs i d)
    → AreSumValues g bound ts (take i xs) (rows lists) cut → AreListed g s bound us found → new ≡ lists ++ found.list ∷ [] → now ≡ (cut || not found.whole) → AreSumValues g bound us (take (i + 1) xs) (rows new) now
sums_more g stands bound ts us e xs i d s lists new cut now found l is before k q told =
    let x = get_or xs i d in
    let found_is : Listed = record { terms = map (value_term g) k.values; whole = found.whole } in
    let first : AreFirst g (sort_of_variable g x) bound k.values = subst (λ z. AreFirst g z bound k.values) is k.first in
    let split : rows new ≡ rows lists ++ found.list.items ∷ [] = ap rows q ∙ map-append (λ (v : Vec TermId Global). v.items) lists (found.list ∷ []) in
    let more : take (i + 1) xs ≡ take i xs ++ x ∷ [] = take_more xs i d l in
    let ids_closed : All (IsClosedTerm g us (sort_of_variable g x)) found.list.items = values_closed g stands us (sort_of_variable g x) found.list.items k.values k.terms first.values in
    record {
      listed = before.listed ++ found_is ∷ [];
      each = subst (λ z. AllZip (AreListedFor g bound) z (before.listed ++ found_is ∷ [])) (sym more)
          (all_zipped_more (AreListedFor g bound) (take i xs) before.listed x found_is before.each (record { values = k.values; first = first; terms = refl; whole = subst (λ z. IsTrue found.whole ↔ AreWhole g z k.values) is k.whole }));
      closed = subst (λ z. AreListsFor g us z (rows new)) (sym more) (subst (λ z. AreListsFor g us (take i xs ++ x ∷ []) z) (sym split)
          (all_zipped_more (λ (y : VarId) (ids : List TermId). All (IsClosedTerm g us (sort_of_variable g y)) ids) (take i xs) (rows lists) x found.list.items (lists_kept g ts us e (take i xs) (rows lists) before.closed) ids_closed));
      terms =
          ap (map (map (term_at g us))) split
          ∙ map-append (map (term_at g us)) (rows lists) (found.list.items ∷ [])
          ∙ ap₂ (λ (olds bs : List (List Term)). olds ++ bs) (lists_mean g ts us e (take i xs) (rows lists) before.closed ∙ before.terms) (ap (λ (z : List Term). z ∷ []) (values_mean g us found.list.items k.values k.terms))
          ∙ sym (map-append (λ (z : Listed). z.terms) before.listed (found_is ∷ []));
      cut_is = told ∙ ap₂ (λ a b. a || b) before.cut_is (sym (or_false (not found.whole))) ∙ sym (list_any-append (λ (z : Listed). not z.whole) before.listed (found_is ∷ []));
    }

pub sums_all : (g : Sig) (bound : ℕ) (ts : List Tree) (xs : List VarId) (i : ℕ) (lists : List (List TermId)) (cut : Bool) → length xs ≤ i → AreSumValues g bound ts (take i xs) lists cut → AreSumValues g bound ts xs lists cut
sums_all g bound ts xs i lists cut l h = subst (λ z. AreSumValues g bound ts z lists cut) (take_all i xs l) h
