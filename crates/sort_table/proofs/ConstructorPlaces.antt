-- The places of the functions of `cons`, by the sorts that they give.
use Rattle.std.proofs.Common.{◌≡◌, ◌<◌, ◌+◌, ◌⊎◌, inl, inr, ℕ, zero, suc, Bool, true, false, List, [], ◌∷◌, ◌++◌, length, take, get_or, ap, sym, ◌∙◌, subst, arith}
use Rattle.std.proofs.Common.{Result, Ok, Err}
use Rattle.std.specs.Result.{OnOk}
use Rattle.std.specs.Prelude.{Some, IfSome, slice_get}
use Rattle.std.proofs.lemmas.List.{take_more}
use Rattle.std.proofs.lemmas.List.Elements.{All-contains}
use Rattle.std.specs.List.{Contains}
use Rattle.std.specs.Global.{Vec}
use Rattle.std.proofs.lemmas.Bool.{cases_eq}
use Rattle.std.proofs.lemmas.Option.{same_Some, slice_get-get_or}
use Rattle.graphs.specs.Graphs.{successors, HasEdge}
use Rattle.data_theory.specs.declared.ids.SortId.{SortId}
use Rattle.data_theory.specs.declared.ids.FunId.{FunId}
use Rattle.data_theory.specs.Functions.{Function}
use Rattle.data_theory.specs.Places.{HaveOnePlace}
use Rattle.data_theory.specs.Signature.{Sig}
use Rattle.data_theory.specs.IdTables.{HasSortsIn}
use Rattle.data_theory.specs.WholeSignatures.{IsSignature}
use Rattle.data_theory.proofs.IdSortLemmas.{read_within}
use Rattle.data_theory.proofs.PlaceLemmas.{contains_read, one_place_pushed}
use Rattle.sort_table.specs.ConstructorMarks.{IsConsAt, ArePlaces}
use Rattle.sort_table.specs.Vocabularies.{EachPair}
use Rattle.sort_table.proofs.KeptFunctions.{pairs_pushed}
use Rattle.sort_table.proofs.Growing.{contains_behind, contains_after, in_either}
use Rattle.sort_table.proofs.AliasCycles.{less_or_same}

pub none_placed : (g : Sig) (marks : List Bool) (table : List (Vec ℕ)) → length table ≡ length g.sorts → ((a b : ℕ) → ¬ (HasEdge table a b)) → ArePlaces g marks 0 table
none_placed g marks table size none = record {
  size = size;
  all = λ s p i l is. absurd (omega (arith, l));
  only = λ s p c. absurd (none s.0 p c);
  once = λ r i j x a b. absurd (none r x (contains_read (successors table r) i x a));
}

module _ (g : Sig) (marks : List Bool) (n : ℕ) (table : List (Vec ℕ)) (are : ArePlaces g marks n table) where
  -- a function that no `cons` declares
  pub unmarked_place : slice_get marks n ≡ Some false → ArePlaces g marks (n + 1) table
  unmarked_place mark = record {
    size = are.size;
    all = λ s p i l is. elim (less_or_same p n (omega (arith, l))) [
      | inl less ↦ are.all s p i less is
      | inr same ↦ (let both : true ≡ false = same_Some true false (sym is.marked ∙ (ap (slice_get marks) same ∙ mark)) in cc)
    ];
    only = λ s p c. (let r = are.only s p c in let low = r.0 in (omega (arith, low), r.1));
    once = are.once;
  }

  -- a function of a `cons` comes behind the others of its sort
  module _ (next : List (Vec ℕ)) (i : FunId) (f : Function) (mark : slice_get marks n ≡ Some true) (there : slice_get g.declared n ≡ Some i) (at : slice_get g.functions i.0 ≡ Some f) (size : length next ≡ length table)
      (here : successors next f.result.0 ≡ successors table f.result.0 ++ n ∷ []) (others : (r : ℕ) → ¬ (r ≡ f.result.0) → successors next r ≡ successors table r) where
    last : (p : ℕ) → Contains (n ∷ []) p → n ≡ p
    last p (zero, l, e) = e
    last p (suc k, l, e) = absurd (omega (arith, l))

    this : (s : SortId) → s.0 ≡ f.result.0 → IsConsAt g marks s n i
    this s same = record { marked = mark; there = there; entry = f; at = at; result = ap (λ (k : ℕ). record { 0 = k }) (sym same) }

    stays : (r p : ℕ) → Contains (successors table r) p → Contains (successors next r) p
    stays r p c = elim (cases_eq r f.result.0) [
      | inl same ↦
          subst (λ k. Contains (successors next k) p) (sym same) (subst (λ l. Contains l p) (sym here) (contains_behind (successors table f.result.0) (n ∷ []) p (subst (λ k. Contains (successors table k) p) same c)))
      | inr other ↦ subst (λ l. Contains l p) (sym (others r other)) c
    ]

    before_or_this : (s : SortId) (p : ℕ) → Contains (successors next s.0) p → Contains (successors table s.0) p ⊎ ((s.0 ≡ f.result.0) × (n ≡ p))
    before_or_this s p c = elim (cases_eq s.0 f.result.0) [
      | inl same ↦ elim (in_either (successors table f.result.0) (n ∷ []) p (subst (λ l. Contains l p) here (subst (λ k. Contains (successors next k) p) same c))) [
        | inl old ↦ inl (subst (λ k. Contains (successors table k) p) (sym same) old)
        | inr new ↦ inr (same, last p new)
      ]
      | inr other ↦ inl (subst (λ l. Contains l p) (others s.0 other) c)
    ]

    never_there : Contains (successors table f.result.0) n → ⊥
    never_there c = (let low = (are.only f.result n c).0 in omega (arith, low))

    pub marked_place : ArePlaces g marks (n + 1) next
    marked_place = record {
      size = size ∙ are.size;
      all = λ s p j l is. elim (less_or_same p n (omega (arith, l))) [
        | inl less ↦ stays s.0 p (are.all s p j less is)
        | inr same ↦
            let function : i ≡ j = same_Some i j (sym there ∙ (ap (slice_get g.declared) (sym same) ∙ is.there)) in
            let entry : f ≡ is.entry = same_Some f is.entry (sym at ∙ (ap (λ (k : FunId). slice_get g.functions k.0) function ∙ is.at)) in
            let sort : f.result ≡ s = ap (λ (x : Function). x.result) entry ∙ is.result in
            subst (λ (r : SortId). Contains (successors next r.0) p) sort (subst (λ l. Contains l p) (sym here) (contains_after (successors table f.result.0) (n ∷ []) p (zero, omega arith, sym same)))
      ];
      only = λ s p c. elim (before_or_this s p c) [
        | inl old ↦ (let r = are.only s p old in let low = r.0 in (omega (arith, low), r.1))
        | inr (sort, same) ↦ (omega (arith, same), (i, subst (λ q. IsConsAt g marks s q i) same (this s sort)))
      ];
      once = λ r. elim (cases_eq r f.result.0) [
        | inl same ↦ subst (λ k. HaveOnePlace (successors next k)) (sym same) (subst HaveOnePlace (sym here) (one_place_pushed (successors table f.result.0) n (are.once f.result.0) never_there))
        | inr other ↦ subst HaveOnePlace (sym (others r other)) (are.once r)
      ];
    }

-- ---- the function at a place
pub record IsMarkedAt (g : Sig) (n : ℕ) (i : FunId) (s : SortId) : Type 0 where
  pub there : slice_get g.declared n ≡ Some i
  pub entry : Function
  pub at : slice_get g.functions i.0 ≡ Some entry
  pub result : entry.result ≡ s
  pub within : s.0 < length g.sorts

pub marked_function : (g : Sig) (marks : List Bool) (n : ℕ) (i : FunId) (s : SortId) → IsSignature g → length marks ≡ length g.declared → n < length marks → i ≡ get_or g.declared n i → IfSome (slice_get g.functions i.0) (λ (f : Function). f.result ≡ s) → IsMarkedAt g n i s
marked_function g marks n i s stands long low is told =
    let there : slice_get g.declared n ≡ Some i = slice_get-get_or g.declared n i (omega (arith, low, long)) ∙ ap Some (sym is) in
    let within = All-contains (λ (j : FunId). j.0 < length g.functions) g.declared i stands.complete.within.declared (contains_read g.declared n i there) in
    let f = read_within g.functions i.0 within in
    let result : f.0.result ≡ s = subst (λ o. IfSome o (λ (x : Function). x.result ≡ s)) f.1 told in
    let sorts = All-contains (HasSortsIn g.sorts) g.functions f.0 stands.table.within (contains_read g.functions i.0 f.0 f.1) in
    record { there = there; entry = f.0; at = f.1; result = result; within = subst (λ (r : SortId). r.0 < length g.sorts) result sorts.1 }

pub function_placed : {T E : Type 0} (g : Sig) (marks : List Bool) (n : ℕ) (table next : List (Vec ℕ)) (i : FunId) (s : SortId) (r : Result T E) → ArePlaces g marks n table → IsMarkedAt g n i s → slice_get marks n ≡ Some true
    → OnOk r (length next ≡ length table) → OnOk r (successors next s.0 ≡ successors table s.0 ++ n ∷ []) → OnOk r ((q : ℕ) → ¬ (q ≡ s.0) → successors next q ≡ successors table q) → OnOk r (ArePlaces g marks (n + 1) next)
function_placed g marks n table next i s (Err e) are is mark size here others = tt
function_placed g marks n table next i s (Ok u) are is mark size here others =
    marked_place g marks n table are next i is.entry mark is.there is.at size (subst (λ (t : SortId). successors next t.0 ≡ successors table t.0 ++ n ∷ []) (sym is.result) here)
    (subst (λ (t : SortId). (q : ℕ) → ¬ (q ≡ t.0) → successors next q ≡ successors table q) (sym is.result) others)

-- ---- the functions at places
pub one_more_function : (funs : List FunId) (ps : List ℕ) (i p : ℕ) (found more : List FunId) (f : FunId) → i < length ps → p ≡ get_or ps i p → p < length funs → f ≡ get_or funs p f → more ≡ found ++ f ∷ []
    → EachPair (λ q x. slice_get funs q ≡ Some x) (take i ps) found → EachPair (λ q x. slice_get funs q ≡ Some x) (take (i + 1) ps) more
one_more_function funs ps i p found more f l is low there pushed all =
    let at : slice_get funs p ≡ Some f = slice_get-get_or funs p f low ∙ ap Some (sym there) in
    let front : take (i + 1) ps ≡ take i ps ++ p ∷ [] = take_more ps i p l ∙ ap (λ q. take i ps ++ q ∷ []) (sym is) in
    subst (λ xs. EachPair (λ q x. slice_get funs q ≡ Some x) xs more) (sym front)
    (subst (EachPair (λ q x. slice_get funs q ≡ Some x) (take i ps ++ p ∷ [])) (sym pushed) (pairs_pushed (λ q x. slice_get funs q ≡ Some x) (take i ps) found p f all at))
