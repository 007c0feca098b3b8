-- Counting down, in code.
use Rattle.std.proofs.Common.{◌≡◌, ℕ, ◌<◌, ◌⊎◌, inl, inr, ⊎_elim, List, [], ◌∷◌, length, take, Bool, true, false, refl, sym, ap, ◌∙◌, subst}
use Rattle.std.specs.Prelude.{◌↔◌, Option, None, Some, IfSome, slice_get, ℤ, pos, not}
use Rattle.std.specs.List.{Contains}
use Rattle.data_theory.specs.declared.ids.TermId.{TermId}
use Rattle.data_theory.specs.declared.ids.VarId.{VarId}
use Rattle.data_theory.specs.declared.ids.FunId.{FunId}
use Rattle.data_theory.specs.declared.ids.SortId.{SortId}
use Rattle.data_theory.specs.declared.sort_table.SortKind.{SortKind}
use Rattle.data_theory.specs.declared.sort_table.SortKind.TheVariants.{Bool as BoolKind, Pos as PosKind, Nat as NatKind, Int as IntKind, List as ListKind, Abstract as AbstractKind, Cons as ConsKind, Struct as StructKind}
use Rattle.data_theory.specs.Arithmetic.{equal_numbers}
use Rattle.data_theory.specs.Terms as terms
use Rattle.data_theory.specs.Terms.{Sort, positive, natural, Symbol, Term, Terms}
use Rattle.data_theory.specs.Signature.{Sig}
use Rattle.data_theory.specs.Sorts.{SortInfo, kind_of}
use Rattle.data_theory.specs.IdSorts.{constructions, meaning_of}
use Rattle.data_theory.specs.IdTables.{IsTable}
use Rattle.data_theory.specs.IdTerms.{sort_under, term_under}
use Rattle.data_theory.specs.IdTrees.{Tree, variable, numeral, function, none, more}
use Rattle.data_theory.proofs.IdSymbolLemmas.{read_sort}
use Rattle.term_pool.specs.declared.terms.Head.TheVariants.{Fun}
use Rattle.term_pool.specs.HeadTrees.{tree_at, trees_at, written_tree}
use Rattle.eqn_check.specs.Conditions.{parts}
use Rattle.eqn_check.specs.Comparisons.{IsNotBinary}
use Rattle.eqn_check.specs.Counting.{least, is_least, kept_above, counted_down, lessened, IsKeptAbove}
use Rattle.eqn_check.specs.Counted.{numbered, AddsKept, AreKeptAbove, IsCounted, WalksKept}
use Rattle.eqn_check.specs.ExcludedPairs.{AreConjuncts}
use Rattle.eqn_check.specs.Judged.{term_at, IsTerm}
use Rattle.eqn_check.proofs.Elements.{contains_front, contains_behind, front_or_behind, contains_nothing_of}
use Rattle.eqn_check.proofs.JudgedLemmas.{element_at_place}

-- ---- sorts by their kinds
sort_by_kind : (sig : Sig) → IsTable sig → (i : SortId) → i.0 < length sig.sorts → (k : SortKind) → IfSome (slice_get sig.sorts i.0) (λ (s : SortInfo). s.kind ≡ kind_of k)
    → (d : ℕ) × (sort_under sig i ≡ meaning_of (sort_under sig) d (kind_of k))
sort_by_kind sig table i l k is =
    let e = element_at_place sig.sorts i.0 l in
    let d = length (constructions (take i.0 sig.sorts)) in
    let same : e.0.kind ≡ kind_of k = subst (λ (o : Option SortInfo). IfSome o (λ (s : SortInfo). s.kind ≡ kind_of k)) e.1 is in
    (d, read_sort sig table i e.0 e.1 ∙ ap (meaning_of (sort_under sig) d) same)

least_of_kind : (m : SortId → Sort) (d : ℕ) (k : SortKind) → (k ≡ PosKind → ⊥) → pos 0 ≡ least (meaning_of m d (kind_of k))
least_of_kind m d PosKind n = absurd (n refl)
least_of_kind m d BoolKind n = refl
least_of_kind m d NatKind n = refl
least_of_kind m d IntKind n = refl
least_of_kind m d (ListKind e) n = refl
least_of_kind m d AbstractKind n = refl
least_of_kind m d (ConsKind fs) n = refl
least_of_kind m d (StructKind fs) n = refl

none_least : (m : SortId → Sort) (d : ℕ) (k : SortKind) (z : ℤ) → (k ≡ PosKind → ⊥) → (k ≡ NatKind → ⊥) → false ≡ is_least (terms.numeral (meaning_of m d (kind_of k)) z)
none_least m d PosKind z n o = absurd (n refl)
none_least m d NatKind z n o = absurd (o refl)
none_least m d BoolKind z n o = refl
none_least m d IntKind z n o = refl
none_least m d (ListKind e) z n o = refl
none_least m d AbstractKind z n o = refl
none_least m d (ConsKind fs) z n o = refl
none_least m d (StructKind fs) z n o = refl

not_not : (b : Bool) → not (not b) ≡ b
not_not true = refl
not_not false = refl

module _ (sig : Sig) (table : IsTable sig) (i : SortId) (within : i.0 < length sig.sorts) (k : SortKind) (is : IfSome (slice_get sig.sorts i.0) (λ (s : SortInfo). s.kind ≡ kind_of k)) where
  sort : (d : ℕ) × (sort_under sig i ≡ meaning_of (sort_under sig) d (kind_of k))
  sort = sort_by_kind sig table i within k is

  is_positive : k ≡ PosKind → sort_under sig i ≡ positive
  is_positive e = sort.1 ∙ ap (λ (z : SortKind). meaning_of (sort_under sig) sort.0 (kind_of z)) e

  is_natural : k ≡ NatKind → sort_under sig i ≡ natural
  is_natural e = sort.1 ∙ ap (λ (z : SortKind). meaning_of (sort_under sig) sort.0 (kind_of z)) e

  pub least_at_positive : k ≡ PosKind → (z : ℤ) → z ≡ pos 1 → z ≡ least (sort_under sig i)
  least_at_positive e z n = n ∙ ap least (sym (is_positive e))

  pub least_elsewhere : (k ≡ PosKind → ⊥) → (z : ℤ) → z ≡ pos 0 → z ≡ least (sort_under sig i)
  least_elsewhere n z e = e ∙ (least_of_kind (sort_under sig) sort.0 k n ∙ ap least (sym sort.1))

  by_difference : (s : Sort) (x y : ℤ) (b : Bool) → b ≡ not (equal_numbers x y) → y ≡ least s → equal_numbers x (least s) ≡ is_least (terms.numeral s x) → not b ≡ is_least (terms.numeral s x)
  by_difference s x y b e n t = ap not e ∙ (not_not (equal_numbers x y) ∙ (ap (equal_numbers x) n ∙ t))

  pub least_positive : k ≡ PosKind → (x y : ℤ) (b : Bool) → b ≡ not (equal_numbers x y) → y ≡ least (sort_under sig i) → not b ≡ is_least (terms.numeral (sort_under sig i) x)
  least_positive e x y b d n = by_difference (sort_under sig i) x y b d n (subst (λ s. equal_numbers x (least s) ≡ is_least (terms.numeral s x)) (sym (is_positive e)) refl)

  pub least_natural : k ≡ NatKind → (x y : ℤ) (b : Bool) → b ≡ not (equal_numbers x y) → y ≡ least (sort_under sig i) → not b ≡ is_least (terms.numeral (sort_under sig i) x)
  least_natural e x y b d n = by_difference (sort_under sig i) x y b d n (subst (λ s. equal_numbers x (least s) ≡ is_least (terms.numeral s x)) (sym (is_natural e)) refl)

  pub least_nowhere : (k ≡ PosKind → ⊥) → (k ≡ NatKind → ⊥) → (x : ℤ) → false ≡ is_least (terms.numeral (sort_under sig i) x)
  least_nowhere n o x = none_least (sort_under sig) sort.0 k x n o ∙ ap (λ s. is_least (terms.numeral s x)) (sym sort.1)

-- ---- terms without two arguments
module _ (sig : Sig) where
  pub nothing_counted : (t : Tree) → IsNotBinary t → None ≡ counted_down (term_under sig t)
  nothing_counted (variable v) n = refl
  nothing_counted (numeral a z) n = refl
  nothing_counted (function f none) n = refl
  nothing_counted (function f (more t none)) n = refl
  nothing_counted (function f (more t (more u none))) n = absurd (n f t u refl)
  nothing_counted (function f (more t (more u (more v vs)))) n = refl

  pub nothing_kept : (t : Tree) → IsNotBinary t → None ≡ kept_above (term_under sig t)
  nothing_kept (variable v) n = refl
  nothing_kept (numeral a z) n = refl
  nothing_kept (function f none) n = refl
  nothing_kept (function f (more t none)) n = refl
  nothing_kept (function f (more t (more u none))) n = absurd (n f t u refl)
  nothing_kept (function f (more t (more u (more v vs)))) n = refl

  pub not_one : (ts : List Tree) (t : Tree) (f : FunId) (args : List TermId) → t ≡ written_tree (Fun f) (trees_at ts args) → (length args ≡ 1 → ⊥) → counted_down (term_under sig t) ≡ lessened (term_under sig t)
  not_one ts t f args e n = subst (λ z. counted_down (term_under sig z) ≡ lessened (term_under sig z)) (sym e) (by_count args n)
    where
      by_count : (args : List TermId) → (length args ≡ 1 → ⊥) → counted_down (term_under sig (written_tree (Fun f) (trees_at ts args))) ≡ lessened (term_under sig (written_tree (Fun f) (trees_at ts args)))
      by_count [] n = refl
      by_count (x ∷ []) n = absurd (n refl)
      by_count (x ∷ y ∷ args) n = refl

-- ---- variables that are added
pub some_added : (sig : Sig) (ts : List Tree) (part : TermId) (o : Option VarId) (old new : List VarId) → numbered o ≡ kept_above (term_at sig ts part) → (w : VarId) → o ≡ Some w → ((v : VarId) → Contains new v ↔ (Contains old v ⊎ (w ≡ v))) → AddsKept sig ts part old new
some_added sig ts part o old new is w e h v = (
  (λ c. ⊎_elim (λ d. inl d) (λ d. inr (sym is ∙ (ap numbered e ∙ ap (λ (z : VarId). Some z.0) d))) ((h v).0 c)),
  (λ c. (h v).1 (⊎_elim (λ d. inl d) (λ d. inr (same w v (sym (ap numbered e) ∙ (is ∙ d)))) c)),
)
  where
    same : (x y : VarId) → Some x.0 ≡ Some y.0 → x ≡ y
    same x y q = let n : x.0 ≡ y.0 = cc in (λ j. record { 0 = n j })

-- ---- parts one after another
module _ (c : Term) (x : ℕ) where
  kept_in_front : (p rest : Term) → parts c ≡ p ∷ parts rest → IsKeptAbove c x ↔ ((kept_above p ≡ Some x) ⊎ IsKeptAbove rest x)
  kept_in_front p rest e = (
    (λ k. ⊎_elim (λ f. inl (ap kept_above f ∙ k.2)) (λ i. inr (k.0, i, k.2)) (front_or_behind k.0 p (parts rest) (subst (λ ps. Contains ps k.0) e k.1))),
    (λ s. ⊎_elim (λ f. (p, subst (λ ps. Contains ps p) (sym e) (contains_front p (parts rest)), f)) (λ k. (k.0, subst (λ ps. Contains ps k.0) (sym e) (contains_behind k.0 p (parts rest) k.1), k.2)) s),
  )

  kept_alone : parts c ≡ c ∷ [] → IsKeptAbove c x ↔ (kept_above c ≡ Some x)
  kept_alone e = (
    (λ k. ⊎_elim (λ f. ap kept_above f ∙ k.2) (λ i. absurd (contains_nothing_of k.0 i)) (front_or_behind k.0 c [] (subst (λ ps. Contains ps k.0) e k.1))),
    (λ f. (c, subst (λ ps. Contains ps c) (sym e) (contains_front c []), f)),
  )

module _ (sig : Sig) (ts : List Tree) (c rest : TermId) (found new : List VarId) (walk : WalksKept sig ts c rest found) where
  pub kept_step : (one other : TermId) → AreConjuncts sig ts rest one other → AddsKept sig ts one found new → WalksKept sig ts c other new
  kept_step one other sides adds = record {
    rest_in = sides.other_in;
    exact = λ v.
        let front = kept_in_front (term_at sig ts rest) v.0 (term_at sig ts one) (term_at sig ts other) sides.parts in (
          (λ k. ⊎_elim (λ i. inl ((adds v).1 (inl i))) (λ r. ⊎_elim (λ e. inl ((adds v).1 (inr e))) (λ s. inr s) (front.0 r)) ((walk.exact v).0 k)),
          (λ s. (walk.exact v).1 (⊎_elim (λ i. ⊎_elim (λ j. inl j) (λ e. inr (front.1 (inl e))) ((adds v).0 i)) (λ r. inr (front.1 (inr r))) s)),
        );
  }

  pub kept_end : parts (term_at sig ts rest) ≡ term_at sig ts rest ∷ [] → AddsKept sig ts rest found new → AreKeptAbove sig ts c new
  kept_end e adds v =
      let last = kept_alone (term_at sig ts rest) v.0 e in (
        (λ i. (walk.exact v).1 (⊎_elim (λ j. inl j) (λ k. inr (last.1 k)) ((adds v).0 i))),
        (λ k. (adds v).1 (⊎_elim (λ i. inl i) (λ r. inr (last.0 r)) ((walk.exact v).0 k))),
      )

pub kept_begin : (sig : Sig) (ts : List Tree) (c : TermId) → IsTerm sig ts c → WalksKept sig ts c c []
kept_begin sig ts c i = record { rest_in = i; exact = λ v. ((λ k. inr k), (λ s. ⊎_elim (λ j. absurd (contains_nothing_of v j)) (λ k. k) s)) }

-- what is a variable that is kept above
pub counted_if_kept : (sig : Sig) (ts : List Tree) (c a : TermId) (above : List VarId) (o : Option VarId) → AreKeptAbove sig ts c above
    → ((v : VarId) → (o ≡ Some v) ↔ ((tree_at ts a ≡ variable v) × Contains above v)) → IsCounted sig ts c a o
counted_if_kept sig ts c a above o kept is v = (
  (λ e. let h = (is v).0 e in (h.0, (kept v).0 h.1)),
  (λ h. (is v).1 (h.0, (kept v).1 h.1)),
)
