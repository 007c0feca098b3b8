-- The closed terms of columns, as they are found.
use Rattle.std.proofs.Common.{◌≡◌, ◌<◌, ◌≤◌, ◌+◌, ℕ, List, [], ◌∷◌, ◌++◌, map, take, length, get_or, refl, sym, ap, ◌∙◌, subst, arith, Some}
use Rattle.std.specs.Prelude.{slice_get}
use Rattle.std.proofs.lemmas.List.{map-append, length-append, take_more, take_all}
use Rattle.std.proofs.lemmas.Option.{get_or_from_slice_get}
use Rattle.data_theory.specs.IdTreeSorts.{HasTreeSort}
use Rattle.term_pool.specs.ConstructorValues.{ConstructorValue, IsFirstValue}
use Rattle.term_pool.specs.HeadTrees.{tree_at, IsIn}
use Rattle.data_theory.specs.declared.ids.NameId.{NameId}
use Rattle.data_theory.specs.declared.ids.SortId.{SortId}
use Rattle.data_theory.specs.declared.ids.TermId.{TermId}
use Rattle.data_theory.specs.Signature.{Sig}
use Rattle.data_theory.specs.IdTerms.{IsGrown}
use Rattle.data_theory.proofs.IdGrowthLemmas.{growth_after_growth_is_growth}
use Rattle.term_pool.specs.Constants.{tree_with, constant_of, sorts_in_need, AreConstants, KeepsConstants, DeclaresConstants}
use Rattle.term_pool.specs.Pools.{PoolContents, Extends}
use Rattle.term_pool.proofs.DeclaredConstants.{grown_itself, constants_kept}
use Rattle.lps_core.specs.MadeTerms.{IsClosedTerm}
use Rattle.lps_core.proofs.PoolTrees.{extends_itself, extends_on}
use Rattle.regular_encoder.proofs.FirstTerms.{keeps_then}
use Rattle.stack_encoder.specs.StackColumns.{sort_of_column, AreClosedTerms, no_closed_term, one_more_closed_term}

pub record IsClosing (kinds : List (NameId × SortId)) (needed : List ℕ) (g : Sig) (p : PoolContents) (i : ℕ) (h : Sig) (q : PoolContents) (terms : List TermId) : Type 0 where
  pub terms_so_far : AreClosedTerms g p (map (sort_of_column kinds) (take i needed)) h q terms
  pub grown : IsGrown g h
  pub kept : Extends p.trees q.trees
  pub constants : AreConstants h q.constants
  pub constants_kept : KeepsConstants p.constants q.constants

pub closing_none : (kinds : List (NameId × SortId)) (needed : List ℕ) (g : Sig) (p : PoolContents) → AreConstants g p.constants → IsClosing kinds needed g p 0 g p []
closing_none kinds needed g p k = record { terms_so_far = no_closed_term; grown = grown_itself g; kept = extends_itself p.trees; constants = k; constants_kept = constants_kept p.constants }

pub closing_more : (kinds : List (NameId × SortId)) (needed : List ℕ) (g : Sig) (p : PoolContents) (i : ℕ) (h : Sig) (q : PoolContents) (terms : List TermId) (x : ℕ) → IsClosing kinds needed g p i h q terms → i < length needed
    → (k : Sig) (r : PoolContents) (s : SortId) (t : TermId) → s ≡ sort_of_column kinds (get_or needed i x) → IsClosedTerm h q s k r t → AreConstants k r.constants → KeepsConstants q.constants r.constants
    → IsClosing kinds needed g p (i + 1) k r (terms ++ t ∷ [])
closing_more kinds needed g p i h q terms x c l k r s t is n a m =
    let split : map (sort_of_column kinds) (take (i + 1) needed) ≡ map (sort_of_column kinds) (take i needed) ++ sort_of_column kinds (get_or needed i x) ∷ [] =
    ap (map (sort_of_column kinds)) (take_more needed i x l) ∙ map-append (sort_of_column kinds) (take i needed) (get_or needed i x ∷ []) in
    record {
      terms_so_far = subst (λ z. AreClosedTerms g p z k r (terms ++ t ∷ [])) (sym split) (one_more_closed_term c.terms_so_far (subst (λ z. IsClosedTerm h q z k r t) is n));
      grown = growth_after_growth_is_growth g h k c.grown n.grown;
      kept = extends_on p.trees q.trees r.trees c.kept n.kept;
      constants = a;
      constants_kept = keeps_then p.constants q.constants r.constants c.constants_kept m;
    }

pub closing_all : (kinds : List (NameId × SortId)) (needed : List ℕ) (g : Sig) (p : PoolContents) (i : ℕ) (h : Sig) (q : PoolContents) (terms : List TermId) → IsClosing kinds needed g p i h q terms → length needed ≤ i
    → AreClosedTerms g p (map (sort_of_column kinds) needed) h q terms
closing_all kinds needed g p i h q terms c l = subst (λ z. AreClosedTerms g p (map (sort_of_column kinds) z) h q terms) (take_all i needed l) c.terms_so_far

-- what `closed_term` answers
pub closed_answer : (h : Sig) (q : PoolContents) (k : Sig) (r : PoolContents) (t : TermId) (s : SortId) → (v : ConstructorValue) × IsFirstValue h s v → ((v : ConstructorValue) → IsFirstValue h s v → tree_at r.trees t ≡ tree_with (constant_of r.constants) v)
    → ((v : ConstructorValue) → IsFirstValue h s v → DeclaresConstants (sorts_in_need h q.constants v) h q.constants k r.constants) → IsIn r.trees t → HasTreeSort k (tree_at r.trees t) s → IsGrown h k → Extends q.trees r.trees → IsClosedTerm h q s k r t
closed_answer h q k r t s has first declared within sorted w x =
    record { value = has.0; first = has.1; tree = first has.0 has.1; declared = declared has.0 has.1; stands = record { within = within; sorted = sorted }; grown = w; kept = x }

-- the sort of a column that is read
pub column_sort : (kinds : List (NameId × SortId)) (x : ℕ) (k : NameId × SortId) → slice_get kinds x ≡ Some k → sort_of_column kinds x ≡ k.1
column_sort kinds x k at = ap (λ z. z.1) (get_or_from_slice_get kinds x k _ at)

pub read_needed : (needed : List ℕ) (i x d : ℕ) → slice_get needed i ≡ Some x → get_or needed i d ≡ x
read_needed needed i x d at = get_or_from_slice_get needed i x d at

-- as many terms as sorts
pub as_many_closed : (g : Sig) (p : PoolContents) (ss : List SortId) (h : Sig) (q : PoolContents) (ts : List TermId) → AreClosedTerms g p ss h q ts → length ss ≡ length ts
as_many_closed g p _ _ _ _ no_closed_term = refl
as_many_closed g p _ _ _ _ (one_more_closed_term {ss = ss} {ts = ts} {h = h} {q = q} {s = s} {t = t} a n) =
    let e = length-append ss (s ∷ []) in
    let f = length-append ts (t ∷ []) in
    let k = as_many_closed g p ss h q ts a in
    omega (arith, e, f, k)
