-- The edges of a system, state by state.
use Rattle.std.specs.Prelude.{◌≡◌, ◌≢◌, ◌<◌, ◌≤◌, ◌+◌, ◌++◌, ℕ, zero, suc, List, [], ◌∷◌, length, map, set, IfSome, Option, Some, slice_get, slice_index_or, Vec}
use Rattle.std.specs.Global.{Global}
use Rattle.std.proofs.Common.{refl, sym, subst, ap, ◌∙◌, arith, ⊎_elim}
use Rattle.std.specs.List.{All, Contains}
use Rattle.std.proofs.lemmas.List.{length-map}
use Rattle.std.proofs.lemmas.List.Elements.{All-weaker, Contains-append_left, Contains-push, Contains-push_cases}
use Rattle.std.proofs.lemmas.Option.{slice_get_within}
use Rattle.std.proofs.Math.ListN.{length-set}
use Rattle.data_theory.specs.IdTrees.{Tree}
use Rattle.data_theory.specs.Signature.{Sig}
use Rattle.data_theory.specs.declared.ids.TermId.{TermId}
use Rattle.data_theory.specs.declared.ids.VarId.{VarId}
use Rattle.lps_simulator.specs.OptionsInCode.{IsState}
use Rattle.lps_core.proofs.Members.{all_at}
use Rattle.lps_core.specs.PlainLinears.{plain_next}
use Rattle.aut_check.specs.declared.systems.Edge.{Edge as CodeEdge}
use Rattle.aut_check.specs.declared.systems.Lts.{Lts}
use Rattle.aut_check.specs.Comparing.{numbers_at, AreEdgesFrom, AreSorted}
use Rattle.aut_check.specs.PlainSystems.{plain_edge, plain_system, IsEdge, IsSystem, PlainEdge, PlainSystem}
use Rattle.aut_check.proofs.Orders.{less_unless_same, same_or_not}
use Rattle.aut_check.proofs.RunningStates.{same_state, state_read}
use Rattle.bisim_laws.proofs.Firing.{contains_none}

-- ---- lists of numbers
pub none_there : (lists new : List (Vec ℕ Global)) (v : Vec ℕ Global) → ((i : ℕ) → numbers_at lists i ≡ []) → v.items ≡ [] → new ≡ lists ++ v ∷ [] → (i : ℕ) → numbers_at new i ≡ []
none_there lists new v none empty pushed i = subst (λ (z : List (Vec ℕ Global)). numbers_at z i ≡ []) (sym pushed) (by lists none i)
  where
    by : (xs : List (Vec ℕ Global)) → ((j : ℕ) → numbers_at xs j ≡ []) → (j : ℕ) → numbers_at (xs ++ v ∷ []) j ≡ []
    by [] h zero = empty
    by [] h (suc j) = refl
    by (x ∷ xs) h zero = h zero
    by (x ∷ xs) h (suc j) = by xs (λ k. h (suc k)) j

pub numbers_read : (lists : List (Vec ℕ Global)) (i : ℕ) (v : Vec ℕ Global) → i < length lists → v ≡ slice_index_or lists i v → numbers_at lists i ≡ v.items
numbers_read [] i v l e = absurd (omega (arith, l))
numbers_read (x ∷ xs) zero v l e = ap (λ (z : Vec ℕ Global). z.items) (sym e)
numbers_read (x ∷ xs) (suc i) v l e = numbers_read xs i v (omega (arith, l)) e

numbers_default : (lists : List (Vec ℕ Global)) (i : ℕ) (d : Vec ℕ Global) → i < length lists → numbers_at lists i ≡ (slice_index_or lists i d).items
numbers_default [] i d l = absurd (omega (arith, l))
numbers_default (x ∷ xs) zero d l = refl
numbers_default (x ∷ xs) (suc i) d l = numbers_default xs i d (omega (arith, l))

set_same : (lists : List (Vec ℕ Global)) (i : ℕ) (v : Vec ℕ Global) → i < length lists → numbers_at (set lists i v) i ≡ v.items
set_same [] i v l = absurd (omega (arith, l))
set_same (x ∷ xs) zero v l = refl
set_same (x ∷ xs) (suc i) v l = set_same xs i v (omega (arith, l))

set_other : (lists : List (Vec ℕ Global)) (i j : ℕ) (v : Vec ℕ Global) → j ≢ i → numbers_at (set lists i v) j ≡ numbers_at lists j
set_other [] i j v n = refl
set_other (x ∷ xs) zero zero v n = absurd (n refl)
set_other (x ∷ xs) zero (suc j) v n = refl
set_other (x ∷ xs) (suc i) zero v n = refl
set_other (x ∷ xs) (suc i) (suc j) v n = set_other xs i j v (λ e. n (ap suc e))

-- ---- edges one after another
pub sorted_first : (f : PlainSystem) (lists : List (Vec ℕ Global)) → length lists ≡ length f.states → ((i : ℕ) → numbers_at lists i ≡ []) → AreSorted f 0 lists
sorted_first f lists size none = record {
  size = size;
  within = λ i k c. absurd (contains_none k (subst (λ (z : List ℕ). Contains z k) (none i) c));
  whole = λ i k e l at from. absurd (omega (arith, l));
}

pub sorted_more : (f : PlainSystem) (n : ℕ) (lists : List (Vec ℕ Global)) (e : PlainEdge) (old new : Vec ℕ Global) (later : List (Vec ℕ Global)) → AreSorted f n lists → slice_get f.edges n ≡ Some e → e.from < length lists → old ≡ slice_index_or lists e.from old → new.items ≡ old.items ++ n ∷ [] → later ≡ set lists e.from new
    → AreSorted f (n + 1) later
sorted_more f n lists e old new later h at inside read pushed made = subst (AreSorted f (n + 1)) (sym made) (record {
  size = length-set lists e.from new ∙ h.size;
  within = λ i k c. ⊎_elim
      (λ q. within_here i k q c)
      (λ o. h.within i k (subst (λ (z : List ℕ). Contains z k) (set_other lists e.from i new o) c))
      (same_or_not i e.from);
  whole = λ i k d l there from. ⊎_elim
      (λ q. last i k d q there from)
      (λ o. earlier i k d (less_unless_same k n l o) there from)
      (same_or_not k n);
})
  where
    here : numbers_at (set lists e.from new) e.from ≡ numbers_at lists e.from ++ n ∷ []
    here = set_same lists e.from new inside ∙ pushed ∙ ap (λ (z : List ℕ). z ++ n ∷ []) (sym (numbers_read lists e.from old inside read))

    within_here : (i k : ℕ) → i ≡ e.from → Contains (numbers_at (set lists e.from new) i) k → (d : PlainEdge) × ((slice_get f.edges k ≡ Some d) × (d.from ≡ i))
    within_here i k q c = ⊎_elim
        (λ b. subst (λ (j : ℕ). (d : PlainEdge) × ((slice_get f.edges k ≡ Some d) × (d.from ≡ j))) (sym q) (h.within e.from k b))
        (λ s. (e, (ap (slice_get f.edges) (sym s) ∙ at, sym q)))
        (Contains-push_cases (numbers_at lists e.from) n k (subst (λ (z : List ℕ). Contains z k) (ap (numbers_at (set lists e.from new)) q ∙ here) c))

    kept : (i k : ℕ) → Contains (numbers_at lists i) k → Contains (numbers_at (set lists e.from new) i) k
    kept i k c = ⊎_elim
        (λ q. subst (λ (z : List ℕ). Contains z k) (sym (ap (numbers_at (set lists e.from new)) q ∙ here)) (Contains-append_left (numbers_at lists e.from) (n ∷ []) k (subst (λ (j : ℕ). Contains (numbers_at lists j) k) q c)))
        (λ o. subst (λ (z : List ℕ). Contains z k) (sym (set_other lists e.from i new o)) c)
        (same_or_not i e.from)

    earlier : (i k : ℕ) (d : PlainEdge) → k < n → slice_get f.edges k ≡ Some d → d.from ≡ i → Contains (numbers_at (set lists e.from new) i) k
    earlier i k d l there from = kept i k (h.whole i k d l there from)

    last : (i k : ℕ) (d : PlainEdge) → k ≡ n → slice_get f.edges k ≡ Some d → d.from ≡ i → Contains (numbers_at (set lists e.from new) i) k
    last i k d q there from =
        let same : e ≡ d = same_state (slice_get f.edges k) (ap (slice_get f.edges) q ∙ at) there in
        let source : i ≡ e.from = sym from ∙ ap (λ (z : PlainEdge). z.from) (sym same) in
        subst (λ (j : ℕ). Contains (numbers_at (set lists e.from new) i) j) (sym q)
        (subst (λ (z : List ℕ). Contains z n) (sym (ap (numbers_at (set lists e.from new)) source ∙ here)) (Contains-push (numbers_at lists e.from) n))

pub sorted_all : (f : PlainSystem) (n : ℕ) (lists : List (Vec ℕ Global)) → AreSorted f n lists → length f.edges ≤ n → (i : ℕ) (d : Vec ℕ Global) → i < length lists → AreEdgesFrom f i (slice_index_or lists i d).items
sorted_all f n lists h long i d l = record {
  within = λ k c. h.within i k (subst (λ (z : List ℕ). Contains z k) (sym (numbers_default lists i d l)) c);
  whole = λ k e at from. subst (λ (z : List ℕ). Contains z k) (numbers_default lists i d l) (h.whole i k e (let inside : k < length f.edges = slice_get_within f.edges k e at in omega (arith, inside, long)) at from);
}

-- ---- in code
pub edge_read : (edges : List CodeEdge) (k : ℕ) (x : CodeEdge) → k < length edges → x ≡ slice_index_or edges k x → slice_get (map plain_edge edges) k ≡ Some (plain_edge x)
edge_read [] k x l e = absurd (omega (arith, l))
edge_read (y ∷ edges) zero x l e = ap (λ (z : CodeEdge). Some (plain_edge z)) (sym e)
edge_read (y ∷ edges) (suc k) x l e = edge_read edges k x (omega (arith, l)) e

pub source_inside : (f : Lts) (k : ℕ) (x : CodeEdge) → k < length f.edges.items → x ≡ slice_index_or f.edges.items k x → All (λ (e : PlainEdge). e.from < length f.states.items) (plain_system f).edges → x.from < length f.states.items
source_inside f k x l e h = all_at (λ (d : PlainEdge). d.from < length f.states.items) (plain_system f).edges k (plain_edge x) h (edge_read f.edges.items k x l e)

pub sources_within : (g : Sig) (ts : List Tree) (ps : List VarId) (f : Lts) → IsSystem g ts ps (plain_system f) → All (λ (e : PlainEdge). e.from < length f.states.items) (plain_system f).edges
sources_within g ts ps f h =
    All-weaker (IsEdge g ts (length (plain_system f).states)) (λ (e : PlainEdge). e.from < length f.states.items) (λ e k. subst (λ (n : ℕ). e.from < n) (length-map f.states.items plain_next) k.from) (plain_system f).edges h.edges

pub edge_here : (g : Sig) (ts : List Tree) (ps : List VarId) (f : Lts) → IsSystem g ts ps (plain_system f) → (k : ℕ) (x : CodeEdge) → k < length f.edges.items → x ≡ slice_index_or f.edges.items k x → IsEdge g ts (length (plain_system f).states) (plain_edge x)
edge_here g ts ps f h k x l e = all_at (IsEdge g ts (length (plain_system f).states)) (plain_system f).edges k (plain_edge x) h.edges (edge_read f.edges.items k x l e)

pub state_here : (g : Sig) (ts : List Tree) (ps : List VarId) (f : Lts) → IsSystem g ts ps (plain_system f) → (k : ℕ) (x : Option (Vec TermId Global)) → k < length f.states.items → x ≡ slice_index_or f.states.items k x → IfSome (plain_next x) (IsState g ts ps)
state_here g ts ps f h k x l e = all_at (λ (o : Option (List TermId)). IfSome o (IsState g ts ps)) (plain_system f).states k (plain_next x) h.states (state_read f.states.items k x l e)
