-- Process terms in code, by their parts.
use Rattle.std.proofs.Common.{◌≡◌, List, [], ◌∷◌, ◌++◌, refl, ap, ap₂, ◌∙◌}
use Rattle.data_theory.specs.declared.ids.VarId.{VarId}
use Rattle.data_theory.specs.declared.ids.TermId.{TermId}
use Rattle.data_theory.specs.Terms.{Term}
use Rattle.data_theory.specs.Signature.{Sig}
use Rattle.term_pool.specs.Pools.{PoolContents}
use Rattle.process_terms.specs.Processes as written
use Rattle.process_terms.specs.Processes.{Around, Bound, Body, written_delta, written_cond, written_starting, written_around, choice_of, seq_of, merge_of, sync_of, sums_around}
use Rattle.process_terms.specs.PlainProcesses.{PlainAround, PlainProcess, delta, choice, seq, cond, sum, merge, left_merge, sync, around, processes_of}
use Rattle.process_terms.specs.Meanings.{Entries, body_of, bodies_of, HasProcess, HasProcesses}
use Rattle.sort_checker.specs.Additions.{GoesOn}
use Rattle.sort_checker.specs.ElaboratedParts.{IsTerm, IsAround, AreBinders, IsBody, AreBodies}
use Rattle.sort_checker.proofs.Adding.{goes_then}

pub delta_made : (g : Sig) (p : PoolContents) → IsBody g p delta written_delta
delta_made g p = record { there = λ h q on. tt; means = λ h q on. refl }

pub cond_made : (g : Sig) (p : PoolContents) (c : TermId) (x y : PlainProcess) (t : Term) (b d : Body) → IsTerm g p c t → IsBody g p x b → IsBody g p y d → IsBody g p (cond c x y) (written_cond t b d)
cond_made g p c x y t b d is one other = record {
  there = λ h q on. (is.there h q on, one.there h q on, other.there h q on);
  means = λ h q on. let e = is.means h q on in let f = one.means h q on in let k = other.means h q on in cc;
}

pub seq_made : (g : Sig) (p : PoolContents) (xs : List PlainProcess) (bs : List Body) → AreBodies g p xs bs → IsBody g p (seq (processes_of xs)) (seq_of bs)
seq_made g p xs bs are = record { there = λ h q on. are.there h q on; means = λ h q on. ap seq_of (are.means h q on) }

pub choice_made : (g : Sig) (p : PoolContents) (xs : List PlainProcess) (bs : List Body) → AreBodies g p xs bs → IsBody g p (choice (processes_of xs)) (choice_of bs)
choice_made g p xs bs are = record { there = λ h q on. are.there h q on; means = λ h q on. ap choice_of (are.means h q on) }

pub merge_made : (g : Sig) (p : PoolContents) (xs : List PlainProcess) (bs : List Body) → AreBodies g p xs bs → IsBody g p (merge (processes_of xs)) (merge_of bs)
merge_made g p xs bs are = record { there = λ h q on. are.there h q on; means = λ h q on. ap merge_of (are.means h q on) }

pub sync_made : (g : Sig) (p : PoolContents) (xs : List PlainProcess) (bs : List Body) → AreBodies g p xs bs → IsBody g p (sync (processes_of xs)) (sync_of bs)
sync_made g p xs bs are = record { there = λ h q on. are.there h q on; means = λ h q on. ap sync_of (are.means h q on) }

pub left_merge_made : (g : Sig) (p : PoolContents) (x y : PlainProcess) (b d : Body) → IsBody g p x b → IsBody g p y d → IsBody g p (left_merge x y) (written_starting written.left_merge b d)
left_merge_made g p x y b d one other = record {
  there = λ h q on. (one.there h q on, other.there h q on);
  means = λ h q on. ap₂ (written_starting written.left_merge) (one.means h q on) (other.means h q on);
}

-- the binders are those of an earlier signature
pub sum_made : (g : Sig) (o : PoolContents) (h : Sig) (p : PoolContents) → GoesOn g o h p → (ids : List VarId) (bounds : List Bound) (x : PlainProcess) (b : Body) → AreBinders g ids bounds → IsBody h p x b → IsBody h p (sum ids x) (sums_around bounds b)
sum_made g o h p before ids bounds x b are is = record {
  there = λ k q on. (are.there k o q (goes_then g o h p k q before on), is.there k q on);
  means = λ k q on. ap₂ sums_around (are.means k o q (goes_then g o h p k q before on)) (is.means k q on);
}

pub around_made : (g : Sig) (o : PoolContents) (h : Sig) (p : PoolContents) → GoesOn g o h p → (a : PlainAround) (w : Around) (x : PlainProcess) (b : Body) → IsAround g a w → IsBody h p x b → IsBody h p (around a x) (written_around w b)
around_made g o h p before a w x b are is = record {
  there = λ k q on. (are.there k o q (goes_then g o h p k q before on), is.there k q on);
  means = λ k q on. ap₂ written_around (are.means k o q (goes_then g o h p k q before on)) (is.means k q on);
}

-- ---- lists
pub none_made : (g : Sig) (p : PoolContents) → AreBodies g p [] []
none_made g p = record { there = λ h q on. tt; means = λ h q on. refl }

module _ (e : Entries) where
  bodies_behind : (xs : List PlainProcess) (x : PlainProcess) → bodies_of e (processes_of (xs ++ x ∷ [])) ≡ bodies_of e (processes_of xs) ++ body_of e x ∷ []
  bodies_behind [] x = refl
  bodies_behind (y ∷ xs) x = ap (λ bs. body_of e y ∷ bs) (bodies_behind xs x)

  have_behind : (xs : List PlainProcess) (x : PlainProcess) → HasProcesses e (processes_of xs) → HasProcess e x → HasProcesses e (processes_of (xs ++ x ∷ []))
  have_behind [] x h k = (k, tt)
  have_behind (y ∷ xs) x h k = (h.0, have_behind xs x h.1 k)

pub more_made : (g : Sig) (o : PoolContents) (h : Sig) (p : PoolContents) → GoesOn g o h p → (xs : List PlainProcess) (bs : List Body) (x : PlainProcess) (b : Body) → AreBodies g o xs bs → IsBody h p x b → AreBodies h p (xs ++ x ∷ []) (bs ++ b ∷ [])
more_made g o h p before xs bs x b are is = record {
  there = λ k q on. have_behind _ xs x (are.there k q (goes_then g o h p k q before on)) (is.there k q on);
  means = λ k q on. bodies_behind _ xs x ∙ ap₂ (λ cs c. cs ++ c ∷ []) (are.means k q (goes_then g o h p k q before on)) (is.means k q on);
}
