-- What stands under the names of processes in code.
use Rattle.std.proofs.Common.{◌≡◌, ◌<◌, ℕ, zero, suc, List, [], ◌∷◌, length, map, get_or, refl, sym, ap, ap₂, ◌∙◌, arith}
use Rattle.std.specs.Prelude.{Option, Some, None, option_map, slice_get, Vec}
use Rattle.std.specs.Global.{Global}
use Rattle.std.specs.List.{AllByRecursion}
use Rattle.std.proofs.lemmas.Option.{same_Some}
use Rattle.data_theory.specs.Signature.{Sig}
use Rattle.data_theory.specs.WholeSignatures.{IsSignature}
use Rattle.term_pool.specs.Pools.{PoolContents}
use Rattle.sort_table.specs.Expressions.{Name}
use Rattle.data_typing.specs.Contexts.{IsFlatOver}
use Rattle.data_typing.specs.Meanings.{Scope}
use Rattle.data_typing.specs.declared.scope.Bound.{Bound}
use Rattle.data_typing.proofs.Contexts.{flat_stays}
use Rattle.sort_checker.specs.declared.process_tables.Parameter.{Parameter}
use Rattle.sort_checker.specs.declared.process_tables.ProcessTable.{ProcessTable}
use Rattle.sort_checker.specs.Additions.{GoesOn}
use Rattle.sort_checker.specs.CodeContexts.{parameter_of, parameters_at, process_in, IsParameterOver, IsTableOver, Sees}
use Rattle.sort_checker.specs.FullVocabularies.{Parameters, FullVocabulary, process_named}
use Rattle.sort_checker.specs.NameNumbers.{number_under}
use Rattle.sort_checker.proofs.Adding.{it_is_grown, texts_stay}
use Rattle.sort_checker.proofs.ReadLists.{at_one}
use Rattle.sort_checker.proofs.SortedParts.{all_weaker}

items_at : (xs : List (Vec Parameter Global)) (k : ℕ) (v : Vec Parameter Global) → k < length xs → v ≡ get_or xs k v → get_or (map (λ (ps : Vec Parameter Global). ps.items) xs) k [] ≡ v.items
items_at [] k v l e = let never : ⊥ = omega (arith, l) in absurd never
items_at (x ∷ xs) zero v l e = ap (λ (w : Vec Parameter Global). w.items) (sym e)
items_at (x ∷ xs) (suc k) v l e = items_at xs k v (omega (arith, l)) e

module _ (t : ProcessTable) (x : Name) (k : ℕ) (place : number_under t.places x ≡ Some k) (v : Vec Parameter Global) (inside : k < length t.parameters.items) (at : v ≡ get_or t.parameters.items k v) where
  pub process_there : process_in t x ≡ Some (k, map parameter_of v.items)
  process_there = ap (option_map (λ (n : ℕ). (n, parameters_at t n))) place ∙ ap (λ (ps : List Parameter). Some (k, map parameter_of ps)) (items_at t.parameters.items k v inside at)

  -- and as the vocabulary has it
  pub process_seen : (g : Sig) (bs : List Bound) (w : FullVocabulary) (scope : Scope) → Sees g t bs w scope → process_named w x ≡ Some (k, map parameter_of v.items)
  process_seen g bs w scope sees = sees.processes x ∙ process_there

  pub parameters_over : (g : Sig) → IsTableOver g t → AllByRecursion (IsParameterOver g) v.items
  parameters_over g over = at_one (λ (ps : Vec Parameter Global). AllByRecursion (IsParameterOver g) ps.items) t.parameters.items k v inside at over.parameters

  pub sorts_over : (g : Sig) → IsTableOver g t → AllByRecursion (λ (p : Parameter). IsFlatOver g p.sort) v.items
  sorts_over g over = all_weaker (IsParameterOver g) (λ (p : Parameter). IsFlatOver g p.sort) (λ p is. is.1) v.items (parameters_over g over)

-- a name without a place is no process's
pub no_process : (t : ProcessTable) (x : Name) → number_under t.places x ≡ None → (g : Sig) (bs : List Bound) (w : FullVocabulary) (scope : Scope) → Sees g t bs w scope → process_named w x ≡ None
no_process t x none g bs w scope sees = sees.processes x ∙ ap (option_map (λ (n : ℕ). (n, parameters_at t n))) none

-- the one that was found
pub same_process : (k n : ℕ) (ps qs : Parameters) (o : Option (ℕ × Parameters)) → o ≡ Some (k, ps) → o ≡ Some (n, qs) → (k ≡ n) × (ps ≡ qs)
same_process k n ps qs o e f = let same : (k, ps) ≡ (n, qs) = same_Some (k, ps) (n, qs) (sym e ∙ f) in (ap (λ (r : ℕ × Parameters). r.0) same, ap (λ (r : ℕ × Parameters). r.1) same)

-- along what is added
pub parameter_on : (g : Sig) (p : PoolContents) (h : Sig) (q : PoolContents) → IsSignature g → GoesOn g p h q → (x : Parameter) → IsParameterOver g x → IsParameterOver h x
parameter_on g p h q stands on x over = (ap (λ (ts : List Name). slice_get ts x.number.0) (texts_stay g h stands on.added) ∙ over.0, flat_stays g h (it_is_grown g h stands on.added) x.sort over.1)
