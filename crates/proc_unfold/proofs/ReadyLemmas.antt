-- What is found of a well-formed specification is what opening it asks for.
use Rattle.std.proofs.Common.{◌≡◌, ◌∙◌, inl, true, ℕ, List, [], length, ap, subst, Some}
use Rattle.std.specs.Prelude.{slice_get, slice_index, Contains}
use Rattle.std.specs.Option.{option_map}
use Rattle.std.proofs.lemmas.Option.{slice_get-map}
use Rattle.data_theory.specs.IdTrees.{Tree}
use Rattle.graphs.specs.Graphs.{IsMarked}
use Rattle.process_terms.specs.Processes.{Table}
use Rattle.process_terms.specs.PlainProcesses.{PlainProcess, PlainDefinition, PlainModel}
use Rattle.process_terms.specs.Meanings.{Entries, body_of, definition_of, table_of}
use Rattle.process_terms.specs.SignatureEntries.{entries_of}
use Rattle.guard_check.specs.declared.calls.Extent.TheVariants.{Everywhere}
use Rattle.guard_check.specs.Calls.{Calls}
use Rattle.guard_check.specs.CallGraphs.{plain_calls}
use Rattle.guard_check.proofs.CallLemmas.{same_calls}
use Rattle.guard_check.proofs.GuardLemmas.{reaches_on}
use Rattle.lps_core.proofs.Members.{all_at}
use Rattle.proc_unfold.specs.declared.outside.Parallelism.{Parallelism}
use Rattle.proc_unfold.specs.Parallel.{IsParallelName, IsOutside}
use Rattle.proc_unfold.specs.ParallelTests.{is_outside}
use Rattle.proc_unfold.specs.Parallelism.{IsParallelismOf, StandsOutsideRecursion}
use Rattle.proc_unfold.specs.FittingModels.{DefinitionFits, IsWellFormed}
use Rattle.proc_unfold.specs.Opening.{IsReady, HasReadyBodies}
use Rattle.proc_unfold.proofs.ParallelLemmas.{outside_told}
use Rattle.proc_unfold.proofs.WithinLemmas.{outside_fewer}
use Rattle.proc_unfold.proofs.WellFormed.{fits_in, fits_calls}

module _ (m : PlainModel) (found : Parallelism) (ts : List Tree) (is : IsParallelismOf m found.reached.items found.parallel.items found.ranks.items) (out : StandsOutsideRecursion m) (w : IsWellFormed ts m) where
  abbrev g : Entries
  g = entries_of w.signature ts

  abbrev d : Table
  d = table_of g m.definitions

  passes : (p : PlainProcess) → IsOutside d (body_of g p) → is_outside found.parallel.items p ≡ true
  passes p h = outside_told g found.parallel.items p (outside_fewer (IsParallelName d) (IsMarked found.parallel.items) (λ x marked. (is.parallel_are g x).0 marked) (body_of g p) h)

  pub init_ready : IsReady m found ts (length m.definitions) m.init
  init_ready = record {
    within = fits_in w.signature ts m.definitions [] m.init w.fits.init;
    outside = passes m.init (out g).init_outside;
    reached = λ x i. (fits_calls w.signature ts m.definitions [] m.init w.fits.init x i, (is.reached_are g x).1 (inl (subst (λ l. Contains l x) (same_calls Everywhere g m.init) i)));
    below = λ x i marked. is.ranks_below x (fits_calls w.signature ts m.definitions [] m.init w.fits.init x i);
  }

  called : (x y : ℕ) (f : PlainDefinition) → slice_get m.definitions x ≡ Some f → Contains (plain_calls Everywhere f.body) y → Calls Everywhere d x y
  called x y f at i = (definition_of g f, slice_get-map (definition_of g) m.definitions x ∙ ap (option_map (definition_of g)) at, subst (λ l. Contains l y) (same_calls Everywhere g f.body) i)

  body_ready : (x : ℕ) (f : PlainDefinition) → slice_get m.definitions x ≡ Some f → IsMarked found.reached.items x → IsMarked found.parallel.items x → IsReady m found ts (slice_index found.ranks.items x) f.body
  body_ready x f at r p =
      let fits = all_at (DefinitionFits w.signature ts m.definitions) m.definitions x f w.fits.definitions at in
      let reached = (is.reached_are g x).0 r in
      record {
        within = fits_in w.signature ts m.definitions f.params f.body fits.body;
        outside = passes f.body ((out g).all_outside x (definition_of g f) reached (slice_get-map (definition_of g) m.definitions x ∙ ap (option_map (definition_of g)) at));
        reached = λ y i. (fits_calls w.signature ts m.definitions f.params f.body fits.body y i, (is.reached_are g y).1 (reaches_on Everywhere d (body_of g m.init) x y reached (called x y f at i)));
        below = λ y i marked. is.no_recursion.falls g x y reached (called x y f at i, (is.parallel_are g x).0 p, (is.parallel_are g y).0 marked);
      }

  pub has_ready_bodies : HasReadyBodies m found ts
  has_ready_bodies = record { marks = is.sizes.1; ranks = is.no_recursion.size; bodies = body_ready }
