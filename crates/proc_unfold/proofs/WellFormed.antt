-- What is known of process terms that are well formed.
use Rattle.std.proofs.Common.{◌≡◌, ◌∙◌, ◌<◌, ⊎_elim, ℕ, zero, suc, List, [], ◌∷◌, ◌++◌, length, refl, sym, ap, subst, Some}
use Rattle.std.specs.Prelude.{slice_get, Contains}
use Rattle.std.proofs.lemmas.List.{length-map}
use Rattle.std.proofs.lemmas.List.Elements.{All-weaker, Contains-append_cases}
use Rattle.std.proofs.lemmas.Option.{slice_get_within}
use Rattle.data_theory.specs.declared.ids.VarId.{VarId}
use Rattle.data_theory.specs.Signature.{Sig}
use Rattle.data_theory.specs.IdTrees.{Tree}
use Rattle.graphs.proofs.Marks.{only_one, none_contained}
use Rattle.process_terms.specs.Processes.{Definition}
use Rattle.process_terms.specs.PlainProcesses.{PlainProcess, PlainProcesses, delta, act, call, choice, seq, cond, sum, merge, left_merge, sync, around, no_processes, more_processes, PlainDefinition, PlainModel}
use Rattle.process_terms.specs.Meanings.{Entries, table_of, definition_of}
use Rattle.guard_check.specs.declared.calls.Extent.TheVariants.{Everywhere}
use Rattle.guard_check.specs.Calls.{calls}
use Rattle.guard_check.specs.Guards.{HasDeclaredCalls}
use Rattle.guard_check.specs.CallGraphs.{plain_calls, all_calls}
use Rattle.guard_check.proofs.CallLemmas.{same_calls}
use Rattle.lps_core.specs.TreeSummands.{IsActionIn}
use Rattle.lps_core.proofs.Members.{all_at}
use Rattle.proc_unfold.specs.PutTerms.{IsProcessIn, AreProcessesIn}
use Rattle.proc_unfold.specs.FittingModels.{ActionFits, ProcessFits, ProcessesFit, DefinitionFits, IsWellFormed}

-- ---- the definitions of a table
pub body_at : (g : Entries) (ds : List PlainDefinition) (x : ℕ) (f : Definition) → slice_get (table_of g ds) x ≡ Some f → (c : PlainDefinition) × (slice_get ds x ≡ Some c) × (f ≡ definition_of g c)
body_at g [] x f e = let no : ⊥ = cc in absurd no
body_at g (c ∷ ds) zero f e = let same : Some (definition_of g c) ≡ Some f = e in (c, refl, (let is : definition_of g c ≡ f = cc in sym is))
body_at g (c ∷ ds) (suc x) f e = body_at g ds x f e

-- ---- ids and calls
module _ (g : Sig) (ts : List Tree) (ds : List PlainDefinition) where
  mutual
    pub fits_in : (xs : List VarId) (p : PlainProcess) → ProcessFits g ts ds xs p → IsProcessIn ts p
    fits_in xs delta h = tt
    fits_in xs (act m) h = All-weaker (ActionFits g ts xs) (IsActionIn ts) (λ a k. k.action.args.within) m h
    fits_in xs (call x ids) h = h.args.terms.within
    fits_in xs (choice ps) h = all_fit_in xs ps h
    fits_in xs (seq ps) h = all_fit_in xs ps h
    fits_in xs (cond c p q) h = (h.0.term.within, fits_in xs p h.1, fits_in xs q h.2)
    fits_in xs (sum ys p) h = fits_in (ys ++ xs) p h.1
    fits_in xs (merge ps) h = all_fit_in xs ps h
    fits_in xs (left_merge p q) h = (fits_in xs p h.0, fits_in xs q h.1)
    fits_in xs (sync ps) h = all_fit_in xs ps h
    fits_in xs (around o p) h = fits_in xs p h.1

    all_fit_in : (xs : List VarId) (ps : PlainProcesses) → ProcessesFit g ts ds xs ps → AreProcessesIn ts ps
    all_fit_in xs no_processes h = tt
    all_fit_in xs (more_processes p ps) h = (fits_in xs p h.0, all_fit_in xs ps h.1)

  mutual
    pub fits_calls : (xs : List VarId) (p : PlainProcess) → ProcessFits g ts ds xs p → (x : ℕ) → Contains (plain_calls Everywhere p) x → x < length ds
    fits_calls xs delta h x i = absurd (none_contained x i)
    fits_calls xs (act m) h x i = absurd (none_contained x i)
    fits_calls xs (call y ids) h x i = subst (λ n. n < length ds) (sym (only_one y.0 x i)) (slice_get_within ds y.0 h.definition h.stands)
    fits_calls xs (choice ps) h x i = all_fit_calls xs ps h x i
    fits_calls xs (seq ps) h x i = all_fit_calls xs ps h x i
    fits_calls xs (cond c p q) h x i = ⊎_elim (λ j. fits_calls xs p h.1 x j) (λ j. fits_calls xs q h.2 x j) (Contains-append_cases (plain_calls Everywhere p) (plain_calls Everywhere q) x i)
    fits_calls xs (sum ys p) h x i = fits_calls (ys ++ xs) p h.1 x i
    fits_calls xs (merge ps) h x i = all_fit_calls xs ps h x i
    fits_calls xs (left_merge p q) h x i = ⊎_elim (λ j. fits_calls xs p h.0 x j) (λ j. fits_calls xs q h.1 x j) (Contains-append_cases (plain_calls Everywhere p) (plain_calls Everywhere q) x i)
    fits_calls xs (sync ps) h x i = all_fit_calls xs ps h x i
    fits_calls xs (around o p) h x i = fits_calls xs p h.1 x i

    all_fit_calls : (xs : List VarId) (ps : PlainProcesses) → ProcessesFit g ts ds xs ps → (x : ℕ) → Contains (all_calls Everywhere ps) x → x < length ds
    all_fit_calls xs no_processes h x i = absurd (none_contained x i)
    all_fit_calls xs (more_processes p ps) h x i = ⊎_elim (λ j. fits_calls xs p h.0 x j) (λ j. all_fit_calls xs ps h.1 x j) (Contains-append_cases (plain_calls Everywhere p) (all_calls Everywhere ps) x i)

pub well_formed_calls : (ts : List Tree) (m : PlainModel) → IsWellFormed ts m → HasDeclaredCalls m
well_formed_calls ts m w g = record {
  start = λ x i. subst (λ n. x < n) (sym (length-map m.definitions (definition_of g))) (fits_calls w.signature ts m.definitions [] m.init w.fits.init x (subst (λ l. Contains l x) (sym (same_calls Everywhere g m.init)) i));
  bodies = λ x y link.
      let c = body_at g m.definitions x link.0 link.1 in
      let called = subst (λ l. Contains l y) (ap (λ (f : Definition). calls Everywhere f.body) c.2 ∙ sym (same_calls Everywhere g c.0.body)) link.2 in
      subst (λ n. y < n) (sym (length-map m.definitions (definition_of g)))
      (fits_calls w.signature ts m.definitions c.0.params c.0.body (all_at (DefinitionFits w.signature ts m.definitions) m.definitions x c.0 w.fits.definitions c.1).body y called);
}
