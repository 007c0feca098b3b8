-- Bodies in the shape of a linear process: what is in scope in their summands, and that they call themselves alone and are not parallel.
use Rattle.std.proofs.Common.{◌≡◌, ⊎_elim, ℕ, List, [], ◌∷◌, map, refl, sym, subst, Option, Some, None}
use Rattle.std.specs.Prelude.{slice_get, Contains}
use Rattle.std.specs.List.{AllByRecursion}
use Rattle.std.proofs.lemmas.List.Elements.{Contains-append_cases}
use Rattle.data_theory.specs.Terms.{Term}
use Rattle.data_theory.specs.Declarations.{Data}
use Rattle.data_theory.specs.Signature.{Sig}
use Rattle.data_theory.specs.WholeSignatures.{IsSignature}
use Rattle.data_theory.specs.IdData.{data_meant}
use Rattle.data_theory.specs.IdTrees.{Tree}
use Rattle.term_pool.proofs.DeclaredConstants.{grown_itself}
use Rattle.process_terms.specs.Labels.{Label}
use Rattle.process_terms.specs.PlainProcesses.{delta, PlainDefinition, PlainModel, term_of}
use Rattle.process_terms.specs.Processes.{Bound, Body, sums_around}
use Rattle.process_terms.specs.Meanings.{bound_at, body_of}
use Rattle.process_terms.specs.SignatureEntries.{entries_of, BothGrow}
use Rattle.bisim_laws.specs.LinearProcesses.{variables, LabelIsOver}
use Rattle.bisim_laws.proofs.Firing.{contains_cases, contains_none}
use Rattle.guard_check.specs.declared.calls.Extent.TheVariants.{Everywhere}
use Rattle.guard_check.specs.Calls.{calls}
use Rattle.lps_core.specs.TreeSummands.{numbers_of}
use Rattle.lps_core.proofs.Members.{all_at}
use Rattle.lps_core.proofs.MeantTrees.{numbers_meant}
use Rattle.lps_core.proofs.PoolTrees.{extends_itself}
use Rattle.proc_unfold.specs.FittingModels.{DefinitionFits, ModelFits}
use Rattle.proc_unfold.specs.Parallel.{HasParallel}
use Rattle.greibach.specs.Places.{Text, IsSortedBody}
use Rattle.greibach.specs.ComponentForms.{text_of}
use Rattle.greibach.specs.LinearShapes.{WrittenSummand, label_and_next, where_it_holds, summand_body, linear_body}
use Rattle.greibach.proofs.SortedBodies.{body_sorted}
use Rattle.lin_driver.proofs.KeptVariables.{CallIsOver, IsInScope}

-- ---- what is in scope
module _ (g : Data) (t : Text) (x : ℕ) where
  label_in_scope : (xs : List ℕ) (m : Label) (n : Option (List Term)) → IsSortedBody g t xs (label_and_next x m n) → LabelIsOver xs m × CallIsOver xs n
  label_in_scope xs m None h = (h, tt)
  label_in_scope xs m (Some ts) h = (h.0, h.1.0)

  under_sums : (xs : List Bound) (ps : List ℕ) (c : Option Term) (m : Label) (n : Option (List Term)) → IsSortedBody g t ps (sums_around xs (where_it_holds c (label_and_next x m n))) → IsInScope ps (record { sums = xs; condition = c; label = m; next = n })
  under_sums [] ps None m n h = let k = label_in_scope ps m n h in record { condition = tt; label = k.0; next = k.1 }
  under_sums [] ps (Some c) m n h = let k = label_in_scope ps m n h.2 in record { condition = h.0; label = k.0; next = k.1 }
  under_sums (y ∷ xs) ps c m n h = let k = under_sums xs (y.var ∷ ps) c m n h.1 in record { condition = k.condition; label = k.label; next = k.next }

  summands_in_scope : (ps : List ℕ) (ss : List WrittenSummand) → IsSortedBody g t ps (linear_body x ss) → AllByRecursion (IsInScope ps) ss
  summands_in_scope ps [] h = tt
  summands_in_scope ps (s ∷ []) h = (under_sums s.sums ps s.condition s.label s.next h, tt)
  summands_in_scope ps (s ∷ r ∷ ss) h = (under_sums s.sums ps s.condition s.label s.next h.0, summands_in_scope ps (r ∷ ss) h.1)

-- ---- nothing parallel
label_not_parallel : (x : ℕ) (m : Label) (n : Option (List Term)) → HasParallel (label_and_next x m n) → ⊥
label_not_parallel x m None h = h
label_not_parallel x m (Some ts) h = ⊎_elim (λ z. z) (λ z. z) h

summand_not_parallel : (x : ℕ) (xs : List Bound) (c : Option Term) (m : Label) (n : Option (List Term)) → HasParallel (sums_around xs (where_it_holds c (label_and_next x m n))) → ⊥
summand_not_parallel x [] None m n h = label_not_parallel x m n h
summand_not_parallel x [] (Some c) m n h = ⊎_elim (λ z. label_not_parallel x m n z) (λ z. z) h
summand_not_parallel x (y ∷ xs) c m n h = summand_not_parallel x xs c m n h

pub linear_not_parallel : (x : ℕ) (ss : List WrittenSummand) → HasParallel (linear_body x ss) → ⊥
linear_not_parallel x [] h = h
linear_not_parallel x (s ∷ []) h = summand_not_parallel x s.sums s.condition s.label s.next h
linear_not_parallel x (s ∷ r ∷ ss) h = ⊎_elim (λ z. summand_not_parallel x s.sums s.condition s.label s.next z) (λ z. linear_not_parallel x (r ∷ ss) z) h

-- ---- no call but of itself
label_calls_itself : (x : ℕ) (m : Label) (n : Option (List Term)) (y : ℕ) → Contains (calls Everywhere (label_and_next x m n)) y → x ≡ y
label_calls_itself x m None y i = absurd (contains_none y i)
label_calls_itself x m (Some ts) y i = ⊎_elim (λ q. q) (λ j. absurd (contains_none y j)) (contains_cases x y [] i)

summand_calls_itself : (x : ℕ) (xs : List Bound) (c : Option Term) (m : Label) (n : Option (List Term)) (y : ℕ) → Contains (calls Everywhere (sums_around xs (where_it_holds c (label_and_next x m n)))) y → x ≡ y
summand_calls_itself x [] None m n y i = label_calls_itself x m n y i
summand_calls_itself x [] (Some c) m n y i = ⊎_elim (λ j. label_calls_itself x m n y j) (λ j. absurd (contains_none y j)) (Contains-append_cases (calls Everywhere (label_and_next x m n)) [] y i)
summand_calls_itself x (z ∷ xs) c m n y i = summand_calls_itself x xs c m n y i

pub linear_calls_itself : (x : ℕ) (ss : List WrittenSummand) (y : ℕ) → Contains (calls Everywhere (linear_body x ss)) y → x ≡ y
linear_calls_itself x [] y i = absurd (contains_none y i)
linear_calls_itself x (s ∷ []) y i = summand_calls_itself x s.sums s.condition s.label s.next y i
linear_calls_itself x (s ∷ r ∷ ss) y i = ⊎_elim
    (λ j. summand_calls_itself x s.sums s.condition s.label s.next y j)
    (λ j. linear_calls_itself x (r ∷ ss) y j)
    (Contains-append_cases (calls Everywhere (summand_body x s)) (calls Everywhere (linear_body x (r ∷ ss))) y i)

-- ---- of a specification
pub written_in_scope : (g : Sig) (ts : List Tree) (m : PlainModel) (x : ℕ) (d : PlainDefinition) (ss : List WrittenSummand) → IsSignature g → ModelFits g ts m → slice_get m.definitions x ≡ Some d → body_of (entries_of g ts) d.body ≡ linear_body x ss
    → AllByRecursion (IsInScope (variables (map (bound_at (entries_of g ts)) d.params))) ss
written_in_scope g ts m x d ss s fits at shape =
    let e = entries_of g ts in
    let b : Body = body_of e d.body in
    let t : Text = text_of e m.definitions (calls Everywhere b) (term_of delta) in
    let grow : BothGrow g g ts ts = record { signature = grown_itself g; pool = extends_itself ts } in
    let own = all_at (DefinitionFits g ts m.definitions) m.definitions x d fits.definitions at in
    let sorted : IsSortedBody (data_meant g) t (numbers_of d.params) b =
    body_sorted g g ts ts s s grow m.definitions fits.definitions t refl refl d.params (numbers_of d.params) d.body own.body (λ v i. i) (λ h. linear_not_parallel x ss (subst HasParallel shape h)) (λ y i. i) in
    let named : IsSortedBody (data_meant g) t (variables (map (bound_at e) d.params)) b = subst (λ l. IsSortedBody (data_meant g) t l b) (sym (numbers_meant g ts d.params)) sorted in
    summands_in_scope (data_meant g) t x (variables (map (bound_at e) d.params)) ss (subst (IsSortedBody (data_meant g) t (variables (map (bound_at e) d.params))) shape named)
