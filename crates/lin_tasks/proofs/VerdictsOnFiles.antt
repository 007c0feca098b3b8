-- What is shown of a trace that was loaded, and why there is nothing to show.
use Rattle.std.proofs.Common.{◌≡◌, ◌≤◌, ◌<◌, ℕ, List, Option, Result, Ok, Err, IfSome, IfErr, IsErrAnd, length, refl, sym, subst, ◌∙◌}
use Rattle.std.specs.Prelude.{IsErrOf}
use Rattle.mcrl2_text.specs.declared.loading.LoadFault.{LoadFault}
use Rattle.mcrl2_text.specs.declared.loading.LoadFault.TheVariants as load
use Rattle.mcrl2_text.specs.declared.loading.TheConstants.{MAX_TEXT_LEN}
use Rattle.data_theory.specs.declared.ids.NameId.{NameId}
use Rattle.data_theory.specs.Signature.{Sig}
use Rattle.data_rewriter.specs.Simplifying.{AreWellFormed}
use Rattle.mcrl2_syntax.specs.Declarations.{PlainSpec}
use Rattle.term_pool.specs.Pools.{PoolContents}
use Rattle.process_terms.specs.PlainProcesses.{PlainEquation}
use Rattle.lps_core.specs.PlainLinears.{PlainLinear}
use Rattle.trace_replay.specs.ReadingFaults.{IsTraceFault}
use Rattle.trace_replay.specs.declared.replaying.ReplayFault.{ReplayFault}
use Rattle.trace_replay.specs.declared.replaying.ReplayFault.TheVariants.{BadTrace}
use Rattle.lin_driver.specs.Eliminations.{equations_at}
use Rattle.lin_driver.specs.LinearOfTexts.{IsLinearOf}
use Rattle.lin_driver.specs.declared.ending.Ending.{Ending}
use Rattle.lin_driver.specs.declared.methods.Method.{Method}
use Rattle.lin_answers.specs.declared.status.Status.{Status}
use Rattle.lin_refusals.specs.BadTraces.{IsBadAsTold, IsLongAsTold}
use Rattle.lin_refusals.specs.Stops.{stop_of_load}
use Rattle.lin_refusals.specs.declared.stop.Stop.{Stop}
use Rattle.lin_refusals.specs.declared.stop.Stop.TheVariants.{NoMemory, ReadFault, TooLong}
use Rattle.lin_tasks.specs.ShownVerdicts.{IsReplayedAsTold, ShowsVerdict}
use Rattle.lin_tasks.proofs.ReplayedTexts.{made_replay}

-- ---- the trace that was read
module _ (ending : Ending) (method : Method) (text : List ℕ) (spec : PlainSpec) (g : Sig) (q : PoolContents) (equations : List PlainEquation) (x : NameId) (l : PlainLinear) (components : ℕ) (is_linear : IsLinearOf ending method text spec g q equations x l components) where
  pub replayed_as_told : AreWellFormed g (equations_at g q.trees equations) → (told : Option (List ℕ)) (trace : List ℕ) → IfSome told (λ t. trace ≡ t) → length trace ≤ MAX_TEXT_LEN → (fuel bound : ℕ) (status : Status) (shown : List ℕ)
      → ShowsVerdict g (equations_at g q.trees equations) fuel bound q.trees l trace status shown → IsReplayedAsTold ending method fuel bound text told status shown
  replayed_as_told fine told trace is short fuel bound status shown v =
      record { trace = trace; is_told = is; short = short; replayed = made_replay ending method text spec g q equations x l components is_linear fine fuel bound trace status shown v }

  pub bad_as_told : (told : Option (List ℕ)) (trace : List ℕ) → IfSome told (λ t. trace ≡ t) → length trace ≤ MAX_TEXT_LEN → (fault : ReplayFault) → IsTraceFault g trace fault → (number : ℕ) → fault ≡ BadTrace number
      → IsBadAsTold ending method text told number
  bad_as_told told trace is short fault bad number same = record {
    trace = trace;
    is_told = is;
    short = short;
    bad = record { spec = spec; signature = g; pool = q; equations = equations; name = x; linear = l; components = components; is_linear = is_linear; bad = subst (IsTraceFault g trace) same bad };
  }

-- ---- a file that isn't loaded
stop_of_loading : (P : Stop → Type 0) (told : Option (List ℕ)) (fault : LoadFault) → P ReadFault → (IsLongAsTold told → P TooLong) → P NoMemory → (fault ≡ load.TooLong → IsLongAsTold told) → P (stop_of_load fault)
stop_of_loading P told load.ReadFault unread long none is_long = unread
stop_of_loading P told load.TooLong unread long none is_long = long (is_long refl)
stop_of_loading P told load.NoMemory unread long none is_long = none

-- what holds of each stop for its cause holds of that
pub not_loaded : {T : Type 0} (P : Stop → Type 0) (told : Option (List ℕ)) (r : Result T Stop) (fault : LoadFault) → P ReadFault → (IsLongAsTold told → P TooLong) → P NoMemory → (fault ≡ load.TooLong → IsLongAsTold told)
    → IsErrAnd r (λ given. given ≡ stop_of_load fault) → IfErr r P
not_loaded P told (Ok x) fault unread long none is_long is = absurd is
not_loaded P told (Err stop) fault unread long none is_long is = subst P (sym is) (stop_of_loading P told fault unread long none is_long)

-- it stops by a read fault where loading did
read_fault_alone : (fault : LoadFault) → stop_of_load fault ≡ ReadFault → fault ≡ load.ReadFault
read_fault_alone load.ReadFault is = refl
read_fault_alone load.TooLong is = let never : ⊥ = cc in absurd never
read_fault_alone load.NoMemory is = let never : ⊥ = cc in absurd never

pub read_fault_of_loading : {T : Type 0} (r : Result T Stop) (fault : LoadFault) → IsErrAnd r (λ given. given ≡ stop_of_load fault) → IsErrOf r ReadFault → fault ≡ load.ReadFault
read_fault_of_loading (Ok x) fault same is = absurd same
read_fault_of_loading (Err given) fault same is = let e : given ≡ ReadFault = cc in read_fault_alone fault (sym same ∙ e)
