-- Plainly conditioned linear processes stay so as signature and pool grow, from an earlier signature on, and where more is written.
use Rattle.std.proofs.Common.{◌≡◌, List, map, length, length-append, sym, ap, ◌∙◌, subst, arith}
use Rattle.std.specs.List.{All}
use Rattle.std.proofs.lemmas.List.Elements.{All-contains, All-weaker}
use Rattle.data_theory.specs.declared.ids.VarId.{VarId}
use Rattle.data_theory.specs.Declarations.{Data}
use Rattle.data_theory.specs.EqualityLaws.{Grows}
use Rattle.data_theory.specs.Signature.{Sig}
use Rattle.data_theory.specs.WholeSignatures.{IsSignature}
use Rattle.data_theory.specs.IdData.{data_meant}
use Rattle.data_theory.specs.IdTerms.{IsGrown, variable_sorts}
use Rattle.data_theory.proofs.IdDataLemmas.{growth_keeps_meant_data}
use Rattle.data_theory.proofs.IdGrowthLemmas.{growth_after_growth_is_growth}
use Rattle.term_pool.specs.Pools.{PoolContents}
use Rattle.process_terms.specs.Meanings.{bound_at}
use Rattle.process_terms.specs.SignatureEntries.{entries_of, BothGrow}
use Rattle.process_terms.proofs.MeaningLemmas.{all_same}
use Rattle.lps_core.specs.Fitting.{IsVariable}
use Rattle.lps_core.specs.MadeTerms.{Written, StackSort, WasAnswered, IsPlain}
use Rattle.lps_core.specs.PlainLinears.{PlainLinear, linear_of, initial_of}
use Rattle.lps_core.proofs.Members.{all_from}
use Rattle.lps_core.proofs.Staying.{variable_stays}
use Rattle.lps_core.proofs.StayingFits.{what_fits_fits_still}
use Rattle.regular_encoder.proofs.PlainGrowth.{plain_linears_stay_plain}
use Rattle.stack_encoder.specs.AddedStacks.{IsAddedStack}
use Rattle.stack_encoder.proofs.Starting.{stack_grown}
use Rattle.stack_encoder.proofs.WiderOrigins.{IsWider, linear_in_more}
use Rattle.lin_driver.specs.PlainlyMade.{IsAddedParameter, a_control_number, an_ended_flag, a_first_flag, a_phase, in_its_place, IsPlainFor}

-- ---- what was added
pub added_on : (s g h : Sig) → IsGrown g h → (x : VarId) → IsAddedParameter s g x → IsAddedParameter s h x
added_on s g h w _ (a_control_number {after = after} a c b) = a_control_number a c (growth_after_growth_is_growth after g h b w)
added_on s g h w _ (an_ended_flag {after = after} a c b) = an_ended_flag a c (growth_after_growth_is_growth after g h b w)
added_on s g h w _ (a_first_flag {after = after} a c b) = a_first_flag a c (growth_after_growth_is_growth after g h b w)
added_on s g h w _ (a_phase {after = after} a c b) = a_phase a c (growth_after_growth_is_growth after g h b w)
added_on s g h w _ (in_its_place {after = after} {x = x} a c b) = in_its_place (added_on s g h w x a) c (growth_after_growth_is_growth after g h b w)

pub added_since : (r s h : Sig) → IsGrown r s → (x : VarId) → IsAddedParameter s h x → IsAddedParameter r h x
added_since r s h w _ (a_control_number {before = before} a c b) = a_control_number (growth_after_growth_is_growth r s before w a) c b
added_since r s h w _ (an_ended_flag {before = before} a c b) = an_ended_flag (growth_after_growth_is_growth r s before w a) c b
added_since r s h w _ (a_first_flag {before = before} a c b) = a_first_flag (growth_after_growth_is_growth r s before w a) c b
added_since r s h w _ (a_phase {before = before} a c b) = a_phase (growth_after_growth_is_growth r s before w a) c b
added_since r s h w _ (in_its_place {x = x} a c b) = in_its_place (added_since r s h w x a) c b

stack_on : (d e f : Data) → Grows e f → (k : StackSort) → IsAddedStack d e k → IsAddedStack d f k
stack_on d e f w k a = record { symbols = a.symbols; is = a.is; columns = a.columns; stands = stack_grown e f w a.symbols a.columns a.stands; new = a.new }

stack_since : (c d e : Data) → Grows c d → (k : StackSort) → IsAddedStack d e k → IsAddedStack c e k
stack_since c d e w k a =
    let long = ap length w.sorts ∙ length-append c.sorts w.new_sorts in
    let new = a.new in
    record { symbols = a.symbols; is = a.is; columns = a.columns; stands = a.stands; new = omega (arith, long, new) }

pub meant_grows : (g h : Sig) → IsSignature g → IsSignature h → IsGrown g h → Grows (data_meant g) (data_meant h)
meant_grows g h old new w = growth_keeps_meant_data g h old.table old.roles new.roles w

-- ---- linear processes
pub added_variables : (s g : Sig) (p : PoolContents) (w : Written) (l : PlainLinear) → (k : IsPlainFor s g p w l) → All (IsVariable g) k.added
added_variables s g p w l k = all_from (IsVariable g) k.added (λ x i. All-contains (IsVariable g) l.params x k.fits.params (k.are_parameters x i))

pub plain_on : (s g h : Sig) (p q : PoolContents) (w : Written) (l : PlainLinear) → IsSignature g → IsSignature h → BothGrow g h p.trees q.trees → IsPlainFor s g p w l → IsPlainFor s h q w l
plain_on s g h p q w l old new grow k =
    let before = map (bound_at (entries_of g p.trees)) k.added in
    let same : map (bound_at (entries_of h q.trees)) k.added ≡ before =
    all_same (IsVariable g) (bound_at (entries_of g p.trees)) (bound_at (entries_of h q.trees)) (variable_stays g h p.trees q.trees old.table old.complete grow) k.added (added_variables s g p w l k) in
    record {
      fits = what_fits_fits_still g h p.trees q.trees l old.table old.complete new.table grow k.fits;
      stacks = k.stacks;
      stacks_added = All-weaker (IsAddedStack (data_meant s) (data_meant g)) (IsAddedStack (data_meant s) (data_meant h)) (stack_on (data_meant s) (data_meant g) (data_meant h) (meant_grows g h old new grow.signature)) k.stacks k.stacks_added;
      added = k.added;
      are_added = All-weaker (IsAddedParameter s g) (IsAddedParameter s h) (added_on s g h grow.signature) k.added k.are_added;
      are_parameters = k.are_parameters;
      plain = subst (λ xs. IsPlain h q w k.stacks xs l) (sym same) (plain_linears_stay_plain g h p q w k.stacks before l old new grow k.fits k.plain);
    }

pub plain_since : (r s h : Sig) (q : PoolContents) (w : Written) (l : PlainLinear) → IsSignature r → IsSignature s → IsGrown r s → IsPlainFor s h q w l → IsPlainFor r h q w l
plain_since r s h q w l old new grown k = record {
  fits = k.fits;
  stacks = k.stacks;
  stacks_added = All-weaker (IsAddedStack (data_meant s) (data_meant h)) (IsAddedStack (data_meant r) (data_meant h)) (stack_since (data_meant r) (data_meant s) (data_meant h) (meant_grows r s old new grown)) k.stacks k.stacks_added;
  added = k.added;
  are_added = All-weaker (IsAddedParameter s h) (IsAddedParameter r h) (added_since r s h grown) k.added k.are_added;
  are_parameters = k.are_parameters;
  plain = k.plain;
}

-- where more is written
pub plain_in_more : (s h : Sig) (q : PoolContents) (w z : Written) (l : PlainLinear) → ((ks : List StackSort) → IsWider (data_meant h) (variable_sorts h) (WasAnswered h q) w z ks ks) → IsPlainFor s h q w l → IsPlainFor s h q z l
plain_in_more s h q w z l wider k =
    let added = map (bound_at (entries_of h q.trees)) k.added in
    record {
      fits = k.fits;
      stacks = k.stacks;
      stacks_added = k.stacks_added;
      added = k.added;
      are_added = k.are_added;
      are_parameters = k.are_parameters;
      plain = linear_in_more (data_meant h) (variable_sorts h) (WasAnswered h q) w z k.stacks k.stacks (wider k.stacks) added added (λ x i. i) (linear_of (entries_of h q.trees) l) (initial_of (entries_of h q.trees) l) k.plain;
    }
