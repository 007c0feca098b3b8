-- The linear processes of components are plainly conditioned for what the component and the definitions write.
use Rattle.std.proofs.Common.{◌≡◌, ℕ, List, [], ◌∷◌, ◌++◌, map, length, refl, sym, ap₂, subst, ⊎_elim, arith, Option, Some, None}
use Rattle.std.specs.Prelude.{option_to_list}
use Rattle.std.specs.List.{All, Contains}
use Rattle.std.proofs.lemmas.List.Elements.{All-nil, All-cons}
use Rattle.data_theory.specs.declared.ids.VarId.{VarId}
use Rattle.data_theory.specs.Signature.{Sig}
use Rattle.data_theory.specs.WholeSignatures.{IsSignature}
use Rattle.data_theory.specs.IdData.{data_meant}
use Rattle.data_theory.specs.IdTerms.{IsGrown}
use Rattle.term_pool.specs.Pools.{PoolContents, Extends}
use Rattle.process_terms.specs.Meanings.{bound_at}
use Rattle.process_terms.specs.PlainProcesses.{PlainModel, PlainComponent}
use Rattle.process_terms.specs.SignatureEntries.{entries_of, BothGrow}
use Rattle.bisim_laws.proofs.Firing.{contains_first, contains_cases, contains_none}
use Rattle.lps_core.specs.Fitting.{Fits}
use Rattle.lps_core.specs.MadeTerms.{written_by, IsPlain}
use Rattle.lps_core.specs.PlainLinears.{PlainLinear}
use Rattle.lps_core.specs.Naming.{GrowsByNames}
use Rattle.proc_unfold.specs.FittingModels.{ModelFits, ComponentFits}
use Rattle.greibach.specs.FittingForms.{FormFits}
use Rattle.greibach.specs.PlainComponents.{written_from, IsPlainForm}
use Rattle.greibach.specs.PlainForms.{PlainEquation, PlainForm}
use Rattle.greibach.proofs.GrownFits.{both_by_names}
use Rattle.regular_encoder.specs.EncodedForms.{IsEncodedForm, added_in_front, StaysPlain}
use Rattle.regular_encoder.specs.FormColumns.{IsControl, no_control, a_control}
use Rattle.regular_encoder.proofs.PlainGrowth.{plain_forms_stay_plain}
use Rattle.stack_encoder.specs.AddedStacks.{IsAddedStack, IsPlainOnStack}
use Rattle.lin_driver.specs.LinearLeaves.{IsReady, IsLeafOf}
use Rattle.lin_driver.specs.PlainlyMade.{IsAddedParameter, a_control_number, IsPlainFor, EncodesPlainly, ArePlainLeaves}
use Rattle.lin_driver.proofs.ConstantGrowth.{on_columns, on_firsts}
use Rattle.lin_driver.proofs.GrownModels.{table_stays, component_stays}
use Rattle.lin_driver.proofs.MadeLeaves.{zip_push}
use Rattle.lin_driver.proofs.PlainGrowing.{plain_on, plain_since}
use Rattle.lin_driver.proofs.StayingLinears.{zip_weaker}

-- ---- with columns
-- the parameter in front, where there are several equations
added_ids : List PlainEquation → List VarId → List VarId
added_ids (q ∷ r ∷ qs) (x ∷ xs) = x ∷ []
added_ids _ _ = []

front_meant : (g : Sig) (q : PoolContents) (qs : List PlainEquation) (xs : List VarId) → map (bound_at (entries_of g q.trees)) (added_ids qs xs) ≡ added_in_front qs (map (bound_at (entries_of g q.trees)) xs)
unfolding added_ids
front_meant g q [] xs = refl
front_meant g q (e ∷ []) xs = refl
front_meant g q (e ∷ d ∷ qs) [] = refl
front_meant g q (e ∷ d ∷ qs) (x ∷ xs) = refl

front_among : (qs : List PlainEquation) (xs : List VarId) (x : VarId) → Contains (added_ids qs xs) x → Contains xs x
unfolding added_ids
front_among [] xs x i = absurd (contains_none x i)
front_among (e ∷ []) xs x i = absurd (contains_none x i)
front_among (e ∷ d ∷ qs) [] x i = absurd (contains_none x i)
front_among (e ∷ d ∷ qs) (y ∷ xs) x i = ⊎_elim (λ q. subst (λ z. Contains (y ∷ xs) z) q (contains_first y xs)) (λ n. absurd (contains_none x n)) (contains_cases y x [] i)

one_equation : (n : ℕ) (k m : Sig) (o : Option VarId) → IsControl k n m o → o ≡ None → n ≡ 1
one_equation _ k _ _ no_control e = refl
one_equation n k _ _ (a_control l f) e = cc

-- it is the number of the equation
front_added : (g k m h : Sig) (qs : List PlainEquation) (o : Option VarId) (cs : List VarId) → IsGrown g k → IsControl k (length qs) m o → IsGrown m h → All (IsAddedParameter g h) (added_ids qs (option_to_list o ++ cs))
unfolding added_ids
front_added g k m h [] o cs a c b = All-nil (IsAddedParameter g h)
front_added g k m h (e ∷ []) o cs a c b = All-nil (IsAddedParameter g h)
front_added g k m h (e ∷ d ∷ qs) None cs a c b = let n = one_equation (length (e ∷ d ∷ qs)) k m None c refl in absurd (omega (arith, n))
front_added g k m h (e ∷ d ∷ qs) (Some x) cs a c b = All-cons (IsAddedParameter g h) x [] (a_control_number a c b) (All-nil (IsAddedParameter g h))

pub columns_plain : (g h : Sig) (p q : PoolContents) (f : PlainForm) (l : PlainLinear) → IsEncodedForm g p h q f l → StaysPlain h q f l → Fits h q.trees l → EncodesPlainly g h q f l
columns_plain g h p q f l is stays fits w plain =
    let c = is.columns in
    record {
      fits = fits;
      stacks = [];
      stacks_added = All-nil (IsAddedStack (data_meant g) (data_meant h));
      added = added_ids f.equations l.params;
      are_added = subst (λ xs. All (IsAddedParameter g h) (added_ids f.equations xs)) (sym is.params)
          (front_added g c.with_columns c.with_control h f.equations is.layout.control is.layout.columns (on_columns c.columns).grows.grown c.control (on_firsts c.values).grows.grown);
      are_parameters = λ x i. front_among f.equations l.params x i;
      plain = subst (λ xs. IsPlain h q w [] xs l) (sym (front_meant h q f.equations l.params)) (stays w [] plain);
    }

-- ---- with a stack
pub stack_plain : (g h : Sig) (q : PoolContents) (f : PlainForm) (l : PlainLinear) → IsPlainOnStack g h q f l → Fits h q.trees l → EncodesPlainly g h q f l
stack_plain g h q f l on fits w plain = record {
  fits = fits;
  stacks = on.stack ∷ [];
  stacks_added = All-cons (IsAddedStack (data_meant g) (data_meant h)) on.stack [] on.added (All-nil (IsAddedStack (data_meant g) (data_meant h)));
  added = [];
  are_added = All-nil (IsAddedParameter g h);
  are_parameters = λ x i. absurd (contains_none x i);
  plain = on.plain w plain;
}

-- ---- a component
-- it writes the same over later signatures
pub component_writes : (g h : Sig) (p q : PoolContents) (m : PlainModel) (c : PlainComponent) → IsSignature g → BothGrow g h p.trees q.trees → ModelFits g p.trees m → ComponentFits g p.trees m.definitions c
    → written_from (entries_of h q.trees) m c ≡ written_from (entries_of g p.trees) m c
component_writes g h p q m c s grow fits k = ap₂ (λ d b. written_by d b) (table_stays g h p.trees q.trees s grow m fits) (component_stays g h p.trees q.trees s grow m fits c k)

pub leaf_plain : (g d h : Sig) (p q r : PoolContents) (m : PlainModel) (c : PlainComponent) (f : PlainForm) (l : PlainLinear) → IsReady g p m → IsLeafOf g p.trees m c → GrowsByNames g d → Extends p.trees q.trees → FormFits d q.trees f → IsPlainForm d q m c f → IsSignature h
    → IsGrown d h → Extends q.trees r.trees → EncodesPlainly d h r f l → IsPlainFor g h r (written_from (entries_of g p.trees) m c) l
leaf_plain g d h p q r m c f l ready leaf by kept form_fits form sh grown kept' encodes =
    let first = both_by_names g d p.trees q.trees by kept in
    let w = written_from (entries_of d q.trees) m c in
    let later = plain_forms_stay_plain d h q r w [] f by.stands sh (record { signature = grown; pool = kept' }) form_fits form in
    subst (λ z. IsPlainFor g h r z l) (component_writes g d p q m c ready.stands first ready.fits leaf.fits) (plain_since g d h r w l ready.stands by.stands by.grown (encodes w later))

-- ---- one after another
pub one_more_plain : (g h i : Sig) (p q r : PoolContents) (m : PlainModel) (cs : List PlainComponent) (ls : List PlainLinear) (c : PlainComponent) (l : PlainLinear) → IsReady g p m → IsReady h q m → IsLeafOf g p.trees m c → IsSignature i → IsGrown g h → IsGrown h i
    → Extends p.trees q.trees → Extends q.trees r.trees → ArePlainLeaves g p h q m cs ls → IsPlainFor h i r (written_from (entries_of h q.trees) m c) l → ArePlainLeaves g p i r m (cs ++ c ∷ []) (ls ++ l ∷ [])
one_more_plain g h i p q r m cs ls c l ready now leaf si gh hi kept kept' so_far made =
    let For = λ (c : PlainComponent) (l : PlainLinear). IsPlainFor g i r (written_from (entries_of g p.trees) m c) l in
    let Was = λ (c : PlainComponent) (l : PlainLinear). IsPlainFor g h q (written_from (entries_of g p.trees) m c) l in
    zip_push For cs ls c l
    (zip_weaker Was For (λ c l k. plain_on g h i q r (written_from (entries_of g p.trees) m c) l now.stands si (record { signature = hi; pool = kept' }) k) cs ls so_far)
    (subst (λ w. IsPlainFor g i r w l) (component_writes g h p q m c ready.stands (record { signature = gh; pool = kept }) ready.fits leaf.fits) (plain_since g h i r _ l ready.stands now.stands gh made))
