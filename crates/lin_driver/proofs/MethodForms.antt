-- What an encoder makes of a form leads from the form to its linear process.
use Rattle.std.proofs.Common.{◌≡◌, ◌-◌, ◌<◌, ℕ, List, [], ◌∷◌, length, refl, arith}
use Rattle.std.specs.Prelude.{◌↔◌, Bool, true, false, IsTrue, IfErr, Result, Ok, Err}
use Rattle.std.specs.List.{All}
use Rattle.std.proofs.lemmas.List.Elements.{All-append, All-contains, All-head, All-nil, All-tail}
use Rattle.data_theory.proofs.PlaceLemmas.{contains_read}
use Rattle.data_theory.specs.Signature.{Sig}
use Rattle.data_theory.specs.WholeSignatures.{IsSignature}
use Rattle.term_pool.specs.Pools.{PoolContents}
use Rattle.process_terms.specs.SignatureEntries.{entries_of}
use Rattle.bisim_laws.specs.Links.{Regular, Stack}
use Rattle.lps_core.specs.Fitting.{Fits}
use Rattle.lps_core.specs.PlainLinears.{PlainLinear, linear_of}
use Rattle.greibach.specs.FittingForms.{FormFits}
use Rattle.greibach.specs.Forms.{form_table}
use Rattle.greibach.specs.PlainForms.{PlainEquation, PlainForm, form_of}
use Rattle.greibach.specs.Surroundings.{HasUsableNames}
use Rattle.greibach.specs.Tails.{HasTail, HasTails}
use Rattle.regular_encoder.specs.Refusals.{all_summands, IsFirstWithTwoCalls, IsEncodeFaultOf}
use Rattle.regular_encoder.specs.declared.faults.EncodeFault.{EncodeFault}
use Rattle.regular_encoder.specs.declared.faults.EncodeFault.TheVariants.{NotTail, NoMemory}
use Rattle.regular_encoder.specs.EncodedForms.{IsEncodedForm, EncodingIsGood}
use Rattle.stack_encoder.specs.StackedForms.{IsStackedForm, StackingIsGood}
use Rattle.lps_printer.proofs.GrowingByAdditions.{additions_grow, constants_are_additions, constants_add_no_actions}
use Rattle.lin_driver.specs.MethodForms.{UsesStack, LeadsFromForm, IsMethodFaultOf}
use Rattle.lin_driver.specs.declared.methods.Method.{Method}
use Rattle.lin_driver.specs.declared.methods.Method.TheVariants as method
use Rattle.lin_driver.proofs.ColumnNames.{encoding_has_own_names}
use Rattle.lin_driver.proofs.ConstantGrowth.{encoding_grows}
use Rattle.lin_driver.proofs.NamedVariables.{encoding_named, usable_named}
use Rattle.lin_driver.proofs.StackedForms.{stack_grows, stack_adds_no_actions, stack_or_old, stack_identifiers, stack_has_own_name}
use Rattle.lin_driver.proofs.TakenColumns.{param_or_old, usable_still}

module _ (g h : Sig) (p q : PoolContents) (f : PlainForm) (l : PlainLinear) (sg : IsSignature g) (sh : IsSignature h) (fits : FormFits g p.trees f) (names : HasUsableNames g) (made_fits : Fits h q.trees l) where
  pub columns_lead : length f.equations < 340282366920938463463374607431768211456 → IsEncodedForm g p h q f l → EncodingIsGood h q.trees f l → LeadsFromForm g h q.trees f l
  columns_lead few e good = record {
    grows = constants_are_additions g h (encoding_grows g h p q f l e).grows sh;
    no_actions = constants_add_no_actions g h (encoding_grows g h p q f l e).grows sh;
    fits = made_fits;
    names = usable_still g h l.params (encoding_grows g h p q f l e).grows.grown (param_or_old g h p q f l e) made_fits.taken (encoding_named g h p q f l fits e (usable_named g names)) names;
    params = encoding_has_own_names g h p q f l sg sh fits few e;
    link = Regular (form_table (form_of (entries_of h q.trees) f)) good.0 (linear_of (entries_of h q.trees) l);
    bisimilar = good.1;
  }

  pub stack_leads : IsStackedForm g p h q f l → StackingIsGood h q.trees f l → LeadsFromForm g h q.trees f l
  stack_leads e good =
      let named = usable_named g names in
      let grows = stack_grows g h p q f l sg sh fits named e in
      record {
        grows = grows;
        no_actions = stack_adds_no_actions g h p q f l sg sh fits named e;
        fits = made_fits;
        names = usable_still g h l.params (additions_grow g sg grows) (stack_or_old g h p q f l sg sh fits named e) made_fits.taken (stack_identifiers g h p q f l sg sh fits named e) names;
        params = stack_has_own_name g h p q f l sg sh fits named e;
        link = Stack (form_table (form_of (entries_of h q.trees) f)) good.0 good.1 (linear_of (entries_of h q.trees) l);
        bisimilar = good.2;
      }

-- ---- why there is none
all_tail : (qs : List PlainEquation) → All (λ (q : PlainEquation). All HasTail q.summands) qs → All HasTail (all_summands qs)
all_tail [] all = All-nil HasTail
all_tail (q ∷ qs) all =
    let AreTail = λ (q : PlainEquation). All HasTail q.summands in
    All-append HasTail q.summands (all_summands qs) (All-head AreTail q qs all) (all_tail qs (All-tail AreTail q qs all))

two_calls_are_no_tail : (f : PlainForm) (k : ℕ) → IsFirstWithTwoCalls f k → ¬ (HasTails f)
two_calls_are_no_tail f k first tails =
    let one = All-contains HasTail (all_summands f.equations) first.summand (all_tail f.equations tails) (contains_read (all_summands f.equations) (k - 1) first.summand first.stands) in
    let two = first.calls in
    omega (arith, one, two)

is_regular : (m : Method) (f : PlainForm) (k : ℕ) → ¬ (UsesStack m f) → IsFirstWithTwoCalls f k → m ≡ method.Regular
is_regular method.Auto f k never first = absurd (never (two_calls_are_no_tail f k first))
is_regular method.Regular f k never first = refl
is_regular method.Stack f k never first = absurd (never tt)

pub uses_none : {uses : Bool} (m : Method) (f : PlainForm) → IsTrue uses ↔ UsesStack m f → uses ≡ false → ¬ (UsesStack m f)
uses_none {uses} m f tells unused its = clash (tells.1 its) unused
  where
    clash : uses ≡ true → uses ≡ false → ⊥
    clash p q = cc

pub columns_refused : {T : Type 0} (r : Result T EncodeFault) (m : Method) (f : PlainForm) → ¬ (UsesStack m f) → IfErr r (IsEncodeFaultOf f) → IfErr r (IsMethodFaultOf m f)
columns_refused (Ok x) m f never has = tt
columns_refused (Err (NotTail k)) m f never has = (is_regular m f k never has, has)
columns_refused (Err NoMemory) m f never has = tt
