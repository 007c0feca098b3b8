use Rattle.std.proofs.Common.{◌≡◌, List, map, sym, ap, ◌∙◌, subst, refl}
use Rattle.mcrl2_syntax.specs.Declarations.{spec_of}
use Rattle.sort_table.specs.BareDeclarations.{Declaration}
use Rattle.sort_table.specs.DeclarationTrees.{declarations_of_text, declarations_under}
use Rattle.bisim_laws.specs.Terminations.{terminate_name}
use Rattle.lin_driver.specs.Headline.{DeclareNoAction}
use Rattle.lin_driver.specs.Refusals.{IsFirstOfAction}
use Rattle.lin_driver.specs.declared.ending.Ending.TheVariants.{Terminate}
use Rattle.lin_driver.specs.declared.fault.LinFault.TheVariants.{NoMemory}
use Rattle.lin_driver.proofs.Refused.{is_told, no_fault_parsed, no_fault_by_each, none_ok}
use Rattle.lin_driver.proofs.terminating.refuse_terminate.Goals as goal

pub returns-in-Some : goal.returns-in-Some
returns-in-Some c =
    let same : declarations_under c.as_slice.result.now ≡ declarations_of_text c.args.spec.now = ap declarations_under c.as_slice.ensures.value ∙ c.in_ok-declarations.ensures in
    record {
      leaves = tt;
      refused = λ some text texts parsed. record { spec = spec_of c.args.spec.now; parsed = parsed; first = subst (λ (ds : List Declaration). IsFirstOfAction terminate_name ds c.in-Some.number) same c.in-Some.ensures };
      by = λ method. refl;
    }

pub returns-in_err-declarations : goal.returns-in_err-declarations
returns-in_err-declarations c =
    let none = is_told c.from_residual.result (λ fault. fault ≡ NoMemory) c.from_residual.ensures.1 in
    record {
      leaves = none_ok c.from_residual.result (DeclareNoAction terminate_name (declarations_of_text c.args.spec.now)) (λ fault. fault ≡ NoMemory) c.from_residual.ensures.1;
      refused = no_fault_parsed c.from_residual.result (spec_of c.args.spec.now) none;
      by = no_fault_by_each c.from_residual.result Terminate none;
    }
