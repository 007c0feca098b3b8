-- Links one behind the other, over theories that go on.
use Rattle.std.proofs.Common.{◌≡◌, subst}
use Rattle.data_theory.specs.Signature.{Sig}
use Rattle.data_theory.specs.WholeSignatures.{IsSignature}
use Rattle.data_theory.specs.IdTerms.{IsGrown}
use Rattle.process_terms.specs.Theories.{Theory}
use Rattle.process_terms.specs.Processes.{Process}
use Rattle.bisim_laws.specs.Links.{Link, Same, Then, Pairs, IsGood}
use Rattle.bisim_laws.proofs.ComposedLinks.{same_good, then_good}
use Rattle.lps_core.specs.GoingOn.{IsGoodOver}
use Rattle.lps_core.proofs.GrowingData.{good_stay_good}

-- where a signature has grown
pub then_over : (g h : Sig) → IsSignature g → IsSignature h → IsGrown g h → (k l : Link) (p q r s : Process) → q ≡ r → IsGoodOver g k p q → IsGoodOver h l r s → IsGoodOver h (Then k l) p s
then_over g h sg sh grown k l p q r s same a b th on con =
    then_good th k l p r s (subst (λ z. IsGood th k p z) same (good_stay_good g h sg.table sg.roles sh.roles grown k p q a th on con)) (b th on con)

pub same_over : (h : Sig) (p q : Process) → ((th : Theory) → Pairs th Same p q) → IsGoodOver h Same p q
same_over h p q same th on con = same_good th p q (same th)
