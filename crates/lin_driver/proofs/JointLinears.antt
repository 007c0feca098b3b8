-- Two linear processes with a sign between them: what is made of the sides as their product is, that links to them lead to it, and which names it has.
use Rattle.std.proofs.Common.{◌≡◌, Bool, List, refl, sym, subst}
use Rattle.std.specs.Prelude.{Contains, IfOk, Result, Ok, Err}
use Rattle.data_theory.specs.Signature.{Sig}
use Rattle.data_theory.specs.WholeSignatures.{IsSignature}
use Rattle.data_theory.specs.IdTrees.{Tree}
use Rattle.process_terms.specs.Names.{Name}
use Rattle.process_terms.specs.Processes.{Start, merge, starting}
use Rattle.process_terms.specs.SignatureEntries.{entries_of}
use Rattle.bisim_laws.specs.BaseStates.{Side}
use Rattle.bisim_laws.specs.LinearProcesses as theory
use Rattle.bisim_laws.specs.Links.{Beside, Begun}
use Rattle.bisim_laws.specs.Scopes as scopes
use Rattle.bisim_laws.proofs.ComposedLinks.{beside_good, begun_good}
use Rattle.lps_core.specs.Fitting.{Fits}
use Rattle.lps_core.specs.GoingOn.{IsGoodOver, IsGoodOverWithin}
use Rattle.lps_core.specs.declared.linears.Linear.{Linear}
use Rattle.lps_core.specs.Naming.{ParamsHaveOwnNames}
use Rattle.lps_core.specs.PlainLinears.{PlainLinear, plain_linear, linear_of, linear_state}
use Rattle.lps_core.proofs.GrowingData.{good_over_within, good_for_all}
use Rattle.lps_core.proofs.Members.{in_contains, contains_in}
use Rattle.summand_expander.specs.Product.{product}
use Rattle.summand_expander.specs.Pruned.{can_stay, ends, product_within}
use Rattle.summand_expander.specs.PlainAllowed.{PlainAllowed}
use Rattle.summand_expander.specs.WholeFirstSteps.{IsGoodProductFrom}
use Rattle.summand_expander.specs.WholeProducts.{IsMadeOfSides, IsProduct, IsGoodProduct}
use Rattle.summand_expander.specs.WithinProducts.{scope_of, IsProductWithin, IsGoodProductWithin}
use Rattle.summand_expander.proofs.KeptElements.{pruned_among}
use Rattle.summand_expander.proofs.MeantWithin.{products_good}
use Rattle.lin_driver.specs.NetworkProducts.{IsJoint}
use Rattle.lin_driver.specs.NetworkScopes.{PlainScope, everything, completable, scope_meant, PlainSign, merging, beginning}
use Rattle.lin_driver.specs.Parts.{LeadsWithin, LeadsBeside}
use Rattle.lin_driver.specs.TakenNames.{HaveIdentifiers}
use Rattle.lin_driver.proofs.NetworkScopes.{parts_matter}
use Rattle.lin_driver.proofs.ProductNames.{IsPartOfProduct, whole_product, product_params_have_own_names, product_named}
use Rattle.lin_driver.proofs.StartedNames.{started_params_have_own_names, started_named}

-- ---- how it is made
-- as the product is, with some of its summands
pub record IsMadeJoint (g h : Sig) (us : List Tree) (l r k : PlainLinear) : Type 0 where
  pub how : Side → Side → theory.Linear
  pub part : IsPartOfProduct how
  pub made : IsMadeOfSides how g h us l r k

within_is_part : (can : List Name → Bool) → IsPartOfProduct (product_within can)
within_is_part can = record {
  params = λ a b. refl;
  among = λ a b s i.
      let ss = (product a b).summands in
      in_contains (pruned_among (can_stay can) ends ss s (contains_in (product_within can a b).summands i));
}

pub joint_made : (w : PlainScope) (g h : Sig) (us : List Tree) (l r k : PlainLinear) → IsJoint (merging w) g h us l r k → IsMadeJoint g h us l r k
joint_made everything g h us l r k j = record { how = product; part = whole_product; made = j }
joint_made (completable a) g h us l r k j = record { how = product_within j.can; part = within_is_part j.can; made = j.made }

-- ---- names
pub joint_params_have_own_names : (b : PlainSign) (g h : Sig) (ts us : List Tree) (l r k : PlainLinear) → IsSignature g → Fits g ts l → Fits g ts r → IsJoint b g h us l r k → ParamsHaveOwnNames g l.params → ParamsHaveOwnNames g r.params → ParamsHaveOwnNames h k.params
joint_params_have_own_names (merging w) g h ts us l r k s fl fr j = let m = joint_made w g h us l r k j in product_params_have_own_names m.how m.part g h ts us l r k s fl fr m.made
joint_params_have_own_names (beginning o) g h ts us l r k s fl fr j = started_params_have_own_names o g h ts us l r k s fl fr j

pub joint_named : (b : PlainSign) (g h : Sig) (ts us : List Tree) (l r k : PlainLinear) → IsSignature g → Fits g ts l → Fits g ts r → IsJoint b g h us l r k → HaveIdentifiers g → HaveIdentifiers h
joint_named (merging w) g h ts us l r k s fl fr j = let m = joint_made w g h us l r k j in product_named m.how m.part g h ts us l r k s fl fr m.made
joint_named (beginning o) g h ts us l r k s fl fr j = started_named o g h ts us l r k s fl fr j

-- ---- links
pub product_leads : (h : Sig) (us : List Tree) (l r k : PlainLinear) → IsGoodProduct h us l r k → LeadsWithin scopes.everything (merging everything) h us l r k
product_leads h us l r k good i j p q x y =
    let e = entries_of h us in
    let m = linear_of e k in
    let left = good_for_all h i p (linear_state e l) x in
    let right = good_for_all h j q (linear_state e r) y in
    let whole : IsGoodOver h (Beside good.left good.right m i j) (merge p q) (linear_state e k) =
    λ th on con. beside_good th good.left good.right m i j p (linear_state e l) q (linear_state e r) (linear_state e k) (left th on con) (right th on con) (good.good th on con) in
    (Beside good.left good.right m i j, good_over_within h scopes.everything (Beside good.left good.right m i j) (merge p q) (linear_state e k) whole)

pub start_leads : (o : Start) (h : Sig) (us : List Tree) (l r k : PlainLinear) → IsGoodProductFrom o h us l r k → LeadsBeside (beginning o) h us l r k
start_leads o h us l r k good i j p q x y =
    let e = entries_of h us in
    let m = linear_of e k in
    let left = good_for_all h i p (linear_state e l) x in
    let right = good_for_all h j q (linear_state e r) y in
    let whole : IsGoodOver h (Begun o good.left good.right m i j) (starting o p q) (linear_state e k) =
    λ th on con. begun_good th o good.left good.right m i j p (linear_state e l) q (linear_state e r) (linear_state e k) (left th on con) (right th on con) (good.good th on con) in
    (Begun o good.left good.right m i j, good_over_within h scopes.everything (Begun o good.left good.right m i j) (starting o p q) (linear_state e k) whole)

pub part_leads : (h : Sig) (us : List Tree) (w : PlainScope) (l r k : PlainLinear) → IsGoodProductWithin h us (scope_meant (entries_of h us) w) l r k → LeadsBeside (merging w) h us l r k
part_leads h us w l r k good i j p q x y = products_good h us (scope_meant (entries_of h us) w) (parts_matter (entries_of h us) w) l r k good i j p q x y

-- ---- what calls answer
pub product_is_joint : {E : Type 0} (h : Sig) (us : List Tree) (l r : PlainLinear) (w : PlainScope) (g : Sig) (made : Result Linear E) → w ≡ everything → IfOk made (λ k. IsProduct g h us l r (plain_linear k)) → IfOk made (λ k. IsJoint (merging w) g h us l r (plain_linear k))
product_is_joint h us l r w g (Ok x) is k = subst (λ z. IsJoint (merging z) g h us l r (plain_linear x)) (sym is) k
product_is_joint h us l r w g (Err x) is k = tt

pub product_joins : {E : Type 0} (h : Sig) (us : List Tree) (l r : PlainLinear) (w : PlainScope) (made : Result Linear E) → w ≡ everything → IfOk made (λ k. IsGoodProduct h us l r (plain_linear k)) → IfOk made (λ k. LeadsBeside (merging w) h us l r (plain_linear k))
product_joins h us l r w (Ok x) is k = subst (λ z. LeadsBeside (merging z) h us l r (plain_linear x)) (sym is) (product_leads h us l r (plain_linear x) k)
product_joins h us l r w (Err x) is k = tt

pub part_is_joint : {E : Type 0} (h : Sig) (us : List Tree) (l r : PlainLinear) (w : PlainScope) (g : Sig) (a : PlainAllowed) (made : Result Linear E) → w ≡ completable a → IfOk made (λ k. IsProductWithin g h us (scope_of (entries_of h us) a) l r (plain_linear k)) → IfOk made (λ k. IsJoint (merging w) g h us l r (plain_linear k))
part_is_joint h us l r w g a (Ok x) is k = subst (λ z. IsJoint (merging z) g h us l r (plain_linear x)) (sym is) k
part_is_joint h us l r w g a (Err x) is k = tt

pub part_joins : {E : Type 0} (h : Sig) (us : List Tree) (l r : PlainLinear) (w : PlainScope) (a : PlainAllowed) (made : Result Linear E) → w ≡ completable a → IfOk made (λ k. IsGoodProductWithin h us (scope_of (entries_of h us) a) l r (plain_linear k)) → IfOk made (λ k. LeadsBeside (merging w) h us l r (plain_linear k))
part_joins h us l r w a (Ok x) is k = subst (λ z. LeadsBeside (merging z) h us l r (plain_linear x)) (sym is) (part_leads h us (completable a) l r (plain_linear x) k)
part_joins h us l r w a (Err x) is k = tt

pub is_joint : {E : Type 0} (h : Sig) (us : List Tree) (l r : PlainLinear) (b c : PlainSign) (g : Sig) (made : Result Linear E) → b ≡ c → IfOk made (λ k. IsJoint c g h us l r (plain_linear k)) → IfOk made (λ k. IsJoint b g h us l r (plain_linear k))
is_joint h us l r b c g (Ok x) is k = subst (λ z. IsJoint z g h us l r (plain_linear x)) (sym is) k
is_joint h us l r b c g (Err x) is k = tt

pub joins : {E : Type 0} (h : Sig) (us : List Tree) (l r : PlainLinear) (b c : PlainSign) (made : Result Linear E) → b ≡ c → IfOk made (λ k. LeadsBeside c h us l r (plain_linear k)) → IfOk made (λ k. LeadsBeside b h us l r (plain_linear k))
joins h us l r b c (Ok x) is k = subst (λ z. LeadsBeside z h us l r (plain_linear x)) (sym is) k
joins h us l r b c (Err x) is k = tt

pub start_joins : {E : Type 0} (o : Start) (h : Sig) (us : List Tree) (l r : PlainLinear) (made : Result Linear E) → IfOk made (λ k. IsGoodProductFrom o h us l r (plain_linear k)) → IfOk made (λ k. LeadsBeside (beginning o) h us l r (plain_linear k))
start_joins o h us l r (Ok x) k = start_leads o h us l r (plain_linear x) k
start_joins o h us l r (Err x) k = tt
