-- Where no stack is needed, encodings add no sort.
use Rattle.std.proofs.Common.{◌≡◌, List, [], ◌∷◌, ◌++◌, ◌∙◌}
use Rattle.std.specs.List.{All}
use Rattle.std.proofs.lemmas.List.Elements.{All-contains, Contains-append_left, Contains-append_right}
use Rattle.data_theory.specs.Signature.{Sig}
use Rattle.term_pool.specs.Pools.{PoolContents}
use Rattle.process_terms.specs.PlainProcesses.{PlainModel, PlainComponent}
use Rattle.bisim_laws.proofs.Firing.{contains_first}
use Rattle.lps_core.specs.PlainLinears.{PlainLinear}
use Rattle.lps_core.proofs.Members.{all_from}
use Rattle.greibach.specs.ComponentForms.{IsFormOf}
use Rattle.greibach.specs.PlainForms.{PlainForm}
use Rattle.lin_driver.specs.AddedSorts.{NeedsNoStack}
use Rattle.lin_driver.specs.MethodForms.{UsesStack, IsEncodedBy, by_columns, by_stack}
use Rattle.lin_driver.specs.declared.methods.Method.{Method}
use Rattle.lin_driver.specs.declared.methods.Method.TheVariants as method
use Rattle.lin_driver.proofs.ConstantGrowth.{encoding_grows}

not_used : (by : Method) (g : Sig) (q : PoolContents) (m : PlainModel) (c : PlainComponent) (f : PlainForm) → NeedsNoStack by m c → IsFormOf g q.trees m c f → UsesStack by f → ⊥
not_used method.Auto g q m c f none is used = used (none g q.trees f is)
not_used method.Regular g q m c f none is used = used
not_used method.Stack g q m c f none is used = none

pub leaf_adds_no_sort : (by : Method) (g d h : Sig) (q r : PoolContents) (m : PlainModel) (c : PlainComponent) (f : PlainForm) (l : PlainLinear) → d.sorts ≡ g.sorts → IsFormOf d q.trees m c f → IsEncodedBy by d q h r f l → NeedsNoStack by m c → h.sorts ≡ g.sorts
leaf_adds_no_sort by g d h q r m c f l same is (by_columns unused e) none = (encoding_grows d h q r f l e).grows.sorts ∙ same
leaf_adds_no_sort by g d h q r m c f l same is (by_stack used e) none = absurd (not_used by d q m c f none is used)

-- one more component
pub front_of : (P : PlainComponent → Type 0) (cs ds : List PlainComponent) → All P (cs ++ ds) → All P cs
front_of P cs ds h = all_from P cs (λ c i. All-contains P (cs ++ ds) c h (Contains-append_left cs ds c i))

pub last_of : (P : PlainComponent → Type 0) (cs : List PlainComponent) (c : PlainComponent) → All P (cs ++ c ∷ []) → P c
last_of P cs c h = All-contains P (cs ++ c ∷ []) c h (Contains-append_right cs (c ∷ []) c (contains_first c []))
