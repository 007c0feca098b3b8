-- What is composed of plainly conditioned linear processes along a network is plainly conditioned.
use Rattle.std.proofs.Common.{◌≡◌, ◌<◌, ℕ, zero, suc, List, [], ◌∷◌, map, length, get_or, sym, ap, ◌∙◌, subst, arith, Option}
use Rattle.std.specs.Global.{Global, Box}
use Rattle.std.specs.List.{All}
use Rattle.std.specs.Prelude.{IfOk, Result, Ok, Err, Vec}
use Rattle.std.proofs.lemmas.List.Elements.{All-head, All-tail, All-weaker}
use Rattle.data_theory.specs.Signature.{Sig}
use Rattle.data_theory.specs.WholeSignatures.{IsSignature}
use Rattle.data_theory.specs.IdTerms.{IsGrown}
use Rattle.data_theory.specs.IdTrees.{Tree}
use Rattle.data_theory.proofs.IdGrowthLemmas.{growth_after_growth_is_growth}
use Rattle.term_pool.specs.Pools.{PoolContents, Extends}
use Rattle.process_terms.specs.Meanings.{rule_of}
use Rattle.process_terms.specs.PlainProcesses.{PlainAction, PlainAround, PlainRule, comm}
use Rattle.process_terms.specs.SignatureEntries.{entries_of}
use Rattle.lps_core.specs.declared.linears.Linear.{Linear}
use Rattle.lps_core.specs.Fitting.{Fits}
use Rattle.lps_core.specs.MadeTerms.{Written}
use Rattle.lps_core.specs.Naming.{GrowsByNames}
use Rattle.lps_core.specs.PlainLinears.{PlainLinear, plain_linear, linear_of}
use Rattle.lps_core.proofs.Staying.{what_fits_stays}
use Rattle.action_filters.specs.Filters.{with_labels}
use Rattle.communication.specs.Communicated.{communicating}
use Rattle.proc_unfold.specs.declared.networks.NetOp.{NetOp}
use Rattle.proc_unfold.specs.declared.networks.Network.{Network}
use Rattle.proc_unfold.specs.declared.networks.Network.TheVariants as nets
use Rattle.proc_unfold.specs.Networks.{PlainNetwork, side_by_side, left_merge, networks_of, plain_network, plain_operator}
use Rattle.proc_unfold.proofs.ProcessSteps.{side_step, under_step}
use Rattle.greibach.proofs.GrownFits.{both_by_names, pool_alone}
use Rattle.lin_driver.specs.NetworkProducts.{IsJoint}
use Rattle.lin_driver.specs.declared.scopes.Sign.{Sign}
use Rattle.lin_driver.specs.declared.scopes.Sign.TheVariants as signs
use Rattle.lin_driver.specs.NetworkScopes.{PlainSign, merging, beginning}
use Rattle.lin_driver.specs.PlainlyMade.{IsPlainFor, IsCommWritten, AreCommsWritten, AreCommsWrittenBeside, StaysPlainAround, ComposesPlainly}
use Rattle.lin_driver.proofs.ComposedNetworks.{all_with}
use Rattle.lin_driver.proofs.JointLinears.{joint_made}
use Rattle.lin_driver.proofs.PlainBeside.{product_is_plain}
use Rattle.lin_driver.proofs.PlainCommunications.{communication_is_plain}
use Rattle.lin_driver.proofs.PlainFilters.{KeepsArguments, filter_is_plain}
use Rattle.lin_driver.proofs.PlainGrowing.{plain_on}
use Rattle.lin_driver.proofs.PlainStarts.{start_is_plain}

-- ---- an operator
pub filtered_around : {E : Type 0} (r : Result Linear E) (g : Sig) (q : PoolContents) (a : PlainAround) (l : PlainLinear) (f : List PlainAction → Option (List PlainAction)) → KeepsArguments (entries_of g q.trees) f → Fits g q.trees l
    → IfOk r (λ made. plain_linear made ≡ with_labels f l) → IfOk r (λ made. (ts : List Tree) → Fits g ts l → Fits g ts (plain_linear made)) → IfOk r (λ made. StaysPlainAround g q q a l (plain_linear made))
filtered_around (Ok x) g q a l f keeps own is fits = λ s w c k. subst (IsPlainFor s g q w) (sym is) (filter_is_plain s g q w l f keeps (subst (Fits g q.trees) is (fits q.trees own)) k)
filtered_around (Err x) g q a l f keeps own is fits = tt

pub communicated_around : {E : Type 0} (r : Result Linear E) (g : Sig) (p q : PoolContents) (a : PlainAround) (cs : List PlainRule) (l : PlainLinear) → a ≡ comm cs → IsSignature g → Extends p.trees q.trees → Fits g p.trees l → IfOk r (λ made. (plain_linear made).params ≡ l.params)
    → IfOk r (λ made. (plain_linear made).init ≡ l.init) → IfOk r (λ made. linear_of (entries_of g q.trees) (plain_linear made) ≡ communicating (map (rule_of (entries_of g p.trees)) cs) (linear_of (entries_of g p.trees) l))
    → IfOk r (λ made. Fits g q.trees (plain_linear made)) → IfOk r (λ made. StaysPlainAround g p q a l (plain_linear made))
communicated_around (Ok x) g p q a cs l is stands kept own params init summands fits = λ s w c k.
    let grow = pool_alone g p.trees q.trees kept in
    let rules = map (rule_of (entries_of g p.trees)) cs in
    let same = (what_fits_stays g g p.trees q.trees l stands.table stands.complete grow own).0 in
    communication_is_plain s g q w l (plain_linear x) rules (subst (IsCommWritten w) is c) params init (summands ∙ ap (communicating rules) (sym same)) fits (plain_on s g g p q w l stands stands grow k)
communicated_around (Err x) g p q a cs l is stands kept own params init summands fits = tt

pub operator_plainly : (g h : Sig) (p q r : PoolContents) (n : Network) (a : NetOp) (b : Box Network) (m : Network) (queue left : List PlainLinear) (l k : PlainLinear) → n ≡ nets.Op a b → m ≡ b.value → IsSignature h → Extends q.trees r.trees
    → ComposesPlainly g p (plain_network m) queue h q left l → StaysPlainAround h q r (plain_operator a) l k → ComposesPlainly g p (plain_network n) queue h r left k
operator_plainly g h p q r n a b m queue left l k is part sh kept f stays s w since comms all =
    let written : IsCommWritten w (plain_operator a) × AreCommsWritten w (plain_network b.value) = subst (AreCommsWritten w) (ap plain_network is ∙ under_step a b) comms in
    let inner = f s w since (subst (λ z. AreCommsWritten w (plain_network z)) (sym part) written.1) all in
    (stays s w written.0 inner.0, All-weaker (IsPlainFor s h q w) (IsPlainFor s h r w) (λ x i. plain_on s h h q r w x sh sh (pool_alone h q.trees r.trees kept) i) left inner.1)

-- ---- the first linear process
pub taken_plainly : (g : Sig) (p : PoolContents) (n : PlainNetwork) (queue left : List PlainLinear) (l : PlainLinear) → queue ≡ l ∷ left → ComposesPlainly g p n queue g p left l
taken_plainly g p n queue left l is s w since comms all =
    let own = subst (All (IsPlainFor s g p w)) is all in
    (All-head (IsPlainFor s g p w) l left own, All-tail (IsPlainFor s g p w) l left own)

-- ---- side by side
pub beside_plainly : (g h : Sig) (p q : PoolContents) (n : Network) (ns : Vec Network Global) (items : List Network) (queue left : List PlainLinear) (l : PlainLinear) → n ≡ nets.Merge ns → items ≡ ns.items → ComposesPlainly g p (side_by_side (networks_of (map plain_network items))) queue h q left l
    → ComposesPlainly g p (plain_network n) queue h q left l
beside_plainly g h p q n ns items queue left l is e f s w since comms all =
    f s w since (subst (λ zs. AreCommsWritten w (side_by_side (networks_of (map plain_network zs)))) (sym e) (subst (AreCommsWritten w) (ap plain_network is ∙ side_step ns) comms)) all

-- a left merge, or networks with `|` between them
pub whole_plainly : (g h : Sig) (p q : PoolContents) (n m : PlainNetwork) (queue left : List PlainLinear) (l : PlainLinear) → n ≡ m → ComposesPlainly g p m queue h q left l → ComposesPlainly g p n queue h q left l
whole_plainly g h p q n m queue left l is f = subst (λ z. ComposesPlainly g p z queue h q left l) (sym is) f

-- ---- which `comm` are written
-- where they are for a whole, they are for one of its parts
abbrev pub CommsGoTo : PlainNetwork → PlainNetwork → Type 0
CommsGoTo whole n = (w : Written) → AreCommsWritten w whole → AreCommsWritten w n

comms_at : (w : Written) (xs : List Network) (i : ℕ) (x : Network) → i < length xs → x ≡ get_or xs i x → AreCommsWrittenBeside w (networks_of (map plain_network xs)) → AreCommsWritten w (plain_network x)
comms_at w [] i x l is h = absurd (omega (arith, l))
comms_at w (y ∷ xs) zero x l is h = subst (λ z. AreCommsWritten w (plain_network z)) (sym is) h.0
comms_at w (y ∷ xs) (suc i) x l is h = comms_at w xs i x (omega (arith, l)) is h.1

pub comms_go : (sign : Sign) (xs : List Network) (i : ℕ) (x : Network) → i < length xs → x ≡ get_or xs i x → CommsGoTo (all_with sign xs) (plain_network x)
comms_go (signs.Merge within) xs i x l is w h = comms_at w xs i x l is h
comms_go signs.Sync xs i x l is w h = comms_at w xs i x l is h

pub comms_go_first : (m n : PlainNetwork) → CommsGoTo (left_merge m n) m
comms_go_first m n w h = h.0

pub comms_go_second : (m n : PlainNetwork) → CommsGoTo (left_merge m n) n
comms_go_second m n w h = h.1

-- ---- one behind the other
joint_is_plain : (b : PlainSign) (s g h : Sig) (p q : PoolContents) (w : Written) (l r k : PlainLinear) → IsSignature g → IsGrown s g → GrowsByNames g h → Extends p.trees q.trees → Fits h q.trees k → IsJoint b g h q.trees l r k → IsPlainFor s g p w l → IsPlainFor s g p w r → IsPlainFor s h q w k
joint_is_plain (merging v) s g h p q w l r k old since by kept fits j before before' = let m = joint_made v g h q.trees l r k j in product_is_plain m.how m.part s g h p q w l r k old since by kept fits m.made before before'
joint_is_plain (beginning o) s g h p q w l r k old since by kept fits j before before' = start_is_plain o s g h p q w l r k old since by kept fits j before before'

pub first_plainly : (g h : Sig) (p q : PoolContents) (n whole : PlainNetwork) (queue left : List PlainLinear) (l : PlainLinear) → CommsGoTo whole n → ComposesPlainly g p n queue h q left l → ComposesPlainly g p whole queue h q left l
first_plainly g h p q n whole queue left l go f s w since comms all = f s w since (go w comms) all

pub next_plainly : (b : PlainSign) (g h i j : Sig) (p q r t : PoolContents) (n whole : PlainNetwork) (queue left rest : List PlainLinear) (l m k : PlainLinear) → CommsGoTo whole n → GrowsByNames g h → ComposesPlainly g p whole queue h q left l → GrowsByNames h i → Extends q.trees r.trees
    → ComposesPlainly h q n left i r rest m → GrowsByNames i j → Extends r.trees t.trees → Fits j t.trees k → IsJoint b i j t.trees l m k → ComposesPlainly g p whole queue j t rest k
next_plainly b g h i j p q r t n whole queue left rest l m k go gh so_far hi kept next ij kept' fits joint s w since comms all =
    let before = so_far s w since comms all in
    let sh = growth_after_growth_is_growth s g h since gh.grown in
    let si = growth_after_growth_is_growth s h i sh hi.grown in
    let one = next s w sh (go w comms) before.1 in
    let joined = plain_on s h i q r w l gh.stands hi.stands (both_by_names h i q.trees r.trees hi kept) before.0 in (
      joint_is_plain b s i j r t w l m k hi.stands si ij kept' fits joint joined one.0,
      All-weaker (IsPlainFor s i r w) (IsPlainFor s j t w) (λ y z. plain_on s i j r t w y hi.stands ij.stands (both_by_names i j r.trees t.trees ij kept') z) rest one.1,
    )
