-- Networks in code, composed step by step.
use Rattle.std.proofs.Common.{◌≡◌, ◌==◌, ◌≤◌, ◌<◌, ◌+◌, ℕ, zero, suc, Bool, true, false, List, [], ◌∷◌, map, drop, length, get_or, refl, sym, ap, ap₂, subst, ◌∙◌, arith}
use Rattle.std.specs.Global.{Global, Box}
use Rattle.std.specs.Prelude.{IfOk, Result, Ok, Err, Vec}
use Rattle.std.proofs.lemmas.Bool.Decides.{Decides-eqb}
use Rattle.std.proofs.lemmas.List.{drop_more, drop_all}
use Rattle.data_theory.specs.Signature.{Sig}
use Rattle.data_theory.specs.WholeSignatures.{IsSignature}
use Rattle.data_theory.specs.IdTrees.{Tree}
use Rattle.term_pool.specs.Pools.{Extends}
use Rattle.process_terms.specs.Meanings.{rule_of}
use Rattle.process_terms.specs.PlainProcesses.{delta, PlainAround, comm, PlainRule, PlainComponent, plain_component, term_of}
use Rattle.process_terms.specs.Processes as written
use Rattle.process_terms.specs.declared.components.Component.{Component}
use Rattle.lps_core.specs.declared.linears.Linear.{Linear}
use Rattle.lps_core.specs.Fitting.{Fits}
use Rattle.lps_core.specs.Naming.{GrowsByNames}
use Rattle.lps_core.specs.PlainLinears.{PlainLinear, plain_linear, linear_of}
use Rattle.process_terms.specs.SignatureEntries.{entries_of}
use Rattle.lps_core.proofs.NamedSums.{names_then}
use Rattle.lps_core.proofs.PoolTrees.{extends_on}
use Rattle.action_filters.specs.Filters.{IsGoodAround}
use Rattle.communication.specs.Communicated.{communicating}
use Rattle.summand_expander.specs.StartedProducts.{IsProductFrom}
use Rattle.summand_expander.specs.WholeFirstSteps.{IsGoodProductFrom}
use Rattle.proc_unfold.specs.declared.networks.NetOp.{NetOp}
use Rattle.proc_unfold.specs.declared.networks.Network.{Network}
use Rattle.proc_unfold.specs.declared.networks.Network.TheVariants as nets
use Rattle.proc_unfold.specs.Networks.{PlainNetwork, PlainNetworks, leaf, side_by_side, left_merge, sync, under, no_networks, more_networks, networks_of, plain_network, plain_operator}
use Rattle.proc_unfold.proofs.ProcessSteps.{leaf_step, side_step, left_merged_step, synced_step, under_step}
use Rattle.lin_driver.specs.FittingOperators.{OperatorFits}
use Rattle.lin_driver.specs.NetworkProducts.{IsJoint, IsAround, ComposedFrom, that_of_the_leaf, that_of_none, that_of_no_sync, left_merged_with, synced_with, under_an_operator, JoinedWith, with_none, with_one_more}
use Rattle.lin_driver.specs.declared.scopes.Sign.{Sign}
use Rattle.lin_driver.specs.declared.scopes.Sign.TheVariants as signs
use Rattle.lin_driver.specs.NetworkScopes.{PlainScope, everything, scope_meant, ScopeFits, below, PlainSign, beginning, around_sign, beside_sign, plain_sign, networks_with}
use Rattle.lin_driver.specs.Parts.{Origin, entries_in, network_in, HasParts, CanBeComposed, HasItsParts, Composes, LeadsBeside}
use Rattle.lin_driver.proofs.ComposedParts.{IsFirstOf, of_a_merge, of_a_left_merge, of_a_sync, whole_composed, CanBeJoined, scope_fits_now, since_then, leaf_composed, there_is_one, inside_can, operator_can, under_composed, all_can, composed_for_some, first_can, first_joined, next_can, so_far_fits, next_joined, all_joined}
use Rattle.lin_driver.proofs.JointLinears.{start_leads}

-- ---- a leaf
some_in_front : (o : Origin) (g : Sig) (ts : List Tree) (c : PlainComponent) (items : List Linear) (rest : List PlainLinear) → HasParts o g ts (c ∷ []) (map plain_linear items) rest → 0 < length items
some_in_front o g ts c [] rest k = absurd (there_is_one o g ts c [] rest k refl)
some_in_front o g ts c (l ∷ items) rest k = omega arith

pub leaf_has_one : (w : PlainScope) (g : Sig) (ts : List Tree) (n : Network) (c : Component) (items : List Linear) → n ≡ nets.Leaf c → HasItsParts w g ts (plain_network n) (map plain_linear items) → 0 < length items
leaf_has_one w g ts n c items is k =
    let can = subst (λ m. CanBeComposed k.0 w g ts m (map plain_linear items) k.1) (ap plain_network is ∙ leaf_step c) k.2 in
    some_in_front k.0 g ts (plain_component c) items k.1 can.parts

pub leaf_composes : (w : PlainScope) (g : Sig) (ts : List Tree) (n : Network) (c : Component) (queue left : List PlainLinear) (l : PlainLinear) → n ≡ nets.Leaf c → queue ≡ l ∷ left → Composes w g ts (plain_network n) queue g ts left l
leaf_composes w g ts n c queue left l is e =
    subst (λ m. Composes w g ts m queue g ts left l) (sym (ap plain_network is ∙ leaf_step c))
    (λ o rest can. leaf_composed o (scope_meant (entries_in o) w) g ts (plain_component c) queue left rest l can.identifiers can.parts e)

pub leaf_composed_from : (w : PlainScope) (g : Sig) (ts : List Tree) (n : Network) (c : Component) (queue left : List PlainLinear) (l : PlainLinear) → n ≡ nets.Leaf c → queue ≡ l ∷ left → ComposedFrom w g ts (plain_network n) queue g ts left l
leaf_composed_from w g ts n c queue left l is e =
    subst (λ m. ComposedFrom w g ts m queue g ts left l) (sym (ap plain_network is ∙ leaf_step c)) (subst (λ ls. ComposedFrom w g ts (leaf (plain_component c)) ls g ts left l) (sym e) that_of_the_leaf)

-- ---- an operator
pub operator_parts : (w v : PlainScope) (g : Sig) (ts : List Tree) (n : Network) (a : NetOp) (b : Box Network) (m : Network) (queue : List PlainLinear) → n ≡ nets.Op a b → m ≡ b.value → v ≡ below (plain_operator a) w → HasItsParts w g ts (plain_network n) queue
    → HasItsParts v g ts (plain_network m) queue
operator_parts w v g ts n a b m queue is part scope k =
    let can = subst (λ m. CanBeComposed k.0 w g ts m queue k.1) (ap plain_network is ∙ under_step a b) k.2 in
    (k.0, k.1, subst (λ z. CanBeComposed k.0 v g ts (plain_network z) queue k.1) (sym part) (subst (λ z. CanBeComposed k.0 z g ts (plain_network b.value) queue k.1) (sym scope) (inside_can k.0 w g ts (plain_operator a) (plain_network b.value) queue k.1 can)))

pub part_fits : (w : PlainScope) (g h : Sig) (ts us : List Tree) (n : PlainNetwork) (queue left : List PlainLinear) (l : PlainLinear) → HasItsParts w g ts n queue → Composes w g ts n queue h us left l → Fits h us l
part_fits w g h ts us n queue left l k f = (f k.0 k.1 k.2).linear.fits

pub operator_fits_then : (w : PlainScope) (g h : Sig) (ts : List Tree) (n : Network) (a : NetOp) (b : Box Network) (queue : List PlainLinear) → n ≡ nets.Op a b → GrowsByNames g h → HasItsParts w g ts (plain_network n) queue → OperatorFits h (plain_operator a)
operator_fits_then w g h ts n a b queue is by k =
    let can = subst (λ m. CanBeComposed k.0 w g ts m queue k.1) (ap plain_network is ∙ under_step a b) k.2 in
    operator_can k.0 w g h ts (plain_operator a) (plain_network b.value) queue k.1 can by

pub operator_composes : (w v : PlainScope) (g h : Sig) (ts us vs : List Tree) (n : Network) (a : NetOp) (b : Box Network) (m : Network) (queue left : List PlainLinear) (l k : PlainLinear) → n ≡ nets.Op a b → m ≡ b.value → v ≡ below (plain_operator a) w → GrowsByNames g h
    → Composes v g ts (plain_network m) queue h us left l → Extends us vs → k.params ≡ l.params → Fits h vs k → IsGoodAround h vs (plain_operator a) l k → Composes w g ts (plain_network n) queue h vs left k
operator_composes w v g h ts us vs n a b m queue left l k is part scope by f kept params fits good =
    let own = subst (λ z. Composes z g ts (plain_network b.value) queue h us left l) scope (subst (λ z. Composes v g ts (plain_network z) queue h us left l) part f) in
    subst (λ m. Composes w g ts m queue h vs left k) (sym (ap plain_network is ∙ under_step a b))
    (λ o rest can. under_composed o w g h ts us vs (plain_operator a) (plain_network b.value) queue left rest l k can by own kept fits params good)

pub operator_composed_from : (w v : PlainScope) (g h : Sig) (ts us vs : List Tree) (n : Network) (a : NetOp) (b : Box Network) (m : Network) (queue left : List PlainLinear) (l k : PlainLinear) → n ≡ nets.Op a b → m ≡ b.value → v ≡ below (plain_operator a) w
    → ComposedFrom v g ts (plain_network m) queue h us left l → Extends us vs → Fits h vs k → IsAround h us vs (plain_operator a) l k → ComposedFrom w g ts (plain_network n) queue h vs left k
operator_composed_from w v g h ts us vs n a b m queue left l k is part scope f kept fits made =
    let own = subst (λ z. ComposedFrom z g ts (plain_network b.value) queue h us left l) scope (subst (λ z. ComposedFrom v g ts (plain_network z) queue h us left l) part f) in
    subst (λ m. ComposedFrom w g ts m queue h vs left k) (sym (ap plain_network is ∙ under_step a b)) (under_an_operator own kept fits made)

-- ---- networks with a sign between them
pub beside_parts : (w : PlainScope) (g : Sig) (ts : List Tree) (n : Network) (ns : Vec Network Global) (items : List Network) (queue : List PlainLinear) → n ≡ nets.Merge ns → items ≡ ns.items → HasItsParts w g ts (plain_network n) queue
    → HasItsParts w g ts (side_by_side (networks_of (map plain_network items))) queue
beside_parts w g ts n ns items queue is e k =
    (k.0, k.1, subst (λ zs. CanBeComposed k.0 w g ts (side_by_side (networks_of (map plain_network zs))) queue k.1) (sym e) (subst (λ m. CanBeComposed k.0 w g ts m queue k.1) (ap plain_network is ∙ side_step ns) k.2))

pub beside_composes : (w : PlainScope) (g h : Sig) (ts us : List Tree) (n : Network) (ns : Vec Network Global) (items : List Network) (queue left : List PlainLinear) (l : PlainLinear) → n ≡ nets.Merge ns → items ≡ ns.items
    → Composes w g ts (side_by_side (networks_of (map plain_network items))) queue h us left l → Composes w g ts (plain_network n) queue h us left l
beside_composes w g h ts us n ns items queue left l is e f =
    subst (λ m. Composes w g ts m queue h us left l) (sym (ap plain_network is ∙ side_step ns)) (subst (λ zs. Composes w g ts (side_by_side (networks_of (map plain_network zs))) queue h us left l) e f)

pub beside_composed_from : (w : PlainScope) (g h : Sig) (ts us : List Tree) (n : Network) (ns : Vec Network Global) (items : List Network) (queue left : List PlainLinear) (l : PlainLinear) → n ≡ nets.Merge ns → items ≡ ns.items
    → ComposedFrom w g ts (side_by_side (networks_of (map plain_network items))) queue h us left l → ComposedFrom w g ts (plain_network n) queue h us left l
beside_composed_from w g h ts us n ns items queue left l is e f =
    subst (λ m. ComposedFrom w g ts m queue h us left l) (sym (ap plain_network is ∙ side_step ns)) (subst (λ zs. ComposedFrom w g ts (side_by_side (networks_of (map plain_network zs))) queue h us left l) e f)

-- a network in code that is a left merge, or networks with `|` between them
pub left_merged_is : (n : Network) (a b : Box Network) (first second : Network) → n ≡ nets.LeftMerge a b → first ≡ a.value → second ≡ b.value → plain_network n ≡ left_merge (plain_network first) (plain_network second)
left_merged_is n a b first second is e f = ap plain_network is ∙ left_merged_step a b ∙ ap₂ (λ x y. left_merge (plain_network x) (plain_network y)) (sym e) (sym f)

pub synced_is : (n : Network) (ns : Vec Network Global) (items : List Network) → n ≡ nets.Sync ns → items ≡ ns.items → plain_network n ≡ sync (networks_of (map plain_network items))
synced_is n ns items is e = ap plain_network is ∙ synced_step ns ∙ ap (λ xs. sync (networks_of (map plain_network xs))) (sym e)

-- such ones are made whole
pub whole_parts : (w : PlainScope) (g : Sig) (ts : List Tree) (n m : PlainNetwork) (queue : List PlainLinear) → n ≡ m → HasItsParts w g ts n queue → HasItsParts everything g ts m queue
whole_parts w g ts n m queue is k = (k.0, k.1, all_can k.0 w g ts m queue k.1 (subst (λ z. CanBeComposed k.0 w g ts z queue k.1) is k.2))

pub whole_composes : (w : PlainScope) (g h : Sig) (ts us : List Tree) (n m : PlainNetwork) (queue left : List PlainLinear) (l : PlainLinear) → n ≡ m → Composes everything g ts m queue h us left l → Composes w g ts n queue h us left l
whole_composes w g h ts us n m queue left l is f =
    subst (λ z. Composes w g ts z queue h us left l) (sym is) (λ o rest k. composed_for_some (scope_meant (entries_in o) w) (network_in o m) h us left rest l (f o rest (all_can o w g ts m queue rest k)))

left_merged_whole : (v w : PlainScope) (g h : Sig) (ts us : List Tree) (m n : PlainNetwork) (queue left : List PlainLinear) (l : PlainLinear) → ComposedFrom v g ts (left_merge m n) queue h us left l → ComposedFrom w g ts (left_merge m n) queue h us left l
left_merged_whole v w g h ts us m n queue left l (left_merged_with c j) = left_merged_with c j

synced_whole : (v w : PlainScope) (g h : Sig) (ts us : List Tree) (ns : PlainNetworks) (queue left : List PlainLinear) (l : PlainLinear) → ComposedFrom v g ts (sync ns) queue h us left l → ComposedFrom w g ts (sync ns) queue h us left l
synced_whole v w g h ts us no_networks queue left l that_of_no_sync = that_of_no_sync
synced_whole v w g h ts us (more_networks n ns) queue left l (synced_with c j) = synced_with c j

pub left_merged_composed_from : (w : PlainScope) (g h : Sig) (ts us : List Tree) (n first second : PlainNetwork) (queue left : List PlainLinear) (l : PlainLinear) → n ≡ left_merge first second → ComposedFrom everything g ts (left_merge first second) queue h us left l
    → ComposedFrom w g ts n queue h us left l
left_merged_composed_from w g h ts us n first second queue left l is c = subst (λ z. ComposedFrom w g ts z queue h us left l) (sym is) (left_merged_whole everything w g h ts us first second queue left l c)

pub synced_composed_from : (w : PlainScope) (g h : Sig) (ts us : List Tree) (n : PlainNetwork) (ns : PlainNetworks) (queue left : List PlainLinear) (l : PlainLinear) → n ≡ sync ns → ComposedFrom everything g ts (sync ns) queue h us left l → ComposedFrom w g ts n queue h us left l
synced_composed_from w g h ts us n ns queue left l is c = subst (λ z. ComposedFrom w g ts z queue h us left l) (sym is) (synced_whole everything w g h ts us ns queue left l c)

-- ---- where there is none
abbrev pub all_with : Sign → List Network → PlainNetwork
all_with sign xs = networks_with sign (networks_of (map plain_network xs))

none_is : (xs : List Network) → length xs ≡ 0 → xs ≡ []
none_is [] e = refl
none_is (x ∷ xs) e = absurd (omega (arith, e))

none_in_front : (sign : Sign) (o : Origin) (w : PlainScope) (g : Sig) (ts : List Tree) (queue rest : List PlainLinear) → CanBeComposed o w g ts (networks_with sign no_networks) queue rest → HasParts o g ts (term_of delta ∷ []) queue rest
none_in_front (signs.Merge within) o w g ts queue rest k = k.parts
none_in_front signs.Sync o w g ts queue rest k = k.parts

pub none_has_one : (sign : Sign) (g : Sig) (ts : List Tree) (xs : List Network) (items : List Linear) → length xs ≡ 0 → HasItsParts (around_sign (plain_sign sign)) g ts (all_with sign xs) (map plain_linear items) → 0 < length items
none_has_one sign g ts xs items e k =
    let w = around_sign (plain_sign sign) in
    let can = subst (λ zs. CanBeComposed k.0 w g ts (all_with sign zs) (map plain_linear items) k.1) (none_is xs e) k.2 in
    some_in_front k.0 g ts (term_of delta) items k.1 (none_in_front sign k.0 w g ts (map plain_linear items) k.1 can)

no_network : (sign : Sign) (w : PlainScope) (g : Sig) (ts : List Tree) (queue left : List PlainLinear) (l : PlainLinear) → queue ≡ l ∷ left → Composes w g ts (networks_with sign no_networks) queue g ts left l
no_network (signs.Merge within) w g ts queue left l is o rest can = leaf_composed o (scope_meant (entries_in o) w) g ts (term_of delta) queue left rest l can.identifiers can.parts is
no_network signs.Sync w g ts queue left l is o rest can = leaf_composed o (scope_meant (entries_in o) w) g ts (term_of delta) queue left rest l can.identifiers can.parts is

pub none_composes : (sign : Sign) (g : Sig) (ts : List Tree) (xs : List Network) (queue left : List PlainLinear) (l : PlainLinear) → length xs ≡ 0 → queue ≡ l ∷ left → Composes (around_sign (plain_sign sign)) g ts (all_with sign xs) queue g ts left l
none_composes sign g ts xs queue left l e is =
    let w = around_sign (plain_sign sign) in
    subst (λ zs. Composes w g ts (all_with sign zs) queue g ts left l) (sym (none_is xs e)) (no_network sign w g ts queue left l is)

from_none : (sign : Sign) (w : PlainScope) (g : Sig) (ts : List Tree) (left : List PlainLinear) (l : PlainLinear) → ComposedFrom w g ts (networks_with sign no_networks) (l ∷ left) g ts left l
from_none (signs.Merge within) w g ts left l = that_of_none
from_none signs.Sync w g ts left l = that_of_no_sync

pub none_composed_from : (sign : Sign) (g : Sig) (ts : List Tree) (xs : List Network) (queue left : List PlainLinear) (l : PlainLinear) → length xs ≡ 0 → queue ≡ l ∷ left → ComposedFrom (around_sign (plain_sign sign)) g ts (all_with sign xs) queue g ts left l
none_composed_from sign g ts xs queue left l e is =
    let w = around_sign (plain_sign sign) in
    subst (λ zs. ComposedFrom w g ts (all_with sign zs) queue g ts left l) (sym (none_is xs e)) (subst (λ ls. ComposedFrom w g ts (networks_with sign no_networks) ls g ts left l) (sym is) (from_none sign w g ts left l))

-- ---- the first one, and the one at a place
first_is : (xs : List Network) (x : Network) → 0 < length xs → x ≡ get_or xs 0 x → xs ≡ x ∷ drop 1 xs
first_is [] x l e = absurd (omega (arith, l))
first_is (y ∷ xs) x l e = ap (λ z. z ∷ xs) (sym e)

first_with : (sign : Sign) (n : PlainNetwork) (ns : PlainNetworks) → IsFirstOf (plain_sign sign) n ns (networks_with sign (more_networks n ns))
first_with (signs.Merge within) n ns = of_a_merge
first_with signs.Sync n ns = of_a_sync

-- those from a place on
abbrev pub from_place : List Network → ℕ → PlainNetworks
from_place xs place = networks_of (map plain_network (drop place xs))

pub first_of_all : (sign : Sign) (xs : List Network) (x : Network) → 0 < length xs → x ≡ get_or xs 0 x → IsFirstOf (plain_sign sign) (plain_network x) (from_place xs 1) (all_with sign xs)
first_of_all sign xs x some e = subst (λ zs. IsFirstOf (plain_sign sign) (plain_network x) (from_place xs 1) (all_with sign zs)) (sym (first_is xs x some e)) (first_with sign (plain_network x) (from_place xs 1))

at_place : (xs : List Network) (place : ℕ) (x : Network) → place < length xs → x ≡ get_or xs place x → from_place xs place ≡ more_networks (plain_network x) (from_place xs (place + 1))
at_place xs place x there e = ap (λ zs. networks_of (map plain_network zs)) (drop_more xs place x there ∙ ap (λ z. z ∷ drop (place + 1) xs) (sym e))

none_from : (xs : List Network) (place : ℕ) → length xs ≤ place → from_place xs place ≡ no_networks
none_from xs place done = ap (λ zs. networks_of (map plain_network zs)) (drop_all place xs done)

-- ---- one behind the other
pub first_has : (b : PlainSign) (g : Sig) (ts : List Tree) (n whole : PlainNetwork) (ns : PlainNetworks) (queue : List PlainLinear) → IsFirstOf b n ns whole → HasItsParts (around_sign b) g ts whole queue → HasItsParts (beside_sign b n) g ts n queue
first_has b g ts n whole ns queue first k = let f = first_can k.0 b g ts n whole ns queue k.1 first k.2 in (k.0, f.0, f.1)

-- what stands where these networks are still to come
pub record IsJoining (b : PlainSign) (g : Sig) (ts : List Tree) (whole : PlainNetwork) (queue : List PlainLinear) (ns : PlainNetworks) (h : Sig) (us : List Tree) (left : List PlainLinear) (l : PlainLinear) : Type 0 where
  pub grown : GrowsByNames g h
  pub kept : Extends ts us
  pub can : (o : Origin) (rest : List PlainLinear) → CanBeComposed o (around_sign b) g ts whole queue rest → CanBeJoined o b (network_in o whole) h us l ns left rest
  pub from : (i : Sig) (vs : List Tree) (last : List PlainLinear) (k : PlainLinear) → JoinedWith b h us l ns left i vs last k → ComposedFrom (around_sign b) g ts whole queue i vs last k

pub joins_first : (b : PlainSign) (g h : Sig) (ts us : List Tree) (n whole : PlainNetwork) (ns : PlainNetworks) (queue left : List PlainLinear) (l : PlainLinear) → IsFirstOf b n ns whole → IsSignature g → GrowsByNames g h → Extends ts us
    → Composes (beside_sign b n) g ts n queue h us left l → ComposedFrom (beside_sign b n) g ts n queue h us left l → IsJoining b g ts whole queue ns h us left l
joins_first b g h ts us n whole ns queue left l first s by kept f made = record {
  grown = by;
  kept = kept;
  can = λ o rest k. first_joined o b g h ts us n whole ns queue left rest l first s k by kept f;
  from = λ i vs last k j. whole_composed first made j;
}

pub next_has : (b : PlainSign) (g : Sig) (ts : List Tree) (whole : PlainNetwork) (queue : List PlainLinear) (n : PlainNetwork) (ns : PlainNetworks) (h : Sig) (us : List Tree) (left : List PlainLinear) (l : PlainLinear) → HasItsParts (around_sign b) g ts whole queue
    → IsJoining b g ts whole queue (more_networks n ns) h us left l → HasItsParts (beside_sign b n) h us n left
next_has b g ts whole queue n ns h us left l k j = let f = next_can k.0 b (network_in k.0 whole) h us l n ns left k.1 (j.can k.0 k.1 k.2) in (k.0, f.0, f.1)

pub joined_fits : (b : PlainSign) (g : Sig) (ts : List Tree) (whole : PlainNetwork) (queue : List PlainLinear) (ns : PlainNetworks) (h i : Sig) (us vs : List Tree) (left : List PlainLinear) (l : PlainLinear) → HasItsParts (around_sign b) g ts whole queue → IsJoining b g ts whole queue ns h us left l
    → GrowsByNames h i → Extends us vs → Fits i vs l
joined_fits b g ts whole queue ns h i us vs left l k j by kept = so_far_fits k.0 b (network_in k.0 whole) h i us vs l ns left k.1 j.grown.stands (j.can k.0 k.1 k.2) by kept

-- the labels that matter are told by names of the signature
pub scope_fits_then : (b : PlainSign) (g : Sig) (ts : List Tree) (whole : PlainNetwork) (queue : List PlainLinear) (h : Sig) → HasItsParts (around_sign b) g ts whole queue → GrowsByNames g h → ScopeFits h (around_sign b)
scope_fits_then b g ts whole queue h k by = scope_fits_now k.0 h (around_sign b) (since_then k.0 g h by k.2.since) k.2.scope

pub next_one_fits : (b : PlainSign) (g : Sig) (ts : List Tree) (whole : PlainNetwork) (queue : List PlainLinear) (n : PlainNetwork) (ns : PlainNetworks) (h i : Sig) (us vs : List Tree) (left left' : List PlainLinear) (l r : PlainLinear) → HasItsParts (around_sign b) g ts whole queue
    → IsJoining b g ts whole queue (more_networks n ns) h us left l → Composes (beside_sign b n) h us n left i vs left' r → Fits i vs r
next_one_fits b g ts whole queue n ns h i us vs left left' l r k j f = part_fits (beside_sign b n) h i us vs n left left' r (next_has b g ts whole queue n ns h us left l k j) f

pub joins_next : (b : PlainSign) (g : Sig) (ts : List Tree) (whole : PlainNetwork) (queue : List PlainLinear) (n : PlainNetwork) (ns : PlainNetworks) (h i a : Sig) (us vs ws : List Tree) (left left' : List PlainLinear) (l r k : PlainLinear) → IsJoining b g ts whole queue (more_networks n ns) h us left l
    → GrowsByNames h i → Extends us vs → Composes (beside_sign b n) h us n left i vs left' r → ComposedFrom (beside_sign b n) h us n left i vs left' r → GrowsByNames i a → Extends vs ws → Fits a ws k → IsJoint b i a ws l r k → LeadsBeside b a ws l r k → IsJoining b g ts whole queue ns a ws left' k
joins_next b g ts whole queue n ns h i a us vs ws left left' l r k j by kept f made by' kept' fits joint leads = record {
  grown = names_then g h a j.grown (names_then h i a by by');
  kept = extends_on ts us ws j.kept (extends_on us vs ws kept kept');
  can = λ o rest c. next_joined o b (network_in o whole) h i a us vs ws l r k n ns left left' rest j.grown.stands (j.can o rest c) by kept f by' kept' fits joint leads;
  from = λ z ys last x more. j.from z ys last x (with_one_more made by' kept' fits joint more);
}

pub joins_all : (b : PlainSign) (g : Sig) (ts : List Tree) (whole : PlainNetwork) (queue : List PlainLinear) (h : Sig) (us : List Tree) (left : List PlainLinear) (l : PlainLinear) → IsJoining b g ts whole queue no_networks h us left l → Composes (around_sign b) g ts whole queue h us left l
joins_all b g ts whole queue h us left l j o rest can = all_joined o b (network_in o whole) h us l left rest (j.can o rest can)

pub joined_from_all : (b : PlainSign) (g : Sig) (ts : List Tree) (whole : PlainNetwork) (queue : List PlainLinear) (h : Sig) (us : List Tree) (left : List PlainLinear) (l : PlainLinear) → IsJoining b g ts whole queue no_networks h us left l → ComposedFrom (around_sign b) g ts whole queue h us left l
joined_from_all b g ts whole queue h us left l j = j.from h us left l with_none

-- with the one at a place in front, and behind all places
pub joining_at : (b : PlainSign) (g : Sig) (ts : List Tree) (whole : PlainNetwork) (queue : List PlainLinear) (xs : List Network) (place : ℕ) (x : Network) (h : Sig) (us : List Tree) (left : List PlainLinear) (l : PlainLinear) → place < length xs → x ≡ get_or xs place x
    → IsJoining b g ts whole queue (from_place xs place) h us left l → IsJoining b g ts whole queue (more_networks (plain_network x) (from_place xs (place + 1))) h us left l
joining_at b g ts whole queue xs place x h us left l there e j = subst (λ ns. IsJoining b g ts whole queue ns h us left l) (at_place xs place x there e) j

pub joining_done : (b : PlainSign) (g : Sig) (ts : List Tree) (whole : PlainNetwork) (queue : List PlainLinear) (xs : List Network) (place : ℕ) (h : Sig) (us : List Tree) (left : List PlainLinear) (l : PlainLinear) → length xs ≤ place
    → IsJoining b g ts whole queue (from_place xs place) h us left l → IsJoining b g ts whole queue no_networks h us left l
joining_done b g ts whole queue xs place h us left l done j = subst (λ ns. IsJoining b g ts whole queue ns h us left l) (none_from xs place done) j

-- ---- a left merge
pub first_of_two : (m n : PlainNetwork) → IsFirstOf (beginning written.left_merge) m (more_networks n no_networks) (left_merge m n)
first_of_two m n = of_a_left_merge

pub left_joining : (g h : Sig) (ts us : List Tree) (m n : PlainNetwork) (queue left : List PlainLinear) (l : PlainLinear) → IsSignature g → GrowsByNames g h → Extends ts us → Composes everything g ts m queue h us left l → ComposedFrom everything g ts m queue h us left l
    → IsJoining (beginning written.left_merge) g ts (left_merge m n) queue (more_networks n no_networks) h us left l
left_joining g h ts us m n queue left l s by kept f made = joins_first (beginning written.left_merge) g h ts us m (left_merge m n) (more_networks n no_networks) queue left l (first_of_two m n) s by kept f made

pub left_joined : (g h i j : Sig) (ts us vs ws : List Tree) (m n : PlainNetwork) (queue between left : List PlainLinear) (l r k : PlainLinear) → IsSignature g → GrowsByNames g h → Extends ts us → Composes everything g ts m queue h us between l → ComposedFrom everything g ts m queue h us between l
    → GrowsByNames h i → Extends us vs → Composes everything h us n between i vs left r → ComposedFrom everything h us n between i vs left r → GrowsByNames i j → Extends vs ws → Fits j ws k → IsProductFrom written.left_merge i j ws l r k → IsGoodProductFrom written.left_merge j ws l r k
    → IsJoining (beginning written.left_merge) g ts (left_merge m n) queue no_networks j ws left k
left_joined g h i j ts us vs ws m n queue between left l r k s by kept f made by' kept' f' made' by'' kept'' fits is good =
    joins_next (beginning written.left_merge) g ts (left_merge m n) queue n no_networks h i j us vs ws between left l r k (left_joining g h ts us m n queue between l s by kept f made) by' kept' f' made' by'' kept'' fits is (start_leads written.left_merge j ws l r k good)

-- ---- what calls answer
pub if_ok_all : {T E : Type 0} (r : Result T E) (P Q R S : T → Type 0) → ((x : T) → P x → Q x → R x → S x) → IfOk r P → IfOk r Q → IfOk r R → IfOk r S
if_ok_all (Ok x) P Q R S f p q r = f x p q r
if_ok_all (Err x) P Q R S f p q r = p

pub if_ok_both : {T E : Type 0} (r : Result T E) (P Q S : T → Type 0) → ((x : T) → P x → Q x → S x) → IfOk r P → IfOk r Q → IfOk r S
if_ok_both (Ok x) P Q S f p q = f x p q
if_ok_both (Err x) P Q S f p q = p

-- an operator that leaves the pool as it is
pub same_around : {E : Type 0} (r : Result Linear E) (g : Sig) (ts : List Tree) (a b : PlainAround) (l : PlainLinear) → b ≡ a → Fits g ts l → IfOk r (λ made. (ts : List Tree) → Fits g ts l → IsGoodAround g ts b l (plain_linear made))
    → IfOk r (λ made. IsGoodAround g ts a l (plain_linear made))
same_around (Ok x) g ts a b l same fits good = subst (λ o. IsGoodAround g ts o l (plain_linear x)) same (good ts fits)
same_around (Err x) g ts a b l same fits good = tt

-- what an operator makes
pub is_around : {E : Type 0} (r : Result Linear E) (g : Sig) (ts us : List Tree) (a b : PlainAround) (l : PlainLinear) → b ≡ a → IfOk r (λ made. IsAround g ts us b l (plain_linear made)) → IfOk r (λ made. IsAround g ts us a l (plain_linear made))
is_around (Ok x) g ts us a b l same k = subst (λ o. IsAround g ts us o l (plain_linear x)) same k
is_around (Err x) g ts us a b l same k = tt

pub is_communicated : {E : Type 0} (r : Result Linear E) (g : Sig) (ts us : List Tree) (a : PlainAround) (cs : List PlainRule) (l : PlainLinear) → a ≡ comm cs → IfOk r (λ made. (plain_linear made).params ≡ l.params) → IfOk r (λ made. (plain_linear made).init ≡ l.init)
    → IfOk r (λ made. linear_of (entries_of g us) (plain_linear made) ≡ communicating (map (rule_of (entries_of g ts)) cs) (linear_of (entries_of g ts) l)) → IfOk r (λ made. IsAround g ts us a l (plain_linear made))
is_communicated (Ok x) g ts us a cs l is params init means = subst (λ o. IsAround g ts us o l (plain_linear x)) (sym is) (record { params = params; init = init; means = means })
is_communicated (Err x) g ts us a cs l is params init means = tt

-- ---- whether there are parts
pub no_part : (xs : List Network) (b : Bool) → b ≡ (length xs == 0) → b ≡ true → length xs ≡ 0
no_part xs b e t = (Decides-eqb (length xs) 0).0 (sym e ∙ t)

pub some_part : (xs : List Network) (b : Bool) → b ≡ (length xs == 0) → b ≡ false → 0 < length xs
some_part [] b e t = let never : false ≡ true = sym t ∙ e in absurd cc
some_part (x ∷ xs) b e t = omega arith

-- ---- how many nodes a network has
mutual
  pub nodes : PlainNetwork → ℕ
  nodes (leaf c) = 1
  nodes (side_by_side ns) = 1 + all_nodes ns
  nodes (left_merge m n) = 1 + (nodes m + nodes n)
  nodes (sync ns) = 1 + all_nodes ns
  nodes (under o n) = 1 + nodes n

  pub all_nodes : PlainNetworks → ℕ
  all_nodes no_networks = 0
  all_nodes (more_networks n ns) = nodes n + all_nodes ns

abbrev pub nodes_of : Network → ℕ
nodes_of n = nodes (plain_network n)

abbrev pub nodes_of_all : List Network → ℕ
nodes_of_all ns = all_nodes (networks_of (map plain_network ns))

beside_nodes : (ns : PlainNetworks) → nodes (side_by_side ns) ≡ 1 + all_nodes ns
unfolding nodes
beside_nodes ns = refl

left_merge_nodes : (m n : PlainNetwork) → nodes (left_merge m n) ≡ 1 + (nodes m + nodes n)
unfolding nodes
left_merge_nodes m n = refl

sync_nodes : (ns : PlainNetworks) → nodes (sync ns) ≡ 1 + all_nodes ns
unfolding nodes
sync_nodes ns = refl

under_nodes : (o : PlainAround) (n : PlainNetwork) → nodes (under o n) ≡ 1 + nodes n
unfolding nodes
under_nodes o n = refl

more_nodes : (n : PlainNetwork) (ns : PlainNetworks) → all_nodes (more_networks n ns) ≡ nodes n + all_nodes ns
unfolding all_nodes
more_nodes n ns = refl

pub parts_smaller : (n : Network) (ns : Vec Network Global) (items : List Network) → n ≡ nets.Merge ns → items ≡ ns.items → nodes_of_all items < nodes_of n
parts_smaller n ns items is e =
    let whole : nodes_of n ≡ 1 + nodes_of_all ns.items = ap nodes (ap plain_network is ∙ side_step ns) ∙ beside_nodes (networks_of (map plain_network ns.items)) in
    let same : nodes_of_all items ≡ nodes_of_all ns.items = ap nodes_of_all e in
    omega (arith, whole, same)

pub synced_smaller : (n : Network) (ns : Vec Network Global) (items : List Network) → n ≡ nets.Sync ns → items ≡ ns.items → nodes_of_all items < nodes_of n
synced_smaller n ns items is e =
    let whole : nodes_of n ≡ 1 + nodes_of_all ns.items = ap nodes (ap plain_network is ∙ synced_step ns) ∙ sync_nodes (networks_of (map plain_network ns.items)) in
    let same : nodes_of_all items ≡ nodes_of_all ns.items = ap nodes_of_all e in
    omega (arith, whole, same)

pub left_merged_smaller : (n : Network) (a b : Box Network) (first second : Network) → n ≡ nets.LeftMerge a b → first ≡ a.value → second ≡ b.value → nodes_of first + nodes_of second < nodes_of n
left_merged_smaller n a b first second is e f =
    let whole : nodes_of n ≡ 1 + (nodes_of first + nodes_of second) = ap nodes (left_merged_is n a b first second is e f) ∙ left_merge_nodes (plain_network first) (plain_network second) in
    omega (arith, whole)

pub inner_smaller : (n : Network) (a : NetOp) (b : Box Network) (m : Network) → n ≡ nets.Op a b → m ≡ b.value → nodes_of m < nodes_of n
inner_smaller n a b m is e =
    let whole : nodes_of n ≡ 1 + nodes_of b.value = ap nodes (ap plain_network is ∙ under_step a b) ∙ under_nodes (plain_operator a) (plain_network b.value) in
    let same : nodes_of m ≡ nodes_of b.value = ap nodes_of e in
    omega (arith, whole, same)

pub part_no_larger : (xs : List Network) (i : ℕ) (x : Network) → i < length xs → x ≡ get_or xs i x → nodes_of x ≤ nodes_of_all xs
part_no_larger [] i x l e = absurd (omega (arith, l))
part_no_larger (y ∷ xs) zero x l e =
    let more = more_nodes (plain_network y) (networks_of (map plain_network xs)) in
    let same : nodes_of x ≡ nodes_of y = ap nodes_of e in
    omega (arith, more, same)
part_no_larger (y ∷ xs) (suc i) x l e =
    let more = more_nodes (plain_network y) (networks_of (map plain_network xs)) in
    let rest = part_no_larger xs i x (omega (arith, l)) e in
    omega (arith, more, rest)
