-- Linear processes composed along a network.
use Rattle.std.proofs.Common.{◌≡◌, List, [], ◌∷◌, ◌++◌, refl, sym, ap, subst, ◌∙◌, append_assoc, append-nil}
use Rattle.std.specs.List.{AllZip}
use Rattle.data_theory.specs.Signature.{Sig}
use Rattle.data_theory.specs.WholeSignatures.{IsSignature}
use Rattle.data_theory.specs.IdTrees.{Tree}
use Rattle.data_theory.proofs.IdGrowthLemmas.{growth_after_growth_is_growth}
use Rattle.term_pool.specs.Pools.{Extends}
use Rattle.process_terms.specs.PlainProcesses.{PlainAround, allow, block, hide, rename, comm, PlainComponent}
use Rattle.process_terms.specs.Processes as written
use Rattle.process_terms.specs.Processes.{Body, written_merge, written_starting, Process, around, merged_with, synced_with}
use Rattle.process_terms.specs.Meanings.{around_of, HasAround}
use Rattle.process_terms.specs.SignatureEntries.{entries_of}
use Rattle.bisim_laws.specs.Links.{Wrapped, Under}
use Rattle.bisim_laws.specs.Scopes as theory
use Rattle.bisim_laws.specs.Scopes.{Scope}
use Rattle.bisim_laws.proofs.ComposedWithin.{good_within, under_within}
use Rattle.lps_core.specs.Fitting.{Fits}
use Rattle.lps_core.specs.GoingOn.{IsGoodOver, IsGoodOverWithin}
use Rattle.lps_core.specs.Naming.{GrowsByNames, ParamsHaveOwnNames}
use Rattle.lps_core.specs.PlainLinears.{PlainLinear, linear_of, linear_state}
use Rattle.lps_core.proofs.PoolTrees.{extends_itself}
use Rattle.action_filters.specs.Filters.{IsGoodAround}
use Rattle.greibach.proofs.GrownFits.{both_by_names, pool_alone}
use Rattle.proc_unfold.specs.Networks.{PlainNetwork, PlainNetworks, leaf, side_by_side, left_merge, sync, under, no_networks, more_networks, network_body, network_bodies}
use Rattle.lin_driver.specs.FittingOperators.{OperatorFits, NetworkFits, NetworksFit}
use Rattle.lin_driver.specs.Leaves.{leaves, more_leaves}
use Rattle.lin_driver.specs.NetworkProducts as products
use Rattle.lin_driver.specs.NetworkProducts.{IsJoint, ComposedFrom, JoinedWith, side_by_side_with, left_merged_with}
use Rattle.lin_driver.specs.NetworkScopes.{PlainScope, everything, completable, scope_meant, ScopeFits, below, inside, PlainSign, merging, beginning, between, around_sign, beside_sign}
use Rattle.lin_driver.specs.Parts.{IsLinearFor, IsLinearWithin, Origin, entries_in, closed_in, component_in, network_in, HasGrownFrom, HasParts, CanBeComposed, IsComposed, Composes, LeadsWithin, LeadsBeside}
use Rattle.lin_driver.specs.TakenNames.{HaveIdentifiers}
use Rattle.lin_driver.proofs.GrownModels.{around_stays}
use Rattle.lin_driver.proofs.JointLinears.{joint_params_have_own_names, joint_named}
use Rattle.lin_driver.proofs.NetworkScopes.{below_fits, beside_fits, scope_stays, scope_fits_still, matters_below}
use Rattle.lin_driver.proofs.OpenedOperators.{operator_fits_still}
use Rattle.lin_driver.proofs.StayingLinears.{GrowsOnBoth, both_named, linear_stays, linear_within_stays, linear_for_some, linear_for_all, zip_weaker}

-- ---- the linear processes in front
-- those of two lists of components
pub zip_parted : {A B : Type 0} (R : A → B → Type 0) (xs ys : List A) (zs : List B) → AllZip R (xs ++ ys) zs → (us : List B) × (vs : List B) × (zs ≡ us ++ vs) × AllZip R xs us × AllZip R ys vs
zip_parted R [] ys zs k = ([], zs, refl, tt, k)
zip_parted R (x ∷ xs) ys [] k = absurd k
zip_parted R (x ∷ xs) ys (z ∷ zs) k =
    let r = zip_parted R xs ys zs k.1 in
    (z ∷ r.0, r.1, ap (λ w. z ∷ w) r.2, (k.0, r.3), r.4)

-- those of the first components are in front of those of the others
pub parts_parted : (o : Origin) (g : Sig) (ts : List Tree) (cs ds : List PlainComponent) (queue rest : List PlainLinear) → HasParts o g ts (cs ++ ds) queue rest
    → (between : List PlainLinear) × HasParts o g ts cs queue between × HasParts o g ts ds between rest
parts_parted o g ts cs ds queue rest k =
    let r = zip_parted (λ c l. IsLinearFor g ts (component_in o c) l) cs ds k.parts k.are in (
      r.1 ++ rest,
      record { parts = r.0; are = r.3; first = k.first ∙ ap (λ ls. ls ++ rest) r.2 ∙ append_assoc r.0 r.1 rest },
      record { parts = r.1; are = r.4; first = refl },
    )

-- the first one is that of the first component
pub first_part : (o : Origin) (g : Sig) (ts : List Tree) (c : PlainComponent) (queue rest : List PlainLinear) → HasParts o g ts (c ∷ []) queue rest → (l : PlainLinear) × (queue ≡ l ∷ rest) × IsLinearFor g ts (component_in o c) l
first_part o g ts c queue rest k = by_parts k.parts k.are k.first
  where
    by_parts : (ls : List PlainLinear) → AllZip (λ c l. IsLinearFor g ts (component_in o c) l) (c ∷ []) ls → queue ≡ ls ++ rest → (l : PlainLinear) × (queue ≡ l ∷ rest) × IsLinearFor g ts (component_in o c) l
    by_parts [] k e = absurd k
    by_parts (l ∷ []) k e = (l, e, k.0)
    by_parts (l ∷ m ∷ ls) k e = absurd k.1

pub parts_stay : (o : Origin) (g h : Sig) (ts us : List Tree) (cs : List PlainComponent) (queue rest : List PlainLinear) → GrowsOnBoth g h ts us → HasParts o g ts cs queue rest → HasParts o h us cs queue rest
parts_stay o g h ts us cs queue rest w k = record {
  parts = k.parts;
  are = zip_weaker (λ c l. IsLinearFor g ts (component_in o c) l) (λ c l. IsLinearFor h us (component_in o c) l) (λ c l. linear_stays g h ts us w (component_in o c) l) cs k.parts k.are;
  first = k.first;
}

-- ---- growth
pub since_then : (o : Origin) (g h : Sig) → GrowsByNames g h → HasGrownFrom o g → HasGrownFrom o h
since_then o g h w k = record { stands = k.stands; grown = growth_after_growth_is_growth o.signature g h k.grown w.grown; actions = w.actions ∙ k.actions }

pub fits_now : (o : Origin) (g : Sig) (a : PlainAround) → HasGrownFrom o g → OperatorFits o.signature a → OperatorFits g a
fits_now o g a k fits = operator_fits_still o.signature g k.grown k.actions a fits

-- an operator that fits has its names
operator_named : (g : Sig) (ts : List Tree) (a : PlainAround) → OperatorFits g a → HasAround (entries_of g ts) a
operator_named g ts (allow sets) k = k
operator_named g ts (block names) k = k
operator_named g ts (hide names) k = k
operator_named g ts (rename pairs) k = k.names
operator_named g ts (comm rules) k = k.names

same_operator : (o : Origin) (g : Sig) (ts : List Tree) (a : PlainAround) → HasGrownFrom o g → OperatorFits o.signature a → around_of (entries_of g ts) a ≡ around_of (entries_in o) a
same_operator o g ts a k fits = around_stays o.signature g [] [] k.stands (record { signature = k.grown; pool = extends_itself [] }) a (operator_named o.signature [] a fits)

both_pool : (g : Sig) (ts us : List Tree) → IsSignature g → Extends ts us → GrowsOnBoth g g ts us
both_pool g ts us s kept = record { old = s; new = s; both = pool_alone g ts us kept; fresh = λ n t i. i }

-- the same labels matter over names that were added
same_scope : (o : Origin) (g : Sig) (ts : List Tree) (w : PlainScope) → HasGrownFrom o g → ScopeFits o.signature w → scope_meant (entries_of g ts) w ≡ scope_meant (entries_in o) w
same_scope o g ts everything k fits = refl
same_scope o g ts (completable a) k fits = scope_stays o.signature g [] [] (completable a) k.stands (record { signature = k.grown; pool = extends_itself [] }) fits

pub scope_fits_now : (o : Origin) (g : Sig) (w : PlainScope) → HasGrownFrom o g → ScopeFits o.signature w → ScopeFits g w
scope_fits_now o g w k fits = scope_fits_still o.signature g w k.stands k.grown fits

-- ---- links
pub around_linear : (o : Origin) (w : PlainScope) (g : Sig) (ts us : List Tree) (a : PlainAround) (p : Process) (l k : PlainLinear) → IsSignature g → HasGrownFrom o g → OperatorFits o.signature a → Extends ts us
    → IsLinearWithin (scope_meant (entries_in o) (below a w)) g ts p l → Fits g us k → k.params ≡ l.params → IsGoodAround g us a l k → IsLinearWithin (scope_meant (entries_in o) w) g us (around (around_of (entries_in o) a) p) k
around_linear o w g ts us a p l k sg since fits kept is made_fits params good =
    let e = entries_of g us in
    let above = scope_meant (entries_in o) w in
    let under_it = scope_meant (entries_in o) (below a w) in
    let now = linear_within_stays g g ts us (both_pool g ts us sg kept) under_it p l is in
    let operator = around_of (entries_in o) a in
    let around_it : IsGoodOver g (Wrapped operator (linear_of e l) (linear_of e k)) (around operator (linear_state e l)) (linear_state e k) =
    subst (λ z. IsGoodOver g (Wrapped z (linear_of e l) (linear_of e k)) (around z (linear_state e l)) (linear_state e k)) (same_operator o g us a since fits) good in
    record {
      fits = made_fits;
      params = subst (ParamsHaveOwnNames g) (sym params) now.params;
      link = Under operator (linear_of e l) (linear_of e k) now.link;
      bisimilar = λ th on con.
          under_within th operator above under_it (matters_below th (entries_in o) a w) (linear_of e l) (linear_of e k) now.link p (linear_state e l) (linear_state e k) (now.bisimilar th on con)
          (good_within th above (Wrapped operator (linear_of e l) (linear_of e k)) (around operator (linear_state e l)) (linear_state e k) (around_it th on con));
    }

pub joint_linear : (o : Origin) (b : PlainSign) (g h : Sig) (ts us : List Tree) (p q : Process) (l r k : PlainLinear) → HasGrownFrom o h → ScopeFits o.signature (around_sign b) → GrowsOnBoth g h ts us → IsLinearWithin (scope_meant (entries_in o) (around_sign b)) g ts p l
    → IsLinearWithin (scope_meant (entries_in o) (around_sign b)) g ts q r → Fits h us k → IsJoint b g h us l r k → LeadsBeside b h us l r k → IsLinearWithin (scope_meant (entries_in o) (around_sign b)) h us (between b p q) k
joint_linear o b g h ts us p q l r k since fit both x y fits joint leads =
    let v = scope_meant (entries_in o) (around_sign b) in
    let left = linear_within_stays g h ts us both v p l x in
    let right = linear_within_stays g h ts us both v q r y in
    let on_them : LeadsWithin v b h us l r k = subst (λ z. LeadsWithin z b h us l r k) (same_scope o h us (around_sign b) since fit) leads in
    let found = on_them left.link right.link p q left.bisimilar right.bisimilar in
    record { fits = fits; params = joint_params_have_own_names b g h ts us l r k both.old x.fits y.fits joint x.params y.params; link = found.0; bisimilar = found.1 }

-- a part that is no `||` stands for its process, whatever matters
inside_linear : (o : Origin) (w : PlainScope) (n : PlainNetwork) (g : Sig) (ts : List Tree) (p : Process) (l : PlainLinear) → IsLinearWithin (scope_meant (entries_in o) (inside w n)) g ts p l → IsLinearWithin (scope_meant (entries_in o) w) g ts p l
inside_linear o w (leaf c) g ts p l k = linear_for_some (scope_meant (entries_in o) w) g ts p l (linear_for_all g ts p l k)
inside_linear o w (side_by_side ns) g ts p l k = k
inside_linear o w (left_merge m n) g ts p l k = linear_for_some (scope_meant (entries_in o) w) g ts p l (linear_for_all g ts p l k)
inside_linear o w (sync ns) g ts p l k = linear_for_some (scope_meant (entries_in o) w) g ts p l (linear_for_all g ts p l k)
inside_linear o w (under a n) g ts p l k = linear_for_some (scope_meant (entries_in o) w) g ts p l (linear_for_all g ts p l k)

-- a part stands for its process, whatever matters around the sign
pub beside_linear : (o : Origin) (b : PlainSign) (n : PlainNetwork) (g : Sig) (ts : List Tree) (p : Process) (l : PlainLinear) → IsLinearWithin (scope_meant (entries_in o) (beside_sign b n)) g ts p l → IsLinearWithin (scope_meant (entries_in o) (around_sign b)) g ts p l
beside_linear o (merging w) n g ts p l k = inside_linear o w n g ts p l k
beside_linear o (beginning start) n g ts p l k = k

-- ---- what is written with a sign
abbrev written_between : PlainSign → Body → Body → Body
written_between (merging w) p q = written_merge p q
written_between (beginning o) p q = written_starting o p q

abbrev written_with : PlainSign → Body → List Body → Body
written_with b p [] = p
written_with b p (q ∷ qs) = written_with b (written_between b p q) qs

merged_is : (w : PlainScope) (p : Body) (qs : List Body) → written_with (merging w) p qs ≡ merged_with p qs
merged_is w p [] = refl
merged_is w p (q ∷ qs) = merged_is w (written_merge p q) qs

synced_is : (p : Body) (qs : List Body) → written_with (beginning written.sync) p qs ≡ synced_with p qs
synced_is p [] = refl
synced_is p (q ∷ qs) = synced_is (written_starting written.sync p q) qs

closed_between : (o : Origin) (b : PlainSign) (p q : Body) → between b (closed_in o p) (closed_in o q) ≡ closed_in o (written_between b p q)
closed_between o (merging w) p q = refl
closed_between o (beginning start) p q = refl

-- ---- the first network of a whole, and the others, each with the sign in front of it
pub data IsFirstOf : PlainSign → PlainNetwork → PlainNetworks → PlainNetwork → Type 0 where
  of_a_merge : {w : PlainScope} {n : PlainNetwork} {ns : PlainNetworks} → IsFirstOf (merging w) n ns (side_by_side (more_networks n ns))
  of_a_left_merge : {m n : PlainNetwork} → IsFirstOf (beginning written.left_merge) m (more_networks n no_networks) (left_merge m n)
  of_a_sync : {n : PlainNetwork} {ns : PlainNetworks} → IsFirstOf (beginning written.sync) n ns (sync (more_networks n ns))

whole_means : (o : Origin) {b : PlainSign} {n whole : PlainNetwork} {ns : PlainNetworks} → IsFirstOf b n ns whole → closed_in o (written_with b (network_body (entries_in o) n) (network_bodies (entries_in o) ns)) ≡ network_in o whole
whole_means o (of_a_merge {w = w} {n = n} {ns = ns}) = ap (closed_in o) (merged_is w (network_body (entries_in o) n) (network_bodies (entries_in o) ns))
whole_means o of_a_left_merge = refl
whole_means o (of_a_sync {n = n} {ns = ns}) = ap (closed_in o) (synced_is (network_body (entries_in o) n) (network_bodies (entries_in o) ns))

whole_leaves : {b : PlainSign} {n whole : PlainNetwork} {ns : PlainNetworks} → IsFirstOf b n ns whole → leaves whole ≡ leaves n ++ more_leaves ns
whole_leaves of_a_merge = refl
whole_leaves (of_a_left_merge {m = m} {n = n}) = ap (λ cs. leaves m ++ cs) (sym (append-nil (leaves n)))
whole_leaves of_a_sync = refl

whole_fits : (g : Sig) {b : PlainSign} {n whole : PlainNetwork} {ns : PlainNetworks} → IsFirstOf b n ns whole → NetworkFits g whole → NetworkFits g n × NetworksFit g ns
whole_fits g of_a_merge k = k
whole_fits g of_a_left_merge k = (k.0, (k.1, tt))
whole_fits g of_a_sync k = k

pub whole_composed : {b : PlainSign} {g h i : Sig} {ts us vs : List Tree} {n whole : PlainNetwork} {ns : PlainNetworks} {queue between left : List PlainLinear} {l k : PlainLinear} → IsFirstOf b n ns whole → ComposedFrom (beside_sign b n) g ts n queue h us between l
    → JoinedWith b h us l ns between i vs left k → ComposedFrom (around_sign b) g ts whole queue i vs left k
whole_composed of_a_merge c j = side_by_side_with c j
whole_composed of_a_left_merge c j = left_merged_with c j
whole_composed of_a_sync c j = products.synced_with c j

-- ---- networks
the_last : {A : Type 0} (x y : A) (xs ys : List A) → x ∷ xs ≡ y ∷ ys → (x ≡ y) × (xs ≡ ys)
the_last x y xs ys e = (cc, cc)

-- a network of one leaf has the first one
pub leaf_composed : (o : Origin) (v : Scope) (g : Sig) (ts : List Tree) (c : PlainComponent) (queue left rest : List PlainLinear) (l : PlainLinear) → HaveIdentifiers g → HasParts o g ts (c ∷ []) queue rest → queue ≡ l ∷ left → IsComposed v (component_in o c) g ts left rest l
leaf_composed o v g ts c queue left rest l all k e =
    let p = first_part o g ts c queue rest k in
    let same = the_last p.0 l rest left (sym p.1 ∙ e) in
    record { identifiers = all; linear = linear_for_some v g ts (component_in o c) l (subst (IsLinearFor g ts (component_in o c)) same.0 p.2); is_left = sym same.1 }

pub there_is_one : (o : Origin) (g : Sig) (ts : List Tree) (c : PlainComponent) (queue rest : List PlainLinear) → HasParts o g ts (c ∷ []) queue rest → queue ≡ [] → ⊥
there_is_one o g ts c queue rest k e = let p = first_part o g ts c queue rest k in let never : p.0 ∷ rest ≡ [] = sym p.1 ∙ e in absurd cc

-- the linear process stands for what the networks are to join, for the labels that matter, and those of their leaves are the first
pub record CanBeJoined (o : Origin) (b : PlainSign) (whole : Process) (g : Sig) (ts : List Tree) (l : PlainLinear) (ns : PlainNetworks) (queue rest : List PlainLinear) : Type 0 where
  pub since : HasGrownFrom o g
  pub identifiers : HaveIdentifiers g
  pub operators : NetworksFit o.signature ns
  pub scope : ScopeFits o.signature (around_sign b)
  pub parts : HasParts o g ts (more_leaves ns) queue rest
  pub so_far : Body
  pub linear : IsLinearWithin (scope_meant (entries_in o) (around_sign b)) g ts (closed_in o so_far) l
  pub joined : closed_in o (written_with b so_far (network_bodies (entries_in o) ns)) ≡ whole

-- under an operator
pub inside_can : (o : Origin) (w : PlainScope) (g : Sig) (ts : List Tree) (a : PlainAround) (n : PlainNetwork) (queue rest : List PlainLinear) → CanBeComposed o w g ts (under a n) queue rest → CanBeComposed o (below a w) g ts n queue rest
inside_can o w g ts a n queue rest k = record { since = k.since; identifiers = k.identifiers; operators = k.operators.1; scope = below_fits o.signature a w k.operators.0 k.scope; parts = k.parts }

pub operator_can : (o : Origin) (w : PlainScope) (g h : Sig) (ts : List Tree) (a : PlainAround) (n : PlainNetwork) (queue rest : List PlainLinear) → CanBeComposed o w g ts (under a n) queue rest → GrowsByNames g h → OperatorFits h a
operator_can o w g h ts a n queue rest k by = fits_now o h a (since_then o g h by k.since) k.operators.0

pub under_composed : (o : Origin) (w : PlainScope) (g h : Sig) (ts us vs : List Tree) (a : PlainAround) (n : PlainNetwork) (queue left rest : List PlainLinear) (l k : PlainLinear) → CanBeComposed o w g ts (under a n) queue rest → GrowsByNames g h
    → Composes (below a w) g ts n queue h us left l → Extends us vs → Fits h vs k → k.params ≡ l.params → IsGoodAround h vs a l k → IsComposed (scope_meant (entries_in o) w) (network_in o (under a n)) h vs left rest k
under_composed o w g h ts us vs a n queue left rest l k can by f kept fits params good =
    let c = f o rest (inside_can o w g ts a n queue rest can) in
    record {
      identifiers = c.identifiers;
      linear = around_linear o w h us vs a (network_in o n) l k by.stands (since_then o g h by can.since) can.operators.0 kept c.linear fits params good;
      is_left = c.is_left;
    }

-- what is made whole is made for all labels
pub all_can : (o : Origin) (w : PlainScope) (g : Sig) (ts : List Tree) (n : PlainNetwork) (queue rest : List PlainLinear) → CanBeComposed o w g ts n queue rest → CanBeComposed o everything g ts n queue rest
all_can o w g ts n queue rest k = record { since = k.since; identifiers = k.identifiers; operators = k.operators; scope = tt; parts = k.parts }

-- and so for some
pub composed_for_some : (v : Scope) (whole : Process) (g : Sig) (ts : List Tree) (left rest : List PlainLinear) (l : PlainLinear) → IsComposed theory.everything whole g ts left rest l → IsComposed v whole g ts left rest l
composed_for_some v whole g ts left rest l k = record { identifiers = k.identifiers; linear = linear_for_some v g ts whole l (linear_for_all g ts whole l k.linear); is_left = k.is_left }

-- one behind the other
first_parts : (o : Origin) (b : PlainSign) (g : Sig) (ts : List Tree) (n whole : PlainNetwork) (ns : PlainNetworks) (queue rest : List PlainLinear) → IsFirstOf b n ns whole → CanBeComposed o (around_sign b) g ts whole queue rest
    → (between : List PlainLinear) × HasParts o g ts (leaves n) queue between × HasParts o g ts (more_leaves ns) between rest
first_parts o b g ts n whole ns queue rest first k = parts_parted o g ts (leaves n) (more_leaves ns) queue rest (subst (λ cs. HasParts o g ts cs queue rest) (whole_leaves first) k.parts)

-- the labels that matter of the first one fit, too
first_part_can : (o : Origin) (b : PlainSign) (g : Sig) (ts : List Tree) (n whole : PlainNetwork) (ns : PlainNetworks) (queue between rest : List PlainLinear) → IsFirstOf b n ns whole → CanBeComposed o (around_sign b) g ts whole queue rest → HasParts o g ts (leaves n) queue between
    → CanBeComposed o (beside_sign b n) g ts n queue between
first_part_can o b g ts n whole ns queue between rest first k parts = record { since = k.since; identifiers = k.identifiers; operators = (whole_fits o.signature first k.operators).0; scope = beside_fits o.signature b n k.scope; parts = parts }

pub first_can : (o : Origin) (b : PlainSign) (g : Sig) (ts : List Tree) (n whole : PlainNetwork) (ns : PlainNetworks) (queue rest : List PlainLinear) → IsFirstOf b n ns whole → CanBeComposed o (around_sign b) g ts whole queue rest
    → (between : List PlainLinear) × CanBeComposed o (beside_sign b n) g ts n queue between
first_can o b g ts n whole ns queue rest first k =
    let p = first_parts o b g ts n whole ns queue rest first k in
    (p.0, first_part_can o b g ts n whole ns queue p.0 rest first k p.1)

pub first_joined : (o : Origin) (b : PlainSign) (g h : Sig) (ts us : List Tree) (n whole : PlainNetwork) (ns : PlainNetworks) (queue left rest : List PlainLinear) (l : PlainLinear) → IsFirstOf b n ns whole → IsSignature g → CanBeComposed o (around_sign b) g ts whole queue rest
    → GrowsByNames g h → Extends ts us → Composes (beside_sign b n) g ts n queue h us left l → CanBeJoined o b (network_in o whole) h us l ns left rest
first_joined o b g h ts us n whole ns queue left rest l first s k by kept f =
    let p = first_parts o b g ts n whole ns queue rest first k in
    let c = f o p.0 (first_part_can o b g ts n whole ns queue p.0 rest first k p.1) in
    record {
      since = since_then o g h by k.since;
      identifiers = c.identifiers;
      operators = (whole_fits o.signature first k.operators).1;
      scope = k.scope;
      parts = subst (λ ls. HasParts o h us (more_leaves ns) ls rest) (sym c.is_left) (parts_stay o g h ts us (more_leaves ns) p.0 rest (both_named g h ts us s by (both_by_names g h ts us by kept)) p.2);
      so_far = network_body (entries_in o) n;
      linear = beside_linear o b n h us (network_in o n) l c.linear;
      joined = whole_means o first;
    }

pub next_can : (o : Origin) (b : PlainSign) (whole : Process) (g : Sig) (ts : List Tree) (l : PlainLinear) (n : PlainNetwork) (ns : PlainNetworks) (queue rest : List PlainLinear) → CanBeJoined o b whole g ts l (more_networks n ns) queue rest
    → (between : List PlainLinear) × CanBeComposed o (beside_sign b n) g ts n queue between
next_can o b whole g ts l n ns queue rest k =
    let p = parts_parted o g ts (leaves n) (more_leaves ns) queue rest k.parts in
    (p.0, record { since = k.since; identifiers = k.identifiers; operators = k.operators.0; scope = beside_fits o.signature b n k.scope; parts = p.1 })

pub so_far_fits : (o : Origin) (b : PlainSign) (whole : Process) (g h : Sig) (ts us : List Tree) (l : PlainLinear) (ns : PlainNetworks) (queue rest : List PlainLinear) → IsSignature g → CanBeJoined o b whole g ts l ns queue rest → GrowsByNames g h → Extends ts us → Fits h us l
so_far_fits o b whole g h ts us l ns queue rest s k by kept = (linear_within_stays g h ts us (both_named g h ts us s by (both_by_names g h ts us by kept)) (scope_meant (entries_in o) (around_sign b)) (closed_in o k.so_far) l k.linear).fits

pub next_joined : (o : Origin) (b : PlainSign) (whole : Process) (g h i : Sig) (ts us vs : List Tree) (l r k : PlainLinear) (n : PlainNetwork) (ns : PlainNetworks) (queue left rest : List PlainLinear) → IsSignature g → CanBeJoined o b whole g ts l (more_networks n ns) queue rest
    → GrowsByNames g h → Extends ts us → Composes (beside_sign b n) g ts n queue h us left r → GrowsByNames h i → Extends us vs → Fits i vs k → IsJoint b h i vs l r k → LeadsBeside b i vs l r k → CanBeJoined o b whole i vs k ns left rest
next_joined o b whole g h i ts us vs l r k n ns queue left rest s can by kept f by' kept' fits joint leads =
    let v = scope_meant (entries_in o) (around_sign b) in
    let p = parts_parted o g ts (leaves n) (more_leaves ns) queue rest can.parts in
    let c = f o p.0 (record { since = can.since; identifiers = can.identifiers; operators = can.operators.0; scope = beside_fits o.signature b n can.scope; parts = p.1 }) in
    let one = both_named g h ts us s by (both_by_names g h ts us by kept) in
    let two = both_named h i us vs by.stands by' (both_by_names h i us vs by' kept') in
    let left_now = linear_within_stays g h ts us one v (closed_in o can.so_far) l can.linear in
    let right_now = beside_linear o b n h us (network_in o n) r c.linear in
    let since = since_then o h i by' (since_then o g h by can.since) in
    record {
      since = since;
      identifiers = joint_named b h i us vs l r k by.stands left_now.fits c.linear.fits joint c.identifiers;
      operators = can.operators.1;
      scope = can.scope;
      parts = subst (λ ls. HasParts o i vs (more_leaves ns) ls rest) (sym c.is_left) (parts_stay o h i us vs (more_leaves ns) p.0 rest two (parts_stay o g h ts us (more_leaves ns) p.0 rest one p.2));
      so_far = written_between b can.so_far (network_body (entries_in o) n);
      linear = subst (λ z. IsLinearWithin v i vs z k) (closed_between o b can.so_far (network_body (entries_in o) n)) (joint_linear o b h i us vs (closed_in o can.so_far) (network_in o n) l r k since can.scope two left_now right_now fits joint leads);
      joined = can.joined;
    }

pub all_joined : (o : Origin) (b : PlainSign) (whole : Process) (g : Sig) (ts : List Tree) (l : PlainLinear) (queue rest : List PlainLinear) → CanBeJoined o b whole g ts l no_networks queue rest → IsComposed (scope_meant (entries_in o) (around_sign b)) whole g ts queue rest l
all_joined o b whole g ts l queue rest k = record {
  identifiers = k.identifiers;
  linear = subst (λ p. IsLinearWithin (scope_meant (entries_in o) (around_sign b)) g ts p l) k.joined k.linear;
  is_left = none_in_front k.parts.parts k.parts.are k.parts.first;
}
  where
    none_in_front : (ls : List PlainLinear) → AllZip (λ c l. IsLinearFor g ts (component_in o c) l) [] ls → queue ≡ ls ++ rest → queue ≡ rest
    none_in_front [] a e = e
    none_in_front (m ∷ ls) a e = absurd a
