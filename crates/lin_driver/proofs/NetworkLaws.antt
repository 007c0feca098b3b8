-- The linear process of a network under `comm` under `allow` is what both keep of whole products.
use Rattle.std.proofs.Common.{◌≡◌, false, List, [], ◌∷◌, map, refl, sym, ap, ap₂, ◌∙◌, subst}
use Rattle.std.specs.List.{All}
use Rattle.std.proofs.lemmas.List.Elements.{All-nil, All-head, All-tail, All-weaker}
use Rattle.data_theory.specs.declared.ids.NameId.{NameId}
use Rattle.data_theory.specs.Signature.{Sig}
use Rattle.data_theory.specs.WholeSignatures.{IsSignature}
use Rattle.data_theory.specs.IdTrees.{Tree}
use Rattle.term_pool.specs.Pools.{Extends}
use Rattle.process_terms.specs.Communication.{Rule}
use Rattle.process_terms.specs.Meanings.{name_at, rule_of}
use Rattle.process_terms.specs.Names.{Name}
use Rattle.process_terms.specs.PlainProcesses.{PlainRule, PlainAround, allow, comm}
use Rattle.process_terms.specs.Processes as written
use Rattle.process_terms.specs.SignatureEntries.{entries_of, BothGrow}
use Rattle.bisim_laws.specs.Scopes as theory
use Rattle.lps_core.specs.Fitting.{Fits}
use Rattle.lps_core.specs.Naming.{GrowsByNames}
use Rattle.lps_core.specs.PlainLinears.{PlainLinear, linear_of}
use Rattle.lps_core.proofs.NamedSums.{names_none, names_then}
use Rattle.lps_core.proofs.PoolTrees.{extends_itself, extends_on}
use Rattle.lps_core.proofs.Staying.{what_fits_stays}
use Rattle.lps_core.proofs.StayingFits.{what_fits_fits_still}
use Rattle.action_filters.specs.Filtering.{allowing}
use Rattle.action_filters.proofs.Whole.{allow_means}
use Rattle.communication.specs.Communicated.{communicating}
use Rattle.summand_expander.specs.LeavingOut.{MergeTree, one_process, two_sides, full}
use Rattle.summand_expander.specs.MadeMerges.{IsMergeBy, one_part, as_later, two_parts}
use Rattle.summand_expander.specs.PlainAllowed.{PlainAllowed}
use Rattle.summand_expander.specs.Pruned.{product_within}
use Rattle.summand_expander.specs.PrunedLaws.{Tells}
use Rattle.summand_expander.specs.PruningLaws.{can_complete}
use Rattle.summand_expander.specs.WithinProducts.{AllowedFits, scope_of}
use Rattle.summand_expander.proofs.AllowedStays.{scopes_stay, allowed_fits_still}
use Rattle.summand_expander.proofs.MadeMerges.{any_test, keeps_the_same_in_code}
use Rattle.summand_expander.proofs.ToldCompletable.{test_tells}
use Rattle.greibach.proofs.GrownFits.{both_by_names, pool_alone}
use Rattle.proc_unfold.specs.Networks.{PlainNetwork, PlainNetworks, leaf, side_by_side, left_merge, sync, under, no_networks, more_networks}
use Rattle.lin_driver.specs.FittingOperators.{OperatorFits}
use Rattle.lin_driver.specs.NetworkLaws.{IsOfPart, FollowsNetwork, as_one_process, as_delta, as_merges, FollowsParts, no_more_parts, one_more_part, WhatIsKeptIsOfWholeProducts}
use Rattle.lin_driver.specs.NetworkProducts.{ComposedFrom, that_of_the_leaf, that_of_none, that_of_no_sync, side_by_side_with, left_merged_with, synced_with, under_an_operator, JoinedWith, with_none, with_one_more}
use Rattle.lin_driver.specs.NetworkScopes.{PlainScope, everything, completable, is_side_by_side, inside, PlainSign, merging, beginning, beside_sign}

-- ---- growth on the way
record HasCome (g h : Sig) (ts us : List Tree) (left : List PlainLinear) (l : PlainLinear) : Type 0 where
  grown : GrowsByNames g h
  kept : Extends ts us
  fits : Fits h us l
  left_fit : All (Fits h us) left

both : (g h : Sig) (ts us : List Tree) (left : List PlainLinear) (l : PlainLinear) → HasCome g h ts us left l → BothGrow g h ts us
both g h ts us left l r = both_by_names g h ts us r.grown r.kept

fits_on : (g h : Sig) (ts us : List Tree) → IsSignature g → IsSignature h → BothGrow g h ts us → (l : PlainLinear) → Fits g ts l → Fits h us l
fits_on g h ts us s t grow l f = what_fits_fits_still g h ts us l s.table s.complete t.table grow f

all_on : (g h : Sig) (ts us : List Tree) → IsSignature g → IsSignature h → BothGrow g h ts us → (ls : List PlainLinear) → All (Fits g ts) ls → All (Fits h us) ls
all_on g h ts us s t grow ls f = All-weaker (Fits g ts) (Fits h us) (fits_on g h ts us s t grow) ls f

come_first : (g : Sig) (ts : List Tree) (l : PlainLinear) (left : List PlainLinear) → IsSignature g → All (Fits g ts) (l ∷ left) → HasCome g g ts ts left l
come_first g ts l left s f = record { grown = names_none g s; kept = extends_itself ts; fits = All-head (Fits g ts) l left f; left_fit = All-tail (Fits g ts) l left f }

come_on : (g h i : Sig) (ts us vs : List Tree) (left last : List PlainLinear) (l k : PlainLinear) → HasCome g h ts us left l → HasCome h i us vs last k → HasCome g i ts vs last k
come_on g h i ts us vs left last l k r q = record { grown = names_then g h i r.grown q.grown; kept = extends_on ts us vs r.kept q.kept; fits = q.fits; left_fit = q.left_fit }

come_by : (g h i : Sig) (ts us vs : List Tree) (left : List PlainLinear) (l k : PlainLinear) → HasCome g h ts us left l → GrowsByNames h i → Extends us vs → Fits i vs k → HasCome g i ts vs left k
come_by g h i ts us vs left l k r by kept fits = record {
  grown = names_then g h i r.grown by;
  kept = extends_on ts us vs r.kept kept;
  fits = fits;
  left_fit = all_on h i us vs r.grown.stands by.stands (both_by_names h i us vs by kept) left r.left_fit;
}

come_last : (b : PlainSign) (g h i : Sig) (ts us vs : List Tree) (left last : List PlainLinear) (l k : PlainLinear) → JoinedWith b h us l no_networks left i vs last k → HasCome g h ts us left l → HasCome g i ts vs last k
come_last b g h i ts us vs left last l k with_none r = r

-- the right side of a left merge
come_second : (n : PlainNetwork) (g h : Sig) (ts us : List Tree) (l : PlainLinear) (queue left : List PlainLinear) (k : PlainLinear)
    → ((i j : Sig) (vs xs : List Tree) (ls rest : List PlainLinear) (m : PlainLinear) → ComposedFrom everything i vs n ls j xs rest m → IsSignature i → All (Fits i vs) ls → HasCome i j vs xs rest m)
    → JoinedWith (beginning written.left_merge) g ts l (more_networks n no_networks) queue h us left k → IsSignature g → All (Fits g ts) queue → HasCome g h ts us left k
come_second n g h ts us l queue left k comes (with_one_more {h = i} {i = j} {us = vs} {vs = xs} {between = between} {r = r} {m = m} c by kept fits joint more) s f =
    come_last (beginning written.left_merge) g j h ts xs us between left m k more (come_by g i j ts vs xs between r m (comes g i ts vs queue between r c s f) by kept fits)

mutual
  come : (n : PlainNetwork) (w : PlainScope) (g h : Sig) (ts us : List Tree) (queue left : List PlainLinear) (l : PlainLinear) → ComposedFrom w g ts n queue h us left l → IsSignature g → All (Fits g ts) queue → HasCome g h ts us left l
  come (leaf c) w g h ts us queue left l that_of_the_leaf s f = come_first g ts l left s f
  come (side_by_side ns) w g h ts us queue left l d s f = come_beside ns w g h ts us queue left l d s f
  come (left_merge m n) w g h ts us queue left l (left_merged_with {h = i} {us = vs} {between = between} {l = k} c j) s f =
      let r = come m everything g i ts vs queue between k c s f in
      come_on g i h ts vs us between left k l r (come_second n i h vs us k between left l (come n everything) j r.grown.stands r.left_fit)
  come (sync ns) w g h ts us queue left l d s f = come_synced ns w g h ts us queue left l d s f
  come (under a n) w g h ts us queue left l (under_an_operator {us = vs} {l = m} d kept fits made) s f =
      let r = come n _ g h ts vs queue left m d s f in
      come_by g h h ts vs us left m l r (names_none h r.grown.stands) kept fits

  come_beside : (ns : PlainNetworks) (w : PlainScope) (g h : Sig) (ts us : List Tree) (queue left : List PlainLinear) (l : PlainLinear) → ComposedFrom w g ts (side_by_side ns) queue h us left l → IsSignature g → All (Fits g ts) queue → HasCome g h ts us left l
  come_beside no_networks w g h ts us queue left l that_of_none s f = come_first g ts l left s f
  come_beside (more_networks n ns) w g h ts us queue left l (side_by_side_with {h = i} {us = vs} {between = between} {l = m} c j) s f =
      let r = come n (inside w n) g i ts vs queue between m c s f in
      come_on g i h ts vs us between left m l r (come_joined ns (merging w) i h vs us m between left l j r.grown.stands r.fits r.left_fit)

  come_synced : (ns : PlainNetworks) (w : PlainScope) (g h : Sig) (ts us : List Tree) (queue left : List PlainLinear) (l : PlainLinear) → ComposedFrom w g ts (sync ns) queue h us left l → IsSignature g → All (Fits g ts) queue → HasCome g h ts us left l
  come_synced no_networks w g h ts us queue left l that_of_no_sync s f = come_first g ts l left s f
  come_synced (more_networks n ns) w g h ts us queue left l (synced_with {h = i} {us = vs} {between = between} {l = m} c j) s f =
      let r = come n everything g i ts vs queue between m c s f in
      come_on g i h ts vs us between left m l r (come_joined ns (beginning written.sync) i h vs us m between left l j r.grown.stands r.fits r.left_fit)

  come_joined : (ns : PlainNetworks) (b : PlainSign) (g h : Sig) (ts us : List Tree) (l : PlainLinear) (queue left : List PlainLinear) (k : PlainLinear) → JoinedWith b g ts l ns queue h us left k → IsSignature g → Fits g ts l → All (Fits g ts) queue → HasCome g h ts us left k
  come_joined no_networks b g h ts us l queue left k with_none s fl f = record { grown = names_none g s; kept = extends_itself ts; fits = fl; left_fit = f }
  come_joined (more_networks n ns) b g h ts us l queue left k (with_one_more {h = i} {i = j} {us = vs} {vs = xs} {between = between} {r = r} {m = m} c by kept fits joint more) s fl f =
      let first = come n (beside_sign b n) g i ts vs queue between r c s f in
      let next = come_by g i j ts vs xs between r m first by kept fits in
      come_on g j h ts xs us between left m k next (come_joined ns b j h xs us m between left k more by.stands fits next.left_fit)

-- ---- the merges
module _ (a : PlainAllowed) (rules : List Rule) (sets : List (List Name)) where
  -- what is allowed, where the signature has come
  record IsAllowed (g : Sig) (ts : List Tree) : Type 0 where
    fits : AllowedFits g a
    means : scope_of (entries_of g ts) a ≡ theory.completable rules sets

  allowed_on : (g h : Sig) (ts us : List Tree) → BothGrow g h ts us → IsAllowed g ts → IsAllowed h us
  allowed_on g h ts us grow k = record { fits = allowed_fits_still g h ts us a k.fits grow; means = scopes_stay g h ts us a k.fits grow ∙ k.means }

  abbrev Merged : Sig → List Tree → MergeTree → PlainLinear → Type 0
  Merged = IsMergeBy (product_within (can_complete rules sets))

  merged_on : (g h : Sig) (ts us : List Tree) (t : MergeTree) (l : PlainLinear) → IsSignature g → BothGrow g h ts us → Fits g ts l → Merged g ts t l → Merged h us t l
  merged_on g h ts us t l s grow f k = as_later (what_fits_stays g h ts us l s.table s.complete grow f).0 k

  record IsMerge (n : PlainNetwork) (h : Sig) (us : List Tree) (l : PlainLinear) : Type 0 where
    tree : MergeTree
    follows : FollowsNetwork n tree
    merged : Merged h us tree l

  record AreMerges (t : MergeTree) (ns : PlainNetworks) (h : Sig) (us : List Tree) (l : PlainLinear) : Type 0 where
    tree : MergeTree
    follows : FollowsParts t ns tree
    merged : Merged h us tree l

  one_linear : (n : PlainNetwork) (g h : Sig) (ts us : List Tree) (queue left : List PlainLinear) (l : PlainLinear) → is_side_by_side n ≡ false → ComposedFrom everything g ts n queue h us left l → IsMerge n h us l
  one_linear n g h ts us queue left l other d = record {
    tree = one_process (linear_of (entries_of h us) l);
    follows = as_one_process other (record { before = g; trees_before = ts; queue = queue; after = h; trees_after = us; left = left; made = l; composed = d; is = refl });
    merged = one_part;
  }

  mutual
    part_merge : (n : PlainNetwork) (g h : Sig) (ts us : List Tree) (queue left : List PlainLinear) (l : PlainLinear) → ComposedFrom (inside (completable a) n) g ts n queue h us left l → IsSignature g → All (Fits g ts) queue → IsAllowed g ts → IsMerge n h us l
    part_merge (leaf c) g h ts us queue left l d s f k = one_linear (leaf c) g h ts us queue left l refl d
    part_merge (side_by_side ns) g h ts us queue left l d s f k = beside_merge ns g h ts us queue left l d s f k
    part_merge (left_merge m n) g h ts us queue left l d s f k = one_linear (left_merge m n) g h ts us queue left l refl d
    part_merge (sync ns) g h ts us queue left l d s f k = one_linear (sync ns) g h ts us queue left l refl d
    part_merge (under o n) g h ts us queue left l d s f k = one_linear (under o n) g h ts us queue left l refl d

    beside_merge : (ns : PlainNetworks) (g h : Sig) (ts us : List Tree) (queue left : List PlainLinear) (l : PlainLinear) → ComposedFrom (completable a) g ts (side_by_side ns) queue h us left l → IsSignature g → All (Fits g ts) queue → IsAllowed g ts → IsMerge (side_by_side ns) h us l
    beside_merge no_networks g h ts us queue left l that_of_none s f k = record { tree = one_process (linear_of (entries_of g ts) l); follows = as_delta; merged = one_part }
    beside_merge (more_networks n ns) g h ts us queue left l (side_by_side_with {h = i} {us = vs} {between = between} {l = m} c j) s f k =
        let r = come n (inside (completable a) n) g i ts vs queue between m c s f in
        let first = part_merge n g i ts vs queue between m c s f k in
        let all = joined_merge ns i h vs us m first.tree between left l j r.grown.stands r.fits r.left_fit (allowed_on g i ts vs (both g i ts vs between m r) k) first.merged in
        record { tree = all.tree; follows = as_merges first.follows all.follows; merged = all.merged }

    joined_merge : (ns : PlainNetworks) (g h : Sig) (ts us : List Tree) (l : PlainLinear) (t : MergeTree) (queue left : List PlainLinear) (k : PlainLinear) → JoinedWith (merging (completable a)) g ts l ns queue h us left k → IsSignature g → Fits g ts l → All (Fits g ts) queue → IsAllowed g ts
        → Merged g ts t l → AreMerges t ns h us k
    joined_merge no_networks g h ts us l t queue left k with_none s fl f is mt = record { tree = t; follows = no_more_parts; merged = mt }
    joined_merge (more_networks n ns) g h ts us l t queue left k (with_one_more {h = i} {i = j} {us = vs} {vs = xs} {between = between} {r = r} {m = m} c by kept fits joint more) s fl f is mt =
        let first = come n (inside (completable a) n) g i ts vs queue between r c s f in
        let one = both g i ts vs between r first in
        let two = both_by_names i j vs xs by kept in
        let next = come_by g i j ts vs xs between r m first by kept fits in
        let part = part_merge n g i ts vs queue between r c s f is in
        let here = allowed_on i j vs xs two (allowed_on g i ts vs one is) in
        let left_there = merged_on i j vs xs t l first.grown.stands two (fits_on g i ts vs s first.grown.stands one l fl) (merged_on g i ts vs t l s one fl mt) in
        let right_there = merged_on i j vs xs part.tree r first.grown.stands two first.fits part.merged in
        let made = any_test i j xs (scope_of (entries_of j xs) a) l r m (can_complete rules sets) (subst (Tells (can_complete rules sets)) (sym here.means) (test_tells rules sets)) joint in
        let rest = joined_merge ns j h xs us m _ between left k more by.stands fits next.left_fit here (two_parts left_there right_there made) in
        record { tree = rest.tree; follows = one_more_part part.follows rest.follows; merged = rest.merged }

-- ---- the law
pub kept_of_whole : WhatIsKeptIsOfWholeProducts
kept_of_whole w g h ts us sets rules ns queue left k s sets_fit rules_fit f (under_an_operator {us = vs} {l = m} (under_an_operator {us = xs} {l = l} d kept' fits' made') kept fits made) =
    let a : PlainAllowed = record { sets = sets; rules = rules } in
    let e = entries_of h us in
    let names = map (map (name_at e)) sets in
    let told = map (rule_of e) rules in
    let r = come_beside ns (completable a) g h ts xs queue left l d s f in
    let own : AllowedFits g a = record { sets = sets_fit; rules = rules_fit.names } in
    let up = both g h ts xs left l r in
    let stands = r.grown.stands in
    let on : AllowedFits h a = allowed_fits_still g h ts xs a own up in
    let here : IsAllowed a told names g ts = record { fits = own; means = sym (scopes_stay g h ts us a own (both_by_names g h ts us r.grown (extends_on ts xs us r.kept (extends_on xs vs us kept' kept)))) } in
    let merge = beside_merge a told names ns g h ts xs queue left l d s f here in
    let fit_m : Fits h vs m = fits' in
    let last : Fits h us m = fits_on h h vs us stands stands (pool_alone h vs us kept) m fit_m in
    let allowed_is : linear_of e k ≡ allowing names (linear_of e m) = ap (λ z. linear_of e z) made ∙ allow_means h us m stands last sets on.sets in
    let before : linear_of e m ≡ linear_of (entries_of h vs) m = (what_fits_stays h h vs us m stands.table stands.complete (pool_alone h vs us kept) fit_m).0 in
    let told_is : map (rule_of (entries_of h xs)) rules ≡ told = refl in
    let communicated : linear_of e m ≡ communicating told (linear_of (entries_of h xs) l) = before ∙ made'.means ∙ ap (λ z. communicating z (linear_of (entries_of h xs) l)) told_is in
    (merge.tree, merge.follows, allowed_is ∙ ap (allowing names) communicated ∙ sym (keeps_the_same_in_code told names h xs merge.tree l merge.merged))
