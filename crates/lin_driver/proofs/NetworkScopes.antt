-- Which labels matter of the parts of a network: what fits, what stays so as names are added, and what goes through operators.
use Rattle.std.proofs.Common.{◌≡◌, ◌==◌, Bool, true, false, List, [], ◌∷◌, ◌++◌, map, refl, sym, ap, ◌∙◌, subst, inl, inr, append_assoc, length, arith}
use Rattle.std.specs.Prelude.{Contains, IfOk, Result, Ok, Err, Vec}
use Rattle.std.specs.List.{All}
use Rattle.std.specs.Global.{Global, Box}
use Rattle.std.proofs.lemmas.Bool.Decides.{Decides-eqb}
use Rattle.std.proofs.lemmas.List.Elements.{All-nil}
use Rattle.data_theory.specs.declared.ids.NameId.{NameId}
use Rattle.data_theory.specs.Signature.{Sig}
use Rattle.data_theory.specs.WholeSignatures.{IsSignature}
use Rattle.data_theory.specs.IdTerms.{IsGrown}
use Rattle.data_theory.specs.IdTrees.{Tree}
use Rattle.process_terms.specs.Communication.{Rule}
use Rattle.process_terms.specs.Labels.{Label, names, Permuted, nothing_left, one_placed, at_front, further}
use Rattle.process_terms.specs.Meanings.{Entries, name_at, rule_of, around_of}
use Rattle.process_terms.specs.Names.{Name}
use Rattle.process_terms.specs.declared.comm_rules.CommRule.{CommRule}
use Rattle.process_terms.specs.declared.components.Component.{Component}
use Rattle.process_terms.specs.PlainProcesses.{plain_rule, PlainRule, PlainAround, allow, block, hide, rename, comm}
use Rattle.process_terms.specs.Processes as written
use Rattle.process_terms.specs.Steps.{Passes}
use Rattle.process_terms.specs.SignatureEntries.{entries_of, BothGrow}
use Rattle.lps_core.proofs.PoolTrees.{extends_itself}
use Rattle.process_terms.specs.Theories.{Theory}
use Rattle.process_terms.proofs.PermutedLists.{permuted_refl, permuted_trans, permuted_append}
use Rattle.bisim_laws.specs.Completable.{OpensTo, stays_closed, opens, Opened, nothing_to_open, one_opened, CanBeCompleted, IsCompletable}
use Rattle.bisim_laws.specs.Scopes as theory
use Rattle.bisim_laws.specs.Scopes.{Matters}
use Rattle.bisim_laws.specs.Within.{GoesToParts, ComeFrom}
use Rattle.bisim_laws.specs.WithinLaws.{ComesFromOpened}
use Rattle.bisim_laws.proofs.Completing.{comes_from_opened, opened_along, goes_to_parts, under_allow_alone}
use Rattle.bisim_laws.proofs.Firing.{contains_none}
use Rattle.action_filters.specs.Filters.{IsNameIn}
use Rattle.communication.specs.PlaceConditions.{RuleNamesIn}
use Rattle.summand_expander.specs.PlainAllowed.{PlainAllowed}
use Rattle.summand_expander.specs.WithinProducts.{AllowedFits, scope_of}
use Rattle.summand_expander.proofs.AllowedStays.{scopes_stay, allowed_fits_still}
use Rattle.proc_unfold.specs.declared.networks.NetOp.{NetOp}
use Rattle.proc_unfold.specs.declared.networks.Network.{Network}
use Rattle.proc_unfold.specs.declared.networks.Network.TheVariants as nets
use Rattle.proc_unfold.specs.Networks.{PlainNetwork, leaf, side_by_side, left_merge, sync, under, plain_network}
use Rattle.proc_unfold.proofs.ProcessSteps.{leaf_step, side_step, left_merged_step, synced_step, under_step}
use Rattle.lin_driver.specs.FittingOperators.{OperatorFits}
use Rattle.lin_driver.specs.declared.scopes.Scope.{Scope}
use Rattle.lin_driver.specs.NetworkScopes.{PlainScope, everything, completable, plain_scope, scope_meant, ScopeFits, within_sets, within_rules, below_comm, below, inside, PlainSign, merging, beginning, around_sign, beside_sign}

-- ---- the names are those of the signature
rules_fit : (g : Sig) (rules others : List PlainRule) (sets : List (List NameId)) → OperatorFits g (comm rules) → All (All (IsNameIn g)) sets → ScopeFits g (within_rules rules others sets)
rules_fit g rules [] sets k l = record { sets = l; rules = k.names }
rules_fit g rules (c ∷ cs) sets k l = tt

pub below_fits : (g : Sig) (a : PlainAround) (w : PlainScope) → OperatorFits g a → ScopeFits g w → ScopeFits g (below a w)
below_fits g (allow sets) w k l = record { sets = k; rules = All-nil (RuleNamesIn g) }
below_fits g (comm rules) everything k l = tt
below_fits g (comm rules) (completable a) k l = rules_fit g rules a.rules a.sets k l.sets
below_fits g (block names) w k l = tt
below_fits g (hide names) w k l = tt
below_fits g (rename pairs) w k l = tt

inside_fits : (g : Sig) (w : PlainScope) (n : PlainNetwork) → ScopeFits g w → ScopeFits g (inside w n)
inside_fits g w (leaf c) k = tt
inside_fits g w (side_by_side ns) k = k
inside_fits g w (left_merge m n) k = tt
inside_fits g w (sync ns) k = tt
inside_fits g w (under a n) k = tt

pub beside_fits : (g : Sig) (b : PlainSign) (n : PlainNetwork) → ScopeFits g (around_sign b) → ScopeFits g (beside_sign b n)
beside_fits g (merging w) n k = inside_fits g w n k
beside_fits g (beginning o) n k = tt

-- ---- as signature and pool grow
pub scope_stays : (g h : Sig) (ts us : List Tree) (w : PlainScope) → IsSignature g → BothGrow g h ts us → ScopeFits g w → scope_meant (entries_of h us) w ≡ scope_meant (entries_of g ts) w
scope_stays g h ts us everything s grow k = refl
scope_stays g h ts us (completable a) s grow k = scopes_stay g h ts us a k grow

pub scope_fits_still : (g h : Sig) (w : PlainScope) → IsSignature g → IsGrown g h → ScopeFits g w → ScopeFits h w
scope_fits_still g h everything s grow k = tt
scope_fits_still g h (completable a) s grow k = allowed_fits_still g h [] [] a k (record { signature = grow; pool = extends_itself [] })

-- ---- parts of a joint label
pub parts_matter : (e : Entries) (w : PlainScope) → GoesToParts (Matters (scope_meant e w))
parts_matter e everything = record { first = λ ms ns k. tt; second = λ ms ns k. tt }
parts_matter e (completable a) = goes_to_parts (map (rule_of e) a.rules) (map (map (name_at e)) a.sets)

-- ---- through operators
-- without rules nothing opens
no_rule : {n : Name} {piece : List Name} → OpensTo [] n piece → piece ≡ n ∷ []
no_rule stays_closed = refl
no_rule (opens {c = c} i) = absurd (contains_none c i)

unopened : {ns os : List Name} → Opened [] ns os → os ≡ ns
unopened nothing_to_open = refl
unopened (one_opened {n = n} {os = os} o h) = ap (λ piece. piece ++ os) (no_rule o) ∙ ap (λ z. n ∷ z) (unopened h)

-- what opens one behind the other
opened_both : {rules : List Rule} {ms ns os vs : List Name} → Opened rules ms os → Opened rules ns vs → Opened rules (ms ++ ns) (os ++ vs)
opened_both nothing_to_open k = k
opened_both {rules} {ns = others} {vs = vs} (one_opened {n = n} {ns = ns} {piece = piece} {os = os} o h) k = subst (λ z. Opened rules (n ∷ (ns ++ others)) z) (sym (append_assoc piece os vs)) (one_opened o (opened_both h k))

stays_unopened : (rules : List Rule) (ns : List Name) → Opened rules ns ns
stays_unopened rules [] = nothing_to_open
stays_unopened rules (n ∷ ns) = one_opened stays_closed (stays_unopened rules ns)

nothing_left_over : {ms os : List Name} → Permuted ms os → os ≡ [] → ms ≡ []
nothing_left_over nothing_left e = refl
nothing_left_over (one_placed p at_front) e = absurd cc
nothing_left_over (one_placed p (further i)) e = absurd cc

-- of what communicates to a part of a set, others can make that set
completed_part : (rules : List Rule) (sets : List (List Name)) (m n : Label) → ComesFromOpened rules m n → IsCompletable [] sets (names n) → IsCompletable rules sets (names m)
completed_part rules sets m n h (inl e) =
    let none : h.opened ≡ [] = none_opened (subst (λ z. Opened rules z h.opened) e h.opens) in
    inl (nothing_left_over h.same none)
  where
    none_opened : {os : List Name} → Opened rules [] os → os ≡ []
    none_opened nothing_to_open = refl
completed_part rules sets m n h (inr v) =
    let whole : Permuted (names n ++ v.others) v.set = subst (λ z. Permuted (names n ++ v.others) z) (unopened v.opens) v.contained in
    let r = opened_along whole (opened_both h.opens (stays_unopened rules v.others)) in
    inr (record { set = v.set; among = v.among; opened = r.opened; opens = r.is_opened; others = v.others; contained = permuted_trans (permuted_append h.same (permuted_refl v.others)) r.same })

under_rules : (th : Theory) (e : Entries) (rules others : List PlainRule) (sets : List (List NameId))
    → ComeFrom th (written.comm (map (rule_of e) rules)) (Matters (scope_of e (record { sets = sets; rules = others }))) (Matters (scope_meant e (within_rules rules others sets)))
under_rules th e rules [] sets m n p k = completed_part (map (rule_of e) rules) (map (map (name_at e)) sets) m n (comes_from_opened th (map (rule_of e) rules) m n p) k
under_rules th e rules (c ∷ cs) sets m n p k = tt

-- a label that comes out of an operator and matters around it went in as one that matters below it
pub matters_below : (th : Theory) (e : Entries) (a : PlainAround) (w : PlainScope) → ComeFrom th (around_of e a) (Matters (scope_meant e w)) (Matters (scope_meant e (below a w)))
matters_below th e (allow sets) w m n p k = under_allow_alone th (map (map (name_at e)) sets) m n p tt
matters_below th e (comm rules) everything m n p k = tt
matters_below th e (comm rules) (completable a) m n p k = under_rules th e rules a.rules a.sets m n p k
matters_below th e (block names) w m n p k = tt
matters_below th e (hide names) w m n p k = tt
matters_below th e (rename pairs) w m n p k = tt

-- ---- which labels matter of a network in code, beside others
pub beside_a_merge : (b : PlainSign) (n : Network) (ns : Vec Network Global) → n ≡ nets.Merge ns → beside_sign b (plain_network n) ≡ around_sign b
beside_a_merge (merging w) n ns is = subst (λ m. beside_sign (merging w) m ≡ w) (sym (ap plain_network is ∙ side_step ns)) refl
beside_a_merge (beginning o) n ns is = refl

pub beside_a_leaf : (b : PlainSign) (n : Network) (c : Component) → n ≡ nets.Leaf c → beside_sign b (plain_network n) ≡ everything
beside_a_leaf (merging w) n c is = subst (λ m. beside_sign (merging w) m ≡ everything) (sym (ap plain_network is ∙ leaf_step c)) refl
beside_a_leaf (beginning o) n c is = refl

pub beside_a_left_merge : (b : PlainSign) (n : Network) (x y : Box Network) → n ≡ nets.LeftMerge x y → beside_sign b (plain_network n) ≡ everything
beside_a_left_merge (merging w) n x y is = subst (λ m. beside_sign (merging w) m ≡ everything) (sym (ap plain_network is ∙ left_merged_step x y)) refl
beside_a_left_merge (beginning o) n x y is = refl

pub beside_a_sync : (b : PlainSign) (n : Network) (ns : Vec Network Global) → n ≡ nets.Sync ns → beside_sign b (plain_network n) ≡ everything
beside_a_sync (merging w) n ns is = subst (λ m. beside_sign (merging w) m ≡ everything) (sym (ap plain_network is ∙ synced_step ns)) refl
beside_a_sync (beginning o) n ns is = refl

pub beside_an_operator : (b : PlainSign) (n : Network) (a : NetOp) (x : Box Network) → n ≡ nets.Op a x → beside_sign b (plain_network n) ≡ everything
beside_an_operator (merging w) n a x is = subst (λ m. beside_sign (merging w) m ≡ everything) (sym (ap plain_network is ∙ under_step a x)) refl
beside_an_operator (beginning o) n a x is = refl

-- ---- what calls answer
pub scope_is : {E : Type 0} (r : Result Scope E) (v w : PlainScope) → v ≡ w → IfOk r (λ scope. plain_scope scope ≡ v) → IfOk r (λ scope. plain_scope scope ≡ w)
scope_is (Ok x) v w same k = k ∙ same
scope_is (Err x) v w same k = tt

pub with_rules : (rules : List PlainRule) (items : List CommRule) (sets : List (List NameId)) (b : Bool) → b ≡ (length items == 0) → b ≡ false → within_rules rules (map plain_rule items) sets ≡ everything
with_rules rules [] sets b is e = let never : true ≡ false = sym is ∙ e in absurd cc
with_rules rules (c ∷ items) sets b is e = refl

pub without_rules : (rules : List PlainRule) (items : List CommRule) (sets : List (List NameId)) (b : Bool) → b ≡ (length items == 0) → b ≡ true → within_rules rules (map plain_rule items) sets ≡ completable (record { sets = sets; rules = rules })
without_rules rules [] sets b is e = refl
without_rules rules (c ∷ items) sets b is e = absurd (omega (arith, (Decides-eqb (length (c ∷ items)) 0).0 (sym is ∙ e)))
