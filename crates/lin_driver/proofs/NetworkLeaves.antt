-- The leaves of a network in code, and what holds of each.
use Rattle.std.proofs.Common.{◌≡◌, ◌<◌, ◌+◌, ℕ, List, [], ◌∷◌, ◌++◌, map, take, length, get_or, refl, sym, ap, ◌∙◌, append_assoc, append-nil, arith}
use Rattle.std.specs.List.{All}
use Rattle.std.proofs.lemmas.List.{map_more}
use Rattle.std.proofs.lemmas.List.Elements.{All-nil, All-cons, All-append}
use Rattle.process_terms.specs.PlainProcesses.{delta, PlainComponent, term_of}
use Rattle.proc_unfold.specs.declared.networks.Network.{Network}
use Rattle.proc_unfold.specs.Networks.{PlainNetwork, PlainNetworks, leaf, side_by_side, left_merge, sync, under, no_networks, more_networks, networks_of, plain_network, AllComponents, AllComponentsOfEach}
use Rattle.lin_driver.specs.Leaves.{leaves, leaves_beside, more_leaves}

-- ---- as the walk finds them
abbrev pub leaves_of_each : List Network → List PlainComponent
leaves_of_each ns = more_leaves (networks_of (map plain_network ns))

-- where there is a part, there is no leaf beside those of the parts
pub some_beside : (ns : List Network) → 0 < length ns → leaves_of_each ns ≡ leaves_beside (networks_of (map plain_network ns))
some_beside [] l = absurd (omega (arith, l))
some_beside (n ∷ ns) l = refl

pub none_beside : (ns : List Network) → length ns ≡ 0 → leaves_beside (networks_of (map plain_network ns)) ≡ term_of delta ∷ []
none_beside [] e = refl
none_beside (n ∷ ns) e = absurd (omega (arith, e))

one_more : (ns : List PlainNetwork) (n : PlainNetwork) → more_leaves (networks_of (ns ++ n ∷ [])) ≡ more_leaves (networks_of ns) ++ leaves n
one_more [] n = append-nil (leaves n)
one_more (m ∷ ns) n = ap (λ cs. leaves m ++ cs) (one_more ns n) ∙ sym (append_assoc (leaves m) (more_leaves (networks_of ns)) (leaves n))

pub leaves_more : (ns : List Network) (i : ℕ) (n : Network) (start middle end : List PlainComponent) → i < length ns → n ≡ get_or ns i n → middle ≡ start ++ leaves_of_each (take i ns) → end ≡ middle ++ leaves (plain_network n)
    → end ≡ start ++ leaves_of_each (take (i + 1) ns)
leaves_more ns i n start middle end l is before now =
    now ∙ ap (λ cs. cs ++ leaves (plain_network n)) before ∙ append_assoc start (leaves_of_each (take i ns)) (leaves (plain_network n))
    ∙ ap (λ cs. start ++ cs) (sym (one_more (map plain_network (take i ns)) (plain_network n)) ∙ ap (λ z. more_leaves (networks_of (map plain_network (take i ns) ++ plain_network z ∷ []))) is ∙ ap (λ zs. more_leaves (networks_of zs)) (sym (map_more plain_network ns i n l)))

-- ---- what holds of all components
module _ (P : PlainComponent → Type 0) (none : P (term_of delta)) where
  mutual
    pub all_leaves : (n : PlainNetwork) → AllComponents P n → All P (leaves n)
    all_leaves (leaf c) k = All-cons P c [] k (All-nil P)
    all_leaves (side_by_side ns) k = all_beside ns k
    all_leaves (left_merge m n) k = All-append P (leaves m) (leaves n) (all_leaves m k.0) (all_leaves n k.1)
    all_leaves (sync ns) k = all_beside ns k
    all_leaves (under o n) k = all_leaves n k

    all_beside : (ns : PlainNetworks) → AllComponentsOfEach P ns → All P (leaves_beside ns)
    all_beside no_networks k = All-cons P (term_of delta) [] none (All-nil P)
    all_beside (more_networks n ns) k = All-append P (leaves n) (more_leaves ns) (all_leaves n k.0) (all_more ns k.1)

    all_more : (ns : PlainNetworks) → AllComponentsOfEach P ns → All P (more_leaves ns)
    all_more no_networks k = All-nil P
    all_more (more_networks n ns) k = All-append P (leaves n) (more_leaves ns) (all_leaves n k.0) (all_more ns k.1)

-- what follows from two things that hold of each
mutual
  pub both_hold : (P Q R : PlainComponent → Type 0) → ((c : PlainComponent) → P c → Q c → R c) → (n : PlainNetwork) → AllComponents P n → AllComponents Q n → AllComponents R n
  both_hold P Q R f (leaf c) k l = f c k l
  both_hold P Q R f (side_by_side ns) k l = both_hold_of_each P Q R f ns k l
  both_hold P Q R f (left_merge m n) k l = (both_hold P Q R f m k.0 l.0, both_hold P Q R f n k.1 l.1)
  both_hold P Q R f (sync ns) k l = both_hold_of_each P Q R f ns k l
  both_hold P Q R f (under o n) k l = both_hold P Q R f n k l

  both_hold_of_each : (P Q R : PlainComponent → Type 0) → ((c : PlainComponent) → P c → Q c → R c) → (ns : PlainNetworks) → AllComponentsOfEach P ns → AllComponentsOfEach Q ns → AllComponentsOfEach R ns
  both_hold_of_each P Q R f no_networks k l = tt
  both_hold_of_each P Q R f (more_networks n ns) k l = (both_hold P Q R f n k.0 l.0, both_hold_of_each P Q R f ns k.1 l.1)
