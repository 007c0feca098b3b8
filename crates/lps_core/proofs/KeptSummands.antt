-- Summands of pools that are extended.
use Rattle.std.proofs.Common.{◌≡◌, List, [], ◌∷◌, map, refl, ap, ap₂, ◌∙◌, Option, Some, None}
use Rattle.std.specs.Prelude.{option_map, IfSome}
use Rattle.std.specs.List.{All}
use Rattle.std.proofs.lemmas.List.Elements.{All-head, All-tail}
use Rattle.data_theory.specs.declared.ids.TermId.{TermId}
use Rattle.data_theory.specs.IdTrees.{Tree}
use Rattle.term_pool.specs.HeadTrees.{tree_at, trees_at, AreIn}
use Rattle.term_pool.specs.Pools.{Extends}
use Rattle.lps_core.specs.PlainLinears.{PlainSummand}
use Rattle.lps_core.specs.TreeSummands.{trees_of_label, trees_of_summand, IsSummandIn}
use Rattle.lps_core.proofs.PoolTrees.{tree_kept, trees_kept, all_in_kept, actions_in_kept, actions_kept}

pub next_in_kept : (ts us : List Tree) → Extends ts us → (next : Option (List TermId)) → IfSome next (AreIn ts) → IfSome next (AreIn us)
next_in_kept ts us e None h = h
next_in_kept ts us e (Some ids) h = all_in_kept ts us ids e h

pub summand_in_kept : (ts us : List Tree) → Extends ts us → (s : PlainSummand) → IsSummandIn ts s → IsSummandIn us s
summand_in_kept ts us e s h = record { condition = (tree_kept ts us s.condition e h.condition).1; label = actions_in_kept ts us s.label e h.label; next = next_in_kept ts us e s.next h.next }

pub next_trees_kept : (ts us : List Tree) → Extends ts us → (next : Option (List TermId)) → IfSome next (AreIn ts) → option_map (trees_at us) next ≡ option_map (trees_at ts) next
next_trees_kept ts us e None h = refl
next_trees_kept ts us e (Some ids) h = ap Some (trees_kept ts us ids e h)

pub summand_kept : (ts us : List Tree) → Extends ts us → (s : PlainSummand) → IsSummandIn ts s → trees_of_summand us s ≡ trees_of_summand ts s
summand_kept ts us e s h =
    ap₂ (λ c m. record { sums = s.sums; condition = c; label = m; next = option_map (trees_at us) s.next }) (tree_kept ts us s.condition e h.condition).0 (actions_kept ts us s.label e h.label)
    ∙ ap (λ n. record { sums = s.sums; condition = tree_at ts s.condition; label = trees_of_label ts s.label; next = n }) (next_trees_kept ts us e s.next h.next)

pub summands_kept : (ts us : List Tree) → Extends ts us → (ss : List PlainSummand) → All (IsSummandIn ts) ss → map (trees_of_summand us) ss ≡ map (trees_of_summand ts) ss
summands_kept ts us e [] h = refl
summands_kept ts us e (s ∷ ss) h = ap₂ (λ x xs. x ∷ xs) (summand_kept ts us e s (All-head (IsSummandIn ts) s ss h)) (summands_kept ts us e ss (All-tail (IsSummandIn ts) s ss h))
