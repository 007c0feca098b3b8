-- Steps of the loop that puts initial terms in.
use Rattle.std.proofs.Common.{◌≡◌, ◌<◌, ◌≤◌, ◌+◌, ℕ, Bool, List, [], ◌∷◌, ◌++◌, map, take, length, get_or, refl, sym, ap, ap₂, ◌∙◌, subst, Option, Some, None}
use Rattle.std.specs.Prelude.{option_map}
use Rattle.std.specs.List.{All}
use Rattle.std.proofs.lemmas.List.{map-append, map_more, take_all}
use Rattle.std.proofs.lemmas.List.Elements.{All-nil, All-push, All-weaker}
use Rattle.data_theory.specs.declared.ids.VarId.{VarId}
use Rattle.data_theory.specs.declared.ids.TermId.{TermId}
use Rattle.data_theory.specs.IdTrees.{Tree, put_tree}
use Rattle.term_pool.specs.Bindings.{listed, listed_terms}
use Rattle.term_pool.specs.HeadTrees.{AreIn}
use Rattle.term_pool.specs.Pools.{Extends}
use Rattle.bisim_laws.specs.BaseStates.{Fate}
use Rattle.lps_core.specs.declared.linears.Summand.{Summand}
use Rattle.lps_core.specs.PlainLinears.{plain_summand}
use Rattle.lps_core.specs.TreeSummands.{TreeSummand, trees_of_summand, IsSummandIn, put_actions}
use Rattle.lps_core.proofs.KeptSummands.{summand_in_kept, summand_kept, summands_kept}
use Rattle.lps_core.proofs.PoolTrees.{extends_itself, extends_on, listed_kept, put_along, args_along, actions_along}
use Rattle.lps_parelm.specs.Keeping.{keep, fates_of}
use Rattle.lps_constelm.specs.Putting.{put_kept_summand}

pub next_put_along : (d e : VarId → Tree) → ((v : VarId) → d v ≡ e v) → (fates : List Fate) (next : Option (List Tree)) → option_map (λ us. map (put_tree d) (keep fates us)) next ≡ option_map (λ us. map (put_tree e) (keep fates us)) next
next_put_along d e h fates None = refl
next_put_along d e h fates (Some us) = ap (λ z. Some z) (args_along d e h (keep fates us))

pub put_kept_along : (d e : VarId → Tree) → ((v : VarId) → d v ≡ e v) → (fates : List Fate) (s : TreeSummand) → put_kept_summand d fates s ≡ put_kept_summand e fates s
put_kept_along d e h fates s =
    ap₂ (λ c m. record { sums = s.sums; condition = c; label = m; next = option_map (λ us. map (put_tree d) (keep fates us)) s.next }) (put_along d e h s.condition) (actions_along d e h s.label)
    ∙ ap (λ n. record { sums = s.sums; condition = put_tree e s.condition; label = put_actions e s.label; next = n }) (next_put_along d e h fates s.next)

pub record PutsSummands (ts : List Tree) (by : List (VarId × TermId)) (marks : List Bool) (items : List Summand) (i : ℕ) (us : List Tree) (made : List Summand) : Type 0 where
  pub kept : Extends ts us
  pub within : All (IsSummandIn us) (map plain_summand made)
  pub put : map (trees_of_summand us) (map plain_summand made) ≡ map (put_kept_summand (listed ts by) (fates_of marks)) (map (trees_of_summand ts) (map plain_summand (take i items)))

pub puts_none : (ts : List Tree) (by : List (VarId × TermId)) (marks : List Bool) (items made : List Summand) → made ≡ [] → PutsSummands ts by marks items 0 ts made
puts_none ts by marks items made e = subst (λ z. PutsSummands ts by marks items 0 ts z) (sym e) (record { kept = extends_itself ts; within = All-nil (IsSummandIn ts); put = refl })

pub puts_more : (ts : List Tree) (by : List (VarId × TermId)) (marks : List Bool) (items : List Summand) (i : ℕ) (us : List Tree) (made : List Summand) (s : Summand) → PutsSummands ts by marks items i us made → i < length items → s ≡ get_or items i s → IsSummandIn ts (plain_summand s) → AreIn ts (listed_terms by)
    → (vs : List Tree) (new : Summand) (now : List Summand) → Extends us vs → IsSummandIn vs (plain_summand new) → trees_of_summand vs (plain_summand new) ≡ put_kept_summand (listed us by) (fates_of marks) (trees_of_summand us (plain_summand s)) → now ≡ made ++ new ∷ [] → PutsSummands ts by marks items (i + 1) vs now
puts_more ts by marks items i us made s p l e within inside vs new now x w h q = subst (λ z. PutsSummands ts by marks items (i + 1) vs z) (sym q) (record {
  kept = extends_on ts us vs p.kept x;
  within = subst (λ z. All (IsSummandIn vs) z) (sym (map-append plain_summand made (new ∷ []))) (All-push (IsSummandIn vs) (map plain_summand made) (plain_summand new) (All-weaker (IsSummandIn us) (IsSummandIn vs) (λ t k. summand_in_kept us vs x t k) (map plain_summand made) p.within) w);
  put =
      ap (map (trees_of_summand vs)) (map-append plain_summand made (new ∷ []))
      ∙ map-append (trees_of_summand vs) (map plain_summand made) (plain_summand new ∷ [])
      ∙ ap₂ (λ zs z. zs ++ z ∷ []) (summands_kept us vs x (map plain_summand made) p.within ∙ p.put)
      (h ∙ put_kept_along (listed us by) (listed ts by) (listed_kept ts us by p.kept inside) (fates_of marks) (trees_of_summand us (plain_summand s)) ∙ ap (put_kept_summand (listed ts by) (fates_of marks)) (summand_kept ts us p.kept (plain_summand s) within))
      ∙ sym (map-append (put_kept_summand (listed ts by) (fates_of marks)) (map (trees_of_summand ts) (map plain_summand (take i items))) (trees_of_summand ts (plain_summand s) ∷ []))
      ∙ ap (map (put_kept_summand (listed ts by) (fates_of marks))) (sym (map-append (trees_of_summand ts) (map plain_summand (take i items)) (plain_summand s ∷ [])) ∙ ap (map (trees_of_summand ts)) (ap (λ z. map plain_summand (take i items) ++ plain_summand z ∷ []) e ∙ sym (map_more plain_summand items i s l)));
})

pub puts_all : (ts : List Tree) (by : List (VarId × TermId)) (marks : List Bool) (items : List Summand) (i : ℕ) (us : List Tree) (made : List Summand) → PutsSummands ts by marks items i us made → length items ≤ i
    → map (trees_of_summand us) (map plain_summand made) ≡ map (put_kept_summand (listed ts by) (fates_of marks)) (map (trees_of_summand ts) (map plain_summand items))
puts_all ts by marks items i us made p l = p.put ∙ ap (λ z. map (put_kept_summand (listed ts by) (fates_of marks)) (map (trees_of_summand ts) (map plain_summand z))) (take_all i items l)
