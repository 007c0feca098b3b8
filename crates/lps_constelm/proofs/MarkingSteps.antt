-- The marks of the parameters that aren't constant, from what they are made of.
use Rattle.std.proofs.Common.{◌≡◌, ◌<◌, ℕ, Bool, List, map, length, subst, arith}
use Rattle.std.specs.Prelude.{Contains}
use Rattle.std.specs.Global.{Vec}
use Rattle.std.proofs.lemmas.List.Elements.{All-contains}
use Rattle.data_theory.specs.declared.ids.TermId.{TermId}
use Rattle.data_theory.specs.IdTrees.{Tree, variable}
use Rattle.term_pool.specs.HeadTrees.{trees_at, IsIn, AreIn}
use Rattle.graphs.specs.Graphs.{IsGraph, IsReversed}
use Rattle.lps_core.specs.PlainLinears.{PlainLinear}
use Rattle.lps_parelm.specs.Uses.{AreUses}
use Rattle.lps_parelm.proofs.UseGraphs.{at_contains, edge_begins}
use Rattle.lps_constelm.specs.Putting.{AreChanging, AreNotConstant, LeadTo}

-- a graph that is turned round is one
pub turned_graph : (edges back : List (Vec ℕ)) → IsReversed edges back → IsGraph back
turned_graph edges back t a b e =
    let l = edge_begins edges b a ((t.exact b a).0 e) in
    let s = t.size in
    omega (arith, l, s)

-- the terms of parameters that change are nodes
pub start_below : (ts : List Tree) (l : PlainLinear) (vars : List TermId) (start : List ℕ) → AreIn ts vars → AreChanging ts l vars start → (a : ℕ) → Contains start a → a < length ts
start_below ts l vars start inside changing a i =
    let k = changing.sound a i in
    subst (λ n. n < length ts) k.3 (All-contains (IsIn ts) vars k.1 inside (at_contains vars k.0 k.1 k.2))

pub not_constant : (ts : List Tree) (l : PlainLinear) (vars v1 v2 v3 : List TermId) (edges e1 : List (Vec ℕ)) (start s1 : List ℕ) (marks : List Bool) → AreIn ts vars → trees_at ts vars ≡ map variable l.params
    → v1 ≡ vars → AreUses ts v1 l.summands edges → v2 ≡ vars → AreChanging ts l v2 start → e1 ≡ edges → s1 ≡ start → v3 ≡ vars → LeadTo e1 s1 v3 marks → AreNotConstant ts l marks
not_constant ts l vars v1 v2 v3 edges e1 start s1 marks inside are p1 uses p2 changing q r p3 lead = record {
  vars = vars;
  inside = inside;
  are = are;
  edges = edges;
  uses = subst (λ z. AreUses ts z l.summands edges) p1 uses;
  start = start;
  changing = subst (λ z. AreChanging ts l z start) p2 changing;
  lead = subst (λ z. LeadTo edges start z marks) p3 (subst (λ z. LeadTo edges z v3 marks) r (subst (λ z. LeadTo z s1 v3 marks) q lead));
}
