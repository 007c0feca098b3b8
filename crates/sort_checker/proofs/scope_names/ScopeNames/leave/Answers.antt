use Rattle.std.proofs.Common.{◌≡◌, ◌-◌, ℕ, List, length, map, take, sym, ap, ◌∙◌, subst, arith}
use Rattle.std.proofs.lemmas.List.{length-map}
use Rattle.data_theory.proofs.PlaceLemmas.{map_taken}
use denote.Ref.{Bor}
use Rattle.sort_table.specs.Expressions.{Name}
use Rattle.sort_checker.specs.ScopeNames.{KnowsPlaces}
use Rattle.sort_checker.proofs.ScopeLists.{knows_fewer}
use Rattle.sort_checker.proofs.scope_names.ScopeNames.leave.Goals as goal

pub invariant_of-self : goal.invariant_of-self
invariant_of-self c =
    subst (KnowsPlaces c.self.inside.places) (sym (ap (map (λ (n : Bor Name). n.now)) c.truncate.ensures.items ∙ map_taken (λ (n : Bor Name). n.now) c.saturating_sub-left.result c.self.inside.names.items))
    (knows_fewer c.self.inside.places (map (λ (n : Bor Name). n.now) c.self.inside.names.items) c.self.invariant c.saturating_sub-left.result)

pub returns : goal.returns
returns c =
    let left : c.saturating_sub-left.result ≡ length (map (λ (n : Bor Name). n.now) c.self.inside.names.items) - c.args.count = omega (arith, c.saturating_sub-left.ensures, c.len.ensures, c.self.inside.names.ok.0, length-map c.self.inside.names.items (λ (n : Bor Name). n.now)) in
    ap (map (λ (n : Bor Name). n.now)) c.truncate.ensures.items
    ∙ (map_taken (λ (n : Bor Name). n.now) c.saturating_sub-left.result c.self.inside.names.items
    ∙ (ap (λ (k : ℕ). take k (map (λ (n : Bor Name). n.now) c.self.inside.names.items)) left ∙ ap (λ (ns : List Name). take (length ns - c.args.count) ns) c.self.view_is))
