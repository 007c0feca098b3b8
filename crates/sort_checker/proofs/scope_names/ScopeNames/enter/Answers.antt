use Rattle.std.proofs.Common.{[], ◌∷◌, map, sym, ap, ◌∙◌, subst, arith}
use Rattle.std.proofs.lemmas.List.{map-append, length-map}
use denote.Ref.{Bor}
use Rattle.sort_table.specs.Expressions.{Name}
use Rattle.sort_checker.specs.Operators.{stands_in}
use Rattle.sort_checker.specs.ScopeNames.{KnowsPlaces}
use Rattle.sort_checker.proofs.ScopeLists.{knows_again, knows_still, knows_new}
use Rattle.sort_checker.proofs.scope_names.ScopeNames.enter.Goals as goal

pub invariant_of-self-then-has : goal.invariant_of-self-then-has
invariant_of-self-then-has c =
    subst (KnowsPlaces c.self.inside.places) (sym (ap (map (λ (n : Bor Name). n.now)) c.in_ok-push.ensures.items ∙ map-append (λ (n : Bor Name). n.now) c.self.inside.names.items (c.args.name ∷ [])))
    (knows_again c.self.inside.places (map (λ (n : Bor Name). n.now) c.self.inside.names.items) c.self.invariant c.args.name.now (ap (stands_in c.args.name.now) c.self.view_is ∙ (sym c.has.ensures ∙ c.if-has.true)))

pub invariant_of-self-in_err-push-2 : goal.invariant_of-self-in_err-push-2
invariant_of-self-in_err-push-2 c =
    subst (KnowsPlaces c.put.new.self) (sym (ap (map (λ (n : Bor Name). n.now)) c.in_err-push-2.ensures.items))
    (knows_still c.self.inside.places c.put.new.self (map (λ (n : Bor Name). n.now) c.self.inside.names.items) c.self.invariant c.args.name.now c.len.result (ap (stands_in c.args.name.now) c.self.view_is ∙ (sym c.has.ensures ∙ c.if-has.false)) c.in_ok-put.ensures.put)

pub invariant_of-self-2 : goal.invariant_of-self-2
invariant_of-self-2 c =
    subst (KnowsPlaces c.put.new.self) (sym (ap (map (λ (n : Bor Name). n.now)) c.in_ok-push-2.ensures.items ∙ map-append (λ (n : Bor Name). n.now) c.self.inside.names.items (c.args.name ∷ [])))
    (knows_new c.self.inside.places c.put.new.self (map (λ (n : Bor Name). n.now) c.self.inside.names.items) c.self.invariant c.args.name.now c.len.result (let told = c.len.ensures in let held = c.self.inside.names.ok.0 in let mapped = length-map c.self.inside.names.items (λ (n : Bor Name). n.now) in omega (arith, told, held, mapped)) (ap (stands_in c.args.name.now) c.self.view_is ∙ (sym c.has.ensures ∙ c.if-has.false)) c.in_ok-put.ensures.put)
