use Rattle.std.proofs.Common.{◌<◌, length, map, sym, ◌∙◌, arith}
use Rattle.std.proofs.lemmas.List.{length-map}
use denote.Ref.{Bor}
use Rattle.sort_table.specs.Expressions.{Name}
use Rattle.sort_checker.proofs.ScopeLists.{absent_where_none, absent_where_beyond, told_by_place, mapped_at}
use Rattle.sort_checker.proofs.scope_names.ScopeNames.has.Goals as goal

pub returns-in_default : goal.returns-in_default
returns-in_default c = rw (← c.self.view_is) (absent_where_none c.self.inside.places (map (λ (n : Bor Name). n.now) c.self.inside.names.items) c.self.invariant c.args.name.now (sym c.get.ensures ∙ c.in_default.is))

pub returns-then-place-len : goal.returns-then-place-len
returns-then-place-len c =
    rw (← c.self.view_is) (absent_where_beyond c.self.inside.places (map (λ (n : Bor Name). n.now) c.self.inside.names.items) c.self.invariant c.args.name.now c.in-Some.place (sym c.get.ensures ∙ c.in-Some.is) (omega (arith, c.if-place-len.true, c.len.ensures, length-map c.self.inside.names.items (λ (n : Bor Name). n.now), c.self.inside.names.ok.0)))

pub returns : goal.returns
returns c =
    let within : c.in-Some.place < length c.self.inside.names.items = omega (arith, c.if-place-len.false, c.len.ensures, c.self.inside.names.ok.0) in
    rw (← c.self.view_is) (c.eq.ensures ∙ told_by_place c.self.inside.places (map (λ (n : Bor Name). n.now) c.self.inside.names.items) c.self.invariant c.args.name.now c.in-Some.place c.index.result.now.now (sym c.get.ensures ∙ c.in-Some.is) (mapped_at c.self.inside.names.items c.in-Some.place c.index.result.now within c.index.ensures))
