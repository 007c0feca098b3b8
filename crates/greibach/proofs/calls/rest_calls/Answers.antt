use Rattle.std.proofs.Common.{◌≡◌, ◌++◌, ◌∷◌, [], ◌∙◌, sym, ap, subst}
use Rattle.std.specs.List.{All}
use Rattle.std.proofs.lemmas.List.Elements.{All-nil, All-cons}
use Rattle.term_pool.specs.Bindings.{listed_terms}
use Rattle.greibach.specs.OnwardCalls.{HasArgumentsAmong}
use Rattle.greibach.specs.PlacesInCode.{plain_calls, plain_places}
use Rattle.greibach.proofs.TreeCalls.{no_calls}
use Rattle.greibach.proofs.calls.rest_calls.Goals as goal

pub returns-in-None-clause-calls : goal.returns-in-None-clause-calls
returns-in-None-clause-calls c = no_calls (plain_places c.args.places.now) c.args.by.now c.args.rest c.args.met.now.keys c.new.result.items c.in-None.is c.new.ensures.items

pub returns-in_ok-push-in-Some-clause-within : goal.returns-in_ok-push-in-Some-clause-within
returns-in_ok-push-in-Some-clause-within c =
    let e : c.push.new.self.items ≡ c.in_ok-call-in-Some.call ∷ [] = c.in_ok-push-in-Some.ensures.items ∙ ap (λ l. l ++ c.in_ok-call-in-Some.call ∷ []) c.new-calls.ensures.items in
    subst (λ l. All (HasArgumentsAmong (listed_terms c.args.by.now)) (plain_calls l)) (sym e)
    (All-cons (HasArgumentsAmong (listed_terms c.args.by.now)) (c.in_ok-call-in-Some.call.0, c.in_ok-call-in-Some.call.1.items) [] c.in_ok-call-in-Some.ensures.within (All-nil (HasArgumentsAmong (listed_terms c.args.by.now))))
