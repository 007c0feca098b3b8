use Rattle.std.proofs.Common.{◌≡◌, ◌++◌, ◌∷◌, [], ◌∙◌, ap, rules}
use Rattle.term_pool.specs.Bindings.{listed_terms}
use Rattle.greibach.specs.PlacesInCode.{plain_places}
use Rattle.lps_core.proofs.PoolTrees.{all_in_kept}
use Rattle.greibach.proofs.TreeCalls.{kept_are, kept_in, entry_there}
use Rattle.greibach.proofs.calls.kept_calls.Goals as goal

pub returns-clause-calls : goal.returns-clause-calls
returns-clause-calls c =
    let one : c.push.new.self.items ≡ (c.in_ok-number.number, c.in_ok-args.args) ∷ [] = c.in_ok-push.ensures.items ∙ ap (λ l. l ++ (c.in_ok-number.number, c.in_ok-args.args) ∷ []) c.new-calls.ensures.items in
    let all : c.append.new.self.items ≡ (c.in_ok-number.number, c.in_ok-args.args) ∷ c.in_ok-behind.behind.items = c.in_ok-append.ensures.items ∙ ap (λ l. l ++ c.in_ok-behind.behind.items) one in
    kept_are (plain_places c.args.places.now) c.args.pool.now.trees c.put_all.new.pool.trees c.args.by.now c.args.callee c.args.args.now c.args.rest c.args.met.now.keys c.number.new.met.keys c.rest_calls.new.met.keys c.index.result.now.place c.in_ok-number.number c.in_ok-args.args c.in_ok-behind.behind.items
    c.append.new.self.items c.put_all.ensures.kept c.requires.listed (entry_there c.args.places.now c.args.callee c.index.result.now c.requires.entry (search rules)) c.in_ok-number.ensures.met c.in_ok-number.ensures.number c.in_ok-args.ensures.terms (c.in_ok-behind.ensures.calls c.put_all.new.pool.trees) all

pub returns-clause-within : goal.returns-clause-within
returns-clause-within c =
    let one : c.push.new.self.items ≡ (c.in_ok-number.number, c.in_ok-args.args) ∷ [] = c.in_ok-push.ensures.items ∙ ap (λ l. l ++ (c.in_ok-number.number, c.in_ok-args.args) ∷ []) c.new-calls.ensures.items in
    let all : c.append.new.self.items ≡ (c.in_ok-number.number, c.in_ok-args.args) ∷ c.in_ok-behind.behind.items = c.in_ok-append.ensures.items ∙ ap (λ l. l ++ c.in_ok-behind.behind.items) one in
    kept_in c.put_all.new.pool.trees c.in_ok-number.number c.in_ok-args.args c.in_ok-behind.behind.items c.append.new.self.items (listed_terms c.args.by.now) c.in_ok-args.ensures.within (all_in_kept c.args.pool.now.trees c.put_all.new.pool.trees (listed_terms c.args.by.now) c.put_all.ensures.kept c.requires.listed)
    c.in_ok-behind.ensures.within all
