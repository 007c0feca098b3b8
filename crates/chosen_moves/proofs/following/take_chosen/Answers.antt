use Rattle.std.proofs.Common.{rules, ◌≡◌, ◌∙◌, length, None, Some, refl, sym, ap}
use Rattle.std.specs.Prelude.{option_map, slice_get}
use Rattle.std.proofs.lemmas.List.{length-map}
use Rattle.std.proofs.lemmas.Option.{slice_get_read, slice_get-map}
use Rattle.lps_simulator.specs.OptionsInCode.{plain_move, plain_options}
use Rattle.lps_simulator.specs.Sessions.{session_linear, session_state}
use Rattle.chosen_moves.specs.ChosenMoves.{place_of}
use Rattle.chosen_moves.proofs.ChosenMoves.{none_chosen, one_chosen}
use Rattle.chosen_moves.proofs.LentOptions.{lent}
use Rattle.chosen_moves.proofs.following.take_chosen.Goals as goal

pub returns-in_default-clause-fault : goal.returns-in_default-clause-fault
returns-in_default-clause-fault g c = λ own fits fine.
    let found = plain_options c.in_ok-found.found.now in
    let counted : c.len.result ≡ length found.moves = search rules ∙ sym (length-map c.in_ok-found.found.now.moves.items plain_move) in
    let none : place_of c.args.choice.number (length found.moves) ≡ None = ap (place_of c.args.choice.number) (sym counted) ∙ sym c.place_of.ensures.place ∙ c.in_default.is in (
      refl,
      none_chosen c.args.sig.now own c.args.fuel c.args.bound c.args.pool.now.trees c.options.new.pool.trees (session_linear c.args.session.now) c.signature_stands.ensures fine c.requires.session.linear
          (session_state c.args.session.now) found c.args.choice c.requires.session.state (c.in_ok-found.ensures.options own fits fine) none,
    )

pub returns-clause-state : goal.returns-clause-state
returns-clause-state g c =
    let found = plain_options c.in_ok-found.found.now in
    let items = c.in_ok-found.found.now.moves.items in
    let there_is = slice_get_read items c.len.result c.in-Some.place c.index.result.now (search rules) c.in-Some.ensures.within c.index.ensures in
    let at_place : slice_get found.moves c.in-Some.place ≡ Some (plain_move c.index.result.now) = slice_get-map plain_move items c.in-Some.place ∙ ap (option_map plain_move) there_is in
    let kept = lent c.args.sig.now c.options.new.pool.trees c.args.session.now c.options.follows.lender-at-none c.options.result c.in_ok-found.found c.options.follows.holds-at-none c.in_ok-found.was in
    c.in_ok-next.ensures ∙ sym (c.take.ensures.state found (plain_move c.index.result.now) kept at_place)

pub returns-clause-taken : goal.returns-clause-taken
returns-clause-taken g c = λ own fits fine.
    let found = plain_options c.in_ok-found.found.now in
    let items = c.in_ok-found.found.now.moves.items in
    let there_is = slice_get_read items c.len.result c.in-Some.place c.index.result.now (search rules) c.in-Some.ensures.within c.index.ensures in
    let at_place : slice_get found.moves c.in-Some.place ≡ Some (plain_move c.index.result.now) = slice_get-map plain_move items c.in-Some.place ∙ ap (option_map plain_move) there_is in
    let kept = lent c.args.sig.now c.options.new.pool.trees c.args.session.now c.options.follows.lender-at-none c.options.result c.in_ok-found.found c.options.follows.holds-at-none c.in_ok-found.was in
    let counted : c.len.result ≡ length found.moves = search rules ∙ sym (length-map items plain_move) in
    let picked : place_of c.args.choice.number (length found.moves) ≡ Some c.in-Some.place = ap (place_of c.args.choice.number) (sym counted) ∙ sym c.place_of.ensures.place ∙ c.in-Some.is in
    one_chosen c.args.sig.now own c.args.fuel c.args.bound c.args.pool.now.trees c.options.new.pool.trees (session_linear c.args.session.now) c.signature_stands.ensures fine c.requires.session.linear
    (session_state c.args.session.now) (session_state c.take.new.self) found c.args.choice c.in-Some.place (plain_move c.index.result.now) c.requires.session.state (c.in_ok-found.ensures.options own fits fine) c.in_ok-found.ensures.kept picked at_place
    (c.take.ensures.state found (plain_move c.index.result.now) kept at_place)
