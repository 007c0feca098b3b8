use Rattle.std.proofs.Common.{rules, ◌≡◌, ◌<◌, ◌^◌, ◌∙◌, length, sym}
use Rattle.std.proofs.lemmas.List.{length-map}
use Rattle.std.proofs.lemmas.Option.{slice_get_read}
use Rattle.lps_simulator.specs.OptionsInCode.{plain_move, plain_options}
use Rattle.lps_simulator.specs.Sessions.{session_linear, session_state}
use Rattle.lps_simulator.specs.Walks.{word_of}
use Rattle.chosen_moves.proofs.LentOptions.{lent}
use Rattle.lin_tasks.proofs.SessionFacts.{lent_shown}
use Rattle.lin_tasks.proofs.ShownLines.{move_at, move_shown}
use Rattle.lin_tasks.proofs.WalkSteps.{nothing_picked, one_picked, picked_next}
use Rattle.lin_tasks.proofs.walking.take_one.Goals as goal

pub returns-in_default-clause-taken : goal.returns-in_default-clause-taken
returns-in_default-clause-taken g c = λ own fits fine.
    let found = plain_options c.in_ok-found.found.now in
    let none : length found.moves ≡ 0 = length-map c.in_ok-found.found.now.moves.items plain_move ∙ search rules in
    rw (c.status_with.ensures, c.deref.ensures.value)
    (nothing_picked c.args.sig.now own c.args.plan.fuel c.args.plan.bound (word_of c.pick.new.self) c.args.pool.now.trees c.options.new.pool.trees (session_linear c.args.session.now) c.signature_stands.ensures fine c.requires.session.linear c.args.text.now.items
    (session_state c.args.session.now) (session_state c.options.follows.lender-at-none) found c.requires.session.state (c.in_ok-found.ensures.options own fits fine) none)

pub push_label-requires : goal.push_label-requires
push_label-requires g c =
    let shown = lent_shown c.args.sig.now c.options.new.pool.trees c.args.session.now c.options.follows.lender-at-none c.options.result c.in_ok-found.found c.options.follows.holds-at-none c.in_ok-found.was in
    let there_is = slice_get_read c.in_ok-found.found.now.moves.items c.len.result c.in-Some.k c.index.result.now (search rules) (search rules) c.index.ensures in
    move_shown c.args.sig.now c.options.new.pool.trees c.in_ok-found.found.now.moves.items c.in-Some.k c.index.result.now shown there_is

pub take-requires : goal.take-requires
take-requires g c =
    let found = plain_options c.in_ok-found.found.now in
    let below : c.in-Some.k < length found.moves = rw (length-map c.in_ok-found.found.now.moves.items plain_move) (search rules) in
    (found, lent c.args.sig.now c.options.new.pool.trees c.args.session.now c.options.follows.lender-at-none c.options.result c.in_ok-found.found c.options.follows.holds-at-none c.in_ok-found.was, below)

pub returns-clause-session : goal.returns-clause-session
returns-clause-session g c = c.take.ensures.fits c.args.sig.now c.options.new.pool.trees c.options.follows.holds-at-none.fits

pub returns-clause-taken : goal.returns-clause-taken
returns-clause-taken g c = λ own fits fine.
    let found = plain_options c.in_ok-found.found.now in
    let items = c.in_ok-found.found.now.moves.items in
    let there_is = slice_get_read items c.len.result c.in-Some.k c.index.result.now (search rules) (search rules) c.index.ensures in
    let at_place = move_at items c.in-Some.k c.index.result.now there_is in
    let kept = lent c.args.sig.now c.options.new.pool.trees c.args.session.now c.options.follows.lender-at-none c.options.result c.in_ok-found.found c.options.follows.holds-at-none c.in_ok-found.was in
    let small : c.len.result < 2 ^ 64 = search rules in
    let counted : c.len.result ≡ length found.moves = search rules ∙ sym (length-map items plain_move) in
    let chosen = picked_next _ _ c.requires.chooser (word_of c.args.walk.now) (word_of c.pick.new.self) c.len.result c.pick.result c.pick.ensures.word small c.pick.ensures.chosen in
    one_picked c.args.sig.now own c.args.plan.fuel c.args.plan.bound (word_of c.pick.new.self) c.args.pool.now.trees c.options.new.pool.trees (session_linear c.args.session.now) c.signature_stands.ensures fine c.requires.session.linear c.args.text.now.items
    (session_state c.args.session.now) (session_state c.take.new.self) c.push_label.new.text.items found c.in-Some.k (plain_move c.index.result.now) c.requires.session.state (c.in_ok-found.ensures.options own fits fine)
    (rw counted at (sym c.in-Some.is ∙ chosen)) at_place (c.take.ensures.state found (plain_move c.index.result.now) kept at_place) (search rules)
