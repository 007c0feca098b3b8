use Rattle.std.proofs.Common.{◌≡◌, ◌==◌, List, length, map, refl, sym, subst, ap, ◌∙◌}
use Rattle.std.specs.Global.{Vec}
use Rattle.std.specs.List.{All}
use Rattle.lps_core.specs.PlainLinears.{plain_linear}
use Rattle.lps_simulator.specs.declared.options.Move.{Move}
use Rattle.lps_simulator.specs.OptionsInCode.{PlainMove, plain_move, plain_options, meant_move, IsMove}
use Rattle.lps_simulator.proofs.SessionLemmas.{linear_stays}
use Rattle.trace_replay.specs.declared.deciding.Answer.{Answer as CodeAnswer}
use Rattle.trace_replay.proofs.Keepings.{keeps_then}
use Rattle.aut_check.specs.Comparing.{setting, AreMoveRows}
use Rattle.aut_check.specs.PlainSystems.{plain_system}
use Rattle.aut_check.specs.Tables.{tables_of, IsVerdictOn}
use Rattle.aut_check.specs.Verdicts.{sorts_in}
use Rattle.aut_check.proofs.RunningStates.{edges_long, empty, not_empty, numbers_within, rows_even, running_by, running_open}
use Rattle.aut_check.proofs.SettledStates.{system_stays}
use Rattle.aut_check.proofs.comparing.compare_running.Goals as goal

pub returns-then-not-is_empty-clause-state : goal.returns-then-not-is_empty-clause-state
returns-then-not-is_empty-clause-state g c = λ own h fine.
    running_open c.args.sig.now c.signature_stands.ensures own c.args.fuel c.args.pool.now.trees c.options_at.new.pool.trees c.options_at.ensures.kept (plain_linear c.args.lin.now) (plain_system c.args.lts.now) c.requires.lin c.requires.system c.args.number c.args.terms.now (plain_options c.in_ok-options.options)
    (c.in_ok-options.ensures.options own h fine) (c.in_ok-options.ensures.moves own h fine) (not_empty c.in_ok-options.options.undecided.items c.is_empty.result (c.is_empty.ensures ∙ ap (λ n. n == 0) c.in_ok-options.options.undecided.ok.0) c.if-not-is_empty.true)

pub compare_moves-requires-clause-lin : goal.compare_moves-requires-clause-lin
compare_moves-requires-clause-lin g c = linear_stays c.args.sig.now c.signature_stands.ensures c.args.pool.now.trees c.options_at.new.pool.trees (plain_linear c.args.lin.now) c.options_at.ensures.kept c.requires.lin

pub compare_moves-requires-clause-system : goal.compare_moves-requires-clause-system
compare_moves-requires-clause-system g c = system_stays c.args.sig.now c.signature_stands.ensures c.args.pool.now.trees c.options_at.new.pool.trees c.options_at.ensures.kept c.args.lin.now.params.items (plain_system c.args.lts.now) c.requires.system

pub compare_moves-requires-clause-moves : goal.compare_moves-requires-clause-moves
compare_moves-requires-clause-moves g c =
    let r = c.requires.known in
    subst (λ (z : List Move). All (IsMove c.args.sig.now c.options_at.new.pool.trees c.args.lin.now.params.items) (map plain_move z)) (sym c.as_slice-moves.ensures.value) (c.in_ok-options.ensures.moves r.0 r.1 r.2)

pub compare_moves-requires-clause-edges : goal.compare_moves-requires-clause-edges
compare_moves-requires-clause-edges g c = numbers_within (plain_system c.args.lts.now) c.args.number c.args.edges.now (length c.args.lts.now.edges.items) (edges_long c.args.lts.now.edges.items) c.requires.edges

pub returns-in_err-rows-clause-kept : goal.returns-in_err-rows-clause-kept
returns-in_err-rows-clause-kept g c =
    keeps_then c.args.sig.now c.args.pool.now.trees c.options_at.new.pool.trees c.compare_moves.new.pool.trees c.args.rewriter.now c.options_at.new.rewriter c.compare_moves.new.rewriter (record { pool = c.options_at.ensures.kept; rules = c.options_at.ensures.rules; fits = c.options_at.ensures.fits }) c.compare_moves.ensures.kept

pub table_verdict-requires : goal.table_verdict-requires
table_verdict-requires g c =
    let r = c.requires.known in
    subst (λ (z : List (Vec CodeAnswer)). All (λ (row : Vec CodeAnswer). length row.items ≡ length c.args.edges.now) z) (sym c.as_slice.ensures.value)
    (rows_even (setting c.args.sig.now r.0 c.args.fuel) (sorts_in (setting c.args.sig.now r.0 c.args.fuel) c.options_at.new.pool.trees (plain_linear c.args.lin.now)) c.options_at.new.pool.trees (plain_system c.args.lts.now) c.args.edges.now (map (meant_move c.args.sig.now c.options_at.new.pool.trees) (map plain_move c.as_slice-moves.result.now)) c.in_ok-rows.rows.items
    (c.in_ok-rows.ensures.rows r.0 (c.options_at.ensures.fits r.0 r.1)))

pub returns-in_err-verdict-clause-kept : goal.returns-in_err-verdict-clause-kept
returns-in_err-verdict-clause-kept g c =
    keeps_then c.args.sig.now c.args.pool.now.trees c.options_at.new.pool.trees c.compare_moves.new.pool.trees c.args.rewriter.now c.options_at.new.rewriter c.compare_moves.new.rewriter (record { pool = c.options_at.ensures.kept; rules = c.options_at.ensures.rules; fits = c.options_at.ensures.fits }) c.compare_moves.ensures.kept

pub returns-clause-kept : goal.returns-clause-kept
returns-clause-kept g c =
    keeps_then c.args.sig.now c.args.pool.now.trees c.options_at.new.pool.trees c.compare_moves.new.pool.trees c.args.rewriter.now c.options_at.new.rewriter c.compare_moves.new.rewriter (record { pool = c.options_at.ensures.kept; rules = c.options_at.ensures.rules; fits = c.options_at.ensures.fits }) c.compare_moves.ensures.kept

pub returns-clause-state : goal.returns-clause-state
returns-clause-state g c = λ own h fine.
    let s = setting c.args.sig.now own c.args.fuel in
    let us = c.options_at.new.pool.trees in
    let rows = subst (λ (z : List (Vec CodeAnswer)). IsVerdictOn (tables_of z) (length c.args.edges.now) c.in_ok-verdict.verdict) c.as_slice.ensures.value c.in_ok-verdict.ensures in
    running_by c.args.sig.now c.signature_stands.ensures own c.args.fuel c.args.pool.now.trees us c.options_at.ensures.kept (plain_linear c.args.lin.now) (plain_system c.args.lts.now) c.requires.lin c.requires.system c.args.number c.args.terms.now (plain_options c.in_ok-options.options) (c.in_ok-options.ensures.options own h fine)
    (c.in_ok-options.ensures.moves own h fine) (empty c.in_ok-options.options.undecided.items c.is_empty.result (c.is_empty.ensures ∙ ap (λ n. n == 0) c.in_ok-options.options.undecided.ok.0) c.if-not-is_empty.false) c.args.edges.now c.requires.edges (tables_of c.in_ok-rows.rows.items) (length c.args.edges.now) c.in_ok-verdict.verdict refl
    (subst (λ (z : List PlainMove). AreMoveRows s (sorts_in s us (plain_linear c.args.lin.now)) us (plain_system c.args.lts.now) c.args.edges.now (map (meant_move c.args.sig.now us) z) (tables_of c.in_ok-rows.rows.items)) (ap (map plain_move) c.as_slice-moves.ensures.value) (c.in_ok-rows.ensures.rows own (c.options_at.ensures.fits own h)))
    rows
