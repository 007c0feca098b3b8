use Rattle.std.proofs.Common.{◌≡◌, arith, length}
use Rattle.std.proofs.lemmas.Grind.{common_steps}
use Rattle.std.proofs.lemmas.List.{length-map}
use Rattle.lps_core.specs.PlainLinears.{plain_linear}
use Rattle.lps_simulator.specs.OptionsInCode.{plain_options}
use Rattle.lps_simulator.specs.Sessions.{session_linear, session_state}
use Rattle.lin_driver.specs.Eliminations.{equations_in}
use Rattle.lin_tasks.proofs.FirstMoves.{first_options}
use Rattle.lin_tasks.proofs.generating.first_moves.Goals as goal

pub returns : goal.returns
returns c =
    let own = equations_in c.args.sig.now c.args.pool.now.trees c.args.theory.now in
    let found = plain_options c.in_ok-found.found.now in
    let session = c.in_ok-session.session in
    let are = c.in_ok-found.ensures.options own (c.in_ok-rewriter.ensures.fits own c.requires.equations.equations) c.requires.equations.well_formed in
    let counted : c.len.result ≡ length found.moves = grind (arith, common_steps, c.len.ensures, length-map) in
    record {
      later = c.options.new.pool.trees;
      found = found;
      options = record {
        signature = c.signature_stands.ensures;
        fine = c.requires.equations.well_formed;
        fits = c.requires.fits;
        stands = record { terms = c.requires.fits.init; closed = c.requires.fits.closed };
        options = first_options c.args.sig.now own 100000 16 c.args.pool.now.trees c.options.new.pool.trees (plain_linear c.args.lin) (session_linear session) (session_state session) found
            c.in_ok-session.ensures.linear c.in_ok-session.ensures.state are;
      };
      counted = counted;
    }
