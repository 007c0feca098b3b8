use Rattle.std.proofs.Common.{map}
use Rattle.mcrl2_syntax.specs.Declarations.{plain_decl}
use Rattle.lps_printer.specs.AddedDeclarations.{behind_all, behind_acts}
use Rattle.lps_printer.proofs.AddedFunctions.{behind_step, behind_end}
use Rattle.lps_printer.proofs.added_actions.behind_declarations.Goals as goal

pub loop-decl-preserved : goal.loop-decl-preserved
loop-decl-preserved c =
    behind_step behind_acts plain_decl c.args.decls.now c.loop-decl.decl-index c.loop-decl.rest.now (behind_all behind_acts (map plain_decl c.args.decls.now) c.args.acts.now) c.decl-item.result c.loop-decl-test.true c.decl-item.is c.behind_declaration-rest.result.now c.behind_declaration-rest.ensures c.loop-decl.invariant

pub returns : goal.returns
returns c = behind_end behind_acts plain_decl c.args.decls.now c.loop-decl.decl-index c.loop-decl.rest.now (behind_all behind_acts (map plain_decl c.args.decls.now) c.args.acts.now) c.loop-decl-test.false c.loop-decl.auto.decl-index-end c.loop-decl.invariant
