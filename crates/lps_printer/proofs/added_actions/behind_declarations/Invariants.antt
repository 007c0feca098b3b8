use Rattle.std.proofs.Common.{◌≡◌, map, drop}
use Rattle.mcrl2_syntax.specs.Declarations.{plain_decl}
use Rattle.lps_printer.specs.AddedDeclarations.{behind_all, behind_acts}
use Rattle.lps_printer.proofs.added_actions.behind_declarations.Given as goal

abbrev pub invariant-loop-decl : goal.invariant-loop-decl
invariant-loop-decl l = behind_all behind_acts (map plain_decl (drop l.decl-index l.decls)) l.rest ≡ behind_all behind_acts (map plain_decl l.decls) l.fn.acts
