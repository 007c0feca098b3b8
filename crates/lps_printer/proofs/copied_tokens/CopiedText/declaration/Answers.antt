use Rattle.std.proofs.lemmas.Result.{on_ok_weaker}
use Rattle.lps_printer.proofs.CopiedTrees.{struct_added, variables_added}
use Rattle.lps_printer.proofs.copied_tokens.CopiedText.declaration.Goals as goal

pub returns-in_ok-token-in-Struct : goal.returns-in_ok-token-in-Struct
returns-in_ok-token-in-Struct c =
    on_ok_weaker c.parts.result (λ p. struct_added c.args.decl.now c.in-Struct.field-0 c.in-Struct.name c.in-Struct.constructors c.as_slice-in-Struct.result.now c.in-Struct.is c.as_slice-in-Struct.ensures.value c.in_ok-definition-in-Struct.ensures c.in_ok-token-in-Struct.ensures p) c.parts.ensures

pub returns-in-Vars : goal.returns-in-Vars
returns-in-Vars c =
    on_ok_weaker c.parts-in-Vars.result (λ p. variables_added c.args.decl.now c.in-Vars.field-0 c.in-Vars.groups c.as_slice-in-Vars.result.now c.in-Vars.is c.as_slice-in-Vars.ensures.value p) c.parts-in-Vars.ensures
