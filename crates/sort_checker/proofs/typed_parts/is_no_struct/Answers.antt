use Rattle.sort_checker.proofs.TypedSorts.{struct_told, no_struct_told}
use Rattle.sort_checker.proofs.typed_parts.is_no_struct.Goals as goal

pub returns-in-Struct : goal.returns-in-Struct
returns-in-Struct c = λ d means. struct_told c.args.sig.now c.kind.ensures.stands c.args.sort c.requires d means c.kind.result.now c.in-Struct.field-0 c.in-Struct.is c.kind.ensures.kind

pub returns-in_default : goal.returns-in_default
returns-in_default c = λ d means. no_struct_told c.args.sig.now c.kind.ensures.stands c.args.sort c.requires d means c.kind.result.now c.in_default.not-Struct c.kind.ensures.kind
