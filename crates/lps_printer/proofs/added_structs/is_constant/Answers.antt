use Rattle.std.proofs.Common.{◌≡◌, ◌<◌, length, nat_eq, refl, sym, ap, ◌∙◌, subst}
use Rattle.std.specs.Prelude.{not}
use Rattle.std.specs.List.{list_any}
use Rattle.data_theory.specs.declared.ids.FunId.{FunId}
use Rattle.data_theory.specs.declared.ids.SortId.{SortId}
use Rattle.data_theory.specs.Functions.{Function, arguments_of}
use Rattle.lps_printer.specs.AddedDeclarations.{constructors_in, function_at, kind_at}
use Rattle.lps_printer.proofs.AddedSections.{at_function, function_within, result_is}
use Rattle.lps_printer.proofs.AddedStructs.{constant_is}
use Rattle.lps_printer.proofs.added_structs.is_constant.Goals as goal

pub struct_constructors-requires : goal.struct_constructors-requires
struct_constructors-requires c =
    let g = c.args.sig.now in
    subst (λ (s : SortId). s.0 < length g.sorts) (result_is g c.args.fun c.sort_of.result c.requires c.sort_of.ensures) (function_within g c.args.fun c.names.ensures.stands.complete c.requires).gives

pub returns : goal.returns
returns c =
    let g = c.args.sig.now in
    let f = c.args.fun in
    ap not (c.is_among.ensures ∙ ap (list_any (λ (k : FunId). nat_eq k.0 f.0)) (c.struct_constructors.ensures ∙ ap (λ (s : SortId). constructors_in (kind_at g s)) (sym (result_is g f c.sort_of.result c.requires c.sort_of.ensures))))
    ∙ sym (constant_is g f c.args_of.result.now (kind_at g (function_at g f).result) (at_function g f (λ (e : Function). arguments_of e ≡ c.args_of.result.now) c.requires c.args_of.ensures) (sym c.is_empty.ensures ∙ c.if-not-is_empty.false) refl)
