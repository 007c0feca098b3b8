use Rattle.std.proofs.Common.{◌<◌, length, sym, ◌∙◌, subst}
use Rattle.std.specs.List.{All}
use Rattle.std.specs.Prelude.{slice_get, IfSome}
use Rattle.mcrl2_lexer.specs.declared.kind.Kind.TheVariants.{Semicolon}
use Rattle.data_theory.specs.declared.ids.FunId.{FunId}
use Rattle.data_theory.specs.declared.ids.SortId.{SortId}
use Rattle.data_theory.specs.Sorts.{SortInfo}
use Rattle.data_theory.specs.IdSorts.{IsDeclaredKind}
use Rattle.lps_printer.proofs.AddingSections.{sections_none, sections_of}
use Rattle.lps_printer.proofs.CodeActions.{some_of}
use Rattle.lps_printer.proofs.AddedSections.{result_is, function_within}
use Rattle.lps_printer.proofs.AddedStructs.{begun_within, begun_declared, no_struct, struct_section_added}
use Rattle.lps_printer.proofs.added_structs.push_struct_section.Goals as goal

pub push_struct-requires-clause-within : goal.push_struct-requires-clause-within
push_struct-requires-clause-within c =
    let g = c.args.sig.now in
    subst (λ (s : SortId). s.0 < length g.sorts) (result_is g c.args.fun c.sort_of.result c.requires c.sort_of.ensures) (function_within g c.args.fun c.names.ensures.stands.complete c.requires).gives

pub push_struct-requires-clause-declared : goal.push_struct-requires-clause-declared
push_struct-requires-clause-declared c =
    let g = c.args.sig.now in
    subst (λ (s : SortId). IfSome (slice_get g.sorts s.0) (λ (i : SortInfo). IsDeclaredKind i.kind)) (result_is g c.args.fun c.sort_of.result c.requires c.sort_of.ensures)
    (begun_declared g c.args.fun (function_within g c.args.fun c.names.ensures.stands.complete c.requires).gives (subst (λ fs. 0 < length fs) c.struct_begun-constructors.ensures (some_of c.struct_begun-constructors.result.now (sym c.is_empty.ensures ∙ c.if-is_empty.false))))

pub push_struct-requires-clause-some : goal.push_struct-requires-clause-some
push_struct-requires-clause-some c = some_of c.struct_begun-constructors.result.now (sym c.is_empty.ensures ∙ c.if-is_empty.false)

pub push_struct-requires-clause-constructors : goal.push_struct-requires-clause-constructors
push_struct-requires-clause-constructors c =
    let g = c.args.sig.now in
    subst (All (λ (f : FunId). f.0 < length g.functions)) (sym c.struct_begun-constructors.ensures) (begun_within g c.args.fun c.names.ensures.stands.complete (function_within g c.args.fun c.names.ensures.stands.complete c.requires).gives)

pub returns-then-is_empty : goal.returns-then-is_empty
returns-then-is_empty c = λ n k.
    sections_of (no_struct c.args.sig.now n c.args.fun c.struct_begun-constructors.result.now c.struct_begun-constructors.ensures (sym c.is_empty.ensures ∙ c.if-is_empty.true)) (sections_none c.args.out.now.items c.args.gap.now)

pub returns : goal.returns
returns c = λ n k.
    let g = c.args.sig.now in
    let fs = c.struct_begun-constructors.result.now in
    struct_section_added g n c.args.fun fs c.sort_of.result c.args.gap.now c.struct_begun-constructors.ensures (result_is g c.args.fun c.sort_of.result c.requires c.sort_of.ensures) (some_of fs (sym c.is_empty.ensures ∙ c.if-is_empty.false))
    c.in_ok-push_token.ensures (c.in_ok-push_struct.ensures n k) (c.in_ok-push_token-2.ensures Semicolon)
