use Rattle.std.proofs.Common.{◌<◌, ◌++◌, length, sym, ap, ap₂, ◌∙◌, subst}
use Rattle.std.specs.List.{All, flat_map}
use Rattle.std.proofs.lemmas.Result.{IfOk-weaker}
use Rattle.data_theory.specs.declared.ids.FunId.{FunId}
use Rattle.mcrl2_syntax.specs.Declarations.{spec_of}
use Rattle.lps_printer.specs.declared.added_sections.Line.TheVariants.{Constant, EmptyList}
use Rattle.lps_printer.specs.AddedDeclarations.{action_sections, added_actions_of, constants_among, line_sections, struct_sections}
use Rattle.lps_printer.proofs.AddedFunctions.{added_among, constants_are_among}
use Rattle.lps_printer.proofs.AddingSections.{sections_both, sections_of}
use Rattle.lps_printer.proofs.added.push_added.Goals as goal

pub constants-requires : goal.constants-requires
constants-requires c =
    let g = c.args.sig.now in
    let within = λ (f : FunId). f.0 < length g.functions in
    subst (All within) (sym c.added_functions-added.ensures) (added_among within (spec_of c.args.spec.now) g c.names.ensures.stands.complete.within.declared)

pub push_structs-requires : goal.push_structs-requires
push_structs-requires c =
    let g = c.args.sig.now in
    let within = λ (f : FunId). f.0 < length g.functions in
    subst (All within) (sym c.added_functions-added.ensures) (added_among within (spec_of c.args.spec.now) g c.names.ensures.stands.complete.within.declared)

pub push_line_section-requires : goal.push_line_section-requires
push_line_section-requires c =
    let g = c.args.sig.now in
    let within = λ (f : FunId). f.0 < length g.functions in
    let added = subst (All within) (sym c.added_functions-added.ensures) (added_among within (spec_of c.args.spec.now) g c.names.ensures.stands.complete.within.declared) in
    subst (All within) (sym (c.as_slice.ensures.value ∙ c.in_ok-constants.ensures)) (constants_are_among within g c.added_functions-added.result.now added)

pub returns : goal.returns
returns c =
    let g = c.args.sig.now in
    IfOk-weaker c.push_line_section-2.result _ _ (λ next p n k. sections_of
    (ap₂ (λ fs cs. action_sections g (added_actions_of (spec_of c.args.spec.now) g) ++ (flat_map (struct_sections g n) fs ++ (line_sections g n Constant cs ++ line_sections g n EmptyList c.args.empty_lists.now))) c.added_functions-added.ensures (c.as_slice.ensures.value ∙ c.in_ok-constants.ensures ∙ ap (constants_among g) c.added_functions-added.ensures))
    (sections_both c.in_ok-gap.ensures (sections_both (c.in_ok-gap-2.ensures n k) (sections_both (c.in_ok-gap-3.ensures n k) (p n k))))) c.push_line_section-2.ensures
