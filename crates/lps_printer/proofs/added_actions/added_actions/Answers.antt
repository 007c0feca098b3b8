use Rattle.std.proofs.Common.{◌<◌, length, map, sym, ap, ◌∙◌, subst}
use Rattle.std.specs.List.{All}
use Rattle.data_theory.specs.declared.actions.ActEntry.{ActEntry}
use Rattle.mcrl2_syntax.specs.Declarations.{section_of, spec_of}
use Rattle.lps_printer.specs.AddedDeclarations.{behind_all, behind_acts_of}
use Rattle.lps_printer.proofs.AddedActions.{names_are, names_within}
use Rattle.lps_printer.proofs.added_actions.added_actions.Goals as goal

pub returns-clause-names : goal.returns-clause-names
returns-clause-names c =
    ap (map (λ (e : ActEntry). e.name)) (c.behind_sections.ensures ∙ ap (λ ss. behind_all behind_acts_of (map section_of ss) c.acts.result.now) c.as_slice.ensures.value)
    ∙ names_are (spec_of c.args.spec.now) c.args.sig.now c.acts.result.now c.acts.ensures

pub returns-clause-within : goal.returns-clause-within
returns-clause-within c =
    let g = c.args.sig.now in
    subst (All (λ (e : ActEntry). e.name.0 < length g.texts)) (sym (c.behind_sections.ensures ∙ ap (λ ss. behind_all behind_acts_of (map section_of ss) c.acts.result.now) c.as_slice.ensures.value))
    (names_within (spec_of c.args.spec.now) g c.acts.result.now c.acts.ensures c.names.ensures.stands.complete)
