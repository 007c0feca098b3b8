use Rattle.std.proofs.Common.{◌∙◌, ℕ, List, [], ◌∷◌, subst, sym, ap}
use Rattle.std.specs.Prelude.{Option, option_map}
use Rattle.std.specs.Global.{Vec}
use Rattle.std.proofs.lemmas.Result.{on_ok_weaker}
use Rattle.mcrl2_syntax.specs.declared.declaration.Constructor.{Constructor}
use Rattle.mcrl2_syntax.specs.declared.declaration.Decl.{Decl}
use Rattle.sort_table.specs.declared.flat_sorts.FlatSort.{FlatSort}
use Rattle.sort_table.specs.BareSorts.{SortExpression, a_name}
use Rattle.sort_table.specs.DeclarationTrees.{declaration_of}
use Rattle.sort_table.specs.Domains.{flats_by, domains_of_constructors, domains_of, AddsNumbers}
use Rattle.sort_table.proofs.DomainLemmas.{adds_list, adds_both}
use Rattle.sort_table.proofs.domains.number_declaration.Goals as goal

pub returns-in_ok-number_where_known-in-Struct : goal.returns-in_ok-number_where_known-in-Struct
returns-in_ok-number_where_known-in-Struct c =
    let flats : List SortExpression → Option (List FlatSort) = flats_by c.args.flats.now in
    let own : List SortExpression = a_name c.in-Struct.name.bytes.items ∷ [] in
    on_ok_weaker c.number_constructors.result (λ (added : AddsNumbers flats (domains_of_constructors c.as_slice-in-Struct.result.now) c.number_where_known.new.numbers c.number_constructors.new.numbers).
    subst (λ (d : Decl). AddsNumbers flats (domains_of (declaration_of d)) c.args.numbers.now c.number_constructors.new.numbers) (sym c.in-Struct.is)
    (adds_both flats (own ∷ []) (domains_of_constructors c.in-Struct.constructors.items) c.args.numbers.now c.number_where_known.new.numbers c.number_constructors.new.numbers
    (adds_list flats (option_map (λ (l : Vec FlatSort). l.items) c.in_ok-own-in-Struct.own) own c.args.numbers.now c.number_where_known.new.numbers
    (c.in_ok-own-in-Struct.ensures ∙ ap (λ (n : List ℕ). flats (a_name n ∷ [])) c.as_slice.ensures.value) c.in_ok-number_where_known-in-Struct.ensures)
    (subst (λ (cs : List Constructor). AddsNumbers flats (domains_of_constructors cs) c.number_where_known.new.numbers c.number_constructors.new.numbers) c.as_slice-in-Struct.ensures.value added))) c.number_constructors.ensures
