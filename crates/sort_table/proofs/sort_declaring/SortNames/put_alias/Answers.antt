use Rattle.std.proofs.Common.{◌<◌, ℕ, List, length, get_or, [], sym, subst}
use Rattle.std.proofs.lemmas.Result.{on_ok_weaker}
use Rattle.mcrl2_syntax.specs.SortTrees.{plain_sort}
use Rattle.data_theory.specs.Signature.{Sig}
use Rattle.data_theory.specs.SortNames.{IsName}
use Rattle.sort_table.specs.BareSorts.{bare_sort}
use Rattle.sort_table.specs.NamedSorts.{IsNamed}
use Rattle.sort_table.specs.DeclaringSorts.{GoesOn}
use Rattle.sort_table.specs.IndexedKinds.{kinds_of_index}
use Rattle.sort_table.proofs.NamedSignatures.{text_read}
use Rattle.sort_table.proofs.DeclaringLemmas.{reads, same_texts, same_ids, alias_goes_on, alias_now}
use Rattle.sort_table.proofs.sort_declaring.SortNames.put_alias.Goals as goal

pub sort_of_tree-requires-clause-reads : goal.sort_of_tree-requires-clause-reads
sort_of_tree-requires-clause-reads c = reads (kinds_of_index c.args.self.now.index) c.args.self.now.ids.items c.args.signature.now c.requires.state

pub add_alias-requires-clause-name : goal.add_alias-requires-clause-name
add_alias-requires-clause-name c = subst (λ (ts : List (List ℕ)). c.args.id.0 < length ts) (sym (same_texts c.args.signature.now c.sort_of_tree.new.signature c.in_ok-sort.ensures.added)) c.requires.text

pub add_alias-requires-clause-absent : goal.add_alias-requires-clause-absent
add_alias-requires-clause-absent c = subst (λ es. ¬ (IsName es c.args.id)) (sym (same_ids c.args.signature.now c.sort_of_tree.new.signature c.in_ok-sort.ensures.added)) c.requires.absent

pub returns-clause-goes_on : goal.returns-clause-goes_on
returns-clause-goes_on c =
    let ks = kinds_of_index c.args.self.now.index in
    let g = c.args.signature.now in
    let h = c.sort_of_tree.new.signature in
    let text = text_read g.texts c.args.id.0 c.requires.text in
    on_ok_weaker c.add_alias.result (λ added. subst (λ (k : Sig). GoesOn ks c.args.self.now.ids.items g k) (sym added)
    (alias_goes_on ks c.args.self.now.ids.items g h (get_or g.texts c.args.id.0 []) (bare_sort (plain_sort c.args.tree.now)) c.args.id c.in_ok-sort.sort c.names.ensures.stands c.requires.state text c.requires.text c.requires.absent
    c.in_ok-sort.ensures.added c.in_ok-sort.ensures.names c.in_ok-sort.ensures.sort c.in_ok-sort.ensures.within c.in_ok-sort.ensures.lists (c.requires.alias (get_or g.texts c.args.id.0 []) text))) c.add_alias.ensures.added

pub returns-clause-named : goal.returns-clause-named
returns-clause-named c =
    let ks = kinds_of_index c.args.self.now.index in
    let g = c.args.signature.now in
    let h = c.sort_of_tree.new.signature in
    on_ok_weaker c.add_alias.result (λ added. λ n text. subst (λ (k : Sig). IsNamed k n) (sym added)
    (alias_now ks c.args.self.now.ids.items g h n (bare_sort (plain_sort c.args.tree.now)) c.args.id c.in_ok-sort.sort c.names.ensures.stands c.requires.state text c.requires.text c.requires.absent
    c.in_ok-sort.ensures.added c.in_ok-sort.ensures.names c.in_ok-sort.ensures.sort c.in_ok-sort.ensures.within c.in_ok-sort.ensures.lists)) c.add_alias.ensures.added
