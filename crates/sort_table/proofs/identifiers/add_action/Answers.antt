use Rattle.std.proofs.Common.{◌≡◌, ◌∙◌, ◌++◌, ◌∷◌, [], map, ap, sym, append_assoc}
use Rattle.std.proofs.lemmas.Result.{on_ok_weaker}
use denote.Ref.{Bor}
use Rattle.mcrl2_syntax.specs.declared.process_tree.ActionTree.{ActionTree}
use Rattle.mcrl2_syntax.specs.DataTrees.{plain_data}
use Rattle.mcrl2_syntax.specs.ProcessParts.{plain_action}
use Rattle.sort_table.specs.Expressions.{Name}
use Rattle.sort_table.specs.Identifiers.{in_action}
use Rattle.sort_table.specs.LentTexts.{texts_of}
use Rattle.sort_table.proofs.PushedLists.{pushed_one}
use Rattle.sort_table.proofs.IdentifierSteps.{datas_of_all, datas_flat}
use Rattle.sort_table.proofs.identifiers.add_action.Goals as goal

pub returns-in_ok-push-in-Named : goal.returns-in_ok-push-in-Named
returns-in_ok-push-in-Named c =
    let old = texts_of c.args.list.now.items in
    let n = c.in-Named.name.bytes.items in
    let first : texts_of c.push.new.self.items ≡ old ++ n ∷ [] = pushed_one (λ (t : Bor Name). t.now) c.args.list.now.items c.push.new.self.items c.as_slice.result n c.in_ok-push-in-Named.ensures.items c.as_slice.ensures.value in
    on_ok_weaker c.add_datas.result (λ added.
    added ∙ (ap (λ l. l ++ datas_of_all c.as_slice-in-Named.result.now) first ∙ (append_assoc old (n ∷ []) (datas_of_all c.as_slice-in-Named.result.now)
    ∙ (ap (λ ts. old ++ n ∷ datas_of_all ts) c.as_slice-in-Named.ensures.value ∙ (ap (λ ns. old ++ n ∷ ns) (datas_flat (map plain_data c.in-Named.arguments.items)) ∙ ap (λ (a : ActionTree). old ++ in_action (plain_action a)) (sym c.in-Named.is)))))) c.add_datas.ensures
