use Rattle.std.proofs.lemmas.Result.{on_ok_weaker}
use Rattle.lps_printer.proofs.CopiedTrees.{sort_brackets_added, sort_list_added}
use Rattle.lps_printer.proofs.copied_tokens.CopiedText.+sort.Goals as goal

pub returns-in_ok-sort-in-List : goal.returns-in_ok-sort-in-List
returns-in_ok-sort-in-List t c =
    on_ok_weaker c.token-in-List-3.result (λ p. sort_list_added c.args.tree.now c.in-List.field-0 c.in-List.element c.deref.result.now c.deref.ensures c.in-List.is c.in_ok-token-in-List.ensures c.in_ok-token-in-List-2.ensures c.in_ok-sort-in-List.ensures p) c.token-in-List-3.ensures

pub returns-in_ok-sort-in-Brackets : goal.returns-in_ok-sort-in-Brackets
returns-in_ok-sort-in-Brackets t c =
    on_ok_weaker c.token-in-Brackets-2.result (λ p. sort_brackets_added c.args.tree.now c.in-Brackets.field-0 c.in-Brackets.inner c.deref-in-Brackets.result.now c.deref-in-Brackets.ensures c.in-Brackets.is c.in_ok-token-in-Brackets.ensures c.in_ok-sort-in-Brackets.ensures p) c.token-in-Brackets-2.ensures
