use Rattle.std.proofs.Common.{List, map, not, ap, sym, ◌∙◌, arith}
use Rattle.std.specs.List.{list_any}
use Rattle.mcrl2_syntax.specs.declared.process_tree.CommRule.{CommRule}
use Rattle.mcrl2_syntax.specs.declared.word.Word.{Word}
use Rattle.mcrl2_syntax.specs.Words.{word_of}
use Rattle.sort_table.specs.BareProcesses.{bare_names}
use Rattle.sort_checker.specs.NameNumbers.{has_name}
use Rattle.sort_checker.proofs.ActionGroups.{not_apart, apart_now, known_now}
use Rattle.sort_checker.proofs.comm_shapes.are_apart.Goals as goal

pub returns-then-has_one : goal.returns-then-has_one
returns-then-has_one c =
    let some = c.loop-left-test.true in
    not_apart c.args.rules.now _ (apart_now c.args.rules.now c.loop-left.left some c.loop-left.invariant.within c.index-rules-left.result c.index-rules-left.is c.loop-left.behind c.loop-left.invariant.known c.has_one.result
    (c.has_one.ensures ∙ ap (λ (ws : List Word). list_any (has_name c.loop-left.behind) (bare_names (map word_of ws))) (c.as_slice-names.ensures.value ∙ ap (λ (r : CommRule). r.names.items) (sym c.index-rules-left.is))) c.loop-left.invariant.apart ∙ ap not c.if-has_one.true)

pub loop-left-preserved : goal.loop-left-preserved
loop-left-preserved c = record {
  within = omega (arith, c.loop-left.invariant.within);
  apart = apart_now c.args.rules.now c.loop-left.left c.loop-left-test.true c.loop-left.invariant.within c.index-rules-left.result c.index-rules-left.is c.loop-left.behind c.loop-left.invariant.known c.has_one.result
      (c.has_one.ensures ∙ ap (λ (ws : List Word). list_any (has_name c.loop-left.behind) (bare_names (map word_of ws))) (c.as_slice-names.ensures.value ∙ ap (λ (r : CommRule). r.names.items) (sym c.index-rules-left.is))) c.loop-left.invariant.apart ∙ ap not c.if-has_one.false;
  known = known_now c.args.rules.now c.loop-left.left c.loop-left-test.true c.loop-left.invariant.within c.index-rules-left.result c.index-rules-left.is c.loop-left.behind c.add_words.new.names c.as_slice-names.result.now (c.as_slice-names.ensures.value ∙ ap (λ (r : CommRule). r.names.items) (sym c.index-rules-left.is)) c.loop-left.invariant.known c.in_ok-add_words.ensures;
}
