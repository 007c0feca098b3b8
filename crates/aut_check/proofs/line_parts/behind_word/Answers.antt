use Rattle.std.proofs.lemmas.Slice.Eq.{strip_prefix_is}
use Rattle.std.proofs.lemmas.List.{take_rest}
use Rattle.std.proofs.Common.{drop, length, take, ◌-◌}
use Rattle.aut_check.proofs.PartLemmas.{nat_eq_decides, word_behind}
use Rattle.aut_check.proofs.line_parts.behind_word.Goals as goal

pub returns : goal.returns
returns c =
    let rest = take (length c.args.text.now - c.front_len-len.result) (drop c.front_len-len.result c.args.text.now) in
    word_behind c.args.text.now c.args.word.now rest c.front_len-len.result c.strip_prefix.result c.requires c.front_len-len.ensures.size (take_rest c.args.text.now c.front_len-len.result)
    (strip_prefix_is nat_eq_decides rest c.args.word.now c.strip_prefix.result c.strip_prefix.ensures.cases)
