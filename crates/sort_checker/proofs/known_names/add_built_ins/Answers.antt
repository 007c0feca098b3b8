use Rattle.std.proofs.lemmas.Result.{IfOk-weaker}
use Rattle.sort_checker.proofs.NamesKnown.{words_told}
use Rattle.sort_checker.proofs.known_names.add_built_ins.Goals as goal

pub returns : goal.returns
returns c =
    IfOk-weaker c.add_words-3.result _ _ (λ _ list. words_told c.args.names.now c.add_words.new.names c.add_words-2.new.names c.add_words-3.new.names c.plain_words.result c.number_words.result c.list_words.result c.plain_words.ensures c.number_words.ensures c.list_words.ensures c.in_ok-add_words.ensures c.in_ok-add_words-2.ensures list)
    c.add_words-3.ensures
