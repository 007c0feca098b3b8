use Rattle.data_theory.specs.declared.words.ListWord.TheVariants as lists
use Rattle.data_theory.specs.declared.words.Word.TheVariants as words
use Rattle.lps_core.proofs.NamingLoops.{list_names_added}
use Rattle.lps_core.proofs.naming.add_list_names.Goals as goal

pub add_word-requires : goal.add_word-requires
add_word-requires c = c.signature_stands.ensures.complete.words (words.List lists.Head)

pub add_word-requires-2 : goal.add_word-requires-2
add_word-requires-2 c = c.signature_stands.ensures.complete.words (words.List lists.Rhead)

pub add_word-requires-3 : goal.add_word-requires-3
add_word-requires-3 c = c.signature_stands.ensures.complete.words (words.List lists.Tail)

pub add_word-requires-4 : goal.add_word-requires-4
add_word-requires-4 c = c.signature_stands.ensures.complete.words (words.List lists.Rtail)

pub returns : goal.returns
returns c =
    list_names_added c.args.sig.now.texts c.args.names.now.keys c.add_word.new.names.keys c.add_word-2.new.names.keys c.add_word-3.new.names.keys c.add_word-4.new.names.keys
    c.in_ok-add_word.ensures c.in_ok-add_word-2.ensures c.in_ok-add_word-3.ensures c.in_ok-add_word-4.ensures
