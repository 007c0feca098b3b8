-- The words of a list, where a lone one stands in the list itself or they have a block of their own.
use Rattle.std.specs.Prelude.{List, [], ◌∷◌}
use Rattle.mcrl2_syntax.specs.declared.word.Word.{Word}
use Rattle.mcrl2_syntax.specs.declared.word_list.Kept.{Kept}
use Rattle.mcrl2_syntax.specs.declared.word_list.Kept.TheVariants.{Lone, Block}

abbrev pub kept_words : Kept → List Word
kept_words (Lone word) = word ∷ []
kept_words (Block words) = words.items
