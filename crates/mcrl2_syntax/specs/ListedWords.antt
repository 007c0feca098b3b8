-- Words, as a list.
use Rattle.std.specs.Prelude.{List}
use Rattle.mcrl2_syntax.specs.declared.word.Word.{Word}

pub record ListedWords : Type 0 where
  pub items : List Word
