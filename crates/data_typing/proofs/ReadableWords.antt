-- A data expression that is made of words can be read.
use Rattle.std.proofs.Common.{refl}
use Rattle.mcrl2_lexer.proofs.NameTokens.{identifier_is_text}
use Rattle.mcrl2_lexer.proofs.NumeralTokens.{numeral_digits}
use Rattle.mcrl2_syntax.specs.DataTrees as trees
use Rattle.mcrl2_syntax.specs.DataTrees.{PlainData, PlainDatas, PlainOperands, no_datas, more_datas, no_operands, more_operands}
use Rattle.mcrl2_syntax.specs.TreeWords.{IsDataOfWords, AreDatasOfWords, AreOperandsOfWords}
use Rattle.data_typing.specs.Readings.{IsReadable, AreReadable, AreReadableOperands}

mutual
  pub data_are_readable : (d : PlainData) → IsDataOfWords d → IsReadable d
  data_are_readable (trees.named w) is = identifier_is_text is
  data_are_readable (trees.numeral w) is = (numeral_digits is.token refl, is.fits)
  data_are_readable (trees.true_data span) is = tt
  data_are_readable (trees.false_data span) is = tt
  data_are_readable (trees.listed span ds) is = datas_are_readable ds is
  data_are_readable (trees.applied span f ds) is = (identifier_is_text is.0, datas_are_readable ds is.1)
  data_are_readable (trees.brackets span d) is = data_are_readable d is
  data_are_readable (trees.prefix span sign d) is = data_are_readable d is
  data_are_readable (trees.binary span sign d e) is = (data_are_readable d is.0, data_are_readable e is.1)
  data_are_readable (trees.sum_chain span d os) is = (data_are_readable d is.0, operands_are_readable os is.1)
  data_are_readable (trees.product_chain span d os) is = (data_are_readable d is.0, operands_are_readable os is.1)
  data_are_readable (trees.and_chain span ds) is = datas_are_readable ds is
  data_are_readable (trees.or_chain span ds) is = datas_are_readable ds is

  datas_are_readable : (ds : PlainDatas) → AreDatasOfWords ds → AreReadable ds
  datas_are_readable no_datas all = tt
  datas_are_readable (more_datas d ds) all = (data_are_readable d all.0, datas_are_readable ds all.1)

  operands_are_readable : (os : PlainOperands) → AreOperandsOfWords os → AreReadableOperands os
  operands_are_readable no_operands all = tt
  operands_are_readable (more_operands sign d os) all = (data_are_readable d all.0, operands_are_readable os all.1)
