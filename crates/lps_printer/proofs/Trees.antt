-- The expression that is typed, of a tree.
use Rattle.std.proofs.Common.{◌≡◌, refl, ap, ap₂}
use Rattle.mcrl2_syntax.specs.declared.data_tree.InfixSign.{InfixSign}
use Rattle.mcrl2_syntax.specs.declared.data_tree.InfixSign.TheVariants.{And, Or}
use Rattle.mcrl2_syntax.specs.DataTrees as tree_
use Rattle.mcrl2_syntax.specs.DataTrees.{PlainData, PlainDatas, PlainOperands, no_datas, more_datas, no_operands, more_operands}
use Rattle.sort_table.specs.Expressions as typed
use Rattle.sort_table.specs.BareData.{prefix_text, infix_text, bare_data, bare_datas, to_the_left, behind}
use Rattle.lps_printer.specs.PrintedExpressions.{Expression, binary, more, to_right, bare, bare_all, bare_left}
use Rattle.lps_printer.specs.PlainExpressions.{plain, plain_all}

mutual
  pub plain_bare : (d : PlainData) → plain (bare d) ≡ bare_data d
  plain_bare (tree_.named w) = refl
  plain_bare (tree_.numeral w) = refl
  plain_bare (tree_.true_data span) = refl
  plain_bare (tree_.false_data span) = refl
  plain_bare (tree_.listed span ds) = ap (λ (x : typed.Expressions). typed.listed x) (plain_bares ds)
  plain_bare (tree_.applied span w ds) = ap (λ (x : typed.Expressions). typed.word w.bytes x) (plain_bares ds)
  plain_bare (tree_.brackets span d) = plain_bare d
  plain_bare (tree_.prefix span sign d) = ap (λ (x : typed.Expression). typed.one (prefix_text sign) x) (plain_bare d)
  plain_bare (tree_.binary span sign d e) = ap₂ (λ (x y : typed.Expression). typed.two (infix_text sign) x y) (plain_bare d) (plain_bare e)
  plain_bare (tree_.sum_chain span d os) = plain_left (bare d) (bare_data d) os (plain_bare d)
  plain_bare (tree_.product_chain span d os) = plain_left (bare d) (bare_data d) os (plain_bare d)
  plain_bare (tree_.and_chain span no_datas) = refl
  plain_bare (tree_.and_chain span (more_datas d ds)) = plain_right And (bare d) (bare_data d) ds (plain_bare d)
  plain_bare (tree_.or_chain span no_datas) = refl
  plain_bare (tree_.or_chain span (more_datas d ds)) = plain_right Or (bare d) (bare_data d) ds (plain_bare d)

  pub plain_bares : (ds : PlainDatas) → plain_all (bare_all ds) ≡ bare_datas ds
  plain_bares no_datas = refl
  plain_bares (more_datas d ds) = ap₂ (λ (x : typed.Expression) (xs : typed.Expressions). typed.more x xs) (plain_bare d) (plain_bares ds)

  plain_left : (e : Expression) (f : typed.Expression) (os : PlainOperands) → plain e ≡ f → plain (bare_left e os) ≡ to_the_left f os
  plain_left e f no_operands h = h
  plain_left e f (more_operands sign d os) h = plain_left (binary sign e (bare d)) (typed.two (infix_text sign) f (bare_data d)) os (ap₂ (λ (x y : typed.Expression). typed.two (infix_text sign) x y) h (plain_bare d))

  plain_right : (sign : InfixSign) (e : Expression) (f : typed.Expression) (ds : PlainDatas) → plain e ≡ f → plain (to_right sign (more e (bare_all ds))) ≡ behind (infix_text sign) f ds
  plain_right sign e f no_datas h = h
  plain_right sign e f (more_datas d ds) h = ap₂ (λ (x y : typed.Expression). typed.two (infix_text sign) x y) h (plain_right sign (bare d) (bare_data d) ds (plain_bare d))
