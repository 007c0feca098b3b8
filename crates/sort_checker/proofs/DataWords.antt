-- Where no sign passes a test, nor `true` nor `false`, the first word of an expression that passes is its first such identifier.
use Rattle.std.proofs.Common.{◌≡◌, Bool, false, cond, List, [], ◌∷◌, ◌++◌, refl, sym, ap, ap₂, ◌∙◌}
use Rattle.std.specs.Prelude.{Option, Some, None, codes}
use Rattle.std.specs.Option.{option_or}
use Rattle.std.specs.List.{find}
use Rattle.std.proofs.lemmas.List.Folds.{find-append}
use Rattle.mcrl2_syntax.specs.declared.data_tree.PrefixSign.{PrefixSign}
use Rattle.mcrl2_syntax.specs.declared.data_tree.InfixSign.{InfixSign}
use Rattle.mcrl2_syntax.specs.declared.data_tree.InfixSign.TheVariants as infixes
use Rattle.mcrl2_syntax.specs.DataTrees as trees
use Rattle.mcrl2_syntax.specs.DataTrees.{PlainData, PlainDatas, PlainOperands, no_datas, more_datas, no_operands, more_operands}
use Rattle.sort_table.specs.Expressions.{Name, Expression, two}
use Rattle.sort_table.specs.BareData.{prefix_text, infix_text, bare_data, bare_datas, to_the_left, to_the_right, behind}
use Rattle.sort_table.specs.Identifiers.{in_data, in_datas, in_operands}
use Rattle.sort_checker.specs.Faults.{words_in, words_in_all}
use Rattle.sort_checker.proofs.Firsts.{or_none}

or_or : {A : Type 0} (o p q : Option A) → option_or (option_or o p) q ≡ option_or o (option_or p q)
or_or None p q = refl
or_or (Some x) p q = refl

-- no sign passes, nor `true` nor `false`
pub record PassesNoSign (p : Name → Bool) : Type 0 where
  pub between : (sign : InfixSign) → p (infix_text sign) ≡ false
  pub before : (sign : PrefixSign) → p (prefix_text sign) ≡ false
  pub truth : p (codes "true") ≡ false
  pub falsehood : p (codes "false") ≡ false

module _ (p : Name → Bool) (no : PassesNoSign p) where
  skipped : (f : Name) (fs : List Name) → p f ≡ false → find p (f ∷ fs) ≡ find p fs
  skipped f fs h = ap (λ (b : Bool). cond b (Some f) (find p fs)) h

  joined : (fs gs : List Name) → find p (fs ++ gs) ≡ option_or (find p fs) (find p gs)
  joined fs gs = find-append p fs gs

  alone : (e : Expression) → find p (words_in e ++ []) ≡ find p (words_in e)
  alone e = joined (words_in e) [] ∙ or_none (find p (words_in e))

  two_words : (f : Name) (e d : Expression) → p f ≡ false → find p (words_in (two f e d)) ≡ option_or (find p (words_in e)) (find p (words_in d))
  two_words f e d h = skipped f (words_in e ++ (words_in d ++ [])) h ∙ (joined (words_in e) (words_in d ++ []) ∙ ap (λ (o : Option Name). option_or (find p (words_in e)) o) (alone d))

  mutual
    pub identifier_passes : (d : PlainData) → find p (words_in (bare_data d)) ≡ find p (in_data d)
    identifier_passes (trees.named w) = refl
    identifier_passes (trees.numeral w) = refl
    identifier_passes (trees.true_data span) = skipped (codes "true") [] no.truth
    identifier_passes (trees.false_data span) = skipped (codes "false") [] no.falsehood
    identifier_passes (trees.listed span ds) = all_pass ds
    identifier_passes (trees.applied span f ds) = ap (λ (o : Option Name). cond (p f.bytes) (Some f.bytes) o) (all_pass ds)
    identifier_passes (trees.brackets span d) = identifier_passes d
    identifier_passes (trees.prefix span sign d) = skipped (prefix_text sign) (words_in (bare_data d) ++ []) (no.before sign) ∙ (alone (bare_data d) ∙ identifier_passes d)
    identifier_passes (trees.binary span sign d e) =
        two_words (infix_text sign) (bare_data d) (bare_data e) (no.between sign)
        ∙ (ap₂ option_or (identifier_passes d) (identifier_passes e) ∙ sym (joined (in_data d) (in_data e)))
    identifier_passes (trees.sum_chain span d os) = left_passes (bare_data d) os ∙ (ap (λ (o : Option Name). option_or o (find p (in_operands os))) (identifier_passes d) ∙ sym (joined (in_data d) (in_operands os)))
    identifier_passes (trees.product_chain span d os) = left_passes (bare_data d) os ∙ (ap (λ (o : Option Name). option_or o (find p (in_operands os))) (identifier_passes d) ∙ sym (joined (in_data d) (in_operands os)))
    identifier_passes (trees.and_chain span ds) = right_passes (codes "&&") (no.between infixes.And) ds
    identifier_passes (trees.or_chain span ds) = right_passes (codes "||") (no.between infixes.Or) ds

    all_pass : (ds : PlainDatas) → find p (words_in_all (bare_datas ds)) ≡ find p (in_datas ds)
    all_pass no_datas = refl
    all_pass (more_datas d ds) = joined (words_in (bare_data d)) (words_in_all (bare_datas ds)) ∙ (ap₂ option_or (identifier_passes d) (all_pass ds) ∙ sym (joined (in_data d) (in_datas ds)))

    left_passes : (e : Expression) (os : PlainOperands) → find p (words_in (to_the_left e os)) ≡ option_or (find p (words_in e)) (find p (in_operands os))
    left_passes e no_operands = sym (or_none (find p (words_in e)))
    left_passes e (more_operands sign d os) =
        left_passes (two (infix_text sign) e (bare_data d)) os
        ∙ (ap (λ (o : Option Name). option_or o (find p (in_operands os))) (two_words (infix_text sign) e (bare_data d) (no.between sign) ∙ ap (λ (o : Option Name). option_or (find p (words_in e)) o) (identifier_passes d))
        ∙ (or_or (find p (words_in e)) (find p (in_data d)) (find p (in_operands os)) ∙ ap (λ (o : Option Name). option_or (find p (words_in e)) o) (sym (joined (in_data d) (in_operands os)))))

    right_passes : (f : Name) → p f ≡ false → (ds : PlainDatas) → find p (words_in (to_the_right f ds)) ≡ find p (in_datas ds)
    right_passes f h no_datas = skipped f [] h
    right_passes f h (more_datas d ds) = behind_passes f h d (identifier_passes d) ds

    behind_passes : (f : Name) → p f ≡ false → (d : PlainData) → find p (words_in (bare_data d)) ≡ find p (in_data d) → (ds : PlainDatas) → find p (words_in (behind f (bare_data d) ds)) ≡ find p (in_data d ++ in_datas ds)
    behind_passes f h d first no_datas = first ∙ sym (joined (in_data d) [] ∙ or_none (find p (in_data d)))
    behind_passes f h d first (more_datas e ds) =
        two_words f (bare_data d) (behind f (bare_data e) ds) h
        ∙ (ap₂ option_or first (behind_passes f h e (identifier_passes e) ds) ∙ sym (joined (in_data d) (in_data e ++ in_datas ds)))
