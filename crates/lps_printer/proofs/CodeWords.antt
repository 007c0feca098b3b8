-- The symbols of words: how they are written, and how their arguments are told apart.
use Rattle.std.proofs.Common.{◌≡◌, false, List, length, Some, refl, ap, ◌∙◌}
use Rattle.std.specs.Prelude.{slice_get}
use Rattle.std.proofs.lemmas.List.{length-map}
use Rattle.data_theory.specs.declared.ids.FunId.{FunId}
use Rattle.data_theory.specs.declared.words.Word.{Word}
use Rattle.data_theory.specs.Terms.{Sort, Operation, Comparison, less, at_most, greater, at_least, Symbol, truth, falsity, negation, conjunction, disjunction, implication, equality, inequality, conditional, comparison, arithmetic, minus, upcast, empty, cons, snoc, concatenation, size, element_at, head, rhead, tail, rtail, membership, function}
use Rattle.data_theory.specs.Declarations.{Data, argument_sorts, result_sort, IsSymbol, IsUpcast, pos2nat, nat2int, pos2int, IsOperation, add_pos_pos, add_pos_nat, add_nat_pos, add_nat_nat, add_int_int, subtract_pos, subtract_nat, subtract_int, multiply_pos, multiply_nat, multiply_int, div_nat, div_int, mod_nat, mod_int, exp_pos, exp_nat, exp_int, min_pos, min_nat, min_int, max_pos, max_nat, max_int, abs_int, succ_pos, succ_nat, succ_int, pred_pos, pred_nat, pred_int, nat2pos, int2nat, int2pos}
use Rattle.data_theory.specs.Functions.{Function, arguments_of}
use Rattle.data_theory.specs.Signature.{Sig}
use Rattle.data_theory.specs.IdTables.{IsTable}
use Rattle.data_theory.specs.IdData.{data_meant}
use Rattle.data_theory.specs.IdTerms.{sort_under, symbol_under}
use Rattle.data_theory.proofs.IdRowLemmas.{word_of, is_declared}
use Rattle.data_theory.proofs.IdSymbolLemmas.{built_in_tells, symbol_fits}
use Rattle.lps_printer.specs.WrittenTerms.{Names, operation_shape, upcast_name, called, shape, built_in, a_cast, manner}
use Rattle.lps_printer.specs.WordForms.{word_shape, word_class, at_sort}

operation_shapes : {op : Operation} {ss : List Sort} {to : Sort} → IsOperation op ss to → operation_shape op ss to ≡ word_shape (word_of (arithmetic op ss to)) (length ss)
operation_shapes add_pos_pos = refl
operation_shapes add_pos_nat = refl
operation_shapes add_nat_pos = refl
operation_shapes add_nat_nat = refl
operation_shapes add_int_int = refl
operation_shapes subtract_pos = refl
operation_shapes subtract_nat = refl
operation_shapes subtract_int = refl
operation_shapes multiply_pos = refl
operation_shapes multiply_nat = refl
operation_shapes multiply_int = refl
operation_shapes div_nat = refl
operation_shapes div_int = refl
operation_shapes mod_nat = refl
operation_shapes mod_int = refl
operation_shapes exp_pos = refl
operation_shapes exp_nat = refl
operation_shapes exp_int = refl
operation_shapes min_pos = refl
operation_shapes min_nat = refl
operation_shapes min_int = refl
operation_shapes max_pos = refl
operation_shapes max_nat = refl
operation_shapes max_int = refl
operation_shapes abs_int = refl
operation_shapes succ_pos = refl
operation_shapes succ_nat = refl
operation_shapes succ_int = refl
operation_shapes pred_pos = refl
operation_shapes pred_nat = refl
operation_shapes pred_int = refl
operation_shapes nat2pos = refl
operation_shapes int2nat = refl
operation_shapes int2pos = refl

upcast_shapes : {s to : Sort} → IsUpcast s to → called (upcast_name s to) ≡ word_shape (word_of (upcast s to)) 1
upcast_shapes pos2nat = refl
upcast_shapes nat2int = refl
upcast_shapes pos2int = refl

comparison_shapes : (n : Names) (c : Comparison) (s : Sort) → shape n (comparison c s) ≡ word_shape (word_of (comparison c s)) 2
comparison_shapes n less s = refl
comparison_shapes n at_most s = refl
comparison_shapes n greater s = refl
comparison_shapes n at_least s = refl

-- how a built-in symbol is written goes by its word
word_shapes : (d : Data) (n : Names) (y : Symbol) → IsSymbol d y → is_declared y ≡ false → shape n y ≡ word_shape (word_of y) (length (argument_sorts d y))
word_shapes d n truth i e = refl
word_shapes d n falsity i e = refl
word_shapes d n negation i e = refl
word_shapes d n conjunction i e = refl
word_shapes d n disjunction i e = refl
word_shapes d n implication i e = refl
word_shapes d n (equality s) i e = refl
word_shapes d n (inequality s) i e = refl
word_shapes d n (conditional s) i e = refl
word_shapes d n (comparison c s) i e = comparison_shapes n c s
word_shapes d n (arithmetic op ss to) i e = operation_shapes i
word_shapes d n (minus s) i e = refl
word_shapes d n (upcast s to) i e = upcast_shapes i
word_shapes d n (empty s) i e = refl
word_shapes d n (cons s) i e = refl
word_shapes d n (snoc s) i e = refl
word_shapes d n (concatenation s) i e = refl
word_shapes d n (size s) i e = refl
word_shapes d n (element_at s) i e = refl
word_shapes d n (head s) i e = refl
word_shapes d n (rhead s) i e = refl
word_shapes d n (tail s) i e = refl
word_shapes d n (rtail s) i e = refl
word_shapes d n (membership s) i e = refl
word_shapes d n (function k) i e = cc

operation_manners : {op : Operation} {ss : List Sort} {to : Sort} → IsOperation op ss to → built_in ≡ at_sort to (word_class (word_of (arithmetic op ss to)))
operation_manners add_pos_pos = refl
operation_manners add_pos_nat = refl
operation_manners add_nat_pos = refl
operation_manners add_nat_nat = refl
operation_manners add_int_int = refl
operation_manners subtract_pos = refl
operation_manners subtract_nat = refl
operation_manners subtract_int = refl
operation_manners multiply_pos = refl
operation_manners multiply_nat = refl
operation_manners multiply_int = refl
operation_manners div_nat = refl
operation_manners div_int = refl
operation_manners mod_nat = refl
operation_manners mod_int = refl
operation_manners exp_pos = refl
operation_manners exp_nat = refl
operation_manners exp_int = refl
operation_manners min_pos = refl
operation_manners min_nat = refl
operation_manners min_int = refl
operation_manners max_pos = refl
operation_manners max_nat = refl
operation_manners max_int = refl
operation_manners abs_int = refl
operation_manners succ_pos = refl
operation_manners succ_nat = refl
operation_manners succ_int = refl
operation_manners pred_pos = refl
operation_manners pred_nat = refl
operation_manners pred_int = refl
operation_manners nat2pos = refl
operation_manners int2nat = refl
operation_manners int2pos = refl

upcast_manners : {s to : Sort} → IsUpcast s to → a_cast ≡ at_sort to (word_class (word_of (upcast s to)))
upcast_manners pos2nat = refl
upcast_manners nat2int = refl
upcast_manners pos2int = refl

comparison_manners : (d : Data) (c : Comparison) (s : Sort) → built_in ≡ at_sort (result_sort d (comparison c s)) (word_class (word_of (comparison c s)))
comparison_manners d less s = refl
comparison_manners d at_most s = refl
comparison_manners d greater s = refl
comparison_manners d at_least s = refl

-- and so does its manner
word_manners : (d : Data) (y : Symbol) → IsSymbol d y → is_declared y ≡ false → manner y ≡ at_sort (result_sort d y) (word_class (word_of y))
word_manners d truth i e = refl
word_manners d falsity i e = refl
word_manners d negation i e = refl
word_manners d conjunction i e = refl
word_manners d disjunction i e = refl
word_manners d implication i e = refl
word_manners d (equality s) i e = refl
word_manners d (inequality s) i e = refl
word_manners d (conditional s) i e = refl
word_manners d (comparison c s) i e = comparison_manners d c s
word_manners d (arithmetic op ss to) i e = operation_manners i
word_manners d (minus s) i e = refl
word_manners d (upcast s to) i e = upcast_manners i
word_manners d (empty s) i e = refl
word_manners d (cons s) i e = refl
word_manners d (snoc s) i e = refl
word_manners d (concatenation s) i e = refl
word_manners d (size s) i e = refl
word_manners d (element_at s) i e = refl
word_manners d (head s) i e = refl
word_manners d (rhead s) i e = refl
word_manners d (tail s) i e = refl
word_manners d (rtail s) i e = refl
word_manners d (membership s) i e = refl
word_manners d (function k) i e = cc

-- ---- by the tables of a signature
module _ (g : Sig) (table : IsTable g) (i : FunId) (f : Function) (w : Word) (at : slice_get g.functions i.0 ≡ Some f) (e : f.word ≡ Some w) where
  pub shape_of_word : (n : Names) → shape n (symbol_under g i) ≡ word_shape w (length (arguments_of f))
  shape_of_word n =
      let told = built_in_tells g table i f w at e in
      let y : Symbol = symbol_under g i in
      word_shapes (data_meant g) n y told.3 told.2
      ∙ ap (λ v. word_shape v (length (argument_sorts (data_meant g) y))) told.0
      ∙ ap (word_shape w) (ap length (symbol_fits g table i f at).1 ∙ length-map (arguments_of f) (sort_under g))

  pub manner_of_word : manner (symbol_under g i) ≡ at_sort (sort_under g f.result) (word_class w)
  manner_of_word =
      let told = built_in_tells g table i f w at e in
      let y : Symbol = symbol_under g i in
      word_manners (data_meant g) y told.3 told.2
      ∙ ap (λ v. at_sort (result_sort (data_meant g) y) (word_class v)) told.0
      ∙ ap (λ s. at_sort s (word_class w)) told.5
