-- What is declared under other names changes no typing.
use Rattle.std.proofs.Common.{◌≡◌, ◌<◌, ℕ, zero, suc, List, [], ◌∷◌, ◌++◌, length, map, refl, ap, ◌∙◌, arith}
use Rattle.std.specs.Prelude.{get_or}
use Rattle.std.specs.List.{AllByRecursion}
use Rattle.data_theory.specs.Terms.{function, boolean}
use Rattle.data_theory.specs.Declarations.{DeclaredFunction, mapping}
use Rattle.sort_table.specs.Expressions.{Name, Expression, Expressions, numeral, listed, word, none, more}
use Rattle.sort_table.specs.NamedLists.{all_named, first_named}
use Rattle.sort_table.specs.Vocabularies.{Vocabulary}
use Rattle.sort_table.specs.Growth.{More, with_more}
use Rattle.data_typing.specs.Typings.{Signature, functions}
use Rattle.data_typing.specs.BuiltIns.{built_ins, scheme_named}
use Rattle.data_typing.specs.Meanings.{bound_row, declared_signature, signatures_named, meaning_or, meaning}
use Rattle.data_typing.specs.TypingLaws.{EachWord, EachPartOf, IsOverData, StandsNotAmong, OtherNamesChangeNothing}
use Rattle.data_typing.proofs.NamedParts.{all_named_are, same_named}
use Rattle.data_typing.proofs.TypingWords.{typing_hangs_on_its_words}

mutual
  each_word : (P Q : Name → Type 0) → ((f : Name) → P f → Q f) → (e : Expression) → EachWord P e → EachWord Q e
  each_word P Q k (numeral n) h = tt
  each_word P Q k (listed es) h = each_word_of P Q k es h
  each_word P Q k (word f es) h = (k f h.0, each_word_of P Q k es h.1)

  each_word_of : (P Q : Name → Type 0) → ((f : Name) → P f → Q f) → (es : Expressions) → EachPartOf P (λ n. Unit {0}) es → EachPartOf Q (λ n. Unit {0}) es
  each_word_of P Q k none h = tt
  each_word_of P Q k (more e es) h = (each_word P Q k e h.0, each_word_of P Q k es h.1)

read_in_front : (fs gs : List DeclaredFunction) (k : ℕ) (z : DeclaredFunction) → k < length fs → get_or (fs ++ gs) k z ≡ get_or fs k z
read_in_front [] gs k z h = let no_way : ⊥ = omega arith in absurd no_way
read_in_front (f ∷ fs) gs zero z h = refl
read_in_front (f ∷ fs) gs (suc k) z h = let l : k < length fs = omega arith in read_in_front fs gs k z l

declared_same : (v : Vocabulary) (m : More) (ks : List ℕ) → AllByRecursion (λ k. k < length v.tables.functions) ks → map (declared_signature (with_more v m).tables) ks ≡ map (declared_signature v.tables) ks
declared_same v m [] all = refl
declared_same v m (k ∷ ks) all =
    let no_function : DeclaredFunction = record { arguments = []; result = boolean; role = mapping } in
    let to : DeclaredFunction → Signature = λ f. record { symbol = function k; arguments = f.arguments; result = f.result } in
    ap (λ f. to f ∷ map (declared_signature (with_more v m).tables) ks) (read_in_front v.tables.functions m.functions k no_function all.0)
    ∙ ap (λ ss. declared_signature v.tables k ∷ ss) (declared_same v m ks all.1)

same_signatures : (v : Vocabulary) (m : More) → IsOverData v → (f : Name) → StandsNotAmong m.function_names f → signatures_named (with_more v m) f ≡ signatures_named v f
same_signatures v m is f new =
    ap (λ ks. built_ins f ++ map (declared_signature (with_more v m).tables) ks) (same_named f v.function_names m.function_names new)
    ∙ ap (λ ss. built_ins f ++ ss) (declared_same v m (all_named f v.function_names) (all_named_are (λ k. k < length v.tables.functions) f v.function_names is.numbers))

pub other_names_change_nothing : OtherNamesChangeNothing
other_names_change_nothing v m scope e is new =
    typing_hangs_on_its_words (meaning (with_more v m) scope) (meaning v scope) e
    (each_word (StandsNotAmong m.function_names) (λ f. meaning (with_more v m) scope f ≡ meaning v scope f)
    (λ f h. ap (λ fs. meaning_or (functions fs (scheme_named f)) (first_named f (map bound_row scope))) (same_signatures v m is f h)) e new)
