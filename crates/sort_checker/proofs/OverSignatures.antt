-- The names in the vocabulary of a signature have numbers of its data.
use Rattle.std.proofs.Common.{◌≡◌, ◌+◌, ◌≤◌, ◌<◌, ℕ, suc, List, [], ◌∷◌, length, sym, ap, ◌∙◌, arith}
use Rattle.std.specs.List.{AllByRecursion}
use Rattle.std.proofs.lemmas.List.{length-map}
use Rattle.data_theory.specs.declared.ids.FunId.{FunId}
use Rattle.data_theory.specs.Signature.{Sig}
use Rattle.data_theory.specs.WholeSignatures.{IsSignature}
use Rattle.data_theory.specs.IdData.{data_meant, function_meant}
use Rattle.data_theory.specs.IdSymbols.{declared_from}
use Rattle.data_theory.proofs.IdDataLemmas.{meant_data_are_data}
use Rattle.sort_table.specs.Expressions.{Name}
use Rattle.sort_table.specs.SignatureVocabularies.{function_names_from, vocabulary_of}
use Rattle.data_typing.specs.TypingLaws.{IsOverData}

numbered_below : (g : Sig) (k n : ℕ) (is : List FunId) → k + length is ≤ n → AllByRecursion (λ (r : Name × ℕ). r.1 < n) (function_names_from g k is)
numbered_below g k n [] l = tt
numbered_below g k n (i ∷ is) l = (omega (arith, l), numbered_below g (suc k) n is (omega (arith, l)))

-- there are as many functions as declared ones
pub many_declared : (g : Sig) → IsSignature g → length (data_meant g).functions ≡ length g.declared
many_declared g sg = length-map (declared_from 0 g.functions) (function_meant g) ∙ sym (ap length sg.table.listed)

pub data_over : (g : Sig) → IsSignature g → IsOverData (vocabulary_of g)
data_over g sg =
    let long = many_declared g sg in record { data_are = meant_data_are_data g sg.table sg.roles; numbers = numbered_below g 0 (length (data_meant g).functions) g.declared (omega (arith, long)) }
