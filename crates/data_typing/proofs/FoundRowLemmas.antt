-- The function of a row is found by its name and sorts.
use Rattle.std.proofs.Common.{◌≡◌, ◌<◌, ◌==◌, ℕ, Bool, true, List, length, map, Some, sym, subst, ap, ◌∙◌}
use Rattle.std.specs.Prelude.{Option, None, slice_get, IfSome}
use Rattle.std.specs.List.{All}
use Rattle.std.proofs.lemmas.Bool.Decides.{Decides-eqb}
use Rattle.std.proofs.lemmas.Option.{slice_get_within}
use Rattle.data_theory.specs.declared.ids.SortId.{SortId}
use Rattle.data_theory.specs.declared.words.Word.{Word}
use Rattle.data_theory.specs.Words.{text_of}
use Rattle.data_theory.specs.Terms.{Sort}
use Rattle.data_theory.specs.Functions.{Function}
use Rattle.data_theory.specs.WholeSignatures.{IsSignature}
use Rattle.data_theory.specs.IdTerms.{sort_under}
use Rattle.data_theory.specs.Rows.{row_text}
use Rattle.data_theory.specs.Signature.{Sig, IsFun}
use Rattle.data_typing.specs.WordPlaces.{word_place}
use Rattle.data_typing.specs.FoundRows.{IsFoundRow}
use Rattle.data_typing.specs.Typings.{over}
use Rattle.data_typing.specs.Within.{IsBuiltIn}
use Rattle.data_typing.proofs.RowNumbers.{row_is_found}

pub row_found : (g : Sig) (w : Word) (xs : List SortId) (to : SortId) (f : IsFoundRow g w xs to) (t : List ℕ) → t ≡ text_of w → IsFun g t xs f.stands.0
row_found g w xs to f t e = subst (λ u. IsFun g u xs f.stands.0) (ap text_of f.word ∙ sym e) (subst (λ ss. IsFun g (row_text f.row) ss f.stands.0) f.arguments f.stands.1.found)

pub row_told : (g : Sig) (w : Word) (xs : List SortId) (to : SortId) (f : IsFoundRow g w xs to) (t : List ℕ) → t ≡ text_of w → (i : ℕ) → IsFun g t xs i → (b : Bool)
    → IfSome (slice_get g.functions i) (λ (h : Function). h.word ≡ Some w → h.result ≡ to → b ≡ true) → b ≡ true
row_told g w xs to f t e i is b tells =
    let here : IsFun g (row_text f.row) (_) i = subst (λ u. IsFun g u xs i) (e ∙ ap text_of (sym f.word)) is in
    let same : i ≡ f.stands.0 = f.stands.1.alone i (subst (λ ss. IsFun g (row_text f.row) ss i) (sym f.arguments) here) in
    subst (λ (o : Option Function). IfSome o (λ (h : Function). h.word ≡ Some w → h.result ≡ to → b ≡ true)) (ap (slice_get g.functions) same ∙ f.stands.1.stands) tells (ap Some f.word) f.result

pub fun_within : (g : Sig) (t : List ℕ) (xs : List SortId) (i : ℕ) → IsFun g t xs i → i < length g.functions
fun_within g t xs i is = slice_get_within g.functions i is.0 is.1

pub of_word_tells : (o : Option Function) (r : Option Word) (found w : Word) (to : SortId) (a b : ℕ) → IfSome o (λ (f : Function). f.word ≡ r) → r ≡ Some found → a ≡ word_place found → b ≡ word_place w
    → IfSome o (λ (f : Function). f.word ≡ Some w → f.result ≡ to → (a == b) ≡ true)
of_word_tells None r found w to a b h is p q = tt
of_word_tells (Some f) r found w to a b h is p q = λ k l. (Decides-eqb a b).1 (p ∙ ap word_place (let same : found ≡ w = cc in same) ∙ sym q)

-- the function of a sound overload is found
pub callee_found : (g : Sig) → IsSignature g → (w : Word) (ss : List Sort) (to : Sort) → IsBuiltIn w ss to → (xs : List SortId) (x : SortId) → All (λ (y : SortId). y.0 < length g.sorts) xs → x.0 < length g.sorts
    → map (sort_under g) xs ≡ ss → sort_under g x ≡ to → IsFoundRow g w xs x
callee_found g stands w ss to b xs x all l e f =
    let r = b.row.row in
    subst (λ v. IsFoundRow g v xs x) b.row.word
    (row_is_found g stands b.at r b.row.stands xs x all l (e ∙ b.sorts ∙ ap (map (over b.at)) (sym b.row.places)) (f ∙ b.result_sort ∙ ap (over b.at) (sym b.row.result)))
