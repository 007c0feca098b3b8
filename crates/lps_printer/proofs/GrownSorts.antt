-- What is written for a sort stays as the signature grows.
use Rattle.std.proofs.Common.{◌≡◌, ◌<◌, ℕ, [], length, take, codes, get_or, Some, refl, sym, ap, ◌∙◌, arith}
use Rattle.std.specs.Prelude.{slice_get}
use Rattle.std.proofs.lemmas.List.{take-append-le}
use Rattle.std.proofs.lemmas.Option.{slice_get_within}
use Rattle.data_theory.specs.declared.ids.NameId.{NameId}
use Rattle.data_theory.specs.declared.ids.SortId.{SortId}
use Rattle.data_theory.specs.Terms.{Sort, boolean, positive, natural, integer, list, named}
use Rattle.data_theory.specs.Declarations.{IsSort}
use Rattle.data_theory.specs.IdSorts.{constructions}
use Rattle.data_theory.specs.IdData.{data_meant}
use Rattle.data_theory.specs.IdTerms.{sort_under, IsGrown}
use Rattle.data_theory.specs.Signature.{Sig}
use Rattle.data_theory.specs.WholeSignatures.{IsSignature}
use Rattle.data_theory.proofs.IdSortLemmas.{growth_keeps_meant_sorts}
use Rattle.data_theory.proofs.IdSymbolLemmas.{sort_is}
use Rattle.data_theory.proofs.PlaceLemmas.{read_front}
use Rattle.sort_table.specs.Expressions.{Name}
use Rattle.sort_table.specs.BareSorts.{lists_of, a_name}
use Rattle.sort_table.specs.SignatureVocabularies.{text_under}
use Rattle.sort_table.specs.NamedSorts.{sort_names_of}
use Rattle.sort_table.specs.Vocabularies.{sort_in}
use Rattle.sort_table.proofs.Growing.{front_entry}
use Rattle.lps_printer.specs.SignatureNames.{text_names_under}
use Rattle.lps_printer.specs.WrittenProcesses.{sort_written}
use Rattle.lps_printer.proofs.SignatureNames.{sort_named_at}
use Rattle.lps_printer.proofs.SortsBack.{declared_sort_at, name_there, sort_back}

module _ (g h : Sig) (stands : IsSignature g) (w : IsGrown g h) (x : Name) where
  pub text_still : (n : NameId) → n.0 < length g.texts → text_under h n ≡ text_under g n
  text_still n l = ap (λ ts. get_or ts n.0 []) w.texts ∙ front_entry g.texts w.new_texts n.0 [] l

  name_still : (d : ℕ) → d < length (constructions g.sorts) → (text_names_under h x).sort d ≡ (text_names_under g x).sort d
  name_still d l =
      let r = declared_sort_at g.sorts d l in
      let n = name_there g stands r in
      let low = slice_get_within g.sorts r.place r.entry r.stands in
      let there : slice_get h.sorts r.place ≡ Some r.entry = ap (λ ss. slice_get ss r.place) w.sorts ∙ read_front g.sorts w.new_sorts r.place r.entry r.stands in
      let front : take r.place h.sorts ≡ take r.place g.sorts = ap (take r.place) w.sorts ∙ take-append-le r.place g.sorts w.new_sorts (omega (arith, low)) in
      let number : length (constructions (take r.place h.sorts)) ≡ d = ap (λ ss. length (constructions ss)) front ∙ r.number in
      ap (λ j. (text_names_under h x).sort j) (sym number) ∙ sort_named_at h h.sorts r.place r.entry n.0 (codes "S") there r.declared n.1
      ∙ text_still n.0 n.2
      ∙ sym (ap (λ j. (text_names_under g x).sort j) (sym r.number) ∙ sort_named_at g g.sorts r.place r.entry n.0 (codes "S") r.stands r.declared n.1)

  pub written_still : (s : Sort) → IsSort (data_meant g) s → sort_written (text_names_under h x) s ≡ sort_written (text_names_under g x) s
  written_still boolean is = refl
  written_still positive is = refl
  written_still natural is = refl
  written_still integer is = refl
  written_still (list s) is = ap lists_of (written_still s is)
  written_still (named d) is = ap a_name (name_still d is)

  -- and is read as the sort
  pub read_still : (s : SortId) → s.0 < length g.sorts → sort_in (sort_names_of g) (sort_written (text_names_under h x) (sort_under h s)) ≡ Some (sort_under g s)
  read_still s l =
      let of_data = sort_is g stands.table s l in
      ap (λ (y : Sort). sort_in (sort_names_of g) (sort_written (text_names_under h x) y)) (growth_keeps_meant_sorts g h w s l)
      ∙ ap (sort_in (sort_names_of g)) (written_still (sort_under g s) of_data) ∙ sort_back g stands x (sort_under g s) of_data
