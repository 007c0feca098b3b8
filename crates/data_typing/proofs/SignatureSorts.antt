-- The lists over a sort of a signature.
use Rattle.std.proofs.Common.{◌≡◌, ◌<◌, ℕ, [], length, take, sym, ap, ◌∙◌, append-nil}
use Rattle.std.proofs.lemmas.Option.{slice_get_within}
use Rattle.data_theory.specs.declared.ids.SortId.{SortId}
use Rattle.data_theory.specs.Terms.{list}
use Rattle.data_theory.specs.Sorts.{IsListOver}
use Rattle.data_theory.specs.Signature.{Sig}
use Rattle.data_theory.specs.WholeSignatures.{IsSignature}
use Rattle.data_theory.specs.IdSorts.{constructions, meaning_of, sort_meant}
use Rattle.data_theory.specs.IdTerms.{sort_under, IsGrown}
use Rattle.data_theory.proofs.IdSortLemmas.{sorts_mean_their_kinds, growth_keeps_meant_sorts}

pub not_grown : (g : Sig) → IsGrown g g
not_grown g = record {
  new_texts = [];
  new_taken = [];
  new_sorts = [];
  new_sort_names = [];
  new_functions = [];
  new_declared = [];
  new_actions = [];
  new_variables = [];
  texts = sym (append-nil g.texts);
  taken = sym (append-nil g.taken);
  sorts = sym (append-nil g.sorts);
  sort_names = sym (append-nil g.sort_names);
  functions = sym (append-nil g.functions);
  declared = sym (append-nil g.declared);
  actions = sym (append-nil g.actions);
  variables = sym (append-nil g.variables);
}

pub list_meant : (g h : Sig) (e l : SortId) → IsSignature h → IsGrown g h → e.0 < length g.sorts → IsListOver h.sorts e l → sort_under h l ≡ list (sort_under g e)
list_meant g h e l is grown within (s, at, kind) =
    let d : ℕ = length (constructions (take l.0 h.sorts)) in
    sorts_mean_their_kinds h.sorts is.table.sorts l s at ∙ ap (meaning_of (sort_meant h.sorts) d) kind ∙ ap list (growth_keeps_meant_sorts g h grown e within)

pub list_within : (g : Sig) (e l : SortId) → IsListOver g.sorts e l → l.0 < length g.sorts
list_within g e l (s, at, kind) = slice_get_within g.sorts l.0 s at
