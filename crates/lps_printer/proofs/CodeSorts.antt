-- Sorts and variables that are printed.
use Rattle.std.proofs.Common.{◌≡◌, ℕ, ◌+◌, ◌<◌, List, [], ◌∷◌, length, map, get_or, drop, codes, Some, sym, ap, ◌∙◌, subst, drop-cons, add-one}
use Rattle.std.proofs.Math.Seq.{drop-length}
use Rattle.std.specs.Prelude.{slice_get, IfSome}
use Rattle.std.proofs.lemmas.Option.{get_or_from_slice_get}
use Rattle.mcrl2_lexer.specs.declared.kind.Kind.{Kind}
use Rattle.mcrl2_lexer.specs.declared.kind.Kind.TheVariants.{Comma}
use Rattle.data_theory.specs.declared.ids.NameId.{NameId}
use Rattle.data_theory.specs.declared.ids.SortId.{SortId}
use Rattle.data_theory.specs.declared.ids.VarId.{VarId}
use Rattle.data_theory.specs.declared.signature.Variable.{Variable}
use Rattle.data_theory.specs.declared.sort_table.SortKind.{SortKind}
use Rattle.data_theory.specs.declared.sort_table.SortKind.TheVariants as kinds
use Rattle.data_theory.specs.Sorts.{SortInfo, kind_of}
use Rattle.data_theory.specs.Table.{bool_sort}
use Rattle.data_theory.specs.Signature.{Sig}
use Rattle.data_theory.specs.IdTables.{IsTable}
use Rattle.data_theory.specs.IdSorts.{meaning_of, IsDeclaredKind}
use Rattle.data_theory.specs.IdTerms.{sort_under}
use Rattle.data_theory.proofs.IdSortLemmas.{read_within}
use Rattle.data_theory.proofs.IdSymbolLemmas.{read_sort}
use Rattle.lps_core.specs.Fitting.{sort_of_variable}
use Rattle.sort_table.specs.BareSorts.{SortExpression}
use Rattle.lps_printer.specs.DataLayout.{piece, space}
use Rattle.lps_printer.specs.PrintedProcesses as printed_
use Rattle.lps_printer.specs.SummandLayout.{print_sort, print_variable, print_variables}
use Rattle.lps_printer.specs.WrittenProcesses.{TextNames, sort_written}
use Rattle.lps_printer.specs.Adding.{Adds}
use Rattle.lps_printer.specs.TextWordings.{sort_place, variable_by, NamesSorts, NamesVariables}
use Rattle.lps_printer.proofs.AddingPieces.{adds_none, adds_both}
use Rattle.lps_printer.proofs.CodeForms.{at_entry}

pub adds_sort : {a b : List ℕ} {e f : SortExpression} (gap : List ℕ) → e ≡ f → Adds a b (λ rest. print_sort e gap rest) → Adds a b (λ rest. print_sort f gap rest)
adds_sort {a = a} {b = b} gap q p = subst (λ x. Adds a b (λ rest. print_sort x gap rest)) q p

-- ---- sorts
pub sort_named : (g : Sig) (n : TextNames) → NamesSorts g n → (s : SortId) (x : NameId) (bytes : List ℕ) → s.0 < length g.sorts → IfSome (slice_get g.sorts s.0) (λ (i : SortInfo). IsDeclaredKind i.kind) → IfSome (slice_get g.sorts s.0) (λ (i : SortInfo). i.name ≡ Some x) → slice_get g.texts x.0 ≡ Some bytes → bytes ≡ n.sort (sort_place g s)
sort_named g n k s x bytes l d h t =
    let y = read_within g.sorts s.0 l in
    let named = k.named s y.0 x y.1 (at_entry (λ (i : SortInfo). IsDeclaredKind i.kind) (slice_get g.sorts s.0) y.0 y.1 d) (at_entry (λ (i : SortInfo). i.name ≡ Some x) (slice_get g.sorts s.0) y.0 y.1 h) in
    let same : Some bytes ≡ Some (n.sort (sort_place g s)) = sym t ∙ named in
    cc

module _ (g : Sig) (table : IsTable g) (s : SortId) (v : SortKind) (h : IfSome (slice_get g.sorts s.0) (λ (i : SortInfo). i.kind ≡ kind_of v)) (l : s.0 < length g.sorts) where
  pub sort_of_kind : (n : TextNames) (u : SortKind) → v ≡ u → sort_written n (meaning_of (sort_under g) (sort_place g s) (kind_of u)) ≡ sort_written n (sort_under g s)
  sort_of_kind n u e =
      let x = read_within g.sorts s.0 l in
      let kind = at_entry (λ (i : SortInfo). i.kind ≡ kind_of v) (slice_get g.sorts s.0) x.0 x.1 h ∙ ap kind_of e in
      sym (ap (sort_written n) (read_sort g table s x.0 x.1 ∙ ap (meaning_of (sort_under g) (sort_place g s)) kind))

  pub element_below : (e : SortId) → v ≡ kinds.List e → e.0 < s.0
  element_below e q =
      let x = read_within g.sorts s.0 l in
      let kind = at_entry (λ (i : SortInfo). i.kind ≡ kind_of v) (slice_get g.sorts s.0) x.0 x.1 h ∙ ap kind_of q in
      table.sorts.behind_element e s (x.0, x.1, kind)

-- ---- variables
pub variable_named : (g : Sig) (n : TextNames) → NamesVariables g n → (v : VarId) (x : NameId) (bytes : List ℕ) → v.0 < length g.variables → IfSome (slice_get g.variables v.0) (λ (i : Variable). i.name ≡ x) → slice_get g.texts x.0 ≡ Some bytes → n.terms.variable v.0 ≡ bytes
variable_named g n k v x bytes l h t =
    let y = read_within g.variables v.0 l in
    let name = at_entry (λ (i : Variable). i.name ≡ x) (slice_get g.variables v.0) y.0 y.1 h in
    let named = k.named v y.0 y.1 in
    let same : Some (n.terms.variable v.0) ≡ Some bytes = sym named ∙ ap (λ (z : NameId). slice_get g.texts z.0) name ∙ t in
    cc

pub variable_sorted : (g : Sig) (v : VarId) (s : SortId) → v.0 < length g.variables → IfSome (slice_get g.variables v.0) (λ (i : Variable). i.sort ≡ s) → s ≡ sort_of_variable g v
variable_sorted g v s l h =
    let y = read_within g.variables v.0 l in
    sym (ap (λ (i : Variable). i.sort) (get_or_from_slice_get g.variables v.0 y.0 (record { name = record { 0 = 0 }; sort = bool_sort }) y.1) ∙ at_entry (λ (i : Variable). i.sort ≡ s) (slice_get g.variables v.0) y.0 y.1 h)

-- `x: S` by its parts
pub variable_added : {a b c d : List ℕ} (g : Sig) (n : TextNames) (v : VarId) (gap bytes : List ℕ) (s : SortId) → bytes ≡ n.terms.variable v.0 → s ≡ sort_of_variable g v → (kind mark : Kind)
    → Adds a b (λ rest. piece gap kind bytes ∷ rest) → Adds b c (λ rest. piece [] mark (codes ":") ∷ rest) → Adds c d (λ rest. print_sort (sort_written n (sort_under g s)) space rest)
    → Adds a d (λ rest. piece gap kind (n.terms.variable v.0) ∷ piece [] mark (codes ":") ∷ print_sort (sort_written n (sort_under g (sort_of_variable g v))) space rest)
variable_added {a = a} {b = b} g n v gap bytes s x y kind mark p q r =
    adds_both (subst (λ t. Adds a b (λ rest. piece gap kind t ∷ rest)) x p) (adds_both q (adds_sort space (ap (λ t. sort_written n (sort_under g t)) y) r))

abbrev pub first_variable : VarId
first_variable = record { 0 = 0 }

variables_adds : {a b : List ℕ} {xs ys : List printed_.Variable} → xs ≡ ys → Adds a b (λ rest. print_variables xs rest) → Adds a b (λ rest. print_variables ys rest)
variables_adds {a = a} {b = b} q p = subst (λ x. Adds a b (λ rest. print_variables x rest)) q p

pub variables_step : {a b c final : List ℕ} (g : Sig) (n : TextNames) (vs : List VarId) (i : ℕ) (d : VarId) → i < length vs → ((kind : Kind) → Adds a b (λ rest. piece [] kind (codes ",") ∷ rest)) → Adds b c (λ rest. print_variable (variable_by g n (get_or vs i d)) space rest)
    → Adds c final (λ rest. print_variables (map (variable_by g n) (drop (i + 1) vs)) rest) → Adds a final (λ rest. print_variables (map (variable_by g n) (drop i vs)) rest)
variables_step {a = a} {final = final} g n vs i d l p q r =
    let cut : get_or vs i d ∷ drop (i + 1) vs ≡ drop i vs = sym (drop-cons vs i d l ∙ ap (λ k. get_or vs i d ∷ drop k vs) (sym (add-one i))) in
    let all : Adds a final (λ rest. print_variables (map (variable_by g n) (get_or vs i d ∷ drop (i + 1) vs)) rest) = adds_both (p Comma) (adds_both q r) in
    variables_adds (ap (map (variable_by g n)) cut) all

pub variables_end : (g : Sig) (n : TextNames) (vs : List VarId) (a : List ℕ) → Adds a a (λ rest. print_variables (map (variable_by g n) (drop (length vs) vs)) rest)
variables_end g n vs a = variables_adds (ap (map (variable_by g n)) (sym (drop-length vs))) (adds_none a)
