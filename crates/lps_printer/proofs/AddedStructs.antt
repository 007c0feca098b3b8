-- Added structs and constants.
use Rattle.std.proofs.Common.{◌≡◌, ◌<◌, ◌≤◌, ◌+◌, ℕ, Bool, true, false, cond, nat_eq, ◌&&◌, List, [], ◌∷◌, ◌++◌, length, get_or, map, drop, codes, refl, sym, ap, ap₂, ◌∙◌, subst, arith, eqb, append_assoc, append-nil}
use Rattle.std.specs.Prelude.{slice_get, IfSome, None, not}
use Rattle.std.specs.List.{All, flat_map, list_any}
use Rattle.std.proofs.lemmas.List.{drop_all, drop_more}
use Rattle.std.proofs.lemmas.List.Elements.{All-nil}
use Rattle.std.proofs.lemmas.Option.{get_or_from_slice_get}
use Rattle.mcrl2_lexer.specs.declared.kind.Kind as lexer
use Rattle.mcrl2_syntax.specs.declared.declaration.SectionWord.TheVariants.{Sort}
use Rattle.data_theory.specs.declared.ids.SortId.{SortId}
use Rattle.data_theory.specs.declared.ids.FunId.{FunId}
use Rattle.data_theory.specs.declared.sort_table.SortKind.{SortKind}
use Rattle.data_theory.specs.Sorts as kinds
use Rattle.data_theory.specs.Sorts.{SortInfo, kind_of}
use Rattle.data_theory.specs.Functions.{arguments_of}
use Rattle.data_theory.specs.Signature.{Sig}
use Rattle.data_theory.specs.IdSorts.{IsDeclaredKind}
use Rattle.data_theory.specs.Complete.{IsComplete, IsKindWithin}
use Rattle.data_theory.proofs.IdSortLemmas.{read_within}
use Rattle.lps_printer.specs.DataLayout.{piece}
use Rattle.lps_printer.specs.WrittenProcesses.{TextNames}
use Rattle.lps_printer.specs.TextWordings.{sort_place}
use Rattle.lps_printer.specs.Adding.{Adds}
use Rattle.lps_printer.specs.AddingSections.{AddsSections}
use Rattle.lps_printer.specs.AddedDeclarations.{function_at, kind_at, constructors_in, begun_by, struct_begun, is_constant, constants_among, constructor_with, print_struct, struct_section, struct_sections}
use Rattle.lps_printer.proofs.AddingSections.{section_with, section_added, sections_of, sections_both, sections_none}
use Rattle.lps_printer.proofs.CodeActions.{none_of}
use Rattle.lps_printer.proofs.CodeForms.{at_entry}
use Rattle.lps_printer.proofs.CopiedLines.{semicolon}
use Rattle.lps_printer.proofs.AddedSections.{ended}

-- ---- kinds
abbrev no_sort : SortInfo
no_sort = record { kind = kinds.booleans; name = None }

pub kind_is : (g : Sig) (s : SortId) (k : SortKind) → s.0 < length g.sorts → IfSome (slice_get g.sorts s.0) (λ (i : SortInfo). i.kind ≡ kind_of k) → kind_at g s ≡ kind_of k
kind_is g s k l h =
    let y = read_within g.sorts s.0 l in
    ap (λ (i : SortInfo). i.kind) (get_or_from_slice_get g.sorts s.0 y.0 no_sort y.1) ∙ at_entry (λ (i : SortInfo). i.kind ≡ kind_of k) (slice_get g.sorts s.0) y.0 y.1 h

constructors_within : (sorts functions : ℕ) (k : kinds.Kind) → IsKindWithin sorts functions k → All (λ (f : FunId). f.0 < functions) (constructors_in k)
constructors_within sorts functions kinds.booleans h = All-nil (λ (f : FunId). f.0 < functions)
constructors_within sorts functions kinds.positives h = All-nil (λ (f : FunId). f.0 < functions)
constructors_within sorts functions kinds.naturals h = All-nil (λ (f : FunId). f.0 < functions)
constructors_within sorts functions kinds.integers h = All-nil (λ (f : FunId). f.0 < functions)
constructors_within sorts functions (kinds.lists_over e) h = All-nil (λ (f : FunId). f.0 < functions)
constructors_within sorts functions kinds.without_constructors h = All-nil (λ (f : FunId). f.0 < functions)
constructors_within sorts functions (kinds.by_declarations cs) h = All-nil (λ (f : FunId). f.0 < functions)
constructors_within sorts functions (kinds.structured cs) h = h

either_all : (P : FunId → Type 0) (b : Bool) (fs : List FunId) → All P fs → All P (cond b fs [])
either_all P true fs h = h
either_all P false fs h = All-nil P

begun_all : (P : FunId → Type 0) (f : FunId) (fs : List FunId) → All P fs → All P (begun_by f fs)
begun_all P f [] h = All-nil P
begun_all P f (c ∷ cs) h = either_all P (nat_eq c.0 f.0) (c ∷ cs) h

pub begun_within : (g : Sig) (f : FunId) → IsComplete g → (function_at g f).result.0 < length g.sorts → All (λ (c : FunId). c.0 < length g.functions) (struct_begun g f)
begun_within g f c l =
    let s = (function_at g f).result in
    begun_all (λ (h : FunId). h.0 < length g.functions) f (constructors_in (kind_at g s)) (constructors_within (length g.sorts) (length g.functions) (kind_at g s) (c.within.sorts_within s.0 no_sort l).built)

begun_kind : (f : FunId) (k : kinds.Kind) → 0 < length (begun_by f (constructors_in k)) → IsDeclaredKind k
begun_kind f kinds.booleans h = absurd (omega (arith, h))
begun_kind f kinds.positives h = absurd (omega (arith, h))
begun_kind f kinds.naturals h = absurd (omega (arith, h))
begun_kind f kinds.integers h = absurd (omega (arith, h))
begun_kind f (kinds.lists_over e) h = absurd (omega (arith, h))
begun_kind f kinds.without_constructors h = absurd (omega (arith, h))
begun_kind f (kinds.by_declarations cs) h = absurd (omega (arith, h))
begun_kind f (kinds.structured cs) h = refl

pub begun_declared : (g : Sig) (f : FunId) → (function_at g f).result.0 < length g.sorts → 0 < length (struct_begun g f) → IfSome (slice_get g.sorts (function_at g f).result.0) (λ (i : SortInfo). IsDeclaredKind i.kind)
begun_declared g f l h =
    let s = (function_at g f).result in
    let y = read_within g.sorts s.0 l in
    let declared : IsDeclaredKind y.0.kind = subst (λ (i : SortInfo). IsDeclaredKind i.kind) (get_or_from_slice_get g.sorts s.0 y.0 no_sort y.1) (begun_kind f (kind_at g s) h) in
    subst (λ o. IfSome o (λ (i : SortInfo). IsDeclaredKind i.kind)) (sym y.1) declared

-- ---- structs
pub no_struct : (g : Sig) (n : TextNames) (f : FunId) (fs : List FunId) → fs ≡ struct_begun g f → eqb (length fs) 0 ≡ true → [] ≡ struct_sections g n f
no_struct g n f fs e none = ap (struct_section g n (function_at g f).result) (sym (none_of fs none) ∙ e)

one_struct : (g : Sig) (n : TextNames) (s : SortId) (fs : List FunId) → 0 < length fs → section_with Sort (print_struct (n.sort (sort_place g s)) (map (constructor_with g n) fs) [] ∷ []) ∷ [] ≡ struct_section g n s fs
one_struct g n s [] some = absurd (omega (arith, some))
one_struct g n s (f ∷ fs) some = refl

pub struct_section_added : {a b c d : List ℕ} (g : Sig) (n : TextNames) (f : FunId) (fs : List FunId) (s : SortId) (gap : List ℕ) → fs ≡ struct_begun g f → (function_at g f).result ≡ s → 0 < length fs → ((kind : lexer.Kind) → Adds a b (λ rest. piece gap kind (codes "sort") ∷ rest))
    → Adds b c (λ rest. print_struct (n.sort (sort_place g s)) (map (constructor_with g n) fs) rest) → Adds c d semicolon → AddsSections a d gap (10 ∷ []) (struct_sections g n f)
struct_section_added g n f fs s gap e r some h k m =
    sections_of (one_struct g n s fs some ∙ ap₂ (struct_section g n) (sym r) e) (section_added gap Sort (print_struct (n.sort (sort_place g s)) (map (constructor_with g n) fs) [] ∷ []) (codes "sort") refl h (ended (print_struct (n.sort (sort_place g s)) (map (constructor_with g n) fs)) k m))

pub structs_step : (g : Sig) (n : TextNames) (fs : List FunId) (i : ℕ) (d : FunId) → i < length fs → {a b c u v w : List ℕ} → AddsSections a b u v (struct_sections g n (get_or fs i d)) → AddsSections b c v w (flat_map (struct_sections g n) (drop (i + 1) fs))
    → AddsSections a c u w (flat_map (struct_sections g n) (drop i fs))
structs_step g n fs i d below h k = sections_of (ap (flat_map (struct_sections g n)) (sym (drop_more fs i d below))) (sections_both h k)

pub structs_end : (g : Sig) (n : TextNames) (fs : List FunId) (i : ℕ) → length fs ≤ i → (a u : List ℕ) → AddsSections a a u u (flat_map (struct_sections g n) (drop i fs))
structs_end g n fs i above a u = sections_of (ap (flat_map (struct_sections g n)) (sym (drop_all i fs above))) (sections_none a u)

-- ---- constants
pub constant_is : (g : Sig) (f : FunId) (xs : List SortId) (k : kinds.Kind) → arguments_of (function_at g f) ≡ xs → eqb (length xs) 0 ≡ true → kind_at g (function_at g f).result ≡ k → is_constant g f ≡ not (list_any (λ (c : FunId). nat_eq c.0 f.0) (constructors_in k))
constant_is g f xs k e none h = ap₂ (λ (ys : List SortId) (j : kinds.Kind). nat_eq (length ys) 0 && not (list_any (λ (c : FunId). nat_eq c.0 f.0) (constructors_in j))) (e ∙ none_of xs none) h

one_or_none : (b : Bool) (f : FunId) (fs : List FunId) → cond b (f ∷ []) [] ++ fs ≡ cond b (f ∷ fs) fs
one_or_none true f fs = refl
one_or_none false f fs = refl

pub constant_step : (g : Sig) (fs : List FunId) (i : ℕ) (d : FunId) (old new all : List FunId) → i < length fs → new ≡ old ++ cond (is_constant g (get_or fs i d)) (get_or fs i d ∷ []) [] → old ++ constants_among g (drop i fs) ≡ all → new ++ constants_among g (drop (i + 1) fs) ≡ all
constant_step g fs i d old new all below e h =
    let f = get_or fs i d in
    let others = constants_among g (drop (i + 1) fs) in
    ap (λ ys. ys ++ others) e ∙ append_assoc old (cond (is_constant g f) (f ∷ []) []) others ∙ ap (λ ys. old ++ ys) (one_or_none (is_constant g f) f others ∙ ap (constants_among g) (sym (drop_more fs i d below))) ∙ h

pub constants_end : (g : Sig) (fs : List FunId) (i : ℕ) (list all : List FunId) → length fs ≤ i → list ++ constants_among g (drop i fs) ≡ all → list ≡ all
constants_end g fs i list all above h = sym (append-nil list) ∙ ap (λ xs. list ++ constants_among g xs) (sym (drop_all i fs above)) ∙ h
