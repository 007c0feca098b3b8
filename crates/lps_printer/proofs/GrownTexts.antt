-- Constants by which a signature grows begin no struct, and mappings of them are declared.
use Rattle.std.proofs.Common.{◌≡◌, ◌+◌, ◌<◌, ◌≤◌, ◌&&◌, ◌||◌, ℕ, zero, suc, Bool, true, false, cond, nat_eq, List, [], ◌∷◌, ◌++◌, length, map, get_or, codes, not, All, refl, sym, ap, ap₂, ◌∙◌, subst, arith, append-nil, length-append}
use Rattle.std.specs.Prelude.{None}
use Rattle.std.specs.List.{AllByRecursion, flat_map, list_any}
use Rattle.std.proofs.lemmas.List.{get_or-append-add, length-map}
use Rattle.std.proofs.lemmas.List.Elements.{All-nil, All-head, All-tail}
use Rattle.std.proofs.lemmas.Bool.Decides.{nat_tests}
use Rattle.data_theory.specs.declared.ids.FunId.{FunId}
use Rattle.data_theory.specs.declared.ids.NameId.{NameId}
use Rattle.data_theory.specs.declared.ids.SortId.{SortId}
use Rattle.data_theory.specs.Complete.{IsKindWithin, IsSortWithin}
use Rattle.data_theory.specs.Functions.{Function, arguments_of, declared_function}
use Rattle.data_theory.specs.Signature.{Sig, with_taken}
use Rattle.data_theory.specs.Sorts as kinds
use Rattle.data_theory.specs.Sorts.{SortInfo}
use Rattle.data_theory.specs.Structs.{numbers_from}
use Rattle.data_theory.specs.IdTerms.{sort_under}
use Rattle.data_theory.specs.WholeSignatures.{IsSignature}
use Rattle.sort_table.specs.BareDeclarations.{Declaration, mappings, Section, declarations_in}
use Rattle.sort_table.specs.Vocabularies.{EachPair}
use Rattle.lps_printer.specs.declared.added_sections.Line.TheVariants as lines
use Rattle.lps_printer.specs.WrittenProcesses.{TextNames, sort_written}
use Rattle.lps_printer.specs.AddedConstants.{AddsConstant, AddsEach, none_left, adds, AddsConstants}
use Rattle.lps_printer.specs.AddedDeclarations.{no_function, function_at, name_at, kind_at, constructors_in, begun_by, struct_begun, is_constant, struct_declared, structs_declared, empty_list_declared, line_declared, lines_declared}
use Rattle.lps_printer.specs.GrowingByConstants.{GrowsByConstants}
use Rattle.lps_printer.specs.GrownTexts.{mapping_declared, mappings_declared}

abbrev pub Constant : Type 0
Constant = NameId × SortId

abbrev pub constant_function : Constant → Function
constant_function c = declared_function c.0 [] c.1

-- ---- functions behind those of the signature construct nothing
pub kind_below : (texts sorts functions : ℕ) (k : kinds.Kind) → IsKindWithin sorts functions k → All (λ (c : FunId). c.0 < functions) (constructors_in k)
kind_below texts sorts functions (kinds.structured cs) h = h
kind_below texts sorts functions _ h = All-nil (λ (c : FunId). c.0 < functions)

constructors_below : (texts sorts functions : ℕ) (ss : List SortInfo) (i : ℕ) → All (IsSortWithin texts sorts functions) ss → All (λ (c : FunId). c.0 < functions) (constructors_in (get_or ss i (record { kind = kinds.booleans; name = None })).kind)
constructors_below texts sorts functions [] i all = All-nil (λ (c : FunId). c.0 < functions)
constructors_below texts sorts functions (s ∷ ss) zero all = kind_below texts sorts functions s.kind (All-head (IsSortWithin texts sorts functions) s ss all).built
constructors_below texts sorts functions (s ∷ ss) (suc i) all = constructors_below texts sorts functions ss i (All-tail (IsSortWithin texts sorts functions) s ss all)

pub other_number : (j k : ℕ) → j < k → nat_eq j k ≡ false
other_number j k l = grind (arith, nat_tests)

none_among : (f : FunId) (k : ℕ) (cs : List FunId) → k ≤ f.0 → All (λ (c : FunId). c.0 < k) cs → list_any (λ (c : FunId). nat_eq c.0 f.0) cs ≡ false
none_among f k [] l all = refl
none_among f k (c ∷ cs) l all =
    let below : c.0 < k = All-head (λ (d : FunId). d.0 < k) c cs all in
    ap₂ (λ (a b : Bool). a || b) (other_number c.0 f.0 (omega (arith, below, l))) (none_among f k cs l (All-tail (λ (d : FunId). d.0 < k) c cs all))

pub begins_none : (f : FunId) (k : ℕ) (cs : List FunId) → k ≤ f.0 → All (λ (c : FunId). c.0 < k) cs → begun_by f cs ≡ []
begins_none f k [] l all = refl
begins_none f k (c ∷ cs) l all =
    let below : c.0 < k = All-head (λ (d : FunId). d.0 < k) c cs all in
    ap (λ (b : Bool). cond b (c ∷ cs) []) (other_number c.0 f.0 (omega (arith, below, l)))

-- ---- the constants under their numbers
-- the function with this number is the constant
pub record IsConstantAt (h : Sig) (k : ℕ) (c : Constant) (f : FunId) : Type 0 where
  pub is : function_at h f ≡ constant_function c
  pub behind : k ≤ f.0

abbrev pub AreConstantsAt : Sig → ℕ → List Constant → List FunId → Type 0
AreConstantsAt h k = EachPair (IsConstantAt h k)

constants_at : (h : Sig) (k j : ℕ) (cs : List Constant) → k ≤ j → ((i : ℕ) → get_or h.functions (j + i) no_function ≡ get_or (map constant_function cs) i no_function) → AreConstantsAt h k cs (numbers_from j (length cs))
constants_at h k j [] l at = tt
constants_at h k j (c ∷ cs) l at =
    let first : j + 0 ≡ j = omega arith in
    let shift : (i : ℕ) → get_or h.functions ((j + 1) + i) no_function ≡ get_or (map constant_function cs) i no_function = λ i. let e : (j + 1) + i ≡ j + suc i = omega arith in ap (λ (n : ℕ). get_or h.functions n no_function) e ∙ at (suc i) in
    (record { is = ap (λ (n : ℕ). get_or h.functions n no_function) (sym first) ∙ at 0; behind = l }, constants_at h k (j + 1) cs (omega (arith, l)) shift)

module _ (h : Sig) (k : ℕ) (below : (s : SortId) → All (λ (c : FunId). c.0 < k) (constructors_in (kind_at h s))) where
  pub is_one : (c : Constant) (f : FunId) → IsConstantAt h k c f → is_constant h f ≡ true
  is_one c f at =
      let none = none_among f k (constructors_in (kind_at h (function_at h f).result)) at.behind (below (function_at h f).result) in
      ap₂ (λ (g : Function) (b : Bool). nat_eq (length (arguments_of g)) 0 && not b) at.is none

  pub begin_none : (cs : List Constant) (fs : List FunId) → AreConstantsAt h k cs fs → AllByRecursion (λ (f : FunId). struct_begun h f ≡ []) fs
  begin_none [] [] at = tt
  begin_none [] (f ∷ fs) at = absurd at
  begin_none (c ∷ cs) [] at = absurd at
  begin_none (c ∷ cs) (f ∷ fs) at = (begins_none f k (constructors_in (kind_at h (function_at h f).result)) at.0.behind (below (function_at h f).result), begin_none cs fs at.1)

module _ (h : Sig) (k : ℕ) (n : TextNames) where
  abbrev mapping_with : Function → Declaration
  mapping_with x = mappings (get_or h.texts x.name.0 [] ∷ []) [] (sort_written n (sort_under h x.result))

  pub each_declared : (cs : List Constant) (fs : List FunId) → AreConstantsAt h k cs fs → map (line_declared h n lines.Constant) fs ≡ map (mapping_declared h n) cs
  each_declared [] [] at = refl
  each_declared [] (f ∷ fs) at = absurd at
  each_declared (c ∷ cs) [] at = absurd at
  each_declared (c ∷ cs) (f ∷ fs) at = ap₂ (λ (d : Declaration) (ds : List Declaration). d ∷ ds) (ap mapping_with at.0.is) (each_declared cs fs at.1)

pub no_structs_declared : (h : Sig) (n : TextNames) (fs : List FunId) → AllByRecursion (λ (f : FunId). struct_begun h f ≡ []) fs → flat_map (structs_declared h n) fs ≡ []
no_structs_declared h n [] none = refl
no_structs_declared h n (f ∷ fs) none = ap₂ (λ (xs ys : List Section). xs ++ ys) (ap (struct_declared h n (function_at h f).result) none.0) (no_structs_declared h n fs none.1)

pub mappings_are : (h : Sig) (n : TextNames) (cs : List Constant) → declarations_in (mappings_declared h n cs) ≡ map (mapping_declared h n) cs
mappings_are h n [] = refl
mappings_are h n (c ∷ cs) = append-nil (map (mapping_declared h n) (c ∷ cs))

pub equations_are : (h : Sig) (n : TextNames) (fs : List FunId) → declarations_in (lines_declared h n lines.EmptyList fs) ≡ map (λ (f : FunId). empty_list_declared (name_at h f)) fs
equations_are h n [] = refl
equations_are h n (f ∷ fs) = append-nil (map (λ (e : FunId). empty_list_declared (name_at h e)) (f ∷ fs))

-- ---- the laws
module _ (g h : Sig) (stands : IsSignature g) (w : GrowsByConstants g h) where
  abbrev new : List FunId
  new = numbers_from (length g.functions) (length w.constants)

  pub at_their_numbers : AreConstantsAt h (length g.functions) w.constants new
  at_their_numbers = constants_at h (length g.functions) (length g.functions) w.constants (omega arith)
      (λ i. ap (λ (fs : List Function). get_or fs (length g.functions + i) no_function) w.functions ∙ get_or-append-add g.functions (map constant_function w.constants) i no_function)

  pub all_below : (s : SortId) → All (λ (c : FunId). c.0 < length g.functions) (constructors_in (kind_at h s))
  all_below s = subst (λ (ss : List SortInfo). All (λ (c : FunId). c.0 < length g.functions) (constructors_in (get_or ss s.0 (record { kind = kinds.booleans; name = None })).kind)) (sym w.sorts)
      (constructors_below (length g.texts) (length g.sorts) (length g.functions) g.sorts s.0 stands.complete.within.sorts_within)

-- ---- the constants for empty lists
one_longer : (g : Sig) (s : SortId) (h : Sig) → AddsConstant g s h → length h.functions ≡ length g.functions + 1
one_longer g s h a =
    let f = declared_function a.name [] s in
    let e : h.functions ≡ g.functions ++ f ∷ [] = ap (λ (x : Sig). x.functions) a.declared ∙ ap (λ (x : Sig). x.functions ++ f ∷ []) a.fresh.taken in
    ap length e ∙ length-append g.functions (f ∷ [])

each_longer : (g : Sig) (ss : List SortId) (h : Sig) → AddsEach g ss h → length h.functions ≡ length g.functions + length ss
each_longer g ss h none_left = omega arith
each_longer g ss h (adds {h = i} {s = s} {ss = others} one more) = let a = one_longer g s i one in let b = each_longer i others h more in omega (arith, a, b)

all_longer : (g : Sig) (ss : List SortId) (h : Sig) → AddsConstants g ss h → length h.functions ≡ length g.functions + length ss
all_longer g [] h a = let e = ap (λ (x : Sig). length x.functions) a in omega (arith, e)
all_longer g (s ∷ ss) h a = each_longer (with_taken g (codes "nil")) (s ∷ ss) h a

pub as_many_constants : (g h : Sig) (ss : List SortId) → (w : GrowsByConstants g h) → AddsConstants g ss h → length w.constants ≡ length ss
as_many_constants g h ss w a =
    let l = all_longer g ss h a in
    let m = ap length w.functions ∙ length-append g.functions (map constant_function w.constants) ∙ ap (λ (k : ℕ). length g.functions + k) (length-map w.constants constant_function) in
    omega (arith, l, m)
