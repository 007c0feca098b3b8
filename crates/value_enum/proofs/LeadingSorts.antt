-- Sorts to which constructors lead, and whether one of them has no constructors.
use Rattle.std.proofs.Common.{◌≡◌, ◌↔◌, ◌&&◌, ℕ, Bool, true, false, refl, sym, ◌∙◌}
use Rattle.std.specs.Prelude.{not, IsTrue, List}
use Rattle.std.specs.List.{Contains}
use Rattle.data_theory.specs.declared.ids.SortId.{SortId}
use Rattle.data_theory.specs.Sorts.{IsBare}
use Rattle.data_theory.specs.Signature.{Sig}
use Rattle.data_theory.specs.IdTrees.{Tree}
use Rattle.value_enum.specs.declared.listed.Values.{Values}
use Rattle.value_enum.specs.Values.{LeadsTo, itself, by_argument, LeadsToBare, AreWhole, AreListed}
use Rattle.value_enum.specs.Shapes.{AreUnder}
use Rattle.value_enum.specs.Listing.{AreAllOrFirst}

all_led : (g : Sig) (s : SortId) (sorts : List SortId) → AreUnder g s sorts → (t : SortId) → LeadsTo g s t → Contains sorts t
all_led g s sorts under t itself = under.has
all_led g s sorts under a (by_argument {t} k f e leads at there has) = under.closed t a (all_led g s sorts under t leads) (k, f, e, at, there, has)

pub bare_known : (g : Sig) (s : SortId) (sorts : List SortId) (bare : Bool) → AreUnder g s sorts → IsTrue bare ↔ ((t : SortId) × Contains sorts t × IsBare g.sorts t) → IsTrue bare ↔ LeadsToBare g s
bare_known g s sorts bare under told = (λ t. (let h = told.0 t in (h.0, under.led h.0 h.1, h.2)), λ h. told.1 (h.0, all_led g s sorts under h.0 h.1, h.2))

pub listed_values : (g : Sig) (s : SortId) (sorts : List SortId) (bound : ℕ) (ts : List Tree) (found : Values) (all bare : Bool) → AreUnder g s sorts → IsTrue bare ↔ ((t : SortId) × Contains sorts t × IsBare g.sorts t) → found.whole ≡ (all && not bare) → AreAllOrFirst g s bound ts found.list.items all → AreListed g s bound ts found
listed_values g s sorts bound ts found all bare under told is p = record {
  values = p.values;
  first = p.first;
  terms = p.terms;
  whole = by_flags all bare refl refl;
}
  where
    leads : IsTrue bare ↔ LeadsToBare g s
    leads = bare_known g s sorts bare under told

    by_flags : (a b : Bool) → all ≡ a → bare ≡ b → IsTrue found.whole ↔ AreWhole g s p.values
    by_flags true true e d = (λ t. absurd (let wrong : true ≡ false = sym t ∙ (is ∙ (λ i. e i && not (d i))) in cc), λ w. absurd (w.known (leads.0 d)))
    by_flags true false e d = (λ t. record { all = p.all_there e; known = λ h. (let wrong : true ≡ false = sym (leads.1 h) ∙ d in cc) }, λ w. is ∙ (λ i. e i && not (d i)))
    by_flags false b e d = (λ t. absurd (let wrong : true ≡ false = sym t ∙ (is ∙ (λ i. e i && not bare)) in cc), λ w. absurd (p.not_all e w.all))
