-- The test of names in code says what it says of their texts, and links lead to a product within.
use Rattle.std.proofs.Common.{◌≡◌, List, [], ◌∷◌, map, refl, sym, ap, ap₂, ◌∙◌}
use Rattle.std.specs.List.{All}
use Rattle.std.specs.Str.{bytes_eq}
use Rattle.std.proofs.lemmas.List.Elements.{All-nil, All-cons, All-head, All-tail}
use Rattle.data_theory.specs.declared.ids.NameId.{NameId}
use Rattle.data_theory.specs.Signature.{Sig}
use Rattle.data_theory.specs.WholeSignatures.{IsSignature}
use Rattle.data_theory.specs.IdTrees.{Tree}
use Rattle.process_terms.specs.Labels.{names}
use Rattle.process_terms.specs.PlainProcesses.{PlainAction, PlainRule}
use Rattle.process_terms.specs.Processes.{merge}
use Rattle.process_terms.specs.Meanings.{name_at, action_of, label_of, rule_of}
use Rattle.process_terms.specs.SignatureEntries.{entries_of}
use Rattle.bisim_laws.specs.Links.{Then, Beside, Solved}
use Rattle.bisim_laws.proofs.ComposedWithin.{then_within, beside_within}
use Rattle.lps_core.specs.Fitting.{IsActionOf}
use Rattle.lps_core.specs.PlainLinears.{linear_of, linear_state}
use Rattle.action_filters.specs.Filters.{same_name, naming, IsNameIn}
use Rattle.action_filters.specs.Filtering.{texts}
use Rattle.action_filters.proofs.Along as filters
use Rattle.action_filters.proofs.Meant.{names_alike, names_along}
use Rattle.communication.specs.Ways.{Joining}
use Rattle.communication.specs.Communicated.{joining}
use Rattle.communication.specs.Places.{joining_of}
use Rattle.communication.specs.PlaceConditions.{RuleNamesIn}
use Rattle.summand_expander.specs.CompletableTests.{is_completable}
use Rattle.summand_expander.specs.PlainAllowed.{PlainAllowed, joinings}
use Rattle.summand_expander.specs.WithinProducts.{AllowedFits, can_stay_of, label_stays, ProductsWithinAreGood}
use Rattle.summand_expander.proofs.CompletableAlong.{joining_to, completable_along}

module _ (g : Sig) (ts : List Tree) (stands : IsSignature g) (a : PlainAllowed) (fits : AllowedFits g a) where
  rules_meant : (cs : List PlainRule) → map (joining_to same_name bytes_eq (name_at (entries_of g ts)) (IsNameIn g) (names_alike g ts stands.table stands.complete)) (joinings cs) ≡ map joining (map (rule_of (entries_of g ts)) cs)
  rules_meant [] = refl
  rules_meant (c ∷ cs) = ap (λ l. joining (rule_of (entries_of g ts) c) ∷ l) (rules_meant cs)

  rules_have : (cs : List PlainRule) → All (RuleNamesIn g) cs → All (λ (c : Joining NameId). All (IsNameIn g) c.left × IsNameIn g c.result) (joinings cs)
  rules_have [] h = All-nil (λ (c : Joining NameId). All (IsNameIn g) c.left × IsNameIn g c.result)
  rules_have (c ∷ cs) h =
      All-cons (λ (c : Joining NameId). All (IsNameIn g) c.left × IsNameIn g c.result) (joining_of c) (joinings cs) (All-head (RuleNamesIn g) c cs h) (rules_have cs (All-tail (RuleNamesIn g) c cs h))

  -- the test over numbers is the test over texts
  pub label_meant : (m : List PlainAction) → All (IsActionOf g ts) m → can_stay_of (entries_of g ts) a (names (label_of (entries_of g ts) m)) ≡ label_stays g a m
  label_meant m h =
      let n = filters.names_along (naming g) texts (action_of (entries_of g ts)) (name_at (entries_of g ts)) (λ (x : PlainAction). IsActionOf g ts x) (IsNameIn g) (names_along g ts stands.table stands.complete) m h in
      ap₂ (λ cs ns. is_completable bytes_eq cs (map (map (name_at (entries_of g ts))) a.sets) ns) (sym (rules_meant a.rules)) n.0
      ∙ completable_along same_name bytes_eq (name_at (entries_of g ts)) (IsNameIn g) (names_alike g ts stands.table stands.complete) (joinings a.rules) a.sets (map (naming g).name m) (rules_have a.rules fits.rules) fits.sets n.1

pub products_good : ProductsWithinAreGood
products_good h us w parts l r k good i j p q f t = (
  Then (Beside good.left good.right good.whole i j) (Solved good.whole (linear_of (entries_of h us) k)),
  (λ th on con.
      then_within th w (Beside good.left good.right good.whole i j) (Solved good.whole (linear_of (entries_of h us) k)) (merge p q) good.between (linear_state (entries_of h us) k)
      (beside_within th w parts good.left good.right good.whole i j p (linear_state (entries_of h us) l) q (linear_state (entries_of h us) r) good.between (f th on con) (t th on con) (good.product th on con))
      (good.left_of_it th on con)),
)
