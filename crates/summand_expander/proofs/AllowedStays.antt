-- What is allowed means the same as signature and pool grow.
use Rattle.std.proofs.Common.{◌≡◌, List, [], map, ap₂}
use Rattle.std.specs.List.{All}
use Rattle.std.proofs.lemmas.List.Elements.{All-weaker}
use Rattle.data_theory.specs.declared.ids.NameId.{NameId}
use Rattle.data_theory.specs.Signature.{Sig}
use Rattle.data_theory.specs.IdTrees.{Tree}
use Rattle.process_terms.specs.Communication.{Rule}
use Rattle.process_terms.specs.PlainProcesses.{PlainRule}
use Rattle.process_terms.specs.Meanings.{name_at, rule_of}
use Rattle.process_terms.specs.SignatureEntries.{entries_of, BothGrow}
use Rattle.process_terms.proofs.MeaningLemmas.{all_same, entry_stays}
use Rattle.bisim_laws.specs.Scopes.{completable}
use Rattle.lps_core.specs.Naming.{GrowsByNames}
use Rattle.lps_core.proofs.PoolTrees.{extends_itself}
use Rattle.action_filters.specs.Filters.{IsNameIn}
use Rattle.communication.specs.PlaceConditions.{RuleNamesIn}
use Rattle.summand_expander.specs.PlainAllowed.{PlainAllowed}
use Rattle.summand_expander.specs.WithinProducts.{AllowedFits, ScopesStay, AllowedFitsStill}

module _ (g h : Sig) (ts us : List Tree) (grow : BothGrow g h ts us) where
  name_stays : (n : NameId) → IsNameIn g n → name_at (entries_of h us) n ≡ name_at (entries_of g ts) n
  name_stays n l = (entry_stays g.texts h.texts [] n.0 (grow.signature.new_texts, grow.signature.texts) l).0

  name_still : (n : NameId) → IsNameIn g n → IsNameIn h n
  name_still n l = (entry_stays g.texts h.texts [] n.0 (grow.signature.new_texts, grow.signature.texts) l).1

  names_stay : (ns : List NameId) → All (IsNameIn g) ns → map (name_at (entries_of h us)) ns ≡ map (name_at (entries_of g ts)) ns
  names_stay ns k = all_same (IsNameIn g) (name_at (entries_of g ts)) (name_at (entries_of h us)) name_stays ns k

  names_still : (ns : List NameId) → All (IsNameIn g) ns → All (IsNameIn h) ns
  names_still ns k = All-weaker (IsNameIn g) (IsNameIn h) name_still ns k

  rule_stays : (c : PlainRule) → RuleNamesIn g c → rule_of (entries_of h us) c ≡ rule_of (entries_of g ts) c
  rule_stays c l = ap₂ (λ a b. record { left = a; result = b }) (names_stay c.left l.0) (name_stays c.result l.1)

  rule_still : (c : PlainRule) → RuleNamesIn g c → RuleNamesIn h c
  rule_still c l = (names_still c.left l.0, name_still c.result l.1)

pub scopes_stay : ScopesStay
scopes_stay g h ts us a fits grow = ap₂ (λ (rules : List Rule) sets. completable rules sets)
    (all_same (RuleNamesIn g) (rule_of (entries_of g ts)) (rule_of (entries_of h us)) (rule_stays g h ts us grow) a.rules fits.rules)
    (all_same (All (IsNameIn g)) (map (name_at (entries_of g ts))) (map (name_at (entries_of h us))) (names_stay g h ts us grow) a.sets fits.sets)

pub allowed_fits_still : AllowedFitsStill
allowed_fits_still g h ts us a fits grow = record {
  sets = All-weaker (All (IsNameIn g)) (All (IsNameIn h)) (names_still g h ts us grow) a.sets fits.sets;
  rules = All-weaker (RuleNamesIn g) (RuleNamesIn h) (rule_still g h ts us grow) a.rules fits.rules;
}

pub allowed_later : (g h : Sig) (ts : List Tree) (a : PlainAllowed) → GrowsByNames g h → AllowedFits g a → AllowedFits h a
allowed_later g h ts a w fits = allowed_fits_still g h ts ts a fits (record { signature = w.grown; pool = extends_itself ts })
