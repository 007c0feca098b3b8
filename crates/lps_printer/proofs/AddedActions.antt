-- Actions behind those of a text.
use Rattle.std.proofs.Common.{◌≡◌, ◌<◌, ℕ, List, [], ◌∷◌, length, map, sym, ap, refl, ◌∙◌, subst}
use Rattle.std.specs.List.{All}
use Rattle.std.proofs.lemmas.List.Elements.{All-nil, All-cons, All-head, All-tail}
use Rattle.mcrl2_syntax.specs.Declarations.{PlainSpec}
use Rattle.data_theory.specs.declared.actions.ActEntry.{ActEntry}
use Rattle.data_theory.specs.declared.ids.NameId.{NameId}
use Rattle.data_theory.specs.Actions.{actions_of}
use Rattle.data_theory.specs.Complete.{IsComplete, IsActionWithin}
use Rattle.data_theory.specs.Keys.{Key, key}
use Rattle.data_theory.specs.Signature.{Sig}
use Rattle.lps_printer.specs.AddedDeclarations.{behind_all, behind_acts_of, added_actions_of}
use Rattle.lps_printer.proofs.DeclaredCounts.{acts_behind, acts_mapped}

abbrev entry_name : ActEntry → NameId
entry_name e = e.name

abbrev key_of : ActEntry → Key
key_of e = key e.name e.sorts.items

abbrev key_name : Key → NameId
key_name k = k.name

names_of_entries : (es : List ActEntry) → map key_name (actions_of es) ≡ map entry_name es
names_of_entries [] = refl
names_of_entries (e ∷ es) = ap (λ (ns : List NameId). e.name ∷ ns) (names_of_entries es)

entries_within : (n m : ℕ) (es : List ActEntry) → All (IsActionWithin n m) (actions_of es) → All (λ (e : ActEntry). e.name.0 < n) es
entries_within n m [] all = All-nil (λ (e : ActEntry). e.name.0 < n)
entries_within n m (e ∷ es) all =
    All-cons (λ (x : ActEntry). x.name.0 < n) e es (All-head (IsActionWithin n m) (key_of e) (actions_of es) all).named (entries_within n m es (All-tail (IsActionWithin n m) (key_of e) (actions_of es) all))

module _ (spec : PlainSpec) (g : Sig) (es : List ActEntry) (same : actions_of es ≡ g.actions) where
  -- their names are those that are added
  pub names_are : map (λ (e : ActEntry). e.name) (behind_all behind_acts_of spec.sections es) ≡ added_actions_of spec g
  names_are =
      sym (ap (λ (ks : List Key). map key_name (behind_all behind_acts_of spec.sections ks)) (sym same) ∙ ap (map key_name) (acts_mapped key_of spec.sections es) ∙ names_of_entries (behind_all behind_acts_of spec.sections es))

  -- and have texts
  pub names_within : IsComplete g → All (λ (e : ActEntry). e.name.0 < length g.texts) (behind_all behind_acts_of spec.sections es)
  names_within complete =
      acts_behind (λ (e : ActEntry). e.name.0 < length g.texts) spec.sections es
      (entries_within (length g.texts) (length g.sorts) es (subst (All (IsActionWithin (length g.texts) (length g.sorts))) (sym same) complete.within.actions))
