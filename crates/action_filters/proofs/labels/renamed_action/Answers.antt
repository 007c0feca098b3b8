use Rattle.std.proofs.Common.{◌≡◌, ◌<◌, ℕ, List, [], get_or, length, Some, sym, ap, ap₂, subst, ◌∙◌}
use Rattle.std.specs.Prelude.{Contains}
use Rattle.data_theory.specs.declared.ids.NameId.{NameId}
use Rattle.data_theory.specs.declared.ids.SortId.{SortId}
use Rattle.data_theory.specs.declared.actions.ActEntry.{ActEntry}
use Rattle.data_theory.specs.Actions.{actions_of}
use Rattle.data_theory.specs.Keys.{Key, key}
use Rattle.data_theory.specs.Signature.{Sig}
use Rattle.process_terms.specs.PlainProcesses.{PlainAction, plain_action}
use Rattle.action_filters.specs.LabelFilters.{new_name}
use Rattle.action_filters.specs.Filters.{same_name, key_of_action, renamed_key, renamed_action}
use Rattle.action_filters.proofs.Loops.{if_ok}
use Rattle.action_filters.proofs.Renamed.{key_read, key_within, place_is, target_stands}
use Rattle.action_filters.proofs.labels.renamed_action.Goals as goal

-- what is looked up is the key with the new name
looked_up : (g : Sig) (pairs : List (NameId × NameId)) (a : PlainAction) (es : List ActEntry) (e : ActEntry) (name : NameId) (sorts : List SortId) → actions_of es ≡ g.actions → a.act.0 < length g.actions → e ≡ get_or es a.act.0 e
    → name ≡ new_name same_name pairs e.name → sorts ≡ e.sorts.items → key name sorts ≡ renamed_key pairs (key_of_action g a)
looked_up g pairs a es e name sorts q l h n s =
    ap₂ (λ (x : NameId) (ss : List SortId). key x ss) n s
    ∙ ap (λ (k : Key). renamed_key pairs k) (sym (key_read es g.actions a.act.0 e e (key (record { 0 = 0 }) []) q l h))

pub returns-in_default : goal.returns-in_default
returns-in_default c =
    let g = c.args.sig.now in
    let a = plain_action c.args.action.now in
    let q = looked_up g c.args.pairs.now.entries a c.acts.result.now c.index-acts-action.result c.new_name-name.result c.as_slice.result.now c.acts.ensures c.requires.action c.index-acts-action.is c.new_name-name.ensures c.as_slice.ensures.value in
    absurd (c.in_default.ensures (subst (λ k. Contains g.actions k) (sym q) (target_stands g c.args.pairs.now.entries c.requires.targets (key_of_action g a) (key_within g a c.requires.action))))

pub returns : goal.returns
returns c =
    let g = c.args.sig.now in
    let a = plain_action c.args.action.now in
    let q = looked_up g c.args.pairs.now.entries a c.acts.result.now c.index-acts-action.result c.new_name-name.result c.as_slice.result.now c.acts.ensures c.requires.action c.index-acts-action.is c.new_name-name.ensures c.as_slice.ensures.value in
    let p = place_is g.actions (renamed_key c.args.pairs.now.entries (key_of_action g a)) c.in-Some.act.0 c.signature_stands.ensures.actions_differ (c.in-Some.ensures ∙ ap (λ k. Some k) q) in
    if_ok c.with_number.result (λ made. plain_action made ≡ record { act = c.in-Some.act; args = a.args }) (λ made. plain_action made ≡ renamed_action g c.args.pairs.now.entries a)
    (λ made e. e ∙ ap (λ (i : ℕ). record { act = record { 0 = i }; args = a.args }) p) c.with_number.ensures
