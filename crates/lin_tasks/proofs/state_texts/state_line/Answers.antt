use Rattle.std.proofs.Common.{◌≡◌, ◌∙◌, ◌<◌, ◌++◌, ◌∷◌, [], Some, List, IfSome, ap, length, map, subst, sym}
use Rattle.std.specs.Prelude.{codes, option_map, slice_get}
use Rattle.std.specs.List.{All}
use Rattle.std.proofs.lemmas.Option.{slice_get_within}
use Rattle.process_terms.specs.Meanings.{label_of}
use Rattle.process_terms.specs.PlainProcesses.{plain_action, plain_label}
use Rattle.process_terms.specs.SignatureEntries.{entries_of}
use Rattle.sort_table.specs.SignatureVocabularies.{text_under}
use Rattle.lps_core.specs.Fitting.{AreTermsOf, IsActionOf}
use Rattle.lps_core.specs.PlainLinears.{plain_next}
use Rattle.lps_simulator.specs.OptionsInCode.{terms_at}
use Rattle.lin_tasks.specs.Shown.{label_line, state_line}
use Rattle.lin_tasks.proofs.StateTexts.{absent, ended_line, state_shown, state_written}
use Rattle.lin_tasks.proofs.state_texts.state_line.Goals as goal

pub returns-in_default : goal.returns-in_default
returns-in_default c =
    c.in_ok-from_slice.ensures.items ∙ ended_line c.args.sig.now (text_under c.args.sig.now c.args.name)
    ∙ ap (λ o. state_line c.args.sig.now (text_under c.args.sig.now c.args.name) (option_map (terms_at c.args.sig.now c.args.pool.now.trees) (plain_next o))) (sym c.in_default.is)

pub text-requires : goal.text-requires
text-requires c = subst (λ texts. c.args.name.0 < length texts) (sym c.names.ensures.texts) (slice_get_within c.args.sig.now.texts c.args.name.0 c.requires.name.text c.requires.name.named)

pub add_act-requires-clause-absent : goal.add_act-requires-clause-absent
add_act-requires-clause-absent c =
    let named : slice_get c.args.sig.now.texts c.args.name.0 ≡ Some c.deref.result.now =
    ap (λ texts. slice_get texts c.args.name.0) (sym c.names.ensures.texts) ∙ c.text.ensures ∙ ap Some (sym (c.deref.ensures ∙ c.in_ok-process.ensures.ok)) in
    absent c.args.sig.now c.args.name c.deref.result.now c.args.sorts.items c.signature_stands.ensures c.requires.name named

pub push_label-requires : goal.push_label-requires
push_label-requires c =
    let named : slice_get c.args.sig.now.texts c.args.name.0 ≡ Some c.deref.result.now =
    ap (λ texts. slice_get texts c.args.name.0) (sym c.names.ensures.texts) ∙ c.text.ensures ∙ ap Some (sym (c.deref.ensures ∙ c.in_ok-process.ensures.ok)) in
    let items : c.push.new.self.items ≡ record { act = c.in_ok-act.act; args = c.in-Some.args } ∷ [] = c.in_ok-push.ensures.items ∙ ap (λ z. z ++ record { act = c.in_ok-act.act; args = c.in-Some.args } ∷ []) c.new-actions.ensures.items in
    let fit = subst (λ o. IfSome (plain_next o) (AreTermsOf c.args.sig.now c.args.pool.now.trees c.args.sorts.items)) c.in-Some.is c.requires.state in
    subst (λ as_. All (IsActionOf c.add_act.new.self c.args.pool.now.trees) (map plain_action as_)) (sym items)
    (state_shown c.args.sig.now c.args.name c.deref.result.now c.args.sorts.items c.signature_stands.ensures c.requires.name named c.args.pool.now.trees c.in-Some.args.items fit c.add_act.new.self c.in_ok-act.act c.in_ok-act.ensures.added c.in_ok-act.ensures.number)

pub returns : goal.returns
returns c =
    let g = c.args.sig.now in
    let h = c.add_act.new.self in
    let ts = c.args.pool.now.trees in
    let named : slice_get c.args.sig.now.texts c.args.name.0 ≡ Some c.deref.result.now =
    ap (λ texts. slice_get texts c.args.name.0) (sym c.names.ensures.texts) ∙ c.text.ensures ∙ ap Some (sym (c.deref.ensures ∙ c.in_ok-process.ensures.ok)) in
    let items : c.push.new.self.items ≡ record { act = c.in_ok-act.act; args = c.in-Some.args } ∷ [] = c.in_ok-push.ensures.items ∙ ap (λ z. z ++ record { act = c.in_ok-act.act; args = c.in-Some.args } ∷ []) c.new-actions.ensures.items in
    let fit = subst (λ o. IfSome (plain_next o) (AreTermsOf g ts c.args.sorts.items)) c.in-Some.is c.requires.state in
    c.in_ok-push_label.ensures ∙ ap (λ as_. c.in_ok-line.line.items ++ label_line h (label_of (entries_of h ts) (map plain_action as_))) items
    ∙ ap (λ z. z ++ label_line h (label_of (entries_of h ts) (record { act = c.in_ok-act.act; args = c.in-Some.args.items } ∷ []))) c.in_ok-line.ensures.items
    ∙ state_written g c.args.name c.deref.result.now c.args.sorts.items c.signature_stands.ensures c.requires.name named ts c.in-Some.args.items fit h c.in_ok-act.act c.in_ok-act.ensures.added c.in_ok-act.ensures.number
    ∙ ap (λ o. state_line g (text_under g c.args.name) (option_map (terms_at g ts) (plain_next o))) (sym c.in-Some.is)
