use Rattle.std.proofs.Common.{◌≡◌, ◌∙◌, List, ℕ, [], ◌∷◌, ◌++◌, length, map, Some, sym, ap, subst, arith}
use Rattle.std.specs.Prelude.{slice_get}
use Rattle.std.specs.List.{Contains}
use Rattle.std.specs.String.{string_bytes}
use Rattle.std.specs.BTreeMap.{get_by_text}
use Rattle.std.proofs.lemmas.List.{length-map, map-append}
use Rattle.data_theory.specs.Places.{KnowsPlaces}
use Rattle.data_theory.proofs.PlaceLemmas.{read_last}
use Rattle.data_theory.proofs.IndexLemmas.{known_once, known_still, known_with, text_put, other_texts}
use Rattle.data_theory.proofs.names.Names.enter.Goals as goal
use Rattle.data_theory.proofs.names.Names.enter.Goals.{After-from_residual-in_err-push, In_ok-push}

pub invariant_of-self-in_err-push : goal.invariant_of-self-in_err-push
invariant_of-self-in_err-push c =
    let old : List (List ℕ) = map string_bytes c.self.inside.texts.items in
    subst (λ ss. KnowsPlaces (get_by_text c.insert.new.self) (map string_bytes ss)) (sym c.in_err-push.ensures.items)
    (known_still (get_by_text c.self.inside.index) old c.self.invariant (get_by_text c.insert.new.self) c.args.text.now
    (λ h. c.in_default.ensures.found (subst (λ ts. Contains ts c.args.text.now) c.self.view_is h))
    (other_texts c.self.inside.index c.insert.new.self c.in_ok-key.key (Some c.len-place.result) c.in_ok-insert.ensures.updates c.args.text.now c.in_ok-key.ensures.ok))

-- the text was new, and is now the last one
pushed : (c : In_ok-push) → map string_bytes c.push.new.self.items ≡ map string_bytes c.self.inside.texts.items ++ c.args.text.now ∷ []
pushed c =
    ap (map string_bytes) c.in_ok-push.ensures.items ∙ map-append string_bytes c.self.inside.texts.items (c.in_ok-stored.stored ∷ [])
    ∙ ap (λ t. map string_bytes c.self.inside.texts.items ++ t ∷ []) c.in_ok-stored.ensures.ok

place : (c : In_ok-push) → c.len-place.result ≡ length (map string_bytes c.self.inside.texts.items)
place c = omega (arith, c.len-place.ensures, c.self.inside.texts.ok.0, length-map c.self.inside.texts.items string_bytes)

known : (c : In_ok-push) → KnowsPlaces (get_by_text c.insert.new.self) (map string_bytes c.push.new.self.items)
known c =
    let old : List (List ℕ) = map string_bytes c.self.inside.texts.items in
    subst (KnowsPlaces (get_by_text c.insert.new.self)) (sym (pushed c))
    (known_with (get_by_text c.self.inside.index) old c.self.invariant (get_by_text c.insert.new.self) c.args.text.now
    (λ h. c.in_default.ensures.found (subst (λ ts. Contains ts c.args.text.now) c.self.view_is h))
    (other_texts c.self.inside.index c.insert.new.self c.in_ok-key.key (Some c.len-place.result) c.in_ok-insert.ensures.updates c.args.text.now c.in_ok-key.ensures.ok)
    (text_put c.self.inside.index c.insert.new.self c.in_ok-key.key (Some c.len-place.result) c.in_ok-insert.ensures.updates c.args.text.now c.in_ok-key.ensures.ok ∙ ap Some (place c)))

pub invariant_of-self-2 : goal.invariant_of-self-2
invariant_of-self-2 c = known c

pub returns-clause-place : goal.returns-clause-place
returns-clause-place c =
    ap (λ ts. slice_get ts c.len-place.result) (pushed c) ∙ ap (slice_get (map string_bytes c.self.inside.texts.items ++ c.args.text.now ∷ [])) (place c)
    ∙ read_last (map string_bytes c.self.inside.texts.items) c.args.text.now

pub returns-clause-different : goal.returns-clause-different
returns-clause-different c = known_once (get_by_text c.insert.new.self) (map string_bytes c.push.new.self.items) (known c)
