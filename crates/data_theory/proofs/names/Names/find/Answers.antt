use Rattle.std.proofs.Common.{◌≡◌, ◌∙◌, ◌<◌, List, ℕ, length, sym, ap, map, Some, true, false, arith}
use Rattle.std.specs.Prelude.{bytes_eq}
use Rattle.std.specs.String.{string_bytes}
use Rattle.std.specs.BTreeMap.{get_by_text}
use Rattle.std.proofs.lemmas.List.{length-map}
use Rattle.std.proofs.lemmas.Option.{slice_get_within}
use Rattle.std.proofs.lemmas.Slice.Eq.{bytes_eq-Decides}
use Rattle.data_theory.proofs.IndexLemmas.{known_once, unknown, not_there, text_at}
use Rattle.data_theory.proofs.names.Names.find.Goals as goal
use Rattle.data_theory.proofs.names.Names.find.Goals.{else-place-len-via-then-place-len+else-eq, else-place-len-via-else-place-len}

pub returns-in_err-place-clause-found : goal.returns-in_err-place-clause-found
returns-in_err-place-clause-found c =
    rw c.from_residual.ensures (rw (← c.self.view_is) (unknown (get_by_text c.self.inside.index) (map string_bytes c.self.inside.texts.items) c.self.invariant c.args.text.now (sym c.in_err-place.ensures.value)))

pub returns-in_err-place-clause-different : goal.returns-in_err-place-clause-different
returns-in_err-place-clause-different c = rw (← c.self.view_is) (known_once (get_by_text c.self.inside.index) (map string_bytes c.self.inside.texts.items) c.self.invariant)

pub returns-then-eq-clause-found : goal.returns-then-eq-clause-found
returns-then-eq-clause-found c =
    let within : c.in_ok-place.field-0.now < length c.self.inside.texts.items = omega (arith, c.if-place-len.true, c.len.ensures, c.self.inside.texts.ok.0) in
    rw (← c.self.view_is) (text_at c.self.inside.texts.items c.in_ok-place.field-0.now c.index.result.now within c.index.ensures
    ∙ ap Some (sym c.as_str.ensures.value ∙ (bytes_eq-Decides c.as_str.result.now c.args.text.now).0 (sym c.if-eq.ensures)))

pub returns-then-eq-clause-different : goal.returns-then-eq-clause-different
returns-then-eq-clause-different c = rw (← c.self.view_is) (known_once (get_by_text c.self.inside.index) (map string_bytes c.self.inside.texts.items) c.self.invariant)

pub returns-else-place-len-clause-found : goal.returns-else-place-len-clause-found
returns-else-place-len-clause-found c =
    rw (← c.self.view_is) (not_there (get_by_text c.self.inside.index) (map string_bytes c.self.inside.texts.items) c.self.invariant c.args.text.now c.in_ok-place.field-0.now (sym c.in_ok-place.ensures.value)
    (λ e. elim c.else-place-len.branch [
      | else-place-len-via-then-place-len+else-eq w ↦
          let within : c.in_ok-place.field-0.now < length c.self.inside.texts.items = omega (arith, w.if-place-len.true, c.len.ensures, c.self.inside.texts.ok.0) in
          let stored : Some (string_bytes w.index.result.now) ≡ Some c.args.text.now = sym (text_at c.self.inside.texts.items c.in_ok-place.field-0.now w.index.result.now within w.index.ensures) ∙ e in
          let bytes : string_bytes w.index.result.now ≡ c.args.text.now = cc in
          let told : bytes_eq w.as_str.result.now c.args.text.now ≡ true = (bytes_eq-Decides w.as_str.result.now c.args.text.now).1 (w.as_str.ensures.value ∙ bytes) in
          let never : false ≡ true = w.if-eq.ensures ∙ told in cc
      | else-place-len-via-else-place-len w ↦
          let within = slice_get_within (map string_bytes c.self.inside.texts.items) c.in_ok-place.field-0.now c.args.text.now e in
          absurd (omega (arith, within, length-map c.self.inside.texts.items string_bytes, w.if-place-len.false, c.len.ensures, c.self.inside.texts.ok.0))
    ]))

pub returns-else-place-len-clause-different : goal.returns-else-place-len-clause-different
returns-else-place-len-clause-different c = rw (← c.self.view_is) (known_once (get_by_text c.self.inside.index) (map string_bytes c.self.inside.texts.items) c.self.invariant)
