use Rattle.std.proofs.Common.{◌≡◌, ◌<◌, ◌⊎◌, map, length, sym, subst, ap, ap₂, ◌∙◌}
use Rattle.std.specs.List.{All, Contains}
use Rattle.std.proofs.lemmas.List.{length-map}
use Rattle.std.proofs.lemmas.List.Elements.{All-weaker}
use Rattle.term_pool.specs.ConstructorValues.{HasValue}
use Rattle.term_pool.proofs.DeclaredConstants.{grown_itself}
use Rattle.greibach.specs.PlainForms.{plain_equation}
use Rattle.regular_encoder.specs.FormColumns.{places_in}
use Rattle.stack_encoder.specs.StackColumns.{in_need, numbered_place, sort_of_column, default_at, AreClosedTerms}
use Rattle.stack_encoder.proofs.ClosedColumns.{as_many_closed}
use Rattle.stack_encoder.proofs.NeededColumns.{needed_below, first_or_needed}
use Rattle.stack_encoder.proofs.layouts.defaults_of.Goals as goal

pub returns-in_err-needed-clause-grown : goal.returns-in_err-needed-clause-grown
returns-in_err-needed-clause-grown c = grown_itself _

pub closed_terms-requires-clause-within : goal.closed_terms-requires-clause-within
closed_terms-requires-clause-within c =
    subst (λ n. All (λ x. x < n) c.in_ok-needed.needed.keys) c.len-columns.ensures.len
    (subst (All (λ x. x < c.len-columns.result)) (sym c.in_ok-needed.ensures) (needed_below c.len-columns.result (places_in c.args.places.now) (map plain_equation c.as_slice.result.now)))

pub closed_terms-requires-clause-inhabited : goal.closed_terms-requires-clause-inhabited
closed_terms-requires-clause-inhabited c =
    All-weaker (λ x. x < length c.args.kinds.now.keys) (λ x. HasValue c.args.sig.now (sort_of_column c.args.kinds.now.keys x)) (λ x l. c.requires.inhabited x _ l) c.in_ok-needed.needed.keys
    (subst (λ n. All (λ x. x < n) c.in_ok-needed.needed.keys) c.len-columns.ensures.len
    (subst (All (λ x. x < c.len-columns.result)) (sym c.in_ok-needed.ensures) (needed_below c.len-columns.result (places_in c.args.places.now) (map plain_equation c.as_slice.result.now))))

pub all_defaults-requires-clause-needed : goal.all_defaults-requires-clause-needed
all_defaults-requires-clause-needed c =
    ap length c.as_slice-2.ensures.keys
    ∙ sym (length-map c.in_ok-needed.needed.keys (sort_of_column c.args.kinds.now.keys))
    ∙ as_many_closed _ _ _ _ _ _ c.in_ok-closed.ensures.terms
    ∙ sym (ap length c.as_slice-3.ensures.value)

pub all_defaults-requires-clause-each : goal.all_defaults-requires-clause-each
all_defaults-requires-clause-each c = λ x l.
    subst (λ z. Contains c.as_slice-2.result.now x ⊎ Contains z x) (sym c.place_of-place.ensures)
    (subst (λ z. Contains z x ⊎ Contains (numbered_place (places_in c.args.places.now) 1) x) (sym (c.as_slice-2.ensures.keys ∙ c.in_ok-needed.ensures)) (first_or_needed c.len-columns.result (places_in c.args.places.now) (map plain_equation c.as_slice.result.now) x l))

pub returns-clause-values : goal.returns-clause-values
returns-clause-values c =
    let n = length c.args.kinds.now.keys in
    let places = places_in c.args.places.now in
    let same : c.in_ok-needed.needed.keys ≡ in_need n places (map plain_equation c.args.form.now.equations.items) =
    c.in_ok-needed.ensures ∙ ap₂ (λ m qs. in_need m places (map plain_equation qs)) c.len-columns.ensures.len c.as_slice.ensures.value in
    record {
      closed = c.in_ok-closed.closed.items;
      closed_terms = subst (λ z. AreClosedTerms c.args.sig.now c.args.pool.now (map (sort_of_column c.args.kinds.now.keys) z) c.closed_terms.new.sig c.closed_terms.new.pool c.in_ok-closed.closed.items) same c.in_ok-closed.ensures.terms;
      long = c.in_ok-found.ensures.long ∙ c.len-columns.ensures.len;
      each = λ x l.
          c.in_ok-found.ensures.each x (subst (λ m. x < m) (sym c.len-columns.ensures.len) l)
          ∙ ap₂ (λ a b. default_at a b c.place_of-place.result.now c.as_slice-4.result.now x) (c.as_slice-2.ensures.keys ∙ same) c.as_slice-3.ensures.value
          ∙ ap₂ (λ a b. default_at (in_need n places (map plain_equation c.args.form.now.equations.items)) c.in_ok-closed.closed.items a b x) c.place_of-place.ensures c.as_slice-4.ensures.value;
    }
