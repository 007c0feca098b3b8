-- Texts and bytes that are told.
use Rattle.std.proofs.Common.{◌≡◌, ◌≢◌, ◌≤◌, ℕ, List, Option, None, Some, IfSome, inl, inr, length, option_and_then, ◌⊎◌, sym, subst}
use Rattle.std.specs.Prelude.{option_map}
use Rattle.mcrl2_text.specs.declared.loading.TheConstants.{MAX_TEXT_LEN}
use Rattle.lin_driver.specs.Refusals.{IsRefusedWith}
use Rattle.lin_driver.specs.declared.fault.LinFault.{LinFault}
use Rattle.lin_driver.specs.declared.fault.LinFault.TheVariants as lin
use Rattle.lin_words.specs.Commands.{Asked, asked_by, Question, question, text_asked, further_asked}
use Rattle.lin_run.specs.Causes.{ComesToTheFile, HasCause, IsBadConditionFor, IsBadLineFor, IsConditionRefusal, IsFaultFor, IsFileRefusal, IsTooLong}
use Rattle.lin_refusals.specs.Stops.{IsStopFor}
use Rattle.lin_refusals.specs.declared.stop.Stop.{Stop}
use Rattle.lin_refusals.specs.declared.stop.Stop.TheVariants.{Words, ReadFault, TooLong, Refused, NoMemory}

-- what holds where a value is told follows from another fact of it
pub on_told : {T : Type 0} (told : Option T) (P Q : T → Type 0) → ((x : T) → P x → Q x) → IfSome told P → IfSome told Q
on_told None P Q follows holds = tt
on_told (Some x) P Q follows holds = follows x holds

-- what holds of the bytes that were loaded holds of the text asked for
pub of_loaded : (text_of : List ℕ → Option (List ℕ)) (words : List (List ℕ)) (a : Asked) (bytes : List ℕ) (P : Question → Type 0) → asked_by words ≡ Some a
    → IfSome (text_asked text_of a) (λ text. bytes ≡ text) → P (record { task = a.task; text = bytes; further = further_asked text_of a; ending = a.ending }) → IfSome (question text_of words) P
of_loaded text_of words a bytes P is told holds =
    subst (λ (asked : Option Asked). IfSome (option_and_then (λ (b : Asked). option_map (λ t. record { task = b.task; text = t; further = further_asked text_of b; ending = b.ending }) (text_asked text_of b)) asked) P) (sym is) (by_text (text_asked text_of a) told)
  where
    by_text : (o : Option (List ℕ)) → IfSome o (λ text. bytes ≡ text) → IfSome (option_map (λ t. record { task = a.task; text = t; further = further_asked text_of a; ending = a.ending }) o) P
    by_text None told = tt
    by_text (Some text) same = subst (λ (t : List ℕ). P (record { task = a.task; text = t; further = further_asked text_of a; ending = a.ending })) same holds

-- a stop for a fault of the bytes that were loaded has its cause in the text asked for
pub has_cause : (text_of : List ℕ → Option (List ℕ)) (words : List (List ℕ)) (a : Asked) (bytes : List ℕ) (texts : List (List ℕ)) (fault : LinFault) (stop : Stop) → asked_by words ≡ Some a
    → IfSome (text_asked text_of a) (λ text. bytes ≡ text) → length bytes ≤ MAX_TEXT_LEN → (fault ≢ lin.NoMemory → IsFaultFor a.ending a.task fault) → (fault ≢ lin.NoMemory → IsRefusedWith bytes texts fault)
    → IsStopFor texts fault stop → HasCause stop (question text_of words)
has_cause text_of words a bytes texts fault Words asked told short of refused is = absurd is
has_cause text_of words a bytes texts fault ReadFault asked told short of refused is = absurd is
has_cause text_of words a bytes texts fault TooLong asked told short of refused is = absurd is
has_cause text_of words a bytes texts fault (Refused line) asked told short of refused is = inl (record {
  texts = texts;
  fault = fault;
  named = is.0;
  says = is.1;
  due = of_loaded text_of words a bytes (λ q. (length q.text ≤ MAX_TEXT_LEN) × IsFaultFor q.ending q.task fault × IsRefusedWith q.text texts fault) asked told (short, of is.0, refused is.0);
})
has_cause text_of words a bytes texts fault NoMemory asked told short of refused is = tt

-- a refusal of the further file has its cause in the question
further_asked_of : (text_of : List ℕ → Option (List ℕ)) (words : List (List ℕ)) (a : Asked) (bytes line : List ℕ) → asked_by words ≡ Some a → IfSome (text_asked text_of a) (λ text. bytes ≡ text)
    → IsFileRefusal (Some (record { task = a.task; text = bytes; further = further_asked text_of a; ending = a.ending })) line ⊎ IsConditionRefusal (Some (record { task = a.task; text = bytes; further = further_asked text_of a; ending = a.ending })) line
    → IsFileRefusal (question text_of words) line ⊎ IsConditionRefusal (question text_of words) line
further_asked_of text_of words a bytes line asked told cause = elim cause [
  | inl t ↦ inl (record { number = t.number; says = t.says; due = of_loaded text_of words a bytes (λ q. ComesToTheFile q × IsBadLineFor q.ending q.task q.text q.further t.number line) asked told t.due })
  | inr t ↦ inr (record { says = t.says; due = of_loaded text_of words a bytes (λ q. ComesToTheFile q × IsBadConditionFor q.ending q.task q.text q.further) asked told t.due })
]

-- a stop that has its cause in the bytes that were loaded and in the further file has it in the question
pub cause_asked : (text_of : List ℕ → Option (List ℕ)) (words : List (List ℕ)) (a : Asked) (bytes : List ℕ) (stop : Stop) → asked_by words ≡ Some a → IfSome (text_asked text_of a) (λ text. bytes ≡ text)
    → HasCause stop (Some (record { task = a.task; text = bytes; further = further_asked text_of a; ending = a.ending })) → HasCause stop (question text_of words)
cause_asked text_of words a bytes Words asked told cause = tt
cause_asked text_of words a bytes ReadFault asked told cause = tt
cause_asked text_of words a bytes TooLong asked told cause = of_loaded text_of words a bytes IsTooLong asked told cause
cause_asked text_of words a bytes (Refused line) asked told cause = elim cause [
  | inl r ↦ inl (record {
    texts = r.texts;
    fault = r.fault;
    named = r.named;
    says = r.says;
    due = of_loaded text_of words a bytes (λ q. (length q.text ≤ MAX_TEXT_LEN) × IsFaultFor q.ending q.task r.fault × IsRefusedWith q.text r.texts r.fault) asked told r.due;
  })
  | inr t ↦ inr (further_asked_of text_of words a bytes line.items asked told t)
]
cause_asked text_of words a bytes NoMemory asked told cause = tt
