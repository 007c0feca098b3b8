-- Tail forms: no summand has two calls.
use Rattle.std.specs.Prelude.{◌≤◌, Bool, nat_le, length}
use Rattle.std.specs.List.{All, list_all}
use Rattle.greibach.specs.declared.forms.GreibachSummand.{GreibachSummand}
use Rattle.greibach.specs.declared.forms.GreibachEquation.{GreibachEquation}
use Rattle.greibach.specs.declared.forms.Greibach.{Greibach}
use Rattle.greibach.specs.PlainForms.{PlainFormSummand, PlainEquation, PlainForm}

abbrev pub HasTail : PlainFormSummand → Type 0
HasTail s = length s.next ≤ 1

abbrev pub HasTails : PlainForm → Type 0
HasTails f = All (λ (q : PlainEquation). All HasTail q.summands) f.equations

-- ---- as tests
abbrev pub is_tail_summand : GreibachSummand → Bool
is_tail_summand s = nat_le (length s.next.items) 1

abbrev pub is_tail_equation : GreibachEquation → Bool
is_tail_equation q = list_all is_tail_summand q.summands.items

abbrev pub is_tail_form : Greibach → Bool
is_tail_form f = list_all is_tail_equation f.equations.items
