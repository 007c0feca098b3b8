-- Under one table, a process term of a text closes to one process, whatever its numbers.
use Rattle.std.specs.Prelude.{◌≡◌, ℕ, [], ◌∷◌, Some}
use Rattle.data_theory.specs.Terms.{Sort}
use Rattle.data_theory.specs.Environments.{Environment, term_in}
use Rattle.process_terms.specs.Processes.{Body, Table, close}
use Rattle.sort_table.specs.Expressions.{Name}
use Rattle.sort_table.specs.NamedLists.{all_named}
use Rattle.sort_table.specs.BareProcesses.{Process}
use Rattle.data_typing.specs.Meanings.{Scope}
use Rattle.sort_checker.specs.FullVocabularies.{Parameters, FullVocabulary, process_named}
use Rattle.sort_checker.specs.Elaborations.{Elaborates}

-- no name is that of an action and of a process
abbrev pub NamesApart : FullVocabulary → Type 0
NamesApart v = (x : Name) (r : ℕ × Parameters) → process_named v x ≡ Some r → all_named x v.declared.actions ≡ []

-- two scopes with the same names and sorts, whose variables stand for the same terms
pub data ScopesAgree (e k : Environment) : Scope → Scope → Type 0 where
  agree_none : ScopesAgree e k [] []
  agree_more : {x : Name} {n l : ℕ} {s : Sort} {one other : Scope} → term_in e n ≡ term_in k l → ScopesAgree e k one other
      → ScopesAgree e k (record { name = x; number = n; sort = s } ∷ one) (record { name = x; number = l; sort = s } ∷ other)

abbrev pub ElaborationsCloseAlike : Type 0
ElaborationsCloseAlike =
    (v : FullVocabulary) → NamesApart v → (one other : Scope) (p : Process) (b c : Body) → Elaborates v one p b → Elaborates v other p c
    → (d : Table) (e k : Environment) → ScopesAgree e k one other → close d e b ≡ close d k c
