-- Equations and definitions in code mean what they mean wherever more is added.
use Rattle.std.proofs.Common.{◌≡◌, List, [], ◌∷◌, refl, ap}
use Rattle.std.specs.List.{All}
use Rattle.std.proofs.lemmas.List.Elements.{All-nil, All-cons, All-head}
use Rattle.data_theory.specs.Declarations.{Data}
use Rattle.data_theory.specs.Provable.{Equation}
use Rattle.data_theory.specs.Signature.{Sig}
use Rattle.data_theory.specs.WholeSignatures.{IsSignature}
use Rattle.data_theory.specs.IdData.{data_meant}
use Rattle.data_theory.specs.IdTerms.{IsTreeWithin}
use Rattle.term_pool.specs.Pools.{PoolContents}
use Rattle.process_terms.specs.Processes.{Definition}
use Rattle.process_terms.specs.Theories.{Theory}
use Rattle.process_terms.specs.PlainProcesses.{PlainEquation, PlainDefinition, PlainModel, delta}
use Rattle.process_terms.specs.Meanings.{Grows, equation_of, definition_of, table_of, theory_of, process_of, HasEquation, HasDefinition, HasModel}
use Rattle.process_terms.specs.SignatureEntries.{entries_of}
use Rattle.process_terms.proofs.EntryLemmas.{signatures_add_entries}
use Rattle.process_terms.proofs.MeaningLemmas.{definitions_are_settled, models_are_settled}
use Rattle.sort_checker.specs.Additions.{GoesOn}
use Rattle.sort_checker.specs.ElaboratedTexts.{IsEquation, IsDefinition}
use Rattle.sort_checker.proofs.Adding.{goes_then, it_is_grown}

abbrev head_of : {A : Type 0} → A → List A → A
head_of d [] = d
head_of d (x ∷ xs) = x

module _ (g : Sig) (p : PoolContents) (signature : IsSignature g) (trees : All (IsTreeWithin g) p.trees) where
  pub entries_grow : (h : Sig) (q : PoolContents) → GoesOn g p h q → Grows (entries_of g p.trees) (entries_of h q.trees)
  entries_grow h q on = signatures_add_entries g h p.trees q.trees signature.table signature.complete trees (record { signature = it_is_grown g h signature on.added; pool = on.kept })

  pub equation_settled : (x : PlainEquation) → HasEquation (entries_of g p.trees) x → IsEquation g p x (equation_of (entries_of g p.trees) x)
  equation_settled x has = record {
    there = λ h q on. All-head (HasEquation (entries_of h q.trees)) x [] (stays h q on).2.0;
    means = λ h q on. ap (λ (th : Theory). head_of (equation_of (entries_of g p.trees) x) th.equations) ((stays h q on).0 (data_meant g));
  }
    where
      alone : PlainModel
      alone = record { equations = x ∷ []; definitions = []; init = delta; init_declaration = 0 }

      stays : (h : Sig) (q : PoolContents) → GoesOn g p h q
          → ((d : Data) → theory_of d (entries_of h q.trees) alone ≡ theory_of d (entries_of g p.trees) alone) × (process_of (entries_of h q.trees) alone ≡ process_of (entries_of g p.trees) alone) × HasModel (entries_of h q.trees) alone
      stays h q on = models_are_settled (entries_of g p.trees) (entries_of h q.trees) (entries_grow h q on) alone (All-cons (HasEquation (entries_of g p.trees)) x [] has (All-nil (HasEquation (entries_of g p.trees))), All-nil (HasDefinition (entries_of g p.trees)), tt)

  pub definition_settled : (x : PlainDefinition) → HasDefinition (entries_of g p.trees) x → IsDefinition g p x (definition_of (entries_of g p.trees) x)
  definition_settled x has = record {
    there = λ h q on. All-head (HasDefinition (entries_of h q.trees)) x [] (stays h q on).1;
    means = λ h q on. ap (head_of (definition_of (entries_of g p.trees) x)) (stays h q on).0;
  }
    where
      stays : (h : Sig) (q : PoolContents) → GoesOn g p h q → (table_of (entries_of h q.trees) (x ∷ []) ≡ table_of (entries_of g p.trees) (x ∷ [])) × All (HasDefinition (entries_of h q.trees)) (x ∷ [])
      stays h q on = definitions_are_settled (entries_of g p.trees) (entries_of h q.trees) (entries_grow h q on) (x ∷ []) (All-cons (HasDefinition (entries_of g p.trees)) x [] has (All-nil (HasDefinition (entries_of g p.trees))))

-- what was made before
pub equation_on : (g : Sig) (p : PoolContents) (h : Sig) (q : PoolContents) → GoesOn g p h q → (x : PlainEquation) (e : Equation) → IsEquation g p x e → IsEquation h q x e
equation_on g p h q on x e is = record { there = λ k r more. is.there k r (goes_then g p h q k r on more); means = λ k r more. is.means k r (goes_then g p h q k r on more) }

pub definition_on : (g : Sig) (p : PoolContents) (h : Sig) (q : PoolContents) → GoesOn g p h q → (x : PlainDefinition) (d : Definition) → IsDefinition g p x d → IsDefinition h q x d
definition_on g p h q on x d is = record { there = λ k r more. is.there k r (goes_then g p h q k r on more); means = λ k r more. is.means k r (goes_then g p h q k r on more) }
