-- What conditions over trees mean.
use Rattle.std.specs.Prelude.{◌≡◌, List, map}
use Rattle.data_theory.specs.Terms.{truth, conjunction, equality, positive}
use Rattle.data_theory.specs.Signature.{Sig}
use Rattle.data_theory.specs.Complete.{IsComplete}
use Rattle.data_theory.specs.IdTables.{IsTable}
use Rattle.data_theory.specs.IdTrees.{Tree}
use Rattle.data_theory.specs.IdTerms.{symbol_under, term_under, IsTreeWithin}
use Rattle.process_terms.specs.Communication.{conjunction_of}
use Rattle.lps_core.specs.Conditions.{parts, without_true}
use Rattle.lps_core.specs.TreeConditions.{true_function, and_function, tree_parts, trees_without_true, conjunction_tree}

-- the numbers of `true`, of `&&` and of `==` on Pos
abbrev pub NumbersMeanTheirSymbols : Type 0
NumbersMeanTheirSymbols =
    (g : Sig) → IsTable g → IsComplete g
    → (symbol_under g true_function ≡ truth) × (symbol_under g and_function ≡ conjunction) × (symbol_under g (record { 0 = 15 }) ≡ equality positive)

abbrev pub PartsMeanParts : Type 0
PartsMeanParts = (g : Sig) → IsTable g → IsComplete g → (t : Tree) → IsTreeWithin g t → map (term_under g) (trees_without_true (tree_parts t)) ≡ without_true (parts (term_under g t))

abbrev pub ChainsMeanChains : Type 0
ChainsMeanChains = (g : Sig) → IsTable g → IsComplete g → (ts : List Tree) → term_under g (conjunction_tree ts) ≡ conjunction_of (map (term_under g) ts)
