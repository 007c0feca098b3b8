-- What stays as variables, list sorts and terms are added.
use Rattle.std.proofs.Common.{◌≡◌, refl, ◌∙◌}
use Rattle.data_theory.specs.Signature.{Sig, with_list, with_variable}
use Rattle.data_theory.specs.WholeSignatures.{IsSignature}
use Rattle.data_theory.specs.IdTerms.{IsGrown}
use Rattle.data_theory.proofs.IdGrowthLemmas.{growth_after_growth_is_growth, with_a_variable_it_is_grown}
use Rattle.data_theory.proofs.WholeSignatureLemmas.{variable_stands}
use Rattle.term_pool.specs.Pools.{PoolContents, Extends}
use Rattle.term_pool.proofs.NodeTrees.{extends_itself, extends_on}
use Rattle.sort_table.specs.NamedSorts.{AddsLists, no_lists, one_list}
use Rattle.sort_table.specs.SignatureVocabularies.{vocabulary_of}
use Rattle.sort_table.proofs.KeptFunctions.{lists_stand}
use Rattle.sort_table.proofs.DeclaringLemmas.{same_texts}
use Rattle.data_typing.proofs.TableLemmas.{lists_grow}
use Rattle.data_typing.proofs.SameVocabulary.{list_sorts_keep_the_vocabulary}
use Rattle.sort_checker.specs.Additions as additions
use Rattle.sort_checker.specs.Additions.{AddsVariables, nothing, one_variable, GoesOn}

-- ---- one after the other
pub of_lists : (g h : Sig) → AddsLists g h → AddsVariables g h
of_lists g _ no_lists = nothing
of_lists g _ (one_list h e l absent a) = additions.one_list h e l absent (of_lists g h a)

pub adds_then : (g h k : Sig) → AddsVariables g h → AddsVariables h k → AddsVariables g k
adds_then g h _ a nothing = a
adds_then g h _ a (additions.one_list k e l absent b) = additions.one_list k e l absent (adds_then g h k a b)
adds_then g h _ a (one_variable k x n i s b) = one_variable k x n i s (adds_then g h k a b)

pub goes_nowhere : (g : Sig) (p : PoolContents) → GoesOn g p g p
goes_nowhere g p = record { added = nothing; kept = extends_itself p.trees; constants = refl }

pub goes_then : (g : Sig) (p : PoolContents) (h : Sig) (q : PoolContents) (k : Sig) (r : PoolContents) → GoesOn g p h q → GoesOn h q k r → GoesOn g p k r
goes_then g p h q k r a b = record { added = adds_then g h k a.added b.added; kept = extends_on p.trees q.trees r.trees a.kept b.kept; constants = b.constants ∙ a.constants }

pub lists_go_on : (g : Sig) (p : PoolContents) (h : Sig) (q : PoolContents) → AddsLists g h → Extends p.trees q.trees → q.constants ≡ p.constants → GoesOn g p h q
lists_go_on g p h q added kept constants = record { added = of_lists g h added; kept = kept; constants = constants }

-- ---- what stays of a signature
record Stays (g h : Sig) : Type 0 where
  signature : IsSignature h
  grown : IsGrown g h
  vocabulary : vocabulary_of h ≡ vocabulary_of g
  texts : h.texts ≡ g.texts

not_grown : (g : Sig) → IsGrown g g
not_grown g = lists_grow g g no_lists

stays : (g h : Sig) → IsSignature g → AddsVariables g h → Stays g h
stays g _ stands nothing = record { signature = stands; grown = not_grown g; vocabulary = refl; texts = refl }
stays g _ stands (additions.one_list h e l absent a) =
    let so_far = stays g h stands a in
    let more : AddsLists h (with_list h e) = one_list h e l absent no_lists in
    record {
      signature = lists_stand h (with_list h e) so_far.signature more;
      grown = growth_after_growth_is_growth g h (with_list h e) so_far.grown (lists_grow h (with_list h e) more);
      vocabulary = list_sorts_keep_the_vocabulary h (with_list h e) so_far.signature more ∙ so_far.vocabulary;
      texts = same_texts h (with_list h e) more ∙ so_far.texts;
    }
stays g _ stands (one_variable h x n i s a) =
    let so_far = stays g h stands a in
    record {
      signature = variable_stands h x so_far.signature n s;
      grown = growth_after_growth_is_growth g h (with_variable h x) so_far.grown (with_a_variable_it_is_grown h x);
      vocabulary = so_far.vocabulary;
      texts = so_far.texts;
    }

pub signature_stays : (g h : Sig) → IsSignature g → AddsVariables g h → IsSignature h
signature_stays g h stands a = (stays g h stands a).signature

pub it_is_grown : (g h : Sig) → IsSignature g → AddsVariables g h → IsGrown g h
it_is_grown g h stands a = (stays g h stands a).grown

pub vocabulary_stays : (g h : Sig) → IsSignature g → AddsVariables g h → vocabulary_of h ≡ vocabulary_of g
vocabulary_stays g h stands a = (stays g h stands a).vocabulary

pub texts_stay : (g h : Sig) → IsSignature g → AddsVariables g h → h.texts ≡ g.texts
texts_stay g h stands a = (stays g h stands a).texts
