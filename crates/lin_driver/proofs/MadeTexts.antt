-- What is made of a text can be printed, and then stands for the text.
use Rattle.std.proofs.Common.{◌≡◌, ℕ, zero, suc, List, [], ◌∷◌, map, codes, inr, refl, sym, ap, ◌∙◌, subst, arith}
use Rattle.std.specs.Prelude.{Some, slice_get}
use Rattle.std.proofs.lemmas.Option.{slice_get_within, get_or_from_slice_get}
use Rattle.data_theory.specs.declared.ids.NameId.{NameId}
use Rattle.data_theory.specs.Fresh.{candidate}
use Rattle.data_theory.specs.IdData.{data_meant}
use Rattle.data_theory.specs.IdTrees.{Tree}
use Rattle.data_theory.specs.Signature.{Sig, IsTaken}
use Rattle.mcrl2_syntax.specs.Declarations.{PlainSpec}
use Rattle.term_pool.proofs.DeclaredConstants.{still_read}
use Rattle.bisim_laws.specs.Terminations.{terminate_name}
use Rattle.process_terms.specs.Meanings.{theory_of, process_of, equation_of}
use Rattle.process_terms.specs.PlainProcesses.{PlainEquation}
use Rattle.lps_core.specs.PlainLinears.{PlainLinear}
use Rattle.lin_driver.specs.Linearised.{IsMadeOf}
use Rattle.process_terms.specs.SignatureEntries.{entries_of}
use Rattle.sort_table.specs.SignatureVocabularies.{text_under}
use Rattle.sort_table.proofs.SpelledPlaces.{spelled_specs_are_placed}
use Rattle.lps_printer.specs.DataLayout.{IsIdentifier}
use Rattle.lps_printer.proofs.FreshIdentifiers.{fresh_names_are_identifiers}
use Rattle.lin_driver.specs.MadeTexts.{WhatIsMadeCanBePrinted, WhatIsPrintedForATextStandsForIt}
use Rattle.lin_driver.specs.declared.ending.Ending.{Ending}
use Rattle.lin_driver.proofs.EndedTexts.{ended_as}
use Rattle.lin_driver.proofs.LinearisedTexts.{made_stands_for, printed_stands_for}
use Rattle.lin_driver.proofs.MadeNames.{made_names}
use Rattle.lin_driver.proofs.ReadingBack.{printed_texts_read_back}

-- ---- no fresh name of a process is `Terminate`
abbrev first_of : List ℕ → ℕ
first_of [] = 0
first_of (x ∷ xs) = x

not_terminate : (n : ℕ) → candidate (codes "P") n ≡ terminate_name → ⊥
not_terminate zero e = let first : 80 ≡ 84 = ap first_of e in absurd (omega (arith, first))
not_terminate (suc n) e = let first : 80 ≡ 84 = ap first_of e in absurd (omega (arith, first))

-- ---- texts
pub made_can_be_printed : WhatIsMadeCanBePrinted
made_can_be_printed ending text spec h us equations x l made =
    let m = made.made in
    let is = m.is_model in
    let ended = ended_as spec made.signature made.trees equations x made.linear m ending h us l made.ended in
    let e = entries_of m.signature m.pool.trees in
    let there : slice_get h.texts x.0 ≡ Some m.name.text = still_read made.signature.texts h.texts ended.grow.signature.new_texts ended.grow.signature.texts x.0 m.name.text m.name.named in
    let named : text_under h x ≡ m.name.text = get_or_from_slice_get h.texts x.0 m.name.text [] there in
    record {
      text = text;
      tokens = made.tokens;
      cut = made.cut;
      spelled = made.spelled;
      own_signature = m.signature;
      own = record {
        placed = spelled_specs_are_placed text spec made.tokens made.spelled;
        stands = m.stands;
        taken = λ t i. (m.taken t).1 (inr i);
        vocabulary = is.vocabulary;
        declared = is.over.declared;
        theory = theory_of (data_meant m.signature) e m.model;
        process = process_of e m.model;
        system = is.system;
      };
      grown = ended.grows;
      added = ended.added;
      stands = ended.stands;
      inhabited = ended.inhabited;
      fits = ended.fits;
      names = record { differ = ended.params.differ; unused = ended.params.unused; sums = ended.sums };
      identifiers = made_names ending text spec h us equations x l made;
      process_there = slice_get_within h.texts x.0 m.name.text there;
      process_new = λ t. m.name.fresh.free (subst (IsTaken m.signature) named t);
      process_apart = λ e. not_terminate m.name.fresh.number (sym m.name.fresh.named ∙ sym named ∙ e);
      process_named = subst IsIdentifier (sym (named ∙ m.name.fresh.named)) (fresh_names_are_identifiers (codes "P") (refl, refl) m.name.fresh.number);
    }

-- its equations are those of the model
pub printable_equations : (ending : Ending) (text : List ℕ) (spec : PlainSpec) (h : Sig) (us : List Tree) (equations : List PlainEquation) (x : NameId) (l : PlainLinear) (made : IsMadeOf ending text spec h us equations x l)
    → (made_can_be_printed ending text spec h us equations x l made).own.theory.equations ≡ map (equation_of (entries_of made.made.signature made.made.pool.trees)) made.made.model.equations
unfolding made_can_be_printed
printable_equations ending text spec h us equations x l made = refl

pub printed_for_stands_for : WhatIsPrintedForATextStandsForIt
printed_for_stands_for ending text printed spec g h us equations x l made stands is =
    printed_stands_for ending text printed spec g us l (made_stands_for ending text spec g us equations x l made)
    (printed_texts_read_back ending spec g h us x l printed (made_can_be_printed ending text spec g us equations x l made) stands is)
