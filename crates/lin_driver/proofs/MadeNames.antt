-- The names of what was made of a text are identifiers.
use Rattle.std.proofs.Common.{ℕ, List, [], sym, subst}
use Rattle.std.specs.List.{All}
use Rattle.std.proofs.lemmas.List.Elements.{All-weaker}
use Rattle.std.proofs.lemmas.Option.{get_or_from_slice_get}
use Rattle.data_theory.specs.declared.ids.NameId.{NameId}
use Rattle.data_theory.specs.declared.ids.VarId.{VarId}
use Rattle.data_theory.specs.IdTrees.{Tree}
use Rattle.data_theory.specs.Signature.{Sig}
use Rattle.mcrl2_syntax.specs.Declarations.{PlainSpec}
use Rattle.mcrl2_syntax.proofs.WordsOfTokens.{specs_are_of_words}
use Rattle.process_terms.specs.PlainProcesses.{PlainEquation}
use Rattle.lps_core.specs.Fitting.{IsVariable, SummandFits}
use Rattle.lps_core.specs.Naming.{name_of}
use Rattle.lps_core.specs.PlainLinears.{PlainSummand, PlainLinear}
use Rattle.lps_printer.specs.DataLayout.{IsIdentifier}
use Rattle.lps_printer.specs.FittingLinears.{HasIdentifier, NamesAreIdentifiers}
use Rattle.lps_printer.proofs.GrownIdentifiers.{declared_still}
use Rattle.lin_driver.specs.Linearised.{IsMadeOf}
use Rattle.lin_driver.specs.TakenNames.{HaveIdentifiers}
use Rattle.lin_driver.specs.declared.ending.Ending.{Ending}
use Rattle.lin_driver.proofs.EndedTexts.{ended_as}
use Rattle.lin_driver.proofs.NamedSignatures.{texts_declare_identifiers}

-- the text of a variable's name
named_text : (g : Sig) → HaveIdentifiers g → (x : VarId) → IsVariable g x → HasIdentifier g x
named_text g all x l = let u = all x l in subst IsIdentifier (sym (get_or_from_slice_get g.texts (name_of g x).0 u.0 [] u.1)) u.2

pub made_names : (ending : Ending) (text : List ℕ) (spec : PlainSpec) (h : Sig) (us : List Tree) (equations : List PlainEquation) (x : NameId) (l : PlainLinear) → IsMadeOf ending text spec h us equations x l → NamesAreIdentifiers h l
made_names ending text spec h us equations x l made =
    let m = made.made in
    let ended = ended_as spec made.signature made.trees equations x made.linear m ending h us l made.ended in
    let words = specs_are_of_words text spec made.tokens made.cut made.spelled in
    let declares = declared_still m.signature h m.stands ended.grows (texts_declare_identifiers spec m.signature words m.declares.vocabulary) in
    record {
      params = All-weaker (IsVariable h) (HasIdentifier h) (named_text h ended.identifiers) l.params ended.fits.params;
      sums = All-weaker (SummandFits h us l.params) (λ (s : PlainSummand). All (HasIdentifier h) s.sums) (λ s f. All-weaker (IsVariable h) (HasIdentifier h) (named_text h ended.identifiers) s.sums f.sums) l.summands ended.fits.summands;
      functions = declares.functions;
      sorts = declares.sorts;
      actions = declares.actions;
    }
