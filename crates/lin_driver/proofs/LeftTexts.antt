-- What is printed for what is left of a linear process stands for the text that this one was made of.
use Rattle.std.proofs.Common.{◌≡◌, ℕ, List, ◌++◌, length, sym, ap, ap₂, ◌∙◌, subst}
use Rattle.std.specs.List.{Contains}
use Rattle.std.proofs.lemmas.List.Elements.{Contains-append_left}
use Rattle.data_theory.specs.declared.ids.NameId.{NameId}
use Rattle.data_theory.specs.IdTrees.{Tree}
use Rattle.data_theory.specs.EqualityLaws.{AreAmong}
use Rattle.data_theory.specs.Provable.{Equation}
use Rattle.data_theory.specs.Signature.{Sig}
use Rattle.data_theory.specs.WholeSignatures.{IsSignature}
use Rattle.mcrl2_syntax.specs.Declarations.{PlainSpec}
use Rattle.mcrl2_syntax.proofs.WordsOfTokens.{specs_are_of_words}
use Rattle.term_pool.specs.Pools.{Extends}
use Rattle.term_pool.proofs.DeclaredConstants.{grown_itself}
use Rattle.process_terms.specs.PlainProcesses.{PlainEquation}
use Rattle.process_terms.specs.Processes.{Process}
use Rattle.process_terms.specs.SignatureEntries.{entries_of}
use Rattle.bisim_laws.specs.LinearProcesses.{state_of}
use Rattle.bisim_laws.specs.Links.{Link, Then}
use Rattle.bisim_laws.proofs.ComposedLinks.{then_good}
use Rattle.lps_core.specs.Fitting.{Fits}
use Rattle.lps_core.specs.GoingOn.{IsGoodOverEquations}
use Rattle.lps_core.specs.PlainLinears.{PlainLinear, linear_of, initial_of, linear_state}
use Rattle.lps_core.proofs.Staying.{what_fits_stays}
use Rattle.lps_parelm.proofs.WholeElimination.{fits_on}
use Rattle.lps_printer.specs.EmptyEquations.{empty_equations}
use Rattle.lps_printer.specs.FittingLinears.{NamesAreIdentifiers, VariablesHaveOwnNames}
use Rattle.lps_printer.specs.PrintedLinears.{IsPrinted}
use Rattle.lin_driver.specs.Eliminations.{equations_at}
use Rattle.lin_driver.specs.Headline.{EndsBy, StandsFor}
use Rattle.lin_driver.specs.Linearised.{IsMadeOf, IsGoodOverBy, IsLinearised}
use Rattle.lin_driver.specs.ReadingBack.{CanBePrinted}
use Rattle.lin_driver.specs.declared.ending.Ending.{Ending}
use Rattle.lin_driver.proofs.LinearisedTexts.{made_stands_for, then_good_by, led_on_stands_for}
use Rattle.lin_driver.proofs.MadeTexts.{made_can_be_printed, printable_equations}
use Rattle.lin_driver.proofs.ReadingBack.{printed_texts_read_back, printed_equations}
use Rattle.lin_driver.proofs.RewritableEquations.{made_equations_are}

-- ---- what was made of a text, over a pool that has grown
module _ (ending : Ending) (text : List ℕ) (spec : PlainSpec) (g : Sig) (ts us : List Tree) (equations : List PlainEquation) (x : NameId) (l : PlainLinear) (made : IsMadeOf ending text spec g ts equations x l) (kept : Extends ts us) where
  abbrev from : IsLinearised ending text spec g ts l
  from = made_stands_for ending text spec g ts equations x l made

  abbrev before : CanBePrinted ending spec g ts x l
  before = made_can_be_printed ending text spec g ts equations x l made

  -- the linear process means what it meant
  pub stays : (linear_of (entries_of g us) l ≡ linear_of (entries_of g ts) l) × (initial_of (entries_of g us) l ≡ initial_of (entries_of g ts) l)
  stays = what_fits_stays g g ts us l from.stands.table from.stands.complete (record { signature = grown_itself g; pool = kept }) from.fits

  pub same_state : linear_state (entries_of g us) l ≡ linear_state (entries_of g ts) l
  same_state = ap₂ state_of stays.0 stays.1

  abbrev pub linearised : IsLinearised ending text spec g us l
  linearised = record {
    vocabulary = from.vocabulary;
    theory = from.theory;
    process = from.process;
    specifies = from.specifies;
    spec_is = from.spec_is;
    stands = from.stands;
    leaves_terminate = from.leaves_terminate;
    numbers = from.numbers;
    fits = fits_on g ts us l from.stands kept from.fits;
    ends = subst (EndsBy ending) (sym stays.0) from.ends;
    link = from.link;
    bisimilar = subst (λ (q : Process). IsGoodOverBy ending g from.link from.process q) (sym same_state) from.bisimilar;
  }

  abbrev own : List Equation
  own = equations_at g ts equations

  own_printed : before.own.theory.equations ≡ own
  own_printed = printable_equations ending text spec g ts equations x l made ∙ sym (made_equations_are ending text spec g ts equations x l made)

  -- ---- what is left of it
  module _ (printed : List ℕ) (k : PlainLinear) (fits : Fits g us k) (names : VariablesHaveOwnNames g k) (identifiers : NamesAreIdentifiers g k) (h : Sig) (after : IsSignature h) (is : IsPrinted spec g h us x k printed) where
    abbrev can : CanBePrinted ending spec g us x k
    can = record {
      text = before.text;
      tokens = before.tokens;
      cut = before.cut;
      spelled = before.spelled;
      own_signature = before.own_signature;
      own = before.own;
      grown = before.grown;
      added = before.added;
      stands = before.stands;
      inhabited = before.inhabited;
      fits = fits;
      names = names;
      identifiers = identifiers;
      process_there = before.process_there;
      process_new = before.process_new;
      process_apart = before.process_apart;
      process_named = before.process_named;
    }

    same_equations : (printed_texts_read_back ending spec g h us x k printed can after is).theory.equations ≡ own ++ empty_equations (length g.declared) is.needed
    same_equations = printed_equations ending spec g h us x k printed can after is ∙ ap (λ (qs : List Equation). qs ++ empty_equations (length g.declared) is.needed) own_printed

    among : AreAmong own (printed_texts_read_back ending spec g h us x k printed can after is).theory.equations
    among q i = subst (λ (qs : List Equation). Contains qs q) (sym same_equations) (Contains-append_left own (empty_equations (length g.declared) is.needed) q i)

    -- a link that is good over the written equations leads to it
    pub left_stands_for : EndsBy ending (linear_of (entries_of g us) k) → (link : Link) → IsGoodOverEquations g own link (linear_state (entries_of g us) l) (linear_state (entries_of g us) k) → StandsFor ending text printed
    left_stands_for ends link good =
        let b = printed_texts_read_back ending spec g h us x k printed can after is in
        led_on_stands_for ending text printed spec g us us l k linearised b fits ends (Then from.link link)
        (λ goes con. then_good_by ending b.theory from.link link from.process (linear_state (entries_of g us) l) (linear_state (entries_of g us) k) (linearised.bisimilar b.theory goes con) (good b.theory goes among con))
