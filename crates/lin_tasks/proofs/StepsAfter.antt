-- Steps behind chosen moves, in code.
use Rattle.std.proofs.Common.{◌≡◌, ◌≤◌, ◌<◌, [], ◌∷◌, ◌++◌, ℕ, List, Option, Some, None, IfSome, length, refl, sym, ap, subst, ◌∙◌, map}
use Rattle.std.specs.Prelude.{option_map}
use Rattle.std.specs.List.{All}
use Rattle.std.proofs.lemmas.List.Elements.{All-cons, All-head, All-nil, All-tail}
use Rattle.mcrl2_text.specs.declared.loading.TheConstants.{MAX_TEXT_LEN}
use Rattle.mcrl2_syntax.specs.Declarations.{PlainSpec}
use Rattle.data_theory.specs.declared.ids.NameId.{NameId}
use Rattle.data_theory.specs.declared.ids.SortId.{SortId}
use Rattle.data_theory.specs.declared.ids.TermId.{TermId}
use Rattle.data_theory.specs.declared.ids.VarId.{VarId}
use Rattle.data_theory.specs.IdTrees.{Tree}
use Rattle.data_theory.specs.Provable.{Equation}
use Rattle.data_theory.specs.Signature.{Sig}
use Rattle.data_theory.specs.WholeSignatures.{IsSignature}
use Rattle.term_pool.specs.Pools.{PoolContents, Extends}
use Rattle.process_terms.specs.PlainProcesses.{PlainEquation}
use Rattle.lps_core.specs.Fitting.{sort_of_variable, AreTermsOf, IsVariable}
use Rattle.lps_core.specs.PlainLinears.{PlainLinear}
use Rattle.lps_core.proofs.Staying.{sort_is_within, terms_stay}
use Rattle.lps_simulator.specs.OptionsInCode.{terms_at, IsState}
use Rattle.lps_simulator.proofs.SessionLemmas.{next_state_stays}
use Rattle.lps_simulator.proofs.TriedSummands.{both_grow}
use Rattle.sort_table.specs.SignatureVocabularies.{text_under}
use Rattle.chosen_moves.specs.declared.following.ChoiceFault.{ChoiceFault}
use Rattle.chosen_moves.specs.declared.following.ChoiceFault.TheVariants.{BadChoice}
use Rattle.chosen_moves.specs.ChosenMoves.{FollowsText, IsChoiceFault}
use Rattle.lin_driver.specs.Eliminations.{equations_at}
use Rattle.lin_driver.specs.LinearOfTexts.{IsLinearOf}
use Rattle.lin_driver.specs.declared.ending.Ending.{Ending}
use Rattle.lin_driver.specs.declared.methods.Method.{Method}
use Rattle.lin_refusals.specs.BadChoices.{IsBadChoiceAsTold}
use Rattle.lin_tasks.specs.Shown.{state_line, ShowsOptionsIn}
use Rattle.lin_tasks.specs.ShownAfter.{AreShownAsTold, ShowsBehind, ShowsStepsAfter}
use Rattle.lin_answers.specs.declared.status.Status.{Status}
use Rattle.lin_tasks.proofs.ShownAfter.{made_after}

-- ---- a session behind chosen moves
-- the state that was answered is the one where the session stands, also in a later pool
module _ (g : Sig) (us vs : List Tree) (l k : PlainLinear) (last answered : Option (List TermId)) (kept : Extends us vs) (same : answered ≡ last) (linear : k ≡ l) (is : IfSome last (IsState g us k.params)) where
  pub state_behind : IfSome answered (IsState g vs l.params)
  state_behind =
      subst (λ (m : PlainLinear). IfSome answered (IsState g vs m.params)) linear (subst (λ (o : Option (List TermId)). IfSome o (IsState g vs k.params)) (sym same) (next_state_stays g us vs k.params last kept is))

  terms_behind : IsSignature g → option_map (terms_at g vs) last ≡ option_map (terms_at g us) last
  terms_behind stands = by_state last is
    where
      by_state : (o : Option (List TermId)) → IfSome o (IsState g us k.params) → option_map (terms_at g vs) o ≡ option_map (terms_at g us) o
      by_state None h = refl
      by_state (Some ids) h = ap Some (terms_stay g g us vs stands.table stands.complete (both_grow g us vs kept) (map (sort_of_variable g) k.params) ids h.terms)

  pub shown_there : (own : List Equation) (fuel bound : ℕ) (ts : List Tree) (first : Option (List TermId)) (choices : List ℕ) (status : Status) (shown : List ℕ) → IsSignature g → FollowsText g own fuel bound l choices ts first us last
      → ShowsOptionsIn g own fuel bound us k last status shown → ShowsBehind g own fuel bound ts vs l first choices answered status shown
  shown_there own fuel bound ts first choices status shown stands follows options = record {
    trees = us;
    follows = subst (λ (o : Option (List TermId)). FollowsText g own fuel bound l choices ts first us o) (sym same) follows;
    options = subst (λ (o : Option (List TermId)). ShowsOptionsIn g own fuel bound us l o status shown) (sym same) (subst (λ (m : PlainLinear). ShowsOptionsIn g own fuel bound us m last status shown) linear options);
    same_terms = subst (λ (o : Option (List TermId)). option_map (terms_at g vs) o ≡ option_map (terms_at g us) o) (sym same) (terms_behind stands);
  }

-- ---- the state in front
pub sorts_within : (g : Sig) → IsSignature g → (xs : List VarId) → All (IsVariable g) xs → All (λ (s : SortId). s.0 < length g.sorts) (map (sort_of_variable g) xs)
sorts_within g stands [] all = All-nil (λ (s : SortId). s.0 < length g.sorts)
sorts_within g stands (x ∷ xs) all =
    All-cons (λ (s : SortId). s.0 < length g.sorts) (sort_of_variable g x) (map (sort_of_variable g) xs) (sort_is_within g x stands.complete (All-head (IsVariable g) x xs all)) (sorts_within g stands xs (All-tail (IsVariable g) x xs all))

pub terms_of_state : (g : Sig) (ts : List Tree) (params : List VarId) (sorts : List SortId) (o : Option (List TermId)) → sorts ≡ map (sort_of_variable g) params → IfSome o (IsState g ts params) → IfSome o (AreTermsOf g ts sorts)
terms_of_state g ts params sorts None same is = tt
terms_of_state g ts params sorts (Some ids) same is = subst (λ ss. AreTermsOf g ts ss ids) (sym same) is.terms

pub with_state : (g : Sig) (own : List Equation) (fuel bound : ℕ) (ts vs : List Tree) (x : NameId) (l : PlainLinear) (choices : List ℕ) (last : Option (List TermId)) (status : Status) (answer line shown : List ℕ)
    → ShowsBehind g own fuel bound ts vs l (Some l.init) choices last status answer → line ≡ state_line g (text_under g x) (option_map (terms_at g vs) last) → shown ≡ line ++ answer
    → ShowsStepsAfter g own fuel bound ts x l choices status shown
with_state g own fuel bound ts vs x l choices last status answer line shown b is pushed = record {
  trees = b.trees;
  last = last;
  follows = b.follows;
  answer = answer;
  options = b.options;
  shows = pushed ∙ ap (λ z. z ++ answer) (is ∙ ap (state_line g (text_under g x)) b.same_terms);
}

-- ---- of a text, and of choices that were read
module _ (ending : Ending) (method : Method) (text : List ℕ) (spec : PlainSpec) (g : Sig) (q : PoolContents) (equations : List PlainEquation) (x : NameId) (l : PlainLinear) (components : ℕ) (is_linear : IsLinearOf ending method text spec g q equations x l components)
    (told : Option (List ℕ)) (choices : List ℕ) (is : IfSome told (λ t. choices ≡ t)) (short : length choices ≤ MAX_TEXT_LEN) (fuel bound : ℕ) where
  pub shown_as_told : (status : Status) (shown : List ℕ) → ShowsStepsAfter g (equations_at g q.trees equations) fuel bound q.trees x l choices status shown → AreShownAsTold ending method fuel bound text told status shown
  shown_as_told status shown s = record { choices = choices; is_told = is; short = short; steps = made_after ending method text spec g q equations x l components is_linear fuel bound choices status shown s }

  pub bad_as_told : (fault : ChoiceFault) → IsChoiceFault g (equations_at g q.trees equations) fuel bound l choices q.trees (Some l.init) fault → (number : ℕ) → fault ≡ BadChoice number → IsBadChoiceAsTold ending method fuel bound text told number
  bad_as_told fault bad number same = record {
    choices = choices;
    is_told = is;
    short = short;
    bad = record {
      spec = spec;
      signature = g;
      pool = q;
      equations = equations;
      name = x;
      linear = l;
      components = components;
      is_linear = is_linear;
      bad = subst (IsChoiceFault g (equations_at g q.trees equations) fuel bound l choices q.trees (Some l.init)) same bad;
    };
  }
