-- Summands that are printed.
use Rattle.std.proofs.Common.{◌≡◌, ℕ, suc, ◌-◌, ◌<◌, Bool, true, false, cond, List, [], ◌∷◌, length, map, get_or, take, drop, codes, Some, None, refl, sym, ap, ◌∙◌, arith}
use Rattle.std.specs.List.{All}
use Rattle.std.proofs.Math.Seq.{take-length}
use Rattle.std.proofs.lemmas.List.{get_or-map}
use Rattle.std.proofs.lemmas.List.Elements.{All-head, All-tail}
use Rattle.mcrl2_lexer.specs.declared.kind.Kind.TheVariants.{Dot, Sum}
use Rattle.data_theory.specs.declared.ids.VarId.{VarId}
use Rattle.data_theory.specs.declared.signature.Variable.{Variable}
use Rattle.data_theory.specs.Terms.{boolean}
use Rattle.data_theory.specs.Equations.{trueᵗ}
use Rattle.data_theory.specs.Table.{bool_sort}
use Rattle.data_theory.specs.IdTerms.{sort_under, term_under}
use Rattle.term_pool.specs.HeadTrees.{no_tree, IsIn}
use Rattle.process_terms.specs.Meanings.{bound_at}
use Rattle.bisim_laws.specs.LinearProcesses.{is_true}
use Rattle.lps_core.specs.declared.linears.Summand.{Summand}
use Rattle.lps_core.specs.Fitting.{IsVariable}
use Rattle.lps_core.specs.PlainLinears.{plain_summand}
use Rattle.lps_printer.specs.declared.process_writer.ProcessWriter as code
use Rattle.lps_printer.specs.Pieces.{Piece}
use Rattle.lps_printer.specs.DataLayout.{piece, space}
use Rattle.lps_printer.specs.WrittenTerms.{written}
use Rattle.lps_printer.specs.EmptyLists.{filled}
use Rattle.lps_printer.specs.SummandLayout.{print_variable, print_variables, print_when, print_sum, print_summand}
use Rattle.lps_printer.specs.WrittenProcesses.{variable_written}
use Rattle.lps_printer.specs.Wordings.{opened}
use Rattle.lps_printer.specs.CodeWordings.{term_by}
use Rattle.lps_printer.specs.TextWordings.{TextWording, of_terms, variable_by}
use Rattle.lps_printer.specs.CodeProcesses.{entries_by, summand_by, print_guarded}
use Rattle.lps_printer.proofs.Truths.{filled_true}

-- ---- conditions
module _ (c : code.ProcessWriter) (t : TextWording) (s : Summand) (here : IsIn c.terms.pool.now.trees s.cond) where
  condition_by : (b : Bool) → is_true (term_by c.terms s.cond) ≡ b → (summand_by c t (plain_summand s)).condition ≡ cond b None (Some (opened (of_terms t) (term_by c.terms s.cond)))
  condition_by b e =
      ap (λ u. cond (is_true (filled t.constant t.names.terms.once u).opened) None (Some (written t.names.terms (filled t.constant t.names.terms.once u).opened).opened)) (get_or-map (term_under c.terms.sig.now) c.terms.pool.now.trees s.cond.0 no_tree trueᵗ here)
      ∙ ap (λ z. cond z None (Some (opened (of_terms t) (term_by c.terms s.cond)))) (filled_true t.constant t.names.terms.once (term_by c.terms s.cond) ∙ e)

  pub condition_left_out : is_true (term_by c.terms s.cond) ≡ true → (gap : List ℕ) (rest : List Piece)
      → print_when None (summand_by c t (plain_summand s)).first (summand_by c t (plain_summand s)).others (summand_by c t (plain_summand s)).next gap rest ≡ print_guarded (summand_by c t (plain_summand s)) gap rest
  condition_left_out e gap rest =
      let r = summand_by c t (plain_summand s) in
      ap (λ o. print_when o r.first r.others r.next gap rest) (sym (condition_by true e))

  pub condition_kept : is_true (term_by c.terms s.cond) ≡ false → (gap : List ℕ) (rest : List Piece)
      → print_when (Some (opened (of_terms t) (term_by c.terms s.cond))) (summand_by c t (plain_summand s)).first (summand_by c t (plain_summand s)).others (summand_by c t (plain_summand s)).next gap rest ≡ print_guarded (summand_by c t (plain_summand s)) gap rest
  condition_kept e gap rest =
      let r = summand_by c t (plain_summand s) in
      ap (λ o. print_when o r.first r.others r.next gap rest) (sym (condition_by false e))

-- ---- sums
pub variables_meant : (c : code.ProcessWriter) (t : TextWording) (vs : List VarId) → All (IsVariable c.terms.sig.now) vs → map (variable_by c.terms.sig.now t.names) vs ≡ map (variable_written t.names) (map (bound_at (entries_by c)) vs)
variables_meant c t [] a = refl
variables_meant c t (v ∷ vs) a =
    let g = c.terms.sig.now in
    let sort = get_or-map (λ (x : Variable). sort_under g x.sort) g.variables v.0 (record { name = record { 0 = 0 }; sort = bool_sort }) boolean (All-head (IsVariable g) v vs a) in
    let tail = variables_meant c t vs (All-tail (IsVariable g) v vs a) in
    (λ i. variable_written t.names (record { var = v.0; sort = sym sort i }) ∷ tail i)

pub no_sums : (c : code.ProcessWriter) (t : TextWording) (s : Summand) → s.sums.items ≡ [] → (gap : List ℕ) (rest : List Piece) → print_guarded (summand_by c t (plain_summand s)) gap rest ≡ print_summand (summand_by c t (plain_summand s)) gap rest
no_sums c t s e gap rest =
    let r = summand_by c t (plain_summand s) in
    ap (λ vs. print_sum (map (variable_written t.names) (map (bound_at (entries_by c)) vs)) r.condition r.first r.others r.next gap rest) (sym e)

pub with_sums : (c : code.ProcessWriter) (t : TextWording) (s : Summand) (v : VarId) (vs : List VarId) → All (IsVariable c.terms.sig.now) s.sums.items → v ∷ vs ≡ s.sums.items → (gap : List ℕ) (rest : List Piece)
    → piece gap Sum (codes "sum") ∷ print_variable (variable_by c.terms.sig.now t.names v) space (print_variables (map (variable_by c.terms.sig.now t.names) vs) (piece space Dot (codes ".") ∷ print_guarded (summand_by c t (plain_summand s)) space rest))
    ≡ print_summand (summand_by c t (plain_summand s)) gap rest
with_sums c t s v vs a e gap rest =
    let r = summand_by c t (plain_summand s) in
    ap (λ us. print_sum (map (variable_by c.terms.sig.now t.names) us) r.condition r.first r.others r.next gap rest) e
    ∙ ap (λ xs. print_sum xs r.condition r.first r.others r.next gap rest) (variables_meant c t s.sums.items a)

pub parted : {A : Type 0} (xs : List A) (d : A) → 0 < length xs → get_or xs 0 d ∷ take (length xs - 1) (drop 1 xs) ≡ xs
parted [] d l = absurd (omega (arith, l))
parted (x ∷ xs) d l =
    let count : suc (length xs) - 1 ≡ length xs = omega arith in
    ap (λ ys. x ∷ ys) (ap (λ n. take n xs) count ∙ take-length xs)
