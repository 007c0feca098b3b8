-- Functions behind those of a text.
use Rattle.std.proofs.Common.{◌≡◌, ◌<◌, ◌≤◌, ◌+◌, ℕ, Bool, true, false, cond, List, [], ◌∷◌, length, get_or, map, drop, sym, ap, ◌∙◌, arith}
use Rattle.std.proofs.lemmas.List.{drop_more}
use Rattle.std.proofs.Math.Seq.{drop-length}
use Rattle.data_theory.specs.declared.ids.FunId.{FunId}
use Rattle.std.specs.Prelude.{Option, Some, None}
use Rattle.std.specs.List.{All}
use Rattle.std.proofs.lemmas.List.Elements.{All-cons, All-head, All-tail, All-drop}
use Rattle.mcrl2_syntax.specs.Words.{PlainWord}
use Rattle.mcrl2_syntax.specs.Declarations as trees
use Rattle.mcrl2_syntax.specs.Declarations.{PlainConstructor, PlainDecl, PlainSpec}
use Rattle.data_theory.specs.Signature.{Sig}
use Rattle.lps_printer.specs.AddedDeclarations.{behind_name, behind_all, behind_field, behind_constructor, behind_declaration, behind_section, added_functions, is_constant, constants_among}

module _ {A B C : Type 0} (behind : B → List C → List C) (to : A → B) (xs : List A) (i : ℕ) (rest all : List C) where
  pub behind_step : (x : A) → i < length xs → x ≡ get_or xs i x → (next : List C) → next ≡ behind (to x) rest → behind_all behind (map to (drop i xs)) rest ≡ all → behind_all behind (map to (drop (i + 1) xs)) next ≡ all
  behind_step x below is next e h =
      ap (behind_all behind (map to (drop (i + 1) xs))) e ∙ ap (λ ys. behind_all behind (map to ys) rest) (sym (drop_more xs i x below ∙ ap (λ y. y ∷ drop (i + 1) xs) (sym is))) ∙ h

  pub behind_end : length xs ≤ i → i ≤ length xs → behind_all behind (map to (drop i xs)) rest ≡ all → rest ≡ all
  behind_end above below h = let end : i ≡ length xs = omega arith in ap (λ ys. behind_all behind (map to ys) rest) (sym (ap (λ k. drop k xs) end ∙ drop-length xs)) ∙ h

-- ---- they are among the functions
module _ (P : FunId → Type 0) where
  all_behind : {A : Type 0} (behind : A → List FunId → List FunId) → ((x : A) (fs : List FunId) → All P fs → All P (behind x fs)) → (xs : List A) (fs : List FunId) → All P fs → All P (behind_all behind xs fs)
  all_behind behind each [] fs h = h
  all_behind behind each (x ∷ xs) fs h = all_behind behind each xs (behind x fs) (each x fs h)

  behind_its_name : (w : Option PlainWord) (fs : List FunId) → All P fs → All P (behind_name w fs)
  behind_its_name None fs h = h
  behind_its_name (Some w) fs h = All-drop P 1 fs h

  behind_its_constructor : (k : PlainConstructor) (fs : List FunId) → All P fs → All P (behind_constructor k fs)
  behind_its_constructor k fs h =
      behind_its_name k.recogniser (behind_all behind_field k.fields (drop 1 fs)) (all_behind behind_field (λ f gs. behind_its_name f.name gs) k.fields (drop 1 fs) (All-drop P 1 fs h))

  behind_its_declaration : (d : PlainDecl) (fs : List FunId) → All P fs → All P (behind_declaration d fs)
  behind_its_declaration (trees.sorts_decl span ws) fs h = h
  behind_its_declaration (trees.alias_decl span w s) fs h = h
  behind_its_declaration (trees.struct_decl span w cs) fs h = all_behind behind_constructor behind_its_constructor cs fs h
  behind_its_declaration (trees.cons_decl span ws ss to) fs h = All-drop P (length ws) fs h
  behind_its_declaration (trees.map_decl span ws ss to) fs h = All-drop P (length ws) fs h
  behind_its_declaration (trees.vars_decl span gs) fs h = h
  behind_its_declaration (trees.equation_decl span c l r) fs h = h
  behind_its_declaration (trees.act_decl span ws ss) fs h = h
  behind_its_declaration (trees.proc_decl span w gs p) fs h = h
  behind_its_declaration (trees.init_decl span p) fs h = h

  pub added_among : (spec : PlainSpec) (g : Sig) → All P g.declared → All P (added_functions spec g)
  added_among spec g h = all_behind behind_section (λ s fs. all_behind behind_declaration behind_its_declaration s.declarations fs) spec.sections g.declared h

  kept : (b : Bool) (f : FunId) (fs : List FunId) → P f → All P fs → All P (cond b (f ∷ fs) fs)
  kept true f fs p h = All-cons P f fs p h
  kept false f fs p h = h

  pub constants_are_among : (g : Sig) (fs : List FunId) → All P fs → All P (constants_among g fs)
  constants_are_among g [] h = h
  constants_are_among g (f ∷ fs) h = kept (is_constant g f) f (constants_among g fs) (All-head P f fs h) (constants_are_among g fs (All-tail P f fs h))
