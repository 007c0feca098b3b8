-- One look decides whether a condition begins somewhere.
use Rattle.std.proofs.Common.{◌≡◌, ◌⊎◌, ℕ, Bool, true, false, List, [], ◌∷◌, Some, refl, ap, sym, ◌∙◌, inl, inr}
use Rattle.mcrl2_lexer.specs.declared.kind.Kind.{Kind}
use Rattle.mcrl2_lexer.specs.declared.kind.Kind.TheVariants.{Identifier, LeftParen, Arrow, Delta, Tau, Allow, Block, Hide, Rename, Comm, Bar}
use Rattle.mcrl2_lexer.specs.declared.token.Token.{Token}
use Rattle.mcrl2_syntax.specs.declared.data_tree.PrefixSign.{PrefixSign}
use Rattle.mcrl2_syntax.specs.Words.{Begins}
use Rattle.mcrl2_syntax.specs.InfixSigns.{prefix_of}
use Rattle.mcrl2_syntax.specs.DataTrees.{PlainData}
use Rattle.mcrl2_syntax.specs.ProcessParts.{PlainAction}
use Rattle.mcrl2_syntax.specs.ProcessTrees.{PlainProcess}
use Rattle.mcrl2_syntax.specs.SpelledData.{SpellsUnit, unit_name, unit_numeral, unit_true, unit_false, unit_empty, unit_list, unit_apply, unit_brackets, unit_prefix}
use Rattle.mcrl2_syntax.specs.SpelledLabels.{SpellsAction, action_tau, action_name, action_applied, SpellsCall, call_empty, call_assigns, Operation, SpellsOperation, spells_allow, spells_block, spells_hide, spells_rename, spells_comm}
use Rattle.mcrl2_syntax.specs.SpelledProcesses.{SpellsAtom, atom_delta, atom_action, atom_call, atom_brackets, atom_operator, SpellsMulti, multi_last, multi_more}
use Rattle.mcrl2_syntax.specs.Follow.{NoAction}
use Rattle.mcrl2_syntax.proofs.LabelsOnce.{no_other}
use Rattle.mcrl2_parser.specs.declared.levels.Effect.TheVariants.{Closes}
use Rattle.mcrl2_parser.specs.Levels.{effect_of}
use Rattle.mcrl2_parser.specs.ProcessReading.{SpellsGuard, spells_guard}
use Rattle.mcrl2_parser.specs.Arrows.{is_arrow, begins_arrow, first_end, ends_of, ends_at_arrow, begins_guard_behind, names_guard, begins_guard_with, begins_guard}
use Rattle.mcrl2_parser.proofs.Rests.{close_step, items_passes, level_passes, assignments_pass, choices_pass}

-- what stands behind the bracket that ends what was read
ends_with : (ts r : List Token) (v : Token) → ends_of ts ≡ ends_of (v ∷ r) → effect_of v.kind ≡ Closes → ends_at_arrow ts ≡ begins_arrow r
unfolding ends_at_arrow
ends_with ts r v e h = ap (λ (x : List Bool). first_end x) (e ∙ close_step v r h)

prefix_guard : (k : Kind) (sign : PrefixSign) (ts : List Token) → prefix_of k ≡ Some sign → begins_guard_with k ts ≡ true
prefix_guard LeftParen sign ts e = absurd cc
prefix_guard Identifier sign ts e = absurd cc
prefix_guard Delta sign ts e = absurd cc
prefix_guard Tau sign ts e = absurd cc
prefix_guard Allow sign ts e = absurd cc
prefix_guard Block sign ts e = absurd cc
prefix_guard Hide sign ts e = absurd cc
prefix_guard Rename sign ts e = absurd cc
prefix_guard Comm sign ts e = absurd cc
prefix_guard _ sign ts e = refl

with_kind : (k : Kind) (t : Token) (ts : List Token) → t.kind ≡ k → begins_guard (t ∷ ts) ≡ begins_guard_with k ts
with_kind k t ts h = ap (λ (x : Kind). begins_guard_with x ts) h

named_with : (k : Kind) (t u : Token) (ts : List Token) → t.kind ≡ Identifier → u.kind ≡ k → begins_guard (t ∷ u ∷ ts) ≡ begins_guard_behind k ts
named_with k t u ts h i = with_kind Identifier t (u ∷ ts) h ∙ ap (λ (x : Kind). begins_guard_behind x ts) i

unit_begins : {text : List ℕ} {c : PlainData} {ts r : List Token} → SpellsUnit text c ts r → begins_arrow r ≡ true → Begins Arrow r → begins_guard ts ≡ true
unit_begins (unit_name {t = t} {r = []} h) e b = absurd cc
unit_begins (unit_name {t = t} {r = u ∷ us} h) e b = named_with Arrow t u us h b
unit_begins (unit_numeral {t = t} {r = r} h) e b = with_kind _ t r h
unit_begins (unit_true {t = t} {r = r} h) e b = with_kind _ t r h
unit_begins (unit_false {t = t} {r = r} h) e b = with_kind _ t r h
unit_begins (unit_empty {t = t} {v = v} {r = r} h i) e b = with_kind _ t (v ∷ r) h
unit_begins (unit_list {t = t} {ts = ts} h a i) e b = with_kind _ t ts h
unit_begins (unit_apply {t = t} {u = u} {v = v} {ts = ts} {r = r} h i a j) e b = named_with LeftParen t u ts h i ∙ ends_with ts r v (items_passes a).ends (ap effect_of j) ∙ e
unit_begins (unit_brackets {t = t} {v = v} {ts = ts} {r = r} h a i) e b = with_kind LeftParen t ts h ∙ ends_with ts r v (level_passes a).ends (ap effect_of i) ∙ e
unit_begins (unit_prefix {t = t} {sign = sign} {ts = ts} h a) e b = prefix_guard t.kind sign ts h

-- a condition begins only where the look says so
pub guard_begins : {text : List ℕ} {c : PlainData} {ts r : List Token} → SpellsGuard text c ts r → begins_guard ts ≡ true
guard_begins (spells_guard {a = a} u h) = unit_begins u (ap is_arrow h) h

pub not_guard : {text : List ℕ} {c : PlainData} {ts r : List Token} → false ≡ begins_guard ts → SpellsGuard text c ts r → ⊥
not_guard e g = let f : false ≡ true = e ∙ guard_begins g in cc

arrow_kind : (k : Kind) → is_arrow k ≡ true → k ≡ Arrow
arrow_kind Arrow e = refl
arrow_kind _ e = absurd cc

arrow_begins : (ts : List Token) → begins_arrow ts ≡ true → Begins Arrow ts
arrow_begins [] e = absurd cc
arrow_begins (t ∷ ts) e = arrow_kind t.kind e

kind_behind : (k : Kind) (ts : List Token) → begins_guard_behind k ts ≡ true → (k ≡ LeftParen) ⊎ (k ≡ Arrow)
kind_behind LeftParen ts e = inl refl
kind_behind Arrow ts e = inr refl
kind_behind _ ts e = absurd cc

no_name : (ts : List Token) → names_guard ts ≡ true → (Begins LeftParen ts → ⊥) → (Begins Arrow ts → ⊥) → ⊥
no_name [] e n m = cc
no_name (t ∷ ts) e n m = elim (kind_behind t.kind ts e) [ inl h ↦ n h | inr h ↦ m h ]

no_kind : (k : Kind) (t : Token) (ts : List Token) → t.kind ≡ k → begins_guard_with k ts ≡ false → begins_guard (t ∷ ts) ≡ true → ⊥
no_kind k t ts h f e = let g : false ≡ true = sym f ∙ sym (with_kind k t ts h) ∙ e in cc

no_action_guard : {text : List ℕ} {a : PlainAction} {ts r : List Token} → begins_guard ts ≡ true → SpellsAction text a ts r → (Begins LeftParen r → ⊥) → (Begins Arrow r → ⊥) → ⊥
no_action_guard e (action_tau {t = t} {r = r} h) n m = no_kind Tau t r h refl e
no_action_guard e (action_name {t = t} {r = r} h) n m = no_name r (sym (with_kind Identifier t r h) ∙ e) n m
no_action_guard e (action_applied {t = t} {u = u} {v = v} {ts = ts} {r = r} h i a j) n m =
    m (arrow_begins r (sym (ends_with ts r v (items_passes a).ends (ap effect_of j)) ∙ sym (named_with LeftParen t u ts h i) ∙ e))

no_call_guard : {text : List ℕ} {p : PlainProcess} {ts r : List Token} → begins_guard ts ≡ true → SpellsCall text p ts r → (Begins Arrow r → ⊥) → ⊥
no_call_guard e (call_empty {t = t} {u = u} {v = v} {r = r} h i j) m = m (arrow_begins r (sym (ends_with (v ∷ r) r v refl (ap effect_of j)) ∙ sym (named_with LeftParen t u (v ∷ r) h i) ∙ e))
no_call_guard e (call_assigns {t = t} {u = u} {v = v} {ts = ts} {r = r} h i a j) m =
    m (arrow_begins r (sym (ends_with ts r v (assignments_pass a).ends (ap effect_of j)) ∙ sym (named_with LeftParen t u ts h i) ∙ e))

no_operation_guard : {text : List ℕ} {o : Operation} {ts r : List Token} → begins_guard ts ≡ true → SpellsOperation text o ts r → ⊥
no_operation_guard e (spells_allow {t = t} {u = u} {ts = ts} h i a j) = no_kind Allow t (u ∷ ts) h refl e
no_operation_guard e (spells_block {t = t} {u = u} {ts = ts} h i a j) = no_kind Block t (u ∷ ts) h refl e
no_operation_guard e (spells_hide {t = t} {u = u} {ts = ts} h i a j) = no_kind Hide t (u ∷ ts) h refl e
no_operation_guard e (spells_rename {t = t} {u = u} {ts = ts} h i a j) = no_kind Rename t (u ∷ ts) h refl e
no_operation_guard e (spells_comm {t = t} {u = u} {ts = ts} h i a j) = no_kind Comm t (u ∷ ts) h refl e

-- where the look says so, no atom begins that ends as one does
no_atom_guard : {text : List ℕ} {p : PlainProcess} {ts r : List Token} → begins_guard ts ≡ true → SpellsAtom text p ts r → (Begins LeftParen r → ⊥) → (Begins Arrow r → ⊥) → ⊥
no_atom_guard e (atom_delta {t = t} {r = r} h) n m = no_kind Delta t r h refl e
no_atom_guard e (atom_action a) n m = no_action_guard e a n m
no_atom_guard e (atom_call a) n m = no_call_guard e a m
no_atom_guard e (atom_brackets {t = t} {v = v} {ts = ts} {r = r} h a i) n m =
    m (arrow_begins r (sym (ends_with ts r v (choices_pass a).ends (ap effect_of i)) ∙ sym (with_kind LeftParen t ts h) ∙ e))
no_atom_guard e (atom_operator a b i) n m = no_operation_guard e a

-- nor atoms with `|` between them
pub no_multi_guard : {text : List ℕ} {ps : List PlainProcess} {ts r : List Token} → begins_guard ts ≡ true → SpellsMulti text ps ts r → NoAction r → (Begins Arrow r → ⊥) → ⊥
no_multi_guard e (multi_last a) n m = no_atom_guard e a n.paren m
no_multi_guard e (multi_more {b = b} {us = us} a h c) n m = no_atom_guard e a (no_other Bar LeftParen b us h (λ f. cc)) (no_other Bar Arrow b us h (λ f. cc))
