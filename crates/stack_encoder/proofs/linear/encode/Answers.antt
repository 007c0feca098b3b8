use Rattle.std.proofs.Common.{◌≡◌, ◌≤◌, ◌∷◌, [], refl, map, length, sym, ap, ap₂, ◌∙◌, subst}
use Rattle.std.specs.List.{All}
use Rattle.std.proofs.lemmas.List.{length-map}
use Rattle.std.proofs.lemmas.List.Elements.{All-weaker}
use Rattle.term_pool.specs.HeadTrees.{AreIn, trees_at}
use Rattle.term_pool.specs.Pools.{Extends}
use Rattle.lps_core.specs.PlainLinears.{PlainLinear, plain_summand}
use Rattle.lps_core.specs.TreeSummands.{trees_of_summand, IsSummandIn}
use Rattle.lps_core.proofs.KeptSummands.{summand_in_kept, summands_kept}
use Rattle.lps_core.proofs.PoolTrees.{extends_itself, extends_on}
use Rattle.greibach.specs.PlainForms.{plain_equation, plain_form}
use Rattle.stack_encoder.specs.Frames.{frame_layout, plain_symbols}
use Rattle.stack_encoder.specs.StackedForms.{first_tree}
use Rattle.stack_encoder.specs.TreeStack.{FrameLayout}
use Rattle.stack_encoder.specs.WholeStack.{trees_stacked_from, AreEquationsFor}
use Rattle.regular_encoder.specs.FormColumns.{places_in}
use Rattle.stack_encoder.proofs.FrameTrees.{layout_along}
use Rattle.stack_encoder.proofs.WholeStacks.{defaults_in, equations_for, first_long, init_in, init_along, some_place, stacked_long, trees_from_first, it_fits, it_is_good}
use Rattle.stack_encoder.proofs.PlainStacks.{it_is_plain}
use Rattle.stack_encoder.proofs.linear.encode.Goals as goal

pub encode_equations-requires-clause-equations : goal.encode_equations-requires-clause-equations
encode_equations-requires-clause-equations c =
    subst (λ qs. AreEquationsFor c.lay_out.new.pool.trees (length c.in_ok-symbols.symbols.fields.items) (frame_layout c.lay_out.new.pool.trees c.in_ok-symbols.layout) (map plain_equation qs)) (sym c.as_slice.ensures.value)
    (equations_for c.args.sig.now c.lay_out.new.sig c.args.pool.now c.lay_out.new.pool c.lay_out.new.pool.trees c.signature_stands.ensures c.in_ok-symbols.ensures.stands (plain_form c.args.form.now) (plain_symbols c.in_ok-symbols.symbols) c.in_ok-symbols.symbols.stack (places_in c.in_ok-symbols.layout.places.items) c.in_ok-symbols.layout.defaults.items
    c.in_ok-symbols.ensures.stack c.requires.form c.in_ok-symbols.ensures.few (extends_itself c.lay_out.new.pool.trees))

pub encode_equations-requires-clause-defaults : goal.encode_equations-requires-clause-defaults
encode_equations-requires-clause-defaults c = defaults_in c.args.sig.now c.lay_out.new.sig c.args.pool.now c.lay_out.new.pool c.lay_out.new.pool.trees c.signature_stands.ensures c.in_ok-symbols.ensures.stands (plain_form c.args.form.now) (plain_symbols c.in_ok-symbols.symbols) c.in_ok-symbols.symbols.stack (places_in c.in_ok-symbols.layout.places.items) c.in_ok-symbols.layout.defaults.items
    c.in_ok-symbols.ensures.stack c.requires.form c.in_ok-symbols.ensures.few (extends_itself c.lay_out.new.pool.trees)

pub first_stack-requires-clause-place : goal.first_stack-requires-clause-place
first_stack-requires-clause-place c =
    subst (λ n. 1 ≤ n) (length-map c.in_ok-symbols.layout.places.items (λ v. v.items)) (some_place c.args.sig.now c.lay_out.new.sig c.args.pool.now c.lay_out.new.pool c.encode_equations.new.pool.trees c.signature_stands.ensures c.in_ok-symbols.ensures.stands (plain_form c.args.form.now) (plain_symbols c.in_ok-symbols.symbols) c.in_ok-symbols.symbols.stack (places_in c.in_ok-symbols.layout.places.items) c.in_ok-symbols.layout.defaults.items
    c.in_ok-symbols.ensures.stack c.requires.form c.in_ok-symbols.ensures.few c.encode_equations.ensures.kept)

pub first_stack-requires-clause-long : goal.first_stack-requires-clause-long
first_stack-requires-clause-long c = first_long c.args.sig.now c.lay_out.new.sig c.args.pool.now c.lay_out.new.pool c.encode_equations.new.pool.trees c.signature_stands.ensures c.in_ok-symbols.ensures.stands (plain_form c.args.form.now) (plain_symbols c.in_ok-symbols.symbols) c.in_ok-symbols.symbols.stack (places_in c.in_ok-symbols.layout.places.items) c.in_ok-symbols.layout.defaults.items
    c.in_ok-symbols.ensures.stack c.requires.form c.in_ok-symbols.ensures.few c.encode_equations.ensures.kept ∙ sym (ap length c.as_slice-2.ensures.value)

pub first_stack-requires-clause-init : goal.first_stack-requires-clause-init
first_stack-requires-clause-init c = subst (AreIn c.encode_equations.new.pool.trees) (sym c.as_slice-2.ensures.value) (init_in c.args.sig.now c.lay_out.new.sig c.args.pool.now c.lay_out.new.pool c.encode_equations.new.pool.trees c.signature_stands.ensures c.in_ok-symbols.ensures.stands (plain_form c.args.form.now) (plain_symbols c.in_ok-symbols.symbols) c.in_ok-symbols.symbols.stack (places_in c.in_ok-symbols.layout.places.items) c.in_ok-symbols.layout.defaults.items
    c.in_ok-symbols.ensures.stack c.requires.form c.in_ok-symbols.ensures.few c.encode_equations.ensures.kept)

pub first_stack-requires-clause-defaults : goal.first_stack-requires-clause-defaults
first_stack-requires-clause-defaults c = defaults_in c.args.sig.now c.lay_out.new.sig c.args.pool.now c.lay_out.new.pool c.encode_equations.new.pool.trees c.signature_stands.ensures c.in_ok-symbols.ensures.stands (plain_form c.args.form.now) (plain_symbols c.in_ok-symbols.symbols) c.in_ok-symbols.symbols.stack (places_in c.in_ok-symbols.layout.places.items) c.in_ok-symbols.layout.defaults.items
    c.in_ok-symbols.ensures.stack c.requires.form c.in_ok-symbols.ensures.few c.encode_equations.ensures.kept

-- ---- over the last pool
kept : (c : goal.After-drop-symbols-2) → Extends c.lay_out.new.pool.trees c.first_stack.new.pool.trees
kept c = extends_on c.lay_out.new.pool.trees c.encode_equations.new.pool.trees c.first_stack.new.pool.trees c.encode_equations.ensures.kept c.first_stack.ensures.kept

same_layout : (c : goal.After-drop-symbols-2) → (frame_layout c.lay_out.new.pool.trees c.in_ok-symbols.layout) ≡ (frame_layout c.first_stack.new.pool.trees c.in_ok-symbols.layout)
same_layout c = sym (layout_along c.lay_out.new.pool.trees c.first_stack.new.pool.trees c.in_ok-symbols.layout (kept c) (defaults_in c.args.sig.now c.lay_out.new.sig c.args.pool.now c.lay_out.new.pool c.lay_out.new.pool.trees c.signature_stands.ensures c.in_ok-symbols.ensures.stands (plain_form c.args.form.now) (plain_symbols c.in_ok-symbols.symbols) c.in_ok-symbols.symbols.stack (places_in c.in_ok-symbols.layout.places.items) c.in_ok-symbols.layout.defaults.items
    c.in_ok-symbols.ensures.stack c.requires.form c.in_ok-symbols.ensures.few (extends_itself c.lay_out.new.pool.trees)))

made_trees : (c : goal.After-drop-symbols-2) → map (trees_of_summand c.first_stack.new.pool.trees) (map plain_summand c.in_ok-summands.summands.items) ≡ trees_stacked_from (plain_symbols c.in_ok-symbols.symbols) (frame_layout c.first_stack.new.pool.trees c.in_ok-symbols.layout) c.in_ok-symbols.symbols.stack 1 c.args.pool.now.trees (map plain_equation c.args.form.now.equations.items)
made_trees c =
    summands_kept c.encode_equations.new.pool.trees c.first_stack.new.pool.trees c.first_stack.ensures.kept (map plain_summand c.in_ok-summands.summands.items) c.in_ok-summands.ensures.within
    ∙ c.in_ok-summands.ensures.summands
    ∙ ap (λ qs. trees_stacked_from (plain_symbols c.in_ok-symbols.symbols) (frame_layout c.lay_out.new.pool.trees c.in_ok-symbols.layout) c.in_ok-symbols.symbols.stack 1 c.lay_out.new.pool.trees (map plain_equation qs)) c.as_slice.ensures.value
    ∙ trees_from_first c.args.sig.now c.lay_out.new.sig c.args.pool.now c.lay_out.new.pool c.lay_out.new.pool.trees c.signature_stands.ensures c.in_ok-symbols.ensures.stands (plain_form c.args.form.now) (plain_symbols c.in_ok-symbols.symbols) c.in_ok-symbols.symbols.stack (places_in c.in_ok-symbols.layout.places.items) c.in_ok-symbols.layout.defaults.items
    c.in_ok-symbols.ensures.stack c.requires.form c.in_ok-symbols.ensures.few (extends_itself c.lay_out.new.pool.trees) (frame_layout c.lay_out.new.pool.trees c.in_ok-symbols.layout) refl
    ∙ ap (λ (l : FrameLayout). trees_stacked_from (plain_symbols c.in_ok-symbols.symbols) l c.in_ok-symbols.symbols.stack 1 c.args.pool.now.trees (map plain_equation c.args.form.now.equations.items)) (same_layout c)

first_made : (c : goal.After-drop-symbols-2) → trees_at c.first_stack.new.pool.trees c.in_ok-init.init.items ≡ first_tree (plain_symbols c.in_ok-symbols.symbols) (frame_layout c.first_stack.new.pool.trees c.in_ok-symbols.layout) (trees_at c.args.pool.now.trees c.args.form.now.init.items) ∷ []
first_made c =
    c.in_ok-init.ensures.terms
    ∙ ap₂ (λ (l : FrameLayout) us. first_tree (plain_symbols c.in_ok-symbols.symbols) l us ∷ []) (sym (layout_along c.encode_equations.new.pool.trees c.first_stack.new.pool.trees c.in_ok-symbols.layout c.first_stack.ensures.kept (defaults_in c.args.sig.now c.lay_out.new.sig c.args.pool.now c.lay_out.new.pool c.encode_equations.new.pool.trees c.signature_stands.ensures c.in_ok-symbols.ensures.stands (plain_form c.args.form.now) (plain_symbols c.in_ok-symbols.symbols) c.in_ok-symbols.symbols.stack (places_in c.in_ok-symbols.layout.places.items) c.in_ok-symbols.layout.defaults.items
    c.in_ok-symbols.ensures.stack c.requires.form c.in_ok-symbols.ensures.few c.encode_equations.ensures.kept)))
    (ap (trees_at c.encode_equations.new.pool.trees) c.as_slice-2.ensures.value ∙ init_along c.args.sig.now c.lay_out.new.sig c.args.pool.now c.lay_out.new.pool c.encode_equations.new.pool.trees c.signature_stands.ensures c.in_ok-symbols.ensures.stands (plain_form c.args.form.now) (plain_symbols c.in_ok-symbols.symbols) c.in_ok-symbols.symbols.stack (places_in c.in_ok-symbols.layout.places.items) c.in_ok-symbols.layout.defaults.items
    c.in_ok-symbols.ensures.stack c.requires.form c.in_ok-symbols.ensures.few c.encode_equations.ensures.kept)

abbrev made : goal.After-drop-symbols-2 → PlainLinear
made c = record { params = c.in_ok-from_array.field-0.items; init = c.in_ok-init.init.items; summands = map plain_summand c.in_ok-summands.summands.items }

within : (c : goal.After-drop-symbols-2) → All (IsSummandIn c.first_stack.new.pool.trees) (map plain_summand c.in_ok-summands.summands.items)
within c = All-weaker (IsSummandIn c.encode_equations.new.pool.trees) (IsSummandIn c.first_stack.new.pool.trees) (summand_in_kept c.encode_equations.new.pool.trees c.first_stack.new.pool.trees c.first_stack.ensures.kept) (map plain_summand c.in_ok-summands.summands.items) c.in_ok-summands.ensures.within

first_last : (c : goal.After-drop-symbols-2) → trees_at c.first_stack.new.pool.trees c.in_ok-init.init.items ≡ first_tree (plain_symbols c.in_ok-symbols.symbols) (frame_layout c.first_stack.new.pool.trees c.in_ok-symbols.layout) (trees_at c.first_stack.new.pool.trees c.args.form.now.init.items) ∷ []
first_last c = first_made c ∙ ap (λ us. first_tree (plain_symbols c.in_ok-symbols.symbols) (frame_layout c.first_stack.new.pool.trees c.in_ok-symbols.layout) us ∷ []) (sym (init_along c.args.sig.now c.lay_out.new.sig c.args.pool.now c.lay_out.new.pool c.first_stack.new.pool.trees c.signature_stands.ensures c.in_ok-symbols.ensures.stands (plain_form c.args.form.now) (plain_symbols c.in_ok-symbols.symbols) c.in_ok-symbols.symbols.stack (places_in c.in_ok-symbols.layout.places.items) c.in_ok-symbols.layout.defaults.items
    c.in_ok-symbols.ensures.stack c.requires.form c.in_ok-symbols.ensures.few (kept c)))

last_trees : (c : goal.After-drop-symbols-2) → map (trees_of_summand c.first_stack.new.pool.trees) (map plain_summand c.in_ok-summands.summands.items) ≡ trees_stacked_from (plain_symbols c.in_ok-symbols.symbols) (frame_layout c.first_stack.new.pool.trees c.in_ok-symbols.layout) c.in_ok-symbols.symbols.stack 1 c.first_stack.new.pool.trees (map plain_equation c.args.form.now.equations.items)
last_trees c = made_trees c ∙ sym (trees_from_first c.args.sig.now c.lay_out.new.sig c.args.pool.now c.lay_out.new.pool c.first_stack.new.pool.trees c.signature_stands.ensures c.in_ok-symbols.ensures.stands (plain_form c.args.form.now) (plain_symbols c.in_ok-symbols.symbols) c.in_ok-symbols.symbols.stack (places_in c.in_ok-symbols.layout.places.items) c.in_ok-symbols.layout.defaults.items
    c.in_ok-symbols.ensures.stack c.requires.form c.in_ok-symbols.ensures.few (kept c) (frame_layout c.first_stack.new.pool.trees c.in_ok-symbols.layout) refl)

pub returns-clause-encoded : goal.returns-clause-encoded
returns-clause-encoded c = record {
  symbols = (plain_symbols c.in_ok-symbols.symbols);
  stack = c.in_ok-symbols.symbols.stack;
  places = places_in c.in_ok-symbols.layout.places.items;
  defaults = c.in_ok-symbols.layout.defaults.items;
  between = c.lay_out.new.pool;
  has = c.in_ok-symbols.ensures.stack;
  kept = kept c;
  constants = c.first_stack.ensures.constants ∙ c.encode_equations.ensures.constants;
  params = c.in_ok-from_array.ensures.items;
  init = first_made c;
  summands = made_trees c;
}

pub returns-clause-fits : goal.returns-clause-fits
returns-clause-fits c = it_fits c.args.sig.now c.lay_out.new.sig c.args.pool.now c.lay_out.new.pool c.first_stack.new.pool.trees c.signature_stands.ensures c.in_ok-symbols.ensures.stands (plain_form c.args.form.now) (plain_symbols c.in_ok-symbols.symbols) c.in_ok-symbols.symbols.stack (places_in c.in_ok-symbols.layout.places.items) c.in_ok-symbols.layout.defaults.items
    c.in_ok-symbols.ensures.stack c.requires.form c.in_ok-symbols.ensures.few (kept c) (made c) c.in_ok-from_array.ensures.items c.in_ok-init.ensures.within (first_last c) (within c) (last_trees c)

pub returns-clause-bisimilar : goal.returns-clause-bisimilar
returns-clause-bisimilar c = it_is_good c.args.sig.now c.lay_out.new.sig c.args.pool.now c.lay_out.new.pool c.first_stack.new.pool.trees c.signature_stands.ensures c.in_ok-symbols.ensures.stands (plain_form c.args.form.now) (plain_symbols c.in_ok-symbols.symbols) c.in_ok-symbols.symbols.stack (places_in c.in_ok-symbols.layout.places.items) c.in_ok-symbols.layout.defaults.items
    c.in_ok-symbols.ensures.stack c.requires.form c.in_ok-symbols.ensures.few (kept c) (made c) c.in_ok-from_array.ensures.items c.in_ok-init.ensures.within (first_last c) (within c) (last_trees c)

pub returns-clause-summands : goal.returns-clause-summands
returns-clause-summands c =
    sym (length-map (map plain_summand c.in_ok-summands.summands.items) (trees_of_summand c.first_stack.new.pool.trees)) ∙ ap length (made_trees c)
    ∙ stacked_long (plain_symbols c.in_ok-symbols.symbols) (frame_layout c.first_stack.new.pool.trees c.in_ok-symbols.layout) c.in_ok-symbols.symbols.stack 1 c.args.pool.now.trees (map plain_equation c.args.form.now.equations.items)

pub returns-clause-plain : goal.returns-clause-plain
returns-clause-plain c = it_is_plain c.args.sig.now c.lay_out.new.sig c.args.pool.now c.lay_out.new.pool c.first_stack.new.pool c.signature_stands.ensures c.in_ok-symbols.ensures.stands (plain_form c.args.form.now) (plain_symbols c.in_ok-symbols.symbols) c.in_ok-symbols.symbols.stack (places_in c.in_ok-symbols.layout.places.items) c.in_ok-symbols.layout.defaults.items
    c.in_ok-symbols.ensures.stack c.requires.form c.in_ok-symbols.ensures.few (kept c) (made c) c.in_ok-from_array.ensures.items c.in_ok-init.ensures.within (first_last c) (within c) (last_trees c)
