-- The table of words.
use Rattle.std.proofs.Common.{◌≡◌, Bool, true, false, cond, refl, sym, subst, ap, ◌∙◌}
use Rattle.std.specs.Prelude.{Option, Some, None, IfSome, option_map, bytes_eq}
use Rattle.std.proofs.lemmas.Slice.Eq.{bytes_eq-Decides}
use Rattle.sort_table.specs.Expressions.{Name}
use Rattle.data_typing.specs.declared.nodes.WordFunctions.{WordFunctions}
use Rattle.data_typing.specs.declared.word_table.WordContext.{WordContext}
use Rattle.data_typing.specs.declared.word_table.WordTable.{WordTable}
use Rattle.data_typing.specs.WordTables.{functions_under, AreFunctionsOf, HasFunctions}

pub mapped_if : {A B : Type 0} (f : A → B) (b : Bool) (x : A) (y : B) → f x ≡ y → (o : Option A) → option_map f (cond b (Some x) o) ≡ cond b (Some y) (option_map f o)
mapped_if f true x y e o = ap Some e
mapped_if f false x y e o = refl

-- what is found is right
pub found_functions : (c : WordContext) (t : WordTable) → HasFunctions c t → (x : Name) (o : Option WordFunctions) → o ≡ functions_under t x → (fs : WordFunctions) → o ≡ Some fs → AreFunctionsOf c x fs
found_functions c t has x o e fs q = subst (λ p. IfSome p (AreFunctionsOf c x)) (sym e ∙ q) (has x)

-- no words
pub no_functions : (c : WordContext) (t : WordTable) → ((x : Name) → functions_under t x ≡ None) → HasFunctions c t
no_functions c t none x = subst (λ p. IfSome p (AreFunctionsOf c x)) (sym (none x)) tt

-- one more word
pub entered_functions : (c : WordContext) (old new : WordTable) (x : Name) (fs : WordFunctions) → ((y : Name) → functions_under new y ≡ cond (bytes_eq x y) (Some fs) (functions_under old y))
    → HasFunctions c old → AreFunctionsOf c x fs → HasFunctions c new
entered_functions c old new x fs entered has are y = subst (λ p. IfSome p (AreFunctionsOf c y)) (sym (entered y)) (by_test (bytes_eq x y) refl)
  where
    by_test : (b : Bool) → bytes_eq x y ≡ b → IfSome (cond b (Some fs) (functions_under old y)) (AreFunctionsOf c y)
    by_test true e = subst (λ z. AreFunctionsOf c z fs) ((bytes_eq-Decides x y).0 e) are
    by_test false e = has y
