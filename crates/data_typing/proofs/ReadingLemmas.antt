-- Nodes that stand for expressions.
use Rattle.std.proofs.Common.{◌≡◌, ◌<◌, ◌≤◌, ◌+◌, ◌==◌, ℕ, zero, suc, Bool, true, false, List, [], ◌∷◌, ◌++◌, length, map, take, drop, get_or, refl, sym, subst, ap, ◌∙◌, arith, eqb-true, length-append, append-nil}
use Rattle.std.specs.Prelude.{Vec, Result, IfOk}
use Rattle.std.proofs.lemmas.Result.{IfOk-weaker}
use Rattle.std.specs.Global.{Global}
use Rattle.std.proofs.lemmas.List.{append_assoc, drop_more, drop_all, take_more}
use denote.Param.Weighed.{most}
use Rattle.data_theory.specs.declared.ids.FunId.{FunId}
use Rattle.data_theory.specs.Terms.{Symbol}
use Rattle.mcrl2_syntax.specs.declared.data_tree.InfixSign.{InfixSign}
use Rattle.mcrl2_syntax.specs.declared.data_tree.DataTree.{DataTree}
use Rattle.mcrl2_syntax.specs.DataTrees.{PlainOperands, datas_of, operands_of, plain_data, plain_operands}
use Rattle.sort_table.specs.Expressions.{Name, Expression, numeral, word, more, two}
use Rattle.sort_table.specs.Expressions as expressions
use Rattle.sort_table.specs.BareData.{bare_data, bare_datas, infix_text, to_the_left, to_the_right, behind}
use Rattle.data_typing.specs.declared.nodes.Kind.{Kind}
use Rattle.data_typing.specs.declared.nodes.Kind.TheVariants as kinds
use Rattle.data_typing.specs.declared.nodes.Node.{Node}
use Rattle.data_typing.specs.Typings.{Typing, Meaning, untyped, word_typing, typing, typings}
use Rattle.data_typing.specs.Nodes.{values_at, values_behind, AreBelow, AreNodes}
use Rattle.data_typing.specs.NodeTypings.{kind_typing, node_typings, typing_at, Stands, EachStands, GoOn}
use Rattle.data_typing.specs.CodeWords.{is_empty_list}
use Rattle.data_typing.specs.Readings.{bare_trees, expressions_of, joined, IsReadable, AreReadable, AreReadableOperands}
use Rattle.data_typing.proofs.NodeLemmas.{front_kept, one_behind, pushed_last}

-- ---- what a loop takes is no deeper than the deepest
pub most_at : {X : Type 0} (f : X → ℕ) (xs : List X) (i : ℕ) (x : X) → i < length xs → x ≡ get_or xs i x → f x ≤ most f xs
most_at f [] i x h is = let never : ⊥ = omega arith in absurd never
most_at f (y ∷ xs) zero x h is = let same : f x ≡ f y = ap f is in omega (arith, same)
most_at f (y ∷ xs) (suc i) x h is = let rest : f x ≤ most f xs = most_at f xs i x (omega arith) is in omega (arith, rest)

-- ---- values of more nodes
module _ {A : Type 0} (z : A) (f : Kind → List A → A) where
  all_behind : (xs : List A) (ns ms : List Node) → values_behind z f xs (ns ++ ms) ≡ values_behind z f (values_behind z f xs ns) ms
  all_behind xs [] ms = refl
  all_behind xs (n ∷ ns) ms = all_behind (xs ++ f n.kind (values_at z xs n.arguments.items) ∷ []) ns ms

  as_many : (xs : List A) (ns : List Node) → length (values_behind z f xs ns) ≡ length xs + length ns
  as_many xs [] = let same : length xs ≡ length xs + 0 = omega arith in same
  as_many xs (n ∷ ns) =
      let long = length-append xs (f n.kind (values_at z xs n.arguments.items) ∷ []) in
      let rest : length (values_behind z f (xs ++ f n.kind (values_at z xs n.arguments.items) ∷ []) ns) ≡ length (xs ++ f n.kind (values_at z xs n.arguments.items) ∷ []) + length ns = as_many (xs ++ f n.kind (values_at z xs n.arguments.items) ∷ []) ns in
      rest ∙ (let same : length (xs ++ f n.kind (values_at z xs n.arguments.items) ∷ []) + length ns ≡ length xs + suc (length ns) = omega (arith, long) in same)

-- ---- what stands goes on
pub goes_on : (a b c : List Node) → GoOn a b → GoOn b c → GoOn a c
goes_on a b c g h = record { nodes = h.nodes; behind = g.behind ++ h.behind; are = h.are ∙ ap (λ ns. ns ++ h.behind) g.are ∙ append_assoc a g.behind h.behind }

pub not_on : (a : List Node) → AreNodes a → GoOn a a
not_on a are = record { nodes = are; behind = []; are = sym (append-nil a) }

pub one_on : (a b : List Node) (n : Node) → AreNodes b → b ≡ a ++ n ∷ [] → GoOn a b
one_on a b n are e = record { nodes = are; behind = n ∷ []; are = e }

pub no_fewer : (a b : List Node) → GoOn a b → (k : ℕ) → k < length a → k < length b
no_fewer a b g k h = let long = length-append a g.behind in let same : length b ≡ length (a ++ g.behind) = ap length g.are in omega (arith, h, long, same)

pub below_on : (a b : List Node) → GoOn a b → (ks : List ℕ) → AreBelow (length a) ks → AreBelow (length b) ks
below_on a b g [] all = tt
below_on a b g (k ∷ ks) all = (no_fewer a b g k all.0, below_on a b g ks all.1)

typing_kept : (y : FunId → Symbol) (a b : List Node) → GoOn a b → (k : ℕ) → k < length a → typing_at (node_typings y b) k ≡ typing_at (node_typings y a) k
unfolding node_typings
typing_kept y a b g k h =
    let many : length (values_behind untyped (kind_typing y) [] a) ≡ length a = as_many untyped (kind_typing y) [] a ∙ (let z : 0 + length a ≡ length a = omega arith in z) in
    ap (λ ns. typing_at (values_behind untyped (kind_typing y) [] ns) k) g.are ∙ ap (λ ts. typing_at ts k) (all_behind untyped (kind_typing y) [] a g.behind)
    ∙ front_kept untyped (kind_typing y) (values_behind untyped (kind_typing y) [] a) g.behind k (omega (arith, h, many))

pub stands_on : (y : FunId → Symbol) (m : Name → Meaning) (a b : List Node) → GoOn a b → (k : ℕ) (e : Expression) → Stands y m a k e → Stands y m b k e
stands_on y m a b g k e s = (no_fewer a b g k s.0, typing_kept y a b g k s.0 ∙ s.1)

pub each_on : (y : FunId → Symbol) (m : Name → Meaning) (a b : List Node) → GoOn a b → (ks : List ℕ) (es : List Expression) → EachStands y m a ks es → EachStands y m b ks es
each_on y m a b g [] [] s = tt
each_on y m a b g (k ∷ ks) (e ∷ es) s = (stands_on y m a b g k e s.0, each_on y m a b g ks es s.1)
each_on y m a b g [] (e ∷ es) s = absurd s
each_on y m a b g (k ∷ ks) [] s = absurd s

pub each_more : (y : FunId → Symbol) (m : Name → Meaning) (a : List Node) (ks : List ℕ) (es : List Expression) → EachStands y m a ks es → (k : ℕ) (e : Expression) → Stands y m a k e → EachStands y m a (ks ++ k ∷ []) (es ++ e ∷ [])
each_more y m a [] [] s k e t = (t, tt)
each_more y m a (j ∷ ks) (d ∷ es) s k e t = (s.0, each_more y m a ks es s.1 k e t)
each_more y m a [] (d ∷ es) s k e t = absurd s
each_more y m a (j ∷ ks) [] s k e t = absurd s

pub each_below : (y : FunId → Symbol) (m : Name → Meaning) (a : List Node) (ks : List ℕ) (es : List Expression) → EachStands y m a ks es → AreBelow (length a) ks
each_below y m a [] [] s = tt
each_below y m a (k ∷ ks) (e ∷ es) s = (s.0.0, each_below y m a ks es s.1)
each_below y m a [] (e ∷ es) s = absurd s
each_below y m a (k ∷ ks) [] s = absurd s

-- ---- a node behind the others
each_typing : (y : FunId → Symbol) (m : Name → Meaning) (a : List Node) (ks : List ℕ) (es : List Expression) → EachStands y m a ks es → values_at untyped (node_typings y a) ks ≡ typings m (expressions_of es)
each_typing y m a [] [] s = refl
each_typing y m a (k ∷ ks) (e ∷ es) s = ap (λ t. t ∷ values_at untyped (node_typings y a) ks) s.0.1 ∙ ap (λ ts. typing m e ∷ ts) (each_typing y m a ks es s.1)
each_typing y m a [] (e ∷ es) s = absurd s
each_typing y m a (k ∷ ks) [] s = absurd s

last_typing : (y : FunId → Symbol) (a b : List Node) (n : Node) → b ≡ a ++ n ∷ [] → typing_at (node_typings y b) (length a) ≡ kind_typing y n.kind (values_at untyped (node_typings y a) n.arguments.items)
unfolding node_typings
last_typing y a b n e =
    let ts : List Typing = values_behind untyped (kind_typing y) [] a in
    let many : length ts ≡ length a = as_many untyped (kind_typing y) [] a ∙ (let z : 0 + length a ≡ length a = omega arith in z) in
    ap (λ ns. typing_at (values_behind untyped (kind_typing y) [] ns) (length a)) e ∙ ap (λ l. typing_at l (length a)) (one_behind untyped (kind_typing y) [] a n)
    ∙ ap (typing_at (ts ++ kind_typing y n.kind (values_at untyped ts n.arguments.items) ∷ [])) (sym many) ∙ pushed_last untyped (kind_typing y) ts (kind_typing y n.kind (values_at untyped ts n.arguments.items))

no_zero : (n : ℕ) → (suc n == 0) ≡ false
no_zero n = by_test (suc n == 0) refl
  where
    by_test : (b : Bool) → (suc n == 0) ≡ b → (suc n == 0) ≡ false
    by_test false e = e
    by_test true e = let same : suc n ≡ 0 = eqb-true (suc n) 0 e in let never : ⊥ = omega (arith, same) in absurd never

alone_is : (y : FunId → Symbol) (m : Name → Meaning) (a : List Node) (ks : List ℕ) (es : List Expression) → EachStands y m a ks es → (length ks == 0) ≡ is_empty_list (typings m (expressions_of es))
alone_is y m a [] [] s = refl
alone_is y m a (k ∷ ks) (e ∷ es) s = no_zero (length ks)
alone_is y m a [] (e ∷ es) s = absurd s
alone_is y m a (k ∷ ks) [] s = absurd s

-- a node stands for an expression, where its kind has the expression's typing over those of its parts
pub node_stands : (y : FunId → Symbol) (m : Name → Meaning) (a b : List Node) (n : Node) (at : ℕ) → at ≡ length a → b ≡ a ++ n ∷ [] → (es : List Expression) → EachStands y m a n.arguments.items es
    → (e : Expression) → kind_typing y n.kind (typings m (expressions_of es)) ≡ typing m e → Stands y m b at e
node_stands y m a b n at here is es s e k =
    let long = length-append a (n ∷ []) in
    let same : length b ≡ length (a ++ n ∷ []) = ap length is in (
      omega (arith, here, long, same),
      ap (typing_at (node_typings y b)) here ∙ last_typing y a b n is ∙ ap (kind_typing y n.kind) (each_typing y m a n.arguments.items es s) ∙ k,
    )

pub word_stands : (y : FunId → Symbol) (m : Name → Meaning) (a b : List Node) (n : Node) (at : ℕ) → at ≡ length a → b ≡ a ++ n ∷ [] → (t : Name) (alone : Bool) → alone ≡ (length n.arguments.items == 0)
    → ((ts : List Typing) → alone ≡ is_empty_list ts → kind_typing y n.kind ts ≡ word_typing (m t) ts)
    → (es : List Expression) → EachStands y m a n.arguments.items es → Stands y m b at (word t (expressions_of es))
word_stands y m a b n at here is t alone q k es s =
    node_stands y m a b n at here is es s (word t (expressions_of es)) (k (typings m (expressions_of es)) (q ∙ alone_is y m a n.arguments.items es s))

-- ---- lists of trees
pub datas_are : (ts : List DataTree) → bare_datas (datas_of (map plain_data ts)) ≡ expressions_of (bare_trees ts)
datas_are [] = refl
datas_are (t ∷ ts) = λ i. more (bare_data (plain_data t)) (datas_are ts i)

pub joined_are : (f : Name) (ts : List DataTree) → to_the_right f (datas_of (map plain_data ts)) ≡ joined f (bare_trees ts)
joined_are f [] = refl
joined_are f (t ∷ ts) = behind_are t ts
  where
    behind_are : (u : DataTree) (us : List DataTree) → behind f (bare_data (plain_data u)) (datas_of (map plain_data us)) ≡ joined f (bare_trees (u ∷ us))
    behind_are u [] = refl
    behind_are u (v ∷ us) = ap (two f (bare_data (plain_data u))) (behind_are v us)

pub readable_at : (ts : List DataTree) (i : ℕ) (t : DataTree) → AreReadable (datas_of (map plain_data ts)) → i < length ts → t ≡ get_or ts i t → IsReadable (plain_data t)
readable_at [] i t all h is = let never : ⊥ = omega arith in absurd never
readable_at (x ∷ ts) zero t all h is = subst (λ (u : DataTree). IsReadable (plain_data u)) (sym is) all.0
readable_at (x ∷ ts) (suc i) t all h is = readable_at ts i t all.1 (omega arith) is

-- ---- words between expressions
joined_step : (f : Name) (es : List Expression) (i : ℕ) (d : Expression) → i + 1 < length es → joined f (drop i es) ≡ two f (get_or es i d) (joined f (drop (i + 1) es))
joined_step f es i d h =
    let less : i < length es = omega (arith, h) in
    let one : drop i es ≡ get_or es i d ∷ drop (i + 1) es = drop_more es i d less in
    let next : drop (i + 1) es ≡ get_or es (i + 1) d ∷ drop (i + 1 + 1) es = drop_more es (i + 1) d h in
    ap (joined f) (one ∙ ap (λ l. get_or es i d ∷ l) next) ∙ ap (λ l. two f (get_or es i d) (joined f l)) (sym next)

as_long : (y : FunId → Symbol) (m : Name → Meaning) (a : List Node) (ks : List ℕ) (es : List Expression) → EachStands y m a ks es → length ks ≡ length es
as_long y m a [] [] s = refl
as_long y m a (k ∷ ks) (e ∷ es) s = ap suc (as_long y m a ks es s.1)
as_long y m a [] (e ∷ es) s = absurd s
as_long y m a (k ∷ ks) [] s = absurd s

each_at : (y : FunId → Symbol) (m : Name → Meaning) (a : List Node) (ks : List ℕ) (es : List Expression) → EachStands y m a ks es → (i : ℕ) (d : Expression) → i < length ks → Stands y m a (get_or ks i 0) (get_or es i d)
each_at y m a [] [] s i d h = let never : ⊥ = omega arith in absurd never
each_at y m a (k ∷ ks) (e ∷ es) s zero d h = s.0
each_at y m a (k ∷ ks) (e ∷ es) s (suc i) d h = each_at y m a ks es s.1 i d (omega arith)
each_at y m a [] (e ∷ es) s i d h = absurd s
each_at y m a (k ∷ ks) [] s i d h = absurd s

-- the last operand stands for what is joined from it on
pub join_begins : (y : FunId → Symbol) (m : Name → Meaning) (f : Name) (a : List Node) (ks : List ℕ) (es : List Expression) → EachStands y m a ks es → (last n : ℕ) → n ≡ last → last + 1 ≡ length ks → Stands y m a (get_or ks last 0) (joined f (drop n es))
join_begins y m f a ks es s last n z e =
    let d : Expression = word f expressions.none in
    let long : length ks ≡ length es = as_long y m a ks es s in
    let less : last < length es = omega (arith, e, long) in
    let all : length es ≤ last + 1 = omega (arith, e, long) in
    subst (Stands y m a (get_or ks last 0)) (sym (ap (λ k. joined f (drop k es)) z ∙ ap (joined f) (drop_more es last d less ∙ ap (λ l. get_or es last d ∷ l) (drop_all (last + 1) es all)))) (each_at y m a ks es s last d (omega (arith, e)))

-- one more word, in front of what is joined already
pub join_goes_on : (y : FunId → Symbol) (m : Name → Meaning) (f : Name) (a b c : List Node) (ks : List ℕ) (es : List Expression) → EachStands y m a ks es → GoOn a b → (i j n at new : ℕ) → n ≡ i → j ≡ i + 1 → j < length ks
    → Stands y m b at (joined f (drop j es)) → (ps : List ℕ) → ps ≡ get_or ks i 0 ∷ at ∷ []
    → ((ds : List Expression) → EachStands y m b ps ds → Stands y m c new (word f (expressions_of ds))) → Stands y m c new (joined f (drop n es))
join_goes_on y m f a b c ks es s g i j n at new z q h t ps e k =
    let d : Expression = word f expressions.none in
    let long : length ks ≡ length es = as_long y m a ks es s in
    let there : Stands y m b at (joined f (drop (i + 1) es)) = subst (λ n. Stands y m b at (joined f (drop n es))) q t in
    let both : EachStands y m b (get_or ks i 0 ∷ at ∷ []) (get_or es i d ∷ joined f (drop (i + 1) es) ∷ []) =
    (stands_on y m a b g (get_or ks i 0) (get_or es i d) (each_at y m a ks es s i d (omega (arith, h, q))), (there, tt)) in
    subst (Stands y m c new) (sym (ap (λ l. joined f (drop l es)) z ∙ joined_step f es i d (omega (arith, h, q, long))))
    (k (get_or es i d ∷ joined f (drop (i + 1) es) ∷ []) (subst (λ l. EachStands y m b l (get_or es i d ∷ joined f (drop (i + 1) es) ∷ [])) (sym e) both))

pub numeral_stands : (y : FunId → Symbol) (m : Name → Meaning) (a b : List Node) (value n : ℕ) → value ≡ n → (cap : Vec ℕ Global) → cap.items ≡ [] → (at : ℕ) → at ≡ length a
    → b ≡ a ++ record { kind = kinds.Numeral value; arguments = cap } ∷ [] → Stands y m b at (numeral n)
numeral_stands y m a b value n same cap none at here is =
    node_stands y m a b (record { kind = kinds.Numeral value; arguments = cap }) at here is [] (subst (λ ks. EachStands y m a ks []) (sym none) tt) (numeral n)
    (ap (λ k. typing m (numeral k)) same)

-- ---- what is read
pub read_by : {E : Type 0} (y : FunId → Symbol) (m : Name → Meaning) (a b : List Node) (ks : List ℕ) (es : List Expression) → EachStands y m a ks es → (F : List Expression → Expression) → (r : Result ℕ E)
    → IfOk r (λ at. (ds : List Expression) → EachStands y m a ks ds → Stands y m b at (F ds)) → (e : Expression) → F es ≡ e → IfOk r (λ at. Stands y m b at e)
read_by y m a b ks es s F r h e q = IfOk-weaker r (λ at. (ds : List Expression) → EachStands y m a ks ds → Stands y m b at (F ds)) (λ at. Stands y m b at e) (λ at k. subst (Stands y m b at) q (k es s)) h

pub no_parts : (y : FunId → Symbol) (m : Name → Meaning) (a : List Node) (ks : List ℕ) → ks ≡ [] → EachStands y m a ks []
no_parts y m a ks e = subst (λ l. EachStands y m a l []) (sym e) tt

pub join_of_none : {E : Type 0} (y : FunId → Symbol) (m : Name → Meaning) (f : Name) (a b : List Node) (ks : List ℕ) → ks ≡ [] → (r : Result ℕ E) → IfOk r (λ at. Stands y m b at (word f expressions.none))
    → IfOk r (λ at. (es : List Expression) → EachStands y m a ks es → Stands y m b at (joined f es))
join_of_none y m f a b ks e r h =
    IfOk-weaker r (λ at. Stands y m b at (word f expressions.none)) (λ at. (es : List Expression) → EachStands y m a ks es → Stands y m b at (joined f es)) (λ at k es s. by_parts at es (subst (λ l. EachStands y m a l es) e s) k) h
  where
    by_parts : (at : ℕ) (es : List Expression) → EachStands y m a [] es → Stands y m b at (word f expressions.none) → Stands y m b at (joined f es)
    by_parts at [] s t = t
    by_parts at (d ∷ es) s t = absurd s

pub none_there : (ks : List ℕ) (b : Bool) → b ≡ (length ks == 0) → b ≡ true → ks ≡ []
none_there [] b e q = refl
none_there (k ∷ ks) b e q = let never : true ≡ false = sym q ∙ e ∙ no_zero (length ks) in cc

pub some_there : (ks : List ℕ) (b : Bool) → b ≡ (length ks == 0) → b ≡ false → 1 ≤ length ks
some_there [] b e q = let never : false ≡ true = sym q ∙ e in cc
some_there (k ∷ ks) b e q = omega arith

trees_more : (ts : List DataTree) (i : ℕ) (t : DataTree) → i < length ts → t ≡ get_or ts i t → bare_trees (take (i + 1) ts) ≡ bare_trees (take i ts) ++ bare_data (plain_data t) ∷ []
trees_more ts i t l is = ap bare_trees (take_more ts i t l) ∙ bare_behind (take i ts) (get_or ts i t) ∙ ap (λ (u : DataTree). bare_trees (take i ts) ++ bare_data (plain_data u) ∷ []) (sym is)
  where
    bare_behind : (us : List DataTree) (u : DataTree) → bare_trees (us ++ u ∷ []) ≡ bare_trees us ++ bare_data (plain_data u) ∷ []
    bare_behind [] u = refl
    bare_behind (x ∷ us) u = ap (λ es. bare_data (plain_data x) ∷ es) (bare_behind us u)

pub all_more : (y : FunId → Symbol) (m : Name → Meaning) (a b : List Node) → GoOn a b → (ks new : List ℕ) (ts : List DataTree) (i : ℕ) (t : DataTree) (at : ℕ) → i < length ts → t ≡ get_or ts i t
    → EachStands y m a ks (bare_trees (take i ts)) → Stands y m b at (bare_data (plain_data t)) → new ≡ ks ++ at ∷ [] → EachStands y m b new (bare_trees (take (i + 1) ts))
all_more y m a b g ks new ts i t at l is s h e =
    subst (λ js. EachStands y m b js (bare_trees (take (i + 1) ts))) (sym e)
    (subst (EachStands y m b (ks ++ at ∷ [])) (sym (trees_more ts i t l is)) (each_more y m b ks (bare_trees (take i ts)) (each_on y m a b g ks (bare_trees (take i ts)) s) at (bare_data (plain_data t)) h))

-- ---- operands behind signs
abbrev pub rest_of : List (InfixSign × DataTree) → PlainOperands
rest_of os = operands_of (plain_operands os)

pub operand_at : (os : List (InfixSign × DataTree)) (i : ℕ) (o : InfixSign × DataTree) → AreReadableOperands (rest_of os) → i < length os → o ≡ get_or os i o → IsReadable (plain_data o.1)
operand_at [] i o all h is = let never : ⊥ = omega arith in absurd never
operand_at (x ∷ os) zero o all h is = subst (λ (u : InfixSign × DataTree). IsReadable (plain_data u.1)) (sym is) all.0
operand_at (x ∷ os) (suc i) o all h is = operand_at os i o all.1 (omega arith) is

abbrev pub IsChained : (FunId → Symbol) → (Name → Meaning) → List Node → ℕ → Expression → List (InfixSign × DataTree) → ℕ → Type 0
IsChained y m a at e os i = (d : Expression) × Stands y m a at d × (to_the_left e (rest_of os) ≡ to_the_left d (rest_of (drop i os)))

pub chain_more : (y : FunId → Symbol) (m : Name → Meaning) (a b c : List Node) → GoOn a b → (at right new : ℕ) (os : List (InfixSign × DataTree)) (i : ℕ) (o : InfixSign × DataTree) → i < length os → o ≡ get_or os i o
    → (e : Expression) → IsChained y m a at e os i → Stands y m b right (bare_data (plain_data o.1)) → (ps : List ℕ) → ps ≡ at ∷ right ∷ [] → (t : Name) → t ≡ infix_text o.0
    → ((ds : List Expression) → EachStands y m b ps ds → Stands y m c new (word t (expressions_of ds))) → IsChained y m c new e os (i + 1)
chain_more y m a b c g at right new os i o l is e (d, s, q) r ps p t z k =
    let both : List Expression = d ∷ bare_data (plain_data o.1) ∷ [] in
    let made : Stands y m c new (word t (expressions_of both)) = k both (subst (λ js. EachStands y m b js both) (sym p) (stands_on y m a b g at d s, (r, tt))) in (
      two (infix_text o.0) d (bare_data (plain_data o.1)),
      subst (λ n. Stands y m c new (two n d (bare_data (plain_data o.1)))) z made,
      q ∙ ap (λ us. to_the_left d (rest_of us)) (drop_more os i o l) ∙ ap (λ (u : InfixSign × DataTree). to_the_left d (rest_of (u ∷ drop (i + 1) os))) (sym is),
    )
