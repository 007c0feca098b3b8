use Rattle.std.proofs.Common.{◌≡◌, ◌<◌, ◌≤◌, ℕ, List, length, get_or, sym, ◌∙◌, arith}
use Rattle.std.specs.Prelude.{Option, None}
use Rattle.std.proofs.lemmas.List.{get_or_read, get_or_past}
use Rattle.data_typing.proofs.ScopeLemmas.{find_none, find_within, find_some}
use Rattle.data_typing.proofs.scope.Scope.find.Goals as goal

pub returns-then-name-len : goal.returns-then-name-len
returns-then-name-len c =
    let past : length c.self.inside.innermost.items ≤ c.args.name.0 = omega (arith, c.if-name-len.true, c.len.ensures, c.self.inside.innermost.ok.0) in
    find_none c.self.inside.entries.items c.self.inside.innermost.items c.self.invariant c.args.self.now c.self.view_is c.args.name (get_or_past c.self.inside.innermost.items c.args.name.0 None past)

known : (is : List (Option ℕ)) (n many : ℕ) (o : Option ℕ) → n < many → many ≡ length is → o ≡ get_or is n o → get_or is n None ≡ o
known is n many o l e at = let within : n < length is = omega (arith, l, e) in sym (get_or_read is n o within at None)

pub index-requires-in-Some : goal.index-requires-in-Some
index-requires-in-Some c =
    let less = find_within c.self.inside.entries.items c.self.inside.innermost.items c.self.invariant c.args.name.0 c.in-Some.place (known c.self.inside.innermost.items c.args.name.0 c.len.result c.index.result.now c.if-name-len.false (let same : c.len.result ≡ length c.self.inside.innermost.items = omega (arith, c.len.ensures, c.self.inside.innermost.ok.0) in same) c.index.ensures ∙ c.in-Some.is) in
    omega (arith, less, c.self.inside.entries.ok.0)

pub returns-in-Some : goal.returns-in-Some
returns-in-Some c = find_some c.self.inside.entries.items c.self.inside.innermost.items c.self.invariant c.args.self.now c.self.view_is c.args.name c.in-Some.place (known c.self.inside.innermost.items c.args.name.0 c.len.result c.index.result.now c.if-name-len.false (let same : c.len.result ≡ length c.self.inside.innermost.items = omega (arith, c.len.ensures, c.self.inside.innermost.ok.0) in same) c.index.ensures ∙ c.in-Some.is) c.index-in-Some.result.now c.index-in-Some.ensures

pub returns-in-None : goal.returns-in-None
returns-in-None c = find_none c.self.inside.entries.items c.self.inside.innermost.items c.self.invariant c.args.self.now c.self.view_is c.args.name (known c.self.inside.innermost.items c.args.name.0 c.len.result c.index.result.now c.if-name-len.false (let same : c.len.result ≡ length c.self.inside.innermost.items = omega (arith, c.len.ensures, c.self.inside.innermost.ok.0) in same) c.index.ensures ∙ c.in-None.is)
