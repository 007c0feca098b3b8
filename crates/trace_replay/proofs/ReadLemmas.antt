-- Reading a trace line by line.
use Rattle.std.specs.Prelude.{◌≡◌, ◌++◌, ◌+◌, ℕ, suc, List, [], ◌∷◌, map, length, Option, Some, None, option_map, Result, Ok, Err, IsErrAnd, IfErr}
use Rattle.std.proofs.Common.{sym, subst, ◌∙◌, inl, inr, append_assoc, append-nil, add-one}
use Rattle.std.proofs.lemmas.List.{map-append, nil_from_length}
use Rattle.data_theory.specs.Signature.{Sig}
use Rattle.data_theory.specs.IdTrees.{Tree}
use Rattle.process_terms.specs.Labels.{Label}
use Rattle.process_terms.specs.PlainProcesses.{PlainAction}
use Rattle.process_terms.specs.SignatureEntries.{entries_of}
use Rattle.process_terms.proofs.EntryLemmas.{pools_add_entries}
use Rattle.process_terms.proofs.MeaningLemmas.{labels_are_settled}
use Rattle.term_pool.specs.Pools.{PoolContents, Extends}
use Rattle.mcrl2_syntax.specs.ProcessParts.{PlainLabel}
use Rattle.mcrl2_parser.specs.LabelLines.{IsLabelLine}
use Rattle.sort_checker.specs.TypedLabels.{IsTypedLabel, IsLabelOf}
use Rattle.trace_replay.specs.declared.reading.Line.{Line}
use Rattle.trace_replay.specs.declared.replaying.ReplayFault.{ReplayFault}
use Rattle.trace_replay.specs.declared.replaying.ReplayFault.TheVariants.{BadTrace, NoMemory}
use Rattle.trace_replay.specs.BlankLines.{IsBlank}
use Rattle.trace_replay.specs.Lines.{lines_of}
use Rattle.trace_replay.specs.Replays.{Entry}
use Rattle.trace_replay.specs.Traces.{SpellsLabel, IsGoodLine, HaveLabels, no_more_lines, blank_line, label_line, IsFirstBad, this_line, later_line}
use Rattle.trace_replay.specs.ReadingFaults.{IsLineFault, IsTraceFault}
use Rattle.trace_replay.specs.ReadTraces.{PlainLine, plain_line, IsReadLabel, IsReadLine, AreEntries, no_entries, entry_then, IsReadTrace}

-- ---- labels stay
pub read_label_on : (g : Sig) (ts us : List Tree) (line : List ℕ) (xs : List PlainAction) → Extends ts us → IsReadLabel g ts line xs → IsReadLabel g us line xs
read_label_on g ts us line xs more r =
    let settled = labels_are_settled (entries_of g ts) (entries_of g us) (pools_add_entries g ts us more) xs r.there in
    record { label = r.label; spells = r.spells; closed = r.closed; there = settled.1; means = settled.0 ∙ r.means }

-- ---- as far as it has come
-- from the lines `all` these were read, and the lines from number k on are left
pub data ReadsTo (g : Sig) (ts : List Tree) (all : List (List ℕ)) : ℕ → List (List ℕ) → List PlainLine → Type 0 where
  nothing_read : ReadsTo g ts all 1 all []
  blank_read : {k : ℕ} {line : List ℕ} {lines : List (List ℕ)} {xs : List PlainLine} → IsBlank line → ReadsTo g ts all k (line ∷ lines) xs → ReadsTo g ts all (suc k) lines xs
  label_read : {k : ℕ} {line : List ℕ} {lines : List (List ℕ)} {xs : List PlainLine} {x : PlainLine} → x.number ≡ k → IsReadLabel g ts line x.label → ReadsTo g ts all k (line ∷ lines) xs
      → ReadsTo g ts all (suc k) lines (xs ++ x ∷ [])

pub reads_on : {g : Sig} {ts us : List Tree} {all : List (List ℕ)} {k : ℕ} {lines : List (List ℕ)} {xs : List PlainLine} → Extends ts us → ReadsTo g ts all k lines xs → ReadsTo g us all k lines xs
reads_on more nothing_read = nothing_read
reads_on more (blank_read b r) = blank_read b (reads_on more r)
reads_on {g} {ts} {us} more (label_read {line = line} {x = x} e i r) = label_read e (read_label_on g ts us line x.label more i) (reads_on more r)

-- the lines with one that was found
abbrev pub with_found : List PlainLine → Option PlainLine → List PlainLine
with_found xs None = xs
with_found xs (Some x) = xs ++ x ∷ []

-- one line more
pub line_read : {g : Sig} {ts : List Tree} {all : List (List ℕ)} {k : ℕ} {line : List ℕ} {lines : List (List ℕ)} {xs : List PlainLine} (found : Option PlainLine) → IsReadLine g ts k line found
    → ReadsTo g ts all k (line ∷ lines) xs → ReadsTo g ts all (suc k) lines (with_found xs found)
line_read None b r = blank_read b r
line_read (Some x) i r = label_read i.0 i.1 r

-- ---- at the end
-- the lines that were read have labels, and then those that are left
pub record HasAll (g : Sig) (ts : List Tree) (all : List (List ℕ)) (xs : List PlainLine) : Type 0 where
  pub entries : List Entry
  pub have : HaveLabels g 1 all entries
  pub are : AreEntries g ts xs entries

pub all_read : {g : Sig} {ts : List Tree} {all : List (List ℕ)} {k : ℕ} {lines : List (List ℕ)} {xs zs : List PlainLine} {es : List Entry} → ReadsTo g ts all k lines xs → HaveLabels g k lines es
    → AreEntries g ts zs es → HasAll g ts all (xs ++ zs)
all_read {es = es} nothing_read have are = record { entries = es; have = have; are = are }
all_read (blank_read b r) have are = all_read r (blank_line b have) are
all_read {g} {ts} {all} {zs = zs} {es = es} (label_read {k = k} {xs = xs} {x = x} e i r) have are =
    subst (HasAll g ts all) (sym (append_assoc xs (x ∷ []) zs))
    (all_read r (label_line i.spells have) (entry_then (record { number = e; closed = i.closed; there = i.there; means = i.means }) are))

pub whole_trace : {g : Sig} {ts : List Tree} {text : List ℕ} {k : ℕ} {xs : List PlainLine} → ReadsTo g ts (lines_of text) k [] xs → IsReadTrace g ts text xs
whole_trace {g} {ts} {text} {k} {xs} r =
    let h : HasAll g ts (lines_of text) (xs ++ []) = all_read r no_more_lines no_entries in
    let all : HasAll g ts (lines_of text) xs = subst (HasAll g ts (lines_of text)) (append-nil xs) h in record { entries = all.entries; is_trace = all.have; are = all.are }

-- ---- a bad line
read_is_good : {g : Sig} {ts : List Tree} {line : List ℕ} {xs : List PlainAction} → IsReadLabel g ts line xs → IsGoodLine g line
read_is_good r = inr (r.label, r.spells)

pub bad_further : {g : Sig} {ts : List Tree} {all : List (List ℕ)} {k n : ℕ} {lines : List (List ℕ)} {xs : List PlainLine} → ReadsTo g ts all k lines xs → IsFirstBad g k lines n → IsFirstBad g 1 all n
bad_further nothing_read bad = bad
bad_further (blank_read b r) bad = bad_further r (later_line (inl b) bad)
bad_further (label_read e i r) bad = bad_further r (later_line (read_is_good i) bad)

-- ---- one line in code
-- a label that was found
pub label_found : (g : Sig) (p : PoolContents) (line : List ℕ) (tree : PlainLabel) (xs : List PlainAction) → IsLabelLine line tree → IsLabelOf g p tree xs → IsReadLabel g p.trees line xs
label_found g p line tree xs spelled r = record { label = r.label; spells = record { tree = tree; spelled = spelled; typed = r.typed }; closed = r.closed; there = r.there; means = r.means }

-- a line that is no label spells none
pub unread_spells_none : (g : Sig) (line : List ℕ) → ((l : PlainLabel) → IsLabelLine line l → ⊥) → (m : Label) → ¬ (SpellsLabel g line m)
unread_spells_none g line none m s = none s.tree s.spelled

pub untyped_spells_none : (g : Sig) (line : List ℕ) (tree : PlainLabel) → ((l : PlainLabel) → IsLabelLine line l → tree ≡ l) → ((m : Label) → ¬ (IsTypedLabel g tree m)) → (m : Label) → ¬ (SpellsLabel g line m)
untyped_spells_none g line tree single none m s = none m (subst (λ (t : PlainLabel). IsTypedLabel g t m) (sym (single s.tree s.spelled)) s.typed)

-- a line that isn't blank and spells no label isn't good
pub not_good : (g : Sig) (line : List ℕ) → ¬ (IsBlank line) → ((m : Label) → ¬ (SpellsLabel g line m)) → ¬ (IsGoodLine g line)
not_good g line some none (inl blank) = some blank
not_good g line some none (inr spelled) = none spelled.0 spelled.1

-- ---- one turn in code
-- what was found, if anything, is put last
abbrev pub IsPushed : List Line → Option Line → List Line → Type 0
IsPushed items None after = after ≡ items
IsPushed items (Some x) after = after ≡ items ++ x ∷ []

pub pushed_some : (found : Option Line) (x : Line) (items after : List Line) → found ≡ Some x → after ≡ items ++ x ∷ [] → IsPushed items found after
pushed_some found x items after is same = subst (λ (o : Option Line). IsPushed items o after) (sym is) same

pub pushed_none : (found : Option Line) (items after : List Line) → found ≡ None → after ≡ items → IsPushed items found after
pushed_none found items after is same = subst (λ (o : Option Line). IsPushed items o after) (sym is) same

pub read_turn : (g : Sig) (ts us : List Tree) (all : List (List ℕ)) (k : ℕ) (here : List (List ℕ)) (line : List ℕ) (lines : List (List ℕ)) (items after : List Line) (found : Option Line) → Extends ts us
    → ReadsTo g ts all k here (map plain_line items) → here ≡ line ∷ lines → IsReadLine g us k line (option_map plain_line found) → IsPushed items found after → ReadsTo g us all (k + 1) lines (map plain_line after)
read_turn g ts us all k here line lines items after None more reads is read pushed =
    rw (add-one k) (subst (λ (xs : List Line). ReadsTo g us all (suc k) lines (map plain_line xs)) (sym pushed) (blank_read read (reads_on more (subst (λ (ls : List (List ℕ)). ReadsTo g ts all k ls (map plain_line items)) is reads))))
read_turn g ts us all k here line lines items after (Some x) more reads is read pushed =
    let made : ReadsTo g us all (suc k) lines (map plain_line items ++ plain_line x ∷ []) = label_read read.0 read.1 (reads_on more (subst (λ (ls : List (List ℕ)). ReadsTo g ts all k ls (map plain_line items)) is reads)) in
    rw (add-one k)
    (subst (λ (xs : List Line). ReadsTo g us all (suc k) lines (map plain_line xs)) (sym pushed)
    (subst (λ (ys : List PlainLine). ReadsTo g us all (suc k) lines ys) (sym (map-append plain_line items (x ∷ []))) made))

-- where nothing is left, the whole trace was read
pub trace_read : (g : Sig) (ts : List Tree) (text rest : List ℕ) (k : ℕ) (xs : List PlainLine) → length rest ≡ 0 → ReadsTo g ts (lines_of text) k (lines_of rest) xs → IsReadTrace g ts text xs
unfolding lines_of
trace_read g ts text rest k xs none reads =
    let empty : rest ≡ [] = nil_from_length rest none in whole_trace (subst (λ (r : List ℕ). ReadsTo g ts (lines_of text) k (lines_of r) xs) empty reads)

-- a line's fault is the trace's
pub trace_fault : (g : Sig) (ts : List Tree) (text : List ℕ) (k : ℕ) (here : List (List ℕ)) (line : List ℕ) (lines : List (List ℕ)) (xs : List PlainLine) (fault : ReplayFault) → ReadsTo g ts (lines_of text) k here xs
    → here ≡ line ∷ lines → IsLineFault g k line fault → IsTraceFault g text fault
trace_fault g ts text k here line lines xs (BadTrace n) reads is bad =
    subst (λ (m : ℕ). IsFirstBad g 1 (lines_of text) m) (sym bad.0) (bad_further (subst (λ (ls : List (List ℕ)). ReadsTo g ts (lines_of text) k ls xs) is reads) (this_line bad.1))
trace_fault g ts text k here line lines xs NoMemory reads is bad = tt

pub passed_on : {T : Type 0} (P : ReplayFault → Type 0) (r : Result T ReplayFault) (fault : ReplayFault) → P fault → IsErrAnd r (λ given. given ≡ fault) → IfErr r P
passed_on P (Ok x) fault has same = absurd same
passed_on P (Err given) fault has same = subst P (sym same) has
