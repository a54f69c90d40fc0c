-- One line more of a file that is gone over for its faults.
use Rattle.std.proofs.Common.{◌≡◌, ℕ, suc, ◌+◌, ◌*◌, ◌≤◌, List, [], ◌∷◌, ◌++◌, length, take, drop, Some, sym, refl, ap, ◌∙◌, subst, append_assoc, arith, length-append}
use Rattle.std.specs.List.{slice_get}
use Rattle.std.proofs.lemmas.List.{take_at}
use Rattle.base.specs.Base.{Word}
use Rattle.lexer.specs.Tokens.{Tok, Line, lines, pieces}
use Rattle.grammar.specs.Grammar.{Item, item_of, nothing, i_use, i_kind, i_rec, i_def, i_bad}
use Rattle.grammar.specs.Code.{item_code}
use Rattle.syntax.specs.Line.{item_in}
use Rattle.declarations.proofs.Found.{consts_length}
use Rattle.diagnostics.proofs.Lengths.{code_few}
use Rattle.semantics.specs.Names.{File, Texts, Decl, decls, decls_lines, decls_item, consts}
use Rattle.semantics.specs.Check.{faults_in}
use Rattle.semantics.specs.Answers.{names_of, declared, spoken, faults_of, fault_words, says_line}
use Rattle.findings.specs.Gathered.{gathered}
use Rattle.symbols.specs.declared.layout.Layout.{Layout}
use Rattle.answers.specs.declared.review.Walked.{Walked}
use Rattle.answers.specs.Lined.{Follows, spread}
use Rattle.symbols.specs.Rows.{table_row}
use Rattle.answers.specs.Reviews.{Reviewing}
use Rattle.answers.proofs.Lines.{nth_drop, lines_follow, lines_spread}

-- names don't go by where a line begins
consts_names : (s : ℕ) (k : Word) (ts : List Tok) → names_of (consts s k ts) ≡ names_of (consts 0 k ts)
consts_names s k [] = refl
consts_names s k (t ∷ ts) = ap (λ r. t.w ∷ r) (consts_names s k ts)

pub item_names : (s : ℕ) (it : Item) → names_of (decls_item s it) ≡ names_of (decls_item 0 it)
item_names s nothing = refl
item_names s (i_use t) = refl
item_names s (i_kind t cs) = ap (λ r. t.w ∷ r) (consts_names s t.w cs)
item_names s (i_rec t fs) = refl
item_names s (i_def t ps r e) = refl
item_names s (i_bad a b) = refl

names_long : (ds : List Decl) → length (names_of ds) ≡ length ds
names_long [] = refl
names_long (d ∷ ds) = ap suc (names_long ds)

pub item_long : (s : ℕ) (it : Item) → length (decls_item s it) ≡ length (decls_item 0 it)
item_long s it = sym (names_long (decls_item s it)) ∙ ap length (item_names s it) ∙ names_long (decls_item 0 it)

pub names_append : (ds es : List Decl) → names_of (ds ++ es) ≡ names_of ds ++ names_of es
names_append [] es = refl
names_append (d ∷ ds) es = ap (λ r. d.name ∷ r) (names_append ds es)

-- a line declares no more names than it has bytes
pub decls_few : (line : List ℕ) → length (decls_item 0 (item_in line)) ≤ length line
decls_few line = omega (arith, by_code (item_in line), code_few line)
  where
    by_code : (it : Item) → length (decls_item 0 it) ≤ length (item_code it)
    by_code nothing = omega arith
    by_code (i_use t) = omega arith
    by_code (i_kind t cs) = omega (arith, consts_length 0 t.w cs)
    by_code (i_rec t fs) = omega arith
    by_code (i_def t ps r e) = omega arith
    by_code (i_bad a b) = omega arith

-- before the first line
pub begun : (p : Texts) (x : File) (l : Layout) (ws : List ℕ) → Reviewing p x l ws ws 0 (record { start = 0; before = 0; faults = 0 })
begun p x l ws =
    record {
      same = refl;
      follows = lines_follow x.text;
      long = omega (arith, lines_spread x.text);
      declared_before = [];
      declares = refl;
      counted = refl;
      so_far = refl;
      few = omega arith;
      fewer = omega arith;
    }

module _ (p : Texts) (x : File) (l : Layout) (ws vs : List ℕ) (i : ℕ) (w : Walked) (g : Reviewing p x l ws vs i w) (ln : Line) (is : slice_get (lines x.text) i ≡ Some ln) where
  abbrev rest : List Line
  rest = drop (i + 1) (lines x.text)

  rest_is : drop i (lines x.text) ≡ ln ∷ rest
  rest_is = nth_drop (lines x.text) i ln is

  follows : Follows w.start (ln ∷ rest)
  follows = subst (Follows w.start) rest_is g.follows

  pub start_is : ln.start ≡ w.start
  start_is = follows.0

  pub long : w.start + ((1 + length ln.bytes) + spread rest) ≡ 1 + length x.text
  long = ap (λ r. w.start + spread r) (sym rest_is) ∙ g.long

  -- the names declared before the line
  pub before_is : take w.before (decls x) ≡ g.declared_before
  before_is = ap (take w.before) g.declares ∙ take_at g.declared_before (decls_lines (drop i (lines x.text))) w.before (sym g.counted)

  abbrev own : List Decl
  own = decls_item ln.start (item_of (pieces ln))

  pub stepped : (us : List ℕ) (n : ℕ) → table_row l us ≡ table_row l vs →
      gathered us l.work n ≡ gathered vs l.work w.faults ++ fault_words w.start (faults_in (says_line p x.name (names_of g.declared_before) ln)) →
      n ≤ w.faults + 3 * length ln.bytes →
      Reviewing p x l ws us (i + 1) (record { start = w.start + length ln.bytes + 1; before = w.before + length (decls_item 0 (item_of (pieces ln))); faults = n })
  stepped us n same adds few =
      let begins : 1 + (w.start + length ln.bytes) ≡ w.start + length ln.bytes + 1 = omega arith in
      let longer = long in
      let names : names_of (g.declared_before ++ own) ≡ names_of g.declared_before ++ declared ln = names_append g.declared_before own ∙ ap (λ r. names_of g.declared_before ++ r) (item_names ln.start (item_of (pieces ln))) in
      let said = faults_in (says_line p x.name (names_of g.declared_before) ln) in
      let others = faults_of (spoken p x.name (names_of g.declared_before ++ declared ln) rest) in
      record {
        same = same ∙ g.same;
        follows = subst (λ s. Follows s rest) begins follows.1;
        long = omega (arith, longer);
        declared_before = g.declared_before ++ own;
        declares = g.declares ∙ ap (λ r. g.declared_before ++ decls_lines r) rest_is ∙ sym (append_assoc g.declared_before own (decls_lines rest));
        counted = ap (λ n. n + length (decls_item 0 (item_of (pieces ln)))) g.counted ∙ sym (length-append g.declared_before own ∙ ap (λ n. length g.declared_before + n) (item_long ln.start (item_of (pieces ln))));
        so_far = ap (λ b. gathered us l.work n ++ faults_of (spoken p x.name b rest)) names ∙ ap (λ r. r ++ others) adds ∙ append_assoc (gathered vs l.work w.faults) (fault_words w.start said) others ∙ ap (λ s. gathered vs l.work w.faults ++ (fault_words s said ++ others)) (sym start_is) ∙ ap (λ r. gathered vs l.work w.faults ++ faults_of (spoken p x.name (names_of g.declared_before) r)) (sym rest_is) ∙ g.so_far;
        few = omega (arith, few, g.few);
        fewer = omega (arith, g.fewer, decls_few ln.bytes);
      }
