-- A file's lines gone over for its faults.
use Rattle.std.specs.Prelude.{◌≡◌, ℕ, ◌+◌, ◌*◌, ◌<◌, ◌≤◌, List, ◌++◌, length, drop, Some}
use Rattle.std.proofs.Math.Option.{some}
use Rattle.std.specs.List.{slice_get}
use Rattle.lexer.specs.Tokens.{lines}
use Rattle.semantics.specs.Names.{File, Texts, Decl, find_file, decls, decls_lines}
use Rattle.semantics.specs.Answers.{names_of, spoken, all_spoken, faults_of}
use Rattle.symbols.specs.Tabled.{Tabled}
use Rattle.resolver.specs.declared.plain.Plain.{Plain}
use Rattle.findings.specs.Gathered.{gathered}
use Rattle.symbols.specs.declared.layout.Layout.{Layout}
use Rattle.answers.specs.declared.review.Walked.{Walked}
use Rattle.answers.specs.Lined.{Follows, spread}
use Rattle.symbols.specs.Rows.{InOrder, table_row}

-- the file that is asked of: the k-th, and the one that its name means
pub record Asked (p : Texts) (k : ℕ) (x : File) : Type 0 where
  pub file : slice_get p k ≡ Some x
  pub named : find_file p x.name ≡ some x

-- the symbol table of the texts stands in the row, and in any other that has the same words from the texts on to the room to work in
abbrev pub TabledIn : Texts → Layout → List ℕ → Type 0
TabledIn p l ws = (vs : List ℕ) → length vs < 4294967296 → table_row l vs ≡ table_row l ws → Tabled p vs l.index

-- a row in which questions about these texts can be answered
pub record Ready (p : Texts) (l : Layout) (ws : List ℕ) : Type 0 where
  pub order : InOrder l ws
  pub tabled : TabledIn p l ws

-- the lookup for a line of the k-th file, n of whose declarations stand before it
pub record LooksIn (l : Layout) (k n : ℕ) (r : Plain) : Type 0 where
  pub from_front : r.from ≡ 0
  pub to_work : r.to ≡ l.work
  pub at_index : r.index ≡ l.index
  pub of_file : r.file ≡ k
  pub with_before : r.before ≡ n

-- room for a file of n bytes: its lines go into the slot, its faults between work and base, and a line's work behind base
pub record Roomy (l : Layout) (base n : ℕ) (ws : List ℕ) : Type 0 where
  pub slot : n ≤ l.texts
  pub short : n < 4294967000
  pub faults_fit : l.work + 12 * n ≤ base
  pub work_fits : base + (25 * n + 64) ≤ length ws

-- i lines of the file x were gone over. ws is the row at the beginning, vs now
pub record Reviewing (p : Texts) (x : File) (l : Layout) (ws vs : List ℕ) (i : ℕ) (w : Walked) : Type 0 where
  pub same : table_row l vs ≡ table_row l ws
  pub follows : Follows w.start (drop i (lines x.text))
  pub long : w.start + spread (drop i (lines x.text)) ≡ 1 + length x.text
  pub declared_before : List Decl
  pub declares : decls x ≡ declared_before ++ decls_lines (drop i (lines x.text))
  pub counted : w.before ≡ length declared_before
  pub so_far : gathered vs l.work w.faults ++ faults_of (spoken p x.name (names_of declared_before) (drop i (lines x.text))) ≡ faults_of (all_spoken p x)
  pub few : w.faults ≤ 3 * w.start
  pub fewer : w.before ≤ w.start

-- so it is with some file that is asked of, for which there is room, and which has a line more
pub record Walking (p : Texts) (l : Layout) (k base : ℕ) (vs : List ℕ) (i : ℕ) (w : Walked) : Type 0 where
  pub file : File
  pub asked : Asked p k file
  pub roomy : Roomy l base (length file.text) vs
  pub more : i < length (lines file.text)
  pub row1 : List ℕ
  pub reviewing : Reviewing p file l row1 vs i w

-- the loop over the lines of the file that is asked of: ws is the row at the beginning, vs now
pub record Going (p : Texts) (l : Layout) (k base : ℕ) (ws vs : List ℕ) (i : ℕ) (w : Walked) : Type 0 where
  pub file : File
  pub asked : Asked p k file
  pub roomy : Roomy l base (length file.text) ws
  pub reviewing : Reviewing p file l ws vs i w
