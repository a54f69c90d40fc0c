-- A line looked at for the faults of its file: it can't be refused, and what comes of it is a step.
use Rattle.std.proofs.Common.{◌≡◌, ℕ, zero, suc, ◌+◌, ◌-◌, ◌*◌, ◌<◌, ◌≤◌, List, [], ◌∷◌, ◌++◌, length, get_or, take, drop, Some, None, sym, refl, ap, ◌∙◌, subst, inl, inr, arith}
use mathlib.Core.Option.{some, none}
use Rattle.std.specs.List.{slice_get}
use Rattle.std.proofs.lemmas.List.{take-take, get_or-take, get_or-drop, length-take}
use Rattle.std.proofs.lemmas.Slice.{between_is}
use Rattle.lexer.specs.Tokens.{Line, lines, pieces}
use Rattle.grammar.specs.Grammar.{item_of}
use Rattle.grammar.specs.Code.{item_code}
use Rattle.syntax.specs.Line.{item_in}
use Rattle.semantics.specs.Names.{File, Texts, decls, sig, decls_item}
use Rattle.semantics.specs.Check.{faults_in}
use Rattle.semantics.specs.Answers.{names_of, there, there_file, fault_words, says_line}
use Rattle.semantics.specs.Walk.{Query, q_here, q_there, q_file, q_before, Known, has, answer, Agrees, first_lacking, or_lacks, asked, start}
use Rattle.checker.specs.Rows.{Book}
use Rattle.resolver.specs.declared.plain.Plain.{Plain}
use Rattle.resolver.specs.Resolve.{known, plain_book, looked_in}
use Rattle.resolver.proofs.Means.{plain_agrees}
use Rattle.findings.specs.Said.{faults_read}
use Rattle.findings.specs.Gathered.{gathered}
use Rattle.findings.proofs.Events.{said_faults}
use Rattle.symbols.specs.declared.layout.Layout.{Layout}
use Rattle.answers.specs.declared.inspect.Inspected.{Inspected}
use Rattle.answers.specs.declared.review.Walked.{Walked}
use Rattle.symbols.specs.Rows.{table_row, IsLine}
use Rattle.answers.specs.Says.{Inspects, Hindered, InspectSays}
use Rattle.answers.specs.Reviews.{Asked, LooksIn, Ready, Roomy, Reviewing, Walking}
use Rattle.answers.proofs.Stepped.{long, before_is, stepped}

-- parts of a row that stays up to a place
pub row_cut : (t w b : ℕ) (xs : List ℕ) → w ≤ b → take (w - t) (drop t (take b xs)) ≡ take (w - t) (drop t xs)
row_cut t w b xs h = between_is (take b xs) t w ∙ ap (drop t) (take-take w b xs h) ∙ sym (between_is xs t w)

pub word_kept : (t b j : ℕ) (us ws : List ℕ) → drop t (take b us) ≡ drop t (take b ws) → t ≤ j → j < b → get_or us j 0 ≡ get_or ws j 0
word_kept t b j us ws e l h =
    let k : t + (j - t) ≡ j = omega arith in
    let read : (xs : List ℕ) → get_or (drop t (take b xs)) (j - t) 0 ≡ get_or xs j 0 = λ xs. get_or-drop t (take b xs) (j - t) 0 ∙ ap (λ n. get_or (take b xs) n 0) k ∙ get_or-take b xs j 0 h in
    sym (read us) ∙ ap (λ xs. get_or xs (j - t) 0) e ∙ read ws

pub gathered_kept : (us vs : List ℕ) (q m : ℕ) → ((j : ℕ) → q ≤ j → j < q + 4 * m → get_or us j 0 ≡ get_or vs j 0) → gathered us q m ≡ gathered vs q m
gathered_kept us vs q zero h = refl
gathered_kept us vs q (suc m) h =
    let r = gathered_kept us vs q m (λ j a b. h j a (omega arith)) in
    let w0 = h (q + 4 * m) (omega arith) (omega arith) in
    let w1 = h (q + 4 * m + 1) (omega arith) (omega arith) in
    let w2 = h (q + 4 * m + 2) (omega arith) (omega arith) in
    let w3 = h (q + 4 * m + 3) (omega arith) (omega arith) in
    cc

-- the plain lookup knows all
all_known : (ws : List ℕ) (x k n : ℕ) (q : Query) → (s : Known) × (known ws x k n q ≡ has s)
all_known ws x k n (q_here w) = (_, refl)
all_known ws x k n (q_there f w) = (_, refl)
all_known ws x k n (q_file w) = (_, refl)
all_known ws x k n (q_before w) = (_, refl)

pub none_lacking : (ws : List ℕ) (x k n : ℕ) (qs : List Query) → first_lacking (known ws x k n) qs ≡ none
none_lacking ws x k n [] = refl
none_lacking ws x k n (q ∷ qs) = let a = all_known ws x k n q in ap (λ f. or_lacks f (first_lacking (known ws x k n) qs)) a.1 ∙ none_lacking ws x k n qs

some_none : {A B : Type 0} (a : A) → none ≡ some a → B
some_none a e = let z : ◌≡◌ {A = ℕ} 0 1 = cc in let f : ⊥ = omega arith in elim f [ ]

pub same_file : (p : Texts) (k : ℕ) (x y : File) → slice_get p k ≡ Some x → slice_get p k ≡ Some y → x ≡ y
same_file p k x y a b = let e : Some x ≡ Some y = sym a ∙ b in cc

module _ (p : Texts) (l : Layout) (k base : ℕ) (ws : List ℕ) (n : ℕ) (look : Plain) (ready : Ready p l ws) (looks : LooksIn l k n look) (high : l.work ≤ base) where
  abbrev book : List ℕ → Book
  book us = plain_book (looked_in look.from look.to us) look.index look.file look.before

  -- the lookup reads the texts' table, whatever stands in the slot
  abbrev looked : List ℕ → List ℕ
  looked front = looked_in 0 l.work front

  looked_row : (front : List ℕ) → drop l.texts front ≡ drop l.texts (take base ws) → table_row l (looked front) ≡ table_row l ws
  looked_row front e =
      let z : l.work - 0 ≡ l.work = omega arith in
      ap (λ n. table_row l (take n front)) z ∙ row_cut l.texts l.work l.work front (omega arith) ∙ ap (take (l.work - l.texts)) e ∙ row_cut l.texts l.work base ws high

  book_is : (front : List ℕ) → book front ≡ plain_book (looked front) l.index k n
  book_is front =
      ap (λ r. plain_book (looked_in r look.to front) look.index look.file look.before) looks.from_front ∙ ap (λ r. plain_book (looked_in 0 r front) look.index look.file look.before) looks.to_work ∙ ap (λ r. plain_book (looked front) r look.file look.before) looks.at_index ∙ ap (λ r. plain_book (looked front) l.index r look.before) looks.of_file ∙ ap (λ r. plain_book (looked front) l.index k r) looks.with_before

  pub agrees : (x : File) → Asked p k x → (front : List ℕ) → drop l.texts front ≡ drop l.texts (take base ws) → Agrees (book front).knows (answer x.name (sig p x.name) (there p) (there_file p) (names_of (take n (decls x))))
  agrees x a front e =
      let A : Book → Type 0 = λ b. Agrees b.knows (answer x.name (sig p x.name) (there p) (there_file p) (names_of (take n (decls x)))) in
      subst A (sym (book_is front)) (plain_agrees p (looked front) l.index k n x.name x (ready.tabled (looked front) (omega (arith, length-take (l.work - 0) (drop 0 front), ready.order.row, ready.order.small)) (looked_row front e)) (x, a.file, a.named) a.file)

  -- a line of a file for which there is room can't be refused
  pub not_hindered : (x : File) → Asked p k x → Roomy l base (length x.text) ws → (ln : Line) → length ln.bytes ≤ length x.text → Hindered book l.texts base ws ln → ⊥
  not_hindered x a room ln short (inl h) = omega (arith, room.slot)
  not_hindered x a room ln short (inr (inl (inl h))) = omega (arith, room.short)
  not_hindered x a room ln short (inr (inl (inr (inl h)))) = omega (arith, room.faults_fit, room.slot, ready.order.slot, ready.order.table)
  not_hindered x a room ln short (inr (inl (inr (inr h)))) = omega (arith, room.work_fits)
  not_hindered x a room ln short (inr (inr (front, w, e, h))) =
      some_none _ (sym (none_lacking (looked_in look.from look.to front) look.index look.file look.before (asked (answer x.name (sig p x.name) (there p) (there_file p) (names_of (take n (decls x)))) (item_code (item_in ln.bytes)) start)) ∙ h x.name (sig p x.name) (there p) (there_file p) (names_of (take n (decls x))) (agrees x a front e))

  -- the faults that were read are those of the line
  pub faults_are : (x : File) → Asked p k x → (ln : Line) (r : Inspected) (vs : List ℕ) → Inspects book l.texts base ws ln r vs → faults_read vs r.findings.at r.findings.count ≡ faults_in (says_line p x.name (names_of (take n (decls x))) ln)
  faults_are x a ln r vs ins =
      sym (said_faults (book ins.front) ln.bytes r.findings.at r.findings.count vs) ∙ ap (λ o. o.faults) (ins.says.found x.name (sig p x.name) (there p) (there_file p) (names_of (take n (decls x))) (agrees x a ins.front ins.same))

  -- so that the file is gone over by one line more
  pub reviewed : (x : File) → Asked p k x → (row1 : List ℕ) (i : ℕ) (w : Walked) → n ≡ w.before → Reviewing p x l row1 ws i w → Roomy l base (length x.text) ws →
      (y : File) (ln : Line) → IsLine p k i y ln → (r : Inspected) (vs us : List ℕ) (m names : ℕ) → Inspects book l.texts base ws ln r vs →
      drop l.texts (take base vs) ≡ drop l.texts (take base ws) → take l.work us ≡ take l.work vs →
      gathered us l.work m ≡ gathered vs l.work w.faults ++ fault_words w.start (faults_read vs r.findings.at r.findings.count) →
      m ≤ w.faults + r.findings.count → names ≡ length (decls_item 0 (item_of (pieces ln))) →
      Reviewing p x l row1 us (i + 1) (record { start = w.start + r.len + 1; before = w.before + names; faults = m })
  reviewed x a row1 i w nb g room y ln isl r vs us m names ins kept front adds few ne =
      let N : File → Type 0 = λ f. slice_get (lines f.text) i ≡ Some ln in
      let is : slice_get (lines x.text) i ≡ Some ln = subst N (same_file p k y x isl.file a.file) isl.line in
      let lg = long p x l row1 ws i w g ln is in
      let old : gathered vs l.work w.faults ≡ gathered ws l.work w.faults = gathered_kept vs ws l.work w.faults (λ j b c. word_kept l.texts base j vs ws kept (omega (arith, ready.order.slot, ready.order.table)) (omega (arith, g.few, lg, room.faults_fit))) in
      let row_vs : table_row l vs ≡ table_row l ws = sym (row_cut l.texts l.work base vs high) ∙ ap (take (l.work - l.texts)) kept ∙ row_cut l.texts l.work base ws high in
      let row_us : table_row l us ≡ table_row l vs = between_is us l.texts l.work ∙ ap (drop l.texts) front ∙ sym (between_is vs l.texts l.work) in
      let names_are : names_of (take n (decls x)) ≡ names_of g.declared_before = ap (λ b. names_of (take b (decls x))) nb ∙ ap names_of (before_is p x l row1 ws i w g ln is) in
      let said : faults_read vs r.findings.at r.findings.count ≡ faults_in (says_line p x.name (names_of g.declared_before) ln) = faults_are x a ln r vs ins ∙ ap (λ b. faults_in (says_line p x.name b ln)) names_are in
      let all1 = adds ∙ ap (λ b. b ++ fault_words w.start (faults_read vs r.findings.at r.findings.count)) old ∙ ap (λ fs. gathered ws l.work w.faults ++ fault_words w.start fs) said in
      let R : Walked → Type 0 = λ v. Reviewing p x l row1 us (i + 1) v in
      let same_walked : ◌≡◌ {A = Walked} (record { start = w.start + length ln.bytes + 1; before = w.before + length (decls_item 0 (item_of (pieces ln))); faults = m }) (record { start = w.start + r.len + 1; before = w.before + names; faults = m }) = ap (λ c. record { start = w.start + c + 1; before = w.before + length (decls_item 0 (item_of (pieces ln))); faults = m }) (sym ins.long) ∙ ap (λ c. record { start = w.start + r.len + 1; before = w.before + c; faults = m }) (sym ne) in
      subst R same_walked (stepped p x l row1 ws i w g ln is us m (row_us ∙ row_vs) all1 (omega (arith, few, ins.says.few, ins.says.said)))

  -- the line of a file that is gone over is no longer than what is left of it
  line_short : (i : ℕ) (w : Walked) (t : Walking p l k base ws i w) (y : File) (ln : Line) → IsLine p k i y ln → w.start + length ln.bytes ≤ length t.file.text
  line_short i w t y ln isl =
      let N : File → Type 0 = λ f. slice_get (lines f.text) i ≡ Some ln in
      let is : slice_get (lines t.file.text) i ≡ Some ln = subst N (same_file p k y t.file isl.file t.asked.file) isl.line in
      omega (arith, long p t.file l t.row1 ws i w t.reviewing ln is)

  pub not_refused : (i : ℕ) (w : Walked) → Walking p l k base ws i w → (vs : List ℕ) → InspectSays book p k i l.texts base ws vs None → ⊥
  not_refused i w t vs (inl h) = omega (arith, h t.file t.asked.file, t.more)
  not_refused i w t vs (inr (y, ln, isl, h)) = not_hindered t.file t.asked t.roomy ln (omega (arith, line_short i w t y ln isl)) h

  -- there is room for its faults
  pub room_for_faults : (i : ℕ) (w : Walked) (t : Walking p l k base ws i w) (y : File) (ln : Line) → IsLine p k i y ln → (r : Inspected) (vs : List ℕ) → Inspects book l.texts base ws ln r vs → (l.work + 4 * (w.faults + r.findings.count) ≤ r.findings.at) × (w.start + r.len ≤ length t.file.text)
  room_for_faults i w t y ln isl r vs ins =
      let s = line_short i w t y ln isl in
      (omega (arith, s, t.reviewing.few, t.roomy.faults_fit, ins.says.few, ins.says.said, ins.says.behind), omega (arith, s, ins.long))
