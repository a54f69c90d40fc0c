-- The loop over a file's lines: what holds of the row at the beginning holds of the row now.
use Rattle.std.proofs.Common.{◌≡◌, ℕ, ◌+◌, ◌-◌, ◌*◌, ◌<◌, ◌≤◌, List, [], ◌++◌, length, take, drop, Some, sym, ap, ◌∙◌, subst, append-nil, arith}
use Rattle.std.specs.List.{slice_get}
use Rattle.std.proofs.lemmas.List.{take-take, drop_all}
use Rattle.lexer.specs.Tokens.{lines}
use Rattle.semantics.specs.Names.{File, Texts}
use Rattle.semantics.specs.Answers.{names_of, spoken, all_spoken, faults_of}
use Rattle.findings.specs.Gathered.{gathered}
use Rattle.symbols.specs.declared.layout.Layout.{Layout}
use Rattle.answers.specs.declared.review.Walked.{Walked}
use Rattle.answers.specs.Lined.{spread}
use Rattle.symbols.specs.Rows.{texts_in, table_row}
use Rattle.answers.specs.Reviews.{Asked, TabledIn, Ready, Roomy, Reviewing, Walking, Going}
use Rattle.answers.proofs.Reviewed.{same_file}

-- the texts lie in the part that stays
pub texts_same : (l : Layout) (vs ws : List ℕ) → l.index ≤ l.work → table_row l vs ≡ table_row l ws → texts_in l vs ≡ texts_in l ws
texts_same l vs ws h e =
    let cut : (xs : List ℕ) → take (l.index - l.texts) (take (l.work - l.texts) (drop l.texts xs)) ≡ texts_in l xs = λ xs. take-take (l.index - l.texts) (l.work - l.texts) (drop l.texts xs) (omega arith) in
    sym (cut vs) ∙ ap (take (l.index - l.texts)) e ∙ cut ws

-- a row whose part from the texts up to the room to work in is the same is as ready
module _ (holds : List ℕ → Texts) (l : Layout) (ws vs : List ℕ) (ready : Ready (holds (texts_in l ws)) l ws) (long : length vs ≡ length ws) (same : table_row l vs ≡ table_row l ws) where
  pub held : texts_in l vs ≡ texts_in l ws
  held = texts_same l vs ws ready.order.table same

  pub ready_now : Ready (holds (texts_in l vs)) l vs
  ready_now =
      let T : List ℕ → Type 0 = λ m. TabledIn (holds m) l vs in
      record {
        order = record { slot = ready.order.slot; table = ready.order.table; row = omega (arith, ready.order.row, long); small = omega (arith, ready.order.small, long) };
        tabled = subst T (sym held) (λ us small e. ready.tabled us small (e ∙ same));
      }

module _ (holds : List ℕ → Texts) (l : Layout) (k base : ℕ) (ws vs : List ℕ) (i : ℕ) (w : Walked) (ready : Ready (holds (texts_in l ws)) l ws) (long : length vs ≡ length ws) (g : Going (holds (texts_in l ws)) l k base ws vs i w) where
  here : texts_in l vs ≡ texts_in l ws
  here = held holds l ws vs ready long g.reviewing.same

  roomy_now : Roomy l base (length g.file.text) vs
  roomy_now = let r = g.roomy in record { slot = r.slot; short = r.short; faults_fit = r.faults_fit; work_fits = omega (arith, r.work_fits, long) }

  pub walking : (n : ℕ) → ((x : File) → slice_get (holds (texts_in l ws)) k ≡ Some x → n ≡ length (lines x.text)) → i < n → Walking (holds (texts_in l vs)) l k base vs i w
  walking n count more =
      let A : List ℕ → Type 0 = λ m. Asked (holds m) k g.file in
      let R : List ℕ → Type 0 = λ m. Reviewing (holds m) g.file l ws vs i w in
      record {
        file = g.file;
        asked = subst A (sym here) g.asked;
        roomy = roomy_now;
        more = omega (arith, count g.file g.asked.file, more);
        row1 = ws;
        reviewing = subst R (sym here) g.reviewing;
      }

  pub again : (us : List ℕ) (v : Walked) → ((row1 : List ℕ) (x : File) → Asked (holds (texts_in l vs)) k x → Reviewing (holds (texts_in l vs)) x l row1 vs i w → Reviewing (holds (texts_in l vs)) x l row1 us (i + 1) v) → Going (holds (texts_in l ws)) l k base ws us (i + 1) v
  again us v step =
      let A : List ℕ → Type 0 = λ m. Asked (holds m) k g.file in
      let R : List ℕ → Type 0 = λ m. Reviewing (holds m) g.file l ws vs i w in
      let S : List ℕ → Type 0 = λ m. Reviewing (holds m) g.file l ws us (i + 1) v in
      record { file = g.file; asked = g.asked; roomy = g.roomy; reviewing = subst S here (step ws g.file (subst A (sym here) g.asked) (subst R (sym here) g.reviewing)) }

  -- all lines were gone over
  module _ (n : ℕ) (count : (x : File) → slice_get (holds (texts_in l ws)) k ≡ Some x → n ≡ length (lines x.text)) (last : n ≤ i) where
    none_left : drop i (lines g.file.text) ≡ []
    none_left = drop_all i (lines g.file.text) (omega (arith, count g.file g.asked.file, last))

    pub within : l.work + 4 * w.faults ≤ length vs
    within = omega (arith, g.reviewing.few, g.reviewing.long, ap spread none_left, g.roomy.faults_fit, g.roomy.work_fits, long)

    pub finds : (x : File) → Asked (holds (texts_in l ws)) k x → gathered vs l.work w.faults ≡ faults_of (all_spoken (holds (texts_in l ws)) x)
    finds x a =
        let p = holds (texts_in l ws) in
        let all1 = gathered vs l.work w.faults in
        let none1 : faults_of (spoken p g.file.name (names_of g.reviewing.declared_before) (drop i (lines g.file.text))) ≡ [] = ap (λ ls. faults_of (spoken p g.file.name (names_of g.reviewing.declared_before) ls)) none_left in
        sym (append-nil all1) ∙ ap (λ r. all1 ++ r) (sym none1) ∙ g.reviewing.so_far ∙ ap (λ f. faults_of (all_spoken p f)) (same_file p k g.file x g.asked.file a.file)
