-- Rows of words as frames, names and what was said: what a write leaves, and what a read finds.
use Rattle.std.proofs.Common.{◌≡◌, ℕ, zero, suc, ◌+◌, ◌-◌, ◌*◌, ◌<◌, ◌≤◌, min, max, true, false, List, [], ◌∷◌, ◌++◌, length, get_or, take, drop, Some, None, Option as Maybe, sym, refl, ap, ◌∙◌, subst, ⊎_elim, add-one, arith}
use mathlib.Core.Option.{some}
use borrow.Rule.Slice.PartMut.{put_mid}
use Rattle.std.proofs.lemmas.List.{get_or_append_left, get_or-append_right, get_or-take, get_or-drop, length-take-le, take-append-le, take-take, drop-drop, take_all, drop_all}
use Rattle.std.proofs.lemmas.Slice.{between_is}
use Rattle.std.proofs.lemmas.Bool.{cases_lt}
use Rattle.std.specs.Option.{is_some as is_there}
use Rattle.base.specs.Base.{pick, is_some, Word, same}
use Rattle.parser.specs.Rows.{span_of}
use Rattle.semantics.specs.Check.{Local, find}
use Rattle.semantics.specs.Walk.{state, add, pop, top}
use Rattle.checker.specs.declared.rows.Bounds.{Bounds}
use Rattle.checker.specs.declared.rows.Place.{Place}
use Rattle.checker.specs.declared.rows.Frame.{Frame}
use Rattle.checker.specs.declared.rows.Bound.{Bound}
use Rattle.checker.specs.declared.slots.Slots.{Slots}
use Rattle.checker.specs.declared.said.Event.{Event}
use Rattle.checker.specs.declared.said.Link.TheVariants.{Declared, Local as ToLocal, File}
use Rattle.checker.specs.declared.said.Said.{Said}
use Rattle.checker.specs.declared.said.Said.TheVariants.{Fault, «Type» as Types, Link}
use Rattle.checker.specs.Rows.{Book, typ, slots_is, slots_row, frame_is, frame_by, frame_at, frame_row, frames_in, bound_is, bound_words, bound_at, bound_row, names_in, event_said, event_words, event_row, told_is, event_is, said_in, code_end, names_at, frames_at, means, with_frame, with_name, with_said, Fits, pasted, Writes, FindSays}
use Rattle.checker.proofs.Ahead.{slots_packed}

-- a row written from i on
module _ (ws row : List ℕ) (i : ℕ) (h : i + length row ≤ length ws) where
  long : length (take i ws) ≡ i
  long = length-take-le i ws (omega arith)

  paste_below : (j : ℕ) → j < i → get_or (pasted ws i row) j 0 ≡ get_or ws j 0
  paste_below j l = let t = long in get_or_append_left (take i ws) (row ++ drop (i + length row) ws) 0 j (omega arith) ∙ get_or-take i ws j 0 l

  pub paste_in : (j m : ℕ) → m ≡ i + j → j < length row → get_or (pasted ws i row) m 0 ≡ get_or row j 0
  paste_in j m e l = let d : m - i ≡ j = omega arith in get_or-append_right (take i ws) (row ++ drop (i + length row) ws) i m 0 long (omega arith) ∙ ap (λ x. get_or (row ++ drop (i + length row) ws) x 0) d ∙ get_or_append_left row (drop (i + length row) ws) 0 j l

  paste_above : (j : ℕ) → i + length row ≤ j → get_or (pasted ws i row) j 0 ≡ get_or ws j 0
  paste_above j l = let d : i + length row + (j - i - length row) ≡ j = omega arith in get_or-append_right (take i ws) (row ++ drop (i + length row) ws) i j 0 long (omega arith) ∙ get_or-append_right row (drop (i + length row) ws) (length row) (j - i) 0 refl (omega arith) ∙ get_or-drop (i + length row) ws (j - i - length row) 0 ∙ ap (λ x. get_or ws x 0) d

  pub paste_front : (m : ℕ) → m ≤ i → take m (pasted ws i row) ≡ take m ws
  paste_front m l = let t = long in take-append-le m (take i ws) (row ++ drop (i + length row) ws) (omega arith) ∙ take-take m i ws l

pub putMid_pasted : (ws ys row : List ℕ) (i : ℕ) → ys ≡ row → put_mid i (i + length row - i) ws ys ≡ pasted ws i row
putMid_pasted ws ys row i e = let d : i + (i + length row - i) ≡ i + length row = omega arith in ap (λ y. take i ws ++ (y ++ drop (i + length row - i) (drop i ws))) e ∙ ap (λ y. take i ws ++ (row ++ y)) (drop-drop (i + length row - i) i ws ∙ ap (λ m. drop m ws) d)

-- the words from lo up to hi are as they were
abbrev Kept : ℕ → ℕ → List ℕ → List ℕ → Type 0
Kept lo hi ws vs = (j : ℕ) → lo ≤ j → j < hi → get_or vs j 0 ≡ get_or ws j 0

frames_kept : (k : Book) (f h : ℕ) (ws vs : List ℕ) → Kept f (f + 5 * h) ws vs → frames_in k f h vs ≡ frames_in k f h ws
frames_kept k f zero ws vs e = refl
frames_kept k f (suc h) ws vs e =
    let p0 = e (f + 5 * h) (omega arith) (omega arith) in let p1 = e (f + 5 * h + 1) (omega arith) (omega arith) in let p2 = e (f + 5 * h + 2) (omega arith) (omega arith) in
    let p3 = e (f + 5 * h + 3) (omega arith) (omega arith) in let p4 = e (f + 5 * h + 4) (omega arith) (omega arith) in
    let s = frames_kept k f h ws vs (λ j l m. e j l (omega arith)) in λ i. frame_by k (p0 i) (p1 i) (p2 i) (p3 i) (p4 i) ∷ s i

names_kept : (k : Book) (line : List ℕ) (f n : ℕ) (ws vs : List ℕ) → Kept f (f + 3 * n) ws vs → names_in k line f n vs ≡ names_in k line f n ws
names_kept k line f zero ws vs e = refl
names_kept k line f (suc n) ws vs e =
    let p0 = e (f + 3 * n) (omega arith) (omega arith) in let p1 = e (f + 3 * n + 1) (omega arith) (omega arith) in let p2 = e (f + 3 * n + 2) (omega arith) (omega arith) in
    let s = names_kept k line f n ws vs (λ j l m. e j l (omega arith)) in λ i. bound_is k line (bound_words (p0 i) (p1 i) (p2 i)) ∷ s i

said_kept : (k : Book) (line : List ℕ) (f n : ℕ) (ws vs : List ℕ) → Kept f (f + 4 * n) ws vs → said_in k line f n vs ≡ said_in k line f n ws
said_kept k line f zero ws vs e = refl
said_kept k line f (suc n) ws vs e =
    let p0 = e (f + 4 * n) (omega arith) (omega arith) in let p1 = e (f + 4 * n + 1) (omega arith) (omega arith) in let p2 = e (f + 4 * n + 2) (omega arith) (omega arith) in
    let p3 = e (f + 4 * n + 3) (omega arith) (omega arith) in
    let s = said_kept k line f n ws vs (λ j l m. e j l (omega arith)) in λ i. add (s i) (event_said k line (p0 i) (p1 i) (p2 i) (p3 i))

module _ (b : Bounds) (p : Place) (ws : List ℕ) (f : Fits b p ws) where
  pushes_by : (ty from to sig next : ℕ) (vs : List ℕ) → p.height < b.count → vs ≡ pasted ws (b.base + 20 * b.count + 5 * p.height) (ty ∷ from ∷ to ∷ sig ∷ next ∷ []) → Writes b p ws (record { height = p.height + 1; names = p.names; events = p.events }) vs (λ k line. with_frame (frame_by k ty from to sig next))
  pushes_by ty from to sig next vs l e = subst (λ x. Writes b p ws (record { height = p.height + 1; names = p.names; events = p.events }) x (λ k line. with_frame (frame_by k ty from to sig next))) (sym e) (record {
    before = paste_front ws row i g (code_end b) (omega arith);
    becomes = λ k line.
        let q = ap (λ h. frames_in k (frames_at b) h us) (add-one p.height) in
        let p0 = paste_in ws row i g 0 i (omega arith) (omega arith) in let p1 = paste_in ws row i g 1 (i + 1) (omega arith) (omega arith) in let p2 = paste_in ws row i g 2 (i + 2) (omega arith) (omega arith) in
        let p3 = paste_in ws row i g 3 (i + 3) (omega arith) (omega arith) in let p4 = paste_in ws row i g 4 (i + 4) (omega arith) (omega arith) in
        let s = frames_kept k (frames_at b) p.height ws us (λ j a c. paste_below ws row i g j (omega arith)) in
        let fs : frames_in k (frames_at b) (p.height + 1) us ≡ frame_by k ty from to sig next ∷ frames_in k (frames_at b) p.height ws = q ∙ (λ x. frame_by k (p0 x) (p1 x) (p2 x) (p3 x) (p4 x) ∷ s x) in
        let ns = names_kept k line (names_at b) p.names ws us (λ j a c. paste_below ws row i g j (omega arith)) in
        let os = said_kept k line (code_end b) p.events ws us (λ j a c. paste_below ws row i g j (omega arith)) in
        λ x. state (fs x) (ns x) (os x);
  })
    where
      row : List ℕ
      row = ty ∷ from ∷ to ∷ sig ∷ next ∷ []

      i : ℕ
      i = b.base + 20 * b.count + 5 * p.height

      us : List ℕ
      us = pasted ws i row

      g : i + length row ≤ length ws
      g = omega (arith, f.enough)

  pub pushes : (v : Frame) (vs : List ℕ) → p.height < b.count → vs ≡ pasted ws (b.base + 20 * b.count + 5 * p.height) (frame_row v) → Writes b p ws (record { height = p.height + 1; names = p.names; events = p.events }) vs (λ k line. with_frame (frame_is k v))
  pushes v vs l e = go v.slots e
    where
      go : (s : Maybe Slots) → vs ≡ pasted ws (b.base + 20 * b.count + 5 * p.height) (v.ty.0 ∷ v.span.from ∷ v.span.to ∷ slots_row s) → Writes b p ws (record { height = p.height + 1; names = p.names; events = p.events }) vs (λ k line. with_frame (record { ty = typ k v.ty.0; from = v.span.from; to = v.span.to; slots = slots_is k s }))
      go None u = pushes_by v.ty.0 v.span.from v.span.to 0 0 vs l u
      go (Some s) u =
          let w = pushes_by v.ty.0 v.span.from v.span.to s.sig.0 (s.next + 1) vs l u in
          record { before = w.before; becomes = λ k line. w.becomes k line ∙ ap (λ ss. with_frame (record { ty = typ k v.ty.0; from = v.span.from; to = v.span.to; slots = ss }) (means k line b p ws)) (slots_packed k s.sig.0 s.next) }

  pub binds : (v : Bound) (vs : List ℕ) → p.names < b.count → vs ≡ pasted ws (b.base + 17 * b.count + 3 * p.names) (bound_row v) → Writes b p ws (record { height = p.height; names = p.names + 1; events = p.events }) vs (λ k line. with_name (bound_is k line v))
  binds v vs l e = subst (λ x. Writes b p ws (record { height = p.height; names = p.names + 1; events = p.events }) x (λ k line. with_name (bound_is k line v))) (sym e) (record {
    before = paste_front ws row i g (code_end b) (omega arith);
    becomes = λ k line.
        let q = ap (λ h. names_in k line (names_at b) h us) (add-one p.names) in
        let p0 = paste_in ws row i g 0 i (omega arith) (omega arith) in let p1 = paste_in ws row i g 1 (i + 1) (omega arith) (omega arith) in let p2 = paste_in ws row i g 2 (i + 2) (omega arith) (omega arith) in
        let s = names_kept k line (names_at b) p.names ws us (λ j a c. paste_below ws row i g j (omega arith)) in
        let ns : names_in k line (names_at b) (p.names + 1) us ≡ bound_is k line v ∷ names_in k line (names_at b) p.names ws = q ∙ (λ x. bound_is k line (bound_words (p0 x) (p1 x) (p2 x)) ∷ s x) in
        let fs = frames_kept k (frames_at b) p.height ws us (λ j a c. paste_above ws row i g j (omega arith)) in
        let os = said_kept k line (code_end b) p.events ws us (λ j a c. paste_below ws row i g j (omega (arith, f.said_fit))) in
        λ x. state (fs x) (ns x) (os x);
  })
    where
      row : List ℕ
      row = bound_row v

      i : ℕ
      i = b.base + 17 * b.count + 3 * p.names

      us : List ℕ
      us = pasted ws i row

      g : i + length row ≤ length ws
      g = omega (arith, f.enough)

  notes_by : (t from to n : ℕ) (vs : List ℕ) → p.events < 3 * b.count → vs ≡ pasted ws (b.base + 5 * b.count + 4 * p.events) (t ∷ from ∷ to ∷ n ∷ []) → Writes b p ws (record { height = p.height; names = p.names; events = p.events + 1 }) vs (λ k line. with_said (event_said k line t from to n))
  notes_by t from to n vs l e = subst (λ x. Writes b p ws (record { height = p.height; names = p.names; events = p.events + 1 }) x (λ k line. with_said (event_said k line t from to n))) (sym e) (record {
    before = paste_front ws row i g (code_end b) (omega arith);
    becomes = λ k line.
        let q = ap (λ h. said_in k line (code_end b) h us) (add-one p.events) in
        let p0 = paste_in ws row i g 0 i (omega arith) (omega arith) in let p1 = paste_in ws row i g 1 (i + 1) (omega arith) (omega arith) in let p2 = paste_in ws row i g 2 (i + 2) (omega arith) (omega arith) in
        let p3 = paste_in ws row i g 3 (i + 3) (omega arith) (omega arith) in
        let s = said_kept k line (code_end b) p.events ws us (λ j a c. paste_below ws row i g j (omega arith)) in
        let os : said_in k line (code_end b) (p.events + 1) us ≡ add (said_in k line (code_end b) p.events ws) (event_said k line t from to n) = q ∙ (λ x. add (s x) (event_said k line (p0 x) (p1 x) (p2 x) (p3 x))) in
        let fs = frames_kept k (frames_at b) p.height ws us (λ j a c. paste_above ws row i g j (omega arith)) in
        let ns = names_kept k line (names_at b) p.names ws us (λ j a c. paste_above ws row i g j (omega arith)) in
        λ x. state (fs x) (ns x) (os x);
  })
    where
      row : List ℕ
      row = t ∷ from ∷ to ∷ n ∷ []

      i : ℕ
      i = b.base + 5 * b.count + 4 * p.events

      us : List ℕ
      us = pasted ws i row

      g : i + length row ≤ length ws
      g = omega (arith, f.enough)

  pub notes : (v : Event) (vs : List ℕ) → p.events < 3 * b.count → vs ≡ pasted ws (b.base + 5 * b.count + 4 * p.events) (event_row v) → Writes b p ws (record { height = p.height; names = p.names; events = p.events + 1 }) vs (λ k line. with_said (event_is k line v))
  notes v vs l e = go v.said e
    where
      go : (s : Said) → vs ≡ pasted ws (b.base + 5 * b.count + 4 * p.events) (event_words v.span.from v.span.to s) → Writes b p ws (record { height = p.height; names = p.names; events = p.events + 1 }) vs (λ k line. with_said (told_is k (span_of line v.span) s))
      go (Fault n) u = notes_by 0 v.span.from v.span.to n vs l u
      go (Types w) u = notes_by 1 v.span.from v.span.to w.0 vs l u
      go (Link (Declared s)) u = notes_by 2 v.span.from v.span.to s.0 vs l u
      go (Link (ToLocal n)) u = notes_by 3 v.span.from v.span.to n vs l u
      go (Link File) u = notes_by 4 v.span.from v.span.to 0 vs l u

-- the newest frame, and the others
pub newest_is : (k : Book) (f h : ℕ) (ws : List ℕ) → 1 ≤ h → frame_at k ws (f + 5 * (h - 1)) ≡ top (frames_in k f h ws)
newest_is k f zero ws l = absurd (omega arith)
newest_is k f (suc h) ws l = let e : suc h - 1 ≡ h = omega arith in ap (λ n. frame_at k ws (f + 5 * n)) e

pub below_is : (k : Book) (f h : ℕ) (ws : List ℕ) → frames_in k f (h - 1) ws ≡ pop (frames_in k f h ws)
below_is k f zero ws = let e : zero - 1 ≡ zero = omega arith in ap (λ n. frames_in k f n ws) e
below_is k f (suc h) ws = let e : suc h - 1 ≡ h = omega arith in ap (λ n. frames_in k f n ws) e

pub unbound_is : (k : Book) (line : List ℕ) (f h : ℕ) (ws : List ℕ) → names_in k line f (h - 1) ws ≡ pop (names_in k line f h ws)
unbound_is k line f zero ws = let e : zero - 1 ≡ zero = omega arith in ap (λ n. names_in k line f n ws) e
unbound_is k line f (suc h) ws = let e : suc h - 1 ≡ h = omega arith in ap (λ n. names_in k line f n ws) e

-- the word of a part of the line
pub word_is : (ws : List ℕ) (a b len f t : ℕ) → len ≤ length ws → f ≡ min a len → t ≡ max (min b len) f → take (t - f) (drop f ws) ≡ take (b - a) (drop a (take len ws))
word_is ws a b len f t l p q = ⊎_elim inside outside (cases_lt a len)
  where
    outside : len ≤ a → take (t - f) (drop f ws) ≡ take (b - a) (drop a (take len ws))
    outside h =
        let e : t - f ≡ 0 = omega (arith, l, p, q) in
        let n = length-take-le len ws l in
        ap (λ m. take m (drop f ws)) e ∙ sym (ap (take (b - a)) (drop_all a (take len ws) (omega arith)) ∙ take_all (b - a) [] (omega arith))

    inside : a < len → take (t - f) (drop f ws) ≡ take (b - a) (drop a (take len ws))
    inside h = ⊎_elim short long1 (cases_lt b len)
      where
        short : b < len → take (t - f) (drop f ws) ≡ take (b - a) (drop a (take len ws))
        short g =
            let e : t - f ≡ b - a = omega (arith, l, p, q, h) in
            let d : f ≡ a = omega (arith, l, p, q, h) in
            (λ i. take (e i) (drop (d i) ws)) ∙ between_is ws a b ∙ ap (drop a) (sym (take-take b len ws (omega arith))) ∙ sym (between_is (take len ws) a b)

        long1 : len ≤ b → take (t - f) (drop f ws) ≡ take (b - a) (drop a (take len ws))
        long1 g =
            let e : t - f ≡ len - a = omega (arith, l, p, q, h) in
            let d : f ≡ a = omega (arith, l, p, q, h) in
            let n = length-take-le len ws l in
            (λ i. take (e i) (drop (d i) ws)) ∙ between_is ws a len ∙ ap (drop a) (sym (take_all b (take len ws) (omega arith))) ∙ sym (between_is (take len ws) a b)

-- the newest name, and the others
pub newest_name_is : (k : Book) (line : List ℕ) (f h : ℕ) (ws : List ℕ) → 0 < h → names_in k line f h ws ≡ bound_is k line (bound_at ws (f + 3 * (h - 1))) ∷ names_in k line f (h - 1) ws
newest_name_is k line f zero ws l = absurd (omega arith)
newest_name_is k line f (suc h) ws l = let e : h ≡ suc h - 1 = omega arith in ap (λ n. bound_is k line (bound_at ws (f + 3 * n)) ∷ names_in k line f n ws) e

-- a name is found, or the next one has to be looked at
pub find_hit : (x : Local) (g h : List Local) (w : Word) → g ≡ x ∷ h → same x.name.w w ≡ true → find g w ≡ some x
find_hit x g h w e s = ap (λ y. find y w) e ∙ ap (λ b. pick b (some x) (find h w)) s

pub find_miss : (x : Local) (g h : List Local) (w : Word) → g ≡ x ∷ h → same x.name.w w ≡ false → find g w ≡ find h w
find_miss x g h w e s = ap (λ y. find y w) e ∙ ap (λ b. pick b (some x) (find h w)) s

pub found_is : (g : List Local) (w : Word) (f : Bound → Local) (r : Maybe Bound) → FindSays g w f r → is_there r ≡ is_some (find g w)
found_is g w f None e = sym (ap is_some e)
found_is g w f (Some x) e = sym (ap is_some e)
