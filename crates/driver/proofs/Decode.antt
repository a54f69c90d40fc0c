-- The state that words stand for, computed: for the measure of a loop, which sees no proofs. It is the state that Doing speaks of but for
-- the tallies, so as many turns are left of it (left_decoded).
use Rattle.std.proofs.Common.{◌≡◌, ℕ, zero, suc, ◌+◌, ◌-◌, ◌*◌, ◌≤◌, eqb, List, [], ◌∷◌, ◌++◌, length, get_or, take, drop, sym, refl, ap, ◌∙◌, arith}
use Rattle.std.proofs.lemmas.List.{drop_at, take_at, drop-drop, length-drop}
use Rattle.base.specs.Base.{pick}
use Rattle.engine.specs.declared.key.Key.{Key}
use Rattle.engine.specs.Engine.{Rules, Inputs, Got, Entry, answers}
use Rattle.engine.specs.Says.{row, kept}
use Rattle.engine.specs.Machine.{Frame, looks, works, State, call, back, tell, got, left}
use Rattle.engine.proofs.Alike.{left_call_alike, left_back_alike, left_tell_alike}
use Rattle.memo.specs.Record.{key_of, deep}
use Rattle.memo.specs.Log.{kept_entries, entry_at}
use Rattle.driver.specs.declared.state.Now.{Now}
use Rattle.driver.specs.declared.state.Now.TheVariants.{Call, Back, Tell}
use Rattle.driver.specs.Rows.{key_words, stacked, work_words, Stack}
use Rattle.driver.specs.Doing.{Doing}
use Rattle.driver.proofs.Asked.{stacked_drop, stacked_long}

-- n questions with their answers, from the keys that were asked, the newest first, and from the row
abbrev pub unstacked : ℕ → List ℕ → List ℕ → List Got
unstacked zero fs rs = []
unstacked (suc n) fs rs = got (key_of (drop (3 * n) fs)) (take (get_or rs 0 0) (drop 1 rs)) ∷ unstacked n fs (drop (1 + get_or rs 0 0) rs)

key_read : (k : Key) (us : List ℕ) → key_of (key_words k us) ≡ k
key_read k us = refl

pub unstacked_is : (gs : List Got) (us : List ℕ) → unstacked (length gs) (stacked gs us) (row (answers gs)) ≡ gs
unstacked_is [] us = refl
unstacked_is (g ∷ gs) us =
    let fs = stacked gs (key_words g.key us) in
    let a = g.ans in
    let k : key_of (drop (3 * length gs) fs) ≡ g.key = ap key_of (stacked_drop gs (key_words g.key us)) ∙ key_read g.key us in
    let t : take (length a) (a ++ row (answers gs)) ≡ a = take_at a (row (answers gs)) (length a) refl in
    let z : 1 + length a ≡ suc (length a) = omega arith in
    let d : drop (1 + length a) (length a ∷ (a ++ row (answers gs))) ≡ row (answers gs) = ap (λ n. drop n (length a ∷ (a ++ row (answers gs)))) z ∙ drop_at a (row (answers gs)) (length a) refl in
    let r : unstacked (length gs) fs (drop (1 + length a) (length a ∷ (a ++ row (answers gs)))) ≡ gs = ap (unstacked (length gs) fs) d ∙ unstacked_is gs (key_words g.key us) in
    λ i. got (k i) (t i) ∷ r i

-- a frame that looks, by the questions that are left
abbrev looked : Key → Entry → List Got → List Frame → List Frame
looked k e [] st = []
looked k e (g ∷ gs) st = looks k e g gs ∷ st

-- at most n frames, from the memo, the rows and the words of the frames
abbrev mutual
  pub frames_of : ℕ → List ℕ → List ℕ → List ℕ → List Frame
  frames_of zero ms rows fs = []
  frames_of (suc n) ms rows [] = []
  frames_of (suc n) ms rows (x ∷ fs) = pick (eqb x 0) (looked (key_of fs) (entry_at ms (get_or fs 3 0)) (drop (get_or fs 4 0) (entry_at ms (get_or fs 3 0)).gots) (frames_of n ms rows (drop 6 fs)))
      (works (key_of fs) (unstacked (get_or fs 3 0) (drop 9 fs) (drop (get_or fs 4 0) rows)) (key_of (drop 6 fs)) ∷ frames_of n ms (take (get_or fs 4 0) rows) (drop (9 + 3 * get_or fs 3 0) fs))

pub frames_is : (ms : List ℕ) (st : List Frame) (n : ℕ) (rows fs : List ℕ) → length fs ≤ n → Stack ms rows fs st → frames_of n ms rows fs ≡ st
frames_is ms [] zero rows fs h s = refl
frames_is ms [] (suc n) rows fs h s = ap (frames_of (suc n) ms rows) s.1
frames_is ms (looks k e g gs ∷ st) zero rows fs h s = let x = ap length s.1.words in absurd (omega arith)
frames_is ms (looks k e g gs ∷ st) (suc n) rows fs h s =
    let us = s.0 in
    let lk = s.1 in
    let x = ap length lk.words in
    let ih = frames_is ms st n rows us (omega arith) s.2 in
    let a : frames_of (suc n) ms rows fs ≡ looked k (entry_at ms lk.d) (drop lk.i (entry_at ms lk.d).gots) (frames_of n ms rows us) = ap (frames_of (suc n) ms rows) lk.words in
    let b : drop lk.i (entry_at ms lk.d).gots ≡ g ∷ gs = ap (λ (e : Entry). drop lk.i e.gots) lk.entry ∙ lk.rest in
    a ∙ (λ t. looked k (lk.entry t) (b t) (ih t))
frames_is ms (works k gs q ∷ st) zero rows fs h s = let x = ap length s.2.words in absurd (omega arith)
frames_is ms (works k gs q ∷ st) (suc n) rows fs h s =
    let vs = s.0 in
    let us = s.1 in
    let wk = s.2 in
    let c = length gs in
    let x = ap length wk.words in
    let y = stacked_long gs us in
    let ih = frames_is ms st n vs us (omega arith) s.3 in
    let ws = work_words k c (length vs) q (stacked gs us) in
    let fd : drop (9 + 3 * c) (drop 1 ws) ≡ us = sym (drop-drop (3 * c) 9 (drop 1 ws)) ∙ stacked_drop gs us in
    let a : frames_of (suc n) ms rows fs ≡ works k (unstacked c (stacked gs us) (drop (length vs) rows)) q ∷ frames_of n ms (take (length vs) rows) (drop (9 + 3 * c) (drop 1 ws)) = ap (frames_of (suc n) ms rows) wk.words in
    let r : drop (length vs) rows ≡ row (answers gs) = ap (drop (length vs)) wk.row1 ∙ drop_at vs (row (answers gs)) (length vs) refl in
    let u : take (length vs) rows ≡ vs = ap (take (length vs)) wk.row1 ∙ take_at vs (row (answers gs)) (length vs) refl in
    let g : unstacked c (stacked gs us) (drop (length vs) rows) ≡ gs = ap (unstacked c (stacked gs us)) r ∙ unstacked_is gs us in
    let e : frames_of n ms (take (length vs) rows) (drop (9 + 3 * c) (drop 1 ws)) ≡ st = (λ t. frames_of n ms (u t) (fd t)) ∙ ih in
    a ∙ (λ t. works k (g t) q ∷ e t)

-- the state that stands between two turns
abbrev pub decoded : List ℕ → List ℕ → ℕ → ℕ → Now → State
decoded ms w r f (Call k) = call (kept (kept_entries ms)) k (frames_of f ms (take r w) (deep f w))
decoded ms w r f (Back n) = back (kept (kept_entries ms)) (take n (drop (r + 1) w)) (frames_of f ms (take r w) (deep f w))
decoded ms w r f (Tell q) = tell (kept (kept_entries ms)) q.key (unstacked q.count (deep f w) (drop q.from (take r w))) (frames_of f ms (take q.from (take r w)) (drop (3 * q.count) (deep f w)))

pub deep_short : (f : ℕ) (w : List ℕ) → length (deep f w) ≤ f
deep_short f w = let d = length-drop (length w - f) w in omega arith

module _ (b : Rules) (i : Inputs) (n₀ : ℕ) (ms w : List ℕ) (r f : ℕ) where
  pub left_decoded : (t : Now) (c : State) → Doing ms w r f t c → left b i n₀ c ≡ left b i n₀ (decoded ms w r f t)
  left_decoded (Call k) (call m j st) d =
      let e = frames_is ms st f (take r w) (deep f w) (deep_short f w) d.2 in
      left_call_alike b i n₀ m (kept (kept_entries ms)) j st d.1 ∙ (λ t. left b i n₀ (call (kept (kept_entries ms)) (sym d.0 t) (sym e t)))
  left_decoded (Call k) (back m a st) d = absurd d
  left_decoded (Call k) (tell m j gs st) d = absurd d
  left_decoded (Back n) (call m j st) d = absurd d
  left_decoded (Back n) (back m a st) d =
      let e = frames_is ms st f (take r w) (deep f w) (deep_short f w) d.4 in
      left_back_alike b i n₀ m (kept (kept_entries ms)) a st d.3 ∙ (λ t. left b i n₀ (back (kept (kept_entries ms)) (sym d.1 t) (sym e t)))
  left_decoded (Back n) (tell m j gs st) d = absurd d
  left_decoded (Tell q) (call m j st) d = absurd d
  left_decoded (Tell q) (back m a st) d = absurd d
  left_decoded (Tell q) (tell m j gs st) d =
      let n = q.count in
      let from = q.from in
      let t = d.3 in
      let fs = deep f w in
      let rows = take r w in
      let short = deep_short f w in
      let e1 : take from rows ≡ t.vs = ap (take from) t.row1 ∙ take_at t.vs (row (answers gs)) from t.from in
      let e2 : drop from rows ≡ row (answers gs) = ap (drop from) t.row1 ∙ drop_at t.vs (row (answers gs)) from t.from in
      let e3 : drop (3 * n) fs ≡ t.us = (λ x. drop (3 * d.1 x) (t.keys1 x)) ∙ stacked_drop gs t.us in
      let l1 = ap length t.keys1 in
      let l2 = stacked_long gs t.us in
      let e4 : unstacked n fs (drop from rows) ≡ gs = (λ x. unstacked (d.1 x) (t.keys1 x) (e2 x)) ∙ unstacked_is gs t.us in
      let e5 : frames_of f ms (take from rows) (drop (3 * n) fs) ≡ st = (λ x. frames_of f ms (e1 x) (e3 x)) ∙ frames_is ms st f t.vs t.us (omega (arith, short, l1, l2)) t.below in
      left_tell_alike b i n₀ m (kept (kept_entries ms)) j gs st d.2 ∙ (λ x. left b i n₀ (tell (kept (kept_entries ms)) (sym d.0 x) (sym e4 x) (sym e5 x)))
