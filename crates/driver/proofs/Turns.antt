-- Turns in words: each is the machine's.
use Rattle.std.proofs.Common.{◌≡◌, ℕ, ◌+◌, ◌-◌, List, [], ◌∷◌, ◌++◌, length, take, drop, sym, ap, ◌∙◌, append_assoc, arith, length-append}
use Rattle.engine.specs.declared.key.Key.{Key}
use Rattle.engine.specs.Engine.{Ans, Got, Kept, answers}
use Rattle.engine.specs.Says.{row}
use Rattle.engine.specs.Machine.{Frame, works, back, got, backed}
use Rattle.memo.specs.Record.{deep}
use Rattle.driver.specs.declared.state.Now.TheVariants.{Back, Tell}
use Rattle.driver.specs.declared.stack.Head.TheVariants.{Works}
use Rattle.driver.specs.declared.state.Told.{Told}
use Rattle.driver.specs.Rows.{key_words, stacked, look_words, work_words}
use Rattle.driver.specs.Says.{HeadSays}
use Rattle.driver.specs.Doing.{Doing, asks}
use Rattle.driver.proofs.Asked.{stacked_append, row_append}

-- the first words of a frame that works
pub record WorkHead (t : Told) (ws : List ℕ) (k : Key) (n from : ℕ) (q : Key) (us : List ℕ) : Type 0 where
  pub key1 : t.key ≡ k
  pub count : t.count ≡ n
  pub from1 : t.from ≡ from
  pub rest : ws ≡ key_words q us

pub work_head : (t : Told) (fs ws : List ℕ) (k : Key) (n from : ℕ) (q : Key) (us : List ℕ) → HeadSays (Works t) fs ws → fs ≡ work_words k n from q us → WorkHead t ws k n from q us
work_head t fs ws k n from q us h e =
    let p : h.0 ∷ key_words t.key (t.count ∷ t.from ∷ h.1 ∷ ws) ≡ work_words k n from q us = sym h.4 ∙ e in
    let a : t.key.kind ≡ k.kind = cc in
    let b : t.key.a ≡ k.a = cc in
    let c : t.key.b ≡ k.b = cc in
    record { key1 = λ i. record { kind = a i; a = b i; b = c i }; count = cc; from1 = cc; rest = cc }

-- a frame is of one sort
pub works_no_look : (t : Told) (fs ws : List ℕ) (k : Key) (d i q : ℕ) (us : List ℕ) → HeadSays (Works t) fs ws → fs ≡ look_words k d i q us → ⊥
works_no_look t fs ws k d i q us h e =
    let p : h.0 ∷ key_words t.key (t.count ∷ t.from ∷ h.1 ∷ ws) ≡ look_words k d i q us = sym h.4 ∙ e in
    h.2 (cc)

pub looks_no_work : (key : Key) (x y z : ℕ) (ws : List ℕ) (k : Key) (n from : ℕ) (q : Key) (us : List ℕ) → look_words key x y z ws ≡ work_words k n from q us → ⊥
looks_no_work key x y z ws k n from q us e = let z : ◌≡◌ {A = ℕ} 0 1 = cc in absurd (omega arith)

pub back_works : (ms w v : List ℕ) (r f n : ℕ) (t : Told) → HeadSays (Works t) (deep f w) (deep (f - 7) w)
    → take (r + (1 + n)) v ≡ take r w ++ (n ∷ take n (drop (r + 1) w)) → deep (f - 7) v ≡ deep (f - 7) w
    → (m : Kept) (a : Ans) (k : Key) (gs : List Got) (q : Key) (st : List Frame) → Doing ms w r f (Back n) (back m a (works k gs q ∷ st)) → Doing ms v (r + (1 + n)) (f - 7) (Tell (asks t.key (t.count + 1) t.from)) (backed m a (works k gs q ∷ st))
back_works ms w v r f n t h added same1 m a k gs q st d =
    let s = d.4 in
    let vs = s.0 in
    let us = s.1 in
    let wk = s.2 in
    let g = got q a in
    let hd = work_head t (deep f w) (deep (f - 7) w) k (length gs) (length vs) q (stacked gs us) h wk.words in
    let el : n ≡ length a = d.0 in
    let ea : take n (drop (r + 1) w) ≡ a = d.1 in
    let c = hd.count in
    let l = length-append gs (g ∷ []) in (
      hd.key1,
      omega arith,
      d.3,
      record {
        vs = vs;
        us = us;
        from = sym hd.from1;
        row1 = added ∙ (λ t. wk.row1 t ++ (el t ∷ ea t)) ∙ append_assoc vs (row (answers gs)) (length a ∷ a) ∙ ap (λ l. vs ++ l) (sym (row_append gs g));
        keys1 = same1 ∙ hd.rest ∙ sym (stacked_append gs (g ∷ []) us);
        below = s.3;
      },
    )
