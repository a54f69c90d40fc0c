-- The keys that a rule asked as they stand in the stack, the newest first, and in order; and the row of what it got.
use Rattle.std.proofs.Common.{◌≡◌, ℕ, zero, suc, ◌+◌, ◌-◌, ◌*◌, ◌<◌, List, [], ◌∷◌, ◌++◌, length, take, drop, sym, refl, ap, ◌∙◌, append_assoc, append-nil, reverse, arith}
use borrow.Rule.Slice.PartMut.{put_mid}
use Rattle.std.proofs.lemmas.List.{drop-drop, take_at, drop_at, reverse-append}
use Rattle.engine.specs.declared.key.Key.{Key}
use Rattle.engine.specs.Engine.{Got, answers}
use Rattle.engine.specs.Says.{row}
use Rattle.memo.specs.Rows.{keys}
use Rattle.memo.proofs.Rows.{keys_long}
use Rattle.driver.specs.Rows.{key_words, stacked}

pub stacked_append : (xs ys : List Got) (us : List ℕ) → stacked (xs ++ ys) us ≡ stacked ys (stacked xs us)
stacked_append [] ys us = refl
stacked_append (x ∷ xs) ys us = stacked_append xs ys (key_words x.key us)

pub stacked_long : (gs : List Got) (us : List ℕ) → length (stacked gs us) ≡ 3 * length gs + length us
stacked_long [] us = omega arith
stacked_long (g ∷ gs) us = let e = stacked_long gs (key_words g.key us) in omega arith

drop_three : (k : Key) (us : List ℕ) → drop 3 (key_words k us) ≡ us
drop_three k us = refl

pub stacked_drop : (gs : List Got) (us : List ℕ) → drop (3 * length gs) (stacked gs us) ≡ us
stacked_drop [] us = refl
stacked_drop (g ∷ gs) us =
    let z : 3 * length (g ∷ gs) ≡ 3 * length gs + 3 = omega arith in
    ap (λ n. drop n (stacked gs (key_words g.key us))) z ∙ sym (drop-drop 3 (3 * length gs) (stacked gs (key_words g.key us))) ∙ ap (drop 3) (stacked_drop gs (key_words g.key us)) ∙ drop_three g.key us

pub stacked_on : (gs : List Got) (us : List ℕ) → stacked gs us ≡ stacked gs [] ++ us
stacked_on [] us = refl
stacked_on (g ∷ gs) us =
    let k = g.key in
    stacked_on gs (key_words k us) ∙ sym (append_assoc (stacked gs []) (key_words k []) us) ∙ ap (λ l. l ++ us) (sym (stacked_on gs (key_words k [])))

pub stacked_take : (gs : List Got) (us : List ℕ) → take (3 * length gs) (stacked gs us) ≡ stacked gs []
stacked_take gs us = let l = stacked_long gs [] in ap (take (3 * length gs)) (stacked_on gs us) ∙ take_at (stacked gs []) us (3 * length gs) (omega arith)

pub row_append : (xs : List Got) (g : Got) → row (answers (xs ++ (g ∷ []))) ≡ row (answers xs) ++ (length g.ans ∷ g.ans)
row_append [] g = ap (λ l. length g.ans ∷ l) (no_more g.ans)
  where
    no_more : (a : List ℕ) → a ++ [] ≡ a
    no_more [] = refl
    no_more (x ∷ a) = ap (λ l. x ∷ l) (no_more a)
row_append (x ∷ xs) g = ap (λ l. length x.ans ∷ l) (ap (λ l. x.ans ++ l) (row_append xs g) ∙ sym (append_assoc x.ans (row (answers xs)) (length g.ans ∷ g.ans)))

pub keys_append : (xs : List Got) (g : Got) → keys (xs ++ (g ∷ [])) ≡ keys xs ++ key_words g.key []
keys_append [] g = refl
keys_append (x ∷ xs) g = ap (λ l. x.key.kind ∷ x.key.a ∷ x.key.b ∷ l) (keys_append xs g)

-- a list at one of its places
pub record Split (gs : List Got) (i : ℕ) : Type 0 where
  pub g : Got
  pub xs : List Got
  pub ys : List Got
  pub long : length xs ≡ i
  pub now1 : take i gs ≡ xs
  pub next : take (i + 1) gs ≡ xs ++ (g ∷ [])
  pub rest : drop i gs ≡ g ∷ ys
  pub after : drop (i + 1) gs ≡ ys

pub split : (gs : List Got) (i : ℕ) → i < length gs → Split gs i
split [] i h = absurd (omega arith)
split (g ∷ gs) zero h = record { g = g; xs = []; ys = gs; long = refl; now1 = refl; next = refl; rest = refl; after = refl }
split (g ∷ gs) (suc i) h =
    let s = split gs i (omega arith) in
    let l = s.long in
    let z : suc i + 1 ≡ suc (i + 1) = omega arith in
    record {
      g = s.g;
      xs = g ∷ s.xs;
      ys = s.ys;
      long = omega arith;
      now1 = ap (λ l. g ∷ l) s.now1;
      next = ap (λ n. take n (g ∷ gs)) z ∙ ap (λ l. g ∷ l) s.next;
      rest = s.rest;
      after = ap (λ n. drop n (g ∷ gs)) z ∙ s.after;
    }

-- the keys with their words the wrong way round
abbrev pub backwards : List Got → List ℕ
backwards [] = []
backwards (g ∷ gs) = g.key.b ∷ g.key.a ∷ g.key.kind ∷ backwards gs

pub backwards_long : (gs : List Got) → length (backwards gs) ≡ 3 * length gs
backwards_long [] = refl
backwards_long (g ∷ gs) = let e = backwards_long gs in omega arith

pub stacked_reverse : (gs : List Got) (us : List ℕ) → reverse (stacked gs us) ≡ reverse us ++ backwards gs
stacked_reverse [] us = sym (append-nil (reverse us))
stacked_reverse (g ∷ gs) us =
    let k = g.key in
    stacked_reverse gs (key_words k us) ∙ ap (λ l. l ++ backwards gs) (reverse-append (k.kind ∷ k.a ∷ k.b ∷ []) us) ∙ append_assoc (reverse us) (k.b ∷ k.a ∷ k.kind ∷ []) (backwards gs)

-- the i-th key's words put the right way round
pub turn_one : (gs : List Got) (i : ℕ) (cur rev : List ℕ) → i < length gs → cur ≡ keys (take i gs) ++ backwards (drop i gs) → rev ≡ reverse (take (3 * i + 3 - 3 * i) (drop (3 * i) cur))
    → put_mid (3 * i) (3 * i + 3 - 3 * i) cur rev ≡ keys (take (i + 1) gs) ++ backwards (drop (i + 1) gs)
turn_one gs i cur rev h ec er =
    let s = split gs i h in
    let k = s.g.key in
    let ks = keys s.xs in
    let rest = k.b ∷ k.a ∷ k.kind ∷ backwards s.ys in
    let l = s.long in
    let lk = keys_long s.xs in
    let m3 : 3 * i + 3 - 3 * i ≡ 3 = omega arith in
    let e : cur ≡ ks ++ rest = ec ∙ (λ t. keys (s.now1 t) ++ backwards (s.rest t)) in
    let ct : take (3 * i) cur ≡ ks = ap (take (3 * i)) e ∙ take_at ks rest (3 * i) (omega arith) in
    let cd : drop (3 * i) cur ≡ rest = ap (drop (3 * i)) e ∙ drop_at ks rest (3 * i) (omega arith) in
    let r : rev ≡ key_words k [] = er ∙ (λ t. reverse (take (m3 t) (cd t))) in
    let more : ks ++ key_words k [] ≡ keys (take (i + 1) gs) = sym (ap keys s.next ∙ keys_append s.xs s.g) in
    (λ t. ct t ++ (r t ++ drop (m3 t) (cd t))) ∙ sym (append_assoc ks (key_words k []) (backwards s.ys)) ∙ (λ t. more t ++ backwards (sym s.after t))
