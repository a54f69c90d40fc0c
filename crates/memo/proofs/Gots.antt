-- Reading what a record asked, one question after the other (got_says).
use Rattle.std.proofs.Common.{◌≡◌, ℕ, zero, suc, ◌+◌, ◌-◌, ◌*◌, ◌<◌, ◌≤◌, List, ◌∷◌, length, get_or, take, drop, sym, refl, ap, ◌∙◌, subst, arith}
use Rattle.std.proofs.lemmas.List.{drop-drop, get_or-drop}
use Rattle.engine.specs.declared.key.Key.{Key}
use Rattle.engine.specs.Engine.{Got}
use Rattle.memo.specs.Record.{key_of, gots_of, row_long, size, keys_in, row_in, entry_of, deep}
use Rattle.memo.specs.Log.{entry_at, Fits, Record}
use Rattle.memo.specs.Says.{AtGot, Looks, GotSays}
use Rattle.memo.proofs.Places.{stands}

pub gots_count : (c : ℕ) (ks row : List ℕ) → length (gots_of c ks row) ≡ c
gots_count zero ks row = refl
gots_count (suc c) ks row = ap suc (gots_count c (drop 3 ks) (drop (1 + get_or row 0 0) row))

pub asked_count : (ws : List ℕ) (d : ℕ) → length (entry_at ws d).gots ≡ get_or (deep d ws) 5 0
unfolding entry_at entry_of
asked_count ws d = gots_count (get_or (deep d ws) 5 0) (keys_in (deep d ws)) (row_in (deep d ws))

pub first_got : (ws : List ℕ) (d : ℕ) → Fits ws → Record ws d → Looks ws d 0 0
first_got ws d f r =
    let s = stands ws d f r in
    let e = s.one.row1 in
    let l = deep d ws in
    let z : get_or l 5 0 - 0 ≡ get_or l 5 0 = omega arith in
    record {
      record1 = r;
      «at» = record {
        low = omega arith;
        within = ap (λ n. row_long n (row_in l) + 0) z ∙ (let q : row_long (get_or l 5 0) (row_in l) + 0 ≡ get_or l 6 0 = omega arith in q);
        is = ap (λ n. gots_of n (keys_in l) (row_in l)) z;
      };
    }

-- the words of the i-th thing asked
module _ (l : List ℕ) (i q : ℕ) (g : AtGot l i q) (h : i < get_or l 5 0) where
  abbrev a : ℕ
  a = get_or l 4 0

  abbrev c : ℕ
  c = get_or l 5 0

  abbrev ks : List ℕ
  ks = drop (3 * i) (keys_in l)

  abbrev row : List ℕ
  row = drop q (row_in l)

  abbrev j : ℕ
  j = c - i - 1

  abbrev m : ℕ
  m = get_or l (7 + (a + 3 * c) + q) 0

  one_more : c - i ≡ suc j
  one_more = omega arith

  m_is : get_or row 0 0 ≡ m
  m_is = let z : 7 + (a + 3 * c) + (q + 0) ≡ 7 + (a + 3 * c) + q = omega arith in get_or-drop q (row_in l) 0 0 ∙ get_or-drop (7 + (a + 3 * c)) l (q + 0) 0 ∙ ap (λ n. get_or l n 0) z

  abbrev key1 : Key
  key1 = key_of (drop (7 + a + 3 * i) l)

  key_is : key_of ks ≡ key1
  key_is = ap key_of (drop-drop (3 * i) (7 + a) l)

  abbrev ans1 : List ℕ
  ans1 = take m (drop (7 + (a + 3 * c) + q + 1) l)

  ans_is : take (get_or row 0 0) (drop 1 row) ≡ ans1
  ans_is =
      let z : 7 + (a + 3 * c) + (q + 1) ≡ 7 + (a + 3 * c) + q + 1 = omega arith in
      ap (λ n. take n (drop 1 row)) m_is ∙ ap (take m) (drop-drop 1 q (row_in l) ∙ drop-drop (q + 1) (7 + (a + 3 * c)) l ∙ ap (λ n. drop n l) z)

  abbrev rest : List Got
  rest = gots_of j (drop 3 ks) (drop (1 + get_or row 0 0) row)

  now_is : drop i (gots_of c (keys_in l) (row_in l)) ≡ record { key = key1; ans = ans1 } ∷ rest
  now_is = let k = key_is in let x = ans_is in sym g.is ∙ ap (λ n. gots_of n ks row) one_more ∙ (λ t. record { key = k t; ans = x t } ∷ rest)

  rest_is : drop (i + 1) (gots_of c (keys_in l) (row_in l)) ≡ rest
  rest_is = sym (drop-drop 1 i (gots_of c (keys_in l) (row_in l))) ∙ ap (drop 1) now_is

  pub got_fits : 7 + (a + 3 * c) + q + 1 + m ≤ size l
  got_fits = let w = sym (ap (λ n. row_long n row + q) one_more) ∙ g.within in let e = m_is in omega arith

  pub got_is : drop i (gots_of c (keys_in l) (row_in l)) ≡ record { key = key1; ans = ans1 } ∷ drop (i + 1) (gots_of c (keys_in l) (row_in l))
  got_is = now_is ∙ ap (λ r. record { key = key1; ans = ans1 } ∷ r) (sym rest_is)

  pub got_next : AtGot l (i + 1) (q + (1 + m))
  got_next =
      let w = sym (ap (λ n. row_long n row + q) one_more) ∙ g.within in
      let e = m_is in
      let n1 : c - (i + 1) ≡ j = omega arith in
      let n3 : 3 * (i + 1) ≡ 3 * i + 3 = omega arith in
      let d3 : drop (3 * (i + 1)) (keys_in l) ≡ drop 3 ks = ap (λ n. drop n (keys_in l)) n3 ∙ sym (drop-drop 3 (3 * i) (keys_in l)) in
      let dr : drop (q + (1 + m)) (row_in l) ≡ drop (1 + get_or row 0 0) row = sym (drop-drop (1 + m) q (row_in l)) ∙ ap (λ n. drop (1 + n) row) (sym e) in
      let rl : row_long (c - (i + 1)) (drop (q + (1 + m)) (row_in l)) ≡ row_long j (drop (1 + get_or row 0 0) row) = λ t. row_long (n1 t) (dr t) in
      record {
        low = omega arith;
        within = omega arith;
        is = (λ t. gots_of (n1 t) (d3 t) (dr t)) ∙ sym rest_is;
      }

-- all that a look needs
pub record Looking (ws : List ℕ) (d i q : ℕ) : Type 0 where
  pub within : d ≤ length ws
  pub head : 7 ≤ d
  pub key1 : 7 + get_or (deep d ws) 4 0 + 3 * i + 2 < d
  pub ans1 : 7 + (get_or (deep d ws) 4 0 + 3 * get_or (deep d ws) 5 0) + q + 1 + get_or (deep d ws) (7 + (get_or (deep d ws) 4 0 + 3 * get_or (deep d ws) 5 0) + q) 0 ≤ d

pub looking : (ws : List ℕ) (d i q : ℕ) → Fits ws → Looks ws d i q → i < length (entry_at ws d).gots → Looking ws d i q
looking ws d i q f g h =
    let s = stands ws d f g.record1 in
    let e = asked_count ws d in
    let r = got_fits (deep d ws) i q g.«at» (omega arith) in
    let w = s.within in
    let n = s.inside in
    record { within = w; head = omega arith; key1 = omega arith; ans1 = omega arith }

pub got_says : (ws : List ℕ) (d i q : ℕ) → Looks ws d i q → i < length (entry_at ws d).gots → (a c n : ℕ) (k : Key) (as₁ : List ℕ)
    → a ≡ get_or (deep d ws) 4 0 → c ≡ get_or (deep d ws) 5 0 → n ≡ get_or (deep d ws) (7 + (a + 3 * c) + q) 0
    → k ≡ key_of (drop (7 + a + 3 * i) (deep d ws))
    → as₁ ≡ take n (drop (7 + (a + 3 * c) + q + 1) (deep d ws)) → GotSays ws d i k as₁ (q + (1 + n))
unfolding entry_at entry_of
got_says ws d i q g h a c n k as₁ ea ec en ek es =
    let l = deep d ws in
    let e = asked_count ws d in
    let h1 : i < get_or l 5 0 = omega arith in
    let x = got_is l i q g.«at» h1 in
    let en1 : n ≡ get_or l (7 + (get_or l 4 0 + 3 * get_or l 5 0) + q) 0 = en ∙ (λ t. get_or l (7 + (ea t + 3 * ec t) + q) 0) in
    let k1 = ek ∙ ap (λ m. key_of (drop (7 + m + 3 * i) l)) ea in
    let s1 = es ∙ (λ t. take (en1 t) (drop (7 + (ea t + 3 * ec t) + q + 1) l)) in
    record {
      is = x ∙ (λ t. record { key = sym k1 t; ans = sym s1 t } ∷ drop (i + 1) (gots_of (get_or l 5 0) (keys_in l) (row_in l)));
      looks = record { record1 = g.record1; «at» = subst (λ m. AtGot l (i + 1) (q + (1 + m))) (sym en1) (got_next l i q g.«at» h1) };
    }
