-- Faults gathered in words, one after the other.
use Rattle.std.proofs.Common.{◌≡◌, ℕ, zero, suc, ◌+◌, ◌*◌, ◌<◌, ◌≤◌, ◌≢◌, List, [], ◌∷◌, ◌++◌, length, get_or, take, drop, set, sym, refl, ap, ◌∙◌, append_assoc, append-nil, arith}
use Rattle.std.proofs.lemmas.List.{get_or-set_same, get_or-set_other, get_or-take, get_or-drop, get_or_append_left, take-set-le, take-take, length-set, length-take-le}
use Rattle.semantics.specs.Check.{Fault, fault}
use Rattle.semantics.specs.Answers.{fault_words}
use Rattle.findings.specs.Said.{fault_of, fault_in, faults_read}
use Rattle.findings.specs.Gathered.{three, three_at, gathered, four, Gathering}

-- words elsewhere stay
pub four_other : (ws : List ℕ) (i s a b x j : ℕ) → (j < i) → get_or (four ws i s a b x) j 0 ≡ get_or ws j 0
four_other ws i s a b x j h =
    let n0 : j ≢ i = omega arith in
    let n1 : j ≢ i + 1 = omega arith in
    let n2 : j ≢ i + 2 = omega arith in
    let n3 : j ≢ i + 3 = omega arith in
    get_or-set_other _ (i + 3) j x 0 n3 ∙ get_or-set_other _ (i + 2) j b 0 n2 ∙ get_or-set_other _ (i + 1) j a 0 n1 ∙ get_or-set_other ws i j s 0 n0

pub four_three : (ws : List ℕ) (i s a b x : ℕ) → i + 4 ≤ length ws → three_at (four ws i s a b x) i ≡ three s a b x
four_three ws i s a b x h = cc (w0, w1, w2, w3)
  where
    l1 : length (set ws i s) ≡ length ws
    l1 = length-set ws i s

    l2 : length (set (set ws i s) (i + 1) a) ≡ length ws
    l2 = length-set (set ws i s) (i + 1) a ∙ l1

    l3 : length (set (set (set ws i s) (i + 1) a) (i + 2) b) ≡ length ws
    l3 = length-set (set (set ws i s) (i + 1) a) (i + 2) b ∙ l2

    ne : (m n : ℕ) → m < n → m ≢ n
    ne m n l = omega arith

    w0 : get_or (four ws i s a b x) i 0 ≡ s
    w0 = get_or-set_other _ (i + 3) i x 0 (ne i (i + 3) (omega arith)) ∙ get_or-set_other _ (i + 2) i b 0 (ne i (i + 2) (omega arith)) ∙ get_or-set_other _ (i + 1) i a 0 (ne i (i + 1) (omega arith)) ∙ get_or-set_same ws i s 0 (omega arith)

    w1 : get_or (four ws i s a b x) (i + 1) 0 ≡ a
    w1 = get_or-set_other _ (i + 3) (i + 1) x 0 (ne (i + 1) (i + 3) (omega arith)) ∙ get_or-set_other _ (i + 2) (i + 1) b 0 (ne (i + 1) (i + 2) (omega arith)) ∙ get_or-set_same (set ws i s) (i + 1) a 0 (omega (arith, l1))

    w2 : get_or (four ws i s a b x) (i + 2) 0 ≡ b
    w2 = get_or-set_other _ (i + 3) (i + 2) x 0 (ne (i + 2) (i + 3) (omega arith)) ∙ get_or-set_same (set (set ws i s) (i + 1) a) (i + 2) b 0 (omega (arith, l2))

    w3 : get_or (four ws i s a b x) (i + 3) 0 ≡ x
    w3 = get_or-set_same (set (set (set ws i s) (i + 1) a) (i + 2) b) (i + 3) x 0 (omega (arith, l3))

pub four_front : (ws : List ℕ) (i s a b x n : ℕ) → n ≤ i → take n (four ws i s a b x) ≡ take n ws
four_front ws i s a b x n h = take-set-le n _ (i + 3) x (omega arith) ∙ take-set-le n _ (i + 2) b (omega arith) ∙ take-set-le n _ (i + 1) a (omega arith) ∙ take-set-le n ws i s h

-- what was gathered stays where its words do
pub gathered_same : (us vs : List ℕ) (q m : ℕ) → ((j : ℕ) → j < q + 4 * m → get_or us j 0 ≡ get_or vs j 0) → gathered us q m ≡ gathered vs q m
gathered_same us vs q zero h = refl
gathered_same us vs q (suc m) h =
    let r = gathered_same us vs q m (λ j l. h j (omega arith)) in
    let w0 = h (q + 4 * m) (omega arith) in
    let w1 = h (q + 4 * m + 1) (omega arith) in
    let w2 = h (q + 4 * m + 2) (omega arith) in
    let w3 = h (q + 4 * m + 3) (omega arith) in
    cc

pub four_long : (ws : List ℕ) (i s a b x : ℕ) → length (four ws i s a b x) ≡ length ws
four_long ws i s a b x = length-set _ (i + 3) x ∙ length-set _ (i + 2) b ∙ length-set _ (i + 1) a ∙ length-set ws i s

pub words_append : (s : ℕ) (xs ys : List Fault) → fault_words s (xs ++ ys) ≡ fault_words s xs ++ fault_words s ys
words_append s [] ys = refl
words_append s (x ∷ xs) ys = ap (λ r. (s + x.from) ∷ (s + x.to) ∷ x.sort ∷ r) (words_append s xs ys)

-- what is said in the part behind a place is what is said from there on
pub fault_behind : (ws : List ℕ) (at1 i : ℕ) → fault_in (drop at1 ws) i ≡ fault_in ws (at1 + i)
fault_behind ws at1 i =
    let a : at1 + (i + 1) ≡ at1 + i + 1 = omega arith in
    let b : at1 + (i + 2) ≡ at1 + i + 2 = omega arith in
    let c : at1 + (i + 3) ≡ at1 + i + 3 = omega arith in
    let w0 = get_or-drop at1 ws i 0 in
    let w1 = get_or-drop at1 ws (i + 1) 0 ∙ ap (λ j. get_or ws j 0) a in
    let w2 = get_or-drop at1 ws (i + 2) 0 ∙ ap (λ j. get_or ws j 0) b in
    let w3 = get_or-drop at1 ws (i + 3) 0 ∙ ap (λ j. get_or ws j 0) c in
    (λ k. fault_of (w0 k) (w1 k) (w2 k) (w3 k))

module _ (ws : List ℕ) (at1 s q n : ℕ) where
  -- at the beginning none is there yet
  pub none_yet : (low : List ℕ) → q ≤ at1 → q + 4 * n ≤ at1 → at1 ≤ length ws → low ≡ take at1 ws → Gathering ws at1 s q n low n 0
  none_yet low h l w e =
      record {
        long = ap length e ∙ length-take-le at1 ws w;
        front = ap (take q) e ∙ take-take q at1 ws h;
        adds = gathered_same low ws q n (λ j k. ap (λ z. get_or z j 0) e ∙ get_or-take at1 ws j 0 (omega arith)) ∙ sym (append-nil (gathered ws q n));
        few = omega arith;
      }

  module _ (vs : List ℕ) (m i : ℕ) (g : Gathering ws at1 s q n vs m i) (row : List ℕ) (part : row ≡ drop at1 ws) where
    read_more : (xs : List Fault) → fault_in row (4 * i) ≡ xs → fault_words s (faults_read ws at1 (i + 1)) ≡ fault_words s (faults_read ws at1 i) ++ fault_words s xs
    read_more xs e =
        let more : i + 1 ≡ suc i = omega arith in
        ap (λ k. fault_words s (faults_read ws at1 k)) more ∙ words_append s (faults_read ws at1 i) (fault_in ws (at1 + 4 * i)) ∙ ap (λ ys. fault_words s (faults_read ws at1 i) ++ fault_words s ys) (sym (fault_behind ws at1 (4 * i)) ∙ ap (λ r. fault_in r (4 * i)) (sym part) ∙ e)

    -- something said that isn't a fault, and a fault
    pub none_more : fault_in row (4 * i) ≡ [] → Gathering ws at1 s q n vs m (i + 1)
    none_more e =
        record {
          long = g.long;
          front = g.front;
          adds = g.adds ∙ ap (λ r. gathered ws q n ++ r) (sym (read_more [] e ∙ append-nil (fault_words s (faults_read ws at1 i))));
          few = omega (arith, g.few);
        }

    pub one_more : (a b x : ℕ) → q + 4 * m + 4 ≤ at1 → fault_in row (4 * i) ≡ fault a b x ∷ [] → Gathering ws at1 s q n (four vs (q + 4 * m) s a b x) (m + 1) (i + 1)
    one_more a b x h e =
        let us = four vs (q + 4 * m) s a b x in
        let more : m + 1 ≡ suc m = omega arith in
        let kept : gathered us q m ≡ gathered vs q m = gathered_same us vs q m (λ j l. four_other vs (q + 4 * m) s a b x j l) in
        let put : three_at us (q + 4 * m) ≡ three s a b x = four_three vs (q + 4 * m) s a b x (omega (arith, g.long)) in
        record {
          long = four_long vs (q + 4 * m) s a b x ∙ g.long;
          front = four_front vs (q + 4 * m) s a b x q (omega arith) ∙ g.front;
          adds = ap (λ c. gathered us q c) more ∙ (λ j. (kept ∙ g.adds) j ++ put j) ∙ append_assoc (gathered ws q n) (fault_words s (faults_read ws at1 i)) (three s a b x) ∙ ap (λ r. gathered ws q n ++ r) (sym (read_more (fault a b x ∷ []) e));
          few = omega (arith, g.few);
        }

  -- at the end, with what stands behind
  pub all_in : (vs row : List ℕ) (m i k : ℕ) → Gathering ws at1 s q n vs m i → i ≡ k → q + 4 * (n + k) ≤ at1 → gathered (vs ++ row) q m ≡ gathered ws q n ++ fault_words s (faults_read ws at1 k)
  all_in vs row m i k g z h = gathered_same (vs ++ row) vs q m (λ j l. get_or_append_left vs row 0 j (omega (arith, g.long, g.few))) ∙ g.adds ∙ ap (λ j. gathered ws q n ++ fault_words s (faults_read ws at1 j)) z
