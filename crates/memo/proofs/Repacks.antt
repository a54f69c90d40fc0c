-- Repacking: the entries are gathered in order (Gather), and stored again (Rebuild).
use Rattle.std.proofs.Common.{◌≡◌, ℕ, zero, suc, ◌+◌, ◌-◌, ◌*◌, ◌<◌, ◌≤◌, Bool, true, false, not, List, [], ◌∷◌, ◌++◌, length, get_or, take, drop, set, replicate, sym, refl, ap, ◌∙◌, subst, append_assoc, add-one, arith, length-drop, length-take}
use Rattle.std.proofs.lemmas.List.{drop-drop, append-nil, length-take-le}
use Rattle.engine.specs.declared.key.Key.{Key}
use Rattle.std.specs.Prelude.{Result, Ok, Err, ⊤}
use Rattle.memo.specs.declared.log.NoRoom.{NoRoom}
use Rattle.memo.specs.declared.mark.Mark.{Mark}
use Rattle.base.specs.Base.{pick, opt, is_some}
use Rattle.engine.specs.Engine.{Entry, find, store}
use Rattle.memo.specs.Record.{size, entry_of, older, records, row_in, deep, puts, entry_long, entries_long, made, gots_of, row_long}
use Rattle.memo.specs.Log.{entry_at, Logged, log, Fits, Record, Reaches, here, back, kept_entries, pointed, spare, capacity}
use Rattle.memo.specs.Says.{Plain, OldestSays, NewestSays, Gathers, Apart, Rebuilds, PartsSays, StoreSays}
use Rattle.memo.proofs.Folds.{find_folded}
use Rattle.memo.proofs.Chains.{reach_logged, reach_on, key_in}
use Rattle.memo.proofs.Places.{deep_long, stands, Stands}
use Rattle.memo.proofs.Pops.{empty}
use Rattle.memo.proofs.Puts.{length_puts, drop_puts}
use Rattle.memo.proofs.Unpacks.{moved_entry, moved_older, moved_plain, plain_long, long_is, keys_long, row_whole, unpacked}
use Rattle.memo.proofs.Order.{dump, newest, dumped, folded_long, apart_folded, apart_next, store_miss}

pub long-++ : (xs ys : List Entry) → entries_long (xs ++ ys) ≡ entries_long xs + entries_long ys
long-++ [] ys = omega arith
long-++ (x ∷ xs) ys = let r = long-++ xs ys in omega arith

abbrev pub all : List ℕ → List Entry
all ws = records (get_or ws 1 0) (log ws)

-- d: how deep the records not gone over yet reach; g, n: words and entries gathered
pub record Gather (ws work : List ℕ) (d g n : ℕ) : Type 0 where
  pub m : ℕ
  pub reached : Reaches (get_or ws 1 0) (log ws) m (deep d ws)
  pub long : length (deep d ws) ≡ d
  pub within : g ≤ length work
  pub plain : Plain n (deep g work)
  pub is : dump (all ws) (records m (deep d ws)) ++ records n (deep g work) ≡ kept_entries ws

pub gather_begins : (ws work : List ℕ) → Fits ws → Gather ws work (get_or ws 0 0) 0 0
unfolding kept_entries
gather_begins ws work f =
    let r = f.room in
    record {
      m = get_or ws 1 0;
      reached = here;
      long = deep_long ws (get_or ws 0 0) (omega arith);
      within = omega arith;
      plain = deep_long work 0 (omega arith);
      is = append-nil (dump (all ws) (all ws)) ∙ dumped (all ws);
    }

pub gather_ends : (ws work : List ℕ) (g n : ℕ) → Fits ws → Gather ws work 0 g n → Gathers ws work (record { depth = g; count = n })
gather_ends ws work g n f x = go x.m x.reached x.is
  where
    go : (m : ℕ) → Reaches (get_or ws 1 0) (log ws) m (deep 0 ws) → dump (all ws) (records m (deep 0 ws)) ++ records n (deep g work) ≡ kept_entries ws → Gathers ws work (record { depth = g; count = n })
    go zero r e = record { within = x.within; plain = x.plain; is = e }
    go (suc m) r e = let i = (reach_logged (get_or ws 2 0) f.logged r).0.inside in let l = x.long in absurd (omega arith)

-- a record that is left
pub at_gather : (ws work : List ℕ) (d g n : ℕ) → Fits ws → Gather ws work d g n → (d ≡ 0 → ⊥) → Record ws d
at_gather ws work d g n f x h = go x.m x.reached
  where
    go : (m : ℕ) → Reaches (get_or ws 1 0) (log ws) m (deep d ws) → Record ws d
    go zero r = let w = reach_logged (get_or ws 2 0) f.logged r in let e = x.long in absurd (h (omega arith))
    go (suc m) r = record { count = m; reached = r; long = x.long }

pub next_deep : (ws : List ℕ) (d : ℕ) → d ≤ length ws → size (deep d ws) ≤ d → deep (d - size (deep d ws)) ws ≡ older (deep d ws)
next_deep ws d h i = let z : length ws - (d - size (deep d ws)) ≡ (length ws - d) + size (deep d ws) = omega arith in ap (λ n. drop n ws) z ∙ sym (drop-drop (size (deep d ws)) (length ws - d) ws)

pub deep_push : (work xs : List ℕ) (g s : ℕ) → g + s ≤ length work → length xs ≡ s → deep (g + s) (puts (length work - g - s) xs work) ≡ xs ++ deep g work
deep_push work xs g s h e =
    let l = length_puts (length work - g - s) xs work (omega arith) in
    let z : length (puts (length work - g - s) xs work) - (g + s) ≡ length work - g - s = omega arith in
    let y : length work - g - s + length xs ≡ length work - g = omega arith in
    ap (λ n. drop n (puts (length work - g - s) xs work)) z ∙ drop_puts (length work - g - s) xs work (omega arith) ∙ ap (λ n. xs ++ drop n work) y

module _ (ws : List ℕ) (f : Fits ws) (work : List ℕ) (d g n : ℕ) (h : d ≡ 0 → ⊥) where
  abbrev l : List ℕ
  l = deep d ws

  -- with a record in hand
  abbrev Left : ℕ → Type 0
  Left m = Reaches (get_or ws 1 0) (log ws) (suc m) l × (length l ≡ d) × (dump (all ws) (records (suc m) l) ++ records n (deep g work) ≡ kept_entries ws)

  left : (x : Gather ws work d g n) → (m : ℕ) × Left m
  left x = go x.m x.reached x.is
    where
      go : (m : ℕ) → Reaches (get_or ws 1 0) (log ws) m l → dump (all ws) (records m l) ++ records n (deep g work) ≡ kept_entries ws → (m : ℕ) × Left m
      go zero r e = let w = reach_logged (get_or ws 2 0) f.logged r in let q = x.long in absurd (h (omega arith))
      go (suc m) r e = (m, (r, x.long, e))

  abbrev stood : (m : ℕ) → Left m → Stands ws d
  stood m y = stands ws d f (record { count = m; reached = y.0; long = y.1 })

  lower : (m : ℕ) → Left m → (deep (d - size l) ws ≡ older l) × (length (older l) ≡ d - size l)
  lower m y = let s = stands ws d f (record { count = m; reached = y.0; long = y.1 }) in let w = s.within in let i = s.inside in let e = y.1 in let q = length-drop (size l) l in (next_deep ws d w i, omega arith)

  moved : (m : ℕ) → Left m → (work1 : List ℕ) (g1 n1 : ℕ) → g1 ≤ length work1 → Plain n1 (deep g1 work1) → dump (all ws) (records m (older l)) ++ records n1 (deep g1 work1) ≡ kept_entries ws → Gather ws work1 (d - size l) g1 n1
  moved m y work1 g1 n1 w p e =
      let q = lower m y in
      record {
        m = m;
        reached = subst (Reaches (get_or ws 1 0) (log ws) m) (sym q.0) (reach_on y.0 (back here));
        long = ap length q.0 ∙ q.1;
        within = w;
        plain = p;
        is = ap (λ z. dump (all ws) (records m z) ++ records n1 (deep g1 work1)) q.0 ∙ e;
      }

  known : (m : ℕ) → Left m → (r : Bool) → OldestSays ws d r → is_some (find (records m (older l)) (entry_of l).key) ≡ not r
  known m y r o = ap (λ k. is_some (find (records m (older l)) k)) (key_in l) ∙ twice _ r (o.is (record { count = m; reached = y.0; long = y.1 }))
    where
      twice : (a b : Bool) → b ≡ not a → a ≡ not b
      twice true b p = ap not (sym p)
      twice false b p = ap not (sym p)

  pub gather_skip : Gather ws work d g n → OldestSays ws d false → Gather ws work (d - size l) g n
  gather_skip x o =
      let y = left x in
      let rs = records y.0 (older l) in
      let e = ap (λ b. dump (all ws) rs ++ pick b [] (newest (all ws) (entry_of l) ∷ [])) (known y.0 y.1 false o) ∙ append-nil (dump (all ws) rs) in
      moved y.0 y.1 work g n x.within x.plain (ap (λ q. q ++ records n (deep g work)) (sym e) ∙ y.1.2)

  -- what is kept, with the entry that comes next
  pub gather_sum : Gather ws work d g n → OldestSays ws d true → (e : ℕ) → NewestSays ws d e → (m : ℕ) × Left m × (dump (all ws) (records m (older l)) ++ (entry_of (deep e ws) ∷ records n (deep g work)) ≡ kept_entries ws)
  unfolding kept_entries entry_at
  gather_sum x o e v =
      let y = left x in
      let rs = records y.0 (older l) in
      let n1 : newest (all ws) (entry_of l) ≡ entry_of (deep e ws) = sym (v.is ∙ ap (λ q. opt q (entry_of l) (λ x. x)) (find_folded (all ws) (entry_of l).key)) in
      let p = ap (λ b. dump (all ws) rs ++ pick b [] (newest (all ws) (entry_of l) ∷ [])) (known y.0 y.1 true o) ∙ ap (λ q. dump (all ws) rs ++ (q ∷ [])) n1 in
      (y.0, y.1, sym (append_assoc (dump (all ws) rs) (entry_of (deep e ws) ∷ []) (records n (deep g work))) ∙ ap (λ q. q ++ records n (deep g work)) (sym p) ∙ y.1.2)

  pub gather_full : Gather ws work d g n → OldestSays ws d true → (e : ℕ) → NewestSays ws d e → length work - g < size (deep e ws) → length work < entries_long (kept_entries ws)
  gather_full x o e v q =
      let y = gather_sum x o e v in
      let rs = records y.0 (older l) in
      let one = (stands ws e f v.stands).one in
      let a = long-++ (dump (all ws) rs) (entry_of (deep e ws) ∷ records n (deep g work)) in
      let b = ap entries_long y.2 in
      let c = long_is (deep e ws) one.inside one.row1 in
      let i = plain_long n (deep g work) x.plain in
      let j = deep_long work g x.within in
      let w = x.within in
      omega arith

  pub gather_take : Gather ws work d g n → OldestSays ws d true → (e : ℕ) → NewestSays ws d e → (work1 : List ℕ) → g + size (deep e ws) ≤ length work
      → work1 ≡ puts (length work - g - size (deep e ws)) (take (size (deep e ws)) (deep e ws)) work → Gather ws work1 (d - size l) (g + size (deep e ws)) (n + 1)
  gather_take x o e v work1 q p =
      let y = gather_sum x o e v in
      let st = stands ws e f v.stands in
      let one = st.one in
      let le = deep e ws in
      let rest = deep g work in
      let s = size le in
      let xl : length (take s le) ≡ s = length-take-le s le one.inside in
      let lp : length work1 ≡ length work = ap length p ∙ length_puts (length work - g - s) (take s le) work (omega arith) in
      let dp : deep (g + s) work1 ≡ take s le ++ rest = ap (deep (g + s)) p ∙ deep_push work (take s le) g s q xl in
      let an : suc n ≡ n + 1 = sym (add-one n) in
      let pl : Plain (n + 1) (deep (g + s) work1) = subst (λ k. Plain k (deep (g + s) work1)) an (subst (Plain (suc n)) (sym dp) (moved_plain le one.inside one.row1 rest n x.plain)) in
      let me = moved_entry le one.inside one.row1 rest in
      let mo = moved_older le one.inside one.row1 rest in
      let rc : records (n + 1) (deep (g + s) work1) ≡ entry_of le ∷ records n rest = (λ t. records (sym an t) (dp t)) ∙ (λ t. me t ∷ records n (mo t)) in
      moved y.0 y.1 work1 (g + s) (n + 1) (omega arith) pl (ap (λ z. dump (all ws) (records y.0 (older l)) ++ z) rc ∙ y.2)

-- entries stored again: d, n: what is left of the gathered ones
pub record Rebuild (ws work : List ℕ) (es : List Entry) (d n total : ℕ) : Type 0 where
  pub fits : Fits ws
  pub within : d ≤ length work
  pub plain : Plain n (deep d work)
  pub is : kept_entries ws ++ records n (deep d work) ≡ es
  pub sum : spare ws + entries_long (kept_entries ws) ≡ total

pub parts_asked : (l : List ℕ) (k : Key) (ans : List ℕ) (c : ℕ) (keys row : List ℕ) → size l ≤ length l → row_long (get_or l 5 0) (row_in l) ≡ get_or l 6 0 → PartsSays l k ans c keys row
    → (length keys ≡ 3 * c) × (row_long c row ≡ length row) × (made k ans (gots_of c keys row) ≡ entry_of l)
parts_asked l k ans c keys row i r p =
    let ek = p.key in
    let ea = p.ans1 in
    let ec = p.count in
    let es = p.keys1 in
    let er = p.row1 in (
      ap length es ∙ keys_long l i r ∙ ap (λ n. 3 * n) (sym ec),
      (λ t. row_long (ec t) (er t)) ∙ row_whole l i r ∙ ap length (sym er),
      (λ t. made (ek t) (ea t) (gots_of (ec t) (es t) (er t))) ∙ sym (unpacked l i r),
    )

stored : (e : Entry) (ws vs : List ℕ) (r : Result ⊤ NoRoom) → StoreSays e ws vs r → entry_long e ≤ spare ws → (kept_entries vs ≡ store e (kept_entries ws)) × (spare ws ≡ entry_long e + spare vs)
stored e ws vs (Ok u) s h = s
stored e ws vs (Err x) s h = absurd (omega (arith, s.1))

pub rebuild_step : (ws work : List ℕ) (es : List Entry) (d n total : ℕ) → Rebuild ws work es d n total → (n ≡ 0 → ⊥) → Apart es → entries_long es ≤ total → (vs : List ℕ) (r : Result ⊤ NoRoom) → Fits vs
    → StoreSays (entry_of (deep d work)) ws vs r → Rebuild vs work es (d - size (deep d work)) (n - 1) total
rebuild_step ws work es d zero total x h a le vs r f s = absurd (h refl)
rebuild_step ws work es d (suc n) total x h a le vs r f s =
    let l = deep d work in
    let e = entry_of l in
    let pl = x.plain in
    let dl = deep_long work d x.within in
    let i = pl.0 in
    let w = x.within in
    let nd = next_deep work d w (omega arith) in
    let la = long-++ (kept_entries ws) (records (suc n) l) in
    let lb = ap entries_long x.is in
    let su = x.sum in
    let st = stored e ws vs r s (omega arith) in
    let miss = apart_next (kept_entries ws) e (records n (older l)) (subst Apart (sym x.is) a) in
    let k : kept_entries vs ≡ kept_entries ws ++ (e ∷ []) = st.0 ∙ store_miss e (kept_entries ws) miss in
    let lc = ap entries_long k ∙ long-++ (kept_entries ws) (e ∷ []) in
    let sp = st.1 in
    let one : suc n - 1 ≡ n = omega arith in
    subst (λ m. Rebuild vs work es (d - size l) m total) (sym one)
    (record {
      fits = f;
      within = omega arith;
      plain = subst (Plain n) (sym nd) pl.2;
      is = (λ t. k t ++ records n (nd t)) ∙ append_assoc (kept_entries ws) (e ∷ []) (records n (older l)) ∙ x.is;
      sum = omega arith;
    })

pub plain_logged : (b n : ℕ) (ws : List ℕ) → Logged b n ws → Plain n ws
plain_logged b zero ws h = h
plain_logged b (suc n) ws h = (h.0.inside, h.0.row1, plain_logged b n (older ws) h.1)

pub kept_room : (ws : List ℕ) → Fits ws → entries_long (kept_entries ws) ≤ capacity ws
unfolding kept_entries capacity
kept_room ws f =
    let r = f.room in
    let a = plain_long (get_or ws 1 0) (log ws) (plain_logged (get_or ws 2 0) (get_or ws 1 0) (log ws) f.logged) in
    let b = deep_long ws (get_or ws 0 0) (omega arith) in
    let c = folded_long (all ws) in
    omega arith

pub kept_apart : (ws : List ℕ) → Apart (kept_entries ws)
unfolding kept_entries
kept_apart ws = apart_folded (all ws)

pub gathered_rebuilds : (ws work : List ℕ) (m : Mark) → Fits ws → Gathers ws work m → Rebuilds ws work m
gathered_rebuilds ws work m f g =
    record {
      fits = f;
      within = g.within;
      plain = g.plain;
      apart = subst Apart (sym g.is) (kept_apart ws);
      room = subst (λ es. entries_long es ≤ capacity ws) (sym g.is) (kept_room ws f);
    }

pub reset : (ws vs : List ℕ) → Fits ws → vs ≡ pointed (set (puts 3 (replicate (get_or ws 2 0) 0) ws) 2 (get_or ws 2 0)) 0 0 0 0 → Fits vs × (kept_entries vs ≡ []) × (spare vs ≡ capacity ws)
unfolding capacity
reset ws vs f e = let r = f.room in let x = empty ws (get_or ws 2 0) f.buckets (omega arith) vs e in let y = x.2 in (x.0, x.1, omega arith)

pub rebuild_one : (ws work : List ℕ) (es : List Entry) (d n total : ℕ) → Rebuild ws work es d n total → (n ≡ 0 → ⊥) → (size (deep d work) ≤ length (deep d work)) × (row_long (get_or (deep d work) 5 0) (row_in (deep d work)) ≡ get_or (deep d work) 6 0) × (size (deep d work) ≤ d) × (d ≤ length work)
rebuild_one ws work es d zero total x h = absurd (h refl)
rebuild_one ws work es d (suc n) total x h = let p = x.plain in let l = deep_long work d x.within in let i = p.0 in (p.0, p.1, omega arith, x.within)

pub parts_small : (l : List ℕ) (k : Key) (ans : List ℕ) (c : ℕ) (keys row : List ℕ) → size l ≤ length l → PartsSays l k ans c keys row → (length ans ≤ length l) × (length row ≤ length l) × (c ≤ length l)
parts_small l k ans c keys row i p =
    let a = ap length p.ans1 in
    let b = length-take (get_or l 4 0) (drop 7 l) in
    let d = ap length p.row1 in
    let e = length-take (get_or l 6 0) (drop (7 + (get_or l 4 0 + 3 * get_or l 5 0)) l) in
    let f = p.count in
    (omega arith, omega arith, omega arith)
