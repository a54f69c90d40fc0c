-- What is read from pieces that rise stands where they stand: an expression's places are in order, and its names are pieces.
use mathlib.Core.Path.{◌≡◌, refl, ap, subst}
use mathlib.Core.Bool.{Bool, true, false}
use mathlib.Core.List.{List, [], ◌∷◌}
use mathlib.Core.Logic.{◌⊎◌, inl, inr}
use Prim.Native.Nat.{ℕ, zero, suc, ◌+◌, ◌*◌, ◌≤◌}
use native.Mathlib.Omega.{arith}
use lib.ListN.{length}
use lib.Dec.{eqb}
use Rattle.base.specs.Base.{pick, Word, same}
use Rattle.lexer.specs.Tokens.{Tok, next, tail1, end_of}
use Rattle.lexer.specs.Words.{op_at, compares, k_let, k_if, k_in, k_then, k_else, t_gets, t_rp, t_lp, t_comma, t_dot, is_name, is_number, digits, is_type, k_use, k_kind, k_rec, k_def}
use Rattle.grammar.specs.Grammar.{E, e_num, e_name, e_call, e_field, e_op, e_if, e_let, e_par, Es, no, and_then, from_of, to_of, Got, it, bad, eat, a_word, expr, begins, lets, ifs, level, more, fields, atom, calls, args, Field, Item, nothing, i_use, i_kind, i_rec, i_def, i_bad, names, field_list, params, ended, reads_use, reads_kind, reads_rec, reads_def, reads1, settled, item_of}
use Rattle.grammar.specs.Theorems.{PieceAt}
use Rattle.grammar.proofs.Places.{wrong_place}
use Rattle.semantics.specs.Theorems.{Each, field_types}
use Rattle.semantics.proofs.Lists.{each_right}
use Rattle.semantics.proofs.Pieces.{Good, good_with, good_pick, good_opt}
use Rattle.semantics.proofs.Gather.{field_names}

pub good_if : {A : Type 0} (P : A → List Tok → Type 0) (b : Bool) (x y : Got A) → (b ≡ true → Good P x) → Good P y → Good P (pick b x y)
good_if P true x y p q = p refl
good_if P false x y p q = q

-- Q: what is known of each piece. n: where the line ends
module _ (Q : Tok → Type 0) (n : ℕ) where
  pub record Sound (t : Tok) : Type 0 where
    pub known : Q t
    pub sits : t.from ≤ t.to
    pub high : t.to ≤ n

  -- pieces one behind the other, the first at lo or behind it
  abbrev pub Rise : ℕ → List Tok → Type 0
  Rise lo [] = Unit {0}
  Rise lo (t ∷ ts) = Sound t × (lo ≤ t.from) × Rise t.to ts

  pub rise_low : (lo hi : ℕ) (ts : List Tok) → lo ≤ hi → Rise hi ts → Rise lo ts
  rise_low lo hi [] h r = tt
  rise_low lo hi (t ∷ ts) h r = (r.0, let l : hi ≤ t.from = r.1 in omega arith, r.2)

  rise_tail : (lo : ℕ) (ts : List Tok) → Rise lo ts → Rise lo (tail1 ts)
  rise_tail lo [] r = tt
  rise_tail lo (t ∷ ts) r = let l : lo ≤ t.from = r.1 in let s : t.from ≤ t.to = r.0.sits in rise_low lo t.to ts (omega arith) r.2

  pub sound_each : (lo : ℕ) (ts : List Tok) → Rise lo ts → Each Sound ts
  sound_each lo [] r = tt
  sound_each lo (t ∷ ts) r = (r.0, sound_each t.to ts r.2)

  end_high : (t : Tok) (ts : List Tok) → Each Sound (t ∷ ts) → end_of (t ∷ ts) ≤ n
  end_high t [] h = h.0.high
  end_high t (u ∷ us) h = end_high u us h.1

  -- a name that is a piece
  abbrev pub Named : Tok → Type 0
  Named t = Sound t × (is_name t.w ≡ true)

  abbrev pub Typeword : Tok → Type 0
  Typeword t = Sound t × (is_type t.w ≡ true)

  -- an expression whose places are in order, and whose names are pieces
  abbrev mutual
    pub Fine : E → Type 0
    Fine (e_num t) = Sound t
    Fine (e_name t) = Named t
    Fine (e_call f es m) = Named f × (f.from ≤ m) × (m ≤ n) × Fines es
    Fine (e_field e x) = Fine e × Sound x × (from_of e ≤ x.to)
    Fine (e_op o a b) = Fine a × Fine b × (from_of a ≤ to_of b)
    Fine (e_if m a b c) = Fine a × Fine b × Fine c × (m ≤ to_of c)
    Fine (e_let m x a b) = Sound x × Fine a × Fine b × (m ≤ to_of b)
    Fine (e_par m e k) = Fine e × (m ≤ k) × (k ≤ n)

    pub Fines : Es → Type 0
    Fines no = Unit {0}
    Fines (and_then e es) = Fine e × Fines es

  pub fine_sits : (e : E) → Fine e → (from_of e ≤ to_of e) × (to_of e ≤ n)
  fine_sits (e_num t) f = (f.sits, f.high)
  fine_sits (e_name t) f = (f.0.sits, f.0.high)
  fine_sits (e_call g es m) f = (f.1, f.2)
  fine_sits (e_field e x) f = (f.2, f.1.high)
  fine_sits (e_op o a b) f = (f.2, (fine_sits b f.1).1)
  fine_sits (e_if m a b c) f = (f.3, (fine_sits c f.2).1)
  fine_sits (e_let m x a b) f = (f.3, (fine_sits b f.2).1)
  fine_sits (e_par m e k) f = (f.1, f.2)

  -- read behind lo, with the pieces left behind it
  pub record Read (lo : ℕ) (e : E) (us : List Tok) : Type 0 where
    pub fine : Fine e
    pub low : lo ≤ from_of e
    pub sits : from_of e ≤ to_of e
    pub high : to_of e ≤ n
    pub rest : Rise (to_of e) us

  record WordRead (ok : Word → Bool) (lo : ℕ) (t : Tok) (us : List Tok) : Type 0 where
    sound : Sound t
    is : ok t.w ≡ true
    low : lo ≤ t.from
    sits : t.from ≤ t.to
    high : t.to ≤ n
    rest : Rise t.to us

  s_word : (ok : Word → Bool) (lo : ℕ) (ts : List Tok) → Rise lo ts → Good (WordRead ok lo) (a_word ok ts)
  s_word ok lo [] r = tt
  s_word ok lo (t ∷ ts) r = good_if (WordRead ok lo) (ok t.w) (it t ts) (bad (t ∷ ts)) (λ e. record { sound = r.0; is = e; low = r.1; sits = r.0.sits; high = r.0.high; rest = r.2 }) tt

  s_eat : {C : Type 0} (P : C → List Tok → Type 0) (w : Word) (lo : ℕ) (ts : List Tok) (f : Tok → List Tok → Got C) → Rise lo ts → ((t : Tok) (us : List Tok) → WordRead (λ v. same v w) lo t us → Good P (f t us)) → Good P (eat w ts f)
  s_eat P w lo [] f r h = tt
  s_eat P w lo (t ∷ ts) f r h = good_if P (same t.w w) (f t ts) (bad (t ∷ ts)) (λ e. h t ts (record { sound = r.0; is = e; low = r.1; sits = r.0.sits; high = r.0.high; rest = r.2 })) tt

  joined : (lo o : ℕ) (a b : E) (us vs : List Tok) → Read lo a us → Read (to_of a) b vs → Read lo (e_op o a b) vs
  joined lo o a b us vs ra rb = record { fine = (ra.fine, rb.fine, omega arith); low = ra.low; sits = omega arith; high = rb.high; rest = rb.rest }

  mutual
    pub s_expr : (k lo : ℕ) (ts : List Tok) → Rise lo ts → Good (Read lo) (expr k ts)
    s_expr zero lo ts r = tt
    s_expr (suc k) lo ts r = s_begins k lo ts (next ts) r

    s_begins : (k lo : ℕ) (ts : List Tok) (w : Word) → Rise lo ts → Good (Read lo) (begins k ts w)
    s_begins zero lo ts w r = tt
    s_begins (suc k) lo ts w r = good_pick (Read lo) (same w k_let) (lets k ts) (pick (same w k_if) (ifs k ts) (level k 1 ts)) (s_lets k lo ts r) (good_pick (Read lo) (same w k_if) (ifs k ts) (level k 1 ts) (s_ifs k lo ts r) (s_level k 1 lo ts r))

    s_lets : (k lo : ℕ) (ts : List Tok) → Rise lo ts → Good (Read lo) (lets k ts)
    s_lets zero lo ts r = tt
    s_lets (suc k) lo ts r = s_eat (Read lo) k_let lo ts _ r (λ l us rl. good_with (WordRead is_name l.to) (Read lo) (a_word is_name us) _ (s_word is_name l.to us rl.rest) (λ x vs rx. s_eat (Read lo) t_gets x.to vs _ rx.rest (λ g xs rg.
        good_with (Read g.to) (Read lo) (expr k xs) _ (s_expr k g.to xs rg.rest) (λ a ys ra. s_eat (Read lo) k_in (to_of a) ys _ ra.rest (λ i zs ri.
        good_with (Read i.to) (Read lo) (expr k zs) _ (s_expr k i.to zs ri.rest) (λ b rs rb. record { fine = (rx.sound, ra.fine, rb.fine, omega arith); low = omega arith; sits = omega arith; high = rb.high; rest = rb.rest }))))))

    s_ifs : (k lo : ℕ) (ts : List Tok) → Rise lo ts → Good (Read lo) (ifs k ts)
    s_ifs zero lo ts r = tt
    s_ifs (suc k) lo ts r = s_eat (Read lo) k_if lo ts _ r (λ l us rl. good_with (Read l.to) (Read lo) (expr k us) _ (s_expr k l.to us rl.rest) (λ a vs ra. s_eat (Read lo) k_then (to_of a) vs _ ra.rest (λ g xs rg.
        good_with (Read g.to) (Read lo) (expr k xs) _ (s_expr k g.to xs rg.rest) (λ b ys rb. s_eat (Read lo) k_else (to_of b) ys _ rb.rest (λ i zs ri.
        good_with (Read i.to) (Read lo) (expr k zs) _ (s_expr k i.to zs ri.rest) (λ c rs rc. record { fine = (ra.fine, rb.fine, rc.fine, omega arith); low = omega arith; sits = omega arith; high = rc.high; rest = rc.rest }))))))

    s_level : (k l lo : ℕ) (ts : List Tok) → Rise lo ts → Good (Read lo) (level k l ts)
    s_level zero l lo ts r = tt
    s_level (suc k) l lo ts r = good_pick (Read lo) (eqb l 7) (atom k ts) _ (s_atom k lo ts r) (good_pick (Read lo) (eqb l 3) _ _
        (good_with (Read lo) (Read lo) (level k 4 ts) _ (s_level k 4 lo ts r) (λ a us ra. good_opt (Read lo) (compares (next us)) (it a us) _ ra (λ o. good_with (Read (to_of a)) (Read lo) (level k 4 (tail1 us)) _ (s_level k 4 (to_of a) (tail1 us) (rise_tail (to_of a) us ra.rest)) (λ b vs rb. joined lo o a b us vs ra rb))))
        (good_with (Read lo) (Read lo) (level k (l + 1) ts) _ (s_level k (l + 1) lo ts r) (λ a us ra. good_pick (Read lo) (eqb l 6) (fields k a us) (more k l a us) (s_fields k a lo us ra) (s_more k l a lo us ra))))

    s_more : (k l : ℕ) (a : E) (lo : ℕ) (ts : List Tok) → Read lo a ts → Good (Read lo) (more k l a ts)
    s_more zero l a lo ts ra = tt
    s_more (suc k) l a lo ts ra = good_opt (Read lo) (op_at l (next ts)) (it a ts) _ ra (λ o. good_with (Read (to_of a)) (Read lo) (level k (l + 1) (tail1 ts)) _ (s_level k (l + 1) (to_of a) (tail1 ts) (rise_tail (to_of a) ts ra.rest)) (λ b us rb. s_more k l (e_op o a b) lo us (joined lo o a b ts us ra rb)))

    s_fields : (k : ℕ) (a : E) (lo : ℕ) (ts : List Tok) → Read lo a ts → Good (Read lo) (fields k a ts)
    s_fields zero a lo ts ra = tt
    s_fields (suc k) a lo ts ra = good_pick (Read lo) (same (next ts) t_dot) _ (it a ts) (good_with (WordRead is_name (to_of a)) (Read lo) (a_word is_name (tail1 ts)) _ (s_word is_name (to_of a) (tail1 ts) (rise_tail (to_of a) ts ra.rest)) (λ x us rx. s_fields k (e_field a x) lo us (record { fine = (ra.fine, rx.sound, omega arith); low = ra.low; sits = omega arith; high = rx.high; rest = rx.rest }))) ra

    s_atom : (k lo : ℕ) (ts : List Tok) → Rise lo ts → Good (Read lo) (atom k ts)
    s_atom zero lo ts r = tt
    s_atom (suc k) lo [] r = tt
    s_atom (suc k) lo (t ∷ ts) r =
        let lo1 : lo ≤ t.from = r.1 in let st : t.from ≤ t.to = r.0.sits in let ht : t.to ≤ n = r.0.high in
        good_pick (Read lo) (same t.w t_lp) _ _ (good_with (Read t.to) (Read lo) (expr k ts) _ (s_expr k t.to ts r.2) (λ a us ra. s_eat (Read lo) t_rp (to_of a) us _ ra.rest (λ p vs rp. record { fine = (ra.fine, omega arith, rp.high); low = lo1; sits = omega arith; high = rp.high; rest = rp.rest })))
        (good_pick (Read lo) (is_number t.w) _ _ (good_pick (Read lo) (digits t.w) (it (e_num t) ts) (bad (t ∷ ts)) (record { fine = r.0; low = lo1; sits = st; high = ht; rest = r.2 }) tt)
        (good_if (Read lo) (is_name t.w) _ (bad (t ∷ ts)) (λ e. good_pick (Read lo) (same (next ts) t_lp) (calls k t (tail1 ts)) (it (e_name t) ts) (s_calls k t lo (tail1 ts) (r.0, e) lo1 (rise_tail t.to ts r.2)) (record { fine = (r.0, e); low = lo1; sits = st; high = ht; rest = r.2 })) tt))

    s_calls : (k : ℕ) (f : Tok) (lo : ℕ) (ts : List Tok) → Named f → lo ≤ f.from → Rise f.to ts → Good (Read lo) (calls k f ts)
    s_calls zero f lo ts s l r = tt
    s_calls (suc k) f lo ts s l r = let sf : f.from ≤ f.to = s.0.sits in good_pick (Read lo) (same (next ts) t_rp) _ (args k f ts (λ es. es)) (s_eat (Read lo) t_rp f.to ts (λ q us. it (e_call f no q.to) us) r (λ q us rq. record { fine = (s, omega arith, rq.high, tt); low = l; sits = omega arith; high = rq.high; rest = rq.rest })) (s_args k f lo f.to ts (λ es. es) s l sf (λ es h. h) r)

    s_args : (k : ℕ) (f : Tok) (lo m : ℕ) (ts : List Tok) (c : Es → Es) → Named f → lo ≤ f.from → f.from ≤ m → ((es : Es) → Fines es → Fines (c es)) → Rise m ts → Good (Read lo) (args k f ts c)
    s_args zero f lo m ts c s l g h r = tt
    s_args (suc k) f lo m ts c s l g h r = good_with (Read m) (Read lo) (expr k ts) _ (s_expr k m ts r) (λ a us ra. good_pick (Read lo) (same (next us) t_comma) (args k f (tail1 us) (λ es. c (and_then a es))) (eat t_rp us (λ q vs. it (e_call f (c (and_then a no)) q.to) vs))
        (s_args k f lo (to_of a) (tail1 us) (λ es. c (and_then a es)) s l (omega arith) (λ es he. h (and_then a es) (ra.fine, he)) (rise_tail (to_of a) us ra.rest))
        (s_eat (Read lo) t_rp (to_of a) us (λ q vs. it (e_call f (c (and_then a no)) q.to) vs) ra.rest (λ q vs rq. record { fine = (s, omega arith, rq.high, h (and_then a no) (ra.fine, tt)); low = l; sits = omega arith; high = rq.high; rest = rq.rest })))

  -- a whole line
  abbrev pub Placed : Item → Type 0
  Placed nothing = Unit {0}
  Placed (i_use t) = Named t
  Placed (i_kind t cs) = Named t × Each Named cs
  Placed (i_rec t fs) = Named t × Each Named (field_names fs) × Each Typeword (field_types fs)
  Placed (i_def t ps r e) = Named t × Each Named (field_names ps) × Each Typeword (field_types ps) × Typeword r × Fine e
  Placed (i_bad a b) = (a ≤ b) × (b ≤ n)

  -- the pieces left rise from somewhere on
  low0 : (lo : ℕ) (ts : List Tok) → Rise lo ts → Rise 0 ts
  low0 lo ts r = rise_low 0 lo ts (omega arith) r

  abbrev NamesRead : List Tok → List Tok → Type 0
  NamesRead xs us = Each Named xs × Rise 0 us

  abbrev FieldsRead : List Field → List Tok → Type 0
  FieldsRead fs us = Each Named (field_names fs) × Each Typeword (field_types fs) × Rise 0 us

  s_names : (k : ℕ) (ts : List Tok) → Rise 0 ts → Good NamesRead (names k ts)
  s_names zero ts r = tt
  s_names (suc k) ts r = good_with (WordRead is_name 0) NamesRead (a_word is_name ts) _ (s_word is_name 0 ts r) (λ x us rx. good_pick NamesRead (same (next us) t_comma) _ (it (x ∷ []) us)
      (good_with NamesRead NamesRead (names k (tail1 us)) _ (s_names k (tail1 us) (rise_tail 0 us (low0 x.to us rx.rest))) (λ xs vs rs. (((rx.sound, rx.is), rs.0), rs.1)))
      (((rx.sound, rx.is), tt), low0 x.to us rx.rest))

  s_list : (k : ℕ) (ts : List Tok) → Rise 0 ts → Good FieldsRead (field_list k ts)
  s_list zero ts r = tt
  s_list (suc k) ts r = good_with (WordRead is_name 0) FieldsRead (a_word is_name ts) _ (s_word is_name 0 ts r) (λ x us rx. good_with (WordRead is_type x.to) FieldsRead (a_word is_type us) _ (s_word is_type x.to us rx.rest) (λ y vs ry.
      good_pick FieldsRead (same (next vs) t_comma) _ (it (record { name = x; ty = y } ∷ []) vs)
      (good_with FieldsRead FieldsRead (field_list k (tail1 vs)) _ (s_list k (tail1 vs) (rise_tail 0 vs (low0 y.to vs ry.rest))) (λ fs xs rs. (((rx.sound, rx.is), rs.0), ((ry.sound, ry.is), rs.1), rs.2)))
      (((rx.sound, rx.is), tt), ((ry.sound, ry.is), tt), low0 y.to vs ry.rest)))

  s_params : (k : ℕ) (ts : List Tok) → Rise 0 ts → Good FieldsRead (params k ts)
  s_params k ts r = good_pick FieldsRead (same (next ts) t_rp) (it [] ts) (field_list k ts) (tt, tt, r) (s_list k ts r)

  abbrev ItemRead : Item → List Tok → Type 0
  ItemRead i us = Placed i

  s_ended : (i : Item) (us : List Tok) → Placed i → Good ItemRead (ended i us)
  s_ended i [] p = p
  s_ended i (u ∷ us) p = tt

  s_use : (ts : List Tok) → Rise 0 ts → Good ItemRead (reads_use ts)
  s_use ts r = good_with (WordRead is_name 0) ItemRead (a_word is_name ts) _ (s_word is_name 0 ts r) (λ x us rx. s_ended (i_use x) us (rx.sound, rx.is))

  s_kind : (k : ℕ) (ts : List Tok) → Rise 0 ts → Good ItemRead (reads_kind k ts)
  s_kind k ts r = good_with (WordRead is_name 0) ItemRead (a_word is_name ts) _ (s_word is_name 0 ts r) (λ x us rx. s_eat ItemRead t_gets x.to us _ rx.rest (λ g vs rg.
      good_with NamesRead ItemRead (names k vs) _ (s_names k vs (low0 g.to vs rg.rest)) (λ xs ys rs. s_ended (i_kind x xs) ys ((rx.sound, rx.is), rs.0))))

  s_rec : (k : ℕ) (ts : List Tok) → Rise 0 ts → Good ItemRead (reads_rec k ts)
  s_rec k ts r = good_with (WordRead is_name 0) ItemRead (a_word is_name ts) _ (s_word is_name 0 ts r) (λ x us rx. s_eat ItemRead t_gets x.to us _ rx.rest (λ g vs rg.
      good_with FieldsRead ItemRead (field_list k vs) _ (s_list k vs (low0 g.to vs rg.rest)) (λ fs ys rs. s_ended (i_rec x fs) ys ((rx.sound, rx.is), rs.0, rs.1))))

  s_def : (k : ℕ) (ts : List Tok) → Rise 0 ts → Good ItemRead (reads_def k ts)
  s_def k ts r = good_with (WordRead is_name 0) ItemRead (a_word is_name ts) _ (s_word is_name 0 ts r) (λ x us rx. s_eat ItemRead t_lp x.to us _ rx.rest (λ l vs rl.
      good_with FieldsRead ItemRead (params k vs) _ (s_params k vs (low0 l.to vs rl.rest)) (λ ps xs rs. s_eat ItemRead t_rp 0 xs _ rs.2 (λ q ys rq.
      good_with (WordRead is_type q.to) ItemRead (a_word is_type ys) _ (s_word is_type q.to ys rq.rest) (λ t zs rt. s_eat ItemRead t_gets t.to zs _ rt.rest (λ g rs1 rg.
      good_with (Read g.to) ItemRead (expr k rs1) _ (s_expr k g.to rs1 rg.rest) (λ e qs re. s_ended (i_def x ps t e) qs ((rx.sound, rx.is), rs.0, rs.1, (rt.sound, rt.is), re.fine))))))))

  s_reads : (k : ℕ) (t : Tok) (ts : List Tok) → Rise 0 ts → Good ItemRead (reads1 k t ts)
  s_reads k t ts r = good_pick ItemRead (same t.w k_use) _ _ (s_use ts r) (good_pick ItemRead (same t.w k_kind) _ _ (s_kind k ts r) (good_pick ItemRead (same t.w k_rec) _ _ (s_rec k ts r) (good_pick ItemRead (same t.w k_def) _ (bad (t ∷ ts)) (s_def k ts r) tt)))

  at_piece : (ts : List Tok) (a b : ℕ) → Each Sound ts → PieceAt a b ts → (a ≤ b) × (b ≤ n)
  at_piece ts a b h (us, t, vs, e, p, q) = let s = (each_right Sound us (t ∷ vs) (subst (Each Sound) e h)).0 in let l : t.from ≤ t.to = s.sits in let m : t.to ≤ n = s.high in (omega arith, omega arith)

  -- what is read from a line's pieces stands in the line
  pub placed : (ts : List Tok) → Rise 0 ts → Placed (item_of ts)
  placed [] r = tt
  placed (t ∷ ts) r = go (reads1 (20 * (2 + length ts)) t ts) refl (s_reads (20 * (2 + length ts)) t ts (low0 t.to ts r.2))
    where
      all1 : Each Sound (t ∷ ts)
      all1 = sound_each 0 (t ∷ ts) r

      places : (a b : ℕ) → PieceAt a b (t ∷ ts) ⊎ ((a ≡ end_of (t ∷ ts)) × (b ≡ end_of (t ∷ ts))) → (a ≤ b) × (b ≤ n)
      places a b (inl p) = at_piece (t ∷ ts) a b all1 p
      places a b (inr p) = let h = end_high t ts all1 in let x : a ≡ end_of (t ∷ ts) = p.0 in let y : b ≡ end_of (t ∷ ts) = p.1 in (omega arith, omega arith)

      go : (g : Got Item) → reads1 (20 * (2 + length ts)) t ts ≡ g → Good ItemRead g → Placed (settled (t ∷ ts) g)
      go (it i us) e p = p
      go (bad []) e p = let h = end_high t ts all1 in (omega arith, h)
      go (bad (u ∷ us)) e p = places u.from u.to (wrong_place (t ∷ ts) u.from u.to (ap (settled (t ∷ ts)) e))
