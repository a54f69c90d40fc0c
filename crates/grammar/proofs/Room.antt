-- How much room a run takes: no more frames than pieces eaten, and no more operations than pieces eaten.
use mathlib.Core.Path.{◌≡◌, refl, sym, ap, subst, ◌∙◌}
use mathlib.Core.Bool.{Bool, true, false}
use mathlib.Core.List.{List, [], ◌∷◌, ◌++◌}
use mathlib.Core.Option.{Option, some, none}
use Prim.Native.Nat.{ℕ, zero, suc, ◌+◌, ◌≤◌, ◌<◌}
use native.Mathlib.Omega.{arith}
use lib.ListN.{length, length-append}
use lib.Dec.{eqb, leb}
use Rattle.base.specs.Base.{pick, opt, Word, same}
use Rattle.lexer.specs.Tokens.{Tok, next, tail1}
use Rattle.lexer.specs.Words.{is_name, is_number, digits, k_let, k_in, k_if, k_then, k_else, t_lp, t_rp, t_comma, t_gets, t_dot, op_any}
use Rattle.grammar.specs.Code.{Op, o_arg, o_end}
use Rattle.grammar.specs.Machine.{lev, made, Frame, f_par, f_call, f_bound, f_body, f_cond, f_then, f_else, f_right, Phase, p_begin, p_atom, p_value, State, going, won, lost, base, patch, eats, names_it, pop, do_op, step, start}
use Rattle.grammar.proofs.Fuel.{tail_most}
use Rattle.grammar.proofs.Runs.{tail_less, any_none}

-- operations that frames will still put out with no piece of their own
abbrev pub owed : List Frame → ℕ
owed [] = 0
owed (f_par n ∷ fs) = owed fs
owed (f_call p k ∷ fs) = suc (owed fs)
owed (f_bound n x ∷ fs) = suc (owed fs)
owed (f_body n ∷ fs) = suc (owed fs)
owed (f_cond n ∷ fs) = suc (owed fs)
owed (f_then n ∷ fs) = suc (owed fs)
owed (f_else n ∷ fs) = suc (owed fs)
owed (f_right o ∷ fs) = suc (owed fs)

-- of every call that waits, where n pieces were at the start, l are left, and d operations are there:
-- its arguments are few, and its beginning is among the operations
abbrev pub Calls : ℕ → ℕ → ℕ → List Frame → Type 0
Calls n l d [] = Unit {0}
Calls n l d (f_par m ∷ fs) = Calls n l d fs
Calls n l d (f_call p k ∷ fs) = (k + l ≤ n) × (suc p ≤ d) × Calls n l d fs
Calls n l d (f_bound m x ∷ fs) = Calls n l d fs
Calls n l d (f_body m ∷ fs) = Calls n l d fs
Calls n l d (f_cond m ∷ fs) = Calls n l d fs
Calls n l d (f_then m ∷ fs) = Calls n l d fs
Calls n l d (f_else m ∷ fs) = Calls n l d fs
Calls n l d (f_right o ∷ fs) = Calls n l d fs

abbrev pub Small : ℕ → State → Type 0
Small n (going m ts fs c) = (length fs + length ts ≤ n) × (length c + (owed fs + length ts) ≤ n) × Calls n (length ts) (length c) fs
Small n (won c ts) = length c + length ts ≤ n
Small n (lost ts) = Unit {0}

-- n: how many pieces there were at the start
pub record Room (n : ℕ) (s : State) : Type 0 where
  pub small : Small n s

pub frames_few : (n : ℕ) (m : Phase) (ts : List Tok) (fs : List Frame) (c : List Op) → Room n (going m ts fs c) → length fs + length ts ≤ n
frames_few n m ts fs c r = r.small.0

pub ops_few : (n : ℕ) (m : Phase) (ts : List Tok) (fs : List Frame) (c : List Op) → Room n (going m ts fs c) → length c + (owed fs + length ts) ≤ n
ops_few n m ts fs c r = r.small.1

pub call_small : (n : ℕ) (m : Phase) (ts : List Tok) (p k : ℕ) (fs : List Frame) (c : List Op) → Room n (going m ts (f_call p k ∷ fs) c) → (k + length ts ≤ n) × (p ≤ n)
call_small n m ts p k fs c r = let a = r.small.2.0 in let b = r.small.2.1 in let d = r.small.1 in (a, omega arith)

pub call_there : (n : ℕ) (m : Phase) (ts : List Tok) (p k : ℕ) (fs : List Frame) (c : List Op) → Room n (going m ts (f_call p k ∷ fs) c) → p < length c
call_there n m ts p k fs c r = let b = r.small.2.1 in omega arith

pub won_few : (n : ℕ) (c : List Op) (ts : List Tok) → Room n (won c ts) → length c + length ts ≤ n
won_few n c ts r = r.small

calls_on : (n l l₁ d d₁ : ℕ) (fs : List Frame) → l₁ ≤ l → d ≤ d₁ → Calls n l d fs → Calls n l₁ d₁ fs
calls_on n l l₁ d d₁ [] p q h = tt
calls_on n l l₁ d d₁ (f_par m ∷ fs) p q h = calls_on n l l₁ d d₁ fs p q h
calls_on n l l₁ d d₁ (f_call b k ∷ fs) p q h = let x = h.0 in let y = h.1 in (omega arith, omega arith, calls_on n l l₁ d d₁ fs p q h.2)
calls_on n l l₁ d d₁ (f_bound m x ∷ fs) p q h = calls_on n l l₁ d d₁ fs p q h
calls_on n l l₁ d d₁ (f_body m ∷ fs) p q h = calls_on n l l₁ d d₁ fs p q h
calls_on n l l₁ d d₁ (f_cond m ∷ fs) p q h = calls_on n l l₁ d d₁ fs p q h
calls_on n l l₁ d d₁ (f_then m ∷ fs) p q h = calls_on n l l₁ d d₁ fs p q h
calls_on n l l₁ d d₁ (f_else m ∷ fs) p q h = calls_on n l l₁ d d₁ fs p q h
calls_on n l l₁ d d₁ (f_right o ∷ fs) p q h = calls_on n l l₁ d d₁ fs p q h

more1 : (c : List Op) (x : Op) → length (c ++ (x ∷ [])) ≡ length c + 1
more1 c x = length-append c (x ∷ [])

more2 : (c : List Op) (x y : Op) → length (c ++ (x ∷ (y ∷ []))) ≡ length c + 2
more2 c x y = length-append c (x ∷ (y ∷ []))

pub patch_long : (c : List Op) (p k : ℕ) → length (patch c p k) ≡ length c
patch_long [] p k = refl
patch_long (x ∷ c) zero k = refl
patch_long (x ∷ c) (suc p) k = ap suc (patch_long c p k)

closed_long : (c : List Op) (p k r : ℕ) → length (patch (c ++ (o_arg ∷ [])) p k ++ (o_end r ∷ [])) ≡ length c + 2
closed_long c p k r = more1 (patch (c ++ (o_arg ∷ [])) p k) (o_end r) ∙ (let x = patch_long (c ++ (o_arg ∷ [])) p k in let y = more1 c o_arg in omega arith)

r_lost : (n : ℕ) (us : List Tok) → Room n (lost us)
r_lost n us = record { small = tt }

r_pick : (n : ℕ) (b : Bool) (X Y : State) → (b ≡ true → Room n X) → (b ≡ false → Room n Y) → Room n (pick b X Y)
r_pick n true X Y p q = p refl
r_pick n false X Y p q = q refl

r_eat : (n : ℕ) (w : Word) (ts : List Tok) (F : Tok → List Tok → State) → ((t : Tok) (us : List Tok) → suc (length us) ≤ length ts → Room n (F t us)) → Room n (eats w ts F)
r_eat n w [] F h = r_lost n []
r_eat n w (t ∷ ts) F h = r_pick n (same t.w w) (F t ts) (lost (t ∷ ts)) (λ p. h t ts (omega arith)) (λ p. r_lost n (t ∷ ts))

r_word : (n : ℕ) (ts : List Tok) (F : Tok → List Tok → State) → ((t : Tok) (us : List Tok) → suc (length us) ≤ length ts → Room n (F t us)) → Room n (names_it ts F)
r_word n [] F h = r_lost n []
r_word n (t ∷ ts) F h = r_pick n (is_name t.w) (F t ts) (lost (t ∷ ts)) (λ p. h t ts (omega arith)) (λ p. r_lost n (t ∷ ts))

-- a state from which l pieces and d operations were there
r_go : (n l d : ℕ) (m : Phase) (ts : List Tok) (fs : List Frame) (c : List Op) (k : ℕ) → length c ≡ k → length ts ≤ l → d ≤ k → length fs + length ts ≤ n → k + (owed fs + length ts) ≤ n → Calls n l d fs → Room n (going m ts fs c)
r_go n l d m ts fs c k e s g p q h = record { small = (p, omega arith, calls_on n l (length ts) d (length c) fs s (omega arith) h) }

-- the same with a call on top
r_call : (n l d : ℕ) (m : Phase) (ts : List Tok) (b a : ℕ) (fs : List Frame) (c : List Op) (k : ℕ) → length c ≡ k → length ts ≤ l → d ≤ k → suc (length fs) + length ts ≤ n → k + (suc (owed fs) + length ts) ≤ n → a + length ts ≤ n → suc b ≤ k → Calls n l d fs → Room n (going m ts (f_call b a ∷ fs) c)
r_call n l d m ts b a fs c k e s g p q x y h = record { small = (p, omega arith, (x, omega arith, calls_on n l (length ts) d (length c) fs s (omega arith) h)) }

pop_room : (n : ℕ) (ts : List Tok) (fs : List Frame) (c : List Op) → length fs + length ts ≤ n → length c + (owed fs + length ts) ≤ n → Calls n (length ts) (length c) fs → Room n (pop ts fs c)
pop_room n ts [] c p q h = record { small = omega arith }
pop_room n ts (f_par m ∷ fs) c p q h = r_eat n t_rp ts _ (λ r us l. r_go n (length ts) (length c) (p_value 7) us fs _ (length c + 1) (more1 c _) (omega arith) (omega arith) (omega arith) (omega arith) h)
pop_room n ts (f_call b k ∷ fs) c p q h = let x = h.0 in let y = h.1 in r_pick n (same (next ts) t_comma) _ _
    (λ e. let l = tail_less ts 44 [] e in r_call n (length ts) (length c) p_begin (tail1 ts) b (suc k) fs _ (length c + 1) (more1 c _) (omega arith) (omega arith) (omega arith) (omega arith) (omega arith) (omega arith) h.2)
    (λ e. r_eat n t_rp ts _ (λ r us l. r_go n (length ts) (length c) (p_value 7) us fs _ (length c + 2) (closed_long c b (suc k) r.to) (omega arith) (omega arith) (omega arith) (omega arith) h.2))
pop_room n ts (f_bound m x ∷ fs) c p q h = r_eat n k_in ts _ (λ r us l. r_go n (length ts) (length c) p_begin us (f_body m ∷ fs) _ (length c + 1) (more1 c _) (omega arith) (omega arith) (omega arith) (omega arith) h)
pop_room n ts (f_body m ∷ fs) c p q h = r_go n (length ts) (length c) (p_value 0) ts fs _ (length c + 1) (more1 c _) (omega arith) (omega arith) (omega arith) (omega arith) h
pop_room n ts (f_cond m ∷ fs) c p q h = r_eat n k_then ts _ (λ r us l. r_go n (length ts) (length c) p_begin us (f_then m ∷ fs) _ (length c + 1) (more1 c _) (omega arith) (omega arith) (omega arith) (omega arith) h)
pop_room n ts (f_then m ∷ fs) c p q h = r_eat n k_else ts _ (λ r us l. r_go n (length ts) (length c) p_begin us (f_else m ∷ fs) _ (length c) refl (omega arith) (omega arith) (omega arith) (omega arith) h)
pop_room n ts (f_else m ∷ fs) c p q h = r_go n (length ts) (length c) (p_value 0) ts fs _ (length c + 1) (more1 c _) (omega arith) (omega arith) (omega arith) (omega arith) h
pop_room n ts (f_right o ∷ fs) c p q h = r_go n (length ts) (length c) (p_value (made (lev o))) ts fs _ (length c + 1) (more1 c _) (omega arith) (omega arith) (omega arith) (omega arith) h

op_room : (n j : ℕ) (ts : List Tok) (fs : List Frame) (c : List Op) → length fs + length ts ≤ n → length c + (owed fs + length ts) ≤ n → Calls n (length ts) (length c) fs → Room n (do_op j ts fs c)
op_room n j [] fs c p q h = subst (λ x. Room n (opt x (going (p_value j) [] fs c) (λ o. going p_atom [] (f_right o ∷ fs) c))) (sym (any_none j)) (record { small = (p, q, h) })
op_room n j (t ∷ ts) fs c p q h = go (op_any j t.w)
  where
    go : (x : Option ℕ) → Room n (opt x (going (p_value j) (t ∷ ts) fs c) (λ o. going p_atom ts (f_right o ∷ fs) c))
    go none = record { small = (p, q, h) }
    go (some o) = r_go n (suc (length ts)) (length c) p_atom ts (f_right o ∷ fs) c (length c) refl (omega arith) (omega arith) (omega arith) (omega arith) h

pub step_room : (n : ℕ) (s : State) → Room n s → Room n (step s)
step_room n (going p_begin ts fs c) h = let p = h.small.0 in let q = h.small.1 in r_pick n (same (next ts) k_let) _ _
    (λ e. r_eat n k_let ts _ (λ l us h1. r_word n us _ (λ x vs h2. r_eat n t_gets vs _ (λ g xs h3. r_go n (length ts) (length c) p_begin xs (f_bound l.from x ∷ fs) c (length c) refl (omega arith) (omega arith) (omega arith) (omega arith) h.small.2))))
    (λ e. r_pick n (same (next ts) k_if) _ _ (λ e. r_eat n k_if ts _ (λ l us h1. r_go n (length ts) (length c) p_begin us (f_cond l.from ∷ fs) c (length c) refl (omega arith) (omega arith) (omega arith) (omega arith) h.small.2)) (λ e. record { small = (p, q, h.small.2) }))
step_room n (going p_atom [] fs c) h = r_lost n []
step_room n (going p_atom (t ∷ ts) fs c) h = let p = h.small.0 in let q = h.small.1 in
    r_pick n (same t.w t_lp) _ _ (λ e. r_go n (suc (length ts)) (length c) p_begin ts (f_par t.from ∷ fs) c (length c) refl (omega arith) (omega arith) (omega arith) (omega arith) h.small.2) (λ e.
    r_pick n (is_number t.w) _ _ (λ e. r_pick n (digits t.w) _ _ (λ e. r_go n (suc (length ts)) (length c) (p_value 7) ts fs _ (length c + 1) (more1 c _) (omega arith) (omega arith) (omega arith) (omega arith) h.small.2) (λ e. r_lost n (t ∷ ts))) (λ e.
    r_pick n (is_name t.w) _ _ (λ e. r_pick n (same (next ts) t_lp) _ _
    (λ e. let m = tail_less ts 40 [] e in r_pick n (same (next (tail1 ts)) t_rp) _ _
    (λ e. r_eat n t_rp (tail1 ts) _ (λ r us l. r_go n (suc (length ts)) (length c) (p_value 7) us fs _ (length c + 2) (more2 c _ _) (omega arith) (omega arith) (omega arith) (omega arith) h.small.2))
    (λ e. r_call n (suc (length ts)) (length c) p_begin (tail1 ts) (length c) 0 fs _ (length c + 1) (more1 c _) (omega arith) (omega arith) (omega arith) (omega arith) (omega arith) (omega arith) h.small.2))
    (λ e. r_go n (suc (length ts)) (length c) (p_value 7) ts fs _ (length c + 1) (more1 c _) (omega arith) (omega arith) (omega arith) (omega arith) h.small.2)) (λ e. r_lost n (t ∷ ts))))
step_room n (going (p_value zero) ts fs c) h = pop_room n ts fs c h.small.0 h.small.1 h.small.2
step_room n (going (p_value (suc j)) ts fs c) h = let p = h.small.0 in let q = h.small.1 in r_pick n (leb (suc j) (base fs)) _ _ (λ e. pop_room n ts fs c p q h.small.2) (λ e.
    r_pick n (eqb j 6) _ _ (λ e. r_pick n (same (next ts) t_dot) _ _ (λ e. r_word n (tail1 ts) _ (λ x us l. let m = tail_most ts in r_go n (length ts) (length c) (p_value 7) us fs _ (length c + 1) (more1 c _) (omega arith) (omega arith) (omega arith) (omega arith) h.small.2)) (λ e. record { small = (p, q, h.small.2) })) (λ e. op_room n j ts fs c p q h.small.2))
step_room n (won c ts) h = h
step_room n (lost ts) h = h

pub start_room : (ts : List Tok) → Room (length ts) (start ts)
start_room ts = record { small = (omega arith, omega arith, tt) }
