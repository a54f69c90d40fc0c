-- Two records stand seven words apart at least, so the seventh part of a depth tells records apart: marks of records can stand in a row
-- of their own.
use Rattle.std.proofs.Common.{◌≡◌, ℕ, suc, ◌+◌, ◌/◌, ◌≤◌, ◌⊎◌, List, length, get_or, refl, inl, inr, arith, length-drop}
use Rattle.memo.specs.Record.{size, older, deep}
use Rattle.memo.specs.Log.{Logged, Fits, Record, Reaches, here, back}
use Rattle.memo.proofs.Chains.{reach_suffix}

below : (b : ℕ) {n m : ℕ} {ws l : List ℕ} → Logged b (suc n) ws → Reaches n (older ws) m l → length l + 7 ≤ length ws
below b {ws = ws} h r = let s = (reach_suffix b h.1 r).short in let i = h.0.inside in let d = length-drop (size ws) ws in omega arith

pub two_apart : (b : ℕ) {ws l k : List ℕ} {n m j : ℕ} → Logged b n ws → Reaches n ws m l → Reaches n ws j k → (length l ≡ length k) ⊎ ((length l + 7 ≤ length k) ⊎ (length k + 7 ≤ length l))
two_apart b h here here = inl refl
two_apart b h here (back s) = inr (inr (below b h s))
two_apart b h (back r) here = inr (inl (below b h r))
two_apart b h (back r) (back s) = two_apart b h.1 r s

pub slots : (ws : List ℕ) (d e : ℕ) → Fits ws → Record ws d → Record ws e → d / 7 ≡ e / 7 → d ≡ e
slots ws d e f x y h = go (two_apart (get_or ws 2 0) f.logged x.reached y.reached)
  where
    go : (length (deep d ws) ≡ length (deep e ws)) ⊎ ((length (deep d ws) + 7 ≤ length (deep e ws)) ⊎ (length (deep e ws) + 7 ≤ length (deep d ws))) → d ≡ e
    go (inl p) = let a = x.long in let b = y.long in omega arith
    go (inr (inl p)) = let a = x.long in let b = y.long in absurd (omega arith)
    go (inr (inr p)) = let a = x.long in let b = y.long in absurd (omega arith)
