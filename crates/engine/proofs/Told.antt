-- How often rules are told in one bringing: at most as often as the entries that it leaves have words (told_bounded), since no key is
-- worked out twice and each has an entry then.
use Rattle.std.proofs.Common.{◌≡◌, ℕ, suc, ◌+◌, ◌<◌, ◌≤◌, ◌⊎◌, List, [], ◌∷◌, length, sym, refl, ap, subst, inl, inr, arith}
use mathlib.Core.Option.{some}
use Rattle.engine.specs.declared.key.Key.{Key}
use Rattle.engine.specs.Engine.{Rules, Inputs, Got, Entry, Kept, bring, find}
use Rattle.engine.specs.Theorems.{Falls, Honest, Among, here, there, NoTwice, another, told_of, tally}
use Rattle.engine.specs.Says.{signs_gots, signs_entries}
use Rattle.engine.proofs.Basics.{pick_true, pick_false, key_cases, key_yes, key_no}
use Rattle.engine.proofs.Brings.{brings, Good}

signs_length : (gs : List Got) → length gs ≤ signs_gots gs
signs_length [] = omega arith
signs_length (g ∷ gs) = let h = signs_length gs in omega arith

tally_none : (js : List Key) → tally [] js ≡ 0
tally_none [] = refl
tally_none (j ∷ js) = let h = tally_none js in omega arith

tally_apart : (e : Entry) (es : List Entry) (js : List Key) → (Among e.key js → ⊥) → tally (e ∷ es) js ≡ tally es js
tally_apart e es [] n = refl
tally_apart e es (j ∷ js) n =
    let h = tally_apart e es js (λ x. n (there x)) in
    let a = ap told_of (pick_false (some e) (find es j) (key_no e.key j (λ x. n (subst (λ (y : Key). Among y (j ∷ js)) (sym x) here)))) in
    omega arith

tally_cons : (e : Entry) (es : List Entry) (js : List Key) → NoTwice js → tally (e ∷ es) js ≤ suc (length e.gots) + tally es js
tally_cons e es [] t = omega arith
tally_cons e es (j ∷ js) (another n t) = go (key_cases e.key j) (tally_cons e es js t)
  where
    go : (e.key ≡ j) ⊎ (e.key ≡ j → ⊥) → tally (e ∷ es) js ≤ suc (length e.gots) + tally es js → tally (e ∷ es) (j ∷ js) ≤ suc (length e.gots) + tally es (j ∷ js)
    go (inl x) ih =
        let a = ap told_of (pick_true (some e) (find es j) (key_yes e.key j x)) in
        let b = tally_apart e es js (λ y. n (subst (λ (z : Key). Among z js) x y)) in omega arith
    go (inr x) ih = let a = ap told_of (pick_false (some e) (find es j) (key_no e.key j x)) in omega arith

pub tally_signs : (es : List Entry) (js : List Key) → NoTwice js → tally es js ≤ signs_entries es
tally_signs [] js t = let h = tally_none js in omega arith
tally_signs (e ∷ es) js t =
    let a = tally_cons e es js t in let b = tally_signs es js t in let c = signs_length e.gots in omega arith

pub told_bounded : (r : Rules) (i : Inputs) (n : ℕ) (m : Kept) (k : Key) → Falls r → r.rank k < n → Honest r m → (bring r i n m k).kept.goes ≤ m.goes + signs_entries (bring r i n m k).kept.entries
told_bounded r i n m k fall l h =
    let b : Good r i m k (bring r i n m k) = brings r i fall n m k h.holds l in
    let a = tally_signs (bring r i n m k).kept.entries b.js b.step.once in
    omega (arith, a, b.told)
