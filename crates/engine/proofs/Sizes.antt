-- The words of the entries of some keys: no more than those of all entries, if no key stands there twice (sizes_signs). Tellings
-- that aren't over are within the words of the stack (pending_signs).
use Rattle.std.proofs.Common.{◌≡◌, ℕ, ◌+◌, ◌≤◌, ◌⊎◌, List, [], ◌∷◌, ◌++◌, length, sym, refl, ap, subst, inl, inr, arith}
use mathlib.Core.Option.{Option, some, none}
use Rattle.engine.specs.declared.key.Key.{Key}
use Rattle.engine.specs.Engine.{Got, Entry, find}
use Rattle.engine.specs.Says.{signs_gots, signs_entries}
use Rattle.engine.specs.Theorems.{Among, here, there, NoTwice, another}
use Rattle.engine.specs.Machine.{Frame, looks, works, State, call, back, tell, pending_in, pending, stack_signs, state_signs}
use Rattle.engine.proofs.Basics.{pick_true, pick_false, key_cases, key_yes, key_no}

-- the words of the entries of keys
abbrev pub size_of : Option Entry → ℕ
size_of none = 0
size_of (some e) = 16 + (length e.ans + signs_gots e.gots)

abbrev pub sizes : List Entry → List Key → ℕ
sizes es [] = 0
sizes es (j ∷ js) = size_of (find es j) + sizes es js

sizes_none : (js : List Key) → sizes [] js ≡ 0
sizes_none [] = refl
sizes_none (j ∷ js) = let h = sizes_none js in omega arith

pub sizes_same : (es fs : List Entry) (js : List Key) → ((j : Key) → Among j js → find fs j ≡ find es j) → sizes fs js ≡ sizes es js
sizes_same es fs [] h = refl
sizes_same es fs (j ∷ js) h = let a = ap size_of (h j here) in let b = sizes_same es fs js (λ l x. h l (there x)) in omega arith

sizes_apart : (e : Entry) (es : List Entry) (js : List Key) → (Among e.key js → ⊥) → sizes (e ∷ es) js ≡ sizes es js
sizes_apart e es js n = sizes_same es (e ∷ es) js (λ j x. pick_false (some e) (find es j) (key_no e.key j (λ y. n (subst (λ (z : Key). Among z js) (sym y) x))))

sizes_cons : (e : Entry) (es : List Entry) (js : List Key) → NoTwice js → sizes (e ∷ es) js ≤ size_of (some e) + sizes es js
sizes_cons e es [] t = omega arith
sizes_cons e es (j ∷ js) (another n t) = go (key_cases e.key j) (sizes_cons e es js t)
  where
    go : (e.key ≡ j) ⊎ (e.key ≡ j → ⊥) → sizes (e ∷ es) js ≤ size_of (some e) + sizes es js → sizes (e ∷ es) (j ∷ js) ≤ size_of (some e) + sizes es (j ∷ js)
    go (inl x) ih =
        let a = ap size_of (pick_true (some e) (find es j) (key_yes e.key j x)) in
        let b = sizes_apart e es js (λ y. n (subst (λ (z : Key). Among z js) x y)) in omega arith
    go (inr x) ih = let a = ap size_of (pick_false (some e) (find es j) (key_no e.key j x)) in omega arith

pub sizes_signs : (es : List Entry) (js : List Key) → NoTwice js → sizes es js ≤ signs_entries es
sizes_signs [] js t = let h = sizes_none js in omega arith
sizes_signs (e ∷ es) js t = let a = sizes_cons e es js t in let b = sizes_signs es js t in omega arith

pub signs_more : (gs hs : List Got) → signs_gots (gs ++ hs) ≡ signs_gots gs + signs_gots hs
signs_more [] hs = omega arith
signs_more (g ∷ gs) hs = let h = signs_more gs hs in omega arith

-- the tellings of rules that aren't done are within the words of the state
pub signs_length : (gs : List Got) → length gs ≤ signs_gots gs
signs_length [] = omega arith
signs_length (g ∷ gs) = let h = signs_length gs in omega arith

pending_stack : (st : List Frame) → pending_in st ≤ stack_signs st
pending_stack [] = omega arith
pending_stack (looks k e g gs ∷ st) = let h = pending_stack st in omega arith
pending_stack (works k gs q ∷ st) = let h = pending_stack st in let a = signs_length gs in omega arith

pub pending_signs : (c : State) → pending c ≤ state_signs c
pending_signs (call m k st) = pending_stack st
pending_signs (back m a st) = pending_stack st
pending_signs (tell m k gs st) = let h = pending_stack st in let a = signs_length gs in omega arith
