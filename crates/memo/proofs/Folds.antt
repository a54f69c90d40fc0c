-- Records, newest first, and the entries that they come to: the first record of a key is its entry (find_folded).
use Rattle.std.proofs.Common.{◌≡◌, ◌⊎◌, List, [], ◌∷◌, sym, refl, ap, ◌∙◌, inl, inr}
use mathlib.Core.Option.{some}
use Rattle.engine.specs.declared.key.Key.{Key}
use Rattle.base.specs.Base.{pick}
use Rattle.engine.specs.Engine.{Entry, same_key, find, store}
use Rattle.engine.proofs.Basics.{pick_true, pick_false, key_yes, key_no, key_cases, find_here, find_apart}
use Rattle.memo.specs.Log.{folded}

-- what was stored is found, and all else as before
pub find_store : (e : Entry) (es : List Entry) (k : Key) → find (store e es) k ≡ pick (same_key e.key k) (some e) (find es k)
find_store e es k = go (key_cases e.key k)
  where
    go : (e.key ≡ k) ⊎ (e.key ≡ k → ⊥) → find (store e es) k ≡ pick (same_key e.key k) (some e) (find es k)
    go (inl p) = ap (find (store e es)) (sym p) ∙ find_here e es ∙ sym (pick_true (some e) (find es k) (key_yes e.key k p))
    go (inr n) = find_apart e es k n ∙ sym (pick_false (some e) (find es k) (key_no e.key k n))

-- the newest record of a key is what is found
pub find_folded : (es : List Entry) (k : Key) → find (folded es) k ≡ find es k
find_folded [] k = refl
find_folded (e ∷ es) k = find_store e (folded es) k ∙ ap (pick (same_key e.key k) (some e)) (find_folded es k)
