-- The theorems of specs/Theorems, each from what 'brings' says.
use Rattle.std.proofs.Common.{◌≡◌, ℕ, suc, ◌<◌, T, leb, ◌⊎◌, [], ap, ◌∙◌, inl, inr, arith, leb→le}
use mathlib.Core.Option.{some, none}
use Rattle.engine.specs.declared.key.Key.{Key}
use Rattle.engine.specs.Engine.{Rules, Inputs, Kept, Entry, Got, brought, bring, find, worth}
use Rattle.engine.specs.Theorems.{Falls, Honest, InGots, UpToDate, AskedAgain, OnlyChanged, ToldExactly, ToldAtMost, LookedAtOnce}
use Rattle.engine.specs.Says.{kept}
use Rattle.engine.proofs.Worth.{worth_above, asked_lower}
use Rattle.engine.proofs.Settled.{settled_bring, entry_right}
use Rattle.engine.proofs.Steps.{Stale}
use Rattle.engine.proofs.Brings.{Good, brings}
use Rattle.engine.proofs.Told.{told_bounded}

good : (r : Rules) (i : Inputs) (n : ℕ) (m : Kept) (k : Key) → Falls r → T (leb (suc (r.rank k)) n) → Honest r m → Good r i m k (bring r i n m k)
good r i n m k fall l h = brings r i fall n m k h.holds (leb→le _ _ l)

pub up_to_date : UpToDate
up_to_date r i n m k fall l h =
    let b = good r i n m k fall l h in
    (b.right ∙ worth_above r i fall (suc (r.rank k)) n k (omega arith) (leb→le _ _ l), record { holds = b.step.fair })

pub asked_again : AskedAgain
asked_again r i n m k fall l h =
    let b = good r i n m k fall l h in
    ap (λ x. x.kept) (settled_bring r i fall n (bring r i n m k).kept k b.step.fair (leb→le _ _ l) b.settled)

pub only_changed : OnlyChanged
only_changed r i n m k fall l h = (b.js, b.step.worked, b.step.once, λ j x. reason j (b.step.low j x) (b.step.why j x))
  where
    b : Good r i m k (bring r i n m k)
    b = good r i n m k fall l h

    top : r.rank k < n
    top = leb→le _ _ l

    reason : (j : Key) → r.rank j < suc (r.rank k) → Stale r i m.entries j → (find m.entries j ≡ none) ⊎ ((e : Entry) × (g : Got) × (find m.entries j ≡ some e) × InGots g e.gots × (worth r i n g.key ≡ g.ans → ⊥))
    reason j q (p, inl e) = inl e
    reason j q (p, inr (d, g, e, y, v)) = inr (d, g, e, y, λ w. v (worth_above r i fall (suc (r.rank g.key)) n g.key (omega arith) (let z = asked_lower r i fall j [] d.gots d.ans (h.holds j d e) g y in omega (arith, top)) ∙ w))

pub told_exactly : ToldExactly
told_exactly r i n m k fall l h =
    let b = good r i n m k fall l h in
    (b.js, b.step.worked, b.step.once, b.told)

pub told_at_most : ToldAtMost
told_at_most r i n m k fall l h = told_bounded r i n m k fall (leb→le _ _ l) h

pub looked_at_once : LookedAtOnce
looked_at_once r i n m k fall l h =
    let b = good r i n m k fall l h in
    let top : r.rank k < n = leb→le _ _ l in
    let same_worth = worth_above r i fall (suc (r.rank k)) n k (omega arith) top in (
      b.settled,
      b.step.stays,
      (λ s. settled_bring r i fall n m k h.holds top s ∙ ap (brought m) same_worth),
      (λ e s p f. entry_right r i fall m.entries k e h.holds p f s ∙ same_worth),
    )

-- with nothing kept, what is kept is honest: the theorems hold from there on, through any bringings and changes of inputs
pub nothing_honest : (r : Rules) → Honest r (kept [])
nothing_honest r = record { holds = λ k e f. absurd (let z : ◌≡◌ {A = ℕ} 0 1 = cc in omega arith) }
