-- What is proved by hand of add_in.
use Rattle.std.proofs.Common.{◌≡◌, ℕ, ◌+◌, ◌<◌, ◌≤◌, ◌⊎◌, List, length, sym, ap, ◌∙◌, subst, inl, inr, arith}
use Rattle.interner.specs.Index.{entered, end, count}
use Rattle.interner.proofs.Words.{Wrote, wrote, made}
use Rattle.interner.proofs.index.Sizes.add_in.Goals as goal
use Rattle.interner.proofs.index.Sizes.add_in.Goals.{then-n-words, else-n-words}

pub returns : goal.returns
returns c =
    let e = c.enter.ensures ∙ ap (λ (h : ℕ). entered c.args.self.buckets h c.args.n (end c.args.words.now) (end c.args.words.now + 1 + length c.args.key.now) c.if-n-words.count c.lay.new.words) c.requires.bucket in
    let k : (count c.args.words.now ≤ c.if-n-words.count) × (c.args.n < c.if-n-words.count) × (c.if-n-words.count ≤ c.args.self.cap) × (c.if-n-words.count ≤ c.args.n + 1 ⊎ (c.if-n-words.count ≡ count c.args.words.now)) × (c.args.n < count c.args.words.now → c.if-n-words.count ≡ count c.args.words.now) = elim c.if-n-words.branch [ then-n-words w ↦ (omega (arith, w.count-is, c.requires.new.next), omega (arith, w.count-is), omega (arith, w.count-is, c.requires.new.sound.counted), inr w.count-is, λ h. w.count-is) | else-n-words w ↦ (omega (arith, w.count-is, c.requires.new.next), omega (arith, w.count-is), omega (arith, w.count-is, c.requires.new.in_cap), inl (omega (arith, w.count-is)), λ h. omega (arith, w.if-n-words.false)) ] in
    made _ _ _ _ _ _ c.if-n-words.count c.requires.new (subst (λ (x : List ℕ). Wrote c.args.self.buckets c.args.self.cap c.args.words.now c.args.n c.args.key.now x c.if-n-words.count) (sym e) (wrote _ _ _ _ _ _ _ c.requires.new.sound c.lay.auto.words c.requires.new.room c.requires.new.in_cap c.lay.ensures.front c.lay.ensures.size c.lay.ensures.laid)) k.0 k.1 k.2 (elim k.3 [ inl t ↦ omega (arith, c.requires.new.next) | inr t ↦ omega arith ]) k.4 (λ j h d. elim k.3 [ inl t ↦ omega (arith, c.requires.new.next) | inr t ↦ omega arith ])
