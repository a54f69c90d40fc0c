-- What is proved by hand of find_in.
use Rattle.std.proofs.Common.{◌≡◌, ℕ, ◌+◌, ◌<◌, ◌≤◌, length, get_or, sym, ap, ◌∙◌, subst, arith}
use Rattle.interner.specs.Index.{place, head, bytes, bytes_at}
use Rattle.interner.proofs.Chains.{Walk, starts, goes_on, falls, none_left, head_in, row_in, bytes_in}
use Rattle.interner.proofs.index.Sizes.find_in.Goals as goal

pub chain-init : goal.chain-init
chain-init c = subst (λ (n : ℕ). Walk c.args.self.buckets c.args.words.now c.args.key.now n) (sym (c.head_of-n.ensures ∙ ap (head c.args.words.now) c.requires.bucket)) (starts _ _ _ _ c.requires.sound)

pub head_of-n-requires : goal.head_of-n-requires
head_of-n-requires c = let h = head_in _ _ _ c.args.key.now c.requires.sound in rw c.requires.bucket h

pub place_of-p-requires : goal.place_of-p-requires
place_of-p-requires c = row_in _ _ _ c.args.key.now c.requires.sound _ c.chain.invariant.here

pub returns-then-p-eq0 : goal.returns-then-p-eq0
returns-then-p-eq0 c = none_left _ _ _ _ c.requires.sound _ c.chain.invariant (omega arith)

pub same_at-requires : goal.same_at-requires
same_at-requires c = subst (λ (p : ℕ). p + 1 + get_or c.args.words.now p 0 ≤ length c.args.words.now) (sym c.place_of-p.ensures) (bytes_in _ _ _ c.args.key.now c.requires.sound _ c.chain.invariant.here (omega arith))

pub overflow_cast-result : goal.overflow_cast-result
overflow_cast-result c = omega (arith, c.chain.invariant.here, c.requires.sound.counted, c.requires.sound.pool_from, c.requires.sound.pool_to, c.requires.sound.small)

pub returns-then-same_at : goal.returns-then-same_at
returns-then-same_at c = ((c.chain.invariant.here, omega arith), ap (bytes_at c.args.words.now) (sym c.place_of-p.ensures) ∙ c.same_at.ensures.0 c.if-same_at.true)

pub link_of-n-requires : goal.link_of-n-requires
link_of-n-requires c = row_in _ _ _ c.args.key.now c.requires.sound _ c.chain.invariant.here

differs : (c : goal.After-link_of-n) → bytes c.args.self.buckets c.args.words.now c.chain.n ≡ c.args.key.now → ⊥
differs c e = let t = c.same_at.ensures.1 (ap (bytes_at c.args.words.now) c.place_of-p.ensures ∙ e) in let f = c.if-same_at.false in let z : ◌≡◌ {A = ℕ} 0 1 = cc in omega arith

pub chain-smaller : goal.chain-smaller
chain-smaller c = subst (λ (n : ℕ). place c.args.self.buckets c.args.words.now n < place c.args.self.buckets c.args.words.now c.chain.n) (sym c.link_of-n.ensures) (falls _ _ _ _ c.requires.sound _ c.chain.invariant (omega arith))

pub chain-preserved : goal.chain-preserved
chain-preserved c = subst (λ (n : ℕ). Walk c.args.self.buckets c.args.words.now c.args.key.now n) (sym c.link_of-n.ensures) (goes_on _ _ _ _ c.requires.sound _ c.chain.invariant (omega arith) (differs c))
