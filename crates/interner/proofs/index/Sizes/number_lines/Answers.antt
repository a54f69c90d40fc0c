-- What is proved by hand of number_lines.
use Rattle.std.proofs.Common.{◌≡◌, ℕ, ◌<◌, List, length, sym, subst, arith}
use Rattle.interner.specs.Index.{Sound, Grown, Pooled}
use Rattle.std.proofs.lemmas.Result.{err_from_is_err_and}
use Rattle.interner.proofs.Numbering.{begins, steps, ends, enough}
use Rattle.interner.proofs.index.Sizes.number_lines.Goals as goal

pub lines-init : goal.lines-init
lines-init c = begins _ _ _ _ _ c.requires

pub returns-then-k-out : goal.returns-then-k-out
returns-then-k-out c = ((c.lines.invariant.sound, c.lines.invariant.grown, c.lines.invariant.pooled, c.lines.invariant.long), λ r. omega (arith, r.places, c.lines.invariant.few, c.lines.invariant.in_text))

pub intern-requires : goal.intern-requires
intern-requires c = c.lines.invariant.sound

pub returns-in_err-n : goal.returns-in_err-n
returns-in_err-n c =
    let w = c.intern.new.words in
    let kept = subst (λ (x : List ℕ). Sound c.args.self.buckets c.args.self.cap x × Grown c.args.self.buckets c.args.words.now x × Pooled c.args.self.buckets c.args.self.cap c.args.words.now x × (length x ≡ length c.args.words.now)) (sym c.in_err-n.ensures.0) (c.lines.invariant.sound, c.lines.invariant.grown, c.lines.invariant.pooled, c.lines.invariant.long) in
    rw (err_from_is_err_and c.from_residual.result c.from_residual.ensures.1).1 (kept, enough _ _ _ _ _ _ _ _ _ c.lines.invariant c.line_end-to.ensures (sym c.lines.invariant.long) c.in_err-n.ensures.1)

pub returns-then-to-text : goal.returns-then-to-text
returns-then-to-text c = ends _ _ _ _ _ _ _ _ _ _ _ c.lines.invariant (omega arith) c.line_end-to.ensures c.in_ok-n.ensures (omega arith)

pub lines-smaller : goal.lines-smaller
lines-smaller c = omega (arith, c.line_end-to.ensures.onward, c.line_end-to.ensures.within c.lines.invariant.in_text, c.lines.invariant.in_text)

pub lines-preserved : goal.lines-preserved
lines-preserved c = let h : c.line_end-to.result < length c.args.text.now = omega (arith, c.line_end-to.ensures.within c.lines.invariant.in_text) in steps _ _ _ _ _ _ _ _ _ _ _ c.lines.invariant (omega arith) c.line_end-to.ensures c.in_ok-n.ensures h
