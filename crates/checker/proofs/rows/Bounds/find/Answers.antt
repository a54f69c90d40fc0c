use Rattle.std.proofs.Common.{◌≡◌, ◌-◌, ◌∷◌, take, sym, ap, ◌∙◌, arith}
use Rattle.base.specs.Base.{same}
use Rattle.parser.specs.Rows.{span_of}
use Rattle.semantics.specs.Check.{find}
use Rattle.checker.specs.Rows.{names_in, names_at, bound_is}
use Rattle.checker.proofs.Words.{newest_name_is, find_hit, find_miss}
use Rattle.checker.proofs.rows.Bounds.find.Goals as goal

pub returns-then-same_word : goal.returns-then-same_word
returns-then-same_word c = λ k.
    let ws = c.args.words.now in
    let line = take c.args.self.len ws in
    let w = (span_of line c.args.name).w in
    let n = c.loop-n.n in
    let x = bound_is k line c.read-x.result in
    let g = newest_name_is k line (names_at c.args.self) n ws (omega arith) ∙ ap (λ y. bound_is k line y ∷ names_in k line (names_at c.args.self) (n - 1) ws) (sym c.read-x.ensures) in
    let e : same x.name.w w ≡ c.same_word.result = sym (c.same_word.ensures ∙ (λ i. same (c.word_of.ensures i) (c.word_of-in-loop-n.ensures i))) in
    c.loop-n.invariant k ∙ find_hit x _ (names_in k line (names_at c.args.self) (n - 1) ws) w g (e ∙ c.if-same_word.true)

pub loop-n-preserved : goal.loop-n-preserved
loop-n-preserved c = λ k.
    let ws = c.args.words.now in
    let line = take c.args.self.len ws in
    let w = (span_of line c.args.name).w in
    let n = c.loop-n.n in
    let x = bound_is k line c.read-x.result in
    let g = newest_name_is k line (names_at c.args.self) n ws (omega arith) ∙ ap (λ y. bound_is k line y ∷ names_in k line (names_at c.args.self) (n - 1) ws) (sym c.read-x.ensures) in
    let e : same x.name.w w ≡ c.same_word.result = sym (c.same_word.ensures ∙ (λ i. same (c.word_of.ensures i) (c.word_of-in-loop-n.ensures i))) in
    c.loop-n.invariant k ∙ find_miss x _ (names_in k line (names_at c.args.self) (n - 1) ws) w g (e ∙ c.if-same_word.false)

pub returns : goal.returns
returns c = λ k.
    let ws = c.args.words.now in
    let line = take c.args.self.len ws in
    let z : c.loop-n.n ≡ 0 = omega arith in
    c.loop-n.invariant k ∙ ap (λ n. find (names_in k line (names_at c.args.self) n ws) (span_of line c.args.name).w) z
