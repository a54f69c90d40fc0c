-- What is proved by hand of along.
use Rattle.std.proofs.Common.{◌≡◌, sym, ◌∙◌, subst, arith}
use Rattle.std.proofs.lemmas.Bool.{both_ways}
use Rattle.engine.proofs.Basics.{key_true, key_yes}
use Rattle.memo.specs.Record.{key_of, deep}
use Rattle.memo.specs.Chain.{Chained}
use Rattle.memo.proofs.Along.{along_stands, along_record, along_falls, along_next, along_some, along_none}
use Rattle.memo.proofs.chain.along.Goals as goal

pub key-requires : goal.key-requires
key-requires c = let x = c.loop-depth.invariant.0 in let s = along_stands c.args.words.now c.requires.0 x.0 x.1 c.args.k.now c.loop-depth.depth x.2 c.loop-depth-test.true in (omega arith, omega arith)

pub word-depth-requires : goal.word-depth-requires
word-depth-requires c = let x = c.loop-depth.invariant.0 in let s = along_stands c.args.words.now c.requires.0 x.0 x.1 c.args.k.now c.loop-depth.depth x.2 c.loop-depth-test.true in (omega arith, omega arith)

pub returns-then-same_key-clause-is : goal.returns-then-same_key-clause-is
returns-then-same_key-clause-is c = λ m l h.
    let y = c.loop-depth.invariant.1 m l h in
    let e : key_of (deep c.loop-depth.depth c.args.words.now) ≡ c.args.k.now = sym c.key.ensures ∙ key_true _ _ (sym c.if-same_key.ensures) in (
      along_record c.args.words.now c.requires.0 m l c.args.k.now c.loop-depth.depth y c.loop-depth-test.true,
      along_some c.args.words.now c.requires.0 m l c.args.k.now c.loop-depth.depth y c.loop-depth-test.true e,
    )

pub loop-depth-smaller : goal.loop-depth-smaller
loop-depth-smaller c =
    let x = c.loop-depth.invariant.0 in
    let e = c.word-depth.ensures in
    let f = along_falls c.args.words.now c.requires.0 x.0 x.1 c.args.k.now c.loop-depth.depth x.2 c.loop-depth-test.true in
    omega arith

pub loop-depth-preserved : goal.loop-depth-preserved
loop-depth-preserved c =
    let other : key_of (deep c.loop-depth.depth c.args.words.now) ≡ c.args.k.now → ⊥ = λ q. both_ways _ (sym c.if-same_key.ensures) (key_yes _ _ (c.key.ensures ∙ q)) in
    let x = c.loop-depth.invariant.0 in (
      (x.0, x.1, subst (Chained c.args.words.now x.0 x.1 c.args.k.now) (sym c.word-depth.ensures) (along_next c.args.words.now c.requires.0 x.0 x.1 c.args.k.now c.loop-depth.depth x.2 c.loop-depth-test.true other)),
      λ m l h.
          subst (Chained c.args.words.now m l c.args.k.now) (sym c.word-depth.ensures)
          (along_next c.args.words.now c.requires.0 m l c.args.k.now c.loop-depth.depth (c.loop-depth.invariant.1 m l h) c.loop-depth-test.true other),
    )

pub returns-clause-is : goal.returns-clause-is
returns-clause-is c = λ m l h. along_none c.args.words.now c.requires.0 m l c.args.k.now (subst (Chained c.args.words.now m l c.args.k.now) c.loop-depth-test.false (c.loop-depth.invariant.1 m l h))
