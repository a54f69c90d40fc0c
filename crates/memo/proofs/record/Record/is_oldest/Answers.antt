-- What is proved by hand of is_oldest.
use Rattle.std.proofs.Common.{not, sym, ap, ◌∙◌, subst, arith}
use Rattle.base.specs.Base.{is_some}
use Rattle.engine.specs.Engine.{find}
use Rattle.memo.specs.Record.{older, deep, records}
use Rattle.memo.specs.Log.{Record as Stands}
use Rattle.memo.specs.Chain.{Chained}
use Rattle.memo.proofs.Places.{stands}
use Rattle.memo.proofs.Along.{older_chained, along_is_none}
use Rattle.memo.proofs.record.Record.is_oldest.Goals as goal

pub word-requires : goal.word-requires
word-requires c = let s = stands c.args.self.words.now c.args.self.depth c.requires.0 c.requires.1 in (omega arith, omega arith)

pub key-requires : goal.key-requires
key-requires c = let s = stands c.args.self.words.now c.args.self.depth c.requires.0 c.requires.1 in (omega arith, omega arith)

pub along-requires : goal.along-requires
along-requires c =
    let ws = c.args.self.words.now in
    let d = c.args.self.depth in
    let x = c.requires.1 in
    let l = older (deep d ws) in
    let h : Chained ws x.count l c.key.result c.word.result = subst (λ k. Chained ws x.count l k c.word.result) (sym c.key.ensures) (subst (Chained ws x.count l _) (sym c.word.ensures) (older_chained ws c.requires.0 d x)) in
    (c.requires.0, x.count, l, h)

pub returns : goal.returns
returns c =
    let ws = c.args.self.words.now in
    let d = c.args.self.depth in
    let l = older (deep d ws) in
    let h : (x : Stands ws d) → Chained ws x.count l c.key.result c.word.result = λ x. subst (λ k. Chained ws x.count l k c.word.result) (sym c.key.ensures) (subst (Chained ws x.count l _) (sym c.word.ensures) (older_chained ws c.requires.0 d x)) in
    record { is = λ x. along_is_none ws x.count l c.key.result c.along.result c.is_none.result (c.along.ensures.is x.count l (h x)) c.is_none.ensures ∙ ap (λ k. not (is_some (find (records x.count l) k))) c.key.ensures }
