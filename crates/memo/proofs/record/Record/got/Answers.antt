-- What is proved by hand of got.
use Rattle.std.proofs.Common.{◌+◌, ◌*◌, get_or, ◌∙◌, arith}
use Rattle.memo.specs.Record.{deep}
use Rattle.memo.proofs.Gots.{looking, got_says}
use Rattle.memo.proofs.record.Record.got.Goals as goal

pub word-a-requires : goal.word-a-requires
word-a-requires c =
    let s = looking c.args.self.words.now c.args.self.depth c.args.here.index c.args.here.place c.requires.0 c.requires.1.0 c.requires.1.1 in
    (omega arith, omega arith)

pub word-c-requires : goal.word-c-requires
word-c-requires c =
    let s = looking c.args.self.words.now c.args.self.depth c.args.here.index c.args.here.place c.requires.0 c.requires.1.0 c.requires.1.1 in
    let e0 = c.word-a.ensures in
    (omega arith, omega arith)

pub overflow_add-p-3 : goal.overflow_add-p-3
overflow_add-p-3 c =
    let s = looking c.args.self.words.now c.args.self.depth c.args.here.index c.args.here.place c.requires.0 c.requires.1.0 c.requires.1.1 in
    let e0 = c.word-a.ensures in
    let e1 = c.word-c.ensures in
    omega arith

pub word-n-requires : goal.word-n-requires
word-n-requires c =
    let s = looking c.args.self.words.now c.args.self.depth c.args.here.index c.args.here.place c.requires.0 c.requires.1.0 c.requires.1.1 in
    let e0 = c.word-a.ensures in
    let e1 = c.word-c.ensures in
    (omega arith, omega arith)

pub key_at-requires : goal.key_at-requires
key_at-requires c =
    let s = looking c.args.self.words.now c.args.self.depth c.args.here.index c.args.here.place c.requires.0 c.requires.1.0 c.requires.1.1 in
    let e0 = c.word-a.ensures in
    (omega arith, omega arith)

pub overflow_add-p-4 : goal.overflow_add-p-4
overflow_add-p-4 c =
    let s = looking c.args.self.words.now c.args.self.depth c.args.here.index c.args.here.place c.requires.0 c.requires.1.0 c.requires.1.1 in
    let e0 = c.word-a.ensures in
    let e1 = c.word-c.ensures in
    let e2 = c.word-n.ensures in
    omega arith

pub part-requires : goal.part-requires
part-requires c =
    let s = looking c.args.self.words.now c.args.self.depth c.args.here.index c.args.here.place c.requires.0 c.requires.1.0 c.requires.1.1 in
    let e0 = c.word-a.ensures in
    let e1 = c.word-c.ensures in
    let e2 = c.word-n.ensures in
    let e3 = e2 ∙ (λ t. get_or (deep c.args.self.depth c.args.self.words.now) (7 + (e0 t + 3 * e1 t) + c.args.here.place) 0) in
    (omega arith, omega arith)

pub overflow_add-result-3 : goal.overflow_add-result-3
overflow_add-result-3 c =
    let s = looking c.args.self.words.now c.args.self.depth c.args.here.index c.args.here.place c.requires.0 c.requires.1.0 c.requires.1.1 in
    let e0 = c.word-a.ensures in
    let e1 = c.word-c.ensures in
    let e2 = c.word-n.ensures in
    omega arith

pub returns-clause-says : goal.returns-clause-says
returns-clause-says c =
    got_says c.args.self.words.now c.args.self.depth c.args.here.index c.args.here.place c.requires.1.0 c.requires.1.1 _ _ _ _ _ c.word-a.ensures c.word-c.ensures c.word-n.ensures
    c.key_at.ensures c.part.ensures
