use Rattle.std.proofs.Common.{refl, sym, ◌∙◌, arith}
use Rattle.std.proofs.lemmas.List.{length-take-le}
use Rattle.syntax.specs.Reads.{line_of}
use Rattle.syntax.proofs.Taken.{is_next, taken, refused}
use Rattle.syntax.proofs.reading.Reading.expect.Goals as goal

pub returns-then-not-is : goal.returns-then-not-is
returns-then-not-is c = refused c.args.wanted (line_of c.args.self c.args.words.now) c.args.self.at c.next-next.result c.next-next.ensures (sym c.is.ensures ∙ c.if-not-is.true)

pub returns : goal.returns
returns c =
    let line = line_of c.args.self c.args.words.now in
    let s = c.next-next.result in
    let e = sym c.is.ensures ∙ c.if-not-is.false in
    let n = is_next c.args.wanted line c.args.self.at s c.next-next.ensures e in
    let a = n.onward in
    let b = n.some_bytes in
    let i = n.within in
    let l = length-take-le c.args.self.len c.args.words.now c.requires.0 in
    record { reads = taken c.args.wanted line c.args.self.at s c.next-next.ensures e; beside = record { len_is = refl; base_is = refl }; count_is = refl; onward = omega arith; within = omega arith }
