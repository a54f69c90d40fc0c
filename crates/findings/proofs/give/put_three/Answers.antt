use Rattle.std.proofs.Common.{◌+◌, get_or}
use Rattle.findings.proofs.Puts.{put_three}
use Rattle.findings.proofs.give.put_three.Goals as goal

pub returns : goal.returns
returns c =
    let ws = c.args.words.now in
    let i = c.args.i in
    rw (c.from-start.ensures, c.from.ensures, c.from-2.ensures, c.from-3.ensures) (put_three (get_or ws i 0 + get_or ws (i + 1) 0) (get_or ws i 0 + get_or ws (i + 2) 0) (get_or ws (i + 3) 0) c.args.j c.args.out.now c.requires.writes)
