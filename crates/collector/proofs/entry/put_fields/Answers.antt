-- Fields and parameters, one after the other.
use Rattle.std.proofs.Common.{◌≡◌, ◌+◌, ◌*◌, length, subst, arith, rules}
use Rattle.collector.specs.Rows.{Wrote}
use Rattle.collector.proofs.Writes.{wrote_wider, wrote_on}
use Rattle.collector.proofs.Fields.{fields_more, fields_all}
use Rattle.collector.proofs.entry.put_fields.Goals as goal

pub loop-i-preserved : goal.loop-i-preserved
loop-i-preserved c =
    let a = c.args.at in
    let i = c.loop-i.i in
    let w = c.loop-i.invariant.0 in
    let n = length c.field_words-row.result in
    let four : n ≡ 4 = search rules in
    let e : a + 4 * i + n ≡ a + 4 * (i + 1) = omega arith in (
      subst (λ t. Wrote a t c.args.words.now c.put.new.words) e (wrote_on a (a + 4 * i) (a + 4 * i) (a + 4 * i + n) c.args.words.now c.loop-i.words c.put.new.words (omega arith) (omega arith) w c.put.ensures.wrote),
      λ line fs p. fields_more line c.args.words.now c.loop-i.words c.put.new.words a c.args.from c.args.n i fs c.op_at.result c.field_words-row.result w c.requires.0 c.requires.1 (omega arith) (c.op_at.ensures line) c.field_words-row.ensures c.put.ensures.wrote c.put.ensures.held p (c.loop-i.invariant.1 line fs p),
    )

pub returns : goal.returns
returns c = record {
  wrote = wrote_wider c.args.at (c.args.at + 4 * c.loop-i.i) c.args.at (c.args.at + 4 * c.args.n) c.args.words.now c.loop-i.words (omega arith) (omega arith) c.loop-i.invariant.0;
  held = λ line fs p. fields_all line c.args.words.now c.loop-i.words c.args.at c.args.from c.args.n c.loop-i.i fs c.requires.1 (omega arith) p (c.loop-i.invariant.1 line fs p);
}
