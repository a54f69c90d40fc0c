use Rattle.std.proofs.Common.{take, sym, refl, ap, ◌∙◌, subst, arith}
use Rattle.grammar.specs.Code.{item_code}
use Rattle.parser.proofs.Words.{ops_none}
use Rattle.lexer.specs.declared.token.Token.TheVariants.{Use, Kind, Rec, Def}
use Rattle.syntax.specs.Line.{Understood}
use Rattle.syntax.proofs.Whole.{no_item, item_other, item_read}
use Rattle.syntax.proofs.read.read_item.Goals as goal

pub returns-in-End : goal.returns-in-End
returns-in-End c =
    let line = take c.args.len c.args.words.now in
    let e = sym (no_item line c.next-word.result c.next-word.ensures c.in-End.is) in
    record { front = refl; reads = (subst Understood e tt, ops_none line c.args.base c.args.words.now (omega (arith, c.requires.room)) ∙ ap item_code e) }

pub returns-in-Use : goal.returns-in-Use
returns-in-Use c = record { front = c.use_item.ensures.front; reads = item_read c.args.len c.args.base c.args.words.now c.next-word.result c.next-word.ensures Use c.in-Use.is refl c.use_item.new.words c.use_item.result (omega (arith, c.requires.room)) c.use_item.ensures }

pub returns-in-Kind : goal.returns-in-Kind
returns-in-Kind c = record { front = c.block.ensures.front; reads = item_read c.args.len c.args.base c.args.words.now c.next-word.result c.next-word.ensures Kind c.in-Kind.is refl c.block.new.words c.block.result (omega (arith, c.requires.room)) c.block.ensures }

pub returns-in-Rec : goal.returns-in-Rec
returns-in-Rec c = record { front = c.block-in-Rec.ensures.front; reads = item_read c.args.len c.args.base c.args.words.now c.next-word.result c.next-word.ensures Rec c.in-Rec.is refl c.block-in-Rec.new.words c.block-in-Rec.result (omega (arith, c.requires.room)) c.block-in-Rec.ensures }

pub returns-in-Def : goal.returns-in-Def
returns-in-Def c = record { front = c.def.ensures.front; reads = item_read c.args.len c.args.base c.args.words.now c.next-word.result c.next-word.ensures Def c.in-Def.is refl c.def.new.words c.def.result (omega (arith, c.requires.room)) c.def.ensures }

pub returns-in_default-clause-reads : goal.returns-in_default-clause-reads
returns-in_default-clause-reads c = item_other (take c.args.len c.args.words.now) c.next-word.result c.next-word.ensures c.in_default.not-End c.in_default.not-Use c.in_default.not-Kind c.in_default.not-Rec c.in_default.not-Def
