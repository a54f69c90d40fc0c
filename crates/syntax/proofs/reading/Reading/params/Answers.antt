use Rattle.std.proofs.Common.{[], sym, refl, ap, ◌∙◌, append-nil, subst}
use Rattle.base.specs.Base.{pick}
use Rattle.lexer.specs.Tokens.{left}
use Rattle.grammar.specs.Grammar.{it}
use Rattle.parser.specs.Rows.{ops_of}
use Rattle.syntax.specs.Reads.{listed, line_of, Says}
use Rattle.syntax.specs.declared.lists.Listed.TheVariants.{Fields}
use Rattle.syntax.specs.declared.wanted.Wanted.TheVariants.{Close}
use Rattle.syntax.proofs.Taken.{seen_fits}
use Rattle.syntax.proofs.reading.Reading.params.Goals as goal

pub returns-then-is-clause-reads : goal.returns-then-is-clause-reads
returns-then-is-clause-reads c =
    let r = c.args.self in
    let ws = c.args.words.now in
    let line = line_of r ws in
    let us = left line r.at in
    let e = seen_fits Close line r.at c.next.result c.next.ensures ∙ sym c.if-is.ensures in
    record {
      front = refl;
      reads = record { done = []; reads = ap (λ b. pick b (it [] us) (listed Fields us)) e; stands = sym (append-nil (ops_of line r.base r.count ws)); beside = record { len_is = refl; base_is = refl }; within = c.requires.within };
    }

pub returns-clause-reads : goal.returns-clause-reads
returns-clause-reads c =
    let r = c.args.self in
    let ws = c.args.words.now in
    let line = line_of r ws in
    let us = left line r.at in
    let e = seen_fits Close line r.at c.next.result c.next.ensures ∙ sym c.if-is.ensures in
    let d = c.list.ensures.reads in
    record { front = d.front; reads = subst (λ g. Says line r ws c.list.new.words g c.list.result) (sym (ap (λ b. pick b (it [] us) (listed Fields us)) e)) d.reads }
