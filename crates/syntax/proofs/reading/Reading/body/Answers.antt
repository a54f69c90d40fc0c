use Rattle.std.proofs.Common.{◌≡◌, ℕ, List, ◌+◌, ◌*◌, ◌++◌, length, take, ap, ◌∙◌, refl, sym, arith}
use Rattle.std.proofs.lemmas.List.{length-take-le, take-take}
use Rattle.lexer.specs.Tokens.{left}
use Rattle.grammar.specs.Grammar.{it, with1}
use Rattle.grammar.specs.Code.{code}
use Rattle.parser.proofs.Words.{ops_join, same_ops}
use Rattle.parser.proofs.Loop.{left_short}
use Rattle.syntax.specs.Reads.{line_of}
use Rattle.syntax.proofs.Progress.{fails}
use Rattle.syntax.proofs.reading.Reading.body.Goals as goal

-- what stands before the code stays
front : (b n : ℕ) (ws vs : List ℕ) → take (b + n) vs ≡ take (b + n) ws → take b vs ≡ take b ws
front b n ws vs k = sym (take-take b (b + n) vs (omega arith)) ∙ ap (take b) k ∙ take-take b (b + n) ws (omega arith)

pub returns-in_err-read-clause-reads : goal.returns-in_err-read-clause-reads
returns-in_err-read-clause-reads c =
    let r = c.args.self in
    let us = left (line_of r c.args.words.now) r.at in
    let e = c.in_err-read.ensures in
    fails c.from_residual.result c.from_residual.ensures.1 (record { front = front r.base (5 * r.count) _ _ e.kept; reads = ap (λ g. with1 g (λ e us. it (code e) us)) (e.reads.reads (10 * length us + 10) (omega arith)) })

pub returns-clause-reads : goal.returns-clause-reads
returns-clause-reads c =
    let r = c.args.self in
    let ws = c.args.words.now in
    let vs = c.parse.new.words in
    let line = line_of r ws in
    let us = left line r.at in
    let e = c.in_ok-read.ensures in
    let d = e.reads in
    let f = d.fits in
    record {
      front = front r.base (5 * r.count) ws vs e.kept;
      reads = record {
        done = code d.reads.0;
        reads = ap (λ g. with1 g (λ e us. it (code e) us)) (d.reads.2 (10 * length us + 10) (omega arith));
        stands = ops_join line r.base r.count c.in_ok-read.read.count vs (omega arith) ∙ (λ i. same_ops line r.base r.count ws vs e.kept i ++ d.reads.1 i);
        beside = record { len_is = refl; base_is = refl };
        within = d.within;
      };
    }

pub returns-clause-few : goal.returns-clause-few
returns-clause-few c =
    let r = c.args.self in
    let d = c.in_ok-read.ensures.reads in
    let f = d.few in
    let l = left_short (line_of r c.args.words.now) r.at in
    let n = length-take-le r.len c.args.words.now (omega arith) in
    omega arith
