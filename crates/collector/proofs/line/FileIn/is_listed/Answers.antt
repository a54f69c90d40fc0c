-- A list of files looked through for a name.
use Rattle.std.proofs.Common.{◌-◌, true, false, take, drop, rules, tests}
use Rattle.std.proofs.lemmas.Iterator.{cases_from_any, YieldsList-from_slice}
use Rattle.symbols.specs.Rows.{texts_in}
use Rattle.collector.specs.Says.{word_in, NamedSays}
use Rattle.collector.proofs.Used.{listed_by}
use Rattle.collector.proofs.line.FileIn.is_listed.Goals as goal

pub returns : goal.returns
returns g c = λ ns x u f.
    let ws = c.args.words.now in
    let p = g.S.Source.holds c.args.source.now (texts_in c.args.self.l ws) in
    let w = word_in ws c.args.s in
    let list = take (c.args.to - c.args.from) (drop c.args.from ws) in
    listed_by p w ws c.args.from c.args.to ns x c.any.result c.requires.list.0 c.requires.list.1 (cases_from_any _ _ _ (λ k. NamedSays p k w true) (λ k. NamedSays p k w false) c.any.ensures.ran (YieldsList-from_slice list cc) (λ k q h. search (rules, tests)) (λ k q h. search (rules, tests))) u f
