use Rattle.std.proofs.Common.{refl}
use Rattle.parser.specs.declared.code.Op.TheVariants.{Number, Arg, End, Sign, Cond, If, Bind, Let, Par, Body, Bad}
use Rattle.checker.proofs.Asks.{asks_none}
use Rattle.checker.proofs.check.Checker.turn.Goals as goal

pub returns-in-Number : goal.returns-in-Number
returns-in-Number g c = asks_none (g.L.Lookup.book c.args.self.now.look.now) c.args.self.now.b c.args.p c.number.result c.args.words.now c.number.new.words (Number c.in-Number.s) c.args.op c.in-Number.is (λ l σ. refl) c.number.ensures

pub returns-in-Arg : goal.returns-in-Arg
returns-in-Arg g c = asks_none (g.L.Lookup.book c.args.self.now.look.now) c.args.self.now.b c.args.p c.argument.result c.args.words.now c.argument.new.words Arg c.args.op c.in-Arg.is (λ l σ. refl) c.argument.ensures

pub returns-in-End : goal.returns-in-End
returns-in-End g c = asks_none (g.L.Lookup.book c.args.self.now.look.now) c.args.self.now.b c.args.p c.end.result c.args.words.now c.end.new.words (End c.in-End.to) c.args.op c.in-End.is (λ l σ. refl) c.end.ensures

pub returns-in-Sign : goal.returns-in-Sign
returns-in-Sign g c = asks_none (g.L.Lookup.book c.args.self.now.look.now) c.args.self.now.b c.args.p c.operation.result c.args.words.now c.operation.new.words (Sign c.in-Sign.o) c.args.op c.in-Sign.is (λ l σ. refl) c.operation.ensures

pub returns-in-Cond : goal.returns-in-Cond
returns-in-Cond g c = asks_none (g.L.Lookup.book c.args.self.now.look.now) c.args.self.now.b c.args.p c.condition.result c.args.words.now c.condition.new.words Cond c.args.op c.in-Cond.is (λ l σ. refl) c.condition.ensures

pub returns-in-If : goal.returns-in-If
returns-in-If g c = asks_none (g.L.Lookup.book c.args.self.now.look.now) c.args.self.now.b c.args.p c.choice.result c.args.words.now c.choice.new.words (If c.in-If.from) c.args.op c.in-If.is (λ l σ. refl) c.choice.ensures

pub returns-in-Bind : goal.returns-in-Bind
returns-in-Bind g c = asks_none (g.L.Lookup.book c.args.self.now.look.now) c.args.self.now.b c.args.p c.bound.result c.args.words.now c.bound.new.words (Bind c.in-Bind.s) c.args.op c.in-Bind.is (λ l σ. refl) c.bound.ensures

pub returns-in-Let : goal.returns-in-Let
returns-in-Let g c = asks_none (g.L.Lookup.book c.args.self.now.look.now) c.args.self.now.b c.args.p c.end_let.result c.args.words.now c.end_let.new.words (Let c.in-Let.from) c.args.op c.in-Let.is (λ l σ. refl) c.end_let.ensures

pub returns-in-Par : goal.returns-in-Par
returns-in-Par g c = asks_none (g.L.Lookup.book c.args.self.now.look.now) c.args.self.now.b c.args.p c.brackets.result c.args.words.now c.brackets.new.words (Par c.in-Par.s) c.args.op c.in-Par.is (λ l σ. refl) c.brackets.ensures

pub returns-in-Body : goal.returns-in-Body
returns-in-Body g c = asks_none (g.L.Lookup.book c.args.self.now.look.now) c.args.self.now.b c.args.p c.body.result c.args.words.now c.body.new.words Body c.args.op c.in-Body.is (λ l σ. refl) c.body.ensures

pub returns-in-Bad : goal.returns-in-Bad
returns-in-Bad g c = asks_none (g.L.Lookup.book c.args.self.now.look.now) c.args.self.now.b c.args.p c.misread.result c.args.words.now c.misread.new.words (Bad c.in-Bad.s) c.args.op c.in-Bad.is (λ l σ. refl) c.misread.ensures
