-- What is proved by hand of tell_rule.
use Rattle.std.proofs.Common.{◌≡◌, length, sym, arith}
use Rattle.driver.proofs.Rules.{area_then, moved, row_there, rule_asks, rule_done, rule_narrow}
use Rattle.driver.proofs.state.Desk.tell_rule.Goals as goal

pub ask-requires : goal.ask-requires
ask-requires g c =
    let s = c.go.ensures in
    record {
      area = area_then (g.R.Rules.book c.args.rules.now) c.args.self.known c.args.self.memo c.args.self.rows c.args.self.frames c.args.told.key c.args.told.count c.args.told.from c.args.mem.now c.go.new.mem c.requires.area c.requires.row.0 c.requires.row.1 s.before s.behind c.go.auto.mem;
      row = c.requires.row;
    }

pub done-requires : goal.done-requires
done-requires g c =
    let s = c.go.ensures in
    let t = c.requires.told in
    let l : length c.go.new.mem ≡ length c.args.mem.now = c.go.auto.mem in
    let e = row_there (g.R.Rules.book c.args.rules.now) c.args.self.known c.args.self.memo c.args.self.rows c.args.self.frames c.args.told.key c.args.told.count c.args.told.from c.args.mem.now c.go.new.mem c.requires.area c.requires.row.0 c.requires.row.1 s.before s.behind l t.0 t.1 t.2 t.3 in
    let x = (c.in-Done.ensures.says t.1 (sym t.3.1) e).1 in
    record {
      area = area_then (g.R.Rules.book c.args.rules.now) c.args.self.known c.args.self.memo c.args.self.rows c.args.self.frames c.args.told.key c.args.told.count c.args.told.from c.args.mem.now c.go.new.mem c.requires.area c.requires.row.0 c.requires.row.1 s.before s.behind l;
      row = (c.requires.row.0, c.requires.row.1, omega arith);
      told = (t.0, t.1, t.2, moved (g.R.Rules.book c.args.rules.now) c.args.self.known c.args.self.memo c.args.self.rows c.args.self.frames c.args.told.key c.args.told.count c.args.told.from c.args.mem.now c.go.new.mem c.requires.area c.requires.row.0 c.requires.row.1 s.before s.behind l t.0 t.1 t.2 t.3);
    }

pub returns-in-Ask : goal.returns-in-Ask
returns-in-Ask g c =
    let s = c.go.ensures in
    record {
      book1 = s.book1;
      runs1 = s.runs1;
      says = rule_asks (g.R.Rules.book c.args.rules.now) c.args.self.known c.args.self.memo c.args.self.rows c.args.self.frames c.args.told.key c.args.told.count c.args.told.from c.args.mem.now c.go.new.mem c.requires.area c.requires.row.0 c.requires.row.1 s.before s.behind c.go.auto.mem c.in-Ask.q c.in-Ask.ensures.says c.ask.new.mem c.ask.result c.ask.ensures;
    }

pub returns-in-Done : goal.returns-in-Done
returns-in-Done g c =
    let s = c.go.ensures in
    record {
      book1 = s.book1;
      runs1 = s.runs1;
      says = rule_done (g.R.Rules.book c.args.rules.now) c.args.self.known c.args.self.memo c.args.self.rows c.args.self.frames c.args.told.key c.args.told.count c.args.told.from c.args.mem.now c.go.new.mem c.requires.area c.requires.row.0 c.requires.row.1 s.before s.behind c.go.auto.mem c.in-Done.n c.in-Done.ensures.says c.done.new.mem c.done.result c.done.ensures;
    }

pub returns-in-Narrow : goal.returns-in-Narrow
returns-in-Narrow g c =
    let s = c.go.ensures in
    record {
      book1 = s.book1;
      runs1 = s.runs1;
      says = rule_narrow (g.R.Rules.book c.args.rules.now) c.args.self.known c.args.self.memo c.args.self.rows c.args.self.frames c.args.told.key c.args.told.count c.args.told.from c.args.mem.now c.go.new.mem c.requires.area c.requires.row.0 c.requires.row.1 s.before s.behind c.go.auto.mem _ c.in-Narrow.ensures.says;
    }
