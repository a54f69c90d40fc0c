use Rattle.std.proofs.Common.{◌≡◌, length, take, refl, ap, ◌∙◌, subst, arith}
use Rattle.grammar.specs.Code.{item_code}
use Rattle.parser.specs.Rows.{ops_of}
use Rattle.syntax.specs.Line.{item_in}
use Rattle.semantics.specs.Names.{File, decls_item}
use Rattle.answers.specs.Reviews.{Roomy}
use Rattle.symbols.specs.Rows.{texts_in}
use Rattle.answers.proofs.Reviewed.{same_file, reviewed, not_refused, room_for_faults}
use Rattle.answers.proofs.Stepped.{decls_few}
use Rattle.answers.proofs.inspect.FileAt.review_line.Goals as goal

pub returns-in_default : goal.returns-in_default
returns-in_default g c =
    let p = g.S.Source.holds c.args.source.now (texts_in c.args.self.l c.args.words.now) in
    let t = c.requires.walked in
    let no1 = not_refused p c.args.self.l c.args.self.file c.args.self.base c.args.words.now c.args.at.before c.lookup-look.result c.requires.ready c.lookup-look.ensures (omega (arith, t.roomy.faults_fit)) c.args.i c.args.at t c.inspect.new.words c.in_default.ensures.says in
    λ ws x a r. elim no1 [ ]

pub gather-faults-requires : goal.gather-faults-requires
gather-faults-requires g c =
    let p = g.S.Source.holds c.args.source.now (texts_in c.args.self.l c.args.words.now) in
    let t = c.requires.walked in
    let s = c.in-Some.ensures.says in
    let f = room_for_faults p c.args.self.l c.args.self.file c.args.self.base c.args.words.now c.args.at.before c.lookup-look.result c.requires.ready c.lookup-look.ensures (omega (arith, t.roomy.faults_fit)) c.args.i c.args.at t s.0 s.1 s.2 c.in-Some.seen c.inspect.new.words s.3 in
    record { apart = f.0; within = s.3.says.within }

pub overflow_add-result-3 : goal.overflow_add-result-3
overflow_add-result-3 g c =
    let t = c.requires.walked in
    let p = g.S.Source.holds c.args.source.now (texts_in c.args.self.l c.args.words.now) in
    let s = c.in-Some.ensures.says in
    let ins = s.3 in
    let vs = c.inspect.new.words in
    let ops = c.in-Some.seen.findings.ops in
    let coded : ops_of (take c.in-Some.seen.len vs) c.args.self.base ops vs ≡ item_code (item_in s.1.bytes) = ap (λ b. ops_of b c.args.self.base ops vs) ins.stands ∙ ins.says.coded in
    let names : c.declared-names.result ≡ length (decls_item 0 (item_in s.1.bytes)) = c.declared-names.ensures (take c.in-Some.seen.len vs) (item_in s.1.bytes) (c.item_of.ensures (item_in s.1.bytes) (omega (arith, ins.long, ins.says.before, ins.says.behind, ins.says.within)) (omega (arith, ins.says.behind, ins.says.within)) coded) in
    let f = room_for_faults p c.args.self.l c.args.self.file c.args.self.base c.args.words.now c.args.at.before c.lookup-look.result c.requires.ready c.lookup-look.ensures (omega (arith, t.roomy.faults_fit)) c.args.i c.args.at t s.0 s.1 s.2 c.in-Some.seen vs ins in
    omega (arith, names, decls_few s.1.bytes, f.1, ins.long, t.reviewing.fewer, t.roomy.short)

pub returns : goal.returns
returns g c =
    let t = c.requires.walked in
    let p = g.S.Source.holds c.args.source.now (texts_in c.args.self.l c.args.words.now) in
    let s = c.in-Some.ensures.says in
    let ins = s.3 in
    let vs = c.inspect.new.words in
    let ops = c.in-Some.seen.findings.ops in
    let coded : ops_of (take c.in-Some.seen.len vs) c.args.self.base ops vs ≡ item_code (item_in s.1.bytes) = ap (λ b. ops_of b c.args.self.base ops vs) ins.stands ∙ ins.says.coded in
    let names : c.declared-names.result ≡ length (decls_item 0 (item_in s.1.bytes)) = c.declared-names.ensures (take c.in-Some.seen.len vs) (item_in s.1.bytes) (c.item_of.ensures (item_in s.1.bytes) (omega (arith, ins.long, ins.says.before, ins.says.behind, ins.says.within)) (omega (arith, ins.says.behind, ins.says.within)) coded) in
    let R : File → Type 0 = λ f. Roomy c.args.self.l c.args.self.base (length f.text) c.args.words.now in
    λ ws x a r. reviewed p c.args.self.l c.args.self.file c.args.self.base c.args.words.now c.args.at.before c.lookup-look.result c.requires.ready c.lookup-look.ensures (omega (arith, t.roomy.faults_fit)) x a ws c.args.i c.args.at refl r (subst R (same_file p c.args.self.file t.file x t.asked.file a.file) t.roomy) s.0 s.1 s.2 c.in-Some.seen vs c.gather-faults.new.words c.gather-faults.result c.declared-names.result ins c.in-Some.ensures.kept c.gather-faults.ensures.front c.gather-faults.ensures.adds c.gather-faults.ensures.few names
