-- The use of a name.
use Rattle.std.proofs.Common.{◌≡◌, length, Some, sym, refl, ap, ◌∙◌, subst, arith}
use Rattle.std.proofs.lemmas.Option.{slice_get_within}
use mathlib.Core.Option.{none}
use Rattle.semantics.specs.Names.{find_file}
use Rattle.source.specs.Source.{FindSays}
use Rattle.collector.specs.Entries.{Using}
use Rattle.symbols.specs.Rows.{texts_in}
use Rattle.collector.specs.Says.{word_in}
use Rattle.collector.proofs.Writes.{wrote_none}
use Rattle.collector.proofs.Used.{used_own, using_absent, using_new, using_full}
use Rattle.collector.proofs.line.FileIn.put_use.Goals as goal

pub returns-then-named : goal.returns-then-named
returns-then-named g c =
    let ws = c.args.words.now in
    let p = g.S.Source.holds c.args.source.now (texts_in c.args.self.l ws) in (
      record { onward = omega arith; within = c.requires.list.1; wrote = wrote_none c.args.to ws },
      λ x ns e u. subst (Using p ws c.args.from c.args.to) (sym (used_own x.name (word_in ws c.args.s) ns (sym (c.named.ensures x e) ∙ c.if-named.true))) u,
    )

pub returns-in_default : goal.returns-in_default
returns-in_default g c =
    let s = c.args.source.now in
    let ws = c.args.words.now in
    let p = g.S.Source.holds s (texts_in c.args.self.l ws) in
    let f : find_file p (word_in ws c.args.s) ≡ none = ap (λ m. find_file (g.S.Source.holds s m) (word_in ws c.args.s)) (sym c.texts_of.ensures) ∙ ap (find_file (g.S.Source.holds s c.texts_of.result.now)) (sym c.word_at.ensures) ∙ c.in_default.ensures in (
      record { onward = omega arith; within = c.requires.list.1; wrote = wrote_none c.args.to ws },
      λ x ns e u. using_absent p x.name (word_in ws c.args.s) ws c.args.from c.args.to ns (sym (c.named.ensures x e) ∙ c.if-named.false) f u,
    )

pub returns-then-to-self : goal.returns-then-to-self
returns-then-to-self g c =
    let s = c.args.source.now in
    let ws = c.args.words.now in
    let w = word_in ws c.args.s in
    let p = g.S.Source.holds s (texts_in c.args.self.l ws) in
    let f = subst (λ v. FindSays p v (Some c.in-Some.found)) c.word_at.ensures (subst (λ m. FindSays (g.S.Source.holds s m) c.word_at.result.now (Some c.in-Some.found)) c.texts_of.ensures c.in-Some.ensures) in (
      refl,
      λ x ns e u. using_full p x.name w f.0 ws c.args.from c.args.to c.args.self.l.work ns (sym (c.named.ensures x e) ∙ c.if-named.false) (sym (c.is_listed.ensures ns f.0 u f.2) ∙ c.if-is_listed.false) f.2 c.if-to-self.true u,
    )

pub overflow_cast-found : goal.overflow_cast-found
overflow_cast-found g c =
    let s = c.args.source.now in
    let n = ap (λ m. length (g.S.Source.holds s m)) c.texts_of.ensures in
    let f = c.in-Some.ensures in
    omega (arith, slice_get_within _ c.in-Some.found f.0 f.1, n, c.requires.few)

pub returns : goal.returns
returns g c =
    let s = c.args.source.now in
    let ws = c.args.words.now in
    let w = word_in ws c.args.s in
    let p = g.S.Source.holds s (texts_in c.args.self.l ws) in
    let f = subst (λ v. FindSays p v (Some c.in-Some.found)) c.word_at.ensures (subst (λ m. FindSays (g.S.Source.holds s m) c.word_at.result.now (Some c.in-Some.found)) c.texts_of.ensures c.in-Some.ensures) in (
      record { onward = omega arith; within = omega (arith, c.if-to-self.false); wrote = c.put.ensures.wrote },
      λ x ns e u. using_new p x.name w ws c.put.new.words c.args.from c.args.to c.in-Some.found ns (sym (c.named.ensures x e) ∙ c.if-named.false) (sym (c.is_listed.ensures ns f.0 u f.2) ∙ c.if-is_listed.false) f c.put.ensures.wrote c.put.ensures.held u,
    )
