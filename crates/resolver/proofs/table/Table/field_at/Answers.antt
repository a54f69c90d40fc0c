-- The first field that has the name.
use Rattle.std.proofs.Common.{◌≡◌, ℕ, ◌+◌, ◌*◌, ◌<◌, true, false, List, None, Some, ap, ◌∙◌, sym, subst, rules, tests}
use mathlib.Core.Option.{some}
use Rattle.std.proofs.lemmas.Iterator.{first_from_Range}
use Rattle.base.specs.Base.{same}
use Rattle.semantics.specs.Check.{field_of}
use Rattle.checker.specs.Rows.{slot_type}
use Rattle.symbols.specs.Table.{word, tok_at}
use Rattle.resolver.specs.Resolve.{declared_at, type_is, type_named, FieldIs}
use Rattle.resolver.proofs.Fields.{named_is, field_none, field_some}
use Rattle.resolver.proofs.table.Table.field_at.Goals as goal

pub returns-in_err-i-clause-is : goal.returns-in_err-i-clause-is
returns-in_err-i-clause-is c =
    let x = c.args.self.index in
    let w = c.args.name.now in
    let e = c.decl-decl.ensures in
    let vs = c.decl-decl.result.words.now in
    let h = c.decl-decl.result.handle in
    let N : List ℕ → ℕ → Type 0 = λ v d. FieldIs v x (declared_at v x d).slots w None in
    let first = first_from_Range _ _ _ None (λ k. same (tok_at vs (word vs (h + 2)) (h + 9 + 4 * k)).w w ≡ true) (λ k. same (tok_at vs (word vs (h + 2)) (h + 9 + 4 * k)).w w ≡ false) c.in_err-i.ensures.ran (λ k q h. search (rules, tests)) (λ k q h. search (rules, tests)) in
    let there : N vs h = field_none vs x (word vs h) (word vs (h + 2)) w (word vs (h + 8)) (h + 9) (λ m p q. first m p (subst (λ n. m < n) (sym c.field_count.ensures) q)) in
    let back : c.from_residual.result ≡ None = search rules in
    subst (FieldIs c.args.self.words.now x (declared_at c.args.self.words.now x c.args.d).slots w) (sym back) (subst (N c.args.self.words.now) e.handle (subst (λ v. N v h) e.words there))

pub returns-clause-is : goal.returns-clause-is
returns-clause-is c =
    let ws = c.args.self.words.now in
    let d = c.args.d in
    let x = c.args.self.index in
    let w = c.args.name.now in
    let e = c.decl-decl.ensures in
    let vs = c.decl-decl.result.words.now in
    let h = c.decl-decl.result.handle in
    let i = c.in_ok-i.i in
    let S : List ℕ → ℕ → Type 0 = λ v d. slot_type (field_of (declared_at v x d).slots w) ≡ some (type_is v x (type_named v x (word v d) (tok_at v (word v (d + 2)) (d + 9 + 4 * i + 2)).w)) in
    let first = first_from_Range _ _ _ (Some i) (λ k. same (tok_at vs (word vs (h + 2)) (h + 9 + 4 * k)).w w ≡ true) (λ k. same (tok_at vs (word vs (h + 2)) (h + 9 + 4 * k)).w w ≡ false) c.in_ok-i.ensures.ran (λ k q h. search (rules, tests)) (λ k q h. search (rules, tests)) in
    let there : S vs h = field_some vs x (word vs h) (word vs (h + 2)) w (word vs (h + 8)) (h + 9) i (first.0, subst (λ n. i < n) c.field_count.ensures first.1, first.2, first.3) in
    let is = named_is ws x c.file.result (word ws d) c.field_type.result.now (tok_at ws (word ws (d + 2)) (d + 9 + 4 * i + 2)).w c.type_named.result c.type_named.ensures.is
    (c.file.ensures ∙ (λ j. word (e.words j) (e.handle j))) (c.field_type.ensures ∙ (λ j. (tok_at (e.words j) (word (e.words j) (e.handle j + 2)) (e.handle j + 9 + 4 * i + 2)).w)) in
    subst (S ws) e.handle (subst (λ v. S v h) e.words there) ∙ ap some (sym is)
