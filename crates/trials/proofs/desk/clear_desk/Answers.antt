-- What is proved by hand of clear_desk.
use Rattle.std.proofs.Common.{◌≡◌, take, drop, true, sym, refl, ◌∙◌, subst, arith, length-drop}
use Rattle.std.specs.Prelude.{Result, Ok, Err, ⊤, MatchResult, IfOk, IsErrAnd}
use Rattle.std.proofs.lemmas.List.{length-take-le}
use Rattle.memo.specs.declared.log.NoRoom.{NoRoom}
use Rattle.memo.specs.Says.{Created}
use Rattle.memo.specs.Whether.{memo_ready}
use Rattle.trials.specs.declared.desk.BadRow.{BadRow}
use Rattle.trials.proofs.Desks.{cleared}
use Rattle.trials.proofs.desk.clear_desk.Goals as goal

-- what holds where a memo was made holds where no error is handed on
handed_on : (P : Type 0) (r : Result ⊤ NoRoom) (q : Result ⊤ BadRow) (Q : NoRoom → BadRow → Type 0) → MatchResult r (λ x. q ≡ Ok x) (λ e. IsErrAnd q (Q e)) → (r ≡ Ok tt → P) → IfOk q (λ u. P)
handed_on P (Ok u) q Q m f = subst (λ z. IfOk z (λ u. P)) (sym m) (f refl)
handed_on P (Err e) (Ok u) Q m f = absurd m
handed_on P (Err e) (Err y) Q m f = tt

pub returns : goal.returns
returns c =
    let ws = c.args.row.now in
    let v = c.create.new.words in
    let d = length-drop 16 ws in
    let l = length-take-le 8192 (drop 16 ws) (omega arith) in
    handed_on _ c.create.result c.map_err.result _ c.map_err.ensures.cases
    (λ e. cleared ws v c.if-row-lt-MEMO.false (omega arith) (c.create.auto.words ∙ l) (subst (Created (take 8192 (drop 16 ws)) v) e c.create.ensures.says).1 (subst (λ r. IfOk r (λ u. memo_ready v ≡ true)) e c.create.ensures.ready))
