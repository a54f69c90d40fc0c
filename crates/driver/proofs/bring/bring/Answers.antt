-- What is proved by hand of bring.
use Rattle.std.proofs.Common.{◌≡◌, ℕ, ◌*◌, ◌<◌, ◌≤◌, true, List, length, get_or, take, drop, None, sym, refl, ap, ◌∙◌, subst, arith, length-drop}
use Rattle.engine.specs.Says.{kept, BringSays}
use Rattle.engine.specs.Theorems.{Honest}
use Rattle.memo.specs.Record.{entries_long}
use Rattle.memo.specs.Log.{Fits, kept_entries, spare}
use Rattle.memo.specs.Whether.{memo_ready}
use Rattle.memo.proofs.Tests.{ready_to, ready_from}
use Rattle.driver.specs.Says.{memo_in}
use Rattle.driver.specs.Doing.{desk, Area}
use Rattle.driver.proofs.Lent.{memo_long, shorter, region}
use Rattle.std.specs.Prelude.{Result, Ok, Err, Some, ⊤, Option as Perhaps}
use Rattle.std.specs.Result.{result_ok}
use Rattle.memo.specs.declared.log.NoRoom.{NoRoom}
use Rattle.driver.specs.Bringing.{TidySays}
use Rattle.driver.proofs.Regions.{input_says, tidy_says, run_says, run_moved, still_honest}
use Rattle.driver.proofs.bring.bring.Goals as goal

-- the row is in order, by the test
in_order : (known memo : ℕ) (ws : List ℕ) → (known ≤ memo) × (memo ≤ length ws) × (length ws < 4294967296) × (memo_ready (drop known (take memo ws)) ≡ true) → Area ws (desk known memo 0 0)
in_order known memo ws r = let h = r.1 in record { low = r.0; high = omega (arith, h); small = r.2; fits = subst Fits (region known memo ws r.0) (ready_to (drop known (take memo ws)) r.3).1 }

-- its buckets are few
few : (known memo : ℕ) (ws : List ℕ) → known ≤ memo → memo_ready (drop known (take memo ws)) ≡ true → 4 * get_or (memo_in known memo ws) 2 0 ≤ length (memo_in known memo ws)
few known memo ws h r = subst (λ q. 4 * get_or q 2 0 ≤ length q) (region known memo ws h) (ready_to (drop known (take memo ws)) r).0

-- and the test holds of the row after, vs, which has as many buckets
tested : (known memo : ℕ) (ws vs : List ℕ) → known ≤ memo → memo ≤ length ws → memo_ready (drop known (take memo ws)) ≡ true → length vs ≡ length ws → get_or (memo_in known memo vs) 2 0 ≡ get_or (memo_in known memo ws) 2 0 → Fits (memo_in known memo vs)
    → memo_ready (drop known (take memo vs)) ≡ true
tested known memo ws vs h k r l e f =
    let a = few known memo ws h r in
    let m = memo_long ws known memo h k in
    let n = memo_long vs known memo h (omega (arith, k, l)) in
    subst (λ q. memo_ready q ≡ true) (sym (region known memo vs h)) (ready_from (memo_in known memo vs) (omega (arith, a, e, m, n)) f)

-- what making the memo ready says, where it was done and where it wasn't
ready : (ws vs : List ℕ) (n : ℕ) (r : Result ⊤ NoRoom) (x : ⊤) → result_ok r ≡ Some x → TidySays ws vs n r → TidySays ws vs n (Ok tt)
ready ws vs n (Ok u) x e s = s
ready ws vs n (Err y) x e s = absurd (elim_none e)
  where
    elim_none : ◌≡◌ {A = Perhaps ⊤} None (Some x) → ⊥
    elim_none e = cc

too_narrow : (ws vs : List ℕ) (n : ℕ) (r : Result ⊤ NoRoom) → result_ok r ≡ None → TidySays ws vs n r → (kept_entries vs ≡ kept_entries ws) × (n < entries_long (kept_entries ws))
too_narrow ws vs n (Ok u) e s = absurd (elim_some e)
  where
    elim_some : ◌≡◌ {A = Perhaps ⊤} (Some u) None → ⊥
    elim_some e = cc
too_narrow ws vs n (Err y) e s = s

pub returns-then-is_input : goal.returns-then-is_input
returns-then-is_input g c =
    let s = c.get.ensures in
    let same1 = s.1.0 in
    let e = ap (drop c.args.known) same1 in
    let said : BringSays (g.R.Rules.book c.args.rules.now) (g.I.Inputs.given c.args.inputs.now (take c.args.known c.args.mem.now)) c.args.k.now (kept_entries (drop c.args.known (take c.args.memo c.args.mem.now))) (kept_entries (drop c.args.known (take c.args.memo c.get.new.words))) (g.R.Rules.runs c.args.rules.now) (g.R.Rules.runs c.args.rules.now) (length (drop c.args.known (take c.args.memo c.args.mem.now))) (length (drop c.args.memo c.args.mem.now)) (drop c.args.memo c.args.mem.now) (drop c.args.memo c.get.new.words) c.get.result = input_says (g.R.Rules.book c.args.rules.now) (g.I.Inputs.given c.args.inputs.now (take c.args.known c.args.mem.now)) c.args.k.now (kept_entries (drop c.args.known (take c.args.memo c.args.mem.now))) (kept_entries (drop c.args.known (take c.args.memo c.get.new.words))) (g.R.Rules.runs c.args.rules.now) (g.R.Rules.runs c.args.rules.now) (length (drop c.args.known (take c.args.memo c.args.mem.now))) (length (drop c.args.memo c.args.mem.now)) (drop c.args.memo c.args.mem.now) (drop c.args.memo c.get.new.words) (sym c.if-is_input.ensures) c.get.result s.1.1 (ap kept_entries e) refl in
    record {
      book1 = refl;
      row = (s.0, ap memo_ready e ∙ c.requires.row.3);
      before = shorter c.args.known c.args.memo c.get.new.words c.args.mem.now c.requires.row.0 same1;
      runs1 = omega arith;
      honest = still_honest (g.R.Rules.book c.args.rules.now) (g.I.Inputs.given c.args.inputs.now (take c.args.known c.args.mem.now)) c.args.k.now (kept_entries (drop c.args.known (take c.args.memo c.args.mem.now))) (kept_entries (drop c.args.known (take c.args.memo c.get.new.words))) (g.R.Rules.runs c.args.rules.now) (g.R.Rules.runs c.args.rules.now) (length (drop c.args.known (take c.args.memo c.args.mem.now))) (length (drop c.args.memo c.args.mem.now)) (drop c.args.memo c.args.mem.now) (drop c.args.memo c.get.new.words) c.get.result said c.requires.falls c.requires.honest;
      says = said;
    }

pub tidy-requires : goal.tidy-requires
tidy-requires g c = in_order c.args.known c.args.memo c.args.mem.now c.requires.row

pub returns-in_err-ok : goal.returns-in_err-ok
returns-in_err-ok g c =
    let t = c.tidy.ensures in
    let known = c.args.known in
    let memo = c.args.memo in
    let ws = c.args.mem.now in
    let vs = c.tidy.new.mem in
    let lo = c.requires.row.0 in
    let r0 = region known memo ws lo in
    let r1 = region known memo vs lo in
    let y = too_narrow (memo_in known memo ws) (memo_in known memo vs) (length (drop memo ws)) c.tidy.result (sym c.ok.ensures.value ∙ c.in_err-ok.was) t.says in
    let h = y.1 in
    let z = ap (λ q. entries_long (kept_entries q)) r0 in
    let narrow = tidy_says (g.R.Rules.book c.args.rules.now) (g.I.Inputs.given c.args.inputs.now (take known ws)) c.args.k.now (kept_entries (drop known (take memo ws))) (kept_entries (drop known (take memo vs))) (g.R.Rules.runs c.args.rules.now) (g.R.Rules.runs c.args.rules.now) (length (drop known (take memo ws))) (length (drop memo ws)) (drop memo ws) (drop memo vs) (ap kept_entries r1 ∙ y.0 ∙ ap kept_entries (sym r0)) (omega (arith, h, z)) in
    let said : BringSays (g.R.Rules.book c.args.rules.now) (g.I.Inputs.given c.args.inputs.now (take known ws)) c.args.k.now (kept_entries (drop known (take memo ws))) (kept_entries (drop known (take memo vs))) (g.R.Rules.runs c.args.rules.now) (g.R.Rules.runs c.args.rules.now) (length (drop known (take memo ws))) (length (drop memo ws)) (drop memo ws) (drop memo vs) c.from_residual.result = subst (BringSays (g.R.Rules.book c.args.rules.now) (g.I.Inputs.given c.args.inputs.now (take known ws)) c.args.k.now (kept_entries (drop known (take memo ws))) (kept_entries (drop known (take memo vs))) (g.R.Rules.runs c.args.rules.now) (g.R.Rules.runs c.args.rules.now) (length (drop known (take memo ws))) (length (drop memo ws)) (drop memo ws) (drop memo vs)) (sym c.from_residual.ensures) narrow in
    record {
      book1 = refl;
      row = (c.tidy.auto.mem, tested known memo ws vs lo c.requires.row.1 c.requires.row.3 c.tidy.auto.mem t.buckets t.fits);
      before = t.before;
      runs1 = omega arith;
      honest = still_honest (g.R.Rules.book c.args.rules.now) (g.I.Inputs.given c.args.inputs.now (take known ws)) c.args.k.now (kept_entries (drop known (take memo ws))) (kept_entries (drop known (take memo vs))) (g.R.Rules.runs c.args.rules.now) (g.R.Rules.runs c.args.rules.now) (length (drop known (take memo ws))) (length (drop memo ws)) (drop memo ws) (drop memo vs) c.from_residual.result said c.requires.falls c.requires.honest;
      says = said;
    }

pub run-requires : goal.run-requires
run-requires g c =
    let t = c.tidy.ensures in
    let y = ready (memo_in c.args.known c.args.memo c.args.mem.now) (memo_in c.args.known c.args.memo c.tidy.new.mem) (length (drop c.args.memo c.args.mem.now)) c.tidy.result _ (sym c.ok.ensures.value ∙ c.in_ok-ok.was) t.says in
    let known = c.args.known in
    let memo = c.args.memo in
    let r = c.requires.row in
    let lo = r.0 in
    let hi = r.1 in
    let sm = r.2 in
    let k = c.tidy.auto.mem in
    let r0 = region known memo c.args.mem.now lo in
    record {
      area = record { low = lo; high = omega (arith, hi, k); small = omega (arith, sm, k); fits = t.fits };
      empty = (refl, refl);
      falls = c.requires.falls;
      honest = subst (λ q. Honest (g.R.Rules.book c.args.rules.now) (kept q)) (ap kept_entries r0 ∙ sym y.0) c.requires.honest;
      inner = sym c.if-is_input.ensures;
      runs1 = c.requires.runs1;
    }

pub returns : goal.returns
returns g c =
    let t = c.tidy.ensures in
    let r = c.run.ensures in
    let known = c.args.known in
    let memo = c.args.memo in
    let ws = c.args.mem.now in
    let us = c.tidy.new.mem in
    let vs = c.run.new.mem in
    let lo = c.requires.row.0 in
    let y = ready (memo_in known memo ws) (memo_in known memo us) (length (drop memo ws)) c.tidy.result _ (sym c.ok.ensures.value ∙ c.in_ok-ok.was) t.says in
    let a = in_order known memo ws c.requires.row in
    let r0 = region known memo ws lo in
    let r1 = region known memo vs lo in
    let kt = c.tidy.auto.mem in
    let n = r.runs1 in
    let l0 = length-drop memo ws in
    let l1 = length-drop memo us in
    let x : length (drop memo us) ≡ length (drop memo ws) = omega (arith, l0, l1, kt) in
    let ee : kept_entries (memo_in known memo us) ≡ kept_entries (drop known (take memo ws)) = y.0 ∙ ap kept_entries (sym r0) in
    let ran = run_says (g.R.Rules.book c.args.rules.now) (g.I.Inputs.given c.args.inputs.now (take known ws)) c.args.k.now (kept_entries (drop known (take memo ws))) (kept_entries (drop known (take memo vs))) (g.R.Rules.runs c.args.rules.now) (g.R.Rules.runs c.run.new.rules) (length (drop known (take memo ws))) (length (drop memo ws)) (drop memo ws) (drop memo vs) (memo_in known memo ws) (memo_in known memo us) (length (drop memo ws)) a.fits (few known memo ws lo c.requires.row.3) (ap kept_entries r0) (ap length r0) y c.run.result
    (run_moved (g.R.Rules.book c.args.rules.now) (g.I.Inputs.given c.args.inputs.now (take known us)) (g.I.Inputs.given c.args.inputs.now (take known ws)) c.args.k.now (kept_entries (memo_in known memo us)) (kept_entries (drop known (take memo ws))) (kept_entries (memo_in known memo vs)) (kept_entries (drop known (take memo vs))) (g.R.Rules.runs c.args.rules.now) (g.R.Rules.runs c.run.new.rules) (spare (memo_in known memo us)) (length (drop memo us)) (length (drop memo ws)) (drop memo vs) c.run.result (ap (g.I.Inputs.given c.args.inputs.now) t.before) ee (ap kept_entries (sym r1)) x r.says) in
    let said : BringSays (g.R.Rules.book c.args.rules.now) (g.I.Inputs.given c.args.inputs.now (take known ws)) c.args.k.now (kept_entries (drop known (take memo ws))) (kept_entries (drop known (take memo vs))) (g.R.Rules.runs c.args.rules.now) (g.R.Rules.runs c.run.new.rules) (length (drop known (take memo ws))) (length (drop memo ws)) (drop memo ws) (drop memo vs) c.ok-2.result = subst (BringSays (g.R.Rules.book c.args.rules.now) (g.I.Inputs.given c.args.inputs.now (take known ws)) c.args.k.now (kept_entries (drop known (take memo ws))) (kept_entries (drop known (take memo vs))) (g.R.Rules.runs c.args.rules.now) (g.R.Rules.runs c.run.new.rules) (length (drop known (take memo ws))) (length (drop memo ws)) (drop memo ws) (drop memo vs)) (sym c.ok-2.ensures.value) ran in
    record {
      book1 = r.book1;
      row = (c.run.auto.mem ∙ kt, tested known memo ws vs lo c.requires.row.1 c.requires.row.3 (c.run.auto.mem ∙ kt) (r.buckets ∙ t.buckets) r.fits);
      before = r.before ∙ t.before;
      runs1 = omega (arith, n, kt);
      honest = subst (λ q. Honest q (kept (kept_entries (drop known (take memo vs))))) (sym r.book1) (still_honest (g.R.Rules.book c.args.rules.now) (g.I.Inputs.given c.args.inputs.now (take known ws)) c.args.k.now (kept_entries (drop known (take memo ws))) (kept_entries (drop known (take memo vs))) (g.R.Rules.runs c.args.rules.now) (g.R.Rules.runs c.run.new.rules) (length (drop known (take memo ws))) (length (drop memo ws)) (drop memo ws) (drop memo vs) c.ok-2.result said c.requires.falls c.requires.honest);
      says = said;
    }
