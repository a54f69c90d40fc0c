-- What is proved by hand of run.
use Rattle.std.proofs.Common.{◌≡◌, ℕ, ◌+◌, ◌-◌, ◌≤◌, List, length, get_or, take, drop, sym, refl, ap, ◌∙◌, subst, inl, inr, arith, length-drop}
use borrow.Rule.Slice.PartMut.{put_mid}
use Rattle.engine.specs.Engine.{Rules, Inputs}
use Rattle.std.specs.Prelude.{Result, Ok, Err}
use Rattle.memo.specs.declared.log.NoRoom.{NoRoom}
use Rattle.driver.specs.declared.state.Desk.{Desk}
use Rattle.driver.specs.declared.state.At.{At}
use Rattle.driver.specs.declared.state.Now.{Now}
use Rattle.memo.specs.Log.{Fits, kept_entries, Marked, entries_at}
use Rattle.driver.specs.declared.state.Now.TheVariants.{Call, Back, Tell}
use Rattle.driver.specs.Doing.{desk}
use Rattle.driver.specs.Turns.{tellings, TurnSays}
use Rattle.driver.proofs.Lent.{memo_long, lent, whole, same_memo, shorter, lent_memo}
use Rattle.driver.proofs.Going.{going_starts, going_busy, going_count, going_turn, going_less, going_stops, going_ends}
use Rattle.driver.proofs.state.Desk.run.Goals as goal

-- what a turn says, by the rules and inputs of the start
by_start : (b b1 : Rules) (i i1 : Inputs) (s : Desk) (n : Now) (ws vs : List ℕ) (t : Result At NoRoom) → b1 ≡ b → i1 ≡ i → TurnSays b1 i1 s n ws vs t → TurnSays b i s n ws vs t
by_start b b1 i i1 s n ws vs t p q x = subst (λ y. TurnSays b y s n ws vs t) q (subst (λ y. TurnSays y i1 s n ws vs t) p x)

pub loop-n-init : goal.loop-n-init
loop-n-init g c =
    let s = c.args.self in
    let a = c.requires.area in
    let z = c.requires.empty in
    let h = a.high in
    let m = subst (λ q. Marked q c.take_mark-mark.result) c.kept.ensures c.take_mark-mark.ensures.marked in
    let e = subst (λ q. entries_at q c.take_mark-mark.result ≡ kept_entries q) c.kept.ensures c.take_mark-mark.ensures.is in
    (going_starts _ _ c.requires.falls c.args.k.now _ c.take_mark-mark.result s.known s.memo c.args.mem.now _ (record { low = a.low; high = omega arith; small = a.small; fits = a.fits }) refl c.requires.honest c.requires.inner m e, refl)

pub returns-in-Some : goal.returns-in-Some
returns-in-Some g c =
    let iv = c.loop-n.invariant.0 in
    let e = going_ends _ _ c.requires.falls _ _ _ _ _ _ _ _ _ _ _ iv c.in-Some.n c.in-Some.ensures in
    let n = going_count _ _ c.requires.falls _ _ _ _ _ _ _ _ _ _ _ iv in
    let ws = c.loop-n.mem in
    let known = c.args.self.known in
    let memo = c.args.self.memo in
    let k = length ws - memo in
    let v = c.settle.new.work in
    let wl = length-drop memo ws in
    let wh = whole memo ws in
    let hi = iv.area.high in
    let vl : length v ≡ k = c.settle.auto.work ∙ ap length wh ∙ wl in
    let l = lent memo k ws v refl vl (omega (arith, hi)) in
    let vs = put_mid memo k ws v in
    let en = same_memo known memo ws vs iv.area.low l.before in
    let kl = c.loop-n.auto.mem in
    let zero1 : take c.in-Some.n (drop 0 v) ≡ take c.in-Some.n v = drop_zero c.in-Some.n v in
    let r = c.loop-n.at.rows in
    record {
      book1 = c.loop-n.invariant.1;
      fits = subst Fits (sym en) iv.area.fits;
      before = shorter known memo vs ws iv.area.low l.before ∙ iv.before;
      buckets = ap (λ q. get_or q 2 0) en ∙ iv.buckets;
      runs1 = omega (arith, n, kl);
      says = (
        e.long,
        ap (take c.in-Some.n) l.work ∙ sym zero1 ∙ c.settle.ensures.is ∙ ap (λ q. take c.in-Some.n (drop (r + 1) q)) wh ∙ e.is,
        ap kept_entries en ∙ e.entries1,
        e.count,
      );
    }
  where
    drop_zero : (n : ℕ) (v : List ℕ) → take n (drop 0 v) ≡ take n v
    drop_zero n v = refl

pub turn-requires : goal.turn-requires
turn-requires g c =
    let v = c.loop-n.invariant.0 in
    let n = going_count _ _ c.requires.falls _ _ _ _ _ _ _ _ _ _ _ v in
    let l = c.loop-n.auto.mem in
    let s = c.requires.area.small in
    let p = c.requires.runs1 in
    record { area = v.area; runs1 = omega (arith, n, l, s, p); there = (v.c, going_busy _ _ c.requires.falls _ _ _ _ _ _ _ _ _ _ _ v c.in_default.ensures, v.doing) }

pub roll_back-requires : goal.roll_back-requires
roll_back-requires g c =
    let iv = c.loop-n.invariant.0 in
    let x = by_start _ _ _ _ (desk c.args.self.known c.args.self.memo c.loop-n.at.rows c.loop-n.at.frames) c.loop-n.at.now c.loop-n.mem c.turn.new.mem (Err c.in-Err.e) c.loop-n.invariant.1 (ap (g.I.Inputs.given c.args.inputs.now) iv.before) c.in-Err.ensures.says in
    let y = (going_stops _ _ c.requires.falls _ _ _ _ _ _ _ _ _ _ _ iv c.in-Err.e c.turn.new.mem c.in_default.ensures x).0 in
    (y.fits, (y.keeps.marks c.take_mark-mark.result iv.marked).0)

pub returns-in-Err : goal.returns-in-Err
returns-in-Err g c =
    let iv = c.loop-n.invariant.0 in
    let x = by_start _ _ _ _ (desk c.args.self.known c.args.self.memo c.loop-n.at.rows c.loop-n.at.frames) c.loop-n.at.now c.loop-n.mem c.turn.new.mem (Err c.in-Err.e) c.loop-n.invariant.1 (ap (g.I.Inputs.given c.args.inputs.now) iv.before) c.in-Err.ensures.says in
    let z = going_stops _ _ c.requires.falls _ _ _ _ _ _ _ _ _ _ _ iv c.in-Err.e c.turn.new.mem c.in_default.ensures x in
    let y = z.0 in
    let n = going_count _ _ c.requires.falls _ _ _ _ _ _ _ _ _ _ _ iv in
    let ws = c.turn.new.mem in
    let known = c.args.self.known in
    let memo = c.args.self.memo in
    let v = c.roll_back.new.words in
    let kl = c.loop-n.auto.mem in
    let kt = c.turn.auto.mem in
    let hi = iv.area.high in
    let ml = memo_long ws known memo iv.area.low (omega (arith, hi, kt)) in
    let vl : length v ≡ memo - known = c.roll_back.auto.words ∙ ml in
    let l = lent_memo known memo ws v vl iv.area.low (omega (arith, hi, kt)) in
    let told = c.in-Err.ensures.runs1 in
    let few = at_most_one c.loop-n.at.now in
    let wl = length-drop memo c.args.mem.now in
    record {
      book1 = c.in-Err.ensures.book1 ∙ c.loop-n.invariant.1;
      fits = subst Fits (sym l.memo1) c.roll_back.ensures.fits;
      before = l.before ∙ y.before ∙ iv.before;
      buckets = ap (λ q. get_or q 2 0) l.memo1 ∙ c.roll_back.ensures.buckets ∙ y.buckets ∙ iv.buckets;
      runs1 = omega (arith, n, kl, told, few);
      says = (
        ap kept_entries l.memo1 ∙ c.roll_back.ensures.is ∙ (y.keeps.marks c.take_mark-mark.result iv.marked).1 ∙ iv.entries1,
        elim z.1 [ inl p ↦ inl p | inr p ↦ inr (omega (arith, p, kl, wl, hi)) ],
      );
    }
  where
    at_most_one : (n : Now) → tellings n ≤ 1
    at_most_one (Call k) = omega arith
    at_most_one (Back n) = omega arith
    at_most_one (Tell q) = omega arith

pub loop-n-smaller : goal.loop-n-smaller
loop-n-smaller g c =
    let iv = c.loop-n.invariant.0 in
    let x = by_start _ _ _ _ (desk c.args.self.known c.args.self.memo c.loop-n.at.rows c.loop-n.at.frames) c.loop-n.at.now c.loop-n.mem c.turn.new.mem (Ok c.in-Ok.next) c.loop-n.invariant.1 (ap (g.I.Inputs.given c.args.inputs.now) iv.before) c.in-Ok.ensures.says in
    going_less _ _ c.requires.falls _ _ _ _ _ _ _ _ _ _ _ iv c.turn.new.mem c.in-Ok.next c.in_default.ensures x

pub loop-n-preserved : goal.loop-n-preserved
loop-n-preserved g c =
    let iv = c.loop-n.invariant.0 in
    let x = by_start _ _ _ _ (desk c.args.self.known c.args.self.memo c.loop-n.at.rows c.loop-n.at.frames) c.loop-n.at.now c.loop-n.mem c.turn.new.mem (Ok c.in-Ok.next) c.loop-n.invariant.1 (ap (g.I.Inputs.given c.args.inputs.now) iv.before) c.in-Ok.ensures.says in
    (going_turn _ _ c.requires.falls _ _ _ _ _ _ _ _ _ _ _ iv c.turn.new.mem c.in-Ok.next _ c.in_default.ensures x c.in-Ok.ensures.runs1, c.in-Ok.ensures.book1 ∙ c.loop-n.invariant.1)
