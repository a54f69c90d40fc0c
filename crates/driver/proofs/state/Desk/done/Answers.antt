-- What is proved by hand of done.
use Rattle.std.proofs.Common.{◌≡◌, ℕ, ◌+◌, ◌-◌, ◌*◌, List, length, take, drop, sym, ap, ◌∙◌, subst, arith, length-drop}
use Rattle.std.proofs.lemmas.Result.{err_from_is_err_and}
use Rattle.engine.specs.Engine.{Got, answers}
use Rattle.engine.specs.Says.{row}
use Rattle.memo.specs.Log.{Fits}
use Rattle.memo.specs.Record.{deep, made}
use Rattle.driver.specs.Rows.{stacked}
use Rattle.driver.specs.Says.{memo_in, StoredSays}
use Rattle.driver.specs.Doing.{DoneSays}
use Rattle.driver.proofs.Lent.{memo_long, front_memo, parted, same_rows, shorter}
use Rattle.driver.proofs.Tells.{words_of, done_refused, done_turn}
use Rattle.driver.proofs.state.Desk.done.Goals as goal

pub store-requires-clause-fits : goal.store-requires-clause-fits
store-requires-clause-fits c =
    let s = c.args.self in
    let e = front_memo s.known s.memo c.args.mem.now c.split_at_mut-front.result.0.now c.requires.area.low c.split_at_mut-front.ensures.front in
    subst Fits (sym e) c.requires.area.fits

pub store-requires-clause-told : goal.store-requires-clause-told
store-requires-clause-told c =
    let s = c.args.self in
    let t = c.args.told in
    let ws = c.args.mem.now in
    let b = c.split_at_mut-front.ensures.back in
    let x = c.requires.told in
    let wl = length-drop s.memo ws in
    let hi = c.requires.area.high in
    let d = x.3 in
    let o = words_of (memo_in s.known s.memo ws) s.memo s.rows s.frames t.count t.from (drop s.memo ws) x.1 x.2 (omega arith) c.requires.row.0 c.requires.row.1 d.1 d.3 in
    (x.1, d.3.us, ap (deep s.frames) b ∙ o.frames, sym d.1, ap (λ q. take (s.rows - t.from) (drop t.from q)) b ∙ o.row1)

pub returns-in_err-store : goal.returns-in_err-store
returns-in_err-store c =
    let s = c.args.self in
    let t = c.args.told in
    let len = c.args.n in
    let ws = c.args.mem.now in
    let w = drop s.memo ws in
    let u = c.split_at_mut-front.result.0.now in
    let front = c.split_at_mut-front.ensures.front in
    let b = c.split_at_mut-front.ensures.back in
    let lo = c.requires.area.low in
    let ns = c.store.new.memo in
    let x = c.store.result in
    let e = front_memo s.known s.memo ws u lo front in
    let ml = memo_long ws s.known s.memo lo (omega arith) in
    let says : (gs : List Got) (us : List ℕ) → deep s.frames w ≡ stacked gs us → length gs ≡ t.count → take (s.rows - t.from) (drop t.from w) ≡ row (answers gs) → StoredSays (made t.key (take len (drop s.rows w)) gs) (memo_in s.known s.memo ws) ns x = λ gs us f l r.
    subst (λ m. StoredSays (made t.key (take len (drop s.rows w)) gs) m ns x) e
    (subst (λ v. StoredSays (made t.key (take len (drop s.rows v)) gs) (take (length u - s.known) (drop s.known u)) ns x) b
    (c.store.ensures.says gs us (ap (deep s.frames) b ∙ f) l (ap (λ q. take (s.rows - t.from) (drop t.from q)) b ∙ r))) in
    let wl = length-drop s.memo ws in
    let v = c.store.new.work in
    let p = parted s.known s.memo ws u ns v lo (omega arith) front (c.store.auto.memo ∙ ap length e ∙ ml) in
    let er = err_from_is_err_and c.from_residual.result c.from_residual.ensures.1 in
    subst (DoneSays s t len ws _) (sym er.1) (done_refused s.known s.memo s.rows s.frames t.key t.count t.from len ws _ ns v c.requires.area c.requires.row.0 c.requires.row.1 c.requires.row.2 p x says _ c.in_err-store.was)

pub returns : goal.returns
returns c =
    let s = c.args.self in
    let t = c.args.told in
    let len = c.args.n in
    let ws = c.args.mem.now in
    let w = drop s.memo ws in
    let u = c.split_at_mut-front.result.0.now in
    let front = c.split_at_mut-front.ensures.front in
    let b = c.split_at_mut-front.ensures.back in
    let lo = c.requires.area.low in
    let ns = c.store.new.memo in
    let x = c.store.result in
    let e = front_memo s.known s.memo ws u lo front in
    let ml = memo_long ws s.known s.memo lo (omega arith) in
    let says : (gs : List Got) (us : List ℕ) → deep s.frames w ≡ stacked gs us → length gs ≡ t.count → take (s.rows - t.from) (drop t.from w) ≡ row (answers gs) → StoredSays (made t.key (take len (drop s.rows w)) gs) (memo_in s.known s.memo ws) ns x = λ gs us f l r.
    subst (λ m. StoredSays (made t.key (take len (drop s.rows w)) gs) m ns x) e
    (subst (λ v. StoredSays (made t.key (take len (drop s.rows v)) gs) (take (length u - s.known) (drop s.known u)) ns x) b
    (c.store.ensures.says gs us (ap (deep s.frames) b ∙ f) l (ap (λ q. take (s.rows - t.from) (drop t.from q)) b ∙ r))) in
    let wl = length-drop s.memo ws in
    let v = c.settle.new.work in
    let p = parted s.known s.memo ws u ns v lo (omega arith) front (c.store.auto.memo ∙ ap length e ∙ ml) in
    let v1 = c.store.new.work in
    let keep = c.store.ensures.work in
    let bl = ap length b in
    let h = length c.split_at_mut-front.result.1.now - s.frames in
    let lv : length v ≡ length w = c.settle.auto.work ∙ c.store.auto.work ∙ bl in
    let is : take len (drop (t.from + 1) v) ≡ take len (drop s.rows w) = c.settle.ensures.is ∙ same_rows s.rows len h _ v1 (omega arith) keep.0 ∙ ap (λ q. take len (drop s.rows q)) b in
    let below : take (t.from + 1) v ≡ take (t.from + 1) w = c.settle.ensures.below ∙ shorter (t.from + 1) h v1 _ (omega arith) keep.0 ∙ ap (take (t.from + 1)) b in
    let lk = c.store.auto.work in
    let above : deep (s.frames - 3 * t.count) v ≡ deep (s.frames - 3 * t.count) w = c.settle.ensures.above (s.frames - 3 * t.count) (omega arith) ∙ keep.1 ∙ ap (deep (s.frames - 3 * t.count)) b in
    done_turn s.known s.memo s.rows s.frames t.key t.count t.from len ws _ ns v c.requires.area c.requires.row.0 c.requires.row.1 c.requires.row.2 p x says _ c.in_ok-store.was (omega arith) lv is below above
