-- The engine as a machine with a stack of its own, for code that must not call itself: states, one turn, what a state comes to ('mean'),
-- and how many turns are left ('left'). A turn keeps 'mean' (proofs/Means) and lessens 'left' (proofs/Measure). No promise to a caller
-- cites this file: what the machine comes to is what 'bring' says (proofs/Loops).
use Rattle.std.specs.Prelude.{ℕ, zero, suc, ◌+◌, ◌-◌, ◌<◌, ◌≤◌, List, [], ◌∷◌, ◌++◌, length}
use Rattle.std.proofs.Math.Option.{Option, some, none}
use Rattle.engine.specs.declared.key.Key.{Key}
use Rattle.base.specs.Base.{pick, same}
use Rattle.engine.specs.Says.{signs_gots}
use Rattle.engine.specs.Engine.{Ans, Then, ask, done, Rules, Inputs, Got, Entry, Kept, Brought, Bring, brought, bring, find, check, Checked, answers, went, finish, work}

-- what waits for an answer
pub data Frame : Type 0 where
  -- a key with an entry: the question that is being looked at, and those to be looked at then
  looks : Key → Entry → Got → List Got → Frame
  -- a key whose rule is being told: what it got so far, and what it asked now
  works : Key → List Got → Key → Frame

-- where the machine stands; the list is its stack, the newest frame first
pub data State : Type 0 where
  -- bring a key
  call : Kept → Key → List Frame → State
  -- hand an answer back
  back : Kept → Ans → List Frame → State
  -- tell a rule what it got
  tell : Kept → Key → List Got → List Frame → State

abbrev pub got : Key → Ans → Got
got q a = record { key = q; ans = a }

-- a key's entry is looked at from here on
abbrev pub look : Kept → Key → Entry → List Got → List Frame → State
look m k e [] st = back m e.ans st
look m k e (g ∷ gs) st = call m g.key (looks k e g gs ∷ st)

-- a key that is no input is brought, by the entry that it has
abbrev pub called : Kept → Key → List Frame → Option Entry → State
called m k st none = tell m k [] st
called m k st (some e) = look m k e e.gots st

-- a rule was told something, and does this next
abbrev pub told : Kept → Key → List Got → List Frame → Then → State
told m k gs st (done a) = back (finish k a gs (went m)).kept a st
told m k gs st (ask q) = call (went m) q (works k gs q ∷ st)

-- an answer comes back to the newest frame
abbrev pub backed : Kept → Ans → List Frame → State
backed m a [] = back m a []
backed m a (looks k e g gs ∷ st) = pick (same a g.ans) (look m k e gs st) (tell m k [] st)
backed m a (works k gs q ∷ st) = tell m k (gs ++ (got q a ∷ [])) st

-- one turn
abbrev pub turn : Rules → Inputs → State → State
turn r i (call m k st) = pick (r.input k) (back m (i k) st) (called m k st (find m.entries k))
turn r i (back m a st) = backed m a st
turn r i (tell m k gs st) = told m k gs st (r.next k (answers gs))

-- What a state comes to, by the definition's own functions: the frames of the stack are gone on with from the newest to the oldest. n
-- bounds the depth of all, so the depth that is left at a frame is n less the frames below it, and no fact about bounds is needed.
-- A rule that was told some answers, told to its end
abbrev pub working : Rules → Bring → Key → List Got → Kept → Brought
working r f k gs m = work f (r.next k) k (suc (r.most k) - length gs) gs m

-- an entry, once the rest of its questions was looked at
abbrev pub ended : Rules → Bring → Key → Entry → Checked → Brought
ended r f k e c = pick c.same1 (brought c.kept e.ans) (working r f k [] c.kept)

-- bringing a key above this stack and one frame
abbrev pub below : Rules → Inputs → ℕ → List Frame → Bring
below r i n st = bring r i (n - suc (length st))

-- an answer handed down the whole stack
abbrev pub unwind : Rules → Inputs → ℕ → List Frame → Brought → Brought
unwind r i n [] b = b
unwind r i n (looks k e g gs ∷ st) b = unwind r i n st (pick (same b.ans g.ans) (ended r (below r i n st) k e (check (below r i n st) b.kept gs)) (working r (below r i n st) k [] b.kept))
unwind r i n (works k gs q ∷ st) b = unwind r i n st (working r (below r i n st) k (gs ++ (got q b.ans ∷ [])) b.kept)

-- what a state comes to
abbrev pub mean : Rules → Inputs → ℕ → State → Brought
mean r i n (call m k st) = unwind r i n st (bring r i (n - length st) m k)
mean r i n (back m a st) = unwind r i n st (brought m a)
mean r i n (tell m k gs st) = unwind r i n st (working r (below r i n st) k gs m)

-- the bound on the depth is enough for the next turn
abbrev pub Ready : Rules → ℕ → State → Type 0
Ready r n (call m k st) = length st < n
Ready r n (back m a st) = Unit {0}
Ready r n (tell m k gs st) = length gs ≤ r.most k

-- How many turns are left from a state on: computed beside what it comes to. A call is one turn and what it leads to; an answer that
-- comes back to a frame is one turn more
abbrev pub Cost : Type 0
Cost = Kept → Key → ℕ

abbrev pub cost_check : Bring → Cost → Kept → List Got → ℕ
cost_check f c m [] = 0
cost_check f c m (g ∷ gs) = c m g.key + suc (pick (same (f m g.key).ans g.ans) (cost_check f c (f m g.key).kept gs) 0)

abbrev pub cost_then : Then → (Key → ℕ) → ℕ
cost_then (done a) h = 0
cost_then (ask q) h = h q

abbrev pub cost_work : Bring → Cost → (List Ans → Then) → ℕ → List Got → Kept → ℕ
cost_work f c g zero gs m = 0
cost_work f c g (suc l) gs m = suc (cost_then (g (answers gs)) (λ q. c (went m) q + suc (cost_work f c g l (gs ++ (got q (f (went m) q).ans ∷ [])) (f (went m) q).kept)))

abbrev pub cost_working : Rules → Bring → Cost → Key → List Got → Kept → ℕ
cost_working r f c k gs m = cost_work f c (r.next k) (suc (r.most k) - length gs) gs m

abbrev pub cost_ended : Rules → Bring → Cost → Key → Checked → ℕ
cost_ended r f c k d = pick d.same1 0 (cost_working r f c k [] d.kept)

abbrev pub cost_renew : Rules → Bring → Cost → Kept → Key → Option Entry → ℕ
cost_renew r f c m k none = cost_working r f c k [] m
cost_renew r f c m k (some e) = cost_check f c m e.gots + cost_ended r f c k (check f m e.gots)

abbrev pub cost : Rules → Inputs → ℕ → Cost
cost r i zero m k = 0
cost r i (suc n) m k = suc (pick (r.input k) 0 (cost_renew r (bring r i n) (cost r i n) m k (find m.entries k)))

abbrev pub cost_below : Rules → Inputs → ℕ → List Frame → Cost
cost_below r i n st = cost r i (n - suc (length st))

abbrev pub cost_unwind : Rules → Inputs → ℕ → List Frame → Brought → ℕ
cost_unwind r i n [] b = 0
cost_unwind r i n (looks k e g gs ∷ st) b =
    suc (pick (same b.ans g.ans) (cost_check (below r i n st) (cost_below r i n st) b.kept gs + cost_ended r (below r i n st) (cost_below r i n st) k (check (below r i n st) b.kept gs)) (cost_working r (below r i n st) (cost_below r i n st) k [] b.kept)
    + cost_unwind r i n st (pick (same b.ans g.ans) (ended r (below r i n st) k e (check (below r i n st) b.kept gs)) (working r (below r i n st) k [] b.kept)))
cost_unwind r i n (works k gs q ∷ st) b =
    suc (cost_working r (below r i n st) (cost_below r i n st) k (gs ++ (got q b.ans ∷ [])) b.kept + cost_unwind r i n st (working r (below r i n st) k (gs ++ (got q b.ans ∷ [])) b.kept))

-- the measure: it falls by one with each turn
abbrev pub left : Rules → Inputs → ℕ → State → ℕ
left r i n (call m k st) = cost r i (n - length st) m k + cost_unwind r i n st (bring r i (n - length st) m k)
left r i n (back m a st) = cost_unwind r i n st (brought m a)
left r i n (tell m k gs st) = cost_working r (below r i n st) (cost_below r i n st) k gs m + cost_unwind r i n st (working r (below r i n st) k gs m)

-- there is a turn to make: all but an answer with no frame that waits for it
abbrev pub Busy : State → Type 0
Busy (call m k st) = Unit {0}
Busy (back m a []) = ⊥
Busy (back m a (f ∷ st)) = Unit {0}
Busy (tell m k gs st) = Unit {0}

-- how often the rules were told that aren't done yet: they wait in the stack, or are told next
abbrev pub pending_in : List Frame → ℕ
pending_in [] = 0
pending_in (looks k e g gs ∷ st) = pending_in st
pending_in (works k gs q ∷ st) = suc (length gs) + pending_in st

abbrev pub pending : State → ℕ
pending (call m k st) = pending_in st
pending (back m a st) = pending_in st
pending (tell m k gs st) = length gs + pending_in st

-- how many words a frame takes at most, a stack, and a state with its stack: what an entry takes, for a rule that is being told
abbrev pub frame_signs : Frame → ℕ
frame_signs (looks k e g gs) = 16
frame_signs (works k gs q) = 16 + signs_gots gs

abbrev pub stack_signs : List Frame → ℕ
stack_signs [] = 0
stack_signs (fr ∷ st) = frame_signs fr + stack_signs st

abbrev pub state_signs : State → ℕ
state_signs (call m k st) = stack_signs st
state_signs (back m a st) = stack_signs st
state_signs (tell m k gs st) = (16 + signs_gots gs) + stack_signs st
