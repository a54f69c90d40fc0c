-- Rules that ask for each other's answers, what a key is worth by them, and what the engine does: keep answers and work out no more than
-- must be. Worth is the meaning; bring is the engine. specs/Theorems says how they hang together.
--
-- Where a definition calls itself it takes a number (n, m) that bounds the depth: more than a key's rank, or more than what a rule
-- asks at most. Below that bound what comes out is of no account.
use Rattle.std.specs.Prelude.{ℕ, zero, suc, ◌+◌, Bool, true, false, ◌&&◌, List, [], ◌∷◌, ◌++◌, ◌==◌}
use Rattle.std.proofs.Math.Option.{Option, some, none}
use Rattle.engine.specs.declared.key.Key.{Key}
use Rattle.base.specs.Base.{pick, same}

-- an answer: any row of numbers
abbrev pub Ans : Type 0
Ans = List ℕ

-- whether two keys are the same
abbrev pub same_key : Key → Key → Bool
same_key j k = j.kind == k.kind && (j.a == k.a && j.b == k.b)

-- what a rule does next, told the answers to what it asked so far, in order: it asks for a key's answer, or it is done, with its own
pub data Then : Type 0 where
  ask : Key → Then
  done : Ans → Then

-- rules, one for each key
pub record Rules : Type 0 where
  -- the keys whose answers are handed in from outside: they have no rule
  pub input : Key → Bool
  -- what the rule of a key does next. It sees its key and those answers, and nothing else
  pub next : Key → List Ans → Then
  -- what is asked has a smaller rank than what asks (specs/Theorems, Falls), so that questions come to an end
  pub rank : Key → ℕ
  -- how many things are asked at most, by the key alone: a rule that goes over a list has the list's length in its key
  pub most : Key → ℕ

-- the answers that are handed in
abbrev pub Inputs : Type 0
Inputs = Key → Ans

-- what a rule comes to when all that it asks is answered by f
abbrev pub on_then : Then → (Key → Ans) → Ans
on_then (done a) f = a
on_then (ask k) f = f k

abbrev pub follow : (Key → Ans) → (List Ans → Then) → ℕ → List Ans → Ans
follow f g zero as₁ = []
follow f g (suc m) as₁ = on_then (g as₁) (λ k. follow f g m (as₁ ++ (f k ∷ [])))

-- what a key is worth: its input, or what its rule comes to when all that it asks is answered by what that is worth. Nothing is kept.
-- n is more than the key's rank
abbrev pub worth : Rules → Inputs → ℕ → Key → Ans
worth r i zero k = []
worth r i (suc n) k = pick (r.input k) (i k) (follow (worth r i n) (r.next k) (suc (r.most k)) [])

-- what a rule asked, and the answer that it got
pub record Got : Type 0 where
  pub key : Key
  pub ans : Ans

-- what is kept of a key: its answer, and what its rule asked, in order, with the answers that it got
pub record Entry : Type 0 where
  pub key : Key
  pub ans : Ans
  pub gots : List Got

-- what the engine keeps: entries; and two tallies, in which the theorems say how much was done
pub record Kept : Type 0 where
  pub entries : List Entry
  -- the keys whose rules were told until they were done, in order, since the beginning
  pub worked : List Key
  -- how often a rule was told something: once for each thing that it asked, and once more when it was done
  pub goes : ℕ

-- the entry of a key
abbrev pub find : List Entry → Key → Option Entry
find [] k = none
find (e ∷ es) k = pick (same_key e.key k) (some e) (find es k)

-- an entry written, in the place of the one that its key had, else at the end
abbrev pub store : Entry → List Entry → List Entry
store e [] = e ∷ []
store e (f ∷ fs) = pick (same_key f.key e.key) (e ∷ fs) (f ∷ store e fs)

-- what comes of bringing a key up to date: what is kept then, and the key's answer
pub record Brought : Type 0 where
  pub kept : Kept
  pub ans : Ans

abbrev pub brought : Kept → Ans → Brought
brought k a = record { kept = k; ans = a }

abbrev pub Bring : Type 0
Bring = Kept → Key → Brought

-- looking at what an entry asked: each is brought up to date, in order, up to the first whose answer isn't the one that stands there.
-- same1 says that there was none such
pub record Checked : Type 0 where
  pub kept : Kept
  pub same1 : Bool

abbrev pub check : Bring → Kept → List Got → Checked
check f m [] = record { kept = m; same1 = true }
check f m (g ∷ gs) = further (f m g.key) (λ b. pick (same b.ans g.ans) (check f b.kept gs) (record { kept = b.kept; same1 = false }))
  where
    further : Brought → (Brought → Checked) → Checked
    further b h = h b

-- the answers alone
abbrev pub answers : List Got → List Ans
answers [] = []
answers (g ∷ gs) = g.ans ∷ answers gs

-- a rule was told something
abbrev pub went : Kept → Kept
went m = record { entries = m.entries; worked = m.worked; goes = m.goes + 1 }

-- a rule is done: its key's entry is written anew
abbrev pub finish : Key → Ans → List Got → Kept → Brought
finish k a gs m = brought (record { entries = store (record { key = k; ans = a; gots = gs }) m.entries; worked = m.worked ++ (k ∷ []); goes = m.goes }) a

-- working a key out: its rule is told what it got so far; what it asks is brought up to date and added to that; and so on
abbrev pub on_next : Then → (Ans → Brought) → (Key → Brought) → Brought
on_next (done a) f g = f a
on_next (ask k) f g = g k

abbrev pub work : Bring → (List Ans → Then) → Key → ℕ → List Got → Kept → Brought
work f g k zero gs m = finish k [] gs m
work f g k (suc n) gs m = on_next (g (answers gs)) (λ a. finish k a gs (went m)) (λ q. with_got (f (went m) q) (λ b. work f g k n (gs ++ (record { key = q; ans = b.ans } ∷ [])) b.kept))
  where
    with_got : Brought → (Brought → Brought) → Brought
    with_got b h = h b

-- a key that is no input: without an entry it is worked out; with one, what it asked is looked at first, and the entry's answer stands
-- if all of that is as it was
abbrev pub renew : Bring → Rules → Kept → Key → Option Entry → Brought
renew f r m k none = work f (r.next k) k (suc (r.most k)) [] m
renew f r m k (some e) = after_check (check f m e.gots)
  where
    after_check : Checked → Brought
    after_check c = pick c.same1 (brought c.kept e.ans) (work f (r.next k) k (suc (r.most k)) [] c.kept)

-- a key brought up to date: an input is handed on, any other key is renewed. n is more than its rank
abbrev pub bring : Rules → Inputs → ℕ → Bring
bring r i zero m k = brought m []
bring r i (suc n) m k = pick (r.input k) (brought m (i k)) (renew (bring r i n) r m k (find m.entries k))
