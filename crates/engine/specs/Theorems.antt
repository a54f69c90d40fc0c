-- What is true of the engine, for any rules whose questions go down. For each theorem there is a function in src/theorems.rt.
use Rattle.std.specs.Prelude.{◌≡◌, ℕ, suc, ◌+◌, ◌≤◌, true, false, T, ◌⊎◌, List, [], ◌∷◌, ◌++◌, length, ◌≢◌, nat_le}
use Rattle.std.proofs.Math.Option.{Option, some, none}
use Rattle.engine.specs.declared.key.Key.{Key}
use Rattle.engine.specs.Says.{signs_entries}
use Rattle.engine.specs.Engine.{Ans, Then, ask, done, Rules, Inputs, worth, Got, Entry, Kept, brought, bring, find}

-- Rules whose questions go down and end: what is asked has a smaller rank, and no more is asked than 'most' says
pub record Falls (r : Rules) : Type 0 where
  pub lower : (k q : Key) (as₁ : List Ans) → r.next k as₁ ≡ ask q → T (nat_le (suc (r.rank q)) (r.rank k)) × T (nat_le (suc (length as₁)) (r.most k))

-- told the answers so far, a rule asks what stands first in the list; told that answer too, what stands next; and so on to its own answer
pub data Asked (f : List Ans → Then) : List Ans → List Got → Ans → Type 0 where
  ends : {as₁ : List Ans} {a : Ans} → f as₁ ≡ done a → Asked f as₁ [] a
  asks : {as₁ : List Ans} {g : Got} {gs : List Got} {a : Ans} → f as₁ ≡ ask g.key → Asked f (as₁ ++ (g.ans ∷ [])) gs a → Asked f as₁ (g ∷ gs) a

-- What is kept is honest: each entry is what its rule does, told the answers that stand in it. Whether those answers are still right
-- is another matter: inputs may have changed since
pub record Honest (r : Rules) (m : Kept) : Type 0 where
  pub holds : (k : Key) (e : Entry) → find m.entries k ≡ some e → Asked (r.next k) [] e.gots e.ans

-- what a key is worth, with the least bound on the depth that is enough
abbrev pub value : Rules → Inputs → Key → Ans
value r i k = worth r i (suc (r.rank k)) k

-- An answer brought up to date is what the key is worth, so the same that a fresh start gives, whatever was kept before, as long as
-- that is honest; and what is kept then is honest too
abbrev pub UpToDate : Type 0
UpToDate = (r : Rules) (i : Inputs) (n : ℕ) (m : Kept) (k : Key) → Falls r → T (nat_le (suc (r.rank k)) n) → Honest r m → ((bring r i n m k).ans ≡ worth r i n k) × Honest r (bring r i n m k).kept

-- Asked again, with nothing changed, all that is kept stays as it is: no rule is told anything, and no entry is written
abbrev pub AskedAgain : Type 0
AskedAgain = (r : Rules) (i : Inputs) (n : ℕ) (m : Kept) (k : Key) → Falls r → T (nat_le (suc (r.rank k)) n) → Honest r m → (bring r i n (bring r i n m k).kept k).kept ≡ (bring r i n m k).kept

-- a key stands in a list
pub data Among (j : Key) : List Key → Type 0 where
  here : {ks : List Key} → Among j (j ∷ ks)
  there : {k : Key} {ks : List Key} → Among j ks → Among j (k ∷ ks)

-- no key stands in a list twice
pub data NoTwice : List Key → Type 0 where
  blank : NoTwice []
  another : {k : Key} {ks : List Key} → (Among k ks → ⊥) → NoTwice ks → NoTwice (k ∷ ks)

-- a question with its answer stands in a list
pub data InGots (g : Got) : List Got → Type 0 where
  first : {gs : List Got} → InGots g (g ∷ gs)
  later : {h : Got} {gs : List Got} → InGots g gs → InGots g (h ∷ gs)

-- Of the keys js that are worked out in one bringing, none is worked out twice, and each had no entry before, or its entry holds an
-- answer that isn't what was asked is worth now
abbrev pub OnlyChanged : Type 0
OnlyChanged = (r : Rules) (i : Inputs) (n : ℕ) (m : Kept) (k : Key) → Falls r → T (nat_le (suc (r.rank k)) n) → Honest r m → (js : List Key) × ((bring r i n m k).kept.worked ≡ m.worked ++ js) × NoTwice js × ((j : Key) → Among j js → (find m.entries j ≡ none) ⊎ ((e : Entry) × (g : Got) × (find m.entries j ≡ some e) × InGots g e.gots × (worth r i n g.key ≢ g.ans)))

-- how often rules are told for these keys, by the entries that they have then: once for each question, and once more
abbrev pub told_of : Option Entry → ℕ
told_of none = 0
told_of (some e) = suc (length e.gots)

abbrev pub tally : List Entry → List Key → ℕ
tally es [] = 0
tally es (j ∷ js) = told_of (find es j) + tally es js

-- How often rules are told in one bringing, exactly: for each key that is worked out, once for each question of the entry that it then
-- has, and once more
abbrev pub ToldExactly : Type 0
ToldExactly = (r : Rules) (i : Inputs) (n : ℕ) (m : Kept) (k : Key) → Falls r → T (nat_le (suc (r.rank k)) n) → Honest r m → (js : List Key) × ((bring r i n m k).kept.worked ≡ m.worked ++ js) × NoTwice js × ((bring r i n m k).kept.goes ≡ m.goes + tally (bring r i n m k).kept.entries js)

-- So rules are told no more often than the entries that are left take words
abbrev pub ToldAtMost : Type 0
ToldAtMost = (r : Rules) (i : Inputs) (n : ℕ) (m : Kept) (k : Key) → Falls r → T (nat_le (suc (r.rank k)) n) → Honest r m → (bring r i n m k).kept.goes ≤ m.goes + signs_entries (bring r i n m k).kept.entries

-- A key is settled: it is an input, or it has an entry whose answers are what its questions are worth now, and all of these are settled
pub data Settled (r : Rules) (i : Inputs) (es : List Entry) : Key → Type 0 where
  given : {k : Key} → r.input k ≡ true → Settled r i es k
  stands : {k : Key} {e : Entry} → r.input k ≡ false → find es k ≡ some e → ((g : Got) → InGots g e.gots → Settled r i es g.key) → ((g : Got) → InGots g e.gots → value r i g.key ≡ g.ans) → Settled r i es k

-- As long as no input changes, no entry need be looked at twice: a key that was brought up to date is settled; what is settled stays so
-- while other keys are brought; and a settled key is brought by handing on the answer of its entry, with nothing else done
abbrev pub LookedAtOnce : Type 0
LookedAtOnce = (r : Rules) (i : Inputs) (n : ℕ) (m : Kept) (k : Key) → Falls r → T (nat_le (suc (r.rank k)) n) → Honest r m →
    Settled r i (bring r i n m k).kept.entries k
    × ((j : Key) → Settled r i m.entries j → Settled r i (bring r i n m k).kept.entries j)
    × (Settled r i m.entries k → bring r i n m k ≡ brought m (worth r i n k))
    × ((e : Entry) → Settled r i m.entries k → r.input k ≡ false → find m.entries k ≡ some e → e.ans ≡ worth r i n k)
