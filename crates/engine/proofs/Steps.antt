-- A step is a way from some entries to others in one bringing: which keys were worked out, why, and what stays as it was. Steps join
-- (step_join), and storing an entry whose answers are right is one (stored). The count of tellings goes along (tally).
use Rattle.std.proofs.Common.{◌≡◌, ℕ, suc, ◌+◌, ◌<◌, ◌≤◌, false, ◌⊎◌, List, [], ◌∷◌, ◌++◌, length, sym, refl, ap, ◌∙◌, subst, inl, inr, append_assoc, append-nil, arith}
use mathlib.Core.Option.{some, none}
use Rattle.std.proofs.lemmas.Bool.{both_ways}
use Rattle.engine.specs.declared.key.Key.{Key}
use Rattle.engine.specs.Engine.{Rules, Inputs, Got, Entry, find, store}
use Rattle.engine.specs.Theorems.{Falls, Asked, Among, here, there, NoTwice, blank, another, InGots, value, Settled, given, stands, tally, told_of}
use Rattle.engine.proofs.Basics.{key_cases, find_here, find_apart, among_cases, among_left, among_right, among_one, no_twice_join}
use Rattle.engine.proofs.Worth.{asked_lower}
use Rattle.engine.proofs.Settled.{Fair, Right, AllSettled, settled_lower, settled_store}

-- the tally of two lists, and of one list by entries that are the same for its keys
pub tally_more : (es : List Entry) (js ls : List Key) → tally es (js ++ ls) ≡ tally es js + tally es ls
tally_more es [] ls = omega arith
tally_more es (j ∷ js) ls = let h = tally_more es js ls in omega arith

pub tally_same : (es fs : List Entry) (js : List Key) → ((j : Key) → Among j js → find fs j ≡ find es j) → tally fs js ≡ tally es js
tally_same es fs [] h = refl
tally_same es fs (j ∷ js) h = let a = ap told_of (h j here) in let b = tally_same es fs js (λ l x. h l (there x)) in omega arith

-- why a key is worked out
abbrev pub Stale : Rules → Inputs → List Entry → Key → Type 0
Stale r i es j = (r.input j ≡ false) × ((find es j ≡ none) ⊎ ((e : Entry) × (g : Got) × (find es j ≡ some e) × InGots g e.gots × (value r i g.key ≡ g.ans → ⊥)))

pub stale_not : (r : Rules) (i : Inputs) (es : List Entry) (j : Key) → Stale r i es j → Settled r i es j → ⊥
stale_not r i es j (p, w) (given q) = both_ways _ p q
stale_not r i es j (p, inl w) (stands {e = d} q f s v) = let z : ◌≡◌ {A = ℕ} 0 1 = cc in omega arith
stale_not r i es j (p, inr w) (stands {e = d} q f s v) =
    let z : w.0 ≡ d = cc in w.4 (subst (λ (e : Entry). Right r i e.gots) (sym z) v w.1 w.3)

pub stale_moves : (r : Rules) (i : Inputs) (es fs : List Entry) (j : Key) → find fs j ≡ find es j → Stale r i es j → Stale r i fs j
stale_moves r i es fs j e (p, inl w) = (p, inl (e ∙ w))
stale_moves r i es fs j e (p, inr w) = (p, inr (w.0, w.1, e ∙ w.2, w.3, w.4))

-- from es to fs, and from the keys ws worked out to vs, with js worked out on the way, all of a rank below b
pub record Step (r : Rules) (i : Inputs) (b : ℕ) (es : List Entry) (ws : List Key) (fs : List Entry) (vs : List Key) (js : List Key) : Type 0 where
  pub fair : Fair r fs
  pub worked : vs ≡ ws ++ js
  pub once : NoTwice js
  pub others : (j : Key) → Among j js ⊎ (find fs j ≡ find es j)
  pub after : (j : Key) → Among j js → Settled r i fs j
  pub stays : (j : Key) → Settled r i es j → Settled r i fs j
  pub why : (j : Key) → Among j js → Stale r i es j
  pub low : (j : Key) → Among j js → r.rank j < b

pub step_none : (r : Rules) (i : Inputs) (b : ℕ) (es : List Entry) (ws : List Key) → Fair r es → Step r i b es ws es ws []
step_none r i b es ws h = record { fair = h; worked = sym (append-nil ws); once = blank; others = λ j. inr refl; after = λ j x. elim x [ ]; stays = λ j s. s; why = λ j x. elim x [ ]; low = λ j x. elim x [ ] }

pub step_wider : (r : Rules) (i : Inputs) (b c : ℕ) (es : List Entry) (ws : List Key) (fs : List Entry) (vs : List Key) (js : List Key) → b ≤ c → Step r i b es ws fs vs js → Step r i c es ws fs vs js
step_wider r i b c es ws fs vs js l s = record { fair = s.fair; worked = s.worked; once = s.once; others = s.others; after = s.after; stays = s.stays; why = s.why; low = λ j x. let h = s.low j x in omega arith }

module _ (r : Rules) (i : Inputs) (b : ℕ) (es : List Entry) (ws : List Key) (fs : List Entry) (vs : List Key) (js : List Key) (gs : List Entry) (us : List Key) (ls : List Key) (s : Step r i b es ws fs vs js) (t : Step r i b fs vs gs us ls) where
  apart : (j : Key) → Among j js → Among j ls → ⊥
  apart j x y = stale_not r i fs j (t.why j y) (s.after j x)

  why_later : (j : Key) → Among j ls → Stale r i es j
  why_later j y = elim (s.others j) [ inl x ↦ absurd (apart j x y) | inr x ↦ stale_moves r i fs es j (sym x) (t.why j y) ]

  others_both : (j : Key) → Among j (js ++ ls) ⊎ (find gs j ≡ find es j)
  others_both j = elim (s.others j) [ inl x ↦ inl (among_left j js ls x) | inr x ↦ elim (t.others j) [ inl y ↦ inl (among_right j js ls y) | inr y ↦ inr (y ∙ x) ] ]

  unmoved : (j : Key) → Among j js → find gs j ≡ find fs j
  unmoved j x = elim (t.others j) [ inl y ↦ absurd (apart j x y) | inr y ↦ y ]

  pub tally_join : tally gs (js ++ ls) ≡ tally fs js + tally gs ls
  tally_join = let a = tally_same fs gs js unmoved in let b = tally_more gs js ls in omega arith

  pub step_join : Step r i b es ws gs us (js ++ ls)
  step_join = record {
    fair = t.fair;
    worked = t.worked ∙ (ap (λ (x : List Key). x ++ ls) s.worked ∙ append_assoc ws js ls);
    once = no_twice_join js ls s.once t.once apart;
    others = others_both;
    after = λ j x. elim (among_cases j js ls x) [ inl y ↦ t.stays j (s.after j y) | inr y ↦ t.after j y ];
    stays = λ j x. t.stays j (s.stays j x);
    why = λ j x. elim (among_cases j js ls x) [ inl y ↦ s.why j y | inr y ↦ why_later j y ];
    low = λ j x. elim (among_cases j js ls x) [ inl y ↦ s.low j y | inr y ↦ t.low j y ];
  }

-- the entry of a key whose answers are right is stored
module _ (r : Rules) (i : Inputs) (fall : Falls r) (fs : List Entry) (vs : List Key) (e : Entry) (fair : Fair r fs) (asked : Asked (r.next e.key) [] e.gots e.ans) (right : Right r i e.gots) (all : AllSettled r i fs e.gots) (stale : Stale r i fs e.key) where
  pub stored_settled : Settled r i (store e fs) e.key
  stored_settled = stands stale.0 (find_here e fs) (λ g y. settled_lower r i fall e fs fair g.key (all g y) (asked_lower r i fall e.key [] e.gots e.ans asked g y)) right

  stored_fair : Fair r (store e fs)
  stored_fair j d x = go (key_cases e.key j)
    where
      go : (e.key ≡ j) ⊎ (e.key ≡ j → ⊥) → Asked (r.next j) [] d.gots d.ans
      go (inl p) =
          let q = find_here e fs in
          let z : e ≡ d = let y : find (store e fs) e.key ≡ some d = ap (find (store e fs)) p ∙ x in cc in
          subst (λ (k : Key). Asked (r.next k) [] d.gots d.ans) p (subst (λ (c : Entry). Asked (r.next e.key) [] c.gots c.ans) z asked)
      go (inr n) = fair j d (sym (find_apart e fs j n) ∙ x)

  pub stored : Step r i (suc (r.rank e.key)) fs vs (store e fs) (vs ++ (e.key ∷ [])) (e.key ∷ [])
  stored = record {
    fair = stored_fair;
    worked = refl;
    once = another (λ h. elim h [ ]) blank;
    others = λ j. elim (key_cases e.key j) [ inl p ↦ inl (subst (λ (k : Key). Among j (k ∷ [])) (sym p) here) | inr n ↦ inr (find_apart e fs j n) ];
    after = λ j x. subst (Settled r i (store e fs)) (sym (among_one j e.key x)) stored_settled;
    stays = settled_store r i fall e fs stored_settled;
    why = λ j x. subst (Stale r i fs) (sym (among_one j e.key x)) stale;
    low = λ j x. let z = ap r.rank (among_one j e.key x) in omega arith;
  }

  pub stored_told : tally (store e fs) (e.key ∷ []) ≡ suc (length e.gots)
  stored_told = let a = ap told_of (find_here e fs) in omega arith
