-- The order of entries: a key's place is that of its oldest record, and what stands there is its newest. Repacking has to keep it.
use Rattle.std.proofs.Common.{◌≡◌, ℕ, ◌+◌, ◌≤◌, Bool, true, false, List, [], ◌∷◌, ◌++◌, sym, refl, ap, ◌∙◌, subst, arith}
use mathlib.Core.Option.{Option, some, none}
use Rattle.std.proofs.lemmas.List.{append-nil}
use Rattle.std.proofs.lemmas.Bool.{both_ways}
use Rattle.engine.specs.declared.key.Key.{Key}
use Rattle.base.specs.Base.{pick, opt, is_some}
use Rattle.engine.specs.Engine.{Entry, same_key, find, store}
use Rattle.memo.specs.Record.{entry_long, entries_long}
use Rattle.memo.specs.Log.{folded}
use Rattle.memo.specs.Says.{Apart}
use Rattle.engine.proofs.Basics.{key_true, key_refl}
use Rattle.memo.proofs.Folds.{find_store, find_folded}

same_sym : (j k : Key) (b : Bool) → same_key j k ≡ b → same_key k j ≡ b
same_sym j k true h = let e = key_true j k h in ap (λ x. same_key k x) e ∙ key_refl k
same_sym j k false h = go (same_key k j) refl
  where
    go : (b : Bool) → same_key k j ≡ b → same_key k j ≡ false
    go true p = let e = key_true k j p in absurd (both_ways _ h (ap (λ x. same_key j x) e ∙ key_refl j))
    go false p = p

pub apart_store : (e : Entry) (es : List Entry) → Apart es → Apart (store e es)
apart_store e [] h = (refl, tt)
apart_store e (f ∷ fs) h = go (apart_store e fs h.1) (same_key f.key e.key) refl
  where
    go : Apart (store e fs) → (b : Bool) → same_key f.key e.key ≡ b → Apart (store e (f ∷ fs))
    go r true p = subst (λ b. Apart (pick b (e ∷ fs) (f ∷ store e fs))) (sym p) (ap (find fs) (sym (key_true f.key e.key p)) ∙ h.0, h.1)
    go r false p =
        subst (λ b. Apart (pick b (e ∷ fs) (f ∷ store e fs))) (sym p)
        (find_store e fs f.key ∙ ap (λ b. pick b (some e) (find fs f.key)) (same_sym f.key e.key false p) ∙ h.0, r)

pub apart_folded : (es : List Entry) → Apart (folded es)
apart_folded [] = tt
apart_folded (e ∷ es) = apart_store e (folded es) (apart_folded es)

-- an entry put for those of its key
abbrev pub over : Entry → List Entry → List Entry
over e [] = []
over e (f ∷ fs) = pick (same_key f.key e.key) e f ∷ over e fs

over_miss : (e : Entry) (es : List Entry) → find es e.key ≡ none → over e es ≡ es
over_miss e [] h = refl
over_miss e (f ∷ fs) h = go (λ q. over_miss e fs q) (same_key f.key e.key) refl
  where
    go : (find fs e.key ≡ none → over e fs ≡ fs) → (b : Bool) → same_key f.key e.key ≡ b → over e (f ∷ fs) ≡ f ∷ fs
    go r true p = let q : some f ≡ none = ap (λ b. pick b (some f) (find fs e.key)) (sym p) ∙ h in let z : ◌≡◌ {A = ℕ} 0 1 = cc in absurd (omega arith)
    go r false p = let q = r (ap (λ b. pick b (some f) (find fs e.key)) (sym p) ∙ h) in (λ t. pick (p t) e f ∷ q t)

pub store_miss : (e : Entry) (es : List Entry) → find es e.key ≡ none → store e es ≡ es ++ (e ∷ [])
store_miss e [] h = refl
store_miss e (f ∷ fs) h = go (λ q. store_miss e fs q) (same_key f.key e.key) refl
  where
    go : (find fs e.key ≡ none → store e fs ≡ fs ++ (e ∷ [])) → (b : Bool) → same_key f.key e.key ≡ b → store e (f ∷ fs) ≡ f ∷ (fs ++ (e ∷ []))
    go r true p = let q : some f ≡ none = ap (λ b. pick b (some f) (find fs e.key)) (sym p) ∙ h in let z : ◌≡◌ {A = ℕ} 0 1 = cc in absurd (omega arith)
    go r false p = let q = r (ap (λ b. pick b (some f) (find fs e.key)) (sym p) ∙ h) in ap (λ b. pick b (e ∷ fs) (f ∷ store e fs)) p ∙ ap (λ x. f ∷ x) q

store_hit : (e : Entry) (es : List Entry) → Apart es → is_some (find es e.key) ≡ true → store e es ≡ over e es
store_hit e [] a h = absurd (both_ways _ refl h)
store_hit e (f ∷ fs) a h = go (λ q. store_hit e fs a.1 q) (same_key f.key e.key) refl
  where
    go : (is_some (find fs e.key) ≡ true → store e fs ≡ over e fs) → (b : Bool) → same_key f.key e.key ≡ b → store e (f ∷ fs) ≡ over e (f ∷ fs)
    go r true p =
        let m = over_miss e fs (ap (find fs) (sym (key_true f.key e.key p)) ∙ a.0) in
        ap (λ b. pick b (e ∷ fs) (f ∷ store e fs)) p ∙ (λ t. pick (sym p t) e f ∷ sym m t)
    go r false p =
        let q = r (ap (λ b. is_some (pick b (some f) (find fs e.key))) (sym p) ∙ h) in
        ap (λ b. pick b (e ∷ fs) (f ∷ store e fs)) p ∙ (λ t. pick (sym p t) e f ∷ q t)

-- the newest record of a record's key
abbrev pub newest : List Entry → Entry → Entry
newest all r = opt (find all r.key) r (λ e. e)

abbrev pub shown : List Entry → List Entry → Entry → List Entry
shown all rs r = pick (is_some (find rs r.key)) [] (newest all r ∷ [])

abbrev pub dump : List Entry → List Entry → List Entry
dump all [] = []
dump all (r ∷ rs) = dump all rs ++ shown all rs r

find_key : (es : List Entry) (k : Key) (e : Entry) → find es k ≡ some e → e.key ≡ k
find_key [] k e h = let z : ◌≡◌ {A = ℕ} 0 1 = cc in absurd (omega arith)
find_key (f ∷ fs) k e h = go (λ q. find_key fs k e q) (same_key f.key k) refl
  where
    go : (find fs k ≡ some e → e.key ≡ k) → (b : Bool) → same_key f.key k ≡ b → e.key ≡ k
    go r true p = let q : some f ≡ some e = ap (λ b. pick b (some f) (find fs k)) (sym p) ∙ h in let s : f ≡ e = cc in ap (λ x. x.key) (sym s) ∙ key_true f.key k p
    go r false p = r (ap (λ b. pick b (some f) (find fs k)) (sym p) ∙ h)

newest_key : (all : List Entry) (r : Entry) → (newest all r).key ≡ r.key
newest_key all r = go (find all r.key) refl
  where
    go : (o : Option Entry) → find all r.key ≡ o → (newest all r).key ≡ r.key
    go none p = ap (λ o. (opt o r (λ e. e)).key) p
    go (some e) p = ap (λ o. (opt o r (λ e. e)).key) p ∙ find_key all r.key e p

newest_more : (e : Entry) (all : List Entry) (r : Entry) → newest (e ∷ all) r ≡ pick (same_key (newest all r).key e.key) e (newest all r)
newest_more e all r = go (same_key e.key r.key) refl
  where
    go : (b : Bool) → same_key e.key r.key ≡ b → newest (e ∷ all) r ≡ pick (same_key (newest all r).key e.key) e (newest all r)
    go true p = ap (λ b. opt (pick b (some e) (find all r.key)) r (λ x. x)) p ∙ sym (ap (λ k. pick (same_key k e.key) e (newest all r)) (newest_key all r) ∙ ap (λ b. pick b e (newest all r)) (same_sym e.key r.key true p))
    go false p = ap (λ b. opt (pick b (some e) (find all r.key)) r (λ x. x)) p ∙ sym (ap (λ k. pick (same_key k e.key) e (newest all r)) (newest_key all r) ∙ ap (λ b. pick b e (newest all r)) (same_sym e.key r.key false p))

over-++ : (e : Entry) (xs ys : List Entry) → over e (xs ++ ys) ≡ over e xs ++ over e ys
over-++ e [] ys = refl
over-++ e (x ∷ xs) ys = ap (λ q. pick (same_key x.key e.key) e x ∷ q) (over-++ e xs ys)

dump_more : (e : Entry) (all rs : List Entry) → dump (e ∷ all) rs ≡ over e (dump all rs)
dump_more e all [] = refl
dump_more e all (r ∷ rs) = (λ t. dump_more e all rs t ++ go (is_some (find rs r.key)) t) ∙ sym (over-++ e (dump all rs) (shown all rs r))
  where
    go : (b : Bool) → pick b [] (newest (e ∷ all) r ∷ []) ≡ over e (pick b [] (newest all r ∷ []))
    go true = refl
    go false = ap (λ x. x ∷ []) (newest_more e all r)

pub dumped : (rs : List Entry) → dump rs rs ≡ folded rs
dumped [] = refl
dumped (e ∷ rs) = (λ t. dump_more e rs rs t ++ shown (e ∷ rs) rs e) ∙ ap (λ q. over e q ++ shown (e ∷ rs) rs e) (dumped rs) ∙ go (find rs e.key) refl
  where
    self : newest (e ∷ rs) e ≡ e
    self = ap (λ b. opt (pick b (some e) (find rs e.key)) e (λ x. x)) (key_refl e.key)

    go : (o : Option Entry) → find rs e.key ≡ o → over e (folded rs) ++ shown (e ∷ rs) rs e ≡ store e (folded rs)
    go none p =
        let m = find_folded rs e.key ∙ p in
        let x = self in
        ap (λ o. over e (folded rs) ++ pick (is_some o) [] (newest (e ∷ rs) e ∷ [])) p ∙ (λ t. over_miss e (folded rs) m t ++ (x t ∷ [])) ∙ sym (store_miss e (folded rs) m)
    go (some f) p =
        let m = find_folded rs e.key ∙ p in
        ap (λ o. over e (folded rs) ++ pick (is_some o) [] (newest (e ∷ rs) e ∷ [])) p ∙ append-nil (over e (folded rs)) ∙ sym (store_hit e (folded rs) (apart_folded rs) (ap is_some m))

-- stored one after the other, entries with no key twice come to themselves
pub apart_next : (xs : List Entry) (e : Entry) (ys : List Entry) → Apart (xs ++ (e ∷ ys)) → find xs e.key ≡ none
apart_next [] e ys h = refl
apart_next (x ∷ xs) e ys h = go (same_key x.key e.key) refl (apart_next xs e ys h.1)
  where
    seen : (zs : List Entry) (k : Key) → same_key e.key k ≡ true → find (zs ++ (e ∷ ys)) k ≡ none → ⊥
    seen [] k p q = let r : some e ≡ none = ap (λ b. pick b (some e) (find ys k)) (sym p) ∙ q in let z : ◌≡◌ {A = ℕ} 0 1 = cc in omega arith
    seen (z ∷ zs) k p q = later (λ r. seen zs k p r) (same_key z.key k) refl
      where
        later : (find (zs ++ (e ∷ ys)) k ≡ none → ⊥) → (b : Bool) → same_key z.key k ≡ b → ⊥
        later r true s = let v : some z ≡ none = ap (λ b. pick b (some z) (find (zs ++ (e ∷ ys)) k)) (sym s) ∙ q in let w : ◌≡◌ {A = ℕ} 0 1 = cc in omega arith
        later r false s = r (ap (λ b. pick b (some z) (find (zs ++ (e ∷ ys)) k)) (sym s) ∙ q)

    go : (b : Bool) → same_key x.key e.key ≡ b → find xs e.key ≡ none → find (x ∷ xs) e.key ≡ none
    go true p r = absurd (seen xs x.key (same_sym x.key e.key true p) h.0)
    go false p r = ap (λ b. pick b (some x) (find xs e.key)) p ∙ r

-- what is kept takes no more words than the records
pub store_long : (e : Entry) (es : List Entry) → entries_long (store e es) ≤ entry_long e + entries_long es
store_long e [] = omega arith
store_long e (f ∷ fs) = go (store_long e fs) (same_key f.key e.key) refl
  where
    go : entries_long (store e fs) ≤ entry_long e + entries_long fs → (b : Bool) → same_key f.key e.key ≡ b → entries_long (store e (f ∷ fs)) ≤ entry_long e + entries_long (f ∷ fs)
    go r true p = subst (λ b. entries_long (pick b (e ∷ fs) (f ∷ store e fs)) ≤ entry_long e + entries_long (f ∷ fs)) (sym p) (omega arith)
    go r false p = subst (λ b. entries_long (pick b (e ∷ fs) (f ∷ store e fs)) ≤ entry_long e + entries_long (f ∷ fs)) (sym p) (omega arith)

pub folded_long : (es : List Entry) → entries_long (folded es) ≤ entries_long es
folded_long [] = omega arith
folded_long (e ∷ es) = let a = folded_long es in let b = store_long e (folded es) in omega arith
