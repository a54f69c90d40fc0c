-- The chain of a bucket, from any record on: where it begins (head_chained, older_chained), what stands at its depths, and what it leads to.
use Rattle.std.proofs.Common.{◌≡◌, ℕ, suc, ◌+◌, ◌<◌, List, length, get_or, sym, refl, ap, ◌∙◌, subst, inl, inr, arith}
use mathlib.Core.Option.{some, none}
use Rattle.std.specs.Prelude.{MatchOption, Some, None, Bool, true, false, not, is_some as is_some1, Option as Perhaps}
use Rattle.std.specs.Option.{unwrap_or}
use Rattle.std.proofs.lemmas.Bool.{both_ways}
use Rattle.base.specs.Base.{is_some, opt}
use Rattle.engine.specs.declared.key.Key.{Key}
use Rattle.engine.specs.Engine.{find}
use Rattle.engine.proofs.Basics.{key_yes}
use Rattle.memo.specs.Record.{key_of, older, records, deep}
use Rattle.memo.specs.Log.{entry_at, kept_entries, bucket, log, Fits, Record, Reaches, here, back}
use Rattle.memo.specs.declared.record.Record.{Record as Place}
use Rattle.memo.specs.Chain.{There, Found, Chained, AlongSays}
use Rattle.memo.specs.Says.{NewestSays}
use Rattle.memo.proofs.Folds.{find_folded}
use Rattle.memo.proofs.Chains.{reach_logged, reach_on, head_finds, next_finds, prev_low, bucket_lt}
use Rattle.memo.proofs.Places.{in_row, is_deep, head_at, first_some, stands, Stands}

-- from a bucket's head on
pub head_chained : (ws : List ℕ) (k : Key) → Fits ws → Chained ws (get_or ws 1 0) (log ws) k (get_or ws (3 + bucket k (get_or ws 2 0)) 0)
head_chained ws k f =
    let b = get_or ws 2 0 in
    record {
      reached = here;
      found = subst (Found b (get_or ws 1 0) (log ws) k) (sym (head_at ws (bucket k b) f (bucket_lt k b f.buckets))) (head_finds b (get_or ws 1 0) (log ws) k f.buckets);
    }

-- from a record's next older one on
pub older_chained : (ws : List ℕ) → Fits ws → (d : ℕ) (x : Record ws d) → Chained ws x.count (older (deep d ws)) (key_of (deep d ws)) (get_or (deep d ws) 3 0)
older_chained ws f d x =
    let b = get_or ws 2 0 in
    let k = key_of (deep d ws) in
    let l = older (deep d ws) in
    let one = (reach_logged b f.logged x.reached).0 in
    record {
      reached = reach_on x.reached (back here);
      found = subst (Found b x.count l k) (sym one.prev) (head_finds b x.count l k f.buckets);
    }

module _ (ws : List ℕ) (f : Fits ws) (m : ℕ) (l : List ℕ) (k : Key) where
  abbrev b : ℕ
  b = get_or ws 2 0

  module _ (e : ℕ) (c : Chained ws m l k e) (h : e ≡ 0 → ⊥) where
    there : There b m l k e
    there = go c.found
      where
        go : Found b m l k e → There b m l k e
        go (inl y) = absurd (h y.0)
        go (inr y) = y

    abbrev t : There b m l k e
    t = there

    whole : Reaches (get_or ws 1 0) (log ws) (suc t.m) t.l
    whole = reach_on c.reached t.reached

    t_deep : t.l ≡ deep e ws
    t_deep = is_deep ws t.l e (in_row ws f whole) t.long

    pub along_record : Record ws e
    along_record = record { count = t.m; reached = subst (Reaches (get_or ws 1 0) (log ws) (suc t.m)) t_deep whole; long = ap length (sym t_deep) ∙ t.long }

    pub along_stands : Stands ws e
    along_stands = stands ws e f along_record

    pub along_falls : get_or (deep e ws) 3 0 < e
    along_falls =
        let p = prev_low b t.m t.l f.buckets (reach_logged b f.logged whole) in
        let q = t.long in
        subst (λ l. get_or l 3 0 < e) t_deep (omega arith)

    pub along_next : (key_of (deep e ws) ≡ k → ⊥) → Chained ws m l k (get_or (deep e ws) 3 0)
    along_next ne =
        record {
          reached = c.reached;
          found = subst (λ q. Found b m l k (get_or q 3 0)) t_deep (next_finds b m l k e f.buckets (reach_logged b f.logged c.reached) t (λ q. ne (ap key_of (sym t_deep) ∙ q)));
        }

    pub along_some : key_of (deep e ws) ≡ k → find (records m l) k ≡ some (entry_at ws e)
    unfolding entry_at
    along_some p = t.same1 ∙ ap (λ q. find (records (suc t.m) q) k) t_deep ∙ first_some t.m (deep e ws) k (key_yes _ _ p)

  pub along_none : Chained ws m l k 0 → find (records m l) k ≡ none
  along_none c = go c.found
    where
      go : Found b m l k 0 → find (records m l) k ≡ none
      go (inl y) = y.1
      go (inr y) = let i = (reach_logged b (reach_logged b f.logged c.reached) y.reached).0.inside in let e = y.long in absurd (omega arith)

-- the search of a key from its bucket's head, among all records
pub along_find : (ws : List ℕ) (k : Key) (r : Perhaps Place) → AlongSays ws (get_or ws 1 0) (log ws) k r
    → MatchOption r (find (kept_entries ws) k ≡ none) (λ p. Record ws p.depth × (find (kept_entries ws) k ≡ some (entry_at ws p.depth)))
unfolding kept_entries
along_find ws k None s = find_folded (records (get_or ws 1 0) (log ws)) k ∙ s
along_find ws k (Some p) s = (s.0, find_folded (records (get_or ws 1 0) (log ws)) k ∙ s.1)

-- whether there is any
pub along_is_none : (ws : List ℕ) (m : ℕ) (l : List ℕ) (k : Key) (r : Perhaps Place) (b : Bool) → AlongSays ws m l k r → is_some1 r ≡ not b → b ≡ not (is_some (find (records m l) k))
along_is_none ws m l k None true s e = sym (ap (λ o. not (is_some o)) s)
along_is_none ws m l k (Some p) false s e = sym (ap (λ o. not (is_some o)) s.1)
along_is_none ws m l k None false s e = absurd (both_ways _ refl e)
along_is_none ws m l k (Some p) true s e = absurd (both_ways _ e refl)

-- the record that is found of the key of another, or that one
pub along_newest : (ws : List ℕ) (k : Key) (own : Place) (r : Perhaps Place) → Record ws own.depth → k ≡ (entry_at ws own.depth).key
    → MatchOption r (find (kept_entries ws) k ≡ none) (λ p. Record ws p.depth × (find (kept_entries ws) k ≡ some (entry_at ws p.depth))) → NewestSays ws own.depth (unwrap_or r own).depth
along_newest ws k own None x e s = record { stands = x; is = sym (ap (λ o. opt o (entry_at ws own.depth) (λ x. x)) (ap (find (kept_entries ws)) (sym e) ∙ s)) }
along_newest ws k own (Some p) x e s = record { stands = s.0; is = sym (ap (λ o. opt o (entry_at ws own.depth) (λ x. x)) (ap (find (kept_entries ws)) (sym e) ∙ s.1)) }
