-- An entry looked at: its next question is brought, or its answer stands.
use Rattle.std.proofs.Common.{◌≡◌, ℕ, ◌+◌, ◌≤◌, List, [], ◌∷◌, length, take, drop, sym, ap, ◌∙◌, subst, arith}
use Rattle.std.proofs.lemmas.List.{drop_all}
use Rattle.engine.specs.declared.key.Key.{Key}
use Rattle.engine.specs.Engine.{Ans, Got, Entry, Kept}
use Rattle.engine.specs.Machine.{Frame, look}
use Rattle.memo.specs.Record.{deep}
use Rattle.memo.specs.Log.{kept_entries, entry_at}
use Rattle.memo.specs.Says.{Looks, GotSays}
use Rattle.driver.specs.declared.state.Now.TheVariants.{Call, Back}
use Rattle.driver.specs.Rows.{look_words, Stack}
use Rattle.driver.specs.Doing.{Doing}

-- the next question is brought
pub look_next : (ms ns w v : List ℕ) (r f d i q : ℕ) (k key : Key) (a : Ans) (next : ℕ) → ns ≡ ms → Looks ms d i q → GotSays ms d i key a next → deep (f + 7) v ≡ look_words k d i q (deep f w) → take r v ≡ take r w
    → (m : Kept) (e : Entry) (gs : List Got) (st : List Frame) → entry_at ms d ≡ e → drop i e.gots ≡ gs → m.entries ≡ kept_entries ms → Stack ms (take r w) (deep f w) st → Doing ns v r (f + 7) (Call key) (look m k e gs st)
look_next ms ns w v r f d i q k key a next en lk g fs rows m e [] st ee eg em s =
    let x : record { key = key; ans = a } ∷ drop (i + 1) (entry_at ms d).gots ≡ [] = sym g.is ∙ ap (λ (y : Entry). drop i y.gots) ee ∙ eg in
    let z : ◌≡◌ {A = ℕ} 0 1 = cc in absurd (omega arith)
look_next ms ns w v r f d i q k key a next en lk g fs rows m e (h ∷ gs) st ee eg em s =
    let x : record { key = key; ans = a } ∷ drop (i + 1) (entry_at ms d).gots ≡ h ∷ gs = sym g.is ∙ ap (λ (y : Entry). drop i y.gots) ee ∙ eg in
    let y : record { key = key; ans = a } ≡ h = cc in
    subst (λ ns. Doing ns v r (f + 7) (Call key) (look m k e (h ∷ gs) st)) (sym en) (
      ap (λ (z : Got). z.key) y,
      em,
      (deep f w, record { d = d; i = i; q = q; words = fs; looks1 = lk; entry = ee; rest = eg }, subst (λ l. Stack ms l (deep f w) st) (sym rows) s),
    )

-- all was as it was, and the answer of the entry stands
pub look_end : (ms ns w v : List ℕ) (r f d i n : ℕ) (k : Key) → ns ≡ ms → length (entry_at ms d).gots ≤ i → n ≡ length (entry_at ms d).ans → take n (drop (r + 1) v) ≡ (entry_at ms d).ans → r + 1 + n + f ≤ length v → take r v ≡ take r w → deep f v ≡ deep f w
    → (m : Kept) (e : Entry) (gs : List Got) (st : List Frame) → entry_at ms d ≡ e → drop i e.gots ≡ gs → m.entries ≡ kept_entries ms → Stack ms (take r w) (deep f w) st → Doing ns v r f (Back n) (look m k e gs st)
look_end ms ns w v r f d i n k en li ln an room rows fs m e [] st ee eg em s =
    subst (λ ns. Doing ns v r f (Back n) (look m k e [] st)) (sym en) (
      ln ∙ ap (λ (y : Entry). length y.ans) ee,
      an ∙ ap (λ (y : Entry). y.ans) ee,
      room,
      em,
      subst (λ l. Stack ms (take r v) l st) (sym fs) (subst (λ l. Stack ms l (deep f w) st) (sym rows) s),
    )
look_end ms ns w v r f d i n k en li ln an room rows fs m e (h ∷ gs) st ee eg em s =
    let none : drop i (entry_at ms d).gots ≡ [] = drop_all i (entry_at ms d).gots li in
    let x : [] ≡ h ∷ gs = sym none ∙ ap (λ (y : Entry). drop i y.gots) ee ∙ eg in
    let z : ◌≡◌ {A = ℕ} 0 1 = cc in absurd (omega arith)
