-- A line fetched and diagnosed: ws is the row lent, us the row with the line in its slot, vs the row with what is said of it.
use Rattle.std.proofs.Common.{◌≡◌, ℕ, ◌-◌, ◌≤◌, List, length, take, drop, Some, None, Ok, Err, Result, sym, refl, ap, ◌∙◌, subst, inl, inr, arith}
use Rattle.std.specs.Result.{result_ok}
use Rattle.std.proofs.lemmas.Slice.{between_is}
use Rattle.semantics.specs.Names.{Texts}
use Rattle.checker.specs.Rows.{Book}
use Rattle.checker.specs.declared.check.Stop.{Stop}
use Rattle.checker.specs.declared.check.Stop.TheVariants.{Needs, NoRoom}
use Rattle.diagnostics.specs.declared.Findings.{Findings}
use Rattle.diagnostics.proofs.Joins.{shorter}
use Rattle.diagnostics.specs.Diagnose.{DiagnoseSays, Diagnosed, Lacking, Tight}
use Rattle.source.specs.declared.Extent.{Extent}
use Rattle.symbols.specs.declared.layout.Layout.{Layout}
use Rattle.symbols.specs.Rows.{FetchSays}
use Rattle.answers.specs.Says.{InspectSays}

-- what is behind the slot stays, also up to a place
pub kept_up_to : (slot base : ℕ) (us ws : List ℕ) → drop slot us ≡ drop slot ws → drop slot (take base us) ≡ drop slot (take base ws)
kept_up_to slot base us ws e = sym (between_is us slot base) ∙ ap (take (base - slot)) e ∙ between_is ws slot base

-- what ok() says of a result
pub ok_of : {A E : Type 0} (r : Result A E) (x : A) → Some x ≡ result_ok r → r ≡ Ok x
ok_of (Ok y) x e = let h : y ≡ x = cc in ap (λ z. Ok z) h
ok_of (Err y) x e = let z : ◌≡◌ {A = ℕ} 0 1 = cc in absurd (omega arith)

pub err_of : {A E : Type 0} (r : Result A E) → None ≡ result_ok r → (e : E) × (r ≡ Err e)
err_of (Ok x) e = let z : ◌≡◌ {A = ℕ} 0 1 = cc in absurd (omega arith)
err_of (Err e) h = (e, refl)

module _ (g : List ℕ → Book) (p : Texts) (k i base : ℕ) (l : Layout) (m ws us vs : List ℕ) (e : Extent) (behind : drop l.texts us ≡ drop l.texts ws) (line : FetchSays l p k i m us (Some e)) (front : take base vs ≡ take base us) where
  abbrev slot : ℕ
  slot = l.texts

  abbrev n : ℕ
  n = e.len

  pub all_kept : drop slot (take base vs) ≡ drop slot (take base ws)
  all_kept = ap (drop slot) front ∙ kept_up_to slot base us ws behind

  pub inspected : (f : Findings) → DiagnoseSays g us n base vs (Ok f) → InspectSays g p k i slot base ws vs (Some (record { len = n; findings = f }))
  inspected f d =
      let x = line.3 in
      let before : n ≤ base = omega (arith, d.before, ap length x.in_slot, x.long) in
      let D : List ℕ → Type 0 = λ b. Diagnosed (g (take base us)) b base f vs in
      (line.0, line.1, line.2, record { long = x.long; stands = shorter n base vs us before front ∙ x.in_slot; front = take base us; same = kept_up_to slot base us ws behind; says = subst D x.in_slot d })

  pub hindered : (s : Stop) → length us ≡ length ws → DiagnoseSays g us n base vs (Err s) → InspectSays g p k i slot base ws vs None
  hindered (Needs w) h d =
      let L : List ℕ → Type 0 = λ b. Lacking (g (take base us)) b w in
      inr (line.0, line.1, line.2, inr (inr (take base us, w, kept_up_to slot base us ws behind, subst L line.3.in_slot d)))
  hindered NoRoom h d =
      let T : ℕ → Type 0 = λ m. Tight n base m in
      let S : ℕ → Type 0 = λ m. Tight m base (length ws) in
      inr (line.0, line.1, line.2, inr (inl (subst S line.3.long (subst T h d))))
