-- Fields of a declaration one by one, and a word that is the same as itself.
use Rattle.std.proofs.Common.{◌≡◌, ℕ, zero, suc, ◌+◌, ◌-◌, ◌*◌, ◌<◌, ◌≤◌, Some, None, Option as Perhaps, MatchOption, Bool, true, false, List, [], ◌∷◌, length, drop, sym, refl, ap, ◌∙◌, arith}
use mathlib.Core.Option.{some, none}
use Rattle.std.proofs.lemmas.Bool.{and_from, eq-eqb}
use Rattle.base.specs.Base.{pick, Word, same}
use Rattle.semantics.specs.Names.{same_ty}
use Rattle.semantics.specs.Check.{field_of}
use Rattle.semantics.specs.Walk.{first_slot}
use Rattle.checker.specs.declared.lookup.«Type».{«Type» as Typ}
use Rattle.checker.specs.Rows.{ty_of, slot_type}
use Rattle.symbols.specs.Table.{tok_at, fields_at}
use Rattle.resolver.specs.Resolve.{origin, type_is, type_named, slot_of, slots_of}

same_refl : (w : Word) → same w w ≡ true
same_refl [] = refl
same_refl (x ∷ xs) = and_from _ _ (eq-eqb x x refl) (same_refl xs)

pub same_handle : (ws : List ℕ) (x a b : ℕ) → a ≡ b → true ≡ same_ty (ty_of (origin ws x a)) (ty_of (origin ws x b))
same_handle ws x a b e = sym (ap (λ c. same_ty (ty_of (origin ws x a)) (ty_of (origin ws x c))) (sym e) ∙ and_from _ _ (same_refl (origin ws x a).file) (same_refl (origin ws x a).name))

-- a type by the word that names it, in a file that is the k-th
pub named_is : (ws : List ℕ) (x a k : ℕ) (v w : Word) (t : Perhaps Typ) → t ≡ type_named ws x a v → a ≡ k → v ≡ w → type_is ws x t ≡ type_is ws x (type_named ws x k w)
named_is ws x a k v w t p q r = ap (type_is ws x) (p ∙ (λ i. type_named ws x (q i) (r i)))

-- of the declaration's line that begins at l, in the k-th file
module _ (ws : List ℕ) (x k l : ℕ) where
  pub slots_long : (n i : ℕ) → length (slots_of ws x k (fields_at ws l n i)) ≡ n
  slots_long zero i = refl
  slots_long (suc n) i = ap suc (slots_long n (i + 4))

  pub slot_there : (n i j : ℕ) → j < n → first_slot (drop j (slots_of ws x k (fields_at ws l n i))) ≡ type_is ws x (type_named ws x k (tok_at ws l (i + 4 * j + 2)).w)
  slot_there zero i j h = absurd (omega arith)
  slot_there (suc n) i zero h = let e : i ≡ i + 4 * 0 = omega arith in ap (λ m. type_is ws x (type_named ws x k (tok_at ws l (m + 2)).w)) e
  slot_there (suc n) i (suc j) h = let e : (i + 4) + 4 * j ≡ i + 4 * suc j = omega arith in slot_there n (i + 4) j (omega arith) ∙ ap (λ m. type_is ws x (type_named ws x k (tok_at ws l (m + 2)).w)) e

  pub slot_past : (n i j : ℕ) → n ≤ j → first_slot (drop j (slots_of ws x k (fields_at ws l n i))) ≡ none
  slot_past zero i zero h = refl
  slot_past zero i (suc j) h = refl
  slot_past (suc n) i zero h = absurd (omega arith)
  slot_past (suc n) i (suc j) h = slot_past n (i + 4) j (omega arith)

  -- one field more
  module _ (w : Word) (n m i : ℕ) (q : n ≡ suc m) where
    more : (b : Bool) → same (tok_at ws l i).w w ≡ b → field_of (slots_of ws x k (fields_at ws l n i)) w ≡ pick b (some (slot_of ws x k (record { name = tok_at ws l i; ty = tok_at ws l (i + 2) }))) (field_of (slots_of ws x k (fields_at ws l m (i + 4))) w)
    more b e = ap (λ n. field_of (slots_of ws x k (fields_at ws l n i)) w) q ∙ ap (λ c. pick c (some (slot_of ws x k (record { name = tok_at ws l i; ty = tok_at ws l (i + 2) }))) (field_of (slots_of ws x k (fields_at ws l m (i + 4))) w)) e

    pub field_hit : same (tok_at ws l i).w w ≡ true → slot_type (field_of (slots_of ws x k (fields_at ws l n i)) w) ≡ some (type_is ws x (type_named ws x k (tok_at ws l (i + 2)).w))
    field_hit e = ap slot_type (more true e)

    pub field_miss : same (tok_at ws l i).w w ≡ false → field_of (slots_of ws x k (fields_at ws l n i)) w ≡ field_of (slots_of ws x k (fields_at ws l m (i + 4))) w
    field_miss e = more false e

  -- fields that haven't the name
  pub fields_skip : (w : Word) (n i j : ℕ) → j ≤ n → ((m : ℕ) → m < j → same (tok_at ws l (i + 4 * m)).w w ≡ false) → field_of (slots_of ws x k (fields_at ws l n i)) w ≡ field_of (slots_of ws x k (fields_at ws l (n - j) (i + 4 * j))) w
  fields_skip w n i zero h f = let a : n ≡ n - 0 = omega arith in let b : i ≡ i + 4 * 0 = omega arith in λ o. field_of (slots_of ws x k (fields_at ws l (a o) (b o))) w
  fields_skip w zero i (suc j) h f = absurd (omega arith)
  fields_skip w (suc n) i (suc j) h f =
      let z : i + 4 * 0 ≡ i = omega arith in
      let a : n - j ≡ suc n - suc j = omega arith in
      let b : i + 4 + 4 * j ≡ i + 4 * suc j = omega arith in
      field_miss w (suc n) n i refl (ap (λ o. same (tok_at ws l o).w w) (sym z) ∙ f 0 (omega arith)) ∙ fields_skip w n (i + 4) j (omega arith) (λ m q. let e : i + 4 + 4 * m ≡ i + 4 * suc m = omega arith in ap (λ o. same (tok_at ws l o).w w) e ∙ f (suc m) (omega arith)) ∙ (λ o. field_of (slots_of ws x k (fields_at ws l (a o) (b o))) w)

  -- what is found among the fields: none of the name, or the first
  abbrev pub FirstField : Word → ℕ → ℕ → Perhaps ℕ → Type 0
  FirstField w n i r = MatchOption r ((m : ℕ) → 0 ≤ m → m < n → same (tok_at ws l (i + 4 * m)).w w ≡ false) (λ j. (0 ≤ j) × (j < n) × (same (tok_at ws l (i + 4 * j)).w w ≡ true) × ((m : ℕ) → 0 ≤ m → m < j → same (tok_at ws l (i + 4 * m)).w w ≡ false))

  pub field_none : (w : Word) (n i : ℕ) → FirstField w n i None → field_of (slots_of ws x k (fields_at ws l n i)) w ≡ none
  field_none w n i h = let e : n - n ≡ 0 = omega arith in fields_skip w n i n (omega arith) (λ m q. h m (omega arith) q) ∙ ap (λ m. field_of (slots_of ws x k (fields_at ws l m (i + 4 * n))) w) e

  pub field_some : (w : Word) (n i j : ℕ) → FirstField w n i (Some j) → slot_type (field_of (slots_of ws x k (fields_at ws l n i)) w) ≡ some (type_is ws x (type_named ws x k (tok_at ws l (i + 4 * j + 2)).w))
  field_some w n i j h = ap slot_type (fields_skip w n i j (omega (arith, h.1)) (λ m q. h.3 m (omega arith) q)) ∙ field_hit w (n - j) (n - (j + 1)) (i + 4 * j) (omega (arith, h.1)) h.2
