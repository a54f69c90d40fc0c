-- What cards say of slots, and where names stand among them.
use Rattle.std.proofs.Common.{◌≡◌, ℕ, zero, suc, ◌+◌, Bool, true, false, cond, List, [], ◌∷◌, map, drop, Some, None, Option as Maybe, sym, refl, ap, ◌∙◌, subst, rules}
use mathlib.Core.Option.{Option, some, none}
use Rattle.std.specs.List.{slice_get, find, position_from}
use Rattle.std.proofs.lemmas.Slice.Eq.{compares_Decides}
use Rattle.base.specs.Base.{pick, Word, same}
use Rattle.semantics.specs.Names.{Slot}
use Rattle.semantics.specs.Check.{field_of}
use Rattle.semantics.specs.Walk.{first_slot}
use Rattle.checker.specs.Rows.{Declared, slot_type}
use Rattle.checker.specs.Types.{typed, SomeSmall}
use Rattle.world.specs.declared.cards.Card.{Card}
use Rattle.world.specs.declared.cards.Slot.{Slot as Cell}
use Rattle.world.specs.World.{small_world, cell_is, CellsSmall, CardSays, first_called}

pub same_true : (a b : Word) → same a b ≡ true → a ≡ b
same_true a b e = (compares_Decides same (search rules) a b).0 e

same_yes : (a b : Word) → a ≡ b → same a b ≡ true
same_yes a b e = (compares_Decides same (search rules) a b).1 e

same_sym : (a b : Word) → same a b ≡ same b a
same_sym a b = go (same a b) (same b a) refl refl
  where
    go : (p q : Bool) → same a b ≡ p → same b a ≡ q → p ≡ q
    go true q e f = sym (same_yes b a (sym (same_true a b e))) ∙ f
    go false true e f = sym e ∙ same_yes a b (sym (same_true b a f))
    go false false e f = refl

pub called_from : (w : Word) (n : ℕ) (cs : List Card) → position_from (λ c. same w c.name.now) n cs ≡ first_called w n cs
called_from w n [] = refl
called_from w n (c ∷ cs) = chosen (same w c.name.now) _ _ (called_from w (n + 1) cs)
  where
    chosen : (b : Bool) (x y : Maybe ℕ) → x ≡ y → cond b (Some n) x ≡ pick b (Some n) y
    chosen true x y e = refl
    chosen false x y e = e

-- the slot with an index
pub past : (ss : List Cell) (i : ℕ) → slice_get ss i ≡ None → first_slot (drop i (map cell_is ss)) ≡ none
past [] zero e = refl
past [] (suc i) e = refl
past (s ∷ ss) zero e = absurd cc
past (s ∷ ss) (suc i) e = past ss i e

pub within : (ss : List Cell) (i : ℕ) (s : Cell) → CellsSmall ss → slice_get ss i ≡ Some s → SomeSmall s.ty × (typed small_world s.ty ≡ first_slot (drop i (map cell_is ss)))
within [] i s h e = absurd cc
within (t ∷ ss) zero s h e = (subst (λ x. SomeSmall x.ty) k h.0, ap (λ x. typed small_world x.ty) (sym k))
  where
    k : t ≡ s
    k = cc
within (t ∷ ss) (suc i) s h e = within ss i s h.1 e

-- the first slot of a name
abbrev pub Says : Maybe Cell → Option Slot → Type 0
Says None o = o ≡ none
Says (Some s) o = (slot_type o ≡ some (typed small_world s.ty)) × SomeSmall s.ty

chosen : (b : Bool) (s : Cell) (m : Maybe Cell) (o : Option Slot) → SomeSmall s.ty → Says m o → Says (cond b (Some s) m) (pick b (some (cell_is s)) o)
chosen true s m o k h = (refl, k)
chosen false s m o k h = h

field_says : (ss : List Cell) (w : Word) → CellsSmall ss → Says (find (λ s. same w s.name.now) ss) (field_of (map cell_is ss) w)
field_says [] w h = refl
field_says (s ∷ ss) w h =
    let rest = find (λ s. same w s.name.now) ss in
    subst (λ b. Says (cond (same w s.name.now) (Some s) rest) (pick b (some (cell_is s)) (field_of (map cell_is ss) w))) (same_sym w s.name.now) (chosen (same w s.name.now) s rest (field_of (map cell_is ss) w) h.0 (field_says ss w h.1))

pub found_says : (c : Card) (d : Declared) → CardSays c d → (w : Word) (m : Maybe Cell) → m ≡ find (λ s. same w s.name.now) c.slots.now → Says m (field_of d.slots w)
found_says c d says w m e = subst (λ x. Says x (field_of d.slots w)) (sym e) (subst (λ ss. Says (find (λ s. same w s.name.now) c.slots.now) (field_of ss w)) says.slots (field_says c.slots.now w says.cells_small))
