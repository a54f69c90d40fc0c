-- The table of files: a file replaced, a file more (replaced, pushed), and what that puts into the texts (put_there, put_last).
use Rattle.std.proofs.Common.{◌≡◌, ℕ, zero, suc, ◌+◌, ◌<◌, List, [], ◌∷◌, ◌++◌, map, length, get_or, set, sym, refl, ap, ◌∙◌, subst, arith, Ok, Err, Result}
use mathlib.Core.Option.{some, none}
use Rattle.std.proofs.lemmas.List.{get_or-set_same, get_or-set_other, length-set, map-set, map_push}
use Rattle.base.specs.Base.{pick}
use Rattle.semantics.specs.Answers.{puts_file}
use Rattle.semantics.specs.Names.{find_file}
use Rattle.store.specs.Files.{file_at, texts, FileOk, Fits, Appended, file_is, ReplaceSays, PushSays, PutSays}
use Rattle.interner.specs.Places.{entries, name_at, Placed}
use Rattle.interner.specs.declared.refused.NoRoom.{NoRoom}
use Rattle.interner.specs.Index.{bytes, Sound, Live, Grown, Pooled}
use Rattle.interner.specs.Interner.{Interned}
use Rattle.interner.specs.Numbers.{Numbered}
use Rattle.interner.specs.Lines.{bodies, joined, Every}
use Rattle.lexer.specs.Tokens.{lines}
use Rattle.interner.proofs.Joined.{joined_lines}
use Rattle.interner.proofs.Puts.{First, puts_set, puts_new, differs}
use Rattle.interner.proofs.Lists.{every_push, every_set, every_at}
use Rattle.interner.proofs.Places.{entries_set, entries_push, entry_is, entries_long, placed}
use Rattle.store.proofs.Records.{files_still, new_file, new_ok}

module _ (nb cap : ℕ) (t m : List ℕ) (q : Fits nb cap t m) where
  pub still : (m' : List ℕ) → Sound nb cap m' → length m' ≡ length m → Grown nb m m' → Pooled nb cap m m' → Fits nb cap t m' × (texts nb t m' ≡ texts nb t m)
  still m' s l g w = let x = files_still nb cap m m' q.sound l g w (entries t) q.all_ok in (record { sound = s; in_table = q.in_table; all_ok = x.1 }, x.0)

  pub replaced : (m' ns : List ℕ) (k f p : ℕ) → k < get_or t 0 0 → Live nb m f → Every (Live nb m) ns → Appended nb cap m f ns m' p → Fits nb cap (set t (1 + k) p) m' × (texts nb (set t (1 + k) p) m' ≡ set (texts nb t m) k (file_is nb m f ns))
  replaced m' ns k f p h lf ln a = let x = files_still nb cap m m' q.sound a.long a.grown a.pooled (entries t) q.all_ok in (record { sound = a.sound; in_table = omega (arith, length-set t (1 + k) p, get_or-set_other t (1 + k) 0 p 0 (omega arith), q.in_table); all_ok = subst (Every (FileOk nb cap m')) (sym (entries_set t k p)) (every_set (FileOk nb cap m') (entries t) k p x.1 (new_ok nb cap m m' ns f p q.sound a lf ln)) }, ap (map (file_at nb m')) (entries_set t k p) ∙ map-set (file_at nb m') (entries t) k p ∙ ap (λ z. set (map (file_at nb m') (entries t)) k z) (new_file nb cap m m' ns f p q.sound a lf ln) ∙ ap (λ z. set z k (file_is nb m f ns)) x.0)

  pub pushed : (m' ns : List ℕ) (f p : ℕ) → 1 + get_or t 0 0 < length t → Live nb m f → Every (Live nb m) ns → Appended nb cap m f ns m' p → Fits nb cap (set (set t (1 + get_or t 0 0) p) 0 (get_or t 0 0 + 1)) m' × (texts nb (set (set t (1 + get_or t 0 0) p) 0 (get_or t 0 0 + 1)) m' ≡ texts nb t m ++ (file_is nb m f ns ∷ []))
  pushed m' ns f p h lf ln a = let x = files_still nb cap m m' q.sound a.long a.grown a.pooled (entries t) q.all_ok in (record { sound = a.sound; in_table = omega (arith, length-set t (1 + get_or t 0 0) p, length-set (set t (1 + get_or t 0 0) p) 0 (get_or t 0 0 + 1), get_or-set_same (set t (1 + get_or t 0 0) p) 0 (get_or t 0 0 + 1) 0 (omega (arith, length-set t (1 + get_or t 0 0) p))); all_ok = subst (Every (FileOk nb cap m')) (sym (entries_push t p h)) (every_push (FileOk nb cap m') (entries t) p x.1 (new_ok nb cap m m' ns f p q.sound a lf ln)) }, ap (map (file_at nb m')) (entries_push t p h) ∙ map_push (file_at nb m') (entries t) p ∙ ap (λ z. map (file_at nb m') (entries t) ++ (z ∷ [])) (new_file nb cap m m' ns f p q.sound a lf ln) ∙ ap (λ z. z ++ (file_is nb m f ns ∷ [])) x.0)

  pub in_words : Placed t m
  in_words = placed t m (FileOk nb cap m) (λ p x. omega (arith, x.to_end, q.sound.pool_to)) q.in_table q.all_ok

  -- names are numbers
  module _ (f : ℕ) (name : List ℕ) (lf : Live nb m f) (is_name : bytes nb m f ≡ name) where
    pub other_name : (p : ℕ) → FileOk nb cap m p → (get_or m p 0 ≡ f → ⊥) → bytes nb m (get_or m p 0) ≡ name → ⊥
    other_name p k n e = n (q.sound.chained.apart (get_or m p 0) f k.name.0 k.name.1 lf.0 lf.1 (e ∙ sym is_name))

    pub first_in : (es : List ℕ) (k : ℕ) → Every (FileOk nb cap m) es → k < length es → get_or m (get_or es k 0) 0 ≡ f → ((j : ℕ) → j < k → get_or m (get_or es j 0) 0 ≡ f → ⊥) → First name (map (file_at nb m) es) k
    first_in [] k e h i d = let z : ⊥ = omega arith in elim z [ ]
    first_in (p ∷ ps) zero e h i d = ap (bytes nb m) i ∙ is_name
    first_in (p ∷ ps) (suc k) (x, e) h i d = (other_name p x (d 0 (omega arith)), first_in ps k e (omega arith) i (λ j l. d (suc j) (omega arith)))

    pub none_in : (es : List ℕ) → Every (FileOk nb cap m) es → ((j : ℕ) → j < length es → get_or m (get_or es j 0) 0 ≡ f → ⊥) → find_file (map (file_at nb m) es) name ≡ none
    none_in [] e d = refl
    none_in (p ∷ ps) (x, e) d = ap (λ b. pick b (some (file_at nb m p)) (find_file (map (file_at nb m) ps) name)) (differs (bytes nb m (get_or m p 0)) name (other_name p x (d 0 (omega arith)))) ∙ none_in ps e (λ j l. d (suc j) (omega arith))

    pub puts_there : (text : List ℕ) (k : ℕ) → (k < get_or t 0 0) × (name_at t m k ≡ f) × ((j : ℕ) → j < k → name_at t m j ≡ f → ⊥) → set (texts nb t m) k (record { name = name; text = text }) ≡ puts_file name text (texts nb t m)
    puts_there text k (h, i, d) = sym (puts_set name text (texts nb t m) k (first_in (entries t) k q.all_ok (omega (arith, entries_long t q.in_table)) (ap (λ p. get_or m p 0) (entry_is t k h) ∙ i) (λ j l e. d j l (ap (λ p. get_or m p 0) (sym (entry_is t j (omega arith))) ∙ e))))

    pub puts_last : (text : List ℕ) → ((j : ℕ) → j < get_or t 0 0 → name_at t m j ≡ f → ⊥) → texts nb t m ++ (record { name = name; text = text } ∷ []) ≡ puts_file name text (texts nb t m)
    puts_last text d = sym (puts_new name text (texts nb t m) (none_in (entries t) q.all_ok (λ j l e. let h : j < get_or t 0 0 = omega (arith, entries_long t q.in_table) in d j h (ap (λ p. get_or m p 0) (sym (entry_is t j h)) ∙ e))))

    pub file_named : (ns text : List ℕ) → map (bytes nb m) ns ≡ bodies (lines text) → file_is nb m f ns ≡ record { name = name; text = text }
    file_named ns text e = ap (λ x. record { name = x; text = joined (map (bytes nb m) ns) }) is_name ∙ ap (λ x. record { name = name; text = x }) (ap joined e ∙ joined_lines text)

pub file_ok : (nb cap : ℕ) (t m : List ℕ) (k : ℕ) → Fits nb cap t m → k < get_or t 0 0 → FileOk nb cap m (get_or t (1 + k) 0)
file_ok nb cap t m k q h = subst (FileOk nb cap m) (entry_is t k h) (every_at (FileOk nb cap m) (entries t) k (omega (arith, entries_long t q.in_table)) q.all_ok)

-- the name and the lines have numbers, and no file changed yet
pub record Ready (nb cap : ℕ) (t m name text m₂ ns : List ℕ) (f : ℕ) : Type 0 where
  pub filed : Fits nb cap t m₂
  pub as_before : texts nb t m₂ ≡ texts nb t m
  pub live : Live nb m₂ f
  pub named : bytes nb m₂ f ≡ name
  pub all_live : Every (Live nb m₂) ns
  pub lines_are : map (bytes nb m₂) ns ≡ bodies (lines text)

module _ (nb cap : ℕ) (t m name text m₁ m₂ : List ℕ) (f : ℕ) (q : Fits nb cap t m) (i : Interned nb cap m name m₁ f) where
  pub half : Fits nb cap t m₁ × (texts nb t m₁ ≡ texts nb t m)
  half = still nb cap t m q m₁ i.sound i.long i.grown i.pooled

  pub stopped : Sound nb cap m₂ × Grown nb m₁ m₂ × Pooled nb cap m₁ m₂ × (length m₂ ≡ length m₁) → Fits nb cap t m₂ × (texts nb t m₂ ≡ texts nb t m)
  stopped (s, g, w, l) = let x = still nb cap t m₁ half.0 m₂ s l g w in (x.0, x.1 ∙ half.1)

  pub ready : (ns : List ℕ) → Numbered nb cap m₁ text m₂ ns → Ready nb cap t m name text m₂ ns f
  ready ns n = let x = stopped (n.sound, n.grown, n.pooled, n.long) in let g = n.grown f i.live in record { filed = x.0; as_before = x.1; live = g.0; named = g.1 ∙ i.bytes_n; all_live = n.live; lines_are = n.lines_are }

module _ (nb cap : ℕ) (t m name text m₂ ns : List ℕ) (f : ℕ) (y : Ready nb cap t m name text m₂ ns f) (t' m' : List ℕ) where
  pub put_there : (k : ℕ) → (k < get_or t 0 0) × (name_at t m₂ k ≡ f) × ((j : ℕ) → j < k → name_at t m₂ j ≡ f → ⊥) → (r : Result (Unit {0}) NoRoom) → ReplaceSays nb t m₂ k f ns t' m' r → PutSays name text (texts nb t m) (texts nb t' m') r
  put_there k x (Ok u) h = h ∙ ap (λ z. set (texts nb t m₂) k z) (file_named nb cap t m₂ y.filed f name y.live y.named ns text y.lines_are) ∙ puts_there nb cap t m₂ y.filed f name y.live y.named text k x ∙ ap (puts_file name text) y.as_before
  put_there k x (Err e) h = h ∙ y.as_before

  pub put_last : ((j : ℕ) → j < get_or t 0 0 → name_at t m₂ j ≡ f → ⊥) → (r : Result (Unit {0}) NoRoom) → PushSays nb t m₂ f ns t' m' r → PutSays name text (texts nb t m) (texts nb t' m') r
  put_last x (Ok u) h = h ∙ ap (λ z. texts nb t m₂ ++ (z ∷ [])) (file_named nb cap t m₂ y.filed f name y.live y.named ns text y.lines_are) ∙ puts_last nb cap t m₂ y.filed f name y.live y.named text x ∙ ap (puts_file name text) y.as_before
  put_last x (Err e) h = h ∙ y.as_before
