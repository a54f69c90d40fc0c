-- The lines of a text, one after the other, get numbers (begins, steps, ends), if there is room (enough).
use Rattle.std.proofs.Common.{◌≡◌, ℕ, ◌+◌, ◌<◌, ◌≤◌, Bool, List, [], ◌∷◌, ◌++◌, ◌⊎◌, inl, inr, map, length, take, set, sym, refl, ap, ◌∙◌, subst, append_assoc, append-nil, arith, le-ltb, lt-ltb}
use Rattle.std.specs.List.{between}
use Rattle.std.proofs.lemmas.List.{take_more_set, map_push, length-set}
use Rattle.base.specs.Base.{pick}
use Rattle.interner.specs.Index.{count, end, bytes, Sound, Live, Grown, Pooled}
use Rattle.interner.specs.Interner.{Interned}
use Rattle.interner.specs.Numbers.{Numbered, Roomy}
use Rattle.interner.specs.Lines.{bodies, Every}
use Rattle.lexer.specs.Tokens.{lines}
use Rattle.lexer.specs.Lines.{lines_from, lines_behind, LineEnds}
use Rattle.interner.proofs.Joined.{map_same}
use Rattle.interner.proofs.Parts.{part_long}
use Rattle.interner.proofs.Lists.{every_push, every_still, grown_on, pooled_on}

-- m₀ at the start; m and out now: lines before `from` have their numbers
pub record Going (nb cap : ℕ) (m₀ text m out : List ℕ) (from k : ℕ) : Type 0 where
  pub sound : Sound nb cap m
  pub grown : Grown nb m₀ m
  pub pooled : Pooled nb cap m₀ m
  pub long : length m ≡ length m₀
  pub in_text : from ≤ length text
  pub in_out : k ≤ length out
  pub few : k ≤ from
  pub end_most : end m ≤ end m₀ + from
  pub count_most : count m ≤ count m₀ + from
  pub live : Every (Live nb m) (take k out)
  pub so_far : map (bytes nb m) (take k out) ++ bodies (lines_from text from) ≡ bodies (lines text)

pub begins : (nb cap : ℕ) (m text out : List ℕ) → Sound nb cap m → Going nb cap m text m out 0 0
begins nb cap m text out s = record { sound = s; grown = λ k l. (l, refl); pooled = record { longer = omega arith; same_words = λ i h k. refl }; long = refl; in_text = omega arith; in_out = omega arith; few = omega arith; end_most = omega arith; count_most = omega arith; live = tt; so_far = refl }

module _ (nb cap : ℕ) (m₀ text m out m' : List ℕ) (from to k n : ℕ) (g : Going nb cap m₀ text m out from k) (k_in : k < length out) (e : LineEnds text from to) (i : Interned nb cap m (between from to text) m' n) where
  more : take (k + 1) (set out k n) ≡ take k out ++ (n ∷ [])
  more = take_more_set out k n k_in

  live' : Every (Live nb m') (take (k + 1) (set out k n))
  live' = subst (Every (Live nb m')) (sym more) (every_push (Live nb m') (take k out) n (every_still (Live nb m) (Live nb m') (take k out) (λ j l. (i.grown j l).0) g.live) i.live)

  lines' : (rest : List (List ℕ)) → bodies (lines_behind text to) ≡ rest → map (bytes nb m') (take (k + 1) (set out k n)) ++ rest ≡ bodies (lines text)
  lines' rest r = ap (λ ns. map (bytes nb m') ns ++ rest) more ∙ ap (λ ls. ls ++ rest) (map_push (bytes nb m') (take k out) n) ∙ append_assoc (map (bytes nb m') (take k out)) (bytes nb m' n ∷ []) rest ∙ ap (λ l. map (bytes nb m') (take k out) ++ (l ∷ rest)) i.bytes_n ∙ ap (λ ls. ls ++ (between from to text ∷ rest)) (map_same (bytes nb m') (bytes nb m) (Live nb m) (take k out) (λ j l. (i.grown j l).1) g.live) ∙ ap (λ ls. map (bytes nb m) (take k out) ++ ls) (sym (ap bodies e.cuts ∙ ap (λ ls. between from to text ∷ ls) r)) ∙ g.so_far

  most : to ≤ length text → (end m' ≤ end m₀ + to + 1) × (count m' ≤ count m₀ + to + 1)
  most h = let l = part_long from to text h in let x = i.end_most in let y = i.count_most in let u = g.end_most in let v = g.count_most in let w = e.onward in (omega arith, omega arith)

  pub steps : to < length text → Going nb cap m₀ text m' (set out k n) (to + 1) (k + 1)
  steps h = let z = most (omega arith) in let w = e.onward in record { sound = i.sound; grown = grown_on nb m₀ m m' g.grown i.grown; pooled = pooled_on nb cap m₀ m m' g.pooled i.pooled; long = i.long ∙ g.long; in_text = omega arith; in_out = simp length-set (omega arith); few = omega (arith, g.few); end_most = omega (arith, z.0); count_most = omega (arith, z.1); live = live'; so_far = lines' (bodies (lines_from text (to + 1))) (ap (λ (b : Bool). bodies (pick b (lines_from text (to + 1)) [])) (lt-ltb to (length text) h)) }

  pub ends : to ≡ length text → (k + 1 ≤ length (set out k n)) × Numbered nb cap m₀ text m' (take (k + 1) (set out k n)) × (k + 1 ≤ length text + 1)
  ends h = let z = most (omega arith) in let w = e.onward in (simp length-set (omega arith), record { sound = i.sound; grown = grown_on nb m₀ m m' g.grown i.grown; pooled = pooled_on nb cap m₀ m m' g.pooled i.pooled; live = live'; lines_are = sym (append-nil (map (bytes nb m') (take (k + 1) (set out k n)))) ∙ lines' [] (ap (λ (b : Bool). bodies (pick b (lines_from text (to + 1)) [])) (le-ltb to (length text) (omega arith))); end_most = omega (arith, z.0); count_most = omega (arith, z.1); long = i.long ∙ g.long }, omega (arith, g.few))

-- with room for all lines there is room for the next
pub enough : (nb cap : ℕ) (m₀ text m out : List ℕ) (from to k : ℕ) → Going nb cap m₀ text m out from k → LineEnds text from to → length m₀ ≡ length m → ((j : ℕ) → 0 < j → j < cap → Live nb m j) ⊎ (length m < end m + 1 + length (between from to text)) → Roomy nb cap m₀ text out → ⊥
enough nb cap m₀ text m out from to k g e l (inl all) r = let x = all (count m) (omega (arith, g.sound.chained.zero_row.0)) (omega (arith, r.numbers, g.count_most, g.in_text)) in omega (arith, x.0)
enough nb cap m₀ text m out from to k g e l (inr short) r = let p = part_long from to text (e.within g.in_text) in let w = e.within g.in_text in omega (arith, r.words, g.end_most, e.onward)
