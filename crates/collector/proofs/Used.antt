-- The files that a file uses, each once.
use Rattle.std.proofs.Common.{◌≡◌, ℕ, zero, suc, ◌+◌, ◌-◌, ◌<◌, ◌≤◌, Bool, true, false, List, [], ◌∷◌, ◌++◌, length, get_or, take, drop, Some, MatchBool, sym, refl, ap, ◌∙◌, subst, inl, inr, arith, rules}
use mathlib.Core.Option.{some, none}
use Rattle.std.specs.List.{slice_get, HoldsAt, AllWithin}
use Rattle.std.proofs.lemmas.List.{length-append, length-take-le, length-drop, get_or-take, get_or-drop}
use Rattle.std.proofs.lemmas.Slice.Eq.{compares_Decides}
use Rattle.std.proofs.lemmas.Bool.{cases_Bool, both_ways, or_left, or_right, or_from}
use Rattle.base.specs.Base.{Word, pick, same, among, is_some}
use Rattle.lexer.specs.Tokens.{Line, pieces}
use Rattle.grammar.specs.Grammar.{item_of}
use Rattle.semantics.specs.Names.{File, Texts, find_file, uses_item, uses_lines, adds}
use Rattle.semantics.specs.Read.{with_used}
use Rattle.source.specs.Source.{First}
use Rattle.symbols.specs.Table.{word}
use Rattle.symbols.specs.Tabled.{Uses, no_more, absent, present}
use Rattle.collector.specs.Rows.{Wrote, Held}
use Rattle.collector.specs.Entries.{Using, uses_need}
use Rattle.collector.specs.Says.{NamedSays}
use Rattle.collector.proofs.Writes.{held_none, held_join, held_at, held_in}

pub same_true : (a b : Word) → same a b ≡ true → a ≡ b
same_true a b e = (compares_Decides same (search rules) a b).0 e

pub same_yes : (a b : Word) → a ≡ b → same a b ≡ true
same_yes a b e = (compares_Decides same (search rules) a b).1 e

pub same_sym : (a b : Word) → same a b ≡ same b a
same_sym a b = elim (cases_Bool (same a b)) [ inl t ↦ t ∙ sym (same_yes b a (sym (same_true a b t))) | inr f ↦ f ∙ sym (other f) ]
  where
    other : same a b ≡ false → same b a ≡ false
    other f = elim (cases_Bool (same b a)) [ inl t ↦ absurd (both_ways (same a b) f (same_yes a b (sym (same_true b a t)))) | inr g ↦ g ]

-- the file that a name means has that name
pub found_name : (p : Texts) (w : Word) (x : File) → find_file p w ≡ some x → x.name ≡ w
found_name [] w x e = let z : ◌≡◌ {A = ℕ} 0 1 = cc in absurd (omega arith)
found_name (y ∷ ys) w x e = go (same y.name w) refl e (found_name ys w x)
  where
    go : (b : Bool) → same y.name w ≡ b → pick b (some y) (find_file ys w) ≡ some x → (find_file ys w ≡ some x → x.name ≡ w) → x.name ≡ w
    go true s h r = let k : y ≡ x = cc in ap (λ z. z.name) (sym k) ∙ same_true y.name w s
    go false s h r = r h

-- a file of the list that has the name
pub among_hit : (p : Texts) (w : Word) {gs : List ℕ} {ns : List Word} → Uses p gs ns → (j : ℕ) → j < length gs → (y : File) → slice_get p (get_or gs j 0) ≡ Some y → same y.name w ≡ true → among w ns ≡ true
among_hit p w no_more j h y e s = absurd (omega arith)
among_hit p w (absent {gs} {n} {ns} a u) j h y e s = or_right (same w n) (among w ns) (among_hit p w u j h y e s)
among_hit p w (present {g} {gs} {n} {ns} f u) zero h y e s =
    let k : f.0 ≡ y = let a = f.1 in cc in
    or_left (same w n) (among w ns) (same_yes w n (sym (same_true y.name w s) ∙ ap (λ z. z.name) (sym k) ∙ found_name p n f.0 f.2))
among_hit p w (present {g} {gs} {n} {ns} f u) (suc j) h y e s = or_right (same w n) (among w ns) (among_hit p w u j (omega arith) y e s)

-- none of them has it
pub among_miss : (p : Texts) (w : Word) (x : File) → find_file p w ≡ some x → {gs : List ℕ} {ns : List Word} → Uses p gs ns → ((j : ℕ) → j < length gs → (y : File) → slice_get p (get_or gs j 0) ≡ Some y → same y.name w ≡ true → ⊥) → among w ns ≡ false
among_miss p w x f no_more h = refl
among_miss p w x f (absent {gs} {n} {ns} a u) h = or_from (same w n) (among w ns) apart (among_miss p w x f u h)
  where
    apart : same w n ≡ false
    apart = elim (cases_Bool (same w n)) [ inl t ↦ (let q : find_file p n ≡ some x = ap (find_file p) (sym (same_true w n t)) ∙ f in let z : ◌≡◌ {A = ℕ} 0 1 = cc in absurd (omega arith)) | inr g ↦ g ]
among_miss p w x f (present {g} {gs} {n} {ns} a u) h = or_from (same w n) (among w ns) apart (among_miss p w x f u (λ j l. h (suc j) (omega arith)))
  where
    apart : same w n ≡ false
    apart = elim (cases_Bool (same w n)) [ inl t ↦ absurd (h 0 (omega arith) a.0 a.1 (same_yes a.0.name w (found_name p n a.0 a.2 ∙ sym (same_true w n t)))) | inr k ↦ k ]

pub uses_long : (p : Texts) {gs : List ℕ} {ns : List Word} → Uses p gs ns → length gs ≡ uses_need p ns
uses_long p no_more = refl
uses_long p (absent {gs} {n} {ns} a u) = uses_long p u ∙ omega (arith, ap {B = ℕ} (λ o. pick (is_some o) 1 0) a)
uses_long p (present {g} {gs} {n} {ns} f u) = omega (arith, uses_long p u, ap {B = ℕ} (λ o. pick (is_some o) 1 0) f.2)

pub uses_push : (p : Texts) (w : Word) (g : ℕ) → First p w g → {gs : List ℕ} {ns : List Word} → Uses p gs ns → Uses p (gs ++ (g ∷ [])) (ns ++ (w ∷ []))
uses_push p w g f no_more = present f no_more
uses_push p w g f (absent a u) = absent a (uses_push p w g f u)
uses_push p w g f (present a u) = present a (uses_push p w g f u)

pub uses_pass : (p : Texts) (w : Word) → find_file p w ≡ none → {gs : List ℕ} {ns : List Word} → Uses p gs ns → Uses p gs (ns ++ (w ∷ []))
uses_pass p w f no_more = absent f no_more
uses_pass p w f (absent a u) = absent a (uses_pass p w f u)
uses_pass p w f (present a u) = present a (uses_pass p w f u)

-- each of the list is there
pub uses_file : (p : Texts) {gs : List ℕ} {ns : List Word} → Uses p gs ns → (j : ℕ) → j < length gs → (y : File) × (slice_get p (get_or gs j 0) ≡ Some y)
uses_file p no_more j h = absurd (omega arith)
uses_file p (absent a u) j h = uses_file p u j h
uses_file p (present a u) zero h = (a.0, a.1)
uses_file p (present a u) (suc j) h = uses_file p u j (omega arith)

-- a part of the row, and its words
pub part_ends : (ws : List ℕ) (from to : ℕ) → from ≤ to → to ≤ length ws → length (take (to - from) (drop from ws)) ≡ to - from
part_ends ws from to h k = length-take-le (to - from) (drop from ws) (omega (arith, length-drop from ws))

pub part_word : (ws : List ℕ) (from to i : ℕ) → from + i < to → get_or (take (to - from) (drop from ws)) i 0 ≡ word ws (from + i)
part_word ws from to i h = get_or-take (to - from) (drop from ws) i 0 (omega arith) ∙ get_or-drop from ws i 0

-- looking through a list in words
pub listed_hit : (p : Texts) (w : Word) (ws : List ℕ) (from to j : ℕ) (ns : List Word) (b : Bool) → from ≤ j → j < to → Using p ws from to ns → ((y : File) → slice_get p (word ws j) ≡ Some y → b ≡ same y.name w) → b ≡ true → true ≡ among w ns
listed_hit p w ws from to j ns b h k u n e =
    let i = j - from in
    let lt : i < length u.files = omega (arith, u.ends) in
    let y = uses_file p u.uses i lt in
    let back : from + i ≡ j = omega arith in
    let at : word ws j ≡ get_or u.files i 0 = ap (word ws) (sym back) ∙ u.held.reads i lt in
    sym (among_hit p w u.uses i lt y.0 y.1 (sym (n y.0 (ap (slice_get p) at ∙ y.1)) ∙ e))

pub listed_miss : (p : Texts) (w : Word) (ws : List ℕ) (from to j : ℕ) (ns : List Word) (x : File) → to ≤ j → Using p ws from to ns → find_file p w ≡ some x → ((k : ℕ) → from ≤ k → k < j → (y : File) → slice_get p (word ws k) ≡ Some y → same y.name w ≡ true → ⊥) → false ≡ among w ns
listed_miss p w ws from to j ns x h u f n =
    sym (among_miss p w x f u.uses (λ i lt y e s. n (from + i) (omega arith) (omega (arith, u.ends)) y (ap (slice_get p) (u.held.reads i lt) ∙ e) s))

-- whether some file of the list has the name
pub listed_by : (p : Texts) (w : Word) (ws : List ℕ) (from to : ℕ) (ns : List Word) (x : File) (r : Bool) → from ≤ to → to ≤ length ws → MatchBool r ((k : ℕ) × (k < length (take (to - from) (drop from ws))) × HoldsAt (λ k. NamedSays p k w true) (take (to - from) (drop from ws)) k) (AllWithin (λ k. NamedSays p k w false) (take (to - from) (drop from ws)) 0 (length (take (to - from) (drop from ws)))) → Using p ws from to ns → find_file p w ≡ some x → r ≡ among w ns
listed_by p w ws from to ns x true h k m u f =
    let in1 : from + m.0 < to = omega (arith, m.1, part_ends ws from to h k) in
    listed_hit p w ws from to (from + m.0) ns true (omega arith) in1 u (λ y q. m.2 0 y (ap (slice_get p) (part_word ws from to m.0 in1) ∙ q)) refl
listed_by p w ws from to ns x false h k m u f =
    listed_miss p w ws from to to ns x (omega arith) u f (λ j a b y q s.
    let i = j - from in
    let back : from + i ≡ j = omega arith in
    let e = part_ends ws from to h k in
    both_ways (same y.name w) (sym (m i 0 (omega arith) (omega (arith, e)) y (ap (slice_get p) (part_word ws from to i (omega arith) ∙ ap (word ws) back) ∙ q))) s)

-- what a use of a name adds to the names before it
module _ (me w : Word) (ns : List Word) where
  pub used_own : same me w ≡ true → with_used me ns (w ∷ []) ≡ ns
  used_own s = ap (λ b. pick b ns (adds (w ∷ []) ns)) (same_sym w me ∙ s)

  other : same me w ≡ false → with_used me ns (w ∷ []) ≡ pick (among w ns) ns (ns ++ (w ∷ []))
  other s = ap (λ b. pick b ns (adds (w ∷ []) ns)) (same_sym w me ∙ s)

  pub used_known : same me w ≡ false → among w ns ≡ true → with_used me ns (w ∷ []) ≡ ns
  used_known s a = other s ∙ ap (λ b. pick b ns (ns ++ (w ∷ []))) a

  pub used_new : same me w ≡ false → among w ns ≡ false → with_used me ns (w ∷ []) ≡ ns ++ (w ∷ [])
  used_new s a = other s ∙ ap (λ b. pick b ns (ns ++ (w ∷ []))) a

pub need_push : (p : Texts) (w : Word) (x : File) (ns : List Word) → find_file p w ≡ some x → uses_need p (ns ++ (w ∷ [])) ≡ uses_need p ns + 1
need_push p w x [] f = omega (arith, ap {B = ℕ} (λ o. pick (is_some o) 1 0) f)
need_push p w x (n ∷ ns) f = omega (arith, need_push p w x ns f)

pub using_end : (p : Texts) (ws : List ℕ) (from to : ℕ) (ns : List Word) → Using p ws from to ns → to ≡ from + uses_need p ns
using_end p ws from to ns u = omega (arith, u.ends, uses_long p u.uses)

-- a name that no file has
pub using_absent : (p : Texts) (me w : Word) (ws : List ℕ) (from to : ℕ) (ns : List Word) → same me w ≡ false → find_file p w ≡ none → Using p ws from to ns → Using p ws from to (with_used me ns (w ∷ []))
using_absent p me w ws from to ns s f u = elim (cases_Bool (among w ns)) [ inl a ↦ subst (Using p ws from to) (sym (used_known me w ns s a)) u | inr a ↦ subst (Using p ws from to) (sym (used_new me w ns s a)) (record { files = u.files; uses = uses_pass p w f u.uses; held = u.held; ends = u.ends }) ]

-- one file more
pub using_new : (p : Texts) (me w : Word) (ws vs : List ℕ) (from to g : ℕ) (ns : List Word) → same me w ≡ false → among w ns ≡ false → First p w g → Wrote to (to + 1) ws vs → Held vs to (g ∷ []) → Using p ws from to ns → Using p vs from (to + 1) (with_used me ns (w ∷ []))
using_new p me w ws vs from to g ns s a f wr h u =
    let was = held_in ws vs from u.files (omega (arith, wr.long)) (λ i x y. wr.before i (omega (arith, u.ends))) u.held in
    subst (Using p vs from (to + 1)) (sym (used_new me w ns s a)) (record { files = u.files ++ (g ∷ []); uses = uses_push p w g f u.uses; held = held_join vs from to u.files (g ∷ []) u.ends was h; ends = omega (arith, u.ends, length-append u.files (g ∷ [])) })

pub using_full : (p : Texts) (me w : Word) (x : File) (ws : List ℕ) (from to work : ℕ) (ns : List Word) → same me w ≡ false → among w ns ≡ false → find_file p w ≡ some x → work ≤ to → Using p ws from to ns → work < from + uses_need p (with_used me ns (w ∷ []))
using_full p me w x ws from to work ns s a f h u = omega (arith, using_end p ws from to ns u, need_push p w x ns f, ap (uses_need p) (used_new me w ns s a))

pub using_none : (p : Texts) (ws : List ℕ) (a : ℕ) → a ≤ length ws → Using p ws a a []
using_none p ws a h = record { files = []; uses = no_more; held = held_none ws a h; ends = omega arith }

pub using_at : (p : Texts) (ws vs : List ℕ) (from to : ℕ) (ns : List Word) → to ≤ length vs → ((i : ℕ) → from ≤ i → i < to → word vs i ≡ word ws i) → Using p ws from to ns → Using p vs from to ns
using_at p ws vs from to ns h e u = record { files = u.files; uses = u.uses; held = held_at ws vs from u.files (omega (arith, u.ends)) (λ i x y. e i x (omega (arith, u.ends))) u.held; ends = u.ends }

pub using_in : (p : Texts) (ws vs : List ℕ) (from to : ℕ) (ns : List Word) → length ws ≤ length vs → ((i : ℕ) → from ≤ i → i < to → word vs i ≡ word ws i) → Using p ws from to ns → Using p vs from to ns
using_in p ws vs from to ns h e u = using_at p ws vs from to ns (omega (arith, u.ends, u.held.within)) e u

-- names of line after line
pub uses_more : (me : Word) (ns : List Line) (n : Line) (ws : List Word) → uses_lines me (ns ++ (n ∷ [])) ws ≡ with_used me (uses_lines me ns ws) (uses_item (item_of (pieces n)))
uses_more me [] n ws = refl
uses_more me (m ∷ ms) n ws = uses_more me ms n (with_used me ws (uses_item (item_of (pieces m))))

need_cat : (p : Texts) (ns ms : List Word) → uses_need p (ns ++ ms) ≡ uses_need p ns + uses_need p ms
need_cat p [] ms = omega arith
need_cat p (n ∷ ns) ms = omega (arith, need_cat p ns ms)

need_with : (p : Texts) (me : Word) (ns vs : List Word) → uses_need p ns ≤ uses_need p (with_used me ns vs)
need_with p me ns [] = omega arith
need_with p me ns (v ∷ vs) = go (same v me) (among v ns)
  where
    go : (a b : Bool) → uses_need p ns ≤ uses_need p (pick a ns (pick b ns (ns ++ (v ∷ []))))
    go true b = omega arith
    go false true = omega arith
    go false false = omega (arith, need_cat p ns (v ∷ []))

need_lines : (p : Texts) (me : Word) (ls : List Line) (ns : List Word) → uses_need p ns ≤ uses_need p (uses_lines me ls ns)
need_lines p me [] ns = omega arith
need_lines p me (l ∷ ls) ns = let a = need_with p me ns (uses_item (item_of (pieces l))) in let b = need_lines p me ls (with_used me ns (uses_item (item_of (pieces l)))) in omega arith

-- up to a line no more is needed than up to the last
pub need_upto : (p : Texts) (me : Word) (ls : List Line) (i : ℕ) (n : Line) (ns : List Word) → slice_get ls i ≡ Some n → uses_need p (with_used me (uses_lines me (take i ls) ns) (uses_item (item_of (pieces n)))) ≤ uses_need p (uses_lines me ls ns)
need_upto p me [] i n ns e = let z : ◌≡◌ {A = ℕ} 0 1 = cc in absurd (omega arith)
need_upto p me (l ∷ ls) zero n ns e = let s : l ≡ n = cc in subst (λ m. uses_need p (with_used me ns (uses_item (item_of (pieces m)))) ≤ uses_need p (uses_lines me (l ∷ ls) ns)) s (need_lines p me ls (with_used me ns (uses_item (item_of (pieces l)))))
need_upto p me (l ∷ ls) (suc i) n ns e = need_upto p me ls i n (with_used me ns (uses_item (item_of (pieces l)))) e
