-- What stands in the table is what its layout says.
use Rattle.std.proofs.Common.{◌≡◌, ℕ, ◌+◌, ◌-◌, ◌*◌, ◌≤◌, List, [], ◌∷◌, ◌++◌, map, length, get_or, take, drop, sym, refl, ap, ◌∙◌, arith}
use Rattle.std.proofs.lemmas.List.{length-append, length-take, length-drop, get_or_append_left, get_or-append_right, get_or-take, get_or-drop, ext_get_or, drop-drop}
use Rattle.lexer.specs.Tokens.{Tok, tok}
use Rattle.grammar.specs.Grammar.{Field}
use Rattle.semantics.specs.Names.{Decl}
use Rattle.semantics.specs.Theorems.{Each}
use Rattle.symbols.specs.Table.{word, text_at, part_at, tok_at, fields_at, decl_at, decl_long, decls_from}
use Rattle.symbols.specs.Tabled.{Owned}
use Rattle.collector.specs.Rows.{Held}
use Rattle.collector.specs.Entries.{TokIn, FieldIn, Entry, Inside, slot_words, entry_words, entries_words, decl_of}
use Rattle.collector.proofs.Loading.{cut_in}
use Rattle.collector.proofs.Entered.{entry_long}

pub held_left : (ws : List ℕ) (a : ℕ) (xs ys : List ℕ) → Held ws a (xs ++ ys) → Held ws a xs
held_left ws a xs ys h = record { within = omega (arith, h.within, length-append xs ys); reads = λ j l. h.reads j (omega (arith, length-append xs ys)) ∙ get_or_append_left xs ys 0 j l }

pub held_right : (ws : List ℕ) (a b : ℕ) (xs ys : List ℕ) → b ≡ a + length xs → Held ws a (xs ++ ys) → Held ws b ys
held_right ws a b xs ys e h = record {
  within = omega (arith, h.within, length-append xs ys);
  reads = λ j l.
      let n : b + j ≡ a + (length xs + j) = omega arith in
      let m : length xs + j - length xs ≡ j = omega arith in
      ap (word ws) n ∙ h.reads (length xs + j) (omega (arith, length-append xs ys)) ∙ get_or-append_right xs ys (length xs) (length xs + j) 0 refl (omega arith) ∙ ap (λ k. get_or ys k 0) m;
}

pub held_first : (ws : List ℕ) (a x : ℕ) (xs : List ℕ) → Held ws a (x ∷ xs) → word ws a ≡ x
held_first ws a x xs h = let e : a + 0 ≡ a = omega arith in ap (word ws) (sym e) ∙ h.reads 0 (omega arith)

-- the words themselves
pub held_text : (ws : List ℕ) (a n : ℕ) (xs : List ℕ) → n ≡ length xs → Held ws a xs → text_at ws a n ≡ xs
held_text ws a n xs e h =
    let l : length (take n (drop a ws)) ≡ length xs = length-take n (drop a ws) ∙ omega (arith, length-drop a ws, h.within) in
    ext_get_or 0 (take n (drop a ws)) xs l (λ i x. get_or-take n (drop a ws) i 0 (omega arith) ∙ get_or-drop a ws i 0 ∙ h.reads i (omega arith))

-- a row in which the texts m stand from t on
module _ (ws m : List ℕ) (t size : ℕ) (at_m : take size (drop t ws) ≡ m) where
  part_is : (o a b : ℕ) → a ≤ b → o + b ≤ length m → part_at ws (t + o) a b ≡ take (b - a) (drop (o + a) m)
  part_is o a b h k =
      let n : length m ≤ size = omega (arith, ap length at_m, length-take size (drop t ws)) in
      let e : t + o + a ≡ t + (o + a) = omega arith in
      ap (λ i. take (b - a) (drop i ws)) e ∙ ap (take (b - a)) (sym (drop-drop (o + a) t ws)) ∙ sym (cut_in (drop t ws) size (o + a) (b - a) (omega arith)) ∙ ap (λ x. take (b - a) (drop (o + a) x)) at_m

  tok_is : (o : ℕ) (u : Tok) → TokIn m o u → part_at ws (t + o) u.from u.to ≡ u.w
  tok_is o u p = part_is o u.from u.to p.sits p.ends ∙ p.bytes

  tok_read : (o i : ℕ) (u : Tok) → TokIn m o u → word ws i ≡ u.from → word ws (i + 1) ≡ u.to → tok_at ws (t + o) i ≡ u
  tok_read o i u p a b =
      ap (λ k. tok (part_at ws (t + o) k (word ws (i + 1))) k (word ws (i + 1))) a ∙ ap (λ k. tok (part_at ws (t + o) u.from k) u.from k) b ∙ ap (λ w. tok w u.from u.to) (tok_is o u p)

  fields_read : (o i : ℕ) (fs : List Field) → Each (FieldIn m o) fs → Held ws i (slot_words fs) → fields_at ws (t + o) (length fs) i ≡ fs
  fields_read o i [] p h = refl
  fields_read o i (f ∷ fs) p h =
      let a = held_first ws i f.name.from (f.name.to ∷ f.ty.from ∷ f.ty.to ∷ slot_words fs) h in
      let b = h.reads 1 (omega arith) in
      let c = h.reads 2 (omega arith) in
      let e : i + 2 + 1 ≡ i + 3 = omega arith in
      let d = ap (word ws) e ∙ h.reads 3 (omega arith) in
      let first : ◌≡◌ {A = Field} (record { name = tok_at ws (t + o) i; ty = tok_at ws (t + o) (i + 2) }) f = λ x. record { name = tok_read o i f.name p.0.0 a b x; ty = tok_read o (i + 2) f.ty p.0.1 c d x } in
      let rest = fields_read o (i + 4) fs p.1 (held_right ws i (i + 4) (f.name.from ∷ f.name.to ∷ f.ty.from ∷ f.ty.to ∷ []) (slot_words fs) (omega arith) h) in
      ap (λ g. g ∷ fields_at ws (t + o) (length fs) (i + 4)) first ∙ ap (λ gs. f ∷ gs) rest

  -- a declaration's words
  module _ (k d : ℕ) (e : Entry) (p : Inside m e) (h : Held ws d (entry_words t k e)) where
    x : Decl
    x = e.decl

    w0 : word ws d ≡ k
    w0 = held_first ws d k (e.decl.start ∷ (t + e.line) ∷ e.decl.sort ∷ e.decl.from ∷ e.decl.to ∷ e.ty.from ∷ e.ty.to ∷ length e.decl.fields ∷ slot_words e.decl.fields) h

    w1 : word ws (d + 1) ≡ e.decl.start
    w1 = h.reads 1 (omega arith)

    w2 : word ws (d + 2) ≡ t + e.line
    w2 = h.reads 2 (omega arith)

    w3 : word ws (d + 3) ≡ e.decl.sort
    w3 = h.reads 3 (omega arith)

    w4 : word ws (d + 4) ≡ e.decl.from
    w4 = h.reads 4 (omega arith)

    w5 : word ws (d + 5) ≡ e.decl.to
    w5 = h.reads 5 (omega arith)

    w6 : word ws (d + 6) ≡ e.ty.from
    w6 = h.reads 6 (omega arith)

    w7 : word ws (d + 7) ≡ e.ty.to
    w7 = h.reads 7 (omega arith)

    w8 : word ws (d + 8) ≡ length e.decl.fields
    w8 = h.reads 8 (omega arith)

    part_read : (i j a b : ℕ) → word ws i ≡ a → word ws j ≡ b → part_at ws (word ws (d + 2)) (word ws i) (word ws j) ≡ part_at ws (t + e.line) a b
    part_read i j a b q r = ap (λ l. part_at ws l (word ws i) (word ws j)) w2 ∙ ap (λ u. part_at ws (t + e.line) u (word ws j)) q ∙ ap (λ u. part_at ws (t + e.line) a u) r

    slots_held : Held ws (d + 9) (slot_words e.decl.fields)
    slots_held = held_right ws d (d + 9) (k ∷ e.decl.start ∷ (t + e.line) ∷ e.decl.sort ∷ e.decl.from ∷ e.decl.to ∷ e.ty.from ∷ e.ty.to ∷ length e.decl.fields ∷ []) (slot_words e.decl.fields) (omega arith) h

    slots_read : fields_at ws (word ws (d + 2)) (word ws (d + 8)) (d + 9) ≡ e.decl.fields
    slots_read = ap (λ l. fields_at ws l (word ws (d + 8)) (d + 9)) w2 ∙ ap (λ n. fields_at ws (t + e.line) n (d + 9)) w8 ∙ fields_read e.line (d + 9) e.decl.fields p.fields_in slots_held

    name_read : part_at ws (word ws (d + 2)) (word ws (d + 4)) (word ws (d + 5)) ≡ e.decl.name
    name_read = part_read (d + 4) (d + 5) e.decl.from e.decl.to w4 w5 ∙ tok_is e.line (tok e.decl.name e.decl.from e.decl.to) p.name_in

    type_read : part_at ws (word ws (d + 2)) (word ws (d + 6)) (word ws (d + 7)) ≡ e.decl.ty
    type_read = part_read (d + 6) (d + 7) e.ty.from e.ty.to w6 w7 ∙ tok_is e.line e.ty p.type_in ∙ sym p.type_is

    decl_read : decl_at ws d ≡ e.decl
    decl_read = λ i. record { name = name_read i; start = w1 i; from = w4 i; to = w5 i; sort = w3 i; ty = type_read i; fields = slots_read i }

    long_read : decl_long ws d ≡ length (entry_words t k e)
    long_read = ap (λ n. 9 + 4 * n) w8 ∙ sym (entry_long t k e)

  -- all of them
  pub entries_owned : (k d : ℕ) (es : List Entry) → Each (Inside m) es → Held ws d (entries_words t k es) → Owned ws k (length es) d
  entries_owned k d [] p h = tt
  entries_owned k d (e ∷ es) p h =
      let l = held_left ws d (entry_words t k e) (entries_words t k es) h in
      let n = long_read k d e p.0 l in
      let f : d + decl_long ws d ≡ d + length (entry_words t k e) = omega arith in
      (omega (arith, l.within), w0 k d e p.0 l, entries_owned k (d + decl_long ws d) es p.1 (held_right ws d (d + decl_long ws d) (entry_words t k e) (entries_words t k es) f h))

  pub entries_read : (k d : ℕ) (es : List Entry) → Each (Inside m) es → Held ws d (entries_words t k es) → decls_from ws (length es) d ≡ map decl_of es
  entries_read k d [] p h = refl
  entries_read k d (e ∷ es) p h =
      let l = held_left ws d (entry_words t k e) (entries_words t k es) h in
      let n = long_read k d e p.0 l in
      let f : d + decl_long ws d ≡ d + length (entry_words t k e) = omega arith in
      ap (λ x. x ∷ decls_from ws (length es) (d + decl_long ws d)) (decl_read k d e p.0 l) ∙ ap (λ xs. e.decl ∷ xs) (entries_read k (d + decl_long ws d) es p.1 (held_right ws d (d + decl_long ws d) (entry_words t k e) (entries_words t k es) f h))
