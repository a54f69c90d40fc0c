-- All that the lines of a file declare, one line after the other.
use Rattle.std.proofs.Common.{◌≡◌, ℕ, zero, suc, ◌+◌, ◌-◌, ◌*◌, ◌<◌, ◌≤◌, Bool, true, false, eqb, ◌⊎◌, List, [], ◌∷◌, ◌++◌, length, take, drop, Some, Ok, Err, sym, refl, ap, ◌∙◌, subst, inl, inr, arith}
use Rattle.std.specs.List.{slice_get}
use Rattle.std.proofs.lemmas.List.{take_all, append_assoc, append-nil, length-take, length-drop}
use Rattle.base.specs.Base.{pick}
use Rattle.lexer.specs.Tokens.{Line, cut, lines}
use Rattle.semantics.specs.Names.{File, Texts, decls, decls_item, decls_lines}
use Rattle.syntax.specs.Line.{item_in}
use Rattle.symbols.specs.declared.layout.Layout.{Layout}
use Rattle.collector.specs.declared.NoRoom.{NoRoom}
use Rattle.collector.specs.declared.line.Loaded.{Loaded}
use Rattle.collector.specs.declared.entry.Origin.{Origin}
use Rattle.collector.specs.declared.entry.Listed.{Listed}
use Rattle.collector.specs.declared.lines.Put.{Put}
use Rattle.symbols.specs.Rows.{InOrder, texts_in}
use Rattle.collector.specs.Rows.{Kept}
use Rattle.collector.specs.Entries.{Declared, decls_need}
use Rattle.collector.specs.Says.{line_of, InTexts, LineIn, LineTrouble, LineSays, LoadSays, There, BeginsAt, WentOn, NthIn, NthShort, NthSays, LinesSays}
use Rattle.collector.proofs.Writes.{kept_none, kept_wrote, kept_on, kept_wider, kept_any, order_kept, texts_kept}
use Rattle.collector.proofs.Heads.{nth_some}
use Rattle.collector.proofs.Fields.{take_nth}
use Rattle.collector.proofs.Entered.{declared_none, declared_join, declared_in, need_cat, need_many}

-- each line begins behind the one before
abbrev Chain : ℕ → List Line → Type 0
Chain s [] = Unit {0}
Chain s (n ∷ ns) = (n.start ≡ s) × Chain (1 + (s + length n.bytes)) ns

cut_chain : (s : ℕ) (acc t : List ℕ) → Chain s (cut s acc t)
cut_chain s acc [] = (refl, tt)
cut_chain s acc (c ∷ cs) = go (eqb c 10) (cut_chain (1 + (s + length acc)) [] cs) (cut_chain s (acc ++ (c ∷ [])) cs)
  where
    go : (b : Bool) → Chain (1 + (s + length acc)) (cut (1 + (s + length acc)) [] cs) → Chain s (cut s (acc ++ (c ∷ [])) cs) → Chain s (pick b (record { start = s; bytes = acc } ∷ cut (1 + (s + length acc)) [] cs) (cut s (acc ++ (c ∷ [])) cs))
    go true p q = (refl, p)
    go false p q = q

chain_first : (s : ℕ) (ns : List Line) (a : Line) → Chain s ns → slice_get ns 0 ≡ Some a → a.start ≡ s
chain_first s [] a c e = let z : ◌≡◌ {A = ℕ} 0 1 = cc in absurd (omega arith)
chain_first s (n ∷ ns) a c e = let h : n ≡ a = cc in ap (λ m. m.start) (sym h) ∙ c.0

chain_next : (s : ℕ) (ns : List Line) (i : ℕ) (a b : Line) → Chain s ns → slice_get ns i ≡ Some a → slice_get ns (i + 1) ≡ Some b → b.start ≡ 1 + (a.start + length a.bytes)
chain_next s [] i a b c e f = let z : ◌≡◌ {A = ℕ} 0 1 = cc in absurd (omega arith)
chain_next s (n ∷ ns) zero a b c e f = let h : n ≡ a = cc in chain_first (1 + (s + length n.bytes)) ns b c.1 f ∙ ap (λ k. 1 + (k + length n.bytes)) (sym c.0) ∙ ap (λ m. 1 + (m.start + length m.bytes)) h
chain_next s (n ∷ ns) (suc i) a b c e f = let k : suc i + 1 ≡ suc (i + 1) = omega arith in chain_next (1 + (s + length n.bytes)) ns i a b c.1 e (ap (slice_get (n ∷ ns)) (sym k) ∙ f)

pub begins_first : (p : Texts) (file : ℕ) → BeginsAt p file 0 0
begins_first p file x n e f = chain_first 0 (lines x.text) n (cut_chain 0 [] x.text) f

pub begins_next : (p : Texts) (file i start len : ℕ) → BeginsAt p file i start → ((x : File) → slice_get p file ≡ Some x → (a : Line) × (slice_get (lines x.text) i ≡ Some a) × (len ≡ length a.bytes)) → BeginsAt p file (i + 1) (start + (len + 1))
begins_next p file i start len b h x n e f =
    let a = h x e in
    let s = b x a.0 e a.1 in
    let c = chain_next 0 (lines x.text) i a.0 n (cut_chain 0 [] x.text) a.1 f in
    omega (arith, s, c, a.2)

-- one line: load, then put
module _ (p : Texts) (l : Layout) (file i start a : ℕ) (ws us : List ℕ) (o : InOrder l ws) (low : l.index ≤ a) (high : a ≤ l.work) (b : BeginsAt p file i start) where
  pub nth_far : There p file i → 4294967296 ≤ start → Kept l a l.work ws ws × (LineTrouble p l (length ws) ⊎ ((x : File) → slice_get p file ≡ Some x → NthShort x l i a))
  nth_far t h =
      let n = nth_some (lines t.0.text) i t.2 in
      (kept_wider l a a a l.work ws ws (omega arith) high (kept_none l a ws), inl (record { file = file; number = i; text = t.0; line = n.0; is_file = t.1; is_line = n.1; why = inr (omega (arith, b t.0 n.0 t.1 n.1)) }))

  pub nth_unread : (e : NoRoom) → LoadSays p l file i ws us (Err e) → Kept l a l.work ws us × (LineTrouble p l (length ws) ⊎ ((x : File) → slice_get p file ≡ Some x → NthShort x l i a))
  nth_unread e s = (kept_any l l.index a l.work ws us high (omega (arith, o.slot, low)) s.0, inl s.1)

  module _ (r : Loaded) (d : LoadSays p l file i ws us (Ok r)) (by : Origin) (fi : by.file ≡ file) (st : by.start ≡ start) (vs : List ℕ) where
    first : Kept l a a ws us
    first = kept_any l l.index a a ws us high (omega (arith, o.slot, low)) d.0

    said_is : (x : File) → slice_get p file ≡ Some x → (n : LineIn x l i ws us r) → decls_item by.start (item_in (line_of us r)) ≡ decls_item n.line.start (item_in n.line.bytes)
    said_is x e n = ap (λ w. decls_item by.start (item_in w)) n.bytes_are ∙ ap (λ k. decls_item k (item_in n.line.bytes)) (st ∙ sym (b x n.line e n.is_line))

    pub nth_full : (z : NoRoom) → LineSays l us r by a vs (Err z) → Kept l a l.work ws vs × (LineTrouble p l (length ws) ⊎ ((x : File) → slice_get p file ≡ Some x → NthShort x l i a))
    nth_full z s = (
      kept_on l a a a l.work ws us vs (omega arith) high first (kept_wrote l a l.work us vs s.0),
      inr (λ x e. let n = d.3 x e in (n.line, n.is_line, omega (arith, s.1, ap decls_need (said_is x e n)))),
    )

    pub nth_done : (g : Listed) → LineSays l us r by a vs (Ok g) → WentOn l a g.to ws vs × ((x : File) → slice_get p file ≡ Some x → NthIn x l file i ws a vs (record { len = r.len; listed = g }))
    nth_done g s = (
      record { onward = s.0.onward; within = s.0.within; kept = kept_on l a a a g.to ws us vs (omega arith) s.0.onward first (kept_wrote l a g.to us vs s.0.wrote) },
      λ x e.
          let n = d.3 x e in
          let w = s.1 (texts_in l ws) (subst (λ y. InTexts l (texts_in l ws) y r) (sym n.bytes_are) n.stands) in
          let f = subst (λ k. Declared (texts_in l ws) l.texts k vs a g.to g.count (decls_item by.start (item_in (line_of us r)))) fi w in
          record { line = n.line; is_line = n.is_line; long = long_of x n; stands = subst (Declared (texts_in l ws) l.texts file vs a g.to g.count) (said_is x e n) f },
    )
      where
        long_of : (x : File) → (n : LineIn x l i ws us r) → r.len ≡ length n.line.bytes
        long_of x n = sym (ap length (sym n.stands.bytes_are) ∙ length-take r.len (drop (r.place - l.texts) (texts_in l ws)) ∙ omega (arith, length-drop (r.place - l.texts) (texts_in l ws), n.stands.ends))

-- the lines before the i-th are done
pub record Done (p : Texts) (l : Layout) (file : ℕ) (ws : List ℕ) (a i start count to : ℕ) (vs : List ℕ) : Type 0 where
  pub went : WentOn l a to ws vs
  pub begins : BeginsAt p file i start
  pub stands : (x : File) → slice_get p file ≡ Some x → Declared (texts_in l ws) l.texts file vs a to count (decls_lines (take i (lines x.text)))

lines_cat : (ns ms : List Line) → decls_lines (ns ++ ms) ≡ decls_lines ns ++ decls_lines ms
lines_cat [] ms = refl
lines_cat (n ∷ ns) ms = ap (λ ds. decls_item n.start (item_in n.bytes) ++ ds) (lines_cat ns ms) ∙ sym (append_assoc (decls_item n.start (item_in n.bytes)) (decls_lines ns) (decls_lines ms))

lines_more : (ns : List Line) (i : ℕ) (n : Line) → slice_get ns i ≡ Some n → decls_lines (take (i + 1) ns) ≡ decls_lines (take i ns) ++ decls_item n.start (item_in n.bytes)
lines_more ns i n e = ap decls_lines (take_nth ns i n e) ∙ lines_cat (take i ns) (n ∷ []) ∙ ap (λ ds. decls_lines (take i ns) ++ ds) (append-nil (decls_item n.start (item_in n.bytes)))

lines_need : (ns : List Line) (i : ℕ) (n : Line) → slice_get ns i ≡ Some n → decls_need (decls_lines (take i ns)) + decls_need (decls_item n.start (item_in n.bytes)) ≤ decls_need (decls_lines ns)
lines_need [] i n e = let z : ◌≡◌ {A = ℕ} 0 1 = cc in absurd (omega arith)
lines_need (m ∷ ns) zero n e = let s : m ≡ n = cc in omega (arith, need_cat (decls_item m.start (item_in m.bytes)) (decls_lines ns), ap (λ z. decls_need (decls_item z.start (item_in z.bytes))) s)
lines_need (m ∷ ns) (suc i) n e = omega (arith, need_cat (decls_item m.start (item_in m.bytes)) (decls_lines ns), need_cat (decls_item m.start (item_in m.bytes)) (decls_lines (take i ns)), lines_need ns i n e)

module _ (p : Texts) (l : Layout) (file : ℕ) (ws : List ℕ) (a : ℕ) (o : InOrder l ws) (low : l.index ≤ a) where
  pub done_none : a ≤ l.work → Done p l file ws a 0 0 0 a ws
  done_none h = record { went = record { onward = omega arith; within = h; kept = kept_none l a ws }; begins = begins_first p file; stands = λ x e. declared_none (texts_in l ws) l.texts file ws a (omega (arith, o.row)) }

  module _ (i start count to : ℕ) (vs : List ℕ) (d : Done p l file ws a i start count to vs) where
    pub done_order : InOrder l vs
    done_order = order_kept l ws vs d.went.kept.long o

    pub done_texts : texts_in l vs ≡ texts_in l ws
    done_texts = texts_kept l a to ws vs o.slot low d.went.kept

    pub done_few : (x : File) → slice_get p file ≡ Some x → 9 * count ≤ to
    done_few x e = let s = d.stands x e in omega (arith, s.ends, s.counts, need_many (decls_lines (take i (lines x.text))))

    pub put_few : (us : List ℕ) (s : Put) (x : File) → slice_get p file ≡ Some x → NthSays p l file i start vs to us (Ok s) → 9 * s.listed.count ≤ s.listed.to
    put_few us s x e n = let q = (n.3 x e).stands in omega (arith, q.ends, q.counts, need_many (decls_item (n.3 x e).line.start (item_in (n.3 x e).line.bytes)))

    pub done_more : (us : List ℕ) (s : Put) → NthSays p l file i start vs to us (Ok s) → Done p l file ws a (i + 1) (start + (s.len + 1)) (count + s.listed.count) s.listed.to us
    done_more us s n = record {
      went = record { onward = omega (arith, d.went.onward, n.0.onward); within = n.0.within; kept = kept_on l a to to s.listed.to ws vs us d.went.onward n.0.onward d.went.kept n.0.kept };
      begins = begins_next p file i start s.len d.begins (λ x e. ((n.3 x e).line, (n.3 x e).is_line, (n.3 x e).long));
      stands = λ x e.
          let was = declared_in (texts_in l ws) l.texts file vs us a to count (decls_lines (take i (lines x.text))) (omega (arith, n.0.kept.long)) (λ j y z. n.0.kept.before j (omega (arith, o.slot, low)) z) (d.stands x e) in
          let k = n.3 x e in
          let one = subst (λ m. Declared m l.texts file us to s.listed.to s.listed.count (decls_item k.line.start (item_in k.line.bytes))) done_texts k.stands in
          subst (Declared (texts_in l ws) l.texts file us a s.listed.to (count + s.listed.count)) (sym (lines_more (lines x.text) i k.line k.is_line)) (declared_join (texts_in l ws) l.texts file us a to s.listed.to count s.listed.count (decls_lines (take i (lines x.text))) (decls_item k.line.start (item_in k.line.bytes)) was one);
    }

    pub done_stops : (us : List ℕ) (z : NoRoom) → NthSays p l file i start vs to us (Err z) → LinesSays p l file ws a us (Err z)
    done_stops us z n = (kept_on l a to to l.work ws vs us d.went.onward d.went.within d.went.kept n.0, why n.1)
      where
        why : LineTrouble p l (length vs) ⊎ ((x : File) → slice_get p file ≡ Some x → NthShort x l i to) → LineTrouble p l (length ws) ⊎ ((x : File) → slice_get p file ≡ Some x → l.work < a + decls_need (decls x))
        why (inl t) = inl (subst (LineTrouble p l) d.went.kept.long t)
        why (inr f) = inr (λ x e. let s = f x e in omega (arith, s.2, (d.stands x e).ends, lines_need (lines x.text) i s.0 s.1))

    pub done_all : ((x : File) → slice_get p file ≡ Some x → length (lines x.text) ≤ i) → LinesSays p l file ws a vs (Ok (record { count = count; to = to }))
    done_all h = (d.went, λ x e. subst (λ ns. Declared (texts_in l ws) l.texts file vs a to count (decls_lines ns)) (take_all i (lines x.text) (h x e)) (d.stands x e))
