-- A line fetched and read.
use Rattle.std.proofs.Common.{◌≡◌, ℕ, ◌+◌, ◌-◌, ◌*◌, ◌/◌, ◌<◌, ◌≤◌, min, ◌⊎◌, List, length, get_or, take, drop, Some, None, Ok, Err, Result, sym, refl, ap, ◌∙◌, subst, inl, inr, arith}
use Rattle.std.proofs.lemmas.List.{length-take, length-drop, take_all, get_or-take, get_or-drop, drop-take, take-take}
use Rattle.std.proofs.lemmas.Bool.{cases_lt}
use Rattle.grammar.specs.Grammar.{Item, nothing, i_use, i_kind, i_rec, i_def, i_bad}
use Rattle.grammar.specs.Code.{item_code}
use Rattle.parser.specs.Rows.{ops, ops_of}
use Rattle.syntax.specs.Line.{item_in, Understood, room_for}
use Rattle.syntax.proofs.Views.{ops_take}
use Rattle.declarations.proofs.Found.{ops_length}
use Rattle.symbols.specs.Table.{word}
use Rattle.symbols.specs.declared.layout.Layout.{Layout}
use Rattle.collector.specs.declared.line.Loaded.{Loaded}
use Rattle.symbols.specs.Rows.{InOrder, texts_in, FetchSays}
use Rattle.collector.specs.Rows.{Kept}
use Rattle.std.specs.List.{slice_get}
use Rattle.lexer.specs.Tokens.{lines}
use Rattle.semantics.specs.Names.{Texts}
use Rattle.source.specs.declared.Extent.{Extent}
use Rattle.source.specs.Source.{Stands}
use Rattle.collector.specs.declared.NoRoom.{NoRoom}
use Rattle.collector.specs.Says.{plain, Loads, TooLong, ReadSays, LineTrouble, There, LoadSays}
use Rattle.collector.proofs.Writes.{kept_on, order_kept}

pub plain_understood : (it : Item) → Understood it → plain it ≡ it
plain_understood nothing u = refl
plain_understood (i_use t) u = refl
plain_understood (i_kind t cs) u = refl
plain_understood (i_rec t fs) u = refl
plain_understood (i_def t ps r e) u = refl
plain_understood (i_bad a b) u = absurd u

-- operations, no more than there are words for
clamped : (line xs : List ℕ) (n : ℕ) → ops line (take (5 * min n (length xs / 5)) xs) ≡ ops line (take (5 * n) xs)
clamped line xs n = elim (cases_lt (length xs / 5) n) [ inl h ↦ past h | inr h ↦ (let e : min n (length xs / 5) ≡ n = omega arith in ap (λ k. ops line (take (5 * k) xs)) e) ]
  where
    past : length xs / 5 < n → ops line (take (5 * min n (length xs / 5)) xs) ≡ ops line (take (5 * n) xs)
    past h =
        let e : min n (length xs / 5) ≡ length xs / 5 = omega arith in
        ap (λ k. ops line (take (5 * k) xs)) e ∙ ops_take line xs (length xs / 5) (omega arith) ∙ take_all (length xs / 5) (ops line xs) (omega (arith, ops_length line xs)) ∙ ap (ops line) (sym (take_all (5 * n) xs (omega arith)))

pub front_words : (n : ℕ) (vs us : List ℕ) → take n vs ≡ take n us → (i : ℕ) → i < n → word vs i ≡ word us i
front_words n vs us e i h = sym (get_or-take n vs i 0 h) ∙ ap (λ xs. get_or xs i 0) e ∙ get_or-take n us i 0 h

-- a line was fetched: what is behind the slot stays
pub fetched_kept : (l : Layout) (ws us : List ℕ) → InOrder l ws → length us ≡ length ws → drop l.texts us ≡ drop l.texts ws → Kept l l.index l.index ws us
fetched_kept l ws us o long e = record { long = long; before = λ i x y. same i x; behind = λ i x y. same i (omega (arith, o.slot)) }
  where
    same : (i : ℕ) → l.texts ≤ i → word us i ≡ word ws i
    same i x =
        let n : l.texts + (i - l.texts) ≡ i = omega arith in
        ap (word us) (sym n) ∙ sym (get_or-drop l.texts us (i - l.texts) 0) ∙ ap (λ xs. get_or xs (i - l.texts) 0) e ∙ get_or-drop l.texts ws (i - l.texts) 0 ∙ ap (word ws) n

-- ws: with a line in the slot; vs: read
module _ (l : Layout) (ws vs : List ℕ) (e : Extent) (o : InOrder l ws) (h : e.len ≤ l.texts) (vl : length vs ≡ length ws) (front : take l.work vs ≡ take l.work ws) where
  abbrev len : ℕ
  len = e.len

  pub read_kept : Kept l l.index l.index ws vs
  read_kept = record {
    long = vl;
    before = λ i x y. front_words l.work vs ws front i (omega (arith, o.table));
    behind = λ i x y. front_words l.work vs ws front i y;
  }

  pub read_line_is : take len vs ≡ take len ws
  read_line_is = let w = o.table in let s = o.slot in sym (take-take len l.work vs (omega arith)) ∙ ap (take len) front ∙ take-take len l.work ws (omega arith)

  pub read_loads : (count n : ℕ) → n ≡ min count ((length vs - l.work) / 5) → Understood (item_in (take len ws)) → ops_of (take len ws) l.work count vs ≡ item_code (item_in (take len ws)) → Loads l vs (record { place = e.from; len = len; count = n })
  read_loads count n m u c =
      let d = length-drop l.work vs in
      let w = o.row in
      let es : n ≡ min count (length (drop l.work vs) / 5) = m ∙ ap (λ k. min count (k / 5)) (sym d) in
      let cut : ops_of (take len vs) l.work n vs ≡ ops_of (take len ws) l.work count vs =
      ap (λ x. ops x (drop l.work (take (l.work + 5 * n) vs))) read_line_is ∙ ap (ops (take len ws)) (drop-take l.work (5 * n) vs) ∙ ap (λ k. ops (take len ws) (take (5 * k) (drop l.work vs))) es ∙ clamped (take len ws) (drop l.work vs) count ∙ ap (ops (take len ws)) (sym (drop-take l.work (5 * count) vs)) in
      record { order = order_kept l ws vs vl o; short = h; code_in = omega arith; code_is = cut ∙ c ∙ ap item_code (sym (plain_understood (item_in (take len ws)) u)) ∙ ap (λ x. item_code (plain (item_in x))) (sym read_line_is) }

  pub read_wrong : (x y : ℕ) → item_in (take len ws) ≡ i_bad x y → Loads l vs (record { place = e.from; len = len; count = 0 })
  read_wrong x y b =
      let w = o.row in
      record { order = order_kept l ws vs vl o; short = h; code_in = omega arith; code_is = ap (ops (take len vs)) (drop-take l.work 0 vs) ∙ ap (λ z. item_code (plain z)) (sym b) ∙ ap (λ z. item_code (plain (item_in z))) (sym read_line_is) }

  pub read_no_room : (4294967000 ≤ len) ⊎ (l.work < len) ⊎ (length ws < l.work + room_for len) → TooLong l (length ws) len
  read_no_room (inl x) = inr (omega (arith, o.small))
  read_no_room (inr (inl y)) = absurd (omega (arith, o.slot, o.table))
  read_no_room (inr (inr y)) = inr y

-- a part of a part
pub cut_in : (xs : List ℕ) (k o n : ℕ) → o + n ≤ k → take n (drop o (take k xs)) ≡ take n (drop o xs)
cut_in xs k o n h = sym (drop-take o n (take k xs)) ∙ ap (drop o) (take-take (o + n) k xs h) ∙ drop-take o n xs

pub texts_long : (l : Layout) (ws : List ℕ) → InOrder l ws → length (texts_in l ws) ≡ l.index - l.texts
texts_long l ws o = length-take (l.index - l.texts) (drop l.texts ws) ∙ omega (arith, length-drop l.texts ws, o.slot, o.table, o.row)

-- the line that was read is the one that stands there
pub load_says : (p : Texts) (l : Layout) (file i : ℕ) (ws us vs : List ℕ) (e : Extent) (r : Result Loaded NoRoom) → InOrder l ws → length us ≡ length ws → drop l.texts us ≡ drop l.texts ws → FetchSays l p file i (texts_in l ws) us (Some e) → ReadSays l us e vs r → LoadSays p l file i ws vs r
load_says p l file i ws us vs e (Ok r) o long behind f d =
    let n = f.3 in
    let m = texts_in l ws in
    let same : record { from = r.place - l.texts; len = r.len } ≡ record { from = e.from - l.texts; len = e.len } = λ j. record { from = d.2 j - l.texts; len = d.3 j } in
    let st : Stands m (record { from = r.place - l.texts; len = r.len }) f.1.bytes = subst (λ x. Stands m x f.1.bytes) (sym same) n.in_texts in (
      kept_on l l.index l.index l.index l.index ws us vs (omega arith) (omega arith) (fetched_kept l ws us o long behind) d.0,
      d.1,
      omega (arith, d.2, n.begins, n.in_texts.0, texts_long l ws o, o.slot),
      λ x k.
          let g : f.0 ≡ x = let a = f.2.file in cc in
          record {
            line = f.1;
            is_line = ap (λ y. slice_get (lines y.text) i) (sym g) ∙ f.2.line;
            bytes_are = d.4 ∙ n.in_slot;
            stands = record { begins = omega (arith, d.2, n.begins); ends = st.0; bytes_are = st.1 };
          },
    )
load_says p l file i ws us vs e (Err z) o long behind f d =
    let T : ℕ → Type 0 = λ k. TooLong l (length ws) k in
    (kept_on l l.index l.index l.index l.index ws us vs (omega arith) (omega arith) (fetched_kept l ws us o long behind) d.0, record { file = file; number = i; text = f.0; line = f.1; is_file = f.2.file; is_line = f.2.line; why = inl (subst T f.3.long (subst (λ k. TooLong l k e.len) long d.1)) })

-- a line that is there and wasn't fetched is longer than the slot
pub not_fetched : (p : Texts) (l : Layout) (file i long : ℕ) (m us : List ℕ) → There p file i → FetchSays l p file i m us None → LineTrouble p l long
not_fetched p l file i long m us t (inl h) = absurd (omega (arith, h t.0 t.1, t.2))
not_fetched p l file i long m us t (inr (x, n, is, far)) = record { file = file; number = i; text = x; line = n; is_file = is.file; is_line = is.line; why = inl (inl far) }
