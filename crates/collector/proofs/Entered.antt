-- Declarations that stand in the table.
use Rattle.std.proofs.Common.{◌≡◌, ℕ, ◌+◌, ◌-◌, ◌*◌, ◌<◌, ◌≤◌, List, [], ◌∷◌, ◌++◌, map, length, Some, sym, refl, ap, ◌∙◌, subst, arith}
use Rattle.std.specs.List.{slice_get}
use Rattle.std.proofs.lemmas.List.{append-nil, append_assoc, length-append, map-append}
use Rattle.lexer.specs.Tokens.{toks, gap}
use Rattle.semantics.specs.Names.{Decl, decls_item}
use Rattle.semantics.proofs.Lists.{each_cat}
use Rattle.semantics.specs.Numbers.{sort_number}
use Rattle.declarations.specs.Theorems.{DeclIn}
use Rattle.syntax.specs.Line.{item_in}
use Rattle.symbols.specs.Table.{word}
use Rattle.symbols.specs.declared.layout.Layout.{Layout}
use Rattle.collector.specs.declared.line.Loaded.{Loaded}
use Rattle.collector.specs.declared.entry.Head.{Head}
use Rattle.collector.specs.Rows.{Wrote, Held}
use Rattle.collector.specs.Entries.{Entry, Inside, slot_words, entry_words, entries_words, decl_of, decl_need, decls_need, Declared}
use Rattle.collector.specs.Says.{HeadIs, InTexts}
use Rattle.collector.proofs.Writes.{held_none, held_join, held_at, held_wrote}
use Rattle.collector.proofs.Heads.{begun, begun_same, decl_in, entry_inside}
use Rattle.collector.proofs.Fields.{slot_words_long}

pub entries_cat : (t k : ℕ) (es fs : List Entry) → entries_words t k (es ++ fs) ≡ entries_words t k es ++ entries_words t k fs
entries_cat t k [] fs = refl
entries_cat t k (e ∷ es) fs = ap (λ ws. entry_words t k e ++ ws) (entries_cat t k es fs) ∙ sym (append_assoc (entry_words t k e) (entries_words t k es) (entries_words t k fs))

pub entry_long : (t k : ℕ) (e : Entry) → length (entry_words t k e) ≡ decl_need e.decl
entry_long t k e = omega (arith, slot_words_long e.decl.fields)

pub entries_long : (t k : ℕ) (es : List Entry) → length (entries_words t k es) ≡ decls_need (map decl_of es)
entries_long t k [] = refl
entries_long t k (e ∷ es) = length-append (entry_words t k e) (entries_words t k es) ∙ omega (arith, entry_long t k e, entries_long t k es)

pub need_cat : (ds xs : List Decl) → decls_need (ds ++ xs) ≡ decls_need ds + decls_need xs
need_cat [] xs = omega arith
need_cat (d ∷ ds) xs = omega (arith, need_cat ds xs)

pub need_many : (ds : List Decl) → 9 * length ds ≤ decls_need ds
need_many [] = omega arith
need_many (d ∷ ds) = omega (arith, need_many ds)

pub declared_none : (m : List ℕ) (t k : ℕ) (ws : List ℕ) (a : ℕ) → a ≤ length ws → Declared m t k ws a a 0 []
declared_none m t k ws a h = record { entries = []; are = refl; inside = tt; held = held_none ws a h; ends = omega arith; counts = refl }

pub declared_join : (m : List ℕ) (t k : ℕ) (ws : List ℕ) (a b c x y : ℕ) (ds es : List Decl) → Declared m t k ws a b x ds → Declared m t k ws b c y es → Declared m t k ws a c (x + y) (ds ++ es)
declared_join m t k ws a b c x y ds es p q = record {
  entries = p.entries ++ q.entries;
  are = map-append decl_of p.entries q.entries ∙ ap (λ zs. zs ++ map decl_of q.entries) p.are ∙ ap (λ zs. ds ++ zs) q.are;
  inside = each_cat (Inside m) p.entries q.entries p.inside q.inside;
  held = subst (Held ws a) (sym (entries_cat t k p.entries q.entries)) (held_join ws a b (entries_words t k p.entries) (entries_words t k q.entries) (p.ends ∙ ap (λ n. a + n) (sym (entries_long t k p.entries ∙ ap decls_need p.are))) p.held q.held);
  ends = omega (arith, p.ends, q.ends, need_cat ds es);
  counts = omega (arith, p.counts, q.counts, length-append ds es);
}

words_end : (m : List ℕ) (t k : ℕ) (ws : List ℕ) (a b n : ℕ) (ds : List Decl) (p : Declared m t k ws a b n ds) → a + length (entries_words t k p.entries) ≡ b
words_end m t k ws a b n ds p = omega (arith, p.ends, entries_long t k p.entries, ap decls_need p.are)

-- in another row that has the same words there
pub declared_at : (m : List ℕ) (t k : ℕ) (ws vs : List ℕ) (a b n : ℕ) (ds : List Decl) → b ≤ length vs → ((i : ℕ) → a ≤ i → i < b → word vs i ≡ word ws i) → Declared m t k ws a b n ds → Declared m t k vs a b n ds
declared_at m t k ws vs a b n ds h e p =
    let w = words_end m t k ws a b n ds p in
    record {
      entries = p.entries;
      are = p.are;
      inside = p.inside;
      held = held_at ws vs a (entries_words t k p.entries) (omega arith) (λ i x y. e i x (omega arith)) p.held;
      ends = p.ends;
      counts = p.counts;
    }

pub declared_in : (m : List ℕ) (t k : ℕ) (ws vs : List ℕ) (a b n : ℕ) (ds : List Decl) → length ws ≤ length vs → ((i : ℕ) → a ≤ i → i < b → word vs i ≡ word ws i) → Declared m t k ws a b n ds → Declared m t k vs a b n ds
declared_in m t k ws vs a b n ds h e p = declared_at m t k ws vs a b n ds (omega (arith, words_end m t k ws a b n ds p, p.held.within)) e p

-- one declaration, by its head and its fields
pub one_entered : (l : Layout) (m line ws vs : List ℕ) (r : Loaded) (k s a i : ℕ) (h : Head) (b : ℕ) (x y : Decl) → b ≡ sort_number h.sort → InTexts l m line r → slice_get (decls_item 0 (item_in line)) i ≡ Some x → HeadIs line x h → slice_get (decls_item s (item_in line)) i ≡ Some y → Wrote (a + 9) (a + 9 + 4 * h.slots) ws vs → Held ws a (k ∷ s ∷ r.place ∷ b ∷ h.name.from ∷ h.name.to ∷ h.ty.from ∷ h.ty.to ∷ h.slots ∷ []) → Held vs (a + 9) (slot_words x.fields) → Declared m l.texts k vs a (a + 9 + 4 * h.slots) 1 (y ∷ [])
one_entered l m line ws vs r k s a i h b x y q p e d f w hd fl =
    let o = r.place - l.texts in
    let same : y ≡ begun s x = begun_same s (item_in line) i x y e f in
    let en : Entry = record { decl = begun s x; ty = d.type; line = o } in
    let di = subst (DeclIn (toks gap 0 line)) same (decl_in line s i y f) in
    let back : r.place ≡ l.texts + o = omega (arith, p.begins) in
    let x1 = d.sort_is in
    let x2 = d.from_is in
    let x3 = d.to_is in
    let x4 = d.type_from in
    let x5 = d.type_to in
    let x6 = d.slots_are in
    let is : ◌≡◌ {A = List ℕ} (k ∷ s ∷ r.place ∷ b ∷ h.name.from ∷ h.name.to ∷ h.ty.from ∷ h.ty.to ∷ h.slots ∷ []) (k ∷ s ∷ (l.texts + o) ∷ x.sort ∷ x.from ∷ x.to ∷ d.type.from ∷ d.type.to ∷ length x.fields ∷ []) = cc in
    let hv = held_wrote ws vs a (a + 9) (a + 9 + 4 * h.slots) _ (omega arith) w hd in
    let whole = held_join vs a (a + 9) (k ∷ s ∷ (l.texts + o) ∷ x.sort ∷ x.from ∷ x.to ∷ d.type.from ∷ d.type.to ∷ length x.fields ∷ []) (slot_words x.fields) (omega arith) (subst (Held vs a) is hv) fl in
    record {
      entries = en ∷ [];
      are = ap (λ z. z ∷ []) (sym same);
      inside = (entry_inside m o r.len line (begun s x) d.type p.bytes_are p.ends di d.type_among d.type_is, tt);
      held = subst (Held vs a) (sym (append-nil (entry_words l.texts k en))) whole;
      ends = omega (arith, d.slots_are, ap (λ z. length z.fields) same);
      counts = refl;
    }
