-- A file's words, its list and its declarations.
use Rattle.std.proofs.Common.{◌≡◌, ℕ, ◌+◌, ◌-◌, ◌*◌, ◌<◌, ◌≤◌, ◌⊎◌, List, [], ◌∷◌, length, Some, Ok, Err, ◌∙◌, subst, inl, inr, arith}
use Rattle.std.proofs.lemmas.Option.{slice_get_within}
use Rattle.std.specs.List.{slice_get}
use Rattle.semantics.specs.Names.{File, Texts, decls, used}
use Rattle.source.specs.declared.Extent.{Extent}
use Rattle.source.specs.Source.{NameSays, Stands}
use Rattle.symbols.specs.Table.{word, file_row}
use Rattle.symbols.specs.declared.layout.Layout.{Layout}
use Rattle.collector.specs.declared.NoRoom.{NoRoom}
use Rattle.collector.specs.declared.entry.Listed.{Listed}
use Rattle.symbols.specs.Rows.{InOrder, texts_in}
use Rattle.collector.specs.Rows.{Wrote, Held}
use Rattle.collector.specs.Entries.{Declared, decls_need, uses_need}
use Rattle.collector.specs.Says.{LineTrouble, UsesSays, LinesSays}
use Rattle.collector.specs.Collected.{file_need, FileSays}
use Rattle.collector.proofs.Writes.{kept_on, order_kept, texts_kept}
use Rattle.collector.proofs.Entered.{declared_in, need_many}
use Rattle.collector.proofs.Used.{using_in, using_end}

module _ (p : Texts) (l : Layout) (k a : ℕ) (ws us : List ℕ) (o : InOrder l ws) (low : l.index + 1 + 6 * length p ≤ a) (high : a ≤ l.work) (x : File) (there : slice_get p k ≡ Some x) where
  -- the file's words lie before the lists
  pub row_low : file_row l.index k + 6 ≤ a
  row_low = omega (arith, slice_get_within p k x there)

  pub few_files : length p < 4294967296
  few_files = omega (arith, o.row, o.small)

  pub file_small : k < 4294967296
  file_small = omega (arith, slice_get_within p k x there, few_files)

  pub file_unlisted : (z : NoRoom) → UsesSays p l k ws a us (Err z) → FileSays p l k ws a us (Err z)
  file_unlisted z s = (s.0, why s.1)
    where
      why : LineTrouble p l (length ws) ⊎ ((y : File) → slice_get p k ≡ Some y → l.work < a + uses_need p (used y)) → LineTrouble p l (length ws) ⊎ ((y : File) → slice_get p k ≡ Some y → l.work < a + file_need p y)
      why (inl t) = inl t
      why (inr f) = inr (λ y e. omega (arith, f y e))

  module _ (mid : ℕ) (u : UsesSays p l k ws a us (Ok mid)) (vs : List ℕ) where
    pub mid_order : InOrder l us
    mid_order = order_kept l ws us u.0.kept.long o

    pub mid_texts : texts_in l us ≡ texts_in l ws
    mid_texts = texts_kept l a mid ws us o.slot (omega arith) u.0.kept

    pub file_undeclared : (z : NoRoom) → LinesSays p l k us mid vs (Err z) → FileSays p l k ws a vs (Err z)
    file_undeclared z s = (kept_on l a mid mid l.work ws us vs u.0.onward u.0.within u.0.kept s.0, why s.1)
      where
        why : LineTrouble p l (length us) ⊎ ((y : File) → slice_get p k ≡ Some y → l.work < mid + decls_need (decls y)) → LineTrouble p l (length ws) ⊎ ((y : File) → slice_get p k ≡ Some y → l.work < a + file_need p y)
        why (inl t) = inl (subst (LineTrouble p l) u.0.kept.long t)
        why (inr f) = inr (λ y e. omega (arith, f y e, using_end p us a mid (used y) (u.1 y e)))

    module _ (e : Listed) (d : LinesSays p l k us mid vs (Ok e)) where
      pub count_small : 9 * e.count ≤ e.to
      count_small = let s = d.1 x there in omega (arith, s.ends, s.counts, need_many (decls x))

      pub file_done : (zs : List ℕ) (n : Extent) → NameSays p k (texts_in l ws) (Some n) → Wrote (file_row l.index k) (file_row l.index k + 6) vs zs → Held zs (file_row l.index k) ((l.texts + n.from) ∷ n.len ∷ a ∷ (mid - a) ∷ mid ∷ e.count ∷ []) → FileSays p l k ws a zs (Ok e.to)
      file_done zs n s w h =
          let r = row_low in
          let u0 = u.0.onward in
          let d0 = d.0.onward in (
            record { onward = omega arith; within = d.0.within; long = w.long ∙ d.0.kept.long ∙ u.0.kept.long; same = λ i t b c f. own i c ∙ rest i t b f },
            λ y q.
                let same : s.0 ≡ y = let g = s.1 in cc in
                record {
                  name = n;
                  name_stands = subst (λ z. Stands (texts_in l ws) n z.name) same s.2;
                  mid = mid;
                  count = e.count;
                  row = h;
                  uses = using_in p us zs a mid (used y) (omega (arith, w.long, d.0.kept.long)) (λ i b c. w.behind i (omega arith) ∙ d.0.kept.before i (omega (arith, o.slot)) c) (u.1 y q);
                  declares = declared_in (texts_in l ws) l.texts k vs zs mid e.to e.count (decls y) (omega (arith, w.long)) (λ i b c. w.behind i (omega arith)) (subst (λ m. Declared m l.texts k vs mid e.to e.count (decls y)) mid_texts (d.1 y q));
                },
          )
        where
          own : (i : ℕ) → (i < file_row l.index k) ⊎ (file_row l.index k + 6 ≤ i) → word zs i ≡ word vs i
          own i (inl c) = w.before i c
          own i (inr c) = w.behind i c

          rest : (i : ℕ) → l.texts ≤ i → i < l.work → (i < a) ⊎ (e.to ≤ i) → word vs i ≡ word ws i
          rest i t b (inl c) = d.0.kept.before i t (omega (arith, u.0.onward)) ∙ u.0.kept.before i t c
          rest i t b (inr c) = d.0.kept.behind i c b ∙ u.0.kept.behind i (omega (arith, d.0.onward)) b
