-- The table of all files.
use Rattle.std.proofs.Common.{◌≡◌, ℕ, zero, suc, ◌+◌, ◌-◌, ◌*◌, ◌<◌, ◌≤◌, ◌⊎◌, List, [], ◌∷◌, length, get_or, take, drop, Some, Ok, Err, sym, refl, ap, ◌∙◌, subst, inl, inr, arith}
use Rattle.std.proofs.lemmas.Option.{slice_get_within}
use Rattle.std.specs.List.{slice_get}
use Rattle.std.proofs.lemmas.List.{length-take, length-drop, length-map, get_or-take, get_or-drop, drop-drop, take-take}
use Rattle.std.proofs.lemmas.Bool.{cases_lt}
use Rattle.semantics.specs.Names.{File, Texts, decls, used}
use Rattle.symbols.specs.Table.{word, text_at, file_row, file_name, used_in, first_decl, decl_count, decls_from}
use Rattle.symbols.specs.Tabled.{Uses, Owned, FileTabled, Tabled}
use Rattle.symbols.specs.declared.layout.Layout.{Layout}
use Rattle.collector.specs.declared.NoRoom.{NoRoom}
use Rattle.symbols.specs.Rows.{InOrder, texts_in}
use Rattle.collector.specs.Rows.{Kept, Held}
use Rattle.collector.specs.Entries.{decl_of}
use Rattle.collector.specs.Says.{LineTrouble}
use Rattle.collector.specs.Collected.{file_need, files_need, table_need, FileStands, FileWrote, FileSays, Collected, TooFew}
use Rattle.collector.proofs.Writes.{held_at, kept_none, kept_wider, order_kept, texts_kept}
use Rattle.collector.proofs.Heads.{nth_some}
use Rattle.collector.proofs.Loading.{cut_in}
use Rattle.collector.proofs.Entered.{declared_at}
use Rattle.collector.proofs.Used.{using_at, using_end}
use Rattle.collector.proofs.Decode.{held_first, held_text, entries_owned, entries_read}

-- a file's words say what they should
module _ (p : Texts) (l : Layout) (m ws : List ℕ) (at_m : texts_in l ws ≡ m) (k a b : ℕ) (f : File) (s : FileStands p l m ws k a b f) where
  r : ℕ
  r = file_row l.index k

  row0 : word ws (file_row l.index k) ≡ l.texts + s.name.from
  row0 = held_first ws (file_row l.index k) (l.texts + s.name.from) (s.name.len ∷ a ∷ (s.mid - a) ∷ s.mid ∷ s.count ∷ []) s.row

  row1 : word ws (file_row l.index k + 1) ≡ s.name.len
  row1 = s.row.reads 1 (omega arith)

  row2 : word ws (file_row l.index k + 2) ≡ a
  row2 = s.row.reads 2 (omega arith)

  row3 : word ws (file_row l.index k + 3) ≡ s.mid - a
  row3 = s.row.reads 3 (omega arith)

  row4 : word ws (file_row l.index k + 4) ≡ s.mid
  row4 = s.row.reads 4 (omega arith)

  row5 : word ws (file_row l.index k + 5) ≡ s.count
  row5 = s.row.reads 5 (omega arith)

  name_read : file_name ws l.index k ≡ f.name
  name_read =
      let n = s.name_stands.0 in
      let size = l.index - l.texts in
      let e : length m ≤ size = omega (arith, ap length at_m, length-take size (drop l.texts ws)) in
      ap (λ i. text_at ws i (word ws (file_row l.index k + 1))) row0 ∙ ap (text_at ws (l.texts + s.name.from)) row1 ∙ ap (take s.name.len) (sym (drop-drop s.name.from l.texts ws)) ∙ sym (cut_in (drop l.texts ws) size s.name.from s.name.len (omega arith)) ∙ ap (λ x. take s.name.len (drop s.name.from x)) at_m ∙ s.name_stands.1

  uses_read : used_in ws l.index k ≡ s.uses.files
  uses_read =
      let u = s.uses.ends in
      ap (λ i. text_at ws i (word ws (file_row l.index k + 3))) row2 ∙ ap (text_at ws a) row3 ∙ held_text ws a (s.mid - a) s.uses.files (omega arith) s.uses.held

  many : s.count ≡ length s.declares.entries
  many = s.declares.counts ∙ ap length (sym s.declares.are) ∙ length-map s.declares.entries decl_of

  pub stands_tabled : FileTabled p ws l.index k f
  stands_tabled =
      let d = s.declares in
      let es = d.entries in
      let t = l.texts in
      let n : decl_count ws l.index k ≡ length es = row5 ∙ many in
      record {
        name_is = name_read;
        uses = subst (λ gs. Uses p gs (used f)) (sym uses_read) s.uses.uses;
        owned = subst (λ c. Owned ws k c (first_decl ws l.index k)) (sym n) (subst (Owned ws k (length es)) (sym row4) (entries_owned ws m t (l.index - t) at_m k s.mid es d.inside d.held));
        declares = ap (λ c. decls_from ws c (first_decl ws l.index k)) n ∙ ap (decls_from ws (length es)) row4 ∙ entries_read ws m t (l.index - t) at_m k s.mid es d.inside d.held ∙ d.are;
      }

-- and in another row that has the same words there
pub stands_at : (p : Texts) (l : Layout) (m ws vs : List ℕ) (k a b : ℕ) (f : File) → file_row l.index k + 6 ≤ length vs → b ≤ length vs → ((i : ℕ) → file_row l.index k ≤ i → i < file_row l.index k + 6 → word vs i ≡ word ws i) → ((i : ℕ) → a ≤ i → i < b → word vs i ≡ word ws i) → FileStands p l m ws k a b f → FileStands p l m vs k a b f
stands_at p l m ws vs k a b f h g e d s =
    let u = s.uses.ends in
    let v = s.declares.ends in
    record {
      name = s.name;
      name_stands = s.name_stands;
      mid = s.mid;
      count = s.count;
      row = held_at ws vs (file_row l.index k) ((l.texts + s.name.from) ∷ s.name.len ∷ a ∷ (s.mid - a) ∷ s.mid ∷ s.count ∷ []) (omega arith) (λ i x y. e i x (omega arith)) s.row;
      uses = using_at p ws vs a s.mid (used f) (omega arith) (λ i x y. d i x (omega arith)) s.uses;
      declares = declared_at m l.texts k ws vs s.mid b s.count (decls f) g (λ i x y. d i (omega arith) y) s.declares;
    }

-- how many words lists and declarations take
abbrev bodies : Texts → List File → ℕ
bodies p [] = 0
bodies p (f ∷ fs) = file_need p f + bodies p fs

need_bodies : (p : Texts) (fs : List File) → files_need p fs ≡ 6 * length fs + bodies p fs
need_bodies p [] = refl
need_bodies p (f ∷ fs) = omega (arith, need_bodies p fs)

-- no room for the files' own words
pub few_rows : (p : Texts) (n : ℕ) → n < 1 + 6 * length p → n < table_need p
few_rows p n h = omega (arith, need_bodies p p)

bodies_more : (p : Texts) (fs : List File) (k : ℕ) (f : File) → slice_get fs k ≡ Some f → bodies p (take (k + 1) fs) ≡ bodies p (take k fs) + file_need p f
bodies_more p [] k f e = let z : ◌≡◌ {A = ℕ} 0 1 = cc in absurd (omega arith)
bodies_more p (g ∷ fs) zero f e = let s : g ≡ f = cc in omega (arith, ap (file_need p) s)
bodies_more p (g ∷ fs) (suc k) f e = let n : suc k + 1 ≡ suc (k + 1) = omega arith in ap (λ j. bodies p (take j (g ∷ fs))) n ∙ omega (arith, bodies_more p fs k f e)

bodies_upto : (p : Texts) (fs : List File) (k : ℕ) (f : File) → slice_get fs k ≡ Some f → bodies p (take k fs) + file_need p f ≤ bodies p fs
bodies_upto p [] k f e = let z : ◌≡◌ {A = ℕ} 0 1 = cc in absurd (omega arith)
bodies_upto p (g ∷ fs) zero f e = let s : g ≡ f = cc in omega (arith, ap (file_need p) s)
bodies_upto p (g ∷ fs) (suc k) f e = omega (arith, bodies_upto p fs k f e)

-- where lists and declarations begin
abbrev pub base_of : Texts → Layout → ℕ
base_of p l = l.index + 1 + 6 * length p

-- a file that is done
pub record FileDone (p : Texts) (l : Layout) (m vs : List ℕ) (to k : ℕ) (f : File) : Type 0 where
  pub from : ℕ
  pub end : ℕ
  pub low : base_of p l ≤ from
  pub high : end ≤ to
  pub stands : FileStands p l m vs k from end f

-- the files before the k-th are done
pub record Tabling (p : Texts) (l : Layout) (ws : List ℕ) (k to : ℕ) (vs : List ℕ) : Type 0 where
  pub kept : Kept l l.index l.work ws vs
  pub within : to ≤ l.work
  pub ends : to ≡ base_of p l + bodies p (take k p)
  pub counts : word vs l.index ≡ length p
  pub done : (j : ℕ) (f : File) → j < k → slice_get p j ≡ Some f → FileDone p l (texts_in l ws) vs to j f

module _ (p : Texts) (l : Layout) (ws : List ℕ) (o : InOrder l ws) where
  pub tabling_none : base_of p l ≤ l.work → Held ws l.index (length p ∷ []) → Tabling p l ws 0 (base_of p l) ws
  tabling_none h d = record {
    kept = kept_wider l l.index l.index l.index l.work ws ws (omega arith) o.table (kept_none l l.index ws);
    within = h;
    ends = omega arith;
    counts = held_first ws l.index (length p) [] d;
    done = λ j f b e. absurd (omega arith);
  }

  module _ (k to : ℕ) (vs : List ℕ) (t : Tabling p l ws k to vs) where
    pub tabling_order : InOrder l vs
    tabling_order = order_kept l ws vs t.kept.long o

    pub tabling_texts : texts_in l vs ≡ texts_in l ws
    tabling_texts = texts_kept l l.index l.work ws vs o.slot (omega arith) t.kept

    -- a file that was done is done still
    still : (us : List ℕ) (b : ℕ) → k < length p → FileWrote l k to b vs us → (j : ℕ) (f : File) → j < k → FileDone p l (texts_in l ws) vs to j f → FileDone p l (texts_in l ws) us b j f
    still us b n w j f h d =
        let e = t.ends in
        let i0 = t.within in
        let s0 = o.slot in
        let r0 = o.row in
        let lo = d.low in
        let hi = d.high in
        let g = w.long in
        let kl = t.kept.long in
        record {
          from = d.from;
          end = d.end;
          low = d.low;
          high = omega (arith, w.onward);
          stands = stands_at p l (texts_in l ws) vs us j d.from d.end f (omega arith) (omega arith) (λ i x y. w.same i (omega arith) (omega arith) (inl (omega arith)) (inl (omega arith))) (λ i x y. w.same i (omega arith) (omega arith) (inr (omega arith)) (inl (omega arith))) d.stands;
        }

    pub tabling_more : (us : List ℕ) (b : ℕ) → k < length p → FileSays p l k vs to us (Ok b) → Tabling p l ws (k + 1) b us
    tabling_more us b n s =
        let w = s.0 in
        let x = nth_some p k n in
        let st = subst (λ m. FileStands p l m us k to b x.0) tabling_texts (s.1 x.0 x.1) in
        let e = t.ends in
        let i0 = t.within in
        let bw = w.within in
        let long : b ≡ to + file_need p x.0 = omega (arith, using_end p us to st.mid (used x.0) st.uses, st.declares.ends) in
        record {
          kept = record { long = w.long ∙ t.kept.long; before = λ i y z. w.same i y (omega (arith, o.table)) (inl (omega arith)) (inl (omega arith)) ∙ t.kept.before i y z; behind = λ i y z. absurd (omega arith) };
          within = w.within;
          ends = omega (arith, bodies_more p p k x.0 x.1);
          counts = w.same l.index o.slot (omega arith) (inl (omega arith)) (inl (omega arith)) ∙ t.counts;
          done = λ j f h q. elim (cases_lt j k) [ inl y ↦ still us b n w j f y (t.done j f y q) | inr y ↦ (let same : j ≡ k = omega arith in subst (λ i. FileDone p l (texts_in l ws) us b i f) (sym same) (let q2 : slice_get p k ≡ Some f = ap (slice_get p) (sym same) ∙ q in let x1 = x.1 in let xf : x.0 ≡ f = cc in record { from = to; end = b; low = omega arith; high = omega arith; stands = subst (FileStands p l (texts_in l ws) us k to b) xf st })) ];
        }

    pub tabling_stops : (us : List ℕ) (z : NoRoom) → k < length p → FileSays p l k vs to us (Err z) → TooFew p l (length ws)
    tabling_stops us z n s = why s.1
      where
        why : LineTrouble p l (length vs) ⊎ ((x : File) → slice_get p k ≡ Some x → l.work < to + file_need p x) → TooFew p l (length ws)
        why (inl q) = inl (subst (LineTrouble p l) t.kept.long q)
        why (inr f) = let x = nth_some p k n in let g = f x.0 x.1 in let u = bodies_upto p p k x.0 x.1 in let v = need_bodies p p in let e = t.ends in inr (omega arith)

    pub stops_texts : (us : List ℕ) → Kept l to l.work vs us → texts_in l us ≡ texts_in l ws
    stops_texts us h = let e = t.ends in texts_kept l to l.work vs us o.slot (omega arith) h ∙ tabling_texts

    pub tabling_all : length p ≤ k → Collected p l vs
    tabling_all n us small same = record { small = small; counts = agrees l.index o.slot below ∙ t.counts; files = λ j f q. tabled j f q }
      where
        below : l.index < l.work
        below = let e = t.ends in let i0 = t.within in omega arith

        high : l.work ≤ length us
        high =
            let a = length-drop l.texts (take l.work us) in
            let b = length-drop l.texts (take l.work vs) in
            let c = length-take l.work us in
            let d = length-take l.work vs in
            omega (arith, ap length same, t.kept.long, o.row, o.slot, below)

        agrees : (i : ℕ) → l.texts ≤ i → i < l.work → word us i ≡ word vs i
        agrees i x y =
            let g : l.texts + (i - l.texts) ≡ i = omega arith in
            let read : (xs : List ℕ) → word xs i ≡ get_or (drop l.texts (take l.work xs)) (i - l.texts) 0 = λ xs. sym (get_or-drop l.texts (take l.work xs) (i - l.texts) 0 ∙ ap (λ j. get_or (take l.work xs) j 0) g ∙ get_or-take l.work xs i 0 y) in
            read us ∙ ap (λ xs. get_or xs (i - l.texts) 0) same ∙ sym (read vs)

        texts_same : texts_in l us ≡ texts_in l ws
        texts_same = cut us ∙ ap (take (l.index - l.texts)) same ∙ sym (cut vs) ∙ tabling_texts
          where
            cut : (xs : List ℕ) → texts_in l xs ≡ take (l.index - l.texts) (drop l.texts (take l.work xs))
            cut xs = sym (cut_in xs l.work l.texts (l.index - l.texts) (omega (arith, o.slot, o.table)))

        tabled : (j : ℕ) (f : File) → slice_get p j ≡ Some f → FileTabled p us l.index j f
        tabled j f q =
            let lt = slice_get_within p j f q in
            let d = t.done j f (omega arith) q in
            let e = t.ends in
            let i0 = t.within in
            let s0 = o.slot in
            let lo = d.low in
            let hi = d.high in
            let hu = high in
            stands_tabled p l (texts_in l ws) us texts_same j d.from d.end f (stands_at p l (texts_in l ws) vs us j d.from d.end f (omega arith) (omega arith) (λ i x y. agrees i (omega arith) (omega arith)) (λ i x y. agrees i (omega arith) (omega arith)) d.stands)

-- the row cut off behind the table is one of those
pub collected_cut : (p : Texts) (l : Layout) (ws : List ℕ) → length ws < 4294967296 → Collected p l ws → Tabled p (take l.work ws) l.index
collected_cut p l ws h c = c (take l.work ws) (omega (arith, length-take l.work ws)) (ap (drop l.texts) (take-take l.work l.work ws (omega arith)))
