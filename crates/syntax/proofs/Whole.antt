-- From how a line begins and what was read behind its first word to what the line is.
use Rattle.std.proofs.Common.{◌≡◌, ℕ, zero, suc, ◌≤◌, Bool, true, false, List, [], ◌∷◌, ◌++◌, length, take, Ok, Err, Result, sym, refl, ap, ◌∙◌, subst, arith}
use Rattle.base.specs.Base.{pick, Word, same}
use Rattle.lexer.specs.Tokens.{Tok, left, piece, next, end_of}
use Rattle.lexer.specs.Words.{k_use, k_kind, k_rec, k_def, is_name, is_type, t_gets, t_lp, t_rp}
use Rattle.lexer.specs.Kinds.{token_of}
use Rattle.lexer.specs.Seen.{SeenSays, NextAt, NoneAt, Stands, StandsIf, is_end}
use Rattle.lexer.specs.declared.reader.Seen.{Seen}
use Rattle.lexer.specs.declared.token.Token.{Token}
use Rattle.lexer.specs.declared.token.Token.TheVariants.{Use, Kind, Rec, Def, End}
use Rattle.lexer.proofs.Facts.{facts, is_use, is_kind, is_rec, is_def}
use Rattle.grammar.specs.Grammar.{Item, nothing, i_use, i_kind, i_rec, i_def, Got, it, bad, with1, eat, a_word, ended, settled, item_of}
use Rattle.grammar.specs.Code.{Op, item_code}
use Rattle.grammar.proofs.Free.{an_expr}
use Rattle.grammar.proofs.Items.{an_item, a_names, a_list, a_params, item_free}
use Rattle.lexer.specs.Theorems.{Rising}
use Rattle.lexer.proofs.Rises.{pieces_rise}
use Rattle.parser.specs.declared.parse.Wrong.{Wrong}
use Rattle.parser.proofs.Words.{ops_none}
use Rattle.syntax.specs.Reads.{coded, item_ops, use_ops, block_ops, def_ops, Does}
use Rattle.syntax.specs.Line.{Understood, ItemRead}
use Rattle.syntax.specs.declared.reading.Reading.{Reading}
use Rattle.syntax.specs.declared.lists.Listed.TheVariants.{Names, Fields}
use Rattle.syntax.proofs.Coded.{item_coded}

-- what is read is never an item that isn't understood
abbrev Fine : Got Item → Type 0
Fine (it i us) = Understood i
Fine (bad us) = Unit {0}

fine_with : {A : Type 0} (g : Got A) (f : A → List Tok → Got Item) → ((a : A) (us : List Tok) → Fine (f a us)) → Fine (with1 g f)
fine_with (it a us) f h = h a us
fine_with (bad us) f h = tt

fine_pick : (b : Bool) (x y : Got Item) → Fine x → Fine y → Fine (pick b x y)
fine_pick true x y p q = p
fine_pick false x y p q = q

fine_eat : (w : Word) (ts : List Tok) (f : Tok → List Tok → Got Item) → ((t : Tok) (us : List Tok) → Fine (f t us)) → Fine (eat w ts f)
fine_eat w [] f h = tt
fine_eat w (t ∷ ts) f h = fine_pick (same t.w w) (f t ts) (bad (t ∷ ts)) (h t ts) tt

fine_ended : (i : Item) (us : List Tok) → Understood i → Fine (ended i us)
fine_ended i [] h = h
fine_ended i (t ∷ ts) h = tt

fine_item : (t : Tok) (ts : List Tok) → Fine (an_item t ts)
fine_item t ts =
    fine_pick (same t.w k_use) _ _ (fine_with (a_word is_name ts) _ (λ x us. fine_ended (i_use x) us tt)) (
    fine_pick (same t.w k_kind) _ _ (fine_with (a_word is_name ts) _ (λ x us. fine_eat t_gets us _ (λ g vs. fine_with (a_names vs) _ (λ xs ys. fine_ended (i_kind x xs) ys tt)))) (
    fine_pick (same t.w k_rec) _ _ (fine_with (a_word is_name ts) _ (λ x us. fine_eat t_gets us _ (λ g vs. fine_with (a_list vs) _ (λ fs ys. fine_ended (i_rec x fs) ys tt)))) (
    fine_pick (same t.w k_def) _ _ (fine_with (a_word is_name ts) _ (λ x us. fine_eat t_lp us _ (λ l vs. fine_with (a_params vs) _ (λ ps xs. fine_eat t_rp xs _ (λ r ys. fine_with (a_word is_type ys) _ (λ y zs. fine_eat t_gets zs _ (λ g rs. fine_with (an_expr rs) _ (λ e qs. fine_ended (i_def x ps y e) qs tt))))))))
    tt)))

reads_well : (t : Tok) (ts us : List Tok) (os : List Op) → item_ops t ts ≡ it os us → Understood (item_of (t ∷ ts)) × (os ≡ item_code (item_of (t ∷ ts)))
reads_well t ts us os e = go (an_item t ts) refl (item_coded t ts ∙ e) (fine_item t ts)
  where
    go : (g : Got Item) → an_item t ts ≡ g → coded g ≡ it os us → Fine g → Understood (item_of (t ∷ ts)) × (os ≡ item_code (item_of (t ∷ ts)))
    go (it i vs) p q f =
        let x : item_of (t ∷ ts) ≡ i = item_free t ts ∙ ap (settled (t ∷ ts)) p in
        let y : os ≡ item_code i = cc in
        (subst Understood (sym x) f, y ∙ ap item_code (sym x))
    go (bad vs) p q f = let x : zero ≡ suc zero = cc in absurd (omega arith)

reads_badly : (t : Tok) (ts vs : List Tok) → item_ops t ts ≡ bad vs → item_of (t ∷ ts) ≡ settled (t ∷ ts) (bad vs)
reads_badly t ts vs e = go (an_item t ts) refl (item_coded t ts ∙ e)
  where
    go : (g : Got Item) → an_item t ts ≡ g → coded g ≡ bad vs → item_of (t ∷ ts) ≡ settled (t ∷ ts) (bad vs)
    go (it i us) p q = cc
    go (bad us) p q = let y : us ≡ vs = cc in item_free t ts ∙ ap (settled (t ∷ ts)) (p ∙ ap bad y)

-- the items by how the line begins
abbrev pub by_token : Token → Tok → List Tok → Got (List Op)
by_token Use t ts = use_ops ts
by_token Kind t ts = block_ops Names ts
by_token Rec t ts = block_ops Fields ts
by_token Def t ts = def_ops ts
by_token _ t ts = bad (t ∷ ts)

chosen : (k : Token) (t : Tok) (ts : List Tok) → pick (is_use k) (use_ops ts) (pick (is_kind k) (block_ops Names ts) (pick (is_rec k) (block_ops Fields ts) (pick (is_def k) (def_ops ts) (bad (t ∷ ts))))) ≡ by_token k t ts
chosen Use t ts = refl
chosen Kind t ts = refl
chosen Rec t ts = refl
chosen Def t ts = refl
chosen _ t ts = refl

item_by : (t : Tok) (ts : List Tok) (k : Token) → token_of t.w ≡ k → item_ops t ts ≡ by_token k t ts
item_by t ts k e =
    let f = facts t.w in
    (λ i. pick (f.use_is i) (use_ops ts) (pick (f.kind_is i) (block_ops Names ts) (pick (f.rec_is i) (block_ops Fields ts) (pick (f.def_is i) (def_ops ts) (bad (t ∷ ts)))))) ∙ chosen (token_of t.w) t ts ∙ ap (λ k. by_token k t ts) e

other : (k : Token) → (k ≡ End → ⊥) → (k ≡ Use → ⊥) → (k ≡ Kind → ⊥) → (k ≡ Rec → ⊥) → (k ≡ Def → ⊥) → (is_end k ≡ false) × ((t : Tok) (ts : List Tok) → by_token k t ts ≡ bad (t ∷ ts))
other End a b c d e = absurd (a refl)
other Use a b c d e = absurd (b refl)
other Kind a b c d e = absurd (c refl)
other Rec a b c d e = absurd (d refl)
other Def a b c d e = absurd (e refl)
other _ a b c d e = (refl, λ t ts. refl)

-- what is seen first of a line
module _ (line : List ℕ) (s : Seen) (h : SeenSays line 0 s) where
  pub no_item : s.token ≡ End → item_of (left line 0) ≡ nothing
  no_item e = let n : NoneAt line 0 s.from s.to = subst (λ t. Stands t line 0 s.from s.to) e h.place in ap item_of n.reads

  module _ (k : Token) (e : s.token ≡ k) (n : is_end k ≡ false) where
    abbrev t : Tok
    t = piece line s.from s.to

    reads : left line 0 ≡ t ∷ left line s.to
    reads = let n : NextAt line 0 s.from s.to = subst (λ b. StandsIf b line 0 s.from s.to) (ap is_end e ∙ n) h.place in n.reads

    word_is : token_of t.w ≡ k
    word_is = sym (h.token ∙ ap (λ ts. token_of (next ts)) reads) ∙ e

    item_well : (os : List Op) (us : List Tok) → by_token k t (left line s.to) ≡ it os us → Understood (item_of (left line 0)) × (os ≡ item_code (item_of (left line 0)))
    item_well os us p = subst (λ ts. Understood (item_of ts) × (os ≡ item_code (item_of ts))) (sym reads) (reads_well t (left line s.to) us os (item_by t (left line s.to) k word_is ∙ p))

    item_badly : (vs : List Tok) → by_token k t (left line s.to) ≡ bad vs → item_of (left line 0) ≡ settled (left line 0) (bad vs)
    item_badly vs p = subst (λ ts. item_of ts ≡ settled ts (bad vs)) (sym reads) (reads_badly t (left line s.to) vs (item_by t (left line s.to) k word_is ∙ p))

  pub item_other : (s.token ≡ End → ⊥) → (s.token ≡ Use → ⊥) → (s.token ≡ Kind → ⊥) → (s.token ≡ Rec → ⊥) → (s.token ≡ Def → ⊥) → item_of (left line 0) ≡ settled (left line 0) (bad (left line 0))
  item_other a b c d e =
      let o = other s.token a b c d e in
      let us = t s.token refl o.0 ∷ left line s.to in
      item_badly s.token refl o.0 us (o.1 (t s.token refl o.0) (left line s.to)) ∙ ap (λ ts. settled (left line 0) (bad ts)) (sym (reads s.token refl o.0))

-- the item behind its first word
pub item_read : (len base : ℕ) (ws : List ℕ) (s : Seen) (h : SeenSays (take len ws) 0 s) (k : Token) (e : s.token ≡ k) (n : is_end k ≡ false) (vs : List ℕ) (a : Result Reading Wrong) → base ≤ length ws →
    Does (record { len = len; base = base; at = s.to; count = 0 }) ws vs (λ line. by_token k (piece line s.from s.to)) a → ItemRead (take len ws) base vs a
item_read len base ws s h k e n vs (Ok q) l d =
    let line = take len ws in
    let g = d.reads in
    let x = item_well line s h k e n g.done (left line q.at) g.reads in
    (x.0, g.stands ∙ ap (λ l. l ++ g.done) (ops_none line base ws l) ∙ x.1)
item_read len base ws s h k e n vs (Err w) l d = item_badly (take len ws) s h k e n (left (take len ws) w.at) d.reads

-- a line's last piece ends within it
ends_within : (line : List ℕ) (at : ℕ) (ts : List Tok) → Rising line at ts → end_of ts ≤ length line
ends_within line at [] r = omega arith
ends_within line at (t ∷ []) r = r.0.within
ends_within line at (t ∷ u ∷ ts) r = ends_within line t.to (u ∷ ts) r.1

pub end_within : (line : List ℕ) → end_of (left line 0) ≤ length line
end_within line = ends_within line 0 (left line 0) (at_start line)
  where
    at_start : (line : List ℕ) → Rising line 0 (left line 0)
    at_start [] = pieces_rise []
    at_start (x ∷ xs) = pieces_rise (x ∷ xs)
